-- How a tree is written into a table: its preorder words, from a node on.
use Rattle.std.specs.Prelude.{List, [], ◌∷◌, ◌≡◌, ℕ, ◌+◌, ◌*◌, ◌≤◌}
use Rattle.std.proofs.lemmas.List.Edits.{sets}
use Rattle.quad.specs.Numbers.{max_words, none}
use Rattle.quad.specs.Tree.{Tree, size_of}
use Rattle.table.specs.Preorder.{preorder}

-- the six words of a node
abbrev pub node_words : ℕ → ℕ → ℕ → ℕ → ℕ → ℕ → List ℕ
node_words f nw ne sw se k = f ∷ nw ∷ ne ∷ sw ∷ se ∷ k ∷ []

-- those of a leaf
abbrev pub leaf_words : ℕ → ℕ → List ℕ
leaf_words f k = node_words f none none none none k

-- the tree t may be written from node p on: a table of so many words has room for it, and its node numbers are few
pub record Ready (t : Tree) (p words : ℕ) : Type 0 where
  pub room : 6 * (p + size_of t) ≤ words
  pub few : p + size_of t ≤ max_words

-- it was written, its root node p with father f, and r is the next node
pub record Put (t : Tree) (f p : ℕ) (before after : List ℕ) (r : ℕ) : Type 0 where
  pub next : r ≡ p + size_of t
  pub words : after ≡ sets before (6 * p) (preorder f p t)
