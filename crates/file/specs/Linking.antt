-- Linking, the second pass: the words of the preorder table, written from a node on. Node p's record is record p of the
-- file.
use Rattle.std.specs.Prelude.{List, ◌≡◌, ℕ, ◌+◌, ◌*◌, ◌≤◌}
use Rattle.std.proofs.lemmas.List.Edits.{sets}
use Rattle.quad.specs.Numbers.{max_words}
use Rattle.quad.specs.Tree.{Tree, leaf, size_of}
use Rattle.table.specs.Preorder.{preorder}
use Rattle.file.specs.File.{Got, got, bad, block_at}

-- where node p's record starts
abbrev pub record_place : ℕ → ℕ
record_place p = 5 + 3 * p

-- the tree of a block that was read
abbrev pub tree_in : Got → Tree
tree_in (got at t) = t
tree_in (bad o) = leaf 0

-- a block of level l was read at node p's record, and its nodes have room in a table of so many words
pub record Ready (s : List ℕ) (l p words : ℕ) : Type 0 where
  pub tree : Tree
  pub is : block_at s l (record_place p) ≡ got (record_place (p + size_of tree)) tree
  pub room : 6 * (p + size_of tree) ≤ words
  pub few : p + size_of tree ≤ max_words

-- the tree t, its root node p with father f, was written over the words `before`, and r is the next node
pub record Linked (t : Tree) (f p : ℕ) (before after : List ℕ) (r : ℕ) : Type 0 where
  pub next : r ≡ p + size_of t
  pub words : after ≡ sets before (6 * p) (preorder f p t)
