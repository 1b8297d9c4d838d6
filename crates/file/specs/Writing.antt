-- Writing, one function at a time: a node's block of records, written from a place on.
use Rattle.std.specs.Prelude.{true, List, [], ◌++◌, ◌≡◌, ℕ, zero, suc, ◌+◌, ◌-◌, ◌*◌, ◌≤◌, length}
use Rattle.std.proofs.lemmas.List.Edits.{sets}
use Rattle.quad.specs.Tree.{Tree, size_of, types_of}
use Rattle.table.specs.Table.{son, is_fork}
use Rattle.table.specs.Rules.{AtLevel}
use Rattle.table.specs.Nodes.{tree_at}
use Rattle.file.specs.File.{records}

-- node p of an accepted table has level l, and its block has room from a place on in a file of so many bytes
pub record Writable (T : List ℕ) (l p at bytes : ℕ) : Type 0 where
  pub n : ℕ
  pub place : AtLevel n T p l
  pub room : at + 3 * size_of (tree_at T l p) ≤ bytes

-- fork p of an accepted table has level 1, so its sons are pixels
pub record OverPixels (T : List ℕ) (p : ℕ) : Type 0 where
  pub n : ℕ
  pub place : AtLevel n T p 1
  pub over : is_fork T p ≡ true

-- the block of tree t was written over the bytes `before` from a place on, and r is the place after it
pub record Wrote (t : Tree) (at : ℕ) (before after : List ℕ) (r : ℕ) : Type 0 where
  pub next : r ≡ at + 3 * size_of t
  pub bytes : after ≡ sets before at (records (types_of t))

-- the tree of son q of a fork at level l, and the types of the sons before son q
unfoldable pub son_tree : List ℕ → ℕ → ℕ → ℕ → Tree
son_tree T l p q = tree_at T (l - 1) (son T p q)

unfoldable pub types_to : List ℕ → ℕ → ℕ → ℕ → List ℕ
types_to T l p zero = []
types_to T l p (suc q) = types_to T l p q ++ types_of (son_tree T l p q)

-- the blocks of the sons before son q were written from a place on, and r is the place after them
pub record SonsWrote (T : List ℕ) (l p q at : ℕ) (before after : List ℕ) (r : ℕ) : Type 0 where
  pub next : r ≡ at + 3 * length (types_to T l p q)
  pub bytes : after ≡ sets before at (records (types_to T l p q))
