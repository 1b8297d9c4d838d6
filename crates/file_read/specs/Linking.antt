-- Linking, said of the tree that a block holds: what the second pass's laws speak of.
use Rattle.std.specs.Prelude.{List, ◌≡◌, ℕ, ◌+◌, get_or}
use Rattle.quad.specs.Numbers.{fork_type}
use Rattle.quad.specs.Tree.{Tree, size_of}
use Rattle.table.specs.Writing.{Ready, Put}
use Rattle.file.specs.File.{got, block_at}
use Rattle.file.specs.Linking.{record_place, tree_in}

-- the tree of the block of level l that node p's record begins
abbrev pub tree_on : List ℕ → ℕ → ℕ → Tree
tree_on s l p = tree_in (block_at s l (record_place p))

-- a block of level l was read at node p's record, and its tree may be written from node p on, in a table of so many
-- words
pub record BlockToLink (s : List ℕ) (l p words : ℕ) : Type 0 where
  pub read : block_at s l (record_place p) ≡ got (record_place (p + size_of (tree_on s l p))) (tree_on s l p)
  pub ready : Ready (tree_on s l p) p words

-- and by its type byte it is a fork
pub record ForkToLink (s : List ℕ) (l p words : ℕ) : Type 0 where
  pub block : BlockToLink s l p words
  pub fork : get_or s (record_place p + 2) 0 ≡ fork_type

-- the block's tree was written, its root node p with father f, and r is the next node
abbrev pub BlockLinked : List ℕ → ℕ → ℕ → ℕ → List ℕ → List ℕ → ℕ → Type 0
BlockLinked s l f p before after r = Put (tree_on s l p) f p before after r
