-- A node's block as the code has it.
use Rattle.std.specs.Prelude.{List, ℕ}
use Rattle.quad.specs.Block.{column, row}
use Rattle.table.specs.declared.Block.{Block}
use Rattle.table.specs.Nodes.{level_of, path_to}

-- the block of node p on a sheet of level n: its column and row among the blocks of its level
unfoldable pub block_of : ℕ → List ℕ → ℕ → Block
block_of n T p = record { column = column (path_to T n p); row = row (path_to T n p); level = level_of n T p }
