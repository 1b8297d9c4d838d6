-- The centre of a node's block in half pixels, as the code has it.
use Rattle.std.specs.Prelude.{List, ℕ, ◌+◌, ◌*◌, ◌^◌}
use Rattle.table.specs.Nodes.{centre_across, centre_down}
use Rattle.ground.specs.declared.Middle.{Middle}

-- the middle of the block with index i among those of level l, along one axis and in half pixels: 2 · its start + its
-- side
abbrev pub half_pixels : ℕ → ℕ → ℕ
half_pixels i l = 2 * (i * 2 ^ l) + 2 ^ l

-- the centre of node p's block
unfoldable pub middle_of : ℕ → List ℕ → ℕ → Middle
middle_of n T p = record { h = centre_across n T p; k = centre_down n T p }
