-- A block's centre on the ground (document 01, 'Ground'; its origin by document 02, No. 2), as IEEE 754 operations,
-- each rounded once.
use Rattle.std.specs.Prelude.{Ok, Err, Bool, not, cond, ◌&&◌, List, [], ◌∷◌, ℕ, pos, length, Float}
use Rattle.std.specs.Float.Ieee as Ieee
use Rattle.std.specs.Float.{binary64}
use Rattle.base.specs.Tab.{overlay}
use Rattle.answer.specs.declared.Refusal.TheVariants.{OutOfRange}
use Rattle.answer.specs.Numbers.{Outcome, and_then, unless, room, answers}
use Rattle.table.specs.Rules.{asked_of}
use Rattle.table.specs.Nodes.{centre_across, centre_down}
use Rattle.ground.specs.declared.Ground.{Ground}

-- a whole number as a float
abbrev pub whole : ℕ → Float
whole n = Ieee.of_int binary64 (pos n)

-- low ≤ x ≤ high; never of a NaN
unfoldable pub within : Float → Float → Float → Bool
within low high x = Ieee.le low x && Ieee.le x high

-- the ends of the ranges
unfoldable pub far : Float
far = whole 16777216

unfoldable pub finest : Float
finest = Ieee.div binary64 (whole 1) (whole 1024)

unfoldable pub coarsest : Float
coarsest = whole 16384

unfoldable pub unit : Float
unit = whole 1

unfoldable pub two : Float
two = whole 2

-- code 11 with the first number that is out of range: 0 east, 1 north, 2 step
unfoldable pub range_of : Ground → Outcome
range_of g =
    and_then (unless (not (within (Ieee.neg far) far g.east)) (Err (OutOfRange 0)))
    (and_then (unless (not (within (Ieee.neg far) far g.north)) (Err (OutOfRange 1)))
    (unless (not (within finest coarsest g.step)) (Err (OutOfRange 2))))

-- how many pixels from the origin, along one axis, a place h half pixels from the sheet's edge lies: (h - 1) / 2,
-- since the origin is the centre of the top left pixel, one half pixel from the edge
unfoldable pub offset : ℕ → Float
offset h = Ieee.div binary64 (Ieee.sub binary64 (whole h) unit) two

-- that offset in ground units: ((h - 1) / 2) · step
unfoldable pub reach_of : Ground → ℕ → Float
reach_of g h = Ieee.mul binary64 (offset h) g.step

-- where the centre (h, k) lies: east + ((h - 1) / 2) · step, north - ((k - 1) / 2) · step
unfoldable pub east_of : Ground → ℕ → Float
east_of g h = Ieee.add binary64 g.east (reach_of g h)

unfoldable pub north_of : Ground → ℕ → Float
north_of g k = Ieee.sub binary64 g.north (reach_of g k)

-- the call: refusals 1, 2, 3, 4, 5, 6, 11, 9; `numbers` is the length of the slice that is lent
unfoldable pub centre_of : ℕ → List ℕ → ℕ → Ground → ℕ → Outcome
centre_of n T p g numbers = and_then (asked_of n T p) (and_then (range_of g) (and_then (room 2 numbers) (Ok 0)))

-- the slice as the call leaves it: east first, and the rest as it was
unfoldable pub centre_after : ℕ → List ℕ → ℕ → Ground → List Float → List Float
centre_after n T p g old =
    cond (answers (centre_of n T p g (length old))) (overlay (east_of g (centre_across n T p) ∷ north_of g (centre_down n T p) ∷ []) old) old
