-- Directions and sides (document 01, 'Directions and neighbours'): 0 N, 1 E, 2 S, 3 W, 4 NW, 5 NE, 6 SW, 7 SE.
-- Quadrants: 0 NW, 1 NE, 2 SW, 3 SE, so q % 2 says east and q / 2 says south, and the sides N and S are even. Document
-- 000's four tables as rules on these (its section 2).
use Rattle.std.specs.Prelude.{Bool, cond, ◌&&◌, [], ◌∷◌, ℕ, ◌+◌, ◌-◌, ◌*◌, ◌/◌, ◌%◌, leb, ltb, eqb, get_or}

-- one more than the step that a direction takes to the east, and to the south: 0 back, 1 stay, 2 forth. A number from 8
-- on is no direction and stays, on which `neighbour`'s `stay` rests
unfoldable pub east_step : ℕ → ℕ
east_step D = get_or (1 ∷ 2 ∷ 1 ∷ 0 ∷ 0 ∷ 2 ∷ 0 ∷ 2 ∷ []) D 1

unfoldable pub south_step : ℕ → ℕ
south_step D = get_or (0 ∷ 1 ∷ 2 ∷ 1 ∷ 0 ∷ 0 ∷ 2 ∷ 2 ∷ []) D 1

-- a column or row that is moved by step - 1 stays among the first `side`
abbrev pub stays : ℕ → ℕ → ℕ → Bool
stays side x step = ltb 0 (x + step) && leb (x + step) side

-- the direction in which quadrant C lies from the middle: the diagonal call's
abbrev pub diagonal : ℕ → ℕ
diagonal C = 4 + C

-- ADJ(B, I): quadrant I is adjacent to boundary B of the node's block. It means something for sides 0 to 3 only, and so
-- does REFLECT
abbrev pub adj_of : ℕ → ℕ → Bool
adj_of d q = cond (eqb (d % 2) 0) (eqb (q / 2) (d / 2)) (eqb (q % 2) (1 - d / 2))

-- REFLECT(B, I): the quadrant that the block of equal size adjacent to side B of a quadrant I is
abbrev pub reflect_of : ℕ → ℕ → ℕ
reflect_of d q = cond (eqb (d % 2) 0) (q % 2 + 2 * (1 - q / 2)) (1 - q % 2 + 2 * (q / 2))

-- OPQUAD(Q): the quadrant that shares no block boundary with Q, which is the one across both axes
abbrev pub opquad_of : ℕ → ℕ
opquad_of q = 1 - q % 2 + 2 * (1 - q / 2)

-- stands for an undefined entry of COMMONSIDE: it is no side
abbrev pub no_side : ℕ
no_side = 4

-- the first side, of 0 to 3, for which a test holds
abbrev pub first_side : (ℕ → Bool) → ℕ
first_side f = cond (f 0) 0 (cond (f 1) 1 (cond (f 2) 2 (cond (f 3) 3 no_side)))

-- COMMONSIDE(Q1, Q2): the boundary of the block that is common to the two quadrants; undefined where they are the same,
-- or not adjacent
abbrev pub common_side_of : ℕ → ℕ → ℕ
common_side_of p q = cond (eqb p q) no_side (first_side (λ d. adj_of d p && adj_of d q))
