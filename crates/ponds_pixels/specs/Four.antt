-- The four pixels of a fork of level 1 by their numbers, 0 for one that has none.
use Rattle.std.specs.Prelude.{Bool, List, cond, get_or, ℕ, ◌+◌, ◌-◌, ◌*◌, min, max, eqb}
use Rattle.ponds.specs.declared.Pond.{Pond}

-- 1 for a pixel that has a number, 0 for one that has none
unfoldable pub present_of : ℕ → ℕ
present_of number = cond (eqb number 0) 0 1

-- 1 where one of two pixels has a number, else 0
unfoldable pub either_of : ℕ → ℕ → ℕ
either_of a b = cond (eqb a 0) (present_of b) 1

-- how many of four pixels have a number
abbrev pub many_of : ℕ → ℕ → ℕ → ℕ → ℕ
many_of nw ne sw se = present_of nw + present_of ne + present_of sw + present_of se

-- whether those that have a number all have this one, which is their greatest
unfoldable pub alike_of : ℕ → ℕ → ℕ → ℕ → ℕ → Bool
alike_of number nw ne sw se = eqb (number * many_of nw ne sw se) (nw + ne + sw + se)

-- an entry and those pixels that have a number, of the four of a fork in that column and row: the first row is the
-- upper one where it has one of them
unfoldable pub grown_four : Pond → ℕ → ℕ → ℕ → ℕ → ℕ → ℕ → Pond
grown_four e column row nw ne sw se = record {
  pixels = e.pixels + many_of nw ne sw se;
  top = min e.top (2 * row + 1 - either_of nw ne);
  bottom = max e.bottom (2 * row + either_of sw se);
  left = min e.left (2 * column + 1 - either_of nw sw);
  right = max e.right (2 * column + either_of ne se);
}

-- what is said of four numbers, said of a list of them: NW, NE, SW, SE
abbrev pub of_four : {A : Type 0} → (ℕ → ℕ → ℕ → ℕ → A) → List ℕ → A
of_four f four = f (get_or four 0 0) (get_or four 1 0) (get_or four 2 0) (get_or four 3 0)
