-- How many words lead on from a leaf: fewer than there are places, since each leads to an earlier one.
use mathlib.Core.Bool.{cond}
use mathlib.Core.List.{List}
use mathlib.Core.Logic.{⊎_elim}
use mathlib.Core.Path.{◌≡◌, ap}
use Prim.Native.Nat.{ℕ, zero, suc, ◌*◌, ◌≤◌, ◌<◌}
use native.Mathlib.Omega.{arith}
use lib.Dec.{ltb}
use borrow.Author.Tests.{lt-ltb, le-ltb}
use Rattle.base.proofs.BoolLaws.{lt_or_ge}
use Rattle.ponds.specs.Words.{word_of}
use Rattle.ponds_sets.specs.Sets.{leading, place_of, Placed, Sets, Asking}
use Rattle.ponds_sets.specs.Lines.{across}
use Rattle.ponds_sets.proofs.PlaceLaws.{own_pixel, has_across}
use Rattle.ponds_join.proofs.JoinLaws.{OnWay, placed_here}

-- at most k of them
unfoldable pub steps : List ℕ → ℕ → ℕ → ℕ
steps W zero q = 0
steps W (suc k) q = cond (ltb (word_of W q) leading) (suc (steps W k (word_of W q))) 0

-- no leaf has so high a place
abbrev pub places : ℕ
places = across * across

module _ {n : ℕ} {T W : List ℕ} {lead : ℕ → ℕ} (s : Sets n T W lead) where
  -- as many as the leaf's place are enough
  enough : (k q : ℕ) → Placed T W q → place_of n T q ≤ k → steps W (suc k) q ≡ steps W k q
  unfolding steps
  enough zero q h le =
      ⊎_elim
      (λ (l : word_of W q < leading). absurd (omega (arith, (s.on q h l).2, le)))
      (λ (g : leading ≤ word_of W q). rw (le-ltb (word_of W q) leading g))
      (lt_or_ge (word_of W q) leading)
  enough (suc k) q h le =
      ⊎_elim
      (λ (l : word_of W q < leading).
      let o = s.on q h l in
      rw (lt-ltb (word_of W q) leading l) (ap suc (enough k (word_of W q) o.0 (omega (arith, o.2, le)))))
      (λ (g : leading ≤ word_of W q). rw (le-ltb (word_of W q) leading g))
      (lt_or_ge (word_of W q) leading)

  pub place_below : (q : ℕ) → Placed T W q → place_of n T q < places
  unfolding place_of
  place_below q h = let m = has_across s.accepted (own_pixel q h.water.node) in omega (arith, m.0, m.1)

  fewer : (k q : ℕ) → Placed T W q → word_of W q < leading → place_of n T (word_of W q) ≤ k → steps W (suc k) (word_of W q) < steps W (suc k) q
  fewer k q h l le =
      let one : steps W (suc k) q ≡ suc (steps W k (word_of W q)) = unfold steps in rw (lt-ltb (word_of W q) leading l) in
      omega (arith, one, enough k (word_of W q) (s.on q h l).0 le)

pub way_fewer : {W : List ℕ} {p q w : ℕ} → Asking W p → OnWay W p q w → w < leading → steps W (suc places) w < steps W (suc places) q
way_fewer {W} {p} {q} {w} a o l =
    let h = placed_here a o in
    let m : word_of W q < leading = rw o.word at l in
    rw o.word (fewer a.sets places q h m (omega (arith, place_below a.sets (word_of W q) (a.sets.on q h m).0)))
