-- One turn of the search. Under a quarter that begins farther on along one axis, by its own side, that axis alone tells
-- the offsets: so each quarter of a fork is searched from one offset, in the direction that is left. And once the best
-- is no more than where a quarter begins, the rest is passed over.
use mathlib.Core.Bool.{true, false}
use mathlib.Core.List.{List}
use mathlib.Core.Logic.{⊎_elim}
use mathlib.Core.Path.{◌≡◌, refl, ap, sym, ◌∙◌}
use Prim.Native.Nat.{ℕ, suc, ◌+◌, ◌-◌, ◌*◌, ◌^◌, ◌≤◌, ◌<◌, min}
use native.Mathlib.Nat.{le_trans, le_antisymm, min-eq_left}
use native.Mathlib.Omega.{arith}
use lib.Dec.{eqb, ltb}
use borrow.Author.Tests.{eqb-true}
use Rattle.base.specs.Tab.{least}
use Rattle.base.proofs.CaseLaws.{cond_case}
use Rattle.quad.specs.Numbers.{none}
use Rattle.quad.specs.Direction.{east_step, south_step}
use Rattle.table.specs.Table.{son, is_fork}
use Rattle.neighbour.specs.Search.{stay}
use Rattle.table.proofs.AcceptedLaws.{fork_above}
use Rattle.distance_seek.specs.Search.{near_half, near_quarter, next_quarter, next_edge, NextWay, OtherWay, offset_under, offset_in, offset_from, Spot}
use Rattle.distance_seek.proofs.SearchLaws.{near_half_lt, near_next, offset_fork, offset_bound, four_quarters, halves, spot_son}
use Rattle.distance_seek.proofs.OffsetLaws.{pixel_offset, offset_lt, reach, offset_le, Reached, offset_hit}
use Rattle.distance_seek.proofs.NearestFirst.{stride, quarter_bound, Edges, edges_bound, at_near, at_across, at_down, at_far, nearest_first}
use Rattle.distance_seek.proofs.WayLaws.{Goes, upright, level, slanting, goes}

-- the least offset is no more where each pixel's is no more
module _ (T : List ℕ) (l p : ℕ) where
  under_le : (e s a b e' s' a' b' : ℕ) → a + 2 ^ l ≤ none → b + 2 ^ l ≤ none
      → ((x y : ℕ) → reach T e s l a b x y ≤ reach T e' s' l a' b' x y) → offset_under T e s l p a b ≤ offset_under T e' s' l p a' b'
  under_le e s a b e' s' a' b' ha hb h =
      let top : offset_under T e s l p a b ≤ none =
      ⊎_elim (λ (n : offset_under T e s l p a b ≡ none). omega arith)
      (λ (r : Reached T e s l p a b 0 0 (offset_under T e s l p a b)). omega (arith, r.far, offset_lt e l r.x, offset_lt s l r.y))
      (offset_hit T e s l p a b 0 0) in
      ⊎_elim (λ (n : offset_under T e' s' l p a' b' ≡ none). rw n top)
      (λ (r : Reached T e' s' l p a' b' 0 0 (offset_under T e' s' l p a' b')).
      rw r.far at (le_trans (offset_le T e s l p a b r.x r.y r.colour) (h r.x r.y)))
      (offset_hit T e' s' l p a' b' 0 0)

  -- the axis along which the block begins farther on by its side tells the offsets
  module _ (e s at : ℕ) (room : at + 2 * 2 ^ l ≤ none) where
    abbrev far : ℕ
    far = at + 2 ^ l

    none_over : (x : ℕ) → pixel_offset 1 l x ≡ 0
    unfolding pixel_offset
    none_over x = refl

    down_tells : offset_under T e s l p at far ≡ offset_under T 1 s l p far far
    down_tells =
        le_antisymm
        (under_le e s at far 1 s far far (omega arith) (omega arith) (λ x y. omega (arith, offset_lt e l x, none_over x)))
        (under_le 1 s far far e s at far (omega arith) (omega arith) (λ x y. omega (arith, offset_lt e l x, none_over x)))

    across_tells : offset_under T e s l p far at ≡ offset_under T e 1 l p far far
    across_tells =
        le_antisymm
        (under_le e s far at e 1 far far (omega arith) (omega arith) (λ x y. omega (arith, offset_lt s l y, none_over y)))
        (under_le e 1 far far e s far at (omega arith) (omega arith) (λ x y. omega (arith, offset_lt s l y, none_over y)))

-- the next quarter lies across or down
module _ (east south : ℕ) where
  next_across : eqb east 1 ≡ true → next_quarter east south ≡ 1 - near_half east + 2 * near_half south
  unfolding next_quarter
  next_across h = rw (next_quarter, h)

  next_down : eqb east 1 ≡ false → next_quarter east south ≡ near_half east + 2 * (1 - near_half south)
  unfolding next_quarter
  next_down h = rw (next_quarter, h)

  near_is : near_quarter east south ≡ near_half east + 2 * near_half south
  unfolding near_quarter
  near_is = refl

-- each quarter of a fork p is searched from one offset
module _ (T : List ℕ) (D m p at : ℕ) (d : D < stay) (room : at + 2 * 2 ^ m ≤ none) where
  abbrev e : ℕ
  e = east_step D

  abbrev s : ℕ
  s = south_step D

  abbrev w : ℕ
  w = 2 ^ m

  abbrev near : ℕ
  near = near_quarter e s

  abbrev next : ℕ
  next = next_quarter e s

  abbrev quarter : ℕ → ℕ
  quarter = offset_in T e s m p at at

  -- no farther on along an axis on which the step stays, else by the side
  stays : (step : ℕ) → eqb step 1 ≡ true → at + stride step w ≡ at
  stays step h = rw h (omega arith)

  moves : (step : ℕ) → eqb step 1 ≡ false → at + stride step w ≡ at + w
  moves step h = rw h

  edges_at : (q a b a' b' : ℕ) → a ≡ a' → b ≡ b' → Edges e s at w q a b → quarter q ≡ offset_under T e s m (son T p q) a' b'
  edges_at q a b a' b' ea eb h = rw (h.across, h.down, ea, eb)

  near_turn : quarter near ≡ offset_from T D m (son T p near) at
  near_turn = edges_at near at at at at refl refl (at_near e s at w near (near_is e s))

  next_turn : (way : ℕ) → NextWay D way → quarter next ≡ offset_from T way m (son T p next) (next_edge D at (at + w))
  next_turn way v = go (goes D d)
    where
      go : Goes D → quarter next ≡ offset_from T way m (son T p next) (next_edge D at (at + w))
      go (upright c he hs) = edges_at next _ _ at at (stays e he) refl (at_across e s at w next (next_across e s he)) ∙ rw (v.across, v.down, c)
      go (level c he hs) = edges_at next _ _ at at refl (stays s hs) (at_down e s at w next (next_down e s he)) ∙ rw (v.across, v.down, c)
      go (slanting c he hs) =
          edges_at next _ _ at (at + w) refl (moves s hs) (at_down e s at w next (next_down e s he)) ∙ down_tells T m (son T p next) e s at room
          ∙ rw (v.across, v.down, c)

  opposite_across : eqb e 1 ≡ false → 3 - next ≡ 1 - near_half e + 2 * near_half s
  opposite_across h = omega (arith, next_down e s h, near_half_lt e, near_half_lt s)

  opposite_down : eqb e 1 ≡ true → 3 - next ≡ near_half e + 2 * (1 - near_half s)
  opposite_down h = omega (arith, next_across e s h, near_half_lt e, near_half_lt s)

  upright_tells : (q : ℕ) → eqb e 1 ≡ true → offset_under T e s m q at (at + w) ≡ offset_under T e s m q (at + w) (at + w)
  upright_tells q h = down_tells T m q e s at room ∙ rw (eqb-true e 1 h)

  other_turn : (way : ℕ) → OtherWay D way → quarter (3 - next) ≡ offset_from T way m (son T p (3 - next)) (at + w)
  other_turn way v = go (goes D d)
    where
      across : eqb e 1 ≡ false → quarter (3 - next) ≡ offset_under T e 1 m (son T p (3 - next)) (at + w) (at + w)
      across he =
          edges_at (3 - next) _ _ (at + w) at (moves e he) refl (at_across e s at w (3 - next) (opposite_across he))
          ∙ across_tells T m (son T p (3 - next)) e s at room

      go : Goes D → quarter (3 - next) ≡ offset_from T way m (son T p (3 - next)) (at + w)
      go (upright c he hs) =
          edges_at (3 - next) _ _ at (at + w) refl (moves s hs) (at_down e s at w (3 - next) (opposite_down he)) ∙ upright_tells (son T p (3 - next)) he
          ∙ rw (v.across, v.down, c)
      go (level c he hs) = across he ∙ rw (v.across, v.down, c, eqb-true s 1 hs)
      go (slanting c he hs) = across he ∙ rw (v.across, v.down, c)

  last_turn : quarter (3 - near) ≡ offset_from T D m (son T p (3 - near)) (at + w)
  last_turn = go (goes D d)
    where
      far : Edges e s at w (3 - near) (at + stride e w) (at + stride s w)
      far = at_far e s at w (3 - near) (omega (arith, near_is e s, near_half_lt e, near_half_lt s))

      go : Goes D → quarter (3 - near) ≡ offset_from T D m (son T p (3 - near)) (at + w)
      go (upright c he hs) = edges_at (3 - near) _ _ at (at + w) (stays e he) (moves s hs) far ∙ upright_tells (son T p (3 - near)) he
      go (level c he hs) =
          edges_at (3 - near) _ _ (at + w) at (moves e he) (stays s hs) far ∙ across_tells T m (son T p (3 - near)) e s at room ∙ rw (eqb-true s 1 hs)
      go (slanting c he hs) = edges_at (3 - near) _ _ (at + w) (at + w) (moves e he) (moves s hs) far

  -- where they begin is their lower bound
  abbrev bound : ℕ → ℕ
  bound = quarter_bound e s at w

  bounded : (v q : ℕ) → v ≤ none → v ≤ bound q → v ≡ min v (quarter q)
  unfolding quarter_bound
  bounded v q t h = sym (min-eq_left (offset_bound T e s m (son T p q) _ _ v t h))

  next_bound : bound next ≡ next_edge D at (at + w)
  next_bound = go (goes D d)
    where
      go : Goes D → bound next ≡ next_edge D at (at + w)
      go (upright c he hs) = edges_bound e s at w next _ _ (at_across e s at w next (next_across e s he)) ∙ rw (stays e he, c) (omega arith)
      go (level c he hs) = edges_bound e s at w next _ _ (at_down e s at w next (next_down e s he)) ∙ rw (stays s hs, c) (omega arith)
      go (slanting c he hs) = edges_bound e s at w next _ _ (at_down e s at w next (next_down e s he)) ∙ rw (moves s hs, c) (omega arith)

  other_bound : bound (3 - next) ≡ at + w
  other_bound = go (goes D d)
    where
      across : eqb e 1 ≡ false → bound (3 - next) ≡ at + w
      across he = edges_bound e s at w (3 - next) _ _ (at_across e s at w (3 - next) (opposite_across he)) ∙ rw (moves e he) (omega arith)

      go : Goes D → bound (3 - next) ≡ at + w
      go (upright c he hs) = edges_bound e s at w (3 - next) _ _ (at_down e s at w (3 - next) (opposite_down he)) ∙ rw (moves s hs) (omega arith)
      go (level c he hs) = across he
      go (slanting c he hs) = across he

  -- so they are passed over, and the last one with them: it is no nearer
  next_passed : (v : ℕ) → v ≤ none → v ≤ next_edge D at (at + w) → v ≡ min v (quarter next)
  next_passed v t h = bounded v next t (rw next_bound h)

  other_passed : (v : ℕ) → v ≤ none → v ≤ at + w → v ≡ min v (quarter (3 - next))
  other_passed v t h = bounded v (3 - next) t (rw other_bound h)

  last_passed : (v : ℕ) → v ≤ none → v ≤ at + w → v ≡ min v (quarter (3 - near))
  last_passed v t h = bounded v (3 - near) t (le_trans (rw other_bound h) (nearest_first e s at w).third)

edge_le : (D at w : ℕ) → next_edge D at (at + w) ≤ at + w
edge_le D at w = cond_case (λ (k : ℕ). k ≤ at + w) (ltb D 4) at (at + w) (λ e. omega arith) (λ e. omega arith)

pub edge_room : (D at w edge : ℕ) → edge ≡ next_edge D at (at + w) → edge ≤ at + w
edge_room D at w edge e = rw e (edge_le D at w)

-- what the search of a quarter q asks
module _ {T : List ℕ} {l p at : ℕ} (s : Spot T l p at) (f : is_fork T p ≡ true) where
  pub look_asks : {q p' way to best w : ℕ} (t : ℕ) → 2 * l ≡ t → q < 4 → p' ≡ son T p q → way < stay → w ≡ 2 ^ (l - 1) → to ≤ at + w → to ≤ best
      → (2 * (l - 1) + 1 < t) × (Spot T (l - 1) p' to × (way < stay) × (to ≤ best))
  look_asks {q} {p'} {way} {to} t e q4 ep v ew h b =
      let pos = fork_above s.place f in
      (omega arith, (rw ep (spot_son s f q to q4 (rw (← ew) h)), v, b))

-- the four quarters of fork p in the code's hands: q and r are the nearest and the next
module _ {T : List ℕ} {l p at : ℕ} (s : Spot T l p at) (f : is_fork T p ≡ true) (D : ℕ) (d : D < stay) where
  abbrev m : ℕ
  m = l - 1

  room : at + 2 * 2 ^ m ≤ none
  room = omega (arith, s.room, halves s f)

  abbrev in_quarter : ℕ → ℕ
  in_quarter = offset_in T (east_step D) (south_step D) m p at at

  four : (best r₁ r₂ r₃ r₄ : ℕ) → best ≤ none
      → r₁ ≡ min best (in_quarter (near_quarter (east_step D) (south_step D))) → r₂ ≡ min r₁ (in_quarter (next_quarter (east_step D) (south_step D)))
      → r₃ ≡ min r₂ (in_quarter (3 - next_quarter (east_step D) (south_step D))) → r₄ ≡ min r₃ (in_quarter (3 - near_quarter (east_step D) (south_step D)))
      → r₄ ≡ min best (offset_from T D l p at)
  four best r₁ r₂ r₃ r₄ t e₁ e₂ e₃ e₄ =
      let pos = fork_above s.place f in
      let e : l ≡ suc m = omega arith in
      let all : offset_from T D l p at ≡ least none in_quarter 4 =
      ap (λ (k : ℕ). offset_from T D k p at) e ∙ offset_fork T (east_step D) (south_step D) m p at at f in
      rw (e₄, e₃, e₂, e₁, all) (four_quarters in_quarter _ _ (near_next (east_step D) (south_step D)) best t)

  module _ {w q p₁ edge : ℕ} (best r₁ : ℕ) (t : best ≤ none) (ew : w ≡ 2 ^ m) (eq : q ≡ near_quarter (east_step D) (south_step D)) (e₁ : p₁ ≡ son T p q)
      (h₁ : r₁ ≡ min best (offset_from T D m p₁ at)) (ee : edge ≡ next_edge D at (at + w)) where
    first : r₁ ≡ min best (in_quarter (near_quarter (east_step D) (south_step D)))
    first = h₁ ∙ rw (e₁, eq, near_turn T D m p at d room)

    pub stop_1 : r₁ ≤ edge → r₁ ≡ min best (offset_from T D l p at)
    stop_1 h =
        let k : r₁ ≤ next_edge D at (at + 2 ^ m) = rw (← ew, ← ee) h in
        let g = le_trans k (edge_le D at (2 ^ m)) in
        let t' : r₁ ≤ none = omega arith in
        four best r₁ r₁ r₁ r₁ t first (next_passed T D m p at d room r₁ t' k) (other_passed T D m p at d room r₁ t' g) (last_passed T D m p at d room r₁ t' g)

    module _ {r p₂ way : ℕ} (r₂ : ℕ) (er : r ≡ next_quarter (east_step D) (south_step D)) (ev : NextWay D way) (e₂ : p₂ ≡ son T p r)
        (h₂ : r₂ ≡ min r₁ (offset_from T way m p₂ edge)) where
      second : r₂ ≡ min r₁ (in_quarter (next_quarter (east_step D) (south_step D)))
      second = h₂ ∙ rw (e₂, er, ee, ew, next_turn T D m p at d room way ev)

      pub stop_2 : r₂ ≤ at + w → r₂ ≡ min best (offset_from T D l p at)
      stop_2 h =
          let g : r₂ ≤ at + 2 ^ m = rw (← ew) h in
          let t' : r₂ ≤ none = omega arith in
          four best r₁ r₂ r₂ r₂ t first second (other_passed T D m p at d room r₂ t' g) (last_passed T D m p at d room r₂ t' g)

      module _ {p₃ other : ℕ} (r₃ : ℕ) (eo : OtherWay D other) (e₃ : p₃ ≡ son T p (3 - r)) (h₃ : r₃ ≡ min r₂ (offset_from T other m p₃ (at + w))) where
        third : r₃ ≡ min r₂ (in_quarter (3 - next_quarter (east_step D) (south_step D)))
        third = h₃ ∙ rw (e₃, er, ew, other_turn T D m p at d room other eo)

        pub stop_3 : r₃ ≤ at + w → r₃ ≡ min best (offset_from T D l p at)
        stop_3 h =
            let g : r₃ ≤ at + 2 ^ m = rw (← ew) h in
            let t' : r₃ ≤ none = omega arith in
            four best r₁ r₂ r₃ r₃ t first second third (last_passed T D m p at d room r₃ t' g)

        pub all_four : {p₄ : ℕ} (r₄ : ℕ) → p₄ ≡ son T p (3 - q) → r₄ ≡ min r₃ (offset_from T D m p₄ (at + w)) → r₄ ≡ min best (offset_from T D l p at)
        all_four r₄ e₄ h₄ = four best r₁ r₂ r₃ r₄ t first second third (h₄ ∙ rw (e₄, eq, ew, last_turn T D m p at d room))
