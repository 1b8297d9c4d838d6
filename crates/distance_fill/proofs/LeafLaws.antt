-- The distance of a leaf that is not white. If it has a father, the least offset among its eight neighbours tells the
-- least distance among all white pixels of the sheet: a white pixel beside the leaf's block is met in its direction,
-- any other is three sides away or more, and one beside is nearer than that. If it has none, it is the whole sheet.
use mathlib.Core.Bool.{false}
use mathlib.Core.List.{List, []}
use mathlib.Core.Logic.{inl, inr, ⊎_elim}
use mathlib.Core.Path.{◌≡◌, refl, sym, ◌∙◌}
use Prim.Native.Nat.{ℕ, ◌+◌, ◌*◌, ◌/◌, ◌^◌, ◌≤◌, ◌<◌}
use native.Mathlib.Nat.{le_trans}
use native.Mathlib.Omega.{arith}
use lib.ListN.{length}
use lib.Pow.{pow_mono}
use Rattle.base.proofs.LeastLaws.{Hit, least_le, least_hit}
use Rattle.quad.specs.Numbers.{white, none, top_level}
use Rattle.quad.specs.Block.{column, row}
use Rattle.table.specs.Table.{nodes, node_type, is_fork}
use Rattle.table.specs.Rules.{Accepted}
use Rattle.table.specs.Nodes.{path_to, pixel, level_of, centre_across, centre_down}
use Rattle.table.proofs.NodeLaws.{path_root}
use Rattle.neighbour.specs.Search.{stay}
use Rattle.neighbour.proofs.SearchLaws.{must_move}
use Rattle.distance.specs.Distance.{to_pixel, plain_outside, nearest}
use Rattle.distance_seek.specs.Around.{offset_beside, offset_around}
use Rattle.distance.proofs.NearestLaws.{White, WhiteAt, nearest_is}
use Rattle.distance_fill.proofs.BesideLaws.{Near, onward_lt, near_far, near_le, Seen, none_or_seen, own_pixel, Placed, own, beside_it, away, placed}
use Rattle.distance_fill.proofs.FatherLaws.{white_beside}

module _ (n : ℕ) (T : List ℕ) (acc : Accepted n T) (p : ℕ) (lt : p < nodes T) (f : is_fork T p ≡ false) (dark : node_type T p ≡ white → ⊥) where
  abbrev side : ℕ
  side = 2 ^ level_of n T p

  abbrev o : ℕ
  o = offset_around n T p stay

  abbrev plain : ℕ
  plain = nearest plain_outside n (pixel n T) (centre_across n T p) (centre_down n T p)

  abbrev far : ℕ → ℕ → ℕ
  far i j = to_pixel (centre_across n T p) (centre_down n T p) i j

  pub side_small : side ≤ 2 ^ top_level
  side_small =
      let top = acc.sized.level in
      pow_mono {i = level_of n T p} {j = top_level} (omega arith)

  -- a white pixel beside p's block
  met : (D i j : ℕ) → D < stay → Near n T acc p lt D (i / side) (j / side) → pixel n T i j ≡ white → (o < side) × (side + 2 * o ≤ far i j)
  met D i j d near w =
      let le = least_le none (offset_beside n T p) stay D d in
      let le' = near_le n T acc p lt D i j near w in
      let v = near_far n T acc p lt D i j d near in
      (omega (arith, onward_lt n T acc p lt D i j), omega arith)

  module _ (pos : 0 < p) where
    -- there is one
    pub father_small : o < side
    father_small =
        let b = white_beside n T acc p lt pos f dark in
        (met b.D b.i b.j b.below b.near b.white.colour).0

    -- the least offset is a white pixel's
    attained : WhiteAt n (pixel n T) (centre_across n T p) (centre_down n T p) (side + 2 * o)
    attained =
        let small = father_small in
        let s = side_small in
        ⊎_elim (λ (e : o ≡ none). absurd (omega arith))
        (λ (h : Hit none (offset_beside n T p) stay o).
        ⊎_elim
        (λ (e : offset_beside n T p h.at ≡ none). absurd (omega (arith, h.value)))
        (λ (k : Seen n T acc p lt h.at). rw h.value at k.at)
        (none_or_seen n T acc p lt h.at h.below))
        (least_hit none (offset_beside n T p) stay)

    -- no white pixel is nearer
    no_nearer : (i j : ℕ) → White n (pixel n T) i j → side + 2 * o ≤ far i j
    no_nearer i j w = go (placed n T acc p lt i j w.across w.down)
      where
        go : Placed n T acc p lt i j → side + 2 * o ≤ far i j
        go (own ex ey) = absurd (dark (sym (own_pixel n T acc p lt i j f ex ey) ∙ w.colour))
        go (beside_it D d near) = (met D i j d near w.colour).1
        go (away pos h) = le_trans (omega (arith, father_small)) h

    pub leaf_nearest : plain ≡ side + 2 * o
    leaf_nearest =
        nearest_is n (pixel n T) (centre_across n T p) (centre_down n T p) (side + 2 * o) (omega (arith, father_small, side_small)) no_nearer (inr attained)

  module _ (root : p ≡ 0) where
    -- its own block is the only one
    pub no_white : (i j : ℕ) → White n (pixel n T) i j → ⊥
    no_white i j w = go (placed n T acc p lt i j w.across w.down)
      where
        none_above : path_to T n p ≡ []
        none_above = rw root (path_root T n)

        one : 2 ^ length (path_to T n p) ≡ 1
        one = rw none_above

        left : column (path_to T n p) ≡ 0
        left = rw none_above (unfold column in refl)

        top : row (path_to T n p) ≡ 0
        top = rw none_above (unfold row in refl)

        go : Placed n T acc p lt i j → ⊥
        go (own ex ey) = dark (sym (own_pixel n T acc p lt i j f ex ey) ∙ w.colour)
        go (beside_it D d near) =
            let x = near.across in
            let y = near.down in
            let e = near.east in
            let s = near.south in
            must_move D d (omega (arith, one, left)) (omega (arith, one, top))
        go (away pos h) = omega arith

    pub root_nearest : plain ≡ none
    root_nearest =
        nearest_is n (pixel n T) (centre_across n T p) (centre_down n T p) none (omega arith) (λ i j w. absurd (no_white i j w)) (inl refl)
