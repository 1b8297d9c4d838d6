-- The neighbour of a fork's son is the quadrant that the move's mirror names of the fork's own neighbour, in the
-- direction in which the move leads on from the fork: the path of the block beside the son's is that quadrant and the
-- path beside the fork's. Nothing lies beside the whole sheet.
use mathlib.Core.Bool.{true, false}
use mathlib.Core.List.{List}
use mathlib.Core.Logic.{⊎_elim}
use mathlib.Core.Path.{◌≡◌, refl, ap, sym, ◌∙◌}
use Prim.Native.Nat.{ℕ, ◌-◌, ◌≤◌, ◌<◌}
use native.Mathlib.Omega.{arith}
use borrow.Author.Tests.{ne_eqb}
use Rattle.std.proofs.Common.{None}
use Rattle.base.proofs.BoolLaws.{by_bool}
use Rattle.table.specs.Table.{nodes, son, is_fork}
use Rattle.table.specs.Rules.{Accepted}
use Rattle.table.specs.Nodes.{path_to, holder, level_of}
use Rattle.table.proofs.AcceptedLaws.{sons_of, depth_son}
use Rattle.table.proofs.NodeLaws.{path_root, holder_fork, holder_leaf}
use Rattle.table.proofs.HolderLaws.{held, own_quadrants, own_path, path_son}
use Rattle.neighbour.specs.Neighbour.{neighbour_found, At}
use Rattle.neighbour.specs.Search.{stay, onward_of, mirror_of, Where, off, block, inner, moved}
use Rattle.neighbour_around.specs.SonBeside.{part_in}
use Rattle.neighbour.proofs.SearchLaws.{MovedTo, moved_to, steers, moved_stay, held_by, beside_moved}

module _ (n : ℕ) (T : List ℕ) (acc : Accepted n T) where
  -- quadrant q of a block is held by that quadrant of its holder, or by the holder itself
  part_held : (q : ℕ) (w : Where) (D : ℕ) (π : List ℕ) → q < 4 → MovedTo D π w → held_by n T (inner q w) ≡ part_in T q (held_by n T w)
  unfolding held_by inner part_in MovedTo
  part_held q off D π q4 m = refl
  part_held q (block ρ) D π q4 m =
      let h = held n T acc ρ m.quadrants in
      let p : ℕ = holder T ρ in
      ⊎_elim
      (λ (f : is_fork T (holder T ρ) ≡ true).
      let d = depth_son n T acc p q h.below f q4 in
      let e : level_of n T (son T p q) ≡ level_of n T p - 1 = omega arith in
      rw (holder_fork T q ρ f, f, e))
      (λ (f : is_fork T (holder T ρ) ≡ false). rw (holder_leaf T q ρ f, f))
      (by_bool (is_fork T (holder T ρ)))

  -- the neighbour by the moves along the path
  by_moves : (p D : ℕ) → p < nodes T → D ≤ stay → neighbour_found n T p D ≡ held_by n T (moved D (path_to T n p))
  unfolding neighbour_found
  by_moves p D lt le = beside_moved n T D (path_to T n p) le (own_quadrants n T acc p lt)

  pub son_beside : (p q D : ℕ) → p < nodes T → is_fork T p ≡ true → q < 4 → D ≤ stay
      → neighbour_found n T (son T p q) D ≡ part_in T (mirror_of D q) (neighbour_found n T p (onward_of D q))
  unfolding moved
  son_beside p q D lt f q4 le =
      let π : List ℕ = path_to T n p in
      let s = steers D q le q4 in
      let quadrants = own_quadrants n T acc p lt in
      by_moves (son T p q) D (sons_of n T acc p lt f q q4).below le
      ∙ (ap (λ (ρ : List ℕ). held_by n T (moved D ρ)) (path_son n T acc p q lt f q4)
      ∙ (part_held (mirror_of D q) (moved (onward_of D q) π) (onward_of D q) π s.small (moved_to (onward_of D q) π s.way quadrants)
      ∙ ap (part_in T (mirror_of D q)) (sym (by_moves p (onward_of D q) lt s.way))))

  -- no move leads to the node itself
  pub stays_own : (p : ℕ) → p < nodes T → neighbour_found n T p stay ≡ At p (level_of n T p)
  unfolding held_by
  stays_own p lt = by_moves p stay lt (omega arith) ∙ rw (moved_stay (path_to T n p), own_path n T acc p lt)

  pub none_beside : (D : ℕ) → D < stay → None ≡ neighbour_found n T 0 D
  unfolding held_by moved
  none_beside D lt = sym (by_moves 0 D acc.sized.some (omega arith) ∙ rw (path_root T n, ne_eqb D stay (λ e. omega arith)))
