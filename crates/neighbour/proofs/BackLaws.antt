-- Neighbours both ways: where the neighbour has p's own level, p is its neighbour back.
use Rattle.std.specs.Prelude.{Ok}
use mathlib.Core.Path.{◌≡◌, refl, ap, sym, ◌∙◌}
use mathlib.Core.List.{List}
use Prim.Native.Nat.{ℕ, ◌+◌, ◌-◌, ◌^◌, ◌<◌}
use native.Mathlib.Nat.{div-one}
use native.Mathlib.Omega.{arith}
use lib.Dec.{ltb, eqb}
use lib.ListN.{length}
use borrow.Author.Tests.{eqb-true, ltb-true}
use mathlib.Core.Bool.{Bool, true, ◌&&◌}
use Rattle.base.specs.All.{all}
use Rattle.base.proofs.AllLaws.{all_at}
use Rattle.base.proofs.BoolLaws.{and_left, and_right}
use Rattle.answer.specs.Numbers.{with_level, node_in, level_in}
use Rattle.quad.specs.Block.{path_of, column, row}
use Rattle.quad.specs.Direction.{east_step, south_step}
use Rattle.quad.proofs.PathLaws.{path_back}
use Rattle.table.specs.Rules.{depth_to}
use Rattle.table.specs.Nodes.{path_to, holder, level_of}
use Rattle.table.proofs.AcceptedLaws.{depth_le}
use Rattle.table.proofs.BlockLaws.{column_below, row_below}
use Rattle.table.proofs.HolderLaws.{own_quadrants, own_path, own_depth}
use Rattle.neighbour.specs.Neighbour.{neighbour_found, neighbour_of, At}
use Rattle.neighbour.specs.Containing.{opposite}
use Rattle.neighbour.proofs.NeighbourLaws.{lies_found, neighbour_is, beside_p, neighbour_answer}

-- a direction and the one back cancel
pub record Cancels (D : ℕ) : Type 0 where
  pub way : opposite D < 8
  pub east : east_step D + east_step (opposite D) ≡ 2
  pub south : south_step D + south_step (opposite D) ≡ 2

cancel_ok : ℕ → Bool
cancel_ok D = ltb (opposite D) 8 && (eqb (east_step D + east_step (opposite D)) 2 && eqb (south_step D + south_step (opposite D)) 2)

cancel_all : all cancel_ok 8 ≡ true
unfolding cancel_ok opposite east_step south_step
cancel_all = refl

pub cancels : (D : ℕ) → D < 8 → Cancels D
unfolding cancel_ok
cancels D h =
    let v : cancel_ok D ≡ true = all_at cancel_ok 8 cancel_all D h in
    let w = ltb (opposite D) 8 in
    let e = eqb (east_step D + east_step (opposite D)) 2 in
    let s = eqb (south_step D + south_step (opposite D)) 2 in
    let es = and_right w (e && s) v in
    record { way = ltb-true _ _ (and_left w (e && s) v); east = eqb-true _ _ (and_left e s es); south = eqb-true _ _ (and_right e s es) }

pub neighbour_back : (n : ℕ) (T : List ℕ) (p D v : ℕ) → neighbour_of n T p D ≡ Ok v → level_in v ≡ level_of n T p
    → neighbour_of n T (node_in v) (opposite D) ≡ Ok (with_level p (level_in v))
unfolding neighbour_found
neighbour_back n T p D v e same =
    let m : ℕ = node_in v in
    let known = neighbour_answer n T p D v e in
    let acc = known.asked.accepted in
    let lt = known.asked.node in
    let l = beside_p n T acc p lt D m (level_in v) known.found in
    let c = known.smallest.contains in
    let i = c.inside in
    let d : ℕ = depth_to T n p in
    let x : ℕ = column (path_to T n p) in
    let y : ℕ = row (path_to T n p) in
    let k = cancels D known.way in
    let dm : depth_to T n m ≡ d = omega (arith, known.level, depth_le T n p, depth_le T n m) in
    let z : d - depth_to T n m ≡ 0 = omega arith in
    let ex : column (path_to T n m) ≡ x + east_step D - 1 = sym (rw (z, div-one (x + east_step D - 1)) at i.across) in
    let ey : row (path_to T n m) ≡ y + south_step D - 1 = sym (rw (z, div-one (y + south_step D - 1)) at i.down) in
    let size : length (path_to T n m) ≡ d = own_depth n T acc m c.node ∙ dm in
    let o = own_depth n T acc p lt in
    let qs = own_quadrants n T acc p lt in
    let hx : x < 2 ^ d = column_below n T acc p lt in
    let hy : y < 2 ^ d = row_below n T acc p lt in
    let lx = l.across.low in
    let ly = l.down.low in
    let bx : x + east_step D - 1 + east_step (opposite D) - 1 ≡ x = omega (arith, k.east) in
    let by : y + south_step D - 1 + south_step (opposite D) - 1 ≡ y = omega (arith, k.south) in
    let a = lies_found n T d (x + east_step D - 1) (y + south_step D - 1) (opposite D)
    (record { low = omega (arith, k.east); high = omega (arith, k.east) })
    (record { low = omega (arith, k.south); high = omega (arith, k.south) }) in
    let back : holder T (path_of d x y) ≡ p = rw (← o) (ap (holder T) (path_back (path_to T n p) qs) ∙ own_path n T acc p lt) in
    let found : neighbour_found n T m (opposite D) ≡ At p (level_of n T p) = rw (size, ex, ey) (a ∙ rw (bx, by, back)) in
    neighbour_is n T acc m c.node (opposite D) k.way ∙ rw (found, same)
