-- Document 001, Theorem 1: 'For any BLACK block in the image, its neighbors cannot all be BLACK', what lies off the
-- sheet counting as BLACK. The block has a father: the whole sheet black is one block with no neighbours.
use Rattle.std.specs.Prelude.{Ok}
use mathlib.Core.Bool.{false}
use mathlib.Core.List.{List}
use mathlib.Core.Path.{◌≡◌, ap, sym, ◌∙◌}
use Prim.Native.Nat.{ℕ, ◌/◌, ◌^◌, ◌<◌}
use native.Mathlib.Omega.{arith}
use borrow.Author.Tests.{ne_eqb}
use Rattle.answer.specs.Numbers.{with_level, node_in}
use Rattle.answer.proofs.OutcomeLaws.{level_apart}
use Rattle.quad.specs.Numbers.{white, black, fork_type}
use Rattle.table.specs.Table.{nodes, node_type, is_fork}
use Rattle.table.specs.Rules.{Accepted}
use Rattle.table.specs.Nodes.{level_of}
use Rattle.table.proofs.BlockPixels.{pixel_block}
use Rattle.neighbour.specs.Neighbour.{neighbour_found, outcome_of, neighbour_of, At}
use Rattle.neighbour.proofs.NeighbourLaws.{neighbour_is}
use Rattle.distance_seek.proofs.OffsetLaws.{hue_leaf}
use Rattle.distance_fill.proofs.BesideLaws.{depth, level_depth, there, found_near}
use Rattle.distance_fill.proofs.FatherLaws.{white_beside}

-- black is no fork, and not white
pub black_leaf : (T : List ℕ) (p : ℕ) → node_type T p ≡ black → is_fork T p ≡ false
black_leaf T p e = ne_eqb (node_type T p) fork_type (λ q. omega arith)

pub black_dark : (T : List ℕ) (p : ℕ) → node_type T p ≡ black → node_type T p ≡ white → ⊥
black_dark T p e q = omega arith

pub not_all_black : (n : ℕ) (T : List ℕ) → Accepted n T → (p : ℕ) → p < nodes T → 0 < p → node_type T p ≡ black
    → ((D v : ℕ) → D < 8 → neighbour_of n T p D ≡ Ok v → node_type T (node_in v) ≡ black) → ⊥
not_all_black n T acc p lt pos b all =
    let w = white_beside n T acc p lt pos (black_leaf T p b) (black_dark T p b) in
    let l : ℕ = level_of n T p in
    let B : ℕ = w.i / 2 ^ l in
    let C : ℕ = w.j / 2 ^ l in
    let m : ℕ = there n T acc p lt B C in
    let found : neighbour_found n T p w.D ≡ At m (level_of n T m) = found_near n T acc p lt w.D B C w.near in
    let is : neighbour_of n T p w.D ≡ Ok (with_level m (level_of n T m)) = neighbour_is n T acc p lt w.D w.below ∙ ap outcome_of found in
    let same : node_in (with_level m (level_of n T m)) ≡ m = (level_apart m (level_of n T m) (omega (arith, acc.sized.level))).0 in
    let t : node_type T m ≡ black = rw same at (all w.D (with_level m (level_of n T m)) w.below is) in
    black_dark T m t
    (sym (hue_leaf T l m w.i w.j (black_leaf T m t)) ∙ sym (pixel_block n l (depth n T acc p lt) T w.i w.j (level_depth n T acc p lt)) ∙ w.white.colour)
