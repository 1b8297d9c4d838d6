-- Crossing a block of an accepted sheet along a row, by induction on its level: a walk that stands at the block's left
-- column goes through its leaves and stands at the column behind it, at the same node.
use mathlib.Core.Bool.{true, false, cond}
use mathlib.Core.List.{List}
use mathlib.Core.Logic.{⊎_elim}
use mathlib.Core.Path.{◌≡◌, ◌∙◌}
use Prim.Native.Nat.{ℕ, zero, suc, ◌+◌, ◌-◌, ◌*◌, ◌/◌, ◌%◌, ◌^◌, ◌≤◌, ◌<◌}
use native.Mathlib.Nat.{pow-succ'}
use native.Mathlib.Numerals.{add-one}
use native.Mathlib.Omega.{arith}
use lib.Pow.{pow_pos, shl-shr}
use borrow.Author.Tests.{lt-ltb, le-ltb, le-leb, lt-leb, ne_eqb, eqb-true}
use Rattle.base.proofs.BoolLaws.{by_bool}
use Rattle.quad.specs.Numbers.{top_colour, fork_type}
use Rattle.quad.specs.Block.{quadrant_of}
use Rattle.table.specs.Table.{nodes, father, son, node_type, is_fork}
use Rattle.table.specs.Rules.{depth_to, Accepted}
use Rattle.table.specs.Nodes.{tree_at}
use Rattle.table.proofs.CheckLaws.{sizes_good}
use Rattle.table.proofs.AcceptedLaws.{tree_leaf, sons_of, depth_son, fork_deep, leaf_colour}
use Rattle.walk.specs.declared.Answer.{Answer}
use Rattle.walk.specs.declared.Answer.TheVariants.{Moved, Run}
use Rattle.walk.specs.Walk.{bad_place, spans, inside_of, outside_of, step_of}
use Rattle.walk_rows.specs.Whole.{through, crossing}
use Rattle.walk.proofs.NumberLaws.{column_son, column_small, lowered, multiple}
use Rattle.walk_rows.proofs.AlongLaws.{crossing_leaf, fork_answers, leaves_along, along_leaf, along_fork}
use Rattle.walk_rows.proofs.PassLaws.{at, gives, Passes, one_run, passes_through, passes_then}

-- a place of the sheet is not bad
pub not_bad : (n : ℕ) (T : List ℕ) (p l X x y : ℕ) → p < nodes T → l ≤ n → x ≤ 2 ^ n → y ≤ 2 ^ n → X * 2 ^ l + 2 ^ l ≤ 2 ^ n
    → bad_place (nodes T) (at n p l (X * 2 ^ l) x y) ≡ false
unfolding bad_place
not_bad n T p l X x y lt deep xs ys room =
    rw (
      le-ltb n l deep,
      lt-leb (nodes T) p lt,
      le-ltb (2 ^ n) x xs,
      le-ltb (2 ^ n) y ys,
      multiple X l,
      le-ltb (2 ^ n) (X * 2 ^ l + 2 ^ l) room,
    )

-- a step from it
module _ (n : ℕ) (T : List ℕ) (acc : Accepted n T) (y : ℕ) (row : y < 2 ^ n) where
  pub opened : (p l X x : ℕ) → p < nodes T → l ≤ n → x ≤ 2 ^ n → X * 2 ^ l + 2 ^ l ≤ 2 ^ n
      → step_of T (at n p l (X * 2 ^ l) x y)
      ≡ cond (spans (at n p l (X * 2 ^ l) x y)) (inside_of T (at n p l (X * 2 ^ l) x y)) (outside_of T (at n p l (X * 2 ^ l) x y))
  unfolding step_of
  opened p l X x lt deep xs room =
      rw (sizes_good n T acc.sized, not_bad n T p l X x y lt deep xs (omega arith) room, ne_eqb y (2 ^ n) (λ h. omega arith))

  -- a leaf's run
  step_run : (p l X : ℕ) → p < nodes T → l ≤ n → X * 2 ^ l + 2 ^ l ≤ 2 ^ n → is_fork T p ≡ false
      → step_of T (at n p l (X * 2 ^ l) (X * 2 ^ l) y) ≡ gives (Run (node_type T p) (2 ^ l)) (at n p l (X * 2 ^ l) (X * 2 ^ l + 2 ^ l) y)
  unfolding inside_of
  step_run p l X lt deep room f =
      let pos = pow_pos l in
      let wide : X * 2 ^ l + 2 ^ l - X * 2 ^ l ≡ 2 ^ l = omega arith in
      opened p l X (X * 2 ^ l) lt deep (omega arith) room
      ∙ rw (le-leb (X * 2 ^ l) (X * 2 ^ l) (omega arith), lt-ltb (X * 2 ^ l) (X * 2 ^ l + 2 ^ l) (omega arith), le-leb (node_type T p) top_colour (leaf_colour n T acc p lt f), wide)

  module _ (p l X i : ℕ) (lt : p < nodes T) (deep : l < n) (room : X * 2 ^ suc l + 2 ^ suc l ≤ 2 ^ n) (half : i < 2) where
    -- down to the son in the western or the eastern half
    step_down : is_fork T p ≡ true → step_of T (at n p (suc l) (X * 2 ^ suc l) ((2 * X + i) * 2 ^ l) y)
        ≡ gives Moved (at n (son T p (quadrant_of i (y / 2 ^ l))) l ((2 * X + i) * 2 ^ l) ((2 * X + i) * 2 ^ l) y)
    unfolding inside_of
    step_down f =
        let sp = column_son X i l in
        let sm = column_small i l half in
        let pw = pow-succ' 2 l in
        let pos = pow_pos l in
        let x : ℕ = (2 * X + i) * 2 ^ l in
        let east : (2 * X + i) % 2 ≡ i % 2 = omega arith in
        let own : i % 2 ≡ i = omega arith in
        let kind : node_type T p ≡ fork_type = eqb-true (node_type T p) fork_type f in
        let s = sons_of n T acc p lt f (quadrant_of i (y / 2 ^ l)) (omega arith) in
        let one : suc l - 1 ≡ l = omega arith in
        opened p (suc l) X x lt (omega arith) (omega arith) room
        ∙ rw (
          le-leb (X * 2 ^ suc l) x (omega arith),
          lt-ltb x (X * 2 ^ suc l + 2 ^ suc l) (omega arith),
          lt-leb (node_type T p) top_colour (omega arith),
          f,
          ne_eqb (suc l) 0 (λ h. omega arith),
          one,
          shl-shr (2 * X + i) l,
          east,
          lt-leb (nodes T) (son T p (quadrant_of i (y / 2 ^ l))) s.below,
          own,
          ← sp,
        )

    -- up from it, past its columns
    step_up : (s : ℕ) → s < nodes T → father T s ≡ p → step_of T (at n s l ((2 * X + i) * 2 ^ l) ((2 * X + i) * 2 ^ l + 2 ^ l) y)
        ≡ gives Moved (at n p (suc l) (X * 2 ^ suc l) ((2 * X + i) * 2 ^ l + 2 ^ l) y)
    unfolding outside_of
    step_up s ls f =
        let sp = column_son X i l in
        let sm = column_small i l half in
        let pw = pow-succ' 2 l in
        let pos = pow_pos l in
        let e : ℕ = (2 * X + i) * 2 ^ l in
        let more : l + 1 ≡ suc l = add-one l in
        let down : e - e % 2 ^ suc l ≡ X * 2 ^ suc l = rw sp (lowered X (suc l) (i * 2 ^ l) (omega arith)) in
        opened s l (2 * X + i) (e + 2 ^ l) ls (omega arith) (omega arith) (omega arith)
        ∙ rw (
          le-leb e (e + 2 ^ l) (omega arith),
          le-ltb (e + 2 ^ l) (e + 2 ^ l) (omega arith),
          ne_eqb l n (λ h. omega arith),
          more,
          f,
          lt-leb (nodes T) p lt,
          down,
        )

    -- through the son
    through_son : is_fork T p ≡ true → (answers : List Answer) (leaves : List ℕ)
        → Passes T (at n (son T p (quadrant_of i (y / 2 ^ l))) l ((2 * X + i) * 2 ^ l) ((2 * X + i) * 2 ^ l) y) answers leaves
        (at n (son T p (quadrant_of i (y / 2 ^ l))) l ((2 * X + i) * 2 ^ l) ((2 * X + i) * 2 ^ l + 2 ^ l) y)
        → Passes T (at n p (suc l) (X * 2 ^ suc l) ((2 * X + i) * 2 ^ l) y) (through answers) leaves (at n p (suc l) (X * 2 ^ suc l) ((2 * X + i) * 2 ^ l + 2 ^ l) y)
    through_son f answers leaves w =
        let s = sons_of n T acc p lt f (quadrant_of i (y / 2 ^ l)) (omega arith) in
        passes_through (step_down f) w (step_up (son T p (quadrant_of i (y / 2 ^ l))) s.below s.up)

  leaf_crossed : (p l X : ℕ) → p < nodes T → l ≤ n → X * 2 ^ l + 2 ^ l ≤ 2 ^ n → is_fork T p ≡ false
      → Passes T (at n p l (X * 2 ^ l) (X * 2 ^ l) y) (crossing l (tree_at T l p) y) (leaves_along T l p y) (at n p l (X * 2 ^ l) (X * 2 ^ l + 2 ^ l) y)
  leaf_crossed p l X lt deep room f = rw (tree_leaf T l p f, crossing_leaf l (node_type T p) y, along_leaf T l p y f) (one_run (step_run p l X lt deep room f))

  pub cross : (l p X : ℕ) → p < nodes T → l + depth_to T n p ≡ n → X * 2 ^ l + 2 ^ l ≤ 2 ^ n
      → Passes T (at n p l (X * 2 ^ l) (X * 2 ^ l) y) (crossing l (tree_at T l p) y) (leaves_along T l p y) (at n p l (X * 2 ^ l) (X * 2 ^ l + 2 ^ l) y)
  cross zero p X lt d room =
      ⊎_elim
      (λ (f : is_fork T p ≡ true). absurd (omega (arith, fork_deep n T acc p lt f)))
      (leaf_crossed p 0 X lt (omega arith) room)
      (by_bool (is_fork T p))
  cross (suc l) p X lt d room =
      ⊎_elim
      (λ (f : is_fork T p ≡ true).
      let son-crossed : (i : ℕ) → i < 2 → Passes T (at n p (suc l) (X * 2 ^ suc l) ((2 * X + i) * 2 ^ l) y)
      (through (crossing l (tree_at T l (son T p (quadrant_of i (y / 2 ^ l)))) y)) (leaves_along T l (son T p (quadrant_of i (y / 2 ^ l))) y) (at n p (suc l) (X * 2 ^ suc l) ((2 * X + i) * 2 ^ l + 2 ^ l) y) =
      λ i h.
      let q : ℕ = quadrant_of i (y / 2 ^ l) in
      through_son p l X i lt (omega arith) room h f _ _
      (cross l (son T p q) (2 * X + i) (sons_of n T acc p lt f q (omega arith)).below (omega (arith, depth_son n T acc p q lt f (omega arith)))
      (omega (arith, column_son X i l, column_small i l h, pow-succ' 2 l))) in
      let from : (2 * X + 0) * 2 ^ l ≡ X * 2 ^ suc l = omega (arith, column_son X 0 l) in
      let middle : (2 * X + 0) * 2 ^ l + 2 ^ l ≡ (2 * X + 1) * 2 ^ l = omega (arith, column_son X 0 l, column_son X 1 l) in
      let to : (2 * X + 1) * 2 ^ l + 2 ^ l ≡ X * 2 ^ suc l + 2 ^ suc l = omega (arith, column_son X 1 l, pow-succ' 2 l) in
      rw (fork_answers T y p l f, along_fork T l p y f) (passes_then (rw (middle, from) at (son-crossed 0 (omega arith))) (rw to at (son-crossed 1 (omega arith)))))
      (leaf_crossed p (suc l) X lt (omega arith) room)
      (by_bool (is_fork T p))
