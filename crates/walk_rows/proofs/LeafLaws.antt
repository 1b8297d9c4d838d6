-- The leaves that a row crosses, as a walk meets them: down from the root they come from left to right, and up from any
-- leaf of the row each father is on the row too, so that none is left out.
use mathlib.Core.Bool.{true, false}
use mathlib.Core.List.Memᴰ
use mathlib.Core.List.{List, [], ◌∷◌, ◌++◌}
use mathlib.Core.Logic.{⊎_elim}
use mathlib.Core.Path.{◌≡◌, refl, ap, sym, ◌∙◌}
use Prim.Native.Nat.{ℕ, zero, suc, ◌+◌, ◌-◌, ◌*◌, ◌/◌, ◌%◌, ◌^◌, ◌≤◌, ◌<◌}
use native.Mathlib.Nat.{pow-succ', eq-zero-or-pos, mod-lt, div-eq_of_lt}
use native.Mathlib.Omega.{arith}
use lib.Pow.{pow_pos, high, split}
use Rattle.base.proofs.BoolLaws.{by_bool}
use Rattle.quad.specs.Block.{quadrant_of, column, row}
use Rattle.quad.proofs.PathLaws.{half_last}
use Rattle.table.specs.Table.{nodes, father, son, is_fork}
use Rattle.table.specs.Rules.{depth_to, Accepted}
use Rattle.table.specs.Nodes.{path_to, holder, Real, son_type, side_of, left_of, top_of}
use Rattle.table.proofs.RuleLaws.{depth_root}
use Rattle.table.proofs.AcceptedLaws.{sons_of, depth_son, depth_up, depth_le, father_below, father_fork, fork_deep, son_type_lt, son_son_type}
use Rattle.table.proofs.NodeLaws.{path_root, holder_fork, path_of_lem, node_at}
use Rattle.walk_rows.specs.Rows.{In, Crossed, Rightward, RowLeaves}
use Rattle.walk.proofs.NumberLaws.{column_son, column_small}
use Rattle.walk_rows.proofs.AlongLaws.{leaves_along, along_leaf, along_fork}

-- node p stands at level l, in column X and row Y of the blocks of that level
pub record Stands (n : ℕ) (T : List ℕ) (p l X Y : ℕ) : Type 0 where
  pub node : p < nodes T
  pub deep : l + depth_to T n p ≡ n
  pub col : column (path_to T n p) ≡ X
  pub row : row (path_to T n p) ≡ Y

module _ (n : ℕ) (T : List ℕ) where
  module _ (p l X Y : ℕ) (s : Stands n T p l X Y) where
    pub side_at : side_of n T p ≡ 2 ^ l
    side_at =
        let e : n - depth_to T n p ≡ l = omega (arith, s.deep) in
        rw e

    pub left_at : left_of n T p ≡ X * 2 ^ l
    left_at =
        let e : n - depth_to T n p ≡ l = omega (arith, s.deep) in
        rw (e, s.col)

    pub top_at : top_of n T p ≡ Y * 2 ^ l
    top_at =
        let e : n - depth_to T n p ≡ l = omega (arith, s.deep) in
        rw (e, s.row)

module _ (n : ℕ) (T : List ℕ) (acc : Accepted n T) where
  pub stands_root : Stands n T 0 n 0 0
  unfolding column row
  stands_root = record { node = acc.sized.some; deep = omega (arith, depth_root T n); col = rw (path_root T n); row = rw (path_root T n) }

  pub stands_son : (p l X Y q : ℕ) → Stands n T p (suc l) X Y → is_fork T p ≡ true → q < 4 → Stands n T (son T p q) l (2 * X + q % 2) (2 * Y + q / 2)
  unfolding column row Real
  stands_son p l X Y q s f q4 =
      let π : List ℕ = path_to T n p in
      let o = path_of_lem n T acc p s.node in
      let d = depth_son n T acc p q s.node f q4 in
      let fork : is_fork T (holder T π) ≡ true = rw o.ends f in
      let ends : holder T (q ∷ π) ≡ son T p q = holder_fork T q π fork ∙ ap (λ (p : ℕ). son T p q) o.ends in
      let path : path_to T n (son T p q) ≡ q ∷ π = rw ends at ((node_at n T acc (q ∷ π) (q4, fork, o.real)).back n (omega (arith, s.deep, o.size))) in
      record {
        node = (sons_of n T acc p s.node f q q4).below;
        deep = omega (arith, s.deep);
        col = rw path (omega (arith, s.col));
        row = rw path (omega (arith, s.row));
      }

-- the row of blocks that holds row y
in_rows : (Y l y : ℕ) → Y * 2 ^ l ≤ y → y < Y * 2 ^ l + 2 ^ l → Y ≡ y / 2 ^ l
in_rows Y l y from to =
    let r : ℕ = y - Y * 2 ^ l in
    let e : Y * 2 ^ l + r ≡ y = omega arith in
    sym (high Y l {lo = r} (omega arith)) ∙ ap (λ (k : ℕ). k / 2 ^ l) e

-- from left to right in parts
rightward_append : (n : ℕ) (T : List ℕ) (ps qs : List ℕ) → Rightward n T ps → Rightward n T qs
    → ((p q : ℕ) → In p ps → In q qs → left_of n T p < left_of n T q) → Rightward n T (ps ++ qs)
unfolding Rightward
rightward_append n T [] qs a b h = b
rightward_append n T (p ∷ ps) qs a b h =
    ((λ q m. ⊎_elim (a.0 q) (h p q (Memᴰ.head refl)) (Memᴰ.append_cases ps m)), rightward_append n T ps qs a.1 b (λ r q i j. h r q (Memᴰ.tail i) j))

-- a leaf that row y crosses, in the columns of the block X of level l
record Along (n : ℕ) (T : List ℕ) (y l X q : ℕ) : Type 0 where
  pub crossed : Crossed n T y q
  pub west : X * 2 ^ l ≤ left_of n T q
  pub east : left_of n T q < X * 2 ^ l + 2 ^ l

module _ (n : ℕ) (T : List ℕ) (acc : Accepted n T) (y : ℕ) where
  -- the western and the eastern of the sons that the row crosses
  pub stands_half : (p l X i : ℕ) → i < 2 → Stands n T p (suc l) X (y / 2 ^ suc l) → is_fork T p ≡ true
      → Stands n T (son T p (quadrant_of i (y / 2 ^ l))) l (2 * X + i) (y / 2 ^ l)
  stands_half p l X i h s f =
      let q : ℕ = quadrant_of i (y / 2 ^ l) in
      let up = half_last l y in
      let x : 2 * X + q % 2 ≡ 2 * X + i = omega arith in
      let r : 2 * (y / 2 ^ suc l) + q / 2 ≡ y / 2 ^ l = omega arith in
      rw (x, r) at (stands_son n T acc p l X (y / 2 ^ suc l) q s f (omega arith))

  leaf_along : (p l X q : ℕ) → Stands n T p l X (y / 2 ^ l) → is_fork T p ≡ false → q ≡ p → Along n T y l X q
  leaf_along p l X q s f e =
      let pos = pow_pos l in
      let sp = split y l in
      let md = mod-lt y pos in
      rw e (record {
        crossed = record {
          node = s.node;
          leaf = f;
          from = rw (top_at n T p l X (y / 2 ^ l) s) (omega arith);
          to = rw (top_at n T p l X (y / 2 ^ l) s, side_at n T p l X (y / 2 ^ l) s) (omega arith);
        };
        west = rw (left_at n T p l X (y / 2 ^ l) s) (omega arith);
        east = rw (left_at n T p l X (y / 2 ^ l) s) (omega arith);
      })

  half_along : (l X i q : ℕ) → i < 2 → Along n T y l (2 * X + i) q → Along n T y (suc l) X q
  half_along l X i q h a =
      let sp = column_son X i l in
      let sm = column_small i l h in
      let pw = pow-succ' 2 l in
      record { crossed = a.crossed; west = omega (arith, a.west); east = omega (arith, a.east) }

  -- down: each leaf met is one that the row crosses, in the block's columns
  only_along : (l p X : ℕ) → Stands n T p l X (y / 2 ^ l) → (q : ℕ) → In q (leaves_along T l p y) → Along n T y l X q
  only_along zero p X s q m =
      ⊎_elim
      (λ (f : is_fork T p ≡ true). absurd (omega (arith, fork_deep n T acc p s.node f, s.deep)))
      (λ (f : is_fork T p ≡ false). leaf_along p 0 X q s f (Memᴰ.eq_of_singleton (rw (along_leaf T 0 p y f) at m)))
      (by_bool (is_fork T p))
  only_along (suc l) p X s q m =
      ⊎_elim
      (λ (f : is_fork T p ≡ true).
      let in-half : (i : ℕ) → i < 2 → In q (leaves_along T l (son T p (quadrant_of i (y / 2 ^ l))) y) → Along n T y (suc l) X q =
      λ i h k. half_along l X i q h (only_along l (son T p (quadrant_of i (y / 2 ^ l))) (2 * X + i) (stands_half p l X i h s f) q k) in
      ⊎_elim (in-half 0 (omega arith)) (in-half 1 (omega arith)) (Memᴰ.append_cases _ (rw (along_fork T l p y f) at m)))
      (λ (f : is_fork T p ≡ false). leaf_along p (suc l) X q s f (Memᴰ.eq_of_singleton (rw (along_leaf T (suc l) p y f) at m)))
      (by_bool (is_fork T p))

  -- and they come from left to right
  leaf_rightward : (l p : ℕ) → is_fork T p ≡ false → Rightward n T (leaves_along T l p y)
  unfolding Rightward
  leaf_rightward l p f = rw (along_leaf T l p y f) ((λ q m. absurd (Memᴰ.not-nil m)), tt)

  rightward_along : (l p X : ℕ) → Stands n T p l X (y / 2 ^ l) → Rightward n T (leaves_along T l p y)
  rightward_along zero p X s =
      ⊎_elim
      (λ (f : is_fork T p ≡ true). absurd (omega (arith, fork_deep n T acc p s.node f, s.deep)))
      (leaf_rightward 0 p)
      (by_bool (is_fork T p))
  rightward_along (suc l) p X s =
      ⊎_elim
      (λ (f : is_fork T p ≡ true).
      let half : (i : ℕ) → i < 2 → Stands n T (son T p (quadrant_of i (y / 2 ^ l))) l (2 * X + i) (y / 2 ^ l) = λ i h. stands_half p l X i h s f in
      let west = half 0 (omega arith) in
      let east = half 1 (omega arith) in
      rw (along_fork T l p y f)
      (rightward_append n T _ _ (rightward_along l _ (2 * X + 0) west) (rightward_along l _ (2 * X + 1) east)
      (λ a b i j.
      let u = only_along l _ (2 * X + 0) west a i in
      let v = only_along l _ (2 * X + 1) east b j in
      omega (arith, u.east, v.west, column_son X 0 l, column_son X 1 l))))
      (leaf_rightward (suc l) p)
      (by_bool (is_fork T p))

  -- up: what a son on the row meets, its father meets, and the father is on the row
  from_half : (i p f l : ℕ) → i < 2 → is_fork T f ≡ true → In p (leaves_along T l (son T f (quadrant_of i (y / 2 ^ l))) y) → In p (leaves_along T (suc l) f y)
  from_half zero p f l h k m = rw (along_fork T l f y k) (Memᴰ.append_left _ m)
  from_half (suc zero) p f l h k m = rw (along_fork T l f y k) (Memᴰ.append_right (leaves_along T l (son T f (quadrant_of 0 (y / 2 ^ l))) y) m)
  from_half (suc (suc i)) p f l h k m = absurd (omega arith)

  up_along : (p m l : ℕ) → m < nodes T → 0 < m → l + depth_to T n m ≡ n → row (path_to T n m) ≡ y / 2 ^ l → In p (leaves_along T l m y)
      → (row (path_to T n (father T m)) ≡ y / 2 ^ suc l) × In p (leaves_along T (suc l) (father T m) y)
  up_along p m l lt pos d r i =
      let f : ℕ = father T m in
      let q : ℕ = son_type T m in
      let q4 = son_type_lt n T acc m lt pos in
      let own = son_son_type n T acc m lt pos in
      let fork = father_fork n T acc m lt pos in
      let s : Stands n T f (suc l) (column (path_to T n f)) (row (path_to T n f)) =
      record { node = omega (arith, father_below n T acc m lt pos); deep = omega (arith, depth_up n T acc m lt pos); col = refl; row = refl } in
      let t = stands_son n T acc f l _ _ q s fork q4 in
      let e : row (path_to T n m) ≡ 2 * row (path_to T n f) + q / 2 = ap (λ (k : ℕ). row (path_to T n k)) (sym own) ∙ t.row in
      let u : row (path_to T n f) ≡ y / 2 ^ suc l = omega (arith, half_last l y) in
      let w : q ≡ quadrant_of (q % 2) (y / 2 ^ l) = omega arith in
      let x : m ≡ son T f (quadrant_of (q % 2) (y / 2 ^ l)) = sym own ∙ ap (λ (k : ℕ). son T f k) w in
      (u, from_half (q % 2) p f l (omega arith) fork (rw (← x) i))

  -- so up to the root
  climb : (d l p m : ℕ) → m < nodes T → depth_to T n m ≡ d → l + d ≡ n → row (path_to T n m) ≡ y / 2 ^ l → In p (leaves_along T l m y) → In p (leaves_along T n 0 y)
  climb zero l p m lt e s r i =
      ⊎_elim
      (λ (z : m ≡ 0).
      let k : l ≡ n = omega arith in
      rw (k, z) at i)
      (λ (pos : 0 < m). absurd (omega (arith, depth_up n T acc m lt pos)))
      (eq-zero-or-pos m)
  climb (suc d) l p m lt e s r i =
      ⊎_elim
      (λ (z : m ≡ 0). absurd (omega (arith, ap (depth_to T n) z, depth_root T n)))
      (λ (pos : 0 < m).
      let u = up_along p m l lt pos (omega arith) r i in
      climb d (suc l) p (father T m) (omega (arith, father_below n T acc m lt pos)) (omega (arith, depth_up n T acc m lt pos)) (omega arith) u.0 u.1)
      (eq-zero-or-pos m)

  all_along : (p : ℕ) → Crossed n T y p → In p (leaves_along T n 0 y)
  all_along p c =
      let l : ℕ = n - depth_to T n p in
      climb (depth_to T n p) l p p c.node refl (omega (arith, depth_le T n p))
      (in_rows (row (path_to T n p)) l y c.from c.to)
      (rw (along_leaf T l p y c.leaf) (Memᴰ.head refl))

  pub row_leaves : y < 2 ^ n → RowLeaves n T y (leaves_along T n 0 y)
  row_leaves h =
      let s : Stands n T 0 n 0 (y / 2 ^ n) = rw (div-eq_of_lt h) (stands_root n T acc) in
      record { all = all_along; only = λ p m. (only_along n 0 0 s p m).crossed; rightward = rightward_along n 0 0 s }

  -- a row meets a leaf in each block that it crosses, so two of them under a fork
  some_along : (l p : ℕ) → (q : ℕ) × In q (leaves_along T l p y)
  some_along zero p = unfold leaves_along in (p, Memᴰ.head refl)
  some_along (suc l) p =
      ⊎_elim
      (λ (f : is_fork T p ≡ true).
      let i = some_along l (son T p (quadrant_of 0 (y / 2 ^ l))) in
      (i.0, rw (along_fork T l p y f) (Memᴰ.append_left _ i.1)))
      (λ (f : is_fork T p ≡ false). (p, rw (along_leaf T (suc l) p y f) (Memᴰ.head refl)))
      (by_bool (is_fork T p))

  two_along : (l p X : ℕ) → Stands n T p l X (y / 2 ^ l) → is_fork T p ≡ true
      → (a : ℕ) × (b : ℕ) × In a (leaves_along T l p y) × In b (leaves_along T l p y) × (left_of n T a < left_of n T b)
  two_along zero p X s f = absurd (omega (arith, fork_deep n T acc p s.node f, s.deep))
  two_along (suc l) p X s f =
      let west : ℕ = son T p (quadrant_of 0 (y / 2 ^ l)) in
      let east : ℕ = son T p (quadrant_of 1 (y / 2 ^ l)) in
      let i = some_along l west in
      let j = some_along l east in
      let u = only_along l west (2 * X + 0) (stands_half p l X 0 (omega arith) s f) i.0 i.1 in
      let v = only_along l east (2 * X + 1) (stands_half p l X 1 (omega arith) s f) j.0 j.1 in (
        i.0,
        j.0,
        rw (along_fork T l p y f) (Memᴰ.append_left _ i.1),
        rw (along_fork T l p y f) (Memᴰ.append_right (leaves_along T l west y) j.1),
        omega (arith, u.east, v.west, column_son X 0 l, column_son X 1 l),
      )

  pub two_leaves : y < 2 ^ n → is_fork T 0 ≡ true
      → (a : ℕ) × (b : ℕ) × In a (leaves_along T n 0 y) × In b (leaves_along T n 0 y) × (left_of n T a < left_of n T b)
  two_leaves h f = two_along n 0 0 (rw (div-eq_of_lt h) (stands_root n T acc)) f
