-- A tree by its sons: what holds of each son q, q < 4, holds of the four, so that a law about quarters is proved once.
-- And the sizes of trees.
use mathlib.Core.Bool.{Bool, true, false, not, cond, ◌&&◌, false≢true}
use mir.Val.{bool_byte as from_bool}
use mathlib.Core.Path.{◌≡◌, refl, ap, sym}
use Prim.Native.Nat.{ℕ, zero, suc, ◌+◌, ◌*◌, ◌^◌, ◌≤◌, ◌<◌}
use native.Mathlib.Nat.{one-le-pow, pow-le-pow_right, pow-succ'}
use native.Mathlib.Omega.{arith}
use lib.Dec.{eqb}
use lib.ListN.{length, length-append}
use borrow.Author.Tests.{eq-eqb, ne_eqb, eqb-true}
use Rattle.base.proofs.BoolLaws.{and_left, and_right}
use Rattle.base.proofs.CaseLaws.{cond_case}
use Rattle.quad.specs.Numbers.{top_level, top_colour, fork_type, max_words}
use Rattle.quad.specs.Tree.{Tree, leaf, fork, colour, son_of, Within, same_leaf, alike, like_types, Reduced, Coloured, size_of, types_of, join}

-- the quadrants are four
pub by_quadrant : (P : ℕ → Type 0) → P 0 → P 1 → P 2 → P 3 → (q : ℕ) → q < 4 → P q
by_quadrant P a b c d zero h = a
by_quadrant P a b c d (suc zero) h = b
by_quadrant P a b c d (suc (suc zero)) h = c
by_quadrant P a b c d (suc (suc (suc zero))) h = d
by_quadrant P a b c d (suc (suc (suc (suc q)))) h = absurd (omega arith)

-- what holds of the four holds of each son; and the other way round
pub each_son : (P : Tree → Type 0) {a b c d : Tree} → P a × P b × P c × P d → (q : ℕ) → P (son_of (fork a b c d) q)
unfolding son_of
each_son P h q =
    cond_case P (eqb q 0) _ _ (λ e. h.0) (λ e. cond_case P (eqb q 1) _ _ (λ e. h.1) (λ e. cond_case P (eqb q 2) _ _ (λ e. h.2) (λ e. h.3)))

pub four_sons_lem : (P : Tree → Type 0) {a b c d : Tree} → ((q : ℕ) → q < 4 → P (son_of (fork a b c d) q)) → P a × P b × P c × P d
unfolding son_of
four_sons_lem P h = (h 0 (omega arith), h 1 (omega arith), h 2 (omega arith), h 3 (omega arith))

-- a tree of level 0 is a leaf
pub within_zero : (t : Tree) → Within 0 t → t ≡ leaf (colour t)
unfolding Within colour
within_zero (leaf c) h = refl
within_zero (fork _ _ _ _) h = absurd h

-- sons of a tree of level l + 1 are of level l, sons of a coloured tree are coloured, and sons of a reduced tree are
-- reduced
pub within_son : (l : ℕ) (t : Tree) → Within (suc l) t → (q : ℕ) → Within l (son_of t q)
unfolding Within
within_son l (leaf c) h q = unfold son_of in tt
within_son l (fork a b c d) h q = each_son (Within l) h q

pub coloured_son : (t : Tree) → Coloured t → (q : ℕ) → Coloured (son_of t q)
unfolding Coloured
coloured_son (leaf c) h q = unfold son_of in h
coloured_son (fork a b c d) h q = each_son Coloured h q

pub reduced_son : (t : Tree) → Reduced t → (q : ℕ) → Reduced (son_of t q)
unfolding Reduced
reduced_son (leaf c) h q = unfold son_of in tt
reduced_son (fork a b c d) h q = each_son Reduced (h.1, h.2, h.3, h.4) q

-- a tree is of level l + 1 where its sons are of level l, and coloured where they are
pub within_sons : (l : ℕ) (t : Tree) → ((q : ℕ) → q < 4 → Within l (son_of t q)) → Within (suc l) t
unfolding Within
within_sons l (leaf c) h = tt
within_sons l (fork a b c d) h = four_sons_lem (Within l) h

pub coloured_sons : (t : Tree) → ((q : ℕ) → q < 4 → Coloured (son_of t q)) → Coloured t
unfolding Coloured
coloured_sons (leaf c) h = unfold son_of in h 0 (omega arith)
coloured_sons (fork a b c d) h = four_sons_lem Coloured h

-- a root that is no fork by its type is a leaf; and like leaves are known by their types
pub leaf_by_type : (t : Tree) → (colour t ≡ fork_type → ⊥) → t ≡ leaf (colour t)
unfolding colour
leaf_by_type (leaf k) h = refl
leaf_by_type (fork _ _ _ _) h = absurd (h refl)

pub type_le : (t : Tree) → Coloured t → colour t ≤ fork_type
unfolding Coloured colour
type_le (leaf k) h = omega arith
type_le (fork _ _ _ _) h = omega arith

same_type_lem : (k : ℕ) (t : Tree) → k ≤ top_colour → same_leaf (leaf k) t ≡ eqb k (colour t)
unfolding same_leaf colour
same_type_lem k (leaf c) h = refl
same_type_lem k (fork _ _ _ _) h = sym (ne_eqb k fork_type (λ e. omega arith))

and_cond : (a b : Bool) → a && b ≡ cond a b false
and_cond true b = refl
and_cond false b = refl

pub alike_types : (a b c d : Tree) → Coloured a → alike a b c d ≡ like_types (colour a) (colour b) (colour c) (colour d)
alike_types (leaf k) b c d h =
    let le : k ≤ top_colour = unfold Coloured in h in
    simp (same_type_lem k b le, same_type_lem k c le, same_type_lem k d le, and_cond) (unfold like_types colour in rw (ne_eqb k fork_type (λ e. omega arith)))
alike_types (fork _ _ _ _) b c d h = unfold like_types colour same_leaf in refl

pub choice_le : (b : Bool) → cond b 0 1 ≤ 1
choice_le true = omega arith
choice_le false = omega arith

-- four types are those of like leaves where none of the others differs from the first, and a fork's does
pub like_counted : (a b c d x y z w : ℕ) → x ≡ from_bool (not (eqb a b)) → y ≡ from_bool (not (eqb a c)) → z ≡ from_bool (not (eqb a d))
    → w ≡ from_bool (not (eqb a fork_type)) → eqb (x + y + z + 1) w ≡ like_types a b c d
unfolding like_types
like_counted a b c d x y z w ex ey ez ew = rw (ex, ey, ez, ew) (go (eqb a b) (eqb a c) (eqb a d) (eqb a fork_type))
  where
    go : (i j k f : Bool) → eqb (from_bool (not i) + from_bool (not j) + from_bool (not k) + 1) (from_bool (not f)) ≡ cond f false (cond i (cond j k false) false)
    go true true true true = refl
    go true true true false = refl
    go true true false true = refl
    go true true false false = refl
    go true false true true = refl
    go true false true false = refl
    go true false false true = refl
    go true false false false = refl
    go false true true true = refl
    go false true true false = refl
    go false true false true = refl
    go false true false false = refl
    go false false true true = refl
    go false false true false = refl
    go false false false true = refl
    go false false false false = refl

-- two like leaves are leaves of one colour
pub same_leaf_lem : (s t : Tree) → same_leaf s t ≡ true → (s ≡ leaf (colour s)) × (t ≡ leaf (colour s))
unfolding same_leaf colour
same_leaf_lem (leaf c) (leaf k) e = (refl, ap leaf (sym (eqb-true c k e)))
same_leaf_lem (leaf c) (fork _ _ _ _) e = absurd (false≢true e)
same_leaf_lem (fork _ _ _ _) t e = absurd (false≢true e)

pub alike_leaves : (a b c d : Tree) → alike a b c d ≡ true → (leaf (colour a) ≡ a) × (leaf (colour a) ≡ b) × (leaf (colour a) ≡ c) × (leaf (colour a) ≡ d)
alike_leaves a b c d e =
    let e' = and_right (same_leaf a b) (same_leaf a c && same_leaf a d) e in
    let ab = same_leaf_lem a b (and_left (same_leaf a b) (same_leaf a c && same_leaf a d) e) in
    let ac = same_leaf_lem a c (and_left (same_leaf a c) (same_leaf a d) e') in
    let ad = same_leaf_lem a d (and_right (same_leaf a c) (same_leaf a d) e') in
    (cc, cc, cc, cc)

-- so a fork over four leaves of one colour is not reduced
needless : (k : ℕ) {a b c d : Tree} → alike a b c d ≡ false → (leaf k ≡ a) × (leaf k ≡ b) × (leaf k ≡ c) × (leaf k ≡ d) → ⊥
unfolding same_leaf
needless k e h =
    let s : same_leaf (leaf k) (leaf k) ≡ true = eq-eqb k k refl in
    let z : ◌≡◌ {A = ℕ} 0 1 = cc in
    omega arith

-- four like leaves, joined, have themselves for sons: a tree joined of four is not told from the fork over them
pub join_son : (a b c d : Tree) (q : ℕ) → son_of (join a b c d) q ≡ son_of (fork a b c d) q
unfolding join
join_son a b c d q =
    cond_case (λ (t : Tree). son_of t q ≡ son_of (fork a b c d) q) (alike a b c d) a (fork a b c d)
    (λ e. let l = alike_leaves a b c d e in
    let own : son_of (leaf (colour a)) q ≡ leaf (colour a) = unfold son_of in refl in
    let own' : leaf (colour a) ≡ son_of (fork a b c d) q = each_son (λ (t : Tree). leaf (colour a) ≡ t) l q in
    cc)
    (λ e. refl)

pub join_reduced : (a b c d : Tree) → ((q : ℕ) → q < 4 → Reduced (son_of (fork a b c d) q)) → Reduced (join a b c d)
unfolding join Reduced
join_reduced a b c d h =
    let r = four_sons_lem Reduced h in
    cond_case Reduced (alike a b c d) a (fork a b c d) (λ e. r.0) (λ e. (e, r.0, r.1, r.2, r.3))

-- reduced trees with the same sons are the same: no fork has four like leaves for sons
pub same_sons : (t u : Tree) → Reduced t → Reduced u → ((q : ℕ) → q < 4 → son_of t q ≡ son_of u q) → t ≡ u
unfolding Reduced son_of
same_sons (leaf c) (leaf k) r s h = h 0 (omega arith)
same_sons (leaf k) (fork a b c d) r s h = absurd (needless k s.0 (four_sons_lem (λ (t : Tree). leaf k ≡ t) h))
same_sons (fork a b c d) (leaf k) r s h = absurd (needless k r.0 (four_sons_lem (λ (t : Tree). leaf k ≡ t) (λ q l. sym (h q l))))
same_sons (fork a b c d) (fork a' b' c' d') r s h =
    let e₀ : a ≡ a' = h 0 (omega arith) in
    let e₁ : b ≡ b' = h 1 (omega arith) in
    let e₂ : c ≡ c' = h 2 (omega arith) in
    let e₃ : d ≡ d' = h 3 (omega arith) in
    cc

-- a tree has a node, and one type for each node
pub size_pos : (t : Tree) → 1 ≤ size_of t
unfolding size_of
size_pos (leaf c) = omega arith
size_pos (fork a b c d) = omega arith

pub types_length : (t : Tree) → length (types_of t) ≡ size_of t
unfolding types_of size_of
types_length (leaf c) = refl
types_length (fork a b c d) = simp (length-append, types_length a, types_length b, types_length c, types_length d) (omega arith)

-- a tree of level l has at most (4 ^ (l + 1) - 1) / 3 nodes, the complete tree's
pub size_le : (l : ℕ) (t : Tree) → Within l t → 3 * size_of t + 1 ≤ 4 * 4 ^ l
unfolding Within size_of
size_le l (leaf c) h = omega (arith, one-le-pow l 4 (omega arith))
size_le zero (fork a b c d) h = absurd h
size_le (suc l) (fork a b c d) h =
    omega (arith, pow-succ' 4 l, size_le l a h.0, size_le l b h.1, size_le l c h.2, size_le l d h.3)

-- so a sheet's table fits: at the top level there are most pixels
pub pixels_top : (n : ℕ) → n ≤ top_level → 4 ^ n ≤ 4 ^ top_level
pixels_top n top = pow-le-pow_right {n = 4} (omega arith) {i = n} {j = top_level} top

pub size_fits : (l : ℕ) (t : Tree) → l ≤ top_level → Within l t → 6 * size_of t ≤ max_words
size_fits l t top h = omega (arith, size_le l t h, pixels_top l top)
