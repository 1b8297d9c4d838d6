-- A picture's ponds are numbered in one way, whatever the numbers of its nodes: were a pixel the first at which two
-- numberings differ, the lower of its two numbers would stand at an earlier pixel in both, and so one chain would join
-- the two pixels' leaves in one numbering and not in the other.
use mathlib.Core.Bool.{true, false}
use mathlib.Core.List.{List}
use mathlib.Core.Logic.{⊎_elim}
use mathlib.Core.Path.{◌≡◌, refl, sym, ◌∙◌}
use Prim.Native.Nat.{ℕ, zero, suc, ◌%◌, ◌/◌, ◌^◌, ◌≤◌, ◌<◌}
use native.Mathlib.Nat.{le_antisymm, eq-zero-or-pos, mod-lt, div-lt_iff_lt-mul}
use native.Mathlib.Omega.{arith}
use lib.Dec.{eqb}
use lib.Seq.{ext_get_or}
use lib.Pow.{pow_pos}
use borrow.Author.Tests.{eqb-true, eqb-false}
use Rattle.base.proofs.BoolLaws.{by_bool, lt_or_ge}
use Rattle.base.proofs.PowLaws.{four_pow}
use Rattle.neighbour.proofs.SmallestLaws.{holder_contains}
use Rattle.quad.specs.Numbers.{black}
use Rattle.table.specs.Table.{nodes, node_type}
use Rattle.table.specs.Rules.{Accepted}
use Rattle.table.specs.Nodes.{pixel}
use Rattle.ponds.specs.Chain.{Water, Chain}
use Rattle.ponds.specs.Words.{word_of}
use Rattle.ponds.specs.Entries.{leaf_at, number_at}
use Rattle.ponds.specs.Numbered.{Numbered}
use Rattle.ponds.proofs.LeafLaws.{black_leaf, leaf_node, leaf_pixel}
use Rattle.ponds.proofs.PathLaws.{path_chain, chain_path, same_path}

-- a node with a number above 0 is a black leaf
water_of : (n : ℕ) (T a : List ℕ) (c p : ℕ) → Numbered n T a c → p < nodes T → 0 < word_of a p → Water T p
water_of n T a c p na lt pos =
    ⊎_elim
    (λ (e : eqb (node_type T p) black ≡ true). record { node = lt; wet = eqb-true (node_type T p) black e })
    (λ (e : eqb (node_type T p) black ≡ false). absurd (omega (arith, na.dry p lt (eqb-false (node_type T p) black e))))
    (by_bool (eqb (node_type T p) black))

-- U has T's picture, said of pixels by rows: the colours, and the chains
record Like (n : ℕ) (T U : List ℕ) : Type 0 where
  colour : (i : ℕ) → i < 4 ^ n → node_type T (leaf_at n T i) ≡ node_type U (leaf_at n U i)
  chain : (i j : ℕ) → i < 4 ^ n → j < 4 ^ n → Chain n T (leaf_at n T i) (leaf_at n T j) → Chain n U (leaf_at n U i) (leaf_at n U j)

-- a table is like itself
like_itself : (n : ℕ) (T : List ℕ) → Like n T T
like_itself n T = record { colour = λ i lt. refl; chain = λ i j hi hj c. c }

-- so are two tables of one picture: a chain is a path of pixels
like_picture : (n : ℕ) (T U : List ℕ) → Accepted n T → Accepted n U → ((x y : ℕ) → x < 2 ^ n → y < 2 ^ n → pixel n T x y ≡ pixel n U x y) → Like n T U
unfolding leaf_at pixel
like_picture n T U at au same =
    let across : (i : ℕ) → i % 2 ^ n < 2 ^ n = λ i. mod-lt i (pow_pos n) in
    let down : (i : ℕ) → i < 4 ^ n → i / 2 ^ n < 2 ^ n = λ i lt. (div-lt_iff_lt-mul {k = 2 ^ n} {x = i} {y = 2 ^ n} (pow_pos n)).1 (rw (four_pow n) at lt) in
    record {
      colour = λ i lt. same (i % 2 ^ n) (i / 2 ^ n) (across i) (down i lt);
      chain = λ i j hi hj c.
          path_chain n U au (i % 2 ^ n) (i / 2 ^ n) (j % 2 ^ n) (j / 2 ^ n)
          (same_path n (pixel n T) (pixel n U) same (i % 2 ^ n) (i / 2 ^ n) (j % 2 ^ n) (j / 2 ^ n)
          (chain_path n T at (leaf_at n T i) (leaf_at n T j) c (i % 2 ^ n) (i / 2 ^ n) (j % 2 ^ n) (j / 2 ^ n)
          (holder_contains n T at n (i % 2 ^ n) (i / 2 ^ n) (across i) (down i hi))
          (holder_contains n T at n (j % 2 ^ n) (j / 2 ^ n) (across j) (down j hj))));
    }

module _ (n : ℕ) where
  -- at the first pixel at which they differ, neither is the lower
  not_lower : (T U a b : List ℕ) (c d i : ℕ) → Accepted n T → Accepted n U → Like n T U → Numbered n T a c → Numbered n U b d → i < 4 ^ n
      → ((j : ℕ) → j < i → number_at n T a j ≡ number_at n U b j) → number_at n T a i < number_at n U b i → ⊥
  not_lower T U a b c d i at au like na nb lt same less =
      let water : (j : ℕ) → j < 4 ^ n → 0 < number_at n U b j → Water T (leaf_at n T j) =
      λ j h pos. record { node = leaf_node n T at j; wet = like.colour j h ∙ (water_of n U b d (leaf_at n U j) nb (leaf_node n U au j) pos).wet } in
      let w = water i lt (omega arith) in
      let o = nb.order i (number_at n T a i) lt (na.some (leaf_at n T i) w) less in
      let j = o.0 in
      let hj : j < 4 ^ n = omega (arith, o.1) in
      let v = water j hj (omega (arith, o.2, na.some (leaf_at n T i) w)) in
      let chain = na.apart (leaf_at n T j) (leaf_at n T i) v w (same j o.1 ∙ o.2) in
      omega (arith, nb.one (leaf_at n U j) (leaf_at n U i) (like.chain j i hj lt chain), o.2)

  module _ (T U a b : List ℕ) (c d : ℕ) (at : Accepted n T) (au : Accepted n U) (to : Like n T U) (back : Like n U T)
      (na : Numbered n T a c) (nb : Numbered n U b d) where
    same_below : (k i : ℕ) → i < k → i < 4 ^ n → number_at n T a i ≡ number_at n U b i
    same_below zero i h lt = absurd (omega arith)
    same_below (suc k) i h lt =
        let same : (j : ℕ) → j < i → number_at n T a j ≡ number_at n U b j = λ j m. same_below k j (omega arith) (omega arith) in
        ⊎_elim
        (λ (l : number_at n T a i < number_at n U b i). absurd (not_lower T U a b c d i at au to na nb lt same l))
        (λ (g : number_at n U b i ≤ number_at n T a i).
        ⊎_elim
        (λ (l : number_at n U b i < number_at n T a i). absurd (not_lower U T b a d c i au at back nb na lt (λ j m. sym (same j m)) l))
        (λ (le : number_at n T a i ≤ number_at n U b i). le_antisymm le g)
        (lt_or_ge (number_at n U b i) (number_at n T a i)))
        (lt_or_ge (number_at n T a i) (number_at n U b i))

    same_numbers : (i : ℕ) → i < 4 ^ n → number_at n T a i ≡ number_at n U b i
    same_numbers i lt = same_below (suc i) i (omega arith) lt

    -- the highest number is the other numbering's too
    no_more : c ≤ d
    no_more =
        ⊎_elim
        (λ (z : c ≡ 0). omega arith)
        (λ (pos : 0 < c).
        let h = na.all c pos (omega arith) in
        let i = leaf_pixel n T at h.0 h.1.node (black_leaf T h.0 h.1.wet) in
        let e : number_at n U b i.0 ≡ c = sym (same_numbers i.0 i.1) ∙ rw i.2 h.2 in
        let w = water_of n U b d (leaf_at n U i.0) nb (leaf_node n U au i.0) (omega (arith, e)) in
        omega (arith, e, nb.few (leaf_at n U i.0) w))
        (eq-zero-or-pos c)

  -- two accepted tables of one picture: every pixel has one number, and the ponds are as many
  pub picture_numbering : (T U a b : List ℕ) (c d : ℕ) → Accepted n T → Accepted n U
      → ((x y : ℕ) → x < 2 ^ n → y < 2 ^ n → pixel n T x y ≡ pixel n U x y) → Numbered n T a c → Numbered n U b d
      → ((i : ℕ) → i < 4 ^ n → number_at n T a i ≡ number_at n U b i) × (c ≡ d)
  picture_numbering T U a b c d at au same na nb =
      let to = like_picture n T U at au same in
      let back = like_picture n U T au at (λ x y hx hy. sym (same x y hx hy)) in
      (same_numbers T U a b c d at au to back na nb, le_antisymm (no_more T U a b c d at au to back na nb) (no_more U T b a d c au at back to nb na))

  -- one table: every word, too
  pub one_numbering : (T : List ℕ) → Accepted n T → (a b : List ℕ) (c d : ℕ) → Numbered n T a c → Numbered n T b d → (a ≡ b) × (c ≡ d)
  one_numbering T acc a b c d na nb =
      let me = like_itself n T in
      let word : (p : ℕ) → p < nodes T → word_of a p ≡ word_of b p = λ p lt.
      ⊎_elim
      (λ (e : eqb (node_type T p) black ≡ true).
      let i = leaf_pixel n T acc p lt (black_leaf T p (eqb-true (node_type T p) black e)) in
      rw i.2 at (same_numbers T T a b c d acc acc me me na nb i.0 i.1))
      (λ (e : eqb (node_type T p) black ≡ false).
      let dry = eqb-false (node_type T p) black e in
      na.dry p lt dry ∙ sym (nb.dry p lt dry))
      (by_bool (eqb (node_type T p) black)) in (
        ext_get_or 0 a b (na.each ∙ sym nb.each) (λ p lt. word p (rw na.each at lt)),
        le_antisymm (no_more T T a b c d acc acc me me na nb) (no_more T T b a d c acc acc me me nb na),
      )
