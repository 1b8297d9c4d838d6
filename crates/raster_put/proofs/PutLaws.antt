-- Blocks of level 1 and 2, put: a leaf by the sum of its pixels, or a fork over its quarters, whose own words come
-- last.
use mathlib.Core.List.{List}
use mathlib.Core.Path.{◌≡◌, refl, ap, sym}
use Prim.Native.Nat.{ℕ, ◌+◌, ◌*◌, ◌/◌, ◌%◌, ◌≤◌}
use native.Mathlib.Omega.{arith}
use lib.Seq.{sets}
use Rattle.quad.specs.Numbers.{fork_type, max_words}
use Rattle.quad.specs.Tree.{leaf, size_of, tree_of}
use Rattle.table.specs.Writing.{node_words, leaf_words, Ready, Put}
use Rattle.table.proofs.WritingLaws.{leaf_put, ready_first, ready_second, ready_third, ready_fourth, fork_put}
use Rattle.raster.specs.Raster.{picture_of}
use Rattle.raster.specs.Blocks.{Picture, OnSheet}
use Rattle.raster.specs.Sums.{four_sum, sixteen_sum, four_over}
use Rattle.raster.proofs.BlockLaws.{on_son}
use Rattle.raster_lanes.proofs.KindLaws.{four_leaf, four_fork, sixteen_leaf, sixteen_fork}
use Rattle.raster_put.specs.Putting.{BlockToPut, BlockPut}

-- what is asked of a block to be put, as one fact with its picture, and back
pub to_put : {n l x y p words : ℕ} {R : List ℕ} → Picture n R → OnSheet n l x y × Ready (tree_of (picture_of n R) l x y) p words → BlockToPut n R l x y p words
to_put pic h = record { picture = pic; on = h.0; ready = h.1 }

pub put_asks : {n l x y p words : ℕ} {R : List ℕ} → BlockToPut n R l x y p words → Picture n R × OnSheet n l x y × Ready (tree_of (picture_of n R) l x y) p words
put_asks b = (b.picture, b.on, b.ready)

-- and without the picture, which a raster holds
pub put_wants : {n l x y p words : ℕ} {R : List ℕ} → BlockToPut n R l x y p words → OnSheet n l x y × Ready (tree_of (picture_of n R) l x y) p words
put_wants b = (b.on, b.ready)

-- a fork over four pixels
pub pixels_put : (f : ℕ → ℕ → ℕ) (x y p fa a b c d : ℕ) (U₀ U₁ U₂ U₃ U₄ after : List ℕ)
    → a ≡ f (2 * x) (2 * y) → b ≡ f (2 * x + 1) (2 * y) → c ≡ f (2 * x) (2 * y + 1) → d ≡ f (2 * x + 1) (2 * y + 1)
    → U₁ ≡ sets U₀ (6 * (p + 1)) (leaf_words p a) → U₂ ≡ sets U₁ (6 * (p + 2)) (leaf_words p b)
    → U₃ ≡ sets U₂ (6 * (p + 3)) (leaf_words p c) → U₄ ≡ sets U₃ (6 * (p + 4)) (leaf_words p d)
    → after ≡ sets U₄ (6 * p) (node_words fa (p + 1) (p + 2) (p + 3) (p + 4) fork_type) → Put (four_over f 0 x y) fa p U₀ after (p + 5)
unfolding tree_of
pixels_put f x y p fa a b c d U₀ U₁ U₂ U₃ U₄ after ea eb ec ed h₁ h₂ h₃ h₄ h =
    fork_put _ _ _ _ p fa (p + 2) (p + 3) (p + 4) (p + 5) U₀ U₁ U₂ U₃ U₄ after
    (leaf_put _ a (p + 1) p (p + 2) U₀ U₁ (ap leaf (sym ea)) (omega arith) h₁)
    (leaf_put _ b (p + 2) p (p + 3) U₁ U₂ (ap leaf (sym eb)) (omega arith) h₂)
    (leaf_put _ c (p + 3) p (p + 4) U₂ U₃ (ap leaf (sym ec)) (omega arith) h₃)
    (leaf_put _ d (p + 4) p (p + 5) U₃ U₄ (ap leaf (sym ed)) (omega arith) h₄)
    h

-- a block of level 1, s being the sum of its pixels
module _ {n x y p words : ℕ} {R : List ℕ} (b : BlockToPut n R 1 x y p words) (s : ℕ) (es : s ≡ four_sum (picture_of n R) x y) where
  pub four_put : (f : ℕ) (before after : List ℕ) → s % 4 ≡ 0 → after ≡ sets before (6 * p) (leaf_words f (s / 4)) → BlockPut n R 1 x y f p before after (p + 1)
  four_put f before after like h =
      leaf_put _ (s / 4) p f _ before after (four_leaf (picture_of n R) (λ i j. b.picture.colours _) x y (s / 4) (omega arith)) refl h

  pub pixels_wanted : (s % 4 ≡ 0 → ⊥) → OnSheet n 1 x y × (6 * (p + 5) ≤ words) × (p + 5 ≤ max_words)
  pixels_wanted mixed =
      let e = four_fork (picture_of n R) (λ i j. b.picture.colours _) x y (λ z. mixed (omega (arith, z))) in
      let five : size_of (tree_of (picture_of n R) 1 x y) ≡ 5 = rw e (unfold size_of tree_of in refl) in
      (b.on, omega (arith, b.ready.room, five), omega (arith, b.ready.few, five))

  pub pixels_to_put : (s % 4 ≡ 0 → ⊥) → Picture n R × OnSheet n 1 x y × (6 * (p + 5) ≤ words) × (p + 5 ≤ max_words)
  pixels_to_put mixed = let w = pixels_wanted mixed in (b.picture, w.0, w.1, w.2)

  -- what a fork over its four pixels was written for
  pub pixels_are : (s % 4 ≡ 0 → ⊥) → (f : ℕ) (before after : List ℕ) (r : ℕ) → Put (four_over (picture_of n R) 0 x y) f p before after r → BlockPut n R 1 x y f p before after r
  pixels_are mixed f before after r h =
      let e = four_fork (picture_of n R) (λ i j. b.picture.colours _) x y (λ z. mixed (omega (arith, z))) in rw e h

-- a block of level 2, s being the sum of its pixels
module _ {n x y p words : ℕ} {R : List ℕ} (t : BlockToPut n R 2 x y p words) (s : ℕ) (es : s ≡ sixteen_sum (picture_of n R) x y) where
  pub sixteen_put : (f : ℕ) (before after : List ℕ) → s % 16 ≡ 0 → after ≡ sets before (6 * p) (leaf_words f (s / 16))
      → BlockPut n R 2 x y f p before after (p + 1)
  sixteen_put f before after like h =
      leaf_put _ (s / 16) p f _ before after (sixteen_leaf (picture_of n R) (λ i j. t.picture.colours _) x y (s / 16) (omega arith)) refl h

  -- a fork: each quarter may be put where the one before it ends
  module _ (mixed : s % 16 ≡ 0 → ⊥) where
    over : tree_of (picture_of n R) 2 x y ≡ four_over (picture_of n R) 1 x y
    over = sixteen_fork (picture_of n R) (λ i j. t.picture.colours _) x y (λ z. mixed (omega (arith, z)))

    ready : Ready (four_over (picture_of n R) 1 x y) p words
    ready = rw over at t.ready

    quarter : (u v i : ℕ) → u ≤ 2 * x + 1 → v ≤ 2 * y + 1 → Ready (tree_of (picture_of n R) 1 u v) i words → BlockToPut n R 1 u v i words
    quarter u v i hu hv r = record { picture = t.picture; on = on_son t.on (omega arith) u v hu hv; ready = r }

    pub nw_to_put : BlockToPut n R 1 (2 * x) (2 * y) (p + 1) words
    nw_to_put = quarter _ _ _ (omega arith) (omega arith) (ready_first _ _ _ _ p words ready)

    module _ (b : ℕ) (eb : b ≡ p + 1 + size_of (tree_of (picture_of n R) 1 (2 * x) (2 * y))) where
      pub ne_to_put : BlockToPut n R 1 (2 * x + 1) (2 * y) b words
      ne_to_put = quarter _ _ _ (omega arith) (omega arith) (ready_second _ _ _ _ p words ready b eb)

      module _ (c : ℕ) (ec : c ≡ b + size_of (tree_of (picture_of n R) 1 (2 * x + 1) (2 * y))) where
        pub sw_to_put : BlockToPut n R 1 (2 * x) (2 * y + 1) c words
        sw_to_put = quarter _ _ _ (omega arith) (omega arith) (ready_third _ _ _ _ p words ready b eb c ec)

        pub se_to_put : (d : ℕ) → d ≡ c + size_of (tree_of (picture_of n R) 1 (2 * x) (2 * y + 1)) → BlockToPut n R 1 (2 * x + 1) (2 * y + 1) d words
        se_to_put d ed = quarter _ _ _ (omega arith) (omega arith) (ready_fourth _ _ _ _ p words ready b eb c ec d ed)

    pub quarters_put : {f b c d r : ℕ} {U₀ U₁ U₂ U₃ U₄ after : List ℕ} → BlockPut n R 1 (2 * x) (2 * y) p (p + 1) U₀ U₁ b
        → BlockPut n R 1 (2 * x + 1) (2 * y) p b U₁ U₂ c → BlockPut n R 1 (2 * x) (2 * y + 1) p c U₂ U₃ d → BlockPut n R 1 (2 * x + 1) (2 * y + 1) p d U₃ U₄ r
        → after ≡ sets U₄ (6 * p) (node_words f (p + 1) b c d fork_type) → BlockPut n R 2 x y f p U₀ after r
    quarters_put pa pb pc pd h = rw over (fork_put _ _ _ _ p _ _ _ _ _ _ _ _ _ _ _ pa pb pc pd h)
