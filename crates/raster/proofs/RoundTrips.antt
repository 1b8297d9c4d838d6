-- A sheet and its raster are one picture (document 01, demand 2), for every n: what is built is accepted and decodes to
-- the raster that it was built from; what an accepted table decodes to builds to the preorder table of that table's one
-- tree, whatever the table's numbering.
use mathlib.Core.List.{List}
use mathlib.Core.Path.{◌≡◌, ap, sym, ◌∙◌}
use mathlib.Core.Logic.{⊎_elim}
use Prim.Native.Nat.{ℕ, zero, suc, ◌/◌, ◌%◌, ◌^◌, ◌≤◌, ◌<◌}
use native.Mathlib.Nat.{mod-lt}
use native.Mathlib.Omega.{arith}
use lib.ListN.{get_or, get_or-eq_default}
use lib.Pow.{pow_pos, split}
use Rattle.base.proofs.BoolLaws.{lt_or_ge}
use Rattle.quad.specs.Numbers.{top_colour}
use Rattle.quad.specs.Tree.{Tree, leaf, fork, son_of, colour, shade, Within, Coloured, Shows}
use Rattle.quad.proofs.PathLaws.{shade_top, shade_leaf}
use Rattle.quad.proofs.TreeLaws.{within_zero, within_son, coloured_son}
use Rattle.quad.proofs.PictureLaws.{tree_within, tree_reduced, built, same_picture, pixel_lt}
use Rattle.table.specs.Rules.{Accepted}
use Rattle.table.specs.Nodes.{tree_at, pixel}
use Rattle.table.specs.Preorder.{preorder_table}
use Rattle.table.proofs.AcceptedLaws.{Sound}
use Rattle.table.proofs.PictureLaws.{pixel_shade, sheet_tree, sheet_sound}
use Rattle.table.proofs.PreorderAccepted.{preorder_tree, preorder_accepted}
use Rattle.raster.specs.Raster.{picture_of, raster_of, raster_tree}
use Rattle.raster.specs.Blocks.{Picture}
use Rattle.raster.proofs.BlockLaws.{row_of_place, block_coloured}
use Rattle.raster.proofs.RasterLaws.{raster_size, raster_pixel, same_raster}

-- a raster's picture: its one tree, the table of that tree, and the raster again
module _ (n : ℕ) (R : List ℕ) (pic : Picture n R) where
  pub raster_sound : Sound n (raster_tree n R)
  unfolding raster_tree
  raster_sound = record {
    within = tree_within (picture_of n R) n 0 0;
    reduced = tree_reduced (picture_of n R) n 0 0;
    coloured = block_coloured n R pic n 0 0;
  }

  -- what is built is accepted by the check, and stands for the picture's one tree
  pub built_accepted : Accepted n (preorder_table (raster_tree n R))
  built_accepted = preorder_accepted n (raster_tree n R) pic.top raster_sound

  pub built_tree : tree_at (preorder_table (raster_tree n R)) n 0 ≡ raster_tree n R
  built_tree = preorder_tree n (raster_tree n R) pic.top raster_sound

  pub raster_shown : Shows (picture_of n R) n (raster_tree n R)
  unfolding raster_tree
  raster_shown = (built (picture_of n R) n).0

  -- decoding what was built gives the raster back
  pub built_decoded : raster_of n (preorder_table (raster_tree n R)) ≡ R
  unfolding Shows
  built_decoded =
      let T : List ℕ = preorder_table (raster_tree n R) in
      same_raster n (raster_of n T) R (raster_size n T) pic.whole (λ x y hx hy.
      raster_pixel n T x y hx hy ∙ pixel_shade n T x y ∙ rw built_tree (raster_shown x y hx hy))

-- an accepted table: its raster's one tree is its own
pub decoded_tree : (n : ℕ) (T : List ℕ) → Accepted n T → raster_tree n (raster_of n T) ≡ tree_at T n 0
unfolding raster_tree
decoded_tree n T acc =
    same_picture (picture_of n (raster_of n T)) (pixel n T) n 0 0 (λ x y hx hy. raster_pixel n T x y (pixel_lt n x hx) (pixel_lt n y hy))
    ∙ sym (sheet_tree n T acc)

-- so two accepted tables with one raster have one tree, and build to one table
pub one_raster_one_tree : (n : ℕ) (T U : List ℕ) → Accepted n T → Accepted n U → raster_of n T ≡ raster_of n U → tree_at T n 0 ≡ tree_at U n 0
one_raster_one_tree n T U a b e = sym (decoded_tree n T a) ∙ ap (raster_tree n) e ∙ decoded_tree n U b

-- and decoding does not see the numbering: one tree, one raster
pub one_tree_one_raster : (n : ℕ) (T U : List ℕ) → tree_at T n 0 ≡ tree_at U n 0 → raster_of n T ≡ raster_of n U
one_tree_one_raster n T U e =
    same_raster n (raster_of n T) (raster_of n U) (raster_size n T) (raster_size n U) (λ x y hx hy.
    raster_pixel n T x y hx hy ∙ pixel_shade n T x y ∙ rw e (sym (raster_pixel n U x y hx hy ∙ pixel_shade n U x y)))

-- the raster of an accepted table has no bad byte
leaf_coloured : (t : Tree) → Within 0 t → Coloured t → colour t ≤ top_colour
unfolding Within Coloured colour
leaf_coloured (leaf c) w h = h
leaf_coloured (fork _ _ _ _) w h = absurd w

shade_coloured : (l : ℕ) (t : Tree) (x y : ℕ) → Within l t → Coloured t → shade l t x y ≤ top_colour
shade_coloured zero t x y w c =
    let e : shade 0 t x y ≡ colour t = ap (λ (u : Tree). shade 0 u x y) (within_zero t w) ∙ shade_leaf 0 (colour t) x y in
    rw e (leaf_coloured t w c)
shade_coloured (suc l) t x y w c = rw (shade_top l t x y) (shade_coloured l (son_of t _) x y (within_son l t w _) (coloured_son t c _))

pub decoded_picture : (n : ℕ) (T : List ℕ) → Accepted n T → Picture n (raster_of n T)
decoded_picture n T acc = record { top = acc.sized.level; whole = raster_size n T; colours = λ i. ⊎_elim (inside i) (beyond i) (lt_or_ge i (4 ^ n)) }
  where
    inside : (i : ℕ) → i < 4 ^ n → get_or (raster_of n T) i 0 ≤ top_colour
    inside i lt =
        let x : ℕ = i % 2 ^ n in
        let y : ℕ = i / 2 ^ n in
        let hy : y < 2 ^ n = row_of_place n i lt in
        let e : get_or (raster_of n T) i 0 ≡ shade n (tree_at T n 0) x y = rw (split i n) at (raster_pixel n T x y (mod-lt i (pow_pos n)) hy ∙ pixel_shade n T x y) in
        let s = sheet_sound n T acc in
        rw e (shade_coloured n (tree_at T n 0) x y s.within s.coloured)

    beyond : (i : ℕ) → 4 ^ n ≤ i → get_or (raster_of n T) i 0 ≤ top_colour
    beyond i ge =
        let e : get_or (raster_of n T) i 0 ≡ 0 = get_or-eq_default (raster_of n T) 0 (omega (arith, raster_size n T)) in
        omega arith
