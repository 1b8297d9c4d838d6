-- A fork that is put quarter by quarter: each quarter is a block that may be put, with notes of its own, and once it is
-- put the loop goes on.
use mathlib.Core.List.{List}
use mathlib.Core.Path.{◌≡◌, refl, sym, ◌∙◌}
use Prim.Native.Nat.{ℕ, ◌+◌, ◌-◌, ◌*◌, ◌/◌, ◌%◌, ◌^◌, ◌≤◌, ◌<◌}
use native.Mathlib.Omega.{arith}
use lib.ListN.{length, get_or, set}
use lib.Seq.{sets}
use Rattle.quad.specs.Numbers.{fork_type, top_level}
use Rattle.quad.specs.Tree.{colour, son_of, tree_of}
use Rattle.table.specs.Writing.{leaf_words, Ready}
use Rattle.table.proofs.WritingLaws.{type_put, Forked, InTurn, son_ready, son_put}
use Rattle.raster.specs.Raster.{picture_of}
use Rattle.raster.proofs.BlockLaws.{on_small, on_son}
use Rattle.raster.proofs.BuildLaws.{sheet_on}
use Rattle.raster.specs.Blocks.{Picture, OnSheet}
use Rattle.raster_notes.specs.Notes.{slots_of, Noted}
use Rattle.raster_notes.proofs.NoteLaws.{slots_some, times_below}
use Rattle.raster_count.specs.Kinds.{Known}
use Rattle.raster_count.proofs.ForkLaws.{tree_of_son, block_forked, fork_pos}
use Rattle.raster_count.proofs.NotedLaws.{known_kind, known_part, sheet_kind, sheet_known}
use Rattle.raster_put.specs.Putting.{BlockToPut, BlockPut}
use Rattle.raster_build.specs.NotedBlocks.{ForkToPut, SheetToPut}

-- what is asked of a fork to be put, and of the whole sheet, as one fact with its picture, and back
pub fork_to_put : {n : ℕ} {R K : List ℕ} {l x y slot slots p words : ℕ}
    → Picture n R → OnSheet n l x y × (3 ≤ l) × (colour (tree_of (picture_of n R) l x y) ≡ fork_type) × Ready (tree_of (picture_of n R) l x y) p words × Known n R K l x y slot slots
    → ForkToPut n R K l x y slot slots p words
fork_to_put pic h = record { block = record { picture = pic; on = h.0; ready = h.3 }; high = h.1; fork = h.2; known = h.4 }

pub fork_asks : {n : ℕ} {R K : List ℕ} {l x y slot slots p words : ℕ} → ForkToPut n R K l x y slot slots p words
    → Picture n R × OnSheet n l x y × (3 ≤ l) × (colour (tree_of (picture_of n R) l x y) ≡ fork_type) × Ready (tree_of (picture_of n R) l x y) p words × Known n R K l x y slot slots
fork_asks b = (b.block.picture, b.block.on, b.high, b.fork, b.block.ready, b.known)

-- and without the picture, which a raster holds
pub fork_wants : {n : ℕ} {R K : List ℕ} {l x y slot slots p words : ℕ} → ForkToPut n R K l x y slot slots p words
    → OnSheet n l x y × (3 ≤ l) × (colour (tree_of (picture_of n R) l x y) ≡ fork_type) × Ready (tree_of (picture_of n R) l x y) p words × Known n R K l x y slot slots
fork_wants b = (b.block.on, b.high, b.fork, b.block.ready, b.known)

pub sheet_to_put : {n words : ℕ} {R K : List ℕ} → Picture n R → Noted R (2 ^ n) K (n - 3) n 0 0 × Ready (tree_of (picture_of n R) n 0 0) 0 words → SheetToPut n R K words
sheet_to_put pic h = record { picture = pic; noted = h.0; ready = h.1 }

module _ {n : ℕ} {R K : List ℕ} {l x y slot slots p words : ℕ} (b : ForkToPut n R K l x y slot slots p words) where
  pub its_fork : Forked (tree_of (picture_of n R) l x y)
  its_fork = block_forked n l x y R b.block.picture b.fork

  pub corner_few : (x < 2 ^ top_level) × (y < 2 ^ top_level)
  corner_few = on_small b.block.picture.top b.block.on

  -- quarter q, above level 2: its notes, in slots of their own
  module _ (q : ℕ) (q4 : q < 4) where
    pub slot_few : slot + 1 + q * (slots / 4) ≤ 342
    slot_few = omega (arith, times_below q 4 (slots / 4) q4, b.known.room)

    module _ (over : l - 1 ≡ 2 → ⊥) where
      pub quarter_known : Known n R K (l - 1) (2 * x + q % 2) (2 * y + q / 2) (slot + 1 + q * (slots / 4)) (slots / 4)
      quarter_known = known_part n R K l x y slot slots b.known (omega (arith, b.high, over)) b.fork q q4

      pub slot_noted : slot + 1 + q * (slots / 4) < 341
      slot_noted = omega (arith, quarter_known.room, slots_some (l - 1 - 3), quarter_known.slots)

-- its turn in the loop, its number being written
module _ {n : ℕ} {R K : List ℕ} {l x y slot slots p : ℕ} (w : List ℕ) (b : ForkToPut n R K l x y slot slots p (length w)) (f : ℕ) {q next : ℕ} {w' : List ℕ}
    (turn : InTurn (tree_of (picture_of n R) l x y) p q next (set w (6 * p) f) w') (q4 : q < 4) where
  -- the quarter is of level m
  module _ (m : ℕ) (em : l - 1 ≡ m) where
    is_son : son_of (tree_of (picture_of n R) l x y) q ≡ tree_of (picture_of n R) m (2 * x + q % 2) (2 * y + q / 2)
    is_son = rw (← em) (tree_of_son (picture_of n R) l x y q (omega (arith, b.high)) q4)

    pub quarter_to_put : BlockToPut n R m (2 * x + q % 2) (2 * y + q / 2) next (length (set w' (6 * p + 1 + q) next))
    quarter_to_put = record {
      picture = b.block.picture;
      on = rw (← em) (on_son b.block.on (omega (arith, b.high)) _ _ (omega arith) (omega arith));
      ready = rw (← is_son) (son_ready (its_fork b) w b.block.ready f turn q4);
    }

    pub quarter_put : {w₂ : List ℕ} {r : ℕ} → BlockPut n R m (2 * x + q % 2) (2 * y + q / 2) p next (set w' (6 * p + 1 + q) next) w₂ r
        → InTurn (tree_of (picture_of n R) l x y) p (q + 1) r (set w (6 * p) f) w₂
    quarter_put h = son_put (its_fork b) w b.block.ready f turn q4 (rw (← is_son) at h)

  -- by its note it is a fork, or a leaf
  module _ (over : l - 1 ≡ 2 → ⊥) where
    pub quarter_forked : get_or K (slot + 1 + q * (slots / 4)) 0 ≡ fork_type
        → ForkToPut n R K (l - 1) (2 * x + q % 2) (2 * y + q / 2) (slot + 1 + q * (slots / 4)) (slots / 4) next (length (set w' (6 * p + 1 + q) next))
    quarter_forked e = record {
      block = quarter_to_put (l - 1) refl;
      high = omega (arith, b.high, over);
      fork = sym (known_kind _ _ _ _ _ _ _ _ (quarter_known b q q4 over)) ∙ e;
      known = quarter_known b q q4 over;
    }

    pub quarter_leaf : {w₂ : List ℕ} → (get_or K (slot + 1 + q * (slots / 4)) 0 ≡ fork_type → ⊥)
        → w₂ ≡ sets (set w' (6 * p + 1 + q) next) (6 * next) (leaf_words p (get_or K (slot + 1 + q * (slots / 4)) 0))
        → InTurn (tree_of (picture_of n R) l x y) p (q + 1) (next + 1) (set w (6 * p) f) w₂
    quarter_leaf {w₂} ne h =
        quarter_put (l - 1) refl (type_put _ _ next p _ _ w₂ (known_kind _ _ _ _ _ _ _ _ (quarter_known b q q4 over)) ne refl h)

-- the whole sheet: a block of level 1 or 2, or by its note a fork above
pub sheet_of : {n words : ℕ} {R : List ℕ} (m : ℕ) → BlockToPut n R n 0 0 0 words → n ≡ m → BlockToPut m R m 0 0 0 words
sheet_of m b e = rw e at b

module _ {n words : ℕ} {R K : List ℕ} (b : SheetToPut n R K words) where
  pub sheet_block : BlockToPut n R n 0 0 0 words
  sheet_block = record { picture = b.picture; on = sheet_on n; ready = b.ready }

  pub sheet_forked : get_or K 0 0 ≡ fork_type → (n ≡ 1 → ⊥) → (n ≡ 2 → ⊥) → (t : ℕ) → t ≡ slots_of (n - 3) → ForkToPut n R K n 0 0 0 t 0 words
  sheet_forked e one two t et =
      let fk = sym (sheet_kind n R K b.noted) ∙ e in
      record {
        block = sheet_block;
        high = omega (arith, fork_pos n n 0 0 R b.picture fk, one, two);
        fork = fk;
        known = sheet_known n R K b.noted t b.picture.top et;
      }
