-- The ponds and the raster that decoding gives: their pixel counts add up to its black bytes, and it alone decides
-- numbers and entries.
use mathlib.Core.List.{List}
use mathlib.Core.Path.{◌≡◌, ap, sym, ◌∙◌}
use Prim.Native.Nat.{ℕ, ◌+◌, ◌*◌, ◌/◌, ◌%◌, ◌^◌, ◌<◌}
use native.Mathlib.Nat.{zero-add}
use lib.Dec.{eqb}
use lib.ListN.{get_or}
use Rattle.base.specs.Tab.{sum}
use Rattle.base.proofs.TabLaws.{tab_at}
use Rattle.base.proofs.SumLaws.{sum_same}
use Rattle.quad.specs.Numbers.{black}
use Rattle.table.specs.Rules.{one, Accepted}
use Rattle.table.specs.Nodes.{pixel}
use Rattle.raster.specs.Raster.{raster_of}
use Rattle.raster.proofs.RasterLaws.{raster_pixel}
use Rattle.ponds.specs.Entries.{number_at, entry_of, entries}
use Rattle.ponds.specs.Numbered.{Numbered}
use Rattle.ponds.proofs.PictureLaws.{pixels_sum, picture_ponds}

-- the pixel counts of all ponds, and the black bytes of the raster
pub counts_of_raster : (n : ℕ) (T numbers : List ℕ) (count : ℕ) → Accepted n T → Numbered n T numbers count
    → sum (λ j. (entry_of n T numbers (j + 1)).pixels) count ≡ sum (λ i. one (eqb (get_or (raster_of n T) i 0) black)) (4 ^ n)
unfolding raster_of
counts_of_raster n T numbers count acc h =
    let f : ℕ → ℕ = λ i. pixel n T (i % 2 ^ n) (i / 2 ^ n) in
    pixels_sum n T numbers count acc h
    ∙ sum_same (λ i. one (eqb (f i) black)) (λ i. one (eqb (get_or (raster_of n T) i 0) black)) (4 ^ n)
    (λ i lt. ap (λ (c : ℕ). one (eqb c black)) (sym (tab_at f (4 ^ n) 0 i lt ∙ ap f (zero-add i))))

-- two accepted tables with one raster: every pixel has one number, and the ponds have the same entries
pub ponds_of_raster : (n : ℕ) (T U a b : List ℕ) (c d : ℕ) → Accepted n T → Accepted n U → raster_of n T ≡ raster_of n U → Numbered n T a c → Numbered n U b d
    → ((i : ℕ) → i < 4 ^ n → number_at n T a i ≡ number_at n U b i) × (c ≡ d) × (entries n T a c ≡ entries n U b d)
ponds_of_raster n T U a b c d at au same na nb =
    picture_ponds n T U a b c d at au
    (λ x y hx hy. sym (raster_pixel n T x y hx hy) ∙ ap (λ (l : List ℕ). get_or l (y * 2 ^ n + x) 0) same ∙ raster_pixel n U x y hx hy) na nb
