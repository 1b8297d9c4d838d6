-- What a row's runs spell out is that row of the raster that decoding gives (demand 3).
use mathlib.Core.List.{List}
use mathlib.Core.Path.{◌≡◌, ap, sym, ◌∙◌}
use Prim.Native.Nat.{ℕ, ◌+◌, ◌*◌, ◌^◌, ◌<◌}
use native.Mathlib.Nat.{zero-add}
use lib.ListN.{get_or}
use Rattle.base.proofs.TabLaws.{tab_at}
use Rattle.table.specs.Rules.{Accepted}
use Rattle.table.specs.Nodes.{pixel}
use Rattle.raster.specs.Raster.{raster_of}
use Rattle.raster.proofs.RasterLaws.{raster_pixel}
use Rattle.walk.specs.declared.Answer.{Answer}
use Rattle.walk_rows.specs.Rows.{RowRuns, spell}
use Rattle.walk_rows.proofs.RowLaws.{row_spells}

pub row_of_raster : (n : ℕ) (T : List ℕ) → Accepted n T → (x y : ℕ) (row : List Answer) → x < 2 ^ n → y < 2 ^ n → RowRuns n T y row
    → get_or (spell row) x 0 ≡ get_or (raster_of n T) (y * 2 ^ n + x) 0
row_of_raster n T acc x y row hx hy r =
    ap (λ (l : List ℕ). get_or l x 0) (row_spells n T acc y row hy r) ∙ tab_at (λ x. pixel n T x y) (2 ^ n) 0 x hx ∙ ap (λ (i : ℕ). pixel n T i y) (zero-add x) ∙ sym (raster_pixel n T x y hx hy)
