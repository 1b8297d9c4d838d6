-- `raster_count::Raster::count_small`: a leaf, five nodes, or those of sixteen pixels.
use mathlib.Core.Path.{◌≡◌, ap, sym, ◌∙◌}
use native.Mathlib.Omega.{arith}
use Rattle.quad.specs.Tree.{colour, size_of}
use Rattle.raster_notes.proofs.NoteLaws.{leaf_noted, alone_noted}
use Rattle.raster.proofs.BuildLaws.{sheet_on}
use Rattle.raster_count.proofs.NotedLaws.{sheet_window, small_five, small_two}
use Rattle.raster_count.proofs.Raster.count_small.Goals as goal

pub returns-then-kind : goal.returns-then-kind
returns-then-kind c = leaf_noted _ _ _ _ _ _ _ (omega (arith, c.told-kinds)) (c.small_kind-kind.ensures ∙ sym (ap colour (sheet_window _ _))) c.if-kind.true

pub returns-then-self-eq1 : goal.returns-then-self-eq1
returns-then-self-eq1 c =
    alone_noted _ _ _ _ _ _ _ _ (omega (arith, c.requires)) (omega (arith, c.told-kinds)) (small_five _ _ c.args.self.now.picture c.if-self-eq1.true (sym c.small_kind-kind.ensures ∙ c.if-kind.false)) (c.small_kind-kind.ensures ∙ sym (ap colour (sheet_window _ _)))

pub count_sixteen-requires : goal.count_sixteen-requires
count_sixteen-requires c =
    let two : c.args.self.now.n ≡ 2 = small_two _ _ c.args.self.now.picture c.requires c.if-self-eq1.false (sym c.small_kind-kind.ensures ∙ c.if-kind.false) in
    rw two (sheet_on 2)

pub returns : goal.returns
returns c =
    let two : c.args.self.now.n ≡ 2 = small_two _ _ c.args.self.now.picture c.requires c.if-self-eq1.false (sym c.small_kind-kind.ensures ∙ c.if-kind.false) in alone_noted _ _ _ _ _ _ _ _ (omega (arith, c.requires)) (omega (arith, c.told-kinds)) (rw two ((rw two at c.count_sixteen.ensures) ∙ sym (ap size_of (sheet_window 2 _)))) (c.small_kind-kind.ensures ∙ sym (ap colour (sheet_window _ _)))
