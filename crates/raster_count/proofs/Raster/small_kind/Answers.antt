-- `raster_count::Raster::small_kind`: by the sum of all its pixels.
use mathlib.Core.Path.{◌≡◌, ◌∙◌}
use native.Mathlib.Omega.{arith}
use Rattle.quad.specs.Tree.{colour, tree_of}
use Rattle.raster.proofs.BuildLaws.{sheet_on}
use Rattle.raster_count.proofs.NotedLaws.{four_told, sixteen_told}
use Rattle.raster_count.proofs.Raster.small_kind.Goals as goal

pub pixel_at-requires : goal.pixel_at-requires
pixel_at-requires c = rw c.in-0.is (sheet_on 0)

pub returns-in-0 : goal.returns-in-0
returns-in-0 c = rw c.in-0.is (unfold tree_of colour in rw c.in-0.is at c.pixel_at.ensures)

pub sum_four-requires : goal.sum_four-requires
sum_four-requires c = rw c.in-1.is (sheet_on 1)

pub returns-in-1 : goal.returns-in-1
returns-in-1 c =
    rw c.in-1.is (four_told 1 _ (rw c.in-1.is at c.args.self.now.picture) 0 0 _ _ (c.from.ensures ∙ rw c.in-1.is at c.sum_four.ensures.0) c.kind.ensures)

pub sum_sixteen-requires : goal.sum_sixteen-requires
sum_sixteen-requires c =
    let two : c.args.self.now.n ≡ 2 = omega arith in
    rw two (sheet_on 2)

pub returns-in_default : goal.returns-in_default
returns-in_default c =
    let two : c.args.self.now.n ≡ 2 = omega arith in
    rw two (sixteen_told 2 _ (rw two at c.args.self.now.picture) 0 0 _ _ (c.from-in_default.ensures ∙ rw two at c.sum_sixteen.ensures) c.kind-in_default.ensures)
