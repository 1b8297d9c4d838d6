-- `raster_notes::sixteen`: by the sums of its quarters.
use mathlib.Core.Path.{refl}
use Prim.Native.Nat.{◌+◌}
use native.Mathlib.Omega.{arith}
use Rattle.raster_notes.proofs.NoteLaws.{leaf_noted, four_kind, parts_fork}
use Rattle.raster_notes.proofs.sixteen.Goals as goal

pub returns-then-all-eq0 : goal.returns-then-all-eq0
returns-then-all-eq0 c =
    leaf_noted _ _ _ 4 _ _ _ (omega (arith, c.requires.1, c.told-kinds)) ((four_kind c.args.pixels.now.bytes.now c.args.pixels.now.across c.args.at (c.eight_rows-nw.result + c.eight_rows-ne.result + c.eight_rows-sw.result + c.eight_rows-se.result) c.requires.0.colours (omega (arith, c.eight_rows-nw.ensures.0, c.eight_rows-ne.ensures.0, c.eight_rows-sw.ensures.0, c.eight_rows-se.ensures.0))).0.0 c.if-all-eq0.true) (λ z. omega arith)

pub returns-then-all : goal.returns-then-all
returns-then-all c =
    leaf_noted _ _ _ 4 _ _ _ (omega (arith, c.requires.1, c.told-kinds)) ((four_kind c.args.pixels.now.bytes.now c.args.pixels.now.across c.args.at (c.eight_rows-nw.result + c.eight_rows-ne.result + c.eight_rows-sw.result + c.eight_rows-se.result) c.requires.0.colours (omega (arith, c.eight_rows-nw.ensures.0, c.eight_rows-ne.ensures.0, c.eight_rows-sw.ensures.0, c.eight_rows-se.ensures.0))).0.1 c.if-all.true) (λ z. omega arith)

pub returns : goal.returns
returns c =
    parts_fork _ _ _ 4 _ (omega arith) _ c.requires.0.colours _ _ c.quarters-nodes.ensures (omega (arith, c.quarters-nodes.ensures.long, c.requires.1, c.told-kinds)) _ refl ((four_kind c.args.pixels.now.bytes.now c.args.pixels.now.across c.args.at (c.eight_rows-nw.result + c.eight_rows-ne.result + c.eight_rows-sw.result + c.eight_rows-se.result) c.requires.0.colours (omega (arith, c.eight_rows-nw.ensures.0, c.eight_rows-ne.ensures.0, c.eight_rows-sw.ensures.0, c.eight_rows-se.ensures.0))).1 c.if-all-eq0.false c.if-all.false)
