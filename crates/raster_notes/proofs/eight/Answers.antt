-- `raster_notes::eight`: by the sum of its rows.
use mathlib.Core.Path.{ap, sym, ◌∙◌}
use Prim.Native.Nat.{ℕ}
use lib.ListN.{set}
use Rattle.raster_notes.proofs.TellLaws.{block_kind, leaf_nodes}
use Rattle.raster_notes.proofs.eight.Goals as goal

pub returns-then-kind : goal.returns-then-kind
returns-then-kind c =
    (leaf_nodes _ (λ q. c.if-kind.true (block_kind _ _ _ c.args.pixels.now.colours _ _ c.requires.1 c.kind-kind.ensures ∙ q)), ap (λ (k : ℕ). set c.args.kinds.now c.args.slot k) (block_kind _ _ _ c.args.pixels.now.colours _ _ c.requires.1 c.kind-kind.ensures))

pub nodes-requires : goal.nodes-requires
nodes-requires c = (c.requires.0, sym (block_kind _ _ _ c.args.pixels.now.colours _ _ c.requires.1 c.kind-kind.ensures) ∙ c.if-kind.false)

pub returns : goal.returns
returns c = (c.nodes.ensures, ap (λ (k : ℕ). set c.args.kinds.now c.args.slot k) (block_kind _ _ _ c.args.pixels.now.colours _ _ c.requires.1 c.kind-kind.ensures))
