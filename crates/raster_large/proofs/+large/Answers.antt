use mathlib.Core.Path.{refl, sym, ◌∙◌}
use native.Mathlib.Omega.{arith}
use Rattle.raster_notes.proofs.NoteLaws.{slots_some, slots_four, slots_part, four_slots, part_called, part_tallied, parts_none, parts_next, parts_fit, parts_all, parts_joined, parts_many, parts_fork, parts_leaf}
use Prim.Native.Nat.{ℕ, ◌+◌, ◌-◌, ◌*◌, ◌/◌}
use mathlib.Core.List.{List}
use mathlib.Core.Path.{◌≡◌}
use Rattle.raster_notes.specs.Notes.{NotedSize}
use Rattle.raster_large.proofs.+large.Goals.{then-half-eq4, else-half-eq4}
use Rattle.raster_large.proofs.+large.Goals as goal

pub loop-q-init : goal.loop-q-init
loop-q-init t c = parts_none _ _ _ _ _ _

pub sixteen-nodes-requires : goal.sixteen-nodes-requires
sixteen-nodes-requires t c =
    (rw c.if-half-eq4.true at (part_called c.args.pixels.now.bytes.now c.args.pixels.now.across c.args.at c.args.level c.args.slot c.loop-q.q c.side-side.result c.part_at-place.result c.args.slots c.requires.1 (omega arith) c.side-side.ensures c.part_at-place.ensures c.requires.3 c.requires.0 c.requires.4).0, four_slots _ _ _ c.if-half-eq4.true (slots_part _ _ (omega (arith, c.requires.1)) c.requires.3) (part_called c.args.pixels.now.bytes.now c.args.pixels.now.across c.args.at c.args.level c.args.slot c.loop-q.q c.side-side.result c.part_at-place.result c.args.slots c.requires.1 (omega arith) c.side-side.ensures c.part_at-place.ensures c.requires.3 c.requires.0 c.requires.4).1)

pub overflow_add-nodes : goal.overflow_add-nodes
overflow_add-nodes t c =
    omega (arith, parts_fit c.args.pixels.now.bytes.now c.args.pixels.now.across c.args.at c.args.level c.args.slot (omega (arith, c.requires.1)) _ _ _ _ _ _ c.loop-q.invariant (omega arith) c.requires.2 (part_tallied c.args.pixels.now.bytes.now c.args.pixels.now.across c.args.at c.args.level c.args.slot c.loop-q.q c.side-side.result c.part_at-place.result c.args.slots c.requires.1 (omega arith) c.side-side.ensures c.part_at-place.ensures c.requires.3 _ _ _ _ c.if-half-eq4.true c.sixteen-nodes.ensures))

pub large-nodes-requires : goal.large-nodes-requires
large-nodes-requires t c =
    (omega (arith, c.decreases, c.requires.1), ((part_called c.args.pixels.now.bytes.now c.args.pixels.now.across c.args.at c.args.level c.args.slot c.loop-q.q c.side-side.result c.part_at-place.result c.args.slots c.requires.1 (omega arith) c.side-side.ensures c.part_at-place.ensures c.requires.3 c.requires.0 c.requires.4).0, omega (arith, c.requires.1, c.if-half-eq4.false), omega (arith, c.requires.2), slots_part _ _ (omega (arith, c.requires.1)) c.requires.3, (part_called c.args.pixels.now.bytes.now c.args.pixels.now.across c.args.at c.args.level c.args.slot c.loop-q.q c.side-side.result c.part_at-place.result c.args.slots c.requires.1 (omega arith) c.side-side.ensures c.part_at-place.ensures c.requires.3 c.requires.0 c.requires.4).1))

pub overflow_add-nodes-else-half-eq4 : goal.overflow_add-nodes-else-half-eq4
overflow_add-nodes-else-half-eq4 t c =
    omega (arith, parts_fit c.args.pixels.now.bytes.now c.args.pixels.now.across c.args.at c.args.level c.args.slot (omega (arith, c.requires.1)) _ _ _ _ _ _ c.loop-q.invariant (omega arith) c.requires.2 (part_tallied c.args.pixels.now.bytes.now c.args.pixels.now.across c.args.at c.args.level c.args.slot c.loop-q.q c.side-side.result c.part_at-place.result c.args.slots c.requires.1 (omega arith) c.side-side.ensures c.part_at-place.ensures c.requires.3 _ _ _ _ (refl) c.large-nodes.ensures))

pub loop-q-preserved : goal.loop-q-preserved
loop-q-preserved t c =
    let next = λ (m r : ℕ) (K : List ℕ) (e : c.args.level - 1 ≡ m) (n : NotedSize c.args.pixels.now.bytes.now c.args.pixels.now.across c.part_at-place.result m (c.args.slot + 1 + c.loop-q.q * (c.args.slots / 4)) c.loop-q.kinds K r).
    parts_next c.args.pixels.now.bytes.now c.args.pixels.now.across c.args.at c.args.level c.args.slot (omega (arith, c.requires.1)) _ _ _ _ _ _ c.loop-q.invariant (omega arith) (part_tallied c.args.pixels.now.bytes.now c.args.pixels.now.across c.args.at c.args.level c.args.slot c.loop-q.q c.side-side.result c.part_at-place.result c.args.slots c.requires.1 (omega arith) c.side-side.ensures c.part_at-place.ensures c.requires.3 m r _ K e n) in
    elim c.if-half-eq4.branch [
      | then-half-eq4 w ↦ rw (w.kinds-is, w.nodes-is) (next _ _ _ w.if-half-eq4.true w.sixteen-nodes.ensures)
      | else-half-eq4 w ↦ rw (w.kinds-is, w.nodes-is) (next _ _ _ refl w.large-nodes.ensures)
    ]

pub bounds-kinds-slot : goal.bounds-kinds-slot
bounds-kinds-slot t c = omega (arith, slots_four _ _ (omega (arith, c.requires.1)) c.requires.3, c.requires.4)

pub returns-then-nodes-ne5 : goal.returns-then-nodes-ne5
returns-then-nodes-ne5 t c =
    parts_fork c.args.pixels.now.bytes.now c.args.pixels.now.across c.args.at c.args.level c.args.slot (omega (arith, c.requires.1)) _ c.requires.0.colours _ _ (parts_all _ _ _ _ _ _ _ _ _ c.loop-q.invariant (omega arith)) (omega (arith, (c.loop-q.invariant.long ∙ c.told-kinds), c.requires.3, c.requires.4, slots_four _ _ (omega (arith, c.requires.1)) c.requires.3)) _ refl (parts_many c.args.pixels.now.bytes.now c.args.pixels.now.across c.args.at c.args.level c.args.slot (omega (arith, c.requires.1)) _ c.requires.0.colours _ _ (parts_all _ _ _ _ _ _ _ _ _ c.loop-q.invariant (omega arith)) (omega (arith, (c.loop-q.invariant.long ∙ c.told-kinds), c.requires.3, c.requires.4, slots_four _ _ (omega (arith, c.requires.1)) c.requires.3)) c.if-nodes-ne5.true)

pub bounds-kinds-first : goal.bounds-kinds-first
bounds-kinds-first t c =
    omega (arith, slots_four _ _ (omega (arith, c.requires.1)) c.requires.3, slots_part _ _ (omega (arith, c.requires.1)) c.requires.3, slots_some (c.args.level - 1 - 3), c.requires.4)

pub bounds-kinds-first-2 : goal.bounds-kinds-first-2
bounds-kinds-first-2 t c =
    omega (arith, slots_four _ _ (omega (arith, c.requires.1)) c.requires.3, slots_part _ _ (omega (arith, c.requires.1)) c.requires.3, slots_some (c.args.level - 1 - 3), c.requires.4)

pub bounds-kinds-first-3 : goal.bounds-kinds-first-3
bounds-kinds-first-3 t c =
    omega (arith, slots_four _ _ (omega (arith, c.requires.1)) c.requires.3, slots_part _ _ (omega (arith, c.requires.1)) c.requires.3, slots_some (c.args.level - 1 - 3), c.requires.4)

pub bounds-kinds-first-4 : goal.bounds-kinds-first-4
bounds-kinds-first-4 t c =
    omega (arith, slots_four _ _ (omega (arith, c.requires.1)) c.requires.3, slots_part _ _ (omega (arith, c.requires.1)) c.requires.3, slots_some (c.args.level - 1 - 3), c.requires.4)

pub bounds-kinds-slot-2 : goal.bounds-kinds-slot-2
bounds-kinds-slot-2 t c = omega (arith, slots_four _ _ (omega (arith, c.requires.1)) c.requires.3, c.requires.4)

pub returns-then-kind : goal.returns-then-kind
returns-then-kind t c =
    parts_leaf c.args.pixels.now.bytes.now c.args.pixels.now.across c.args.at c.args.level c.args.slot (omega (arith, c.requires.1)) _ c.requires.0.colours _ _ (parts_all _ _ _ _ _ _ _ _ _ c.loop-q.invariant (omega arith)) (omega (arith, (c.loop-q.invariant.long ∙ c.told-kinds), c.requires.3, c.requires.4, slots_four _ _ (omega (arith, c.requires.1)) c.requires.3)) _ (parts_joined c.args.pixels.now.bytes.now c.args.pixels.now.across c.args.at c.args.level c.args.slot c.args.slots c.requires.1 _ c.requires.0.colours _ _ (parts_all _ _ _ _ _ _ _ _ _ c.loop-q.invariant (omega arith)) (omega (arith, (c.loop-q.invariant.long ∙ c.told-kinds), c.requires.4, slots_four _ _ (omega (arith, c.requires.1)) c.requires.3)) c.requires.3 _ c.joined-kind.ensures) c.if-kind.true

pub returns : goal.returns
returns t c =
    parts_fork c.args.pixels.now.bytes.now c.args.pixels.now.across c.args.at c.args.level c.args.slot (omega (arith, c.requires.1)) _ c.requires.0.colours _ _ (parts_all _ _ _ _ _ _ _ _ _ c.loop-q.invariant (omega arith)) (omega (arith, (c.loop-q.invariant.long ∙ c.told-kinds), c.requires.3, c.requires.4, slots_four _ _ (omega (arith, c.requires.1)) c.requires.3)) _ c.if-kind.false (sym (parts_joined c.args.pixels.now.bytes.now c.args.pixels.now.across c.args.at c.args.level c.args.slot c.args.slots c.requires.1 _ c.requires.0.colours _ _ (parts_all _ _ _ _ _ _ _ _ _ c.loop-q.invariant (omega arith)) (omega (arith, (c.loop-q.invariant.long ∙ c.told-kinds), c.requires.4, slots_four _ _ (omega (arith, c.requires.1)) c.requires.3)) c.requires.3 _ c.joined-kind.ensures) ∙ c.if-kind.false)
