-- `ponds_join::touch`: p's own word, and the sets beside it joined where both are black leaves' and differ. Assumes
-- nothing.
use native.Mathlib.Omega.{arith}
use Rattle.ponds_sets.proofs.TouchLaws.{place_few, kind_few, touch_joining, touched_joined, touched_plain}
use Rattle.ponds_join.proofs.touch.Goals as goal

pub overflow_add-place : goal.overflow_add-place
overflow_add-place c = omega (arith, place_few c.requires)

pub overflow_add-kind : goal.overflow_add-kind
overflow_add-kind c = omega (arith, kind_few c.requires, c.one_if_nonzero.ensures.1)

pub overflow_add-kind-2 : goal.overflow_add-kind-2
overflow_add-kind-2 c = omega (arith, kind_few c.requires, c.one_if_nonzero.ensures.1, c.apart.ensures.1)

pub join-requires : goal.join-requires
join-requires c = touch_joining c.requires _ _ _ _ _ _ _ c.first_nonzero-first.ensures c.first_nonzero.ensures c.black_of-label.ensures c.first_nonzero-2.ensures c.black_of.ensures c.one_if_nonzero.ensures c.apart.ensures c.if-kind-one_if_nonzero-eq3.true

pub returns-then-kind-one_if_nonzero-eq3 : goal.returns-then-kind-one_if_nonzero-eq3
returns-then-kind-one_if_nonzero-eq3 c = λ z. touched_joined z _ _ _ _ _ _ _ c.first_nonzero-first.ensures c.first_nonzero.ensures c.black_of-label.ensures c.first_nonzero-2.ensures c.black_of.ensures c.one_if_nonzero.ensures c.apart.ensures c.if-kind-one_if_nonzero-eq3.true _ c.join.ensures

pub returns-else-kind-one_if_nonzero-eq3 : goal.returns-else-kind-one_if_nonzero-eq3
returns-else-kind-one_if_nonzero-eq3 c = λ z. touched_plain z _ _ _ _ _ _ _ c.first_nonzero-first.ensures c.first_nonzero.ensures c.black_of-label.ensures c.first_nonzero-2.ensures c.black_of.ensures c.one_if_nonzero.ensures c.apart.ensures c.if-kind-one_if_nonzero-eq3.false
