-- `ponds_queues::stand`: by the two callees.
use Rattle.ponds_queues.proofs.QueueLaws.{stood}
use Rattle.ponds_queues.proofs.stand.Goals as goal

pub returns : goal.returns
returns c = stood _ _ _ _ _ c.linked.ensures c.head.ensures
