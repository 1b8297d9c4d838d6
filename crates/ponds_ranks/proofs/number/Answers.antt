-- `ponds_ranks::number`: the queues, the leaders counted off, the words settled and the mark taken off. Assumes
-- nothing.
use Rattle.ponds_ranks.proofs.RankLaws.{root_reached, all_queued, rows_asked, counted_off, full_ending, full_finishing, full_ranked}
use Rattle.ponds_ranks.proofs.number.Goals as goal

pub stand_fork-requires : goal.stand_fork-requires
stand_fork-requires c = record { n = _; F = _; D = _; reach = root_reached c.requires }

pub count_rows-count-requires : goal.count_rows-count-requires
count_rows-count-requires c =
    let h = all_queued c.requires c.stand_fork.ensures in
    rows_asked h c.side.ensures

pub settle-requires : goal.settle-requires
settle-requires c =
    let h = all_queued c.requires c.stand_fork.ensures in
    let o = counted_off h c.side.ensures c.count_rows-count.ensures in
    full_ending h o

pub finish-requires : goal.finish-requires
finish-requires c =
    let h = all_queued c.requires c.stand_fork.ensures in
    let o = counted_off h c.side.ensures c.count_rows-count.ensures in
    full_finishing h o c.settle.ensures

pub returns : goal.returns
returns c =
    let h = all_queued c.requires c.stand_fork.ensures in
    let o = counted_off h c.side.ensures c.count_rows-count.ensures in
    full_ranked h o c.settle.ensures c.finish.ensures
