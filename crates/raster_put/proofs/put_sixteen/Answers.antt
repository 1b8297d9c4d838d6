-- `raster_put::put_sixteen`: a leaf, or four parts and the fork's own words last.
use Rattle.table.proofs.WritingLaws.{node_room}
use Rattle.raster_put.proofs.PutLaws.{to_put, put_wants, sixteen_put, nw_to_put, ne_to_put, sw_to_put, se_to_put, quarters_put}
use Rattle.raster_put.proofs.put_sixteen.Goals as goal

pub put_leaf-requires : goal.put_leaf-requires
put_leaf-requires c = node_room c.requires.1

pub returns-then-sum-eq0 : goal.returns-then-sum-eq0
returns-then-sum-eq0 c = sixteen_put (to_put c.args.raster.now.picture c.requires) _ c.sum_sixteen-sum.ensures _ _ _ c.if-sum-eq0.true c.put_leaf.ensures

pub put_four-b-requires : goal.put_four-b-requires
put_four-b-requires c = put_wants (nw_to_put (to_put c.args.raster.now.picture c.requires) _ c.sum_sixteen-sum.ensures c.if-sum-eq0.false)

pub put_four-c-requires : goal.put_four-c-requires
put_four-c-requires c =
    rw c.put_four-b.auto.table
    (put_wants (ne_to_put (to_put c.args.raster.now.picture c.requires) _ c.sum_sixteen-sum.ensures c.if-sum-eq0.false _ c.put_four-b.ensures.next))

pub put_four-d-requires : goal.put_four-d-requires
put_four-d-requires c =
    rw (c.put_four-c.auto.table, c.put_four-b.auto.table)
    (put_wants (sw_to_put (to_put c.args.raster.now.picture c.requires) _ c.sum_sixteen-sum.ensures c.if-sum-eq0.false _ c.put_four-b.ensures.next _
    c.put_four-c.ensures.next))

pub put_four-next-requires : goal.put_four-next-requires
put_four-next-requires c =
    rw (c.put_four-d.auto.table, c.put_four-c.auto.table, c.put_four-b.auto.table)
    (put_wants (se_to_put (to_put c.args.raster.now.picture c.requires) _ c.sum_sixteen-sum.ensures c.if-sum-eq0.false _ c.put_four-b.ensures.next _
    c.put_four-c.ensures.next _ c.put_four-d.ensures.next))

pub put_node-requires : goal.put_node-requires
put_node-requires c =
    rw (c.put_four-next.auto.table, c.put_four-d.auto.table, c.put_four-c.auto.table, c.put_four-b.auto.table)
    (node_room c.requires.1)

pub returns : goal.returns
returns c =
    quarters_put (to_put c.args.raster.now.picture c.requires) _ c.sum_sixteen-sum.ensures c.if-sum-eq0.false c.put_four-b.ensures c.put_four-c.ensures
    c.put_four-d.ensures c.put_four-next.ensures c.put_node.ensures
