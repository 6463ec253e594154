use Rattle.item_functions.proofs.NodeFunctions.TableLemmas.{table_more}
use Rattle.item_functions.proofs.node_functions.attribute_tables.table_of.Goals as goal

pub loop-attribute-preserved : goal.loop-attribute-preserved
loop-attribute-preserved c =
    table_more c.loop-attribute.table c.put.new.table c.args.others.now c.loop-attribute.attribute-index c.attribute-item.result c.loop-attribute-test.true c.attribute-item.is
    c.in_ok-put.ensures c.loop-attribute.invariant
