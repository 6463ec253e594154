use Rattle.std.proofs.Common.{◌≡◌, ◌||◌, drop}
use Rattle.std.specs.List.{list_any}
use Rattle.item_functions.specs.NodeFunctions.AttributeTables.{has_key, key_of, same_key}
use Rattle.item_functions.specs.declared.node_functions.attribute_tables.AttributeKey.{AttributeKey}
use Rattle.item_functions.proofs.node_functions.attribute_tables.table_of.Given as goal

abbrev pub invariant-loop-attribute : goal.invariant-loop-attribute
invariant-loop-attribute l =
    (key : AttributeKey) → (has_key l.table key || list_any (λ a. same_key (key_of a) key) (drop l.attribute-index l.others)) ≡ list_any (λ a. same_key (key_of a) key) l.others
