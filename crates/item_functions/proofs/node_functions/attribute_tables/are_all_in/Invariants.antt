use Rattle.std.proofs.Common.{◌≡◌, drop}
use Rattle.std.specs.List.{list_all}
use Rattle.item_functions.specs.NodeFunctions.AttributeTables.{has_key, key_of}
use Rattle.item_functions.proofs.node_functions.attribute_tables.are_all_in.Given as goal

abbrev pub invariant-loop-attribute : goal.invariant-loop-attribute
invariant-loop-attribute l = list_all (λ a. has_key l.table (key_of a)) (drop l.attribute-index l.attributes) ≡ list_all (λ a. has_key l.table (key_of a)) l.attributes
