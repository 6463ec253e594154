-- What may stand before `/`.
use Rattle.std.specs.Prelude.{List, Result, Ok, Err, if◌then◌else◌}
use Rattle.std.specs.List.{list_all}
use Rattle.xt_names.specs.declared.codes.Code.{Code}
use Rattle.xt_names.specs.declared.codes.Code.TheVariants.{Dynamic}
use Rattle.xt_names.specs.declared.codes.DynamicCode.TheVariants.{XPTY0019}
use Rattle.xdm_items.specs.declared.items.Item.{Item}
use Rattle.expr_meaning.specs.OperatorValues.Nodes.{is_node}

-- whether all items are nodes, and else the error
abbrev pub checked_path : List Item → Result (Unit {0}) Code
checked_path xs = if list_all is_node xs then Ok tt else Err (Dynamic XPTY0019)
