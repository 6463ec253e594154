-- The order of declarations, one by one (XQuery 1.0, 4): the version before all, and namespaces and
-- setters before variables, functions and options.
use Rattle.std.specs.Prelude.{Bool, List, Option, Some, None, if◌then◌else◌}
use Rattle.query_grammar.specs.declared.declared.Declared.{Declared}
use Rattle.query_grammar.specs.Prolog.{is_late, is_version, all_late, in_order, is_ordered}
use Rattle.query_texts.specs.declared.orders.Order.{Order}
use Rattle.query_texts.specs.declared.orders.Order.TheVariants.{First, Early, Late}

-- which declarations may come after this one, where it may come itself
abbrev pub placed : Order → Declared → Option Order
placed First d = Some (if is_late d then Late else Early)
placed Early d = if is_version d then None else Some (if is_late d then Late else Early)
placed Late d = if is_late d then Some Late else None

-- whether these may come
abbrev pub may_follow : Order → List Declared → Bool
may_follow First ds = is_ordered ds
may_follow Early ds = in_order ds
may_follow Late ds = all_late ds
