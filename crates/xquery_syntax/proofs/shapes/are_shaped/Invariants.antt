use Rattle.std.proofs.Common.{◌≡◌, drop}
use Rattle.std.specs.List.{list_all}
use Rattle.xquery_syntax.specs.QueryLaws.Shapes.{is_shaped_in}
use Rattle.xquery_syntax.proofs.shapes.are_shaped.Given as goal

abbrev pub invariant-loop-d : goal.invariant-loop-d
invariant-loop-d l =
    list_all is_shaped_in (drop l.d-index l.declared) ≡ list_all is_shaped_in l.declared
