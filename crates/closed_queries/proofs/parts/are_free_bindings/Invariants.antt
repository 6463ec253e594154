use Rattle.std.proofs.Common.{◌≡◌, drop}
use Rattle.std.specs.List.{list_all}
use Rattle.closed_queries.specs.Texts.{is_free_binding}
use Rattle.closed_queries.proofs.parts.are_free_bindings.Given as goal

abbrev pub invariant-loop-binding : goal.invariant-loop-binding
invariant-loop-binding l = list_all is_free_binding (drop l.binding-index l.all) ≡ list_all is_free_binding l.all
