use Rattle.std.proofs.Common.{◌≡◌, [], drop}
use Rattle.closed_queries.specs.PrologRules.Declarations.{all_behind}
use Rattle.closed_queries.proofs.prolog_rules.query_rules.all_functions.Given as goal

abbrev pub invariant-loop-declaration : goal.invariant-loop-declaration
invariant-loop-declaration l = all_behind l.functions (drop l.declaration-index l.declarations) ≡ all_behind [] l.declarations
