use Rattle.std.proofs.Common.{◌≡◌, length}
use Rattle.token_laws.specs.WrittenTokens.Fit.{are_fit}
use Rattle.query_printer.proofs.fitness.are_fit.Given as goal

abbrev pub invariant-loop-token : goal.invariant-loop-token
invariant-loop-token l = are_fit l.page ≡ are_fit l.initial.page

abbrev pub decreases-loop-token : goal.decreases-loop-token
decreases-loop-token l = length l.page
