use Rattle.std.proofs.Common.{map}
use Rattle.eval_scopes.specs.Scopes.{env_of, program_of}
use Rattle.xt_syntax.specs.declared.exprs.Part.{Part}
use Rattle.expr_meaning.specs.Outcomes.Outcome.{for_each}
use Rattle.expr_meaning.specs.Making.{content_part}
use Rattle.eval_steps.specs.Parts.{part_outcome}
use Rattle.eval_steps.proofs.Follow.{Gathers}
use Rattle.constructor_eval.proofs.constructors.Constructor.eval_parts.Given as goal

abbrev pub invariant-loop-part : goal.invariant-loop-part
invariant-loop-part g l =
    let p = program_of l.self.form.fixed.now (g.W.Calling.calls l.self.form.within.now)
    (g.W.Calling.keys l.self.form.within.now) in
    Gathers (λ (x : Part). content_part (env_of l.env) (part_outcome p x)) l.parts
    (for_each (content_part (env_of l.env)) (map (part_outcome p) l.parts) l.fn.next)
    l.list l.part-index l.next
