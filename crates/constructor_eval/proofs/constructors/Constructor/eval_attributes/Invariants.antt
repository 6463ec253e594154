use Rattle.std.proofs.Common.{map}
use Rattle.eval_scopes.specs.Scopes.{env_of, program_of}
use Rattle.xt_syntax.specs.declared.exprs.DirectAttr.{DirectAttr}
use Rattle.expr_meaning.specs.Outcomes.Outcome.{for_each}
use Rattle.expr_meaning.specs.Making.{direct_attribute}
use Rattle.eval_steps.specs.Parts.{attr_outcome}
use Rattle.eval_steps.proofs.Follow.{Gathers}
use Rattle.constructor_eval.proofs.constructors.Constructor.eval_attributes.Given as goal

abbrev pub invariant-loop-attribute : goal.invariant-loop-attribute
invariant-loop-attribute g l =
    let p = program_of l.self.form.fixed.now (g.W.Calling.calls l.self.form.within.now)
    (g.W.Calling.keys l.self.form.within.now) in
    Gathers (λ (a : DirectAttr). direct_attribute (env_of l.env) (attr_outcome p a)) l.attributes
    (for_each (direct_attribute (env_of l.env)) (map (attr_outcome p) l.attributes) l.fn.next)
    l.list l.attribute-index l.next
