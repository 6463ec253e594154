use Rattle.std.proofs.Common.{map}
use Rattle.eval_scopes.specs.Scopes.{env_of, program_of}
use Rattle.xt_syntax.specs.declared.exprs.Part.{Part}
use Rattle.expr_meaning.specs.Making.{attribute_part, attribute_text}
use Rattle.eval_steps.specs.Parts.{part_outcome}
use Rattle.eval_steps.proofs.Follow.{Gathers}
use Rattle.constructor_eval.proofs.constructors.Constructor.eval_value.Given as goal

abbrev pub invariant-loop-part : goal.invariant-loop-part
invariant-loop-part g l =
    let p = program_of l.self.form.fixed.now (g.W.Calling.calls l.self.form.within.now)
    (g.W.Calling.keys l.self.form.within.now) in
    Gathers (λ (x : Part). attribute_part (env_of l.env) (part_outcome p x)) l.parts
    (attribute_text (map (part_outcome p) l.parts) (env_of l.env) l.fn.next)
    l.value l.part-index l.next
