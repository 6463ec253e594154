use Rattle.std.proofs.Common.{◌≡◌, subst, true, ◌∙◌}
use Rattle.quiet_meaning.specs.Quietly.{Quietly, quietly_of, is_pattern_form}
use Rattle.quiet_eval.proofs.CaseLemmas.{last_compares, integer_right, literal_right}
use Rattle.quiet_eval.proofs.singles.compare.Goals as goal
use Rattle.quiet_eval.specs.QuietPlaces.Free.{focus}

pub with_integer-requires-clause-form : goal.with_integer-requires-clause-form
with_integer-requires-clause-form c = subst (λ (q : Quietly). is_pattern_form q ≡ true) (integer_right c.args.op c.args.a.now c.args.b.now c.in-Int.k c.in-Int.is) c.requires.form

pub with_literal-requires-clause-form : goal.with_literal-requires-clause-form
with_literal-requires-clause-form c = subst (λ (q : Quietly). is_pattern_form q ≡ true) (literal_right c.args.op c.args.a.now c.args.b.now c.in-Str.text c.in-Str.is) c.requires.form

pub returns-in-Int : goal.returns-in-Int
returns-in-Int c = rw (integer_right c.args.op c.args.a.now c.args.b.now c.in-Int.k c.in-Int.is) c.with_integer.ensures

pub returns-in-Str : goal.returns-in-Str
returns-in-Str c = rw (literal_right c.args.op c.args.a.now c.args.b.now c.in-Str.text c.in-Str.is) c.with_literal.ensures

pub returns-in_default : goal.returns-in_default
returns-in_default c = c.counts_compare.ensures ∙ last_compares c.args.op (quietly_of c.args.a.now) c.args.b.now (focus c.args.node.now c.args.position c.args.size) c.in_default.not-Int c.in_default.not-Str c.requires.form
