use Rattle.std.proofs.Common.{◌≡◌, ◌∷◌, subst, ◌∙◌}
use Rattle.xt_syntax.specs.declared.prefixes.Prefixes.{Prefixes}
use Rattle.expr_keys.specs.declared.tokens.Token.TheVariants as token
use Rattle.expr_raws.specs.PathRaws.Forms.{said}
use Rattle.expr_raws.specs.ControlRaws.Operators.{arithmetic}
use Rattle.expr_raws.specs.Raws.{form_of}
use Rattle.form_drafts.proofs.operator_drafts.operators.push_arithmetic.Goals as goal

pub returns : goal.returns
returns c =
    let ts = c.args.draft.now in
    c.in_ok-push_pair.ensures
    ∙ subst (λ (p : Prefixes). said c.arithmetic-by.result.left (form_of p c.args.a.now)
    (token.Key c.arithmetic-by.result.key ∷ said c.arithmetic-by.result.right (form_of p c.args.b.now) ts)
    ≡ (arithmetic c.args.op (form_of p c.args.a.now) (form_of p c.args.b.now)).tokens ts)
    c.plain.ensures (c.arithmetic-by.ensures c.args.b.now ts)
