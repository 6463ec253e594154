use Rattle.std.proofs.Common.{◌≡◌, List, subst, ◌∙◌}
use Rattle.xt_syntax.specs.declared.prefixes.Prefixes.{Prefixes}
use Rattle.expr_keys.specs.declared.tokens.Token.{Token}
use Rattle.expr_raws.specs.PathRaws.Forms.{said}
use Rattle.expr_raws.specs.ControlRaws.Operators.{operand_tokens}
use Rattle.expr_raws.specs.Raws.{form_of}
use Rattle.expr_drafts.proofs.ExprPlaces.Operands.{chained_tokens}
use Rattle.form_drafts.proofs.operator_drafts.operators.push_chained.Goals as goal

pub returns : goal.returns
returns c =
    let p = c.args.prefixes.now in
    let a = c.args.a.now in
    c.in_ok-push_pair.ensures
    ∙ chained_tokens c.args.level c.args.key _ (form_of p a) (form_of p c.args.b.now) _ _
    c.args.draft.now
    (subst (λ (q : Prefixes). (ts : List Token) → said c.chained-by.result.left (form_of q a) ts
    ≡ operand_tokens c.args.level c.args.key (form_of q a) ts) c.plain.ensures c.chained-by.ensures.left)
    c.chained-by.ensures.key c.chained-by.ensures.right
