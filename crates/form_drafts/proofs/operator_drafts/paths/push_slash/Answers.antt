use Rattle.std.proofs.Common.{◌∷◌, List, sym, ap, ◌∙◌}
use Rattle.expr_keys.specs.declared.keys.Key.TheVariants as key
use Rattle.expr_keys.specs.declared.tokens.Token.{Token}
use Rattle.expr_keys.specs.declared.tokens.Token.TheVariants as token
use Rattle.expr_raws.specs.PathRaws.Forms.{said}
use Rattle.expr_raws.specs.Raws.{form_of}
use Rattle.expr_drafts.specs.declared.expr_places.operators.Operator.{Operator}
use Rattle.expr_drafts.proofs.ExprPlaces.Operands.{root_slash, path_slash}
use Rattle.form_drafts.proofs.operator_drafts.paths.push_slash.Goals as goal

pub returns-then-is_root : goal.returns-then-is_root
returns-then-is_root c =
    let p = c.args.prefixes.now in
    c.in_ok-push_key.ensures ∙ (ap (λ (us : List Token). token.Key key.Slash ∷ us) c.in_ok-push_part.ensures
    ∙ sym (root_slash p c.args.a.now (form_of p c.args.b.now) c.args.draft.now
    (sym c.is_root.ensures ∙ c.if-is_root.true)))

pub returns : goal.returns
returns c =
    let p = c.args.prefixes.now in
    c.in_ok-push_pair.ensures
    ∙ (ap (λ (o : Operator). said o.left (form_of p c.args.a.now) (token.Key o.key
    ∷ said o.right (form_of p c.args.b.now) c.args.draft.now)) c.slash.ensures
    ∙ sym (path_slash p c.args.a.now (form_of p c.args.b.now) c.args.draft.now
    (sym c.is_root.ensures ∙ c.if-is_root.false)))
