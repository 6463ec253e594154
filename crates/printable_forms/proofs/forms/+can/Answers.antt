use Rattle.std.proofs.Common.{List, map, ap, ◌∙◌}
use Rattle.xt_syntax.specs.declared.exprs.Expr.{Expr}
use Rattle.expr_raws.specs.PathRaws.Forms.{all_can}
use Rattle.expr_raws.specs.Raws.{form_of}
use Rattle.printable_forms.proofs.NameLemmas.{then_can, else_can, calls, elements, attributes}
use Rattle.printable_forms.proofs.NameLemmas.{instructions}
use Rattle.printable_forms.proofs.forms.+can.Goals as goal

pub can_step-returns-in_ok-can_each-in-Call :
    goal.can_step-returns-in_ok-can_each-in-Call
can_step-returns-in_ok-can_each-in-Call t c =
    let p = c.args.prefixes.now in
    then_can (form_of p c.args.e.now) _ _ _ _ (calls p c.args.e.now _ _ c.in-Call.is)
    c.in_ok-has_call-in-Call.ensures c.if-branch-3.true (c.in_ok-can_each-in-Call.ensures
    ∙ ap (λ (es : List Expr). all_can (map (form_of p) es))
    (c.as_slice-then-branch-3.ensures ∙ c.get-then-branch-3.ensures))

pub can_constructor-returns-in_ok-can_be_printed-in-ElemC :
    goal.can_constructor-returns-in_ok-can_be_printed-in-ElemC
can_constructor-returns-in_ok-can_be_printed-in-ElemC t c =
    let p = c.args.prefixes.now in
    then_can (form_of p c.args.e.now) _ _ _ _ (elements p c.args.e.now _ _ c.in-ElemC.is)
    c.in_ok-can_element_name-in-ElemC.ensures c.if-branch.true
    (c.in_ok-can_be_printed-in-ElemC.ensures
    ∙ ap (λ (a : Expr). (form_of p a).can) c.get.ensures)

pub can_constructor-returns-else-branch : goal.can_constructor-returns-else-branch
can_constructor-returns-else-branch t c =
    let p = c.args.prefixes.now in
    else_can (form_of p c.args.e.now) _ _ _ (elements p c.args.e.now _ _ c.in-ElemC.is)
    c.in_ok-can_element_name-in-ElemC.ensures c.if-branch.false

pub can_constructor-returns-in_ok-can_be_printed-in-AttrC :
    goal.can_constructor-returns-in_ok-can_be_printed-in-AttrC
can_constructor-returns-in_ok-can_be_printed-in-AttrC t c =
    let p = c.args.prefixes.now in
    then_can (form_of p c.args.e.now) _ _ _ _ (attributes p c.args.e.now _ _ c.in-AttrC.is)
    c.in_ok-can_bare_name-in-AttrC.ensures c.if-branch-2.true
    (c.in_ok-can_be_printed-in-AttrC.ensures
    ∙ ap (λ (a : Expr). (form_of p a).can) c.get-then-branch-2.ensures)

pub can_constructor-returns-else-branch-2 : goal.can_constructor-returns-else-branch-2
can_constructor-returns-else-branch-2 t c =
    let p = c.args.prefixes.now in
    else_can (form_of p c.args.e.now) _ _ _ (attributes p c.args.e.now _ _ c.in-AttrC.is)
    c.in_ok-can_bare_name-in-AttrC.ensures c.if-branch-2.false

pub can_constructor-returns-in_ok-can_be_printed-in-PiC :
    goal.can_constructor-returns-in_ok-can_be_printed-in-PiC
can_constructor-returns-in_ok-can_be_printed-in-PiC t c =
    let p = c.args.prefixes.now in
    then_can (form_of p c.args.e.now) _ _ _ _ (instructions p c.args.e.now _ _ c.in-PiC.is)
    c.in_ok-can_bare_name-in-PiC.ensures c.if-branch-3.true
    (c.in_ok-can_be_printed-in-PiC.ensures
    ∙ ap (λ (a : Expr). (form_of p a).can) c.get-then-branch-3.ensures)

pub can_constructor-returns-else-branch-3 : goal.can_constructor-returns-else-branch-3
can_constructor-returns-else-branch-3 t c =
    let p = c.args.prefixes.now in
    else_can (form_of p c.args.e.now) _ _ _ (instructions p c.args.e.now _ _ c.in-PiC.is)
    c.in_ok-can_bare_name-in-PiC.ensures c.if-branch-3.false
