use Rattle.std.proofs.Common.{◌-◌, ◌≤◌, length, map, sym, ap, ◌∙◌, arith}
use Rattle.xt_syntax.specs.declared.exprs.Expr.{Expr}
use Rattle.expr_keys.specs.declared.keys.Key.TheVariants as key
use Rattle.expr_keys.specs.declared.productions.Level.TheVariants as level
use Rattle.expr_raws.specs.PathRaws.Forms.{Form, ends_unmarked}
use Rattle.expr_raws.specs.Raws.{form_of}
use Rattle.expr_drafts.proofs.ExprPlaces.Leaves.{listed_unmarked, many_unmarked, last_at}
use Rattle.expr_drafts.proofs.ExprPlaces.Made.{comma_form, or_form, and_form, maker_unmarked, one_last}
use Rattle.expr_drafts.proofs.expr_places.places.+unmarked.Goals as goal

pub is_unmarked-returns-in-Comma : goal.is_unmarked-returns-in-Comma
is_unmarked-returns-in-Comma t c =
    let p = c.args.prefixes.now in
    c.last_unmarked.ensures ∙ (sym (listed_unmarked (map (form_of p) c.as_slice.result.now))
    ∙ ap (λ (f : Form). f.unmarked) (comma_form p c.args.e.now _ _ c.in-Comma.is
    (c.as_slice.ensures ∙ c.get.ensures)))

pub is_unmarked-returns-in-Or : goal.is_unmarked-returns-in-Or
is_unmarked-returns-in-Or t c =
    let p = c.args.prefixes.now in
    c.last_unmarked-in-Or.ensures
    ∙ (sym (many_unmarked level.Or key.OrWord (map (form_of p) c.as_slice-in-Or.result.now))
    ∙ ap (λ (f : Form). f.unmarked) (or_form p c.args.e.now _ _ c.in-Or.is
    (c.as_slice-in-Or.ensures ∙ c.get-in-Or.ensures)))

pub is_unmarked-returns-in-And : goal.is_unmarked-returns-in-And
is_unmarked-returns-in-And t c =
    let p = c.args.prefixes.now in
    c.last_unmarked-in-And.ensures
    ∙ (sym (many_unmarked level.And key.AndWord (map (form_of p) c.as_slice-in-And.result.now))
    ∙ ap (λ (f : Form). f.unmarked) (and_form p c.args.e.now _ _ c.in-And.is
    (c.as_slice-in-And.ensures ∙ c.get-in-And.ensures)))

pub is_unmarked-returns-in-ElemC : goal.is_unmarked-returns-in-ElemC
is_unmarked-returns-in-ElemC t c = maker_unmarked c.args.prefixes.now c.args.e.now c.in-ElemC.is

pub is_unmarked-returns-in-ElemC-2 : goal.is_unmarked-returns-in-ElemC-2
is_unmarked-returns-in-ElemC-2 t c = maker_unmarked c.args.prefixes.now c.args.e.now c.in-ElemC.is

pub is_unmarked-returns-in-ElemC-3 : goal.is_unmarked-returns-in-ElemC-3
is_unmarked-returns-in-ElemC-3 t c = maker_unmarked c.args.prefixes.now c.args.e.now c.in-ElemC.is

pub last_unmarked-returns-then-items-lt2 : goal.last_unmarked-returns-then-items-lt2
last_unmarked-returns-then-items-lt2 t c =
    one_last (form_of c.args.prefixes.now) c.args.place c.args.items.now (omega arith)

pub last_unmarked-returns : goal.last_unmarked-returns
last_unmarked-returns t c =
    let p = c.args.prefixes.now in
    let x = c.index-items-items.result in
    let more : 2 ≤ length c.args.items.now = omega arith in
    c.ends_unmarked.ensures
    ∙ (ap (λ (y : Expr). ends_unmarked c.args.place (form_of p y)) c.index-items-items.is
    ∙ sym (last_at (form_of p) c.args.place (length c.args.items.now - 1) c.args.items.now x
    (omega arith) (omega arith)))
