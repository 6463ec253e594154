use Rattle.std.proofs.Common.{ap, ◌∙◌}
use Rattle.expr_keys.specs.declared.keys.Key.TheVariants as key
use Rattle.expr_raws.specs.PathRaws.Forms.{Form}
use Rattle.expr_drafts.proofs.ExprPlaces.Made.{comma_form, or_form, and_form, filter_form, arith_form}
use Rattle.expr_drafts.proofs.ExprPlaces.Made.{maker_place}
use Rattle.expr_drafts.proofs.expr_places.places.place_of.Goals as goal

pub returns-in-Comma : goal.returns-in-Comma
returns-in-Comma c = λ p. c.place_of_list.ensures p ∙ ap (λ (f : Form). f.place)
    (comma_form p c.args.e.now _ _ c.in-Comma.is (c.as_slice.ensures ∙ c.get.ensures))

pub returns-in-Or : goal.returns-in-Or
returns-in-Or c = λ p. c.place_of_many.ensures p key.OrWord ∙ ap (λ (f : Form). f.place)
    (or_form p c.args.e.now _ _ c.in-Or.is (c.as_slice-in-Or.ensures ∙ c.get-in-Or.ensures))

pub returns-in-And : goal.returns-in-And
returns-in-And c =
    λ p. c.place_of_many-in-And.ensures p key.AndWord ∙ ap (λ (f : Form). f.place)
    (and_form p c.args.e.now _ _ c.in-And.is (c.as_slice-in-And.ensures ∙ c.get-in-And.ensures))

pub returns-in-Arith : goal.returns-in-Arith
returns-in-Arith c = λ p. c.place_of_operation.ensures p c.in-Arith.field-1 c.in-Arith.field-2
    ∙ ap (λ (f : Form). f.place) (arith_form p c.args.e.now _ _ _ c.in-Arith.is)

pub returns-in-Filter : goal.returns-in-Filter
returns-in-Filter c = λ p. c.place_of_filter.ensures p c.in-Filter.field-0
    ∙ ap (λ (f : Form). f.place) (filter_form p c.args.e.now c.in-Filter.field-0 _ _ c.in-Filter.is
    (c.as_slice-in-Filter.ensures ∙ c.get-in-Filter.ensures))

pub returns-in-ElemC : goal.returns-in-ElemC
returns-in-ElemC c = λ p. maker_place p c.args.e.now c.in-ElemC.is

pub returns-in-ElemC-2 : goal.returns-in-ElemC-2
returns-in-ElemC-2 c = λ p. maker_place p c.args.e.now c.in-ElemC.is

pub returns-in-ElemC-3 : goal.returns-in-ElemC-3
returns-in-ElemC-3 c = λ p. maker_place p c.args.e.now c.in-ElemC.is
