-- Instructions of closed stylesheets have regular expressions that nest at most 40 levels.
use Rattle.std.proofs.Common.{◌≡◌, ◌∙◌, List, [], ◌∷◌, map, refl, sym, ap}
use Rattle.std.proofs.lemmas.Bool.{and_from, and_parts}
use Rattle.std.specs.Prelude.{Bool, true, not, ◌&&◌}
use Rattle.std.specs.List.{list_all}
use Rattle.xt_forms.specs.Regular.{every, is_regular_kind}
use Rattle.xt_syntax.specs.declared.exprs.Expr.{Expr}
use Rattle.xt_syntax.specs.declared.patterns.Pattern.{Pattern}
use Rattle.xt_sheets.specs.declared.instrs.Instr.TheFolds.{map-Instr, map-Value, map-Bound, map-When}
use Rattle.xt_sheets.specs.declared.instrs.Instr.TheFolds.{ind-Instr, ind-Bound}
use Rattle.xt_sheets.specs.declared.instrs.Instr.TheViews.{roll-Instr, roll-Value, roll-Bound, roll-When}
use Rattle.xt_sheets.specs.declared.instrs.Instr.TheOpen.{Chars, ValueOf, Literal, Element}
use Rattle.xt_sheets.specs.declared.instrs.Instr.TheOpen.{Attribute, Comment, Pi, Document, Copy}
use Rattle.xt_sheets.specs.declared.instrs.Instr.TheOpen.{CopyOf, Sequence, If, Choose, ForEach}
use Rattle.xt_sheets.specs.declared.instrs.Instr.TheOpen.{ForEachGroup, PerformSort, Variable}
use Rattle.xt_sheets.specs.declared.instrs.Instr.TheOpen.{Apply, ApplyImports, NextMatch}
use Rattle.xt_sheets.specs.declared.instrs.Instr.TheOpen.{CallTemplate, Select, Body, EmptyText}
use Rattle.xt_sheets.specs.declared.instrs.Instr.TheOpen.{EmptyList, Required}
use Rattle.xt_sheets.specs.Layers.{Kinds, InstrLayer, ValueLayer, BoundLayer, WhenLayer}
use Rattle.name_rules.specs.Scopes.{names_differ}
use Rattle.closed_queries.specs.Closed.{is_good_kind}
use Rattle.closed_queries.specs.Texts.{is_sound_expr_name, is_sound_name}
use Rattle.closed_sheets.specs.Instrs.{goods, good_steps, is_good_instr, is_good_when, is_good_bound}
use Rattle.closed_sheets.specs.Instrs.{is_good_bound_value}
use Rattle.closed_sheets.specs.Values.{is_sheet_expr, if_sheet_expr, is_good_template, if_good_template}
use Rattle.closed_sheets.specs.Values.{is_good_name, is_good_attribute, is_good_sort, is_good_grouping}
use Rattle.sheet_closure.specs.StandingParts.Bodies.{standings, stand_steps, all_stand, is_one_source, bound_names}
use Rattle.sheet_closure.specs.StandingParts.Bodies.{BoundStands, is_given, all_given, passed_stand, instr_stands, value_stands}
use Rattle.sheet_closure.specs.StandingParts.Bodies.{bound_stands, when_stands}
use Rattle.sheet_closure.specs.StandingParts.Calls.{expr_stands}
use Rattle.sheet_closure.specs.StandingParts.Patterns.{is_alternative}
use Rattle.sheet_closure.specs.StandingParts.Values.{if_expr_stands, template_stands, if_template_stands}
use Rattle.sheet_closure.specs.StandingParts.Values.{attribute_stands, sort_stands, grouping_stands}
use Rattle.translated_forms.specs.Leaves.{leaves, leaf_steps, is_leaf, if_leaf, template_leaves}
use Rattle.translated_forms.specs.Leaves.{separator_leaves, attribute_leaves, sort_leaf, grouping_leaves}
use Rattle.translated_forms.specs.Leaves.{has_leaves, value_has_leaves, bound_has_leaves, when_has_leaves}
use Rattle.translated_forms.proofs.Rolled.{TheInstr, TheValue, TheBound, TheWhen, InstrForm, ValueForm}
use Rattle.translated_forms.proofs.Rolled.{BoundForm, WhenForm, instr_mapped, value_mapped}
use Rattle.translated_forms.proofs.Rolled.{instr_rolled, value_rolled, bound_rolled, when_rolled}
use Rattle.translation_limits.proofs.LeafValues.{leaf_known, if_known, kind_known, template_known}
use Rattle.translation_limits.proofs.LeafValues.{separator_known, name_known, attributes_known, sorts_known}
use Rattle.translation_limits.proofs.LeafValues.{grouping_known}

abbrev pub tested : Pattern → Bool
tested p = is_alternative p

abbrev InstrIs : TheInstr → Type 0
InstrIs x = is_good_instr x ≡ true → (g : Bool) → instr_stands x g ≡ true → has_leaves tested x ≡ true

abbrev ValueIs : TheValue → Type 0
ValueIs x = is_good_bound_value x ≡ true → (g : Bool) → (value_stands x).stands g ≡ true →
    value_has_leaves tested x ≡ true

abbrev BoundIs : TheBound → Type 0
BoundIs x = is_good_bound x ≡ true → (g : Bool) → (bound_stands x).value.stands g ≡ true →
    bound_has_leaves tested x ≡ true

abbrev WhenIs : TheWhen → Type 0
WhenIs x = is_good_when x ≡ true → (g : Bool) → when_stands x g ≡ true → when_has_leaves tested x ≡ true

abbrev known : Kinds
known = record {
  Instrs = (x : TheInstr) × InstrIs x;
  Values = (x : TheValue) × ValueIs x;
  Bounds = (x : TheBound) × BoundIs x;
  Whens = (x : TheWhen) × WhenIs x;
}

-- lists
abbrev all_good : List known.Instrs → Bool
all_good ys = every (map is_good_instr (map (λ y. y.0) ys))

abbrev stand : List known.Instrs → Bool → Bool
stand ys g = all_stand (map instr_stands (map (λ y. y.0) ys)) g

abbrev all_leaves : List known.Instrs → Bool
all_leaves ys = every (map (has_leaves tested) (map (λ y. y.0) ys))

body_known : (g : Bool) (ys : List known.Instrs) → all_good ys ≡ true → stand ys g ≡ true → all_leaves ys ≡ true
body_known g [] h i = refl
body_known g (y ∷ ys) h i =
    let a = and_parts (is_good_instr y.0) (all_good ys) h in
    let b = and_parts (instr_stands y.0 g) (stand ys g) i in
    and_from (has_leaves tested y.0) (all_leaves ys) (y.1 a.0 g b.0) (body_known g ys a.1 b.1)

abbrev good_whens : List known.Whens → Bool
good_whens ys = every (map is_good_when (map (λ y. y.0) ys))

abbrev stand_whens : List known.Whens → Bool → Bool
stand_whens ys g = all_stand (map when_stands (map (λ y. y.0) ys)) g

abbrev when_leaves : List known.Whens → Bool
when_leaves ys = every (map (when_has_leaves tested) (map (λ y. y.0) ys))

whens_known : (g : Bool) (ys : List known.Whens) → good_whens ys ≡ true → stand_whens ys g ≡ true →
    when_leaves ys ≡ true
whens_known g [] h i = refl
whens_known g (y ∷ ys) h i =
    let a = and_parts (is_good_when y.0) (good_whens ys) h in
    let b = and_parts (when_stands y.0 g) (stand_whens ys g) i in
    and_from (when_has_leaves tested y.0) (when_leaves ys) (y.1 a.0 g b.0) (whens_known g ys a.1 b.1)

abbrev good_bounds : List known.Bounds → Bool
good_bounds ys = every (map is_good_bound (map (λ y. y.0) ys))

abbrev standing : List known.Bounds → List BoundStands
standing ys = map bound_stands (map (λ y. y.0) ys)

abbrev bound_leaves : List known.Bounds → Bool
bound_leaves ys = every (map (bound_has_leaves tested) (map (λ y. y.0) ys))

given_known : (g : Bool) (ys : List known.Bounds) → good_bounds ys ≡ true → all_given (standing ys) g ≡ true →
    bound_leaves ys ≡ true
given_known g [] h i = refl
given_known g (y ∷ ys) h i =
    let a = and_parts (is_good_bound y.0) (good_bounds ys) h in
    let s = bound_stands y.0 in
    let b = and_parts (is_given s g) (all_given (standing ys) g) i in
    let c = and_parts (not s.value.required) (s.value.stands g) b.0 in
    and_from (bound_has_leaves tested y.0) (bound_leaves ys) (y.1 a.0 g c.1) (given_known g ys a.1 b.1)

passed_known : (g : Bool) (ys : List known.Bounds) → good_bounds ys ≡ true →
    passed_stand (standing ys) g ≡ true → bound_leaves ys ≡ true
passed_known g ys h i =
    given_known g ys h
    ((and_parts (names_differ (bound_names (standing ys))) (all_given (standing ys) g) i).1)

abbrev plain_instr : InstrLayer Expr Pattern known → InstrForm
plain_instr =
    map-Instr Expr Pattern known.Instrs known.Values known.Bounds known.Whens TheInstr TheValue
    TheBound TheWhen (λ y. y.0) (λ y. y.0) (λ y. y.0) (λ y. y.0)

pub two : (a b : Bool) → (a && b) ≡ true → (a ≡ true) × (b ≡ true)
two a b h = and_parts a b h

instr_known : (y : InstrLayer Expr Pattern known) →
    good_steps.of_instr (instr_mapped goods good_steps (plain_instr y)) ≡ true → (g : Bool) →
    stand_steps.of_instr (instr_mapped standings stand_steps (plain_instr y)) g ≡ true →
    (leaf_steps tested).of_instr (instr_mapped leaves (leaf_steps tested) (plain_instr y)) ≡ true
instr_known (Chars text) h g i = refl
instr_known (ValueOf select body separator) h g i =
    let a = two (if_sheet_expr select) (all_good body && if_good_template separator) h in
    let b = two (all_good body) (if_good_template separator) a.1 in
    let c = two (is_one_source select (map instr_stands (map (λ y. y.0) body)))
    (if_expr_stands g select && (if_template_stands g separator && stand body g)) i in
    let d = two (if_expr_stands g select) (if_template_stands g separator && stand body g) c.1 in
    let e = two (if_template_stands g separator) (stand body g) d.1 in
    and_from (if_leaf select) (all_leaves body && separator_leaves separator) (if_known g select a.0 d.0)
    (and_from (all_leaves body) (separator_leaves separator) (body_known g body b.0 e.1)
    (separator_known g separator b.1 e.0))
instr_known (Literal name attributes body) h g i =
    let a = two (is_sound_name name) (list_all is_good_attribute attributes && all_good body) h in
    let b = two (list_all is_good_attribute attributes) (all_good body) a.1 in
    let c = two (list_all (attribute_stands g) attributes) (stand body g) i in
    and_from (list_all attribute_leaves attributes) (all_leaves body) (attributes_known g attributes b.0 c.0)
    (body_known g body b.1 c.1)
instr_known (Element name body) h g i =
    let a = two (is_good_name name) (all_good body) h in
    let c = two (template_stands g name.text) (stand body g) i in
    and_from (template_leaves name.text) (all_leaves body) (name_known g name a.0 c.0) (body_known g body a.1 c.1)
instr_known (Attribute name select body separator) h g i =
    let a = two (is_good_name name) (if_sheet_expr select && (all_good body && if_good_template separator)) h in
    let b = two (if_sheet_expr select) (all_good body && if_good_template separator) a.1 in
    let c = two (all_good body) (if_good_template separator) b.1 in
    let d = two (is_one_source select (map instr_stands (map (λ y. y.0) body))) (template_stands g name.text
    && (if_expr_stands g select && (if_template_stands g separator && stand body g))) i in
    let e = two (template_stands g name.text)
    (if_expr_stands g select && (if_template_stands g separator && stand body g)) d.1 in
    let f = two (if_expr_stands g select) (if_template_stands g separator && stand body g) e.1 in
    let j = two (if_template_stands g separator) (stand body g) f.1 in
    and_from (template_leaves name.text) (if_leaf select && (all_leaves body && separator_leaves separator))
    (name_known g name a.0 e.0)
    (and_from (if_leaf select) (all_leaves body && separator_leaves separator) (if_known g select b.0 f.0)
    (and_from (all_leaves body) (separator_leaves separator) (body_known g body c.0 j.1)
    (separator_known g separator c.1 j.0)))
instr_known (Comment select body) h g i =
    let a = two (if_sheet_expr select) (all_good body) h in
    let c = two (is_one_source select (map instr_stands (map (λ y. y.0) body))) (if_expr_stands g select && stand body g) i in
    let d = two (if_expr_stands g select) (stand body g) c.1 in
    and_from (if_leaf select) (all_leaves body) (if_known g select a.0 d.0) (body_known g body a.1 d.1)
instr_known (Pi name select body) h g i =
    let a = two (is_good_template name) (if_sheet_expr select && all_good body) h in
    let b = two (if_sheet_expr select) (all_good body) a.1 in
    let c = two (is_one_source select (map instr_stands (map (λ y. y.0) body)))
    (template_stands g name && (if_expr_stands g select && stand body g)) i in
    let d = two (template_stands g name) (if_expr_stands g select && stand body g) c.1 in
    let e = two (if_expr_stands g select) (stand body g) d.1 in
    and_from (template_leaves name) (if_leaf select && all_leaves body) (template_known g name a.0 d.0)
    (and_from (if_leaf select) (all_leaves body) (if_known g select b.0 e.0) (body_known g body b.1 e.1))
instr_known (Document body) h g i = body_known g body h i
instr_known (Copy body) h g i = body_known g body h i
instr_known (CopyOf e) h g i = leaf_known g e h i
instr_known (Sequence e) h g i = leaf_known g e h i
instr_known (If condition body) h g i =
    let a = two (is_sheet_expr condition) (all_good body) h in
    let c = two (expr_stands g condition) (stand body g) i in
    and_from (is_leaf condition) (all_leaves body) (leaf_known g condition a.0 c.0) (body_known g body a.1 c.1)
instr_known (Choose whens other) h g i =
    let a = two (good_whens whens) (all_good other) h in
    let c = two (stand_whens whens g) (stand other g) i in
    and_from (when_leaves whens) (all_leaves other) (whens_known g whens a.0 c.0) (body_known g other a.1 c.1)
instr_known (ForEach select sorts body) h g i =
    let a = two (is_sheet_expr select) (list_all is_good_sort sorts && all_good body) h in
    let b = two (list_all is_good_sort sorts) (all_good body) a.1 in
    let c = two (expr_stands g select) (list_all (sort_stands g) sorts && stand body g) i in
    let d = two (list_all (sort_stands g) sorts) (stand body g) c.1 in
    and_from (is_leaf select) (list_all sort_leaf sorts && all_leaves body) (leaf_known g select a.0 c.0)
    (and_from (list_all sort_leaf sorts) (all_leaves body) (sorts_known g sorts b.0 d.0) (body_known g body b.1 d.1))
instr_known (ForEachGroup select grouping sorts body) h g i =
    let a = two (is_sheet_expr select) (is_good_grouping grouping && (list_all is_good_sort sorts && all_good body)) h in
    let b = two (is_good_grouping grouping) (list_all is_good_sort sorts && all_good body) a.1 in
    let c = two (list_all is_good_sort sorts) (all_good body) b.1 in
    let d = two (expr_stands g select)
    (grouping_stands g grouping && (list_all (sort_stands true) sorts && stand body true)) i in
    let e = two (grouping_stands g grouping) (list_all (sort_stands true) sorts && stand body true) d.1 in
    let f = two (list_all (sort_stands true) sorts) (stand body true) e.1 in
    and_from (is_leaf select) (grouping_leaves tested grouping && (list_all sort_leaf sorts && all_leaves body))
    (leaf_known g select a.0 d.0)
    (and_from (grouping_leaves tested grouping) (list_all sort_leaf sorts && all_leaves body)
    (grouping_known g grouping b.0 e.0)
    (and_from (list_all sort_leaf sorts) (all_leaves body) (sorts_known true sorts c.0 f.0)
    (body_known true body c.1 f.1)))
instr_known (PerformSort select sorts body) h g i =
    let a = two (if_sheet_expr select) (list_all is_good_sort sorts && all_good body) h in
    let b = two (list_all is_good_sort sorts) (all_good body) a.1 in
    let c = two (is_one_source select (map instr_stands (map (λ y. y.0) body)))
    (if_expr_stands g select && (list_all (sort_stands g) sorts && stand body g)) i in
    let d = two (if_expr_stands g select) (list_all (sort_stands g) sorts && stand body g) c.1 in
    let e = two (list_all (sort_stands g) sorts) (stand body g) d.1 in
    and_from (if_leaf select) (list_all sort_leaf sorts && all_leaves body) (if_known g select a.0 d.0)
    (and_from (list_all sort_leaf sorts) (all_leaves body) (sorts_known g sorts b.0 e.0) (body_known g body b.1 e.1))
instr_known (Variable bound) h g i =
    let s = bound_stands bound.0 in
    bound.1 h g ((two (not s.value.required) (s.value.stands g) i).1)
instr_known (Apply select mode sorts given) h g i =
    let a = two (if_sheet_expr select) (list_all is_good_sort sorts && good_bounds given) h in
    let b = two (list_all is_good_sort sorts) (good_bounds given) a.1 in
    let c = two (if_expr_stands g select) (list_all (sort_stands g) sorts && passed_stand (standing given) g) i in
    let d = two (list_all (sort_stands g) sorts) (passed_stand (standing given) g) c.1 in
    and_from (if_leaf select) (list_all sort_leaf sorts && bound_leaves given) (if_known g select a.0 c.0)
    (and_from (list_all sort_leaf sorts) (bound_leaves given) (sorts_known g sorts b.0 d.0)
    (passed_known g given b.1 d.1))
instr_known (ApplyImports given) h g i = passed_known g given h i
instr_known (NextMatch given) h g i = passed_known g given h i
instr_known (CallTemplate place given) h g i = passed_known g given h i

instr_step : (x : InstrForm) (y : InstrLayer Expr Pattern known) → plain_instr y ≡ x →
    InstrIs (roll-Instr Expr Pattern x)
instr_step x y is h g i =
    rw (← is, instr_rolled leaves (leaf_steps tested) (plain_instr y))
    (instr_known y (sym (instr_rolled goods good_steps (plain_instr y))
    ∙ ap (λ z. is_good_instr (roll-Instr Expr Pattern z)) is ∙ h) g
    (sym (ap (λ f. f g) (instr_rolled standings stand_steps (plain_instr y)))
    ∙ ap (λ z. instr_stands (roll-Instr Expr Pattern z) g) is ∙ i))

abbrev plain_value : ValueLayer Expr Pattern known → ValueForm
plain_value =
    map-Value Expr Pattern known.Instrs known.Values known.Bounds known.Whens TheInstr TheValue
    TheBound TheWhen (λ y. y.0) (λ y. y.0) (λ y. y.0) (λ y. y.0)

value_known : (y : ValueLayer Expr Pattern known) →
    good_steps.of_value (value_mapped goods good_steps (plain_value y)) ≡ true → (g : Bool) →
    (stand_steps.of_value (value_mapped standings stand_steps (plain_value y))).stands g ≡ true →
    (leaf_steps tested).of_value (value_mapped leaves (leaf_steps tested) (plain_value y)) ≡ true
value_known (Select e) h g i = leaf_known g e h i
value_known (Body body) h g i = body_known g body h i
value_known EmptyText h g i = refl
value_known EmptyList h g i = refl
value_known Required h g i = refl

value_step : (x : ValueForm) (y : ValueLayer Expr Pattern known) → plain_value y ≡ x →
    ValueIs (roll-Value Expr Pattern x)
value_step x y is h g i =
    rw (← is, value_rolled leaves (leaf_steps tested) (plain_value y))
    (value_known y (sym (value_rolled goods good_steps (plain_value y))
    ∙ ap (λ z. is_good_bound_value (roll-Value Expr Pattern z)) is ∙ h) g
    (sym (ap (λ f. f.stands g) (value_rolled standings stand_steps (plain_value y)))
    ∙ ap (λ z. (value_stands (roll-Value Expr Pattern z)).stands g) is ∙ i))

abbrev plain_bound : BoundLayer Expr Pattern known → BoundForm
plain_bound =
    map-Bound Expr Pattern known.Instrs known.Values known.Bounds known.Whens TheInstr TheValue
    TheBound TheWhen (λ y. y.0) (λ y. y.0) (λ y. y.0) (λ y. y.0)

bound_step : (x : BoundForm) (y : BoundLayer Expr Pattern known) → plain_bound y ≡ x →
    BoundIs (roll-Bound Expr Pattern x)
bound_step x y is h g i =
    let r : (is_sound_expr_name y.name && (is_good_kind y.kind && is_good_bound_value y.value.0)) ≡ true =
    sym (bound_rolled goods good_steps (plain_bound y))
    ∙ ap (λ z. is_good_bound (roll-Bound Expr Pattern z)) is ∙ h in
    let a = two (is_sound_expr_name y.name) (is_good_kind y.kind && is_good_bound_value y.value.0) r in
    let b = two (is_good_kind y.kind) (is_good_bound_value y.value.0) a.1 in
    rw (← is, bound_rolled leaves (leaf_steps tested) (plain_bound y))
    (and_from (is_regular_kind y.kind) (value_has_leaves tested y.value.0) (kind_known y.kind b.0)
    (y.value.1 b.1 g (sym (ap (λ f. f.value.stands g) (bound_rolled standings stand_steps (plain_bound y)))
    ∙ ap (λ z. (bound_stands (roll-Bound Expr Pattern z)).value.stands g) is ∙ i)))

abbrev plain_when : WhenLayer Expr Pattern known → WhenForm
plain_when =
    map-When Expr Pattern known.Instrs known.Values known.Bounds known.Whens TheInstr TheValue
    TheBound TheWhen (λ y. y.0) (λ y. y.0) (λ y. y.0) (λ y. y.0)

when_step : (x : WhenForm) (y : WhenLayer Expr Pattern known) → plain_when y ≡ x →
    WhenIs (roll-When Expr Pattern x)
when_step x y is h g i =
    let r : (is_sheet_expr y.test && all_good y.body) ≡ true =
    sym (when_rolled goods good_steps (plain_when y))
    ∙ ap (λ z. is_good_when (roll-When Expr Pattern z)) is ∙ h in
    let s : (expr_stands g y.test && stand y.body g) ≡ true =
    sym (ap (λ f. f g) (when_rolled standings stand_steps (plain_when y)))
    ∙ ap (λ z. when_stands (roll-When Expr Pattern z) g) is ∙ i in
    let a = two (is_sheet_expr y.test) (all_good y.body) r in
    let b = two (expr_stands g y.test) (stand y.body g) s in
    rw (← is, when_rolled leaves (leaf_steps tested) (plain_when y))
    (and_from (is_leaf y.test) (all_leaves y.body) (leaf_known g y.test a.0 b.0) (body_known g y.body a.1 b.1))

pub whole_instr_known : (x : TheInstr) → InstrIs x
whole_instr_known =
    ind-Instr Expr Pattern InstrIs ValueIs BoundIs WhenIs instr_step value_step bound_step when_step

pub whole_bound_known : (x : TheBound) → BoundIs x
whole_bound_known =
    ind-Bound Expr Pattern InstrIs ValueIs BoundIs WhenIs instr_step value_step bound_step when_step
