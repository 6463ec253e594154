-- What a sequence constructor uses is put after what was found before.
use Rattle.std.proofs.Common.{◌≡◌, ℕ, List, [], ◌∷◌, ◌++◌, Option, Some, None, map, sym, subst, refl}
use Rattle.xt_syntax.specs.declared.exprs.Expr.{Expr}
use Rattle.xt_syntax.specs.declared.patterns.Pattern.{Pattern}
use Rattle.xt_sheets.specs.declared.instrs.Instr.{Instr}
use Rattle.xt_sheets.specs.declared.instrs.Value.{Value}
use Rattle.xt_sheets.specs.declared.instrs.Bound.{Bound}
use Rattle.xt_sheets.specs.declared.instrs.When.{When}
use Rattle.xt_sheets.specs.declared.instrs.Instr.TheFolds.{fold-roll-Instr, fold-roll-Value}
use Rattle.xt_sheets.specs.declared.instrs.Instr.TheFolds.{fold-roll-Bound, fold-roll-When}
use Rattle.xt_sheets.specs.declared.instrs.Instr.TheFolds.{map-Instr, map-Value, map-Bound, map-When}
use Rattle.xt_sheets.specs.declared.instrs.Instr.TheFolds.{ind-Instr, ind-Bound}
use Rattle.xt_sheets.specs.declared.instrs.Instr.TheViews.{roll-Instr, roll-Value, roll-Bound}
use Rattle.xt_sheets.specs.declared.instrs.Instr.TheViews.{roll-When}
use Rattle.xt_sheets.specs.declared.instrs.Instr.TheOpen.{Instr-F, Value-F, Bound-F, When-F}
use Rattle.xt_sheets.specs.declared.instrs.Instr.TheOpen.{Chars, ValueOf, Literal, Element}
use Rattle.xt_sheets.specs.declared.instrs.Instr.TheOpen.{Attribute, Comment, Pi, Document, Copy}
use Rattle.xt_sheets.specs.declared.instrs.Instr.TheOpen.{CopyOf, Sequence, If, Choose, ForEach}
use Rattle.xt_sheets.specs.declared.instrs.Instr.TheOpen.{ForEachGroup, PerformSort, Variable}
use Rattle.xt_sheets.specs.declared.instrs.Instr.TheOpen.{Apply, ApplyImports, NextMatch}
use Rattle.xt_sheets.specs.declared.instrs.Instr.TheOpen.{CallTemplate, Select, Body, EmptyText}
use Rattle.xt_sheets.specs.declared.instrs.Instr.TheOpen.{EmptyList, Required}
use Rattle.xt_sheets.specs.Layers.{Kinds, InstrLayer, ValueLayer, BoundLayer, WhenLayer}
use Rattle.xt_sheets.specs.declared.values.AvtPart.{AvtPart}
use Rattle.xt_sheets.specs.declared.values.AvtPart.TheVariants as avt
use Rattle.xt_sheets.specs.declared.values.Grouping.{Grouping}
use Rattle.xt_sheets.specs.declared.values.Grouping.TheVariants.{By, Adjacent, Starting}
use Rattle.xt_sheets.specs.declared.values.LiteralAttr.{LiteralAttr}
use Rattle.xt_sheets.specs.declared.values.Sort.{Sort}
use Rattle.name_rules.specs.Scopes.{with_names}
use Rattle.sheet_uses.specs.declared.uses.Use.{Use}
use Rattle.sheet_uses.specs.declared.uses.Use.TheVariants as use_of
use Rattle.sheet_uses.specs.Exprs.{Finds, Binder, nothing, two, all_in, binders_in, behind}
use Rattle.sheet_uses.specs.Values.{if_expr, part_uses, if_template, template_uses, attribute_uses}
use Rattle.sheet_uses.specs.Values.{sort_uses, grouping_uses}
use Rattle.sheet_uses.specs.Bodies.{BoundFound, uses, sources_in, ordinary, three, four}
use Rattle.sheet_uses.specs.Bodies.{template_called, use_steps, instr_uses, value_uses, bound_uses}
use Rattle.sheet_uses.specs.Bodies.{when_uses, body_uses, param_uses, callee_uses}
use Rattle.declared_uses.proofs.AddedUses.Exprs.{two_have, all_have, each_has, binders_have}
use Rattle.declared_uses.proofs.AddedUses.Ends.{Adds, adding, expr_adds}

pub none_adds : Adds nothing
none_adds = adding.none

pub two_adds : (a b : Finds) → Adds a → Adds b → Adds (two a b)
two_adds = two_have Adds adding

pub all_adds : {A : Type 0} (f : A → Finds) (ys : List ((x : A) × Adds (f x)))
    → Adds (all_in (map f (map (λ y. y.0) ys)))
all_adds f ys = all_have Adds adding f ys

-- what each of a list uses
pub each_adds : {A : Type 0} (f : A → Finds) → ((x : A) → Adds (f x)) → (xs : List A)
    → Adds (all_in (map f xs))
each_adds f h xs = each_has Adds adding f h xs

three_add : (a b c : Finds) → Adds a → Adds b → Adds c → Adds (three a b c)
three_add a b c f g h = two_adds (two a b) c (two_adds a b f g) h

four_add : (a b c d : Finds) → Adds a → Adds b → Adds c → Adds d → Adds (four a b c d)
four_add a b c d f g h i = two_adds (two a b) (two c d) (two_adds a b f g) (two_adds c d h i)

option_adds : (e : Option Expr) → Adds (if_expr e)
option_adds None = none_adds
option_adds (Some e) = expr_adds e

part_adds : (p : AvtPart Expr) → Adds (part_uses p)
unfolding part_uses
part_adds (avt.Chars text) = none_adds
part_adds (avt.Code e) = expr_adds e

template_adds : (ps : List (AvtPart Expr)) → Adds (template_uses ps)
template_adds ps = each_adds part_uses part_adds ps

if_template_adds : (t : Option (List (AvtPart Expr))) → Adds (if_template t)
if_template_adds None = none_adds
if_template_adds (Some ps) = template_adds ps

attributes_add : (attrs : List (LiteralAttr Expr)) → Adds (all_in (map attribute_uses attrs))
attributes_add attrs = each_adds attribute_uses (λ a. template_adds a.value) attrs

sorts_add : (sorts : List (Sort Expr)) → Adds (all_in (map sort_uses sorts))
sorts_add sorts = each_adds sort_uses (λ s. expr_adds s.key) sorts

grouping_adds : (g : Grouping Expr Pattern) → Adds (grouping_uses g)
unfolding grouping_uses
grouping_adds (By e) = expr_adds e
grouping_adds (Adjacent e) = expr_adds e
grouping_adds (Starting ps) = none_adds

one_adds : (u : Use) → Adds (λ scope found. found ++ u ∷ [])
one_adds u scope found = refl

abbrev pub TheInstr : Type 0
TheInstr = Instr Expr Pattern

abbrev pub TheValue : Type 0
TheValue = Value Expr Pattern

abbrev pub TheBound : Type 0
TheBound = Bound Expr Pattern

abbrev pub TheWhen : Type 0
TheWhen = When Expr Pattern

abbrev InstrOf : TheInstr → Type 0
InstrOf x = Adds (instr_uses x).source

abbrev ValueIs : TheValue → Type 0
ValueIs x = Adds (value_uses x)

abbrev BoundIs : TheBound → Type 0
BoundIs x = Adds (bound_uses x).source

abbrev WhenIs : TheWhen → Type 0
WhenIs x = Adds (when_uses x)

-- parts, each with what is known of it
abbrev known : Kinds
known = record {
  Instrs = (x : TheInstr) × InstrOf x;
  Values = (x : TheValue) × ValueIs x;
  Bounds = (x : TheBound) × BoundIs x;
  Whens = (x : TheWhen) × WhenIs x;
}

abbrev plain_instr : InstrLayer Expr Pattern known
    → Instr-F Expr Pattern TheInstr TheValue TheBound TheWhen
plain_instr =
    map-Instr Expr Pattern known.Instrs known.Values known.Bounds known.Whens TheInstr TheValue
    TheBound TheWhen (λ y. y.0) (λ y. y.0) (λ y. y.0) (λ y. y.0)

abbrev layer_of_instr : Instr-F Expr Pattern TheInstr TheValue TheBound TheWhen
    → InstrLayer Expr Pattern uses
layer_of_instr =
    map-Instr Expr Pattern TheInstr TheValue TheBound TheWhen uses.Instrs uses.Values uses.Bounds
    uses.Whens instr_uses value_uses bound_uses when_uses

rolled_instr : (x : Instr-F Expr Pattern TheInstr TheValue TheBound TheWhen)
    → instr_uses (roll-Instr Expr Pattern x) ≡ use_steps.of_instr (layer_of_instr x)
rolled_instr x = fold-roll-Instr _ _ _ _ _ _ _ _ _ _ x

abbrev plain_value : ValueLayer Expr Pattern known
    → Value-F Expr Pattern TheInstr TheValue TheBound TheWhen
plain_value =
    map-Value Expr Pattern known.Instrs known.Values known.Bounds known.Whens TheInstr TheValue
    TheBound TheWhen (λ y. y.0) (λ y. y.0) (λ y. y.0) (λ y. y.0)

abbrev layer_of_value : Value-F Expr Pattern TheInstr TheValue TheBound TheWhen
    → ValueLayer Expr Pattern uses
layer_of_value =
    map-Value Expr Pattern TheInstr TheValue TheBound TheWhen uses.Instrs uses.Values uses.Bounds
    uses.Whens instr_uses value_uses bound_uses when_uses

rolled_value : (x : Value-F Expr Pattern TheInstr TheValue TheBound TheWhen)
    → value_uses (roll-Value Expr Pattern x) ≡ use_steps.of_value (layer_of_value x)
rolled_value x = fold-roll-Value _ _ _ _ _ _ _ _ _ _ x

abbrev plain_bound : BoundLayer Expr Pattern known
    → Bound-F Expr Pattern TheInstr TheValue TheBound TheWhen
plain_bound =
    map-Bound Expr Pattern known.Instrs known.Values known.Bounds known.Whens TheInstr TheValue
    TheBound TheWhen (λ y. y.0) (λ y. y.0) (λ y. y.0) (λ y. y.0)

abbrev layer_of_bound : Bound-F Expr Pattern TheInstr TheValue TheBound TheWhen
    → BoundLayer Expr Pattern uses
layer_of_bound =
    map-Bound Expr Pattern TheInstr TheValue TheBound TheWhen uses.Instrs uses.Values uses.Bounds
    uses.Whens instr_uses value_uses bound_uses when_uses

rolled_bound : (x : Bound-F Expr Pattern TheInstr TheValue TheBound TheWhen)
    → bound_uses (roll-Bound Expr Pattern x) ≡ use_steps.of_bound (layer_of_bound x)
rolled_bound x = fold-roll-Bound _ _ _ _ _ _ _ _ _ _ x

abbrev plain_when : WhenLayer Expr Pattern known
    → When-F Expr Pattern TheInstr TheValue TheBound TheWhen
plain_when =
    map-When Expr Pattern known.Instrs known.Values known.Bounds known.Whens TheInstr TheValue
    TheBound TheWhen (λ y. y.0) (λ y. y.0) (λ y. y.0) (λ y. y.0)

abbrev layer_of_when : When-F Expr Pattern TheInstr TheValue TheBound TheWhen
    → WhenLayer Expr Pattern uses
layer_of_when =
    map-When Expr Pattern TheInstr TheValue TheBound TheWhen uses.Instrs uses.Values uses.Bounds
    uses.Whens instr_uses value_uses bound_uses when_uses

rolled_when : (x : When-F Expr Pattern TheInstr TheValue TheBound TheWhen)
    → when_uses (roll-When Expr Pattern x) ≡ use_steps.of_when (layer_of_when x)
rolled_when x = fold-roll-When _ _ _ _ _ _ _ _ _ _ x

body_so : (ys : List known.Instrs) → Adds (binders_in (map instr_uses (map (λ y. y.0) ys)))
body_so ys =
    binders_have Adds adding (λ b. (instr_uses b).names) (λ b. (instr_uses b).source) ys

sources_so : (ys : List known.Bounds) → Adds (sources_in (map bound_uses (map (λ y. y.0) ys)))
sources_so [] = none_adds
sources_so (y ∷ ys) =
    two_adds (bound_uses y.0).source (sources_in (map bound_uses (map (λ y. y.0) ys))) y.1
    (sources_so ys)

called_so : (n : ℕ) (bs : List BoundFound) → Adds (sources_in bs) → Adds (template_called n bs)
called_so n bs f =
    two_adds (λ scope found. found ++ use_of.Template n (ordinary bs) ∷ []) (sources_in bs)
    (one_adds (use_of.Template n (ordinary bs))) f

instr_so : (y : InstrLayer Expr Pattern known)
    → Adds (use_steps.of_instr (layer_of_instr (plain_instr y))).source
instr_so (Chars text) = none_adds
instr_so (ValueOf select body separator) =
    three_add _ _ _ (option_adds select) (if_template_adds separator) (body_so body)
instr_so (Literal name attrs body) = two_adds _ _ (attributes_add attrs) (body_so body)
instr_so (Element name body) = two_adds _ _ (template_adds name.text) (body_so body)
instr_so (Attribute name select body separator) =
    four_add _ _ _ _ (template_adds name.text) (option_adds select) (if_template_adds separator)
    (body_so body)
instr_so (Comment select body) = two_adds _ _ (option_adds select) (body_so body)
instr_so (Pi name select body) =
    three_add _ _ _ (template_adds name) (option_adds select) (body_so body)
instr_so (Document body) = body_so body
instr_so (Copy body) = body_so body
instr_so (CopyOf e) = expr_adds e
instr_so (Sequence e) = expr_adds e
instr_so (If test body) = two_adds _ _ (expr_adds test) (body_so body)
instr_so (Choose whens other) = two_adds _ _ (all_adds when_uses whens) (body_so other)
instr_so (ForEach select sorts body) =
    three_add _ _ _ (expr_adds select) (sorts_add sorts) (body_so body)
instr_so (ForEachGroup select grouping sorts body) =
    four_add _ _ _ _ (expr_adds select) (grouping_adds grouping) (sorts_add sorts) (body_so body)
instr_so (PerformSort select sorts body) =
    three_add _ _ _ (option_adds select) (sorts_add sorts) (body_so body)
instr_so (Variable bound) = bound.1
instr_so (Apply select mode sorts params) =
    four_add _ _ _ _ (one_adds (use_of.Apply mode)) (option_adds select) (sorts_add sorts)
    (sources_so params)
instr_so (ApplyImports params) = sources_so params
instr_so (NextMatch params) = sources_so params
instr_so (CallTemplate n params) =
    called_so n (map bound_uses (map (λ y. y.0) params)) (sources_so params)

value_so : (y : ValueLayer Expr Pattern known)
    → Adds (use_steps.of_value (layer_of_value (plain_value y)))
value_so (Select e) = expr_adds e
value_so (Body body) = body_so body
value_so EmptyText = none_adds
value_so EmptyList = none_adds
value_so Required = none_adds

instr_step : (x : Instr-F Expr Pattern TheInstr TheValue TheBound TheWhen)
    (y : InstrLayer Expr Pattern known) → plain_instr y ≡ x → InstrOf (roll-Instr Expr Pattern x)
instr_step x y is = subst (λ z. InstrOf (roll-Instr Expr Pattern z)) is
    (subst (λ (r : Binder). Adds r.source) (sym (rolled_instr (plain_instr y))) (instr_so y))

value_step : (x : Value-F Expr Pattern TheInstr TheValue TheBound TheWhen)
    (y : ValueLayer Expr Pattern known) → plain_value y ≡ x → ValueIs (roll-Value Expr Pattern x)
value_step x y is = subst (λ z. ValueIs (roll-Value Expr Pattern z)) is
    (subst Adds (sym (rolled_value (plain_value y))) (value_so y))

bound_step : (x : Bound-F Expr Pattern TheInstr TheValue TheBound TheWhen)
    (y : BoundLayer Expr Pattern known) → plain_bound y ≡ x → BoundIs (roll-Bound Expr Pattern x)
bound_step x y is = subst (λ z. BoundIs (roll-Bound Expr Pattern z)) is
    (subst (λ (r : BoundFound). Adds r.source) (sym (rolled_bound (plain_bound y))) y.value.1)

when_step : (x : When-F Expr Pattern TheInstr TheValue TheBound TheWhen)
    (y : WhenLayer Expr Pattern known) → plain_when y ≡ x → WhenIs (roll-When Expr Pattern x)
when_step x y is = subst (λ z. WhenIs (roll-When Expr Pattern z)) is
    (subst Adds (sym (rolled_when (plain_when y))) (two_adds _ _ (expr_adds y.test) (body_so y.body)))

pub instr_adds : (x : Instr Expr Pattern) → Adds (instr_uses x).source
instr_adds =
    ind-Instr Expr Pattern InstrOf ValueIs BoundIs WhenIs instr_step value_step bound_step when_step

pub bound_adds : (x : Bound Expr Pattern) → Adds (bound_uses x).source
bound_adds =
    ind-Bound Expr Pattern InstrOf ValueIs BoundIs WhenIs instr_step value_step bound_step when_step

-- binders of a list
listed_add : {A : Type 0} (f : A → Binder) → ((x : A) → Adds (f x).source) → (xs : List A)
    → Adds (binders_in (map f xs))
listed_add f h [] = none_adds
listed_add f h (x ∷ xs) =
    adding.after (f x).source (binders_in (map f xs)) (λ scope. with_names scope (f x).names) (h x)
    (listed_add f h xs)

pub callee_adds : (params : List (Bound Expr Pattern)) (body : List (Instr Expr Pattern))
    → Adds (callee_uses params body)
callee_adds params body =
    adding.after (binders_in (map param_uses params)) (body_uses body)
    (behind (map param_uses params)) (listed_add param_uses bound_adds params)
    (listed_add instr_uses instr_adds body)
