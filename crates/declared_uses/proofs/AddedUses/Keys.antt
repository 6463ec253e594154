-- What the grouping keys within a sequence constructor use is put after what was found before.
use Rattle.std.proofs.Common.{◌≡◌, List, map, sym, subst}
use Rattle.xt_syntax.specs.declared.exprs.Expr.{Expr}
use Rattle.xt_syntax.specs.declared.patterns.Pattern.{Pattern}
use Rattle.xt_sheets.specs.declared.instrs.Instr.{Instr}
use Rattle.xt_sheets.specs.declared.instrs.Bound.{Bound}
use Rattle.xt_sheets.specs.declared.instrs.Instr.TheFolds.{fold-roll-Instr, fold-roll-Value}
use Rattle.xt_sheets.specs.declared.instrs.Instr.TheFolds.{fold-roll-Bound, fold-roll-When}
use Rattle.xt_sheets.specs.declared.instrs.Instr.TheFolds.{map-Instr, map-Value, map-Bound, map-When}
use Rattle.xt_sheets.specs.declared.instrs.Instr.TheFolds.{ind-Instr, ind-Bound}
use Rattle.xt_sheets.specs.declared.instrs.Instr.TheViews.{roll-Instr, roll-Value, roll-Bound}
use Rattle.xt_sheets.specs.declared.instrs.Instr.TheViews.{roll-When}
use Rattle.xt_sheets.specs.declared.instrs.Instr.TheOpen.{Instr-F, Value-F, Bound-F, When-F}
use Rattle.xt_sheets.specs.declared.instrs.Instr.TheOpen.{Chars, ValueOf, Literal, Element}
use Rattle.xt_sheets.specs.declared.instrs.Instr.TheOpen.{Attribute, Comment, Pi, Document, Copy}
use Rattle.xt_sheets.specs.declared.instrs.Instr.TheOpen.{CopyOf, Sequence, If, Choose, ForEach}
use Rattle.xt_sheets.specs.declared.instrs.Instr.TheOpen.{ForEachGroup, PerformSort, Variable}
use Rattle.xt_sheets.specs.declared.instrs.Instr.TheOpen.{Apply, ApplyImports, NextMatch}
use Rattle.xt_sheets.specs.declared.instrs.Instr.TheOpen.{CallTemplate, Select, Body, EmptyText}
use Rattle.xt_sheets.specs.declared.instrs.Instr.TheOpen.{EmptyList, Required}
use Rattle.xt_sheets.specs.Layers.{Kinds, InstrLayer, ValueLayer, BoundLayer, WhenLayer}
use Rattle.xt_sheets.specs.declared.values.Grouping.{Grouping}
use Rattle.xt_sheets.specs.declared.values.Grouping.TheVariants.{By, Adjacent, Starting}
use Rattle.sheet_uses.specs.Exprs.{all_in}
use Rattle.sheet_uses.specs.KeyCalls.Bodies.{grouping_keys, keys, key_steps, instr_keys, value_keys}
use Rattle.sheet_uses.specs.KeyCalls.Bodies.{bound_keys, when_keys, body_keys, callee_keys}
use Rattle.declared_uses.proofs.AddedUses.Ends.{Adds, expr_adds}
use Rattle.declared_uses.proofs.AddedUses.Bodies.{all_adds, each_adds}
use Rattle.declared_uses.proofs.AddedUses.Bodies.{none_adds, two_adds, TheInstr, TheValue, TheBound, TheWhen}

grouping_adds : (g : Grouping Expr Pattern) → Adds (grouping_keys g)
unfolding grouping_keys
grouping_adds (By e) = expr_adds e
grouping_adds (Adjacent e) = expr_adds e
grouping_adds (Starting ps) = none_adds

abbrev InstrOf : TheInstr → Type 0
InstrOf x = Adds (instr_keys x)

abbrev ValueIs : TheValue → Type 0
ValueIs x = Adds (value_keys x)

abbrev BoundIs : TheBound → Type 0
BoundIs x = Adds (bound_keys x)

abbrev WhenIs : TheWhen → Type 0
WhenIs x = Adds (when_keys x)

-- parts, each with what is known of it
abbrev known : Kinds
known = record {
  Instrs = (x : TheInstr) × InstrOf x;
  Values = (x : TheValue) × ValueIs x;
  Bounds = (x : TheBound) × BoundIs x;
  Whens = (x : TheWhen) × WhenIs x;
}

abbrev plain_instr : InstrLayer Expr Pattern known
    → Instr-F Expr Pattern TheInstr TheValue TheBound TheWhen
plain_instr =
    map-Instr Expr Pattern known.Instrs known.Values known.Bounds known.Whens TheInstr TheValue
    TheBound TheWhen (λ y. y.0) (λ y. y.0) (λ y. y.0) (λ y. y.0)

abbrev layer_of_instr : Instr-F Expr Pattern TheInstr TheValue TheBound TheWhen
    → InstrLayer Expr Pattern keys
layer_of_instr =
    map-Instr Expr Pattern TheInstr TheValue TheBound TheWhen keys.Instrs keys.Values keys.Bounds
    keys.Whens instr_keys value_keys bound_keys when_keys

rolled_instr : (x : Instr-F Expr Pattern TheInstr TheValue TheBound TheWhen)
    → instr_keys (roll-Instr Expr Pattern x) ≡ key_steps.of_instr (layer_of_instr x)
rolled_instr x = fold-roll-Instr _ _ _ _ _ _ _ _ _ _ x

abbrev plain_value : ValueLayer Expr Pattern known
    → Value-F Expr Pattern TheInstr TheValue TheBound TheWhen
plain_value =
    map-Value Expr Pattern known.Instrs known.Values known.Bounds known.Whens TheInstr TheValue
    TheBound TheWhen (λ y. y.0) (λ y. y.0) (λ y. y.0) (λ y. y.0)

abbrev layer_of_value : Value-F Expr Pattern TheInstr TheValue TheBound TheWhen
    → ValueLayer Expr Pattern keys
layer_of_value =
    map-Value Expr Pattern TheInstr TheValue TheBound TheWhen keys.Instrs keys.Values keys.Bounds
    keys.Whens instr_keys value_keys bound_keys when_keys

rolled_value : (x : Value-F Expr Pattern TheInstr TheValue TheBound TheWhen)
    → value_keys (roll-Value Expr Pattern x) ≡ key_steps.of_value (layer_of_value x)
rolled_value x = fold-roll-Value _ _ _ _ _ _ _ _ _ _ x

abbrev plain_bound : BoundLayer Expr Pattern known
    → Bound-F Expr Pattern TheInstr TheValue TheBound TheWhen
plain_bound =
    map-Bound Expr Pattern known.Instrs known.Values known.Bounds known.Whens TheInstr TheValue
    TheBound TheWhen (λ y. y.0) (λ y. y.0) (λ y. y.0) (λ y. y.0)

abbrev layer_of_bound : Bound-F Expr Pattern TheInstr TheValue TheBound TheWhen
    → BoundLayer Expr Pattern keys
layer_of_bound =
    map-Bound Expr Pattern TheInstr TheValue TheBound TheWhen keys.Instrs keys.Values keys.Bounds
    keys.Whens instr_keys value_keys bound_keys when_keys

rolled_bound : (x : Bound-F Expr Pattern TheInstr TheValue TheBound TheWhen)
    → bound_keys (roll-Bound Expr Pattern x) ≡ key_steps.of_bound (layer_of_bound x)
rolled_bound x = fold-roll-Bound _ _ _ _ _ _ _ _ _ _ x

abbrev plain_when : WhenLayer Expr Pattern known
    → When-F Expr Pattern TheInstr TheValue TheBound TheWhen
plain_when =
    map-When Expr Pattern known.Instrs known.Values known.Bounds known.Whens TheInstr TheValue
    TheBound TheWhen (λ y. y.0) (λ y. y.0) (λ y. y.0) (λ y. y.0)

abbrev layer_of_when : When-F Expr Pattern TheInstr TheValue TheBound TheWhen
    → WhenLayer Expr Pattern keys
layer_of_when =
    map-When Expr Pattern TheInstr TheValue TheBound TheWhen keys.Instrs keys.Values keys.Bounds
    keys.Whens instr_keys value_keys bound_keys when_keys

rolled_when : (x : When-F Expr Pattern TheInstr TheValue TheBound TheWhen)
    → when_keys (roll-When Expr Pattern x) ≡ key_steps.of_when (layer_of_when x)
rolled_when x = fold-roll-When _ _ _ _ _ _ _ _ _ _ x

instr_so : (y : InstrLayer Expr Pattern known)
    → Adds (key_steps.of_instr (layer_of_instr (plain_instr y)))
instr_so (Chars text) = none_adds
instr_so (ValueOf select body separator) = all_adds instr_keys body
instr_so (Literal name attrs body) = all_adds instr_keys body
instr_so (Element name body) = all_adds instr_keys body
instr_so (Attribute name select body separator) = all_adds instr_keys body
instr_so (Comment select body) = all_adds instr_keys body
instr_so (Pi name select body) = all_adds instr_keys body
instr_so (Document body) = all_adds instr_keys body
instr_so (Copy body) = all_adds instr_keys body
instr_so (CopyOf e) = none_adds
instr_so (Sequence e) = none_adds
instr_so (If test body) = all_adds instr_keys body
instr_so (Choose whens other) = two_adds _ _ (all_adds when_keys whens) (all_adds instr_keys other)
instr_so (ForEach select sorts body) = all_adds instr_keys body
instr_so (ForEachGroup select grouping sorts body) =
    two_adds _ _ (grouping_adds grouping) (all_adds instr_keys body)
instr_so (PerformSort select sorts body) = all_adds instr_keys body
instr_so (Variable bound) = bound.1
instr_so (Apply select mode sorts params) = all_adds bound_keys params
instr_so (ApplyImports params) = all_adds bound_keys params
instr_so (NextMatch params) = all_adds bound_keys params
instr_so (CallTemplate n params) = all_adds bound_keys params

value_so : (y : ValueLayer Expr Pattern known)
    → Adds (key_steps.of_value (layer_of_value (plain_value y)))
value_so (Select e) = none_adds
value_so (Body body) = all_adds instr_keys body
value_so EmptyText = none_adds
value_so EmptyList = none_adds
value_so Required = none_adds

instr_step : (x : Instr-F Expr Pattern TheInstr TheValue TheBound TheWhen)
    (y : InstrLayer Expr Pattern known) → plain_instr y ≡ x → InstrOf (roll-Instr Expr Pattern x)
instr_step x y is = subst (λ z. InstrOf (roll-Instr Expr Pattern z)) is
    (subst Adds (sym (rolled_instr (plain_instr y))) (instr_so y))

value_step : (x : Value-F Expr Pattern TheInstr TheValue TheBound TheWhen)
    (y : ValueLayer Expr Pattern known) → plain_value y ≡ x → ValueIs (roll-Value Expr Pattern x)
value_step x y is = subst (λ z. ValueIs (roll-Value Expr Pattern z)) is
    (subst Adds (sym (rolled_value (plain_value y))) (value_so y))

bound_step : (x : Bound-F Expr Pattern TheInstr TheValue TheBound TheWhen)
    (y : BoundLayer Expr Pattern known) → plain_bound y ≡ x → BoundIs (roll-Bound Expr Pattern x)
bound_step x y is = subst (λ z. BoundIs (roll-Bound Expr Pattern z)) is
    (subst Adds (sym (rolled_bound (plain_bound y))) y.value.1)

when_step : (x : When-F Expr Pattern TheInstr TheValue TheBound TheWhen)
    (y : WhenLayer Expr Pattern known) → plain_when y ≡ x → WhenIs (roll-When Expr Pattern x)
when_step x y is = subst (λ z. WhenIs (roll-When Expr Pattern z)) is
    (subst Adds (sym (rolled_when (plain_when y))) (all_adds instr_keys y.body))

pub instr_adds : (x : Instr Expr Pattern) → Adds (instr_keys x)
instr_adds =
    ind-Instr Expr Pattern InstrOf ValueIs BoundIs WhenIs instr_step value_step bound_step when_step

pub bound_adds : (x : Bound Expr Pattern) → Adds (bound_keys x)
bound_adds =
    ind-Bound Expr Pattern InstrOf ValueIs BoundIs WhenIs instr_step value_step bound_step when_step

pub callee_adds : (params : List (Bound Expr Pattern)) (body : List (Instr Expr Pattern))
    → Adds (callee_keys params body)
callee_adds params body =
    two_adds (all_in (map bound_keys params)) (body_keys body)
    (each_adds bound_keys bound_adds params) (each_adds instr_keys instr_adds body)
