-- Expressions that keep the static rules which are on no name alone: a cast is to a type that casts
-- are to (XPath 2.0, 3.10.2), no `for` has one name for its item and its position (XQuery 1.0,
-- 3.8.1), and no two attributes of a direct element have one name (3.7.1.1).
use Rattle.std.specs.Prelude.{Bool, true, not, ◌&&◌, List, map, Option, Some, None}
use Rattle.std.specs.List.{list_all}
use Rattle.xt_names.specs.declared.names.ExprName.{ExprName}
use Rattle.xt_names.specs.declared.names.Name.{Name}
use Rattle.xt_names.specs.declared.kinds.AtomType.{AtomType}
use Rattle.xt_syntax.specs.declared.exprs.Expr.{Expr}
use Rattle.xt_syntax.specs.declared.exprs.Arm.{Arm}
use Rattle.xt_syntax.specs.declared.exprs.Clause.{Clause}
use Rattle.xt_syntax.specs.declared.exprs.Order.{Order}
use Rattle.xt_syntax.specs.declared.exprs.Flwor.{Flwor as FlworOf}
use Rattle.xt_syntax.specs.declared.exprs.Bind.{Bind}
use Rattle.xt_syntax.specs.declared.exprs.NameSource.{NameSource}
use Rattle.xt_syntax.specs.declared.exprs.DirectAttr.{DirectAttr}
use Rattle.xt_syntax.specs.declared.exprs.Part.{Part}
use Rattle.xt_syntax.specs.declared.exprs.Clause.TheOpen.{Int, Str, Context, Root, Comma}
use Rattle.xt_syntax.specs.declared.exprs.Clause.TheOpen.{Or, And, General, Value, Is, Before}
use Rattle.xt_syntax.specs.declared.exprs.Clause.TheOpen.{After, Range, Arith, Minus, Plus, Union}
use Rattle.xt_syntax.specs.declared.exprs.Clause.TheOpen.{Intersect, Except, Filter}
use Rattle.xt_syntax.specs.declared.exprs.Clause.TheOpen.{Var, Call, Step, Slash}
use Rattle.xt_syntax.specs.declared.exprs.Clause.TheOpen.{InstanceOf, Treat, Castable, Cast}
use Rattle.xt_syntax.specs.declared.exprs.Clause.TheOpen.{DocC, TextC, CommentC, If, Flwor, Quant}
use Rattle.xt_syntax.specs.declared.exprs.Clause.TheOpen.{ElemC, AttrC, PiC, Fixed, Computed}
use Rattle.xt_syntax.specs.declared.exprs.Clause.TheOpen.{Direct, Chars, Enclosed, Child, For, Let}
use Rattle.xt_syntax.specs.Layers.{Kinds, Steps, ExprLayer, ClauseLayer, NameLayer, PartLayer}
use Rattle.xt_syntax.specs.Layers.{BindLayer, AttrLayer, FlworLayer, expr_gives, arm_gives}
use Rattle.xt_syntax.specs.Layers.{clause_gives, bind_gives, order_gives, name_gives, attr_gives}
use Rattle.xt_syntax.specs.Layers.{part_gives, flwor_gives}
use Rattle.expr_names.specs.Types.{cast_broken}
use Rattle.expr_names.specs.Doubles.{names_differ}
use Rattle.expr_raws.specs.PathRaws.Names.{no_codes}
use Rattle.xt_names.specs.ExprNames.{same_name}

-- the variable, and whether its source keeps the rules
pub record KeptBind : Type 0 where
  pub var : ExprName
  pub kept : Bool

-- the name of an attribute, and whether its parts keep the rules
pub record KeptAttr : Type 0 where
  pub name : Name
  pub kept : Bool

abbrev pub keeps : Kinds
keeps = record {
  Clauses = Bool;
  Exprs = Bool;
  Names = Bool;
  Parts = Bool;
  Arms = Bool;
  Binds = KeptBind;
  Attrs = KeptAttr;
  Flwors = Bool;
  Orders = Bool;
}

abbrev pub all : List Bool → Bool
all bs = list_all (λ b. b) bs

abbrev pub all_binds : List KeptBind → Bool
all_binds bs = list_all (λ b. b.kept) bs

abbrev pub all_attrs : List KeptAttr → Bool
all_attrs attrs = list_all (λ a. a.kept) attrs

abbrev pub attr_names : List KeptAttr → List Name
attr_names attrs = map (λ a. a.name) attrs

-- a cast may be to the type
abbrev pub is_cast_type : AtomType → Bool
is_cast_type k = no_codes (cast_broken (Some k))

abbrev pub expr_keeps : ExprLayer keeps → Bool
expr_keeps (Int n) = true
expr_keeps (Str cs) = true
expr_keeps (Var n) = true
expr_keeps Context = true
expr_keeps Root = true
expr_keeps (Comma es) = all es
expr_keeps (Or es) = all es
expr_keeps (And es) = all es
expr_keeps (If arms e) = all arms && e
expr_keeps (Flwor f) = f
expr_keeps (Quant every bs e) = all_binds bs && e
expr_keeps (General op a b) = a && b
expr_keeps (Value op a b) = a && b
expr_keeps (Is a b) = a && b
expr_keeps (Before a b) = a && b
expr_keeps (After a b) = a && b
expr_keeps (Range a b) = a && b
expr_keeps (Arith op a b) = a && b
expr_keeps (Minus a) = a
expr_keeps (Plus a) = a
expr_keeps (Union a b) = a && b
expr_keeps (Intersect a b) = a && b
expr_keeps (Except a b) = a && b
expr_keeps (InstanceOf a t) = a
expr_keeps (Treat a t) = a
expr_keeps (Castable a k empty) = a && is_cast_type k
expr_keeps (Cast a k empty) = a && is_cast_type k
expr_keeps (Slash a b) = a && b
expr_keeps (Step on t es) = all es
expr_keeps (Filter a es) = a && all es
expr_keeps (Call n es) = all es
expr_keeps (ElemC n a) = n && a
expr_keeps (AttrC n a) = n && a
expr_keeps (DocC a) = a
expr_keeps (TextC a) = a
expr_keeps (CommentC a) = a
expr_keeps (PiC n a) = n && a
expr_keeps (Direct n attrs ps) = names_differ (attr_names attrs) && (all_attrs attrs && all ps)

-- the variable behind `at` has another name than that of the item
abbrev pub is_other : ExprName → Option ExprName → Bool
is_other v None = true
is_other v (Some p) = not (same_name v p)

abbrev pub clause_keeps : ClauseLayer keeps → Bool
clause_keeps (For b p) = b.kept && is_other b.var p
clause_keeps (Let b) = b.kept

abbrev pub name_keeps : NameLayer keeps → Bool
name_keeps (Fixed n) = true
name_keeps (Computed e) = e

abbrev pub part_keeps : PartLayer keeps → Bool
part_keeps (Chars cs) = true
part_keeps (Enclosed e) = e
part_keeps (Child e) = e

abbrev pub bind_keeps : BindLayer keeps → KeptBind
bind_keeps b = record { var = b.var; kept = b.source }

abbrev pub attr_keeps : AttrLayer keeps → KeptAttr
attr_keeps a = record { name = a.name; kept = all a.parts }

abbrev pub if_keeps : Option Bool → Bool
if_keeps None = true
if_keeps (Some b) = b

abbrev pub flwor_keeps : FlworLayer keeps → Bool
flwor_keeps f = all f.clauses && (if_keeps f.test && (all f.orders && f.body))

abbrev pub keep_steps : Steps keeps
keep_steps = record {
  of_expr = expr_keeps;
  of_clause = clause_keeps;
  of_name = name_keeps;
  of_part = part_keeps;
  of_arm = λ a. a.test && a.then;
  of_bind = bind_keeps;
  of_attr = attr_keeps;
  of_flwor = flwor_keeps;
  of_order = λ o. o.key;
}

-- whether the expression keeps the rules
abbrev pub keeps_rules : Expr → Bool
keeps_rules = expr_gives keeps keep_steps

abbrev pub arm_keeps_rules : Arm → Bool
arm_keeps_rules = arm_gives keeps keep_steps

abbrev pub clause_keeps_rules : Clause → Bool
clause_keeps_rules = clause_gives keeps keep_steps

abbrev pub kept_bind : Bind → KeptBind
kept_bind = bind_gives keeps keep_steps

abbrev pub order_keeps_rules : Order → Bool
order_keeps_rules = order_gives keeps keep_steps

abbrev pub source_keeps_rules : NameSource → Bool
source_keeps_rules = name_gives keeps keep_steps

abbrev pub kept_attr : DirectAttr → KeptAttr
kept_attr = attr_gives keeps keep_steps

abbrev pub part_keeps_rules : Part → Bool
part_keeps_rules = part_gives keeps keep_steps

abbrev pub flwor_keeps_rules : FlworOf → Bool
flwor_keeps_rules = flwor_gives keeps keep_steps
