-- What is in the content of elements: attributes first and with different names, and no leaf that
-- may give an attribute.
use Rattle.std.specs.Prelude.{ℕ, zero, suc, List, [], ◌∷◌, length, Bool, true, false, not, ◌&&◌}
use Rattle.std.specs.Prelude.{Option, Some, None, if◌then◌else◌}
use Rattle.std.specs.List.{list_all, list_any}
use Rattle.xt_names.specs.declared.names.ExprName.{ExprName}
use Rattle.xt_names.specs.declared.names.Name.{Name}
use Rattle.xt_types.specs.declared.axes.Axis.{Axis}
use Rattle.xt_types.specs.declared.axes.Axis.TheVariants as axis
use Rattle.xt_types.specs.declared.node_tests.Test.{Test}
use Rattle.xt_types.specs.declared.node_tests.Test.TheVariants as test
use Rattle.xt_types.specs.declared.types.ItemType.{ItemType}
use Rattle.xt_types.specs.declared.types.ItemType.TheVariants as item_type
use Rattle.xt_types.specs.declared.types.SeqType.{SeqType}
use Rattle.xt_types.specs.declared.types.SeqType.TheVariants as seq_type
use Rattle.xt_syntax.specs.declared.exprs.Expr.{Expr}
use Rattle.xt_syntax.specs.declared.exprs.Clause.TheOpen.{Int, Str, Comma, Or}
use Rattle.xt_syntax.specs.declared.exprs.Clause.TheOpen.{And, If, Flwor, General, Value, Is}
use Rattle.xt_syntax.specs.declared.exprs.Clause.TheOpen.{Before, After, Range, Arith, Minus, Plus}
use Rattle.xt_syntax.specs.declared.exprs.Clause.TheOpen.{InstanceOf}
use Rattle.xt_syntax.specs.declared.exprs.Clause.TheOpen.{Castable, Cast, Slash, Step}
use Rattle.xt_syntax.specs.declared.exprs.Clause.TheOpen.{Filter, Call, ElemC, AttrC, TextC}
use Rattle.xt_syntax.specs.declared.exprs.Clause.TheOpen.{Fixed}
use Rattle.xt_syntax.specs.declared.exprs.Clause.TheOpen.{Computed}
use Rattle.xt_syntax.specs.declared.exprs.Clause.TheViews.{out-Expr, out-Arm, out-Flwor}
use Rattle.xt_syntax.specs.declared.exprs.Clause.TheViews.{out-NameSource}
use Rattle.xt_syntax.specs.declared.queries.QueryFunction.{QueryFunction}
use Rattle.function_table.specs.declared.builtins.Builtin.{Builtin}
use Rattle.function_table.specs.declared.builtins.Builtin.TheVariants as function
use Rattle.expr_meaning.specs.Calls.{Called, library, document, current, current_group, current_key}
use Rattle.expr_meaning.specs.Calls.{key, declared, called}
use Rattle.expr_meaning.specs.Queries.{find_function}
use Rattle.way_back.specs.Leaves.{is_leaf}
use Rattle.way_back.specs.Forms.{ExprForm, NameForm}
use Rattle.xt_names.specs.Names.{same_name}

-- a test that no attribute passes, wherever a step leads
abbrev pub excludes_attributes : Test → Bool
excludes_attributes (test.Named wanted) = true
excludes_attributes test.Node = false
excludes_attributes test.Text = true
excludes_attributes test.Comment = true
excludes_attributes (test.Pi wanted) = true
excludes_attributes test.Doc = true
excludes_attributes (test.Elem wanted) = true
excludes_attributes (test.Attr wanted) = false

abbrev pub axis_excludes : Axis → Test → Bool
axis_excludes axis.Attribute wanted = false
axis_excludes axis.Itself wanted = excludes_attributes wanted
axis_excludes axis.DescendantOrSelf wanted = excludes_attributes wanted
axis_excludes axis.AncestorOrSelf wanted = excludes_attributes wanted
axis_excludes along wanted = true

-- functions of the library whose value is no list of atoms: it is items that they are given, or a root
abbrev pub gives_atoms : Builtin → Bool
gives_atoms function.ExactlyOne = false
gives_atoms function.OneOrMore = false
gives_atoms function.ZeroOrOne = false
gives_atoms function.InsertBefore = false
gives_atoms function.Remove = false
gives_atoms function.Reverse = false
gives_atoms function.Subsequence = false
gives_atoms function.Unordered = false
gives_atoms function.Root = false
gives_atoms f = true

-- a test of a type that neither an attribute nor, as node() does, any node passes
abbrev pub kind_excludes : Test → Bool
kind_excludes (test.Named wanted) = false
kind_excludes test.Node = false
kind_excludes (test.Attr wanted) = false
kind_excludes test.Text = true
kind_excludes test.Comment = true
kind_excludes (test.Pi wanted) = true
kind_excludes test.Doc = true
kind_excludes (test.Elem wanted) = true

abbrev pub item_excludes : ItemType → Bool
item_excludes item_type.Any = false
item_excludes (item_type.Kind wanted) = kind_excludes wanted
item_excludes (item_type.Atomic kind) = true

abbrev pub type_excludes : Option SeqType → Bool
type_excludes None = false
type_excludes (Some seq_type.Empty) = false
type_excludes (Some (seq_type.Of kind count)) = item_excludes kind

abbrev pub function_excludes : Option QueryFunction → Bool
function_excludes None = false
function_excludes (Some f) = type_excludes f.kind

module _ (functions : List QueryFunction) where
  abbrev pub call_excludes : Called → ExprName → ℕ → Bool
  call_excludes (library f) name n = gives_atoms f
  call_excludes document name n = false
  call_excludes current name n = false
  call_excludes current_group name n = false
  call_excludes current_key name n = false
  call_excludes key name n = false
  call_excludes declared name n = function_excludes (find_function functions name n)

  -- a step that gives no attribute
  abbrev pub is_free_step : ExprForm → Bool
  is_free_step (Step along wanted tests) = axis_excludes along wanted
  is_free_step x = false

  -- The parts that are looked at are those whose items are the value: the base of a filter, what follows
  -- `then` and `else`, and what follows `return`. `union`, `intersect` and `except` are not among the
  -- operators, since they give the nodes that they are given.
  abbrev pub form_is_free : (Expr → Bool) → ExprForm → Bool
  form_is_free go (Int n) = true
  form_is_free go (Str text) = true
  form_is_free go (Comma all) = list_all go all
  form_is_free go (Or all) = true
  form_is_free go (And all) = true
  form_is_free go (If arms other) = list_all (λ a. go (out-Arm a).then) arms && go other
  form_is_free go (Flwor f) = go (out-Flwor f).body
  form_is_free go (General op a b) = true
  form_is_free go (Value op a b) = true
  form_is_free go (Is a b) = true
  form_is_free go (Before a b) = true
  form_is_free go (After a b) = true
  form_is_free go (Range a b) = true
  form_is_free go (Arith op a b) = true
  form_is_free go (Minus a) = true
  form_is_free go (Plus a) = true
  form_is_free go (InstanceOf a kind) = true
  form_is_free go (Castable a kind empty) = true
  form_is_free go (Cast a kind empty) = true
  form_is_free go (Slash a b) = is_free_step (out-Expr b)
  form_is_free go (Step along wanted tests) = axis_excludes along wanted
  form_is_free go (Filter of tests) = go of
  form_is_free go (Call name args) = call_excludes (called name (length args)) name (length args)
  form_is_free go x = false

  -- an expression that gives no attribute, of which so many levels are looked at
  unfoldable pub is_free_at : ℕ → Expr → Bool
  is_free_at zero e = false
  is_free_at (suc n) e = form_is_free (is_free_at n) (out-Expr e)

  -- Where an expression stands: in no content, somewhere in the content of an element, or as the content.
  pub data Where : Type 0 where
    outside : Where
    within : Where
    whole : Where

  abbrev pub part_of : Where → Where
  part_of outside = outside
  part_of within = within
  part_of whole = within

  abbrev pub leaf_stands : Where → Bool → Bool
  leaf_stands outside free = true
  leaf_stands within free = free
  leaf_stands whole free = free

  abbrev pub name_is_new : List Name → NameForm → Bool
  name_is_new names (Fixed name) = not (list_any (same_name name) names)
  name_is_new names (Computed e) = false

  abbrev pub with_form_name : NameForm → List Name → List Name
  with_form_name (Fixed name) names = name ∷ names
  with_form_name (Computed e) names = names

  abbrev pub front_stands : (Expr → Bool) → (List Name → Bool) → List Name → Expr →
      List Expr → ExprForm → Bool
  front_stands go more names e rest (AttrC name value) =
      name_is_new names (out-NameSource name) && more (with_form_name (out-NameSource name) names)
  front_stands go more names e rest x = go e && list_all go rest

  -- attributes with different names, and then parts that give none
  abbrev pub list_stands : (Expr → Bool) → List Expr → List Name → Bool
  list_stands go [] names = true
  list_stands go (e ∷ rest) names = front_stands go (list_stands go rest) names e rest (out-Expr e)

  abbrev pub form_stands : (Where → Expr → Bool) → Where → ExprForm → Bool
  form_stands go whole (AttrC name value) = true
  form_stands go whole (Comma all) = list_stands (go within) all []
  form_stands go w (Comma all) = list_all (go (part_of w)) all
  form_stands go w (If arms other) =
      list_all (λ a. go (part_of w) (out-Arm a).then) arms && go (part_of w) other
  form_stands go w (Flwor f) = go (part_of w) (out-Flwor f).body
  form_stands go w (TextC e) = true
  form_stands go w (ElemC name content) = go whole content
  form_stands go w x = false

  unfoldable pub stands_at : ℕ → Where → Expr → Bool
  stands_at zero w e = false
  stands_at (suc n) w e =
      if is_leaf e then leaf_stands w (is_free_at (suc n) e) else form_stands (stands_at n) w (out-Expr e)
