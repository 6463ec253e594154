-- Leaves: expressions of XPath 2.0, 3, that call no function of stylesheets alone, and whether they
-- read the focus.
use Rattle.std.specs.Prelude.{ℕ, zero, suc, List, [], ◌∷◌, length, Bool, true, false, not, ◌&&◌}
use Rattle.std.specs.Prelude.{Option, Some, None}
use Rattle.xt_names.specs.Allowed.{is_empty_text}
use Rattle.xt_names.specs.Classes.{is_xml_text}
use Rattle.xt_names.specs.declared.names.ExprName.{ExprName}
use Rattle.xdm_items.specs.declared.items.Item.{Item}
use Rattle.xt_syntax.specs.declared.exprs.Expr.{Expr}
use Rattle.xt_syntax.specs.declared.exprs.Arm.{Arm}
use Rattle.xt_syntax.specs.declared.exprs.Clause.{Clause}
use Rattle.xt_syntax.specs.declared.exprs.Order.{Order}
use Rattle.xt_syntax.specs.declared.exprs.Flwor.{Flwor as FlworOf}
use Rattle.xt_syntax.specs.declared.exprs.Bind.{Bind}
use Rattle.xt_syntax.specs.declared.exprs.Clause.TheOpen.{Int, Str, Var, Context, Root, Comma, Or}
use Rattle.xt_syntax.specs.declared.exprs.Clause.TheOpen.{And, If, Flwor, Quant, General, Value, Is}
use Rattle.xt_syntax.specs.declared.exprs.Clause.TheOpen.{Before, After, Range, Arith, Minus, Plus}
use Rattle.xt_syntax.specs.declared.exprs.Clause.TheOpen.{Union, Intersect, Except, InstanceOf}
use Rattle.xt_syntax.specs.declared.exprs.Clause.TheOpen.{Treat, Castable, Cast, Slash, Step}
use Rattle.xt_syntax.specs.declared.exprs.Clause.TheOpen.{Filter, Call, ElemC, AttrC, DocC, TextC}
use Rattle.xt_syntax.specs.declared.exprs.Clause.TheOpen.{CommentC, PiC, Direct, For, Let}
use Rattle.xt_syntax.specs.Layers.{Kinds, Steps, ExprLayer, ClauseLayer, FlworLayer, BindLayer}
use Rattle.xt_syntax.specs.Layers.{expr_gives, clause_gives, arm_gives, bind_gives, flwor_gives}
use Rattle.xt_syntax.specs.Layers.{order_gives}
use Rattle.function_table.specs.declared.builtins.Builtin.{Builtin}
use Rattle.expr_meaning.specs.SortMeaning.Sorted.{Placed}
use Rattle.expr_meaning.specs.Calls.{Called, library, document, current, current_group, current_key}
use Rattle.expr_meaning.specs.Calls.{key, declared, called, read_of_focus}

-- whether a part is a leaf, and where this is `true`, whether it also reads no focus
abbrev pub Test : Type 0
Test = Bool → Bool

abbrev pub leaves : Kinds
leaves = record {
  Clauses = Test;
  Exprs = Test;
  Names = Bool;
  Parts = Bool;
  Arms = Test;
  Binds = Test;
  Attrs = Bool;
  Flwors = Test;
  Orders = Test;
}

abbrev pub all_at : List Test → Bool → Bool
all_at [] free = true
all_at (a ∷ more) free = a free && all_at more free

abbrev pub both_at : Test → Test → Test
both_at a b free = a free && b free

-- a variable of a query has a name; the one without is left for the law's own use
abbrev pub has_local : ExprName → Bool
has_local name = not (is_empty_text name.local)

abbrev pub is_missing : {A : Type 0} → Option A → Bool
is_missing None = true
is_missing (Some a) = false

abbrev pub is_none_of : {A : Type 0} → List A → Bool
is_none_of [] = true
is_none_of (a ∷ more) = false

abbrev pub is_read : Option (Placed Item → List Item) → Bool
is_read None = false
is_read (Some read) = true

-- whether a call of a function of the library reads no focus
abbrev pub library_at : Builtin → ℕ → Bool
library_at f zero = not (is_read (read_of_focus f))
library_at f (suc n) = true

abbrev pub call_at : Called → ℕ → Test
call_at (library f) n true = library_at f n
call_at (library f) n false = true
call_at document n free = true
call_at current n free = false
call_at current_group n free = false
call_at current_key n free = false
call_at key n free = false
call_at declared n free = true

-- a predicate and the right side of a path have a focus of their own
abbrev pub expr_at : ExprLayer leaves → Test
expr_at (Int n) free = true
expr_at (Str text) free = is_xml_text text
expr_at (Var name) free = has_local name
expr_at Context free = not free
expr_at Root free = not free
expr_at (Comma all) free = all_at all free
expr_at (Or all) free = all_at all free
expr_at (And all) free = all_at all free
expr_at (If arms other) free = all_at arms free && other free
expr_at (Flwor parts) free = parts free
expr_at (Quant every binds test) free = all_at binds free && test free
expr_at (General op a b) free = a free && b free
expr_at (Value op a b) free = a free && b free
expr_at (Is a b) free = a free && b free
expr_at (Before a b) free = a free && b free
expr_at (After a b) free = a free && b free
expr_at (Range a b) free = a free && b free
expr_at (Arith op a b) free = a free && b free
expr_at (Minus a) free = a free
expr_at (Plus a) free = a free
expr_at (Union a b) free = a free && b free
expr_at (Intersect a b) free = a free && b free
expr_at (Except a b) free = a free && b free
expr_at (InstanceOf a kind) free = a free
expr_at (Treat a kind) free = a free
expr_at (Castable a kind empty) free = a free
expr_at (Cast a kind empty) free = a free
expr_at (Slash a b) free = a free && b false
expr_at (Step axis node_test tests) free = not free && all_at tests false
expr_at (Filter of tests) free = of free && all_at tests false
expr_at (Call name args) free = call_at (called name (length args)) (length args) free && all_at args free
expr_at (ElemC name content) free = false
expr_at (AttrC name content) free = false
expr_at (DocC content) free = false
expr_at (TextC content) free = false
expr_at (CommentC content) free = false
expr_at (PiC name content) free = false
expr_at (Direct name attrs parts) free = false

-- a `for` without a position
abbrev pub clause_at : ClauseLayer leaves → Test
clause_at (For bind place) free = is_missing place && bind free
clause_at (Let bind) free = false

abbrev pub bind_at : BindLayer leaves → Test
bind_at b free = has_local b.var && (is_missing b.kind && b.source free)

abbrev pub flwor_at : FlworLayer leaves → Test
flwor_at f free =
    all_at f.clauses free && (is_missing f.test && (is_none_of f.orders && f.body free))

abbrev pub leaf_steps : Steps leaves
leaf_steps = record {
  of_expr = expr_at;
  of_clause = clause_at;
  of_name = λ n. false;
  of_part = λ p. false;
  of_arm = λ a free. a.test free && a.then free;
  of_bind = bind_at;
  of_attr = λ a. false;
  of_flwor = flwor_at;
  of_order = λ o free. false;
}

-- a leaf; where `free` is true, one that reads no focus
abbrev pub is_leaf_at : Expr → Bool → Bool
is_leaf_at = expr_gives leaves leaf_steps

abbrev pub is_leaf : Expr → Bool
is_leaf e = is_leaf_at e false

abbrev pub is_leaf_arm : Arm → Test
is_leaf_arm = arm_gives leaves leaf_steps

abbrev pub is_leaf_clause : Clause → Test
is_leaf_clause = clause_gives leaves leaf_steps

abbrev pub is_leaf_bind : Bind → Test
is_leaf_bind = bind_gives leaves leaf_steps

abbrev pub is_leaf_flwor : FlworOf → Test
is_leaf_flwor = flwor_gives leaves leaf_steps

abbrev pub is_leaf_order : Order → Test
is_leaf_order = order_gives leaves leaf_steps
