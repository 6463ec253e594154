-- What an expression of XPath uses of what is declared around it (XPath 2.0, 3.1.2 and 3.1.5).
use Rattle.std.specs.Prelude.{ℕ, List, [], ◌∷◌, ◌++◌, length, Option, Some, None}
use Rattle.std.specs.Prelude.{if◌then◌else◌}
use Rattle.xt_names.specs.declared.names.ExprName.{ExprName}
use Rattle.xt_syntax.specs.declared.exprs.Expr.{Expr}
use Rattle.xt_syntax.specs.declared.exprs.Arm.{Arm}
use Rattle.xt_syntax.specs.declared.exprs.Clause.{Clause}
use Rattle.xt_syntax.specs.declared.exprs.Bind.{Bind}
use Rattle.xt_syntax.specs.declared.exprs.Flwor.{Flwor as FlworOf}
use Rattle.xt_syntax.specs.declared.exprs.Clause.TheOpen.{Int, Str, Var, Context, Root, Comma}
use Rattle.xt_syntax.specs.declared.exprs.Clause.TheOpen.{Or, And, If, Flwor, Quant, General}
use Rattle.xt_syntax.specs.declared.exprs.Clause.TheOpen.{Value, Is, Before, After, Range, Arith}
use Rattle.xt_syntax.specs.declared.exprs.Clause.TheOpen.{Minus, Plus, Union, Intersect, Except}
use Rattle.xt_syntax.specs.declared.exprs.Clause.TheOpen.{InstanceOf, Treat, Castable, Cast, Slash}
use Rattle.xt_syntax.specs.declared.exprs.Clause.TheOpen.{Step, Filter, Call, ElemC, AttrC, DocC}
use Rattle.xt_syntax.specs.declared.exprs.Clause.TheOpen.{TextC, CommentC, PiC, Direct, For, Let}
use Rattle.xt_syntax.specs.Layers.{Kinds, Steps, ExprLayer, ClauseLayer}
use Rattle.xt_syntax.specs.Layers.{expr_gives, arm_gives, clause_gives, bind_gives, flwor_gives}
use Rattle.name_rules.specs.Scopes.{has_name, with_names}
use Rattle.sheet_uses.specs.declared.uses.Use.{Use}
use Rattle.sheet_uses.specs.declared.uses.Use.TheVariants as use_of

-- what a part uses, in reading order, put after what was found before it; the names are those of
-- the variables that are bound around the part within the whole, and are not told
abbrev pub Finds : Type 0
Finds = List ExprName → List Use → List Use

-- what is found in an expression, and its text where it is a literal
pub record Found : Type 0 where
  pub finds : Finds
  pub literal : Option (List ℕ)

-- what binds variables: their names, and what is found in its source
pub record Binder : Type 0 where
  pub names : List ExprName
  pub source : Finds

abbrev pub uses : Kinds
uses = record {
  Clauses = Binder;
  Exprs = Found;
  Names = Finds;
  Parts = Finds;
  Arms = Finds;
  Binds = Binder;
  Attrs = Finds;
  Flwors = Finds;
  Orders = Finds;
}

abbrev pub nothing : Finds
nothing scope found = found

abbrev pub two : Finds → Finds → Finds
two a b scope found = b scope (a scope found)

abbrev pub all_in : List Finds → Finds
all_in [] scope found = found
all_in (f ∷ fs) scope found = all_in fs scope (f scope found)

abbrev pub all_found : List Found → Finds
all_found [] scope found = found
all_found (f ∷ fs) scope found = all_found fs scope (f.finds scope found)

-- each source sees the variables before it
abbrev pub binders_in : List Binder → Finds
binders_in [] scope found = found
binders_in (b ∷ bs) scope found =
    binders_in bs (with_names scope b.names) (b.source scope found)

-- the variables that are bound after what binds
abbrev pub behind : List Binder → List ExprName → List ExprName
behind [] scope = scope
behind (b ∷ bs) scope = behind bs (with_names scope b.names)

unfoldable pub variable_in : ExprName → Finds
variable_in name scope found =
    if has_name scope name then found else found ++ use_of.Variable name ∷ []

abbrev pub first_literal : List Found → Option (List ℕ)
first_literal [] = None
first_literal (a ∷ rest) = a.literal

abbrev pub called : ExprName → ℕ → Option (List ℕ) → List Use → List Use
called name arity literal found = found ++ use_of.Call name arity literal ∷ []

abbrev pub call_in : ExprName → List Found → Finds
call_in name args scope found =
    all_found args scope (called name (length args) (first_literal args) found)

abbrev pub just : Finds → Found
just f = record { finds = f; literal = None }

abbrev pub expr_layer : ExprLayer uses → Found
expr_layer (Int n) = just nothing
expr_layer (Str text) = record { finds = nothing; literal = Some text }
expr_layer (Var name) = just (variable_in name)
expr_layer Context = just nothing
expr_layer Root = just nothing
expr_layer (Comma all) = just (all_found all)
expr_layer (Or all) = just (all_found all)
expr_layer (And all) = just (all_found all)
expr_layer (If arms other) = just (two (all_in arms) other.finds)
expr_layer (Flwor parts) = just parts
expr_layer (Quant every binds test) =
    just (λ scope found. test.finds (behind binds scope) (binders_in binds scope found))
expr_layer (General op a b) = just (two a.finds b.finds)
expr_layer (Value op a b) = just (two a.finds b.finds)
expr_layer (Is a b) = just (two a.finds b.finds)
expr_layer (Before a b) = just (two a.finds b.finds)
expr_layer (After a b) = just (two a.finds b.finds)
expr_layer (Range a b) = just (two a.finds b.finds)
expr_layer (Arith op a b) = just (two a.finds b.finds)
expr_layer (Minus a) = just a.finds
expr_layer (Plus a) = just a.finds
expr_layer (Union a b) = just (two a.finds b.finds)
expr_layer (Intersect a b) = just (two a.finds b.finds)
expr_layer (Except a b) = just (two a.finds b.finds)
expr_layer (InstanceOf a kind) = just a.finds
expr_layer (Treat a kind) = just a.finds
expr_layer (Castable a kind empty) = just a.finds
expr_layer (Cast a kind empty) = just a.finds
expr_layer (Slash a b) = just (two a.finds b.finds)
expr_layer (Step axis node_test tests) = just (all_found tests)
expr_layer (Filter of tests) = just (two of.finds (all_found tests))
expr_layer (Call name args) = just (call_in name args)
expr_layer (ElemC name content) = just nothing
expr_layer (AttrC name content) = just nothing
expr_layer (DocC content) = just nothing
expr_layer (TextC content) = just nothing
expr_layer (CommentC content) = just nothing
expr_layer (PiC name content) = just nothing
expr_layer (Direct name attrs parts) = just nothing

abbrev pub clause_layer : ClauseLayer uses → Binder
clause_layer (For bind place) = bind
clause_layer (Let bind) = bind

-- no constructor, `where` or order is in XPath, so nothing is looked for in them
abbrev pub use_steps : Steps uses
use_steps = record {
  of_expr = expr_layer;
  of_clause = clause_layer;
  of_name = λ n. nothing;
  of_part = λ p. nothing;
  of_arm = λ a. two a.test.finds a.then.finds;
  of_bind = λ b. record { names = b.var ∷ []; source = b.source.finds };
  of_attr = λ a. nothing;
  of_flwor = λ f. λ scope found.
      f.body.finds (behind f.clauses scope) (binders_in f.clauses scope found);
  of_order = λ o. nothing;
}

abbrev pub expr_uses : Expr → Found
expr_uses = expr_gives uses use_steps

abbrev pub arm_uses : Arm → Finds
arm_uses = arm_gives uses use_steps

abbrev pub clause_binder : Clause → Binder
clause_binder = clause_gives uses use_steps

abbrev pub bind_binder : Bind → Binder
bind_binder = bind_gives uses use_steps

abbrev pub flwor_uses : FlworOf → Finds
flwor_uses = flwor_gives uses use_steps
