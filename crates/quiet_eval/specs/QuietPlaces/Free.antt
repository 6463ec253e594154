-- Predicates that look at no position.
use Rattle.std.specs.Prelude.{◌≡◌, ℕ, List, Bool, true, false, ◌&&◌, ◌||◌}
use Rattle.std.specs.List.{list_all}
use Rattle.xt_tree.specs.Place.{Place}
use Rattle.xt_syntax.specs.declared.exprs.Expr.{Expr}
use Rattle.xt_syntax.specs.declared.exprs.Clause.TheOpen.{Int, Or, And, General, Call}
use Rattle.xt_syntax.specs.Layers.{Kinds, Steps, ExprLayer, expr_gives}
use Rattle.xt_forms.specs.Quiet.{quiet_call}
use Rattle.xt_forms.specs.declared.quiet_calls.QuietCall.{QuietCall}
use Rattle.xt_forms.specs.declared.quiet_calls.QuietCall.TheVariants as call
use Rattle.node_axes.specs.StepWalks.Nodes.{Focus}
use Rattle.quiet_meaning.specs.Quietly.{Quietly, holds_at}

abbrev pub focus : Place → ℕ → ℕ → Focus
focus n at count = record { node = n; position = at; size = count }

-- a node is kept at each position alike
abbrev pub IsSame : Quietly → Type 0
IsSame q = (n : Place) (at few again many : ℕ)
    → holds_at q (focus n at few) ≡ holds_at q (focus n again many)

-- a node is kept alike among however many, and where positions do not count at each of them
abbrev pub IsAlike : Bool → Quietly → Type 0
IsAlike placed q = (n : Place) (at few again many : ℕ) → (placed ≡ true → at ≡ again)
    → holds_at q (focus n at few) ≡ holds_at q (focus n again many)

-- of a predicate, or, where the second is true, of an operand; where the first is true positions may count
abbrev pub frees : Kinds
frees = record {
  Clauses = Unit {0};
  Exprs = Bool → Bool
      → Bool;
  Names = Unit {0};
  Parts = Unit {0};
  Arms = Unit {0};
  Binds = Unit {0};
  Attrs = Unit {0};
  Flwors = Unit {0};
  Orders = Unit {0};
}

unfoldable pub called_free : Bool → QuietCall → List (Bool → Bool → Bool) → Bool
called_free placed call.Position args = placed
called_free placed call.Last args = false
called_free placed call.Not args = list_all (λ f. f placed false) args
called_free placed call.Constant args = true
called_free placed call.Exists args = true
called_free placed call.Count args = true
called_free placed call.NameOf args = true
called_free placed call.Other args = true

abbrev pub expr_free : ExprLayer frees → Bool → Bool → Bool
expr_free (Int n) placed operand = placed || operand
expr_free (Or all) placed operand = list_all (λ f. f placed false) all
expr_free (And all) placed operand = list_all (λ f. f placed false) all
expr_free (General op a b) placed operand = a placed true && b placed true
expr_free (Call name args) placed operand = called_free placed (quiet_call name) args
expr_free x placed operand = true

abbrev pub free_steps : Steps frees
free_steps = record {
  of_expr = expr_free;
  of_clause = λ c. tt;
  of_name = λ n. tt;
  of_part = λ p. tt;
  of_arm = λ a. tt;
  of_bind = λ b. tt;
  of_attr = λ a. tt;
  of_flwor = λ f. tt;
  of_order = λ o. tt;
}

abbrev pub free_of : Expr → Bool → Bool → Bool
free_of = expr_gives frees free_steps

-- it looks at no position, and not at how many nodes there are
abbrev pub is_place_free_expr : Expr → Bool
is_place_free_expr e = free_of e false false

-- it does not look at how many nodes there are
abbrev pub is_size_free_expr : Expr → Bool
is_size_free_expr e = free_of e true false
