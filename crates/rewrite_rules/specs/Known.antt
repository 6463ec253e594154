-- Calls of functions that decide: true(), false(), not(e), empty(e), exists(e) and boolean(e).
use Rattle.std.specs.Prelude.{ℕ, List, [], ◌∷◌, Bool, true, false, length, codes, Option, Some, None}
use Rattle.function_table.specs.declared.builtins.Builtin.{Builtin}
use Rattle.function_table.specs.declared.builtins.Builtin.TheVariants as function
use Rattle.xt_syntax.specs.declared.exprs.Expr.{Expr}
use Rattle.xt_syntax.specs.declared.exprs.Clause.TheOpen.{Call}
use Rattle.xt_syntax.specs.declared.exprs.Clause.TheViews.{out-Expr, roll-Expr}
use Rattle.expr_meaning.specs.Calls.{Called, library, document, current, current_group, current_key}
use Rattle.expr_meaning.specs.Calls.{key, declared, called}
use Rattle.rewrite_rules.specs.Forms.{ExprForm}
use Rattle.xt_names.specs.ExprNames.{library_name}

pub data Known : Type 0 where
  constant : Bool → Known
  negation : Expr → Known
  emptiness : Expr → Known
  existence : Expr → Known
  truth : Expr → Known
  unknown : Known

abbrev pub without_argument : Builtin → Known
without_argument function.True = constant true
without_argument function.False = constant false
without_argument f = unknown

abbrev pub with_argument : Builtin → Expr → Known
with_argument function.Not e = negation e
with_argument function.Empty e = emptiness e
with_argument function.Exists e = existence e
with_argument function.Boolean e = truth e
with_argument f e = unknown

abbrev pub known_call : Called → List Expr → Known
known_call (library f) [] = without_argument f
known_call (library f) (e ∷ []) = with_argument f e
known_call (library f) (a ∷ b ∷ more) = unknown
known_call document args = unknown
known_call current args = unknown
known_call current_group args = unknown
known_call current_key args = unknown
known_call key args = unknown
known_call declared args = unknown

abbrev pub known_form : ExprForm → Known
known_form (Call name args) = known_call (called name (length args)) args
known_form x = unknown

abbrev pub known : Expr → Known
known e = known_form (out-Expr e)

-- the truth value of true() and of false()
abbrev pub constant_of : Known → Option Bool
constant_of (constant t) = Some t
constant_of (negation e) = None
constant_of (emptiness e) = None
constant_of (existence e) = None
constant_of (truth e) = None
constant_of unknown = None

abbrev pub fixed_truth : Expr → Option Bool
fixed_truth e = constant_of (known e)

abbrev pub call : List ℕ → List Expr → Expr
call local args = roll-Expr (Call (library_name local) args)

abbrev pub truth_local : Bool → List ℕ
truth_local true = codes "true"
truth_local false = codes "false"

abbrev pub constant_call : Bool → Expr
constant_call t = call (truth_local t) []

abbrev pub boolean_call : Expr → Expr
boolean_call e = call (codes "boolean") (e ∷ [])
