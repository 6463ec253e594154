-- Properties that the test of a pattern has where the pattern's predicates have them.
use Rattle.std.specs.Prelude.{◌≡◌, ℕ, List, [], ◌∷◌, length, Bool, true, false, codes}
use Rattle.xt_names.specs.declared.kinds.CompareOp.{CompareOp}
use Rattle.xt_names.specs.declared.names.ExprName.{ExprName}
use Rattle.xt_types.specs.declared.axes.Axis.{Axis}
use Rattle.xt_types.specs.declared.node_tests.NameTest.TheVariants.{Any, Uri, Local, Exact}
use Rattle.xt_types.specs.declared.node_tests.Test.{Test}
use Rattle.xt_types.specs.declared.node_tests.Test.TheVariants as test
use Rattle.xt_syntax.specs.declared.exprs.Expr.{Expr}
use Rattle.xt_syntax.specs.declared.exprs.Clause.TheViews.{roll-Expr, roll-Arm}
use Rattle.xt_syntax.specs.declared.exprs.Clause.TheOpen.{Str, Context, Or, And, If, General}
use Rattle.xt_syntax.specs.declared.exprs.Clause.TheOpen.{Slash}
use Rattle.xt_syntax.specs.declared.exprs.Clause.TheOpen.{Filter, Intersect}
use Rattle.xt_syntax.specs.declared.patterns.Pattern.{Pattern}
use Rattle.xt_syntax.specs.declared.patterns.PatternStep.{PatternStep}
use Rattle.expr_meaning.specs.Outcomes.Outcome.{Every}
use Rattle.carried_exprs.specs.Sights.{the_item, library_call}
use Rattle.pattern_paths.specs.Predicates.{integer_castable}
use Rattle.pattern_paths.specs.Upwards.{step, never}
use Rattle.pattern_paths.specs.Matching.{some_along}

abbrev pub Passes : {A : Type 0} → (A → Bool) → A → Type 0
Passes f x = f x ≡ true

abbrev pub is_some_at_all : {A : Type 0} → List A → Bool
is_some_at_all [] = false
is_some_at_all (x ∷ xs) = true

-- a property of expressions, with one of tests, that the forms keep of which the test of a pattern
-- is made
pub record IsKept (P : Expr → Type 0) (T : Test → Type 0) : Type 0 where
  pub item : P the_item
  pub context : P (roll-Expr Context)
  pub castable : P integer_castable
  pub never : P never
  pub negated : (a : Expr) → P a → P (library_call (codes "not") (a ∷ []))
  pub uri_called : P (library_call (codes "namespace-uri") [])
  pub local_called : P (library_call (codes "local-name") [])
  pub uri_text : (uri : List ℕ) → T (test.Named (Uri uri)) → P (roll-Expr (Str uri))
  pub local_text : (local : List ℕ) → T (test.Named (Local local)) → P (roll-Expr (Str local))
  pub attribute_uri : (uri : List ℕ) → T (test.Attr (Uri uri)) → P (roll-Expr (Str uri))
  pub attribute_local : (local : List ℕ) → T (test.Attr (Local local)) → P (roll-Expr (Str local))
  pub node : T test.Node
  pub document : T test.Doc
  pub attribute : T (test.Attr Any)
  pub attribute_named : (name : ExprName) → T (test.Named (Exact name)) →
      T (test.Attr (Exact name))
  pub stepped : (along : Axis) (wanted : Test) (tests : List Expr) → T wanted → Every P tests →
      P (step along wanted tests)
  pub step_test : (along : Axis) (wanted : Test) (tests : List Expr) → P (step along wanted tests)
      → T wanted
  pub slashed : (a b : Expr) → P a → P b → P (roll-Expr (Slash a b))
  pub either : (a b : Expr) (more : List Expr) → Every P (a ∷ b ∷ more) →
      P (roll-Expr (Or (a ∷ b ∷ more)))
  pub chosen : (a b : Expr) → P a → P b →
      P (roll-Expr (If (roll-Arm (record { test = a; then = b }) ∷ []) (roll-Expr Context)))
  pub filtered : (a : Expr) (tests : List Expr) → is_some_at_all tests ≡ true → P a →
      Every P tests →
      P (roll-Expr (Filter a tests))
  pub intersected : (a b : Expr) → P a → P b → P (roll-Expr (Intersect a b))
  pub compared : (op : CompareOp) (a b : Expr) → P a → P b → P (roll-Expr (General op a b))
  pub compared_parts : (op : CompareOp) (a b : Expr) → P (roll-Expr (General op a b)) → P a × P b
  pub joined : (all more : List Expr) → P (roll-Expr (And all)) → length more ≡ length all →
      Every P more →
      P (roll-Expr (And more))
  pub joined_parts : (all : List Expr) → P (roll-Expr (And all)) → Every P all
  pub bound : (steps : List Expr) → is_some_at_all steps ≡ true → Every P steps →
      P (some_along steps)

-- the tests and the predicates of a pattern have them
abbrev pub HasParts : (Expr → Type 0) → (Test → Type 0) → Pattern → Type 0
HasParts P T p = Every (λ (s : PatternStep). T s.test × Every P s.quiet) p.steps
