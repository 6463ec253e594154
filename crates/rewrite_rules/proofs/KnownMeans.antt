-- What calls of functions that decide mean.
use Rattle.std.proofs.Common.{◌≡◌, ℕ, List, [], ◌∷◌, ◌++◌, refl, sym, ◌∙◌, subst, map, length}
use Rattle.std.specs.Prelude.{Bool, true, false, codes}
use Rattle.xt_names.specs.declared.names.ExprName.{ExprName}
use Rattle.function_table.specs.declared.builtins.Builtin.{Builtin}
use Rattle.function_table.specs.declared.builtins.Builtin.TheVariants as function
use Rattle.function_table.specs.Find.{found, found_in, is_in_fn}
use Rattle.function_table.specs.Table.{joined}
use Rattle.xdm_items.specs.FunctionArguments.Answers.{of_truth}
use Rattle.fn_lib.specs.Functions.{function_value, value_of}
use Rattle.item_functions.specs.OnSequences.{empty_of, exists_of}
use Rattle.item_functions.specs.OnValues.{boolean_of, not_of}
use Rattle.xdm_items.specs.declared.items.Item.{Item}
use Rattle.xt_syntax.specs.declared.exprs.Expr.{Expr}
use Rattle.xt_syntax.specs.declared.exprs.Clause.TheOpen.{Call}
use Rattle.xt_syntax.specs.declared.exprs.Clause.TheViews.{out-Expr, roll-Expr, roll-out-Expr}
use Rattle.expr_meaning.specs.Outcomes.Outcome.{Outcome, Ends, Fails, Deep, and_then}
use Rattle.expr_meaning.specs.Env.{Env, Meaning, Program}
use Rattle.expr_meaning.specs.Meaning.{outcome}
use Rattle.expr_meaning.specs.Values.{unary}
use Rattle.expr_meaning.specs.Calls.{Called, library}
use Rattle.expr_meaning.specs.Calls.{called, call_value, call_of}
use Rattle.expr_laws.proofs.Rolled.{rolled}
use Rattle.rewrite_rules.specs.Forms.{ExprForm}
use Rattle.rewrite_rules.specs.Known.{Known, constant, negation, emptiness, existence, truth, unknown}
use Rattle.rewrite_rules.specs.Known.{without_argument, with_argument, known_call, known_form, known}
use Rattle.rewrite_rules.specs.Known.{call, constant_call, boolean_call}
use Rattle.xt_names.specs.ExprNames.{library_name}

abbrev pub Means : Program → Known → Meaning → Type 0
Means p (constant t) m = (env : Env) (k : ℕ) → m env k ≡ Ends (of_truth t) k
Means p (negation e) m = (env : Env) (k : ℕ) → m env k ≡ unary not_of (outcome p e) env k
Means p (emptiness e) m = (env : Env) (k : ℕ) → m env k ≡ unary empty_of (outcome p e) env k
Means p (existence e) m = (env : Env) (k : ℕ) → m env k ≡ unary exists_of (outcome p e) env k
Means p (truth e) m = (env : Env) (k : ℕ) → m env k ≡ unary boolean_of (outcome p e) env k
Means p unknown m = Unit {0}

-- a call with one argument
one_by : (o : Outcome (List Item)) (go : List (List Item) → ℕ → Outcome (List Item)) →
    and_then (and_then (and_then o (λ xs j. Ends (xs ∷ []) j))
    (λ ys j. Ends (ys ++ []) j)) go
    ≡ and_then o (λ xs j. go (xs ∷ []) j)
one_by (Ends xs k) go = refl
one_by (Fails c) go = refl
one_by Deep go = refl

module _ (p : Program) (name : ExprName) where
  pub call_one : (m : Meaning) (env : Env) (k : ℕ) →
      call_of p name (m ∷ []) env k
      ≡ and_then (m env k) (λ xs j. call_value p (called name 1) name env (xs ∷ []) j)
  call_one m env k = one_by (m env k) (call_value p (called name 1) name env)

  library_none : (f : Builtin) → called name 0 ≡ library f →
      Means p (without_argument f) (call_of p name [])
  unfolding function_value value_of
  library_none function.True h = λ env k. rw h refl
  library_none function.False h = λ env k. rw h refl
  library_none f h = tt

  library_one : (f : Builtin) (e : Expr) → called name 1 ≡ library f →
      Means p (with_argument f e) (call_of p name (outcome p e ∷ []))
  unfolding function_value value_of
  library_one function.Not e h = λ env k. call_one (outcome p e) env k ∙ rw h refl
  library_one function.Empty e h = λ env k. call_one (outcome p e) env k ∙ rw h refl
  library_one function.Exists e h = λ env k. call_one (outcome p e) env k ∙ rw h refl
  library_one function.Boolean e h = λ env k. call_one (outcome p e) env k ∙ rw h refl
  library_one f e h = tt

  none_means : (d : Called) → called name 0 ≡ d →
      Means p (known_call d []) (call_of p name [])
  none_means (library f) h = library_none f h
  none_means d h = tt

  one_means : (d : Called) (e : Expr) → called name 1 ≡ d →
      Means p (known_call d (e ∷ [])) (call_of p name (outcome p e ∷ []))
  one_means (library f) e h = library_one f e h
  one_means d e h = tt

  more_means : (d : Called) (a b : Expr) (more : List Expr) (m : Meaning) →
      Means p (known_call d (a ∷ b ∷ more)) m
  more_means (library f) a b more m = tt
  more_means d a b more m = tt

  call_means : (args : List Expr) →
      Means p (known_call (called name (length args)) args) (call_of p name (map (outcome p) args))
  call_means [] = none_means (called name 0) refl
  call_means (e ∷ []) = one_means (called name 1) e refl
  call_means (a ∷ b ∷ more) =
      more_means (called name (length (a ∷ b ∷ more))) a b more
      (call_of p name (map (outcome p) (a ∷ b ∷ more)))

form_means : (p : Program) (x : ExprForm) → Means p (known_form x) (outcome p (roll-Expr x))
form_means p (Call name args) =
    subst (Means p (known_call (called name (length args)) args)) (sym (rolled p (Call name args)))
    (call_means p name args)
form_means p x = tt

pub known_means : (p : Program) (e : Expr) → Means p (known e) (outcome p e)
known_means p e =
    subst (λ z. Means p (known e) (outcome p z)) (roll-out-Expr e) (form_means p (out-Expr e))

-- calls by name
true_called : called (library_name (codes "true")) 0 ≡ library function.True
unfolding called found found_in is_in_fn joined
true_called = refl

false_called : called (library_name (codes "false")) 0 ≡ library function.False
unfolding called found found_in is_in_fn joined
false_called = refl

not_called : called (library_name (codes "not")) 1 ≡ library function.Not
unfolding called found found_in is_in_fn joined
not_called = refl

empty_called : called (library_name (codes "empty")) 1 ≡ library function.Empty
unfolding called found found_in is_in_fn joined
empty_called = refl

exists_called : called (library_name (codes "exists")) 1 ≡ library function.Exists
unfolding called found found_in is_in_fn joined
exists_called = refl

boolean_called : called (library_name (codes "boolean")) 1 ≡ library function.Boolean
unfolding called found found_in is_in_fn joined
boolean_called = refl

one_call : (p : Program) (local : List ℕ) (f : Builtin) (e : Expr) →
    called (library_name local) 1 ≡ library f → Means p (with_argument f e) (outcome p (call local (e ∷ [])))
one_call p local f e h =
    subst (Means p (with_argument f e)) (sym (rolled p (Call (library_name local) (e ∷ []))))
    (library_one p (library_name local) f e h)

none_call : (p : Program) (local : List ℕ) (f : Builtin) →
    called (library_name local) 0 ≡ library f → Means p (without_argument f) (outcome p (call local []))
none_call p local f h =
    subst (Means p (without_argument f)) (sym (rolled p (Call (library_name local) [])))
    (library_none p (library_name local) f h)

pub constant_means : (p : Program) (t : Bool) → Means p (constant t) (outcome p (constant_call t))
constant_means p true = none_call p (codes "true") function.True true_called
constant_means p false = none_call p (codes "false") function.False false_called

pub not_means : (p : Program) (e : Expr) →
    Means p (negation e) (outcome p (call (codes "not") (e ∷ [])))
not_means p e = one_call p (codes "not") function.Not e not_called

pub empty_means : (p : Program) (e : Expr) →
    Means p (emptiness e) (outcome p (call (codes "empty") (e ∷ [])))
empty_means p e = one_call p (codes "empty") function.Empty e empty_called

pub exists_means : (p : Program) (e : Expr) →
    Means p (existence e) (outcome p (call (codes "exists") (e ∷ [])))
exists_means p e = one_call p (codes "exists") function.Exists e exists_called

pub boolean_means : (p : Program) (e : Expr) → Means p (truth e) (outcome p (boolean_call e))
boolean_means p e = one_call p (codes "boolean") function.Boolean e boolean_called
