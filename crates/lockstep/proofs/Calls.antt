-- What the query does where it calls a function of the translation.
use Rattle.std.proofs.Common.{◌≡◌, ℕ, List, [], ◌∷◌, ◌++◌, length, refl, ap, ◌∙◌, map}
use Rattle.xdm_items.specs.declared.items.Item.{Item}
use Rattle.xt_syntax.specs.declared.exprs.Expr.{Expr}
use Rattle.xt_syntax.specs.declared.exprs.Clause.TheOpen.{Call}
use Rattle.expr_meaning.specs.Outcomes.Outcome.{Outcome, Ends, Fails, Deep, and_then, step_outcome}
use Rattle.expr_meaning.proofs.OutcomesLemmas.Steps.{then_assoc, then_same}
use Rattle.expr_meaning.specs.Calls.{called, library, call_value, lists_of}
use Rattle.function_table.specs.declared.builtins.Builtin.{Builtin}
use Rattle.fn_lib.specs.Functions.{function_value}
use Rattle.expr_meaning.specs.Env.{Env, Program}
use Rattle.expr_meaning.specs.Meaning.{outcome}
use Rattle.carried_exprs.specs.Sights.{local_uri}
use Rattle.carry_laws.proofs.Names.{local_called}
use Rattle.query_helpers.proofs.Gives.{mean, Gives}
use Rattle.translated_forms.specs.Dispatch.{called as call_of}
use Rattle.xt_names.specs.declared.names.ExprName.{ExprName}

-- what goes on from the lists of arguments goes on from the first of them, and then from the others
pub put_first : {B : Type 0} (o : Outcome (List Item)) (more : ℕ → Outcome (List (List Item)))
    (go : List (List Item) → ℕ → Outcome B) →
    and_then (and_then (and_then o (λ xs j. Ends (xs ∷ []) j))
    (λ ys j. and_then (more j) (λ zs i. Ends (ys ++ zs) i))) go
    ≡ and_then o (λ xs j. and_then (more j) (λ zs. go (xs ∷ zs)))
put_first (Ends xs j) more go = then_assoc (more j) (λ zs i. Ends (xs ∷ zs) i) go
put_first (Fails code) more go = refl
put_first Deep more go = refl

module _ (q : Program) where
  pub call_is : (name : ExprName) → name.uri ≡ local_uri → (args : List Expr) (f : Env) (k : ℕ) →
      outcome q (call_of name args) f k
      ≡ and_then (lists_of (map (outcome q) args) f k) (q.calls name)
  call_is name local args f k =
      mean q (Call name args) f k
      ∙ ap (λ c. and_then (lists_of (map (outcome q) args) f k) (call_value q c name f))
      (local_called name local (length (map (outcome q) args)))

  pub call_of_one : (name : ExprName) → name.uri ≡ local_uri → (a : Expr) (f : Env) (k : ℕ) →
      outcome q (call_of name (a ∷ [])) f k
      ≡ and_then (outcome q a f k) (λ xs. q.calls name (xs ∷ []))
  call_of_one name local a f k =
      call_is name local (a ∷ []) f k
      ∙ put_first (outcome q a f k) (lists_of [] f) (q.calls name)

  pub call_of_two : (name : ExprName) → name.uri ≡ local_uri → (a b : Expr) (f : Env) (k : ℕ) →
      outcome q (call_of name (a ∷ b ∷ [])) f k
      ≡ and_then (outcome q a f k) (λ xs j. and_then (outcome q b f j) (λ ys.
      q.calls name (xs ∷ ys ∷ [])))
  call_of_two name local a b f k =
      call_is name local (a ∷ b ∷ []) f k
      ∙ put_first (outcome q a f k) (lists_of (outcome q b ∷ []) f) (q.calls name)
      ∙ then_same (outcome q a f k) _ _ (λ xs j.
      put_first (outcome q b f j) (lists_of [] f) (λ zs. q.calls name (xs ∷ zs)))

  -- arguments that are there
  abbrev pub AllGive : List Expr → Env → List (List Item) → Type 0
  AllGive [] f [] = Unit {0}
  AllGive [] f (xs ∷ args) = ⊥
  AllGive (e ∷ es) f [] = ⊥
  AllGive (e ∷ es) f (xs ∷ args) = Gives q e f xs × AllGive es f args

  lists_given : (es : List Expr) (f : Env) (args : List (List Item)) → AllGive es f args → (k : ℕ) →
      lists_of (map (outcome q) es) f k ≡ Ends args k
  lists_given [] f [] h k = refl
  lists_given [] f (xs ∷ args) h k = absurd h
  lists_given (e ∷ es) f [] h k = absurd h
  lists_given (e ∷ es) f (xs ∷ args) h k = rw (h.0 k, lists_given es f args h.1 k) refl

  pub call_given : (name : ExprName) → name.uri ≡ local_uri → (es : List Expr) (f : Env)
      (args : List (List Item)) → AllGive es f args → (k : ℕ) →
      outcome q (call_of name es) f k ≡ q.calls name args k
  call_given name local es f args h k =
      call_is name local es f k
      ∙ ap (λ o. and_then o (q.calls name)) (lists_given es f args h k)

  -- functions of the library
  pub library_of_one : (name : ExprName) (g : Builtin) → called name 1 ≡ library g → (a : Expr)
      (f : Env) (k : ℕ) → outcome q (call_of name (a ∷ [])) f k
      ≡ and_then (outcome q a f k) (λ xs j. step_outcome (function_value g (xs ∷ [])) j)
  library_of_one name g is a f k =
      mean q (Call name (a ∷ [])) f k
      ∙ ap (λ c. and_then (lists_of (outcome q a ∷ []) f k) (call_value q c name f)) is
      ∙ put_first (outcome q a f k) (lists_of [] f) (call_value q (library g) name f)

  pub library_of_two : (name : ExprName) (g : Builtin) → called name 2 ≡ library g → (a b : Expr)
      (f : Env) (k : ℕ) → outcome q (call_of name (a ∷ b ∷ [])) f k
      ≡ and_then (outcome q a f k) (λ xs j. and_then (outcome q b f j) (λ ys i.
      step_outcome (function_value g (xs ∷ ys ∷ [])) i))
  library_of_two name g is a b f k =
      mean q (Call name (a ∷ b ∷ [])) f k
      ∙ ap (λ c. and_then (lists_of (outcome q a ∷ outcome q b ∷ []) f k) (call_value q c name f)) is
      ∙ put_first (outcome q a f k) (lists_of (outcome q b ∷ []) f) (call_value q (library g) name f)
      ∙ then_same (outcome q a f k) _ _ (λ xs j.
      put_first (outcome q b f j) (lists_of [] f) (λ zs. call_value q (library g) name f (xs ∷ zs)))
