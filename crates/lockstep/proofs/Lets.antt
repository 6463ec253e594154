-- Lists of expressions, and variables that are bound one after another.
use Rattle.std.proofs.Common.{◌≡◌, ℕ, List, [], ◌∷◌, refl, sym, ap, ◌∙◌, map}
use Rattle.std.specs.Prelude.{None, false}
use Rattle.xt_names.specs.declared.names.ExprName.{ExprName}
use Rattle.xt_atoms.specs.Casts.{wrong_type}
use Rattle.xt_syntax.specs.declared.exprs.Clause.{Clause}
use Rattle.xt_syntax.specs.declared.exprs.Expr.{Expr}
use Rattle.xt_syntax.specs.declared.exprs.Clause.TheOpen.{Comma, Flwor, Let}
use Rattle.xt_syntax.specs.declared.exprs.Clause.TheViews.{roll-Flwor, roll-Bind}
use Rattle.xt_syntax.specs.Layers.{clause_gives}
use Rattle.expr_meaning.specs.Outcomes.Outcome.{and_then, for_each}
use Rattle.expr_meaning.proofs.OutcomesLemmas.Steps.{then_assoc, then_same}
use Rattle.expr_meaning.proofs.SortMeaning.Sorting.{sorted_plain}
use Rattle.expr_meaning.specs.Env.{Binding, Env, Meaning, Program, bind, bind_all}
use Rattle.expr_meaning.specs.Flow.{ClauseMeaning, flwor_of, flow_of, finished, keyed, where_clause}
use Rattle.expr_meaning.specs.Flow.{let_clause as let_meaning}
use Rattle.expr_meaning.specs.Logic.{Bound}
use Rattle.expr_meaning.specs.Meaning.{meanings, steps, outcome}
use Rattle.expr_meaning.specs.Values.{comma_of}
use Rattle.expr_laws.proofs.Rolled.{rolled_flwor, rolled_clause, rolled_bind}
use Rattle.expr_laws.proofs.Texts.{BindForm, FlworForm}
use Rattle.query_helpers.proofs.Gives.{mean}
use Rattle.translated_forms.specs.Forms.{comma, flow, flow_or_body, let_clause}
use Rattle.query_helpers.proofs.Flows.{one_each}

module _ (q : Program) where
  -- one expression alone is a list of one
  pub comma_is : (es : List Expr) (f : Env) (k : ℕ) →
      outcome q (comma es) f k ≡ comma_of (map (outcome q) es) f k
  unfolding comma
  comma_is [] f k = mean q (Comma []) f k
  comma_is (e ∷ []) f k = sym (one_each (outcome q e f k))
  comma_is (e ∷ g ∷ es) f k = mean q (Comma (e ∷ g ∷ es)) f k

  -- variables, each seeing those before it, and then the rest
  abbrev pub Lets : Type 0
  Lets = List (ExprName × Expr)

  abbrev pub let_of : ExprName × Expr → Clause
  let_of b = let_clause b.0 b.1

  abbrev pub lets_then : Lets → Meaning → Meaning
  lets_then [] rest env k = rest env k
  lets_then (b ∷ bs) rest env k =
      and_then (outcome q b.1 env k) (λ xs. lets_then bs rest (bind b.0 xs env))

  abbrev bound_of : ExprName × Expr → Bound
  bound_of b = record { var = b.0; kind = None; source = outcome q b.1 }

  let_means : (b : ExprName × Expr) →
      clause_gives meanings (steps q) (let_of b) ≡ let_meaning (bound_of b)
  let_means b =
      let form : BindForm = record { var = b.0; kind = None; source = b.1 } in
      rolled_clause q (Let (roll-Bind form)) ∙ ap let_meaning (rolled_bind q form)

  clauses_mean : (bs : Lets) → map (clause_gives meanings (steps q)) (map let_of bs)
      ≡ map (λ b. let_meaning (bound_of b)) bs
  clauses_mean [] = refl
  clauses_mean (b ∷ bs) = λ i. let_means b i ∷ clauses_mean bs i

  -- one tuple is left, and the body is evaluated with what it binds
  last_tuple : (body : Meaning) (bound : List Binding) (f : Env) (k : ℕ) →
      and_then (keyed [] bound f k) (finished [] body f) ≡ body (bind_all bound f) k
  last_tuple body bound f k =
      ap (λ o. and_then o (for_each (λ b. body (bind_all b f))))
      (sorted_plain wrong_type (bound ∷ []) k)
      ∙ one_each (body (bind_all bound f) k)

  lets_bound : (bs : Lets) (body : Meaning) (bound : List Binding) (f : Env) (k : ℕ) →
      and_then (flow_of (map (λ b. let_meaning (bound_of b)) bs) (where_clause None (keyed [])) bound f k)
      (finished [] body f)
      ≡ lets_then bs body (bind_all bound f) k
  lets_bound [] body bound f k = last_tuple body bound f k
  lets_bound (b ∷ bs) body bound f k =
      then_assoc (outcome q b.1 (bind_all bound f) k) _ (finished [] body f)
      ∙ then_same (outcome q b.1 (bind_all bound f) k) _ _
      (λ xs j. lets_bound bs body ((b.0, xs) ∷ bound) f j)

  pub flow_lets : (bs : Lets) (body : Expr) (f : Env) (k : ℕ) →
      outcome q (flow (map let_of bs) body) f k ≡ lets_then bs (outcome q body) f k
  flow_lets bs body f k =
      let form : FlworForm = record {
        clauses = map let_of bs;
        test = None;
        orders = [];
        stable = false;
        body = body;
      } in
      mean q (Flwor (roll-Flwor form)) f k
      ∙ ap (λ (m : Meaning). m f k) (rolled_flwor q form)
      ∙ ap (λ (cs : List ClauseMeaning). flwor_of cs None [] (outcome q body) f k) (clauses_mean bs)
      ∙ lets_bound bs (outcome q body) [] f k

  pub flow_or_body_lets : (bs : Lets) (body : Expr) (f : Env) (k : ℕ) →
      outcome q (flow_or_body (map let_of bs) body) f k ≡ lets_then bs (outcome q body) f k
  unfolding flow_or_body
  flow_or_body_lets [] body f k = refl
  flow_or_body_lets (b ∷ bs) body f k = flow_lets (b ∷ bs) body f k
