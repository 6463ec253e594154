-- Of bindings that give a value those alone are written whose names are mentioned after them: the
-- others may be left out.
use Rattle.std.proofs.Common.{◌≡◌, ℕ, List, [], ◌∷◌, refl, ap, sym, ◌∙◌, map, subst}
use Rattle.std.specs.Prelude.{Bool, true, false, ◌||◌, None, if◌then◌else◌}
use Rattle.std.specs.List.{list_any}
use Rattle.xt_names.specs.declared.codes.Code.{Code}
use Rattle.xt_names.specs.declared.names.ExprName.{ExprName}
use Rattle.xdm_items.specs.declared.items.Item.{Item}
use Rattle.xt_syntax.specs.declared.exprs.Clause.{Clause}
use Rattle.xt_syntax.specs.declared.exprs.Expr.{Expr}
use Rattle.xt_syntax.specs.declared.exprs.Clause.TheOpen.{Flwor}
use Rattle.xt_syntax.specs.declared.exprs.Clause.TheViews.{roll-Flwor}
use Rattle.expr_meaning.specs.Outcomes.Outcome.{Outcome, Ends, and_then}
use Rattle.expr_meaning.specs.Outcomes.Follow.{Relation, IsCarrying}
use Rattle.expr_meaning.specs.Env.{Env, Program, bind}
use Rattle.expr_meaning.specs.Meaning.{outcome}
use Rattle.expr_laws.proofs.Texts.{FlworForm}
use Rattle.translated_forms.specs.Forms.{let_clause, flow_or_body}
use Rattle.translated_forms.specs.Groups.{Named, needed, in_body}
use Rattle.translated_forms.specs.Mentions.{mentions, in_clause, in_clauses, some}
use Rattle.lockstep.proofs.Lets.{Lets, let_of, flow_or_body_lets}
use Rattle.lockstep_loops.proofs.MentionsRolled.{expr_rolled, flwor_rolled}
use Rattle.lockstep_loops.proofs.Unmentioned.{no_first, no_second, unmentioned}
use Rattle.lockstep_loops.proofs.Unsized.{hidden}

any_of_some : {A : Type 0} (f : A → Bool) (xs : List A) → some (map f xs) ≡ list_any f xs
any_of_some f [] = refl
any_of_some f (x ∷ xs) = ap (λ b. f x || b) (any_of_some f xs)

-- what a flow of bindings mentions
flow_mentions : (v : ExprName) (cs : List Clause) (body : Expr) → in_clauses v cs ≡ false →
    mentions v body ≡ false → mentions v (flow_or_body cs body) ≡ false
unfolding flow_or_body
flow_mentions v [] body h g = g
flow_mentions v (c ∷ cs) body h g =
    let form : FlworForm = record {
      clauses = c ∷ cs;
      test = None;
      orders = [];
      stable = false;
      body = body;
    } in
    expr_rolled v (Flwor (roll-Flwor form))
    ∙ flwor_rolled v form
    ∙ rw (any_of_some (in_clause v) (c ∷ cs), h, g) refl

module _ (like : Code → Code → Type 0) (rel : Relation) (carries : IsCarrying like rel)
    (q : Program) where
  -- the expression gives this list there
  abbrev pub IsGiven : Expr → Env → List Item → Type 0
  IsGiven e f xs = (k : ℕ) → rel (List Item) (λ ys. ys ≡ xs) (Ends xs k) (outcome q e f k)

  -- each binding gives its list after all that come before it
  abbrev pub AreGiven : List Named → List (List Item) → Env → Type 0
  AreGiven [] [] f = Unit {0}
  AreGiven [] (xs ∷ rest) f = ⊥
  AreGiven (b ∷ bs) [] f = ⊥
  AreGiven (b ∷ bs) (xs ∷ rest) f = IsGiven b.value f xs × AreGiven bs rest (bind b.name xs f)

  -- the place after all of them
  abbrev pub behind_all : List Named → List (List Item) → Env → Env
  behind_all [] rest f = f
  behind_all (b ∷ bs) [] f = f
  behind_all (b ∷ bs) (xs ∷ rest) f = behind_all bs rest (bind b.name xs f)

  -- the bindings that are written
  abbrev pub written_before : Named → Bool → Lets q → Lets q
  written_before b true bs = (b.name, b.value) ∷ bs
  written_before b false bs = bs

  abbrev pub written : List Named → (ExprName → Bool) → Lets q
  written [] used = []
  written (b ∷ bs) used =
      written_before b (in_clauses b.name (needed bs used) || used b.name) (written bs used)

  pub are_written : (bs : List Named) (used : ExprName → Bool) →
      needed bs used ≡ map (let_of q) (written bs used)
  are_written [] used = refl
  are_written (b ∷ bs) used =
      by (in_clauses b.name (needed bs used) || used b.name) (are_written bs used)
    where
      by : (c : Bool) → needed bs used ≡ map (let_of q) (written bs used) →
          (if c then let_clause b.name b.value ∷ needed bs used else needed bs used)
          ≡ map (let_of q) (written_before b c (written bs used))
      by true e = ap (λ cs. let_clause b.name b.value ∷ cs) e
      by false e = e

  -- a binding and then others
  one_more : (b : Named) (bs : List Named) (used : ExprName → Bool) (body : Expr) (f : Env) (k : ℕ) →
      outcome q (flow_or_body (let_clause b.name b.value ∷ needed bs used) body) f k
      ≡ and_then (outcome q b.value f k)
      (λ xs. outcome q (flow_or_body (needed bs used) body) (bind b.name xs f))
  one_more b bs used body f k =
      ap (λ cs. outcome q (flow_or_body (let_clause b.name b.value ∷ cs) body) f k) (are_written bs used)
      ∙ flow_or_body_lets q ((b.name, b.value) ∷ written bs used) body f k
      ∙ (λ i. and_then (outcome q b.value f k)
      (λ xs j. sym (flow_or_body_lets q (written bs used) body (bind b.name xs f) j) i))
      ∙ ap (λ cs. and_then (outcome q b.value f k)
      (λ xs. outcome q (flow_or_body cs body) (bind b.name xs f))) (sym (are_written bs used))

  pub needed_give : (P : List Item → Type 0) (body : Expr) (m : ℕ → Outcome (List Item))
      (bs : List Named) (rest : List (List Item)) (f : Env) → AreGiven bs rest f →
      ((k : ℕ) → rel (List Item) P (m k) (outcome q body (behind_all bs rest f) k)) → (k : ℕ) →
      rel (List Item) P (m k) (outcome q (flow_or_body (needed bs (in_body body)) body) f k)
  unfolding flow_or_body
  needed_give P body m [] [] f g h k = h k
  needed_give P body m [] (xs ∷ rest) f g h k = absurd g
  needed_give P body m (b ∷ bs) [] f g h k = absurd g
  needed_give P body m (b ∷ bs) (xs ∷ rest) f g h k =
      by (in_clauses b.name cs || in_body body b.name) refl (λ ys j e.
      subst (λ zs. rel (List Item) P (m j) (outcome q (flow_or_body cs body) (bind b.name zs f) j))
      (sym e) (needed_give P body m bs rest (bind b.name xs f) g.1 h j))
    where
      cs : List Clause
      cs = needed bs (in_body body)

      by : (c : Bool) → (in_clauses b.name cs || in_body body b.name) ≡ c →
          ((ys : List Item) (j : ℕ) → ys ≡ xs →
          rel (List Item) P (m j) (outcome q (flow_or_body cs body) (bind b.name ys f) j)) →
          rel (List Item) P (m k)
          (outcome q (flow_or_body (if c then let_clause b.name b.value ∷ cs else cs) body) f k)
      by true e more =
          subst (rel (List Item) P (m k)) (sym (one_more b bs (in_body body) body f k))
          (carries.next _ _ (λ ys. ys ≡ xs) P (Ends xs k) (outcome q b.value f k) (λ ys. m) _ (g.0 k)
          (λ ys j e. more ys j e))
      by false e more =
          subst (rel (List Item) P (m k))
          (sym (unmentioned b.name q (flow_or_body cs body)
          (flow_mentions b.name cs body (no_first (in_clauses b.name cs) (in_body body b.name) e)
          (no_second (in_clauses b.name cs) (in_body body b.name) e))
          f (bind b.name xs f) (hidden b.name xs f) k))
          (more xs k refl)
