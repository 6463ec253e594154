-- Choices of an instruction are choices in the query.
use Rattle.std.proofs.Common.{◌≡◌, ℕ, List, [], ◌∷◌, ◌++◌, refl, sym, ap, ◌∙◌, subst, map}
use Rattle.std.proofs.lemmas.List.{map-append}
use Rattle.std.specs.Prelude.{Bool, true, false, Some}
use Rattle.xt_names.specs.declared.codes.Code.{Code}
use Rattle.xt_syntax.specs.declared.exprs.Arm.{Arm}
use Rattle.xt_syntax.specs.declared.exprs.Expr.{Expr}
use Rattle.xt_syntax.specs.declared.exprs.Clause.TheViews.{roll-Expr, out-Expr, roll-out-Expr}
use Rattle.xt_syntax.specs.declared.exprs.Clause.TheOpen.{If, Comma}
use Rattle.xt_syntax.specs.Layers.{arm_gives}
use Rattle.expr_meaning.specs.Outcomes.Follow.{Relation, IsCarrying}
use Rattle.expr_meaning.proofs.OutcomesLemmas.Steps.{then_same}
use Rattle.expr_meaning.specs.Env.{Env, Meaning, Program}
use Rattle.expr_meaning.specs.Logic.{choice_of, either_of, chosen, truth_at}
use Rattle.expr_meaning.specs.Meaning.{meanings, steps, outcome}
use Rattle.expr_laws.proofs.Logic.{ArmsMeet, choice_meets}
use Rattle.expr_laws.proofs.Rolled.{rolled_arm}
use Rattle.expr_laws.proofs.Texts.{ArmForm, ExprForm}
use Rattle.query_helpers.proofs.Gives.{mean}
use Rattle.carried_exprs.specs.Sights.{nothing as no_items}
use Rattle.transform_meaning.specs.Bindings.{nothing}
use Rattle.translated_forms.specs.Forms.{if_chain, if_many, chain_form, arm_of}
use Rattle.translated_forms.specs.Places.{Table}
use Rattle.lockstep.specs.Spots.{Spot}
use Rattle.lockstep.proofs.Frame.{frame, Meets}

either_same : (m : Meaning × Meaning) (a b : Meaning) → ((f : Env) (k : ℕ) → a f k ≡ b f k) →
    (f : Env) (k : ℕ) → either_of m.0 m.1 a f k ≡ either_of m.0 m.1 b f k
either_same m a b h f k = then_same (truth_at m.0 f k) _ _ (λ d j. by d j)
  where
    by : (d : Bool) (j : ℕ) → chosen m.1 a f d j ≡ chosen m.1 b f d j
    by true j = refl
    by false j = h f j

choice_append : (xs ys : List (Meaning × Meaning)) (o : Meaning) (f : Env) (k : ℕ) →
    choice_of (xs ++ ys) o f k ≡ choice_of xs (choice_of ys o) f k
choice_append [] ys o f k = refl
choice_append (x ∷ xs) ys o f k =
    either_same x (choice_of (xs ++ ys) o) (choice_of xs (choice_of ys o)) (choice_append xs ys o) f k

module _ (q : Program) where
  abbrev pub arms_mean : List Arm → List (Meaning × Meaning)
  arms_mean arms = map (arm_gives meanings (steps q)) arms

  pub arm_means : (a b : Expr) → arm_gives meanings (steps q) (arm_of (a, b)) ≡ (outcome q a, outcome q b)
  arm_means a b = let form : ArmForm = record { test = a; then = b } in rolled_arm q form

  pub many_mean : (arms : List Arm) (e : Expr) (f : Env) (k : ℕ) →
      outcome q (if_many arms e) f k ≡ choice_of (arms_mean arms) (outcome q e) f k
  many_mean arms e f k = mean q (If arms e) f k

  same_last : (arms : List (Meaning × Meaning)) (a b : Meaning) →
      ((f : Env) (k : ℕ) → a f k ≡ b f k) → (f : Env) (k : ℕ) → choice_of arms a f k ≡ choice_of arms b f k
  same_last [] a b h f k = h f k
  same_last (x ∷ arms) a b h f k =
      either_same x (choice_of arms a) (choice_of arms b) (same_last arms a b h) f k

  form_is : (arms : List Arm) (x : ExprForm) (f : Env) (k : ℕ) → outcome q (chain_form arms x) f k
      ≡ choice_of (arms_mean arms) (outcome q (roll-Expr x)) f k
  form_is arms (If more other) f k =
      many_mean (arms ++ more) other f k
      ∙ ap (λ l. choice_of l (outcome q other) f k) (map-append (arm_gives meanings (steps q)) arms more)
      ∙ choice_append (arms_mean arms) (arms_mean more) (outcome q other) f k
      ∙ same_last (arms_mean arms) (choice_of (arms_mean more) (outcome q other))
      (outcome q (roll-Expr (If more other))) (λ g j. sym (many_mean more other g j)) f k
  form_is arms x f k = many_mean arms (roll-Expr x) f k

  -- the arms of a last part that is a choice itself follow
  pub chain_is : (arms : List Arm) (e : Expr) (f : Env) (k : ℕ) →
      outcome q (if_chain arms e) f k ≡ choice_of (arms_mean arms) (outcome q e) f k
  unfolding if_chain
  chain_is [] e f k = refl
  chain_is (a ∷ arms) e f k =
      form_is (a ∷ arms) (out-Expr e) f k
      ∙ ap (λ x. choice_of (arms_mean (a ∷ arms)) (outcome q x) f k) (roll-out-Expr e)

module _ (like : Code → Code → Type 0) (lax : (a b : Code) → like a b) (rel : Relation)
    (carries : IsCarrying like rel) (t : Table) (q : Program) where
  -- xsl:choose and xsl:if
  pub choose_done : (x : Spot) (ws : List (Meaning × Meaning)) (arms : List Arm) →
      ArmsMeet (frame like lax rel carries t) (Some x) ws (arms_mean q arms) → (m : Meaning)
      (e : Expr) → Meets like lax rel carries t x m (outcome q e) →
      Meets like lax rel carries t x (choice_of ws m) (outcome q (if_chain arms e))
  choose_done x ws arms h m e g a b at k =
      rw (chain_is q arms e b k)
      (choice_meets (frame like lax rel carries t) (Some x) ws (arms_mean q arms) h m (outcome q e) g
      a b at k)

  pub nothing_done : (x : Spot) → Meets like lax rel carries t x nothing (outcome q no_items)
  nothing_done x a b at k = rw (mean q (Comma []) b k) (carries.ends _ _ _ _ tt)

  pub if_done : (x : Spot) (c : Meaning) (d : Expr) →
      Meets like lax rel carries t x c (outcome q d) → (m : Meaning) (e : Expr) →
      Meets like lax rel carries t x m (outcome q e) →
      Meets like lax rel carries t x (either_of c m nothing)
      (outcome q (if_chain (arm_of (d, e) ∷ []) no_items))
  if_done x c d h m e g =
      choose_done x ((c, m) ∷ []) (arm_of (d, e) ∷ [])
      (subst (λ o. ArmsMeet (frame like lax rel carries t) (Some x) ((c, m) ∷ []) (o ∷ []))
      (sym (arm_means q d e)) ((h, g), tt)) nothing no_items (nothing_done x)
