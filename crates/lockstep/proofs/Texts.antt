-- Texts of an instruction are in the query one string, which is the text.
use Rattle.std.proofs.Common.{◌≡◌, ℕ, List, [], ◌∷◌, refl, sym, ap, ◌∙◌, subst}
use Rattle.std.proofs.lemmas.List.{append-nil}
use Rattle.xt_atoms.specs.AtomTexts.{text_of}
use Rattle.std.specs.Prelude.{true, Result, Ok, Err}
use Rattle.xt_names.specs.Classes.{is_xml_text}
use Rattle.xt_names.specs.declared.codes.Code.{Code}
use Rattle.xdm_items.specs.declared.items.Item.{Item}
use Rattle.xdm_items.specs.FunctionArguments.Answers.{of_text}
use Rattle.xt_syntax.specs.declared.exprs.Expr.{Expr}
use Rattle.expr_meaning.specs.Outcomes.Outcome.{Outcome, Ends, and_then, step_outcome, Every, OnEnds}
use Rattle.expr_meaning.specs.Outcomes.Follow.{Relation, IsCarrying}
use Rattle.xdm_items.specs.FunctionArguments.Arguments.{and_then as result_then}
use Rattle.expr_meaning.proofs.OutcomesLemmas.Steps.{then_assoc, then_same}
use Rattle.expr_meaning.specs.Env.{Env, Meaning, Program}
use Rattle.expr_meaning.specs.Making.{spaced_text}
use Rattle.expr_meaning.specs.Meaning.{outcome}
use Rattle.expr_laws.specs.Carrier.{IsText, OnValue}
use Rattle.meaning_laws.specs.SoundValues.Sound.{IsSound}
use Rattle.query_helpers.proofs.Gives.{gives_text}
use Rattle.query_helpers.specs.SimpleBody.{simple_function}
use Rattle.transform_meaning.specs.Texts.{TextMeaning, simple_text}
use Rattle.transform_laws.proofs.Texts.{simple_known}
use Rattle.translated_forms.specs.Forms.{text_literal}
use Rattle.translated_forms.specs.Places.{Table}
use Rattle.translated_forms.specs.Texts.{simple_of}
use Rattle.lockstep.specs.Helpers.{HelpersCarry, simple_items}
use Rattle.lockstep.specs.Spots.{Spot, IsAt}
use Rattle.lockstep.proofs.Calls.{call_of_two}
use Rattle.lockstep.proofs.Frame.{frame, Meets}
use Rattle.lockstep.proofs.Makes.{sheets}

-- one string
abbrev pub IsString : List Item → Type 0
IsString xs = (t : List ℕ) × (xs ≡ of_text t) × (is_xml_text t ≡ true)

abbrev pub as_items : Outcome (List ℕ) → Outcome (List Item)
as_items o = and_then o (λ t j. Ends (of_text t) j)

pub spaced_string : (t : List ℕ) → spaced_text (of_text t) ≡ t
unfolding spaced_text text_of
spaced_string t = append-nil t

module _ (like : Code → Code → Type 0) (lax : (a b : Code) → like a b) (rel : Relation)
    (carries : IsCarrying like rel) (t : Table) (q : Program) where
  abbrev pub TextMeets : Spot → TextMeaning → Expr → Type 0
  TextMeets x m e =
      (a b : Env) → IsAt t x a b → (k : ℕ) →
      rel (List Item) IsString (as_items (m a k)) (outcome q e b k)

  -- what is done with the text, and what the query does with the string
  pub text_then : (B : Type 0) (P : B → Type 0) (o : Outcome (List ℕ)) (p : Outcome (List Item))
      (g : List ℕ → ℕ → Outcome B) (h : List Item → ℕ → Outcome B) →
      rel (List Item) IsString (as_items o) p →
      ((v : List ℕ) (k : ℕ) → is_xml_text v ≡ true → rel B P (g v k) (h (of_text v) k)) →
      rel B P (and_then o g) (and_then p h)
  text_then B P o p g h r n =
      subst (λ s. rel B P s (and_then p h)) (then_assoc o (λ v j. Ends (of_text v) j) (λ xs. g (spaced_text xs))
      ∙ then_same o _ _ (λ v j. ap (λ w. g w j) (spaced_string v)))
      (carries.next (List Item) B IsString P (as_items o) p (λ xs. g (spaced_text xs)) h r
      (λ xs k is. subst (λ ys. rel B P (g (spaced_text ys) k) (h ys k)) (sym is.1)
      (subst (λ w. rel B P (g w k) (h (of_text is.0) k)) (sym (spaced_string is.0))
      (n is.0 k is.2))))

  -- a text that is fixed
  pub literal_text : (x : Spot) (v : List ℕ) → is_xml_text v ≡ true → (m : TextMeaning) →
      ((a : Env) (k : ℕ) → m a k ≡ Ends v k) → TextMeets x m (text_literal v)
  literal_text x v known m is a b at k =
      rw (is a k, gives_text q v b k) (carries.ends _ IsString _ k (v, refl, known))

  module _ (helpers : HelpersCarry rel q) where
    -- simple content
    simple_string : (xs : List Item) → Every IsSound xs → (v : List ℕ) → is_xml_text v ≡ true →
        OnValue IsString (simple_items v xs)
    simple_string xs g v known =
        by (simple_text v xs)
        (simple_known (frame like lax rel carries t) (sheets like lax rel carries t) v xs (λ s. known) g)
      where
        by : (o : Result (List ℕ) Code) →
            OnValue (IsText (frame like lax rel carries t)) o →
            OnValue IsString (result_then o (λ w. Ok (of_text w)))
        by (Ok w) h = (w, refl, h tt)
        by (Err code) h = tt

    step_string : (v : Result (List Item) Code) (k : ℕ) → OnValue IsString v →
        OnEnds IsString (step_outcome v k)
    step_string (Ok xs) k h = h
    step_string (Err code) k h = tt

    as_step : (o : Result (List ℕ) Code) (k : ℕ) →
        as_items (step_outcome o k) ≡ step_outcome (result_then o (λ w. Ok (of_text w))) k
    as_step (Ok w) k = refl
    as_step (Err code) k = refl

    simple_meets : (xs : List Item) → Every IsSound xs → (v : List ℕ) → is_xml_text v ≡ true →
        (k : ℕ) → rel (List Item) IsString (as_items (step_outcome (simple_text v xs) k))
        (q.calls simple_function.name (xs ∷ of_text v ∷ []) k)
    simple_meets xs g v known k =
        subst (λ o. rel (List Item) IsString o (q.calls simple_function.name (xs ∷ of_text v ∷ []) k))
        (sym (as_step (simple_text v xs) k))
        (carries.also _ (Every IsSound) IsString _ _ (helpers.simple xs g v known k)
        (step_string (simple_items v xs) k (simple_string xs g v known)))

    pub simple_done : (x : Spot) (m : Meaning) (e : Expr) →
        Meets like lax rel carries t x m (outcome q e) → (v : TextMeaning) (u : Expr) →
        TextMeets x v u →
        TextMeets x (λ env k. and_then (m env k) (λ xs j. and_then (v env j) (λ w i.
        step_outcome (simple_text w xs) i))) (simple_of e u)
    simple_done x m e h v u i a b at k =
        rw (
          call_of_two q simple_function.name refl e u b k,
          then_assoc (m a k) (λ xs j. and_then (v a j) (λ w l. step_outcome (simple_text w xs) l))
              (λ w j. Ends (of_text w) j),
        )
        (carries.next _ _ (Every IsSound) IsString (m a k) (outcome q e b k) _ _ (h a b at k)
        (λ xs j g.
        subst (λ o. rel (List Item) IsString o (and_then (outcome q u b j) (λ ys.
        q.calls simple_function.name (xs ∷ ys ∷ []))))
        (sym (then_assoc (v a j) (λ w l. step_outcome (simple_text w xs) l)
        (λ w l. Ends (of_text w) l)))
        (text_then (List Item) IsString (v a j) (outcome q u b j) _ _ (i a b at j)
        (λ w l known. simple_meets xs g w known l))))
