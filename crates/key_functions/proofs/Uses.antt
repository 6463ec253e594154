-- `use` of a key is in the query what it is in the stylesheet.
use Rattle.std.proofs.Common.{◌≡◌, ℕ, List, refl, sym, subst}
use Rattle.std.proofs.lemmas.Bool.{and_parts}
use Rattle.std.specs.Prelude.{Bool, true, false, Some}
use Rattle.xt_tree.specs.Place.{Place}
use Rattle.xt_syntax.specs.declared.exprs.Expr.{Expr}
use Rattle.xdm_items.specs.declared.items.Item.{Item}
use Rattle.xdm_items.specs.declared.items.Item.TheVariants.{Node}
use Rattle.doc_set.specs.Sets.{DocumentSet}
use Rattle.expr_meaning.specs.Outcomes.Outcome.{Outcome, Ends, Fails, Deep, OnEnds, Every}
use Rattle.expr_meaning.specs.Outcomes.Follow.{FailsLike, Follows, any_code, there}
use Rattle.expr_meaning.proofs.OutcomesLemmas.Relations.{there_carries}
use Rattle.expr_meaning.specs.Calls.{document_value}
use Rattle.expr_meaning.specs.Env.{Env, Program, look_up}
use Rattle.expr_meaning.specs.Meaning.{outcome}
use Rattle.expr_laws.specs.Carrier.{OnValue}
use Rattle.expr_laws.specs.Ended.{IsEnded}
use Rattle.expr_laws.proofs.Ended.{always_ended}
use Rattle.meaning_laws.specs.SoundValues.Sound.{IsSound}
use Rattle.meaning_laws.proofs.SoundFunctions.Kept.{values_kept}
use Rattle.carried_exprs.specs.Carried.{carried}
use Rattle.carried_exprs.specs.Fits.{may_be_carried}
use Rattle.carried_exprs.specs.Sights.{Setting, focused, is_own_function}
use Rattle.carried_exprs.specs.Sights.{is_own_variable}
use Rattle.carry_laws.specs.Seen.{CurrentIsSeen, GroupIsSeen, IsSeen, ProgramsCarry}
use Rattle.carry_laws.proofs.Whole.{whole_carried}
use Rattle.transform_meaning.specs.Keys.{use_program, value_without_trees}
use Rattle.transform_meaning.specs.Places.{alone, outset}
use Rattle.key_functions.specs.Keys.{IsFailure, IsKeyPlace, SameAs, SameOutcome}
use Rattle.key_functions.specs.Uses.{AreUsed, IsCarriedBothWays, IsUseSetting, MakesNoTree}
use Rattle.key_functions.specs.Uses.{at_number}
use Rattle.key_functions.proofs.StillWhole.{whole_still}

not_both : {A : Type 0} (b : Bool) → b ≡ false → b ≡ true → A
not_both true e h = absurd cc
not_both false e h = absurd cc

failed : (code : _) (o : Outcome (List Item)) → FailsLike any_code code o → IsFailure o
failed code (Ends v k) h = h
failed code (Fails d) h = tt
failed code Deep h = h

same_by : (z o p : Outcome (List Item)) (k : ℕ) → o ≡ at_number z k → IsEnded o →
    Follows any_code o p → SameAs (value_without_trees z) p k
same_by (Ends v j) o p k e ended f = subst (λ x. Follows any_code x p) e f
same_by (Fails code) o p k e ended f = failed code p (subst (λ x. Follows any_code x p) e f)
same_by Deep o p k e ended f = absurd (subst IsEnded e ended)

module _ (documents : DocumentSet) (q : Program) (same : documents ≡ q.documents)
    (known : (xs : List Item) → OnValue (Every IsSound) (document_value (use_program documents) xs))
    (w : Setting) (is : IsUseSetting w) where
  -- nothing that is declared is named
  programs : ProgramsCarry there IsSound w (use_program documents) q
  unfolding look_up
  programs = record {
    calls = λ name may args g k.
        not_both w.has_calls is.calls (and_parts w.has_calls (is_own_function name) may).0;
    keys = λ has name x g values v k. not_both w.has_keys is.keys has;
    no_item = λ has name values v k. not_both w.has_keys is.keys has;
    documents = same;
    documents_known = known;
    globals = λ name may.
        not_both w.has_keys is.keys (and_parts w.has_keys (is_own_variable name) may).0;
    globals_known = λ name. tt;
  }

  seen : (env : Env) (n : Place) → IsSound (Node n) → IsKeyPlace env n →
      env.focus ≡ Some (alone (Node n)) → IsSeen IsSound w focused (outset (Node n)) env
  unfolding look_up
  seen env n sound place focus = record {
    locals = λ name own. sym (place.own name own);
    known = λ name. tt;
    focus = (alone (Node n), refl, sound, focus);
    current = subst (λ b. CurrentIsSeen IsSound b (outset (Node n)) env) (sym is.current)
        (Node n, refl, sound, place.item);
    group = subst (λ b. GroupIsSeen IsSound b (outset (Node n)) env) (sym is.group) tt;
  }

  ended : (x : Expr) (e : Env) (k : ℕ) → IsEnded (outcome (use_program documents) x e k)
  ended x e k =
      always_ended (use_program documents)
      (record { calls = λ name args j. tt; keys = λ name values root j. tt }) x e k

pub no_tree_made : (p : Program) (w : Setting) → MakesNoTree p w
no_tree_made p w calls keys x fits e k =
    whole_still w p (record { calls = calls; keys = keys }) x fits e k

no_tree_in_use : (documents : DocumentSet) (w : Setting) (x : Expr) → may_be_carried w x ≡ true →
    (e : Env) (k : ℕ) → outcome (use_program documents) x e k
    ≡ at_number (outcome (use_program documents) x e 0) k
no_tree_in_use documents w =
    no_tree_made (use_program documents) w (λ name args k. refl) (λ name values root k. refl)

pub are_used : (documents : DocumentSet) (q : Program) → AreUsed documents q
are_used documents q same known w is local x fits n sound env place focus k =
    same_by (outcome (use_program documents) x (outset (Node n)) 0)
    (outcome (use_program documents) x (outset (Node n)) k)
    (outcome q (carried w x focused) env k) k (no_tree_in_use documents w x fits (outset (Node n)) k)
    (ended documents q same known w is x (outset (Node n)) k)
    (whole_carried any_code (λ a b. tt) there there_carries IsSound values_kept w
    (use_program documents) q (programs documents q same known w is) local (λ t h. h) x fits focused
    (outset (Node n)) env (seen documents q same known w is env n sound place focus) k).0

-- both directions
alike : (o p : Outcome (List Item)) → SameOutcome o p → Follows any_code o p
alike (Ends xs k) p h = h
alike (Fails code) (Ends xs k) h = h
alike (Fails code) (Fails d) h = tt
alike (Fails code) Deep h = h
alike Deep p h = tt

alike_back : (o p : Outcome (List Item)) → SameOutcome o p → Follows any_code p o
alike_back (Ends xs k) p h = subst (λ x. Follows any_code x (Ends xs k)) (sym h) refl
alike_back (Fails code) (Ends xs k) h = absurd h
alike_back (Fails code) (Fails d) h = tt
alike_back (Fails code) Deep h = tt
alike_back Deep p h = absurd h

known_back : (o p : Outcome (List Item)) → SameOutcome o p → OnEnds (Every IsSound) o →
    OnEnds (Every IsSound) p
known_back (Ends xs k) p h g = subst (OnEnds (Every IsSound)) (sym h) g
known_back (Fails code) (Ends xs k) h g = absurd h
known_back (Fails code) (Fails d) h g = tt
known_back (Fails code) Deep h g = tt
known_back Deep p h g = absurd h

pub both_ways : (o p : Outcome (List Item)) → IsCarriedBothWays o p
both_ways o p h g = ((alike o p h, g), (alike_back o p h, known_back o p h g))
