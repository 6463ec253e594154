-- The loop of the built-in rules: each item in its place, with the parameters as they came.
use Rattle.std.proofs.Common.{◌≡◌, ◌^◌, ℕ, List, [], length, refl, sym, subst}
use Rattle.std.specs.Prelude.{Bool, true, false, pos, nat_lt}
use Rattle.xt_names.specs.declared.codes.Code.{Code}
use Rattle.xt_names.specs.declared.codes.Code.TheVariants.{Dynamic}
use Rattle.xt_names.specs.declared.codes.DynamicCode.TheVariants.{FOAR0002}
use Rattle.xt_names.specs.declared.names.ExprName.{ExprName}
use Rattle.xdm_items.specs.declared.items.Item.{Item}
use Rattle.xt_syntax.specs.declared.exprs.Expr.{Expr}
use Rattle.xdm_items.specs.FunctionArguments.Answers.{of_integer}
use Rattle.item_functions.specs.OnSequences.{count_of as count_value}
use Rattle.item_functions.specs.SequenceFunctions.Cardinality.{counted}
use Rattle.expr_meaning.specs.Outcomes.Outcome.{Outcome, and_then, step_outcome, for_each, Every}
use Rattle.expr_meaning.specs.Outcomes.Follow.{Relation, IsCarrying}
use Rattle.expr_meaning.proofs.OutcomesLemmas.Relations.{each_carried}
use Rattle.expr_meaning.specs.SortMeaning.Sorted.{Placed, places, placed}
use Rattle.expr_meaning.specs.Env.{Env, Program, look_up}
use Rattle.expr_meaning.specs.Meaning.{outcome}
use Rattle.meaning_laws.specs.SoundValues.Sound.{IsSound}
use Rattle.query_helpers.proofs.Gives.{gives_variable}
use Rattle.translated_forms.specs.Dispatch.{applied, in_its_place}
use Rattle.translated_forms.specs.Names.{items_name}
use Rattle.lockstep_loops.proofs.LoopForms.{turn_env}
use Rattle.lockstep_loops.proofs.Sized.{InListOf, sized_from}
use Rattle.lockstep_loops.proofs.Applied.{applied_does, count_few, counted_items, each_item}

module _ (like : Code → Code → Type 0) (rel : Relation) (carries : IsCarrying like rel) (q : Program)
    (f : Env) (name : ExprName) (args : List Expr) (enter : Placed Item → ℕ → Outcome (List Item))
    (entering : (xs : List Item) → Every IsSound xs → (p : Placed Item) → InListOf IsSound (length xs) p →
    (k : ℕ) → rel (List Item) (Every IsSound) (enter p k)
    (outcome q (in_its_place name args)
    (turn_env (counted_items q f (of_integer (pos (length xs))) xs) p) k)) where
  all_entered : (xs : List Item) → Every IsSound xs → (k : ℕ) →
      rel (List Item) (Every IsSound) (and_then (step_outcome (places xs) k) (for_each enter))
      (and_then (step_outcome (count_value xs) k)
      (λ ns. each_item q (in_its_place name args) (counted_items q f ns xs)))
  unfolding count_value counted look_up
  all_entered xs good k = by (nat_lt (length xs) (2 ^ 63)) refl
    where
      by : (b : Bool) → nat_lt (length xs) (2 ^ 63) ≡ b →
          rel (List Item) (Every IsSound) (and_then (step_outcome (places xs) k) (for_each enter))
          (and_then (step_outcome (count_value xs) k)
          (λ ns. each_item q (in_its_place name args) (counted_items q f ns xs)))
      by true few =
          rw (
            count_few xs few k,
            gives_variable q items_name (counted_items q f (of_integer (pos (length xs))) xs) xs refl k,
            few,
          )
          (each_carried like rel carries (InListOf IsSound (length xs)) IsSound enter
          (λ p. outcome q (in_its_place name args)
          (turn_env (counted_items q f (of_integer (pos (length xs))) xs) p))
          (λ p i is. entering xs good p is i) (placed xs)
          (sized_from IsSound 1 (length xs) (length xs) refl xs good) k)
      by false many = rw many (carries.fails (List Item) (Every IsSound) (Dynamic FOAR0002))

  -- items that are selected, counted and entered
  pub applied_plain : (from : Expr) (select : ℕ → Outcome (List Item)) →
      ((k : ℕ) → rel (List Item) (Every IsSound) (select k) (outcome q from f k)) → (k : ℕ) →
      rel (List Item) (Every IsSound)
      (and_then (select k) (λ xs j. and_then (step_outcome (places xs) j) (for_each enter)))
      (outcome q (applied from name [] args) f k)
  applied_plain from select h k =
      subst (rel (List Item) (Every IsSound)
      (and_then (select k) (λ xs j. and_then (step_outcome (places xs) j) (for_each enter))))
      (sym (applied_does q from name [] args f k))
      (carries.next _ _ (Every IsSound) (Every IsSound) (select k) (outcome q from f k) _ _ (h k)
      (λ xs j good. all_entered xs good j))
