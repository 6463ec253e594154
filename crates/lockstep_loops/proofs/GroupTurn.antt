-- What the query binds at a group: its first item, and the number of groups.
use Rattle.std.proofs.Common.{◌≡◌, ◌^◌, ◌≤◌, ℕ, suc, List, [], ◌∷◌, length, refl, ap, sym, ◌∙◌, map, arith}
use Rattle.std.proofs.lemmas.Bool.Decides.{nat_tests}
use Rattle.std.specs.Ordering.{int_eq}
use Rattle.std.specs.Prelude.{true, false, Some, pos, nat_lt}
use Rattle.xt_names.specs.declared.codes.Code.{Code}
use Rattle.xt_names.specs.declared.names.ExprName.{ExprName}
use Rattle.xdm_items.specs.declared.items.Item.{Item}
use Rattle.xt_syntax.specs.declared.exprs.Expr.{Expr}
use Rattle.xt_syntax.specs.declared.exprs.Clause.TheOpen.{Filter, Int}
use Rattle.xdm_items.specs.FunctionArguments.Answers.{of_integer}
use Rattle.item_functions.specs.OnSequences.{count_of as count_value}
use Rattle.item_functions.specs.SequenceFunctions.Cardinality.{counted}
use Rattle.expr_meaning.specs.Outcomes.Outcome.{Outcome, Ends, and_then, step_outcome, for_each, Every}
use Rattle.expr_meaning.specs.Outcomes.Follow.{Relation, IsCarrying}
use Rattle.expr_meaning.proofs.OutcomesLemmas.Relations.{step_carried, each_carried}
use Rattle.expr_meaning.specs.SortMeaning.Sorted.{Placed, places, placed_from, placed_as, visit}
use Rattle.expr_meaning.proofs.SortMeaning.Sorting.{visit_moved, visit_plain}
use Rattle.expr_meaning.specs.Env.{Env, Meaning, Program, look_up, at_focus}
use Rattle.expr_meaning.specs.Meaning.{outcome}
use Rattle.expr_meaning.specs.Paths.{kept_item, kept_in_turn}
use Rattle.carried_exprs.specs.Sights.{variable_of, group_name}
use Rattle.query_helpers.proofs.Gives.{Gives, mean, gives_variable}
use Rattle.transform_meaning.specs.Sorting.{mixed}
use Rattle.translated_forms.specs.Forms.{number, count_of}
use Rattle.translated_forms.specs.Groups.{first_in_group}
use Rattle.lockstep_loops.proofs.LoopForms.{count_gives}
use Rattle.lockstep_loops.proofs.Needed.{IsGiven}
use Rattle.lockstep_loops.proofs.Sized.{InListOf, sized_from, few_places}

other_place : (i : ℕ) → 2 ≤ i → int_eq (pos i) (pos 1) ≡ false
other_place i h = grind (arith, nat_tests)

module _ (q : Program) where
  abbrev one : Meaning
  one = outcome q (number 1)

  dropped : (f : Env) (x : Item) (i n : ℕ) → 2 ≤ i → (k : ℕ) →
      kept_item one f (record { value = x; place = i; size = n }) k ≡ Ends [] k
  dropped f x i n h k =
      rw (mean q (Int (pos 1)) (at_focus f (record { value = x; place = i; size = n })) k, other_place i h)
      refl

  all_dropped : (f : Env) (xs : List Item) (i n : ℕ) → 2 ≤ i → (k : ℕ) →
      for_each (kept_item one f) (placed_from i n xs) k ≡ Ends [] k
  all_dropped f [] i n h k = refl
  all_dropped f (x ∷ xs) i n h k =
      rw (dropped f x i n h k, all_dropped f xs (suc i) n (omega arith) k) refl

  first_kept : (f : Env) (x : Item) (xs : List Item) → nat_lt (length (x ∷ xs)) (2 ^ 63) ≡ true →
      (k : ℕ) → kept_in_turn (one ∷ []) f (x ∷ xs) k ≡ Ends (x ∷ []) k
  first_kept f x xs few k =
      let n = length (x ∷ xs) in
      rw (
        few,
        mean q (Int (pos 1)) (at_focus f (record { value = x; place = 1; size = n })) k,
        all_dropped f xs 2 n (omega arith) k,
      ) refl

  -- the first item of the group that a variable holds
  pub first_gives : (f : Env) (x : Item) (xs : List Item) → look_up f.locals group_name ≡ Some (x ∷ xs) →
      nat_lt (length (x ∷ xs)) (2 ^ 63) ≡ true → Gives q first_in_group f (x ∷ [])
  first_gives f x xs h few k =
      mean q (Filter (variable_of group_name) (number 1 ∷ [])) f k
      ∙ ap (λ o. and_then o (kept_in_turn (one ∷ []) f))
      (gives_variable q group_name f (x ∷ xs) h k)
      ∙ first_kept f x xs few k

  -- the number of what a variable holds
  pub number_gives : (name : ExprName) (f : Env) (xs : List Item) → look_up f.locals name ≡ Some xs →
      nat_lt (length xs) (2 ^ 63) ≡ true → Gives q (count_of name) f (of_integer (pos (length xs)))
  unfolding count_value counted
  number_gives name f xs h few k = count_gives q name f xs h k ∙ rw few refl

-- what an expression gives is given
module _ (like : Code → Code → Type 0) (rel : Relation) (carries : IsCarrying like rel)
    (q : Program) where
  pub given_by : (e : Expr) (f : Env) (xs : List Item) → Gives q e f xs →
      IsGiven like rel carries q e f xs
  given_by e f xs h k = rw (h k) (carries.ends (List Item) (λ ys. ys ≡ xs) xs k refl)

-- two visits of one list, each of what it makes of the values
pub visits_of_made : (like : Code → Code → Type 0) (rel : Relation) → IsCarrying like rel →
    {A B C : Type 0} (P : C → Type 0) (Q : A → Type 0) (h : A → B) (g : A → Item)
    (a : Placed B → ℕ → Outcome (List C)) (b : Placed Item → ℕ → Outcome (List C)) (xs : List A) →
    ((p : Placed A) → Q p.value → (p.size ≡ length xs) → nat_lt (length xs) (2 ^ 63) ≡ true →
    (k : ℕ) → rel (List C) (Every P) (a (placed_as h p) k) (b (placed_as g p) k)) →
    Every Q xs → (k : ℕ) →
    rel (List C) (Every P) (visit mixed [] a (map h xs) k)
    (and_then (step_outcome (places (map g xs)) k) (for_each b))
visits_of_made like rel carries {A} P Q h g a b xs same all k =
    rw (
      visit_moved h mixed [] a xs k,
      visit_plain mixed (λ p. a (placed_as h p)) xs k,
      sym (visit_plain mixed b (map g xs) k) ∙ visit_moved g mixed [] b xs k
          ∙ visit_plain mixed (λ p. b (placed_as g p)) xs k,
    )
    (carries.next _ _ IsAll (Every P) (step_outcome (places xs) k)
    (step_outcome (places xs) k) _ _
    (step_carried like rel carries IsAll (places xs) k
    (few_places IsAll xs k
    (λ few. (sized_from Q 1 (length xs) (length xs) refl xs all, few)))) (λ fs j is.
    each_carried like rel carries (InListOf Q (length xs)) P (λ p. a (placed_as h p))
    (λ p. b (placed_as g p)) (λ p i r. same p r.0 r.1 is.1 i) fs is.0 j))
  where
    IsAll : List (Placed A) → Type 0
    IsAll fs = Every (InListOf Q (length xs)) fs × (nat_lt (length xs) (2 ^ 63) ≡ true)
