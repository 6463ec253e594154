-- Lists whose items have places.
use Rattle.std.proofs.Common.{◌≡◌, ℕ, zero, suc, ◌+◌, ◌<◌, refl, ap, sym, arith, List, [], ◌∷◌}
use Rattle.std.proofs.Common.{length, get_or}
use Rattle.std.specs.Prelude.{◌^◌, Bool, true, false, if◌then◌else◌, nat_lt, Result, Ok, Err}
use Rattle.std.specs.List.{list_all}
use Rattle.xt_names.specs.declared.codes.Code.TheVariants.{Dynamic}
use Rattle.xt_names.specs.declared.codes.DynamicCode.TheVariants.{FOAR0002, XPTY0019}
use Rattle.xdm_items.specs.declared.items.Item.{Item}
use Rattle.eval_lates.specs.OperatorValues.Nodes.{is_node}
use Rattle.xdm_items.specs.FunctionArguments.Arguments.{and_then as result_then}
use Rattle.expr_meaning.specs.Outcomes.Outcome.{Outcome, Ends, Fails, Deep, and_then, for_each, step_outcome}
use Rattle.expr_meaning.specs.SortMeaning.Sorted.{Placed, placed, placed_from, places}
use Rattle.expr_meaning.specs.Env.{Env, Meaning, at_focus}
use Rattle.expr_meaning.specs.Paths.{path_places, path_value, slash_of}
use Rattle.eval_lates.specs.EvalScopes.declared.faults.EvalFault.{EvalFault}
use Rattle.eval_lates.specs.EvalScopes.Answers.{Answers, IsFaultOf}
use Rattle.eval_steps.proofs.Follow.{fault_first}
use Rattle.eval_steps.specs.Steps.{item_count, path_count}

places_case : (b : Bool) (xs : List Item) (k : ℕ) →
    step_outcome (if b then Ok (placed xs) else Err (Dynamic FOAR0002)) k
    ≡ and_then (step_outcome (if b then Ok (length xs) else Err (Dynamic FOAR0002)) k)
    (λ n j. Ends (placed_from 1 n xs) j)
places_case true xs k = refl
places_case false xs k = refl

-- items have places where they can be counted
pub places_by_count : (xs : List Item) (k : ℕ) →
    step_outcome (places xs) k
    ≡ and_then (step_outcome (item_count xs) k) (λ n j. Ends (placed_from 1 n xs) j)
places_by_count xs k = places_case (nat_lt (length xs) (2 ^ 63)) xs k

path_case : (b : Bool) (xs : List Item) (k : ℕ) →
    step_outcome (result_then (if b then Ok xs else Err (Dynamic XPTY0019)) places) k
    ≡ and_then
    (step_outcome (result_then (if b then Ok xs else Err (Dynamic XPTY0019)) item_count) k)
    (λ n j. Ends (placed_from 1 n xs) j)
path_case true xs k = places_by_count xs k
path_case false xs k = refl

pub path_by_count : (xs : List Item) (k : ℕ) →
    step_outcome (path_places xs) k
    ≡ and_then (step_outcome (path_count xs) k) (λ n j. Ends (placed_from 1 n xs) j)
path_by_count xs k = path_case (list_all is_node xs) xs k

abbrev value_or : ℕ → Outcome ℕ → ℕ
value_or n (Ends v k) = v
value_or n (Fails code) = n
value_or n Deep = n

count_case : (b : Bool) (m n k j : ℕ) →
    step_outcome (if b then Ok m else Err (Dynamic FOAR0002)) k ≡ Ends n j → n ≡ m
count_case true m n k j e = sym (ap (value_or 0) e)
count_case false m n k j e = absurd cc

-- the count is the length
pub count_is : (xs : List Item) (n k j : ℕ) → step_outcome (item_count xs) k ≡ Ends n j →
    n ≡ length xs
count_is xs n k j e = count_case (nat_lt (length xs) (2 ^ 63)) (length xs) n k j e

path_count_case : (b : Bool) (xs : List Item) (n k j : ℕ) →
    step_outcome (result_then (if b then Ok xs else Err (Dynamic XPTY0019)) item_count) k
    ≡ Ends n j → n ≡ length xs
path_count_case true xs n k j e = count_is xs n k j e
path_count_case false xs n k j e = absurd cc

pub path_count_is : (xs : List Item) (n k j : ℕ) → step_outcome (path_count xs) k ≡ Ends n j →
    n ≡ length xs
path_count_is xs n k j e = path_count_case (list_all is_node xs) xs n k j e

nested : {A B C : Type 0} (o : Outcome A) (f : A → ℕ → Outcome B) (g : B → ℕ → Outcome C) →
    and_then o (λ v j. and_then (f v j) g) ≡ and_then (and_then o f) g
nested (Ends v k) f g = refl
nested (Fails code) f g = refl
nested Deep f g = refl

-- a path, from its left side on
module _ (a b : Meaning) (env : Env) (k : ℕ) (xs : List Item) (j : ℕ) (e : a env k ≡ Ends xs j)
  where
    abbrev each : Outcome (List Item)
    each = and_then (step_outcome (path_places xs) j) (for_each (λ f. b (at_focus env f)))

    two_steps : slash_of a b env k ≡ and_then each (λ ys h. step_outcome (path_value ys) h)
    two_steps = rw e (nested (step_outcome (path_places xs) j) (for_each (λ f. b (at_focus env f))) _)

    pub slash_fault : (g : EvalFault) → IsFaultOf g each → IsFaultOf g (slash_of a b env k)
    slash_fault g h = rw two_steps (fault_first g each _ h)

    pub slash_answers : (r : Result (List Item) EvalFault) (left : ℕ) (ys : List Item) (i : ℕ) →
        each ≡ Ends ys i → Answers r left (step_outcome (path_value ys) i) →
        Answers r left (slash_of a b env k)
    slash_answers r left ys i m h = rw (two_steps, m) h

pub placed_length : {A : Type 0} (at size : ℕ) (xs : List A) →
    length (placed_from at size xs) ≡ length xs
placed_length at size [] = refl
placed_length at size (x ∷ xs) = ap suc (placed_length (suc at) size xs)

-- an element of a list in its place
pub placed_item : {A : Type 0} (at size : ℕ) (xs : List A) (i : ℕ) (x d : A) (e : Placed A) →
    i < length xs → x ≡ get_or xs i d →
    record { value = x; place = at + i; size = size } ≡ get_or (placed_from at size xs) i e
placed_item at size [] i x d e lt is = absurd (omega arith)
placed_item at size (y ∷ ys) zero x d e lt is =
    let same : at + 0 ≡ at = omega arith in
    rw (same, is) refl
placed_item at size (y ∷ ys) (suc i) x d e lt is =
    let same : at + suc i ≡ suc at + i = omega arith in
    rw same (placed_item (suc at) size ys i x d e (omega arith) is)
