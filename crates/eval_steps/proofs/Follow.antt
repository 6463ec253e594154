-- How answers follow one another.
use Rattle.std.proofs.Common.{◌≡◌, ℕ, refl, ap, ◌∙◌, sym, List, [], ◌∷◌, ◌++◌, append_assoc, ◌+◌}
use Rattle.std.proofs.Common.{◌<◌, ◌≤◌, suc, length, map, drop, get_or, add-one, drop-cons}
use Rattle.std.proofs.lemmas.List.{drop_all, append-nil}
use Rattle.std.specs.Prelude.{Result, Ok, Err}
use Rattle.expr_meaning.specs.Outcomes.Outcome.{Outcome, Ends, Fails, Deep, and_then, for_each}
use Rattle.eval_lates.specs.EvalScopes.declared.faults.EvalFault.{EvalFault}
use Rattle.eval_lates.specs.EvalScopes.declared.faults.EvalFault.TheVariants as fault
use Rattle.eval_lates.specs.EvalScopes.Answers.{IsFaultOf, Answers}
use Rattle.eval_steps.specs.Lists.{AnswersAs}

-- a fault of the first part is one of the whole
pub fault_first : {A B : Type 0} (f : EvalFault) (o : Outcome A) (go : A → ℕ → Outcome B) →
    IsFaultOf f o → IsFaultOf f (and_then o go)
fault_first (fault.Error c) o go h = ap (λ p. and_then p go) h
fault_first fault.Deep o go h = ap (λ p. and_then p go) h
fault_first (fault.Memory e) o go h = tt

-- a fault of what follows is one of the whole
pub fault_next : {A B : Type 0} (f : EvalFault) (o : Outcome A) (go : A → ℕ → Outcome B) (v : A)
    (k : ℕ) → o ≡ Ends v k → IsFaultOf f (go v k) → IsFaultOf f (and_then o go)
fault_next f o go v k e h = rw e h

-- an answer for what follows is one for the whole
pub answers_next : {A B : Type 0} (r : Result B EvalFault) (j : ℕ) (o : Outcome A)
    (go : A → ℕ → Outcome B) (v : A) (k : ℕ) → o ≡ Ends v k → Answers r j (go v k) →
    Answers r j (and_then o go)
answers_next r j o go v k e h = rw e h

-- what a loop has made so far, and what is left of it
unfoldable pub so_far : {A B : Type 0} → (A → ℕ → Outcome (List B)) → List B → List A → ℕ →
    Outcome (List B)
so_far f out rest k = and_then (for_each f rest k) (λ zs j. Ends (out ++ zs) j)

append_nothing : {B : Type 0} (o : Outcome (List B)) → and_then o (λ zs j. Ends ([] ++ zs) j) ≡ o
append_nothing (Ends v k) = refl
append_nothing (Fails c) = refl
append_nothing Deep = refl

pub so_far_first : {A B : Type 0} (f : A → ℕ → Outcome (List B)) (xs : List A) (k : ℕ) →
    so_far f [] xs k ≡ for_each f xs k
unfolding so_far
so_far_first f xs k = append_nothing (for_each f xs k)

append_more : {B : Type 0} (out ys : List B) (o : Outcome (List B)) →
    and_then (and_then o (λ zs i. Ends (ys ++ zs) i)) (λ zs j. Ends (out ++ zs) j) ≡ and_then o
    (λ zs j. Ends ((out ++ ys) ++ zs) j)
append_more out ys (Ends zs k) = ap (λ ws. Ends ws k) (sym (append_assoc out ys zs))
append_more out ys (Fails c) = refl
append_more out ys Deep = refl

pub so_far_more : {A B : Type 0} (f : A → ℕ → Outcome (List B)) (out ys : List B) (x : A)
    (xs : List A) (k j : ℕ) → f x k ≡ Ends ys j →
    so_far f out (x ∷ xs) k ≡ so_far f (out ++ ys) xs j
unfolding so_far
so_far_more f out ys x xs k j e = rw e (append_more out ys (for_each f xs j))

pub so_far_last : {A B : Type 0} (f : A → ℕ → Outcome (List B)) (out : List B) (k : ℕ) →
    so_far f out [] k ≡ Ends (out ++ []) k
unfolding so_far
so_far_last f out k = refl

pub so_far_fault : {A B : Type 0} (g : EvalFault) (f : A → ℕ → Outcome (List B)) (out : List B)
    (x : A) (xs : List A) (k : ℕ) → IsFaultOf g (f x k) → IsFaultOf g (so_far f out (x ∷ xs) k)
unfolding so_far
so_far_fault g f out x xs k h = fault_first g (and_then (f x k) _) _ (fault_first g (f x k) _ h)

for_each_map : {A B C : Type 0} (f : B → ℕ → Outcome (List C)) (g : A → B) (xs : List A) (k : ℕ) →
    for_each f (map g xs) k ≡ for_each (λ x. f (g x)) xs k
for_each_map f g [] k = refl
for_each_map f g (x ∷ xs) k =
    ap
    (λ (h : ℕ → Outcome _). and_then (f (g x) k) (λ ys j. and_then (h j) (λ zs i. Ends (ys ++ zs) i)))
    (λ i j. for_each_map f g xs j i)

-- After i turns of a loop over xs, with the next number k, out is what was made of the whole
-- outcome.
pub record Gathers {A B : Type 0} (f : A → ℕ → Outcome (List B)) (xs : List A)
    (o : Outcome (List B)) (out : List B) (i k : ℕ) : Type 0 where
  pub left : so_far f out (drop i xs) k ≡ o

-- before the first turn
pub gathers_first : {A B : Type 0} (f : A → ℕ → Outcome (List B)) (xs : List A) (out : List B)
    (k : ℕ) → out ≡ [] → Gathers f xs (for_each f xs k) out 0 k
gathers_first f xs out k e = record { left = rw e (so_far_first f xs k) }

-- the same where the loop is over elements that g makes steps of
pub gathers_first_map : {A B C : Type 0} (g : A → C) (f : C → ℕ → Outcome (List B)) (xs : List A)
    (out : List B) (k : ℕ) → out ≡ [] →
    Gathers (λ x. f (g x)) xs (for_each f (map g xs) k) out 0 k
gathers_first_map g f xs out k e = record
    { left = rw e (so_far_first (λ x. f (g x)) xs k ∙ sym (for_each_map f g xs k)) }

-- one more turn, with x as the element at i
pub gathers_step : {A B : Type 0} (f : A → ℕ → Outcome (List B)) (xs : List A)
    (o : Outcome (List B)) (out : List B) (i k : ℕ) (ys new : List B) (j : ℕ) (x d : A) →
    Gathers f xs o out i k → i < length xs → x ≡ get_or xs i d → f x k ≡ Ends ys j →
    new ≡ out ++ ys → Gathers f xs o new (i + 1) j
gathers_step f xs o out i k ys new j x d inv lt is e n =
    record
    { left = rw (n, add-one, ← so_far_more f out ys x (drop (suc i) xs) k j e, is, ← drop-cons xs i d lt) inv.left }

-- a turn that ends in a fault
pub gathers_exit : {A B : Type 0} (g : EvalFault) (f : A → ℕ → Outcome (List B)) (xs : List A)
    (o : Outcome (List B)) (out : List B) (i k : ℕ) (x d : A) → Gathers f xs o out i k →
    i < length xs → x ≡ get_or xs i d → IsFaultOf g (f x k) → IsFaultOf g o
gathers_exit g f xs o out i k x d inv lt is h =
    rw (← inv.left, drop-cons xs i d lt, ← is) (so_far_fault g f out x (drop (suc i) xs) k h)

-- after the last turn
pub gathers_end : {A B : Type 0} (f : A → ℕ → Outcome (List B)) (xs : List A)
    (o : Outcome (List B)) (out : List B) (i k : ℕ) → Gathers f xs o out i k → length xs ≤ i →
    o ≡ Ends out k
gathers_end f xs o out i k inv le =
    sym inv.left ∙ ap (λ rest. so_far f out rest k) (drop_all i xs le) ∙ so_far_last f out k ∙ ap
    (λ ys. Ends ys k) (append-nil out)

-- the same answer, with another view of its value
pub viewed : {A B : Type 0} (view : A → B) (r : Result A EvalFault) (k : ℕ) (o : Outcome A) →
    Answers r k o → AnswersAs view r k (and_then o (λ v j. Ends (view v) j))
viewed view (Ok v) k o e = rw e refl
viewed view (Err g) k o e = fault_first g o (λ v j. Ends (view v) j) e
