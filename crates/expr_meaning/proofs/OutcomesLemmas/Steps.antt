-- Outcomes, one after another.
use Rattle.std.proofs.Common.{◌≡◌, ℕ, suc, ◌++◌, List, [], ◌∷◌, length, refl, ap, sym, ◌∙◌, arith}
use Rattle.std.proofs.Common.{length-append}
use Rattle.std.specs.Prelude.{map}
use Rattle.std.proofs.lemmas.List.{map-append}
use Rattle.expr_meaning.specs.Outcomes.Outcome.{Outcome, Ends, Fails, Deep, and_then, for_each, OnEnds}

pub then_assoc : {A B C : Type 0} (o : Outcome A) (f : A → ℕ → Outcome B)
    (g : B → ℕ → Outcome C) → and_then (and_then o f) g ≡ and_then o (λ v k. and_then (f v k) g)
then_assoc (Ends v k) f g = refl
then_assoc (Fails c) f g = refl
then_assoc Deep f g = refl

pub then_same : {A B : Type 0} (o : Outcome A) (f g : A → ℕ → Outcome B) →
    ((v : A) (k : ℕ) → f v k ≡ g v k) → and_then o f ≡ and_then o g
then_same o f g h = λ i. and_then o (λ v k. h v k i)

pub then_on : {A B : Type 0} (P : A → Type 0) (Q : B → Type 0) (o : Outcome A)
    (f : A → ℕ → Outcome B) → OnEnds P o → ((v : A) (k : ℕ) → P v → OnEnds Q (f v k)) →
    OnEnds Q (and_then o f)
then_on P Q (Ends v k) f p h = h v k p
then_on P Q (Fails c) f p h = tt
then_on P Q Deep f p h = tt

pub then_known : {A B : Type 0} (P : A → Type 0) (o : Outcome A) (f g : A → ℕ → Outcome B) →
    OnEnds P o → ((v : A) (k : ℕ) → P v → f v k ≡ g v k) → and_then o f ≡ and_then o g
then_known P (Ends v k) f g p h = h v k p
then_known P (Fails c) f g p h = refl
then_known P Deep f g p h = refl

pub each_map : {A B C : Type 0} (f : B → ℕ → Outcome (List C)) (g : A → B) (xs : List A)
    (k : ℕ) → for_each f (map g xs) k ≡ for_each (λ x. f (g x)) xs k
each_map f g [] k = refl
each_map f g (x ∷ xs) k =
    then_same (f (g x) k) _ _
    (λ ys j. ap (λ o. and_then o (λ zs i. Ends (ys ++ zs) i)) (each_map f g xs j))

-- values that are made of other values
abbrev pub made : {A B : Type 0} → (A → B) → List A → ℕ → Outcome (List B)
made m xs k = Ends (map m xs) k

made_next : {A B : Type 0} (m : A → B) (ys : List A) (q : Outcome (List A)) →
    and_then (and_then q (made m)) (λ zs i. Ends (map m ys ++ zs) i)
    ≡ and_then (and_then q (λ zs i. Ends (ys ++ zs) i)) (made m)
made_next m ys (Ends zs i) = ap (λ l. Ends l i) (sym (map-append m ys zs))
made_next m ys (Fails c) = refl
made_next m ys Deep = refl

made_both : {A B : Type 0} (m : A → B) (o : Outcome (List A)) (p : ℕ → Outcome (List A)) →
    and_then (and_then o (made m))
    (λ ys j. and_then (and_then (p j) (made m)) (λ zs i. Ends (ys ++ zs) i))
    ≡ and_then (and_then o (λ ys j. and_then (p j) (λ zs i. Ends (ys ++ zs) i))) (made m)
made_both m (Ends ys j) p = made_next m ys (p j)
made_both m (Fails c) p = refl
made_both m Deep p = refl

pub each_made : {A B C : Type 0} (m : B → C) (g : A → ℕ → Outcome (List C))
    (h : A → ℕ → Outcome (List B)) → ((x : A) (k : ℕ) → g x k ≡ and_then (h x k) (made m)) →
    (xs : List A) (k : ℕ) → for_each g xs k ≡ and_then (for_each h xs k) (made m)
each_made m g h e [] k = refl
each_made m g h e (x ∷ xs) k =
    ap (λ o. and_then o (λ ys j. and_then (for_each g xs j) (λ zs i. Ends (ys ++ zs) i))) (e x k)
    ∙ then_same (and_then (h x k) (made m)) _ _
    (λ ys j. ap (λ o. and_then o (λ zs i. Ends (ys ++ zs) i)) (each_made m g h e xs j))
    ∙ made_both m (h x k) (for_each h xs)

pub each_one : {A B : Type 0} (m : A → B) (xs : List A) (k : ℕ) →
    for_each (λ x j. Ends (m x ∷ []) j) xs k ≡ Ends (map m xs) k
each_one m [] k = refl
each_one m (x ∷ xs) k =
    ap (λ o. and_then o (λ zs i. Ends ((m x ∷ []) ++ zs) i)) (each_one m xs k)

pub each_long : {A B : Type 0} (f : A → ℕ → Outcome (List B)) →
    ((x : A) (k : ℕ) → OnEnds (λ ys. length ys ≡ 1) (f x k)) → (xs : List A) (k : ℕ) →
    OnEnds (λ ys. length ys ≡ length xs) (for_each f xs k)
each_long f h [] k = refl
each_long f h (x ∷ xs) k =
    then_on (λ ys. length ys ≡ 1) (λ ys. length ys ≡ suc (length xs)) (f x k) _ (h x k)
    (λ ys j one.
    then_on (λ zs. length zs ≡ length xs) (λ ys. length ys ≡ suc (length xs)) (for_each f xs j) _
    (each_long f h xs j) (λ zs i long. omega (arith, length-append ys zs)))
