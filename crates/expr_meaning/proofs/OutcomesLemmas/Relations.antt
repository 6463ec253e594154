-- What there is to know of a relation between outcomes: proved once of each relation, and used for all.
use Rattle.std.proofs.Common.{ℕ, ◌++◌, List, [], ◌∷◌, refl, sym, subst}
use Rattle.std.specs.Prelude.{map, Result, Ok, Err}
use Rattle.xt_names.specs.declared.codes.Code.{Code}
use Rattle.expr_meaning.specs.Outcomes.Outcome.{Outcome, Ends, Fails, Deep, and_then, for_each, OnEnds, Every}
use Rattle.expr_meaning.specs.Outcomes.Outcome.{Anything, step_outcome}
use Rattle.expr_meaning.specs.Outcomes.Follow.{any_code, same_code, FailsLike, Follows, Relation, there, back}
use Rattle.expr_meaning.specs.Outcomes.Follow.{deeper, IsCarrying}

module _ (like : Code → Code → Type 0) (alike : (c : Code) → like c c) where
  abbrev Carried : Relation
  Carried A P o p = Follows like o p × OnEnds P o

  -- an outcome is carried to itself
  pub carried_same : (A : Type 0) (P : A → Type 0) (o : Outcome A) → OnEnds P o → Carried A P o o
  carried_same A P (Ends v k) h = (refl, h)
  carried_same A P (Fails c) h = (alike c, tt)
  carried_same A P Deep h = (tt, tt)

  fails_next : (A B : Type 0) (c : Code) (p : Outcome A) (g : A → ℕ → Outcome B) →
      FailsLike like c p → FailsLike like c (and_then p g)
  fails_next A B c (Ends v k) g h = absurd h
  fails_next A B c (Fails d) g h = h
  fails_next A B c Deep g h = absurd h

  carried_next : (A B : Type 0) (P : A → Type 0) (Q : B → Type 0) (o p : Outcome A)
      (f g : A → ℕ → Outcome B) → Carried A P o p →
      ((v : A) (k : ℕ) → P v → Carried B Q (f v k) (g v k)) →
      Carried B Q (and_then o f) (and_then p g)
  carried_next A B P Q (Ends v k) p f g r h =
      subst (λ q. Carried B Q (f v k) (and_then q g)) (sym r.0) (h v k r.1)
  carried_next A B P Q (Fails c) p f g r h = (fails_next A B c p g r.0, tt)
  carried_next A B P Q Deep p f g r h = (tt, tt)

  value_back : (A : Type 0) (Q : A → Type 0) (o p : Outcome A) → Follows like p o →
      OnEnds Q o → OnEnds Q p
  value_back A Q o (Ends v k) r q = subst (OnEnds Q) r q
  value_back A Q o (Fails c) r q = tt
  value_back A Q o Deep r q = tt

  pub follows_carries : IsCarrying like Carried
  follows_carries = record {
    ends = λ A P v k h. carried_same A P (Ends v k) h;
    fails = λ A P c. carried_same A P (Fails c) tt;
    errors = λ A P c d h. (h, tt);
    next = carried_next;
    also = λ A P Q o p r q. (r.0, q);
  }

  pub followed_carries : IsCarrying (λ c d. like d c) (λ A P o p. Carried A P p o)
  followed_carries = record {
    ends = λ A P v k h. carried_same A P (Ends v k) h;
    fails = λ A P c. carried_same A P (Fails c) tt;
    errors = λ A P c d h. (h, tt);
    next = λ A B P Q o p f g. carried_next A B P Q p o g f;
    also = λ A P Q o p r q. (r.0, value_back A Q o p r.0 q);
  }

pub there_carries : IsCarrying any_code there
there_carries = follows_carries any_code (λ c. tt)

pub back_carries : IsCarrying any_code back
back_carries = followed_carries any_code (λ c. tt)

pub deeper_carries : IsCarrying same_code deeper
deeper_carries = follows_carries same_code (λ c. refl)

-- what holds of each value holds of each value of a list that is made of them
pub every_append : {A : Type 0} (P : A → Type 0) (xs ys : List A) → Every P xs → Every P ys →
    Every P (xs ++ ys)
every_append P [] ys h g = g
every_append P (x ∷ xs) ys h g = (h.0, every_append P xs ys h.1 g)

pub every_map : {A B : Type 0} (P : B → Type 0) (m : A → B) (xs : List A) →
    Every (λ x. P (m x)) xs → Every P (map m xs)
every_map P m [] h = tt
every_map P m (x ∷ xs) h = (h.0, every_map P m xs h.1)

pub nothing_known : {A : Type 0} (o : Outcome A) → OnEnds Anything o
nothing_known (Ends v k) = tt
nothing_known (Fails c) = tt
nothing_known Deep = tt

module _ (like : Code → Code → Type 0) (rel : Relation) (r : IsCarrying like rel) where
  -- the same step on both sides
  pub step_carried : {A : Type 0} (P : A → Type 0) (v : Result A Code) (k : ℕ) →
      OnEnds P (step_outcome v k) → rel A P (step_outcome v k) (step_outcome v k)
  step_carried P (Ok v) k h = r.ends _ P v k h
  step_carried P (Err c) k h = r.fails _ P c

  pub each_carried : {A B : Type 0} (P : A → Type 0) (Q : B → Type 0)
      (f g : A → ℕ → Outcome (List B)) →
      ((x : A) (k : ℕ) → P x → rel _ (Every Q) (f x k) (g x k)) →
      (xs : List A) → Every P xs → (k : ℕ) → rel _ (Every Q) (for_each f xs k) (for_each g xs k)
  each_carried P Q f g h [] e k = r.ends _ _ _ _ tt
  each_carried P Q f g h (x ∷ xs) e k =
      r.next _ _ (Every Q) (Every Q) (f x k) (g x k) _ _ (h x k e.0) (λ ys j ey.
      r.next _ _ (Every Q) (Every Q) (for_each f xs j) (for_each g xs j) _ _
      (each_carried P Q f g h xs e.1 j) (λ zs i ez. r.ends _ _ _ _ (every_append Q ys zs ey ez)))

every_anything : {A : Type 0} (xs : List A) → Every Anything xs
every_anything [] = tt
every_anything (x ∷ xs) = (tt, every_anything xs)

list_known : {A : Type 0} (o : Outcome (List A)) → OnEnds (Every Anything) o
list_known (Ends xs k) = every_anything xs
list_known (Fails c) = tt
list_known Deep = tt

module _ (like : Code → Code → Type 0) (alike : (c : Code) → like c c) where
  pub follows_next : {A B : Type 0} (o p : Outcome A) (f g : A → ℕ → Outcome B) →
      Follows like o p → ((v : A) (k : ℕ) → Follows like (f v k) (g v k)) →
      Follows like (and_then o f) (and_then p g)
  follows_next o p f g r h =
      ((follows_carries like alike).next _ _ Anything Anything o p f g (r, nothing_known o)
      (λ v k u. (h v k, nothing_known (f v k)))).0

  pub follows_each : {A B : Type 0} (f g : A → ℕ → Outcome (List B)) →
      ((v : A) (k : ℕ) → Follows like (f v k) (g v k)) → (vs : List A) (k : ℕ) →
      Follows like (for_each f vs k) (for_each g vs k)
  follows_each f g h vs k =
      (each_carried like (Carried like alike) (follows_carries like alike) Anything Anything f g
      (λ x j u. (h x j, list_known (f x j))) vs (every_anything vs) k).0
