-- When one outcome carries another.
use Rattle.std.specs.Prelude.{◌≡◌, ℕ}
use Rattle.xt_names.specs.declared.codes.Code.{Code}
use Rattle.expr_meaning.specs.Outcomes.Outcome.{Outcome, Ends, Fails, Deep, and_then, OnEnds}

-- which codes count as the same
abbrev pub any_code : Code → Code → Type 0
any_code c d = Unit {0}

abbrev pub same_code : Code → Code → Type 0
same_code c d = c ≡ d

abbrev pub FailsLike : {A : Type 0} → (Code → Code → Type 0) → Code → Outcome A → Type 0
FailsLike like c (Ends v k) = ⊥
FailsLike like c (Fails d) = like c d
FailsLike like c Deep = ⊥

-- the second outcome is the first, unless the first is Deep
abbrev pub Follows : {A : Type 0} → (Code → Code → Type 0) → Outcome A → Outcome A → Type 0
Follows like (Ends v k) p = p ≡ Ends v k
Follows like (Fails c) p = FailsLike like c p
Follows like Deep p = Unit {0}

-- a relation between outcomes, of which a property of the value is known
abbrev pub Relation : Type 1
Relation = (A : Type 0) → (A → Type 0) → Outcome A → Outcome A → Type 0

-- the second follows the first whatever their codes; the first follows the second; and the second
-- has more calls left than the first and is it for the rest
abbrev pub there : Relation
there A P o p = Follows any_code o p × OnEnds P o

abbrev pub back : Relation
back A P o p = Follows any_code p o × OnEnds P p

abbrev pub deeper : Relation
deeper A P o p = Follows same_code o p × OnEnds P o

-- What is asked of a relation, so that a form of expressions or instructions is carried through it
-- where its parts are: proved once of each relation, and used for all forms. Nothing is asked of Deep
-- alone, so that never to be Deep is such a relation.
pub record IsCarrying (like : Code → Code → Type 0) (rel : Relation) : Type 1 where
  pub ends : (A : Type 0) (P : A → Type 0) (v : A) (k : ℕ) → P v → rel A P (Ends v k) (Ends v k)
  pub fails : (A : Type 0) (P : A → Type 0) (c : Code) → rel A P (Fails c) (Fails c)
  pub errors : (A : Type 0) (P : A → Type 0) (c d : Code) → like c d →
      rel A P (Fails c) (Fails d)
  pub next : (A B : Type 0) (P : A → Type 0) (Q : B → Type 0) (o p : Outcome A)
      (f g : A → ℕ → Outcome B) → rel A P o p →
      ((v : A) (k : ℕ) → P v → rel B Q (f v k) (g v k)) → rel B Q (and_then o f) (and_then p g)
  pub also : (A : Type 0) (P Q : A → Type 0) (o p : Outcome A) → rel A P o p → OnEnds Q o →
      rel A Q o p
