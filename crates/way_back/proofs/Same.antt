-- That two computations do the same is carried through every form.
use Rattle.std.proofs.Common.{◌≡◌, ℕ, refl, sym, subst}
use Rattle.expr_meaning.specs.Outcomes.Outcome.{Outcome, Ends, Fails, Deep, and_then}
use Rattle.expr_meaning.specs.Outcomes.Follow.{any_code, IsCarrying}
use Rattle.way_back.specs.Same.{same}

same_next : (A B : Type 0) (P : A → Type 0) (Q : B → Type 0) (o p : Outcome A)
    (f g : A → ℕ → Outcome B) → same A P o p →
    ((v : A) (k : ℕ) → P v → same B Q (f v k) (g v k)) → same B Q (and_then o f) (and_then p g)
same_next A B P Q (Ends v k) p f g r h =
    subst (λ q. same B Q (f v k) (and_then q g)) (sym r.0) (h v k r.2)
same_next A B P Q (Fails c) (Ends w j) f g r h = absurd r.0
same_next A B P Q (Fails c) (Fails d) f g r h = (tt, tt, tt)
same_next A B P Q (Fails c) Deep f g r h = absurd r.0
same_next A B P Q Deep (Ends w j) f g r h = absurd (let e : Deep ≡ Ends w j = r.1 in cc)
same_next A B P Q Deep (Fails d) f g r h = absurd r.1
same_next A B P Q Deep Deep f g r h = (tt, tt, tt)

pub same_carries : IsCarrying any_code same
same_carries = record {
  ends = λ A P v k h. (refl, refl, h);
  fails = λ A P c. (tt, tt, tt);
  errors = λ A P c d h. (tt, tt, tt);
  next = same_next;
  also = λ A P Q o p r q. (r.0, r.1, q);
}
