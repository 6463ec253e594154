-- Without calls that lack another nothing does.
use Rattle.std.proofs.Common.{ℕ, List, ap, refl}
use Rattle.xdm_items.specs.declared.items.Item.{Item}
use Rattle.xt_syntax.specs.declared.exprs.Expr.{Expr}
use Rattle.expr_meaning.specs.Outcomes.Outcome.{Outcome, Ends, Fails, Deep, and_then, OnEnds, Every, Anything}
use Rattle.expr_meaning.specs.Outcomes.Follow.{Relation, IsCarrying, any_code}
use Rattle.expr_meaning.specs.Env.{Env, Program, variable_value}
use Rattle.expr_meaning.specs.Meaning.{outcome}
use Rattle.expr_laws.specs.Carrier.{ProgramsAgree}
use Rattle.expr_laws.specs.Ended.{IsEnded, CallsEnd}
use Rattle.expr_laws.proofs.Anything.{any_list, any_made, any_name, any_places, any_value}
use Rattle.expr_laws.proofs.Anything.{in_one_place}
use Rattle.expr_laws.proofs.Whole.{whole_meets}

abbrev ended : Relation
ended A P o p = IsEnded o × OnEnds P o

ended_next : (A B : Type 0) (P : A → Type 0) (Q : B → Type 0) (o p : Outcome A)
    (f g : A → ℕ → Outcome B) → ended A P o p →
    ((v : A) (k : ℕ) → P v → ended B Q (f v k) (g v k)) → ended B Q (and_then o f) (and_then p g)
ended_next A B P Q (Ends v k) p f g r h = h v k r.1
ended_next A B P Q (Fails code) p f g r h = (tt, tt)
ended_next A B P Q Deep p f g r h = absurd r.0

ended_carries : IsCarrying any_code ended
ended_carries = record {
  ends = λ A P v k h. (tt, h);
  fails = λ A P code. (tt, tt);
  errors = λ A P c d h. (tt, tt);
  next = ended_next;
  also = λ A P Q o p r q. (r.0, q);
}

any_ended : (o : Outcome (List Item)) → IsEnded o → ended (List Item) (Every Anything) o o
any_ended o h = (h, any_list o)

-- an expression of a program whose calls all end lacks no call
pub always_ended : (p : Program) → CallsEnd p → (x : Expr) (e : Env) (k : ℕ) →
    IsEnded (outcome p x e k)
always_ended p h x e k =
    (whole_meets (in_one_place any_code (λ code. tt) ended ended_carries)
    (any_places any_code (λ code. tt) ended ended_carries)
    (any_made any_code (λ code. tt) ended ended_carries) p p agree x (λ s. absurd s) tt e e refl
    k).0
  where
    agree : ProgramsAgree (in_one_place any_code (λ code. tt) ended ended_carries) p p
    agree = record {
      meet = record {
        calls = λ name o args g j. any_ended (p.calls name args j) (h.calls name args j);
        document = λ xs. refl;
        documents = λ xs. any_value _;
        variables = λ v e f s name o. ap (λ z. variable_value p z name) s;
        variable = λ v e f s name o. any_value _;
      };
      keys = λ name values root g j. any_ended (p.keys name values root j) (h.keys name values root j);
      namespaces = refl;
      element_default = refl;
      element_names = λ xs g. any_name _;
      attribute_names = λ xs g. any_name _;
    }
