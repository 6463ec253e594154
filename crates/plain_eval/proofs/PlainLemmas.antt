-- An expression on its own lacks no call.
use Rattle.std.proofs.Common.{◌≡◌, ℕ, subst}
use Rattle.xt_syntax.specs.declared.exprs.Expr.{Expr}
use Rattle.doc_set.specs.Sets.{DocumentSet}
use Rattle.expr_meaning.specs.Env.{Env}
use Rattle.expr_meaning.specs.Meaning.{outcome}
use Rattle.expr_laws.specs.Ended.{CallsEnd, IsEnded}
use Rattle.expr_laws.proofs.Ended.{always_ended}
use Rattle.eval_scopes.specs.declared.faults.EvalFault.{EvalFault}
use Rattle.eval_scopes.specs.declared.faults.EvalFault.TheVariants.{Deep}
use Rattle.eval_scopes.specs.Answers.{IsFaultOf}
use Rattle.plain_eval.specs.Plain.{plain_program}

calls_end : (documents : DocumentSet) → CallsEnd (plain_program documents)
calls_end documents = record {
  calls = λ name args k. tt;
  keys = λ name values root k. tt;
}

pub never_deep : (documents : DocumentSet) (x : Expr) (e : Env) (k : ℕ) (f : EvalFault) →
    f ≡ Deep → IsFaultOf f (outcome (plain_program documents) x e k) → ⊥
never_deep documents x e k f is h =
    subst IsEnded (subst (λ g. IsFaultOf g (outcome (plain_program documents) x e k)) is h)
    (always_ended (plain_program documents) (calls_end documents) x e k)
