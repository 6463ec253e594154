-- What may be called at larger expressions may be called at smaller ones.
use Rattle.std.proofs.Common.{ℕ, ◌≤◌, arith}
use Rattle.eval_steps.specs.EvalInner.Inner.{Pre, CanEvaluate}

pub narrow : (pre : Pre) (n m : ℕ) → CanEvaluate pre n → m ≤ n → CanEvaluate pre m
unfolding CanEvaluate
narrow pre n m can le = λ env next e value h. can env next e value (omega (arith, h, le))
