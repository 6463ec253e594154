-- What the calls of a host give.
use Rattle.std.specs.Prelude.{ℕ, List, Result}
use Rattle.std.specs.Borrow.{Bor, MutBor}
use Rattle.xt_names.specs.declared.names.ExprName.{ExprName}
use Rattle.xdm_items.specs.declared.items.Item.{Item}
use Rattle.expr_meaning.specs.Env.{Calls}
use Rattle.eval_scopes.specs.declared.faults.EvalFault.{EvalFault}
use Rattle.eval_scopes.specs.Answers.{Answers}

-- what holds of a call, its arguments and its answer
abbrev pub Post : Type 1
Post =
    Bor ExprName → Bor (List (List Item)) → MutBor ℕ → Result (List Item) EvalFault → MutBor ℕ →
    Type 0

-- each call that is made answers what `gives` says
unfoldable pub Serves : Post → Calls → Type 0
Serves post gives =
    (f : Bor ExprName) (args : Bor (List (List Item))) (k : MutBor ℕ)
    (r : Result (List Item) EvalFault) (left : MutBor ℕ) → post f args k r left →
    Answers r left.now (gives f.now args.now k.now)
