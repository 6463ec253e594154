-- FLWOR expressions whose tuples need not be held: the body of each is evaluated as soon as the
-- tuple stands (XQuery 1.0, 3.8).
use Rattle.std.specs.Prelude.{◌≡◌, ℕ, ℤ, List, [], ◌∷◌, map, Option, Some, None, pos}
use Rattle.xt_names.specs.declared.names.ExprName.{ExprName}
use Rattle.xdm_items.specs.declared.items.Item.{Item}
use Rattle.xt_syntax.specs.declared.exprs.Expr.{Expr}
use Rattle.xt_syntax.specs.declared.exprs.Expr.TheVariants.{Int}
use Rattle.xt_syntax.specs.declared.exprs.Arm.{Arm}
use Rattle.xt_syntax.specs.declared.exprs.Clause.{Clause}
use Rattle.xt_syntax.specs.declared.exprs.Order.{Order}
use Rattle.xt_syntax.specs.declared.exprs.Flwor.{Flwor}
use Rattle.xt_syntax.specs.declared.exprs.Bind.{Bind}
use Rattle.xt_syntax.specs.declared.exprs.NameSource.{NameSource}
use Rattle.xt_syntax.specs.declared.exprs.DirectAttr.{DirectAttr}
use Rattle.xt_syntax.specs.declared.exprs.Part.{Part}
use Rattle.xt_syntax.specs.declared.exprs.Clause.TheOpen.{Clause-F, For, Let}
use Rattle.xt_syntax.specs.declared.exprs.Clause.TheViews.{out-Clause, out-Flwor}
use Rattle.xdm_items.specs.FunctionArguments.Answers.{of_integer}
use Rattle.expr_meaning.specs.Outcomes.Outcome.{Outcome, Ends, and_then, step_outcome, for_each}
use Rattle.expr_meaning.specs.SortMeaning.Sorted.{Placed, places}
use Rattle.expr_meaning.specs.Env.{Env, Meaning, Program, bind}
use Rattle.expr_meaning.specs.Logic.{Bound, typed}
use Rattle.expr_meaning.specs.Flow.{ClauseMeaning, let_clause}
use Rattle.expr_meaning.specs.Meaning.{outcome, placed_clause}
use Rattle.eval_steps.specs.Parts.{bind_outcome, clause_outcome, flwor_outcome}

-- a clause as what it binds: the items of a list one by one, with their positions where these have
-- a name, or a list
pub data Binder : Type 0 where
  each_of : Bound → Option ExprName → Binder
  all_of : Bound → Binder

abbrev pub binder_in : Program → Clause-F Clause Expr NameSource Part Arm Bind DirectAttr Flwor
    Order → Binder
binder_in p (For b at) = each_of (bind_outcome p b) at
binder_in p (Let b) = all_of (bind_outcome p b)

abbrev pub binder_of : Program → Clause → Binder
binder_of p c = binder_in p (out-Clause c)

-- an item of a `for`, if it is of the type, and what follows it
abbrev pub stream_item : Bound → Meaning → Env → Item → ℕ → Outcome (List Item)
stream_item b rest env x k =
    and_then (step_outcome (typed b.kind (x ∷ [])) k) (λ ys. rest (bind b.var ys env))

-- the same with the position, from 1
abbrev pub stream_place : Bound → ExprName → Meaning → Env → Placed Item → ℕ → Outcome (List Item)
stream_place b at rest env f k =
    and_then (step_outcome (typed b.kind (f.value ∷ [])) k) (λ ys.
    rest (bind at (of_integer (pos f.place)) (bind b.var ys env)))

abbrev pub stream_for : Bound → Option ExprName → Meaning → Meaning
stream_for b None rest env k = and_then (b.source env k) (for_each (stream_item b rest env))
stream_for b (Some at) rest env k =
    and_then (b.source env k) (λ xs j.
    and_then (step_outcome (places xs) j) (for_each (stream_place b at rest env)))

abbrev pub stream_let : Bound → Meaning → Meaning
stream_let b rest env k =
    and_then (b.source env k) (λ xs j.
    and_then (step_outcome (typed b.kind xs) j) (λ ys. rest (bind b.var ys env)))

abbrev pub stream_by : Binder → Meaning → Meaning
stream_by (each_of b at) rest = stream_for b at rest
stream_by (all_of b) rest = stream_let b rest

-- the clauses, the first outermost, and the body of each tuple as soon as it stands
abbrev pub stream_of : List Binder → Meaning → Meaning
stream_of [] body = body
stream_of (b ∷ bs) body = stream_by b (stream_of bs body)

-- what evaluates the clauses and the body in turn may stand for the FLWOR expression
abbrev pub IsStreamed : Flwor → Type 0
IsStreamed f = (p : Program) (env : Env) (k : ℕ) → flwor_outcome p f env k
    ≡ stream_of (map (binder_of p) (out-Flwor f).clauses) (outcome p (out-Flwor f).body) env k

-- a literal integer
abbrev pub IsInteger : Expr → Type 0
IsInteger e = (n : ℤ) × (e ≡ Int n)

-- an expression that always has the same list, and makes no nodes
abbrev pub IsStill : Meaning → Type 0
IsStill m = (xs : List Item) × ((env : Env) (k : ℕ) → m env k ≡ Ends xs k)

abbrev pub IsStillBound : Bound → Type 0
IsStillBound b = (b.kind ≡ None) × IsStill b.source

-- a clause that neither fails nor makes nodes
abbrev pub IsStillBinder : Binder → Type 0
IsStillBinder (each_of b None) = IsStillBound b
IsStillBinder (each_of b (Some at)) = ⊥
IsStillBinder (all_of b) = IsStillBound b

abbrev pub AreStill : List Binder → Type 0
AreStill [] = Unit {0}
AreStill (b ∷ bs) = IsStillBinder b × AreStill bs

-- any number of `let`, then a `for` of any list, and after it such clauses
abbrev pub Streams : List Binder → Type 0
Streams [] = Unit {0}
Streams (each_of b at ∷ bs) = (b.kind ≡ None) × AreStill bs
Streams (all_of b ∷ bs) = Streams bs

abbrev pub as_clause : Binder → ClauseMeaning
as_clause (each_of b at) = placed_clause b at
as_clause (all_of b) = let_clause b

-- the clauses are such, whatever program they stand in
pub record AreStreamed (cs : List Clause) (p : Program) : Type 0 where
  pub streams : Streams (map (binder_of p) cs)
  pub same : map (clause_outcome p) cs ≡ map as_clause (map (binder_of p) cs)

pub record IsStillClause (c : Clause) (p : Program) : Type 0 where
  pub still : IsStillBinder (binder_of p c)
  pub same : clause_outcome p c ≡ as_clause (binder_of p c)

pub record BehindStill (cs : List Clause) (p : Program) : Type 0 where
  pub still : AreStill (map (binder_of p) cs)
  pub same : map (clause_outcome p) cs ≡ map as_clause (map (binder_of p) cs)
