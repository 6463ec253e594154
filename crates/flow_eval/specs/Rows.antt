-- The tuples of a FLWOR expression as they are held (XQuery 1.0, 3.8).
use Rattle.std.specs.Prelude.{◌≡◌, ℕ, List, [], ◌++◌, map, length, Bool}
use Rattle.std.specs.Prelude.{Option, Some, None, Result, Ok, Err, slice_get, option_map}
use Rattle.std.specs.declared.vec.Vec.{Vec}
use Rattle.std.specs.declared.alloc.Global.{Global}
use Rattle.xt_syntax.specs.declared.exprs.Order.{Order}
use Rattle.xt_syntax.specs.declared.exprs.Flwor.{Flwor}
use Rattle.xt_syntax.specs.declared.exprs.Clause.TheViews.{out-Order, out-Flwor}
use Rattle.order_group.specs.Rows.{Keyed}
use Rattle.order_group.specs.Sorts.{numbered}
use Rattle.expr_meaning.specs.Outcomes.Outcome.{Outcome, Ends}
use Rattle.expr_meaning.specs.Env.{Binding, Program}
use Rattle.expr_meaning.specs.Meaning.{outcome}
use Rattle.expr_meaning.specs.Flow.{Tuples, where_clause, keyed}
use Rattle.eval_scopes.specs.declared.faults.EvalFault.{EvalFault}
use Rattle.eval_scopes.specs.declared.scopes.Variable.{Variable}
use Rattle.eval_scopes.specs.Answers.{IsFaultOf}
use Rattle.eval_scopes.specs.Scopes.{pushed_on}
use Rattle.flow_eval.specs.declared.rows.Rows.{Rows}
use Rattle.eval_steps.specs.Parts.{order_outcome}

abbrev pub tuple_of : List Variable → List Binding
tuple_of vs = pushed_on [] vs

abbrev pub tuple_behind : Option (Vec Variable Global) → List Binding
tuple_behind None = []
tuple_behind (Some vs) = tuple_of vs.items

-- the tuple at a place, from 0
abbrev pub tuple_at : List (Vec Variable Global) → ℕ → List Binding
tuple_at tuples i = tuple_behind (slice_get tuples i)

abbrev pub with_tuple : List (Vec Variable Global) → Keyed ℕ → Keyed (List Binding)
with_tuple tuples e = record { cells = e.cells; value = tuple_at tuples e.value }

-- the keys with their tuples
abbrev pub rows_of : Rows → List (Keyed (List Binding))
rows_of rows = map (with_tuple rows.tuples.items) (numbered 0 rows.keys)

-- there are as many keys as tuples
abbrev pub are_even : Rows → Type 0
are_even rows = length rows.tuples.items ≡ length rows.keys

-- the answer stands for the outcome, where the new rows are the old ones and these
abbrev pub AnswersRows : Result (Unit {0}) EvalFault → Rows → Rows → ℕ →
    Outcome (List (Keyed (List Binding))) → Type 0
AnswersRows (Ok u) old new k o =
    (more : List (Keyed (List Binding))) × (o ≡ Ends more k)
    × (rows_of new ≡ rows_of old ++ more) × are_even new
AnswersRows (Err fault) old new k o = IsFaultOf fault o

-- what comes after the clauses: the test, and then the keys
abbrev pub row_outcome : Program → Flwor → Tuples
row_outcome p f =
    where_clause (option_map (outcome p) (out-Flwor f).test)
    (keyed (map (order_outcome p) (out-Flwor f).orders))

abbrev pub descends : Order → Bool
descends o = (out-Order o).descending

abbrev pub directions_of : List Order → List Bool
directions_of orders = map descends orders
