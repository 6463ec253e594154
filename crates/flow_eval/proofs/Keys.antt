-- The keys of tuples, and whole FLWOR expressions.
use Rattle.std.proofs.Common.{◌≡◌, ℕ, refl, ap, List, [], ◌∷◌, ◌++◌, map}
use Rattle.std.specs.Prelude.{Result, Ok, Err, Bool, true, false, Option, Some, None, option_map}
use Rattle.xt_names.specs.declared.codes.Code.{Code}
use Rattle.xt_atoms.specs.Casts.{wrong_type}
use Rattle.xdm_items.specs.declared.items.Item.{Item}
use Rattle.xt_syntax.specs.declared.exprs.Order.{Order}
use Rattle.xt_syntax.specs.declared.exprs.Flwor.{Flwor}
use Rattle.xt_syntax.specs.declared.exprs.Clause.TheViews.{out-Flwor}
use Rattle.order_group.specs.Rows.{Row, Cell, Keyed}
use Rattle.expr_meaning.specs.Outcomes.Outcome.{Outcome, Ends, Fails, Deep, and_then, step_outcome, for_each}
use Rattle.expr_meaning.specs.SortMeaning.Sorted.{key_cell, row_of, ordered}
use Rattle.expr_meaning.specs.Env.{Binding, Env, Meaning, Program, bind_all}
use Rattle.expr_meaning.specs.Flow.{OrderMeaning, Tuples, columns_at, flow_of, keyed}
use Rattle.expr_meaning.specs.Flow.{kept_tuple, where_clause}
use Rattle.expr_meaning.specs.Meaning.{outcome}
use Rattle.eval_steps.specs.Parts.{clause_outcome, order_outcome, flwor_outcome}
use Rattle.eval_scopes.specs.declared.faults.EvalFault.{EvalFault}
use Rattle.eval_scopes.specs.Answers.{IsFaultOf, Answers}
use Rattle.flow_eval.specs.Rows.{directions_of, row_outcome}
use Rattle.eval_steps.specs.Steps.{keys_of, test_at}
use Rattle.eval_steps.proofs.Follow.{fault_first}
use Rattle.eval_steps.proofs.Forms.{order_means}
use Rattle.flow_eval.proofs.FlowStreams.Clauses.{flwor_means}

cell_step : (cell : Result Cell Code) (k : ℕ) (g h : ℕ → Outcome Row) → ((j : ℕ) → g j ≡ h j) →
    and_then (step_outcome cell k) (λ c j. and_then (g j) (λ cs i. Ends (c ∷ cs) i))
    ≡ and_then (and_then (step_outcome cell k) (λ c i. Ends (c ∷ []) i))
    (λ ys j. and_then (h j) (λ zs i. Ends (ys ++ zs) i))
cell_step (Ok c) k g h e = ap (λ o. and_then o (λ cs i. Ends (c ∷ cs) i)) (e k)
cell_step (Err code) k g h e = refl

key_step : (m : Outcome (List Item)) (g h : ℕ → Outcome Row) → ((j : ℕ) → g j ≡ h j) →
    and_then (and_then m (λ xs j. step_outcome (key_cell wrong_type xs) j))
    (λ c j. and_then (g j) (λ cs i. Ends (c ∷ cs) i))
    ≡ and_then (and_then m (λ xs j. and_then (step_outcome (key_cell wrong_type xs) j)
    (λ c i. Ends (c ∷ []) i))) (λ ys j. and_then (h j) (λ zs i. Ends (ys ++ zs) i))
key_step (Ends xs k) g h e = cell_step (key_cell wrong_type xs) k g h e
key_step (Fails code) g h e = refl
key_step Deep g h e = refl

-- the keys of a tuple are its row
pub row_is : (os : List OrderMeaning) (bound : List Binding) (env : Env) (k : ℕ) →
    row_of (columns_at (λ b. bind_all b env) os) bound k ≡ keys_of os (bind_all bound env) k
row_is [] bound env k = refl
row_is (o ∷ os) bound env k =
    key_step (o.0 (bind_all bound env) k) _ _ (λ j. row_is os bound env j)

pub directions_are : (p : Program) (orders : List Order) →
    map (λ (o : OrderMeaning). o.1) (map (order_outcome p) orders) ≡ directions_of orders
directions_are p [] = refl
directions_are p (o ∷ os) = rw (order_means p o, directions_are p os) refl

-- a FLWOR expression, once its tuples are made
module _ (p : Program) (f : Flwor) (env : Env) (k : ℕ) where
  abbrev flow : Outcome (List (Keyed (List Binding)))
  flow = flow_of (map (clause_outcome p) (out-Flwor f).clauses) (row_outcome p f) [] env k

  pub flwor_fault : (g : EvalFault) → IsFaultOf g flow → IsFaultOf g (flwor_outcome p f env k)
  flwor_fault g h = rw (flwor_means p f) (fault_first g flow _ h)

  pub flwor_order_fault : (g : EvalFault) (rows : List (Keyed (List Binding))) (j : ℕ) →
      flow ≡ Ends rows j →
      IsFaultOf g (ordered wrong_type (directions_of (out-Flwor f).orders) rows j) →
      IsFaultOf g (flwor_outcome p f env k)
  flwor_order_fault g rows j e h =
      rw (flwor_means p f, e, directions_are p (out-Flwor f).orders) (fault_first g _ _ h)

  pub flwor_ends : (r : Result (List Item) EvalFault) (left : ℕ)
      (rows : List (Keyed (List Binding))) (j : ℕ) (bs : List (List Binding)) (i : ℕ) →
      flow ≡ Ends rows j →
      ordered wrong_type (directions_of (out-Flwor f).orders) rows j ≡ Ends bs i →
      Answers r left (for_each (λ b. outcome p (out-Flwor f).body (bind_all b env)) bs i) →
      Answers r left (flwor_outcome p f env k)
  flwor_ends r left rows j bs i e o h =
      rw (flwor_means p f, e, directions_are p (out-Flwor f).orders, o) h

where_by : (t : Option Meaning) (rest : Tuples) (bound : List Binding) (env : Env) (k : ℕ) →
    where_clause t rest bound env k
    ≡ and_then (test_at t (bind_all bound env) k) (kept_tuple rest bound env)
where_by None rest bound env k = refl
where_by (Some t) rest bound env k = refl

keyed_by : (os : List OrderMeaning) (bound : List Binding) (env : Env) (k : ℕ) →
    keyed os bound env k ≡ and_then (keys_of os (bind_all bound env) k)
    (λ cells j. Ends (record { cells = cells; value = bound } ∷ []) j)
keyed_by os bound env k =
    ap (λ o. and_then o (λ cells j. Ends (record { cells = cells; value = bound } ∷ []) j))
    (row_is os bound env k)

-- what comes after the clauses, for a tuple
module _ (p : Program) (f : Flwor) (bound : List Binding) (env : Env) (k : ℕ) where
  abbrev tested : Outcome Bool
  tested = test_at (option_map (outcome p) (out-Flwor f).test) (bind_all bound env) k

  abbrev keys : ℕ → Outcome Row
  keys j = keys_of (map (order_outcome p) (out-Flwor f).orders) (bind_all bound env) j

  by_test : row_outcome p f bound env k
      ≡ and_then tested (kept_tuple (keyed (map (order_outcome p) (out-Flwor f).orders)) bound env)
  by_test =
      where_by (option_map (outcome p) (out-Flwor f).test)
      (keyed (map (order_outcome p) (out-Flwor f).orders)) bound env k

  pub row_fault : (g : EvalFault) → IsFaultOf g tested → IsFaultOf g (row_outcome p f bound env k)
  row_fault g h = rw by_test (fault_first g tested _ h)

  pub row_dropped : (j : ℕ) → tested ≡ Ends false j → row_outcome p f bound env k ≡ Ends [] j
  row_dropped j e = rw (by_test, e) refl

  pub row_keys_fault : (g : EvalFault) (j : ℕ) → tested ≡ Ends true j → IsFaultOf g (keys j) →
      IsFaultOf g (row_outcome p f bound env k)
  row_keys_fault g j e h =
      rw (by_test, e, keyed_by (map (order_outcome p) (out-Flwor f).orders) bound env j)
      (fault_first g (keys j) _ h)

  pub row_made : (j : ℕ) (cells : Row) (i : ℕ) → tested ≡ Ends true j → keys j ≡ Ends cells i →
      row_outcome p f bound env k ≡ Ends (record { cells = cells; value = bound } ∷ []) i
  row_made j cells i e m =
      rw (by_test, e, keyed_by (map (order_outcome p) (out-Flwor f).orders) bound env j, m) refl
