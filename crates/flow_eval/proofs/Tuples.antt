-- What clauses of a FLWOR expression bind, and loops that put tuples into rows.
use Rattle.std.proofs.Common.{◌≡◌, ℕ, refl, ap, sym, ◌∙◌, List, [], ◌∷◌, ◌++◌, append_assoc, ◌+◌}
use Rattle.std.proofs.Common.{◌<◌, ◌≤◌, suc, length, drop, get_or, add-one, drop-cons}
use Rattle.std.proofs.lemmas.List.{drop_all, append-nil}
use Rattle.std.specs.Prelude.{pos, Option, Some, None}
use Rattle.xt_names.specs.declared.names.ExprName.{ExprName}
use Rattle.xdm_items.specs.declared.items.Item.{Item}
use Rattle.order_group.specs.Rows.{Keyed}
use Rattle.expr_meaning.specs.Outcomes.Outcome.{Outcome, Ends, and_then, for_each, step_outcome}
use Rattle.xt_syntax.specs.declared.exprs.Bind.{Bind}
use Rattle.xt_syntax.specs.declared.exprs.Clause.TheViews.{out-Bind}
use Rattle.xdm_items.specs.FunctionArguments.Answers.{of_integer}
use Rattle.expr_meaning.specs.SortMeaning.Sorted.{Placed, places}
use Rattle.expr_meaning.specs.Env.{Binding, Env, Meaning, Program, bind_all, with_bound}
use Rattle.expr_meaning.specs.Flow.{Tuples, for_item, for_place, let_clause}
use Rattle.expr_meaning.specs.Meaning.{outcome, placed_clause}
use Rattle.expr_meaning.specs.Logic.{Bound, typed}
use Rattle.eval_steps.specs.Parts.{bind_outcome}
use Rattle.eval_steps.proofs.Forms.{bind_means}
use Rattle.eval_steps.proofs.Follow.{fault_first}
use Rattle.eval_scopes.specs.declared.faults.EvalFault.{EvalFault}
use Rattle.eval_scopes.specs.declared.scopes.Variable.{Variable}
use Rattle.eval_scopes.specs.Answers.{IsFaultOf}
use Rattle.eval_scopes.specs.Scopes.{pushed_on, binding_of}
use Rattle.flow_eval.specs.declared.rows.Rows.{Rows}
use Rattle.flow_eval.specs.Rows.{rows_of, tuple_of, are_even}
use Rattle.eval_steps.specs.Steps.{bound_outcome}
use Rattle.eval_steps.proofs.Follow.{so_far, so_far_first, so_far_more, so_far_last, so_far_fault}
use Rattle.eval_scopes.proofs.ScopeLemmas.{pushed_last}
use Rattle.flow_eval.proofs.FlowStreams.Turns.{from_bound}

-- bindings before bindings
bound_behind : (a b c : List Binding) → with_bound (with_bound a b) c ≡ with_bound a
    (with_bound b c)
bound_behind [] b c = refl
bound_behind (x ∷ xs) b c = ap (λ ys. x ∷ ys) (bound_behind xs b c)

-- what is bound within an outer scope comes before what that binds
pub tuple_within : (outer : List Binding) (vs : List Variable) →
    pushed_on outer vs ≡ with_bound (tuple_of vs) outer
tuple_within outer [] = refl
tuple_within outer (v ∷ vs) =
    tuple_within (binding_of v ∷ outer) vs
    ∙ sym (bound_behind (tuple_of vs) (binding_of v ∷ []) outer)
    ∙ ap (λ bs. with_bound bs outer) (sym (tuple_within (binding_of v ∷ []) vs))

-- a variable that is put at the end is the innermost
pub tuple_more : (vs : List Variable) (v : Variable) →
    tuple_of (vs ++ v ∷ []) ≡ binding_of v ∷ tuple_of vs
tuple_more vs v = pushed_last [] vs v

abbrev Row : Type 0
Row = Keyed (List Binding)

-- After i turns of a loop over xs, with the next number k, the rows have what was made of the whole
-- outcome after the old ones.
pub record Turns {A : Type 0} (f : A → ℕ → Outcome (List Row)) (xs : List A)
    (o : Outcome (List Row)) (old now : Rows) (i k : ℕ) : Type 0 where
  pub more : List Row
  pub left : so_far f more (drop i xs) k ≡ o
  pub rows : rows_of now ≡ rows_of old ++ more
  pub even : are_even now

-- before the first turn
pub turns_first : {A : Type 0} (f : A → ℕ → Outcome (List Row)) (xs : List A) (old : Rows) (k : ℕ) →
    are_even old → Turns f xs (for_each f xs k) old old 0 k
turns_first f xs old k even = record {
  more = [];
  left = so_far_first f xs k;
  rows = sym (append-nil (rows_of old));
  even = even;
}

-- one more turn, with x as the element at i
pub turns_step : {A : Type 0} (f : A → ℕ → Outcome (List Row)) (xs : List A)
    (o : Outcome (List Row))
    (old now new : Rows) (i k j : ℕ) (x d : A) → Turns f xs o old now i k → i < length xs →
    x ≡ get_or xs i d →
    ((more : List Row) × (f x k ≡ Ends more j) × (rows_of new ≡ rows_of now ++ more) × are_even
    new) →
    Turns f xs o old new (i + 1) j
turns_step f xs o old now new i k j x d inv lt is made = record {
  more = inv.more ++ made.0;
  left = rw (
    add-one,
    ← so_far_more f inv.more made.0 x (drop (suc i) xs) k j made.1,
    is,
    ← drop-cons xs i d lt,
  ) inv.left;
  rows = made.2 ∙ ap (λ ys. ys ++ made.0) inv.rows
      ∙ append_assoc (rows_of old) inv.more made.0;
  even = made.3;
}

-- a turn that ends in a fault
pub turns_exit : {A : Type 0} (g : EvalFault) (f : A → ℕ → Outcome (List Row)) (xs : List A)
    (o : Outcome (List Row)) (old now : Rows) (i k : ℕ) (x d : A) → Turns f xs o old now i k →
    i < length xs → x ≡ get_or xs i d → IsFaultOf g (f x k) → IsFaultOf g o
turns_exit g f xs o old now i k x d inv lt is h =
    rw (← inv.left, drop-cons xs i d lt, ← is) (so_far_fault g f inv.more x (drop (suc i) xs) k h)

-- after the last turn
pub turns_end : {A : Type 0} (f : A → ℕ → Outcome (List Row)) (xs : List A) (o : Outcome (List Row))
    (old now : Rows) (i k : ℕ) → Turns f xs o old now i k → length xs ≤ i →
    (more : List Row) × (o ≡ Ends more k) × (rows_of now ≡ rows_of old ++ more) × are_even now
turns_end f xs o old now i k inv le =
    let e : o ≡ Ends inv.more k =
    sym inv.left ∙ ap (λ rest. so_far f inv.more rest k) (drop_all i xs le)
    ∙ so_far_last f inv.more k ∙ ap (λ ys. Ends ys k) (append-nil inv.more) in
    (inv.more, e, inv.rows, inv.even)

-- an item of a `for` whose variable is made
module _ (p : Program) (clause : Bind) (rest : Tuples) (bound : List Binding) (env : Env) (x : Item)
    (k : ℕ) where
  pub item_turn : (v : Binding) →
      bound_outcome (out-Bind clause).var (typed (out-Bind clause).kind (x ∷ [])) k ≡ Ends v k →
      for_item (bind_outcome p clause) rest bound env x k ≡ rest (v ∷ bound) env k
  item_turn v h =
      rw (
        bind_means p clause,
        from_bound (out-Bind clause).var
            (typed (out-Bind clause).kind (x ∷ [])) k (λ b. rest (b ∷ bound) env),
        h,
      ) refl

  pub item_turn_fault : (g : EvalFault) →
      IsFaultOf g (bound_outcome (out-Bind clause).var (typed (out-Bind clause).kind (x ∷ [])) k) →
      IsFaultOf g (for_item (bind_outcome p clause) rest bound env x k)
  item_turn_fault g h =
      rw (
        bind_means p clause,
        from_bound (out-Bind clause).var
            (typed (out-Bind clause).kind (x ∷ [])) k (λ b. rest (b ∷ bound) env),
      )
      (fault_first g _ _ h)

-- the same with its position
module _ (p : Program) (clause : Bind) (at : ExprName) (rest : Tuples) (bound : List Binding)
    (env : Env) (f : Placed Item) (k : ℕ) where
  pub place_turn : (v : Binding) →
      bound_outcome (out-Bind clause).var (typed (out-Bind clause).kind (f.value ∷ [])) k ≡ Ends
      v k →
      for_place (bind_outcome p clause) at rest bound env f k
      ≡ rest ((at, of_integer (pos f.place)) ∷ v ∷ bound) env k
  place_turn v h =
      rw (
        bind_means p clause,
        from_bound (out-Bind clause).var
            (typed (out-Bind clause).kind (f.value ∷ [])) k
            (λ b. rest ((at, of_integer (pos f.place)) ∷ b ∷ bound) env),
        h,
      ) refl

  pub place_turn_fault : (g : EvalFault) →
      IsFaultOf g (bound_outcome (out-Bind clause).var
      (typed (out-Bind clause).kind (f.value ∷ [])) k) →
      IsFaultOf g (for_place (bind_outcome p clause) at rest bound env f k)
  place_turn_fault g h =
      rw (
        bind_means p clause,
        from_bound (out-Bind clause).var
            (typed (out-Bind clause).kind (f.value ∷ [])) k
            (λ b. rest ((at, of_integer (pos f.place)) ∷ b ∷ bound) env),
      )
      (fault_first g _ _ h)

-- a `let` whose value is made
module _ (p : Program) (clause : Bind) (rest : Tuples) (bound : List Binding) (env : Env) (k : ℕ)
  where
    pub let_value : (xs : List Item) (j : ℕ) (v : Binding) →
        outcome p (out-Bind clause).source (bind_all bound env) k ≡ Ends xs j →
        bound_outcome (out-Bind clause).var (typed (out-Bind clause).kind xs) j ≡ Ends v j →
        let_clause (bind_outcome p clause) rest bound env k ≡ rest (v ∷ bound) env j
    let_value xs j v e h =
        rw (
          bind_means p clause,
          e,
          from_bound (out-Bind clause).var
              (typed (out-Bind clause).kind xs) j (λ b. rest (b ∷ bound) env),
          h,
        ) refl

    pub let_value_fault : (g : EvalFault) (xs : List Item) (j : ℕ) →
        outcome p (out-Bind clause).source (bind_all bound env) k ≡ Ends xs j →
        IsFaultOf g (bound_outcome (out-Bind clause).var (typed (out-Bind clause).kind xs) j) →
        IsFaultOf g (let_clause (bind_outcome p clause) rest bound env k)
    let_value_fault g xs j e h =
        rw (
          bind_means p clause,
          e,
          from_bound (out-Bind clause).var
              (typed (out-Bind clause).kind xs) j (λ b. rest (b ∷ bound) env),
        ) (fault_first g _ _ h)

-- a `for`, from its items on
module _ (p : Program) (clause : Bind) (rest : Tuples) (bound : List Binding) (env : Env) (k : ℕ)
    (xs : List Item) (j : ℕ)
    (e : outcome p (out-Bind clause).source (bind_all bound env) k ≡ Ends xs j) where
  pub for_turns : placed_clause (bind_outcome p clause) None rest bound env k
      ≡ for_each (for_item (bind_outcome p clause) rest bound env) xs j
  for_turns =
      ap (λ (m : Meaning). and_then (m (bind_all bound env) k)
      (for_each (for_item (bind_outcome p clause) rest bound env)))
      (ap (λ (b : Bound). b.source) (bind_means p clause))
      ∙ ap (λ o. and_then o (for_each (for_item (bind_outcome p clause) rest bound env))) e

  pub for_places : (at : ExprName) →
      placed_clause (bind_outcome p clause) (Some at) rest bound env k
      ≡ and_then (step_outcome (places xs) j)
      (for_each (for_place (bind_outcome p clause) at rest bound env))
  for_places at =
      ap (λ (m : Meaning). and_then (m (bind_all bound env) k) (λ ys i.
      and_then (step_outcome (places ys) i)
      (for_each (for_place (bind_outcome p clause) at rest bound env))))
      (ap (λ (b : Bound). b.source) (bind_means p clause))
      ∙ ap (λ o. and_then o (λ ys i. and_then (step_outcome (places ys) i)
      (for_each (for_place (bind_outcome p clause) at rest bound env)))) e

-- a fault of where the items come from
pub for_fault : (p : Program) (clause : Bind) (at : Option ExprName) (rest : Tuples)
    (bound : List Binding) (env : Env) (k : ℕ) (g : EvalFault) →
    IsFaultOf g (outcome p (out-Bind clause).source (bind_all bound env) k) →
    IsFaultOf g (placed_clause (bind_outcome p clause) at rest bound env k)
for_fault p clause None rest bound env k g h = rw (bind_means p clause) (fault_first g _ _ h)
for_fault p clause (Some at) rest bound env k g h = rw (bind_means p clause) (fault_first g _ _ h)
