-- Groups in the order of their keys, as the query puts them.
use Rattle.std.proofs.Common.{◌≡◌, ℕ, List, [], ◌∷◌, refl, ap, sym, ◌∙◌, map, subst}
use Rattle.std.specs.Prelude.{Bool, true, false, None, Some, if◌then◌else◌}
use Rattle.xt_names.specs.declared.names.ExprName.{ExprName}
use Rattle.xt_atoms.specs.Casts.{wrong_type}
use Rattle.xdm_items.specs.declared.items.Item.{Item}
use Rattle.xt_syntax.specs.declared.exprs.Expr.{Expr}
use Rattle.xt_syntax.specs.declared.exprs.Order.{Order}
use Rattle.xt_syntax.specs.Layers.{clause_gives, order_gives}
use Rattle.order_group.specs.Rows.{Keyed}
use Rattle.order_group.proofs.Natural.{rekeyed}
use Rattle.expr_meaning.specs.Outcomes.Outcome.{Outcome, Ends, and_then, step_outcome, for_each, OnEnds, Every, Anything}
use Rattle.expr_meaning.specs.Outcomes.Follow.{there, any_code}
use Rattle.expr_meaning.proofs.OutcomesLemmas.Relations.{every_append, nothing_known, there_carries}
use Rattle.expr_meaning.proofs.OutcomesLemmas.Steps.{each_made, made, then_assoc, then_known, then_on, then_same}
use Rattle.expr_meaning.specs.SortMeaning.Sorted.{Placed, ordered, places, row_of, values}
use Rattle.expr_meaning.proofs.SortMeaning.Carried.{ordered_carried}
use Rattle.expr_meaning.specs.Env.{Binding, Env, Program, bind_all, look_up, with_bound}
use Rattle.expr_meaning.specs.Flow.{OrderMeaning, columns_at, finished, flow_of, keyed, where_clause}
use Rattle.expr_meaning.specs.Meaning.{meanings, steps, outcome}
use Rattle.carried_exprs.specs.Sights.{position_name, variable_of}
use Rattle.query_helpers.proofs.Gives.{gives_variable}
use Rattle.translated_forms.specs.Forms.{flow_ordered, for_at_clause}
use Rattle.lockstep.specs.Spots.{items_if}
use Rattle.lockstep.proofs.Lets.{Lets, let_of}
use Rattle.lockstep_loops.proofs.FlowGives.{flow_from, turn}
use Rattle.lockstep_loops.proofs.LoopForms.{at_gives, flow_does, let_gives}
use Rattle.lockstep_loops.proofs.GroupKeys.{flat}
use Rattle.lockstep_loops.proofs.NeededRows.{lets_cells, order_made, row_with, rows_of_lets, value_held, AllOther}
use Rattle.xt_names.specs.ExprNames.{same_name}

each_on : {A B : Type 0} (Q : B → Type 0) (f : A → ℕ → Outcome (List B)) →
    ((x : A) (k : ℕ) → OnEnds (Every Q) (f x k)) → (xs : List A) (k : ℕ) →
    OnEnds (Every Q) (for_each f xs k)
each_on Q f h [] k = tt
each_on Q f h (x ∷ xs) k =
    then_on (Every Q) (Every Q) (f x k) _ (h x k) (λ ys j a.
    then_on (Every Q) (Every Q) (for_each f xs j) _ (each_on Q f h xs j)
    (λ zs i b. every_append Q ys zs a b))

order_on : {A : Type 0} (P : A → Type 0) (ds : List Bool) (rows : List (Keyed A)) →
    Every (λ row. P row.value) rows → (k : ℕ) → OnEnds (Every P) (ordered wrong_type ds rows k)
order_on P ds rows h k =
    (ordered_carried any_code there there_carries P wrong_type wrong_type tt ds ds refl rows h k).1

abbrev alone : Placed Item → List Item
alone p = p.value ∷ []

flat_alone : (ps : List (Placed Item)) → flat (map alone ps) ≡ values ps
flat_alone [] = refl
flat_alone (p ∷ ps) = ap (λ l. p.value ∷ l) (flat_alone ps)

module _ (q : Program) (v : ExprName) (f : Env) where
  abbrev IsHeld : List Binding → Type 0
  IsHeld b = (zs : List Item) × (look_up (with_bound b f.locals) v ≡ Some zs)

  -- the lists that a variable holds, one after another
  values_given : (bs : List (List Binding)) → Every IsHeld bs → (k : ℕ) →
      for_each (λ b. outcome q (variable_of v) (bind_all b f)) bs k
      ≡ Ends (flat (map (value_held q v f) bs)) k
  values_given [] h k = refl
  values_given (b ∷ bs) h k =
      rw (
        gives_variable q v (bind_all b f) h.0.0 h.0.1 k
            ∙ ap (λ o. Ends (items_if o) k) (sym h.0.1),
        values_given bs h.1 k,
      ) refl

  abbrev let_rows : Lets q → List OrderMeaning → List Binding → ℕ → Outcome (List (Keyed (List Binding)))
  let_rows bs os bound k =
      flow_of (map (clause_gives meanings (steps q)) (map (let_of q) bs)) (where_clause None (keyed os))
      bound f k

  rows_held : (bs : Lets q) → AllOther q v bs → (os : List OrderMeaning) (bound : List Binding) →
      IsHeld bound → (k : ℕ) → OnEnds (Every (λ row. IsHeld row.value)) (let_rows bs os bound k)
  unfolding look_up
  rows_held [] o os bound h k =
      then_on Anything (Every (λ row. IsHeld row.value)) (row_of (columns_at (λ b. bind_all b f) os) bound k)
      _ (nothing_known _) (λ cells j u. (h, tt))
  rows_held (b ∷ bs) o os bound h k =
      subst (λ c. OnEnds (Every (λ row. IsHeld row.value))
      (c (flow_of (map (clause_gives meanings (steps q)) (map (let_of q) bs)) (where_clause None (keyed os)))
      bound f k)) (sym (let_gives q b.0 b.1))
      (then_on Anything (Every (λ row. IsHeld row.value)) (outcome q b.1 (bind_all bound f) k) _
      (nothing_known _) (λ xs j u.
      rows_held bs o.1 os ((b.0, xs) ∷ bound)
      (h.0, ap (λ t. if t then Some xs else look_up (with_bound bound f.locals) v) o.0 ∙ h.1) j))

  -- keys of a value in its place, after bindings
  abbrev pub cells_row : Lets q → List OrderMeaning → Placed Item → ℕ → Outcome (List (Keyed (Placed Item)))
  cells_row bs os p k =
      and_then (lets_cells q bs os (bind_all (turn v position_name [] p) f) k) (row_with p)

  abbrev pub in_their_order : List OrderMeaning → List (Keyed (Placed Item)) → ℕ → Outcome (List Item)
  in_their_order os rows k =
      and_then (ordered wrong_type (map (λ (o : OrderMeaning). o.1) os) rows k) (λ ps j. Ends (values ps) j)

  order_rows : (bs : Lets q) → AllOther q v bs → (os : List OrderMeaning) → same_name position_name v ≡ false →
      same_name v v ≡ true → (fs : List (Placed Item)) (k : ℕ) →
      and_then (for_each (λ p. let_rows bs os (turn v position_name [] p)) fs k)
      (finished os (outcome q (variable_of v)) f)
      ≡ and_then (for_each (cells_row bs os) fs k) (in_their_order os)
  unfolding look_up
  order_rows bs o os other same fs k =
      then_known (Every (λ row. IsHeld row.value)) (for_each rows fs k) _ _
      (each_on (λ row. IsHeld row.value) rows (λ p j. rows_held bs o os (turn v position_name [] p)
      (p.value ∷ [], held p) j) fs k) (λ rs j h. last rs h j)
      ∙ sym (then_assoc (for_each rows fs k) (made (rekeyed hold)) joined)
      ∙ ap (λ o. and_then o joined)
      (sym (each_made (rekeyed hold) (λ p j. and_then (rows p j) (made (rekeyed hold))) rows (λ p j. refl) fs k)
      ∙ each_made (rekeyed alone) (λ p j. and_then (rows p j) (made (rekeyed hold))) (cells_row bs os)
      (λ p j. rows_of_lets q v bs o os (turn v position_name [] p) f j
      ∙ ap (λ zs. and_then (lets_cells q bs os (bind_all (turn v position_name [] p) f) j)
      (row_with (items_if zs))) (held p)
      ∙ sym (then_assoc (lets_cells q bs os (bind_all (turn v position_name [] p) f) j) (row_with p)
      (made (rekeyed alone)))) fs k)
      ∙ then_assoc (for_each (cells_row bs os) fs k) (made (rekeyed alone)) joined
      ∙ then_same (for_each (cells_row bs os) fs k) _ _ (λ rs j.
      ap (λ o. and_then o (λ zss i. Ends (flat zss) i)) (order_made alone wrong_type ds rs j)
      ∙ then_assoc (ordered wrong_type ds rs j) (made alone) (λ zss i. Ends (flat zss) i)
      ∙ then_same (ordered wrong_type ds rs j) _ _ (λ ps i. ap (λ l. Ends l i) (flat_alone ps)))
    where
      ds : List Bool
      ds = map (λ (o : OrderMeaning). o.1) os

      hold : List Binding → List Item
      hold = value_held q v f

      rows : Placed Item → ℕ → Outcome (List (Keyed (List Binding)))
      rows p j = let_rows bs os (turn v position_name [] p) j

      joined : List (Keyed (List Item)) → ℕ → Outcome (List Item)
      joined rs j = and_then (ordered wrong_type ds rs j) (λ zss i. Ends (flat zss) i)

      held : (p : Placed Item) → look_up (with_bound (turn v position_name [] p) f.locals) v ≡ Some (p.value ∷ [])
      held p = rw (other, same) refl

      last : (rs : List (Keyed (List Binding))) → Every (λ row. IsHeld row.value) rs → (j : ℕ) →
          finished os (outcome q (variable_of v)) f rs j ≡ joined (map (rekeyed hold) rs) j
      last rs h j =
          then_known (Every IsHeld) (ordered wrong_type ds rs j) _ _ (order_on IsHeld ds rs h j)
          (λ bs i g. values_given bs g i)
          ∙ sym (ap (λ o. and_then o (λ zss i. Ends (flat zss) i)) (order_made hold wrong_type ds rs j)
          ∙ then_assoc (ordered wrong_type ds rs j) (made hold) (λ zss i. Ends (flat zss) i))

  -- `for $v at $position in source let .. stable order by .. return $v`
  pub order_does : (from : Expr) (bs : Lets q) → AllOther q v bs → (orders : List Order) →
      same_name position_name v ≡ false → same_name v v ≡ true → (k : ℕ) →
      outcome q (flow_ordered (for_at_clause v position_name from ∷ map (let_of q) bs) orders (variable_of v)) f k
      ≡ and_then (outcome q from f k) (λ ks j. and_then (step_outcome (places ks) j) (λ fs i.
      and_then (for_each (cells_row bs (map (order_gives meanings (steps q)) orders)) fs i)
      (in_their_order (map (order_gives meanings (steps q)) orders))))
  order_does from bs o orders other same k =
      let os = map (order_gives meanings (steps q)) orders in
      flow_does q (for_at_clause v position_name from ∷ map (let_of q) bs) orders true (variable_of v) f k
      ∙ ap (λ c. flow_from (c ∷ map (clause_gives meanings (steps q)) (map (let_of q) bs)) None os
      (outcome q (variable_of v)) [] f k) (at_gives q v position_name from)
      ∙ then_assoc (outcome q from f k) _ _
      ∙ then_same (outcome q from f k) _ _ (λ ks j.
      then_assoc (step_outcome (places ks) j) _ _
      ∙ then_same (step_outcome (places ks) j) _ _ (λ fs i. order_rows bs o os other same fs i))
