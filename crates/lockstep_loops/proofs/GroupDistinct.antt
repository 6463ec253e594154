-- The rows of grouping keys, and the different keys of a population as the query finds them.
use Rattle.std.proofs.Common.{◌≡◌, ℕ, suc, List, [], ◌∷◌, refl, ap, sym, ◌∙◌, map, subst}
use Rattle.std.proofs.lemmas.List.{append-nil}
use Rattle.std.specs.Prelude.{Some, codes}
use Rattle.xt_atoms.specs.Casts.{wrong_type}
use Rattle.xdm_items.specs.Values.{atomized}
use Rattle.xdm_items.specs.declared.items.Item.{Item}
use Rattle.xt_syntax.specs.declared.exprs.Expr.{Expr}
use Rattle.order_group.specs.Groups.{atoms_of}
use Rattle.function_table.specs.Find.{found, found_in, is_in_fn}
use Rattle.function_table.specs.Table.{joined}
use Rattle.function_table.specs.declared.builtins.Builtin.TheVariants as function
use Rattle.fn_lib.specs.Functions.{function_value}
use Rattle.expr_meaning.specs.Outcomes.Outcome.{Outcome, Ends, and_then, step_outcome, for_each, Every}
use Rattle.expr_meaning.proofs.OutcomesLemmas.Steps.{then_assoc, then_same}
use Rattle.expr_meaning.specs.SortMeaning.Sorted.{Placed, places, placed_from, visit}
use Rattle.expr_meaning.proofs.SortMeaning.Sorting.{visit_plain}
use Rattle.expr_meaning.specs.Calls.{called, library}
use Rattle.expr_meaning.specs.Env.{Env, Meaning, Program, look_up}
use Rattle.expr_meaning.specs.Meaning.{outcome}
use Rattle.carried_exprs.specs.Sights.{library_call}
use Rattle.query_helpers.proofs.Gives.{gives_variable}
use Rattle.translated_forms.specs.Converted.{data_of}
use Rattle.translated_forms.specs.Forms.{flow}
use Rattle.translated_forms.specs.Loops.{in_turn, the_items, ordered}
use Rattle.translated_forms.specs.Names.{items_name}
use Rattle.lockstep_loops.proofs.LoopForms.{turn_env, short_loop}
use Rattle.lockstep_loops.proofs.SortKeys.{call_one}
use Rattle.lockstep_loops.proofs.Chosen.{data_gives, each_flat}
use Rattle.lockstep_loops.proofs.GroupRows.{RowsOf, SameLong}
use Rattle.lockstep_loops.proofs.GroupKeys.{IsAtom, atoms_alone}
use Rattle.lockstep_loops.proofs.GroupKeys.{flat}
use Rattle.xt_names.specs.ExprNames.{library_name}

pub both_every : {A : Type 0} (P Q : A → Type 0) (xs : List A) → Every P xs → Every Q xs →
    Every (λ x. P x × Q x) xs
both_every P Q [] h g = tt
both_every P Q (x ∷ xs) h g = ((h.0, g.0), both_every P Q xs h.1 g.1)

-- rows of keys
pub rows_long : (key : Meaning) (e : Env) (i n : ℕ) (xs : List Item) (rows : List (List Item)) →
    RowsOf key e (placed_from i n xs) rows → SameLong xs (map atoms_of rows)
rows_long key e i n [] [] h = tt
rows_long key e i n [] (row ∷ rows) h = absurd h
rows_long key e i n (x ∷ xs) [] h = absurd h
rows_long key e i n (x ∷ xs) (row ∷ rows) h = rows_long key e (suc i) n xs rows h.1

pub rows_atoms : (key : Meaning) (e : Env) (fs : List (Placed Item)) (rows : List (List Item)) →
    RowsOf key e fs rows → Every (Every IsAtom) rows
rows_atoms key e [] [] h = tt
rows_atoms key e [] (row ∷ rows) h = absurd h
rows_atoms key e (f ∷ fs) [] h = absurd h
rows_atoms key e (f ∷ fs) (row ∷ rows) h =
    (subst (Every IsAtom) (sym h.0.2) (atoms_alone h.0.0), rows_atoms key e fs rows h.1)

module _ (q : Program) (inner_key : Expr) (f : Env) where
  distinct_called : called (library_name (codes "distinct-values")) 1 ≡ library function.DistinctValues
  unfolding called found found_in joined is_in_fn
  distinct_called = refl

  -- the keys of an item, as a row
  abbrev pub query_row : Placed Item → ℕ → Outcome (List (List Item))
  query_row p k = and_then (outcome q inner_key (turn_env f p) k) (λ ys j. Ends (atomized ys ∷ []) j)

  row_flat : (p : Placed Item) (k : ℕ) → outcome q (data_of inner_key) (turn_env f p) k
      ≡ and_then (query_row p k) (λ rows j. Ends (flat rows) j)
  row_flat p k =
      data_gives q inner_key (turn_env f p) k
      ∙ sym (then_assoc (outcome q inner_key (turn_env f p) k) _ _
      ∙ then_same (outcome q inner_key (turn_env f p) k) _ _
      (λ ys j. ap (λ zs. Ends zs j) (append-nil (atomized ys))))

  pub distinct_does : (xs : List Item) → look_up f.locals items_name ≡ Some xs → (k : ℕ) →
      outcome q (library_call (codes "distinct-values") (flow (in_turn the_items ∷ []) (data_of inner_key) ∷ [])) f k
      ≡ and_then (step_outcome (places xs) k) (λ fs j. and_then (for_each query_row fs j)
      (λ rows i. step_outcome (function_value function.DistinctValues (flat rows ∷ [])) i))
  unfolding ordered
  distinct_does xs held k =
      call_one q (library_name (codes "distinct-values")) function.DistinctValues
      (flow (in_turn the_items ∷ []) (data_of inner_key)) f k distinct_called
      ∙ ap (λ o. and_then o (λ zs j. step_outcome (function_value function.DistinctValues (zs ∷ [])) j))
      (short_loop q the_items [] (data_of inner_key) f k
      ∙ ap (λ o. and_then o (visit wrong_type [] (λ p. outcome q (data_of inner_key) (turn_env f p))))
      (gives_variable q items_name f xs held k)
      ∙ visit_plain wrong_type (λ p. outcome q (data_of inner_key) (turn_env f p)) xs k
      ∙ then_same (step_outcome (places xs) k) _ _ (λ fs j.
      (λ i. for_each (λ p l. row_flat p l i) fs j) ∙ sym (each_flat query_row (λ row. row) fs j)))
      ∙ then_assoc (step_outcome (places xs) k) _ _
      ∙ then_same (step_outcome (places xs) k) _ _ (λ fs j. then_assoc (for_each query_row fs j) _ _)
