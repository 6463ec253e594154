-- Items that a test chooses, and whether one of the atoms of a list has the key that a variable holds.
use Rattle.std.proofs.Common.{◌≡◌, ℕ, List, [], ◌∷◌, ◌++◌, refl, ap, sym, ◌∙◌, map, flat_map}
use Rattle.std.specs.Prelude.{Bool, true, false, ◌||◌, None, Some, Ok, codes}
use Rattle.std.specs.List.{list_any}
use Rattle.xt_names.specs.declared.names.ExprName.{ExprName}
use Rattle.xt_atoms.specs.Casts.{wrong_type}
use Rattle.xt_atoms.specs.declared.atoms.Atom.{Atom as AtomValue}
use Rattle.xdm_items.specs.Values.{atomized}
use Rattle.xdm_items.specs.declared.items.Item.{Item}
use Rattle.xdm_items.specs.declared.items.Item.TheVariants.{Atom}
use Rattle.xt_syntax.specs.declared.exprs.Expr.{Expr}
use Rattle.xt_syntax.specs.declared.exprs.Clause.TheOpen.{Quant}
use Rattle.xt_syntax.specs.declared.exprs.Clause.TheViews.{roll-Bind}
use Rattle.xdm_items.specs.FunctionArguments.Answers.{of_truth}
use Rattle.function_table.specs.Find.{found, found_in, is_in_fn}
use Rattle.function_table.specs.Table.{joined}
use Rattle.function_table.specs.declared.builtins.Builtin.TheVariants as function
use Rattle.fn_lib.specs.Functions.{function_value, value_of}
use Rattle.item_functions.specs.OnSequences.{deep_equal_of}
use Rattle.item_functions.specs.NodeFunctions.Deep.{deep_equal}
use Rattle.order_group.specs.Rows.{Keyed, in_order}
use Rattle.order_group.proofs.Natural.{no_column, no_keys}
use Rattle.xdm_items.specs.Truth.{truth_of, truth_of_atom}
use Rattle.expr_meaning.specs.Outcomes.Outcome.{Outcome, Ends, Fails, Deep, and_then, step_outcome, for_each}
use Rattle.expr_meaning.proofs.OutcomesLemmas.Steps.{then_assoc, then_same, each_map, each_made, made}
use Rattle.std.proofs.lemmas.Grind.{flat_map-append}
use Rattle.expr_meaning.specs.SortMeaning.Sorted.{Placed, places, ordered, unless_mixed}
use Rattle.expr_meaning.specs.Calls.{called, library}
use Rattle.expr_meaning.specs.Env.{Binding, Env, Meaning, Program, bind_all, look_up}
use Rattle.expr_meaning.specs.Flow.{finished, for_at_clause, kept_tuple, keyed}
use Rattle.expr_meaning.specs.Logic.{item_decides, quantified, quantifier_of, truth_at, unless}
use Rattle.expr_meaning.specs.Meaning.{outcome}
use Rattle.expr_laws.proofs.Rolled.{rolled_bind}
use Rattle.expr_laws.proofs.Texts.{BindForm}
use Rattle.carried_exprs.specs.Sights.{variable_of, value_name}
use Rattle.query_helpers.proofs.Gives.{Tells, mean, gives_variable, gives_call_of_two, tells_truth}
use Rattle.translated_forms.specs.Converted.{data_of}
use Rattle.translated_forms.specs.Forms.{some_in, same_key}
use Rattle.translated_forms.specs.Groups.{has_key}
use Rattle.translated_forms.specs.Names.{atom_name}
use Rattle.lockstep_loops.proofs.FlowGives.{flow_from, turn}
use Rattle.lockstep_loops.proofs.SortKeys.{call_one}
use Rattle.xt_names.specs.ExprNames.{library_name}

-- what a list is of which some elements are left out
abbrev pub kept_only : {A : Type 0} → Bool → A → List A
kept_only true x = x ∷ []
kept_only false x = []

-- a list that is made of each element of an outcome's list
flat_more : {B C : Type 0} (g : B → List C) (ys : List B) (o : Outcome (List B)) →
    and_then (and_then o (λ zs i. Ends (ys ++ zs) i)) (λ us i. Ends (flat_map g us) i)
    ≡ and_then (and_then o (λ us i. Ends (flat_map g us) i)) (λ zs i. Ends (flat_map g ys ++ zs) i)
flat_more g ys (Ends zs i) = ap (λ l. Ends l i) (flat_map-append g ys zs)
flat_more g ys (Fails code) = refl
flat_more g ys Deep = refl

pub each_flat : {A B C : Type 0} (f : A → ℕ → Outcome (List B)) (g : B → List C) (xs : List A)
    (k : ℕ) →
    and_then (for_each f xs k) (λ ys j. Ends (flat_map g ys) j)
    ≡ for_each (λ x j. and_then (f x j) (λ ys i. Ends (flat_map g ys) i)) xs k
each_flat f g [] k = refl
each_flat f g (x ∷ xs) k =
    then_assoc (f x k) _ _
    ∙ then_same (f x k) _ _ (λ ys j.
    flat_more g ys (for_each f xs j)
    ∙ ap (λ o. and_then o (λ zs i. Ends (flat_map g ys ++ zs) i)) (each_flat f g xs j))
    ∙ sym (then_assoc (f x k) _ _)

-- .. where the elements give lists that use up no number
flat_ends : {A B : Type 0} (f : A → ℕ → Outcome (List B)) (g : A → List B) →
    ((x : A) (k : ℕ) → f x k ≡ Ends (g x) k) → (xs : List A) (k : ℕ) →
    for_each f xs k ≡ Ends (flat_map g xs) k
flat_ends f g h [] k = refl
flat_ends f g h (x ∷ xs) k = rw (h x k, flat_ends f g h xs k) refl

-- `for $v at $place in a where test return body`, where the body gives a list
abbrev bare : List Binding → Keyed (List Binding)
bare b = record { cells = []; value = b }

rows_kept : {A : Type 0} (o : Outcome Bool) (env : Env) (g : A → List Binding) (x : A) →
    and_then o (kept_tuple (keyed []) (g x) env)
    ≡ and_then (and_then o (λ b j. Ends (kept_only b x) j)) (made (λ y. bare (g y)))
rows_kept (Ends true j) env g x = refl
rows_kept (Ends false j) env g x = refl
rows_kept (Fails code) env g x = refl
rows_kept Deep env g x = refl

in_no_order : (rows : List (Keyed (List Binding))) (k : ℕ) →
    ordered wrong_type [] rows k ≡ Ends (map (λ row. row.value) rows) k
in_no_order rows k =
    ap (λ c. unless_mixed c wrong_type (in_order [] rows) k) (no_column (map (λ row. row.cells) rows))
    ∙ ap (λ l. Ends l k) (no_keys rows)

pub at_where : (v at : ExprName) (a test : Meaning) (body : Meaning) (g : Placed Item → List Item)
    (bound : List Binding) (env : Env) →
    ((p : Placed Item) (k : ℕ) → body (bind_all (turn v at bound p) env) k ≡ Ends (g p) k) → (k : ℕ) →
    flow_from (for_at_clause (record { var = v; kind = None; source = a }) at ∷ []) (Some test) [] body
    bound env k
    ≡ and_then (a (bind_all bound env) k) (λ xs j. and_then (step_outcome (places xs) j)
    (for_each (λ p i. and_then (truth_at test (bind_all (turn v at bound p) env) i)
    (λ b l. Ends (flat_map g (kept_only b p)) l))))
at_where v at a test body g bound env h k =
    then_assoc (a (bind_all bound env) k) _ _
    ∙ then_same (a (bind_all bound env) k) _ _ (λ xs j.
    then_assoc (step_outcome (places xs) j) _ _
    ∙ then_same (step_outcome (places xs) j) _ _ (λ fs i.
    ap (λ o. and_then o (finished [] body env))
    (each_made (λ p. bare (turn v at bound p)) rows chosen
    (λ p l. rows_kept (truth_at test (bind_all (turn v at bound p) env) l) env (turn v at bound) p) fs i)
    ∙ then_assoc (for_each chosen fs i) _ _
    ∙ then_same (for_each chosen fs i) _ _ (λ ps l.
    ap (λ o. and_then o (for_each (λ b. body (bind_all b env))))
    (in_no_order (map (λ p. bare (turn v at bound p)) ps) l)
    ∙ each_map (λ b. body (bind_all b env)) (λ row. row.value)
    (map (λ p. bare (turn v at bound p)) ps) l
    ∙ each_map (λ row. body (bind_all row.value env)) (λ p. bare (turn v at bound p)) ps l
    ∙ flat_ends (λ p. body (bind_all (turn v at bound p) env)) g h ps l)
    ∙ each_flat chosen g fs i
    ∙ (λ m. for_each (λ p l. then_assoc (truth_at test (bind_all (turn v at bound p) env) l)
    (λ b n. Ends (kept_only b p) n) (λ ps n. Ends (flat_map g ps) n) m) fs i)))
  where
    rows : Placed Item → ℕ → Outcome (List (Keyed (List Binding)))
    rows p i =
        and_then (truth_at test (bind_all (turn v at bound p) env) i)
        (kept_tuple (keyed []) (turn v at bound p) env)

    chosen : Placed Item → ℕ → Outcome (List (Placed Item))
    chosen p i =
        and_then (truth_at test (bind_all (turn v at bound p) env) i) (λ b l. Ends (kept_only b p) l)

-- whether an item is the same key
abbrev pub is_key : AtomValue → Item → Bool
is_key a x = deep_equal (x ∷ []) (Atom a ∷ [])

module _ (q : Program) where
  -- the atoms of a list
  data_called : called (library_name (codes "data")) 1 ≡ library function.Data
  unfolding called found found_in joined is_in_fn
  data_called = refl

  pub data_gives : (e : Expr) (f : Env) (k : ℕ) → outcome q (data_of e) f k
      ≡ and_then (outcome q e f k) (λ xs j. Ends (atomized xs) j)
  unfolding function_value value_of
  data_gives e f k = call_one q (library_name (codes "data")) function.Data e f k data_called

  -- whether one has the property
  some_of : (v : ExprName) (source : Meaning) (b : Expr) (env : Env) (t : Item → Bool) →
      ((x : Item) → Tells q b (bind_all ((v, x ∷ []) ∷ []) env) (t x)) → (xs : List Item) (k : ℕ) →
      item_decides true (record { var = v; kind = None; source = source })
      (quantified true [] (outcome q b)) env xs k
      ≡ Ends (list_any t xs) k
  some_of v source b env t h [] k = refl
  some_of v source b env t h (x ∷ xs) k = rw (h x k) (by (t x) (some_of v source b env t h xs))
    where
      by : (c : Bool) → ((j : ℕ) → item_decides true (record { var = v; kind = None; source = source })
          (quantified true [] (outcome q b)) env xs j ≡ Ends (list_any t xs) j) →
          unless true (item_decides true (record { var = v; kind = None; source = source })
          (quantified true [] (outcome q b)) env xs) c k ≡ Ends (c || list_any t xs) k
      by true g = refl
      by false g = g k

  truth_again : (o : Outcome Bool) →
      and_then (and_then o (λ t j. Ends (of_truth t) j)) (λ xs j. step_outcome (truth_of xs) j) ≡ o
  unfolding truth_of truth_of_atom
  truth_again (Ends true j) = refl
  truth_again (Ends false j) = refl
  truth_again (Fails code) = refl
  truth_again Deep = refl

  pub some_tells : (v : ExprName) (a b : Expr) (env : Env) (t : Item → Bool) →
      ((x : Item) → Tells q b (bind_all ((v, x ∷ []) ∷ []) env) (t x)) → (k : ℕ) →
      truth_at (outcome q (some_in v a b)) env k
      ≡ and_then (outcome q a env k) (λ xs j. Ends (list_any t xs) j)
  some_tells v a b env t h k =
      let bound : BindForm = record { var = v; kind = None; source = a } in
      ap (λ o. and_then o (λ xs j. step_outcome (truth_of xs) j))
      (mean q (Quant false (roll-Bind bound ∷ []) b) env k
      ∙ ap (λ c. quantifier_of false (c ∷ []) (outcome q b) env k) (rolled_bind q bound))
      ∙ truth_again (quantified true (record { var = v; kind = None; source = outcome q a } ∷ [])
      (outcome q b) env k)
      ∙ then_same (outcome q a env k) _ _ (λ xs j. some_of v (outcome q a) b env t h xs j)

  -- whether an atom is the same key as that of the group
  deep_called : called (library_name (codes "deep-equal")) 2 ≡ library function.DeepEqual
  unfolding called found found_in joined is_in_fn
  deep_called = refl

  deep_value : (xs ys : List Item) →
      function_value function.DeepEqual (xs ∷ ys ∷ []) ≡ Ok (of_truth (deep_equal xs ys))
  unfolding function_value value_of deep_equal_of
  deep_value xs ys = refl

  key_told : (f : Env) (a : AtomValue) → look_up f.locals value_name ≡ Some (Atom a ∷ []) → (x : Item) →
      Tells q (same_key atom_name value_name) (bind_all ((atom_name, x ∷ []) ∷ []) f) (is_key a x)
  unfolding look_up
  key_told f a h x =
      let env = bind_all ((atom_name, x ∷ []) ∷ []) f in
      tells_truth q (same_key atom_name value_name) env (is_key a x)
      (gives_call_of_two q (library_name (codes "deep-equal")) function.DeepEqual
      (variable_of atom_name) (variable_of value_name) env (x ∷ []) (Atom a ∷ []) (of_truth (is_key a x))
      deep_called (gives_variable q atom_name env (x ∷ []) refl)
      (gives_variable q value_name env (Atom a ∷ []) h) (deep_value (x ∷ []) (Atom a ∷ [])))

  pub has_key_tells : (key : Expr) (f : Env) (a : AtomValue) →
      look_up f.locals value_name ≡ Some (Atom a ∷ []) → (k : ℕ) →
      truth_at (outcome q (has_key key)) f k
      ≡ and_then (outcome q key f k) (λ xs j. Ends (list_any (is_key a) (atomized xs)) j)
  has_key_tells key f a h k =
      some_tells atom_name (data_of key) (same_key atom_name value_name) f (is_key a) (key_told f a h) k
      ∙ ap (λ o. and_then o (λ xs j. Ends (list_any (is_key a) xs) j)) (data_gives key f k)
      ∙ then_assoc (outcome q key f k) _ _
