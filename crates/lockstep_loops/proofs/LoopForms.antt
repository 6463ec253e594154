-- What the loops of a query do: each is a visit of its items.
use Rattle.std.proofs.Common.{◌≡◌, ◌^◌, ℕ, List, [], ◌∷◌, length, refl, ap, sym, ◌∙◌, map}
use Rattle.std.proofs.lemmas.List.{length-map}
use Rattle.std.specs.Prelude.{Bool, true, false, None, Some, Ok, Err, nat_lt, codes, pos}
use Rattle.std.specs.Prelude.{if◌then◌else◌}
use Rattle.xt_names.specs.declared.codes.Code.TheVariants.{Dynamic}
use Rattle.xt_names.specs.declared.codes.DynamicCode.TheVariants.{FOAR0002}
use Rattle.xt_names.specs.declared.names.ExprName.{ExprName}
use Rattle.xt_atoms.specs.Casts.{wrong_type}
use Rattle.xdm_items.specs.declared.items.Item.{Item}
use Rattle.xt_syntax.specs.declared.exprs.Expr.{Expr}
use Rattle.xt_syntax.specs.declared.exprs.Order.{Order}
use Rattle.xt_syntax.specs.declared.exprs.Clause.{Clause}
use Rattle.xt_syntax.specs.declared.exprs.Clause.TheViews.{roll-Flwor, roll-Bind}
use Rattle.xt_syntax.specs.declared.exprs.Clause.TheOpen.{Call, Flwor, For, Let}
use Rattle.xt_syntax.specs.Layers.{clause_gives, order_gives}
use Rattle.function_table.specs.Find.{found, found_in, is_in_fn}
use Rattle.function_table.specs.Table.{joined}
use Rattle.function_table.specs.declared.builtins.Builtin.TheVariants as function
use Rattle.xdm_items.specs.FunctionArguments.Answers.{of_integer}
use Rattle.fn_lib.specs.Functions.{function_value, value_of}
use Rattle.item_functions.specs.OnSequences.{count_of as count_value}
use Rattle.item_functions.specs.Outcomes.{as_integer}
use Rattle.item_functions.specs.SequenceFunctions.Cardinality.{counted}
use Rattle.expr_meaning.specs.Outcomes.Outcome.{Outcome, Ends, and_then, step_outcome, for_each}
use Rattle.expr_meaning.proofs.OutcomesLemmas.Steps.{then_assoc, then_same, then_known, each_one}
use Rattle.expr_meaning.specs.SortMeaning.Sorted.{Column, Placed, places, placed, values, sorted, visit}
use Rattle.expr_meaning.proofs.SortMeaning.Sorting.{sorted_plain, sorted_long, placed_long, visit_plain}
use Rattle.expr_meaning.specs.Env.{Binding, Env, Meaning, Program, bind_all, look_up}
use Rattle.expr_meaning.specs.Calls.{called, library}
use Rattle.expr_meaning.specs.Flow.{ClauseMeaning, OrderMeaning, columns_at}
use Rattle.expr_meaning.specs.Flow.{for_at_clause as at_meaning, let_clause as let_meaning}
use Rattle.expr_meaning.specs.Meaning.{meanings, steps, outcome}
use Rattle.expr_laws.proofs.Rolled.{rolled_bind, rolled_flwor, rolled_clause}
use Rattle.expr_laws.proofs.Texts.{BindForm, FlworForm}
use Rattle.carried_exprs.specs.Sights.{item_name, position_name, size_name, variable_of, the_item}
use Rattle.query_helpers.proofs.Gives.{Gives, mean, gives_variable}
use Rattle.translated_forms.specs.Names.{items_name}
use Rattle.translated_forms.specs.Forms.{let_clause, for_at_clause, flow, flow_of, flow_ordered, count_of}
use Rattle.translated_forms.specs.Loops.{in_turn, ordered, the_items, items_let, size_let}
use Rattle.lockstep_loops.proofs.FlowGives.{flow_from, turn, let_first, at_last}
use Rattle.xt_names.specs.ExprNames.{library_name}

-- an item of a loop, at its place
abbrev pub turn_env : Env → Placed Item → Env
turn_env f p = bind_all (turn item_name position_name [] p) f

few_still : (m : ℕ) (n : ℕ) → m ≡ n → nat_lt n (2 ^ 63) ≡ true → nat_lt m (2 ^ 63) ≡ true
few_still m n e h = ap (λ l. nat_lt l (2 ^ 63)) e ∙ h

-- items in the order of the keys that they have at their places
abbrev pub in_query_order : List (Column (Placed Item)) → List Item → ℕ → Outcome (List Item)
in_query_order cs xs k =
    and_then (step_outcome (places xs) k) (λ fs j. and_then (sorted wrong_type cs fs j)
    (λ gs i. Ends (values gs) i))

-- what is put into order and then visited is visited in order
pub in_order_visited : (cs : List (Column (Placed Item))) (body : Placed Item → ℕ → Outcome (List Item))
    (xs : List Item) (k : ℕ) →
    and_then (in_query_order cs xs k) (λ ys j. and_then (step_outcome (places ys) j) (for_each body))
    ≡ visit wrong_type cs body xs k
in_order_visited cs body xs k =
    then_assoc (step_outcome (places xs) k) _ _
    ∙ by (nat_lt (length xs) (2 ^ 63)) refl
    ∙ sym (then_assoc (step_outcome (places xs) k) _ (for_each body))
  where
    by : (b : Bool) → nat_lt (length xs) (2 ^ 63) ≡ b →
        and_then (step_outcome (if b then Ok (placed xs) else Err (Dynamic FOAR0002)) k) (λ fs j.
        and_then (and_then (sorted wrong_type cs fs j) (λ gs i. Ends (values gs) i))
        (λ ys i. and_then (step_outcome (places ys) i) (for_each body)))
        ≡ and_then (step_outcome (if b then Ok (placed xs) else Err (Dynamic FOAR0002)) k) (λ fs j.
        and_then (and_then (sorted wrong_type cs fs j) (λ gs i. Ends (placed (values gs)) i))
        (for_each body))
    by false e = refl
    by true e =
        let s = sorted wrong_type cs (placed xs) k in
        then_assoc s _ _
        ∙ then_known (λ gs. length gs ≡ length (placed xs)) s _ _ (sorted_long wrong_type cs (placed xs) k)
        (λ gs i g. ap (λ b. and_then (step_outcome
        (if b then Ok (placed (values gs)) else Err (Dynamic FOAR0002)) i) (for_each body))
        (few_still (length (values gs)) (length xs) (length-map gs (λ f. f.value) ∙ g
        ∙ placed_long 1 (length xs) xs) e))
        ∙ sym (then_assoc s _ _)

each_same : {A B : Type 0} (f g : A → ℕ → Outcome (List B)) →
    ((x : A) (k : ℕ) → f x k ≡ g x k) → (xs : List A) (k : ℕ) → for_each f xs k ≡ for_each g xs k
each_same f g h xs k = λ i. for_each (λ x j. h x j i) xs k

-- a visit counts its items, so they may be counted before
counted_visit : (cs : List Item → List (Column (Placed Item)))
    (body : List Item → Placed Item → ℕ → Outcome (List Item)) (xs : List Item) (k : ℕ) →
    and_then (step_outcome (count_value xs) k) (λ ns. visit wrong_type (cs ns) (body ns) xs)
    ≡ visit wrong_type (cs (of_integer (pos (length xs)))) (body (of_integer (pos (length xs)))) xs k
unfolding count_value counted
counted_visit cs body xs k = by (nat_lt (length xs) (2 ^ 63))
  where
    by : (b : Bool) → and_then (step_outcome
        (as_integer (if b then Ok (pos (length xs)) else Err (Dynamic FOAR0002))) k)
        (λ ns j. and_then (and_then (step_outcome
        (if b then Ok (placed xs) else Err (Dynamic FOAR0002)) j) (λ fs i. and_then
        (sorted wrong_type (cs ns) fs i) (λ gs h. Ends (placed (values gs)) h))) (for_each (body ns)))
        ≡ and_then (and_then (step_outcome
        (if b then Ok (placed xs) else Err (Dynamic FOAR0002)) k) (λ fs i. and_then
        (sorted wrong_type (cs (of_integer (pos (length xs)))) fs i)
        (λ gs h. Ends (placed (values gs)) h))) (for_each (body (of_integer (pos (length xs)))))
    by true = refl
    by false = refl

counted_order : (cs : List Item → List (Column (Placed Item))) (xs : List Item) (k : ℕ) →
    and_then (step_outcome (count_value xs) k) (λ ns. in_query_order (cs ns) xs)
    ≡ in_query_order (cs (of_integer (pos (length xs)))) xs k
unfolding count_value counted
counted_order cs xs k = by (nat_lt (length xs) (2 ^ 63))
  where
    by : (b : Bool) → and_then (step_outcome
        (as_integer (if b then Ok (pos (length xs)) else Err (Dynamic FOAR0002))) k)
        (λ ns j. and_then (step_outcome
        (if b then Ok (placed xs) else Err (Dynamic FOAR0002)) j) (λ fs i. and_then
        (sorted wrong_type (cs ns) fs i) (λ gs h. Ends (values gs) h)))
        ≡ and_then (step_outcome
        (if b then Ok (placed xs) else Err (Dynamic FOAR0002)) k) (λ fs i. and_then
        (sorted wrong_type (cs (of_integer (pos (length xs)))) fs i)
        (λ gs h. Ends (values gs) h))
    by true = refl
    by false = refl

module _ (q : Program) where
  -- a flow does what its clauses do
  pub flow_does : (clauses : List Clause) (orders : List Order) (stable : Bool) (body : Expr)
      (f : Env) (k : ℕ) → outcome q (flow_of clauses None orders stable body) f k
      ≡ flow_from (map (clause_gives meanings (steps q)) clauses) None
      (map (order_gives meanings (steps q)) orders) (outcome q body) [] f k
  flow_does clauses orders stable body f k =
      let form : FlworForm = record {
        clauses = clauses;
        test = None;
        orders = orders;
        stable = stable;
        body = body;
      } in
      mean q (Flwor (roll-Flwor form)) f k ∙ ap (λ (m : Meaning). m f k) (rolled_flwor q form)

  pub let_gives : (v : ExprName) (e : Expr) → clause_gives meanings (steps q) (let_clause v e)
      ≡ let_meaning (record { var = v; kind = None; source = outcome q e })
  let_gives v e =
      let form : BindForm = record { var = v; kind = None; source = e } in
      rolled_clause q (Let (roll-Bind form)) ∙ ap (λ b. let_meaning b) (rolled_bind q form)

  pub at_gives : (v at : ExprName) (e : Expr) →
      clause_gives meanings (steps q) (for_at_clause v at e)
      ≡ at_meaning (record { var = v; kind = None; source = outcome q e }) at
  at_gives v at e =
      let form : BindForm = record { var = v; kind = None; source = e } in
      rolled_clause q (For (roll-Bind form) (Some at)) ∙ ap (λ b. at_meaning b at) (rolled_bind q form)

  abbrev pub order_columns : List Order → Env → List (Column (Placed Item))
  order_columns orders f = columns_at (turn_env f) (map (order_gives meanings (steps q)) orders)

  pub item_at_turn : (f : Env) (p : Placed Item) → Gives q the_item (turn_env f p) (p.value ∷ [])
  unfolding look_up
  item_at_turn f p = gives_variable q item_name (turn_env f p) (p.value ∷ []) refl

  -- the items in the order of the keys
  order_behind : (x : Expr) (orders : List Order) (bound : List Binding) (f : Env) (k : ℕ) →
      flow_from (clause_gives meanings (steps q) (in_turn x) ∷ []) None
      (map (order_gives meanings (steps q)) orders) (outcome q the_item) bound f k
      ≡ and_then (outcome q x (bind_all bound f) k) (in_query_order (order_columns orders (bind_all bound f)))
  order_behind x orders bound f k =
      ap (λ c. flow_from (c ∷ []) None (map (order_gives meanings (steps q)) orders)
      (outcome q the_item) bound f k) (at_gives item_name position_name x)
      ∙ at_last item_name position_name (outcome q x) (map (order_gives meanings (steps q)) orders)
      (outcome q the_item) bound f k
      ∙ then_same (outcome q x (bind_all bound f) k) _ _ (λ xs j.
      then_same (step_outcome (places xs) j) _ _ (λ fs i.
      then_same (sorted wrong_type (order_columns orders (bind_all bound f)) fs i) _ _ (λ gs h.
      each_same _ _ (λ p l. item_at_turn (bind_all bound f) p l) gs h
      ∙ each_one (λ p. p.value) gs h)))

  pub ordered_gives : (x : Expr) (orders : List Order) (f : Env) (k : ℕ) →
      outcome q (flow_ordered (in_turn x ∷ []) orders the_item) f k
      ≡ and_then (outcome q x f k) (in_query_order (order_columns orders f))
  ordered_gives x orders f k =
      flow_does (in_turn x ∷ []) orders true the_item f k ∙ order_behind x orders [] f k

  -- .. and then visited
  turns_visit : (x : Expr) (orders : List Order) (f : Env)
      (body : Placed Item → ℕ → Outcome (List Item)) (k : ℕ) →
      and_then (outcome q (ordered x orders) f k)
      (λ ys j. and_then (step_outcome (places ys) j) (for_each body))
      ≡ and_then (outcome q x f k) (visit wrong_type (order_columns orders f) body)
  unfolding ordered
  turns_visit x [] f body k =
      then_same (outcome q x f k) _ _ (λ xs j. sym (visit_plain wrong_type body xs j))
  turns_visit x (o ∷ orders) f body k =
      ap (λ r. and_then r (λ ys j. and_then (step_outcome (places ys) j) (for_each body)))
      (ordered_gives x (o ∷ orders) f k)
      ∙ then_assoc (outcome q x f k) _ _
      ∙ then_same (outcome q x f k) _ _
      (λ xs j. in_order_visited (order_columns (o ∷ orders) f) body xs j)

  -- a `for` after bindings
  for_behind : (x : Expr) (orders : List Order) (body : Expr) (bound : List Binding) (f : Env)
      (k : ℕ) →
      flow_from (clause_gives meanings (steps q) (in_turn (ordered x orders)) ∷ []) None []
      (outcome q body) bound f k
      ≡ and_then (outcome q x (bind_all bound f) k)
      (visit wrong_type (order_columns orders (bind_all bound f))
      (λ p. outcome q body (turn_env (bind_all bound f) p)))
  for_behind x orders body bound f k =
      ap (λ c. flow_from (c ∷ []) None [] (outcome q body) bound f k)
      (at_gives item_name position_name (ordered x orders))
      ∙ at_last item_name position_name (outcome q (ordered x orders)) [] (outcome q body) bound f k
      ∙ then_same (outcome q (ordered x orders) (bind_all bound f) k) _ _ (λ ys j.
      then_same (step_outcome (places ys) j) _ _ (λ fs i.
      ap (λ o. and_then o (for_each (λ p. outcome q body (turn_env (bind_all bound f) p))))
      (sorted_plain wrong_type fs i)))
      ∙ turns_visit x orders (bind_all bound f) (λ p. outcome q body (turn_env (bind_all bound f) p)) k

  -- a loop that does not look at the size
  pub short_loop : (x : Expr) (orders : List Order) (body : Expr) (f : Env) (k : ℕ) →
      outcome q (flow (in_turn (ordered x orders) ∷ []) body) f k
      ≡ and_then (outcome q x f k) (visit wrong_type (order_columns orders f)
      (λ p. outcome q body (turn_env f p)))
  short_loop x orders body f k =
      flow_does (in_turn (ordered x orders) ∷ []) [] false body f k
      ∙ for_behind x orders body [] f k

  -- the number of the items that a variable holds
  count_called : called (library_name (codes "count")) 1 ≡ library function.Count
  unfolding called found found_in joined is_in_fn
  count_called = refl

  pub count_gives : (name : ExprName) (f : Env) (xs : List Item) →
      look_up f.locals name ≡ Some xs → (k : ℕ) →
      outcome q (count_of name) f k ≡ step_outcome (count_value xs) k
  unfolding function_value value_of count_value
  count_gives name f xs h k =
      mean q (Call (library_name (codes "count")) (variable_of name ∷ [])) f k
      ∙ rw (gives_variable q name f xs h k, count_called) refl

  -- `let $items := x let $size := count($items)`
  pub counted_behind : (cs : List ClauseMeaning) (os : List OrderMeaning) (x : Expr) (body : Meaning)
      (f : Env) (k : ℕ) →
      flow_from (clause_gives meanings (steps q) (items_let x)
      ∷ clause_gives meanings (steps q) size_let ∷ cs) None os body [] f k
      ≡ and_then (outcome q x f k) (λ xs j. and_then (step_outcome (count_value xs) j)
      (λ ns. flow_from cs None os body ((size_name, ns) ∷ (items_name, xs) ∷ []) f))
  unfolding look_up
  counted_behind cs os x body f k =
      ap (λ c. flow_from (c ∷ clause_gives meanings (steps q) size_let ∷ cs) None os body [] f k)
      (let_gives items_name x)
      ∙ let_first items_name (outcome q x) (clause_gives meanings (steps q) size_let ∷ cs) None os body []
      f k
      ∙ then_same (outcome q x f k) _ _ (λ xs j.
      ap (λ c. flow_from (c ∷ cs) None os body ((items_name, xs) ∷ []) f j)
      (let_gives size_name (count_of items_name))
      ∙ let_first size_name (outcome q (count_of items_name)) cs None os body
      ((items_name, xs) ∷ []) f j
      ∙ ap (λ o. and_then o (λ ns. flow_from cs None os body
      ((size_name, ns) ∷ (items_name, xs) ∷ []) f))
      (count_gives items_name (bind_all ((items_name, xs) ∷ []) f) xs refl j))

  abbrev pub counted_env : Env → List Item → Env
  counted_env f xs =
      bind_all ((size_name, of_integer (pos (length xs))) ∷ (items_name, xs) ∷ []) f

  items_are : (f : Env) (ns xs : List Item) (k : ℕ) →
      outcome q the_items (bind_all ((size_name, ns) ∷ (items_name, xs) ∷ []) f) k ≡ Ends xs k
  unfolding look_up
  items_are f ns xs k =
      gives_variable q items_name (bind_all ((size_name, ns) ∷ (items_name, xs) ∷ []) f) xs refl k

  -- a loop that looks at the size
  pub long_loop : (x : Expr) (orders : List Order) (body : Expr) (f : Env) (k : ℕ) →
      outcome q (flow (items_let x ∷ size_let ∷ in_turn (ordered the_items orders) ∷ []) body) f k
      ≡ and_then (outcome q x f k) (λ xs. visit wrong_type (order_columns orders (counted_env f xs))
      (λ p. outcome q body (turn_env (counted_env f xs) p)) xs)
  long_loop x orders body f k =
      flow_does (items_let x ∷ size_let ∷ in_turn (ordered the_items orders) ∷ []) [] false body f k
      ∙ counted_behind (clause_gives meanings (steps q) (in_turn (ordered the_items orders)) ∷ []) [] x
      (outcome q body) f k
      ∙ then_same (outcome q x f k) _ _ (λ xs j.
      then_same (step_outcome (count_value xs) j) _ _ (λ ns i.
      for_behind the_items orders body ((size_name, ns) ∷ (items_name, xs) ∷ []) f i
      ∙ ap (λ o. and_then o (visit wrong_type
      (order_columns orders (bind_all ((size_name, ns) ∷ (items_name, xs) ∷ []) f))
      (λ p. outcome q body (turn_env (bind_all ((size_name, ns) ∷ (items_name, xs) ∷ []) f) p))))
      (items_are f ns xs i))
      ∙ counted_visit (λ ns. order_columns orders (bind_all ((size_name, ns) ∷ (items_name, xs) ∷ []) f))
      (λ ns p. outcome q body (turn_env (bind_all ((size_name, ns) ∷ (items_name, xs) ∷ []) f) p)) xs j)

  -- items in order, whose keys look at the size
  pub long_order : (x : Expr) (orders : List Order) (f : Env) (k : ℕ) →
      outcome q (flow_ordered (items_let x ∷ size_let ∷ in_turn the_items ∷ []) orders the_item) f k
      ≡ and_then (outcome q x f k) (λ xs. in_query_order (order_columns orders (counted_env f xs)) xs)
  long_order x orders f k =
      flow_does (items_let x ∷ size_let ∷ in_turn the_items ∷ []) orders true the_item f k
      ∙ counted_behind (clause_gives meanings (steps q) (in_turn the_items) ∷ [])
      (map (order_gives meanings (steps q)) orders) x (outcome q the_item) f k
      ∙ then_same (outcome q x f k) _ _ (λ xs j.
      then_same (step_outcome (count_value xs) j) _ _ (λ ns i.
      order_behind the_items orders ((size_name, ns) ∷ (items_name, xs) ∷ []) f i
      ∙ ap (λ o. and_then o (in_query_order
      (order_columns orders (bind_all ((size_name, ns) ∷ (items_name, xs) ∷ []) f))))
      (items_are f ns xs i))
      ∙ counted_order (λ ns. order_columns orders (bind_all ((size_name, ns) ∷ (items_name, xs) ∷ []) f))
      xs j)
