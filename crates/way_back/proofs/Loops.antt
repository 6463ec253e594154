-- A `for` becomes a loop, in which a variable is the focus, and order keys become sort keys.
use Rattle.std.proofs.Common.{◌≡◌, ℕ, List, [], ◌∷◌, refl, sym, ap, ◌∙◌, subst, map, length}
use Rattle.std.proofs.lemmas.Simd.{map-map}
use Rattle.std.specs.Prelude.{ℤ, pos, Bool, true, false, Some, None}
use Rattle.std.specs.Prelude.{suc}
use Rattle.xt_names.specs.Classes.{is_xml_text}
use Rattle.xt_names.specs.declared.names.ExprName.{ExprName}
use Rattle.xt_atoms.specs.Casts.{wrong_type}
use Rattle.xt_atoms.specs.declared.atoms.Atom.TheVariants as atom
use Rattle.xdm_items.specs.declared.items.Item.{Item}
use Rattle.xdm_items.specs.declared.items.Item.TheVariants.{Atom}
use Rattle.xdm_items.specs.FunctionArguments.Answers.{of_integer}
use Rattle.xt_syntax.specs.declared.exprs.Expr.{Expr}
use Rattle.xt_syntax.specs.declared.exprs.Bind.{Bind}
use Rattle.xt_syntax.specs.declared.exprs.Order.{Order}
use Rattle.xt_syntax.specs.declared.exprs.Clause.{Clause}
use Rattle.xt_syntax.specs.declared.exprs.Clause.TheOpen.{Context, For, Flwor}
use Rattle.xt_syntax.specs.declared.exprs.Clause.TheViews.{out-Bind, out-Order, roll-out-Order, roll-Bind}
use Rattle.xt_syntax.specs.declared.exprs.Clause.TheViews.{roll-Flwor, roll-Clause}
use Rattle.xt_syntax.specs.Layers.{bind_gives, order_gives}
use Rattle.xt_sheets.specs.declared.sheets.Sheet.{Sheet}
use Rattle.xt_sheets.specs.declared.instrs.Instr.TheOpen.{ForEach}
use Rattle.expr_meaning.specs.Outcomes.Outcome.{Outcome, Ends, and_then, Every, Anything, step_outcome, for_each}
use Rattle.expr_meaning.specs.Outcomes.Follow.{any_code}
use Rattle.expr_meaning.proofs.OutcomesLemmas.Relations.{every_append, step_carried}
use Rattle.expr_meaning.proofs.OutcomesLemmas.Steps.{then_assoc, each_map, made}
use Rattle.order_group.specs.Rows.{Cell}
use Rattle.expr_meaning.specs.SortMeaning.Related.{ColumnsRelate}
use Rattle.expr_meaning.specs.SortMeaning.Sorted.{Column, Placed, places, placed, placed_from, values, visit, sorted}
use Rattle.expr_meaning.specs.SortMeaning.Sorted.{all_moved, ordered, with_row, directions, key_cell}
use Rattle.expr_meaning.proofs.SortMeaning.Carried.{sorted_carried, every_places}
use Rattle.expr_meaning.proofs.SortMeaning.Sorting.{sorted_moved}
use Rattle.expr_meaning.specs.Env.{Binding, Env, Meaning, Program, bind_all, bind, look_up}
use Rattle.expr_meaning.specs.Flow.{for_at_clause, keyed, finished, columns_at}
use Rattle.expr_meaning.specs.Flow.{order_column, OrderMeaning}
use Rattle.expr_meaning.specs.Meaning.{meanings, steps, outcome}
use Rattle.expr_laws.specs.Carrier.{IsKept}
use Rattle.expr_laws.proofs.Rolled.{rolled_flwor, rolled_clause, rolled_bind, rolled_order}
use Rattle.transform_meaning.specs.Dispatch.{Doors}
use Rattle.transform_meaning.specs.Instrs.{meanings as instr_meanings, steps as instr_steps}
use Rattle.transform_meaning.specs.Instrs.{body_does, sorts_mean}
use Rattle.transform_meaning.specs.Places.{at_item, in_turn}
use Rattle.transform_meaning.specs.Sorting.{mixed, sort_cell, sort_columns}
use Rattle.transform_laws.proofs.Rolled.{TheInstr, InstrForm, instr_rolled}
use Rattle.way_back.specs.Same.{same}
use Rattle.way_back.specs.Leaves.{is_leaf_at, is_missing, has_local}
use Rattle.way_back.specs.Forms.{variable, dot, for_dot, sort_of, loop_instr, counter, orders_fit}
use Rattle.way_back.specs.Places.{IsSame, ProgramsSame, OnSome}
use Rattle.way_back.proofs.Bodies.{Meets, one_body}
use Rattle.way_back.proofs.Choices.{leaf_meets, mean}
use Rattle.way_back.proofs.Flows.{bind_is, untyped, one_tuple, Does, variable_is}
use Rattle.way_back.proofs.Places.{bound_same, counted_same}
use Rattle.way_back.proofs.Same.{same_carries}
use Rattle.xt_names.proofs.BoolLemmas.{and_first as first, and_second as second}

-- `.` at an item
pub dot_is : (p : Program) (e : Env) (t : Placed Item) (k : ℕ) → e.focus ≡ Some t →
    outcome p dot e k ≡ Ends (t.value ∷ []) k
dot_is p e t k is = rw (mean p Context e k, is) refl

-- `for $v in . return K` is K, with the item in the variable
key_is : (p : Program) (x : ExprName) (key : Expr) (e : Env) (t : Placed Item) (k : ℕ) →
    e.focus ≡ Some t →
    outcome p (for_dot x key) e k ≡ outcome p key (bind x (t.value ∷ []) e) k
key_is p x key e t k is =
    mean p (Flwor (roll-Flwor (record {
      clauses = clause ∷ [];
      test = None;
      orders = [];
      stable = false;
      body = key;
    }))) e k
    ∙ ap (λ (m : Meaning). m e k) (rolled_flwor p (record {
      clauses = clause ∷ [];
      test = None;
      orders = [];
      stable = false;
      body = key;
    }))
    ∙ rw (
      rolled_clause p (For (roll-Bind (record { var = x; kind = None; source = dot })) None),
      rolled_bind p (record { var = x; kind = None; source = dot }),
      dot_is p (bind_all [] e) t k is,
    ) (one_tuple (outcome p key) ((x, t.value ∷ []) ∷ []) e k)
  where
    clause : Clause
    clause = roll-Clause (For (roll-Bind (record { var = x; kind = None; source = dot })) None)

order_is : (q : Program) (o : Order) →
    order_gives meanings (steps q) o ≡ (outcome q (out-Order o).key, (out-Order o).descending)
order_is q o = ap (order_gives meanings (steps q)) (sym (roll-out-Order o)) ∙ rolled_order q (out-Order o)

-- a key of at most one atom, or an error
cell_meets : (xs : List Item) (k : ℕ) →
    same Cell Anything (step_outcome (sort_cell None xs) k) (step_outcome (key_cell wrong_type xs) k)
unfolding sort_cell
cell_meets [] k = (refl, refl, tt)
cell_meets (x ∷ []) k = (refl, refl, tt)
cell_meets (x ∷ y ∷ xs) k = (tt, tt, tt)

module _ (good : Item → Type 0) (keeps : IsKept good) (sheet : Sheet) (doors : Doors) (q : Program)
    (programs : ProgramsSame same good doors.program q) (integers : (n : ℤ) → good (Atom (atom.Int n)))
    (texts : (t : List ℕ) → is_xml_text t ≡ true → good (Atom (atom.Str t))) where
  module _ (s : Bool) (x : ExprName) (own : has_local x ≡ true) (bound : List Binding) (e f : Env)
      (at : IsSame good s e (bind_all bound f)) where
    -- what a tuple of the query has for an item
    abbrev pub tuple : Placed Item → List Binding
    tuple t = (counter, of_integer (pos t.place)) ∷ (x, t.value ∷ []) ∷ bound

    -- wherever the stylesheet has the item
    pub item_same : (d : Env) → d.locals ≡ e.locals → (t u : Placed Item) → t.value ≡ u.value → good u.value →
        IsSame good true (bind x (t.value ∷ []) d) (bind_all (tuple u) f)
    item_same d same_locals t u is g =
        rw is
        (counted_same good true (bind x (u.value ∷ []) d)
        (bind x (u.value ∷ []) (bind_all bound f)) (of_integer (pos u.place))
        (bound_same good true d (bind_all bound f) (record {
          locals = λ name named. ap (λ l. look_up l name) same_locals ∙ at.locals name named;
          known = λ name. subst (λ l. OnSome (Every good) (look_up l name)) (sym same_locals) (at.known name);
          focus = tt;
        }) ((x, u.value ∷ []) ∷ []) ((own, (g, tt)), tt)))

    -- the keys
    pub columns_meet : (orders : List Order) → orders_fit orders true ≡ true →
        ColumnsRelate same (λ t. good t.value)
        (sort_columns (at_item e) (sorts_mean doors.program (map (sort_of x) orders)))
        (all_moved tuple (columns_at (λ b. bind_all b f) (map (order_gives meanings (steps q)) orders)))
    columns_meet [] h = tt
    columns_meet (o ∷ more) h = (
      λ t k g. rw (order_is q o, key_is doors.program x (out-Order o).key (at_item e t) t k refl)
          (same_carries.next _ _ (Every good) Anything _ _ _ _
          (leaf_meets good keeps sheet doors q programs integers texts true (out-Order o).key
          (first (is_leaf_at (out-Order o).key true) (orders_fit more true) h)
          (bind x (t.value ∷ []) (at_item e t)) (bind_all (tuple t) f)
          (item_same (at_item e t) refl t t refl g) k)
          (λ xs j d. cell_meets xs j)),
      sym (ap (λ (m : OrderMeaning). m.1) (order_is q o)),
      columns_meet more (second (is_leaf_at (out-Order o).key true) (orders_fit more true) h),
    )

    module _ (body : List TheInstr) (m : Meaning)
        (h : Meets good keeps true (body_does sheet doors body) m) where
      abbrev turn : Placed Item → ℕ → Outcome (List Item)
      turn t = body_does sheet doors (variable x dot ∷ body) (in_turn e t)

      abbrev bodies : List Binding → ℕ → Outcome (List Item)
      bodies b = m (bind_all b f)

      one_turn : (t u : Placed Item) → t.value ≡ u.value → good u.value → (k : ℕ) →
          same (List Item) (Every good) (turn t k) (bodies (tuple u) k)
      one_turn t u is g k =
          rw (variable_is sheet doors x dot, dot_is doors.program (in_turn e t) t k refl)
          (h (bind x (t.value ∷ []) (in_turn e t)) (bind_all (tuple u) f)
          (item_same (in_turn e t) refl t u is g) k)

      turns : (i n : ℕ) (ts : List (Placed Item)) → Every (λ t. good t.value) ts → (k : ℕ) →
          same (List Item) (Every good) (for_each turn (placed_from i n (values ts)) k)
          (for_each bodies (map tuple ts) k)
      turns i n [] g k = same_carries.ends (List Item) (Every good) [] k tt
      turns i n (t ∷ ts) g k =
          same_carries.next _ _ (Every good) (Every good) _ _ _ _
          (one_turn (record { value = t.value; place = i; size = n }) t refl g.0 k) (λ xs j a.
          same_carries.next _ _ (Every good) (Every good) _ _ _ _ (turns (suc i) n ts g.1 j)
          (λ ys l b. same_carries.ends (List Item) (Every good) _ _ (every_append good xs ys a b)))

      module _ (orders : List Order) (fit : orders_fit orders true ≡ true) where
        abbrev keys : List OrderMeaning
        keys = map (order_gives meanings (steps q)) orders

        abbrev sorts : List (Column (Placed Item))
        sorts = sort_columns (at_item e) (sorts_mean doors.program (map (sort_of x) orders))

        abbrev columns : List (Column (List Binding))
        columns = columns_at (λ b. bind_all b f) keys

        -- the tuples of items, in order, and then the bodies
        rows_are : (ts : List (Placed Item)) (k : ℕ) →
            and_then (for_each (λ t. keyed keys (tuple t) f) ts k) (finished keys m f)
            ≡ and_then (sorted wrong_type (all_moved tuple columns) ts k)
            (λ us i. for_each bodies (map tuple us) i)
        rows_are ts k =
            ap (λ o. and_then o (finished keys m f)) (sym (each_map (with_row columns) tuple ts k))
            ∙ ap (λ ds. and_then (for_each (with_row columns) (map tuple ts) k)
            (λ rows j. and_then (ordered wrong_type ds rows j) (for_each bodies)))
            (sym (map-map (λ c. c.descending) (order_column (λ b. bind_all b f)) keys))
            ∙ sym (then_assoc (for_each (with_row columns) (map tuple ts) k)
            (ordered wrong_type (directions columns)) (for_each bodies))
            ∙ ap (λ o. and_then o (for_each bodies)) (sorted_moved tuple wrong_type columns ts k)
            ∙ then_assoc (sorted wrong_type (all_moved tuple columns) ts k) (made tuple) (for_each bodies)

        all_meet : (xs : List Item) → Every good xs → (k : ℕ) →
            same (List Item) (Every good) (visit mixed sorts turn xs k)
            (and_then (and_then (step_outcome (places xs) k)
            (for_each (λ t. keyed keys (tuple t) f))) (finished keys m f))
        all_meet xs g k =
            subst (λ o. same (List Item) (Every good) o
            (and_then (and_then (step_outcome (places xs) k)
            (for_each (λ t. keyed keys (tuple t) f))) (finished keys m f)))
            (sym (then_assoc (step_outcome (places xs) k) _ (for_each turn)))
            (subst (λ o. same (List Item) (Every good)
            (and_then (step_outcome (places xs) k) (λ ts j. and_then (and_then (sorted mixed sorts ts j)
            (λ us i. Ends (placed (values us)) i)) (for_each turn))) o)
            (sym (then_assoc (step_outcome (places xs) k) (for_each (λ t. keyed keys (tuple t) f))
            (finished keys m f)))
            (same_carries.next _ _ (Every (λ t. good t.value)) (Every good) _ _ _ _
            (places_meet xs g k) (λ ts j all.
            subst (λ o. same (List Item) (Every good) o
            (and_then (for_each (λ t. keyed keys (tuple t) f) ts j) (finished keys m f)))
            (sym (then_assoc (sorted mixed sorts ts j) (λ us i. Ends (placed (values us)) i) (for_each turn)))
            (subst (λ o. same (List Item) (Every good)
            (and_then (sorted mixed sorts ts j) (λ us i. for_each turn (placed (values us)) i)) o)
            (sym (rows_are ts j))
            (same_carries.next _ _ (Every (λ t. good t.value)) (Every good) _ _ _ _
            (sorted_carried any_code same same_carries (λ t. good t.value) mixed wrong_type tt sorts
            (all_moved tuple columns) (columns_meet orders fit) ts all j)
            (λ us i known. turns 1 (length (values us)) us known i))))))
          where
            places_meet : (xs : List Item) → Every good xs → (k : ℕ) →
                same (List (Placed Item)) (Every (λ t. good t.value)) (step_outcome (places xs) k)
                (step_outcome (places xs) k)
            places_meet xs g k =
                step_carried any_code same same_carries _ (places xs) k (every_places good xs k g)

  -- the loop
  pub loop_does : (s : Bool) (b : Bind) → has_local (out-Bind b).var ≡ true →
      is_missing (out-Bind b).kind ≡ true → is_leaf_at (out-Bind b).source s ≡ true →
      (orders : List Order) → orders_fit orders true ≡ true → (body : List TheInstr) (m : Meaning) →
      Meets good keeps true (body_does sheet doors body) m → (bound : List Binding) (e f : Env) →
      IsSame good s e (bind_all bound f) → (k : ℕ) →
      Does good keeps sheet doors q programs integers texts (loop_instr [] (out-Bind b) orders body) e
      (and_then (for_at_clause (bind_gives meanings (steps q) b) counter
      (keyed (map (order_gives meanings (steps q)) orders)) bound f k)
      (finished (map (order_gives meanings (steps q)) orders) m f)) k
  loop_does s b own kind leaf orders fit body m h bound e f at k =
      rw (bind_is q b, untyped (out-Bind b).kind kind)
      (subst (λ o. same (List Item) (Every good)
      (body_does sheet doors (loop_instr [] (out-Bind b) orders body) e k) o)
      (sym (then_assoc (outcome q src (bind_all bound f) k) _ (finished keys m f)))
      (subst (λ o. same (List Item) (Every good) o
      (and_then (outcome q src (bind_all bound f) k) (λ xs j.
      and_then (and_then (step_outcome (places xs) j)
      (for_each (λ t. keyed keys (tuple s x own bound e f at t) f))) (finished keys m f))))
      (sym (one_body good keeps sheet doors loop _
      (instr_rolled instr_meanings (instr_steps sheet doors) loop) e k))
      (same_carries.next _ _ (Every good) (Every good) _ _ _ _
      (leaf_meets good keeps sheet doors q programs integers texts s src leaf e (bind_all bound f) at k)
      (λ xs j g. all_meet s x own bound e f at body m h orders fit xs g j))))
    where
      x : ExprName
      x = (out-Bind b).var

      src : Expr
      src = (out-Bind b).source

      keys : List OrderMeaning
      keys = map (order_gives meanings (steps q)) orders

      loop : InstrForm
      loop = ForEach src (map (sort_of x) orders) (variable x dot ∷ body)
