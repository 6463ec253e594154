-- xsl:for-each-group with a grouping key does in the query what it does in the
-- stylesheet.
use Rattle.std.proofs.Common.{◌≡◌, ◌^◌, ℕ, List, [], ◌∷◌, ◌++◌, length, refl, ap, sym, ◌∙◌, map, subst}
use Rattle.std.specs.Prelude.{Bool, true, false, Some, None, codes, pos, nat_lt, if◌then◌else◌}
use Rattle.xt_names.specs.declared.codes.Code.{Code}
use Rattle.xt_names.specs.declared.codes.Code.TheVariants.{Dynamic}
use Rattle.xt_names.specs.declared.codes.DynamicCode.TheVariants.{FOAR0002}
use Rattle.xt_atoms.specs.Casts.{wrong_type}
use Rattle.xdm_items.specs.declared.items.Item.{Item}
use Rattle.xt_syntax.specs.declared.exprs.Clause.{Clause}
use Rattle.xt_syntax.specs.declared.exprs.Expr.{Expr}
use Rattle.xt_syntax.specs.Layers.{clause_gives}
use Rattle.xdm_items.specs.FunctionArguments.Answers.{of_integer}
use Rattle.item_functions.specs.OnSequences.{count_of as count_value}
use Rattle.item_functions.specs.SequenceFunctions.Cardinality.{counted}
use Rattle.expr_meaning.specs.Outcomes.Outcome.{Outcome, Ends, and_then, step_outcome, for_each, Every}
use Rattle.expr_meaning.specs.Outcomes.Follow.{Relation, IsCarrying}
use Rattle.expr_meaning.proofs.OutcomesLemmas.Steps.{then_same}
use Rattle.expr_meaning.specs.SortMeaning.Sorted.{Placed, places, visit}
use Rattle.expr_meaning.proofs.SortMeaning.Sorting.{sorted_plain}
use Rattle.expr_meaning.specs.Env.{Binding, Env, Meaning, Program, bind_all, look_up}
use Rattle.expr_meaning.specs.Meaning.{meanings, steps, outcome}
use Rattle.meaning_laws.specs.SoundValues.Sound.{IsSound}
use Rattle.carried_exprs.specs.Sights.{item_name, position_name, size_name, library_call}
use Rattle.carried_exprs.specs.Sights.{value_name}
use Rattle.transform_meaning.specs.Grouping.{by, each_group_of, groups_of}
use Rattle.transform_meaning.specs.Places.{at_item, in_group}
use Rattle.transform_meaning.specs.Instrs.{sorts_mean}
use Rattle.transform_meaning.specs.Sorting.{mixed, sort_columns}
use Rattle.translated_forms.specs.Loops.{sort_orders}
use Rattle.translated_forms.specs.Texts.{Carry}
use Rattle.xt_sheets.specs.declared.values.Sort.{Sort}
use Rattle.xt_syntax.specs.declared.exprs.Order.{Order}
use Rattle.translated_forms.specs.Groups.{groups_ordered}
use Rattle.lockstep_loops.proofs.Columns.{KeysMeet}
use Rattle.translated_forms.specs.Converted.{data_of}
use Rattle.translated_forms.specs.Forms.{flow, flow_or_body}
use Rattle.translated_forms.specs.Groups.{at_each, different_keys, each_group, each_group_by, grouped_by}
use Rattle.translated_forms.specs.Groups.{in_body, needed}
use Rattle.translated_forms.specs.Loops.{in_turn, items_let, size_let, the_items}
use Rattle.translated_forms.specs.Mentions.{mentions}
use Rattle.translated_forms.specs.Names.{items_name, keys_name}
use Rattle.translated_forms.specs.Places.{Table}
use Rattle.lockstep.specs.Spots.{Spot, IsAt, looped_spot, grouped_spot}
use Rattle.lockstep.proofs.Frame.{Meets, at_sort}
use Rattle.lockstep_loops.proofs.FlowGives.{flow_from, turn, let_first, at_last}
use Rattle.lockstep_loops.proofs.LoopForms.{turn_env, flow_does, let_gives, at_gives, counted_behind}
use Rattle.lockstep_loops.proofs.Sized.{InListOf}
use Rattle.lockstep_loops.proofs.Applied.{count_few}
use Rattle.lockstep_loops.proofs.Each.{sorted_counted}
use Rattle.lockstep_loops.proofs.Unmentioned.{unmentioned}
use Rattle.lockstep_loops.proofs.Unsized.{hidden_behind}
use Rattle.lockstep_loops.proofs.GroupRows.{IsStill}
use Rattle.lockstep_loops.proofs.GroupedBy.{groups_related}

-- an item of the population after a group
abbrev item_behind : List Binding → Placed Item → List Item → Placed Item → ℕ → List Binding
item_behind bs p ks g n =
    turn item_name position_name
    ((size_name, of_integer (pos n)) ∷ turn value_name position_name ((keys_name, ks) ∷ bs) g) p

module _ (t : Table) (x : Spot) (e f : Env) (at : IsAt t x e f) (n : ℕ) (p : Placed Item)
    (is : InListOf IsSound n p) (xs ks : List Item) (g : Placed Item) where
  number_held : Some (of_integer (pos n)) ≡ Some (of_integer (pos p.size))
  number_held = ap (λ m. Some (of_integer (pos m))) (sym is.1)

  -- the number of items comes after the group, or before it
  in_counted : IsAt t (looped_spot x) (at_item e p)
      (bind_all (turn item_name position_name (turn value_name position_name
      ((keys_name, ks) ∷ (size_name, of_integer (pos n)) ∷ (items_name, xs) ∷ []) g) p) f)
  unfolding look_up
  in_counted =
      at_sort (turn item_name position_name (turn value_name position_name
      ((keys_name, ks) ∷ (size_name, of_integer (pos n)) ∷ (items_name, xs) ∷ []) g) p) (
        (refl, refl),
        (
          (refl, refl),
          (
            (refl, refl),
            (
              (refl, refl),
              (
                (refl, refl),
                (
                  (refl, refl),
                  ((refl, refl), tt),
                ),
              ),
            ),
          ),
        ),
      ) t x e f at p is.0 refl refl number_held (λ locals. refl) (λ locals. refl)

  in_alone : IsAt t (looped_spot x) (at_item e p)
      (bind_all (item_behind ((items_name, xs) ∷ []) p ks g n) f)
  unfolding look_up
  in_alone =
      at_sort (item_behind ((items_name, xs) ∷ []) p ks g n) (
        (refl, refl),
        (
          (refl, refl),
          (
            (refl, refl),
            (
              (refl, refl),
              (
                (refl, refl),
                (
                  (refl, refl),
                  ((refl, refl), tt),
                ),
              ),
            ),
          ),
        ),
      ) t x e f at p is.0 refl refl number_held (λ locals. refl) (λ locals. refl)

module _ (q : Program) (key inner : Expr) (orders : List Order) where
  abbrev group_expr : Expr
  group_expr = flow_or_body (needed (grouped_by key).members (in_body inner)) inner

  abbrev key_call : Expr
  key_call = library_call (codes "distinct-values") (flow (in_turn the_items ∷ []) (data_of key) ∷ [])

  abbrev ordered_groups : Expr
  ordered_groups = groups_ordered (grouped_by key) orders

  abbrev groups_then : List Binding → Env → List Item → ℕ → Outcome (List Item)
  groups_then bs f ks k =
      and_then (outcome q ordered_groups (bind_all ((keys_name, ks) ∷ bs) f) k)
      (λ ys j. and_then (step_outcome (places ys) j) (for_each (λ g. outcome q group_expr
      (bind_all (turn value_name position_name ((keys_name, ks) ∷ bs) g) f))))

  abbrev last_clauses : List Clause
  last_clauses = different_keys key ∷ at_each (grouped_by key) ordered_groups ∷ []

  -- the keys, and then each of them
  keys_first : (bs : List Binding) (f : Env) (k : ℕ) →
      flow_from (map (clause_gives meanings (steps q)) last_clauses) None [] (outcome q group_expr) bs f k
      ≡ and_then (outcome q key_call (bind_all bs f) k) (groups_then bs f)
  unfolding look_up
  keys_first bs f k =
      let at = clause_gives meanings (steps q) (at_each (grouped_by key) ordered_groups) in
      ap (λ c. flow_from (c ∷ at ∷ []) None [] (outcome q group_expr) bs f k)
      (let_gives q keys_name key_call)
      ∙ let_first keys_name (outcome q key_call) (at ∷ []) None [] (outcome q group_expr) bs f k
      ∙ then_same (outcome q key_call (bind_all bs f) k) _ _ (λ ks j.
      ap (λ c. flow_from (c ∷ []) None [] (outcome q group_expr) ((keys_name, ks) ∷ bs) f j)
      (at_gives q value_name position_name ordered_groups)
      ∙ at_last value_name position_name (outcome q ordered_groups) [] (outcome q group_expr)
      ((keys_name, ks) ∷ bs) f j
      ∙ then_same (outcome q ordered_groups (bind_all ((keys_name, ks) ∷ bs) f) j) _ _ (λ ys h.
      then_same (step_outcome (places ys) h) _ _ (λ fs i.
      ap (λ o. and_then o (for_each (λ g. outcome q group_expr
      (bind_all (turn value_name position_name ((keys_name, ks) ∷ bs) g) f))))
      (sorted_plain wrong_type fs i))))

  -- the population is counted
  long_groups : (from : Expr) (f : Env) (k : ℕ) →
      outcome q (flow (items_let from ∷ size_let ∷ last_clauses) group_expr) f k
      ≡ and_then (outcome q from f k) (λ xs j. and_then (step_outcome (count_value xs) j) (λ ns i.
      and_then (outcome q key_call (bind_all ((size_name, ns) ∷ (items_name, xs) ∷ []) f) i)
      (groups_then ((size_name, ns) ∷ (items_name, xs) ∷ []) f)))
  long_groups from f k =
      flow_does q (items_let from ∷ size_let ∷ last_clauses) [] false group_expr f k
      ∙ counted_behind q (map (clause_gives meanings (steps q)) last_clauses) [] from
      (outcome q group_expr) f k
      ∙ then_same (outcome q from f k) _ _ (λ xs j. then_same (step_outcome (count_value xs) j) _ _
      (λ ns i. keys_first ((size_name, ns) ∷ (items_name, xs) ∷ []) f i))

  -- .. or not
  short_groups : (from : Expr) (f : Env) (k : ℕ) →
      outcome q (flow (items_let from ∷ last_clauses) group_expr) f k
      ≡ and_then (outcome q from f k) (λ xs j.
      and_then (outcome q key_call (bind_all ((items_name, xs) ∷ []) f) j)
      (groups_then ((items_name, xs) ∷ []) f))
  short_groups from f k =
      let more = map (clause_gives meanings (steps q)) last_clauses in
      flow_does q (items_let from ∷ last_clauses) [] false group_expr f k
      ∙ ap (λ c. flow_from (c ∷ more) None [] (outcome q group_expr) [] f k) (let_gives q items_name from)
      ∙ let_first items_name (outcome q from) more None [] (outcome q group_expr) [] f k
      ∙ then_same (outcome q from f k) _ _ (λ xs j. keys_first ((items_name, xs) ∷ []) f j)

module _ (like : Code → Code → Type 0) (lax : (a b : Code) → like a b) (rel : Relation)
    (carries : IsCarrying like rel) (t : Table) (q : Program) (x : Spot) (select : Meaning) (from : Expr)
    (selected : Meets like lax rel carries t x select (outcome q from)) (key : Meaning) (inner_key : Expr)
    (keyed : Meets like lax rel carries t (looped_spot x) key (outcome q inner_key))
    (still : IsStill key)
    (sound : (d g : Env) → IsAt t (looped_spot x) d g → (ys : List Item) (k : ℕ) → key d k ≡ Ends ys k →
    Every IsSound ys)
    (body : Meaning) (inner : Expr)
    (done : Meets like lax rel carries t (grouped_spot x) body (outcome q inner)) (sheet : Program)
    (carry : Carry) (sorts : List (Sort Expr))
    (keys : KeysMeet like lax rel carries t sheet q carry (grouped_spot x) sorts) where
  abbrev the_orders : List Order
  the_orders = sort_orders carry sorts

  abbrev Outcomes : Outcome (List Item) → Outcome (List Item) → Type 0
  Outcomes o r = rel (List Item) (Every IsSound) o r

  abbrev sheet_groups : Env → List Item → ℕ → Outcome (List Item)
  sheet_groups e xs k =
      and_then (groups_of (by key) e xs k) (visit mixed (sort_columns (in_group e) (sorts_mean sheet sorts)) (λ g. body (in_group e g)))

  abbrev query_groups : List Binding → Env → ℕ → Outcome (List Item)
  query_groups bs f k =
      and_then (outcome q (key_call q inner_key inner the_orders) (bind_all bs f) k)
      (groups_then q inner_key inner the_orders bs f)

  abbrev with_size : List Item → List Binding
  with_size xs = (size_name, of_integer (pos (length xs))) ∷ (items_name, xs) ∷ []

  module _ (e f : Env) (at : IsAt t x e f) (xs : List Item) (good : Every IsSound xs) where
    key_sound : (p : Placed Item) → InListOf IsSound (length xs) p → (ys : List Item) (k : ℕ) →
        key (at_item e p) k ≡ Ends ys k → Every IsSound ys
    key_sound p is ys k h =
        sound (at_item e p) (bind_all (turn item_name position_name (with_size xs) p) f)
        (sorted_counted t x e f at (length xs) p is xs) ys k h

    groups_counted : (k : ℕ) → Outcomes (sheet_groups e xs k) (query_groups (with_size xs) f k)
    unfolding look_up
    groups_counted k =
        groups_related like lax rel carries t q x key inner_key still sheet carry body inner done e f at xs good
        (with_size xs) ((refl, refl), ((refl, refl), tt)) refl key_sound
        (λ p is j. keyed (at_item e p) _ (sorted_counted t x e f at (length xs) p is xs) j)
        (λ g ks p is j. keyed (at_item e p) _ (in_counted t x e f at (length xs) p is xs ks g) j) sorts keys k

    groups_alone : mentions size_name inner_key ≡ false → (k : ℕ) →
        Outcomes (sheet_groups e xs k) (query_groups ((items_name, xs) ∷ []) f k)
    unfolding look_up
    groups_alone h k =
        let n = of_integer (pos (length xs)) in
        groups_related like lax rel carries t q x key inner_key still sheet carry body inner done e f at xs good
        ((items_name, xs) ∷ []) ((refl, refl), tt) refl key_sound
        (λ p is j.
        let f0 = bind_all ((items_name, xs) ∷ []) f in
        subst (Outcomes (key (at_item e p) j))
        (sym (unmentioned size_name q inner_key h (turn_env f0 p) _
        (hidden_behind size_name n (turn item_name position_name [] p) f0) j))
        (keyed (at_item e p) _ (sorted_counted t x e f at (length xs) p is xs) j))
        (λ g ks p is j.
        let f0 = bind_all (turn value_name position_name ((keys_name, ks) ∷ (items_name, xs) ∷ []) g) f in
        subst (Outcomes (key (at_item e p) j))
        (sym (unmentioned size_name q inner_key h (turn_env f0 p) _
        (hidden_behind size_name n (turn item_name position_name [] p) f0) j))
        (keyed (at_item e p) _ (in_alone t x e f at (length xs) p is xs ks g) j)) sorts keys k

    -- the population is counted first in any case
    count_first : (k : ℕ) → Outcomes (sheet_groups e xs k)
        (and_then (step_outcome (count_value xs) k)
        (λ ns i. query_groups ((size_name, ns) ∷ (items_name, xs) ∷ []) f i))
    unfolding count_value counted
    count_first k = by (nat_lt (length xs) (2 ^ 63)) refl
      where
        by : (b : Bool) → nat_lt (length xs) (2 ^ 63) ≡ b → Outcomes (sheet_groups e xs k)
            (and_then (step_outcome (count_value xs) k)
            (λ ns i. query_groups ((size_name, ns) ∷ (items_name, xs) ∷ []) f i))
        by true h =
            subst (λ o. Outcomes (sheet_groups e xs k)
            (and_then o (λ ns i. query_groups ((size_name, ns) ∷ (items_name, xs) ∷ []) f i)))
            (sym (count_few xs h k)) (groups_counted k)
        by false h = rw h (carries.fails (List Item) (Every IsSound) (Dynamic FOAR0002))

  abbrev sheet_each : Env → ℕ → Outcome (List Item)
  sheet_each e k = each_group_of select (by key) (sorts_mean sheet sorts) body e k

  by_size : (e f : Env) → IsAt t x e f → (k : ℕ) → (b : Bool) → mentions size_name inner_key ≡ b →
      Outcomes (sheet_each e k)
      (outcome q (flow (((items_let from ∷ (if b then size_let ∷ [] else [])) ++ different_keys inner_key ∷ [])
      ++ at_each (grouped_by inner_key) (groups_ordered (grouped_by inner_key) the_orders) ∷ [])
      (group_expr q inner_key inner the_orders)) f k)
  by_size e f at k true h =
      subst (Outcomes (sheet_each e k)) (sym (long_groups q inner_key inner the_orders from f k))
      (carries.next _ _ (Every IsSound) (Every IsSound) (select e k) (outcome q from f k) _ _
      (selected e f at k) (λ xs j good. count_first e f at xs good j))
  by_size e f at k false h =
      subst (Outcomes (sheet_each e k)) (sym (short_groups q inner_key inner the_orders from f k))
      (carries.next _ _ (Every IsSound) (Every IsSound) (select e k) (outcome q from f k) _ _
      (selected e f at k) (λ xs j good. groups_alone e f at xs good h j))

  pub each_group_by_done : Meets like lax rel carries t x (each_group_of select (by key) (sorts_mean sheet sorts) body)
      (outcome q (each_group_by from inner_key the_orders inner))
  unfolding each_group_by each_group
  each_group_by_done e f at k = by_size e f at k (mentions size_name inner_key) refl
