-- Groups by their keys: each key that is seen, with its members, in the stylesheet and in the query.
use Rattle.std.proofs.Common.{◌≡◌, ◌^◌, ℕ, List, [], ◌∷◌, length, refl, ap, sym, ◌∙◌, map, subst}
use Rattle.std.proofs.lemmas.List.{length-map}
use Rattle.std.proofs.lemmas.Simd.{map-map}
use Rattle.std.specs.Prelude.{true, Some, codes, pos, nat_lt, slice_get, option_map}
use Rattle.xt_names.specs.declared.codes.Code.{Code}
use Rattle.xt_atoms.specs.declared.atoms.Atom.{Atom as AtomValue}
use Rattle.xdm_items.specs.Values.{atomized}
use Rattle.xdm_items.specs.declared.items.Item.{Item}
use Rattle.xdm_items.specs.declared.items.Item.TheVariants.{Atom}
use Rattle.xt_syntax.specs.declared.exprs.Expr.{Expr}
use Rattle.order_group.specs.Groups.{atoms_of, first_seen, grouped_by, has_key, key_group, places_where}
use Rattle.xdm_items.specs.FunctionArguments.Answers.{of_integer}
use Rattle.function_table.specs.declared.builtins.Builtin.TheVariants as function
use Rattle.fn_lib.specs.Functions.{function_value}
use Rattle.expr_meaning.specs.Outcomes.Outcome.{Outcome, Ends, and_then, step_outcome, for_each, Every, Anything}
use Rattle.expr_meaning.specs.Outcomes.Follow.{Relation, IsCarrying}
use Rattle.expr_meaning.proofs.OutcomesLemmas.Relations.{step_carried, each_carried}
use Rattle.expr_meaning.proofs.OutcomesLemmas.Steps.{then_assoc, then_same}
use Rattle.expr_meaning.specs.SortMeaning.Sorted.{Placed, places, placed, placed_as, visit}
use Rattle.expr_meaning.specs.Env.{Binding, Env, Group, Meaning, Program, bind_all, look_up, with_bound}
use Rattle.expr_meaning.specs.Meaning.{outcome}
use Rattle.meaning_laws.specs.SoundValues.Sound.{IsSound}
use Rattle.meaning_laws.proofs.SoundValues.Trees.{all_atomized}
use Rattle.carried_exprs.specs.Sights.{item_name, position_name, size_name, group_name, key_name, library_call}
use Rattle.carried_exprs.specs.Sights.{value_name}
use Rattle.carried_exprs.specs.Sights.{variable_of}
use Rattle.query_helpers.proofs.Gives.{gives_variable}
use Rattle.transform_meaning.specs.Grouping.{by, group_in, groups_of, items_at, keys_at}
use Rattle.transform_meaning.specs.Places.{at_item, in_group}
use Rattle.transform_meaning.specs.Sorting.{mixed}
use Rattle.translated_forms.specs.Converted.{data_of}
use Rattle.translated_forms.specs.Forms.{flow, flow_or_body}
use Rattle.translated_forms.specs.Groups.{grouped_by as query_groups, in_body, needed}
use Rattle.translated_forms.specs.Loops.{in_turn, the_items}
use Rattle.translated_forms.specs.Names.{items_name, keys_name}
use Rattle.translated_forms.specs.Places.{Table}
use Rattle.lockstep.specs.Spots.{Spot, IsAt, grouped_spot}
use Rattle.lockstep.proofs.Frame.{AreMade, Meets, at_group}
use Rattle.lockstep_loops.proofs.FlowGives.{turn}
use Rattle.lockstep_loops.proofs.LoopForms.{turn_env}
use Rattle.lockstep_loops.proofs.Sized.{InListOf, few_places, sized_from}
use Rattle.lockstep_loops.proofs.Needed.{needed_give, AreGiven, behind_all, are_written}
use Rattle.lockstep_loops.proofs.NeededRows.{AllOther, keys_of_order, lets_cells, needed_cells, some_written, written_other}
use Rattle.lockstep_loops.proofs.GroupOrder.{cells_row, in_their_order, order_does}
use Rattle.lockstep_loops.proofs.GroupVisits.{visits_in_order}
use Rattle.lockstep_loops.proofs.Columns.{KeysMeet, directions_are, rows_relate}
use Rattle.order_group.specs.Rows.{Row}
use Rattle.xt_sheets.specs.declared.values.Sort.{Sort}
use Rattle.expr_meaning.specs.Flow.{OrderMeaning}
use Rattle.transform_meaning.specs.Instrs.{sorts_mean}
use Rattle.transform_meaning.specs.Sorting.{sort_columns}
use Rattle.translated_forms.specs.Texts.{Carry}
use Rattle.translated_forms.specs.Groups.{Named, at_each, groups_ordered, in_orders_of}
use Rattle.translated_forms.specs.Loops.{sort_orders}
use Rattle.translated_forms.specs.Forms.{flow_ordered}
use Rattle.expr_meaning.specs.SortMeaning.Sorted.{all_moved, row_of}
use Rattle.expr_meaning.proofs.SortMeaning.Sorting.{directions_moved, row_moved}
use Rattle.lockstep_loops.proofs.GroupTurn.{first_gives, number_gives, given_by, visits_of_made}
use Rattle.lockstep_loops.proofs.GroupRows.{IsStill, RowsOf, rows_known, members_of, members_are}
use Rattle.lockstep_loops.proofs.GroupMembers.{members_given}
use Rattle.lockstep_loops.proofs.GroupKeys.{IsAtom, all_flat, all_seen, atoms_flat, atoms_sound}
use Rattle.lockstep_loops.proofs.GroupKeys.{distinct_value, flat, members_good, not_empty, not_more, seen_keeps}
use Rattle.lockstep_loops.proofs.GroupKeys.{some_row, still_few}
use Rattle.lockstep_loops.proofs.GroupDistinct.{both_every, distinct_does, query_row, rows_atoms, rows_long}

-- the group of a key
abbrev pub group_with : List Item → List (List AtomValue) → AtomValue → Group
group_with xs rows a = group_in xs (key_group rows a)

module _ (like : Code → Code → Type 0) (lax : (a b : Code) → like a b) (rel : Relation)
    (carries : IsCarrying like rel) (t : Table) (q : Program) (x : Spot) (key : Meaning)
    (inner_key : Expr) (still : IsStill key) (sheet : Program) (carry : Carry) (body : Meaning) (inner : Expr)
    (done : Meets like lax rel carries t (grouped_spot x) body (outcome q inner))
    (e f : Env) (at : IsAt t x e f) (xs : List Item) (good : Every IsSound xs) (bs : List Binding)
    (made : AreMade bs) (items : look_up (with_bound bs f.locals) items_name ≡ Some xs)
    (sound : (p : Placed Item) → InListOf IsSound (length xs) p → (ys : List Item) (k : ℕ) →
    key (at_item e p) k ≡ Ends ys k → Every IsSound ys)
    (near : (p : Placed Item) → InListOf IsSound (length xs) p → (k : ℕ) →
    rel (List Item) (Every IsSound) (key (at_item e p) k)
    (outcome q inner_key (turn_env (bind_all bs f) p) k))
    (near_group : (g : Placed Item) (ks : List Item) (p : Placed Item) → InListOf IsSound (length xs) p →
    (k : ℕ) → rel (List Item) (Every IsSound) (key (at_item e p) k)
    (outcome q inner_key
    (turn_env (bind_all (turn value_name position_name ((keys_name, ks) ∷ bs) g) f) p) k)) where
  abbrev group_body : Expr
  group_body = flow_or_body (needed (query_groups inner_key).members (in_body inner)) inner

  abbrev at_key : List Item → Placed Item → List Binding
  at_key ks g = turn value_name position_name ((keys_name, ks) ∷ bs) g

  abbrev pub keys_then : List (Sort Expr) → List Item → ℕ → Outcome (List Item)
  keys_then sorts ks k =
      and_then (outcome q (groups_ordered (query_groups inner_key) (sort_orders carry sorts))
      (bind_all ((keys_name, ks) ∷ bs) f) k) (λ ys j. and_then (step_outcome (places ys) j)
      (for_each (λ g. outcome q group_body (bind_all (at_key ks g) f))))

  rows_sound : (fs : List (Placed Item)) (rows : List (List Item)) →
      Every (InListOf IsSound (length xs)) fs → RowsOf key e fs rows → Every (Every IsSound) rows
  rows_sound [] [] all h = tt
  rows_sound [] (row ∷ rows) all h = absurd h
  rows_sound (p ∷ fs) [] all h = absurd h
  rows_sound (p ∷ fs) (row ∷ rows) all h = (
    subst (Every IsSound) (sym h.0.2) (all_atomized h.0.0 (sound p all.0 h.0.0 0 (h.0.1 0))),
    rows_sound fs rows all.1 h.1,
  )

  module _ (rows : List (List Item)) (known : RowsOf key e (placed xs) rows)
      (few : nat_lt (length xs) (2 ^ 63) ≡ true) where
    abbrev atom_rows : List (List AtomValue)
    atom_rows = map atoms_of rows

    abbrev seen : List AtomValue
    seen = first_seen (flat atom_rows)

    abbrev is_seen : AtomValue → Type 0
    is_seen a = (has_key a (flat atom_rows) ≡ true) × IsSound (Atom a)

    -- at one group
    abbrev group_env : Placed AtomValue → Env
    group_env p = bind_all (at_key (map Atom seen) (placed_as Atom p)) f

    abbrev group_at : Placed AtomValue → Env
    group_at p = in_group e (placed_as (group_with xs atom_rows) p)

    abbrev members : List Named
    members = (query_groups inner_key).members

    group_facts : (p : Placed AtomValue) → is_seen p.value → p.size ≡ length seen →
        nat_lt (length seen) (2 ^ 63) ≡ true →
        (rest : List (List Item)) × AreGiven like rel carries q members rest (group_env p)
        × IsAt t (grouped_spot x) (group_at p) (behind_all like rel carries q members rest (group_env p))
    unfolding look_up
    group_facts p s size few_keys =
        let a = p.value in
        let long = rows_long key e 1 (length xs) xs rows known in
        let ms = members_of a xs atom_rows in
        let same : items_at xs (places_where (has_key a) 0 atom_rows) ≡ ms = members_are a xs atom_rows long in
        let some = not_empty a xs atom_rows long (some_row a atom_rows s.0) in
        let first : Item = some.0 in
        let ks = map Atom seen in
        let g = placed_as Atom p in
        let env = bind_all (at_key ks g) f in
        let count : of_integer (pos (length ks)) ≡ of_integer (pos p.size) =
        ap (λ n. of_integer (pos n)) (length-map seen Atom ∙ sym size) in
        let few_ms : nat_lt (length (first ∷ some.1)) (2 ^ 63) ≡ true =
        ap (λ l. nat_lt (length l) (2 ^ 63)) (sym some.2)
        ∙ still_few (length ms) (length xs) (not_more a xs atom_rows) few in
        let few_ks : nat_lt (length ks) (2 ^ 63) ≡ true =
        ap (λ n. nat_lt n (2 ^ 63)) (length-map seen Atom) ∙ few_keys in
        let env1 = bind_all ((group_name, ms) ∷ []) env in
        let env2 = bind_all ((key_name, Atom a ∷ []) ∷ []) env1 in
        let env3 = bind_all ((item_name, first ∷ []) ∷ []) env2 in (
          ms ∷ (Atom a ∷ []) ∷ (first ∷ []) ∷ of_integer (pos (length ks)) ∷ [],
          (
            members_given like rel carries q key inner_key e env xs (near_group g ks) a (λ i. refl) rows good
                known few items,
            (
              given_by like rel carries q (variable_of value_name) env1 (Atom a ∷ [])
                  (gives_variable q value_name env1 (Atom a ∷ []) refl),
              (
                given_by like rel carries q _ env2 (first ∷ [])
                    (first_gives q env2 first some.1 (ap Some some.2) few_ms),
                (
                  given_by like rel carries q _ env3 (of_integer (pos (length ks)))
                      (number_gives q keys_name env3 ks refl few_ks),
                  tt,
                ),
              ),
            ),
          ),
          (at_group (group_bindings (of_integer (pos (length ks))) first a ms ks g) (
            (refl, refl),
            (
              (refl, refl),
              (
                (refl, refl),
                (
                  (refl, refl),
                  (
                    (refl, refl),
                    (
                      (refl, refl),
                      ((refl, refl), made),
                    ),
                  ),
                ),
              ),
            ),
          )
              t x e f at (placed_as (group_with xs atom_rows) p)
              (subst (Every IsSound) (sym same) (members_good IsSound a xs atom_rows good)) (s.1, tt)
              (record { value = first; place = p.place; size = p.size })
              (ap (λ l. option_map (λ y. record { value = y; place = p.place; size = p.size }) (slice_get l 0))
              (same ∙ some.2))
              (first_sound (members_good IsSound a xs atom_rows good) some.2) refl refl (ap Some count)
              (ap Some (sym same)) refl),
        )
      where
        group_bindings : List Item → Item → AtomValue → List Item → List Item → Placed Item → List Binding
        group_bindings n first a ms ks g =
            (size_name, n) ∷ (item_name, first ∷ []) ∷ (key_name, Atom a ∷ []) ∷ (group_name, ms)
            ∷ at_key ks g

        first_sound : {ms more : List Item} {y : Item} → Every IsSound ms → ms ≡ y ∷ more → IsSound y
        first_sound {ms} {more} {y} h e = (subst (Every IsSound) e h).0

    one_group : (p : Placed AtomValue) → is_seen p.value → p.size ≡ length seen →
        nat_lt (length seen) (2 ^ 63) ≡ true → (k : ℕ) →
        rel (List Item) (Every IsSound) (body (group_at p) k) (outcome q group_body (group_env p) k)
    one_group p s size few_keys k =
        let facts = group_facts p s size few_keys in
        needed_give like rel carries q (Every IsSound) inner (body (group_at p)) members facts.0 (group_env p)
        facts.1 (λ j. done (group_at p) _ facts.2 j) k

    -- the keys of its order
    one_row : (sorts : List (Sort Expr)) → KeysMeet like lax rel carries t sheet q carry (grouped_spot x) sorts →
        (p : Placed AtomValue) → is_seen p.value → p.size ≡ length seen →
        nat_lt (length seen) (2 ^ 63) ≡ true → (k : ℕ) →
        rel Row Anything
        (row_of (all_moved (placed_as (group_with xs atom_rows)) (sort_columns (in_group e) (sorts_mean sheet sorts))) p k)
        (lets_cells q (some_written q carry sorts like rel carries members) (keys_of_order q carry sorts)
        (group_env p) k)
    one_row sorts keys p s size few_keys k =
        let facts = group_facts p s size few_keys in
        let cs = sort_columns (in_group e) (sorts_mean sheet sorts) in
        subst (λ o. rel Row Anything o (lets_cells q (some_written q carry sorts like rel carries members)
        (keys_of_order q carry sorts) (group_env p) k))
        (sym (row_moved (placed_as (group_with xs atom_rows)) cs p k))
        (needed_cells q carry sorts like rel carries Anything
        (row_of cs (placed_as (group_with xs atom_rows) p)) members facts.0 (group_env p) facts.1
        (λ j. rows_relate like lax rel carries t sheet q carry (grouped_spot x) (group_at p) _ facts.2
        (in_group e) (placed_as (group_with xs atom_rows) p) refl sorts keys j) k)

    -- at each group
    abbrev each_body : Placed Group → ℕ → Outcome (List Item)
    each_body g = body (in_group e g)

    seen_are : Every is_seen seen
    seen_are =
        both_every (λ a. has_key a (flat atom_rows) ≡ true) (λ a. IsSound (Atom a)) seen
        (all_seen (flat atom_rows))
        (seen_keeps (λ a. IsSound (Atom a)) (flat atom_rows)
        (subst (Every (λ a. IsSound (Atom a))) (atoms_flat rows)
        (atoms_sound (flat rows) (all_flat IsSound rows
        (rows_sound (placed xs) rows (sized_from IsSound 1 (length xs) (length xs) refl xs good) known)))))

    abbrev seen_keys : List Item
    seen_keys = map Atom seen

    ordered_groups : (sorts : List (Sort Expr)) →
        KeysMeet like lax rel carries t sheet q carry (grouped_spot x) sorts → (k : ℕ) →
        rel (List Item) (Every IsSound)
        (visit mixed (sort_columns (in_group e) (sorts_mean sheet sorts)) each_body
        (map (group_with xs atom_rows) seen) k)
        (keys_then sorts seen_keys k)
    unfolding groups_ordered look_up
    ordered_groups [] keys k =
        subst (rel (List Item) (Every IsSound) (visit mixed [] each_body (map (group_with xs atom_rows) seen) k))
        (sym (ap (λ o. and_then o (λ ys j. and_then (step_outcome (places ys) j)
        (for_each (λ g. outcome q group_body (bind_all (at_key seen_keys g) f)))))
        (gives_variable q keys_name (bind_all ((keys_name, seen_keys) ∷ bs) f) seen_keys refl k)))
        (visits_of_made like rel carries IsSound is_seen (group_with xs atom_rows) Atom each_body
        (λ g. outcome q group_body (bind_all (at_key seen_keys g) f)) seen one_group seen_are k)
    ordered_groups (s ∷ sorts) keys k =
        let all = s ∷ sorts in
        let cs = sort_columns (in_group e) (sorts_mean sheet all) in
        let f1 = bind_all ((keys_name, seen_keys) ∷ bs) f in
        let lets = some_written q carry all like rel carries members in
        let other : AllOther q value_name lets =
        written_other like rel carries q value_name (in_orders_of (sort_orders carry all)) members
        (refl, (refl, (refl, (refl, tt)))) in
        let b = λ (g : Placed Item). outcome q group_body (bind_all (at_key seen_keys g) f) in
        subst (rel (List Item) (Every IsSound)
        (visit mixed cs each_body (map (group_with xs atom_rows) seen) k))
        (sym (ap (λ o. and_then o (λ ys j. and_then (step_outcome (places ys) j) (for_each b)))
        (ap (λ ls. outcome q (flow_ordered (at_each (query_groups inner_key) (variable_of keys_name) ∷ ls)
        (sort_orders carry all) (variable_of value_name)) f1 k)
        (are_written like rel carries q members (in_orders_of (sort_orders carry all)))
        ∙ order_does q value_name f1 (variable_of keys_name) lets other (sort_orders carry all) refl refl k
        ∙ ap (λ o. and_then o (λ ks j. and_then (step_outcome (places ks) j) (λ fs i.
        and_then (for_each (cells_row q value_name f1 lets (keys_of_order q carry all)) fs i)
        (in_their_order q value_name f1 (keys_of_order q carry all)))))
        (gives_variable q keys_name f1 seen_keys refl k))))
        (visits_in_order (group_with xs atom_rows) Atom cs each_body
        (λ g. lets_cells q lets (keys_of_order q carry all) (bind_all (at_key seen_keys g) f))
        (map (λ (o : OrderMeaning). o.1) (keys_of_order q carry all)) b like lax rel carries IsSound is_seen
        seen
        (directions_moved (placed_as (group_with xs atom_rows)) cs
        ∙ directions_are sheet q carry (in_group e) all)
        (λ p is few j. one_row all keys p is.0 is.1 few j)
        (λ p is few j. one_group p is.0 is.1 few j) seen_are k)

    all_groups : (sorts : List (Sort Expr)) →
        KeysMeet like lax rel carries t sheet q carry (grouped_spot x) sorts → (k : ℕ) →
        rel (List Item) (Every IsSound)
        (visit mixed (sort_columns (in_group e) (sorts_mean sheet sorts)) each_body
        (map (group_in xs) (grouped_by rows)) k)
        (and_then (step_outcome (function_value function.DistinctValues (flat rows ∷ [])) k) (keys_then sorts))
    all_groups sorts keys k =
        subst (λ gs. rel (List Item) (Every IsSound)
        (visit mixed (sort_columns (in_group e) (sorts_mean sheet sorts)) each_body gs k)
        (and_then (step_outcome (function_value function.DistinctValues (flat rows ∷ [])) k) (keys_then sorts)))
        (sym (map-map (group_in xs) (key_group atom_rows) seen))
        (rw (
          distinct_value (flat rows) (all_flat IsAtom rows (rows_atoms key e (placed xs) rows known)),
          atoms_flat rows,
        )
        (ordered_groups sorts keys k))

  -- the population, its keys, and then the groups
  row_related : (p : Placed Item) → InListOf IsSound (length xs) p → (k : ℕ) →
      rel (List (List Item)) (Every Anything) (keys_at key e p k) (query_row q inner_key (bind_all bs f) p k)
  row_related p is k =
      carries.next _ _ (Every IsSound) (Every Anything) (key (at_item e p) k)
      (outcome q inner_key (turn_env (bind_all bs f) p) k) _ _ (near p is k)
      (λ ys j all. carries.ends _ _ (atomized ys ∷ []) j (tt, tt))

  pub groups_related : (sorts : List (Sort Expr)) →
      KeysMeet like lax rel carries t sheet q carry (grouped_spot x) sorts → (k : ℕ) → rel (List Item) (Every IsSound)
      (and_then (groups_of (by key) e xs k) (visit mixed (sort_columns (in_group e) (sorts_mean sheet sorts)) (λ g. body (in_group e g))))
      (and_then (outcome q (library_call (codes "distinct-values")
      (flow (in_turn the_items ∷ []) (data_of inner_key) ∷ [])) (bind_all bs f) k) (keys_then sorts))
  groups_related sorts keys k =
      subst (rel (List Item) (Every IsSound)
      (and_then (groups_of (by key) e xs k) (visit mixed (sort_columns (in_group e) (sorts_mean sheet sorts)) (λ g. body (in_group e g)))))
      (sym (ap (λ o. and_then o (keys_then sorts)) (distinct_does q inner_key (bind_all bs f) xs items k)
      ∙ then_assoc (step_outcome (places xs) k) _ (keys_then sorts)
      ∙ then_same (step_outcome (places xs) k) _ _
      (λ fs j. then_assoc (for_each (query_row q inner_key (bind_all bs f)) fs j) _ (keys_then sorts))))
      (subst (λ o. rel (List Item) (Every IsSound) o
      (and_then (step_outcome (places xs) k) (λ fs j.
      and_then (for_each (query_row q inner_key (bind_all bs f)) fs j) (λ rows i.
      and_then (step_outcome (function_value function.DistinctValues (flat rows ∷ [])) i) (keys_then sorts)))))
      (sym (then_assoc (step_outcome (places xs) k) _ (visit mixed (sort_columns (in_group e) (sorts_mean sheet sorts)) (λ g. body (in_group e g)))
      ∙ then_same (step_outcome (places xs) k) _ _ (λ fs j.
      then_assoc (and_then (for_each (keys_at key e) fs j) (λ rows i. Ends (grouped_by rows) i)) _
      (visit mixed (sort_columns (in_group e) (sorts_mean sheet sorts)) (λ g. body (in_group e g)))
      ∙ then_assoc (for_each (keys_at key e) fs j) _ _)))
      (carries.next _ _ IsPopulation (Every IsSound) (step_outcome (places xs) k)
      (step_outcome (places xs) k) _ _
      (step_carried like rel carries IsPopulation (places xs) k
      (few_places IsPopulation xs k (λ few. (refl, few)))) (λ fs j is.
      carries.next _ _ (RowsOf key e fs) (Every IsSound) (for_each (keys_at key e) fs j)
      (for_each (query_row q inner_key (bind_all bs f)) fs j) _ _
      (carries.also _ (Every Anything) (RowsOf key e fs) _ _
      (each_carried like rel carries (InListOf IsSound (length xs)) Anything (keys_at key e)
      (query_row q inner_key (bind_all bs f)) (λ p i r. row_related p r i) fs
      (subst (Every (InListOf IsSound (length xs))) (sym is.0)
      (sized_from IsSound 1 (length xs) (length xs) refl xs good)) j)
      (rows_known key still e fs j)) (λ rows i known.
      all_groups rows (subst (λ fs. RowsOf key e fs rows) is.0 known) is.1 sorts keys i))))
    where
      IsPopulation : List (Placed Item) → Type 0
      IsPopulation fs = (fs ≡ placed xs) × (nat_lt (length xs) (2 ^ 63) ≡ true)
