-- The loop of xsl:apply-templates: the nodes are put into order and counted, what is passed is
-- evaluated, and then each node is entered.
use Rattle.std.proofs.Common.{◌≡◌, ◌^◌, ℕ, List, [], ◌∷◌, ◌++◌, length, refl, ap, sym, ◌∙◌, map, subst}
use Rattle.std.proofs.lemmas.List.{map-append, length-map}
use Rattle.std.specs.Prelude.{Bool, true, false, Option, Some, None, Ok, Err, pos, nat_lt, if◌then◌else◌}
use Rattle.xt_names.specs.declared.codes.Code.{Code}
use Rattle.xt_names.specs.declared.codes.Code.TheVariants.{Dynamic}
use Rattle.xt_names.specs.declared.codes.DynamicCode.TheVariants.{FOAR0002}
use Rattle.xt_names.specs.declared.names.ExprName.{ExprName}
use Rattle.xt_atoms.specs.Casts.{wrong_type}
use Rattle.xdm_items.specs.declared.items.Item.{Item}
use Rattle.xt_syntax.specs.declared.exprs.Expr.{Expr}
use Rattle.xt_syntax.specs.declared.exprs.Order.{Order}
use Rattle.xt_syntax.specs.Layers.{clause_gives, order_gives}
use Rattle.xt_sheets.specs.declared.sheets.Rule.{Rule}
use Rattle.xt_sheets.specs.declared.values.ModeUse.{ModeUse}
use Rattle.xt_sheets.specs.declared.values.Sort.{Sort}
use Rattle.xdm_items.specs.FunctionArguments.Answers.{of_integer}
use Rattle.item_functions.specs.OnSequences.{count_of as count_value}
use Rattle.item_functions.specs.SequenceFunctions.Cardinality.{counted}
use Rattle.expr_meaning.specs.Outcomes.Outcome.{Outcome, Ends, and_then, step_outcome, for_each, Every}
use Rattle.expr_meaning.specs.Outcomes.Follow.{Relation, IsCarrying}
use Rattle.expr_meaning.proofs.OutcomesLemmas.Relations.{each_carried}
use Rattle.expr_meaning.proofs.OutcomesLemmas.Steps.{then_assoc, then_same}
use Rattle.expr_meaning.specs.SortMeaning.Sorted.{Placed, places, placed, values, sorted}
use Rattle.expr_meaning.proofs.SortMeaning.Sorting.{sorted_plain, values_placed}
use Rattle.expr_meaning.specs.Env.{Binding, Env, Meaning, Program, bind_all, look_up}
use Rattle.expr_meaning.specs.Flow.{ClauseMeaning}
use Rattle.expr_meaning.specs.Meaning.{meanings, steps, outcome}
use Rattle.meaning_laws.specs.SoundValues.Sound.{IsSound}
use Rattle.carried_exprs.specs.Sights.{item_name, position_name, size_name, the_item}
use Rattle.query_helpers.proofs.Gives.{gives_variable}
use Rattle.transform_meaning.specs.Bindings.{BoundMeaning}
use Rattle.transform_meaning.specs.Dispatch.{Doors, Passed, apply_of, entered_at, mode_of, passed_of}
use Rattle.transform_meaning.specs.Dispatch.{selection_of}
use Rattle.transform_meaning.specs.Instrs.{sorts_mean}
use Rattle.transform_meaning.specs.Sorting.{in_sort_order, mixed}
use Rattle.translated_forms.specs.Names.{items_name, count_name}
use Rattle.translated_forms.specs.Loops.{in_turn, items_let, the_items, sort_orders, sorted as sorted_expr}
use Rattle.translated_forms.specs.Loops.{ordered}
use Rattle.translated_forms.specs.Mentions.{in_orders}
use Rattle.translated_forms.specs.Forms.{count_of}
use Rattle.translated_forms.specs.Dispatch.{applied, count_let, in_its_place}
use Rattle.translated_forms.specs.Places.{Table}
use Rattle.translated_forms.specs.Texts.{Carry}
use Rattle.lockstep.specs.Spots.{Spot, IsAt, looped_spot}
use Rattle.lockstep.proofs.Frame.{Meets}
use Rattle.lockstep.proofs.Lets.{Lets, let_of, lets_then}
use Rattle.lockstep_loops.proofs.FlowGives.{flow_from, let_first, at_last}
use Rattle.lockstep_loops.proofs.LoopForms.{turn_env, flow_does, let_gives, at_gives, count_gives}
use Rattle.lockstep_loops.proofs.LoopForms.{in_query_order, counted_env, long_order, ordered_gives}
use Rattle.lockstep_loops.proofs.Each.{turn_behind, sorted_counted, sorted_alone, short_sorted}
use Rattle.translated_forms.specs.Loops.{size_let}
use Rattle.translated_forms.specs.Forms.{flow_ordered}
use Rattle.lockstep_loops.proofs.Sized.{InListOf, IsOrderOf, order_then, sized_from, values_good}
use Rattle.lockstep_loops.proofs.Columns.{KeysMeet, columns_relate}
use Rattle.transform_meaning.specs.Sorting.{sort_columns}
use Rattle.transform_meaning.specs.Places.{at_item}
use Rattle.expr_meaning.specs.Flow.{columns_at}

module _ (q : Program) where
  -- each of the items that a variable holds
  abbrev pub each_item : Expr → Meaning
  each_item body env k =
      and_then (outcome q the_items env k) (λ xs j. and_then (step_outcome (places xs) j)
      (for_each (λ g. outcome q body (turn_env env g))))

  lets_for : (bs : Lets q) (body : Expr) (bound : List Binding) (f : Env) (k : ℕ) →
      flow_from (map (clause_gives meanings (steps q)) (map (let_of q) bs)
      ++ clause_gives meanings (steps q) (in_turn the_items) ∷ []) None [] (outcome q body) bound f k
      ≡ lets_then q bs (each_item body) (bind_all bound f) k
  lets_for [] body bound f k =
      ap (λ c. flow_from (c ∷ []) None [] (outcome q body) bound f k)
      (at_gives q item_name position_name the_items)
      ∙ at_last item_name position_name (outcome q the_items) [] (outcome q body) bound f k
      ∙ then_same (outcome q the_items (bind_all bound f) k) _ _ (λ xs j.
      then_same (step_outcome (places xs) j) _ _ (λ fs i.
      ap (λ o. and_then o (for_each (λ g. outcome q body (turn_env (bind_all bound f) g))))
      (sorted_plain wrong_type fs i)))
  lets_for (b ∷ bs) body bound f k =
      let more = map (clause_gives meanings (steps q)) (map (let_of q) bs)
      ++ clause_gives meanings (steps q) (in_turn the_items) ∷ [] in
      ap (λ c. flow_from (c ∷ more) None [] (outcome q body) bound f k) (let_gives q b.0 b.1)
      ∙ let_first b.0 (outcome q b.1) more None [] (outcome q body) bound f k
      ∙ then_same (outcome q b.1 (bind_all bound f) k) _ _
      (λ xs j. lets_for bs body ((b.0, xs) ∷ bound) f j)

  abbrev pub counted_items : Env → List Item → List Item → Env
  counted_items f ns xs = bind_all ((count_name, ns) ∷ (items_name, xs) ∷ []) f

  pub applied_does : (items : Expr) (name : ExprName) (bs : Lets q) (args : List Expr) (f : Env)
      (k : ℕ) → outcome q (applied items name (map (let_of q) bs) args) f k
      ≡ and_then (outcome q items f k) (λ xs j. and_then (step_outcome (count_value xs) j)
      (λ ns. lets_then q bs (each_item (in_its_place name args)) (counted_items f ns xs)))
  unfolding applied look_up
  applied_does items name bs args f k =
      let body = in_its_place name args in
      let more = clause_gives meanings (steps q) (in_turn the_items) ∷ [] in
      let lets = map (clause_gives meanings (steps q)) (map (let_of q) bs) ++ more in
      flow_does q (items_let items ∷ count_let ∷ (map (let_of q) bs ++ in_turn the_items ∷ [])) [] false
      body f k
      ∙ ap (λ (cs : List ClauseMeaning). flow_from (clause_gives meanings (steps q) (items_let items)
      ∷ clause_gives meanings (steps q) count_let ∷ cs) None [] (outcome q body) [] f k)
      (map-append (clause_gives meanings (steps q)) (map (let_of q) bs) (in_turn the_items ∷ []))
      ∙ ap (λ c. flow_from (c ∷ clause_gives meanings (steps q) count_let ∷ lets) None []
      (outcome q body) [] f k) (let_gives q items_name items)
      ∙ let_first items_name (outcome q items) (clause_gives meanings (steps q) count_let ∷ lets) None []
      (outcome q body) [] f k
      ∙ then_same (outcome q items f k) _ _ (λ xs j.
      ap (λ c. flow_from (c ∷ lets) None [] (outcome q body) ((items_name, xs) ∷ []) f j)
      (let_gives q count_name (count_of items_name))
      ∙ let_first count_name (outcome q (count_of items_name)) lets None [] (outcome q body)
      ((items_name, xs) ∷ []) f j
      ∙ ap (λ o. and_then o (λ ns. flow_from lets None [] (outcome q body)
      ((count_name, ns) ∷ (items_name, xs) ∷ []) f))
      (count_gives q items_name (bind_all ((items_name, xs) ∷ []) f) xs refl j)
      ∙ then_same (step_outcome (count_value xs) j) _ _
      (λ ns i. lets_for bs body ((count_name, ns) ∷ (items_name, xs) ∷ []) f i))

-- a count of few items
pub count_few : (ys : List Item) → nat_lt (length ys) (2 ^ 63) ≡ true → (k : ℕ) →
    step_outcome (count_value ys) k ≡ Ends (of_integer (pos (length ys))) k
unfolding count_value counted
count_few ys few k = rw few refl

-- without keys, items are counted as they stand
count_as_order : (go : List Item → List Item → ℕ → Outcome (List Item)) (xs : List Item) (k : ℕ) →
    and_then (step_outcome (count_value xs) k) (λ ns. go ns xs)
    ≡ and_then (step_outcome (places xs) k) (λ fs j. and_then (sorted wrong_type [] fs j)
    (λ gs i. and_then (step_outcome (count_value (values gs)) i) (λ ns. go ns (values gs))))
unfolding count_value counted
count_as_order go xs k = by (nat_lt (length xs) (2 ^ 63)) refl
  where
    plain : and_then (sorted wrong_type [] (placed xs) k)
        (λ gs i. and_then (step_outcome (count_value (values gs)) i) (λ ns. go ns (values gs)))
        ≡ and_then (step_outcome (count_value xs) k) (λ ns. go ns xs)
    plain =
        ap (λ o. and_then o (λ gs i. and_then (step_outcome (count_value (values gs)) i)
        (λ ns. go ns (values gs)))) (sorted_plain wrong_type (placed xs) k)
        ∙ ap (λ ys. and_then (step_outcome (count_value ys) k) (λ ns. go ns ys))
        (values_placed 1 (length xs) xs)

    by : (b : Bool) → nat_lt (length xs) (2 ^ 63) ≡ b →
        and_then (step_outcome (count_value xs) k) (λ ns. go ns xs)
        ≡ and_then (step_outcome (if b then Ok (placed xs) else Err (Dynamic FOAR0002)) k)
        (λ fs j. and_then (sorted wrong_type [] fs j)
        (λ gs i. and_then (step_outcome (count_value (values gs)) i) (λ ns. go ns (values gs))))
    by true e = sym plain
    by false e = rw e refl

module _ (like : Code → Code → Type 0) (lax : (a b : Code) → like a b) (rel : Relation)
    (carries : IsCarrying like rel) (t : Table) (p q : Program) (x : Spot) where
  abbrev pub Outcomes : Outcome (List Item) → Outcome (List Item) → Type 0
  Outcomes o r = rel (List Item) (Every IsSound) o r

  module _ (rules : List Rule) (doors : Doors) (select : Option Meaning) (from : Expr)
      (selected : Meets like lax rel carries t x (selection_of select) (outcome q from))
      (mode : ModeUse) (params : List BoundMeaning) (name : ExprName) (bs : Lets q) (args : List Expr)
      (R : Env → Env → List Item → Passed → Env → Type 0)
      (passing : (e f : Env) → IsAt t x e f → (xs : List Item) → Every IsSound xs →
      (a : Passed → ℕ → Outcome (List Item)) (b : Meaning) →
      ((u : Passed) (g : Env) → R e f xs u g → (k : ℕ) → Outcomes (a u k) (b g k)) → (k : ℕ) →
      Outcomes (and_then (passed_of params e k) a)
      (lets_then q bs b (counted_items q f (of_integer (pos (length xs))) xs) k))
      (held : (e f : Env) (xs : List Item) (u : Passed) (g : Env) → R e f xs u g →
      look_up g.locals items_name ≡ Some xs)
      (entering : (e f : Env) → IsAt t x e f → (xs : List Item) (u : Passed) (g : Env) →
      R e f xs u g → (i : Placed Item) → InListOf IsSound (length xs) i → (k : ℕ) →
      Outcomes (entered_at rules doors (mode_of mode e) u i k)
      (outcome q (in_its_place name args) (turn_env g i) k)) where
    abbrev enter_all : Env → List (Placed Item) → ℕ → Outcome (List Item)
    enter_all e fs k =
        and_then (passed_of params e k) (λ u. for_each (entered_at rules doors (mode_of mode e) u) fs)

    abbrev passed_on : Env → List Item → List Item → ℕ → Outcome (List Item)
    passed_on f ns xs = lets_then q bs (each_item q (in_its_place name args)) (counted_items q f ns xs)

    all_entered : (e f : Env) → IsAt t x e f → (xs : List Item) → Every IsSound xs →
        nat_lt (length xs) (2 ^ 63) ≡ true → (k : ℕ) →
        Outcomes (enter_all e (placed xs) k) (passed_on f (of_integer (pos (length xs))) xs k)
    all_entered e f at xs good few k =
        passing e f at xs good _ _ (λ u g r j.
        rw (gives_variable q items_name g xs (held e f xs u g r) j, few)
        (each_carried like rel carries (InListOf IsSound (length xs)) IsSound
        (entered_at rules doors (mode_of mode e) u) (λ i. outcome q (in_its_place name args) (turn_env g i))
        (λ i l h. entering e f at xs u g r i h l) (placed xs)
        (sized_from IsSound 1 (length xs) (length xs) refl xs good) j)) k

    module _ (carry : Carry) (sorts : List (Sort Expr))
        (keys : KeysMeet like lax rel carries t p q carry (looped_spot x) sorts) where
      -- in order, and then counted and entered
      in_order_entered : (e f : Env) → IsAt t x e f → (xs : List Item) → Every IsSound xs →
          (m : Placed Item → Env) →
          ((g : Placed Item) → InListOf IsSound (length xs) g → IsAt t (looped_spot x) (at_item e g) (m g)) →
          (k : ℕ) →
          Outcomes (and_then (in_sort_order (sorts_mean p sorts) e xs k) (enter_all e))
          (and_then (step_outcome (places xs) k) (λ fs j. and_then
          (sorted wrong_type (columns_at m (map (order_gives meanings (steps q)) (sort_orders carry sorts))) fs j)
          (λ gs i. and_then (step_outcome (count_value (values gs)) i)
          (λ ns. passed_on f ns (values gs)))))
      in_order_entered e f at xs good m near k =
          let cs = sort_columns (at_item e) (sorts_mean p sorts) in
          let ds = columns_at m (map (order_gives meanings (steps q)) (sort_orders carry sorts)) in
          subst (λ o. Outcomes o (and_then (step_outcome (places xs) k) (λ fs j. and_then
          (sorted wrong_type ds fs j) (λ gs i. and_then (step_outcome (count_value (values gs)) i)
          (λ ns. passed_on f ns (values gs))))))
          (sym (then_assoc (step_outcome (places xs) k) _ (enter_all e)
          ∙ then_same (step_outcome (places xs) k) _ _
          (λ fs j. then_assoc (sorted mixed cs fs j) _ (enter_all e))))
          (order_then like rel carries IsSound (Every IsSound) mixed wrong_type (lax mixed wrong_type)
          cs ds xs
          (columns_relate like lax rel carries t p q carry (looped_spot x)
          (InListOf IsSound (length xs)) (at_item e) m near sorts keys) good
          (λ gs j. enter_all e (placed (values gs)) j)
          (λ gs i. and_then (step_outcome (count_value (values gs)) i) (λ ns. passed_on f ns (values gs)))
          (λ gs i is. entered e f at xs gs is i) k)
        where
          entered : (e f : Env) → IsAt t x e f → (xs : List Item) (gs : List (Placed Item)) →
              IsOrderOf IsSound xs gs → (i : ℕ) →
              Outcomes (enter_all e (placed (values gs)) i)
              (and_then (step_outcome (count_value (values gs)) i) (λ ns. passed_on f ns (values gs)))
          entered e f at xs gs is i =
              let few : nat_lt (length (values gs)) (2 ^ 63) ≡ true =
              ap (λ n. nat_lt n (2 ^ 63)) (length-map gs (λ g. g.value) ∙ is.1.0) ∙ is.1.1 in
              rw (count_few (values gs) few i)
              (all_entered e f at (values gs) (values_good IsSound (length xs) gs is.0) few i)

      abbrev orders : List Order
      orders = sort_orders carry sorts

      abbrev counted_then : Env → List Item → ℕ → Outcome (List Item)
      counted_then f ys k = and_then (step_outcome (count_value ys) k) (λ ns. passed_on f ns ys)

      -- .. after the order that the query puts them into
      ordered_entered : (e f : Env) → IsAt t x e f → (xs : List Item) → Every IsSound xs →
          (m : Placed Item → Env) →
          ((g : Placed Item) → InListOf IsSound (length xs) g → IsAt t (looped_spot x) (at_item e g) (m g)) →
          (k : ℕ) →
          Outcomes (and_then (in_sort_order (sorts_mean p sorts) e xs k) (enter_all e))
          (and_then (in_query_order
          (columns_at m (map (order_gives meanings (steps q)) orders)) xs k) (counted_then f))
      ordered_entered e f at xs good m near k =
          let ds = columns_at m (map (order_gives meanings (steps q)) orders) in
          subst (Outcomes (and_then (in_sort_order (sorts_mean p sorts) e xs k) (enter_all e)))
          (sym (then_assoc (step_outcome (places xs) k) _ (counted_then f)
          ∙ then_same (step_outcome (places xs) k) _ _
          (λ fs j. then_assoc (sorted wrong_type ds fs j) _ (counted_then f))))
          (in_order_entered e f at xs good m near k)

      abbrev apply_at : Env → ℕ → Outcome (List Item)
      apply_at e k = apply_of rules doors select mode (sorts_mean p sorts) params e k

      by_size : (e f : Env) → IsAt t x e f → (k : ℕ) → (b : Bool) → in_orders size_name orders ≡ b →
          Outcomes (apply_at e k)
          (and_then (outcome q (if b
          then flow_ordered (items_let from ∷ size_let ∷ in_turn the_items ∷ []) orders the_item
          else flow_ordered (in_turn from ∷ []) orders the_item) f k) (counted_then f))
      by_size e f at k true h =
          subst (Outcomes (apply_at e k))
          (sym (ap (λ o. and_then o (counted_then f)) (long_order q from orders f k)
          ∙ then_assoc (outcome q from f k) _ (counted_then f)))
          (carries.next _ _ (Every IsSound) (Every IsSound) (selection_of select e k)
          (outcome q from f k) _ _ (selected e f at k) (λ xs j good.
          ordered_entered e f at xs good (turn_env (counted_env q f xs))
          (λ g is. sorted_counted t x e f at (length xs) g is xs) j))
      by_size e f at k false h =
          subst (Outcomes (apply_at e k))
          (sym (ap (λ o. and_then o (counted_then f)) (ordered_gives q from orders f k
          ∙ then_same (outcome q from f k) _ _
          (λ xs j. short_sorted like lax rel carries t p q carry x sorts keys f h xs j))
          ∙ then_assoc (outcome q from f k) _ (counted_then f)))
          (carries.next _ _ (Every IsSound) (Every IsSound) (selection_of select e k)
          (outcome q from f k) _ _ (selected e f at k) (λ xs j good.
          ordered_entered e f at xs good (λ g. bind_all (turn_behind [] (length xs) g) f)
          (λ g is. sorted_alone t x e f at (length xs) g is) j))

    module _ (carry : Carry) where
      sorted_entered : (sorts : List (Sort Expr)) →
          KeysMeet like lax rel carries t p q carry (looped_spot x) sorts → (e f : Env) →
          IsAt t x e f → (k : ℕ) →
          Outcomes (apply_of rules doors select mode (sorts_mean p sorts) params e k)
          (and_then (outcome q (sorted_expr from (sort_orders carry sorts)) f k)
          (λ ys j. and_then (step_outcome (count_value ys) j) (λ ns. passed_on f ns ys)))
      unfolding sorted_expr ordered
      sorted_entered [] keys e f at k =
          carries.next _ _ (Every IsSound) (Every IsSound) (selection_of select e k)
          (outcome q from f k) _ _ (selected e f at k) (λ xs j good.
          subst (Outcomes (and_then (in_sort_order [] e xs j) (enter_all e)))
          (sym (count_as_order (passed_on f) xs j))
          (in_order_entered carry [] tt e f at xs good
          (λ g. bind_all (turn_behind [] (length xs) g) f)
          (λ g is. sorted_alone t x e f at (length xs) g is) j))
      sorted_entered (s ∷ sorts) keys e f at k =
          by_size carry (s ∷ sorts) keys e f at k
          (in_orders size_name (sort_orders carry (s ∷ sorts))) refl

      -- xsl:apply-templates
      pub apply_done : (sorts : List (Sort Expr)) →
          KeysMeet like lax rel carries t p q carry (looped_spot x) sorts →
          Meets like lax rel carries t x (apply_of rules doors select mode (sorts_mean p sorts) params)
          (outcome q (applied (sorted_expr from (sort_orders carry sorts)) name (map (let_of q) bs) args))
      apply_done sorts keys e f at k =
          subst (Outcomes (apply_of rules doors select mode (sorts_mean p sorts) params e k))
          (sym (applied_does q (sorted_expr from (sort_orders carry sorts)) name bs args f k))
          (sorted_entered sorts keys e f at k)
