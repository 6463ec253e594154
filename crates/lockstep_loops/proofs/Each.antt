-- xsl:for-each and xsl:perform-sort do in the query what they do in the stylesheet.
use Rattle.std.proofs.Common.{◌≡◌, ℕ, List, [], ◌∷◌, length, refl, ap, sym, ◌∙◌, map, subst}
use Rattle.std.specs.Prelude.{Bool, true, false, Some, pos, if◌then◌else◌}
use Rattle.xt_names.specs.declared.codes.Code.{Code}
use Rattle.xt_atoms.specs.Casts.{wrong_type}
use Rattle.xdm_items.specs.declared.items.Item.{Item}
use Rattle.xt_syntax.specs.declared.exprs.Expr.{Expr}
use Rattle.xt_syntax.specs.declared.exprs.Order.{Order}
use Rattle.xt_syntax.specs.Layers.{order_gives}
use Rattle.xt_sheets.specs.declared.values.Sort.{Sort}
use Rattle.xdm_items.specs.FunctionArguments.Answers.{of_integer}
use Rattle.expr_meaning.specs.Outcomes.Outcome.{Outcome, Ends, and_then, step_outcome, Every}
use Rattle.expr_meaning.specs.Outcomes.Follow.{Relation, IsCarrying}
use Rattle.expr_meaning.proofs.OutcomesLemmas.Relations.{each_carried}
use Rattle.expr_meaning.proofs.OutcomesLemmas.Steps.{then_assoc, then_same}
use Rattle.expr_meaning.specs.SortMeaning.Related.{ColumnsRelate}
use Rattle.expr_meaning.specs.SortMeaning.Sorted.{Column, Placed, places, placed, values, sorted, visit}
use Rattle.expr_meaning.proofs.SortMeaning.Sorting.{values_placed}
use Rattle.expr_meaning.specs.Env.{Binding, Env, Meaning, Program, bind_all, look_up}
use Rattle.expr_meaning.specs.Flow.{columns_at}
use Rattle.expr_meaning.specs.Meaning.{meanings, steps, outcome}
use Rattle.meaning_laws.specs.SoundValues.Sound.{IsSound}
use Rattle.carried_exprs.specs.Sights.{item_name, position_name, size_name, the_item}
use Rattle.transform_meaning.specs.Instrs.{sorts_mean}
use Rattle.transform_meaning.specs.Places.{at_item, in_turn as turned}
use Rattle.transform_meaning.specs.Sorting.{sort_columns, mixed, each_of, in_sort_order}
use Rattle.translated_forms.specs.Names.{items_name}
use Rattle.translated_forms.specs.Mentions.{mentions, in_orders}
use Rattle.translated_forms.specs.Loops.{sort_orders, each_in, needs_size, ordered}
use Rattle.translated_forms.specs.Loops.{in_turn, items_let, size_let, the_items}
use Rattle.translated_forms.specs.Forms.{flow, flow_ordered}
use Rattle.translated_forms.specs.Places.{Table}
use Rattle.translated_forms.specs.Texts.{Carry}
use Rattle.lockstep.specs.Spots.{Spot, IsAt, looped_spot}
use Rattle.lockstep.proofs.Frame.{Meets, at_turn, at_sort}
use Rattle.lockstep_loops.specs.Beside.{Beside}
use Rattle.lockstep_loops.proofs.FlowGives.{turn}
use Rattle.lockstep_loops.proofs.LoopForms.{turn_env, order_columns, counted_env, long_loop, short_loop}
use Rattle.lockstep_loops.proofs.LoopForms.{in_query_order, long_order, ordered_gives}
use Rattle.lockstep_loops.proofs.Sized.{InListOf, order_then, new_places, values_good}
use Rattle.lockstep_loops.proofs.Unsized.{hidden_behind, columns_same}
use Rattle.lockstep_loops.proofs.Unmentioned.{no_first, no_second, unmentioned}
use Rattle.lockstep_loops.proofs.Columns.{KeysMeet, columns_relate}

-- an item of a loop after other bindings, of which the first is the number of items
abbrev pub turn_behind : List Binding → ℕ → Placed Item → List Binding
turn_behind bs n p = turn item_name position_name ((size_name, of_integer (pos n)) ∷ bs) p

module _ (t : Table) (x : Spot) (e f : Env) (at : IsAt t x e f) (n : ℕ) (p : Placed Item)
    (g : InListOf IsSound n p) where
  size_held : look_up ((size_name, of_integer (pos n)) ∷ []) size_name ≡ Some (of_integer (pos p.size))
  unfolding look_up
  size_held = ap (λ m. Some (of_integer (pos m))) (sym g.1)

  pub turned_alone : IsAt t (looped_spot x) (turned e p) (bind_all (turn_behind [] n p) f)
  unfolding look_up
  turned_alone =
      at_turn (turn_behind [] n p) ((refl, refl), ((refl, refl), ((refl, refl), tt))) t x e f at p g.0
      refl refl size_held (λ locals. refl) (λ locals. refl)

  pub turned_counted : (xs : List Item) →
      IsAt t (looped_spot x) (turned e p) (bind_all (turn_behind ((items_name, xs) ∷ []) n p) f)
  unfolding look_up
  turned_counted xs =
      at_turn (turn_behind ((items_name, xs) ∷ []) n p)
      ((refl, refl), ((refl, refl), ((refl, refl), ((refl, refl), tt)))) t x e f at p g.0
      refl refl size_held (λ locals. refl) (λ locals. refl)

  pub sorted_alone : IsAt t (looped_spot x) (at_item e p) (bind_all (turn_behind [] n p) f)
  unfolding look_up
  sorted_alone =
      at_sort (turn_behind [] n p) ((refl, refl), ((refl, refl), ((refl, refl), tt))) t x e f at p g.0
      refl refl size_held (λ locals. refl) (λ locals. refl)

  pub sorted_counted : (xs : List Item) →
      IsAt t (looped_spot x) (at_item e p) (bind_all (turn_behind ((items_name, xs) ∷ []) n p) f)
  unfolding look_up
  sorted_counted xs =
      at_sort (turn_behind ((items_name, xs) ∷ []) n p)
      ((refl, refl), ((refl, refl), ((refl, refl), ((refl, refl), tt)))) t x e f at p g.0
      refl refl size_held (λ locals. refl) (λ locals. refl)

module _ (like : Code → Code → Type 0) (lax : (a b : Code) → like a b) (rel : Relation)
    (carries : IsCarrying like rel) (t : Table) (p q : Program) (carry : Carry) (x : Spot)
    (sorts : List (Sort Expr))
    (keys : KeysMeet like lax rel carries t p q carry (looped_spot x) sorts) where
  abbrev sheet_columns : Env → List (Column (Placed Item))
  sheet_columns e = sort_columns (at_item e) (sorts_mean p sorts)

  abbrev columns_in : (Placed Item → Env) → List (Column (Placed Item))
  columns_in m = columns_at m (map (order_gives meanings (steps q)) (sort_orders carry sorts))

  module _ (e : Env) (xs : List Item) (m : Placed Item → Env)
      (at : (g : Placed Item) → InListOf IsSound (length xs) g → IsAt t (looped_spot x) (at_item e g) (m g))
    where
      columns : ColumnsRelate rel (InListOf IsSound (length xs)) (sheet_columns e) (columns_in m)
      columns =
          columns_relate like lax rel carries t p q carry (looped_spot x)
          (InListOf IsSound (length xs)) (at_item e) m at sorts keys

      -- the same items in the same order, each with its body
      visits_relate : (f g : Placed Item → ℕ → Outcome (List Item)) →
          ((i : Placed Item) → InListOf IsSound (length xs) i → (k : ℕ) →
          rel (List Item) (Every IsSound) (f i k) (g i k)) → Every IsSound xs → (k : ℕ) →
          rel (List Item) (Every IsSound) (visit mixed (sheet_columns e) f xs k)
          (visit wrong_type (columns_in m) g xs k)
      visits_relate f g h good k =
          carries.next _ _ (Every (InListOf IsSound (length xs))) (Every IsSound) _ _ _ _
          (order_then like rel carries IsSound (Every (InListOf IsSound (length xs))) mixed wrong_type
          (lax mixed wrong_type) (sheet_columns e) (columns_in m) xs columns good _ _
          (λ gs j is. carries.ends _ _ (placed (values gs)) j
          (new_places like rel carries IsSound xs gs is)) k) (λ gs j all.
          each_carried like rel carries (InListOf IsSound (length xs)) IsSound f g
          (λ i l d. h i d l) gs all j)

      -- items put into order
      orders_relate : Every IsSound xs → (k : ℕ) → rel (List Item) (Every IsSound)
          (and_then (in_sort_order (sorts_mean p sorts) e xs k) (λ fs j. Ends (values fs) j))
          (in_query_order (columns_in m) xs k)
      orders_relate good k =
          subst (λ o. rel (List Item) (Every IsSound) o (in_query_order (columns_in m) xs k))
          (sym (then_assoc (step_outcome (places xs) k) _ _
          ∙ then_same (step_outcome (places xs) k) _ _
          (λ fs j. then_assoc (sorted mixed (sheet_columns e) fs j) _ _)))
          (order_then like rel carries IsSound (Every IsSound) mixed wrong_type (lax mixed wrong_type)
          (sheet_columns e) (columns_in m) xs columns good
          (λ gs j. Ends (values (placed (values gs))) j) (λ gs j. Ends (values gs) j)
          (λ gs j is. rw (values_placed 1 (length (values gs)) (values gs))
          (carries.ends _ _ (values gs) j (values_good IsSound (length xs) gs is.0))) k)

  abbrev orders : List Order
  orders = sort_orders carry sorts

  abbrev alone_at : Env → ℕ → Placed Item → Env
  alone_at f n g = bind_all (turn_behind [] n g) f

  -- without the size
  unsized : (f : Env) (n : ℕ) (g : Placed Item) → Beside (size_name ∷ []) (turn_env f g) (alone_at f n g)
  unsized f n g = hidden_behind size_name (of_integer (pos n)) (turn item_name position_name [] g) f

  short_visit : (body : Expr) (f : Env) → needs_size orders body ≡ false → (xs : List Item) (k : ℕ) →
      visit wrong_type (order_columns q orders f) (λ g. outcome q body (turn_env f g)) xs k
      ≡ visit wrong_type (columns_in (alone_at f (length xs)))
      (λ g. outcome q body (alone_at f (length xs) g)) xs k
  short_visit body f h xs k =
      let none = no_first (in_orders size_name orders) (mentions size_name body) h in
      let free = no_second (in_orders size_name orders) (mentions size_name body) h in
      λ i. visit wrong_type
      (columns_same q size_name carry (turn_env f) (alone_at f (length xs)) (unsized f (length xs)) sorts
      none i)
      (λ g j. unmentioned size_name q body free (turn_env f g) (alone_at f (length xs) g)
      (unsized f (length xs) g) j i) xs k

  pub short_sorted : (f : Env) → in_orders size_name orders ≡ false → (xs : List Item) (k : ℕ) →
      in_query_order (order_columns q orders f) xs k
      ≡ in_query_order (columns_in (alone_at f (length xs))) xs k
  short_sorted f none xs k =
      λ i. in_query_order
      (columns_same q size_name carry (turn_env f) (alone_at f (length xs)) (unsized f (length xs)) sorts
      none i) xs k

  module _ (select : Meaning) (from : Expr) (selected : Meets like lax rel carries t x select (outcome q from))
    where
      -- xsl:for-each
      module _ (body : Meaning) (inner : Expr)
          (done : Meets like lax rel carries t (looped_spot x) body (outcome q inner)) where
        each_at : (e f : Env) → IsAt t x e f → (k : ℕ) → (b : Bool) → needs_size orders inner ≡ b →
            rel (List Item) (Every IsSound) (each_of select (sorts_mean p sorts) body e k)
            (outcome q (if b then flow (items_let from ∷ size_let ∷ in_turn (ordered the_items orders) ∷ []) inner
            else flow (in_turn (ordered from orders) ∷ []) inner) f k)
        each_at e f at k true h =
            subst (rel (List Item) (Every IsSound) (each_of select (sorts_mean p sorts) body e k))
            (sym (long_loop q from orders inner f k))
            (carries.next _ _ (Every IsSound) (Every IsSound) (select e k) (outcome q from f k) _ _
            (selected e f at k) (λ xs j good.
            visits_relate e xs (turn_env (counted_env q f xs))
            (λ g is. sorted_counted t x e f at (length xs) g is xs)
            (λ g. body (turned e g)) (λ g. outcome q inner (turn_env (counted_env q f xs) g))
            (λ g is i. done (turned e g) (turn_env (counted_env q f xs) g)
            (turned_counted t x e f at (length xs) g is xs) i) good j))
        each_at e f at k false h =
            subst (rel (List Item) (Every IsSound) (each_of select (sorts_mean p sorts) body e k))
            (sym (short_loop q from orders inner f k
            ∙ then_same (outcome q from f k) _ _ (λ xs j. short_visit inner f h xs j)))
            (carries.next _ _ (Every IsSound) (Every IsSound) (select e k) (outcome q from f k) _ _
            (selected e f at k) (λ xs j good.
            visits_relate e xs (alone_at f (length xs))
            (λ g is. sorted_alone t x e f at (length xs) g is)
            (λ g. body (turned e g)) (λ g. outcome q inner (alone_at f (length xs) g))
            (λ g is i. done (turned e g) (alone_at f (length xs) g)
            (turned_alone t x e f at (length xs) g is) i) good j))

        pub each_done : Meets like lax rel carries t x (each_of select (sorts_mean p sorts) body)
            (outcome q (each_in from orders inner))
        unfolding each_in
        each_done e f at k = each_at e f at k (needs_size orders inner) refl

      pub sorted_at : (e f : Env) → IsAt t x e f → (k : ℕ) → (b : Bool) → in_orders size_name orders ≡ b →
          rel (List Item) (Every IsSound)
          (and_then (select e k) (λ xs j.
          and_then (in_sort_order (sorts_mean p sorts) e xs j) (λ fs i. Ends (values fs) i)))
          (outcome q (if b then flow_ordered (items_let from ∷ size_let ∷ in_turn the_items ∷ []) orders the_item
          else flow_ordered (in_turn from ∷ []) orders the_item) f k)
      sorted_at e f at k true h =
          subst (rel (List Item) (Every IsSound) _) (sym (long_order q from orders f k))
          (carries.next _ _ (Every IsSound) (Every IsSound) (select e k) (outcome q from f k) _ _
          (selected e f at k) (λ xs j good.
          orders_relate e xs (turn_env (counted_env q f xs))
          (λ g is. sorted_counted t x e f at (length xs) g is xs) good j))
      sorted_at e f at k false h =
          subst (rel (List Item) (Every IsSound) _)
          (sym (ordered_gives q from orders f k
          ∙ then_same (outcome q from f k) _ _ (λ xs j. short_sorted f h xs j)))
          (carries.next _ _ (Every IsSound) (Every IsSound) (select e k) (outcome q from f k) _ _
          (selected e f at k) (λ xs j good.
          orders_relate e xs (alone_at f (length xs))
          (λ g is. sorted_alone t x e f at (length xs) g is) good j))
