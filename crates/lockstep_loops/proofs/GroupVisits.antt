-- Two visits of one list in the order of keys, each of what it makes of the values.
use Rattle.std.proofs.Common.{◌≡◌, ◌^◌, ℕ, List, [], length, refl, ap, sym, ◌∙◌, map, subst}
use Rattle.std.proofs.lemmas.List.{length-map}
use Rattle.std.proofs.lemmas.Simd.{map-map}
use Rattle.std.specs.Prelude.{Bool, true, nat_lt}
use Rattle.xt_names.specs.declared.codes.Code.{Code}
use Rattle.xt_atoms.specs.Casts.{wrong_type}
use Rattle.xdm_items.specs.declared.items.Item.{Item}
use Rattle.order_group.specs.Rows.{Keyed, Row}
use Rattle.order_group.proofs.Natural.{rekeyed}
use Rattle.expr_meaning.specs.Outcomes.Outcome.{Outcome, Ends, Fails, Deep, and_then, step_outcome, for_each, OnEnds, Every, Anything}
use Rattle.expr_meaning.specs.Outcomes.Follow.{Relation, IsCarrying}
use Rattle.expr_meaning.proofs.OutcomesLemmas.Relations.{each_carried, step_carried}
use Rattle.expr_meaning.proofs.OutcomesLemmas.Steps.{each_made, made, then_assoc, then_same}
use Rattle.expr_meaning.specs.SortMeaning.Sorted.{Column, Placed, all_moved, directions, ordered, placed, placed_as, places}
use Rattle.expr_meaning.specs.SortMeaning.Sorted.{row_of, sorted, values, visit, with_row}
use Rattle.expr_meaning.proofs.SortMeaning.Carried.{ordered_carried}
use Rattle.expr_meaning.proofs.SortMeaning.Sorting.{placed_long, sorted_long, visit_moved, visit_plain}
use Rattle.transform_meaning.specs.Sorting.{mixed}
use Rattle.lockstep_loops.proofs.NeededRows.{order_made, row_with}
use Rattle.lockstep_loops.proofs.Sized.{InListOf, IsAsLong, IsOrderOf, both_on, few_places, new_places, order_keeps}
use Rattle.lockstep_loops.proofs.Sized.{sized_from}

order_known : {A : Type 0} (P : A → Type 0) (xs : List A) (m : Code) (cs : List (Column (Placed A)))
    (fs : List (Placed A)) → IsOrderOf P xs fs → (k : ℕ) → OnEnds (IsOrderOf P xs) (sorted m cs fs k)
order_known {A} P xs m cs fs is k =
    both_on (Every (InListOf P (length xs))) (IsAsLong xs) (sorted m cs fs k)
    (order_keeps (InListOf P (length xs)) m cs fs is.0 k) (as_long (sorted m cs fs k) (sorted_long m cs fs k))
  where
    as_long : (o : Outcome (List (Placed A))) → OnEnds (λ gs. length gs ≡ length fs) o →
        OnEnds (IsAsLong xs) o
    as_long (Ends gs i) e = (e ∙ is.1.0, is.1.1)
    as_long (Fails code) e = tt
    as_long Deep e = tt

-- the places of what is made of values
places_of_made : {A B C : Type 0} (g : A → B) (b : Placed B → ℕ → Outcome (List C)) (xs : List A) (k : ℕ) →
    and_then (step_outcome (places (map g xs)) k) (for_each b)
    ≡ and_then (step_outcome (places xs) k) (for_each (λ p. b (placed_as g p)))
places_of_made g b xs k =
    sym (visit_plain wrong_type b (map g xs) k)
    ∙ visit_moved g wrong_type [] b xs k
    ∙ visit_plain wrong_type (λ p. b (placed_as g p)) xs k

values_made : {A B : Type 0} (g : A → B) (ps : List (Placed A)) →
    values (map (placed_as g) ps) ≡ map g (values ps)
values_made g ps = map-map (λ p. p.value) (placed_as g) ps ∙ sym (map-map g (λ p. p.value) ps)

module _ {A B C : Type 0} (h : A → B) (g : A → Item) (cs : List (Column (Placed B)))
    (a : Placed B → ℕ → Outcome (List C)) (keys : Placed Item → ℕ → Outcome Row) (ds : List Bool)
    (b : Placed Item → ℕ → Outcome (List C)) where
  abbrev sheet_columns : List (Column (Placed A))
  sheet_columns = all_moved (placed_as h) cs

  abbrev key_row : Placed Item → ℕ → Outcome (List (Keyed (Placed Item)))
  key_row p k = and_then (keys p k) (row_with p)

  abbrev pub query_order : List Item → ℕ → Outcome (List Item)
  query_order ks k =
      and_then (step_outcome (places ks) k) (λ fs j. and_then (for_each key_row fs j) (λ rows i.
      and_then (ordered wrong_type ds rows i) (λ ps l. Ends (values ps) l)))

  abbrev rest : List Item → ℕ → Outcome (List C)
  rest ys k = and_then (step_outcome (places ys) k) (for_each b)

  abbrev made_row : Placed A → ℕ → Outcome (List (Keyed (Placed A)))
  made_row p k = and_then (keys (placed_as g p) k) (row_with p)

  abbrev ends_order : List (Keyed (Placed Item)) → ℕ → Outcome (List Item)
  ends_order rows k = and_then (ordered wrong_type ds rows k) (λ ps l. Ends (values ps) l)

  -- the query's visit, over the values of which its items are made
  query_is : (xs : List A) (k : ℕ) → and_then (query_order (map g xs) k) rest
      ≡ and_then (step_outcome (places xs) k) (λ fs j. and_then (and_then (for_each made_row fs j)
      (ordered wrong_type ds)) (λ gs l. rest (map g (values gs)) l))
  query_is xs k =
      ap (λ o. and_then o rest)
      (sym (then_assoc (step_outcome (places (map g xs)) k) (for_each key_row) ends_order)
      ∙ ap (λ o. and_then o ends_order) (places_of_made g key_row xs k)
      ∙ then_assoc (step_outcome (places xs) k) _ ends_order)
      ∙ then_assoc (step_outcome (places xs) k) _ rest
      ∙ then_same (step_outcome (places xs) k) _ _ (λ fs j.
      ap (λ o. and_then (and_then o ends_order) rest)
      (each_made (rekeyed (placed_as g)) (λ p. key_row (placed_as g p)) made_row
      (λ p l. sym (then_assoc (keys (placed_as g p) l) (row_with p) (made (rekeyed (placed_as g))))) fs j)
      ∙ ap (λ o. and_then o rest)
      (then_assoc (for_each made_row fs j) (made (rekeyed (placed_as g))) ends_order)
      ∙ ap (λ o. and_then o rest) (then_same (for_each made_row fs j) _ _ (λ rows i.
      ap (λ o. and_then o (λ ps l. Ends (values ps) l)) (order_made (placed_as g) wrong_type ds rows i)
      ∙ then_assoc (ordered wrong_type ds rows i) (made (placed_as g)) (λ ps l. Ends (values ps) l)
      ∙ then_same (ordered wrong_type ds rows i) _ _ (λ gs l. ap (λ ys. Ends ys l) (values_made g gs))))
      ∙ ap (λ o. and_then o rest) (sym (then_assoc (for_each made_row fs j) (ordered wrong_type ds)
      (λ gs l. Ends (map g (values gs)) l)))
      ∙ then_assoc (and_then (for_each made_row fs j) (ordered wrong_type ds)) _ rest)

  -- the stylesheet's, over them
  sheet_is : (xs : List A) (k : ℕ) → visit mixed cs a (map h xs) k
      ≡ and_then (step_outcome (places xs) k) (λ fs j. and_then (sorted mixed sheet_columns fs j)
      (λ gs l. for_each (λ p. a (placed_as h p)) (placed (values gs)) l))
  sheet_is xs k =
      visit_moved h mixed cs a xs k
      ∙ then_assoc (step_outcome (places xs) k) _ (for_each (λ p. a (placed_as h p)))
      ∙ then_same (step_outcome (places xs) k) _ _
      (λ fs j. then_assoc (sorted mixed sheet_columns fs j) _ (for_each (λ p. a (placed_as h p))))

  module _ (like : Code → Code → Type 0) (lax : (a b : Code) → like a b) (rel : Relation)
      (carries : IsCarrying like rel) (P : C → Type 0) (Q : A → Type 0) (xs : List A)
      (same : directions sheet_columns ≡ ds)
      (rows : (p : Placed A) → InListOf Q (length xs) p → nat_lt (length xs) (2 ^ 63) ≡ true → (k : ℕ) →
      rel Row Anything (row_of sheet_columns p k) (keys (placed_as g p) k))
      (bodies : (p : Placed A) → InListOf Q (length xs) p → nat_lt (length xs) (2 ^ 63) ≡ true → (k : ℕ) →
      rel (List C) (Every P) (a (placed_as h p) k) (b (placed_as g p) k)) where
    row_related : nat_lt (length xs) (2 ^ 63) ≡ true → (p : Placed A) (k : ℕ) →
        InListOf Q (length xs) p →
        rel (List (Keyed (Placed A))) (Every (λ row. InListOf Q (length xs) row.value))
        (with_row sheet_columns p k) (made_row p k)
    row_related few p k is =
        carries.next Row (List (Keyed (Placed A))) Anything
        (Every (λ row. InListOf Q (length xs) row.value)) (row_of sheet_columns p k)
        (keys (placed_as g p) k) _ (row_with p) (rows p is few k)
        (λ cells j u. carries.ends _ _ _ j (is, tt))

    order_related : (fs : List (Placed A)) → IsOrderOf Q xs fs → (k : ℕ) →
        rel (List (Placed A)) (IsOrderOf Q xs) (sorted mixed sheet_columns fs k)
        (and_then (for_each made_row fs k) (ordered wrong_type ds))
    order_related fs is k =
        carries.also (List (Placed A)) (Every (InListOf Q (length xs))) (IsOrderOf Q xs) _ _
        (carries.next _ _ (Every (λ row. InListOf Q (length xs) row.value))
        (Every (InListOf Q (length xs))) (for_each (with_row sheet_columns) fs k) (for_each made_row fs k) _ _
        (each_carried like rel carries (InListOf Q (length xs)) (λ row. InListOf Q (length xs) row.value)
        (with_row sheet_columns) made_row (row_related is.1.1) fs is.0 k)
        (λ rs j all. ordered_carried like rel carries (InListOf Q (length xs)) mixed wrong_type
        (lax mixed wrong_type) (directions sheet_columns) ds same rs all j))
        (order_known Q xs mixed sheet_columns fs is k)

    pub visits_in_order : Every Q xs → (k : ℕ) →
        rel (List C) (Every P) (visit mixed cs a (map h xs) k) (and_then (query_order (map g xs) k) rest)
    visits_in_order all k =
        rw (sheet_is xs k, query_is xs k)
        (carries.next _ _ (IsOrderOf Q xs) (Every P) (step_outcome (places xs) k)
        (step_outcome (places xs) k) _ _
        (step_carried like rel carries (IsOrderOf Q xs) (places xs) k
        (few_places (IsOrderOf Q xs) xs k
        (λ few. (sized_from Q 1 (length xs) (length xs) refl xs all, (placed_long 1 (length xs) xs, few)))))
        (λ fs j is.
        carries.next _ _ (IsOrderOf Q xs) (Every P) (sorted mixed sheet_columns fs j)
        (and_then (for_each made_row fs j) (ordered wrong_type ds)) _ _ (order_related fs is j)
        (λ gs i r. last gs r i)))
      where
        last : (gs : List (Placed A)) → IsOrderOf Q xs gs → (k : ℕ) →
            rel (List C) (Every P) (for_each (λ p. a (placed_as h p)) (placed (values gs)) k)
            (rest (map g (values gs)) k)
        last gs r k =
            let few : nat_lt (length (values gs)) (2 ^ 63) ≡ true =
            ap (λ n. nat_lt n (2 ^ 63)) (length-map gs (λ p. p.value) ∙ r.1.0) ∙ r.1.1 in
            subst (rel (List C) (Every P) (for_each (λ p. a (placed_as h p)) (placed (values gs)) k))
            (sym (places_of_made g b (values gs) k ∙ rw few refl))
            (each_carried like rel carries (InListOf Q (length xs)) P (λ p. a (placed_as h p))
            (λ p. b (placed_as g p)) (λ p i d. bodies p d r.1.1 i) (placed (values gs))
            (new_places like rel carries Q xs gs r) k)
