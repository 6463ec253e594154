-- What goes over items in the order of their keys is carried where its parts are.
use Rattle.std.proofs.Common.{◌≡◌, ℕ, List, [], ◌∷◌}
use Rattle.xdm_items.specs.declared.items.Item.{Item}
use Rattle.expr_meaning.specs.Outcomes.Outcome.{Every, Anything}
use Rattle.expr_meaning.proofs.OutcomesLemmas.Relations.{every_map}
use Rattle.expr_meaning.specs.SortMeaning.Related.{ColumnsRelate}
use Rattle.expr_meaning.specs.SortMeaning.Sorted.{Placed}
use Rattle.expr_meaning.proofs.SortMeaning.Carried.{places_carried, visit_carried}
use Rattle.expr_meaning.specs.Env.{Env, Meaning}
use Rattle.expr_laws.specs.Carrier.{Carrier}
use Rattle.expr_laws.proofs.Steps.{any_step}
use Rattle.transform_meaning.specs.Places.{at_item, in_turn}
use Rattle.transform_meaning.specs.Sorting.{SortMeaning, each_of, in_sort_order, mixed, sort_cell}
use Rattle.transform_meaning.specs.Sorting.{sort_columns, sorted_of}
use Rattle.transform_laws.specs.Meets.{AreSheetPlaces, AtPlaces, MeaningsMeet}
use Rattle.transform_laws.proofs.Lists.{Pairs}

-- sort keys of the same type and direction, which are related
pub record SortMeets (c : Carrier) (a b : SortMeaning) : Type 0 where
  pub key : MeaningsMeet c a.key b.key
  pub descending : a.descending ≡ b.descending
  pub number : a.number ≡ b.number

module _ (c : Carrier) (places : AreSheetPlaces c) where
  pub columns_meet : {A : Type 0} (P : A → Type 0) (m n : A → Env) →
      ((x : A) → P x → AtPlaces c (m x) (n x)) → (xs ys : List SortMeaning) →
      Pairs (SortMeets c) xs ys → ColumnsRelate c.rel P (sort_columns m xs) (sort_columns n ys)
  columns_meet P m n h [] [] g = tt
  columns_meet P m n h [] (y ∷ ys) g = absurd g
  columns_meet P m n h (x ∷ xs) [] g = absurd g
  columns_meet P m n h (x ∷ xs) (y ∷ ys) g = (
    λ v k p. rw (← g.0.number)
        (c.carries.next _ _ (Every c.good) Anything (x.key (m v) k) (y.key (n v) k) _ _
        (g.0.key (m v) (n v) (h v p) k) (λ us j d. any_step c (sort_cell x.number us) j)),
    g.0.descending,
    columns_meet P m n h xs ys g.1,
  )

  pub sort_meets : (ss ts : List SortMeaning) → Pairs (SortMeets c) ss ts → (e f : Env) →
      AtPlaces c e f → (xs : List Item) → Every c.good xs → (k : ℕ) →
      c.rel (List (Placed Item)) (Every (λ p. c.good p.value)) (in_sort_order ss e xs k)
      (in_sort_order ts f xs k)
  sort_meets ss ts h e f s xs g k =
      places_carried c.like c.rel c.carries c.good mixed mixed (c.alike mixed) _ _
      (columns_meet (λ p. c.good p.value) (at_item e) (at_item f)
      (λ p d. places.item e f s p d) ss ts h) xs g k

  pub each_meets : (a b : Meaning) → MeaningsMeet c a b → (ss ts : List SortMeaning) →
      Pairs (SortMeets c) ss ts → (m n : Meaning) → MeaningsMeet c m n →
      MeaningsMeet c (each_of a ss m) (each_of b ts n)
  each_meets a b h ss ts g m n i e f s k =
      c.carries.next _ _ (Every c.good) (Every c.good) (a e k) (b f k) _ _ (h e f s k) (λ xs j d.
      visit_carried c.like c.rel c.carries c.good c.good mixed mixed (c.alike mixed) _ _
      (columns_meet (λ p. c.good p.value) (at_item e) (at_item f)
      (λ p z. places.item e f s p z) ss ts g)
      (λ p. m (in_turn e p)) (λ p. n (in_turn f p))
      (λ p l z. i (in_turn e p) (in_turn f p) (places.turn e f s p z) l) xs d j)

  pub sorted_meets : (a b : Meaning) → MeaningsMeet c a b → (ss ts : List SortMeaning) →
      Pairs (SortMeets c) ss ts → MeaningsMeet c (sorted_of a ss) (sorted_of b ts)
  sorted_meets a b h [] [] g = h
  sorted_meets a b h [] (t ∷ ts) g = absurd g
  sorted_meets a b h (s ∷ ss) [] g = absurd g
  sorted_meets a b h (s ∷ ss) (t ∷ ts) g = λ e f v k.
      c.carries.next _ _ (Every c.good) (Every c.good) (a e k) (b f k) _ _ (h e f v k) (λ xs j d.
      c.carries.next _ _ (Every (λ p. c.good p.value)) (Every c.good)
      (in_sort_order (s ∷ ss) e xs j) (in_sort_order (t ∷ ts) f xs j) _ _
      (sort_meets (s ∷ ss) (t ∷ ts) g e f v xs d j)
      (λ ps l z. c.carries.ends _ _ _ _ (every_map c.good (λ p. p.value) ps z)))
