-- A sorted list is carried where its keys are.
use Rattle.std.proofs.Common.{◌≡◌, ℕ, suc, List, [], ◌∷◌, length, refl, subst}
use Rattle.std.specs.Prelude.{Bool, true, false, Option, Some, None, map, if◌then◌else◌, nat_lt}
use Rattle.std.specs.Prelude.{◌^◌, Ok, Err}
use Rattle.xt_names.specs.declared.codes.Code.{Code}
use Rattle.xt_names.specs.declared.codes.Code.TheVariants.{Dynamic}
use Rattle.xt_names.specs.declared.codes.DynamicCode.TheVariants.{FOAR0002}
use Rattle.order_group.specs.Rows.{Keyed, mixed_column, in_order, stands_before}
use Rattle.expr_meaning.specs.Outcomes.Outcome.{Outcome, step_outcome, for_each, OnEnds, Every, Anything}
use Rattle.expr_meaning.specs.Outcomes.Follow.{Relation, IsCarrying}
use Rattle.expr_meaning.proofs.OutcomesLemmas.Relations.{step_carried, every_map, each_carried}
use Rattle.expr_meaning.specs.SortMeaning.Sorted.{Column, row_of, with_row, directions, unless_mixed, ordered}
use Rattle.expr_meaning.specs.SortMeaning.Sorted.{sorted, Placed, places, placed, placed_from, values}
use Rattle.expr_meaning.specs.SortMeaning.Sorted.{sorted_places, visit}
use Rattle.expr_meaning.specs.SortMeaning.Related.{ColumnsRelate}
use Rattle.xt_names.specs.Lists.{put_in, stable_order}

pub every_placed : {A : Type 0} (P : A → Type 0) (i n : ℕ) (xs : List A) → Every P xs → Every
    (λ f. P f.value) (placed_from i n xs)
every_placed P i n [] h = tt
every_placed P i n (x ∷ xs) h = (h.0, every_placed P (suc i) n xs h.1)

every_put : {A : Type 0} (P : A → Type 0) (below : A → A → Bool) (x : A) (ys : List A) → P x →
    Every P ys → Every P (put_in below x ys)
every_put P below x [] p h = (p, tt)
every_put {A = A} P below x (y ∷ ys) p h = by (below y x) (every_put P below x ys p h.1)
  where
    by : (b : Bool) → Every P (put_in below x ys) → Every P
        (if b then y ∷ put_in below x ys else x ∷ y ∷ ys)
    by true more = (h.0, more)
    by false more = (p, h)

every_order : {A : Type 0} (P : A → Type 0) (below : A → A → Bool) (xs : List A) → Every P xs →
    Every P (stable_order below xs)
unfolding stable_order
every_order P below [] h = tt
every_order P below (x ∷ xs) h = every_put P below x (stable_order below xs) h.0
    (every_order P below xs h.1)

pub every_places : {A : Type 0} (P : A → Type 0) (xs : List A) (k : ℕ) → Every P xs → OnEnds
    (Every (λ f. P f.value)) (step_outcome (places xs) k)
every_places {A = A} P xs k h = by (nat_lt (length xs) (2 ^ 63))
  where
    by : (b : Bool) → OnEnds (Every (λ f. P f.value)) (step_outcome
        (if b then Ok (placed xs) else Err (Dynamic FOAR0002)) k)
    by true = every_placed P 1 (length xs) xs h
    by false = tt

module _ (like : Code → Code → Type 0) (rel : Relation) (r : IsCarrying like rel) where
  row_carried : {A : Type 0} (P : A → Type 0) (cs ds : List (Column A)) →
      ColumnsRelate rel P cs ds → (x : A) (k : ℕ) → P x → rel _ Anything (row_of cs x k)
      (row_of ds x k)
  row_carried P [] [] h x k p = r.ends _ _ _ _ tt
  row_carried P [] (d ∷ ds) h x k p = absurd h
  row_carried P (c ∷ cs) [] h x k p = absurd h
  row_carried P (c ∷ cs) (d ∷ ds) h x k p =
      r.next _ _ Anything Anything (c.key x k) (d.key x k) _ _ (h.0 x k p) (λ cell j u.
      r.next _ _ Anything Anything (row_of cs x j) (row_of ds x j) _ _
      (row_carried P cs ds h.2 x j p) (λ cells i w. r.ends _ _ _ _ tt))

  pub with_row_carried : {A : Type 0} (P : A → Type 0) (cs ds : List (Column A)) →
      ColumnsRelate rel P cs ds → (x : A) (k : ℕ) → P x → rel _ (Every (λ row. P row.value))
      (with_row cs x k) (with_row ds x k)
  with_row_carried P cs ds h x k p =
      r.next _ _ Anything _ (row_of cs x k) (row_of ds x k) _ _ (row_carried P cs ds h x k p)
      (λ cells j u. r.ends _ _ _ _ (p, tt))

  directions_same : {A : Type 0} (P : A → Type 0) (cs ds : List (Column A)) →
      ColumnsRelate rel P cs ds → directions cs ≡ directions ds
  directions_same P [] [] h = refl
  directions_same P [] (d ∷ ds) h = absurd h
  directions_same P (c ∷ cs) [] h = absurd h
  directions_same P (c ∷ cs) (d ∷ ds) h = λ i. h.1 i ∷ directions_same P cs ds h.2 i

  mixed_carried : {A : Type 0} (P : A → Type 0) (c : Option ℕ) (m n : Code) → like m n → (v : A) →
      P v → (k : ℕ) → rel _ P (unless_mixed c m v k) (unless_mixed c n v k)
  mixed_carried P None m n h v p k = r.ends _ _ _ _ p
  mixed_carried P (Some c) m n h v p k = r.errors _ _ m n h

  pub ordered_carried : {A : Type 0} (P : A → Type 0) (m n : Code) → like m n →
      (ds es : List Bool) → ds ≡ es → (rows : List (Keyed A)) → Every (λ row. P row.value) rows →
      (k : ℕ) → rel _ (Every P) (ordered m ds rows k) (ordered n es rows k)
  ordered_carried P m n h ds es e rows g k =
      subst (λ es. rel _ (Every P) (ordered m ds rows k) (ordered n es rows k)) e
      (mixed_carried (Every P) (mixed_column ds (map (λ row. row.cells) rows)) m n h
      (in_order ds rows) (every_map P (λ row. row.value)
      (stable_order (stands_before ds) rows) (every_order (λ row. P row.value)
      (stands_before ds) rows g)) k)

  -- the same keys in the same order, an error or Deep at the same key, and the same order
  pub sorted_carried : {A : Type 0} (P : A → Type 0) (m n : Code) → like m n →
      (cs ds : List (Column A)) → ColumnsRelate rel P cs ds → (xs : List A) → Every P xs →
      (k : ℕ) → rel _ (Every P) (sorted m cs xs k) (sorted n ds xs k)
  sorted_carried P m n h cs ds e xs g k =
      r.next _ _ (Every (λ row. P row.value)) (Every P) (for_each (with_row cs) xs k)
      (for_each (with_row ds) xs k) _ _
      (each_carried like rel r P (λ row. P row.value) (with_row cs) (with_row ds)
      (with_row_carried P cs ds e) xs g k)
      (λ rows j good. ordered_carried P m n h (directions cs) (directions ds)
      (directions_same P cs ds e) rows good j)

  pub places_carried : {A : Type 0} (P : A → Type 0) (m n : Code) → like m n →
      (cs ds : List (Column (Placed A))) → ColumnsRelate rel (λ f. P f.value) cs ds →
      (xs : List A) → Every P xs → (k : ℕ) → rel _ (Every (λ f. P f.value))
      (sorted_places m cs xs k) (sorted_places n ds xs k)
  places_carried P m n h cs ds e xs g k =
      r.next _ _ (Every (λ f. P f.value)) _ (step_outcome (places xs) k)
      (step_outcome (places xs) k) _ _ (step_carried like rel r _ (places xs) k (every_places P xs k g)) (λ fs j good.
      r.next _ _ (Every (λ f. P f.value)) _ (sorted m cs fs j) (sorted n ds fs j) _ _
      (sorted_carried (λ f. P f.value) m n h cs ds e fs good j) (λ gs i more.
      r.ends _ _ _ _ (every_placed P 1 (length (values gs)) (values gs)
      (every_map P (λ f. f.value) gs more))))

  pub visit_carried : {A B : Type 0} (P : A → Type 0) (Q : B → Type 0) (m n : Code) → like m n →
      (cs ds : List (Column (Placed A))) → ColumnsRelate rel (λ f. P f.value) cs ds →
      (f g : Placed A → ℕ → Outcome (List B)) → ((x : Placed A) (k : ℕ) → P x.value → rel _
      (Every Q) (f x k) (g x k)) → (xs : List A) → Every P xs → (k : ℕ) → rel _ (Every Q)
      (visit m cs f xs k) (visit n ds g xs k)
  visit_carried P Q m n h cs ds e f g b xs all k =
      r.next _ _ (Every (λ f. P f.value)) (Every Q) (sorted_places m cs xs k)
      (sorted_places n ds xs k) _ _ (places_carried P m n h cs ds e xs all k)
      (λ fs j good. each_carried like rel r (λ f. P f.value) Q f g b fs good j)
