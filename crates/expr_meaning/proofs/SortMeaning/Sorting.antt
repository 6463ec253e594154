-- A sorted list looks at its values only through their keys.
use Rattle.std.proofs.Common.{◌≡◌, ◌++◌, ℕ, suc, List, [], ◌∷◌, length, refl, ap, sym, ◌∙◌}
use Rattle.std.specs.Prelude.{Bool, true, false, Option, Some, None, Ok, Err, map, nat_lt, ◌^◌}
use Rattle.std.specs.Prelude.{if◌then◌else◌}
use Rattle.std.proofs.lemmas.List.{length-map}
use Rattle.std.proofs.lemmas.Simd.{map-map}
use Rattle.order_group.specs.Rows.{Keyed, mixed_column, in_order}
use Rattle.order_group.proofs.Natural.{no_column, no_keys, rekeyed, in_order_map, in_order_long}
use Rattle.xt_names.specs.declared.codes.Code.{Code}
use Rattle.xt_names.specs.declared.codes.Code.TheVariants.{Dynamic}
use Rattle.xt_names.specs.declared.codes.DynamicCode.TheVariants.{FOAR0002}
use Rattle.expr_meaning.specs.Outcomes.Outcome.{Outcome, Ends, Fails, Deep, and_then, step_outcome, for_each}
use Rattle.expr_meaning.specs.Outcomes.Outcome.{OnEnds}
use Rattle.expr_meaning.specs.SortMeaning.Sorted.{Column, moved, all_moved, placed_as, row_of, with_row}
use Rattle.expr_meaning.specs.SortMeaning.Sorted.{directions, unless_mixed, ordered, sorted, Placed}
use Rattle.expr_meaning.specs.SortMeaning.Sorted.{placed_from, placed, places, values, visit}
use Rattle.expr_meaning.proofs.OutcomesLemmas.Steps.{then_assoc, then_same, then_known, then_on, each_map, made}
use Rattle.expr_meaning.proofs.OutcomesLemmas.Steps.{each_made, each_one, each_long}

-- the values of a list in their places have one size
pub each_sized : {A B : Type 0} (f g : Placed A → ℕ → Outcome (List B)) (n : ℕ) →
    ((x : A) (i k : ℕ) → f (record { value = x; place = i; size = n }) k ≡ g
    (record { value = x; place = i; size = n }) k) → (i : ℕ) (xs : List A) (k : ℕ) → for_each f
    (placed_from i n xs) k ≡ for_each g (placed_from i n xs) k
each_sized f g n h i [] k = refl
each_sized f g n h i (x ∷ xs) k =
    ap (λ o. and_then o (λ ys j. and_then (for_each f (placed_from (suc i) n xs) j)
    (λ zs l. Ends (ys ++ zs) l))) (h x i k)
    ∙ then_same (g (record { value = x; place = i; size = n }) k) _ _
    (λ ys j. ap (λ o. and_then o (λ zs l. Ends (ys ++ zs) l))
    (each_sized f g n h (suc i) xs j))

pub row_moved : {A B : Type 0} (h : A → B) (cs : List (Column B)) (x : A) (k : ℕ) → row_of
    (all_moved h cs) x k ≡ row_of cs (h x) k
row_moved h [] x k = refl
row_moved h (c ∷ cs) x k =
    then_same (c.key (h x) k) _ _ (λ cell j. ap (λ o. and_then o
    (λ cells i. Ends (cell ∷ cells) i)) (row_moved h cs x j))

rows_moved : {A B : Type 0} (h : A → B) (cs : List (Column B)) (xs : List A) (k : ℕ) → for_each
    (with_row cs) (map h xs) k ≡ and_then (for_each (with_row (all_moved h cs)) xs k)
    (made (rekeyed h))
rows_moved h cs xs k =
    each_map (with_row cs) h xs k
    ∙ each_made (rekeyed h) (λ x. with_row cs (h x)) (with_row (all_moved h cs)) (λ x j.
    ap (λ o. and_then o (λ cells i. Ends (record { cells = cells; value = h x } ∷ []) i))
    (sym (row_moved h cs x j))
    ∙ sym (then_assoc (row_of (all_moved h cs) x j) (λ cells i. Ends
    (record { cells = cells; value = x } ∷ []) i) (made (rekeyed h)))) xs k

unless_moved : {A B : Type 0} (h : A → B) (c : Option ℕ) (mixed : Code) (xs : List A)
    (ys : List B) (k : ℕ) → ys ≡ map h xs → unless_mixed c mixed ys k ≡ and_then
    (unless_mixed c mixed xs k) (made h)
unless_moved h None mixed xs ys k e = ap (λ l. Ends l k) e
unless_moved h (Some c) mixed xs ys k e = refl

ordered_moved : {A B : Type 0} (h : A → B) (mixed : Code) (ds : List Bool) (rows : List (Keyed A))
    (k : ℕ) → ordered mixed ds (map (rekeyed h) rows) k ≡ and_then (ordered mixed ds rows k)
    (made h)
ordered_moved h mixed ds rows k =
    ap (λ l. unless_mixed (mixed_column ds l) mixed (in_order ds (map (rekeyed h) rows)) k)
    (map-map (λ row. row.cells) (rekeyed h) rows)
    ∙ unless_moved h (mixed_column ds (map (λ row. row.cells) rows)) mixed (in_order ds rows)
    (in_order ds (map (rekeyed h) rows)) k (in_order_map h ds rows)

pub directions_moved : {A B : Type 0} (h : A → B) (cs : List (Column B)) → directions
    (all_moved h cs) ≡ directions cs
directions_moved h cs = map-map (λ c. c.descending) (moved h) cs

pub sorted_moved : {A B : Type 0} (h : A → B) (mixed : Code) (cs : List (Column B)) (xs : List A)
    (k : ℕ) → sorted mixed cs (map h xs) k ≡ and_then (sorted mixed (all_moved h cs) xs k)
    (made h)
sorted_moved h mixed cs xs k =
    let rows = for_each (with_row (all_moved h cs)) xs k in
    ap (λ o. and_then o (ordered mixed (directions cs))) (rows_moved h cs xs k)
    ∙ then_assoc rows (made (rekeyed h)) (ordered mixed (directions cs))
    ∙ then_same rows _ _ (λ r j. ordered_moved h mixed (directions cs) r j)
    ∙ sym (then_assoc rows (ordered mixed (directions cs)) (made h))
    ∙ ap (λ ds. and_then (and_then rows (ordered mixed ds)) (made h))
    (sym (directions_moved h cs))

-- without columns a list stays as it is
abbrev bare : {A : Type 0} → A → Keyed A
bare x = record { cells = []; value = x }

pub sorted_plain : {A : Type 0} (mixed : Code) (xs : List A) (k : ℕ) → sorted mixed [] xs k
    ≡ Ends xs k
sorted_plain {A = A} mixed xs k =
    ap (λ o. and_then o (ordered mixed [])) (each_one bare xs k)
    ∙ ap (λ c. unless_mixed c mixed (in_order [] (map bare xs)) k)
    (no_column (map (λ row. row.cells) (map bare xs)))
    ∙ ap (λ l. Ends l k) (no_keys (map bare xs) ∙ map-map (λ row. row.value) bare xs ∙ as_is xs)
  where
    as_is : (ys : List A) → map (λ y. y) ys ≡ ys
    as_is [] = refl
    as_is (y ∷ ys) = ap (λ l. y ∷ l) (as_is ys)

-- it has as many values
no_matter : {A : Type 0} (o : Outcome A) → OnEnds (λ v. Unit {0}) o
no_matter (Ends v k) = tt
no_matter (Fails c) = tt
no_matter Deep = tt

row_one : {A : Type 0} (cs : List (Column A)) (x : A) (k : ℕ) → OnEnds (λ ys. length ys ≡ 1)
    (with_row cs x k)
row_one cs x k =
    then_on (λ cells. Unit {0}) (λ ys. length ys ≡ 1) (row_of cs x k) _
    (no_matter (row_of cs x k)) (λ cells j u. refl)

unless_long : {A : Type 0} (n : ℕ) (c : Option ℕ) (mixed : Code) (xs : List A) (k : ℕ) → length xs
    ≡ n → OnEnds (λ ys. length ys ≡ n) (unless_mixed c mixed xs k)
unless_long n None mixed xs k e = e
unless_long n (Some c) mixed xs k e = tt

pub sorted_long : {A : Type 0} (mixed : Code) (cs : List (Column A)) (xs : List A) (k : ℕ) →
    OnEnds (λ ys. length ys ≡ length xs) (sorted mixed cs xs k)
sorted_long mixed cs xs k =
    then_on (λ rows. length rows ≡ length xs) (λ ys. length ys ≡ length xs)
    (for_each (with_row cs) xs k) _ (each_long (with_row cs) (row_one cs) xs k) (λ rows j e.
    unless_long (length xs) (mixed_column (directions cs) (map (λ row. row.cells) rows)) mixed
    (in_order (directions cs) rows) j (in_order_long (directions cs) rows ∙ e))

-- the values of a list in their places
pub placed_long : {A : Type 0} (i n : ℕ) (xs : List A) → length (placed_from i n xs) ≡ length xs
placed_long i n [] = refl
placed_long i n (x ∷ xs) = ap suc (placed_long (suc i) n xs)

-- two ways to see a value in its place give the same order, where they agree at the size
pub sorted_sized : {A B : Type 0} (h g : Placed A → B) (n : ℕ) →
    ((x : A) (i : ℕ) → h (record { value = x; place = i; size = n }) ≡ g
    (record { value = x; place = i; size = n })) → (mixed : Code) (cs : List (Column B)) (i : ℕ)
    (xs : List A) (k : ℕ) → sorted mixed (all_moved h cs) (placed_from i n xs) k ≡ sorted mixed
    (all_moved g cs) (placed_from i n xs) k
sorted_sized {A = A} h g n e mixed cs i xs k =
    ap (λ ds. and_then (for_each (with_row (all_moved h cs)) (placed_from i n xs) k)
    (ordered mixed ds)) (directions_moved h cs ∙ sym (directions_moved g cs))
    ∙ ap (λ o. and_then o (ordered mixed (directions (all_moved g cs))))
    (each_sized (with_row (all_moved h cs)) (with_row (all_moved g cs)) n (λ x j l.
    let f : Placed A = record { value = x; place = j; size = n } in
    ap (λ o. and_then o (λ cells m. Ends (record { cells = cells; value = f } ∷ []) m))
    (row_moved h cs f l ∙ ap (λ y. row_of cs y l) (e x j) ∙ sym (row_moved g cs f l))) i xs k)

pub values_placed : {A : Type 0} (i n : ℕ) (xs : List A) → values (placed_from i n xs) ≡ xs
values_placed i n [] = refl
values_placed i n (x ∷ xs) = ap (λ l. x ∷ l) (values_placed (suc i) n xs)

places_made : {A B : Type 0} (h : A → B) (i n : ℕ) (xs : List A) → placed_from i n (map h xs)
    ≡ map (placed_as h) (placed_from i n xs)
places_made h i n [] = refl
places_made h i n (x ∷ xs) = ap (λ l. record { value = h x; place = i; size = n } ∷ l)
    (places_made h (suc i) n xs)

placed_made : {A B : Type 0} (h : A → B) (xs : List A) → placed (map h xs) ≡ map (placed_as h)
    (placed xs)
placed_made h xs = ap (λ n. placed_from 1 n (map h xs)) (length-map xs h) ∙ places_made h 1
    (length xs) xs

counted_made : {A B C : Type 0} (m : A → B) (b : Bool) (fs : List A) (go : List B → ℕ → Outcome C)
    (k : ℕ) → and_then (step_outcome (if b then Ok (map m fs) else Err (Dynamic FOAR0002)) k) go
    ≡ and_then (step_outcome (if b then Ok fs else Err (Dynamic FOAR0002)) k)
    (λ gs j. go (map m gs) j)
counted_made m true fs go k = refl
counted_made m false fs go k = refl

-- to visit what values are made of is to visit what is made of them
pub visit_moved : {A B C : Type 0} (h : A → B) (mixed : Code) (cs : List (Column (Placed B)))
    (body : Placed B → ℕ → Outcome (List C)) (xs : List A) (k : ℕ) → visit mixed cs body
    (map h xs) k ≡ visit mixed (all_moved (placed_as h) cs) (λ f. body (placed_as h f)) xs k
visit_moved h mixed cs body xs k =
    let few = nat_lt (length xs) (2 ^ 63) in
    let order = sorted mixed (all_moved (placed_as h) cs) in
    then_assoc (step_outcome (places (map h xs)) k) _ (for_each body)
    ∙ ap (λ b. and_then (step_outcome (if b then Ok (placed (map h xs)) else Err
    (Dynamic FOAR0002)) k) (λ fs j. and_then (and_then (sorted mixed cs fs j)
    (λ gs i. Ends (placed (values gs)) i)) (for_each body)))
    (ap (λ n. nat_lt n (2 ^ 63)) (length-map xs h))
    ∙ ap (λ fs. and_then (step_outcome (if few then Ok fs else Err (Dynamic FOAR0002)) k)
    (λ fs j. and_then (and_then (sorted mixed cs fs j) (λ gs i. Ends (placed (values gs)) i))
    (for_each body))) (placed_made h xs)
    ∙ counted_made (placed_as h) few (placed xs) (λ fs j. and_then
    (and_then (sorted mixed cs fs j) (λ gs i. Ends (placed (values gs)) i)) (for_each body)) k
    ∙ then_same (step_outcome (places xs) k) _ _ (λ fs j.
    ap (λ o. and_then (and_then o (λ gs i. Ends (placed (values gs)) i)) (for_each body))
    (sorted_moved (placed_as h) mixed cs fs j)
    ∙ ap (λ o. and_then o (for_each body)) (then_assoc (order fs j) (made (placed_as h))
    (λ gs i. Ends (placed (values gs)) i))
    ∙ then_assoc (order fs j) (λ gs i. Ends (placed (values (map (placed_as h) gs))) i)
    (for_each body)
    ∙ then_same (order fs j) _ _ (λ gs i.
    ap (λ l. for_each body (placed l) i) (map-map (λ f. f.value) (placed_as h) gs ∙ sym
    (map-map h (λ f. f.value) gs))
    ∙ ap (λ l. for_each body l i) (placed_made h (values gs))
    ∙ each_map body (placed_as h) (placed (values gs)) i)
    ∙ sym (then_assoc (order fs j) (λ gs i. Ends (placed (values gs)) i)
    (for_each (λ f. body (placed_as h f)))))
    ∙ sym (then_assoc (step_outcome (places xs) k) _ (for_each (λ f. body (placed_as h f))))

places_known : {A : Type 0} (xs : List A) (b : Bool) (k : ℕ) → OnEnds (λ fs. fs ≡ placed xs)
    (step_outcome (if b then Ok (placed xs) else Err (Dynamic FOAR0002)) k)
places_known xs true k = refl
places_known xs false k = tt

-- without sort keys the values are visited as they stand
pub visit_plain : {A B : Type 0} (mixed : Code) (body : Placed A → ℕ → Outcome (List B))
    (xs : List A) (k : ℕ) → visit mixed [] body xs k ≡ and_then (step_outcome (places xs) k)
    (for_each body)
visit_plain mixed body xs k =
    then_assoc (step_outcome (places xs) k) _ (for_each body)
    ∙ then_known (λ fs. fs ≡ placed xs) (step_outcome (places xs) k) _ _
    (places_known xs (nat_lt (length xs) (2 ^ 63)) k) (λ fs j e.
    ap (λ o. and_then (and_then o (λ gs i. Ends (placed (values gs)) i)) (for_each body))
    (sorted_plain mixed fs j)
    ∙ ap (λ gs. for_each body gs j) (ap (λ gs. placed (values gs)) e ∙ ap placed
    (values_placed 1 (length xs) xs) ∙ sym e))
