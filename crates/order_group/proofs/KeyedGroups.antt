-- The table of places by key holds the groups.
use Rattle.std.proofs.Common.{◌≡◌, ℕ, zero, suc, ◌+◌, ◌-◌, ◌<◌, Bool, true, false, not, ◌||◌, cond, List, [], ◌∷◌, ◌++◌, map, length, filter, slice_get, Option, Some, None, if◌then◌else◌, refl, ap, ap₂, sym, ◌∙◌, arith}
use Rattle.std.specs.Prelude.{flat_map, nat_eq}
use Rattle.std.specs.Option.{option_map_or}
use Rattle.std.proofs.lemmas.Bool.{eqb-true, eqb-false}
use Rattle.std.proofs.lemmas.List.{append-nil, append_assoc, map-append, length-append}
use Rattle.std.proofs.lemmas.List.Elements.{filter-append}
use Rattle.std.proofs.lemmas.List.Folds.{list_any-append}
use Rattle.std.proofs.lemmas.Simd.{map-map}
use Rattle.xt_atoms.specs.Keys.{key_same}
use Rattle.xt_atoms.specs.declared.atoms.Atom.{Atom}
use Rattle.xdm_items.specs.declared.items.Item.{Item}
use Rattle.order_group.proofs.AtomKeys.KeyLemmas.{same_key_laws as laws}
use Rattle.order_group.specs.AtomKeys.Tables.{ends_in, joined, first_entry, with_place}
use Rattle.order_group.specs.declared.atom_keys.tables.KeyEntry.{KeyEntry}
use Rattle.order_group.specs.Groups.{atoms_of, has_key, first_seen, places_where, grouped_by}
use Rattle.order_group.specs.Steps.{with_row, with_rows, entry_group}
use Rattle.std.proofs.Math.Bool.{or-false}

or_true : (b : Bool) → b || true ≡ true
or_true true = refl
or_true false = refl

or_assoc : (a b c : Bool) → a || (b || c) ≡ (a || b) || c
or_assoc true b c = refl
or_assoc false b c = refl

-- equal keys are among the same keys
any_same : (a b : Atom) (ks : List Atom) → key_same a b ≡ true → has_key a ks ≡ has_key b ks
any_same a b [] h = refl
any_same a b (x ∷ ks) h = ap₂ (λ s t. s || t) (laws.congr a b x h) (any_same a b ks h)

-- keys other than x, among those other than x
kept_any : (a x : Atom) (ys : List Atom) → key_same x a ≡ false → has_key a (filter (λ b. not (key_same x b)) ys) ≡ has_key a ys
kept_any a x [] h = refl
kept_any a x (y ∷ ys) h = by (key_same x y) refl (kept_any a x ys h)
  where
    by : (s : Bool) → key_same x y ≡ s → has_key a (filter (λ b. not (key_same x b)) ys) ≡ has_key a ys
        → has_key a (cond (not s) (y ∷ filter (λ b. not (key_same x b)) ys) (filter (λ b. not (key_same x b)) ys)) ≡ has_key a (y ∷ ys)
    by true e more =
        let differ : key_same a y ≡ false = laws.symm a y ∙ sym (laws.congr x y a e) ∙ h in
        more ∙ ap (λ s. s || has_key a ys) (sym differ)
    by false e more = ap (λ t. key_same a y || t) more

dropped_any : (x : Atom) (ys : List Atom) → has_key x (filter (λ b. not (key_same x b)) ys) ≡ false
dropped_any x [] = refl
dropped_any x (y ∷ ys) = by (key_same x y) refl (dropped_any x ys)
  where
    by : (s : Bool) → key_same x y ≡ s → has_key x (filter (λ b. not (key_same x b)) ys) ≡ false
        → has_key x (cond (not s) (y ∷ filter (λ b. not (key_same x b)) ys) (filter (λ b. not (key_same x b)) ys)) ≡ false
    by true e more = more
    by false e more = ap₂ (λ s t. s || t) e more

seen_any : (a : Atom) (xs : List Atom) → has_key a (first_seen xs) ≡ has_key a xs
seen_any a [] = refl
seen_any a (x ∷ xs) = by (key_same a x) refl (seen_any a xs)
  where
    by : (s : Bool) → key_same a x ≡ s → has_key a (first_seen xs) ≡ has_key a xs
        → s || has_key a (filter (λ b. not (key_same x b)) (first_seen xs)) ≡ s || has_key a xs
    by true e more = refl
    by false e more = kept_any a x (first_seen xs) (laws.symm x a ∙ e) ∙ more

seen_push : (xs : List Atom) (a : Atom) → first_seen (xs ++ a ∷ []) ≡ (if has_key a xs then first_seen xs else first_seen xs ++ a ∷ [])
seen_push [] a = refl
seen_push (x ∷ xs) a = by (has_key a xs) (key_same x a) refl (seen_push xs a)
  where
    by : (s t : Bool) → key_same x a ≡ t → first_seen (xs ++ a ∷ []) ≡ (if s then first_seen xs else first_seen xs ++ a ∷ [])
        → first_seen (x ∷ xs ++ a ∷ []) ≡ (if key_same a x || s then first_seen (x ∷ xs) else first_seen (x ∷ xs) ++ a ∷ [])
    by true t e more = rw or_true (ap (λ l. x ∷ filter (λ b. not (key_same x b)) l) more)
    by false true e more =
        rw (laws.symm a x, e) (ap (λ l. x ∷ filter (λ b. not (key_same x b)) l) more ∙ ap (◌∷◌ x) (filter-append (λ b. not (key_same x b)) (first_seen xs) (a ∷ []) ∙ ap (λ s. filter (λ b. not (key_same x b)) (first_seen xs) ++ cond (not s) (a ∷ []) []) e ∙ append-nil _))
    by false false e more =
        rw (laws.symm a x, e) (ap (λ l. x ∷ filter (λ b. not (key_same x b)) l) more ∙ ap (◌∷◌ x) (filter-append (λ b. not (key_same x b)) (first_seen xs) (a ∷ []) ∙ ap (λ s. filter (λ b. not (key_same x b)) (first_seen xs) ++ cond (not s) (a ∷ []) []) e))

-- no key is the same as one before it
abbrev Distinct : List Atom → Type 0
Distinct [] = Unit {0}
Distinct (x ∷ xs) = (has_key x xs ≡ false) × Distinct xs

absent_kept : (p : Atom → Bool) (x : Atom) (xs : List Atom) → has_key x xs ≡ false → has_key x (filter p xs) ≡ false
absent_kept p x [] h = refl
absent_kept p x (y ∷ ys) h = by (key_same x y) (p y) refl h (absent_kept p x ys)
  where
    by : (s t : Bool) → key_same x y ≡ s → s || has_key x ys ≡ false → (has_key x ys ≡ false → has_key x (filter p ys) ≡ false) → has_key x (cond t (y ∷ filter p ys) (filter p ys)) ≡ false
    by true t e h more = absurd cc
    by false true e h more = ap₂ (λ s t. s || t) e (more h)
    by false false e h more = more h

distinct_kept : (p : Atom → Bool) (xs : List Atom) → Distinct xs → Distinct (filter p xs)
distinct_kept p [] d = tt
distinct_kept p (x ∷ xs) d = by (p x) (absent_kept p x xs d.0) (distinct_kept p xs d.1)
  where
    by : (t : Bool) → has_key x (filter p xs) ≡ false → Distinct (filter p xs) → Distinct (cond t (x ∷ filter p xs) (filter p xs))
    by true h more = (h, more)
    by false h more = more

seen_distinct : (xs : List Atom) → Distinct (first_seen xs)
seen_distinct [] = tt
seen_distinct (x ∷ xs) = (dropped_any x (first_seen xs), distinct_kept (λ b. not (key_same x b)) (first_seen xs) (seen_distinct xs))

-- keys with places
abbrev with_places : (Atom → List ℕ) → List Atom → List KeyEntry
with_places f ks = map (λ a. record { key = a; places = f a }) ks

module _ (f g : Atom → List ℕ) (a : Atom) (n : ℕ) (others : (b : Atom) → key_same a b ≡ false → f b ≡ g b) where
  others_stay : (ks : List Atom) → has_key a ks ≡ false → with_places f ks ≡ with_places g ks
  others_stay [] h = refl
  others_stay (k ∷ ks) h = by (key_same a k) refl h (others_stay ks)
    where
      by : (s : Bool) → key_same a k ≡ s → s || has_key a ks ≡ false → (has_key a ks ≡ false → with_places f ks ≡ with_places g ks) → with_places f (k ∷ ks) ≡ with_places g (k ∷ ks)
      by true e h more = absurd cc
      by false e h more = ap₂ (λ p l. record { key = k; places = p } ∷ l) (others k e) (more h)

  placed : ((b : Atom) → key_same a b ≡ true → joined (f b) n ≡ g b) → (ks : List Atom) → Distinct ks → has_key a ks ≡ true → with_place (with_places f ks) a n ≡ with_places g ks
  placed own [] d h = absurd cc
  placed own (k ∷ ks) d h = by (key_same a k) refl h (placed own ks d.1)
    where
      by : (s : Bool) → key_same a k ≡ s → s || has_key a ks ≡ true → (has_key a ks ≡ true → with_place (with_places f ks) a n ≡ with_places g ks)
          → (if s then record { key = k; places = joined (f k) n } ∷ with_places f ks else record { key = k; places = f k } ∷ with_place (with_places f ks) a n) ≡ with_places g (k ∷ ks)
      by true e h more = ap₂ (λ p l. record { key = k; places = p } ∷ l) (own k e) (others_stay ks (any_same a k ks e ∙ d.0))
      by false e h more = ap₂ (λ p l. record { key = k; places = p } ∷ l) (others k e) (more h)

placed_last : (f : Atom → List ℕ) (a : Atom) (n : ℕ) (ks : List Atom) → has_key a ks ≡ false → with_place (with_places f ks) a n ≡ with_places f ks ++ first_entry a n ∷ []
placed_last f a n [] h = refl
placed_last f a n (k ∷ ks) h = by (key_same a k) h (placed_last f a n ks)
  where
    by : (s : Bool) → s || has_key a ks ≡ false → (has_key a ks ≡ false → with_place (with_places f ks) a n ≡ with_places f ks ++ first_entry a n ∷ [])
        → (if s then record { key = k; places = joined (f k) n } ∷ with_places f ks else record { key = k; places = f k } ∷ with_place (with_places f ks) a n) ≡ record { key = k; places = f k } ∷ with_places f ks ++ first_entry a n ∷ []
    by true h more = absurd cc
    by false h more = ap (◌∷◌ (record { key = k; places = f k })) (more h)

apart : (m n : ℕ) → m < n → nat_eq m n ≡ false
apart m n h = by (nat_eq m n) refl
  where
    by : (b : Bool) → nat_eq m n ≡ b → b ≡ false
    by true e = let same : m ≡ n = eqb-true m n e in absurd (omega arith)
    by false e = refl

itself : (n : ℕ) → nat_eq n n ≡ true
itself n = by (nat_eq n n) refl
  where
    by : (b : Bool) → nat_eq n n ≡ b → b ≡ true
    by true e = refl
    by false e = absurd (eqb-false n n e refl)

module _ {X : Type 0} (test : X → Bool) where
  where_push : (n m : ℕ) (xs : List X) (y : X) → n + length xs ≡ m → places_where test n (xs ++ y ∷ []) ≡ places_where test n xs ++ (if test y then m ∷ [] else [])
  where_push n m [] y e = let same : n ≡ m = omega arith in ap (λ k. if test y then k ∷ [] else []) same
  where_push n m (x ∷ xs) y e = by (test x) (where_push (suc n) m xs y (omega arith))
    where
      by : (s : Bool) → places_where test (suc n) (xs ++ y ∷ []) ≡ places_where test (suc n) xs ++ (if test y then m ∷ [] else [])
          → (if s then n ∷ places_where test (suc n) (xs ++ y ∷ []) else places_where test (suc n) (xs ++ y ∷ [])) ≡ (if s then n ∷ places_where test (suc n) xs else places_where test (suc n) xs) ++ (if test y then m ∷ [] else [])
      by true more = ap (◌∷◌ n) more
      by false more = more

  where_below : (n i m : ℕ) (xs : List X) → slice_get (places_where test n xs) i ≡ Some m → m < n + length xs
  where_below n i m [] h = absurd cc
  where_below n i m (x ∷ xs) h = by (test x) i h (λ j k. where_below (suc n) j m xs k)
    where
      by : (s : Bool) (i : ℕ) → slice_get (if s then n ∷ places_where test (suc n) xs else places_where test (suc n) xs) i ≡ Some m → ((j : ℕ) → slice_get (places_where test (suc n) xs) j ≡ Some m → m < suc n + length xs) → m < n + suc (length xs)
      by true zero h more = let same : n ≡ m = cc in omega arith
      by true (suc j) h more = let below : m < suc n + length xs = more j h in omega arith
      by false j h more = let below : m < suc n + length xs = more j h in omega arith

  -- the place after the last is not there
  where_open : (xs : List X) → ends_in (places_where test 0 xs) (length xs) ≡ false
  where_open xs = by (slice_get (places_where test 0 xs) (length (places_where test 0 xs) - 1)) refl
    where
      by : (o : Option ℕ) → slice_get (places_where test 0 xs) (length (places_where test 0 xs) - 1) ≡ o → option_map_or (λ last. nat_eq last (length xs)) o false ≡ false
      by None h = refl
      by (Some m) h = let below : m < 0 + length xs = where_below 0 _ m xs h in apart m (length xs) (omega arith)

where_none : (a : Atom) (n : ℕ) (rows : List (List Atom)) → has_key a (flat_map (λ row. row) rows) ≡ false → places_where (has_key a) n rows ≡ []
where_none a n [] h = refl
where_none a n (row ∷ rows) h = by (has_key a row) (sym (list_any-append (key_same a) row (flat_map (λ row. row) rows)) ∙ h) (where_none a (suc n) rows)
  where
    by : (s : Bool) → s || has_key a (flat_map (λ row. row) rows) ≡ false → (has_key a (flat_map (λ row. row) rows) ≡ false → places_where (has_key a) (suc n) rows ≡ [])
        → (if s then n ∷ places_where (has_key a) (suc n) rows else places_where (has_key a) (suc n) rows) ≡ []
    by true h more = absurd cc
    by false h more = more h

get_pushed : (places : List ℕ) (n : ℕ) → slice_get (places ++ n ∷ []) (length places) ≡ Some n
get_pushed [] n = refl
get_pushed (m ∷ places) n = get_pushed places n

ends_pushed : (places : List ℕ) (n : ℕ) → ends_in (places ++ n ∷ []) n ≡ true
ends_pushed places n =
    let long : length (places ++ n ∷ []) ≡ length places + 1 = length-append places (n ∷ []) in
    let last : length (places ++ n ∷ []) - 1 ≡ length places = omega arith in
    ap (λ i. option_map_or (λ last. nat_eq last n) (slice_get (places ++ n ∷ []) i) false) last
    ∙ ap (λ o. option_map_or (λ last. nat_eq last n) o false) (get_pushed places n)
    ∙ itself n

joined_same : (places : List ℕ) (n : ℕ) → joined (places ++ n ∷ []) n ≡ places ++ n ∷ []
unfolding joined
joined_same places n = ap (λ b. if b then places ++ n ∷ [] else (places ++ n ∷ []) ++ n ∷ []) (ends_pushed places n)

joined_new : (places : List ℕ) (n : ℕ) → ends_in places n ≡ false → joined places n ≡ places ++ n ∷ []
unfolding joined
joined_new places n h = ap (λ b. if b then places else places ++ n ∷ []) h

abbrev flat : List (List Atom) → List Atom
flat rows = flat_map (λ row. row) rows

flat_push : (rows : List (List Atom)) (part : List Atom) (a : Atom) → flat (rows ++ (part ++ a ∷ []) ∷ []) ≡ flat (rows ++ part ∷ []) ++ a ∷ []
flat_push [] part a = append-nil (part ++ a ∷ []) ∙ ap (λ l. l ++ a ∷ []) (sym (append-nil part))
flat_push (row ∷ rows) part a = ap (λ l. row ++ l) (flat_push rows part a) ∙ sym (append_assoc row (flat (rows ++ part ∷ [])) (a ∷ []))

flat_none : (rows : List (List Atom)) → flat (rows ++ [] ∷ []) ≡ flat rows
flat_none [] = refl
flat_none (row ∷ rows) = ap (λ l. row ++ l) (flat_none rows)

abbrev entries_for : List (List Atom) → List KeyEntry
entries_for rows = with_places (λ a. places_where (has_key a) 0 rows) (first_seen (flat rows))

any_push : (a b : Atom) (ks : List Atom) → has_key b (ks ++ a ∷ []) ≡ has_key b ks || key_same b a
any_push a b ks = list_any-append (key_same b) ks (a ∷ []) ∙ ap (λ s. has_key b ks || s) (or-false (key_same b a))

-- the places of a key in rows of which the last is being read
module _ (done : List (List Atom)) (part : List Atom) (a : Atom) where
  abbrev before : Atom → List ℕ
  before b = places_where (has_key b) 0 (done ++ part ∷ [])

  abbrev after : Atom → List ℕ
  after b = places_where (has_key b) 0 (done ++ (part ++ a ∷ []) ∷ [])

  abbrev last_place : Bool → List ℕ
  last_place s = if s then length done ∷ [] else []

  before_is : (b : Atom) → before b ≡ places_where (has_key b) 0 done ++ last_place (has_key b part)
  before_is b = where_push (has_key b) 0 (length done) done part (omega arith)

  after_is : (b : Atom) → after b ≡ places_where (has_key b) 0 done ++ last_place (has_key b part || key_same b a)
  after_is b =
      where_push (has_key b) 0 (length done) done (part ++ a ∷ []) (omega arith)
      ∙ ap (λ s. places_where (has_key b) 0 done ++ (if s then length done ∷ [] else [])) (any_push a b part)

  others_same : (b : Atom) → key_same a b ≡ false → before b ≡ after b
  others_same b h =
      before_is b
      ∙ ap (λ s. places_where (has_key b) 0 done ++ last_place s) (sym (ap (λ s. has_key b part || s) (laws.symm b a ∙ h) ∙ or-false (has_key b part)))
      ∙ sym (after_is b)

  own_joined : (b : Atom) → key_same a b ≡ true → joined (before b) (length done) ≡ after b
  own_joined b h =
      ap (λ l. joined l (length done)) (before_is b)
      ∙ by (has_key b part)
      ∙ ap (λ s. places_where (has_key b) 0 done ++ last_place s) (sym (ap (λ s. has_key b part || s) (laws.symm b a ∙ h) ∙ or_true (has_key b part)))
      ∙ sym (after_is b)
    where
      by : (s : Bool) → joined (places_where (has_key b) 0 done ++ last_place s) (length done) ≡ places_where (has_key b) 0 done ++ last_place true
      by true = joined_same (places_where (has_key b) 0 done) (length done)
      by false = ap (λ l. joined l (length done)) (append-nil (places_where (has_key b) 0 done)) ∙ joined_new (places_where (has_key b) 0 done) (length done) (where_open (has_key b) done)

  own_new : has_key a (flat (done ++ part ∷ [])) ≡ false → after a ≡ length done ∷ []
  own_new h =
      after_is a
      ∙ ap (λ s. places_where (has_key a) 0 done ++ last_place s) (ap (λ s. has_key a part || s) (laws.refl a) ∙ or_true (has_key a part))
      ∙ ap (λ l. l ++ length done ∷ []) (where_none a 0 done (first_half (has_key a (flat done)) (sym (parts done) ∙ h)))
    where
      first_half : (s : Bool) → s || has_key a (flat (part ∷ [])) ≡ false → s ≡ false
      first_half true h = absurd cc
      first_half false h = refl

      parts : (rows : List (List Atom)) → has_key a (flat (rows ++ part ∷ [])) ≡ has_key a (flat rows) || has_key a (flat (part ∷ []))
      parts [] = refl
      parts (row ∷ rows) =
          list_any-append (key_same a) row (flat (rows ++ part ∷ []))
          ∙ ap (λ s. has_key a row || s) (parts rows)
          ∙ or_assoc (has_key a row) (has_key a (flat rows)) (has_key a (flat (part ∷ [])))
          ∙ ap (λ s. s || has_key a (flat (part ∷ []))) (sym (list_any-append (key_same a) row (flat rows)))

  step : with_place (entries_for (done ++ part ∷ [])) a (length done) ≡ entries_for (done ++ (part ++ a ∷ []) ∷ [])
  step = by (has_key a keys) refl ∙ ap (with_places after) (sym (seen_push keys a) ∙ ap first_seen (sym (flat_push done part a)))
    where
      keys : List Atom
      keys = flat (done ++ part ∷ [])

      by : (s : Bool) → has_key a keys ≡ s → with_place (with_places before (first_seen keys)) a (length done) ≡ with_places after (if s then first_seen keys else first_seen keys ++ a ∷ [])
      by true e = placed before after a (length done) others_same own_joined (first_seen keys) (seen_distinct keys) (seen_any a keys ∙ e)
      by false e =
          placed_last before a (length done) (first_seen keys) (seen_any a keys ∙ e)
          ∙ ap₂ (λ l p. l ++ record { key = a; places = p } ∷ []) (others_stay before after a (length done) others_same (first_seen keys) (seen_any a keys ∙ e)) (sym (own_new e))
          ∙ sym (map-append (λ b. record { key = b; places = after b }) (first_seen keys) (a ∷ []))

row_read : (done : List (List Atom)) (part keys : List Atom) → with_row (entries_for (done ++ part ∷ [])) keys (length done) ≡ entries_for (done ++ (part ++ keys) ∷ [])
row_read done part [] = ap (λ row. entries_for (done ++ row ∷ [])) (sym (append-nil part))
row_read done part (a ∷ keys) =
    ap (λ entries. with_row entries keys (length done)) (step done part a)
    ∙ row_read done (part ++ a ∷ []) keys
    ∙ ap (λ row. entries_for (done ++ row ∷ [])) (append_assoc part (a ∷ []) keys)

empty_row : (done : List (List Atom)) → entries_for (done ++ [] ∷ []) ≡ entries_for done
empty_row done = ap₂ with_places (λ i b. places b i) (ap first_seen (flat_none done))
  where
    places : (b : Atom) → places_where (has_key b) 0 (done ++ [] ∷ []) ≡ places_where (has_key b) 0 done
    places b = where_push (has_key b) 0 (length done) done [] (omega arith) ∙ append-nil (places_where (has_key b) 0 done)

rows_read : (done rows : List (List Atom)) (n : ℕ) → n ≡ length done → with_rows (entries_for done) n rows ≡ entries_for (done ++ rows)
rows_read done [] n e = ap entries_for (sym (append-nil done))
rows_read done (row ∷ rows) n e =
    let long : length (done ++ row ∷ []) ≡ length done + 1 = length-append done (row ∷ []) in
    ap₂ (λ m entries. with_rows (with_row entries row m) (suc n) rows) e (sym (empty_row done))
    ∙ ap (λ entries. with_rows entries (suc n) rows) (row_read done [] row)
    ∙ rows_read (done ++ row ∷ []) rows (suc n) (omega arith)
    ∙ ap entries_for (append_assoc done (row ∷ []) rows)

pub all_grouped : (keys : List (List Item)) → map entry_group (with_rows [] 0 (map atoms_of keys)) ≡ grouped_by keys
all_grouped keys =
    ap (map entry_group) (rows_read [] (map atoms_of keys) 0 refl)
    ∙ map-map entry_group (λ a. record { key = a; places = places_where (has_key a) 0 (map atoms_of keys) }) (first_seen (flat (map atoms_of keys)))
