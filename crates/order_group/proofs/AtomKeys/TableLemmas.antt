-- Tables of places by key.
use Rattle.std.proofs.Common.{◌≡◌, ℕ, zero, suc, ◌+◌, ◌<◌, Bool, true, false, cond, List, [], ◌∷◌, ◌++◌, length, Option, Some, None, slice_get, position, if◌then◌else◌, refl, ap, sym, ◌∙◌, nat_lt, arith}
use Rattle.std.specs.Prelude.{slice_set, option_map, not}
use Rattle.std.proofs.lemmas.Bool.{lt-ltb}
use Prim.Native.Nat.compare
use Rattle.std.specs.List.{list_any, position_or_len}
use Rattle.xt_atoms.specs.Keys.{key_same}
use Rattle.xt_atoms.specs.declared.atoms.Atom.{Atom}
use Rattle.order_group.specs.AtomKeys.Keys.{key_of}
use Rattle.order_group.specs.AtomKeys.Tables.{keys_of, index_of, first_entry, with_place, places_of, joined}
use Rattle.order_group.specs.declared.atom_keys.keys.AtomKey.{AtomKey}
use Rattle.order_group.specs.declared.atom_keys.tables.KeyEntry.{KeyEntry}

suc_none : (o : Option ℕ) → option_map suc o ≡ None → o ≡ None
suc_none None h = refl
suc_none (Some i) h = absurd cc

suc_some : (o : Option ℕ) (i : ℕ) → option_map suc o ≡ Some (suc i) → o ≡ Some i
suc_some None i h = absurd cc
suc_some (Some j) i h = cc

suc_not_zero : (o : Option ℕ) → option_map suc o ≡ Some 0 → ⊥
suc_not_zero None h = absurd cc
suc_not_zero (Some j) h = absurd cc

pub position_next : {X : Type 0} (p : X → Bool) (x : X) (xs : List X) → position p (x ∷ xs) ≡ cond (p x) (Some 0) (option_map suc (position p xs))
position_next p x xs = by (p x)
  where
    inner : (c : Bool) (n : ℕ) → cond c (Some (suc n)) None ≡ option_map suc (cond c (Some n) None)
    inner true n = refl
    inner false n = refl

    past : (n m : ℕ) → m ≡ suc n → cond (nat_lt m (suc (length xs))) (Some m) None ≡ option_map suc (cond (nat_lt n (length xs)) (Some n) None)
    past n m e = rw (e, compare.suc-suc) (inner (nat_lt n (length xs)) n)

    by : (b : Bool) → cond (nat_lt (cond (not b) (1 + position_or_len p xs) 0) (suc (length xs))) (Some (cond (not b) (1 + position_or_len p xs) 0)) None ≡ cond b (Some 0) (option_map suc (position p xs))
    by true = ap (λ b. cond b (Some 0) None) (lt-ltb 0 (suc (length xs)) (omega arith))
    by false = past (position_or_len p xs) (1 + position_or_len p xs) (omega arith)

module _ (eq : AtomKey → AtomKey → Bool) (same : (a b : Atom) → eq (key_of a) (key_of b) ≡ key_same a b) where
  -- where a key stands among the keys, its entry stands
  pub key_position : (es : List KeyEntry) (a : Atom) → position (eq (key_of a)) (keys_of es) ≡ index_of es a
  key_position [] a = refl
  key_position (e ∷ es) a =
      position_next (eq (key_of a)) (key_of e.key) (keys_of es)
      ∙ ap (λ b. cond b (Some 0) (option_map suc (position (eq (key_of a)) (keys_of es)))) (same a e.key)
      ∙ ap (λ o. cond (key_same a e.key) (Some 0) (option_map suc o)) (key_position es a)

  pub key_is_new : (es : List KeyEntry) (a : Atom) → index_of es a ≡ None → list_any (eq (key_of a)) (keys_of es) ≡ false
  key_is_new [] a h = refl
  key_is_new (e ∷ es) a h = by (key_same a e.key) (same a e.key) h (key_is_new es a)
    where
      by : (b : Bool) → eq (key_of a) (key_of e.key) ≡ b → (if b then Some 0 else option_map suc (index_of es a)) ≡ None → (index_of es a ≡ None → list_any (eq (key_of a)) (keys_of es) ≡ false) → list_any (eq (key_of a)) (keys_of (e ∷ es)) ≡ false
      by true m k more = absurd cc
      by false m k more = rw m (more (suc_none (index_of es a) k))

pub placed_new : (es : List KeyEntry) (a : Atom) (n : ℕ) → index_of es a ≡ None → with_place es a n ≡ es ++ first_entry a n ∷ []
placed_new [] a n h = refl
placed_new (e ∷ es) a n h = by (key_same a e.key) h (placed_new es a n)
  where
    by : (b : Bool) → (if b then Some 0 else option_map suc (index_of es a)) ≡ None → (index_of es a ≡ None → with_place es a n ≡ es ++ first_entry a n ∷ []) → (if b then record e { places = joined e.places n } ∷ es else e ∷ with_place es a n) ≡ e ∷ (es ++ first_entry a n ∷ [])
    by true k more = absurd cc
    by false k more = ap (◌∷◌ e) (more (suc_none (index_of es a) k))

-- the entry of a key that is there
pub placed_old : (es : List KeyEntry) (a : Atom) (n i : ℕ) (e : KeyEntry) → index_of es a ≡ Some i → slice_get es i ≡ Some e → with_place es a n ≡ slice_set es i (record { key = e.key; places = joined e.places n })
placed_old [] a n i e h g = absurd cc
placed_old (x ∷ es) a n i e h g = by (key_same a x.key) i h g (λ j. placed_old es a n j e)
  where
    by : (b : Bool) (i : ℕ) → (if b then Some 0 else option_map suc (index_of es a)) ≡ Some i → slice_get (x ∷ es) i ≡ Some e
        → ((j : ℕ) → index_of es a ≡ Some j → slice_get es j ≡ Some e → with_place es a n ≡ slice_set es j (record { key = e.key; places = joined e.places n }))
        → (if b then record x { places = joined x.places n } ∷ es else x ∷ with_place es a n) ≡ slice_set (x ∷ es) i (record { key = e.key; places = joined e.places n })
    by true zero h g more = let same : x ≡ e = cc in ap (λ (y : KeyEntry). record { key = y.key; places = joined y.places n } ∷ es) same
    by true (suc i) h g more = absurd cc
    by false zero h g more = absurd (suc_not_zero (index_of es a) h)
    by false (suc i) h g more = ap (◌∷◌ x) (more i (suc_some (index_of es a) i h) g)

pub places_at : (es : List KeyEntry) (a : Atom) (i : ℕ) (e : KeyEntry) → index_of es a ≡ Some i → slice_get es i ≡ Some e → places_of es a ≡ e.places
places_at [] a i e h g = absurd cc
places_at (x ∷ es) a i e h g = by (key_same a x.key) i h g (λ j. places_at es a j e)
  where
    by : (b : Bool) (i : ℕ) → (if b then Some 0 else option_map suc (index_of es a)) ≡ Some i → slice_get (x ∷ es) i ≡ Some e
        → ((j : ℕ) → index_of es a ≡ Some j → slice_get es j ≡ Some e → places_of es a ≡ e.places)
        → (if b then x.places else places_of es a) ≡ e.places
    by true zero h g more = let same : x ≡ e = cc in ap (λ (y : KeyEntry). y.places) same
    by true (suc i) h g more = absurd cc
    by false zero h g more = absurd (suc_not_zero (index_of es a) h)
    by false (suc i) h g more = more i (suc_some (index_of es a) i h) g

pub no_places : (es : List KeyEntry) (a : Atom) → index_of es a ≡ None → places_of es a ≡ []
no_places [] a h = refl
no_places (e ∷ es) a h = by (key_same a e.key) h (no_places es a)
  where
    by : (b : Bool) → (if b then Some 0 else option_map suc (index_of es a)) ≡ None → (index_of es a ≡ None → places_of es a ≡ []) → (if b then e.places else places_of es a) ≡ []
    by true k more = absurd cc
    by false k more = more (suc_none (index_of es a) k)

-- other places leave the keys
pub keys_stay : (es : List KeyEntry) (i : ℕ) (e : KeyEntry) (places : List ℕ) → slice_get es i ≡ Some e → keys_of (slice_set es i (record { key = e.key; places = places })) ≡ keys_of es
keys_stay [] i e places g = absurd cc
keys_stay (x ∷ es) zero e places g = let same : x ≡ e = cc in ap (λ (y : KeyEntry). key_of y.key ∷ keys_of es) (sym same)
keys_stay (x ∷ es) (suc i) e places g = ap (◌∷◌ (key_of x.key)) (keys_stay es i e places g)

-- an entry stands below the end
pub index_within : (es : List KeyEntry) (a : Atom) (i : ℕ) → index_of es a ≡ Some i → i < length es
index_within [] a i h = absurd cc
index_within (x ∷ es) a i h = by (key_same a x.key) i h (index_within es a)
  where
    by : (b : Bool) (i : ℕ) → (if b then Some 0 else option_map suc (index_of es a)) ≡ Some i → ((j : ℕ) → index_of es a ≡ Some j → j < length es) → i < suc (length es)
    by true zero h more = omega arith
    by true (suc i) h more = absurd cc
    by false zero h more = omega arith
    by false (suc i) h more = let below : i < length es = more i (suc_some (index_of es a) i h) in omega arith
