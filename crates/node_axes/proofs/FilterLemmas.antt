-- The first and the last element that passes, in a list where each element comes before the later ones.
use Rattle.std.proofs.Common.{◌≡◌, ℕ, zero, suc, ◌<◌, List, [], ◌∷◌, ◌++◌, length, get_or, Bool, true, false, ◌&&◌, cond, ◌⊎◌, inl, inr, refl, sym, ap, subst, arith}
use Rattle.std.specs.List.{filter, AllPairs, Contains}
use Rattle.xt_names.proofs.ListLemmas.{further}
use Rattle.std.proofs.lemmas.Bool.{both_ways, and_right}

abbrev pub In : {X : Type 0} → X → List X → Type 0
In t [] = ⊥
In t (x ∷ xs) = (x ≡ t) ⊎ In t xs

-- the element comes before each of the list
abbrev pub Leads : {X : Type 0} → (X → X → Bool) → X → List X → Type 0
Leads lt t [] = Unit {0}
Leads lt t (x ∷ xs) = (lt t x ≡ true) × Leads lt t xs

abbrev pub Rising : {X : Type 0} → (X → X → Bool) → List X → Type 0
Rising lt [] = Unit {0}
Rising lt (x ∷ xs) = Leads lt x xs × Rising lt xs

pub In-from_Contains : {X : Type 0} (t : X) (xs : List X) → Contains xs t → In t xs
In-from_Contains t [] (k, h, e) = absurd (omega arith)
In-from_Contains t (x ∷ xs) (zero, h, e) = inl e
In-from_Contains t (x ∷ xs) (suc k, h, e) = inr (In-from_Contains t xs (k, omega arith, e))

pub Contains-from_In : {X : Type 0} (t : X) (xs : List X) → In t xs → Contains xs t
Contains-from_In t [] i = absurd i
Contains-from_In t (x ∷ xs) (inl e) = (0, omega arith, e)
Contains-from_In t (x ∷ xs) (inr i) = further x t xs (Contains-from_In t xs i)

leads : {X : Type 0} (lt : X → X → Bool) (d t : X) (xs : List X) → ((k : ℕ) → k < length xs → lt t (get_or xs k d) ≡ true) → Leads lt t xs
leads lt d t [] h = tt
leads lt d t (x ∷ xs) h = (h 0 (omega arith), leads lt d t xs (λ k l. h (suc k) (omega arith)))

pub Rising-from_pairs : {X : Type 0} (lt : X → X → Bool) (xs : List X) → AllPairs (λ a b. lt a b ≡ true) xs → Rising lt xs
Rising-from_pairs lt [] h = tt
Rising-from_pairs lt (x ∷ xs) h = (
  leads lt x x xs (λ k l. h 0 (suc k) x (omega arith) (omega arith)),
  Rising-from_pairs lt xs (λ i j d l m. h (suc i) (suc j) d (omega arith) (omega arith)),
)

led : {X : Type 0} (lt : X → X → Bool) (x t : X) (xs : List X) → Leads lt x xs → In t xs → lt x t ≡ true
led lt x t [] h i = absurd i
led lt x t (y ∷ ys) h (inl e) = subst (λ z. lt x z ≡ true) e h.0
led lt x t (y ∷ ys) h (inr i) = led lt x t ys h.1 i

not_both : (a b : Bool) → (a ≡ true → b ≡ true → ⊥) → (a && b) ≡ false
not_both true true h = absurd (h refl refl)
not_both true false h = refl
not_both false b h = refl

pub none_pass : {X : Type 0} (p b : X → Bool) (xs : List X) → ((m : X) → In m xs → p m ≡ true → b m ≡ false) → filter (λ m. p m && b m) xs ≡ []
none_pass p b [] h = refl
none_pass p b (x ∷ xs) h =
    let e = not_both (p x) (b x) (λ u v. both_ways (b x) (h x (inl refl) u) v) in
    rw (e, none_pass p b xs (λ m i. h m (inr i))) refl

module _ {X : Type 0} (p b : X → Bool) (lt : X → X → Bool) (t : X) where
  agree_behind : (xs : List X) → Leads lt t xs → ((y : X) → lt t y ≡ true → b y ≡ true) → filter (λ m. p m && b m) xs ≡ filter (λ m. p m && lt t m) xs
  agree_behind [] h up = refl
  agree_behind (y ∷ ys) h up = rw (up y h.0, h.0, agree_behind ys h.1 up) refl

  first_here : (x : X) (xs : List X) → x ≡ t → Leads lt t xs → p x ≡ true → b x ≡ true → lt t x ≡ false → ((y : X) → lt t y ≡ true → b y ≡ true)
      → filter (λ m. p m && b m) (x ∷ xs) ≡ t ∷ filter (λ m. p m && lt t m) (x ∷ xs)
  first_here x xs e l pt bt irr up = rw (pt, bt, irr, agree_behind xs l up, e) refl

  -- the first that passes, and the others after it
  pub first_passing : (xs : List X) → Rising lt xs → In t xs → p t ≡ true → b t ≡ true → lt t t ≡ false → ((x : X) → lt x t ≡ true → lt t x ≡ false)
      → ((y : X) → lt t y ≡ true → b y ≡ true) → ((m : X) → In m xs → p m ≡ true → b m ≡ true → lt m t ≡ false)
      → filter (λ m. p m && b m) xs ≡ t ∷ filter (λ m. p m && lt t m) xs
  first_passing [] r i pt bt irr asym up first = absurd i
  first_passing (x ∷ xs) r (inl e) pt bt irr asym up first =
      first_here x xs e (subst (λ z. Leads lt z xs) e r.0) (subst (λ z. p z ≡ true) (sym e) pt) (subst (λ z. b z ≡ true) (sym e) bt)
      (subst (λ z. lt t z ≡ false) (sym e) irr) up
  first_passing (x ∷ xs) r (inr i) pt bt irr asym up first =
      let l = led lt x t xs r.0 i in
      let q = not_both (p x) (b x) (λ u v. both_ways (lt x t) (first x (inl refl) u v) l) in
      let s = and_right (p x) (lt t x) (asym x l) in
      rw (q, s) (first_passing xs r.1 i pt bt irr asym up (λ m j. first m (inr j)))

  none_before : (xs : List X) → Leads lt t xs → ((x : X) → lt t x ≡ true → lt x t ≡ false) → filter (λ m. p m && lt m t) xs ≡ []
  none_before [] h asym = refl
  none_before (y ∷ ys) h asym = rw (and_right (p y) (lt y t) (asym y h.0), none_before ys h.1 asym) refl

  none_left : (xs : List X) → Leads lt t xs → ((m : X) → In m xs → p m ≡ true → b m ≡ true → lt t m ≡ false) → filter (λ m. p m && b m) xs ≡ []
  none_left [] h last = refl
  none_left (y ∷ ys) h last =
      rw (not_both (p y) (b y) (λ u v. both_ways (lt t y) (last y (inl refl) u v) h.0), none_left ys h.1 (λ m j. last m (inr j))) refl

  last_here : (x : X) (xs : List X) → x ≡ t → Leads lt t xs → p x ≡ true → b x ≡ true → lt x t ≡ false → ((x : X) → lt t x ≡ true → lt x t ≡ false)
      → ((m : X) → In m xs → p m ≡ true → b m ≡ true → lt t m ≡ false)
      → filter (λ m. p m && b m) (x ∷ xs) ≡ filter (λ m. p m && lt m t) (x ∷ xs) ++ t ∷ []
  last_here x xs e l pt bt irr asym last = rw (pt, bt, irr, none_left xs l last, none_before xs l asym, e) refl

  cond_append : (c : Bool) (x : X) (u v : List X) → u ≡ v ++ t ∷ [] → cond c (x ∷ u) u ≡ cond c (x ∷ v) v ++ t ∷ []
  cond_append true x u v e = ap (λ (z : List X). x ∷ z) e
  cond_append false x u v e = e

  -- the last that passes, and the others before it
  pub last_passing : (xs : List X) → Rising lt xs → In t xs → p t ≡ true → b t ≡ true → lt t t ≡ false → ((x : X) → lt t x ≡ true → lt x t ≡ false)
      → ((y : X) → lt y t ≡ true → b y ≡ true) → ((m : X) → In m xs → p m ≡ true → b m ≡ true → lt t m ≡ false)
      → filter (λ m. p m && b m) xs ≡ filter (λ m. p m && lt m t) xs ++ t ∷ []
  last_passing [] r i pt bt irr asym down last = absurd i
  last_passing (x ∷ xs) r (inl e) pt bt irr asym down last =
      last_here x xs e (subst (λ z. Leads lt z xs) e r.0) (subst (λ z. p z ≡ true) (sym e) pt) (subst (λ z. b z ≡ true) (sym e) bt)
      (subst (λ z. lt z t ≡ false) (sym e) irr) asym (λ m j. last m (inr j))
  last_passing (x ∷ xs) r (inr i) pt bt irr asym down last =
      let l = led lt x t xs r.0 i in
      let ih = last_passing xs r.1 i pt bt irr asym down (λ m j. last m (inr j)) in
      rw (down x l, l) (cond_append (p x && true) x (filter (λ m. p m && b m) xs) (filter (λ m. p m && lt m t) xs) ih)
