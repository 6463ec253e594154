-- What a table of places by value finds.
use Rattle.std.proofs.Common.{◌≡◌, ℕ, suc, ◌+◌, ◌-◌, ◌<◌, ◌≤◌, Bool, true, false, ◌||◌, cond, List}
use Rattle.std.proofs.Common.{[], ◌∷◌, ◌++◌, length, filter, slice_get, Option, Some}
use Rattle.std.proofs.Common.{if◌then◌else◌, refl, ap, ap₂, sym, ◌∙◌, arith}
use Rattle.std.proofs.Common.{Result, Ok, Err, IfOk, get_or, take, drop}
use Rattle.std.specs.Prelude.{nat_eq}
use Rattle.std.specs.List.{list_any}
use Rattle.std.specs.Option.{option_map_or}
use Rattle.std.proofs.lemmas.Bool.{eqb-true}
use Rattle.std.proofs.lemmas.List.{append-nil, append_assoc, length-append}
use Rattle.xt_atoms.specs.Keys.{key_same}
use Rattle.xt_atoms.specs.declared.atoms.Atom.{Atom}
use Rattle.xdm_items.specs.declared.items.Item.{Item}
use Rattle.xdm_items.specs.declared.items.Item.TheVariants as item
use Rattle.order_group.proofs.AtomKeys.KeyLemmas.{same_key_laws as laws}
use Rattle.order_group.specs.AtomKeys.Tables.{ends_in, joined, with_place, places_of}
use Rattle.order_group.specs.declared.atom_keys.tables.KeyEntry.{KeyEntry}
use Rattle.order_group.specs.Groups.{atoms_of, has_key, places_where}
use Rattle.order_group.specs.Steps.{with_row}
use Rattle.key_index.specs.Keys.{put_pairs, put_found, put_places, with_pairs, has_one, only_atom}
use Rattle.key_index.specs.Keys.{key_nodes}
use Rattle.key_index.specs.Merges.{merged}
use Rattle.key_index.specs.Nodes.{put_node}
use Rattle.key_index.proofs.MergeLemmas.{merged_where, no_place, some_of_halves}
use Rattle.key_index.specs.declared.indexes.KeyPair.{KeyPair}
use Rattle.std.proofs.Math.Bool.{or-false}

-- the places under a key, after one more place under some key
places_put : (es : List KeyEntry) (b a : Atom) (n : ℕ)
    → places_of (with_place es b n) a
    ≡ (if key_same a b then joined (places_of es a) n else places_of es a)
unfolding joined
places_put [] b a n = refl
places_put (e ∷ es) b a n = by (key_same b e.key) (key_same a e.key)
    (key_same a b) refl refl refl (places_put es b a n)
  where
    by : (s t u : Bool) → key_same b e.key ≡ s → key_same a e.key ≡ t → key_same a b ≡ u
        → places_of (with_place es b n) a
        ≡ (if u then joined (places_of es a) n else places_of es a)
        → places_of (if s then record e { places = joined e.places n } ∷ es else e ∷ with_place es b n) a ≡ (if u then joined (if t then e.places else places_of es a) n else (if t then e.places else places_of es a))
    by true true true f g h more = rw g refl
    by true true false f g h more = let same : key_same a b ≡ true = laws.symm a b
        ∙ laws.congr b e.key a f ∙ laws.symm e.key a ∙ g in absurd cc
    by true false true f g h more = let same : key_same a e.key ≡ true = laws.congr a b e.key h
        ∙ f in absurd cc
    by true false false f g h more = rw g refl
    by false true true f g h more = let same : key_same b e.key
        ≡ true = sym (laws.congr a b e.key h) ∙ g in absurd cc
    by false true false f g h more = rw g refl
    by false false true f g h more = rw g more
    by false false false f g h more = rw g more

apart : (m n : ℕ) → m < n → nat_eq m n ≡ false
apart m n h = by (nat_eq m n) refl
  where
    by : (b : Bool) → nat_eq m n ≡ b → b ≡ false
    by true e = let same : m ≡ n = eqb-true m n e in absurd (omega arith)
    by false e = refl

get_pushed : (places : List ℕ) (n : ℕ) → slice_get (places ++ n ∷ []) (length places) ≡ Some n
get_pushed [] n = refl
get_pushed (m ∷ places) n = get_pushed places n

ends_pushed : (places : List ℕ) (n m : ℕ) → ends_in (places ++ n ∷ []) m ≡ nat_eq n m
ends_pushed places n m =
    let long : length (places ++ n ∷ []) ≡ length places + 1 = length-append places (n ∷ []) in
    let last : length (places ++ n ∷ []) - 1 ≡ length places = omega arith in
    ap (λ i. option_map_or (λ last. nat_eq last m) (slice_get (places ++ n ∷ []) i) false) last
    ∙ ap (λ o. option_map_or (λ last. nat_eq last m) o false) (get_pushed places n)

joined_new : (places : List ℕ) (n : ℕ) → ends_in places n ≡ false
    → joined places n ≡ places ++ n ∷ []
unfolding joined
joined_new places n h = ap (λ b. if b then places else places ++ n ∷ []) h

-- no places from n on end a list of the table
abbrev IsBelow : List KeyEntry → ℕ → Type 0
IsBelow es n = (a : Atom) (m : ℕ) → n ≤ m → ends_in (places_of es a) m ≡ false

below_next : (es : List KeyEntry) (b : Atom) (n : ℕ) → IsBelow es n
    → IsBelow (with_place es b n) (suc n)
below_next es b n h a m low = ap (λ l. ends_in l m) (places_put es b a n) ∙ by (key_same a b)
  where
    by : (s : Bool) → ends_in (if s then joined (places_of es a) n else places_of es a) m ≡ false
    by true = ap (λ l. ends_in l m) (joined_new (places_of es a) n (h a n (omega arith)))
        ∙ ends_pushed (places_of es a) n m ∙ apart n m (omega arith)
    by false = h a m (omega arith)

pairs_places : (es : List KeyEntry) (a : Atom) (n : ℕ) (pairs : List KeyPair) → IsBelow es n
    → places_of (with_pairs es n pairs) a
    ≡ places_of es a ++ places_where (λ p. key_same a p.value) n pairs
pairs_places es a n [] h = sym (append-nil (places_of es a))
pairs_places es a n (p ∷ pairs) h =
    pairs_places (with_place es p.value n) a (suc n) pairs (below_next es p.value n h)
    ∙ ap (λ l. l ++ places_where (λ p. key_same a p.value) (suc n) pairs)
    (places_put es p.value a n)
    ∙ by (key_same a p.value)
  where
    by : (s : Bool) → (if s then joined (places_of es a) n else places_of es a) ++ places_where
        (λ p. key_same a p.value) (suc n) pairs
        ≡ places_of es a ++ (if s then n ∷ places_where (λ p. key_same a p.value)
        (suc n) pairs else places_where (λ p. key_same a p.value) (suc n) pairs)
    by true =
        ap (λ l. l ++ places_where (λ p. key_same a p.value) (suc n) pairs)
        (joined_new (places_of es a) n (h a n (omega arith)))
        ∙ append_assoc (places_of es a) (n ∷ [])
        (places_where (λ p. key_same a p.value) (suc n) pairs)
    by false = refl

-- the pairs at the places of those that pass
places_pass : (test : KeyPair → Bool) (at : ℕ → Option KeyPair) (n : ℕ) (items : List Item)
    (pairs : List KeyPair) → ((i : ℕ) → at (n + i) ≡ slice_get pairs i)
    → put_places at items (places_where test n pairs) ≡ put_pairs items (filter test pairs)
places_pass test at n items [] h = refl
places_pass test at n items (p ∷ pairs) h = by (test p)
    (λ l. places_pass test at (suc n) l pairs later)
  where
    first : at n ≡ Some p
    first = let e : n + 0 ≡ n = omega arith in ap at (sym e) ∙ h 0

    later : (i : ℕ) → at (suc n + i) ≡ slice_get pairs i
    later i = let e : suc n + i ≡ n + suc i = omega arith in ap at e ∙ h (suc i)

    by : (s : Bool) → ((l : List Item)
        → put_places at l (places_where test (suc n) pairs) ≡ put_pairs l (filter test pairs))
        → put_places at items (if s then n ∷ places_where test
        (suc n) pairs else places_where test (suc n) pairs)
        ≡ put_pairs items (cond s (p ∷ filter test pairs) (filter test pairs))
    by true more = ap (λ o. put_places at (put_found items o)
        (places_where test (suc n) pairs)) first ∙ more (put_node items p.node)
    by false more = more items

pub one_place : (a : Atom) (pairs : List KeyPair)
    → places_of (with_pairs [] 0 pairs) a ≡ places_where (λ p. key_same a p.value) 0 pairs
one_place a pairs = pairs_places [] a 0 pairs (λ b m low. refl)

pub places_found : (test : KeyPair → Bool) (pairs : List KeyPair)
    → put_places (slice_get pairs) [] (places_where test 0 pairs)
    ≡ put_pairs [] (filter test pairs)
places_found test pairs = places_pass test (slice_get pairs) 0 [] pairs
    (λ i. let e : 0 + i ≡ i = omega arith in ap (slice_get pairs) e)

pub found_places : (a : Atom) (pairs : List KeyPair)
    → put_places (slice_get pairs) [] (places_of (with_pairs [] 0 pairs) a)
    ≡ put_pairs [] (filter (λ p. key_same a p.value) pairs)
found_places a pairs =
    ap (put_places (slice_get pairs) []) (one_place a pairs)
    ∙ places_found (λ p. key_same a p.value) pairs

-- a key is in a table of given keys where it is the same as one of them

abbrev has_entry : List KeyEntry → Atom → Bool
has_entry es v = list_any (λ e. key_same e.key v) es

or_other : (a b c : Bool) → a || (b || c) ≡ b || (a || c)
or_other true true c = refl
or_other true false c = refl
or_other false b c = refl

or_again : (a b : Bool) → a || b ≡ a || (a || b)
or_again true b = refl
or_again false b = refl

entry_put : (es : List KeyEntry) (a : Atom) (n : ℕ) (v : Atom)
    → has_entry (with_place es a n) v ≡ key_same a v || has_entry es v
entry_put [] a n v = refl
entry_put (e ∷ es) a n v = by (key_same a e.key) refl (entry_put es a n v)
  where
    by : (s : Bool) → key_same a e.key ≡ s
        → has_entry (with_place es a n) v ≡ key_same a v || has_entry es v
        → list_any (λ e. key_same e.key v)
        (if s then record e { places = joined e.places n } ∷ es else e ∷ with_place es a n)
        ≡ key_same a v || (key_same e.key v || has_entry es v)
    by true f more =
        let same : key_same e.key v ≡ key_same a v = sym (laws.congr a e.key v f) in
        rw same (or_again (key_same a v) (has_entry es v))
    by false f more = ap (λ b. key_same e.key v || b) more
        ∙ or_other (key_same e.key v) (key_same a v) (has_entry es v)

row_entry : (es : List KeyEntry) (keys : List Atom) (n : ℕ) (v : Atom)
    → has_entry (with_row es keys n) v ≡ has_entry es v || has_key v keys
row_entry es [] n v = sym (or-false (has_entry es v))
row_entry es (a ∷ keys) n v =
    row_entry (with_place es a n) keys n v
    ∙ ap (λ s. s || has_key v keys)
    (entry_put es a n v ∙ ap (λ s. s || has_entry es v) (laws.symm a v))
    ∙ or_mid (key_same v a) (has_entry es v) (has_key v keys)
  where
    or_mid : (a b c : Bool) → (a || b) || c ≡ b || (a || c)
    or_mid true true c = refl
    or_mid true false c = refl
    or_mid false b c = refl

pub wanted_has : (keys : List Atom) (p : KeyPair)
    → has_one (with_row [] keys 0) p ≡ has_key p.value keys
wanted_has keys p = row_entry [] keys 0 p.value

only_key : (values : List Item) (a : Atom) → only_atom values ≡ Some a → atoms_of values ≡ a ∷ []
only_key [] a h = absurd cc
only_key (item.Atom b ∷ []) a h = let same : b ≡ a = cc in ap (λ c. c ∷ []) same
only_key (item.Node n ∷ []) a h = absurd cc
only_key (x ∷ y ∷ values) a h = absurd cc

pub one_key : (pairs : List KeyPair) (values : List Item) (a : Atom) → only_atom values ≡ Some a
    → put_pairs [] (filter (λ p. key_same a p.value) pairs) ≡ key_nodes pairs values
one_key pairs values a h =
    ap (λ test. put_pairs [] (filter test pairs)) (λ i p. same p.value i)
    ∙ ap (λ keys. put_pairs [] (filter (λ p. has_key p.value keys) pairs))
    (sym (only_key values a h))
  where
    same : (v : Atom) → key_same a v ≡ has_key v (a ∷ [])
    same v = laws.symm a v ∙ sym (or-false (key_same v a))

-- the places of the pairs whose values are the same as one of the keys

pub none_has : (keys : List KeyEntry) (made : List ℕ) → length keys < 1 → made ≡ []
    → (pairs : List KeyPair) → made ≡ places_where (has_one keys) 0 pairs
none_has [] made h e pairs = e ∙ sym (no_place 0 pairs)
none_has (k ∷ keys) made h e pairs = absurd (omega arith)

pub one_has : (table keys : List KeyEntry) (k : KeyEntry) (made : List ℕ) → 1 ≤ length keys
    → length keys < 2 → k ≡ get_or keys 0 k → made ≡ places_of table k.key
    → (pairs : List KeyPair) → table ≡ with_pairs [] 0 pairs
    → made ≡ places_where (has_one keys) 0 pairs
one_has table [] k made l h e f pairs t = absurd (omega arith)
one_has table (x ∷ y ∷ keys) k made l h e f pairs t = absurd (omega arith)
one_has table (x ∷ []) k made l h e f pairs t =
    f ∙ ap₂ (λ u (z : KeyEntry). places_of u z.key) t e ∙ one_place x.key pairs
    ∙ ap (λ test. places_where test 0 pairs)
    (λ i (p : KeyPair). sym (or-false (key_same x.key p.value)) i)

pub halves_have : (keys first_keys second_keys : List KeyEntry) (half : ℕ)
    (made first second : List ℕ) (pairs : List KeyPair) → made ≡ merged first second
    → first_keys ≡ take half keys → second_keys ≡ drop half keys
    → first ≡ places_where (has_one first_keys) 0 pairs
    → second ≡ places_where (has_one second_keys) 0 pairs
    → made ≡ places_where (has_one keys) 0 pairs
halves_have keys first_keys second_keys half made first second pairs m a b e f =
    m ∙ ap₂ merged (e ∙ ap (λ ks. places_where (has_one ks) 0 pairs) a)
    (f ∙ ap (λ ks. places_where (has_one ks) 0 pairs) b)
    ∙ merged_where (has_one (take half keys)) (has_one (drop half keys)) 0 pairs
    ∙ ap (λ test. places_where test 0 pairs)
    (λ i (p : KeyPair). some_of_halves (λ (e : KeyEntry). key_same e.key p.value) half keys i)

pub if_ok : {T E : Type 0} {P Q : T → Type 0} (r : Result T E) → ((x : T) → P x → Q x)
    → IfOk r P → IfOk r Q
if_ok (Ok x) f h = f x h
if_ok (Err e) f h = tt
