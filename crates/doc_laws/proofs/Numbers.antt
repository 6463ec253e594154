-- The first of ns0, ns1 and so on that a scope leaves free is not bound there.
use Rattle.std.proofs.Common.{◌≡◌, ℕ, zero, suc, ◌+◌, ◌^◌, ◌%◌, ◌<◌, ◌≤◌, List, [], ◌∷◌, length, Bool, true, false, cond, ◌||◌, Option, Some, None, refl, sym, ◌∙◌, arith, codes, ◌⊎◌, inl, inr, ⊎_elim}
use Rattle.std.specs.Fmt.{decimal}
use Rattle.std.specs.List.{list_all}
use Rattle.std.specs.Option.{is_some}
use Rattle.std.specs.Str.{bytes_eq}
use Rattle.std.proofs.lemmas.Bool.{false_from_ne_true}
use Rattle.std.proofs.lemmas.Fmt.{decimal_injective, decimal_by_steps}
use Rattle.std.proofs.lemmas.List.Folds.{list_all-append}
use Rattle.std.proofs.lemmas.Slice.Eq.{bytes_eq-Decides}
use Rattle.xt_names.specs.Classes.{is_in_ranges, ncname_char_ranges, begins_name, is_ncname_text}
use Rattle.xt_names.specs.declared.names.Binding.{Binding}
use Rattle.doc_laws.proofs.Ranges.{in_range}
use Rattle.name_scopes.specs.Scopes.{bound_uri, or_earlier, binds, numbered_prefix, free_number, free_prefix}

-- how many numbers below k pass
abbrev count : (ℕ → Bool) → ℕ → ℕ
count f zero = 0
count f (suc k) = cond (f k) (suc (count f k)) (count f k)

count_none : (f : ℕ → Bool) (k : ℕ) → ((i : ℕ) → i < k → f i ≡ false) → count f k ≡ 0
count_none f zero h = refl
count_none f (suc k) h = rw (h k (omega arith)) (count_none f k (λ i l. h i (omega arith)))

count_all : (f : ℕ → Bool) (k : ℕ) → ((i : ℕ) → i < k → f i ≡ true) → count f k ≡ k
count_all f zero h = refl
count_all f (suc k) h = let ih = count_all f k (λ i l. h i (omega arith)) in rw (h k (omega arith), ih) refl

count_one : (f : ℕ → Bool) (k : ℕ) → ((i j : ℕ) → i < k → j < k → f i ≡ true → f j ≡ true → i ≡ j) → count f k ≤ 1
count_one f zero same = omega arith
count_one f (suc k) same = go (f k) refl (count_one f k (λ i j a b. same i j (omega arith) (omega arith)))
  where
    other : (i : ℕ) → i < k → f k ≡ true → f i ≡ true → ⊥
    other i l e t = let x = same i k (omega arith) (omega arith) t e in absurd (omega arith)

    go : (b : Bool) → f k ≡ b → count f k ≤ 1 → cond b (suc (count f k)) (count f k) ≤ 1
    go true e low = let none = count_none f k (λ i l. false_from_ne_true (f i) (other i l e)) in omega arith
    go false e low = low

count_either : (f g h : ℕ → Bool) (k : ℕ) → ((i : ℕ) → f i ≡ true → (g i || h i) ≡ true) → count f k ≤ count g k + count h k
count_either f g h zero e = omega arith
count_either f g h (suc k) e = go (f k) (g k) (h k) (e k) (count_either f g h k e)
  where
    go : (a b c : Bool) → (a ≡ true → (b || c) ≡ true) → count f k ≤ count g k + count h k
        → cond a (suc (count f k)) (count f k) ≤ cond b (suc (count g k)) (count g k) + cond c (suc (count h k)) (count h k)
    go true true true i low = omega arith
    go true true false i low = omega arith
    go true false true i low = omega arith
    go true false false i low = let x = i refl in absurd (cc)
    go false true true i low = omega arith
    go false true false i low = omega arith
    go false false true i low = omega arith
    go false false false i low = omega arith

-- prefixes of different numbers differ
number_same : (m n : ℕ) → m < 2 ^ 64 → n < 2 ^ 64 → numbered_prefix m ≡ numbered_prefix n → m ≡ n
unfolding numbered_prefix
number_same m n a b e = let t : decimal m ≡ decimal n = cc in decimal_injective m n a b t

bound_first : (b : Binding) (bs : List Binding) (p : List ℕ) → binds (b ∷ bs) p ≡ true → (bytes_eq b.prefix p || binds bs p) ≡ true
unfolding binds
bound_first b bs p e = go (bytes_eq b.prefix p) (bound_uri bs p) e
  where
    go : (q : Bool) (o : Option (List ℕ)) → is_some (or_earlier o (cond q (Some b.uri) None)) ≡ true → (q || is_some o) ≡ true
    go true o e = refl
    go false None e = e
    go false (Some u) e = refl

nothing_bound : (p : List ℕ) → binds [] p ≡ false
unfolding binds
nothing_bound p = refl

-- a scope binds no more of them than it has bindings
count_bound : (scope : List Binding) (k : ℕ) → k ≤ 2 ^ 64 → count (λ i. binds scope (numbered_prefix i)) k ≤ length scope
count_bound [] k small = let e = count_none (λ i. binds [] (numbered_prefix i)) k (λ i l. nothing_bound (numbered_prefix i)) in omega arith
count_bound (b ∷ bs) k small =
    let own : ℕ → Bool = λ i. bytes_eq b.prefix (numbered_prefix i) in
    let others : ℕ → Bool = λ i. binds bs (numbered_prefix i) in
    let same = λ (i j : ℕ) (x : i < k) (y : j < k) (u : own i ≡ true) (v : own j ≡ true). number_same i j (omega arith) (omega arith) (sym ((bytes_eq-Decides b.prefix (numbered_prefix i)).0 u) ∙ (bytes_eq-Decides b.prefix (numbered_prefix j)).0 v) in
    let one = count_one own k same in
    let rest = count_bound bs k small in
    let split = count_either (λ i. binds (b ∷ bs) (numbered_prefix i)) own others k (λ i e. bound_first b bs (numbered_prefix i) e) in
    omega arith

-- the number is not bound, or all that were tried are
record AreBound (scope : List Binding) (first more : ℕ) : Type 0 where
  number : free_number scope more first ≡ first + more
  bound : (i : ℕ) → first ≤ i → i < first + more → binds scope (numbered_prefix i) ≡ true

found : (scope : List Binding) (more n : ℕ) → (binds scope (numbered_prefix (free_number scope more n)) ≡ false) ⊎ AreBound scope n more
found scope zero n = inr (record { number = omega arith; bound = λ i a b. absurd (omega arith) })
found scope (suc more) n = go (binds scope (numbered_prefix n)) refl (found scope more (n + 1))
  where
    here : (i : ℕ) → binds scope (numbered_prefix n) ≡ true → AreBound scope (n + 1) more → n ≤ i → i < n + suc more → binds scope (numbered_prefix i) ≡ true
    here i e k a b = grind (arith, k.bound i)

    go : (q : Bool) → binds scope (numbered_prefix n) ≡ q → (binds scope (numbered_prefix (free_number scope more (n + 1))) ≡ false) ⊎ AreBound scope (n + 1) more
        → (binds scope (numbered_prefix (cond q (free_number scope more (n + 1)) n)) ≡ false) ⊎ AreBound scope n (suc more)
    go true e (inl x) = inl x
    go true e (inr k) = let last = k.number in inr (record { number = rw e (omega arith); bound = λ i. here i e k })
    go false e k = inl e

free_or_all : (scope : List Binding) → length scope < 2 ^ 64 → AreBound scope 0 (length scope) → binds scope (numbered_prefix (free_number scope (length scope) 0)) ≡ false
free_or_all scope small k = rw k.number (false_from_ne_true _ (λ e. none e))
  where
    all : (i : ℕ) → i < suc (length scope) → binds scope (numbered_prefix (0 + length scope)) ≡ true → binds scope (numbered_prefix i) ≡ true
    all i l e = grind (arith, k.bound i)

    none : binds scope (numbered_prefix (0 + length scope)) ≡ true → ⊥
    none e =
        let most = count_bound scope (suc (length scope)) (omega arith) in
        let same = count_all (λ i. binds scope (numbered_prefix i)) (suc (length scope)) (λ i l. all i l e) in
        absurd (omega arith)

pub prefix_is_free : (scope : List Binding) → length scope < 2 ^ 64 → binds scope (free_prefix scope) ≡ false
unfolding free_prefix
prefix_is_free scope small = ⊎_elim (λ e. e) (free_or_all scope small) (found scope (length scope) 0)

-- the prefix is a name

digit_stands : (d : ℕ) → d < 10 → is_in_ranges ncname_char_ranges (48 + d) ≡ true
digit_stands d h = in_range ncname_char_ranges (48, 57) (48 + d) refl (omega arith) (omega arith)

number_chars : (n : ℕ) → n < 2 ^ 64 → list_all (is_in_ranges ncname_char_ranges) (decimal n) ≡ true
number_chars n h =
    let P : ℕ → List ℕ → Type 0 = λ m ds. list_all (is_in_ranges ncname_char_ranges) ds ≡ true in
    decimal_by_steps P (λ m l. rw (digit_stands m l) refl)
    (λ m ds l e. rw (list_all-append (is_in_ranges ncname_char_ranges) ds ((48 + m % 10) ∷ []), e, digit_stands (m % 10) (omega arith)) refl) n h

-- ns0 and so on are names, and not `xml` or `xmlns`
pub number_is_name : (n : ℕ) → n < 2 ^ 64 → is_ncname_text (numbered_prefix n) ≡ true
unfolding is_ncname_text begins_name is_in_ranges numbered_prefix
number_is_name n h = number_chars n h

pub number_is_not_xml : (n : ℕ) → bytes_eq (numbered_prefix n) (codes "xml") ≡ false
unfolding numbered_prefix
number_is_not_xml n = refl

pub number_is_not_xmlns : (n : ℕ) → bytes_eq (numbered_prefix n) (codes "xmlns") ≡ false
unfolding numbered_prefix
number_is_not_xmlns n = refl

-- the number that is found is no greater than the number of bindings
pub number_low : (scope : List Binding) (more n : ℕ) → free_number scope more n ≤ n + more
number_low scope zero n = omega arith
number_low scope (suc more) n = go (binds scope (numbered_prefix n)) (number_low scope more (n + 1))
  where
    go : (q : Bool) → free_number scope more (n + 1) ≤ n + 1 + more → cond q (free_number scope more (n + 1)) n ≤ n + suc more
    go true low = omega arith
    go false low = omega arith
