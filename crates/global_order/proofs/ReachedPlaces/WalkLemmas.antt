-- What a walk finds is what is reached.
use Rattle.std.proofs.Common.{◌≡◌, ◌∙◌, sym, refl, ℕ, zero, suc, ◌+◌, ◌-◌, ◌<◌, ◌≤◌, List, [], ◌∷◌, ◌++◌, Bool, true, false, ◌||◌, if◌then◌else◌, Some, None, length, nat_eq, nat_lt, get_or, arith, rules, length-append}
use Rattle.std.specs.List.{list_any}
use Rattle.std.proofs.Math.Nat.{eq-or-lt_of_le}
use mathlib.Core.Logic.{⊎_elim}
use Rattle.std.proofs.lemmas.Bool.{cases_lt}
use Rattle.std.proofs.lemmas.Bool.Decides.{nat_tests}
use Rattle.std.proofs.lemmas.List.{get_or_past, get_or_append_left}
use Rattle.std.proofs.lemmas.Option.{get_or_from_slice_get, slice_get-get_or}
use Rattle.std.specs.List.{slice_get}
use Rattle.global_order.specs.ReachedPlaces.Walks.{led_to, has, Reaches, itself, further, with_place, with_inner, with_places, walked, reached_from, AreReached}
use Rattle.xt_names.proofs.BoolLemmas.{one_less}
use Rattle.global_order.specs.Order.{Graph}

no_true : true ≡ false → ⊥
no_true e = cc

any-more : (f : ℕ → Bool) (xs : List ℕ) (y : ℕ) → list_any f (xs ++ y ∷ []) ≡ (list_any f xs || f y)
any-more f [] y = elim (f y) as (λ b. (b || false) ≡ (false || b)) [ true ↦ refl | false ↦ refl ]
any-more f (x ∷ xs) y = let ih = any-more f xs y in elim (f x) as (λ b. (b || list_any f (xs ++ y ∷ [])) ≡ ((b || list_any f xs) || f y)) [ true ↦ refl | false ↦ ih ]

has-more : (found : List ℕ) (i j : ℕ) → has (found ++ i ∷ []) j ≡ (has found j || nat_eq j i)
has-more found i j = any-more (nat_eq j) found i

pub same_place : (i j : ℕ) → nat_eq i j ≡ true → i ≡ j
same_place i j e = grind (arith, nat_tests, e)

pub nat_eq-same : (n : ℕ) → nat_eq n n ≡ true
nat_eq-same n = search rules

-- a place that is there stays
stays : (found : List ℕ) (i j : ℕ) → has found j ≡ true → has (found ++ i ∷ []) j ≡ true
stays found i j e = rw (has-more found i j, e) refl

last_is : (found : List ℕ) (i : ℕ) → has (found ++ i ∷ []) i ≡ true
last_is found i = rw (has-more found i i, nat_eq-same i) (elim (has found i) as (λ b. (b || true) ≡ true) [ true ↦ refl | false ↦ refl ])

-- a place of a longer list is one of the shorter, or the last
of_more : {Y : Type 0} (found : List ℕ) (i j : ℕ) → has (found ++ i ∷ []) j ≡ true → (has found j ≡ true → Y) → (j ≡ i → Y) → Y
of_more {Y} found i j e here last =
    let f : (has found j || nat_eq j i) ≡ true = sym (has-more found i j) ∙ e in
    let P : Bool → Type 0 = λ b. has found j ≡ b → (b || nat_eq j i) ≡ true → Y in
    let go : P (has found j) = elim (has found j) as P [ true ↦ λ h k. here h | false ↦ λ h k. last (same_place j i k) ] in
    go refl f

-- all that is found is reached
abbrev pub AllReached : Graph → ℕ → List ℕ → Type 0
AllReached g from found = (j : ℕ) → has found j ≡ true → Reaches g from j

sound_place : (g : Graph) (from i : ℕ) (found : List ℕ) → AllReached g from found → Reaches g from i → AllReached g from (with_place found i)
sound_place g from i found all r =
    let P : Bool → Type 0 = λ b. AllReached g from (if b then found else found ++ i ∷ []) in
    elim (has found i) as P [
      | true ↦ all
      | false ↦ λ j e. of_more found i j e (all j) (λ same. rw same r)
    ]

sound_inner : (g : Graph) (from i size : ℕ) (found : List ℕ) → AllReached g from found → Reaches g from i → AllReached g from (with_inner size found i)
sound_inner g from i size found all r =
    let P : Bool → Type 0 = λ b. AllReached g from (if b then with_place found i else found) in
    elim (nat_lt i size) as P [ true ↦ sound_place g from i found all r | false ↦ all ]

pub head_is : (i : ℕ) (others : List ℕ) → has (i ∷ others) i ≡ true
head_is i others = rw (nat_eq-same i) refl

pub in_tail : (i j : ℕ) (others : List ℕ) → has others j ≡ true → has (i ∷ others) j ≡ true
in_tail i j others e = rw e (elim (nat_eq j i) as (λ b. (b || true) ≡ true) [ true ↦ refl | false ↦ refl ])

sound_places : (g : Graph) (from size : ℕ) (found places : List ℕ) → AllReached g from found → ((j : ℕ) → has places j ≡ true → Reaches g from j) → AllReached g from (with_places size found places)
sound_places g from size found [] all r = all
sound_places g from size found (i ∷ others) all r =
    sound_places g from size (with_inner size found i) others
    (sound_inner g from i size found all (r i (head_is i others)))
    (λ j e. r j (in_tail i j others e))

-- what is at an index is there
has_at : (found : List ℕ) (p d : ℕ) → p < length found → has found (get_or found p d) ≡ true
has_at [] p d h = absurd (omega (arith, h))
has_at (x ∷ xs) zero d h = head_is x xs
has_at (x ∷ xs) (suc p) d h = in_tail x (get_or xs p d) xs (has_at xs p d (omega (arith, h)))

pub nothing_past : (g : Graph) (i : ℕ) → length g ≤ i → led_to g i ≡ []
nothing_past g i h = get_or_past g i [] h

sound_turn : (g : Graph) (from next : ℕ) (found : List ℕ) → AllReached g from found
    → (j : ℕ) → has (led_to g (get_or found next (length g))) j ≡ true → Reaches g from j
sound_turn g from next found all j e = ⊎_elim
    (λ less. further (get_or found next (length g)) j (all (get_or found next (length g)) (has_at found next (length g) less)) e)
    (λ ge. (let past : get_or found next (length g) ≡ length g = get_or_past found next (length g) ge in
    let none : led_to g (get_or found next (length g)) ≡ [] = rw past (nothing_past g (length g) (omega arith)) in
    let no : has [] j ≡ true = rw none at e in
    absurd (no_true (sym no))))
    (cases_lt next (length found))

pub sound : (k : ℕ) (g : Graph) (from next : ℕ) (found : List ℕ) → AllReached g from found → AllReached g from (walked k g next found)
sound zero g from next found all = all
sound (suc k) g from next found all =
    sound k g from (suc next) (with_places (length g) found (led_to g (get_or found next (length g))))
    (sound_places g from (length g) found (led_to g (get_or found next (length g))) all (sound_turn g from next found all))

-- how many of the first places are not found
abbrev unfound : ℕ → List ℕ → ℕ
unfound zero found = 0
unfound (suc n) found = (if has found n then 0 else 1) + unfound n found

unfound-le : (n i : ℕ) (found : List ℕ) → unfound n (found ++ i ∷ []) ≤ unfound n found
unfound-le zero i found = omega arith
unfound-le (suc n) i found = rw (has-more found i n) (omega (arith, unfound-le n i found, one_less (has found n) (nat_eq n i)))

unfound-less : (n i : ℕ) (found : List ℕ) → i < n → has found i ≡ false → unfound n (found ++ i ∷ []) < unfound n found
unfound-less zero i found h e = absurd (omega arith)
unfound-less (suc n) i found h e =
    let le : i ≤ n = omega (arith, h) in
    ⊎_elim
    (λ (same : i ≡ n).
    (let now : has found n ≡ false = rw same at e in
    let last : has (found ++ i ∷ []) n ≡ true = rw (← same) (last_is found i) in
    rw (last, now) (omega (arith, unfound-le n i found))))
    (λ (less : i < n). rw (has-more found i n) (omega (arith, unfound-less n i found less e, one_less (has found n) (nat_eq n i))))
    (eq-or-lt_of_le le)

-- no more are found than there are places
abbrev AreFew : ℕ → List ℕ → Type 0
AreFew n found = unfound n found + length found ≤ n

few_place : (n i : ℕ) (found : List ℕ) → i < n → AreFew n found → AreFew n (with_place found i)
few_place n i found h few =
    let P : Bool → Type 0 = λ b. has found i ≡ b → AreFew n (if b then found else found ++ i ∷ []) in
    let go : P (has found i) = elim (has found i) as P [
      | true ↦ λ e. few
      | false ↦ λ e. omega (arith, few, unfound-less n i found h e, length-append found (i ∷ []))
    ] in
    go refl

below : (i n : ℕ) → nat_lt i n ≡ true → i < n
below i n e = grind (arith, nat_tests, e)

-- no place past the graph is found
abbrev AllInner : ℕ → List ℕ → Type 0
AllInner n found = (j : ℕ) → has found j ≡ true → j < n

inner_place : (n i : ℕ) (found : List ℕ) → i < n → AllInner n found → AllInner n (with_place found i)
inner_place n i found h all =
    let P : Bool → Type 0 = λ b. AllInner n (if b then found else found ++ i ∷ []) in
    elim (has found i) as P [
      | true ↦ all
      | false ↦ λ j e. of_more found i j e (all j) (λ same. omega (arith, same, h))
    ]

inner_inner : (n i : ℕ) (found : List ℕ) → AllInner n found → AllInner n (with_inner n found i)
inner_inner n i found all =
    let P : Bool → Type 0 = λ b. nat_lt i n ≡ b → AllInner n (if b then with_place found i else found) in
    let go : P (nat_lt i n) = elim (nat_lt i n) as P [ true ↦ λ e. inner_place n i found (below i n e) all | false ↦ λ e. all ] in
    go refl

inner_places : (n : ℕ) (found places : List ℕ) → AllInner n found → AllInner n (with_places n found places)
inner_places n found [] all = all
inner_places n found (i ∷ others) all = inner_places n (with_inner n found i) others (inner_inner n i found all)

inner_walked : (k : ℕ) (g : Graph) (next : ℕ) (found : List ℕ) → AllInner (length g) found → AllInner (length g) (walked k g next found)
inner_walked zero g next found all = all
inner_walked (suc k) g next found all =
    inner_walked k g (suc next) (with_places (length g) found (led_to g (get_or found next (length g))))
    (inner_places (length g) found (led_to g (get_or found next (length g))) all)

inner_first : (n from : ℕ) → from < n → AllInner n (from ∷ [])
inner_first n from h j e =
    let P : Bool → Type 0 = λ b. nat_eq j from ≡ b → (b || false) ≡ true → j < n in
    let go : P (nat_eq j from) = elim (nat_eq j from) as P [
      | true ↦ λ s k. (let same = same_place j from s in omega (arith, same, h))
      | false ↦ λ s k. absurd (no_true (sym k))
    ] in
    go refl e

pub all_inner : (g : Graph) (from : ℕ) → from < length g → (j : ℕ) → has (reached_from g from) j ≡ true → j < length g
unfolding reached_from
all_inner g from h = inner_walked (length g) g 0 (from ∷ []) (inner_first (length g) from h)

few_inner : (n i : ℕ) (found : List ℕ) → AreFew n found → AreFew n (with_inner n found i)
few_inner n i found few =
    let P : Bool → Type 0 = λ b. nat_lt i n ≡ b → AreFew n (if b then with_place found i else found) in
    let go : P (nat_lt i n) = elim (nat_lt i n) as P [ true ↦ λ e. few_place n i found (below i n e) few | false ↦ λ e. few ] in
    go refl

few_places : (n : ℕ) (found places : List ℕ) → AreFew n found → AreFew n (with_places n found places)
few_places n found [] few = few
few_places n found (i ∷ others) few = few_places n (with_inner n found i) others (few_inner n i found few)

few_walked : (k : ℕ) (g : Graph) (next : ℕ) (found : List ℕ) → AreFew (length g) found → AreFew (length g) (walked k g next found)
few_walked zero g next found few = few
few_walked (suc k) g next found few =
    few_walked k g (suc next) (with_places (length g) found (led_to g (get_or found next (length g))))
    (few_places (length g) found (led_to g (get_or found next (length g))) few)

none_found : (n : ℕ) → unfound n [] ≡ n
none_found zero = refl
none_found (suc n) = let ih = none_found n in omega (arith, ih)

few_at_first : (n from : ℕ) → from < n → AreFew n (from ∷ [])
few_at_first n from h = let less = unfound-less n from [] h refl in let none = none_found n in omega (arith, less, none)

-- places stay where they are, and what is there stays
pub record IsKept (old new : List ℕ) : Type 0 where
  pub at : (p d : ℕ) → p < length old → get_or new p d ≡ get_or old p d
  pub there : (j : ℕ) → has old j ≡ true → has new j ≡ true
  pub longer : length old ≤ length new

kept_same : (found : List ℕ) → IsKept found found
kept_same found = record { at = λ p d h. refl; there = λ j e. e; longer = omega arith }

kept_on : (a b c : List ℕ) → IsKept a b → IsKept b c → IsKept a c
kept_on a b c f h = record {
  at = λ p d l. h.at p d (omega (arith, l, f.longer)) ∙ f.at p d l;
  there = λ j e. h.there j (f.there j e);
  longer = omega (arith, f.longer, h.longer);
}

kept_more : (found : List ℕ) (i : ℕ) → IsKept found (found ++ i ∷ [])
kept_more found i = record {
  at = λ p d h. get_or_append_left found (i ∷ []) d p h;
  there = λ j e. stays found i j e;
  longer = omega (arith, length-append found (i ∷ []));
}

kept_inner : (n i : ℕ) (found : List ℕ) → IsKept found (with_inner n found i)
kept_inner n i found =
    let Q : Bool → Type 0 = λ b. IsKept found (if b then found else found ++ i ∷ []) in
    let place : IsKept found (with_place found i) = elim (has found i) as Q [ true ↦ kept_same found | false ↦ kept_more found i ] in
    let P : Bool → Type 0 = λ b. IsKept found (if b then with_place found i else found) in
    elim (nat_lt i n) as P [ true ↦ place | false ↦ kept_same found ]

kept_places : (n : ℕ) (found places : List ℕ) → IsKept found (with_places n found places)
kept_places n found [] = kept_same found
kept_places n found (i ∷ others) =
    kept_on found (with_inner n found i) (with_places n (with_inner n found i) others) (kept_inner n i found) (kept_places n (with_inner n found i) others)

kept_walked : (k : ℕ) (g : Graph) (next : ℕ) (found : List ℕ) → IsKept found (walked k g next found)
kept_walked zero g next found = kept_same found
kept_walked (suc k) g next found =
    let more = with_places (length g) found (led_to g (get_or found next (length g))) in
    kept_on found more (walked k g (suc next) more) (kept_places (length g) found (led_to g (get_or found next (length g)))) (kept_walked k g (suc next) more)

is_below : (i n : ℕ) → i < n → nat_lt i n ≡ true
is_below i n h = grind (arith, nat_tests, h)

-- a place that is looked at is there afterwards
taken_inner : (n i : ℕ) (found : List ℕ) → i < n → has (with_inner n found i) i ≡ true
taken_inner n i found h =
    let b = is_below i n h in
    let P : Bool → Type 0 = λ b. has found i ≡ b → has (if b then found else found ++ i ∷ []) i ≡ true in
    let go : P (has found i) = elim (has found i) as P [ true ↦ λ e. e | false ↦ λ e. last_is found i ] in
    rw b (go refl)

taken : (n j : ℕ) (found places : List ℕ) → j < n → has places j ≡ true → has (with_places n found places) j ≡ true
taken n j found [] h e = absurd (no_true (sym e))
taken n j found (i ∷ others) h e =
    let P : Bool → Type 0 = λ b. nat_eq j i ≡ b → (b || has others j) ≡ true → has (with_places n (with_inner n found i) others) j ≡ true in
    let go : P (nat_eq j i) = elim (nat_eq j i) as P [
      | true ↦ λ s k. (kept_places n (with_inner n found i) others).there j (rw (same_place j i s) (taken_inner n i found (rw (same_place j i s) at h)))
      | false ↦ λ s k. taken n j (with_inner n found i) others h k
    ] in
    go refl e

-- where the first of those found lead is found
abbrev IsClosed : Graph → ℕ → List ℕ → Type 0
IsClosed g next found =
    (p : ℕ) → p < next → p < length found → (j : ℕ) → j < length g → has (led_to g (get_or found p (length g))) j ≡ true → has found j ≡ true

closed_turn : (g : Graph) (next : ℕ) (found : List ℕ) → IsClosed g next found → IsClosed g (suc next) (with_places (length g) found (led_to g (get_or found next (length g))))
closed_turn g next found closed p h l j b e =
    let n = length g in
    let ps = led_to g (get_or found next n) in
    let kept = kept_places n found ps in
    ⊎_elim
    (λ less.
    (let e' : has (led_to g (get_or found p n)) j ≡ true = rw (kept.at p n less) at e in
    ⊎_elim
    (λ same. (let e'' : has ps j ≡ true = rw same at e' in taken n j found ps b e''))
    (λ before. kept.there j (closed p before less j b e'))
    (eq-or-lt_of_le (omega (arith, h)))))
    (λ ge.
    (let past : get_or found next n ≡ n = get_or_past found next n (omega (arith, ge, h)) in
    let none : ps ≡ [] = rw past (nothing_past g n (omega arith)) in
    let same : with_places n found ps ≡ found = rw none refl in
    let l' : p < length found = rw same at l in
    absurd (omega (arith, ge, l'))))
    (cases_lt p (length found))

closed_walked : (k : ℕ) (g : Graph) (next : ℕ) (found : List ℕ) → IsClosed g next found → IsClosed g (next + k) (walked k g next found)
closed_walked zero g next found closed = let s : next + 0 ≡ next = omega arith in rw s closed
closed_walked (suc k) g next found closed =
    let s : next + suc k ≡ suc next + k = omega arith in
    rw s (closed_walked k g (suc next) (with_places (length g) found (led_to g (get_or found next (length g)))) (closed_turn g next found closed))

-- what is there is at an index
index_of : (found : List ℕ) (j d : ℕ) → has found j ≡ true → (p : ℕ) × (p < length found) × (get_or found p d ≡ j)
index_of [] j d e = absurd (no_true (sym e))
index_of (x ∷ xs) j d e =
    let P : Bool → Type 0 = λ b. nat_eq j x ≡ b → (b || has xs j) ≡ true → (p : ℕ) × (p < length (x ∷ xs)) × (get_or (x ∷ xs) p d ≡ j) in
    let go : P (nat_eq j x) = elim (nat_eq j x) as P [
      | true ↦ λ s k. (0, omega arith, sym (same_place j x s))
      | false ↦ λ s k. (let r = index_of xs j d k in (suc r.0, omega (arith, r.1), r.2))
    ] in
    go refl e

complete : (g : Graph) (from : ℕ) (found : List ℕ) → has found from ≡ true → length found ≤ length g → IsClosed g (length g) found
    → (j : ℕ) → Reaches g from j → j < length g → has found j ≡ true
complete g from found first few closed _ itself h = first
complete g from found first few closed _ (further i j r e) h = ⊎_elim
    (λ less.
    (let ih = complete g from found first few closed i r less in
    let at = index_of found i (length g) ih in
    closed at.0 (omega (arith, at.1, few)) at.1 j h (rw (at.2) e)))
    (λ ge. (let no : has [] j ≡ true = rw (nothing_past g i ge) at e in absurd (no_true (sym no))))
    (cases_lt i (length g))

pub reached_at_first : (g : Graph) (from : ℕ) → AllReached g from (from ∷ [])
reached_at_first g from j e =
    let P : Bool → Type 0 = λ b. nat_eq j from ≡ b → (b || false) ≡ true → Reaches g from j in
    let go : P (nat_eq j from) = elim (nat_eq j from) as P [
      | true ↦ λ s k. rw (same_place j from s) itself
      | false ↦ λ s k. absurd (no_true (sym k))
    ] in
    go refl e

-- a walk finds nothing that is not reached
pub all_reached : (g : Graph) (from : ℕ) → AllReached g from (reached_from g from)
unfolding reached_from
all_reached g from = sound (length g) g from 0 (from ∷ []) (reached_at_first g from)

pub are_reached : (g : Graph) (from : ℕ) (found : List ℕ) → found ≡ reached_from g from → from < length g → AreReached g from found
unfolding reached_from
are_reached g from found e h j b =
    let n = length g in
    let start = from ∷ [] in
    let all : AllReached g from (walked n g 0 start) = sound n g from 0 start (reached_at_first g from) in
    let few : AreFew n (walked n g 0 start) = few_walked n g 0 start (few_at_first n from h) in
    let closed : IsClosed g (0 + n) (walked n g 0 start) = closed_walked n g 0 start (λ p l. absurd (omega (arith, l))) in
    let closed' : IsClosed g n (walked n g 0 start) = rw (zero_more n) at closed in
    let first : has (walked n g 0 start) from ≡ true = (kept_walked n g 0 start).there from (head_is from []) in
    rw e (all j, λ r. complete g from (walked n g 0 start) first (omega (arith, few)) closed' j r b)
  where
    zero_more : (n : ℕ) → 0 + n ≡ n
    zero_more n = omega arith

-- one turn of a walk
pub turn_taken : (turn place : ℕ) (g : Graph) (found next whole : List ℕ) → turn < length g → slice_get found turn ≡ Some place
    → next ≡ with_places (length g) found (led_to g place) → walked (length g - turn) g turn found ≡ whole
    → walked (length g - (turn + 1)) g (turn + 1) next ≡ whole
turn_taken turn place g found next whole h at e w =
    let k : length g - turn ≡ suc (length g - (turn + 1)) = omega (arith, h) in
    let n : suc turn ≡ turn + 1 = omega arith in
    let p = get_or_from_slice_get found turn place (length g) at in
    let taken' : walked (suc (length g - (turn + 1))) g turn found ≡ whole = rw k at w in
    let next_is : walked (length g - (turn + 1)) g (suc turn) (with_places (length g) found (led_to g (get_or found turn (length g)))) ≡ whole = taken' in
    rw e (rw (p, n) at next_is)

-- a walk whose last turn is over changes nothing
walk_over : (k : ℕ) (g : Graph) (next : ℕ) (found : List ℕ) → length found ≤ next → walked k g next found ≡ found
walk_over zero g next found h = refl
walk_over (suc k) g next found h =
    let past : get_or found next (length g) ≡ length g = get_or_past found next (length g) h in
    let none : led_to g (get_or found next (length g)) ≡ [] = rw past (nothing_past g (length g) (omega arith)) in
    rw none (walk_over k g (suc next) found (omega (arith, h)))

pub walk_ends : (k turn : ℕ) (g : Graph) (found whole : List ℕ) → slice_get found turn ≡ None → walked k g turn found ≡ whole → found ≡ whole
walk_ends k turn g found whole none w = ⊎_elim
    (λ less. (let some = slice_get-get_or found turn 0 less in cc))
    (λ ge. sym (walk_over k g turn found ge) ∙ w)
    (cases_lt turn (length found))

pub walk_begins : (g : Graph) (from : ℕ) (found : List ℕ) → found ≡ from ∷ [] → walked (length g - 0) g 0 found ≡ reached_from g from
unfolding reached_from
walk_begins g from found e = let n : length g - 0 ≡ length g = omega arith in rw (e, n) refl

pub walk_done : (turn : ℕ) (g : Graph) (found whole : List ℕ) → length g ≤ turn → walked (length g - turn) g turn found ≡ whole → found ≡ whole
walk_done turn g found whole h w = let n : length g - turn ≡ 0 = omega (arith, h) in rw n at w

-- what stands past the places leads to nothing
pub adds_nothing : (g : Graph) (found : List ℕ) (i : ℕ) → length g ≤ i → found ≡ with_places (length g) found (led_to g i)
adds_nothing g found i h = rw (nothing_past g i h) refl
