-- The order of texts by their bytes is that by their code points.
use Rattle.std.proofs.Common.{◌≡◌, ℕ, ◌<◌, ◌≤◌, ◌+◌, ◌/◌, List, [], ◌∷◌, ◌++◌, refl, sym, ap, subst, ◌∙◌, arith, ◌⊎◌, inl, inr}
use Rattle.std.proofs.lemmas.Bool.{lt-ltb, le-ltb, eq-eqb, ne_eqb, cases_order, cases_lt}
use Rattle.std.specs.Cmp.Lexicographic.{slice_cmp, nat_list_cmp_total}
use Rattle.std.specs.Ordering.{nat_cmp, ordering_then, ordering_reverse}
use Rattle.std.specs.declared.cmp.Ordering.{Ordering}
use Rattle.std.specs.declared.cmp.Ordering.TheVariants.{Less, Equal, Greater}
use Rattle.std.specs.Str.{chars, encode_utf8_all, IsUtf8}
use lib.Utf8.{next, encode}
use Rattle.std.proofs.lemmas.Str.{encodes-chars}
use Rattle.xt_atoms.specs.Comparisons.{text_order}

abbrev order : List ℕ → List ℕ → Ordering
order xs ys = slice_cmp nat_cmp xs ys

cmp_less : (x y : ℕ) → x < y → nat_cmp x y ≡ Less
cmp_less x y h = rw (lt-ltb x y h) refl

cmp_same : (x : ℕ) → nat_cmp x x ≡ Equal
cmp_same x = rw (le-ltb x x (omega arith), eq-eqb x x refl) refl

cmp_greater : (x y : ℕ) → y < x → nat_cmp x y ≡ Greater
cmp_greater x y h = rw (le-ltb x y (omega arith), ne_eqb x y (λ e. omega (arith, e))) refl

head_less : (x y : ℕ) (xs ys : List ℕ) → x < y → order (x ∷ xs) (y ∷ ys) ≡ Less
head_less x y xs ys h = ap (λ o. ordering_then o (order xs ys)) (cmp_less x y h)

head_greater : (x y : ℕ) (xs ys : List ℕ) → y < x → order (x ∷ xs) (y ∷ ys) ≡ Greater
head_greater x y xs ys h = ap (λ o. ordering_then o (order xs ys)) (cmp_greater x y h)

head_same : (x : ℕ) (xs ys : List ℕ) → order (x ∷ xs) (x ∷ ys) ≡ order xs ys
head_same x xs ys = ap (λ o. ordering_then o (order xs ys)) (cmp_same x)

prefix_same : (zs xs ys : List ℕ) → order (zs ++ xs) (zs ++ ys) ≡ order xs ys
prefix_same [] xs ys = refl
prefix_same (z ∷ zs) xs ys = head_same z (zs ++ xs) (zs ++ ys) ∙ prefix_same zs xs ys

-- the last six bits decide where the others are the same
quotients : (q p : ℕ) → q < p → (q / 64 < p / 64) ⊎ ((q / 64 ≡ p / 64) × (next q < next p))
quotients q p h = elim (cases_order (q / 64) (p / 64)) [
  | inl e ↦ inr (e, omega (arith, e))
  | inr o ↦ elim o [ inl l ↦ inl l | inr g ↦ absurd (omega (arith, g)) ]
]

level2 : (base q p : ℕ) (xs ys : List ℕ) → q < p → order ((base + q / 64) ∷ next q ∷ xs) ((base + p / 64) ∷ next p ∷ ys) ≡ Less
level2 base q p xs ys h = elim (quotients q p h) [
  | inl l ↦ head_less (base + q / 64) (base + p / 64) (next q ∷ xs) (next p ∷ ys) (omega arith)
  | inr e ↦ ap (λ z. order ((base + z) ∷ next q ∷ xs) ((base + p / 64) ∷ next p ∷ ys)) e.0
      ∙ head_same (base + p / 64) (next q ∷ xs) (next p ∷ ys) ∙ head_less (next q) (next p) xs ys e.1
]

level3 : (base q p : ℕ) (xs ys : List ℕ) → q < p
    → order ((base + q / 64 / 64) ∷ next (q / 64) ∷ next q ∷ xs) ((base + p / 64 / 64) ∷ next (p / 64) ∷ next p ∷ ys) ≡ Less
level3 base q p xs ys h = elim (quotients q p h) [
  | inl l ↦ level2 base (q / 64) (p / 64) (next q ∷ xs) (next p ∷ ys) l
  | inr e ↦ ap (λ z. order ((base + z / 64) ∷ next z ∷ next q ∷ xs) ((base + p / 64 / 64) ∷ next (p / 64) ∷ next p ∷ ys)) e.0
      ∙ prefix_same ((base + p / 64 / 64) ∷ next (p / 64) ∷ []) (next q ∷ xs) (next p ∷ ys) ∙ head_less (next q) (next p) xs ys e.1
]

level4 : (base q p : ℕ) (xs ys : List ℕ) → q < p
    → order ((base + q / 64 / 64 / 64) ∷ next (q / 64 / 64) ∷ next (q / 64) ∷ next q ∷ xs) ((base + p / 64 / 64 / 64) ∷ next (p / 64 / 64) ∷ next (p / 64) ∷ next p ∷ ys) ≡ Less
level4 base q p xs ys h = elim (quotients q p h) [
  | inl l ↦ level3 base (q / 64) (p / 64) (next q ∷ xs) (next p ∷ ys) l
  | inr e ↦ ap (λ z. order ((base + z / 64 / 64) ∷ next (z / 64) ∷ next z ∷ next q ∷ xs) ((base + p / 64 / 64 / 64) ∷ next (p / 64 / 64) ∷ next (p / 64) ∷ next p ∷ ys)) e.0
      ∙ prefix_same ((base + p / 64 / 64 / 64) ∷ next (p / 64 / 64) ∷ next (p / 64) ∷ []) (next q ∷ xs) (next p ∷ ys) ∙ head_less (next q) (next p) xs ys e.1
]

-- how many bytes a character has, with these bytes
data Spelled (c : ℕ) : List ℕ → Type 0 where
  one : c < 128 → Spelled c (c ∷ [])
  two : 128 ≤ c → c < 2048 → Spelled c ((192 + c / 64) ∷ next c ∷ [])
  three : 2048 ≤ c → c < 65536 → Spelled c ((224 + c / 64 / 64) ∷ next (c / 64) ∷ next c ∷ [])
  four : 65536 ≤ c → Spelled c ((240 + c / 64 / 64 / 64) ∷ next (c / 64 / 64) ∷ next (c / 64) ∷ next c ∷ [])

square : (c : ℕ) → c / 4096 ≡ c / 64 / 64
square c = omega arith

cube : (c : ℕ) → c / 262144 ≡ c / 64 / 64 / 64
cube c = omega arith

one_byte : (c : ℕ) → c < 128 → encode c ≡ c ∷ []
unfolding encode
one_byte c h = rw (lt-ltb c 128 h) refl

two_bytes : (c : ℕ) → 128 ≤ c → c < 2048 → encode c ≡ (192 + c / 64) ∷ next c ∷ []
unfolding encode
two_bytes c h k = rw (le-ltb c 128 h, lt-ltb c 2048 k) refl

three_bytes : (c : ℕ) → 2048 ≤ c → c < 65536 → encode c ≡ (224 + c / 64 / 64) ∷ next (c / 64) ∷ next c ∷ []
unfolding encode
three_bytes c h k =
    let big : 128 ≤ c = omega arith in
    rw (le-ltb c 128 big, le-ltb c 2048 h, lt-ltb c 65536 k) (ap (λ z. (224 + z) ∷ next (c / 64) ∷ next c ∷ []) (square c))

four_bytes : (c : ℕ) → 65536 ≤ c → encode c ≡ (240 + c / 64 / 64 / 64) ∷ next (c / 64 / 64) ∷ next (c / 64) ∷ next c ∷ []
unfolding encode
four_bytes c h =
    let big : 128 ≤ c = omega arith in
    let bigger : 2048 ≤ c = omega arith in
    rw (le-ltb c 128 big, le-ltb c 2048 bigger, le-ltb c 65536 h)
    (ap (λ z. (240 + z) ∷ next (c / 4096) ∷ next (c / 64) ∷ next c ∷ []) (cube c) ∙ ap (λ z. (240 + c / 64 / 64 / 64) ∷ next z ∷ next (c / 64) ∷ next c ∷ []) (square c))

along : {c : ℕ} {xs ys : List ℕ} → ys ≡ xs → Spelled c xs → Spelled c ys
along {c = c} e s = subst (Spelled c) (sym e) s

spelled : (c : ℕ) → Spelled c (encode c)
spelled c = elim (cases_lt c 128) [
  | inl a ↦ along (one_byte c a) (one a)
  | inr b ↦ elim (cases_lt c 2048) [
    | inl a ↦ along (two_bytes c b a) (two b a)
    | inr d ↦ elim (cases_lt c 65536) [
      | inl a ↦ along (three_bytes c d a) (three d a)
      | inr e ↦ along (four_bytes c e) (four e)
    ]
  ]
]

spelled_less : (c d : ℕ) {xs ys : List ℕ} (r t : List ℕ) → c < d → Spelled c xs → Spelled d ys → order (xs ++ r) (ys ++ t) ≡ Less
spelled_less c d r t h (one a) (one b) = head_less c d r t h
spelled_less c d r t h (one a) (two b e) = head_less c (192 + d / 64) r (next d ∷ t) (omega arith)
spelled_less c d r t h (one a) (three b e) = head_less c (224 + d / 64 / 64) r (next (d / 64) ∷ next d ∷ t) (omega arith)
spelled_less c d r t h (one a) (four b) = head_less c (240 + d / 64 / 64 / 64) r (next (d / 64 / 64) ∷ next (d / 64) ∷ next d ∷ t) (omega arith)
spelled_less c d r t h (two a f) (one b) = absurd (omega arith)
spelled_less c d r t h (two a f) (two b e) = level2 192 c d r t h
spelled_less c d r t h (two a f) (three b e) = head_less (192 + c / 64) (224 + d / 64 / 64) (next c ∷ r) (next (d / 64) ∷ next d ∷ t) (omega arith)
spelled_less c d r t h (two a f) (four b) = head_less (192 + c / 64) (240 + d / 64 / 64 / 64) (next c ∷ r) (next (d / 64 / 64) ∷ next (d / 64) ∷ next d ∷ t) (omega arith)
spelled_less c d r t h (three a f) (one b) = absurd (omega arith)
spelled_less c d r t h (three a f) (two b e) = absurd (omega arith)
spelled_less c d r t h (three a f) (three b e) = level3 224 c d r t h
spelled_less c d r t h (three a f) (four b) =
    head_less (224 + c / 64 / 64) (240 + d / 64 / 64 / 64) (next (c / 64) ∷ next c ∷ r) (next (d / 64 / 64) ∷ next (d / 64) ∷ next d ∷ t) (omega arith)
spelled_less c d r t h (four a) (one b) = absurd (omega arith)
spelled_less c d r t h (four a) (two b e) = absurd (omega arith)
spelled_less c d r t h (four a) (three b e) = absurd (omega arith)
spelled_less c d r t h (four a) (four b) = level4 240 c d r t h

encode_less : (c d : ℕ) (r t : List ℕ) → c < d → order (encode c ++ r) (encode d ++ t) ≡ Less
encode_less c d r t h = spelled_less c d r t h (spelled c) (spelled d)

behind_nothing : {d : ℕ} {ys : List ℕ} (t : List ℕ) → Spelled d ys → (order [] (ys ++ t) ≡ Less) × (order (ys ++ t) [] ≡ Greater)
behind_nothing t (one b) = (refl, refl)
behind_nothing t (two b e) = (refl, refl)
behind_nothing t (three b e) = (refl, refl)
behind_nothing t (four b) = (refl, refl)

characters_order : (cs ds : List ℕ) → order (encode_utf8_all cs) (encode_utf8_all ds) ≡ order cs ds
characters_order [] [] = refl
characters_order [] (d ∷ ds) = (behind_nothing (encode_utf8_all ds) (spelled d)).0
characters_order (c ∷ cs) [] = (behind_nothing (encode_utf8_all cs) (spelled c)).1
characters_order (c ∷ cs) (d ∷ ds) = elim (cases_order c d) [
  | inl e ↦ ap (λ z. order (encode z ++ encode_utf8_all cs) (encode d ++ encode_utf8_all ds)) e
      ∙ prefix_same (encode d) (encode_utf8_all cs) (encode_utf8_all ds) ∙ characters_order cs ds
      ∙ sym (ap (λ z. order (z ∷ cs) (d ∷ ds)) e ∙ head_same d cs ds)
  | inr o ↦ elim o [
    | inl l ↦ encode_less c d (encode_utf8_all cs) (encode_utf8_all ds) l ∙ sym (head_less c d cs ds l)
    | inr g ↦ nat_list_cmp_total.antisymm (encode c ++ encode_utf8_all cs) (encode d ++ encode_utf8_all ds)
        ∙ ap ordering_reverse (encode_less d c (encode_utf8_all ds) (encode_utf8_all cs) g) ∙ sym (head_greater c d cs ds g)
  ]
]

pub bytes_order : (bs ds : List ℕ) → IsUtf8 bs → IsUtf8 ds → order bs ds ≡ text_order (chars bs) (chars ds)
unfolding text_order
bytes_order bs ds u v =
    ap (λ z. order z ds) (sym (encodes-chars bs u)) ∙ ap (λ z. order (encode_utf8_all (chars bs)) z) (sym (encodes-chars ds v))
    ∙ characters_order (chars bs) (chars ds)
