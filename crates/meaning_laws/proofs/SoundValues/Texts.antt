-- Texts of XML: what is made of them is one.
use Rattle.std.proofs.Common.{◌≡◌, ℕ, zero, suc, ◌≤◌, nat_le, List, [], ◌∷◌, ◌++◌, Bool, true}
use Rattle.std.proofs.Common.{false}
use Rattle.std.proofs.Common.{◌&&◌, refl, arith, ℤ, pos, negsuc, take, drop}
use Rattle.std.proofs.Common.{codes, inl, inr, ◌/◌, ◌%◌, ◌+◌, nat_lt, ◌==◌, length}
use Rattle.std.proofs.lemmas.Bool.{and_parts, and_from, or_cases, or_left, or_right, leb-true}
use Rattle.std.proofs.lemmas.Bool.{le-leb}
use Rattle.std.specs.Prelude.{Option, Some, None, option_map, unwrap_or, if◌then◌else◌}
use Rattle.std.specs.List.{list_all, list_any, starts_with}
use Rattle.std.specs.Prelude.{nat_eq}
use Rattle.std.specs.Fmt.{signed_decimal, decimal, digits, digits_onto, digit_glyph}
use Rattle.xt_names.specs.Classes.{is_in_ranges, xml_char_ranges, ncname_char_ranges, is_xml_text}
use Rattle.xt_names.specs.Classes.{is_ncname_text, begins_name}
use Rattle.xt_names.specs.Marks.{is_white}
use Rattle.xt_atoms.specs.Lexical.{without_leading_white, with_front, without_trailing_white}
use Rattle.xt_atoms.specs.Lexical.{trimmed}
use Rattle.text_operations.specs.Searches.{text_before, text_after}
use Rattle.text_operations.specs.Spaces.{spaced, collapsed, normalized}
use Rattle.text_operations.specs.Translations.{first_of, others_of, partner, replaced, translated}
use Rattle.expr_meaning.specs.Outcomes.Outcome.{Every}
use Rattle.expr_meaning.proofs.OutcomesLemmas.Relations.{every_append}
use Rattle.meaning_laws.proofs.SoundValues.Lists.{OnSome, every_take, every_drop}

abbrev pub IsXml : List ℕ → Type 0
IsXml t = is_xml_text t ≡ true

abbrev pub IsChar : ℕ → Type 0
IsChar c = is_in_ranges xml_char_ranges c ≡ true

pub chars_of : (t : List ℕ) → IsXml t → Every IsChar t
unfolding is_xml_text
chars_of [] h = tt
chars_of (c ∷ cs) h =
    let p = and_parts (is_in_ranges xml_char_ranges c) (is_xml_text cs) h in
    (p.0, chars_of cs p.1)

pub text_of_chars : (t : List ℕ) → Every IsChar t → IsXml t
unfolding is_xml_text
text_of_chars [] h = refl
text_of_chars (c ∷ cs) h =
    and_from (is_in_ranges xml_char_ranges c) (is_xml_text cs) h.0 (text_of_chars cs h.1)

pub no_text : IsXml []
unfolding is_xml_text
no_text = refl

pub xml_append : (t u : List ℕ) → IsXml t → IsXml u → IsXml (t ++ u)
xml_append t u h g = text_of_chars (t ++ u) (every_append IsChar t u (chars_of t h) (chars_of u g))

pub xml_take : (n : ℕ) (t : List ℕ) → IsXml t → IsXml (take n t)
xml_take n t h = text_of_chars (take n t) (every_take IsChar n t (chars_of t h))

pub xml_drop : (n : ℕ) (t : List ℕ) → IsXml t → IsXml (drop n t)
xml_drop n t h = text_of_chars (drop n t) (every_drop IsChar n t (chars_of t h))

-- ranges of characters within others
abbrev is_within : List (ℕ × ℕ) → ℕ × ℕ → Bool
is_within qs r = list_any (λ q. nat_le q.0 r.0 && nat_le r.1 q.1) qs

range_in : (r q : ℕ × ℕ) (c : ℕ) → (nat_le q.0 r.0 && nat_le r.1 q.1) ≡ true →
    (nat_le r.0 c && nat_le c r.1) ≡ true → (nat_le q.0 c && nat_le c q.1) ≡ true
range_in r q c w h =
    let a = and_parts (nat_le q.0 r.0) (nat_le r.1 q.1) w in
    let b = and_parts (nat_le r.0 c) (nat_le c r.1) h in
    let a0 = leb-true _ _ a.0 in
    let a1 = leb-true _ _ a.1 in
    let b0 = leb-true _ _ b.0 in
    let b1 = leb-true _ _ b.1 in
    and_from _ _ (le-leb q.0 c (omega arith)) (le-leb c q.1 (omega arith))

range_inside : (qs : List (ℕ × ℕ)) (r : ℕ × ℕ) (c : ℕ) → is_within qs r ≡ true →
    (nat_le r.0 c && nat_le c r.1) ≡ true → is_in_ranges qs c ≡ true
unfolding is_in_ranges
range_inside [] r c w h = absurd cc
range_inside (q ∷ qs) r c w h =
    elim (or_cases (nat_le q.0 r.0 && nat_le r.1 q.1) (is_within qs r) w) [
      | inl a ↦ or_left _ _ (range_in r q c a h)
      | inr b ↦ or_right _ _ (range_inside qs r c b h)
    ]

ranges_inside : (rs qs : List (ℕ × ℕ)) (c : ℕ) → list_all (is_within qs) rs ≡ true →
    is_in_ranges rs c ≡ true → is_in_ranges qs c ≡ true
unfolding is_in_ranges
ranges_inside [] qs c w h = absurd cc
ranges_inside (r ∷ rs) qs c w h =
    let a = and_parts (is_within qs r) (list_all (is_within qs) rs) w in
    elim (or_cases (nat_le r.0 c && nat_le c r.1) (is_in_ranges rs c) h) [
      | inl x ↦ range_inside qs r c a.0 x
      | inr y ↦ ranges_inside rs qs c a.1 y
    ]

-- single characters
char_fits : (c : ℕ) → 32 ≤ c → c ≤ 0xD7FF → IsChar c
char_fits c low high =
    range_inside xml_char_ranges (32, 0xD7FF) c refl
    (and_from (nat_le 32 c) (nat_le c 0xD7FF) (le-leb 32 c low) (le-leb c 0xD7FF high))

pub xml_space : IsXml (32 ∷ [])
xml_space = text_of_chars (32 ∷ []) (char_fits 32 (omega arith) (omega arith), tt)

pub colon_text : IsXml (codes ":")
unfolding is_xml_text is_in_ranges
colon_text = refl

-- the text of a number
glyph_fits : (d : ℕ) → d ≤ 9 → IsChar (digit_glyph false d)
glyph_fits d h = by (nat_lt d 10)
  where
    by : (b : Bool) → IsChar (if b then 48 + d else (if false then 55 + d else 87 + d))
    by true = char_fits (48 + d) (omega arith) (omega (arith, h))
    by false = char_fits (87 + d) (omega arith) (omega (arith, h))

digits_fit : (k n : ℕ) (more : List ℕ) → Every IsChar more →
    Every IsChar (digits_onto k 10 false n more)
digits_fit zero n more h = h
digits_fit (suc k) n more h =
    let g : IsChar (digit_glyph false (n % 10)) = glyph_fits (n % 10) (omega arith) in
    by (n / 10 == 0) g (digits_fit k (n / 10) (digit_glyph false (n % 10) ∷ more) (g, h))
  where
    by : (b : Bool) → IsChar (digit_glyph false (n % 10)) →
        Every IsChar (digits_onto k 10 false (n / 10) (digit_glyph false (n % 10) ∷ more)) →
        Every IsChar (if b then digit_glyph false (n % 10) ∷ more
        else digits_onto k 10 false (n / 10) (digit_glyph false (n % 10) ∷ more))
    by true g r = (g, h)
    by false g r = r

decimal_fits : (n : ℕ) → Every IsChar (decimal n)
unfolding digits
decimal_fits n = digits_fit 64 n [] tt

pub number_text : (z : ℤ) → IsXml (signed_decimal z)
number_text (pos n) = text_of_chars (decimal n) (decimal_fits n)
number_text (negsuc n) =
    text_of_chars (45 ∷ decimal (suc n))
    (char_fits 45 (omega arith) (omega arith), decimal_fits (suc n))

-- the characters of names are characters of XML
all_inside : (cs : List ℕ) → list_all (is_in_ranges ncname_char_ranges) cs ≡ true →
    Every IsChar cs
all_inside [] h = tt
all_inside (c ∷ cs) h =
    let a = and_parts (is_in_ranges ncname_char_ranges c)
    (list_all (is_in_ranges ncname_char_ranges) cs) h in
    (ranges_inside ncname_char_ranges xml_char_ranges c refl a.0, all_inside cs a.1)

pub name_is_text : (n : List ℕ) → is_ncname_text n ≡ true → IsXml n
unfolding is_ncname_text
name_is_text n h =
    text_of_chars n
    (all_inside n (and_parts (begins_name n) (list_all (is_in_ranges ncname_char_ranges) n) h).1)

-- white space normalized
leading_fits : (t : List ℕ) → Every IsChar t → Every IsChar (without_leading_white t)
unfolding without_leading_white
leading_fits [] h = tt
leading_fits (c ∷ cs) h = by (is_white c) (leading_fits cs h.1)
  where
    by : (b : Bool) → Every IsChar (without_leading_white cs) →
        Every IsChar (if b then without_leading_white cs else c ∷ cs)
    by true more = more
    by false more = h

front_fits : (c : ℕ) (cs : List ℕ) → IsChar c → Every IsChar cs → Every IsChar (with_front c cs)
front_fits c [] p h = by (is_white c)
  where
    by : (b : Bool) → Every IsChar (if b then [] else c ∷ [])
    by true = tt
    by false = (p, tt)
front_fits c (d ∷ ds) p h = (p, h)

trailing_fits : (t : List ℕ) → Every IsChar t → Every IsChar (without_trailing_white t)
unfolding without_trailing_white
trailing_fits [] h = tt
trailing_fits (c ∷ cs) h = front_fits c (without_trailing_white cs) h.0 (trailing_fits cs h.1)

spaced_fits : (after : Bool) (c : ℕ) → IsChar c → Every IsChar (spaced after c)
spaced_fits after c p = by (is_white c) after
  where
    by : (b d : Bool) → Every IsChar (if b then (if d then [] else 32 ∷ []) else c ∷ [])
    by true true = tt
    by true false = (char_fits 32 (omega arith) (omega arith), tt)
    by false d = (p, tt)

collapsed_fits : (after : Bool) (t : List ℕ) → Every IsChar t → Every IsChar (collapsed after t)
unfolding collapsed
collapsed_fits after [] h = tt
collapsed_fits after (c ∷ cs) h =
    every_append IsChar (spaced after c) (collapsed (is_white c) cs) (spaced_fits after c h.0)
    (collapsed_fits (is_white c) cs h.1)

pub xml_normalized : (t : List ℕ) → IsXml t → IsXml (normalized t)
unfolding normalized trimmed
xml_normalized t h =
    text_of_chars (normalized t)
    (collapsed_fits false (trimmed t)
    (trailing_fits (without_leading_white t) (leading_fits t (chars_of t h))))

-- characters replaced
abbrev IsPartner : Option (Option ℕ) → Type 0
IsPartner o = OnSome (OnSome IsChar) o

first_fits : (t : List ℕ) → Every IsChar t → OnSome IsChar (first_of t)
first_fits [] h = tt
first_fits (c ∷ cs) h = h.0

others_fit : (t : List ℕ) → Every IsChar t → Every IsChar (others_of t)
others_fit [] h = tt
others_fit (c ∷ cs) h = h.1

partner_fits : (from to : List ℕ) (c : ℕ) → Every IsChar to → IsPartner (partner from to c)
unfolding partner
partner_fits [] to c h = tt
partner_fits (f ∷ from) to c h =
    by (c == f) (partner_fits from (others_of to) c (others_fit to h))
  where
    by : (b : Bool) → IsPartner (partner from (others_of to) c) →
        IsPartner (if b then Some (first_of to) else partner from (others_of to) c)
    by true more = first_fits to h
    by false more = more

replaced_fits : (o : Option (Option ℕ)) (c : ℕ) → IsChar c → IsPartner o →
    Every IsChar (replaced o c)
replaced_fits None c p h = (p, tt)
replaced_fits (Some None) c p h = tt
replaced_fits (Some (Some d)) c p h = (h, tt)

translated_fits : (from to t : List ℕ) → Every IsChar to → Every IsChar t →
    Every IsChar (translated from to t)
unfolding translated
translated_fits from to [] g h = tt
translated_fits from to (c ∷ cs) g h =
    every_append IsChar (replaced (partner from to c) c) (translated from to cs)
    (replaced_fits (partner from to c) c h.0 (partner_fits from to c g))
    (translated_fits from to cs g h.1)

pub xml_translated : (from to t : List ℕ) → IsXml to → IsXml t → IsXml (translated from to t)
xml_translated from to t g h =
    text_of_chars (translated from to t) (translated_fits from to t (chars_of to g) (chars_of t h))

-- parts before and after an occurrence
put_fits : (c : ℕ) (o : Option (List ℕ)) → IsChar c → OnSome (Every IsChar) o →
    OnSome (Every IsChar) (option_map (λ front. c ∷ front) o)
put_fits c None p h = tt
put_fits c (Some front) p h = (p, h)

before_fits : (part t : List ℕ) → Every IsChar t → OnSome (Every IsChar) (text_before part t)
unfolding text_before
before_fits part [] h = by (starts_with nat_eq [] part)
  where
    by : (b : Bool) → OnSome (Every IsChar) (if b then Some [] else None)
    by true = tt
    by false = tt
before_fits part (c ∷ cs) h =
    by (starts_with nat_eq (c ∷ cs) part)
    (put_fits c (text_before part cs) h.0 (before_fits part cs h.1))
  where
    by : (b : Bool) →
        OnSome (Every IsChar) (option_map (λ front. c ∷ front) (text_before part cs)) →
        OnSome (Every IsChar)
        (if b then Some [] else option_map (λ front. c ∷ front) (text_before part cs))
    by true more = tt
    by false more = more

or_nothing : (o : Option (List ℕ)) → OnSome (Every IsChar) o → IsXml (unwrap_or o [])
or_nothing None h = no_text
or_nothing (Some t) h = text_of_chars t h

pub xml_before : (part t : List ℕ) → IsXml t → IsXml (unwrap_or (text_before part t) [])
xml_before part t h = or_nothing (text_before part t) (before_fits part t (chars_of t h))

pub xml_after : (part t : List ℕ) → IsXml t → IsXml (unwrap_or (text_after part t) [])
xml_after part t h = by (text_before part t)
  where
    by : (o : Option (List ℕ)) →
        IsXml (unwrap_or (option_map (λ front. drop (length front + length part) t) o) [])
    by None = no_text
    by (Some front) = xml_drop (length front + length part) t h
