-- Where a text occurs in another, by bytes and by characters.
use Rattle.std.proofs.Common.{◌≡◌, ℕ, ◌+◌, ◌-◌, ◌<◌, ◌≤◌, length, take, drop, List, [], ◌∷◌, ◌++◌, Bool, true, false, Option, Some, None, MatchOption, option_map, nat_eq, inl, inr, Bor, refl, sym, ap, subst, ◌∙◌, arith, length-append}
use Rattle.std.proofs.lemmas.Bool.{cases_Bool}
use Rattle.std.proofs.lemmas.Bool.Decides.{Decides-eqb}
use Rattle.std.proofs.lemmas.List.{take-append-drop}
use Rattle.std.proofs.Math.Seq.{drop-append_seam, take-append_seam, drop-append-add}
use Rattle.std.proofs.lemmas.Slice.Eq.{starts_is, ends_is}
use Rattle.std.proofs.lemmas.Str.{chars-append, encodes-append, encodes-chars, IsUtf8-append, IsUtf8-take, IsUtf8-drop, IsCharBoundary-at_seam, length-le-encodes}
use Rattle.std.specs.List.{starts_with, ends_with}
use Rattle.std.specs.Str.{chars, encode_utf8_all, IsUtf8}
use Rattle.std.specs.Str.Pattern.{FindsText, HasTextAt}
use Rattle.text_operations.specs.Searches.{text_before, text_after}

-- two truth values are the same where each follows from the other
both : (r s : Bool) → (r ≡ true → s ≡ true) → (s ≡ true → r ≡ true) → r ≡ s
both true s f g = sym (f refl)
both false true f g = g refl
both false false f g = refl

-- a text begins with a part just where the part stands in front of something
begins : (s p : List ℕ) → starts_with nat_eq s p ≡ true → s ≡ p ++ drop (length p) s
begins s p h = (starts_is Decides-eqb s p (starts_with nat_eq s p) refl).0 h

begins_back : (s p rest : List ℕ) → s ≡ p ++ rest → starts_with nat_eq s p ≡ true
begins_back s p rest e = (starts_is Decides-eqb s p (starts_with nat_eq s p) refl).1 rest e

ends : (s p : List ℕ) → ends_with nat_eq s p ≡ true → s ≡ take (length s - length p) s ++ p
ends s p h = (ends_is Decides-eqb s p (ends_with nat_eq s p) refl).0 h

ends_back : (s p front : List ℕ) → s ≡ front ++ p → ends_with nat_eq s p ≡ true
ends_back s p front e = (ends_is Decides-eqb s p (ends_with nat_eq s p) refl).1 front e

-- characters of bytes that are put together
chars_of_parts : (bs p rest : List ℕ) → IsUtf8 p → bs ≡ p ++ rest → chars bs ≡ chars p ++ chars rest
chars_of_parts bs p rest u e = ap chars e ∙ chars-append p rest u

-- bytes of characters that are put together
bytes_of_parts : (bs p u v : List ℕ) → IsUtf8 bs → IsUtf8 p → chars bs ≡ u ++ (chars p ++ v) → bs ≡ encode_utf8_all u ++ (p ++ encode_utf8_all v)
bytes_of_parts bs p u v w h e =
    sym (encodes-chars bs w) ∙ ap encode_utf8_all e ∙ encodes-append u (chars p ++ v)
    ∙ ap (λ (l : List ℕ). encode_utf8_all u ++ l) (encodes-append (chars p) v ∙ ap (λ (l : List ℕ). l ++ encode_utf8_all v) (encodes-chars p h))

bytes_of_two : (bs p v : List ℕ) → IsUtf8 bs → IsUtf8 p → chars bs ≡ chars p ++ v → bs ≡ p ++ encode_utf8_all v
bytes_of_two bs p v w h e =
    sym (encodes-chars bs w) ∙ ap encode_utf8_all e ∙ encodes-append (chars p) v ∙ ap (λ (l : List ℕ). l ++ encode_utf8_all v) (encodes-chars p h)

bytes_of_end : (bs p v : List ℕ) → IsUtf8 bs → IsUtf8 p → chars bs ≡ v ++ chars p → bs ≡ encode_utf8_all v ++ p
bytes_of_end bs p v w h e =
    sym (encodes-chars bs w) ∙ ap encode_utf8_all e ∙ encodes-append v (chars p) ∙ ap (λ (l : List ℕ). encode_utf8_all v ++ l) (encodes-chars p h)

-- the front of a text whose end is a text
pub front_utf8 : (bs front p : List ℕ) → IsUtf8 bs → IsUtf8 p → bs ≡ front ++ p → IsUtf8 front
front_utf8 bs front p u h e =
    let cut : IsUtf8 (take (length front) bs) = IsUtf8-take bs (length front) u (IsCharBoundary-at_seam bs front p e h) in
    subst IsUtf8 (ap (take (length front)) e ∙ take-append_seam front p) cut

pub starts_same : (bs p : List ℕ) (r : Bool) → IsUtf8 bs → IsUtf8 p → r ≡ starts_with nat_eq bs p → r ≡ starts_with nat_eq (chars bs) (chars p)
starts_same bs p r u h e =
    e ∙ both (starts_with nat_eq bs p) (starts_with nat_eq (chars bs) (chars p))
    (λ t. begins_back (chars bs) (chars p) (chars (drop (length p) bs)) (chars_of_parts bs p (drop (length p) bs) h (begins bs p t)))
    (λ t. begins_back bs p (encode_utf8_all (drop (length (chars p)) (chars bs))) (bytes_of_two bs p (drop (length (chars p)) (chars bs)) u h (begins (chars bs) (chars p) t)))

pub ends_same : (bs p : List ℕ) (r : Bool) → IsUtf8 bs → IsUtf8 p → r ≡ ends_with nat_eq bs p → r ≡ ends_with nat_eq (chars bs) (chars p)
ends_same bs p r u h e =
    e ∙ both (ends_with nat_eq bs p) (ends_with nat_eq (chars bs) (chars p))
    (λ t.
    let front : List ℕ = take (length bs - length p) bs in
    let parts : bs ≡ front ++ p = ends bs p t in
    ends_back (chars bs) (chars p) (chars front) (chars_of_parts bs front p (front_utf8 bs front p u h parts) parts))
    (λ t. let front : List ℕ = take (length (chars bs) - length (chars p)) (chars bs) in ends_back bs p (encode_utf8_all front) (bytes_of_end bs p front u h (ends (chars bs) (chars p) t)))

-- the first occurrence, by characters
here : (p s : List ℕ) → starts_with nat_eq s p ≡ true → text_before p s ≡ Some []
unfolding text_before
here p [] h = rw h refl
here p (c ∷ cs) h = rw h refl

later : (p : List ℕ) (c : ℕ) (cs : List ℕ) → starts_with nat_eq (c ∷ cs) p ≡ false → text_before p (c ∷ cs) ≡ option_map (λ front. c ∷ front) (text_before p cs)
unfolding text_before
later p c cs h = rw h refl

nowhere : (p : List ℕ) → starts_with nat_eq [] p ≡ false → text_before p [] ≡ None
unfolding text_before
nowhere p h = rw h refl

-- no occurrence begins before the end of the front
abbrev IsFirstAt : List ℕ → List ℕ → List ℕ → Type 0
IsFirstAt p front s = (u v : List ℕ) → s ≡ u ++ (p ++ v) → length u < length front → ⊥

first_some : (p front back s : List ℕ) → s ≡ front ++ (p ++ back) → IsFirstAt p front s → text_before p s ≡ Some front
first_some p [] back s e h = here p s (begins_back s p back e)
first_some p (c ∷ front) back [] e h = cc
first_some p (c ∷ front) back (d ∷ ds) e h =
    let same : d ≡ c = cc in
    let rest : ds ≡ front ++ (p ++ back) = cc in
    elim (cases_Bool (starts_with nat_eq (d ∷ ds) p)) [
      | inl stands ↦ absurd (h [] (drop (length p) (d ∷ ds)) (begins (d ∷ ds) p stands) (omega arith))
      | inr lacks ↦
          let inner : IsFirstAt p front ds = λ u v g l. h (d ∷ u) v (ap (λ (l : List ℕ). d ∷ l) g) (omega arith) in
          later p d ds lacks ∙ ap (option_map (λ (l : List ℕ). d ∷ l)) (first_some p front back ds rest inner) ∙ ap (λ (x : ℕ). Some (x ∷ front)) same
    ]

first_none : (p s : List ℕ) → ((u v : List ℕ) → s ≡ u ++ (p ++ v) → ⊥) → text_before p s ≡ None
first_none p [] h =
    elim (cases_Bool (starts_with nat_eq [] p)) [
      | inl stands ↦ absurd (h [] (drop (length p) []) (begins [] p stands))
      | inr lacks ↦ nowhere p lacks
    ]
first_none p (d ∷ ds) h =
    elim (cases_Bool (starts_with nat_eq (d ∷ ds) p)) [
      | inl stands ↦ absurd (h [] (drop (length p) (d ∷ ds)) (begins (d ∷ ds) p stands))
      | inr lacks ↦ later p d ds lacks ∙ ap (option_map (λ (l : List ℕ). d ∷ l)) (first_none p ds (λ u v g. h (d ∷ u) v (ap (λ (l : List ℕ). d ∷ l) g)))
    ]

after_front : (p front back s : List ℕ) → s ≡ front ++ (p ++ back) → text_before p s ≡ Some front → text_after p s ≡ Some back
after_front p front back s e h =
    ap (option_map (λ (l : List ℕ). drop (length l + length p) s)) h
    ∙ ap Some (ap (drop (length front + length p)) e ∙ drop-append-add front (p ++ back) (length p) ∙ drop-append_seam p back)

-- where two texts begin alike, the shorter front is the front of the longer
longer_front : (u w xs ys : List ℕ) → u ++ xs ≡ w ++ ys → length u < length w → (d : List ℕ) × (w ≡ u ++ d) × (0 < length d)
longer_front [] w xs ys e h = (w, refl, h)
longer_front (a ∷ u) [] xs ys e h = absurd (omega arith)
longer_front (a ∷ u) (b ∷ w) xs ys e h =
    let same : b ≡ a = cc in
    let rest : u ++ xs ≡ w ++ ys = cc in
    let r = longer_front u w xs ys rest (omega arith) in
    let joined : w ≡ u ++ r.0 = r.1 in
    (r.0, cc, r.2)

shorter_bytes : (u w xs ys : List ℕ) → u ++ xs ≡ w ++ ys → length u < length w → length (encode_utf8_all u) < length (encode_utf8_all w)
shorter_bytes u w xs ys e h =
    let r = longer_front u w xs ys e h in
    let sum : length (encode_utf8_all w) ≡ length (encode_utf8_all u) + length (encode_utf8_all r.0) =
    ap (λ (l : List ℕ). length (encode_utf8_all l)) r.1 ∙ ap length (encodes-append u r.0) ∙ length-append (encode_utf8_all u) (encode_utf8_all r.0) in
    let some = length-le-encodes r.0 in
    let more = r.2 in
    omega arith

-- the parts that a search by bytes gives
abbrev pub Splits : List ℕ → List ℕ → List ℕ → List ℕ → Type 0
Splits p s front back = (text_before p s ≡ Some front) × (text_after p s ≡ Some back)

pub found : (bs p front back : List ℕ) (i j : ℕ) → IsUtf8 bs → IsUtf8 p → FindsText p bs (Some (i, j)) → front ≡ take i bs → back ≡ drop j bs → length front ≡ i
    → Splits (chars p) (chars bs) (chars front) (chars back)
found bs p front back i j u h f ef eb ei =
    let stands : HasTextAt p bs i j = f.1 in
    let parts : bs ≡ front ++ (p ++ back) =
    sym (take-append-drop i bs) ∙ ap (λ (l : List ℕ). take i bs ++ l) (stands.split ∙ ap (λ (l : List ℕ). p ++ l) (sym eb)) ∙ ap (λ (l : List ℕ). l ++ (p ++ back)) (sym ef) in
    let back_utf8 : IsUtf8 back = subst IsUtf8 (sym (eb ∙ ap (λ (k : ℕ). drop k bs) stands.ends)) (IsUtf8-drop bs (i + length p) u stands.after) in
    let own : IsUtf8 front = front_utf8 bs front (p ++ back) u (IsUtf8-append p back h back_utf8) parts in
    let by_chars : chars bs ≡ chars front ++ (chars p ++ chars back) =
    chars_of_parts bs front (p ++ back) own parts ∙ ap (λ (l : List ℕ). chars front ++ l) (chars-append p back h) in
    let first : IsFirstAt (chars p) (chars front) (chars bs) = λ v w e l.
    (let at : bs ≡ encode_utf8_all v ++ (p ++ encode_utf8_all w) = bytes_of_parts bs p v w u h e in
    let less = shorter_bytes v (chars front) (chars p ++ w) (chars p ++ chars back) (sym e ∙ by_chars) l in
    let front_length : length (encode_utf8_all (chars front)) ≡ length front = ap length (encodes-chars front own) in
    let before : length (encode_utf8_all v) < i = omega arith in
    f.0 (length (encode_utf8_all v)) before (encode_utf8_all w) (ap (drop (length (encode_utf8_all v))) at ∙ drop-append_seam (encode_utf8_all v) (p ++ encode_utf8_all w))) in
    let before = first_some (chars p) (chars front) (chars back) (chars bs) by_chars first in
    (before, after_front (chars p) (chars front) (chars back) (chars bs) by_chars before)

pub not_found : (bs p : List ℕ) → IsUtf8 bs → IsUtf8 p → FindsText p bs None → text_before (chars p) (chars bs) ≡ None
not_found bs p u h f = first_none (chars p) (chars bs) (λ v w e.
    (let at : bs ≡ encode_utf8_all v ++ (p ++ encode_utf8_all w) = bytes_of_parts bs p v w u h e in
    let sum = ap length at ∙ length-append (encode_utf8_all v) (p ++ encode_utf8_all w) in
    f (length (encode_utf8_all v)) (omega arith) (encode_utf8_all w) (ap (drop (length (encode_utf8_all v))) at ∙ drop-append_seam (encode_utf8_all v) (p ++ encode_utf8_all w))))

-- the clause of `split_once` by characters
pub split_parts_found : (bs p : List ℕ) (r : Option (Bor (List ℕ) × Bor (List ℕ))) → IsUtf8 bs → IsUtf8 p
    → MatchOption r (FindsText p bs None) (λ x. (i : ℕ) × (j : ℕ) × FindsText p bs (Some (i, j)) × (x.0.now ≡ take i bs) × (x.1.now ≡ drop j bs) × (i ≤ j) × (length x.0.now ≡ i) × (length x.1.now + j ≡ length bs))
    → MatchOption r (text_before (chars p) (chars bs) ≡ None) (λ x. Splits (chars p) (chars bs) (chars x.0.now) (chars x.1.now))
split_parts_found bs p None u h e = not_found bs p u h e
split_parts_found bs p (Some x) u h e = found bs p x.0.now x.1.now e.0 e.1 u h e.2 e.3 e.4 e.6
