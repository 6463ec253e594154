-- Readings of forms, piece by piece.
use Rattle.std.proofs.Common.{◌≡◌, ℕ, List, [], ◌∷◌, ◌++◌, length, Bool, true, false, ◌||◌, ◌==◌, nat_lt, MatchBool, Option, Some, None, MatchOption, slice_get, ◌-◌, ◌⊎◌, inl, inr, refl, sym, ap, ◌∙◌, eq-eqb, arith}
use Rattle.std.proofs.lemmas.Bool.{ne_eqb, eqb-true, and_parts}
use Rattle.std.proofs.lemmas.Str.{chars-IsAscii, chars-nil, encodes-chars}
use Rattle.std.specs.List.{list_all}
use Rattle.std.specs.Str.{chars, IsUtf8, encode_utf8_all}
use Rattle.xt_names.proofs.TextLemmas.{ascii_list}
use Rattle.doc_grammar.specs.Lexemes.{Spaces}
use Rattle.doc_grammar.specs.Lexemes as lexemes
use Rattle.doc_grammar.specs.Forms.{Form, Part, elsewhere, encoding, doctype_end, last, one, many, choice, some_of}
use Rattle.doc_grammar.specs.Prolog.{is_one, is_letter, space, equals, quoted, starts_colon_name, is_colon_name_char}
use Rattle.doc_grammar.specs.Machine.{other, subset}
use Rattle.doc_grammar.specs.Machine as machine
use Rattle.xml_source.specs.Sources.{NextIs, DiffersAt}
use Rattle.xml_source.specs.Spelling.{FormEnd, stops, stands, spells, stops_in, Takes}
use Rattle.xml_source.specs.PrologParts.{letter, colon_name}
use Rattle.xml_source.proofs.ScanLemmas.{begun}
use Rattle.std.proofs.Math.Bool.{or-true}
use Rattle.xt_names.specs.Characters.{is_space, is_quote, starts_name, is_name_char, Ends, NotNext}
use Rattle.xt_names.proofs.CharacterLemmas.{name_starts}

-- white space that was taken
abbrev pub Spaced : List ℕ → List ℕ → Type 0
Spaced old new = (c : ℕ) × (ts : List ℕ) × (old ≡ c ∷ ts) × (is_space c ≡ true) × Spaces ts new

-- one character

one_then : (p : Part) (class : ℕ → Bool) (e : ℕ) (f : Form) {old mid : List ℕ} {c : ℕ} {end : FormEnd} → old ≡ c ∷ mid → class c ≡ true → spells mid f ≡ end → spells old (one p class e f) ≡ end
one_then p class e f o h k = rw (o, h) k

none_in : (p : Part) (class : ℕ → Bool) (e : ℕ) (f : Form) (ts : List ℕ) → Ends class ts → spells ts (one p class e f) ≡ stops_in p ts
none_in elsewhere class e f [] n = refl
none_in elsewhere class e f (c ∷ cs) n = rw n refl
none_in encoding class e f [] n = refl
none_in encoding class e f (c ∷ cs) n = rw n refl
none_in doctype_end class e f [] n = refl
none_in doctype_end class e f (c ∷ cs) n = rw n refl

one_stops : (p : Part) (class : ℕ → Bool) (e : ℕ) (f : Form) {old new : List ℕ} → new ≡ old → Ends class old → spells old (one p class e f) ≡ stops_in p new
one_stops p class e f {old = old} o n = rw o (none_in p class e f old n)

same_one : (c : ℕ) → is_one c c ≡ true
same_one c = eq-eqb c c refl

other_one : (c : ℕ) (ts : List ℕ) → NotNext c ts → Ends (is_one c) ts
other_one c [] n = tt
other_one c (d ∷ ds) n = ne_eqb d c (λ same. n (sym same))

pub eat_then : (p : Part) (e : ℕ) (f : Form) {old mid : List ℕ} {c : ℕ} {end : FormEnd} → old ≡ c ∷ mid → spells mid f ≡ end → spells old (one p (is_one c) e f) ≡ end
eat_then p e f {c = c} o k = one_then p (is_one c) e f o (same_one c) k

pub eat_stops : (p : Part) (c e : ℕ) (f : Form) {old new : List ℕ} → (new ≡ old) × NotNext c old → spells old (one p (is_one c) e f) ≡ stops_in p new
eat_stops p c e f {old = old} n = one_stops p (is_one c) e f n.0 (other_one c old n.1)

pub last_then : (p : Part) (e : ℕ) {old new : List ℕ} {c : ℕ} → old ≡ c ∷ new → spells old (last p (is_one c) e) ≡ stands new
last_then p e {c = c} o = rw (o, same_one c) refl

last_none : (p : Part) (class : ℕ → Bool) (e : ℕ) (ts : List ℕ) → Ends class ts → spells ts (last p class e) ≡ stops_in p ts
last_none elsewhere class e [] n = refl
last_none elsewhere class e (c ∷ cs) n = rw n refl
last_none encoding class e [] n = refl
last_none encoding class e (c ∷ cs) n = rw n refl
last_none doctype_end class e [] n = refl
last_none doctype_end class e (c ∷ cs) n = rw n refl

pub last_stops : (p : Part) (c e : ℕ) {old new : List ℕ} → (new ≡ old) × NotNext c old → spells old (last p (is_one c) e) ≡ stops_in p new
last_stops p c e {old = old} n = rw n.0 (last_none p (is_one c) e old (other_one c old n.1))

-- an internal subset begins, or none
pub subset_next : (ts : List ℕ) → NextIs 91 ts → stops_in doctype_end ts ≡ stops subset ts
subset_next [] n = absurd n
subset_next (c ∷ cs) n = rw n refl

pub no_subset : (ts : List ℕ) → NotNext 91 ts → stops_in doctype_end ts ≡ stops other ts
no_subset [] n = refl
no_subset (c ∷ cs) n = rw (ne_eqb c 91 (λ same. n (sym same))) refl

-- runs

many_none : (class : ℕ → Bool) (f : Form) (ts : List ℕ) → Ends class ts → spells ts (many class f) ≡ spells ts f
many_none class f [] n = refl
many_none class f (c ∷ cs) n = rw n refl

many_run : (class : ℕ → Bool) (f : Form) (xs ts : List ℕ) → list_all class xs ≡ true → spells (xs ++ ts) (many class f) ≡ spells ts (many class f)
many_run class f [] ts a = refl
many_run class f (x ∷ xs) ts a =
    let parts = and_parts (class x) (list_all class xs) a in rw parts.0 (many_run class f xs ts parts.1)

pub run_then : (class : ℕ → Bool) (f : Form) (run mid : List ℕ) {old : List ℕ} {end : FormEnd} → old ≡ run ++ mid → list_all class run ≡ true → Ends class mid → spells mid f ≡ end → spells old (many class f) ≡ end
run_then class f run mid o a n k = rw o (many_run class f run mid a ∙ many_none class f mid n ∙ k)

many_spaces : (f : Form) {ts new : List ℕ} → Spaces ts new → spells ts (many is_space f) ≡ spells new (many is_space f)
many_spaces f lexemes.no_space = refl
many_spaces f (lexemes.a_space h s) = rw h (many_spaces f s)

pub space_then : (f : Form) {old mid : List ℕ} {end : FormEnd} → Spaced old mid → Ends is_space mid → spells mid f ≡ end → spells old (space f) ≡ end
space_then f {mid = mid} s n k = one_then elsewhere is_space 32 (many is_space f) s.2 s.3 (many_spaces f s.4 ∙ many_none is_space f mid n ∙ k)

pub space_stops : (f : Form) {old new : List ℕ} → new ≡ old → Ends is_space new → spells old (space f) ≡ stops other new
space_stops f o n = one_stops elsewhere is_space 32 (many is_space f) o (rw o at n)

-- white space or none
pub skip_then : (f : Form) (r : Bool) (old mid : List ℕ) {end : FormEnd} → MatchBool r (Spaced old mid) (mid ≡ old) → Ends is_space mid → spells mid f ≡ end → spells old (many is_space f) ≡ end
skip_then f true old mid s n k = rw (s.2, s.3) (many_spaces f s.4 ∙ many_none is_space f mid n ∙ k)
skip_then f false old mid s n k = rw (← s) (many_none is_space f mid n ∙ k)

-- one character of a class at least

no_text : (bs : List ℕ) → true ≡ (length bs == 0) → bs ≡ []
no_text [] e = refl
no_text (b ∷ bs) e = absurd (let no : (length (b ∷ bs) == 0) ≡ false = ne_eqb (length (b ∷ bs)) 0 (λ x. omega arith) in cc)

pub some_stops : (class : ℕ → Bool) (e : ℕ) (f : Form) (bs : List ℕ) {old new : List ℕ} → true ≡ (length bs == 0) → old ≡ chars bs ++ new → Ends class new → spells old (some_of class e f) ≡ stops other new
some_stops class e f bs {old = old} {new = new} m o n =
    let empty : old ≡ new = o ∙ ap (λ b. chars b ++ new) (no_text bs m) ∙ ap (λ (t : List ℕ). t ++ new) chars-nil in
    one_stops elsewhere class e (many class f) (sym empty) (rw empty n)

pub some_then : (class : ℕ → Bool) (e : ℕ) (f : Form) (bs mid : List ℕ) {old : List ℕ} {end : FormEnd} → false ≡ (length bs == 0) → IsUtf8 bs → old ≡ chars bs ++ mid → list_all class (chars bs) ≡ true → Ends class mid → spells mid f ≡ end → spells old (some_of class e f) ≡ end
some_then class e f bs mid {end = end} m u o a n k = rw o (go (chars bs) refl a) where
  go : (cs : List ℕ) → chars bs ≡ cs → list_all class cs ≡ true → spells (cs ++ mid) (some_of class e f) ≡ end
  go [] d a = absurd (let none : encode_utf8_all [] ≡ bs = ap encode_utf8_all (sym d) ∙ encodes-chars bs u in
      let same : (length bs == 0) ≡ true = rw (← none) refl in cc)
  go (c ∷ cs) d a =
      let parts = and_parts (class c) (list_all class cs) a in
      rw parts.0 (many_run class f cs mid parts.1 ∙ many_none class f mid n ∙ k)

-- choices

choice_some : (class : ℕ → Bool) (f g : Form) (c : ℕ) (ts : List ℕ) → class c ≡ true → spells (c ∷ ts) (choice class f g) ≡ spells (c ∷ ts) f
choice_some class f g c ts h = rw h refl

choice_none : (class : ℕ → Bool) (f g : Form) (ts : List ℕ) → Ends class ts → spells ts (choice class f g) ≡ spells ts g
choice_none class f g [] n = refl
choice_none class f g (c ∷ cs) n = rw n refl

left_then : (class : ℕ → Bool) (f g : Form) {old ts : List ℕ} {c : ℕ} {end : FormEnd} → old ≡ c ∷ ts → class c ≡ true → spells old f ≡ end → spells old (choice class f g) ≡ end
left_then class f g {ts = ts} {c = c} o h k = rw o (choice_some class f g c ts h ∙ (rw o at k))

right_then : (class : ℕ → Bool) (f g : Form) (old : List ℕ) {end : FormEnd} → Ends class old → spells old g ≡ end → spells old (choice class f g) ≡ end
right_then class f g old n k = choice_none class f g old n ∙ k

pub next_then : (c : ℕ) (f g : Form) (old : List ℕ) {end : FormEnd} → NextIs c old → spells old f ≡ end → spells old (choice (is_one c) f g) ≡ end
next_then c f g [] n k = absurd n
next_then c f g (d ∷ ds) n k = choice_some (is_one c) f g d ds (rw n (same_one c)) ∙ k

pub other_then : (c : ℕ) (f g : Form) (old : List ℕ) {end : FormEnd} → NotNext c old → spells old g ≡ end → spells old (choice (is_one c) f g) ≡ end
other_then c f g old n k = right_then (is_one c) f g old (other_one c old n) k

-- after white space, or where there is none
pub spaced_then : (f g : Form) {old mid : List ℕ} {end : FormEnd} → Spaced old mid → Ends is_space mid → spells mid f ≡ end → spells old (choice is_space (space f) g) ≡ end
spaced_then f g s n k = left_then is_space (space f) g s.2 s.3 (space_then f s n k)

pub unspaced_then : (f g : Form) {old mid : List ℕ} {end : FormEnd} → mid ≡ old → Ends is_space mid → spells mid g ≡ end → spells old (choice is_space f g) ≡ end
unspaced_then f g {mid = mid} o n k = rw (← o) (right_then is_space f g mid n k)

-- literals

-- these characters of such a part, and then the form
abbrev pub part_literal : Part → List ℕ → Form → Form
part_literal p [] f = f
part_literal p (c ∷ cs) f = one p (is_one c) c (part_literal p cs f)

literal_whole : (p : Part) (text : List ℕ) (f : Form) (ts : List ℕ) → spells (text ++ ts) (part_literal p text f) ≡ spells ts f
literal_whole p [] f ts = refl
literal_whole p (c ∷ cs) f ts = rw (same_one c) (literal_whole p cs f ts)

literal_part : (p : Part) (read : List ℕ) (next : ℕ) (more : List ℕ) (f : Form) (new : List ℕ) → NotNext next new → spells (read ++ new) (part_literal p (read ++ next ∷ more) f) ≡ stops_in p new
literal_part p [] next more f new n = none_in p (is_one next) next (part_literal p more f) new (other_one next new n)
literal_part p (c ∷ cs) next more f new n = rw (same_one c) (literal_part p cs next more f new n)

abbrev pub IsPlain : List ℕ → Type 0
IsPlain text = list_all (λ b. nat_lt b 128) text ≡ true

pub ascii : (text : List ℕ) → IsPlain text → chars text ≡ text
ascii text a = chars-IsAscii text (ascii_list text a)

pub literal_then : (p : Part) (text : List ℕ) (f : Form) (mid : List ℕ) {old : List ℕ} {end : FormEnd} → IsPlain text → old ≡ chars text ++ mid → spells mid f ≡ end → spells old (part_literal p text f) ≡ end
literal_then p text f mid a o k = rw (o, ascii text a) (literal_whole p text f mid ∙ k)

pub literal_stops : (p : Part) (text : List ℕ) (f : Form) {old new : List ℕ} → IsPlain text → DiffersAt (chars text) old new → spells old (part_literal p text f) ≡ stops_in p new
literal_stops p text f {new = new} a d =
    rw (d.is_old, sym (ascii text a) ∙ d.is_whole) (literal_part p d.read d.next d.more f new d.not_next)

-- what is in quotes

or_cases : (a b : Bool) → (a || b) ≡ true → (a ≡ true) ⊎ (b ≡ true)
or_cases true b h = inl refl
or_cases false b h = inr h

quote_cases : (q : ℕ) → is_quote q ≡ true → (q ≡ 34) ⊎ (q ≡ 39)
unfolding is_quote
quote_cases q h = elim (or_cases (q == 34) (q == 39) h) [
  | inl d ↦ inl (eqb-true q 34 d)
  | inr s ↦ inr (eqb-true q 39 s)
]

pub quoted_then : (inner : ℕ → Form) {old new : List ℕ} {q : ℕ} {end : FormEnd} → old ≡ q ∷ new → is_quote q ≡ true → spells new (inner q) ≡ end → spells old (quoted inner) ≡ end
quoted_then inner {q = q} o h k = elim (quote_cases q h) [
  | inl d ↦ rw (o, d) (rw d at k)
  | inr s ↦ rw (o, s) (rw s at k)
]

pub quoted_stops : (inner : ℕ → Form) {old new : List ℕ} → (new ≡ old) × NotNext 34 old × NotNext 39 old → spells old (quoted inner) ≡ stops other new
quoted_stops inner {old = old} n = other_then 34 (one elsewhere (is_one 34) 34 (inner 34)) (one elsewhere (is_one 39) 39 (inner 39)) old n.1 (eat_stops elsewhere 39 39 (inner 39) (n.0, n.2))

pub single_quote : (q : ℕ) → is_quote q ≡ true → (q ≡ 34 → ⊥) → q ≡ 39
single_quote q h n = elim (quote_cases q h) [
  | inl d ↦ absurd (n d)
  | inr s ↦ s
]

-- fronts

pub takes_then : (front mid_front : Form → Form) (p : Part) (b : Bool) (old mid new : List ℕ) → ((f : Form) → spells old (front f) ≡ spells mid (mid_front f)) → Takes mid mid_front p b new → Takes old front p b new
takes_then front mid_front p true old mid new g t = λ f. g f ∙ t f
takes_then front mid_front p false old mid new g t = λ f. g f ∙ t f

pub eat_takes : (p : Part) (c e : ℕ) (b : Bool) (old new : List ℕ) → MatchBool b (old ≡ c ∷ new) ((new ≡ old) × NotNext c old) → Takes old (one p (is_one c) e) p b new
eat_takes p c e true old new h = λ f. eat_then p e f h refl
eat_takes p c e false old new h = λ f. eat_stops p c e f h

pub literal_takes : (p : Part) (text : List ℕ) (b : Bool) (old new : List ℕ) → IsPlain text → MatchBool b (old ≡ chars text ++ new) (DiffersAt (chars text) old new) → Takes old (part_literal p text) p b new
literal_takes p text true old new a h = λ f. literal_then p text f new a h refl
literal_takes p text false old new a h = λ f. literal_stops p text f a h

great_letter : (small great : ℕ) → great ≡ small - 32 → is_letter small great ≡ true
great_letter small great g = rw (eq-eqb great (small - 32) g) (or-true (great == small))

no_letter : (small great : ℕ) (ts : List ℕ) → great ≡ small - 32 → NotNext small ts → NotNext great ts → Ends (is_letter small) ts
no_letter small great [] g s n = tt
no_letter small great (c ∷ cs) g s n = rw (ne_eqb c small (λ same. s (sym same)), ne_eqb c (small - 32) (λ same. n (g ∙ sym same))) refl

pub small_letter : (small : ℕ) (f : Form) {old new : List ℕ} → old ≡ small ∷ new → spells old (letter small f) ≡ spells new f
small_letter small f o = one_then encoding (is_letter small) small f o (rw (same_one small) refl) refl

pub letter_takes : (small great : ℕ) (b : Bool) (old mid new : List ℕ) → great ≡ small - 32 → (mid ≡ old) × NotNext small old → MatchBool b (mid ≡ great ∷ new) ((new ≡ mid) × NotNext great mid) → Takes old (letter small) encoding b new
letter_takes small great true old mid new g s h = λ f. one_then encoding (is_letter small) small f (sym s.0 ∙ h) (great_letter small great g) refl
letter_takes small great false old mid new g s h = λ f. one_stops encoding (is_letter small) small f (h.0 ∙ s.0) (no_letter small great old g s.1 (rw s.0 at h.1))

pub in_encoding : (c : ℕ) (ts : List ℕ) → Some c ≡ slice_get ts 0 → stops_in encoding ts ≡ stops machine.encoding ts
in_encoding c [] s = cc
in_encoding c (d ∷ ds) s = refl

pub encoding_over : (ts : List ℕ) → None ≡ slice_get ts 0 → stops_in encoding ts ≡ stops other ts
encoding_over [] s = refl
encoding_over (d ∷ ds) s = cc

-- a quote after `=`
pub quote_behind : (r : Option ℕ) (old mid new : List ℕ) → ((inner : ℕ → Form) → spells old (equals (quoted inner)) ≡ spells mid (quoted inner))
    → MatchOption r ((new ≡ mid) × NotNext 34 mid × NotNext 39 mid) (λ q. (mid ≡ q ∷ new) × (is_quote q ≡ true))
    → MatchOption r ((inner : ℕ → Form) → spells old (equals (quoted inner)) ≡ stops other new) (λ q. (inner : ℕ → Form) → spells old (equals (quoted inner)) ≡ spells new (inner q))
quote_behind None old mid new g h = λ inner. g inner ∙ quoted_stops inner h
quote_behind (Some q) old mid new g h = λ inner. g inner ∙ quoted_then inner h.0 h.1 refl

-- a name that may have colons

colon_starts : (c : ℕ) → starts_colon_name c ≡ true → is_colon_name_char c ≡ true
colon_starts c h = elim (or_cases (starts_name c) (c == 58) h) [
  | inl s ↦ rw (name_starts c s) refl
  | inr s ↦ rw s (or-true (is_name_char c))
]

pub colon_name_taken : (c : ℕ) (old run new : List ℕ) → Some c ≡ slice_get old 0 → starts_colon_name c ≡ true → old ≡ run ++ new → list_all is_colon_name_char run ≡ true → Ends is_colon_name_char new → Takes old colon_name elsewhere true new
colon_name_taken c old run new s h o a n = λ f.
    let b = begun is_colon_name_char c old run new s (colon_starts c h) o a n in
    one_then elsewhere starts_colon_name 97 (many is_colon_name_char f) b.is_old h (run_then is_colon_name_char f b.more new refl b.passes n refl)

pub colon_name_stops : (c : ℕ) (old : List ℕ) → Some c ≡ slice_get old 0 → starts_colon_name c ≡ false → Takes old colon_name elsewhere false old
colon_name_stops c [] s h = cc
colon_name_stops c (d ∷ ds) s h = λ f. let same : d ≡ c = cc in one_stops elsewhere starts_colon_name 97 (many is_colon_name_char f) refl (rw same h)

pub colon_name_over : (old : List ℕ) → None ≡ slice_get old 0 → Takes old colon_name elsewhere false old
colon_name_over [] s = λ f. refl
colon_name_over (d ∷ ds) s = cc
