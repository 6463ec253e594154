-- Places as bytes, and lists of tokens as they grow.
use Rattle.std.proofs.Common.{◌≡◌, ℕ, ◌-◌, ◌<◌, ◌≤◌, List, [], ◌∷◌, ◌++◌, length, length-append, map, Bool, false, refl, sym, ap, ◌∙◌, append-nil, arith}
use Rattle.std.proofs.lemmas.Str.{encodes-append, encodes-chars}
use Rattle.std.proofs.lemmas.List.{append_cancel_right}
use Rattle.std.specs.Char.{encode_utf8}
use Rattle.std.specs.Prelude.{encode_utf8_all}
use Rattle.std.specs.Str.{chars, IsUtf8}
use Rattle.xpath_lex.specs.Gaps.{Comment, over, nested, passes, Gap, none, space, comment, Stops}
use Rattle.xpath_lex.specs.Tokens.{IsToken, Longest, NoneBegins}
use Rattle.xpath_lex.specs.Readings.{Placed, placed, size, IsPlace, ends_in_digit, TokenAt, IsOver, FaultAt, Tokens, Fault, here, later}
use Rattle.xpath_lex.specs.Readings as reading
use Rattle.xpath_lex.specs.declared.lexing.TokenKind.{TokenKind}
use Rattle.xpath_lex.specs.declared.lexing.Token.{Token}
use Rattle.xpath_lex.proofs.ReadingLemmas.{some_token}

size-cons : (c : ℕ) (ts : List ℕ) → size ts ≤ size (c ∷ ts)
unfolding size
size-cons c ts = let all = length-append (encode_utf8 c) (encode_utf8_all ts) in omega (arith, all)

size-append : (xs ys : List ℕ) → size ys ≤ size (xs ++ ys)
unfolding size
size-append xs ys = let all = ap length (encodes-append xs ys) ∙ length-append (encode_utf8_all xs) (encode_utf8_all ys) in omega (arith, all)

-- what is left of a text is not longer, in characters and in bytes
record Within (ts rest : List ℕ) : Type 0 where
  size : size rest ≤ size ts
  length : length rest ≤ length ts

within_one : (c : ℕ) {ts rest : List ℕ} → Within ts rest → Within (c ∷ ts) rest
within_one c {ts = ts} {rest = rest} w = let more = size-cons c ts in record { size = omega (arith, w.size, more); length = omega (arith, w.length) }

within_then : {ts mid rest : List ℕ} → Within ts mid → Within mid rest → Within ts rest
within_then v w = record { size = omega (arith, v.size, w.size); length = omega (arith, v.length, w.length) }

within_same : (ts : List ℕ) → Within ts ts
within_same ts = record { size = omega arith; length = omega arith }

comment_within : {ts rest : List ℕ} → Comment ts rest → Within ts rest
comment_within {rest = rest} over = within_one 58 (within_one 41 (within_same rest))
comment_within (nested a b) = within_one 40 (within_one 58 (within_then (comment_within a) (comment_within b)))
comment_within (passes {c = c} h e d a) = within_one c (comment_within a)

gap_within : {b a : Bool} {ts rest : List ℕ} → Gap b ts a rest → Within ts rest
gap_within {rest = rest} none = within_same rest
gap_within (space {c = c} e g) = within_one c (gap_within g)
gap_within (comment c g) = within_one 40 (within_one 58 (within_then (comment_within c) (gap_within g)))

pub gap_fits : {b a : Bool} (ts rest : List ℕ) (left total : ℕ) → Gap b ts a rest → size ts ≤ total → left ≡ size rest → left ≤ total
gap_fits ts rest left total g h e = let w = gap_within g in omega (arith, w.size, h, e)

pub token_fits : {b a c : Bool} {k : TokenKind} (ts spot begun rest : List ℕ) (left total : ℕ) → Gap b ts a spot → begun ≡ spot → ((run : List ℕ) × Longest c begun k run rest) → size ts ≤ total → left ≡ size rest → left ≤ total
token_fits ts spot begun rest left total g f (run, l) h e =
    let w = gap_within g in
    let parts : spot ≡ run ++ rest = sym f ∙ l.begins.parts in
    let same : size spot ≡ size (run ++ rest) = ap size parts in
    let more = size-append run rest in omega (arith, w.size, h, e, same, more)

place_is : (total : ℕ) (rest : List ℕ) (left : ℕ) → left ≡ size rest → left ≤ total → IsPlace total rest (total - left)
place_is total rest left e h = omega (arith, e, h)

pub token_found : {b a c : Bool} {k : TokenKind} (total : ℕ) (ts spot begun rest text : List ℕ) (left last : ℕ) → Gap b ts a spot → Stops spot → begun ≡ spot → c ≡ a → ((run : List ℕ) × Longest c spot k run rest)
    → left ≡ size spot → last ≡ size rest → size ts ≤ total → begun ≡ chars text ++ rest
    → TokenAt total b ts (record { kind = k; characters = chars text; from = total - left; to = total - last }) rest
token_found {a = a} {k = k} total ts spot begun rest text left last g s f same (run, l) e d h parts =
    let fits = gap_fits ts spot left total g h e in
    let after = token_fits ts spot spot rest last total g refl (run, l) h d in
    let characters : run ≡ chars text = append_cancel_right run (chars text) rest (sym l.begins.parts ∙ sym f ∙ parts) in
    let longest : Longest a spot k (chars text) rest = rw (← same, ← characters) l in
    record { after = a; here = spot; gap = g; stops = s; longest = longest; from = place_is total spot left e fits; to = place_is total rest last d after }

pub fault_found : {b a c : Bool} (total : ℕ) (ts spot begun : List ℕ) (left : ℕ) → Gap b ts a spot → Stops spot → begun ≡ spot → c ≡ a → NoneBegins c spot → (begun ≡ [] → ⊥) → left ≡ size spot → size ts ≤ total → FaultAt total b ts (total - left)
fault_found {a = a} total ts spot begun left g s f same n some e h = record {
  after = a;
  here = spot;
  gap = g;
  stops = s;
  some = λ x. some (f ∙ x);
  none = rw same at n;
  at = place_is total spot left e (gap_fits ts spot left total g h e);
}

-- lists of tokens

run_length : (k : TokenKind) (run : List ℕ) → IsToken k run → 0 < length run
run_length k [] t = absurd (some_token [] [] t refl)
run_length k (x ∷ xs) t = omega arith

pub token_shorter : (total : ℕ) (b : Bool) (ts rest : List ℕ) (t : Placed) → TokenAt total b ts t rest → length rest < length ts
token_shorter total b ts rest t at =
    let w = gap_within at.gap in
    let parts = ap length at.longest.begins.parts ∙ length-append t.characters rest in
    let some = run_length t.kind t.characters at.longest.begins.is_token in omega (arith, w.length, parts, some)

-- what is still to be read completes the whole
pub record Reads (total : ℕ) (whole : List ℕ) (done : List Placed) (b : Bool) (rest : List ℕ) : Type 0 where
  pub tokens : (us : List Placed) → Tokens total b rest us → Tokens total false whole (done ++ us)
  pub fault : (p : ℕ) → Fault total b rest p → Fault total false whole p
  pub fits : size rest ≤ total

pub reads_none : (total : ℕ) (whole : List ℕ) → size whole ≤ total → Reads total whole [] false whole
reads_none total whole h = record { tokens = λ us t. t; fault = λ p f. f; fits = h }

map_push : (xs : List Token) (t : Token) (us : List Placed) → map placed (xs ++ t ∷ []) ++ us ≡ map placed xs ++ placed t ∷ us
map_push [] t us = refl
map_push (x ∷ xs) t us = ap (λ v. placed x ∷ v) (map_push xs t us)

pub reads_more : (total : ℕ) (whole : List ℕ) (xs ys : List Token) (b c : Bool) (old new : List ℕ) (t : Token) → Reads total whole (map placed xs) b old → TokenAt total b old (placed t) new → ys ≡ xs ++ t ∷ [] → c ≡ ends_in_digit (chars t.text.now)
    → Reads total whole (map placed ys) c new
reads_more total whole xs ys b c old new t r at e f = record {
  tokens = λ us k. (
      let behind : Tokens total (ends_in_digit (placed t).characters) new us = rw f at k in
      rw (e, map_push xs t us) (r.tokens (placed t ∷ us) (reading.token at behind)));
  fault = λ p k. (let behind : Fault total (ends_in_digit (placed t).characters) new p = rw f at k in r.fault p (later at behind));
  fits = omega (arith, at.to);
}

pub reads_over : (total : ℕ) (whole : List ℕ) (xs : List Token) (b : Bool) (rest : List ℕ) → Reads total whole (map placed xs) b rest → IsOver b rest → Tokens total false whole (map placed xs)
reads_over total whole xs b rest r o = rw append-nil at (r.tokens [] (reading.over o))

pub reads_fault : (total : ℕ) (whole : List ℕ) (xs : List Token) (b : Bool) (rest : List ℕ) (p : ℕ) → Reads total whole (map placed xs) b rest → FaultAt total b rest p → Fault total false whole p
reads_fault total whole xs b rest p r f = r.fault p (here f)

-- a text has as many bytes as its characters
pub text_size : (bytes cs : List ℕ) → IsUtf8 bytes → cs ≡ chars bytes → size cs ≤ length bytes
unfolding size
text_size bytes cs u e = let same : length (encode_utf8_all cs) ≡ length bytes = ap (λ x. length (encode_utf8_all x)) e ∙ ap length (encodes-chars bytes u) in omega (arith, same)

pub reads_start : (text whole : List ℕ) (xs : List Token) → IsUtf8 text → xs ≡ [] → whole ≡ chars text → Reads (length text) (chars text) (map placed xs) false whole
reads_start text whole xs u e f = rw (e, f) (reads_none (length text) (chars text) (text_size text (chars text) u refl))
