-- Line ends, one character at a time.
use Rattle.std.proofs.Common.{◌≡◌, ℕ, zero, suc, ◌+◌, ◌≤◌, List, [], ◌∷◌, ◌++◌, length, length-append, Bool, true, false, ◌==◌, Option, Some, None, is_some, refl, sym, ap, ◌∙◌, arith}
use Rattle.std.proofs.lemmas.Bool.{ne_eqb, eqb-true, or_parts}
use Rattle.std.proofs.lemmas.List.Folds.{list_any-append}
use Rattle.std.proofs.lemmas.Str.{length-le-encodes, encodes-chars, chars-nil}
use Rattle.memchr.specs.Find.{IsFirstByte, Nowhere, Passes, is_byte}
use Rattle.std.specs.List.{list_any}
use Rattle.std.specs.Char.{encode_utf8}
use Rattle.std.specs.Str.{chars, IsUtf8, encode_utf8_all}
use Rattle.doc_grammar.specs.Lines.{lines, lines_behind, bytes_of, bytes_before}
use Rattle.xml_source.specs.LineEnds.{line_of, size_of}

pub no_lines : (bs source text : List ℕ) → bs ≡ [] → source ≡ chars text → chars bs ++ lines_behind false source ≡ lines (chars text)
no_lines bs source text e s = rw (e, chars-nil, s) refl

pub plain_line : (cr : Bool) (c : ℕ) → (c ≡ 13 → ⊥) → (c ≡ 10 → ⊥) → line_of cr c ≡ c ∷ []
plain_line true c r n = rw (ne_eqb c 13 r, ne_eqb c 10 n) refl
plain_line false c r n = rw (ne_eqb c 13 r) refl

pub first_line : (cr : Bool) (c : ℕ) → (c ≡ 13 → ⊥) → cr ≡ false → line_of cr c ≡ c ∷ []
first_line cr c r e = rw (ne_eqb c 13 r, e) refl

-- the bytes of a text

size_encoded : (cs : List ℕ) → size_of cs ≡ length (encode_utf8_all cs)
size_encoded [] = refl
size_encoded (c ∷ cs) = ap (λ (n : ℕ). bytes_of c + n) (size_encoded cs) ∙ sym (length-append (encode_utf8 c) (encode_utf8_all cs))

pub size_of_text : (bs : List ℕ) → IsUtf8 bs → size_of (chars bs) ≡ length bs
size_of_text bs u = size_encoded (chars bs) ∙ ap length (encodes-chars bs u)

pub room_of_text : (bs source : List ℕ) → IsUtf8 bs → source ≡ chars bs → 0 + size_of source ≤ length bs
room_of_text bs source u e = let size = size_of_text bs u in rw e (omega arith)

feed_size : bytes_of 10 ≡ 1
unfolding encode_utf8
feed_size = refl

nothing_before : (cs : List ℕ) → bytes_before false cs 0 ≡ 0
nothing_before [] = refl
nothing_before (c ∷ cs) = refl

feed_counts : (cs : List ℕ) (n : ℕ) → bytes_before true (10 ∷ cs) n ≡ 1 + bytes_before false cs n
feed_counts cs zero = rw nothing_before refl
feed_counts cs (suc n) = refl

-- a line feed after a carriage return
pub feed_place : (bytes n all c : ℕ) (cr : Bool) (old cs : List ℕ) → old ≡ c ∷ cs → cr ≡ true → c ≡ 10 → bytes + bytes_before cr old n ≡ all → bytes + 1 + bytes_before false cs n ≡ all
feed_place bytes n all c cr old cs o b e h =
    let k : bytes + bytes_before true (10 ∷ cs) n ≡ all = rw (o, b, e) at h in
    let f = feed_counts cs n in omega arith

pub feed_room : (bytes all c : ℕ) (old cs : List ℕ) → old ≡ c ∷ cs → c ≡ 10 → bytes + size_of old ≤ all → bytes + 1 + size_of cs ≤ all
feed_room bytes all c old cs o e h =
    let k : bytes + size_of (10 ∷ cs) ≤ all = rw (o, e) at h in
    let f = feed_size in omega arith

-- a text has no more characters than bytes
pub fewer_characters : (bs : List ℕ) → IsUtf8 bs → length (chars bs) ≤ length bs
fewer_characters bs u = let size = ap length (encodes-chars bs u) in let less = length-le-encodes (chars bs) in omega arith

-- a text without the byte of a carriage return

no_byte : (bs : List ℕ) → Nowhere (Passes (is_byte 13) bs) 0 (length bs) → list_any (is_byte 13) bs ≡ false
no_byte [] n = refl
no_byte (b ∷ bs) n = go (b == 13) refl (no_byte bs (λ k low high p. n (suc k) (omega arith) (omega (arith, high)) p))
  where
    go : (q : Bool) → (b == 13) ≡ q → list_any (is_byte 13) bs ≡ false → list_any (is_byte 13) (b ∷ bs) ≡ false
    go true e rest = absurd (n 0 (omega arith) (omega arith) e)
    go false e rest = rw e rest

return_byte : encode_utf8 13 ≡ 13 ∷ []
unfolding encode_utf8
return_byte = refl

same_lines : (cs : List ℕ) → list_any (is_byte 13) (encode_utf8_all cs) ≡ false → lines_behind false cs ≡ cs
same_lines [] e = refl
same_lines (c ∷ cs) e =
    let parts = or_parts (list_any (is_byte 13) (encode_utf8 c)) (list_any (is_byte 13) (encode_utf8_all cs)) (sym (list_any-append (is_byte 13) (encode_utf8 c) (encode_utf8_all cs)) ∙ e) in
    go (c == 13) refl parts.0 (same_lines cs parts.1)
  where
    go : (q : Bool) → (c == 13) ≡ q → list_any (is_byte 13) (encode_utf8 c) ≡ false → lines_behind false cs ≡ cs → lines_behind false (c ∷ cs) ≡ c ∷ cs
    go true q n rest =
        let is : encode_utf8 c ≡ 13 ∷ [] = ap encode_utf8 (eqb-true c 13 q) ∙ return_byte in
        let found : true ≡ false = rw is at n in
        absurd (cc)
    go false q n rest = rw q (ap (λ (xs : List ℕ). c ∷ xs) rest)

pub no_return : (bs : List ℕ) (at : Option ℕ) → IsUtf8 bs → IsFirstByte (is_byte 13) bs at → is_some at ≡ false → lines (chars bs) ≡ chars bs
no_return bs None u n e = same_lines (chars bs) (ap (list_any (is_byte 13)) (encodes-chars bs u) ∙ no_byte bs n)
no_return bs (Some k) u n e = absurd (cc)
