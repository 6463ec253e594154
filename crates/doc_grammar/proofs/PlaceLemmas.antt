-- The place of a rest of a text is the number of bytes before it.
use Rattle.std.proofs.Common.{◌≡◌, ℕ, zero, suc, ◌+◌, ◌-◌, ◌≤◌, List, [], ◌∷◌, ◌++◌, length, length-append, take, drop, Bool, true, false, cond, ◌&&◌, ◌==◌, refl, sym, ap, subst, ◌∙◌, arith}
use Rattle.std.specs.Prelude.{encode_utf8_all}
use Rattle.std.specs.Char.{encode_utf8}
use Rattle.std.proofs.lemmas.Bool.{and_parts, eqb-true}
use Rattle.doc_grammar.specs.Lines.{lines_behind, lines, mark, text_of, bytes_of, bytes_before, offset}
use Rattle.doc_grammar.specs.Places.{IsPlace}
use Rattle.std.proofs.Math.Seq.{take-append_seam}

-- the characters parted after those that are read as the first n
record Parted (cr : Bool) (cs : List ℕ) (n : ℕ) : Type 0 where
  before : List ℕ
  behind : List ℕ
  parts : cs ≡ before ++ behind
  bytes : bytes_before cr cs n ≡ length (encode_utf8_all before)
  read_before : lines_behind cr before ≡ take n (lines_behind cr cs)
  read_behind : lines behind ≡ drop n (lines_behind cr cs)

-- a line feed that belongs to the carriage return before it
feed_first : (cs : List ℕ) → Parted true (10 ∷ cs) zero
unfolding encode_utf8
feed_first cs = record { before = 10 ∷ []; behind = cs; parts = refl; bytes = refl; read_before = refl; read_behind = refl }

feed_more : (cs : List ℕ) (n : ℕ) → Parted false cs (suc n) → Parted true (10 ∷ cs) (suc n)
unfolding encode_utf8
feed_more cs n p = record {
  before = 10 ∷ p.before;
  behind = p.behind;
  parts = ap (λ xs. 10 ∷ xs) p.parts;
  bytes = ap (λ m. 1 + m) p.bytes ∙ sym (length-append (encode_utf8 10) (encode_utf8_all p.before));
  read_before = p.read_before;
  read_behind = p.read_behind;
}

-- any other character is read as one
abbrev read_as : ℕ → ℕ
read_as c = cond (c == 13) 10 c

line_turn : (cr : Bool) (c : ℕ) (cs : List ℕ) → (cr && c == 10) ≡ false → lines_behind cr (c ∷ cs) ≡ read_as c ∷ lines_behind (c == 13) cs
line_turn cr c cs e = go (c == 13) refl
  where
    go : (q : Bool) → (c == 13) ≡ q → lines_behind cr (c ∷ cs) ≡ read_as c ∷ lines_behind (c == 13) cs
    go true d = rw d refl
    go false d = rw (d, e) refl

other_first : (cr : Bool) (c : ℕ) (cs : List ℕ) → (cr && c == 10) ≡ false → Parted cr (c ∷ cs) zero
other_first cr c cs e = record {
  before = [];
  behind = c ∷ cs;
  parts = refl;
  bytes = rw e refl;
  read_before = refl;
  read_behind = line_turn false c cs refl ∙ sym (line_turn cr c cs e);
}

other_bytes : (cr : Bool) (c : ℕ) (cs : List ℕ) (n : ℕ) → (cr && c == 10) ≡ false → bytes_before cr (c ∷ cs) (suc n) ≡ bytes_of c + bytes_before (c == 13) cs n
other_bytes cr c cs n e = rw e refl

other_more : (cr : Bool) (c : ℕ) (cs : List ℕ) (n : ℕ) → (cr && c == 10) ≡ false → Parted (c == 13) cs n → Parted cr (c ∷ cs) (suc n)
other_more cr c cs n e p = record {
  before = c ∷ p.before;
  behind = p.behind;
  parts = ap (λ xs. c ∷ xs) p.parts;
  bytes = other_bytes cr c cs n e ∙ ap (λ m. bytes_of c + m) p.bytes ∙ sym (length-append (encode_utf8 c) (encode_utf8_all p.before));
  read_before = line_turn cr c p.before e ∙ ap (λ xs. read_as c ∷ xs) p.read_before ∙ ap (take (suc n)) (sym (line_turn cr c cs e));
  read_behind = p.read_behind ∙ ap (drop (suc n)) (sym (line_turn cr c cs e));
}

parted : (cr : Bool) (cs : List ℕ) (n : ℕ) → n ≤ length (lines_behind cr cs) → Parted cr cs n
parted cr [] zero h = record { before = []; behind = []; parts = refl; bytes = refl; read_before = refl; read_behind = refl }
parted cr [] (suc n) h = absurd (omega arith)
parted cr (c ∷ cs) zero h = go (cr && c == 10) refl
  where
    go : (q : Bool) → (cr && c == 10) ≡ q → Parted cr (c ∷ cs) zero
    go true e =
        let parts = and_parts cr (c == 10) e in
        let P : Bool → Type 0 = λ b. Parted b (c ∷ cs) zero in
        let Q : ℕ → Type 0 = λ x. Parted true (x ∷ cs) zero in
        subst P (sym parts.0) (subst Q (sym (eqb-true c 10 parts.1)) (feed_first cs))
    go false e = other_first cr c cs e
parted cr (c ∷ cs) (suc n) h = go (cr && c == 10) refl (λ g. parted false cs (suc n) g) (λ g. parted (c == 13) cs n g)
  where
    go : (q : Bool) → (cr && c == 10) ≡ q → (suc n ≤ length (lines_behind false cs) → Parted false cs (suc n)) → (n ≤ length (lines_behind (c == 13) cs) → Parted (c == 13) cs n) → Parted cr (c ∷ cs) (suc n)
    go true e feed other =
        let parts = and_parts cr (c == 10) e in
        let ten = eqb-true c 10 parts.1 in
        let P : Bool → Type 0 = λ b. Parted b (c ∷ cs) (suc n) in
        let Q : ℕ → Type 0 = λ x. Parted true (x ∷ cs) (suc n) in
        let R : Bool → Type 0 = λ b. suc n ≤ length (lines_behind b (c ∷ cs)) in
        let S : ℕ → Type 0 = λ x. suc n ≤ length (lines_behind true (x ∷ cs)) in
        subst P (sym parts.0) (subst Q (sym ten) (feed_more cs n (feed (subst S ten (subst R parts.0 h)))))
    go false e feed other =
        let turn = ap length (line_turn cr c cs e) in
        other_more cr c cs n e (other (omega arith))

-- a rest of the lines is what the last of them are
front_count : (front rest : List ℕ) → length (front ++ rest) - length rest ≡ length front
front_count front rest = let size = length-append front rest in omega arith

drop_front : (front rest : List ℕ) → drop (length front) (front ++ rest) ≡ rest
drop_front [] rest = refl
drop_front (c ∷ cs) rest = drop_front cs rest

line_place : (cs front rest : List ℕ) → lines cs ≡ front ++ rest → Parted false cs (length front) → (n : ℕ) → n ≡ length front → (before : List ℕ) × (behind : List ℕ) × (cs ≡ before ++ behind) × (bytes_before false cs n ≡ length (encode_utf8_all before)) × (lines cs ≡ lines before ++ rest) × (lines behind ≡ rest)
line_place cs front rest e p n is =
    let read : lines p.before ≡ front = p.read_before ∙ ap (take (length front)) e ∙ take-append_seam front rest in
    (p.before, p.behind, p.parts, ap (bytes_before false cs) is ∙ p.bytes, e ∙ ap (λ xs. xs ++ rest) (sym read), p.read_behind ∙ ap (drop (length front)) e ∙ drop_front front rest)

fits : (cs front rest : List ℕ) → lines cs ≡ front ++ rest → length front ≤ length (lines cs)
fits cs front rest e = let size = ap length e ∙ length-append front rest in omega arith

counted : (cs front rest : List ℕ) → lines cs ≡ front ++ rest → length (lines cs) - length rest ≡ length front
counted cs front rest e = ap (λ xs. length xs - length rest) e ∙ front_count front rest

-- after a byte order mark
place_marked : (cs front rest : List ℕ) → lines cs ≡ front ++ rest → IsPlace (mark ∷ cs) rest (offset (mark ∷ cs) rest)
unfolding encode_utf8
place_marked cs front rest e =
    let q = line_place cs front rest e (parted false cs (length front) (fits cs front rest e)) (length (lines cs) - length rest) (counted cs front rest e) in
    record {
      before = mark ∷ q.0;
      behind = q.1;
      parts = ap (λ xs. mark ∷ xs) q.2;
      bytes = ap (λ n. 3 + n) q.3 ∙ sym (length-append (encode_utf8 mark) (encode_utf8_all q.0));
      read_before = q.4;
      read_behind = q.5;
    }

same_first : (x c : ℕ) (xs cs : List ℕ) → c ∷ cs ≡ x ∷ xs → c ≡ x
same_first x c xs cs e = cc

-- without one
unmarked : (before behind : List ℕ) (c : ℕ) (cs : List ℕ) → c ∷ cs ≡ before ++ behind → (c == mark) ≡ false → text_of before ≡ lines before
unmarked [] behind c cs e d = refl
unmarked (x ∷ before) behind c cs e d =
    let same : (x == mark) ≡ false = ap (λ n. n == mark) (sym (same_first x c (before ++ behind) cs e)) ∙ d in
    rw same refl

nothing_more : (n : ℕ) → 0 + n ≡ n
nothing_more n = omega arith

place_plain : (c : ℕ) (cs front rest : List ℕ) → (c == mark) ≡ false → lines (c ∷ cs) ≡ front ++ rest → IsPlace (c ∷ cs) rest (offset (c ∷ cs) rest)
place_plain c cs front rest d e =
    let q = line_place (c ∷ cs) front rest e (parted false (c ∷ cs) (length front) (fits (c ∷ cs) front rest e)) (length (lines (c ∷ cs)) - length rest) (counted (c ∷ cs) front rest e) in
    record {
      before = q.0;
      behind = q.1;
      parts = q.2;
      bytes = rw d (nothing_more _ ∙ q.3);
      read_before = rw d (q.4 ∙ ap (λ xs. xs ++ rest) (sym (unmarked q.0 q.1 c cs q.2 d)));
      read_behind = q.5;
    }

no_front : (xs ys : List ℕ) → [] ≡ xs ++ ys → [] ≡ ys
no_front [] ys d = d
no_front (x ∷ xs) ys d = absurd (cc)

pub place_of : (cs front rest : List ℕ) → text_of cs ≡ front ++ rest → IsPlace cs rest (offset cs rest)
place_of [] front rest e = record { before = []; behind = []; parts = refl; bytes = refl; read_before = no_front front rest e; read_behind = no_front front rest e }
place_of (c ∷ cs) front rest e = go (c == mark) refl
  where
    go : (q : Bool) → (c == mark) ≡ q → IsPlace (c ∷ cs) rest (offset (c ∷ cs) rest)
    go true d =
        let is = eqb-true c mark d in
        let P : ℕ → Type 0 = λ x. IsPlace (x ∷ cs) rest (offset (x ∷ cs) rest) in
        let Q : ℕ → Type 0 = λ x. text_of (x ∷ cs) ≡ front ++ rest in
        subst P (sym is) (place_marked cs front rest (subst Q is e))
    go false d = place_plain c cs front rest d (rw d at e)
