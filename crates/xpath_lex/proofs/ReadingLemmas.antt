-- A text is read in one way at most.
use Rattle.std.proofs.Common.{◌≡◌, ℕ, List, [], ◌∷◌, ◌++◌, Bool, refl, sym, ap, ◌∙◌, arith}
use Rattle.xpath_lex.specs.declared.lexing.TokenKind.{TokenKind}
use Rattle.xpath_lex.specs.Tokens.{IsToken, integer, literal, word, qword, any_local, any_prefix, single, double, Begins, Longest}
use Rattle.xpath_lex.specs.Readings.{Placed, size, IsPlace, ends_in_digit, TokenAt, IsOver, FaultAt, Tokens, over, token, Fault, here, later}
use Rattle.xpath_lex.proofs.GapLemmas.{gap_one, stops_at_end}
use Rattle.xpath_lex.proofs.KindLemmas.{longest_one, name_parts}

place_one : (total : ℕ) (x y : List ℕ) (p q : ℕ) → IsPlace total x p → IsPlace total y q → x ≡ y → p ≡ q
place_one total x y p q a b e = let same : size x ≡ size y = ap size e in omega (arith, a, b, same)

-- no token is empty
pub some_token : {k : _} (run rest : List ℕ) → IsToken k run → run ++ rest ≡ [] → ⊥
some_token _ rest (integer h) e = cc
some_token _ rest (literal q h) e = cc
some_token x rest (word h) e = let n = name_parts x h in let f : n.first ∷ (n.others ++ rest) ≡ [] = sym (ap (λ v. v ++ rest) n.is) ∙ e in cc
some_token _ rest (qword x y h g) e = let n = name_parts x h in let f : n.first ∷ ((n.others ++ 58 ∷ y) ++ rest) ≡ [] = sym (ap (λ v. (v ++ 58 ∷ y) ++ rest) n.is) ∙ e in cc
some_token _ rest (any_local x h) e = let n = name_parts x h in let f : n.first ∷ ((n.others ++ 58 ∷ 42 ∷ []) ++ rest) ≡ [] = sym (ap (λ v. (v ++ 58 ∷ 42 ∷ []) ++ rest) n.is) ∙ e in cc
some_token _ rest (any_prefix h) e = cc
some_token _ rest (single h) e = cc
some_token _ rest (double h) e = cc

abbrev record_of : TokenKind → List ℕ → ℕ → ℕ → Placed
record_of k xs f p = record { kind = k; characters = xs; from = f; to = p }

same_placed : (k l : TokenKind) (xs ys : List ℕ) (f g p q : ℕ) → k ≡ l → xs ≡ ys → f ≡ g → p ≡ q
    → record_of k xs f p ≡ record_of l ys g q
same_placed k l xs ys f g p q a b c d = cc

pub token_one : (total : ℕ) (b : Bool) (ts : List ℕ) (t u : Placed) (x y : List ℕ) → TokenAt total b ts t x → TokenAt total b ts u y → (t ≡ u) × (x ≡ y)
token_one total b ts t u x y p q =
    let gap = gap_one p.gap p.stops q.gap q.stops in
    let other : Longest p.after p.here u.kind u.characters y = rw (gap.0, gap.1) q.longest in
    let one = longest_one p.after p.here t.kind u.kind t.characters u.characters x y p.longest other in
    let from = place_one total p.here q.here t.from u.from p.from q.from gap.1 in
    let to = place_one total x y t.to u.to p.to q.to one.2 in
    (same_placed t.kind u.kind t.characters u.characters t.from u.from t.to u.to one.0 one.1 from to, one.2)

pub token_not_over : (total : ℕ) (b : Bool) (ts : List ℕ) (t : Placed) (x : List ℕ) → TokenAt total b ts t x → IsOver b ts → ⊥
token_not_over total b ts t x p q =
    let gap = gap_one p.gap p.stops q.1 stops_at_end in
    some_token t.characters x p.longest.begins.is_token (sym p.longest.begins.parts ∙ gap.1)

pub fault_one : (total : ℕ) (b : Bool) (ts : List ℕ) (p q : ℕ) → FaultAt total b ts p → FaultAt total b ts q → p ≡ q
fault_one total b ts p q f g =
    let gap = gap_one f.gap f.stops g.gap g.stops in place_one total f.here g.here p q f.at g.at gap.1

pub fault_no_token : (total : ℕ) (b : Bool) (ts : List ℕ) (p : ℕ) (t : Placed) (x : List ℕ) → FaultAt total b ts p → TokenAt total b ts t x → ⊥
fault_no_token total b ts p t x f q =
    let gap = gap_one f.gap f.stops q.gap q.stops in
    let here : Begins f.after f.here t.kind t.characters x = rw (gap.0, gap.1) q.longest.begins in f.none t.kind t.characters x here

pub fault_not_over : (total : ℕ) (b : Bool) (ts : List ℕ) (p : ℕ) → FaultAt total b ts p → IsOver b ts → ⊥
fault_not_over total b ts p f q = let gap = gap_one f.gap f.stops q.1 stops_at_end in f.some gap.1

pub tokens_one : (total : ℕ) (b : Bool) (ts : List ℕ) (us vs : List Placed) → Tokens total b ts us → Tokens total b ts vs → us ≡ vs
tokens_one total b ts _ _ (over o) (over p) = refl
tokens_one total b ts _ _ (over o) (token t r) = absurd (token_not_over total b ts _ _ t o)
tokens_one total b ts _ _ (token t r) (over o) = absurd (token_not_over total b ts _ _ t o)
tokens_one total b ts _ _ (token {rest = k} {t = x} {us = us} t r) (token {rest = l} {t = y} {us = vs} u s) =
    let same = token_one total b ts x y k l t u in
    let after : Tokens total (ends_in_digit x.characters) k vs = rw (same.0, same.1) s in
    let go = tokens_one total _ k us vs r after in
    let head = same.0 in let all : x ∷ us ≡ y ∷ vs = cc in all

pub tokens_no_fault : (total : ℕ) (b : Bool) (ts : List ℕ) (us : List Placed) (p : ℕ) → Tokens total b ts us → Fault total b ts p → ⊥
tokens_no_fault total b ts _ p (over o) (here f) = fault_not_over total b ts p f o
tokens_no_fault total b ts _ p (over o) (later t f) = token_not_over total b ts _ _ t o
tokens_no_fault total b ts _ p (token t r) (here f) = fault_no_token total b ts p _ _ f t
tokens_no_fault total b ts _ p (token {rest = k} {t = x} {us = us} t r) (later {rest = l} {t = y} u f) =
    let same = token_one total b ts x y k l t u in
    let after : Fault total (ends_in_digit x.characters) k p = rw (same.0, same.1) f in
    tokens_no_fault total _ k us p r after

pub faults_one : (total : ℕ) (b : Bool) (ts : List ℕ) (p q : ℕ) → Fault total b ts p → Fault total b ts q → p ≡ q
faults_one total b ts p q (here f) (here g) = fault_one total b ts p q f g
faults_one total b ts p q (here f) (later t g) = absurd (fault_no_token total b ts p _ _ f t)
faults_one total b ts p q (later t f) (here g) = absurd (fault_no_token total b ts q _ _ g t)
faults_one total b ts p q (later {rest = k} {t = x} t f) (later {rest = l} {t = y} u g) =
    let same = token_one total b ts x y k l t u in
    let after : Fault total (ends_in_digit x.characters) k q = rw (same.0, same.1) g in
    faults_one total _ k p q f after
