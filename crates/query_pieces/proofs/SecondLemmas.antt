-- What the next tokens tell of the word before them.
use Rattle.std.proofs.Common.{◌≡◌, ℕ, ℤ, List, [], ◌∷◌, Bool, true, false, Option, Some, None}
use Rattle.std.proofs.Common.{option_map, refl, sym, ap, ◌∙◌}
use Rattle.xpath_lex.specs.Readings.{Placed, size, TokenAt, IsOver, FaultAt}
use Rattle.xpath_lex.proofs.ReadingLemmas.{token_not_over, fault_no_token}
use Rattle.xpath_lex.specs.declared.lexing.TokenKind.{TokenKind}
use Rattle.xpath_lex.specs.declared.lexing.TokenKind.TheVariants.{Integer, Literal, Word, QWord}
use Rattle.xpath_lex.specs.declared.lexing.TokenKind.TheVariants.{AnyLocal, AnyPrefix, Symbol}
use Rattle.expr_keys.specs.Keys.{is_worded}
use Rattle.expr_keys.specs.Tokens.{fits_name, fits_key}
use Rattle.expr_terms.specs.Choices.{second_key, second_token, open_next, second_of}
use Rattle.expr_terms.specs.declared.choices.Second.{Second}
use Rattle.expr_terms.specs.declared.choices.Second.TheVariants.{Alone as alone}
use Rattle.expr_terms.specs.declared.choices.Second.TheVariants.{BeforeNamed as before_named}
use Rattle.expr_keys.specs.declared.keys.Key.{Key}
use Rattle.expr_keys.specs.declared.keys.Key.TheVariants as key
use Rattle.expr_keys.specs.declared.tokens.Token.{Token}
use Rattle.expr_keys.specs.declared.tokens.Token.TheVariants as token
use Rattle.expr_tokens.specs.Terms.{qname_parts, word_or_name}
use Rattle.expr_tokens.specs.Words.{key_of_word, key_of_symbol}
use Rattle.query_pieces.specs.Points.{Context, other, stays, Point, in_expression, change_of_key}
use Rattle.query_pieces.specs.Points.{change_of, before_of_key, before_of, moved}
use Rattle.query_pieces.specs.Spellings.{is_literal, Spells, literal, others}
use Rattle.query_pieces.specs.Seconds.{key_of, worded, is_name, second_by, is_brace}
use Rattle.query_pieces.specs.Readings.{IsNext, Reads, spelled, opened, parted, Splits, over}
use Rattle.query_pieces.specs.Readings.{reads}
use Rattle.query_pieces.proofs.ReadingLemmas.{outside_elements, next_one, opens_less}
use Rattle.xt_names.proofs.BoolLemmas.{no}

-- whether the token is a name, and what it tells alone
pub record Tells (t : Token) (b : Bool) (s : Second) : Type 0 where
  pub name : fits_name t ≡ b
  pub second : second_token t ≡ s

digits_tell : (o : Option ℤ) (t : Token) → option_map token.Digits o ≡ Some t → Tells t false alone
digits_tell None t e = cc
digits_tell (Some n) t e = let same : token.Digits n ≡ t = cc in rw (← same)
    (record { name = refl; second = refl })

local_tells : (o : Option (List ℕ)) (t : Token) → option_map token.AnyLocal o ≡ Some t
    → Tells t false alone
local_tells None t e = cc
local_tells (Some n) t e = let same : token.AnyLocal n ≡ t = cc in rw (← same)
    (record { name = refl; second = refl })

prefix_tells : (o : Option (List ℕ)) (t : Token) → option_map token.AnyPrefix o ≡ Some t
    → Tells t false alone
prefix_tells None t e = cc
prefix_tells (Some n) t e = let same : token.AnyPrefix n ≡ t = cc in rw (← same)
    (record { name = refl; second = refl })

qname_tells : (a b : Option (List ℕ)) (t : Token) → qname_parts a b ≡ Some t → Tells t true alone
qname_tells None b t e = cc
qname_tells (Some p) None t e = cc
qname_tells (Some p) (Some n) t e = let same : token.Qname p n ≡ t = cc in rw (← same)
    (record { name = refl; second = refl })

word_tells : (o : Option Key) (cs : List ℕ) (t : Token) → Some (word_or_name o cs) ≡ Some t
    → Tells t (worded true o) (second_by o)
word_tells None cs t e = let same : token.Name cs ≡ t = cc in rw (← same)
    (record { name = refl; second = refl })
word_tells (Some k) cs t e = let same : token.Key k ≡ t = cc in rw (← same)
    (record { name = refl; second = refl })

symbol_tells : (o : Option Key) (t : Token) → option_map token.Key o ≡ Some t
    → Tells t (worded false o) (second_by o)
symbol_tells None t e = cc
symbol_tells (Some k) t e = let same : token.Key k ≡ t = cc in rw (← same)
    (record { name = refl; second = refl })

literal_tells : (k : TokenKind) (cs said : List ℕ) (t : Token) → is_literal k ≡ true
    → t ≡ token.Quoted said → Tells t (is_name k cs) (second_by (key_of k cs))
literal_tells Literal cs said t h e = rw e (record { name = refl; second = refl })
literal_tells Integer cs said t h e = cc
literal_tells Word cs said t h e = cc
literal_tells QWord cs said t h e = cc
literal_tells AnyLocal cs said t h e = cc
literal_tells AnyPrefix cs said t h e = cc
literal_tells Symbol cs said t h e = cc

pub tells : (k : TokenKind) (cs : List ℕ) (t : Token) → Spells k cs t
    → Tells t (is_name k cs) (second_by (key_of k cs))
tells k cs t (literal {said = said} h s e) = literal_tells k cs said t h e
tells Integer cs t (others h e) = digits_tell _ t e
tells Literal cs t (others h e) = cc
tells Word cs t (others h e) = word_tells (key_of_word cs) cs t e
tells QWord cs t (others h e) = qname_tells _ _ t e
tells AnyLocal cs t (others h e) = local_tells _ t e
tells AnyPrefix cs t (others h e) = prefix_tells _ t e
tells Symbol cs t (others h e) = symbol_tells (key_of_symbol cs) t e

brace_key : (k : Key) → fits_key key.OpenBrace (token.Key k) ≡ is_brace (second_key k)
brace_key key.OpenBrace = refl
brace_key key.OpenParen = refl
brace_key key.Colons = refl
brace_key key.Dollar = refl
brace_key _ = refl

brace_token : (t : Token) → fits_key key.OpenBrace t ≡ is_brace (second_token t)
brace_token (token.Key k) = brace_key k
brace_token _ = refl

key_keeps : (k : Key) → is_worded k ≡ true → (change_of_key k ≡ stays) × (before_of_key k ≡ other)
key_keeps key.OpenBrace h = cc
key_keeps key.CloseBrace h = cc
key_keeps key.Slash h = cc
key_keeps _ h = (refl, refl)

-- a name opens and closes nothing
name_keeps : (t : Token) → fits_name t ≡ true → (change_of t ≡ stays) × (before_of t ≡ other)
name_keeps (token.Key k) h = key_keeps k h
name_keeps (token.Name n) h = (refl, refl)
name_keeps (token.Qname p n) h = (refl, refl)
name_keeps _ h = cc

abbrev point : List Context → List ℕ → Point
point s ts = record { contexts = s; before = other; rest = ts }

behind_name : (p q : Point) (t : Token) (rest : List ℕ) → fits_name t ≡ true
    → q ≡ moved p t (change_of t) rest → q ≡ point p.contexts rest
behind_name p q t rest h e = let keeps = name_keeps t h in rw (keeps.0, keeps.1) at e

-- what opens an element is no name, and tells nothing
opened_tells : (k : TokenKind) (cs : List ℕ) → k ≡ Symbol → cs ≡ 60 ∷ []
    → (is_name k cs ≡ false) × (second_by (key_of k cs) ≡ alone)
opened_tells k cs e f = rw (e, f) (refl, refl)

-- whether `{` comes next

abbrev pub Found : List ℕ → List ℕ → TokenKind → List ℕ → Type 0
Found ts rest kind cs = (u : Placed) × TokenAt (size ts) false ts u rest × (u.kind ≡ kind)
    × (u.characters ≡ cs)

brace_read : (p : Point) (u : Placed) (rest : List ℕ) (operand : Bool) (t : Token) (q : Point)
    → IsNext p u rest → Reads operand p t q
    → is_brace (second_by (key_of u.kind u.characters)) ≡ fits_key key.OpenBrace t
brace_read p u rest operand t q n (spelled {u = y} {rest = m} a o s e) =
    let one = next_one p u y rest m n a in
    let here : Spells u.kind u.characters t = rw one.0 s in
    let told = tells u.kind u.characters t here in
    ap is_brace (sym told.second) ∙ sym (brace_token t)
brace_read p u rest operand t q n (opened {u = y} {rest = m} a o s g e) =
    let one = next_one p u y rest m n a in
    let less = opens_less operand p y m a o in
    let told = opened_tells y.kind y.characters less.0 less.1 in
    rw (one.0, told.1, g) refl
brace_read p u rest operand t q n (parted {c = c} {cs = cs} {a = d} k z g e) = absurd
    (outside_elements p c cs d n.inside k z)

brace_split : (p : Point) (u : Placed) (rest : List ℕ) (ts : List Token) → IsNext p u rest
    → Splits p ts → is_brace (second_by (key_of u.kind u.characters)) ≡ open_next ts
brace_split p u rest _ n (over e) = absurd (token_not_over (size p.rest) false p.rest u rest
    n.token e.over)
brace_split p u rest _ n (reads {operand = operand} {behind = q} {t = t} r more) = brace_read p u
    rest operand t q n r

pub brace_found : (s : List Context) (ts rest cs : List ℕ) (kind : TokenKind) (us : List Token)
    (b : Bool) (w : Second) → Found ts rest kind cs → b ≡ is_brace w
    → w ≡ second_by (key_of kind cs) → in_expression s ≡ true → Splits (point s ts) us
    → b ≡ open_next us
brace_found s ts rest cs kind us b w (u, at, k, c) e f i split =
    let next : IsNext (point s ts) u rest = record { inside = i; apart = refl; token = at } in
    let told = brace_split (point s ts) u rest us next split in
    let here : is_brace (second_by (key_of kind cs)) ≡ open_next us = rw (k, c) at told in
    e ∙ ap is_brace f ∙ here

-- nothing is at a place where no token begins, nor at the end

no_read : (p : Point) → ((u : Placed) (rest : List ℕ) → IsNext p u rest → ⊥)
    → in_expression p.contexts ≡ true → (operand : Bool) (t : Token) (q : Point)
    → Reads operand p t q → ⊥
no_read p f i operand t q (spelled {u = y} {rest = m} a o s e) = f y m a
no_read p f i operand t q (opened {u = y} {rest = m} a o s g e) = f y m a
no_read p f i operand t q (parted {c = c} {cs = cs} {a = d} k z g e) = outside_elements p c cs d i
    k z

no_tokens : (p : Point) (ts : List Token) → ((u : Placed) (rest : List ℕ) → IsNext p u rest → ⊥)
    → in_expression p.contexts ≡ true → Splits p ts → ts ≡ []
no_tokens p _ f i (over e) = refl
no_tokens p _ f i (reads {operand = operand} {behind = q} {t = t} r more) = absurd
    (no_read p f i operand t q r)

pub over_alone : (p : Point) (ts : List Token) → IsOver false p.rest
    → in_expression p.contexts ≡ true → Splits p ts → ts ≡ []
over_alone p ts o i split = no_tokens p ts (λ u rest n. token_not_over
    (size p.rest) false p.rest u rest n.token o) i split

pub fault_alone : (p : Point) (ts : List Token) (place : ℕ)
    → FaultAt (size p.rest) false p.rest place → in_expression p.contexts ≡ true → Splits p ts
    → ts ≡ []
fault_alone p ts place o i split = no_tokens p ts (λ u rest n. fault_no_token
    (size p.rest) false p.rest place u rest o n.token) i split

pub no_brace_over : (s : List Context) (ts : List ℕ) (us : List Token) → IsOver false ts
    → in_expression s ≡ true → Splits (point s ts) us → false ≡ open_next us
no_brace_over s ts us o i split = rw (over_alone (point s ts) us o i split) refl

pub no_brace_fault : (s : List Context) (ts : List ℕ) (us : List Token) (place : ℕ)
    → FaultAt (size ts) false ts place → in_expression s ≡ true → Splits (point s ts) us
    → false ≡ open_next us
no_brace_fault s ts us place o i split = rw (fault_alone (point s ts) us place o i split) refl

-- what the next tokens tell

named_read : (p : Point) (u : Placed) (rest : List ℕ) (operand next : Bool) (t : Token)
    (q : Point) (us : List Token) → IsNext p u rest → is_name u.kind u.characters ≡ true
    → ((s : List Context) (ts : List Token) → in_expression s ≡ true → Splits (point s rest) ts
    → next ≡ open_next ts)
    → Reads operand p t q → Splits q us
    → (fits_name t ≡ true) × (next ≡ open_next us)
    × (second_by (key_of u.kind u.characters) ≡ second_token t)
named_read p u rest operand next t q us n h f (spelled {u = y} {rest = m} a o s e) split =
    let one = next_one p u y rest m n a in
    let here : Spells u.kind u.characters t = rw one.0 s in
    let told = tells u.kind u.characters t here in
    let name : fits_name t ≡ true = told.name ∙ h in
    let behind : q ≡ point p.contexts m = behind_name p q t m name e in
    let same : q ≡ point p.contexts rest = behind ∙ ap (point p.contexts) (sym one.1) in
    let there : Splits (point p.contexts rest) us = rw same at split in
    (name, f p.contexts us n.inside there, sym told.second)
named_read p u rest operand next t q us n h f (opened {u = y} {rest = m} a o s g e) split =
    let one = next_one p u y rest m n a in
    let less = opens_less operand p y m a o in
    let told = opened_tells y.kind y.characters less.0 less.1 in
    let name : is_name y.kind y.characters ≡ true = rw one.0 at h in absurd (no name told.0)
named_read p u rest operand next t q us n h f (parted {c = c} {cs = cs} {a = d} k z g e) split =
    absurd (outside_elements p c cs d n.inside k z)

pub named_brace : (p : Point) (u : Placed) (rest : List ℕ) (ts : List Token) → IsNext p u rest
    → is_name u.kind u.characters ≡ true → ((s : List Context) (ts : List Token)
    → in_expression s ≡ true → Splits (point s rest) ts → true ≡ open_next ts)
    → Splits p ts → before_named ≡ second_of ts
named_brace p u rest _ n h f (over e) = absurd (token_not_over
    (size p.rest) false p.rest u rest n.token e.over)
named_brace p u rest _ n h f (reads {operand = operand} {behind = q} {t = t} {ts = us} r more) =
    let all = named_read p u rest operand true t q us n h f r more in rw (all.0, ← all.1) refl

pub named_alone : (p : Point) (u : Placed) (rest : List ℕ) (ts : List Token) → IsNext p u rest
    → is_name u.kind u.characters ≡ true → ((s : List Context) (ts : List Token)
    → in_expression s ≡ true → Splits (point s rest) ts → false ≡ open_next ts)
    → Splits p ts → second_by (key_of u.kind u.characters) ≡ second_of ts
named_alone p u rest _ n h f (over e) = absurd (token_not_over
    (size p.rest) false p.rest u rest n.token e.over)
named_alone p u rest _ n h f (reads {operand = operand} {behind = q} {t = t} {ts = us} r more) =
    let all = named_read p u rest operand false t q us n h f r more in rw (all.0, ← all.1) all.2

other_read : (p : Point) (u : Placed) (rest : List ℕ) (operand : Bool) (t : Token) (q : Point)
    → IsNext p u rest → is_name u.kind u.characters ≡ false → Reads operand p t q
    → (fits_name t ≡ false) × (second_by (key_of u.kind u.characters) ≡ second_token t)
other_read p u rest operand t q n h (spelled {u = y} {rest = m} a o s e) =
    let one = next_one p u y rest m n a in
    let here : Spells u.kind u.characters t = rw one.0 s in
    let told = tells u.kind u.characters t here in (told.name ∙ h, sym told.second)
other_read p u rest operand t q n h (opened {u = y} {rest = m} a o s g e) =
    let one = next_one p u y rest m n a in
    let less = opens_less operand p y m a o in
    let told = opened_tells y.kind y.characters less.0 less.1 in
    let second : second_by (key_of u.kind u.characters) ≡ alone = rw one.0 told.1 in
    rw g (refl, second)
other_read p u rest operand t q n h (parted {c = c} {cs = cs} {a = d} k z g e) = absurd
    (outside_elements p c cs d n.inside k z)

pub other_alone : (p : Point) (u : Placed) (rest : List ℕ) (ts : List Token) → IsNext p u rest
    → is_name u.kind u.characters ≡ false → Splits p ts
    → second_by (key_of u.kind u.characters) ≡ second_of ts
other_alone p u rest _ n h (over e) = absurd (token_not_over (size p.rest) false p.rest u rest
    n.token e.over)
other_alone p u rest _ n h (reads {operand = operand} {behind = q} {t = t} r more) =
    let all = other_read p u rest operand t q n h r in rw all.0 all.1

-- .. in the terms of the code

pub named_second : (p : Point) (u : Placed) (rest : List ℕ) (ts : List Token) (kind : TokenKind)
    (cs : List ℕ) (next : Bool) → IsNext p u rest → u.kind ≡ kind → u.characters ≡ cs
    → is_name kind cs ≡ true
    → ((s : List Context) (ts : List Token) → in_expression s ≡ true → Splits (point s rest) ts
    → next ≡ open_next ts) → next ≡ true → Splits p ts → before_named ≡ second_of ts
named_second p u rest ts kind cs next n k e h f b split = named_brace p u rest ts n (rw (k, e) h)
    (λ s us i x. sym b ∙ f s us i x) split

pub named_plain : (p : Point) (u : Placed) (rest : List ℕ) (ts : List Token) (kind : TokenKind)
    (cs : List ℕ) (next : Bool) → IsNext p u rest → u.kind ≡ kind → u.characters ≡ cs
    → is_name kind cs ≡ true
    → ((s : List Context) (ts : List Token) → in_expression s ≡ true → Splits (point s rest) ts
    → next ≡ open_next ts) → next ≡ false → Splits p ts
    → second_by (key_of kind cs) ≡ second_of ts
named_plain p u rest ts kind cs next n k e h f b split =
    let told = named_alone p u rest ts n (rw (k, e) h) (λ s us i x. sym b
    ∙ f s us i x) split in rw (k, e) at told

pub other_second : (p : Point) (u : Placed) (rest : List ℕ) (ts : List Token) (kind : TokenKind)
    (cs : List ℕ) → IsNext p u rest → u.kind ≡ kind → u.characters ≡ cs → is_name kind cs ≡ false
    → Splits p ts → second_by (key_of kind cs) ≡ second_of ts
other_second p u rest ts kind cs n k e h split = let told = other_alone p u rest ts n (rw
    (k, e) h) split in rw (k, e) at told
