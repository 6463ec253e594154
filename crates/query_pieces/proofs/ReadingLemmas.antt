-- At a point one token or piece is read.
use Rattle.std.proofs.Common.{◌≡◌, ◌⊎◌, inl, inr, ℕ, List, [], ◌∷◌, Bool, true, false, ◌&&◌}
use Rattle.std.proofs.Common.{Option, Some, None, refl, sym, ap, ◌∙◌}
use Rattle.std.proofs.lemmas.Bool.{and_parts}
use Rattle.std.proofs.lemmas.Slice.Eq.{bytes_eq-Decides}
use Rattle.std.specs.Prelude.{codes}
use Rattle.std.specs.Str.{bytes_eq}
use Rattle.xpath_lex.specs.Classes.{is_single}
use Rattle.xpath_lex.specs.Tokens.{Begins, Longest}
use Rattle.xpath_lex.specs.Tokens as lex
use Rattle.xpath_lex.proofs.KindLemmas.{longest_one}
use Rattle.xpath_lex.specs.declared.lexing.TokenKind.TheVariants.{Symbol}
use Rattle.expr_keys.specs.declared.keys.Key.TheVariants as key
use Rattle.expr_tokens.specs.Terms.{term_of}
use Rattle.xpath_lex.specs.Readings.{Placed, size}
use Rattle.xpath_lex.proofs.ReadingLemmas.{token_one, token_not_over}
use Rattle.xpath_lex.specs.declared.lexing.TokenKind.{TokenKind}
use Rattle.expr_keys.specs.declared.tokens.Token.{Token}
use Rattle.expr_keys.specs.declared.tokens.Token.TheVariants as token
use Rattle.query_pieces.specs.Points.{Context, enclosed, tag, attribute, content, Before, integer}
use Rattle.query_pieces.specs.Points.{slash_key, other, enters, Point, is_enclosed, in_expression}
use Rattle.query_pieces.specs.Points.{change_of, moved}
use Rattle.query_pieces.specs.Fronts.{begins, NameAt, name_at}
use Rattle.query_pieces.specs.Literals.{is_said, Says, over, itself, reference, line, return}
use Rattle.query_pieces.specs.Spellings.{is_literal, Spells, literal, others}
use Rattle.query_pieces.specs.Elements.{Piece, piece_at}
use Rattle.query_pieces.specs.Readings.{may_open, opens, IsNext, Reads, spelled, opened, parted}
use Rattle.query_pieces.specs.Readings.{IsEnd}
use Rattle.xt_names.specs.Characters.{starts_name}
use Rattle.xt_names.proofs.BoolLemmas.{no}

abbrev first_of : Option (ℕ × List ℕ) → ℕ
first_of None = 0
first_of (Some r) = r.0

abbrev rest_of : Option (ℕ × List ℕ) → List ℕ
rest_of None = []
rest_of (Some r) = r.1

says_one : (ts xs ys : List ℕ) → Says ts xs → Says ts ys → xs ≡ ys
unfolding is_said
says_one _ _ _ over over = refl
says_one _ _ _ (itself {c = c} h s) (itself g r) = ap (λ v. c ∷ v) (says_one _ _ _ s r)
says_one _ _ _ (itself h s) (reference e r) = cc
says_one _ _ _ (itself h s) (line r) = cc
says_one _ _ _ (itself h s) (return n r) = cc
says_one _ _ _ (reference e s) (itself h r) = cc
says_one _ _ _ (reference {c = c} {rest = x} {said = xs} e s)
    (reference {c = d} {rest = y} {said = ys} f r) =
    let same = sym e ∙ f in
    let left : x ≡ y = ap rest_of same in
    let char : c ≡ d = ap first_of same in
    let more : xs ≡ ys = says_one x xs ys s (rw left r) in
    cc
says_one _ _ _ (line s) (itself h r) = cc
says_one _ _ _ (line s) (line r) = ap (λ v. 10 ∷ v) (says_one _ _ _ s r)
says_one _ _ _ (line {ts = ts} s) (return n r) = absurd (n ts refl)
says_one _ _ _ (return n s) (itself h r) = cc
says_one _ _ _ (return n s) (line {ts = ts} r) = absurd (n ts refl)
says_one _ _ _ (return n s) (return m r) = ap (λ v. 10 ∷ v) (says_one _ _ _ s r)

spells_one : (k : TokenKind) (cs : List ℕ) (t u : Token) → Spells k cs t → Spells k cs u → t ≡ u
spells_one k cs t u (literal h s e) (literal g r f) = e ∙ ap token.Quoted (says_one _ _ _ s r)
    ∙ sym f
spells_one k cs t u (literal h s e) (others g f) = no h g
spells_one k cs t u (others h e) (literal g r f) = no g h
spells_one k cs t u (others h e) (others g f) = let same : Some t ≡ Some u = sym e ∙ f in cc

-- no piece of a direct element is between tokens of expressions
no_piece : (c : Context) (ts : List ℕ) (a : Piece) → is_enclosed c ≡ true
    → piece_at c ts ≡ Some a → ⊥
no_piece enclosed ts a h e = cc
no_piece tag ts a h e = cc
no_piece (attribute q) ts a h e = cc
no_piece content ts a h e = cc

pub outside_elements : (p : Point) (c : Context) (cs : List Context) (a : Piece)
    → in_expression p.contexts ≡ true → p.contexts ≡ c ∷ cs → piece_at c p.rest ≡ Some a → ⊥
outside_elements p c cs a h e f = let inside : is_enclosed c ≡ true = rw e at h in no_piece c
    p.rest a inside f

pub next_one : (p : Point) (u v : Placed) (x y : List ℕ) → IsNext p u x → IsNext p v y
    → (u ≡ v) × (x ≡ y)
next_one p u v x y a b = token_one (size p.rest) false p.rest u v x y a.token b.token

pub same_opens : (operand : Bool) (p : Point) (u v : Placed) (x y : List ℕ) → IsNext p u x
    → IsNext p v y → opens operand p.before u.characters x ≡ true
    → opens operand p.before v.characters y ≡ false → ⊥
same_opens operand p u v x y a b h g =
    let one = next_one p u v x y a b in
    let at : opens operand p.before v.characters y ≡ true = rw (one.0, one.1) at h in no at g

spelled_same : (p : Point) (t u : Token) (q r : Point) (x y : Placed) (m n : List ℕ)
    → IsNext p x m → IsNext p y n → Spells x.kind x.characters t → Spells y.kind y.characters u
    → q ≡ moved p t (change_of t) m → r ≡ moved p u (change_of u) n → (t ≡ u) × (q ≡ r)
spelled_same p t u q r x y m n a b s z e f =
    let one = next_one p x y m n a b in
    let other_one : Spells x.kind x.characters u = rw one.0 z in
    let same = spells_one x.kind x.characters t u s other_one in (
      same,
      e ∙ ap (λ v. moved p v (change_of v) m) same
          ∙ ap (λ v. moved p u (change_of u) v) one.1 ∙ sym f,
    )

opened_same : (p : Point) (t u : Token) (q r : Point) (x y : Placed) (m n : List ℕ)
    (v w : NameAt) → IsNext p x m → IsNext p y n → name_at m ≡ Some v → name_at n ≡ Some w
    → t ≡ token.StartTagOpen v.prefix v.local → u ≡ token.StartTagOpen w.prefix w.local
    → q ≡ moved p t (enters tag) v.rest → r ≡ moved p u (enters tag) w.rest → (t ≡ u) × (q ≡ r)
opened_same p t u q r x y m n v w a b s z g h e f =
    let one = next_one p x y m n a b in
    let names : Some v ≡ Some w = sym s ∙ ap name_at one.1 ∙ z in
    let name : v ≡ w = cc in
    let same : t ≡ u = g ∙ ap (λ (i : NameAt). token.StartTagOpen i.prefix i.local) name ∙ sym h in (
      same,
      e ∙ ap (λ i. moved p i (enters tag) v.rest) same
          ∙ ap (λ (i : NameAt). moved p u (enters tag) i.rest) name ∙ sym f,
    )

parted_same : (p : Point) (t u : Token) (q r : Point) (c i : Context) (cs is : List Context)
    (d j : Piece) → p.contexts ≡ c ∷ cs → p.contexts ≡ i ∷ is → piece_at c p.rest ≡ Some d
    → piece_at i p.rest ≡ Some j → t ≡ d.token → u ≡ j.token
    → q ≡ moved p t d.change d.rest → r ≡ moved p u j.change j.rest → (t ≡ u) × (q ≡ r)
parted_same p t u q r c i cs is d j k l z y g h e f =
    let all : c ∷ cs ≡ i ∷ is = sym k ∙ l in
    let top : c ≡ i = cc in
    let pieces : Some d ≡ Some j = sym z ∙ ap (λ v. piece_at v p.rest) top ∙ y in
    let piece : d ≡ j = cc in
    let same : t ≡ u = g ∙ ap (λ (v : Piece). v.token) piece ∙ sym h in (
      same,
      e ∙ ap (λ v. moved p v d.change d.rest) same
          ∙ ap (λ (v : Piece). moved p u v.change v.rest) piece ∙ sym f,
    )

pub reads_one : (operand : Bool) (p : Point) (t u : Token) (q r : Point) → Reads operand p t q
    → Reads operand p u r → (t ≡ u) × (q ≡ r)
reads_one operand p t u q r (spelled {u = x} {rest = m} a o s e)
    (spelled {u = y} {rest = n} b k z f) = spelled_same p t u q r x y m n a b s z e f
reads_one operand p t u q r (spelled {u = x} {rest = m} a o s e)
    (opened {u = y} {rest = n} b k z g f) = absurd (same_opens operand p y x n m b a k o)
reads_one operand p t u q r (spelled a o s e) (parted {c = c} {cs = cs} {a = d} k z g f) = absurd
    (outside_elements p c cs d a.inside k z)
reads_one operand p t u q r (opened {u = x} {rest = m} a o s g e)
    (spelled {u = y} {rest = n} b k z f) = absurd (same_opens operand p x y m n a b o k)
reads_one operand p t u q r (opened {u = x} {rest = m} {n = v} a o s g e)
    (opened {u = y} {rest = n} {n = w} b k z h f) = opened_same p t u q r x y m n v w a b s z g h e
    f
reads_one operand p t u q r (opened a o s g e) (parted {c = c} {cs = cs} {a = d} k z h f) = absurd
    (outside_elements p c cs d a.inside k z)
reads_one operand p t u q r (parted {c = c} {cs = cs} {a = d} k z g e) (spelled a o s f) = absurd
    (outside_elements p c cs d a.inside k z)
reads_one operand p t u q r (parted {c = c} {cs = cs} {a = d} k z g e) (opened a o s h f) = absurd
    (outside_elements p c cs d a.inside k z)
reads_one operand p t u q r (parted {c = c} {cs = cs} {a = d} k z g e)
    (parted {c = i} {cs = is} {a = j} l y h f) = parted_same p t u q r c i cs is d j k l z y g h e
    f

pub reads_ends : (operand : Bool) (p : Point) (t : Token) (q : Point) → Reads operand p t q
    → IsEnd p → ⊥
reads_ends operand p t q (spelled {u = x} {rest = m} a o s e) end = token_not_over
    (size p.rest) false p.rest x m a.token end.over
reads_ends operand p t q (opened {u = x} {rest = m} a o s g e) end = token_not_over
    (size p.rest) false p.rest x m a.token end.over
reads_ends operand p t q (parted {c = c} {cs = cs} k z g e) end = let all : [] ≡ c ∷ cs = sym
    end.outermost ∙ k in cc

-- the symbol `<`

pub is_symbol : (b : Bool) (ts run rest : List ℕ) (k : TokenKind) → Longest b ts k run rest
    → run ≡ 60 ∷ [] → k ≡ Symbol
unfolding is_single
is_symbol b ts run rest k l e =
    let whole : Longest b ts k (60 ∷ []) rest = rw e at l in
    let begun : Begins b ts Symbol (60 ∷ []) rest = record {
      allowed = whole.begins.allowed;
      is_token = lex.single refl;
      parts = whole.begins.parts;
    } in
    let other_one : Longest b ts Symbol (60 ∷ []) rest = record {
      begins = begun;
      longest =
          whole.longest;
    } in
    (longest_one b ts k Symbol (60 ∷ []) (60 ∷ []) rest rest whole other_one).0

-- what opens is that symbol
pub opens_less : (operand : Bool) (p : Point) (u : Placed) (rest : List ℕ) → IsNext p u rest
    → opens operand p.before u.characters rest ≡ true
    → (u.kind ≡ Symbol) × (u.characters ≡ 60 ∷ [])
opens_less operand p u rest n h =
    let parts = and_parts (may_open operand p.before) _ h in
    let text = and_parts (bytes_eq u.characters (codes "<")) _ parts.1 in
    let less : u.characters ≡ 60 ∷ [] = (bytes_eq-Decides u.characters (60 ∷ [])).0 text.0 in
    (is_symbol n.token.after n.token.here u.characters rest u.kind n.token.longest less, less)

less_spelled : (k : TokenKind) (cs : List ℕ) (u : Token) → k ≡ Symbol → cs ≡ 60 ∷ []
    → Spells k cs u → u ≡ token.Key key.Less
less_spelled k cs u e f (literal h s g) = let none : is_literal Symbol ≡ true = rw e at h in cc
less_spelled k cs u e f (others h g) =
    let same : term_of Symbol (60 ∷ []) ≡ Some u = rw (e, f) at g in
    let here : Some (token.Key key.Less) ≡ Some u = same in cc

slash_opens : (b : Before) → may_open false b ≡ true → may_open true b ≡ true
slash_opens integer h = refl
slash_opens slash_key h = refl
slash_opens other h = refl

more_open : (b : Before) (cs rest : List ℕ) → opens false b cs rest ≡ true
    → opens true b cs rest ≡ true
more_open b cs rest h =
    let parts = and_parts (may_open false b) (bytes_eq cs (codes "<") && begins starts_name rest) h
    in
    rw (slash_opens b parts.0, parts.1) refl

pub reads_modes : (p : Point) (t u : Token) (q r : Point) → Reads true p t q → Reads false p u r
    → ((t ≡ u) × (q ≡ r)) ⊎ ((prefix local : List ℕ) × (t ≡ token.StartTagOpen prefix local)
    × (u ≡ token.Key key.Less))
reads_modes p t u q r (spelled {u = x} {rest = m} a o s e) (spelled {u = y} {rest = n} b k z f) =
    inl (spelled_same p t u q r x y m n a b s z e f)
reads_modes p t u q r (spelled {u = x} {rest = m} a o s e) (opened {u = y} {rest = n} b k z g f) =
    let more : opens true p.before y.characters n ≡ true = more_open p.before y.characters n k in
    absurd (same_opens true p y x n m b a more o)
reads_modes p t u q r (spelled a o s e) (parted {c = c} {cs = cs} {a = d} k z g f) = absurd
    (outside_elements p c cs d a.inside k z)
reads_modes p t u q r (opened {u = x} {rest = m} {n = v} a o s g e)
    (spelled {u = y} {rest = n} b k z f) =
    let one = next_one p x y m n a b in
    let less = opens_less true p x m a o in
    let here : Spells x.kind x.characters u = rw one.0 z in
    inr (v.prefix, v.local, g, less_spelled x.kind x.characters u less.0 less.1 here)
reads_modes p t u q r (opened {u = x} {rest = m} {n = v} a o s g e)
    (opened {u = y} {rest = n} {n = w} b k z h f) = inl (opened_same p t u q r x y m n v w a b s z
    g h e f)
reads_modes p t u q r (opened a o s g e) (parted {c = c} {cs = cs} {a = d} k z h f) = absurd
    (outside_elements p c cs d a.inside k z)
reads_modes p t u q r (parted {c = c} {cs = cs} {a = d} k z g e) (spelled a o s f) = absurd
    (outside_elements p c cs d a.inside k z)
reads_modes p t u q r (parted {c = c} {cs = cs} {a = d} k z g e) (opened a o s h f) = absurd
    (outside_elements p c cs d a.inside k z)
reads_modes p t u q r (parted {c = c} {cs = cs} {a = d} k z g e)
    (parted {c = i} {cs = is} {a = j} l y h f) = inl (parted_same p t u q r c i cs is d j k l z y g
    h e f)
