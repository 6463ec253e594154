-- What may come next is what the list has.
use Rattle.std.proofs.Common.{◌≡◌, ℕ, List, [], ◌∷◌, ◌++◌, Bool, true, false, ◌&&◌, if◌then◌else◌}
use Rattle.std.proofs.Common.{Option, Some, None, option_map, refl, sym, ap, subst, ◌∙◌}
use Rattle.std.proofs.lemmas.Bool.{and_parts}
use Rattle.std.proofs.lemmas.Option.{none-some, same_Some}
use Rattle.std.specs.Prelude.{codes}
use Rattle.std.specs.Str.{bytes_eq}
use Rattle.xpath_lex.specs.declared.lexing.TokenKind.{TokenKind}
use Rattle.xpath_lex.specs.Readings.{Placed}
use Rattle.expr_keys.specs.declared.tokens.Token.{Token}
use Rattle.expr_keys.specs.declared.tokens.Token.TheVariants as token
use Rattle.expr_tokens.specs.Literals.{unquoted}
use Rattle.expr_tokens.specs.Terms.{Written, term_of}
use Rattle.expr_tokens.specs.TextTokens.Lexed.{unplaced}
use Rattle.query_pieces.specs.declared.contexts.Context.{Context}
use Rattle.query_pieces.specs.declared.contexts.Context.TheVariants.{Enclosed as enclosed}
use Rattle.query_pieces.specs.declared.contexts.Context.TheVariants.{Tag as tag}
use Rattle.query_pieces.specs.declared.contexts.Context.TheVariants.{Attribute as attribute}
use Rattle.query_pieces.specs.declared.contexts.Context.TheVariants.{Content as content}
use Rattle.query_pieces.specs.declared.contexts.Before.{Before}
use Rattle.query_pieces.specs.declared.contexts.Before.TheVariants.{Integer as integer}
use Rattle.query_pieces.specs.declared.contexts.Before.TheVariants.{Slash as slash_key}
use Rattle.query_pieces.specs.declared.contexts.Before.TheVariants.{Other as other}
use Rattle.query_pieces.specs.declared.contexts.Change.TheVariants.{Enters as enters}
use Rattle.query_pieces.specs.Points.{Point, is_enclosed, in_expression, change_of, moved}
use Rattle.query_pieces.specs.Fronts.{begins, NameAt, name_at}
use Rattle.query_pieces.specs.Spellings.{is_literal, Spells, literal, others}
use Rattle.query_pieces.specs.Elements.{Piece, piece_at}
use Rattle.query_pieces.specs.Readings.{touches, may_open, opens, IsNext, Reads, spelled, opened}
use Rattle.query_pieces.specs.Readings.{parted, IsEnd}
use Rattle.query_readings.specs.QueryPartings.Said.{said_of}
use Rattle.query_readings.specs.QueryPartings.Nexts.{is_nil, is_over, is_end, token_at, Next, spelled_of}
use Rattle.query_readings.specs.QueryPartings.Nexts.{as_token, spelled_next, front_next, operator_next, read_next}
use Rattle.query_readings.specs.QueryPartings.Nexts.{tokens_next, expression_next, piece_next, next_in, next_at}
use Rattle.query_readings.proofs.QueryPartings.AmongLemmas.{Among, first, later, there, left, right, Side, before}
use Rattle.query_readings.proofs.QueryPartings.AmongLemmas.{behind, side}
use Rattle.query_readings.proofs.QueryPartings.SaidLemmas.{says_so, so_says}
use Rattle.query_readings.proofs.QueryPartings.TokenLemmas.{there_given, given_there, over_told, told_over}
use Rattle.xt_names.specs.Characters.{starts_name}
use Rattle.xt_names.proofs.BoolLemmas.{no}

-- the token that is spelled
spelled_told : (kind : TokenKind) (cs : List ℕ) (t : Token) → Spells kind cs t
    → spelled_of kind cs ≡ Some t
spelled_told kind cs t (literal {said = said} h s e) =
    rw (h, says_so (unquoted cs) said s) (ap Some (sym e))
spelled_told kind cs t (others h e) = rw h e

as_literal : (kind : TokenKind) (cs : List ℕ) (t : Token) (o : Option (List ℕ))
    → is_literal kind ≡ true → said_of (unquoted cs) ≡ o → option_map token.Quoted o ≡ Some t
    → Spells kind cs t
as_literal kind cs t None h e f = absurd (none-some t f)
as_literal kind cs t (Some said) h e f =
    literal h (so_says (unquoted cs) said e) (sym (same_Some _ _ f))

told_by : (kind : TokenKind) (cs : List ℕ) (t : Token) (b : Bool) → is_literal kind ≡ b
    → (if b then option_map token.Quoted (said_of (unquoted cs)) else term_of kind cs) ≡ Some t
    → Spells kind cs t
told_by kind cs t true h e = as_literal kind cs t (said_of (unquoted cs)) h refl e
told_by kind cs t false h e = others h e

told_spelled : (kind : TokenKind) (cs : List ℕ) (t : Token) → spelled_of kind cs ≡ Some t
    → Spells kind cs t
told_spelled kind cs t e = told_by kind cs t (is_literal kind) refl e

-- where an operand may stand
slash_open : (b : Bool) (x : Before) → may_open b x ≡ true → may_open true x ≡ true
slash_open b integer h = refl
slash_open b slash_key h = refl
slash_open b other h = refl

more_open : (b : Bool) (x : Before) (cs rest : List ℕ) → opens b x cs rest ≡ true
    → opens true x cs rest ≡ true
more_open b x cs rest h =
    let parts = and_parts (may_open b x) (bytes_eq cs (codes "<") && begins starts_name rest) h in
    rw (slash_open b x parts.0, parts.1) refl

operator_alone : (b : Bool) (x : Before) (cs rest : List ℕ) → opens b x cs rest ≡ false
    → opens true x cs rest ≡ true → opens false x cs rest ≡ false
operator_alone true x cs rest h e = no e h
operator_alone false x cs rest h e = h

-- tokens of expressions
abbrev next_to : Token → Point → Next
next_to t q = (t, q)

spelled_among : (p q : Point) (t : Token) (w : Written) (rest : List ℕ)
    → Spells w.kind w.characters t → q ≡ moved p t (change_of t) rest
    → Among (next_to t q) (spelled_next p w rest)
spelled_among p q t w rest s e =
    let told = spelled_told w.kind w.characters t s in
    let one : Among (next_to t q) (as_token p rest (Some t)) =
    there (next_to t q) (next_to t (moved p t (change_of t) rest)) (ap (next_to t) e) in
    subst (λ z. Among (next_to t q) (as_token p rest z)) (sym told) one

front_among : (p q : Point) (t : Token) (rest : List ℕ) (n : NameAt) → name_at rest ≡ Some n
    → t ≡ token.StartTagOpen n.prefix n.local → q ≡ moved p t (enters tag) n.rest
    → Among (next_to t q) (front_next p (name_at rest))
front_among p q t rest n g e f =
    let u = token.StartTagOpen n.prefix n.local in
    let behind : q ≡ moved p u (enters tag) n.rest =
    f ∙ ap (λ z. moved p z (enters tag) n.rest) e in
    let one : Among (next_to t q) (front_next p (Some n)) =
    there (next_to t q) (next_to u (moved p u (enters tag) n.rest))
    (ap (λ z. next_to z q) e ∙ ap (next_to u) behind) in
    subst (λ z. Among (next_to t q) (front_next p z)) (sym g) one

abbrev read_by : Point → Written → List ℕ → Bool → List Next
read_by p w rest b =
    if b then front_next p (name_at rest) ++ operator_next p w rest else spelled_next p w rest

operator_among : (p q : Point) (t : Token) (w : Written) (rest : List ℕ)
    → opens false p.before w.characters rest ≡ false → Among (next_to t q) (spelled_next p w rest)
    → Among (next_to t q) (operator_next p w rest)
operator_among p q t w rest h a =
    subst (λ (b : Bool). Among (next_to t q) (if b then [] else spelled_next p w rest)) (sym h) a

spelled_read : (b : Bool) (p q : Point) (t : Token) (w : Written) (rest : List ℕ)
    → opens b p.before w.characters rest ≡ false → Among (next_to t q) (spelled_next p w rest)
    → (o : Bool) → opens true p.before w.characters rest ≡ o
    → Among (next_to t q) (read_by p w rest o)
spelled_read b p q t w rest h a true e =
    right (front_next p (name_at rest)) (operator_among p q t w rest
    (operator_alone b p.before w.characters rest h e) a)
spelled_read b p q t w rest h a false e = a

opened_read : (b : Bool) (p q : Point) (t : Token) (w : Written) (rest : List ℕ)
    → opens b p.before w.characters rest ≡ true
    → Among (next_to t q) (front_next p (name_at rest)) → Among (next_to t q) (read_next p w rest)
opened_read b p q t w rest h a =
    let e = more_open b p.before w.characters rest h in
    subst (λ o. Among (next_to t q) (read_by p w rest o)) (sym e)
    (left (operator_next p w rest) a)

-- where tokens of expressions stand
expression_in : (p : Point) (cs : List Context) (x : Next) → in_expression cs ≡ true
    → Among x (expression_next p) → Among x (next_in p cs)
expression_in p [] x h a = a
expression_in p (c ∷ cs) x h a =
    subst (λ (b : Bool). Among x (if b then expression_next p else piece_next p (piece_at c p.rest)))
    (sym h) a

read_here : (p : Point) (x : Next) (u : Placed) (rest : List ℕ) → IsNext p u rest
    → Among x (read_next p (unplaced u) rest) → Among x (next_at p)
read_here p x u rest n a =
    let given = there_given p.rest rest u n.token in
    let tokens : Among x (tokens_next p (token_at p.rest)) =
    subst (λ o. Among x (tokens_next p o)) (sym given) a in
    let apart : Among x (expression_next p) =
    subst (λ (b : Bool). Among x (if b then [] else tokens_next p (token_at p.rest)))
    (sym n.apart) tokens in
    expression_in p p.contexts x n.inside apart

-- pieces
no_piece : (c : Context) (ts : List ℕ) (a : Piece) → piece_at c ts ≡ Some a
    → is_enclosed c ≡ false
no_piece enclosed ts a e = absurd (none-some a e)
no_piece tag ts a e = refl
no_piece (attribute q) ts a e = refl
no_piece content ts a e = refl

piece_among : (p q : Point) (t : Token) (c : Context) (cs : List Context) (a : Piece)
    → piece_at c p.rest ≡ Some a → t ≡ a.token → q ≡ moved p t a.change a.rest
    → Among (next_to t q) (next_in p (c ∷ cs))
piece_among p q t c cs a g e f =
    let outside = no_piece c p.rest a g in
    let behind : q ≡ moved p a.token a.change a.rest =
    f ∙ ap (λ z. moved p z a.change a.rest) e in
    let one : Among (next_to t q) (piece_next p (Some a)) =
    there (next_to t q) (next_to a.token (moved p a.token a.change a.rest))
    (ap (λ z. next_to z q) e ∙ ap (next_to a.token) behind) in
    let here : Among (next_to t q) (piece_next p (piece_at c p.rest)) =
    subst (λ z. Among (next_to t q) (piece_next p z)) (sym g) one in
    subst (λ (b : Bool). Among (next_to t q)
    (if b then expression_next p else piece_next p (piece_at c p.rest))) (sym outside) here

pub reads_among : (b : Bool) (p q : Point) (t : Token) → Reads b p t q
    → Among (next_to t q) (next_at p)
reads_among b p q t (spelled {u = u} {rest = rest} n o s e) =
    let a = spelled_among p q t (unplaced u) rest s e in
    read_here p (next_to t q) u rest n
    (spelled_read b p q t (unplaced u) rest o a (opens true p.before u.characters rest) refl)
reads_among b p q t (opened {u = u} {rest = rest} {n = name} n o g e f) =
    read_here p (next_to t q) u rest n
    (opened_read b p q t (unplaced u) rest o (front_among p q t rest name g e f))
reads_among b p q t (parted {c = c} {cs = cs} {a = a} k g e f) =
    subst (λ z. Among (next_to t q) (next_in p z)) (sym k) (piece_among p q t c cs a g e f)

-- .. and back
pub record IsRead (p : Point) (x : Next) : Type 0 where
  pub operand : Bool
  pub reads : Reads operand p x.0 x.1

none_here : {P : Type 0} {x : Next} → Among x [] → P
none_here a = elim a [ ]

only : {x y : Next} → Among x (y ∷ []) → x ≡ y
only first = refl
only (later a) = none_here a

read_as : (p : Point) (x y : Next) → x ≡ y → IsRead p y → IsRead p x
read_as p x y e r = subst (IsRead p) (sym e) r

token_read : (b : Bool) (p : Point) (x : Next) (u : Placed) (rest : List ℕ) (o : Option Token)
    → IsNext p u rest → opens b p.before u.characters rest ≡ false
    → spelled_of u.kind u.characters ≡ o → Among x (as_token p rest o) → IsRead p x
token_read b p x u rest None n h e a = none_here a
token_read b p x u rest (Some t) n h e a =
    read_as p x (next_to t (moved p t (change_of t) rest)) (only a)
    (record { operand = b; reads = spelled n h (told_spelled u.kind u.characters t e) refl })

front_read : (p : Point) (x : Next) (u : Placed) (rest : List ℕ) (o : Option NameAt)
    → IsNext p u rest → opens true p.before u.characters rest ≡ true → name_at rest ≡ o
    → Among x (front_next p o) → IsRead p x
front_read p x u rest None n h e a = none_here a
front_read p x u rest (Some m) n h e a =
    read_as p x (next_to (token.StartTagOpen m.prefix m.local)
    (moved p (token.StartTagOpen m.prefix m.local) (enters tag) m.rest)) (only a)
    (record { operand = true; reads = opened n h e refl refl })

operator_read : (p : Point) (x : Next) (u : Placed) (rest : List ℕ) (b : Bool) → IsNext p u rest
    → opens false p.before u.characters rest ≡ b
    → Among x (if b then [] else spelled_next p (unplaced u) rest) → IsRead p x
operator_read p x u rest true n h a = none_here a
operator_read p x u rest false n h a =
    token_read false p x u rest (spelled_of u.kind u.characters) n h refl a

less_read : (p : Point) (x : Next) (u : Placed) (rest : List ℕ) → IsNext p u rest
    → opens true p.before u.characters rest ≡ true
    → Side x (front_next p (name_at rest)) (operator_next p (unplaced u) rest) → IsRead p x
less_read p x u rest n h (before a) = front_read p x u rest (name_at rest) n h refl a
less_read p x u rest n h (behind a) =
    operator_read p x u rest (opens false p.before u.characters rest) n refl a

read_read : (p : Point) (x : Next) (u : Placed) (rest : List ℕ) (b : Bool) → IsNext p u rest
    → opens true p.before u.characters rest ≡ b → Among x (read_by p (unplaced u) rest b)
    → IsRead p x
read_read p x u rest true n h a = less_read p x u rest n h (side (front_next p (name_at rest)) a)
read_read p x u rest false n h a =
    token_read true p x u rest (spelled_of u.kind u.characters) n h refl a

tokens_read : (p : Point) (x : Next) (o : Option (Written × List ℕ))
    → in_expression p.contexts ≡ true → touches p.before p.rest ≡ false → token_at p.rest ≡ o
    → Among x (tokens_next p o) → IsRead p x
tokens_read p x None i h e a = none_here a
tokens_read p x (Some (w, rest)) i h e a =
    let t = given_there p.rest rest w e in
    let same : Among x (read_next p (unplaced t.token) rest) =
    subst (λ z. Among x (read_next p z rest)) (sym t.is) a in
    read_read p x t.token rest (opens true p.before t.token.characters rest)
    (record { inside = i; apart = h; token = t.at }) refl same

expression_read : (p : Point) (x : Next) (b : Bool) → in_expression p.contexts ≡ true
    → touches p.before p.rest ≡ b
    → Among x (if b then [] else tokens_next p (token_at p.rest)) → IsRead p x
expression_read p x true i h a = none_here a
expression_read p x false i h a = tokens_read p x (token_at p.rest) i h refl a

piece_read : (p : Point) (x : Next) (c : Context) (cs : List Context) (o : Option Piece)
    → p.contexts ≡ c ∷ cs → piece_at c p.rest ≡ o → Among x (piece_next p o) → IsRead p x
piece_read p x c cs None k e a = none_here a
piece_read p x c cs (Some d) k e a =
    read_as p x (next_to d.token (moved p d.token d.change d.rest)) (only a)
    (record { operand = true; reads = parted k e refl refl })

inside_read : (p : Point) (x : Next) (c : Context) (cs : List Context) (b : Bool)
    → p.contexts ≡ c ∷ cs → is_enclosed c ≡ b
    → Among x (if b then expression_next p else piece_next p (piece_at c p.rest)) → IsRead p x
inside_read p x c cs true k h a =
    expression_read p x (touches p.before p.rest) (ap in_expression k ∙ h) refl a
inside_read p x c cs false k h a = piece_read p x c cs (piece_at c p.rest) k refl a

next_read : (p : Point) (x : Next) (cs : List Context) → p.contexts ≡ cs → Among x (next_in p cs)
    → IsRead p x
next_read p x [] k a = expression_read p x (touches p.before p.rest) (ap in_expression k) refl a
next_read p x (c ∷ cs) k a = inside_read p x c cs (is_enclosed c) k refl a

pub among_reads : (p : Point) (x : Next) → Among x (next_at p) → IsRead p x
among_reads p x a = next_read p x p.contexts refl a

-- the end
no_context : (cs : List Context) → is_nil cs ≡ true → cs ≡ []
no_context [] e = refl
no_context (c ∷ cs) e = absurd cc

pub end_told : (p : Point) → IsEnd p → is_end p ≡ true
end_told p e = rw (e.outermost, over_told p.rest e.over) refl

pub told_end : (p : Point) → is_end p ≡ true → IsEnd p
told_end p e =
    let parts = and_parts (is_nil p.contexts) (is_over p.rest) e in
    record { outermost = no_context p.contexts parts.0; over = told_over p.rest parts.1 }
