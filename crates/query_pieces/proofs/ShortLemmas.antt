-- Each token and piece takes something of the text.
use Rattle.std.proofs.Common.{◌≡◌, ◌<◌, ◌≤◌, ℕ, List, [], ◌∷◌, length, Bool, true, false, ◌==◌}
use Rattle.std.proofs.Common.{◌&&◌, Option, Some, None, if◌then◌else◌, refl, ap, arith}
use Rattle.xpath_lex.specs.Readings.{size}
use Rattle.xpath_lex.proofs.PlaceLemmas.{token_shorter}
use Rattle.expr_keys.specs.declared.tokens.Token.{Token}
use Rattle.query_pieces.specs.Fronts.{run_of, rest_of, begins, eaten, spaces, NameAt, local_at}
use Rattle.query_pieces.specs.Fronts.{name_with, name_at}
use Rattle.query_pieces.specs.Points.{Quote, Context, enclosed, tag, attribute, content, Point}
use Rattle.query_pieces.specs.References.{reference_at}
use Rattle.query_pieces.specs.Elements.{Piece, mark_of, of_reference, closed, marked, run_or}
use Rattle.query_pieces.specs.Elements.{line_end, shut, shut_from, inner_from, tag_from}
use Rattle.query_pieces.specs.Elements.{content_mark, content_piece, is_content, is_value}
use Rattle.query_pieces.specs.Elements.{value_mark, value_piece, quote_from, quote_at, value_from}
use Rattle.query_pieces.specs.Elements.{equals_from, attribute_from, empty_end, full_or, empty_or}
use Rattle.query_pieces.specs.Elements.{tag_mark, tag_piece, piece_at}
use Rattle.query_pieces.specs.Elements as piece
use Rattle.query_pieces.specs.Readings.{Reads, spelled, opened, parted}
use Rattle.query_pieces.proofs.LiteralLemmas.{rest_length, eaten_length, line_length}
use Rattle.query_pieces.proofs.LiteralLemmas.{reference_length}
use Rattle.xt_names.specs.Characters.{is_space, starts_name, is_name_char}
use Rattle.xt_names.proofs.BoolLemmas.{either}

-- what is left after a piece is no longer, or shorter
abbrev Within : List ℕ → Option Piece → Type 0
Within ts None = Unit {0}
Within ts (Some a) = length a.rest ≤ length ts

abbrev Below : List ℕ → Option Piece → Type 0
Below ts None = Unit {0}
Below ts (Some a) = length a.rest < length ts

below_first : (c : ℕ) (ts : List ℕ) (o : Option Piece) → Within ts o → Below (c ∷ ts) o
below_first c ts None h = tt
below_first c ts (Some a) h = omega (arith, h)

abbrev Left : List ℕ → Option (List ℕ) → Type 0
Left ts o = (r : List ℕ) → o ≡ Some r → length r ≤ length ts

left_eaten : (c : ℕ) (ts : List ℕ) → Left ts (eaten c ts)
left_eaten c ts r e = eaten_length c ts r e

reference_within : (ts : List ℕ) (o : Option (ℕ × List ℕ)) → ((r : ℕ × List ℕ) → o ≡ Some r
    → length r.1 ≤ length ts) → Within ts (of_reference o)
reference_within ts None f = tt
reference_within ts (Some r) f = f r refl

closed_within : (ts : List ℕ) (o : Option (List ℕ)) → Left ts o → Within ts (closed o)
closed_within ts None f = tt
closed_within ts (Some r) f = f r refl

opened_within : (ts : List ℕ) (o : Option (List ℕ)) → Left ts o
    → Within ts (Some (piece.opened o ts))
opened_within ts None f = omega arith
opened_within ts (Some r) f = f r refl

quoted_within : (q : ℕ) (ts : List ℕ) (o : Option (List ℕ)) → Left ts o
    → Within ts (Some (piece.quoted q o ts))
quoted_within q ts None f = omega arith
quoted_within q ts (Some r) f = f r refl

marked_within : (c : ℕ) (ts : List ℕ) → Within ts (marked c ts)
marked_within c ts =
    either (c == 38) (λ e. rw e (reference_within ts (reference_at ts)
    (λ r g. reference_length ts r.1 r.0 g)))
    (λ e. either (c == 123) (λ f. rw (e, f) (opened_within ts (eaten 123 ts) (left_eaten 123 ts)))
    (λ f. either (c == 125) (λ g. rw (e, f, g) (closed_within ts (eaten 125 ts)
    (left_eaten 125 ts))) (λ g. rw (e, f, g) tt)))

run_below : (p : ℕ → Bool) (ts : List ℕ) (o : Option Piece) → Below ts o
    → Below ts (run_or (run_of p ts) (rest_of p ts) o)
run_below p [] o h = h
run_below p (c ∷ ts) o h =
    let fits = rest_length p ts in either (p c) (λ e. rw e (omega (arith, fits))) (λ e. rw e h)

-- names

local_length : (ts rest : List ℕ) → local_at ts ≡ Some rest → length rest ≤ length ts
local_length [] rest e = cc
local_length (c ∷ ts) rest e =
    either (c == 58 && begins starts_name ts)
    (λ h. (let same : Some ts ≡ Some rest = rw h at e in let one : ts ≡ rest = cc in omega
    (arith, ap length one)))
    (λ h. (let none : None ≡ Some rest = rw h at e in cc))

with_length : (first rest : List ℕ) (o : Option (List ℕ)) → Left rest o
    → length (name_with first rest o).rest ≤ length rest
with_length first rest None f = omega arith
with_length first rest (Some ts) f = let fits = rest_length is_name_char ts in let inside = f ts
    refl in omega (arith, fits, inside)

abbrev NameLeft : List ℕ → Option NameAt → Type 0
NameLeft ts None = Unit {0}
NameLeft ts (Some n) = length n.rest ≤ length ts

name_left : (ts : List ℕ) → NameLeft ts (name_at ts)
name_left ts =
    let rest : List ℕ = rest_of is_name_char ts in
    let fits = rest_length is_name_char ts in
    let inside = with_length (run_of is_name_char ts) rest (local_at rest)
    (λ r e. local_length rest r e) in
    either (begins starts_name ts) (λ h. rw h (omega (arith, fits, inside))) (λ h. rw h tt)

spaces_length : (ts : List ℕ) → length (spaces ts) ≤ length ts
spaces_length ts = rest_length is_space ts

shut_within : (n : NameAt) (ts : List ℕ) (o : Option (List ℕ)) → Left ts o → Within ts (shut n o)
shut_within n ts None f = tt
shut_within n ts (Some r) f = f r refl

shut_from_within : (ts : List ℕ) (o : Option NameAt) → NameLeft ts o → Within ts (shut_from o)
shut_from_within ts None h = tt
shut_from_within ts (Some n) h =
    let fits = spaces_length n.rest in
    shut_within n ts (eaten 62 (spaces n.rest)) (λ r e. (let inside = eaten_length 62
    (spaces n.rest) r e in omega (arith, h, fits, inside)))

inner_within : (ts : List ℕ) (o : Option NameAt) → NameLeft ts o → Within ts (inner_from o)
inner_within ts None h = tt
inner_within ts (Some n) h = h

more_within : (more ts : List ℕ) (o : Option Piece) → length more ≤ length ts → Within more o
    → Within ts o
more_within more ts None h w = tt
more_within more ts (Some a) h w = omega (arith, h, w)

tag_from_within : (ts : List ℕ) (o : Option (List ℕ)) → Left ts o → Within ts (tag_from o ts)
tag_from_within ts None f = inner_within ts (name_at ts) (name_left ts)
tag_from_within ts (Some more) f = more_within more ts (shut_from (name_at more)) (f more refl)
    (shut_from_within more (name_at more) (name_left more))

content_below : (ts : List ℕ) → Below ts (content_mark ts)
content_below [] = tt
content_below (c ∷ ts) =
    let line = line_length 13 ts in
    either (c == 60) (λ e. rw e (below_first c ts (tag_from (eaten 47 ts) ts) (tag_from_within ts
    (eaten 47 ts) (left_eaten 47 ts))))
    (λ e. either (c == 13) (λ f. rw (e, f) (omega (arith, line))) (λ f. rw (e, f)
    (below_first c ts (marked c ts) (marked_within c ts))))

value_below : (q : ℕ) (ts : List ℕ) → Below ts (value_mark q ts)
value_below q [] = tt
value_below q (c ∷ ts) =
    let line = line_length c ts in
    either (c == q) (λ e. rw e (below_first c ts (Some (piece.quoted q (eaten q ts) ts))
    (quoted_within q ts (eaten q ts) (left_eaten q ts))))
    (λ e. either (is_space c) (λ f. rw (e, f) (omega (arith, line))) (λ f. rw (e, f)
    (below_first c ts (marked c ts) (marked_within c ts))))

-- tags

eaten_less : (c : ℕ) (ts rest : List ℕ) → eaten c ts ≡ Some rest → length rest < length ts
eaten_less c [] rest e = cc
eaten_less c (d ∷ ds) rest e =
    either (d == c) (λ h. (let same : Some ds ≡ Some rest = rw h at e in let one : ds ≡ rest = cc
    in omega (arith, ap length one)))
    (λ h. (let none : None ≡ Some rest = rw h at e in cc))

abbrev QuoteLeft : List ℕ → Option (Quote × List ℕ) → Type 0
QuoteLeft ts None = Unit {0}
QuoteLeft ts (Some q) = length q.1 ≤ length ts

quote_left : (ts : List ℕ) (o r : Option (List ℕ)) → Left ts o → Left ts r
    → QuoteLeft ts (quote_from o r)
quote_left ts None None f g = tt
quote_left ts None (Some x) f g = g x refl
quote_left ts (Some x) r f g = f x refl

value_from_below : (n : NameAt) (ts : List ℕ) (rest : List ℕ) (o : Option (Quote × List ℕ))
    → length rest < length ts → QuoteLeft rest o → Below ts (value_from n o)
value_from_below n ts rest None h f = tt
value_from_below n ts rest (Some q) h f = omega (arith, h, f)

equals_below : (n : NameAt) (ts : List ℕ) (o : Option (List ℕ)) → ((r : List ℕ) → o ≡ Some r
    → length r < length ts) → Below ts (equals_from n o)
equals_below n ts None f = tt
equals_below n ts (Some r) f =
    let fits = spaces_length r in
    let inside = f r refl in
    value_from_below n ts (spaces r) (quote_at (spaces r)) (omega (arith, fits, inside))
    (quote_left (spaces r) (eaten 34 (spaces r)) (eaten 39 (spaces r)) (left_eaten 34
    (spaces r)) (left_eaten 39 (spaces r)))

attribute_below : (ts : List ℕ) (o : Option NameAt) → NameLeft ts o → Below ts (attribute_from o)
attribute_below ts None h = tt
attribute_below ts (Some n) h =
    let fits = spaces_length n.rest in
    equals_below n ts (eaten 61 (spaces n.rest)) (λ r e. (let inside = eaten_less 61
    (spaces n.rest) r e in omega (arith, h, fits, inside)))

empty_below : (ts : List ℕ) (o : Option (List ℕ)) → ((r : List ℕ) → o ≡ Some r
    → length r < length ts) → Below ts (empty_end o)
empty_below ts None f = tt
empty_below ts (Some r) f = f r refl

empty_or_below : (ts : List ℕ) (o : Option (List ℕ)) (a : Option Piece) → Left ts o → Below ts a
    → Below ts (empty_or o a)
empty_or_below ts None a f h = h
empty_or_below ts (Some more) a f h =
    let inside = f more refl in
    empty_below ts (eaten 62 more) (λ r e. (let less = eaten_less 62 more r e in omega
    (arith, inside, less)))

full_or_below : (ts : List ℕ) (o : Option (List ℕ)) (a : Option Piece) → ((r : List ℕ)
    → o ≡ Some r → length r < length ts) → Below ts a → Below ts (full_or o a)
full_or_below ts None a f h = h
full_or_below ts (Some r) a f h = f r refl

spaced_below : (b : Bool) (ts : List ℕ)
    → Below ts (if b then attribute_from (name_at ts) else None)
spaced_below true ts = attribute_below ts (name_at ts) (name_left ts)
spaced_below false ts = tt

tag_below : (b : Bool) (ts : List ℕ) → Below ts (tag_mark b ts)
tag_below b ts =
    full_or_below ts (eaten 62 ts) _ (λ r e. eaten_less 62 ts r e) (empty_or_below ts
    (eaten 47 ts) _ (left_eaten 47 ts) (spaced_below b ts))

longer_below : (more ts : List ℕ) (o : Option Piece) → length more ≤ length ts → Below more o
    → Below ts o
longer_below more ts None h w = tt
longer_below more ts (Some a) h w = omega (arith, h, w)

piece_below : (c : Context) (ts : List ℕ) → Below ts (piece_at c ts)
piece_below enclosed ts = tt
piece_below tag ts = longer_below (spaces ts) ts (tag_piece ts) (spaces_length ts) (tag_below
    (begins is_space ts) (spaces ts))
piece_below (attribute q) ts = run_below (is_value q) ts (value_mark (mark_of q) ts) (value_below
    (mark_of q) ts)
piece_below content ts = run_below is_content ts (content_mark ts) (content_below ts)

piece_shorter : (c : Context) (ts : List ℕ) (a : Piece) → piece_at c ts ≡ Some a
    → length a.rest < length ts
piece_shorter c ts a e = let all : Below ts (Some a) = rw e at (piece_below c ts) in all

name_shorter : (ts : List ℕ) (n : NameAt) → name_at ts ≡ Some n → length n.rest ≤ length ts
name_shorter ts n e = let all : NameLeft ts (Some n) = rw e at (name_left ts) in all

pub reads_shorter : (operand : Bool) (p : Point) (t : Token) (q : Point) → Reads operand p t q
    → length q.rest < length p.rest
reads_shorter operand p t q (spelled {u = u} {rest = m} a o s e) = rw e (token_shorter
    (size p.rest) false p.rest m u a.token)
reads_shorter operand p t q (opened {u = u} {rest = m} {n = n} a o s g e) =
    let less = token_shorter (size p.rest) false p.rest m u a.token in
    let fits = name_shorter m n s in rw e (omega (arith, less, fits))
reads_shorter operand p t q (parted {c = c} {a = d} k z g e) = rw e (piece_shorter c p.rest d z)
