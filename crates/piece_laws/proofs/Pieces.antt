-- The pieces of direct elements.
use Rattle.std.proofs.Common.{◌≡◌, ℕ, List, [], ◌∷◌, Bool, true, false}
use Rattle.std.proofs.Common.{◌==◌, Option, Some, None, refl}
use Rattle.std.proofs.Common.{if◌then◌else◌}
use Rattle.std.proofs.lemmas.Bool.{and_parts, and_from}
use Rattle.std.specs.List.{list_all}
use Rattle.xt_names.specs.Classes.{is_in_ranges}
use Rattle.expr_length.specs.Weights.{weigh}
use Rattle.expr_keys.specs.declared.tokens.Token.{Token}
use Rattle.expr_keys.specs.declared.tokens.Token.TheVariants as token
use Rattle.query_pieces.specs.Fronts.{run_of, rest_of, begins, eaten, spaces, NameAt, name_at}
use Rattle.query_pieces.specs.declared.contexts.Quote.{Quote}
use Rattle.query_pieces.specs.declared.contexts.Quote.TheVariants.{Single as single}
use Rattle.query_pieces.specs.declared.contexts.Quote.TheVariants.{Double as double}
use Rattle.query_pieces.specs.declared.contexts.Context.{Context}
use Rattle.query_pieces.specs.declared.contexts.Context.TheVariants.{Enclosed as enclosed}
use Rattle.query_pieces.specs.declared.contexts.Context.TheVariants.{Tag as tag}
use Rattle.query_pieces.specs.declared.contexts.Context.TheVariants.{Attribute as attribute}
use Rattle.query_pieces.specs.declared.contexts.Context.TheVariants.{Content as content}
use Rattle.query_pieces.specs.References.{reference_at}
use Rattle.query_pieces.specs.Elements.{Piece, mark_of, of_reference, closed, marked, run_or}
use Rattle.query_pieces.specs.Elements.{line_end, shut, shut_from, inner_from, tag_from}
use Rattle.query_pieces.specs.Elements.{content_mark, content_piece, is_content, is_value}
use Rattle.query_pieces.specs.Elements.{value_mark, value_piece, quote_at, value_from}
use Rattle.query_pieces.specs.Elements.{equals_from, attribute_from, empty_end, full_or, empty_or}
use Rattle.query_pieces.specs.Elements.{tag_mark, tag_piece, piece_at}
use Rattle.query_pieces.specs.Elements as piece
use Rattle.sound_expressions.specs.SoundForms.Sound.{is_sound_token}
use Rattle.piece_laws.proofs.Names.{IsNamed, MaybeNamed, name_named, run_all}
use Rattle.piece_laws.proofs.Literals.{all_chars, chars_text, referred}
use Rattle.xt_names.specs.Characters.{is_char, is_space}
use Rattle.xt_names.proofs.BoolLemmas.{either}

-- sound, and as heavy as one token
pub record IsLight (t : Token) : Type 0 where
  pub sound : is_sound_token t ≡ true
  pub light : weigh t ≡ 1

abbrev Light : Option Piece → Type 0
Light None = Unit {0}
Light (Some a) = IsLight a.token

chars_light : (cs : List ℕ) (b : Bool) → all_chars cs ≡ true → IsLight (token.Chars cs b)
chars_light cs b h = record { sound = chars_text cs h; light = refl }

one_light : (c : ℕ) (b : Bool) → is_char c ≡ true → IsLight (token.Chars (c ∷ []) b)
one_light c b h = chars_light (c ∷ []) b (rw h refl)

brace : (is_char 123 ≡ true) × (is_char 125 ≡ true)
unfolding is_char is_in_ranges
brace = (refl, refl)

quotes : (is_char 39 ≡ true) × (is_char 34 ≡ true)
unfolding is_char is_in_ranges
quotes = (refl, refl)

white : (is_char 10 ≡ true) × (is_char 32 ≡ true)
unfolding is_char is_in_ranges
white = (refl, refl)

reference_light : (ts : List ℕ) (o : Option (ℕ × List ℕ)) → reference_at ts ≡ o
    → Light (of_reference o)
reference_light ts None e = tt
reference_light ts (Some r) e = one_light r.0 false (referred ts r e).char

opened_light : (o : Option (List ℕ)) (ts : List ℕ) → Light (Some (piece.opened o ts))
opened_light None ts = record { sound = refl; light = refl }
opened_light (Some rest) ts = one_light 123 true brace.0

closed_light : (o : Option (List ℕ)) → Light (closed o)
closed_light None = tt
closed_light (Some rest) = one_light 125 true brace.1

marked_light : (c : ℕ) (ts : List ℕ) → Light (marked c ts)
marked_light c ts =
    either (c == 38) (λ e. rw e (reference_light ts (reference_at ts) refl))
    (λ e. either (c == 123) (λ f. rw (e, f) (opened_light (eaten 123 ts) ts))
    (λ f. either (c == 125) (λ g. rw (e, f, g) (closed_light (eaten 125 ts)))
    (λ g. rw (e, f, g) tt)))

narrower : (p : ℕ → Bool) (cs : List ℕ) → ((c : ℕ) → p c ≡ true → is_char c ≡ true)
    → list_all p cs ≡ true → all_chars cs ≡ true
narrower p [] f h = refl
narrower p (c ∷ cs) f h =
    let a = and_parts (p c) (list_all p cs) h in
    and_from (is_char c) _ (f c a.0) (narrower p cs f a.1)

run_or_light : (cs rest : List ℕ) (o : Option Piece) → all_chars cs ≡ true → Light o
    → Light (run_or cs rest o)
run_or_light [] rest o h l = l
run_or_light (c ∷ cs) rest o h l = chars_light (c ∷ cs) true h

run_light : (p : ℕ → Bool) (ts : List ℕ) (o : Option Piece)
    → ((c : ℕ) → p c ≡ true → is_char c ≡ true) → Light o
    → Light (run_or (run_of p ts) (rest_of p ts) o)
run_light p ts o f l =
    run_or_light (run_of p ts) (rest_of p ts) o (narrower p (run_of p ts) f (run_all p ts)) l

-- content
content_char : (c : ℕ) → is_content c ≡ true → is_char c ≡ true
unfolding is_content
content_char c h = (and_parts (is_char c) _ h).0

shut_light : (n : NameAt) (o : Option (List ℕ)) → IsNamed n → Light (shut n o)
shut_light n None i = tt
shut_light n (Some rest) i = record { sound = and_from _ _ i.prefix i.local; light = refl }

shut_from_light : (o : Option NameAt) → MaybeNamed o → Light (shut_from o)
shut_from_light None i = tt
shut_from_light (Some n) i = shut_light n (eaten 62 (spaces n.rest)) i

inner_light : (o : Option NameAt) → MaybeNamed o → Light (inner_from o)
inner_light None i = tt
inner_light (Some n) i = record { sound = and_from _ _ i.prefix i.local; light = refl }

tag_from_light : (o : Option (List ℕ)) (ts : List ℕ) → Light (tag_from o ts)
tag_from_light None ts = inner_light (name_at ts) (name_named ts)
tag_from_light (Some more) ts = shut_from_light (name_at more) (name_named more)

content_light : (ts : List ℕ) → Light (content_mark ts)
content_light [] = tt
content_light (c ∷ ts) =
    either (c == 60) (λ e. rw e (tag_from_light (eaten 47 ts) ts))
    (λ e. either (c == 13) (λ f. rw (e, f) (one_light 10 true white.0))
    (λ f. rw (e, f) (marked_light c ts)))

-- values
value_char : (q : Quote) (c : ℕ) → is_value q c ≡ true → is_char c ≡ true
unfolding is_value
value_char q c h = (and_parts (is_char c) _ h).0

quoted_light : (q : ℕ) (o : Option (List ℕ)) (ts : List ℕ) → is_char q ≡ true
    → Light (Some (piece.quoted q o ts))
quoted_light q None ts h = record { sound = refl; light = refl }
quoted_light q (Some rest) ts h = one_light q true h

mark_char : (q : Quote) → is_char (mark_of q) ≡ true
mark_char single = quotes.0
mark_char double = quotes.1

value_light : (q : ℕ) (ts : List ℕ) → is_char q ≡ true → Light (value_mark q ts)
value_light q [] h = tt
value_light q (c ∷ ts) h =
    either (c == q) (λ e. rw e (quoted_light q (eaten q ts) ts h))
    (λ e. either (is_space c) (λ f. rw (e, f) (one_light 32 true white.1))
    (λ f. rw (e, f) (marked_light c ts)))

-- tags
value_from_light : (n : NameAt) (o : Option (Quote × List ℕ)) → IsNamed n
    → Light (value_from n o)
value_from_light n None i = tt
value_from_light n (Some q) i = record { sound = and_from _ _ i.prefix i.local; light = refl }

equals_light : (n : NameAt) (o : Option (List ℕ)) → IsNamed n → Light (equals_from n o)
equals_light n None i = tt
equals_light n (Some ts) i = value_from_light n (quote_at (spaces ts)) i

attribute_light : (o : Option NameAt) → MaybeNamed o → Light (attribute_from o)
attribute_light None i = tt
attribute_light (Some n) i = equals_light n (eaten 61 (spaces n.rest)) i

empty_light : (o : Option (List ℕ)) → Light (empty_end o)
empty_light None = tt
empty_light (Some rest) = record { sound = refl; light = refl }

empty_or_light : (o : Option (List ℕ)) (a : Option Piece) → Light a → Light (empty_or o a)
empty_or_light None a l = l
empty_or_light (Some ts) a l = empty_light (eaten 62 ts)

full_or_light : (o : Option (List ℕ)) (a : Option Piece) → Light a → Light (full_or o a)
full_or_light None a l = l
full_or_light (Some rest) a l = record { sound = refl; light = refl }

spaced_light : (b : Bool) (ts : List ℕ)
    → Light (if b then attribute_from (name_at ts) else None)
spaced_light true ts = attribute_light (name_at ts) (name_named ts)
spaced_light false ts = tt

tag_light : (b : Bool) (ts : List ℕ) → Light (tag_mark b ts)
tag_light b ts =
    full_or_light (eaten 62 ts) _ (empty_or_light (eaten 47 ts) _ (spaced_light b ts))

at_light : (c : Context) (ts : List ℕ) → Light (piece_at c ts)
at_light enclosed ts = tt
at_light tag ts = tag_light (begins is_space ts) (spaces ts)
at_light (attribute q) ts =
    run_light (is_value q) ts (value_mark (mark_of q) ts) (value_char q)
    (value_light (mark_of q) ts (mark_char q))
at_light content ts = run_light is_content ts (content_mark ts) content_char (content_light ts)

pub piece_light : (c : Context) (ts : List ℕ) (a : Piece) → piece_at c ts ≡ Some a
    → IsLight a.token
piece_light c ts a e = let all : Light (Some a) = rw e at (at_light c ts) in all
