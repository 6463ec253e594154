-- A piece of a direct element tells nothing of a word before it.
use Rattle.std.proofs.Common.{◌≡◌, ℕ, List, [], ◌∷◌, Bool, true, false, ◌==◌, Option, Some, None}
use Rattle.std.proofs.Common.{if◌then◌else◌, refl, sym}
use Rattle.xpath_lex.specs.Readings.{IsOver, FaultAt, TokenAt, Placed, size}
use Rattle.xpath_lex.specs.declared.lexing.TokenKind.{TokenKind}
use Rattle.expr_terms.specs.Choices.{second_of}
use Rattle.expr_terms.specs.declared.choices.Second.{Second}
use Rattle.expr_terms.specs.declared.choices.Second.TheVariants.{Alone as alone}
use Rattle.expr_keys.specs.declared.tokens.Token.{Token}
use Rattle.query_pieces.specs.Fronts.{run_of, rest_of, begins, eaten, spaces, NameAt, name_at}
use Rattle.query_pieces.specs.Points.{Quote, Context, enclosed, tag, attribute, content, Before}
use Rattle.query_pieces.specs.Points.{Point, in_expression}
use Rattle.query_pieces.specs.References.{reference_at}
use Rattle.query_pieces.specs.Elements.{Piece, mark_of, of_reference, closed, marked, run_or, shut}
use Rattle.query_pieces.specs.Elements.{shut_from, inner_from, tag_from, content_mark}
use Rattle.query_pieces.specs.Elements.{content_piece, is_content, is_value, value_mark}
use Rattle.query_pieces.specs.Elements.{value_piece, quote_at, value_from, equals_from}
use Rattle.query_pieces.specs.Elements.{attribute_from, empty_end, full_or, empty_or, tag_mark}
use Rattle.query_pieces.specs.Elements.{tag_piece, piece_at}
use Rattle.query_pieces.specs.Elements as piece
use Rattle.query_pieces.specs.Readings.{touches, IsNext, Reads, spelled, opened, parted, Splits}
use Rattle.query_pieces.specs.Readings.{over, reads}
use Rattle.query_pieces.specs.Answers.{IsStuck}
use Rattle.query_pieces.proofs.AnswerLemmas.{stuck_touch}
use Rattle.query_pieces.proofs.SecondLemmas.{Tells, over_alone, fault_alone}
use Rattle.xt_names.specs.Characters.{is_space}
use Rattle.xt_names.proofs.BoolLemmas.{no, either}

abbrev Plain : Option Piece → Type 0
Plain None = Unit {0}
Plain (Some a) = Tells a.token false alone

plain_reference : (o : Option (ℕ × List ℕ)) → Plain (of_reference o)
plain_reference None = tt
plain_reference (Some r) = record { name = refl; second = refl }

plain_closed : (o : Option (List ℕ)) → Plain (closed o)
plain_closed None = tt
plain_closed (Some r) = record { name = refl; second = refl }

plain_opened : (o : Option (List ℕ)) (ts : List ℕ) → Plain (Some (piece.opened o ts))
plain_opened None ts = record { name = refl; second = refl }
plain_opened (Some r) ts = record { name = refl; second = refl }

plain_marked : (c : ℕ) (ts : List ℕ) → Plain (marked c ts)
plain_marked c ts =
    either (c == 38) (λ e. rw e (plain_reference (reference_at ts)))
    (λ e. either (c == 123) (λ f. rw (e, f) (plain_opened (eaten 123 ts) ts))
    (λ f. either (c == 125) (λ g. rw (e, f, g) (plain_closed (eaten 125 ts))) (λ g. rw
    (e, f, g) tt)))

plain_run : (run rest : List ℕ) (o : Option Piece) → Plain o → Plain (run_or run rest o)
plain_run [] rest o h = h
plain_run (c ∷ cs) rest o h = record { name = refl; second = refl }

plain_shut : (n : NameAt) (o : Option (List ℕ)) → Plain (shut n o)
plain_shut n None = tt
plain_shut n (Some r) = record { name = refl; second = refl }

plain_shut_from : (o : Option NameAt) → Plain (shut_from o)
plain_shut_from None = tt
plain_shut_from (Some n) = plain_shut n (eaten 62 (spaces n.rest))

plain_inner : (o : Option NameAt) → Plain (inner_from o)
plain_inner None = tt
plain_inner (Some n) = record { name = refl; second = refl }

plain_tag_from : (o : Option (List ℕ)) (ts : List ℕ) → Plain (tag_from o ts)
plain_tag_from None ts = plain_inner (name_at ts)
plain_tag_from (Some more) ts = plain_shut_from (name_at more)

plain_content : (ts : List ℕ) → Plain (content_mark ts)
plain_content [] = tt
plain_content (c ∷ ts) =
    either (c == 60) (λ e. rw e (plain_tag_from (eaten 47 ts) ts))
    (λ e. either (c == 13) (λ f. rw (e, f) (record { name = refl; second = refl })) (λ f. rw
    (e, f) (plain_marked c ts)))

plain_quoted : (q : ℕ) (o : Option (List ℕ)) (ts : List ℕ) → Plain (Some (piece.quoted q o ts))
plain_quoted q None ts = record { name = refl; second = refl }
plain_quoted q (Some r) ts = record { name = refl; second = refl }

plain_value : (q : ℕ) (ts : List ℕ) → Plain (value_mark q ts)
plain_value q [] = tt
plain_value q (c ∷ ts) =
    either (c == q) (λ e. rw e (plain_quoted q (eaten q ts) ts))
    (λ e. either (is_space c) (λ f. rw (e, f) (record { name = refl; second = refl })) (λ f. rw
    (e, f) (plain_marked c ts)))

plain_value_from : (n : NameAt) (o : Option (Quote × List ℕ)) → Plain (value_from n o)
plain_value_from n None = tt
plain_value_from n (Some q) = record { name = refl; second = refl }

plain_equals : (n : NameAt) (o : Option (List ℕ)) → Plain (equals_from n o)
plain_equals n None = tt
plain_equals n (Some ts) = plain_value_from n (quote_at (spaces ts))

plain_attribute : (o : Option NameAt) → Plain (attribute_from o)
plain_attribute None = tt
plain_attribute (Some n) = plain_equals n (eaten 61 (spaces n.rest))

plain_empty : (o : Option (List ℕ)) → Plain (empty_end o)
plain_empty None = tt
plain_empty (Some r) = record { name = refl; second = refl }

plain_full_or : (o : Option (List ℕ)) (a : Option Piece) → Plain a → Plain (full_or o a)
plain_full_or None a h = h
plain_full_or (Some r) a h = record { name = refl; second = refl }

plain_empty_or : (o : Option (List ℕ)) (a : Option Piece) → Plain a → Plain (empty_or o a)
plain_empty_or None a h = h
plain_empty_or (Some ts) a h = plain_empty (eaten 62 ts)

plain_spaced : (b : Bool) (ts : List ℕ) → Plain (if b then attribute_from (name_at ts) else None)
plain_spaced true ts = plain_attribute (name_at ts)
plain_spaced false ts = tt

plain_at : (c : Context) (ts : List ℕ) → Plain (piece_at c ts)
plain_at enclosed ts = tt
plain_at tag ts = plain_full_or (eaten 62 (spaces ts)) _ (plain_empty_or (eaten 47 (spaces ts)) _
    (plain_spaced (begins is_space ts) (spaces ts)))
plain_at (attribute q) ts = plain_run (run_of (is_value q) ts) (rest_of (is_value q) ts)
    (value_mark (mark_of q) ts) (plain_value (mark_of q) ts)
plain_at content ts = plain_run (run_of is_content ts) (rest_of is_content ts) (content_mark ts)
    (plain_content ts)

plain_piece : (c : Context) (ts : List ℕ) (a : Piece) → piece_at c ts ≡ Some a
    → Tells a.token false alone
plain_piece c ts a e = let all : Plain (Some a) = rw e at (plain_at c ts) in all

element_read : (p : Point) (operand : Bool) (t : Token) (q : Point) (us : List Token)
    → in_expression p.contexts ≡ false → Reads operand p t q → alone ≡ second_of (t ∷ us)
element_read p operand t q us i (spelled a o s e) = no a.inside i
element_read p operand t q us i (opened a o s g e) = no a.inside i
element_read p operand t q us i (parted {c = c} {cs = cs} {a = d} k z g e) = let told = plain_piece
    c p.rest d z in rw (g, told.name) (sym told.second)

pub element_alone : (p : Point) (ts : List Token) → in_expression p.contexts ≡ false
    → Splits p ts → alone ≡ second_of ts
element_alone p _ i (over e) = refl
element_alone p _ i (reads {operand = operand} {behind = q} {t = t} {ts = us} r more) =
    element_read p operand t q us i r

abbrev point : List Context → Before → List ℕ → Point
point s b ts = record { contexts = s; before = b; rest = ts }

pub second_over : (p : Point) (s : List Context) (b : Before) (ts : List ℕ) (us : List Token)
    → point s b ts ≡ p → IsOver false ts → in_expression p.contexts ≡ true → Splits p us
    → alone ≡ second_of us
second_over p s b ts us e o i split = let none = over_alone p us (rw
    (← e) o) i split in rw none refl

pub second_fault : (p : Point) (s : List Context) (b : Before) (ts : List ℕ) (us : List Token)
    (place : ℕ) → point s b ts ≡ p → FaultAt (size ts) false ts place
    → in_expression p.contexts ≡ true → Splits p us → alone ≡ second_of us
second_fault p s b ts us place e o i split = let none = fault_alone p us place (rw
    (← e) o) i split in rw none refl

stuck_split : (p : Point) (us : List Token) → ((operand : Bool) → IsStuck operand p)
    → Splits p us → ⊥
stuck_split p _ f (over e) = (f true).not_over e
stuck_split p _ f (reads {operand = operand} {behind = q} {t = t} r more) =
    (f operand).nothing t q r

pub second_found : (p : Point) (s : List Context) (b : Before) (ts rest cs : List ℕ)
    (kind : TokenKind) (us : List Token) (second : Second) → point s b ts ≡ p
    → in_expression p.contexts ≡ true
    → ((u : Placed) × TokenAt (size ts) false ts u rest × (u.kind ≡ kind) × (u.characters ≡ cs))
    → ((p : Point) (u : Placed) (us : List Token) → IsNext p u rest → u.kind ≡ kind
    → u.characters ≡ cs → Splits p us → second ≡ second_of us) → Splits p us
    → second ≡ second_of us
second_found p s b ts rest cs kind us second e i (u, at, k, c) f split =
    either (touches p.before p.rest)
    (λ h. absurd (stuck_split p us (λ operand. stuck_touch operand p i h) split))
    (λ h. f p u us (record { inside = i; apart = h; token = rw (← e) at }) k c split)
