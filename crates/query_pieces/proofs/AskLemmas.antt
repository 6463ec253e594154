-- What is seen of the tokens that come next, and where it does not matter whether an operand may
-- stand.
use Rattle.std.proofs.Common.{◌≡◌, ℕ, List, [], ◌∷◌, Bool, true, false, ◌&&◌, sym, ◌∙◌, ap, refl}
use Rattle.std.proofs.Common.{subst, Option, Some, None}
use Rattle.std.specs.Prelude.{codes}
use Rattle.std.specs.Str.{bytes_eq, chars}
use Rattle.xpath_lex.specs.Readings.{Placed, size, TokenAt, IsOver, FaultAt}
use Rattle.xpath_lex.proofs.ReadingLemmas.{token_one, token_not_over, fault_no_token}
use Rattle.xpath_lex.specs.declared.lexing.TokenKind.{TokenKind}
use Rattle.expr_terms.specs.Choices.{second_of}
use Rattle.expr_terms.specs.declared.choices.Second.{Second}
use Rattle.expr_terms.specs.declared.choices.Second.TheVariants.{Alone as alone}
use Rattle.expr_keys.specs.declared.tokens.Token.{Token}
use Rattle.query_pieces.specs.Points.{Context, Before, Point, in_expression, is_enclosed}
use Rattle.query_pieces.specs.Fronts.{begins}
use Rattle.query_pieces.specs.Aheads.{Leads, Sees}
use Rattle.query_pieces.specs.declared.aheads.Ahead.{Ahead}
use Rattle.query_pieces.specs.declared.aheads.Ahead.TheVariants as ahead
use Rattle.query_pieces.specs.Readings.{may_open, opens, IsNext, Reads, spelled, opened, parted}
use Rattle.query_pieces.specs.Readings.{Splits}
use Rattle.query_pieces.proofs.AnswerLemmas.{point}
use Rattle.query_pieces.proofs.PlainLemmas.{element_alone, second_over, second_fault, second_found}
use Rattle.xt_names.specs.Characters.{starts_name}
use Rattle.xt_names.proofs.BoolLemmas.{no}

-- what is seen at the point, by what the code holds of it
pub seen : (p : Point) (s : List Context) (b : Before) (ts : List ℕ) (a d : Ahead)
    → point s b ts ≡ p → a ≡ d → Leads p.rest a → Leads ts d
seen p s b ts a d e f h =
    subst (λ x. Leads ts x) f (subst (λ (q : Point). Leads q.rest a) (sym e) h)

pub looked : (p : Point) (s : List Context) (b : Before) (ts : List ℕ) (a : Ahead) (i : Bool)
    → point s b ts ≡ p → i ≡ in_expression p.contexts → i ≡ true → Leads ts a → Sees p (Some a)
looked p s b ts a i e f g h = (sym f ∙ g, subst (λ (q : Point). Leads q.rest a) e h)

pub top_element : (p : Point) (c : Context) (cs : List Context)
    → in_expression p.contexts ≡ false → p.contexts ≡ c ∷ cs → is_enclosed c ≡ false
top_element p c cs h e = rw e at h

pub no_top : (p : Point) → in_expression p.contexts ≡ false → p.contexts ≡ [] → ⊥
no_top p h e = (let at : true ≡ false = rw e at h in cc)

-- the pattern that the code came to
pub sees_at : (p : Point) (s : Option Ahead) (a d : Ahead) → s ≡ Some a → a ≡ d → Sees p s
    → Sees p (Some d)
sees_at p s a d e f h = subst (λ x. Sees p x) (e ∙ ap Some f) h

-- what it tells of the word before
abbrev pub Told : Option Ahead → Second → Type 0
Told a n = (p : Point) (us : List Token) → Sees p a → Splits p us → n ≡ second_of us

pub told_as : (s : Option Ahead) (a d : Ahead) (n : Second) → s ≡ Some a → a ≡ d
    → Told (Some d) n → Told s n
told_as s a d n e f h = subst (λ x. Told x n) (sym (e ∙ ap Some f)) h

pub told_none : Told None alone
told_none p us i split = element_alone p us i split

pub told_over : Told (Some ahead.Over) alone
told_over p us s split = second_over p p.contexts p.before p.rest us refl s.1 s.0 split

pub told_fault : Told (Some ahead.Fault) alone
told_fault p us s split =
    second_fault p p.contexts p.before p.rest us s.1.0 refl s.1.1 s.0 split

pub told_found : (n : Second) (cs rest : List ℕ) (kind : TokenKind)
    → ((p : Point) (u : Placed) (us : List Token) → IsNext p u rest → u.kind ≡ kind
    → u.characters ≡ cs → Splits p us → n ≡ second_of us) → (p : Point) (us : List Token)
    → in_expression p.contexts ≡ true → ((u : Placed) × TokenAt (size p.rest) false p.rest u rest
    × (u.kind ≡ kind) × (u.characters ≡ cs)) → Splits p us → n ≡ second_of us
told_found n cs rest kind f p us i l split =
    second_found p p.contexts p.before p.rest rest cs kind us n refl i l f split

-- `<` comes next and directly after it a name
abbrev pub fronts : List ℕ → List ℕ → Bool
fronts cs rest = bytes_eq cs (codes "<") && begins starts_name rest

never : (m b : Bool) → b ≡ false → m && b ≡ false
never true b e = e
never false b e = refl

abbrev pub Same : Option Ahead → Type 0
Same s = (p : Point) → Sees p s → (a b : Bool) (t : Token) (q : Point) → Reads a p t q
    → Reads b p t q

pub same_as : (s : Option Ahead) (a d : Ahead) → s ≡ Some a → a ≡ d → Same (Some d) → Same s
same_as s a d e f h = subst Same (sym (e ∙ ap Some f)) h

no_matter : (p : Point) → ((u : Placed) (rest : List ℕ) → IsNext p u rest
    → fronts u.characters rest ≡ false) → (a b : Bool) (t : Token) (q : Point) → Reads a p t q
    → Reads b p t q
no_matter p h a b t q (spelled {u = u} {rest = m} n o s e) =
    spelled n (never (may_open b p.before) (fronts u.characters m) (h u m n)) s e
no_matter p h a b t q (opened {u = u} {rest = m} n o s g e) =
    absurd (no o (never (may_open a p.before) (fronts u.characters m) (h u m n)))
no_matter p h a b t q (parted k z g e) = parted k z g e

pub same_outside : Same None
same_outside p o = no_matter p (λ u m n. absurd (no n.inside o))

pub same_over : Same (Some ahead.Over)
same_over p s = no_matter p (λ v m n. absurd
    (token_not_over (size p.rest) false p.rest v m n.token s.1))

pub same_fault : Same (Some ahead.Fault)
same_fault p s = no_matter p (λ v m n. absurd
    (fault_no_token (size p.rest) false p.rest s.1.0 v m s.1.1 n.token))

same_at : (p : Point) (cs rest : List ℕ) (kind : TokenKind)
    → ((u : Placed) × TokenAt (size p.rest) false p.rest u rest × (u.kind ≡ kind)
    × (u.characters ≡ cs)) → fronts cs rest ≡ false → (v : Placed) (m : List ℕ) → IsNext p v m
    → fronts v.characters m ≡ false
same_at p cs rest kind (u, at, k, c) h v m n =
    let one = token_one (size p.rest) false p.rest v u m rest n.token at in
    rw (one.0, one.1, c) h

pub same_found : (cs rest : List ℕ) (kind : TokenKind) → fronts cs rest ≡ false → (p : Point)
    → ((u : Placed) × TokenAt (size p.rest) false p.rest u rest × (u.kind ≡ kind)
    × (u.characters ≡ cs)) → (a b : Bool) (t : Token) (q : Point) → Reads a p t q → Reads b p t q
same_found cs rest kind h p l = no_matter p (same_at p cs rest kind l h)
