-- The tokens and pieces of a text, one after another.
use Rattle.std.proofs.Common.{◌≡◌, ◌≤◌, ◌<◌, ℕ, ◌+◌, List, length, Bool, true}
use Rattle.std.proofs.Common.{false, refl, ap, subst, ◌∙◌, arith, length-append}
use Rattle.std.proofs.lemmas.Bool.{and_from}
use Rattle.xpath_lex.specs.Gaps.{Comment, over, nested, passes, Gap, none, space, comment}
use Rattle.xpath_lex.specs.Readings.{Placed, size, TokenAt}
use Rattle.xpath_lex.specs.Tokens.{IsToken}
use Rattle.xpath_lex.specs.declared.lexing.TokenKind.{TokenKind}
use Rattle.xpath_lex.specs.declared.lexing.TokenKind.TheVariants.{Literal}
use Rattle.expr_length.specs.Weights.{weigh, weight}
use Rattle.expr_keys.specs.declared.tokens.Token.{Token}
use Rattle.expr_keys.specs.declared.tokens.Token.TheVariants as token
use Rattle.query_pieces.specs.Points.{Point}
use Rattle.query_pieces.specs.Readings.{IsNext, Reads, spelled, opened, parted, Splits}
use Rattle.query_pieces.specs.Readings as readings
use Rattle.query_pieces.specs.Spellings.{is_literal, Spells, literal, others}
use Rattle.query_pieces.proofs.ShortLemmas.{reads_shorter}
use Rattle.sound_expressions.specs.SoundForms.Sound.{is_sound_token, are_sound}
use Rattle.piece_laws.proofs.Names.{named_so}
use Rattle.piece_laws.proofs.Terms.{Fits, term_fits}
use Rattle.piece_laws.proofs.Literals.{literal_sound, literal_some}
use Rattle.piece_laws.proofs.Pieces.{piece_light}

-- white space and comments take nothing back
comment_length : {ts rest : List ℕ} → Comment ts rest → length rest ≤ length ts
comment_length over = omega arith
comment_length (nested a b) =
    let x = comment_length a in let y = comment_length b in omega (arith, x, y)
comment_length (passes a b c d) = let x = comment_length d in omega (arith, x)

gap_length : {a b : Bool} {ts rest : List ℕ} → Gap a ts b rest → length rest ≤ length ts
gap_length none = omega arith
gap_length (space e g) = let x = gap_length g in omega (arith, x)
gap_length (comment c g) =
    let x = comment_length c in let y = gap_length g in omega (arith, x, y)

token_length : (total : ℕ) (b : Bool) (ts rest : List ℕ) (u : Placed) → TokenAt total b ts u rest
    → length u.characters + length rest ≤ length ts
token_length total b ts rest u at =
    let g = gap_length at.gap in
    let parts = ap length at.longest.begins.parts ∙ length-append u.characters rest in
    omega (arith, g, parts)

kind_literal : (k : TokenKind) → is_literal k ≡ true → k ≡ Literal
kind_literal Literal e = refl
kind_literal _ e = absurd cc

spells_fits : (k : TokenKind) (cs : List ℕ) (t : Token) → IsToken k cs → Spells k cs t
    → Fits t (length cs)
spells_fits k cs t i (literal {said = said} e s f) =
    let j = subst (λ (x : TokenKind). IsToken x cs) (kind_literal k e) i in
    rw f (record { sound = literal_sound cs said j s; light = literal_some cs j })
spells_fits k cs t i (others e f) = term_fits k cs t i e f

pub record Step (t : Token) (p q : Point) : Type 0 where
  pub sound : is_sound_token t ≡ true
  pub light : weigh t + length q.rest ≤ length p.rest

reads_step : (operand : Bool) (p q : Point) (t : Token) → Reads operand p t q → Step t p q
reads_step operand p q t (spelled {u = u} {rest = rest} a o s e) =
    let f = spells_fits u.kind u.characters t a.token.longest.begins.is_token s in
    let l = f.light in
    let n = token_length (size p.rest) false p.rest rest u a.token in
    rw e (record { sound = f.sound; light = omega (arith, l, n) })
reads_step operand p q t (opened {u = u} {rest = rest} {n = n} a o s g e) =
    let i = named_so rest n s in
    let less = reads_shorter operand p t q (opened a o s g e) in
    record {
      sound = rw g (and_from _ _ i.prefix i.local);
      light = light t g less;
    }
  where
    light : (t : Token) → t ≡ token.StartTagOpen n.prefix n.local → length q.rest < length p.rest
        → weigh t + length q.rest ≤ length p.rest
    light t h l = let one : weigh t ≡ 1 = ap weigh h in omega (arith, l, one)
reads_step operand p q t (parted {c = c} {a = a} k z g e) =
    let i = piece_light c p.rest a z in
    let less = reads_shorter operand p t q (parted k z g e) in
    let one : weigh t ≡ 1 = ap weigh g ∙ i.light in
    record { sound = ap is_sound_token g ∙ i.sound; light = omega (arith, less, one) }

pub splits_sound : (p : Point) (ts : List Token) → Splits p ts → are_sound ts ≡ true
splits_sound p _ (readings.over e) = refl
splits_sound p _ (readings.reads {operand = o} {behind = q} {t = t} {ts = ts} r s) =
    and_from (is_sound_token t) _ (reads_step o p q t r).sound (splits_sound q ts s)

pub splits_weight : (p : Point) (ts : List Token) → Splits p ts → weight ts ≤ length p.rest
splits_weight p _ (readings.over e) = omega arith
splits_weight p _ (readings.reads {operand = o} {behind = q} {t = t} {ts = ts} r s) =
    let a = (reads_step o p q t r).light in
    let b = splits_weight q ts s in
    omega (arith, a, b)
