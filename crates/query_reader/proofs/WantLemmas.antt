-- What the open productions want.
use Rattle.std.proofs.Common.{◌≡◌, ◌<◌, ◌≤◌, ℕ, zero, suc, ◌-◌, Bool}
use Rattle.std.proofs.Common.{List, [], ◌∷◌, ◌++◌, length, take, drop, get_or, refl, sym, ◌∙◌, ap}
use Rattle.std.proofs.Common.{arith, Option, Some, None, subst}
use Rattle.expr_keys.specs.declared.tokens.Token.{Token}
use Rattle.expr_terms.specs.Productions.{body}
use Rattle.expr_grammar.specs.Machine as machine
use Rattle.expr_reader.specs.declared.frames.Frame.{Frame}
use Rattle.expr_reader.specs.declared.running.ExprParser.{ExprParser}
use Rattle.expr_reader.specs.View.{frames_of}
use Rattle.expr_reader.specs.Outline.{outline}
use Rattle.expr_reader.specs.Tracks.{Tracks}
use Rattle.expr_reader.proofs.ViewLemmas.{frames_of-append}
use Rattle.expr_reader.proofs.PartLemmas.{drop_past}
use Rattle.query_grammar.specs.QueryPlaces.Places.{wanted, wants_operand}
use Rattle.query_reader.specs.Wanted.{Decides}

-- what has been read does not matter
outlined : (fs gs : List machine.Frame) → outline fs ≡ outline gs → wants_operand fs
    ≡ wants_operand gs
outlined fs gs e = sym (plain fs) ∙ (ap wants_operand e ∙ plain gs)
  where
    plain : (fs : List machine.Frame) → wants_operand (outline fs) ≡ wants_operand fs
    plain [] = refl
    plain (machine.doing p vs ss ∷ fs) = ap (wanted ss) (plain fs)

pub tracked_want : (r : ExprParser) (fs : List machine.Frame) (ts : List Token) (b : Bool)
    → b ≡ wants_operand (frames_of r.frames.items) → Tracks r fs ts → b ≡ wants_operand fs
tracked_want r fs ts b e t = e ∙ sym (outlined fs (frames_of r.frames.items) t.outlined)

-- the last of the first so many
snoc : (us : List Frame) (k : ℕ) (x : Frame) → k < length us
    → take (suc k) us ≡ take k us ++ get_or us k x ∷ []
snoc [] k x h = absurd (omega arith)
snoc (u ∷ us) zero x h = refl
snoc (u ∷ us) (suc k) x h = ap (λ z. u ∷ z) (snoc us k x (omega arith))

take_all : (us : List Frame) → take (length us) us ≡ us
take_all [] = refl
take_all (u ∷ us) = ap (λ z. u ∷ z) (take_all us)

pub wants_first : (us : List Frame) → wants_operand (frames_of us)
    ≡ wants_operand (frames_of (take (length us) us))
wants_first us = ap (λ z. wants_operand (frames_of z)) (sym (take_all us))

wants_last : (us : List Frame) (i : ℕ) (x : Frame) → 0 < i → i ≤ length us
    → x ≡ get_or us (i - 1) x
    → wants_operand (frames_of (take i us))
    ≡ wanted (drop x.place (body x.production)) (wants_operand (frames_of (take (i - 1) us)))
wants_last us i x h k e =
    let a : i ≡ suc (i - 1) = omega arith in
    let b = snoc us (i - 1) x (omega arith) in
    ap (λ z. wants_operand (frames_of (take z us))) a
    ∙ (ap (λ z. wants_operand (frames_of z)) b
    ∙ (ap (λ z. wants_operand (frames_of (take (i - 1) us ++ z ∷ []))) (sym e)
    ∙ ap wants_operand (frames_of-append (take (i - 1) us) x)))

pub wants_some : (us : List Frame) (i : ℕ) (x : Frame) (o : Option Bool) (b : Bool)
    → wants_operand (frames_of us) ≡ wants_operand (frames_of (take i us)) → 0 < i → i ≤ length us
    → x ≡ get_or us (i - 1) x → o ≡ Some b → Decides o (drop x.place (body x.production))
    → b ≡ wants_operand (frames_of us)
wants_some us i x o b w h k e f d =
    let g = subst (λ z. Decides z (drop x.place (body x.production))) f d in
    sym (w ∙ (wants_last us i x h k e ∙ g (wants_operand (frames_of (take (i - 1) us)))))

pub wants_none : (us : List Frame) (i : ℕ) (x : Frame) (o : Option Bool)
    → wants_operand (frames_of us) ≡ wants_operand (frames_of (take i us)) → 0 < i → i ≤ length us
    → x ≡ get_or us (i - 1) x → o ≡ None → Decides o (drop x.place (body x.production))
    → wants_operand (frames_of us) ≡ wants_operand (frames_of (take (i - 1) us))
wants_none us i x o w h k e f d =
    let g = subst (λ z. Decides z (drop x.place (body x.production))) f d in
    w ∙ (wants_last us i x h k e ∙ g (wants_operand (frames_of (take (i - 1) us))))

pub ruleset rests = (drop_past)

pub ruleset decided = (drop_past)

pub ruleset frames = (wants_first)

pub ruleset tracked = (tracked_want)
