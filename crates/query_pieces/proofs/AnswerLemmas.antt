-- What the reader tells of the point where it stands.
use Rattle.std.proofs.Common.{◌≡◌, ℕ, List, [], ◌∷◌, Bool, true, false, ◌==◌, Some, None, Result}
use Rattle.std.proofs.Common.{Ok, Err, IfOk, refl, sym, ap, ◌∙◌}
use Rattle.xt_names.specs.Classes.{is_in_ranges}
use Rattle.xpath_lex.specs.Gaps.{Gap, space, comment}
use Rattle.xpath_lex.specs.Readings.{Placed, size, TokenAt, IsOver, FaultAt}
use Rattle.xpath_lex.proofs.CharacterFacts.{open_name}
use Rattle.xpath_lex.proofs.ReadingLemmas.{token_not_over, fault_no_token, fault_not_over}
use Rattle.xpath_lex.specs.declared.lexing.TokenKind.{TokenKind}
use Rattle.expr_keys.specs.declared.tokens.Token.{Token}
use Rattle.expr_keys.specs.declared.tokens.Token.TheVariants as token
use Rattle.query_pieces.specs.Points.{Context, tag, Before, integer, slash_key, other, Change}
use Rattle.query_pieces.specs.Points.{enters, Point, is_enclosed, in_expression, change_of, moved}
use Rattle.query_pieces.specs.Fronts.{name_at}
use Rattle.query_pieces.specs.Spellings.{Spells}
use Rattle.query_pieces.specs.Elements.{piece_at}
use Rattle.query_pieces.specs.Readings.{touches, opens, IsNext, Reads, spelled, opened, parted}
use Rattle.query_pieces.specs.Answers.{IsStuck, Answers, Stays}
use Rattle.query_pieces.specs.declared.pieces.Found.{Found}
use Rattle.query_pieces.specs.declared.pieces.Found.TheVariants as found
use Rattle.std.proofs.lemmas.Bool.{eqb-true}
use Rattle.query_pieces.proofs.ReadingLemmas.{outside_elements, next_one, same_opens}
use Rattle.xt_names.specs.Characters.{is_space, starts_name}
use Rattle.xt_names.proofs.BoolLemmas.{no, either}

space_name : (c : ℕ) → is_space c ≡ true → starts_name c ≡ false
unfolding is_space starts_name is_in_ranges
space_name c h =
    either (c == 32) (λ e. rw (eqb-true c 32 e) refl)
    (λ e. either (c == 9) (λ f. rw (eqb-true c 9 f) refl)
    (λ f. either (c == 10) (λ g. rw (eqb-true c 10 g) refl)
    (λ g. either (c == 13) (λ k. rw (eqb-true c 13 k) refl) (λ k. no h (rw (e, f, g, k) refl)))))

name_over : {b a : Bool} (c : ℕ) (ts : List ℕ) → starts_name c ≡ true → Gap b (c ∷ ts) a [] → ⊥
name_over c ts h (space e g) = no h (space_name c e)
name_over _ _ h (comment k g) = no h open_name

touch_over : (b : Before) (ts : List ℕ) → touches b ts ≡ true → IsOver false ts → ⊥
touch_over integer [] h o = cc
touch_over integer (c ∷ ts) h (a, g) = name_over c ts h g
touch_over slash_key ts h o = cc
touch_over other ts h o = cc

pub stuck_touch : (operand : Bool) (p : Point) → in_expression p.contexts ≡ true
    → touches p.before p.rest ≡ true → IsStuck operand p
stuck_touch operand p i h = record {
  nothing = λ t q r. nothing t q r;
  not_over = λ e. touch_over p.before p.rest h e.over;
} where
  nothing : (t : Token) (q : Point) → Reads operand p t q → ⊥
  nothing t q (spelled a o s e) = no h a.apart
  nothing t q (opened a o s g e) = no h a.apart
  nothing t q (parted {c = c} {cs = cs} {a = d} k z g e) = outside_elements p c cs d i k z

pub stuck_fault : (operand : Bool) (p : Point) (place : ℕ) → in_expression p.contexts ≡ true
    → FaultAt (size p.rest) false p.rest place → IsStuck operand p
stuck_fault operand p place i h = record {
  nothing = λ t q r. nothing t q r;
  not_over = λ e. fault_not_over (size p.rest) false p.rest place h e.over;
} where
  nothing : (t : Token) (q : Point) → Reads operand p t q → ⊥
  nothing t q (spelled {u = x} {rest = m} a o s e) = fault_no_token
      (size p.rest) false p.rest place x m h a.token
  nothing t q (opened {u = x} {rest = m} a o s g e) = fault_no_token
      (size p.rest) false p.rest place x m h a.token
  nothing t q (parted {c = c} {cs = cs} {a = d} k z g e) = outside_elements p c cs d i k z

pub stuck_open : (operand : Bool) (p : Point) (x : Context) (xs : List Context)
    → in_expression p.contexts ≡ true → IsOver false p.rest → p.contexts ≡ x ∷ xs
    → IsStuck operand p
stuck_open operand p x xs i h l = record {
  nothing = λ t q r. nothing t q r;
  not_over = λ e. (let all : [] ≡ x ∷ xs = sym e.outermost ∙ l in cc);
} where
  nothing : (t : Token) (q : Point) → Reads operand p t q → ⊥
  nothing t q (spelled {u = y} {rest = m} a o s e) = token_not_over
      (size p.rest) false p.rest y m a.token h
  nothing t q (opened {u = y} {rest = m} a o s g e) = token_not_over
      (size p.rest) false p.rest y m a.token h
  nothing t q (parted {c = c} {cs = cs} {a = d} k z g e) = outside_elements p c cs d i k z

pub stuck_name : (operand : Bool) (p : Point) (u : Placed) (rest : List ℕ) → IsNext p u rest
    → opens operand p.before u.characters rest ≡ true → name_at rest ≡ None → IsStuck operand p
stuck_name operand p u rest n h f = record {
  nothing = λ t q r. nothing t q r;
  not_over = λ e. token_not_over (size p.rest) false p.rest u rest n.token e.over;
} where
  nothing : (t : Token) (q : Point) → Reads operand p t q → ⊥
  nothing t q (spelled {u = y} {rest = m} a o s e) = same_opens operand p u y rest m n a h o
  nothing t q (opened {u = y} {rest = m} {n = v} a o s g e) =
      let one = next_one p u y rest m n a in
      let names : None ≡ Some v = sym f ∙ ap name_at one.1 ∙ s in cc
  nothing t q (parted {c = c} {cs = cs} {a = d} k z g e) = outside_elements p c cs d n.inside k z

pub stuck_token : (operand : Bool) (p : Point) (u : Placed) (rest : List ℕ) → IsNext p u rest
    → opens operand p.before u.characters rest ≡ false → ((t : Token)
    → Spells u.kind u.characters t → ⊥) → IsStuck operand p
stuck_token operand p u rest n h f = record {
  nothing = λ t q r. nothing t q r;
  not_over = λ e. token_not_over (size p.rest) false p.rest u rest n.token e.over;
} where
  nothing : (t : Token) (q : Point) → Reads operand p t q → ⊥
  nothing t q (spelled {u = y} {rest = m} a o s e) =
      let one = next_one p u y rest m n a in
      let here : Spells u.kind u.characters t = rw one.0 s in f t here
  nothing t q (opened {u = y} {rest = m} a o s g e) = same_opens operand p y u m rest a n o h
  nothing t q (parted {c = c} {cs = cs} {a = d} k z g e) = outside_elements p c cs d n.inside k z

pub stuck_piece : (operand : Bool) (p : Point) (x : Context) (xs : List Context)
    → p.contexts ≡ x ∷ xs → is_enclosed x ≡ false → piece_at x p.rest ≡ None → IsStuck operand p
stuck_piece operand p x xs l h f = record {
  nothing = λ t q r. nothing t q r;
  not_over = λ e. (let all : [] ≡ x ∷ xs = sym e.outermost ∙ l in cc);
} where
  within : in_expression p.contexts ≡ true → ⊥
  within i = let at : is_enclosed x ≡ true = rw l at i in no at h

  nothing : (t : Token) (q : Point) → Reads operand p t q → ⊥
  nothing t q (spelled a o s e) = within a.inside
  nothing t q (opened a o s g e) = within a.inside
  nothing t q (parted {c = c} {cs = cs} {a = d} k z g e) =
      let all : x ∷ xs ≡ c ∷ cs = sym l ∙ k in
      let top : x ≡ c = cc in
      let pieces : None ≡ Some d = sym f ∙ ap (λ v. piece_at v p.rest) top ∙ z in cc

-- where the code went after a token

abbrev pub Went : {E : Type 0} → Result Found E → Point → Point → Token → Change → List ℕ → Type 0
Went r p q t change rest = IfOk r (λ f. (f ≡ found.Token t) × (q ≡ moved p t change rest))

pub spell_goes : {E : Type 0} (r : Result Found E) (p q : Point) (t : Token) (change : Change)
    (kind : TokenKind) (cs rest : List ℕ) → Went r p q t change rest → change ≡ change_of t
    → Spells kind cs t
    → IfOk r (λ f. (operand : Bool) (u : Placed) → IsNext p u rest → u.kind ≡ kind
    → u.characters ≡ cs → opens operand p.before u.characters rest ≡ false
    → Answers operand p f q)
spell_goes (Ok f) p q t change kind cs rest w e s = λ operand u n k c o.
    (let here : Spells u.kind u.characters t = rw (k, c) s in
    let at : q ≡ moved p t (change_of t) rest = w.1 ∙ ap (λ x. moved p t x rest) e in
    rw w.0 (spelled n o here at))
spell_goes (Err x) p q t change kind cs rest w e s = tt

pub spell_stuck : (p : Point) (kind : TokenKind) (cs rest : List ℕ) → ((t : Token)
    → Spells kind cs t → ⊥)
    → (operand : Bool) (u : Placed) → IsNext p u rest → u.kind ≡ kind → u.characters ≡ cs
    → opens operand p.before u.characters rest ≡ false → IsStuck operand p
spell_stuck p kind cs rest f operand u n k c o = stuck_token operand p u rest n o (λ t s. f t (rw
    (← k, ← c) s))

pub open_goes : {E : Type 0} (r : Result Found E) (p q : Point) (prefix local : List ℕ)
    (rest left : List ℕ) → Went r p q (token.StartTagOpen prefix local) (enters tag) left
    → name_at rest ≡ Some (record { prefix = prefix; local = local; rest = left })
    → IfOk r (λ f. (operand : Bool) (u : Placed) → IsNext p u rest
    → opens operand p.before u.characters rest ≡ true → Answers operand p f q)
open_goes (Ok f) p q prefix local rest left w e = λ operand u n o. rw w.0 (opened n o e refl w.1)
open_goes (Err x) p q prefix local rest left w e = tt

pub piece_goes : {E : Type 0} (r : Result Found E) (p q : Point) (c : Context) (cs : List Context)
    (t : Token) (change : Change) (left : List ℕ) → Went r p q t change left
    → p.contexts ≡ c ∷ cs → piece_at c p.rest ≡ Some (record {
      token = t;
      change = change;
      rest =
          left;
    })
    → IfOk r (λ f. (operand : Bool) → Answers operand p f q)
piece_goes (Ok f) p q c cs t change left w k e = λ operand. rw w.0 (parted k e refl w.1)
piece_goes (Err x) p q c cs t change left w k e = tt

-- what is seen of the point

abbrev pub point : List Context → Before → List ℕ → Point
point s b ts = record { contexts = s; before = b; rest = ts }

pub next_found : (p : Point) (s : List Context) (b : Before) (ts rest : List ℕ) (u : Placed)
    → point s b ts ≡ p → in_expression p.contexts ≡ true → touches b ts ≡ false
    → TokenAt (size ts) false ts u rest → IsNext p u rest
next_found p s b ts rest u e i t at = record {
  inside = i;
  apart = rw (← e) t;
  token = rw
      (← e) at;
}

pub opened_found : {E : Type 0} (r : Result Found E) (p q : Point) (operand : Bool)
    (s : List Context) (b : Before) (ts cs rest : List ℕ) (kind : TokenKind) → point s b ts ≡ p
    → in_expression p.contexts ≡ true → touches b ts ≡ false
    → ((u : Placed) × TokenAt (size ts) false ts u rest × (u.kind ≡ kind) × (u.characters ≡ cs))
    → opens operand b cs rest ≡ true
    → IfOk r (λ f. (operand : Bool) (u : Placed) → IsNext p u rest
    → opens operand p.before u.characters rest ≡ true → Answers operand p f q)
    → IfOk r (λ f. Answers operand p f q)
opened_found (Ok f) p q operand s b ts cs rest kind e i t (u, at, k, c) o w = w operand u
    (next_found p s b ts rest u e i t at) (rw (← e, c) o)
opened_found (Err x) p q operand s b ts cs rest kind e i t n o w = tt

pub spelled_found : {E : Type 0} (r : Result Found E) (p q : Point) (operand : Bool)
    (s : List Context) (b : Before) (ts cs rest : List ℕ) (kind : TokenKind) → point s b ts ≡ p
    → in_expression p.contexts ≡ true → touches b ts ≡ false
    → ((u : Placed) × TokenAt (size ts) false ts u rest × (u.kind ≡ kind) × (u.characters ≡ cs))
    → opens operand b cs rest ≡ false
    → IfOk r (λ f. (operand : Bool) (u : Placed) → IsNext p u rest → u.kind ≡ kind
    → u.characters ≡ cs → opens operand p.before u.characters rest ≡ false
    → Answers operand p f q) → IfOk r (λ f. Answers operand p f q)
spelled_found (Ok f) p q operand s b ts cs rest kind e i t (u, at, k, c) o w = w operand u
    (next_found p s b ts rest u e i t at) k c (rw (← e, c) o)
spelled_found (Err x) p q operand s b ts cs rest kind e i t n o w = tt

pub touch_found : (operand : Bool) (p : Point) (s : List Context) (b : Before) (ts : List ℕ)
    → point s b ts ≡ p → in_expression p.contexts ≡ true → touches b ts ≡ true → IsStuck operand p
touch_found operand p s b ts e i t = stuck_touch operand p i (rw (← e) t)

pub fault_found : (operand : Bool) (p : Point) (s : List Context) (b : Before) (ts : List ℕ)
    (place : ℕ) → point s b ts ≡ p → in_expression p.contexts ≡ true
    → FaultAt (size ts) false ts place → IsStuck operand p
fault_found operand p s b ts place e i f = stuck_fault operand p place i (rw (← e) f)

pub piece_none : (p : Point) (x : Context) (scan : List ℕ) (s : List Context) (b : Before)
    (ts : List ℕ) → point s b ts ≡ p → ((xs : List Context) × (p.contexts ≡ x ∷ xs))
    → is_enclosed x ≡ false → scan ≡ ts → piece_at x scan ≡ None → (operand : Bool)
    → IsStuck operand p
piece_none p x scan s b ts e (xs, l) h n f operand = stuck_piece operand p x xs l h (rw
    (← e, ← n) f)

pub piece_found : {E : Type 0} (r : Result Found E) (p q : Point) (c : Context) (t : Token)
    (change : Change) (scan left after : List ℕ) (s : List Context) (b : Before) (ts : List ℕ)
    → point s b ts ≡ p → ((xs : List Context) × (p.contexts ≡ c ∷ xs)) → Went r p q t change left
    → scan ≡ ts → left ≡ after
    → piece_at c scan ≡ Some (record { token = t; change = change; rest = after })
    → IfOk r (λ f. (operand : Bool) → Answers operand p f q)
piece_found r p q c t change scan left after s b ts e (xs, l) w n m f =
    let here : scan ≡ p.rest = n ∙ ap (λ (x : Point). x.rest) e in
    let found : piece_at c p.rest ≡ Some (record { token = t; change = change; rest = left }) = rw
    (← here, m) f in
    piece_goes r p q c xs t change left w l found

pub stays_same : (f : Found) (p q : Point) → q ≡ p → Stays f p q
stays_same (found.Token t) p q e = tt
stays_same found.End p q e = e
stays_same found.Nothing p q e = e

pub stays_went : {E : Type 0} (r : Result Found E) (p q : Point) (t : Token) (change : Change)
    (rest : List ℕ) → Went r p q t change rest → IfOk r (λ f. Stays f p q)
stays_went (Ok f) p q t change rest w = rw w.0 tt
stays_went (Err x) p q t change rest w = tt

pub ruleset staying = (stays_same, stays_went)
