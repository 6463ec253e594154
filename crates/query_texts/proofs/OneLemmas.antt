-- A text spells one query.
use Rattle.std.proofs.Common.{◌≡◌, ◌⊎◌, inl, inr, ℕ, Bool, true, false, ◌&&◌, cond, List, [], ◌∷◌}
use Rattle.std.proofs.Common.{refl, sym, ◌∙◌, ap, subst, Option, Some, None, option_map}
use Rattle.std.proofs.Common.{option_and_then}
use Rattle.std.proofs.lemmas.Option.{none-some}
use Rattle.expr_keys.specs.declared.keys.Key.TheVariants as key
use Rattle.expr_keys.specs.declared.tokens.Token.{Token}
use Rattle.expr_keys.specs.declared.tokens.Token.TheVariants as token
use Rattle.expr_terms.specs.declared.choices.Second.TheVariants as second
use Rattle.expr_keys.specs.Tokens.{fits_name}
use Rattle.expr_terms.specs.Choices.{second_of, second_token, open_next}
use Rattle.query_grammar.specs.declared.declared.RawQuery.{RawQuery}
use Rattle.query_grammar.specs.Prolog.{SpellsQuery}
use Rattle.query_grammar.specs.Machine.{Mode, Turn, step, run, turned, behind, front, refused, onto}
use Rattle.query_grammar.specs.Machine.{if_ordered, ends, is_lone, wants, Leads, began, onward}
use Rattle.query_grammar.specs.Machine.{ended_by}
use Rattle.query_grammar.proofs.Operands.{slash_leads}
use Rattle.query_grammar.proofs.Run.{query_one, spells_reads}
use Rattle.query_pieces.specs.declared.contexts.Before.TheVariants.{Slash as slash_key}
use Rattle.query_pieces.specs.Points.{Point, start, before_of}
use Rattle.query_pieces.specs.Readings.{Reads, Splits, over, reads}
use Rattle.query_pieces.proofs.ReadingLemmas.{reads_one, reads_ends, reads_modes}
use Rattle.query_texts.specs.Texts.{SpellsText, spelled}
use Rattle.query_texts.proofs.SuitLemmas.{Suits, suits, reads_before}
use Rattle.xt_names.proofs.BoolLemmas.{never}

-- the token tells nothing of the word before it
record IsPlain (t : Token) : Type 0 where
  alone : (ts : List Token) → second_of (t ∷ ts) ≡ second.Alone
  shut : (ts : List Token) → open_next (t ∷ ts) ≡ false

outer_plain : (t : Token) (p l : List ℕ) → t ≡ token.StartTagOpen p l → IsPlain t
outer_plain t p l e =
    subst (λ z. IsPlain z) (sym e) (record { alone = λ ts. refl; shut = λ ts. refl })

less_plain : (t : Token) → t ≡ token.Key key.Less → IsPlain t
less_plain t e =
    subst (λ z. IsPlain z) (sym e) (record { alone = λ ts. refl; shut = λ ts. refl })

-- two readings at one place
data Two (t u : Token) (q r : Point) : Type 0 where
  same : t ≡ u → q ≡ r → Two t u q r
  plain : IsPlain t → IsPlain u → Two t u q r

by_modes : (t u : Token) (q r : Point) → ((t ≡ u) × (q ≡ r)) ⊎ ((prefix local : List ℕ)
    × (t ≡ token.StartTagOpen prefix local) × (u ≡ token.Key key.Less)) → Two t u q r
by_modes t u q r (inl (e, f)) = same e f
by_modes t u q r (inr (a, b, e, f)) = plain (outer_plain t a b e) (less_plain u f)

turned_two : (t u : Token) (q r : Point) → Two t u q r → Two u t r q
turned_two t u q r (same e f) = same (sym e) (sym f)
turned_two t u q r (plain a b) = plain b a

two : (b c : Bool) (p : Point) (t u : Token) (q r : Point) → Reads b p t q → Reads c p u r
    → Two t u q r
two true true p t u q r x y = let e = reads_one true p t u q r x y in same e.0 e.1
two false false p t u q r x y = let e = reads_one false p t u q r x y in same e.0 e.1
two true false p t u q r x y = by_modes t u q r (reads_modes p t u q r x y)
two false true p t u q r x y =
    turned_two u t r q (by_modes u t r q (reads_modes p u t r q y x))

open_by : (t u : Token) (q r : Point) (ts us : List Token) → Two t u q r
    → open_next (t ∷ ts) ≡ open_next (u ∷ us)
open_by t u q r ts us (same e f) = ap (λ z. open_next (z ∷ ts)) e
open_by t u q r ts us (plain a b) = a.shut ts ∙ sym (b.shut us)

open_same : (p : Point) (ts us : List Token) → Splits p ts → Splits p us
    → open_next ts ≡ open_next us
open_same p [] [] (over e) (over f) = refl
open_same p [] (u ∷ us) (over e) (reads {operand = c} {behind = r} y z) =
    absurd (reads_ends c p u r y e)
open_same p (t ∷ ts) [] (reads {operand = b} {behind = q} x w) (over f) =
    absurd (reads_ends b p t q x f)
open_same p (t ∷ ts) (u ∷ us) (reads {operand = b} {behind = q} x w)
    (reads {operand = c} {behind = r} y z) = open_by t u q r ts us (two b c p t u q r x y)

second_by : (t u : Token) (q r : Point) (ts us : List Token) → Two t u q r → Splits q ts
    → Splits r us → second_of (t ∷ ts) ≡ second_of (u ∷ us)
second_by t u q r ts us (same e f) x y =
    ap (λ b. cond (fits_name t && b) second.BeforeNamed (second_token t))
    (open_same q ts us x (subst (λ z. Splits z us) (sym f) y))
    ∙ ap (λ z. second_of (z ∷ us)) e
second_by t u q r ts us (plain a b) x y = a.alone ts ∙ sym (b.alone us)

second_same : (p : Point) (ts us : List Token) → Splits p ts → Splits p us
    → second_of ts ≡ second_of us
second_same p [] [] (over e) (over f) = refl
second_same p [] (u ∷ us) (over e) (reads {operand = c} {behind = r} y z) =
    absurd (reads_ends c p u r y e)
second_same p (t ∷ ts) [] (reads {operand = b} {behind = q} x w) (over f) =
    absurd (reads_ends b p t q x f)
second_same p (t ∷ ts) (u ∷ us) (reads {operand = b} {behind = q} x w)
    (reads {operand = c} {behind = r} y z) =
    second_by t u q r ts us (two b c p t u q r x y) w z

-- what the grammar takes is the same
taken : (m : Mode) (p : Point) (t : Token) (q : Point) (ts : List Token) (a : RawQuery)
    → turned (run ts) (step m t (second_of ts)) ≡ Some a → Suits m p t q ts
    → Reads (wants m) p t q
taken m p t q ts a e (inr x) = x
taken m p t q ts a e (inl f) = absurd (none-some a (ap (turned (run ts)) (sym f) ∙ e))

abbrev Onward : Point → List Token → List Token → Type 0
Onward q ts us =
    (n : Mode) → Leads n ts → Leads n us → (is_lone n ≡ true → q.before ≡ slash_key)
    → (a b : RawQuery) → run ts n ≡ Some a → run us n ≡ Some b → ts ≡ us

record Made (o : Option RawQuery) : Type 0 where
  query : RawQuery
  is : o ≡ Some query

made : (f : RawQuery → RawQuery) (o : Option RawQuery) (a : RawQuery)
    → option_map f o ≡ Some a → Made o
made f None a e = absurd (none-some a e)
made f (Some q) a e = record { query = q; is = refl }

one_on : (m : Mode) (t : Token) (q : Point) (ts us : List Token) (u : Turn) (a b : RawQuery)
    → step m t (second_of ts) ≡ u → step m t (second_of us) ≡ u → Leads m (t ∷ ts)
    → Leads m (t ∷ us) → q.before ≡ before_of t → turned (run ts) u ≡ Some a
    → turned (run us) u ≡ Some b → Onward q ts us → ts ≡ us
one_on m t q ts us refused a b e f l k s x y rec = absurd (none-some a x)
one_on m t q ts us (onto n) a b e f l k s x y rec =
    rec n (onward l e) (onward k f) (λ z. s ∙ ap before_of (slash_leads m n t ts l e z)) a b x y
one_on m t q ts us (ends d) a b e f l k s x y rec =
    let v = made (behind d) (run ts front) a x in
    let w = made (behind d) (run us front) b y in
    rec front (ended_by l e) (ended_by k f) (λ z. never z) v.query w.query v.is w.is

one_same : (m : Mode) (p : Point) (t u : Token) (q r : Point) (ts us : List Token)
    (a b : RawQuery) → Leads m (t ∷ ts) → Leads m (u ∷ us)
    → (is_lone m ≡ true → p.before ≡ slash_key) → turned (run ts) (step m t (second_of ts)) ≡ Some a
    → turned (run us) (step m u (second_of us)) ≡ Some b → (c d : Bool) → Reads c p t q
    → Reads d p u r → Splits q ts → Splits r us
    → ((vs : List Token) → Splits q vs → Onward q ts vs) → t ∷ ts ≡ u ∷ us
one_same m p t u q r ts us a b l k s x y c d v w g h rec =
    let i = taken m p t q ts a x (suits m c p t q ts l s v) in
    let j = taken m p u r us b y (suits m d p u r us k s w) in
    let e = reads_one (wants m) p t u q r i j in
    let h2 : Splits q us = subst (λ z. Splits z us) (sym e.1) h in
    let k2 : Leads m (t ∷ us) = subst (λ z. Leads m (z ∷ us)) (sym e.0) k in
    let y2 : turned (run us) (step m t (second_of us)) ≡ Some b =
    subst (λ z. turned (run us) (step m z (second_of us)) ≡ Some b) (sym e.0) y in
    let f : step m t (second_of us) ≡ step m t (second_of ts) =
    ap (step m t) (second_same q us ts h2 g) in
    let n : ts ≡ us =
    one_on m t q ts us (step m t (second_of ts)) a b refl f l k2 (reads_before c p t q v) x
    (sym (ap (turned (run us)) f) ∙ y2) (rec us h2) in
    ap (λ z. z ∷ ts) e.0 ∙ ap (λ z. u ∷ z) n

one_split : (p : Point) (ts us : List Token) → Splits p ts → Splits p us → Onward p ts us
one_split p [] [] (over e) (over f) m l k s a b x y = refl
one_split p [] (u ∷ us) (over e) (reads {operand = c} {behind = r} w z) m l k s a b x y =
    absurd (reads_ends c p u r w e)
one_split p (t ∷ ts) [] (reads {operand = c} {behind = q} v z) (over f) m l k s a b x y =
    absurd (reads_ends c p t q v f)
one_split p (t ∷ ts) (u ∷ us) (reads {operand = c} {behind = q} v g)
    (reads {operand = d} {behind = r} w h) m l k s a b x y =
    one_same m p t u q r ts us a b l k s x y c d v w g h
    (λ vs i. one_split q ts vs g i)

record Runs (ts : List Token) : Type 0 where
  query : RawQuery
  is : run ts front ≡ Some query

runs : (ts : List Token) (q : RawQuery) → SpellsQuery ts q → Runs ts
runs ts q s = by (run ts front) refl (spells_reads s)
  where
    by : (o : Option RawQuery) → run ts front ≡ o → option_and_then if_ordered o ≡ Some q
        → Runs ts
    by None e f = absurd (none-some q f)
    by (Some v) e f = record { query = v; is = e }

pub text_one : (text : List ℕ) (a b : RawQuery) → SpellsText text a → SpellsText text b → a ≡ b
text_one text a b (spelled {ts = ts} x y) (spelled {ts = us} z w) =
    let v = runs ts a y in
    let u = runs us b w in
    let e = one_split (start text) ts us x z front (began ts) (began us) (λ f. never f) v.query
    u.query v.is u.is in
    query_one y (subst (λ o. SpellsQuery o b) (sym e) w)
