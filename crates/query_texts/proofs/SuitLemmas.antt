-- What the grammar takes suits the place where it is read.
use Rattle.std.proofs.Common.{◌≡◌, ◌⊎◌, inl, inr, ℕ, Bool, true, false, ◌&&◌, List, ◌∷◌}
use Rattle.std.proofs.Common.{codes, refl, sym, ◌∙◌, ap, subst, Some}
use Rattle.std.proofs.lemmas.Bool.{and_parts}
use Rattle.std.specs.Str.{bytes_eq}
use Rattle.expr_keys.specs.declared.keys.Key.TheVariants as key
use Rattle.expr_keys.specs.declared.tokens.Token.{Token}
use Rattle.expr_keys.specs.declared.tokens.Token.TheVariants as token
use Rattle.expr_terms.specs.Choices.{second_of}
use Rattle.query_grammar.specs.Machine.{Mode, step, wants, is_lone, Leads, refused}
use Rattle.query_grammar.proofs.Operands.{outer_refused, less_refused}
use Rattle.query_pieces.specs.declared.contexts.Before.{Before}
use Rattle.query_pieces.specs.declared.contexts.Before.TheVariants.{Integer as integer}
use Rattle.query_pieces.specs.declared.contexts.Before.TheVariants.{Slash as slash_key}
use Rattle.query_pieces.specs.declared.contexts.Before.TheVariants.{Other as other}
use Rattle.query_pieces.specs.Points.{Point, before_of}
use Rattle.query_pieces.specs.Fronts.{begins, NameAt, name_at, name_with, local_at, run_of, rest_of}
use Rattle.query_pieces.specs.Readings.{may_open, opens, Reads, spelled, opened, parted}
use Rattle.query_pieces.proofs.ReadingLemmas.{reads_modes}
use Rattle.xt_names.specs.Characters.{starts_name, is_name_char}

may_same : (b c : Bool) (x : Before) → x ≡ slash_key → may_open b x ≡ may_open c x
may_same b c slash_key e = refl
may_same b c integer e = absurd cc
may_same b c other e = absurd cc

opens_same : (b c : Bool) (x : Before) (cs rest : List ℕ) → x ≡ slash_key
    → opens b x cs rest ≡ opens c x cs rest
opens_same b c x cs rest e =
    ap (λ z. z && (bytes_eq cs (codes "<") && begins starts_name rest)) (may_same b c x e)

-- after a `/` it does not matter whether an operand may be there
slash_reads : (b c : Bool) (p : Point) (t : Token) (q : Point) → p.before ≡ slash_key
    → Reads b p t q → Reads c p t q
slash_reads b c p t q e (spelled {u = u} {rest = m} a o s f) =
    spelled a (sym (opens_same b c p.before u.characters m e) ∙ o) s f
slash_reads b c p t q e (opened {u = u} {rest = m} a o s g f) =
    opened a (sym (opens_same b c p.before u.characters m e) ∙ o) s g f
slash_reads b c p t q e (parted k z g f) = parted k z g f

less_open : (x : Before) (cs rest : List ℕ) → opens true x cs rest ≡ false
    → opens false x cs rest ≡ false
less_open integer cs rest e = refl
less_open slash_key cs rest e = e
less_open other cs rest e = refl

more_open : (x : Before) (cs rest : List ℕ) → opens false x cs rest ≡ true
    → opens true x cs rest ≡ true
more_open integer cs rest e = absurd cc
more_open slash_key cs rest e = e
more_open other cs rest e = absurd cc

pub reads_before : (b : Bool) (p : Point) (t : Token) (q : Point) → Reads b p t q
    → q.before ≡ before_of t
reads_before b p t q (spelled a o s e) = ap (λ (x : Point). x.before) e
reads_before b p t q (opened a o s g e) = ap (λ (x : Point). x.before) e
reads_before b p t q (parted k z g e) = ap (λ (x : Point). x.before) e

abbrev pub Suits : Mode → Point → Token → Point → List Token → Type 0
Suits m p t q us = (step m t (second_of us) ≡ refused) ⊎ Reads (wants m) p t q

abbrev SuitsAs : Bool → Mode → Point → Token → Point → List Token → Type 0
SuitsAs w m p t q us = (step m t (second_of us) ≡ refused) ⊎ Reads w p t q

-- no front of an element is taken where no operand may come
as_operator : (m : Mode) (p : Point) (t : Token) (q : Point) (us : List Token)
    → Leads m (t ∷ us) → wants m ≡ false → Reads true p t q → SuitsAs false m p t q us
as_operator m p t q us l w (spelled {u = u} {rest = r} a o s f) =
    inr (spelled a (less_open p.before u.characters r o) s f)
as_operator m p t q us l w (opened {u = u} {rest = r} {n = n} a o s g f) =
    let h : Leads m (token.StartTagOpen n.prefix n.local ∷ us) = subst (λ z. Leads m (z ∷ us)) g l in
    inl (ap (λ z. step m z (second_of us)) g ∙ outer_refused m n.prefix n.local us h w)
as_operator m p t q us l w (parted k z g f) = inr (parted k z g f)

named : (rest : List ℕ) → begins starts_name rest ≡ true → (n : NameAt) × (name_at rest ≡ Some n)
named rest e = (
  name_with (run_of is_name_char rest) (rest_of is_name_char rest)
      (local_at (rest_of is_name_char rest)),
  rw e refl,
)

-- no `<` is taken where one may, but after a `/` that stands alone
compared : (m : Mode) (p : Point) (t : Token) (q : Point) (us : List Token) → Leads m (t ∷ us)
    → (is_lone m ≡ true → p.before ≡ slash_key) → wants m ≡ true → t ≡ token.Key key.Less
    → Reads false p t q → (b : Bool) → is_lone m ≡ b → SuitsAs true m p t q us
compared m p t q us l k w e r true f = inr (slash_reads false true p t q (k f) r)
compared m p t q us l k w e r false f =
    let h : Leads m (token.Key key.Less ∷ us) = subst (λ z. Leads m (z ∷ us)) e l in
    inl (ap (λ z. step m z (second_of us)) e ∙ less_refused m us h w f)

by_modes : (m : Mode) (p : Point) (t u : Token) (q r : Point) (us : List Token)
    → Leads m (t ∷ us) → (is_lone m ≡ true → p.before ≡ slash_key) → wants m ≡ true
    → Reads true p u r → Reads false p t q → ((u ≡ t) × (r ≡ q)) ⊎ ((prefix local : List ℕ)
    × (u ≡ token.StartTagOpen prefix local) × (t ≡ token.Key key.Less)) → SuitsAs true m p t q us
by_modes m p t u q r us l k w x y (inl s) =
    inr (subst (λ z. Reads true p z q) s.0 (subst (λ z. Reads true p u z) s.1 x))
by_modes m p t u q r us l k w x y (inr (a, b, f, g)) =
    compared m p t q us l k w g y (is_lone m) refl

as_operand : (m : Mode) (p : Point) (t : Token) (q : Point) (us : List Token)
    → Leads m (t ∷ us) → (is_lone m ≡ true → p.before ≡ slash_key) → wants m ≡ true
    → Reads false p t q → SuitsAs true m p t q us
as_operand m p t q us l k w (spelled {u = u} {rest = r} a o s f) =
    go (opens true p.before u.characters r) refl
  where
    go : (b : Bool) → opens true p.before u.characters r ≡ b → SuitsAs true m p t q us
    go false e = inr (spelled a e s f)
    go true e =
        let x = and_parts (may_open true p.before) _ e in
        let y = and_parts (bytes_eq u.characters (codes "<")) _ x.1 in
        let n = named r y.1 in
        let i = opened a e n.1 refl refl in
        by_modes m p t _ q _ us l k w i (spelled a o s f)
        (reads_modes p _ t _ q i (spelled a o s f))
as_operand m p t q us l k w (opened {u = u} {rest = r} a o s g f) =
    inr (opened a (more_open p.before u.characters r o) s g f)
as_operand m p t q us l k w (parted x z g f) = inr (parted x z g f)

pub suits : (m : Mode) (b : Bool) (p : Point) (t : Token) (q : Point) (us : List Token)
    → Leads m (t ∷ us) → (is_lone m ≡ true → p.before ≡ slash_key) → Reads b p t q
    → Suits m p t q us
suits m b p t q us l k r = go (wants m) b refl r
  where
    go : (w b : Bool) → wants m ≡ w → Reads b p t q → SuitsAs w m p t q us
    go true true e r = inr r
    go false false e r = inr r
    go true false e r = as_operand m p t q us l k e r
    go false true e r = as_operator m p t q us l e r
