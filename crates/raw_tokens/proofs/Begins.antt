-- Steps begin with the tokens that tell that a `/` does not stand alone, and marks are marks.
use Rattle.std.proofs.Common.{◌≡◌, Bool, true, false, cond, ◌&&◌, ◌||◌, List, [], ◌∷◌, refl}
use Rattle.std.proofs.Common.{◌⊎◌, inl, inr, subst}
use Rattle.std.proofs.lemmas.Bool.{and_parts, or_cases}
use Rattle.expr_keys.specs.Keys.{is_axis, is_worded, is_reserved}
use Rattle.expr_keys.specs.Tokens.{fits_key, fits_name, fits_axis, fits_function, fits_wild}
use Rattle.expr_keys.specs.Classes.{fits, fits_any, keys_of, begins_step}
use Rattle.expr_terms.specs.Productions.{body, head}
use Rattle.expr_keys.specs.Classes.{fits_digits, fits_quoted, fits_piece}
use Rattle.expr_keys.specs.declared.keys.Key.{Key}
use Rattle.expr_keys.specs.declared.keys.Key.TheVariants as key
use Rattle.expr_keys.specs.declared.tokens.Token.{Token}
use Rattle.expr_keys.specs.declared.tokens.Token.TheVariants as token
use Rattle.expr_keys.specs.declared.productions.Class.{Class}
use Rattle.expr_keys.specs.declared.productions.Class.TheVariants as class
use Rattle.expr_keys.specs.declared.productions.Symbol.{Symbol}
use Rattle.expr_keys.specs.declared.productions.Symbol.TheVariants.{Tok as tok, One as one}
use Rattle.expr_keys.specs.declared.productions.Language.{Language}
use Rattle.expr_keys.specs.declared.productions.Nonterminal.{Nonterminal}
use Rattle.expr_keys.specs.declared.productions.Nonterminal.TheVariants as place
use Rattle.expr_keys.specs.declared.productions.Production.{Production}
use Rattle.expr_keys.specs.declared.productions.Production.TheVariants as production
use Rattle.expr_terms.specs.declared.raws.Raw.{Raw}
use Rattle.expr_grammar.specs.Grammar.{next_begins, Derives, by, Seq, end, taken, next, without}
use Rattle.expr_grammar.specs.Grammar.{with, stop, again, bare, given}
use Rattle.expr_grammar.proofs.Tables.{is_key}
use Rattle.raw_tokens.proofs.Built.{never}

-- what a step is at the front of
abbrev is_front : Nonterminal → Bool
is_front place.AfterRoot = true
is_front place.StepExpr = true
is_front place.NodeTest = true
is_front place.KindTest = true
is_front place.PrimaryExpr = true
is_front place.DirElemConstructor = true
is_front _ = false

abbrev all_begin : List Key → Bool
all_begin [] = true
all_begin (k ∷ ks) = begins_step (token.Key k) && all_begin ks

-- all tokens of the class begin a step
abbrev begins_all : Class → Bool
begins_all (class.Key k) = begins_step (token.Key k)
begins_all class.PlainKind = true
begins_all class.NamedKind = true
begins_all class.Encloser = true
begins_all class.Maker = true
begins_all class.Digits = true
begins_all class.Quoted = true
begins_all class.Axis = true
begins_all class.Function = true
begins_all class.NameTest = true
begins_all class.StartTagOpen = true
begins_all _ = false

abbrev leads_front : List Symbol → Bool
leads_front (tok c ∷ ss) = begins_all c
leads_front (one n ∷ ss) = is_front n
leads_front _ = false

-- checked once for each production
front_body : (p : Production) → is_front (head p) ≡ true → leads_front (body p) ≡ true
front_body production.WholeExpr e = never e
front_body _ e = cc

axis_named : (k : Key) → is_axis k ≡ true → is_worded k ≡ true
axis_named key.OpenParen e = never e
axis_named _ e = cc

function_named : (k : Key) → cond (is_reserved k) false (is_worded k) ≡ true → is_worded k ≡ true
function_named k = go (is_reserved k)
  where
    go : (b : Bool) → cond b false (is_worded k) ≡ true → is_worded k ≡ true
    go true e = never e
    go false e = e

or_right : (a b : Bool) → b ≡ true → (a || b) ≡ true
or_right true b e = refl
or_right false b e = e

-- a token of one of the six kinds
abbrev marks : List Key
marks = key.Dollar ∷ key.OpenParen ∷ key.Dot ∷ key.Dots ∷ key.AtSign ∷ []

module _ (t : Token) where
  named : fits_name t ≡ true → begins_step t ≡ true
  named e = rw e refl

  wild : fits_wild t ≡ true → begins_step t ≡ true
  wild e =
      let a : (fits_name t || fits_wild t) ≡ true = or_right (fits_name t) (fits_wild t) e in
      rw a refl

  counted : fits_digits t ≡ true → begins_step t ≡ true
  counted e =
      let a : ((fits_name t || fits_wild t) || fits_digits t) ≡ true =
      or_right (fits_name t || fits_wild t) (fits_digits t) e in
      rw a refl

  quoted : fits_quoted t ≡ true → begins_step t ≡ true
  quoted e =
      let a : (((fits_name t || fits_wild t) || fits_digits t) || fits_quoted t) ≡ true =
      or_right ((fits_name t || fits_wild t) || fits_digits t) (fits_quoted t) e in
      rw a refl

  outer : fits_piece class.StartTagOpen t ≡ true → begins_step t ≡ true
  outer e = or_right ((((fits_name t || fits_wild t) || fits_digits t) || fits_quoted t)
      || fits_any marks t) (fits_piece class.StartTagOpen t) e

by_keys : (ks : List Key) (t : Token) → all_begin ks ≡ true → fits_any ks t ≡ true
    → begins_step t ≡ true
by_keys [] t h e = never e
by_keys (k ∷ ks) t h e =
    go (by_keys ks t (and_parts (begins_step (token.Key k)) (all_begin ks) h).1)
    (or_cases (fits_key k t) (fits_any ks t) e)
  where
    go : (fits_any ks t ≡ true → begins_step t ≡ true)
        → (fits_key k t ≡ true) ⊎ (fits_any ks t ≡ true) → begins_step t ≡ true
    go more (inl f) = subst (λ x. begins_step x ≡ true) (is_key k t f)
        (and_parts (begins_step (token.Key k)) (all_begin ks) h).0
    go more (inr f) = more f

of_axis : (t : Token) → fits_axis t ≡ true → begins_step t ≡ true
of_axis (token.Key k) e = named (token.Key k) (axis_named k e)
of_axis _ e = never e

of_function : (t : Token) → fits_function t ≡ true → begins_step t ≡ true
of_function (token.Key k) e = named (token.Key k) (function_named k e)
of_function (token.Name n) e = refl
of_function (token.Qname p n) e = refl
of_function _ e = never e

of_test : (t : Token) → (fits_name t || fits_wild t) ≡ true → begins_step t ≡ true
of_test t e = go (or_cases (fits_name t) (fits_wild t) e)
  where
    go : (fits_name t ≡ true) ⊎ (fits_wild t ≡ true) → begins_step t ≡ true
    go (inl f) = named t f
    go (inr f) = wild t f

of_class : (c : Class) (t : Token) → begins_all c ≡ true → fits c t ≡ true
    → begins_step t ≡ true
of_class (class.Key k) t h e = subst (λ x. begins_step x ≡ true) (is_key k t e) h
of_class class.PlainKind t h e = by_keys (keys_of class.PlainKind) t refl e
of_class class.NamedKind t h e = by_keys (keys_of class.NamedKind) t refl e
of_class class.Encloser t h e = by_keys (keys_of class.Encloser) t refl e
of_class class.Maker t h e = by_keys (keys_of class.Maker) t refl e
of_class class.Digits t h e = counted t e
of_class class.Quoted t h e = quoted t e
of_class class.Axis t h e = of_axis t e
of_class class.Function t h e = of_function t e
of_class class.NameTest t h e = of_test t e
of_class class.StartTagOpen t h e = outer t e
of_class _ t h e = never h

mutual
  begun : {l : Language} {n : Nonterminal} {ts mid : List Token} {v : Raw} → Derives l n ts v mid
      → is_front n ≡ true → next_begins place.AfterRoot ts ≡ true
  begun (by p s e q) h = let f : is_front (head p) ≡ true = rw e h in lead_begun (front_body p f) q

  lead_begun : {l : Language} {ss : List Symbol} {ts mid : List Token} {vs : List Raw}
      → leads_front ss ≡ true → Seq l ss ts vs mid → next_begins place.AfterRoot ts ≡ true
  lead_begun h end = never h
  lead_begun h (taken {c = c} {t = t} f s) = of_class c t h f
  lead_begun h (next d s) = begun d h
  lead_begun h (without s) = never h
  lead_begun h (with d s) = never h
  lead_begun h (stop s) = never h
  lead_begun h (again d s) = never h
  lead_begun h (bare e s) = never h
  lead_begun h (given e d s) = never h

abbrev is_occurrence : Nonterminal → Bool
is_occurrence place.OccurrenceIndicator = true
is_occurrence _ = false

abbrev is_mark : Class → Bool
is_mark class.Mark = true
is_mark _ = false

abbrev leads_mark : List Symbol → Bool
leads_mark (tok c ∷ ss) = is_mark c
leads_mark _ = false

mark_body : (p : Production) → is_occurrence (head p) ≡ true → leads_mark (body p) ≡ true
mark_body production.WholeExpr e = never e
mark_body _ e = cc

of_mark : (c : Class) (t : Token) → is_mark c ≡ true → fits c t ≡ true
    → fits class.Mark t ≡ true
of_mark class.Mark t h e = e
of_mark _ t h e = never h

lead_marked : {l : Language} {ss : List Symbol} {ts mid : List Token} {vs : List Raw}
    → leads_mark ss ≡ true → Seq l ss ts vs mid → next_begins place.OccurrenceIndicator ts ≡ true
lead_marked h end = never h
lead_marked h (taken {c = c} {t = t} f s) = of_mark c t h f
lead_marked h (next d s) = never h
lead_marked h (without s) = never h
lead_marked h (with d s) = never h
lead_marked h (stop s) = never h
lead_marked h (again d s) = never h
lead_marked h (bare e s) = never h
lead_marked h (given e d s) = never h

marked : {l : Language} {n : Nonterminal} {ts mid : List Token} {v : Raw} → Derives l n ts v mid
    → is_occurrence n ≡ true → next_begins place.OccurrenceIndicator ts ≡ true
marked (by p s e q) h =
    let f : is_occurrence (head p) ≡ true = rw e h in lead_marked (mark_body p f) q

-- the two that must not be left out where they could begin
abbrev pub is_longest : Nonterminal → Bool
is_longest place.AfterRoot = true
is_longest place.OccurrenceIndicator = true
is_longest _ = false

pub begins_so : (n : Nonterminal) → is_longest n ≡ true → {l : Language} {ts mid : List Token}
    {v : Raw} → Derives l n ts v mid → next_begins n ts ≡ true
begins_so place.AfterRoot h d = begun d refl
begins_so place.OccurrenceIndicator h d = marked d refl
begins_so _ h d = never h
