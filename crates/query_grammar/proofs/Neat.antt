-- The tokens of a sequence type: parentheses in pairs, and none that ends a head.
use Rattle.std.proofs.Common.{◌≡◌, ℕ, zero, suc, Bool, true, false, cond, ◌&&◌}
use Rattle.std.proofs.Common.{List, [], ◌∷◌, refl, ◌∙◌, ap, subst}
use Rattle.std.proofs.lemmas.Bool.{and_parts}
use Rattle.expr_keys.specs.declared.keys.Key.{Key}
use Rattle.expr_keys.specs.declared.keys.Key.TheVariants as key
use Rattle.expr_keys.specs.declared.tokens.Token.{Token}
use Rattle.expr_keys.specs.declared.tokens.Token.TheVariants as token
use Rattle.expr_keys.specs.declared.productions.Class.{Class}
use Rattle.expr_keys.specs.declared.productions.Class.TheVariants as class
use Rattle.expr_keys.specs.declared.productions.Language.{Language}
use Rattle.expr_keys.specs.declared.productions.Level.TheVariants.{Or as or_level}
use Rattle.expr_keys.specs.declared.productions.Nonterminal.{Nonterminal}
use Rattle.expr_keys.specs.declared.productions.Nonterminal.TheVariants as n
use Rattle.expr_keys.specs.declared.productions.Symbol.{Symbol}
use Rattle.expr_keys.specs.declared.productions.Symbol.TheVariants as s
use Rattle.expr_keys.specs.declared.productions.Production.{Production}
use Rattle.expr_keys.specs.declared.productions.Production.TheVariants as p
use Rattle.expr_terms.specs.declared.raws.Raw.{Raw}
use Rattle.expr_keys.specs.Classes.{fits}
use Rattle.expr_terms.specs.Productions.{body, head}
use Rattle.expr_grammar.specs.Grammar.{Derives, by, Seq, end, taken, next, without, with, stop}
use Rattle.expr_grammar.specs.Grammar.{again, bare, given, SpellsType}
use Rattle.expr_grammar.proofs.Tables.{is_key}
use Rattle.query_grammar.proofs.Tokens.{in_type, type_class, class_type}
use Rattle.xt_names.proofs.BoolLemmas.{never}

-- from so many open parentheses to none
pub data Neat : ℕ → List Token → List Token → Type 0 where
  done : {ts : List Token} → Neat zero ts ts
  opens : {k : ℕ} {ts rest : List Token} → Neat (suc k) ts rest
      → Neat k (token.Key key.OpenParen ∷ ts) rest
  closes : {k : ℕ} {ts rest : List Token} → Neat k ts rest
      → Neat (suc k) (token.Key key.CloseParen ∷ ts) rest
  plain : {k : ℕ} {t : Token} {ts rest : List Token} → in_type t ≡ true → Neat k ts rest
      → Neat k (t ∷ ts) rest

abbrev is_open : Class → Bool
is_open (class.Key key.OpenParen) = true
is_open _ = false

abbrev is_close : Class → Bool
is_close (class.Key key.CloseParen) = true
is_close _ = false

-- the nonterminals of types
abbrev pub of_types : Nonterminal → Bool
of_types n.WholeType = true
of_types n.SequenceType = true
of_types n.ItemType = true
of_types n.KindTest = true
of_types n.PiArgument = true
of_types n.NamedArgument = true
of_types n.OccurrenceIndicator = true
of_types _ = false

abbrev shut : (ℕ → Bool) → ℕ → Bool
shut go zero = false
shut go (suc j) = go j

abbrev is_zero : ℕ → Bool
is_zero zero = true
is_zero (suc j) = false

-- the parts have parentheses in pairs, but for these that are open
abbrev flat : List Symbol → ℕ → Bool
flat [] j = is_zero j
flat (s.Tok c ∷ ss) j =
    cond (is_open c) (flat ss (suc j)) (cond (is_close c) (shut (flat ss) j)
    (type_class c && flat ss j))
flat (s.One m ∷ ss) j = of_types m && flat ss j
flat (s.Maybe m ∷ ss) j = of_types m && flat ss j
flat (s.Many m ∷ ss) j = false
flat (s.Longest m ∷ ss) j = of_types m && flat ss j

flat_body : (q : Production) → cond (of_types (head q)) (flat (body q) 0) true ≡ true
flat_body (p.OperatorChain or_level) = refl
flat_body (p.OperatorTail or_level) = refl
flat_body _ = refl

abbrev up : ℕ → ℕ → ℕ
up zero k = k
up (suc j) k = suc (up j k)

opened_by : (c : Class) → is_open c ≡ true → c ≡ class.Key key.OpenParen
opened_by (class.Key key.OpenParen) e = refl
opened_by (class.Key _) e = never e
opened_by _ e = never e

closed_by : (c : Class) → is_close c ≡ true → c ≡ class.Key key.CloseParen
closed_by (class.Key key.CloseParen) e = refl
closed_by (class.Key _) e = never e
closed_by _ e = never e

key_fits : {c : Class} {t : Token} (k : Key) → c ≡ class.Key k → fits c t ≡ true → token.Key k ≡ t
key_fits {t = t} k e f = is_key k t (subst (λ x. fits x t ≡ true) e f)

-- a token before what is neat
before : (ss : List Symbol) (c : Class) (t : Token) (j k : ℕ) (ts rest : List Token)
    → fits c t ≡ true → flat (s.Tok c ∷ ss) j ≡ true
    → ((i : ℕ) → flat ss i ≡ true → Neat (up i k) ts rest) → Neat (up j k) (t ∷ ts) rest
before ss c t j k ts rest f h go = first (is_open c) (is_close c) refl refl h
  where
    shutting : (i : ℕ) → is_close c ≡ true → shut (flat ss) i ≡ true → Neat (up i k) (t ∷ ts) rest
    shutting zero e g = never g
    shutting (suc i) e g =
        subst (λ x. Neat (suc (up i k)) (x ∷ ts) rest) (key_fits key.CloseParen (closed_by c e) f)
        (closes (go i g))

    first : (a b : Bool) → is_open c ≡ a → is_close c ≡ b
        → cond a (flat ss (suc j)) (cond b (shut (flat ss) j) (type_class c && flat ss j)) ≡ true
        → Neat (up j k) (t ∷ ts) rest
    first true b e d g =
        subst (λ x. Neat (up j k) (x ∷ ts) rest) (key_fits key.OpenParen (opened_by c e) f)
        (opens (go (suc j) g))
    first false true e d g = shutting j d g
    first false false e d g =
        let parts = and_parts (type_class c) (flat ss j) g in
        plain (class_type c t parts.0 f) (go j parts.1)

mutual
  neats : {l : Language} {m : Nonterminal} {ts mid rest : List Token} {v : Raw} (k : ℕ)
      → of_types m ≡ true → Derives l m ts v mid → Neat k mid rest → Neat k ts rest
  neats k h (by q a e x) g =
      let typed : of_types (head q) ≡ true = ap of_types e ∙ h in
      let flats : flat (body q) 0 ≡ true = rw typed at (flat_body q) in
      neats_all 0 k flats x g

  neats_all : {l : Language} {ss : List Symbol} {ts mid rest : List Token} {vs : List Raw}
      (j k : ℕ)
      → flat ss j ≡ true → Seq l ss ts vs mid → Neat k mid rest → Neat (up j k) ts rest
  neats_all zero k h end g = g
  neats_all (suc j) k h end g = never h
  neats_all {rest = rest} j k h (taken {c = c} {ss = ss} {t = t} {ts = ts} f x) g =
      before ss c t j k ts rest f h (λ i e. neats_all i k e x g)
  neats_all j k h (next {n = m} {ss = ss} d x) g =
      let parts = and_parts (of_types m) (flat ss j) h in
      neats (up j k) parts.0 d (neats_all j k parts.1 x g)
  neats_all j k h (without {n = m} {ss = ss} x) g =
      neats_all j k (and_parts (of_types m) (flat ss j) h).1 x g
  neats_all j k h (with {n = m} {ss = ss} d x) g =
      let parts = and_parts (of_types m) (flat ss j) h in
      neats (up j k) parts.0 d (neats_all j k parts.1 x g)
  neats_all j k h (stop x) g = never h
  neats_all j k h (again d x) g = never h
  neats_all j k h (bare {n = m} {ss = ss} e x) g =
      neats_all j k (and_parts (of_types m) (flat ss j) h).1 x g
  neats_all j k h (given {n = m} {ss = ss} e d x) g =
      let parts = and_parts (of_types m) (flat ss j) h in
      neats (up j k) parts.0 d (neats_all j k parts.1 x g)

pub type_neat : {l : Language} {ts : List Token} {v : Raw} → SpellsType l ts v → Neat 0 ts []
type_neat d = neats 0 refl d done
