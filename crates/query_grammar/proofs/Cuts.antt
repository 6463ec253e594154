-- Lists that are parted at a token.
use Rattle.std.proofs.Common.{◌≡◌, ℕ, zero, suc, Bool, true, false, cond, not, ◌&&◌}
use Rattle.std.proofs.Common.{List, [], ◌∷◌, ◌++◌, append_assoc, append-nil, refl, sym, ◌∙◌, ap}
use Rattle.std.proofs.Common.{subst}
use Rattle.std.proofs.Common.{Some, codes}
use Rattle.std.proofs.lemmas.Bool.{and_parts}
use Rattle.std.proofs.lemmas.Option.{none-some, same_Some}
use Rattle.expr_keys.specs.declared.keys.Key.TheVariants as key
use Rattle.expr_keys.specs.declared.tokens.Token.{Token}
use Rattle.expr_keys.specs.declared.tokens.Token.TheVariants as token
use Rattle.expr_keys.specs.Tokens.{fits_key}
use Rattle.expr_grammar.proofs.Tables.{is_key}
use Rattle.query_grammar.specs.Prolog.{Cut, here, there}
use Rattle.query_grammar.specs.Machine.{is_head, inside, but_last, is_outside}
use Rattle.query_grammar.specs.Words.{is_named}
use Rattle.query_grammar.proofs.Tokens.{heads, type_head, type_parts}
use Rattle.query_grammar.proofs.Neat.{Neat, done, opens, closes, plain}
use Rattle.xt_names.proofs.BoolLemmas.{never, and_both}

pub cut_at : (us : List Token) (t : Token) (rest : List Token) → Cut t rest (us ++ t ∷ rest) us
cut_at [] t rest = here
cut_at (u ∷ us) t rest = there (cut_at us t rest)

pub cut_is : {t : Token} {rest all us : List Token} → Cut t rest all us → all ≡ us ++ t ∷ rest
cut_is here = refl
cut_is (there {x = x} c) = ap (λ z. x ∷ z) (cut_is c)

pub neat_heads : {k : ℕ} {ts rest : List Token} → Neat k ts rest → heads rest ≡ true
    → heads ts ≡ true
neat_heads done h = h
neat_heads (opens g) h = neat_heads g h
neat_heads (closes g) h = neat_heads g h
neat_heads (plain {t = t} e g) h = and_both _ _ (type_head t e) (neat_heads g h)

-- no comma is among them
abbrev pub no_comma : List Token → Bool
no_comma [] = true
no_comma (t ∷ ts) = not (fits_key key.Comma t) && no_comma ts

pub neat_calm : {k : ℕ} {ts rest : List Token} → Neat k ts rest → no_comma rest ≡ true
    → no_comma ts ≡ true
neat_calm done h = h
neat_calm (opens g) h = neat_calm g h
neat_calm (closes g) h = neat_calm g h
neat_calm (plain {t = t} e g) h =
    let f = (type_parts t e).0 in let i = neat_calm g h in rw (f, i) refl

pub heads_cut : {t : Token} {rest all us : List Token} → Cut t rest all us → is_head t ≡ true
    → heads us ≡ true → heads rest ≡ true → heads all ≡ true
heads_cut here e f g = and_both _ _ e g
heads_cut (there {x = x} {us = us} c) e f g =
    let parts = and_parts (is_head x) (heads us) f in
    and_both _ _ parts.0 (heads_cut c e parts.1 g)

-- from so many open parentheses to none
pub data Level : ℕ → List Token → Type 0 where
  flat : Level zero []
  rise : {k : ℕ} {ts : List Token} → Level (suc k) ts → Level k (token.Key key.OpenParen ∷ ts)
  fall : {k : ℕ} {ts : List Token} → Level k ts → Level (suc k) (token.Key key.CloseParen ∷ ts)
  along : {k : ℕ} {t : Token} {ts : List Token} → fits_key key.OpenParen t ≡ false
      → fits_key key.CloseParen t ≡ false → Level k ts → Level k (t ∷ ts)

pub neat_level : {k : ℕ} {ts rest : List Token} → Neat k ts rest → Level zero rest → Level k ts
neat_level done l = l
neat_level (opens g) l = rise (neat_level g l)
neat_level (closes g) l = fall (neat_level g l)
neat_level (plain {t = t} e g) l =
    let p = type_parts t e in along p.1 p.2 (neat_level g l)

pub level_cut : {k : ℕ} {t : Token} {rest all us : List Token} → fits_key key.OpenParen t ≡ false
    → fits_key key.CloseParen t ≡ false → Level k us → Cut t rest all us → Level zero rest
    → Level k all
level_cut e f flat here l = along e f l
level_cut e f (rise g) (there c) l = rise (level_cut e f g c l)
level_cut e f (fall g) (there c) l = fall (level_cut e f g c l)
level_cut e f (along a b g) (there c) l = along a b (level_cut e f g c l)

-- what is in parentheses is found
pub inside_found : {k : ℕ} {us all ts : List Token} (acc : List Token) → Level k us
    → Cut (token.Key key.CloseParen) ts all us → inside k acc all ≡ Some (acc ++ us, ts)
inside_found {ts = ts} acc flat here = ap (λ z. Some (z, ts)) (sym (append-nil acc))
inside_found {k = zero} {ts = ts} acc (rise {ts = us} g) (there c) =
    inside_found (acc ++ token.Key key.OpenParen ∷ []) g c
    ∙ ap (λ z. Some (z, ts)) (append_assoc acc (token.Key key.OpenParen ∷ []) us)
inside_found {k = suc k} {ts = ts} acc (rise {ts = us} g) (there c) =
    inside_found (acc ++ token.Key key.OpenParen ∷ []) g c
    ∙ ap (λ z. Some (z, ts)) (append_assoc acc (token.Key key.OpenParen ∷ []) us)
inside_found {ts = ts} acc (fall {ts = us} g) (there c) =
    inside_found (acc ++ token.Key key.CloseParen ∷ []) g c
    ∙ ap (λ z. Some (z, ts)) (append_assoc acc (token.Key key.CloseParen ∷ []) us)
inside_found {k = zero} {ts = ts} acc (along {t = t} {ts = us} a b g) (there c) =
    rw (a, b) (inside_found (acc ++ t ∷ []) g c
    ∙ ap (λ z. Some (z, ts)) (append_assoc acc (t ∷ []) us))
inside_found {k = suc k} {ts = ts} acc (along {t = t} {ts = us} a b g) (there c) =
    rw (a, b) (inside_found (acc ++ t ∷ []) g c
    ∙ ap (λ z. Some (z, ts)) (append_assoc acc (t ∷ []) us))

-- .. and nothing else is
pub record Inside (acc all us ts : List Token) : Type 0 where
  pub more : List Token
  pub are : us ≡ acc ++ more
  pub cut : Cut (token.Key key.CloseParen) ts all more

further : (acc : List Token) (t : Token) (all us ts : List Token) → Inside
    (acc ++ t ∷ []) all us ts
    → Inside acc (t ∷ all) us ts
further acc t all us ts i =
    record {
      more = t ∷ i.more;
      are = i.are ∙ append_assoc acc (t ∷ []) i.more;
      cut =
          there i.cut;
    }

pair_same : (p q : List Token × List Token) → Some p ≡ Some q → (p.0 ≡ q.0) × (p.1 ≡ q.1)
pair_same p q e = let f = same_Some _ _ e in (ap (λ z. z.0) f, ap (λ z. z.1) f)

shut_here : (acc : List Token) (t : Token) (all us ts : List Token)
    → fits_key key.CloseParen t ≡ true → (acc ≡ us) × (all ≡ ts) → Inside acc (t ∷ all) us ts
shut_here acc t all us ts f p =
    let c : Cut (token.Key key.CloseParen) all (token.Key key.CloseParen ∷ all) [] = here in
    let d = subst (λ z. Cut (token.Key key.CloseParen) z
    (token.Key key.CloseParen ∷ all) []) p.1 c in
    let e = subst (λ z. Cut (token.Key key.CloseParen) ts (z ∷ all) [])
    (is_key key.CloseParen t f) d in
    record { more = []; are = sym p.0 ∙ sym (append-nil acc); cut = e }

inside_zero : (acc : List Token) (t : Token) (all us ts : List Token) (a b : Bool)
    → fits_key key.CloseParen t ≡ a
    → ((k : ℕ) → inside k (acc ++ t ∷ []) all ≡ Some (us, ts) → Inside (acc ++ t ∷ []) all us ts)
    → cond a (Some (acc, all)) (cond b (inside 1 (acc ++ t ∷ []) all)
    (inside zero (acc ++ t ∷ []) all)) ≡ Some (us, ts) → Inside acc (t ∷ all) us ts
inside_zero acc t all us ts true b f rec g = shut_here acc t all us ts f (pair_same _ _ g)
inside_zero acc t all us ts false true f rec g = further acc t all us ts (rec 1 g)
inside_zero acc t all us ts false false f rec g = further acc t all us ts (rec zero g)

inside_more : (k : ℕ) (acc : List Token) (t : Token) (all us ts : List Token) (a b : Bool)
    → ((k : ℕ) → inside k (acc ++ t ∷ []) all ≡ Some (us, ts) → Inside (acc ++ t ∷ []) all us ts)
    → cond a (inside k (acc ++ t ∷ []) all) (cond b (inside (suc (suc k)) (acc ++ t ∷ []) all)
    (inside (suc k) (acc ++ t ∷ []) all)) ≡ Some (us, ts) → Inside acc (t ∷ all) us ts
inside_more k acc t all us ts true b rec g = further acc t all us ts (rec k g)
inside_more k acc t all us ts false true rec g = further acc t all us ts (rec (suc (suc k)) g)
inside_more k acc t all us ts false false rec g = further acc t all us ts (rec (suc k) g)

pub inside_is : (k : ℕ) (acc all us ts : List Token) → inside k acc all ≡ Some (us, ts)
    → Inside acc all us ts
inside_is k acc [] us ts e = absurd (none-some _ e)
inside_is zero acc (t ∷ all) us ts e =
    inside_zero acc t all us ts (fits_key key.CloseParen t) (fits_key key.OpenParen t) refl
    (λ k g. inside_is k (acc ++ t ∷ []) all us ts g) e
inside_is (suc k) acc (t ∷ all) us ts e =
    inside_more k acc t all us ts (fits_key key.CloseParen t) (fits_key key.OpenParen t)
    (λ j g. inside_is j (acc ++ t ∷ []) all us ts g) e

-- the last token
pub last_found : {x : Token} {us hd : List Token} → Cut x [] us hd
    → (is_outside us ≡ is_named (codes "external") x) × (but_last us ≡ hd)
last_found here = (refl, refl)
last_found (there {x = y} here) = (refl, refl)
last_found (there {x = y} (there {x = z} c)) =
    let i = last_found (there {x = z} c) in (i.0, ap (λ w. y ∷ w) i.1)

pub record Last (us : List Token) : Type 0 where
  pub token : Token
  pub cut : Cut token [] us (but_last us)
  pub named : is_named (codes "external") token ≡ true

pub last_is : (us : List Token) → is_outside us ≡ true → Last us
last_is [] e = never e
last_is (t ∷ []) e = record { token = t; cut = here; named = e }
last_is (t ∷ u ∷ ts) e =
    let i = last_is (u ∷ ts) e in record { token = i.token; cut = there i.cut; named = i.named }

-- tokens of heads end at the same place
pub record SameCut (us hd : List Token) (t x : Token) (seg rest : List Token) : Type 0 where
  pub heads_are : hd ≡ us
  pub tokens_are : x ≡ t
  pub rest_is : rest ≡ seg

pub same_cut : (us : List Token) {t x : Token} {seg rest hd : List Token} → heads us ≡ true
    → heads hd ≡ true → is_head t ≡ false → is_head x ≡ false → Cut x rest (us ++ t ∷ seg) hd
    → SameCut us hd t x seg rest
same_cut [] h g e f here = record { heads_are = refl; tokens_are = refl; rest_is = refl }
same_cut [] {t = t} h g e f (there {us = hd} c) =
    never (sym e ∙ (and_parts (is_head t) (heads hd) g).0)
same_cut (u ∷ us) h g e f here = never (sym f ∙ (and_parts (is_head u) (heads us) h).0)
same_cut (u ∷ us) h g e f (there {us = hd} c) =
    let i = same_cut us (and_parts (is_head u) (heads us) h).1
    (and_parts (is_head u) (heads hd) g).1 e f c in
    record {
      heads_are = ap (λ z. u ∷ z) i.heads_are;
      tokens_are = i.tokens_are;
      rest_is =
          i.rest_is;
    }

-- a token that may not be in a head
pub no_heads : (us : List Token) (t : Token) (seg : List Token) → is_head t ≡ false
    → heads (us ++ t ∷ seg) ≡ true → ⊥
no_heads [] t seg e h = never (sym e ∙ (and_parts (is_head t) (heads seg) h).0)
no_heads (u ∷ us) t seg e h = no_heads us t seg e (and_parts (is_head u)
    (heads (us ++ t ∷ seg)) h).1
