-- Which tokens may stand where.
use Rattle.std.proofs.Common.{◌≡◌, ◌⊎◌, inl, inr, ℕ, Bool, true, false, cond, not, ◌&&◌, ◌||◌}
use Rattle.std.proofs.Common.{List, [], ◌∷◌, refl, subst}
use Rattle.std.proofs.lemmas.Bool.{and_parts, or_cases}
use Rattle.expr_keys.specs.declared.keys.Key.{Key}
use Rattle.expr_keys.specs.declared.keys.Key.TheVariants as key
use Rattle.expr_keys.specs.declared.tokens.Token.{Token}
use Rattle.expr_keys.specs.declared.tokens.Token.TheVariants as token
use Rattle.expr_keys.specs.declared.productions.Class.{Class}
use Rattle.expr_keys.specs.declared.productions.Class.TheVariants as class
use Rattle.expr_keys.specs.Keys.{is_worded, is_reserved}
use Rattle.expr_keys.specs.Tokens.{fits_key, fits_name, fits_word, fits_function}
use Rattle.expr_keys.specs.Classes.{fits, fits_any, fits_quoted, keys_of}
use Rattle.expr_grammar.proofs.Tables.{is_key, function_key}
use Rattle.query_grammar.specs.Machine.{is_head, is_head_key}
use Rattle.query_grammar.specs.Words.{is_named}
use Rattle.xt_names.proofs.BoolLemmas.{never, is_false}

-- all of the tokens may be in the head of a declaration
abbrev pub heads : List Token → Bool
heads [] = true
heads (t ∷ ts) = is_head t && heads ts

worded_head : (k : Key) → cond (is_worded k) (is_head_key k) true ≡ true
worded_head key.OpenParen = refl
worded_head _ = refl

worded_heads : (k : Key) → is_worded k ≡ true → is_head_key k ≡ true
worded_heads k e = rw e at (worded_head k)

pub name_head : (t : Token) → fits_name t ≡ true → is_head t ≡ true
name_head (token.Key k) e = worded_heads k e
name_head (token.Name n) e = refl
name_head (token.Qname p n) e = refl
name_head _ e = never e

pub word_head : (t : Token) → fits_word t ≡ true → is_head t ≡ true
word_head (token.Key k) e = worded_heads k e
word_head (token.Name n) e = refl
word_head _ e = never e

pub function_head : (t : Token) → fits_function t ≡ true → is_head t ≡ true
function_head (token.Key k) e = worded_heads k (function_key (is_reserved k) _ e)
function_head (token.Name n) e = refl
function_head (token.Qname p n) e = refl
function_head _ e = never e

pub quoted_head : (t : Token) → fits_quoted t ≡ true → is_head t ≡ true
quoted_head (token.Quoted cs) e = refl
quoted_head _ e = never e

pub named_head : (w : List ℕ) (t : Token) → is_named w t ≡ true → is_head t ≡ true
named_head w (token.Name n) e = refl
named_head w _ e = never e

pub key_head : (k : Key) (t : Token) → is_head_key k ≡ true → fits_key k t ≡ true
    → is_head t ≡ true
key_head k t h f = subst (λ x. is_head x ≡ true) (is_key k t f) h

-- a token of a type that is no parenthesis
abbrev pub type_key : Key → Bool
type_key k = is_head_key k && (not (fits_key key.Comma (token.Key k))
    && (not (fits_key key.OpenParen (token.Key k)) && not (fits_key key.CloseParen
    (token.Key k))))

abbrev pub in_type : Token → Bool
in_type (token.Key k) = type_key k
in_type t = is_head t

worded_low : (k : Key) → cond (is_worded k) (type_key k) true ≡ true
worded_low key.OpenParen = refl
worded_low _ = refl

worded_type : (k : Key) → is_worded k ≡ true → type_key k ≡ true
worded_type k e = rw e at (worded_low k)

pub name_type : (t : Token) → fits_name t ≡ true → in_type t ≡ true
name_type (token.Key k) e = worded_type k e
name_type (token.Name n) e = refl
name_type (token.Qname p n) e = refl
name_type _ e = never e

word_type : (t : Token) → fits_word t ≡ true → in_type t ≡ true
word_type (token.Key k) e = worded_type k e
word_type (token.Name n) e = refl
word_type _ e = never e

quoted_type : (t : Token) → fits_quoted t ≡ true → in_type t ≡ true
quoted_type (token.Quoted cs) e = refl
quoted_type _ e = never e

pub key_type : (k : Key) (t : Token) → type_key k ≡ true → fits_key k t ≡ true → in_type t ≡ true
key_type k t h f = subst (λ x. in_type x ≡ true) (is_key k t f) h

abbrev all_type : List Key → Bool
all_type [] = true
all_type (k ∷ ks) = type_key k && all_type ks

either_of : {P : Type 0} {a b : Bool} → (a ≡ true → P) → (b ≡ true → P)
    → (a ≡ true) ⊎ (b ≡ true) → P
either_of f g (inl x) = f x
either_of f g (inr x) = g x

either : {P : Type 0} {a b : Bool} → (a ≡ true → P) → (b ≡ true → P) → (a || b) ≡ true → P
either {a = a} {b = b} f g e = either_of f g (or_cases a b e)

any_type : (ks : List Key) (t : Token) → all_type ks ≡ true → fits_any ks t ≡ true
    → in_type t ≡ true
any_type [] t h f = never f
any_type (k ∷ ks) t h f =
    let parts = and_parts (type_key k) (all_type ks) h in
    either (λ x. key_type k t parts.0 x) (λ x. any_type ks t parts.1 x) f

-- a class whose tokens stand in types
abbrev pub type_class : Class → Bool
type_class (class.Key k) = type_key k
type_class class.PlainKind = true
type_class class.NamedKind = true
type_class class.Mark = true
type_class class.Target = true
type_class class.NameOrStar = true
type_class class.Name = true
type_class _ = false

pub class_type : (c : Class) (t : Token) → type_class c ≡ true → fits c t ≡ true → in_type t
    ≡ true
class_type (class.Key k) t h f = key_type k t h f
class_type class.PlainKind t h f = any_type (keys_of class.PlainKind) t refl f
class_type class.NamedKind t h f = any_type (keys_of class.NamedKind) t refl f
class_type class.Mark t h f = any_type (keys_of class.Mark) t refl f
class_type class.Target t h f = either (λ x. word_type t x) (λ x. quoted_type t x) f
class_type class.NameOrStar t h f =
    either (λ x. name_type t x) (λ x. key_type key.Star t refl x) f
class_type class.Name t h f = name_type t f
class_type _ t h f = never h

pub type_head : (t : Token) → in_type t ≡ true → is_head t ≡ true
type_head (token.Key k) e = (and_parts (is_head_key k) _ e).0
type_head (token.Name n) e = e
type_head (token.Qname p n) e = e
type_head (token.AnyLocal p) e = e
type_head (token.AnyPrefix n) e = e
type_head (token.Digits n) e = e
type_head (token.Quoted cs) e = e
type_head _ e = never e

pub type_parts : (t : Token) → in_type t ≡ true → (fits_key key.Comma t ≡ false)
    × (fits_key key.OpenParen t ≡ false) × (fits_key key.CloseParen t ≡ false)
type_parts (token.Key k) e =
    let a = and_parts (is_head_key k) _ e in
    let b = and_parts (not (fits_key key.Comma (token.Key k))) _ a.1 in
    let c = and_parts (not (fits_key key.OpenParen (token.Key k))) _ b.1 in
    (is_false _ b.0, is_false _ c.0, is_false _ c.1)
type_parts _ e = (refl, refl, refl)
