-- What it is that tokens can be written before others that can.
use Rattle.std.proofs.Common.{◌≡◌, ℕ, nat_le, List, [], ◌∷◌, Bool, true, false, ◌&&◌, cond, refl}
use Rattle.std.proofs.Common.{sym, ◌∙◌, ap, subst, Option, Some, None}
use Rattle.std.proofs.lemmas.Bool.{and_parts, and_from}
use Rattle.expr_keys.specs.declared.keys.Key.{Key}
use Rattle.expr_keys.specs.declared.keys.Key.TheVariants as key
use Rattle.expr_keys.specs.declared.tokens.Token.{Token}
use Rattle.expr_keys.specs.declared.tokens.Token.TheVariants as token
use Rattle.expr_keys.specs.declared.productions.Production.{Production}
use Rattle.expr_terms.specs.declared.raws.Raw.{Raw}
use Rattle.expr_terms.specs.declared.raws.Raw.TheVariants.{Node as node, outs-Node}
use Rattle.expr_terms.specs.declared.raws.Raw.TheViews.{out-Raw}
use Rattle.expr_terms.specs.declared.raws.Raw.TheOpen.{Node}
use Rattle.query_pieces.specs.declared.contexts.Context.{Context}
use Rattle.query_pieces.specs.declared.contexts.Context.TheVariants as context
use Rattle.query_pieces.specs.declared.contexts.Change.TheVariants as change
use Rattle.query_pieces.specs.Points.{changed, in_expression, change_of_key}
use Rattle.query_pages.specs.TokenTexts.Texts.{innermost, token_change, behind_token, behind_piece}
use Rattle.query_pages.specs.TokenTexts.Written.{is_token, is_piece, joins, is_written_in}
use Rattle.expr_raws.specs.PathRaws.Forms.{Form, list, said, parenthesized, all_said}
use Rattle.expr_raws.specs.PathRaws.Paths.{with_token}
use Rattle.expr_raws.specs.ElementRaws.Makers.{braced}
use Rattle.expr_raws.specs.ElementRaws.Direct.{child_tokens, is_element}
use Rattle.token_laws.specs.WrittenTokens.Fit.{is_fit, are_fit}
use Rattle.token_laws.proofs.FitTokens.Fits.{Fit}

abbrev pub W : List Context → List Token → Type 0
W cs ts = is_written_in cs ts ≡ true

-- tokens before others, where tokens of expressions stand
abbrev pub Says : (List Token → List Token) → Type 0
Says tokens = (cs : List Context) → in_expression cs ≡ true → (rest : List Token)
    → Fit (tokens rest) → (Fit rest → W cs rest) → W cs (tokens rest)

pub clash : {A : Type 0} (c : Bool) → c ≡ false → c ≡ true → A
clash true e h = cc
clash false e h = cc

-- a token of expressions
pub in_case : (cs : List Context) → in_expression cs ≡ true → (t : Token) (ts : List Token)
    → is_token t ≡ true → W (behind_token cs t) ts → W cs (t ∷ ts)
in_case cs e t ts a w =
    subst (λ b. cond b (is_token t && is_written_in (behind_token cs t) ts)
    (is_piece (innermost cs) t ts && is_written_in (behind_piece cs t) ts) ≡ true) (sym e)
    (and_from (is_token t) (is_written_in (behind_token cs t) ts) a w)

-- .. that opens and closes nothing
pub record Stays (t : Token) : Type 0 where
  pub token : is_fit t ≡ true → is_token t ≡ true
  pub calm : token_change t ≡ change.Stays

pub one_says : (t : Token) → Stays t → Says (λ rest. t ∷ rest)
one_says t s cs i rest g h =
    let f = and_parts (is_fit t) (are_fit rest) g in
    in_case cs i t rest (s.token f.0)
    (subst (λ c. W (changed c cs) rest) (sym s.calm) (h f.1))

pub key_stays : (k : Key) → change_of_key k ≡ change.Stays → Stays (token.Key k)
key_stays k e = record { token = λ h. refl; calm = e }

pub key_says : (k : Key) → change_of_key k ≡ change.Stays → Says (λ rest. token.Key k ∷ rest)
key_says k e = one_says (token.Key k) (key_stays k e)

pub paren_says : (f : Form) → Says f.tokens → Says (λ rest. parenthesized f rest)
paren_says f s cs i rest g h = key_says key.OpenParen refl cs i _ g
    (λ a. s cs i _ a (λ b. key_says key.CloseParen refl cs i rest b h))

-- at each place
pub said_says : (n : ℕ) (f : Form) → Says f.tokens → Says (λ rest. said n f rest)
said_says n f s = go (nat_le f.place n)
  where
    go : (b : Bool) → Says (λ rest. cond b (f.tokens rest) (parenthesized f rest))
    go true = s
    go false = paren_says f s

pub braced_says : (f : Form) → Says f.tokens → Says (λ rest. braced f rest)
braced_says f s cs i rest g h = in_case cs i (token.Key key.OpenBrace) (said list f
    (token.Key key.CloseBrace ∷ rest)) refl
    (said_says list f s (context.Enclosed ∷ cs) refl _ g
    (λ a. in_case (context.Enclosed ∷ cs) refl (token.Key key.CloseBrace) rest refl (h a)))

abbrev pub AllSay : List Form → Type 0
AllSay [] = Unit {0}
AllSay (f ∷ fs) = Says f.tokens × AllSay fs

pub all_says : (n : ℕ) (fs : List Form) → AllSay fs → Says (λ rest. all_said n fs rest)
all_says n [] s cs i rest g h = h g
all_says n (f ∷ []) s cs i rest g h = said_says n f s.0 cs i rest g h
all_says n (f ∷ e ∷ fs) s cs i rest g h = said_says n f s.0 cs i _ g
    (λ a. key_says key.Comma refl cs i _ a (λ b. all_says n (e ∷ fs) s.1 cs i rest b h))

-- an element within the content of another one
pub record Inside (tokens : List Token → List Token) : Type 0 where
  pub apart : (rest : List Token)
      → joins context.Content (child_tokens (tokens rest)) ≡ false
  pub inside : (cs : List Context) (rest : List Token) → Fit (child_tokens (tokens rest))
      → (Fit rest → W (context.Content ∷ cs) rest)
      → W (context.Content ∷ cs) (child_tokens (tokens rest))

-- the tokens of an expression can be written, and where it is an element, as those of a child
pub record Written (f : Form) : Type 0 where
  pub whole : Says f.tokens
  pub child : is_element (out-Raw f.raw) ≡ true → Inside f.tokens

pub no_child : {A : Type 0} (p : Production) (vs : List Raw) → is_element (Node p vs) ≡ false
    → is_element (out-Raw (node p vs)) ≡ true → A
no_child p vs e h = clash (is_element (Node p vs)) e (ap is_element (sym (outs-Node p vs)) ∙ h)

-- what is no direct element
pub plain : (f : Form) (p : Production) (vs : List Raw) → f.raw ≡ node p vs
    → is_element (Node p vs) ≡ false → Says f.tokens → Written f
plain f p vs r e s = record {
  whole = s;
  child = λ h. no_child p vs e (ap (λ v. is_element (out-Raw v)) (sym r) ∙ h);
}

-- with the token, where there is one
pub found : (P : Form → Type 0) (o : Option Token) (f : Token → Form)
    → ((t : Token) → o ≡ Some t → Stays t)
    → ((t : Token) → Stays t → (f t).can ≡ true → P (f t))
    → (with_token o f).can ≡ true → P (with_token o f)
found P None f s w c = absurd (cc)
found P (Some t) f s w c = w t (s t refl) c
