-- Tokens, one after the other.
use Rattle.std.proofs.Common.{◌≡◌, ℕ, List, [], ◌∷◌, ◌++◌, Option, Some, None, option_map, refl, sym, ap, ◌∙◌, append_assoc, append-nil, map, drop, get_or, length, ◌<◌, ◌≤◌, ◌+◌}
use Rattle.std.specs.Str.{chars}
use Rattle.expr_keys.specs.declared.tokens.Token.{Token}
use Rattle.std.proofs.Math.ListN.{drop_of_length-le}
use Rattle.xpath_lex.specs.declared.lexing.Token.{Token as Lexed}
use Rattle.expr_tokens.specs.Terms.{Written, written, term_of, terms_of}
use Rattle.xt_names.proofs.ListLemmas.{drop_next}

-- the terms of these tokens after those
pub behind : List Token → Option (List Token) → Option (List Token)
behind us o = option_map (λ vs. us ++ vs) o

none_behind : (t : Written) (ts : List Written) → term_of t.kind t.characters ≡ None → terms_of (t ∷ ts) ≡ None
unfolding terms_of
none_behind t ts e = rw e refl

one_behind : (us : List Token) (u : Token) (o : Option (List Token)) → behind us (option_map (λ vs. u ∷ vs) o) ≡ behind (us ++ u ∷ []) o
unfolding behind
one_behind us u None = refl
one_behind us u (Some vs) = ap Some (sym (append_assoc us (u ∷ []) vs))

pub more_behind : (us : List Token) (u : Token) (t : Written) (ts : List Written) → term_of t.kind t.characters ≡ Some u → behind us (terms_of (t ∷ ts)) ≡ behind (us ++ u ∷ []) (terms_of ts)
unfolding terms_of
more_behind us u t ts e = rw e (one_behind us u (terms_of ts))

pub stops_behind : (us : List Token) (t : Written) (ts : List Written) → term_of t.kind t.characters ≡ None → behind us (terms_of (t ∷ ts)) ≡ None
unfolding behind
stops_behind us t ts e = rw (none_behind t ts e) refl

nothing_first : (o : Option (List Token)) → behind [] o ≡ o
unfolding behind
nothing_first None = refl
nothing_first (Some vs) = refl

pub begins_behind : (ts : List Written) → terms_of ts ≡ behind [] (terms_of ts)
begins_behind ts = sym (nothing_first (terms_of ts))

pub ends_behind : (us : List Token) → behind us (terms_of []) ≡ Some us
unfolding behind terms_of
ends_behind us = ap Some (append-nil us)

pub more_at : (all : List Lexed) (i : ℕ) (t : Lexed) (us : List Token) (u : Token) → i < length all → Some u ≡ term_of (get_or all i t).kind (chars (get_or all i t).text.now) → behind us (terms_of (map written (drop i all))) ≡ behind (us ++ u ∷ []) (terms_of (map written (drop (i + 1) all)))
more_at all i t us u h e = ap (λ x. behind us (terms_of (map written x))) (drop_next all i t h) ∙ more_behind us u _ _ (sym e)

pub stops_at : (all : List Lexed) (i : ℕ) (t : Lexed) (us : List Token) → i < length all → None ≡ term_of (get_or all i t).kind (chars (get_or all i t).text.now) → terms_of (map written all) ≡ behind us (terms_of (map written (drop i all))) → None ≡ terms_of (map written all)
stops_at all i t us h e g = sym (g ∙ ap (λ x. behind us (terms_of (map written x))) (drop_next all i t h) ∙ stops_behind us _ _ (sym e))

pub ends_at : (all : List Lexed) (i : ℕ) (us : List Token) → length all ≤ i → terms_of (map written all) ≡ behind us (terms_of (map written (drop i all))) → Some us ≡ terms_of (map written all)
ends_at all i us h g = sym (g ∙ ap (λ x. behind us (terms_of (map written x))) (drop_of_length-le all h) ∙ ends_behind us)

pub ruleset terms = (begins_behind, more_at, stops_at, ends_at)
