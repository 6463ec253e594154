-- The tokens of a text are tokens, and what they are in the grammar is sound.
use Rattle.std.proofs.Common.{◌≡◌, ℕ, zero, suc, ◌-◌, List, [], ◌∷◌, length}
use Rattle.std.proofs.Common.{Bool, true, false, Option, Some, None, option_map}
use Rattle.std.proofs.Common.{option_and_then, refl, sym, subst}
use Rattle.std.proofs.lemmas.Bool.{and_from}
use Rattle.std.proofs.lemmas.Option.{same_Some, none-some}
use Rattle.xpath_lex.specs.Tokens.{IsToken}
use Rattle.xpath_lex.specs.Readings.{ends_in_digit}
use Rattle.xpath_lex.specs.declared.lexing.TokenKind.{TokenKind}
use Rattle.xpath_lex.specs.declared.lexing.TokenKind.TheVariants.{Literal}
use Rattle.expr_keys.specs.declared.tokens.Token.{Token}
use Rattle.expr_tokens.specs.Terms.{Written, term_of, terms_of}
use Rattle.xpath_syntax.specs.ExprReadings.Readings.{terms_in}
use Rattle.expr_tokens.specs.TextTokens.Ends.{behind_gap, token_end}
use Rattle.expr_tokens.specs.TextTokens.Lexed.{front_of, token_of, with_token, lexed_here, lexed_behind}
use Rattle.expr_tokens.specs.TextTokens.Lexed.{lexed_from, lexed}
use Rattle.expr_tokens.proofs.TextTokens.TokenEnds as ends
use Rattle.expr_tokens.proofs.TextTokens.TokenEnds.{TokenEnd, token_found}
use Rattle.sound_expressions.specs.SoundForms.Sound.{is_sound_token, are_sound}
use Rattle.piece_laws.proofs.Terms.{term_fits, mapped}
use Rattle.closed_texts.proofs.SheetLaws.Literals.{unquoted_sound}
use Rattle.expr_tokens.proofs.TextTokens.LexedLemmas.{front_is}

abbrev AreTokens : List Written → Type 0
AreTokens [] = Unit {0}
AreTokens (w ∷ ws) = IsToken w.kind w.characters × AreTokens ws

abbrev Go : Type 0
Go = Bool → List ℕ → Option (List Written)

-- what goes on gives tokens alone
abbrev GivesTokens : Go → Type 0
GivesTokens go = (b : Bool) (ts : List ℕ) (ws : List Written) → go b ts ≡ Some ws → AreTokens ws

at_token : (go : Go) (b : Bool) (ts : List ℕ) (ws : List Written) (o : Option (TokenKind × List ℕ))
    → GivesTokens go → TokenEnd b ts o → with_token go ts o ≡ Some ws → AreTokens ws
at_token go b ts ws _ g (ends.none n) e = absurd (none-some _ e)
at_token go b ts ws _ g (ends.some {t = t} (run, m)) e =
    let f = mapped (λ us. token_of ts t ∷ us) (go (ends_in_digit (front_of ts t.1)) t.1) ws e in
    let is : IsToken t.0 (front_of ts t.1) =
    subst (IsToken t.0) (sym (front_is ts run t.1 m.begins.parts)) m.begins.is_token in
    subst AreTokens (sym f.2) (is, g (ends_in_digit (front_of ts t.1)) t.1 f.0 f.1)

here_tokens : (go : Go) (b : Bool) (ts : List ℕ) (ws : List Written) → GivesTokens go
    → lexed_here go ts (token_end b ts) ≡ Some ws → AreTokens ws
here_tokens go b [] ws g e = subst AreTokens (same_Some _ _ e) tt
here_tokens go b (c ∷ cs) ws g e =
    at_token go b (c ∷ cs) ws (token_end b (c ∷ cs)) g (token_found b (c ∷ cs)) e

behind_tokens : (go : Go) (r : Bool × List ℕ) (ws : List Written) → GivesTokens go
    → lexed_behind go r ≡ Some ws → AreTokens ws
behind_tokens go r ws g e = here_tokens go r.0 r.1 ws g e

from_tokens : (k : ℕ) → GivesTokens (lexed_from k)
from_tokens zero b ts ws e = absurd (none-some _ e)
from_tokens (suc k) b ts ws e =
    behind_tokens (lexed_from k) (behind_gap (length ts) b ts) ws (from_tokens k) e

lexed_tokens : (text : List ℕ) (ws : List Written) → lexed text ≡ Some ws → AreTokens ws
unfolding lexed
lexed_tokens text ws e = from_tokens (suc (length text)) false text ws e

-- what a token is in the grammar
literal_sound : (cs : List ℕ) (t : Token) → IsToken Literal cs → term_of Literal cs ≡ Some t
    → is_sound_token t ≡ true
literal_sound cs t i e =
    subst (λ x. is_sound_token x ≡ true) (same_Some _ _ e) (unquoted_sound cs i)

term_sound : (k : TokenKind) (cs : List ℕ) (t : Token) → IsToken k cs → term_of k cs ≡ Some t
    → is_sound_token t ≡ true
term_sound Literal cs t i e = literal_sound cs t i e
term_sound k cs t i e = (term_fits k cs t i refl e).sound

-- .. of all of them
joined : (o : Option Token) (p : Option (List Token)) (ts : List Token)
    → option_and_then (λ u. option_map (λ us. u ∷ us) p) o ≡ Some ts
    → (t : Token) × (us : List Token) × (o ≡ Some t) × (p ≡ Some us) × (ts ≡ t ∷ us)
joined None p ts e = absurd (none-some _ e)
joined (Some t) None ts e = absurd (none-some _ e)
joined (Some t) (Some us) ts e = (t, us, refl, refl, sym (same_Some _ _ e))

terms_sound : (ws : List Written) (ts : List Token) → AreTokens ws → terms_of ws ≡ Some ts
    → are_sound ts ≡ true
unfolding terms_of
terms_sound [] ts a e = subst (λ x. are_sound x ≡ true) (same_Some _ _ e) refl
terms_sound (w ∷ ws) ts a e =
    let j = joined (term_of w.kind w.characters) (terms_of ws) ts e in
    let first = term_sound w.kind w.characters j.0 a.0 j.2 in
    let others = terms_sound ws j.1 a.1 j.3 in
    subst (λ x. are_sound x ≡ true) (sym j.4) (and_from (is_sound_token j.0) _ first others)

in_lexed : (o : Option (List Written)) (text : List ℕ) (ts : List Token) → lexed text ≡ o
    → option_and_then terms_of o ≡ Some ts → are_sound ts ≡ true
in_lexed None text ts e f = absurd (none-some _ f)
in_lexed (Some ws) text ts e f = terms_sound ws ts (lexed_tokens text ws e) f

pub text_sound : (text : List ℕ) (ts : List Token) → terms_in text ≡ Some ts → are_sound ts ≡ true
text_sound text ts e = in_lexed (lexed text) text ts refl e
