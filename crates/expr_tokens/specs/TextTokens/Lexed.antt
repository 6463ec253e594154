-- The tokens of a text, as one function of its characters (XPath 2.0, A.2).
use Rattle.std.specs.Prelude.{◌≡◌, ℕ, zero, suc, ◌-◌, List, [], ◌∷◌, length, take, map}
use Rattle.std.specs.Prelude.{Bool, false, Option, Some, None, option_map}
use Rattle.xpath_lex.specs.Readings.{Placed, Tokens, Fault, ends_in_digit}
use Rattle.xpath_lex.specs.declared.lexing.TokenKind.{TokenKind}
use Rattle.expr_tokens.specs.Terms.{Written}
use Rattle.expr_tokens.specs.TextTokens.Ends.{behind_gap, token_end}

-- the characters before what is left
abbrev pub front_of : List ℕ → List ℕ → List ℕ
front_of ts rest = take (length ts - length rest) ts

abbrev pub token_of : List ℕ → TokenKind × List ℕ → Written
token_of ts t = record { kind = t.0; characters = front_of ts t.1 }

abbrev pub with_token : (Bool → List ℕ → Option (List Written)) → List ℕ
    → Option (TokenKind × List ℕ) → Option (List Written)
with_token go ts None = None
with_token go ts (Some t) =
    option_map (λ ws. token_of ts t ∷ ws) (go (ends_in_digit (front_of ts t.1)) t.1)

abbrev pub lexed_here : (Bool → List ℕ → Option (List Written)) → List ℕ
    → Option (TokenKind × List ℕ) → Option (List Written)
lexed_here go [] found = Some []
lexed_here go (c ∷ cs) found = with_token go (c ∷ cs) found

abbrev pub lexed_behind : (Bool → List ℕ → Option (List Written)) → Bool × List ℕ
    → Option (List Written)
lexed_behind go g = lexed_here go g.1 (token_end g.0 g.1)

-- the tokens, up to so many
abbrev pub lexed_from : ℕ → Bool → List ℕ → Option (List Written)
lexed_from zero behind ts = None
lexed_from (suc k) behind ts = lexed_behind (lexed_from k) (behind_gap (length ts) behind ts)

-- the tokens of a text; none where no token begins somewhere in it
unfoldable pub lexed : List ℕ → Option (List Written)
lexed text = lexed_from (suc (length text)) false text

-- a token without its place
abbrev pub unplaced : Placed → Written
unplaced t = record { kind = t.kind; characters = t.characters }

-- a text that is read as tokens has these
abbrev pub TokensAreLexed : Type 0
TokensAreLexed = (total : ℕ) (text : List ℕ) (tokens : List Placed)
    → Tokens total false text tokens → lexed text ≡ Some (map unplaced tokens)

-- and one in which no token begins somewhere has none
abbrev pub FaultsAreNotLexed : Type 0
FaultsAreNotLexed = (total : ℕ) (text : List ℕ) (place : ℕ) → Fault total false text place
    → lexed text ≡ None
