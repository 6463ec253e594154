-- The classes of characters that the code takes in runs, and what comes next in a text.
use Rattle.std.specs.Prelude.{◌≡◌, ℕ, List, [], ◌∷◌, Bool, true, false, not, ◌&&◌, ◌||◌, ◌==◌, if◌then◌else◌, Option, Some}
use Rattle.xpath_lex.specs.Classes.{is_digit}
use Rattle.xt_names.specs.Characters.{is_char, is_quote, starts_name}

-- what may be in a comment and begins neither another one nor its end
unfoldable pub is_plain : ℕ → Bool
is_plain c = is_char c && not (c == 40) && not (c == 58)

-- what may be between such quotes, but for a quote
unfoldable pub is_inside : ℕ → ℕ → Bool
is_inside quote c = is_char c && not (c == quote)

-- what is left after the longest front that closes a literal, or the best so far: `behind` says
-- that a quote which closes it stands directly before
unfoldable pub literal_rest : ℕ → Bool → List ℕ → Option (List ℕ) → Option (List ℕ)
literal_rest quote behind [] best = best
literal_rest quote true (c ∷ cs) best =
    if c == quote then literal_rest quote false cs best else best
literal_rest quote false (c ∷ cs) best =
    if c == quote then literal_rest quote true cs (Some cs)
    else if is_char c then literal_rest quote false cs best else best

-- a character that begins no number, no literal and no name
pub record IsMark (c : ℕ) : Type 0 where
  pub digit : is_digit c ≡ false
  pub quote : is_quote c ≡ false
  pub name : starts_name c ≡ false

-- `(:`, or a point and a digit
unfoldable pub bars : ℕ → ℕ → Bool
bars c d = (c == 40 && d == 58) || (c == 46 && is_digit d)
