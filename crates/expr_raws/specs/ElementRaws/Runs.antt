-- Characters of content and of values of attributes in runs: as many as stand for themselves, one
-- that is doubled, or one that a reference is written for (XQuery 1.0, 3.7.1.1 and 3.7.1.3).
use Rattle.std.specs.Prelude.{ℕ, Bool, true, false, ◌&&◌, ◌||◌, ◌==◌, not, List, [], ◌∷◌, map}
use Rattle.std.specs.Prelude.{if◌then◌else◌}
use Rattle.std.specs.List.{list_all, list_any}
use Rattle.expr_keys.specs.declared.tokens.Token.{Token}
use Rattle.expr_keys.specs.declared.tokens.Token.TheVariants as token
use Rattle.expr_raws.specs.ExprPrimaries.declared.expr_elements.space.Piece.{Piece}
use Rattle.expr_raws.specs.ExprPrimaries.declared.expr_elements.space.Piece.TheVariants.{Run as piece}
use Rattle.xt_names.specs.Characters.{is_referred, is_char}

-- characters that are marks, in the value of an attribute between double quotes or in content
abbrev pub is_markup : Bool → ℕ → Bool
is_markup true c =
    list_any (λ d. c == d) (34 ∷ 60 ∷ 38 ∷ 123 ∷ 125 ∷ 9 ∷ 10 ∷ 13 ∷ [])
is_markup false c = list_any (λ d. c == d) (60 ∷ 38 ∷ 123 ∷ 125 ∷ 13 ∷ [])

-- a character that stands for itself
abbrev pub is_itself : Bool → ℕ → Bool
is_itself x c = is_char c && not (is_markup x c)

-- a brace, or in a value the quote
abbrev pub is_doubled : Bool → ℕ → Bool
is_doubled true c = c == 34 || (c == 123 || c == 125)
is_doubled false c = c == 123 || c == 125

-- characters, and whether they stand so in the text
pub record Run : Type 0 where
  pub characters : List ℕ
  pub literal : Bool

abbrev pub run : List ℕ → Bool → Run
run cs b = record { characters = cs; literal = b }

abbrev pub starts_itself : Bool → List ℕ → Bool
starts_itself x [] = false
starts_itself x (c ∷ cs) = is_itself x c

-- whether the run is of characters that stand for themselves
abbrev pub is_plain : Bool → Run → Bool
is_plain x r = r.literal && starts_itself x r.characters

-- a character that stands for itself joins such ones after it
abbrev pub with_char : Bool → ℕ → List Run → List Run
with_char x c [] = run (c ∷ []) true ∷ []
with_char x c (r ∷ rs) =
    if is_plain x r then run (c ∷ r.characters) true ∷ rs else run (c ∷ []) true ∷ r ∷ rs

abbrev pub runs : Bool → List ℕ → List Run
runs x [] = []
runs x (c ∷ cs) =
    if is_itself x c then with_char x c (runs x cs) else run (c ∷ []) (is_doubled x c) ∷ runs x cs

abbrev pub run_token : Run → Token
run_token r = token.Chars r.characters r.literal

abbrev pub run_tokens : Bool → List ℕ → List Token
run_tokens x cs = map (λ r. run_token r) (runs x cs)

-- whether the character can be written
abbrev pub has_way : Bool → ℕ → Bool
has_way x c = is_itself x c || (is_doubled x c || is_referred c)

-- some characters that can be written
abbrev pub can_run : Bool → List ℕ → Bool
can_run x [] = false
can_run x (c ∷ cs) = list_all (has_way x) (c ∷ cs)

-- as the pieces that are joined again
abbrev pub pieces : List Run → List Piece
pieces rs = map (λ r. piece r.characters r.literal) rs
