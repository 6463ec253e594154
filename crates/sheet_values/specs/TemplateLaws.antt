-- What the parts of a template are (XSLT 2.0, 5.6).
use Rattle.std.specs.Prelude.{◌≡◌, ℕ, List, [], ◌∷◌, ◌++◌, Bool, true, not, ◌&&◌, ◌||◌, ◌==◌}
use Rattle.std.specs.Prelude.{if◌then◌else◌}
use Rattle.sheet_values.specs.Within.{next_within, is_outside}
use Rattle.sheet_values.specs.Templates.{fixed_part, pieces_of}
use Rattle.sheet_values.specs.declared.within.Within.{Within}
use Rattle.sheet_values.specs.declared.within.Within.TheVariants.{Outside}
use Rattle.sheet_values.specs.declared.templates.Piece.{Piece}
use Rattle.sheet_values.specs.declared.templates.Piece.TheVariants.{Code}

-- the characters with each brace doubled
abbrev pub doubled : List ℕ → List ℕ
doubled [] = []
doubled (c ∷ cs) = if c == 123 || c == 125 then c ∷ c ∷ doubled cs else c ∷ doubled cs

-- no `}` stands outside of literals and comments, and none of these is open at the end
abbrev pub is_whole : Within → List ℕ → Bool
is_whole within [] = is_outside within
is_whole within (c ∷ cs) = not (c == 125 && is_outside within) && is_whole (next_within within c) cs

-- the text of an expression: it is whole, and does not begin with a `{`
abbrev pub is_expression : List ℕ → Bool
is_expression [] = true
is_expression (c ∷ cs) = not (c == 123) && is_whole Outside (c ∷ cs)

-- characters stand for themselves where each brace is doubled
abbrev pub FixedPartsAreRead : Type 0
FixedPartsAreRead = (text : List ℕ) → pieces_of (doubled text) ≡ fixed_part text

-- an expression in braces is a part, between what comes before it and the parts after it
abbrev pub ExpressionsAreRead : Type 0
ExpressionsAreRead = (text code rest : List ℕ) → is_expression code ≡ true
    → pieces_of (doubled text ++ 123 ∷ (code ++ 125 ∷ rest))
    ≡ fixed_part text ++ (Code code ∷ pieces_of rest)
