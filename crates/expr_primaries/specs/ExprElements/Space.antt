-- The content of direct elements and their attributes, and boundary white space (XQuery 1.0, 3.7.1.4).
use Rattle.std.specs.Prelude.{ℕ, List, [], ◌∷◌, ◌++◌, Bool, true, ◌&&◌, ◌||◌, map, if◌then◌else◌}
use Rattle.std.specs.List.{list_all}
use Rattle.xt_names.specs.Allowed.{is_empty_text}
use Rattle.xt_names.specs.Marks.{is_white}
use Rattle.xt_syntax.specs.declared.exprs.Part.{Part}
use Rattle.xt_syntax.specs.declared.exprs.Part.TheVariants as part
use Rattle.expr_keys.specs.declared.tokens.Token.{Token}
use Rattle.expr_keys.specs.declared.tokens.Token.TheVariants as token
use Rattle.expr_rules.specs.declared.expr_meant.meant.Meant.{Meant}
use Rattle.expr_rules.specs.declared.expr_meant.meant.Meant.TheVariants as meant
use Rattle.expr_primaries.specs.declared.expr_elements.space.Piece.{Piece}
use Rattle.expr_primaries.specs.declared.expr_elements.space.Piece.TheVariants.{Run, Whole}
use Rattle.expr_primaries.specs.declared.expr_elements.space.Joined.{Joined}

abbrev pub is_white_text : List ℕ → Bool
is_white_text text = list_all is_white text

-- the characters of one run; `blank` says that all of them are literal white space
unfoldable pub run_part : Bool → List ℕ → Bool → List Part
run_part strip text blank = if is_empty_text text || (strip && blank) then [] else part.Chars text ∷ []

-- the parts of the pieces after a run that has begun
abbrev pub joined_from : Bool → List ℕ → Bool → List Piece → List Part
joined_from strip text blank [] = run_part strip text blank
joined_from strip text blank (Run more literal ∷ ps) = joined_from strip (text ++ more) (blank && (literal && is_white_text more)) ps
joined_from strip text blank (Whole whole ∷ ps) = run_part strip text blank ++ whole ∷ joined_from strip [] true ps

-- characters that stand beside each other are one part; it goes where they are literal white space and `strip` is set
abbrev pub joined : Bool → List Piece → List Part
joined strip ps = joined_from strip [] true ps

-- the parts so far, and those of the pieces to come
unfoldable pub with_pieces : Bool → Joined → List Piece → List Part
with_pieces strip c ps = c.parts ++ joined_from strip c.run c.blank ps

-- a token that is no characters adds nothing
unfoldable pub piece_in : Token → Piece
piece_in (token.Chars text literal) = Run text literal
piece_in _ = Run [] true

unfoldable pub piece_of : Meant → Piece
piece_of (meant.Token t) = piece_in t
piece_of (meant.Part whole) = Whole whole
piece_of _ = Run [] true

abbrev pub parts_of : Bool → List Meant → List Part
parts_of strip ms = joined strip (map piece_of ms)
