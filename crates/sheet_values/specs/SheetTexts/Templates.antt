-- What attribute value templates mean, part by part (XSLT 2.0, 5.6).
use Rattle.std.specs.Prelude.{ℕ, List, [], ◌∷◌, map}
use Rattle.xt_names.specs.declared.codes.Code.{Code}
use Rattle.xt_names.specs.declared.codes.Code.TheVariants.{SheetStatic}
use Rattle.xt_names.specs.declared.codes.SheetStaticCode.TheVariants.{XTSE0350, XTSE0370}
use Rattle.xt_sheets.specs.declared.values.AvtPart.{AvtPart}
use Rattle.xt_sheets.specs.declared.values.AvtPart.TheVariants as part
use Rattle.sheet_values.specs.Rules.{each}
use Rattle.sheet_values.specs.Templates.{pieces_of}
use Rattle.sheet_values.specs.declared.templates.Piece.{Piece}
use Rattle.sheet_values.specs.declared.templates.Piece.TheVariants.{Chars, Code as Expression}
use Rattle.sheet_values.specs.declared.templates.Piece.TheVariants.{LoneOpen, LoneClose}
use Rattle.sheet_values.specs.declared.sheet_texts.places.StaticContext.{StaticContext}
use Rattle.sheet_values.specs.SheetTexts.Readings.{Reading}

module _ {E P : Type 0} (r : Reading E P) (p : StaticContext) where
  -- each brace has its partner, and each expression is read
  abbrev pub piece_faults : Piece → List Code
  piece_faults (Chars t) = []
  piece_faults (Expression t) = r.expr_faults p t
  piece_faults LoneOpen = SheetStatic XTSE0350 ∷ []
  piece_faults LoneClose = SheetStatic XTSE0370 ∷ []

  abbrev pub piece_value : Piece → AvtPart E
  piece_value (Chars t) = part.Chars t
  piece_value (Expression t) = part.Code (r.expr_value p t)
  piece_value LoneOpen = part.Chars []
  piece_value LoneClose = part.Chars []

  abbrev pub template_faults : List ℕ → List Code
  template_faults text = each piece_faults (pieces_of text)

  abbrev pub template_value : List ℕ → List (AvtPart E)
  template_value text = map piece_value (pieces_of text)
