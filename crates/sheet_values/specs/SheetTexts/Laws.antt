-- What attribute value templates mean, in the words of the Recommendation (XSLT 2.0, 5.6).
use Rattle.std.specs.Prelude.{◌≡◌, ℕ, List, [], ◌∷◌, ◌++◌, true}
use Rattle.xt_sheets.specs.declared.values.AvtPart.{AvtPart}
use Rattle.xt_sheets.specs.declared.values.AvtPart.TheVariants as part
use Rattle.sheet_values.specs.TemplateLaws.{doubled, is_expression}
use Rattle.sheet_values.specs.declared.sheet_texts.places.StaticContext.{StaticContext}
use Rattle.sheet_values.specs.SheetTexts.Readings.{Reading}
use Rattle.sheet_values.specs.SheetTexts.Templates.{template_faults, template_value}

-- the part of characters that stand for themselves, unless there are none
abbrev pub fixed : {E : Type 0} → List ℕ → List (AvtPart E)
fixed [] = []
fixed (c ∷ cs) = part.Chars (c ∷ cs) ∷ []

module _ {E P : Type 0} (r : Reading E P) where
  -- characters stand for themselves where each brace is doubled
  abbrev pub CharactersStand : Type 0
  CharactersStand = (p : StaticContext) (text : List ℕ)
      → (template_faults r p (doubled text) ≡ [])
      × (template_value r p (doubled text) ≡ fixed text)

  -- an expression in braces is a part, between what comes before it and the parts after it
  abbrev pub ExpressionsAreParts : Type 0
  ExpressionsAreParts = (p : StaticContext) (text code rest : List ℕ) → is_expression code ≡ true
      → (template_faults r p (doubled text ++ 123 ∷ (code ++ 125 ∷ rest))
      ≡ r.expr_faults p code ++ template_faults r p rest)
      × (template_value r p (doubled text ++ 123 ∷ (code ++ 125 ∷ rest))
      ≡ fixed text ++ (part.Code (r.expr_value p code) ∷ template_value r p rest))
