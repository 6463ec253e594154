-- What puts items into one group: exactly one of three attributes (XSLT 2.0, 14.3).
use Rattle.std.specs.Prelude.{ℕ, List, [], ◌∷◌, ◌++◌, Bool, not, ◌&&◌, ◌||◌, if◌then◌else◌, codes}
use Rattle.xt_names.specs.declared.codes.Code.{Code}
use Rattle.xt_names.specs.declared.codes.SheetStaticCode.TheVariants.{XTSE1080}
use Rattle.xt_tree.specs.declared.attributes.Attribute.{Attribute}
use Rattle.xt_sheets.specs.declared.values.Grouping.{Grouping}
use Rattle.xt_sheets.specs.declared.values.Grouping.TheVariants.{By, Adjacent, Starting}
use Rattle.sheet_table.specs.Attributes.{attribute, has}
use Rattle.sheet_values.specs.Rules.{broken}
use Rattle.sheet_values.specs.declared.sheet_texts.places.StaticContext.{StaticContext}
use Rattle.sheet_values.specs.SheetTexts.Readings.{Reading}
use Rattle.sheet_heads.specs.Attributes.{needed_faults, needed_value}

-- exactly one is true
abbrev pub is_one : Bool → Bool → Bool → Bool
is_one a b c = (a && not b && not c) || (not a && b && not c) || (not a && not b && c)

module _ {E P : Type 0} (r : Reading E P) (p : StaticContext) where
  -- by the first attribute that stands
  abbrev pub key_faults : List Attribute → Bool → Bool → List Code
  key_faults attributes by adjacent =
      if by then needed_faults (r.expr_faults p) (attribute attributes (codes "group-by"))
      else if adjacent then needed_faults (r.expr_faults p) (attribute attributes (codes "group-adjacent"))
      else needed_faults (r.patterns_faults p) (attribute attributes (codes "group-starting-with"))

  abbrev pub key_value : List Attribute → Bool → Bool → Grouping E P
  key_value attributes by adjacent =
      if by then By (needed_value (r.expr_value p) (attribute attributes (codes "group-by")))
      else if adjacent then Adjacent (needed_value (r.expr_value p) (attribute attributes (codes "group-adjacent")))
      else Starting (needed_value (r.patterns_value p) (attribute attributes (codes "group-starting-with")))

module _ {E P : Type 0} (r : Reading E P) (p : StaticContext) where
  -- exactly one of the three stands, and it is read
  abbrev pub grouping_faults : List Attribute → List Code
  grouping_faults attributes =
      broken XTSE1080 (not (is_one (has attributes (codes "group-by"))
      (has attributes (codes "group-adjacent")) (has attributes (codes "group-starting-with"))))
      ++ key_faults r p attributes (has attributes (codes "group-by")) (has attributes (codes "group-adjacent"))

  abbrev pub grouping_value : List Attribute → Grouping E P
  grouping_value attributes =
      key_value r p attributes (has attributes (codes "group-by")) (has attributes (codes "group-adjacent"))
