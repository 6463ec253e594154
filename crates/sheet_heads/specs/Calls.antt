-- The heads of instructions that pass parameters (XSLT 2.0, 6.3, 6.7 and 10.1).
use Rattle.std.specs.Prelude.{ℕ, List, [], ◌∷◌, ◌++◌, Option, Some, None, codes}
use Rattle.xt_names.specs.declared.codes.Code.{Code}
use Rattle.xt_names.specs.declared.codes.Code.TheVariants.{SheetStatic}
use Rattle.xt_names.specs.declared.codes.SheetStaticCode.TheVariants.{XTSE0010}
use Rattle.xt_tree.specs.declared.attributes.Attribute.{Attribute}
use Rattle.xt_sheets.specs.declared.instrs.Instr.{Instr}
use Rattle.xt_sheets.specs.declared.instrs.Instr.TheVariants as instr
use Rattle.xt_sheets.specs.declared.instrs.Bound.{Bound}
use Rattle.xt_sheets.specs.declared.values.ModeUse.{ModeUse}
use Rattle.xt_sheets.specs.declared.values.ModeUse.TheVariants.{Number, Current}
use Rattle.sheet_table.specs.declared.elements.XslElement.{XslElement}
use Rattle.sheet_table.specs.declared.elements.XslElement.TheVariants as element
use Rattle.sheet_table.specs.Attributes.{attribute}
use Rattle.sheet_table.specs.Rules.{attribute_faults}
use Rattle.sheet_table.specs.declared.sheet_nodes.nodes.Node.{Node}
use Rattle.sheet_values.specs.Names.{qname_faults, qname_value}
use Rattle.sheet_values.specs.Modes.{mode_choice_faults, mode_choice_value}
use Rattle.sheet_values.specs.declared.modes.ModeChoice.{ModeChoice}
use Rattle.sheet_values.specs.declared.modes.ModeChoice.TheVariants as choice
use Rattle.sheet_values.specs.declared.sheet_texts.places.StaticContext.{StaticContext}
use Rattle.sheet_values.specs.SheetTexts.Names.{number_of}
use Rattle.sheet_values.specs.SheetTexts.Readings.{Reading}
use Rattle.sheet_heads.specs.Attributes.{optional_faults, optional_value}
use Rattle.sheet_heads.specs.Attributes.{needed_faults, needed_value}
use Rattle.sheet_heads.specs.Sorts.{keys_faults, keys_value}
use Rattle.sheet_heads.specs.declared.calls.CallHead.{CallHead}
use Rattle.sheet_heads.specs.declared.calls.CallHead.TheVariants as head

-- a mode by its number
abbrev pub numbered : StaticContext → ModeChoice → ModeUse
numbered p choice.Current = Current
numbered p (choice.Named name) = Number (number_of p.modes name)

-- the default mode, which has the number 0, where the attribute is missing
abbrev pub mode_faults : StaticContext → Option (List ℕ) → List Code
mode_faults p None = []
mode_faults p (Some text) = mode_choice_faults p.bound text

abbrev pub mode_value : StaticContext → Option (List ℕ) → ModeUse
mode_value p None = Number 0
mode_value p (Some text) = numbered p (mode_choice_value p.bound text)

-- the name of the template that is called
abbrev pub template_faults : StaticContext → Option (List ℕ) → List Code
template_faults p name = needed_faults (qname_faults p.bound) name

abbrev pub template_value : StaticContext → Option (List ℕ) → ℕ
template_value p name = number_of p.called (needed_value (qname_value p.bound) name)

module _ {E P : Type 0} (r : Reading E P) (p : StaticContext) where
  abbrev pub apply_faults : List Attribute → List Node → List Code
  apply_faults attributes front =
      optional_faults (r.expr_faults p) (attribute attributes (codes "select"))
      ++ (mode_faults p (attribute attributes (codes "mode"))
      ++ keys_faults r p front)

  abbrev pub apply_value : List Attribute → List Node → CallHead E
  apply_value attributes front =
      head.Apply (optional_value (r.expr_value p) (attribute attributes (codes "select")))
      (mode_value p (attribute attributes (codes "mode"))) (keys_value r p front)

module _ {E P : Type 0} (r : Reading E P) (p : StaticContext) where
  abbrev pub own_faults : XslElement → List Attribute → List Node → List Code
  own_faults element.ApplyTemplates attributes front = apply_faults r p attributes front
  own_faults element.ApplyImports attributes front = []
  own_faults element.NextMatch attributes front = []
  own_faults element.CallTemplate attributes front = template_faults p (attribute attributes (codes "name"))
  own_faults e attributes front = SheetStatic XTSE0010 ∷ []

  abbrev pub own_value : XslElement → List Attribute → List Node → CallHead E
  own_value element.ApplyTemplates attributes front = apply_value r p attributes front
  own_value element.NextMatch attributes front = head.NextMatch
  own_value element.CallTemplate attributes front =
      head.Template (template_value p (attribute attributes (codes "name")))
  own_value e attributes front = head.ApplyImports

  -- the rules of the table come first
  abbrev pub call_faults : XslElement → List Attribute → List Node → List Code
  call_faults e attributes front = attribute_faults e attributes ++ own_faults e attributes front

-- the instruction of a head and the parameters that it passes
abbrev pub with_passed : {E P : Type 0} → CallHead E → List (Bound E P) → Instr E P
with_passed (head.Apply select mode sorts) params = instr.Apply select mode sorts params
with_passed head.ApplyImports params = instr.ApplyImports params
with_passed head.NextMatch params = instr.NextMatch params
with_passed (head.Template number) params = instr.CallTemplate number params
