-- Templates (XSLT 2.0, 6.1, 6.4, 6.5 and 10.1).
use Rattle.std.specs.Prelude.{ℕ, ℤ, List, [], ◌∷◌, ◌++◌, map, not, ◌&&◌, ◌||◌}
use Rattle.std.specs.Prelude.{Option, Some, None, codes}
use Rattle.xt_names.specs.declared.names.ExprName.{ExprName}
use Rattle.xt_names.specs.declared.codes.Code.{Code}
use Rattle.xt_names.specs.declared.codes.SheetStaticCode.TheVariants.{XTSE0020, XTSE0500}
use Rattle.xt_tree.specs.declared.attributes.Attribute.{Attribute}
use Rattle.sheet_table.specs.declared.elements.XslElement.TheVariants as element
use Rattle.sheet_table.specs.Attributes.{attribute, has}
use Rattle.sheet_table.specs.Rules.{attribute_faults}
use Rattle.sheet_table.specs.declared.sheet_nodes.nodes.Node.{Node}
use Rattle.sheet_values.specs.Rules.{broken}
use Rattle.sheet_values.specs.Names.{declared_faults, qname_value}
use Rattle.sheet_values.specs.Modes.{mode_list_faults, mode_list_value}
use Rattle.sheet_values.specs.Priorities.{priority_faults, priority_value}
use Rattle.sheet_values.specs.declared.modes.Modes.{Modes}
use Rattle.sheet_values.specs.declared.modes.Modes.TheVariants as mode
use Rattle.sheet_values.specs.declared.sheet_texts.places.StaticContext.{StaticContext}
use Rattle.sheet_values.specs.SheetTexts.Names.{number_of}
use Rattle.sheet_values.specs.SheetTexts.Readings.{Reading}
use Rattle.sheet_bodies.specs.SheetHeads.Attributes.{optional_faults, optional_value}
use Rattle.sheet_modules.specs.declared.templates.ModeSet.{ModeSet}
use Rattle.sheet_modules.specs.declared.templates.ModeSet.TheVariants.{All, Numbers}
use Rattle.sheet_modules.specs.declared.templates.RulePart.{RulePart}
use Rattle.sheet_modules.specs.declared.templates.TemplatePart.{TemplatePart}
use Rattle.sheet_modules.specs.declared.modules.Part.{Part}
use Rattle.sheet_modules.specs.declared.modules.Part.TheVariants.{Template}
use Rattle.sheet_parts.specs.declared.templates.TemplateHead.{TemplateHead}
use Rattle.sheet_parts.specs.Parameters.{front, params_faults, params_value, behind_faults, behind_value}

abbrev pub numbers_of : List ExprName → List ExprName → List ℕ
numbers_of table names = map (number_of table) names

-- modes by their numbers
abbrev pub mode_set : List ExprName → Modes → ModeSet
mode_set table mode.All = All
mode_set table (mode.Names names) = Numbers (numbers_of table names)

-- the default mode, which has the number 0, where the attribute is missing
abbrev pub modes_faults : StaticContext → Option (List ℕ) → List Code
modes_faults p None = []
modes_faults p (Some text) = mode_list_faults p.bound text

abbrev pub modes_value : StaticContext → Option (List ℕ) → ModeSet
modes_value p None = Numbers (0 ∷ [])
modes_value p (Some text) = mode_set p.modes (mode_list_value p.bound text)

-- the rules of a template: one for each alternative of its pattern, in order
module _ {E P : Type 0} (r : Reading E P) where
  -- the priority that is written, and else the default one of the alternative
  abbrev pub rule_priority : Option ℤ → P → ℤ
  rule_priority None pattern = r.default_priority pattern
  rule_priority (Some n) pattern = n

  abbrev pub rule_of : ModeSet → Option ℤ → P → RulePart P
  rule_of modes priority pattern = record {
    pattern = pattern;
    modes = modes;
    priority = rule_priority priority pattern;
  }

  abbrev pub rules_of : ModeSet → Option ℤ → List P → List (RulePart P)
  rules_of modes priority patterns = map (rule_of modes priority) patterns

  abbrev pub rules_in : ModeSet → Option ℤ → Option (List P) → List (RulePart P)
  rules_in modes priority None = []
  rules_in modes priority (Some patterns) = rules_of modes priority patterns

-- a template has `match` or `name`, and `mode` and `priority` with `match` alone
abbrev pub use_faults : List Attribute → List Code
use_faults attributes =
    attribute_faults element.Template attributes
    ++ (broken XTSE0500 (not (has attributes (codes "match")) && not (has attributes (codes "name")))
    ++ broken XTSE0500 (not (has attributes (codes "match"))
    && (has attributes (codes "mode") || has attributes (codes "priority"))))

module _ {E P : Type 0} (r : Reading E P) (p : StaticContext) where
  -- what its rules say
  abbrev pub rules_faults : List Attribute → List Code
  rules_faults attributes =
      optional_faults priority_faults (attribute attributes (codes "priority"))
      ++ (modes_faults p (attribute attributes (codes "mode"))
      ++ optional_faults (r.patterns_faults p) (attribute attributes (codes "match")))

  abbrev pub rules_value : List Attribute → List (RulePart P)
  rules_value attributes =
      rules_in r (modes_value p (attribute attributes (codes "mode")))
      (optional_value priority_value (attribute attributes (codes "priority")))
      (optional_value (r.patterns_value p) (attribute attributes (codes "match")))

module _ {E P : Type 0} (r : Reading E P) (p : StaticContext) where
  abbrev pub head_faults : List Attribute → List Code
  head_faults attributes =
      use_faults attributes
      ++ (optional_faults (declared_faults XTSE0020 p.bound) (attribute attributes (codes "name"))
      ++ (optional_faults (r.type_faults p) (attribute attributes (codes "as"))
      ++ rules_faults r p attributes))

  abbrev pub head_value : List Attribute → TemplateHead P
  head_value attributes = record {
    name = optional_value (qname_value p.bound) (attribute attributes (codes "name"));
    kind = optional_value (r.type_value p) (attribute attributes (codes "as"));
    has_match = has attributes (codes "match");
    rules = rules_value r p attributes;
  }

module _ {E P : Type 0} (r : Reading E P) (p : StaticContext) where
  -- the head, the parameters, and what is after them
  abbrev pub template_faults : List Attribute → List Node → List Code
  template_faults attributes kids =
      head_faults r p attributes
      ++ (params_faults r p (front kids)
      ++ behind_faults r p (params_value r p (front kids)) kids)

  abbrev pub template_value : List Attribute → List Node → Part E P
  template_value attributes kids = Template (record {
    name = optional_value (qname_value p.bound) (attribute attributes (codes "name"));
    params = params_value r p (front kids);
    kind = optional_value (r.type_value p) (attribute attributes (codes "as"));
    body = behind_value r p kids;
    has_match = has attributes (codes "match");
  }) (rules_value r p attributes)
