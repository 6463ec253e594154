-- Templates and their rules in a stylesheet (XSLT 2.0, 6.4, 6.5 and 10.1).
use Rattle.std.specs.Prelude.{ℕ, suc, ◌+◌, List, [], ◌∷◌, ◌++◌, map, length, min, set, Bool, true}
use Rattle.std.specs.Prelude.{false, Option, Some, None}
use Rattle.std.specs.Prelude.{if◌then◌else◌, nat_eq, nat_lt, slice_get, ◌||◌}
use Rattle.std.specs.List.{range_with_len}
use Rattle.xt_names.specs.declared.names.ExprName.{ExprName}
use Rattle.xt_syntax.specs.declared.exprs.Expr.{Expr}
use Rattle.xt_syntax.specs.declared.patterns.Pattern.{Pattern}
use Rattle.xt_sheets.specs.declared.sheets.Template.{Template}
use Rattle.xt_sheets.specs.declared.sheets.Rule.{Rule}
use Rattle.sheet_modules.specs.declared.templates.TemplatePart.{TemplatePart}
use Rattle.sheet_modules.specs.declared.templates.RulePart.{RulePart}
use Rattle.sheet_modules.specs.declared.templates.ModeSet.{ModeSet}
use Rattle.sheet_modules.specs.declared.templates.ModeSet.TheVariants.{All, Numbers}
use Rattle.sheet_modules.specs.declared.modules.Part.{Part}
use Rattle.sheet_modules.specs.declared.modules.Part.TheVariants as part
use Rattle.sheet_values.specs.SheetTexts.Names.{number_of}
use Rattle.sheet_rules.specs.declared.sheet_declarations.lists.Declaration.{Declaration}
use Rattle.sheet_assembly.specs.Named.{each}
use Rattle.sheet_assembly.specs.declared.templates.Standing.{Standing}

-- the template, with its name where it counts
abbrev pub name_if : Bool → Option ExprName → Option ExprName
name_if true name = name
name_if false name = None

abbrev pub template_of : Bool → TemplatePart Expr Pattern → Template
template_of counts t = record {
  name = name_if counts t.name;
  params = t.params;
  kind = t.kind;
  body = t.body;
  has_match = t.has_match;
}

-- a number of 32 bits
abbrev pub small : ℕ → ℕ
small n = min n 4294967295

-- the number of the name among those that are called, or how many there are
abbrev pub number_in : List ExprName → Option ExprName → ℕ
number_in called None = small (length called)
number_in called (Some name) = number_of called name

-- a template without name and content, in the place of one that nothing declares
abbrev pub no_template : Template
no_template = record { name = None; params = []; kind = None; body = []; has_match = false }

-- the template that is declared, and its rules
abbrev pub chosen_template : Bool → Part Expr Pattern → Template
chosen_template counts (part.Template t rules) = template_of counts t
chosen_template counts p = no_template

abbrev pub chosen_rules : Part Expr Pattern → List (RulePart Pattern)
chosen_rules (part.Template t rules) = rules
chosen_rules p = []

-- the number of the template that is declared, if it stands
abbrev pub standing_number : List ExprName → Bool → Part Expr Pattern → Option ℕ
standing_number called counts (part.Template t rules) =
    if counts || t.has_match then Some (number_in called (name_if counts t.name)) else None
standing_number called counts p = None

abbrev pub standing_template : List ExprName → Bool → ℕ → TemplatePart Expr Pattern → List (RulePart Pattern)
    → Standing
standing_template called counts level t rules = record {
  level = level;
  number = number_in called (name_if counts t.name);
  counts = counts;
  part = part.Template t rules;
}

-- a template that is replaced stands for its rules alone, without its name
abbrev pub standing_in : List ExprName → Bool → ℕ → Part Expr Pattern → List Standing
standing_in called counts level (part.Template t rules) =
    if counts || t.has_match then standing_template called counts level t rules ∷ [] else []
standing_in called counts level p = []

abbrev pub standing_if : List ExprName → Bool → Declaration Expr Pattern → List Standing
standing_if called counts d = standing_in called counts d.level d.part

abbrev pub template_in : Standing → Template
template_in t = chosen_template t.counts t.part

abbrev pub rules_in : Standing → List (RulePart Pattern)
rules_in t = chosen_rules t.part

-- the first place from this one on of a template with the number
abbrev pub first_at : ℕ → ℕ → List Standing → Option ℕ
first_at number place [] = None
first_at number place (t ∷ ts) =
    if nat_eq t.number number then Some place else first_at number (suc place) ts

-- for each number the place of the template that is called by it
abbrev pub places_of : ℕ → List Standing → List (Option ℕ)
places_of count ts = map (λ number. first_at number 0 ts) (range_with_len 0 count)

-- with this place at the number, if so many have one
abbrev pub with_place : List (Option ℕ) → ℕ → ℕ → List (Option ℕ)
with_place places number place =
    if nat_lt number (length places) then set places number (Some place) else places

abbrev pub or_none : Option Standing → Template
or_none None = no_template
or_none (Some t) = template_in t

abbrev pub template_at : List Standing → Option ℕ → Template
template_at ts None = no_template
template_at ts (Some place) = or_none (slice_get ts place)

-- the template, if it is not called, where so many are
abbrev pub other_of : ℕ → Standing → List Template
other_of count t = if nat_lt t.number count then [] else template_in t ∷ []

-- the templates: those that are called, by their numbers, and then the others
abbrev pub templates_of : ℕ → List Standing → List Template
templates_of count ts = map (template_at ts) (places_of count ts) ++ each (other_of count) ts

-- the place of a template, where so many before it are not called
abbrev pub place_of : ℕ → ℕ → ℕ → ℕ
place_of count number before = if nat_lt number count then number else small (count + before)

abbrev pub one_more : ℕ → ℕ → ℕ → ℕ
one_more count number before = if nat_lt number count then before else small (before + 1)

-- the modes of a rule: those that it names, or all
abbrev pub modes_of : ℕ → ModeSet → List ℕ
modes_of modes All = range_with_len 0 modes
modes_of modes (Numbers numbers) = numbers

abbrev pub rule_of : ℕ → ℕ → ℕ → RulePart Pattern → Rule
rule_of modes place level r = record {
  template = place;
  pattern = r.pattern;
  modes = modes_of modes r.modes;
  precedence = level;
  priority = r.priority;
}

-- the rules of the templates in order, where so many before them are not called
abbrev pub rules_of : ℕ → ℕ → ℕ → List Standing → List Rule
rules_of modes count before [] = []
rules_of modes count before (t ∷ ts) =
    map (rule_of modes (place_of count t.number before) t.level) (rules_in t)
    ++ rules_of modes count (one_more count t.number before) ts
