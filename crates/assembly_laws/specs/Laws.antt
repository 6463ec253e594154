-- What is known of one stylesheet of the declarations of all its modules.
use Rattle.std.specs.Prelude.{◌≡◌, ℕ, List, [], map, length, Bool, true, false, ◌&&◌}
use Rattle.std.specs.Prelude.{nat_lt, nat_le}
use Rattle.std.specs.List.{list_all}
use Rattle.xt_names.specs.declared.names.ExprName.{ExprName}
use Rattle.xt_syntax.specs.declared.exprs.Expr.{Expr}
use Rattle.xt_syntax.specs.declared.patterns.Pattern.{Pattern}
use Rattle.xt_types.specs.declared.node_tests.SpaceRule.{SpaceRule}
use Rattle.sheet_modules.specs.declared.templates.ModeSet.{ModeSet}
use Rattle.sheet_modules.specs.declared.templates.ModeSet.TheVariants.{All, Numbers}
use Rattle.sheet_rules.specs.declared.sheet_declarations.lists.Declaration.{Declaration}
use Rattle.xt_sheets.specs.declared.sheets.Global.{Global}
use Rattle.xt_sheets.specs.declared.sheets.Template.{Template}
use Rattle.xt_sheets.specs.declared.sheets.SheetFunction.{SheetFunction}
use Rattle.xt_sheets.specs.declared.sheets.KeyRule.{KeyRule}
use Rattle.xt_sheets.specs.declared.sheets.Sheet.{Sheet}
use Rattle.sheet_modules.specs.declared.sheet_levels.levels.SheetLevel.{SheetLevel}
use Rattle.sheet_modules.specs.declared.modules.Part.{Part}
use Rattle.sheet_modules.specs.declared.modules.Part.TheVariants as part
use Rattle.sheet_rules.specs.SheetDeclarations.Counts.{counted_of}
use Rattle.sheet_rules.specs.SheetDeclarations.Declarations.{declarations_of}
use Rattle.sheet_assembly.specs.Named.{each_by, function_if, global_if, ordered, global}
use Rattle.sheet_assembly.specs.Named.{sheet_function, key_rule}
use Rattle.sheet_assembly.specs.Templates.{template_of, no_template}
use Rattle.sheet_assembly.specs.Sheets.{Parts, sheet_of}
use Rattle.name_rules.specs.Scopes.{names_differ}
use Rattle.global_order.specs.Order.{Graph, IsInOrder}
use Rattle.sheet_closure.specs.Declared.{are_new_functions, global_name}
use Rattle.global_order.specs.GraphOrders.Behind.{all_below}

-- each rule has a template
abbrev pub RulesHaveTemplates : Type 0
RulesHaveTemplates = (p : Parts)
    → list_all (λ r. nat_lt r.template (length (sheet_of p).templates)) (sheet_of p).rules ≡ true

-- no two functions have one name and number of parameters
abbrev pub FunctionsDiffer : Type 0
FunctionsDiffer = (ds : List (Declaration Expr Pattern))
    → are_new_functions [] (each_by function_if (counted_of ds) ds) ≡ true

-- no two globals have one name, in whatever order they stand in which each is after those on which it
-- depends
abbrev pub GlobalsDiffer : Type 0
GlobalsDiffer = (ds : List (Declaration Expr Pattern)) (g : Graph) (places : List ℕ)
    → IsInOrder g places
    → names_differ (map global_name (ordered (each_by global_if (counted_of ds) ds) places)) ≡ true

-- a precedence, which counts from 1
abbrev pub is_level_of : ℕ → ℕ → Bool
is_level_of levels precedence = nat_le 1 precedence && nat_le precedence levels

-- the precedence of each rule is that of a level
abbrev pub RulesHaveLevels : Type 0
RulesHaveLevels = (modules : List (List (Part Expr Pattern))) (levels : List SheetLevel)
    (modes called : List ExprName) (order : List ℕ)
    → list_all (λ r. is_level_of (length levels) r.precedence)
    (sheet_of (record {
      declarations = declarations_of modules levels;
      modes = modes;
      called = called;
      levels = levels;
      order = order;
    })).rules ≡ true

-- what is asked of each kind of part
pub record Asked : Type 0 where
  pub of_global : Global → Bool
  pub of_template : Template → Bool
  pub of_pattern : Pattern → Bool
  pub of_function : SheetFunction → Bool
  pub of_key : KeyRule → Bool

-- what a declaration declares has it: a template with its name, and without it
abbrev pub declares : Asked → Part Expr Pattern → Bool
declares a (part.Global g) = a.of_global (global g)
declares a (part.Template t rules) =
    (a.of_template (template_of true t) && a.of_template (template_of false t))
    && list_all (λ r. a.of_pattern r.pattern) rules
declares a (part.Function f) = a.of_function (sheet_function f)
declares a (part.Key keys) = list_all (λ k. a.of_key (key_rule k)) keys
declares a (part.Space rules) = true
declares a (part.Output omit) = true
declares a part.Ignored = true
declares a part.Linked = true

abbrev pub has_asked : Asked → Sheet → Bool
has_asked a s =
    list_all a.of_global s.globals
    && (list_all a.of_template s.templates
    && (list_all (λ r. a.of_pattern r.pattern) s.rules
    && (list_all a.of_function s.functions && list_all a.of_key s.keys)))

-- what each declaration has, the stylesheet has; the template without content stands where none is
-- declared
abbrev pub PartsAreDeclared : Type 0
PartsAreDeclared = (a : Asked) (p : Parts) → a.of_template no_template ≡ true
    → list_all (λ d. declares a d.part) p.declarations ≡ true → has_asked a (sheet_of p) ≡ true

-- what each part of each module has, each declaration has
abbrev pub DeclarationsAreParts : Type 0
DeclarationsAreParts = (q : Part Expr Pattern → Bool) (modules : List (List (Part Expr Pattern)))
    (levels : List SheetLevel) → list_all (list_all q) modules ≡ true
    → list_all (λ d. q d.part) (declarations_of modules levels) ≡ true

-- modes by their numbers, of which there are so many
abbrev pub has_modes : ℕ → ModeSet → Bool
has_modes modes All = true
has_modes modes (Numbers numbers) = all_below modes numbers

abbrev pub declares_modes : ℕ → Part Expr Pattern → Bool
declares_modes modes (part.Template t rules) = list_all (λ r. has_modes modes r.modes) rules
declares_modes modes (part.Global g) = true
declares_modes modes (part.Function f) = true
declares_modes modes (part.Key keys) = true
declares_modes modes (part.Space rules) = true
declares_modes modes (part.Output omit) = true
declares_modes modes part.Ignored = true
declares_modes modes part.Linked = true

-- where the declarations have numbers of modes that are there, the rules of the stylesheet have
abbrev pub RulesHaveModes : Type 0
RulesHaveModes = (p : Parts)
    → list_all (λ d. declares_modes (length p.modes) d.part) p.declarations ≡ true
    → list_all (λ r. all_below (length p.modes) r.modes) (sheet_of p).rules ≡ true

abbrev pub declares_spaces : (SpaceRule → Bool) → Part Expr Pattern → Bool
declares_spaces q (part.Space rules) = list_all q rules
declares_spaces q (part.Global g) = true
declares_spaces q (part.Template t rules) = true
declares_spaces q (part.Function f) = true
declares_spaces q (part.Key keys) = true
declares_spaces q (part.Output omit) = true
declares_spaces q part.Ignored = true
declares_spaces q part.Linked = true

-- what each rule on white space has that is declared, those of the stylesheet have
abbrev pub SpacesAreDeclared : Type 0
SpacesAreDeclared = (q : SpaceRule → Bool) (p : Parts)
    → list_all (λ d. declares_spaces q d.part) p.declarations ≡ true
    → list_all q (sheet_of p).space ≡ true
