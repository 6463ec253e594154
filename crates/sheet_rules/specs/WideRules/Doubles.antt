-- What is declared twice at one import precedence (XSLT 2.0, 9.5, 10.1 and 10.3).
use Rattle.std.specs.Prelude.{ℕ, List, [], ◌∷◌, ◌++◌, Bool, false, ◌&&◌, ◌||◌, ◌==◌, if◌then◌else◌}
use Rattle.std.specs.List.{list_any}
use Rattle.xt_names.specs.declared.codes.Code.{Code}
use Rattle.xt_names.specs.declared.codes.Code.TheVariants.{SheetStatic}
use Rattle.xt_names.specs.declared.codes.SheetStaticCode.{SheetStaticCode}
use Rattle.xt_names.specs.declared.codes.SheetStaticCode.TheVariants.{XTSE0630, XTSE0660, XTSE0770}
use Rattle.name_rules.specs.declared.functions.Signature.{Signature}
use Rattle.name_rules.specs.Scopes.{same_signature}
use Rattle.sheet_rules.specs.declared.sheet_declarations.lists.Declaration.{Declaration}
use Rattle.sheet_rules.specs.SheetDeclarations.Counts.{Declared, a_global, a_function, a_template, nothing, declared_by, replaces}
use Rattle.sheet_rules.specs.declared.wide_rules.placed.Placed.{Placed}
use Rattle.sheet_rules.specs.declared.wide_rules.doubles.Seen.{Seen}
use Rattle.sheet_rules.specs.declared.wide_rules.doubles.Doubles.{Doubles}

abbrev pub code_if : Bool → SheetStaticCode → List Code
code_if broken code = if broken then SheetStatic code ∷ [] else []

-- of which kinds something stands twice, with what this declares too, if it does so again
abbrev pub with_double : Doubles → Declared → Bool → Doubles
with_double twice (a_global s) again = record twice { globals = twice.globals || again }
with_double twice (a_function s) again = record twice { functions = twice.functions || again }
with_double twice (a_template s) again = record twice { templates = twice.templates || again }
with_double twice nothing again = twice

module _ {E P : Type 0} where
  -- some of them declares the same at the same precedence
  abbrev pub stands_again : Declared → ℕ → List (Declaration E P) → Bool
  stands_again d level ds =
      list_any (λ later. replaces d (declared_by later.part) && (level == later.level)) ds

  -- of which kinds some declaration is made twice at one precedence
  abbrev pub doubles_of : List (Declaration E P) → Doubles
  doubles_of [] = record { globals = false; functions = false; templates = false }
  doubles_of (d ∷ ds) =
      with_double (doubles_of ds) (declared_by d.part) (stands_again (declared_by d.part) d.level ds)

-- the rules that are broken then
abbrev pub double_codes : Doubles → List Code
double_codes twice =
    code_if twice.globals XTSE0630 ++ (code_if twice.templates XTSE0660 ++ code_if twice.functions XTSE0770)

-- names that are declared at a precedence
abbrev pub placed : Signature → ℕ → Placed
placed s level = record { signature = s; level = level }

abbrev pub same_placed : Placed → Placed → Bool
same_placed a b = same_signature a.signature b.signature && (a.level == b.level)

abbrev pub has_placed : List Placed → Placed → Bool
has_placed all p = list_any (same_placed p) all

abbrev pub with_placed : List Placed → Placed → List Placed
with_placed all p = if has_placed all p then all else all ++ p ∷ []

abbrev pub has_declared : Seen → Declared → ℕ → Bool
has_declared seen (a_global s) level = has_placed seen.globals (placed s level)
has_declared seen (a_function s) level = has_placed seen.functions (placed s level)
has_declared seen (a_template s) level = has_placed seen.templates (placed s level)
has_declared seen nothing level = false

abbrev pub with_declared : Seen → Declared → ℕ → Seen
with_declared seen (a_global s) level =
    record seen { globals = with_placed seen.globals (placed s level) }
with_declared seen (a_function s) level =
    record seen { functions = with_placed seen.functions (placed s level) }
with_declared seen (a_template s) level =
    record seen { templates = with_placed seen.templates (placed s level) }
with_declared seen nothing level = seen

-- the names that these declare, from the last to the first
abbrev pub seen_of : {E P : Type 0} → List (Declaration E P) → Seen
seen_of [] = record { globals = []; functions = []; templates = [] }
seen_of (d ∷ ds) = with_declared (seen_of ds) (declared_by d.part) d.level
