-- How deep the query of a stylesheet nests.
use Rattle.std.specs.Prelude.{◌≡◌, ◌≤◌, map, Bool, true, is_none}
use Rattle.xt_syntax.specs.declared.patterns.Pattern.{Pattern}
use Rattle.xt_sheets.specs.declared.sheets.Sheet.{Sheet}
use Rattle.closed_sheets.specs.SheetForms.SheetNest.{sheet_nest_of}
use Rattle.translated_forms.specs.Bounds.{IsBounded}
use Rattle.translation.specs.Limits.{sheet_has_leaves, keeps_limits}
use Rattle.translation.specs.PatternTests.{match_test}
use Rattle.translation.specs.Sheets.{query_of_sheet}

-- the tests of patterns that pass this are regular and nest at most 60 levels
abbrev pub TestsKeepLimits : (Pattern → Bool) → Type 0
TestsKeepLimits tested = (p : Pattern) → tested p ≡ true → IsBounded 60 (match_test p)

-- all expressions of the query are regular and nest at most 400 levels
abbrev pub QueriesKeepLimits : (Pattern → Bool) → Type 0
QueriesKeepLimits tested =
    (s : Sheet) → sheet_has_leaves tested s ≡ true → sheet_nest_of s ≤ 40 →
    keeps_limits (query_of_sheet s) ≡ true

-- the variables are the globals in their order, and those without a value are the parameters
pub record VariablesAreGlobals (s : Sheet) : Type 0 where
  pub names : map (λ v. v.name) (query_of_sheet s).variables ≡ map (λ g. g.bound.name) s.globals
  pub external : map (λ v. is_none v.value) (query_of_sheet s).variables ≡ map (λ g. g.param) s.globals
