-- What texts mean in a stylesheet where they stand, and which rules they break there.
use Rattle.std.specs.Prelude.{ℕ, List, [], ◌∷◌, Bool, Option, Some, None}
use Rattle.xt_names.specs.declared.codes.Code.{Code}
use Rattle.xt_names.specs.declared.codes.Code.TheVariants.{QueryStatic, SheetStatic}
use Rattle.xt_names.specs.declared.codes.QueryStaticCode.TheVariants.{XPST0003}
use Rattle.xt_names.specs.declared.codes.SheetStaticCode.TheVariants.{XTUN0001, XTLM0004}
use Rattle.xt_types.specs.declared.types.SeqType.{SeqType}
use Rattle.xt_types.specs.declared.types.SeqType.TheVariants as sequence
use Rattle.xt_syntax.specs.declared.exprs.Expr.{Expr}
use Rattle.xt_syntax.specs.declared.exprs.Expr.TheVariants as expr
use Rattle.xt_syntax.specs.declared.patterns.Pattern.{Pattern}
use Rattle.expr_terms.specs.declared.raws.Raw.{Raw}
use Rattle.expr_reader.specs.declared.readings.Reading.{Reading as RawReading}
use Rattle.expr_reader.specs.declared.readings.Reading.TheVariants as read
use Rattle.pattern_syntax.specs.ExprResolve.declared.setting.Setting.{Setting}
use Rattle.pattern_syntax.specs.ExprResolve.Folds.{broken_of, expr_meant, type_broken, type_meant}
use Rattle.xpath_syntax.specs.ExprReadings.Readings.{raw_reading, type_reading}
use Rattle.pattern_syntax.specs.Readings as pattern
use Rattle.pattern_syntax.specs.PatternReadings.Readings.{text_reading}
use Rattle.pattern_syntax.specs.PatternPriorities.Priorities.{priority_of}
use Rattle.sheet_expressions.specs.Checked.{checked}
use Rattle.sheet_expressions.specs.Uses.{is_key_use}
use Rattle.sheet_values.specs.declared.sheet_texts.places.StaticContext.{StaticContext}
use Rattle.sheet_values.specs.SheetTexts.Readings.{Reading}
use Rattle.sheet_language.specs.Settings.{setting_at}

-- how deep expressions, patterns and types may nest
abbrev pub most_levels : ℕ
most_levels = 40

abbrev pub nothing_spelled : List Code
nothing_spelled = QueryStatic XPST0003 ∷ []

abbrev pub too_deep : List Code
too_deep = SheetStatic XTLM0004 ∷ []

-- each call may stand where it does, and then the static rules of expressions are kept; the names of
-- keys stand in place of the literals that write them
abbrev pub checked_faults : Setting → Option Raw → List Code
checked_faults s None = SheetStatic XTUN0001 ∷ []
checked_faults s (Some raw) = broken_of s raw

abbrev pub checked_value : Setting → Option Raw → Expr
checked_value s None = expr.Root
checked_value s (Some raw) = expr_meant s raw

abbrev pub raw_faults : Setting → Bool → RawReading → List Code
raw_faults s grouped read.Nothing = nothing_spelled
raw_faults s grouped read.TooDeep = too_deep
raw_faults s grouped (read.Value raw) = checked_faults s (checked s.prefixes grouped raw)

abbrev pub raw_value : Setting → Bool → RawReading → Expr
raw_value s grouped read.Nothing = expr.Root
raw_value s grouped read.TooDeep = expr.Root
raw_value s grouped (read.Value raw) = checked_value s (checked s.prefixes grouped raw)

-- expressions (XPath 2.0, 2 and A)
abbrev pub expr_faults : StaticContext → List ℕ → List Code
expr_faults p text = raw_faults (setting_at p.bound) p.in_group (raw_reading most_levels text)

abbrev pub expr_value : StaticContext → List ℕ → Expr
expr_value p text = raw_value (setting_at p.bound) p.in_group (raw_reading most_levels text)

abbrev pub answer_faults : pattern.Answer → List Code
answer_faults (pattern.value ps) = []
answer_faults pattern.syntax = nothing_spelled
answer_faults (pattern.static c) = c ∷ []
answer_faults pattern.too_deep = too_deep

abbrev pub answer_value : pattern.Answer → List Pattern
answer_value (pattern.value ps) = ps
answer_value pattern.syntax = []
answer_value (pattern.static c) = []
answer_value pattern.too_deep = []

-- patterns (XSLT 2.0, 5.5.2)
abbrev pub patterns_faults : StaticContext → List ℕ → List Code
patterns_faults p text = answer_faults (text_reading (setting_at p.bound) most_levels text)

abbrev pub patterns_value : StaticContext → List ℕ → List Pattern
patterns_value p text = answer_value (text_reading (setting_at p.bound) most_levels text)

abbrev pub raw_type_faults : Setting → RawReading → List Code
raw_type_faults s read.Nothing = nothing_spelled
raw_type_faults s read.TooDeep = too_deep
raw_type_faults s (read.Value raw) = type_broken s raw

abbrev pub raw_type_value : Setting → RawReading → SeqType
raw_type_value s read.Nothing = sequence.Empty
raw_type_value s read.TooDeep = sequence.Empty
raw_type_value s (read.Value raw) = type_meant s raw

-- sequence types (XPath 2.0, 2.5.3)
abbrev pub type_faults : StaticContext → List ℕ → List Code
type_faults p text = raw_type_faults (setting_at p.bound) (type_reading most_levels text)

abbrev pub type_value : StaticContext → List ℕ → SeqType
type_value p text = raw_type_value (setting_at p.bound) (type_reading most_levels text)

-- the language of stylesheets
abbrev pub sheet_reading : Reading Expr Pattern
sheet_reading = record {
  expr_faults = expr_faults;
  expr_value = expr_value;
  patterns_faults = patterns_faults;
  patterns_value = patterns_value;
  type_faults = type_faults;
  type_value = type_value;
  is_key_use = is_key_use;
  default_priority = priority_of;
}
