-- Expressions that break no rule are those of a closed stylesheet, and may stand where they do.
use Rattle.std.proofs.Common.{◌≡◌, ℕ, List, [], Option, Some, None, refl, ap, ◌∙◌}
use Rattle.std.proofs.Common.{option_and_then}
use Rattle.expr_terms.specs.declared.raws.Raw.{Raw}
use Rattle.expr_tokens.specs.Terms.{terms_of}
use Rattle.expr_reader.specs.declared.readings.Reading.{Reading as RawReading}
use Rattle.expr_reader.specs.declared.readings.Reading.TheVariants as read
use Rattle.xpath_syntax.specs.ExprReadings.Readings.{terms_in, raw_reading}
use Rattle.xpath_syntax.proofs.ExprReadings.ReadingLemmas.{value_read}
use Rattle.sheet_expressions.specs.Checked.{checked}
use Rattle.sheet_language.specs.Settings.{prefixes_at, setting_at}
use Rattle.sheet_language.specs.Language.{most_levels, checked_faults, checked_value, raw_faults}
use Rattle.sheet_language.specs.Language.{raw_value, expr_faults, expr_value}
use Rattle.sheet_values.specs.declared.sheet_texts.places.StaticContext.{StaticContext}
use Rattle.closed_texts.proofs.SheetLaws.Lexed.{text_sound}
use Rattle.closed_texts.proofs.SheetLaws.Types.{sound_at}
use Rattle.sound_expressions.specs.SoundForms.Sound.{SoundBindings}
use Rattle.closed_texts.proofs.NamedKeys.Closed.{Closed, named_closed}

module _ (p : StaticContext) (u : SoundBindings p.bound) where
  checked_closed : (text : List ℕ) (raw : Raw) → raw_reading most_levels text ≡ read.Value raw
      → (o : Option Raw) → checked (prefixes_at p.bound) p.in_group raw ≡ o
      → checked_faults (setting_at p.bound) o ≡ []
      → Closed p.in_group (checked_value (setting_at p.bound) o)
  checked_closed text raw e None i f = absurd cc
  checked_closed text raw e (Some named) i f =
      let r = value_read most_levels text raw e in
      let t : terms_in text ≡ Some r.0.spelled.terms =
      ap (option_and_then terms_of) r.0.are ∙ r.0.spelled.are in
      named_closed (setting_at p.bound) p.in_group r.0.spelled.terms raw named (sound_at p.bound u)
      (text_sound text r.0.spelled.terms t) r.0.spelled.spelled r.1 i f

  read_closed : (text : List ℕ) (r : RawReading) → raw_reading most_levels text ≡ r
      → raw_faults (setting_at p.bound) p.in_group r ≡ []
      → Closed p.in_group (raw_value (setting_at p.bound) p.in_group r)
  read_closed text read.Nothing e f = absurd cc
  read_closed text read.TooDeep e f = absurd cc
  read_closed text (read.Value raw) e f =
      checked_closed text raw e (checked (prefixes_at p.bound) p.in_group raw) refl f

pub expr_closed : (p : StaticContext) (text : List ℕ) → SoundBindings p.bound → expr_faults p text ≡ []
    → Closed p.in_group (expr_value p text)
expr_closed p text u f = read_closed p u text (raw_reading most_levels text) refl f
