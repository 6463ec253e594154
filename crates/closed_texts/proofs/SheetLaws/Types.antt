-- Types that break no rule are regular, with names that XML allows.
use Rattle.std.proofs.Common.{◌≡◌, ℕ, List, [], true, Some, refl, ap}
use Rattle.std.proofs.Common.{◌∙◌, codes, option_and_then}
use Rattle.std.proofs.lemmas.Bool.{and_from}
use Rattle.xt_names.specs.Classes.{is_xml_text, is_in_ranges}
use Rattle.xt_names.specs.declared.names.Binding.{Binding}
use Rattle.closed_queries.specs.Closed.{is_good_kind}
use Rattle.xpath_syntax.specs.ExprReadings.Readings.{terms_in, type_reading}
use Rattle.xpath_syntax.proofs.ExprReadings.ReadingLemmas.{value_type}
use Rattle.expr_reader.specs.declared.readings.Reading.{Reading as RawReading}
use Rattle.expr_reader.specs.declared.readings.Reading.TheVariants as read
use Rattle.expr_resolve.specs.Folds.{broken_of}
use Rattle.sound_expressions.proofs.ExprRegular.Regular.{type_regular, type_sound}
use Rattle.expr_tokens.specs.Terms.{terms_of}
use Rattle.sheet_language.specs.Settings.{prefixes_at, setting_at}
use Rattle.sheet_language.specs.Language.{most_levels, raw_type_faults, raw_type_value}
use Rattle.sheet_language.specs.Language.{type_faults, type_value}
use Rattle.sheet_values.specs.declared.sheet_texts.places.StaticContext.{StaticContext}
use Rattle.sound_expressions.specs.SoundForms.Sound.{SoundBindings, SoundPrefixes, SoundUri}
use Rattle.closed_texts.proofs.SheetLaws.Lexed.{text_sound}
use Rattle.sound_expressions.proofs.SoundForms.NameLemmas.{no_uri}
use Rattle.xt_names.proofs.ListLemmas.{front_nil}

functions_uri : SoundUri (codes "http://www.w3.org/2005/xpath-functions")
unfolding is_xml_text is_in_ranges
functions_uri = record { text = refl; other = refl }

-- prefixes of a stylesheet, as the parsers take them
pub sound_at : (bound : List Binding) → SoundBindings bound → SoundPrefixes (prefixes_at bound)
sound_at bound s =
    record { bound = s; element = no_uri; no_xml = refl; function = functions_uri }

read_good : (p : StaticContext) (text : List ℕ) (r : RawReading) → SoundBindings p.bound
    → type_reading most_levels text ≡ r → raw_type_faults (setting_at p.bound) r ≡ []
    → is_good_kind (Some (raw_type_value (setting_at p.bound) r)) ≡ true
unfolding is_good_kind
read_good p text read.Nothing s e f = absurd cc
read_good p text read.TooDeep s e f = absurd cc
read_good p text (read.Value raw) s e f =
    let w = (value_type most_levels text raw e).0 in
    let t : terms_in text ≡ Some w.terms = ap (option_and_then terms_of) w.are ∙ w.so in
    let sound = text_sound text w.terms t in
    let u = sound_at p.bound s in
    let b = front_nil (broken_of (setting_at p.bound) raw) _ f in
    and_from _ _ (type_regular (setting_at p.bound) u sound w.spelled b)
    (type_sound (setting_at p.bound) u sound w.spelled b)

pub types_good : (p : StaticContext) (text : List ℕ) → SoundBindings p.bound → type_faults p text ≡ []
    → is_good_kind (Some (type_value p text)) ≡ true
types_good p text s f = read_good p text (type_reading most_levels text) s refl f
