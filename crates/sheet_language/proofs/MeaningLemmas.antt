-- What a text has as its value is what it spells.
use Rattle.std.proofs.Common.{◌≡◌, ℕ, List, [], ◌∷◌, Option, Some, None, refl, sym, ap, ◌∙◌}
use Rattle.xt_names.specs.declared.codes.Code.{Code}
use Rattle.xt_syntax.specs.declared.exprs.Expr.{Expr}
use Rattle.expr_terms.specs.declared.raws.Raw.{Raw}
use Rattle.expr_reader.specs.declared.readings.Reading.{Reading}
use Rattle.expr_reader.specs.declared.readings.Reading.TheVariants as read
use Rattle.pattern_syntax.specs.ExprResolve.Folds.{broken_of, expr_meant}
use Rattle.xpath_syntax.specs.ExprReadings.Readings.{raw_reading}
use Rattle.xpath_syntax.proofs.ExprReadings.ReadingLemmas.{read_value, value_read}
use Rattle.sheet_expressions.specs.Checked.{checked}
use Rattle.sheet_values.specs.declared.sheet_texts.places.StaticContext.{StaticContext}
use Rattle.sheet_language.specs.Settings.{prefixes_at, setting_at}
use Rattle.sheet_language.specs.Language.{most_levels, checked_faults, checked_value, raw_faults, raw_value, expr_faults, expr_value}
use Rattle.sheet_language.specs.Meanings.{Means}

-- from what is spelled to the value
faults_are : (p : StaticContext) (text : List ℕ) (raw named : Raw) → raw_reading most_levels text ≡ read.Value raw → checked (prefixes_at p.bound) p.in_group raw ≡ Some named
    → expr_faults p text ≡ broken_of (setting_at p.bound) named
faults_are p text raw named e f = ap (raw_faults (setting_at p.bound) p.in_group) e ∙ ap (checked_faults (setting_at p.bound)) f

value_is : (p : StaticContext) (text : List ℕ) (raw named : Raw) → raw_reading most_levels text ≡ read.Value raw → checked (prefixes_at p.bound) p.in_group raw ≡ Some named
    → expr_value p text ≡ expr_meant (setting_at p.bound) named
value_is p text raw named e f = ap (raw_value (setting_at p.bound) p.in_group) e ∙ ap (checked_value (setting_at p.bound)) f

pub means_value : (p : StaticContext) (text : List ℕ) (e : Expr) → Means p text e → (expr_faults p text ≡ []) × (e ≡ expr_value p text)
means_value p text e m =
    let r : raw_reading most_levels text ≡ read.Value m.raw = read_value most_levels text m.raw m.is_read m.nests in
    (faults_are p text m.raw m.named r m.calls ∙ m.unbroken, m.means ∙ sym (value_is p text m.raw m.named r m.calls))

-- .. and back
some_code : {P : Type 0} (c : Code) (cs : List Code) → c ∷ cs ≡ [] → P
some_code c cs e = absurd cc

by_checked : (p : StaticContext) (text : List ℕ) (e : Expr) (raw : Raw) (o : Option Raw) → raw_reading most_levels text ≡ read.Value raw
    → checked (prefixes_at p.bound) p.in_group raw ≡ o → checked_faults (setting_at p.bound) o ≡ [] → e ≡ checked_value (setting_at p.bound) o → Means p text e
by_checked p text e raw None r c f v = some_code _ _ f
by_checked p text e raw (Some named) r c f v =
    let w = value_read most_levels text raw r in
    record { raw = raw; is_read = w.0; nests = w.1; named = named; calls = c; unbroken = f; means = v }

by_reading : (p : StaticContext) (text : List ℕ) (e : Expr) (r : Reading) → raw_reading most_levels text ≡ r
    → raw_faults (setting_at p.bound) p.in_group r ≡ [] → e ≡ raw_value (setting_at p.bound) p.in_group r → Means p text e
by_reading p text e read.Nothing r f v = some_code _ _ f
by_reading p text e read.TooDeep r f v = some_code _ _ f
by_reading p text e (read.Value raw) r f v = by_checked p text e raw (checked (prefixes_at p.bound) p.in_group raw) r refl f v

pub value_means : (p : StaticContext) (text : List ℕ) (e : Expr) → (expr_faults p text ≡ []) × (e ≡ expr_value p text) → Means p text e
value_means p text e h = by_reading p text e (raw_reading most_levels text) refl h.0 h.1
