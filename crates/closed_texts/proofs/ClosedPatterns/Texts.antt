-- What a text is read as, where it is a pattern that breaks no rule.
use Rattle.std.proofs.Common.{◌≡◌, ℕ, ◌≤◌, List, [], ◌∷◌, ◌++◌, Bool, true, false, cond, Option}
use Rattle.std.proofs.Common.{Some, None, refl, sym, subst, option_and_then, nat_le}
use Rattle.std.proofs.lemmas.Bool.{leb-true}
use Rattle.xt_names.specs.declared.codes.Code.{Code}
use Rattle.xt_names.specs.declared.codes.Code.TheVariants.{SheetStatic}
use Rattle.xt_names.specs.declared.codes.SheetStaticCode.TheVariants.{XTUN0001, XTSE0340}
use Rattle.expr_keys.specs.declared.productions.Language.TheVariants.{Xpath as xpath}
use Rattle.expr_keys.specs.declared.tokens.Token.{Token}
use Rattle.expr_terms.specs.declared.raws.Raw.{Raw}
use Rattle.expr_tokens.specs.Terms.{Written, terms_of}
use Rattle.expr_grammar.specs.Grammar.{Spells}
use Rattle.expr_grammar.specs.Machine.{read_whole}
use Rattle.expr_grammar.proofs.Run.{runs_spells}
use Rattle.expr_grammar.specs.ExprNest.Measures.{predicate_nest_of}
use Rattle.expr_grammar.specs.declared.expr_nest.measures.Measure.TheVariants.{Predicates}
use Rattle.expr_names.specs.Answers.{first}
use Rattle.expr_reader.specs.Answers.{within_by}
use Rattle.expr_reader.specs.declared.readings.Reading.TheVariants as read
use Rattle.xpath_syntax.specs.ExprReadings.Readings.{terms_in}
use Rattle.expr_resolve.specs.declared.setting.Setting.{Setting}
use Rattle.expr_tokens.specs.TextTokens.Lexed.{lexed}
use Rattle.pattern_forms.specs.PatternShapes.Shapes.{is_pattern}
use Rattle.pattern_syntax.specs.Meant.{patterns_of, pattern_broken, left_out, is_allowed}
use Rattle.pattern_syntax.specs.Readings as pattern
use Rattle.pattern_syntax.specs.Readings.{Answer, value_or, resolved, answer_of, reading_in}
use Rattle.pattern_syntax.specs.Readings.{begins_with_key, keyed, unless_key, pattern_reading}
use Rattle.pattern_syntax.specs.PatternReadings.Readings.{text_reading}
use Rattle.sheet_language.specs.Language.{answer_faults, answer_value, most_levels, patterns_faults}
use Rattle.sheet_language.specs.Language.{patterns_value}
use Rattle.sheet_language.specs.Settings.{setting_at}
use Rattle.closed_texts.proofs.SheetLaws.Lexed.{text_sound}
use Rattle.closed_texts.proofs.SheetLaws.Types.{sound_at}
use Rattle.sheet_values.specs.declared.sheet_texts.places.StaticContext.{StaticContext}
use Rattle.sound_expressions.specs.SoundForms.Sound.{SoundBindings}
use Rattle.closed_texts.proofs.ClosedPatterns.Patterns.{GoodPatterns, pattern_good}

module _ (s : Setting) (k : ℕ) where
  -- tokens that are read so
  record Read (ts : List Token) (a : Answer) : Type 0 where
    raw : Raw
    spelled : Spells xpath ts raw
    nests : predicate_nest_of raw ≤ k
    shape : is_pattern raw ≡ true
    unbroken : pattern_broken s raw ≡ []
    allowed : is_allowed s raw ≡ true
    means : answer_value a ≡ patterns_of s raw

  record ReadIn (o : Option (List Token)) (a : Answer) : Type 0 where
    tokens : List Token
    are : o ≡ Some tokens
    read_so : Read tokens a

  module _ (ts : List Token) (raw : Raw) (d : Spells xpath ts raw)
      (n : predicate_nest_of raw ≤ k) (i : is_pattern raw ≡ true) where
    abbrev left : Bool → Answer
    left b = value_or (first (cond b [] (SheetStatic XTUN0001 ∷ []))) (patterns_of s raw)

    allowed_read : (b : Bool) → is_allowed s raw ≡ b → pattern_broken s raw ≡ []
        → answer_faults (left b) ≡ [] → Read ts (left b)
    allowed_read true e b f = record {
      raw = raw;
      spelled = d;
      nests = n;
      shape = i;
      unbroken = b;
      allowed = e;
      means = refl;
    }
    allowed_read false e b f = absurd cc

    rules_read : (cs : List Code) → pattern_broken s raw ≡ cs
        → answer_faults (value_or (first (cs ++ left_out s raw)) (patterns_of s raw)) ≡ []
        → Read ts (value_or (first (cs ++ left_out s raw)) (patterns_of s raw))
    rules_read [] e f = allowed_read (is_allowed s raw) refl e f
    rules_read (c ∷ cs) e f = absurd cc

  shape_read : (ts : List Token) (raw : Raw) → Spells xpath ts raw → predicate_nest_of raw ≤ k
      → (b : Bool) → is_pattern raw ≡ b
      → answer_faults (cond b (resolved s raw) (pattern.static (SheetStatic XTSE0340))) ≡ []
      → Read ts (cond b (resolved s raw) (pattern.static (SheetStatic XTSE0340)))
  shape_read ts raw d n true e f = rules_read ts raw d n e (pattern_broken s raw) refl f
  shape_read ts raw d n false e f = absurd cc

  levels_read : (ts : List Token) (raw : Raw) → Spells xpath ts raw
      → (b : Bool) → nat_le (predicate_nest_of raw) k ≡ b
      → answer_faults (answer_of s (cond b (read.Value raw) read.TooDeep)) ≡ []
      → Read ts (answer_of s (cond b (read.Value raw) read.TooDeep))
  levels_read ts raw d true e f =
      shape_read ts raw d (leb-true _ _ e) (is_pattern raw) refl f
  levels_read ts raw d false e f = absurd cc

  whole_read : (ts : List Token) (o : Option Raw) → read_whole xpath ts ≡ o
      → answer_faults (answer_of s (within_by Predicates k o)) ≡ []
      → Read ts (answer_of s (within_by Predicates k o))
  whole_read ts None e f = absurd cc
  whole_read ts (Some raw) e f =
      levels_read ts raw (runs_spells e) (nat_le (predicate_nest_of raw) k) refl f

  terms_read : (o : Option (List Token)) → answer_faults (reading_in s k o) ≡ []
      → ReadIn o (reading_in s k o)
  terms_read None f = absurd cc
  terms_read (Some ts) f =
      record { tokens = ts; are = refl; read_so = whole_read ts (read_whole xpath ts) refl f }

  -- what begins with `key(` or `id(` is refused
  keyed_refused : (a : Answer) → answer_faults (keyed a) ≡ [] → ⊥
  keyed_refused (pattern.value ps) f = cc
  keyed_refused pattern.syntax f = cc
  keyed_refused (pattern.static c) f = cc
  keyed_refused pattern.too_deep f = cc

  key_read : (b : Bool) (o : Option (List Token))
      → answer_faults (unless_key b (reading_in s k o)) ≡ []
      → ReadIn o (unless_key b (reading_in s k o))
  key_read true o f = absurd (keyed_refused (reading_in s k o) f)
  key_read false o f = terms_read o f

  lexed_read : (o : Option (List Written)) → answer_faults (pattern_reading s k o) ≡ []
      → ReadIn (option_and_then terms_of o) (pattern_reading s k o)
  lexed_read None f = absurd cc
  lexed_read (Some ts) f = key_read (begins_with_key ts) (terms_of ts) f

  text_read : (text : List ℕ) → answer_faults (text_reading s k text) ≡ []
      → ReadIn (terms_in text) (text_reading s k text)
  unfolding text_reading
  text_read text f = lexed_read (lexed text) f

pub patterns_closed : (p : StaticContext) (text : List ℕ) → SoundBindings p.bound
    → patterns_faults p text ≡ [] → GoodPatterns (patterns_value p text)
patterns_closed p text u f =
    let s = setting_at p.bound in
    let r = text_read s most_levels text f in
    let a = text_sound text r.tokens r.are in
    let x = r.read_so in
    subst (λ ps. GoodPatterns ps) (sym x.means)
    (pattern_good s (sound_at p.bound u) x.raw x.spelled a x.shape x.nests x.unbroken x.allowed)
