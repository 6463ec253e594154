-- Which alternatives a text spells (XSLT 2.0, 5.5.2).
use Rattle.std.specs.Prelude.{◌≡◌, ◌≤◌, ◌<◌, ℕ, List, [], length, true, false, Some, Result}
use Rattle.std.specs.Prelude.{Ok, Err}
use Rattle.xt_names.specs.declared.codes.Code.{Code}
use Rattle.xt_names.specs.declared.codes.Code.TheVariants.{SheetStatic}
use Rattle.xt_names.specs.declared.codes.SheetStaticCode.TheVariants.{XTUN0001, XTSE0340}
use Rattle.xt_syntax.specs.declared.patterns.Pattern.{Pattern}
use Rattle.xt_syntax.specs.declared.prefixes.ParseFault.{ParseFault}
use Rattle.xt_syntax.specs.declared.prefixes.ParseFault.TheVariants.{Syntax, Static, TooDeep}
use Rattle.xt_syntax.specs.declared.prefixes.ParseFault.TheVariants.{Memory}
use Rattle.expr_terms.specs.declared.raws.Raw.{Raw}
use Rattle.expr_tokens.specs.Terms.{Written}
use Rattle.expr_grammar.specs.ExprNest.Measures.{predicate_nest_of}
use Rattle.expr_names.specs.Answers.{first}
use Rattle.expr_resolve.specs.declared.setting.Setting.{Setting}
use Rattle.expr_resolve.specs.Folds.{broken_of}
use Rattle.xpath_syntax.specs.Spelled.{IsWritten}
use Rattle.pattern_forms.specs.PatternShapes.Shapes.{is_pattern}
use Rattle.pattern_syntax.specs.Meant.{patterns_of, is_allowed}
use Rattle.pattern_syntax.specs.Readings.{IsLexed, begins_with_key}

-- the text spells the raw value
pub record IsRead (text : List ℕ) (raw : Raw) : Type 0 where
  pub tokens : List Written
  pub lexed : IsLexed text (Some tokens)
  pub is_written : IsWritten tokens raw

-- .. and begins with `key(` or `id(`
pub record IsKeyForm (text : List ℕ) : Type 0 where
  pub raw : Raw
  pub read : IsRead text raw
  pub keyed : begins_with_key read.tokens ≡ true

-- .. or does not
pub record IsSupported (text : List ℕ) (raw : Raw) : Type 0 where
  pub read : IsRead text raw
  pub keyless : begins_with_key read.tokens ≡ false

-- the raw value is a pattern, and means these alternatives
pub record IsMeant (s : Setting) (raw : Raw) (ps : List Pattern) : Type 0 where
  pub shape : is_pattern raw ≡ true
  pub unbroken : broken_of s raw ≡ []
  pub allowed : is_allowed s raw ≡ true
  pub means : ps ≡ patterns_of s raw

pub record Spells (s : Setting) (text : List ℕ) (ps : List Pattern) : Type 0 where
  pub raw : Raw
  pub is_read : IsRead text raw
  pub is_meant : IsMeant s raw ps

-- .. and no predicate nests deeper
pub record SpellsWithin (s : Setting) (k : ℕ) (text : List ℕ) (ps : List Pattern) : Type 0 where
  pub raw : Raw
  pub is_read : IsRead text raw
  pub nests : predicate_nest_of raw ≤ k
  pub is_meant : IsMeant s raw ps

-- Why what is read is refused: it has not the shape of a pattern; or a static rule of expressions
-- is broken, of which this is the code of the first; or a test or a predicate is one that patterns
-- have not.
pub data Why (s : Setting) (raw : Raw) : Code → Type 0 where
  shapeless : is_pattern raw ≡ false → Why s raw (SheetStatic XTSE0340)
  breaks : {c : Code} → is_pattern raw ≡ true → first (broken_of s raw) ≡ Some c → Why s raw c
  unsupported : is_pattern raw ≡ true → broken_of s raw ≡ [] → is_allowed s raw ≡ false
      → Why s raw (SheetStatic XTUN0001)

pub data IsRefused (s : Setting) (k : ℕ) (text : List ℕ) : Code → Type 0 where
  key_form : IsKeyForm text → IsRefused s k text (SheetStatic XTUN0001)
  refused : {raw : Raw} {c : Code} → IsSupported text raw → predicate_nest_of raw ≤ k
      → Why s raw c → IsRefused s k text c

-- some predicate nests deeper, and so there are as many tokens as the limit at least
pub record IsTooDeep (k : ℕ) (text : List ℕ) : Type 0 where
  pub raw : Raw
  pub supported : IsSupported text raw
  pub nests : k < predicate_nest_of raw
  pub long : k ≤ length supported.read.tokens

-- what the answer of the parser says of the text
abbrev pub Parsed : Result (List Pattern) ParseFault → Setting → ℕ → List ℕ → Type 0
Parsed (Ok ps) s k text = SpellsWithin s k text ps
Parsed (Err Syntax) s k text = (tokens : List Written) (raw : Raw) → IsLexed text (Some tokens)
    → IsWritten tokens raw → ⊥
Parsed (Err (Static c)) s k text = IsRefused s k text c
Parsed (Err TooDeep) s k text = IsTooDeep k text
Parsed (Err (Memory e)) s k text = Unit {0}
