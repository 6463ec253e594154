-- What a text is read as: one function of its tokens.
use Rattle.std.specs.Prelude.{◌≡◌, ℕ, List, [], ◌∷◌, ◌++◌, map, length, Bool, false, ◌||◌, ◌&&◌}
use Rattle.std.specs.Prelude.{if◌then◌else◌, codes}
use Rattle.std.specs.Prelude.{Option, Some, None, Result, Ok, Err}
use Rattle.std.specs.Str.{chars, bytes_eq}
use Rattle.xt_names.specs.declared.codes.Code.{Code}
use Rattle.xt_names.specs.declared.codes.Code.TheVariants.{SheetStatic}
use Rattle.xt_names.specs.declared.codes.SheetStaticCode.TheVariants.{XTUN0001, XTSE0340}
use Rattle.xt_syntax.specs.declared.patterns.Pattern.{Pattern}
use Rattle.xt_syntax.specs.declared.prefixes.ParseFault.{ParseFault}
use Rattle.xt_syntax.specs.declared.prefixes.ParseFault.TheVariants.{Syntax, Static, TooDeep}
use Rattle.xt_syntax.specs.declared.prefixes.ParseFault.TheVariants.{Memory}
use Rattle.xpath_lex.specs.declared.lexing.TokenKind.{TokenKind}
use Rattle.xpath_lex.specs.declared.lexing.TokenKind.TheVariants.{Word, Symbol}
use Rattle.xpath_lex.specs.Readings.{Placed, Tokens, Fault}
use Rattle.expr_keys.specs.declared.tokens.Token.{Token}
use Rattle.expr_terms.specs.declared.raws.Raw.{Raw}
use Rattle.expr_keys.specs.declared.productions.Language.TheVariants.{Xpath as xpath}
use Rattle.expr_tokens.specs.Terms.{Written, terms_of}
use Rattle.expr_grammar.specs.Machine.{read_whole}
use Rattle.expr_grammar.specs.declared.expr_nest.measures.Measure.TheVariants.{Predicates}
use Rattle.expr_reader.specs.declared.readings.Reading.{Reading}
use Rattle.expr_reader.specs.declared.readings.Reading.TheVariants as read
use Rattle.expr_reader.specs.Answers.{within_by}
use Rattle.expr_names.specs.Answers.{first}
use Rattle.expr_resolve.specs.declared.setting.Setting.{Setting}
use Rattle.pattern_forms.specs.PatternShapes.Shapes.{is_pattern}
use Rattle.pattern_syntax.specs.Meant.{patterns_of, pattern_broken, left_out}
use Rattle.expr_tokens.specs.TextTokens.Lexed.{unplaced}

-- what a text gives: its alternatives, or why it is no pattern
pub data Answer : Type 0 where
  value : List Pattern → Answer
  syntax : Answer
  static : Code → Answer
  too_deep : Answer

-- the static rules of expressions come before those of patterns
abbrev pub rules_broken : Setting → Raw → List Code
rules_broken s raw = pattern_broken s raw ++ left_out s raw

abbrev pub value_or : Option Code → List Pattern → Answer
value_or None ps = value ps
value_or (Some c) ps = static c

abbrev pub resolved : Setting → Raw → Answer
resolved s raw = value_or (first (rules_broken s raw)) (patterns_of s raw)

abbrev pub shaped : Setting → Raw → Answer
shaped s raw = if is_pattern raw then resolved s raw else static (SheetStatic XTSE0340)

abbrev pub answer_of : Setting → Reading → Answer
answer_of s (read.Value raw) = shaped s raw
answer_of s read.Nothing = syntax
answer_of s read.TooDeep = too_deep

abbrev pub reading_of : Setting → ℕ → List Token → Answer
reading_of s k us = answer_of s (within_by Predicates k (read_whole xpath us))

abbrev pub reading_in : Setting → ℕ → Option (List Token) → Answer
reading_in s k None = syntax
reading_in s k (Some us) = reading_of s k us

-- the functions that may begin a pattern
abbrev pub is_key_text : TokenKind → List ℕ → Bool
is_key_text Word cs = bytes_eq cs (codes "key") || bytes_eq cs (codes "id")
is_key_text kind cs = false

abbrev pub is_open_text : TokenKind → List ℕ → Bool
is_open_text Symbol cs = bytes_eq cs (codes "(")
is_open_text kind cs = false

-- `key` or `id`, and then `(`: the forms of patterns that are left out
abbrev pub begins_with_key : List Written → Bool
begins_with_key [] = false
begins_with_key (t ∷ []) = false
begins_with_key (t ∷ u ∷ ts) = is_key_text t.kind t.characters && is_open_text u.kind u.characters

-- of what spells an expression, what begins so is refused for it before all else
abbrev pub keyed : Answer → Answer
keyed syntax = syntax
keyed (value ps) = static (SheetStatic XTUN0001)
keyed (static c) = static (SheetStatic XTUN0001)
keyed too_deep = static (SheetStatic XTUN0001)

abbrev pub unless_key : Bool → Answer → Answer
unless_key b a = if b then keyed a else a

abbrev pub reading_tokens : Setting → ℕ → List Written → Answer
reading_tokens s k ts = unless_key (begins_with_key ts) (reading_in s k (terms_of ts))

-- the answer for the tokens of a text, where it has some
abbrev pub pattern_reading : Setting → ℕ → Option (List Written) → Answer
pattern_reading s k None = syntax
pattern_reading s k (Some ts) = reading_tokens s k ts

-- the tokens of a text, or none where no token begins somewhere in it
abbrev pub IsLexed : List ℕ → Option (List Written) → Type 0
IsLexed text None = (place : ℕ) × Fault (length text) false (chars text) place
IsLexed text (Some ts) = (placed : List Placed)
    × (Tokens (length text) false (chars text) placed × (ts ≡ map unplaced placed))

-- the call answers so, unless memory ran out
abbrev pub Gives : Result (List Pattern) ParseFault → Answer → Type 0
Gives (Ok ps) a = a ≡ value ps
Gives (Err Syntax) a = a ≡ syntax
Gives (Err (Static c)) a = a ≡ static c
Gives (Err TooDeep) a = a ≡ too_deep
Gives (Err (Memory e)) a = Unit {0}

-- the text has tokens for which it answers so
abbrev pub IsAnswered : Result (List Pattern) ParseFault → Setting → ℕ → List ℕ → Type 0
IsAnswered r s k text = (tokens : Option (List Written))
    × (IsLexed text tokens × Gives r (pattern_reading s k tokens))

-- .. unless memory ran out
abbrev pub GivesText : Result (List Pattern) ParseFault → Setting → ℕ → List ℕ → Type 0
GivesText (Err (Memory e)) s k text = Unit {0}
GivesText r s k text = IsAnswered r s k text
