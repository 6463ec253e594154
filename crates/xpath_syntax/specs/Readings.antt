-- What the tokens of a text are read as: one function of them.
use Rattle.std.specs.Prelude.{◌≡◌, ℕ, List, Option, Some, None, Result, Ok, Err}
use Rattle.xt_names.specs.declared.codes.Code.{Code}
use Rattle.xt_syntax.specs.declared.exprs.Expr.{Expr}
use Rattle.xt_syntax.specs.declared.prefixes.ParseFault.{ParseFault}
use Rattle.xt_syntax.specs.declared.prefixes.ParseFault.TheVariants.{Syntax, Static, TooDeep, Memory}
use Rattle.expr_keys.specs.declared.tokens.Token.{Token}
use Rattle.expr_terms.specs.declared.raws.Raw.{Raw}
use Rattle.expr_keys.specs.declared.productions.Language.TheVariants.{Xpath as xpath}
use Rattle.expr_tokens.specs.Terms.{Written, terms_of}
use Rattle.expr_grammar.specs.Machine.{read_whole}
use Rattle.expr_reader.specs.declared.readings.Reading.{Reading}
use Rattle.expr_reader.specs.declared.readings.Reading.TheVariants as read
use Rattle.expr_reader.specs.Answers.{within}
use Rattle.expr_names.specs.Answers.{first}
use Rattle.expr_resolve.specs.declared.setting.Setting.{Setting}
use Rattle.expr_resolve.specs.Folds.{broken_of, expr_meant}

-- what a text gives: an expression, or why it is none
pub data Answer : Type 0 where
  value : Expr → Answer
  syntax : Answer
  static : Code → Answer
  too_deep : Answer

abbrev pub value_or : Option Code → Expr → Answer
value_or None e = value e
value_or (Some c) e = static c

-- the code of the first broken rule, or the expression
abbrev pub resolved : Setting → Raw → Answer
resolved s raw = value_or (first (broken_of s raw)) (expr_meant s raw)

abbrev pub answer_of : Setting → Reading → Answer
answer_of s (read.Value raw) = resolved s raw
answer_of s read.Nothing = syntax
answer_of s read.TooDeep = too_deep

abbrev pub reading_of : Setting → ℕ → List Token → Answer
reading_of s k us = answer_of s (within k (read_whole xpath us))

abbrev pub reading_in : Setting → ℕ → Option (List Token) → Answer
reading_in s k None = syntax
reading_in s k (Some us) = reading_of s k us

-- the answer for the tokens of a text
abbrev pub reading : Setting → ℕ → List Written → Answer
reading s k ts = reading_in s k (terms_of ts)

-- the call answers so, unless memory ran out
abbrev pub Gives : Result Expr ParseFault → Answer → Type 0
Gives (Ok e) a = a ≡ value e
Gives (Err Syntax) a = a ≡ syntax
Gives (Err (Static c)) a = a ≡ static c
Gives (Err TooDeep) a = a ≡ too_deep
Gives (Err (Memory e)) a = Unit {0}
