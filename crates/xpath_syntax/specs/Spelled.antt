-- Which expressions the tokens of a text spell (XPath 2.0, A.1).
use Rattle.std.specs.Prelude.{◌≡◌, ◌≤◌, ◌<◌, ℕ, List, [], ◌∷◌, ◌++◌, length, Some, Result, Ok, Err}
use Rattle.xt_names.specs.declared.codes.Code.{Code}
use Rattle.xt_syntax.specs.declared.exprs.Expr.{Expr}
use Rattle.xt_syntax.specs.declared.prefixes.ParseFault.{ParseFault}
use Rattle.xt_syntax.specs.declared.prefixes.ParseFault.TheVariants.{Syntax, Static, TooDeep, Memory}
use Rattle.expr_keys.specs.declared.tokens.Token.{Token}
use Rattle.expr_terms.specs.declared.raws.Raw.{Raw}
use Rattle.expr_keys.specs.declared.productions.Language.TheVariants.{Xpath as xpath}
use Rattle.expr_terms.specs.Nest.{raw_nest_of}
use Rattle.expr_tokens.specs.Terms.{Written, terms_of}
use Rattle.expr_grammar.specs.Grammar as grammar
use Rattle.expr_names.specs.Answers.{first}
use Rattle.expr_resolve.specs.declared.setting.Setting.{Setting}
use Rattle.expr_resolve.specs.Folds.{broken_of, expr_meant}

-- the tokens spell the raw value
pub record IsWritten (ts : List Written) (raw : Raw) : Type 0 where
  pub terms : List Token
  pub are : terms_of ts ≡ Some terms
  pub spelled : grammar.Spells xpath terms raw

-- .. and the expression: no static rule is broken
pub record Spells (s : Setting) (ts : List Written) (e : Expr) : Type 0 where
  pub raw : Raw
  pub is_written : IsWritten ts raw
  pub unbroken : broken_of s raw ≡ []
  pub means : e ≡ expr_meant s raw

-- .. and it nests no deeper
pub record SpellsWithin (s : Setting) (k : ℕ) (ts : List Written) (e : Expr) : Type 0 where
  pub raw : Raw
  pub is_written : IsWritten ts raw
  pub nests : raw_nest_of raw ≤ k
  pub unbroken : broken_of s raw ≡ []
  pub means : e ≡ expr_meant s raw

-- what they spell breaks the rule of this code
pub record Breaks (s : Setting) (ts : List Written) (c : Code) : Type 0 where
  pub raw : Raw
  pub is_written : IsWritten ts raw
  pub before : List Code
  pub behind : List Code
  pub broken : broken_of s raw ≡ before ++ c ∷ behind

-- .. which is the first, and it nests no deeper
pub record BreaksFirst (s : Setting) (k : ℕ) (ts : List Written) (c : Code) : Type 0 where
  pub raw : Raw
  pub is_written : IsWritten ts raw
  pub nests : raw_nest_of raw ≤ k
  pub broken : first (broken_of s raw) ≡ Some c

-- what they spell nests deeper, and so there are as many tokens as the limit at least
pub record IsTooDeep (k : ℕ) (ts : List Written) : Type 0 where
  pub raw : Raw
  pub is_written : IsWritten ts raw
  pub nests : k < raw_nest_of raw
  pub long : k ≤ length ts

-- what the answer of the parser says of the tokens
abbrev pub Parsed : Result Expr ParseFault → Setting → ℕ → List Written → Type 0
Parsed (Ok e) s k ts = SpellsWithin s k ts e
Parsed (Err Syntax) s k ts = (raw : Raw) → IsWritten ts raw → ⊥
Parsed (Err (Static c)) s k ts = BreaksFirst s k ts c
Parsed (Err TooDeep) s k ts = IsTooDeep k ts
Parsed (Err (Memory e)) s k ts = Unit {0}
