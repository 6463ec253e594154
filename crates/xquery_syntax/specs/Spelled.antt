-- Which query a text spells (XQuery 1.0, A.1).
use Rattle.std.specs.Prelude.{◌≡◌, ◌≤◌, ◌<◌, ℕ, List, length, true, false, Some, Result, Ok, Err}
use Rattle.xt_names.specs.declared.codes.Code.{Code}
use Rattle.xt_syntax.specs.declared.queries.Query.{Query}
use Rattle.xt_syntax.specs.declared.prefixes.ParseFault.{ParseFault}
use Rattle.xt_syntax.specs.declared.prefixes.ParseFault.TheVariants.{Syntax, Static, TooDeep}
use Rattle.xt_syntax.specs.declared.prefixes.ParseFault.TheVariants.{Memory}
use Rattle.closed_queries.specs.Closed.{is_closed}
use Rattle.expr_names.specs.Answers.{first}
use Rattle.query_grammar.specs.declared.declared.RawQuery.{RawQuery}
use Rattle.query_texts.specs.Texts.{SpellsText, query_nest}
use Rattle.query_resolve.specs.Meaning.{Meant}
use Rattle.query_resolve.specs.Queries.{rules_broken}
use Rattle.xquery_syntax.specs.QueryLaws.Shapes.{is_shaped_query}

-- the text spells the query as it is written
pub record IsWritten (text : List ℕ) (raw : RawQuery) : Type 0 where
  pub spelled : SpellsText text raw
  pub shaped : is_shaped_query raw ≡ true

-- .. and this one, which is closed: no static rule is broken
pub record Spells (text : List ℕ) (q : Query) : Type 0 where
  pub raw : RawQuery
  pub is_written : IsWritten text raw
  pub means : Meant raw q
  pub closed : is_closed q ≡ true

-- .. and it nests no deeper
pub record SpellsWithin (k : ℕ) (text : List ℕ) (q : Query) : Type 0 where
  pub raw : RawQuery
  pub is_written : IsWritten text raw
  pub nests : query_nest raw ≤ k
  pub means : Meant raw q
  pub closed : is_closed q ≡ true

-- of the rules that it breaks the first has this code, and it nests no deeper
pub record BreaksFirst (k : ℕ) (text : List ℕ) (c : Code) : Type 0 where
  pub raw : RawQuery
  pub is_written : IsWritten text raw
  pub nests : query_nest raw ≤ k
  pub broken : first (rules_broken raw) ≡ Some c

-- what its tokens spell nests deeper, and so it has more characters
pub record IsTooDeep (k : ℕ) (text : List ℕ) : Type 0 where
  pub raw : RawQuery
  pub spelled : SpellsText text raw
  pub nests : k < query_nest raw
  pub long : k < length text

-- its tokens spell nothing; or what nests no deeper, but its tags do not end alike
pub data Misspelt (k : ℕ) (text : List ℕ) : Type 0 where
  unwritten : ((raw : RawQuery) → SpellsText text raw → ⊥) → Misspelt k text
  misshapen : (raw : RawQuery) → SpellsText text raw → query_nest raw ≤ k
      → is_shaped_query raw ≡ false → Misspelt k text

-- what the answer of the parser says of the text
abbrev pub Parsed : Result Query ParseFault → ℕ → List ℕ → Type 0
Parsed (Ok q) k text = SpellsWithin k text q
Parsed (Err Syntax) k text = Misspelt k text
Parsed (Err (Static c)) k text = BreaksFirst k text c
Parsed (Err TooDeep) k text = IsTooDeep k text
Parsed (Err (Memory e)) k text = Unit {0}

-- memory did not run out
abbrev pub IsSettled : Result Query ParseFault → Type 0
IsSettled (Ok q) = Unit {0}
IsSettled (Err Syntax) = Unit {0}
IsSettled (Err (Static c)) = Unit {0}
IsSettled (Err TooDeep) = Unit {0}
IsSettled (Err (Memory e)) = ⊥
