-- What a text is read as, as a query: one function of its characters (XQuery 1.0, 2.3.1, 4 and A).
use Rattle.std.specs.Prelude.{ℕ, List, [], ◌∷◌, Option, Some, None}
use Rattle.query_grammar.specs.declared.declared.RawQuery.{RawQuery}
use Rattle.query_grammar.specs.Machine.{read_query}
use Rattle.query_readings.specs.QueryPartings.Partings.{partings}
use Rattle.xquery_syntax.specs.Answers.{Answer, syntax, answer_within}

abbrev pub or_else : {B : Type 0} → Option B → Option B → Option B
or_else (Some y) other = Some y
or_else None other = other

-- what the function makes of the first element of which it makes something
abbrev pub first_of : {A B : Type 0} → (A → Option B) → List A → Option B
first_of f [] = None
first_of f (x ∷ xs) = or_else (f x) (first_of f xs)

-- The query that the text spells, as it is written: that of the first way to part the text into
-- tokens and pieces of which the reader of the grammar makes a query. All ways that spell one spell
-- the same.
unfoldable pub raw_query : List ℕ → Option RawQuery
raw_query text = first_of read_query (partings text)

abbrev pub answer_in : ℕ → Option RawQuery → Answer
answer_in k None = syntax
answer_in k (Some raw) = answer_within k raw

-- the query that the text spells, or why it spells none
abbrev pub query_reading : ℕ → List ℕ → Answer
query_reading k text = answer_in k (raw_query text)
