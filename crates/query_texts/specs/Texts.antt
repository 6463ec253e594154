-- Which text spells which query.
use Rattle.std.specs.Prelude.{◌<◌, ◌≤◌, ℕ, max, List, [], ◌∷◌}
use Rattle.expr_keys.specs.declared.tokens.Token.{Token}
use Rattle.expr_terms.specs.Nest.{raw_nest_of}
use Rattle.query_grammar.specs.declared.declared.Declared.{Declared}
use Rattle.query_grammar.specs.declared.declared.RawQuery.{RawQuery}
use Rattle.query_grammar.specs.Prolog.{SpellsQuery}
use Rattle.query_pieces.specs.Points.{start}
use Rattle.query_pieces.specs.Readings.{Splits}
use Rattle.query_reader.specs.QuerySteps.Stands.{nest_in}
use Rattle.query_texts.specs.declared.readings.QueryReading.{QueryReading}
use Rattle.query_texts.specs.declared.readings.QueryReading.TheVariants as reading

-- The text may be parted into tokens and pieces that spell the query.
pub data SpellsText (text : List ℕ) (q : RawQuery) : Type 0 where
  spelled : {ts : List Token} → Splits (start text) ts → SpellsQuery ts q → SpellsText text q

abbrev pub declared_nest : List Declared → ℕ
declared_nest [] = 0
declared_nest (d ∷ ds) = max (nest_in d) (declared_nest ds)

-- how deep the deepest of its expressions nests: its body, initialisers and bodies of functions
abbrev pub query_nest : RawQuery → ℕ
query_nest q = max (declared_nest q.declared) (raw_nest_of q.body)

-- a query is spelled within the limit, none is, or one that nests deeper is
abbrev pub ReadAs : List ℕ → ℕ → QueryReading → Type 0
ReadAs text k reading.Nothing = (q : RawQuery) → SpellsText text q → ⊥
ReadAs text k reading.TooDeep = (q : RawQuery) × (SpellsText text q × (k < query_nest q))
ReadAs text k (reading.Value q) = SpellsText text q × (query_nest q ≤ k)
