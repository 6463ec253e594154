-- The text of a request to run a query, and why there is none.
use Rattle.std.specs.Prelude.{◌≡◌, ℕ, List, ⊤, ◌⊎◌}
use Rattle.std.specs.Str.{encode_utf8_all}
use Rattle.xt_io.specs.Files.{FilesState}
use Rattle.xt_tree.specs.declared.trees.Tree.{Tree}
use Rattle.xt_names.specs.declared.codes.Code.{Code}
use Rattle.doc_grammar.specs.declared.spots.Spot.{Spot}
use Rattle.expr_meaning.specs.Outcomes.Outcome as outcome
use Rattle.xt_syntax.specs.declared.queries.Query.{Query}
use Rattle.command_words.specs.Requests.{Inputs}
use Rattle.xt_io.specs.Loads.{Holdings, IsLoadFailure, IsTooLong}
use Rattle.run_parts.specs.Inputs.{HoldsInputs, IsLoadedOf}
use Rattle.run_parts.specs.Inputs.{IsMalformedOf}
use Rattle.run_parts.specs.declared.status.Status.{Status}
use Rattle.run_parts.specs.declared.status.Status.TheVariants.{Load, TooLong, Malformed, Static}
use Rattle.run_parts.specs.declared.status.Status.TheVariants.{Dynamic, Deep, Memory}
use Rattle.driver.specs.QueryRuns.Queries.{HoldsQuery, HoldsSomeQuery, HoldsNoQuery, Gives, IsFailingOn}
use Rattle.driver.specs.QueryRuns.Queries.{items_of}

-- what a query runs on, as the files hold it
pub record HoldsAllInputs (files : Holdings) (inputs : Inputs) : Type 0 where
  pub document_tree : Tree
  pub further_trees : List Tree
  pub inputs_held : HoldsInputs files inputs document_tree further_trees

-- the text is what this query gives on the documents, as the files hold them
pub record HasTextOf (files : Holdings) (query : Query) (inputs : Inputs) (text : List ℕ)
    : Type 0 where
  pub held : HoldsAllInputs files inputs
  pub gives : Gives query inputs held.document_tree held.further_trees text

-- why this query has no text
abbrev pub IsNoTextOfAs : Query → Inputs → FilesState → FilesState → Status → Type 0
IsNoTextOfAs query inputs old new (Load name) =
    IsLoadedOf inputs old.held (encode_utf8_all name)
    × IsLoadFailure old new (encode_utf8_all name)
IsNoTextOfAs query inputs old new (TooLong name n) =
    IsLoadedOf inputs old.held (encode_utf8_all name) × IsTooLong old new (encode_utf8_all name) n
IsNoTextOfAs query inputs old new (Malformed name spot) =
    IsMalformedOf inputs old.held (encode_utf8_all name) spot
IsNoTextOfAs query inputs old new (Dynamic code) =
    (all : HoldsAllInputs old.held inputs)
    × IsFailingOn query inputs all.document_tree all.further_trees code
IsNoTextOfAs query inputs old new (Deep depth) =
    (all : HoldsAllInputs old.held inputs) × (depth ≡ inputs.depth)
    × (items_of query inputs all.document_tree all.further_trees ≡ outcome.Deep)
IsNoTextOfAs query inputs old new Memory = ⊤
IsNoTextOfAs query inputs old new _ = ⊥

-- a query and what it runs on, as the files hold them
pub record HoldsAllOfQuery (files : Holdings) (query : List ℕ) (inputs : Inputs) : Type 0 where
  pub parsed : Query
  pub document_tree : Tree
  pub further_trees : List Tree
  pub query_held : HoldsQuery files query parsed
  pub inputs_held : HoldsInputs files inputs document_tree further_trees

-- the text is what the query gives on the documents, as the files hold them
pub record HasQueryText (files : Holdings) (query : List ℕ) (inputs : Inputs) (text : List ℕ)
    : Type 0 where
  pub held : HoldsAllOfQuery files query inputs
  pub gives : Gives held.parsed inputs held.document_tree held.further_trees text

-- the request comes to load this file, with nothing wrong before
abbrev pub IsQueryReached : List ℕ → Inputs → Holdings → List ℕ → Type 0
IsQueryReached query inputs files name =
    (name ≡ query) ⊎ (HoldsSomeQuery files query × IsLoadedOf inputs files name)

-- the request comes to this file, which is no document, and this is its first fault
abbrev pub IsQueryMalformed : List ℕ → Inputs → Holdings → List ℕ → Spot → Type 0
IsQueryMalformed query inputs files name spot =
    HoldsSomeQuery files query × IsMalformedOf inputs files name spot

-- the query fails with the code, or its items have no text
abbrev pub IsQueryFailing : List ℕ → Inputs → Holdings → Code → Type 0
IsQueryFailing query inputs files code =
    (all : HoldsAllOfQuery files query inputs)
    × IsFailingOn all.parsed inputs all.document_tree all.further_trees code

-- the query would pass the depth
abbrev pub IsQueryTooDeep : List ℕ → Inputs → Holdings → ℕ → Type 0
IsQueryTooDeep query inputs files depth =
    (all : HoldsAllOfQuery files query inputs) × (depth ≡ inputs.depth)
    × (items_of all.parsed inputs all.document_tree all.further_trees ≡ outcome.Deep)

-- why there is no text
abbrev pub IsNoQueryTextAs : List ℕ → Inputs → FilesState → FilesState → Status → Type 0
IsNoQueryTextAs query inputs old new (Load name) =
    IsQueryReached query inputs old.held (encode_utf8_all name)
    × IsLoadFailure old new (encode_utf8_all name)
IsNoQueryTextAs query inputs old new (TooLong name n) =
    IsQueryReached query inputs old.held (encode_utf8_all name)
    × IsTooLong old new (encode_utf8_all name) n
IsNoQueryTextAs query inputs old new (Malformed name spot) =
    IsQueryMalformed query inputs old.held (encode_utf8_all name) spot
IsNoQueryTextAs query inputs old new (Static code) = HoldsNoQuery old.held query code
IsNoQueryTextAs query inputs old new (Dynamic code) = IsQueryFailing query inputs old.held code
IsNoQueryTextAs query inputs old new (Deep depth) = IsQueryTooDeep query inputs old.held depth
IsNoQueryTextAs query inputs old new Memory = ⊤
IsNoQueryTextAs query inputs old new _ = ⊥
