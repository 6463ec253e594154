-- Passes over a query change nothing that it gives.
use Rattle.std.specs.Prelude.{◌≡◌, ℕ}
use Rattle.xdm_items.specs.declared.items.Item.{Item}
use Rattle.expr_meaning.specs.Queries.{Run, query_outcome}
use Rattle.rewrite_rules.specs.Passes.{passes}

-- for every document, set of documents, parameters and number of calls
abbrev pub KeepsQueries : ℕ → Type 0
KeepsQueries count = (run : Run) (document : Item) (n k : ℕ) →
    query_outcome (record run { query = passes count run.query }) document n k
    ≡ query_outcome run document n k
