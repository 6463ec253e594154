-- What a stylesheet makes of a document, as text, and why there is none.
use Rattle.std.specs.Prelude.{◌≡◌, ℕ, List, ⊤, Some}
use Rattle.xt_tree.specs.declared.trees.Tree.{Tree}
use Rattle.sheet_meaning.specs.Outcome.{Outcome, Ends, Fails}
use Rattle.sheet_meaning.specs.Outcome as outcome
use Rattle.sheet_meaning.specs.Meaning.{transform_meaning}
use Rattle.doc_writer.specs.Written.{written_tree}
use Rattle.run_parts.specs.declared.status.Status.{Status}
use Rattle.run_parts.specs.declared.status.Status.TheVariants.{Dynamic, Deep, Memory}

-- how the run of a stylesheet on a document ends, with at most so many calls open at once
unfoldable pub outcome_of : ℕ → Tree → Tree → Outcome Tree
outcome_of depth sheet document = transform_meaning sheet document depth

-- the run ends with a tree, and the text is that of the tree
pub record Makes (depth : ℕ) (sheet document : Tree) (text : List ℕ) : Type 0 where
  pub tree : Tree
  pub ends : outcome_of depth sheet document ≡ Ends tree
  pub written : written_tree tree ≡ Some text

-- why there is no text of the result
abbrev pub IsResultRefusedAs : ℕ → Tree → Tree → Status → Type 0
IsResultRefusedAs depth sheet document (Dynamic code) =
    outcome_of depth sheet document ≡ Fails code
IsResultRefusedAs depth sheet document (Deep told) =
    (told ≡ depth) × (outcome_of depth sheet document ≡ outcome.Deep)
IsResultRefusedAs depth sheet document Memory = ⊤
IsResultRefusedAs depth sheet document _ = ⊥
