-- When a text is refused.
use Rattle.std.specs.Prelude.{◌≡◌, ℕ, List, ⊤}
use Rattle.xt_tree.specs.declared.trees.Tree.{Tree}
use Rattle.doc_grammar.specs.Document.{IsDocument}
use Rattle.doc_grammar.specs.Faults.{first_fault, spot_at}
use Rattle.doc_grammar.specs.SpotCases.{HasSpot}
use Rattle.doc_grammar.specs.Machine.{Stop, End, stops}
use Rattle.doc_grammar.specs.declared.spots.Spot.{Spot}
use Rattle.doc_reader.specs.declared.faults.ReadFault.{ReadFault}
use Rattle.doc_reader.specs.declared.faults.ReadFault.TheVariants.{Bad, Memory}

-- the first spot of bytes that are no document, which the grammar tells too, or want of memory
abbrev pub HasReadCause : List ℕ → ReadFault → Type 0
HasReadCause bytes (Bad spot) = ((tree : Tree) → IsDocument bytes tree → ⊥) × (spot ≡ first_fault bytes) × HasSpot bytes spot
HasReadCause bytes (Memory e) = ⊤

-- a reading stops at this spot, where `offset` tells at which byte a rest of the text begins
pub record Refused (e : End) (offset : List ℕ → ℕ) (spot : Spot) : Type 0 where
  pub why : Stop
  pub rest : List ℕ
  pub is_stopped : e ≡ stops why rest
  pub is_spot : spot ≡ spot_at why (offset rest)
