-- How the refusals of the parts make the refusals of a request.
use Rattle.std.proofs.Common.{◌≡◌, ℕ, List}
use Rattle.xt_io.specs.Files.{FilesState}
use Rattle.xt_tree.specs.declared.trees.Tree.{Tree}
use Rattle.doc_grammar.specs.Document.{IsDocument}
use Rattle.doc_reader.specs.Fault.{HasReadCause}
use Rattle.doc_reader.specs.declared.faults.ReadFault.{ReadFault}
use Rattle.doc_reader.specs.declared.faults.ReadFault.TheVariants.{Bad}
use Rattle.doc_grammar.specs.declared.spots.Spot.{Spot}
use Rattle.xt_io.specs.Loads.{Holdings, HoldsBytes}
use Rattle.run_parts.specs.Inputs.{HoldsNoDocument}
use Rattle.run_parts.specs.Inputs.{IsReadRefusedAs, IsUnloadedAs}
use Rattle.run_parts.specs.declared.status.Status.{Status}
use Rattle.run_parts.specs.declared.status.Status.TheVariants.{Load, TooLong, Malformed, Memory}

-- a file whose bytes are not read holds no document
pub not_read : (files : Holdings) (name items bytes : List ℕ) (fault : ReadFault) (spot : Spot)
    → bytes ≡ items → fault ≡ Bad spot → HoldsBytes files name items → HasReadCause bytes fault
    → HoldsNoDocument files name spot
not_read files name items bytes fault spot same bad held cause =
    let none : HasReadCause items (Bad spot) = rw (same, bad) at cause in record { bytes = items; held = held; none = none.0; first = none.1 }

-- a file that is not loaded is not read
pub unread : (file : List ℕ) (old new : FilesState) (status : Status)
    → IsUnloadedAs file old new status → IsReadRefusedAs file old new status
unread file old new (Load name) x = x
unread file old new (TooLong name n) x = x
unread file old new Memory x = x
unread file old new _ x = absurd x
