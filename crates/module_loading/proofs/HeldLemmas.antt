-- Files that are loaded and read, or not.
use Rattle.std.proofs.Common.{◌≡◌, ℕ, List}
use Rattle.std.specs.Str.{encode_utf8_all}
use Rattle.xt_io.specs.Files.{FilesState}
use Rattle.xt_io.specs.Loads.{Holdings, HoldsBytes}
use Rattle.doc_grammar.specs.declared.spots.Spot.{Spot}
use Rattle.doc_reader.specs.Fault.{HasReadCause}
use Rattle.doc_reader.specs.declared.Scoped.{Scoped}
use Rattle.doc_reader.specs.declared.faults.ReadFault.{ReadFault}
use Rattle.doc_reader.specs.declared.faults.ReadFault.TheVariants.{Bad}
use Rattle.doc_grammar.specs.Document.{IsDocument}
use Rattle.doc_grammar.specs.Declarations.{IsDeclared}
use Rattle.module_loading.specs.Held.{HoldsModule, HoldsNoModule, IsUnloadedAs, IsUnreadAs}
use Rattle.module_loading.specs.declared.faults.SheetFault.{SheetFault}
use Rattle.module_loading.specs.declared.faults.SheetFault.TheVariants.{Load, TooLong, Malformed}
use Rattle.module_loading.specs.declared.faults.SheetFault.TheVariants.{Static, Memory}

-- a file whose bytes are not read holds no module
pub not_read : (files : Holdings) (name items bytes : List ℕ) (fault : ReadFault) (spot : Spot)
    → bytes ≡ items → fault ≡ Bad spot → HoldsBytes files (encode_utf8_all name) items
    → HasReadCause bytes fault → HoldsNoModule files name spot
not_read files name items bytes fault spot same bad held cause =
    let none : HasReadCause items (Bad spot) = rw (same, bad) at cause in
    record { bytes = items; held = held; none = none.0; first = none.1 }

pub was_read : (files : Holdings) (name items bytes : List ℕ) (scoped : Scoped)
    → bytes ≡ items → HoldsBytes files (encode_utf8_all name) items
    → IsDocument bytes scoped.tree → IsDeclared bytes scoped.tree scoped.declared
    → HoldsModule files name scoped
was_read files name items bytes scoped same held document declared = record {
  bytes = items;
  held = held;
  stands = record { document = rw same at document; declared = rw same at declared };
}

-- a file that is not loaded is not read
pub unread : (file : List ℕ) (old new : FilesState) (fault : SheetFault)
    → IsUnloadedAs file old new fault → IsUnreadAs file old new fault
unread file old new (Load name) x = x
unread file old new (TooLong name n) x = x
unread file old new (Malformed name spot) x = absurd x
unread file old new (Static code) x = absurd x
unread file old new (Memory e) x = x
