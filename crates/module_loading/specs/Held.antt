-- What files hold, and why one is not loaded and read as text.
use Rattle.std.specs.Prelude.{◌≡◌, ℕ, List, ⊤}
use Rattle.std.specs.Str.{encode_utf8_all}
use Rattle.xt_io.specs.Files.{FilesState}
use Rattle.xt_io.specs.Loads.{HoldsBytes, IsLoadFailure, IsTooLong}
pub use Rattle.xt_io.specs.Loads.{Holdings}
use Rattle.xt_tree.specs.declared.trees.Tree.{Tree}
use Rattle.doc_grammar.specs.Document.{IsDocument}
use Rattle.doc_grammar.specs.Declarations.{IsDeclared}
use Rattle.doc_grammar.specs.Faults.{first_fault}
use Rattle.doc_grammar.specs.declared.spots.Spot.{Spot}
use Rattle.doc_reader.specs.declared.Scoped.{Scoped}
use Rattle.module_loading.specs.declared.faults.SheetFault.{SheetFault}
use Rattle.module_loading.specs.declared.faults.SheetFault.TheVariants.{Load, TooLong, Malformed}
use Rattle.module_loading.specs.declared.faults.SheetFault.TheVariants.{Static, Memory}

-- these bytes stand for the tree, which has these declarations on its elements
pub record StandsFor (bytes : List ℕ) (scoped : Scoped) : Type 0 where
  pub document : IsDocument bytes scoped.tree
  pub declared : IsDeclared bytes scoped.tree scoped.declared

-- the file of this name, which is a text, stands for it
pub record HoldsModule (files : Holdings) (name : List ℕ) (scoped : Scoped) : Type 0 where
  pub bytes : List ℕ
  pub held : HoldsBytes files (encode_utf8_all name) bytes
  pub stands : StandsFor bytes scoped

-- the file of this name stands for no tree, and this is its first fault
pub record HoldsNoModule (files : Holdings) (name : List ℕ) (spot : Spot) : Type 0 where
  pub bytes : List ℕ
  pub held : HoldsBytes files (encode_utf8_all name) bytes
  pub none : (tree : Tree) → IsDocument bytes tree → ⊥
  pub first : spot ≡ first_fault bytes

-- why a file is not loaded
abbrev pub IsUnloadedAs : List ℕ → FilesState → FilesState → SheetFault → Type 0
IsUnloadedAs file old new (Load name) =
    (name ≡ file) × IsLoadFailure old new (encode_utf8_all file)
IsUnloadedAs file old new (TooLong name n) =
    (name ≡ file) × IsTooLong old new (encode_utf8_all file) n
IsUnloadedAs file old new (Malformed name spot) = ⊥
IsUnloadedAs file old new (Static code) = ⊥
IsUnloadedAs file old new (Memory e) = ⊤

-- why a file is not loaded and read
abbrev pub IsUnreadAs : List ℕ → FilesState → FilesState → SheetFault → Type 0
IsUnreadAs file old new (Load name) =
    (name ≡ file) × IsLoadFailure old new (encode_utf8_all file)
IsUnreadAs file old new (TooLong name n) =
    (name ≡ file) × IsTooLong old new (encode_utf8_all file) n
IsUnreadAs file old new (Malformed name spot) =
    (name ≡ file) × HoldsNoModule old.held file spot
IsUnreadAs file old new (Static code) = ⊥
IsUnreadAs file old new (Memory e) = ⊤
