-- Files that are loaded in turn, and then read in turn.
use Rattle.std.specs.Prelude.{◌≡◌, ℕ, List, [], ◌∷◌, map, ⊤, ◌⊎◌, Contains}
use Rattle.std.specs.Str.{encode_utf8_all}
use Rattle.xt_io.specs.Files.{FilesState}
use Rattle.xt_tree.specs.declared.trees.Tree.{Tree}
use Rattle.doc_grammar.specs.Document.{IsDocument}
use Rattle.doc_grammar.specs.Faults.{first_fault}
use Rattle.doc_grammar.specs.declared.spots.Spot.{Spot}
use Rattle.xt_io.specs.Loads.{Holdings, HoldsBytes, IsLoadFailure, IsTooLong}
use Rattle.run_parts.specs.declared.inputs.Loaded.{Loaded}
use Rattle.run_parts.specs.declared.status.Status.{Status}
use Rattle.run_parts.specs.declared.status.Status.TheVariants.{Load, TooLong, Malformed, Memory}

-- the file of this name is loaded
pub record IsTextOf (files : Holdings) (name : List ℕ) (file : Loaded) : Type 0 where
  pub named : file.name ≡ name
  pub held : HoldsBytes files (encode_utf8_all name) file.text.items

-- the files of these names are loaded, in turn
abbrev pub AreLoaded : Holdings → List (List ℕ) → List Loaded → Type 0
AreLoaded files [] [] = ⊤
AreLoaded files [] (file ∷ loaded) = ⊥
AreLoaded files (name ∷ names) [] = ⊥
AreLoaded files (name ∷ names) (file ∷ loaded) =
    IsTextOf files name file × AreLoaded files names loaded

-- why the file of one of these names is not loaded
abbrev pub IsLoadRefusedAs : List (List ℕ) → FilesState → FilesState → Status → Type 0
IsLoadRefusedAs names old new (Load name) =
    Contains (map encode_utf8_all names) (encode_utf8_all name)
    × IsLoadFailure old new (encode_utf8_all name)
IsLoadRefusedAs names old new (TooLong name n) =
    Contains (map encode_utf8_all names) (encode_utf8_all name)
    × IsTooLong old new (encode_utf8_all name) n
IsLoadRefusedAs names old new Memory = ⊤
IsLoadRefusedAs names old new _ = ⊥

-- what is loaded stands for these trees, in turn
abbrev pub AreTrees : List Loaded → List Tree → Type 0
AreTrees [] [] = ⊤
AreTrees [] (tree ∷ trees) = ⊥
AreTrees (file ∷ loaded) [] = ⊥
AreTrees (file ∷ loaded) (tree ∷ trees) =
    IsDocument file.text.items tree × AreTrees loaded trees

-- what is loaded stands for no tree, and this is its first fault
pub record IsUnread (file : Loaded) (name : List ℕ) (spot : Spot) : Type 0 where
  pub named : name ≡ encode_utf8_all file.name
  pub none : (tree : Tree) → IsDocument file.text.items tree → ⊥
  pub first : spot ≡ first_fault file.text.items

-- the first file that stands for no tree
abbrev pub IsFirstUnread : List Loaded → List ℕ → Spot → Type 0
IsFirstUnread [] name spot = ⊥
IsFirstUnread (file ∷ loaded) name spot =
    IsUnread file name spot
    ⊎ ((tree : Tree) × IsDocument file.text.items tree × IsFirstUnread loaded name spot)

abbrev pub IsOneTextRefusedAs : Loaded → Status → Type 0
IsOneTextRefusedAs file (Malformed name spot) = IsUnread file (encode_utf8_all name) spot
IsOneTextRefusedAs file Memory = ⊤
IsOneTextRefusedAs file _ = ⊥

abbrev pub IsTextRefusedAs : List Loaded → Status → Type 0
IsTextRefusedAs loaded (Malformed name spot) = IsFirstUnread loaded (encode_utf8_all name) spot
IsTextRefusedAs loaded Memory = ⊤
IsTextRefusedAs loaded _ = ⊥
