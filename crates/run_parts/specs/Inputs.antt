-- The files that a request reads, and why one is not read.
use Rattle.std.specs.Prelude.{◌≡◌, ℕ, List, [], ◌∷◌, ⊤, ◌⊎◌, Contains, map}
use Rattle.std.specs.Str.{encode_utf8_all}
use Rattle.xt_io.specs.Files.{FilesState}
use Rattle.xt_io.specs.Loads.{Holdings, HoldsBytes, IsLoadFailure, IsTooLong}
use Rattle.xt_tree.specs.declared.trees.Tree.{Tree}
use Rattle.doc_grammar.specs.Document.{IsDocument}
use Rattle.doc_grammar.specs.Faults.{first_fault}
use Rattle.doc_grammar.specs.declared.spots.Spot.{Spot}
use Rattle.command_words.specs.Requests.{Inputs}
use Rattle.run_parts.specs.declared.status.Status.{Status}
use Rattle.run_parts.specs.declared.status.Status.TheVariants.{Load, TooLong, Malformed, Memory}

-- the bytes under the name stand for this tree
pub record HoldsDocument (files : Holdings) (name : List ℕ) (tree : Tree) : Type 0 where
  pub bytes : List ℕ
  pub held : HoldsBytes files name bytes
  pub stands : IsDocument bytes tree

-- the bytes under the name stand for no tree, and this is their first fault
pub record HoldsNoDocument (files : Holdings) (name : List ℕ) (spot : Spot) : Type 0 where
  pub bytes : List ℕ
  pub held : HoldsBytes files name bytes
  pub none : (tree : Tree) → IsDocument bytes tree → ⊥
  pub first : spot ≡ first_fault bytes

-- why a file is not loaded
abbrev pub IsUnloadedAs : List ℕ → FilesState → FilesState → Status → Type 0
IsUnloadedAs file old new (Load name) =
    (encode_utf8_all name ≡ file) × IsLoadFailure old new file
IsUnloadedAs file old new (TooLong name n) =
    (encode_utf8_all name ≡ file) × IsTooLong old new file n
IsUnloadedAs file old new Memory = ⊤
IsUnloadedAs file old new _ = ⊥

-- why a file is not loaded and read
abbrev pub IsReadRefusedAs : List ℕ → FilesState → FilesState → Status → Type 0
IsReadRefusedAs file old new (Load name) =
    (encode_utf8_all name ≡ file) × IsLoadFailure old new file
IsReadRefusedAs file old new (TooLong name n) =
    (encode_utf8_all name ≡ file) × IsTooLong old new file n
IsReadRefusedAs file old new (Malformed name spot) =
    (encode_utf8_all name ≡ file) × HoldsNoDocument old.held file spot
IsReadRefusedAs file old new Memory = ⊤
IsReadRefusedAs file old new _ = ⊥

-- the bytes under the name stand for some tree
pub record HoldsSomeDocument (files : Holdings) (name : List ℕ) : Type 0 where
  pub tree : Tree
  pub held : HoldsDocument files name tree

-- under each of the names, which are texts, some bytes are held that can be loaded
abbrev pub CanBeLoaded : Holdings → List (List ℕ) → Type 0
CanBeLoaded files [] = ⊤
CanBeLoaded files (name ∷ names) =
    ((bytes : List ℕ) × HoldsBytes files (encode_utf8_all name) bytes) × CanBeLoaded files names

-- the bytes under the names stand for these trees in turn
abbrev pub HoldDocuments : Holdings → List (List ℕ) → List Tree → Type 0
HoldDocuments files [] [] = ⊤
HoldDocuments files [] (tree ∷ trees) = ⊥
HoldDocuments files (name ∷ names) [] = ⊥
HoldDocuments files (name ∷ names) (tree ∷ trees) =
    HoldsDocument files (encode_utf8_all name) tree × HoldDocuments files names trees

-- this is the first of the names whose bytes stand for no tree, and their first fault
abbrev pub IsFirstMalformed : Holdings → List (List ℕ) → List ℕ → Spot → Type 0
IsFirstMalformed files [] name spot = ⊥
IsFirstMalformed files (first ∷ names) name spot =
    ((name ≡ encode_utf8_all first) × HoldsNoDocument files name spot)
    ⊎ (HoldsSomeDocument files (encode_utf8_all first) × IsFirstMalformed files names name spot)

-- the trees on which a stylesheet or a query runs: the document, and the further documents
pub record HoldsInputs (files : Holdings) (inputs : Inputs) (document : Tree) (documents : List Tree)
    : Type 0 where
  pub first : HoldsDocument files inputs.document document
  pub further : HoldDocuments files inputs.documents documents

-- the inputs name this file
abbrev pub IsInput : Inputs → List ℕ → Type 0
IsInput inputs name =
    (name ≡ inputs.document) ⊎ Contains (map encode_utf8_all inputs.documents) name

-- a file of the inputs is loaded: the document, or a further one once the document is read
abbrev pub IsLoadedOf : Inputs → Holdings → List ℕ → Type 0
IsLoadedOf inputs files name =
    (name ≡ inputs.document)
    ⊎ (Contains (map encode_utf8_all inputs.documents) name
    × HoldsSomeDocument files inputs.document)

-- a file of the inputs is no document: the document, or a further one once all of them are loaded
-- and those before it are read
abbrev pub IsMalformedOf : Inputs → Holdings → List ℕ → Spot → Type 0
IsMalformedOf inputs files name spot =
    ((name ≡ inputs.document) × HoldsNoDocument files name spot)
    ⊎ (HoldsSomeDocument files inputs.document × CanBeLoaded files inputs.documents
    × IsFirstMalformed files inputs.documents name spot)

-- why the inputs are not loaded and read
abbrev pub IsInputRefusedAs : Inputs → FilesState → FilesState → Status → Type 0
IsInputRefusedAs inputs old new (Load name) =
    IsLoadedOf inputs old.held (encode_utf8_all name)
    × IsLoadFailure old new (encode_utf8_all name)
IsInputRefusedAs inputs old new (TooLong name n) =
    IsLoadedOf inputs old.held (encode_utf8_all name) × IsTooLong old new (encode_utf8_all name) n
IsInputRefusedAs inputs old new (Malformed name spot) =
    IsMalformedOf inputs old.held (encode_utf8_all name) spot
IsInputRefusedAs inputs old new Memory = ⊤
IsInputRefusedAs inputs old new _ = ⊥
