-- When files are fetched, and why not.
use Rattle.std.specs.Prelude.{◌≡◌, ℕ, List, [], ◌∷◌, Contains, ⊤}
use Rattle.std.specs.Str.{encode_utf8_all}
use Rattle.xt_io.specs.Files.{FilesState, IsHeld}
use Rattle.xt_io.specs.Loads.{Holdings, IsLoadFailure, IsTooLong}
use Rattle.doc_set.specs.declared.fetches.FetchFault.{FetchFault}
use Rattle.doc_set.specs.declared.fetches.FetchFault.TheVariants.{Load, TooLong, Memory}

-- these bytes are held under the names in turn, where the source tells
abbrev pub AreHeld : Holdings → List (List ℕ) → List (List ℕ) → Type 0
AreHeld held [] [] = ⊤
AreHeld held [] (text ∷ texts) = ⊥
AreHeld held (name ∷ names) [] = ⊥
AreHeld held (name ∷ names) (text ∷ texts) = IsHeld held (encode_utf8_all name) text × AreHeld held names texts

-- when the file of this name is refused so
abbrev pub HasNameCause : FilesState → FilesState → List ℕ → FetchFault → Type 0
HasNameCause old new name (Load told) = (told ≡ name) × IsLoadFailure old new (encode_utf8_all name)
HasNameCause old new name (TooLong told n) =
    (told ≡ name) × IsTooLong old new (encode_utf8_all name) n
HasNameCause old new name (Memory e) = ⊤

-- when the files of these names are refused so
abbrev pub HasFetchCause : FilesState → FilesState → List (List ℕ) → FetchFault → Type 0
HasFetchCause old new names (Load name) =
    Contains names name × IsLoadFailure old new (encode_utf8_all name)
HasFetchCause old new names (TooLong name n) =
    Contains names name × IsTooLong old new (encode_utf8_all name) n
HasFetchCause old new names (Memory e) = ⊤
