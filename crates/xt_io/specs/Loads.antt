-- Files that are loaded whole, within the limit of the program.
use Rattle.std.specs.Prelude.{◌≡◌, ◌≤◌, ℕ, ◌+◌, List, length, ⊤, ◌⊎◌, Option}
use Rattle.xt_io.specs.Files.{FilesState, IsHeld, IsMissing, HoldsAtLeast, Rose, RoseBy}
use Rattle.xt_io.specs.declared.files.LoadFault.{LoadFault}
use Rattle.xt_io.specs.declared.files.LoadFault.TheVariants.{Failed, TooLong, Memory}

-- what files hold, where they tell
abbrev pub Holdings : Type 0
Holdings = Option (List ℕ → Option (List ℕ))

-- the greatest number of bytes of a file that is loaded
abbrev pub file_limit : ℕ
file_limit = 67108864

-- these bytes are held under the name, and are not too long to be loaded
pub record HoldsBytes (files : Holdings) (name bytes : List ℕ) : Type 0 where
  pub held : IsHeld files name bytes
  pub fits : length bytes ≤ file_limit

-- why a load of the file failed
abbrev pub IsLoadFailure : FilesState → FilesState → List ℕ → Type 0
IsLoadFailure old new file = Rose old.faults new.faults ⊎ IsMissing old.held file

-- why a file has so many bytes that it is too long
abbrev pub IsTooLong : FilesState → FilesState → List ℕ → ℕ → Type 0
IsTooLong old new file n =
    (n ≡ file_limit + 1) × RoseBy n old.taken new.taken × HoldsAtLeast old.held file n

-- why a file is not loaded
abbrev pub IsUnloaded : List ℕ → FilesState → FilesState → LoadFault → Type 0
IsUnloaded file old new Failed = IsLoadFailure old new file
IsUnloaded file old new (TooLong n) = IsTooLong old new file n
IsUnloaded file old new (Memory e) = ⊤
