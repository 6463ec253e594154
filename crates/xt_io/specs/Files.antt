-- What a source of files means, and when a load is refused.
use Rattle.std.specs.Prelude.{◌≡◌, ℕ, ◌+◌, ◌-◌, ◌^◌, ◌<◌, ◌≤◌, min, max, List, length, Option, None, Some, ⊤, ◌⊎◌}
use Rattle.xt_io.specs.declared.files.LoadFault.{LoadFault}
use Rattle.xt_io.specs.declared.files.LoadFault.TheVariants.{Failed, TooLong, Memory}

-- what a source of files means: what it holds, where it tells, how often it has failed, and how many bytes it has read
pub record FilesState : Type 0 where
  pub held : Option (List ℕ → Option (List ℕ))
  pub faults : ℕ
  pub taken : ℕ

-- the last value of a count, at which it stops
abbrev pub last_count : ℕ
last_count = 2 ^ 64 - 1

-- a count went up by n or more, or is at its last value
abbrev pub RoseBy : ℕ → ℕ → ℕ → Type 0
RoseBy n old new = min (old + n) last_count ≤ new

-- a count went up, or is at its last value
abbrev pub Rose : ℕ → ℕ → Type 0
Rose old new = RoseBy 1 old new

-- a count did not fall, and did not pass its last value
pub record Counts (old new : ℕ) : Type 0 where
  pub no_less : old ≤ new
  pub stops : new ≤ max old last_count

-- these bytes are held under the name, where the source tells
abbrev pub IsHeld : Option (List ℕ → Option (List ℕ)) → List ℕ → List ℕ → Type 0
IsHeld None name bytes = ⊤
IsHeld (Some map) name bytes = map name ≡ Some bytes

-- the source tells, and does not have the name
abbrev pub IsMissing : Option (List ℕ → Option (List ℕ)) → List ℕ → Type 0
IsMissing None name = ⊥
IsMissing (Some map) name = map name ≡ None

-- at least n bytes are held under the name, where the source tells
abbrev pub HoldsAtLeast : Option (List ℕ → Option (List ℕ)) → List ℕ → ℕ → Type 0
HoldsAtLeast None name n = ⊤
HoldsAtLeast (Some map) name n = (bytes : List ℕ) × (map name ≡ Some bytes) × (n ≤ length bytes)

-- what every load keeps
pub record KeepsFiles (old new : FilesState) : Type 0 where
  pub held : new.held ≡ old.held
  pub faults : Counts old.faults new.faults
  pub taken : Counts old.taken new.taken

-- when a load is refused so
abbrev pub HasLoadCause : FilesState → FilesState → List ℕ → ℕ → LoadFault → Type 0
HasLoadCause old new name limit Failed = Rose old.faults new.faults ⊎ IsMissing old.held name
HasLoadCause old new name limit (TooLong n) =
    (limit < n) × (n ≤ limit + 1) × RoseBy n old.taken new.taken × HoldsAtLeast old.held name n
HasLoadCause old new name limit (Memory e) = ⊤
