-- Places by key.
use Rattle.std.specs.Prelude.{ℕ, suc, Bool, false, ◌-◌, ◌==◌, List, [], ◌∷◌, ◌++◌, map, length, slice_get, Option, Some, None, option_map, if◌then◌else◌}
use Rattle.std.specs.Option.{option_map_or}
use Rattle.xt_atoms.specs.Keys.{key_same}
use Rattle.xt_atoms.specs.declared.atoms.Atom.{Atom}
use Rattle.order_group.specs.AtomKeys.Keys.{key_of}
use Rattle.order_group.specs.declared.atom_keys.keys.AtomKey.{AtomKey}
use Rattle.order_group.specs.declared.atom_keys.tables.KeyEntry.{KeyEntry}

abbrev pub keys_of : List KeyEntry → List AtomKey
keys_of entries = map (λ e. key_of e.key) entries

-- whether n stands last
abbrev pub ends_in : List ℕ → ℕ → Bool
ends_in places n = option_map_or (λ last. last == n) (slice_get places (length places - 1)) false

-- with n at the end, once
unfoldable pub joined : List ℕ → ℕ → List ℕ
joined places n = if ends_in places n then places else places ++ n ∷ []

abbrev pub first_entry : Atom → ℕ → KeyEntry
first_entry a n = record { key = a; places = n ∷ [] }

-- with the place n under the key: a key that is there keeps its place, and a new one stands last
abbrev pub with_place : List KeyEntry → Atom → ℕ → List KeyEntry
with_place [] a n = first_entry a n ∷ []
with_place (e ∷ es) a n = if key_same a e.key then record e { places = joined e.places n } ∷ es else e ∷ with_place es a n

-- the index of the entry of a key
abbrev pub index_of : List KeyEntry → Atom → Option ℕ
index_of [] a = None
index_of (e ∷ es) a = if key_same a e.key then Some 0 else option_map suc (index_of es a)

-- the places under a key
abbrev pub places_of : List KeyEntry → Atom → List ℕ
places_of [] a = []
places_of (e ∷ es) a = if key_same a e.key then e.places else places_of es a
