-- Groups in the making.
use Rattle.std.specs.Prelude.{ℕ, suc, List, [], ◌∷◌, ◌++◌, if◌then◌else◌, Some}
use Rattle.xt_atoms.specs.declared.atoms.Atom.{Atom}
use Rattle.order_group.specs.AtomKeys.Tables.{with_place}
use Rattle.order_group.specs.declared.atom_keys.tables.KeyEntry.{KeyEntry}
use Rattle.order_group.specs.Groups.{Mark, places_before, marked_groups}
use Rattle.order_group.specs.declared.groups.Group.{Group}

-- with the place n under each of the keys
abbrev pub with_row : List KeyEntry → List Atom → ℕ → List KeyEntry
with_row entries [] n = entries
with_row entries (a ∷ keys) n = with_row (with_place entries a n) keys n

-- with the places of the rows, from n on, under their keys
abbrev pub with_rows : List KeyEntry → ℕ → List (List Atom) → List KeyEntry
with_rows entries n [] = entries
with_rows entries n (row ∷ rows) = with_rows (with_row entries row n) (suc n) rows

abbrev pub entry_group : KeyEntry → Group
entry_group e = record { key = Some e.key; members = e.places }

-- with the place n in the last group
abbrev pub extended : List Group → ℕ → List Group
extended [] n = []
extended (g ∷ []) n = record { key = g.key; members = g.members ++ n ∷ [] } ∷ []
extended (g ∷ h ∷ gs) n = g ∷ extended (h ∷ gs) n

abbrev pub first_group : Mark → ℕ → Group
first_group m n = record { key = m.key; members = n ∷ [] }

-- with the place n, which begins a group or is in the last one
abbrev pub with_mark : List Group → Mark → ℕ → List Group
with_mark groups m n = if m.begins then groups ++ first_group m n ∷ [] else extended groups n

-- the groups so far, and those of the places from n on, which begin in the last of them
abbrev pub continued : List Group → ℕ → List Mark → List Group
continued [] n ms = marked_groups n ms
continued (g ∷ []) n ms = record { key = g.key; members = g.members ++ places_before n ms } ∷ marked_groups n ms
continued (g ∷ h ∷ gs) n ms = g ∷ continued (h ∷ gs) n ms
