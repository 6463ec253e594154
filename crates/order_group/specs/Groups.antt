-- Groups (XSLT 2.0, 14.3).
use Rattle.std.specs.Prelude.{ℕ, suc, Bool, true, not, List, [], ◌∷◌, map, filter, flat_map, Option, Some, None, if◌then◌else◌}
use Rattle.std.specs.List.{list_any}
use Rattle.xt_atoms.specs.Keys.{key_same}
use Rattle.xt_atoms.specs.declared.atoms.Atom.{Atom}
use Rattle.xdm_items.specs.declared.items.Item.{Item}
use Rattle.xdm_items.specs.declared.items.Item.TheVariants as item
use Rattle.order_group.specs.declared.groups.Group.{Group}

-- the atoms among the items
abbrev pub atoms_of : List Item → List Atom
atoms_of [] = []
atoms_of (item.Atom a ∷ items) = a ∷ atoms_of items
atoms_of (item.Node n ∷ items) = atoms_of items

-- whether the key is one of the keys
abbrev pub has_key : Atom → List Atom → Bool
has_key a keys = list_any (key_same a) keys

-- each key where it is first seen
abbrev pub first_seen : List Atom → List Atom
first_seen [] = []
first_seen (a ∷ more) = a ∷ filter (λ b. not (key_same a b)) (first_seen more)

-- the places of the elements that pass, the first of which has the place n
abbrev pub places_where : {X : Type 0} → (X → Bool) → ℕ → List X → List ℕ
places_where test n [] = []
places_where test n (x ∷ xs) = if test x then n ∷ places_where test (suc n) xs else places_where test (suc n) xs

abbrev pub key_group : List (List Atom) → Atom → Group
key_group rows a = record { key = Some a; members = places_where (has_key a) 0 rows }

-- one group for each key, in the order in which the keys are first seen: the places of the rows that have the key
abbrev pub grouped_by : List (List Item) → List Group
grouped_by keys = let rows = map atoms_of keys in map (key_group rows) (first_seen (flat_map (λ row. row) rows))

-- whether a place begins a group, and the key of that group
pub record Mark : Type 0 where
  pub begins : Bool
  pub key : Option Atom

-- the places from n on, up to the next that begins a group
abbrev pub places_before : ℕ → List Mark → List ℕ
places_before n [] = []
places_before n (m ∷ ms) = if m.begins then [] else n ∷ places_before (suc n) ms

-- a group for each place from n on that begins one: this place and those after it, up to the next that begins a group
abbrev pub marked_groups : ℕ → List Mark → List Group
marked_groups n [] = []
marked_groups n (m ∷ ms) = if m.begins then record { key = m.key; members = n ∷ places_before (suc n) ms } ∷ marked_groups (suc n) ms else marked_groups (suc n) ms

-- a key begins a group where it is another key than the one before it
abbrev pub changes : Atom → List Atom → List Mark
changes a [] = []
changes a (b ∷ bs) = record { begins = not (key_same a b); key = Some b } ∷ changes b bs

abbrev pub adjacent_marks : List Atom → List Mark
adjacent_marks [] = []
adjacent_marks (a ∷ more) = record { begins = true; key = Some a } ∷ changes a more

-- the longest runs of places with the same key, each with its first key
abbrev pub grouped_adjacent : List Atom → List Group
grouped_adjacent keys = marked_groups 0 (adjacent_marks keys)

abbrev pub plain_mark : Bool → Mark
plain_mark begins = record { begins = begins; key = None }

-- the first place begins a group in any case
abbrev pub starting_marks : List Bool → List Mark
starting_marks [] = []
starting_marks (b ∷ more) = plain_mark true ∷ map plain_mark more

-- the groups that begin at the first place and at each where `starts` is true; they have no key
abbrev pub grouped_starting : List Bool → List Group
grouped_starting starts = marked_groups 0 (starting_marks starts)
