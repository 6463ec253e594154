-- Groups are carried where their parts are.
use Rattle.std.proofs.Common.{◌≡◌, ℕ, zero, suc, List, [], ◌∷◌, map}
use Rattle.std.specs.Prelude.{Bool, true, false, not, flat_map, if◌then◌else◌, slice_get}
use Rattle.std.specs.Prelude.{Ok, Err}
use Rattle.std.specs.List.{list_all}
use Rattle.std.specs.Option.{option_to_list}
use Rattle.xt_names.specs.declared.codes.Code.TheVariants.{SheetDynamic}
use Rattle.xt_names.specs.declared.codes.SheetDynamicCode.TheVariants.{XTTE1120}
use Rattle.xt_syntax.specs.declared.patterns.Pattern.{Pattern}
use Rattle.xt_atoms.specs.Keys.{key_same}
use Rattle.xt_atoms.specs.declared.atoms.Atom.{Atom as AtomValue}
use Rattle.xdm_items.specs.Values.{atomized}
use Rattle.xdm_items.specs.declared.items.Item.{Item}
use Rattle.xdm_items.specs.declared.items.Item.TheVariants.{Node, Atom}
use Rattle.order_group.specs.Groups.{Mark, adjacent_marks, atoms_of, changes, first_seen}
use Rattle.order_group.specs.Groups.{grouped_adjacent, grouped_by, grouped_starting, key_group}
use Rattle.order_group.specs.Groups.{marked_groups, places_before, plain_mark, starting_marks}
use Rattle.order_group.specs.declared.groups.Group.{Group as PlacesGroup}
use Rattle.operator_values.specs.Nodes.{is_node}
use Rattle.expr_meaning.specs.Outcomes.Outcome.{for_each, step_outcome, Every}
use Rattle.expr_meaning.proofs.OutcomesLemmas.Relations.{each_carried, every_append, step_carried}
use Rattle.expr_meaning.specs.SortMeaning.Sorted.{Placed, places}
use Rattle.expr_meaning.proofs.SortMeaning.Carried.{every_places, visit_carried}
use Rattle.expr_meaning.specs.Calls.{key_item}
use Rattle.expr_meaning.specs.Env.{Env, Group, Meaning}
use Rattle.expr_laws.specs.Carrier.{Carrier, OnValue}
use Rattle.expr_laws.proofs.Steps.{same_step}
use Rattle.transform_meaning.specs.Grouping.{GroupingMeaning, by, adjacent, starting, begins}
use Rattle.transform_meaning.specs.Grouping.{each_group_of, group_in, groups_in, groups_of, items_at}
use Rattle.transform_meaning.specs.Grouping.{key_at, keys_at, only_key, starting_groups}
use Rattle.transform_meaning.specs.Places.{at_item, in_group}
use Rattle.transform_meaning.specs.Sorting.{SortMeaning, mixed}
use Rattle.transform_laws.specs.Meets.{AreSheetPlaces, AtPlaces, IsGoodGroup, MeaningsMeet}
use Rattle.transform_laws.specs.Meets.{SheetsMake}
use Rattle.transform_laws.proofs.Lists.{Pairs, kept_known}
use Rattle.transform_laws.proofs.Sorting.{SortMeets, columns_meet}

abbrev pub GroupingMeets : Carrier → GroupingMeaning → GroupingMeaning → Type 0
GroupingMeets c (by m) (by n) = MeaningsMeet c m n
GroupingMeets c (adjacent m) (adjacent n) = MeaningsMeet c m n
GroupingMeets c (starting ps) (starting qs) = ps ≡ qs
GroupingMeets c (by m) (adjacent n) = ⊥
GroupingMeets c (by m) (starting qs) = ⊥
GroupingMeets c (adjacent m) (by n) = ⊥
GroupingMeets c (adjacent m) (starting qs) = ⊥
GroupingMeets c (starting ps) (by n) = ⊥
GroupingMeets c (starting ps) (adjacent n) = ⊥

-- the keys of groups are among those of the items
module _ (good : Item → Type 0) where
  abbrev GoodAtom : AtomValue → Type 0
  GoodAtom a = good (Atom a)

  abbrev GoodMark : Mark → Type 0
  GoodMark m = Every good (key_item m.key)

  abbrev pub GoodKey : PlacesGroup → Type 0
  GoodKey g = Every good (key_item g.key)

  atoms_known : (xs : List Item) → Every good xs → Every GoodAtom (atoms_of xs)
  atoms_known [] h = tt
  atoms_known (Atom a ∷ xs) h = (h.0, atoms_known xs h.1)
  atoms_known (Node n ∷ xs) h = atoms_known xs h.1

  rows_known : (keys : List (List Item)) → Every (Every good) keys →
      Every GoodAtom (flat_map (λ row. row) (map atoms_of keys))
  rows_known [] h = tt
  rows_known (xs ∷ keys) h =
      every_append GoodAtom (atoms_of xs) (flat_map (λ row. row) (map atoms_of keys))
      (atoms_known xs h.0) (rows_known keys h.1)

  seen_known : (atoms : List AtomValue) → Every GoodAtom atoms → Every GoodAtom (first_seen atoms)
  seen_known [] h = tt
  seen_known (a ∷ more) h =
      (h.0, kept_known GoodAtom (λ b. not (key_same a b)) (first_seen more) (seen_known more h.1))

  keyed_known : (rows : List (List AtomValue)) (atoms : List AtomValue) → Every GoodAtom atoms →
      Every GoodKey (map (key_group rows) atoms)
  keyed_known rows [] h = tt
  keyed_known rows (a ∷ more) h = ((h.0, tt), keyed_known rows more h.1)

  pub by_known : (keys : List (List Item)) → Every (Every good) keys →
      Every GoodKey (grouped_by keys)
  by_known keys h =
      keyed_known (map atoms_of keys) (first_seen (flat_map (λ row. row) (map atoms_of keys)))
      (seen_known (flat_map (λ row. row) (map atoms_of keys)) (rows_known keys h))

  marked_known : (n : ℕ) (ms : List Mark) → Every GoodMark ms → Every GoodKey (marked_groups n ms)
  marked_known n [] h = tt
  marked_known n (m ∷ ms) h = pick m.begins (marked_known (suc n) ms h.1)
    where
      pick : (b : Bool) → Every GoodKey (marked_groups (suc n) ms) → Every GoodKey
          (if b then record { key = m.key; members = n ∷ places_before (suc n) ms } ∷
          marked_groups (suc n) ms else marked_groups (suc n) ms)
      pick true g = (h.0, g)
      pick false g = g

  changes_known : (a : AtomValue) (more : List AtomValue) → Every GoodAtom more →
      Every GoodMark (changes a more)
  changes_known a [] h = tt
  changes_known a (b ∷ more) h = ((h.0, tt), changes_known b more h.1)

  marks_known : (atoms : List AtomValue) → Every GoodAtom atoms →
      Every GoodMark (adjacent_marks atoms)
  marks_known [] h = tt
  marks_known (a ∷ more) h = ((h.0, tt), changes_known a more h.1)

  pub adjacent_known : (atoms : List AtomValue) → Every GoodAtom atoms →
      Every GoodKey (grouped_adjacent atoms)
  adjacent_known atoms h = marked_known 0 (adjacent_marks atoms) (marks_known atoms h)

  plain_known : (bs : List Bool) → Every GoodMark (map plain_mark bs)
  plain_known [] = tt
  plain_known (b ∷ bs) = (tt, plain_known bs)

  starts_known : (bs : List Bool) → Every GoodMark (starting_marks bs)
  starts_known [] = tt
  starts_known (b ∷ bs) = (tt, plain_known bs)

  pub starting_known : (patterns : List Pattern) (xs : List Item) →
      OnValue (Every GoodKey) (starting_groups patterns xs)
  unfolding starting_groups
  starting_known patterns xs = pick (list_all is_node xs)
    where
      pick : (b : Bool) → OnValue (Every GoodKey)
          (if b then Ok (grouped_starting (map (begins patterns) xs))
          else Err (SheetDynamic XTTE1120))
      pick true = marked_known 0 (starting_marks (map (begins patterns) xs))
          (starts_known (map (begins patterns) xs))
      pick false = tt

  -- members are items of the population
  one_known : (xs : List Item) (i : ℕ) → Every good xs →
      Every good (option_to_list (slice_get xs i))
  one_known [] i h = tt
  one_known (x ∷ xs) zero h = (h.0, tt)
  one_known (x ∷ xs) (suc i) h = one_known xs i h.1

  members_known : (xs : List Item) → Every good xs → (is : List ℕ) → Every good (items_at xs is)
  members_known xs h [] = tt
  members_known xs h (i ∷ is) =
      every_append good (option_to_list (slice_get xs i)) (items_at xs is) (one_known xs i h)
      (members_known xs h is)

  pub groups_known : (xs : List Item) → Every good xs → (gs : List PlacesGroup) →
      Every GoodKey gs → Every (IsGoodGroup good) (map (group_in xs) gs)
  groups_known xs h [] g = tt
  groups_known xs h (p ∷ gs) g = ((members_known xs h p.members, g.0), groups_known xs h gs g.1)

module _ (c : Carrier) (sheets : SheetsMake c) (at : AreSheetPlaces c) where
  atomized_known : (xs : List Item) → Every c.good xs → Every c.good (atomized xs)
  unfolding atomized
  atomized_known [] g = tt
  atomized_known (Node n ∷ xs) g = (sheets.atom (Node n) g.0, atomized_known xs g.1)
  atomized_known (Atom a ∷ xs) g = (g.0, atomized_known xs g.1)

  keys_meet : (m n : Meaning) → MeaningsMeet c m n → (e f : Env) → AtPlaces c e f →
      (p : Placed Item) (k : ℕ) → c.good p.value → c.rel (List (List Item)) (Every (Every c.good)) (keys_at m e p k)
      (keys_at n f p k)
  keys_meet m n h e f s p k g =
      c.carries.next _ _ (Every c.good) (Every (Every c.good)) (m (at_item e p) k)
      (n (at_item f p) k) _ _ (h (at_item e p) (at_item f p) (at.item e f s p g) k)
      (λ xs j d. c.carries.ends _ _ _ _ (atomized_known xs d, tt))

  only_known : (xs : List Item) → Every c.good xs → OnValue (λ a. c.good (Atom a)) (only_key xs)
  only_known [] g = tt
  only_known (x ∷ []) g = sheets.atom x g.0
  only_known (x ∷ y ∷ xs) g = tt

  key_meets : (m n : Meaning) → MeaningsMeet c m n → (e f : Env) → AtPlaces c e f →
      (p : Placed Item) (k : ℕ) → c.good p.value → c.rel (List AtomValue) (Every (λ a. c.good (Atom a))) (key_at m e p k)
      (key_at n f p k)
  key_meets m n h e f s p k g =
      c.carries.next _ _ (Every c.good) (Every (λ a. c.good (Atom a))) (m (at_item e p) k)
      (n (at_item f p) k) _ _ (h (at_item e p) (at_item f p) (at.item e f s p g) k) (λ xs j d.
      c.carries.next _ _ (λ a. c.good (Atom a)) (Every (λ a. c.good (Atom a)))
      (step_outcome (only_key xs) j) (step_outcome (only_key xs) j) _ _
      (same_step c (λ a. c.good (Atom a)) (only_key xs) (only_known xs d) j)
      (λ a i z. c.carries.ends _ _ _ _ (z, tt)))

  in_meets : (a b : GroupingMeaning) → GroupingMeets c a b → (e f : Env) → AtPlaces c e f →
      (ps : List (Placed Item)) → Every (λ p. c.good p.value) ps → (xs : List Item) (k : ℕ) →
      c.rel (List PlacesGroup) (Every (GoodKey c.good)) (groups_in a e ps xs k)
      (groups_in b f ps xs k)
  in_meets (by m) (by n) h e f s ps g xs k =
      c.carries.next _ _ (Every (Every c.good)) (Every (GoodKey c.good))
      (for_each (keys_at m e) ps k) (for_each (keys_at n f) ps k) _ _
      (each_carried c.like c.rel c.carries (λ p. c.good p.value) (Every c.good) (keys_at m e)
      (keys_at n f) (λ p i d. keys_meet m n h e f s p i d) ps g k)
      (λ keys j d. c.carries.ends _ _ _ _ (by_known c.good keys d))
  in_meets (adjacent m) (adjacent n) h e f s ps g xs k =
      c.carries.next _ _ (Every (λ a. c.good (Atom a))) (Every (GoodKey c.good))
      (for_each (key_at m e) ps k) (for_each (key_at n f) ps k) _ _
      (each_carried c.like c.rel c.carries (λ p. c.good p.value) (λ a. c.good (Atom a)) (key_at m e)
      (key_at n f) (λ p i d. key_meets m n h e f s p i d) ps g k)
      (λ keys j d. c.carries.ends _ _ _ _ (adjacent_known c.good keys d))
  in_meets (starting us) (starting vs) h e f s ps g xs k =
      rw (← h)
      (same_step c (Every (GoodKey c.good)) (starting_groups us xs) (starting_known c.good us xs) k)
  in_meets (by m) (adjacent n) h e f s ps g xs k = absurd h
  in_meets (by m) (starting vs) h e f s ps g xs k = absurd h
  in_meets (adjacent m) (by n) h e f s ps g xs k = absurd h
  in_meets (adjacent m) (starting vs) h e f s ps g xs k = absurd h
  in_meets (starting us) (by n) h e f s ps g xs k = absurd h
  in_meets (starting us) (adjacent n) h e f s ps g xs k = absurd h

  groups_meet : (a b : GroupingMeaning) → GroupingMeets c a b → (e f : Env) → AtPlaces c e f →
      (xs : List Item) → Every c.good xs → (k : ℕ) →
      c.rel (List Group) (Every (IsGoodGroup c.good)) (groups_of a e xs k) (groups_of b f xs k)
  groups_meet a b h e f s xs g k =
      c.carries.next _ _ (Every (λ p. c.good p.value)) (Every (IsGoodGroup c.good))
      (step_outcome (places xs) k) (step_outcome (places xs) k) _ _
      (step_carried c.like c.rel c.carries _ (places xs) k (every_places c.good xs k g)) (λ ps j d.
      c.carries.next _ _ (Every (GoodKey c.good)) (Every (IsGoodGroup c.good))
      (groups_in a e ps xs j) (groups_in b f ps xs j) _ _ (in_meets a b h e f s ps d xs j)
      (λ gs i z. c.carries.ends _ _ _ _ (groups_known c.good xs g gs z)))

  pub each_group_meets : (a b : Meaning) → MeaningsMeet c a b → (u v : GroupingMeaning) →
      GroupingMeets c u v → (ss ts : List SortMeaning) → Pairs (SortMeets c) ss ts →
      (m n : Meaning) → MeaningsMeet c m n →
      MeaningsMeet c (each_group_of a u ss m) (each_group_of b v ts n)
  each_group_meets a b h u v w ss ts g m n i e f s k =
      c.carries.next _ _ (Every c.good) (Every c.good) (a e k) (b f k) _ _ (h e f s k) (λ xs j d.
      c.carries.next _ _ (Every (IsGoodGroup c.good)) (Every c.good) (groups_of u e xs j)
      (groups_of v f xs j) _ _ (groups_meet u v w e f s xs d j) (λ gs l z.
      visit_carried c.like c.rel c.carries (IsGoodGroup c.good) c.good mixed mixed (c.alike mixed)
      _ _ (columns_meet c at (λ p. IsGoodGroup c.good p.value) (in_group e) (in_group f)
      (λ p y. at.group e f s p y) ss ts g)
      (λ p. m (in_group e p)) (λ p. n (in_group f p))
      (λ p o y. i (in_group e p) (in_group f p) (at.group e f s p y) o) gs z l))
