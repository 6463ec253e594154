-- The keys of groups: those of a list of rows, each where it is first seen.
use Rattle.std.proofs.Common.{◌≡◌, ◌^◌, ◌≤◌, ℕ, suc, List, [], ◌∷◌, ◌++◌, length, refl, ap, sym, ◌∙◌, map, flat_map, arith, filter}
use Rattle.std.proofs.lemmas.Bool.Decides.{nat_tests}
use Rattle.std.proofs.lemmas.List.Folds.{list_any-append}
use Rattle.std.specs.Prelude.{Bool, true, false, not, ◌||◌, Ok, nat_lt, if◌then◌else◌}
use Rattle.std.specs.List.{list_any, list_all}
use Rattle.xt_names.specs.declared.kinds.AtomType.TheVariants as kind
use Rattle.xt_types.specs.declared.types.ItemType.TheVariants.{Atomic}
use Rattle.xt_atoms.specs.Keys.{key_same}
use Rattle.xt_atoms.specs.declared.atoms.Atom.{Atom as AtomValue}
use Rattle.xt_atoms.specs.declared.atoms.Atom.TheVariants as atom
use Rattle.order_group.proofs.AtomKeys.KeyLemmas.{same_key_laws as laws}
use Rattle.xdm_items.specs.Conversion.{converted, converted_atom, converted_item, converted_items, matched, prepared}
use Rattle.xdm_items.specs.Matching.{matches_type, matches_item, allows_count, has_atom_type}
use Rattle.xdm_items.specs.Values.{atomized}
use Rattle.xdm_items.specs.declared.items.Item.{Item}
use Rattle.xdm_items.specs.declared.items.Item.TheVariants.{Node, Atom}
use Rattle.order_group.specs.Groups.{atoms_of, first_seen, has_key}
use Rattle.function_table.specs.declared.builtins.Builtin.TheVariants as function
use Rattle.xdm_items.specs.FunctionArguments.Arguments.{atom_arguments}
use Rattle.fn_lib.specs.Functions.{function_value, value_of}
use Rattle.item_functions.specs.OnSequences.{distinct_values_of}
use Rattle.item_functions.specs.SequenceFunctions.Values.{distinct_values}
use Rattle.expr_meaning.specs.Outcomes.Outcome.{Every}
use Rattle.expr_meaning.proofs.OutcomesLemmas.Relations.{every_append}
use Rattle.meaning_laws.specs.SoundValues.Sound.{IsSound}
use Rattle.lockstep_loops.proofs.Chosen.{kept_only}
use Rattle.lockstep_loops.proofs.GroupRows.{members_of, SameLong}
use Rattle.std.proofs.Math.Bool.{or-true}

every_filter : {A : Type 0} (P : A → Type 0) (t : A → Bool) (xs : List A) → Every P xs →
    Every P (filter t xs)
every_filter P t [] h = tt
every_filter {A} P t (x ∷ xs) h = by (t x) (every_filter P t xs h.1)
  where
    by : (b : Bool) → Every P (filter t xs) → Every P (if b then x ∷ filter t xs else filter t xs)
    by true more = (h.0, more)
    by false more = more

every_of : {A : Type 0} (P Q : A → Type 0) → ((x : A) → P x → Q x) → (xs : List A) → Every P xs →
    Every Q xs
every_of P Q h [] g = tt
every_of P Q h (x ∷ xs) g = (h x g.0, every_of P Q h xs g.1)

-- each key that is seen is one of the keys
pub all_seen : (ks : List AtomValue) → Every (λ a. has_key a ks ≡ true) (first_seen ks)
all_seen [] = tt
all_seen (b ∷ more) = (
  rw (laws.refl b) refl,
  every_of (λ a. has_key a more ≡ true) (λ a. has_key a (b ∷ more) ≡ true)
      (λ a h. ap (λ c. key_same a b || c) h ∙ or-true (key_same a b))
      (filter (λ c. not (key_same b c)) (first_seen more))
      (every_filter (λ a. has_key a more ≡ true) (λ c. not (key_same b c)) (first_seen more)
      (all_seen more)),
)

pub seen_keeps : (P : AtomValue → Type 0) (ks : List AtomValue) → Every P ks → Every P (first_seen ks)
seen_keeps P [] h = tt
seen_keeps P (a ∷ ks) h =
    (h.0, every_filter P (λ c. not (key_same a c)) (first_seen ks) (seen_keeps P ks h.1))

abbrev pub flat : {A : Type 0} → List (List A) → List A
flat rows = flat_map (λ row. row) rows

pub some_row : (a : AtomValue) (rows : List (List AtomValue)) → has_key a (flat rows) ≡ true →
    list_any (has_key a) rows ≡ true
some_row a rows h = sym (by rows) ∙ h
  where
    by : (rows : List (List AtomValue)) → has_key a (flat rows) ≡ list_any (has_key a) rows
    by [] = refl
    by (row ∷ rows) = list_any-append (key_same a) row (flat rows) ∙ ap (λ b. has_key a row || b) (by rows)

-- a group has a member
pub not_empty : (a : AtomValue) (xs : List Item) (rows : List (List AtomValue)) → SameLong xs rows →
    list_any (has_key a) rows ≡ true → (x : Item) × (more : List Item) × (members_of a xs rows ≡ x ∷ more)
not_empty a [] [] l h = absurd cc
not_empty a [] (row ∷ rows) l h = absurd l
not_empty a (x ∷ xs) [] l h = absurd l
not_empty a (x ∷ xs) (row ∷ rows) l h = by (has_key a row) h (not_empty a xs rows l)
  where
    by : (b : Bool) → (b || list_any (has_key a) rows) ≡ true →
        (list_any (has_key a) rows ≡ true → (y : Item) × (more : List Item) × (members_of a xs rows ≡ y ∷ more)) →
        (y : Item) × (more : List Item) × ((kept_only b x ++ members_of a xs rows) ≡ y ∷ more)
    by true e g = (x, members_of a xs rows, refl)
    by false e g = g e

pub not_more : (a : AtomValue) (xs : List Item) (rows : List (List AtomValue)) →
    length (members_of a xs rows) ≤ length xs
not_more a [] rows = omega arith
not_more a (x ∷ xs) [] = omega arith
not_more a (x ∷ xs) (row ∷ rows) = by (has_key a row) (not_more a xs rows)
  where
    by : (b : Bool) → length (members_of a xs rows) ≤ length xs →
        length (kept_only b x ++ members_of a xs rows) ≤ suc (length xs)
    by true h = omega (arith, h)
    by false h = omega (arith, h)

pub members_good : (P : Item → Type 0) (a : AtomValue) (xs : List Item) (rows : List (List AtomValue)) →
    Every P xs → Every P (members_of a xs rows)
members_good P a [] rows h = tt
members_good P a (x ∷ xs) [] h = tt
members_good P a (x ∷ xs) (row ∷ rows) h = by (has_key a row) (members_good P a xs rows h.1)
  where
    by : (b : Bool) → Every P (members_of a xs rows) → Every P (kept_only b x ++ members_of a xs rows)
    by true more = (h.0, more)
    by false more = more

pub still_few : (m n : ℕ) → m ≤ n → nat_lt n (2 ^ 63) ≡ true → nat_lt m (2 ^ 63) ≡ true
still_few m n h g = grind (arith, nat_tests)

-- atoms
pub IsAtom : Item → Type 0
IsAtom (Node n) = ⊥
IsAtom (Atom a) = Unit {0}

pub atoms_alone : (ys : List Item) → Every IsAtom (atomized ys)
unfolding IsAtom atomized
atoms_alone [] = tt
atoms_alone (Node n ∷ ys) = (tt, atoms_alone ys)
atoms_alone (Atom a ∷ ys) = (tt, atoms_alone ys)

atom_stays : (a : AtomValue) → converted_item kind.Any (Atom a) ≡ Ok (Atom a)
unfolding converted_item converted_atom
atom_stays (atom.Str t) = refl
atom_stays (atom.Untyped t) = refl
atom_stays (atom.Int n) = refl
atom_stays (atom.Bool b) = refl
atom_stays (atom.QName n) = refl

items_stay : (zs : List Item) → Every IsAtom zs → converted_items kind.Any (atomized zs) ≡ Ok zs
unfolding IsAtom atomized converted_items
items_stay [] h = refl
items_stay (Node n ∷ zs) h = absurd h.0
items_stay (Atom a ∷ zs) h = rw (atom_stays a, items_stay zs h.1) refl

atom_matches : (a : AtomValue) → matches_item (Atomic kind.Any) (Atom a) ≡ true
unfolding matches_item has_atom_type
atom_matches (atom.Str t) = refl
atom_matches (atom.Untyped t) = refl
atom_matches (atom.Int n) = refl
atom_matches (atom.Bool b) = refl
atom_matches (atom.QName n) = refl

items_match : (zs : List Item) → Every IsAtom zs → list_all (matches_item (Atomic kind.Any)) zs ≡ true
unfolding IsAtom
items_match [] h = refl
items_match (Node n ∷ zs) h = absurd h.0
items_match (Atom a ∷ zs) h = rw (atom_matches a) (items_match zs h.1)

pub distinct_value : (zs : List Item) → Every IsAtom zs →
    function_value function.DistinctValues (zs ∷ []) ≡ Ok (map Atom (first_seen (atoms_of zs)))
unfolding function_value value_of distinct_values_of atom_arguments converted prepared matched matches_type
    allows_count distinct_values
distinct_value zs h = rw (items_stay zs h, items_match zs h) refl

pub all_flat : {A : Type 0} (P : A → Type 0) (rows : List (List A)) → Every (Every P) rows →
    Every P (flat rows)
all_flat P [] h = tt
all_flat P (row ∷ rows) h = every_append P row (flat rows) h.0 (all_flat P rows h.1)

atoms_append : (xs ys : List Item) → atoms_of (xs ++ ys) ≡ atoms_of xs ++ atoms_of ys
atoms_append [] ys = refl
atoms_append (Node n ∷ xs) ys = atoms_append xs ys
atoms_append (Atom a ∷ xs) ys = ap (λ l. a ∷ l) (atoms_append xs ys)

pub atoms_flat : (rows : List (List Item)) → atoms_of (flat rows) ≡ flat (map atoms_of rows)
atoms_flat [] = refl
atoms_flat (row ∷ rows) = atoms_append row (flat rows) ∙ ap (λ l. atoms_of row ++ l) (atoms_flat rows)

pub atoms_sound : (zs : List Item) → Every IsSound zs → Every (λ a. IsSound (Atom a)) (atoms_of zs)
atoms_sound [] h = tt
atoms_sound (Node n ∷ zs) h = atoms_sound zs h.1
atoms_sound (Atom a ∷ zs) h = (h.0, atoms_sound zs h.1)
