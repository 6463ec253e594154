-- The grouping keys of items: each item's are the same whatever number the next tree has.
use Rattle.std.proofs.Common.{◌≡◌, ◌+◌, ℕ, suc, List, [], ◌∷◌, ◌++◌, refl, ap, ◌∙◌, arith}
use Rattle.std.specs.Prelude.{Bool, true, false, ◌||◌, Some, slice_get, if◌then◌else◌}
use Rattle.std.specs.List.{list_any}
use Rattle.xt_atoms.specs.Keys.{key_same}
use Rattle.xt_atoms.specs.declared.atoms.Atom.{Atom as AtomValue}
use Rattle.order_group.proofs.AtomKeys.KeyLemmas.{same_key_laws as laws}
use Rattle.xdm_items.specs.Values.{atomized}
use Rattle.xdm_items.specs.declared.items.Item.{Item}
use Rattle.xdm_items.specs.declared.items.Item.TheVariants.{Node, Atom}
use Rattle.order_group.specs.Groups.{atoms_of, has_key, places_where}
use Rattle.expr_meaning.specs.Outcomes.Outcome.{Outcome, Ends, Fails, Deep, and_then, for_each, OnEnds}
use Rattle.expr_meaning.proofs.OutcomesLemmas.Steps.{then_on}
use Rattle.expr_meaning.specs.SortMeaning.Sorted.{Placed}
use Rattle.expr_meaning.specs.Env.{Env, Meaning}
use Rattle.transform_meaning.specs.Grouping.{items_at, keys_at}
use Rattle.transform_meaning.specs.Places.{at_item}
use Rattle.lockstep_loops.proofs.Chosen.{is_key, kept_only}
use Rattle.std.proofs.Math.Bool.{and-true}

-- what gives a list gives it whatever number the next tree has
abbrev pub IsStill : Meaning → Type 0
IsStill m =
    (e : Env) (xs : List Item) (j k : ℕ) → m e j ≡ Ends xs k → (i : ℕ) → m e i ≡ Ends xs i

-- the keys of an item
abbrev pub RowOf : Meaning → Env → Placed Item → List Item → Type 0
RowOf key e f row =
    (ys : List Item) × ((i : ℕ) → key (at_item e f) i ≡ Ends ys i) × (row ≡ atomized ys)

abbrev pub RowsOf : Meaning → Env → List (Placed Item) → List (List Item) → Type 0
RowsOf key e [] [] = Unit {0}
RowsOf key e [] (row ∷ rows) = ⊥
RowsOf key e (f ∷ fs) [] = ⊥
RowsOf key e (f ∷ fs) (row ∷ rows) = RowOf key e f row × RowsOf key e fs rows

abbrev OneRow : Meaning → Env → Placed Item → List (List Item) → Type 0
OneRow key e f [] = ⊥
OneRow key e f (row ∷ []) = RowOf key e f row
OneRow key e f (row ∷ other ∷ rows) = ⊥

one_row : (key : Meaning) → IsStill key → (e : Env) (f : Placed Item) (k : ℕ) →
    OnEnds (OneRow key e f) (keys_at key e f k)
one_row key still e f k = by (key (at_item e f) k) refl
  where
    by : (o : Outcome (List Item)) → key (at_item e f) k ≡ o →
        OnEnds (OneRow key e f) (and_then o (λ xs j. Ends (atomized xs ∷ []) j))
    by (Ends ys j) h = (ys, still (at_item e f) ys k j h, refl)
    by (Fails code) h = tt
    by Deep h = tt

first_row : (key : Meaning) (e : Env) (f : Placed Item) (fs : List (Placed Item))
    (ys zs : List (List Item)) → OneRow key e f ys → RowsOf key e fs zs →
    RowsOf key e (f ∷ fs) (ys ++ zs)
first_row key e f fs [] zs h g = absurd h
first_row key e f fs (row ∷ []) zs h g = (h, g)
first_row key e f fs (row ∷ other ∷ rows) zs h g = absurd h

pub rows_known : (key : Meaning) → IsStill key → (e : Env) (fs : List (Placed Item)) (k : ℕ) →
    OnEnds (RowsOf key e fs) (for_each (keys_at key e) fs k)
rows_known key still e [] k = tt
rows_known key still e (f ∷ fs) k =
    then_on (OneRow key e f) (RowsOf key e (f ∷ fs)) (keys_at key e f k) _ (one_row key still e f k)
    (λ ys j h. then_on (RowsOf key e fs) (RowsOf key e (f ∷ fs)) (for_each (keys_at key e) fs j) _
    (rows_known key still e fs j) (λ zs i g. first_row key e f fs ys zs h g))

atom_told : (a b : AtomValue) (s t : Bool) → s ≡ t → (is_key a (Atom b) || s) ≡ (key_same a b || t)
atom_told a b s t h = ap (λ c. c || s) (and-true (key_same b a) ∙ laws.symm b a) ∙ ap (λ c. key_same a b || c) h

pub key_told : (a : AtomValue) (ys : List Item) →
    list_any (is_key a) (atomized ys) ≡ has_key a (atoms_of (atomized ys))
unfolding atomized
key_told a [] = refl
key_told a (Node n ∷ ys) = atom_told a _ _ _ (key_told a ys)
key_told a (Atom b ∷ ys) = atom_told a b _ _ (key_told a ys)

-- the items that have the key
abbrev pub members_of : AtomValue → List Item → List (List AtomValue) → List Item
members_of a [] rows = []
members_of a (x ∷ xs) [] = []
members_of a (x ∷ xs) (row ∷ rows) = kept_only (has_key a row) x ++ members_of a xs rows

-- a list as it stands from a place of another on
abbrev pub Stands : List Item → ℕ → List Item → Type 0
Stands all n xs = (i m : ℕ) → m ≡ n + i → slice_get all m ≡ slice_get xs i

behind_first : (all : List Item) (n : ℕ) (x : Item) (xs : List Item) → Stands all n (x ∷ xs) →
    Stands all (suc n) xs
behind_first all n x xs h i m e = h (suc i) m (omega (arith, e))

abbrev pub SameLong : List Item → List (List AtomValue) → Type 0
SameLong [] [] = Unit {0}
SameLong [] (row ∷ rows) = ⊥
SameLong (x ∷ xs) [] = ⊥
SameLong (x ∷ xs) (row ∷ rows) = SameLong xs rows

members_from : (a : AtomValue) (all xs : List Item) (rows : List (List AtomValue)) (n : ℕ) →
    SameLong xs rows → Stands all n xs → items_at all (places_where (has_key a) n rows) ≡ members_of a xs rows
members_from a all [] [] n l h = refl
members_from a all [] (row ∷ rows) n l h = absurd l
members_from a all (x ∷ xs) [] n l h = absurd l
members_from a all (x ∷ xs) (row ∷ rows) n l h =
    by (has_key a row) (h 0 n (omega arith)) (members_from a all xs rows (suc n) l (behind_first all n x xs h))
  where
    by : (b : Bool) → slice_get all n ≡ Some x →
        items_at all (places_where (has_key a) (suc n) rows) ≡ members_of a xs rows →
        items_at all (if b then n ∷ places_where (has_key a) (suc n) rows
        else places_where (has_key a) (suc n) rows) ≡ kept_only b x ++ members_of a xs rows
    by true e more = rw (e, more) refl
    by false e more = more

pub members_are : (a : AtomValue) (xs : List Item) (rows : List (List AtomValue)) → SameLong xs rows →
    items_at xs (places_where (has_key a) 0 rows) ≡ members_of a xs rows
members_are a xs rows l = members_from a xs xs rows 0 l (λ i m e. ap (slice_get xs) (omega (arith, e)))
