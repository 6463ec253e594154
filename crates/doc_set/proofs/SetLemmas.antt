-- Documents in a set.
use Rattle.std.proofs.Common.{◌≡◌, ℕ, zero, suc, ◌+◌, Bool, true, false, ◌&&◌, List, [], ◌∷◌, ◌++◌, take, slice_get, Option, Some, None, is_some, if◌then◌else◌, IsTrue, refl, ap, sym, ◌∙◌, subst, rules, arith}
use Rattle.std.specs.Prelude.{option_map, option_and_then}
use Rattle.std.specs.List.{IsDistinct, AllByRecursion}
use Rattle.std.specs.Str.{bytes_eq}
use Rattle.std.proofs.lemmas.Cmp.{nat_list_eq_equiv}
use Rattle.indexmap.specs.IndexMap.{insert_entry}
use Rattle.xt_tree.specs.Place.{Place}
use Rattle.xt_tree.specs.declared.trees.Tree.{Tree}
use Rattle.doc_set.specs.Sets.{DocumentSet, names_of, is_named, is_sound_document, are_sound_documents, place_of, root_at, root_named, with_document}

pub none_of : {A : Type 0} (o : Option A) → is_some o ≡ false → o ≡ None
none_of None h = refl
none_of (Some x) h = absurd cc

name_differs : (x : List ℕ) (set : DocumentSet) (i : ℕ) (name : List ℕ) (tree : Tree) → AllByRecursion (λ y. bytes_eq x y ≡ false) (names_of set) → slice_get set i ≡ Some (name, tree) → bytes_eq name x ≡ false
name_differs x [] i name tree all at = absurd cc
name_differs x (d ∷ set) zero name tree all at = let same : d ≡ (name, tree) = cc in nat_list_eq_equiv.symm name x ∙ ap (λ (e : List ℕ × Tree). bytes_eq x e.0) (sym same) ∙ all.0
name_differs x (d ∷ set) (suc i) name tree all at = name_differs x set i name tree all.1 at

-- the next document, put after those before it
pub put_next : (set : DocumentSet) (i : ℕ) (name : List ℕ) (tree : Tree) → IsDistinct bytes_eq (names_of set) → slice_get set i ≡ Some (name, tree) → insert_entry bytes_eq (take i set) name tree ≡ take (i + 1) set
unfolding IsDistinct
put_next [] i name tree d at = absurd cc
put_next (x ∷ set) zero name tree d at = let same : x ≡ (name, tree) = cc in ap (λ (e : List ℕ × Tree). e ∷ []) (sym same)
put_next (x ∷ set) (suc i) name tree d at =
    let e : suc (i + 1) ≡ suc i + 1 = omega arith in
    ap (λ b. if b then (x.0, tree) ∷ take i set else x ∷ insert_entry bytes_eq (take i set) name tree) (name_differs x.0 set i name tree d.0 at)
    ∙ ap (◌∷◌ x) (put_next set i name tree d.1 at)
    ∙ ap (λ n. take n (x ∷ set)) e

pub placed : (name : List ℕ) (tree : Tree) (set : DocumentSet) → is_named name set ≡ false → set ++ (name, tree) ∷ [] ≡ with_document name tree set
placed name tree set h = ap (λ b. if b then set else set ++ (name, tree) ∷ []) (sym h)

first_true : (a b : Bool) → IsTrue (a && b) → IsTrue a
first_true true b h = search rules
first_true false b h = h

second_true : (a b : Bool) → IsTrue (a && b) → IsTrue b
second_true true b h = h
second_true false b h = absurd cc

sound_at : (set : DocumentSet) (i n : ℕ) (root : Place) → IsTrue (are_sound_documents set) → option_map (λ (d : List ℕ × Tree). record { number = n; tree = d.1; path = []; attribute = None }) (slice_get set i) ≡ Some root → IsTrue (is_sound_document root.tree)
sound_at [] i n root h at = absurd cc
sound_at (d ∷ set) zero n root h at = let same : record { number = n; tree = d.1; path = []; attribute = None } ≡ root = cc in subst (λ (r : Place). IsTrue (is_sound_document r.tree)) same (first_true (is_sound_document d.1) (are_sound_documents set) h)
sound_at (d ∷ set) (suc i) n root h at = sound_at set i n root (second_true (is_sound_document d.1) (are_sound_documents set) h) at

pub sound_named : (name : List ℕ) (set : DocumentSet) (root : Place) → IsTrue (are_sound_documents set) → root_named name set ≡ Some root → IsTrue (is_sound_document root.tree)
sound_named name set root h = by (place_of name set)
  where
    by : (o : Option ℕ) → option_and_then (root_at set) o ≡ Some root → IsTrue (is_sound_document root.tree)
    by None at = absurd cc
    by (Some i) at = sound_at set i (i + 1) root h at
