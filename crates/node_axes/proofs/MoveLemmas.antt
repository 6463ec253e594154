-- Moves from place to place.
use Rattle.std.proofs.Common.{◌≡◌, ℕ, zero, suc, ◌+◌, ◌<◌, ◌≤◌, List, [], ◌∷◌, ◌++◌, length, true, Option, Some, None, option_and_then, slice_get, refl, sym, ap, subst, ◌∙◌, arith, length-append}
use Rattle.xt_tree.specs.declared.trees.Tree.{Tree}
use Rattle.xt_tree.specs.declared.trees.Tree.TheVariants.{Doc, Elem, Text, Comment, Pi, Attr}
use Rattle.xt_tree.specs.Forest.{Forest, end, doc, elem, text, comment, pi, attr, forest_depth}
use Rattle.xt_tree.specs.Place.{subtree_at, has_attribute}
use Rattle.xt_tree.specs.TreeView.{kids_of, trees, tree_depth}
use Rattle.xt_tree.proofs.PlaceLemmas.{subtree_at-append, kid_exists}
use Rattle.node_axes.specs.Paths.{has_path}
use Rattle.node_axes.specs.Moves.{count_at, Down, Right, NoRight, Left, NoLeft, Up}
use Rattle.node_axes.proofs.PathLemmas.{kid_within}

-- a way is no longer than the longest
in_forest : (f : Forest) (i : ℕ) (k : Tree) → slice_get (trees f) i ≡ Some k → tree_depth k + 1 ≤ forest_depth f
in_forest end i k e = cc
in_forest (doc kids rest) zero k e = let h : Doc kids ≡ k = cc in let g : forest_depth kids ≡ tree_depth k = ap tree_depth h in omega arith
in_forest (doc kids rest) (suc i) k e = let h = in_forest rest i k e in omega arith
in_forest (elem name attrs kids rest) zero k e = let h : Elem name attrs kids ≡ k = cc in let g : forest_depth kids ≡ tree_depth k = ap tree_depth h in omega arith
in_forest (elem name attrs kids rest) (suc i) k e = let h = in_forest rest i k e in omega arith
in_forest (text t rest) zero k e = let h : Text t ≡ k = cc in let g : 0 ≡ tree_depth k = ap tree_depth h in omega arith
in_forest (text t rest) (suc i) k e = let h = in_forest rest i k e in omega arith
in_forest (comment t rest) zero k e = let h : Comment t ≡ k = cc in let g : 0 ≡ tree_depth k = ap tree_depth h in omega arith
in_forest (comment t rest) (suc i) k e = let h = in_forest rest i k e in omega arith
in_forest (pi target t rest) zero k e = let h : Pi target t ≡ k = cc in let g : 0 ≡ tree_depth k = ap tree_depth h in omega arith
in_forest (pi target t rest) (suc i) k e = let h = in_forest rest i k e in omega arith
in_forest (attr name t rest) zero k e = let h : Attr name t ≡ k = cc in let g : 0 ≡ tree_depth k = ap tree_depth h in omega arith
in_forest (attr name t rest) (suc i) k e = let h = in_forest rest i k e in omega arith

kid_depth : (t : Tree) (i : ℕ) (k : Tree) → slice_get (kids_of t) i ≡ Some k → tree_depth k + 1 ≤ tree_depth t
kid_depth (Doc kids) i k e = in_forest kids i k e
kid_depth (Elem name attrs kids) i k e = in_forest kids i k e
kid_depth (Text t) i k e = cc
kid_depth (Comment t) i k e = cc
kid_depth (Pi target t) i k e = cc
kid_depth (Attr name t) i k e = cc

depth_step : (t : Tree) (i : ℕ) (q : List ℕ) (o : Option Tree) → o ≡ slice_get (kids_of t) i → ((k : Tree) → has_attribute (subtree_at k q) None ≡ true → length q ≤ tree_depth k)
    → has_attribute (option_and_then (λ k. subtree_at k q) o) None ≡ true → length q + 1 ≤ tree_depth t
depth_step t i q None e f h = cc
depth_step t i q (Some k) e f h = let a = kid_depth t i k (sym e) in let b = f k h in omega arith

depth_bound : (t : Tree) (q : List ℕ) → has_attribute (subtree_at t q) None ≡ true → length q ≤ tree_depth t
depth_bound t [] h = omega arith
depth_bound t (i ∷ q) h = let a = depth_step t i q (slice_get (kids_of t) i) refl (λ k g. depth_bound k q g) h in omega arith

pub has_depth : (t : Tree) (q : List ℕ) → has_path t q ≡ true → length q ≤ tree_depth t
unfolding has_path
has_depth t q h = depth_bound t q h

begin_step : (o : Option Tree) (x : List ℕ) → has_attribute (option_and_then (λ s. subtree_at s x) o) None ≡ true → has_attribute o None ≡ true
begin_step None x h = cc
begin_step (Some s) x h = refl

-- the way to a node goes by nodes
pub has_begin : (t : Tree) (q x : List ℕ) → has_path t (q ++ x) ≡ true → has_path t q ≡ true
unfolding has_path
has_begin t q x h = begin_step (subtree_at t q) x (ap (λ o. has_attribute o None) (sym (subtree_at-append t q x)) ∙ h)

pub has_kid : (t : Tree) (q : List ℕ) (i : ℕ) → i < count_at t q → has_path t (q ++ i ∷ []) ≡ true
unfolding has_path
has_kid t q i l = ap (λ o. has_attribute o None) (subtree_at-append t q (i ∷ [])) ∙ kid_exists (subtree_at t q) i l

pub has_room : (t : Tree) (q : List ℕ) (i : ℕ) → i < count_at t q → length q < tree_depth t
has_room t q i l = let d = has_depth t (q ++ i ∷ []) (has_kid t q i l) in let e = length-append q (i ∷ []) in omega arith

empty_front : (i : ℕ) (b : List ℕ) (j k : ℕ) (r : List ℕ) → (i ∷ []) ≡ (k ∷ (r ++ j ∷ [])) → ⊥
empty_front i b j k [] e = cc
empty_front i b j k (x ∷ r) e = cc

pub push_inj : (a b : List ℕ) (i j : ℕ) → a ++ i ∷ [] ≡ b ++ j ∷ [] → (a ≡ b) × (i ≡ j)
push_inj [] [] i j e = (refl, cc)
push_inj [] (k ∷ r) i j e = absurd (empty_front i r j k r e)
push_inj (k ∷ r) [] i j e = absurd (empty_front j r i k r (sym e))
push_inj (x ∷ a) (y ∷ b) i j e =
    let f : x ≡ y = cc in
    let g : a ++ i ∷ [] ≡ b ++ j ∷ [] = cc in
    let h = push_inj a b i j g in
    let u = h.0 in
    (cc, h.1)

-- the moves to a child and to the parent
pub downs : (t : Tree) (old new : List ℕ) → 0 < count_at t old → new ≡ old ++ 0 ∷ [] → Down t old new
downs t old new l e = record { to = e; exists = subst (λ z. has_path t z ≡ true) (sym e) (has_kid t old 0 l) }

pub rights : (t : Tree) (old rest new : List ℕ) (place : ℕ) → old ≡ rest ++ place ∷ [] → place + 1 < count_at t rest → new ≡ rest ++ (place + 1) ∷ [] → Right t old new
rights t old rest new place e l f = record {
  from = (rest, place, e);
  to = λ front i g. let h = push_inj rest front place i (sym e ∙ g) in f ∙ (let u = h.0 in let v = h.1 in cc);
  exists = subst (λ z. has_path t z ≡ true) (sym f) (has_kid t rest (place + 1) l);
}

pub no_rights : (t : Tree) (old rest : List ℕ) (place : ℕ) → old ≡ rest ++ place ∷ [] → count_at t rest ≤ place + 1 → NoRight t old
no_rights t old rest place e l front i g =
    let h = push_inj rest front place i (sym e ∙ g) in
    let c : count_at t rest ≡ count_at t front = ap (count_at t) h.0 in omega arith

pub lefts : (t : Tree) (old rest new : List ℕ) (place j : ℕ) → has_path t old ≡ true → old ≡ rest ++ place ∷ [] → place ≡ j + 1 → new ≡ rest ++ j ∷ [] → Left t old new
lefts t old rest new place j has e p f =
    let g : has_path t (rest ++ place ∷ []) ≡ true = subst (λ z. has_path t z ≡ true) e has in
    let l = kid_within t rest place [] g in record {
      from = (rest, place, e);
      to = λ front i g. let h = push_inj rest front place i (sym e ∙ g) in (j, sym h.1 ∙ p, f ∙ ap (λ z. z ++ j ∷ []) h.0);
      exists = subst (λ z. has_path t z ≡ true) (sym f) (has_kid t rest j (omega arith));
    }

pub no_lefts : (old rest : List ℕ) (place : ℕ) → old ≡ rest ++ place ∷ [] → place ≡ 0 → NoLeft old
no_lefts old rest place e z front i g = let h = push_inj rest front place i (sym e ∙ g) in sym h.1 ∙ z

pub ups : (t : Tree) (old new : List ℕ) (i : ℕ) → has_path t old ≡ true → old ≡ new ++ i ∷ [] → Up t old new
ups t old new i has e = record { to = (i, e); exists = has_begin t new (i ∷ []) (subst (λ z. has_path t z ≡ true) e has) }
