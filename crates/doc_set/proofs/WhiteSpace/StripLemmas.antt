-- Steps of stripping along a list of trees.
use Rattle.std.proofs.Common.{◌≡◌, ℕ, suc, ◌+◌, ◌<◌, List, [], ◌∷◌, ◌++◌, length, drop, drop-cons, get_or, add-one, append_assoc, ap, sym, ◌∙◌, Bool, true, false, not, cond, ◌&&◌, refl}
use Rattle.std.proofs.lemmas.Bool.{and_parts, not-true}
use Rattle.xt_types.specs.declared.node_tests.SpaceRule.{SpaceRule}
use Rattle.xt_tree.specs.declared.trees.Tree.{Tree}
use Rattle.xt_tree.specs.declared.trees.Tree.TheVariants.{Doc, Elem, Text, Comment, Pi, Attr}
use Rattle.xt_tree.specs.Forest.{Forest, end, doc, elem, text, comment, pi, attr}
use Rattle.xt_tree.specs.TreeView.{put, forest_of, trees}
use Rattle.xt_tree.specs.White.{is_white_text}
use Rattle.doc_set.specs.WhiteSpace.Stripped.{unless_dropped, stripped_forest}
use Rattle.doc_set.specs.WhiteSpace.Flat.{is_flat, left_of}

text_left : (q : Bool) (t : List ℕ) (f : Forest) → trees (unless_dropped q t f) ≡ cond q [] (Text t ∷ []) ++ trees f
text_left true t f = refl
text_left false t f = refl

pub put_left : (rules : List SpaceRule) (kept drops : Bool) (t : Tree) (f : Forest) → trees (stripped_forest rules kept drops (put t f)) ≡ left_of rules kept drops t ++ trees (stripped_forest rules kept drops f)
put_left rules kept drops (Doc kids) f = refl
put_left rules kept drops (Elem name attributes kids) f = refl
put_left rules kept drops (Text t) f = text_left (drops && is_white_text t) t (stripped_forest rules kept drops f)
put_left rules kept drops (Comment t) f = refl
put_left rules kept drops (Pi target t) f = refl
put_left rules kept drops (Attr name t) f = refl

-- what is left of the trees from a place on: of the tree there, and then of those after it
pub left_turn : (rules : List SpaceRule) (kept drops : Bool) (ts out : List Tree) (i : ℕ) (t : Tree) → i < length ts → t ≡ get_or ts i t
    → (out ++ left_of rules kept drops t) ++ trees (stripped_forest rules kept drops (forest_of (drop (i + 1) ts))) ≡ out ++ trees (stripped_forest rules kept drops (forest_of (drop i ts)))
left_turn rules kept drops ts out i t lt is =
    let all = λ (ys : List Tree). trees (stripped_forest rules kept drops (forest_of ys)) in
    let first : drop i ts ≡ t ∷ drop (suc i) ts = drop-cons ts i t lt ∙ ap (λ y. y ∷ drop (suc i) ts) (sym is) in
    let turned : all (drop i ts) ≡ left_of rules kept drops t ++ all (drop (suc i) ts) = ap all first ∙ put_left rules kept drops t (forest_of (drop (suc i) ts)) in
    let next : all (drop (i + 1) ts) ≡ all (drop (suc i) ts) = ap (λ n. all (drop n ts)) (add-one i) in
    append_assoc out (left_of rules kept drops t) (all (drop (i + 1) ts)) ∙ ap (λ ys. out ++ (left_of rules kept drops t ++ ys)) next ∙ ap (λ ys. out ++ ys) (sym turned)

-- a list of what is left, with nothing after it
pub left_whole : (f : Forest) → forest_of (trees f) ≡ f
left_whole end = refl
left_whole (doc kids rest) = rw (left_whole rest) refl
left_whole (elem name attributes kids rest) = rw (left_whole rest) refl
left_whole (text t rest) = rw (left_whole rest) refl
left_whole (comment t rest) = rw (left_whole rest) refl
left_whole (pi target t rest) = rw (left_whole rest) refl
left_whole (attr name t rest) = rw (left_whole rest) refl

-- from a flat list nothing goes
pub flat_left : (rules : List SpaceRule) (kept drops : Bool) (f : Forest) → is_flat drops (trees f) ≡ true → stripped_forest rules kept drops f ≡ f
flat_left rules kept drops end e = refl
flat_left rules kept drops (doc kids rest) e = absurd (cc)
flat_left rules kept drops (elem name attributes kids rest) e = absurd (cc)
flat_left rules kept drops (text t rest) e =
    let parts = and_parts (not (drops && is_white_text t)) (is_flat drops (trees rest)) e in
    rw (not-true (drops && is_white_text t) parts.0, flat_left rules kept drops rest parts.1) refl
flat_left rules kept drops (comment t rest) e = rw (flat_left rules kept drops rest e) refl
flat_left rules kept drops (pi target t rest) e = rw (flat_left rules kept drops rest e) refl
flat_left rules kept drops (attr name t rest) e = rw (flat_left rules kept drops rest e) refl

-- the list that is left of the trees of a forest
pub left_made : (rules : List SpaceRule) (kept drops : Bool) (f : Forest) (ts out new : List Tree) → new ≡ [] → forest_of ts ≡ f → out ≡ new ++ trees (stripped_forest rules kept drops (forest_of ts)) → forest_of out ≡ stripped_forest rules kept drops f
left_made rules kept drops f ts out new none all made =
    let left = λ (g : Forest). stripped_forest rules kept drops g in
    ap forest_of (made ∙ ap (λ ys. ys ++ trees (left (forest_of ts))) none) ∙ left_whole (left (forest_of ts)) ∙ ap left all
