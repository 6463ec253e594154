-- What is left of a sound tree is sound: no texts come together, and it is no higher and no larger.
use Rattle.std.proofs.Common.{◌≡◌, ℕ, ◌+◌, ◌≤◌, List, max, refl, ap, arith, Bool, true, false, not, ◌&&◌}
use Rattle.std.specs.Prelude.{nat_le}
use Rattle.std.proofs.lemmas.Bool.{and_parts, not-true, leb-true, le-leb}
use Rattle.xt_names.specs.Allowed.{is_empty_text}
use Rattle.xt_names.specs.Classes.{is_xml_text}
use Rattle.xt_types.specs.declared.node_tests.SpaceRule.{SpaceRule}
use Rattle.xt_tree.specs.declared.trees.Tree.{Tree}
use Rattle.xt_tree.specs.declared.trees.Tree.TheVariants.{Doc, Elem, Text, Comment, Pi, Attr}
use Rattle.xt_tree.specs.Forest.{Forest, end, doc, elem, text, comment, pi, attr, forest_size, forest_height}
use Rattle.xt_tree.specs.TreeView.{tree_height, tree_size}
use Rattle.xt_tree.specs.White.{is_white_text}
use Rattle.xt_tree.specs.Sound.{is_sound_name, are_sound_attributes, is_sound_comment, is_sound_pi, are_sound_behind, is_sound_root, is_sound_tree}
use Rattle.doc_set.specs.WhiteSpace.Stripped.{preserves, drops_in, unless_dropped, stripped_forest, stripped}

-- where the first is after a text, so is the second
abbrev IsLess : Bool → Bool → Type 0
IsLess less after = less ≡ true → after ≡ true

less_false : (less after : Bool) → IsLess less after → after ≡ false → less ≡ false
less_false true after l e = let x = l refl in absurd (cc)
less_false false after l e = refl

false_less : (after : Bool) → IsLess false after
false_less after e = absurd (cc)

text_sound : (less q : Bool) (t : List ℕ) (f : Forest) → less ≡ false → is_empty_text t ≡ false → is_xml_text t ≡ true → are_sound_behind less f ≡ true → are_sound_behind true f ≡ true → are_sound_behind less (unless_dropped q t f) ≡ true
text_sound less true t f l e x gone stays = gone
text_sound less false t f l e x gone stays = rw (l, e, x, stays) refl

pub forest_sound : (rules : List SpaceRule) (kept drops less after : Bool) (f : Forest) → IsLess less after → are_sound_behind after f ≡ true → are_sound_behind less (stripped_forest rules kept drops f) ≡ true
forest_sound rules kept drops less after end l s = refl
forest_sound rules kept drops less after (doc kids rest) l s = absurd (cc)
forest_sound rules kept drops less after (elem name attributes kids rest) l s =
    let a = and_parts ((is_sound_name name && are_sound_attributes attributes) && are_sound_behind false kids) (are_sound_behind false rest) s in
    let b = and_parts (is_sound_name name && are_sound_attributes attributes) (are_sound_behind false kids) a.0 in
    let inner = forest_sound rules (preserves kept attributes) (drops_in rules (preserves kept attributes) name) false false kids (false_less false) b.1 in
    let later = forest_sound rules kept drops false false rest (false_less false) a.1 in
    rw (b.0, inner, later) refl
forest_sound rules kept drops less after (text t rest) l s =
    let a = and_parts ((not after && not (is_empty_text t)) && is_xml_text t) (are_sound_behind true rest) s in
    let b = and_parts (not after && not (is_empty_text t)) (is_xml_text t) a.0 in
    let c = and_parts (not after) (not (is_empty_text t)) b.0 in
    let no_text : less ≡ false = less_false less after l (not-true after c.0) in
    let gone = forest_sound rules kept drops less true rest (λ e. refl) a.1 in
    let stays = forest_sound rules kept drops true true rest (λ e. refl) a.1 in
    text_sound less (drops && is_white_text t) t (stripped_forest rules kept drops rest) no_text (not-true (is_empty_text t) c.1) b.1 gone stays
forest_sound rules kept drops less after (comment t rest) l s =
    let a = and_parts (is_sound_comment t) (are_sound_behind false rest) s in
    let later = forest_sound rules kept drops false false rest (false_less false) a.1 in
    rw (a.0, later) refl
forest_sound rules kept drops less after (pi target t rest) l s =
    let a = and_parts (is_sound_pi target t) (are_sound_behind false rest) s in
    let later = forest_sound rules kept drops false false rest (false_less false) a.1 in
    rw (a.0, later) refl
forest_sound rules kept drops less after (attr name t rest) l s = absurd (cc)

dropped_height : (q : Bool) (t : List ℕ) (f : Forest) → forest_height (unless_dropped q t f) ≡ forest_height f
dropped_height true t f = refl
dropped_height false t f = refl

pub forest_low : (rules : List SpaceRule) (kept drops : Bool) (f : Forest) → forest_height (stripped_forest rules kept drops f) ≡ forest_height f
forest_low rules kept drops end = refl
forest_low rules kept drops (doc kids rest) = rw (forest_low rules kept false kids, forest_low rules kept drops rest) refl
forest_low rules kept drops (elem name attributes kids rest) =
    rw (forest_low rules (preserves kept attributes) (drops_in rules (preserves kept attributes) name) kids, forest_low rules kept drops rest) refl
forest_low rules kept drops (text t rest) = rw (dropped_height (drops && is_white_text t) t (stripped_forest rules kept drops rest)) (forest_low rules kept drops rest)
forest_low rules kept drops (comment t rest) = forest_low rules kept drops rest
forest_low rules kept drops (pi target t rest) = forest_low rules kept drops rest
forest_low rules kept drops (attr name t rest) = forest_low rules kept drops rest

dropped_size : (q : Bool) (t : List ℕ) (f : Forest) → forest_size (unless_dropped q t f) ≤ 1 + forest_size f
dropped_size true t f = omega arith
dropped_size false t f = omega arith

pub forest_small : (rules : List SpaceRule) (kept drops : Bool) (f : Forest) → forest_size (stripped_forest rules kept drops f) ≤ forest_size f
forest_small rules kept drops end = omega arith
forest_small rules kept drops (doc kids rest) = omega (arith, forest_small rules kept false kids, forest_small rules kept drops rest)
forest_small rules kept drops (elem name attributes kids rest) =
    omega (arith, forest_small rules (preserves kept attributes) (drops_in rules (preserves kept attributes) name) kids, forest_small rules kept drops rest)
forest_small rules kept drops (text t rest) =
    omega (arith, dropped_size (drops && is_white_text t) t (stripped_forest rules kept drops rest), forest_small rules kept drops rest)
forest_small rules kept drops (comment t rest) = omega (arith, forest_small rules kept drops rest)
forest_small rules kept drops (pi target t rest) = omega (arith, forest_small rules kept drops rest)
forest_small rules kept drops (attr name t rest) = omega (arith, forest_small rules kept drops rest)

root_sound : (rules : List SpaceRule) (t : Tree) → is_sound_root t ≡ true → is_sound_root (stripped rules t) ≡ true
root_sound rules (Doc kids) s = forest_sound rules false false false false kids (false_less false) s
root_sound rules (Elem name attributes kids) s =
    let a = and_parts (is_sound_name name && are_sound_attributes attributes) (are_sound_behind false kids) s in
    let inner = forest_sound rules (preserves false attributes) (drops_in rules (preserves false attributes) name) false false kids (false_less false) a.1 in
    rw (a.0, inner) refl
root_sound rules (Text t) s = s
root_sound rules (Comment t) s = s
root_sound rules (Pi target t) s = s
root_sound rules (Attr name t) s = s

root_low : (rules : List SpaceRule) (t : Tree) → tree_height (stripped rules t) ≡ tree_height t
root_low rules (Doc kids) = ap (λ (h : ℕ). max h 0) (forest_low rules false false kids)
root_low rules (Elem name attributes kids) = ap (λ (h : ℕ). max (1 + h) 0) (forest_low rules (preserves false attributes) (drops_in rules (preserves false attributes) name) kids)
root_low rules (Text t) = refl
root_low rules (Comment t) = refl
root_low rules (Pi target t) = refl
root_low rules (Attr name t) = refl

root_small : (rules : List SpaceRule) (t : Tree) → tree_size (stripped rules t) ≤ tree_size t
root_small rules (Doc kids) = omega (arith, forest_small rules false false kids)
root_small rules (Elem name attributes kids) = omega (arith, forest_small rules (preserves false attributes) (drops_in rules (preserves false attributes) name) kids)
root_small rules (Text t) = omega arith
root_small rules (Comment t) = omega arith
root_small rules (Pi target t) = omega arith
root_small rules (Attr name t) = omega arith

pub tree_sound : (rules : List SpaceRule) (t : Tree) → is_sound_tree t ≡ true → is_sound_tree (stripped rules t) ≡ true
tree_sound rules t s =
    let a = and_parts (is_sound_root t && nat_le (tree_height t) 2000) (nat_le (tree_size t) 0x7FFF_FFFF_FFFF_FFFF) s in
    let b = and_parts (is_sound_root t) (nat_le (tree_height t) 2000) a.0 in
    let size = leb-true (tree_size t) 0x7FFF_FFFF_FFFF_FFFF a.1 in
    let smaller = root_small rules t in
    let small : tree_size (stripped rules t) ≤ 0x7FFF_FFFF_FFFF_FFFF = omega arith in
    rw (root_sound rules t b.0, root_low rules t, b.1, le-leb (tree_size (stripped rules t)) 0x7FFF_FFFF_FFFF_FFFF small) refl
