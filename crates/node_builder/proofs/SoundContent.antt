-- What is made of sound items is sound.
use Rattle.std.proofs.Common.{◌≡◌, ℕ, List, [], ◌∷◌, ◌++◌, map, Bool, true, false, not, ◌&&◌, ◌||◌, cond, Option, Some, None, refl, ap, sym, ◌∙◌, subst}
use Rattle.std.proofs.lemmas.Bool.{and_parts}
use Rattle.std.proofs.lemmas.List.Folds.{list_all-append}
use Rattle.std.specs.List.{list_all, list_any}
use Rattle.xt_names.specs.Allowed.{is_empty_text}
use Rattle.xt_names.specs.Classes.{is_in_ranges, is_xml_text}
use Rattle.xt_names.specs.declared.codes.Code.{Code}
use Rattle.xt_atoms.specs.AtomTexts.{text_of}
use Rattle.xt_tree.specs.Forest.{Forest, end, doc, elem, text, comment, pi, attr}
use Rattle.xt_tree.specs.Place.{subtree_of}
use Rattle.xt_tree.specs.Sound.{names_differ, is_sound_name, is_sound_attribute, are_sound_attributes, is_sound_comment, is_sound_pi, are_sound_behind, is_sound_root, is_sound_tree}
use Rattle.xt_tree.specs.TreeView.{trees, forest_of}
use Rattle.xt_tree.specs.declared.attributes.Attribute.{Attribute}
use Rattle.xt_tree.specs.declared.trees.Tree.{Tree}
use Rattle.xt_tree.specs.declared.trees.Tree.TheVariants.{Doc, Elem, Text, Comment, Pi, Attr}
use Rattle.xdm_items.specs.declared.items.Item.{Item}
use Rattle.xdm_items.specs.declared.items.Item.TheVariants.{Node, Atom}
use Rattle.node_builder.specs.Complex.{Piece, words, whole, put_atom, put_node, pieces_of, piece_tree, opened, merge_text, content_nodes, is_attribute, leading_attributes, behind_attributes, front, behind, last_of_each, distinct}
use Rattle.node_builder.specs.Made.{Gives, Fails}
use Rattle.node_builder.specs.SoundItems.{is_sound_item, are_sound_items}
use Rattle.node_builder.specs.declared.kinds.Duplicates.{Duplicates}
use Rattle.node_builder.specs.declared.kinds.Duplicates.TheVariants.{KeepLast, Refuse}
use Rattle.node_builder.specs.declared.kinds.Holder.{Holder}
use Rattle.node_builder.specs.declared.kinds.Holder.TheVariants.{Element, Document}
use Rattle.node_builder.proofs.ContentLemmas.{put_text, put_tree, tidy, tidy-put}
use Rattle.node_builder.proofs.SubtreeLemmas.{subtree_sound}
use Rattle.xt_names.proofs.ClassLemmas.{append_text}
use Rattle.xt_names.specs.Names.{same_name}
use Rattle.xt_names.proofs.BoolLemmas.{and_both as both}

xml_space : is_xml_text (32 ∷ []) ≡ true
unfolding is_xml_text is_in_ranges
xml_space = refl

-- each piece is a sound root
atom_fits : (t : List ℕ) (pieces : List Piece) → is_xml_text t ≡ true → list_all (λ p. is_sound_root (piece_tree p)) pieces ≡ true → list_all (λ p. is_sound_root (piece_tree p)) (put_atom t pieces) ≡ true
atom_fits t [] e h = both _ _ e refl
atom_fits t (words u ∷ pieces) e h =
    let p = and_parts (is_xml_text u) (list_all (λ q. is_sound_root (piece_tree q)) pieces) h in
    both _ _ (append_text t ((32 ∷ []) ++ u) e (append_text (32 ∷ []) u xml_space p.0)) p.1
atom_fits t (whole x ∷ pieces) e h = both _ _ e h

node_fits : (o : Option Tree) (pieces : List Piece) → ((x : Tree) → o ≡ Some x → is_sound_root x ≡ true) → list_all (λ p. is_sound_root (piece_tree p)) pieces ≡ true → list_all (λ p. is_sound_root (piece_tree p)) (put_node o pieces) ≡ true
node_fits None pieces f h = h
node_fits (Some x) pieces f h = both _ _ (f x refl) h

pieces_fit : (items : List Item) → list_all is_sound_item items ≡ true → list_all (λ p. is_sound_root (piece_tree p)) (pieces_of items) ≡ true
pieces_fit [] h = refl
pieces_fit (Node n ∷ items) h =
    let p = and_parts (is_sound_tree n.tree) (list_all is_sound_item items) h in node_fits (subtree_of n) (pieces_of items) (λ x e. subtree_sound n x p.0 e) (pieces_fit items p.1)
pieces_fit (Atom a ∷ items) h =
    let p = and_parts (is_xml_text (text_of a)) (list_all is_sound_item items) h in atom_fits (text_of a) (pieces_of items) p.0 (pieces_fit items p.1)

-- a tree that content may hold, but for what comes before it
abbrev is_fit : Tree → Bool
is_fit (Doc kids) = false
is_fit (Elem name attributes kids) = is_sound_name name && are_sound_attributes attributes && are_sound_behind false kids
is_fit (Text t) = is_xml_text t
is_fit (Comment t) = is_sound_comment t
is_fit (Pi target t) = is_sound_pi target t
is_fit (Attr name t) = is_sound_attribute name t

kids_fit : (f : Forest) (after : Bool) → are_sound_behind after f ≡ true → list_all is_fit (trees f) ≡ true
kids_fit end after h = refl
kids_fit (doc kids rest) after h = absurd cc
kids_fit (elem name attributes kids rest) after h =
    let p = and_parts (is_sound_name name && are_sound_attributes attributes && are_sound_behind false kids) (are_sound_behind false rest) h in both _ _ p.0 (kids_fit rest false p.1)
kids_fit (text t rest) after h =
    let p = and_parts (not after && not (is_empty_text t) && is_xml_text t) (are_sound_behind true rest) h in
    let q = and_parts (not after && not (is_empty_text t)) (is_xml_text t) p.0 in both _ _ q.1 (kids_fit rest true p.1)
kids_fit (comment t rest) after h = let p = and_parts (is_sound_comment t) (are_sound_behind false rest) h in both _ _ p.0 (kids_fit rest false p.1)
kids_fit (pi target t rest) after h = let p = and_parts (is_sound_pi target t) (are_sound_behind false rest) h in both _ _ p.0 (kids_fit rest false p.1)
kids_fit (attr name t rest) after h = absurd cc

opened_fit : (pieces : List Piece) → list_all (λ p. is_sound_root (piece_tree p)) pieces ≡ true → list_all is_fit (opened (map piece_tree pieces)) ≡ true
opened_fit [] h = refl
opened_fit (words t ∷ pieces) h = let p = and_parts (is_xml_text t) (list_all (λ q. is_sound_root (piece_tree q)) pieces) h in both _ _ p.0 (opened_fit pieces p.1)
opened_fit (whole x ∷ pieces) h =
    let p = and_parts (is_sound_root x) (list_all (λ q. is_sound_root (piece_tree q)) pieces) h in opened_one x (opened (map piece_tree pieces)) p.0 (opened_fit pieces p.1) where
      opened_one : (y : Tree) (ys : List Tree) → is_sound_root y ≡ true → list_all is_fit (opened (map piece_tree pieces)) ≡ true → list_all is_fit (opened (y ∷ map piece_tree pieces)) ≡ true
      opened_one (Doc kids) ys e f = list_all-append is_fit (trees kids) (opened (map piece_tree pieces)) ∙ both _ _ (kids_fit kids false e) f
      opened_one (Elem name attributes kids) ys e f = both _ _ e f
      opened_one (Text t) ys e f = both _ _ e f
      opened_one (Comment t) ys e f = both _ _ e f
      opened_one (Pi target t) ys e f = both _ _ e f
      opened_one (Attr name t) ys e f = both _ _ e f

-- content, of which the first comes after a text or not
abbrev fits_behind : Bool → List Tree → Bool
fits_behind after [] = true
fits_behind after (Doc kids ∷ xs) = false
fits_behind after (Elem name attributes kids ∷ xs) = (is_sound_name name && are_sound_attributes attributes && are_sound_behind false kids) && fits_behind false xs
fits_behind after (Text t ∷ xs) = (not after && not (is_empty_text t) && is_xml_text t) && fits_behind true xs
fits_behind after (Comment t ∷ xs) = is_sound_comment t && fits_behind false xs
fits_behind after (Pi target t ∷ xs) = is_sound_pi target t && fits_behind false xs
fits_behind after (Attr name t ∷ xs) = is_sound_attribute name t && fits_behind false xs

merge_fits : (c : ℕ) (cs : List ℕ) (xs : List Tree) → is_xml_text (c ∷ cs) ≡ true → fits_behind false xs ≡ true → fits_behind false (merge_text (c ∷ cs) xs) ≡ true
unfolding is_empty_text
merge_fits c cs [] e h = both _ _ e refl
merge_fits c cs (Doc kids ∷ xs) e h = absurd cc
merge_fits c cs (Elem name attributes kids ∷ xs) e h = both _ _ e h
merge_fits c cs (Text u ∷ xs) e h =
    let p = and_parts (not false && not (is_empty_text u) && is_xml_text u) (fits_behind true xs) h in
    let q = and_parts (not (is_empty_text u)) (is_xml_text u) p.0 in both _ _ (append_text (c ∷ cs) u e q.1) p.1
merge_fits c cs (Comment u ∷ xs) e h = both _ _ e h
merge_fits c cs (Pi target u ∷ xs) e h = both _ _ e h
merge_fits c cs (Attr name u ∷ xs) e h = both _ _ e h

text_fits : (t : List ℕ) (xs : List Tree) → is_xml_text t ≡ true → fits_behind false xs ≡ true → fits_behind false (put_text t xs) ≡ true
unfolding put_text
text_fits [] xs e h = h
text_fits (c ∷ cs) xs e h = merge_fits c cs xs e h

tree_fits : (y : Tree) (xs : List Tree) → is_fit y ≡ true → fits_behind false xs ≡ true → fits_behind false (put_tree y xs) ≡ true
tree_fits (Doc kids) xs e h = absurd cc
tree_fits (Elem name attributes kids) xs e h = both _ _ e h
tree_fits (Text t) xs e h = text_fits t xs e h
tree_fits (Comment t) xs e h = both _ _ e h
tree_fits (Pi target t) xs e h = both _ _ e h
tree_fits (Attr name t) xs e h = both _ _ e h

tidy_fits : (ys : List Tree) → list_all is_fit ys ≡ true → fits_behind false (tidy ys) ≡ true
tidy_fits [] h = refl
tidy_fits (y ∷ ys) h =
    let p = and_parts (is_fit y) (list_all is_fit ys) h in subst (λ zs. fits_behind false zs ≡ true) (sym (tidy-put y ys)) (tree_fits y (tidy ys) p.0 (tidy_fits ys p.1))

nodes_fit : (items : List Item) → are_sound_items items ≡ true → fits_behind false (content_nodes items) ≡ true
unfolding are_sound_items
nodes_fit items h = tidy_fits (opened (map piece_tree (pieces_of items))) (opened_fit (pieces_of items) (pieces_fit items h))

-- the attributes at the front
leading_sound : (xs : List Tree) (after : Bool) → fits_behind after xs ≡ true → list_all (λ a. is_sound_attribute a.name a.value) (leading_attributes xs) ≡ true
leading_sound [] after h = refl
leading_sound (Doc kids ∷ xs) after h = refl
leading_sound (Elem name attributes kids ∷ xs) after h = refl
leading_sound (Text t ∷ xs) after h = refl
leading_sound (Comment t ∷ xs) after h = refl
leading_sound (Pi target t ∷ xs) after h = refl
leading_sound (Attr name t ∷ xs) after h = let p = and_parts (is_sound_attribute name t) (fits_behind false xs) h in both _ _ p.0 (leading_sound xs false p.1)

front_sound : (holder : Holder) (xs : List Tree) → fits_behind false xs ≡ true → list_all (λ a. is_sound_attribute a.name a.value) (front holder xs) ≡ true
front_sound Element xs h = leading_sound xs false h
front_sound Document xs h = refl

behind_fits : (xs : List Tree) → fits_behind false xs ≡ true → fits_behind false (behind_attributes xs) ≡ true
behind_fits [] h = refl
behind_fits (Doc kids ∷ xs) h = h
behind_fits (Elem name attributes kids ∷ xs) h = h
behind_fits (Text t ∷ xs) h = h
behind_fits (Comment t ∷ xs) h = h
behind_fits (Pi target t ∷ xs) h = h
behind_fits (Attr name t ∷ xs) h = let p = and_parts (is_sound_attribute name t) (fits_behind false xs) h in behind_fits xs p.1

rest_fits : (holder : Holder) (xs : List Tree) → fits_behind false xs ≡ true → fits_behind false (behind holder xs) ≡ true
rest_fits Element xs h = behind_fits xs h
rest_fits Document xs h = h

-- without attributes these may be children
kids_sound : (xs : List Tree) (after : Bool) → fits_behind after xs ≡ true → list_any is_attribute xs ≡ false → are_sound_behind after (forest_of xs) ≡ true
kids_sound [] after h n = refl
kids_sound (Doc kids ∷ xs) after h n = absurd cc
kids_sound (Elem name attributes kids ∷ xs) after h n =
    let p = and_parts (is_sound_name name && are_sound_attributes attributes && are_sound_behind false kids) (fits_behind false xs) h in both _ _ p.0 (kids_sound xs false p.1 n)
kids_sound (Text t ∷ xs) after h n =
    let p = and_parts (not after && not (is_empty_text t) && is_xml_text t) (fits_behind true xs) h in both _ _ p.0 (kids_sound xs true p.1 n)
kids_sound (Comment t ∷ xs) after h n = let p = and_parts (is_sound_comment t) (fits_behind false xs) h in both _ _ p.0 (kids_sound xs false p.1 n)
kids_sound (Pi target t ∷ xs) after h n = let p = and_parts (is_sound_pi target t) (fits_behind false xs) h in both _ _ p.0 (kids_sound xs false p.1 n)
kids_sound (Attr name t ∷ xs) after h n = absurd cc

pub children_sound : (holder : Holder) (items : List Item) → are_sound_items items ≡ true → list_any is_attribute (behind holder (content_nodes items)) ≡ false → are_sound_behind false (forest_of (behind holder (content_nodes items))) ≡ true
children_sound holder items h n = kids_sound (behind holder (content_nodes items)) false (rest_fits holder (content_nodes items) (nodes_fit items h)) n

pub leading_all_sound : (holder : Holder) (items : List Item) → are_sound_items items ≡ true → list_all (λ a. is_sound_attribute a.name a.value) (front holder (content_nodes items)) ≡ true
leading_all_sound holder items h = front_sound holder (content_nodes items) (nodes_fit items h)

-- what is kept of attributes
still_none : (p : Attribute → Bool) (xs : List Attribute) → list_any p xs ≡ false → list_any p (last_of_each xs) ≡ false
still_none p [] h = refl
still_none p (x ∷ xs) h =
    none_kept (list_any (λ b. same_name x.name b.name) xs) (none_first (p x) (list_any p xs) h) (still_none p xs (none_rest (p x) (list_any p xs) h)) where
      none_first : (q r : Bool) → (q || r) ≡ false → q ≡ false
      none_first true r e = absurd cc
      none_first false r e = refl

      none_rest : (q r : Bool) → (q || r) ≡ false → r ≡ false
      none_rest true r e = absurd cc
      none_rest false r e = e

      none_kept : (test : Bool) → p x ≡ false → list_any p (last_of_each xs) ≡ false → list_any p (cond test (last_of_each xs) (x ∷ last_of_each xs)) ≡ false
      none_kept true e f = f
      none_kept false e f = rw e f

kept_differ : (xs : List Attribute) → names_differ (last_of_each xs) ≡ true
kept_differ [] = refl
kept_differ (x ∷ xs) = by_test (list_any (λ b. same_name x.name b.name) xs) refl (kept_differ xs) where
  by_test : (test : Bool) → list_any (λ b. same_name x.name b.name) xs ≡ test → names_differ (last_of_each xs) ≡ true → names_differ (cond test (last_of_each xs) (x ∷ last_of_each xs)) ≡ true
  by_test true e f = f
  by_test false e f = both _ _ (ap not (still_none (λ b. same_name x.name b.name) xs e)) f

kept_sound : (xs : List Attribute) → list_all (λ a. is_sound_attribute a.name a.value) xs ≡ true → list_all (λ a. is_sound_attribute a.name a.value) (last_of_each xs) ≡ true
kept_sound [] h = refl
kept_sound (x ∷ xs) h =
    let p = and_parts (is_sound_attribute x.name x.value) (list_all (λ a. is_sound_attribute a.name a.value) xs) h in by_test (list_any (λ b. same_name x.name b.name) xs) p.0 (kept_sound xs p.1) where
      by_test : (test : Bool) → is_sound_attribute x.name x.value ≡ true → list_all (λ a. is_sound_attribute a.name a.value) (last_of_each xs) ≡ true
          → list_all (λ a. is_sound_attribute a.name a.value) (cond test (last_of_each xs) (x ∷ last_of_each xs)) ≡ true
      by_test true e f = f
      by_test false e f = both _ _ e f

pub distinct_sound : (side : Duplicates) (xs kept : List Attribute) → list_all (λ a. is_sound_attribute a.name a.value) xs ≡ true → distinct side xs ≡ Gives kept → are_sound_attributes kept ≡ true
unfolding are_sound_attributes
distinct_sound KeepLast xs kept h e =
    let same : last_of_each xs ≡ kept = cc in
    subst (λ ys. (list_all (λ a. is_sound_attribute a.name a.value) ys && names_differ ys) ≡ true) same (both _ _ (kept_sound xs h) (kept_differ xs))
distinct_sound Refuse xs kept h e = by_test (names_differ xs) _ refl e where
  by_test : (test : Bool) (code : Code) → names_differ xs ≡ test → (cond test (Gives xs) (Fails code)) ≡ Gives kept → (list_all (λ a. is_sound_attribute a.name a.value) kept && names_differ kept) ≡ true
  by_test true code f g = let same : xs ≡ kept = cc in subst (λ ys. (list_all (λ a. is_sound_attribute a.name a.value) ys && names_differ ys) ≡ true) same (both _ _ h f)
  by_test false code f g = absurd cc
