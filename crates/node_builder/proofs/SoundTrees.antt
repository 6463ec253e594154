-- Each tree that a builder makes is sound.
use Rattle.std.proofs.Common.{◌≡◌, ℕ, List, [], ◌∷◌, Bool, true, false, not, ◌||◌, cond, refl, ap, subst}
use Rattle.std.proofs.lemmas.Bool.{and_parts}
use Rattle.std.specs.Prelude.{Result, Ok, Err, IfOk, nat_eq, nat_le}
use Rattle.std.specs.List.{list_any}
use Rattle.xt_names.specs.Classes.{is_xml_text, is_ncname_text}
use Rattle.xt_names.specs.Marks.{has_pair, ends_with, is_white, begins_white}
use Rattle.xt_names.specs.declared.codes.Code.{Code}
use Rattle.xt_names.specs.declared.names.Name.{Name}
use Rattle.xt_tree.specs.Place.{Place}
use Rattle.xt_tree.specs.Sound.{is_sound_name, are_sound_attributes, is_sound_comment, is_sound_pi, is_xml_in_any_case, are_sound_behind, is_sound_root, is_sound_tree}
use Rattle.xt_tree.specs.TreeView.{forest_of, tree_height, tree_size}
use Rattle.xt_tree.specs.declared.attributes.Attribute.{Attribute}
use Rattle.xt_tree.specs.declared.trees.Tree.{Tree}
use Rattle.xt_tree.specs.declared.trees.Tree.TheVariants.{Doc, Elem, Comment, Pi}
use Rattle.xdm_items.specs.declared.items.Item.{Item}
use Rattle.node_builder.specs.Answers.{Builds}
use Rattle.node_builder.specs.Complex.{content_nodes, is_attribute, front, behind, misplaced, distinct, taken, complex_content}
use Rattle.node_builder.specs.Made.{Made, Gives, Fails, made_then}
use Rattle.node_builder.specs.SoundItems.{are_sound_items}
use Rattle.node_builder.specs.Trees.{numbered, limited, is_within_limits, element_of, document_of, comment_of, pi_of, without_white}
use Rattle.node_builder.specs.declared.contents.Content.{Content}
use Rattle.node_builder.specs.declared.faults.BuildFault.{BuildFault}
use Rattle.node_builder.specs.declared.kinds.Duplicates.{Duplicates}
use Rattle.node_builder.specs.declared.kinds.Holder.{Holder}
use Rattle.node_builder.specs.declared.kinds.Holder.TheVariants.{Element, Document}
use Rattle.node_builder.proofs.SoundContent.{children_sound, leading_all_sound, distinct_sound}
use Rattle.node_builder.proofs.OnePass.{split_then}
use Rattle.xt_names.proofs.BoolLemmas.{and_both as both}

-- attributes and children that an element may have
pub record IsSoundContent (c : Content) : Type 0 where
  pub attributes : are_sound_attributes c.attributes ≡ true
  pub kids : are_sound_behind false (forest_of c.kids) ≡ true

taken_sound : (side : Duplicates) (attributes : List Attribute) (kids : List Tree) (c : Content) (test : Bool) (code : Code) → ((kept : List Attribute) → distinct side attributes ≡ Gives kept → are_sound_attributes kept ≡ true)
    → (test ≡ false → are_sound_behind false (forest_of kids) ≡ true) → cond test (Fails code) (made_then (distinct side attributes) (λ kept. Gives (record { attributes = kept; kids = kids }))) ≡ Gives c → IsSoundContent c
taken_sound side attributes kids c true code f g e = absurd cc
taken_sound side attributes kids c false code f g e =
    let s = split_then (distinct side attributes) (λ kept. Gives (record { attributes = kept; kids = kids })) c e in
    let same : record { attributes = s.0; kids = kids } ≡ c = cc (s.2) in
    subst IsSoundContent same (record { attributes = f s.0 s.1; kids = g refl })

content_sound : (side : Duplicates) (holder : Holder) (items : List Item) (c : Content) → are_sound_items items ≡ true → complex_content side holder items ≡ Gives c → IsSoundContent c
unfolding complex_content taken
content_sound side holder items c h e =
    taken_sound side (front holder (content_nodes items)) (behind holder (content_nodes items)) c (list_any is_attribute (behind holder (content_nodes items))) (misplaced side holder)
    (λ kept f. distinct_sound side (front holder (content_nodes items)) kept (leading_all_sound holder items h) f) (λ n. children_sound holder items h n) e

element_root : (side : Duplicates) (name : Name) (items : List Item) (t : Tree) → is_sound_name name ≡ true → are_sound_items items ≡ true → element_of side name items ≡ Gives t → is_sound_root t ≡ true
unfolding element_of
element_root side name items t n h e =
    let s = split_then (complex_content side Element items) (λ content. Gives (Elem name content.attributes (forest_of content.kids))) t e in
    let p = content_sound side Element items s.0 h s.1 in
    let same : Elem name s.0.attributes (forest_of s.0.kids) ≡ t = cc (s.2) in
    subst (λ x. is_sound_root x ≡ true) same (both _ _ (both _ _ n p.attributes) p.kids)

document_root : (side : Duplicates) (items : List Item) (t : Tree) → are_sound_items items ≡ true → document_of side items ≡ Gives t → is_sound_root t ≡ true
unfolding document_of
document_root side items t h e =
    let s = split_then (complex_content side Document items) (λ content. Gives (Doc (forest_of content.kids))) t e in
    let p = content_sound side Document items s.0 h s.1 in
    let same : Doc (forest_of s.0.kids) ≡ t = cc (s.2) in
    subst (λ x. is_sound_root x ≡ true) same p.kids

either_false : (p q : Bool) → (p || q) ≡ false → (not p ≡ true) × (not q ≡ true)
either_false true q e = absurd cc
either_false false true e = absurd cc
either_false false false e = (refl, refl)

by_test : (test : Bool) (code : Code) (x t : Tree) → cond test (Fails code) (Gives x) ≡ Gives t → (test ≡ false) × (x ≡ t)
by_test true code x t e = absurd cc
by_test false code x t e = (refl, cc)

comment_root : (text : List ℕ) (t : Tree) → is_xml_text text ≡ true → comment_of text ≡ Gives t → is_sound_root t ≡ true
unfolding comment_of is_sound_comment
comment_root text t h e =
    let p = by_test (has_pair 45 45 text || ends_with 45 text) _ (Comment text) t e in
    let q = either_false (has_pair 45 45 text) (ends_with 45 text) p.0 in
    subst (λ x. is_sound_root x ≡ true) p.1 (both _ _ (both _ _ h q.0) q.1)

white_gone : (text : List ℕ) → begins_white (without_white text) ≡ false
unfolding begins_white
white_gone [] = refl
white_gone (c ∷ cs) = by_white (is_white c) refl (white_gone cs) where
  by_white : (w : Bool) → is_white c ≡ w → begins_white (without_white cs) ≡ false → begins_white (cond w (without_white cs) (c ∷ cs)) ≡ false
  by_white true f g = g
  by_white false f g = f

still_xml : (text : List ℕ) → is_xml_text text ≡ true → is_xml_text (without_white text) ≡ true
unfolding is_xml_text
still_xml [] h = refl
still_xml (c ∷ cs) h = let p = and_parts _ (is_xml_text cs) h in by_white (is_white c) h (still_xml cs p.1) where
  by_white : (w : Bool) → is_xml_text (c ∷ cs) ≡ true → is_xml_text (without_white cs) ≡ true → is_xml_text (cond w (without_white cs) (c ∷ cs)) ≡ true
  by_white true f g = g
  by_white false f g = f

pi_root : (target text : List ℕ) (t : Tree) → is_ncname_text target ≡ true → is_xml_in_any_case target ≡ false → is_xml_text text ≡ true → pi_of target text ≡ Gives t → is_sound_root t ≡ true
unfolding pi_of is_sound_pi
pi_root target text t n x h e =
    let p = by_test (has_pair 63 62 (without_white text)) _ (Pi target (without_white text)) t e in
    subst (λ y. is_sound_root y ≡ true) p.1 (both _ _ (both _ _ (both _ _ (both _ _ n (ap not x)) (still_xml text h)) (ap not p.0)) (ap not (white_gone text)))

-- a root within the limits is a sound tree
limits_sound : (x t : Tree) → is_sound_root x ≡ true → limited x ≡ Gives t → is_sound_tree t ≡ true
unfolding limited
limits_sound x t h e = by_limits (is_within_limits x) _ refl e where
  by_limits : (test : Bool) (code : Code) → is_within_limits x ≡ test → cond test (Gives x) (Fails code) ≡ Gives t → is_sound_tree t ≡ true
  by_limits true code f g =
      let p = and_parts (nat_le (tree_height x) 2000) (nat_le (tree_size x) 0x7FFF_FFFF_FFFF_FFFF) f in
      let same : x ≡ t = cc in subst (λ y. is_sound_tree y ≡ true) same (both _ _ (both _ _ h p.0) p.1)
  by_limits false code f g = absurd cc

numbered_sound : (next : ℕ) (o : Made Tree) (t : Tree) → ((x : Tree) → o ≡ Gives x → is_sound_root x ≡ true) → numbered next o ≡ Gives t → is_sound_tree t ≡ true
unfolding numbered
numbered_sound next o t h e = by_number (nat_eq next 0xFFFF_FFFF_FFFF_FFFF) _ e where
  by_number : (test : Bool) (code : Code) → cond test (Fails code) (made_then o limited) ≡ Gives t → is_sound_tree t ≡ true
  by_number true code f = absurd cc
  by_number false code f = let s = split_then o limited t f in limits_sound s.0 t (h s.0 s.1) s.2

built_sound : (old new : ℕ) (r : Result Place BuildFault) (o : Made Tree) → ((x : Tree) → o ≡ Gives x → is_sound_root x ≡ true) → Builds old new r (numbered old o) → IfOk r (λ node. is_sound_tree node.tree ≡ true)
built_sound old new (Ok node) o h b = numbered_sound old o node.tree h b.made
built_sound old new (Err fault) o h b = tt

pub element_sound : (old new : ℕ) (r : Result Place BuildFault) (side : Duplicates) (name : Name) (items : List Item) → Builds old new r (numbered old (element_of side name items)) → is_sound_name name ≡ true → are_sound_items items ≡ true
    → IfOk r (λ node. is_sound_tree node.tree ≡ true)
element_sound old new r side name items b n h = built_sound old new r (element_of side name items) (λ x e. element_root side name items x n h e) b

pub document_sound : (old new : ℕ) (r : Result Place BuildFault) (side : Duplicates) (items : List Item) → Builds old new r (numbered old (document_of side items)) → are_sound_items items ≡ true → IfOk r (λ node. is_sound_tree node.tree ≡ true)
document_sound old new r side items b h = built_sound old new r (document_of side items) (λ x e. document_root side items x h e) b

pub given_sound : (old new : ℕ) (r : Result Place BuildFault) (t : Tree) → Builds old new r (numbered old (Gives t)) → is_sound_root t ≡ true → IfOk r (λ node. is_sound_tree node.tree ≡ true)
given_sound old new r t b h = built_sound old new r (Gives t) (λ x e. let same : t ≡ x = cc in subst (λ y. is_sound_root y ≡ true) same h) b

pub comment_sound : (old new : ℕ) (r : Result Place BuildFault) (text : List ℕ) → Builds old new r (numbered old (comment_of text)) → is_xml_text text ≡ true → IfOk r (λ node. is_sound_tree node.tree ≡ true)
comment_sound old new r text b h = built_sound old new r (comment_of text) (λ x e. comment_root text x h e) b

pub pi_sound : (old new : ℕ) (r : Result Place BuildFault) (target text : List ℕ) → Builds old new r (numbered old (pi_of target text)) → is_ncname_text target ≡ true → is_xml_in_any_case target ≡ false → is_xml_text text ≡ true
    → IfOk r (λ node. is_sound_tree node.tree ≡ true)
pi_sound old new r target text b n x h = built_sound old new r (pi_of target text) (λ y e. pi_root target text y n x h e) b
