-- Instructions that make nodes are carried where their parts are.
use Rattle.std.proofs.Common.{◌≡◌, ◌++◌, ℕ, List, length, refl, subst}
use Rattle.std.specs.Prelude.{◌^◌, Bool, true, false, flat_map, if◌then◌else◌, nat_lt, Option, Some}
use Rattle.std.specs.Prelude.{None, Ok, Err}
use Rattle.xt_names.specs.declared.codes.Code.TheVariants.{Dynamic, SheetDynamic}
use Rattle.xt_names.specs.declared.codes.DynamicCode.TheVariants.{FOAR0002}
use Rattle.xt_names.specs.declared.codes.SheetDynamicCode.TheVariants.{XTTE0945}
use Rattle.xt_names.specs.declared.names.Name.{Name}
use Rattle.xt_tree.specs.Place.{Place, subtree_of}
use Rattle.xt_tree.specs.Sound.{names_differ}
use Rattle.xt_tree.specs.declared.trees.Tree.{Tree}
use Rattle.xt_tree.specs.declared.trees.Tree.TheVariants as tree
use Rattle.xdm_items.specs.declared.items.Item.{Item}
use Rattle.xdm_items.specs.declared.items.Item.TheVariants.{Node, Atom}
use Rattle.node_builder.specs.Made.{Made, Gives, Fails as Refuses}
use Rattle.node_builder.specs.Trees.{numbered, element_of, document_of, comment_of, pi_of}
use Rattle.node_builder.specs.declared.kinds.Duplicates.TheVariants.{KeepLast}
use Rattle.expr_meaning.specs.Outcomes.Outcome.{and_then, for_each, step_outcome, OnEnds, Every}
use Rattle.expr_meaning.proofs.OutcomesLemmas.Relations.{each_carried, every_append}
use Rattle.expr_meaning.specs.SortMeaning.Sorted.{Placed}
use Rattle.expr_meaning.specs.Env.{Env, Meaning}
use Rattle.expr_meaning.specs.Making.{made, made_outcome}
use Rattle.expr_laws.specs.Carrier.{Carrier, IsAttributeName, IsMade, IsName, IsTarget, IsText}
use Rattle.expr_laws.specs.Carrier.{OnValue, SeesFocus}
use Rattle.expr_laws.proofs.Steps.{same_step}
use Rattle.transform_meaning.specs.Making.{AttributeMeaning, attribute_in, attribute_made}
use Rattle.transform_meaning.specs.Making.{comment_made, copied_focus, copied_item}
use Rattle.transform_meaning.specs.Making.{copied_item_with, copied_tree, copied_with, copy_made}
use Rattle.transform_meaning.specs.Making.{copy_of, document_with, element_items, element_made}
use Rattle.transform_meaning.specs.Making.{element_with, literal_attribute, literal_made}
use Rattle.transform_meaning.specs.Making.{new_attribute, new_element, new_text}
use Rattle.transform_meaning.specs.Making.{pi_made, text_made, value_made}
use Rattle.transform_meaning.specs.Names.{NameMeaning}
use Rattle.transform_meaning.specs.Texts.{TextMeaning}
use Rattle.transform_laws.specs.Meets.{AtPlaces, MeaningsMeet, SheetsMake}
use Rattle.transform_laws.proofs.Lists.{Pairs, each_pair}
use Rattle.transform_laws.proofs.Names.{AttributeNamesMeet, NamesMeet, TargetsMeet}
use Rattle.transform_laws.proofs.Texts.{TextsMeet}

-- literal attributes with the same name, whose texts are related
abbrev pub AttributesMeet : Carrier → AttributeMeaning → AttributeMeaning → Type 0
AttributesMeet c x y = (x.0 ≡ y.0) × IsAttributeName c x.0 × TextsMeet c x.1 y.1

module _ (c : Carrier) where
  -- what is made, the same on both sides
  pub made_meets : (t : Made Tree) (k : ℕ) → OnEnds (Every c.good) (made t k) →
      c.rel (List Item) (Every c.good) (made t k) (made t k)
  made_meets t k known = by (numbered k t) known
    where
      by : (t : Made Tree) → OnEnds (Every c.good) (made_outcome k t) →
          c.rel (List Item) (Every c.good) (made_outcome k t) (made_outcome k t)
      by (Gives t) g = c.carries.ends _ _ _ _ g
      by (Refuses code) g = c.carries.fails _ _ code

  items_known : (xs : List Item) → Every c.good xs → OnValue (Every c.good) (element_items xs)
  unfolding element_items
  items_known xs g = by (names_differ (flat_map attribute_in xs)) (nat_lt (length xs) (2 ^ 63))
    where
      by : (b d : Bool) → OnValue (Every c.good)
          (if b then Ok xs else (if d then Ok xs else Err (Dynamic FOAR0002)))
      by true d = g
      by false true = g
      by false false = tt

module _ (c : Carrier) (makes : IsMade c) (sheets : SheetsMake c) where
  new_element_meets : (name : Name) → IsName c name → (xs : List Item) → Every c.good xs →
      (k : ℕ) → c.rel (List Item) (Every c.good) (new_element name xs k) (new_element name xs k)
  new_element_meets name n xs g k =
      c.carries.next _ _ (Every c.good) (Every c.good) (step_outcome (element_items xs) k)
      (step_outcome (element_items xs) k) _ _
      (same_step c (Every c.good) (element_items xs) (items_known c xs g) k) (λ ys j h.
      made_meets c (element_of KeepLast name ys) j (sheets.element name ys n h j))

  new_attribute_meets : (name : Name) → IsAttributeName c name → (t : List ℕ) → IsText c t →
      (k : ℕ) → c.rel (List Item) (Every c.good) (new_attribute name t k) (new_attribute name t k)
  new_attribute_meets name n t h k =
      made_meets c (Gives (tree.Attr name t)) k (makes.attribute name t n h k)

  pub new_text_meets : (t : List ℕ) → IsText c t → (k : ℕ) →
      c.rel (List Item) (Every c.good) (new_text t k) (new_text t k)
  new_text_meets t h k = made_meets c (Gives (tree.Text t)) k (makes.text t h k)

  pub element_with_meets : (name : Name) → IsName c name → (m n : Meaning) → MeaningsMeet c m n →
      MeaningsMeet c (element_with name m) (element_with name n)
  element_with_meets name a m n h e f s k =
      c.carries.next _ _ (Every c.good) (Every c.good) (m e k) (n f k) _ _ (h e f s k)
      (λ xs j g. new_element_meets name a xs g j)

  pub document_meets : (m n : Meaning) → MeaningsMeet c m n →
      MeaningsMeet c (document_with m) (document_with n)
  document_meets m n h e f s k =
      c.carries.next _ _ (Every c.good) (Every c.good) (m e k) (n f k) _ _ (h e f s k)
      (λ xs j g. made_meets c (document_of KeepLast xs) j (sheets.document xs g j))

  pub text_meets : (t : List ℕ) → IsText c t → MeaningsMeet c (text_made t) (text_made t)
  text_meets t h e f s k = new_text_meets t h k

  pub value_meets : (t u : TextMeaning) → TextsMeet c t u →
      MeaningsMeet c (value_made t) (value_made u)
  value_meets t u h e f s k =
      c.carries.next _ _ (IsText c) (Every c.good) (t e k) (u f k) _ _ (h e f s k)
      (λ v j g. new_text_meets v g j)

  literal_attribute_meets : (x y : AttributeMeaning) → AttributesMeet c x y → (e f : Env) →
      AtPlaces c e f → (k : ℕ) → c.rel (List Item) (Every c.good) (literal_attribute e x k)
      (literal_attribute f y k)
  literal_attribute_meets x y h e f s k =
      subst (λ n. c.rel (List Item) (Every c.good) (literal_attribute e x k)
      (and_then (y.1 f k) (new_attribute n))) h.0
      (c.carries.next _ _ (IsText c) (Every c.good) (x.1 e k) (y.1 f k) _ _ (h.2 e f s k)
      (λ v j g. new_attribute_meets x.0 h.1 v g j))

  pub literal_meets : (name : Name) → IsName c name → (xs ys : List AttributeMeaning) →
      Pairs (AttributesMeet c) xs ys → (m n : Meaning) → MeaningsMeet c m n →
      MeaningsMeet c (literal_made name xs m) (literal_made name ys n)
  literal_meets name a xs ys h m n i e f s k =
      c.carries.next _ _ (Every c.good) (Every c.good) (for_each (literal_attribute e) xs k)
      (for_each (literal_attribute f) ys k) _ _
      (each_pair c (AttributesMeet c) (Every c.good) tt (every_append c.good) (literal_attribute e)
      (literal_attribute f) (λ x y p l. literal_attribute_meets x y p e f s l) xs ys h k)
      (λ us j gu.
      c.carries.next _ _ (Every c.good) (Every c.good) (m e j) (n f j) _ _ (i e f s j)
      (λ vs l gv. new_element_meets name a (us ++ vs) (every_append c.good us vs gu gv) l))

  pub element_meets : (a b : NameMeaning) → NamesMeet c a b → (m n : Meaning) → MeaningsMeet c m n →
      MeaningsMeet c (element_made a m) (element_made b n)
  element_meets a b h m n i e f s k =
      c.carries.next _ _ (IsName c) (Every c.good) (a e k) (b f k) _ _ (h e f s k)
      (λ name j g. element_with_meets name g m n i e f s j)

  pub attribute_meets : (a b : NameMeaning) → AttributeNamesMeet c a b → (t u : TextMeaning) →
      TextsMeet c t u → MeaningsMeet c (attribute_made a t) (attribute_made b u)
  attribute_meets a b h t u i e f s k =
      c.carries.next _ _ (IsAttributeName c) (Every c.good) (a e k) (b f k) _ _ (h e f s k)
      (λ name j g.
      c.carries.next _ _ (IsText c) (Every c.good) (t e j) (u f j) _ _ (i e f s j)
      (λ v l d. new_attribute_meets name g v d l))

  pub comment_meets : (t u : TextMeaning) → TextsMeet c t u →
      MeaningsMeet c (comment_made t) (comment_made u)
  comment_meets t u h e f s k =
      c.carries.next _ _ (IsText c) (Every c.good) (t e k) (u f k) _ _ (h e f s k)
      (λ v j g. made_meets c (comment_of v) j (makes.comment v g j))

  pub pi_meets : (a b : TextMeaning) → TargetsMeet c a b → (t u : TextMeaning) →
      TextsMeet c t u → MeaningsMeet c (pi_made a t) (pi_made b u)
  pi_meets a b h t u i e f s k =
      c.carries.next _ _ IsTarget (Every c.good) (a e k) (b f k) _ _ (h e f s k) (λ n j g.
      c.carries.next _ _ (IsText c) (Every c.good) (t e j) (u f j) _ _ (i e f s j)
      (λ v l d. made_meets c (pi_of n v) l (makes.pi n v g d l)))

  -- copies
  copied_tree_meets : (n : Place) → c.good (Node n) → (o : Option Tree) → subtree_of n ≡ o →
      (k : ℕ) → c.rel (List Item) (Every c.good) (copied_tree o k) (copied_tree o k)
  copied_tree_meets n g None e k = c.carries.ends _ _ _ _ tt
  copied_tree_meets n g (Some t) e k = made_meets c (Gives t) k (sheets.copy n g t e k)

  copied_item_meets : (x : Item) (k : ℕ) → c.good x →
      c.rel (List Item) (Every c.good) (copied_item x k) (copied_item x k)
  copied_item_meets (Node n) k g = copied_tree_meets n g (subtree_of n) refl k
  copied_item_meets (Atom a) k g = c.carries.ends _ _ _ _ (g, tt)

  pub copy_of_meets : (m n : Meaning) → MeaningsMeet c m n → MeaningsMeet c (copy_of m) (copy_of n)
  copy_of_meets m n h e f s k =
      c.carries.next _ _ (Every c.good) (Every c.good) (m e k) (n f k) _ _ (h e f s k)
      (λ xs j g. each_carried c.like c.rel c.carries c.good c.good copied_item copied_item
      copied_item_meets xs g j)

  copied_with_meets : (p : Place) → c.good (Node p) → (o : Option Tree) → subtree_of p ≡ o →
      (m n : Meaning) → MeaningsMeet c m n → MeaningsMeet c (copied_with o m) (copied_with o n)
  copied_with_meets p g None i m n h e f s k = c.carries.ends _ _ _ _ tt
  copied_with_meets p g (Some (tree.Doc kids)) i m n h e f s k = document_meets m n h e f s k
  copied_with_meets p g (Some (tree.Elem name attributes kids)) i m n h e f s k =
      element_with_meets name (sheets.named p g name attributes kids i) m n h e f s k
  copied_with_meets p g (Some (tree.Text t)) i m n h e f s k =
      made_meets c (Gives (tree.Text t)) k (sheets.copy p g (tree.Text t) i k)
  copied_with_meets p g (Some (tree.Comment t)) i m n h e f s k =
      made_meets c (Gives (tree.Comment t)) k (sheets.copy p g (tree.Comment t) i k)
  copied_with_meets p g (Some (tree.Pi target t)) i m n h e f s k =
      made_meets c (Gives (tree.Pi target t)) k (sheets.copy p g (tree.Pi target t) i k)
  copied_with_meets p g (Some (tree.Attr name t)) i m n h e f s k =
      made_meets c (Gives (tree.Attr name t)) k (sheets.copy p g (tree.Attr name t) i k)

  copied_focus_meets : (o : Option (Placed Item)) →
      ((p : Placed Item) → o ≡ Some p → c.good p.value) → (m n : Meaning) → MeaningsMeet c m n →
      MeaningsMeet c (copied_focus o m) (copied_focus o n)
  copied_focus_meets None g m n h = λ e f s k. c.carries.fails _ _ (SheetDynamic XTTE0945)
  copied_focus_meets (Some p) g m n h = by p.value (g p refl)
    where
      by : (x : Item) → c.good x → MeaningsMeet c (copied_item_with x m) (copied_item_with x n)
      by (Node q) d = copied_with_meets q d (subtree_of q) refl m n h
      by (Atom a) d = λ e f s k. c.carries.ends _ _ _ _ (d, tt)

  pub copy_meets : SeesFocus c c.inner → (m n : Meaning) → MeaningsMeet c m n →
      MeaningsMeet c (copy_made m) (copy_made n)
  copy_meets sees m n h e f s k =
      subst (λ o. c.rel (List Item) (Every c.good) (copied_focus e.focus m e k)
      (copied_focus o n f k)) (sees.same e f s)
      (copied_focus_meets e.focus (sees.item e f s) m n h e f s k)
