-- Constructors are carried where their parts are.
use Rattle.std.proofs.Common.{◌≡◌, ◌++◌, ℕ, List, [], ◌∷◌, ◌∙◌, subst, refl, ap}
use Rattle.std.proofs.lemmas.Bool.{and_from}
use Rattle.std.proofs.lemmas.List.Folds.{list_all-append}
use Rattle.std.specs.Prelude.{Bool, true, false, not, ◌&&◌, if◌then◌else◌, Result, Ok, Err}
use Rattle.std.specs.Str.{bytes_eq, str_to_ascii_lowercase}
use Rattle.std.specs.Prelude.{codes}
use Rattle.xt_names.specs.Allowed.{is_empty_text}
use Rattle.xt_names.specs.Classes.{is_in_ranges, is_ncname_text, is_xml_text, xml_char_ranges}
use Rattle.xt_names.specs.declared.codes.Code.{Code}
use Rattle.xt_names.specs.declared.codes.Code.TheVariants.{QueryDynamic}
use Rattle.xt_names.specs.declared.codes.QueryDynamicCode.TheVariants.{XQDY0041, XQDY0044, XQDY0064}
use Rattle.xt_names.specs.declared.names.Name.{Name}
use Rattle.xt_atoms.specs.AtomTexts.{lexical_qname}
use Rattle.xt_atoms.specs.declared.atoms.Atom.{Atom as AtomValue}
use Rattle.xt_atoms.specs.declared.atoms.Atom.TheVariants as atom
use Rattle.xt_tree.specs.Sound.{is_sound_name, is_named_xmlns, is_xml_in_any_case}
use Rattle.xt_tree.specs.declared.trees.Tree.{Tree}
use Rattle.xt_tree.specs.declared.trees.Tree.TheVariants as tree
use Rattle.xdm_items.specs.declared.items.Item.{Item}
use Rattle.xdm_items.specs.FunctionArguments.Arguments.{and_then as result_then}
use Rattle.operator_values.specs.Operands.{atom_of}
use Rattle.node_builder.specs.Made.{Made, Gives, Fails as Refuses}
use Rattle.node_builder.specs.Trees.{numbered, element_of, document_of, comment_of, pi_of}
use Rattle.node_builder.specs.declared.kinds.Duplicates.TheVariants.{Refuse}
use Rattle.expr_meaning.specs.Outcomes.Outcome.{Ends, and_then, step_outcome, for_each, OnEnds, Every}
use Rattle.expr_meaning.proofs.OutcomesLemmas.Relations.{every_append}
use Rattle.expr_meaning.specs.Env.{Env, Meaning, Program}
use Rattle.expr_meaning.specs.Names.{NameMeaning, fixed, computed, name_of_items, attribute_name}
use Rattle.expr_meaning.specs.Names.{target_of_items, target_of_text, target_of_atom}
use Rattle.expr_meaning.specs.Names.{element_name_at, attribute_name_at}
use Rattle.expr_meaning.specs.Names.{target_at}
use Rattle.expr_meaning.specs.Making.{made, made_outcome, spaced_text, element_made, document_made}
use Rattle.expr_meaning.specs.Making.{attribute_made, text_node, text_made, comment_made, pi_made}
use Rattle.expr_meaning.specs.Making.{PartMeaning, chars, enclosed, child, literal_node}
use Rattle.expr_meaning.specs.Making.{attribute_part, attribute_text}
use Rattle.expr_meaning.specs.Making.{AttributeMeaning, direct_attribute, content_part}
use Rattle.expr_meaning.specs.Making.{direct_made}
use Rattle.expr_laws.specs.Carrier.{Carrier, Meet, ProgramsAgree, IsMade, OnValue, IsName}
use Rattle.expr_laws.specs.Carrier.{IsAttributeName, IsTarget, IsText}
use Rattle.expr_laws.proofs.Steps.{same_step}

abbrev pub NameMeets : (c : Carrier) → c.Sight → NameMeaning → NameMeaning → Type 0
NameMeets c sight (fixed a) (fixed b) = (a ≡ b) × IsName c a
NameMeets c sight (fixed a) (computed n) = ⊥
NameMeets c sight (computed m) (fixed b) = ⊥
NameMeets c sight (computed m) (computed n) = Meet c sight m n

abbrev pub PartMeets : (c : Carrier) → c.Sight → PartMeaning → PartMeaning → Type 0
PartMeets c sight (chars a) (chars b) = (a ≡ b) × IsText c a
PartMeets c sight (enclosed m) (enclosed n) = Meet c sight m n
PartMeets c sight (child m) (child n) = Meet c sight m n
PartMeets c sight (chars a) (enclosed n) = ⊥
PartMeets c sight (chars a) (child n) = ⊥
PartMeets c sight (enclosed m) (chars b) = ⊥
PartMeets c sight (enclosed m) (child n) = ⊥
PartMeets c sight (child m) (chars b) = ⊥
PartMeets c sight (child m) (enclosed n) = ⊥

abbrev pub PartsMeet : (c : Carrier) → c.Sight → List PartMeaning → List PartMeaning → Type 0
PartsMeet c sight [] [] = Unit {0}
PartsMeet c sight [] (y ∷ ys) = ⊥
PartsMeet c sight (x ∷ xs) [] = ⊥
PartsMeet c sight (x ∷ xs) (y ∷ ys) = PartMeets c sight x y × PartsMeet c sight xs ys

-- attributes with the same name, whose parts are related
abbrev pub AttributeMeets : (c : Carrier) → c.Sight → AttributeMeaning → AttributeMeaning → Type 0
AttributeMeets c sight x y = (x.0 ≡ y.0) × IsAttributeName c x.0 × PartsMeet c sight x.1 y.1

abbrev pub AttributesMeet : (c : Carrier) → c.Sight → List AttributeMeaning → List AttributeMeaning → Type 0
AttributesMeet c sight [] [] = Unit {0}
AttributesMeet c sight [] (y ∷ ys) = ⊥
AttributesMeet c sight (x ∷ xs) [] = ⊥
AttributesMeet c sight (x ∷ xs) (y ∷ ys) = AttributeMeets c sight x y × AttributesMeet c sight xs ys

-- a target is one that XML allows, or it is refused
target_known : (text : List ℕ) → OnValue IsTarget (target_of_text text)
unfolding is_xml_in_any_case
target_known text = by (is_ncname_text text) refl
    (bytes_eq (str_to_ascii_lowercase text) (codes "xml")) refl
  where
    by : (b : Bool) → is_ncname_text text ≡ b → (d : Bool) →
        bytes_eq (str_to_ascii_lowercase text) (codes "xml") ≡ d → OnValue IsTarget
        (if b then (if d then Err (QueryDynamic XQDY0064) else Ok text)
        else Err (QueryDynamic XQDY0041))
    by true e true f = tt
    by true e false f = (e, f)
    by false e d f = tt

target_of_atom_known : (a : AtomValue) → OnValue IsTarget (target_of_atom a)
target_of_atom_known (atom.QName name) = target_known (lexical_qname name.prefix name.local)
target_of_atom_known (atom.Str text) = target_known text
target_of_atom_known (atom.Untyped text) = target_known text
target_of_atom_known (atom.Int n) = tt
target_of_atom_known (atom.Bool t) = tt

targets_known : (xs : List Item) → OnValue IsTarget (target_of_items xs)
targets_known [] = tt
targets_known (x ∷ []) = target_of_atom_known (atom_of x)
targets_known (x ∷ y ∷ xs) = tt

module _ (c : Carrier) where
  -- no attribute is named xmlns
  attribute_known : (name : Name) → IsName c name →
      OnValue (IsAttributeName c) (attribute_name name)
  unfolding is_named_xmlns
  attribute_known name g =
      by (is_empty_text name.uri && bytes_eq name.local (codes "xmlns")) refl
    where
      by : (b : Bool) → is_named_xmlns name ≡ b → OnValue (IsAttributeName c)
          (if b then Err (QueryDynamic XQDY0044) else Ok name)
      by true e = tt
      by false e = λ s. and_from (is_sound_name name) (not (is_named_xmlns name)) (g s) (ap not e)

  attributes_known : (v : Result Name Code) → OnValue (IsName c) v →
      OnValue (IsAttributeName c) (result_then v attribute_name)
  attributes_known (Ok name) g = attribute_known name g
  attributes_known (Err code) g = tt

  -- one text after another
  joined_known : (t u : List ℕ) → IsText c t → IsText c u → IsText c (t ++ u)
  unfolding is_xml_text
  joined_known t u g h s =
      list_all-append (is_in_ranges xml_char_ranges) t u
      ∙ and_from (is_xml_text t) (is_xml_text u) (g s) (h s)

  nothing_written : IsText c []
  unfolding is_xml_text
  nothing_written s = refl

module _ (c : Carrier) (sight : c.Sight) (makes : IsMade c) where
  same_made : (t : Made Tree) (k : ℕ) → OnEnds (Every c.good) (made t k) →
      c.rel (List Item) (Every c.good) (made t k) (made t k)
  same_made t k known = by (numbered k t) known
    where
      by : (t : Made Tree) → OnEnds (Every c.good) (made_outcome k t) →
          c.rel (List Item) (Every c.good) (made_outcome k t) (made_outcome k t)
      by (Gives t) g = c.carries.ends _ _ _ _ g
      by (Refuses code) g = c.carries.fails _ _ code

  -- content or a value, and then the tree
  abbrev IsKnown : (List Item → Made Tree) → Type 0
  IsKnown t = (xs : List Item) → Every c.good xs → (k : ℕ) → OnEnds (Every c.good) (made (t xs) k)

  content_meets : (t : List Item → Made Tree) → IsKnown t → (m n : Meaning) → Meet c sight m n →
      (e f : Env) → c.at sight e f → (k : ℕ) →
      c.rel (List Item) (Every c.good) (and_then (m e k) (λ xs. made (t xs)))
      (and_then (n f k) (λ xs. made (t xs)))
  content_meets t known m n h e f s k =
      c.carries.next _ _ (Every c.good) (Every c.good) (m e k) (n f k) _ _ (h e f s k)
      (λ xs j g. same_made (t xs) j (known xs g j))

  pub document_meets : (m n : Meaning) → Meet c sight m n → Meet c sight (document_made m) (document_made n)
  document_meets m n h e f s k =
      content_meets (λ xs. document_of Refuse xs) makes.document m n h e f s k

  pub comment_meets : (m n : Meaning) → Meet c sight m n → Meet c sight (comment_made m) (comment_made n)
  comment_meets m n h e f s k =
      content_meets (λ xs. comment_of (spaced_text xs))
      (λ xs g j. makes.comment (spaced_text xs) (makes.spaced xs g) j) m n h e f s k

  text_node_meets : (xs : List Item) → Every c.good xs → (k : ℕ) →
      c.rel (List Item) (Every c.good) (text_node xs k) (text_node xs k)
  text_node_meets [] g k = c.carries.ends _ _ _ _ tt
  text_node_meets (x ∷ xs) g k =
      same_made (Gives (tree.Text (spaced_text (x ∷ xs)))) k
      (makes.text (spaced_text (x ∷ xs)) (makes.spaced (x ∷ xs) g) k)

  pub text_meets : (m n : Meaning) → Meet c sight m n → Meet c sight (text_made m) (text_made n)
  text_meets m n h e f s k =
      c.carries.next _ _ (Every c.good) (Every c.good) (m e k) (n f k) _ _ (h e f s k)
      (λ xs j g. text_node_meets xs g j)

  target_meets : (a b : NameMeaning) → NameMeets c sight a b → (e f : Env) → c.at sight e f → (k : ℕ) →
      c.rel (List ℕ) IsTarget (target_at a e k) (target_at b f k)
  target_meets (fixed a) (fixed b) h e f s k =
      subst (λ x. c.rel (List ℕ) IsTarget (target_at (fixed a) e k) (target_at (fixed x) f k)) h.0
      (same_step c IsTarget (target_of_text a.local) (target_known a.local) k)
  target_meets (fixed a) (computed n) h e f s k = absurd h
  target_meets (computed m) (fixed b) h e f s k = absurd h
  target_meets (computed m) (computed n) h e f s k =
      c.carries.next _ _ (Every c.good) IsTarget (m e k) (n f k) _ _ (h e f s k)
      (λ xs j g. same_step c IsTarget (target_of_items xs) (targets_known xs) j)

  pub pi_meets : (a b : NameMeaning) → NameMeets c sight a b → (m n : Meaning) → Meet c sight m n →
      Meet c sight (pi_made a m) (pi_made b n)
  pi_meets a b h m n i e f s k =
      c.carries.next _ _ IsTarget (Every c.good) (target_at a e k) (target_at b f k) _ _
      (target_meets a b h e f s k)
      (λ t j u. content_meets (λ xs. pi_of t (spaced_text xs))
      (λ xs g l. makes.pi t (spaced_text xs) u (makes.spaced xs g) l) m n i e f s j)

  -- parts of attributes and of content
  value_part_meets : (x y : PartMeaning) → PartMeets c sight x y → (e f : Env) → c.at sight e f → (k : ℕ) →
      c.rel (List ℕ) (IsText c) (attribute_part e x k) (attribute_part f y k)
  value_part_meets (chars a) (chars b) h e f s k =
      subst (λ t. c.rel (List ℕ) (IsText c) (Ends a k) (Ends t k)) h.0
      (c.carries.ends _ (IsText c) a k h.1)
  value_part_meets (enclosed m) (enclosed n) h e f s k =
      c.carries.next _ _ (Every c.good) (IsText c) (m e k) (n f k) _ _ (h e f s k)
      (λ xs j g. c.carries.ends _ (IsText c) (spaced_text xs) j (makes.spaced xs g))
  value_part_meets (child m) (child n) h e f s k =
      c.carries.ends _ (IsText c) [] k (nothing_written c)
  value_part_meets (chars a) (enclosed n) h e f s k = absurd h
  value_part_meets (chars a) (child n) h e f s k = absurd h
  value_part_meets (enclosed m) (chars b) h e f s k = absurd h
  value_part_meets (enclosed m) (child n) h e f s k = absurd h
  value_part_meets (child m) (chars b) h e f s k = absurd h
  value_part_meets (child m) (enclosed n) h e f s k = absurd h

  value_parts_meet : (xs ys : List PartMeaning) → PartsMeet c sight xs ys → (e f : Env) → c.at sight e f →
      (k : ℕ) → c.rel (List ℕ) (IsText c) (attribute_text xs e k) (attribute_text ys f k)
  value_parts_meet [] [] h e f s k = c.carries.ends _ (IsText c) [] k (nothing_written c)
  value_parts_meet [] (y ∷ ys) h e f s k = absurd h
  value_parts_meet (x ∷ xs) [] h e f s k = absurd h
  value_parts_meet (x ∷ xs) (y ∷ ys) h e f s k =
      c.carries.next _ _ (IsText c) (IsText c) (attribute_part e x k) (attribute_part f y k) _ _
      (value_part_meets x y h.0 e f s k) (λ t j u.
      c.carries.next _ _ (IsText c) (IsText c) (attribute_text xs e j) (attribute_text ys f j) _ _
      (value_parts_meet xs ys h.1 e f s j)
      (λ v i w. c.carries.ends _ (IsText c) (t ++ v) i (joined_known c t v u w)))

  content_part_meets : (x y : PartMeaning) → PartMeets c sight x y → (e f : Env) → c.at sight e f → (k : ℕ) →
      c.rel (List Item) (Every c.good) (content_part e x k) (content_part f y k)
  content_part_meets (chars a) (chars b) h e f s k =
      subst (λ t. c.rel (List Item) (Every c.good) (Ends (literal_node (tree.Text a) ∷ []) k)
      (Ends (literal_node (tree.Text t) ∷ []) k)) h.0
      (c.carries.ends _ _ _ _ (makes.literal_text a h.1, tt))
  content_part_meets (enclosed m) (enclosed n) h e f s k =
      c.carries.next _ _ (Every c.good) (Every c.good) (m e k) (n f k) _ _ (h e f s k)
      (λ xs j g. c.carries.ends _ _ _ _ (makes.joined xs g))
  content_part_meets (child m) (child n) h e f s k = h e f s k
  content_part_meets (chars a) (enclosed n) h e f s k = absurd h
  content_part_meets (chars a) (child n) h e f s k = absurd h
  content_part_meets (enclosed m) (chars b) h e f s k = absurd h
  content_part_meets (enclosed m) (child n) h e f s k = absurd h
  content_part_meets (child m) (chars b) h e f s k = absurd h
  content_part_meets (child m) (enclosed n) h e f s k = absurd h

  content_parts_meet : (xs ys : List PartMeaning) → PartsMeet c sight xs ys → (e f : Env) → c.at sight e f →
      (k : ℕ) → c.rel (List Item) (Every c.good) (for_each (content_part e) xs k)
      (for_each (content_part f) ys k)
  content_parts_meet [] [] h e f s k = c.carries.ends _ _ _ _ tt
  content_parts_meet [] (y ∷ ys) h e f s k = absurd h
  content_parts_meet (x ∷ xs) [] h e f s k = absurd h
  content_parts_meet (x ∷ xs) (y ∷ ys) h e f s k =
      c.carries.next _ _ (Every c.good) (Every c.good) (content_part e x k) (content_part f y k)
      _ _ (content_part_meets x y h.0 e f s k) (λ us j g.
      c.carries.next _ _ (Every c.good) (Every c.good) (for_each (content_part e) xs j)
      (for_each (content_part f) ys j) _ _ (content_parts_meet xs ys h.1 e f s j)
      (λ vs i d. c.carries.ends _ _ _ _ (every_append c.good us vs g d)))

  attributes_meet : (xs ys : List AttributeMeaning) → AttributesMeet c sight xs ys → (e f : Env) →
      c.at sight e f → (k : ℕ) → c.rel (List Item) (Every c.good) (for_each (direct_attribute e) xs k)
      (for_each (direct_attribute f) ys k)
  attributes_meet [] [] h e f s k = c.carries.ends _ _ _ _ tt
  attributes_meet [] (y ∷ ys) h e f s k = absurd h
  attributes_meet (x ∷ xs) [] h e f s k = absurd h
  attributes_meet (x ∷ xs) (y ∷ ys) h e f s k =
      c.carries.next _ _ (Every c.good) (Every c.good) (direct_attribute e x k)
      (direct_attribute f y k) _ _
      (c.carries.next _ _ (IsText c) (Every c.good) (attribute_text x.1 e k)
      (attribute_text y.1 f k) _ _ (value_parts_meet x.1 y.1 h.0.2 e f s k) (λ t j u.
      subst (λ n. c.rel (List Item) (Every c.good)
      (Ends (literal_node (tree.Attr x.0 t) ∷ []) j) (Ends (literal_node (tree.Attr n t) ∷ []) j))
      h.0.0 (c.carries.ends _ _ _ _ (makes.literal_attribute x.0 t h.0.1 u, tt)))) (λ us j g.
      c.carries.next _ _ (Every c.good) (Every c.good) (for_each (direct_attribute e) xs j)
      (for_each (direct_attribute f) ys j) _ _ (attributes_meet xs ys h.1 e f s j)
      (λ vs i d. c.carries.ends _ _ _ _ (every_append c.good us vs g d)))

  pub direct_meets : (name : Name) → IsName c name → (xs ys : List AttributeMeaning) → AttributesMeet c sight xs ys →
      (us vs : List PartMeaning) → PartsMeet c sight us vs →
      Meet c sight (direct_made name xs us) (direct_made name ys vs)
  direct_meets name known xs ys h us vs i e f s k =
      c.carries.next _ _ (Every c.good) (Every c.good) (for_each (direct_attribute e) xs k)
      (for_each (direct_attribute f) ys k) _ _ (attributes_meet xs ys h e f s k) (λ ws j g.
      c.carries.next _ _ (Every c.good) (Every c.good) (for_each (content_part e) us j)
      (for_each (content_part f) vs j) _ _ (content_parts_meet us vs i e f s j)
      (λ zs l d. same_made (element_of Refuse name (ws ++ zs)) l
      (makes.element name (ws ++ zs) known (every_append c.good ws zs g d) l)))

  module _ (p q : Program) (meet : ProgramsAgree c p q) where
    element_name_meets : (a b : NameMeaning) → NameMeets c sight a b → (e f : Env) → c.at sight e f →
        (k : ℕ) → c.rel Name (IsName c) (element_name_at p a e k) (element_name_at q b f k)
    element_name_meets (fixed a) (fixed b) h e f s k =
        subst (λ n. c.rel Name (IsName c) (Ends a k) (Ends n k)) h.0
        (c.carries.ends _ (IsName c) a k h.1)
    element_name_meets (fixed a) (computed n) h e f s k = absurd h
    element_name_meets (computed m) (fixed b) h e f s k = absurd h
    element_name_meets (computed m) (computed n) h e f s k =
        rw (← meet.namespaces, ← meet.element_default)
        (c.carries.next _ _ (Every c.good) (IsName c) (m e k) (n f k) _ _ (h e f s k)
        (λ xs j g. same_step c (IsName c) (name_of_items p.namespaces p.element_default xs)
        (meet.element_names xs g) j))

    attribute_name_meets : (a b : NameMeaning) → NameMeets c sight a b → (e f : Env) → c.at sight e f →
        (k : ℕ) → c.rel Name (IsAttributeName c) (attribute_name_at p a e k)
        (attribute_name_at q b f k)
    attribute_name_meets (fixed a) (fixed b) h e f s k =
        subst (λ n. c.rel Name (IsAttributeName c) (step_outcome (attribute_name a) k)
        (step_outcome (attribute_name n) k)) h.0
        (same_step c (IsAttributeName c) (attribute_name a) (attribute_known c a h.1) k)
    attribute_name_meets (fixed a) (computed n) h e f s k = absurd h
    attribute_name_meets (computed m) (fixed b) h e f s k = absurd h
    attribute_name_meets (computed m) (computed n) h e f s k =
        rw (← meet.namespaces)
        (c.carries.next _ _ (Every c.good) (IsAttributeName c) (m e k) (n f k) _ _ (h e f s k)
        (λ xs j g. same_step c (IsAttributeName c)
        (result_then (name_of_items p.namespaces [] xs) attribute_name)
        (attributes_known c (name_of_items p.namespaces [] xs) (meet.attribute_names xs g)) j))

    pub element_meets : (a b : NameMeaning) → NameMeets c sight a b → (m n : Meaning) → Meet c sight m n →
        Meet c sight (element_made p a m) (element_made q b n)
    element_meets a b h m n i e f s k =
        c.carries.next _ _ (IsName c) (Every c.good) (element_name_at p a e k)
        (element_name_at q b f k) _ _ (element_name_meets a b h e f s k)
        (λ name j u. content_meets (λ xs. element_of Refuse name xs)
        (λ xs g l. makes.element name xs u g l) m n i e f s j)

    pub attribute_meets : (a b : NameMeaning) → NameMeets c sight a b → (m n : Meaning) → Meet c sight m n →
        Meet c sight (attribute_made p a m) (attribute_made q b n)
    attribute_meets a b h m n i e f s k =
        c.carries.next _ _ (IsAttributeName c) (Every c.good) (attribute_name_at p a e k)
        (attribute_name_at q b f k) _ _ (attribute_name_meets a b h e f s k)
        (λ name j u. content_meets (λ xs. Gives (tree.Attr name (spaced_text xs)))
        (λ xs g l. makes.attribute name (spaced_text xs) u (makes.spaced xs g) l) m n i e f s j)
