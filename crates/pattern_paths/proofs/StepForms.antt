-- What the tests of a step upwards tell of a node.
use Rattle.std.proofs.Common.{◌≡◌, ℕ, List, [], ◌∷◌, refl, ap, sym, ◌∙◌, Bool, true, false}
use Rattle.std.specs.Prelude.{◌&&◌, Option, Some, option_map}
use Rattle.std.specs.Str.{bytes_eq}
use Rattle.std.proofs.lemmas.Map.Text.{is_eq-slice_cmp}
use Rattle.std.proofs.lemmas.Slice.Eq.{bytes_eq-Decides}
use Rattle.xt_names.specs.declared.kinds.CompareOp.TheVariants.{Eq}
use Rattle.xt_names.specs.declared.names.Name.{Name}
use Rattle.xt_types.specs.declared.axes.Axis.{Axis}
use Rattle.xt_types.specs.declared.axes.Axis.TheVariants as axis
use Rattle.xt_types.specs.declared.node_tests.NameTest.{NameTest}
use Rattle.xt_types.specs.declared.node_tests.NameTest.TheVariants.{Any, Uri, Local, Exact}
use Rattle.xt_types.specs.declared.node_tests.Test.{Test}
use Rattle.xt_types.specs.declared.node_tests.Test.TheVariants as test
use Rattle.xt_tree.specs.declared.trees.Tree.{Tree}
use Rattle.xt_tree.specs.declared.trees.Tree.TheVariants.{Doc, Elem, Text, Comment, Pi, Attr}
use Rattle.xt_tree.specs.Kinds.{kind_of}
use Rattle.xt_tree.specs.Place.{Place, subtree_of}
use Rattle.xt_atoms.specs.declared.atoms.Atom.TheVariants as atom
use Rattle.xt_atoms.specs.Comparisons.{general_comparison, value_comparison, holds, text_order}
use Rattle.text_functions.specs.NameFunctions.NodeNames.{place_name, uri_text}
use Rattle.node_tests.specs.Tests.{passes_at, passes_test, tree_passes, passes_name}
use Rattle.node_tests.specs.Tests.{passes_element}
use Rattle.node_tests.specs.Tests.{passes_attribute, passes_principal, passes_pi, is_text}
use Rattle.node_tests.specs.Tests.{is_comment}
use Rattle.node_tests.specs.Tests.{is_document}
use Rattle.quiet_meaning.specs.Values.{compares, is_true, name_text, name_below, written_name}
use Rattle.quiet_meaning.specs.Quietly.{Quietly, condition, holds_at}
use Rattle.walk_laws.proofs.QuietValues.Names.{tree_there}
use Rattle.walk_laws.proofs.Members.{AllSame, hold_here}
use Rattle.match_patterns.specs.Patterns.{is_child_kind, is_attribute_kind, kind_at, stands_for}
use Rattle.pattern_paths.specs.Upwards.{attribute_of, attribute_test, kind_test}
use Rattle.pattern_paths.proofs.AxisAny.{agree}
use Rattle.pattern_paths.proofs.NodeKinds.{IsSoundPlace, attribute_stands, is_attribute_tree}
use Rattle.std.proofs.Math.Bool.{and-true}

-- the forms that the tests have

abbrev pub uri_at : Place → List ℕ
uri_at n = uri_text (place_name n)

abbrev pub says : (Place → List ℕ) → List ℕ → Quietly
says text wanted = condition (λ f. compares Eq (atom.Str (text f.node)) (atom.Str wanted))

abbrev pub child_form : Quietly
child_form = condition (λ f. is_child_kind (kind_at f.node))

abbrev pub never_form : Quietly
never_form = condition (λ f. false)

abbrev pub child_forms : Test → List Quietly
child_forms test.Node = child_form ∷ []
child_forms test.Doc = child_form ∷ []
child_forms (test.Attr names) = child_form ∷ []
child_forms (test.Named names) = []
child_forms (test.Elem names) = []
child_forms test.Text = []
child_forms test.Comment = []
child_forms (test.Pi target) = []

abbrev pub name_forms : NameTest → List Quietly
name_forms Any = []
name_forms (Uri uri) = says uri_at uri ∷ []
name_forms (Local local) = says (name_text false) local ∷ []
name_forms (Exact name) = []

abbrev pub attribute_forms : Test → List Quietly
attribute_forms (test.Named names) = name_forms names
attribute_forms (test.Attr names) = name_forms names
attribute_forms test.Node = []
attribute_forms test.Text = never_form ∷ []
attribute_forms test.Comment = never_form ∷ []
attribute_forms (test.Pi target) = never_form ∷ []
attribute_forms test.Doc = never_form ∷ []
attribute_forms (test.Elem names) = never_form ∷ []

unfoldable pub kind_forms : Axis → Test → List Quietly
kind_forms axis.Attribute wanted = attribute_forms wanted
kind_forms axis.Child wanted = child_forms wanted
kind_forms along wanted = never_form ∷ []

-- none looks at its place

child_same : (wanted : Test) → AllSame (child_forms wanted)
unfolding holds_at
child_same test.Node = (λ n at few again many. refl, tt)
child_same test.Doc = (λ n at few again many. refl, tt)
child_same (test.Attr names) = (λ n at few again many. refl, tt)
child_same (test.Named names) = tt
child_same (test.Elem names) = tt
child_same test.Text = tt
child_same test.Comment = tt
child_same (test.Pi target) = tt

name_same : (names : NameTest) → AllSame (name_forms names)
unfolding holds_at
name_same Any = tt
name_same (Uri uri) = (λ n at few again many. refl, tt)
name_same (Local local) = (λ n at few again many. refl, tt)
name_same (Exact name) = tt

never_same : AllSame (never_form ∷ [])
unfolding holds_at
never_same = (λ n at few again many. refl, tt)

attribute_same : (wanted : Test) → AllSame (attribute_forms wanted)
attribute_same (test.Named names) = name_same names
attribute_same (test.Attr names) = name_same names
attribute_same test.Node = tt
attribute_same test.Text = never_same
attribute_same test.Comment = never_same
attribute_same (test.Pi target) = never_same
attribute_same test.Doc = never_same
attribute_same (test.Elem names) = never_same

pub kind_same : (along : Axis) (wanted : Test) → AllSame (kind_forms along wanted)
unfolding kind_forms
kind_same axis.Attribute wanted = attribute_same wanted
kind_same axis.Child wanted = child_same wanted
kind_same along wanted = never_same

-- on an axis upwards names are those of elements

abbrev pub IsUpward : Axis → Type 0
IsUpward along = (names : NameTest) (t : Tree) → passes_principal along names t
    ≡ passes_element names t

pub itself_upward : IsUpward axis.Itself
unfolding passes_principal
itself_upward names t = refl

pub parent_upward : IsUpward axis.Parent
unfolding passes_principal
parent_upward names t = refl

pub ancestor_upward : IsUpward axis.Ancestor
unfolding passes_principal
ancestor_upward names t = refl

-- children

child_element : (names : NameTest) (t : Tree) →
    (passes_element names t && true) ≡ (is_child_kind (Some (kind_of t)) && passes_element names t)
unfolding passes_element is_child_kind
child_element names (Doc kids) = refl
child_element names (Elem name attributes kids) = and-true (passes_name names name)
child_element names (Text t) = refl
child_element names (Comment t) = refl
child_element names (Pi target t) = refl
child_element names (Attr name t) = refl

child_text : (t : Tree) → (is_text t && true) ≡ (is_child_kind (Some (kind_of t)) && is_text t)
unfolding is_text is_child_kind
child_text (Doc kids) = refl
child_text (Elem name attributes kids) = refl
child_text (Text t) = refl
child_text (Comment t) = refl
child_text (Pi target t) = refl
child_text (Attr name t) = refl

child_comment : (t : Tree) → (is_comment t && true)
    ≡ (is_child_kind (Some (kind_of t)) && is_comment t)
unfolding is_comment is_child_kind
child_comment (Doc kids) = refl
child_comment (Elem name attributes kids) = refl
child_comment (Text t) = refl
child_comment (Comment t) = refl
child_comment (Pi target t) = refl
child_comment (Attr name t) = refl

child_pi : (wanted : Option (List ℕ)) (t : Tree) →
    (passes_pi wanted t && true) ≡ (is_child_kind (Some (kind_of t)) && passes_pi wanted t)
unfolding passes_pi is_child_kind
child_pi wanted (Doc kids) = refl
child_pi wanted (Elem name attributes kids) = refl
child_pi wanted (Text t) = refl
child_pi wanted (Comment t) = refl
child_pi wanted (Pi target t) = and-true (passes_pi wanted (Pi target t))
child_pi wanted (Attr name t) = refl

turned : (a b : Bool) → (a && (b && true)) ≡ (b && a)
turned true true = refl
turned true false = refl
turned false true = refl
turned false false = refl

below_kind : (n : Place) (t : Tree) → subtree_of n ≡ Some t → kind_at n ≡ Some (kind_of t)
below_kind n t e = ap (λ o. option_map kind_of o) e

child_told : (n : Place) (t : Tree) → subtree_of n ≡ Some t → (a : Bool) →
    (a && hold_here (child_form ∷ []) n) ≡ (is_child_kind (Some (kind_of t)) && a)
unfolding holds_at
child_told n t e a =
    ap (λ k. a && (is_child_kind k && true)) (below_kind n t e)
    ∙ turned a (is_child_kind (Some (kind_of t)))

child_is : (up : Axis) → IsUpward up → (wanted : Test) (n : Place) (t : Tree) → subtree_of n
    ≡ Some t →
    (passes_test up wanted t && hold_here (child_forms wanted) n)
    ≡ (is_child_kind (Some (kind_of t)) && passes_test axis.Child wanted t)
unfolding passes_test passes_principal
child_is up h (test.Named names) n t e = ap (λ (b : Bool). b && true) (h names t)
    ∙ child_element names t
child_is up h test.Node n t e = child_told n t e true
child_is up h test.Text n t e = child_text t
child_is up h test.Comment n t e = child_comment t
child_is up h (test.Pi target) n t e = child_pi target t
child_is up h test.Doc n t e = child_told n t e (is_document t)
child_is up h (test.Elem names) n t e = child_element names t
child_is up h (test.Attr names) n t e = child_told n t e (passes_attribute names t)

-- attributes

abbrev left_names : NameTest → NameTest
left_names Any = Any
left_names (Uri uri) = Any
left_names (Local local) = Any
left_names (Exact name) = Exact name

attribute_passes : (up : Axis) (names : NameTest) (t : Tree) →
    passes_test up (attribute_of names) t ≡ passes_attribute (left_names names) t
unfolding passes_test
attribute_passes up Any t = refl
attribute_passes up (Uri uri) t = refl
attribute_passes up (Local local) t = refl
attribute_passes up (Exact name) t = refl

eq_turned : (a b : List ℕ) → bytes_eq a b ≡ bytes_eq b a
eq_turned a b =
    agree (bytes_eq a b) (bytes_eq b a)
    (λ h. (bytes_eq-Decides b a).1 (sym ((bytes_eq-Decides a b).0 h)))
    (λ h. (bytes_eq-Decides a b).1 (sym ((bytes_eq-Decides b a).0 h)))

texts_same : (a b : List ℕ) → compares Eq (atom.Str a) (atom.Str b) ≡ bytes_eq b a
unfolding compares is_true general_comparison value_comparison holds text_order
texts_same a b = is_eq-slice_cmp a b ∙ eq_turned a b

uri_told : (n : Place) (name : Name) (s : List ℕ) → subtree_of n ≡ Some (Attr name s) →
    (uri : List ℕ) → hold_here (says uri_at uri ∷ []) n ≡ bytes_eq uri name.uri
unfolding holds_at place_name
uri_told n name s e uri =
    rw e (and-true (compares Eq (atom.Str name.uri) (atom.Str uri)) ∙ texts_same name.uri uri)

local_told : (n : Place) (name : Name) (s : List ℕ) → subtree_of n ≡ Some (Attr name s) →
    (local : List ℕ) → hold_here (says (name_text false) local ∷ []) n ≡ bytes_eq local name.local
unfolding holds_at name_text name_below written_name
local_told n name s e local =
    rw e (and-true (compares Eq (atom.Str name.local) (atom.Str local))
    ∙ texts_same name.local local)

attribute_named : (names : NameTest) (n : Place) (name : Name) (s : List ℕ) →
    subtree_of n ≡ Some (Attr name s) →
    (passes_name (left_names names) name && hold_here (name_forms names) n)
    ≡ passes_name names name
unfolding passes_name
attribute_named Any n name s e = refl
attribute_named (Uri uri) n name s e = uri_told n name s e uri
attribute_named (Local local) n name s e = local_told n name s e local
attribute_named (Exact wanted) n name s e = and-true (passes_name (Exact wanted) name)

names_told : (names : NameTest) (n : Place) (t : Tree) → subtree_of n ≡ Some t →
    (passes_attribute (left_names names) t && hold_here (name_forms names) n)
    ≡ (is_attribute_tree t && passes_attribute names t)
unfolding passes_attribute is_attribute_kind
names_told names n (Doc kids) e = refl
names_told names n (Elem name attributes kids) e = refl
names_told names n (Text t) e = refl
names_told names n (Comment t) e = refl
names_told names n (Pi target t) e = refl
names_told names n (Attr name t) e = attribute_named names n name t e

attribute_any : (t : Tree) → (passes_attribute Any t && true) ≡ (is_attribute_tree t && true)
unfolding passes_attribute passes_name is_attribute_kind
attribute_any (Doc kids) = refl
attribute_any (Elem name attributes kids) = refl
attribute_any (Text t) = refl
attribute_any (Comment t) = refl
attribute_any (Pi target t) = refl
attribute_any (Attr name t) = refl

never_told : (n : Place) (a b c : Bool) → (b && c) ≡ false → (a && hold_here (never_form ∷ []) n)
    ≡ (b && c)
unfolding holds_at
never_told n true b c h = sym h
never_told n false b c h = sym h

no_attribute : (t : Tree) → (wanted : Test) → passes_test axis.Attribute wanted t ≡ false →
    (is_attribute_tree t && passes_test axis.Attribute wanted t) ≡ false
no_attribute t wanted h = ap (λ b. is_attribute_tree t && b) h ∙ by (is_attribute_tree t)
  where
    by : (b : Bool) → (b && false) ≡ false
    by true = refl
    by false = refl

-- an attribute is no node of another kind
attribute_apart : (b : Tree → Bool) → ((name : Name) (s : List ℕ) → b (Attr name s) ≡ false) →
    (t : Tree) → (is_attribute_tree t && b t) ≡ false
unfolding is_attribute_kind
attribute_apart b h (Doc kids) = refl
attribute_apart b h (Elem name attributes kids) = refl
attribute_apart b h (Text t) = refl
attribute_apart b h (Comment t) = refl
attribute_apart b h (Pi target t) = refl
attribute_apart b h (Attr name t) = h name t

attribute_is : (up : Axis) (wanted : Test) (n : Place) (t : Tree) → subtree_of n ≡ Some t →
    (passes_test up (attribute_test wanted) t && hold_here (attribute_forms wanted) n)
    ≡ (is_attribute_tree t && passes_test axis.Attribute wanted t)
unfolding passes_test passes_principal is_text is_comment passes_pi is_document passes_element
attribute_is up (test.Named names) n t e =
    ap (λ b. b && hold_here (name_forms names) n) (attribute_passes up names t)
    ∙ names_told names n t e
attribute_is up (test.Attr names) n t e =
    ap (λ b. b && hold_here (name_forms names) n) (attribute_passes up names t)
    ∙ names_told names n t e
attribute_is up test.Node n t e = attribute_any t
attribute_is up test.Text n t e =
    never_told n (passes_attribute Any t) (is_attribute_tree t) (is_text t)
    (attribute_apart is_text (λ name s. refl) t)
attribute_is up test.Comment n t e =
    never_told n (passes_attribute Any t) (is_attribute_tree t) (is_comment t)
    (attribute_apart is_comment (λ name s. refl) t)
attribute_is up (test.Pi target) n t e =
    never_told n (passes_attribute Any t) (is_attribute_tree t) (passes_pi target t)
    (attribute_apart (passes_pi target) (λ name s. refl) t)
attribute_is up test.Doc n t e =
    never_told n (passes_attribute Any t) (is_attribute_tree t) (is_document t)
    (attribute_apart is_document (λ name s. refl) t)
attribute_is up (test.Elem names) n t e =
    never_told n (passes_attribute Any t) (is_attribute_tree t) (passes_element names t)
    (attribute_apart (passes_element names) (λ name s. refl) t)

-- the kind of the node and the test of the pattern's step

tree_given : (along : Axis) (wanted : Test) (n : Place) (t : Tree) → subtree_of n ≡ Some t →
    passes_at along wanted n ≡ passes_test along wanted t
unfolding tree_passes
tree_given along wanted n t e = ap (tree_passes along wanted) e

never_passes : (n : Place) (a b : Bool) → (a && hold_here (never_form ∷ []) n) ≡ (false && b)
never_passes n a b = never_told n a false b refl

kind_parts : (up : Axis) → IsUpward up → (along : Axis) (wanted : Test) (n : Place) (t : Tree) →
    IsSoundPlace n → subtree_of n ≡ Some t →
    (passes_test up (kind_test along wanted) t && hold_here (kind_forms along wanted) n)
    ≡ (stands_for along n && passes_test along wanted t)
unfolding kind_test kind_forms stands_for
kind_parts up h axis.Child wanted n t s e =
    child_is up h wanted n t e
    ∙ ap (λ k. is_child_kind k && passes_test axis.Child wanted t) (sym (below_kind n t e))
kind_parts up h axis.Attribute wanted n t s e =
    attribute_is up wanted n t e
    ∙ ap (λ b. b && passes_test axis.Attribute wanted t) (sym (attribute_stands n t s e))
kind_parts up h along wanted n t s e =
    never_passes n (passes_test up wanted t) (passes_test along wanted t)

pub kind_is : (up : Axis) → IsUpward up → (along : Axis) (wanted : Test) (n : Place) →
    IsSoundPlace n →
    (passes_at up (kind_test along wanted) n && hold_here (kind_forms along wanted) n)
    ≡ (stands_for along n && passes_at along wanted n)
kind_is up h along wanted n s =
    let t = tree_there n s.exists in
    ap (λ b. b && hold_here (kind_forms along wanted) n) (tree_given up (kind_test along wanted) n
    t.0 t.1)
    ∙ kind_parts up h along wanted n t.0 s t.1
    ∙ ap (λ b. stands_for along n && b) (sym (tree_given along wanted n t.0 t.1))
