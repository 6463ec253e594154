-- What is asked of a relation between outcomes, beside what expressions ask of it (expr_laws), and of
-- the ways out of instructions, so that each form of instructions is carried where its parts are.
use Rattle.std.specs.Prelude.{◌≡◌, ℕ, List, [], Bool, true, Option, Some, None, option_map, slice_get}
use Rattle.std.specs.List.{list_all}
use Rattle.xt_names.specs.declared.names.Binding.{Binding as Namespace}
use Rattle.xt_names.specs.declared.names.ExprName.{ExprName}
use Rattle.xt_names.specs.declared.names.Name.{Name}
use Rattle.xt_tree.specs.Forest.{Forest}
use Rattle.xt_tree.specs.Place.{Place, subtree_of}
use Rattle.xt_tree.specs.declared.attributes.Attribute.{Attribute}
use Rattle.xt_tree.specs.declared.trees.Tree.{Tree}
use Rattle.xt_tree.specs.declared.trees.Tree.TheVariants as tree
use Rattle.xt_types.specs.declared.types.SeqType.{SeqType}
use Rattle.xdm_items.specs.declared.items.Item.{Item}
use Rattle.xdm_items.specs.declared.items.Item.TheVariants.{Node, Atom}
use Rattle.operator_values.specs.Operands.{atom_of}
use Rattle.node_builder.specs.Answers.{root_place as new_root}
use Rattle.node_builder.specs.Made.{Gives}
use Rattle.node_builder.specs.Simple.{simple_content}
use Rattle.node_builder.specs.Trees.{element_of, document_of}
use Rattle.node_builder.specs.declared.kinds.Duplicates.TheVariants.{KeepLast}
use Rattle.closed_queries.specs.Texts.{is_free_uri}
use Rattle.closed_sheets.specs.Sheets.{has_good_parts}
use Rattle.closed_sheets.specs.Values.{is_good_binding}
use Rattle.expr_meaning.specs.Outcomes.Outcome.{Outcome, OnEnds, Every}
use Rattle.expr_meaning.specs.SortMeaning.Sorted.{Placed}
use Rattle.expr_meaning.specs.Calls.{key_item, document_value}
use Rattle.expr_meaning.specs.Env.{Binding, Calls, Env, Group, Meaning, variable_value}
use Rattle.expr_meaning.specs.Making.{made}
use Rattle.expr_meaning.specs.Names.{name_of_items}
use Rattle.expr_meaning.specs.Queries.{body_env, converted_to}
use Rattle.expr_laws.specs.Carrier.{AreAlike, AreGood, Carrier, IsAttributeName, IsName, IsText}
use Rattle.expr_laws.specs.Carrier.{Meet, OnValue, ProgramsAgree}
use Rattle.transform_meaning.specs.Dispatch.{Doors, child_items}
use Rattle.transform_meaning.specs.Keys.{all_nodes, given_trees}
use Rattle.transform_meaning.specs.Names.{attribute_name, element_name}
use Rattle.transform_meaning.specs.Places.{at_item, in_turn, in_group, entry}
use Rattle.transform_meaning.specs.Sheets.{given_for, untyped}
use Rattle.transform_meaning.specs.Templates.{Run, if_left, program_of}

-- Two places in a run at which instructions are looked at. Both sides are one stylesheet, so they
-- have the same focus, as after one that the expressions made themselves.
abbrev pub AtPlaces : Carrier → Env → Env → Type 0
AtPlaces c e f = c.at c.inner e f

-- two meanings are related wherever instructions are looked at
abbrev pub MeaningsMeet : Carrier → Meaning → Meaning → Type 0
MeaningsMeet c m n = Meet c c.inner m n

-- a group whose members and key have the property
abbrev pub IsGoodGroup : (Item → Type 0) → Group → Type 0
IsGoodGroup good g = Every good g.members × Every good (key_item g.key)

abbrev pub IsGoodFocus : (Item → Type 0) → Option (Placed Item) → Type 0
IsGoodFocus good focus = (p : Placed Item) → focus ≡ Some p → good p.value

-- places at which expressions are looked at, and that stay so wherever instructions go
pub record AreSheetPlaces (c : Carrier) : Type 0 where
  pub alike : AreAlike c
  pub item : (e f : Env) → AtPlaces c e f → (p : Placed Item) → c.good p.value →
      AtPlaces c (at_item e p) (at_item f p)
  pub turn : (e f : Env) → AtPlaces c e f → (p : Placed Item) → c.good p.value →
      AtPlaces c (in_turn e p) (in_turn f p)
  pub group : (e f : Env) → AtPlaces c e f → (g : Placed Group) → IsGoodGroup c.good g.value →
      AtPlaces c (in_group e g) (in_group f g)
  pub entry : (focus : Option (Placed Item)) → IsGoodFocus c.good focus → (rule : Option ℕ)
      (mode : ℕ) (tunnel : List Binding) → AreGood c.good tunnel →
      AtPlaces c (entry focus rule mode tunnel) (entry focus rule mode tunnel)
  pub body : (bound : List Binding) → AreGood c.good bound →
      AtPlaces c (body_env bound) (body_env bound)
  pub tunnel : (e f : Env) → AtPlaces c e f → AreGood c.good e.state.tunnel

-- the ways out of an instruction lead on to what is related
pub record DoorsMeet (c : Carrier) (d b : Doors) : Type 0 where
  pub programs : ProgramsAgree c d.program b.program
  pub enter : (passed : List Binding) → AreGood c.good passed →
      MeaningsMeet c (d.enter passed) (b.enter passed)
  pub named : (place : ℕ) (passed : List Binding) → AreGood c.good passed →
      MeaningsMeet c (d.named place passed) (b.named place passed)

-- namespaces in scope, where the relation is strict
abbrev pub IsScope : Carrier → List Namespace → Type 0
IsScope c scope = c.strict → list_all is_good_binding scope ≡ true

-- what instructions make, and what they read of nodes, has the property where its parts have it
pub record SheetsMake (c : Carrier) : Type 0 where
  pub element : (n : Name) (xs : List Item) → IsName c n → Every c.good xs → (k : ℕ) →
      OnEnds (Every c.good) (made (element_of KeepLast n xs) k)
  pub document : (xs : List Item) → Every c.good xs → (k : ℕ) →
      OnEnds (Every c.good) (made (document_of KeepLast xs) k)
  pub copy : (n : Place) → c.good (Node n) → (t : Tree) → subtree_of n ≡ Some t → (k : ℕ) →
      OnEnds (Every c.good) (made (Gives t) k)
  pub named : (n : Place) → c.good (Node n) → (name : Name) (attributes : List Attribute)
      (kids : Forest) → subtree_of n ≡ Some (tree.Elem name attributes kids) → IsName c name
  pub simple : (separator : List ℕ) (xs : List Item) → IsText c separator → Every c.good xs →
      IsText c (simple_content separator xs)
  pub text_in : (n : Place) → c.good (Node n) → (t : List ℕ) →
      subtree_of n ≡ Some (tree.Text t) → IsText c t
  pub value_in : (n : Place) → c.good (Node n) → (name : Name) (t : List ℕ) →
      subtree_of n ≡ Some (tree.Attr name t) → IsText c t
  pub children : (n : Place) → c.good (Node n) → Every c.good (child_items n)
  pub nodes : (root : Place) → c.good (Node root) → Every (λ n. c.good (Node n)) (all_nodes root)
  pub atom : (x : Item) → c.good x → c.good (Atom (atom_of x))
  pub converted : (kind : Option SeqType) (xs : List Item) → Every c.good xs →
      OnValue (Every c.good) (converted_to kind xs)
  pub element_name : (scope : List Namespace) (default text : List ℕ) → IsScope c scope →
      (c.strict → is_free_uri default ≡ true) → OnValue (IsName c) (element_name scope default text)
  pub attribute_name : (scope : List Namespace) (text : List ℕ) → IsScope c scope →
      OnValue (IsAttributeName c) (attribute_name scope text)

-- a list, if there is one
abbrev pub IfGood : (Item → Type 0) → Option (List Item) → Type 0
IfGood good None = Unit {0}
IfGood good (Some xs) = Every good xs

-- what is asked of a stylesheet and its run, so that it carries the relation to itself, with other
-- calls left: of its parts, of the trees that are given, of computed names, of variables, and of the
-- values from outside
pub record RunMeets (c : Carrier) (run : Run) : Type 0 where
  pub parts : c.strict → has_good_parts run.sheet ≡ true
  pub trees : (i : ℕ) (t : Tree) →
      slice_get (given_trees run.document run.documents) i ≡ Some t →
      c.good (Node (new_root i t))
  pub documents : (globals : List Binding) (calls : Calls) (xs : List Item) →
      OnValue (Every c.good) (document_value (program_of run globals calls) xs)
  pub names : (xs : List Item) → Every c.good xs → OnValue (IsName c) (name_of_items [] [] xs)
  pub same_variable : (globals : List Binding) (p q : Calls) (s : c.Sight) (e f : Env) →
      c.at s e f → (name : ExprName) →
      variable_value (program_of run globals p) e name
      ≡ variable_value (program_of run globals q) f name
  pub variable : (globals : List Binding) → AreGood c.good globals → (p : Calls) (s : c.Sight)
      (e f : Env) → c.at s e f → (name : ExprName) →
      OnValue (Every c.good) (variable_value (program_of run globals p) e name)
  pub given : (param : Bool) (name : ExprName) →
      IfGood c.good (option_map untyped (given_for run.given param name))

-- after a call on both sides: where doors lead on there to what is related, so do the calls
abbrev pub LeftMeets : Carrier → Option Doors → Option Doors → Type 0
LeftMeets c l r =
    (go to : Doors → ℕ → Outcome (List Item)) →
    ((d b : Doors) → DoorsMeet c d b → (k : ℕ) →
    c.rel (List Item) (Every c.good) (go d k) (to b k)) →
    (k : ℕ) → c.rel (List Item) (Every c.good) (if_left l go k) (if_left r to k)

-- the tree of a node that has the property
abbrev pub IsGoodTree : Carrier → Tree → Type 0
IsGoodTree c t = (k : ℕ) × c.good (Node (new_root k t))
