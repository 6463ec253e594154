-- What is asked of a relation between outcomes, and of two programs, so that each form of
-- expressions is carried where its parts are.
use Rattle.std.specs.Prelude.{◌≡◌, ℕ, ℤ, List, [], ◌∷◌, Bool, true, false, not, ◌&&◌, Option, Some}
use Rattle.std.specs.Prelude.{Result, Ok, Err}
use Rattle.xt_names.specs.declared.codes.Code.{Code}
use Rattle.xt_names.specs.declared.kinds.ArithOp.{ArithOp}
use Rattle.xt_names.specs.declared.kinds.AtomType.{AtomType}
use Rattle.xt_names.specs.declared.kinds.CompareOp.{CompareOp}
use Rattle.xt_names.specs.Classes.{is_ncname_text, is_xml_text}
use Rattle.xt_names.specs.declared.names.ExprName.{ExprName}
use Rattle.xt_names.specs.declared.names.Name.{Name}
use Rattle.xt_types.specs.declared.axes.Axis.{Axis}
use Rattle.xt_types.specs.declared.node_tests.Test.{Test}
use Rattle.xt_types.specs.declared.types.SeqType.{SeqType}
use Rattle.xt_tree.specs.Place.{Place}
use Rattle.xt_tree.specs.Sound.{is_sound_name, is_named_xmlns, is_xml_in_any_case}
use Rattle.xt_atoms.specs.declared.atoms.Atom.{Atom as AtomValue}
use Rattle.xdm_items.specs.declared.items.Item.{Item}
use Rattle.xdm_items.specs.declared.items.Item.TheVariants.{Node, Atom}
use Rattle.xt_atoms.specs.declared.atoms.Atom.TheVariants as atom
use Rattle.xdm_items.specs.FunctionArguments.Answers.{of_integer, of_truth}
use Rattle.function_table.specs.declared.builtins.Builtin.{Builtin}
use Rattle.lazy_seq.specs.Orders.{in_document_order}
use Rattle.operator_values.specs.Comparisons.{general_value, single_value}
use Rattle.operator_values.specs.Nodes.{is_value, before_value, after_value, union_value}
use Rattle.operator_values.specs.Nodes.{intersect_value, except_value}
use Rattle.operator_values.specs.Numbers.{arithmetic_value, range_value, negated_value}
use Rattle.operator_values.specs.Numbers.{signed_value}
use Rattle.operator_values.specs.Types.{instance_value, treated_value, cast_value, castable_value}
use Rattle.node_builder.specs.Made.{Gives}
use Rattle.node_builder.specs.Trees.{element_of, document_of, comment_of, pi_of}
use Rattle.node_builder.specs.declared.kinds.Duplicates.TheVariants.{Refuse}
use Rattle.xt_tree.specs.declared.trees.Tree.TheVariants as tree
use Rattle.expr_meaning.specs.Outcomes.Outcome.{OnEnds, Every}
use Rattle.expr_meaning.specs.Outcomes.Follow.{Relation, IsCarrying}
use Rattle.expr_meaning.specs.SortMeaning.Sorted.{Placed}
use Rattle.expr_meaning.specs.Env.{Binding, Env, Meaning, Program, bind_all, at_focus}
use Rattle.expr_meaning.specs.Env.{variable_value}
use Rattle.expr_meaning.specs.Paths.{document_root, step_items}
use Rattle.expr_meaning.specs.Calls.{library_value, document_value, current_value, members_of}
use Rattle.expr_meaning.specs.Calls.{key_of}
use Rattle.expr_meaning.specs.Names.{name_of_items}
use Rattle.expr_meaning.specs.Making.{made, literal_node, joined_atoms, spaced_text}

-- what holds of the value, where there is one
abbrev pub OnValue : {A : Type 0} → (A → Type 0) → Result A Code → Type 0
OnValue P (Ok v) = P v
OnValue P (Err code) = Unit {0}

abbrev pub AreGood : (Item → Type 0) → List Binding → Type 0
AreGood good bs = Every (λ b. Every good b.1) bs

abbrev pub Keeps : (Item → Type 0) → (List Item → Result (List Item) Code) → Type 0
Keeps good value = (xs : List Item) → Every good xs → OnValue (Every good) (value xs)

abbrev pub KeepsBoth : (Item → Type 0) → (List Item → List Item → Result (List Item) Code) →
    Type 0
KeepsBoth good value =
    (xs ys : List Item) → Every good xs → Every good ys → OnValue (Every good) (value xs ys)

-- A property of items that every value has which is made of values that have it: it holds of what
-- operators, functions and constructors give.
pub record IsKept (good : Item → Type 0) : Type 0 where
  pub truth : (t : Bool) → Every good (of_truth t)
  pub integer : (n : ℤ) → Every good (of_integer n)
  pub general : (op : CompareOp) → KeepsBoth good (general_value op)
  pub single : (op : CompareOp) → KeepsBoth good (single_value op)
  pub is : KeepsBoth good is_value
  pub before : KeepsBoth good before_value
  pub after : KeepsBoth good after_value
  pub range : KeepsBoth good range_value
  pub arithmetic : (op : ArithOp) → KeepsBoth good (arithmetic_value op)
  pub negated : Keeps good negated_value
  pub signed : Keeps good signed_value
  pub union : KeepsBoth good union_value
  pub intersect : KeepsBoth good intersect_value
  pub except : KeepsBoth good except_value
  pub instance : (type : SeqType) → Keeps good (instance_value type)
  pub treated : (type : SeqType) → Keeps good (treated_value type)
  pub castable : (type : AtomType) (empty : Bool) → Keeps good (castable_value type empty)
  pub cast : (type : AtomType) (empty : Bool) → Keeps good (cast_value type empty)
  pub root : (x : Item) → good x → OnValue (Every good) (document_root x)
  pub step : (axis : Axis) (test : Test) (x : Item) → good x →
      OnValue (Every good) (step_items axis test x)
  pub ordered : (xs : List Item) → Every good xs → Every good (in_document_order xs)
  pub library : (f : Builtin) (focus : Option (Placed Item)) →
      ((p : Placed Item) → focus ≡ Some p → good p.value) → (args : List (List Item)) →
      Every (Every good) args → OnValue (Every good) (library_value f focus args)

-- bindings of such names to lists of which this is known
abbrev pub AreBound : (ExprName → Type 0) → (Item → Type 0) → List Binding → Type 0
AreBound own good bs = Every (λ b. own b.0 × Every good b.1) bs

-- A relation with all that is known of it. Where it is strict, names and texts are those that XML
-- allows. The two expressions that are related are looked at in two places of a run, each place in a
-- sight of the other: `inner` is the sight after a focus that the expressions made themselves, in a
-- predicate or right of `/`. They bind and read variables, and call declared functions, whose names
-- are their own.
pub record Carrier : Type 1 where
  pub strict : Type 0
  pub like : Code → Code → Type 0
  pub alike : (code : Code) → like code code
  pub rel : Relation
  pub carries : IsCarrying like rel
  pub good : Item → Type 0
  pub kept : IsKept good
  pub own_variable : ExprName → Type 0
  pub own_function : ExprName → Type 0
  pub Sight : Type 0
  pub inner : Sight
  pub at : Sight → Env → Env → Type 0
  pub bound : (s : Sight) (e f : Env) → at s e f → (bs : List Binding) →
      AreBound own_variable good bs → at s (bind_all bs e) (bind_all bs f)
  pub focused : (s : Sight) (e f : Env) → at s e f → (p : Placed Item) → good p.value →
      at inner (at_focus e p) (at_focus f p)

-- a sight in which both places have the same focus
pub record SeesFocus (c : Carrier) (s : c.Sight) : Type 0 where
  pub same : (e f : Env) → c.at s e f → e.focus ≡ f.focus
  pub item : (e f : Env) → c.at s e f → (p : Placed Item) → e.focus ≡ Some p → c.good p.value

-- Places with the same focus and the same state, where all names are their own: there an expression
-- is related to itself.
pub record AreAlike (c : Carrier) : Type 0 where
  pub variables : (name : ExprName) → c.own_variable name
  pub functions : (name : ExprName) → c.own_function name
  pub focus : (s : c.Sight) → SeesFocus c s
  pub state : (s : c.Sight) (e f : Env) → c.at s e f → e.state ≡ f.state
  pub current : (s : c.Sight) (e f : Env) → c.at s e f →
      OnValue (Every c.good) (current_value e.state.current)
  pub members : (s : c.Sight) (e f : Env) → c.at s e f → Every c.good (members_of e.state.group)
  pub key : (s : c.Sight) (e f : Env) → c.at s e f → Every c.good (key_of e.state.group)

-- what is known of names of elements and of attributes, of targets and of texts
abbrev pub IsName : Carrier → Name → Type 0
IsName c name = c.strict → is_sound_name name ≡ true

abbrev pub IsAttributeName : Carrier → Name → Type 0
IsAttributeName c name = c.strict → (is_sound_name name && not (is_named_xmlns name)) ≡ true

abbrev pub IsTarget : List ℕ → Type 0
IsTarget text = (is_ncname_text text ≡ true) × (is_xml_in_any_case text ≡ false)

abbrev pub IsText : Carrier → List ℕ → Type 0
IsText c text = c.strict → is_xml_text text ≡ true

-- two meanings are related wherever they are looked at in this sight
abbrev pub Meet : (c : Carrier) → c.Sight → Meaning → Meaning → Type 0
Meet c s m n = (e f : Env) → c.at s e f → (k : ℕ) →
    c.rel (List Item) (Every c.good) (m e k) (n f k)

abbrev pub AllMeet : (c : Carrier) → c.Sight → List Meaning → List Meaning → Type 0
AllMeet c s [] [] = Unit {0}
AllMeet c s [] (n ∷ ns) = ⊥
AllMeet c s (m ∷ ms) [] = ⊥
AllMeet c s (m ∷ ms) (n ∷ ns) = Meet c s m n × AllMeet c s ms ns

-- two programs: what calls of their own functions and doc() do is related, and so are the variables
-- that they read
pub record ProgramsMeet (c : Carrier) (p q : Program) : Type 0 where
  pub calls : (name : ExprName) → c.own_function name → (args : List (List Item)) →
      Every (Every c.good) args → (k : ℕ) →
      c.rel (List Item) (Every c.good) (p.calls name args k) (q.calls name args k)
  pub document : (xs : List Item) → document_value p xs ≡ document_value q xs
  pub documents : (xs : List Item) → OnValue (Every c.good) (document_value p xs)
  pub variables : (s : c.Sight) (e f : Env) → c.at s e f → (name : ExprName) →
      c.own_variable name → variable_value p e name ≡ variable_value q f name
  pub variable : (s : c.Sight) (e f : Env) → c.at s e f → (name : ExprName) →
      c.own_variable name → OnValue (Every c.good) (variable_value p e name)

-- .. and also what key() does, and computed names mean the same
pub record ProgramsAgree (c : Carrier) (p q : Program) : Type 0 where
  pub meet : ProgramsMeet c p q
  pub keys : (name : List ℕ) (values : List AtomValue) (root : Place) → c.good (Node root) →
      (k : ℕ) →
      c.rel (List Item) (Every c.good) (p.keys name values root k) (q.keys name values root k)
  pub namespaces : p.namespaces ≡ q.namespaces
  pub element_default : p.element_default ≡ q.element_default
  pub element_names : (xs : List Item) → Every c.good xs →
      OnValue (IsName c) (name_of_items p.namespaces p.element_default xs)
  pub attribute_names : (xs : List Item) → Every c.good xs →
      OnValue (IsName c) (name_of_items p.namespaces [] xs)

-- literals, and what constructors make, have the property where their names and texts are allowed
pub record IsMade (c : Carrier) : Type 0 where
  pub integer : (n : ℤ) → c.good (Atom (atom.Int n))
  pub string : (t : List ℕ) → IsText c t → c.good (Atom (atom.Str t))
  pub spaced : (xs : List Item) → Every c.good xs → IsText c (spaced_text xs)
  pub joined : (xs : List Item) → Every c.good xs → Every c.good (joined_atoms xs)
  pub literal_text : (t : List ℕ) → IsText c t → c.good (literal_node (tree.Text t))
  pub literal_attribute : (n : Name) (t : List ℕ) → IsAttributeName c n → IsText c t →
      c.good (literal_node (tree.Attr n t))
  pub element : (n : Name) (xs : List Item) → IsName c n → Every c.good xs → (k : ℕ) →
      OnEnds (Every c.good) (made (element_of Refuse n xs) k)
  pub document : (xs : List Item) → Every c.good xs → (k : ℕ) →
      OnEnds (Every c.good) (made (document_of Refuse xs) k)
  pub attribute : (n : Name) (t : List ℕ) → IsAttributeName c n → IsText c t → (k : ℕ) →
      OnEnds (Every c.good) (made (Gives (tree.Attr n t)) k)
  pub text : (t : List ℕ) → IsText c t → (k : ℕ) →
      OnEnds (Every c.good) (made (Gives (tree.Text t)) k)
  pub comment : (t : List ℕ) → IsText c t → (k : ℕ) →
      OnEnds (Every c.good) (made (comment_of t) k)
  pub pi : (target t : List ℕ) → IsTarget target → IsText c t → (k : ℕ) →
      OnEnds (Every c.good) (made (pi_of target t) k)
