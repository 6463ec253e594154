-- Programs, places in a run and runs of queries all of whose values are sound.
use Rattle.std.specs.Prelude.{◌≡◌, ℕ, List, Bool, true, Option, Some, None}
use Rattle.std.specs.List.{list_all}
use Rattle.xt_names.specs.Classes.{is_xml_text}
use Rattle.xt_names.specs.declared.names.ExprName.{ExprName}
use Rattle.xt_tree.specs.Place.{Place}
use Rattle.xt_atoms.specs.declared.atoms.Atom.{Atom as AtomValue}
use Rattle.xdm_items.specs.declared.items.Item.{Item}
use Rattle.xdm_items.specs.declared.items.Item.TheVariants.{Node}
use Rattle.closed_queries.specs.Closed.{has_good_parts}
use Rattle.closed_queries.specs.Texts.{is_free_binding, is_free_uri}
use Rattle.doc_set.specs.Sets.{are_sound_documents}
use Rattle.expr_meaning.specs.Outcomes.Outcome.{Outcome, OnEnds, Every}
use Rattle.expr_meaning.specs.SortMeaning.Sorted.{Placed}
use Rattle.expr_meaning.specs.Calls.{current_value, members_of, key_of}
use Rattle.expr_meaning.specs.Env.{Env, Program}
use Rattle.expr_meaning.specs.Queries.{Given, Run}
use Rattle.expr_laws.specs.Carrier.{AreGood, OnValue}
use Rattle.meaning_laws.specs.SoundValues.Sound.{IsSound}

-- all items of an outcome, where it has items
abbrev pub EndsSound : Outcome (List Item) → Type 0
EndsSound o = OnEnds (Every IsSound) o

abbrev pub IsSoundFocus : Option (Placed Item) → Type 0
IsSoundFocus None = Unit {0}
IsSoundFocus (Some p) = IsSound p.value

-- all that an expression can read there
pub record IsSoundEnv (e : Env) : Type 0 where
  pub locals : AreGood IsSound e.locals
  pub focus : IsSoundFocus e.focus
  pub current : OnValue (Every IsSound) (current_value e.state.current)
  pub members : Every IsSound (members_of e.state.group)
  pub key : Every IsSound (key_of e.state.group)

-- what calls and key() give, the documents, the globals, and the namespaces of computed names
pub record IsSoundProgram (p : Program) : Type 0 where
  pub calls : (name : ExprName) (args : List (List Item)) → Every (Every IsSound) args → (k : ℕ) →
      EndsSound (p.calls name args k)
  pub keys : (name : List ℕ) (values : List AtomValue) (root : Place) → IsSound (Node root) →
      (k : ℕ) → EndsSound (p.keys name values root k)
  pub documents : are_sound_documents p.documents ≡ true
  pub globals : AreGood IsSound p.globals
  pub namespaces : list_all is_free_binding p.namespaces ≡ true
  pub element_default : is_free_uri p.element_default ≡ true

-- values from outside have characters of XML alone
abbrev pub are_xml_values : List Given → Bool
are_xml_values given = list_all (λ g. is_xml_text g.1) given

-- a query with good parts, as every closed one has, and what it is run on
pub record IsSoundRun (run : Run) : Type 0 where
  pub parts : has_good_parts run.query ≡ true
  pub documents : are_sound_documents run.documents ≡ true
  pub given : are_xml_values run.given ≡ true
