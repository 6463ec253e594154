-- What the function of a key gives, where the query has each declaration as the stylesheet has it.
use Rattle.std.specs.Prelude.{◌≡◌, ℕ, suc, List, [], ◌∷◌, map, true, Some, None}
use Rattle.std.specs.Prelude.{Result, Ok, Err}
use Rattle.xt_names.specs.declared.codes.Code.{Code}
use Rattle.xt_names.specs.declared.names.ExprName.{ExprName}
use Rattle.xt_tree.specs.Place.{Place}
use Rattle.xdm_items.specs.declared.items.Item.{Item}
use Rattle.xdm_items.specs.declared.items.Item.TheVariants.{Node}
use Rattle.xt_sheets.specs.declared.sheets.KeyRule.{KeyRule}
use Rattle.doc_set.specs.Sets.{DocumentSet}
use Rattle.match_patterns.specs.Patterns.{pattern_matches}
use Rattle.operator_values.specs.Operands.{atom_of}
use Rattle.expr_meaning.specs.Outcomes.Outcome.{Outcome, Ends, Fails, Deep, and_then, step_outcome}
use Rattle.expr_meaning.specs.Calls.{root_of_item}
use Rattle.expr_meaning.specs.Env.{Binding, Env, Program, look_up}
use Rattle.expr_meaning.specs.Logic.{truth_at}
use Rattle.expr_meaning.specs.Meaning.{outcome}
use Rattle.expr_meaning.specs.Queries.{Run, calls_at, program_at}
use Rattle.meaning_laws.specs.SoundValues.Sound.{IsSound}
use Rattle.carried_exprs.specs.Sights.{is_own_variable, item_name}
use Rattle.transform_meaning.specs.Keys.{declarations, found_in, use_value}
use Rattle.transform_meaning.specs.Places.{alone}
use Rattle.query_helpers.specs.Helpers.{Has}
use Rattle.key_functions.specs.KeyBody.{KeyParts, key_function}

-- an error
abbrev pub IsFailure : {A : Type 0} → Outcome A → Type 0
IsFailure (Ends v k) = ⊥
IsFailure (Fails code) = Unit {0}
IsFailure Deep = ⊥

-- the value with the number as it was, or an error on both sides
abbrev pub SameAs : {A : Type 0} → Result A Code → Outcome A → ℕ → Type 0
SameAs (Ok v) o k = o ≡ Ends v k
SameAs (Err code) o k = IsFailure o

-- a place in the function at which a node is the item, and no variable of the stylesheet is bound
pub record IsKeyPlace (env : Env) (n : Place) : Type 0 where
  pub item : look_up env.locals item_name ≡ Some (Node n ∷ [])
  pub own : (name : ExprName) → is_own_variable name ≡ true → look_up env.locals name ≡ None

-- A declaration as the query has it: the test tells whether the node matches, and with the node as the
-- focus the value is that of `use`.
pub record IsDeclared (q : Program) (documents : DocumentSet) (d : KeyRule) (c : KeyParts) :
    Type 0 where
  pub test : (env : Env) (n : Place) → IsSound (Node n) → IsKeyPlace env n → (k : ℕ) →
      truth_at (outcome q c.test) env k ≡ Ends (pattern_matches d.pattern n) k
  pub value : (env : Env) (n : Place) → IsSound (Node n) → IsKeyPlace env n →
      env.focus ≡ Some (alone (Node n)) → (k : ℕ) →
      SameAs (use_value documents d.key n) (outcome q c.value env k) k

abbrev pub AreDeclared : Program → DocumentSet → List KeyRule → List KeyParts → Type 0
AreDeclared q documents [] [] = Unit {0}
AreDeclared q documents [] (c ∷ cs) = ⊥
AreDeclared q documents (d ∷ ds) [] = ⊥
AreDeclared q documents (d ∷ ds) (c ∷ cs) =
    IsDeclared q documents d c × AreDeclared q documents ds cs

-- the same items and number, or an error on both sides
abbrev pub SameOutcome : Outcome (List Item) → Outcome (List Item) → Type 0
SameOutcome (Ends xs k) o = o ≡ Ends xs k
SameOutcome (Fails code) o = IsFailure o
SameOutcome Deep o = ⊥

-- what key() of the name finds for an item, if the tree of its root is known by itself
abbrev pub found_for : DocumentSet → List KeyRule → List ℕ → Item → List Item → ℕ →
    Outcome (List Item)
found_for documents keys name x values k =
    and_then (step_outcome (root_of_item x) k)
    (found_in documents keys name (map atom_of values))

-- with one call left or more the function finds what key() finds, and fails without an item
pub record KeyFinds (run : Run) (globals : List Binding) (n : ℕ) (f : List ℕ) (cs : List KeyParts)
    (documents : DocumentSet) (keys : List KeyRule) (name : List ℕ) : Type 0 where
  pub found : (x : Item) → IsSound x → (values : List Item) (k : ℕ) →
      SameOutcome (found_for documents keys name x values k)
      (calls_at run globals (suc n) (key_function f cs).name ((x ∷ []) ∷ values ∷ []) k)
  pub no_item : (values : List Item) (k : ℕ) →
      IsFailure (calls_at run globals (suc n) (key_function f cs).name ([] ∷ values ∷ []) k)

abbrev pub FindsKeys : Run → List Binding → ℕ → Type 0
FindsKeys run globals n =
    (f : List ℕ) (cs : List KeyParts) → Has run (key_function f cs) → (documents : DocumentSet)
    (keys : List KeyRule) (name : List ℕ) →
    AreDeclared (program_at run globals n) documents (declarations keys name) cs →
    KeyFinds run globals n f cs documents keys name
