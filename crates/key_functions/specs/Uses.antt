-- `use` of a key as the query has it.
use Rattle.std.specs.Prelude.{◌≡◌, ℕ, List, true, false, Some}
use Rattle.xt_names.specs.declared.names.ExprName.{ExprName}
use Rattle.xt_tree.specs.Place.{Place}
use Rattle.xt_atoms.specs.declared.atoms.Atom.{Atom as AtomValue}
use Rattle.xt_syntax.specs.declared.exprs.Expr.{Expr}
use Rattle.xdm_items.specs.declared.items.Item.{Item}
use Rattle.xdm_items.specs.declared.items.Item.TheVariants.{Node}
use Rattle.doc_set.specs.Sets.{DocumentSet}
use Rattle.expr_meaning.specs.Outcomes.Outcome.{Outcome, Ends, Fails, Deep, OnEnds, Every}
use Rattle.expr_meaning.specs.Outcomes.Follow.{back, there}
use Rattle.expr_meaning.specs.Calls.{document_value}
use Rattle.expr_meaning.specs.Env.{Env, Program}
use Rattle.expr_meaning.specs.Meaning.{outcome}
use Rattle.expr_laws.specs.Carrier.{OnValue}
use Rattle.meaning_laws.specs.SoundValues.Sound.{IsSound}
use Rattle.carried_exprs.specs.Carried.{carried}
use Rattle.carried_exprs.specs.Fits.{may_be_carried}
use Rattle.carried_exprs.specs.Sights.{HasLocalKeys, Setting, focused}
use Rattle.transform_meaning.specs.Keys.{use_program, use_value}
use Rattle.transform_meaning.specs.Places.{alone}
use Rattle.key_functions.specs.Keys.{IsKeyPlace, SameAs, SameOutcome}

-- the setting of `use`: it has an item and no group, and names nothing that is declared
pub record IsUseSetting (w : Setting) : Type 0 where
  pub current : w.has_current ≡ true
  pub group : w.has_group ≡ false
  pub calls : w.has_calls ≡ false
  pub keys : w.has_keys ≡ false

abbrev pub at_number : {A : Type 0} → Outcome A → ℕ → Outcome A
at_number (Ends v j) k = Ends v k
at_number (Fails code) k = Fails code
at_number Deep k = Deep

-- an expression without constructors makes no tree where what it calls makes none: its value is the
-- same whatever number the next tree has
abbrev pub MakesNoTree : Program → Setting → Type 0
MakesNoTree p w =
    ((name : ExprName) (args : List (List Item)) (k : ℕ) →
    p.calls name args k ≡ at_number (p.calls name args 0) k) →
    ((name : List ℕ) (values : List AtomValue) (root : Place) (k : ℕ) →
    p.keys name values root k ≡ at_number (p.keys name values root 0) k) →
    (x : Expr) → may_be_carried w x ≡ true → (e : Env) (k : ℕ) →
    outcome p x e k ≡ at_number (outcome p x e 0) k

-- with a node as the item and the focus, the expression as the query has it gives the value of `use`
abbrev pub IsUsed : DocumentSet → Program → Setting → Expr → Type 0
IsUsed documents q w x =
    (n : Place) → IsSound (Node n) → (env : Env) → IsKeyPlace env n →
    env.focus ≡ Some (alone (Node n)) → (k : ℕ) →
    SameAs (use_value documents x n) (outcome q (carried w x focused) env k) k

abbrev pub AreUsed : DocumentSet → Program → Type 0
AreUsed documents q =
    documents ≡ q.documents →
    ((xs : List Item) → OnValue (Every IsSound) (document_value (use_program documents) xs)) →
    (w : Setting) → IsUseSetting w → HasLocalKeys w → (x : Expr) → may_be_carried w x ≡ true →
    IsUsed documents q w x

-- what is the same is carried in both directions
abbrev pub IsCarriedBothWays : Outcome (List Item) → Outcome (List Item) → Type 0
IsCarriedBothWays o p =
    SameOutcome o p → OnEnds (Every IsSound) o →
    there (List Item) (Every IsSound) o p × back (List Item) (Every IsSound) o p
