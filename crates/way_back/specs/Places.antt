-- Places in the run of a query and of its stylesheet at which an expression finds the same.
use Rattle.std.specs.Prelude.{◌≡◌, ℕ, List, Bool, true, false, Option, Some, None}
use Rattle.xt_names.specs.declared.names.ExprName.{ExprName}
use Rattle.xdm_items.specs.declared.items.Item.{Item}
use Rattle.expr_meaning.specs.Outcomes.Outcome.{Every}
use Rattle.expr_meaning.specs.Outcomes.Follow.{Relation}
use Rattle.expr_meaning.specs.SortMeaning.Sorted.{Placed}
use Rattle.expr_meaning.specs.Env.{Env, Program, look_up}
use Rattle.expr_meaning.specs.Calls.{document_value}
use Rattle.expr_laws.specs.Carrier.{OnValue}
use Rattle.way_back.specs.Leaves.{has_local}

abbrev pub OnSome : {A : Type 0} → (A → Type 0) → Option A → Type 0
OnSome P None = Unit {0}
OnSome P (Some x) = P x

-- where expressions do not read the focus it may be another one
abbrev pub FocusIsSame : (Item → Type 0) → Bool → Env → Env → Type 0
FocusIsSame good true e f = Unit {0}
FocusIsSame good false e f =
    (e.focus ≡ f.focus) × ((p : Placed Item) → e.focus ≡ Some p → good p.value)

-- The first place is the stylesheet's. Variables that have names hold the same lists in both.
pub record IsSame (good : Item → Type 0) (free : Bool) (e f : Env) : Type 0 where
  pub locals : (name : ExprName) → has_local name ≡ true →
      look_up e.locals name ≡ look_up f.locals name
  pub known : (name : ExprName) → OnSome (Every good) (look_up e.locals name)
  pub focus : FocusIsSame good free e f

-- two programs: what their declared functions do is related, and documents and globals are the same
pub record ProgramsSame (rel : Relation) (good : Item → Type 0) (p q : Program) : Type 0 where
  pub calls : (name : ExprName) (args : List (List Item)) → Every (Every good) args → (k : ℕ) →
      rel (List Item) (Every good) (p.calls name args k) (q.calls name args k)
  pub documents : p.documents ≡ q.documents
  pub documents_known : (xs : List Item) → OnValue (Every good) (document_value p xs)
  pub globals : (name : ExprName) → has_local name ≡ true →
      look_up p.globals name ≡ look_up q.globals name
  pub globals_known : (name : ExprName) → OnSome (Every good) (look_up p.globals name)
