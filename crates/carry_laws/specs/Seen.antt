-- Places in the run of a stylesheet and of its query at which the query sees what the stylesheet
-- reads.
use Rattle.std.specs.Prelude.{◌≡◌, ℕ, List, [], ◌∷◌, map, Bool, true, false, Option, Some, None}
use Rattle.xt_names.specs.declared.names.ExprName.{ExprName}
use Rattle.xdm_items.specs.declared.items.Item.{Item}
use Rattle.expr_meaning.specs.Outcomes.Outcome.{Outcome, Fails, Every, and_then, step_outcome}
use Rattle.expr_meaning.specs.Outcomes.Follow.{Relation}
use Rattle.expr_meaning.specs.Meaning.{outcome}
use Rattle.xt_syntax.specs.declared.exprs.Expr.{Expr}
use Rattle.meaning_laws.specs.SoundValues.Sound.{IsSound}
use Rattle.carried_exprs.specs.Carried.{carried}
use Rattle.expr_meaning.specs.SortMeaning.Sorted.{Placed}
use Rattle.operator_values.specs.Operands.{atom_of}
use Rattle.expr_meaning.specs.Env.{Binding, Env, Program, look_up}
use Rattle.expr_meaning.specs.Calls.{position_of, size_of, members_of, key_of, root_of_item, no_tree}
use Rattle.expr_meaning.specs.Calls.{document_value}
use Rattle.expr_laws.specs.Carrier.{OnValue}
use Rattle.carried_exprs.specs.Sights.{Sight, named, focused, absent, Setting, is_own_variable}
use Rattle.carried_exprs.specs.Sights.{may_call, may_name, item_name, position_name, size_name}
use Rattle.carried_exprs.specs.Sights.{group_name, key_name}

abbrev pub OnSome : {A : Type 0} → (A → Type 0) → Option A → Type 0
OnSome P None = Unit {0}
OnSome P (Some x) = P x

-- the innermost binding of the name has this list
abbrev pub Holds : List Binding → ExprName → List Item → Type 0
Holds locals name xs = look_up locals name ≡ Some xs

-- the focus of the stylesheet, as the query sees it
abbrev pub FocusIsSeen : (Item → Type 0) → Sight → Env → Env → Type 0
FocusIsSeen good named e f =
    (p : Placed Item) × (e.focus ≡ Some p) × good p.value × Holds f.locals item_name (p.value ∷ [])
    × Holds f.locals position_name (position_of p) × Holds f.locals size_name (size_of p)
FocusIsSeen good focused e f =
    (p : Placed Item) × (e.focus ≡ Some p) × good p.value × (f.focus ≡ Some p)
FocusIsSeen good absent e f = (e.focus ≡ None) × (f.focus ≡ None)

-- the item at which the whole expression begins
abbrev pub CurrentIsSeen : (Item → Type 0) → Bool → Env → Env → Type 0
CurrentIsSeen good true e f =
    (x : Item) × (e.state.current ≡ Some x) × good x × Holds f.locals item_name (x ∷ [])
CurrentIsSeen good false e f = e.state.current ≡ None

abbrev pub GroupIsSeen : (Item → Type 0) → Bool → Env → Env → Type 0
GroupIsSeen good true e f =
    Holds f.locals group_name (members_of e.state.group)
    × Holds f.locals key_name (key_of e.state.group)
    × Every good (members_of e.state.group) × Every good (key_of e.state.group)
GroupIsSeen good false e f = Unit {0}

-- The first place is the stylesheet's. Variables of its own names hold the same lists in both.
pub record IsSeen (good : Item → Type 0) (w : Setting) (s : Sight) (e f : Env) : Type 0 where
  pub locals : (name : ExprName) → is_own_variable name ≡ true →
      look_up e.locals name ≡ look_up f.locals name
  pub known : (name : ExprName) → OnSome (Every good) (look_up e.locals name)
  pub focus : FocusIsSeen good s e f
  pub current : CurrentIsSeen good w.has_current e f
  pub group : GroupIsSeen good w.has_group e f

-- what key() of this name finds for an item
abbrev pub found_at : Program → List ℕ → Item → List Item → ℕ → Outcome (List Item)
found_at p name x values k =
    and_then (step_outcome (root_of_item x) k) (p.keys name (map atom_of values))

-- The program of a stylesheet and that of its query, each with some number of calls left: what their
-- declared functions do is related, where they may be called there, and so is what key() does and what
-- its function does; documents and globals are the same.
pub record ProgramsCarry (rel : Relation) (good : Item → Type 0) (w : Setting) (p q : Program) :
    Type 0 where
  pub calls : (name : ExprName) → may_call w name ≡ true → (args : List (List Item)) →
      Every (Every good) args → (k : ℕ) →
      rel (List Item) (Every good) (p.calls name args k) (q.calls name args k)
  pub keys : w.has_keys ≡ true → (name : List ℕ) (x : Item) → good x → (values : List Item) →
      Every good values → (k : ℕ) → rel (List Item) (Every good) (found_at p name x values k)
      (q.calls (w.keys name) ((x ∷ []) ∷ values ∷ []) k)
  pub no_item : w.has_keys ≡ true → (name : List ℕ) (values : List Item) → Every good values →
      (k : ℕ) → rel (List Item) (Every good) (Fails no_tree)
      (q.calls (w.keys name) ([] ∷ values ∷ []) k)
  pub documents : p.documents ≡ q.documents
  pub documents_known : (xs : List Item) → OnValue (Every good) (document_value p xs)
  pub globals : (name : ExprName) → may_name w name ≡ true →
      look_up p.globals name ≡ look_up q.globals name
  pub globals_known : (name : ExprName) → OnSome (Every good) (look_up p.globals name)

-- In this relation: wherever the query sees what the stylesheet reads, the expression as the query has
-- it is related to the expression.
abbrev pub IsCarried : Relation → Setting → Program → Program → Expr → Type 0
IsCarried rel w p q x =
    (s : Sight) (e f : Env) → IsSeen IsSound w s e f → (k : ℕ) →
    rel (List Item) (Every IsSound) (outcome p x e k) (outcome q (carried w x s) f k)
