-- Programs whose calls never lack another.
use Rattle.std.specs.Prelude.{ℕ, List}
use Rattle.xt_names.specs.declared.names.ExprName.{ExprName}
use Rattle.xt_tree.specs.Place.{Place}
use Rattle.xt_atoms.specs.declared.atoms.Atom.{Atom as AtomValue}
use Rattle.xdm_items.specs.declared.items.Item.{Item}
use Rattle.expr_meaning.specs.Outcomes.Outcome.{Outcome, Ends, Fails, Deep}
use Rattle.expr_meaning.specs.Env.{Program}

-- with a value or an error
abbrev pub IsEnded : {A : Type 0} → Outcome A → Type 0
IsEnded (Ends v k) = Unit {0}
IsEnded (Fails code) = Unit {0}
IsEnded Deep = ⊥

-- calls and key() end with a value or an error
pub record CallsEnd (p : Program) : Type 0 where
  pub calls : (name : ExprName) (args : List (List Item)) (k : ℕ) → IsEnded (p.calls name args k)
  pub keys : (name : List ℕ) (values : List AtomValue) (root : Place) (k : ℕ) →
      IsEnded (p.keys name values root k)
