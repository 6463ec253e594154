-- What holds of a walk with predicates at each moment.
use Rattle.std.specs.Prelude.{◌≡◌, ℕ, ◌+◌, List, length, Bool, true, is_some, Some}
use Rattle.xt_syntax.specs.declared.exprs.Expr.{Expr}
use Rattle.quiet_eval.specs.QuietMeaning.Paths.{are_allowed}
use Rattle.node_walks.specs.Moves.{Moves, standing, settled, steps_before}
use Rattle.node_axes.specs.StepWalks.Nodes.{Focus}
use Rattle.xdm_items.specs.declared.items.Item.{Item}
use Rattle.node_walks.specs.Sift.{is_kept, after}

-- each predicate has a meaning, and a number of the nodes that have come to it
pub record IsSieve (tests : List Expr) (seen : List ℕ) : Type 0 where
  pub allowed : are_allowed tests ≡ true
  pub counted : length seen ≡ length tests

pub record IsSteady (kept : Bool) (tests : List Expr) (seen : List ℕ) (moves : Moves) : Type 0 where
  pub sieve : IsSieve tests seen
  pub stands : kept ≡ true → is_some (standing moves) ≡ true

-- what a contract sees of a walk with predicates: whether the item at which it stands is known to be kept
pub record Sifting : Type 0 where
  pub moves : Moves
  pub kept : Bool

-- so many steps later a walk stands at its first item, or at its end
pub record IsFound (before later : ℕ) (old new : Moves) : Type 0 where
  pub rest : new ≡ settled old
  pub steps : later ≡ before + steps_before old

-- so many steps later a walk still gives the same
pub record IsOn (before later : ℕ) (old new : Moves) : Type 0 where
  pub rest : settled new ≡ settled old
  pub steps : later + steps_before new ≡ before + steps_before old

-- whether the item at which a walk stands is kept, and how many have come to each predicate then
pub record Judged (kept : Bool) (tests : List (Focus → Bool)) (seen later : List ℕ) (moves : Moves) : Type 0 where
  pub item : Item
  pub stands : standing moves ≡ Some item
  pub keeps : kept ≡ is_kept tests seen item
  pub counts : later ≡ after tests seen item
