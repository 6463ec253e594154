-- What a look at the top of a stack finds, and after how many steps.
use Rattle.std.specs.Prelude.{◌≡◌, ℕ, ◌+◌, ◌<◌, [], true, is_some}
use Rattle.node_walks.specs.Moves.{settled, standing, steps_before}
use Rattle.lazy_seq.specs.Flow.{Flow}
use Rattle.lazy_seq.specs.Stacks.{parts_flow}
use Rattle.lazy_seq.specs.declared.stacks.Top.{Top}
use Rattle.lazy_seq.specs.declared.stacks.Top.TheVariants.{Ready, Nothing, Stack}

pub record IsReadyTop (before later : ℕ) (old new : Flow) : Type 0 where
  pub stands : new.moves ≡ settled old.moves
  pub some : is_some (standing new.moves) ≡ true
  pub steps : later ≡ before + steps_before old.moves
  pub weight : new.weight ≡ 1

pub record IsNoTop (before later : ℕ) (old : Flow) : Type 0 where
  pub none : settled old.moves ≡ []
  pub steps : later ≡ before + steps_before old.moves

pub record IsTaken (before later : ℕ) (parts old new : Flow) : Type 0 where
  pub parts_are : parts ≡ old
  pub emptied : new ≡ parts_flow []
  pub heavy : 1 < parts.weight
  pub still : later ≡ before

abbrev pub Looks : Top → ℕ → ℕ → Flow → Flow → Type 0
Looks Ready before later old new = IsReadyTop before later old new
Looks Nothing before later old new = IsNoTop before later old
Looks (Stack parts) before later old new = IsTaken before later (parts_flow parts.items) old new
