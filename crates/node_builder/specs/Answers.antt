-- What a call answers.
use Rattle.std.specs.Prelude.{◌≡◌, ℕ, ◌+◌, [], Result, Ok, Err, None}
use Rattle.xt_tree.specs.Place.{Place}
use Rattle.xt_tree.specs.declared.trees.Tree.{Tree}
use Rattle.node_builder.specs.Made.{Made, Gives, Fails}
use Rattle.node_builder.specs.declared.faults.BuildFault.{BuildFault}
use Rattle.node_builder.specs.declared.faults.BuildFault.TheVariants.{Error, Memory}

-- the fault stands for the error, unless memory ran out
abbrev pub IsFaultOf : {A : Type 0} → BuildFault → Made A → Type 0
IsFaultOf (Error code) o = o ≡ Fails code
IsFaultOf (Memory e) o = Unit {0}

-- the answer stands for what is made
abbrev pub Makes : {A : Type 0} → Result A BuildFault → Made A → Type 0
Makes (Ok x) o = o ≡ Gives x
Makes (Err fault) o = IsFaultOf fault o

-- the answer stands for a change, with the value as it is then
abbrev pub Becomes : {A : Type 0} → Result (Unit {0}) BuildFault → A → Made A → Type 0
Becomes (Ok u) x o = o ≡ Gives x
Becomes (Err fault) x o = IsFaultOf fault o

abbrev pub root_place : ℕ → Tree → Place
root_place n t = record { number = n; tree = t; path = []; attribute = None }

-- a tree that is made: its root with the number that was next
pub record IsNewRoot (old new : ℕ) (node : Place) (o : Made Tree) : Type 0 where
  pub made : o ≡ Gives node.tree
  pub root : node ≡ root_place old node.tree
  pub raised : new ≡ old + 1

-- a refusal, which uses up no number
pub record IsRefused (old new : ℕ) (fault : BuildFault) (o : Made Tree) : Type 0 where
  pub cause : IsFaultOf fault o
  pub kept : new ≡ old

-- one call of the builder, whose next number was the first and is the second
abbrev pub Builds : ℕ → ℕ → Result Place BuildFault → Made Tree → Type 0
Builds old new (Ok node) o = IsNewRoot old new node o
Builds old new (Err fault) o = IsRefused old new fault o
