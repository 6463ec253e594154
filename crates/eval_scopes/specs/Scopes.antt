-- What scopes and environments stand for in the meaning of expressions.
use Rattle.std.specs.Prelude.{ℕ, List, [], ◌∷◌, Option, Some, None, Result, Ok, Err}
use Rattle.std.specs.Borrow.{Bor}
use Rattle.xt_names.specs.declared.codes.Code.{Code}
use Rattle.xt_atoms.specs.declared.atoms.Atom.{Atom as AtomValue}
use Rattle.xdm_items.specs.declared.items.Item.{Item}
use Rattle.eval_scopes.specs.NodeWalks.Moves.{given}
use Rattle.eval_scopes.specs.LazySeq.Flow.{Flow}
use Rattle.expr_meaning.specs.SortMeaning.Sorted.{Placed}
use Rattle.expr_meaning.specs.Env as meaning
use Rattle.expr_meaning.specs.Env.{Binding, Calls, Keys, Program}
pub use Rattle.eval_scopes.specs.Bindings.{binding_of, pushed_on}
use Rattle.eval_scopes.specs.declared.scopes.Scope.{Scope}
use Rattle.eval_scopes.specs.declared.scopes.Scope.TheVariants.{Outermost, Inner'}
use Rattle.eval_scopes.specs.declared.environments.Focus.{Focus}
use Rattle.eval_scopes.specs.declared.environments.Focus.TheVariants as focus
use Rattle.eval_scopes.specs.declared.environments.Group.{Group}
use Rattle.eval_scopes.specs.declared.environments.State.{State}
use Rattle.eval_scopes.specs.declared.environments.Env.{Env}
use Rattle.eval_scopes.specs.declared.environments.Fixed.{Fixed}

abbrev pub bindings : Scope → List Binding
bindings Outermost = []
bindings (Inner' variables p outer) = pushed_on (bindings outer) variables.now

-- the items after a reference
abbrev pub value_behind : Option (Bor Flow) → Option (List Item)
value_behind None = None
value_behind (Some value) = Some (given value.now.moves)

abbrev pub value_at : Result (Bor Flow) Code → Result (List Item) Code
value_at (Ok value) = Ok (given value.now.moves)
value_at (Err code) = Err code

abbrev pub item_behind : Option (Bor Item) → Option Item
item_behind None = None
item_behind (Some x) = Some x.now

abbrev pub key_behind : Option (Bor AtomValue) → Option AtomValue
key_behind None = None
key_behind (Some a) = Some a.now

abbrev pub placed_at : Item → ℕ → ℕ → Placed Item
placed_at x position size = record { value = x; place = position; size = size }

abbrev pub focus_of : Focus → Option (Placed Item)
focus_of focus.Absent = None
focus_of (focus.At x position size) = Some (placed_at x.now position size)

abbrev pub group_of : Group → meaning.Group
group_of g = record { key = key_behind g.key; members = g.members.now }

abbrev pub group_behind : Option (Bor Group) → Option meaning.Group
group_behind None = None
group_behind (Some g) = Some (group_of g.now)

abbrev pub state_of : State → meaning.State
state_of s = record {
  current = item_behind s.current;
  rule = s.rule;
  mode = s.mode;
  group = group_behind s.group;
  tunnel = bindings s.tunnel.now;
}

-- what an expression reads
abbrev pub env_of : Env → meaning.Env
env_of e = record {
  locals = bindings e.locals.now;
  focus = focus_of e.focus.now;
  state = state_of e.state.now;
}

-- the program that an expression stands in, where calls and key() do so
abbrev pub program_of : Fixed → Calls → Keys → Program
program_of fixed calls keys = record {
  calls = calls;
  keys = keys;
  documents = fixed.documents.now;
  globals = fixed.globals.now;
  namespaces = fixed.namespaces.now;
  element_default = fixed.element_default.now;
}
