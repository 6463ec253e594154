-- The meaning of an expression on its own (XPath 2.0, 2.1).
use Rattle.std.specs.Prelude.{◌≡◌, ℕ, List, [], ◌∷◌, Option, Some, None, Result, Ok, Err}
use Rattle.std.specs.Borrow.{Bor}
use Rattle.xt_names.specs.declared.codes.Code.TheVariants.{QueryStatic}
use Rattle.xt_names.specs.declared.codes.QueryStaticCode.TheVariants.{XPST0017}
use Rattle.xt_names.specs.declared.names.ExprName.{ExprName}
use Rattle.xt_atoms.specs.declared.faults.ValueFault.{ValueFault}
use Rattle.xt_atoms.specs.declared.faults.ValueFault.TheVariants.{Error, Memory}
use Rattle.xdm_items.specs.declared.items.Item.{Item}
use Rattle.doc_set.specs.Sets.{DocumentSet}
use Rattle.node_walks.specs.Moves.{given}
use Rattle.lazy_seq.specs.Flow.{Flow}
use Rattle.expr_meaning.specs.Outcomes.Outcome.{Outcome, Ends, Fails}
use Rattle.expr_meaning.specs.SortMeaning.Sorted.{Placed}
use Rattle.expr_meaning.specs.Env.{Binding, Calls, Env, Keys, Program, no_state}
use Rattle.eval_scopes.specs.Scopes.{placed_at}
use Rattle.plain_eval.specs.Bound.{Bound}
use Rattle.plain_eval.specs.declared.plain.Focus.{Focus}

abbrev pub with_variable : ExprName → List Item → Bound → Bound
with_variable name xs b = record { locals = (name, xs) ∷ b.locals; documents = b.documents }

-- no function is declared, and no key
abbrev pub no_calls : Calls
no_calls name args k = Fails (QueryStatic XPST0017)

abbrev pub no_keys : Keys
no_keys name values root k = Ends [] k

abbrev pub plain_program : DocumentSet → Program
plain_program documents = record {
  calls = no_calls;
  keys = no_keys;
  documents = documents;
  globals = [];
  namespaces = [];
  element_default = [];
}

abbrev pub focus_behind : Option (Bor Focus) → Option (Placed Item)
focus_behind None = None
focus_behind (Some f) = Some (placed_at f.now.item f.now.position f.now.size)

abbrev pub plain_env : List Binding → Option (Placed Item) → Env
plain_env locals focus = record { locals = locals; focus = focus; state = no_state }

-- the answer stands for the outcome, whatever number the next tree would have
abbrev pub AnswersPlain : Result Flow ValueFault → Outcome (List Item) → Type 0
AnswersPlain (Ok s) o = (k : ℕ) × (o ≡ Ends (given s.moves) k)
AnswersPlain (Err (Error code)) o = o ≡ Fails code
AnswersPlain (Err (Memory e)) o = Unit {0}
