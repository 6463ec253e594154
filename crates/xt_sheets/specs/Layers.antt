-- Recursion over instructions and their parts: what each form gives, once its parts have given theirs. E is the type of
-- the expressions in them, P that of the patterns.
use Rattle.xt_sheets.specs.declared.instrs.Instr.{Instr}
use Rattle.xt_sheets.specs.declared.instrs.Value.{Value}
use Rattle.xt_sheets.specs.declared.instrs.Bound.{Bound}
use Rattle.xt_sheets.specs.declared.instrs.When.{When}
use Rattle.xt_sheets.specs.declared.instrs.Instr.TheFolds.{fold-Instr, fold-Value, fold-Bound, fold-When}
use Rattle.xt_sheets.specs.declared.instrs.Instr.TheOpen.{Instr-F, Value-F, Bound-F, When-F}

-- what the parts of each kind give
pub record Kinds : Type 1 where
  pub Instrs : Type 0
  pub Values : Type 0
  pub Bounds : Type 0
  pub Whens : Type 0

abbrev pub InstrLayer : Type 0 → Type 0 → Kinds → Type 0
InstrLayer E P k = Instr-F E P k.Instrs k.Values k.Bounds k.Whens

abbrev pub ValueLayer : Type 0 → Type 0 → Kinds → Type 0
ValueLayer E P k = Value-F E P k.Instrs k.Values k.Bounds k.Whens

abbrev pub BoundLayer : Type 0 → Type 0 → Kinds → Type 0
BoundLayer E P k = Bound-F E P k.Instrs k.Values k.Bounds k.Whens

abbrev pub WhenLayer : Type 0 → Type 0 → Kinds → Type 0
WhenLayer E P k = When-F E P k.Instrs k.Values k.Bounds k.Whens

-- a step for each kind of part
pub record Steps (E P : Type 0) (k : Kinds) : Type 0 where
  pub of_instr : InstrLayer E P k → k.Instrs
  pub of_value : ValueLayer E P k → k.Values
  pub of_bound : BoundLayer E P k → k.Bounds
  pub of_when : WhenLayer E P k → k.Whens

module _ {E P : Type 0} (k : Kinds) (s : Steps E P k) where
  abbrev pub instr_gives : Instr E P → k.Instrs
  instr_gives = fold-Instr E P k.Instrs k.Values k.Bounds k.Whens s.of_instr s.of_value s.of_bound s.of_when

  abbrev pub value_gives : Value E P → k.Values
  value_gives = fold-Value E P k.Instrs k.Values k.Bounds k.Whens s.of_instr s.of_value s.of_bound s.of_when

  abbrev pub bound_gives : Bound E P → k.Bounds
  bound_gives = fold-Bound E P k.Instrs k.Values k.Bounds k.Whens s.of_instr s.of_value s.of_bound s.of_when

  abbrev pub when_gives : When E P → k.Whens
  when_gives = fold-When E P k.Instrs k.Values k.Bounds k.Whens s.of_instr s.of_value s.of_bound s.of_when
