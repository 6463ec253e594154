-- How deep instructions nest.
use Rattle.std.specs.Prelude.{ℕ, ◌+◌, max, List, [], ◌∷◌, map, Bool, true, false}
use Rattle.xt_sheets.specs.declared.instrs.Instr.{Instr}
use Rattle.xt_sheets.specs.declared.instrs.Value.{Value as ValueOfBound}
use Rattle.xt_sheets.specs.declared.instrs.Bound.{Bound}
use Rattle.xt_sheets.specs.declared.instrs.When.{When}
use Rattle.xt_sheets.specs.declared.instrs.Instr.TheOpen.{Chars, ValueOf, Literal, Element, Attribute, Comment, Pi, Document, Copy, CopyOf, Sequence, If, Choose, ForEach, ForEachGroup, PerformSort, Variable, Apply, ApplyImports, NextMatch, CallTemplate, Select, Body, EmptyText, EmptyList, Required}
use Rattle.xt_sheets.specs.Layers.{Kinds, Steps, InstrLayer, ValueLayer, instr_gives, value_gives, bound_gives, when_gives}
use Rattle.xt_names.specs.Lists.{greatest}

-- how many levels an instruction has, and whether it is a variable
pub record Nested : Type 0 where
  pub levels : ℕ
  pub binds : Bool

abbrev pub nests : Kinds
nests = record { Instrs = Nested; Values = ℕ; Bounds = ℕ; Whens = ℕ }

-- a variable adds a level to each instruction after it in its sequence
abbrev pub behind : Bool → ℕ → ℕ
behind true before = 1 + before
behind false before = before

-- the most levels of the instructions of a sequence, with so many variables before its first one
abbrev pub most_behind : ℕ → List Nested → ℕ
most_behind before [] = 0
most_behind before (x ∷ xs) = max (before + x.levels) (most_behind (behind x.binds before) xs)

abbrev pub most_levels : List Nested → ℕ
most_levels xs = most_behind 0 xs

-- the most levels of the instructions that stand right within an instruction
abbrev pub within : {E P : Type 0} → InstrLayer E P nests → ℕ
within (Chars text) = 0
within (ValueOf select body separator) = most_levels body
within (Literal name attrs body) = most_levels body
within (Element name body) = most_levels body
within (Attribute name select body separator) = most_levels body
within (Comment select body) = most_levels body
within (Pi name select body) = most_levels body
within (Document body) = most_levels body
within (Copy body) = most_levels body
within (CopyOf e) = 0
within (Sequence e) = 0
within (If condition body) = most_levels body
within (Choose whens other) = max (greatest whens) (most_levels other)
within (ForEach select sorts body) = most_levels body
within (ForEachGroup select grouping sorts body) = most_levels body
within (PerformSort select sorts body) = most_levels body
within (Variable bound) = bound
within (Apply select mode sorts params) = greatest params
within (ApplyImports params) = greatest params
within (NextMatch params) = greatest params
within (CallTemplate place params) = greatest params

abbrev pub is_binding : {E P : Type 0} → InstrLayer E P nests → Bool
is_binding (Chars text) = false
is_binding (ValueOf select body separator) = false
is_binding (Literal name attrs body) = false
is_binding (Element name body) = false
is_binding (Attribute name select body separator) = false
is_binding (Comment select body) = false
is_binding (Pi name select body) = false
is_binding (Document body) = false
is_binding (Copy body) = false
is_binding (CopyOf e) = false
is_binding (Sequence e) = false
is_binding (If condition body) = false
is_binding (Choose whens other) = false
is_binding (ForEach select sorts body) = false
is_binding (ForEachGroup select grouping sorts body) = false
is_binding (PerformSort select sorts body) = false
is_binding (Variable bound) = true
is_binding (Apply select mode sorts params) = false
is_binding (ApplyImports params) = false
is_binding (NextMatch params) = false
is_binding (CallTemplate place params) = false

abbrev pub value_nest : {E P : Type 0} → ValueLayer E P nests → ℕ
value_nest (Select e) = 0
value_nest (Body body) = most_levels body
value_nest EmptyText = 0
value_nest EmptyList = 0
value_nest Required = 0

abbrev pub nest_steps : {E P : Type 0} → Steps E P nests
nest_steps = record {
  of_instr = λ x. record { levels = 1 + within x; binds = is_binding x };
  of_value = value_nest;
  of_bound = λ b. b.value;
  of_when = λ w. most_levels w.body;
}

abbrev pub nested_of : {E P : Type 0} → Instr E P → Nested
nested_of = instr_gives nests nest_steps

-- 1 where no instruction is within it, and otherwise 1 and the most that one within it has; a variable adds 1 to
-- each instruction after it in its sequence
abbrev pub instr_nest_of : {E P : Type 0} → Instr E P → ℕ
instr_nest_of i = (nested_of i).levels

abbrev pub when_nest_of : {E P : Type 0} → When E P → ℕ
when_nest_of = when_gives nests nest_steps

abbrev pub bound_nest_of : {E P : Type 0} → Bound E P → ℕ
bound_nest_of = bound_gives nests nest_steps

abbrev pub value_nest_of : {E P : Type 0} → ValueOfBound E P → ℕ
value_nest_of = value_gives nests nest_steps

abbrev pub body_nest_of : {E P : Type 0} → List (Instr E P) → ℕ
body_nest_of body = most_levels (map nested_of body)
