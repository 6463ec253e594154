-- The ways out of instructions in a stylesheet, and the functions of its query.
use Rattle.std.specs.Prelude.{◌≡◌, ℕ, List, [], ◌∷◌, true, is_some, nat_lt, length}
use Rattle.std.specs.Prelude.{if◌then◌else◌, Option, Some}
use Rattle.xt_sheets.specs.declared.sheets.Sheet.{Sheet}
use Rattle.xdm_items.specs.declared.items.Item.{Item}
use Rattle.xdm_items.specs.FunctionArguments.Answers.{of_truth}
use Rattle.expr_meaning.specs.Outcomes.Outcome.{Every}
use Rattle.expr_meaning.specs.Outcomes.Follow.{Relation}
use Rattle.expr_meaning.specs.SortMeaning.Sorted.{Placed}
use Rattle.expr_meaning.specs.Calls.{position_of, size_of}
use Rattle.expr_meaning.specs.Env.{Program, look_up}
use Rattle.expr_laws.specs.Carrier.{AreGood}
use Rattle.meaning_laws.specs.SoundValues.Sound.{IsSound}
use Rattle.carry_laws.specs.Seen.{ProgramsCarry}
use Rattle.rule_order.specs.Rules.{best_below, best_imported}
use Rattle.transform_meaning.specs.Dispatch.{Doors, Passed, entered_at, for_item}
use Rattle.transform_meaning.specs.Places.{entry}
use Rattle.translated_forms.specs.Names.{mode_function, named_function, next_function}
use Rattle.translated_forms.specs.Names.{imports_function}
use Rattle.translated_forms.specs.Places.{Param, Table, of_function, setting_at}
use Rattle.lockstep.specs.Helpers.{HelpersCarry}
use Rattle.lockstep.specs.Spots.{items_if}

-- the value that is passed for a parameter, if one is
abbrev pub passed_for : Passed → Param → Option (List Item)
passed_for passed p = look_up (if p.tunnel then passed.tunnel else passed.ordinary) p.name

-- the arguments of generated functions: whether a value is passed, and its items
abbrev pub arguments_of : List Param → Passed → List (List Item)
arguments_of [] passed = []
arguments_of (p ∷ ps) passed =
    of_truth (is_some (passed_for passed p)) ∷ items_if (passed_for passed p)
    ∷ arguments_of ps passed

-- .. after the focus
abbrev pub focus_arguments : Placed Item → List (List Item) → List (List Item)
focus_arguments f args = (f.value ∷ []) ∷ position_of f ∷ size_of f ∷ args

pub record ArePassed (passed : Passed) : Type 0 where
  pub ordinary : AreGood IsSound passed.ordinary
  pub tunnel : AreGood IsSound passed.tunnel

-- What an instruction reaches in a stylesheet and what it reaches in the query are related: calls,
-- keys, helper functions, the rules of a mode, named templates, and the rules that a rule overrides.
pub record DoorsCarry (rel : Relation) (t : Table) (sheet : Sheet) (d : Doors) (q : Program) :
    Type 0 where
  pub programs : ProgramsCarry rel IsSound (setting_at t of_function) d.program q
  pub helpers : HelpersCarry rel q
  pub modes : (mode : ℕ) → nat_lt mode (length sheet.modes) ≡ true → (passed : Passed) →
      ArePassed passed → (f : Placed Item) → IsSound f.value → (k : ℕ) →
      rel (List Item) (Every IsSound) (entered_at sheet.rules d mode passed f k)
      (q.calls (mode_function mode) (focus_arguments f (arguments_of t.params passed)) k)
  pub named : (place : ℕ) (passed : Passed) → ArePassed passed → (f : Placed Item) →
      IsSound f.value → (rule : Option ℕ) (mode : ℕ) (k : ℕ) →
      rel (List Item) (Every IsSound)
      (d.named place passed.ordinary (entry (Some f) rule mode passed.tunnel) k)
      (q.calls (named_function (t.named place)) (focus_arguments f (arguments_of t.params passed)) k)
  pub next : (rule mode : ℕ) (passed : Passed) → ArePassed passed → (f : Placed Item) →
      IsSound f.value → (k : ℕ) →
      rel (List Item) (Every IsSound)
      (d.enter passed.ordinary
      (entry (Some f) (for_item (best_below sheet.rules rule mode) f.value) mode passed.tunnel) k)
      (q.calls (next_function rule mode) (focus_arguments f (arguments_of t.params passed)) k)
  pub imports : (rule mode : ℕ) (passed : Passed) → ArePassed passed → (f : Placed Item) →
      IsSound f.value → (k : ℕ) →
      rel (List Item) (Every IsSound)
      (d.enter passed.ordinary
      (entry (Some f) (for_item (best_imported sheet.levels sheet.rules rule mode) f.value) mode
      passed.tunnel) k)
      (q.calls (imports_function rule mode) (focus_arguments f (arguments_of t.params passed)) k)
