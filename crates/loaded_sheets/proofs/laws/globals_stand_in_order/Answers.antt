use Rattle.std.proofs.Common.{length, refl}
use Rattle.sheet_rules.specs.SheetDeclarations.Counts.{counted_of}
use Rattle.sheet_assembly.specs.Named.{each_by, global_if}
use Rattle.global_order.proofs.OrderLemmas.{order-in_order}
use Rattle.global_needs.specs.Needs.{needs}
use Rattle.loaded_sheets.specs.Wholes.{declared_sheet, evaluation_order}
use Rattle.loaded_sheets.proofs.Globals.{all_there, few_globals}
use Rattle.loaded_sheets.proofs.laws.globals_stand_in_order.Goals as goal

pub returns-clause-all : goal.returns-clause-all
unfolding declared_sheet
returns-clause-all c = λ ds modes called levels.
    all_there (each_by global_if (counted_of ds) ds) (length ds) (few_globals (counted_of ds) ds)

pub returns-clause-order : goal.returns-clause-order
unfolding evaluation_order
returns-clause-order c = λ s. order-in_order (needs s) (evaluation_order s) refl
