use Rattle.loaded_sheets.specs.Wholes.{wide_faults}
use Rattle.loaded_sheets.specs.Sheets.{names_in, own_faults, declarations_in, declared_in}
use Rattle.loaded_sheets.specs.Sheets.{sheet_faults}
use Rattle.loaded_sheets.proofs.Globals.{first_stays}
use Rattle.loaded_sheets.proofs.laws.modules_come_first.Goals as goal

pub returns : goal.returns
unfolding sheet_faults
returns c = λ l code broken.
    first_stays (own_faults l) (wide_faults (declarations_in l) (names_in l).called (declared_in l)) code broken
