-- Stylesheets that files hold are closed.
use Rattle.std.proofs.Common.{◌≡◌, ℕ, List, [], true, sym, subst}
use Rattle.xt_sheets.specs.declared.sheets.Sheet.{Sheet}
use Rattle.sheet_closure.specs.Closed.{is_closed}
use Rattle.module_loading.specs.Held.{Holdings}
use Rattle.module_loading.specs.Loads.{IsLoadedSheet}
use Rattle.module_loading.specs.declared.loaded.LoadedSheet.{LoadedSheet}
use Rattle.loaded_sheets.specs.Sheets.{sheet_faults, sheet_value}
use Rattle.import_tree.proofs.ClosedStylesheets.Loaded.{loaded_closed}
use Rattle.import_tree.specs.Laws.{SheetsAreClosed}
use Rattle.import_tree.specs.Sheets.{sheet_links}

pub value_closed : (files : Holdings) (name : List ℕ) (loaded : LoadedSheet) (sheet : Sheet)
    → IsLoadedSheet files sheet_links name loaded → sheet_faults loaded ≡ []
    → sheet ≡ sheet_value loaded → is_closed sheet ≡ true
value_closed files name loaded sheet is kept same =
    subst (λ s. is_closed s ≡ true) (sym same)
    (loaded_closed files sheet_links name loaded is kept)

pub sheets_closed : SheetsAreClosed
sheets_closed files name s h =
    value_closed files name h.loaded s h.is_sheet.is_loaded h.is_sheet.keeps_rules h.is_sheet.is_value
