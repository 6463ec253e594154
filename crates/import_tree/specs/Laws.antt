-- That files hold at most one stylesheet under a name, what that means for its rules, and that it
-- is closed.
use Rattle.std.specs.Prelude.{◌≡◌, ℕ, List, Option, Some, true}
use Rattle.xt_names.specs.declared.codes.Code.{Code}
use Rattle.xt_sheets.specs.declared.sheets.Sheet.{Sheet}
use Rattle.sheet_closure.specs.Closed.{is_closed}
use Rattle.module_loading.specs.Held.{Holdings}
use Rattle.import_tree.specs.Sheets.{HoldsSheet, BreaksRule}

-- where the files tell what they hold
abbrev pub SheetsAreOne : Type 0
SheetsAreOne = (map : List ℕ → Option (List ℕ)) (name : List ℕ) (s t : Sheet)
    → HoldsSheet (Some map) name s → HoldsSheet (Some map) name t → s ≡ t

abbrev pub SheetsKeepRules : Type 0
SheetsKeepRules = (map : List ℕ → Option (List ℕ)) (name : List ℕ) (s : Sheet) (code : Code)
    → HoldsSheet (Some map) name s → BreaksRule (Some map) name code → ⊥

abbrev pub CodesAreOne : Type 0
CodesAreOne = (map : List ℕ → Option (List ℕ)) (name : List ℕ) (c d : Code)
    → BreaksRule (Some map) name c → BreaksRule (Some map) name d → c ≡ d

-- whether the files tell what they hold or not
abbrev pub SheetsAreClosed : Type 0
SheetsAreClosed = (files : Holdings) (name : List ℕ) (s : Sheet)
    → HoldsSheet files name s → is_closed s ≡ true
