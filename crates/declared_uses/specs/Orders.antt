-- Stylesheets whose globals are put in the order in which they are evaluated (XSLT 2.0, 9.5).
use Rattle.std.specs.Prelude.{◌≡◌, ◌≤◌, ℕ, List, length}
use Rattle.xt_sheets.specs.declared.sheets.Sheet.{Sheet}
use Rattle.global_needs.specs.Needs.{needs}
use Rattle.global_order.specs.Order.{order_of}
use Rattle.sheet_rules.specs.SheetDeclarations.Counts.{counted_of}
use Rattle.sheet_assembly.specs.Named.{each_by, global_if, ordered}
use Rattle.sheet_assembly.specs.Sheets.{Parts, sheet_of}

-- the places of its globals in that order
abbrev pub places_in : Sheet → List ℕ
places_in s = order_of (needs s)

-- the stylesheet with its globals in that order
abbrev pub put_in_order : Sheet → Sheet
put_in_order s = record s { globals = ordered s.globals (places_in s) }

-- the order leaves out none
abbrev pub AreAllInOrder : Sheet → Type 0
AreAllInOrder s = length s.globals ≤ length (places_in s)

-- the stylesheet has each global that counts, in declaration order
abbrev pub HasEachGlobal : Parts → Type 0
HasEachGlobal p =
    (sheet_of p).globals ≡ each_by global_if (counted_of p.declarations) p.declarations
