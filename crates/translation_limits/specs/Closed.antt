-- The queries of closed stylesheets keep the limits.
use Rattle.std.specs.Prelude.{◌≡◌, true}
use Rattle.xt_sheets.specs.declared.sheets.Sheet.{Sheet}
use Rattle.closed_sheets.specs.Sheets.{has_good_parts}
use Rattle.sheet_closure.specs.StandingParts.Sheets.{parts_stand}
use Rattle.translation.specs.Limits.{keeps_limits}
use Rattle.translation.specs.Sheets.{query_of_sheet}

-- where the parts of a stylesheet are good and may stand where they do
abbrev pub ClosedKeepLimits : Type 0
ClosedKeepLimits =
    (s : Sheet) → has_good_parts s ≡ true → parts_stand s ≡ true → keeps_limits (query_of_sheet s) ≡ true
