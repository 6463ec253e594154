-- Places, levels and numbers that are in range, and globals that come after those on which they
-- depend (XSLT 2.0, 3.10.3, 6.4, 6.5 and 9.5).
use Rattle.std.specs.Prelude.{ℕ, List, [], ◌∷◌, ◌+◌, length, Bool, true, ◌&&◌, nat_lt, nat_le}
use Rattle.std.specs.List.{list_all}
use Rattle.xt_sheets.specs.declared.sheets.Level.{Level}
use Rattle.xt_sheets.specs.declared.sheets.Rule.{Rule}
use Rattle.xt_sheets.specs.declared.sheets.Sheet.{Sheet}
use Rattle.global_order.specs.GraphOrders.Behind.{all_below, are_behind}
use Rattle.global_needs.specs.Needs.{needs}

-- its template and its modes are there, and its precedence is that of a level
unfoldable pub is_rule_of : ℕ → ℕ → ℕ → Rule → Bool
is_rule_of templates modes levels r =
    nat_lt r.template templates
    && (all_below modes r.modes && (nat_le 1 r.precedence && nat_le r.precedence levels))

-- the levels that are imported into a level come before it; so many come before the first of these
abbrev pub are_levels : ℕ → List Level → Bool
are_levels before [] = true
are_levels before (l ∷ levels) =
    nat_le 1 l.first && nat_le l.first (before + 1) && are_levels (before + 1) levels

-- the default mode, in which a stylesheet begins, is there
unfoldable pub has_numbers : Sheet → Bool
has_numbers s =
    nat_lt 0 (length s.modes)
    && (are_levels 0 s.levels
    && list_all (is_rule_of (length s.templates) (length s.modes) (length s.levels)) s.rules)

-- every global comes after those on which it depends
unfoldable pub has_order : Sheet → Bool
has_order s = are_behind 0 (needs s)
