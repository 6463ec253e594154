-- The places, levels and numbers of a loaded stylesheet are in range.
use Rattle.std.proofs.Common.{◌≡◌, ℕ, List, [], ◌∷◌, length, true, nat_lt, refl, sym, subst}
use Rattle.std.proofs.lemmas.Bool.{and_parts, and_from}
use Rattle.std.proofs.lemmas.List.{length-map}
use Rattle.std.specs.List.{list_all, range_with_len}
use Rattle.xt_sheets.specs.declared.sheets.Rule.{Rule}
use Rattle.global_order.specs.GraphOrders.Behind.{all_below}
use Rattle.declared_uses.specs.SheetLanguage.Language.{sheet_reading}
use Rattle.sheet_assembly.specs.Sheets.{Parts, level_of, sheet_of}
use Rattle.sheet_closure.specs.Numbers.{are_levels, has_numbers, is_rule_of}
use Rattle.assembly_laws.specs.Laws.{declares_modes, is_level_of}
use Rattle.assembly_laws.proofs.Levels as level
use Rattle.assembly_laws.proofs.Modes as mode
use Rattle.assembly_laws.proofs.Rules.{rules_have}
use Rattle.module_loading.specs.declared.loaded.LoadedSheet.{LoadedSheet}
use Rattle.loaded_sheets.specs.LoadedParts.Parts.{modules_value}
use Rattle.loaded_sheets.specs.Sheets.{declarations_in, names_in, sheet_value}
use Rattle.loaded_sheets.specs.Wholes.{declared_sheet, in_order}

-- rules that have templates, modes and levels
module _ (templates modes levels : ℕ) where
  rules_in_range : (rs : List Rule) → list_all (λ r. nat_lt r.template templates) rs ≡ true
      → list_all (λ r. all_below modes r.modes) rs ≡ true
      → list_all (λ r. is_level_of levels r.precedence) rs ≡ true
      → list_all (is_rule_of templates modes levels) rs ≡ true
  unfolding is_rule_of
  rules_in_range [] t m l = refl
  rules_in_range (r ∷ rs) t m l =
      let there = and_parts (nat_lt r.template templates) _ t in
      let named = and_parts (all_below modes r.modes) _ m in
      let placed = and_parts (is_level_of levels r.precedence) _ l in
      and_from (is_rule_of templates modes levels r) _
      (and_from (nat_lt r.template templates) _ there.0
      (and_from (all_below modes r.modes) _ named.0 placed.0))
      (rules_in_range rs there.1 named.1 placed.1)

module _ (l : LoadedSheet) where
  abbrev parts : Parts
  parts = record {
    declarations = declarations_in l;
    modes = (names_in l).modes;
    called = (names_in l).called;
    levels = l.levels;
    order = range_with_len 0 (length (declarations_in l));
  }

  rules_placed : list_all (λ r. is_level_of (length l.levels) r.precedence) (sheet_of parts).rules
      ≡ true
  unfolding declarations_in
  rules_placed =
      level.rules_have_levels
      (modules_value sheet_reading (names_in l).modes (names_in l).called l.modules) l.levels
      (names_in l).modes (names_in l).called (range_with_len 0 (length (declarations_in l)))

  pub numbers_in_range : nat_lt 0 (length (names_in l).modes) ≡ true
      → are_levels 0 (sheet_value l).levels ≡ true
      → list_all (λ d. declares_modes (length (names_in l).modes) d.part) (declarations_in l) ≡ true
      → has_numbers (sheet_value l) ≡ true
  unfolding has_numbers sheet_value in_order declared_sheet
  numbers_in_range default levels modes =
      and_from (nat_lt 0 (length (names_in l).modes)) _ default
      (and_from (are_levels 0 (sheet_of parts).levels) _ levels
      (rules_in_range (length (sheet_of parts).templates) (length (names_in l).modes)
      (length (sheet_of parts).levels) (sheet_of parts).rules (rules_have parts)
      (mode.rules_have_modes parts modes)
      (subst (λ (n : ℕ). list_all (λ r. is_level_of n r.precedence) (sheet_of parts).rules ≡ true)
      (sym (length-map l.levels level_of)) rules_placed)))
