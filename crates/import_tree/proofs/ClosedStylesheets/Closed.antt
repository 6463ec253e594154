-- What makes a stylesheet closed.
use Rattle.std.proofs.Common.{◌≡◌, [], Bool, true}
use Rattle.std.proofs.lemmas.Bool.{and_from}
use Rattle.std.specs.List.{list_all}
use Rattle.xt_sheets.specs.declared.sheets.Sheet.{Sheet}
use Rattle.closed_sheets.specs.Sheets.{has_good_parts}
use Rattle.sheet_closure.specs.StandingParts.Sheets.{parts_stand}
use Rattle.sheet_closure.specs.Closed.{is_closed, is_space_test}
use Rattle.sheet_closure.specs.Declared.{has_different_names, has_uri, keeps_names}
use Rattle.sheet_closure.specs.Numbers.{has_numbers, has_order}
use Rattle.module_loading.specs.declared.loaded.LoadedSheet.{LoadedSheet}
use Rattle.loaded_sheets.specs.Sheets.{declarations_in, declared_in, names_in, own_faults}
use Rattle.loaded_sheets.specs.Sheets.{sheet_faults, sheet_value}
use Rattle.loaded_sheets.specs.Wholes.{declared_sheet, in_order, wide_faults}
use Rattle.xt_names.proofs.ListLemmas.{front_nil, back_nil}

-- rules that are not broken
module _ (l : LoadedSheet) (e : sheet_faults l ≡ []) where
  pub none_alone : own_faults l ≡ []
  unfolding sheet_faults
  none_alone =
      front_nil (own_faults l)
      (wide_faults (declarations_in l) (names_in l).called (declared_in l)) e

  pub none_together : wide_faults (declarations_in l) (names_in l).called
      (declared_sheet (declarations_in l) (names_in l).modes (names_in l).called l.levels) ≡ []
  unfolding sheet_faults
  none_together =
      back_nil (own_faults l)
      (wide_faults (declarations_in l) (names_in l).called (declared_in l)) e

-- what is so in the order of evaluation, is so of the stylesheet
module _ (q : Sheet → Bool) (l : LoadedSheet) where
  pub of_value : q (in_order (declared_sheet (declarations_in l) (names_in l).modes
      (names_in l).called l.levels)) ≡ true → q (sheet_value l) ≡ true
  unfolding sheet_value
  of_value h = h

-- all that makes it closed
pub record Whole (s : Sheet) : Type 0 where
  pub good : has_good_parts s ≡ true
  pub stands : parts_stand s ≡ true
  pub differ : has_different_names s ≡ true
  pub uris : list_all has_uri s.functions ≡ true
  pub numbers : has_numbers s ≡ true
  pub spaces : list_all (λ r. is_space_test r.test) s.space ≡ true
  pub names : keeps_names s ≡ true
  pub order : has_order s ≡ true

pub closed_whole : (s : Sheet) → Whole s → is_closed s ≡ true
unfolding is_closed
closed_whole s w =
    and_from (has_good_parts s) _ w.good
    (and_from (parts_stand s) _ w.stands
    (and_from (has_different_names s) _ w.differ
    (and_from (list_all has_uri s.functions) _ w.uris
    (and_from (has_numbers s) _ w.numbers
    (and_from (list_all (λ r. is_space_test r.test) s.space) _ w.spaces
    (and_from (keeps_names s) _ w.names w.order))))))
