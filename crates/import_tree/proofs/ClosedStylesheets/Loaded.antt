-- Loaded stylesheets that break no rule are closed.
use Rattle.std.proofs.Common.{◌≡◌, ℕ, List, [], true}
use Rattle.doc_reader.specs.declared.Scoped.{Scoped}
use Rattle.sheet_modules.specs.declared.links.Link.{Link}
use Rattle.sheet_closure.specs.Closed.{is_closed}
use Rattle.sheet_closure.specs.Declared.{keeps_names}
use Rattle.sheet_closure.specs.Numbers.{has_order}
use Rattle.module_loading.specs.Held.{Holdings}
use Rattle.module_loading.specs.Loads.{IsLoadedSheet}
use Rattle.module_loading.specs.declared.loaded.LoadedSheet.{LoadedSheet}
use Rattle.loaded_sheets.specs.Sheets.{declarations_in, names_in, sheet_faults, sheet_value}
use Rattle.assembly_laws.proofs.Functions.{functions_are_new}
use Rattle.assembly_laws.proofs.Globals as global
use Rattle.assembly_laws.proofs.Parts.{parts_declared}
use Rattle.assembly_laws.proofs.Spaces.{spaces_declared}
use Rattle.declared_uses.proofs.WholeStylesheets.Wholes.{names_whole, order_whole}
use Rattle.import_tree.proofs.GoodStylesheets.Different.{names_apart}
use Rattle.import_tree.proofs.GoodStylesheets.Loaded.{levels_stand, loaded_good}
use Rattle.declared_uses.proofs.UsedNumbers.Loaded.{loaded_default, loaded_modes, loaded_numbers}
use Rattle.import_tree.proofs.ClosedStylesheets.Closed.{closed_whole, none_alone, none_together, of_value}
use Rattle.import_tree.proofs.ClosedStylesheets.Numbers.{numbers_in_range}

pub loaded_closed : (files : Holdings) (reads : Scoped → List Link) (name : List ℕ)
    (l : LoadedSheet) → IsLoadedSheet files reads name l → sheet_faults l ≡ []
    → is_closed (sheet_value l) ≡ true
loaded_closed files reads name l i e =
    let own = none_alone l e in
    let wide = none_together l e in
    let ds = declarations_in l in
    let modes = (names_in l).modes in
    let called = (names_in l).called in
    let good = loaded_good parts_declared spaces_declared files reads name l i own in
    closed_whole (sheet_value l) (record {
      good = good.good;
      stands = good.stands;
      differ = names_apart functions_are_new global.globals_differ l;
      uris = good.uris;
      numbers = numbers_in_range l (loaded_default l) (levels_stand files reads name l i)
          (loaded_modes files reads name l i own);
      spaces = good.spaces;
      names = of_value keeps_names l
          (names_whole ds modes called l.levels wide (loaded_numbers files reads name l i own));
      order = of_value has_order l (order_whole ds modes called l.levels wide);
    })
