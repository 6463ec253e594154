-- Loaded stylesheets are good.
use Rattle.std.proofs.Common.{◌≡◌, ℕ, zero, suc, List, [], ◌∷◌, ◌++◌, map, length, Bool, true}
use Rattle.std.proofs.Common.{slice_get, refl, sym, subst}
use Rattle.std.proofs.lemmas.Bool.{and_parts, and_from}
use Rattle.std.specs.List.{list_all, range_with_len}
use Rattle.xt_sheets.specs.declared.sheets.Global.{Global}
use Rattle.xt_sheets.specs.declared.sheets.Sheet.{Sheet}
use Rattle.closed_queries.specs.Closed.{is_good_kind}
use Rattle.closed_sheets.specs.Sheets.{are_sound_modes, if_sound_name, is_good_sheet_template}
use Rattle.sheet_closure.specs.StandingParts.Sheets.{template_stands}
use Rattle.doc_reader.specs.declared.Scoped.{Scoped}
use Rattle.sheet_modules.specs.declared.links.Link.{Link}
use Rattle.sheet_closure.specs.Numbers.{are_levels}
use Rattle.sheet_assembly.specs.Named.{at, ordered}
use Rattle.sheet_assembly.specs.Sheets.{Parts, level_of}
use Rattle.sheet_assembly.specs.Templates.{no_template}
use Rattle.module_loading.specs.Held.{Holdings}
use Rattle.module_loading.specs.Loads.{IsLoadedSheet}
use Rattle.module_loading.specs.declared.loaded.LoadedSheet.{LoadedSheet}
use Rattle.loaded_sheets.specs.Sheets.{declarations_in, declared_in, names_in, own_faults}
use Rattle.loaded_sheets.specs.Sheets.{sheet_value}
use Rattle.loaded_sheets.specs.Wholes.{declared_sheet, evaluation_order, in_order, with_order}
use Rattle.assembly_laws.specs.Laws.{declares, declares_spaces, has_asked, PartsAreDeclared}
use Rattle.assembly_laws.specs.Laws.{SpacesAreDeclared}
use Rattle.closed_parts.specs.Closed.{closed_part, closed_space}
use Rattle.closed_parts.proofs.Sheets.{GoodSheet, good_sheet}
use Rattle.closed_parts.proofs.Tops.{top_closed, top_spaces}
use Rattle.import_tree.proofs.GoodStylesheets.Declarations.{loaded_closed, trees_sound, declarations_good}
use Rattle.import_tree.proofs.GoodStylesheets.Modes.{modes_named}
use Rattle.import_tree.proofs.GoodStylesheets.Levels.{tree_levels}

-- what the stylesheet is made of, with its globals in declaration order
abbrev parts_in : LoadedSheet → Parts
parts_in l = record {
  declarations = declarations_in l;
  modes = (names_in l).modes;
  called = (names_in l).called;
  levels = l.levels;
  order = range_with_len 0 (length (declarations_in l));
}

-- the template without content, which stands where none is declared
none_closed : closed_part.of_template no_template ≡ true
unfolding is_good_sheet_template template_stands is_good_kind if_sound_name
none_closed = refl

-- what globals have, they have in whatever order
module _ (q : Global → Bool) where
  at_all : (gs : List Global) (i : ℕ) (xs : List Global) → list_all q gs ≡ true
      → list_all q xs ≡ true → list_all q (at (slice_get gs i) ++ xs) ≡ true
  at_all [] zero xs h i = i
  at_all [] (suc n) xs h i = i
  at_all (g ∷ gs) zero xs h i = and_from (q g) _ (and_parts (q g) (list_all q gs) h).0 i
  at_all (g ∷ gs) (suc n) xs h i = at_all gs n xs (and_parts (q g) (list_all q gs) h).1 i

  ordered_all : (gs : List Global) (places : List ℕ) → list_all q gs ≡ true
      → list_all q (ordered gs places) ≡ true
  ordered_all gs [] h = refl
  ordered_all gs (i ∷ places) h = at_all gs i (ordered gs places) h (ordered_all gs places h)

-- in another order of its globals a stylesheet has what is asked of its parts
ordered_asked : (order : List ℕ) (s : Sheet) → has_asked closed_part s ≡ true
    → has_asked closed_part (with_order order s) ≡ true
ordered_asked order s h =
    let k = and_parts (list_all closed_part.of_global s.globals) _ h in
    and_from _ _ (ordered_all closed_part.of_global s.globals order k.0) k.1

module _ (parts : PartsAreDeclared) (spaces : SpacesAreDeclared) (files : Holdings)
    (reads : Scoped → List Link) (name : List ℕ) (l : LoadedSheet)
    (i : IsLoadedSheet files reads name l) (e : own_faults l ≡ []) where
  declared_asked : has_asked closed_part (declared_in l) ≡ true
  unfolding declared_sheet
  declared_asked =
      parts closed_part (parts_in l) none_closed
      (loaded_closed (declares closed_part) top_closed files reads name l i e)

  declared_spaces : list_all closed_space (declared_in l).space ≡ true
  unfolding declared_sheet
  declared_spaces =
      spaces closed_space (parts_in l)
      (loaded_closed (declares_spaces closed_space) top_spaces files reads name l i e)

  declared_modes : are_sound_modes (declared_in l).modes ≡ true
  unfolding declared_sheet
  declared_modes =
      modes_named l.modules (trees_sound files reads name l i)
      (declarations_good files reads name l i) l.levels

  pub loaded_good : GoodSheet (sheet_value l)
  unfolding sheet_value in_order
  loaded_good =
      good_sheet (with_order (evaluation_order (declared_in l)) (declared_in l))
      (ordered_asked (evaluation_order (declared_in l)) (declared_in l) declared_asked)
      declared_modes declared_spaces

pub levels_stand : (files : Holdings) (reads : Scoped → List Link) (name : List ℕ)
    (l : LoadedSheet) → IsLoadedSheet files reads name l
    → are_levels 0 (sheet_value l).levels ≡ true
unfolding sheet_value in_order declared_sheet
levels_stand files reads name l i =
    subst (λ ls. are_levels 0 (map level_of ls) ≡ true) (sym i.has_levels) (tree_levels i.tree)
