-- The levels of a loaded stylesheet begin where levels may.
use Rattle.std.proofs.Common.{◌≡◌, ◌≤◌, ℕ, ◌+◌, List, [], ◌∷◌, map, true, ◌&&◌, refl, sym, subst}
use Rattle.std.proofs.Common.{arith, nat_le}
use Rattle.std.proofs.lemmas.Bool.{and_from, le-leb}
use Rattle.module_loading.specs.ImportLevels.Laws.{Begin}
use Rattle.module_loading.proofs.ImportLevels.Nest.{each_first}
use Rattle.sheet_modules.specs.declared.sheet_levels.levels.SheetLevel.{SheetLevel}
use Rattle.sheet_assembly.specs.Sheets.{level_of}
use Rattle.sheet_assembly.specs.Templates.{small}
use Rattle.sheet_closure.specs.Numbers.{are_levels}
use Rattle.module_loading.specs.Laws.{first_of}
use Rattle.module_loading.specs.Trees.{Modules, links_of, all_levels}
use Rattle.module_loading.proofs.LevelLaws.{levels_same}

begin_levels : (before : ℕ) (ls : List SheetLevel) → Begin 0 before (map first_of ls)
    → are_levels before (map level_of ls) ≡ true
begin_levels before [] b = refl
begin_levels before (l ∷ ls) b =
    let low : 1 ≤ small l.first = omega (arith, b.0) in
    let high : small l.first ≤ before + 1 = omega (arith, b.1) in
    and_from (nat_le 1 (small l.first) && nat_le (small l.first) (before + 1)) _
    (and_from (nat_le 1 (small l.first)) _ (le-leb 1 (small l.first) low)
    (le-leb (small l.first) (before + 1) high))
    (begin_levels (before + 1) ls b.2)

pub tree_levels : (tree : Modules) → are_levels 0 (map level_of (all_levels tree)) ≡ true
tree_levels tree =
    begin_levels 0 (all_levels tree)
    (subst (Begin 0 0) (sym (levels_same tree)) (each_first (links_of tree)).begin)
