-- How many modules and levels there are.
use Rattle.std.proofs.Common.{◌≡◌, ◌≤◌, ℕ, ◌+◌, List, ◌∷◌, ◌++◌, Bool, true, false, length, length-append, arith, refl}
use Rattle.module_loading.specs.ImportLevels.Levels.{Links, level_count}
use Rattle.sheet_modules.specs.declared.sheet_levels.levels.Span.{Span}
use Rattle.sheet_modules.specs.declared.sheet_levels.levels.SheetLevel.{SheetLevel}
use Rattle.module_loading.specs.declared.loaded.LoadedModule.{LoadedModule}
use Rattle.module_loading.specs.Trees.{Modules, none, linked, listed, module_count, link_by, links_of}
use Rattle.module_loading.specs.Trees.{spans, opened, more_levels, levels}

pub length-listed : (t : Modules) → length (listed t) ≡ module_count t
length-listed none = refl
length-listed (linked link m below rest) =
    let a = length-append (listed below) (listed rest) in
    let b = length-listed below in
    let c = length-listed rest in
    omega (arith, a, b, c)

pub level_count-link_by : (i : Bool) (below rest : Links)
    → level_count (link_by i below rest) ≡ more_levels i (level_count below) + level_count rest
level_count-link_by true below rest = refl
level_count-link_by false below rest = refl

length-opened : (i : Bool) (before n : ℕ) (own : List Span)
    → n + length (opened i before own) ≡ more_levels i n
length-opened true before n own = refl
length-opened false before n own = omega arith

pub length-levels : (before count : ℕ) (t : Modules)
    → length (levels before count t) ≡ level_count (links_of t)
length-levels before count none = refl
length-levels before count (linked link m below rest) =
    let own : List Span = spans count 0 (count + 1) below in
    let under : List SheetLevel = levels before (count + 1) below in
    let one : List SheetLevel = opened link.import before own in
    let more : List SheetLevel =
    levels (before + more_levels link.import (level_count (links_of below)))
    (count + 1 + module_count below) rest in
    let a = length-append under (one ++ more) in
    let b = length-append one more in
    let c = length-levels before (count + 1) below in
    let d = length-levels (before + more_levels link.import (level_count (links_of below)))
    (count + 1 + module_count below) rest in
    let e = length-opened link.import before (level_count (links_of below)) own in
    let f = level_count-link_by link.import (links_of below) (links_of rest) in
    omega (arith, a, b, c, d, e, f)

pub at_most_one : (i : Bool) (n : ℕ) → more_levels i n ≤ n + 1
at_most_one true n = omega arith
at_most_one false n = omega arith

-- each level has a module
pub levels_fit : (t : Modules) → level_count (links_of t) ≤ module_count t
levels_fit none = omega arith
levels_fit (linked link m below rest) =
    let a = levels_fit below in
    let b = levels_fit rest in
    let c = at_most_one link.import (level_count (links_of below)) in
    let d = level_count-link_by link.import (links_of below) (links_of rest) in
    omega (arith, a, b, c, d)

-- how many levels there are after a link
pub length-with_link : (i : Bool) (old : List SheetLevel) (count : ℕ) (below : Modules)
    (own : List Span)
    → length (old ++ (levels (length old) (count + 1) below ++ opened i (length old) own))
    ≡ length old + more_levels i (level_count (links_of below))
length-with_link i old count below own =
    let a = length-append old (levels (length old) (count + 1) below ++ opened i (length old) own) in
    let b = length-append (levels (length old) (count + 1) below) (opened i (length old) own) in
    let c = length-levels (length old) (count + 1) below in
    let d = length-opened i (length old) (level_count (links_of below)) own in
    omega (arith, a, b, c, d)

pub length-with_modules : (old : List LoadedModule) (m : LoadedModule) (below : Modules)
    → length (old ++ (m ∷ listed below)) ≡ length old + 1 + module_count below
length-with_modules old m below =
    let a = length-append old (m ∷ listed below) in
    let b = length-listed below in
    omega (arith, a, b)
