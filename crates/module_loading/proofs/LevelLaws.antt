-- The levels that are made are those of import precedence.
use Rattle.std.proofs.Common.{◌≡◌, ℕ, ◌+◌, List, [], ◌∷◌, ◌++◌, Bool, true, false, map, refl, sym, ap, ◌∙◌, arith}
use Rattle.std.proofs.lemmas.List.{map-append}
use Rattle.module_loading.specs.ImportLevels.Levels.{Links, level_count, firsts}
use Rattle.sheet_modules.specs.declared.sheet_levels.levels.Span.{Span}
use Rattle.sheet_modules.specs.declared.sheet_levels.levels.SheetLevel.{SheetLevel}
use Rattle.module_loading.specs.Trees.{Modules, none, linked, module_count, link_by, links_of, spans, opened}
use Rattle.module_loading.specs.Trees.{more_levels, levels}
use Rattle.module_loading.specs.Laws.{first_of, LevelsAreThoseOfPrecedence, IncludedModulesStandInPlace}

own_first : Bool → ℕ → List ℕ
own_first true before = (before + 1) ∷ []
own_first false before = []

firsts-link_by : (i : Bool) (before : ℕ) (below rest : Links)
    → firsts before (link_by i below rest)
    ≡ firsts before below ++ (own_first i before
    ++ firsts (before + more_levels i (level_count below)) rest)
unfolding own_first
firsts-link_by true before below rest =
    let e : before + level_count below + 1 ≡ before + (level_count below + 1) = omega arith in
    ap (λ (n : ℕ). firsts before below ++ (before + 1) ∷ firsts n rest) e
firsts-link_by false before below rest = refl

map-opened : (i : Bool) (before : ℕ) (own : List Span)
    → map first_of (opened i before own) ≡ own_first i before
unfolding own_first
map-opened true before own = refl
map-opened false before own = refl

firsts_same : (before count : ℕ) (t : Modules)
    → map first_of (levels before count t) ≡ firsts before (links_of t)
firsts_same before count none = refl
firsts_same before count (linked link m below rest) =
    let own : List Span = spans count 0 (count + 1) below in
    let under : List SheetLevel = levels before (count + 1) below in
    let one : List SheetLevel = opened link.import before own in
    let next : ℕ = before + more_levels link.import (level_count (links_of below)) in
    let more : List SheetLevel = levels next (count + 1 + module_count below) rest in
    map-append first_of under (one ++ more)
    ∙ ap (λ (l : List ℕ). map first_of under ++ l) (map-append first_of one more)
    ∙ ap (λ (l : List ℕ). l ++ (map first_of one ++ map first_of more)) (firsts_same before (count + 1) below)
    ∙ ap (λ (l : List ℕ). firsts before (links_of below) ++ (l ++ map first_of more)) (map-opened link.import before own)
    ∙ ap (λ (l : List ℕ). firsts before (links_of below) ++ (own_first link.import before ++ l))
    (firsts_same next (count + 1 + module_count below) rest)
    ∙ sym (firsts-link_by link.import before (links_of below) (links_of rest))

pub levels_same : LevelsAreThoseOfPrecedence
levels_same tree =
    map-append first_of (levels 0 1 tree) (record { first = 1; spans = spans 0 0 1 tree } ∷ [])
    ∙ ap (λ (l : List ℕ). l ++ 1 ∷ []) (firsts_same 0 1 tree)

pub in_place : IncludedModulesStandInPlace
in_place at from count link m below rest h = rw h refl

pub ruleset laws = (levels_same, in_place)
