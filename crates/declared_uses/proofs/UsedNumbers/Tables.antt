-- The tables of a loaded stylesheet have all names that its modules name.
use Rattle.std.proofs.Common.{◌≡◌, ◌≤◌, ◌<◌, ℕ, zero, suc, ◌+◌, List, [], ◌∷◌, ◌++◌, length, Bool}
use Rattle.std.proofs.Common.{true, false, cond, ◌&&◌, ◌||◌, ◌==◌, Option, Some, None, slice_get, nat_eq}
use Rattle.std.proofs.Common.{refl, sym, ap, subst, ◌∙◌, arith, inl, inr, length-append}
use Rattle.std.proofs.lemmas.Bool.{and_parts, or_cases, or_left, or_right, eq-eqb, eqb-true}
use Rattle.std.proofs.lemmas.Bool.{cases_lt, cases_eq}
use Rattle.std.proofs.lemmas.List.Folds.{list_any-append}
use Rattle.std.specs.List.{list_all, list_any}
use Rattle.xt_names.specs.declared.names.ExprName.{ExprName}
use Rattle.module_loading.specs.ImportLevels.Levels.{level_count}
use Rattle.sheet_modules.specs.declared.sheet_levels.levels.Span.{Span}
use Rattle.sheet_modules.specs.declared.sheet_levels.levels.SheetLevel.{SheetLevel}
use Rattle.sheet_table.specs.declared.sheet_nodes.nodes.Node.{Node}
use Rattle.sheet_table.specs.declared.sheet_nodes.nodes.Node.TheViews.{out-Node}
use Rattle.sheet_table.specs.declared.sheet_nodes.nodes.Node.TheOpen.{Node-F, Elem, Chars}
use Rattle.module_loading.specs.declared.loaded.LoadedModule.{LoadedModule}
use Rattle.module_loading.specs.Trees.{Modules, none, linked, listed, module_count, span, included, spans}
use Rattle.module_loading.specs.Trees.{opened, more_levels, levels, all_levels, links_of}
use Rattle.module_loading.specs.ModuleReader.Modules.{module_nodes, nodes_names, root_bound, root_names, with_called}
use Rattle.module_loading.specs.ModuleReader.Modules.{with_modes}
use Rattle.module_loading.specs.declared.module_reader.mentions.Mention.{Mention}
use Rattle.module_loading.specs.declared.module_reader.mentions.Mention.TheVariants as mention
use Rattle.loaded_sheets.specs.LoadedParts.Names.{with_levels, with_module, with_span, with_spans}
use Rattle.loaded_sheets.specs.declared.loaded_parts.names.SheetNames.{SheetNames}
use Rattle.declared_uses.proofs.UsedNumbers.Covers.{Sub, covers_top, tops_covered, top_grows, top_first}
use Rattle.declared_uses.proofs.UsedNumbers.Covers.{FirstIsDefault}

-- a module of which the table has all names
abbrev pub RootCovered : Mention → List ExprName → Node-F Node → Type 0
RootCovered m table (Elem own name attributes kids) =
    list_all (covers_top m table (root_bound own)) kids ≡ true
RootCovered m table (Chars t) = Unit {0}

abbrev pub NodesCovered : Mention → List ExprName → List Node → Type 0
NodesCovered m table [] = Unit {0}
NodesCovered m table (n ∷ ns) = RootCovered m table (out-Node n)

abbrev pub nodes_in : LoadedModule → List Node
nodes_in m = module_nodes m.scoped.tree m.scoped.declared

abbrev pub table_of : Mention → SheetNames → List ExprName
table_of mention.Modes names = names.modes
table_of mention.Called names = names.called

module _ (m : Mention) where
  root_covered : (f : Node-F Node) (table whole : List ExprName) → Sub (root_names m f table) whole
      → RootCovered m whole f
  root_covered (Elem own name attributes kids) table whole s =
      tops_covered m kids (root_bound own) table whole s
  root_covered (Chars t) table whole s = tt

  nodes_covered : (ns : List Node) (table whole : List ExprName) → Sub (nodes_names m ns table) whole
      → NodesCovered m whole ns
  nodes_covered [] table whole s = tt
  nodes_covered (n ∷ ns) table whole s = root_covered (out-Node n) table whole s

  root_grows : (f : Node-F Node) (table : List ExprName) → Sub table (root_names m f table)
  root_grows (Elem own name attributes kids) table = top_grows m kids (root_bound own) table
  root_grows (Chars t) table = λ n h. h

  nodes_grow : (ns : List Node) (table : List ExprName) → Sub table (nodes_names m ns table)
  nodes_grow [] table = λ n h. h
  nodes_grow (n ∷ ns) table = root_grows (out-Node n) table

  root_first : (f : Node-F Node) (table : List ExprName) → FirstIsDefault table
      → FirstIsDefault (root_names m f table)
  root_first (Elem own name attributes kids) table f = top_first m kids (root_bound own) table f
  root_first (Chars t) table f = f

  nodes_first : (ns : List Node) (table : List ExprName) → FirstIsDefault table
      → FirstIsDefault (nodes_names m ns table)
  nodes_first [] table f = f
  nodes_first (n ∷ ns) table f = root_first (out-Node n) table f

module_table : (m : Mention) (one : LoadedModule) (names : SheetNames)
    → table_of m (with_module (Some one) names) ≡ nodes_names m (nodes_in one) (table_of m names)
unfolding with_modes with_called
module_table mention.Modes one names = refl
module_table mention.Called one names = refl

-- pieces of modules from the first child of the root on
abbrev is_start : ℕ → Span → Bool
is_start at s = (s.from == 0) && nat_eq s.place at

abbrev pub starts : ℕ → List Span → Bool
starts at ss = list_any (is_start at) ss

abbrev pub level_starts : ℕ → List SheetLevel → Bool
level_starts at ls = list_any (λ l. starts at l.spans) ls

module _ (m : Mention) (ms : List LoadedModule) where
  some_grows : (o : Option LoadedModule) (names : SheetNames)
      → Sub (table_of m names) (table_of m (with_module o names))
  some_grows None names = λ n h. h
  some_grows (Some one) names =
      subst (Sub (table_of m names)) (sym (module_table m one names))
      (nodes_grow m (nodes_in one) (table_of m names))

  some_first : (o : Option LoadedModule) (names : SheetNames) → FirstIsDefault (table_of m names)
      → FirstIsDefault (table_of m (with_module o names))
  some_first None names f = f
  some_first (Some one) names f =
      subst FirstIsDefault (sym (module_table m one names))
      (nodes_first m (nodes_in one) (table_of m names) f)

  span_grows : (s : Span) (names : SheetNames)
      → Sub (table_of m names) (table_of m (with_span ms s names))
  span_grows s names = go (s.from == 0)
    where
      go : (b : Bool) → Sub (table_of m names)
          (table_of m (cond b (with_module (slice_get ms s.place) names) names))
      go true = some_grows (slice_get ms s.place) names
      go false = λ n h. h

  span_first : (s : Span) (names : SheetNames) → FirstIsDefault (table_of m names)
      → FirstIsDefault (table_of m (with_span ms s names))
  span_first s names f = go (s.from == 0)
    where
      go : (b : Bool)
          → FirstIsDefault (table_of m (cond b (with_module (slice_get ms s.place) names) names))
      go true = some_first (slice_get ms s.place) names f
      go false = f

  spans_grow : (ss : List Span) (names : SheetNames)
      → Sub (table_of m names) (table_of m (with_spans ms ss names))
  spans_grow [] names n h = h
  spans_grow (s ∷ ss) names n h = spans_grow ss (with_span ms s names) n (span_grows s names n h)

  spans_first : (ss : List Span) (names : SheetNames) → FirstIsDefault (table_of m names)
      → FirstIsDefault (table_of m (with_spans ms ss names))
  spans_first [] names f = f
  spans_first (s ∷ ss) names f = spans_first ss (with_span ms s names) (span_first s names f)

  levels_grow : (ls : List SheetLevel) (names : SheetNames)
      → Sub (table_of m names) (table_of m (with_levels ms ls names))
  levels_grow [] names n h = h
  levels_grow (l ∷ ls) names n h =
      levels_grow ls (with_spans ms l.spans names) n (spans_grow l.spans names n h)

  pub levels_first : (ls : List SheetLevel) (names : SheetNames) → FirstIsDefault (table_of m names)
      → FirstIsDefault (table_of m (with_levels ms ls names))
  levels_first [] names f = f
  levels_first (l ∷ ls) names f =
      levels_first ls (with_spans ms l.spans names) (spans_first l.spans names f)

  module _ (at : ℕ) (one : LoadedModule) (there : slice_get ms at ≡ Some one)
      (whole : List ExprName) where
    span_covers : (s : Span) (names : SheetNames) → is_start at s ≡ true
        → Sub (table_of m (with_span ms s names)) whole → NodesCovered m whole (nodes_in one)
    span_covers s names h sub =
        let k = and_parts (s.from == 0) (nat_eq s.place at) h in
        let here : slice_get ms s.place ≡ Some one =
        ap (slice_get ms) (eqb-true s.place at k.1) ∙ there in
        nodes_covered m (nodes_in one) (table_of m names) whole
        (subst (λ t. Sub t whole) (module_table m one names)
        (subst (λ (o : Option LoadedModule). Sub (table_of m (with_module o names)) whole) here
        (subst (λ (b : Bool). Sub (table_of m (cond b (with_module (slice_get ms s.place) names) names))
        whole) k.0 sub)))

    spans_cover : (ss : List Span) (names : SheetNames) → starts at ss ≡ true
        → Sub (table_of m (with_spans ms ss names)) whole → NodesCovered m whole (nodes_in one)
    spans_cover [] names h sub = absurd cc
    spans_cover (s ∷ ss) names h sub =
        elim (or_cases (is_start at s) (starts at ss) h) [
          | inl e ↦ span_covers s names e (λ n i. sub n (spans_grow ss (with_span ms s names) n i))
          | inr k ↦ spans_cover ss (with_span ms s names) k sub
        ]

    pub levels_cover : (ls : List SheetLevel) (names : SheetNames) → level_starts at ls ≡ true
        → Sub (table_of m (with_levels ms ls names)) whole → NodesCovered m whole (nodes_in one)
    levels_cover [] names h sub = absurd cc
    levels_cover (l ∷ ls) names h sub =
        elim (or_cases (starts at l.spans) (level_starts at ls) h) [
          | inl e ↦ spans_cover l.spans names e
              (λ n i. sub n (levels_grow ls (with_spans ms l.spans names) n i))
          | inr k ↦ levels_cover ls (with_spans ms l.spans names) k sub
        ]

-- each module of a tree starts somewhere
own_start : (at : ℕ) (to : Option ℕ) (rest : List Span) → starts at (span at 0 to ∷ rest) ≡ true
own_start at to rest = or_left (nat_eq at at) _ (eq-eqb at at refl)

first_starts : (at count : ℕ) (tree : Modules) → starts at (spans at 0 count tree) ≡ true
first_starts at count none = own_start at None []
first_starts at count (linked link m below rest) =
    own_start at (Some link.before) (included link.import (spans count 0 (count + 1) below)
    ++ spans at link.before (count + 1 + module_count below) rest)

module _ (i : ℕ) where
  span_there : (import : Bool) (before : ℕ) (own others : List Span) (front back : List SheetLevel)
      → starts i own ≡ true
      → (starts i (included import own ++ others)
      || level_starts i (front ++ (opened import before own ++ back))) ≡ true
  span_there true before own others front back h =
      or_right (starts i others) _
      (list_any-append (λ l. starts i l.spans) front _
      ∙ or_right (level_starts i front) _ (or_left (starts i own) _ h))
  span_there false before own others front back h =
      or_left (starts i (own ++ others)) _
      (list_any-append (is_start i) own others ∙ or_left (starts i own) _ h)

  others_there : (import : Bool) (before : ℕ) (own others : List Span) (front back : List SheetLevel)
      → (starts i others || level_starts i back) ≡ true
      → (starts i (included import own ++ others)
      || level_starts i (front ++ (opened import before own ++ back))) ≡ true
  others_there import before own others front back h =
      elim (or_cases (starts i others) (level_starts i back) h) [
        | inl e ↦ or_left (starts i (included import own ++ others)) _
            (list_any-append (is_start i) (included import own) others
            ∙ or_right (starts i (included import own)) _ e)
        | inr k ↦ or_right (starts i (included import own ++ others)) _
            (list_any-append (λ l. starts i l.spans) front (opened import before own ++ back)
            ∙ or_right (level_starts i front) _
            (list_any-append (λ l. starts i l.spans) (opened import before own) back
            ∙ or_right (level_starts i (opened import before own)) _ k))
      ]

  front_there : (spanned : Bool) (front back : List SheetLevel) → level_starts i front ≡ true
      → (spanned || level_starts i (front ++ back)) ≡ true
  front_there spanned front back h =
      or_right spanned _
      (list_any-append (λ l. starts i l.spans) front back ∙ or_left (level_starts i front) _ h)

  behind_first : (a b c : Bool) → (b || c) ≡ true → ((a || b) || c) ≡ true
  behind_first true b c h = refl
  behind_first false b c h = h

  tree_starts : (tree : Modules) (before count at from : ℕ) → count ≤ i
      → i < count + module_count tree
      → (starts i (spans at from count tree) || level_starts i (levels before count tree)) ≡ true
  tree_starts none before count at from low high = absurd (omega (arith, low, high))
  tree_starts (linked link m below rest) before count at from low high =
      let own = spans count 0 (count + 1) below in
      let others = spans at link.before (count + 1 + module_count below) rest in
      let front = levels before (count + 1) below in
      let back = levels (before + more_levels link.import (level_count (links_of below)))
      (count + 1 + module_count below) rest in
      behind_first (is_start i (span at from (Some link.before)))
      (starts i (included link.import own ++ others))
      (level_starts i (front ++ (opened link.import before own ++ back)))
      (elim (cases_eq i count) [
        | inl e ↦ span_there link.import before own others front back
            (subst (λ (k : ℕ). starts k own ≡ true) (sym e) (first_starts count (count + 1) below))
        | inr other ↦ elim (cases_lt i (count + 1 + module_count below)) [
          | inl less ↦
              let above : count + 1 ≤ i = after low other in
              elim (or_cases (starts i own) (level_starts i front)
              (tree_starts below before (count + 1) count 0 above less)) [
                | inl e ↦ span_there link.import before own others front back e
                | inr k ↦ front_there (starts i (included link.import own ++ others)) front
                    (opened link.import before own ++ back) k
              ]
          | inr past ↦ others_there link.import before own others front back
              (tree_starts rest (before + more_levels link.import (level_count (links_of below)))
              (count + 1 + module_count below) at link.before past (omega (arith, high)))
        ]
      ])
    where
      after : count ≤ i → (i ≡ count → ⊥) → count + 1 ≤ i
      after low other = elim (cases_lt count i) [
        | inl less ↦ omega (arith, less)
        | inr past ↦ absurd (other (omega (arith, low, past)))
      ]

pub all_start : (tree : Modules) (i : ℕ) → i < 1 + module_count tree
    → level_starts i (all_levels tree) ≡ true
all_start tree zero less =
    list_any-append (λ l. starts 0 l.spans) (levels 0 1 tree) _
    ∙ or_right (level_starts 0 (levels 0 1 tree)) _
    (or_left (starts 0 (spans 0 0 1 tree)) _ (first_starts 0 1 tree))
all_start tree (suc i) less =
    list_any-append (λ l. starts (suc i) l.spans) (levels 0 1 tree) _
    ∙ elim (or_cases (starts (suc i) (spans 0 0 1 tree)) (level_starts (suc i) (levels 0 1 tree))
    (tree_starts (suc i) tree 0 1 0 0 (omega arith) (omega (arith, less)))) [
      | inl e ↦ or_right (level_starts (suc i) (levels 0 1 tree)) _
          (or_left (starts (suc i) (spans 0 0 1 tree)) _ e)
      | inr k ↦ or_left (level_starts (suc i) (levels 0 1 tree)) _ k
    ]

pub many_listed : (tree : Modules) → length (listed tree) ≡ module_count tree
many_listed none = refl
many_listed (linked link m below rest) =
    let b = many_listed below in
    let r = many_listed rest in
    let a = length-append (listed below) (listed rest) in
    omega (arith, b, r, a)
