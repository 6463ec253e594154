-- How what the links lead to is put together.
use Rattle.std.proofs.Common.{◌≡◌, ◌≤◌, ◌<◌, ℕ, ◌+◌, List, [], ◌∷◌, ◌++◌, Bool, false, length, arith, refl, sym, ap, subst, ◌∙◌, append_assoc, append-nil, drop, get_or, Result, Ok, Err, OnOk, Some, None}
use Rattle.xt_names.proofs.ListLemmas.{drop_at}
use Rattle.doc_reader.specs.declared.Scoped.{Scoped}
use Rattle.module_loading.specs.ImportLevels.Levels.{level_count}
use Rattle.sheet_modules.specs.ModuleNames.Names.{resolved}
use Rattle.sheet_modules.specs.declared.links.Link.{Link}
use Rattle.sheet_modules.specs.declared.sheet_levels.levels.Span.{Span}
use Rattle.sheet_modules.specs.declared.sheet_levels.levels.SheetLevel.{SheetLevel}
use Rattle.module_loading.specs.declared.loaded.LoadedModule.{LoadedModule}
use Rattle.module_loading.specs.declared.loaded.LoadedSheet.{LoadedSheet}
use Rattle.module_loading.specs.declared.walk.Pieces.{Pieces}
use Rattle.module_loading.specs.Held.{Holdings, HoldsModule}
use Rattle.module_loading.specs.Trees.{Modules, none, linked, listed, module_count, links_of, span, included}
use Rattle.module_loading.specs.Trees.{spans, opened, more_levels, levels}
use Rattle.module_loading.specs.Walk.{LeadTo, most_modules, is_loading}
use Rattle.module_loading.specs.Loads.{AddsModule, LoadsModule, LoadsLink, LoadsLinks, IsLoadedSheet, Places}
use Rattle.module_loading.proofs.Trees.{length-with_link, length-with_modules, levels_fit, at_most_one}

emptied : (e : LoadedSheet) → e.modules ≡ [] → e.levels ≡ [] → e ≡ record { modules = []; levels = [] }
emptied e m k =
    ap (λ (l : List LoadedModule). record { modules = l; levels = e.levels }) m
    ∙ ap (λ (l : List SheetLevel). record { modules = []; levels = l }) k

joined : (a : List Span) (x : Span) (b c : List Span) → ((a ++ x ∷ []) ++ b) ++ c ≡ a ++ (x ∷ (b ++ c))
joined a x b c = simp append_assoc

module _ (files : Holdings) (reads : Scoped → List Link) where
  -- a module that is loaded
  pub is_added : (name : List ℕ) (old new : LoadedSheet) (own links made_links : List Link) (made : LoadedModule)
      → made.name ≡ name → HoldsModule files name made.scoped → own ≡ reads made.scoped
      → links ≡ own → made.links ≡ links
      → new.modules ≡ old.modules ++ made ∷ [] → new.levels ≡ old.levels
      → AddsModule files reads name old new links
  is_added name old new own links made_links made n h r s l m k = record {
    made = made;
    is_module = record { named = n; held = h; linked = l ∙ s ∙ r };
    has_links = sym l;
    has_modules = m;
    has_levels = k;
  }

  -- no links
  pub no_links : (loading : List (List ℕ)) (importer : List ℕ) (sheet : LoadedSheet) (before : Pieces)
      (after : List Span) → length sheet.modules ≤ most_modules
      → after ≡ before.spans ++ span before.place before.from None ∷ []
      → LoadsLinks files reads loading importer [] sheet sheet before after
  no_links loading importer sheet before after few e = record {
    tree = none;
    lead = tt;
    has_modules = sym (append-nil sheet.modules);
    has_levels = sym (append-nil sheet.levels);
    has_spans = e;
    few = few;
  }

  levels_joined : (old : List SheetLevel) (i : Bool) (own : List Span) (count : ℕ) (below rest : Modules)
      → (old ++ (levels (length old) (count + 1) below ++ opened i (length old) own))
      ++ levels (length old + more_levels i (level_count (links_of below))) (count + 1 + module_count below) rest
      ≡ old ++ (levels (length old) (count + 1) below ++ (opened i (length old) own
      ++ levels (length old + more_levels i (level_count (links_of below))) (count + 1 + module_count below) rest))
  levels_joined old i own count below rest = simp append_assoc

  -- the first link and then the others
  pub more_links : (loading : List (List ℕ)) (importer : List ℕ) (link : Link) (rest : List Link)
      (old mid new : LoadedSheet) (before cut behind : Pieces) (after : List Span)
      → cut.place ≡ before.place → cut.from ≡ link.before
      → cut.spans ≡ before.spans ++ span before.place before.from (Some link.before) ∷ []
      → LoadsLink files reads loading importer link old mid cut behind
      → LoadsLinks files reads loading importer rest mid new behind after
      → LoadsLinks files reads loading importer (link ∷ rest) old new before after
  more_links loading importer link rest old mid new before cut behind after p f s a b =
      let count : ℕ = length old.modules in
      let own : List Span = spans count 0 (count + 1) a.below in
      let modules : length mid.modules ≡ count + 1 + module_count a.below =
      ap length a.has_modules ∙ length-with_modules old.modules a.made a.below in
      let levels_so : length mid.levels ≡ length old.levels + more_levels link.import (level_count (links_of a.below)) =
      ap length a.has_levels ∙ length-with_link link.import old.levels count a.below own in
      let place : behind.place ≡ before.place = a.same_place ∙ p in
      let from : behind.from ≡ link.before = a.same_from ∙ f in
      record {
        tree = linked link a.made a.below b.tree;
        lead = (refl, a.leads, a.lead, b.lead);
        has_modules = b.has_modules ∙ ap (λ (l : List LoadedModule). l ++ listed b.tree) a.has_modules
            ∙ append_assoc old.modules (a.made ∷ listed a.below) (listed b.tree);
        has_levels = b.has_levels
            ∙ ap (λ (n : ℕ). mid.levels ++ levels n (length mid.modules) b.tree) levels_so
            ∙ ap (λ (n : ℕ). mid.levels ++ levels (length old.levels + more_levels link.import (level_count (links_of a.below))) n b.tree) modules
            ∙ ap (λ (l : List SheetLevel). l ++ levels (length old.levels + more_levels link.import (level_count (links_of a.below))) (count + 1 + module_count a.below) b.tree) a.has_levels
            ∙ levels_joined old.levels link.import own count a.below b.tree;
        has_spans = b.has_spans
            ∙ ap (λ (n : ℕ). behind.spans ++ spans n behind.from (length mid.modules) b.tree) place
            ∙ ap (λ (n : ℕ). behind.spans ++ spans before.place n (length mid.modules) b.tree) from
            ∙ ap (λ (n : ℕ). behind.spans ++ spans before.place link.before n b.tree) modules
            ∙ ap (λ (l : List Span). l ++ spans before.place link.before (count + 1 + module_count a.below) b.tree)
            (a.has_spans ∙ ap (λ (l : List Span). l ++ included link.import own) s)
            ∙ joined before.spans (span before.place before.from (Some link.before)) (included link.import own)
            (spans before.place link.before (count + 1 + module_count a.below) b.tree);
        few = b.few;
      }

  -- what a link leads to, and its pieces in their place
  pub one_link : (loading : List (List ℕ)) (importer : List ℕ) (link : Link) (old mid new : LoadedSheet)
      (before after : Pieces) (own : List Span)
      → is_loading loading (resolved importer link.href) ≡ false
      → LoadsModule files reads loading (resolved importer link.href) old mid own
      → Places link.import (length old.levels) own mid new before after
      → LoadsLink files reads loading importer link old new before after
  one_link loading importer link old mid new before after own free a b = record {
    made = a.made;
    below = a.below;
    leads = record { free = free; held = a.is_module };
    lead = a.lead;
    has_modules = b.has_modules ∙ a.has_modules;
    has_levels = b.has_levels
        ∙ ap (λ (l : List Span). mid.levels ++ opened link.import (length old.levels) l) a.has_spans
        ∙ ap (λ (l : List SheetLevel). l ++ opened link.import (length old.levels) (spans (length old.modules) 0 (length old.modules + 1) a.below)) a.has_levels
        ∙ append_assoc old.levels (levels (length old.levels) (length old.modules + 1) a.below)
        (opened link.import (length old.levels) (spans (length old.modules) 0 (length old.modules + 1) a.below));
    same_place = b.same_place;
    same_from = b.same_from;
    has_spans = b.has_spans ∙ ap (λ (l : List Span). before.spans ++ included link.import l) a.has_spans;
    few = let e : length new.modules ≡ length mid.modules = ap length b.has_modules in omega (arith, a.few, e);
  }

  pub one_link_at : (loading : List (List ℕ)) (importer name : List ℕ) (link : Link)
      (old mid new : LoadedSheet) (before after : Pieces) (own : List Span) (levels_before : ℕ)
      → name ≡ resolved importer link.href → levels_before ≡ length old.levels
      → is_loading loading (resolved importer link.href) ≡ false
      → LoadsModule files reads loading name old mid own
      → Places link.import levels_before own mid new before after
      → LoadsLink files reads loading importer link old new before after
  one_link_at loading importer name link old mid new before after own levels_before e n free a b =
      one_link loading importer link old mid new before after own free
      (subst (λ (x : List ℕ). LoadsModule files reads loading x old mid own) e a)
      (subst (λ (k : ℕ). Places link.import k own mid new before after) n b)

  -- a module, and then all after its links
  pub one_module : (loading : List (List ℕ)) (name : List ℕ) (links : List Link) (old mid new : LoadedSheet)
      (before : Pieces) (after : List Span)
      → AddsModule files reads name old mid links
      → LoadsLinks files reads (loading ++ name ∷ []) name links mid new before after
      → before.place ≡ length old.modules → before.from ≡ 0 → before.spans ≡ []
      → LoadsModule files reads loading name old new after
  one_module loading name links old mid new before after a b p f s =
      let modules : length mid.modules ≡ length old.modules + 1 =
      ap length a.has_modules ∙ length-with_modules old.modules a.made none ∙ omega arith in
      record {
        made = a.made;
        below = b.tree;
        is_module = a.is_module;
        lead = subst (λ (ls : List Link). LeadTo files reads (loading ++ name ∷ []) name ls b.tree) a.has_links b.lead;
        has_modules = b.has_modules ∙ ap (λ (l : List LoadedModule). l ++ listed b.tree) a.has_modules
            ∙ append_assoc old.modules (a.made ∷ []) (listed b.tree);
        has_levels = b.has_levels
            ∙ ap (λ (l : List SheetLevel). l ++ levels (length l) (length mid.modules) b.tree) a.has_levels
            ∙ ap (λ (n : ℕ). old.levels ++ levels (length old.levels) n b.tree) modules;
        has_spans = b.has_spans
            ∙ ap (λ (l : List Span). l ++ spans before.place before.from (length mid.modules) b.tree) s
            ∙ ap (λ (n : ℕ). spans n before.from (length mid.modules) b.tree) p
            ∙ ap (λ (n : ℕ). spans (length old.modules) n (length mid.modules) b.tree) f
            ∙ ap (λ (n : ℕ). spans (length old.modules) 0 n b.tree) modules;
        few = b.few;
      }

  -- each level has a module
  pub fit_then : (loading : List (List ℕ)) (importer : List ℕ) (link : Link) (old new : LoadedSheet)
      (before after : Pieces) → length old.levels ≤ length old.modules
      → LoadsLink files reads loading importer link old new before after
      → length new.levels ≤ length new.modules
  fit_then loading importer link old new before after h a =
      let count : ℕ = length old.modules in
      let own : List Span = spans count 0 (count + 1) a.below in
      let modules : length new.modules ≡ count + 1 + module_count a.below =
      ap length a.has_modules ∙ length-with_modules old.modules a.made a.below in
      let levels_so : length new.levels ≡ length old.levels + more_levels link.import (level_count (links_of a.below)) =
      ap length a.has_levels ∙ length-with_link link.import old.levels count a.below own in
      let fit = levels_fit a.below in
      let one = at_most_one link.import (level_count (links_of a.below)) in
      omega (arith, h, modules, levels_so, fit, one)

  -- each link has a module
  pub grows : (loading : List (List ℕ)) (importer : List ℕ) (link : Link) (old new : LoadedSheet)
      (before after : Pieces) → LoadsLink files reads loading importer link old new before after
      → length old.modules < length new.modules
  grows loading importer link old new before after a =
      let modules : length new.modules ≡ length old.modules + 1 + module_count a.below =
      ap length a.has_modules ∙ length-with_modules old.modules a.made a.below in
      omega (arith, modules)

  -- the whole stylesheet
  whole : (name : List ℕ) (loaded sheet : LoadedSheet) (own : List Span)
      → LoadsModule files reads [] name (record { modules = []; levels = [] }) loaded own
      → sheet.modules ≡ loaded.modules
      → sheet.levels ≡ loaded.levels ++ record { first = 1; spans = own } ∷ []
      → IsLoadedSheet files reads name sheet
  whole name loaded sheet own a s t = record {
    first = a.made;
    tree = a.below;
    is_first = a.is_module;
    lead = a.lead;
    has_modules = s ∙ a.has_modules;
    has_levels = t
        ∙ ap (λ (l : List SheetLevel). l ++ record { first = 1; spans = own } ∷ []) a.has_levels
        ∙ ap (λ (l : List Span). levels 0 1 a.below ++ record { first = 1; spans = l } ∷ []) a.has_spans;
    few = let e : length sheet.modules ≡ length loaded.modules = ap length s in omega (arith, a.few, e);
  }

  -- a module, and then all after its links, as the importer tells them
  pub one_module_at : (loading within : List (List ℕ)) (name importer : List ℕ) (links slice : List Link)
      (held_then : Holdings) (old mid new : LoadedSheet) (before : Pieces) (after : List Span)
      → within ≡ loading ++ name ∷ [] → importer ≡ name → slice ≡ links → held_then ≡ files
      → AddsModule files reads name old mid links
      → LoadsLinks held_then reads within importer slice mid new before after
      → before.place ≡ length old.modules → before.from ≡ 0 → before.spans ≡ []
      → LoadsModule files reads loading name old new after
  one_module_at loading within name importer links slice held_then old mid new before after w i s h a b p f e =
      one_module loading name links old mid new before after a
      (subst (λ (l : List (List ℕ)). LoadsLinks files reads l name links mid new before after) w
      (subst (λ (n : List ℕ). LoadsLinks files reads within n links mid new before after) i
      (subst (λ (ls : List Link). LoadsLinks files reads within importer ls mid new before after) s
      (subst (λ (k : Holdings). LoadsLinks k reads within importer slice mid new before after) h b))))
      p f e

  -- the first link and then the others, where files are held as before
  pub more_links_at : (loading : List (List ℕ)) (importer : List ℕ) (link : Link) (rest links : List Link)
      (held_then : Holdings) (old mid new : LoadedSheet) (before cut behind : Pieces) (after : List Span)
      → links ≡ link ∷ rest → held_then ≡ files
      → cut.place ≡ before.place → cut.from ≡ link.before
      → cut.spans ≡ before.spans ++ span before.place before.from (Some link.before) ∷ []
      → LoadsLink files reads loading importer link old mid cut behind
      → LoadsLinks held_then reads loading importer rest mid new behind after
      → LoadsLinks files reads loading importer links old new before after
  more_links_at loading importer link rest links held_then old mid new before cut behind after l h p f s a b =
      subst (λ (ls : List Link). LoadsLinks files reads loading importer ls old new before after) (sym l)
      (more_links loading importer link rest old mid new before cut behind after p f s a
      (subst (λ (k : Holdings). LoadsLinks k reads loading importer rest mid new behind after) h b))

  -- the whole stylesheet, as its name is made a text
  pub whole_at : (name text : List ℕ) (loading : List (List ℕ)) (empty loaded sheet : LoadedSheet)
      (own : List Span) → text ≡ name → loading ≡ [] → empty.modules ≡ [] → empty.levels ≡ []
      → LoadsModule files reads loading text empty loaded own
      → sheet.modules ≡ loaded.modules
      → sheet.levels ≡ loaded.levels ++ record { first = 1; spans = own } ∷ []
      → IsLoadedSheet files reads name sheet
  whole_at name text loading empty loaded sheet own n l m k a s t =
      whole name loaded sheet own
      (subst (λ (e : LoadedSheet). LoadsModule files reads [] name e loaded own) (emptied empty m k)
      (subst (λ (x : List ℕ). LoadsModule files reads [] x empty loaded own) n
      (subst (λ (x : List (List ℕ)). LoadsModule files reads x text empty loaded own) l a))) s t

  -- one more module
  pub added_size : (name : List ℕ) (old new : LoadedSheet) (links : List Link)
      → AddsModule files reads name old new links
      → (length new.modules ≡ length old.modules + 1) × (length new.levels ≡ length old.levels)
  added_size name old new links a = (
    ap length a.has_modules ∙ length-with_modules old.modules a.made none ∙ omega arith,
    ap length a.has_levels,
  )

  -- no links, as the list of them tells
  pub no_links_at : (loading : List (List ℕ)) (importer : List ℕ) (links : List Link)
      (sheet : LoadedSheet) (before : Pieces) (after : List Span) → length links < 1
      → length sheet.modules ≤ most_modules
      → after ≡ before.spans ++ span before.place before.from None ∷ []
      → LoadsLinks files reads loading importer links sheet sheet before after
  no_links_at loading importer [] sheet before after none_so few e =
      no_links loading importer sheet before after few e
  no_links_at loading importer (l ∷ ls) sheet before after none_so few e = absurd (omega (arith, none_so))

-- a list with a first link
pub parted : (links rest : List Link) (link : Link) → 1 ≤ length links → link ≡ get_or links 0 link
    → rest ≡ drop 1 links → links ≡ link ∷ rest
parted links rest link some e r =
    let h : 0 < length links = omega (arith, some) in
    let here : links ≡ link ∷ drop 1 links = drop_at links 0 link h e in
    here ∙ ap (λ (ls : List Link). link ∷ ls) (sym r)

pub on_ok : {T E : Type 0} (r : Result T E) (A B : Type 0) → (A → B) → OnOk r A → OnOk r B
on_ok (Ok x) A B f h = f h
on_ok (Err e) A B f h = h
