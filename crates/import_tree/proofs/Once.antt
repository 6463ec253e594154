-- Files that tell what they hold hold at most one stylesheet under a name.
use Rattle.std.proofs.Common.{◌≡◌, ℕ, List, [], ◌∷◌, ◌++◌, Option, Some, refl, sym, ap, subst}
use Rattle.std.proofs.Common.{◌∙◌}
use Rattle.std.proofs.lemmas.Option.{none-some, same_Some}
use Rattle.std.specs.Str.{chars, encode_utf8_all}
use Rattle.xt_names.specs.declared.names.Binding.{Binding}
use Rattle.xt_names.specs.declared.codes.Code.{Code}
use Rattle.xt_tree.specs.declared.trees.Tree.{Tree}
use Rattle.xt_sheets.specs.declared.sheets.Sheet.{Sheet}
use Rattle.expr_names.specs.Answers.{first}
use Rattle.doc_grammar.specs.Scopes.{opened}
use Rattle.doc_grammar.specs.Lines.{text_of}
use Rattle.doc_grammar.proofs.Runs.{document_one}
use Rattle.doc_grammar.proofs.DeclaredReads.{declared_one}
use Rattle.doc_reader.specs.declared.Scoped.{Scoped}
use Rattle.sheet_modules.specs.ModuleNames.Names.{resolved}
use Rattle.sheet_modules.specs.declared.links.Link.{Link}
use Rattle.sheet_modules.specs.declared.sheet_levels.levels.SheetLevel.{SheetLevel}
use Rattle.module_loading.specs.declared.loaded.LoadedModule.{LoadedModule}
use Rattle.module_loading.specs.declared.loaded.LoadedSheet.{LoadedSheet}
use Rattle.module_loading.specs.Held.{HoldsModule, StandsFor}
use Rattle.module_loading.specs.Trees.{Modules, none, linked, listed, all_levels}
use Rattle.module_loading.specs.Walk.{IsModule, LeadTo}
use Rattle.module_loading.specs.Loads.{IsLoadedSheet}
use Rattle.loaded_sheets.specs.Sheets.{sheet_faults, sheet_value}
use Rattle.import_tree.specs.Sheets.{sheet_links, HoldsSheet, BreaksRule}

abbrev Map : Type 0
Map = List ℕ → Option (List ℕ)

bytes_once : (map : Map) (name bytes other : List ℕ)
    → map name ≡ Some bytes → map name ≡ Some other → bytes ≡ other
bytes_once map name bytes other a b = same_Some bytes other (sym a ∙ b)

stands_once : (bytes : List ℕ) (s t : Scoped) → StandsFor bytes s → StandsFor bytes t → s ≡ t
stands_once bytes s t a b =
    let trees : s.tree ≡ t.tree =
    document_one opened (text_of (chars bytes)) s.tree t.tree a.document.1 b.document.1 in
    let lists : s.declared ≡ t.declared =
    declared_one bytes s.tree t.tree s.declared t.declared a.declared b.declared in
    ap (λ (x : Tree). record { tree = x; declared = s.declared }) trees
    ∙ ap (λ (d : List (List Binding)). record { tree = t.tree; declared = d }) lists

scoped_once : (map : Map) (name : List ℕ) (s t : Scoped)
    → HoldsModule (Some map) name s → HoldsModule (Some map) name t → s ≡ t
scoped_once map name s t a b =
    let same : a.bytes ≡ b.bytes =
    bytes_once map (encode_utf8_all name) a.bytes b.bytes a.held.held b.held.held in
    stands_once b.bytes s t (subst (λ x. StandsFor x s) same a.stands) b.stands

module _ (map : Map) (reads : Scoped → List Link) where
  module_once : (name : List ℕ) (m n : LoadedModule)
      → IsModule (Some map) reads name m → IsModule (Some map) reads name n → m ≡ n
  module_once name m n a b =
      let names : m.name ≡ n.name = a.named ∙ sym b.named in
      let scopeds : m.scoped ≡ n.scoped = scoped_once map name m.scoped n.scoped a.held b.held in
      let links : m.links ≡ n.links = a.linked ∙ (ap reads scopeds ∙ sym b.linked) in
      ap (λ (x : List ℕ). record { name = x; scoped = m.scoped; links = m.links }) names
      ∙ (ap (λ (x : Scoped). record { name = n.name; scoped = x; links = m.links }) scopeds
      ∙ ap (λ (x : List Link). record { name = n.name; scoped = n.scoped; links = x }) links)

  tree_once : (loading : List (List ℕ)) (importer : List ℕ) (ls : List Link) (t u : Modules)
      → LeadTo (Some map) reads loading importer ls t → LeadTo (Some map) reads loading importer ls u
      → t ≡ u
  tree_once loading importer [] none none a b = refl
  tree_once loading importer [] none (linked k m below rest) a b = absurd b
  tree_once loading importer [] (linked k m below rest) u a b = absurd a
  tree_once loading importer (l ∷ ls) none u a b = absurd a
  tree_once loading importer (l ∷ ls) (linked k m below rest) none a b = absurd b
  tree_once loading importer (l ∷ ls) (linked k m below rest) (linked j n under more) a b =
      let file : List ℕ = resolved importer l.href in
      let inner : List (List ℕ) = loading ++ file ∷ [] in
      let links : k ≡ j = a.0 ∙ sym b.0 in
      let modules : m ≡ n = module_once file m n a.1.held b.1.held in
      let belows : below ≡ under =
      tree_once inner file n.links below under
      (subst (λ (x : LoadedModule). LeadTo (Some map) reads inner file x.links below) modules a.2) b.2 in
      let rests : rest ≡ more = tree_once loading importer ls rest more a.3 b.3 in
      ap (λ (x : Link). linked x m below rest) links
      ∙ (ap (λ (x : LoadedModule). linked j x below rest) modules
      ∙ (ap (λ (x : Modules). linked j n x rest) belows
      ∙ ap (λ (x : Modules). linked j n under x) rests))

  sheet_once : (name : List ℕ) (s t : LoadedSheet)
      → IsLoadedSheet (Some map) reads name s → IsLoadedSheet (Some map) reads name t → s ≡ t
  sheet_once name s t a b =
      let firsts : a.first ≡ b.first = module_once name a.first b.first a.is_first b.is_first in
      let trees : a.tree ≡ b.tree =
      tree_once (name ∷ []) name b.first.links a.tree b.tree
      (subst (λ (x : LoadedModule). LeadTo (Some map) reads (name ∷ []) name x.links a.tree) firsts a.lead) b.lead in
      let modules : s.modules ≡ t.modules =
      a.has_modules ∙ (ap (λ (x : LoadedModule). x ∷ listed a.tree) firsts
      ∙ (ap (λ (x : Modules). b.first ∷ listed x) trees ∙ sym b.has_modules)) in
      let levels : s.levels ≡ t.levels =
      a.has_levels ∙ (ap all_levels trees ∙ sym b.has_levels) in
      ap (λ (x : List LoadedModule). record { modules = x; levels = s.levels }) modules
      ∙ ap (λ (x : List SheetLevel). record { modules = t.modules; levels = x }) levels

pub sheets_once : (map : Map) (name : List ℕ) (s t : Sheet)
    → HoldsSheet (Some map) name s → HoldsSheet (Some map) name t → s ≡ t
sheets_once map name s t a b =
    let same : a.loaded ≡ b.loaded =
    sheet_once map sheet_links name a.loaded b.loaded a.is_sheet.is_loaded b.is_sheet.is_loaded in
    a.is_sheet.is_value ∙ (ap sheet_value same ∙ sym b.is_sheet.is_value)

pub rules_kept : (map : Map) (name : List ℕ) (s : Sheet) (code : Code)
    → HoldsSheet (Some map) name s → BreaksRule (Some map) name code → ⊥
rules_kept map name s code a b =
    let same : a.loaded ≡ b.loaded =
    sheet_once map sheet_links name a.loaded b.loaded a.is_sheet.is_loaded b.is_loaded in
    let kept : sheet_faults b.loaded ≡ [] = ap sheet_faults (sym same) ∙ a.is_sheet.keeps_rules in
    none-some code (ap first (sym kept) ∙ b.broken)

pub codes_once : (map : Map) (name : List ℕ) (c d : Code)
    → BreaksRule (Some map) name c → BreaksRule (Some map) name d → c ≡ d
codes_once map name c d a b =
    let same : a.loaded ≡ b.loaded =
    sheet_once map sheet_links name a.loaded b.loaded a.is_loaded b.is_loaded in
    same_Some c d (sym a.broken ∙ (ap (λ (x : LoadedSheet). first (sheet_faults x)) same ∙ b.broken))
