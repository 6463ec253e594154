-- All that a loaded stylesheet declares uses numbers of names.
use Rattle.std.proofs.Common.{◌≡◌, ◌<◌, ℕ, zero, suc, List, [], ◌∷◌, length, Bool}
use Rattle.std.proofs.Common.{nat_lt}
use Rattle.std.proofs.Common.{true, false, not, ◌&&◌, Some, slice_get, refl, sym, ap, subst, ◌∙◌, arith}
use Rattle.std.proofs.lemmas.Bool.{and_parts, and_from, lt-ltb}
use Rattle.std.proofs.lemmas.List.Folds.{list_all-append}
use Rattle.std.proofs.lemmas.Option.{none-some}
use Rattle.std.specs.List.{list_all}
use Rattle.xt_names.specs.declared.codes.SheetStaticCode.TheVariants.{XTSE0200, XTUN0001}
use Rattle.xt_names.specs.declared.names.ExprName.{ExprName}
use Rattle.xt_syntax.specs.declared.exprs.Expr.{Expr}
use Rattle.xt_syntax.specs.declared.patterns.Pattern.{Pattern}
use Rattle.doc_reader.specs.declared.Scoped.{Scoped}
use Rattle.loaded_sheets.specs.SheetLanguage.Language.{sheet_reading as reading}
use Rattle.sheet_modules.specs.declared.links.Link.{Link}
use Rattle.sheet_modules.specs.declared.modules.Part.{Part}
use Rattle.sheet_modules.specs.declared.modules.Part.TheVariants as part
use Rattle.sheet_rules.specs.declared.sheet_declarations.lists.Declaration.{Declaration}
use Rattle.sheet_table.specs.declared.sheet_nodes.nodes.Node.{Node}
use Rattle.sheet_table.specs.declared.sheet_nodes.nodes.Node.TheOpen as form
use Rattle.sheet_table.specs.declared.sheet_nodes.nodes.Node.TheOpen.{Node-F}
use Rattle.sheet_table.specs.declared.sheet_nodes.nodes.Node.TheViews.{out-Node}
use Rattle.sheet_parts.specs.Tops.{top_faults, top_value}
use Rattle.sheet_rules.specs.Uses.{use_of_key, part_uses, declared_uses}
use Rattle.sheet_table.specs.Elements.{xsl_element}
use Rattle.sheet_table.specs.Rules.{attribute_faults}
use Rattle.sheet_table.specs.declared.elements.XslElement.TheVariants as element
use Rattle.sheet_values.specs.declared.sheet_texts.places.StaticContext.{StaticContext}
use Rattle.sheet_uses.specs.declared.uses.Use.{Use}
use Rattle.sheet_values.specs.Rules.{broken}
use Rattle.assembly_laws.specs.Laws.{declares_modes}
use Rattle.assembly_laws.proofs.Lists.{parts_kept}
use Rattle.module_loading.specs.Held.{Holdings}
use Rattle.module_loading.specs.Loads.{IsLoadedSheet}
use Rattle.module_loading.specs.Trees.{listed}
use Rattle.module_loading.specs.declared.loaded.LoadedModule.{LoadedModule}
use Rattle.module_loading.specs.declared.loaded.LoadedSheet.{LoadedSheet}
use Rattle.module_loading.specs.ModuleReader.Modules.{is_import, is_late, is_stylesheet, nodes_faults, nodes_value}
use Rattle.module_loading.specs.ModuleReader.Modules.{parts_faults, parts_value, placed_faults}
use Rattle.module_loading.specs.ModuleReader.Modules.{root_layer_faults, root_layer_value, root_place, tops_faults}
use Rattle.module_loading.specs.ModuleReader.Modules.{tops_value}
use Rattle.module_loading.specs.declared.module_reader.mentions.Mention.TheVariants as mention
use Rattle.loaded_sheets.specs.LoadedParts.Names.{names_alone}
use Rattle.loaded_sheets.specs.LoadedParts.Parts.{modules_faults, modules_value}
use Rattle.loaded_sheets.specs.Sheets.{declarations_in, names_in, own_faults}
use Rattle.declared_uses.proofs.AddedUses.Ends.{Adds, adding, expr_adds}
use Rattle.declared_uses.proofs.AddedUses.Bodies.{bound_adds, callee_adds, each_adds}
use Rattle.declared_uses.specs.Numbers.{has_number, have_numbers}
use Rattle.declared_uses.proofs.UsedNumbers.Covers.{FirstIsDefault, covers_top}
use Rattle.declared_uses.proofs.UsedNumbers.Tops.{is_numbered, top_made}
use Rattle.declared_uses.proofs.UsedNumbers.Walk.{At}
use Rattle.declared_uses.proofs.UsedNumbers.Tables.{RootCovered, NodesCovered, nodes_in, all_start, level_starts}
use Rattle.declared_uses.proofs.UsedNumbers.Tables.{levels_cover, levels_first, many_listed}
use Rattle.xt_names.proofs.ListLemmas.{front_nil, back_nil}

module _ (modes called : List ExprName) (first : FirstIsDefault modes) where
  tops_made : (p : StaticContext) → At reading modes called first p → (late : Bool) (ns : List Node)
      → list_all (covers_top mention.Modes modes p.bound) ns ≡ true
      → list_all (covers_top mention.Called called p.bound) ns ≡ true
      → tops_faults reading p late ns ≡ []
      → list_all (is_numbered reading modes called first) (tops_value reading p ns) ≡ true
  unfolding placed_faults
  tops_made p a late [] m c e = refl
  tops_made p a late (n ∷ ns) m c e =
      let k = and_parts (covers_top mention.Modes modes p.bound n) _ m in
      let l = and_parts (covers_top mention.Called called p.bound n) _ c in
      let here = back_nil (broken XTSE0200 (late && is_import n)) (top_faults reading p n)
      (front_nil (placed_faults reading p late n) _ e) in
      and_from (is_numbered reading modes called first (top_value reading p n)) _
      (top_made reading modes called first p n a (record { modes_in = k.0; called_in = l.0 }) here)
      (tops_made p a (is_late late n) ns k.1 l.1 (back_nil (placed_faults reading p late n) _ e))

  layer_made : (f : Node-F Node) → RootCovered mention.Modes modes f
      → RootCovered mention.Called called f → root_layer_faults reading modes called f ≡ []
      → list_all (is_numbered reading modes called first) (root_layer_value reading modes called f) ≡ true
  layer_made (form.Elem own name attributes kids) m c e =
      tops_made (root_place own modes called) (record { modes_are = refl; called_are = refl }) false
      kids m c
      (back_nil (attribute_faults element.Stylesheet attributes) _
      (back_nil (broken XTUN0001 (not (is_stylesheet (xsl_element name)))) _ e))
  layer_made (form.Chars t) m c e = absurd cc

  nodes_made : (ns : List Node) → NodesCovered mention.Modes modes ns
      → NodesCovered mention.Called called ns → nodes_faults reading modes called ns ≡ []
      → list_all (is_numbered reading modes called first) (nodes_value reading modes called ns) ≡ true
  nodes_made [] m c e = absurd cc
  nodes_made (n ∷ []) m c e = layer_made (out-Node n) m c e
  nodes_made (n ∷ k ∷ ns) m c e = absurd cc

  -- all names that the module names are there
  pub record ModuleNamed (one : LoadedModule) : Type 0 where
    pub modes_in : NodesCovered mention.Modes modes (nodes_in one)
    pub called_in : NodesCovered mention.Called called (nodes_in one)

  module_made : (one : LoadedModule) → ModuleNamed one
      → parts_faults reading modes called one.scoped.tree one.scoped.declared ≡ []
      → list_all (is_numbered reading modes called first)
      (parts_value reading modes called one.scoped.tree one.scoped.declared) ≡ true
  unfolding parts_faults parts_value
  module_made one n e = nodes_made (nodes_in one) n.modes_in n.called_in e

  abbrev AllNamed : List LoadedModule → Type 0
  AllNamed ms = (i : ℕ) (one : LoadedModule) → slice_get ms i ≡ Some one → ModuleNamed one

  modules_made : (ms : List LoadedModule) → AllNamed ms → modules_faults reading modes called ms ≡ []
      → list_all (list_all (is_numbered reading modes called first)) (modules_value reading modes called ms)
      ≡ true
  modules_made [] n e = refl
  modules_made (m ∷ ms) n e =
      let own = parts_faults reading modes called m.scoped.tree m.scoped.declared in
      and_from _ _ (module_made m (n 0 m refl) (front_nil own (modules_faults reading modes called ms) e))
      (modules_made ms (λ i one there. n (suc i) one there) (back_nil own _ e))

-- what all declarations use, one after the other
part_adds : (p : Part Expr Pattern) → Adds (part_uses p)
part_adds (part.Global g) = bound_adds g.bound
part_adds (part.Template t rules) = callee_adds t.params t.body
part_adds (part.Function f) = callee_adds f.params f.body
part_adds (part.Key keys) = each_adds use_of_key (λ k. expr_adds k.key) keys
part_adds (part.Space rules) = adding.none
part_adds (part.Output omit) = adding.none
part_adds part.Ignored = adding.none
part_adds part.Linked = adding.none

all_used : (q : Use → Bool) (ds : List (Declaration Expr Pattern)) (found : List Use)
    → list_all q found ≡ true → list_all (λ d. list_all q (part_uses d.part [] [])) ds ≡ true
    → list_all q (declared_uses ds [] found) ≡ true
all_used q [] found h k = h
all_used q (d ∷ ds) found h k =
    let p = and_parts (list_all q (part_uses d.part [] [])) _ k in
    all_used q ds (part_uses d.part [] found)
    (ap (list_all q) (part_adds d.part [] found)
    ∙ list_all-append q found (part_uses d.part [] [])
    ∙ and_from (list_all q found) _ h p.0) p.1

fronts : {A : Type 0} (q r : A → Bool) (xs : List A) → list_all (λ x. q x && r x) xs ≡ true
    → (list_all q xs ≡ true) × (list_all r xs ≡ true)
fronts q r [] h = (refl, refl)
fronts q r (x ∷ xs) h =
    let k = and_parts (q x && r x) _ h in
    let p = and_parts (q x) (r x) k.0 in
    let rest = fronts q r xs k.1 in
    (and_from (q x) _ p.0 rest.0, and_from (r x) _ p.1 rest.1)

there_less : {A : Type 0} (xs : List A) (i : ℕ) (x : A) → slice_get xs i ≡ Some x → i < length xs
there_less [] i x e = absurd (none-some _ e)
there_less (y ∷ xs) zero x e = omega arith
there_less (y ∷ xs) (suc i) x e = let less = there_less xs i x e in omega (arith, less)

some_mode : (table : List ExprName) → FirstIsDefault table → nat_lt 0 (length table) ≡ true
some_mode [] f = absurd f
some_mode (d ∷ ms) f = lt-ltb 0 (suc (length ms)) (omega arith)

first_mode : (l : LoadedSheet) → FirstIsDefault (names_in l).modes
first_mode l = levels_first mention.Modes l.modules l.levels names_alone refl

pub loaded_default : (l : LoadedSheet) → nat_lt 0 (length (names_in l).modes) ≡ true
loaded_default l = some_mode (names_in l).modes (first_mode l)

module _ (files : Holdings) (reads : Scoped → List Link) (name : List ℕ) (l : LoadedSheet)
    (i : IsLoadedSheet files reads name l) where
  first_is : FirstIsDefault (names_in l).modes
  first_is = first_mode l

  all_named : (k : ℕ) (one : LoadedModule) → slice_get l.modules k ≡ Some one
      → ModuleNamed (names_in l).modes (names_in l).called first_is one
  all_named k one there =
      let less = there_less l.modules k one there in
      let many = many_listed i.tree in
      let size : length l.modules ≡ suc (length (listed i.tree)) = ap length i.has_modules in
      let started = subst (λ ls. level_starts k ls ≡ true) (sym i.has_levels)
      (all_start i.tree k (omega (arith, less, many, size))) in
      record {
        modes_in = levels_cover mention.Modes l.modules k one there (names_in l).modes l.levels
            names_alone started (λ n h. h);
        called_in = levels_cover mention.Called l.modules k one there (names_in l).called l.levels
            names_alone started (λ n h. h);
      }

  module _ (e : own_faults l ≡ []) where
    declared_numbered : list_all (λ d. is_numbered reading (names_in l).modes (names_in l).called first_is d.part)
        (declarations_in l) ≡ true
    unfolding own_faults declarations_in
    declared_numbered =
        let modes = (names_in l).modes in
        let called = (names_in l).called in
        parts_kept (is_numbered reading modes called first_is)
        (modules_value reading modes called l.modules) l.levels (modules_made modes called first_is l.modules all_named e)

    both : (list_all (λ d. list_all (has_number (names_in l).modes (names_in l).called)
        (part_uses d.part [] [])) (declarations_in l) ≡ true)
        × (list_all (λ d. declares_modes (length (names_in l).modes) d.part) (declarations_in l) ≡ true)
    both =
        fronts (λ d. list_all (has_number (names_in l).modes (names_in l).called) (part_uses d.part [] []))
        (λ d. declares_modes (length (names_in l).modes) d.part) (declarations_in l) declared_numbered

    pub loaded_numbers : have_numbers (names_in l).modes (names_in l).called (declarations_in l) ≡ true
    loaded_numbers =
        all_used (has_number (names_in l).modes (names_in l).called) (declarations_in l) [] refl both.0

    pub loaded_modes : list_all (λ d. declares_modes (length (names_in l).modes) d.part)
        (declarations_in l) ≡ true
    loaded_modes = both.1
