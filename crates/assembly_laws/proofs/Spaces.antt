-- What all rules on white space have, those of the stylesheet have.
use Rattle.std.proofs.Common.{◌≡◌, ℕ, zero, suc, List, [], ◌∷◌, reverse, Bool, true, false}
use Rattle.std.proofs.Common.{if◌then◌else◌, length, refl, sym, ap, subst, ◌∙◌}
use Rattle.std.proofs.lemmas.Bool.{and_parts, and_from}
use Rattle.std.proofs.lemmas.List.{reverse-append}
use Rattle.std.proofs.lemmas.List.Folds.{list_all-append, list_all-map}
use Rattle.std.specs.List.{list_all}
use Rattle.xt_syntax.specs.declared.exprs.Expr.{Expr}
use Rattle.xt_syntax.specs.declared.patterns.Pattern.{Pattern}
use Rattle.xt_types.specs.declared.node_tests.SpaceRule.{SpaceRule}
use Rattle.sheet_modules.specs.declared.modules.Part.{Part}
use Rattle.sheet_modules.specs.declared.modules.Part.TheVariants as part
use Rattle.sheet_rules.specs.declared.sheet_declarations.lists.Declaration.{Declaration}
use Rattle.sheet_assembly.specs.Named.{each}
use Rattle.sheet_assembly.specs.Spaces.{leveled, space_rules, spaces_in, has_weight, weighing}
use Rattle.sheet_assembly.specs.Spaces.{on_level, down_from}
use Rattle.assembly_laws.specs.Laws.{declares_spaces, SpacesAreDeclared}

module _ (q : SpaceRule → Bool) where
  part_spaces : (level : ℕ) (p : Part Expr Pattern) → declares_spaces q p ≡ true
      → list_all (λ r. q r.rule) (space_rules level p) ≡ true
  part_spaces level (part.Space rules) h = list_all-map (λ r. q r.rule) (leveled level) rules ∙ h
  part_spaces level (part.Global g) h = refl
  part_spaces level (part.Function f) h = refl
  part_spaces level (part.Template t rs) h = refl
  part_spaces level (part.Key keys) h = refl
  part_spaces level (part.Output omit) h = refl
  part_spaces level part.Ignored h = refl
  part_spaces level part.Linked h = refl

  all_spaces : (ds : List (Declaration Expr Pattern))
      → list_all (λ d. declares_spaces q d.part) ds ≡ true
      → list_all (λ r. q r.rule) (each spaces_in ds) ≡ true
  all_spaces [] h = refl
  all_spaces (d ∷ ds) h =
      let k = and_parts (declares_spaces q d.part) _ h in
      list_all-append (λ r. q r.rule) (spaces_in d) (each spaces_in ds)
      ∙ and_from _ _ (part_spaces d.level d.part k.0) (all_spaces ds k.1)

  turned : {L : Type 0} (p : L → Bool) (rs : List L) → list_all p rs ≡ true
      → list_all p (reverse rs) ≡ true
  turned p [] h = refl
  turned p (r ∷ rs) h =
      let k = and_parts (p r) (list_all p rs) h in
      ap (list_all p) (reverse-append (r ∷ []) rs)
      ∙ (list_all-append p (reverse rs) (r ∷ [])
      ∙ and_from _ _ (turned p rs k.1) (and_from (p r) _ k.0 refl))

  -- (what is made of the rules is named first, since the type of the rules has no name here)
  weighing_all : (level n : ℕ) (rs : _) (made : List SpaceRule) → made ≡ weighing level n rs
      → list_all (λ r. q r.rule) rs ≡ true → list_all q made ≡ true
  weighing_all level n [] made e h = subst (λ m. list_all q m ≡ true) (sym e) refl
  weighing_all level n (r ∷ rs) made e h =
      let k = and_parts (q r.rule) _ h in
      subst (λ m. list_all q m ≡ true) (sym e)
      (go (has_weight level n r) k.0 (weighing_all level n rs (weighing level n rs) refl k.1))
    where
      go : (b : Bool) → q r.rule ≡ true → list_all q (weighing level n rs) ≡ true
          → list_all q (if b then r.rule ∷ weighing level n rs else weighing level n rs) ≡ true
      go true first others = and_from _ _ first others
      go false first others = others

  level_all : (level : ℕ) (rs : _) (made : List SpaceRule) → made ≡ on_level level rs
      → list_all (λ r. q r.rule) rs ≡ true → list_all q made ≡ true
  level_all level rs made e h =
      subst (λ m. list_all q m ≡ true) (sym e)
      (list_all-append q (weighing level 2 rs) _
      ∙ and_from _ _ (weighing_all level 2 rs (weighing level 2 rs) refl h)
      (list_all-append q (weighing level 1 rs) (weighing level 0 rs)
      ∙ and_from _ _ (weighing_all level 1 rs (weighing level 1 rs) refl h)
      (weighing_all level 0 rs (weighing level 0 rs) refl h)))

  down_all : (levels : ℕ) (rs : _) (made : List SpaceRule) → made ≡ down_from levels rs
      → list_all (λ r. q r.rule) rs ≡ true → list_all q made ≡ true
  down_all zero rs made e h = subst (λ m. list_all q m ≡ true) (sym e) refl
  down_all (suc level) rs made e h =
      subst (λ m. list_all q m ≡ true) (sym e)
      (list_all-append q (on_level (suc level) rs) (down_from level rs)
      ∙ and_from _ _ (level_all (suc level) rs (on_level (suc level) rs) refl h)
      (down_all level rs (down_from level rs) refl h))

pub spaces_declared : SpacesAreDeclared
spaces_declared q p h =
    down_all q (length p.levels) (reverse (each spaces_in p.declarations)) _ refl
    (turned q (λ r. q r.rule) (each spaces_in p.declarations) (all_spaces q p.declarations h))
