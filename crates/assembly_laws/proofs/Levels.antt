-- The precedences of rules are those of levels.
use Rattle.std.proofs.Common.{◌≡◌, ◌≤◌, ◌<◌, ℕ, ◌+◌, List, [], ◌∷◌, ◌++◌, map, length, Bool, true}
use Rattle.std.proofs.Common.{false, ◌||◌, if◌then◌else◌, nat_le, refl, ◌∙◌, arith}
use Rattle.std.proofs.lemmas.Bool.{and_parts, and_from, le-leb}
use Rattle.std.proofs.lemmas.List.Folds.{list_all-append}
use Rattle.std.specs.List.{list_all}
use Rattle.xt_names.specs.declared.names.ExprName.{ExprName}
use Rattle.xt_syntax.specs.declared.exprs.Expr.{Expr}
use Rattle.xt_syntax.specs.declared.patterns.Pattern.{Pattern}
use Rattle.xt_sheets.specs.declared.sheets.Rule.{Rule}
use Rattle.sheet_modules.specs.declared.sheet_levels.levels.SheetLevel.{SheetLevel}
use Rattle.sheet_modules.specs.declared.modules.Part.{Part}
use Rattle.sheet_modules.specs.declared.modules.Part.TheVariants as part
use Rattle.sheet_modules.specs.declared.templates.RulePart.{RulePart}
use Rattle.sheet_modules.specs.declared.templates.TemplatePart.{TemplatePart}
use Rattle.sheet_rules.specs.declared.sheet_declarations.lists.Declaration.{Declaration}
use Rattle.sheet_rules.specs.SheetDeclarations.Counts.{counted_of}
use Rattle.sheet_rules.specs.SheetDeclarations.Declarations.{pieces, declared, declarations_from}
use Rattle.sheet_rules.specs.SheetDeclarations.Declarations.{declarations_of}
use Rattle.sheet_assembly.specs.Named.{each_by, is_marked, behind}
use Rattle.sheet_assembly.specs.Templates.{standing_template, standing_in, standing_if, place_of}
use Rattle.sheet_assembly.specs.Templates.{one_more, rule_of, rules_of}
use Rattle.sheet_assembly.specs.Templates.{number_in, name_if}
use Rattle.assembly_laws.specs.Laws.{is_level_of, RulesHaveLevels}

abbrev Modules : Type 0
Modules = List (List (Part Expr Pattern))

module _ (q : ℕ → Bool) where
  abbrev declared_all : List (Declaration Expr Pattern) → Bool
  declared_all ds = list_all (λ d. q d.level) ds

  abbrev rules_all : List Rule → Bool
  rules_all rs = list_all (λ r. q r.precedence) rs

  level_all : (level : ℕ) (parts : List (Part Expr Pattern)) → q level ≡ true
      → declared_all (map (declared level) parts) ≡ true
  level_all level [] h = refl
  level_all level (p ∷ parts) h = and_from (q level) _ h (level_all level parts h)

  levels_all : (modules : Modules) (level : ℕ) (ls : List SheetLevel)
      → ((k : ℕ) → level ≤ k → k < level + length ls → q k ≡ true)
      → declared_all (declarations_from modules level ls) ≡ true
  levels_all modules level [] h = refl
  levels_all modules level (l ∷ ls) h =
      let own = map (declared level) (pieces modules l.spans) in
      let next = declarations_from modules (level + 1) ls in
      let here = level_all level (pieces modules l.spans) (h level (omega arith) (omega arith)) in
      let later = levels_all modules (level + 1) ls
      (λ k low high. h k (omega (arith, low)) (omega (arith, high))) in
      list_all-append (λ d. q d.level) own next ∙ and_from (declared_all own) _ here later

  of_template : (modes place level : ℕ) (rs : List (RulePart Pattern)) → q level ≡ true
      → rules_all (map (rule_of modes place level) rs) ≡ true
  of_template modes place level [] h = refl
  of_template modes place level (r ∷ rs) h =
      and_from (q level) _ h (of_template modes place level rs h)

  -- a template that is there or does not, before others
  with_template : (modes count : ℕ) (called : List ExprName) (counts : Bool) (level : ℕ)
      (t : TemplatePart Expr Pattern) (rs : List (RulePart Pattern)) (rest : _) → q level ≡ true
      → ((b : ℕ) → rules_all (rules_of modes count b rest) ≡ true) → (before : ℕ) (stands : Bool)
      → rules_all (rules_of modes count before
      ((if stands then standing_template called counts level t rs ∷ [] else []) ++ rest)) ≡ true
  with_template modes count called counts level t rs rest h i before true =
      let number = number_in called (name_if counts t.name) in
      let own = map (rule_of modes (place_of count number before) level) rs in
      let next = rules_of modes count (one_more count number before) rest in
      list_all-append (λ r. q r.precedence) own next
      ∙ and_from (rules_all own) _ (of_template modes (place_of count number before) level rs h)
      (i (one_more count number before))
  with_template modes count called counts level t rs rest h i before false = i before

  in_part : (modes count : ℕ) (called : List ExprName) (counts : Bool) (level : ℕ)
      (p : Part Expr Pattern) (rest : _) → q level ≡ true
      → ((b : ℕ) → rules_all (rules_of modes count b rest) ≡ true) → (before : ℕ)
      → rules_all (rules_of modes count before (standing_in called counts level p ++ rest)) ≡ true
  in_part modes count called counts level (part.Template t rs) rest h i before =
      with_template modes count called counts level t rs rest h i before (counts || t.has_match)
  in_part modes count called counts level (part.Global g) rest h i before = i before
  in_part modes count called counts level (part.Function f) rest h i before = i before
  in_part modes count called counts level (part.Key keys) rest h i before = i before
  in_part modes count called counts level (part.Space rules) rest h i before = i before
  in_part modes count called counts level (part.Output omit) rest h i before = i before
  in_part modes count called counts level part.Ignored rest h i before = i before
  in_part modes count called counts level part.Linked rest h i before = i before

  each_stands : (modes count : ℕ) (called : List ExprName) (marks : List Bool)
      (ds : List (Declaration Expr Pattern)) → declared_all ds ≡ true → (before : ℕ)
      → rules_all (rules_of modes count before (each_by (standing_if called) marks ds)) ≡ true
  each_stands modes count called marks [] h before = refl
  each_stands modes count called marks (d ∷ ds) h before =
      let a = and_parts (q d.level) (declared_all ds) h in
      in_part modes count called (is_marked marks) d.level d.part
      (each_by (standing_if called) (behind marks) ds) a.0
      (λ b. each_stands modes count called (behind marks) ds a.1 b) before

between : (levels k : ℕ) → 1 ≤ k → k < 1 + levels → is_level_of levels k ≡ true
between levels k low high =
    and_from (nat_le 1 k) (nat_le k levels) (le-leb 1 k low)
    (le-leb k levels (omega (arith, high)))

pub rules_have_levels : RulesHaveLevels
rules_have_levels modules levels modes called order =
    let q = is_level_of (length levels) in
    let ds = declarations_of modules levels in
    let h = levels_all q modules 1 levels (between (length levels)) in
    each_stands q (length modes) (length called) called (counted_of ds) ds h 0
