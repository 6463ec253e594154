-- The modes of rules are there.
use Rattle.std.proofs.Common.{◌≡◌, ◌≤◌, ℕ, zero, suc, ◌+◌, List, [], ◌∷◌, ◌++◌, map, length, Bool, true}
use Rattle.std.proofs.Common.{false, ◌||◌, if◌then◌else◌, nat_lt, refl, ◌∙◌, arith, lt-ltb}
use Rattle.std.proofs.lemmas.Bool.{and_parts, and_from}
use Rattle.std.proofs.lemmas.List.Folds.{list_all-append}
use Rattle.std.specs.List.{list_all, range_with_len}
use Rattle.xt_names.specs.declared.names.ExprName.{ExprName}
use Rattle.xt_syntax.specs.declared.exprs.Expr.{Expr}
use Rattle.xt_syntax.specs.declared.patterns.Pattern.{Pattern}
use Rattle.xt_sheets.specs.declared.sheets.Rule.{Rule}
use Rattle.sheet_modules.specs.declared.modules.Part.{Part}
use Rattle.sheet_modules.specs.declared.modules.Part.TheVariants as part
use Rattle.sheet_modules.specs.declared.templates.ModeSet.{ModeSet}
use Rattle.sheet_modules.specs.declared.templates.ModeSet.TheVariants.{All, Numbers}
use Rattle.sheet_modules.specs.declared.templates.RulePart.{RulePart}
use Rattle.sheet_modules.specs.declared.templates.TemplatePart.{TemplatePart}
use Rattle.sheet_rules.specs.declared.sheet_declarations.lists.Declaration.{Declaration}
use Rattle.sheet_rules.specs.SheetDeclarations.Counts.{counted_of}
use Rattle.sheet_assembly.specs.Named.{each_by, is_marked, behind}
use Rattle.sheet_assembly.specs.Templates.{standing_template, standing_in, standing_if, place_of}
use Rattle.sheet_assembly.specs.Templates.{one_more, modes_of, rule_of, rules_of, number_in, name_if}
use Rattle.global_order.specs.GraphOrders.Behind.{all_below}
use Rattle.assembly_laws.specs.Laws.{has_modes, declares_modes, RulesHaveModes}

range_below : (n from most : ℕ) → from + n ≤ most
    → list_all (λ k. nat_lt k most) (range_with_len from n) ≡ true
range_below zero from most h = refl
range_below (suc n) from most h =
    and_from (nat_lt from most) _ (lt-ltb from most (omega (arith, h)))
    (range_below n (from + 1) most (omega (arith, h)))

module _ (modes : ℕ) where
  abbrev rules_there : List Rule → Bool
  rules_there rs = list_all (λ r. all_below modes r.modes) rs

  abbrev all_declare : List (Declaration Expr Pattern) → Bool
  all_declare ds = list_all (λ d. declares_modes modes d.part) ds

  set_there : (m : ModeSet) → has_modes modes m ≡ true → all_below modes (modes_of modes m) ≡ true
  set_there All h = range_below modes 0 modes (omega arith)
  set_there (Numbers numbers) h = h

  of_template : (place level : ℕ) (rs : List (RulePart Pattern))
      → list_all (λ r. has_modes modes r.modes) rs ≡ true
      → rules_there (map (rule_of modes place level) rs) ≡ true
  of_template place level [] h = refl
  of_template place level (r ∷ rs) h =
      let k = and_parts (has_modes modes r.modes) _ h in
      and_from _ _ (set_there r.modes k.0) (of_template place level rs k.1)

  with_template : (count : ℕ) (called : List ExprName) (counts : Bool) (level : ℕ)
      (t : TemplatePart Expr Pattern) (rs : List (RulePart Pattern)) (rest : _)
      → list_all (λ r. has_modes modes r.modes) rs ≡ true
      → ((b : ℕ) → rules_there (rules_of modes count b rest) ≡ true) → (before : ℕ) (stands : Bool)
      → rules_there (rules_of modes count before
      ((if stands then standing_template called counts level t rs ∷ [] else []) ++ rest)) ≡ true
  with_template count called counts level t rs rest h i before true =
      let number = number_in called (name_if counts t.name) in
      let own = map (rule_of modes (place_of count number before) level) rs in
      let next = rules_of modes count (one_more count number before) rest in
      list_all-append (λ r. all_below modes r.modes) own next
      ∙ and_from (rules_there own) _ (of_template (place_of count number before) level rs h)
      (i (one_more count number before))
  with_template count called counts level t rs rest h i before false = i before

  in_part : (count : ℕ) (called : List ExprName) (counts : Bool) (level : ℕ)
      (p : Part Expr Pattern) (rest : _) → declares_modes modes p ≡ true
      → ((b : ℕ) → rules_there (rules_of modes count b rest) ≡ true) → (before : ℕ)
      → rules_there (rules_of modes count before (standing_in called counts level p ++ rest)) ≡ true
  in_part count called counts level (part.Template t rs) rest h i before =
      with_template count called counts level t rs rest h i before (counts || t.has_match)
  in_part count called counts level (part.Global g) rest h i before = i before
  in_part count called counts level (part.Function f) rest h i before = i before
  in_part count called counts level (part.Key keys) rest h i before = i before
  in_part count called counts level (part.Space rs) rest h i before = i before
  in_part count called counts level (part.Output omit) rest h i before = i before
  in_part count called counts level part.Ignored rest h i before = i before
  in_part count called counts level part.Linked rest h i before = i before

  each_there : (count : ℕ) (called : List ExprName) (marks : List Bool)
      (ds : List (Declaration Expr Pattern)) → all_declare ds ≡ true → (before : ℕ)
      → rules_there (rules_of modes count before (each_by (standing_if called) marks ds)) ≡ true
  each_there count called marks [] h before = refl
  each_there count called marks (d ∷ ds) h before =
      let k = and_parts (declares_modes modes d.part) (all_declare ds) h in
      in_part count called (is_marked marks) d.level d.part
      (each_by (standing_if called) (behind marks) ds) k.0
      (λ b. each_there count called (behind marks) ds k.1 b) before

pub rules_have_modes : RulesHaveModes
rules_have_modes p h =
    each_there (length p.modes) (length p.called) p.called (counted_of p.declarations)
    p.declarations h 0
