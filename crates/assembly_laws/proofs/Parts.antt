-- What all declarations have, the stylesheet has.
use Rattle.std.proofs.Common.{◌≡◌, ℕ, zero, suc, List, [], ◌∷◌, ◌++◌, map, length, Bool, true, false}
use Rattle.std.proofs.Common.{◌&&◌, ◌||◌, if◌then◌else◌, nat_lt, Option, Some, None, slice_get}
use Rattle.std.proofs.Common.{refl, ◌∙◌}
use Rattle.std.proofs.lemmas.Bool.{and_parts, and_from}
use Rattle.std.proofs.lemmas.List.Folds.{list_all-append, list_all-map}
use Rattle.std.specs.List.{list_all}
use Rattle.xt_names.specs.declared.names.ExprName.{ExprName}
use Rattle.xt_syntax.specs.declared.exprs.Expr.{Expr}
use Rattle.xt_syntax.specs.declared.patterns.Pattern.{Pattern}
use Rattle.xt_sheets.specs.declared.sheets.Global.{Global}
use Rattle.xt_sheets.specs.declared.sheets.SheetFunction.{SheetFunction}
use Rattle.xt_sheets.specs.declared.sheets.KeyRule.{KeyRule}
use Rattle.sheet_modules.specs.declared.modules.Part.{Part}
use Rattle.sheet_modules.specs.declared.modules.Part.TheVariants as part
use Rattle.sheet_modules.specs.declared.templates.RulePart.{RulePart}
use Rattle.sheet_modules.specs.declared.templates.TemplatePart.{TemplatePart}
use Rattle.sheet_rules.specs.declared.sheet_declarations.lists.Declaration.{Declaration}
use Rattle.sheet_rules.specs.SheetDeclarations.Counts.{counted_of}
use Rattle.sheet_assembly.specs.Named.{each_by, each, is_marked, behind, global_in, global_if, at}
use Rattle.sheet_assembly.specs.Named.{ordered, function_in, function_if, key_rule, key_rules, keys_in}
use Rattle.sheet_assembly.specs.Sheets.{standing_of}
use Rattle.sheet_assembly.specs.Templates.{template_in}
use Rattle.sheet_assembly.specs.Templates.{template_of, standing_template, standing_in, standing_if}
use Rattle.sheet_assembly.specs.Templates.{places_of, or_none, template_at, other_of, templates_of}
use Rattle.sheet_assembly.specs.Templates.{place_of, one_more, rule_of, rules_of, number_in, name_if}
use Rattle.sheet_assembly.specs.Templates.{no_template}
use Rattle.assembly_laws.specs.Laws.{Asked, declares, PartsAreDeclared}

module _ (a : Asked) where
  abbrev all_declare : List (Declaration Expr Pattern) → Bool
  all_declare ds = list_all (λ d. declares a d.part) ds

  -- functions
  function_part : (counts : Bool) (p : Part Expr Pattern) (xs : List SheetFunction)
      → declares a p ≡ true → list_all a.of_function xs ≡ true
      → list_all a.of_function (function_in counts p ++ xs) ≡ true
  function_part true (part.Global g) xs h i = i
  function_part false (part.Global g) xs h i = i
  function_part true (part.Function f) xs h i = and_from _ _ h i
  function_part false (part.Function f) xs h i = i
  function_part true (part.Template t rs) xs h i = i
  function_part false (part.Template t rs) xs h i = i
  function_part true (part.Key keys) xs h i = i
  function_part false (part.Key keys) xs h i = i
  function_part true (part.Space rs) xs h i = i
  function_part false (part.Space rs) xs h i = i
  function_part true (part.Output omit) xs h i = i
  function_part false (part.Output omit) xs h i = i
  function_part true part.Ignored xs h i = i
  function_part false part.Ignored xs h i = i
  function_part true part.Linked xs h i = i
  function_part false part.Linked xs h i = i

  functions_all : (marks : List Bool) (ds : List (Declaration Expr Pattern)) → all_declare ds ≡ true
      → list_all a.of_function (each_by function_if marks ds) ≡ true
  functions_all marks [] h = refl
  functions_all marks (d ∷ ds) h =
      let k = and_parts (declares a d.part) (all_declare ds) h in
      function_part (is_marked marks) d.part _ k.0 (functions_all (behind marks) ds k.1)

  -- globals, in whatever order
  global_part : (counts : Bool) (p : Part Expr Pattern) (xs : List Global) → declares a p ≡ true
      → list_all a.of_global xs ≡ true → list_all a.of_global (global_in counts p ++ xs) ≡ true
  global_part true (part.Global g) xs h i = and_from _ _ h i
  global_part false (part.Global g) xs h i = i
  global_part true (part.Function f) xs h i = i
  global_part false (part.Function f) xs h i = i
  global_part true (part.Template t rs) xs h i = i
  global_part false (part.Template t rs) xs h i = i
  global_part true (part.Key keys) xs h i = i
  global_part false (part.Key keys) xs h i = i
  global_part true (part.Space rs) xs h i = i
  global_part false (part.Space rs) xs h i = i
  global_part true (part.Output omit) xs h i = i
  global_part false (part.Output omit) xs h i = i
  global_part true part.Ignored xs h i = i
  global_part false part.Ignored xs h i = i
  global_part true part.Linked xs h i = i
  global_part false part.Linked xs h i = i

  globals_all : (marks : List Bool) (ds : List (Declaration Expr Pattern)) → all_declare ds ≡ true
      → list_all a.of_global (each_by global_if marks ds) ≡ true
  globals_all marks [] h = refl
  globals_all marks (d ∷ ds) h =
      let k = and_parts (declares a d.part) (all_declare ds) h in
      global_part (is_marked marks) d.part _ k.0 (globals_all (behind marks) ds k.1)

  at_all : (gs : List Global) (i : ℕ) (xs : List Global) → list_all a.of_global gs ≡ true
      → list_all a.of_global xs ≡ true → list_all a.of_global (at (slice_get gs i) ++ xs) ≡ true
  at_all [] zero xs h i = i
  at_all [] (suc n) xs h i = i
  at_all (g ∷ gs) zero xs h i = and_from _ _ (and_parts (a.of_global g) _ h).0 i
  at_all (g ∷ gs) (suc n) xs h i = at_all gs n xs (and_parts (a.of_global g) _ h).1 i

  pub ordered_all : (gs : List Global) (places : List ℕ) → list_all a.of_global gs ≡ true
      → list_all a.of_global (ordered gs places) ≡ true
  ordered_all gs [] h = refl
  ordered_all gs (i ∷ places) h = at_all gs i (ordered gs places) h (ordered_all gs places h)

  -- keys
  key_part : (p : Part Expr Pattern) (xs : List KeyRule) → declares a p ≡ true
      → list_all a.of_key xs ≡ true → list_all a.of_key (key_rules p ++ xs) ≡ true
  key_part (part.Key keys) xs h i =
      list_all-append a.of_key (map key_rule keys) xs
      ∙ and_from _ _ (list_all-map a.of_key key_rule keys ∙ h) i
  key_part (part.Global g) xs h i = i
  key_part (part.Function f) xs h i = i
  key_part (part.Template t rs) xs h i = i
  key_part (part.Space rs) xs h i = i
  key_part (part.Output omit) xs h i = i
  key_part part.Ignored xs h i = i
  key_part part.Linked xs h i = i

  keys_all : (ds : List (Declaration Expr Pattern)) → all_declare ds ≡ true
      → list_all a.of_key (each keys_in ds) ≡ true
  keys_all [] h = refl
  keys_all (d ∷ ds) h =
      let k = and_parts (declares a d.part) (all_declare ds) h in
      key_part d.part _ k.0 (keys_all ds k.1)

  -- rules
  template_rules : (modes place level : ℕ) (rs : List (RulePart Pattern))
      → list_all (λ r. a.of_pattern r.pattern) rs ≡ true
      → list_all (λ r. a.of_pattern r.pattern) (map (rule_of modes place level) rs) ≡ true
  template_rules modes place level [] h = refl
  template_rules modes place level (r ∷ rs) h =
      let k = and_parts (a.of_pattern r.pattern) _ h in
      and_from _ _ k.0 (template_rules modes place level rs k.1)

  rules_with : (modes count : ℕ) (called : List ExprName) (counts : Bool) (level : ℕ)
      (t : TemplatePart Expr Pattern) (rs : List (RulePart Pattern)) (rest : _)
      → list_all (λ r. a.of_pattern r.pattern) rs ≡ true
      → ((b : ℕ) → list_all (λ r. a.of_pattern r.pattern) (rules_of modes count b rest) ≡ true)
      → (before : ℕ) (stands : Bool)
      → list_all (λ r. a.of_pattern r.pattern) (rules_of modes count before
      ((if stands then standing_template called counts level t rs ∷ [] else []) ++ rest)) ≡ true
  rules_with modes count called counts level t rs rest h i before true =
      let number = number_in called (name_if counts t.name) in
      let own = map (rule_of modes (place_of count number before) level) rs in
      let next = rules_of modes count (one_more count number before) rest in
      list_all-append (λ r. a.of_pattern r.pattern) own next
      ∙ and_from _ _ (template_rules modes (place_of count number before) level rs h)
      (i (one_more count number before))
  rules_with modes count called counts level t rs rest h i before false = i before

  rule_part : (modes count : ℕ) (called : List ExprName) (counts : Bool) (level : ℕ)
      (p : Part Expr Pattern) (rest : _) → declares a p ≡ true
      → ((b : ℕ) → list_all (λ r. a.of_pattern r.pattern) (rules_of modes count b rest) ≡ true)
      → (before : ℕ) → list_all (λ r. a.of_pattern r.pattern)
      (rules_of modes count before (standing_in called counts level p ++ rest)) ≡ true
  rule_part modes count called counts level (part.Template t rs) rest h i before =
      rules_with modes count called counts level t rs rest (and_parts (a.of_template (template_of true t)
      && a.of_template (template_of false t)) _ h).1 i before (counts || t.has_match)
  rule_part modes count called counts level (part.Global g) rest h i before = i before
  rule_part modes count called counts level (part.Function f) rest h i before = i before
  rule_part modes count called counts level (part.Key keys) rest h i before = i before
  rule_part modes count called counts level (part.Space rs) rest h i before = i before
  rule_part modes count called counts level (part.Output omit) rest h i before = i before
  rule_part modes count called counts level part.Ignored rest h i before = i before
  rule_part modes count called counts level part.Linked rest h i before = i before

  rules_all : (modes count : ℕ) (called : List ExprName) (marks : List Bool)
      (ds : List (Declaration Expr Pattern)) → all_declare ds ≡ true → (before : ℕ)
      → list_all (λ r. a.of_pattern r.pattern)
      (rules_of modes count before (each_by (standing_if called) marks ds)) ≡ true
  rules_all modes count called marks [] h before = refl
  rules_all modes count called marks (d ∷ ds) h before =
      let k = and_parts (declares a d.part) (all_declare ds) h in
      rule_part modes count called (is_marked marks) d.level d.part
      (each_by (standing_if called) (behind marks) ds) k.0
      (λ b. rules_all modes count called (behind marks) ds k.1 b) before

  -- templates
  named_or_not : (counts : Bool) (t : TemplatePart Expr Pattern)
      → a.of_template (template_of true t) ≡ true → a.of_template (template_of false t) ≡ true
      → a.of_template (template_of counts t) ≡ true
  named_or_not true t h i = h
  named_or_not false t h i = i

  stands_with : (called : List ExprName) (counts : Bool) (level : ℕ) (t : TemplatePart Expr Pattern)
      (rs : List (RulePart Pattern)) (ts : _) (stands : Bool)
      → a.of_template (template_of counts t) ≡ true
      → list_all (λ x. a.of_template (or_none (Some x))) ts ≡ true
      → list_all (λ x. a.of_template (or_none (Some x)))
      ((if stands then standing_template called counts level t rs ∷ [] else []) ++ ts) ≡ true
  stands_with called counts level t rs ts true h i = and_from _ _ h i
  stands_with called counts level t rs ts false h i = i

  standing_part : (called : List ExprName) (counts : Bool) (level : ℕ) (p : Part Expr Pattern)
      (ts : _) → declares a p ≡ true → list_all (λ x. a.of_template (or_none (Some x))) ts ≡ true
      → list_all (λ x. a.of_template (or_none (Some x)))
      (standing_in called counts level p ++ ts) ≡ true
  standing_part called counts level (part.Template t rs) ts h i =
      let k = and_parts (a.of_template (template_of true t) && a.of_template (template_of false t)) _ h in
      let both = and_parts (a.of_template (template_of true t)) _ k.0 in
      stands_with called counts level t rs ts (counts || t.has_match)
      (named_or_not counts t both.0 both.1) i
  standing_part called counts level (part.Global g) ts h i = i
  standing_part called counts level (part.Function f) ts h i = i
  standing_part called counts level (part.Key keys) ts h i = i
  standing_part called counts level (part.Space rs) ts h i = i
  standing_part called counts level (part.Output omit) ts h i = i
  standing_part called counts level part.Ignored ts h i = i
  standing_part called counts level part.Linked ts h i = i

  standing_all : (called : List ExprName) (marks : List Bool) (ds : List (Declaration Expr Pattern))
      → all_declare ds ≡ true → list_all (λ x. a.of_template (or_none (Some x)))
      (each_by (standing_if called) marks ds) ≡ true
  standing_all called marks [] h = refl
  standing_all called marks (d ∷ ds) h =
      let k = and_parts (declares a d.part) (all_declare ds) h in
      standing_part called (is_marked marks) d.level d.part _ k.0
      (standing_all called (behind marks) ds k.1)

  template_there : (ts : _) (i : ℕ) → a.of_template no_template ≡ true
      → list_all (λ x. a.of_template (or_none (Some x))) ts ≡ true
      → a.of_template (or_none (slice_get ts i)) ≡ true
  template_there [] zero n h = n
  template_there [] (suc i) n h = n
  template_there (t ∷ ts) zero n h = (and_parts (a.of_template (or_none (Some t))) _ h).0
  template_there (t ∷ ts) (suc i) n h =
      template_there ts i n (and_parts (a.of_template (or_none (Some t))) _ h).1

  called_all : (ts : _) (places : List (Option ℕ)) → a.of_template no_template ≡ true
      → list_all (λ x. a.of_template (or_none (Some x))) ts ≡ true
      → list_all a.of_template (map (template_at ts) places) ≡ true
  called_all ts [] n h = refl
  called_all ts (None ∷ places) n h = and_from _ _ n (called_all ts places n h)
  called_all ts (Some i ∷ places) n h =
      and_from _ _ (template_there ts i n h) (called_all ts places n h)

  other : {A : Type 0} (q : A → Bool) (called : Bool) (x : A) (xs : List A) → q x ≡ true
      → list_all q xs ≡ true → list_all q ((if called then [] else x ∷ []) ++ xs) ≡ true
  other q true x xs h i = i
  other q false x xs h i = and_from _ _ h i

  others_all : (count : ℕ) (ts : _) → list_all (λ x. a.of_template (or_none (Some x))) ts ≡ true
      → list_all a.of_template (each (other_of count) ts) ≡ true
  others_all count [] h = refl
  others_all count (t ∷ ts) h =
      let k = and_parts (a.of_template (or_none (Some t))) _ h in
      other a.of_template (nat_lt t.number count) (template_in t) _ k.0 (others_all count ts k.1)

  templates_all : (count : ℕ) (ts : _) → a.of_template no_template ≡ true
      → list_all (λ x. a.of_template (or_none (Some x))) ts ≡ true
      → list_all a.of_template (templates_of count ts) ≡ true
  templates_all count ts n h =
      list_all-append a.of_template (map (template_at ts) (places_of count ts)) (each (other_of count) ts)
      ∙ and_from _ _ (called_all ts (places_of count ts) n h) (others_all count ts h)

pub parts_declared : PartsAreDeclared
parts_declared a p n h =
    let marks = counted_of p.declarations in
    let g = ordered_all a (each_by global_if marks p.declarations) p.order
    (globals_all a marks p.declarations h) in
    let t = templates_all a (length p.called) (standing_of p.called p.declarations) n
    (standing_all a p.called marks p.declarations h) in
    let r = rules_all a (length p.modes) (length p.called) p.called marks p.declarations h 0 in
    let f = functions_all a marks p.declarations h in
    let k = keys_all a p.declarations h in
    and_from _ _ g (and_from _ _ t (and_from _ _ r (and_from _ _ f k)))
