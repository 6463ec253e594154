-- What is asked of each use of the declarations is so of each use of the stylesheet.
use Rattle.std.proofs.Common.{◌≡◌, List, [], ◌∷◌, map, Bool, true, ◌&&◌, refl, sym, ap}
use Rattle.std.proofs.Common.{◌∙◌}
use Rattle.std.proofs.lemmas.Bool.{and_parts, and_from}
use Rattle.std.proofs.lemmas.List.Folds.{list_all-append}
use Rattle.std.specs.List.{list_all}
use Rattle.xt_syntax.specs.declared.exprs.Expr.{Expr}
use Rattle.xt_syntax.specs.declared.patterns.Pattern.{Pattern}
use Rattle.xt_sheets.specs.declared.instrs.Bound.{Bound}
use Rattle.xt_sheets.specs.declared.instrs.Instr.{Instr}
use Rattle.xt_sheets.specs.declared.sheets.Global.{Global}
use Rattle.xt_sheets.specs.declared.sheets.Template.{Template}
use Rattle.xt_sheets.specs.declared.sheets.SheetFunction.{SheetFunction}
use Rattle.xt_sheets.specs.declared.sheets.Sheet.{Sheet}
use Rattle.sheet_modules.specs.declared.modules.Part.{Part}
use Rattle.sheet_modules.specs.declared.modules.Part.TheVariants as part
use Rattle.sheet_modules.specs.declared.modules.KeyPart.{KeyPart}
use Rattle.sheet_modules.specs.declared.templates.RulePart.{RulePart}
use Rattle.sheet_rules.specs.declared.sheet_declarations.lists.Declaration.{Declaration}
use Rattle.sheet_uses.specs.declared.uses.Use.{Use}
use Rattle.sheet_uses.specs.Exprs.{Finds, nothing, all_in}
use Rattle.sheet_uses.specs.Bodies.{bound_uses, callee_uses}
use Rattle.sheet_uses.specs.KeyCalls.Bodies.{bound_keys, callee_keys}
use Rattle.sheet_rules.specs.Uses.{use_of_key, part_uses, declared_uses, part_keys, declared_keys}
use Rattle.sheet_assembly.specs.Named.{key_rule}
use Rattle.assembly_laws.specs.SheetClosure.Uses.{key_uses, uses_of, key_uses_of}
use Rattle.assembly_laws.specs.Laws.{Asked, declares, has_asked}
use Rattle.declared_uses.proofs.AddedUses.Ends.{Adds, adding, expr_adds}
use Rattle.declared_uses.proofs.AddedUses.Bodies as bodies
use Rattle.declared_uses.proofs.AddedUses.Bodies.{each_adds}
use Rattle.declared_uses.proofs.AddedUses.Keys as keys

-- each is put at the end
abbrev AllPass : (Use → Bool) → Finds → Bool
AllPass q f = list_all q (f [] [])

module _ (q : Use → Bool) where
  -- what one finds passes, and what was found before
  one_found : (f : Finds) → Adds f → (found : List Use)
      → list_all q (f [] found) ≡ (list_all q found && AllPass q f)
  one_found f a found =
      ap (list_all q) (a [] found) ∙ list_all-append q found (f [] [])

  all_found : {A : Type 0} (f : A → Finds) → ((x : A) → Adds (f x)) → (xs : List A)
      → (found : List Use) → list_all q found ≡ true → list_all (λ x. AllPass q (f x)) xs ≡ true
      → list_all q (all_in (map f xs) [] found) ≡ true
  all_found f a [] found h k = h
  all_found f a (x ∷ xs) found h k =
      let p = and_parts (AllPass q (f x)) _ k in
      all_found f a xs (f x [] found)
      (one_found (f x) (a x) found ∙ and_from (list_all q found) _ h p.0) p.1

  each_found : {A : Type 0} (f : A → Finds) → ((x : A) → Adds (f x)) → (xs : List A)
      → (found : List Use) → list_all q (all_in (map f xs) [] found) ≡ true
      → (list_all q found ≡ true) × (list_all (λ x. AllPass q (f x)) xs ≡ true)
  each_found f a [] found h = (h, refl)
  each_found f a (x ∷ xs) found h =
      let k = each_found f a xs (f x [] found) h in
      let p = and_parts (list_all q found) _ (sym (one_found (f x) (a x) found) ∙ k.0) in
      (p.0, and_from (AllPass q (f x)) _ p.1 k.1)

-- what bodies and expressions are looked through for
pub record Search : Type 0 where
  pub bound : Bound Expr Pattern → Finds
  pub callee : List (Bound Expr Pattern) → List (Instr Expr Pattern) → Finds
  pub bound_adds : (b : Bound Expr Pattern) → Adds (bound b)
  pub callee_adds : (params : List (Bound Expr Pattern)) (body : List (Instr Expr Pattern))
      → Adds (callee params body)

abbrev pub for_uses : Search
for_uses = record {
  bound = λ b. (bound_uses b).source;
  callee = callee_uses;
  bound_adds = bodies.bound_adds;
  callee_adds = bodies.callee_adds;
}

abbrev pub for_keys : Search
for_keys = record {
  bound = bound_keys;
  callee = callee_keys;
  bound_adds = keys.bound_adds;
  callee_adds = keys.callee_adds;
}

module _ (s : Search) where
  abbrev found_in : Part Expr Pattern → Finds
  found_in (part.Global g) = s.bound g.bound
  found_in (part.Template t rules) = s.callee t.params t.body
  found_in (part.Function f) = s.callee f.params f.body
  found_in (part.Key keys) = all_in (map use_of_key keys)
  found_in (part.Space rules) = nothing
  found_in (part.Output omit) = nothing
  found_in part.Ignored = nothing
  found_in part.Linked = nothing

  part_adds : (p : Part Expr Pattern) → Adds (found_in p)
  part_adds (part.Global g) = s.bound_adds g.bound
  part_adds (part.Template t rules) = s.callee_adds t.params t.body
  part_adds (part.Function f) = s.callee_adds f.params f.body
  part_adds (part.Key keys) = each_adds use_of_key (λ k. expr_adds k.key) keys
  part_adds (part.Space rules) = adding.none
  part_adds (part.Output omit) = adding.none
  part_adds part.Ignored = adding.none
  part_adds part.Linked = adding.none

  abbrev found_declared : List (Declaration Expr Pattern) → List Use → List Use
  found_declared [] found = found
  found_declared (d ∷ ds) found = found_declared ds (found_in d.part [] found)

  abbrev found_whole : Sheet → List Use
  found_whole sheet =
      all_in (map key_uses sheet.keys) []
      (all_in (map (λ (f : SheetFunction). s.callee f.params f.body) sheet.functions) []
      (all_in (map (λ (t : Template). s.callee t.params t.body) sheet.templates) []
      (all_in (map (λ (g : Global). s.bound g.bound) sheet.globals) [] [])))

  module _ (q : Use → Bool) where
    -- it is asked that all that each finds passes
    abbrev pub asked : Asked
    asked = record {
      of_global = λ g. AllPass q (s.bound g.bound);
      of_template = λ t. AllPass q (s.callee t.params t.body);
      of_pattern = λ p. true;
      of_function = λ f. AllPass q (s.callee f.params f.body);
      of_key = λ k. AllPass q (key_uses k);
    }

    any_rules : (rules : List (RulePart Pattern)) → list_all (λ r. true) rules ≡ true
    any_rules [] = refl
    any_rules (r ∷ rules) = any_rules rules

    any_keys : (ks : List (KeyPart Expr Pattern)) → list_all (λ k. AllPass q (use_of_key k)) ks ≡ true
        → list_all (λ k. AllPass q (key_uses (key_rule k))) ks ≡ true
    any_keys ks h = h

    one_asked : (p : Part Expr Pattern) → AllPass q (found_in p) ≡ true → declares asked p ≡ true
    one_asked (part.Global g) h = h
    one_asked (part.Template t rules) h =
        and_from _ _ (and_from (AllPass q (s.callee t.params t.body)) _ h h) (any_rules rules)
    one_asked (part.Function f) h = h
    one_asked (part.Key keys) h =
        any_keys keys (each_found q use_of_key (λ k. expr_adds k.key) keys [] h).1
    one_asked (part.Space rules) h = refl
    one_asked (part.Output omit) h = refl
    one_asked part.Ignored h = refl
    one_asked part.Linked h = refl

    all_asked : (ds : List (Declaration Expr Pattern)) (found : List Use)
        → list_all q (found_declared ds found) ≡ true
        → (list_all q found ≡ true) × (list_all (λ d. declares asked d.part) ds ≡ true)
    all_asked [] found h = (h, refl)
    all_asked (d ∷ ds) found h =
        let k = all_asked ds (found_in d.part [] found) h in
        let p = and_parts (list_all q found) _
        (sym (one_found q (found_in d.part) (part_adds d.part) found) ∙ k.0) in
        (p.0, and_from (declares asked d.part) _ (one_asked d.part p.1) k.1)

    pub declarations_asked : (ds : List (Declaration Expr Pattern))
        → list_all q (found_declared ds []) ≡ true
        → list_all (λ d. declares asked d.part) ds ≡ true
    declarations_asked ds h = (all_asked ds [] h).1

    pub whole_found : (sheet : Sheet) → has_asked asked sheet ≡ true
        → list_all q (found_whole sheet) ≡ true
    whole_found sheet h =
        let a = asked in
        let g = and_parts (list_all a.of_global sheet.globals) _ h in
        let t = and_parts (list_all a.of_template sheet.templates) _ g.1 in
        let r = and_parts (list_all (λ r. a.of_pattern r.pattern) sheet.rules) _ t.1 in
        let f = and_parts (list_all a.of_function sheet.functions) (list_all a.of_key sheet.keys) r.1 in
        all_found q key_uses (λ k. expr_adds k.key) sheet.keys _
        (all_found q (λ (f : SheetFunction). s.callee f.params f.body)
        (λ f. s.callee_adds f.params f.body) sheet.functions _
        (all_found q (λ (t : Template). s.callee t.params t.body)
        (λ t. s.callee_adds t.params t.body) sheet.templates _
        (all_found q (λ (g : Global). s.bound g.bound) (λ g. s.bound_adds g.bound) sheet.globals []
        refl g.0) t.0) f.0) f.1

-- these are what is looked for
one_use : (p : Part Expr Pattern) (found : List Use)
    → part_uses p [] found ≡ found_in for_uses p [] found
one_use (part.Global g) found = refl
one_use (part.Template t rules) found = refl
one_use (part.Function f) found = refl
one_use (part.Key keys) found = refl
one_use (part.Space rules) found = refl
one_use (part.Output omit) found = refl
one_use part.Ignored found = refl
one_use part.Linked found = refl

uses_declared : (ds : List (Declaration Expr Pattern)) (found : List Use)
    → declared_uses ds [] found ≡ found_declared for_uses ds found
uses_declared [] found = refl
uses_declared (d ∷ ds) found =
    uses_declared ds (part_uses d.part [] found)
    ∙ ap (found_declared for_uses ds) (one_use d.part found)

one_key_use : (p : Part Expr Pattern) (found : List Use)
    → part_keys p [] found ≡ found_in for_keys p [] found
one_key_use (part.Global g) found = refl
one_key_use (part.Template t rules) found = refl
one_key_use (part.Function f) found = refl
one_key_use (part.Key keys) found = refl
one_key_use (part.Space rules) found = refl
one_key_use (part.Output omit) found = refl
one_key_use part.Ignored found = refl
one_key_use part.Linked found = refl

keys_declared : (ds : List (Declaration Expr Pattern)) (found : List Use)
    → declared_keys ds [] found ≡ found_declared for_keys ds found
keys_declared [] found = refl
keys_declared (d ∷ ds) found =
    keys_declared ds (part_keys d.part [] found)
    ∙ ap (found_declared for_keys ds) (one_key_use d.part found)

-- where it is so of what the declarations use, it is asked of them ..
pub uses_asked : (q : Use → Bool) (ds : List (Declaration Expr Pattern))
    → list_all q (declared_uses ds [] []) ≡ true
    → list_all (λ d. declares (asked for_uses q) d.part) ds ≡ true
uses_asked q ds h =
    declarations_asked for_uses q ds (sym (ap (list_all q) (uses_declared ds [])) ∙ h)

pub keys_asked : (q : Use → Bool) (ds : List (Declaration Expr Pattern))
    → list_all q (declared_keys ds [] []) ≡ true
    → list_all (λ d. declares (asked for_keys q) d.part) ds ≡ true
keys_asked q ds h =
    declarations_asked for_keys q ds (sym (ap (list_all q) (keys_declared ds [])) ∙ h)

-- .. and where it is asked of the parts of a stylesheet, it is so of what the stylesheet uses
pub uses_pass : (q : Use → Bool) (sheet : Sheet) → has_asked (asked for_uses q) sheet ≡ true
    → list_all q (uses_of sheet) ≡ true
unfolding uses_of
uses_pass q sheet h = whole_found for_uses q sheet h

pub keys_pass : (q : Use → Bool) (sheet : Sheet) → has_asked (asked for_keys q) sheet ≡ true
    → list_all q (key_uses_of sheet) ≡ true
unfolding key_uses_of
keys_pass q sheet h = whole_found for_keys q sheet h
