-- A stylesheet whose declarations have what is asked of them.
use Rattle.std.proofs.Common.{◌≡◌, ℕ, ◌≤◌, List, [], ◌∷◌, map, Bool, true, ◌&&◌, refl, arith}
use Rattle.std.proofs.lemmas.Bool.{and_parts, and_from, le-leb, leb-true}
use Rattle.std.specs.List.{list_all}
use Rattle.std.specs.Prelude.{nat_le}
use Rattle.xt_types.specs.declared.node_tests.SpaceRule.{SpaceRule}
use Rattle.xt_forms.specs.Regular.{every}
use Rattle.xt_sheets.specs.declared.sheets.Global.{Global}
use Rattle.xt_sheets.specs.declared.sheets.Rule.{Rule}
use Rattle.xt_sheets.specs.declared.sheets.Sheet.{Sheet}
use Rattle.closed_queries.specs.Texts.{is_sound_name_test}
use Rattle.closed_sheets.specs.Instrs.{is_good_bound}
use Rattle.closed_sheets.specs.Sheets.{is_good_sheet_template, is_good_function, is_good_key}
use Rattle.closed_sheets.specs.Sheets.{are_sound_modes, has_good_parts}
use Rattle.closed_sheets.specs.Values.{is_good_pattern}
use Rattle.sheet_closure.specs.Closed.{is_space_test}
use Rattle.sheet_closure.specs.Declared.{has_uri}
use Rattle.closed_sheets.specs.SheetForms.SheetNest.{global_nest_of, template_nest_of, function_nest_of}
use Rattle.closed_sheets.specs.SheetForms.SheetNest.{sheet_nest_of}
use Rattle.sheet_closure.specs.StandingParts.Patterns.{is_alternative}
use Rattle.sheet_closure.specs.StandingParts.Sheets.{global_stands, template_stands, function_stands, key_stands}
use Rattle.sheet_closure.specs.StandingParts.Sheets.{parts_stand}
use Rattle.assembly_laws.specs.Laws.{has_asked}
use Rattle.closed_parts.specs.Closed.{closed_part, closed_space}
use Rattle.xt_names.specs.Lists.{greatest}

record Both {A : Type 0} (p q : A → Bool) (xs : List A) : Type 0 where
  front : list_all p xs ≡ true
  back : list_all q xs ≡ true

each_both : {A : Type 0} (p q : A → Bool) (xs : List A)
    → list_all (λ x. p x && q x) xs ≡ true → Both p q xs
each_both p q [] h = record { front = refl; back = refl }
each_both p q (x ∷ xs) h =
    let k = and_parts (p x && q x) (list_all (λ y. p y && q y) xs) h in
    let here = and_parts (p x) (q x) k.0 in
    let others = each_both p q xs k.1 in
    record {
      front = and_from (p x) _ here.0 others.front;
      back = and_from (q x) _ here.1 others.back;
    }

-- what each nests no deeper than
all_deep : {A : Type 0} (n : A → ℕ) (xs : List A) → list_all (λ x. nat_le (n x) 40) xs ≡ true
    → greatest (map n xs) ≤ 40
all_deep n [] h = omega arith
all_deep n (x ∷ xs) h =
    let k = and_parts (nat_le (n x) 40) (list_all (λ y. nat_le (n y) 40) xs) h in
    let here = leb-true (n x) 40 k.0 in
    let others = all_deep n xs k.1 in
    omega (arith, here, others)

all_every : {A : Type 0} (p : A → Bool) (xs : List A) → list_all p xs ≡ true
    → every (map p xs) ≡ true
all_every p [] h = refl
all_every p (x ∷ xs) h =
    let k = and_parts (p x) (list_all p xs) h in and_from (p x) _ k.0 (all_every p xs k.1)

-- what is asked of the kinds of declarations
record Split (s : Sheet) : Type 0 where
  globals : list_all closed_part.of_global s.globals ≡ true
  templates : list_all closed_part.of_template s.templates ≡ true
  rules : list_all (λ r. closed_part.of_pattern r.pattern) s.rules ≡ true
  functions : list_all closed_part.of_function s.functions ≡ true
  keys : list_all closed_part.of_key s.keys ≡ true

split : (s : Sheet) → has_asked closed_part s ≡ true → Split s
split s h =
    let a = and_parts (list_all closed_part.of_global s.globals) _ h in
    let b = and_parts (list_all closed_part.of_template s.templates) _ a.1 in
    let c = and_parts (list_all (λ r. closed_part.of_pattern r.pattern) s.rules) _ b.1 in
    let d = and_parts (list_all closed_part.of_function s.functions) _ c.1 in
    record { globals = a.0; templates = b.0; rules = c.0; functions = d.0; keys = d.1 }

pub record GoodSheet (s : Sheet) : Type 0 where
  pub good : has_good_parts s ≡ true
  pub stands : parts_stand s ≡ true
  pub uris : list_all has_uri s.functions ≡ true
  pub spaces : list_all (λ r. is_space_test r.test) s.space ≡ true

pub good_sheet : (s : Sheet) → has_asked closed_part s ≡ true → are_sound_modes s.modes ≡ true
    → list_all closed_space s.space ≡ true → GoodSheet s
unfolding has_good_parts parts_stand
good_sheet s h m w =
    let k = split s h in
    let g = each_both (λ (x : Global). is_good_bound x.bound) _ s.globals k.globals in
    let g1 = each_both global_stands _ s.globals g.back in
    let t = each_both is_good_sheet_template _ s.templates k.templates in
    let t1 = each_both template_stands _ s.templates t.back in
    let r = each_both (λ (x : Rule). is_good_pattern x.pattern) _ s.rules k.rules in
    let f = each_both is_good_function _ s.functions k.functions in
    let f1 = each_both function_stands _ s.functions f.back in
    let f2 = each_both has_uri _ s.functions f1.back in
    let q = each_both is_good_key key_stands s.keys k.keys in
    let v = each_both (λ (x : SpaceRule). is_sound_name_test x.test) _ s.space w in
    let a = all_deep global_nest_of s.globals g1.back in
    let b = all_deep template_nest_of s.templates t1.back in
    let c = all_deep function_nest_of s.functions f2.back in
    let deep : sheet_nest_of s ≤ 40 = omega (arith, a, b, c) in
    record {
      good = and_from (every (map (λ (x : Global). is_good_bound x.bound) s.globals)) _
          (all_every (λ (x : Global). is_good_bound x.bound) s.globals g.front)
          (and_from (list_all is_good_sheet_template s.templates) _ t.front
          (and_from (list_all (λ (x : Rule). is_good_pattern x.pattern) s.rules) _ r.front
          (and_from (list_all is_good_function s.functions) _ f.front
          (and_from (list_all is_good_key s.keys) _ q.front
          (and_from (are_sound_modes s.modes) _ m v.front)))));
      stands = and_from (nat_le (sheet_nest_of s) 40) _ (le-leb (sheet_nest_of s) 40 deep)
          (and_from (list_all global_stands s.globals) _ g1.front
          (and_from (list_all template_stands s.templates) _ t1.front
          (and_from (list_all (λ (x : Rule). is_alternative x.pattern) s.rules) _ r.back
          (and_from (list_all function_stands s.functions) _ f1.front q.back))));
      uris = f2.front;
      spaces = v.back;
    }
