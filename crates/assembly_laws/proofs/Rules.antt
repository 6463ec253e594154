-- The places of templates that rules have.
use Rattle.std.proofs.Common.{◌≡◌, ◌≤◌, ◌<◌, ℕ, suc, ◌+◌, List, [], ◌∷◌, ◌++◌, map, length}
use Rattle.std.proofs.Common.{length-append, Bool, true, false, if◌then◌else◌, nat_lt}
use Rattle.std.proofs.Common.{refl, sym, ap, subst, ◌∙◌, inl, inr, arith, lt-ltb, le-ltb}
use Rattle.std.proofs.Math.Nat.{min-le_left}
use Rattle.std.proofs.lemmas.Bool.{and_from, cases_lt}
use Rattle.std.proofs.lemmas.List.{length-map}
use Rattle.std.proofs.lemmas.List.Folds.{list_all-append}
use Rattle.std.proofs.lemmas.List.FromFn.{length-range_with_len}
use Rattle.std.specs.List.{list_all, range_with_len}
use Rattle.xt_syntax.specs.declared.patterns.Pattern.{Pattern}
use Rattle.xt_sheets.specs.declared.sheets.Rule.{Rule}
use Rattle.sheet_modules.specs.declared.templates.RulePart.{RulePart}
use Rattle.sheet_assembly.specs.Named.{each}
use Rattle.sheet_assembly.specs.Sheets.{standing_of}
use Rattle.sheet_assembly.specs.Templates.{template_in, rules_in}
use Rattle.sheet_assembly.specs.Templates.{first_at, places_of, template_at, other_of}
use Rattle.sheet_assembly.specs.Templates.{templates_of, place_of, one_more, rule_of, rules_of}
use Rattle.assembly_laws.specs.Laws.{RulesHaveTemplates}

-- the templates that are called, and the others
templates_many : (count : ℕ) (ts : _)
    → length (templates_of count ts) ≡ count + length (each (other_of count) ts)
templates_many count ts =
    length-append (map (template_at ts) (places_of count ts)) (each (other_of count) ts)
    ∙ ap (λ (n : ℕ). n + length (each (other_of count) ts))
    (length-map (places_of count ts) (template_at ts)
    ∙ (length-map (range_with_len 0 count) (λ number. first_at number 0 ts)
    ∙ length-range_with_len 0 count))

abbrev is_below : ℕ → Rule → Bool
is_below most r = nat_lt r.template most

-- the rules of one template
rules_at : (modes place level most : ℕ) (rs : List (RulePart Pattern)) → place < most
    → list_all (is_below most) (map (rule_of modes place level) rs) ≡ true
rules_at modes place level most [] h = refl
rules_at modes place level most (r ∷ rs) h =
    and_from (nat_lt place most) _ (lt-ltb place most h) (rules_at modes place level most rs h)

-- one more template, which is called or not
counted : {A : Type 0} (called : Bool) (x : A) (xs : List A)
    → length ((if called then [] else x ∷ []) ++ xs)
    ≡ (if called then length xs else suc (length xs))
counted true x xs = refl
counted false x xs = refl

abbrev Turn : ℕ → ℕ → ℕ → ℕ → ℕ → Type 0
Turn count before total number rest =
    (place_of count number before < count + total) × (one_more count number before + rest ≤ total)

turn : (count before total number rest : ℕ)
    → before + (if nat_lt number count then rest else suc rest) ≤ total
    → Turn count before total number rest
turn count before total number rest h =
    elim (cases_lt number count) [
      | inl less ↦ (let e = lt-ltb number count less in
          let k : before + rest ≤ total = rw e at h in
          rw e (omega (arith, less), k))
      | inr over ↦ (let e = le-ltb number count over in
          let k : before + suc rest ≤ total = rw e at h in
          let a = min-le_left (count + before) 4294967295 in
          let b = min-le_left (before + 1) 4294967295 in
          rw e (omega (arith, k, a), omega (arith, k, b)))
    ]

rules_below : (modes count before total : ℕ) (ts : _)
    → before + length (each (other_of count) ts) ≤ total
    → list_all (is_below (count + total)) (rules_of modes count before ts) ≡ true
rules_below modes count before total [] h = refl
rules_below modes count before total (t ∷ ts) h =
    let c = counted (nat_lt t.number count) (template_in t) (each (other_of count) ts) in
    let k = turn count before total t.number (length (each (other_of count) ts))
    (subst (λ n. before + n ≤ total) c h) in
    let own = map (rule_of modes (place_of count t.number before) t.level) (rules_in t) in
    let next = rules_of modes count (one_more count t.number before) ts in
    list_all-append (is_below (count + total)) own next
    ∙ and_from (list_all (is_below (count + total)) own) _
    (rules_at modes (place_of count t.number before) t.level (count + total) (rules_in t) k.0)
    (rules_below modes count (one_more count t.number before) total ts k.1)

pub rules_have : RulesHaveTemplates
rules_have p =
    let ts = standing_of p.called p.declarations in
    let count = length p.called in
    let h = rules_below (length p.modes) count 0 (length (each (other_of count) ts)) ts (omega arith) in
    subst (λ most. list_all (is_below most) (rules_of (length p.modes) count 0 ts) ≡ true)
    (sym (templates_many count ts)) h
