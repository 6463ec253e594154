-- Numbers of names in tables.
use Rattle.std.proofs.Common.{◌≡◌, ℕ, List, [], ◌∷◌, length, true}
use Rattle.std.proofs.Common.{Option, Some, None, nat_eq, refl, sym, ap, subst}
use Rattle.std.proofs.Common.{inl, inr}
use Rattle.std.proofs.lemmas.Bool.{and_parts, and_from, or_cases, or_left, or_right, eq-eqb, lt-ltb}
use Rattle.std.proofs.Common.{Bool, cond, min, suc, arith}
use Rattle.std.specs.Prelude.{unwrap_or}
use Rattle.std.specs.List.{list_all, list_any}
use Rattle.xt_names.specs.declared.codes.Code.{Code}
use Rattle.xt_names.specs.declared.names.ExprName.{ExprName}
use Rattle.global_order.specs.GraphOrders.Behind.{all_below}
use Rattle.sheet_values.specs.SheetTexts.Names.{number_of}
use Rattle.sheet_values.specs.declared.sheet_texts.places.StaticContext.{StaticContext}
use Rattle.sheet_values.specs.Names.{qname_faults, qname_value}
use Rattle.sheet_values.specs.Modes.{default_mode, mode_list_faults, mode_list_value}
use Rattle.sheet_values.specs.Modes.{mode_choice_faults, mode_choice_value}
use Rattle.sheet_values.specs.declared.modes.Modes.{Modes}
use Rattle.sheet_values.specs.declared.modes.Modes.TheVariants as modes
use Rattle.sheet_values.specs.declared.modes.ModeChoice.{ModeChoice}
use Rattle.sheet_values.specs.declared.modes.ModeChoice.TheVariants as choice
use Rattle.sheet_heads.specs.Calls.{numbered, mode_faults, mode_value, template_faults, template_value}
use Rattle.sheet_parts.specs.Templates.{numbers_of, mode_set, modes_faults, modes_value}
use Rattle.assembly_laws.specs.Laws.{has_modes}
use Rattle.module_loading.specs.ModuleReader.Mentions.{kept, listed, chosen, named, listed_modes, chosen_mode}
use Rattle.module_loading.specs.ModuleReader.Mentions.{called_name}
use Rattle.declared_uses.specs.Numbers.{is_number_in, has_mode}
use Rattle.declared_uses.proofs.Templates.{number_below}
use Rattle.declared_uses.proofs.UsedNumbers.Covers.{in_table, FirstIsDefault}
use Rattle.xt_names.specs.ExprNames.{same_name}
use Rattle.xt_names.proofs.NameLemmas.{same_names}

-- a name that is in a table has a number of it
number_among : (table some : List ExprName) (n : ExprName) → list_any (same_name n) some ≡ true
    → list_any (λ m. nat_eq (number_of table m) (number_of table n)) some ≡ true
number_among table [] n h = h
number_among table (m ∷ some) n h =
    elim (or_cases (same_name n m) (list_any (same_name n) some) h) [
      | inl e ↦ or_left (nat_eq (number_of table m) (number_of table n)) _
          (eq-eqb (number_of table m) (number_of table n)
          (ap (number_of table) (sym (same_names n m e))))
      | inr k ↦ or_right (nat_eq (number_of table m) (number_of table n)) _
          (number_among table some n k)
    ]

pub number_in : (table : List ExprName) (n : ExprName) → in_table table n ≡ true
    → is_number_in table (number_of table n) ≡ true
number_in table n h = number_among table table n h

default_number : (table : List ExprName) → FirstIsDefault table → in_table table default_mode ≡ true
default_number [] f = absurd f
default_number (d ∷ ms) f = rw f refl

zero_number : (table : List ExprName) → FirstIsDefault table → number_of table default_mode ≡ 0
zero_number [] f = absurd f
zero_number (d ∷ ms) f =
    subst (λ x. number_of (x ∷ ms) default_mode ≡ 0) (sym f)
    (ap (λ (b : Bool). min (unwrap_or (cond b (Some 0) None) (suc (length ms))) 4294967295)
    (lt-ltb 0 (suc (length ms)) (omega arith)))

pub zero_in : (table : List ExprName) → FirstIsDefault table → is_number_in table 0 ≡ true
zero_in table f =
    subst (λ (k : ℕ). is_number_in table k ≡ true) (zero_number table f)
    (number_in table default_mode (default_number table f))

kept_is : {A : Type 0} (f : List Code) (a : A) → f ≡ [] → kept f a ≡ Some a
kept_is [] a e = refl
kept_is (c ∷ cs) a e = absurd cc

module _ (p : StaticContext) (first : FirstIsDefault p.modes) where
  choice_number : (c : ModeChoice) → list_all (in_table p.modes) (chosen (Some c)) ≡ true
      → has_mode p.modes (numbered p c) ≡ true
  choice_number choice.Current h = refl
  choice_number (choice.Named n) h = number_in p.modes n (and_parts (in_table p.modes n) true h).0

  pub mode_has_number : (text : Option (List ℕ)) → mode_faults p text ≡ []
      → list_all (in_table p.modes) (chosen_mode p.bound text) ≡ true
      → has_mode p.modes (mode_value p text) ≡ true
  mode_has_number None f h = zero_in p.modes first
  mode_has_number (Some text) f h =
      choice_number (mode_choice_value p.bound text)
      (subst (λ o. list_all (in_table p.modes) (chosen o) ≡ true)
      (kept_is (mode_choice_faults p.bound text) (mode_choice_value p.bound text) f) h)

  pub template_has_number : (text : Option (List ℕ)) → template_faults p text ≡ []
      → list_all (in_table p.called) (called_name p.bound text) ≡ true
      → is_number_in p.called (template_value p text) ≡ true
  template_has_number None f h = absurd cc
  template_has_number (Some text) f h =
      number_in p.called (qname_value p.bound text)
      (and_parts (in_table p.called (qname_value p.bound text)) true
      (subst (λ o. list_all (in_table p.called) (named o) ≡ true)
      (kept_is (qname_faults p.bound text) (qname_value p.bound text) f) h)).0

  -- the modes of a rule
  all_numbers : (ns : List ExprName) → list_all (in_table p.modes) ns ≡ true
      → all_below (length p.modes) (numbers_of p.modes ns) ≡ true
  all_numbers [] h = refl
  all_numbers (n ∷ ns) h =
      let k = and_parts (in_table p.modes n) _ h in
      and_from _ _ (lt-ltb (number_of p.modes n) (length p.modes) (number_below n p.modes k.0))
      (all_numbers ns k.1)

  set_numbers : (s : Modes) → list_all (in_table p.modes) (listed (Some s)) ≡ true
      → has_modes (length p.modes) (mode_set p.modes s) ≡ true
  set_numbers modes.All h = refl
  set_numbers (modes.Names ns) h = all_numbers ns h

  some_mode : (table : List ExprName) → FirstIsDefault table
      → all_below (length table) (0 ∷ []) ≡ true
  some_mode [] f = absurd f
  some_mode (d ∷ ms) f =
      and_from _ true (lt-ltb 0 (suc (length ms)) (omega arith)) refl

  pub rule_modes : (text : Option (List ℕ)) → modes_faults p text ≡ []
      → list_all (in_table p.modes) (listed_modes p.bound text) ≡ true
      → has_modes (length p.modes) (modes_value p text) ≡ true
  rule_modes None f h = some_mode p.modes first
  rule_modes (Some text) f h =
      set_numbers (mode_list_value p.bound text)
      (subst (λ o. list_all (in_table p.modes) (listed o) ≡ true)
      (kept_is (mode_list_faults p.bound text) (mode_list_value p.bound text) f) h)
