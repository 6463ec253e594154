-- Names and declarations of one module more.
use Rattle.std.proofs.Common.{◌≡◌, ◌≤◌, ◌<◌, ℕ, ◌-◌, true, false, nat_lt, List, [], ◌∷◌, ◌++◌}
use Rattle.std.proofs.Common.{length, take, drop, get_or, slice_get, Some, Result, Ok, Err, OnOk}
use Rattle.std.proofs.Common.{refl, sym, ap, subst, ◌∙◌, append_assoc, le-ltb, inl, inr}
use Rattle.std.proofs.lemmas.Bool.{cases_lt}
use Rattle.std.proofs.lemmas.Option.{slice_get_read}
use Rattle.xt_names.specs.declared.names.ExprName.{ExprName}
use Rattle.xt_names.specs.declared.codes.Code.{Code}
use Rattle.expr_names.specs.Answers.{Answers}
use Rattle.expr_names.specs.declared.fault.ResolveFault.{ResolveFault}
use Rattle.sheet_values.specs.SheetTexts.Readings.{Reading}
use Rattle.sheet_modules.specs.declared.modules.Part.{Part}
use Rattle.module_loading.specs.declared.loaded.LoadedModule.{LoadedModule}
use Rattle.module_loading.specs.ModuleReader.Modules.{nodes_faults, nodes_value}
use Rattle.sheet_table.specs.declared.sheet_nodes.nodes.Node.{Node}
use Rattle.loaded_sheets.specs.LoadedParts.Names.{AllCanBeRead}
use Rattle.loaded_sheets.specs.LoadedParts.Parts.{all_faults, all_values}
use Rattle.loaded_sheets.specs.declared.loaded_parts.names.SheetNames.{SheetNames}
use Rattle.xt_names.proofs.ListLemmas.{first_of}

is_within : (i n : ℕ) → true ≡ nat_lt i n → i < n
is_within i n e = elim (cases_lt i n) [
  | inl within ↦ within
  | inr over ↦ absurd (let no : true ≡ false = e ∙ le-ltb i n over in cc)
]

pub found : {A : Type 0} (ms : List A) (i : ℕ) (m : A) → true ≡ nat_lt i (length ms)
    → m ≡ get_or ms i m → slice_get ms i ≡ Some m
found ms i m less is = slice_get_read ms (length ms) i m refl (is_within i (length ms) less) is

abbrev names : List ExprName → List ExprName → SheetNames
names modes called = record { modes = modes; called = called }

pub both_made : {A B : Type 0} (r : Result A B) (m n k l : List ExprName) → OnOk r (m ≡ n)
    → OnOk r (k ≡ l) → OnOk r (names m k ≡ names n l)
both_made (Ok v) m n k l a b = ap (λ x. names x k) a ∙ ap (λ x. names n x) b
both_made (Err e) m n k l a b = tt

pub rest_readable : (left : List LoadedModule) (m : LoadedModule) → 1 ≤ length left
    → m ≡ get_or left 0 m → AllCanBeRead left → AllCanBeRead (take (length left - 1) (drop 1 left))
rest_readable left m some is all =
    let both : AllCanBeRead (m ∷ take (length left - 1) (drop 1 left)) =
    subst AllCanBeRead (first_of left m some is) all in both.1

module _ {E P : Type 0} (r : Reading E P) (modes called : List ExprName) where
  pub turn_faults : (m : List Node) (left : List (List Node)) (all : List Code)
      (one : Result (List (Part E P)) ResolveFault) (made new : List (List (Part E P)))
      → 1 ≤ length left → m ≡ get_or left 0 m
      → Answers one (nodes_faults r modes called m) (nodes_value r modes called m)
      → ((faults : List Code) (a : List (Part E P)) → Answers one faults a
      → Answers (Ok new) faults (made ++ a ∷ []))
      → all_faults r modes called left ≡ all
      → all_faults r modes called (take (length left - 1) (drop 1 left)) ≡ all
  turn_faults m left all one made new some is answers more h =
      let rest : List (List Node) = take (length left - 1) (drop 1 left) in
      let none = (more (nodes_faults r modes called m) (nodes_value r modes called m) answers).0 in
      ap (λ (cs : List Code). cs ++ all_faults r modes called rest) (sym none)
      ∙ (ap (all_faults r modes called) (sym (first_of left m some is)) ∙ h)

  pub turn_value : (m : List Node) (left : List (List Node)) (all : List (List (Part E P)))
      (one : Result (List (Part E P)) ResolveFault) (made new : List (List (Part E P)))
      → 1 ≤ length left → m ≡ get_or left 0 m
      → Answers one (nodes_faults r modes called m) (nodes_value r modes called m)
      → ((faults : List Code) (a : List (Part E P)) → Answers one faults a
      → Answers (Ok new) faults (made ++ a ∷ []))
      → made ++ all_values r modes called left ≡ all
      → new ++ all_values r modes called (take (length left - 1) (drop 1 left)) ≡ all
  turn_value m left all one made new some is answers more h =
      let rest : List (List Node) = take (length left - 1) (drop 1 left) in
      let same = (more (nodes_faults r modes called m) (nodes_value r modes called m) answers).1 in
      ap (λ (xs : List (List (Part E P))). xs ++ all_values r modes called rest) same
      ∙ (append_assoc made (nodes_value r modes called m ∷ []) (all_values r modes called rest)
      ∙ (ap (λ (ms : List (List Node)). made ++ all_values r modes called ms)
      (sym (first_of left m some is)) ∙ h))
