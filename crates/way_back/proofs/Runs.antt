-- Functions of a query do what those of its stylesheet do, with as many calls left.
use Rattle.std.proofs.Common.{◌≡◌, ℕ, List, [], ◌∷◌, refl, ap, ap₂, ◌∙◌, map}
use Rattle.std.proofs.lemmas.List.{length-map}
use Rattle.std.specs.Prelude.{Bool, true, false, ◌&&◌, ◌==◌, Option, Some, None, Ok}
use Rattle.std.specs.Prelude.{option_map, if◌then◌else◌}
use Rattle.xt_names.specs.declared.names.ExprName.{ExprName}
use Rattle.xt_names.specs.declared.names.Binding.{Binding as Namespace}
use Rattle.xdm_items.specs.declared.items.Item.{Item}
use Rattle.xt_syntax.specs.declared.queries.QueryFunction.{QueryFunction}
use Rattle.xt_syntax.specs.declared.queries.QueryParam.{QueryParam}
use Rattle.xt_sheets.specs.declared.sheets.Sheet.{Sheet}
use Rattle.xdm_items.specs.FunctionArguments.Arguments.{and_then as result_then}
use Rattle.expr_meaning.specs.Outcomes.Outcome.{Every, step_outcome}
use Rattle.expr_meaning.specs.SortMeaning.Sorted.{Placed}
use Rattle.expr_meaning.specs.Env.{Binding, Program, look_up}
use Rattle.expr_meaning.specs.Meaning.{outcome}
use Rattle.expr_meaning.specs.Queries.{body_env, bound_params, converted_to, body_value}
use Rattle.expr_meaning.specs.Queries.{called_function as query_called, find_function as query_finds}
use Rattle.expr_meaning.specs.Queries.{is_called as query_is_called}
use Rattle.expr_laws.specs.Carrier.{AreGood}
use Rattle.expr_laws.proofs.Steps.{step_known}
use Rattle.meaning_laws.proofs.SoundFunctions.Kept.{values_kept}
use Rattle.meaning_laws.specs.SoundValues.Sound.{IsSound}
use Rattle.meaning_laws.proofs.SoundValues.Arguments.{AllSound}
use Rattle.transform_meaning.specs.Dispatch.{Doors}
use Rattle.transform_meaning.specs.Instrs.{body_does}
use Rattle.transform_meaning.specs.Templates.{bound_args, called_function, find_function}
use Rattle.way_back.specs.Same.{same}
use Rattle.way_back.specs.Places.{IsSame, ProgramsSame, OnSome}
use Rattle.way_back.specs.Forms.{counted_at, back_at}
use Rattle.way_back.specs.Sheets.{param_of, function_of, counted_function, FunctionFits}
use Rattle.way_back.proofs.Bodies.{body_becomes}
use Rattle.way_back.proofs.Making.{same_self}
use Rattle.way_back.proofs.Same.{same_carries}
use Rattle.way_back.proofs.Whole.{whole}
use Rattle.meaning_laws.proofs.SoundRuns.Runs.{converted_sound, params_sound}
use Rattle.xt_names.specs.ExprNames.{same_name}

-- good lists are found
pub found_good : (good : Item → Type 0) (bs : List Binding) (name : ExprName) → AreGood good bs →
    OnSome (Every good) (look_up bs name)
unfolding look_up
found_good good [] name h = tt
found_good good (b ∷ bs) name h = by (same_name b.0 name) (found_good good bs name h.1)
  where
    by : (d : Bool) → OnSome (Every good) (look_up bs name) →
        OnSome (Every good) (if d then Some b.1 else look_up bs name)
    by true g = h.0
    by false g = g

no_item : (p : Placed Item) → None ≡ Some p → IsSound p.value
no_item p e = absurd cc

-- where a function's body begins
pub body_same : (bound : List Binding) → AreGood IsSound bound →
    IsSame IsSound false (body_env bound) (body_env bound)
body_same bound h = record {
  locals = λ name own. refl;
  known = λ name. found_good IsSound bound name h;
  focus = (refl, no_item);
}

-- parameters
params_are : (ps : List QueryParam) (args : List (List Item)) →
    bound_args (map param_of ps) args ≡ bound_params ps args
params_are [] args = refl
params_are (p ∷ ps) [] = refl
params_are (p ∷ ps) (xs ∷ args) =
    ap (λ o. result_then (converted_to p.kind xs) (λ ys. result_then o (λ bs. Ok ((p.name, ys) ∷ bs))))
    (params_are ps args)

module _ (levels : ℕ) (scope : List Namespace) where
  -- the same function is found
  pub finds : (fs : List QueryFunction) (name : ExprName) (n : ℕ) →
      find_function (map (function_of levels scope) fs) name n
      ≡ option_map (function_of levels scope) (query_finds fs name n)
  finds [] name n = refl
  finds (f ∷ fs) name n =
      ap₂ (λ l o. if same_name f.name name && l == n then Some (function_of levels scope f) else o)
      (length-map f.params param_of) (finds fs name n)
      ∙ by (query_is_called f name n)
    where
      by : (b : Bool) →
          (if b then Some (function_of levels scope f)
          else option_map (function_of levels scope) (query_finds fs name n))
          ≡ option_map (function_of levels scope) (if b then Some f else query_finds fs name n)
      by true = refl
      by false = refl

  pub counts : (fs : List QueryFunction) (name : ExprName) (n : ℕ) →
      query_finds (map (counted_function levels) fs) name n
      ≡ option_map (counted_function levels) (query_finds fs name n)
  counts [] name n = refl
  counts (f ∷ fs) name n =
      ap (λ o. if query_is_called f name n then Some (counted_function levels f) else o) (counts fs name n)
      ∙ by (query_is_called f name n)
    where
      by : (b : Bool) →
          (if b then Some (counted_function levels f)
          else option_map (counted_function levels) (query_finds fs name n))
          ≡ option_map (counted_function levels) (if b then Some f else query_finds fs name n)
      by true = refl
      by false = refl

  pub found_fits : (q : Program) (fs : List QueryFunction) (name : ExprName) (n : ℕ) →
      Every (FunctionFits levels scope q) fs → OnSome (FunctionFits levels scope q) (query_finds fs name n)
  found_fits q [] name n h = tt
  found_fits q (f ∷ fs) name n h = by (query_is_called f name n) (found_fits q fs name n h.1)
    where
      by : (b : Bool) → OnSome (FunctionFits levels scope q) (query_finds fs name n) →
          OnSome (FunctionFits levels scope q) (if b then Some f else query_finds fs name n)
      by true g = h.0
      by false g = g

  module _ (sheet : Sheet) where
    -- no call is left on both sides
    pub none_left : (o : Option QueryFunction) (args : List (List Item)) → Every AllSound args → (k : ℕ) →
        same (List Item) (Every IsSound)
        (called_function sheet None (option_map (function_of levels scope) o) args k)
        (query_called (option_map (counted_function levels) o) None args k)
    none_left None args h k = (tt, tt, tt)
    none_left (Some f) args h k =
        rw (params_are f.params args)
        (same_carries.next _ _ (AreGood IsSound) (Every IsSound)
        (step_outcome (bound_params f.params args) k) (step_outcome (bound_params f.params args) k) _ _
        (same_self (AreGood IsSound) (step_outcome (bound_params f.params args) k)
        (step_known (AreGood IsSound) (bound_params f.params args) (params_sound f.params args h) k))
        (λ bound j g. (tt, tt, tt)))

    -- one more call
    pub one_left : (doors : Doors) (q : Program) → ProgramsSame same IsSound doors.program q →
        (o : Option QueryFunction) → OnSome (FunctionFits levels scope q) o → (args : List (List Item)) →
        Every AllSound args → (k : ℕ) →
        same (List Item) (Every IsSound)
        (called_function sheet (Some doors) (option_map (function_of levels scope) o) args k)
        (query_called (option_map (counted_function levels) o) (Some (body_value q)) args k)
    one_left doors q programs None fit args h k = (tt, tt, tt)
    one_left doors q programs (Some f) fit args h k =
        rw (params_are f.params args)
        (same_carries.next _ _ (AreGood IsSound) (Every IsSound)
        (step_outcome (bound_params f.params args) k) (step_outcome (bound_params f.params args) k) _ _
        (same_self (AreGood IsSound) (step_outcome (bound_params f.params args) k)
        (step_known (AreGood IsSound) (bound_params f.params args) (params_sound f.params args h) k))
        (λ bound j g.
        same_carries.next _ _ (Every IsSound) (Every IsSound)
        (body_does sheet doors (back_at scope levels f.body) (body_env bound) j)
        (outcome q (counted_at levels f.body) (body_env bound) j) _ _
        (body_becomes IsSound values_kept sheet doors false (back_at scope levels f.body)
        (outcome q (counted_at levels f.body))
        (whole sheet doors q programs scope levels false f.body fit.0 fit.1 fit.2)
        (body_env bound) (body_env bound) (body_same bound g) j)
        (λ xs i s. same_self (Every IsSound) (step_outcome (converted_to f.kind xs) i)
        (step_known (Every IsSound) (converted_to f.kind xs) (converted_sound f.kind xs s) i))))
