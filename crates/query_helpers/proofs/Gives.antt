-- What forms of the query give where their parts give lists and use up no number.
use Rattle.std.proofs.Common.{◌≡◌, ◌+◌, ◌<◌, ◌≤◌, ℕ, suc, List, [], ◌∷◌, ◌++◌, length, refl, ap, ◌∙◌, map}
use Rattle.std.proofs.Common.{arith}
use Rattle.std.specs.Prelude.{Bool, true, false, not, ◌&&◌, ◌||◌, None, Some, Ok, pos, ℤ}
use Rattle.std.specs.List.{list_any}
use Rattle.xt_names.specs.Allowed.{is_empty_text}
use Rattle.xt_names.specs.declared.kinds.CompareOp.{CompareOp}
use Rattle.xt_names.specs.declared.names.ExprName.{ExprName}
use Rattle.xt_types.specs.declared.node_tests.Test.{Test}
use Rattle.xt_types.specs.declared.types.ItemType.TheVariants.{Kind}
use Rattle.xdm_items.specs.declared.items.Item.{Item}
use Rattle.xdm_items.specs.Matching.{matches_type, matches_item, allows_count}
use Rattle.xdm_items.specs.Truth.{truth_of, truth_of_atom}
use Rattle.xt_syntax.specs.declared.exprs.Expr.{Expr}
use Rattle.xt_syntax.specs.declared.exprs.Clause.TheViews.{roll-Expr, roll-Arm, roll-Clause}
use Rattle.xt_syntax.specs.declared.exprs.Clause.TheViews.{roll-Flwor, roll-Bind}
use Rattle.xt_syntax.specs.declared.exprs.Clause.TheOpen.{Var, Int, Str, Call, If, Flwor, InstanceOf}
use Rattle.xt_syntax.specs.declared.exprs.Clause.TheOpen.{Quant, Value, And, For, Let, Comma}
use Rattle.function_table.specs.declared.builtins.Builtin.{Builtin}
use Rattle.xdm_items.specs.FunctionArguments.Answers.{of_truth, of_text, of_integer}
use Rattle.fn_lib.specs.Functions.{function_value}
use Rattle.operator_values.specs.Types.{instance_value}
use Rattle.operator_values.specs.Comparisons.{single_value}
use Rattle.expr_meaning.specs.Outcomes.Outcome.{Ends, Fails, and_then, step_outcome, for_each}
use Rattle.expr_meaning.specs.SortMeaning.Sorted.{Placed, places, placed_from}
use Rattle.expr_meaning.specs.Env.{Env, Meaning, Program, bind_all, look_up, or_global}
use Rattle.xt_syntax.specs.Layers.{arm_gives}
use Rattle.query_helpers.specs.Forms.{if_many, arm_of}
use Rattle.std.proofs.Common.{◌^◌}
use Rattle.std.proofs.lemmas.Bool.{lt-ltb, le-ltb}
use Rattle.xt_names.specs.declared.codes.Code.TheVariants.{Dynamic}
use Rattle.xt_names.specs.declared.codes.DynamicCode.TheVariants.{FOAR0002}
use Rattle.expr_meaning.specs.Logic.{Bound, choice_of, quantifier_of}
use Rattle.expr_meaning.specs.Logic.{truth_at, chosen, item_decides, quantified, unless, first_of}
use Rattle.expr_meaning.specs.Calls.{called, library}
use Rattle.expr_meaning.specs.Flow.{flwor_of, for_clause, for_at_clause, let_clause}
use Rattle.expr_meaning.specs.Meaning.{meanings, steps, outcome}
use Rattle.expr_laws.proofs.Rolled.{means, rolled, rolled_arm, rolled_bind, rolled_flwor}
use Rattle.expr_laws.proofs.Rolled.{rolled_clause, clause_value}
use Rattle.expr_laws.proofs.Texts.{ExprForm, ArmForm, BindForm, ClauseForm, FlworForm}
use Rattle.carried_exprs.specs.Sights.{variable_of}
use Rattle.query_helpers.specs.Forms.{for_in, for_at, let_in, if_of, some_in, of_kind, is_of_kind}
use Rattle.query_helpers.specs.Forms.{both_of, integer_of, text_literal}
use Rattle.query_helpers.proofs.Flows.{for_is, for_at_is, let_is}

-- lists one after another
abbrev pub joined : {A : Type 0} → (A → List Item) → List A → List Item
joined f [] = []
joined f (x ∷ xs) = f x ++ joined f xs

-- .. of items with their places
abbrev pub joined_from : (ℕ → Item → List Item) → ℕ → List Item → List Item
joined_from f i [] = []
joined_from f i (x ∷ xs) = f i x ++ joined_from f (suc i) xs

module _ (q : Program) where
  abbrev pub Gives : Expr → Env → List Item → Type 0
  Gives e env xs = (k : ℕ) → outcome q e env k ≡ Ends xs k

  abbrev pub Tells : Expr → Env → Bool → Type 0
  Tells e env t = (k : ℕ) → truth_at (outcome q e) env k ≡ Ends t k

  pub mean : (x : ExprForm) (env : Env) (k : ℕ) → outcome q (roll-Expr x) env k ≡ means q x env k
  mean x env k = ap (λ (m : Meaning). m env k) (rolled q x)

  pub gives_variable : (name : ExprName) (env : Env) (xs : List Item) →
      look_up env.locals name ≡ Some xs → Gives (variable_of name) env xs
  gives_variable name env xs h k =
      mean (Var name) env k
      ∙ ap (λ o. step_outcome (or_global o (look_up q.globals name)) k) h

  pub gives_integer : (n : ℤ) (env : Env) → Gives (integer_of n) env (of_integer n)
  gives_integer n env k = mean (Int n) env k

  pub gives_text : (t : List ℕ) (env : Env) → Gives (text_literal t) env (of_text t)
  gives_text t env k = mean (Str t) env k

  pub gives_nothing : (env : Env) → Gives (roll-Expr (Comma [])) env []
  gives_nothing env k = mean (Comma []) env k

  pub tells_truth : (e : Expr) (env : Env) (t : Bool) → Gives e env (of_truth t) → Tells e env t
  unfolding truth_of truth_of_atom
  tells_truth e env t h k = rw (h k) refl

  pub tells_text : (e : Expr) (env : Env) (t : List ℕ) → Gives e env (of_text t) →
      Tells e env (not (is_empty_text t))
  unfolding truth_of truth_of_atom
  tells_text e env t h k = rw (h k) refl

  -- tests of kinds
  and_nothing : (b : Bool) → (b && true) ≡ b
  and_nothing true = refl
  and_nothing false = refl

  pub tells_kind : (a : Expr) (wanted : Test) (env : Env) (x : Item) → Gives a env (x ∷ []) →
      Tells (is_of_kind a wanted) env (matches_item (Kind wanted) x)
  unfolding instance_value matches_type allows_count
  tells_kind a wanted env x h =
      tells_truth (is_of_kind a wanted) env (matches_item (Kind wanted) x) (λ k.
      mean (InstanceOf a (of_kind wanted)) env k
      ∙ ap (λ o. and_then o (λ xs j. step_outcome (instance_value (of_kind wanted) xs) j)) (h k)
      ∙ ap (λ b. Ends (of_truth b) k) (and_nothing (matches_item (Kind wanted) x)))

  -- `if`
  chosen_gives : (b c : Expr) (env : Env) (t : Bool) (xs : List Item) →
      (t ≡ true → Gives b env xs) → (t ≡ false → Gives c env xs) → (k : ℕ) →
      chosen (outcome q b) (outcome q c) env t k ≡ Ends xs k
  chosen_gives b c env true xs h g k = h refl k
  chosen_gives b c env false xs h g k = g refl k

  pub gives_if : (a b c : Expr) (env : Env) (t : Bool) (xs : List Item) → Tells a env t →
      (t ≡ true → Gives b env xs) → (t ≡ false → Gives c env xs) → Gives (if_of a b c) env xs
  gives_if a b c env t xs h g i k =
      let arm : ArmForm = record { test = a; then = b } in
      mean (If (roll-Arm arm ∷ []) c) env k
      ∙ ap (λ (m : Meaning × Meaning). and_then (truth_at m.0 env k) (chosen m.1 (outcome q c) env))
      (rolled_arm q arm)
      ∙ ap (λ o. and_then o (chosen (outcome q b) (outcome q c) env)) (h k)
      ∙ chosen_gives b c env t xs g i k

  pub if_then : (a b c : Expr) (env : Env) → Tells a env true → (k : ℕ) →
      outcome q (if_of a b c) env k ≡ outcome q b env k
  if_then a b c env h k =
      let arm : ArmForm = record { test = a; then = b } in
      mean (If (roll-Arm arm ∷ []) c) env k
      ∙ ap (λ (m : Meaning × Meaning). and_then (truth_at m.0 env k) (chosen m.1 (outcome q c) env))
      (rolled_arm q arm)
      ∙ ap (λ o. and_then o (chosen (outcome q b) (outcome q c) env)) (h k)

  pub if_else : (a b c : Expr) (env : Env) → Tells a env false → (k : ℕ) →
      outcome q (if_of a b c) env k ≡ outcome q c env k
  if_else a b c env h k =
      let arm : ArmForm = record { test = a; then = b } in
      mean (If (roll-Arm arm ∷ []) c) env k
      ∙ ap (λ (m : Meaning × Meaning). and_then (truth_at m.0 env k) (chosen m.1 (outcome q c) env))
      (rolled_arm q arm)
      ∙ ap (λ o. and_then o (chosen (outcome q b) (outcome q c) env)) (h k)

  -- calls
  pub gives_call : (name : ExprName) (f : Builtin) (a : Expr) (env : Env) (xs ys : List Item) →
      called name 1 ≡ library f → Gives a env xs → function_value f (xs ∷ []) ≡ Ok ys →
      Gives (roll-Expr (Call name (a ∷ []))) env ys
  gives_call name f a env xs ys is h v k =
      mean (Call name (a ∷ [])) env k ∙ rw (h k, is, v) refl

  pub gives_call_of_two : (name : ExprName) (f : Builtin) (a b : Expr) (env : Env)
      (xs ys zs : List Item) → called name 2 ≡ library f → Gives a env xs → Gives b env ys →
      function_value f (xs ∷ ys ∷ []) ≡ Ok zs → Gives (roll-Expr (Call name (a ∷ b ∷ []))) env zs
  gives_call_of_two name f a b env xs ys zs is h g v k =
      mean (Call name (a ∷ b ∷ [])) env k ∙ rw (h k, g k, is, v) refl

  pub gives_call_of_three : (name : ExprName) (f : Builtin) (a b c : Expr) (env : Env)
      (xs ys zs us : List Item) → called name 3 ≡ library f → Gives a env xs → Gives b env ys →
      Gives c env zs → function_value f (xs ∷ ys ∷ zs ∷ []) ≡ Ok us →
      Gives (roll-Expr (Call name (a ∷ b ∷ c ∷ []))) env us
  gives_call_of_three name f a b c env xs ys zs us is h g i v k =
      mean (Call name (a ∷ b ∷ c ∷ [])) env k ∙ rw (h k, g k, i k, is, v) refl

  -- comparisons of values
  pub gives_value : (op : CompareOp) (a b : Expr) (env : Env) (xs ys zs : List Item) →
      Gives a env xs → Gives b env ys → single_value op xs ys ≡ Ok zs →
      Gives (roll-Expr (Value op a b)) env zs
  gives_value op a b env xs ys zs h g v k =
      mean (Value op a b) env k ∙ rw (h k, g k, v) refl

  -- `and` of two, where the second is told only after the first
  two_told : (b : Expr) (env : Env) (t u : Bool) → (t ≡ true → Tells b env u) → (k : ℕ) →
      and_then (unless false (first_of false (outcome q b ∷ []) env) t k)
      (λ x j. Ends (of_truth x) j) ≡ Ends (of_truth (t && u)) k
  two_told b env false u h k = refl
  two_told b env true u h k = rw (h refl k) (by u)
    where
      by : (u : Bool) → and_then (unless false (first_of false [] env) u k)
          (λ x j. Ends (of_truth x) j) ≡ Ends (of_truth u) k
      by true = refl
      by false = refl

  pub gives_both : (a b : Expr) (env : Env) (t u : Bool) → Tells a env t →
      (t ≡ true → Tells b env u) → Gives (both_of a b) env (of_truth (t && u))
  gives_both a b env t u h g k =
      mean (And (a ∷ b ∷ [])) env k
      ∙ ap (λ o. and_then (and_then o (unless false (first_of false (outcome q b ∷ []) env)))
      (λ x j. Ends (of_truth x) j)) (h k)
      ∙ two_told b env t u g k

  pub tells_both : (a b : Expr) (env : Env) (t u : Bool) → Tells a env t →
      (t ≡ true → Tells b env u) → Tells (both_of a b) env (t && u)
  tells_both a b env t u h g = tells_truth (both_of a b) env (t && u) (gives_both a b env t u h g)

  -- flows
  flow_is : (clause : ClauseForm) (body : Expr) (env : Env) (k : ℕ) → outcome q
      (roll-Expr (Flwor (roll-Flwor (record {
        clauses = roll-Clause clause ∷ [];
        test = None;
        orders = [];
        stable = false;
        body = body;
      })))) env k
      ≡ flwor_of (clause_value q clause ∷ []) None [] (outcome q body) env k
  flow_is clause body env k =
      let flow : FlworForm = record {
        clauses = roll-Clause clause ∷ [];
        test = None;
        orders = [];
        stable = false;
        body = body;
      } in
      mean (Flwor (roll-Flwor flow)) env k
      ∙ ap (λ (m : Meaning). m env k) (rolled_flwor q flow)
      ∙ ap (λ c. flwor_of (c ∷ []) None [] (outcome q body) env k)
      (rolled_clause q clause)

  pub let_of : (v : ExprName) (a b : Expr) (env : Env) (k : ℕ) → outcome q (let_in v a b) env k
      ≡ and_then (outcome q a env k) (λ xs. outcome q b (bind_all ((v, xs) ∷ []) env))
  let_of v a b env k =
      let bound : BindForm = record { var = v; kind = None; source = a } in
      flow_is (Let (roll-Bind bound)) b env k
      ∙ ap (λ c. flwor_of
      (let_clause c ∷ []) None [] (outcome q b) env k) (rolled_bind q bound)
      ∙ let_is v (outcome q a) (outcome q b) env k

  pub for_of : (v : ExprName) (a b : Expr) (env : Env) (k : ℕ) → outcome q (for_in v a b) env k
      ≡ and_then (outcome q a env k) (for_each (λ x. outcome q b (bind_all ((v, x ∷ []) ∷ []) env)))
  for_of v a b env k =
      let bound : BindForm = record { var = v; kind = None; source = a } in
      flow_is (For (roll-Bind bound) None) b env k
      ∙ ap (λ c. flwor_of
      (for_clause c ∷ []) None [] (outcome q b) env k) (rolled_bind q bound)
      ∙ for_is v (outcome q a) (outcome q b) env k

  pub for_at_of : (v at : ExprName) (a b : Expr) (env : Env) (k : ℕ) →
      outcome q (for_at v at a b) env k
      ≡ and_then (outcome q a env k) (λ xs j. and_then (step_outcome (places xs) j)
      (for_each (λ f. outcome q b
      (bind_all ((at, of_integer (pos f.place)) ∷ (v, f.value ∷ []) ∷ []) env))))
  for_at_of v at a b env k =
      let bound : BindForm = record { var = v; kind = None; source = a } in
      flow_is (For (roll-Bind bound) (Some at)) b env k
      ∙ ap (λ c. flwor_of
      (for_at_clause c at ∷ []) None [] (outcome q b) env k) (rolled_bind q bound)
      ∙ for_at_is v at (outcome q a) (outcome q b) env k

  pub gives_let : (v : ExprName) (a b : Expr) (env : Env) (xs ys : List Item) → Gives a env xs →
      Gives b (bind_all ((v, xs) ∷ []) env) ys → Gives (let_in v a b) env ys
  gives_let v a b env xs ys h g k = let_of v a b env k ∙ rw (h k) (g k)

  each_gives : (v : ExprName) (b : Expr) (env : Env) (f : Item → List Item) →
      ((x : Item) → Gives b (bind_all ((v, x ∷ []) ∷ []) env) (f x)) → (xs : List Item) (k : ℕ) →
      for_each (λ x. outcome q b (bind_all ((v, x ∷ []) ∷ []) env)) xs k ≡ Ends (joined f xs) k
  each_gives v b env f h [] k = refl
  each_gives v b env f h (x ∷ xs) k = rw (h x k, each_gives v b env f h xs k) refl

  pub gives_for : (v : ExprName) (a b : Expr) (env : Env) (xs : List Item) (f : Item → List Item) →
      Gives a env xs → ((x : Item) → Gives b (bind_all ((v, x ∷ []) ∷ []) env) (f x)) →
      Gives (for_in v a b) env (joined f xs)
  gives_for v a b env xs f h g k =
      for_of v a b env k
      ∙ ap (λ o. and_then o (for_each (λ x. outcome q b (bind_all ((v, x ∷ []) ∷ []) env)))) (h k)
      ∙ each_gives v b env f g xs k

  abbrev place_env : ExprName → ExprName → Env → ℕ → Item → Env
  place_env v at env i x = bind_all ((at, of_integer (pos i)) ∷ (v, x ∷ []) ∷ []) env

  places_give : (v at : ExprName) (b : Expr) (env : Env) (f : ℕ → Item → List Item) (n : ℕ) →
      ((i : ℕ) (x : Item) → 0 < i → i ≤ n → Gives b (place_env v at env i x) (f i x)) →
      (xs : List Item) (i : ℕ) → 0 < i → i + length xs ≤ n + 1 → (m k : ℕ) →
      for_each (λ (p : Placed Item). outcome q b (place_env v at env p.place p.value))
      (placed_from i m xs) k ≡ Ends (joined_from f i xs) k
  places_give v at b env f n h [] i low high m k = refl
  places_give v at b env f n h (x ∷ xs) i low high m k =
      rw (
        h i x low (omega arith) k,
        places_give v at b env f n h xs (suc i) (omega arith) (omega arith) m k,
      ) refl

  pub gives_for_at : (v at : ExprName) (a b : Expr) (env : Env) (xs : List Item)
      (f : ℕ → Item → List Item) → length xs < 2 ^ 63 → Gives a env xs →
      ((i : ℕ) (x : Item) → 0 < i → i ≤ length xs → Gives b (place_env v at env i x) (f i x)) →
      Gives (for_at v at a b) env (joined_from f 1 xs)
  gives_for_at v at a b env xs f few h g k =
      for_at_of v at a b env k
      ∙ rw (h k, lt-ltb (length xs) (2 ^ 63) few)
      (places_give v at b env f (length xs) g xs 1 (omega arith) (omega arith) (length xs) k)

  pub many_fail : (v at : ExprName) (a b : Expr) (env : Env) (xs : List Item) → 2 ^ 63 ≤ length xs →
      Gives a env xs → (k : ℕ) → outcome q (for_at v at a b) env k ≡ Fails (Dynamic FOAR0002)
  many_fail v at a b env xs many h k =
      for_at_of v at a b env k ∙ rw (h k, le-ltb (length xs) (2 ^ 63) many) refl

  -- `some`
  abbrev one_bound : ExprName → Meaning → Bound
  one_bound v source = record { var = v; kind = None; source = source }

  one_decides : (v : ExprName) (source : Meaning) (b : Expr) (env : Env) (t : Item → Bool) →
      ((x : Item) → Tells b (bind_all ((v, x ∷ []) ∷ []) env) (t x)) → (xs : List Item) (k : ℕ) →
      item_decides true (one_bound v source) (quantified true [] (outcome q b)) env xs k
      ≡ Ends (list_any t xs) k
  one_decides v source b env t h [] k = refl
  one_decides v source b env t h (x ∷ xs) k =
      rw (h x k) (by (t x) (one_decides v source b env t h xs))
    where
      by : (c : Bool) → ((j : ℕ) → item_decides true (one_bound v source)
          (quantified true [] (outcome q b)) env xs j ≡ Ends (list_any t xs) j) →
          unless true (item_decides true (one_bound v source) (quantified true [] (outcome q b)) env xs)
          c k ≡ Ends (c || list_any t xs) k
      by true g = refl
      by false g = g k

  pub tells_some : (v : ExprName) (a b : Expr) (env : Env) (xs : List Item) (t : Item → Bool) →
      Gives a env xs → ((x : Item) → Tells b (bind_all ((v, x ∷ []) ∷ []) env) (t x)) →
      Tells (some_in v a b) env (list_any t xs)
  tells_some v a b env xs t h g =
      tells_truth (some_in v a b) env (list_any t xs) (λ k.
      let bound : BindForm = record { var = v; kind = None; source = a } in
      mean (Quant false (roll-Bind bound ∷ []) b) env k
      ∙ ap (λ c. quantifier_of false (c ∷ []) (outcome q b) env k) (rolled_bind q bound)
      ∙ rw (h k, one_decides v (outcome q a) b env t g xs k) refl)

  -- `if` with arms
  abbrev pub ArmsGive : List (Expr × Expr) → Expr → Env → List Item → Type 0
  ArmsGive [] c env xs = Gives c env xs
  ArmsGive (a ∷ arms) c env xs =
      (t : Bool) × Tells a.0 env t × (t ≡ true → Gives a.1 env xs)
      × (t ≡ false → ArmsGive arms c env xs)

  arms_chosen : (arms : List (Expr × Expr)) (c : Expr) (env : Env) (xs : List Item) →
      ArmsGive arms c env xs → (k : ℕ) →
      choice_of (map (arm_gives meanings (steps q)) (map arm_of arms)) (outcome q c) env k ≡ Ends xs k
  arms_chosen [] c env xs h k = h k
  arms_chosen (a ∷ arms) c env xs h k =
      let arm : ArmForm = record { test = a.0; then = a.1 } in
      ap (λ (m : Meaning × Meaning). and_then (truth_at m.0 env k) (chosen m.1
      (choice_of (map (arm_gives meanings (steps q)) (map arm_of arms)) (outcome q c)) env))
      (rolled_arm q arm)
      ∙ ap (λ o. and_then o (chosen (outcome q a.1)
      (choice_of (map (arm_gives meanings (steps q)) (map arm_of arms)) (outcome q c)) env)) (h.1 k)
      ∙ by h.0 h.2 (λ f. arms_chosen arms c env xs (h.3 f))
    where
      by : (t : Bool) → (t ≡ true → Gives a.1 env xs) → (t ≡ false → (j : ℕ) →
          choice_of (map (arm_gives meanings (steps q)) (map arm_of arms)) (outcome q c) env j ≡ Ends xs j) →
          chosen (outcome q a.1)
          (choice_of (map (arm_gives meanings (steps q)) (map arm_of arms)) (outcome q c)) env t k
          ≡ Ends xs k
      by true g i = g refl k
      by false g i = i refl k

  pub gives_many : (arms : List (Expr × Expr)) (c : Expr) (env : Env) (xs : List Item) →
      ArmsGive arms c env xs → Gives (if_many arms c) env xs
  gives_many arms c env xs h k =
      mean (If (map arm_of arms) c) env k ∙ arms_chosen arms c env xs h k
