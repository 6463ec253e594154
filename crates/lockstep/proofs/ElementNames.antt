-- Names of elements and attributes that are computed.
use Rattle.std.proofs.Common.{◌≡◌, ℕ, List, [], ◌∷◌, ◌++◌, refl, ap, ◌∙◌}
use Rattle.std.specs.Prelude.{Bool, true, false, codes, nat_eq, if◌then◌else◌, is_some}
use Rattle.std.specs.Prelude.{Option, Some, None, Ok}
use Rattle.std.specs.List.{starts_with}
use Rattle.xt_names.specs.Allowed.{is_empty_text}
use Rattle.xt_names.specs.declared.codes.Code.{Code}
use Rattle.xt_names.specs.declared.names.Binding.{Binding}
use Rattle.xt_names.specs.declared.names.Name.{Name}
use Rattle.xt_atoms.specs.declared.atoms.Atom.TheVariants as atom
use Rattle.xdm_items.specs.Conversion.{converted, converted_atom, converted_item, converted_items}
use Rattle.xdm_items.specs.Conversion.{matched, prepared}
use Rattle.xdm_items.specs.Matching.{allows_count, has_atom_type, matches_item, matches_type}
use Rattle.xdm_items.specs.Values.{atomized}
use Rattle.xdm_items.specs.declared.items.Item.{Item}
use Rattle.xdm_items.specs.declared.items.Item.TheVariants.{Atom}
use Rattle.xdm_items.specs.FunctionArguments.Answers.{of_text, of_truth}
use Rattle.xdm_items.specs.FunctionArguments.Arguments.{optional_text_argument, text_or_empty_argument}
use Rattle.function_table.specs.Find.{found, found_in, is_in_fn}
use Rattle.function_table.specs.Table.{joined}
use Rattle.function_table.specs.declared.builtins.Builtin.TheVariants as function
use Rattle.fn_lib.specs.Functions.{function_value, value_of}
use Rattle.text_functions.specs.TextFunctions.{contains_of, starts_with_of}
use Rattle.text_operations.specs.Searches.{text_before}
use Rattle.text_functions.specs.NameFunctions.QNames.{named, spelled_name as qname_spelled}
use Rattle.xt_syntax.specs.declared.exprs.Expr.{Expr}
use Rattle.xt_syntax.specs.declared.exprs.Clause.TheOpen.{Call}
use Rattle.expr_meaning.specs.Outcomes.Outcome.{Outcome, Ends, Fails, and_then, step_outcome}
use Rattle.expr_meaning.specs.Calls.{called, library, call_value}
use Rattle.expr_meaning.specs.Env.{Env, Meaning, Program, look_up}
use Rattle.expr_meaning.specs.Logic.{choice_of, chosen, truth_at}
use Rattle.expr_meaning.specs.Meaning.{outcome}
use Rattle.carried_exprs.specs.Sights.{library_call}
use Rattle.expr_meaning.proofs.OutcomesLemmas.Steps.{then_same}
use Rattle.xt_syntax.specs.declared.exprs.Arm.{Arm}
use Rattle.carry_laws.proofs.Names.{error_called}
use Rattle.query_helpers.proofs.Gives.{mean, Gives, Tells, gives_call_of_two, gives_text, gives_variable}
use Rattle.query_helpers.proofs.Gives.{tells_truth}
use Rattle.translated_forms.specs.Forms.{arm_of, failing, if_many, text_literal}
use Rattle.translated_forms.specs.NodeNames.{prefix_arm, prefix_arms, qname_call}
use Rattle.translated_forms.specs.NodeNames.{the_text, uri_or_failure}
use Rattle.translated_forms.specs.Names.{text_name}
use Rattle.lockstep.proofs.Calls.{library_of_two}
use Rattle.lockstep.proofs.Choices.{arm_means, arms_mean, many_mean}
use Rattle.lockstep.proofs.ChosenUris.{chosen_uri, of_chosen}
use Rattle.lockstep.proofs.Literals.{qname_called, qname_value}
use Rattle.xt_names.specs.ExprNames.{library_name}

starts_called : called (library_name (codes "starts-with")) 2 ≡ library function.StartsWith
unfolding called found found_in joined is_in_fn
starts_called = refl

contains_called : called (library_name (codes "contains")) 2 ≡ library function.Contains
unfolding called found found_in joined is_in_fn
contains_called = refl

starts_value : (v p : List ℕ) → function_value function.StartsWith (of_text v ∷ of_text p ∷ [])
    ≡ Ok (of_truth (starts_with nat_eq v p))
unfolding function_value value_of starts_with_of text_or_empty_argument optional_text_argument converted prepared matched converted_items converted_item converted_atom atomized matches_type allows_count matches_item has_atom_type
starts_value v p = refl

contains_value : (v p : List ℕ) → function_value function.Contains (of_text v ∷ of_text p ∷ [])
    ≡ Ok (of_truth (is_some (text_before p v)))
unfolding function_value value_of contains_of text_or_empty_argument optional_text_argument converted prepared matched converted_items converted_item converted_atom atomized matches_type allows_count matches_item has_atom_type
contains_value v p = refl

abbrev pub one_name : Name → List Item
one_name n = Atom (atom.QName n) ∷ []

abbrev pub uri_expr : List Binding → List ℕ → Expr
uri_expr scope default = if_many (prefix_arms scope) (text_literal default)

module _ (q : Program) where
  abbrev starts : List ℕ → Expr
  starts p = library_call (codes "starts-with") (the_text ∷ text_literal p ∷ [])

  abbrev contains_colon : Expr
  contains_colon = library_call (codes "contains") (the_text ∷ text_literal (codes ":") ∷ [])

  -- a value, or an error
  abbrev pub IfGives : {A : Type 0} → (A → List Item) → (ℕ → Outcome (List Item)) → Option A → Type 0
  IfGives items g None = (k : ℕ) → (c : Code) × (g k ≡ Fails c)
  IfGives items g (Some u) = (k : ℕ) → g k ≡ Ends (items u) k

  same_if : {A : Type 0} (items : A → List Item) (g h : ℕ → Outcome (List Item)) (o : Option A) →
      ((k : ℕ) → g k ≡ h k) → IfGives items h o → IfGives items g o
  same_if items g h None e i = λ k. let f = i k in (f.0, e k ∙ f.1)
  same_if items g h (Some u) e i = λ k. e k ∙ i k

  chosen_if : {A : Type 0} (items : A → List Item) (m n : Meaning) (f : Env) (b : Bool) (o u : Option A) →
      IfGives items (m f) o → IfGives items (n f) u →
      IfGives items (chosen m n f b) (if b then o else u)
  chosen_if items m n f true o u h g = h
  chosen_if items m n f false o u h g = g

  fails_always : (f : Env) (k : ℕ) → (c : Code) × (outcome q failing f k ≡ Fails c)
  unfolding function_value value_of
  fails_always f k = (
    _,
    mean q (Call (library_name (codes "error")) []) f k
        ∙ ap (λ c. call_value q c (library_name (codes "error")) f [] k) error_called,
  )

  uri_given : (u : List ℕ) (f : Env) →
      IfGives of_text (outcome q (uri_or_failure u) f) (if is_empty_text u then None else Some u)
  uri_given u f = by (is_empty_text u)
    where
      by : (b : Bool) → IfGives of_text (outcome q (if b then failing else text_literal u) f)
          (if b then None else Some u)
      by true = fails_always f
      by false = gives_text q u f

  module _ (v : List ℕ) (f : Env) (held : look_up f.locals text_name ≡ Some (of_text v)) where
    text_there : Gives q the_text f (of_text v)
    text_there = gives_variable q text_name f (of_text v) held

    starts_told : (p : List ℕ) → Tells q (starts p) f (starts_with nat_eq v p)
    starts_told p =
        tells_truth q (starts p) f (starts_with nat_eq v p)
        (gives_call_of_two q (library_name (codes "starts-with")) function.StartsWith the_text (text_literal p) f
        (of_text v) (of_text p) (of_truth (starts_with nat_eq v p)) starts_called text_there
        (gives_text q p f) (starts_value v p))

    contains_told : Tells q contains_colon f (is_some (text_before (codes ":") v))
    contains_told =
        tells_truth q contains_colon f (is_some (text_before (codes ":") v))
        (gives_call_of_two q (library_name (codes "contains")) function.Contains the_text
        (text_literal (codes ":")) f (of_text v) (of_text (codes ":"))
        (of_truth (is_some (text_before (codes ":") v))) contains_called text_there
        (gives_text q (codes ":") f) (contains_value v (codes ":")))

    -- one arm, and those after it
    arm_then : (test e : Expr) (arms : List Arm) (other : Meaning) (t : Bool) → Tells q test f t →
        (k : ℕ) → choice_of (arms_mean q (arm_of (test, e) ∷ arms)) other f k
        ≡ chosen (outcome q e) (choice_of (arms_mean q arms) other) f t k
    arm_then test e arms other t h k =
        ap (λ (m : Meaning × Meaning). and_then (truth_at m.0 f k) (chosen m.1 (choice_of (arms_mean q arms) other) f))
        (arm_means q test e)
        ∙ ap (λ o. and_then o (chosen (outcome q e) (choice_of (arms_mean q arms) other) f)) (h k)

    arms_give : (scope : List Binding) (default : List ℕ) →
        IfGives of_text (choice_of (arms_mean q (prefix_arms scope)) (outcome q (text_literal default)) f)
        (chosen_uri scope default v)
    arms_give [] default =
        same_if of_text _ _ _
        (arm_then contains_colon failing [] (outcome q (text_literal default))
        (is_some (text_before (codes ":") v)) contains_told)
        (chosen_if of_text (outcome q failing) (outcome q (text_literal default)) f
        (is_some (text_before (codes ":") v)) None (Some default) (fails_always f) (gives_text q default f))
    arms_give (b ∷ bs) default = by (is_empty_text b.prefix) (arms_give bs default)
      where
        by : (c : Bool) →
            IfGives of_text (choice_of (arms_mean q (prefix_arms bs)) (outcome q (text_literal default)) f)
            (chosen_uri bs default v) →
            IfGives of_text (choice_of (arms_mean q (if c then prefix_arms bs else prefix_arm b ∷ prefix_arms bs))
            (outcome q (text_literal default)) f)
            (if c then chosen_uri bs default v
            else (if starts_with nat_eq v (b.prefix ++ codes ":")
            then (if is_empty_text b.uri then None else Some b.uri) else chosen_uri bs default v))
        by true h = h
        by false h =
            same_if of_text _ _ _
            (arm_then (starts (b.prefix ++ codes ":")) (uri_or_failure b.uri) (prefix_arms bs)
            (outcome q (text_literal default)) (starts_with nat_eq v (b.prefix ++ codes ":"))
            (starts_told (b.prefix ++ codes ":")))
            (chosen_if of_text (outcome q (uri_or_failure b.uri))
            (choice_of (arms_mean q (prefix_arms bs)) (outcome q (text_literal default))) f
            (starts_with nat_eq v (b.prefix ++ codes ":"))
            (if is_empty_text b.uri then None else Some b.uri) (chosen_uri bs default v)
            (uri_given b.uri f) h)

    -- the name, if there is one
    name_step : (u : List ℕ) → IfGives one_name (λ k. step_outcome (named (qname_spelled u v)) k)
        (qname_spelled u v)
    name_step u = by (qname_spelled u v)
      where
        by : (o : Option Name) → IfGives one_name (λ k. step_outcome (named o) k) o
        by None = λ k. (_, refl)
        by (Some n) = λ k. refl

    call_is : (e : Expr) (k : ℕ) → outcome q (qname_call e the_text) f k
        ≡ and_then (outcome q e f k) (λ xs j. step_outcome (function_value function.QName
        (xs ∷ of_text v ∷ [])) j)
    call_is e k =
        library_of_two q (library_name (codes "QName")) function.QName qname_called e the_text f k
        ∙ then_same (outcome q e f k) _ _ (λ xs j.
        ap (λ o. and_then o (λ ys i. step_outcome (function_value function.QName (xs ∷ ys ∷ [])) i))
        (text_there j))

    pub name_given : (scope : List Binding) (default : List ℕ) →
        IfGives one_name (outcome q (qname_call (uri_expr scope default) the_text) f)
        (of_chosen v (chosen_uri scope default v))
    name_given scope default =
        by (chosen_uri scope default v)
        (same_if of_text (outcome q (uri_expr scope default) f) _ (chosen_uri scope default v)
        (λ k. many_mean q (prefix_arms scope) (text_literal default) f k) (arms_give scope default))
      where
        by : (o : Option (List ℕ)) → IfGives of_text (outcome q (uri_expr scope default) f) o →
            IfGives one_name (outcome q (qname_call (uri_expr scope default) the_text) f) (of_chosen v o)
        by None h = λ k. let e = h k in (e.0, call_is (uri_expr scope default) k ∙ rw (e.1) refl)
        by (Some u) h =
            same_if one_name _ (λ k. step_outcome (named (qname_spelled u v)) k) (qname_spelled u v)
            (λ k. call_is (uri_expr scope default) k
            ∙ ap (λ o. and_then o (λ xs j. step_outcome (function_value function.QName
            (xs ∷ of_text v ∷ [])) j)) (h k)
            ∙ ap (λ r. step_outcome r k) (qname_value u v)) (name_step u)
