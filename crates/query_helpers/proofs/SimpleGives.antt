-- What the function `simple` gives.
use Rattle.std.proofs.Common.{◌≡◌, ◌-◌, ◌<◌, ◌≤◌, ◌^◌, ℕ, suc, List, [], ◌∷◌, ◌++◌, length, refl, ap, sym}
use Rattle.std.proofs.Common.{◌∙◌, subst, arith}
use Rattle.std.proofs.lemmas.List.{append-nil}
use Rattle.std.specs.Prelude.{Bool, true, false, not, ◌&&◌, if◌then◌else◌, Some, Ok}
use Rattle.std.specs.Prelude.{codes, pos}
use Rattle.std.specs.List.{list_any, list_all}
use Rattle.xt_names.specs.Allowed.{is_empty_text}
use Rattle.xt_names.specs.declared.kinds.ArithOp.TheVariants.{Sub}
use Rattle.xt_names.specs.declared.kinds.AtomType.TheVariants as kind
use Rattle.xt_names.specs.declared.codes.Code.TheVariants.{Dynamic}
use Rattle.xt_names.specs.declared.codes.DynamicCode.TheVariants.{FOAR0002}
use Rattle.xt_names.specs.declared.names.ExprName.{ExprName}
use Rattle.xt_types.specs.declared.node_tests.Test.TheVariants.{Text as TextTest}
use Rattle.xt_types.specs.declared.types.ItemType.TheVariants.{Atomic}
use Rattle.xt_atoms.specs.declared.atoms.Atom.TheVariants as atom
use Rattle.xt_atoms.specs.AtomTexts.{text_of}
use Rattle.xdm_items.specs.Conversion.{converted, matched, prepared, converted_items, converted_item}
use Rattle.xdm_items.specs.Conversion.{converted_atom, with_item}
use Rattle.xdm_items.specs.Matching.{matches_type, matches_item, allows_count, has_atom_type}
use Rattle.xdm_items.specs.Truth.{truth_of, truth_of_atom}
use Rattle.xdm_items.specs.Values.{string_value_of, atomized}
use Rattle.xdm_items.specs.declared.items.Item.{Item}
use Rattle.xdm_items.specs.declared.items.Item.TheVariants.{Atom}
use Rattle.xt_syntax.specs.declared.exprs.Clause.TheViews.{roll-Expr}
use Rattle.xt_syntax.specs.declared.exprs.Clause.TheOpen.{Arith}
use Rattle.function_table.specs.Find.{found, found_in, is_in_fn}
use Rattle.function_table.specs.Table.{joined as joined_tables}
use Rattle.function_table.specs.declared.builtins.Builtin.TheVariants as function
use Rattle.xdm_items.specs.FunctionArguments.Answers.{of_text, of_integer, of_truth}
use Rattle.xdm_items.specs.FunctionArguments.Arguments.{text_argument, text_arguments, optional_atom_argument}
use Rattle.item_functions.specs.SequenceFunctions.Positions.{from_start_so_many}
use Rattle.item_functions.specs.OnValues.{not_of}
use Rattle.text_functions.specs.TextFunctions.{string_join_of, concat_of}
use Rattle.text_functions.specs.Joins.{joined as joined_texts, in_turn}
use Rattle.fn_lib.specs.Functions.{function_value, value_of}
use Rattle.node_builder.specs.Simple.{simple_content}
use Rattle.expr_meaning.specs.Outcomes.Outcome.{Fails, and_then, Every}
use Rattle.expr_meaning.specs.Env.{Env, Program, bind_all, look_up}
use Rattle.expr_meaning.specs.Calls.{called, library}
use Rattle.expr_meaning.specs.Queries.{body_env}
use Rattle.expr_meaning.specs.Meaning.{outcome}
use Rattle.carried_exprs.specs.Sights.{item_name, position_name, variable_of, nothing}
use Rattle.query_helpers.specs.Forms.{for_in, for_at, integer_of}
use Rattle.query_helpers.specs.Forms.{text_literal}
use Rattle.query_helpers.specs.LastBody.{items_name}
use Rattle.query_helpers.specs.SimpleBody.{separator_name, kept_name, before_name, is_text_in}
use Rattle.query_helpers.specs.SimpleBody.{string_in, some_text, kept_text, kept_texts, one_before}
use Rattle.query_helpers.specs.SimpleBody.{is_parted, with_gap, joined_kept, run_texts, plain_texts, simple_body}
use Rattle.query_helpers.proofs.Gives.{joined, joined_from, Gives, Tells, mean, gives_variable}
use Rattle.query_helpers.proofs.Gives.{gives_integer, gives_text, gives_nothing, tells_truth}
use Rattle.query_helpers.proofs.Gives.{tells_text, tells_kind, gives_if, gives_call, gives_let}
use Rattle.query_helpers.proofs.Gives.{gives_call_of_two, gives_call_of_three, gives_both, let_of}
use Rattle.query_helpers.proofs.Gives.{gives_for, gives_for_at, many_fail, tells_some, if_then}
use Rattle.query_helpers.proofs.LastGives.{so_many_called, join_called, string_called, so_many_value}
use Rattle.query_helpers.proofs.LastGives.{string_value, place_before, if_yes, if_no}
use Rattle.query_helpers.proofs.SimplePure.{is_text_item, kept_of, kept, kept_anywhere, kept_short}
use Rattle.query_helpers.proofs.SimplePure.{parted, gap_at, text_at, run_joined, simple_spelled}
use Rattle.query_helpers.proofs.SimplePure.{strings, plain_spelled}
use Rattle.xt_names.specs.ExprNames.{library_name}

not_called : called (library_name (codes "not")) 1 ≡ library function.Not
unfolding called found found_in joined_tables is_in_fn
not_called = refl

concat_called : called (library_name (codes "concat")) 2 ≡ library function.Concat
unfolding called found found_in joined_tables is_in_fn
concat_called = refl

not_value : (b : Bool) → function_value function.Not (of_truth b ∷ []) ≡ Ok (of_truth (not b))
unfolding function_value value_of not_of truth_of truth_of_atom
not_value b = refl

concat_value : (t u : List ℕ) →
    function_value function.Concat (of_text t ∷ of_text u ∷ []) ≡ Ok (of_text (t ++ u))
unfolding function_value value_of concat_of in_turn optional_atom_argument converted matched prepared
    matches_type matches_item allows_count converted_items converted_item converted_atom has_atom_type
    atomized text_of
concat_value t u = ap (λ v. Ok (of_text (t ++ v))) (append-nil u)

-- texts as arguments stay as they are
abbrev IsStr : Item → Type 0
IsStr (Atom (atom.Str t)) = Unit {0}
IsStr x = ⊥

strs_stay : (ys : List Item) → Every IsStr ys → converted_items kind.Str (atomized ys) ≡ Ok ys
unfolding converted_items converted_item converted_atom atomized
strs_stay [] h = refl
strs_stay (Atom (atom.Str t) ∷ ys) h =
    ap (λ r. with_item (Ok (Atom (atom.Str t))) r) (strs_stay ys h.1)
strs_stay (y ∷ ys) h = absurd h.0

strs_match : (ys : List Item) → Every IsStr ys →
    list_all (matches_item (Atomic kind.Str)) ys ≡ true
unfolding matches_item has_atom_type
strs_match [] h = refl
strs_match (Atom (atom.Str t) ∷ ys) h = strs_match ys h.1
strs_match (y ∷ ys) h = absurd h.0

join_strs : (ys : List Item) (separator : List ℕ) → Every IsStr ys →
    function_value function.StringJoin (ys ∷ of_text separator ∷ [])
    ≡ Ok (of_text (joined_texts separator ys))
unfolding function_value value_of string_join_of text_arguments text_argument converted prepared matched
    matches_type allows_count converted_items converted_item converted_atom atomized matches_item has_atom_type
join_strs ys separator h = rw (strs_stay ys h, strs_match ys h) refl

all_strings : (xs : List Item) → Every IsStr (joined (λ x. of_text (string_value_of x)) xs)
all_strings [] = tt
all_strings (x ∷ xs) = (tt, all_strings xs)

all_texts_at : (separator : List ℕ) (ks : List Item) (i : ℕ) (xs : List Item) →
    Every IsStr (joined_from (text_at separator ks) i xs)
all_texts_at separator ks i [] = tt
all_texts_at separator ks i (x ∷ xs) = (tt, all_texts_at separator ks (suc i) xs)

module _ (q : Program) (xs : List Item) (separator : List ℕ) where
  abbrev env0 : Env
  env0 = body_env ((items_name, xs) ∷ (separator_name, of_text separator) ∷ [])

  string_gives : (v : ExprName) (env : Env) (x : Item) → look_up env.locals v ≡ Some (x ∷ []) →
      Gives q (string_in v) env (of_text (string_value_of x))
  string_gives v env x h =
      gives_call q (library_name (codes "string")) function.String (variable_of v) env (x ∷ [])
      (of_text (string_value_of x)) string_called (gives_variable q v env (x ∷ []) h) (string_value x)

  text_told : Tells q some_text env0 (list_any is_text_item xs)
  unfolding look_up
  text_told =
      tells_some q item_name (variable_of items_name) (is_text_in item_name) env0 xs is_text_item
      (gives_variable q items_name env0 xs refl)
      (λ x. let env : Env = bind_all ((item_name, x ∷ []) ∷ []) env0 in
      tells_kind q (variable_of item_name) TextTest env x
      (gives_variable q item_name env (x ∷ []) refl))

  kept_given : length xs < 2 ^ 63 → Gives q kept_texts env0 (kept xs)
  unfolding look_up
  kept_given few =
      subst (Gives q kept_texts env0) (kept_anywhere 1 xs)
      (gives_for_at q item_name position_name (variable_of items_name) kept_text env0 xs (λ j x. kept_of x)
      few (gives_variable q items_name env0 xs refl) each)
    where
      each : (i : ℕ) (x : Item) → 0 < i → i ≤ length xs → Gives q kept_text
          (bind_all ((position_name, of_integer (pos i)) ∷ (item_name, x ∷ []) ∷ []) env0) (kept_of x)
      each i x low high =
          let env : Env = bind_all ((position_name, of_integer (pos i)) ∷ (item_name, x ∷ []) ∷ []) env0 in
          let item : Gives q (variable_of item_name) env (x ∷ []) =
          gives_variable q item_name env (x ∷ []) refl in
          let some : Bool = not (is_empty_text (string_value_of x)) in
          gives_if q (is_text_in item_name) _ _ env (is_text_item x) (kept_of x)
          (tells_kind q (variable_of item_name) TextTest env x item)
          (λ e. if_yes (Gives q _ env) (is_text_item x) (if some then x ∷ [] else []) (x ∷ []) e
          (gives_if q (string_in item_name) (variable_of item_name) nothing env some _
          (tells_text q (string_in item_name) env (string_value_of x) (string_gives item_name env x refl))
          (λ r. if_yes (Gives q (variable_of item_name) env) some (x ∷ []) [] r item)
          (λ r. if_no (Gives q nothing env) some (x ∷ []) [] r (gives_nothing q env))))
          (λ e. if_no (Gives q (variable_of item_name) env) (is_text_item x)
          (if some then x ∷ [] else []) (x ∷ []) e item)

  abbrev ks : List Item
  ks = kept xs

  abbrev env1 : Env
  env1 = bind_all ((kept_name, ks) ∷ []) env0

  abbrev env2 : ℕ → Item → Env
  env2 i x = bind_all ((position_name, of_integer (pos i)) ∷ (item_name, x ∷ []) ∷ []) env1

  abbrev near : ℕ → List Item
  near i = from_start_so_many ks (pos (i - 1)) (pos 1)

  before_given : (i : ℕ) (x : Item) → 0 < i → i < 2 ^ 63 → Gives q one_before (env2 i x) (near i)
  unfolding look_up
  before_given i x low high =
      let env : Env = env2 i x in
      gives_call_of_three q (library_name (codes "subsequence")) function.Subsequence
      (variable_of kept_name) (roll-Expr (Arith Sub (variable_of position_name) (integer_of (pos 1))))
      (integer_of (pos 1)) env ks (of_integer (pos (i - 1))) (of_integer (pos 1)) (near i) so_many_called
      (gives_variable q kept_name env ks refl)
      (λ k. mean q (Arith Sub (variable_of position_name) (integer_of (pos 1))) env k
      ∙ rw (
        gives_variable q position_name env (of_integer (pos i)) refl k,
        gives_integer q (pos 1) env k,
        place_before i low high,
      ) refl)
      (gives_integer q (pos 1) env) (so_many_value ks (pos (i - 1)) (pos 1))

  parted_told : (i : ℕ) (x : Item) → 0 < i → i < 2 ^ 63 →
      Tells q is_parted (env2 i x) (list_any (parted separator x) (near i))
  unfolding look_up
  parted_told i x low high =
      tells_some q before_name one_before _ (env2 i x) (near i) (parted separator x)
      (before_given i x low high)
      (λ b. let env : Env = bind_all ((before_name, b ∷ []) ∷ []) (env2 i x) in
      tells_truth q _ env (parted separator x b)
      (gives_call q (library_name (codes "not")) function.Not _ env
      (of_truth (is_text_item x && is_text_item b)) (of_truth (parted separator x b)) not_called
      (gives_both q (is_text_in item_name) (is_text_in before_name) env (is_text_item x) (is_text_item b)
      (tells_kind q (variable_of item_name) TextTest env x (gives_variable q item_name env (x ∷ []) refl))
      (λ e. tells_kind q (variable_of before_name) TextTest env b
      (gives_variable q before_name env (b ∷ []) refl)))
      (not_value (is_text_item x && is_text_item b))))

  gap_given : (i : ℕ) (x : Item) → 0 < i → i < 2 ^ 63 →
      Gives q with_gap (env2 i x) (text_at separator ks i x)
  unfolding look_up
  gap_given i x low high =
      let env : Env = env2 i x in
      let b : Bool = list_any (parted separator x) (near i) in
      gives_call_of_two q (library_name (codes "concat")) function.Concat _ (string_in item_name) env
      (of_text (gap_at separator ks i x)) (of_text (string_value_of x)) (text_at separator ks i x)
      concat_called
      (gives_if q is_parted (variable_of separator_name) (text_literal []) env b _
      (parted_told i x low high)
      (λ e. if_yes (λ t. Gives q (variable_of separator_name) env (of_text t)) b separator [] e
      (gives_variable q separator_name env (of_text separator) refl))
      (λ e. if_no (λ t. Gives q (text_literal []) env (of_text t)) b separator [] e
      (gives_text q [] env)))
      (string_gives item_name env x refl)
      (concat_value (gap_at separator ks i x) (string_value_of x))

  runs_given : length xs < 2 ^ 63 → Gives q run_texts env0 (of_text (simple_content separator xs))
  unfolding look_up
  runs_given few =
      let short = kept_short xs in
      gives_let q kept_name kept_texts _ env0 ks (of_text (simple_content separator xs)) (kept_given few)
      (subst (λ t. Gives q joined_kept env1 (of_text t)) (run_joined separator ks ∙ sym (simple_spelled separator xs))
      (gives_call_of_two q (library_name (codes "string-join")) function.StringJoin
      (for_at item_name position_name (variable_of kept_name) with_gap) (text_literal []) env1
      (joined_from (text_at separator ks) 1 ks) (of_text [])
      (of_text (joined_texts [] (joined_from (text_at separator ks) 1 ks))) join_called
      (gives_for_at q item_name position_name (variable_of kept_name) with_gap env1 ks
      (text_at separator ks) (omega arith) (gives_variable q kept_name env1 ks refl)
      (λ i x low high. gap_given i x low (omega arith)))
      (gives_text q [] env1)
      (join_strs (joined_from (text_at separator ks) 1 ks) [] (all_texts_at separator ks 1 ks))))

  plain_given : list_any is_text_item xs ≡ false →
      Gives q plain_texts env0 (of_text (simple_content separator xs))
  unfolding look_up
  plain_given h =
      subst (λ t. Gives q plain_texts env0 (of_text t))
      (plain_spelled separator xs h ∙ sym (simple_spelled separator xs))
      (gives_call_of_two q (library_name (codes "string-join")) function.StringJoin
      (for_in item_name (variable_of items_name) (string_in item_name)) (variable_of separator_name) env0
      (strings separator xs) (of_text separator) (of_text (joined_texts separator (strings separator xs)))
      join_called
      (gives_for q item_name (variable_of items_name) (string_in item_name) env0 xs
      (λ x. of_text (string_value_of x)) (gives_variable q items_name env0 xs refl)
      (λ x. string_gives item_name (bind_all ((item_name, x ∷ []) ∷ []) env0) x refl))
      (gives_variable q separator_name env0 (of_text separator) refl)
      (join_strs (strings separator xs) separator (all_strings xs)))

  -- where it counts all, and where there is no text node
  pub simple_few : length xs < 2 ^ 63 → Gives q simple_body env0 (of_text (simple_content separator xs))
  simple_few few =
      gives_if q some_text run_texts plain_texts env0 (list_any is_text_item xs) _ text_told
      (λ e. runs_given few) plain_given

  pub simple_plain : list_any is_text_item xs ≡ false →
      Gives q simple_body env0 (of_text (simple_content separator xs))
  simple_plain h =
      gives_if q some_text run_texts plain_texts env0 (list_any is_text_item xs) _ text_told
      (λ e. absurd cc) plain_given

  -- .. and where there is one and it cannot count
  pub simple_many : list_any is_text_item xs ≡ true → 2 ^ 63 ≤ length xs → (k : ℕ) →
      outcome q simple_body env0 k ≡ Fails (Dynamic FOAR0002)
  unfolding look_up
  simple_many h many k =
      if_then q some_text run_texts plain_texts env0 (subst (Tells q some_text env0) h text_told) k
      ∙ let_of q kept_name kept_texts joined_kept env0 k
      ∙ ap (λ o. and_then o (λ ys. outcome q joined_kept (bind_all ((kept_name, ys) ∷ []) env0)))
      (many_fail q item_name position_name (variable_of items_name) kept_text env0 xs many
      (gives_variable q items_name env0 xs refl) k)
