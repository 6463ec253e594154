-- Attribute value templates, and texts of `select` or content, are texts in the query.
use Rattle.std.proofs.Common.{◌≡◌, ℕ, suc, List, [], ◌∷◌, ◌++◌, length, refl, sym, ap, ◌∙◌, subst, map}
use Rattle.std.proofs.Common.{arith}
use Rattle.std.proofs.lemmas.Bool.{and_parts, le-leb}
use Rattle.std.proofs.lemmas.List.{append-nil, length-map}
use Rattle.std.specs.Prelude.{true, nat_le, codes, option_map}
use Rattle.std.specs.Prelude.{Option, Some, None, Result, Ok, Err}
use Rattle.std.specs.List.{list_all}
use Rattle.xt_names.specs.Classes.{is_xml_text}
use Rattle.xt_names.specs.declared.codes.Code.{Code}
use Rattle.xt_atoms.specs.AtomTexts.{text_of}
use Rattle.xdm_items.specs.Conversion.{converted, converted_atom, converted_item, converted_items}
use Rattle.xdm_items.specs.Conversion.{matched, prepared}
use Rattle.xdm_items.specs.Matching.{allows_count, has_atom_type, matches_item, matches_type}
use Rattle.xdm_items.specs.Values.{atomized}
use Rattle.xdm_items.specs.declared.items.Item.{Item}
use Rattle.xt_syntax.specs.declared.exprs.Expr.{Expr}
use Rattle.xt_syntax.specs.declared.exprs.Clause.TheOpen.{Call}
use Rattle.xt_sheets.specs.declared.values.AvtPart.{AvtPart}
use Rattle.xt_sheets.specs.declared.values.AvtPart.TheVariants.{Chars, Code as Enclosed}
use Rattle.xdm_items.specs.FunctionArguments.Answers.{of_text}
use Rattle.xdm_items.specs.FunctionArguments.Arguments.{optional_atom_argument, and_then as result_then}
use Rattle.function_table.specs.Find.{found, found_in, is_in_fn}
use Rattle.function_table.specs.Table.{joined, any_number}
use Rattle.function_table.specs.declared.builtins.Builtin.TheVariants as function
use Rattle.fn_lib.specs.Functions.{function_value, value_of}
use Rattle.text_functions.specs.Joins.{argument_text, in_front, in_turn}
use Rattle.text_functions.specs.TextFunctions.{concat_of}
use Rattle.expr_meaning.specs.Outcomes.Outcome.{Outcome, Ends, Fails, Deep, and_then, step_outcome, for_each}
use Rattle.expr_meaning.specs.Outcomes.Follow.{Relation, IsCarrying}
use Rattle.expr_meaning.proofs.OutcomesLemmas.Steps.{then_assoc, then_same}
use Rattle.expr_meaning.specs.Calls.{called, library, call_value, lists_of}
use Rattle.expr_meaning.specs.Env.{Env, Meaning, Program}
use Rattle.expr_meaning.specs.Making.{spaced_text}
use Rattle.expr_meaning.specs.Meaning.{outcome}
use Rattle.meaning_laws.specs.SoundValues.Sound.{IsSound}
use Rattle.closed_sheets.specs.Values.{is_good_part, is_good_template, if_good_template}
use Rattle.carried_exprs.specs.Sights.{library_call}
use Rattle.carry_laws.specs.Seen.{ProgramsCarry}
use Rattle.query_helpers.proofs.Gives.{mean}
use Rattle.transform_meaning.specs.Instrs.{select_means, separator_means}
use Rattle.transform_meaning.specs.Texts.{TextMeaning, part_text, part_means, template_means}
use Rattle.transform_meaning.specs.Texts.{space, source_of, separator_of, text_of_source}
use Rattle.transform_laws.proofs.Texts.{joined_text, no_text, space_text}
use Rattle.translated_forms.specs.Forms.{text_literal}
use Rattle.translated_forms.specs.Places.{Table, carried_at, of_function, setting_at}
use Rattle.translated_forms.specs.Texts.{Template, fixed_text, part_before, part_text as text_part}
use Rattle.translated_forms.specs.Texts.{joined as joined_parts, template_text, text_or_joined}
use Rattle.translated_forms.specs.Texts.{source_of as source_expr, separator_text, source_text}
use Rattle.translation.specs.Stands.{part_fits, template_fits, separator_fits, if_fits}
use Rattle.lockstep.specs.Helpers.{HelpersCarry}
use Rattle.lockstep.specs.Spots.{Spot, IsAt, stand_at}
use Rattle.lockstep.proofs.Calls.{put_first}
use Rattle.lockstep.proofs.Exprs.{HasLocalNames, expr_done}
use Rattle.lockstep.proofs.Frame.{frame, Meets}
use Rattle.lockstep.proofs.Texts.{TextMeets, IsString, as_items, spaced_string, text_then}
use Rattle.lockstep.proofs.Texts.{literal_text, simple_done}
use Rattle.xt_names.proofs.BoolLemmas.{and_first, and_second}
use Rattle.xt_names.proofs.ClassLemmas.{append_text}
use Rattle.xt_names.specs.ExprNames.{library_name}

concat_called : (n : ℕ) → nat_le 2 n ≡ true → nat_le n any_number ≡ true →
    called (library_name (codes "concat")) n ≡ library function.Concat
unfolding called found found_in joined is_in_fn
concat_called n h g = rw (h, g) refl

two_at_least : (n : ℕ) → nat_le 2 (suc (suc n)) ≡ true
two_at_least n = le-leb 2 (suc (suc n)) (omega arith)

string_argument : (v : List ℕ) → argument_text (of_text v) ≡ Ok v
unfolding optional_atom_argument converted prepared matched converted_items converted_item converted_atom atomized matches_type allows_count matches_item has_atom_type text_of
string_argument v = refl

-- one text more
joined_value : (v : List ℕ) (args : List (List Item)) (k : ℕ) →
    and_then (step_outcome (concat_of args) k) (λ xs i. Ends (of_text (v ++ spaced_text xs)) i)
    ≡ step_outcome (concat_of (of_text v ∷ args)) k
unfolding concat_of in_turn
joined_value v args k =
    by (in_turn argument_text args)
    ∙ ap (λ u. step_outcome (result_then (in_front u (in_turn argument_text args))
    (λ text. Ok (of_text text))) k) (sym (string_argument v))
  where
    by : (w : Result (List ℕ) Code) →
        and_then (step_outcome (result_then w (λ text. Ok (of_text text))) k)
        (λ xs i. Ends (of_text (v ++ spaced_text xs)) i)
        ≡ step_outcome (result_then (in_front (Ok v) w) (λ text. Ok (of_text text))) k
    by (Ok w) = ap (λ u. Ends (of_text (v ++ u)) k) (spaced_string w)
    by (Err code) = refl

abbrev pub FixedIs : Program → Template → List ℕ → Type 0
FixedIs p parts v =
    ((env : Env) (k : ℕ) → for_each (part_text env) (map (part_means p) parts) k ≡ Ends v k)
    × (is_xml_text v ≡ true)

fixed_more : (p : Program) (u : List ℕ) (parts : Template) (o : Option (List ℕ)) →
    is_xml_text u ≡ true → ((w : List ℕ) → o ≡ Some w → FixedIs p parts w) → (v : List ℕ) →
    option_map (λ more. u ++ more) o ≡ Some v → FixedIs p (Chars u ∷ parts) v
fixed_more p u parts None xml h v is = absurd cc
fixed_more p u parts (Some w) xml h v is =
    let same : u ++ w ≡ v = cc in
    subst (FixedIs p (Chars u ∷ parts)) same (
      λ env k. ap (λ o. and_then o (λ zs i. Ends (u ++ zs) i)) ((h w refl).0 env k),
      append_text u w xml (h w refl).1,
    )

pub fixed_is : (p : Program) (parts : Template) → is_good_template parts ≡ true → (v : List ℕ) →
    fixed_text parts ≡ Some v → FixedIs p parts v
unfolding part_before is_good_part is_xml_text
fixed_is p [] good v is =
    let same : [] ≡ v = cc in subst (FixedIs p []) same ((λ env k. refl), refl)
fixed_is p (Chars u ∷ parts) good v is =
    fixed_more p u parts (fixed_text parts) (and_first (is_xml_text u) (is_good_template parts) good)
    (λ w e. fixed_is p parts (and_second (is_xml_text u) (is_good_template parts) good) w e) v is
fixed_is p (Enclosed e ∷ parts) good v is = absurd cc

one_text : (o : Outcome (List ℕ)) →
    and_then o (λ ys j. and_then (Ends [] j) (λ zs i. Ends (ys ++ zs) i)) ≡ o
one_text (Ends ys j) = ap (λ zs. Ends zs j) (append-nil ys)
one_text (Fails code) = refl
one_text Deep = refl

module _ (like : Code → Code → Type 0) (lax : (a b : Code) → like a b) (rel : Relation)
    (carries : IsCarrying like rel) (t : Table) (local : HasLocalNames t) (p q : Program)
    (programs : ProgramsCarry rel IsSound (setting_at t of_function) p q)
    (helpers : HelpersCarry rel q) where
  abbrev text_here : Spot → TextMeaning → Expr → Type 0
  text_here x m e = TextMeets like lax rel carries t q x m e

  abbrev carry : Spot → Expr → Expr
  carry x e = carried_at t x.place e

  abbrev pub part_meaning : AvtPart Expr → TextMeaning
  part_meaning part env k = part_text env (part_means p part) k

  part_done : (x : Spot) (part : AvtPart Expr) → part_fits (stand_at x) part ≡ true →
      is_good_part part ≡ true → text_here x (part_meaning part) (text_part (carry x) part)
  unfolding text_part part_fits is_good_part
  part_done x (Chars u) fits good =
      literal_text like lax rel carries t q x u good (part_meaning (Chars u)) (λ a k. refl)
  part_done x (Enclosed e) fits good =
      simple_done like lax rel carries t q helpers x (outcome p e) (carry x e)
      (expr_done like lax rel carries t local p q programs x e fits) (λ env j. Ends space j)
      (text_literal (codes " ")) (literal_text like lax rel carries t q x space
      (space_text (frame like lax rel carries t) tt) (λ env j. Ends space j) (λ a k. refl))

  -- the parts one after another
  abbrev joined_lists : List Expr → Env → ℕ → Outcome (List Item)
  joined_lists es f k =
      and_then (lists_of (map (outcome q) es) f k) (λ args j. step_outcome (concat_of args) j)

  abbrev parts_text : Template → TextMeaning
  parts_text parts env k = for_each (part_text env) (map (part_means p) parts) k

  no_parts : (f : Env) (k : ℕ) → joined_lists [] f k ≡ Ends (of_text []) k
  unfolding concat_of in_turn
  no_parts f k = refl

  abbrev put_text : List ℕ → List Item → ℕ → Outcome (List Item)
  put_text v xs i = Ends (of_text (v ++ spaced_text xs)) i

  put_string : (v : List ℕ) → is_xml_text v ≡ true → (xs : List Item) (i : ℕ) → IsString xs →
      rel (List Item) IsString (put_text v xs i) (put_text v xs i)
  put_string v xml xs i is =
      carries.ends _ IsString _ i (
        v ++ spaced_text xs,
        refl,
        subst (λ ys. is_xml_text (v ++ spaced_text ys) ≡ true) (sym is.1)
            (subst (λ w. is_xml_text (v ++ w) ≡ true) (sym (spaced_string is.0))
            (joined_text (frame like lax rel carries t) v is.0 (λ s. xml) (λ s. is.2) tt)),
      )

  parts_join : (x : Spot) (parts : Template) → list_all (part_fits (stand_at x)) parts ≡ true →
      is_good_template parts ≡ true → (a b : Env) → IsAt t x a b → (k : ℕ) →
      rel (List Item) IsString (as_items (parts_text parts a k))
      (joined_lists (map (text_part (carry x)) parts) b k)
  parts_join x [] fits good a b at k =
      rw (no_parts b k) (carries.ends _ IsString _ k ([], refl, no_text (frame like lax rel carries t) tt))
  parts_join x (part ∷ parts) fits good a b at k =
      let f = and_parts (part_fits (stand_at x) part) (list_all (part_fits (stand_at x)) parts) fits in
      let g = and_parts (is_good_part part) (is_good_template parts) good in
      let e = text_part (carry x) part in let es = map (text_part (carry x)) parts in
      rw (
        then_assoc (part_meaning part a k) (λ ys j. and_then (parts_text parts a j)
            (λ zs i. Ends (ys ++ zs) i)) (λ v j. Ends (of_text v) j),
        put_first (outcome q e b k) (lists_of (map (outcome q) es) b)
            (λ args j. step_outcome (concat_of args) j),
      )
      (text_then like lax rel carries t q (List Item) IsString (part_meaning part a k)
      (outcome q e b k) _ _ (part_done x part f.0 g.0 a b at k) (λ v j xml.
      subst (λ o. rel (List Item) IsString o (and_then (lists_of (map (outcome q) es) b j)
      (λ zs i. step_outcome (concat_of (of_text v ∷ zs)) i))) (left v j)
      (subst (λ o. rel (List Item) IsString (and_then (as_items (parts_text parts a j)) (put_text v)) o)
      (right es v j)
      (carries.next _ _ IsString IsString (as_items (parts_text parts a j)) (joined_lists es b j)
      (put_text v) (put_text v) (parts_join x parts f.1 g.1 a b at j)
      (λ xs i is. put_string v xml xs i is)))))
    where
      left : (v : List ℕ) (j : ℕ) → and_then (as_items (parts_text parts a j)) (put_text v)
          ≡ and_then (and_then (parts_text parts a j) (λ zs i. Ends (v ++ zs) i))
          (λ w i. Ends (of_text w) i)
      left v j =
          then_assoc (parts_text parts a j) (λ w i. Ends (of_text w) i) (put_text v)
          ∙ then_same (parts_text parts a j) _ _
          (λ w i. ap (λ u. Ends (of_text (v ++ u)) i) (spaced_string w))
          ∙ sym (then_assoc (parts_text parts a j) (λ zs i. Ends (v ++ zs) i)
          (λ w i. Ends (of_text w) i))

      right : (es : List Expr) (v : List ℕ) (j : ℕ) → and_then (joined_lists es b j) (put_text v)
          ≡ and_then (lists_of (map (outcome q) es) b j)
          (λ zs i. step_outcome (concat_of (of_text v ∷ zs)) i)
      right es v j =
          then_assoc (lists_of (map (outcome q) es) b j) _ (put_text v)
          ∙ then_same (lists_of (map (outcome q) es) b j) _ _ (λ zs i. joined_value v zs i)

  concat_is : (es : List Expr) → nat_le 2 (length es) ≡ true → nat_le (length es) any_number ≡ true →
      (f : Env) (k : ℕ) → outcome q (library_call (codes "concat") es) f k ≡ joined_lists es f k
  unfolding function_value value_of
  concat_is es h g f k =
      mean q (Call (library_name (codes "concat")) es) f k
      ∙ ap (λ c. and_then (lists_of (map (outcome q) es) f k)
      (call_value q c (library_name (codes "concat")) f))
      (ap (called (library_name (codes "concat"))) (length-map es (outcome q))
      ∙ concat_called (length es) h g)
      ∙ then_same (lists_of (map (outcome q) es) f k) _ _ (λ args j. by args j)
    where
      by : (args : List (List Item)) (j : ℕ) →
          call_value q (library function.Concat) (library_name (codes "concat")) f args j
          ≡ step_outcome (concat_of args) j
      by [] j = refl
      by (xs ∷ args) j = refl

  -- an attribute value template
  pub template_done : (x : Spot) (parts : Template) → template_fits (stand_at x) parts ≡ true →
      is_good_template parts ≡ true →
      text_here x (template_means p parts) (template_text (carry x) parts)
  unfolding template_text joined_parts
  template_done x parts fits good =
      by (fixed_text parts) refl
    where
      few : nat_le (length parts) any_number ≡ true
      few = (and_parts (nat_le (length parts) any_number) (list_all (part_fits (stand_at x)) parts) fits).0

      all : list_all (part_fits (stand_at x)) parts ≡ true
      all = (and_parts (nat_le (length parts) any_number) (list_all (part_fits (stand_at x)) parts) fits).1

      many : (ps : Template) → nat_le (length ps) any_number ≡ true →
          list_all (part_fits (stand_at x)) ps ≡ true → is_good_template ps ≡ true →
          text_here x (template_means p ps) (joined_parts (map (text_part (carry x)) ps))
      many [] l f g =
          literal_text like lax rel carries t q x [] (no_text (frame like lax rel carries t) tt)
          (template_means p []) (λ a k. refl)
      many (part ∷ []) l f g = λ a b at k.
          rw (one_text (part_meaning part a k))
          (part_done x part (and_parts (part_fits (stand_at x) part) true f).0
          (and_parts (is_good_part part) true g).0 a b at k)
      many (part ∷ other ∷ ps) l f g = λ a b at k.
          rw (concat_is (map (text_part (carry x)) (part ∷ other ∷ ps))
          (two_at_least (length (map (text_part (carry x)) ps)))
          (ap (λ n. nat_le n any_number) (length-map (part ∷ other ∷ ps) (text_part (carry x))) ∙ l) b k)
          (parts_join x (part ∷ other ∷ ps) f g a b at k)

      by : (o : Option (List ℕ)) → fixed_text parts ≡ o →
          text_here x (template_means p parts) (text_or_joined (carry x) parts o)
      by (Some v) is =
          let fixed = fixed_is p parts good v is in
          literal_text like lax rel carries t q x v fixed.1 (template_means p parts) fixed.0
      by None is = many parts few all good

  -- `select` or the content, and then the separator
  abbrev here : Spot → Meaning → Expr → Type 0
  here x m e = Meets like lax rel carries t x m (outcome q e)

  pub source_done : (x : Spot) (select : Option Expr) → if_fits (stand_at x) select ≡ true →
      (m : Meaning) (e : Expr) → here x m e →
      here x (source_of (select_means p select) m) (source_expr (carry x) select e)
  unfolding if_fits
  source_done x None fits m e h = h
  source_done x (Some s) fits m e h = expr_done like lax rel carries t local p q programs x s fits

  separator_done : (x : Spot) (select : Option Expr) (separator : Option Template) →
      separator_fits (stand_at x) separator ≡ true → if_good_template separator ≡ true →
      text_here x (separator_of (select_means p select) (separator_means p separator))
      (separator_text (carry x) select separator)
  unfolding separator_fits if_good_template
  separator_done x None None fits good =
      literal_text like lax rel carries t q x [] (no_text (frame like lax rel carries t) tt) _
      (λ a k. refl)
  separator_done x (Some s) None fits good =
      literal_text like lax rel carries t q x space (space_text (frame like lax rel carries t) tt) _
      (λ a k. refl)
  separator_done x None (Some parts) fits good = template_done x parts fits good
  separator_done x (Some s) (Some parts) fits good = template_done x parts fits good

  pub source_text_done : (x : Spot) (select : Option Expr) → if_fits (stand_at x) select ≡ true →
      (m : Meaning) (e : Expr) → here x m e → (separator : Option Template) →
      separator_fits (stand_at x) separator ≡ true → if_good_template separator ≡ true →
      text_here x (text_of_source (select_means p select) m (separator_means p separator))
      (source_text (carry x) select e separator)
  unfolding source_text
  source_text_done x select fits m e h separator others good =
      simple_done like lax rel carries t q helpers x (source_of (select_means p select) m)
      (source_expr (carry x) select e) (source_done x select fits m e h)
      (separator_of (select_means p select) (separator_means p separator))
      (separator_text (carry x) select separator) (separator_done x select separator others good)
