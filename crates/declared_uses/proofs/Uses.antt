-- What a stylesheet uses is declared in it.
use Rattle.std.proofs.Common.{◌≡◌, ◌<◌, ℕ, List, [], ◌∷◌, ◌++◌, map, length, Bool, true, false, not}
use Rattle.std.proofs.Common.{◌&&◌, ◌==◌, cond, Option, Some, None, slice_get, nat_eq, nat_lt}
use Rattle.std.proofs.Common.{refl, sym, ap, subst, ◌∙◌, inl, inr}
use Rattle.std.proofs.lemmas.Bool.{and_parts, and_from, or_cases, or_left, or_right, eqb-true}
use Rattle.std.proofs.lemmas.Bool.{ltb-true, lt-ltb}
use Rattle.std.specs.Prelude.{is_none}
use Rattle.std.proofs.lemmas.Slice.Eq.{bytes_eq-Decides}
use Rattle.std.specs.List.{list_all, list_any}
use Rattle.std.specs.Str.{bytes_eq}
use Rattle.xt_names.specs.declared.names.ExprName.{ExprName}
use Rattle.xt_names.specs.declared.codes.Code.{Code}
use Rattle.xt_names.specs.declared.codes.Code.TheVariants.{QueryStatic, SheetStatic}
use Rattle.xt_names.specs.declared.codes.QueryStaticCode.TheVariants.{XPST0008, XPST0017}
use Rattle.xt_names.specs.declared.codes.SheetStaticCode.TheVariants.{XTSE0650, XTDE1260, XTUN0001}
use Rattle.xt_syntax.specs.declared.exprs.Expr.{Expr}
use Rattle.xt_syntax.specs.declared.patterns.Pattern.{Pattern}
use Rattle.xt_sheets.specs.declared.values.ModeUse.{ModeUse}
use Rattle.xt_sheets.specs.declared.values.ModeUse.TheVariants.{Number, Current}
use Rattle.xt_sheets.specs.declared.sheets.Global.{Global}
use Rattle.xt_sheets.specs.declared.sheets.Sheet.{Sheet}
use Rattle.function_table.specs.Find.{is_known}
use Rattle.name_rules.specs.declared.functions.Signature.{Signature}
use Rattle.name_rules.specs.Scopes.{has_name, with_names, has_function, may_be_called}
use Rattle.name_rules.specs.Scopes.{signature}
use Rattle.sheet_uses.specs.declared.uses.Use.{Use}
use Rattle.sheet_uses.specs.declared.uses.Use.TheVariants as use_of
use Rattle.sheet_rules.specs.SheetExpressions.declared.sheet_names.names.Names.{Names}
use Rattle.sheet_rules.specs.SheetExpressions.SheetNames.Names.{as_name}
use Rattle.sheet_rules.specs.SheetExpressions.SheetNames.Uses.{is_of_sheets, is_key_call, is_callable, broken_key}
use Rattle.sheet_rules.specs.SheetExpressions.SheetNames.Uses.{broken_use, broken_in, broken_uses}
use Rattle.sheet_values.specs.SheetTexts.Names.{number_of}
use Rattle.sheet_rules.specs.declared.sheet_declarations.lists.Declaration.{Declaration}
use Rattle.sheet_rules.specs.SheetDeclarations.Counts.{counted_of, a_global, a_function, a_template}
use Rattle.sheet_uses.specs.KeyCalls.Called.{is_declared as calls, called_code, called_codes}
use Rattle.sheet_rules.specs.WideRules.Doubles.{doubles_of, double_codes}
use Rattle.sheet_rules.specs.WideRules.Passing.{broken_passings}
use Rattle.sheet_rules.specs.declared.wide_rules.passing.Parameters.{Parameters}
use Rattle.sheet_rules.specs.Names as rules
use Rattle.sheet_rules.specs.Names.{template_names, global_names, missing_code, missing_codes}
use Rattle.sheet_rules.specs.Uses.{declared_uses, declared_keys}
use Rattle.sheet_rules.specs.Rules.{broken_rules}
use Rattle.sheet_assembly.specs.Sheets.{Parts, sheet_of}
use Rattle.sheet_assembly.specs.Templates.{no_template}
use Rattle.assembly_laws.specs.SheetClosure.Declared.{names_of, with_functions, is_named, is_mode, is_declared}
use Rattle.assembly_laws.specs.SheetClosure.Declared.{all_declared, keys_call_none, keeps_names, global_name}
use Rattle.assembly_laws.specs.SheetClosure.Uses.{uses_of, key_uses_of}
use Rattle.assembly_laws.specs.Laws.{Asked, declares, has_asked}
use Rattle.assembly_laws.proofs.Parts.{ordered_all, parts_declared}
use Rattle.declared_uses.specs.Orders.{places_in, put_in_order, AreAllInOrder, HasEachGlobal}
use Rattle.declared_uses.specs.Numbers.{is_number_in, has_mode, has_number, have_numbers}
use Rattle.declared_uses.proofs.Counts.{some_counts, counts_declared}
use Rattle.declared_uses.proofs.Names.{names_more, globals_declared, globals_count}
use Rattle.declared_uses.proofs.Names.{templates_declared, functions_declared, functions_count}
use Rattle.declared_uses.proofs.Names.{keys_same}
use Rattle.declared_uses.proofs.Finds.{asked, for_uses, for_keys, uses_asked, keys_asked, uses_pass}
use Rattle.declared_uses.proofs.Finds.{keys_pass}
use Rattle.declared_uses.proofs.Templates.{number_below, called_named}
use Rattle.declared_uses.proofs.Orders.{order_whole, ordered_has}
use Rattle.xt_names.proofs.ListLemmas.{front_nil, back_nil}
use Rattle.xt_names.specs.ExprNames.{same_name}
use Rattle.xt_names.proofs.NameLemmas.{same_names}

-- lists of what passes
passing : {A : Type 0} (p q : A → Bool) → ((x : A) → p x ≡ true → q x ≡ true) → (xs : List A)
    → list_all p xs ≡ true → list_all q xs ≡ true
passing p q f [] h = refl
passing p q f (x ∷ xs) h =
    let k = and_parts (p x) (list_all p xs) h in
    and_from (q x) _ (f x k.0) (passing p q f xs k.1)

both_pass : {A : Type 0} (p q : A → Bool) (xs : List A) → list_all p xs ≡ true
    → list_all q xs ≡ true → list_all (λ x. p x && q x) xs ≡ true
both_pass p q [] h i = refl
both_pass p q (x ∷ xs) h i =
    let a = and_parts (p x) (list_all p xs) h in
    let b = and_parts (q x) (list_all q xs) i in
    and_from (p x && q x) _ (and_from (p x) _ a.0 b.0) (both_pass p q xs a.1 b.1)

-- uses that break no rule
no_code : (o : Option Code) → broken_in o ≡ [] → is_none o ≡ true
no_code None h = refl
no_code (Some c) h = absurd cc

none_broken : (names : Names) (us : List Use) → broken_uses names us ≡ []
    → list_all (λ u. is_none (broken_use names u)) us ≡ true
none_broken names [] h = refl
none_broken names (u ∷ us) h =
    and_from (is_none (broken_use names u)) _
    (no_code (broken_use names u) (front_nil (broken_in (broken_use names u)) _ h))
    (none_broken names us (back_nil (broken_in (broken_use names u)) _ h))

-- names that know all that others do
pub record Wider (a b : Names) : Type 0 where
  pub variables : (n : ExprName) → has_name a.variables n ≡ true → has_name b.variables n ≡ true
  pub functions : (n : ExprName) (arity : ℕ) → has_function a.functions n arity ≡ true
      → has_function b.functions n arity ≡ true
  pub keys : (n : ExprName) → has_name a.keys n ≡ true → has_name b.keys n ≡ true

none_if : (b : Bool) (c : Code) → is_none (cond b None (Some c)) ≡ true → b ≡ true
none_if true c h = refl
none_if false c h = absurd cc

if_none : (b : Bool) (c : Code) → b ≡ true → is_none (cond b None (Some c)) ≡ true
if_none true c h = refl
if_none false c h = absurd cc

wider_variable : (a b : Names) → Wider a b → (n : ExprName)
    → is_none (broken_use a (use_of.Variable n)) ≡ true
    → is_none (broken_use b (use_of.Variable n)) ≡ true
unfolding broken_use
wider_variable a b w n h =
    if_none (has_name b.variables n) (QueryStatic XPST0008)
    (w.variables n (none_if (has_name a.variables n) (QueryStatic XPST0008) h))

wider_key : (a b : Names) → Wider a b → (o : Option (List ℕ)) → is_none (broken_key a o) ≡ true
    → is_none (broken_key b o) ≡ true
unfolding broken_key
wider_key a b w None h = refl
wider_key a b w (Some text) h =
    if_none (has_name b.keys (as_name text)) (SheetStatic XTDE1260)
    (w.keys (as_name text) (none_if (has_name a.keys (as_name text)) (SheetStatic XTDE1260) h))

wider_callable : (a b : Names) → Wider a b → (n : ExprName) (arity : ℕ)
    → is_callable a n arity ≡ true → is_callable b n arity ≡ true
unfolding may_be_called
wider_callable a b w n arity h =
    elim (or_cases (is_of_sheets n arity) (may_be_called a.functions n arity) h) [
      | inl e ↦ or_left (is_of_sheets n arity) _ e
      | inr k ↦ or_right (is_of_sheets n arity) _
          (elim (or_cases (is_known n arity) (has_function a.functions n arity) k) [
            | inl e ↦ or_left (is_known n arity) _ e
            | inr l ↦ or_right (is_known n arity) _ (w.functions n arity l)
          ])
    ]

key_or_none : (p q : Option Code) (key : Bool) → (is_none p ≡ true → is_none q ≡ true)
    → is_none (cond key p None) ≡ true → is_none (cond key q None) ≡ true
key_or_none p q true f h = f h
key_or_none p q false f h = refl

called_or_not : (p q : Option Code) (a b key : Bool) → (a ≡ true → b ≡ true)
    → (is_none p ≡ true → is_none q ≡ true)
    → is_none (cond a (cond key p None) (Some (QueryStatic XPST0017))) ≡ true
    → is_none (cond b (cond key q None) (Some (QueryStatic XPST0017))) ≡ true
called_or_not p q true true key f g h = key_or_none p q key g h
called_or_not p q true false key f g h = absurd (let no : false ≡ true = f refl in cc)
called_or_not p q false b key f g h = absurd cc

wider_call : (a b : Names) → Wider a b → (n : ExprName) (arity : ℕ) (literal : Option (List ℕ))
    → is_none (broken_use a (use_of.Call n arity literal)) ≡ true
    → is_none (broken_use b (use_of.Call n arity literal)) ≡ true
unfolding broken_use
wider_call a b w n arity literal h =
    called_or_not (broken_key a literal) (broken_key b literal) (is_callable a n arity)
    (is_callable b n arity) (is_key_call n arity) (wider_callable a b w n arity)
    (wider_key a b w literal) h

-- a number that is one of a name
pub record Numbered (names : List ExprName) (number : ℕ) : Type 0 where
  pub name : ExprName
  pub among : has_name names name ≡ true
  pub is : number_of names name ≡ number

same_self : (n : ExprName) → same_name n n ≡ true
same_self n = and_from _ _ (texts n.uri) (texts n.local)
  where
    texts : (t : List ℕ) → bytes_eq t t ≡ true
    texts t = (bytes_eq-Decides t t).1 refl

numbered_in : (names some : List ExprName) (number : ℕ)
    → list_any (λ n. nat_eq (number_of names n) number) some ≡ true
    → ((n : ExprName) → has_name some n ≡ true → has_name names n ≡ true)
    → Numbered names number
numbered_in names [] number h f = absurd cc
numbered_in names (n ∷ some) number h f =
    elim (or_cases (nat_eq (number_of names n) number) _ h) [
      | inl e ↦ record {
        name = n;
        among = f n (or_left (same_name n n) _ (same_self n));
        is = eqb-true (number_of names n) number e;
      }
      | inr k ↦ numbered_in names some number k (λ m i. f m (or_right (same_name m n) _ i))
    ]

numbered : (names : List ExprName) (number : ℕ) → is_number_in names number ≡ true
    → Numbered names number
numbered names number h = numbered_in names names number h (λ n i. i)

low_number : (names : List ExprName) (number : ℕ) → Numbered names number → number < length names
low_number names number r =
    subst (λ (k : ℕ). k < length names) r.is (number_below r.name names r.among)

-- each name that is called is declared
one_missing : (declared : List ExprName) (n : ExprName) → missing_code declared n ≡ []
    → has_name declared n ≡ true
one_missing declared n h = go (has_name declared n) h
  where
    go : (b : Bool) → cond b [] (SheetStatic XTSE0650 ∷ []) ≡ [] → b ≡ true
    go true h = refl
    go false h = absurd cc

none_missing : (declared called : List ExprName) → missing_codes declared called ≡ []
    → (n : ExprName) → has_name called n ≡ true → has_name declared n ≡ true
none_missing declared [] h n i = absurd cc
none_missing declared (m ∷ called) h n i =
    elim (or_cases (same_name n m) (has_name called n) i) [
      | inl e ↦ subst (λ x. has_name declared x ≡ true) (sym (same_names n m e))
          (one_missing declared m (front_nil (missing_code declared m) _ h))
      | inr k ↦ none_missing declared called (back_nil (missing_code declared m) _ h) n k
    ]

-- keys that call nothing that is declared
no_call : (functions : List Signature) (us : List Use) → called_codes functions us ≡ []
    → list_all (λ u. not (calls functions u)) us ≡ true
no_call functions [] h = refl
no_call functions (u ∷ us) h =
    and_from (not (calls functions u)) _
    (go (calls functions u) (front_nil (called_code functions u) _ h))
    (no_call functions us (back_nil (called_code functions u) _ h))
  where
    go : (b : Bool) → cond b (SheetStatic XTUN0001 ∷ []) [] ≡ [] → not b ≡ true
    go true h = absurd cc
    go false h = refl

none_called : (functions : List Signature) (us : List Use)
    → list_all (λ u. not (calls functions u)) us ≡ true
    → (length (called_codes functions us) == 0) ≡ true
none_called functions [] h = refl
none_called functions (u ∷ us) h =
    let k = and_parts (not (calls functions u)) _ h in
    go (calls functions u) k.0 (none_called functions us k.1)
  where
    go : (b : Bool) → not b ≡ true → (length (called_codes functions us) == 0) ≡ true
        → (length (cond b (SheetStatic XTUN0001 ∷ []) [] ++ called_codes functions us) == 0) ≡ true
    go true h i = absurd cc
    go false h i = i

fewer_called : (a b : List Signature)
    → ((n : ExprName) (k : ℕ) → has_function b n k ≡ true → has_function a n k ≡ true) → (u : Use)
    → not (calls a u) ≡ true → not (calls b u) ≡ true
unfolding calls
fewer_called a b f (use_of.Call n arity literal) h =
    go (has_function b n arity) (has_function a n arity) (f n arity) h
  where
    go : (x y : Bool) → (x ≡ true → y ≡ true) → not y ≡ true → not x ≡ true
    go true true g k = absurd cc
    go true false g k = absurd (let no : false ≡ true = g refl in cc)
    go false y g k = refl
fewer_called a b f (use_of.Variable name) h = refl
fewer_called a b f (use_of.Template number passed) h = refl
fewer_called a b f (use_of.Apply mode) h = refl

-- no template without content uses anything
no_uses : (q : Use → Bool) → (asked for_uses q).of_template no_template ≡ true
no_uses q = refl

no_keys : (q : Use → Bool) → (asked for_keys q).of_template no_template ≡ true
no_keys q = refl

module _ (p : Parts) where
  abbrev ds : List (Declaration Expr Pattern)
  ds = p.declarations

  abbrev called : List ExprName
  called = p.called

  abbrev modes : List ExprName
  modes = p.modes

  abbrev whole : Sheet
  whole = sheet_of p

  abbrev places : List ℕ
  places = places_in whole

  abbrev final : Sheet
  final = put_in_order whole

  abbrev declared : Names
  declared = rules.names_of ds 4294967295

  -- the parts in their last order have what is asked of the declarations
  final_asked : (a : Asked) → a.of_template no_template ≡ true
      → list_all (λ d. declares a d.part) ds ≡ true → has_asked a final ≡ true
  final_asked a n h =
      let all = parts_declared a p n h in
      let k = and_parts (list_all a.of_global whole.globals) _ all in
      and_from _ _ (ordered_all a whole.globals places k.0) k.1

  functions_back : (n : ExprName) (k : ℕ)
      → has_function (with_functions [] final.functions) n k ≡ true
      → has_function (rules.with_functions [] ds) n k ≡ true
  functions_back n k h =
      functions_declared n k ds
      ∙ counts_declared (a_function (signature n k)) (counted_of ds) ds
      (sym (functions_count n k (counted_of ds) ds) ∙ h)

  keys_quiet : called_codes (rules.with_functions [] ds) (declared_keys ds [] []) ≡ []
      → keys_call_none (with_functions [] final.functions) final ≡ true
  keys_quiet e =
      let q = λ (u : Use). not (calls (with_functions [] final.functions) u) in
      none_called (with_functions [] final.functions) (key_uses_of final)
      (keys_pass q final
      (final_asked (asked for_keys q) (no_keys q)
      (keys_asked q ds
      (passing (λ u. not (calls (rules.with_functions [] ds) u)) q
      (fewer_called (rules.with_functions [] ds) (with_functions [] final.functions) functions_back)
      (declared_keys ds [] [])
      (no_call (rules.with_functions [] ds) (declared_keys ds [] []) e)))))

  module _ (each_global : HasEachGlobal p) (long : AreAllInOrder whole) where
    global_names_in : (n : ExprName) → has_name (global_names ds) n ≡ true
        → has_name (map global_name final.globals) n ≡ true
    global_names_in n h =
        ordered_has whole.globals places (order_whole whole long) n
        (ap (λ (gs : List Global). has_name (map global_name gs) n) each_global
        ∙ globals_count n (counted_of ds) ds
        ∙ some_counts (a_global (signature n 0)) ds (sym (globals_declared n ds) ∙ h))

    wider : Wider declared (names_of final)
    wider = record {
      variables = λ n h.
          names_more [] (map global_name final.globals) n
          ∙ global_names_in n (sym (names_more [] (global_names ds) n) ∙ h);
      functions = λ n k h.
          functions_count n k (counted_of ds) ds
          ∙ some_counts (a_function (signature n k)) ds (sym (functions_declared n k ds) ∙ h);
      keys = λ n h. subst (λ (names : List ExprName). has_name names n ≡ true) (keys_same [] ds) h;
    }

    module _ (missing : missing_codes (with_names [] (template_names ds)) called ≡ []) where
      template_named : (number : ℕ) → Numbered called number → number < 4294967295
          → is_named (slice_get final.templates number) ≡ true
      template_named number r low =
          called_named called r.name number r.is (low_number called number r) low (counted_of ds) ds
          (some_counts (a_template (signature r.name 0)) ds
          (sym (templates_declared r.name ds)
          ∙ sym (names_more [] (template_names ds) r.name)
          ∙ none_missing (with_names [] (template_names ds)) called missing r.name r.among))

      low_template : (number : ℕ) (passed : List ExprName)
          → is_none (broken_use declared (use_of.Template number passed)) ≡ true
          → number < 4294967295
      unfolding broken_use
      low_template number passed h =
          ltb-true number 4294967295 (none_if (nat_lt number 4294967295) (SheetStatic XTSE0650) h)

      mode_there : (mode : ModeUse) → has_mode modes mode ≡ true → is_mode modes mode ≡ true
      unfolding is_mode
      mode_there (Number mode) h =
          lt-ltb mode (length modes) (low_number modes mode (numbered modes mode h))
      mode_there Current h = refl

      use_declared : (u : Use)
          → (is_none (broken_use declared u) && has_number modes called u) ≡ true
          → is_declared (names_of final) final u ≡ true
      unfolding is_declared has_number
      use_declared (use_of.Variable n) h =
          wider_variable declared (names_of final) wider n
          (and_parts (is_none (broken_use declared (use_of.Variable n))) true h).0
      use_declared (use_of.Call n arity literal) h =
          wider_call declared (names_of final) wider n arity literal
          (and_parts (is_none (broken_use declared (use_of.Call n arity literal))) true h).0
      use_declared (use_of.Template number passed) h =
          let k = and_parts (is_none (broken_use declared (use_of.Template number passed)))
          (is_number_in called number) h in
          template_named number (numbered called number k.1) (low_template number passed k.0)
      use_declared (use_of.Apply mode) h =
          mode_there mode (and_parts (is_none (broken_use declared (use_of.Apply mode)))
          (has_mode modes mode) h).1

      uses_there : broken_uses declared (declared_uses ds [] []) ≡ []
          → have_numbers modes called ds ≡ true
          → all_declared (names_of final) final ≡ true
      uses_there e n =
          let q = λ (u : Use). is_none (broken_use declared u) && has_number modes called u in
          passing q (is_declared (names_of final) final) use_declared (uses_of final)
          (uses_pass q final
          (final_asked (asked for_uses q) (no_uses q)
          (uses_asked q ds
          (both_pass (λ u. is_none (broken_use declared u)) (has_number modes called)
          (declared_uses ds [] [])
          (none_broken declared (declared_uses ds [] []) e) n))))

pub names_kept : (p : Parts) (templates : List Parameters) → HasEachGlobal p
    → AreAllInOrder (sheet_of p) → have_numbers p.modes p.called p.declarations ≡ true
    → broken_rules p.declarations p.called templates ≡ []
    → keeps_names (put_in_order (sheet_of p)) ≡ true
unfolding keeps_names
names_kept p templates each_global long numbers own =
    let ds = p.declarations in
    let uses = broken_uses (rules.names_of ds 4294967295) (declared_uses ds [] []) in
    let missing = missing_codes (with_names [] (template_names ds)) p.called in
    let doubles = double_codes (doubles_of ds) in
    let passings = broken_passings templates (declared_uses ds [] []) in
    let keys = called_codes (rules.with_functions [] ds) (declared_keys ds [] []) in
    let after = back_nil uses _ own in
    let later = back_nil doubles _ (back_nil missing _ after) in
    and_from _ _
    (uses_there p each_global long (front_nil missing _ after) (front_nil uses _ own) numbers)
    (keys_quiet p (front_nil keys _ (back_nil passings _ later)))
