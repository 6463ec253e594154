-- Calls are carried where their arguments are.
use Rattle.std.proofs.Common.{◌≡◌, ℕ, ◌++◌, List, [], ◌∷◌, length, refl, sym, ap, ap₂, ◌∙◌}
use Rattle.std.proofs.Common.{subst, map, arith}
use Rattle.std.proofs.lemmas.List.{length-map}
use Rattle.std.specs.Prelude.{Bool, true, false, codes, Option, Some, None, Ok}
use Rattle.xt_names.specs.declared.codes.Code.{Code}
use Rattle.xt_names.specs.declared.names.ExprName.{ExprName}
use Rattle.xt_atoms.specs.declared.atoms.Atom.TheVariants as atom
use Rattle.xdm_items.specs.declared.items.Item.{Item}
use Rattle.xdm_items.specs.declared.items.Item.TheVariants.{Atom}
use Rattle.xdm_items.specs.Values.{string_value_of}
use Rattle.xt_syntax.specs.declared.exprs.Expr.{Expr}
use Rattle.xt_syntax.specs.declared.exprs.Clause.TheViews.{roll-Expr}
use Rattle.xt_syntax.specs.declared.exprs.Clause.TheOpen.{Call, Comma, Context}
use Rattle.function_table.specs.declared.builtins.Builtin.{Builtin}
use Rattle.function_table.specs.declared.builtins.Builtin.TheVariants as function
use Rattle.xdm_items.specs.FunctionArguments.Arguments.{and_then as result_then, optional_text_argument}
use Rattle.xdm_items.specs.FunctionArguments.Answers.{of_text}
use Rattle.text_functions.specs.TextFunctions.{string_of}
use Rattle.fn_lib.specs.Functions.{function_value, value_of}
use Rattle.operator_values.specs.Operands.{atom_of}
use Rattle.expr_meaning.specs.Outcomes.Outcome.{Outcome, Ends, Fails, Deep, and_then, step_outcome, Every}
use Rattle.expr_meaning.specs.Outcomes.Follow.{Relation, IsCarrying}
use Rattle.expr_meaning.proofs.OutcomesLemmas.Steps.{then_assoc}
use Rattle.expr_meaning.specs.SortMeaning.Sorted.{Placed}
use Rattle.expr_meaning.specs.Env.{Env, Meaning, Program, or_global}
use Rattle.expr_meaning.specs.Documents.{document_in}
use Rattle.expr_meaning.specs.Values.{just, of_focus}
use Rattle.expr_meaning.specs.Calls.{lists_of, Called, library, document, current}
use Rattle.expr_meaning.specs.Calls.{current_group, current_key, key, declared, called, call_value}
use Rattle.expr_meaning.specs.Calls.{library_value, named_document, current_value, members_of, key_of}
use Rattle.expr_meaning.specs.Calls.{position_of, size_of, found_by_key, keyed_root, call_of}
use Rattle.expr_meaning.specs.Meaning.{outcome}
use Rattle.expr_laws.specs.Carrier.{Carrier, IsKept, AllMeet, ProgramsMeet, SeesFocus, OnValue}
use Rattle.expr_laws.proofs.Steps.{same_step}
use Rattle.expr_laws.proofs.Rolled.{rolled}
use Rattle.expr_laws.proofs.Calls.{lists_meet, as_long, library_meets, document_meets}
use Rattle.carried_exprs.specs.Sights.{Sight, named, focused, absent, Setting, HasLocalKeys}
use Rattle.carried_exprs.specs.Sights.{may_call, library_call, item_name, position_name}
use Rattle.carried_exprs.specs.Sights.{size_name, group_name, key_name, the_item}
use Rattle.carried_exprs.specs.Sights.{item_or_nothing}
use Rattle.carry_laws.proofs.Places.{named_own}
use Rattle.carried_exprs.specs.Calls.{without_argument, string_of_item, literal_of, key_of_name}
use Rattle.carried_exprs.specs.Calls.{called_seen, call_seen, current_seen}
use Rattle.carry_laws.specs.Seen.{OnSome, Holds, IsSeen, ProgramsCarry, CurrentIsSeen, GroupIsSeen}
use Rattle.carry_laws.proofs.Carry.{carry, Carries, sees_focused, sees_absent, both_fail}
use Rattle.carry_laws.proofs.Carry.{variable_is}
use Rattle.carry_laws.proofs.Names.{string_called, string_length_called, normalize_space_called}
use Rattle.carry_laws.proofs.Names.{name_called, local_name_called, namespace_uri_called, root_called}
use Rattle.carry_laws.proofs.Names.{error_called, doc_called, local_called, takes, TakesSoMany}
use Rattle.xt_names.specs.ExprNames.{library_name}

-- what goes on from the lists of arguments goes on from the first of them, and then from the others
put_first : {B : Type 0} (o : Outcome (List Item)) (more : ℕ → Outcome (List (List Item)))
    (go : List (List Item) → ℕ → Outcome B) →
    and_then (and_then (and_then o (λ xs j. Ends (xs ∷ []) j))
    (λ ys j. and_then (more j) (λ zs i. Ends (ys ++ zs) i))) go
    ≡ and_then o (λ xs j. and_then (more j) (λ zs. go (xs ∷ zs)))
put_first (Ends xs j) more go = then_assoc (more j) (λ zs i. Ends (xs ∷ zs) i) go
put_first (Fails code) more go = refl
put_first Deep more go = refl

first_listed : {B : Type 0} (m : Meaning) (ms : List Meaning) (e : Env) (k : ℕ)
    (go : List (List Item) → ℕ → Outcome B) →
    and_then (lists_of (m ∷ ms) e k) go
    ≡ and_then (m e k) (λ xs j. and_then (lists_of ms e j) (λ zs. go (xs ∷ zs)))
first_listed m ms e k go = put_first (m e k) (lists_of ms e) go

-- the first of two arguments is known
one_known : {B : Type 0} (m n : Meaning) (xs : List Item) (e : Env) (k : ℕ) →
    m e k ≡ Ends xs k → (go : List (List Item) → ℕ → Outcome B) →
    and_then (lists_of (m ∷ n ∷ []) e k) go ≡ and_then (n e k) (λ ys. go (xs ∷ ys ∷ []))
one_known m n xs e k is go =
    first_listed m (n ∷ []) e k go
    ∙ ap (λ o. and_then o (λ xs j. and_then (lists_of (n ∷ []) e j) (λ zs. go (xs ∷ zs)))) is
    ∙ first_listed n [] e k (λ zs. go (xs ∷ zs))

-- the literal that a key's name is
abbrev pub KeyKnown : List Meaning → List Expr → Type 0
KeyKnown [] es = Unit {0}
KeyKnown (m ∷ ms) [] = Unit {0}
KeyKnown (m ∷ ms) (e ∷ es) =
    (t : List ℕ) × (m ≡ just (Atom (atom.Str t) ∷ [])) × (literal_of e ≡ Some t)

abbrev pub FitsCall : Setting → Called → ExprName → List Meaning → List Expr → Type 0
FitsCall w (library f) name ms es = Unit {0}
FitsCall w document name ms es = Unit {0}
FitsCall w current name ms es = Unit {0}
FitsCall w current_group name ms es = w.has_group ≡ true
FitsCall w current_key name ms es = w.has_group ≡ true
FitsCall w key name ms es = (w.has_keys ≡ true) × KeyKnown ms es
FitsCall w declared name ms es = may_call w name ≡ true

module _ (like : Code → Code → Type 0) (lax : (a b : Code) → like a b) (rel : Relation)
    (carries : IsCarrying like rel) (good : Item → Type 0) (keeps : IsKept good) (w : Setting)
    (p q : Program) (programs : ProgramsCarry rel good w p q) where
  abbrev here : Carrier
  here = carry like lax rel carries good keeps w

  abbrev Moves : Sight → Meaning → Meaning → Type 0
  Moves s m n = Carries like lax rel carries good keeps w s m n

  named_same : (o : Option (List ℕ)) → named_document p o ≡ named_document q o
  named_same None = refl
  named_same (Some name) = ap (λ d. document_in d name) programs.documents

  global_known : (l g : Option (List Item)) → OnSome (Every good) l → OnSome (Every good) g →
      OnValue (Every good) (or_global l g)
  global_known (Some xs) g h i = h
  global_known None (Some xs) h i = i
  global_known None None h i = tt

  pub meet : ProgramsMeet here p q
  meet = record {
    calls = λ name own args g k. programs.calls name own args g k;
    document = λ xs i. result_then (optional_text_argument xs) (λ o. named_same o i);
    documents = programs.documents_known;
    variables = λ s e f h name own.
        ap₂ or_global (h.locals name (named_own w name own)) (programs.globals name own);
    variable = λ s e f h name own.
        global_known _ _ (h.known name) (programs.globals_known name);
  }

  abbrev CallMoves : Sight → Called → ExprName → List Meaning → List Expr → Type 0
  CallMoves s d name ms es =
      Moves s (λ e k. and_then (lists_of ms e k) (call_value p d name e))
      (outcome q (called_seen w s d name es))

  -- a call in the query
  call_is : (d : Called) (name : ExprName) (es : List Expr) (f : Env) (k : ℕ) →
      called name (length (map (outcome q) es)) ≡ d → outcome q (roll-Expr (Call name es)) f k
      ≡ and_then (lists_of (map (outcome q) es) f k) (call_value q d name f)
  call_is d name es f k is =
      ap (λ (m : Meaning). m f k) (rolled q (Call name es))
      ∙ ap (λ x. and_then (lists_of (map (outcome q) es) f k) (call_value q x name f)) is

  one_argument : (b : Builtin) (name : ExprName) (a : Expr) (xs : List Item) (f : Env) (k : ℕ) →
      called name 1 ≡ library b → outcome q a f k ≡ Ends xs k →
      outcome q (roll-Expr (Call name (a ∷ []))) f k
      ≡ step_outcome (function_value b (xs ∷ [])) k
  one_argument b name a xs f k is value =
      call_is (library b) name (a ∷ []) f k is
      ∙ first_listed (outcome q a) [] f k (call_value q (library b) name f)
      ∙ ap (λ o. and_then o (λ xs j. call_value q (library b) name f (xs ∷ []) j)) value

  -- the string value of the item
  text_is : (x : Item) (f : Env) (k : ℕ) → Holds f.locals item_name (x ∷ []) →
      outcome q string_of_item f k ≡ Ends (of_text (string_value_of x)) k
  unfolding function_value value_of string_of
  text_is x f k h =
      one_argument function.String (library_name (codes "string")) the_item (x ∷ []) f k string_called
      (variable_is like lax rel carries good keeps w q f item_name (x ∷ []) k h)

  -- functions without arguments, where variables hold the focus
  module _ (name : ExprName) (f : Env) (x : Placed Item) (k : ℕ)
      (item : Holds f.locals item_name (x.value ∷ []))
      (position : Holds f.locals position_name (position_of x))
      (size : Holds f.locals size_name (size_of x)) where
    of_item : (b : Builtin) (local : List ℕ) → called (library_name local) 1 ≡ library b →
        outcome q (library_call local (the_item ∷ [])) f k
        ≡ step_outcome (function_value b ((x.value ∷ []) ∷ [])) k
    of_item b local is =
        one_argument b (library_name local) the_item (x.value ∷ []) f k is
        (variable_is like lax rel carries good keeps w q f item_name (x.value ∷ []) k item)

    of_string : (b : Builtin) (local : List ℕ) → called (library_name local) 1 ≡ library b →
        outcome q (library_call local (string_of_item ∷ [])) f k
        ≡ step_outcome (function_value b (of_text (string_value_of x.value) ∷ [])) k
    of_string b local is =
        one_argument b (library_name local) string_of_item (of_text (string_value_of x.value)) f k is
        (text_is x.value f k item)

    none_given : (b : Builtin) → called name 0 ≡ library b →
        outcome q (without_argument b name) f k ≡ step_outcome (library_value b (Some x) []) k
    unfolding function_value value_of
    none_given function.Position is =
        variable_is like lax rel carries good keeps w q f position_name (position_of x) k position
    none_given function.Last is =
        variable_is like lax rel carries good keeps w q f size_name (size_of x) k size
    none_given function.StringLength is =
        of_string function.StringLength (codes "string-length") string_length_called
    none_given function.NormalizeSpace is =
        of_string function.NormalizeSpace (codes "normalize-space") normalize_space_called
    none_given function.String is = of_item function.String (codes "string") string_called
    none_given function.Name is = of_item function.Name (codes "name") name_called
    none_given function.LocalName is =
        of_item function.LocalName (codes "local-name") local_name_called
    none_given function.NamespaceUri is =
        of_item function.NamespaceUri (codes "namespace-uri") namespace_uri_called
    none_given function.Root is = of_item function.Root (codes "root") root_called
    none_given b is = call_is (library b) name [] f k is

  item_good : (e f : Env) (h : IsSeen good w named e f) (y : Placed Item) → e.focus ≡ Some y →
      good y.value
  item_good e f h y is =
      subst (OnSome (λ (x : Placed Item). good x.value)) (sym h.focus.1 ∙ is) h.focus.2

  no_argument : (b : Builtin) (name : ExprName) → called name 0 ≡ library b →
      CallMoves named (library b) name [] []
  no_argument b name is e f h k =
      subst (λ o. rel (List Item) (Every good) (step_outcome (library_value b e.focus []) k) o)
      (sym (none_given name f h.focus.0 k h.focus.3 h.focus.4 h.focus.5 b is
      ∙ ap (λ o. step_outcome (library_value b o []) k) (sym h.focus.1)))
      (same_step here (Every good) (library_value b e.focus [])
      (keeps.library b e.focus (item_good e f h) [] tt) k)

  -- .. and with arguments, where none of them is read of the focus
  some_arguments : (b : Builtin) (name : ExprName) (m : Meaning) (ms : List Meaning) (a : Expr)
      (es : List Expr) → AllMeet here named (m ∷ ms) (map (outcome q) (a ∷ es)) →
      called name (length (map (outcome q) (a ∷ es))) ≡ library b →
      CallMoves named (library b) name (m ∷ ms) (a ∷ es)
  some_arguments b name m ms a es meets is e f h k =
      rw (
        call_is (library b) name (a ∷ es) f k is,
        first_listed m ms e k (call_value p (library b) name e),
        first_listed (outcome q a) (map (outcome q) es) f k (call_value q (library b) name f),
      )
      (carries.next _ _ (Every good) (Every good) (m e k) (outcome q a f k) _ _ (meets.0 e f h k)
      (λ xs j g.
      carries.next _ _ (Every (Every good)) (Every good) (lists_of ms e j)
      (lists_of (map (outcome q) es) f j) _ _
      (lists_meet here named ms (map (outcome q) es) meets.1 e f h j)
      (λ zs i d. same_step here (Every good) (library_value b e.focus (xs ∷ zs))
      (keeps.library b e.focus (item_good e f h) (xs ∷ zs) (g, d)) i)))

  with_focus_seen : (s : Sight) → SeesFocus here s → (b : Builtin) (name : ExprName)
      (ms : List Meaning) (es : List Expr) → AllMeet here s ms (map (outcome q) es) →
      called name (length (map (outcome q) es)) ≡ library b →
      Moves s (λ e k. and_then (lists_of ms e k) (call_value p (library b) name e))
      (outcome q (roll-Expr (Call name es)))
  with_focus_seen s sees b name ms es meets is e f h k =
      rw (call_is (library b) name es f k is)
      (carries.next _ _ (Every (Every good)) (Every good) (lists_of ms e k)
      (lists_of (map (outcome q) es) f k) _ _
      (lists_meet here s ms (map (outcome q) es) meets e f h k)
      (λ args j g. library_meets here s sees b e f h args g j))

  document_moves : (s : Sight) (name : ExprName) (ms : List Meaning) (es : List Expr) →
      AllMeet here s ms (map (outcome q) es) → length (map (outcome q) es) ≡ 1 →
      CallMoves s document name ms es
  document_moves s name ms es meets one e f h k =
      rw (call_is document (library_name (codes "doc")) es f k
      (ap (λ n. called (library_name (codes "doc")) n) one ∙ doc_called))
      (carries.next _ _ (Every (Every good)) (Every good) (lists_of ms e k)
      (lists_of (map (outcome q) es) f k) _ _
      (lists_meet here s ms (map (outcome q) es) meets e f h k)
      (λ args j g. document_meets here s p q meet args j))

  -- current()
  error_is : (f : Env) (k : ℕ) →
      outcome q (library_call (codes "error") []) f k
      ≡ step_outcome (function_value function.Error []) k
  error_is f k = call_is (library function.Error) (library_name (codes "error")) [] f k error_called

  current_by : (b : Bool) (e f : Env) → CurrentIsSeen good b e f → (k : ℕ) →
      rel (List Item) (Every good) (step_outcome (current_value e.state.current) k)
      (outcome q (current_seen b) f k)
  unfolding function_value value_of
  current_by true e f h k =
      rw (h.1, variable_is like lax rel carries good keeps w q f item_name (h.0 ∷ []) k h.3)
      (carries.ends _ _ _ _ (h.2, tt))
  current_by false e f h k = rw (h, error_is f k) (both_fail like lax rel carries good keeps w (Every good) _ _)

  current_moves : (s : Sight) (name : ExprName) (ms : List Meaning) (es : List Expr) →
      length ms ≡ 0 → CallMoves s current name ms es
  current_moves s name [] es none e f h k = current_by w.has_current e f h.current k
  current_moves s name (m ∷ ms) es none e f h k = absurd cc

  -- the current group and its key
  in_group : (b : Bool) (e f : Env) → b ≡ true → GroupIsSeen good b e f →
      GroupIsSeen good true e f
  in_group true e f is h = h
  in_group false e f is h = absurd cc

  group_moves : (s : Sight) (name : ExprName) (ms : List Meaning) (es : List Expr) →
      w.has_group ≡ true → length ms ≡ 0 → CallMoves s current_group name ms es
  group_moves s name [] es has none e f h k =
      let g = in_group w.has_group e f has h.group in
      rw (variable_is like lax rel carries good keeps w q f group_name (members_of e.state.group) k g.0)
      (carries.ends _ _ _ _ g.2)
  group_moves s name (m ∷ ms) es has none e f h k = absurd cc

  key_moves : (s : Sight) (name : ExprName) (ms : List Meaning) (es : List Expr) →
      w.has_group ≡ true → length ms ≡ 0 → CallMoves s current_key name ms es
  key_moves s name [] es has none e f h k =
      let g = in_group w.has_group e f has h.group in
      rw (variable_is like lax rel carries good keeps w q f key_name (key_of e.state.group) k g.1)
      (carries.ends _ _ _ _ g.3)
  key_moves s name (m ∷ ms) es has none e f h k = absurd cc

  declared_moves : (s : Sight) (name : ExprName) (ms : List Meaning) (es : List Expr) →
      AllMeet here s ms (map (outcome q) es) →
      called name (length (map (outcome q) es)) ≡ declared → may_call w name ≡ true →
      CallMoves s declared name ms es
  declared_moves s name ms es meets is own e f h k =
      rw (call_is declared name es f k is)
      (carries.next _ _ (Every (Every good)) (Every good) (lists_of ms e k)
      (lists_of (map (outcome q) es) f k) _ _
      (lists_meet here s ms (map (outcome q) es) meets e f h k)
      (λ args j g. programs.calls name own args g j))

  -- key(): the function takes the item first
  module _ (local : HasLocalKeys w) (has : w.has_keys ≡ true) (t : List ℕ) where
    abbrev found_behind : Env → List Item → ℕ → Outcome (List Item)
    found_behind e ys j =
        and_then (step_outcome (keyed_root e.focus) j) (p.keys t (map atom_of ys))

    item_first : (s : Sight) (e f : Env) → IsSeen good w s e f → (k : ℕ) →
        (xs : List Item) × (outcome q (item_or_nothing s) f k ≡ Ends xs k)
        × ((ys : List Item) → Every good ys → (j : ℕ) → rel (List Item) (Every good)
        (found_behind e ys j) (q.calls (w.keys t) (xs ∷ ys ∷ []) j))
    item_first named e f h k = (
      h.focus.0.value ∷ [],
      variable_is like lax rel carries good keeps w q f item_name (h.focus.0.value ∷ []) k h.focus.3,
      λ ys g j. rw h.focus.1 (programs.keys has t h.focus.0.value h.focus.2 ys g j),
    )
    item_first focused e f h k = (
      h.focus.0.value ∷ [],
      ap (λ (m : Meaning). m f k) (rolled q Context)
          ∙ ap (λ o. step_outcome (of_focus (λ (x : Placed Item). Ok (x.value ∷ [])) o) k) h.focus.3,
      λ ys g j. rw h.focus.1 (programs.keys has t h.focus.0.value h.focus.2 ys g j),
    )
    item_first absent e f h k = (
      [],
      ap (λ (m : Meaning). m f k) (rolled q (Comma [])),
      λ ys g j. rw h.focus.0 (programs.no_item has t ys g j),
    )

    key_found : (s : Sight) (n : Meaning) (a : Expr) → Moves s n (outcome q a) →
        (name : ExprName) → Moves s
        (λ e k. and_then (lists_of (just (Atom (atom.Str t) ∷ []) ∷ n ∷ []) e k) (found_by_key p e))
        (outcome q (key_of_name w s (Some t) a))
    key_found s n a moves name e f h k =
        let i = item_first s e f h k in
        rw (
          one_known (just (Atom (atom.Str t) ∷ [])) n (Atom (atom.Str t) ∷ []) e k refl
              (found_by_key p e),
          call_is declared (w.keys t) (item_or_nothing s ∷ a ∷ []) f k
              (local_called (w.keys t) (local t) 2),
          one_known (outcome q (item_or_nothing s)) (outcome q a) i.0 f k i.1
              (call_value q declared (w.keys t) f),
        )
        (carries.next _ _ (Every good) (Every good) (n e k) (outcome q a f k) _ _
        (moves e f h k) (λ ys j g. i.2 ys g j))

  module _ (local : HasLocalKeys w) where
    keyed_moves : (s : Sight) (name : ExprName) (ms : List Meaning) (es : List Expr) →
        AllMeet here s ms (map (outcome q) es) → length ms ≡ 2 →
        (w.has_keys ≡ true) × KeyKnown ms es → CallMoves s key name ms es
    keyed_moves s name (m ∷ n ∷ []) (a ∷ b ∷ []) meets two known e f h k =
        rw (known.1.1, known.1.2) (key_found local known.0 known.1.0 s n b meets.1.0 name e f h k)
    keyed_moves s name [] es meets two known e f h k = absurd (omega arith)
    keyed_moves s name (m ∷ []) es meets two known e f h k = absurd (omega arith)
    keyed_moves s name (m ∷ n ∷ o ∷ ms) es meets two known e f h k = absurd (omega arith)
    keyed_moves s name (m ∷ n ∷ []) [] meets two known e f h k = absurd meets
    keyed_moves s name (m ∷ n ∷ []) (a ∷ []) meets two known e f h k = absurd meets.1
    keyed_moves s name (m ∷ n ∷ []) (a ∷ b ∷ c ∷ es) meets two known e f h k = absurd meets.1.1

    -- every call
    called_moves : (s : Sight) (d : Called) (name : ExprName) (ms : List Meaning) (es : List Expr) →
        AllMeet here s ms (map (outcome q) es) →
        called name (length (map (outcome q) es)) ≡ d → TakesSoMany d (length ms) →
        length (map (outcome q) es) ≡ length ms → FitsCall w d name ms es →
        CallMoves s d name ms es
    called_moves named (library b) name [] [] meets is many long fits = no_argument b name is
    called_moves named (library b) name [] (a ∷ es) meets is many long fits = absurd meets
    called_moves named (library b) name (m ∷ ms) [] meets is many long fits = absurd meets
    called_moves named (library b) name (m ∷ ms) (a ∷ es) meets is many long fits =
        some_arguments b name m ms a es meets is
    called_moves focused (library b) name ms es meets is many long fits =
        with_focus_seen focused (sees_focused like lax rel carries good keeps w) b name ms es meets is
    called_moves absent (library b) name ms es meets is many long fits =
        with_focus_seen absent (sees_absent like lax rel carries good keeps w) b name ms es meets is
    called_moves s document name ms es meets is many long fits =
        document_moves s name ms es meets (long ∙ many)
    called_moves s current name ms es meets is many long fits = current_moves s name ms es many
    called_moves s current_group name ms es meets is many long fits =
        group_moves s name ms es fits many
    called_moves s current_key name ms es meets is many long fits =
        key_moves s name ms es fits many
    called_moves s key name ms es meets is many long fits =
        keyed_moves s name ms es meets many fits
    called_moves s declared name ms es meets is many long fits =
        declared_moves s name ms es meets is fits

    pub call_carried : (s : Sight) (name : ExprName) (ms : List Meaning) (es : List Expr) →
        AllMeet here s ms (map (outcome q) es) →
        FitsCall w (called name (length ms)) name ms es →
        Moves s (call_of p name ms) (outcome q (call_seen w s name es))
    call_carried s name ms es meets fits =
        let long : length ms ≡ length (map (outcome q) es) = as_long here s ms (map (outcome q) es) meets in
        let all : length es ≡ length ms = sym (length-map es (outcome q)) ∙ sym long in
        rw all
        (called_moves s (called name (length ms)) name ms es meets
        (ap (called name) (sym long)) (takes name (length ms)) (sym long) fits)
