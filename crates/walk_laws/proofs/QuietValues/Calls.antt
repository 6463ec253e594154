-- Calls of the functions that quiet predicates call.
use Rattle.std.proofs.lemmas.Bool.Decides.{nat_tests}
use Rattle.std.proofs.Common.{◌≡◌, ℕ, suc, ◌<◌, pos, List, [], ◌∷◌, map, length, refl, ap, sym, ◌∙◌, arith}
use Rattle.std.proofs.Common.{◌⊎◌, inl, inr, codes}
use Rattle.std.specs.Prelude.{◌^◌, ◌==◌, Bool, true, false, not, ◌||◌, if◌then◌else◌, Some, Ok, Err}
use Rattle.std.specs.Str.{bytes_eq}
use Rattle.std.proofs.lemmas.Slice.Eq.{bytes_eq-Decides}
use Rattle.std.proofs.lemmas.List.{length-map}
use Rattle.xt_names.specs.declared.codes.Code.TheVariants.{Dynamic}
use Rattle.xt_names.specs.declared.codes.DynamicCode.TheVariants.{FOAR0002}
use Rattle.xt_names.specs.declared.names.ExprName.{ExprName}
use Rattle.xt_tree.specs.Place.{Place}
use Rattle.xdm_items.specs.declared.items.Item.{Item}
use Rattle.xdm_items.specs.declared.items.Item.TheVariants.{Node}
use Rattle.xdm_items.specs.Truth.{truth_of}
use Rattle.function_table.specs.Find.{is_in_fn, found, found_in}
use Rattle.function_table.specs.Table.{joined}
use Rattle.function_table.specs.declared.builtins.Builtin.{Builtin}
use Rattle.function_table.specs.declared.builtins.Builtin.TheVariants as function
use Rattle.xdm_items.specs.FunctionArguments.Answers.{of_integer, of_text, of_truth}
use Rattle.item_functions.specs.SequenceFunctions.Cardinality.{counted as counted_items, has_item, has_no_item}
use Rattle.item_functions.specs.Outcomes.{as_integer}
use Rattle.item_functions.specs.OnSequences.{count_of as count_value, empty_of, exists_of}
use Rattle.item_functions.specs.OnValues.{not_of}
use Rattle.expr_meaning.specs.FnLib.Functions.{function_value, value_of}
use Rattle.xt_forms.specs.NamedTexts.{is_one_of}
use Rattle.xt_forms.specs.Quiet.{quiet_call, local_call}
use Rattle.xt_forms.specs.declared.quiet_calls.QuietCall.{QuietCall}
use Rattle.xt_forms.specs.declared.quiet_calls.QuietCall.TheVariants as call
use Rattle.node_axes.specs.StepWalks.Nodes.{Focus}
use Rattle.quiet_meaning.specs.Values.{name_text}
use Rattle.quiet_meaning.specs.Quietly.{Quietly, attribute, step, path, condition, other}
use Rattle.quiet_meaning.specs.Quietly.{is_truth, holds_at, has_some, negated, some_in, counted}
use Rattle.quiet_meaning.specs.Quietly.{called as called_form, called_with, call_gives}
use Rattle.quiet_meaning.specs.Paths.{is_path_form, nodes_of_form}
use Rattle.expr_meaning.specs.Outcomes.Outcome.{Ends}
use Rattle.expr_meaning.specs.Env.{Env, Meaning, Program}
use Rattle.expr_meaning.specs.Calls.{library, called, call_of, library_value}
use Rattle.walk_laws.specs.NodeOrders.Counted.{IsCountable}
use Rattle.walk_laws.specs.QuietValues.Given.{as_placed, at_node, given_at, has_value}
use Rattle.walk_laws.proofs.QuietValues.Truths.{Agrees, AllAgree, other_agrees, truth_has_value, truth_given}
use Rattle.walk_laws.proofs.QuietValues.Steps.{few_items}
use Rattle.walk_laws.proofs.QuietValues.Slashes.{IsShort, path_has_value, path_given}
use Rattle.walk_laws.proofs.QuietValues.Names.{name_is, local_name_is}

-- the names that a function of quiet predicates has

abbrev pub Named : QuietCall → List ℕ → Type 0
Named call.Constant local = (local ≡ codes "true") ⊎ (local ≡ codes "false")
Named call.Not local = local ≡ codes "not"
Named call.Position local = local ≡ codes "position"
Named call.Last local = local ≡ codes "last"
Named call.Exists local = (local ≡ codes "exists") ⊎ (local ≡ codes "empty")
Named call.Count local = local ≡ codes "count"
Named call.NameOf local = (local ≡ codes "name") ⊎ (local ≡ codes "local-name")
Named call.Other local = Unit {0}

same : (a b : List ℕ) → bytes_eq a b ≡ true → a ≡ b
same a b h = (bytes_eq-Decides a b).0 h

either : (a b c : List ℕ) → is_one_of a (b ∷ c ∷ []) ≡ true → (a ≡ b) ⊎ (a ≡ c)
either a b c h = by (bytes_eq a b) refl (bytes_eq a c) refl h
  where
    by : (s : Bool) → bytes_eq a b ≡ s → (t : Bool) → bytes_eq a c ≡ t → (s || (t || false)) ≡ true →
        (a ≡ b) ⊎ (a ≡ c)
    by true e t f h = inl (same a b e)
    by false e true f h = inr (same a c f)
    by false e false f h = absurd cc

local_named : (local : List ℕ) → Named (local_call local) local
unfolding local_call
local_named local =
    by (is_one_of local (codes "true" ∷ codes "false" ∷ [])) refl
    (bytes_eq local (codes "not")) refl (bytes_eq local (codes "position")) refl
    (bytes_eq local (codes "last")) refl (is_one_of local (codes "exists" ∷ codes "empty" ∷ [])) refl
    (bytes_eq local (codes "count")) refl
    (is_one_of local (codes "name" ∷ codes "local-name" ∷ [])) refl
  where
    by : (a : Bool) → is_one_of local (codes "true" ∷ codes "false" ∷ []) ≡ a →
        (b : Bool) → bytes_eq local (codes "not") ≡ b →
        (c : Bool) → bytes_eq local (codes "position") ≡ c →
        (d : Bool) → bytes_eq local (codes "last") ≡ d →
        (e : Bool) → is_one_of local (codes "exists" ∷ codes "empty" ∷ []) ≡ e →
        (f : Bool) → bytes_eq local (codes "count") ≡ f →
        (g : Bool) → is_one_of local (codes "name" ∷ codes "local-name" ∷ []) ≡ g →
        Named (if a then call.Constant else if b then call.Not else if c then call.Position
        else if d then call.Last else if e then call.Exists else if f then call.Count
        else if g then call.NameOf else call.Other) local
    by true h b i c j d l e m f n g o = either local _ _ h
    by false h true i c j d l e m f n g o = same local _ i
    by false h false i true j d l e m f n g o = same local _ j
    by false h false i false j true l e m f n g o = same local _ l
    by false h false i false j false l true m f n g o = either local _ _ m
    by false h false i false j false l false m true n g o = same local _ n
    by false h false i false j false l false m false n true o = either local _ _ o
    by false h false i false j false l false m false n false o = tt

-- .. and the namespace of functions
abbrev pub IsCall : QuietCall → ExprName → Type 0
IsCall call.Other name = Unit {0}
IsCall c name = (is_in_fn name ≡ true) × Named c name.local

with_namespace : (c : QuietCall) (name : ExprName) → is_in_fn name ≡ true → Named c name.local →
    IsCall c name
with_namespace call.Constant name h n = (h, n)
with_namespace call.Not name h n = (h, n)
with_namespace call.Position name h n = (h, n)
with_namespace call.Last name h n = (h, n)
with_namespace call.Exists name h n = (h, n)
with_namespace call.Count name h n = (h, n)
with_namespace call.NameOf name h n = (h, n)
with_namespace call.Other name h n = tt

is_call : (name : ExprName) → IsCall (quiet_call name) name
unfolding quiet_call
is_call name = by (is_in_fn name) refl
  where
    by : (b : Bool) → is_in_fn name ≡ b →
        IsCall (if b then local_call name.local else call.Other) name
    by true h = with_namespace (local_call name.local) name h (local_named name.local)
    by false h = tt

-- the functions of these names

true_called : (name : ExprName) → is_in_fn name ≡ true → name.local ≡ codes "true" →
    called name 0 ≡ library function.True
unfolding called found found_in joined
true_called name h e = rw (h, e) refl

false_called : (name : ExprName) → is_in_fn name ≡ true → name.local ≡ codes "false" →
    called name 0 ≡ library function.False
unfolding called found found_in joined
false_called name h e = rw (h, e) refl

not_called : (name : ExprName) → is_in_fn name ≡ true → name.local ≡ codes "not" →
    called name 1 ≡ library function.Not
unfolding called found found_in joined
not_called name h e = rw (h, e) refl

position_called : (name : ExprName) → is_in_fn name ≡ true → name.local ≡ codes "position" →
    called name 0 ≡ library function.Position
unfolding called found found_in joined
position_called name h e = rw (h, e) refl

last_called : (name : ExprName) → is_in_fn name ≡ true → name.local ≡ codes "last" →
    called name 0 ≡ library function.Last
unfolding called found found_in joined
last_called name h e = rw (h, e) refl

exists_called : (name : ExprName) → is_in_fn name ≡ true → name.local ≡ codes "exists" →
    called name 1 ≡ library function.Exists
unfolding called found found_in joined
exists_called name h e = rw (h, e) refl

empty_called : (name : ExprName) → is_in_fn name ≡ true → name.local ≡ codes "empty" →
    called name 1 ≡ library function.Empty
unfolding called found found_in joined
empty_called name h e = rw (h, e) refl

count_called : (name : ExprName) → is_in_fn name ≡ true → name.local ≡ codes "count" →
    called name 1 ≡ library function.Count
unfolding called found found_in joined
count_called name h e = rw (h, e) refl

name_called : (name : ExprName) → is_in_fn name ≡ true → name.local ≡ codes "name" →
    called name 0 ≡ library function.Name
unfolding called found found_in joined
name_called name h e = rw (h, e) refl

local_name_called : (name : ExprName) → is_in_fn name ≡ true → name.local ≡ codes "local-name" →
    called name 0 ≡ library function.LocalName
unfolding called found found_in joined
local_name_called name h e = rw (h, e) refl

-- calls without and with an argument

no_argument : (p : Program) (name : ExprName) (b : Builtin) (env : Env) (f : Focus) (k : ℕ)
    (xs : List Item) → called name 0 ≡ library b →
    library_value b (Some (as_placed f)) [] ≡ Ok xs →
    call_of p name [] (at_node env f) k ≡ Ends xs k
no_argument p name b env f k xs e h = rw (e, h) refl

one_argument : (p : Program) (name : ExprName) (b : Builtin) (m : Meaning) (env : Env) (k : ℕ)
    (ys xs : List Item) → called name 1 ≡ library b → m env k ≡ Ends ys k →
    function_value b (ys ∷ []) ≡ Ok xs → call_of p name (m ∷ []) env k ≡ Ends xs k
one_argument p name b m env k ys xs e a h = rw (a, e, h) refl

position_value : (f : Focus) →
    library_value function.Position (Some (as_placed f)) [] ≡ Ok (of_integer (pos f.position))
unfolding function_value value_of
position_value f = refl

last_value : (f : Focus) →
    library_value function.Last (Some (as_placed f)) [] ≡ Ok (of_integer (pos f.size))
unfolding function_value value_of
last_value f = refl

true_value : (f : Focus) →
    library_value function.True (Some (as_placed f)) [] ≡ Ok (of_truth true)
unfolding function_value value_of
true_value f = refl

false_value : (f : Focus) →
    library_value function.False (Some (as_placed f)) [] ≡ Ok (of_truth false)
unfolding function_value value_of
false_value f = refl

name_value : (f : Focus) → IsCountable f.node →
    library_value function.Name (Some (as_placed f)) [] ≡ Ok (of_text (name_text true f.node))
unfolding function_value value_of
name_value f c = name_is f.node c.exists

local_name_value : (f : Focus) → IsCountable f.node →
    library_value function.LocalName (Some (as_placed f)) [] ≡ Ok (of_text (name_text false f.node))
unfolding function_value value_of
local_name_value f c = local_name_is f.node c.exists

none_agrees : (p : Program) (name : ExprName) (c : QuietCall) → IsCall c name →
    Agrees (called_form c name.local) (call_of p name [])
unfolding called_form given_at
none_agrees p name call.Constant (i, inl e) h env f c k =
    no_argument p name function.True env f k _ (true_called name i e) (true_value f)
    ∙ ap (λ l. Ends (of_truth (bytes_eq l (codes "true"))) k) (sym e)
none_agrees p name call.Constant (i, inr e) h env f c k =
    no_argument p name function.False env f k _ (false_called name i e) (false_value f)
    ∙ ap (λ l. Ends (of_truth (bytes_eq l (codes "true"))) k) (sym e)
none_agrees p name call.Position (i, e) h env f c k =
    no_argument p name function.Position env f k _ (position_called name i e) (position_value f)
none_agrees p name call.Last (i, e) h env f c k =
    no_argument p name function.Last env f k _ (last_called name i e) (last_value f)
none_agrees p name call.NameOf (i, inl e) h env f c k =
    no_argument p name function.Name env f k _ (name_called name i e) (name_value f c)
    ∙ ap (λ l. Ends (of_text (name_text (bytes_eq l (codes "name")) f.node)) k) (sym e)
none_agrees p name call.NameOf (i, inr e) h env f c k =
    no_argument p name function.LocalName env f k _ (local_name_called name i e)
    (local_name_value f c)
    ∙ ap (λ l. Ends (of_text (name_text (bytes_eq l (codes "name")) f.node)) k) (sym e)
none_agrees p name call.Not i h env f c k = other_agrees (call_of p name []) h env f c k
none_agrees p name call.Exists i h env f c k = other_agrees (call_of p name []) h env f c k
none_agrees p name call.Count i h env f c k = other_agrees (call_of p name []) h env f c k
none_agrees p name call.Other i h env f c k = other_agrees (call_of p name []) h env f c k

-- with one argument

not_value : (xs : List Item) (t : Bool) → truth_of xs ≡ Ok t →
    function_value function.Not (xs ∷ []) ≡ Ok (of_truth (not t))
unfolding function_value value_of not_of
not_value xs t e = rw e refl

never_zero : (n : ℕ) → (suc n == 0) ≡ false
never_zero n = by (suc n == 0) refl
  where
    by : (b : Bool) → (suc n == 0) ≡ b → (suc n == 0) ≡ false
    by true e = absurd (grind (arith, nat_tests))
    by false e = e

exists_value : (ns : List Place) →
    function_value function.Exists (map Node ns ∷ []) ≡ Ok (of_truth (has_some ns))
unfolding function_value value_of exists_of has_item
exists_value [] = refl
exists_value (n ∷ ns) = ap (λ b. Ok (of_truth (not b))) (never_zero (length (map Node ns)))

empty_value : (ns : List Place) →
    function_value function.Empty (map Node ns ∷ []) ≡ Ok (of_truth (not (has_some ns)))
unfolding function_value value_of empty_of has_no_item
empty_value [] = refl
empty_value (n ∷ ns) = ap (λ b. Ok (of_truth b)) (never_zero (length (map Node ns)))

count_given : (ns : List Place) → length ns < 2 ^ 63 →
    function_value function.Count (map Node ns ∷ []) ≡ Ok (of_integer (pos (length ns)))
unfolding function_value value_of count_value counted_items
count_given ns l =
    ap (λ b. as_integer (if b then Ok (pos (length (map Node ns))) else Err (Dynamic FOAR0002)))
    (few_items ns l)
    ∙ ap (λ n. Ok (of_integer (pos n))) (length-map ns Node)

negated_given : (q : Quietly) (f : Focus) → has_value (negated q) ≡ true →
    (is_truth q ≡ true) × (given_at (negated q) f ≡ of_truth (not (holds_at q f)))
unfolding has_value given_at
negated_given q f h = by (is_truth q) refl h
  where
    by : (b : Bool) → is_truth q ≡ b →
        has_value (if b then condition (λ g. not (holds_at q g)) else other) ≡ true →
        (is_truth q ≡ true) × (given_at (negated q) f ≡ of_truth (not (holds_at q f)))
    by true e g = (e, rw e refl)
    by false e g = absurd cc

some_given : (b : Bool) (q : Quietly) (f : Focus) → has_value (some_in b q) ≡ true →
    (is_path_form q ≡ true) × (given_at (some_in b q) f
    ≡ of_truth (if b then has_some (nodes_of_form q f.node) else not (has_some (nodes_of_form q f.node))))
unfolding has_value some_in given_at is_path_form nodes_of_form
some_given b (attribute g) f h = (refl, refl)
some_given b (step g) f h = (refl, refl)
some_given b (path g) f h = (refl, refl)
some_given b q f h = absurd cc

counted_given : (q : Quietly) (f : Focus) → has_value (counted q) ≡ true →
    (is_path_form q ≡ true)
    × (given_at (counted q) f ≡ of_integer (pos (length (nodes_of_form q f.node))))
unfolding has_value counted given_at is_path_form nodes_of_form
counted_given (attribute g) f h = (refl, refl)
counted_given (step g) f h = (refl, refl)
counted_given (path g) f h = (refl, refl)
counted_given q f h = absurd cc

-- the argument is a path
path_agrees : (q : Quietly) (m : Meaning) → Agrees q m → is_path_form q ≡ true → (env : Env)
    (f : Focus) → IsCountable f.node → (k : ℕ) →
    m (at_node env f) k ≡ Ends (map Node (nodes_of_form q f.node)) k
path_agrees q m a p env f c k =
    a (path_has_value q p) env f c k ∙ ap (λ xs. Ends xs k) (path_given q f p)

abbrev judged : Bool → List Place → Bool
judged b ns = if b then has_some ns else not (has_some ns)

one_agrees : (p : Program) (name : ExprName) (c : QuietCall) → IsCall c name → (q : Quietly)
    (m : Meaning) → Agrees q m → IsShort (nodes_of_form q) →
    Agrees (called_with c name.local q) (call_of p name (m ∷ []))
unfolding called_with
one_agrees p name call.Not (i, e) q m a s h env f c k =
    let g = negated_given q f h in
    one_argument p name function.Not m (at_node env f) k _ _ (not_called name i e)
    (a (truth_has_value q g.0) env f c k) (not_value _ _ (truth_given q f g.0))
    ∙ ap (λ xs. Ends xs k) (sym g.1)
one_agrees p name call.Exists (i, inl e) q m a s h env f c k =
    let g = some_given (bytes_eq name.local (codes "exists")) q f h in
    one_argument p name function.Exists m (at_node env f) k _ _ (exists_called name i e)
    (path_agrees q m a g.0 env f c k) (exists_value (nodes_of_form q f.node))
    ∙ ap (λ l. Ends (of_truth (judged (bytes_eq l (codes "exists")) (nodes_of_form q f.node))) k) (sym e)
    ∙ ap (λ xs. Ends xs k) (sym g.1)
one_agrees p name call.Exists (i, inr e) q m a s h env f c k =
    let g = some_given (bytes_eq name.local (codes "exists")) q f h in
    one_argument p name function.Empty m (at_node env f) k _ _ (empty_called name i e)
    (path_agrees q m a g.0 env f c k) (empty_value (nodes_of_form q f.node))
    ∙ ap (λ l. Ends (of_truth (judged (bytes_eq l (codes "exists")) (nodes_of_form q f.node))) k) (sym e)
    ∙ ap (λ xs. Ends xs k) (sym g.1)
one_agrees p name call.Count (i, e) q m a s h env f c k =
    let g = counted_given q f h in
    let few : length (nodes_of_form q f.node) < 2 ^ 63 = (let z = s f.node in omega (arith, z, c.few)) in
    one_argument p name function.Count m (at_node env f) k _ _ (count_called name i e)
    (path_agrees q m a g.0 env f c k) (count_given (nodes_of_form q f.node) few)
    ∙ ap (λ xs. Ends xs k) (sym g.1)
one_agrees p name call.Constant i q m a s h env f c k =
    other_agrees (call_of p name (m ∷ [])) h env f c k
one_agrees p name call.Position i q m a s h env f c k =
    other_agrees (call_of p name (m ∷ [])) h env f c k
one_agrees p name call.Last i q m a s h env f c k =
    other_agrees (call_of p name (m ∷ [])) h env f c k
one_agrees p name call.NameOf i q m a s h env f c k =
    other_agrees (call_of p name (m ∷ [])) h env f c k
one_agrees p name call.Other i q m a s h env f c k =
    other_agrees (call_of p name (m ∷ [])) h env f c k

abbrev pub AllShort : List Quietly → Type 0
AllShort [] = Unit {0}
AllShort (q ∷ qs) = IsShort (nodes_of_form q) × AllShort qs

pub call_agrees : (p : Program) (name : ExprName) (qs : List Quietly) (ms : List Meaning) →
    AllAgree qs ms → AllShort qs →
    Agrees (call_gives (quiet_call name) name.local qs) (call_of p name ms)
unfolding call_gives
call_agrees p name [] [] a s = none_agrees p name (quiet_call name) (is_call name)
call_agrees p name [] (m ∷ ms) a s = absurd a
call_agrees p name (q ∷ qs) [] a s = absurd a
call_agrees p name (q ∷ []) (m ∷ []) a s =
    one_agrees p name (quiet_call name) (is_call name) q m a.0 s.0
call_agrees p name (q ∷ []) (m ∷ l ∷ ms) a s = absurd a.1
call_agrees p name (q ∷ r ∷ qs) ms a s = other_agrees (call_of p name ms)
