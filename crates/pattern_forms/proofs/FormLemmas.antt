-- The form of what is made of parts is made of their forms.
use Rattle.std.proofs.Common.{◌≡◌, ℕ, ◌+◌, ◌==◌, ℤ, List, [], ◌∷◌, ◌++◌, map, filter, length, Bool, true, false, cond, not, ◌&&◌, refl, sym, ap, ap₂, ◌∙◌, subst, codes, arith, drop, take, get_or, ◌<◌, ◌≤◌}
use Rattle.std.specs.List.{list_all, list_any}
use Rattle.std.specs.Str.{bytes_eq}
use Rattle.std.proofs.Math.Dec.{eqb-suc-zero}
use Rattle.std.proofs.lemmas.List.{take_more, take_all, map-append}
use Rattle.std.proofs.Math.ListN.{drop_of_length-le}
use Rattle.quiet_meaning.specs.NodeAxes.StepWalks.Nodes.{Focus, Nodes, step_nodes}
use Rattle.xt_names.specs.declared.kinds.CompareOp.{CompareOp}
use Rattle.xt_types.specs.declared.axes.Axis.{Axis}
use Rattle.xt_types.specs.declared.node_tests.Test.{Test}
use Rattle.xt_syntax.specs.declared.exprs.Expr.{Expr}
use Rattle.xt_syntax.specs.declared.exprs.Expr.TheVariants as expr
use Rattle.xt_syntax.specs.declared.exprs.Expr.TheVariants.{outs-General, outs-Slash}
use Rattle.xt_syntax.specs.declared.exprs.Clause.TheViews.{out-Expr, out-roll-Expr}
use Rattle.xt_syntax.specs.declared.exprs.Clause.TheOpen.{Int, Str, Or, And, General, Slash, Step, Call}
use Rattle.xt_forms.specs.declared.quiet_calls.QuietCall.{QuietCall}
use Rattle.xt_forms.specs.declared.quiet_calls.QuietCall.TheVariants as call
use Rattle.quiet_meaning.specs.Quietly.{Quietly, integer, literal, position, last, text_of, count_of, attribute, step, path, condition, numeric, conjunction, other, quietly_of, is_truth, is_numeric, is_predicate, is_pattern_form, is_conjunction, holds_at, holds_all, any_of, all_of, is_attribute_name, is_bare, stepped, with_step, slashed, compared_with_integer, compared_with_literal, compared_with_last, compared, called, called_with, some_in, counted, call_gives}
use Rattle.quiet_meaning.proofs.FormLemmas.{gives_quietly, rolled_quietly, each_expr}
use Rattle.pattern_forms.specs.Forms.{PredicateForm}
use Rattle.pattern_forms.specs.Forms as forms
use Rattle.pattern_forms.specs.Kinds.{Layer, form_of, form_in, is_conjunct, Tally}
use Rattle.xt_names.proofs.ListLemmas.{drop_next}

pub truth-of : (q : Quietly) → forms.is_truth (form_of q) ≡ is_truth q
unfolding form_of forms.is_truth is_truth
truth-of (integer n) = refl
truth-of (literal t) = refl
truth-of position = refl
truth-of last = refl
truth-of (text_of g) = refl
truth-of (count_of g) = refl
truth-of (attribute g) = refl
truth-of (step g) = refl
truth-of (path g) = refl
truth-of (condition c) = refl
truth-of (numeric c) = refl
truth-of (conjunction c) = refl
truth-of other = refl

pub numeric-of : (q : Quietly) → forms.is_numeric (form_of q) ≡ is_numeric q
unfolding form_of forms.is_numeric is_numeric
numeric-of (integer n) = refl
numeric-of (literal t) = refl
numeric-of position = refl
numeric-of last = refl
numeric-of (text_of g) = refl
numeric-of (count_of g) = refl
numeric-of (attribute g) = refl
numeric-of (step g) = refl
numeric-of (path g) = refl
numeric-of (condition c) = refl
numeric-of (numeric c) = refl
numeric-of (conjunction c) = refl
numeric-of other = refl

pub predicate-of : (q : Quietly) → forms.is_predicate (form_of q) ≡ is_predicate q
unfolding form_of forms.is_predicate is_predicate
predicate-of (integer n) = refl
predicate-of (literal t) = refl
predicate-of position = refl
predicate-of last = refl
predicate-of (text_of g) = refl
predicate-of (count_of g) = refl
predicate-of (attribute g) = refl
predicate-of (step g) = refl
predicate-of (path g) = refl
predicate-of (condition c) = refl
predicate-of (numeric c) = refl
predicate-of (conjunction c) = refl
predicate-of other = refl

pub allowed-of : (q : Quietly) → forms.is_allowed (form_of q) ≡ is_pattern_form q
unfolding form_of forms.is_allowed is_pattern_form
allowed-of (integer n) = refl
allowed-of (literal t) = refl
allowed-of position = refl
allowed-of last = refl
allowed-of (text_of g) = refl
allowed-of (count_of g) = refl
allowed-of (attribute g) = refl
allowed-of (step g) = refl
allowed-of (path g) = refl
allowed-of (condition c) = refl
allowed-of (numeric c) = refl
allowed-of (conjunction c) = refl
allowed-of other = refl

path-with : (g : _) (q : Quietly) → form_of (with_step g q) ≡ forms.path_as (forms.is_path (form_of q)) forms.Path
unfolding form_of forms.is_path with_step
path-with g (integer n) = refl
path-with g (literal t) = refl
path-with g position = refl
path-with g last = refl
path-with g (text_of h) = refl
path-with g (count_of h) = refl
path-with g (attribute h) = refl
path-with g (step h) = refl
path-with g (path h) = refl
path-with g (condition c) = refl
path-with g (numeric c) = refl
path-with g (conjunction c) = refl
path-with g other = refl

pub slashed-of : (a b : Quietly) → form_of (slashed a b) ≡ forms.slashed (form_of a) (form_of b)
unfolding form_of forms.slashed slashed
slashed-of a (integer n) = refl
slashed-of a (literal t) = refl
slashed-of a position = refl
slashed-of a last = refl
slashed-of a (text_of g) = refl
slashed-of a (count_of g) = refl
slashed-of a (attribute g) = path-with g a
slashed-of a (step g) = path-with g a
slashed-of a (path g) = refl
slashed-of a (condition c) = refl
slashed-of a (numeric c) = refl
slashed-of a (conjunction c) = refl
slashed-of a other = refl

integer-with : (op : CompareOp) (k : ℤ) (q : Quietly) → form_of (compared_with_integer op k q) ≡ forms.with_integer (form_of q)
unfolding form_of forms.with_integer compared_with_integer
integer-with op k (integer n) = refl
integer-with op k (literal t) = refl
integer-with op k position = refl
integer-with op k last = refl
integer-with op k (text_of g) = refl
integer-with op k (count_of g) = refl
integer-with op k (attribute g) = refl
integer-with op k (step g) = refl
integer-with op k (path g) = refl
integer-with op k (condition c) = refl
integer-with op k (numeric c) = refl
integer-with op k (conjunction c) = refl
integer-with op k other = refl

literal-with : (op : CompareOp) (k : List ℕ) (q : Quietly) → form_of (compared_with_literal op k q) ≡ forms.with_literal (form_of q)
unfolding form_of forms.with_literal compared_with_literal
literal-with op k (integer n) = refl
literal-with op k (literal t) = refl
literal-with op k position = refl
literal-with op k last = refl
literal-with op k (text_of g) = refl
literal-with op k (count_of g) = refl
literal-with op k (attribute g) = refl
literal-with op k (step g) = refl
literal-with op k (path g) = refl
literal-with op k (condition c) = refl
literal-with op k (numeric c) = refl
literal-with op k (conjunction c) = refl
literal-with op k other = refl

last-with : (op : CompareOp) (q : Quietly) → form_of (compared_with_last op q) ≡ forms.with_last (form_of q)
unfolding form_of forms.with_last compared_with_last
last-with op (integer n) = refl
last-with op (literal t) = refl
last-with op position = refl
last-with op last = refl
last-with op (text_of g) = refl
last-with op (count_of g) = refl
last-with op (attribute g) = refl
last-with op (step g) = refl
last-with op (path g) = refl
last-with op (condition c) = refl
last-with op (numeric c) = refl
last-with op (conjunction c) = refl
last-with op other = refl

pub compared-of : (op : CompareOp) (a b : Quietly) → form_of (compared op a b) ≡ forms.compared (form_of a) (form_of b)
unfolding form_of forms.compared compared
compared-of op a (integer n) = integer-with op n a
compared-of op a (literal t) = literal-with op t a
compared-of op a position = refl
compared-of op a last = last-with op a
compared-of op a (text_of g) = refl
compared-of op a (count_of g) = refl
compared-of op a (attribute g) = refl
compared-of op a (step g) = refl
compared-of op a (path g) = refl
compared-of op a (condition c) = refl
compared-of op a (numeric c) = refl
compared-of op a (conjunction c) = refl
compared-of op a other = refl

any-go : (b : Bool) (c : Focus → Bool) → form_of (cond b (condition c) other) ≡ forms.condition_if b
unfolding form_of
any-go true c = refl
any-go false c = refl

pub any-of : (qs : List Quietly) → form_of (any_of qs) ≡ forms.condition_if (list_all is_truth qs)
any-of qs = any-go (list_all is_truth qs) (λ f. list_any (λ q. holds_at q f) qs)

all-go : (b d : Bool) (c : Focus → Bool) → form_of (cond b (condition c) (cond d (conjunction c) other)) ≡ cond b forms.Condition (cond d forms.Conjunction forms.Other)
unfolding form_of
all-go true d c = refl
all-go false true c = refl
all-go false false c = refl

pub all-of : (qs : List Quietly) → form_of (all_of qs) ≡ forms.all_form (list_all is_truth qs) (list_all is_conjunct qs) (length (filter is_numeric qs))
all-of qs = all-go (list_all is_truth qs) (is_conjunction qs) (holds_all qs)

step-go : (b d : Bool) (g h : Nodes) → form_of (cond b (attribute g) (cond d (step h) other)) ≡ cond b forms.Attribute (cond d forms.Step forms.Other)
unfolding form_of
step-go true d g h = refl
step-go false true g h = refl
step-go false false g h = refl

pub step-of : (along : Axis) (wanted : Test) (qs : List Quietly) → form_of (stepped along wanted qs) ≡ cond (is_attribute_name along wanted qs) forms.Attribute (cond (list_all is_predicate qs) forms.Step forms.Other)
step-of along wanted qs = step-go (is_attribute_name along wanted qs) (list_all is_predicate qs) (step_nodes along wanted []) (step_nodes along wanted (map holds_at qs))

called-of : (f : QuietCall) (local : List ℕ) → form_of (called f local) ≡ forms.called f
unfolding form_of called forms.called
called-of call.Constant local = refl
called-of call.Not local = refl
called-of call.Position local = refl
called-of call.Last local = refl
called-of call.Exists local = refl
called-of call.Count local = refl
called-of call.NameOf local = refl
called-of call.Other local = refl

some-of : (b : Bool) (q : Quietly) → form_of (some_in b q) ≡ forms.condition_if (forms.is_path (form_of q))
unfolding form_of some_in forms.is_path
some-of b (integer n) = refl
some-of b (literal t) = refl
some-of b position = refl
some-of b last = refl
some-of b (text_of g) = refl
some-of b (count_of g) = refl
some-of b (attribute g) = refl
some-of b (step g) = refl
some-of b (path g) = refl
some-of b (condition c) = refl
some-of b (numeric c) = refl
some-of b (conjunction c) = refl
some-of b other = refl

count-of : (q : Quietly) → form_of (counted q) ≡ forms.path_as (forms.is_path (form_of q)) forms.CountOf
unfolding form_of counted forms.is_path
count-of (integer n) = refl
count-of (literal t) = refl
count-of position = refl
count-of last = refl
count-of (text_of g) = refl
count-of (count_of g) = refl
count-of (attribute g) = refl
count-of (step g) = refl
count-of (path g) = refl
count-of (condition c) = refl
count-of (numeric c) = refl
count-of (conjunction c) = refl
count-of other = refl

called_with-of : (f : QuietCall) (local : List ℕ) (a : Quietly) → form_of (called_with f local a) ≡ forms.called_with f (form_of a)
unfolding form_of called_with forms.called_with
called_with-of call.Constant local a = refl
called_with-of call.Not local a = any-go (is_truth a) (λ f. not (holds_at a f)) ∙ ap forms.condition_if (sym (truth-of a))
called_with-of call.Position local a = refl
called_with-of call.Last local a = refl
called_with-of call.Exists local a = some-of (bytes_eq local (codes "exists")) a
called_with-of call.Count local a = count-of a
called_with-of call.NameOf local a = refl
called_with-of call.Other local a = refl

pub call-none : (f : QuietCall) (local : List ℕ) → form_of (call_gives f local []) ≡ forms.called f
unfolding call_gives
call-none f local = called-of f local

pub call-one : (f : QuietCall) (local : List ℕ) (a : Quietly) → form_of (call_gives f local (a ∷ [])) ≡ forms.called_with f (form_of a)
unfolding call_gives
call-one f local a = called_with-of f local a

pub call-more : (f : QuietCall) (local : List ℕ) (a b : Quietly) (qs : List Quietly) → form_of (call_gives f local (a ∷ b ∷ qs)) ≡ forms.Other
unfolding call_gives form_of
call-more f local a b qs = refl

layer-is : (x : Layer) → form_in x ≡ form_of (gives_quietly x)
unfolding form_of
layer-is (Int n) = refl
layer-is (Str t) = refl
layer-is (Or all) = refl
layer-is (And all) = refl
layer-is (General op a b) = sym (compared-of op (quietly_of a) (quietly_of b))
layer-is (Slash a b) = sym (slashed-of (quietly_of a) (quietly_of b))
layer-is (Step along wanted tests) = refl
layer-is (Call name args) = refl
layer-is _ = refl

pub in-is : (e : Expr) → form_in (out-Expr e) ≡ form_of (quietly_of e)
in-is = each_expr (λ e. form_in (out-Expr e) ≡ form_of (quietly_of e)) (λ x. ap form_in (out-roll-Expr x) ∙ layer-is x ∙ ap form_of (sym (rolled_quietly x)))

pub ruleset forms_of = (in-is, any-of, all-of, step-of, call-none, call-one, call-more, truth-of, numeric-of, predicate-of, allowed-of)

pub tally-none : Tally [] true true 0
tally-none = record { are_truths = refl; are_allowed = refl; count = refl }

all-snoc : (p : Quietly → Bool) (qs : List Quietly) (q : Quietly) → list_all p (qs ++ q ∷ []) ≡ list_all p qs && p q
all-snoc p [] q = and_true (p q)
  where
    and_true : (b : Bool) → b && true ≡ true && b
    and_true true = refl
    and_true false = refl
all-snoc p (x ∷ qs) q = go (p x) (all-snoc p qs q)
  where
    go : (b : Bool) → list_all p (qs ++ q ∷ []) ≡ list_all p qs && p q → b && list_all p (qs ++ q ∷ []) ≡ (b && list_all p qs) && p q
    go true e = e
    go false e = refl

count-snoc : (qs : List Quietly) (q : Quietly) → length (filter is_numeric (qs ++ q ∷ [])) ≡ length (filter is_numeric qs) + cond (is_numeric q) 1 0
count-snoc [] q = go (is_numeric q)
  where
    go : (b : Bool) → length (cond b (q ∷ []) []) ≡ 0 + cond b 1 0
    go true = refl
    go false = refl
count-snoc (x ∷ qs) q = go (is_numeric x) (count-snoc qs q)
  where
    go : (b : Bool) → length (filter is_numeric (qs ++ q ∷ [])) ≡ length (filter is_numeric qs) + cond (is_numeric q) 1 0 → length (cond b (x ∷ filter is_numeric (qs ++ q ∷ [])) (filter is_numeric (qs ++ q ∷ []))) ≡ length (cond b (x ∷ filter is_numeric qs) (filter is_numeric qs)) + cond (is_numeric q) 1 0
    go true e = let l : length (x ∷ filter is_numeric (qs ++ q ∷ [])) ≡ 1 + length (filter is_numeric (qs ++ q ∷ [])) = omega arith in let r : length (x ∷ filter is_numeric qs) ≡ 1 + length (filter is_numeric qs) = omega arith in omega arith
    go false e = e

and_false : (b : Bool) → false ≡ b && false
and_false true = refl
and_false false = refl

and_yes : (b c : Bool) → b ≡ c → b ≡ c && true
and_yes true c e = e ∙ go c
  where
    go : (c : Bool) → c ≡ c && true
    go true = refl
    go false = refl
and_yes false c e = e ∙ go c
  where
    go : (c : Bool) → c ≡ c && true
    go true = refl
    go false = refl

numeric_is : (q : Quietly) → is_numeric q ≡ true → (is_truth q ≡ false) × (is_conjunct q ≡ true)
unfolding is_numeric is_truth
numeric_is (integer n) e = absurd cc
numeric_is (literal t) e = absurd cc
numeric_is position e = absurd cc
numeric_is last e = absurd cc
numeric_is (text_of g) e = absurd cc
numeric_is (count_of g) e = absurd cc
numeric_is (attribute g) e = absurd cc
numeric_is (step g) e = absurd cc
numeric_is (path g) e = absurd cc
numeric_is (condition c) e = absurd cc
numeric_is (numeric c) e = (refl, refl)
numeric_is (conjunction c) e = absurd cc
numeric_is other e = absurd cc

pub tally-numeric : (qs : List Quietly) (q : Quietly) (b c : Bool) (n : ℕ) → Tally qs b c n → is_numeric q ≡ true → Tally (qs ++ q ∷ []) false c (n + 1)
tally-numeric qs q b c n t e =
    let k = numeric_is q e in
    record { are_truths = rw (all-snoc is_truth qs q, k.0) (and_false (list_all is_truth qs)); are_allowed = rw (all-snoc is_conjunct qs q, k.1) (and_yes c (list_all is_conjunct qs) t.are_allowed); count = rw (count-snoc qs q, e) (ap (λ x. x + 1) t.count) }

pub tally-truth : (qs : List Quietly) (q : Quietly) (b c : Bool) (n : ℕ) → Tally qs b c n → is_numeric q ≡ false → is_truth q ≡ true → Tally (qs ++ q ∷ []) b c n
tally-truth qs q b c n t e k = record { are_truths = rw (all-snoc is_truth qs q, k) (and_yes b (list_all is_truth qs) t.are_truths); are_allowed = rw (all-snoc is_conjunct qs q, k) (and_yes c (list_all is_conjunct qs) t.are_allowed); count = rw (count-snoc qs q, e) (t.count ∙ omega arith) }

pub tally-other : (qs : List Quietly) (q : Quietly) (b c : Bool) (n : ℕ) → Tally qs b c n → is_numeric q ≡ false → is_truth q ≡ false → Tally (qs ++ q ∷ []) false false n
tally-other qs q b c n t e k = record { are_truths = rw (all-snoc is_truth qs q, k) (and_false (list_all is_truth qs)); are_allowed = rw (all-snoc is_conjunct qs q, k, e) (and_false (list_all is_conjunct qs)); count = rw (count-snoc qs q, e) (t.count ∙ omega arith) }

pub tally_numeric : (qs : List Quietly) (q : Quietly) (f : PredicateForm) (b c : Bool) (n : ℕ) → forms.is_numeric f ≡ true → Tally qs b c n → f ≡ form_of q → Tally (qs ++ q ∷ []) false c (n + 1)
tally_numeric qs q f b c n e t g = tally-numeric qs q b c n t (sym (numeric-of q) ∙ ap forms.is_numeric (sym g) ∙ e)

pub tally_truth : (qs : List Quietly) (q : Quietly) (f : PredicateForm) (b c : Bool) (n : ℕ) → forms.is_numeric f ≡ false → forms.is_truth f ≡ true → Tally qs b c n → f ≡ form_of q → Tally (qs ++ q ∷ []) b c n
tally_truth qs q f b c n e k t g = tally-truth qs q b c n t (sym (numeric-of q) ∙ ap forms.is_numeric (sym g) ∙ e) (sym (truth-of q) ∙ ap forms.is_truth (sym g) ∙ k)

pub tally_other : (qs : List Quietly) (q : Quietly) (f : PredicateForm) (b c : Bool) (n : ℕ) → forms.is_numeric f ≡ false → forms.is_truth f ≡ false → Tally qs b c n → f ≡ form_of q → Tally (qs ++ q ∷ []) false false n
tally_other qs q f b c n e k t g = tally-other qs q b c n t (sym (numeric-of q) ∙ ap forms.is_numeric (sym g) ∙ e) (sym (truth-of q) ∙ ap forms.is_truth (sym g) ∙ k)

pub ruleset tallies = (tally_numeric, tally_truth, tally_other)

pub bare-is : (es : List Expr) → is_bare (map quietly_of es) ≡ (length es == 0)
bare-is [] = refl
bare-is (x ∷ es) = sym (eqb-suc-zero (length es))

pub ruleset bares = (bare-is)

pub ruleset steps_of = (step-of)

this : (e : Expr) (f : PredicateForm) → f ≡ form_in (out-Expr e) → f ≡ form_of (quietly_of e)
this e f g = g ∙ in-is e

first-of : (p : Quietly → Bool) (all : List Expr) (i : ℕ) (e : Expr) → i < length all → e ≡ get_or all i e → list_all p (map quietly_of (drop i all)) ≡ (p (quietly_of e) && list_all p (map quietly_of (drop (i + 1) all)))
first-of p all i e h k = ap (λ xs. list_all p (map quietly_of xs)) (drop_next all i e h ∙ ap (λ x. x ∷ drop (i + 1) all) (sym k))

pub any_stops : (all : List Expr) (i : ℕ) (e : Expr) (f : PredicateForm) → i < length all → e ≡ get_or all i e → f ≡ form_in (out-Expr e) → forms.is_truth f ≡ false → list_all is_truth (map quietly_of (drop i all)) ≡ list_all is_truth (map quietly_of all) → forms.Other ≡ form_of (any_of (map quietly_of all))
any_stops all i e f h k g n v =
    let t : is_truth (quietly_of e) ≡ false = sym (truth-of (quietly_of e)) ∙ ap forms.is_truth (sym (this e f g)) ∙ n in
    let a : list_all is_truth (map quietly_of all) ≡ false = sym v ∙ first-of is_truth all i e h k ∙ ap (λ b. b && list_all is_truth (map quietly_of (drop (i + 1) all))) t in
    sym (any-of (map quietly_of all) ∙ ap forms.condition_if a)

pub any_goes : (all : List Expr) (i : ℕ) (e : Expr) (f : PredicateForm) → i < length all → e ≡ get_or all i e → f ≡ form_in (out-Expr e) → forms.is_truth f ≡ true → list_all is_truth (map quietly_of (drop i all)) ≡ list_all is_truth (map quietly_of all) → list_all is_truth (map quietly_of (drop (i + 1) all)) ≡ list_all is_truth (map quietly_of all)
any_goes all i e f h k g n v =
    let t : is_truth (quietly_of e) ≡ true = sym (truth-of (quietly_of e)) ∙ ap forms.is_truth (sym (this e f g)) ∙ n in
    sym (first-of is_truth all i e h k ∙ ap (λ b. b && list_all is_truth (map quietly_of (drop (i + 1) all))) t) ∙ v

pub any_ends : (all : List Expr) (i : ℕ) → length all ≤ i → list_all is_truth (map quietly_of (drop i all)) ≡ list_all is_truth (map quietly_of all) → forms.Condition ≡ form_of (any_of (map quietly_of all))
any_ends all i h v =
    let a : list_all is_truth (map quietly_of all) ≡ true = sym v ∙ ap (λ xs. list_all is_truth (map quietly_of xs)) (drop_of_length-le all h) in
    sym (any-of (map quietly_of all) ∙ ap forms.condition_if a)

pub tested_stops : (all : List Expr) (i : ℕ) (e : Expr) (f : PredicateForm) → i < length all → e ≡ get_or all i e → f ≡ form_in (out-Expr e) → forms.is_predicate f ≡ false → list_all is_predicate (map quietly_of (drop i all)) ≡ list_all is_predicate (map quietly_of all) → forms.Other ≡ cond (list_all is_predicate (map quietly_of all)) forms.Step forms.Other
tested_stops all i e f h k g n v =
    let t : is_predicate (quietly_of e) ≡ false = sym (predicate-of (quietly_of e)) ∙ ap forms.is_predicate (sym (this e f g)) ∙ n in
    let a : list_all is_predicate (map quietly_of all) ≡ false = sym v ∙ first-of is_predicate all i e h k ∙ ap (λ b. b && list_all is_predicate (map quietly_of (drop (i + 1) all))) t in
    sym (ap (λ b. cond b forms.Step forms.Other) a)

pub tested_goes : (all : List Expr) (i : ℕ) (e : Expr) (f : PredicateForm) → i < length all → e ≡ get_or all i e → f ≡ form_in (out-Expr e) → forms.is_predicate f ≡ true → list_all is_predicate (map quietly_of (drop i all)) ≡ list_all is_predicate (map quietly_of all) → list_all is_predicate (map quietly_of (drop (i + 1) all)) ≡ list_all is_predicate (map quietly_of all)
tested_goes all i e f h k g n v =
    let t : is_predicate (quietly_of e) ≡ true = sym (predicate-of (quietly_of e)) ∙ ap forms.is_predicate (sym (this e f g)) ∙ n in
    sym (first-of is_predicate all i e h k ∙ ap (λ b. b && list_all is_predicate (map quietly_of (drop (i + 1) all))) t) ∙ v

pub tested_ends : (all : List Expr) (i : ℕ) → length all ≤ i → list_all is_predicate (map quietly_of (drop i all)) ≡ list_all is_predicate (map quietly_of all) → forms.Step ≡ cond (list_all is_predicate (map quietly_of all)) forms.Step forms.Other
tested_ends all i h v =
    let a : list_all is_predicate (map quietly_of all) ≡ true = sym v ∙ ap (λ xs. list_all is_predicate (map quietly_of xs)) (drop_of_length-le all h) in
    sym (ap (λ b. cond b forms.Step forms.Other) a)

-- the conjuncts, one after the other
map-take : (all : List Expr) (i : ℕ) (e : Expr) → i < length all → e ≡ get_or all i e → map quietly_of (take (i + 1) all) ≡ map quietly_of (take i all) ++ quietly_of e ∷ []
map-take all i e h k = ap (map quietly_of) (take_more all i e h ∙ ap (λ x. take i all ++ x ∷ []) (sym k)) ∙ map-append quietly_of (take i all) (e ∷ [])

pub every_goes : (all : List Expr) (i : ℕ) (e : Expr) (f : PredicateForm) (b c d g : Bool) (n m : ℕ) → i < length all → e ≡ get_or all i e → f ≡ form_in (out-Expr e) → Tally (map quietly_of (take i all)) b c n → ((qs : List Quietly) (q : Quietly) → Tally qs b c n → f ≡ form_of q → Tally (qs ++ q ∷ []) d g m) → Tally (map quietly_of (take (i + 1) all)) d g m
every_goes all i e f b c d g n m h k s t more = subst (λ x. Tally x d g m) (sym (map-take all i e h k)) (more (map quietly_of (take i all)) (quietly_of e) t (this e f s))

pub every_ends : (all : List Expr) (i : ℕ) (f : PredicateForm) (b c : Bool) (n : ℕ) → length all ≤ i → Tally (map quietly_of (take i all)) b c n → f ≡ forms.all_form b c n → f ≡ form_of (all_of (map quietly_of all))
every_ends all i f b c n h t g =
    let s : Tally (map quietly_of all) b c n = subst (λ x. Tally (map quietly_of x) b c n) (take_all i all h) t in
    g ∙ rw (s.are_truths, s.are_allowed, s.count) (sym (all-of (map quietly_of all)))

-- calls, by the number of their arguments
pub call_empty : (f : QuietCall) (local : List ℕ) (args : List Expr) → length args < 1 → form_of (call_gives f local (map quietly_of args)) ≡ forms.called f
call_empty f local [] h = call-none f local
call_empty f local (a ∷ args) h = absurd (omega arith)

pub call_only : (f : QuietCall) (local : List ℕ) (args : List Expr) (a : Expr) → 1 ≤ length args → length args < 2 → a ≡ get_or args 0 a → form_of (call_gives f local (map quietly_of args)) ≡ forms.called_with f (form_of (quietly_of a))
call_only f local [] a l h e = absurd (omega arith)
call_only f local (x ∷ []) a l h e = rw e (call-one f local (quietly_of x))
call_only f local (x ∷ y ∷ args) a l h e = absurd (omega arith)

pub call_many : (f : QuietCall) (local : List ℕ) (args : List Expr) → 2 ≤ length args → form_of (call_gives f local (map quietly_of args)) ≡ forms.Other
call_many f local [] h = absurd (omega arith)
call_many f local (x ∷ []) h = absurd (omega arith)
call_many f local (x ∷ y ∷ args) h = call-more f local (quietly_of x) (quietly_of y) (map quietly_of args)

pub allowed_is : (e : Expr) (f : PredicateForm) → f ≡ form_in (out-Expr e) → forms.is_allowed f ≡ is_pattern_form (quietly_of e)
allowed_is e f g = ap forms.is_allowed (this e f g) ∙ allowed-of (quietly_of e)

pub general_in : (e a b x y : Expr) (op : CompareOp) (r f g : PredicateForm) → e ≡ expr.General op a b → x ≡ a → y ≡ b → f ≡ form_in (out-Expr x) → g ≡ form_in (out-Expr y) → r ≡ forms.compared f g → r ≡ form_in (out-Expr e)
general_in e a b x y op r f g i h k u v w =
    w ∙ ap₂ forms.compared (this x f u ∙ ap (λ z. form_of (quietly_of z)) h) (this y g v ∙ ap (λ z. form_of (quietly_of z)) k) ∙ sym (ap form_in (ap out-Expr i ∙ outs-General op a b))

pub slash_in : (e a b x y : Expr) (r f g : PredicateForm) → e ≡ expr.Slash a b → x ≡ a → y ≡ b → f ≡ form_in (out-Expr x) → g ≡ form_in (out-Expr y) → r ≡ forms.slashed f g → r ≡ form_in (out-Expr e)
slash_in e a b x y r f g i h k u v w =
    w ∙ ap₂ forms.slashed (this x f u ∙ ap (λ z. form_of (quietly_of z)) h) (this y g v ∙ ap (λ z. form_of (quietly_of z)) k) ∙ sym (ap form_in (ap out-Expr i ∙ outs-Slash a b))
