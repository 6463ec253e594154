-- By which path a predicate is decided, and that it is one.
use Rattle.std.proofs.Common.{◌≡◌, ℕ, ℤ, List, [], ◌∷◌, map, refl, sym, Bool, true, false, subst, codes}
use Rattle.std.specs.Prelude.{if◌then◌else◌, not, Some, None}
use Rattle.std.specs.List.{list_all}
use Rattle.std.specs.Str.{bytes_eq}
use Rattle.xt_names.specs.declared.kinds.CompareOp.{CompareOp}
use Rattle.xt_types.specs.declared.axes.Axis.{Axis}
use Rattle.xt_types.specs.declared.node_tests.Test.{Test}
use Rattle.xt_syntax.specs.declared.exprs.Expr.{Expr}
use Rattle.xt_syntax.specs.declared.exprs.Clause.TheViews.{out-Expr}
use Rattle.xt_syntax.specs.declared.exprs.Clause.TheFolds.{fold_out-Expr}
use Rattle.xt_syntax.specs.declared.exprs.Clause.TheOpen.{General, Slash, Step, Call}
use Rattle.xt_forms.specs.Quiet.{quiet_call}
use Rattle.xt_forms.specs.declared.quiet_calls.QuietCall.{QuietCall}
use Rattle.xt_forms.specs.declared.quiet_calls.QuietCall.TheVariants as call
use Rattle.node_axes.specs.StepWalks.Nodes.{Focus, Nodes}
use Rattle.quiet_meaning.specs.Quietly.{Quietly, integer, literal, position, last, text_of, count_of, attribute, step, path, condition, other, quietly_of, holds_at, is_pattern_form, is_truth, is_predicate, is_attribute_name, stepped, slashed, with_step, compared, compared_with_integer, compared_with_literal, compared_with_last, negated, some_in, counted, called_with, call_gives}
use Rattle.quiet_meaning.specs.Paths.{is_path_form}
use Rattle.quiet_meaning.proofs.FormLemmas.{gives_quietly}
use Rattle.quiet_meaning.proofs.HoldLemmas.{negated_is, exists_is, slashed_form, stepped_form}
use Rattle.quiet_eval.specs.Subjects.{Layer, is_not, only, negated_in, negated_part, subject_of, subject_part, decided_by, path_part, is_junction_in, is_junction}

pub quietly_out : (e : Expr) → quietly_of e ≡ gives_quietly (out-Expr e)
quietly_out e = fold_out-Expr _ _ _ _ _ _ _ _ _ _ _ _ _ _ _ _ _ _ e

-- not()

abbrev IsNegated : Expr → Quietly → Focus → Type 0
IsNegated p q f = (is_pattern_form (quietly_of p) ≡ true) × (not (holds_at (quietly_of p) f) ≡ holds_at q f)

negated_call : (k : QuietCall) (local : List ℕ) (args : List Expr) (p : Expr) (f : Focus) → (if is_not k then only args else None) ≡ Some p
    → is_pattern_form (call_gives k local (map quietly_of args)) ≡ true → IsNegated p (call_gives k local (map quietly_of args)) f
unfolding is_not call_gives called_with
negated_call call.Not local [] p f h g = absurd cc
negated_call call.Not local (a ∷ []) p f h g = let e : a ≡ p = cc in subst (λ (z : Expr). IsNegated z (negated (quietly_of a)) f) e (negated_is (quietly_of a) f g)
negated_call call.Not local (a ∷ b ∷ more) p f h g = absurd cc
negated_call k local args p f h g = absurd cc

negated_layer : (x : Layer) (p : Expr) (f : Focus) → negated_in x ≡ Some p → is_pattern_form (gives_quietly x) ≡ true → IsNegated p (gives_quietly x) f
negated_layer (Call name args) p f h g = negated_call (quiet_call name) name.local args p f h g
negated_layer x p f h g = absurd cc

pub negated_holds : (e p : Expr) (f : Focus) → negated_part e ≡ Some p → is_pattern_form (quietly_of e) ≡ true → IsNegated p (quietly_of e) f
negated_holds e p f h g = subst (λ (q : Quietly). IsNegated p q f) (sym (quietly_out e)) (negated_layer (out-Expr e) p f h (subst (λ (q : Quietly). is_pattern_form q ≡ true) (quietly_out e) g))

-- what is compared

unfoldable pub is_operand : Quietly → Bool
is_operand position = true
is_operand last = true
is_operand (text_of g) = true
is_operand (count_of g) = true
is_operand (attribute g) = true
is_operand (step g) = true
is_operand (path g) = true
is_operand q = false

pub integer_operand : (op : CompareOp) (k : ℤ) (a : Quietly) → is_pattern_form (compared_with_integer op k a) ≡ true → is_operand a ≡ true
unfolding compared_with_integer is_pattern_form is_operand
integer_operand op k position h = refl
integer_operand op k last h = refl
integer_operand op k (count_of g) h = refl
integer_operand op k (attribute g) h = refl
integer_operand op k a h = absurd cc

pub literal_operand : (op : CompareOp) (t : List ℕ) (a : Quietly) → is_pattern_form (compared_with_literal op t a) ≡ true → is_operand a ≡ true
unfolding compared_with_literal is_pattern_form is_operand
literal_operand op t (text_of g) h = refl
literal_operand op t (attribute g) h = refl
literal_operand op t (step g) h = refl
literal_operand op t (path g) h = refl
literal_operand op t a h = absurd cc

pub last_operand : (op : CompareOp) (a : Quietly) → is_pattern_form (compared_with_last op a) ≡ true → is_operand a ≡ true
unfolding compared_with_last is_pattern_form is_operand
last_operand op position h = refl
last_operand op a h = absurd cc

pub operand : (op : CompareOp) (a b : Quietly) → is_pattern_form (compared op a b) ≡ true → is_operand a ≡ true
unfolding compared is_pattern_form
operand op a (integer n) h = integer_operand op n a h
operand op a (literal t) h = literal_operand op t a h
operand op a last h = last_operand op a h
operand op a b h = absurd cc

-- one is a path where its form is compared

pub if_operand : (b : Bool) (c : Focus → Bool) → is_operand (if b then condition c else other) ≡ false
unfolding is_operand
if_operand true c = refl
if_operand false c = refl

pub some_operand : (b : Bool) (a : Quietly) → is_operand (some_in b a) ≡ false
unfolding is_operand some_in
some_operand b (attribute g) = refl
some_operand b (step g) = refl
some_operand b (path g) = refl
some_operand b a = refl

pub counted_path : (a : Quietly) → is_operand (counted a) ≡ true → is_path_form a ≡ true
unfolding is_operand counted is_path_form
counted_path (attribute g) h = refl
counted_path (step g) h = refl
counted_path (path g) h = refl
counted_path a h = absurd cc

pub no_truth : {G : Type 0} (b : Bool) → b ≡ false → b ≡ true → G
no_truth b e f = absurd cc

called_path : (k : QuietCall) (local : List ℕ) (a : Quietly) → is_operand (called_with k local a) ≡ true → is_path_form a ≡ true
unfolding called_with is_operand
called_path call.Not local a h = no_truth _ (if_operand (is_truth a) _) h
called_path call.Exists local a h = no_truth _ (some_operand (bytes_eq local (codes "exists")) a) h
called_path call.Count local a h = counted_path a h
called_path k local a h = absurd cc

pub call_path : (k : QuietCall) (local : List ℕ) (args : List Expr) (p : Expr) → only args ≡ Some p → is_operand (call_gives k local (map quietly_of args)) ≡ true → is_path_form (quietly_of p) ≡ true
unfolding call_gives
call_path k local [] p h g = absurd cc
call_path k local (a ∷ []) p h g = let e : a ≡ p = cc in subst (λ (z : Expr). is_path_form (quietly_of z) ≡ true) e (called_path k local (quietly_of a) g)
call_path k local (a ∷ b ∷ more) p h g = absurd cc

with_path : (g : Nodes) (a : Quietly) → is_operand (with_step g a) ≡ true → is_path_form (with_step g a) ≡ true
unfolding with_step is_operand is_path_form
with_path g (attribute h) e = refl
with_path g (step h) e = refl
with_path g (path h) e = refl
with_path g a e = absurd cc

pub slash_path : (a b : Quietly) → is_operand (slashed a b) ≡ true → is_path_form (slashed a b) ≡ true
unfolding slashed is_operand
slash_path a (attribute g) e = with_path g a e
slash_path a (step g) e = with_path g a e
slash_path a b e = absurd cc

pub step_path : (along : Axis) (wanted : Test) (qs : List Quietly) → is_operand (stepped along wanted qs) ≡ true → is_path_form (stepped along wanted qs) ≡ true
unfolding is_operand is_path_form
step_path along wanted qs h = by (is_attribute_name along wanted qs) (list_all is_predicate qs) _ _ h
  where
    by : (b d : Bool) (g k : Nodes) → is_operand (if b then attribute g else if d then step k else other) ≡ true → is_path_form (if b then attribute g else if d then step k else other) ≡ true
    by true d g k h = refl
    by false true g k h = refl
    by false false g k h = absurd cc

same_path_form : (e p : Expr) (q : Quietly) → quietly_of e ≡ q → Some e ≡ Some p → is_path_form q ≡ true → is_path_form (quietly_of p) ≡ true
same_path_form e p q is h g = let same : e ≡ p = cc in subst (λ (z : Expr). is_path_form (quietly_of z) ≡ true) same (subst (λ (z : Quietly). is_path_form z ≡ true) (sym is) g)

subject_layer : (e p : Expr) (x : Layer) → quietly_of e ≡ gives_quietly x → subject_of e x ≡ Some p → is_operand (gives_quietly x) ≡ true → is_path_form (quietly_of p) ≡ true
subject_layer e p (Call name args) is h g = call_path (quiet_call name) name.local args p h g
subject_layer e p (Slash a b) is h g = same_path_form e p _ is h (slash_path (quietly_of a) (quietly_of b) g)
subject_layer e p (Step along wanted tests) is h g = same_path_form e p _ is h (step_path along wanted (map quietly_of tests) g)
subject_layer e p x is h g = absurd cc

pub subject_is_path : (a p : Expr) (op : CompareOp) (b : Quietly) → subject_part a ≡ Some p → is_pattern_form (compared op (quietly_of a) b) ≡ true → is_path_form (quietly_of p) ≡ true
subject_is_path a p op b h g = subject_layer a p (out-Expr a) (quietly_out a) h (subst (λ (q : Quietly). is_operand q ≡ true) (quietly_out a) (operand op (quietly_of a) b g))

-- what stands alone

pub counted_not : {G : Type 0} (a : Quietly) → is_pattern_form (counted a) ≡ true → G
unfolding counted is_pattern_form
counted_not (attribute g) h = absurd cc
counted_not (step g) h = absurd cc
counted_not (path g) h = absurd cc
counted_not a h = absurd cc

exists_form : (k : QuietCall) (local : List ℕ) (a : Expr) (f : Focus) → (if is_not k then Some a else None) ≡ None → is_pattern_form (called_with k local (quietly_of a)) ≡ true → is_path_form (quietly_of a) ≡ true
unfolding is_not called_with is_pattern_form
exists_form call.Not local a f n g = absurd cc
exists_form call.Exists local a f n g = (exists_is (bytes_eq local (codes "exists")) (quietly_of a) f g).0
exists_form call.Count local a f n g = counted_not (quietly_of a) g
exists_form k local a f n g = absurd cc

pub exists_path : (k : QuietCall) (local : List ℕ) (args : List Expr) (p : Expr) (f : Focus) → only args ≡ Some p → (if is_not k then only args else None) ≡ None
    → is_pattern_form (call_gives k local (map quietly_of args)) ≡ true → is_path_form (quietly_of p) ≡ true
unfolding call_gives
exists_path k local [] p f h n g = absurd cc
exists_path k local (a ∷ []) p f h n g = let e : a ≡ p = cc in subst (λ (z : Expr). is_path_form (quietly_of z) ≡ true) e (exists_form k local a f n g)
exists_path k local (a ∷ b ∷ more) p f h n g = absurd cc

path_layer : (e p : Expr) (f : Focus) (x : Layer) → quietly_of e ≡ gives_quietly x → decided_by e x ≡ Some p → is_junction_in x ≡ false → negated_in x ≡ None
    → is_pattern_form (gives_quietly x) ≡ true → is_path_form (quietly_of p) ≡ true
path_layer e p f (General op a b) is h j n g = subject_is_path a p op (quietly_of b) h g
path_layer e p f (Call name args) is h j n g = exists_path (quiet_call name) name.local args p f h n g
path_layer e p f (Slash a b) is h j n g = same_path_form e p _ is h (slashed_form (quietly_of a) (quietly_of b) g)
path_layer e p f (Step along wanted tests) is h j n g = same_path_form e p _ is h (stepped_form along wanted (map quietly_of tests) g)
path_layer e p f x is h j n g = absurd cc

-- the path that decides is one
pub path_is_path : (e p : Expr) (f : Focus) → path_part e ≡ Some p → is_junction e ≡ false → negated_part e ≡ None → is_pattern_form (quietly_of e) ≡ true → is_path_form (quietly_of p) ≡ true
path_is_path e p f h j n g = path_layer e p f (out-Expr e) (quietly_out e) h j n (subst (λ (q : Quietly). is_pattern_form q ≡ true) (quietly_out e) g)
