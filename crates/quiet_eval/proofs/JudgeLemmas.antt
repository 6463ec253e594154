-- What decides a predicate that stands alone.
use Rattle.std.proofs.Common.{◌≡◌, ℕ, ℤ, List, [], ◌∷◌, map, refl, ap, sym, ◌∙◌, Bool, true, false, subst, codes, length}
use Rattle.std.specs.Prelude.{if◌then◌else◌, not, Option, Some, None}
use Rattle.std.specs.List.{list_all, list_any}
use Rattle.std.specs.Str.{bytes_eq}
use Rattle.xt_names.specs.declared.kinds.CompareOp.{CompareOp}
use Rattle.xt_tree.specs.Place.{Place}
use Rattle.xt_syntax.specs.declared.exprs.Expr.{Expr}
use Rattle.xt_syntax.specs.declared.exprs.Clause.TheViews.{out-Expr}
use Rattle.xt_syntax.specs.declared.exprs.Clause.TheOpen.{Int, Str, Or, And, General, Slash, Step, Call}
use Rattle.xt_atoms.specs.declared.atoms.Atom.TheVariants as atom
use Rattle.xt_forms.specs.Quiet.{quiet_call}
use Rattle.xt_forms.specs.declared.quiet_calls.QuietCall.{QuietCall}
use Rattle.xt_forms.specs.declared.quiet_calls.QuietCall.TheVariants as call
use Rattle.node_axes.specs.StepWalks.Nodes.{Focus}
use Rattle.quiet_meaning.specs.Values.{compares, some_compares, name_text}
use Rattle.quiet_meaning.specs.Quietly.{Quietly, integer, literal, position, last, text_of, count_of, attribute, step, path, condition, conjunction, other, quietly_of, holds_at, has_some, is_pattern_form, is_truth, any_of, all_of, holds_all, is_conjunction, stepped, slashed, compared, compared_with_integer, compared_with_literal, compared_with_last, negated, some_in, counted, called, called_with, call_gives}
use Rattle.quiet_meaning.specs.Paths.{is_path_form, nodes_of_form, number_in}
use Rattle.quiet_meaning.proofs.FormLemmas.{gives_quietly}
use Rattle.quiet_meaning.proofs.PathLemmas.{any_no_path, all_no_path, compared_no_path}
use Rattle.quiet_meaning.proofs.HoldLemmas.{exists_is, counted_is, node_compares}
use Rattle.quiet_eval.specs.Subjects.{Layer, is_not, is_last, only, subject_of, subject_part, nodes_at, number_at, call_number, subject_number}
use Rattle.quiet_eval.proofs.SubjectLemmas.{quietly_out, is_operand, integer_operand, literal_operand, if_operand, some_operand, counted_path, slash_path, step_path, counted_not, no_truth}

-- calls

other_is : is_operand other ≡ false
unfolding is_operand
other_is = refl

exists_call : (k : QuietCall) (local : List ℕ) (a : Expr) (f : Focus) → (if is_not k then Some a else None) ≡ None → is_pattern_form (called_with k local (quietly_of a)) ≡ true
    → (if bytes_eq local (codes "exists") then has_some (nodes_of_form (quietly_of a) f.node) else not (has_some (nodes_of_form (quietly_of a) f.node))) ≡ holds_at (called_with k local (quietly_of a)) f
unfolding is_not called_with is_pattern_form
exists_call call.Not local a f n g = absurd cc
exists_call call.Exists local a f n g = (exists_is (bytes_eq local (codes "exists")) (quietly_of a) f g).1
exists_call call.Count local a f n g = counted_not (quietly_of a) g
exists_call k local a f n g = absurd cc

pub exists_holds : (k : QuietCall) (local : List ℕ) (a : Expr) (ns : List Place) (f : Focus) → (if is_not k then only (a ∷ []) else None) ≡ None → is_pattern_form (call_gives k local (map quietly_of (a ∷ []))) ≡ true
    → ns ≡ nodes_at (only (a ∷ [])) f.node
    → (if bytes_eq local (codes "exists") then has_some ns else not (has_some ns)) ≡ holds_at (call_gives k local (map quietly_of (a ∷ []))) f
unfolding call_gives
exists_holds k local a ns f n g e = rw e (exists_call k local a f n g)

-- numbers

no_number : (q : Quietly) (f : Focus) → is_operand q ≡ false → number_in q f ≡ None
unfolding is_operand number_in
no_number position f h = absurd cc
no_number last f h = absurd cc
no_number (count_of g) f h = absurd cc
no_number q f h = refl

path_number : (q : Quietly) (f : Focus) → is_path_form q ≡ true → number_in q f ≡ None
unfolding is_path_form number_in
path_number (attribute g) f h = refl
path_number (step g) f h = refl
path_number (path g) f h = refl
path_number q f h = absurd cc

text_number : {G : Type 0} (op : CompareOp) (k : ℤ) (g : Place → List ℕ) → is_pattern_form (compared_with_integer op k (text_of g)) ≡ true → G
unfolding compared_with_integer is_pattern_form
text_number op k g h = absurd cc

called_number : (op : CompareOp) (k : ℤ) (c : QuietCall) (local : List ℕ) (count : ℕ) (f : Focus) → is_pattern_form (compared_with_integer op k (called c local)) ≡ true
    → Some (call_number c [] count f.position f.size) ≡ number_in (called c local) f
unfolding called is_last number_in compared_with_integer is_pattern_form
called_number op k call.Position local count f h = refl
called_number op k call.Last local count f h = refl
called_number op k c local count f h = absurd cc

pub not_operand : {G : Type 0} (q : Quietly) → is_operand q ≡ false → is_operand q ≡ true → G
not_operand q e h = absurd cc

counted_number : (op : CompareOp) (k : ℤ) (c : QuietCall) (local : List ℕ) (a : Quietly) (f : Focus) → is_operand (called_with c local a) ≡ true
    → Some (length (nodes_of_form a f.node)) ≡ number_in (called_with c local a) f
unfolding called_with is_operand
counted_number op k call.Not local a f h = no_truth _ (if_operand (is_truth a) _) h
counted_number op k call.Exists local a f h = no_truth _ (some_operand (bytes_eq local (codes "exists")) a) h
counted_number op k call.Count local a f h = counted_is a f (counted_path a h)
counted_number op k c local a f h = absurd cc

call_number_is : (op : CompareOp) (k : ℤ) (c : QuietCall) (local : List ℕ) (args : List Expr) (f : Focus) → is_pattern_form (compared_with_integer op k (call_gives c local (map quietly_of args))) ≡ true
    → Some (call_number c args (length (nodes_at (only args) f.node)) f.position f.size) ≡ number_in (call_gives c local (map quietly_of args)) f
unfolding call_gives
call_number_is op k c local [] f h = called_number op k c local 0 f h
call_number_is op k c local (a ∷ []) f h = counted_number op k c local (quietly_of a) f (integer_operand op k (called_with c local (quietly_of a)) h)
call_number_is op k c local (a ∷ b ∷ more) f h = not_operand other other_is (integer_operand op k other h)

pub any_operand : (qs : List Quietly) → is_operand (any_of qs) ≡ false
any_operand qs = if_operand (list_all is_truth qs) (λ f. list_any (λ q. holds_at q f) qs)

pub all_operand : (qs : List Quietly) → is_operand (all_of qs) ≡ false
unfolding is_operand
all_operand qs = by (list_all is_truth qs) (is_conjunction qs)
  where
    by : (b d : Bool) → is_operand (if b then condition (holds_all qs) else if d then conjunction (holds_all qs) else other) ≡ false
    by true d = refl
    by false true = refl
    by false false = refl

integer_result : (op : CompareOp) (k : ℤ) (a : Quietly) → is_operand (compared_with_integer op k a) ≡ false
unfolding compared_with_integer is_operand
integer_result op k position = refl
integer_result op k a = refl

literal_result : (op : CompareOp) (t : List ℕ) (a : Quietly) → is_operand (compared_with_literal op t a) ≡ false
unfolding compared_with_literal is_operand
literal_result op t position = refl
literal_result op t a = refl

last_result : (op : CompareOp) (a : Quietly) → is_operand (compared_with_last op a) ≡ false
unfolding compared_with_last is_operand
last_result op position = refl
last_result op a = refl

pub compared_result : (op : CompareOp) (a b : Quietly) → is_operand (compared op a b) ≡ false
unfolding compared is_operand
compared_result op a (integer n) = integer_result op n a
compared_result op a (literal t) = literal_result op t a
compared_result op a last = last_result op a
compared_result op a b = refl

number_layer : (op : CompareOp) (k : ℤ) (e : Expr) (x : Layer) (f : Focus) → is_pattern_form (compared_with_integer op k (gives_quietly x)) ≡ true
    → number_at x (length (nodes_at (subject_of e x) f.node)) f.position f.size ≡ number_in (gives_quietly x) f
unfolding number_in
number_layer op k e (Or all) f h = sym (no_number (any_of (map quietly_of all)) f (any_operand (map quietly_of all)))
number_layer op k e (And all) f h = sym (no_number (all_of (map quietly_of all)) f (all_operand (map quietly_of all)))
number_layer op k e (General o a b) f h = sym (no_number (compared o (quietly_of a) (quietly_of b)) f (compared_result o (quietly_of a) (quietly_of b)))
number_layer op k e (Slash a b) f h = sym (path_number (slashed (quietly_of a) (quietly_of b)) f (slash_path (quietly_of a) (quietly_of b) (integer_operand op k _ h)))
number_layer op k e (Step along wanted tests) f h = sym (path_number (stepped along wanted (map quietly_of tests)) f (step_path along wanted (map quietly_of tests) (integer_operand op k _ h)))
number_layer op k e (Call name args) f h = call_number_is op k (quiet_call name) name.local args f h
number_layer op k e x f h = refl

pub number_is : (op : CompareOp) (k : ℤ) (a : Expr) (f : Focus) → is_pattern_form (compared_with_integer op k (quietly_of a)) ≡ true
    → subject_number a (length (nodes_at (subject_part a) f.node)) f.position f.size ≡ number_in (quietly_of a) f
number_is op k a f h = number_layer op k a (out-Expr a) f (subst (λ (q : Quietly). is_pattern_form (compared_with_integer op k q) ≡ true) (quietly_out a) h) ∙ ap (λ (q : Quietly). number_in q f) (sym (quietly_out a))

-- texts

no_text_count : {G : Type 0} (op : CompareOp) (t : List ℕ) (a : Quietly) → is_pattern_form (compared_with_literal op t (counted a)) ≡ true → G
unfolding counted compared_with_literal is_pattern_form
no_text_count op t (attribute g) h = absurd cc
no_text_count op t (step g) h = absurd cc
no_text_count op t (path g) h = absurd cc
no_text_count op t a h = absurd cc

no_text_call : {G : Type 0} (op : CompareOp) (t : List ℕ) (c : QuietCall) (local : List ℕ) (a : Quietly) → is_pattern_form (compared_with_literal op t (called_with c local a)) ≡ true → G
unfolding called_with
no_text_call op t call.Not local a h = not_operand _ (if_operand (is_truth a) _) (literal_operand op t (negated a) h)
no_text_call op t call.Exists local a h = not_operand _ (some_operand (bytes_eq local (codes "exists")) a) (literal_operand op t (some_in (bytes_eq local (codes "exists")) a) h)
no_text_call op t call.Count local a h = no_text_count op t a h
no_text_call op t c local a h = not_operand other other_is (literal_operand op t other h)

name_called : (op : CompareOp) (t : List ℕ) (c : QuietCall) (local : List ℕ) (f : Focus) → is_pattern_form (compared_with_literal op t (called c local)) ≡ true
    → compares op (atom.Str (name_text (bytes_eq local (codes "name")) f.node)) (atom.Str t) ≡ holds_at (compared_with_literal op t (called c local)) f
unfolding called compared_with_literal is_pattern_form holds_at
name_called op t call.NameOf local f h = refl
name_called op t c local f h = absurd cc

pub name_compares : (op : CompareOp) (t : List ℕ) (c : QuietCall) (local : List ℕ) (args : List Expr) (f : Focus) → is_pattern_form (compared_with_literal op t (call_gives c local (map quietly_of args))) ≡ true
    → compares op (atom.Str (name_text (bytes_eq local (codes "name")) f.node)) (atom.Str t) ≡ holds_at (compared_with_literal op t (call_gives c local (map quietly_of args))) f
unfolding call_gives
name_compares op t c local [] f h = name_called op t c local f h
name_compares op t c local (a ∷ []) f h = no_text_call op t c local (quietly_of a) h
name_compares op t c local (a ∷ b ∷ more) f h = not_operand other other_is (literal_operand op t other h)

subject_layer : (op : CompareOp) (k : ℤ) (e : Expr) (x : Layer) (count at size : ℕ) → quietly_of e ≡ gives_quietly x → number_at x count at size ≡ None → is_path_form (gives_quietly x) ≡ true
    → subject_of e x ≡ Some e
unfolding is_path_form
subject_layer op k e (Slash a b) count at size is n h = refl
subject_layer op k e (Step along wanted tests) count at size is n h = refl
subject_layer op k e (Call name args) count at size is n h = absurd cc
subject_layer op k e (Or all) count at size is n h = no_truth _ (any_no_path (map quietly_of all)) h
subject_layer op k e (And all) count at size is n h = no_truth _ (all_no_path (map quietly_of all)) h
subject_layer op k e (General o a b) count at size is n h = no_truth _ (compared_no_path o (quietly_of a) (quietly_of b)) h
subject_layer op k e x count at size is n h = absurd cc

-- the nodes that are compared with an integer
pub integer_nodes : (op : CompareOp) (k : ℤ) (a : Expr) (f : Focus) → is_pattern_form (compared_with_integer op k (quietly_of a)) ≡ true
    → subject_number a (length (nodes_at (subject_part a) f.node)) f.position f.size ≡ None
    → some_compares op (atom.Int k) (nodes_at (subject_part a) f.node) ≡ holds_at (compared_with_integer op k (quietly_of a)) f
integer_nodes op k a f h n =
    let m = node_compares op k (quietly_of a) f h (sym (number_is op k a f h) ∙ n) in
    let s = subject_layer op k a (out-Expr a) _ _ _ (quietly_out a) n (subst (λ (q : Quietly). is_path_form q ≡ true) (quietly_out a) m.0) in
    ap (λ (o : Option Expr). some_compares op (atom.Int k) (nodes_at o f.node)) s ∙ m.1
