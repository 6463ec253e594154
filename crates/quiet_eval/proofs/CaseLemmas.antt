-- The forms of an expression, and what it is where it has none of them.
use Rattle.std.proofs.Common.{◌≡◌, ℕ, ℤ, pos, List, [], ◌∷◌, map, refl, ap, sym, ◌∙◌, Bool, true, false, subst, codes, length, ◌<◌, ◌≤◌, arith, rules}
use Rattle.std.specs.Prelude.{if◌then◌else◌, not, None, ◌==◌}
use Rattle.xt_names.specs.declared.kinds.CompareOp.{CompareOp}
use Rattle.xt_names.specs.declared.kinds.CompareOp.TheVariants.{Eq}
use Rattle.xt_names.specs.declared.names.ExprName.{ExprName}
use Rattle.xt_tree.specs.Place.{Place}
use Rattle.xt_syntax.specs.declared.exprs.Expr.{Expr}
use Rattle.xt_syntax.specs.declared.exprs.Expr.TheVariants as expr
use Rattle.xt_syntax.specs.declared.exprs.Expr.TheVariants.{rolls-Int, rolls-Str, rolls-General, rolls-Call}
use Rattle.xt_syntax.specs.declared.exprs.Clause.TheViews.{out-Expr, roll-Expr, roll-out-Expr}
use Rattle.xt_syntax.specs.declared.exprs.Clause.TheOpen.{Int, Str, Or, And, General, Slash, Step, Call}
use Rattle.xt_atoms.specs.declared.atoms.Atom.TheVariants as atom
use Rattle.std.specs.List.{list_all, list_any}
use Rattle.std.specs.Str.{bytes_eq}
use Rattle.xt_forms.specs.Quiet.{quiet_call}
use Rattle.xt_forms.specs.declared.quiet_calls.QuietCall.{QuietCall}
use Rattle.xt_forms.specs.declared.quiet_calls.QuietCall.TheVariants as call
use Rattle.node_axes.specs.StepWalks.Nodes.{Focus, Nodes, step_nodes}
use Rattle.quiet_meaning.specs.Values.{compares, some_compares}
use Rattle.quiet_meaning.specs.Quietly.{Quietly, integer, literal, position, last, attribute, step, path, condition, conjunction, other, quietly_of, holds_at, has_some, is_pattern_form, is_truth, is_predicate, is_conjunction, is_attribute_name, holds_all, stepped, slashed, with_step, compared, compared_with_integer, compared_with_literal, compared_with_last, some_in, counted, called, called_with, call_gives}
use Rattle.quiet_meaning.specs.Paths.{nodes_of_form}
use Rattle.quiet_meaning.proofs.FormLemmas.{gives_quietly, rolled_quietly}
use Rattle.quiet_meaning.proofs.HoldLemmas.{path_holds, slashed_form, stepped_form, text_compares}
use Rattle.quiet_eval.specs.Subjects.{Layer, is_not, only, subject_of, subject_part, decided_by, path_part, nodes_at, is_junction_in, is_junction}
use Rattle.quiet_eval.proofs.SubjectLemmas.{quietly_out, literal_operand, slash_path, step_path}
use Rattle.quiet_eval.proofs.JudgeLemmas.{exists_holds, any_operand, all_operand, compared_result, not_operand}

pub integer_is : (n : ℤ) → quietly_of (expr.Int n) ≡ integer n
integer_is n = ap quietly_of (sym (rolls-Int n)) ∙ rolled_quietly (Int n)

pub literal_is : (t : List ℕ) → quietly_of (expr.Str t) ≡ literal t
literal_is t = ap quietly_of (sym (rolls-Str t)) ∙ rolled_quietly (Str t)

pub comparison_is : (op : CompareOp) (a b : Expr) → quietly_of (expr.General op a b) ≡ compared op (quietly_of a) (quietly_of b)
comparison_is op a b = ap quietly_of (sym (rolls-General op a b)) ∙ rolled_quietly (General op a b)

pub call_is : (name : ExprName) (args : List Expr) → quietly_of (expr.Call name args) ≡ call_gives (quiet_call name) name.local (map quietly_of args)
call_is name args = ap quietly_of (sym (rolls-Call name args)) ∙ rolled_quietly (Call name args)

-- none of the forms

abbrev pub NoInt : Expr → Type 0
NoInt e = (n : ℤ) → e ≡ expr.Int n → ⊥

abbrev pub NoStr : Expr → Type 0
NoStr e = (t : List ℕ) → e ≡ expr.Str t → ⊥

abbrev pub NoGeneral : Expr → Type 0
NoGeneral e = (op : CompareOp) (a b : Expr) → e ≡ expr.General op a b → ⊥

abbrev pub NoCall : Expr → Type 0
NoCall e = (name : ExprName) (args : List Expr) → e ≡ expr.Call name args → ⊥

pub from_out : (e : Expr) (x : Layer) → out-Expr e ≡ x → e ≡ roll-Expr x
from_out e x h = sym (roll-out-Expr e) ∙ ap roll-Expr h

-- a literal on the right

literal_layer : (op : CompareOp) (t : List ℕ) (e : Expr) (x : Layer) (f : Focus) → quietly_of e ≡ gives_quietly x → ((name : ExprName) (args : List Expr) → x ≡ Call name args → ⊥)
    → is_pattern_form (compared_with_literal op t (gives_quietly x)) ≡ true
    → some_compares op (atom.Str t) (nodes_at (subject_of e x) f.node) ≡ holds_at (compared_with_literal op t (gives_quietly x)) f
unfolding compared_with_literal is_pattern_form
literal_layer op t e (Or all) f is lacks h = not_operand _ (any_operand (map quietly_of all)) (literal_operand op t _ h)
literal_layer op t e (And all) f is lacks h = not_operand _ (all_operand (map quietly_of all)) (literal_operand op t _ h)
literal_layer op t e (General o a b) f is lacks h = not_operand _ (compared_result o (quietly_of a) (quietly_of b)) (literal_operand op t _ h)
literal_layer op t e (Slash a b) f is lacks h =
    ap (λ (q : Quietly). some_compares op (atom.Str t) (nodes_of_form q f.node)) is ∙ text_compares op t (slashed (quietly_of a) (quietly_of b)) f h (slash_path (quietly_of a) (quietly_of b) (literal_operand op t _ h))
literal_layer op t e (Step along wanted tests) f is lacks h =
    ap (λ (q : Quietly). some_compares op (atom.Str t) (nodes_of_form q f.node)) is ∙ text_compares op t (stepped along wanted (map quietly_of tests)) f h (step_path along wanted (map quietly_of tests) (literal_operand op t _ h))
literal_layer op t e (Call name args) f is lacks h = absurd (lacks name args refl)
literal_layer op t e x f is lacks h = absurd cc

pub literal_nodes : (op : CompareOp) (t : List ℕ) (e : Expr) (f : Focus) → NoCall e → is_pattern_form (compared_with_literal op t (quietly_of e)) ≡ true
    → some_compares op (atom.Str t) (nodes_at (subject_part e) f.node) ≡ holds_at (compared_with_literal op t (quietly_of e)) f
literal_nodes op t e f lacks h =
    literal_layer op t e (out-Expr e) f (quietly_out e) (λ name args p. lacks name args (from_out e _ p ∙ rolls-Call name args)) (subst (λ (q : Quietly). is_pattern_form (compared_with_literal op t q) ≡ true) (quietly_out e) h)
    ∙ ap (λ (q : Quietly). holds_at (compared_with_literal op t q) f) (sym (quietly_out e))

-- a path that stands alone

alone_layer : (e : Expr) (x : Layer) (f : Focus) → quietly_of e ≡ gives_quietly x → ((n : ℤ) → x ≡ Int n → ⊥) → ((op : CompareOp) (a b : Expr) → x ≡ General op a b → ⊥)
    → ((name : ExprName) (args : List Expr) → x ≡ Call name args → ⊥) → is_junction_in x ≡ false → is_pattern_form (gives_quietly x) ≡ true
    → has_some (nodes_at (decided_by e x) f.node) ≡ holds_at (gives_quietly x) f
unfolding is_pattern_form
alone_layer e (Int n) f is i g c j h = absurd (i n refl)
alone_layer e (General op a b) f is i g c j h = absurd (g op a b refl)
alone_layer e (Call name args) f is i g c j h = absurd (c name args refl)
alone_layer e (Slash a b) f is i g c j h = ap (λ (q : Quietly). has_some (nodes_of_form q f.node)) is ∙ path_holds (slashed (quietly_of a) (quietly_of b)) f (slashed_form (quietly_of a) (quietly_of b) h)
alone_layer e (Step along wanted tests) f is i g c j h = ap (λ (q : Quietly). has_some (nodes_of_form q f.node)) is ∙ path_holds (stepped along wanted (map quietly_of tests)) f (stepped_form along wanted (map quietly_of tests) h)
alone_layer e x f is i g c j h = absurd cc

pub alone_nodes : (e : Expr) (f : Focus) → NoInt e → NoGeneral e → NoCall e → is_junction e ≡ false → is_pattern_form (quietly_of e) ≡ true
    → has_some (nodes_at (path_part e) f.node) ≡ holds_at (quietly_of e) f
alone_nodes e f i g c j h =
    alone_layer e (out-Expr e) f (quietly_out e) (λ n p. i n (from_out e _ p ∙ rolls-Int n)) (λ op a b p. g op a b (from_out e _ p ∙ rolls-General op a b)) (λ name args p. c name args (from_out e _ p ∙ rolls-Call name args))
    j (subst (λ (q : Quietly). is_pattern_form q ≡ true) (quietly_out e) h)
    ∙ ap (λ (q : Quietly). holds_at q f) (sym (quietly_out e))

-- last() on the right

unfoldable is_constant : Quietly → Bool
is_constant (integer n) = true
is_constant (literal t) = true
is_constant q = false

if_constant : (b : Bool) (x y : Quietly) → is_constant x ≡ false → is_constant y ≡ false → is_constant (if b then x else y) ≡ false
if_constant true x y e g = e
if_constant false x y e g = g

with_constant : (g : Nodes) (a : Quietly) → is_constant (with_step g a) ≡ false
unfolding with_step is_constant
with_constant g (attribute h) = refl
with_constant g (step h) = refl
with_constant g (path h) = refl
with_constant g a = refl

slashed_constant : (a b : Quietly) → is_constant (slashed a b) ≡ false
unfolding slashed is_constant
slashed_constant a (attribute g) = with_constant g a
slashed_constant a (step g) = with_constant g a
slashed_constant a b = refl

integer_constant : (op : CompareOp) (k : ℤ) (a : Quietly) → is_constant (compared_with_integer op k a) ≡ false
unfolding compared_with_integer is_constant
integer_constant op k position = refl
integer_constant op k a = refl

literal_constant : (op : CompareOp) (t : List ℕ) (a : Quietly) → is_constant (compared_with_literal op t a) ≡ false
unfolding compared_with_literal is_constant
literal_constant op t position = refl
literal_constant op t a = refl

last_constant : (op : CompareOp) (a : Quietly) → is_constant (compared_with_last op a) ≡ false
unfolding compared_with_last is_constant
last_constant op position = refl
last_constant op a = refl

compared_constant : (op : CompareOp) (a b : Quietly) → is_constant (compared op a b) ≡ false
unfolding compared is_constant
compared_constant op a (integer n) = integer_constant op n a
compared_constant op a (literal t) = literal_constant op t a
compared_constant op a last = last_constant op a
compared_constant op a b = refl

some_constant : (b : Bool) (a : Quietly) → is_constant (some_in b a) ≡ false
unfolding some_in is_constant
some_constant b position = refl
some_constant b a = refl

counted_constant : (a : Quietly) → is_constant (counted a) ≡ false
unfolding counted is_constant
counted_constant position = refl
counted_constant a = refl

called_constant : (k : QuietCall) (local : List ℕ) → is_constant (called k local) ≡ false
unfolding called is_constant
called_constant call.Constant local = refl
called_constant k local = refl

called_with_constant : (k : QuietCall) (local : List ℕ) (a : Quietly) → is_constant (called_with k local a) ≡ false
unfolding called_with is_constant
called_with_constant call.Not local a = if_constant (is_truth a) (condition (λ f. not (holds_at a f))) other refl refl
called_with_constant call.Exists local a = some_constant _ a
called_with_constant call.Count local a = counted_constant a
called_with_constant k local a = refl

call_constant : (k : QuietCall) (local : List ℕ) (qs : List Quietly) → is_constant (call_gives k local qs) ≡ false
unfolding call_gives is_constant
call_constant k local [] = called_constant k local
call_constant k local (a ∷ []) = called_with_constant k local a
call_constant k local (a ∷ b ∷ more) = refl

constant_layer : (x : Layer) → ((n : ℤ) → x ≡ Int n → ⊥) → ((t : List ℕ) → x ≡ Str t → ⊥) → is_constant (gives_quietly x) ≡ false
unfolding is_constant
constant_layer (Int n) i t = absurd (i n refl)
constant_layer (Str u) i t = absurd (t u refl)
constant_layer (Or all) i t = if_constant (list_all is_truth (map quietly_of all)) (condition (λ f. list_any (λ q. holds_at q f) (map quietly_of all))) other refl refl
constant_layer (And all) i t =
    if_constant (list_all is_truth (map quietly_of all)) (condition (holds_all (map quietly_of all))) _ refl (if_constant (is_conjunction (map quietly_of all)) (conjunction (holds_all (map quietly_of all))) other refl refl)
constant_layer (General op a b) i t = compared_constant op (quietly_of a) (quietly_of b)
constant_layer (Slash a b) i t = slashed_constant (quietly_of a) (quietly_of b)
constant_layer (Step along wanted tests) i t =
    if_constant (is_attribute_name along wanted (map quietly_of tests)) (attribute (step_nodes along wanted [])) _ refl
    (if_constant (list_all is_predicate (map quietly_of tests)) (step (step_nodes along wanted (map holds_at (map quietly_of tests)))) other refl refl)
constant_layer (Call name args) i t = call_constant (quiet_call name) name.local (map quietly_of args)
constant_layer x i t = refl

by_last : (op : CompareOp) (a : Quietly) (f : Focus) → is_pattern_form (compared_with_last op a) ≡ true
    → compares op (atom.Int (pos f.position)) (atom.Int (pos f.size)) ≡ holds_at (compared_with_last op a) f
unfolding compared_with_last is_pattern_form holds_at
by_last op position f h = refl
by_last op a f h = absurd cc

last_gives : (op : CompareOp) (a b : Quietly) (f : Focus) → is_constant b ≡ false → is_pattern_form (compared op a b) ≡ true
    → compares op (atom.Int (pos f.position)) (atom.Int (pos f.size)) ≡ holds_at (compared op a b) f
unfolding compared is_constant is_pattern_form
last_gives op a (integer n) f fixed h = absurd cc
last_gives op a (literal t) f fixed h = absurd cc
last_gives op a last f fixed h = by_last op a f h
last_gives op a b f fixed h = absurd cc

pub last_compares : (op : CompareOp) (a : Quietly) (e : Expr) (f : Focus) → NoInt e → NoStr e → is_pattern_form (compared op a (quietly_of e)) ≡ true
    → compares op (atom.Int (pos f.position)) (atom.Int (pos f.size)) ≡ holds_at (compared op a (quietly_of e)) f
last_compares op a e f i t h =
    last_gives op a (quietly_of e) f
    (ap is_constant (quietly_out e) ∙ constant_layer (out-Expr e) (λ n p. i n (from_out e _ p ∙ rolls-Int n)) (λ u p. t u (from_out e _ p ∙ rolls-Str u))) h

pub integer_right : (op : CompareOp) (a b : Expr) (n : ℤ) → b ≡ expr.Int n → compared op (quietly_of a) (quietly_of b) ≡ compared_with_integer op n (quietly_of a)
unfolding compared
integer_right op a b n h = ap (compared op (quietly_of a)) (ap quietly_of h ∙ integer_is n)

pub literal_right : (op : CompareOp) (a b : Expr) (t : List ℕ) → b ≡ expr.Str t → compared op (quietly_of a) (quietly_of b) ≡ compared_with_literal op t (quietly_of a)
unfolding compared
literal_right op a b t h = ap (compared op (quietly_of a)) (ap quietly_of h ∙ literal_is t)

pub integer_keeps : (e : Expr) (k : ℤ) (f : Focus) → e ≡ expr.Int k → compares Eq (atom.Int (pos f.position)) (atom.Int k) ≡ holds_at (quietly_of e) f
unfolding holds_at
integer_keeps e k f h = sym (ap (λ (q : Quietly). holds_at q f) (ap quietly_of h ∙ integer_is k))

not_none : (ns : List Place) → not (length ns == 0) ≡ has_some ns
not_none [] = search rules
not_none (n ∷ ns) = search rules

pub some_nodes : (b : Bool) (ns ms : List Place) → b ≡ (length ns == 0) → ns ≡ ms → not b ≡ has_some ms
some_nodes b ns ms h e = ap not h ∙ not_none ns ∙ ap has_some e

-- calls by the number of their arguments

pub call_of_none : (k : QuietCall) (local : List ℕ) (args : List Expr) (f : Focus) → length args < 1 → holds_at (called k local) f ≡ holds_at (call_gives k local (map quietly_of args)) f
unfolding call_gives
call_of_none k local [] f h = refl
call_of_none k local (a ∷ args) f h = absurd (omega arith)

pub call_of_one : (k : QuietCall) (local : List ℕ) (args : List Expr) (ns : List Place) (f : Focus) → 1 ≤ length args → length args < 2
    → (if is_not k then only args else None) ≡ None → is_pattern_form (call_gives k local (map quietly_of args)) ≡ true → ns ≡ nodes_at (only args) f.node
    → (if bytes_eq local (codes "exists") then has_some ns else not (has_some ns)) ≡ holds_at (call_gives k local (map quietly_of args)) f
call_of_one k local [] ns f h g n p e = absurd (omega arith)
call_of_one k local (a ∷ []) ns f h g n p e = exists_holds k local a ns f n p e
call_of_one k local (a ∷ b ∷ more) ns f h g n p e = absurd (omega arith)

pub call_of_more : (k : QuietCall) (local : List ℕ) (args : List Expr) (f : Focus) → 2 ≤ length args → false ≡ holds_at (call_gives k local (map quietly_of args)) f
unfolding call_gives holds_at
call_of_more k local [] f h = absurd (omega arith)
call_of_more k local (a ∷ []) f h = absurd (omega arith)
call_of_more k local (a ∷ b ∷ more) f h = refl
