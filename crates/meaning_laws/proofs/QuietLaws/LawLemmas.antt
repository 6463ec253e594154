-- The laws of quiet predicates.
use Rattle.std.proofs.Common.{◌≡◌, ℕ, ℤ, pos, List, [], ◌∷◌, ◌++◌, map, length, refl, ap, sym, ◌∙◌, Bool, true, false, subst, ◌⊎◌, inl, inr, arith, eq-eqb, codes}
use Rattle.std.specs.Prelude.{if◌then◌else◌, ◌↔◌, not, ◌||◌, ◌&&◌, nat_eq}
use Rattle.std.specs.List.{list_all, list_any}
use Rattle.std.specs.Str.{bytes_eq}
use Rattle.std.specs.Ordering.{int_cmp, is_eq}
use Rattle.std.specs.declared.cmp.Ordering.{Ordering}
use Rattle.std.specs.declared.cmp.Ordering.TheVariants.{Less, Equal, Greater}
use Rattle.std.proofs.lemmas.Bool.{and_parts}
use Rattle.std.proofs.lemmas.Bool.Decides.{nat_tests}
use Rattle.std.proofs.lemmas.Cmp.{int_ranked, int_cmp_total, tied_itself}
use Rattle.std.proofs.lemmas.List.Folds.{list_all-map}
use Rattle.xt_names.specs.declared.kinds.CompareOp.{CompareOp}
use Rattle.xt_names.specs.declared.kinds.CompareOp.TheVariants.{Eq}
use Rattle.xt_names.specs.declared.names.ExprName.{ExprName}
use Rattle.xt_types.specs.declared.axes.Axis.{Axis}
use Rattle.xt_types.specs.declared.node_tests.Test.{Test}
use Rattle.xt_tree.specs.Place.{Place, subtree_of}
use Rattle.xt_syntax.specs.declared.exprs.Expr.{Expr}
use Rattle.xt_syntax.specs.declared.exprs.Clause.TheOpen.{Int, Str, Or, And, General, Slash, Step, Call}
use Rattle.xt_atoms.specs.declared.atoms.Atom.TheVariants as atom
use Rattle.xt_atoms.specs.Comparisons.{holds, general_comparison, value_comparison}
use Rattle.xdm_items.specs.Values.{typed_value_below}
use Rattle.xt_forms.specs.Quiet.{quiet_call}
use Rattle.xt_forms.specs.declared.quiet_calls.QuietCall.TheVariants as call
use Rattle.node_axes.proofs.FilterLemmas.{In}
use Rattle.node_axes.specs.StepWalks.Nodes.{Focus, Nodes, step_nodes, slash_nodes, nodes_of_each, in_tree_order}
use Rattle.node_axes.proofs.StepWalks.OrderLemmas.{found, some_in as passing_in, in_tree_order_from, in_tree_order_to}
use Rattle.node_axes.proofs.StepWalks.NodeLemmas.{step_found_within, each_within}
use Rattle.quiet_meaning.specs.Values.{is_true, compares, some_compares, name_text}
use Rattle.quiet_meaning.specs.Quietly.{Quietly, integer, position, last, text_of, attribute, step, path, quietly_of, holds_at, holds_quietly, has_some, is_truth, any_of, all_of, stepped, slashed, negated, some_in, counted, compared, compared_with_integer, compared_with_literal, call_gives, called, called_with}
use Rattle.quiet_meaning.specs.Paths.{is_path_form, nodes_of_form, keeps}
use Rattle.quiet_meaning.proofs.FormLemmas.{rolled_quietly}
use Rattle.quiet_meaning.proofs.HoldLemmas.{path_holds, slashed_is, stepped_is}
use Rattle.quiet_meaning.proofs.PathLemmas.{stays}
use Rattle.meaning_laws.specs.QuietLaws.Reached.{IsAmong, IsReached, filtered}
use Rattle.meaning_laws.specs.QuietLaws.Spelled.{or_of, and_of, comparison_of, slash_of, step_of, call_of, integer_of, literal_of, IsPath, are_truths}

abbrev focus : Place → ℕ → ℕ → Focus
focus n at size = record { node = n; position = at; size = size }

into : (m : Place) (ns : List Place) → IsAmong m ns → In m ns
into m [] i = i
into m (n ∷ ns) (inl e) = inl e
into m (n ∷ ns) (inr i) = inr (into m ns i)

out_of : (m : Place) (ns : List Place) → In m ns → IsAmong m ns
out_of m [] i = i
out_of m (n ∷ ns) (inl e) = inl e
out_of m (n ∷ ns) (inr i) = inr (out_of m ns i)

-- steps

step_gives : (along : Axis) (wanted : Test) (tests : List Expr) → quietly_of (step_of along wanted tests) ≡ stepped along wanted (map quietly_of tests)
step_gives along wanted tests = rolled_quietly (Step along wanted tests)

slash_gives : (a b : Expr) → quietly_of (slash_of a b) ≡ slashed (quietly_of a) (quietly_of b)
slash_gives a b = rolled_quietly (Slash a b)

step_reached : (along : Axis) (wanted : Test) (tests : List Expr) (n : Place) → IsPath (step_of along wanted tests)
    → nodes_of_form (quietly_of (step_of along wanted tests)) n ≡ in_tree_order n (filtered along wanted tests n)
unfolding step_nodes
step_reached along wanted tests n h =
    ap (λ q. nodes_of_form q n) (step_gives along wanted tests)
    ∙ ap (λ (g : Nodes). g n) (stepped_is along wanted (map quietly_of tests) (subst (λ q. is_path_form q ≡ true) (step_gives along wanted tests) h)).is

pub reached_by_step : (along : Axis) (wanted : Test) (tests : List Expr) (n m : Place) → IsPath (step_of along wanted tests) → IsReached (step_of along wanted tests) n m ↔ IsAmong m (filtered along wanted tests n)
reached_by_step along wanted tests n m h =
    let e = step_reached along wanted tests n h in
    let w = step_found_within along wanted (keeps tests) n in (
      λ i. out_of m _ (in_tree_order_from n m (filtered along wanted tests n) w (into m _ (subst (IsAmong m) e i))),
      λ i. subst (IsAmong m) (sym e) (out_of m _ (in_tree_order_to n m (filtered along wanted tests n) w (into m _ i))),
    )

in_append : (k : Place) (xs ys : List Place) → In k (xs ++ ys) → In k xs ⊎ In k ys
in_append k [] ys i = inr i
in_append k (x ∷ xs) ys (inl e) = inl (inl e)
in_append k (x ∷ xs) ys (inr i) = by (in_append k xs ys i)
  where
    by : In k xs ⊎ In k ys → In k (x ∷ xs) ⊎ In k ys
    by (inl j) = inl (inr j)
    by (inr j) = inr j

append_left : (k : Place) (xs ys : List Place) → In k xs → In k (xs ++ ys)
append_left k [] ys i = absurd i
append_left k (x ∷ xs) ys (inl e) = inl e
append_left k (x ∷ xs) ys (inr i) = inr (append_left k xs ys i)

append_right : (k : Place) (xs ys : List Place) → In k ys → In k (xs ++ ys)
append_right k [] ys i = i
append_right k (x ∷ xs) ys i = inr (append_right k xs ys i)

each_from : (next : Nodes) (k : Place) (ns : List Place) → In k (nodes_of_each next ns) → (m : Place) × (In m ns × In k (next m))
unfolding nodes_of_each
each_from next k [] i = absurd i
each_from next k (n ∷ ns) i = by (in_append k (next n) (nodes_of_each next ns) i) (each_from next k ns)
  where
    by : In k (next n) ⊎ In k (nodes_of_each next ns) → (In k (nodes_of_each next ns) → (m : Place) × (In m ns × In k (next m))) → (m : Place) × (In m (n ∷ ns) × In k (next m))
    by (inl j) more = (n, (inl refl, j))
    by (inr j) more = let r : (m : Place) × (In m ns × In k (next m)) = more j in (r.0, (inr r.1.0, r.1.1))

each_to : (next : Nodes) (k m : Place) (ns : List Place) → In m ns → In k (next m) → In k (nodes_of_each next ns)
unfolding nodes_of_each
each_to next k m [] i j = absurd i
each_to next k m (n ∷ ns) (inl e) j = append_left k (next n) (nodes_of_each next ns) (subst (λ x. In k (next x)) (sym e) j)
each_to next k m (n ∷ ns) (inr i) j = append_right k (next n) (nodes_of_each next ns) (each_to next k m ns i j)

slash_reached : (a b : Expr) (n : Place) → IsPath (slash_of a b)
    → nodes_of_form (quietly_of (slash_of a b)) n ≡ in_tree_order n (nodes_of_each (nodes_of_form (quietly_of b)) (nodes_of_form (quietly_of a) n))
unfolding slash_nodes
slash_reached a b n h =
    ap (λ q. nodes_of_form q n) (slash_gives a b)
    ∙ ap (λ (g : Nodes). g n) (slashed_is (quietly_of a) (quietly_of b) (subst (λ q. is_path_form q ≡ true) (slash_gives a b) h)).is

pub reached_by_steps : (a b : Expr) (n k : Place) → IsPath (slash_of a b) → IsReached (slash_of a b) n k ↔ ((m : Place) × (IsReached a n m × IsReached b m k))
reached_by_steps a b n k h =
    let e = slash_reached a b n h in
    let w = each_within n (nodes_of_form (quietly_of b)) (nodes_of_form (quietly_of a) n) (stays b) (stays a n) in (
      λ i. (let r = each_from (nodes_of_form (quietly_of b)) k (nodes_of_form (quietly_of a) n) (in_tree_order_from n k _ w (into k _ (subst (IsAmong k) e i))) in (r.0, (out_of r.0 _ r.1.0, out_of k _ r.1.1))),
      λ r. subst (IsAmong k) (sym e) (out_of k _ (in_tree_order_to n k _ w (each_to (nodes_of_form (quietly_of b)) k r.0 (nodes_of_form (quietly_of a) n) (into r.0 _ r.1.0) (into k _ r.1.1)))),
    )

-- a path alone

some_reached : (ns : List Place) → (has_some ns ≡ true) ↔ ((m : Place) × IsAmong m ns)
some_reached [] = (λ e. absurd cc, λ r. absurd r.1)
some_reached (n ∷ ns) = (λ e. (n, inl refl), λ r. refl)

path_keeps : (q : Quietly) (f : Focus) → is_path_form q ≡ true → (holds_at q f ≡ true) ↔ ((m : Place) × IsAmong m (nodes_of_form q f.node))
path_keeps q f h =
    let s = some_reached (nodes_of_form q f.node) in
    let e = path_holds q f h in
    (λ t. s.0 (e ∙ t), λ r. sym e ∙ s.1 r)

pub path_law : (e : Expr) (n : Place) (at size : ℕ) → IsPath e → (holds_quietly e n at size ≡ true) ↔ ((m : Place) × IsReached e n m)
path_law e n at size h = path_keeps (quietly_of e) (focus n at size) h

exists_gives : (b : Bool) (q : Quietly) (f : Focus) → is_path_form q ≡ true → holds_at (some_in b q) f ≡ (if b then holds_at q f else not (holds_at q f))
unfolding some_in is_path_form holds_at
exists_gives b (attribute g) f h = refl
exists_gives b (step g) f h = refl
exists_gives b (path g) f h = refl
exists_gives b q f h = absurd cc

call_law : (name : ExprName) (e : Expr) → quiet_call name ≡ call.Exists → quietly_of (call_of name (e ∷ [])) ≡ some_in (bytes_eq name.local (codes "exists")) (quietly_of e)
unfolding call_gives called_with
call_law name e f = rolled_quietly (Call name (e ∷ [])) ∙ rw f refl

pub exists_law : (name : ExprName) (e : Expr) (n : Place) (at size : ℕ) → quiet_call name ≡ call.Exists → bytes_eq name.local (codes "exists") ≡ true → IsPath e
    → holds_quietly (call_of name (e ∷ [])) n at size ≡ holds_quietly e n at size
exists_law name e n at size f b h = ap (λ q. holds_at q (focus n at size)) (call_law name e f ∙ ap (λ x. some_in x (quietly_of e)) b) ∙ exists_gives true (quietly_of e) (focus n at size) h

pub empty_law : (name : ExprName) (e : Expr) (n : Place) (at size : ℕ) → quiet_call name ≡ call.Exists → bytes_eq name.local (codes "exists") ≡ false → IsPath e
    → holds_quietly (call_of name (e ∷ [])) n at size ≡ not (holds_quietly e n at size)
empty_law name e n at size f b h = ap (λ q. holds_at q (focus n at size)) (call_law name e f ∙ ap (λ x. some_in x (quietly_of e)) b) ∙ exists_gives false (quietly_of e) (focus n at size) h

-- numbers

int_tied : (x y : ℤ) (r : Ordering) → r ≡ int_cmp x y → is_eq r ≡ true → x ≡ y
int_tied x y Less e h = absurd cc
int_tied x y Equal e h = int_ranked x y Equal e
int_tied x y Greater e h = absurd cc

equal_numbers : (x y : ℤ) → compares Eq (atom.Int x) (atom.Int y) ≡ is_eq (int_cmp x y)
unfolding compares is_true general_comparison value_comparison holds
equal_numbers x y = refl

integer_gives : (k : ℤ) (f : Focus) → holds_at (integer k) f ≡ compares Eq (atom.Int (pos f.position)) (atom.Int k)
unfolding holds_at
integer_gives k f = refl

pub integer_law : (k : ℤ) (n : Place) (at size : ℕ) → (holds_quietly (integer_of k) n at size ≡ true) ↔ (pos at ≡ k)
integer_law k n at size =
    let e : holds_quietly (integer_of k) n at size ≡ is_eq (int_cmp (pos at) k) = ap (λ q. holds_at q (focus n at size)) (rolled_quietly (Int k)) ∙ integer_gives k (focus n at size) ∙ equal_numbers (pos at) k in
    (λ t. int_tied (pos at) k _ refl (sym e ∙ t), λ s. e ∙ ap (λ z. is_eq (int_cmp (pos at) z)) (sym s) ∙ ap is_eq (tied_itself int_cmp_total (pos at)))

last_gives : (f : Focus) → holds_at last f ≡ nat_eq f.position f.size
unfolding holds_at
last_gives f = refl

last_call : (name : ExprName) → quiet_call name ≡ call.Last → quietly_of (call_of name []) ≡ last
unfolding call_gives called
last_call name f = rolled_quietly (Call name []) ∙ rw f refl

same_number : (a b : ℕ) → (nat_eq a b ≡ true) ↔ (a ≡ b)
same_number a b = (λ h. grind (arith, nat_tests), λ e. eq-eqb a b e)

pub last_law : (name : ExprName) (n : Place) (at size : ℕ) → quiet_call name ≡ call.Last → (holds_quietly (call_of name []) n at size ≡ true) ↔ (at ≡ size)
last_law name n at size f =
    let e = ap (λ q. holds_at q (focus n at size)) (last_call name f) ∙ last_gives (focus n at size) in
    let s = same_number at size in
    (λ t. s.0 (sym e ∙ t), λ i. e ∙ s.1 i)

-- logic

any_gives : (qs : List Quietly) (f : Focus) → list_all is_truth qs ≡ true → holds_at (any_of qs) f ≡ list_any (λ q. holds_at q f) qs
unfolding holds_at
any_gives qs f h = rw h refl

all_gives : (qs : List Quietly) (f : Focus) → list_all is_truth qs ≡ true → holds_at (all_of qs) f ≡ list_all (λ q. holds_at q f) qs
unfolding holds_at
all_gives qs f h = rw h refl

any_mapped : (f : Focus) (all : List Expr) → list_any (λ q. holds_at q f) (map quietly_of all) ≡ list_any (λ e. holds_at (quietly_of e) f) all
any_mapped f [] = refl
any_mapped f (e ∷ es) = ap (λ b. holds_at (quietly_of e) f || b) (any_mapped f es)

pub or_law : (all : List Expr) (n : Place) (at size : ℕ) → are_truths all ≡ true → holds_quietly (or_of all) n at size ≡ list_any (λ e. holds_quietly e n at size) all
or_law all n at size h =
    let f = focus n at size in
    ap (λ q. holds_at q f) (rolled_quietly (Or all)) ∙ any_gives (map quietly_of all) f h ∙ any_mapped f all

pub and_law : (all : List Expr) (n : Place) (at size : ℕ) → are_truths all ≡ true → holds_quietly (and_of all) n at size ≡ list_all (λ e. holds_quietly e n at size) all
and_law all n at size h =
    let f = focus n at size in
    ap (λ q. holds_at q f) (rolled_quietly (And all)) ∙ all_gives (map quietly_of all) f h ∙ list_all-map (λ q. holds_at q f) quietly_of all

not_gives : (q : Quietly) (f : Focus) → (is_truth q && true) ≡ true → holds_at (negated q) f ≡ not (holds_at q f)
unfolding holds_at
not_gives q f h = rw (and_parts (is_truth q) true h).0 refl

not_call : (name : ExprName) (e : Expr) → quiet_call name ≡ call.Not → quietly_of (call_of name (e ∷ [])) ≡ negated (quietly_of e)
unfolding call_gives called_with
not_call name e f = rolled_quietly (Call name (e ∷ [])) ∙ rw f refl

pub not_law : (name : ExprName) (e : Expr) (n : Place) (at size : ℕ) → quiet_call name ≡ call.Not → are_truths (e ∷ []) ≡ true
    → holds_quietly (call_of name (e ∷ [])) n at size ≡ not (holds_quietly e n at size)
not_law name e n at size f h = ap (λ q. holds_at q (focus n at size)) (not_call name e f) ∙ not_gives (quietly_of e) (focus n at size) h

constant_call : (name : ExprName) (f : Focus) → quiet_call name ≡ call.Constant → holds_at (quietly_of (call_of name [])) f ≡ bytes_eq name.local (codes "true")
unfolding call_gives called holds_at
constant_call name f h = ap (λ q. holds_at q f) (rolled_quietly (Call name [])) ∙ rw h refl

pub constant_law : (name : ExprName) (n : Place) (at size : ℕ) → quiet_call name ≡ call.Constant → holds_quietly (call_of name []) n at size ≡ bytes_eq name.local (codes "true")
constant_law name n at size h = constant_call name (focus n at size) h

-- comparisons

literal_gives : (op : CompareOp) (a : Expr) (t : List ℕ) → quietly_of (comparison_of op a (literal_of t)) ≡ compared_with_literal op t (quietly_of a)
unfolding compared
literal_gives op a t = rolled_quietly (General op a (literal_of t)) ∙ ap (compared op (quietly_of a)) (rolled_quietly (Str t))

number_gives : (op : CompareOp) (a : Expr) (k : ℤ) → quietly_of (comparison_of op a (integer_of k)) ≡ compared_with_integer op k (quietly_of a)
unfolding compared
number_gives op a k = rolled_quietly (General op a (integer_of k)) ∙ ap (compared op (quietly_of a)) (rolled_quietly (Int k))

text_gives : (op : CompareOp) (t : List ℕ) (q : Quietly) (f : Focus) → is_path_form q ≡ true
    → holds_at (compared_with_literal op t q) f ≡ list_any (λ m. compares op (typed_value_below (subtree_of m)) (atom.Str t)) (nodes_of_form q f.node)
unfolding compared_with_literal is_path_form nodes_of_form holds_at some_compares
text_gives op t (attribute g) f h = refl
text_gives op t (step g) f h = refl
text_gives op t (path g) f h = refl
text_gives op t q f h = absurd cc

some_node : (p : Place → Bool) (ns : List Place) → (list_any p ns ≡ true) ↔ ((m : Place) × (IsAmong m ns × (p m ≡ true)))
some_node p ns = (λ h. (let r = found p ns h in (r.node, (out_of r.node ns r.is_in, r.passes))), λ r. passing_in p r.0 ns (into r.0 ns r.1.0) r.1.1)

pub literal_law : (op : CompareOp) (a : Expr) (t : List ℕ) (n : Place) (at size : ℕ) → IsPath a
    → (holds_quietly (comparison_of op a (literal_of t)) n at size ≡ true) ↔ ((m : Place) × (IsReached a n m × (compares op (typed_value_below (subtree_of m)) (atom.Str t) ≡ true)))
literal_law op a t n at size h =
    let e = ap (λ q. holds_at q (focus n at size)) (literal_gives op a t) ∙ text_gives op t (quietly_of a) (focus n at size) h in
    let s = some_node (λ m. compares op (typed_value_below (subtree_of m)) (atom.Str t)) (nodes_of_form (quietly_of a) n) in
    (λ u. s.0 (sym e ∙ u), λ r. e ∙ s.1 r)

position_gives : (op : CompareOp) (k : ℤ) (f : Focus) → holds_at (compared_with_integer op k position) f ≡ compares op (atom.Int (pos f.position)) (atom.Int k)
unfolding compared_with_integer holds_at
position_gives op k f = refl

size_gives : (op : CompareOp) (k : ℤ) (f : Focus) → holds_at (compared_with_integer op k last) f ≡ compares op (atom.Int (pos f.size)) (atom.Int k)
unfolding compared_with_integer holds_at
size_gives op k f = refl

count_gives : (op : CompareOp) (k : ℤ) (q : Quietly) (f : Focus) → is_path_form q ≡ true → holds_at (compared_with_integer op k (counted q)) f ≡ compares op (atom.Int (pos (length (nodes_of_form q f.node)))) (atom.Int k)
unfolding compared_with_integer counted is_path_form nodes_of_form holds_at
count_gives op k (attribute g) f h = refl
count_gives op k (step g) f h = refl
count_gives op k (path g) f h = refl
count_gives op k q f h = absurd cc

name_gives : (op : CompareOp) (t : List ℕ) (g : Place → List ℕ) (f : Focus) → holds_at (compared_with_literal op t (text_of g)) f ≡ compares op (atom.Str (g f.node)) (atom.Str t)
unfolding compared_with_literal holds_at
name_gives op t g f = refl

position_call : (name : ExprName) → quiet_call name ≡ call.Position → quietly_of (call_of name []) ≡ position
unfolding call_gives called
position_call name f = rolled_quietly (Call name []) ∙ rw f refl

name_call : (name : ExprName) → quiet_call name ≡ call.NameOf → quietly_of (call_of name []) ≡ text_of (name_text (bytes_eq name.local (codes "name")))
unfolding call_gives called
name_call name f = rolled_quietly (Call name []) ∙ rw f refl

count_call : (name : ExprName) (a : Expr) → quiet_call name ≡ call.Count → quietly_of (call_of name (a ∷ [])) ≡ counted (quietly_of a)
unfolding call_gives called_with
count_call name a f = rolled_quietly (Call name (a ∷ [])) ∙ rw f refl

pub position_law : (op : CompareOp) (name : ExprName) (k : ℤ) (n : Place) (at size : ℕ) → quiet_call name ≡ call.Position
    → holds_quietly (comparison_of op (call_of name []) (integer_of k)) n at size ≡ compares op (atom.Int (pos at)) (atom.Int k)
position_law op name k n at size f = ap (λ q. holds_at q (focus n at size)) (number_gives op (call_of name []) k ∙ ap (compared_with_integer op k) (position_call name f)) ∙ position_gives op k (focus n at size)

pub size_law : (op : CompareOp) (name : ExprName) (k : ℤ) (n : Place) (at size : ℕ) → quiet_call name ≡ call.Last
    → holds_quietly (comparison_of op (call_of name []) (integer_of k)) n at size ≡ compares op (atom.Int (pos size)) (atom.Int k)
size_law op name k n at size f = ap (λ q. holds_at q (focus n at size)) (number_gives op (call_of name []) k ∙ ap (compared_with_integer op k) (last_call name f)) ∙ size_gives op k (focus n at size)

pub count_law : (op : CompareOp) (name : ExprName) (a : Expr) (k : ℤ) (n : Place) (at size : ℕ) → quiet_call name ≡ call.Count → IsPath a
    → holds_quietly (comparison_of op (call_of name (a ∷ [])) (integer_of k)) n at size ≡ compares op (atom.Int (pos (length (nodes_of_form (quietly_of a) n)))) (atom.Int k)
count_law op name a k n at size f h =
    ap (λ q. holds_at q (focus n at size)) (number_gives op (call_of name (a ∷ [])) k ∙ ap (compared_with_integer op k) (count_call name a f)) ∙ count_gives op k (quietly_of a) (focus n at size) h

pub name_law : (op : CompareOp) (name : ExprName) (t : List ℕ) (n : Place) (at size : ℕ) → quiet_call name ≡ call.NameOf
    → holds_quietly (comparison_of op (call_of name []) (literal_of t)) n at size ≡ compares op (atom.Str (name_text (bytes_eq name.local (codes "name")) n)) (atom.Str t)
name_law op name t n at size f = ap (λ q. holds_at q (focus n at size)) (literal_gives op (call_of name []) t ∙ ap (compared_with_literal op t) (name_call name f)) ∙ name_gives op t _ (focus n at size)
