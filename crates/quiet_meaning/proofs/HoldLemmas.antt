-- What a predicate keeps, form by form, where it has a meaning as a predicate.
use Rattle.std.proofs.Common.{◌≡◌, ℕ, ℤ, pos, List, [], ◌∷◌, map, refl, sym, ◌∙◌, Bool, true, false}
use Rattle.std.specs.Prelude.{if◌then◌else◌, ◌&&◌, ◌||◌, not, Some, None, length}
use Rattle.std.specs.List.{list_all, list_any}
use Rattle.std.proofs.lemmas.Bool.{and_parts}
use Rattle.xt_names.specs.declared.kinds.CompareOp.{CompareOp}
use Rattle.xt_types.specs.declared.axes.Axis.{Axis}
use Rattle.xt_types.specs.declared.node_tests.Test.{Test}
use Rattle.xt_tree.specs.Place.{Place}
use Rattle.xt_atoms.specs.declared.atoms.Atom.TheVariants as atom
use Rattle.node_axes.specs.StepWalks.Nodes.{Focus, Nodes, step_nodes, slash_nodes}
use Rattle.quiet_meaning.specs.Values.{compares, some_compares}
use Rattle.quiet_meaning.specs.Quietly.{Quietly, integer, position, last, count_of, attribute, step, path, condition, numeric, conjunction, other, holds_at, has_some, is_truth, is_numeric, is_predicate, is_pattern_form, any_of, all_of, holds_all, is_conjunction, is_attribute_name, is_attribute_axis, is_named, stepped, slashed, with_step, compared_with_integer, compared_with_literal, negated, some_in, counted}
use Rattle.quiet_meaning.specs.Paths.{is_path_form, nodes_of_form}
use Rattle.quiet_meaning.specs.Paths.{number_in}
use Rattle.xt_names.proofs.BoolLemmas.{never}

truth_allowed : (q : Quietly) → is_truth q ≡ true → is_pattern_form q ≡ true
unfolding is_truth is_pattern_form
truth_allowed (attribute g) e = refl
truth_allowed (step g) e = refl
truth_allowed (path g) e = refl
truth_allowed (condition c) e = refl
truth_allowed (numeric c) e = refl
truth_allowed q e = absurd cc

numeric_allowed : (q : Quietly) → is_numeric q ≡ true → is_pattern_form q ≡ true
unfolding is_numeric is_pattern_form
numeric_allowed (numeric c) e = refl
numeric_allowed q e = absurd cc

predicate_allowed : (q : Quietly) → is_predicate q ≡ true → is_pattern_form q ≡ true
unfolding is_predicate is_pattern_form
predicate_allowed (integer n) e = refl
predicate_allowed last e = refl
predicate_allowed (attribute g) e = refl
predicate_allowed (step g) e = refl
predicate_allowed (path g) e = refl
predicate_allowed (condition c) e = refl
predicate_allowed q e = absurd cc

-- a test that is stronger passes where a weaker one does
all_weaker : (p r : Quietly → Bool) (qs : List Quietly) → ((q : Quietly) → p q ≡ true → r q ≡ true) → list_all p qs ≡ true → list_all r qs ≡ true
all_weaker p r [] h e = refl
all_weaker p r (q ∷ qs) h e = let f = and_parts (p q) (list_all p qs) e in rw (h q f.0, all_weaker p r qs h f.1) refl

either_allowed : (q : Quietly) → (is_truth q || is_numeric q) ≡ true → is_pattern_form q ≡ true
either_allowed q e = by (is_truth q) refl e
  where
    by : (b : Bool) → is_truth q ≡ b → (b || is_numeric q) ≡ true → is_pattern_form q ≡ true
    by true f g = truth_allowed q f
    by false f g = numeric_allowed q g

no_form : is_pattern_form other ≡ false
unfolding is_pattern_form
no_form = refl

-- or

any_by : (qs : List Quietly) (b : Bool) → list_all is_truth qs ≡ b → is_pattern_form (if b then condition (λ f. list_any (λ q. holds_at q f) qs) else other) ≡ true → list_all is_truth qs ≡ true
any_by qs true e h = e
any_by qs false e h = never (sym no_form ∙ h)

pub any_truths : (qs : List Quietly) → is_pattern_form (any_of qs) ≡ true → list_all is_truth qs ≡ true
any_truths qs h = any_by qs (list_all is_truth qs) refl h

pub any_allowed : (qs : List Quietly) → is_pattern_form (any_of qs) ≡ true → list_all is_pattern_form qs ≡ true
any_allowed qs h = all_weaker is_truth is_pattern_form qs truth_allowed (any_truths qs h)

pub any_holds : (qs : List Quietly) (f : Focus) → is_pattern_form (any_of qs) ≡ true → list_any (λ q. holds_at q f) qs ≡ holds_at (any_of qs) f
unfolding holds_at
any_holds qs f h = rw (any_truths qs h) refl

-- and

pub all_allowed : (qs : List Quietly) → is_pattern_form (all_of qs) ≡ true → list_all is_pattern_form qs ≡ true
all_allowed qs h = by (list_all is_truth qs) refl (is_conjunction qs) refl h
  where
    by : (b : Bool) → list_all is_truth qs ≡ b → (d : Bool) → is_conjunction qs ≡ d → is_pattern_form (if b then condition (holds_all qs) else if d then conjunction (holds_all qs) else other) ≡ true → list_all is_pattern_form qs ≡ true
    by true e d g h = all_weaker is_truth is_pattern_form qs truth_allowed e
    by false e true g h = all_weaker (λ q. is_truth q || is_numeric q) is_pattern_form qs either_allowed (and_parts (list_all (λ q. is_truth q || is_numeric q) qs) _ g).0
    by false e false g h = never (sym no_form ∙ h)

pub all_holds : (qs : List Quietly) (f : Focus) → is_pattern_form (all_of qs) ≡ true → list_all (λ q. holds_at q f) qs ≡ holds_at (all_of qs) f
unfolding holds_at
all_holds qs f h = by (list_all is_truth qs) (is_conjunction qs) h
  where
    by : (b d : Bool) → is_pattern_form (if b then condition (holds_all qs) else if d then conjunction (holds_all qs) else other) ≡ true → list_all (λ q. holds_at q f) qs ≡ holds_at (if b then condition (holds_all qs) else if d then conjunction (holds_all qs) else other) f
    by true d h = refl
    by false true h = refl
    by false false h = never (sym no_form ∙ h)

-- paths

pub path_holds : (q : Quietly) (f : Focus) → is_path_form q ≡ true → has_some (nodes_of_form q f.node) ≡ holds_at q f
unfolding is_path_form nodes_of_form holds_at
path_holds (attribute g) f e = refl
path_holds (step g) f e = refl
path_holds (path g) f e = refl
path_holds q f e = absurd cc

with_is : (g : Nodes) (a : Quietly) → is_path_form (with_step g a) ≡ true → (is_path_form a ≡ true) × (nodes_of_form (with_step g a) ≡ slash_nodes (nodes_of_form a) g)
unfolding with_step is_path_form nodes_of_form
with_is g (attribute h) e = (refl, refl)
with_is g (step h) e = (refl, refl)
with_is g (path h) e = (refl, refl)
with_is g a e = absurd cc

pub record IsSlashed (a b : Quietly) : Type 0 where
  pub front : is_path_form a ≡ true
  pub last_step : is_path_form b ≡ true
  pub is : nodes_of_form (slashed a b) ≡ slash_nodes (nodes_of_form a) (nodes_of_form b)

pub slashed_is : (a b : Quietly) → is_path_form (slashed a b) ≡ true → IsSlashed a b
unfolding slashed is_path_form nodes_of_form
slashed_is a (attribute g) e = let f = with_is g a e in record { front = f.0; last_step = refl; is = f.1 }
slashed_is a (step g) e = let f = with_is g a e in record { front = f.0; last_step = refl; is = f.1 }
slashed_is a b e = absurd cc

pub slashed_form : (a b : Quietly) → is_pattern_form (slashed a b) ≡ true → is_path_form (slashed a b) ≡ true
unfolding with_step is_pattern_form is_path_form slashed
slashed_form a b e = form_of_slashed a b e
  where
    form_of_with : (g : Nodes) (a : Quietly) → is_pattern_form (with_step g a) ≡ true → is_path_form (with_step g a) ≡ true
    form_of_with g (attribute h) e = refl
    form_of_with g (step h) e = refl
    form_of_with g (path h) e = refl
    form_of_with g a e = absurd cc

    form_of_slashed : (a b : Quietly) → is_pattern_form (slashed a b) ≡ true → is_path_form (slashed a b) ≡ true
    form_of_slashed a (attribute g) e = form_of_with g a e
    form_of_slashed a (step g) e = form_of_with g a e
    form_of_slashed a b e = absurd cc

no_tests : (along : Axis) (wanted : Test) (qs : List Quietly) → is_attribute_name along wanted qs ≡ true → qs ≡ []
no_tests along wanted [] e = refl
no_tests along wanted (q ∷ qs) e = let bare = (and_parts (is_attribute_axis along && is_named wanted) false e).1 in absurd (cc)

pub record IsStepped (along : Axis) (wanted : Test) (qs : List Quietly) : Type 0 where
  pub allowed : list_all is_pattern_form qs ≡ true
  pub is : nodes_of_form (stepped along wanted qs) ≡ step_nodes along wanted (map holds_at qs)

pub stepped_is : (along : Axis) (wanted : Test) (qs : List Quietly) → is_path_form (stepped along wanted qs) ≡ true → IsStepped along wanted qs
unfolding is_path_form nodes_of_form
stepped_is along wanted qs h = by (is_attribute_name along wanted qs) refl (list_all is_predicate qs) refl h
  where
    by : (b : Bool) → is_attribute_name along wanted qs ≡ b → (d : Bool) → list_all is_predicate qs ≡ d
        → is_path_form (if b then attribute (step_nodes along wanted []) else if d then step (step_nodes along wanted (map holds_at qs)) else other) ≡ true → IsStepped along wanted qs
    by true e d g h = let none = no_tests along wanted qs e in record { allowed = rw none refl; is = rw (e, none) refl }
    by false e true g h = record { allowed = all_weaker is_predicate is_pattern_form qs predicate_allowed g; is = rw (e, g) refl }
    by false e false g h = absurd cc

pub stepped_form : (along : Axis) (wanted : Test) (qs : List Quietly) → is_pattern_form (stepped along wanted qs) ≡ true → is_path_form (stepped along wanted qs) ≡ true
unfolding is_path_form is_pattern_form
stepped_form along wanted qs h = by (is_attribute_name along wanted qs) (list_all is_predicate qs) h
  where
    by : (b d : Bool) → is_pattern_form (if b then attribute (step_nodes along wanted []) else if d then step (step_nodes along wanted (map holds_at qs)) else other) ≡ true
        → is_path_form (if b then attribute (step_nodes along wanted []) else if d then step (step_nodes along wanted (map holds_at qs)) else other) ≡ true
    by true d h = refl
    by false true h = refl
    by false false h = absurd cc

pub some_any : (p : Place → Bool) (ns : List Place) → ((n : Place) → p n ≡ true) → list_any p ns ≡ has_some ns
some_any p [] h = refl
some_any p (n ∷ ns) h = rw (h n) refl

-- calls

pub negated_is : (a : Quietly) (f : Focus) → is_pattern_form (negated a) ≡ true → (is_pattern_form a ≡ true) × (not (holds_at a f) ≡ holds_at (negated a) f)
unfolding holds_at
negated_is a f h = by (is_truth a) refl h
  where
    by : (b : Bool) → is_truth a ≡ b → is_pattern_form (if b then condition (λ g. not (holds_at a g)) else other) ≡ true
        → (is_pattern_form a ≡ true) × (not (holds_at a f) ≡ holds_at (negated a) f)
    by true e h = (truth_allowed a e, rw e refl)
    by false e h = never (sym no_form ∙ h)

if_same : (b s : Bool) → (if b then s else not s) ≡ (if s then b else not b)
if_same true true = refl
if_same true false = refl
if_same false true = refl
if_same false false = refl

pub exists_is : (b : Bool) (a : Quietly) (f : Focus) → is_pattern_form (some_in b a) ≡ true
    → (is_path_form a ≡ true) × ((if b then has_some (nodes_of_form a f.node) else not (has_some (nodes_of_form a f.node))) ≡ holds_at (some_in b a) f)
unfolding some_in is_pattern_form is_path_form nodes_of_form holds_at
exists_is b (attribute g) f h = (refl, refl)
exists_is b (step g) f h = (refl, refl)
exists_is b (path g) f h = (refl, refl)
exists_is b a f h = absurd cc

pub counted_is : (a : Quietly) (f : Focus) → is_path_form a ≡ true → Some (length (nodes_of_form a f.node)) ≡ number_in (counted a) f
unfolding is_path_form counted number_in nodes_of_form
counted_is (attribute g) f h = refl
counted_is (step g) f h = refl
counted_is (path g) f h = refl
counted_is a f h = absurd cc

-- comparisons

pub number_compares : (op : CompareOp) (k : ℤ) (q : Quietly) (f : Focus) (n : ℕ) → number_in q f ≡ Some n → compares op (atom.Int (pos n)) (atom.Int k) ≡ holds_at (compared_with_integer op k q) f
unfolding compared_with_integer number_in holds_at
number_compares op k position f n e = let same : f.position ≡ n = cc in rw same refl
number_compares op k last f n e = let same : f.size ≡ n = cc in rw same refl
number_compares op k (count_of g) f n e = let same : length (g f.node) ≡ n = cc in rw same refl
number_compares op k q f n e = absurd cc

pub node_compares : (op : CompareOp) (k : ℤ) (q : Quietly) (f : Focus) → is_pattern_form (compared_with_integer op k q) ≡ true → number_in q f ≡ None
    → (is_path_form q ≡ true) × (some_compares op (atom.Int k) (nodes_of_form q f.node) ≡ holds_at (compared_with_integer op k q) f)
unfolding compared_with_integer number_in is_pattern_form is_path_form nodes_of_form holds_at
node_compares op k (attribute g) f h e = (refl, refl)
node_compares op k position f h e = absurd cc
node_compares op k last f h e = absurd cc
node_compares op k (count_of g) f h e = absurd cc
node_compares op k q f h e = absurd cc

pub text_compares : (op : CompareOp) (t : List ℕ) (q : Quietly) (f : Focus) → is_pattern_form (compared_with_literal op t q) ≡ true → is_path_form q ≡ true
    → some_compares op (atom.Str t) (nodes_of_form q f.node) ≡ holds_at (compared_with_literal op t q) f
unfolding compared_with_literal is_path_form nodes_of_form holds_at
text_compares op t (attribute g) f h e = refl
text_compares op t (step g) f h e = refl
text_compares op t (path g) f h e = refl
text_compares op t q f h e = absurd cc
