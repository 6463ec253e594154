-- What is free of its place keeps a node anywhere.
use Rattle.std.proofs.Common.{◌≡◌, ℕ, ℤ, List, [], ◌∷◌, map, refl, ap, ap₂, Bool, true, false}
use Rattle.std.proofs.Common.{codes, ◌&&◌}
use Rattle.std.specs.Prelude.{if◌then◌else◌, ◌||◌, not}
use Rattle.std.specs.List.{list_all, list_any}
use Rattle.std.specs.Str.{bytes_eq}
use Rattle.std.proofs.lemmas.Bool.{and_parts}
use Rattle.xt_names.specs.declared.kinds.CompareOp.{CompareOp}
use Rattle.xt_types.specs.declared.axes.Axis.{Axis}
use Rattle.xt_types.specs.declared.node_tests.Test.{Test}
use Rattle.xt_tree.specs.Place.{Place}
use Rattle.xt_syntax.specs.declared.exprs.Expr.{Expr}
use Rattle.xt_syntax.specs.declared.exprs.Arm.{Arm}
use Rattle.xt_syntax.specs.declared.exprs.Clause.{Clause}
use Rattle.xt_syntax.specs.declared.exprs.Order.{Order}
use Rattle.xt_syntax.specs.declared.exprs.Flwor.{Flwor as FlworOf}
use Rattle.xt_syntax.specs.declared.exprs.Bind.{Bind}
use Rattle.xt_syntax.specs.declared.exprs.NameSource.{NameSource}
use Rattle.xt_syntax.specs.declared.exprs.DirectAttr.{DirectAttr}
use Rattle.xt_syntax.specs.declared.exprs.Part.{Part}
use Rattle.xt_syntax.specs.declared.exprs.Clause.TheViews.{roll-Expr}
use Rattle.xt_syntax.specs.declared.exprs.Clause.TheFolds.{fold-roll-Expr, map-Expr, ind-Expr}
use Rattle.xt_syntax.specs.declared.exprs.Clause.TheOpen.{Expr-F, Int, Or, And, General, Slash}
use Rattle.xt_syntax.specs.declared.exprs.Clause.TheOpen.{Step, Call}
use Rattle.xt_syntax.specs.Layers.{Kinds, ExprLayer, clause_gives, name_gives, part_gives}
use Rattle.xt_syntax.specs.Layers.{arm_gives, bind_gives, attr_gives, flwor_gives, order_gives}
use Rattle.xt_forms.specs.Quiet.{quiet_call}
use Rattle.xt_forms.specs.declared.quiet_calls.QuietCall.{QuietCall}
use Rattle.xt_forms.specs.declared.quiet_calls.QuietCall.TheVariants as call
use Rattle.node_axes.specs.StepWalks.Nodes.{Focus, Nodes, step_nodes}
use Rattle.node_axes.specs.StepWalks.Sifted.{IsSizeFree}
use Rattle.quiet_meaning.specs.Quietly.{Quietly, integer, literal, position, last, attribute, step}
use Rattle.quiet_meaning.specs.Quietly.{path, condition, conjunction, other, quietly_of, holds_at}
use Rattle.quiet_meaning.specs.Quietly.{is_truth, is_predicate, is_conjunction, holds_all, any_of}
use Rattle.quiet_meaning.specs.Quietly.{all_of, is_attribute_name, stepped, slashed, with_step}
use Rattle.quiet_meaning.specs.Quietly.{compared, compared_with_integer, compared_with_literal}
use Rattle.quiet_meaning.specs.Quietly.{compared_with_last, negated, some_in, counted, called}
use Rattle.quiet_meaning.specs.Quietly.{called_with, call_gives}
use Rattle.quiet_meaning.proofs.FormLemmas.{gives_quietly, rolled_quietly}
use Rattle.quiet_eval.specs.QuietPlaces.Free.{focus, IsSame, IsAlike, frees, free_steps, expr_free}
use Rattle.quiet_eval.specs.QuietPlaces.Free.{called_free, free_of}
use Rattle.quiet_eval.specs.QuietPlaces.Free.{is_place_free_expr, is_size_free_expr}

unfoldable is_placed : Bool → Quietly → Bool
is_placed placed position = not placed
is_placed placed last = true
is_placed placed q = false

abbrev AllSame : Bool → List Quietly → Type 0
AllSame placed [] = Unit {0}
AllSame placed (q ∷ qs) = IsAlike placed q × AllSame placed qs

other_same : (placed : Bool) → IsAlike placed other
unfolding holds_at
other_same placed n a s b r e = refl

if_same : (placed : Bool) (b : Bool) (x y : Quietly) → IsAlike placed x → IsAlike placed y
    → IsAlike placed (if b then x else y)
if_same placed true x y h g = h
if_same placed false x y h g = g

if_placed : (placed : Bool) (b : Bool) (x y : Quietly) → is_placed placed x ≡ false
    → is_placed placed y ≡ false → is_placed placed (if b then x else y) ≡ false
if_placed placed true x y h g = h
if_placed placed false x y h g = g

some_holds : (placed : Bool) (qs : List Quietly) → AllSame placed qs
    → (n : Place) (a s b r : ℕ) (e : placed ≡ true → a ≡ b)
    → list_any (λ q. holds_at q (focus n a s)) qs ≡ list_any (λ q. holds_at q (focus n b r)) qs
some_holds placed [] h n a s b r e = refl
some_holds placed (q ∷ qs) h n a s b r e = ap₂ (λ (x y : Bool). x || y) (h.0 n a s b r e)
    (some_holds placed qs h.1 n a s b r e)

all_hold : (placed : Bool) (qs : List Quietly) → AllSame placed qs
    → (n : Place) (a s b r : ℕ) (e : placed ≡ true → a ≡ b)
    → list_all (λ q. holds_at q (focus n a s)) qs ≡ list_all (λ q. holds_at q (focus n b r)) qs
all_hold placed [] h n a s b r e = refl
all_hold placed (q ∷ qs) h n a s b r e = ap₂ (λ (x y : Bool). x && y) (h.0 n a s b r e)
    (all_hold placed qs h.1 n a s b r e)

condition_same : (placed : Bool) (c : Focus → Bool)
    → ((n : Place) (a s b r : ℕ) (e : placed ≡ true → a ≡ b)
    → c (focus n a s) ≡ c (focus n b r)) → IsAlike placed (condition c)
unfolding holds_at
condition_same placed c h n a s b r e = h n a s b r e

conjunction_same : (placed : Bool) (c : Focus → Bool)
    → ((n : Place) (a s b r : ℕ) (e : placed ≡ true → a ≡ b)
    → c (focus n a s) ≡ c (focus n b r)) → IsAlike placed (conjunction c)
unfolding holds_at
conjunction_same placed c h n a s b r e = h n a s b r e

any_same : (placed : Bool) (qs : List Quietly) → AllSame placed qs → IsAlike placed (any_of qs)
any_same placed qs h = if_same placed (list_all is_truth qs)
    (condition (λ f. list_any (λ q. holds_at q f) qs)) other
    (condition_same placed _ (some_holds placed qs h)) (other_same placed)

all_same : (placed : Bool) (qs : List Quietly) → AllSame placed qs → IsAlike placed (all_of qs)
all_same placed qs h =
    if_same placed (list_all is_truth qs) (condition (holds_all qs))
    (if is_conjunction qs then conjunction (holds_all qs) else other)
    (condition_same placed (holds_all qs) (all_hold placed qs h))
    (if_same placed (is_conjunction qs) (conjunction (holds_all qs)) other
    (conjunction_same placed (holds_all qs) (all_hold placed qs h)) (other_same placed))

any_placed : (placed : Bool) (qs : List Quietly) → is_placed placed (any_of qs) ≡ false
unfolding is_placed
any_placed placed qs = if_placed placed (list_all is_truth qs)
    (condition (λ f. list_any (λ q. holds_at q f) qs)) other refl refl

all_placed : (placed : Bool) (qs : List Quietly) → is_placed placed (all_of qs) ≡ false
unfolding is_placed
all_placed placed qs = if_placed placed (list_all is_truth qs) (condition (holds_all qs))
    (if is_conjunction qs then conjunction (holds_all qs) else other) refl
    (if_placed placed (is_conjunction qs) (conjunction (holds_all qs)) other refl refl)

-- comparisons

integer_same : (placed : Bool) (op : CompareOp) (k : ℤ) (a : Quietly)
    → is_placed placed a ≡ false → IsAlike placed (compared_with_integer op k a)
unfolding compared_with_integer holds_at is_placed
integer_same true op k position h n a s b r e = let f : a ≡ b = e refl in rw f refl
integer_same false op k position h n a s b r e = absurd cc
integer_same placed op k last h n a s b r e = absurd cc
integer_same placed op k q h n a s b r e = refl

literal_same : (placed : Bool) (op : CompareOp) (t : List ℕ) (a : Quietly)
    → IsAlike placed (compared_with_literal op t a)
unfolding compared_with_literal holds_at
literal_same placed op t position n a s b r e = refl
literal_same placed op t q n a s b r e = refl

compared_same : (placed : Bool) (op : CompareOp) (a b : Quietly) → is_placed placed a ≡ false
    → is_placed placed b ≡ false → IsAlike placed (compared op a b)
unfolding compared is_placed holds_at
compared_same placed op a (integer k) h g = integer_same placed op k a h
compared_same placed op a (literal t) h g = literal_same placed op t a
compared_same placed op a last h g = absurd cc
compared_same placed op a q h g = λ n a s b r e. refl

integer_placed : (placed : Bool) (op : CompareOp) (k : ℤ) (a : Quietly)
    → is_placed placed (compared_with_integer op k a) ≡ false
unfolding compared_with_integer is_placed
integer_placed placed op k position = refl
integer_placed placed op k a = refl

literal_placed : (placed : Bool) (op : CompareOp) (t : List ℕ) (a : Quietly)
    → is_placed placed (compared_with_literal op t a) ≡ false
unfolding compared_with_literal is_placed
literal_placed placed op t position = refl
literal_placed placed op t a = refl

last_placed : (placed : Bool) (op : CompareOp) (a : Quietly)
    → is_placed placed (compared_with_last op a) ≡ false
unfolding compared_with_last is_placed
last_placed placed op position = refl
last_placed placed op a = refl

compared_placed : (placed : Bool) (op : CompareOp) (a b : Quietly)
    → is_placed placed (compared op a b) ≡ false
unfolding compared is_placed
compared_placed placed op a (integer n) = integer_placed placed op n a
compared_placed placed op a (literal t) = literal_placed placed op t a
compared_placed placed op a last = last_placed placed op a
compared_placed placed op a b = refl

-- steps and paths

with_same : (placed : Bool) (g : Nodes) (a : Quietly) → IsAlike placed (with_step g a)
unfolding with_step holds_at
with_same placed g (attribute h) n a s b r e = refl
with_same placed g (step h) n a s b r e = refl
with_same placed g (path h) n a s b r e = refl
with_same placed g q n a s b r e = refl

slashed_same : (placed : Bool) (a b : Quietly) → IsAlike placed (slashed a b)
unfolding slashed holds_at
slashed_same placed a (attribute g) = with_same placed g a
slashed_same placed a (step g) = with_same placed g a
slashed_same placed a q = λ n a s b r e. refl

with_placed : (placed : Bool) (g : Nodes) (a : Quietly) → is_placed placed (with_step g a) ≡ false
unfolding with_step is_placed
with_placed placed g (attribute h) = refl
with_placed placed g (step h) = refl
with_placed placed g (path h) = refl
with_placed placed g a = refl

slashed_placed : (placed : Bool) (a b : Quietly) → is_placed placed (slashed a b) ≡ false
unfolding slashed is_placed
slashed_placed placed a (attribute g) = with_placed placed g a
slashed_placed placed a (step g) = with_placed placed g a
slashed_placed placed a b = refl

attribute_same : (placed : Bool) (g : Nodes) → IsAlike placed (attribute g)
unfolding holds_at
attribute_same placed g n a s b r e = refl

step_same : (placed : Bool) (g : Nodes) → IsAlike placed (step g)
unfolding holds_at
step_same placed g n a s b r e = refl

stepped_same : (placed : Bool) (along : Axis) (wanted : Test) (qs : List Quietly)
    → IsAlike placed (stepped along wanted qs)
stepped_same placed along wanted qs =
    if_same placed (is_attribute_name along wanted qs) (attribute (step_nodes along wanted []))
    (if list_all is_predicate qs then step
    (step_nodes along wanted (map holds_at qs)) else other) (attribute_same placed _)
    (if_same placed (list_all is_predicate qs)
    (step (step_nodes along wanted (map holds_at qs))) other (step_same placed _)
    (other_same placed))

stepped_placed : (placed : Bool) (along : Axis) (wanted : Test) (qs : List Quietly)
    → is_placed placed (stepped along wanted qs) ≡ false
unfolding is_placed
stepped_placed placed along wanted qs =
    if_placed placed (is_attribute_name along wanted qs)
    (attribute (step_nodes along wanted []))
    (if list_all is_predicate qs then step
    (step_nodes along wanted (map holds_at qs)) else other) refl
    (if_placed placed (list_all is_predicate qs)
    (step (step_nodes along wanted (map holds_at qs))) other refl refl)

-- calls

some_same : (placed : Bool) (exists : Bool) (a : Quietly) → IsAlike placed (some_in exists a)
unfolding some_in holds_at
some_same placed exists (attribute g) n a s b r e = refl
some_same placed exists (step g) n a s b r e = refl
some_same placed exists (path g) n a s b r e = refl
some_same placed exists q n a s b r e = refl

counted_same : (placed : Bool) (a : Quietly) → IsAlike placed (counted a)
unfolding counted holds_at
counted_same placed (attribute g) n a s b r e = refl
counted_same placed (step g) n a s b r e = refl
counted_same placed (path g) n a s b r e = refl
counted_same placed q n a s b r e = refl

negated_same : (placed : Bool) (a : Quietly) → IsAlike placed a → IsAlike placed (negated a)
negated_same placed a h = if_same placed (is_truth a)
    (condition (λ f. not (holds_at a f))) other
    (condition_same placed (λ f. not (holds_at a f)) (λ n x s b r e. ap not (h n x s b r e)))
    (other_same placed)

some_placed : (placed : Bool) (exists : Bool) (a : Quietly)
    → is_placed placed (some_in exists a) ≡ false
unfolding some_in is_placed
some_placed placed exists position = refl
some_placed placed exists a = refl

counted_placed : (placed : Bool) (a : Quietly) → is_placed placed (counted a) ≡ false
unfolding counted is_placed
counted_placed placed position = refl
counted_placed placed a = refl

negated_placed : (placed : Bool) (a : Quietly) → is_placed placed (negated a) ≡ false
unfolding is_placed
negated_placed placed a = if_placed placed (is_truth a)
    (condition (λ f. not (holds_at a f))) other refl refl

-- by induction

abbrev IsFree : Expr → Type 0
IsFree e = (placed : Bool)
    → (free_of e placed false ≡ true → IsAlike placed (quietly_of e))
    × (free_of e placed true ≡ true → is_placed placed (quietly_of e) ≡ false)

abbrev pairs : Kinds
pairs = record {
  Clauses = Clause × Unit {0};
  Exprs = (e : Expr) × IsFree e;
  Names = NameSource × Unit {0};
  Parts = Part × Unit {0};
  Arms = Arm × Unit {0};
  Binds = Bind × Unit {0};
  Attrs = DirectAttr × Unit {0};
  Flwors = FlworOf × Unit {0};
  Orders = Order × Unit {0};
}

abbrev plain : ExprLayer pairs
    → Expr-F Clause Expr NameSource Part Arm Bind DirectAttr FlworOf Order
plain = map-Expr pairs.Clauses pairs.Exprs pairs.Names pairs.Parts pairs.Arms pairs.Binds pairs.Attrs pairs.Flwors pairs.Orders
    Clause Expr NameSource Part Arm Bind DirectAttr FlworOf Order
    (λ p. p.0) (λ p. p.0) (λ p. p.0) (λ p. p.0) (λ p. p.0) (λ p. p.0) (λ p. p.0) (λ p. p.0)
    (λ p. p.0)

abbrev gives_free : Expr-F Clause Expr NameSource Part Arm Bind DirectAttr FlworOf Order → Bool
    → Bool → Bool
gives_free x = expr_free (map-Expr Clause Expr NameSource Part Arm Bind DirectAttr FlworOf Order
    frees.Clauses frees.Exprs frees.Names frees.Parts frees.Arms frees.Binds frees.Attrs frees.Flwors frees.Orders
    (clause_gives frees free_steps) free_of (name_gives frees free_steps)
    (part_gives frees free_steps) (arm_gives frees free_steps)
    (bind_gives frees free_steps) (attr_gives frees free_steps) (flwor_gives frees free_steps)
    (order_gives frees free_steps) x)

rolled_free : (x : Expr-F Clause Expr NameSource Part Arm Bind DirectAttr FlworOf Order)
    → free_of (roll-Expr x) ≡ gives_free x
rolled_free x = fold-roll-Expr _ _ _ _ _ _ _ _ _ _ _ _ _ _ _ _ _ _ x

abbrev exprs : List ((e : Expr) × IsFree e) → List Expr
exprs ys = map (λ p. p.0) ys

each_same : (placed : Bool) (ys : List ((e : Expr) × IsFree e))
    → list_all (λ f. f placed false) (map free_of (exprs ys)) ≡ true
    → AllSame placed (map quietly_of (exprs ys))
each_same placed [] h = tt
each_same placed (y ∷ ys) h = let p = and_parts (free_of y.0 placed false)
    (list_all (λ (f : Bool → Bool → Bool). f placed false) (map free_of (exprs ys))) h in
    ((y.1 placed).0 p.0, each_same placed ys p.1)

called_same : (placed : Bool) (k : QuietCall) (local : List ℕ) → called_free placed k [] ≡ true
    → IsAlike placed (called k local)
unfolding called_free called holds_at
called_same placed call.Last local h n a s b r e = absurd cc
called_same placed k local h n a s b r e = refl

called_placed : (placed : Bool) (k : QuietCall) (local : List ℕ)
    → called_free placed k [] ≡ true → is_placed placed (called k local) ≡ false
unfolding called_free called is_placed
called_placed placed call.Position local h = ap not h
called_placed placed call.Last local h = absurd cc
called_placed placed k local h = refl

called_with_same : (placed : Bool) (k : QuietCall) (local : List ℕ) (y : (e : Expr) × IsFree e)
    → called_free placed k (map free_of (exprs (y ∷ []))) ≡ true
    → IsAlike placed (called_with k local (quietly_of y.0))
unfolding called_free called_with
called_with_same placed call.Not local y h = negated_same placed (quietly_of y.0)
    (each_same placed (y ∷ []) h).0
called_with_same placed call.Exists local y h = some_same placed
    (bytes_eq local (codes "exists")) (quietly_of y.0)
called_with_same placed call.Count local y h = counted_same placed (quietly_of y.0)
called_with_same placed k local y h = other_same placed

called_with_placed : (placed : Bool) (k : QuietCall) (local : List ℕ) (q : Quietly)
    → is_placed placed (called_with k local q) ≡ false
unfolding called_with is_placed
called_with_placed placed call.Not local q = negated_placed placed q
called_with_placed placed call.Exists local q = some_placed placed
    (bytes_eq local (codes "exists")) q
called_with_placed placed call.Count local q = counted_placed placed q
called_with_placed placed k local q = refl

call_same : (placed : Bool) (k : QuietCall) (local : List ℕ) (ys : List ((e : Expr) × IsFree e))
    → called_free placed k (map free_of (exprs ys)) ≡ true
    → IsAlike placed (call_gives k local (map quietly_of (exprs ys)))
unfolding call_gives
call_same placed k local [] h = called_same placed k local h
call_same placed k local (y ∷ []) h = called_with_same placed k local y h
call_same placed k local (y ∷ z ∷ more) h = other_same placed

call_placed : (placed : Bool) (k : QuietCall) (local : List ℕ)
    (ys : List ((e : Expr) × IsFree e)) → called_free placed k (map free_of (exprs ys)) ≡ true
    → is_placed placed (call_gives k local (map quietly_of (exprs ys))) ≡ false
unfolding call_gives is_placed
call_placed placed k local [] h = called_placed placed k local h
call_placed placed k local (y ∷ []) h = called_with_placed placed k local (quietly_of y.0)
call_placed placed k local (y ∷ z ∷ more) h = refl

one_free : (placed : Bool) (y : ExprLayer pairs)
    → (gives_free (plain y) placed false ≡ true → IsAlike placed (gives_quietly (plain y)))
    × (gives_free (plain y) placed true ≡ true
    → is_placed placed (gives_quietly (plain y)) ≡ false)
unfolding holds_at is_placed
one_free true (Int k) = (λ h n a s b r e. let f : a ≡ b = e refl in rw f refl, λ h. refl)
one_free false (Int k) = (λ h. absurd cc, λ h. refl)
one_free placed (Or all) = (
  λ h. any_same placed (map quietly_of (exprs all))
      (each_same placed all h),
  λ h. any_placed placed (map quietly_of (exprs all)),
)
one_free placed (And all) = (
  λ h. all_same placed (map quietly_of (exprs all))
      (each_same placed all h),
  λ h. all_placed placed (map quietly_of (exprs all)),
)
one_free placed (General op a b) = (
  λ h. let p = and_parts (free_of a.0 placed true)
      (free_of b.0 placed true) h in compared_same placed op (quietly_of a.0) (quietly_of b.0)
      ((a.1 placed).1 p.0) ((b.1 placed).1 p.1),
  λ h. compared_placed placed op
      (quietly_of a.0) (quietly_of b.0),
)
one_free placed (Slash a b) = (
  λ h. slashed_same placed (quietly_of a.0)
      (quietly_of b.0),
  λ h. slashed_placed placed (quietly_of a.0) (quietly_of b.0),
)
one_free placed (Step along wanted tests) = (
  λ h. stepped_same placed along wanted
      (map quietly_of (exprs tests)),
  λ h. stepped_placed placed along wanted
      (map quietly_of (exprs tests)),
)
one_free placed (Call name args) = (
  λ h. call_same placed (quiet_call name) name.local args h,
  λ h. call_placed placed
      (quiet_call name) name.local args h,
)
one_free placed x = (λ h n a s b r e. refl, λ h. refl)

step_free : (x : Expr-F Clause Expr NameSource Part Arm Bind DirectAttr FlworOf Order)
    (y : ExprLayer pairs) → plain y ≡ x → IsFree (roll-Expr x)
step_free x y is = rw (← is, rolled_quietly (plain y), rolled_free (plain y))
    (λ placed. one_free placed y)

all_free : (e : Expr) → IsFree e
all_free = ind-Expr (λ _. Unit {0}) IsFree (λ _. Unit {0}) (λ _. Unit {0}) (λ _. Unit {0})
    (λ _. Unit {0}) (λ _. Unit {0}) (λ _. Unit {0}) (λ _. Unit {0})
    (λ x y is. tt) step_free (λ x y is. tt) (λ x y is. tt) (λ x y is. tt) (λ x y is. tt)
    (λ x y is. tt) (λ x y is. tt) (λ x y is. tt)

pub free_is_same : (e : Expr) → is_place_free_expr e ≡ true → IsSame (quietly_of e)
free_is_same e h n a s b r = (all_free e false).0 h n a s b r (λ f. absurd cc)

pub size_free : (e : Expr) → is_size_free_expr e ≡ true → IsSizeFree (holds_at (quietly_of e))
size_free e h n a few many = (all_free e true).0 h n a few a many (λ f. refl)
