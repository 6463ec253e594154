-- What makes no tree does the same whatever number the next tree has: forms of expressions do so where
-- their parts do.
use Rattle.std.proofs.Common.{◌≡◌, ℕ, List, [], ◌∷◌, map, length, refl, sym, ap, ◌∙◌}
use Rattle.std.specs.Bool.{beq}
use Rattle.std.specs.Prelude.{Bool, true, false, not, if◌then◌else◌, Option, Some, None, Result, Ok, Err}
use Rattle.xt_names.specs.declared.codes.Code.{Code}
use Rattle.xt_names.specs.declared.names.ExprName.{ExprName}
use Rattle.xt_types.specs.declared.axes.Axis.{Axis}
use Rattle.xt_types.specs.declared.node_tests.Test.{Test}
use Rattle.xt_tree.specs.Place.{Place}
use Rattle.xt_atoms.specs.Casts.{wrong_type}
use Rattle.xt_atoms.specs.declared.atoms.Atom.{Atom as AtomValue}
use Rattle.xdm_items.specs.Truth.{truth_of}
use Rattle.xdm_items.specs.declared.items.Item.{Item}
use Rattle.fn_lib.specs.Values.{argument}
use Rattle.order_group.specs.Rows.{mixed_column, in_order}
use Rattle.operator_values.specs.Operands.{atom_of}
use Rattle.expr_meaning.specs.Outcomes.Outcome.{Outcome, Ends, Fails, Deep, and_then, for_each, step_outcome, Every}
use Rattle.expr_meaning.specs.SortMeaning.Sorted.{key_cell, ordered, places, row_of, unless_mixed}
use Rattle.expr_meaning.specs.Calls.{Called, library, document, current, current_group, current_key}
use Rattle.expr_meaning.specs.Calls.{key, declared, called, call_of, call_value, current_value}
use Rattle.expr_meaning.specs.Calls.{document_value, keyed_root, library_value}
use Rattle.expr_meaning.specs.Calls.{listed, lists_of, literal_text}
use Rattle.expr_meaning.specs.Env.{Binding, Env, Meaning, Program, at_focus, bind, bind_all}
use Rattle.expr_meaning.specs.Flow.{ClauseMeaning, OrderMeaning, Tuples, columns_at}
use Rattle.expr_meaning.specs.Flow.{flow_of, flwor_of, for_at_clause, for_clause, for_item, for_place}
use Rattle.expr_meaning.specs.Flow.{keyed, kept_tuple, let_clause, where_clause}
use Rattle.expr_meaning.specs.Logic.{Bound, choice_of, first_of, item_decides}
use Rattle.expr_meaning.specs.Logic.{quantified, quantifier_of, truth_at, typed, and_of, or_of}
use Rattle.expr_meaning.specs.Paths.{alone_if, filter_of, kept, kept_at, kept_in_turn, kept_item}
use Rattle.expr_meaning.specs.Paths.{path_places, path_value, slash_of, step_items, step_of}
use Rattle.expr_meaning.specs.Values.{binary, comma_of, of_focus, unary}
use Rattle.key_functions.specs.Uses.{at_number}

abbrev pub IsStill : {A : Type 0} → (ℕ → Outcome A) → Type 0
IsStill f = (k : ℕ) → f k ≡ at_number (f 0) k

at_both : {A : Type 0} (o : Outcome A) (j k : ℕ) → at_number (at_number o j) k ≡ at_number o k
at_both (Ends v i) j k = refl
at_both (Fails code) j k = refl
at_both Deep j k = refl

pub still_then : {A B : Type 0} (f : ℕ → Outcome A) (g : A → ℕ → Outcome B) → IsStill f →
    ((v : A) → IsStill (g v)) → IsStill (λ k. and_then (f k) g)
still_then {A} f g h i k = ap (λ o. and_then o g) (h k) ∙ by (f 0)
  where
    by : (o : Outcome A) → and_then (at_number o k) g ≡ at_number (and_then o g) k
    by (Ends v j) =
        i v k ∙ sym (ap (λ o. at_number o k) (i v j) ∙ at_both (g v 0) j k)
    by (Fails code) = refl
    by Deep = refl

pub still_step : {A : Type 0} (r : Result A Code) → IsStill (step_outcome r)
still_step (Ok v) k = refl
still_step (Err code) k = refl

pub still_each : {A B : Type 0} (f : A → ℕ → Outcome (List B)) → ((x : A) → IsStill (f x)) →
    (xs : List A) → IsStill (for_each f xs)
still_each f h [] = λ k. refl
still_each f h (x ∷ xs) =
    still_then (f x) _ (h x) (λ ys. still_then (for_each f xs) _ (still_each f h xs) (λ zs k. refl))

still_if : {A : Type 0} (b : Bool) (f g : ℕ → Outcome A) → IsStill f → IsStill g →
    IsStill (λ k. if b then f k else g k)
still_if true f g h i = h
still_if false f g h i = i

abbrev pub StillMeaning : Meaning → Type 0
StillMeaning m = (e : Env) → IsStill (m e)

abbrev pub AllStill : List Meaning → Type 0
AllStill ms = Every StillMeaning ms

-- values
pub comma_still : (ms : List Meaning) → AllStill ms → StillMeaning (comma_of ms)
comma_still [] h e = λ k. refl
comma_still (m ∷ ms) h e =
    still_then (m e) _ (h.0 e) (λ ys.
    still_then (comma_of ms e) _ (comma_still ms h.1 e) (λ zs k. refl))

pub unary_still : (value : List Item → Result (List Item) Code) (a : Meaning) → StillMeaning a →
    StillMeaning (unary value a)
unary_still value a h e = still_then (a e) _ (h e) (λ xs. still_step (value xs))

pub binary_still : (value : List Item → List Item → Result (List Item) Code) (a b : Meaning) →
    StillMeaning a → StillMeaning b → StillMeaning (binary value a b)
binary_still value a b h i e =
    still_then (a e) _ (h e) (λ xs. still_then (b e) _ (i e) (λ ys. still_step (value xs ys)))

-- decisions
pub truth_still : (m : Meaning) → StillMeaning m → (e : Env) → IsStill (truth_at m e)
truth_still m h e = still_then (m e) _ (h e) (λ xs. still_step (truth_of xs))

first_still : (decisive : Bool) (ms : List Meaning) → AllStill ms → (e : Env) →
    IsStill (first_of decisive ms e)
first_still decisive [] h e = λ k. refl
first_still decisive (m ∷ ms) h e =
    still_then (truth_at m e) _ (truth_still m h.0 e) (λ t.
    still_if (beq t decisive) (Ends t) (first_of decisive ms e) (λ k. refl)
    (first_still decisive ms h.1 e))

pub or_still : (ms : List Meaning) → AllStill ms → StillMeaning (or_of ms)
or_still ms h e = still_then (first_of true ms e) _ (first_still true ms h e) (λ t k. refl)

pub and_still : (ms : List Meaning) → AllStill ms → StillMeaning (and_of ms)
and_still ms h e = still_then (first_of false ms e) _ (first_still false ms h e) (λ t k. refl)

abbrev pub ArmsStill : List (Meaning × Meaning) → Type 0
ArmsStill arms = Every (λ a. StillMeaning a.0 × StillMeaning a.1) arms

pub choice_still : (arms : List (Meaning × Meaning)) (other : Meaning) → ArmsStill arms →
    StillMeaning other → StillMeaning (choice_of arms other)
choice_still [] other h i = i
choice_still (a ∷ arms) other h i = λ e.
    still_then (truth_at a.0 e) _ (truth_still a.0 h.0.0 e) (λ t.
    still_if t (a.1 e) (choice_of arms other e) (h.0.1 e) (choice_still arms other h.1 i e))

abbrev pub BoundsStill : List Bound → Type 0
BoundsStill bs = Every (λ b. StillMeaning b.source) bs

module _ (decisive : Bool) (test : Meaning) (tested : StillMeaning test) where
  mutual_still : (b : Bound) (rest : Env → ℕ → Outcome Bool) → ((e : Env) → IsStill (rest e)) →
      (e : Env) (xs : List Item) → IsStill (item_decides decisive b rest e xs)
  mutual_still b rest h e [] = λ k. refl
  mutual_still b rest h e (x ∷ xs) =
      still_then (step_outcome (typed b.kind (x ∷ []))) _ (still_step (typed b.kind (x ∷ [])))
      (λ ys. still_then (rest (bind b.var ys e)) _ (h (bind b.var ys e)) (λ t.
      still_if (beq t decisive) (Ends t) (item_decides decisive b rest e xs) (λ k. refl)
      (mutual_still b rest h e xs)))

  quantified_still : (bs : List Bound) → BoundsStill bs → (e : Env) →
      IsStill (quantified decisive bs test e)
  quantified_still [] h e = truth_still test tested e
  quantified_still (b ∷ bs) h e =
      still_then (b.source e) _ (h.0 e)
      (mutual_still b (quantified decisive bs test) (quantified_still bs h.1) e)

pub quantifier_still : (every : Bool) (bs : List Bound) (test : Meaning) → BoundsStill bs →
    StillMeaning test → StillMeaning (quantifier_of every bs test)
quantifier_still every bs test h i e =
    still_then (quantified (not every) bs test e) _ (quantified_still (not every) test i bs h e)
    (λ t k. refl)

-- paths
alone_still : (x : Item) (b : Bool) → IsStill (alone_if x b)
alone_still x true k = refl
alone_still x false k = refl

kept_still : (test : Meaning) → StillMeaning test → (e : Env) (xs : List Item) →
    IsStill (kept test e xs)
kept_still test h e xs =
    still_then (step_outcome (places xs)) _ (still_step (places xs))
    (still_each (kept_item test e) (λ f.
    still_then (test (at_focus e f)) _ (h (at_focus e f)) (λ ys.
    still_then (step_outcome (kept_at f.place ys)) _ (still_step (kept_at f.place ys))
    (alone_still f.value))))

turns_still : (tests : List Meaning) → AllStill tests → (e : Env) (xs : List Item) →
    IsStill (kept_in_turn tests e xs)
turns_still [] h e xs = λ k. refl
turns_still (t ∷ tests) h e xs =
    still_then (kept t e xs) _ (kept_still t h.0 e xs) (turns_still tests h.1 e)

pub filter_still : (a : Meaning) (tests : List Meaning) → StillMeaning a → AllStill tests →
    StillMeaning (filter_of a tests)
filter_still a tests h i e = still_then (a e) _ (h e) (turns_still tests i e)

pub step_still : (axis : Axis) (wanted : Test) (tests : List Meaning) → AllStill tests →
    StillMeaning (step_of axis wanted tests)
step_still axis wanted tests h e =
    still_then (step_outcome (of_focus (λ f. step_items axis wanted f.value) e.focus)) _
    (still_step (of_focus (λ f. step_items axis wanted f.value) e.focus)) (λ xs.
    still_then (kept_in_turn tests e xs) _ (turns_still tests h e xs) (λ ys k. refl))

pub slash_still : (a b : Meaning) → StillMeaning a → StillMeaning b → StillMeaning (slash_of a b)
slash_still a b h i e =
    still_then (a e) _ (h e) (λ xs.
    still_then (step_outcome (path_places xs)) _ (still_step (path_places xs)) (λ fs.
    still_then (for_each (λ f. b (at_focus e f)) fs) _
    (still_each (λ f. b (at_focus e f)) (λ f. i (at_focus e f)) fs) (λ ys.
    still_step (path_value ys))))

-- calls, where those of declared functions and key() keep the number
pub record CallsStill (p : Program) : Type 0 where
  pub calls : (name : ExprName) (args : List (List Item)) → IsStill (p.calls name args)
  pub keys : (name : List ℕ) (values : List AtomValue) (root : Place) →
      IsStill (p.keys name values root)

lists_still : (ms : List Meaning) → AllStill ms → (e : Env) → IsStill (lists_of ms e)
lists_still [] h e = λ k. refl
lists_still (m ∷ ms) h e =
    still_then (listed e m) _ (still_then (m e) _ (h.0 e) (λ xs k. refl)) (λ ys.
    still_then (lists_of ms e) _ (lists_still ms h.1 e) (λ zs k. refl))

module _ (p : Program) (calls : CallsStill p) where
  value_still : (d : Called) (name : ExprName) (e : Env) (args : List (List Item)) →
      IsStill (call_value p d name e args)
  value_still (library f) name e args = still_step (library_value f e.focus args)
  value_still document name e args = still_step (document_value p (argument args 0))
  value_still current name e args = still_step (current_value e.state.current)
  value_still current_group name e args = λ k. refl
  value_still current_key name e args = λ k. refl
  value_still key name e args =
      still_then (step_outcome (keyed_root e.focus)) _ (still_step (keyed_root e.focus))
      (calls.keys (literal_text (argument args 0)) (map atom_of (argument args 1)))
  value_still declared name e args = calls.calls name args

  pub call_still : (name : ExprName) (ms : List Meaning) → AllStill ms →
      StillMeaning (call_of p name ms)
  call_still name ms h e =
      still_then (lists_of ms e) _ (lists_still ms h e)
      (value_still (called name (length ms)) name e)

-- flows
abbrev TuplesStill : Tuples → Type 0
TuplesStill r = (bound : List Binding) (e : Env) → IsStill (r bound e)

abbrev pub ClauseStill : ClauseMeaning → Type 0
ClauseStill c = (r : Tuples) → TuplesStill r → TuplesStill (c r)

pub for_still : (b : Bound) → StillMeaning b.source → ClauseStill (for_clause b)
for_still b h r i bound e =
    still_then (b.source (bind_all bound e)) _ (h (bind_all bound e))
    (still_each (for_item b r bound e) (λ x.
    still_then (step_outcome (typed b.kind (x ∷ []))) _ (still_step (typed b.kind (x ∷ [])))
    (λ ys. i ((b.var, ys) ∷ bound) e)))

pub at_still : (b : Bound) (at : ExprName) → StillMeaning b.source → ClauseStill (for_at_clause b at)
at_still b at h r i bound e =
    still_then (b.source (bind_all bound e)) _ (h (bind_all bound e)) (λ xs.
    still_then (step_outcome (places xs)) _ (still_step (places xs))
    (still_each (for_place b at r bound e) (λ f.
    still_then (step_outcome (typed b.kind (f.value ∷ []))) _
    (still_step (typed b.kind (f.value ∷ []))) (λ ys. i _ e))))

pub let_still : (b : Bound) → StillMeaning b.source → ClauseStill (let_clause b)
let_still b h r i bound e =
    still_then (b.source (bind_all bound e)) _ (h (bind_all bound e)) (λ xs.
    still_then (step_outcome (typed b.kind xs)) _ (still_step (typed b.kind xs))
    (λ ys. i ((b.var, ys) ∷ bound) e))

abbrev pub IfStill : Option Meaning → Type 0
IfStill None = Unit {0}
IfStill (Some m) = StillMeaning m

tuple_still : (r : Tuples) → TuplesStill r → (bound : List Binding) (e : Env) (b : Bool) →
    IsStill (kept_tuple r bound e b)
tuple_still r h bound e true = h bound e
tuple_still r h bound e false = λ k. refl

where_still : (test : Option Meaning) → IfStill test → ClauseStill (where_clause test)
where_still None h r i bound e = i bound e
where_still (Some m) h r i bound e =
    still_then (truth_at m (bind_all bound e)) _ (truth_still m h (bind_all bound e))
    (tuple_still r i bound e)

flow_still : (cs : List ClauseMeaning) → Every ClauseStill cs → ClauseStill (flow_of cs)
flow_still [] h r i = i
flow_still (c ∷ cs) h r i = h.0 (flow_of cs r) (flow_still cs h.1 r i)

row_still : {A : Type 0} (at : A → Env) (os : List OrderMeaning) →
    Every (λ o. StillMeaning o.0) os → (x : A) → IsStill (row_of (columns_at at os) x)
row_still at [] h x = λ k. refl
row_still at (o ∷ os) h x =
    still_then _ _ (still_then (o.0 (at x)) _ (h.0 (at x)) (λ xs. still_step (key_cell wrong_type xs)))
    (λ cell. still_then (row_of (columns_at at os) x) _ (row_still at os h.1 x) (λ cells k. refl))

mixed_still : {A : Type 0} (o : Option ℕ) (mixed : Code) (v : A) → IsStill (unless_mixed o mixed v)
mixed_still None mixed v k = refl
mixed_still (Some c) mixed v k = refl

pub flwor_still : (cs : List ClauseMeaning) (test : Option Meaning) (os : List OrderMeaning)
    (body : Meaning) → Every ClauseStill cs → IfStill test → Every (λ o. StillMeaning o.0) os →
    StillMeaning body → StillMeaning (flwor_of cs test os body)
flwor_still cs test os body h i g b e =
    still_then (flow_of cs (where_clause test (keyed os)) [] e) _
    (flow_still cs h (where_clause test (keyed os)) (where_still test i (keyed os) (λ bound env.
    still_then (row_of (columns_at (λ x. bind_all x env) os) bound) _
    (row_still (λ x. bind_all x env) os g bound) (λ cells k. refl))) [] e) (λ rows.
    still_then (ordered wrong_type (map (λ o. o.1) os) rows) _
    (mixed_still (mixed_column (map (λ o. o.1) os) (map (λ row. row.cells) rows)) wrong_type
    (in_order (map (λ o. o.1) os) rows))
    (still_each (λ bound. body (bind_all bound e)) (λ bound. b (bind_all bound e))))
