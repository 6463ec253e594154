-- Loops, orders and groups: regular, and of so many levels at most.
use Rattle.std.proofs.Common.{◌≡◌, ◌≤◌, ℕ, suc, List, [], ◌∷◌, refl, arith}
use Rattle.std.proofs.lemmas.Bool.{and_parts}
use Rattle.std.specs.Prelude.{Bool, true, false, Option, Some, None, codes, if◌then◌else◌}
use Rattle.std.specs.List.{list_all}
use Rattle.xt_names.specs.declared.kinds.AtomType.TheVariants as atom
use Rattle.xt_names.specs.declared.names.ExprName.{ExprName}
use Rattle.xt_forms.specs.Regular.{is_cast_type}
use Rattle.xt_syntax.specs.declared.exprs.Expr.{Expr}
use Rattle.xt_syntax.specs.declared.exprs.Order.{Order}
use Rattle.xt_sheets.specs.declared.values.Sort.{Sort}
use Rattle.carried_exprs.specs.Sights.{item_name, size_name, variable_of, the_item, position_name}
use Rattle.translated_forms.specs.Names.{items_name, atom_name}
use Rattle.translated_forms.specs.Forms.{for_clause, filtered, count_of}
use Rattle.translated_forms.specs.Leaves.{sort_leaf}
use Rattle.translated_forms.specs.Mentions.{in_orders}
use Rattle.translated_forms.specs.Texts.{Carry}
use Rattle.translated_forms.specs.Loops.{string_of, is_integer, number_key, text_key, typed_key}
use Rattle.translated_forms.specs.Loops.{sort_orders, in_turn, ordered, the_items, items_let}
use Rattle.translated_forms.specs.Loops.{size_let, needs_size, each_in, sorted}
use Rattle.translated_forms.proofs.Fine.{Fine, FineClause, FineOrder, Every, none, more, higher}
use Rattle.translated_forms.proofs.Fine.{fine_variable, fine_context, fine_cast, fine_castable}
use Rattle.translated_forms.proofs.Fine.{fine_filter, fine_let, fine_for, fine_for_at, fine_order}
use Rattle.translated_forms.proofs.FineFlows.{fine_flow, fine_flow_ordered}
use Rattle.translated_forms.proofs.FineTexts.{CarriesTo, fine_library}

pub fine_string : (n : ℕ) (e : Expr) → Fine n e → Fine (suc n) (string_of e)
fine_string n e h = fine_library n (codes "string") (e ∷ []) (more h none)

-- a key adds three levels at most
fine_is_integer : Fine 2 is_integer
unfolding is_cast_type
fine_is_integer = fine_castable 1 _ atom.Int false fine_context refl

fine_number_key : (n : ℕ) → 2 ≤ n → (e : Expr) → Fine n e → Fine (suc (suc (suc n))) (number_key e)
unfolding is_cast_type
fine_number_key n l e h =
    fine_cast (suc (suc n)) (filtered (string_of e) (is_integer ∷ [])) atom.Int true
    (fine_filter (suc n) (string_of e) is_integer [] (fine_string n e h)
    (more (higher (suc n) (omega arith) fine_is_integer) none)) refl

fine_text_key : (n : ℕ) → 2 ≤ n → (e : Expr) → Fine n e → Fine (suc (suc (suc n))) (text_key e)
fine_text_key n l e h =
    higher (suc (suc (suc n))) (omega arith)
    (fine_flow n (for_clause atom_name e) [] (string_of (variable_of atom_name))
    (more (fine_for n atom_name e h) none)
    (higher n l (fine_string 1 (variable_of atom_name) (fine_variable atom_name))))

fine_typed_key : (n : ℕ) → 2 ≤ n → (number : Option Bool) (e : Expr) → Fine n e →
    Fine (suc (suc (suc n))) (typed_key number e)
fine_typed_key n l None e h = higher (suc (suc (suc n))) (omega arith) h
fine_typed_key n l (Some true) e h = fine_number_key n l e h
fine_typed_key n l (Some false) e h = fine_text_key n l e h

pub fine_orders : (b : ℕ) (carry : Carry) → CarriesTo b carry → (n : ℕ) → b ≤ n → 2 ≤ n →
    (sorts : List (Sort Expr)) → list_all sort_leaf sorts ≡ true →
    Every (FineOrder (suc (suc (suc n)))) (sort_orders carry sorts)
fine_orders b carry carries n l m [] h = none
fine_orders b carry carries n l m (s ∷ sorts) h =
    let p = and_parts (sort_leaf s) (list_all sort_leaf sorts) h in
    more (fine_order (suc (suc (suc n))) (typed_key s.number (carry s.key)) s.descending
    (fine_typed_key n m s.number (carry s.key) (higher n l (carries s.key p.0))))
    (fine_orders b carry carries n l m sorts p.1)

-- items in order
pub fine_in_turn : (n : ℕ) (e : Expr) → Fine n e → FineClause n (in_turn e)
fine_in_turn n e h = fine_for_at n item_name position_name e h

pub fine_ordered : (n : ℕ) → 1 ≤ n → (e : Expr) (orders : List Order) → Fine n e →
    Every (FineOrder n) orders → Fine (suc n) (ordered e orders)
unfolding ordered
fine_ordered n l e [] h none = higher (suc n) (omega arith) h
fine_ordered n l e (o ∷ orders) h i =
    fine_flow_ordered n (in_turn e) [] o orders the_item (more (fine_in_turn n e h) none) i
    (higher n l (fine_variable item_name))

pub fine_count : (v : ExprName) → Fine 2 (count_of v)
fine_count v = fine_library 1 (codes "count") (variable_of v ∷ []) (more (fine_variable v) none)

pub fine_items_let : (n : ℕ) (e : Expr) → Fine n e → FineClause n (items_let e)
fine_items_let n e h = fine_let n items_name e h

pub fine_size_let : (n : ℕ) → 2 ≤ n → FineClause n size_let
fine_size_let n l = fine_let n size_name (count_of items_name) (higher n l (fine_count items_name))

pub fine_the_items : (n : ℕ) → 1 ≤ n → Fine n the_items
fine_the_items n l = higher n l (fine_variable items_name)

flow_choice : (n : ℕ) (c : Bool) (a b : Expr) → Fine n a → Fine n b → Fine n (if c then a else b)
flow_choice n true a b h i = h
flow_choice n false a b h i = i

pub fine_each : (n : ℕ) → 2 ≤ n → (e : Expr) (orders : List Order) (body : Expr) → Fine n e →
    Every (FineOrder n) orders → Fine n body → Fine (suc (suc n)) (each_in e orders body)
unfolding each_in
fine_each n l e orders body h i j =
    let up = higher (suc n) (omega arith) j in
    flow_choice (suc (suc n)) (needs_size orders body) _ _
    (fine_flow (suc n) (items_let e) (size_let ∷ in_turn (ordered the_items orders) ∷ []) body
    (more (fine_items_let (suc n) e (higher (suc n) (omega arith) h))
    (more (fine_size_let (suc n) (omega arith))
    (more (fine_in_turn (suc n) (ordered the_items orders)
    (fine_ordered n (omega arith) the_items orders (fine_the_items n (omega arith)) i)) none))) up)
    (fine_flow (suc n) (in_turn (ordered e orders)) [] body
    (more (fine_in_turn (suc n) (ordered e orders) (fine_ordered n (omega arith) e orders h i)) none) up)

pub fine_sorted : (n : ℕ) → 2 ≤ n → (e : Expr) (orders : List Order) → Fine n e →
    Every (FineOrder n) orders → Fine (suc n) (sorted e orders)
unfolding sorted
fine_sorted n l e [] h none = higher (suc n) (omega arith) h
fine_sorted n l e (o ∷ orders) h i =
    flow_choice (suc n) (in_orders size_name (o ∷ orders)) _ _
    (fine_flow_ordered n (items_let e) (size_let ∷ in_turn the_items ∷ []) o orders the_item
    (more (fine_items_let n e h) (more (fine_size_let n l)
    (more (fine_in_turn n the_items (fine_the_items n (omega arith))) none))) i
    (higher n (omega arith) (fine_variable item_name)))
    (fine_ordered n (omega arith) e (o ∷ orders) h i)
