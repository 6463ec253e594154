-- Groups: regular, and of so many levels at most.
use Rattle.std.proofs.Common.{◌≤◌, ◌+◌, ℕ, suc, List, [], ◌∷◌, ◌++◌, ap, arith}
use Rattle.std.specs.Prelude.{Bool, true, false, ◌||◌, codes, if◌then◌else◌}
use Rattle.xt_names.specs.declared.kinds.ArithOp.TheVariants.{Sub}
use Rattle.xt_names.specs.declared.kinds.CompareOp.TheVariants.{Eq, Gt}
use Rattle.xt_names.specs.declared.names.ExprName.{ExprName}
use Rattle.xt_syntax.specs.declared.exprs.Clause.{Clause}
use Rattle.xt_syntax.specs.declared.exprs.Expr.{Expr}
use Rattle.xt_syntax.specs.declared.exprs.Order.{Order}
use Rattle.xt_syntax.specs.declared.exprs.Clause.TheOpen.{Call, Context}
use Rattle.xt_syntax.specs.declared.exprs.Clause.TheViews.{roll-Expr}
use Rattle.carried_exprs.specs.Sights.{item_name, size_name, group_name, variable_of, the_item, position_name}
use Rattle.carried_exprs.specs.Sights.{value_name}
use Rattle.carried_exprs.specs.Sights.{nothing, library_call}
use Rattle.carried_exprs.proofs.RegularRolled.{regular_expr_rolled}
use Rattle.translated_forms.specs.Names.{items_name, atom_name, keys_name}
use Rattle.translated_forms.specs.Names.{starts_name, index_name, start_name, next_name}
use Rattle.translated_forms.specs.Forms.{bind_of, let_clause, for_at_clause, flow, flow_or_body}
use Rattle.translated_forms.specs.Forms.{same_key, arm_of, number}
use Rattle.translated_forms.specs.Mentions.{mentions, in_clauses}
use Rattle.translated_forms.specs.Converted.{data_of}
use Rattle.translated_forms.specs.Loops.{in_turn, the_items, items_let, size_let}
use Rattle.translated_forms.specs.Groups.{Named, needed, Grouped, first_in_group}
use Rattle.translated_forms.specs.Groups.{focus_of_group, at_each, in_orders_of, in_body, groups_ordered}
use Rattle.translated_forms.specs.Groups.{each_group, population, has_key, members_by}
use Rattle.translated_forms.specs.Groups.{grouped_by, different_keys, each_group_by, subsequence_of}
use Rattle.translated_forms.specs.Groups.{up_to_next, items_from_start, start_behind, grouped_at}
use Rattle.translated_forms.specs.Groups.{starts_let, all_keys, key_before, is_new_key, key_at_start}
use Rattle.translated_forms.specs.Groups.{each_group_adjacent, is_start, nodes_of, each_group_starting}
use Rattle.translated_forms.proofs.Fine.{Fine, FineClause, FineOrder, Every, none, more, higher}
use Rattle.translated_forms.proofs.Fine.{fine_variable, fine_context, fine_one, fine_nothing, fine_or}
use Rattle.translated_forms.proofs.Fine.{fine_general, fine_arith, fine_filter, fine_bind, fine_let}
use Rattle.translated_forms.proofs.Fine.{fine_for_at, fine_arm}
use Rattle.translated_forms.proofs.FineFlows.{fine_flow, fine_flow_where, fine_flow_ordered}
use Rattle.translated_forms.proofs.FineFlows.{fine_flow_or_body, fine_if_many, fine_some, NoIf}
use Rattle.translated_forms.proofs.FineTexts.{fine_library, fine_local}
use Rattle.translated_forms.proofs.FineBodies.{joined_all}
use Rattle.translated_forms.proofs.FineLoops.{fine_in_turn, fine_the_items, fine_items_let, fine_size_let}
use Rattle.translated_forms.proofs.FineLoops.{fine_count}
use Rattle.xt_names.specs.ExprNames.{library_name}

-- bindings, of which some may go
pub data FineNamed (n : ℕ) : List Named → Type 0 where
  no_names : FineNamed n []
  one_name : {b : Named} {bs : List Named} (value : Fine n b.value) (rest : FineNamed n bs) →
      FineNamed n (b ∷ bs)

needed_choice : (n : ℕ) (c : Bool) (b : Named) (cs : List Clause) → Fine n b.value →
    Every (FineClause n) cs →
    Every (FineClause n) (if c then let_clause b.name b.value ∷ cs else cs)
needed_choice n true b cs h i = more (fine_let n b.name b.value h) i
needed_choice n false b cs h i = i

pub fine_needed : (n : ℕ) (bs : List Named) (used : ExprName → Bool) → FineNamed n bs →
    Every (FineClause n) (needed bs used)
fine_needed n [] used no_names = none
fine_needed n (b ∷ bs) used (one_name h rest) =
    needed_choice n (in_clauses b.name (needed bs used) || used b.name) b (needed bs used) h
    (fine_needed n bs used rest)

-- over groups, of which the members have so many levels
abbrev FineGrouped : ℕ → Grouped → Type 0
FineGrouped n g = FineNamed n g.members

fine_at_each : (n : ℕ) (g : Grouped) (e : Expr) → Fine n e → FineClause n (at_each g e)
fine_at_each n g e h = fine_for_at n g.variable position_name e h

fine_groups_ordered : (n : ℕ) → 1 ≤ n → (g : Grouped) → FineGrouped n g → (orders : List Order) →
    Every (FineOrder n) orders → Fine (suc n) (groups_ordered g orders)
unfolding groups_ordered
fine_groups_ordered n l g h [] none = higher (suc n) (omega arith) (fine_variable g.source)
fine_groups_ordered n l g h (o ∷ orders) i =
    fine_flow_ordered n (at_each g (variable_of g.source)) (needed g.members (in_orders_of (o ∷ orders)))
    o orders (variable_of g.variable)
    (more (fine_at_each n g (variable_of g.source) (higher n l (fine_variable g.source)))
    (fine_needed n g.members (in_orders_of (o ∷ orders)) h)) i (higher n l (fine_variable g.variable))

-- clauses of which the last is this
fine_flow_last : (n : ℕ) (cs : List Clause) (c : Clause) (body : Expr) → Every (FineClause n) cs →
    FineClause n c → Fine n body → Fine (suc n) (flow (cs ++ c ∷ []) body)
fine_flow_last n [] c body none h i = fine_flow n c [] body (more h none) i
fine_flow_last n (d ∷ cs) c body (more g rest) h i =
    fine_flow n d (cs ++ c ∷ []) body
    (more g (joined_all (FineClause n) cs (c ∷ []) rest (more h none))) i

fine_each_group : (n : ℕ) → 1 ≤ n → (cs : List Clause) (g : Grouped) (orders : List Order) (body : Expr) →
    Every (FineClause (suc n)) cs → FineGrouped n g → Every (FineOrder n) orders → Fine n body →
    Fine (suc (suc n)) (each_group cs g orders body)
unfolding each_group
fine_each_group n l cs g orders body h i j k =
    fine_flow_last (suc n) cs (at_each g (groups_ordered g orders))
    (flow_or_body (needed g.members (in_body body)) body) h
    (fine_at_each (suc n) g (groups_ordered g orders) (fine_groups_ordered n l g i orders j))
    (fine_flow_or_body n (needed g.members (in_body body)) body
    (fine_needed n g.members (in_body body) i) k)

-- the focus of a group
fine_first : Fine 2 first_in_group
fine_first = fine_filter 1 (variable_of group_name) (number 1) [] (fine_variable group_name) (more fine_one none)

fine_focus : (n : ℕ) → 2 ≤ n → (source : ExprName) → FineNamed n (focus_of_group source)
fine_focus n l source =
    one_name (higher n l fine_first) (one_name (higher n l (fine_count source)) no_names)

-- the population
size_choice : (n : ℕ) → 2 ≤ n → (c : Bool) → Every (FineClause n) (if c then size_let ∷ [] else [])
size_choice n l true = more (fine_size_let n l) none
size_choice n l false = none

fine_population : (n : ℕ) → 2 ≤ n → (select key : Expr) → Fine n select →
    Every (FineClause n) (population select key)
fine_population n l select key h =
    more (fine_items_let n select h) (size_choice n l (mentions size_name key))

-- group-by
fine_data : (n : ℕ) (e : Expr) → Fine n e → Fine (suc n) (data_of e)
fine_data n e h = fine_library n (codes "data") (e ∷ []) (more h none)

fine_same_key : (a b : ExprName) → Fine 2 (same_key a b)
fine_same_key a b =
    fine_library 1 (codes "deep-equal") (variable_of a ∷ variable_of b ∷ [])
    (more (fine_variable a) (more (fine_variable b) none))

fine_has_key : (n : ℕ) → 2 ≤ n → (key : Expr) → Fine n key → Fine (suc (suc n)) (has_key key)
fine_has_key n l key h =
    fine_some (suc n) (bind_of atom_name (data_of key)) [] (same_key atom_name value_name)
    (more (fine_bind (suc n) atom_name (data_of key) (fine_data n key h)) none)
    (higher (suc n) (omega arith) (fine_same_key atom_name value_name))

fine_members_by : (n : ℕ) → 2 ≤ n → (key : Expr) → Fine n key → Fine (suc (suc (suc n))) (members_by key)
fine_members_by n l key h =
    let m : ℕ = suc (suc n) in
    fine_flow_where m (in_turn the_items) [] (has_key key) the_item
    (more (fine_in_turn m the_items (fine_the_items m (omega arith))) none) (fine_has_key n l key h)
    (higher m (omega arith) (fine_variable item_name))

fine_different : (n : ℕ) → 2 ≤ n → (key : Expr) → Fine n key →
    FineClause (suc (suc (suc n))) (different_keys key)
fine_different n l key h =
    fine_let (suc (suc (suc n))) keys_name _
    (fine_library (suc (suc n)) (codes "distinct-values") (flow (in_turn the_items ∷ []) (data_of key) ∷ [])
    (more (fine_flow (suc n) (in_turn the_items) [] (data_of key)
    (more (fine_in_turn (suc n) the_items (fine_the_items (suc n) (omega arith))) none)
    (fine_data n key h)) none))

-- of keys of n levels, and of all else of three more
pub fine_group_by : (n m : ℕ) → 2 ≤ n → n + 3 ≤ m → (select key : Expr) (orders : List Order)
    (body : Expr) → Fine m select → Fine n key → Every (FineOrder m) orders → Fine m body →
    Fine (suc (suc m)) (each_group_by select key orders body)
unfolding each_group_by
fine_group_by n m l up select key orders body h i j k =
    fine_each_group m (omega arith) (population select key ++ different_keys key ∷ []) (grouped_by key)
    orders body
    (joined_all (FineClause (suc m)) (population select key) (different_keys key ∷ [])
    (fine_population (suc m) (omega arith) select key (higher (suc m) (omega arith) h))
    (more (higher (suc m) (omega arith) (fine_different n l key i)) none))
    (one_name (higher m (omega arith) (fine_members_by n l key i))
    (one_name (higher m (omega arith) (fine_variable value_name)) (fine_focus m (omega arith) keys_name)))
    j k

-- groups from starts
fine_subsequence : (n : ℕ) (args : List Expr) → Every (Fine n) args → Fine (suc n) (subsequence_of args)
fine_subsequence n args h = fine_library n (codes "subsequence") args h

fine_up_to : Fine 2 up_to_next
fine_up_to =
    fine_arith 1 Sub (variable_of next_name) (variable_of start_name) (fine_variable next_name)
    (fine_variable start_name)

pub no_if_library : (local : List ℕ) (args : List Expr) → NoIf (library_call local args)
no_if_library local args = ap (λ f. f.is_if) (regular_expr_rolled (Call (library_name local) args))

fine_from_start : Fine 4 items_from_start
fine_from_start =
    let s = fine_variable start_name in let i = fine_variable items_name in
    fine_if_many 3 (arm_of (_, subsequence_of (the_items ∷ variable_of start_name ∷ []))) []
    (subsequence_of (the_items ∷ variable_of start_name ∷ up_to_next ∷ []))
    (more (fine_arm 3 (library_call (codes "empty") (variable_of next_name ∷ [])) _
    (higher 3 (omega arith) (fine_library 1 (codes "empty") (variable_of next_name ∷ [])
    (more (fine_variable next_name) none)))
    (higher 3 (omega arith) (fine_subsequence 1 (the_items ∷ variable_of start_name ∷ []) (more i (more s none))))) none)
    (fine_subsequence 2 (the_items ∷ variable_of start_name ∷ up_to_next ∷ [])
    (more (higher 2 (omega arith) i) (more (higher 2 (omega arith) s) (more fine_up_to none))))
    (no_if_library (codes "subsequence") _)

fine_start_behind : Fine 3 start_behind
fine_start_behind =
    fine_filter 2 (variable_of starts_name) _ (number 1 ∷ []) (higher 2 (omega arith) (fine_variable starts_name))
    (more (fine_general 1 Gt (roll-Expr Context) (variable_of start_name) fine_context (fine_variable start_name))
    (more (higher 2 (omega arith) fine_one) none))

fine_grouped_at : (n : ℕ) → 4 ≤ n → (key : Expr) → Fine n key → FineGrouped n (grouped_at key)
fine_grouped_at n l key h =
    one_name h (one_name (higher n (omega arith) fine_start_behind)
    (one_name (higher n l fine_from_start) (fine_focus n (omega arith) starts_name)))

fine_starts : (n : ℕ) → 1 ≤ n → (variable source : ExprName) (test : Expr) → Fine n test →
    FineClause (suc n) (starts_let variable source test)
fine_starts n l variable source test h =
    fine_let (suc n) starts_name _
    (fine_flow_where n (for_at_clause variable index_name (variable_of source)) [] test (variable_of index_name)
    (more (fine_for_at n variable index_name (variable_of source) (higher n l (fine_variable source))) none)
    h (higher n l (fine_variable index_name)))

-- group-adjacent
fine_all_keys : (n : ℕ) → 2 ≤ n → (key : Expr) → Fine n key → FineClause (suc (suc (suc n))) (all_keys key)
fine_all_keys n l key h =
    let m : ℕ = suc (suc n) in
    fine_let (suc m) keys_name _
    (fine_flow m (in_turn the_items) [] (library_call (codes "exactly-one") (data_of key ∷ []))
    (more (fine_in_turn m the_items (fine_the_items m (omega arith))) none)
    (fine_library (suc n) (codes "exactly-one") (data_of key ∷ []) (more (fine_data n key h) none)))

fine_key_before : Fine 3 key_before
fine_key_before =
    fine_subsequence 2 _
    (more (higher 2 (omega arith) (fine_variable keys_name))
    (more (fine_arith 1 Sub (variable_of index_name) (number 1) (fine_variable index_name) fine_one)
    (more (higher 2 (omega arith) fine_one) none)))

fine_new_key : Fine 5 is_new_key
fine_new_key =
    fine_library 4 (codes "not") _
    (more (fine_library 3 (codes "deep-equal") (variable_of value_name ∷ key_before ∷ [])
    (more (higher 3 (omega arith) (fine_variable value_name)) (more fine_key_before none))) none)

fine_key_at_start : Fine 2 key_at_start
fine_key_at_start =
    fine_filter 1 (variable_of keys_name) (variable_of start_name) [] (fine_variable keys_name)
    (more (fine_variable start_name) none)

pub fine_group_adjacent : (n m : ℕ) → 5 ≤ n → n + 3 ≤ m → (select key : Expr) (orders : List Order)
    (body : Expr) → Fine m select → Fine n key → Every (FineOrder m) orders → Fine m body →
    Fine (suc (suc m)) (each_group_adjacent select key orders body)
unfolding each_group_adjacent
fine_group_adjacent n m l up select key orders body h i j k =
    fine_each_group m (omega arith)
    (population select key ++ all_keys key ∷ starts_let value_name keys_name is_new_key ∷ [])
    (grouped_at key_at_start) orders body
    (joined_all (FineClause (suc m)) (population select key)
    (all_keys key ∷ starts_let value_name keys_name is_new_key ∷ [])
    (fine_population (suc m) (omega arith) select key (higher (suc m) (omega arith) h))
    (more (higher (suc m) (omega arith) (fine_all_keys n (omega arith) key i))
    (more (fine_starts m (omega arith) value_name keys_name is_new_key (higher m (omega arith) fine_new_key)) none)))
    (fine_grouped_at m (omega arith) key_at_start (higher m (omega arith) fine_key_at_start)) j k

-- group-starting-with
fine_is_start : (n : ℕ) → 2 ≤ n → (test : Expr) → Fine n test → Fine (suc n) (is_start test)
fine_is_start n l test h =
    fine_or n _ test []
    (more (higher n l (fine_general 1 Eq (variable_of index_name) (number 1) (fine_variable index_name) fine_one))
    (more h none))

pub fine_nodes : (n : ℕ) (e : Expr) → Fine n e → Fine (suc n) (nodes_of e)
fine_nodes n e h = fine_local n (codes "nodes") (e ∷ []) (more h none)

pub fine_group_starting : (n m : ℕ) → 5 ≤ n → n + 3 ≤ m → (select test : Expr) (orders : List Order)
    (body : Expr) → Fine m select → Fine n test → Every (FineOrder m) orders → Fine m body →
    Fine (suc (suc m)) (each_group_starting select test orders body)
unfolding each_group_starting
fine_group_starting n m l up select test orders body h i j k =
    fine_each_group m (omega arith)
    (items_let (nodes_of select) ∷ starts_let item_name items_name (is_start test) ∷ [])
    (grouped_at nothing) orders body
    (more (fine_items_let (suc m) (nodes_of select) (fine_nodes m select h))
    (more (fine_starts m (omega arith) item_name items_name (is_start test)
    (higher m (omega arith) (fine_is_start n (omega arith) test i))) none))
    (fine_grouped_at m (omega arith) nothing (higher m (omega arith) fine_nothing)) j k
