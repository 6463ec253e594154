-- Clauses become variables, and then a test, a loop or nothing.
use Rattle.std.proofs.Common.{◌≡◌, ℕ, List, [], ◌∷◌, refl, map}
use Rattle.std.specs.Prelude.{Bool, true, false, ◌&&◌, ◌||◌, Option, Some, None}
use Rattle.std.specs.Prelude.{option_map}
use Rattle.xt_names.specs.declared.names.Binding.{Binding as Namespace}
use Rattle.xdm_items.specs.declared.items.Item.{Item}
use Rattle.xt_syntax.specs.declared.exprs.Expr.{Expr}
use Rattle.xt_syntax.specs.declared.exprs.Clause.{Clause}
use Rattle.xt_syntax.specs.declared.exprs.Order.{Order}
use Rattle.xt_syntax.specs.declared.exprs.Clause.TheOpen.{For, Let}
use Rattle.xt_syntax.specs.declared.exprs.Clause.TheViews.{out-Clause}
use Rattle.xt_syntax.specs.declared.exprs.Clause.TheViews.{out-Bind}
use Rattle.xt_syntax.specs.Layers.{clause_gives, order_gives}
use Rattle.xt_sheets.specs.declared.sheets.Sheet.{Sheet}
use Rattle.expr_meaning.specs.Outcomes.Outcome.{Outcome, and_then}
use Rattle.expr_meaning.specs.Env.{Binding, Env, Meaning, Program, bind_all}
use Rattle.expr_meaning.specs.Flow.{ClauseMeaning, flow_of, where_clause, keyed, finished}
use Rattle.expr_meaning.specs.Meaning.{meanings, steps, outcome}
use Rattle.expr_laws.proofs.Rolled.{rolled_clause}
use Rattle.meaning_laws.proofs.SoundFunctions.Kept.{values_kept}
use Rattle.meaning_laws.specs.SoundValues.Sound.{IsSound}
use Rattle.transform_meaning.specs.Dispatch.{Doors}
use Rattle.transform_meaning.specs.Instrs.{body_does}
use Rattle.transform_laws.proofs.Rolled.{TheInstr}
use Rattle.way_back.specs.Same.{same}
use Rattle.way_back.specs.Leaves.{is_leaf_at, is_missing, is_none_of, has_local}
use Rattle.way_back.specs.Forms.{ClauseForm}
use Rattle.way_back.specs.Forms.{clauses_instr, clause_instr}
use Rattle.way_back.specs.Forms.{clauses_fit, clause_fits}
use Rattle.way_back.specs.Forms.{has_for, is_for, orders_fit, if_leaf}
use Rattle.way_back.specs.Forms.{counted_clause, counted_form_clause, counter}
use Rattle.way_back.specs.Places.{IsSame, ProgramsSame}
use Rattle.way_back.proofs.Bodies.{Meets}
use Rattle.way_back.proofs.Flows.{Does, where_does, let_does}
use Rattle.way_back.proofs.Loops.{loop_does}
use Rattle.way_back.proofs.Places.{bound_same}
use Rattle.xt_names.proofs.BoolLemmas.{and_first as first, and_second as second}

none_left : {A : Type 0} (xs : List A) → is_none_of xs ≡ true → xs ≡ []
none_left [] h = refl
none_left (x ∷ xs) h = absurd cc

module _ (sheet : Sheet) (doors : Doors) (q : Program)
    (programs : ProgramsSame same IsSound doors.program q) (scope : List Namespace) where
  abbrev pub DoesSo : List TheInstr → Env → Outcome (List Item) → ℕ → Type 0
  DoesSo body e o k =
      Does IsSound values_kept sheet doors q programs (λ i. refl) (λ t xml. xml) body e o k

  -- clauses
  abbrev pub clause_list : List Clause → List ClauseMeaning
  clause_list cs = map (clause_gives meanings (steps q)) (map counted_clause cs)

  module _ (s : Bool) (body : List TheInstr) (m : Meaning) where
    -- what a test, or nothing, does after the clauses
    abbrev pub LetsDo : Option Expr → List Clause → List Binding → Env → Env → ℕ → Type 0
    LetsDo test cs bound e f k =
        DoesSo (clauses_instr scope cs test [] body) e
        (and_then (flow_of (clause_list cs) (where_clause (option_map (outcome q) test) (keyed [])) bound f k)
        (finished [] m f)) k

    let_step : (test : Option Expr) (x : ClauseForm) (more : List Clause) →
        ((bound : List Binding) (e f : Env) → clauses_fit more s ≡ true → has_for more ≡ false →
        IsSame IsSound s e (bind_all bound f) → (k : ℕ) → LetsDo test more bound e f k) →
        clause_fits x more s (clauses_fit more s) ≡ true → (is_for x || has_for more) ≡ false →
        (bound : List Binding) (e f : Env) → IsSame IsSound s e (bind_all bound f) → (k : ℕ) →
        DoesSo (clause_instr scope x [] body (clauses_instr scope more test [] body)) e
        (and_then (clause_gives meanings (steps q) (counted_form_clause x)
        (flow_of (clause_list more) (where_clause (option_map (outcome q) test) (keyed []))) bound f k)
        (finished [] m f)) k
    let_step test (For b place) more go fit none bound e f at k = absurd cc
    let_step test (Let b) more go fit none bound e f at k =
        let v = has_local (out-Bind b).var in
        let t = is_missing (out-Bind b).kind in
        let u = is_leaf_at (out-Bind b).source s in
        let w = first (v && (t && u)) (clauses_fit more s) fit in
        let r = second v (t && u) w in
        rw (rolled_clause q (Let b))
        (let_does IsSound values_kept sheet doors q programs (λ i. refl) (λ t xml. xml) s b
        (first t u r) (second t u r) (clauses_instr scope more test [] body)
        (flow_of (clause_list more) (where_clause (option_map (outcome q) test) (keyed [])))
        (finished [] m f) bound e f at
        (λ xs g j. go (((out-Bind b).var, xs) ∷ bound) _ f (second (v && (t && u)) (clauses_fit more s) fit) none
        (bound_same IsSound s e (bind_all bound f) at (((out-Bind b).var, xs) ∷ []) ((first v (t && u) w, g), tt)) j) k)

    pub lets_do : Meets IsSound values_kept s (body_does sheet doors body) m → (test : Option Expr) →
        if_leaf test s ≡ true → (cs : List Clause) → (bound : List Binding) (e f : Env) →
        clauses_fit cs s ≡ true → has_for cs ≡ false → IsSame IsSound s e (bind_all bound f) → (k : ℕ) →
        LetsDo test cs bound e f k
    lets_do h test leaf [] bound e f fit none at k =
        where_does IsSound values_kept sheet doors q programs (λ i. refl) (λ t xml. xml) s body m h test leaf
        bound e f at k
    lets_do h test leaf (c ∷ more) bound e f fit none at k =
        let_step test (out-Clause c) more (lets_do h test leaf more) fit none bound e f at k

    -- what a loop does after them
    abbrev pub LoopsDo : List Order → List Clause → List Binding → Env → Env → ℕ → Type 0
    LoopsDo orders cs bound e f k =
        DoesSo (clauses_instr scope cs None orders body) e
        (and_then (flow_of (clause_list cs)
        (where_clause None (keyed (map (order_gives meanings (steps q)) orders))) bound f k)
        (finished (map (order_gives meanings (steps q)) orders) m f)) k

    loop_step : Meets IsSound values_kept true (body_does sheet doors body) m → (orders : List Order) →
        orders_fit orders true ≡ true → (x : ClauseForm) (more : List Clause) →
        ((bound : List Binding) (e f : Env) → clauses_fit more s ≡ true → has_for more ≡ true →
        IsSame IsSound s e (bind_all bound f) → (k : ℕ) → LoopsDo orders more bound e f k) →
        clause_fits x more s (clauses_fit more s) ≡ true → (is_for x || has_for more) ≡ true →
        (bound : List Binding) (e f : Env) → IsSame IsSound s e (bind_all bound f) → (k : ℕ) →
        DoesSo (clause_instr scope x orders body (clauses_instr scope more None orders body)) e
        (and_then (clause_gives meanings (steps q) (counted_form_clause x)
        (flow_of (clause_list more)
        (where_clause None (keyed (map (order_gives meanings (steps q)) orders)))) bound f k)
        (finished (map (order_gives meanings (steps q)) orders) m f)) k
    loop_step h orders ordered (For b place) more go fit some bound e f at k =
        let v = has_local (out-Bind b).var in
        let t = is_missing (out-Bind b).kind in
        let u = is_leaf_at (out-Bind b).source s in
        let w = second (is_missing place) (is_none_of more && (v && (t && u))) fit in
        let r = second (is_none_of more) (v && (t && u)) w in
        let l = second v (t && u) r in
        rw (none_left more (first (is_none_of more) (v && (t && u)) w), rolled_clause q (For b (Some counter)))
        (loop_does IsSound values_kept sheet doors q programs (λ i. refl) (λ t xml. xml) s b
        (first v (t && u) r) (first t u l) (second t u l) orders ordered body m h bound e f at k)
    loop_step h orders ordered (Let b) more go fit some bound e f at k =
        let v = has_local (out-Bind b).var in
        let t = is_missing (out-Bind b).kind in
        let u = is_leaf_at (out-Bind b).source s in
        let w = first (v && (t && u)) (clauses_fit more s) fit in
        let r = second v (t && u) w in
        rw (rolled_clause q (Let b))
        (let_does IsSound values_kept sheet doors q programs (λ i. refl) (λ t xml. xml) s b
        (first t u r) (second t u r) (clauses_instr scope more None orders body)
        (flow_of (clause_list more) (where_clause None (keyed (map (order_gives meanings (steps q)) orders))))
        (finished (map (order_gives meanings (steps q)) orders) m f) bound e f at
        (λ xs g j. go (((out-Bind b).var, xs) ∷ bound) _ f (second (v && (t && u)) (clauses_fit more s) fit) some
        (bound_same IsSound s e (bind_all bound f) at (((out-Bind b).var, xs) ∷ []) ((first v (t && u) w, g), tt)) j) k)

    pub loops_do : Meets IsSound values_kept true (body_does sheet doors body) m → (orders : List Order) →
        orders_fit orders true ≡ true → (cs : List Clause) → (bound : List Binding) (e f : Env) →
        clauses_fit cs s ≡ true → has_for cs ≡ true → IsSame IsSound s e (bind_all bound f) → (k : ℕ) →
        LoopsDo orders cs bound e f k
    loops_do h orders ordered [] bound e f fit some at k = absurd cc
    loops_do h orders ordered (c ∷ more) bound e f fit some at k =
        loop_step h orders ordered (out-Clause c) more (loops_do h orders ordered more) fit some bound e f at k
