-- Bodies that follow their tuples at once.
use Rattle.std.proofs.Common.{
  ◌≡◌,
  ℕ,
  List,
  [],
  ◌∷◌,
  ◌++◌,
  refl,
  ap,
  sym,
  ◌∙◌,
  subst,
  map,
  append_assoc,
}
use Rattle.std.specs.Prelude.{Option, Some, None, pos}
use Rattle.std.proofs.lemmas.List.{append-nil, map-append}
use Rattle.xdm_items.specs.declared.items.Item.{Item}
use Rattle.xdm_items.specs.FunctionArguments.Answers.{of_integer}
use Rattle.xt_names.specs.declared.names.ExprName.{ExprName}
use Rattle.xt_atoms.specs.Casts.{wrong_type}
use Rattle.order_group.specs.Rows.{Keyed, in_order, mixed_column}
use Rattle.order_group.proofs.Natural.{no_column, no_keys}
use Rattle.expr_meaning.specs.Outcomes.Outcome.{Outcome, Ends, Fails, Deep, and_then, step_outcome, for_each}
use Rattle.expr_meaning.proofs.OutcomesLemmas.Steps.{then_assoc, then_same}
use Rattle.expr_meaning.specs.SortMeaning.Sorted.{Placed, places, ordered, unless_mixed}
use Rattle.expr_meaning.specs.Env.{Env, Meaning, Binding, bind_all}
use Rattle.expr_meaning.specs.Logic.{Bound, typed}
use Rattle.expr_meaning.specs.Flow.{Tuples, flow_of, where_clause, keyed, finished, flwor_of}
use Rattle.expr_meaning.specs.Flow.{for_item, for_place}
use Rattle.flow_eval.specs.FlowStreams.Streams.{
  Binder,
  each_of,
  all_of,
  stream_of,
  stream_item,
  stream_place,
}
use Rattle.flow_eval.specs.FlowStreams.Streams.{IsStill, AreStill, Streams, as_clause}

-- the tuple that stands, without keys
abbrev tuple : Tuples
tuple = where_clause None (keyed [])

-- the bodies of tuples
abbrev bodies : Meaning → Env → List (Keyed (List Binding)) → ℕ → Outcome (List Item)
bodies body env rows k =
    for_each (λ bound. body (bind_all bound env)) (map (λ row. row.value) rows) k

finished_is : (body : Meaning) (env : Env) (rows : List (Keyed (List Binding))) (k : ℕ)
    → finished [] body env rows k ≡ bodies body env rows k
finished_is body env rows k =
    ap (λ c. and_then (unless_mixed c wrong_type (in_order [] rows) k)
    (for_each (λ bound. body (bind_all bound env)))) (no_column (map (λ row. row.cells) rows))
    ∙ ap (λ vs. for_each (λ bound. body (bind_all bound env)) vs k) (no_keys rows)

ends_alone : (o : Outcome (List Item)) → and_then o (λ ys j. Ends (ys ++ []) j) ≡ o
ends_alone (Ends ys j) = ap (λ zs. Ends zs j) (append-nil ys)
ends_alone (Fails c) = refl
ends_alone Deep = refl

-- one list after another
joined_next : {A : Type 0} (ys : List A) (o : Outcome (List A)) (go : ℕ → Outcome (List A))
    → and_then (and_then o (λ zs i. Ends (ys ++ zs) i))
    (λ us j. and_then (go j) (λ vs i. Ends (us ++ vs) i))
    ≡ and_then (and_then o (λ zs j. and_then (go j) (λ vs i. Ends (zs ++ vs) i)))
    (λ zs i. Ends (ys ++ zs) i)
joined_next {A = A} ys (Ends zs i) go = inner (go i)
  where
    inner : (q : Outcome (List A)) → and_then q (λ vs j. Ends ((ys ++ zs) ++ vs) j)
        ≡ and_then (and_then q (λ vs j. Ends (zs ++ vs) j)) (λ us j. Ends (ys ++ us) j)
    inner (Ends vs j) = ap (λ l. Ends l j) (append_assoc ys zs vs)
    inner (Fails c) = refl
    inner Deep = refl
joined_next ys (Fails c) go = refl
joined_next ys Deep go = refl

pub each_append : {A B : Type 0} (f : A → ℕ → Outcome (List B)) (xs ys : List A) (k : ℕ)
    → for_each f (xs ++ ys) k
    ≡ and_then (for_each f xs k) (λ us j. and_then (for_each f ys j) (λ vs i. Ends (us ++ vs) i))
each_append f [] ys k = sym (alone (for_each f ys k))
  where
    alone : {B : Type 0} (o : Outcome (List B)) → and_then o (λ vs i. Ends ([] ++ vs) i) ≡ o
    alone (Ends vs i) = refl
    alone (Fails c) = refl
    alone Deep = refl
each_append f (x ∷ xs) ys k =
    then_same (f x k) _ _ (λ us j.
    ap (λ o. and_then o (λ zs i. Ends (us ++ zs) i)) (each_append f xs ys j)
    ∙ sym (joined_next us (for_each f xs j) (for_each f ys)))
    ∙ sym (then_assoc (f x k) (λ us j. and_then (for_each f xs j) (λ zs i. Ends (us ++ zs) i))
    (λ us j. and_then (for_each f ys j) (λ vs i. Ends (us ++ vs) i)))

-- rows that are known beforehand, one list of them for each x
abbrev all_rows : {A R : Type 0} → (A → List R) → List A → List R
all_rows r [] = []
all_rows r (x ∷ xs) = r x ++ all_rows r xs

rows_end : {A R : Type 0} (f : A → ℕ → Outcome (List R)) (r : A → List R)
    → ((x : A) (k : ℕ) → f x k ≡ Ends (r x) k) → (xs : List A) (k : ℕ)
    → for_each f xs k ≡ Ends (all_rows r xs) k
rows_end f r h [] k = refl
rows_end f r h (x ∷ xs) k =
    ap (λ o. and_then o (λ ys j. and_then (for_each f xs j) (λ zs i. Ends (ys ++ zs) i))) (h x k)
    ∙ ap (λ o. and_then o (λ zs i. Ends (r x ++ zs) i)) (rows_end f r h xs k)

-- their bodies at the end, or those of each x at once
rows_bodies : {A : Type 0} (body : Meaning) (env : Env) (r : A → List (Keyed (List Binding)))
    (g : A → ℕ → Outcome (List Item)) → ((x : A) (k : ℕ) → bodies body env (r x) k ≡ g x k)
    → (xs : List A) (k : ℕ) → bodies body env (all_rows r xs) k ≡ for_each g xs k
rows_bodies body env r g h [] k = refl
rows_bodies body env r g h (x ∷ xs) k =
    ap (λ vs. for_each (λ bound. body (bind_all bound env)) vs k)
    (map-append (λ row. row.value) (r x) (all_rows r xs))
    ∙ each_append (λ bound. body (bind_all bound env)) (map (λ row. row.value) (r x))
    (map (λ row. row.value) (all_rows r xs)) k
    ∙ ap (λ o. and_then o (λ us j. and_then (bodies body env (all_rows r xs) j)
    (λ vs i. Ends (us ++ vs) i))) (h x k)
    ∙ then_same (g x k) _ _ (λ us j. ap (λ o. and_then o (λ vs i. Ends (us ++ vs) i))
    (rows_bodies body env r g h xs j))

-- such clauses end with tuples, whatever the next number of a tree is
record TuplesAt (bs : List Binder) (bound : List Binding) (env : Env) : Type 0 where
  pub rows : List (Keyed (List Binding))
  pub ends : (k : ℕ) → flow_of (map as_clause bs) tuple bound env k ≡ Ends rows k

still_ends : (bs : List Binder) → AreStill bs → (bound : List Binding) (env : Env)
    → TuplesAt bs bound env
still_ends [] still bound env = record {
  rows = record { cells = []; value = bound } ∷ [];
  ends = λ k. refl;
}
still_ends (each_of b None ∷ bs) still bound env =
    let at : (x : Item) → TuplesAt bs ((b.var, x ∷ []) ∷ bound) env = λ x. still_ends bs still.1
    ((b.var, x ∷ []) ∷ bound) env in
    record {
      rows = all_rows (λ x. (at x).rows) still.0.1.0;
      ends = λ k. ap (λ o. and_then o (for_each (for_item b (flow_of (map as_clause bs) tuple)
          bound env))) (still.0.1.1 (bind_all bound env) k)
          ∙ rows_end (for_item b (flow_of (map as_clause bs) tuple) bound env) (λ x. (at x).rows)
          (λ x j. ap (λ t. and_then (step_outcome (typed t (x ∷ [])) j)
          (λ ys. flow_of (map as_clause bs) tuple ((b.var, ys) ∷ bound) env)) still.0.0 ∙
          (at x).ends j)
          still.0.1.0 k;
    }
still_ends (each_of b (Some at) ∷ bs) still bound env = absurd still.0
still_ends (all_of b ∷ bs) still bound env =
    let next : TuplesAt bs ((b.var, still.0.1.0) ∷ bound) env = still_ends bs still.1
    ((b.var, still.0.1.0) ∷ bound) env in
    record {
      rows = next.rows;
      ends = λ k. ap (λ o. and_then o (λ xs j. and_then (step_outcome (typed b.kind xs) j)
          (λ ys. flow_of (map as_clause bs) tuple ((b.var, ys) ∷ bound) env)))
          (still.0.1.1 (bind_all bound env) k)
          ∙ ap (λ t. and_then (step_outcome (typed t still.0.1.0) k)
          (λ ys. flow_of (map as_clause bs) tuple ((b.var, ys) ∷ bound) env)) still.0.0
          ∙ next.ends k;
    }

still_streams : (bs : List Binder) → AreStill bs → Streams bs
still_streams [] still = tt
still_streams (each_of b None ∷ bs) still = (still.0.0, still.1)
still_streams (each_of b (Some at) ∷ bs) still = absurd still.0
still_streams (all_of b ∷ bs) still = still_streams bs still.1

-- the bodies of all tuples after what is bound
abbrev ends_of : List Binder → Meaning → List Binding → Env → ℕ → Outcome (List Item)
ends_of bs body bound env k = and_then (flow_of (map as_clause bs) tuple bound env k)
    (bodies body env)

-- all tuples and then the bodies, or each body as soon as its tuple stands
pub streamed_alike : (bs : List Binder) → Streams bs → (body : Meaning) (bound : List Binding)
    (env : Env) (k : ℕ)
    → ends_of bs body bound env k ≡ stream_of bs body (bind_all bound env) k
streamed_alike [] s body bound env k = ends_alone (body (bind_all bound env) k)
streamed_alike (all_of b ∷ bs) s body bound env k =
    then_assoc (b.source (bind_all bound env) k) (λ xs j. and_then
    (step_outcome (typed b.kind xs) j) (λ ys. flow_of (map as_clause bs) tuple
    ((b.var, ys) ∷ bound) env)) (bodies body env)
    ∙ then_same (b.source (bind_all bound env) k) _ _ (λ xs j.
    then_assoc (step_outcome (typed b.kind xs) j) (λ ys. flow_of (map as_clause bs) tuple
    ((b.var, ys) ∷ bound) env) (bodies body env)
    ∙ then_same (step_outcome (typed b.kind xs) j) _ _
    (λ ys i. streamed_alike bs s body ((b.var, ys) ∷ bound) env i))
streamed_alike (each_of b None ∷ bs) s body bound env k =
    let at : (x : Item) → TuplesAt bs ((b.var, x ∷ []) ∷ bound) env = λ x. still_ends bs s.1
    ((b.var, x ∷ []) ∷ bound) env in
    then_assoc (b.source (bind_all bound env) k) (for_each
    (for_item b (flow_of (map as_clause bs) tuple) bound env)) (bodies body env)
    ∙ then_same (b.source (bind_all bound env) k) _ _ (λ xs j.
    ap (λ o. and_then o (bodies body env)) (rows_end
    (for_item b (flow_of (map as_clause bs) tuple) bound env) (λ x. (at x).rows)
    (λ x i. ap (λ t. and_then (step_outcome (typed t (x ∷ [])) i)
    (λ ys. flow_of (map as_clause bs) tuple ((b.var, ys) ∷ bound) env)) s.0 ∙ (at x).ends i)
    xs j)
    ∙ rows_bodies body env (λ x. (at x).rows) (stream_item b (stream_of bs body)
    (bind_all bound env))
    (λ x i. ap (λ o. and_then o (bodies body env)) (sym ((at x).ends i))
    ∙ streamed_alike bs (still_streams bs s.1) body ((b.var, x ∷ []) ∷ bound) env i
    ∙ ap (λ t. and_then (step_outcome (typed t (x ∷ [])) i)
    (λ ys. stream_of bs body (bind_all ((b.var, ys) ∷ bound) env))) (sym s.0)) xs j)
streamed_alike (each_of b (Some at) ∷ bs) s body bound env k =
    let here : Placed Item → List Binding = λ f. (at, of_integer (pos f.place)) ∷
    (b.var, f.value ∷ []) ∷ bound in
    let rows_at : (f : Placed Item) → TuplesAt bs (here f) env = λ f. still_ends bs s.1 (here f)
    env in
    then_assoc (b.source (bind_all bound env) k) (λ xs j. and_then (step_outcome (places xs) j)
    (for_each (for_place b at (flow_of (map as_clause bs) tuple) bound env))) (bodies body env)
    ∙ then_same (b.source (bind_all bound env) k) _ _ (λ xs j.
    then_assoc (step_outcome (places xs) j) (for_each
    (for_place b at (flow_of (map as_clause bs) tuple) bound env)) (bodies body env)
    ∙ then_same (step_outcome (places xs) j) _ _ (λ fs l.
    ap (λ o. and_then o (bodies body env)) (rows_end
    (for_place b at (flow_of (map as_clause bs) tuple) bound env) (λ f. (rows_at f).rows)
    (λ f i. ap (λ t. and_then (step_outcome (typed t (f.value ∷ [])) i)
    (λ ys. flow_of (map as_clause bs) tuple ((at, of_integer (pos f.place)) ∷ (b.var, ys) ∷
    bound) env)) s.0 ∙ (rows_at f).ends i) fs l)
    ∙ rows_bodies body env (λ f. (rows_at f).rows) (stream_place b at (stream_of bs body)
    (bind_all bound env))
    (λ f i. ap (λ o. and_then o (bodies body env)) (sym ((rows_at f).ends i))
    ∙ streamed_alike bs (still_streams bs s.1) body (here f) env i
    ∙ ap (λ t. and_then (step_outcome (typed t (f.value ∷ [])) i)
    (λ ys. stream_of bs body (bind_all ((at, of_integer (pos f.place)) ∷ (b.var, ys) ∷ bound)
    env))) (sym s.0)) fs l))

-- a whole FLWOR expression without a test and keys
pub flwor_streamed : (bs : List Binder) → Streams bs → (body : Meaning) (env : Env) (k : ℕ)
    → flwor_of (map as_clause bs) None [] body env k ≡ stream_of bs body env k
flwor_streamed bs s body env k =
    then_same (flow_of (map as_clause bs) tuple [] env k) _ _
    (λ rows j. finished_is body env rows j)
    ∙ streamed_alike bs s body [] env k
