-- FLWOR expressions are carried where their parts are.
use Rattle.std.proofs.Common.{◌≡◌, ℕ, List, [], ◌∷◌, refl}
use Rattle.std.specs.Prelude.{Bool, true, false, Option, Some, None, map, pos}
use Rattle.xt_names.specs.declared.names.ExprName.{ExprName}
use Rattle.xt_atoms.specs.Casts.{wrong_type}
use Rattle.order_group.specs.Rows.{Keyed}
use Rattle.expr_meaning.specs.Outcomes.Outcome.{step_outcome, Every, Anything}
use Rattle.expr_meaning.proofs.OutcomesLemmas.Relations.{each_carried, step_carried}
use Rattle.expr_meaning.specs.SortMeaning.Sorted.{places, key_cell}
use Rattle.expr_meaning.specs.SortMeaning.Related.{ColumnsRelate}
use Rattle.expr_meaning.proofs.SortMeaning.Carried.{every_places, with_row_carried, ordered_carried}
use Rattle.expr_meaning.specs.Env.{Binding, Env, Meaning, bind_all}
use Rattle.expr_meaning.specs.Logic.{Bound, typed, truth_at}
use Rattle.expr_meaning.specs.Flow.{Tuples, ClauseMeaning, for_clause}
use Rattle.expr_meaning.specs.Flow.{for_at_clause, let_clause, kept_tuple, where_clause, flow_of}
use Rattle.expr_meaning.specs.Flow.{OrderMeaning, columns_at, keyed, flwor_of}
use Rattle.expr_laws.specs.Carrier.{Carrier, Meet, AreBound}
use Rattle.expr_laws.proofs.Steps.{same_step, any_step}
use Rattle.expr_laws.proofs.Logic.{BoundMeet, typed_known, truth_meets}

abbrev pub Bounded : Carrier → List Binding → Type 0
Bounded c bs = AreBound c.own_variable c.good bs

abbrev pub GoodRow : Carrier → Keyed (List Binding) → Type 0
GoodRow c row = Bounded c row.value

-- tuples that are related, whatever is bound so far
abbrev pub TuplesMeet : (c : Carrier) → c.Sight → Tuples → Tuples → Type 0
TuplesMeet c sight t u =
    (e f : Env) → c.at sight e f → (bound : List Binding) → Bounded c bound → (k : ℕ) →
    c.rel (List (Keyed (List Binding))) (Every (GoodRow c)) (t bound e k) (u bound f k)

-- clauses: related where what follows them is
abbrev pub ClauseMeets : (c : Carrier) → c.Sight → ClauseMeaning → ClauseMeaning → Type 0
ClauseMeets c sight a b =
    (t u : Tuples) → TuplesMeet c sight t u → TuplesMeet c sight (a t) (b u)

abbrev pub ClausesMeet : (c : Carrier) → c.Sight → List ClauseMeaning → List ClauseMeaning → Type 0
ClausesMeet c sight [] [] = Unit {0}
ClausesMeet c sight [] (b ∷ bs) = ⊥
ClausesMeet c sight (a ∷ more) [] = ⊥
ClausesMeet c sight (a ∷ more) (b ∷ bs) = ClauseMeets c sight a b × ClausesMeet c sight more bs

abbrev pub TestMeets : (c : Carrier) → c.Sight → Option Meaning → Option Meaning → Type 0
TestMeets c sight None None = Unit {0}
TestMeets c sight None (Some n) = ⊥
TestMeets c sight (Some m) None = ⊥
TestMeets c sight (Some m) (Some n) = Meet c sight m n

abbrev pub OrdersMeet : (c : Carrier) → c.Sight → List OrderMeaning → List OrderMeaning → Type 0
OrdersMeet c sight [] [] = Unit {0}
OrdersMeet c sight [] (p ∷ ps) = ⊥
OrdersMeet c sight (o ∷ os) [] = ⊥
OrdersMeet c sight (o ∷ os) (p ∷ ps) = (Meet c sight o.0 p.0 × (o.1 ≡ p.1)) × OrdersMeet c sight os ps

module _ (c : Carrier) (sight : c.Sight) where
  pub for_meets : (a b : Bound) → BoundMeet c sight a b →
      ClauseMeets c sight (for_clause a) (for_clause b)
  for_meets a b h t u g e f s bound w k =
      rw (← h.0, ← h.1)
      (c.carries.next _ _ (Every c.good) (Every (GoodRow c)) (a.source (bind_all bound e) k)
      (b.source (bind_all bound f) k) _ _
      (h.3 (bind_all bound e) (bind_all bound f) (c.bound sight e f s bound w) k) (λ xs j all.
      each_carried c.like c.rel c.carries c.good (GoodRow c) _ _ (λ x i d.
      c.carries.next _ _ (Every c.good) (Every (GoodRow c))
      (step_outcome (typed a.kind (x ∷ [])) i)
      (step_outcome (typed a.kind (x ∷ [])) i) _ _
      (same_step c (Every c.good) (typed a.kind (x ∷ []))
      (typed_known c.good a.kind (x ∷ []) (d, tt)) i)
      (λ ys l gy. g e f s ((a.var, ys) ∷ bound) ((h.2, gy), w) l)) xs all j))

  pub at_meets : (a b : Bound) → BoundMeet c sight a b → (at : ExprName) → c.own_variable at →
      ClauseMeets c sight (for_at_clause a at) (for_at_clause b at)
  at_meets a b h at own t u g e f s bound w k =
      rw (← h.0, ← h.1)
      (c.carries.next _ _ (Every c.good) (Every (GoodRow c)) (a.source (bind_all bound e) k)
      (b.source (bind_all bound f) k) _ _
      (h.3 (bind_all bound e) (bind_all bound f) (c.bound sight e f s bound w) k) (λ xs j all.
      c.carries.next _ _ (Every (λ p. c.good p.value)) (Every (GoodRow c))
      (step_outcome (places xs) j) (step_outcome (places xs) j) _ _
      (step_carried c.like c.rel c.carries _ (places xs) j (every_places c.good xs j all)) (λ fs i ones.
      each_carried c.like c.rel c.carries (λ p. c.good p.value) (GoodRow c) _ _ (λ p m d.
      c.carries.next _ _ (Every c.good) (Every (GoodRow c))
      (step_outcome (typed a.kind (p.value ∷ [])) m)
      (step_outcome (typed a.kind (p.value ∷ [])) m) _ _
      (same_step c (Every c.good) (typed a.kind (p.value ∷ []))
      (typed_known c.good a.kind (p.value ∷ []) (d, tt)) m)
      (λ ys l gy. g e f s _ ((own, c.kept.integer (pos p.place)), ((h.2, gy), w)) l)) fs ones i)))

  pub let_meets : (a b : Bound) → BoundMeet c sight a b →
      ClauseMeets c sight (let_clause a) (let_clause b)
  let_meets a b h t u g e f s bound w k =
      rw (← h.0, ← h.1)
      (c.carries.next _ _ (Every c.good) (Every (GoodRow c)) (a.source (bind_all bound e) k)
      (b.source (bind_all bound f) k) _ _
      (h.3 (bind_all bound e) (bind_all bound f) (c.bound sight e f s bound w) k) (λ xs j all.
      c.carries.next _ _ (Every c.good) (Every (GoodRow c)) (step_outcome (typed a.kind xs) j)
      (step_outcome (typed a.kind xs) j) _ _
      (same_step c (Every c.good) (typed a.kind xs) (typed_known c.good a.kind xs all) j)
      (λ ys l gy. g e f s ((a.var, ys) ∷ bound) ((h.2, gy), w) l)))

  tuple_meets : (t u : Tuples) → TuplesMeet c sight t u → (b : Bool) (e f : Env) → c.at sight e f →
      (bound : List Binding) → Bounded c bound → (k : ℕ) →
      c.rel (List (Keyed (List Binding))) (Every (GoodRow c)) (kept_tuple t bound e b k)
      (kept_tuple u bound f b k)
  tuple_meets t u g true e f s bound w k = g e f s bound w k
  tuple_meets t u g false e f s bound w k = c.carries.ends _ _ _ _ tt

  where_meets : (a b : Option Meaning) → TestMeets c sight a b →
      ClauseMeets c sight (where_clause a) (where_clause b)
  where_meets None None h t u g = g
  where_meets None (Some n) h t u g = absurd h
  where_meets (Some m) None h t u g = absurd h
  where_meets (Some m) (Some n) h t u g = λ e f s bound w k.
      c.carries.next _ _ Anything (Every (GoodRow c)) (truth_at m (bind_all bound e) k)
      (truth_at n (bind_all bound f) k) _ _
      (truth_meets c sight m n h (bind_all bound e) (bind_all bound f) (c.bound sight e f s bound w) k)
      (λ b j v. tuple_meets t u g b e f s bound w j)

  flow_meets : (cs bs : List ClauseMeaning) → ClausesMeet c sight cs bs →
      ClauseMeets c sight (flow_of cs) (flow_of bs)
  flow_meets [] [] h t u g = g
  flow_meets [] (b ∷ bs) h t u g = absurd h
  flow_meets (a ∷ more) [] h t u g = absurd h
  flow_meets (a ∷ more) (b ∷ bs) h t u g =
      h.0 (flow_of more t) (flow_of bs u) (flow_meets more bs h.1 t u g)

  columns_meet : (os ps : List OrderMeaning) → OrdersMeet c sight os ps → (e f : Env) → c.at sight e f →
      ColumnsRelate c.rel (Bounded c) (columns_at (λ b. bind_all b e) os)
      (columns_at (λ b. bind_all b f) ps)
  columns_meet [] [] h e f s = tt
  columns_meet [] (p ∷ ps) h e f s = absurd h
  columns_meet (o ∷ os) [] h e f s = absurd h
  columns_meet (o ∷ os) (p ∷ ps) h e f s = (
    λ b k w. c.carries.next _ _ (Every c.good) Anything (o.0 (bind_all b e) k)
        (p.0 (bind_all b f) k) _ _
        (h.0.0 (bind_all b e) (bind_all b f) (c.bound sight e f s b w) k)
        (λ xs j all. any_step c (key_cell wrong_type xs) j),
    h.0.1,
    columns_meet os ps h.1 e f s,
  )

  directions_same : (os ps : List OrderMeaning) → OrdersMeet c sight os ps →
      map (λ (o : OrderMeaning). o.1) os ≡ map (λ (p : OrderMeaning). p.1) ps
  directions_same [] [] h = refl
  directions_same [] (p ∷ ps) h = absurd h
  directions_same (o ∷ os) [] h = absurd h
  directions_same (o ∷ os) (p ∷ ps) h = λ i. h.0.1 i ∷ directions_same os ps h.1 i

  pub flwor_meets : (cs bs : List ClauseMeaning) → ClausesMeet c sight cs bs →
      (a b : Option Meaning) → TestMeets c sight a b → (os ps : List OrderMeaning) →
      OrdersMeet c sight os ps → (m n : Meaning) → Meet c sight m n →
      Meet c sight (flwor_of cs a os m) (flwor_of bs b ps n)
  flwor_meets cs bs hc a b ht os ps ho m n hm e f s k =
      c.carries.next _ _ (Every (GoodRow c)) (Every c.good) _ _ _ _
      (flow_meets cs bs hc _ _ (where_meets a b ht (keyed os) (keyed ps) (λ e f s bound w j.
      with_row_carried c.like c.rel c.carries (Bounded c) _ _ (columns_meet os ps ho e f s)
      bound j w)) e f s [] tt k) (λ rows j all.
      c.carries.next _ _ (Every (Bounded c)) (Every c.good) _ _ _ _
      (ordered_carried c.like c.rel c.carries (Bounded c) wrong_type wrong_type
      (c.alike wrong_type) _ _ (directions_same os ps ho) rows all j) (λ ts i ok.
      each_carried c.like c.rel c.carries (Bounded c) c.good _ _ (λ bound l w.
      hm (bind_all bound e) (bind_all bound f) (c.bound sight e f s bound w) l) ts ok i))
