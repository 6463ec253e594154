-- FLWOR expressions and quantifiers are carried along sights where their parts are.
use Rattle.std.proofs.Common.{◌≡◌, ℕ, List, [], ◌∷◌, ◌++◌, refl, sym, ap, ap₂, ◌∙◌, map}
use Rattle.std.specs.Prelude.{Bool, true, false, Option, Some, None, pos, if◌then◌else◌}
use Rattle.std.specs.Bool.{beq}
use Rattle.xt_names.specs.declared.names.ExprName.{ExprName}
use Rattle.xt_types.specs.declared.types.SeqType.{SeqType}
use Rattle.xt_atoms.specs.Casts.{wrong_type}
use Rattle.xdm_items.specs.declared.items.Item.{Item}
use Rattle.xdm_items.specs.FunctionArguments.Answers.{of_integer}
use Rattle.order_group.specs.Rows.{Keyed, Cell}
use Rattle.order_group.proofs.Natural.{rekeyed}
use Rattle.expr_meaning.specs.Outcomes.Outcome.{Outcome, Ends, Fails, Deep, and_then, step_outcome, for_each, OnEnds, Every}
use Rattle.expr_meaning.specs.Outcomes.Follow.{same_code}
use Rattle.expr_meaning.proofs.OutcomesLemmas.Steps.{made, each_map}
use Rattle.expr_meaning.specs.SortMeaning.Sorted.{places, key_cell, row_of, ordered}
use Rattle.expr_meaning.proofs.SortMeaning.Carried.{ordered_carried}
use Rattle.expr_meaning.specs.Env.{Binding, Env, Meaning, bind, bind_all}
use Rattle.expr_meaning.specs.Logic.{Bound, typed, truth_at, item_decides, quantified, unless}
use Rattle.expr_meaning.specs.Flow.{Tuples, ClauseMeaning, for_clause, for_item, for_place, for_at_clause}
use Rattle.expr_meaning.specs.Flow.{let_clause, kept_tuple, where_clause, flow_of, OrderMeaning}
use Rattle.expr_meaning.specs.Flow.{columns_at, keyed, finished, flwor_of}
use Rattle.expr_laws.specs.Carrier.{Meet}
use Rattle.expr_laws.proofs.Flow.{OrdersMeet}
use Rattle.rewrite_rules.specs.Moving.{Moving}
use Rattle.rewrite_rules.proofs.Outcomes.{next_same, next_assoc, truth_in}
use Rattle.rewrite_rules.proofs.Paired.{Pairs, firsts, seconds, Related, over, Paired, paired_ends, paired_by}
use Rattle.rewrite_rules.proofs.Paired.{paired_next, paired_each, ordered_made}
use Rattle.rewrite_rules.proofs.Alongside.{same, same_carries, beside}

abbrev pub Tuple : Type 0
Tuple = List Binding

abbrev pub TestsMeet : (S : Type 0) (m : Moving S) → S → Option Meaning → Option Meaning → Type 0
TestsMeet S m s None None = Unit {0}
TestsMeet S m s None (Some b) = ⊥
TestsMeet S m s (Some a) None = ⊥
TestsMeet S m s (Some a) (Some b) = Meet (beside S m s) tt a b

module _ (S : Type 0) (m : Moving S) where
  abbrev pub Met : S → Meaning → Meaning → Type 0
  Met s a b = Meet (beside S m s) tt a b

  -- the same outcome, of sources, tests and bodies
  pub met : (s : S) (a b : Meaning) → Met s a b → (e f : Env) → m.at s e f → (k : ℕ) → a e k ≡ b f k
  met s a b h e f r k = (h e f r k).0

  pub truth_met : (s : S) (a b : Meaning) → Met s a b → (e f : Env) → m.at s e f → (k : ℕ) →
      truth_at a e k ≡ truth_at b f k
  truth_met s a b h e f r k = ap (λ o. truth_in o) (met s a b h e f r k)

  -- lists of bindings that are related at the end
  abbrev pub Alike : S → Env → Env → Tuple → Tuple → Type 0
  Alike end e f b c = m.at end (bind_all b e) (bind_all c f)

  abbrev pub TuplesMove : S → Env → Env → S → Tuples → Tuples → Type 0
  TuplesMove end e f s t u =
      (b c : Tuple) → Alike s e f b c → (k : ℕ) → Paired Tuple (Alike end e f) (t b e k) (u c f k)

  module _ (end : S) (e f : Env) where
    abbrev Good : Tuple → Tuple → Type 0
    Good = Alike end e f

    pub for_moves : (s : S) (v : ExprName) (kind : Option SeqType) (a b : Meaning) → Met s a b →
        (t u : Tuples) → TuplesMove end e f (m.after v s) t u →
        TuplesMove end e f s (for_clause (record { var = v; kind = kind; source = a }) t)
        (for_clause (record { var = v; kind = kind; source = b }) u)
    for_moves s v kind a b h t u n x y r k =
        let first : Bound = record { var = v; kind = kind; source = a } in
        let second : Bound = record { var = v; kind = kind; source = b } in
        paired_by Tuple Good _ _ (and_then (a (bind_all x e) k) (for_each (for_item first t x e)))
        (and_then (a (bind_all x e) k) (for_each (for_item second u y f))) refl
        (ap (λ o. and_then o (for_each (for_item second u y f)))
        (sym (met s a b h (bind_all x e) (bind_all y f) r k)))
        (paired_next Tuple Good (a (bind_all x e) k) (for_each (for_item first t x e))
        (for_each (for_item second u y f)) (λ xs j.
        paired_each Tuple Good (for_item first t x e) (for_item second u y f) (λ i l.
        paired_next Tuple Good (step_outcome (typed kind (i ∷ [])) l) (λ ys. t ((v, ys) ∷ x) e)
        (λ ys. u ((v, ys) ∷ y) f) (λ ys q.
        n ((v, ys) ∷ x) ((v, ys) ∷ y) (m.bound s (bind_all x e) (bind_all y f) r v ys) q)) xs j))

    pub let_moves : (s : S) (v : ExprName) (kind : Option SeqType) (a b : Meaning) → Met s a b →
        (t u : Tuples) → TuplesMove end e f (m.after v s) t u →
        TuplesMove end e f s (let_clause (record { var = v; kind = kind; source = a }) t)
        (let_clause (record { var = v; kind = kind; source = b }) u)
    let_moves s v kind a b h t u n x y r k =
        paired_by Tuple Good _ _
        (and_then (a (bind_all x e) k) (λ xs j. and_then (step_outcome (typed kind xs) j) (λ ys. t ((v, ys) ∷ x) e)))
        (and_then (a (bind_all x e) k) (λ xs j. and_then (step_outcome (typed kind xs) j) (λ ys. u ((v, ys) ∷ y) f)))
        refl
        (ap (λ o. and_then o (λ xs j. and_then (step_outcome (typed kind xs) j) (λ ys. u ((v, ys) ∷ y) f)))
        (sym (met s a b h (bind_all x e) (bind_all y f) r k)))
        (paired_next Tuple Good (a (bind_all x e) k) _ _ (λ xs j.
        paired_next Tuple Good (step_outcome (typed kind xs) j) (λ ys. t ((v, ys) ∷ x) e)
        (λ ys. u ((v, ys) ∷ y) f) (λ ys q.
        n ((v, ys) ∷ x) ((v, ys) ∷ y) (m.bound s (bind_all x e) (bind_all y f) r v ys) q)))

    pub at_moves : (s : S) (v place : ExprName) (kind : Option SeqType) (a b : Meaning) → Met s a b →
        (t u : Tuples) → TuplesMove end e f (m.after place (m.after v s)) t u →
        TuplesMove end e f s (for_at_clause (record { var = v; kind = kind; source = a }) place t)
        (for_at_clause (record { var = v; kind = kind; source = b }) place u)
    at_moves s v place kind a b h t u n x y r k =
        let first : Bound = record { var = v; kind = kind; source = a } in
        let second : Bound = record { var = v; kind = kind; source = b } in
        paired_by Tuple Good _ _
        (and_then (a (bind_all x e) k) (λ xs j. and_then (step_outcome (places xs) j)
        (for_each (for_place first place t x e))))
        (and_then (a (bind_all x e) k) (λ xs j. and_then (step_outcome (places xs) j)
        (for_each (for_place second place u y f)))) refl
        (ap (λ o. and_then o (λ xs j. and_then (step_outcome (places xs) j)
        (for_each (for_place second place u y f))))
        (sym (met s a b h (bind_all x e) (bind_all y f) r k)))
        (paired_next Tuple Good (a (bind_all x e) k) _ _ (λ xs j.
        paired_next Tuple Good (step_outcome (places xs) j) (for_each (for_place first place t x e))
        (for_each (for_place second place u y f)) (λ fs l.
        paired_each Tuple Good (for_place first place t x e) (for_place second place u y f) (λ g i.
        paired_next Tuple Good (step_outcome (typed kind (g.value ∷ [])) i)
        (λ ys. t ((place, of_integer (pos g.place)) ∷ (v, ys) ∷ x) e)
        (λ ys. u ((place, of_integer (pos g.place)) ∷ (v, ys) ∷ y) f) (λ ys q.
        n ((place, of_integer (pos g.place)) ∷ (v, ys) ∷ x)
        ((place, of_integer (pos g.place)) ∷ (v, ys) ∷ y)
        (m.bound (m.after v s) (bind_all ((v, ys) ∷ x) e) (bind_all ((v, ys) ∷ y) f)
        (m.bound s (bind_all x e) (bind_all y f) r v ys) place (of_integer (pos g.place))) q)) fs l)))

    kept_moves : (t u : Tuples) (x y : Tuple) →
        ((j : ℕ) → Paired Tuple Good (t x e j) (u y f j)) → (v : Bool) (j : ℕ) →
        Paired Tuple Good (kept_tuple t x e v j) (kept_tuple u y f v j)
    kept_moves t u x y n true j = n j
    kept_moves t u x y n false j = paired_ends Tuple Good [] j tt

    pub where_moves : (s : S) (a b : Option Meaning) → TestsMeet S m s a b →
        (t u : Tuples) → TuplesMove end e f s t u →
        TuplesMove end e f s (where_clause a t) (where_clause b u)
    where_moves s None None h t u n = n
    where_moves s None (Some b) h t u n = absurd h
    where_moves s (Some a) None h t u n = absurd h
    where_moves s (Some a) (Some b) h t u n = λ x y r k.
        paired_by Tuple Good _ _ (and_then (truth_at a (bind_all x e) k) (kept_tuple t x e))
        (and_then (truth_at a (bind_all x e) k) (kept_tuple u y f)) refl
        (ap (λ o. and_then o (kept_tuple u y f))
        (sym (truth_met s a b h (bind_all x e) (bind_all y f) r k)))
        (paired_next Tuple Good (truth_at a (bind_all x e) k) (kept_tuple t x e) (kept_tuple u y f)
        (kept_moves t u x y (λ j. n x y r j)))

    -- the keys of a tuple
    row_same : (s : S) (os ps : List OrderMeaning) → OrdersMeet (beside S m s) tt os ps →
        (x y : Tuple) → Alike s e f x y → (k : ℕ) →
        row_of (columns_at (λ b. bind_all b e) os) x k ≡ row_of (columns_at (λ b. bind_all b f) ps) y k
    row_same s [] [] h x y r k = refl
    row_same s [] (p ∷ ps) h x y r k = absurd h
    row_same s (o ∷ os) [] h x y r k = absurd h
    row_same s (o ∷ os) (p ∷ ps) h x y r k =
        ap (λ v. and_then (key_of v) (λ cell j.
        and_then (row_of (columns_at (λ b. bind_all b e) os) x j) (λ cells i. Ends (cell ∷ cells) i)))
        (met s o.0 p.0 h.0.0 (bind_all x e) (bind_all y f) r k)
        ∙ next_same (key_of (p.0 (bind_all y f) k)) _ _ (λ cell j.
        ap (λ v. and_then v (λ cells i. Ends (cell ∷ cells) i)) (row_same s os ps h.1 x y r j))
      where
        key_of : Outcome (List Item) → Outcome Cell
        key_of v = and_then v (λ xs j. step_outcome (key_cell wrong_type xs) j)

    pub keyed_moves : (os ps : List OrderMeaning) → OrdersMeet (beside S m end) tt os ps →
        TuplesMove end e f end (keyed os) (keyed ps)
    keyed_moves os ps h x y r k =
        let row = row_of (columns_at (λ b. bind_all b e) os) x k in
        paired_by Tuple Good (keyed os x e k) (keyed ps y f k)
        (and_then row (λ cells j. Ends (record { cells = cells; value = x } ∷ []) j))
        (and_then row (λ cells j. Ends (record { cells = cells; value = y } ∷ []) j)) refl
        (ap (λ o. and_then o (λ cells j. Ends (record { cells = cells; value = y } ∷ []) j))
        (sym (row_same end os ps h x y r k)))
        (paired_next Tuple Good row _ _ (λ cells j.
        paired_ends Tuple Good (record { cells = cells; value = (x, y) } ∷ []) j (r, tt)))

    directions_same : (os ps : List OrderMeaning) → OrdersMeet (beside S m end) tt os ps →
        map (λ o. o.1) os ≡ map (λ o. o.1) ps
    directions_same [] [] h = refl
    directions_same [] (p ∷ ps) h = absurd h
    directions_same (o ∷ os) [] h = absurd h
    directions_same (o ∷ os) (p ∷ ps) h = ap₂ (λ a b. a ∷ b) h.0.1 (directions_same os ps h.1)

    -- the bodies, tuple by tuple
    bodies_same : (a b : Meaning) → Met end a b → (rows : List (Tuple × Tuple)) →
        Every (λ r. Good r.0 r.1) rows → (k : ℕ) →
        for_each (λ r. a (bind_all r.0 e)) rows k ≡ for_each (λ r. b (bind_all r.1 f)) rows k
    bodies_same a b h [] g k = refl
    bodies_same a b h (r ∷ rows) g k =
        ap (λ o. and_then o (λ ys j. and_then (for_each (λ r. a (bind_all r.0 e)) rows j)
        (λ zs i. Ends (ys ++ zs) i))) (met end a b h (bind_all r.0 e) (bind_all r.1 f) g.0 k)
        ∙ next_same (b (bind_all r.1 f) k) _ _ (λ ys j.
        ap (λ o. and_then o (λ zs i. Ends (ys ++ zs) i)) (bodies_same a b h rows g.1 j))

    ended_same : {A : Type 0} (P : A → Type 0) (o : Outcome A) → OnEnds P o →
        (g h : A → ℕ → Outcome (List Item)) → ((v : A) → P v → (k : ℕ) → g v k ≡ h v k) →
        and_then o g ≡ and_then o h
    ended_same P (Ends v k) p g h same = same v p k
    ended_same P (Fails c) p g h each = refl
    ended_same P Deep p g h each = refl

    side : (h : Tuple × Tuple → Tuple) (ds : List Bool) (body : Tuple → ℕ → Outcome (List Item))
        (rows : Pairs Tuple Good) (k : ℕ) →
        and_then (ordered wrong_type ds (map (rekeyed h) rows) k) (for_each body)
        ≡ and_then (ordered wrong_type ds rows k) (for_each (λ r. body (h r)))
    side h ds body rows k =
        ap (λ o. and_then o (for_each body)) (ordered_made h wrong_type ds rows k)
        ∙ next_assoc (ordered wrong_type ds rows k) (made h) (for_each body)
        ∙ next_same (ordered wrong_type ds rows k) _ _ (λ rs j. each_map body h rs j)

    finished_same : (os ps : List OrderMeaning) → OrdersMeet (beside S m end) tt os ps →
        (a b : Meaning) → Met end a b → (rows : Pairs Tuple Good) (k : ℕ) → Related Tuple Good rows →
        finished os a e (firsts Tuple Good rows) k ≡ finished ps b f (seconds Tuple Good rows) k
    finished_same os ps o a b h rows k g =
        side (λ r. r.0) (map (λ o. o.1) os) (λ x. a (bind_all x e)) rows k
        ∙ ended_same (Every (λ r. Good r.0 r.1)) (ordered wrong_type (map (λ o. o.1) os) rows k)
        (ordered_carried same_code same same_carries (λ r. Good r.0 r.1) wrong_type wrong_type refl
        (map (λ o. o.1) os) (map (λ o. o.1) os) refl rows g k).1
        (for_each (λ r. a (bind_all r.0 e))) (for_each (λ r. b (bind_all r.1 f)))
        (λ rs p j. bodies_same a b h rs p j)
        ∙ ap (λ ds. and_then (ordered wrong_type ds rows k) (for_each (λ r. b (bind_all r.1 f))))
        (directions_same os ps o)
        ∙ sym (side (λ r. r.1) (map (λ o. o.1) ps) (λ x. b (bind_all x f)) rows k)

    over_same : (w : Outcome (Pairs Tuple Good)) → OnEnds (Related Tuple Good) w →
        (g h : List (Keyed Tuple) → ℕ → Outcome (List Item)) →
        ((rows : Pairs Tuple Good) (k : ℕ) → Related Tuple Good rows →
        g (firsts Tuple Good rows) k ≡ h (seconds Tuple Good rows) k) →
        and_then (over Tuple Good (firsts Tuple Good) w) g ≡ and_then (over Tuple Good (seconds Tuple Good) w) h
    over_same (Ends rows k) r g h each = each rows k r
    over_same (Fails c) r g h each = refl
    over_same Deep r g h each = refl

    -- a whole expression, where its clauses lead from one sight to another
    pub flwor_same : (s : S) (t u : List ClauseMeaning) (a b : Option Meaning) → TestsMeet S m end a b →
        (os ps : List OrderMeaning) → OrdersMeet (beside S m end) tt os ps →
        (x y : Meaning) → Met end x y →
        ((v w : Tuples) → TuplesMove end e f end v w → TuplesMove end e f s (flow_of t v) (flow_of u w)) →
        m.at s e f → (k : ℕ) → flwor_of t a os x e k ≡ flwor_of u b ps y f k
    flwor_same s t u a b test os ps o x y body clauses r k =
        let paired : Paired Tuple Good (flow_of t (where_clause a (keyed os)) [] e k)
        (flow_of u (where_clause b (keyed ps)) [] f k) =
        clauses (where_clause a (keyed os)) (where_clause b (keyed ps))
        (where_moves end a b test (keyed os) (keyed ps) (keyed_moves os ps o)) [] [] r k in
        ap (λ z. and_then z (finished os x e)) paired.first
        ∙ over_same paired.both paired.related (finished os x e) (finished ps y f)
        (finished_same os ps o x y body)
        ∙ sym (ap (λ z. and_then z (finished ps y f)) paired.second)

  -- quantifiers
  abbrev pub TruthMet : S → (Env → ℕ → Outcome Bool) → (Env → ℕ → Outcome Bool) → Type 0
  TruthMet s a b = (e f : Env) → m.at s e f → (k : ℕ) → a e k ≡ b f k

  unless_same : (d t : Bool) (o p : ℕ → Outcome Bool) → ((i : ℕ) → o i ≡ p i) → (j : ℕ) →
      unless d o t j ≡ unless d p t j
  unless_same d t o p h j = by (beq t d)
    where
      by : (c : Bool) → (if c then Ends t j else o j) ≡ (if c then Ends t j else p j)
      by true = refl
      by false = h j

  item_same : (d : Bool) (s : S) (v : ExprName) (kind : Option SeqType) (a b : Meaning)
      (t u : Env → ℕ → Outcome Bool) → TruthMet (m.after v s) t u → (e f : Env) → m.at s e f →
      (xs : List Item) (k : ℕ) →
      item_decides d (record { var = v; kind = kind; source = a }) t e xs k
      ≡ item_decides d (record { var = v; kind = kind; source = b }) u f xs k
  item_same d s v kind a b t u h e f r [] k = refl
  item_same d s v kind a b t u h e f r (x ∷ xs) k =
      next_same (step_outcome (typed kind (x ∷ [])) k) _ _ (λ ys j.
      ap (λ o. and_then o (unless d (item_decides d (record { var = v; kind = kind; source = a }) t e xs)))
      (h (bind v ys e) (bind v ys f) (m.bound s e f r v ys) j)
      ∙ next_same (u (bind v ys f) j) _ _ (λ q i.
      unless_same d q (item_decides d (record { var = v; kind = kind; source = a }) t e xs)
      (item_decides d (record { var = v; kind = kind; source = b }) u f xs)
      (λ l. item_same d s v kind a b t u h e f r xs l) i))

  -- one more binding before
  pub quantified_more : (d : Bool) (s : S) (v : ExprName) (kind : Option SeqType) (a b : Meaning) →
      Met s a b → (bs cs : List Bound) (x y : Meaning) →
      TruthMet (m.after v s) (quantified d bs x) (quantified d cs y) →
      TruthMet s (quantified d (record { var = v; kind = kind; source = a } ∷ bs) x)
      (quantified d (record { var = v; kind = kind; source = b } ∷ cs) y)
  quantified_more d s v kind a b h bs cs x y n e f r k =
      ap (λ o. and_then o (item_decides d (record { var = v; kind = kind; source = a }) (quantified d bs x) e))
      (met s a b h e f r k)
      ∙ next_same (b f k) _ _ (λ xs j.
      item_same d s v kind a b (quantified d bs x) (quantified d cs y) n e f r xs j)
