-- A `let` of a still value that is not read, or that is put in place of its variable, goes.
use Rattle.std.proofs.Common.{◌≡◌, ℕ, List, [], ◌∷◌, refl, sym, ap, ◌∙◌, map, subst}
use Rattle.std.specs.Prelude.{Bool, true, false, if◌then◌else◌, Some, None}
use Rattle.xt_names.specs.declared.names.ExprName.{ExprName}
use Rattle.xt_atoms.specs.declared.atoms.Atom.TheVariants as atom
use Rattle.xdm_items.specs.declared.items.Item.{Item}
use Rattle.xdm_items.specs.declared.items.Item.TheVariants.{Atom}
use Rattle.xt_syntax.specs.declared.exprs.Expr.{Expr}
use Rattle.xt_syntax.specs.declared.exprs.Clause.{Clause}
use Rattle.xt_syntax.specs.declared.exprs.Flwor.{Flwor as FlworOf}
use Rattle.xt_syntax.specs.declared.exprs.Bind.{Bind}
use Rattle.xt_syntax.specs.declared.exprs.Clause.TheOpen.{Var, For, Let}
use Rattle.xt_syntax.specs.declared.exprs.Clause.TheViews.{roll-Expr, out-Bind}
use Rattle.xt_syntax.specs.declared.exprs.Clause.TheViews.{out-Flwor, roll-Flwor, out-roll-Flwor}
use Rattle.xt_syntax.specs.declared.exprs.Clause.TheViews.{roll-Clause}
use Rattle.expr_meaning.specs.Outcomes.Outcome.{Ends, and_then, step_outcome}
use Rattle.expr_meaning.specs.Env.{Env, Meaning, Program, bind, bind_all}
use Rattle.expr_meaning.specs.Meaning.{outcome}
use Rattle.expr_meaning.specs.Logic.{typed}
use Rattle.expr_meaning.specs.Flow.{Tuples, for_clause, for_at_clause, let_clause, flow_of}
use Rattle.expr_laws.proofs.Rolled.{rolled_clause}
use Rattle.rewrite_rules.specs.Forms.{ClauseForm, FlworForm}
use Rattle.rewrite_rules.specs.Law.{Binds}
use Rattle.rewrite_rules.specs.Sights.{Small, integer, string, variable, expr_of, Sight, plain}
use Rattle.rewrite_rules.specs.Sights.{keep, lose, put, after, may_read, replaced, as_it_is, changed_flwor}
use Rattle.rewrite_rules.specs.Sights.{flwor_allows, Gives, SeesAt}
use Rattle.rewrite_rules.specs.Lets.{is_still, behind_form, rest_of, is_local_small}
use Rattle.rewrite_rules.proofs.Alongside.{itself}
use Rattle.rewrite_rules.proofs.Paired.{paired_by}
use Rattle.rewrite_rules.proofs.FlowMoves.{Tuple, Met, Alike, TuplesMove, for_moves, let_moves, at_moves}
use Rattle.rewrite_rules.proofs.FlowParts.{FlowMoved}
use Rattle.rewrite_rules.proofs.FlowsSame.{clause_meaning, bind_means}
use Rattle.rewrite_rules.proofs.SightsMove.{sights, found_here, found_behind, small_means, variable_same}
use Rattle.rewrite_rules.proofs.StillMeans.{still_ends, local_found}
use Rattle.rewrite_rules.proofs.Unchanged.{flwor_same}
use Rattle.rewrite_rules.proofs.Whole.{flow_moved}

-- sights at which all variables stay as they are
abbrev NotPut : Sight → Type 0
NotPut (plain names) = Unit {0}
NotPut keep = Unit {0}
NotPut (lose v) = Unit {0}
NotPut (put v r) = ⊥

keep_or_lose : (v : ExprName) (b : Bool) → NotPut (if b then keep else lose v)
keep_or_lose v true = tt
keep_or_lose v false = tt

not_put_after : (u : ExprName) (s : Sight) → NotPut s → NotPut (after u s)
not_put_after u (plain names) h = tt
not_put_after u keep h = tt
not_put_after u (lose v) h = keep_or_lose v _
not_put_after u (put v r) h = absurd h

not_put_variable : (s : Sight) (n : ExprName) → NotPut s → replaced s n ≡ roll-Expr (Var n)
not_put_variable (plain names) n h = refl
not_put_variable keep n h = refl
not_put_variable (lose v) n h = refl
not_put_variable (put v r) n h = absurd h

lost_same : (f : FlworOf) (v : ExprName) → changed_flwor f (lose v) ≡ f
lost_same f v = flwor_same Sight after replaced NotPut not_put_after not_put_variable f (lose v) tt

module _ (p : Program) where
  abbrev Parts : Sight → FlworForm → FlworForm → Type 0
  Parts s f g = FlowMoved Sight sights p s f g

  moved_parts : (f : FlworForm) (s : Sight) → flwor_allows (roll-Flwor f) s ≡ true →
      (g : FlworForm) × (changed_flwor (roll-Flwor f) s ≡ roll-Flwor g) × Parts s f g
  moved_parts f s h =
      flow_moved Sight sights p replaced as_it_is may_read (variable_same p) (λ t x e g r k. refl) f s h

  pub lost_parts : (f : FlworForm) (v : ExprName) → flwor_allows (roll-Flwor f) (lose v) ≡ true →
      Parts (lose v) f f
  lost_parts f v h =
      let q = moved_parts f (lose v) h in
      subst (Parts (lose v) f)
      (sym (out-roll-Flwor q.0) ∙ ap out-Flwor (sym q.1 ∙ lost_same (roll-Flwor f) v) ∙ out-roll-Flwor f) q.2

  pub put_parts : (f : FlworForm) (v : ExprName) (r : Small) →
      flwor_allows (roll-Flwor f) (put v r) ≡ true →
      Parts (put v r) f (out-Flwor (changed_flwor (roll-Flwor f) (put v r)))
  put_parts f v r h =
      let q = moved_parts f (put v r) h in
      subst (Parts (put v r) f) (sym (out-roll-Flwor q.0) ∙ ap out-Flwor (sym q.1)) q.2

  -- where nothing is taken out a meaning is the same
  plain_met : (names : List ExprName) (a : Meaning) → Met Sight sights (plain names) a a
  plain_met names a e f h k = itself (a e k) (a f k) (ap (λ x. a x k) h.0)

  for_means : (c : Clause) (b : Bind) → roll-Clause (For b None) ≡ c → clause_meaning p c
      ≡ for_clause (record { var = (out-Bind b).var; kind = (out-Bind b).kind; source = outcome p (out-Bind b).source })
  for_means c b h =
      ap (clause_meaning p) (sym h) ∙ rolled_clause p (For b None) ∙ ap for_clause (bind_means p b)

  at_means : (c : Clause) (b : Bind) (place : ExprName) → roll-Clause (For b (Some place)) ≡ c →
      clause_meaning p c
      ≡ for_at_clause (record { var = (out-Bind b).var; kind = (out-Bind b).kind; source = outcome p (out-Bind b).source }) place
  at_means c b place h =
      ap (clause_meaning p) (sym h) ∙ rolled_clause p (For b (Some place))
      ∙ ap (λ x. for_at_clause x place) (bind_means p b)

  pub let_means : (c : Clause) (b : Bind) → roll-Clause (Let b) ≡ c → clause_meaning p c
      ≡ let_clause (record { var = (out-Bind b).var; kind = (out-Bind b).kind; source = outcome p (out-Bind b).source })
  let_means c b h =
      ap (clause_meaning p) (sym h) ∙ rolled_clause p (Let b) ∙ ap let_clause (bind_means p b)

  -- a clause before others
  pub clause_plain : (names : List ExprName) (c : Clause) (x : ClauseForm) → roll-Clause x ≡ c →
      (end : Sight) (e f : Env) (t u : Tuples) →
      TuplesMove Sight sights end e f (plain (behind_form x names)) t u →
      TuplesMove Sight sights end e f (plain names) (clause_meaning p c t) (clause_meaning p c u)
  clause_plain names c (For b None) h end e f t u n =
      subst (λ z. TuplesMove Sight sights end e f (plain names) (z t) (z u)) (sym (for_means c b h))
      (for_moves Sight sights end e f (plain names) (out-Bind b).var (out-Bind b).kind
      (outcome p (out-Bind b).source) (outcome p (out-Bind b).source)
      (plain_met names (outcome p (out-Bind b).source)) t u n)
  clause_plain names c (For b (Some place)) h end e f t u n =
      subst (λ z. TuplesMove Sight sights end e f (plain names) (z t) (z u)) (sym (at_means c b place h))
      (at_moves Sight sights end e f (plain names) (out-Bind b).var place (out-Bind b).kind
      (outcome p (out-Bind b).source) (outcome p (out-Bind b).source)
      (plain_met names (outcome p (out-Bind b).source)) t u n)
  clause_plain names c (Let b) h end e f t u n =
      subst (λ z. TuplesMove Sight sights end e f (plain names) (z t) (z u)) (sym (let_means c b h))
      (let_moves Sight sights end e f (plain names) (out-Bind b).var (out-Bind b).kind
      (outcome p (out-Bind b).source) (outcome p (out-Bind b).source)
      (plain_met names (outcome p (out-Bind b).source)) t u n)

  -- what is known of the value of a `let` that goes
  abbrev pub Value : List ExprName → Sight → ExprName → Meaning → Type 0
  Value names s v a = (x : Env) → Binds names x →
      (xs : List Item) × ((k : ℕ) → a x k ≡ Ends xs k) × SeesAt s (bind v xs x) x

  pub let_goes : (names : List ExprName) (s : Sight) (v : ExprName) (a : Meaning) → Value names s v a →
      (end : Sight) (e f : Env) (t u : Tuples) → TuplesMove Sight sights end e f s t u →
      TuplesMove Sight sights end e f (plain names)
      (let_clause (record { var = v; kind = None; source = a }) t) u
  let_goes names s v a value end e f t u n b c r k =
      let q = value (bind_all b e) r.1 in
      paired_by Tuple (Alike Sight sights end e f)
      (let_clause (record { var = v; kind = None; source = a }) t b e k) (u c f k)
      (t ((v, q.0) ∷ b) e k) (u c f k)
      (ap (λ o. and_then o (λ xs j. and_then (step_outcome (typed None xs) j) (λ ys. t ((v, ys) ∷ b) e))) (q.1 k))
      refl
      (n ((v, q.0) ∷ b) c (subst (λ z. SeesAt s (bind v q.0 (bind_all b e)) z) r.0 q.2) k)

  lose_seen : (v : ExprName) (xs : List Item) (x : Env) → SeesAt (lose v) (bind v xs x) x
  lose_seen v xs x = record { locals = λ n d. found_behind v n xs x.locals d; focus = refl; state = refl }

  pub still_value : (names : List ExprName) (v : ExprName) (e : Expr) → is_still names e ≡ true →
      Value names (lose v) v (outcome p e)
  still_value names v e h x b =
      let q = still_ends p names x b e h in (q.0, q.1, lose_seen v q.0 x)

  small_value : (names : List ExprName) (x : Env) → Binds names x → (r : Small) →
      is_local_small names r ≡ true → (xs : List Item) × Gives r x xs
  small_value names x b (integer n) h = (Atom (atom.Int n) ∷ [], refl)
  small_value names x b (string t) h = (Atom (atom.Str t) ∷ [], refl)
  small_value names x b (variable w) h = local_found names x b w h

  pub put_value : (names : List ExprName) (v : ExprName) (r : Small) → is_local_small names r ≡ true →
      Value names (put v r) v (outcome p (expr_of r))
  put_value names v r h x b =
      let q = small_value names x b r h in
      (q.0, small_means p r x q.0 q.1, (lose_seen v q.0 x, (q.0, found_here v q.0 x.locals, q.1)))

  -- the clause goes, and what comes after it moves
  pub let_parts : (names : List ExprName) (c : Clause) (b : Bind) → roll-Clause (Let b) ≡ c →
      (out-Bind b).kind ≡ None → (s : Sight) → Value names s (out-Bind b).var (outcome p (out-Bind b).source) →
      (f g : FlworForm) → Parts s f g → Parts (plain names) (rest_of f (c ∷ f.clauses)) g
  let_parts names c b h none s value f g q = record {
    end = q.end;
    test = q.test;
    orders = q.orders;
    body = q.body;
    clauses = λ e k t u n.
        subst (λ z. TuplesMove Sight sights q.end e k (plain names)
        (z (flow_of (map (clause_meaning p) f.clauses) t)) (flow_of (map (clause_meaning p) g.clauses) u))
        (sym (let_means c b h
        ∙ ap (λ w. let_clause (record { var = (out-Bind b).var; kind = w; source = outcome p (out-Bind b).source })) none))
        (let_goes names s (out-Bind b).var (outcome p (out-Bind b).source) value q.end e k
        (flow_of (map (clause_meaning p) f.clauses) t) (flow_of (map (clause_meaning p) g.clauses) u)
        (q.clauses e k t u n));
  }

  pub before_parts : (names : List ExprName) (c : Clause) (x : ClauseForm) → roll-Clause x ≡ c →
      (f g : FlworForm) → Parts (plain (behind_form x names)) f g →
      Parts (plain names) (rest_of f (c ∷ f.clauses)) (rest_of g (c ∷ g.clauses))
  before_parts names c x h f g q = record {
    end = q.end;
    test = q.test;
    orders = q.orders;
    body = q.body;
    clauses = λ e k t u n.
        clause_plain names c x h q.end e k (flow_of (map (clause_meaning p) f.clauses) t)
        (flow_of (map (clause_meaning p) g.clauses) u) (q.clauses e k t u n);
  }
