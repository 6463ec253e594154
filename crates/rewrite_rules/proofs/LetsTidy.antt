-- The rules for `let` clauses give what is tidier.
use Rattle.std.proofs.Common.{◌≡◌, ℕ, ◌+◌, ◌≤◌, ◌<◌, max, List, [], ◌∷◌, refl, sym, ap, ◌∙◌, map, subst, arith}
use Rattle.std.specs.Prelude.{Bool, true, false, ◌&&◌, if◌then◌else◌, Option, Some, None}
use Rattle.xt_names.specs.declared.names.ExprName.{ExprName}
use Rattle.xt_types.specs.declared.types.SeqType.{SeqType}
use Rattle.xt_atoms.specs.Casts.{wrong_type}
use Rattle.xt_syntax.specs.declared.exprs.Expr.{Expr}
use Rattle.xt_syntax.specs.declared.exprs.Clause.{Clause}
use Rattle.xt_syntax.specs.declared.exprs.Order.{Order}
use Rattle.xt_syntax.specs.declared.exprs.Bind.{Bind}
use Rattle.xt_syntax.specs.declared.exprs.Clause.TheOpen.{Int, Str, Var, Flwor, For, Let}
use Rattle.xt_syntax.specs.declared.exprs.Clause.TheViews.{out-Expr, roll-Expr, roll-out-Expr, out-Bind}
use Rattle.xt_syntax.specs.declared.exprs.Clause.TheViews.{out-Flwor, roll-Flwor, roll-out-Flwor}
use Rattle.xt_syntax.specs.declared.exprs.Clause.TheViews.{out-Clause, roll-Clause, roll-out-Clause}
use Rattle.xt_forms.specs.Nest.{nests, nest_steps, nest_of, clause_nest_of, order_nest_of, flwor_nest_of}
use Rattle.expr_meaning.specs.Outcomes.Outcome.{and_then, for_each}
use Rattle.expr_meaning.proofs.SortMeaning.Sorting.{sorted_plain}
use Rattle.expr_meaning.specs.Env.{Env, Meaning, Program, bind_all}
use Rattle.expr_meaning.specs.Meaning.{outcome}
use Rattle.expr_meaning.specs.Flow.{flwor_of}
use Rattle.rewrite_rules.specs.Forms.{ExprForm, ClauseForm, FlworForm}
use Rattle.rewrite_rules.specs.Sizes.{size_steps, size_of}
use Rattle.rewrite_rules.specs.Law.{Binds, OnSome, IsTidier, Tidies}
use Rattle.rewrite_rules.specs.Sights.{Small, integer, string, variable, small_form, expr_of, Sight, plain}
use Rattle.rewrite_rules.specs.Sights.{keep, lose, put, after, replaced, changed_flwor, flwor_allows}
use Rattle.rewrite_rules.specs.Lets.{is_still, behind_form, rest_of, before, first_or, Taken}
use Rattle.rewrite_rules.specs.Lets.{without_clause, unread, unread_clause, is_local_small, put_in, copied}
use Rattle.rewrite_rules.specs.Lets.{copied_clause, bare_body, left_of, left, taken_form, rule_1, rule_7}
use Rattle.rewrite_rules.proofs.Counts.{if_some}
use Rattle.rewrite_rules.proofs.Folded.{flwor_rolled}
use Rattle.rewrite_rules.proofs.Measured.{clause_size_of, order_size_of, flwor_size_of}
use Rattle.rewrite_rules.proofs.Measured.{one_size, one_nest, flow_size, flow_nest, let_size, bind_size, positive}
use Rattle.rewrite_rules.proofs.Measured.{size_rolled, nest_rolled}
use Rattle.rewrite_rules.proofs.Outcomes.{then_none}
use Rattle.rewrite_rules.proofs.FlowMoves.{flwor_same}
use Rattle.rewrite_rules.proofs.FlowParts.{FlowMoved}
use Rattle.rewrite_rules.proofs.FlowsSame.{clause_meaning, order_meaning, test_meaning, flow_form, flow_expr, flow_means}
use Rattle.rewrite_rules.proofs.Preserved.{flwor_same as preserved}
use Rattle.rewrite_rules.proofs.SightsMove.{sights}
use Rattle.rewrite_rules.proofs.LetsMove.{Value, lost_parts, put_parts, still_value, put_value, let_parts, before_parts}
use Rattle.xt_names.specs.Lists.{greatest, total}

-- sizes and nesting, without the expression itself
abbrev pub flow_sizes : FlworForm → ℕ
flow_sizes f =
    total (map clause_size_of f.clauses) + (one_size f.test + (total (map order_size_of f.orders) + size_of f.body))

abbrev pub flow_nests : FlworForm → ℕ
flow_nests f =
    max (greatest (map clause_nest_of f.clauses))
    (max (one_nest f.test) (max (greatest (map order_nest_of f.orders)) (nest_of f.body)))

sizes_are : (cs : List Clause) (test : Option Expr) (os : List Order) (s : Bool) (body : Expr) →
    flwor_size_of (roll-Flwor (flow_form cs test os s body)) ≡ flow_sizes (flow_form cs test os s body)
sizes_are cs None os s body = flwor_rolled nests size_steps (flow_form cs None os s body)
sizes_are cs (Some e) os s body = flwor_rolled nests size_steps (flow_form cs (Some e) os s body)

nests_are : (cs : List Clause) (test : Option Expr) (os : List Order) (s : Bool) (body : Expr) →
    flwor_nest_of (roll-Flwor (flow_form cs test os s body)) ≡ flow_nests (flow_form cs test os s body)
nests_are cs None os s body = flwor_rolled nests nest_steps (flow_form cs None os s body)
nests_are cs (Some e) os s body = flwor_rolled nests nest_steps (flow_form cs (Some e) os s body)

pub sizes_of : (f : FlworForm) → flwor_size_of (roll-Flwor f) ≡ flow_sizes f
sizes_of f = sizes_are f.clauses f.test f.orders f.stable f.body

pub nests_of : (f : FlworForm) → flwor_nest_of (roll-Flwor f) ≡ flow_nests f
nests_of f = nests_are f.clauses f.test f.orders f.stable f.body

-- what is put in place of a variable is as large
small_size : (r : Small) (n : ExprName) → size_of (expr_of r) ≡ size_of (roll-Expr (Var n))
small_size (integer i) n = size_rolled (Int i) ∙ sym (size_rolled (Var n))
small_size (string t) n = size_rolled (Str t) ∙ sym (size_rolled (Var n))
small_size (variable w) n = size_rolled (Var w) ∙ sym (size_rolled (Var n))

small_nest : (r : Small) (n : ExprName) → nest_of (expr_of r) ≡ nest_of (roll-Expr (Var n))
small_nest (integer i) n = nest_rolled (Int i) ∙ sym (nest_rolled (Var n))
small_nest (string t) n = nest_rolled (Str t) ∙ sym (nest_rolled (Var n))
small_nest (variable w) n = nest_rolled (Var w) ∙ sym (nest_rolled (Var n))

either : (f : Expr → ℕ) (b : Bool) (x y : Expr) → f x ≡ f y → f (if b then x else y) ≡ f y
either f true x y h = h
either f false x y h = refl

replaced_size : (s : Sight) (n : ExprName) → Unit {0} → size_of (replaced s n) ≡ size_of (roll-Expr (Var n))
replaced_size (plain names) n o = refl
replaced_size keep n o = refl
replaced_size (lose v) n o = refl
replaced_size (put v r) n o = either size_of _ (expr_of r) (roll-Expr (Var n)) (small_size r n)

replaced_nest : (s : Sight) (n : ExprName) → Unit {0} → nest_of (replaced s n) ≡ nest_of (roll-Expr (Var n))
replaced_nest (plain names) n o = refl
replaced_nest keep n o = refl
replaced_nest (lose v) n o = refl
replaced_nest (put v r) n o = either nest_of _ (expr_of r) (roll-Expr (Var n)) (small_nest r n)

abbrev put_form : FlworForm → ExprName → Small → FlworForm
put_form f v r = out-Flwor (changed_flwor (roll-Flwor f) (put v r))

put_sizes : (f : FlworForm) (v : ExprName) (r : Small) → flow_sizes (put_form f v r) ≡ flow_sizes f
put_sizes f v r =
    sym (sizes_of (put_form f v r)) ∙ ap flwor_size_of (roll-out-Flwor (changed_flwor (roll-Flwor f) (put v r)))
    ∙ preserved Sight after replaced nests size_steps (λ s. Unit {0}) (λ u s o. tt) replaced_size
    (roll-Flwor f) (put v r) tt
    ∙ sizes_of f

put_nests : (f : FlworForm) (v : ExprName) (r : Small) → flow_nests (put_form f v r) ≡ flow_nests f
put_nests f v r =
    sym (nests_of (put_form f v r)) ∙ ap flwor_nest_of (roll-out-Flwor (changed_flwor (roll-Flwor f) (put v r)))
    ∙ preserved Sight after replaced nests nest_steps (λ s. Unit {0}) (λ u s o. tt) replaced_nest
    (roll-Flwor f) (put v r) tt
    ∙ nests_of f

-- what is left does the same, nests no deeper and is smaller
pub record IsLeft (names : List ExprName) (f g : FlworForm) : Type 0 where
  pub parts : (p : Program) → FlowMoved Sight sights p (plain names) f g
  pub size : flow_sizes g + 1 ≤ flow_sizes f
  pub nest : flow_nests g ≤ flow_nests f

abbrev IsTaking : Taken → Type 0
IsTaking taken = (names : List ExprName) (c : Clause) (x : ClauseForm) → roll-Clause x ≡ c → (f : FlworForm) →
    OnSome (IsLeft names (rest_of f (c ∷ f.clauses))) (taken names x f)

first_left : (P : FlworForm → Type 0) (o later : Option FlworForm) → OnSome P o →
    OnSome P later → OnSome P (first_or o later)
first_left P (Some g) later h i = h
first_left P None later h i = i

before_left : (names : List ExprName) (c : Clause) (x : ClauseForm) → roll-Clause x ≡ c →
    (f : FlworForm) (o : Option FlworForm) → OnSome (IsLeft (behind_form x names) f) o →
    OnSome (IsLeft names (rest_of f (c ∷ f.clauses))) (before c o)
before_left names c x h f None q = tt
before_left names c x h f (Some g) q = record {
  parts = λ p. before_parts p names c x h f g (q.parts p);
  size = size (clause_size_of c) (total (map clause_size_of g.clauses))
      (one_size g.test + (total (map order_size_of g.orders) + size_of g.body))
      (total (map clause_size_of f.clauses))
      (one_size f.test + (total (map order_size_of f.orders) + size_of f.body)) q.size;
  nest = nest (clause_nest_of c) (greatest (map clause_nest_of g.clauses))
      (max (one_nest g.test) (max (greatest (map order_nest_of g.orders)) (nest_of g.body)))
      (greatest (map clause_nest_of f.clauses))
      (max (one_nest f.test) (max (greatest (map order_nest_of f.orders)) (nest_of f.body))) q.nest;
}
  where
    size : (c a x b y : ℕ) → (a + x) + 1 ≤ b + y → ((c + a) + x) + 1 ≤ (c + b) + y
    size c a x b y h = omega arith

    nest : (c a x b y : ℕ) → max a x ≤ max b y → max (max c a) x ≤ max (max c b) y
    nest c a x b y h = grind arith

without_left : (taken : Taken) → IsTaking taken → (names : List ExprName) (cs : List Clause) (f : FlworForm) →
    OnSome (IsLeft names (rest_of f cs)) (without_clause taken names cs f)
without_left taken h names [] f = tt
without_left taken h names (c ∷ cs) f =
    first_left (IsLeft names (rest_of f (c ∷ cs))) (taken names (out-Clause c) (rest_of f cs)) _
    (h names c (out-Clause c) (roll-out-Clause c) (rest_of f cs))
    (before_left names c (out-Clause c) (roll-out-Clause c) (rest_of f cs)
    (without_clause taken (behind_form (out-Clause c) names) cs f)
    (without_left taken h (behind_form (out-Clause c) names) cs f))

-- without clauses, `where` and orders there is the body alone
body_alone : (body : Meaning) (env : Env) (k : ℕ) → flwor_of [] None [] body env k ≡ body env k
body_alone body env k =
    ap (λ o. and_then o (for_each (λ bound. body (bind_all bound env)))) (sorted_plain wrong_type ([] ∷ []) k)
    ∙ then_none (body env k)

module _ (names : List ExprName) (f g : FlworForm) (q : IsLeft names f g) where
  abbrev pub Whole : Expr
  Whole = flow_expr f

  same_parts : (p : Program) (env : Env) → Binds names env → (k : ℕ) →
      flwor_of (map (clause_meaning p) g.clauses) (test_meaning p g.test) (map (order_meaning p) g.orders)
      (outcome p g.body) env k ≡ outcome p Whole env k
  same_parts p env b k =
      sym (ap (λ m. m env k) (flow_means p f.clauses f.test f.orders f.stable f.body)
      ∙ flwor_same Sight sights (q.parts p).end env env (plain names) (map (clause_meaning p) f.clauses)
      (map (clause_meaning p) g.clauses) (test_meaning p f.test) (test_meaning p g.test) (q.parts p).test
      (map (order_meaning p) f.orders) (map (order_meaning p) g.orders) (q.parts p).orders
      (outcome p f.body) (outcome p g.body) (q.parts p).body ((q.parts p).clauses env env) (refl, b) k)

  flow_tidier : IsTidier names Whole (flow_expr g)
  flow_tidier = record {
    same = λ p env b k.
        ap (λ m. m env k) (flow_means p g.clauses g.test g.orders g.stable g.body) ∙ same_parts p env b k;
    nest = subst (λ n. n ≤ nest_of Whole) (sym (flow_nest g.clauses g.test g.orders g.stable g.body))
        (subst (λ n. 1 + flow_nests g ≤ n) (sym (flow_nest f.clauses f.test f.orders f.stable f.body))
        (deep (flow_nests g) (flow_nests f) q.nest));
    size = subst (λ n. n < size_of Whole) (sym (flow_size g.clauses g.test g.orders g.stable g.body))
        (subst (λ n. 1 + flow_sizes g < n) (sym (flow_size f.clauses f.test f.orders f.stable f.body))
        (less (flow_sizes g) (flow_sizes f) q.size));
  }
    where
      deep : (a b : ℕ) → a ≤ b → 1 + a ≤ 1 + b
      deep a b h = omega arith

      less : (a b : ℕ) → a + 1 ≤ b → 1 + a < 1 + b
      less a b h = omega arith

  body_tidier : [] ≡ g.clauses → None ≡ g.test → [] ≡ g.orders → IsTidier names Whole g.body
  body_tidier cs t os = record {
    same = λ p env b k.
        sym (body_alone (outcome p g.body) env k)
        ∙ ap (λ l. flwor_of (map (clause_meaning p) l) None [] (outcome p g.body) env k) cs
        ∙ ap (λ o. flwor_of (map (clause_meaning p) g.clauses) (test_meaning p o) [] (outcome p g.body) env k) t
        ∙ ap (λ l. flwor_of (map (clause_meaning p) g.clauses) (test_meaning p g.test) (map (order_meaning p) l)
        (outcome p g.body) env k) os
        ∙ same_parts p env b k;
    nest = subst (λ n. nest_of g.body ≤ n) (sym (flow_nest f.clauses f.test f.orders f.stable f.body))
        (deep (greatest (map clause_nest_of g.clauses)) (one_nest g.test)
        (greatest (map order_nest_of g.orders)) (nest_of g.body) (flow_nests f) q.nest);
    size = subst (λ n. size_of g.body < n) (sym (flow_size f.clauses f.test f.orders f.stable f.body))
        (less (total (map clause_size_of g.clauses)) (one_size g.test)
        (total (map order_size_of g.orders)) (size_of g.body) (flow_sizes f) q.size);
  }
    where
      deep : (a b c d n : ℕ) → max a (max b (max c d)) ≤ n → d ≤ 1 + n
      deep a b c d n h = grind arith

      less : (a b c d n : ℕ) → (a + (b + (c + d))) + 1 ≤ n → d < 1 + n
      less a b c d n h = omega arith

  bare_tidier : [] ≡ g.clauses → (t : Option Expr) → t ≡ g.test → (os : List Order) → os ≡ g.orders →
      OnSome (IsTidier names Whole) (bare_body t os g.body)
  bare_tidier cs None t [] os = body_tidier cs t os
  bare_tidier cs None t (o ∷ more) os = tt
  bare_tidier cs (Some test) t orders os = tt

  left_tidier : (cs : List Clause) → cs ≡ g.clauses → OnSome (IsTidier names Whole) (left_of g cs)
  left_tidier [] h = bare_tidier h g.test refl g.orders refl
  left_tidier (c ∷ cs) h = flow_tidier

left_tidies : (names : List ExprName) (f : FlworForm) (o : Option FlworForm) → OnSome (IsLeft names f) o →
    OnSome (IsTidier names (flow_expr f)) (left o)
left_tidies names f None q = tt
left_tidies names f (Some g) q = left_tidier names f g q g.clauses refl

form_tidies : (taken : Taken) → IsTaking taken → (names : List ExprName) (x : ExprForm) →
    OnSome (IsTidier names (roll-Expr x)) (taken_form taken names x)
form_tidies taken h names (Flwor f) =
    subst (λ z. OnSome (IsTidier names (roll-Expr (Flwor z))) (taken_form taken names (Flwor f)))
    (roll-out-Flwor f)
    (left_tidies names (out-Flwor f) (without_clause taken names (out-Flwor f).clauses (out-Flwor f))
    (without_left taken h names (out-Flwor f).clauses (out-Flwor f)))
form_tidies taken h names x = tt

-- the two rules
and_both : (a b : Bool) → (a && b) ≡ true → (a ≡ true) × (b ≡ true)
and_both true true h = (refl, refl)
and_both true false h = absurd cc
and_both false b h = absurd cc

one_less : (c : Clause) (b : Bind) → roll-Clause (Let b) ≡ c → (n : ℕ) (r : ℕ) →
    (n + r) + 1 ≤ (clause_size_of c + n) + r
one_less c b h n r =
    subst (λ z. (n + r) + 1 ≤ (z + n) + r) (sym (let_size b ∙ bind_size b) ∙ ap clause_size_of h)
    (by (size_of (out-Bind b).source) n r (positive (out-Bind b).source))
  where
    by : (s n r : ℕ) → 1 ≤ s → (n + r) + 1 ≤ (s + n) + r
    by s n r h = omega arith

no_deeper : (c a x : ℕ) → max a x ≤ max (max c a) x
no_deeper c a x = grind arith

clause_left : (names : List ExprName) (c : Clause) (b : Bind) → roll-Clause (Let b) ≡ c → (f g : FlworForm) →
    ((p : Program) → FlowMoved Sight sights p (plain names) (rest_of f (c ∷ f.clauses)) g) →
    flow_sizes g ≡ flow_sizes f → flow_nests g ≡ flow_nests f →
    IsLeft names (rest_of f (c ∷ f.clauses)) g
clause_left names c b h f g parts s n = record {
  parts = parts;
  size = subst (λ z. z + 1 ≤ flow_sizes (rest_of f (c ∷ f.clauses))) (sym s)
      (one_less c b h (total (map clause_size_of f.clauses))
      (one_size f.test + (total (map order_size_of f.orders) + size_of f.body)));
  nest = subst (λ z. z ≤ flow_nests (rest_of f (c ∷ f.clauses))) (sym n)
      (no_deeper (clause_nest_of c) (greatest (map clause_nest_of f.clauses))
      (max (one_nest f.test) (max (greatest (map order_nest_of f.orders)) (nest_of f.body))));
}

unread_left : (names : List ExprName) (c : Clause) (b : Bind) → roll-Clause (Let b) ≡ c →
    (kind : Option SeqType) → (out-Bind b).kind ≡ kind → (f : FlworForm) →
    OnSome (IsLeft names (rest_of f (c ∷ f.clauses))) (unread names (out-Bind b).var kind (out-Bind b).source f)
unread_left names c b h None k f =
    if_some (IsLeft names (rest_of f (c ∷ f.clauses)))
    (is_still names (out-Bind b).source && flwor_allows (roll-Flwor f) (lose (out-Bind b).var)) f (λ q.
    let both = and_both (is_still names (out-Bind b).source)
    (flwor_allows (roll-Flwor f) (lose (out-Bind b).var)) q in
    clause_left names c b h f f (λ p.
    let_parts p names c b h k (lose (out-Bind b).var)
    (still_value p names (out-Bind b).var (out-Bind b).source both.0) f f
    (lost_parts p f (out-Bind b).var both.1)) refl refl)
unread_left names c b h (Some kind) k f = tt

unread_taking : IsTaking unread_clause
unread_taking names c (Let b) h f = unread_left names c b h (out-Bind b).kind refl f
unread_taking names c (For b place) h f = tt

pub rule_1_tidies : Tidies rule_1
rule_1_tidies bound e =
    subst (λ z. OnSome (IsTidier bound z) (rule_1 bound e)) (roll-out-Expr e)
    (form_tidies unread_clause unread_taking bound (out-Expr e))

small_is : (x : ExprForm) → OnSome (λ r. roll-Expr x ≡ expr_of r) (small_form x)
small_is (Int n) = refl
small_is (Str t) = refl
small_is (Var n) = refl
small_is x = tt

put_left : (names : List ExprName) (c : Clause) (b : Bind) → roll-Clause (Let b) ≡ c →
    (out-Bind b).kind ≡ None → (o : Option Small) → OnSome (λ r. (out-Bind b).source ≡ expr_of r) o →
    (f : FlworForm) → OnSome (IsLeft names (rest_of f (c ∷ f.clauses))) (put_in names (out-Bind b).var o f)
put_left names c b h k None s f = tt
put_left names c b h k (Some r) s f =
    if_some (IsLeft names (rest_of f (c ∷ f.clauses)))
    (is_local_small names r && flwor_allows (roll-Flwor f) (put (out-Bind b).var r))
    (put_form f (out-Bind b).var r) (λ q.
    let both = and_both (is_local_small names r) (flwor_allows (roll-Flwor f) (put (out-Bind b).var r)) q in
    clause_left names c b h f (put_form f (out-Bind b).var r) (λ p.
    let_parts p names c b h k (put (out-Bind b).var r)
    (subst (λ e. Value p names (put (out-Bind b).var r) (out-Bind b).var (outcome p e)) (sym s)
    (put_value p names (out-Bind b).var r both.0)) f (put_form f (out-Bind b).var r)
    (put_parts p f (out-Bind b).var r both.1))
    (put_sizes f (out-Bind b).var r) (put_nests f (out-Bind b).var r))

copied_left : (names : List ExprName) (c : Clause) (b : Bind) → roll-Clause (Let b) ≡ c →
    (kind : Option SeqType) → (out-Bind b).kind ≡ kind → (f : FlworForm) →
    OnSome (IsLeft names (rest_of f (c ∷ f.clauses))) (copied names (out-Bind b).var kind (out-Bind b).source f)
copied_left names c b h None k f =
    put_left names c b h k (small_form (out-Expr (out-Bind b).source))
    (subst (λ z. OnSome (λ r. z ≡ expr_of r) (small_form (out-Expr (out-Bind b).source)))
    (roll-out-Expr (out-Bind b).source) (small_is (out-Expr (out-Bind b).source))) f
copied_left names c b h (Some kind) k f = tt

copied_taking : IsTaking copied_clause
copied_taking names c (Let b) h f = copied_left names c b h (out-Bind b).kind refl f
copied_taking names c (For b place) h f = tt

pub rule_7_tidies : Tidies rule_7
rule_7_tidies bound e =
    subst (λ z. OnSome (IsTidier bound z) (rule_7 bound e)) (roll-out-Expr e)
    (form_tidies copied_clause copied_taking bound (out-Expr e))
