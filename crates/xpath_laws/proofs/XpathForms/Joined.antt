-- Operators, steps and what binds variables, put together.
use Rattle.std.proofs.Common.{◌≡◌, ℕ, ◌+◌, ◌≤◌, max, List, [], ◌∷◌, ◌++◌, Bool}
use Rattle.std.proofs.Common.{true, false, cond, Option, Some, None, refl, sym, ap, subst, ◌∙◌, arith}
use Rattle.std.specs.Prelude.{◌==◌}
use Rattle.std.proofs.lemmas.Bool.{eqb-true}
use Rattle.xt_names.specs.declared.kinds.AtomType.{AtomType}
use Rattle.xt_names.specs.declared.names.ExprName.{ExprName}
use Rattle.xt_types.specs.declared.axes.Axis.TheVariants as axis
use Rattle.xt_types.specs.declared.node_tests.Test.TheVariants as test
use Rattle.xt_types.specs.declared.types.SeqType.{SeqType}
use Rattle.xt_syntax.specs.declared.exprs.Expr.{Expr}
use Rattle.xt_syntax.specs.declared.exprs.Expr.TheVariants as expr
use Rattle.xt_syntax.specs.declared.exprs.Bind.{Bind}
use Rattle.xt_syntax.specs.declared.exprs.Clause.{Clause}
use Rattle.expr_terms.specs.Nest.{Levels, Mark, plain, deep, last, with_part}
use Rattle.expr_terms.specs.Nest.{with_parts, left_part}
use Rattle.expr_keys.specs.declared.keys.Key.{Key}
use Rattle.expr_keys.specs.declared.keys.Key.TheVariants as key
use Rattle.expr_keys.specs.declared.tokens.Token.{Token}
use Rattle.expr_keys.specs.declared.tokens.Token.TheVariants as token
use Rattle.expr_keys.specs.declared.productions.Class.TheVariants as class
use Rattle.expr_keys.specs.declared.productions.Level.{Level}
use Rattle.expr_keys.specs.declared.productions.Level.TheVariants as level
use Rattle.expr_keys.specs.declared.productions.Nonterminal.TheVariants as nonterminal
use Rattle.expr_keys.specs.declared.productions.Production.{Production}
use Rattle.expr_keys.specs.declared.productions.Symbol.TheVariants.{Tok as tok, One as one}
use Rattle.expr_keys.specs.declared.productions.Symbol.TheVariants.{Many as many}
use Rattle.expr_rules.specs.declared.expr_meant.meant.Meant.{Meant}
use Rattle.expr_rules.specs.declared.expr_meant.meant.Meant.TheVariants as meant
use Rattle.expr_rules.specs.ExprMeant.Parts.{expr_of, exprs_of, expr_or, expr_in}
use Rattle.expr_names.specs.Types.{arity_broken}
use Rattle.expr_primaries.specs.ExprPaths.Paths.{stepped, path_from}
use Rattle.expr_primaries.specs.ExprPaths.Paths as paths
use Rattle.expr_primaries.specs.ExprPaths.Primaries.{literal_in, called}
use Rattle.expr_control.specs.Lists.{bind_and, binds_of}
use Rattle.expr_control.specs.Operators.{compared, combined, operated_by, of_type, of_single, joined}
use Rattle.expr_control.specs.Operators.{chain_from, single_of}
use Rattle.expr_control.specs.Operators.{signed_by}
use Rattle.expr_control.specs.Bindings.{clause_and, clauses_in}
use Rattle.xpath_laws.proofs.XpathForms.Fits.{Property, Fit, fit_more, AllFit, fit_int, fit_str}
use Rattle.xpath_laws.proofs.XpathForms.Fits.{fit_comma, fit_general}
use Rattle.xpath_laws.proofs.XpathForms.Fits.{fit_value, fit_is, fit_before, fit_after, fit_range, fit_arith}
use Rattle.xpath_laws.proofs.XpathForms.Fits.{fit_union, fit_intersect, fit_except, fit_slash, fit_minus}
use Rattle.xpath_laws.proofs.XpathForms.Fits.{fit_plus, fit_instance, fit_treat, fit_castable, fit_cast}
use Rattle.xpath_laws.proofs.XpathForms.Fits.{fit_step, fit_call, FitBind, AllBinds}
use Rattle.xpath_laws.proofs.XpathForms.Fits.{FitClause, AllClauses}
use Rattle.xpath_laws.proofs.XpathForms.Parts.{Told, told, levels_in, values_in, IsExpr}
use Rattle.xpath_laws.proofs.XpathForms.Parts.{expr_is}
use Rattle.xpath_laws.proofs.XpathForms.Parts.{IsClause, clause_is, IsBind, bind_is, IsTail, tail_operand}
use Rattle.xpath_laws.proofs.XpathForms.Parts.{IsOperand, operand_is}
use Rattle.xpath_laws.proofs.XpathForms.Parts.{tail_type, tail_single, tail_mark, IsMore, more_step, more_deep}
use Rattle.xpath_laws.proofs.XpathForms.Parts.{Filled, end, taken, next, stop, again}
use Rattle.xpath_laws.proofs.XpathForms.Parts.{All}

-- the greatest number of levels of all parts
abbrev pub most : ℕ → List Levels → ℕ
most a [] = a
most a (v ∷ vs) = most (max a v.nest) vs

pub most_grows : (a : ℕ) (vs : List Levels) → a ≤ most a vs
most_grows a [] = omega arith
most_grows a (v ∷ vs) = let h = most_grows (max a v.nest) vs in omega (arith, h)

-- a production whose parts count alike
abbrev pub IsFlat : Production → Type 0
IsFlat p = (a : ℕ) (v : Levels) → with_part p a v ≡ max a v.nest

pub flat_most : (p : Production) → IsFlat p → (a : ℕ) (vs : List Levels)
    → with_parts p a vs ≡ most a vs
flat_most p f a [] = refl
flat_most p f a (v ∷ vs) =
    ap (λ b. with_parts p b vs) (f a v) ∙ flat_most p f (max a v.nest) vs

module _ (asked : Property) where
  -- the expressions that parts are
  pub one_expr : (x : Told) → IsExpr asked x → Fit asked x.levels.nest (expr_of x.value)
  unfolding expr_of
  one_expr _ (expr_is f) = f

  pub exprs_fit : (a : ℕ) (xs : List Told) → All asked (IsExpr asked) xs
      → AllFit asked (most a (levels_in xs)) (exprs_of (values_in xs))
  exprs_fit a [] f = tt
  exprs_fit a (x ∷ xs) f =
      let n = max a x.levels.nest in
      let h = most_grows n (levels_in xs) in (
        fit_more asked x.levels.nest (most n (levels_in xs)) (expr_of x.value) (omega (arith, h))
            (one_expr x f.0),
        exprs_fit n xs f.1,
      )

  pub flat_exprs : (p : Production) → IsFlat p → (a : ℕ) (xs : List Told) → All asked (IsExpr asked) xs
      → AllFit asked (with_parts p a (levels_in xs)) (exprs_of (values_in xs))
  flat_exprs p f a xs g =
      subst (λ n. AllFit asked n (exprs_of (values_in xs))) (sym (flat_most p f a (levels_in xs)))
      (exprs_fit a xs g)

  pub empty_fit : (n : ℕ) → 1 ≤ n → Fit asked n (expr.Comma [])
  empty_fit n h = fit_more asked 1 n (expr.Comma []) h (fit_comma asked 0 [] tt)

  -- operators
  pub compared_fit : (n : ℕ) (k : Key) (a b : Expr) → Fit asked n a → Fit asked n b
      → Fit asked (1 + n) (compared k a b)
  unfolding compared
  compared_fit n key.Equal a b f g = fit_general asked n _ a b f g
  compared_fit n key.NotEqual a b f g = fit_general asked n _ a b f g
  compared_fit n key.Less a b f g = fit_general asked n _ a b f g
  compared_fit n key.LessEqual a b f g = fit_general asked n _ a b f g
  compared_fit n key.Greater a b f g = fit_general asked n _ a b f g
  compared_fit n key.GreaterEqual a b f g = fit_general asked n _ a b f g
  compared_fit n key.EqWord a b f g = fit_value asked n _ a b f g
  compared_fit n key.NeWord a b f g = fit_value asked n _ a b f g
  compared_fit n key.LtWord a b f g = fit_value asked n _ a b f g
  compared_fit n key.LeWord a b f g = fit_value asked n _ a b f g
  compared_fit n key.GtWord a b f g = fit_value asked n _ a b f g
  compared_fit n key.GeWord a b f g = fit_value asked n _ a b f g
  compared_fit n key.Before a b f g = fit_before asked n a b f g
  compared_fit n key.After a b f g = fit_after asked n a b f g
  compared_fit n _ a b f g = fit_is asked n a b f g

  pub combined_fit : (n : ℕ) (k : Key) (a b : Expr) → Fit asked n a → Fit asked n b
      → Fit asked (1 + n) (combined k a b)
  unfolding combined
  combined_fit n key.Plus a b f g = fit_arith asked n _ a b f g
  combined_fit n key.Minus a b f g = fit_arith asked n _ a b f g
  combined_fit n key.Star a b f g = fit_arith asked n _ a b f g
  combined_fit n key.IdivWord a b f g = fit_arith asked n _ a b f g
  combined_fit n key.ModWord a b f g = fit_arith asked n _ a b f g
  combined_fit n key.IntersectWord a b f g = fit_intersect asked n a b f g
  combined_fit n key.ExceptWord a b f g = fit_except asked n a b f g
  combined_fit n key.ToWord a b f g = fit_range asked n a b f g
  combined_fit n _ a b f g = fit_union asked n a b f g

  pub operated_fit : (l : Level) (n : ℕ) (k : Key) (a b : Expr) → Fit asked n a → Fit asked n b
      → Fit asked (1 + n) (operated_by l k a b)
  unfolding operated_by
  operated_fit level.Comparison n k a b f g = compared_fit n k a b f g
  operated_fit _ n k a b f g = combined_fit n k a b f g

  pub type_fit : (l : Level) (n : ℕ) (a : Expr) (k : SeqType) → Fit asked n a
      → Fit asked (1 + n) (of_type l a k)
  unfolding of_type
  type_fit level.Treat n a k f = fit_treat asked n a k f
  type_fit _ n a k f = fit_instance asked n a k f

  pub single_fit : (l : Level) (n : ℕ) (a : Expr) (k : AtomType) (b : Bool) → Fit asked n a
      → Fit asked (1 + n) (of_single l a k b)
  unfolding of_single
  single_fit level.Cast n a k b f = fit_cast asked n a k b f
  single_fit _ n a k b f = fit_castable asked n a k b f

  pub joined_fit : (l : Level) (n m : ℕ) (e : Expr) (x : Told) → Fit asked n e → IsTail asked x
      → 1 + max n x.levels.nest ≤ m → Fit asked m (joined l e x.value)
  unfolding joined
  joined_fit l n m e _ f (tail_operand {n = o} {k = k} {e = b} g) h =
      let w = max n o in
      fit_more asked (1 + w) m _ h (operated_fit l w k e b
      (fit_more asked n w e (omega arith) f) (fit_more asked o w b (omega arith) g))
  joined_fit l n m e _ f (tail_type {n = o} {k = k}) h =
      fit_more asked (1 + n) m _ (omega (arith, h)) (type_fit l n e k f)
  joined_fit l n m e _ f (tail_single {n = o} {k = k} {b = b}) h =
      fit_more asked (1 + n) m _ (omega (arith, h)) (single_fit l n e k b f)
  joined_fit l n m e _ f (tail_mark {n = o}) h = fit_more asked n m e (omega (arith, h)) f

  pub left_more : (a : ℕ) (m : Mark) (n : ℕ) → 1 + max a n ≤ left_part a m n
  left_more a plain n = omega arith
  left_more a deep n = omega arith
  left_more a last n = omega arith

  -- a production whose parts nest to the left
  abbrev pub IsLeft : Production → Type 0
  IsLeft p = (a : ℕ) (v : Levels) → with_part p a v ≡ cond (a == 0) v.nest (left_part a v.mark v.nest)

  pub left_some : (p : Production) → IsLeft p → (a : ℕ) (v : Levels) → 1 ≤ a
      → with_part p a v ≡ left_part a v.mark v.nest
  left_some p f a v h = f a v ∙ go (a == 0) refl
    where
      go : (b : Bool) → (a == 0) ≡ b
          → cond b v.nest (left_part a v.mark v.nest) ≡ left_part a v.mark v.nest
      go true e = let z = eqb-true a 0 e in absurd (omega (arith, h, z))
      go false e = refl

  pub chain_fit : (p : Production) (l : Level) → IsLeft p → (n : ℕ) (e : Expr) (xs : List Told)
      → Fit asked n e → 1 ≤ n → All asked (IsTail asked) xs
      → Fit asked (with_parts p n (levels_in xs)) (chain_from l e (values_in xs))
  chain_fit p l f n e [] g h t = g
  chain_fit p l f n e (x ∷ xs) g h t =
      let m = with_part p n x.levels in
      let is = left_some p f n x.levels h in
      let grows = left_more n x.levels.mark x.levels.nest in
      let up : 1 + max n x.levels.nest ≤ m =
      subst (λ k. 1 + max n x.levels.nest ≤ k) (sym is) grows in
      chain_fit p l f m (joined l e x.value) xs (joined_fit l n m e x g t.0 up)
      (omega (arith, up)) t.1

  -- steps
  pub deep_fit : (n : ℕ) (e : Expr) → 1 ≤ n → Fit asked n e → Fit asked (1 + n) (paths.deep e)
  deep_fit n e h f =
      fit_slash asked n e (expr.Step axis.DescendantOrSelf test.Node []) f
      (fit_more asked 1 n (expr.Step axis.DescendantOrSelf test.Node []) h
      (fit_step asked 0 axis.DescendantOrSelf test.Node [] tt))

  pub stepped_fit : (n : ℕ) (e : Expr) (x : Told) → 1 ≤ n → Fit asked n e → IsMore asked x
      → Fit asked (left_part n x.levels.mark x.levels.nest) (stepped e x.value)
  unfolding stepped expr_of
  stepped_fit n e _ h f (more_step {n = o} {e = b} g) =
      let w = max n o in
      fit_slash asked w e b (fit_more asked n w e (omega arith) f)
      (fit_more asked o w b (omega arith) g)
  stepped_fit n e _ h f (more_deep {n = o} {e = b} g) =
      let d = fit_more asked (1 + n) (1 + max n 1) (paths.deep e) (omega arith) (deep_fit n e h f) in
      let w = max (1 + max n 1) o in
      fit_slash asked w (paths.deep e) b
      (fit_more asked (1 + max n 1) w (paths.deep e) (omega arith) d)
      (fit_more asked o w b (omega arith) g)

  pub path_fit : (p : Production) → IsLeft p → (n : ℕ) (e : Expr) (xs : List Told) → Fit asked n e
      → 1 ≤ n → All asked (IsMore asked) xs
      → Fit asked (with_parts p n (levels_in xs)) (path_from e (values_in xs))
  path_fit p f n e [] g h t = g
  path_fit p f n e (x ∷ xs) g h t =
      let m = with_part p n x.levels in
      let is = left_some p f n x.levels h in
      let grows = left_more n x.levels.mark x.levels.nest in
      let up : 1 + max n x.levels.nest ≤ m =
      subst (λ k. 1 + max n x.levels.nest ≤ k) (sym is) grows in
      path_fit p f m (stepped e x.value) xs
      (subst (λ k. Fit asked k (stepped e x.value)) (sym is) (stepped_fit n e x h g t.0))
      (omega (arith, up)) t.1

  -- lists of what binds variables
  pub append_nil : {A : Type 0} (xs : List A) → xs ++ [] ≡ xs
  append_nil [] = refl
  append_nil (x ∷ xs) = ap (λ ys. x ∷ ys) (append_nil xs)

  pub clause_more : (n m : ℕ) (c : Clause) → n ≤ m → FitClause asked n c → FitClause asked m c
  clause_more n m c h f =
      let g = f.nests in
      record { nests = omega (arith, g, h); forms = f.forms; holds = f.holds }

  pub clauses_more : (n m : ℕ) (cs : List Clause) → n ≤ m → AllClauses asked n cs
      → AllClauses asked m cs
  clauses_more n m [] h f = tt
  clauses_more n m (c ∷ cs) h f = (clause_more n m c h f.0, clauses_more n m cs h f.1)

  pub bind_more : (n m : ℕ) (b : Bind) → n ≤ m → FitBind asked n b → FitBind asked m b
  bind_more n m b h f = record { kind = f.kind; source = fit_more asked n m _ h f.source }

  pub one_clause : (m : ℕ) (x : Told) (cs : List Clause) → IsClause asked x → x.levels.nest ≤ m
      → AllClauses asked m cs → AllClauses asked m (clause_and x.value cs)
  unfolding clause_and
  one_clause m _ cs (clause_is {n = n} {c = c} f) h g = (clause_more n m c h f, g)

  pub clauses_fit : (a : ℕ) (xs : List Told) → All asked (IsClause asked) xs
      → AllClauses asked (most a (levels_in xs)) (clauses_in (values_in xs))
  clauses_fit a [] f = tt
  clauses_fit a (x ∷ xs) f =
      let n = max a x.levels.nest in
      let h = most_grows n (levels_in xs) in
      one_clause (most n (levels_in xs)) x (clauses_in (values_in xs)) f.0 (omega (arith, h))
      (clauses_fit n xs f.1)

  pub one_bind : (m : ℕ) (x : Told) (bs : List Bind) → IsBind asked x → x.levels.nest ≤ m
      → AllBinds asked m bs → AllBinds asked m (bind_and x.value bs)
  unfolding bind_and
  one_bind m _ bs (bind_is {n = n} {b = b} f) h g = (bind_more n m b h f, g)

  pub record Satisfied (a : ℕ) (xs : List Told) : Type 0 where
    pub binds : AllBinds asked (most a (levels_in xs)) (binds_of (values_in xs))
    pub test : Fit asked (most a (levels_in xs)) (expr_in (values_in xs))

  pub last_fit : (a : ℕ) (x : Told) → IsExpr asked x
      → Fit asked (max a x.levels.nest) (expr_in (x.value ∷ []))
  unfolding expr_or
  last_fit a _ (expr_is {n = n} {e = e} f) = fit_more asked n (max a n) e (omega arith) f

  pub no_bind : (a : ℕ) (x : Told) → IsExpr asked x
      → AllBinds asked (max a x.levels.nest) (binds_of (x.value ∷ []))
  unfolding bind_and
  no_bind a _ (expr_is f) = tt

  pub behind_bind : (m : ℕ) (x : Told) (ms : List Meant) → IsBind asked x → Fit asked m (expr_in ms)
      → Fit asked m (expr_in (x.value ∷ ms))
  unfolding expr_or
  behind_bind m _ ms (bind_is b) f = f

  pub satisfied : (a : ℕ) {xs : List Told} → Filled asked
      (many nonterminal.CommaQuantifiedBinding ∷ tok (class.Key key.SatisfiesWord) ∷ one nonterminal.ExprSingle ∷ [])
      xs → Satisfied a xs
  satisfied a (again {x = x} {xs = xs} f q) =
      let n = max a x.levels.nest in
      let r = satisfied n q in
      let h = most_grows n (levels_in xs) in
      record {
        binds = one_bind (most n (levels_in xs)) x (binds_of (values_in xs)) f (omega (arith, h))
            r.binds;
        test = behind_bind (most n (levels_in xs)) x (values_in xs) f r.test;
      }
  satisfied a (stop (taken t b (next {x = x} f end))) =
      record { binds = no_bind a x f; test = last_fit a x f }

  -- predicates, tails and steps
  pub expr_more : (xs : List Told) → All asked (IsExpr asked) xs → All asked (IsMore asked) xs
  expr_more [] f = tt
  expr_more (x ∷ xs) f = (one x f.0, expr_more xs f.1)
    where
      one : (y : Told) → IsExpr asked y → IsMore asked y
      one _ (expr_is g) = more_step g

  pub operand_fit : (x : Told) → IsOperand asked x → Fit asked x.levels.nest (expr_of x.value)
  unfolding expr_of
  operand_fit _ (operand_is f) = f

  pub operands_fit : (a : ℕ) (xs : List Told) → All asked (IsOperand asked) xs
      → AllFit asked (most a (levels_in xs)) (exprs_of (values_in xs))
  operands_fit a [] f = tt
  operands_fit a (x ∷ xs) f =
      let n = max a x.levels.nest in
      let h = most_grows n (levels_in xs) in (
        fit_more asked x.levels.nest (most n (levels_in xs)) (expr_of x.value) (omega (arith, h))
            (operand_fit x f.0),
        operands_fit n xs f.1,
      )

  pub single_tail : (n : ℕ) (m : Meant) → IsTail asked (told n plain (single_of m))
  unfolding single_of
  single_tail n (meant.Single k b) = tail_single
  single_tail n _ = tail_mark

  pub signed_fit : (n : ℕ) (k : Key) (e : Expr) → Fit asked n e → Fit asked (1 + n) (signed_by k e)
  unfolding signed_by
  signed_fit n key.Minus e f = fit_minus asked n e f
  signed_fit n _ e f = fit_plus asked n e f

  pub literal_fit : (t : Token) → Fit asked 1 (literal_in t)
  unfolding literal_in
  literal_fit (token.Digits n) = fit_int asked n
  literal_fit (token.Quoted t) = fit_str asked t
  literal_fit _ = fit_comma asked 0 [] tt

  pub called_fit : (n : ℕ) (name : ExprName) (k : Option AtomType) (es : List Expr)
      → AllFit asked n es → arity_broken k es ≡ []
      → asked.Holds (expr.Call name es)
      → Fit asked (1 + n) (called name k es)
  unfolding called arity_broken
  called_fit n name None es f r a = fit_call asked n name es f a
  called_fit n name (Some k) [] f r a = absurd cc
  called_fit n name (Some k) (e ∷ []) f r a = fit_cast asked n e k true f.0
  called_fit n name (Some k) (e ∷ d ∷ es) f r a = absurd cc
