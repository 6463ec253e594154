-- What each production of XPath makes of its parts.
use Rattle.std.proofs.Common.{◌≡◌, ℕ, ◌+◌, max, List, [], ◌∷◌, ◌++◌}
use Rattle.std.proofs.Common.{true, refl, sym, ap, subst, ◌∙◌, arith}
use Rattle.xt_names.specs.declared.names.ExprName.{ExprName}
use Rattle.xt_syntax.specs.declared.exprs.Expr.{Expr}
use Rattle.xt_syntax.specs.declared.exprs.Expr.TheVariants as expr
use Rattle.expr_terms.specs.Nest.{Levels, plain, with_part}
use Rattle.expr_terms.specs.Nest.{with_parts, whole_nest, is_left_level}
use Rattle.expr_terms.specs.Productions.{body}
use Rattle.expr_keys.specs.declared.tokens.Token.{Token}
use Rattle.expr_keys.specs.declared.productions.Level.{Level}
use Rattle.expr_keys.specs.declared.productions.Level.TheVariants as level
use Rattle.expr_keys.specs.declared.productions.Nonterminal.TheVariants as nonterminal
use Rattle.expr_keys.specs.declared.productions.Production.{Production}
use Rattle.expr_keys.specs.declared.productions.Production.TheVariants as production
use Rattle.expr_rules.specs.declared.expr_meant.meant.Meant.{Meant}
use Rattle.expr_rules.specs.declared.expr_meant.meant.Meant.TheVariants as meant
use Rattle.expr_rules.specs.ExprMeant.Parts.{expr_of, exprs_of, expr_or, expr_in, key_of}
use Rattle.expr_names.specs.Types.{type_named, call_type, arity_broken}
use Rattle.expr_rules.specs.Known.{name_of}
use Rattle.expr_rules.specs.Rules.{args_in}
use Rattle.expr_primaries.specs.ExprPaths.Table.{path_value}
use Rattle.expr_primaries.specs.ExprPaths.Paths.{stepped, path_from}
use Rattle.expr_primaries.specs.ExprPaths.Paths as paths
use Rattle.expr_primaries.specs.ExprPaths.Primaries.{literal_of}
use Rattle.expr_control.specs.Table.{control_value}
use Rattle.expr_control.specs.Lists.{bind_and, binds_of, is_every_first}
use Rattle.expr_control.specs.Operators.{chain_from, left_chain, chained, operated}
use Rattle.expr_control.specs.Operators.{tail}
use Rattle.expr_control.specs.Bindings.{kind_or, place_or, clauses_in, clauses_and}
use Rattle.expr_control.specs.Bindings.{where_or, orders_or, stable_or}
use Rattle.expr_resolve.specs.declared.setting.Setting.{Setting}
use Rattle.expr_resolve.specs.Tables.{family_of, value_in}
use Rattle.xpath_laws.proofs.XpathForms.Fits.{Property, Fit, fit_more, AllFit, all_more, fit_context}
use Rattle.xpath_laws.proofs.XpathForms.Fits.{fit_root, fit_var, fit_comma, fit_or, fit_and}
use Rattle.xpath_laws.proofs.XpathForms.Fits.{fit_step, fit_filter, fit_quant}
use Rattle.xpath_laws.proofs.XpathForms.Fits.{fit_for, AllClauses, fit_flwor}
use Rattle.xpath_laws.proofs.XpathForms.Parts.{Told, told, leaf_told, levels_in, values_in, made, IsExpr}
use Rattle.xpath_laws.proofs.XpathForms.Parts.{expr_is, AreClauses, clauses_are}
use Rattle.xpath_laws.proofs.XpathForms.Parts.{IsClause, clause_is, IsBind, bind_is, IsTail, tail_operand}
use Rattle.xpath_laws.proofs.XpathForms.Parts.{IsOperand, operand_is}
use Rattle.xpath_laws.proofs.XpathForms.Parts.{tail_type, IsMore, more_step, more_deep}
use Rattle.xpath_laws.proofs.XpathForms.Parts.{Table, Filled, end, taken, next, without, with, stop, again}
use Rattle.xpath_laws.proofs.XpathForms.Parts.{All, many_are}
use Rattle.xpath_laws.proofs.XpathForms.Joined.{most, most_grows, IsFlat, flat_most, one_expr, flat_exprs}
use Rattle.xpath_laws.proofs.XpathForms.Joined.{IsLeft, chain_fit, deep_fit, path_fit, append_nil}
use Rattle.xpath_laws.proofs.XpathForms.Joined.{clauses_more, bind_more, clauses_fit, Satisfied, satisfied}
use Rattle.xpath_laws.proofs.XpathForms.Joined.{expr_more, operands_fit, single_tail, signed_fit, literal_fit}
use Rattle.xpath_laws.proofs.XpathForms.Joined.{called_fit}

module _ (asked : Property) where
  module _ (s : Setting) where
    abbrev IsMade : Production → List Told → Type 0
    IsMade p xs = IsExpr asked (made s p xs)

    pub listing_made : {x y : Told} {xs : List Told}
        → Filled asked (body production.ExprList) (x ∷ y ∷ xs)
        → IsMade production.ExprList (x ∷ y ∷ xs)
    unfolding family_of value_in control_value
    listing_made {x = x} {y = y} {xs = xs} (next g (again h q)) =
        expr_is (fit_comma asked _ _
        (flat_exprs asked production.ExprList (λ a v. refl) 0 (x ∷ y ∷ xs) (g, (h, many_are asked q))))
    listing_made (next g (stop x)) = elim x [ ]

    pub argued_made : {xs : List Told} → Filled asked (body production.ArgumentList) xs
        → AllFit asked (with_parts production.ArgumentList 0 (levels_in xs)) (exprs_of (values_in xs))
    argued_made (next {x = x} {xs = xs} g q) =
        flat_exprs asked production.ArgumentList (λ a v. refl) 0 (x ∷ xs) (g, many_are asked q)

    flwor_of : (x y : Told) → AreClauses asked x → IsExpr asked y
        → IsMade production.FlworExpr (x ∷ y ∷ [])
    unfolding family_of value_in control_value clauses_and where_or orders_or stable_or expr_or
    flwor_of _ _ (clauses_are {n = n} {cs = cs} f) (expr_is {n = m} {e = e} g) =
        let k = max (max 0 n) m in
        let more = clauses_more asked n k cs (omega arith) f in
        expr_is (fit_flwor asked k (cs ++ []) e
        (subst (AllClauses asked k) (sym (append_nil asked cs)) more) (fit_more asked m k e (omega arith) g))

    pub flwor_made : {xs : List Told} → Filled asked (body production.FlworExpr) xs
        → IsMade production.FlworExpr xs
    flwor_made (next {x = x} f (stop (without (without (taken t a (next {x = y} g end)))))) =
        flwor_of x y f g
    flwor_made (next f (stop (without (with g q)))) = absurd g
    flwor_made (next f (stop (with g q))) = absurd g
    flwor_made (next f (again g q)) = absurd g

    quantified_of : (t : Token) (x : Told) (xs : List Told) → IsBind asked x
        → Satisfied asked (max (max 0 0) x.levels.nest) xs
        → IsMade production.QuantifiedExpr (leaf_told t ∷ x ∷ xs)
    unfolding family_of value_in control_value bind_and expr_or
    quantified_of t _ xs (bind_is {n = n} {b = b} f) r =
        let a = max (max 0 0) n in
        let h = most_grows a (levels_in xs) in
        let same = flat_most production.QuantifiedExpr (λ a v. refl) a (levels_in xs) in
        let every = is_every_first (meant.Token t ∷ meant.Bind b ∷ values_in xs) in
        let whole = expr.Quant every (b ∷ binds_of (values_in xs)) (expr_in (values_in xs)) in
        expr_is (subst (λ k. Fit asked (1 + k) whole) (sym same)
        (fit_quant asked (most a (levels_in xs)) every (b ∷ binds_of (values_in xs))
        (expr_in (values_in xs))
        (bind_more asked n (most a (levels_in xs)) b (omega (arith, h)) f, r.binds) r.test))

    pub quantified_made : {xs : List Told} → Filled asked (body production.QuantifiedExpr) xs
        → IsMade production.QuantifiedExpr xs
    quantified_made (taken t a (next {x = x} {xs = xs} f q)) =
        quantified_of t x xs f (satisfied asked (max (max 0 0) x.levels.nest) q)

    pub for_clause_made : {xs : List Told} → Filled asked (body production.ForClause) xs
        → AreClauses asked (made s production.ForClause xs)
    unfolding family_of value_in control_value
    for_clause_made (taken t a (next {x = x} {xs = xs} f q)) =
        let same = flat_most production.ForClause (λ a v. refl) 0 (levels_in (x ∷ xs)) in
        clauses_are (subst (λ n. AllClauses asked n (clauses_in (values_in (x ∷ xs)))) (sym same)
        (clauses_fit asked 0 (x ∷ xs) (f, many_are asked q)))

    for_of : (t : Token) (x : Told) → IsExpr asked x
        → IsClause asked (made s production.ForIn (leaf_told t ∷ x ∷ []))
    unfolding family_of value_in control_value kind_or place_or expr_or
    for_of t _ (expr_is {n = n} {e = e} f) =
        clause_is (fit_for asked (max (max 0 0) n) _ (record {
          kind = refl;
          source = fit_more asked n (max (max 0 0) n) e (omega arith) f;
        }))

    pub bind_made : {xs : List Told} → Filled asked (body production.ForIn) xs
        → IsClause asked (made s production.ForIn xs)
    bind_made (taken d a (taken t b (without (without (taken i c (next {x = x} f end)))))) =
        for_of t x f
    bind_made (taken d a (taken t b (without (with g q)))) = absurd g
    bind_made (taken d a (taken t b (with g q))) = absurd g

    quant_of : (t : Token) (x : Told) → IsExpr asked x
        → IsBind asked (made s production.QuantifiedIn (leaf_told t ∷ x ∷ []))
    unfolding family_of value_in control_value kind_or expr_or
    quant_of t _ (expr_is {n = n} {e = e} f) =
        bind_is (record {
          kind = refl;
          source = fit_more asked n (max (max 0 0) n) e (omega arith) f;
        })

    pub quant_bind_made : {xs : List Told} → Filled asked (body production.QuantifiedIn) xs
        → IsBind asked (made s production.QuantifiedIn xs)
    quant_bind_made (taken d a (taken t b (without (taken i c (next {x = x} f end))))) =
        quant_of t x f
    quant_bind_made (taken d a (taken t b (with g q))) = absurd g

    -- operators
    operands : (p : Production) → IsFlat p → (x y : Told) (xs : List Told) → IsExpr asked x
        → All asked (IsOperand asked) (y ∷ xs)
        → AllFit asked (with_parts p 0 (levels_in (x ∷ y ∷ xs))) (exprs_of (values_in (x ∷ y ∷ xs)))
    operands p f x y xs g h =
        let ys = y ∷ xs in
        let n = max 0 x.levels.nest in
        let up = most_grows n (levels_in ys) in
        subst (λ k. AllFit asked k (exprs_of (values_in (x ∷ ys))))
        (sym (flat_most p f 0 (levels_in (x ∷ ys)))) (
          fit_more asked x.levels.nest (most n (levels_in ys)) (expr_of x.value) (omega (arith, up))
              (one_expr asked x g),
          operands_fit asked n ys h,
        )

    pub ors_made : {x y : Told} {xs : List Told}
        → Filled asked (body (production.OperatorChain level.Or)) (x ∷ y ∷ xs)
        → IsMade (production.OperatorChain level.Or) (x ∷ y ∷ xs)
    unfolding family_of value_in control_value chained
    ors_made {x = x} {y = y} {xs = xs} (next g (again h q)) =
        expr_is (fit_or asked _ _ (operands (production.OperatorChain level.Or) (λ a v. refl) x y xs g
        (h, many_are asked q)))
    ors_made (next g (stop x)) = elim x [ ]

    pub ands_made : {x y : Told} {xs : List Told}
        → Filled asked (body (production.OperatorChain level.And)) (x ∷ y ∷ xs)
        → IsMade (production.OperatorChain level.And) (x ∷ y ∷ xs)
    unfolding family_of value_in control_value chained
    ands_made {x = x} {y = y} {xs = xs} (next g (again h q)) =
        expr_is (fit_and asked _ _ (operands (production.OperatorChain level.And) (λ a v. refl) x y xs g
        (h, many_are asked q)))
    ands_made (next g (stop x)) = elim x [ ]

    -- the other levels
    abbrev pub IsChainOf : Level → Type 0
    IsChainOf l = (x : Told) (xs : List Told) → IsExpr asked x → All asked (IsTail asked) xs
        → IsMade (production.OperatorChain l) (x ∷ xs)

    lefts : (l : Level) → IsLeft asked (production.OperatorChain l)
        → ((a : ℕ) → whole_nest (production.OperatorChain l) a ≡ a)
        → ((ms : List Meant) → chained l ms ≡ left_chain l ms) → IsChainOf l
    unfolding family_of value_in control_value expr_of
    lefts l i w c _ xs (expr_is {n = n} {e = e} f) t =
        let p = production.OperatorChain l in
        let x : Levels = record { nest = n; mark = plain } in
        let first : with_part p 0 x ≡ n = i 0 x in
        let g = chain_fit asked p l i n e xs f f.some t in
        let parts = with_parts p (with_part p 0 x) (levels_in xs) in
        let nest : whole_nest p parts ≡ with_parts p n (levels_in xs) =
        w parts ∙ ap (λ k. with_parts p k (levels_in xs)) first in
        let value : chained l (meant.Expr e ∷ values_in xs) ≡ chain_from l e (values_in xs) =
        c (meant.Expr e ∷ values_in xs) in
        subst (λ z. IsExpr asked (told (whole_nest p parts) plain (meant.Expr z))) (sym value)
        (subst (λ k. IsExpr asked (told k plain (meant.Expr (chain_from l e (values_in xs)))))
        (sym nest) (expr_is g))

    pub chain_made : (l : Level) → is_left_level l ≡ true → IsChainOf l
    unfolding chained
    chain_made level.Or h = absurd cc
    chain_made level.And h = absurd cc
    chain_made level.Comparison h = lefts level.Comparison (λ a v. refl) (λ a. refl) (λ ms. refl)
    chain_made level.Range h = lefts level.Range (λ a v. refl) (λ a. refl) (λ ms. refl)
    chain_made level.Additive h = lefts level.Additive (λ a v. refl) (λ a. refl) (λ ms. refl)
    chain_made level.Multiplicative h = lefts level.Multiplicative (λ a v. refl) (λ a. refl) (λ ms. refl)
    chain_made level.Union h = lefts level.Union (λ a v. refl) (λ a. refl) (λ ms. refl)
    chain_made level.Intersect h = lefts level.Intersect (λ a v. refl) (λ a. refl) (λ ms. refl)
    chain_made level.InstanceOf h = lefts level.InstanceOf (λ a v. refl) (λ a. refl) (λ ms. refl)
    chain_made level.Treat h = lefts level.Treat (λ a v. refl) (λ a. refl) (λ ms. refl)
    chain_made level.Castable h = lefts level.Castable (λ a v. refl) (λ a. refl) (λ ms. refl)
    chain_made level.Cast h = lefts level.Cast (λ a v. refl) (λ a. refl) (λ ms. refl)

    pub adds_made : {x y : Told} {xs : List Told}
        → Filled asked (body (production.OperatorChain level.Additive)) (x ∷ y ∷ xs)
        → IsMade (production.OperatorChain level.Additive) (x ∷ y ∷ xs)
    adds_made {x = x} {y = y} {xs = xs} (next g (again h q)) =
        chain_made level.Additive refl x (y ∷ xs) g (h, many_are asked q)
    adds_made (next g (stop x)) = elim x [ ]

    pub multiplies_made : {x y : Told} {xs : List Told}
        → Filled asked (body (production.OperatorChain level.Multiplicative)) (x ∷ y ∷ xs)
        → IsMade (production.OperatorChain level.Multiplicative) (x ∷ y ∷ xs)
    multiplies_made {x = x} {y = y} {xs = xs} (next g (again h q)) =
        chain_made level.Multiplicative refl x (y ∷ xs) g (h, many_are asked q)
    multiplies_made (next g (stop x)) = elim x [ ]

    pub unions_made : {x y : Told} {xs : List Told}
        → Filled asked (body (production.OperatorChain level.Union)) (x ∷ y ∷ xs)
        → IsMade (production.OperatorChain level.Union) (x ∷ y ∷ xs)
    unions_made {x = x} {y = y} {xs = xs} (next g (again h q)) =
        chain_made level.Union refl x (y ∷ xs) g (h, many_are asked q)
    unions_made (next g (stop x)) = elim x [ ]

    pub crosses_made : {x y : Told} {xs : List Told}
        → Filled asked (body (production.OperatorChain level.Intersect)) (x ∷ y ∷ xs)
        → IsMade (production.OperatorChain level.Intersect) (x ∷ y ∷ xs)
    crosses_made {x = x} {y = y} {xs = xs} (next g (again h q)) =
        chain_made level.Intersect refl x (y ∷ xs) g (h, many_are asked q)
    crosses_made (next g (stop x)) = elim x [ ]

    operand_of : (l : Level) (t : Token) (x : Told) → is_left_level l ≡ true
        → ((ms : List Meant) → operated s.prefixes.bound l ms ≡ tail ms) → IsExpr asked x
        → IsTail asked (made s (production.OperatorTail l) (leaf_told t ∷ x ∷ []))
    unfolding family_of value_in control_value expr_or
    operand_of l t _ i o (expr_is {n = n} {e = e} f) =
        subst (λ z. IsTail asked (told (max (max 0 0) n) plain z))
        (sym (o (meant.Token t ∷ meant.Expr e ∷ [])))
        (tail_operand (fit_more asked n (max (max 0 0) n) e (omega arith) f))

    either_of : (l : Level) (t : Token) (x : Told)
        → ((ms : List Meant) → operated s.prefixes.bound l ms ≡ tail ms) → IsExpr asked x
        → IsOperand asked (made s (production.OperatorTail l) (leaf_told t ∷ x ∷ []))
    unfolding family_of value_in control_value expr_or
    either_of l t _ o (expr_is {n = n} {e = e} f) =
        subst (λ z. IsOperand asked (told (max (max 0 0) n) plain z))
        (sym (o (meant.Token t ∷ meant.Expr e ∷ [])))
        (operand_is (fit_more asked n (max (max 0 0) n) e (omega arith) f))

    pub operated_made : (l : Level) {xs : List Told} → Filled asked (body (production.OperatorTail l)) xs
        → Table asked (nonterminal.Tail l) (made s (production.OperatorTail l) xs)
    unfolding family_of value_in control_value operated
    operated_made level.InstanceOf (taken t a (taken u b (next g end))) = tail_type
    operated_made level.Treat (taken t a (taken u b (next g end))) = tail_type
    operated_made level.Castable (taken t a (taken u b (next {x = x} g end))) =
        single_tail asked _ x.value
    operated_made level.Cast (taken t a (taken u b (next {x = x} g end))) = single_tail asked _ x.value
    operated_made level.Or (taken t a (next {x = x} g end)) =
        either_of level.Or t x (λ ms. refl) g
    operated_made level.And (taken t a (next {x = x} g end)) =
        either_of level.And t x (λ ms. refl) g
    operated_made level.Comparison (taken t a (next {x = x} g end)) =
        operand_of level.Comparison t x refl (λ ms. refl) g
    operated_made level.Range (taken t a (next {x = x} g end)) =
        operand_of level.Range t x refl (λ ms. refl) g
    operated_made level.Additive (taken t a (next {x = x} g end)) =
        operand_of level.Additive t x refl (λ ms. refl) g
    operated_made level.Multiplicative (taken t a (next {x = x} g end)) =
        operand_of level.Multiplicative t x refl (λ ms. refl) g
    operated_made level.Union (taken t a (next {x = x} g end)) =
        operand_of level.Union t x refl (λ ms. refl) g
    operated_made level.Intersect (taken t a (next {x = x} g end)) =
        operand_of level.Intersect t x refl (λ ms. refl) g

    signed_of : (t : Token) (x : Told) → IsExpr asked x
        → IsMade production.Signed (leaf_told t ∷ x ∷ [])
    unfolding family_of value_in control_value expr_or
    signed_of t _ (expr_is {n = n} {e = e} f) =
        let m = max (max 0 0) n in
        expr_is (signed_fit asked m (key_of (meant.Token t)) e (fit_more asked n m e (omega arith) f))

    pub signed_made : {xs : List Told} → Filled asked (body production.Signed) xs
        → IsMade production.Signed xs
    signed_made (taken t a (next {x = x} f end)) = signed_of t x f

    -- paths
    pub rooted_made : IsMade production.Rooted []
    unfolding family_of value_in path_value
    rooted_made = expr_is (fit_root asked)

    pub rooted_deep_made : {xs : List Told} → Filled asked (body production.RootedDeep) xs
        → IsMade production.RootedDeep xs
    unfolding family_of value_in path_value
    rooted_deep_made (taken t a (next {x = x} {xs = xs} f q)) =
        expr_is (path_fit asked production.RootedDeep (λ a v. refl) 2 (paths.deep expr.Root) (x ∷ xs)
        (deep_fit asked 1 expr.Root (omega arith) (fit_root asked)) (omega arith)
        ((expr_more asked (x ∷ []) (f, tt)).0, many_are asked q))

    pub root_steps_made : {xs : List Told} → Filled asked (body production.RootSteps) xs
        → IsMade production.RootSteps xs
    unfolding family_of value_in path_value
    root_steps_made (next {x = x} {xs = xs} f q) =
        expr_is (path_fit asked production.RootSteps (λ a v. refl) 1 expr.Root (x ∷ xs)
        (fit_root asked) (omega arith) ((expr_more asked (x ∷ []) (f, tt)).0, many_are asked q))

    steps_of : (x : Told) (xs : List Told) → IsExpr asked x → All asked (IsMore asked) xs
        → IsMade production.Steps (x ∷ xs)
    unfolding family_of value_in path_value expr_of
    steps_of _ xs (expr_is {n = n} {e = e} f) t =
        expr_is (path_fit asked production.Steps (λ a v. refl) n e xs f f.some t)

    pub steps_made : {x y : Told} {xs : List Told}
        → Filled asked (body production.Steps) (x ∷ y ∷ xs) → IsMade production.Steps (x ∷ y ∷ xs)
    steps_made {x = x} {y = y} {xs = xs} (next f (again g q)) =
        steps_of x (y ∷ xs) f (g, many_are asked q)
    steps_made (next f (stop x)) = elim x [ ]

    step_of : (x : Told) → IsExpr asked x → IsMore asked (made s production.StepAfter (x ∷ []))
    unfolding family_of value_in path_value expr_or
    step_of _ (expr_is {n = n} {e = e} f) =
        more_step (fit_more asked n (max 0 n) e (omega arith) f)

    pub step_after_made : {xs : List Told} → Filled asked (body production.StepAfter) xs
        → IsMore asked (made s production.StepAfter xs)
    step_after_made (taken t a (next {x = x} f end)) = step_of x f

    deep_of : (x : Told) → IsExpr asked x → IsMore asked (made s production.DeepAfter (x ∷ []))
    unfolding family_of value_in path_value expr_or
    deep_of _ (expr_is {n = n} {e = e} f) =
        more_deep (fit_more asked n (max 0 n) e (omega arith) f)

    pub deep_after_made : {xs : List Told} → Filled asked (body production.DeepAfter) xs
        → IsMore asked (made s production.DeepAfter xs)
    deep_after_made (taken t a (next {x = x} f end)) = deep_of x f

    pub axis_step_made : {xs : List Told} → Filled asked (body production.AxisStep) xs
        → IsMade production.AxisStep xs
    unfolding family_of value_in path_value
    axis_step_made (taken t a (taken u b (next {x = x} {xs = xs} f q))) =
        expr_is (fit_step asked _ _ _ _
        (flat_exprs asked production.AxisStep (λ a v. refl) _ xs (many_are asked q)))

    pub attribute_step_made : {xs : List Told} → Filled asked (body production.AttributeStep) xs
        → IsMade production.AttributeStep xs
    unfolding family_of value_in path_value
    attribute_step_made (taken t a (next {x = x} {xs = xs} f q)) =
        expr_is (fit_step asked _ _ _ _
        (flat_exprs asked production.AttributeStep (λ a v. refl) _ xs (many_are asked q)))

    pub test_step_made : {xs : List Told} → Filled asked (body production.TestStep) xs
        → IsMade production.TestStep xs
    unfolding family_of value_in path_value
    test_step_made (next {x = x} {xs = xs} f q) =
        expr_is (fit_step asked _ _ _ _
        (flat_exprs asked production.TestStep (λ a v. refl) _ xs (many_are asked q)))

    pub parent_step_made : {xs : List Told} → Filled asked (body production.ParentStep) xs
        → IsMade production.ParentStep xs
    unfolding family_of value_in path_value
    parent_step_made {xs = xs} (taken t a q) =
        expr_is (fit_step asked _ _ _ _
        (flat_exprs asked production.ParentStep (λ a v. refl) 0 xs (many_are asked q)))

    pub filter_step_made : {x y : Told} {xs : List Told}
        → Filled asked (body production.FilterStep) (x ∷ y ∷ xs)
        → IsMade production.FilterStep (x ∷ y ∷ xs)
    unfolding family_of value_in path_value
    filter_step_made {x = x} {y = y} {xs = xs} (next f (again g q)) =
        let all = flat_exprs asked production.FilterStep (λ a v. refl) 0 (x ∷ y ∷ xs)
        (f, (g, many_are asked q)) in
        expr_is (fit_filter asked _ _ _ all.0 all.1)
    filter_step_made (next f (stop x)) = elim x [ ]

    -- primary expressions
    pub literal_made : {xs : List Told} → Filled asked (body production.Literal) xs
        → IsMade production.Literal xs
    unfolding family_of value_in path_value literal_of
    literal_made (taken t a end) = expr_is (literal_fit asked t)

    pub number_made : {xs : List Told} → Filled asked (body production.Number) xs
        → IsMade production.Number xs
    unfolding family_of value_in path_value literal_of
    number_made (taken t a end) = expr_is (literal_fit asked t)

    pub context_made : IsMade production.Context []
    unfolding family_of value_in path_value
    context_made = expr_is (fit_context asked)

    pub empty_made : IsMade production.Parens []
    unfolding family_of value_in path_value
    empty_made = expr_is (fit_comma asked 0 [] tt)

    pub variable_made : ((name : ExprName) → asked.Holds (expr.Var name)) → {xs : List Told}
        → Filled asked (body production.Variable) xs → IsMade production.Variable xs
    unfolding family_of value_in path_value
    variable_made h (taken d a (taken t b end)) =
        expr_is (fit_var asked (name_of s.prefixes.bound [] (meant.Token t)) (h _))

    abbrev pub name_at : Token → ExprName
    name_at t = name_of s.prefixes.bound s.prefixes.function_default (meant.Token t)

    abbrev pub MayCall : Token → List Expr → Type 0
    MayCall t es =
        asked.Holds (expr.Call (name_at t) es)

    pub bare_call_made : (t : Token) → arity_broken {A = Expr} (call_type (type_named (name_at t))) [] ≡ []
        → MayCall t [] → IsMade production.Call (leaf_told t ∷ [])
    unfolding family_of value_in path_value
    bare_call_made t r a = expr_is (called_fit asked 0 (name_at t) (call_type (type_named (name_at t))) [] tt r a)

    pub call_made : (t : Token) (n : ℕ) (es : List Expr) → AllFit asked n es
        → arity_broken (call_type (type_named (name_at t))) es ≡ [] → MayCall t es
        → IsMade production.Call (leaf_told t ∷ told n plain (meant.Arguments es) ∷ [])
    unfolding family_of value_in path_value args_in
    call_made t n es f r a =
        expr_is (called_fit asked (max (max 0 0) n) (name_at t) (call_type (type_named (name_at t))) es
        (all_more asked n (max (max 0 0) n) es (omega arith) f) r a)

    pub parens_same : (x : Told) → IsExpr asked x → made s production.Parens (x ∷ []) ≡ x
    unfolding family_of value_in path_value expr_or
    parens_same _ (expr_is {n = n} {e = e} f) =
        let g = f.some in
        let nest : max 1 (max 0 n) ≡ n = omega (arith, g) in
        ap (λ k. told k plain (meant.Expr e)) nest
