-- What begins with a name and `(` is a call, and no pattern begins with one.
use Rattle.std.proofs.Common.{◌≡◌, ◌⊎◌, inl, inr, ℕ, Bool, true, false, cond}
use Rattle.std.proofs.Common.{List, [], ◌∷◌, refl, sym, ap, subst, ◌∙◌}
use Rattle.expr_keys.specs.declared.keys.Key.TheVariants.{OpenParen as open_paren}
use Rattle.expr_keys.specs.declared.tokens.Token.{Token}
use Rattle.expr_keys.specs.declared.tokens.Token.TheVariants as token
use Rattle.expr_keys.specs.declared.productions.Language.{Language}
use Rattle.expr_keys.specs.declared.productions.Level.{Level}
use Rattle.expr_keys.specs.declared.productions.Level.TheVariants as levels
use Rattle.expr_keys.specs.declared.productions.Nonterminal.{Nonterminal}
use Rattle.expr_keys.specs.declared.productions.Nonterminal.TheVariants as nonterminal
use Rattle.expr_keys.specs.declared.productions.Production.{Production}
use Rattle.expr_keys.specs.declared.productions.Production.TheVariants as production
use Rattle.expr_keys.specs.declared.productions.Symbol.TheVariants.{Maybe as maybe, Many as many}
use Rattle.expr_terms.specs.declared.raws.Raw.{Raw}
use Rattle.expr_terms.specs.declared.raws.Raw.TheVariants.{Node as node, outs-Node}
use Rattle.expr_terms.specs.Productions.{body, head, below, repeats, operation}
use Rattle.expr_terms.specs.Raws.{build}
use Rattle.expr_grammar.specs.Grammar.{Derives, by, Seq, end, taken, next, without, with, stop}
use Rattle.expr_grammar.specs.Grammar.{again}
use Rattle.pattern_forms.specs.PatternShapes.Shapes.{is_step, is_step_of, is_step_in, are_steps}
use Rattle.pattern_forms.specs.PatternShapes.Shapes.{is_alternative, is_alternative_of, is_alternative_in}
use Rattle.pattern_forms.specs.PatternShapes.Shapes.{is_unions, is_pattern, is_pattern_of, is_pattern_in}
use Rattle.xt_names.proofs.BoolLemmas.{never}
use Rattle.std.proofs.Math.Bool.{and-false}

-- a name and `(` come first
abbrev pub called : List ℕ → List Token → List Token
called a us = token.Name a ∷ token.Key open_paren ∷ us

-- `(` comes first
abbrev opened : List Token → List Token
opened us = token.Key open_paren ∷ us

-- no pattern, and no part of one
record NoPattern (v : Raw) : Type 0 where
  step : is_step v ≡ false
  alternative : is_alternative v ≡ false
  pattern : is_pattern v ≡ false

-- the value is none, or the name alone was read
abbrev Outcome : List Token → Raw → List Token → Type 0
Outcome us v rest = NoPattern v ⊎ (rest ≡ opened us)

plain_no : (p : Production) (vs : List Raw) → is_step_of p vs ≡ false
    → is_alternative_of p vs ≡ false → is_pattern_of p vs ≡ false → NoPattern (node p vs)
plain_no p vs a b c = record {
  step = ap is_step_in (outs-Node p vs) ∙ a;
  alternative = ap is_alternative_in (outs-Node p vs) ∙ b;
  pattern = ap is_pattern_in (outs-Node p vs) ∙ c;
}

call_no : (vs : List Raw) → NoPattern (build production.Call vs)
call_no [] = plain_no production.Call [] refl refl refl
call_no (v ∷ []) = plain_no production.Call (v ∷ []) refl refl refl
call_no (v ∷ w ∷ vs) = plain_no production.Call (v ∷ w ∷ vs) refl refl refl

filter_no : (w : Raw) (ws : List Raw) → NoPattern w
    → NoPattern (build production.FilterStep (w ∷ ws))
filter_no w [] n = n
filter_no w (x ∷ xs) n = plain_no production.FilterStep (w ∷ x ∷ xs) refl refl refl

steps_no : (w : Raw) (ws : List Raw) → NoPattern w
    → NoPattern (build production.Steps (w ∷ ws))
steps_no w [] n = n
steps_no w (x ∷ xs) n =
    let h : are_steps (w ∷ x ∷ xs) ≡ false = rw n.step refl in
    plain_no production.Steps (w ∷ x ∷ xs) refl h h

chain_no : (of : Level) (w : Raw) (ws : List Raw) → NoPattern w
    → NoPattern (build (production.OperatorChain of) (w ∷ ws))
chain_no of w [] n = n
chain_no of w (x ∷ xs) n = plain_no (production.OperatorChain of) (w ∷ x ∷ xs) refl refl (rw
    n.alternative (and-false (is_unions of)))

list_no : (w : Raw) (ws : List Raw) → NoPattern w
    → NoPattern (build production.ExprList (w ∷ ws))
list_no w [] n = n
list_no w (x ∷ xs) n = plain_no production.ExprList (w ∷ x ∷ xs) refl refl refl

pub same_level : {x y : Level} → nonterminal.Level x ≡ nonterminal.Level y → x ≡ y
same_level e = cc

-- what stands for the nonterminal has this outcome
abbrev Called : Language → List Token → List ℕ → Nonterminal → Type 0
Called l us a n = (v : Raw) (mid : List Token) → Derives l n (called a us) v mid
    → Outcome us v mid

module _ {l : Language} {us : List Token} where
  -- what may be repeated begins with no `(`
  none_more : {n : Nonterminal} {vs : List Raw} {rest : List Token} → ((v : Raw) (mid : List
      Token) → Derives l n (opened us) v mid → ⊥) → Seq l (many n ∷ []) (opened us) vs rest
      → rest ≡ opened us
  none_more h (stop end) = refl
  none_more h (again {mid = mid} {v = v} d q) = absurd (h v mid d)

  none_behind : {n : Nonterminal} {vs : List Raw} {mid rest : List Token} → ((v : Raw) (mid :
      List Token) → Derives l n (opened us) v mid → ⊥) → mid ≡ opened us → Seq l (many n ∷ [])
      mid vs rest → rest ≡ opened us
  none_behind {n} {vs} {mid} {rest} h e q = none_more h (subst (λ ts. Seq l (many n ∷ []) ts vs
      rest) e q)

  maybe_none : {n : Nonterminal} {vs : List Raw} {rest : List Token} → ((v : Raw) (mid : List
      Token) → Derives l n (opened us) v mid → ⊥) → Seq l (maybe n ∷ []) (opened us) vs rest
      → rest ≡ opened us
  maybe_none h (without end) = refl
  maybe_none h (with {mid = mid} {v = v} d q) = absurd (h v mid d)

  either_none : (b : Bool) {n : Nonterminal} {vs : List Raw} {mid rest : List Token} → ((v : Raw)
      (mid : List Token) → Derives l n (opened us) v mid → ⊥) → mid ≡ opened us
      → Seq l (cond b (many n) (maybe n) ∷ []) mid vs rest → rest ≡ opened us
  either_none true h e q = none_behind h e q
  either_none false {n} {vs} {mid} {rest} h e q = maybe_none h (subst (λ ts. Seq l (maybe n ∷ [])
      ts vs rest) e q)

  predicate_opens : (p : Production) {vs : List Raw} {rest : List Token}
      → head p ≡ nonterminal.Predicate → Seq l (body p) (opened us) vs rest → ⊥
  predicate_opens production.Predicated e (taken f q) = never f
  predicate_opens _ e q = absurd cc

  no_predicate : (v : Raw) (mid : List Token) → Derives l nonterminal.Predicate (opened us) v mid
      → ⊥
  no_predicate _ mid (by p s e q) = predicate_opens p e q

  step_opens : (p : Production) {vs : List Raw} {rest : List Token}
      → head p ≡ nonterminal.StepMore → Seq l (body p) (opened us) vs rest → ⊥
  step_opens production.StepAfter e (taken f q) = never f
  step_opens production.DeepAfter e (taken f q) = never f
  step_opens _ e q = absurd cc

  no_step : (v : Raw) (mid : List Token) → Derives l nonterminal.StepMore (opened us) v mid → ⊥
  no_step _ mid (by p s e q) = step_opens p e q

  item_opens : (p : Production) {vs : List Raw} {rest : List Token}
      → head p ≡ nonterminal.CommaExprSingle → Seq l (body p) (opened us) vs rest → ⊥
  item_opens production.NextExprSingle e (taken f q) = never f
  item_opens _ e q = absurd cc

  no_item : (v : Raw) (mid : List Token) → Derives l nonterminal.CommaExprSingle (opened us) v mid → ⊥
  no_item _ mid (by p s e q) = item_opens p e q

  operation_opens : (of : Level) {vs : List Raw} {rest : List Token}
      → Seq l (operation of) (opened us) vs rest → ⊥
  operation_opens levels.Or (taken f q) = never f
  operation_opens levels.And (taken f q) = never f
  operation_opens levels.Comparison (taken f q) = never f
  operation_opens levels.Range (taken f q) = never f
  operation_opens levels.Additive (taken f q) = never f
  operation_opens levels.Multiplicative (taken f q) = never f
  operation_opens levels.Union (taken f q) = never f
  operation_opens levels.Intersect (taken f q) = never f
  operation_opens levels.InstanceOf (taken f q) = never f
  operation_opens levels.Treat (taken f q) = never f
  operation_opens levels.Castable (taken f q) = never f
  operation_opens levels.Cast (taken f q) = never f

  tail_opens : (of : Level) (p : Production) {vs : List Raw} {rest : List Token}
      → head p ≡ nonterminal.Tail of → Seq l (body p) (opened us) vs rest → ⊥
  tail_opens of (production.OperatorTail other) e q = operation_opens other q
  tail_opens of _ e q = absurd cc

  no_tail : (of : Level) (v : Raw) (mid : List Token) → Derives l (nonterminal.Tail of) (opened
      us) v mid → ⊥
  no_tail of _ mid (by p s e q) = tail_opens of p e q

  steps_joined : (w : Raw) (ws : List Raw) {mid rest : List Token} → Outcome us w mid
      → Seq l (many nonterminal.StepMore ∷ []) mid ws rest
      → Outcome us (build production.Steps (w ∷ ws)) rest
  steps_joined w ws (inl n) q = inl (steps_no w ws n)
  steps_joined w ws (inr e) q = inr (none_behind no_step e q)

  chain_joined : (of : Level) (w : Raw) (ws : List Raw) {mid rest : List Token}
      → Outcome us w mid
      → Seq l (cond (repeats of) (many (nonterminal.Tail of)) (maybe (nonterminal.Tail of))
      ∷ []) mid ws rest → Outcome us (build (production.OperatorChain of) (w ∷ ws)) rest
  chain_joined of w ws (inl n) q = inl (chain_no of w ws n)
  chain_joined of w ws (inr e) q = inr (either_none (repeats of) (no_tail of) e q)

  list_joined : (w : Raw) (ws : List Raw) {mid rest : List Token} → Outcome us w mid
      → Seq l (many nonterminal.CommaExprSingle ∷ []) mid ws rest
      → Outcome us (build production.ExprList (w ∷ ws)) rest
  list_joined w ws (inl n) q = inl (list_no w ws n)
  list_joined w ws (inr e) q = inr (none_behind no_item e q)

  module _ {a : List ℕ} where
    kind_called : (p : Production) {vs : List Raw} {rest : List Token}
        → head p ≡ nonterminal.KindTest → Seq l (body p) (called a us) vs rest → ⊥
    kind_called production.PlainKind e (taken f q) = never f
    kind_called production.PiKind e (taken f q) = never f
    kind_called production.NamedKind e (taken f q) = never f
    kind_called _ e q = absurd cc

    -- the name is read as a test, and `(` is left
    test_called : (p : Production) {vs : List Raw} {rest : List Token}
        → head p ≡ nonterminal.NodeTest → Seq l (body p) (called a us) vs rest
        → rest ≡ opened us
    test_called production.NameTested e (taken f end) = refl
    test_called production.KindTested e (next (by p s i q) end) = absurd (kind_called p i q)
    test_called _ e q = absurd cc

    direct_called : (p : Production) {vs : List Raw} {rest : List Token}
        → head p ≡ nonterminal.DirElemConstructor → Seq l (body p) (called a us) vs rest → ⊥
    direct_called production.DirectElement e (taken f q) = never f
    direct_called _ e q = absurd cc

    primary_called : (p : Production) {vs : List Raw} {rest : List Token}
        → head p ≡ nonterminal.PrimaryExpr → Seq l (body p) (called a us) vs rest
        → NoPattern (build p vs)
    primary_called production.Number e (taken f q) = never f
    primary_called production.Literal e (taken f q) = never f
    primary_called production.Variable e (taken f q) = never f
    primary_called production.Parens e (taken f q) = never f
    primary_called production.Context e (taken f q) = never f
    primary_called production.Call {vs} e q = call_no vs
    primary_called production.Computed e (taken f q) = never f
    primary_called production.Constructed e (taken f q) = never f
    primary_called production.PiConstructed e (taken f q) = never f
    primary_called production.Enclosing e (taken f q) = never f
    primary_called production.DirectConstructor e (next (by p s i q) end) = absurd (direct_called p i q)
    primary_called _ e q = absurd cc

    step_called : (p : Production) {vs : List Raw} {rest : List Token}
        → head p ≡ nonterminal.StepExpr → Seq l (body p) (called a us) vs rest
        → Outcome us (build p vs) rest
    step_called production.AxisStep e (taken f q) = never f
    step_called production.AttributeStep e (taken f q) = never f
    step_called production.TestStep e (next (by p s i q) more) = inr (none_behind no_predicate
        (test_called p i q) more)
    step_called production.ParentStep e (taken f q) = never f
    step_called production.FilterStep e (next {vs = ws} (by p s i q) more) = inl (filter_no _ ws
        (primary_called p i q))
    step_called _ e q = absurd cc

    step_at : {v : Raw} {mid : List Token} → Derives l nonterminal.StepExpr (called a us) v mid
        → Outcome us v mid
    step_at (by p s e q) = step_called p e q

    relative_called : (p : Production) {vs : List Raw} {rest : List Token}
        → head p ≡ nonterminal.RelativePathExpr → Seq l (body p) (called a us) vs rest
        → Outcome us (build p vs) rest
    relative_called production.Steps e (next {v = w} {vs = ws} d more) = steps_joined w ws
        (step_at d) more
    relative_called _ e q = absurd cc

    path_called : (p : Production) {vs : List Raw} {rest : List Token}
        → head p ≡ nonterminal.PathExpr → Seq l (body p) (called a us) vs rest
        → Outcome us (build p vs) rest
    path_called production.Rooted e (taken f q) = never f
    path_called production.RootedDeep e (taken f q) = never f
    path_called production.Unrooted e (next (by p s i q) end) = relative_called p i q
    path_called _ e q = absurd cc

    unary_called : (p : Production) {vs : List Raw} {rest : List Token}
        → head p ≡ nonterminal.UnaryExpr → Seq l (body p) (called a us) vs rest
        → Outcome us (build p vs) rest
    unary_called production.Signed e (taken f q) = never f
    unary_called production.Unsigned e (next (by p s i q) end) = path_called p i q
    unary_called _ e q = absurd cc

    unary_at : Called l us a nonterminal.UnaryExpr
    unary_at _ mid (by p s e q) = unary_called p e q

    chain_called : (of : Level) → Called l us a (below of) → {vs : List Raw} {rest : List Token}
        → Seq l (body (production.OperatorChain of)) (called a us) vs rest
        → Outcome us (build (production.OperatorChain of) vs) rest
    chain_called of h (next {mid = mid} {v = w} {vs = ws} d more) = chain_joined of w ws (h w mid
        d) more

    level_called : (of : Level) → Called l us a (below of) → (p : Production) {vs : List Raw} {rest :
        List Token} → head p ≡ nonterminal.Level of → Seq l (body p) (called a us) vs rest
        → Outcome us (build p vs) rest
    level_called of h (production.OperatorChain other) e q = chain_called other (subst (λ x. Called l us a (below
        x)) (sym (same_level e)) h) q
    level_called of h _ e q = absurd cc

    level_at : (of : Level) → Called l us a (below of) → Called l us a (nonterminal.Level of)
    level_at of h _ mid (by p s e q) = level_called of h p e q

    levels_at : Called l us a (nonterminal.Level levels.Or)
    levels_at = level_at levels.Or (level_at levels.And (level_at levels.Comparison (level_at
        levels.Range (level_at levels.Additive (level_at levels.Multiplicative (level_at levels.Union
        (level_at levels.Intersect (level_at levels.InstanceOf (level_at levels.Treat (level_at
        levels.Castable (level_at levels.Cast unary_at)))))))))))

    clause_called : (p : Production) {vs : List Raw} {rest : List Token}
        → head p ≡ nonterminal.Clause → Seq l (body p) (called a us) vs rest → ⊥
    clause_called production.ForClause e (taken f q) = never f
    clause_called production.LetClause e (taken f q) = never f
    clause_called _ e q = absurd cc

    single_called : (p : Production) {vs : List Raw} {rest : List Token}
        → head p ≡ nonterminal.ExprSingle → Seq l (body p) (called a us) vs rest
        → Outcome us (build p vs) rest
    single_called production.IfExpr e (taken f q) = never f
    single_called production.FlworExpr e (next (by p s i q) more) = absurd (clause_called p i q)
    single_called production.QuantifiedExpr e (taken f q) = never f
    single_called production.OperatorExpr e (next {mid = mid} {v = w} d end) = levels_at w mid d
    single_called _ e q = absurd cc

    expr_called : (p : Production) {vs : List Raw} {rest : List Token}
        → head p ≡ nonterminal.Expr → Seq l (body p) (called a us) vs rest
        → Outcome us (build p vs) rest
    expr_called production.ExprList e (next {v = w} {vs = ws} (by p s i q) more) = list_joined w ws
        (single_called p i q) more
    expr_called _ e q = absurd cc

    whole_called : (p : Production) {vs : List Raw} {rest : List Token}
        → head p ≡ nonterminal.Whole → Seq l (body p) (called a us) vs rest
        → Outcome us (build p vs) rest
    whole_called production.WholeExpr e (next (by p s i q) end) = expr_called p i q
    whole_called _ e q = absurd cc

-- all of the tokens are read
none_left : {us : List Token} {v : Raw} → Outcome us v [] → is_pattern v ≡ false
none_left (inl n) = n.pattern
none_left (inr e) = absurd cc

pub call_is_no_pattern : (l : Language) (a : List ℕ) (us : List Token) (v : Raw)
    → Derives l nonterminal.Whole (called a us) v [] → is_pattern v ≡ false
call_is_no_pattern l a us _ (by p s e q) = none_left (whole_called p e q)
