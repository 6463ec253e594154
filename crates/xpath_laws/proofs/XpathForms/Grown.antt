-- What expressions of XPath mean, production by production.
use Rattle.std.proofs.Common.{◌≡◌, List, [], ◌∷◌, map, length, true}
use Rattle.std.proofs.Common.{None, refl, sym, ap, subst}
use Rattle.xt_names.specs.declared.codes.Code.{Code}
use Rattle.xt_names.specs.declared.names.ExprName.{ExprName}
use Rattle.xt_syntax.specs.declared.exprs.Expr.{Expr}
use Rattle.xt_syntax.specs.declared.exprs.Expr.TheVariants as expr
use Rattle.expr_terms.specs.Productions.{body, head, speaks}
use Rattle.expr_terms.specs.Raws.{build}
use Rattle.expr_terms.specs.Raws.{as_inner_chain}
use Rattle.expr_keys.specs.declared.productions.Language.TheVariants.{Xpath as xpath}
use Rattle.expr_keys.specs.declared.productions.Level.{Level}
use Rattle.expr_keys.specs.declared.productions.Level.TheVariants as level
use Rattle.expr_keys.specs.declared.productions.Nonterminal.{Nonterminal}
use Rattle.expr_keys.specs.declared.productions.Nonterminal.TheVariants as nonterminal
use Rattle.expr_keys.specs.declared.productions.Production.{Production}
use Rattle.expr_keys.specs.declared.productions.Production.TheVariants as production
use Rattle.expr_keys.specs.declared.productions.Symbol.{Symbol}
use Rattle.expr_keys.specs.declared.tokens.Token.{Token}
use Rattle.expr_terms.specs.declared.raws.Raw.{Raw}
use Rattle.expr_terms.specs.declared.raws.Raw.TheVariants.{Leaf as leaf, Node as node}
use Rattle.expr_terms.specs.declared.raws.Raw.TheVariants.{outs-Node}
use Rattle.expr_terms.specs.declared.raws.Raw.TheViews.{out-Raw}
use Rattle.expr_terms.specs.declared.raws.Raw.TheOpen.{Node}
use Rattle.expr_names.specs.Types.{type_named, call_type, arity_broken}
use Rattle.expr_rules.specs.declared.expr_meant.meant.Meant.{Meant}
use Rattle.expr_rules.specs.declared.expr_meant.meant.Meant.TheVariants as meant
use Rattle.expr_rules.specs.Known.{name_of}
use Rattle.expr_rules.specs.Rules.{args_in, end_broken}
use Rattle.expr_resolve.specs.declared.setting.Setting.{Setting}
use Rattle.expr_resolve.specs.Tables.{is_chain, end as end_rules}
use Rattle.expr_resolve.specs.Folds.{value_of}
use Rattle.xpath_laws.proofs.XpathForms.Found.{value_leaf}
use Rattle.xpath_laws.proofs.XpathForms.Swapped.{IfCall, IsLiteral}
use Rattle.xpath_laws.proofs.XpathForms.Reread as reread
use Rattle.xpath_laws.proofs.XpathForms.Reread.{Tree, Trees}
use Rattle.xpath_laws.proofs.XpathForms.Fits.{Property, AllHold, holds_of}
use Rattle.xpath_laws.proofs.XpathForms.Parts.{leaf_told, made, IsExpr}
use Rattle.xpath_laws.proofs.XpathForms.Parts.{Table}
use Rattle.xpath_laws.proofs.XpathForms.Made as make
use Rattle.xpath_laws.proofs.XpathForms.Chained.{told_of, IfChain, GoodExpr, chain_good, else_good, no_text}
use Rattle.xpath_laws.proofs.XpathForms.Chained.{told_node, parens_good}
use Rattle.xpath_laws.proofs.XpathForms.Good.{FirstIs, GoodArguments, Good, Parts, leaf_is_told, filled, node_expr}
use Rattle.xpath_laws.proofs.XpathForms.Good.{plain_expr, plain_part, literal_good}
use Rattle.xpath_laws.proofs.XpathForms.Good.{arguments_good, is_text, ended, read, part, absent, present}
use Rattle.xpath_laws.proofs.XpathForms.Good.{over, more, alone, behind}

-- what is asked of calls, and what may be used
pub record Rules (asked : Property) (s : Setting) (Asks : List Raw → Type 0) : Type 0 where
  pub variable : (name : ExprName) → asked.Holds (expr.Var name)
  pub unbroken : (vs : List Raw) → Asks vs
      → end_rules s production.Call (map (value_of s) vs) ≡ []
  pub bare_call : (t : Token) → Asks (leaf t ∷ [])
      → asked.Holds (expr.Call (make.name_at asked s t) [])
  pub call : (t : Token) (a : Raw) (vs : List Raw) (es : List Expr) → Asks (leaf t ∷ a ∷ [])
      → out-Raw a ≡ Node production.ArgumentList vs → length es ≡ length vs
      → ((w : Raw) (ws : List Raw) → vs ≡ w ∷ ws → (l : IsLiteral w) → FirstIs es l.text)
      → AllHold asked.Holds es → asked.Holds (expr.Call (make.name_at asked s t) es)

module _ (asked : Property) (s : Setting) (Asks : List Raw → Type 0) (r : Rules asked s Asks) where
  -- the rule of a call of this name, with these arguments
  abbrev rule_of : Meant → List Expr → List Code
  rule_of m es =
      let name = name_of s.prefixes.bound s.prefixes.function_default m in
      arity_broken {A = Expr} (call_type (type_named name)) es

  bare_call_good : (t : Token) → Asks (leaf t ∷ [])
      → GoodExpr asked s (node production.Call (leaf t ∷ []))
  unfolding is_chain is_text end_broken
  bare_call_good t a =
      let broken : rule_of (meant.Token t) [] ≡ [] =
      subst (λ m. rule_of m [] ≡ []) (value_leaf s t) (r.unbroken (leaf t ∷ []) a) in
      node_expr asked s production.Call (leaf t ∷ []) refl refl refl refl
      (subst (λ x. IsExpr asked (made s production.Call (x ∷ []))) (sym (leaf_is_told asked s t))
      (make.bare_call_made asked s t broken (r.bare_call t a)))

  call_good : (t : Token) (v : Raw) → GoodArguments asked s v → Asks (leaf t ∷ v ∷ [])
      → GoodExpr asked s (node production.Call (leaf t ∷ v ∷ []))
  unfolding is_chain is_text end_broken args_in
  call_good t v g a =
      let value : value_of s v ≡ meant.Arguments g.list = ap (λ x. x.value) g.is in
      let rule : rule_of (value_of s (leaf t)) (args_in (value_of s v)) ≡ [] =
      r.unbroken (leaf t ∷ v ∷ []) a in
      let named : rule_of (meant.Token t) (args_in (value_of s v)) ≡ [] =
      subst (λ m. rule_of m (args_in (value_of s v)) ≡ []) (value_leaf s t) rule in
      let broken : rule_of (meant.Token t) g.list ≡ [] =
      subst (λ m. rule_of (meant.Token t) (args_in m) ≡ []) value named in
      let may : make.MayCall asked s t g.list =
      r.call t v g.parts g.list a g.node_of g.size g.literal (holds_of asked g.nest g.list g.fit) in
      node_expr asked s production.Call (leaf t ∷ v ∷ []) refl refl refl refl
      (subst (λ x. IsExpr asked (made s production.Call (x ∷ told_of s v ∷ [])))
      (sym (leaf_is_told asked s t))
      (subst (λ x. IsExpr asked (made s production.Call (leaf_told t ∷ x ∷ []))) (sym g.is)
      (make.call_made asked s t g.nest g.list g.fit broken may)))

  abbrev G : Raw → Type 0
  G v = GoodExpr asked s v

  abbrev P : List Symbol → List Raw → Type 0
  P ss vs = Parts asked s ss vs

  abbrev M : Production → List Raw → Type 0
  M q vs = IsExpr asked (made s q (map (told_of s) vs))

  empty_good : G (node production.Parens [])
  unfolding is_chain
  empty_good =
      let inner : as_inner_chain (out-Raw (node production.Parens [])) ≡ None =
      ap as_inner_chain (outs-Node production.Parens []) in
      record {
        made = subst (IsExpr asked) (sym (told_node asked s production.Parens [] refl))
            (make.empty_made asked s);
        inner = subst (IfChain asked s) (sym inner) tt;
        literal = no_text asked s (node production.Parens []) production.Parens []
            (outs-Node production.Parens []) (λ e. cc);
      }

  called_good : (vs : List Raw) → P (body production.Call) vs → Asks vs
      → G (build production.Call vs)
  called_good _ (read t a (read u b (absent (read w c ended)))) x = bare_call_good t x
  called_good _ (read t a (read u b (present {v = v} g (read w c ended)))) x = call_good t v g x

  produced : (q : Production) {vs : List Raw} → speaks xpath q ≡ true → IfCall q (Asks vs)
      → P (body q) vs → Good asked s (head q) (build q vs)
  unfolding is_chain is_text
  produced production.WholeExpr o a (part g ended) = g
  produced production.WholeSequenceType o a q = tt
  produced production.ExprList o a (part g (over ended)) = g
  produced production.ExprList o a (part {v = v} g (more {v = w} {vs = ws} h q)) =
      node_expr asked s production.ExprList (v ∷ w ∷ ws) refl refl refl refl
      (make.listing_made asked s (filled asked s (part g (more h q))))
  produced production.NextExprSingle o a (read t b (part g ended)) = g
  produced production.ArgumentList o a (part {v = v} g (over ended)) =
      arguments_good asked s v [] g (filled asked s (part g (over ended)))
  produced production.ArgumentList o a (part {v = v} g (more {v = w} {vs = ws} h q)) =
      arguments_good asked s v (w ∷ ws) g (filled asked s (part g (more h q)))
  produced production.IfExpr o a (read t1 b (read t2 c (part {v = t} g (read t3 d (read t4 e
      (part {v = x} h (part {v = l} k ended))))))) = chain_good asked s t x l g h k
  produced production.ElseExpr o a (read t b (part {v = v} g ended)) = else_good asked s v g
  produced production.FlworExpr {vs = vs} o a q =
      plain_expr asked s production.FlworExpr vs refl refl refl refl refl refl
      (make.flwor_made asked s (filled asked s q))
  produced production.QuantifiedExpr {vs = vs} o a q =
      plain_expr asked s production.QuantifiedExpr vs refl refl refl refl refl refl
      (make.quantified_made asked s (filled asked s q))
  produced production.OperatorExpr o a (part g ended) = g
  produced production.ForClause {vs = vs} o a q =
      plain_part asked s (Table asked nonterminal.Clause) production.ForClause vs refl refl refl refl
      refl (make.for_clause_made asked s (filled asked s q))
  produced production.LetClause o a q = absurd cc
  produced production.FollowingClause o a q = absurd cc
  produced production.ForIn {vs = vs} o a q =
      plain_part asked s (Table asked nonterminal.ForBinding) production.ForIn vs refl refl refl refl
      refl (make.bind_made asked s (filled asked s q))
  produced production.NextForBinding o a (read t b (part g ended)) = g
  produced production.LetAssign o a q = tt
  produced production.NextLetBinding o a q = tt
  produced production.QuantifiedIn {vs = vs} o a q =
      plain_part asked s (Table asked nonterminal.QuantifiedBinding) production.QuantifiedIn vs refl refl refl refl
      refl (make.quant_bind_made asked s (filled asked s q))
  produced production.NextQuantifiedBinding o a (read t b (part g ended)) = g
  produced production.AsType o a q = absurd cc
  produced production.AtVariable o a q = absurd cc
  produced production.WhereTest o a q = absurd cc
  produced production.OrderBy o a q = absurd cc
  produced production.StableOrderBy o a q = absurd cc
  produced production.OrderKey o a q = tt
  produced production.NextOrderSpec o a q = tt
  produced production.OrderDirection o a q = tt
  produced production.EmptyLeast o a q = tt
  produced (production.OperatorChain level.Or) o a (part g (over ended)) = g
  produced (production.OperatorChain level.Or) o a (part {v = v} g (more {v = w} {vs = ws} h q)) =
      node_expr asked s (production.OperatorChain level.Or) (v ∷ w ∷ ws) refl refl refl refl
      (make.ors_made asked s (filled asked s (part g (more h q))))
  produced (production.OperatorChain level.And) o a (part g (over ended)) = g
  produced (production.OperatorChain level.And) o a (part {v = v} g (more {v = w} {vs = ws} h q)) =
      node_expr asked s (production.OperatorChain level.And) (v ∷ w ∷ ws) refl refl refl refl
      (make.ands_made asked s (filled asked s (part g (more h q))))
  produced (production.OperatorChain level.Comparison) o a (part g (absent ended)) = g
  produced (production.OperatorChain level.Comparison) o a (part {v = v} g (present {v = w} h ended)) =
      node_expr asked s (production.OperatorChain level.Comparison) (v ∷ w ∷ []) refl refl refl refl
      (make.chain_made asked s level.Comparison refl (told_of s v) (told_of s w ∷ []) g.made (h, tt))
  produced (production.OperatorChain level.Range) o a (part g (absent ended)) = g
  produced (production.OperatorChain level.Range) o a (part {v = v} g (present {v = w} h ended)) =
      node_expr asked s (production.OperatorChain level.Range) (v ∷ w ∷ []) refl refl refl refl
      (make.chain_made asked s level.Range refl (told_of s v) (told_of s w ∷ []) g.made (h, tt))
  produced (production.OperatorChain level.InstanceOf) o a (part g (absent ended)) = g
  produced (production.OperatorChain level.InstanceOf) o a (part {v = v} g (present {v = w} h ended)) =
      node_expr asked s (production.OperatorChain level.InstanceOf) (v ∷ w ∷ []) refl refl refl refl
      (make.chain_made asked s level.InstanceOf refl (told_of s v) (told_of s w ∷ []) g.made (h, tt))
  produced (production.OperatorChain level.Treat) o a (part g (absent ended)) = g
  produced (production.OperatorChain level.Treat) o a (part {v = v} g (present {v = w} h ended)) =
      node_expr asked s (production.OperatorChain level.Treat) (v ∷ w ∷ []) refl refl refl refl
      (make.chain_made asked s level.Treat refl (told_of s v) (told_of s w ∷ []) g.made (h, tt))
  produced (production.OperatorChain level.Castable) o a (part g (absent ended)) = g
  produced (production.OperatorChain level.Castable) o a (part {v = v} g (present {v = w} h ended)) =
      node_expr asked s (production.OperatorChain level.Castable) (v ∷ w ∷ []) refl refl refl refl
      (make.chain_made asked s level.Castable refl (told_of s v) (told_of s w ∷ []) g.made (h, tt))
  produced (production.OperatorChain level.Cast) o a (part g (absent ended)) = g
  produced (production.OperatorChain level.Cast) o a (part {v = v} g (present {v = w} h ended)) =
      node_expr asked s (production.OperatorChain level.Cast) (v ∷ w ∷ []) refl refl refl refl
      (make.chain_made asked s level.Cast refl (told_of s v) (told_of s w ∷ []) g.made (h, tt))
  produced (production.OperatorChain level.Additive) o a (part g (over ended)) = g
  produced (production.OperatorChain level.Additive) o a (part {v = v} g (more {v = w} {vs = ws} h q)) =
      node_expr asked s (production.OperatorChain level.Additive) (v ∷ w ∷ ws) refl refl refl refl
      (make.adds_made asked s (filled asked s (part g (more h q))))
  produced (production.OperatorChain level.Multiplicative) o a (part g (over ended)) = g
  produced (production.OperatorChain level.Multiplicative) o a (part {v = v} g (more {v = w} {vs = ws} h q)) =
      node_expr asked s (production.OperatorChain level.Multiplicative) (v ∷ w ∷ ws) refl refl refl refl
      (make.multiplies_made asked s (filled asked s (part g (more h q))))
  produced (production.OperatorChain level.Union) o a (part g (over ended)) = g
  produced (production.OperatorChain level.Union) o a (part {v = v} g (more {v = w} {vs = ws} h q)) =
      node_expr asked s (production.OperatorChain level.Union) (v ∷ w ∷ ws) refl refl refl refl
      (make.unions_made asked s (filled asked s (part g (more h q))))
  produced (production.OperatorChain level.Intersect) o a (part g (over ended)) = g
  produced (production.OperatorChain level.Intersect) o a (part {v = v} g (more {v = w} {vs = ws} h q)) =
      node_expr asked s (production.OperatorChain level.Intersect) (v ∷ w ∷ ws) refl refl refl refl
      (make.crosses_made asked s (filled asked s (part g (more h q))))
  produced (production.OperatorTail l) {vs = vs} o a q =
      operated l (build (production.OperatorTail l) vs) (plain_part asked s (Table asked (nonterminal.Tail l)) (production.OperatorTail l) vs
      refl refl refl refl refl (make.operated_made asked s l (filled asked s q)))
    where
      operated : (l : Level) (v : Raw) → Table asked (nonterminal.Tail l) (told_of s v)
          → Good asked s (nonterminal.Tail l) v
      operated level.Or v g = g
      operated level.And v g = g
      operated _ v g = g
  produced production.Signed {vs = vs} o a q =
      plain_expr asked s production.Signed vs refl refl refl refl refl refl
      (make.signed_made asked s (filled asked s q))
  produced production.Unsigned o a (part g ended) = g
  produced production.Rooted o a (read t b (alone ended)) =
      node_expr asked s production.Rooted [] refl refl refl refl (make.rooted_made asked s)
  produced production.Rooted o a (read t b (behind g ended)) = g
  produced production.RootedDeep {vs = vs} o a q =
      plain_expr asked s production.RootedDeep vs refl refl refl refl refl refl
      (make.rooted_deep_made asked s (filled asked s q))
  produced production.Unrooted o a (part g ended) = g
  produced production.RootSteps {vs = vs} o a q =
      plain_expr asked s production.RootSteps vs refl refl refl refl refl refl
      (make.root_steps_made asked s (filled asked s q))
  produced production.Steps o a (part g (over ended)) = g
  produced production.Steps o a (part {v = v} g (more {v = w} {vs = ws} h q)) =
      node_expr asked s production.Steps (v ∷ w ∷ ws) refl refl refl refl
      (make.steps_made asked s (filled asked s (part g (more h q))))
  produced production.StepAfter {vs = vs} o a q =
      plain_part asked s (Table asked nonterminal.StepMore) production.StepAfter vs refl refl refl
      refl refl (make.step_after_made asked s (filled asked s q))
  produced production.DeepAfter {vs = vs} o a q =
      plain_part asked s (Table asked nonterminal.StepMore) production.DeepAfter vs refl refl refl
      refl refl (make.deep_after_made asked s (filled asked s q))
  produced production.AxisStep {vs = vs} o a q =
      plain_expr asked s production.AxisStep vs refl refl refl refl refl refl
      (make.axis_step_made asked s (filled asked s q))
  produced production.AttributeStep {vs = vs} o a q =
      plain_expr asked s production.AttributeStep vs refl refl refl refl refl refl
      (make.attribute_step_made asked s (filled asked s q))
  produced production.TestStep {vs = vs} o a q =
      plain_expr asked s production.TestStep vs refl refl refl refl refl refl
      (make.test_step_made asked s (filled asked s q))
  produced production.ParentStep {vs = vs} o a q =
      plain_expr asked s production.ParentStep vs refl refl refl refl refl refl
      (make.parent_step_made asked s (filled asked s q))
  produced production.FilterStep o a (part g (over ended)) = g
  produced production.FilterStep o a (part {v = v} g (more {v = w} {vs = ws} h q)) =
      node_expr asked s production.FilterStep (v ∷ w ∷ ws) refl refl refl refl
      (make.filter_step_made asked s (filled asked s (part g (more h q))))
  produced production.Predicated o a (read t b (part g (read u c ended))) = g
  produced production.NameTested o a q = tt
  produced production.KindTested o a q = tt
  produced production.PlainKind o a q = tt
  produced production.PiKind o a q = tt
  produced production.PiNamed o a q = tt
  produced production.NamedKind o a q = tt
  produced production.KindNamed o a q = tt
  produced production.Number {vs = vs} o a q =
      plain_expr asked s production.Number vs refl refl refl refl refl refl
      (make.number_made asked s (filled asked s q))
  produced production.Literal o a (read t f ended) = literal_good asked s t f
  produced production.Variable {vs = vs} o a q =
      plain_expr asked s production.Variable vs refl refl refl refl refl refl
      (make.variable_made asked s r.variable (filled asked s q))
  produced production.Parens o a (read t b (absent (read u c ended))) = empty_good
  produced production.Parens o a (read t b (present {v = v} g (read u c ended))) =
      parens_good asked s v g
  produced production.Context o a (read t b ended) =
      node_expr asked s production.Context [] refl refl refl refl (make.context_made asked s)
  produced production.Call {vs = vs} o a q = called_good vs q a
  produced production.Computed o a q = absurd cc
  produced production.Constructed o a q = absurd cc
  produced production.PiConstructed o a q = absurd cc
  produced production.Enclosing o a q = absurd cc
  produced production.DirectConstructor o a q = absurd cc
  produced production.EmptyType o a q = tt
  produced production.ItemsType o a q = tt
  produced production.OccurrenceMark o a q = tt
  produced production.AnyItem o a q = tt
  produced production.KindItem o a q = tt
  produced production.AtomicItem o a q = tt
  produced production.SingleAtomicType o a q = tt
  produced production.QuestionMark o a q = tt
  produced production.DirectElement o a q = tt
  produced production.ElementContent o a q = tt
  produced production.EmptyElement o a q = tt
  produced production.AttributeValue o a q = tt
  produced production.PartChars o a q = tt
  produced production.PartEnclosed o a q = tt
  produced production.ChildElement o a q = tt
  produced production.ItemChars o a q = tt
  produced production.ItemEnclosed o a q = tt

  mutual
    tree_good : {n : Nonterminal} {v : Raw} → Tree Asks n v → Good asked s n v
    tree_good (reread.grown q {vs = vs} o e a ts) =
        subst (λ n. Good asked s n (build q vs)) e (produced q o a (trees_good ts))

    trees_good : {ss : List Symbol} {vs : List Raw} → Trees Asks ss vs → P ss vs
    trees_good reread.ended = ended
    trees_good (reread.read t f ts) = read t f (trees_good ts)
    trees_good (reread.part t ts) = part (tree_good t) (trees_good ts)
    trees_good (reread.absent ts) = absent (trees_good ts)
    trees_good (reread.present t ts) = present (tree_good t) (trees_good ts)
    trees_good (reread.over ts) = over (trees_good ts)
    trees_good (reread.more t ts) = more (tree_good t) (trees_good ts)
    trees_good (reread.alone ts) = alone (trees_good ts)
    trees_good (reread.behind t ts) = behind (tree_good t) (trees_good ts)

  pub whole_good : {v : Raw} → Tree Asks nonterminal.Whole v → IsExpr asked (told_of s v)
  whole_good t = (tree_good t).made
