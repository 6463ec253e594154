-- What expressions mean that break no rule is regular, with sound texts.
use Rattle.std.proofs.Common.{◌≡◌, List, [], ◌∷◌, map, true, Option, Some, None}
use Rattle.std.proofs.Common.{refl, sym, subst}
use Rattle.std.proofs.lemmas.Bool.{and_parts}
use Rattle.xt_types.specs.Regular.{is_regular_type}
use Rattle.closed_queries.specs.Closed.{is_good_expr}
use Rattle.closed_queries.specs.Texts.{is_sound_type}
use Rattle.expr_terms.specs.Productions.{body, head}
use Rattle.expr_terms.specs.Raws.{build, as_inner_chain}
use Rattle.expr_keys.specs.declared.tokens.Token.{Token}
use Rattle.expr_keys.specs.declared.productions.Language.{Language}
use Rattle.expr_keys.specs.declared.productions.Level.TheVariants as level
use Rattle.expr_keys.specs.declared.productions.Nonterminal.{Nonterminal}
use Rattle.expr_keys.specs.declared.productions.Nonterminal.TheVariants as nonterminal
use Rattle.expr_keys.specs.declared.productions.Production.{Production}
use Rattle.expr_keys.specs.declared.productions.Production.TheVariants as production
use Rattle.expr_keys.specs.declared.productions.Symbol.{Symbol}
use Rattle.expr_terms.specs.declared.raws.Raw.{Raw}
use Rattle.expr_terms.specs.declared.raws.Raw.TheVariants.{Leaf as leaf, Node as node}
use Rattle.expr_terms.specs.declared.raws.Raw.TheViews.{out-Raw}
use Rattle.expr_grammar.specs.Grammar.{Derives, by, Seq, Spells, SpellsType}
use Rattle.expr_grammar.specs.Grammar as grammar
use Rattle.expr_rules.specs.declared.expr_meant.meant.Meant.{Meant}
use Rattle.expr_resolve.specs.declared.setting.Setting.{Setting}
use Rattle.expr_resolve.specs.Tables.{act}
use Rattle.expr_resolve.specs.Folds.{value_of, broken_of, expr_meant, type_meant}
use Rattle.expr_rules.specs.declared.expr_shapes.shapes.Shape.{Shape}
use Rattle.expr_rules.specs.ExprShapes.Shapes.{own_shape, is_shaped, tag_in}
use Rattle.expr_rules.specs.ExprShapes.Shapes.{declares_nothing}
use Rattle.sound_expressions.specs.SoundForms.Sound.{is_sound_token, are_sound, SoundPrefixes}
use Rattle.sound_expressions.proofs.SoundForms.FormLemmas.{Fine}
use Rattle.sound_expressions.proofs.ExprRegular.Claims.{Kept, Claim, Good, Parts, ended, read, part}
use Rattle.sound_expressions.proofs.ExprRegular.Claims.{absent, present, over, more, alone, behind, Filled}
use Rattle.sound_expressions.proofs.ExprRegular.Claims.{token_is, test_named, test_kind}
use Rattle.sound_expressions.proofs.ExprRegular.Claims.{item_token, item_kind, type_item, piece_token, value_token}
use Rattle.sound_expressions.proofs.ExprRegular.Claims.{IfChain, IsAttr, IsType, kind_is, IsKind, IsNodeTest, IsItem}
use Rattle.sound_expressions.proofs.ExprRegular.Found.{shape_leaf, own_shaped, value_leaf}
use Rattle.sound_expressions.proofs.ExprRegular.Lists.{expr_fine}
use Rattle.sound_expressions.proofs.ExprRegular.Produced.{leaf_claim, node_claim, plain_claim, built}
use Rattle.sound_expressions.proofs.ExprRegular.Chains.{chain_good, else_good, parens_good, empty_good}
use Rattle.sound_expressions.proofs.ExprRegular.ControlForms.{sequence_good}
use Rattle.sound_expressions.proofs.ExprRegular.TypeShapes.{type_shaped}
use Rattle.sound_expressions.proofs.ExprRegular.PathProductions as paths
use Rattle.sound_expressions.proofs.ExprRegular.ControlProductions as control
use Rattle.sound_expressions.proofs.ExprRegular.ElementProductions as elements

kind_test : (m : Meant) → IsKind m → IsNodeTest m
kind_test _ (kind_is g) = test_kind g

kind_item : (m : Meant) → IsKind m → IsItem m
kind_item _ (kind_is g) = item_kind g

module _ (s : Setting) (u : SoundPrefixes s.prefixes) where
  -- a start of an attribute is no declaration of a namespace
  paired_free : (t : Token) (vs : List Raw) → Kept s (node production.AttributeValue (leaf t ∷ vs))
      → declares_nothing (tag_in t) ≡ true
  unfolding own_shape
  paired_free t vs k =
      subst (λ (x : Shape). declares_nothing x.tag ≡ true) (shape_leaf t)
      (own_shaped production.AttributeValue (leaf t ∷ vs) k.shaped)

  paired : (t : Token) (vs : List Raw) → Parts s (body production.AttributeValue) (leaf t ∷ vs)
      → Good s nonterminal.DirAttribute (node production.AttributeValue (leaf t ∷ vs))
  paired t vs q k =
      node_claim s production.AttributeValue nonterminal.DirAttribute (leaf t ∷ vs) refl refl q
      (λ f e. subst (λ m. Filled s production.AttributeValue true (body production.AttributeValue)
      (m ∷ map (value_of s) vs) → IsAttr (act s production.AttributeValue (m ∷ map (value_of s) vs)))
      (sym (value_leaf s t)) (λ g. elements.paired_made s u g (paired_free t vs k)) f) k

  -- a part that passes as it is
  kind_chain : (v : Raw) → Claim s nonterminal.KindTest v
      → IfChain s (as_inner_chain (out-Raw v)) (IsNodeTest (value_of s v))
  kind_chain v c = go (as_inner_chain (out-Raw v)) c.1
    where
      go : (o : Option (List Raw)) → IfChain s o (IsKind (value_of s v))
          → IfChain s o (IsNodeTest (value_of s v))
      go None x = kind_test (value_of s v) x
      go (Some vs) x = x

  kind_item_chain : (v : Raw) → Claim s nonterminal.KindTest v
      → IfChain s (as_inner_chain (out-Raw v)) (IsItem (value_of s v))
  kind_item_chain v c = go (as_inner_chain (out-Raw v)) c.1
    where
      go : (o : Option (List Raw)) → IfChain s o (IsKind (value_of s v))
          → IfChain s o (IsItem (value_of s v))
      go None x = kind_item (value_of s v) x
      go (Some vs) x = x

  item_chain : (v : Raw) → Claim s nonterminal.ItemType v
      → IfChain s (as_inner_chain (out-Raw v)) (IsType (value_of s v))
  item_chain v c = go (as_inner_chain (out-Raw v)) c.1
    where
      go : (o : Option (List Raw)) → IfChain s o (IsItem (value_of s v))
          → IfChain s o (IsType (value_of s v))
      go None x = type_item x
      go (Some vs) x = x

  produced : (p : Production) {vs : List Raw} → Parts s (body p) vs
      → Good s (head p) (build p vs)
  produced production.WholeExpr (part g ended) = g
  produced production.WholeSequenceType (part g ended) = g
  produced production.ExprList (part g (over ended)) = g
  produced production.ExprList (part {v = v} g (more {v = w} {vs = ws} h q)) =
      node_claim s production.ExprList nonterminal.Expr (v ∷ w ∷ ws) refl refl (part g (more h q))
      (λ f e. control.listing_made s u f)
  produced production.NextExprSingle (read t1 a b (part g ended)) = g
  produced production.ArgumentList q =
      plain_claim s production.ArgumentList nonterminal.Arguments refl refl refl refl q
      (λ ms f e. paths.argued_made s u f)
  produced production.IfExpr (read t1 a b (read t2 c d (part {v = t} g (read t3 e f (read t4 h i
      (part {v = v} j (part {v = l} k ended))))))) =
      chain_good s t v l g j k
  produced production.ElseExpr (read t1 a b (part {v = v} g ended)) = else_good s v g
  produced production.FlworExpr q =
      plain_claim s production.FlworExpr nonterminal.ExprSingle refl refl refl refl q
      (λ ms f e. control.flwor_made s u f)
  produced production.QuantifiedExpr q =
      plain_claim s production.QuantifiedExpr nonterminal.ExprSingle refl refl refl refl q
      (λ ms f e. control.quantified_made s u f)
  produced production.OperatorExpr (part g ended) = g
  produced production.ForClause q =
      plain_claim s production.ForClause nonterminal.Clause refl refl refl refl q
      (λ ms f e. control.for_clause_made s u f)
  produced production.LetClause q =
      plain_claim s production.LetClause nonterminal.Clause refl refl refl refl q
      (λ ms f e. control.let_clause_made s u f)
  produced production.FollowingClause (part g ended) = g
  produced production.ForIn q =
      plain_claim s production.ForIn nonterminal.ForBinding refl refl refl refl q
      (λ ms f e. control.bind_made s u f e)
  produced production.NextForBinding (read t1 a b (part g ended)) = g
  produced production.LetAssign q =
      plain_claim s production.LetAssign nonterminal.LetBinding refl refl refl refl q
      (λ ms f e. control.let_bind_made s u f)
  produced production.NextLetBinding (read t1 a b (part g ended)) = g
  produced production.QuantifiedIn q =
      plain_claim s production.QuantifiedIn nonterminal.QuantifiedBinding refl refl refl refl q
      (λ ms f e. control.quant_bind_made s u f)
  produced production.NextQuantifiedBinding (read t1 a b (part g ended)) = g
  produced production.AsType q =
      plain_claim s production.AsType nonterminal.TypeDeclaration refl refl refl refl q
      (λ ms f e. control.typed_made s u f)
  produced production.AtVariable q =
      plain_claim s production.AtVariable nonterminal.PositionalVar refl refl refl refl q
      (λ ms f e. control.placed_made s u f)
  produced production.WhereTest q =
      plain_claim s production.WhereTest nonterminal.WhereClause refl refl refl refl q
      (λ ms f e. control.where_made s u f)
  produced production.OrderBy q =
      plain_claim s production.OrderBy nonterminal.OrderByClause refl refl refl refl q
      (λ ms f e. control.ordered_made s u f)
  produced production.StableOrderBy q =
      plain_claim s production.StableOrderBy nonterminal.OrderByClause refl refl refl refl q
      (λ ms f e. control.stable_made s u f)
  produced production.OrderKey q =
      plain_claim s production.OrderKey nonterminal.OrderSpec refl refl refl refl q
      (λ ms f e. control.key_spec_made s u f)
  produced production.NextOrderSpec (read t1 a b (part g ended)) = g
  produced production.OrderDirection (read t a b ended) =
      λ k. leaf_claim s nonterminal.Direction t tt
  produced production.EmptyLeast q =
      plain_claim s production.EmptyLeast nonterminal.EmptyPart refl refl refl refl q (λ ms f e. tt)
  produced (production.OperatorChain level.Or) (part g (over ended)) = g
  produced (production.OperatorChain level.Or) (part {v = v} g (more {v = w} {vs = ws} h q)) =
      node_claim s (production.OperatorChain level.Or) (nonterminal.Level level.Or) (v ∷ w ∷ ws) refl
      refl (part g (more h q)) (λ f e. control.ors_made s u f)
  produced (production.OperatorChain level.And) (part g (over ended)) = g
  produced (production.OperatorChain level.And) (part {v = v} g (more {v = w} {vs = ws} h q)) =
      node_claim s (production.OperatorChain level.And) (nonterminal.Level level.And) (v ∷ w ∷ ws) refl
      refl (part g (more h q)) (λ f e. control.ands_made s u f)
  produced (production.OperatorChain level.Comparison) (part g (absent ended)) = g
  produced (production.OperatorChain level.Comparison) (part {v = v} g (present {v = w} h ended)) =
      node_claim s (production.OperatorChain level.Comparison) (nonterminal.Level level.Comparison) (v ∷ w ∷ [])
      refl refl (part g (present h ended)) (λ f e. control.compares_made s u f)
  produced (production.OperatorChain level.Range) (part g (absent ended)) = g
  produced (production.OperatorChain level.Range) (part {v = v} g (present {v = w} h ended)) =
      node_claim s (production.OperatorChain level.Range) (nonterminal.Level level.Range) (v ∷ w ∷ [])
      refl refl (part g (present h ended)) (λ f e. control.ranges_made s u f)
  produced (production.OperatorChain level.InstanceOf) (part g (absent ended)) = g
  produced (production.OperatorChain level.InstanceOf) (part {v = v} g (present {v = w} h ended)) =
      node_claim s (production.OperatorChain level.InstanceOf) (nonterminal.Level level.InstanceOf) (v ∷ w ∷ [])
      refl refl (part g (present h ended)) (λ f e. control.instances_made s u f)
  produced (production.OperatorChain level.Treat) (part g (absent ended)) = g
  produced (production.OperatorChain level.Treat) (part {v = v} g (present {v = w} h ended)) =
      node_claim s (production.OperatorChain level.Treat) (nonterminal.Level level.Treat) (v ∷ w ∷ [])
      refl refl (part g (present h ended)) (λ f e. control.treats_made s u f)
  produced (production.OperatorChain level.Castable) (part g (absent ended)) = g
  produced (production.OperatorChain level.Castable) (part {v = v} g (present {v = w} h ended)) =
      node_claim s (production.OperatorChain level.Castable) (nonterminal.Level level.Castable) (v ∷ w ∷ [])
      refl refl (part g (present h ended)) (λ f e. control.castables_made s u f)
  produced (production.OperatorChain level.Cast) (part g (absent ended)) = g
  produced (production.OperatorChain level.Cast) (part {v = v} g (present {v = w} h ended)) =
      node_claim s (production.OperatorChain level.Cast) (nonterminal.Level level.Cast) (v ∷ w ∷ [])
      refl refl (part g (present h ended)) (λ f e. control.casts_made s u f)
  produced (production.OperatorChain level.Additive) (part g (over ended)) = g
  produced (production.OperatorChain level.Additive) (part {v = v} g (more {v = w} {vs = ws} h q)) =
      node_claim s (production.OperatorChain level.Additive) (nonterminal.Level level.Additive)
      (v ∷ w ∷ ws) refl refl (part g (more h q)) (λ f e. control.adds_made s u f)
  produced (production.OperatorChain level.Multiplicative) (part g (over ended)) = g
  produced (production.OperatorChain level.Multiplicative) (part {v = v} g (more {v = w} {vs = ws} h q)) =
      node_claim s (production.OperatorChain level.Multiplicative) (nonterminal.Level level.Multiplicative)
      (v ∷ w ∷ ws) refl refl (part g (more h q)) (λ f e. control.multiplies_made s u f)
  produced (production.OperatorChain level.Union) (part g (over ended)) = g
  produced (production.OperatorChain level.Union) (part {v = v} g (more {v = w} {vs = ws} h q)) =
      node_claim s (production.OperatorChain level.Union) (nonterminal.Level level.Union)
      (v ∷ w ∷ ws) refl refl (part g (more h q)) (λ f e. control.unions_made s u f)
  produced (production.OperatorChain level.Intersect) (part g (over ended)) = g
  produced (production.OperatorChain level.Intersect) (part {v = v} g (more {v = w} {vs = ws} h q)) =
      node_claim s (production.OperatorChain level.Intersect) (nonterminal.Level level.Intersect)
      (v ∷ w ∷ ws) refl refl (part g (more h q)) (λ f e. control.crosses_made s u f)
  produced (production.OperatorTail l) q =
      plain_claim s (production.OperatorTail l) (nonterminal.Tail l) refl refl refl refl q
      (λ ms f e. control.operated_made s u l f)
  produced production.Signed q =
      plain_claim s production.Signed nonterminal.UnaryExpr refl refl refl refl q
      (λ ms f e. control.signed_made s u f)
  produced production.Unsigned (part g ended) = g
  produced production.Rooted (read t1 a b (alone ended)) =
      node_claim s production.Rooted nonterminal.PathExpr [] refl refl (read t1 a b (alone ended))
      (λ f e. paths.rooted_made s u)
  produced production.Rooted (read t1 a b (behind g ended)) = g
  produced production.RootedDeep q =
      plain_claim s production.RootedDeep nonterminal.PathExpr refl refl refl refl q
      (λ ms f e. paths.rooted_deep_made s u f)
  produced production.Unrooted (part g ended) = g
  produced production.RootSteps q =
      plain_claim s production.RootSteps nonterminal.AfterRoot refl refl refl refl q
      (λ ms f e. paths.root_steps_made s u f)
  produced production.Steps (part g (over ended)) = g
  produced production.Steps (part {v = v} g (more {v = w} {vs = ws} h q)) =
      node_claim s production.Steps nonterminal.RelativePathExpr (v ∷ w ∷ ws) refl refl (part g (more h q))
      (λ f e. paths.steps_made s u f)
  produced production.StepAfter q =
      plain_claim s production.StepAfter nonterminal.StepMore refl refl refl refl q
      (λ ms f e. paths.step_after_made s u f)
  produced production.DeepAfter q =
      plain_claim s production.DeepAfter nonterminal.StepMore refl refl refl refl q
      (λ ms f e. paths.deep_after_made s u f)
  produced production.AxisStep q =
      plain_claim s production.AxisStep nonterminal.StepExpr refl refl refl refl q
      (λ ms f e. paths.axis_step_made s u f)
  produced production.AttributeStep q =
      plain_claim s production.AttributeStep nonterminal.StepExpr refl refl refl refl q
      (λ ms f e. paths.attribute_step_made s u f)
  produced production.TestStep q =
      plain_claim s production.TestStep nonterminal.StepExpr refl refl refl refl q
      (λ ms f e. paths.test_step_made s u f)
  produced production.ParentStep q =
      plain_claim s production.ParentStep nonterminal.StepExpr refl refl refl refl q
      (λ ms f e. paths.parent_step_made s u f)
  produced production.FilterStep (part g (over ended)) = g
  produced production.FilterStep (part {v = v} g (more {v = w} {vs = ws} h q)) =
      node_claim s production.FilterStep nonterminal.StepExpr (v ∷ w ∷ ws) refl refl
      (part g (more h q)) (λ f e. paths.filter_step_made s u f)
  produced production.Predicated (read t1 a b (part g (read t2 c d ended))) = g
  produced production.NameTested (read t a b ended) =
      λ k. leaf_claim s nonterminal.NodeTest t (test_named a b)
  produced production.KindTested (part {v = v} g ended) =
      λ k. (kind_test (value_of s v) (g k).0, kind_chain v (g k))
  produced production.PlainKind q =
      plain_claim s production.PlainKind nonterminal.KindTest refl refl refl refl q
      (λ ms f e. paths.plain_kind_made s u f)
  produced production.PiKind q =
      plain_claim s production.PiKind nonterminal.KindTest refl refl refl refl q
      (λ ms f e. paths.pi_kind_made s u f)
  produced production.PiNamed (read t a b ended) =
      λ k. leaf_claim s nonterminal.PiArgument t (token_is a b)
  produced production.NamedKind q =
      plain_claim s production.NamedKind nonterminal.KindTest refl refl refl refl q
      (λ ms f e. paths.named_kind_made s u f)
  produced production.KindNamed (read t a b ended) =
      λ k. leaf_claim s nonterminal.NamedArgument t (token_is a b)
  produced production.Number q =
      plain_claim s production.Number nonterminal.PrimaryExpr refl refl refl refl q
      (λ ms f e. paths.number_made s u f)
  produced production.Literal q =
      plain_claim s production.Literal nonterminal.PrimaryExpr refl refl refl refl q
      (λ ms f e. paths.literal_made s u f)
  produced production.Variable q =
      plain_claim s production.Variable nonterminal.PrimaryExpr refl refl refl refl q
      (λ ms f e. paths.variable_made s u f)
  produced production.Parens (read t1 a b (absent (read t2 c d ended))) = empty_good s u
  produced production.Parens (read t1 a b (present {v = v} g (read t2 c d ended))) =
      parens_good s u v g
  produced production.Context (read t1 a b ended) =
      node_claim s production.Context nonterminal.PrimaryExpr [] refl refl (read t1 a b ended)
      (λ f e. paths.context_made s u)
  produced production.Call q =
      plain_claim s production.Call nonterminal.PrimaryExpr refl refl refl refl q
      (λ ms f e. paths.call_made s u f e)
  produced production.Computed q =
      plain_claim s production.Computed nonterminal.PrimaryExpr refl refl refl refl q
      (λ ms f e. elements.computed_made s u f)
  produced production.Constructed q =
      plain_claim s production.Constructed nonterminal.PrimaryExpr refl refl refl refl q
      (λ ms f e. elements.constructed_made s u f)
  produced production.PiConstructed q =
      plain_claim s production.PiConstructed nonterminal.PrimaryExpr refl refl refl refl q
      (λ ms f e. elements.pi_constructed_made s u f)
  produced production.Enclosing q =
      plain_claim s production.Enclosing nonterminal.PrimaryExpr refl refl refl refl q
      (λ ms f e. elements.enclosing_made s u f)
  produced production.DirectConstructor (part g ended) = g
  produced production.EmptyType (read t1 a b (read t2 c d (read t3 e f ended))) =
      node_claim s production.EmptyType nonterminal.SequenceType [] refl refl
      (read t1 a b (read t2 c d (read t3 e f ended))) (λ f e. control.empty_type_made s u)
  produced production.ItemsType (part {v = v} g (alone ended)) =
      λ k. (type_item (g k).0, item_chain v (g k))
  produced production.ItemsType (part {v = v} g (behind {v = w} h ended)) =
      node_claim s production.ItemsType nonterminal.SequenceType (v ∷ w ∷ []) refl refl
      (part g (behind h ended)) (λ f e. control.items_made s u f)
  produced production.OccurrenceMark (read t a b ended) =
      λ k. leaf_claim s nonterminal.OccurrenceIndicator t tt
  produced production.AnyItem (read t1 a b (read t2 c d (read t3 e f ended))) =
      node_claim s production.AnyItem nonterminal.ItemType [] refl refl
      (read t1 a b (read t2 c d (read t3 e f ended))) (λ f e. control.any_item_made s u)
  produced production.KindItem (part {v = v} g ended) =
      λ k. (kind_item (value_of s v) (g k).0, kind_item_chain v (g k))
  produced production.AtomicItem (read t a b ended) =
      λ k. leaf_claim s nonterminal.ItemType t item_token
  produced production.SingleAtomicType q =
      plain_claim s production.SingleAtomicType nonterminal.SingleType refl refl refl refl q
      (λ ms f e. control.one_type_made s u f)
  produced production.QuestionMark q =
      plain_claim s production.QuestionMark nonterminal.QuestionPart refl refl refl refl q
      (λ ms f e. tt)
  produced production.DirectElement q =
      plain_claim s production.DirectElement nonterminal.DirElemConstructor refl refl refl refl q
      (λ ms f e. elements.element_made s u f)
  produced production.ElementContent q =
      plain_claim s production.ElementContent nonterminal.DirElemClosing refl refl refl refl q
      (λ ms f e. elements.full_made s u f)
  produced production.EmptyElement (read t1 a b ended) =
      node_claim s production.EmptyElement nonterminal.DirElemClosing [] refl refl (read t1 a b ended)
      (λ f e. elements.no_content_made s u)
  produced production.AttributeValue (read t {vs = vs} a b q) =
      subst (λ v. Kept s v → Claim s nonterminal.DirAttribute v)
      (sym (built s production.AttributeValue (leaf t ∷ vs) refl refl refl refl)) (paired t vs (read t a b q))
  produced production.PartChars (read t a b ended) =
      λ k. leaf_claim s nonterminal.AttrValueContent t (value_token b)
  produced production.PartEnclosed q =
      plain_claim s production.PartEnclosed nonterminal.AttrValueContent refl refl refl refl q
      (λ ms f e. elements.part_enclosed_made s u f)
  produced production.ChildElement q =
      plain_claim s production.ChildElement nonterminal.DirElemContent refl refl refl refl q
      (λ ms f e. elements.child_made s u f)
  produced production.ItemChars (read t a b ended) =
      λ k. leaf_claim s nonterminal.DirElemContent t (piece_token b)
  produced production.ItemEnclosed q =
      plain_claim s production.ItemEnclosed nonterminal.DirElemContent refl refl refl refl q
      (λ ms f e. elements.item_enclosed_made s u f)

-- what is left is sound too
mutual
  left_sound : {l : Language} {n : Nonterminal} {ts rest : List Token} {v : Raw}
      → Derives l n ts v rest → are_sound ts ≡ true → are_sound rest ≡ true
  left_sound (by p o e q) a = rest_sound q a

  rest_sound : {l : Language} {ss : List Symbol} {ts rest : List Token} {vs : List Raw}
      → Seq l ss ts vs rest → are_sound ts ≡ true → are_sound rest ≡ true
  rest_sound grammar.end a = a
  rest_sound (grammar.taken {t = t} {ts = ts} f q) a =
      rest_sound q (and_parts (is_sound_token t) (are_sound ts) a).1
  rest_sound (grammar.next d q) a = rest_sound q (left_sound d a)
  rest_sound (grammar.without q) a = rest_sound q a
  rest_sound (grammar.with d q) a = rest_sound q (left_sound d a)
  rest_sound (grammar.stop q) a = rest_sound q a
  rest_sound (grammar.again d q) a = rest_sound q (left_sound d a)
  rest_sound (grammar.bare h q) a = rest_sound q a
  rest_sound (grammar.given h d q) a = rest_sound q (left_sound d a)

module _ (s : Setting) (u : SoundPrefixes s.prefixes) where
  mutual
    derived : {l : Language} {n : Nonterminal} {ts rest : List Token} {v : Raw}
        → Derives l n ts v rest → are_sound ts ≡ true → Good s n v
    derived (by p {vs = vs} o e q) a =
        subst (λ n. Good s n (build p vs)) e (produced s u p (parted q a))

    parted : {l : Language} {ss : List Symbol} {ts rest : List Token} {vs : List Raw}
        → Seq l ss ts vs rest → are_sound ts ≡ true → Parts s ss vs
    parted grammar.end a = ended
    parted (grammar.taken {t = t} {ts = ts} f q) a =
        let h = and_parts (is_sound_token t) (are_sound ts) a in read t f h.0 (parted q h.1)
    parted (grammar.next d q) a = part (derived d a) (parted q (left_sound d a))
    parted (grammar.without q) a = absent (parted q a)
    parted (grammar.with d q) a = present (derived d a) (parted q (left_sound d a))
    parted (grammar.stop q) a = over (parted q a)
    parted (grammar.again d q) a = more (derived d a) (parted q (left_sound d a))
    parted (grammar.bare h q) a = alone (parted q a)
    parted (grammar.given h d q) a = behind (derived d a) (parted q (left_sound d a))

  good_expr : (v : Raw) → Fine (expr_meant s v) → is_good_expr (expr_meant s v) ≡ true
  unfolding is_good_expr
  good_expr v f = rw (f.regular, f.sound) refl

  pub whole_good : {l : Language} {ts : List Token} {v : Raw} → are_sound ts ≡ true
      → Spells l ts v → is_shaped v ≡ true → broken_of s v ≡ []
      → is_good_expr (expr_meant s v) ≡ true
  whole_good {v = v} a d h b =
      good_expr v (expr_fine (value_of s v)
      (derived d a (record { unbroken = b; shaped = h })).0)

  pub single_good : {l : Language} {ts : List Token} {v : Raw} → are_sound ts ≡ true
      → Derives l nonterminal.ExprSingle ts v [] → is_shaped v ≡ true → broken_of s v ≡ []
      → is_good_expr (expr_meant s v) ≡ true
  single_good {v = v} a d h b =
      good_expr v (expr_fine (value_of s v)
      (derived d a (record { unbroken = b; shaped = h })).0)

  pub type_regular : {l : Language} {ts : List Token} {v : Raw} → are_sound ts ≡ true
      → SpellsType l ts v → broken_of s v ≡ [] → is_regular_type (type_meant s v) ≡ true
  type_regular {l = l} {v = v} a d b =
      (sequence_good s.prefixes.bound (value_of s v)
      (derived d a (record { unbroken = b; shaped = type_shaped l d })).0).regular

  pub type_sound : {l : Language} {ts : List Token} {v : Raw} → are_sound ts ≡ true
      → SpellsType l ts v → broken_of s v ≡ [] → is_sound_type (type_meant s v) ≡ true
  type_sound {l = l} {v = v} a d b =
      (sequence_good s.prefixes.bound (value_of s v)
      (derived d a (record { unbroken = b; shaped = type_shaped l d })).0).sound
