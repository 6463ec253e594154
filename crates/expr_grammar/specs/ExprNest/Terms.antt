-- What the table speaks of, under its names in the specs.
pub use Rattle.expr_keys.specs.declared.productions.Language.{Language}
pub use Rattle.expr_keys.specs.declared.productions.Language.TheVariants.{Xpath as xpath, Xquery as xquery}
pub use Rattle.expr_keys.specs.declared.productions.Level.{Level}
pub use Rattle.expr_keys.specs.declared.productions.Level.TheVariants.{Or as or_level, And as and_level, Comparison as comparison_level, Range as range_level, Additive as additive_level, Multiplicative as multiplicative_level, Union as union_level, Intersect as intersect_level, InstanceOf as instance_of_level, Treat as treat_level, Castable as castable_level, Cast as cast_level}
pub use Rattle.expr_keys.specs.declared.productions.Nonterminal.{Nonterminal}
pub use Rattle.expr_keys.specs.declared.productions.Nonterminal.TheVariants.{Whole as whole, WholeType as whole_type, Expr as expr, CommaExprSingle as comma_expr_single, Arguments as arguments, ExprSingle as expr_single, ElsePart as else_part, Clause as clause, NextClause as next_clause, ForBinding as for_binding, CommaForBinding as comma_for_binding, LetBinding as let_binding, CommaLetBinding as comma_let_binding, QuantifiedBinding as quantified_binding, CommaQuantifiedBinding as comma_quantified_binding, TypeDeclaration as type_declaration, PositionalVar as positional_var, WhereClause as where_clause, OrderByClause as order_by_clause, OrderSpec as order_spec, CommaOrderSpec as comma_order_spec, Direction as direction, EmptyPart as empty_part, Level as level, Tail as tail, UnaryExpr as unary_expr, PathExpr as path_expr, AfterRoot as after_root, RelativePathExpr as relative_path_expr, StepMore as step_more, StepExpr as step_expr, Predicate as predicate, NodeTest as node_test, KindTest as kind_test, PiArgument as pi_argument, NamedArgument as named_argument, PrimaryExpr as primary_expr, SequenceType as sequence_type, ItemType as item_type, OccurrenceIndicator as occurrence_indicator, SingleType as single_type, QuestionPart as question_part, DirElemConstructor as dir_elem_constructor, DirElemClosing as dir_elem_closing, DirAttribute as dir_attribute, AttrValueContent as attr_value_content, DirElemContent as dir_elem_content}
pub use Rattle.expr_keys.specs.declared.productions.Class.{Class}
pub use Rattle.expr_keys.specs.declared.productions.Class.TheVariants.{Key as key, Sign as sign_class, Mark as mark_class, Way as way_class, Quantifier as quantifier_class, PlainKind as plain_class, NamedKind as named_class, Encloser as enclosing_class, Maker as maker_class, Operator as operator, Digits as digits, Quoted as quoted, Axis as axis, Word as word, Name as name, Function as function, NameTest as name_test, Target as target, NameOrStar as name_or_star, StartTagOpen as start_tag_open, ChildTagOpen as child_tag_open, EndTag as end_tag, Attribute as attribute, AttributeEnd as attribute_end, TagEnd as tag_end, EmptyEnd as empty_end, Chars as chars, EnclosedOpen as enclosed_open}
pub use Rattle.expr_keys.specs.declared.productions.Symbol.{Symbol}
pub use Rattle.expr_keys.specs.declared.productions.Symbol.TheVariants.{Tok as tok, One as one, Maybe as maybe, Many as many, Longest as longest}
pub use Rattle.expr_keys.specs.declared.productions.Production.{Production}
pub use Rattle.expr_keys.specs.declared.productions.Production.TheVariants.{WholeExpr as whole_expr, WholeSequenceType as whole_sequence_type, ExprList as expr_list, NextExprSingle as next_expr_single, ArgumentList as argument_list, IfExpr as if_expr, ElseExpr as else_expr, FlworExpr as flwor_expr, QuantifiedExpr as quantified_expr, OperatorExpr as operator_expr, ForClause as for_clause, LetClause as let_clause, FollowingClause as following_clause, ForIn as for_in, NextForBinding as next_for_binding, LetAssign as let_assign, NextLetBinding as next_let_binding, QuantifiedIn as quantified_in, NextQuantifiedBinding as next_quantified_binding, AsType as as_type, AtVariable as at_variable, WhereTest as where_test, OrderBy as order_by, StableOrderBy as stable_order_by, OrderKey as order_key, NextOrderSpec as next_order_spec, OrderDirection as order_direction, EmptyLeast as empty_least, OperatorChain as operator_chain, OperatorTail as operator_tail, Signed as signed, Unsigned as unsigned, Rooted as rooted, RootedDeep as rooted_deep, Unrooted as unrooted, RootSteps as root_steps, Steps as steps, StepAfter as step_after, DeepAfter as deep_after, AxisStep as axis_step, AttributeStep as attribute_step, TestStep as test_step, ParentStep as parent_step, FilterStep as filter_step, Predicated as predicated, NameTested as name_tested, KindTested as kind_tested, PlainKind as plain_kind, PiKind as pi_kind, PiNamed as pi_named, NamedKind as named_kind, KindNamed as kind_named, Number as number, Literal as literal, Variable as variable, Parens as parens, Context as context, Call as call, Computed as computed, Constructed as constructed, PiConstructed as pi_constructed, Enclosing as enclosing, DirectConstructor as direct_constructor, EmptyType as empty_type, ItemsType as items_type, OccurrenceMark as occurrence_mark, AnyItem as any_item, KindItem as kind_item, AtomicItem as atomic_item, SingleAtomicType as single_atomic_type, QuestionMark as question_mark, DirectElement as direct_element, ElementContent as element_content, EmptyElement as empty_element, AttributeValue as attribute_value, PartChars as part_chars, PartEnclosed as part_enclosed, ChildElement as child_element, ItemChars as item_chars, ItemEnclosed as item_enclosed}
