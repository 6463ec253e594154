-- Which tokens a class has, and the names of what the tables of the grammar speak of (XPath 2.0, A.1; XQuery 1.0, A.1).
use Rattle.std.specs.Prelude.{ℕ, pos, int_le, nat_eq, Bool, true, false, ◌||◌, if◌then◌else◌, List, [], ◌∷◌}
use Rattle.expr_keys.specs.Keys.{Key, open_paren, dot, dots, at_sign, plus, minus, star, dollar, question, some_word, every_word, ascending_word, descending_word, document_word, attribute_word, comment_word, document_node_word, element_word, node_word, pi_word, text_word}
use Rattle.expr_keys.specs.TokenNames as token
use Rattle.expr_keys.specs.Tokens.{Token, binding_power, fits_name, fits_word, fits_axis, fits_function, fits_wild, fits_key}
pub use Rattle.expr_keys.specs.declared.productions.Language.{Language}
pub use Rattle.expr_keys.specs.declared.productions.Language.TheVariants.{Xpath as xpath, Xquery as xquery}
pub use Rattle.expr_keys.specs.declared.productions.Level.{Level}
pub use Rattle.expr_keys.specs.declared.productions.Level.TheVariants.{Or as or_level, And as and_level, Comparison as comparison_level, Range as range_level, Additive as additive_level, Multiplicative as multiplicative_level, Union as union_level, Intersect as intersect_level, InstanceOf as instance_of_level, Treat as treat_level, Castable as castable_level, Cast as cast_level}
pub use Rattle.expr_keys.specs.declared.productions.Nonterminal.{Nonterminal}
pub use Rattle.expr_keys.specs.declared.productions.Nonterminal.TheVariants.{Whole as whole, WholeType as whole_type, Expr as expr, CommaExprSingle as comma_expr_single, Arguments as arguments, ExprSingle as expr_single, ElsePart as else_part, Clause as clause, NextClause as next_clause, ForBinding as for_binding, CommaForBinding as comma_for_binding, LetBinding as let_binding, CommaLetBinding as comma_let_binding, QuantifiedBinding as quantified_binding, CommaQuantifiedBinding as comma_quantified_binding, TypeDeclaration as type_declaration, PositionalVar as positional_var, WhereClause as where_clause, OrderByClause as order_by_clause, OrderSpec as order_spec, CommaOrderSpec as comma_order_spec, Direction as direction, EmptyPart as empty_part, Level as level, Tail as tail, UnaryExpr as unary_expr, PathExpr as path_expr, AfterRoot as after_root, RelativePathExpr as relative_path_expr, StepMore as step_more, StepExpr as step_expr, Predicate as predicate, NodeTest as node_test, KindTest as kind_test, PiArgument as pi_argument, NamedArgument as named_argument, PrimaryExpr as primary_expr, SequenceType as sequence_type, ItemType as item_type, OccurrenceIndicator as occurrence_indicator, SingleType as single_type, QuestionPart as question_part, DirElemConstructor as dir_elem_constructor, DirElemClosing as dir_elem_closing, DirAttribute as dir_attribute, AttrValueContent as attr_value_content, DirElemContent as dir_elem_content}
pub use Rattle.expr_keys.specs.declared.productions.Class.{Class}
pub use Rattle.expr_keys.specs.declared.productions.Class.TheVariants.{Key as key, Sign as sign_class, Mark as mark_class, Way as way_class, Quantifier as quantifier_class, PlainKind as plain_class, NamedKind as named_class, Encloser as enclosing_class, Maker as maker_class, Operator as operator, Digits as digits, Quoted as quoted, Axis as axis, Word as word, Name as name, Function as function, NameTest as name_test, Target as target, NameOrStar as name_or_star, StartTagOpen as start_tag_open, ChildTagOpen as child_tag_open, EndTag as end_tag, Attribute as attribute, AttributeEnd as attribute_end, TagEnd as tag_end, EmptyEnd as empty_end, Chars as chars, EnclosedOpen as enclosed_open}
pub use Rattle.expr_keys.specs.declared.productions.Symbol.{Symbol}
pub use Rattle.expr_keys.specs.declared.productions.Symbol.TheVariants.{Tok as tok, One as one, Maybe as maybe, Many as many, Longest as longest}
pub use Rattle.expr_keys.specs.declared.productions.Production.{Production}
pub use Rattle.expr_keys.specs.declared.productions.Production.TheVariants.{WholeExpr as whole_expr, WholeSequenceType as whole_sequence_type, ExprList as expr_list, NextExprSingle as next_expr_single, ArgumentList as argument_list, IfExpr as if_expr, ElseExpr as else_expr, FlworExpr as flwor_expr, QuantifiedExpr as quantified_expr, OperatorExpr as operator_expr, ForClause as for_clause, LetClause as let_clause, FollowingClause as following_clause, ForIn as for_in, NextForBinding as next_for_binding, LetAssign as let_assign, NextLetBinding as next_let_binding, QuantifiedIn as quantified_in, NextQuantifiedBinding as next_quantified_binding, AsType as as_type, AtVariable as at_variable, WhereTest as where_test, OrderBy as order_by, StableOrderBy as stable_order_by, OrderKey as order_key, NextOrderSpec as next_order_spec, OrderDirection as order_direction, EmptyLeast as empty_least, OperatorChain as operator_chain, OperatorTail as operator_tail, Signed as signed, Unsigned as unsigned, Rooted as rooted, RootedDeep as rooted_deep, Unrooted as unrooted, RootSteps as root_steps, Steps as steps, StepAfter as step_after, DeepAfter as deep_after, AxisStep as axis_step, AttributeStep as attribute_step, TestStep as test_step, ParentStep as parent_step, FilterStep as filter_step, Predicated as predicated, NameTested as name_tested, KindTested as kind_tested, PlainKind as plain_kind, PiKind as pi_kind, PiNamed as pi_named, NamedKind as named_kind, KindNamed as kind_named, Number as number, Literal as literal, Variable as variable, Parens as parens, Context as context, Call as call, Computed as computed, Constructed as constructed, PiConstructed as pi_constructed, Enclosing as enclosing, DirectConstructor as direct_constructor, EmptyType as empty_type, ItemsType as items_type, OccurrenceMark as occurrence_mark, AnyItem as any_item, KindItem as kind_item, AtomicItem as atomic_item, SingleAtomicType as single_atomic_type, QuestionMark as question_mark, DirectElement as direct_element, ElementContent as element_content, EmptyElement as empty_element, AttributeValue as attribute_value, PartChars as part_chars, PartEnclosed as part_enclosed, ChildElement as child_element, ItemChars as item_chars, ItemEnclosed as item_enclosed}

-- the binding power of the operators of the level
abbrev pub tight : Level → ℕ
tight or_level = 14
tight and_level = 13
tight comparison_level = 12
tight range_level = 11
tight additive_level = 10
tight multiplicative_level = 9
tight union_level = 8
tight intersect_level = 7
tight instance_of_level = 6
tight treat_level = 5
tight castable_level = 4
tight cast_level = 3

abbrev pub fits_any : List Key → Token → Bool
fits_any [] t = false
fits_any (a ∷ more) t = fits_key a t || fits_any more t

-- the keys of a class
abbrev pub keys_of : Class → List Key
keys_of sign_class = plus ∷ minus ∷ []
keys_of mark_class = question ∷ star ∷ plus ∷ []
keys_of way_class = ascending_word ∷ descending_word ∷ []
keys_of quantifier_class = some_word ∷ every_word ∷ []
keys_of plain_class = node_word ∷ text_word ∷ comment_word ∷ document_node_word ∷ []
keys_of named_class = element_word ∷ attribute_word ∷ []
keys_of enclosing_class = document_word ∷ text_word ∷ comment_word ∷ []
keys_of maker_class = element_word ∷ attribute_word ∷ pi_word ∷ []
keys_of _ = []

abbrev pub fits_digits : Token → Bool
fits_digits (token.digits n) = int_le (pos 0) n
fits_digits _ = false

abbrev pub fits_quoted : Token → Bool
fits_quoted (token.quoted cs) = true
fits_quoted _ = false

abbrev pub fits_piece : Class → Token → Bool
fits_piece attribute (token.attribute p n) = true
fits_piece start_tag_open (token.start_tag_open p n) = true
fits_piece child_tag_open (token.child_tag_open p n) = true
fits_piece end_tag (token.end_tag p n) = true
fits_piece attribute_end token.attribute_end = true
fits_piece tag_end token.tag_end = true
fits_piece empty_end token.empty_end = true
fits_piece chars (token.chars cs b) = true
fits_piece enclosed_open token.enclosed_open = true
fits_piece _ _ = false

-- whether the token is of the class
abbrev pub fits : Class → Token → Bool
fits (key k) t = fits_key k t
fits sign_class t = fits_any (keys_of sign_class) t
fits mark_class t = fits_any (keys_of mark_class) t
fits way_class t = fits_any (keys_of way_class) t
fits quantifier_class t = fits_any (keys_of quantifier_class) t
fits plain_class t = fits_any (keys_of plain_class) t
fits named_class t = fits_any (keys_of named_class) t
fits enclosing_class t = fits_any (keys_of enclosing_class) t
fits maker_class t = fits_any (keys_of maker_class) t
fits (operator l) t = nat_eq (binding_power t) (tight l)
fits digits t = fits_digits t
fits quoted t = fits_quoted t
fits axis t = fits_axis t
fits word t = fits_word t
fits name t = fits_name t
fits function t = fits_function t
fits name_test t = fits_name t || fits_wild t
fits target t = fits_word t || fits_quoted t
fits name_or_star t = fits_name t || fits_key star t
fits start_tag_open t = fits_piece start_tag_open t
fits child_tag_open t = fits_piece child_tag_open t
fits end_tag t = fits_piece end_tag t
fits attribute t = fits_piece attribute t
fits attribute_end t = fits_piece attribute_end t
fits tag_end t = fits_piece tag_end t
fits empty_end t = fits_piece empty_end t
fits chars t = fits_piece chars t
fits enclosed_open t = fits_piece enclosed_open t

-- whether the token can begin a step
abbrev pub begins_step : Token → Bool
begins_step t = fits_name t || fits_wild t || fits_digits t || fits_quoted t || fits_any (dollar ∷ open_paren ∷ dot ∷ dots ∷ at_sign ∷ []) t || fits_piece start_tag_open t

abbrev pub is_after_root : Nonterminal → Bool
is_after_root after_root = true
is_after_root _ = false

-- whether the token can begin a step, or is a mark
abbrev pub begins : Nonterminal → Token → Bool
begins n t = if is_after_root n then begins_step t else fits mark_class t
