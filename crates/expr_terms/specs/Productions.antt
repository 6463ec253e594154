-- The grammar of XPath expressions and of the expressions of queries as a table of productions (XPath 2.0, A.1; XQuery 1.0, A.1).
use Rattle.std.specs.Prelude.{Bool, true, false, if◌then◌else◌, List, [], ◌∷◌}
use Rattle.expr_keys.specs.declared.keys.Key.TheVariants.{OpenParen as open_paren, CloseParen as close_paren, OpenBracket as open_bracket, CloseBracket as close_bracket, OpenBrace as open_brace, CloseBrace as close_brace, Comma as comma, Dot as dot, Dots as dots, Slash as slash, Slashes as slashes, AtSign as at_sign, Colons as colons, Dollar as dollar, Question as question, Assign as assign, IfWord as if_word, ThenWord as then_word, ElseWord as else_word, ForWord as for_word, InWord as in_word, ReturnWord as return_word, SatisfiesWord as satisfies_word, LetWord as let_word, AtWord as at_word, WhereWord as where_word, OrderWord as order_word, ByWord as by_word, StableWord as stable_word, EmptyWord as empty_word, LeastWord as least_word, AsWord as as_word, OfWord as of_word, InstanceWord as instance_word, TreatWord as treat_word, CastableWord as castable_word, CastWord as cast_word, EmptySequenceWord as empty_sequence_word, ItemWord as item_word, ProcessingInstructionWord as pi_word}
pub use Rattle.expr_keys.specs.declared.productions.Language.{Language}
pub use Rattle.expr_keys.specs.declared.productions.Language.TheVariants.{Xpath as xpath, Xquery as xquery}
pub use Rattle.expr_keys.specs.declared.productions.Level.{Level}
pub use Rattle.expr_keys.specs.declared.productions.Level.TheVariants.{Or as or_level, And as and_level, Comparison as comparison_level, Range as range_level, Additive as additive_level, Multiplicative as multiplicative_level, Union as union_level, Intersect as intersect_level, InstanceOf as instance_of_level, Treat as treat_level, Castable as castable_level, Cast as cast_level}
pub use Rattle.expr_keys.specs.declared.productions.Nonterminal.{Nonterminal}
pub use Rattle.expr_keys.specs.declared.productions.Nonterminal.TheVariants.{Whole as whole, WholeType as whole_type, Expr as expr, CommaExprSingle as comma_expr_single, Arguments as arguments, ExprSingle as expr_single, ElsePart as else_part, Clause as clause, NextClause as next_clause, ForBinding as for_binding, CommaForBinding as comma_for_binding, LetBinding as let_binding, CommaLetBinding as comma_let_binding, QuantifiedBinding as quantified_binding, CommaQuantifiedBinding as comma_quantified_binding, TypeDeclaration as type_declaration, PositionalVar as positional_var, WhereClause as where_clause, OrderByClause as order_by_clause, OrderSpec as order_spec, CommaOrderSpec as comma_order_spec, Direction as direction, EmptyPart as empty_part, Level as level, Tail as tail, UnaryExpr as unary_expr, PathExpr as path_expr, AfterRoot as after_root, RelativePathExpr as relative_path_expr, StepMore as step_more, StepExpr as step_expr, Predicate as predicate, NodeTest as node_test, KindTest as kind_test, PiArgument as pi_argument, NamedArgument as named_argument, PrimaryExpr as primary_expr, SequenceType as sequence_type, ItemType as item_type, OccurrenceIndicator as occurrence_indicator, SingleType as single_type, QuestionPart as question_part, DirElemConstructor as dir_elem_constructor, DirElemClosing as dir_elem_closing, DirAttribute as dir_attribute, AttrValueContent as attr_value_content, DirElemContent as dir_elem_content}
pub use Rattle.expr_keys.specs.declared.productions.Class.{Class}
pub use Rattle.expr_keys.specs.declared.productions.Class.TheVariants.{Key as key, Sign as sign_class, Mark as mark_class, Way as way_class, Quantifier as quantifier_class, PlainKind as plain_class, NamedKind as named_class, Encloser as enclosing_class, Maker as maker_class, Operator as operator, Digits as digits, Quoted as quoted, Axis as axis, Word as word, Name as name, Function as function, NameTest as name_test, Target as target, NameOrStar as name_or_star, StartTagOpen as start_tag_open, ChildTagOpen as child_tag_open, EndTag as end_tag, Attribute as attribute, AttributeEnd as attribute_end, TagEnd as tag_end, EmptyEnd as empty_end, Chars as chars, EnclosedOpen as enclosed_open}
pub use Rattle.expr_keys.specs.declared.productions.Symbol.{Symbol}
pub use Rattle.expr_keys.specs.declared.productions.Symbol.TheVariants.{Tok as tok, One as one, Maybe as maybe, Many as many, Longest as longest}
pub use Rattle.expr_keys.specs.declared.productions.Production.{Production}
pub use Rattle.expr_keys.specs.declared.productions.Production.TheVariants.{WholeExpr as whole_expr, WholeSequenceType as whole_sequence_type, ExprList as expr_list, NextExprSingle as next_expr_single, ArgumentList as argument_list, IfExpr as if_expr, ElseExpr as else_expr, FlworExpr as flwor_expr, QuantifiedExpr as quantified_expr, OperatorExpr as operator_expr, ForClause as for_clause, LetClause as let_clause, FollowingClause as following_clause, ForIn as for_in, NextForBinding as next_for_binding, LetAssign as let_assign, NextLetBinding as next_let_binding, QuantifiedIn as quantified_in, NextQuantifiedBinding as next_quantified_binding, AsType as as_type, AtVariable as at_variable, WhereTest as where_test, OrderBy as order_by, StableOrderBy as stable_order_by, OrderKey as order_key, NextOrderSpec as next_order_spec, OrderDirection as order_direction, EmptyLeast as empty_least, OperatorChain as operator_chain, OperatorTail as operator_tail, Signed as signed, Unsigned as unsigned, Rooted as rooted, RootedDeep as rooted_deep, Unrooted as unrooted, RootSteps as root_steps, Steps as steps, StepAfter as step_after, DeepAfter as deep_after, AxisStep as axis_step, AttributeStep as attribute_step, TestStep as test_step, ParentStep as parent_step, FilterStep as filter_step, Predicated as predicated, NameTested as name_tested, KindTested as kind_tested, PlainKind as plain_kind, PiKind as pi_kind, PiNamed as pi_named, NamedKind as named_kind, KindNamed as kind_named, Number as number, Literal as literal, Variable as variable, Parens as parens, Context as context, Call as call, Computed as computed, Constructed as constructed, PiConstructed as pi_constructed, Enclosing as enclosing, DirectConstructor as direct_constructor, EmptyType as empty_type, ItemsType as items_type, OccurrenceMark as occurrence_mark, AnyItem as any_item, KindItem as kind_item, AtomicItem as atomic_item, SingleAtomicType as single_atomic_type, QuestionMark as question_mark, DirectElement as direct_element, ElementContent as element_content, EmptyElement as empty_element, AttributeValue as attribute_value, PartChars as part_chars, PartEnclosed as part_enclosed, ChildElement as child_element, ItemChars as item_chars, ItemEnclosed as item_enclosed}

-- whether operators of the level follow one another
abbrev pub repeats : Level → Bool
repeats comparison_level = false
repeats range_level = false
repeats instance_of_level = false
repeats treat_level = false
repeats castable_level = false
repeats cast_level = false
repeats _ = true

-- what stands below the level
abbrev pub below : Level → Nonterminal
below or_level = level and_level
below and_level = level comparison_level
below comparison_level = level range_level
below range_level = level additive_level
below additive_level = level multiplicative_level
below multiplicative_level = level union_level
below union_level = level intersect_level
below intersect_level = level instance_of_level
below instance_of_level = level treat_level
below treat_level = level castable_level
below castable_level = level cast_level
below cast_level = unary_expr

abbrev pub operation : Level → List Symbol
operation instance_of_level = tok (key instance_word) ∷ tok (key of_word) ∷ one sequence_type ∷ []
operation treat_level = tok (key treat_word) ∷ tok (key as_word) ∷ one sequence_type ∷ []
operation castable_level = tok (key castable_word) ∷ tok (key as_word) ∷ one single_type ∷ []
operation cast_level = tok (key cast_word) ∷ tok (key as_word) ∷ one single_type ∷ []
operation l = tok (operator l) ∷ one (below l) ∷ []

-- the parts of a production
abbrev pub body : Production → List Symbol
body whole_expr = one expr ∷ []
body whole_sequence_type = one sequence_type ∷ []
body expr_list = one expr_single ∷ many comma_expr_single ∷ []
body next_expr_single = tok (key comma) ∷ one expr_single ∷ []
body argument_list = one expr_single ∷ many comma_expr_single ∷ []
body if_expr = tok (key if_word) ∷ tok (key open_paren) ∷ one expr ∷ tok (key close_paren) ∷ tok (key then_word) ∷ one expr_single ∷ one else_part ∷ []
body else_expr = tok (key else_word) ∷ one expr_single ∷ []
body flwor_expr = one clause ∷ many next_clause ∷ maybe where_clause ∷ maybe order_by_clause ∷ tok (key return_word) ∷ one expr_single ∷ []
body quantified_expr = tok quantifier_class ∷ one quantified_binding ∷ many comma_quantified_binding ∷ tok (key satisfies_word) ∷ one expr_single ∷ []
body operator_expr = one (level or_level) ∷ []
body for_clause = tok (key for_word) ∷ one for_binding ∷ many comma_for_binding ∷ []
body let_clause = tok (key let_word) ∷ one let_binding ∷ many comma_let_binding ∷ []
body following_clause = one clause ∷ []
body for_in = tok (key dollar) ∷ tok name ∷ maybe type_declaration ∷ maybe positional_var ∷ tok (key in_word) ∷ one expr_single ∷ []
body next_for_binding = tok (key comma) ∷ one for_binding ∷ []
body let_assign = tok (key dollar) ∷ tok name ∷ maybe type_declaration ∷ tok (key assign) ∷ one expr_single ∷ []
body next_let_binding = tok (key comma) ∷ one let_binding ∷ []
body quantified_in = tok (key dollar) ∷ tok name ∷ maybe type_declaration ∷ tok (key in_word) ∷ one expr_single ∷ []
body next_quantified_binding = tok (key comma) ∷ one quantified_binding ∷ []
body as_type = tok (key as_word) ∷ one sequence_type ∷ []
body at_variable = tok (key at_word) ∷ tok (key dollar) ∷ tok name ∷ []
body where_test = tok (key where_word) ∷ one expr_single ∷ []
body order_by = tok (key order_word) ∷ tok (key by_word) ∷ one order_spec ∷ many comma_order_spec ∷ []
body stable_order_by = tok (key stable_word) ∷ tok (key order_word) ∷ tok (key by_word) ∷ one order_spec ∷ many comma_order_spec ∷ []
body order_key = one expr_single ∷ maybe direction ∷ maybe empty_part ∷ []
body next_order_spec = tok (key comma) ∷ one order_spec ∷ []
body order_direction = tok way_class ∷ []
body empty_least = tok (key empty_word) ∷ tok (key least_word) ∷ []
body (operator_chain l) = one (below l) ∷ (if repeats l then many (tail l) else maybe (tail l)) ∷ []
body (operator_tail l) = operation l
body signed = tok sign_class ∷ one unary_expr ∷ []
body unsigned = one path_expr ∷ []
body rooted = tok (key slash) ∷ longest after_root ∷ []
body rooted_deep = tok (key slashes) ∷ one step_expr ∷ many step_more ∷ []
body unrooted = one relative_path_expr ∷ []
body root_steps = one step_expr ∷ many step_more ∷ []
body steps = one step_expr ∷ many step_more ∷ []
body step_after = tok (key slash) ∷ one step_expr ∷ []
body deep_after = tok (key slashes) ∷ one step_expr ∷ []
body axis_step = tok axis ∷ tok (key colons) ∷ one node_test ∷ many predicate ∷ []
body attribute_step = tok (key at_sign) ∷ one node_test ∷ many predicate ∷ []
body test_step = one node_test ∷ many predicate ∷ []
body parent_step = tok (key dots) ∷ many predicate ∷ []
body filter_step = one primary_expr ∷ many predicate ∷ []
body predicated = tok (key open_bracket) ∷ one expr ∷ tok (key close_bracket) ∷ []
body name_tested = tok name_test ∷ []
body kind_tested = one kind_test ∷ []
body plain_kind = tok plain_class ∷ tok (key open_paren) ∷ tok (key close_paren) ∷ []
body pi_kind = tok (key pi_word) ∷ tok (key open_paren) ∷ maybe pi_argument ∷ tok (key close_paren) ∷ []
body pi_named = tok target ∷ []
body named_kind = tok named_class ∷ tok (key open_paren) ∷ maybe named_argument ∷ tok (key close_paren) ∷ []
body kind_named = tok name_or_star ∷ []
body number = tok digits ∷ []
body literal = tok quoted ∷ []
body variable = tok (key dollar) ∷ tok name ∷ []
body parens = tok (key open_paren) ∷ maybe expr ∷ tok (key close_paren) ∷ []
body context = tok (key dot) ∷ []
body call = tok function ∷ tok (key open_paren) ∷ maybe arguments ∷ tok (key close_paren) ∷ []
body computed = tok maker_class ∷ tok (key open_brace) ∷ one expr ∷ tok (key close_brace) ∷ tok (key open_brace) ∷ maybe expr ∷ tok (key close_brace) ∷ []
body constructed = tok named_class ∷ tok name ∷ tok (key open_brace) ∷ maybe expr ∷ tok (key close_brace) ∷ []
body pi_constructed = tok (key pi_word) ∷ tok word ∷ tok (key open_brace) ∷ maybe expr ∷ tok (key close_brace) ∷ []
body enclosing = tok enclosing_class ∷ tok (key open_brace) ∷ one expr ∷ tok (key close_brace) ∷ []
body direct_constructor = one dir_elem_constructor ∷ []
body empty_type = tok (key empty_sequence_word) ∷ tok (key open_paren) ∷ tok (key close_paren) ∷ []
body items_type = one item_type ∷ longest occurrence_indicator ∷ []
body occurrence_mark = tok mark_class ∷ []
body any_item = tok (key item_word) ∷ tok (key open_paren) ∷ tok (key close_paren) ∷ []
body kind_item = one kind_test ∷ []
body atomic_item = tok name ∷ []
body single_atomic_type = tok name ∷ maybe question_part ∷ []
body question_mark = tok (key question) ∷ []
body direct_element = tok start_tag_open ∷ many dir_attribute ∷ one dir_elem_closing ∷ []
body element_content = tok tag_end ∷ many dir_elem_content ∷ tok end_tag ∷ []
body empty_element = tok empty_end ∷ []
body attribute_value = tok attribute ∷ many attr_value_content ∷ tok attribute_end ∷ []
body part_chars = tok chars ∷ []
body part_enclosed = tok enclosed_open ∷ one expr ∷ tok (key close_brace) ∷ []
body child_element = tok child_tag_open ∷ many dir_attribute ∷ one dir_elem_closing ∷ []
body item_chars = tok chars ∷ []
body item_enclosed = tok enclosed_open ∷ one expr ∷ tok (key close_brace) ∷ []

-- what the production is a form of
abbrev pub head : Production → Nonterminal
head whole_expr = whole
head whole_sequence_type = whole_type
head expr_list = expr
head next_expr_single = comma_expr_single
head argument_list = arguments
head if_expr = expr_single
head else_expr = else_part
head flwor_expr = expr_single
head quantified_expr = expr_single
head operator_expr = expr_single
head for_clause = clause
head let_clause = clause
head following_clause = next_clause
head for_in = for_binding
head next_for_binding = comma_for_binding
head let_assign = let_binding
head next_let_binding = comma_let_binding
head quantified_in = quantified_binding
head next_quantified_binding = comma_quantified_binding
head as_type = type_declaration
head at_variable = positional_var
head where_test = where_clause
head order_by = order_by_clause
head stable_order_by = order_by_clause
head order_key = order_spec
head next_order_spec = comma_order_spec
head order_direction = direction
head empty_least = empty_part
head (operator_chain l) = level l
head (operator_tail l) = tail l
head signed = unary_expr
head unsigned = unary_expr
head rooted = path_expr
head rooted_deep = path_expr
head unrooted = path_expr
head root_steps = after_root
head steps = relative_path_expr
head step_after = step_more
head deep_after = step_more
head axis_step = step_expr
head attribute_step = step_expr
head test_step = step_expr
head parent_step = step_expr
head filter_step = step_expr
head predicated = predicate
head name_tested = node_test
head kind_tested = node_test
head plain_kind = kind_test
head pi_kind = kind_test
head pi_named = pi_argument
head named_kind = kind_test
head kind_named = named_argument
head number = primary_expr
head literal = primary_expr
head variable = primary_expr
head parens = primary_expr
head context = primary_expr
head call = primary_expr
head computed = primary_expr
head constructed = primary_expr
head pi_constructed = primary_expr
head enclosing = primary_expr
head direct_constructor = primary_expr
head empty_type = sequence_type
head items_type = sequence_type
head occurrence_mark = occurrence_indicator
head any_item = item_type
head kind_item = item_type
head atomic_item = item_type
head single_atomic_type = single_type
head question_mark = question_part
head direct_element = dir_elem_constructor
head element_content = dir_elem_closing
head empty_element = dir_elem_closing
head attribute_value = dir_attribute
head part_chars = attr_value_content
head part_enclosed = attr_value_content
head child_element = dir_elem_content
head item_chars = dir_elem_content
head item_enclosed = dir_elem_content

-- the productions of queries alone
abbrev pub of_queries : Production → Bool
of_queries let_clause = true
of_queries following_clause = true
of_queries as_type = true
of_queries at_variable = true
of_queries where_test = true
of_queries order_by = true
of_queries stable_order_by = true
of_queries computed = true
of_queries constructed = true
of_queries pi_constructed = true
of_queries enclosing = true
of_queries direct_constructor = true
of_queries _ = false

abbrev pub speaks : Language → Production → Bool
speaks xquery p = true
speaks xpath p = if of_queries p then false else true

-- whether the token tells more than its production does, and so is in the value
abbrev pub keeps : Class → Bool
keeps (key k) = false
keeps attribute_end = false
keeps tag_end = false
keeps empty_end = false
keeps enclosed_open = false
keeps _ = true

-- a production that adds nothing to its part, where it has one alone
abbrev pub passes : Production → Bool
passes whole_expr = true
passes whole_sequence_type = true
passes expr_list = true
passes next_expr_single = true
passes operator_expr = true
passes following_clause = true
passes next_for_binding = true
passes next_let_binding = true
passes next_quantified_binding = true
passes next_order_spec = true
passes order_direction = true
passes (operator_chain l) = true
passes unsigned = true
passes rooted = true
passes unrooted = true
passes steps = true
passes filter_step = true
passes predicated = true
passes name_tested = true
passes kind_tested = true
passes pi_named = true
passes kind_named = true
passes direct_constructor = true
passes items_type = true
passes occurrence_mark = true
passes kind_item = true
passes atomic_item = true
passes part_chars = true
passes item_chars = true
passes _ = false
