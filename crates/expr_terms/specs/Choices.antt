-- What the next tokens tell of the production: the token, and at a word the one or two after it.
use Rattle.std.specs.Prelude.{Bool, true, false, List, [], ◌∷◌, Option, Some, None, if◌then◌else◌, ◌&&◌}
use Rattle.expr_keys.specs.declared.keys.Key.{Key}
use Rattle.expr_keys.specs.declared.keys.Key.TheVariants.{OpenParen as open_paren, OpenBrace as open_brace, Colons as colons, Dollar as dollar, Dot as dot, Dots as dots, Slash as slash, Slashes as slashes, AtSign as at_sign, Plus as plus, Minus as minus, Star as star, IfWord as if_word, ForWord as for_word, LetWord as let_word, SomeWord as some_word, EveryWord as every_word, StableWord as stable_word, NodeWord as node_word, TextWord as text_word, CommentWord as comment_word, DocumentNodeWord as document_node_word, ProcessingInstructionWord as pi_word, ElementWord as element_word, AttributeWord as attribute_word, DocumentWord as document_word, ItemWord as item_word, EmptySequenceWord as empty_sequence_word, SchemaAttributeWord as schema_attribute_word, SchemaElementWord as schema_element_word, TypeswitchWord as typeswitch_word}
use Rattle.expr_keys.specs.Keys.{is_worded}
use Rattle.expr_keys.specs.declared.tokens.Token.{Token}
use Rattle.expr_keys.specs.declared.tokens.Token.TheVariants as token
use Rattle.expr_keys.specs.Tokens.{fits_name, fits_key}
use Rattle.expr_terms.specs.Productions.{Nonterminal, Production}
use Rattle.expr_terms.specs.Productions as g
pub use Rattle.expr_terms.specs.declared.choices.Second.{Second}
pub use Rattle.expr_terms.specs.declared.choices.Second.TheVariants.{BeforeParen as before_paren, BeforeColons as before_colons, BeforeDollar as before_dollar, BeforeBrace as before_brace, BeforeNamed as before_named, Alone as alone}
pub use Rattle.expr_terms.specs.declared.choices.Starter.{Starter}
pub use Rattle.expr_terms.specs.declared.choices.Starter.TheVariants.{Conditional as conditional, Looping as looping, Letting as letting, Quantifying as quantifying, Signing as signing, Slashing as slashing, SlashingDeep as slashing_deep, Axis as axis, At as at, Parent as parent, PlainKind as plain_kind, PiKind as pi_kind, NamedKind as named_kind, Named as named, Wild as wild, Digits as digits, Quoted as quoted, Variable as variable, Paren as paren, Context as context, Call as call, Computed as computed, Constructed as constructed, PiConstructed as pi_constructed, Enclosing as enclosing, ItemType as item_type, EmptyType as empty_type, StartTagOpen as start_tag_open, ChildTagOpen as child_tag_open, Chars as chars, EnclosedOpen as enclosed_open, FullTag as full_tag, EmptyTag as empty_tag, Nothing as nothing}

abbrev pub second_key : Key → Second
second_key open_paren = before_paren
second_key colons = before_colons
second_key dollar = before_dollar
second_key open_brace = before_brace
second_key _ = alone

abbrev pub second_token : Token → Second
second_token (token.Key k) = second_key k
second_token _ = alone

abbrev pub open_next : List Token → Bool
open_next [] = false
open_next (t ∷ ts) = fits_key open_brace t

-- a name and '{'
abbrev pub named_open : Token → List Token → Bool
named_open t ts = fits_name t && open_next ts

abbrev pub second_of : List Token → Second
second_of [] = alone
second_of (t ∷ ts) = if named_open t ts then before_named else second_token t

abbrev pub with_paren : Key → Starter
with_paren if_word = conditional
with_paren node_word = plain_kind
with_paren text_word = plain_kind
with_paren comment_word = plain_kind
with_paren document_node_word = plain_kind
with_paren pi_word = pi_kind
with_paren element_word = named_kind
with_paren attribute_word = named_kind
with_paren item_word = item_type
with_paren empty_sequence_word = empty_type
with_paren schema_attribute_word = nothing
with_paren schema_element_word = nothing
with_paren typeswitch_word = nothing
with_paren _ = call

abbrev pub with_dollar : Key → Starter
with_dollar for_word = looping
with_dollar let_word = letting
with_dollar some_word = quantifying
with_dollar every_word = quantifying
with_dollar _ = nothing

abbrev pub with_brace : Key → Starter
with_brace element_word = computed
with_brace attribute_word = computed
with_brace pi_word = computed
with_brace document_word = enclosing
with_brace text_word = enclosing
with_brace comment_word = enclosing
with_brace _ = nothing

abbrev pub with_named : Key → Starter
with_named element_word = constructed
with_named attribute_word = constructed
with_named pi_word = pi_constructed
with_named _ = nothing

abbrev pub starter_word : Key → Second → Starter
starter_word k before_paren = with_paren k
starter_word k before_colons = axis
starter_word k before_dollar = with_dollar k
starter_word k before_brace = with_brace k
starter_word k before_named = with_named k
starter_word k alone = named

abbrev pub starter_mark : Key → Starter
starter_mark dollar = variable
starter_mark open_paren = paren
starter_mark dot = context
starter_mark dots = parent
starter_mark at_sign = at
starter_mark slash = slashing
starter_mark slashes = slashing_deep
starter_mark plus = signing
starter_mark minus = signing
starter_mark star = wild
starter_mark _ = nothing

abbrev pub starter_name : Second → Starter
starter_name before_paren = call
starter_name before_colons = axis
starter_name _ = named

abbrev pub starter_of : Token → Second → Starter
starter_of (token.Key k) s = if is_worded k then starter_word k s else starter_mark k
starter_of (token.Name n) s = starter_name s
starter_of (token.Qname p n) s = starter_name s
starter_of (token.AnyLocal p) s = wild
starter_of (token.AnyPrefix n) s = wild
starter_of (token.Digits n) s = digits
starter_of (token.Quoted cs) s = quoted
starter_of (token.StartTagOpen p n) s = start_tag_open
starter_of (token.ChildTagOpen p n) s = child_tag_open
starter_of (token.Chars cs b) s = chars
starter_of token.EnclosedOpen s = enclosed_open
starter_of token.TagEnd s = full_tag
starter_of token.EmptyEnd s = empty_tag
starter_of _ s = nothing

abbrev pub in_kinds : Starter → Option Production
in_kinds plain_kind = Some g.plain_kind
in_kinds pi_kind = Some g.pi_kind
in_kinds named_kind = Some g.named_kind
in_kinds _ = None

abbrev pub in_tests : Starter → Option Production
in_tests named = Some g.name_tested
in_tests wild = Some g.name_tested
in_tests plain_kind = Some g.kind_tested
in_tests pi_kind = Some g.kind_tested
in_tests named_kind = Some g.kind_tested
in_tests _ = None

abbrev pub in_primaries : Starter → Option Production
in_primaries digits = Some g.number
in_primaries quoted = Some g.literal
in_primaries variable = Some g.variable
in_primaries paren = Some g.parens
in_primaries context = Some g.context
in_primaries call = Some g.call
in_primaries computed = Some g.computed
in_primaries constructed = Some g.constructed
in_primaries pi_constructed = Some g.pi_constructed
in_primaries enclosing = Some g.enclosing
in_primaries start_tag_open = Some g.direct_constructor
in_primaries _ = None

abbrev pub in_direct : Starter → Option Production
in_direct start_tag_open = Some g.direct_element
in_direct _ = None

abbrev pub in_items : Starter → Option Production
in_items child_tag_open = Some g.child_element
in_items chars = Some g.item_chars
in_items _ = Some g.item_enclosed

abbrev pub in_parts : Starter → Option Production
in_parts chars = Some g.part_chars
in_parts _ = Some g.part_enclosed

abbrev pub in_closing : Starter → Option Production
in_closing full_tag = Some g.element_content
in_closing _ = Some g.empty_element

abbrev pub in_steps : Starter → Option Production
in_steps axis = Some g.axis_step
in_steps at = Some g.attribute_step
in_steps parent = Some g.parent_step
in_steps named = Some g.test_step
in_steps wild = Some g.test_step
in_steps plain_kind = Some g.test_step
in_steps pi_kind = Some g.test_step
in_steps named_kind = Some g.test_step
in_steps digits = Some g.filter_step
in_steps quoted = Some g.filter_step
in_steps variable = Some g.filter_step
in_steps paren = Some g.filter_step
in_steps context = Some g.filter_step
in_steps call = Some g.filter_step
in_steps computed = Some g.filter_step
in_steps constructed = Some g.filter_step
in_steps pi_constructed = Some g.filter_step
in_steps enclosing = Some g.filter_step
in_steps start_tag_open = Some g.filter_step
in_steps _ = None

abbrev pub then_one : Option Production → Production → Option Production
then_one None p = None
then_one (Some q) p = Some p

abbrev pub in_paths : Starter → Option Production
in_paths slashing = Some g.rooted
in_paths slashing_deep = Some g.rooted_deep
in_paths s = then_one (in_steps s) g.unrooted

abbrev pub in_unaries : Starter → Option Production
in_unaries signing = Some g.signed
in_unaries s = then_one (in_paths s) g.unsigned

abbrev pub in_singles : Starter → Option Production
in_singles conditional = Some g.if_expr
in_singles looping = Some g.flwor_expr
in_singles letting = Some g.flwor_expr
in_singles quantifying = Some g.quantified_expr
in_singles s = then_one (in_unaries s) g.operator_expr

abbrev pub in_clauses : Starter → Option Production
in_clauses looping = Some g.for_clause
in_clauses letting = Some g.let_clause
in_clauses _ = None

abbrev pub in_more_steps : Starter → Option Production
in_more_steps slashing = Some g.step_after
in_more_steps _ = Some g.deep_after

abbrev pub in_item_types : Starter → Option Production
in_item_types item_type = Some g.any_item
in_item_types plain_kind = Some g.kind_item
in_item_types pi_kind = Some g.kind_item
in_item_types named_kind = Some g.kind_item
in_item_types named = Some g.atomic_item
in_item_types _ = None

abbrev pub in_types : Starter → Option Production
in_types empty_type = Some g.empty_type
in_types s = then_one (in_item_types s) g.items_type

-- the production of the nonterminal that begins so
abbrev pub pick : Nonterminal → Starter → Option Production
pick g.whole s = Some g.whole_expr
pick g.whole_type s = Some g.whole_sequence_type
pick g.expr s = then_one (in_singles s) g.expr_list
pick g.comma_expr_single s = Some g.next_expr_single
pick g.arguments s = then_one (in_singles s) g.argument_list
pick g.expr_single s = in_singles s
pick g.else_part s = Some g.else_expr
pick g.clause s = in_clauses s
pick g.next_clause s = Some g.following_clause
pick g.for_binding s = Some g.for_in
pick g.comma_for_binding s = Some g.next_for_binding
pick g.let_binding s = Some g.let_assign
pick g.comma_let_binding s = Some g.next_let_binding
pick g.quantified_binding s = Some g.quantified_in
pick g.comma_quantified_binding s = Some g.next_quantified_binding
pick g.type_declaration s = Some g.as_type
pick g.positional_var s = Some g.at_variable
pick g.where_clause s = Some g.where_test
pick g.order_by_clause s = Some g.order_by
pick g.order_spec s = Some g.order_key
pick g.comma_order_spec s = Some g.next_order_spec
pick g.direction s = Some g.order_direction
pick g.empty_part s = Some g.empty_least
pick (g.level l) s = then_one (in_unaries s) (g.operator_chain l)
pick (g.tail l) s = Some (g.operator_tail l)
pick g.unary_expr s = in_unaries s
pick g.path_expr s = in_paths s
pick g.after_root s = then_one (in_steps s) g.root_steps
pick g.relative_path_expr s = then_one (in_steps s) g.steps
pick g.step_more s = in_more_steps s
pick g.step_expr s = in_steps s
pick g.predicate s = Some g.predicated
pick g.node_test s = in_tests s
pick g.kind_test s = in_kinds s
pick g.pi_argument s = Some g.pi_named
pick g.named_argument s = Some g.kind_named
pick g.primary_expr s = in_primaries s
pick g.sequence_type s = in_types s
pick g.item_type s = in_item_types s
pick g.occurrence_indicator s = Some g.occurrence_mark
pick g.single_type s = Some g.single_atomic_type
pick g.question_part s = Some g.question_mark
pick g.dir_elem_constructor s = in_direct s
pick g.dir_elem_closing s = in_closing s
pick g.dir_attribute s = Some g.attribute_value
pick g.attr_value_content s = in_parts s
pick g.dir_elem_content s = in_items s

abbrev pub is_order : Nonterminal → Bool
is_order g.order_by_clause = true
is_order _ = false

-- the production of the nonterminal that the token begins, with what follows told by `s`
abbrev pub choose : Nonterminal → Token → Second → Option Production
choose n t s = if is_order n then (if fits_key stable_word t then Some g.stable_order_by else Some g.order_by) else pick n (starter_of t s)
