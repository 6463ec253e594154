-- Keys under their names in the specs.
pub use Rattle.expr_keys.specs.declared.keys.Key.{Key}
pub use Rattle.expr_keys.specs.declared.keys.Key.TheVariants.{OpenParen as open_paren, CloseParen as close_paren, OpenBracket as open_bracket, CloseBracket as close_bracket, OpenBrace as open_brace, CloseBrace as close_brace, Comma as comma, Dot as dot, Dots as dots, Slash as slash, Slashes as slashes, AtSign as at_sign, Colons as colons, Bar as bar, Plus as plus, Minus as minus, Star as star, Equal as equal, NotEqual as not_equal, Less as less, LessEqual as less_equal, Greater as greater, GreaterEqual as greater_equal, Before as before, After as after, Dollar as dollar, Question as question, Semicolon as semicolon, Assign as assign, IfWord as if_word, ThenWord as then_word, ElseWord as else_word, ForWord as for_word, InWord as in_word, ReturnWord as return_word, SomeWord as some_word, EveryWord as every_word, SatisfiesWord as satisfies_word, LetWord as let_word, AtWord as at_word, WhereWord as where_word, OrderWord as order_word, ByWord as by_word, StableWord as stable_word, AscendingWord as ascending_word, DescendingWord as descending_word, EmptyWord as empty_word, LeastWord as least_word, AsWord as as_word, OfWord as of_word, InstanceWord as instance_word, TreatWord as treat_word, CastableWord as castable_word, CastWord as cast_word, ToWord as to_word, UnionWord as union_word, IntersectWord as intersect_word, ExceptWord as except_word, IdivWord as idiv_word, ModWord as mod_word, AndWord as and_word, OrWord as or_word, IsWord as is_word, EqWord as eq_word, NeWord as ne_word, LtWord as lt_word, LeWord as le_word, GtWord as gt_word, GeWord as ge_word, DocumentWord as document_word, AncestorWord as ancestor_word, AncestorOrSelfWord as ancestor_or_self_word, ChildWord as child_word, DescendantWord as descendant_word, DescendantOrSelfWord as descendant_or_self_word, FollowingWord as following_word, FollowingSiblingWord as following_sibling_word, NamespaceWord as namespace_word, ParentWord as parent_word, PrecedingWord as preceding_word, PrecedingSiblingWord as preceding_sibling_word, SelfWord as self_word, AttributeWord as attribute_word, CommentWord as comment_word, DocumentNodeWord as document_node_word, ElementWord as element_word, EmptySequenceWord as empty_sequence_word, ItemWord as item_word, NodeWord as node_word, ProcessingInstructionWord as pi_word, SchemaAttributeWord as schema_attribute_word, SchemaElementWord as schema_element_word, TextWord as text_word, TypeswitchWord as typeswitch_word}
