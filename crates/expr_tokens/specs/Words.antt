-- The keys of the grammar, by their texts.
use Rattle.std.specs.Prelude.{ℕ, List, [], ◌∷◌, ◌==◌, Option, Some, None, if◌then◌else◌}
use Rattle.std.specs.Str.{bytes_eq}
use Rattle.expr_keys.specs.Keys.{key_text}
use Rattle.expr_keys.specs.declared.keys.Key.{Key}
use Rattle.expr_keys.specs.declared.keys.Key.TheVariants.{OpenParen as open_paren, CloseParen as close_paren, OpenBracket as open_bracket, CloseBracket as close_bracket, OpenBrace as open_brace, CloseBrace as close_brace, Comma as comma, Dot as dot, Dots as dots, Slash as slash, Slashes as slashes, AtSign as at_sign, Colons as colons, Bar as bar, Plus as plus, Minus as minus, Star as star, Equal as equal, NotEqual as not_equal, Less as less, LessEqual as less_equal, Greater as greater, GreaterEqual as greater_equal, Before as before, After as after, Dollar as dollar, Question as question, Semicolon as semicolon, Assign as assign, IfWord as if_word, ThenWord as then_word, ElseWord as else_word, ForWord as for_word, InWord as in_word, ReturnWord as return_word, SomeWord as some_word, EveryWord as every_word, SatisfiesWord as satisfies_word, LetWord as let_word, AtWord as at_word, WhereWord as where_word, OrderWord as order_word, ByWord as by_word, StableWord as stable_word, AscendingWord as ascending_word, DescendingWord as descending_word, EmptyWord as empty_word, LeastWord as least_word, AsWord as as_word, OfWord as of_word, InstanceWord as instance_word, TreatWord as treat_word, CastableWord as castable_word, CastWord as cast_word, ToWord as to_word, UnionWord as union_word, IntersectWord as intersect_word, ExceptWord as except_word, IdivWord as idiv_word, ModWord as mod_word, AndWord as and_word, OrWord as or_word, IsWord as is_key_word, EqWord as eq_word, NeWord as ne_word, LtWord as lt_word, LeWord as le_word, GtWord as gt_word, GeWord as ge_word, DocumentWord as document_word, AncestorWord as ancestor_word, AncestorOrSelfWord as ancestor_or_self_word, ChildWord as child_word, DescendantWord as descendant_word, DescendantOrSelfWord as descendant_or_self_word, FollowingWord as following_word, FollowingSiblingWord as following_sibling_word, NamespaceWord as namespace_word, ParentWord as parent_word, PrecedingWord as preceding_word, PrecedingSiblingWord as preceding_sibling_word, SelfWord as self_word, AttributeWord as attribute_word, CommentWord as comment_word, DocumentNodeWord as document_node_word, ElementWord as element_word, EmptySequenceWord as empty_sequence_word, ItemWord as item_word, NodeWord as node_word, ProcessingInstructionWord as pi_word, SchemaAttributeWord as schema_attribute_word, SchemaElementWord as schema_element_word, TextWord as text_word, TypeswitchWord as typeswitch_word}

-- the words that begin with the letter
abbrev pub words_by : ℕ → List Key
words_by c = if c == 97 then at_word ∷ ascending_word ∷ as_word ∷ and_word ∷ ancestor_word ∷ ancestor_or_self_word ∷ attribute_word ∷ [] else if c == 98 then by_word ∷ [] else if c == 99 then castable_word ∷ cast_word ∷ child_word ∷ comment_word ∷ [] else if c == 100 then descending_word ∷ document_word ∷ descendant_word ∷ descendant_or_self_word ∷ document_node_word ∷ [] else if c == 101 then else_word ∷ every_word ∷ empty_word ∷ except_word ∷ eq_word ∷ element_word ∷ empty_sequence_word ∷ [] else if c == 102 then for_word ∷ following_word ∷ following_sibling_word ∷ [] else if c == 103 then gt_word ∷ ge_word ∷ [] else if c == 105 then if_word ∷ in_word ∷ instance_word ∷ intersect_word ∷ idiv_word ∷ is_key_word ∷ item_word ∷ [] else if c == 108 then let_word ∷ least_word ∷ lt_word ∷ le_word ∷ [] else if c == 109 then mod_word ∷ [] else if c == 110 then ne_word ∷ namespace_word ∷ node_word ∷ [] else if c == 111 then order_word ∷ of_word ∷ or_word ∷ [] else if c == 112 then parent_word ∷ preceding_word ∷ preceding_sibling_word ∷ pi_word ∷ [] else if c == 114 then return_word ∷ [] else if c == 115 then some_word ∷ satisfies_word ∷ stable_word ∷ self_word ∷ schema_attribute_word ∷ schema_element_word ∷ [] else if c == 116 then then_word ∷ treat_word ∷ to_word ∷ text_word ∷ typeswitch_word ∷ [] else if c == 117 then union_word ∷ [] else if c == 119 then where_word ∷ [] else []

-- the punctuation that begins with the character
abbrev pub symbols_by : ℕ → List Key
symbols_by c = if c == 33 then not_equal ∷ [] else if c == 36 then dollar ∷ [] else if c == 40 then open_paren ∷ [] else if c == 41 then close_paren ∷ [] else if c == 42 then star ∷ [] else if c == 43 then plus ∷ [] else if c == 44 then comma ∷ [] else if c == 45 then minus ∷ [] else if c == 46 then dot ∷ dots ∷ [] else if c == 47 then slash ∷ slashes ∷ [] else if c == 58 then colons ∷ assign ∷ [] else if c == 59 then semicolon ∷ [] else if c == 60 then less ∷ less_equal ∷ before ∷ [] else if c == 61 then equal ∷ [] else if c == 62 then greater ∷ greater_equal ∷ after ∷ [] else if c == 63 then question ∷ [] else if c == 64 then at_sign ∷ [] else if c == 91 then open_bracket ∷ [] else if c == 93 then close_bracket ∷ [] else if c == 123 then open_brace ∷ [] else if c == 124 then bar ∷ [] else if c == 125 then close_brace ∷ [] else []

-- the first of the keys that has this text
abbrev pub key_in : List Key → List ℕ → Option Key
key_in [] cs = None
key_in (k ∷ ks) cs = if bytes_eq cs (key_text k) then Some k else key_in ks cs

abbrev pub key_of_word : List ℕ → Option Key
key_of_word [] = None
key_of_word (c ∷ cs) = key_in (words_by c) (c ∷ cs)

abbrev pub key_of_symbol : List ℕ → Option Key
key_of_symbol [] = None
key_of_symbol (c ∷ cs) = key_in (symbols_by c) (c ∷ cs)
