-- Each key is found by its text.
use Rattle.std.proofs.Common.{◌≡◌, ℕ, List, [], ◌∷◌, Bool, true, false, cond, Option, Some, None, nat_lt, slice_get, refl, sym, ap, ◌∙◌}
use Rattle.std.proofs.lemmas.Slice.Eq.{bytes_eq-Decides}
use Rattle.std.specs.List.{list_all}
use Rattle.std.specs.Str.{bytes_eq, chars}
use Rattle.expr_keys.specs.Keys.{key_text, is_worded}
use Rattle.expr_tokens.specs.Words.{words_by, symbols_by, key_in, key_of_word, key_of_symbol}
use Rattle.expr_keys.specs.declared.keys.Key.{Key}
use Rattle.expr_keys.specs.declared.keys.Key.TheVariants.{OpenParen as open_paren, CloseParen as close_paren, OpenBracket as open_bracket, CloseBracket as close_bracket, OpenBrace as open_brace, CloseBrace as close_brace, Comma as comma, Dot as dot, Dots as dots, Slash as slash, Slashes as slashes, AtSign as at_sign, Colons as colons, Bar as bar, Plus as plus, Minus as minus, Star as star, Equal as equal, NotEqual as not_equal, Less as less, LessEqual as less_equal, Greater as greater, GreaterEqual as greater_equal, Before as before, After as after, Dollar as dollar, Question as question, Semicolon as semicolon, Assign as assign, IfWord as if_word, ThenWord as then_word, ElseWord as else_word, ForWord as for_word, InWord as in_word, ReturnWord as return_word, SomeWord as some_word, EveryWord as every_word, SatisfiesWord as satisfies_word, LetWord as let_word, AtWord as at_word, WhereWord as where_word, OrderWord as order_word, ByWord as by_word, StableWord as stable_word, AscendingWord as ascending_word, DescendingWord as descending_word, EmptyWord as empty_word, LeastWord as least_word, AsWord as as_word, OfWord as of_word, InstanceWord as instance_word, TreatWord as treat_word, CastableWord as castable_word, CastWord as cast_word, ToWord as to_word, UnionWord as union_word, IntersectWord as intersect_word, ExceptWord as except_word, IdivWord as idiv_word, ModWord as mod_word, AndWord as and_word, OrWord as or_word, IsWord as is_key_word, EqWord as eq_word, NeWord as ne_word, LtWord as lt_word, LeWord as le_word, GtWord as gt_word, GeWord as ge_word, DocumentWord as document_word, AncestorWord as ancestor_word, AncestorOrSelfWord as ancestor_or_self_word, ChildWord as child_word, DescendantWord as descendant_word, DescendantOrSelfWord as descendant_or_self_word, FollowingWord as following_word, FollowingSiblingWord as following_sibling_word, NamespaceWord as namespace_word, ParentWord as parent_word, PrecedingWord as preceding_word, PrecedingSiblingWord as preceding_sibling_word, SelfWord as self_word, AttributeWord as attribute_word, CommentWord as comment_word, DocumentNodeWord as document_node_word, ElementWord as element_word, EmptySequenceWord as empty_sequence_word, ItemWord as item_word, NodeWord as node_word, ProcessingInstructionWord as pi_word, SchemaAttributeWord as schema_attribute_word, SchemaElementWord as schema_element_word, TextWord as text_word, TypeswitchWord as typeswitch_word}
use Rattle.xt_names.proofs.BoolLemmas.{never as wrong}
use Rattle.xt_names.proofs.ListLemmas.{some_same}

pub ascii_key : (k : Key) → list_all (λ b. nat_lt b 128) (key_text k) ≡ true
ascii_key open_paren = refl
ascii_key close_paren = refl
ascii_key open_bracket = refl
ascii_key close_bracket = refl
ascii_key open_brace = refl
ascii_key close_brace = refl
ascii_key comma = refl
ascii_key dot = refl
ascii_key dots = refl
ascii_key slash = refl
ascii_key slashes = refl
ascii_key at_sign = refl
ascii_key colons = refl
ascii_key bar = refl
ascii_key plus = refl
ascii_key minus = refl
ascii_key star = refl
ascii_key equal = refl
ascii_key not_equal = refl
ascii_key less = refl
ascii_key less_equal = refl
ascii_key greater = refl
ascii_key greater_equal = refl
ascii_key before = refl
ascii_key after = refl
ascii_key dollar = refl
ascii_key question = refl
ascii_key semicolon = refl
ascii_key assign = refl
ascii_key if_word = refl
ascii_key then_word = refl
ascii_key else_word = refl
ascii_key for_word = refl
ascii_key in_word = refl
ascii_key return_word = refl
ascii_key some_word = refl
ascii_key every_word = refl
ascii_key satisfies_word = refl
ascii_key let_word = refl
ascii_key at_word = refl
ascii_key where_word = refl
ascii_key order_word = refl
ascii_key by_word = refl
ascii_key stable_word = refl
ascii_key ascending_word = refl
ascii_key descending_word = refl
ascii_key empty_word = refl
ascii_key least_word = refl
ascii_key as_word = refl
ascii_key of_word = refl
ascii_key instance_word = refl
ascii_key treat_word = refl
ascii_key castable_word = refl
ascii_key cast_word = refl
ascii_key to_word = refl
ascii_key union_word = refl
ascii_key intersect_word = refl
ascii_key except_word = refl
ascii_key idiv_word = refl
ascii_key mod_word = refl
ascii_key and_word = refl
ascii_key or_word = refl
ascii_key is_key_word = refl
ascii_key eq_word = refl
ascii_key ne_word = refl
ascii_key lt_word = refl
ascii_key le_word = refl
ascii_key gt_word = refl
ascii_key ge_word = refl
ascii_key document_word = refl
ascii_key ancestor_word = refl
ascii_key ancestor_or_self_word = refl
ascii_key child_word = refl
ascii_key descendant_word = refl
ascii_key descendant_or_self_word = refl
ascii_key following_word = refl
ascii_key following_sibling_word = refl
ascii_key namespace_word = refl
ascii_key parent_word = refl
ascii_key preceding_word = refl
ascii_key preceding_sibling_word = refl
ascii_key self_word = refl
ascii_key attribute_word = refl
ascii_key comment_word = refl
ascii_key document_node_word = refl
ascii_key element_word = refl
ascii_key empty_sequence_word = refl
ascii_key item_word = refl
ascii_key node_word = refl
ascii_key pi_word = refl
ascii_key schema_attribute_word = refl
ascii_key schema_element_word = refl
ascii_key text_word = refl
ascii_key typeswitch_word = refl

pub ruleset asciis = (ascii_key)

by_first_word : (cs : List ℕ) (x : ℕ) → Some x ≡ slice_get cs 0 → key_in (words_by x) cs ≡ key_of_word cs
by_first_word [] x e = absurd cc
by_first_word (y ∷ cs) x e = let same : x ≡ y = cc in rw same refl

by_first_symbol : (cs : List ℕ) (x : ℕ) → Some x ≡ slice_get cs 0 → key_in (symbols_by x) cs ≡ key_of_symbol cs
by_first_symbol [] x e = absurd cc
by_first_symbol (y ∷ cs) x e = let same : x ≡ y = cc in rw same refl

-- the first character as an iterator gives it
pub word_by_first : (s rest : List ℕ) (x : ℕ) (r : Option Key) → rest ≡ s → Some x ≡ slice_get (chars rest) 0 → r ≡ key_in (words_by x) (chars s) → r ≡ key_of_word (chars s)
word_by_first s rest x r e f g = g ∙ by_first_word (chars s) x (rw (← e) f)

pub symbol_by_first : (s rest : List ℕ) (x : ℕ) (r : Option Key) → rest ≡ s → Some x ≡ slice_get (chars rest) 0 → r ≡ key_in (symbols_by x) (chars s) → r ≡ key_of_symbol (chars s)
symbol_by_first s rest x r e f g = g ∙ by_first_symbol (chars s) x (rw (← e) f)

pub word_found : (k : Key) → is_worded k ≡ true → key_of_word (key_text k) ≡ Some k
word_found if_word e = refl
word_found then_word e = refl
word_found else_word e = refl
word_found for_word e = refl
word_found in_word e = refl
word_found return_word e = refl
word_found some_word e = refl
word_found every_word e = refl
word_found satisfies_word e = refl
word_found let_word e = refl
word_found at_word e = refl
word_found where_word e = refl
word_found order_word e = refl
word_found by_word e = refl
word_found stable_word e = refl
word_found ascending_word e = refl
word_found descending_word e = refl
word_found empty_word e = refl
word_found least_word e = refl
word_found as_word e = refl
word_found of_word e = refl
word_found instance_word e = refl
word_found treat_word e = refl
word_found castable_word e = refl
word_found cast_word e = refl
word_found to_word e = refl
word_found union_word e = refl
word_found intersect_word e = refl
word_found except_word e = refl
word_found idiv_word e = refl
word_found mod_word e = refl
word_found and_word e = refl
word_found or_word e = refl
word_found is_key_word e = refl
word_found eq_word e = refl
word_found ne_word e = refl
word_found lt_word e = refl
word_found le_word e = refl
word_found gt_word e = refl
word_found ge_word e = refl
word_found document_word e = refl
word_found ancestor_word e = refl
word_found ancestor_or_self_word e = refl
word_found child_word e = refl
word_found descendant_word e = refl
word_found descendant_or_self_word e = refl
word_found following_word e = refl
word_found following_sibling_word e = refl
word_found namespace_word e = refl
word_found parent_word e = refl
word_found preceding_word e = refl
word_found preceding_sibling_word e = refl
word_found self_word e = refl
word_found attribute_word e = refl
word_found comment_word e = refl
word_found document_node_word e = refl
word_found element_word e = refl
word_found empty_sequence_word e = refl
word_found item_word e = refl
word_found node_word e = refl
word_found pi_word e = refl
word_found schema_attribute_word e = refl
word_found schema_element_word e = refl
word_found text_word e = refl
word_found typeswitch_word e = refl
word_found _ e = wrong e

pub symbol_found : (k : Key) → is_worded k ≡ false → key_of_symbol (key_text k) ≡ Some k
symbol_found open_paren e = refl
symbol_found close_paren e = refl
symbol_found open_bracket e = refl
symbol_found close_bracket e = refl
symbol_found open_brace e = refl
symbol_found close_brace e = refl
symbol_found comma e = refl
symbol_found dot e = refl
symbol_found dots e = refl
symbol_found slash e = refl
symbol_found slashes e = refl
symbol_found at_sign e = refl
symbol_found colons e = refl
symbol_found bar e = refl
symbol_found plus e = refl
symbol_found minus e = refl
symbol_found star e = refl
symbol_found equal e = refl
symbol_found not_equal e = refl
symbol_found less e = refl
symbol_found less_equal e = refl
symbol_found greater e = refl
symbol_found greater_equal e = refl
symbol_found before e = refl
symbol_found after e = refl
symbol_found dollar e = refl
symbol_found question e = refl
symbol_found semicolon e = refl
symbol_found assign e = refl
symbol_found _ e = wrong (sym e)

never : {k : Key} {P : Type 0} → None ≡ Some k → P
never e = cc

key_in-text : (ks : List Key) (cs : List ℕ) (k : Key) → key_in ks cs ≡ Some k → key_text k ≡ cs
key_in-text [] cs k e = never e
key_in-text (x ∷ ks) cs k e = go (bytes_eq cs (key_text x)) refl e (key_in-text ks cs k)
  where
    go : (b : Bool) → bytes_eq cs (key_text x) ≡ b → cond b (Some x) (key_in ks cs) ≡ Some k → (key_in ks cs ≡ Some k → key_text k ≡ cs) → key_text k ≡ cs
    go true f e rec = ap key_text (sym (some_same e)) ∙ sym ((bytes_eq-Decides cs (key_text x)).0 f)
    go false f e rec = rec e

pub word_text : (k : Key) (cs : List ℕ) → key_of_word cs ≡ Some k → key_text k ≡ cs
word_text k [] e = never e
word_text k (c ∷ cs) e = key_in-text (words_by c) (c ∷ cs) k e

pub symbol_text : (k : Key) (cs : List ℕ) → key_of_symbol cs ≡ Some k → key_text k ≡ cs
symbol_text k [] e = never e
symbol_text k (c ∷ cs) e = key_in-text (symbols_by c) (c ∷ cs) k e
