-- Four numbers of each nonterminal decide every conflict between going on and stopping; they are checked once for each production.
use Rattle.std.proofs.Common.{◌≡◌, ◌⊎◌, inl, inr, ℕ, suc, ◌+◌, ◌≤◌, min, max, Bool, true, false, cond, ◌&&◌, ◌||◌, not, List, [], ◌∷◌, refl, ap, arith, nat_le, nat_lt}
use Rattle.std.proofs.lemmas.Bool.{eqb-true, or_cases, leb-true}
use Rattle.expr_grammar.specs.Keys.{Key, open_paren, open_brace, star}
use Rattle.expr_keys.specs.Keys.{binding_power_of_key, is_worded, is_reserved, is_axis}
use Rattle.expr_grammar.specs.TokenNames.{Token}
use Rattle.expr_keys.specs.Tokens.{binding_power, fits_key, fits_name, fits_word, fits_function, fits_wild, fits_axis}
use Rattle.expr_grammar.specs.Terms.{Nonterminal, whole, expr, comma_expr_single, expr_single, clause, next_clause, for_binding, comma_for_binding, let_binding, comma_let_binding, quantified_binding, comma_quantified_binding, type_declaration, positional_var, where_clause, order_by_clause, order_spec, comma_order_spec, direction, empty_part, level, tail, unary_expr, path_expr, relative_path_expr, step_more, step_expr, predicate, node_test, kind_test, pi_argument, named_argument, primary_expr, sequence_type, item_type, occurrence_indicator, single_type, question_part, dir_elem_constructor, dir_elem_closing, dir_attribute, attr_value_content, dir_elem_content, Level, or_level, Class, key, sign_class, mark_class, way_class, quantifier_class, plain_class, named_class, enclosing_class, maker_class, operator, digits, quoted, word, name, function, name_test, target, name_or_star, start_tag_open, child_tag_open, end_tag, attribute, attribute_end, tag_end, empty_end, chars, enclosed_open, Symbol, tok, one, maybe, many, longest, Production, operator_chain, operator_tail, whole_type, arguments, else_part, after_root, axis}
use Rattle.expr_keys.specs.Classes.{tight, fits, keys_of, fits_any}
use Rattle.expr_terms.specs.Productions.{body, head}
use Rattle.expr_grammar.specs.TokenNames as token
use Rattle.expr_grammar.proofs.Keys.{same}

-- no token of a lower place comes after the nonterminal
abbrev pub grip : Nonterminal → ℕ
grip whole = 30
grip whole_type = 30
grip arguments = 30
grip else_part = 15
grip after_root = 3
grip expr = 30
grip comma_expr_single = 17
grip expr_single = 15
grip clause = 18
grip next_clause = 18
grip for_binding = 17
grip comma_for_binding = 17
grip let_binding = 17
grip comma_let_binding = 17
grip quantified_binding = 17
grip comma_quantified_binding = 17
grip type_declaration = 22
grip positional_var = 23
grip where_clause = 20
grip order_by_clause = 23
grip order_spec = 17
grip comma_order_spec = 17
grip direction = 16
grip empty_part = 17
grip (level l) = suc (tight l)
grip (tail l) = tight l
grip unary_expr = 3
grip path_expr = 3
grip relative_path_expr = 3
grip step_more = 2
grip step_expr = 2
grip predicate = 1
grip node_test = 1
grip kind_test = 1
grip pi_argument = 1
grip named_argument = 1
grip primary_expr = 1
grip sequence_type = 5
grip item_type = 1
grip occurrence_indicator = 1
grip single_type = 3
grip question_part = 1
grip dir_elem_constructor = 1
grip dir_elem_closing = 1
grip dir_attribute = 1
grip attr_value_content = 1
grip dir_elem_content = 1

-- the places of the tokens that begin it are at least so great
abbrev pub first : Nonterminal → ℕ
first comma_expr_single = 17
first comma_for_binding = 17
first comma_let_binding = 17
first comma_quantified_binding = 17
first comma_order_spec = 17
first clause = 18
first else_part = 23
first next_clause = 18
first type_declaration = 21
first positional_var = 22
first where_clause = 19
first order_by_clause = 20
first direction = 15
first empty_part = 16
first (tail l) = tight l
first step_more = 2
first predicate = 1
first occurrence_indicator = 1
first question_part = 1
first dir_elem_closing = 30
first dir_attribute = 1
first attr_value_content = 1
first dir_elem_content = 1
first _ = 0

-- .. and at most so great
abbrev pub last : Nonterminal → ℕ
last comma_expr_single = 17
last comma_for_binding = 17
last comma_let_binding = 17
last comma_quantified_binding = 17
last comma_order_spec = 17
last clause = 18
last else_part = 23
last next_clause = 18
last type_declaration = 21
last positional_var = 22
last where_clause = 19
last order_by_clause = 20
last direction = 15
last empty_part = 16
last (tail l) = tight l
last step_more = 2
last predicate = 1
last occurrence_indicator = 10
last question_part = 1
last dir_elem_closing = 30
last dir_attribute = 1
last attr_value_content = 1
last dir_elem_content = 1
last _ = 23

-- what is at the front of a production has a lower rank
abbrev pub rank : Nonterminal → ℕ
rank whole = 42
rank expr = 41
rank whole_type = 42
rank arguments = 41
rank after_root = 10
rank order_spec = 41
rank expr_single = 30
rank (level l) = 10 + tight l
rank unary_expr = 12
rank path_expr = 11
rank relative_path_expr = 10
rank step_expr = 9
rank sequence_type = 9
rank item_type = 8
rank node_test = 7
rank kind_test = 6
rank primary_expr = 6
rank next_clause = 2
rank clause = 1
rank _ = 0

abbrev pub least : List Key → ℕ
least [] = 30
least (k ∷ ks) = min (binding_power_of_key k) (least ks)

abbrev pub greatest : List Key → ℕ
greatest [] = 0
greatest (k ∷ ks) = max (binding_power_of_key k) (greatest ks)

abbrev pub low : Class → ℕ
low (key k) = binding_power_of_key k
low sign_class = least (keys_of sign_class)
low mark_class = least (keys_of mark_class)
low way_class = least (keys_of way_class)
low quantifier_class = least (keys_of quantifier_class)
low plain_class = least (keys_of plain_class)
low named_class = least (keys_of named_class)
low enclosing_class = least (keys_of enclosing_class)
low maker_class = least (keys_of maker_class)
low (operator l) = tight l
low child_tag_open = 1
low end_tag = 30
low attribute = 1
low attribute_end = 30
low tag_end = 30
low empty_end = 30
low chars = 1
low enclosed_open = 1
low _ = 0

abbrev pub high : Class → ℕ
high (key k) = binding_power_of_key k
high sign_class = greatest (keys_of sign_class)
high mark_class = greatest (keys_of mark_class)
high way_class = greatest (keys_of way_class)
high quantifier_class = greatest (keys_of quantifier_class)
high plain_class = greatest (keys_of plain_class)
high named_class = greatest (keys_of named_class)
high enclosing_class = greatest (keys_of enclosing_class)
high maker_class = greatest (keys_of maker_class)
high (operator l) = tight l
high digits = 0
high quoted = 0
high word = 23
high axis = 23
high name = 23
high function = 23
high name_test = 23
high target = 23
high name_or_star = 23
high start_tag_open = 0
high child_tag_open = 1
high end_tag = 30
high attribute = 1
high attribute_end = 30
high tag_end = 30
high empty_end = 30
high chars = 1
high enclosed_open = 1

-- a class without words
abbrev pub plain : Class → Bool
plain (key k) = not (is_worded k)
plain child_tag_open = true
plain start_tag_open = true
plain end_tag = true
plain attribute = true
plain attribute_end = true
plain tag_end = true
plain empty_end = true
plain chars = true
plain enclosed_open = true
plain _ = false

-- no '{' comes next at these symbols
abbrev pub shuts : List Symbol → Bool
shuts [] = true
shuts (tok c ∷ ss) = not (fits c (token.key open_brace))
shuts (one n ∷ ss) = true
shuts (maybe n ∷ ss) = shuts ss
shuts (many n ∷ ss) = shuts ss
shuts (longest n ∷ ss) = shuts ss

-- whatever comes next at these symbols of the production has at least this place
abbrev pub bound : ℕ → Production → List Symbol → Bool
bound g p [] = nat_le g (grip (head p))
bound g p (tok c ∷ ss) = nat_le g (low c) && (plain c || shuts ss)
bound g p (one n ∷ ss) = nat_le g (first n)
bound g p (maybe n ∷ ss) = nat_le g (first n) && bound g p ss
bound g p (many n ∷ ss) = nat_le g (first n) && bound g p ss
bound g p (longest n ∷ ss) = nat_le g (first n) && bound g p ss

-- after each part only what its grip allows, and what may be left out begins otherwise than what follows
abbrev pub ok : Production → List Symbol → Bool
ok p [] = true
ok p (tok c ∷ ss) = ok p ss
ok p (one n ∷ ss) = bound (grip n) p ss && ok p ss
ok p (maybe n ∷ ss) = bound (grip n) p ss && (bound (suc (last n)) p ss && ok p ss)
ok p (many n ∷ ss) = bound (grip n) p (many n ∷ ss) && (bound (suc (last n)) p ss && ok p ss)
ok p (longest n ∷ ss) = bound (grip n) p ss && ok p ss

-- what is at the front
abbrev pub leads : Production → List Symbol → Bool
leads p (tok c ∷ ss) = (nat_le (first (head p)) (low c) && nat_le (high c) (last (head p))) && (not (fits c (token.key open_brace)) && (nat_lt (first (head p)) 1 || (plain c || shuts ss)))
leads p (one n ∷ ss) = nat_lt (rank n) (rank (head p)) && (nat_le (first (head p)) (first n) && nat_le (last n) (last (head p)))
leads p _ = false

abbrev pub fine : Production → Bool
fine p = leads p (body p) && ok p (body p)

fine_chain : (l : Level) → fine (operator_chain l) ≡ true
fine_chain or_level = refl
fine_chain _ = refl

fine_operated : (l : Level) → fine (operator_tail l) ≡ true
fine_operated or_level = refl
fine_operated _ = refl

pub all_fine : (p : Production) → fine p ≡ true
all_fine (operator_chain l) = fine_chain l
all_fine (operator_tail l) = fine_operated l
all_fine _ = refl

never : {P : Type 0} → false ≡ true → P
never e = cc

pub is_key : (a : Key) (t : Token) → fits_key a t ≡ true → token.key a ≡ t
is_key a (token.key k) e = ap token.key (same a k e)
is_key a _ e = never e

abbrev pub Within : ℕ → ℕ → Token → Type 0
Within a b t = (a ≤ binding_power t) × (binding_power t ≤ b)

key_within : (a : Key) (t : Token) → fits_key a t ≡ true → Within (binding_power_of_key a) (binding_power_of_key a) t
key_within a t e = let same_token = is_key a t e in let f : binding_power_of_key a ≡ binding_power t = ap binding_power same_token in (omega arith, omega arith)

either : {P : Type 0} {a b : Bool} → (a ≡ true → P) → (b ≡ true → P) → (a ≡ true) ⊎ (b ≡ true) → P
either f g (inl x) = f x
either f g (inr x) = g x

any_within : (ks : List Key) (t : Token) → fits_any ks t ≡ true → Within (least ks) (greatest ks) t
any_within [] t e = never e
any_within (k ∷ ks) t e = either (λ a. let w = key_within k t a in (omega arith, omega arith)) (λ b. let w = any_within ks t b in (omega arith, omega arith)) (or_cases _ _ e)

worded_low : (k : Key) → cond (is_worded k) (nat_le (binding_power_of_key k) 23) true ≡ true
worded_low open_paren = refl
worded_low _ = refl

worded_place : (k : Key) → is_worded k ≡ true → binding_power_of_key k ≤ 23
worded_place k e = let h : nat_le (binding_power_of_key k) 23 ≡ true = rw e at (worded_low k) in leb-true _ _ h

name_within : (t : Token) → fits_name t ≡ true → Within 0 23 t
name_within (token.key k) e = let h = worded_place k e in (omega arith, omega arith)
name_within (token.name n) e = (omega arith, omega arith)
name_within (token.qname p n) e = (omega arith, omega arith)
name_within _ e = never e

word_within : (t : Token) → fits_word t ≡ true → Within 0 23 t
word_within (token.key k) e = let h = worded_place k e in (omega arith, omega arith)
word_within (token.name n) e = (omega arith, omega arith)
word_within _ e = never e

pub function_key : (b c : Bool) → cond b false c ≡ true → c ≡ true
function_key true c e = never e
function_key false c e = e

function_within : (t : Token) → fits_function t ≡ true → Within 0 23 t
function_within (token.key k) e = let h = worded_place k (function_key (is_reserved k) _ e) in (omega arith, omega arith)
function_within (token.name n) e = (omega arith, omega arith)
function_within (token.qname p n) e = (omega arith, omega arith)
function_within _ e = never e

wild_within : (t : Token) → fits_wild t ≡ true → Within 0 23 t
wild_within (token.key k) e = let h = ap binding_power_of_key (same star k e) in (omega arith, omega arith)
wild_within (token.any_local p) e = (omega arith, omega arith)
wild_within (token.any_prefix n) e = (omega arith, omega arith)
wild_within _ e = never e

quoted_within : (t : Token) → fits quoted t ≡ true → Within 0 0 t
quoted_within (token.quoted cs) e = (omega arith, omega arith)
quoted_within _ e = never e

wider : (a : ℕ) (t : Token) → Within 0 a t → a ≤ 23 → Within 0 23 t
wider a t w h = (omega arith, omega arith)

axis_low : (k : Key) → cond (is_axis k) (nat_le (binding_power_of_key k) 23) true ≡ true
axis_low open_paren = refl
axis_low _ = refl

axis_place : (k : Key) → is_axis k ≡ true → binding_power_of_key k ≤ 23
axis_place k e = let h : nat_le (binding_power_of_key k) 23 ≡ true = rw e at (axis_low k) in leb-true _ _ h

axis_within : (t : Token) → fits_axis t ≡ true → Within 0 23 t
axis_within (token.key k) e = let h = axis_place k e in (omega arith, omega arith)
axis_within _ e = never e

pub within : (c : Class) (t : Token) → fits c t ≡ true → Within (low c) (high c) t
within (key k) t e = key_within k t e
within sign_class t e = any_within (keys_of sign_class) t e
within mark_class t e = any_within (keys_of mark_class) t e
within way_class t e = any_within (keys_of way_class) t e
within quantifier_class t e = any_within (keys_of quantifier_class) t e
within plain_class t e = any_within (keys_of plain_class) t e
within named_class t e = any_within (keys_of named_class) t e
within enclosing_class t e = any_within (keys_of enclosing_class) t e
within maker_class t e = any_within (keys_of maker_class) t e
within (operator l) t e = let f = eqb-true _ _ e in (omega arith, omega arith)
within digits (token.digits n) e = (omega arith, omega arith)
within digits _ e = never e
within quoted t e = quoted_within t e
within word t e = word_within t e
within name t e = name_within t e
within axis t e = axis_within t e
within function t e = function_within t e
within name_test t e = either (λ x. name_within t x) (λ x. wild_within t x) (or_cases _ _ e)
within target t e = either (λ x. word_within t x) (λ x. wider 0 t (quoted_within t x) (omega arith)) (or_cases _ _ e)
within name_or_star t e = either (λ x. name_within t x) (λ x. let w = key_within star t x in (omega arith, omega arith)) (or_cases _ _ e)
within start_tag_open (token.start_tag_open p m) e = (omega arith, omega arith)
within start_tag_open _ e = never e
within child_tag_open (token.child_tag_open p m) e = (omega arith, omega arith)
within child_tag_open _ e = never e
within end_tag (token.end_tag p m) e = (omega arith, omega arith)
within end_tag _ e = never e
within attribute (token.attribute p n) e = (omega arith, omega arith)
within attribute _ e = never e
within attribute_end token.attribute_end e = (omega arith, omega arith)
within attribute_end _ e = never e
within tag_end token.tag_end e = (omega arith, omega arith)
within tag_end _ e = never e
within empty_end token.empty_end e = (omega arith, omega arith)
within empty_end _ e = never e
within chars (token.chars cs b) e = (omega arith, omega arith)
within chars _ e = never e
within enclosed_open token.enclosed_open e = (omega arith, omega arith)
within enclosed_open _ e = never e

pub grip_one : (n : Nonterminal) → 1 ≤ grip n
grip_one whole = omega arith
grip_one (level l) = omega arith
grip_one (tail or_level) = omega arith
grip_one _ = omega arith
