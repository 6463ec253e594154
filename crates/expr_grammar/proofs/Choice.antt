-- The next token, and at a word the one after it, tell the production.
use Rattle.std.proofs.Common.{◌≡◌, ◌⊎◌, inl, inr, ◌≤◌, Bool, true, false, cond, List, [], ◌∷◌, Option, Some, None, refl, ◌∙◌, ap, subst, arith}
use Rattle.std.proofs.lemmas.Bool.{or_cases, and_parts}
use Rattle.expr_grammar.specs.Keys.{Key, open_paren, open_brace, colons, dollar, dot, dots, slash, slashes, at_sign, plus, minus, star, if_word, for_word, let_word, some_word, every_word, order_word, stable_word, node_word, text_word, comment_word, document_node_word, pi_word, element_word, attribute_word, document_word, item_word, empty_sequence_word}
use Rattle.expr_keys.specs.Keys.{is_worded, is_reserved, binding_power_of_key, is_axis}
use Rattle.expr_keys.specs.Tokens.{binding_power, fits_key, fits_name, fits_word, fits_function, fits_wild, fits_axis}
use Rattle.expr_grammar.specs.TokenNames.{Token}
use Rattle.expr_grammar.specs.Terms.{Language, Level, or_level, cast_level, Nonterminal, key, Symbol, tok, one, Production}
use Rattle.expr_grammar.specs.RawNames.{Raw}
use Rattle.expr_terms.specs.Raws.{build}
use Rattle.expr_keys.specs.Classes.{fits, fits_any}
use Rattle.expr_terms.specs.Productions.{speaks, body, head}
use Rattle.expr_grammar.specs.Grammar.{Derives, by, Seq, end, taken, next, without, with, stop, again, bare, given}
use Rattle.expr_grammar.specs.ChoiceNames.{Second, alone, before_named, before_paren, before_colons, before_dollar, before_brace, Starter}
use Rattle.expr_terms.specs.Choices.{second_token, second_of, second_key, starter_of, with_paren, in_kinds, in_tests, in_primaries, in_direct, in_items, in_parts, in_closing, in_steps, in_paths, in_unaries, in_singles, in_clauses, in_more_steps, in_item_types, in_types, then_one, pick, choose}
use Rattle.expr_grammar.specs.TokenNames as token
use Rattle.expr_grammar.specs.Terms as g
use Rattle.expr_grammar.specs.ChoiceNames as Machine
use Rattle.expr_grammar.proofs.Tables.{grip, grip_one, is_key, bound, ok}
use Rattle.expr_grammar.proofs.Residue.{Ahead, seq_ahead, ok_body}

never : {P : Type 0} → false ≡ true → P
never e = cc

-- what is chosen is of the nonterminal
abbrev pub IsOf : Nonterminal → Option Production → Type 0
IsOf n None = n ≡ n
IsOf n (Some p) = head p ≡ n

of_kinds : (s : Starter) → IsOf g.kind_test (in_kinds s)
of_kinds Machine.conditional = refl
of_kinds _ = refl

of_tests : (s : Starter) → IsOf g.node_test (in_tests s)
of_tests Machine.conditional = refl
of_tests _ = refl

of_primaries : (s : Starter) → IsOf g.primary_expr (in_primaries s)
of_primaries Machine.conditional = refl
of_primaries _ = refl

of_direct : (s : Starter) → IsOf g.dir_elem_constructor (in_direct s)
of_direct Machine.conditional = refl
of_direct _ = refl

of_items : (s : Starter) → IsOf g.dir_elem_content (in_items s)
of_items Machine.conditional = refl
of_items _ = refl

of_parts : (s : Starter) → IsOf g.attr_value_content (in_parts s)
of_parts Machine.conditional = refl
of_parts _ = refl

of_closing : (s : Starter) → IsOf g.dir_elem_closing (in_closing s)
of_closing Machine.conditional = refl
of_closing _ = refl

of_steps : (s : Starter) → IsOf g.step_expr (in_steps s)
of_steps Machine.conditional = refl
of_steps _ = refl

of_paths : (s : Starter) → IsOf g.path_expr (in_paths s)
of_paths Machine.conditional = refl
of_paths _ = refl

of_unaries : (s : Starter) → IsOf g.unary_expr (in_unaries s)
of_unaries Machine.conditional = refl
of_unaries _ = refl

of_singles : (s : Starter) → IsOf g.expr_single (in_singles s)
of_singles Machine.conditional = refl
of_singles _ = refl

of_clauses : (s : Starter) → IsOf g.clause (in_clauses s)
of_clauses Machine.conditional = refl
of_clauses _ = refl

of_more_steps : (s : Starter) → IsOf g.step_more (in_more_steps s)
of_more_steps Machine.conditional = refl
of_more_steps _ = refl

of_item_types : (s : Starter) → IsOf g.item_type (in_item_types s)
of_item_types Machine.conditional = refl
of_item_types _ = refl

of_types : (s : Starter) → IsOf g.sequence_type (in_types s)
of_types Machine.conditional = refl
of_types _ = refl

of_then : (n : Nonterminal) (p : Production) (o : Option Production) → head p ≡ n → IsOf n (then_one o p)
of_then n p None e = refl
of_then n p (Some q) e = e

of_order : (b : Bool) → IsOf g.order_by_clause (cond b (Some g.stable_order_by) (Some g.order_by))
of_order true = refl
of_order false = refl

of_pick : (n : Nonterminal) (s : Starter) → IsOf n (pick n s)
of_pick g.expr s = of_then g.expr g.expr_list (in_singles s) refl
of_pick g.arguments s = of_then g.arguments g.argument_list (in_singles s) refl
of_pick g.after_root s = of_then g.after_root g.root_steps (in_steps s) refl
of_pick g.expr_single s = of_singles s
of_pick g.clause s = of_clauses s
of_pick (g.level l) s = of_then (g.level l) (g.operator_chain l) (in_unaries s) refl
of_pick g.unary_expr s = of_unaries s
of_pick g.path_expr s = of_paths s
of_pick g.relative_path_expr s = of_then g.relative_path_expr g.steps (in_steps s) refl
of_pick g.step_more s = of_more_steps s
of_pick g.step_expr s = of_steps s
of_pick g.node_test s = of_tests s
of_pick g.kind_test s = of_kinds s
of_pick g.primary_expr s = of_primaries s
of_pick g.sequence_type s = of_types s
of_pick g.item_type s = of_item_types s
of_pick g.dir_elem_constructor s = of_direct s
of_pick g.dir_elem_closing s = of_closing s
of_pick g.attr_value_content s = of_parts s
of_pick g.dir_elem_content s = of_items s
of_pick _ s = refl

pub of_choose : (n : Nonterminal) (t : Token) (ts : List Token) → IsOf n (choose n t (second_of ts))
of_choose g.order_by_clause t ts = of_order (fits_key stable_word t)
of_choose n t ts = of_pick n (starter_of t (second_of ts))

-- what a nonterminal begins with, a production that it is at the front of begins with
then_some : (o : Option Production) (p q : Production) → o ≡ Some q → then_one o p ≡ Some p
then_some None p q e = cc
then_some (Some r) p q e = refl

then_then : (o : Option Production) (a b q : Production) → then_one o a ≡ Some q → then_one o b ≡ Some b
then_then None a b q e = cc
then_then (Some r) a b q e = refl

up_flwor : (s : Starter) (q : Production) → in_clauses s ≡ Some q → in_singles s ≡ Some g.flwor_expr
up_flwor Machine.conditional q e = cc
up_flwor _ q e = cc

up_plain : (s : Starter) (q : Production) → then_one (in_unaries s) (g.operator_chain or_level) ≡ Some q → in_singles s ≡ Some g.operator_expr
up_plain Machine.conditional q e = cc
up_plain _ q e = cc

up_unsigned : (s : Starter) (q : Production) → in_paths s ≡ Some q → in_unaries s ≡ Some g.unsigned
up_unsigned Machine.conditional q e = cc
up_unsigned _ q e = cc

up_unrooted : (s : Starter) (q : Production) → then_one (in_steps s) g.steps ≡ Some q → in_paths s ≡ Some g.unrooted
up_unrooted Machine.conditional q e = cc
up_unrooted _ q e = cc

up_test : (s : Starter) (q : Production) → in_tests s ≡ Some q → in_steps s ≡ Some g.test_step
up_test Machine.conditional q e = cc
up_test _ q e = cc

up_filter : (s : Starter) (q : Production) → in_primaries s ≡ Some q → in_steps s ≡ Some g.filter_step
up_filter Machine.conditional q e = cc
up_filter _ q e = cc

up_kind : (s : Starter) (q : Production) → in_kinds s ≡ Some q → in_tests s ≡ Some g.kind_tested
up_kind Machine.conditional q e = cc
up_kind _ q e = cc

up_direct : (s : Starter) (q : Production) → in_direct s ≡ Some q → in_primaries s ≡ Some g.direct_constructor
up_direct Machine.conditional q e = cc
up_direct _ q e = cc

up_type : (s : Starter) (q : Production) → in_item_types s ≡ Some q → in_types s ≡ Some g.items_type
up_type Machine.conditional q e = cc
up_type _ q e = cc

up_kind_item : (s : Starter) (q : Production) → in_kinds s ≡ Some q → in_item_types s ≡ Some g.kind_item
up_kind_item Machine.conditional q e = cc
up_kind_item _ q e = cc

-- the tokens of a word
abbrev Each : (Token → Type 0) → List Key → Type 0
Each P [] = Unit {0}
Each P (k ∷ ks) = P (token.key k) × Each P ks

at_key : (k : Key) (t : Token) (P : Token → Type 0) → fits_key k t ≡ true → P (token.key k) → P t
at_key k t P f x = subst P (is_key k t f) x

at_any : (ks : List Key) (t : Token) (P : Token → Type 0) → fits_any ks t ≡ true → Each P ks → P t
at_any [] t P f x = never f
at_any (k ∷ ks) t P f x = either (or_cases _ _ f) (λ a. at_key k t P a x.0) (λ b. at_any ks t P b x.1)
  where
    either : {Q : Type 0} {a b : Bool} → (a ≡ true) ⊎ (b ≡ true) → (a ≡ true → Q) → (b ≡ true → Q) → Q
    either (inl u) f2 h = f2 u
    either (inr u) f2 h = h u

behind : {l : Language} {k : Key} {ss : List Symbol} {ts mid : List Token} {us : List Raw} → is_worded k ≡ false → Seq l (tok (key k) ∷ ss) ts us mid → second_of ts ≡ second_key k
behind {k = k} w (taken {t = t} {ts = ts} f s) = at_key k t (λ x. second_of (x ∷ ts) ≡ second_key k) f (rw w refl)

abbrev binds : Nonterminal → Bool
binds g.for_binding = true
binds g.let_binding = true
binds g.quantified_binding = true
binds _ = false

binds_dollar : {l : Language} (p : Production) {ts mid : List Token} {us : List Raw} → binds (head p) ≡ true → Seq l (body p) ts us mid → second_of ts ≡ before_dollar
binds_dollar g.for_in e s = behind refl s
binds_dollar g.let_assign e s = behind refl s
binds_dollar g.quantified_in e s = behind refl s
binds_dollar _ e s = never e

behind_bound : {l : Language} {n : Nonterminal} {ss : List Symbol} {ts mid : List Token} {us : List Raw} → binds n ≡ true → Seq l (one n ∷ ss) ts us mid → second_of ts ≡ before_dollar
behind_bound h (next (by p a e q) s) = binds_dollar p (rw e h) q

key_alone : (k : Key) → 1 ≤ binding_power_of_key k → second_key k ≡ alone
key_alone open_paren e = absurd (omega arith)
key_alone colons e = absurd (omega arith)
key_alone dollar e = absurd (omega arith)
key_alone open_brace e = absurd (omega arith)
key_alone _ e = refl

token_alone : (t : Token) → 1 ≤ binding_power t → second_token t ≡ alone
token_alone (token.key k) a = key_alone k a
token_alone _ a = refl

-- a name and '{' are wanted
behind_named : {l : Language} {ss : List Symbol} {ts mid : List Token} {us : List Raw} → Seq l (tok g.name ∷ tok (key open_brace) ∷ ss) ts us mid → second_of ts ≡ before_named
behind_named (taken {t = t} f s) = more t f s
  where
    more : {l : Language} {ss : List Symbol} (t : Token) {ts mid : List Token} {us : List Raw} → fits_name t ≡ true → Seq l (tok (key open_brace) ∷ ss) ts us mid → second_of (t ∷ ts) ≡ before_named
    more t f (taken h s) = rw (f, h) refl

word_name : (t : Token) → fits_word t ≡ true → fits_name t ≡ true
word_name (token.key k) f = f
word_name (token.name n) f = refl
word_name _ f = never f

behind_word : {l : Language} {ss : List Symbol} {ts mid : List Token} {us : List Raw} → Seq l (tok g.word ∷ tok (key open_brace) ∷ ss) ts us mid → second_of ts ≡ before_named
behind_word (taken {t = t} f s) = more t (word_name t f) s
  where
    more : {l : Language} {ss : List Symbol} (t : Token) {ts mid : List Token} {us : List Raw} → fits_name t ≡ true → Seq l (tok (key open_brace) ∷ ss) ts us mid → second_of (t ∷ ts) ≡ before_named
    more t f (taken h s) = rw (f, h) refl

behind_alone : (ts : List Token) → Ahead 1 ts → second_of ts ≡ alone
behind_alone [] a = refl
behind_alone (t ∷ ts) a = let e = a.1 in rw e (token_alone t a.0)

last_alone : {l : Language} {ts mid : List Token} {us : List Raw} → Seq l [] ts us mid → Ahead 1 mid → second_of ts ≡ alone
last_alone (end {ts = ts}) a = behind_alone ts a

-- a key and what is after it
pair_key : (k : Key) (t : Token) (ts : List Token) (z : Second) → fits_key k t ≡ true → second_of ts ≡ z → starter_of t (second_of ts) ≡ starter_of (token.key k) z
pair_key k t ts z f e = at_key k t (λ x. starter_of x (second_of ts) ≡ starter_of (token.key k) z) f (ap (λ y. starter_of (token.key k) y) e)

pair_any : (ks : List Key) (t : Token) (ts : List Token) (z : Second) (to : Starter) → fits_any ks t ≡ true → second_of ts ≡ z → Each (λ x. starter_of x z ≡ to) ks → starter_of t (second_of ts) ≡ to
pair_any ks t ts z to f e x = ap (λ y. starter_of t y) e ∙ at_any ks t (λ y. starter_of y z ≡ to) f x

name_key : (k : Key) → is_worded k ≡ true → starter_of (token.key k) alone ≡ Machine.named
name_key k e = rw e refl

axis_key : (k : Key) → is_worded k ≡ true → starter_of (token.key k) before_colons ≡ Machine.axis
axis_key k e = rw e refl

axis_low : (k : Key) → cond (is_axis k) (is_worded k) true ≡ true
axis_low open_paren = refl
axis_low _ = refl

axis_word : (k : Key) → is_axis k ≡ true → is_worded k ≡ true
axis_word k e = rw e at (axis_low k)

abbrev is_call : Starter → Bool
is_call Machine.call = true
is_call _ = false

call_test : (k : Key) → cond (is_reserved k) true (cond (is_worded k) (is_call (with_paren k)) true) ≡ true
call_test open_paren = refl
call_test _ = refl

calls : (s : Starter) → is_call s ≡ true → s ≡ Machine.call
calls Machine.call e = refl
calls _ e = never e

call_parts : (b c d : Bool) → cond b true (cond c d true) ≡ true → cond b false c ≡ true → (c ≡ true) × (d ≡ true)
call_parts true c d h f = never f
call_parts false true d h f = (refl, h)
call_parts false false d h f = never f

call_key : (k : Key) → fits_function (token.key k) ≡ true → starter_of (token.key k) before_paren ≡ Machine.call
call_key k f = let c = call_parts (is_reserved k) (is_worded k) (is_call (with_paren k)) (call_test k) f in let e = c.0 in rw e (calls (with_paren k) c.1)

named_by : (t : Token) (ts : List Token) → second_of ts ≡ alone → fits_name t ≡ true → starter_of t (second_of ts) ≡ Machine.named
named_by t ts e f = ap (λ y. starter_of t y) e ∙ at t f
  where
    at : (t : Token) → fits_name t ≡ true → starter_of t alone ≡ Machine.named
    at (token.key k) f = name_key k f
    at (token.name n) f = refl
    at (token.qname p n) f = refl
    at _ f = never f

wild_by : (t : Token) (z : Second) → fits_wild t ≡ true → starter_of t z ≡ Machine.wild
wild_by (token.key k) z f = at_key star (token.key k) (λ x. starter_of x z ≡ Machine.wild) f refl
wild_by (token.any_local p) z f = refl
wild_by (token.any_prefix n) z f = refl
wild_by _ z f = never f

tested_by : (t : Token) (ts : List Token) → second_of ts ≡ alone → (fits_name t ≡ true) ⊎ (fits_wild t ≡ true) → in_tests (starter_of t (second_of ts)) ≡ Some g.name_tested
tested_by t ts e (inl f) = ap in_tests (named_by t ts e f)
tested_by t ts e (inr f) = ap in_tests (wild_by t (second_of ts) f)

axis_by : (t : Token) (ts : List Token) → second_of ts ≡ before_colons → fits_axis t ≡ true → starter_of t (second_of ts) ≡ Machine.axis
axis_by t ts e f = ap (λ y. starter_of t y) e ∙ at t f
  where
    at : (t : Token) → fits_axis t ≡ true → starter_of t before_colons ≡ Machine.axis
    at (token.key k) f = axis_key k (axis_word k f)
    at _ f = never f

call_by : (t : Token) (ts : List Token) → second_of ts ≡ before_paren → fits_function t ≡ true → starter_of t (second_of ts) ≡ Machine.call
call_by t ts e f = ap (λ y. starter_of t y) e ∙ at t f
  where
    at : (t : Token) → fits_function t ≡ true → starter_of t before_paren ≡ Machine.call
    at (token.key k) f = call_key k f
    at (token.name n) f = refl
    at (token.qname p n) f = refl
    at _ f = never f

digits_by : (t : Token) (z : Second) → fits g.digits t ≡ true → in_primaries (starter_of t z) ≡ Some g.number
digits_by (token.digits n) z f = refl
digits_by _ z f = never f

quoted_by : (t : Token) (z : Second) → fits g.quoted t ≡ true → in_primaries (starter_of t z) ≡ Some g.literal
quoted_by (token.quoted n) z f = refl
quoted_by _ z f = never f

outer_by : (t : Token) (z : Second) → fits g.start_tag_open t ≡ true → in_direct (starter_of t z) ≡ Some g.direct_element
outer_by (token.start_tag_open p m) z f = refl
outer_by _ z f = never f

inner_by : (t : Token) (z : Second) → fits g.child_tag_open t ≡ true → in_items (starter_of t z) ≡ Some g.child_element
inner_by (token.child_tag_open p m) z f = refl
inner_by _ z f = never f

chars_by : (t : Token) (z : Second) → fits g.chars t ≡ true → starter_of t z ≡ Machine.chars
chars_by (token.chars cs b) z f = refl
chars_by _ z f = never f

enter_by : (t : Token) (z : Second) → fits g.enclosed_open t ≡ true → starter_of t z ≡ Machine.enclosed_open
enter_by token.enclosed_open z f = refl
enter_by _ z f = never f

full_by : (t : Token) (z : Second) → fits g.tag_end t ≡ true → in_closing (starter_of t z) ≡ Some g.element_content
full_by token.tag_end z f = refl
full_by _ z f = never f

empty_by : (t : Token) (z : Second) → fits g.empty_end t ≡ true → in_closing (starter_of t z) ≡ Some g.empty_element
empty_by token.empty_end z f = refl
empty_by _ z f = never f

abbrev Fronts : Production → List Symbol → Type 0
Fronts p (tok c ∷ ss) = (l : Language) (t : Token) (ts mid : List Token) (us : List Raw) → fits c t ≡ true → Seq l ss ts us mid → Ahead (grip (head p)) mid → choose (head p) t (second_of ts) ≡ Some p
Fronts p (one n ∷ ss) = (t : Token) (ts : List Token) (q : Production) → choose n t (second_of ts) ≡ Some q → choose (head p) t (second_of ts) ≡ Some p
Fronts p _ = ⊥

fronts_chain : (l : Level) → Fronts (g.operator_chain l) (body (g.operator_chain l))
fronts_chain cast_level = λ t ts q e. then_some (in_unaries (starter_of t (second_of ts))) (g.operator_chain cast_level) q e
fronts_chain _ = λ t ts q e. then_then (in_unaries (starter_of t (second_of ts))) _ _ q e

fronts_operated : (l : Level) → Fronts (g.operator_tail l) (body (g.operator_tail l))
fronts_operated or_level = λ l t ts mid us f s a. refl
fronts_operated _ = λ l t ts mid us f s a. refl

fronts : (p : Production) → Fronts p (body p)
fronts g.whole_expr = λ t ts q e. refl
fronts g.expr_list = λ t ts q e. then_some (in_singles (starter_of t (second_of ts))) g.expr_list q e
fronts g.whole_sequence_type = λ t ts q e. refl
fronts g.argument_list = λ t ts q e. then_some (in_singles (starter_of t (second_of ts))) g.argument_list q e
fronts g.root_steps = λ t ts q e. then_some (in_steps (starter_of t (second_of ts))) g.root_steps q e
fronts g.if_expr = λ l t ts mid us f s a. ap in_singles (pair_key if_word t ts before_paren f (behind refl s))
fronts g.flwor_expr = λ t ts q e. up_flwor (starter_of t (second_of ts)) q e
fronts g.quantified_expr = λ l t ts mid us f s a. ap in_singles (pair_any (some_word ∷ every_word ∷ []) t ts before_dollar Machine.quantifying f (behind_bound refl s) (refl, (refl, tt)))
fronts g.operator_expr = λ t ts q e. up_plain (starter_of t (second_of ts)) q e
fronts g.for_clause = λ l t ts mid us f s a. ap in_clauses (pair_key for_word t ts before_dollar f (behind_bound refl s))
fronts g.let_clause = λ l t ts mid us f s a. ap in_clauses (pair_key let_word t ts before_dollar f (behind_bound refl s))
fronts g.following_clause = λ t ts q e. refl
fronts g.order_by = λ l t ts mid us f s a. at_key order_word t (λ x. choose g.order_by_clause x (second_of ts) ≡ Some g.order_by) f refl
fronts g.stable_order_by = λ l t ts mid us f s a. at_key stable_word t (λ x. choose g.order_by_clause x (second_of ts) ≡ Some g.stable_order_by) f refl
fronts g.order_key = λ t ts q e. refl
fronts (g.operator_chain l) = fronts_chain l
fronts (g.operator_tail l) = fronts_operated l
fronts g.signed = λ l t ts mid us f s a. at_any (plus ∷ minus ∷ []) t (λ x. in_unaries (starter_of x (second_of ts)) ≡ Some g.signed) f (refl, (refl, tt))
fronts g.unsigned = λ t ts q e. up_unsigned (starter_of t (second_of ts)) q e
fronts g.rooted = λ l t ts mid us f s a. at_key slash t (λ x. in_paths (starter_of x (second_of ts)) ≡ Some g.rooted) f refl
fronts g.rooted_deep = λ l t ts mid us f s a. at_key slashes t (λ x. in_paths (starter_of x (second_of ts)) ≡ Some g.rooted_deep) f refl
fronts g.unrooted = λ t ts q e. up_unrooted (starter_of t (second_of ts)) q e
fronts g.steps = λ t ts q e. then_some (in_steps (starter_of t (second_of ts))) g.steps q e
fronts g.step_after = λ l t ts mid us f s a. at_key slash t (λ x. in_more_steps (starter_of x (second_of ts)) ≡ Some g.step_after) f refl
fronts g.deep_after = λ l t ts mid us f s a. at_key slashes t (λ x. in_more_steps (starter_of x (second_of ts)) ≡ Some g.deep_after) f refl
fronts g.axis_step = λ l t ts mid us f s a. ap in_steps (axis_by t ts (behind refl s) f)
fronts g.attribute_step = λ l t ts mid us f s a. at_key at_sign t (λ x. in_steps (starter_of x (second_of ts)) ≡ Some g.attribute_step) f refl
fronts g.test_step = λ t ts q e. up_test (starter_of t (second_of ts)) q e
fronts g.parent_step = λ l t ts mid us f s a. at_key dots t (λ x. in_steps (starter_of x (second_of ts)) ≡ Some g.parent_step) f refl
fronts g.filter_step = λ t ts q e. up_filter (starter_of t (second_of ts)) q e
fronts g.name_tested = λ l t ts mid us f s a. tested_by t ts (last_alone s a) (or_cases _ _ f)
fronts g.kind_tested = λ t ts q e. up_kind (starter_of t (second_of ts)) q e
fronts g.plain_kind = λ l t ts mid us f s a. ap in_kinds (pair_any (node_word ∷ text_word ∷ comment_word ∷ document_node_word ∷ []) t ts before_paren Machine.plain_kind f (behind refl s) (refl, (refl, (refl, (refl, tt)))))
fronts g.pi_kind = λ l t ts mid us f s a. ap in_kinds (pair_key pi_word t ts before_paren f (behind refl s))
fronts g.named_kind = λ l t ts mid us f s a. ap in_kinds (pair_any (element_word ∷ attribute_word ∷ []) t ts before_paren Machine.named_kind f (behind refl s) (refl, (refl, tt)))
fronts g.number = λ l t ts mid us f s a. digits_by t (second_of ts) f
fronts g.literal = λ l t ts mid us f s a. quoted_by t (second_of ts) f
fronts g.variable = λ l t ts mid us f s a. at_key dollar t (λ x. in_primaries (starter_of x (second_of ts)) ≡ Some g.variable) f refl
fronts g.parens = λ l t ts mid us f s a. at_key open_paren t (λ x. in_primaries (starter_of x (second_of ts)) ≡ Some g.parens) f refl
fronts g.context = λ l t ts mid us f s a. at_key dot t (λ x. in_primaries (starter_of x (second_of ts)) ≡ Some g.context) f refl
fronts g.call = λ l t ts mid us f s a. ap in_primaries (call_by t ts (behind refl s) f)
fronts g.computed = λ l t ts mid us f s a. ap in_primaries (pair_any (element_word ∷ attribute_word ∷ pi_word ∷ []) t ts before_brace Machine.computed f (behind refl s) (refl, (refl, (refl, tt))))
fronts g.constructed = λ l t ts mid us f s a. ap in_primaries (pair_any (element_word ∷ attribute_word ∷ []) t ts before_named Machine.constructed f (behind_named s) (refl, (refl, tt)))
fronts g.pi_constructed = λ l t ts mid us f s a. ap in_primaries (pair_key pi_word t ts before_named f (behind_word s))
fronts g.enclosing = λ l t ts mid us f s a. ap in_primaries (pair_any (document_word ∷ text_word ∷ comment_word ∷ []) t ts before_brace Machine.enclosing f (behind refl s) (refl, (refl, (refl, tt))))
fronts g.direct_constructor = λ t ts q e. up_direct (starter_of t (second_of ts)) q e
fronts g.empty_type = λ l t ts mid us f s a. ap in_types (pair_key empty_sequence_word t ts before_paren f (behind refl s))
fronts g.items_type = λ t ts q e. up_type (starter_of t (second_of ts)) q e
fronts g.any_item = λ l t ts mid us f s a. ap in_item_types (pair_key item_word t ts before_paren f (behind refl s))
fronts g.kind_item = λ t ts q e. up_kind_item (starter_of t (second_of ts)) q e
fronts g.atomic_item = λ l t ts mid us f s a. ap in_item_types (named_by t ts (last_alone s a) f)
fronts g.direct_element = λ l t ts mid us f s a. outer_by t (second_of ts) f
fronts g.element_content = λ l t ts mid us f s a. full_by t (second_of ts) f
fronts g.empty_element = λ l t ts mid us f s a. empty_by t (second_of ts) f
fronts g.part_chars = λ l t ts mid us f s a. ap in_parts (chars_by t (second_of ts) f)
fronts g.part_enclosed = λ l t ts mid us f s a. ap in_parts (enter_by t (second_of ts) f)
fronts g.child_element = λ l t ts mid us f s a. inner_by t (second_of ts) f
fronts g.item_chars = λ l t ts mid us f s a. ap in_items (chars_by t (second_of ts) f)
fronts g.item_enclosed = λ l t ts mid us f s a. ap in_items (enter_by t (second_of ts) f)
fronts _ = λ l t ts mid us f s a. refl

-- a derivation, with the production that the tokens tell
pub record Made (l : Language) (o : Option Production) (n : Nonterminal) (ts : List Token) (v : Raw) (mid : List Token) : Type 0 where
  pub production : Production
  pub values : List Raw
  pub spoken : speaks l production ≡ true
  pub is : head production ≡ n
  pub parts : Seq l (body production) ts values mid
  pub value : build production values ≡ v
  pub choice : o ≡ Some production

mutual
  pub made : {l : Language} {n : Nonterminal} {t : Token} {ts mid : List Token} {v : Raw} → Derives l n (t ∷ ts) v mid → Ahead (grip n) mid → Made l (choose n t (second_of ts)) n (t ∷ ts) v mid
  made (by p s e q) a = record { production = p; values = _; spoken = s; is = e; parts = q; value = refl; choice = rw e at (front_chosen p (body p) (fronts p) (ok_body p) q (rw e a)) }

  front_chosen : {l : Language} (p : Production) (ss : List Symbol) {t : Token} {ts mid : List Token} {vs : List Raw} → Fronts p ss → ok p ss ≡ true → Seq l ss (t ∷ ts) vs mid → Ahead (grip (head p)) mid → choose (head p) t (second_of ts) ≡ Some p
  front_chosen p ss x h end a = absurd x
  front_chosen p ss x h (without s) a = absurd x
  front_chosen p ss x h (with d s) a = absurd x
  front_chosen p ss x h (stop s) a = absurd x
  front_chosen p ss x h (again d s) a = absurd x
  front_chosen p ss x h (bare e s) a = absurd x
  front_chosen p ss x h (given e d s) a = absurd x
  front_chosen p ss x h (taken f s) a = x _ _ _ _ _ f s a
  front_chosen p ss {t = t} {ts = ts} x h (next {n = n} {ss = rest} d s) a =
      let parts = and_parts (bound (grip n) p rest) (ok p rest) h in
      let c = made d (seq_ahead (grip n) p (grip_one n) parts.0 parts.1 s a) in
      x t ts c.production c.choice
