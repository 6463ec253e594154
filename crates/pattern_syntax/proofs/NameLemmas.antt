-- A name alone is read as a step to the children of this name.
use Rattle.std.proofs.Common.{◌≡◌, ℕ, nat_le, nat_lt, true, false, cond, ◌&&◌, List, [], ◌∷◌}
use Rattle.std.proofs.Common.{◌++◌, length, Option, Some, None}
use Rattle.std.proofs.Common.{refl, sym, subst, ap, ◌∙◌, arith}
use Rattle.std.proofs.lemmas.Bool.{le-leb}
use Rattle.std.proofs.lemmas.List.{append-nil}
use Rattle.std.proofs.lemmas.Str.{chars-IsAscii, encodes-chars}
use Rattle.std.specs.Prelude.{encode_utf8_all, Result, Ok, Err, IfOk}
use Rattle.std.specs.List.{list_all}
use Rattle.std.specs.declared.alloc.AllocError.{AllocError}
use Rattle.std.specs.Str.{chars, IsUtf8}
use Rattle.xt_names.specs.Allowed.{is_empty_text}
use Rattle.xt_names.specs.Classes.{is_ncname_text, begins_name, is_in_ranges}
use Rattle.xt_names.specs.declared.codes.Code.TheVariants.{SheetStatic}
use Rattle.xt_names.specs.declared.codes.SheetStaticCode.TheVariants.{XTUN0001, XTSE0340}
use Rattle.xt_names.proofs.TextLemmas.{ascii_list}
use Rattle.xt_types.specs.declared.axes.Axis.TheVariants as axis
use Rattle.xt_syntax.specs.declared.exprs.Expr.TheVariants as expr
use Rattle.xt_syntax.specs.declared.exprs.Expr.TheVariants.{outs-Step}
use Rattle.xt_syntax.specs.declared.exprs.Clause.TheViews.{out-Expr}
use Rattle.xt_syntax.specs.declared.patterns.Pattern.{Pattern}
use Rattle.xpath_lex.specs.Gaps.{Stops, none}
use Rattle.xpath_lex.specs.Readings.{Placed, TokenAt, over, token, size}
use Rattle.xpath_lex.specs.Tokens.{Longest}
use Rattle.xpath_lex.specs.declared.lexing.TokenKind.TheVariants.{Word}
use Rattle.xpath_lex.proofs.CharacterFacts.{open_name}
use Rattle.xpath_lex.proofs.KindLemmas.{name_parts}
use Rattle.xpath_lex.proofs.NameLemmas.{word_longest}
use Rattle.xpath_lex.proofs.RunLemmas.{first_same}
use Rattle.expr_keys.specs.Keys.{key_text, is_worded, same_key}
use Rattle.expr_keys.specs.Classes.{fits}
use Rattle.expr_keys.specs.declared.keys.Key.{Key}
use Rattle.expr_keys.specs.declared.keys.Key.TheVariants as key
use Rattle.expr_keys.specs.declared.productions.Class.TheVariants.{NameTest as name_test_class}
use Rattle.expr_keys.specs.declared.productions.Language.TheVariants.{Xpath as xpath}
use Rattle.expr_keys.specs.declared.productions.Level.TheVariants as level
use Rattle.expr_keys.specs.declared.productions.Production.TheVariants as production
use Rattle.expr_keys.specs.declared.tokens.Token.{Token}
use Rattle.expr_terms.specs.declared.raws.Raw.{Raw}
use Rattle.expr_terms.specs.declared.raws.Raw.TheVariants.{Leaf as leaf}
use Rattle.expr_terms.specs.declared.raws.Raw.TheVariants.{outs-Leaf, outs-Node}
use Rattle.expr_terms.specs.declared.raws.Raw.TheFolds.{map-Raw, fold_out-Raw}
use Rattle.expr_terms.specs.declared.raws.Raw.TheOpen.{Raw-F, Node}
use Rattle.expr_tokens.specs.Terms.{Written, word_or_name, terms_of}
use Rattle.expr_tokens.specs.Words.{key_of_word}
use Rattle.expr_tokens.proofs.KeyLemmas.{word_text}
use Rattle.expr_grammar.specs.Grammar.{Spells, by, end, taken, next, without, stop}
use Rattle.expr_grammar.specs.Machine.{read_whole}
use Rattle.expr_grammar.proofs.Run.{spells_runs}
use Rattle.expr_grammar.specs.ExprNest.Measures.{predicate_nest_of}
use Rattle.expr_grammar.specs.declared.expr_nest.measures.Measure.TheVariants.{Predicates}
use Rattle.expr_grammar.proofs.ExprNest.Within.{within-node}
use Rattle.expr_reader.specs.declared.readings.Reading.TheVariants as read
use Rattle.expr_reader.specs.Answers.{within_by}
use Rattle.expr_rules.specs.ExprMeant.Names.{written_in, written_test_in}
use Rattle.expr_rules.specs.ExprMeant.Parts.{expr_of}
use Rattle.expr_rules.specs.declared.expr_meant.meant.Meant.TheVariants as meant
use Rattle.expr_names.specs.Names.{uri_in, undeclared_in, name_test, test_broken, default_name}
use Rattle.expr_names.specs.Names.{default_in}
use Rattle.expr_names.specs.Answers.{first}
use Rattle.expr_names.specs.declared.written.WrittenTest.TheVariants as test
use Rattle.expr_resolve.specs.ExprPrimaries.ExprPaths.Steps.{axis_for, defaulted, test_on}
use Rattle.expr_resolve.specs.ExprPrimaries.ExprPaths.Table.{path_value}
use Rattle.expr_rules.specs.Known.{name_test_of}
use Rattle.expr_rules.specs.Rules.{own_broken, end_broken, test_broken_of}
use Rattle.expr_resolve.specs.declared.setting.Setting.{Setting}
use Rattle.expr_resolve.specs.Folds.{Found, found_layer, found_of, value_of}
use Rattle.expr_resolve.specs.Tables.{own, family_of, value_in, is_chain, is_tag, before_last}
use Rattle.expr_resolve.proofs.Follow.{found-node}
use Rattle.pattern_forms.specs.PatternShapes.Shapes.{is_pattern}
use Rattle.pattern_syntax.specs.Meant.{patterns_of, pattern_broken, step_in, have_allowed, left_out}
use Rattle.pattern_syntax.specs.Names.{named, alone, name_meant, is_lone_test, lone_step}
use Rattle.pattern_syntax.specs.Parts.{has_pattern_tests}
use Rattle.pattern_syntax.specs.Readings.{value, static, value_or, resolved, shaped, answer_of}
use Rattle.pattern_syntax.specs.Readings.{reading_in, pattern_reading, IsLexed, GivesText}
use Rattle.pattern_syntax.proofs.TestLemmas.{leaf_flat}
use Rattle.xt_names.proofs.BoolLemmas.{never, no}
use Rattle.xt_names.specs.Characters.{is_space, starts_name}
use Rattle.xt_names.proofs.CharacterLemmas.{is_other}

-- the text is one word

abbrev word : List ℕ → Written
word cs = record { kind = Word; characters = cs }

spaceless : (c : ℕ) → starts_name c ≡ true → is_space c ≡ false
unfolding starts_name is_space is_in_ranges
spaceless c h = rw (
  is_other starts_name c 32 h refl,
  is_other starts_name c 9 h refl,
  is_other starts_name c 10 h refl,
  is_other starts_name c 13 h refl,
) refl

name_stops : (cs : List ℕ) → is_ncname_text cs ≡ true → Stops cs
name_stops cs h =
    let n = name_parts cs h in
    record {
      no_space = rw n.is (spaceless n.first n.starts);
      no_comment = λ inside rest e k. (
          let first : 40 ≡ n.first = first_same (sym e ∙ n.is) in
          no n.starts (rw (← first) open_name));
    }

name_longest : (cs : List ℕ) → is_ncname_text cs ≡ true → Longest false cs Word cs []
name_longest cs h =
    subst (λ ts. Longest false ts Word cs []) (append-nil cs)
    (word_longest cs [] h tt (λ z e. absurd cc) (λ z e. cc))

abbrev placed_word : List ℕ → Placed
placed_word text = record { kind = Word; characters = chars text; from = 0; to = length text }

name_token : (text : List ℕ) → IsUtf8 text → is_ncname_text (chars text) ≡ true
    → TokenAt (length text) false (chars text) (placed_word text) []
unfolding size
name_token text u h =
    let e : length (encode_utf8_all (chars text)) ≡ length text = ap length (encodes-chars text u)
    in
    record {
      after = false;
      here = chars text;
      gap = none;
      stops = name_stops (chars text) h;
      longest = name_longest (chars text) h;
      from = omega (arith, e);
      to = omega arith;
    }

name_lexed : (text : List ℕ) → IsUtf8 text → is_ncname_text (chars text) ≡ true
    → IsLexed text (Some (word (chars text) ∷ []))
name_lexed text u h =
    (placed_word text ∷ [], (token (name_token text u h) (over (_, none)), refl))

-- a word is a test of names

ascii_key : (k : Key) → list_all (λ b. nat_lt b 128) (key_text k) ≡ true
ascii_key key.OpenParen = refl
ascii_key _ = refl

worded : (k : Key) → is_ncname_text (key_text k) ≡ true → is_worded k ≡ true
unfolding is_ncname_text begins_name is_in_ranges
worded key.OpenParen e = absurd cc
worded _ e = cc

no_star : (k : Key) → is_worded k ≡ true → same_key key.Star k ≡ false
no_star key.OpenParen e = refl
no_star _ e = cc

key_worded : (cs : List ℕ) (k : Key) → is_ncname_text cs ≡ true → key_of_word cs ≡ Some k
    → is_worded k ≡ true
key_worded cs k h e =
    worded k (subst (λ x. is_ncname_text x ≡ true) (sym (word_text k cs e)) h)

key_written : (cs : List ℕ) (k : Key) → key_of_word cs ≡ Some k → chars (key_text k) ≡ cs
key_written cs k e =
    chars-IsAscii (key_text k) (ascii_list (key_text k) (ascii_key k)) ∙ word_text k cs e

-- the token is a test for a name without prefix
record IsTest (cs : List ℕ) (t : Token) : Type 0 where
  fits : fits name_test_class t ≡ true
  written : written_test_in t ≡ test.Exact (record { prefix = []; local = cs })

word_tests : (cs : List ℕ) (o : Option Key) → is_ncname_text cs ≡ true → key_of_word cs ≡ o
    → IsTest cs (word_or_name o cs)
unfolding written_test_in written_in
word_tests cs None h e = record { fits = refl; written = refl }
word_tests cs (Some k) h e =
    let w = key_worded cs k h e in
    record {
      fits = rw w refl;
      written = rw (no_star k w, key_written cs k e) refl;
    }

-- it is read as a step

test_spells : (t : Token) → fits name_test_class t ≡ true → Spells xpath (t ∷ []) (lone_step t)
test_spells t f =
    let test = by production.NameTested refl refl (taken f end) in
    let step = by production.TestStep refl refl (next test (stop end)) in
    let steps = by production.Steps refl refl (next step (stop end)) in
    let path = by production.Unrooted refl refl (next steps end) in
    let unary = by production.Unsigned refl refl (next path end) in
    let casts = by (production.OperatorChain level.Cast) refl refl (next unary (without end)) in
    let castables = by (production.OperatorChain level.Castable) refl refl (next casts (without end)) in
    let treats = by (production.OperatorChain level.Treat) refl refl (next castables (without end)) in
    let instances = by (production.OperatorChain level.InstanceOf) refl refl (next treats (without end)) in
    let crosses = by (production.OperatorChain level.Intersect) refl refl (next instances (stop end)) in
    let unions = by (production.OperatorChain level.Union) refl refl (next crosses (stop end)) in
    let multiplies = by (production.OperatorChain level.Multiplicative) refl refl (next unions (stop end)) in
    let adds = by (production.OperatorChain level.Additive) refl refl (next multiplies (stop end)) in
    let ranges = by (production.OperatorChain level.Range) refl refl (next adds (without end)) in
    let compares = by (production.OperatorChain level.Comparison) refl refl (next ranges (without end)) in
    let ands = by (production.OperatorChain level.And) refl refl (next compares (stop end)) in
    let ors = by (production.OperatorChain level.Or) refl refl (next ands (stop end)) in
    let plain = by production.OperatorExpr refl refl (next ors end) in
    let listing = by production.ExprList refl refl (next plain (stop end)) in
    by production.WholeExpr refl refl (next listing end)

step_flat : (t : Token) → predicate_nest_of (lone_step t) ≡ 0
step_flat t =
    let h = leaf_flat t in
    let e = within-node production.TestStep (leaf t ∷ []) in
    omega arith

test_within : (k : ℕ) (t : Token) → fits name_test_class t ≡ true
    → within_by Predicates k (read_whole xpath (t ∷ [])) ≡ read.Value (lone_step t)
test_within k t f =
    let r : read_whole xpath (t ∷ []) ≡ Some (lone_step t) = spells_runs (test_spells t f) in
    let h : nat_le (predicate_nest_of (lone_step t)) k ≡ true =
    ap (λ n. nat_le n k) (step_flat t) ∙ le-leb 0 k (omega arith) in
    ap (within_by Predicates k) r
    ∙ ap (λ b. cond b (read.Value (lone_step t)) read.TooDeep) h

lone_is : (us xs : List Token) (t : Token) → is_lone_test us ≡ true → us ≡ xs ++ t ∷ []
    → (us ≡ t ∷ []) × (fits name_test_class t ≡ true)
lone_is us [] t h e = (e, subst (λ ts. is_lone_test ts ≡ true) e h)
lone_is us (x ∷ []) t h e = never (subst (λ ts. is_lone_test ts ≡ true) e h)
lone_is us (x ∷ y ∷ xs) t h e = never (subst (λ ts. is_lone_test ts ≡ true) e h)

lone_within : (k : ℕ) (us xs : List Token) (t : Token) (raw : Raw) → is_lone_test us ≡ true
    → us ≡ xs ++ t ∷ [] → raw ≡ lone_step t
    → within_by Predicates k (read_whole xpath us) ≡ read.Value raw
lone_within k us xs t raw h e f =
    let l = lone_is us xs t h e in
    ap (λ ts. within_by Predicates k (read_whole xpath ts)) l.0 ∙ test_within k t l.1
    ∙ ap read.Value (sym f)

pub lone_made : (us xs : List Token) (t : Token) (r : Result Raw AllocError)
    → is_lone_test us ≡ true → us ≡ xs ++ t ∷ [] → IfOk r (λ raw. raw ≡ lone_step t)
    → IfOk r (λ raw. (k : ℕ) → within_by Predicates k (read_whole xpath us) ≡ read.Value raw)
lone_made us xs t (Ok raw) h e f = λ k. lone_within k us xs t raw h e f
lone_made us xs t (Err x) h e f = tt

-- what the step means

found_leaf : (s : Setting) (t : Token) → found_of s (leaf t)
    ≡ record { value = meant.Token t; broken = [] }
found_leaf s t = fold_out-Raw _ _ (leaf t)
    ∙ ap (λ (f : Raw-F Raw). found_layer s (map-Raw Raw Found (found_of s) f)) (outs-Leaf t)

name_tests : (s : Setting) (cs : List ℕ) (t : Token)
    → written_test_in t ≡ test.Exact (record { prefix = []; local = cs })
    → test_on s.prefixes.bound s.prefixes.element_default axis.Child (meant.Token t)
    ≡ named s.prefixes.element_default cs
unfolding test_on defaulted default_in default_name name_test_of name_test uri_in is_empty_text
name_tests s cs t e = rw e refl

name_unbroken : (s : Setting) (cs : List ℕ) (t : Token)
    → written_test_in t ≡ test.Exact (record { prefix = []; local = cs })
    → own s production.TestStep true (meant.Token t) ≡ []
unfolding own_broken test_broken_of test_broken undeclared_in is_empty_text
name_unbroken s cs t e = rw e refl

step_found : (s : Setting) (cs : List ℕ) (t : Token)
    → written_test_in t ≡ test.Exact (record { prefix = []; local = cs })
    → found_of s (lone_step t) ≡ record {
      value = meant.Expr (expr.Step axis.Child (named s.prefixes.element_default cs) []);
      broken = [];
    }
unfolding is_tag is_chain before_last family_of value_in path_value axis_for end_broken
step_found s cs t e = found-node s production.TestStep (leaf t ∷ [])
    ∙ ap (λ f. found_layer s (Node production.TestStep (f ∷ []))) (found_leaf s t)
    ∙ rw (name_tests s cs t e, name_unbroken s cs t e) refl

step_means : (s : Setting) (cs : List ℕ) (t : Token)
    → written_test_in t ≡ test.Exact (record { prefix = []; local = cs })
    → patterns_of s (lone_step t) ≡ name_meant s cs
unfolding expr_of
step_means s cs t e =
    let o = outs-Node production.TestStep (leaf t ∷ []) in
    let same : patterns_of s (lone_step t)
    ≡ alone (step_in false (out-Expr (expr_of (value_of s (lone_step t))))) ∷ [] =
    simp (o) refl in
    same
    ∙ ap (λ (f : Found). alone (step_in false (out-Expr (expr_of f.value))) ∷ []) (step_found s cs
    t e)
    ∙ ap (λ f. alone (step_in false f) ∷ []) (outs-Step axis.Child (named
    s.prefixes.element_default cs) [])

step_unbroken : (s : Setting) (cs : List ℕ) (t : Token)
    → written_test_in t ≡ test.Exact (record { prefix = []; local = cs })
    → pattern_broken s (lone_step t) ≡ []
step_unbroken s cs t e =
    let o = outs-Node production.TestStep (leaf t ∷ []) in
    let same : pattern_broken s (lone_step t) ≡ (found_of s (lone_step t)).broken ++ [] ++ [] =
    simp (o) refl in
    same ∙ ap (λ (f : Found). f.broken ++ [] ++ []) (step_found s cs t e)

step_tested : (t : Token) → has_pattern_tests (lone_step t) ≡ true
step_tested t = simp (outs-Node production.TestStep (leaf t ∷ []), outs-Leaf t) refl

step_pattern : (t : Token) → is_pattern (lone_step t) ≡ true
step_pattern t = rw (outs-Node production.TestStep (leaf t ∷ [])) refl

step_shaped : (s : Setting) (cs : List ℕ) (t : Token)
    → written_test_in t ≡ test.Exact (record { prefix = []; local = cs })
    → shaped s (lone_step t) ≡ value (name_meant s cs)
step_shaped s cs t e =
    let v = lone_step t in
    ap (λ b. cond b (resolved s v) (static (SheetStatic XTSE0340))) (step_pattern t)
    ∙ ap (λ xs. value_or (first (xs ++ left_out s v)) (patterns_of s v)) (step_unbroken s cs t e)
    ∙ ap (λ b. value_or (first (cond (b && list_all have_allowed (patterns_of s v)) [] (SheetStatic
    XTUN0001 ∷ []))) (patterns_of s v)) (step_tested t)
    ∙ ap (λ ps. value_or (first (cond (list_all have_allowed ps) [] (SheetStatic XTUN0001 ∷ [])))
    ps) (step_means s cs t e)

-- what is read of the text

name_read : (s : Setting) (k : ℕ) (cs : List ℕ) (t : Token) → IsTest cs t
    → reading_in s k (Some (t ∷ [])) ≡ value (name_meant s cs)
name_read s k cs t i = ap (answer_of s) (test_within k t i.fits) ∙ step_shaped s cs t i.written

word_read : (s : Setting) (k : ℕ) (cs : List ℕ) → is_ncname_text cs ≡ true
    → pattern_reading s k (Some (word cs ∷ [])) ≡ value (name_meant s cs)
unfolding terms_of
word_read s k cs h =
    name_read s k cs (word_or_name (key_of_word cs) cs) (word_tests cs (key_of_word cs) h refl)

pub name_given : (s : Setting) (k : ℕ) (text : List ℕ) (ps : List Pattern) → IsUtf8 text
    → is_ncname_text (chars text) ≡ true → ps ≡ name_meant s (chars text)
    → GivesText (Ok ps) s k text
name_given s k text ps u h e = (
  Some (word (chars text) ∷ []),
  (
    name_lexed text u h,
    word_read s k (chars text) h ∙ ap value (sym e),
  ),
)
