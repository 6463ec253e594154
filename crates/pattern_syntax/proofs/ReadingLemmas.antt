-- What the reading says of the text.
use Rattle.std.proofs.Common.{◌≡◌, ◌≤◌, ◌<◌, ℕ, Bool, true, false, cond, nat_le, List}
use Rattle.std.proofs.Common.{[], ◌∷◌, ◌++◌, map, length, Option, Some, None, Result, Ok, Err}
use Rattle.std.proofs.Common.{refl, sym, subst, ap, ◌∙◌, ◌+◌, arith}
use Rattle.std.proofs.lemmas.Bool.{le-leb, leb-true, leb-false}
use Rattle.std.proofs.lemmas.Option.{none-some, same_Some}
use Rattle.std.specs.Str.{chars}
use Rattle.xt_names.specs.declared.codes.Code.{Code}
use Rattle.xt_names.specs.declared.codes.Code.TheVariants.{SheetStatic}
use Rattle.xt_names.specs.declared.codes.SheetStaticCode.TheVariants.{XTUN0001, XTSE0340}
use Rattle.xt_syntax.specs.declared.patterns.Pattern.{Pattern}
use Rattle.xt_syntax.specs.declared.prefixes.ParseFault.{ParseFault}
use Rattle.xt_syntax.specs.declared.prefixes.ParseFault.TheVariants.{Syntax, Static, TooDeep}
use Rattle.xt_syntax.specs.declared.prefixes.ParseFault.TheVariants.{Memory}
use Rattle.xpath_lex.specs.declared.lexing.Token.{Token as Lexed}
use Rattle.xpath_lex.specs.Readings.{placed, Tokens, Fault}
use Rattle.xpath_lex.proofs.ReadingLemmas.{tokens_one, tokens_no_fault}
use Rattle.expr_keys.specs.declared.tokens.Token.{Token}
use Rattle.expr_terms.specs.declared.raws.Raw.{Raw}
use Rattle.expr_keys.specs.declared.productions.Language.TheVariants.{Xpath as xpath}
use Rattle.expr_terms.specs.Nest.{raw_nest_of}
use Rattle.expr_tokens.specs.Terms.{Written, written, terms_of}
use Rattle.expr_length.proofs.Within.{spelled_within}
use Rattle.expr_grammar.specs.Machine.{read_whole}
use Rattle.expr_grammar.proofs.Run.{runs_spells, spells_runs}
use Rattle.expr_grammar.specs.ExprNest.Measures.{predicate_nest_of}
use Rattle.expr_grammar.specs.declared.expr_nest.measures.Measure.TheVariants.{Predicates}
use Rattle.expr_grammar.proofs.ExprNest.Within.{within-less}
use Rattle.expr_reader.specs.declared.readings.Reading.TheVariants as read
use Rattle.expr_reader.specs.Answers.{within_by}
use Rattle.expr_names.specs.Answers.{first}
use Rattle.expr_resolve.specs.declared.setting.Setting.{Setting}
use Rattle.expr_resolve.specs.Folds.{broken_of}
use Rattle.xpath_syntax.specs.Spelled.{IsWritten}
use Rattle.xpath_syntax.proofs.ReadingLemmas.{terms_length, only_one}
use Rattle.pattern_forms.specs.PatternShapes.Shapes.{is_pattern}
use Rattle.pattern_syntax.specs.Meant.{patterns_of, pattern_broken, is_allowed, left_out}
use Rattle.pattern_syntax.specs.Readings.{value, syntax, static, too_deep}
use Rattle.pattern_syntax.specs.Readings.{value_or, resolved, shaped, answer_of}
use Rattle.pattern_syntax.specs.Readings.{reading_in, begins_with_key, reading_tokens}
use Rattle.pattern_syntax.specs.Readings.{keyed, unless_key}
use Rattle.pattern_syntax.specs.Readings.{pattern_reading, IsLexed, Gives, GivesText}
use Rattle.pattern_syntax.specs.Spelled.{IsRead, IsKeyForm, IsSupported, IsMeant, Spells}
use Rattle.pattern_syntax.specs.Spelled.{SpellsWithin, shapeless}
use Rattle.pattern_syntax.specs.Spelled.{breaks, unsupported, IsRefused, key_form, refused}
use Rattle.pattern_syntax.specs.Spelled.{IsTooDeep, Parsed}
use Rattle.pattern_syntax.proofs.BrokenLemmas.{pattern_breaks}
use Rattle.pattern_syntax.proofs.KeyLemmas.{no_key}
use Rattle.expr_tokens.specs.TextTokens.Lexed.{unplaced}

-- tokens of the grammar
pub reads_terms : (s : Setting) (k : ℕ) (ts : List Written) (r : Result (List Pattern) ParseFault)
    (o : Option (List Token)) → o ≡ terms_of ts → Gives r (reading_in s k o)
    → Gives r (reading_in s k (terms_of ts))
reads_terms s k ts r o e g = subst (λ x. Gives r (reading_in s k x)) e g

pub ruleset reads = (reads_terms)

-- the tokens of a text
unplaced-placed : (ts : List Lexed) → map written ts ≡ map unplaced (map placed ts)
unplaced-placed [] = refl
unplaced-placed (t ∷ ts) = ap (λ us. written t ∷ us) (unplaced-placed ts)

pub gives_text : (s : Setting) (k : ℕ) (text : List ℕ) (r : Result (List Pattern) ParseFault) (ts
    : List Lexed) → Tokens (length text) false (chars text) (map placed ts)
    → Gives r (reading_tokens s k (map written ts)) → GivesText r s k text
gives_text s k text (Ok ps) ts l g = (
  Some (map written ts),
  (
    (
      map placed ts,
      (
        l,
        unplaced-placed
            ts,
      ),
    ),
    g,
  ),
)
gives_text s k text (Err Syntax) ts l g = (
  Some (map written ts),
  (
    (
      map placed ts,
      (
        l,
        unplaced-placed ts,
      ),
    ),
    g,
  ),
)
gives_text s k text (Err (Static c)) ts l g = (
  Some (map written ts),
  (
    (
      map placed ts,
      (
        l,
        unplaced-placed ts,
      ),
    ),
    g,
  ),
)
gives_text s k text (Err TooDeep) ts l g = (
  Some (map written ts),
  (
    (
      map placed ts,
      (
        l,
        unplaced-placed ts,
      ),
    ),
    g,
  ),
)
gives_text s k text (Err (Memory e)) ts l g = tt

pub gives_fault : (s : Setting) (k : ℕ) (text : List ℕ) (place : ℕ)
    → Fault (length text) false (chars text) place → GivesText (Err Syntax) s k text
gives_fault s k text place f = (None, ((place, f), refl))

pub ruleset texts = (gives_text, gives_fault)

-- .. are one list
pub lexed_once : (text : List ℕ) (a b : Option (List Written)) → IsLexed text a → IsLexed text b
    → a ≡ b
lexed_once text None None x y = refl
lexed_once text None (Some us) x y = absurd (tokens_no_fault _ _ _ _ _ y.1.0 x.1)
lexed_once text (Some ts) None x y = absurd (tokens_no_fault _ _ _ _ _ x.1.0 y.1)
lexed_once text (Some ts) (Some us) x y = ap Some (x.1.1
    ∙ ap (map unplaced) (tokens_one _ _ _ _ _ x.1.0 y.1.0) ∙ sym y.1.1)

-- what is read
is_read : (text : List ℕ) (ts : List Written) (us : List Token) (raw : Raw)
    → IsLexed text (Some ts) → terms_of ts ≡ Some us
    → read_whole xpath us ≡ Some raw → IsRead text raw
is_read text ts us raw l e f = record {
  tokens = ts;
  lexed = l;
  is_written =
      record { terms = us; are = e; spelled = runs_spells f };
}

is_supported : (text : List ℕ) (ts : List Written) (us : List Token) (raw : Raw)
    → IsLexed text (Some ts) → begins_with_key ts ≡ false → terms_of ts ≡ Some us
    → read_whole xpath us ≡ Some raw → IsSupported text raw
unfolding is_read
is_supported text ts us raw l n e f = record { read = is_read text ts us raw l e f; keyless = n }

is_key_form : (text : List ℕ) (ts : List Written) (us : List Token) (raw : Raw)
    → IsLexed text (Some ts) → begins_with_key ts ≡ true → terms_of ts ≡ Some us
    → read_whole xpath us ≡ Some raw → IsKeyForm text
unfolding is_read
is_key_form text ts us raw l n e f = record {
  raw = raw;
  read = is_read text ts us raw l e f;
  keyed = n;
}

not_lexed : (text : List ℕ) → IsLexed text None → (ts : List Written) (raw : Raw)
    → IsLexed text (Some ts) → IsWritten ts raw → ⊥
not_lexed text l ts raw m w = none-some _ (lexed_once text None (Some ts) l m)

same_tokens : (text : List ℕ) (ts us : List Written) → IsLexed text (Some ts)
    → IsLexed text (Some us) → ts ≡ us
same_tokens text ts us l m = same_Some _ _ (lexed_once text (Some ts) (Some us) l m)

not_terms : (text : List ℕ) (ts : List Written) → IsLexed text (Some ts) → terms_of ts ≡ None
    → (us : List Written) (raw : Raw) → IsLexed text (Some us) → IsWritten us raw → ⊥
not_terms text ts l e us raw m w = none-some _ (sym e ∙ ap terms_of (same_tokens text ts us l m)
    ∙ w.are)

not_read : (text : List ℕ) (ts : List Written) (us : List Token) → IsLexed text (Some ts)
    → terms_of ts ≡ Some us → read_whole xpath us ≡ None → (vs : List Written) (raw : Raw)
    → IsLexed text (Some vs) → IsWritten vs raw → ⊥
not_read text ts us l e f vs raw m w = none-some _ (sym f
    ∙ only_one ts us raw e (subst (λ x. IsWritten x raw) (sym (same_tokens text ts vs l m)) w))

too_deep_text : (k : ℕ) (text : List ℕ) (raw : Raw) → IsSupported text raw
    → k < predicate_nest_of raw → IsTooDeep k text
too_deep_text k text raw w n =
    let a : raw_nest_of raw ≤ 1 + length w.read.is_written.terms = spelled_within
    w.read.is_written.spelled in
    let b : length w.read.is_written.terms ≡ length w.read.tokens = terms_length w.read.tokens
    w.read.is_written.terms w.read.is_written.are in
    let c : predicate_nest_of raw ≤ raw_nest_of raw = within-less raw in
    record { raw = raw; supported = w; nests = n; long = omega arith }

-- an answer by the case that it is
module _ (s : Setting) (k : ℕ) (text : List ℕ) where
  for_syntax : (r : Result (List Pattern) ParseFault) → ((ts : List Written) (raw : Raw)
      → IsLexed text (Some ts) → IsWritten ts raw → ⊥) → Gives r syntax → Parsed r s k text
  for_syntax (Ok ps) h g = absurd cc
  for_syntax (Err Syntax) h g = h
  for_syntax (Err (Static c)) h g = absurd cc
  for_syntax (Err TooDeep) h g = absurd cc
  for_syntax (Err (Memory e)) h g = tt

  for_deep : (r : Result (List Pattern) ParseFault) → IsTooDeep k text → Gives r too_deep
      → Parsed r s k text
  for_deep (Ok ps) h g = absurd cc
  for_deep (Err Syntax) h g = absurd cc
  for_deep (Err (Static c)) h g = absurd cc
  for_deep (Err TooDeep) h g = h
  for_deep (Err (Memory e)) h g = tt

  same_static : {a b : Code} → static a ≡ static b → a ≡ b
  same_static e = cc

  same_value : {a b : List Pattern} → value a ≡ value b → a ≡ b
  same_value e = cc

  for_static : (r : Result (List Pattern) ParseFault) (c : Code) → IsRefused s k text c
      → Gives r (static c) → Parsed r s k text
  for_static (Ok ps) c h g = absurd cc
  for_static (Err Syntax) c h g = absurd cc
  for_static (Err (Static d)) c h g = subst (λ x. IsRefused s k text x) (same_static g) h
  for_static (Err TooDeep) c h g = absurd cc
  for_static (Err (Memory e)) c h g = tt

  for_value : (r : Result (List Pattern) ParseFault) (ps : List Pattern)
      → SpellsWithin s k text ps → Gives r (value ps) → Parsed r s k text
  for_value (Ok qs) ps h g = subst (λ x. SpellsWithin s k text x) (same_value g) h
  for_value (Err Syntax) ps h g = absurd cc
  for_value (Err (Static d)) ps h g = absurd cc
  for_value (Err TooDeep) ps h g = absurd cc
  for_value (Err (Memory e)) ps h g = tt

  -- the rules of expressions, and then those of patterns
  first_some : (xs ys : List Code) (c : Code) → first xs ≡ Some c → first (xs ++ ys) ≡ Some c
  first_some [] ys c e = absurd (none-some _ e)
  first_some (x ∷ xs) ys c e = e

  for_allowed : (r : Result (List Pattern) ParseFault) (raw : Raw) (b : Bool) → IsSupported text raw
      → predicate_nest_of raw ≤ k → is_pattern raw ≡ true → broken_of s raw ≡ []
      → is_allowed s raw ≡ b → Gives r (value_or (first (cond b [] (SheetStatic XTUN0001 ∷ [])))
      (patterns_of s raw)) → Parsed r s k text
  for_allowed r raw true w n p b a g = for_value r (patterns_of s raw) (record {
    raw = raw;
    is_read = w.read;
    nests = n;
    is_meant = record {
      shape = p;
      unbroken = b;
      allowed = a;
      means =
          refl;
    };
  }) g
  for_allowed r raw false w n p b a g = for_static r (SheetStatic XTUN0001) (refused w n
      (unsupported p b a)) g

  for_rules : (r : Result (List Pattern) ParseFault) (raw : Raw) (codes : List Code)
      → IsSupported text raw → predicate_nest_of raw ≤ k → is_pattern raw ≡ true
      → broken_of s raw ≡ codes → Gives r (value_or (first (codes ++ left_out s raw)) (patterns_of
      s raw)) → Parsed r s k text
  for_rules r raw [] w n p b g = for_allowed r raw (is_allowed s raw) w n p b refl g
  for_rules r raw (c ∷ cs) w n p b g = for_static r c (refused w n (breaks p (ap first b))) g

  for_shape : (r : Result (List Pattern) ParseFault) (raw : Raw) (b : Bool) → IsSupported text raw
      → predicate_nest_of raw ≤ k → is_pattern raw ≡ b
      → Gives r (cond b (resolved s raw) (static (SheetStatic XTSE0340))) → Parsed r s k text
  for_shape r raw true w n p g = for_rules r raw (broken_of s raw) w n p refl (subst (λ xs. Gives
      r (value_or (first (xs ++ left_out s raw)) (patterns_of s raw))) (pattern_breaks s raw p) g)
  for_shape r raw false w n p g = for_static r (SheetStatic XTSE0340) (refused w n (shapeless p)) g

  for_nest : (r : Result (List Pattern) ParseFault) (raw : Raw) (b : Bool) → IsSupported text raw
      → nat_le (predicate_nest_of raw) k ≡ b
      → Gives r (answer_of s (cond b (read.Value raw) read.TooDeep)) → Parsed r s k text
  for_nest r raw true w e g = for_shape r raw (is_pattern raw) w (leb-true _ _ e) refl g
  for_nest r raw false w e g = for_deep r (too_deep_text k text raw w (leb-false _ _ e)) g

  for_read : (r : Result (List Pattern) ParseFault) (ts : List Written) (us : List Token) (o :
      Option Raw) → IsLexed text (Some ts) → begins_with_key ts ≡ false → terms_of ts ≡ Some us
      → read_whole xpath us ≡ o → Gives r (answer_of s (within_by Predicates k o))
      → Parsed r s k text
  for_read r ts us None l n e f g = for_syntax r (not_read text ts us l e f) g
  for_read r ts us (Some raw) l n e f g = for_nest r raw (nat_le (predicate_nest_of raw) k)
      (is_supported text ts us raw l n e f) refl g

  for_terms : (r : Result (List Pattern) ParseFault) (ts : List Written) (o : Option (List Token))
      → IsLexed text (Some ts) → begins_with_key ts ≡ false → terms_of ts ≡ o
      → Gives r (reading_in s k o) → Parsed r s k text
  for_terms r ts None l n e g = for_syntax r (not_terms text ts l e) g
  for_terms r ts (Some us) l n e g = for_read r ts us (read_whole xpath us) l n e refl g

  -- what begins with `key(` or `id(`
  keyed_value : (o : Option Code) (ps : List Pattern) → keyed (value_or o ps)
      ≡ static (SheetStatic XTUN0001)
  keyed_value None ps = refl
  keyed_value (Some c) ps = refl

  keyed_shape : (raw : Raw) (b : Bool) → keyed (cond b (resolved s raw) (static (SheetStatic
      XTSE0340))) ≡ static (SheetStatic XTUN0001)
  keyed_shape raw true = keyed_value (first (pattern_broken s raw ++ left_out s raw)) (patterns_of
      s raw)
  keyed_shape raw false = refl

  keyed_reading : (raw : Raw) (b : Bool) → keyed (answer_of s (cond b (read.Value raw)
      read.TooDeep)) ≡ static (SheetStatic XTUN0001)
  keyed_reading raw true = keyed_shape raw (is_pattern raw)
  keyed_reading raw false = refl

  for_keyed_read : (r : Result (List Pattern) ParseFault) (ts : List Written) (us : List Token) (o
      : Option Raw) → IsLexed text (Some ts) → begins_with_key ts ≡ true → terms_of ts ≡ Some us
      → read_whole xpath us ≡ o → Gives r (keyed (answer_of s (within_by Predicates k o)))
      → Parsed r s k text
  for_keyed_read r ts us None l n e f g = for_syntax r (not_read text ts us l e f) g
  for_keyed_read r ts us (Some raw) l n e f g = for_static r (SheetStatic XTUN0001) (key_form
      (is_key_form text ts us raw l n e f)) (subst (Gives r) (keyed_reading raw (nat_le
      (predicate_nest_of raw) k)) g)

  for_keyed : (r : Result (List Pattern) ParseFault) (ts : List Written) (o : Option (List Token))
      → IsLexed text (Some ts) → begins_with_key ts ≡ true → terms_of ts ≡ o
      → Gives r (keyed (reading_in s k o)) → Parsed r s k text
  for_keyed r ts None l n e g = for_syntax r (not_terms text ts l e) g
  for_keyed r ts (Some us) l n e g = for_keyed_read r ts us (read_whole xpath us) l n e refl g

  for_key : (r : Result (List Pattern) ParseFault) (ts : List Written) (b : Bool)
      → IsLexed text (Some ts) → begins_with_key ts ≡ b
      → Gives r (unless_key b (reading_in s k (terms_of ts))) → Parsed r s k text
  for_key r ts true l e g = for_keyed r ts (terms_of ts) l e refl g
  for_key r ts false l e g = for_terms r ts (terms_of ts) l e refl g

  for_text : (r : Result (List Pattern) ParseFault) (o : Option (List Written)) → IsLexed text o
      → Gives r (pattern_reading s k o) → Parsed r s k text
  for_text r None l g = for_syntax r (not_lexed text l) g
  for_text r (Some ts) l g = for_key r ts (begins_with_key ts) l refl g

  pub parsed : (r : Result (List Pattern) ParseFault) → GivesText r s k text → Parsed r s k text
  parsed (Ok ps) g = for_text (Ok ps) g.0 g.1.0 g.1.1
  parsed (Err Syntax) g = for_text (Err Syntax) g.0 g.1.0 g.1.1
  parsed (Err (Static c)) g = for_text (Err (Static c)) g.0 g.1.0 g.1.1
  parsed (Err TooDeep) g = for_text (Err TooDeep) g.0 g.1.0 g.1.1
  parsed (Err (Memory e)) g = tt

pub ruleset answers = (parsed)

-- the laws
allowed_none : (s : Setting) (raw : Raw) → is_allowed s raw ≡ true → left_out s raw ≡ []
allowed_none s raw e = rw e refl

meant_resolved : (s : Setting) (raw : Raw) (ps : List Pattern) → IsMeant s raw ps
    → shaped s raw ≡ value ps
meant_resolved s raw ps m =
    let b : pattern_broken s raw ≡ [] = pattern_breaks s raw m.shape ∙ m.unbroken in
    let l : left_out s raw ≡ [] = allowed_none s raw m.allowed in
    let e : resolved s raw ≡ value (patterns_of s raw) = ap (λ xs. value_or (first (xs ++ left_out
    s raw)) (patterns_of s raw)) b ∙ ap (λ xs. value_or (first xs) (patterns_of s raw)) l in
    ap (λ c. cond c (resolved s raw) (static (SheetStatic XTSE0340))) m.shape ∙ e
    ∙ ap value (sym m.means)

pub spelled_reads : (s : Setting) (k : ℕ) (text : List ℕ) (o : Option (List Written)) (ps : List
    Pattern) → IsLexed text o → SpellsWithin s k text ps → pattern_reading s k o ≡ value ps
spelled_reads s k text o ps l w =
    let t : o ≡ Some w.is_read.tokens = lexed_once text o (Some w.is_read.tokens) l
    w.is_read.lexed in
    let f : read_whole xpath w.is_read.is_written.terms ≡ Some w.raw = spells_runs
    w.is_read.is_written.spelled in
    let h : nat_le (predicate_nest_of w.raw) k ≡ true = le-leb _ _ w.nests in
    ap (pattern_reading s k) t
    ∙ ap (λ b. unless_key b (reading_in s k (terms_of w.is_read.tokens))) (no_key w.is_read.tokens
    w.raw w.is_read.is_written w.is_meant.shape)
    ∙ ap (reading_in s k) w.is_read.is_written.are
    ∙ ap (λ o. answer_of s (within_by Predicates k o)) f
    ∙ ap (λ b. answer_of s (cond b (read.Value w.raw) read.TooDeep)) h
    ∙ meant_resolved s w.raw ps w.is_meant

pub reads_spelled : (s : Setting) (k : ℕ) (text : List ℕ) (o : Option (List Written)) (ps : List
    Pattern) → IsLexed text o → pattern_reading s k o ≡ value ps → SpellsWithin s k text ps
reads_spelled s k text o ps l e = parsed s k text (Ok ps) (o, (l, e))

same_raw : (text : List ℕ) (v w : Raw) → IsRead text v → IsRead text w → v ≡ w
same_raw text v w a b =
    let t : b.tokens ≡ a.tokens = same_tokens text b.tokens a.tokens b.lexed a.lexed in
    let f : read_whole xpath a.is_written.terms ≡ Some v = spells_runs a.is_written.spelled in
    let g : read_whole xpath a.is_written.terms ≡ Some w = only_one a.tokens a.is_written.terms w
    a.is_written.are (subst (λ x. IsWritten x w) t b.is_written) in
    same_Some _ _ (sym f ∙ g)

pub spells_once : (s : Setting) (text : List ℕ) (a b : List Pattern) → Spells s text a
    → Spells s text b → a ≡ b
spells_once s text a b x y = x.is_meant.means
    ∙ ap (patterns_of s) (same_raw text x.raw y.raw x.is_read y.is_read) ∙ sym y.is_meant.means
