-- The tokens of paths, types, operators and conditionals are fit.
use Rattle.std.proofs.Common.{◌≡◌, ℕ, List, [], ◌∷◌, Bool, true, false, ◌&&◌, cond}
use Rattle.std.proofs.Common.{not}
use Rattle.std.proofs.Common.{Some, None, is_some}
use Rattle.std.proofs.lemmas.Bool.{and_parts}
use Rattle.xt_names.specs.Classes.{is_xml_text}
use Rattle.xt_names.specs.declared.names.ExprName.{ExprName}
use Rattle.xt_names.specs.declared.kinds.AtomType.{AtomType}
use Rattle.xt_types.specs.declared.axes.Axis.{Axis}
use Rattle.xt_types.specs.declared.axes.Axis.TheVariants as axis
use Rattle.xt_types.specs.declared.node_tests.NameTest.{NameTest}
use Rattle.xt_types.specs.declared.node_tests.Test.{Test}
use Rattle.xt_types.specs.declared.node_tests.Test.TheVariants as test
use Rattle.xt_types.specs.declared.types.Count.{Count}
use Rattle.xt_types.specs.declared.types.Count.TheVariants as count
use Rattle.xt_types.specs.declared.types.ItemType.{ItemType}
use Rattle.xt_types.specs.declared.types.ItemType.TheVariants as item
use Rattle.xt_types.specs.declared.types.SeqType.{SeqType}
use Rattle.xt_types.specs.declared.types.SeqType.TheVariants as sequence
use Rattle.xt_syntax.specs.declared.prefixes.Prefixes.{Prefixes}
use Rattle.closed_queries.specs.Texts.{is_sound_expr_name, is_sound_test, is_sound_name_test}
use Rattle.closed_queries.specs.Texts.{is_sound_item, is_sound_type, is_sound_target}
use Rattle.expr_names.specs.Types.{type_named, call_type}
use Rattle.expr_keys.specs.declared.keys.Key.{Key}
use Rattle.expr_keys.specs.declared.keys.Key.TheVariants as key
use Rattle.expr_keys.specs.declared.tokens.Token.{Token}
use Rattle.expr_keys.specs.declared.tokens.Token.TheVariants as token
use Rattle.expr_keys.specs.declared.productions.Class.{Class}
use Rattle.expr_keys.specs.declared.productions.Class.TheVariants as class
use Rattle.expr_keys.specs.declared.productions.Level.{Level}
use Rattle.expr_keys.specs.declared.productions.Level.TheVariants as level
use Rattle.expr_terms.specs.declared.raws.Raw.{Raw}
use Rattle.expr_terms.specs.declared.raws.Raw.TheViews.{out-Raw}
use Rattle.expr_raws.specs.PathRaws.Forms.{Form, primary, step, single, list, signs, below, said}
use Rattle.expr_raws.specs.PathRaws.Forms.{parenthesized, all_said, all_can}
use Rattle.expr_raws.specs.PathRaws.Names.{fitting, names, spellings, name_token, function_token, tests}
use Rattle.expr_raws.specs.PathRaws.Names.{test_spellings, test_token, qualified}
use Rattle.expr_raws.specs.PathRaws.Paths.{variable_with, variable, call_with, call, leaf_test}
use Rattle.expr_raws.specs.PathRaws.Paths.{named_test, test_form, predicates, stepped, Start, behind}
use Rattle.expr_raws.specs.PathRaws.Paths.{from_root, root, alone, start_of, slash_tokens, slashed}
use Rattle.expr_raws.specs.PathRaws.Paths.{with_token, filtered}
use Rattle.expr_raws.specs.ControlRaws.Operators.{once, is_mark, chain_parts, front_tokens, operand_tokens}
use Rattle.expr_raws.specs.ControlRaws.Operators.{left, tails, many, listed, signed, ArmForm, arms_tokens}
use Rattle.expr_raws.specs.ControlRaws.Operators.{conditional}
use Rattle.expr_raws.specs.ControlRaws.Types.{types, local_name, type_token, kind_form, item_form}
use Rattle.expr_raws.specs.ControlRaws.Types.{mark_tokens, sequence_form, single_with}
use Rattle.expr_raws.specs.ControlRaws.Types.{single_form, type_words, of_type}
use Rattle.token_laws.specs.FitTokens.Keeps.{are_prefixes}
use Rattle.token_laws.proofs.FitTokens.Fits.{Fits, May, one_fits, said_fits, AllFit, all_fit, found}
use Rattle.token_laws.proofs.FitTokens.Names.{first_may, qualified_may, spellings_may, local_sound}
use Rattle.token_laws.proofs.FitTokens.Names.{test_may, atom_named}
use Rattle.xt_names.specs.Characters.{is_char}

pub quoted_may : (cs : List ℕ) → is_xml_text cs ≡ true → May (token.Quoted cs)
unfolding is_xml_text is_char
quoted_may cs e = λ h. e

predicates_fit : (fs : List Form) → AllFit fs → Fits (λ rest. predicates fs rest)
predicates_fit [] s rest g h = h g
predicates_fit (f ∷ fs) s rest g h = said_fits list f s.0
    (token.Key key.CloseBracket ∷ predicates fs rest) g
    (λ x. predicates_fit fs s.1 rest x h)

module _ (p : Prefixes) (ps : are_prefixes p.bound ≡ true) where
  pub name_may : (n : ExprName) → is_sound_expr_name n ≡ true → (t : Token)
      → name_token p.bound [] n ≡ Some t → May t
  name_may n s t e = first_may (fitting class.Name (names p.bound [] n))
      (spellings p.bound n.local) t e (spellings_may p.bound ps n.local (local_sound n s))

  pub variable_fits : (n : ExprName) → is_sound_expr_name n ≡ true → (variable p n).can ≡ true
      → Fits (variable p n).tokens
  variable_fits n s = found (name_token p.bound [] n) variable_with (name_may n s)
      (λ t m c. λ rest g h. one_fits t m rest g h)

  -- the name of a variable
  pub name_fits : (n : ExprName) → is_sound_expr_name n ≡ true
      → (with_token (name_token p.bound [] n) leaf_test).can ≡ true
      → Fits (with_token (name_token p.bound [] n) leaf_test).tokens
  name_fits n s = found (name_token p.bound [] n) leaf_test (name_may n s)
      (λ t m c. one_fits t m)

  pub call_fits : (n : ExprName) (fs : List Form) → is_sound_expr_name n ≡ true
      → (all_can fs ≡ true → AllFit fs) → (call p n fs).can ≡ true → Fits (call p n fs).tokens
  call_fits n fs s a = found (function_token p.bound p.function_default n) (call_with n fs)
      (λ t e. first_may (fitting class.Function (names p.bound p.function_default n))
      (spellings p.bound n.local) t e (spellings_may p.bound ps n.local (local_sound n s)))
      (λ t m c. λ rest g h.
      let last : List Token = token.Key key.CloseParen ∷ rest in
      one_fits t m (token.Key key.OpenParen ∷ all_said single fs last) g
      (λ x. all_fit single fs
      (a (and_parts (not (is_some (call_type (type_named n)))) (all_can fs) c).1) last x h))

  tested : (c : Class) (on : Axis) (n : NameTest) → is_sound_name_test n ≡ true → (t : Token)
      → test_token c p.bound p.element_default on n ≡ Some t → May t
  tested c on n s t e = first_may (fitting c (tests p.bound p.element_default on n))
      (test_spellings p.bound n) t e (test_may p.bound ps n s)

  pub test_fits : (on : Axis) (t : Test) → is_sound_test t ≡ true
      → (test_form p on t).can ≡ true → Fits (test_form p on t).tokens
  unfolding is_sound_test is_sound_target
  test_fits on (test.Named n) s = found
      (test_token class.NameTest p.bound p.element_default on n) leaf_test
      (tested class.NameTest on n s) (λ t m c. one_fits t m)
  test_fits on test.Node s = λ c rest g h. h g
  test_fits on test.Text s = λ c rest g h. h g
  test_fits on test.Comment s = λ c rest g h. h g
  test_fits on test.Doc s = λ c rest g h. h g
  test_fits on (test.Pi None) s = λ c rest g h. h g
  test_fits on (test.Pi (Some cs)) s =
      λ c rest g h. one_fits (token.Quoted cs) (quoted_may cs s)
      (token.Key key.CloseParen ∷ rest) g h
  test_fits on (test.Elem n) s = found
      (test_token class.NameOrStar p.bound p.element_default axis.Child n)
      (named_test key.ElementWord) (tested class.NameOrStar axis.Child n s)
      (λ t m c. λ rest g h. one_fits t m (token.Key key.CloseParen ∷ rest) g h)
  test_fits on (test.Attr n) s = found
      (test_token class.NameOrStar p.bound p.element_default axis.Attribute n)
      (named_test key.AttributeWord) (tested class.NameOrStar axis.Attribute n s)
      (λ t m c. λ rest g h. one_fits t m (token.Key key.CloseParen ∷ rest) g h)

  -- types

  typed_so : (k : AtomType) (t : Token) → type_token p.bound k ≡ Some t → May t
  typed_so k t e = first_may (fitting class.Name (types p.bound k))
      (qualified p.bound (local_name k)) t e
      (qualified_may p.bound ps (local_name k) (atom_named k))

  kind_fits : (t : Test) → is_sound_test t ≡ true → (kind_form p t).can ≡ true
      → Fits (kind_form p t).tokens
  kind_fits (test.Named n) s c = absurd (cc)
  kind_fits test.Node s c = test_fits axis.Child test.Node s c
  kind_fits test.Text s c = test_fits axis.Child test.Text s c
  kind_fits test.Comment s c = test_fits axis.Child test.Comment s c
  kind_fits test.Doc s c = test_fits axis.Child test.Doc s c
  kind_fits (test.Pi o) s c = test_fits axis.Child (test.Pi o) s c
  kind_fits (test.Elem n) s c = test_fits axis.Child (test.Elem n) s c
  kind_fits (test.Attr n) s c = test_fits axis.Child (test.Attr n) s c

  item_fits : (i : ItemType) → is_sound_item i ≡ true → (item_form p i).can ≡ true
      → Fits (item_form p i).tokens
  unfolding is_sound_item
  item_fits item.Any s c = λ rest g h. h g
  item_fits (item.Kind t) s c = kind_fits t s c
  item_fits (item.Atomic k) s c = found (type_token p.bound k) leaf_test (typed_so k)
      (λ t m h. one_fits t m) c

  mark_fits : (c : Count) → Fits (λ rest. mark_tokens c rest)
  mark_fits count.One rest g h = h g
  mark_fits count.Opt rest g h = h g
  mark_fits count.Many rest g h = h g
  mark_fits count.More rest g h = h g

  pub sequence_fits : (t : SeqType) → is_sound_type t ≡ true → (sequence_form p t).can ≡ true
      → Fits (sequence_form p t).tokens
  unfolding is_sound_type
  sequence_fits sequence.Empty s c = λ rest g h. h g
  sequence_fits (sequence.Of t n) s c = λ rest g h. item_fits t s c (mark_tokens n rest) g
      (λ a. mark_fits n rest a h)

  single_with_fits : (b : Bool) (t : Token) → May t → Fits (single_with b t).tokens
  single_with_fits true t m rest g h = one_fits t m (token.Key key.Question ∷ rest) g h
  single_with_fits false t m rest g h = one_fits t m rest g h

  pub single_fits : (k : AtomType) (b : Bool) → (single_form p k b).can ≡ true
      → Fits (single_form p k b).tokens
  single_fits k b = found (type_token p.bound k) (single_with b) (typed_so k)
      (λ t m h. single_with_fits b t m)

  pub step_fits : (on : Axis) (t : Test) (fs : List Form) → is_sound_test t ≡ true
      → (all_can fs ≡ true → AllFit fs) → (stepped p on t fs).can ≡ true
      → Fits (stepped p on t fs).tokens
  step_fits on t fs s a c =
      let k = and_parts (test_form p on t).can (all_can fs) c in
      λ rest g h. test_fits on t s k.0 (predicates fs rest) g
      (λ d. predicates_fit fs (a k.1) rest d h)

pub filter_fits : (a : Form) (fs : List Form) → (a.can ≡ true → Fits a.tokens)
    → (all_can fs ≡ true → AllFit fs) → (filtered a fs).can ≡ true → Fits (filtered a fs).tokens
filter_fits a [] sa s c = absurd (cc)
filter_fits a (f ∷ fs) sa s c =
    let k = and_parts a.can (all_can (f ∷ fs)) c in
    λ rest g h. said_fits primary a (sa k.0) (predicates (f ∷ fs) rest) g
    (λ x. predicates_fit (f ∷ fs) (s k.1) rest x h)

slash_fits : (s : Start) (a b : Form) → Fits a.tokens → Fits b.tokens
    → Fits (λ rest. slash_tokens s a b rest)
slash_fits root a b sa sb rest g h = said_fits step b sb rest g h
slash_fits alone a b sa sb rest g h = said_fits step a sa
    (token.Key key.Slash ∷ said step b rest) g (λ y. said_fits step b sb rest y h)
slash_fits (behind vs) a b sa sb rest g h = sa (token.Key key.Slash ∷ said step b rest) g
    (λ y. said_fits step b sb rest y h)
slash_fits (from_root vs) a b sa sb rest g h = sa (token.Key key.Slash ∷ said step b rest) g
    (λ y. said_fits step b sb rest y h)

pub slashed_fits : (a b : Form) → Fits a.tokens → Fits b.tokens → Fits (slashed a b).tokens
slashed_fits a b sa sb = slash_fits (start_of (out-Raw a.raw)) a b sa sb

-- operators

pub once_fits : (l : Level) (k : Key) (a b : Form) → Fits a.tokens → Fits b.tokens
    → Fits (once l k a b).tokens
once_fits l k a b sa sb rest g h = said_fits (below l) a sa
    (token.Key k ∷ said (below l) b rest) g (λ y. said_fits (below l) b sb rest y h)

front_fits : (us : List Raw) (l : Level) (a : Form) → Fits a.tokens
    → Fits (λ rest. front_tokens us l a rest)
front_fits [] l a s rest g h = said_fits (below l) a s rest g h
front_fits (u ∷ us) l a s rest g h = s rest g h

operand_fits : (l : Level) (k : Key) (a : Form) → Fits a.tokens
    → Fits (λ rest. operand_tokens l k a rest)
operand_fits l k a s = go (is_mark k && a.unmarked)
  where
    go : (b : Bool) → Fits (λ rest. cond b (parenthesized a rest)
        (front_tokens (chain_parts l (out-Raw a.raw)) l a rest))
    go true rest g h = s (token.Key key.CloseParen ∷ rest) g h
    go false rest g h = front_fits (chain_parts l (out-Raw a.raw)) l a s rest g h

pub left_fits : (l : Level) (k : Key) (a b : Form) → Fits a.tokens → Fits b.tokens
    → Fits (left l k a b).tokens
left_fits l k a b sa sb rest g h = operand_fits l k a sa
    (token.Key k ∷ said (below l) b rest) g (λ y. said_fits (below l) b sb rest y h)

tails_fit : (l : Level) (k : Key) (fs : List Form) → AllFit fs
    → Fits (λ rest. tails l k fs rest)
tails_fit l k [] s rest g h = h g
tails_fit l k (f ∷ fs) s rest g h = said_fits (below l) f s.0 (tails l k fs rest) g
    (λ y. tails_fit l k fs s.1 rest y h)

pub many_fit : (l : Level) (k : Key) (fs : List Form) → AllFit fs → (many l k fs).can ≡ true
    → Fits (many l k fs).tokens
many_fit l k [] s c = absurd (cc)
many_fit l k (a ∷ []) s c = absurd (cc)
many_fit l k (a ∷ b ∷ fs) s c = λ rest g h. said_fits (below l) a s.0
    (tails l k (b ∷ fs) rest) g (λ x. tails_fit l k (b ∷ fs) s.1 rest x h)

pub listed_fits : (fs : List Form) → AllFit fs → (listed fs).can ≡ true
    → Fits (listed fs).tokens
listed_fits [] s c = λ rest g h. h g
listed_fits (a ∷ []) s c = absurd (cc)
listed_fits (a ∷ b ∷ fs) s c = all_fit single (a ∷ b ∷ fs) s

pub signed_fits : (k : Key) (a : Form) → Fits a.tokens → Fits (signed k a).tokens
signed_fits k a s rest g h = said_fits signs a s rest g h

words_fit : (l : Level) → Fits (λ rest. type_words l rest)
words_fit level.InstanceOf rest g h = h g
words_fit level.Treat rest g h = h g
words_fit level.Castable rest g h = h g
words_fit _ rest g h = h g

pub typed_fits : (l : Level) (a t : Form) → Fits a.tokens → Fits t.tokens
    → Fits (of_type l a t).tokens
typed_fits l a t sa st rest g h = said_fits (below l) a sa (type_words l (t.tokens rest)) g
    (λ x. words_fit l (t.tokens rest) x (λ y. st rest y h))

abbrev pub AllArms : List ArmForm → Type 0
AllArms [] = Unit {0}
AllArms (a ∷ arms) = (Fits a.test.tokens × Fits a.first.tokens) × AllArms arms

arms_fit : (arms : List ArmForm) → AllArms arms → Fits (λ rest. arms_tokens arms rest)
arms_fit [] s rest g h = h g
arms_fit (a ∷ arms) s rest g h =
    let more : List Token = token.Key key.ElseWord ∷ arms_tokens arms rest in
    said_fits list a.test s.0.0
    (token.Key key.CloseParen ∷ token.Key key.ThenWord ∷ said single a.first more) g
    (λ x. said_fits single a.first s.0.1 more x (λ y. arms_fit arms s.1 rest y h))

pub conditional_fits : (arms : List ArmForm) (e : Form) → AllArms arms → Fits e.tokens
    → Fits (conditional arms e).tokens
conditional_fits arms e s t rest g h = arms_fit arms s (said single e rest) g
    (λ x. said_fits single e t rest x h)
