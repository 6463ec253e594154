-- The tokens of names, node tests, steps, paths and types can be written.
use Rattle.std.proofs.Common.{◌≡◌, ℕ, List, [], ◌∷◌, Bool, true, false, refl, not}
use Rattle.std.proofs.Common.{Some, None, is_some}
use Rattle.std.proofs.lemmas.Bool.{and_parts}
use Rattle.xt_names.specs.declared.names.Binding.{Binding}
use Rattle.xt_names.specs.declared.names.ExprName.{ExprName}
use Rattle.xt_names.specs.declared.kinds.AtomType.{AtomType}
use Rattle.xt_types.specs.declared.axes.Axis.{Axis}
use Rattle.xt_types.specs.declared.axes.Axis.TheVariants as axis
use Rattle.xt_types.specs.declared.node_tests.Test.{Test}
use Rattle.xt_types.specs.declared.node_tests.Test.TheVariants as test
use Rattle.xt_types.specs.declared.types.Count.{Count}
use Rattle.xt_types.specs.declared.types.Count.TheVariants as count
use Rattle.xt_types.specs.declared.types.ItemType.{ItemType}
use Rattle.xt_types.specs.declared.types.ItemType.TheVariants as item
use Rattle.xt_types.specs.declared.types.SeqType.{SeqType}
use Rattle.xt_types.specs.declared.types.SeqType.TheVariants as sequence
use Rattle.xt_syntax.specs.declared.prefixes.Prefixes.{Prefixes}
use Rattle.expr_names.specs.Types.{type_named, call_type}
use Rattle.expr_keys.specs.Classes.{fits}
use Rattle.expr_keys.specs.declared.keys.Key.{Key}
use Rattle.expr_keys.specs.declared.keys.Key.TheVariants as key
use Rattle.expr_keys.specs.declared.tokens.Token.{Token}
use Rattle.expr_keys.specs.declared.tokens.Token.TheVariants as token
use Rattle.expr_keys.specs.declared.productions.Class.{Class}
use Rattle.expr_keys.specs.declared.productions.Class.TheVariants as class
use Rattle.expr_keys.specs.declared.productions.Production.TheVariants as production
use Rattle.expr_terms.specs.declared.raws.Raw.TheViews.{out-Raw}
use Rattle.query_pieces.specs.declared.contexts.Change.TheVariants as change
use Rattle.query_pieces.specs.Points.{change_of_key}
use Rattle.expr_raws.specs.PathRaws.Forms.{Form, primary, step, single, list, all_said, all_can}
use Rattle.expr_raws.specs.PathRaws.Names.{names, spellings, name_token, function_token, tests}
use Rattle.expr_raws.specs.PathRaws.Names.{test_spellings, test_token, qualified}
use Rattle.expr_raws.specs.PathRaws.Paths.{with_token, variable_with, variable, call_with, call, axis_key}
use Rattle.expr_raws.specs.PathRaws.Paths.{plain_kind}
use Rattle.expr_raws.specs.PathRaws.Paths.{leaf_test, named_test, test_form, predicates, stepped, Start}
use Rattle.expr_raws.specs.PathRaws.Paths.{behind, from_root, root, alone, start_of, slash_raw}
use Rattle.expr_raws.specs.PathRaws.Paths.{slash_tokens, slashed, filtered, root_form}
use Rattle.expr_raws.proofs.PathRaws.Paths.{fitting_sound}
use Rattle.expr_raws.specs.ControlRaws.Types.{types, local_name, type_token, kind_form, item_form}
use Rattle.expr_raws.specs.ControlRaws.Types.{mark_tokens, sequence_form, single_with}
use Rattle.expr_raws.specs.ControlRaws.Types.{single_form}
use Rattle.expr_raws.specs.ElementRaws.Direct.{is_element}
use Rattle.token_laws.proofs.WrittenTokens.Says.{Says, clash, Stays, one_says, key_stays, key_says}
use Rattle.token_laws.proofs.WrittenTokens.Says.{said_says, AllSay, all_says, Inside, Written, no_child}
use Rattle.token_laws.proofs.WrittenTokens.Says.{plain, found}

-- a key of a class that braces are not in
calm_but : (f : Key → Bool) → f key.OpenBrace ≡ false → f key.CloseBrace ≡ false → (k : Key)
    → f k ≡ true → change_of_key k ≡ change.Stays
calm_but f o c key.OpenBrace e = clash (f key.OpenBrace) o e
calm_but f o c key.CloseBrace e = clash (f key.CloseBrace) c e
calm_but f o c _ e = refl

key_case : (c : Class) → fits c (token.Key key.OpenBrace) ≡ false
    → fits c (token.Key key.CloseBrace) ≡ false → (k : Key) → fits c (token.Key k) ≡ true
    → Stays (token.Key k)
key_case c o d k e = key_stays k (calm_but (λ x. fits c (token.Key x)) o d k e)

pub name_stays : (t : Token) → fits class.Name t ≡ true → Stays t
name_stays (token.Key k) e = key_case class.Name refl refl k e
name_stays (token.Name n) e = record { token = λ h. h; calm = refl }
name_stays (token.Qname p n) e = record { token = λ h. h; calm = refl }
name_stays _ e = absurd (cc)

pub word_stays : (t : Token) → fits class.Word t ≡ true → Stays t
word_stays (token.Key k) e = key_case class.Word refl refl k e
word_stays (token.Name n) e = record { token = λ h. h; calm = refl }
word_stays _ e = absurd (cc)

function_stays : (t : Token) → fits class.Function t ≡ true → Stays t
function_stays (token.Key k) e = key_case class.Function refl refl k e
function_stays (token.Name n) e = record { token = λ h. h; calm = refl }
function_stays (token.Qname p n) e = record { token = λ h. h; calm = refl }
function_stays _ e = absurd (cc)

test_stays : (t : Token) → fits class.NameTest t ≡ true → Stays t
test_stays (token.Key k) e = key_case class.NameTest refl refl k e
test_stays (token.Name n) e = record { token = λ h. h; calm = refl }
test_stays (token.Qname p n) e = record { token = λ h. h; calm = refl }
test_stays (token.AnyLocal p) e = record { token = λ h. h; calm = refl }
test_stays (token.AnyPrefix n) e = record { token = λ h. h; calm = refl }
test_stays _ e = absurd (cc)

star_stays : (t : Token) → fits class.NameOrStar t ≡ true → Stays t
star_stays (token.Key k) e = key_case class.NameOrStar refl refl k e
star_stays (token.Name n) e = record { token = λ h. h; calm = refl }
star_stays (token.Qname p n) e = record { token = λ h. h; calm = refl }
star_stays _ e = absurd (cc)

pub quoted_stays : (cs : List ℕ) → Stays (token.Quoted cs)
quoted_stays cs = record { token = λ h. h; calm = refl }

named_so : (bound : List Binding) (default : List ℕ) (n : ExprName) (t : Token)
    → name_token bound default n ≡ Some t → Stays t
named_so bound default n t e = name_stays t
    (fitting_sound class.Name (names bound default n) (spellings bound n.local) t e).0

pub variable_written : (p : Prefixes) (n : ExprName) → (variable p n).can ≡ true
    → Written (variable p n)
variable_written p n = found Written (name_token p.bound [] n) variable_with
    (named_so p.bound [] n) (λ t s c. plain _ production.Variable _ refl refl
    (λ cs i rest g h. key_says key.Dollar refl cs i (t ∷ rest) g
    (λ a. one_says t s cs i rest a h)))

-- the name of a variable
pub name_says : (p : Prefixes) (n : ExprName)
    → (with_token (name_token p.bound [] n) leaf_test).can ≡ true
    → Says (with_token (name_token p.bound [] n) leaf_test).tokens
name_says p n = found (λ f. Says f.tokens) (name_token p.bound [] n) leaf_test
    (named_so p.bound [] n) (λ t s c. one_says t s)

pub call_written : (p : Prefixes) (n : ExprName) (fs : List Form) → (all_can fs ≡ true → AllSay fs)
    → (call p n fs).can ≡ true → Written (call p n fs)
call_written p n fs s = found Written (function_token p.bound p.function_default n)
    (call_with n fs) (λ t e. function_stays t (fitting_sound class.Function
    (names p.bound p.function_default n) (spellings p.bound n.local) t e).0)
    (λ t k c. plain _ production.Call _ refl refl
    (λ cs i rest g h. one_says t k cs i (token.Key key.OpenParen ∷ all_said single fs
    (token.Key key.CloseParen ∷ rest)) g
    (λ a. key_says key.OpenParen refl cs i (all_said single fs (token.Key key.CloseParen ∷ rest)) a
    (λ b. all_says single fs
    (s (and_parts (not (is_some (call_type (type_named n)))) (all_can fs) c).1) cs i
    (token.Key key.CloseParen ∷ rest) b
    (λ d. key_says key.CloseParen refl cs i rest d h)))))

axis_calm : (on : Axis) → change_of_key (axis_key on) ≡ change.Stays
axis_calm axis.Child = refl
axis_calm _ = refl

-- a word with parentheses
kind_says : (k : Key) → change_of_key k ≡ change.Stays → Says (plain_kind k).tokens
kind_says k e cs i rest g h = key_says k e cs i (token.Key key.OpenParen
    ∷ token.Key key.CloseParen ∷ rest) g
    (λ a. key_says key.OpenParen refl cs i (token.Key key.CloseParen ∷ rest) a
    (λ b. key_says key.CloseParen refl cs i rest b h))

-- .. and a token in them
kind_with : (k : Key) → change_of_key k ≡ change.Stays → (t : Token) → Stays t
    → Says (named_test k t).tokens
kind_with k e t s cs i rest g h = key_says k e cs i (token.Key key.OpenParen ∷ t
    ∷ token.Key key.CloseParen ∷ rest) g
    (λ a. key_says key.OpenParen refl cs i (t ∷ token.Key key.CloseParen ∷ rest) a
    (λ b. one_says t s cs i (token.Key key.CloseParen ∷ rest) b
    (λ c. key_says key.CloseParen refl cs i rest c h)))

pub test_says : (p : Prefixes) (on : Axis) (t : Test) → (test_form p on t).can ≡ true
    → Says (test_form p on t).tokens
test_says p on (test.Named n) = found (λ f. Says f.tokens)
    (test_token class.NameTest p.bound p.element_default on n) leaf_test
    (λ t e. test_stays t (fitting_sound class.NameTest (tests p.bound p.element_default on n)
    (test_spellings p.bound n) t e).0) (λ t s c. one_says t s)
test_says p on test.Node = λ c. kind_says key.NodeWord refl
test_says p on test.Text = λ c. kind_says key.TextWord refl
test_says p on test.Comment = λ c. kind_says key.CommentWord refl
test_says p on test.Doc = λ c. kind_says key.DocumentNodeWord refl
test_says p on (test.Pi None) = λ c. kind_says key.ProcessingInstructionWord refl
test_says p on (test.Pi (Some cs)) =
    λ c. kind_with key.ProcessingInstructionWord refl (token.Quoted cs) (quoted_stays cs)
test_says p on (test.Elem n) = found (λ f. Says f.tokens)
    (test_token class.NameOrStar p.bound p.element_default axis.Child n)
    (named_test key.ElementWord) (λ t e. star_stays t (fitting_sound class.NameOrStar
    (tests p.bound p.element_default axis.Child n) (test_spellings p.bound n) t e).0)
    (λ t s c. kind_with key.ElementWord refl t s)
test_says p on (test.Attr n) = found (λ f. Says f.tokens)
    (test_token class.NameOrStar p.bound p.element_default axis.Attribute n)
    (named_test key.AttributeWord) (λ t e. star_stays t (fitting_sound class.NameOrStar
    (tests p.bound p.element_default axis.Attribute n) (test_spellings p.bound n) t e).0)
    (λ t s c. kind_with key.AttributeWord refl t s)

predicates_say : (fs : List Form) → AllSay fs → Says (λ rest. predicates fs rest)
predicates_say [] s cs i rest g h = h g
predicates_say (f ∷ fs) s cs i rest g h = key_says key.OpenBracket refl cs i _ g
    (λ a. said_says list f s.0 cs i _ a (λ b. key_says key.CloseBracket refl cs i _ b
    (λ c. predicates_say fs s.1 cs i rest c h)))

pub step_written : (p : Prefixes) (on : Axis) (t : Test) (fs : List Form)
    → (all_can fs ≡ true → AllSay fs) → (stepped p on t fs).can ≡ true
    → Written (stepped p on t fs)
step_written p on t fs s c =
    let k = and_parts (test_form p on t).can (all_can fs) c in
    plain _ production.AxisStep _ refl refl (λ cs i rest g h.
    let more : List Token = predicates fs rest in
    let tested : List Token = (test_form p on t).tokens more in
    key_says (axis_key on) (axis_calm on) cs i (token.Key key.Colons ∷ tested) g
    (λ a. key_says key.Colons refl cs i tested a (λ b. test_says p on t k.0 cs i more b
    (λ d. predicates_say fs (s k.1) cs i rest d h))))

slash_says : (s : Start) (a b : Form) → Says a.tokens → Says b.tokens
    → Says (λ rest. slash_tokens s a b rest)
slash_says root a b sa sb cs i rest g h = key_says key.Slash refl cs i _ g
    (λ x. said_says step b sb cs i rest x h)
slash_says alone a b sa sb cs i rest g h = said_says step a sa cs i _ g
    (λ x. key_says key.Slash refl cs i _ x (λ y. said_says step b sb cs i rest y h))
slash_says (behind vs) a b sa sb cs i rest g h = sa cs i _ g
    (λ x. key_says key.Slash refl cs i _ x (λ y. said_says step b sb cs i rest y h))
slash_says (from_root vs) a b sa sb cs i rest g h = sa cs i _ g
    (λ x. key_says key.Slash refl cs i _ x (λ y. said_says step b sb cs i rest y h))

pub slashed_written : (a b : Form) → Says a.tokens → Says b.tokens → Written (slashed a b)
slashed_written a b sa sb = record {
  whole = slash_says (start_of (out-Raw a.raw)) a b sa sb;
  child = go (start_of (out-Raw a.raw));
}
  where
    go : (s : Start) → is_element (out-Raw (slash_raw s a b)) ≡ true
        → Inside (slashed a b).tokens
    go (behind vs) h = no_child production.Steps _ refl h
    go (from_root vs) h = no_child production.RootSteps _ refl h
    go root h = no_child production.RootSteps _ refl h
    go alone h = no_child production.Steps _ refl h

pub filter_written : (a : Form) (fs : List Form) → (a.can ≡ true → Says a.tokens)
    → (all_can fs ≡ true → AllSay fs) → (filtered a fs).can ≡ true → Written (filtered a fs)
filter_written a [] sa s c = absurd (cc)
filter_written a (f ∷ fs) sa s c =
    let k = and_parts a.can (all_can (f ∷ fs)) c in
    plain _ production.FilterStep _ refl refl (λ cs i rest g h.
    said_says primary a (sa k.0) cs i (predicates (f ∷ fs) rest) g
    (λ x. predicates_say (f ∷ fs) (s k.1) cs i rest x h))

pub root_written : Written root_form
root_written = plain _ production.Parens _ refl refl (λ cs i rest g h.
    key_says key.OpenParen refl cs i (token.Key key.Slash ∷ token.Key key.CloseParen ∷ rest) g
    (λ a. key_says key.Slash refl cs i (token.Key key.CloseParen ∷ rest) a
    (λ b. key_says key.CloseParen refl cs i rest b h)))

-- types

typed_so : (p : Prefixes) (k : AtomType) (t : Token) → type_token p.bound k ≡ Some t → Stays t
typed_so p k t e = name_stays t
    (fitting_sound class.Name (types p.bound k) (qualified p.bound (local_name k)) t e).0

kind_form_says : (p : Prefixes) (t : Test) → (kind_form p t).can ≡ true
    → Says (kind_form p t).tokens
kind_form_says p (test.Named n) c = absurd (cc)
kind_form_says p test.Node c = test_says p axis.Child test.Node c
kind_form_says p test.Text c = test_says p axis.Child test.Text c
kind_form_says p test.Comment c = test_says p axis.Child test.Comment c
kind_form_says p test.Doc c = test_says p axis.Child test.Doc c
kind_form_says p (test.Pi o) c = test_says p axis.Child (test.Pi o) c
kind_form_says p (test.Elem n) c = test_says p axis.Child (test.Elem n) c
kind_form_says p (test.Attr n) c = test_says p axis.Child (test.Attr n) c

item_says : (p : Prefixes) (i : ItemType) → (item_form p i).can ≡ true
    → Says (item_form p i).tokens
item_says p item.Any c = kind_says key.ItemWord refl
item_says p (item.Kind t) c = kind_form_says p t c
item_says p (item.Atomic k) c = found (λ f. Says f.tokens) (type_token p.bound k) leaf_test
    (typed_so p k) (λ t s h. one_says t s) c

mark_says : (c : Count) → Says (λ rest. mark_tokens c rest)
mark_says count.One cs i rest g h = h g
mark_says count.Opt cs i rest g h = key_says key.Question refl cs i rest g h
mark_says count.Many cs i rest g h = key_says key.Star refl cs i rest g h
mark_says count.More cs i rest g h = key_says key.Plus refl cs i rest g h

pub sequence_says : (p : Prefixes) (t : SeqType) → (sequence_form p t).can ≡ true
    → Says (sequence_form p t).tokens
sequence_says p sequence.Empty c = kind_says key.EmptySequenceWord refl
sequence_says p (sequence.Of t n) c = λ cs i rest g h. item_says p t c cs i (mark_tokens n rest) g
    (λ a. mark_says n cs i rest a h)

single_with_says : (b : Bool) (t : Token) → Stays t → Says (single_with b t).tokens
single_with_says true t s cs i rest g h = one_says t s cs i (token.Key key.Question ∷ rest) g
    (λ a. key_says key.Question refl cs i rest a h)
single_with_says false t s cs i rest g h = one_says t s cs i rest g h

pub single_says : (p : Prefixes) (k : AtomType) (b : Bool) → (single_form p k b).can ≡ true
    → Says (single_form p k b).tokens
single_says p k b = found (λ f. Says f.tokens) (type_token p.bound k) (single_with b)
    (typed_so p k) (λ t s h. single_with_says b t s)
