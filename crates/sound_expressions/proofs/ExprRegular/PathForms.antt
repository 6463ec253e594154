-- What the productions of paths and primary expressions mean.
use Rattle.std.proofs.Common.{◌≡◌, ℕ, List, [], ◌∷◌, Bool, true, false, ◌||◌, Option, Some}
use Rattle.std.proofs.Common.{None, refl}
use Rattle.xt_names.specs.Classes.{is_xml_text}
use Rattle.xt_names.specs.declared.kinds.AtomType.{AtomType}
use Rattle.xt_names.specs.declared.names.Binding.{Binding}
use Rattle.xt_names.specs.declared.names.ExprName.{ExprName}
use Rattle.xt_types.specs.Regular.{is_regular_test, is_named}
use Rattle.xt_types.specs.declared.axes.Axis.{Axis}
use Rattle.xt_types.specs.declared.axes.Axis.TheVariants as axis
use Rattle.xt_types.specs.declared.node_tests.NameTest.{NameTest}
use Rattle.xt_types.specs.declared.node_tests.Test.{Test}
use Rattle.xt_types.specs.declared.node_tests.Test.TheVariants as test
use Rattle.xt_syntax.specs.declared.exprs.Expr.{Expr}
use Rattle.xt_syntax.specs.declared.exprs.Expr.TheVariants as expr
use Rattle.closed_queries.specs.Texts.{is_sound_expr_name, is_sound_test, is_sound_target}
use Rattle.expr_names.specs.Names.{default_in, expr_name}
use Rattle.expr_names.specs.Types.{type_named, call_type, arity_broken}
use Rattle.expr_keys.specs.Classes.{fits, fits_digits, fits_quoted}
use Rattle.expr_keys.specs.Tokens.{fits_name}
use Rattle.expr_keys.specs.declared.keys.Key.{Key}
use Rattle.expr_keys.specs.declared.keys.Key.TheVariants as key
use Rattle.expr_keys.specs.declared.tokens.Token.{Token}
use Rattle.expr_keys.specs.declared.tokens.Token.TheVariants as token
use Rattle.expr_keys.specs.declared.productions.Class.TheVariants as class
use Rattle.expr_rules.specs.declared.expr_meant.meant.Meant.{Meant}
use Rattle.expr_rules.specs.ExprMeant.Names.{written_in, target_in}
use Rattle.expr_rules.specs.ExprMeant.Parts.{expr_of, exprs_of}
use Rattle.expr_rules.specs.Known.{name_test_of}
use Rattle.expr_rules.specs.Rules.{test_broken_of, args_in}
use Rattle.expr_resolve.specs.ExprPrimaries.ExprPaths.Paths.{deep, stepped, path_from}
use Rattle.expr_resolve.specs.ExprPrimaries.ExprPaths.Primaries.{literal_in, called}
use Rattle.expr_resolve.specs.ExprPrimaries.ExprPaths.Steps.{defaulted, test_on, step_on, plain_kind_of}
use Rattle.expr_resolve.specs.ExprPrimaries.ExprPaths.Steps.{target_of, named_kind_of}
use Rattle.sound_expressions.specs.SoundForms.Sound.{is_sound_token, SoundUri, SoundBindings}
use Rattle.sound_expressions.proofs.SoundForms.NameLemmas.{GoodTest, GoodKindName, test_good, default_good, kind_good}
use Rattle.sound_expressions.proofs.SoundForms.NameLemmas.{default_kind, name_written, word_written}
use Rattle.sound_expressions.proofs.SoundForms.NameLemmas.{function_written, expr_name_good, name_is_text, call_cast}
use Rattle.sound_expressions.proofs.SoundForms.NameLemmas.{call_plain, no_uri}
use Rattle.sound_expressions.proofs.SoundForms.FormLemmas.{Fine, Form, AllFine, form_slash, form_step}
use Rattle.sound_expressions.proofs.SoundForms.FormLemmas.{form_int, form_str, form_var, form_call, form_cast}
use Rattle.sound_expressions.proofs.ExprRegular.Claims.{IsMore, more_step, more_deep, IsNodeTest, test_named}
use Rattle.sound_expressions.proofs.ExprRegular.Claims.{test_kind, GoodKind, IsToken, token_is, AreArguments}
use Rattle.sound_expressions.proofs.ExprRegular.Claims.{arguments_are}
use Rattle.sound_expressions.proofs.ExprRegular.Lists.{All}

-- steps after one another
plain_test : (is_regular_test test.Node ≡ true) × (is_sound_test test.Node ≡ true)
unfolding is_regular_test is_sound_test
plain_test = (refl, refl)

pub node_step : (on : Axis) (es : List Expr) → AllFine es → Form (expr.Step on test.Node es)
node_step on es f = form_step on test.Node es plain_test.0 plain_test.1 f

pub deep_form : (a : Expr) → Fine a → Form (deep a)
deep_form a f = form_slash a (expr.Step axis.DescendantOrSelf test.Node []) f
    (node_step axis.DescendantOrSelf [] tt).fine

pub stepped_form : (a : Expr) (m : Meant) → Fine a → IsMore m → Form (stepped a m)
unfolding stepped expr_of
stepped_form a _ f (more_step {e = e} g) = form_slash a e f g
stepped_form a _ f (more_deep {e = e} g) = form_slash (deep a) e (deep_form a f).fine g

pub path_form : (a : Expr) (ms : List Meant) → Form a → All IsMore ms → Form (path_from a ms)
path_form a [] f g = f
path_form a (m ∷ ms) f g = path_form (stepped a m) ms (stepped_form a m f.fine g.0) g.1

-- steps
pub record GoodOn (t : Test) : Type 0 where
  pub regular : is_regular_test t ≡ true
  pub sound : is_sound_test t ≡ true

named_on : (n : NameTest) → GoodTest n → GoodOn (test.Named n)
unfolding is_regular_test is_sound_test
named_on n g = record { regular = g.regular; sound = g.sound }

defaulted_good : (default : List ℕ) (on : Axis) (n : NameTest) → SoundUri default → GoodTest n
    → GoodTest (defaulted default on n)
unfolding defaulted
defaulted_good default axis.Attribute n d g = g
defaulted_good default _ n d g = default_good default n d g

pub test_on_good : (bound : List Binding) (default : List ℕ) (on : Axis) (m : Meant)
    → SoundBindings bound → SoundUri default → IsNodeTest m → test_broken_of bound m ≡ []
    → GoodOn (test_on bound default on m)
unfolding test_on name_test_of test_broken_of
test_on_good bound default on _ u d (test_named {t = t} f s) e =
    named_on _ (defaulted_good default on _ d (test_good bound t u f s e))
test_on_good bound default on _ u d (test_kind g) e =
    record { regular = g.regular; sound = g.sound }

pub step_on_form : (bound : List Binding) (default : List ℕ) (on : Axis) (m : Meant)
    (ms : List Meant) → SoundBindings bound → SoundUri default → IsNodeTest m
    → test_broken_of bound m ≡ [] → AllFine (exprs_of ms)
    → Form (step_on bound default on (m ∷ ms))
step_on_form bound default on m ms u d t e f =
    let g = test_on_good bound default on m u d t e in
    form_step on (test_on bound default on m) (exprs_of ms) g.regular g.sound f

-- kind tests
pub plain_kind_good : (k : Key) → GoodKind (plain_kind_of k)
unfolding plain_kind_of is_regular_test is_sound_test is_named
plain_kind_good key.TextWord = record { regular = refl; sound = refl; kind = refl }
plain_kind_good key.CommentWord = record { regular = refl; sound = refl; kind = refl }
plain_kind_good key.DocumentNodeWord = record { regular = refl; sound = refl; kind = refl }
plain_kind_good _ = record { regular = refl; sound = refl; kind = refl }

pi_good : (target : Option (List ℕ)) → is_sound_target target ≡ true → GoodKind (test.Pi target)
unfolding is_regular_test is_sound_test is_named
pi_good target e = record { regular = refl; sound = e; kind = refl }

pub no_target : GoodKind (test.Pi None)
unfolding is_sound_target
no_target = pi_good None refl

target_text : (t : Token) → fits class.Target t ≡ true → is_sound_token t ≡ true
    → is_xml_text (target_in t) ≡ true
unfolding target_in
target_text (token.Quoted cs) f s = s
target_text (token.Key k) f s =
    name_is_text _ (word_written (token.Key k) (or_none _ f) s).local
  where
    or_none : (a : Bool) → (a || false) ≡ true → a ≡ true
    or_none true e = refl
    or_none false e = absurd cc
target_text (token.Name n) f s = name_is_text _ (word_written (token.Name n) refl s).local
target_text _ f s = absurd cc

pub pi_target : (m : Meant) → IsToken class.Target m → GoodKind (test.Pi (target_of m))
unfolding target_of is_sound_target
pi_target _ (token_is {t = t} f s) = pi_good (Some (target_in t)) (target_text t f s)

elem_good : (n : NameTest) → GoodKindName n → GoodKind (test.Elem n)
unfolding is_regular_test is_sound_test is_named
elem_good n g = record { regular = g.kind; sound = g.sound; kind = refl }

attr_good : (n : NameTest) → GoodKindName n → GoodKind (test.Attr n)
unfolding is_regular_test is_sound_test is_named
attr_good n g = record { regular = g.kind; sound = g.sound; kind = refl }

pub named_kind_good : (default : List ℕ) (k : Key) (n : NameTest) → SoundUri default
    → GoodKindName n → GoodKind (named_kind_of default k n)
unfolding named_kind_of
named_kind_good default key.ElementWord n d g =
    elem_good (default_in default n) (default_kind default n d g)
named_kind_good default _ n d g = attr_good n g

pub kind_name_good : (bound : List Binding) (m : Meant) → SoundBindings bound
    → IsToken class.NameOrStar m → GoodKindName (name_test_of bound m)
unfolding name_test_of
kind_name_good bound _ u (token_is {t = t} f s) = kind_good bound t u f s

-- primary expressions
pub number_form : (t : Token) → fits_digits t ≡ true → Form (literal_in t)
unfolding literal_in
number_form (token.Digits n) f = form_int n f
number_form _ f = absurd cc

pub literal_form : (t : Token) → fits_quoted t ≡ true → is_sound_token t ≡ true
    → Form (literal_in t)
unfolding literal_in
literal_form (token.Quoted cs) f s = form_str cs s
literal_form _ f s = absurd cc

pub variable_form : (bound : List Binding) (t : Token) → SoundBindings bound
    → fits_name t ≡ true → is_sound_token t ≡ true
    → Form (expr.Var (expr_name bound [] (written_in t)))
variable_form bound t u f s =
    form_var _ (expr_name_good bound [] (written_in t) u no_uri (name_written t f s))

cast_form : (n : ExprName) (k : AtomType) (args : List Expr) → call_type (type_named n) ≡ Some k
    → AllFine args → arity_broken (Some k) args ≡ [] → Form (called n (Some k) args)
unfolding called arity_broken
cast_form n k [] c f e = absurd cc
cast_form n k (a ∷ []) c f e = form_cast a k true f.0 (call_cast (type_named n) k c)
cast_form n k (a ∷ b ∷ args) c f e = absurd cc

called_by : (n : ExprName) (args : List Expr) (o : Option AtomType)
    → call_type (type_named n) ≡ o → is_sound_expr_name n ≡ true → AllFine args
    → arity_broken o args ≡ [] → Form (called n o args)
unfolding called
called_by n args None c s a h = form_call n args (call_plain n c) s a
called_by n args (Some k) c s a h = cast_form n k args c a h

pub called_form : (bound : List Binding) (functions : List ℕ) (t : Token) (args : List Expr)
    → SoundBindings bound → SoundUri functions → fits class.Function t ≡ true
    → is_sound_token t ≡ true → AllFine args
    → arity_broken (call_type (type_named (expr_name bound functions (written_in t)))) args ≡ []
    → Form (called (expr_name bound functions (written_in t))
    (call_type (type_named (expr_name bound functions (written_in t)))) args)
called_form bound functions t args u d f s a e =
    called_by (expr_name bound functions (written_in t)) args _ refl
    (expr_name_good bound functions (written_in t) u d (function_written t f s)) a e

pub args_fine : (m : Meant) → AreArguments m → AllFine (args_in m)
unfolding args_in
args_fine _ (arguments_are f) = f
