-- Variables, calls, steps and paths as raw values, and their tokens (XPath 2.0, 3.1 and 3.2).
use Rattle.std.specs.Prelude.{Bool, true, false, ◌&&◌, not, List, [], ◌∷◌, ◌++◌}
use Rattle.std.specs.Prelude.{Option, Some, None, is_some, if◌then◌else◌}
use Rattle.xt_names.specs.declared.names.ExprName.{ExprName}
use Rattle.xt_types.specs.declared.axes.Axis.{Axis}
use Rattle.xt_types.specs.declared.axes.Axis.TheVariants as axis
use Rattle.xt_types.specs.declared.node_tests.Test.{Test}
use Rattle.xt_types.specs.declared.node_tests.Test.TheVariants as test
use Rattle.xt_syntax.specs.declared.prefixes.Prefixes.{Prefixes}
use Rattle.expr_names.specs.Types.{type_named, call_type}
use Rattle.expr_keys.specs.declared.keys.Key.{Key}
use Rattle.expr_keys.specs.declared.keys.Key.TheVariants as key
use Rattle.expr_keys.specs.declared.tokens.Token.{Token}
use Rattle.expr_keys.specs.declared.tokens.Token.TheVariants as token
use Rattle.expr_keys.specs.declared.productions.Class.TheVariants as class
use Rattle.expr_keys.specs.declared.productions.Production.{Production}
use Rattle.expr_keys.specs.declared.productions.Production.TheVariants as production
use Rattle.expr_terms.specs.declared.raws.Raw.{Raw}
use Rattle.expr_terms.specs.declared.raws.Raw.TheVariants.{Leaf as leaf, Node as node}
use Rattle.expr_terms.specs.declared.raws.Raw.TheViews.{out-Raw}
use Rattle.expr_terms.specs.declared.raws.Raw.TheOpen.{Raw-F, Node}
use Rattle.expr_raws.specs.PathRaws.Forms.{Form, primary, step, path, single, list, at, all_at, all_can}
use Rattle.expr_raws.specs.PathRaws.Forms.{said, all_said, key_leaf, nothing}
use Rattle.expr_raws.specs.PathRaws.Names.{name_token, function_token, test_token}

-- with the token, where there is one
abbrev pub with_token : Option Token → (Token → Form) → Form
with_token None f = nothing
with_token (Some t) f = f t

abbrev pub variable_with : Token → Form
variable_with t = record {
  raw = node production.Variable (leaf t ∷ []);
  tokens = λ rest. token.Key key.Dollar ∷ t ∷ rest;
  place = primary;
  unmarked = false;
  can = true;
}

abbrev pub variable : Prefixes → ExprName → Form
variable p n = with_token (name_token p.bound [] n) variable_with

abbrev pub argued : List Form → List Raw
argued [] = []
argued (a ∷ fs) = node production.ArgumentList (all_at single (a ∷ fs)) ∷ []

-- a call of the name of an atomic type would be a cast
abbrev pub call_with : ExprName → List Form → Token → Form
call_with n fs t = record {
  raw = node production.Call (leaf t ∷ argued fs);
  tokens = λ rest. t ∷ token.Key key.OpenParen
      ∷ all_said single fs (token.Key key.CloseParen ∷ rest);
  place = primary;
  unmarked = false;
  can = not (is_some (call_type (type_named n))) && all_can fs;
}

abbrev pub call : Prefixes → ExprName → List Form → Form
call p n fs = with_token (function_token p.bound p.function_default n) (call_with n fs)

abbrev pub axis_key : Axis → Key
axis_key axis.Child = key.ChildWord
axis_key axis.Descendant = key.DescendantWord
axis_key axis.Attribute = key.AttributeWord
axis_key axis.Itself = key.SelfWord
axis_key axis.DescendantOrSelf = key.DescendantOrSelfWord
axis_key axis.FollowingSibling = key.FollowingSiblingWord
axis_key axis.Following = key.FollowingWord
axis_key axis.Parent = key.ParentWord
axis_key axis.Ancestor = key.AncestorWord
axis_key axis.PrecedingSibling = key.PrecedingSiblingWord
axis_key axis.Preceding = key.PrecedingWord
axis_key axis.AncestorOrSelf = key.AncestorOrSelfWord

-- a test is no expression, and has no place of its own
abbrev pub test_of : Raw → List Token → Form
test_of v ts = record {
  raw = v;
  tokens = λ rest. ts ++ rest;
  place = primary;
  unmarked = false;
  can = true;
}

-- a word with parentheses
abbrev pub kind_tokens : Key → List Token → List Token
kind_tokens k ts = token.Key k ∷ token.Key key.OpenParen ∷ (ts ++ token.Key key.CloseParen ∷ [])

abbrev pub plain_kind : Key → Form
plain_kind k = test_of (node production.PlainKind (key_leaf k ∷ [])) (kind_tokens k [])

abbrev pub pi_kind : List Raw → List Token → Form
pi_kind vs ts = test_of (node production.PiKind vs) (kind_tokens key.ProcessingInstructionWord ts)

abbrev pub leaf_test : Token → Form
leaf_test t = test_of (leaf t) (t ∷ [])

abbrev pub named_test : Key → Token → Form
named_test k t =
    test_of (node production.NamedKind (key_leaf k ∷ leaf t ∷ [])) (kind_tokens k (t ∷ []))

-- the node test on the axis; names in kind tests of elements and attributes are read as on the
-- axes of children and of attributes
abbrev pub test_form : Prefixes → Axis → Test → Form
test_form p on (test.Named n) =
    with_token (test_token class.NameTest p.bound p.element_default on n) leaf_test
test_form p on test.Node = plain_kind key.NodeWord
test_form p on test.Text = plain_kind key.TextWord
test_form p on test.Comment = plain_kind key.CommentWord
test_form p on test.Doc = plain_kind key.DocumentNodeWord
test_form p on (test.Pi None) = pi_kind [] []
test_form p on (test.Pi (Some cs)) =
    pi_kind (leaf (token.Quoted cs) ∷ []) (token.Quoted cs ∷ [])
test_form p on (test.Elem n) =
    with_token (test_token class.NameOrStar p.bound p.element_default axis.Child n)
    (named_test key.ElementWord)
test_form p on (test.Attr n) =
    with_token (test_token class.NameOrStar p.bound p.element_default axis.Attribute n)
    (named_test key.AttributeWord)

-- [p]..
abbrev pub predicates : List Form → List Token → List Token
predicates [] rest = rest
predicates (f ∷ fs) rest = token.Key key.OpenBracket
    ∷ said list f (token.Key key.CloseBracket ∷ predicates fs rest)

-- axis::test[p]..
abbrev pub step_with : Axis → List Form → Form → Form
step_with on fs t = record {
  raw = node production.AxisStep (key_leaf (axis_key on) ∷ t.raw ∷ all_at list fs);
  tokens = λ rest. token.Key (axis_key on) ∷ token.Key key.Colons
      ∷ t.tokens (predicates fs rest);
  place = step;
  unmarked = false;
  can = t.can && all_can fs;
}

abbrev pub stepped : Prefixes → Axis → Test → List Form → Form
stepped p on t fs = step_with on fs (test_form p on t)

-- one more step after a path
abbrev pub step_after : Form → Raw
step_after b = node production.StepAfter (at step b ∷ [])

-- what the left operand of `/` is: a path, one from the root, the root itself, or something else
pub data Start : Type 0 where
  behind : List Raw → Start
  from_root : List Raw → Start
  root : Start
  alone : Start

abbrev pub behind_steps : List Raw → Start
behind_steps [] = alone
behind_steps (v ∷ vs) = behind (v ∷ vs)

abbrev pub is_rooted : Raw-F Raw → Bool
is_rooted (Node production.Rooted vs) = true
is_rooted _ = false

abbrev pub only_rooted : List Raw → Start
only_rooted (v ∷ []) = if is_rooted (out-Raw v) then root else alone
only_rooted _ = alone

abbrev pub start_of : Raw-F Raw → Start
start_of (Node production.Steps vs) = behind_steps vs
start_of (Node production.RootSteps vs) = from_root vs
start_of (Node production.Parens vs) = only_rooted vs
start_of _ = alone

abbrev pub slash_raw : Start → Form → Form → Raw
slash_raw (behind vs) a b = node production.Steps (vs ++ step_after b ∷ [])
slash_raw (from_root vs) a b = node production.RootSteps (vs ++ step_after b ∷ [])
slash_raw root a b = node production.RootSteps (at step b ∷ [])
slash_raw alone a b = node production.Steps (at step a ∷ step_after b ∷ [])

abbrev pub slash_tokens : Start → Form → Form → List Token → List Token
slash_tokens root a b rest = token.Key key.Slash ∷ said step b rest
slash_tokens alone a b rest = said step a (token.Key key.Slash ∷ said step b rest)
slash_tokens _ a b rest = a.tokens (token.Key key.Slash ∷ said step b rest)

-- a/b
abbrev pub slashed : Form → Form → Form
slashed a b = record {
  raw = slash_raw (start_of (out-Raw a.raw)) a b;
  tokens = slash_tokens (start_of (out-Raw a.raw)) a b;
  place = path;
  unmarked = false;
  can = a.can && b.can;
}

-- a[p]..
abbrev pub filtered : Form → List Form → Form
filtered a [] = nothing
filtered a (p ∷ ps) = record {
  raw = node production.FilterStep (at primary a ∷ all_at list (p ∷ ps));
  tokens = λ rest. said primary a (predicates (p ∷ ps) rest);
  place = step;
  unmarked = false;
  can = a.can && all_can (p ∷ ps);
}

-- `/` alone is in parentheses
abbrev pub root_form : Form
root_form = record {
  raw = node production.Parens (node production.Rooted [] ∷ []);
  tokens = λ rest. token.Key key.OpenParen ∷ token.Key key.Slash ∷ token.Key key.CloseParen ∷ rest;
  place = primary;
  unmarked = false;
  can = true;
}

-- a primary expression of one token
abbrev pub lone : Production → List Raw → Token → Bool → Form
lone p vs t can = record {
  raw = node p vs;
  tokens = λ rest. t ∷ rest;
  place = primary;
  unmarked = false;
  can = can;
}
