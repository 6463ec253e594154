-- Types, and the operators on them, as raw values (XPath 2.0, 2.5.3 and 3.10).
use Rattle.std.specs.Prelude.{ℕ, Bool, true, false, ◌&&◌, List, [], ◌∷◌, map, Option, Some, None}
use Rattle.std.specs.Prelude.{codes}
use Rattle.xt_names.specs.declared.names.Binding.{Binding}
use Rattle.xt_names.specs.declared.kinds.AtomType.{AtomType}
use Rattle.xt_names.specs.declared.kinds.AtomType.TheVariants as atom
use Rattle.xt_types.specs.declared.axes.Axis.TheVariants as axis
use Rattle.xt_types.specs.declared.node_tests.Test.{Test}
use Rattle.xt_types.specs.declared.node_tests.Test.TheVariants as test
use Rattle.xt_types.specs.declared.types.Count.{Count}
use Rattle.xt_types.specs.declared.types.Count.TheVariants as count
use Rattle.xt_types.specs.declared.types.ItemType.{ItemType}
use Rattle.xt_types.specs.declared.types.ItemType.TheVariants as item
use Rattle.xt_types.specs.declared.types.SeqType.{SeqType}
use Rattle.xt_types.specs.declared.types.SeqType.TheVariants as sequence
use Rattle.xt_syntax.specs.declared.prefixes.Prefixes.{Prefixes}
use Rattle.expr_keys.specs.declared.keys.Key.TheVariants as key
use Rattle.expr_keys.specs.declared.tokens.Token.{Token}
use Rattle.expr_keys.specs.declared.tokens.Token.TheVariants as token
use Rattle.expr_keys.specs.declared.productions.Class.TheVariants as class
use Rattle.expr_keys.specs.declared.productions.Level.{Level}
use Rattle.expr_keys.specs.declared.productions.Level.TheVariants as level
use Rattle.expr_keys.specs.declared.productions.Production.TheVariants as production
use Rattle.expr_terms.specs.declared.raws.Raw.{Raw}
use Rattle.expr_terms.specs.declared.raws.Raw.TheVariants.{Leaf as leaf, Node as node}
use Rattle.expr_rules.specs.declared.expr_meant.meant.Meant.TheVariants as meant
use Rattle.expr_rules.specs.Known.{named_type}
use Rattle.expr_raws.specs.PathRaws.Forms.{Form, of_level, below, at, said}
use Rattle.expr_raws.specs.PathRaws.Forms.{key_leaf, nothing}
use Rattle.expr_rules.specs.ExprMeant.Names.{written_in}
use Rattle.expr_names.specs.Names.{undeclared_in}
use Rattle.expr_raws.specs.PathRaws.Names.{first_that, fitting, qualified, no_codes}
use Rattle.expr_raws.specs.PathRaws.Paths.{with_token, test_of, leaf_test, test_form, kind_tokens}

abbrev pub local_name : AtomType → List ℕ
local_name atom.Str = codes "string"
local_name atom.Untyped = codes "untypedAtomic"
local_name atom.Int = codes "integer"
local_name atom.Bool = codes "boolean"
local_name atom.QName = codes "QName"
local_name atom.Any = codes "anyAtomicType"

abbrev pub same_atom : AtomType → AtomType → Bool
same_atom atom.Str atom.Str = true
same_atom atom.Untyped atom.Untyped = true
same_atom atom.Int atom.Int = true
same_atom atom.Bool atom.Bool = true
same_atom atom.QName atom.QName = true
same_atom atom.Any atom.Any = true
same_atom _ _ = false

abbrev pub is_atom : AtomType → Option AtomType → Bool
is_atom k None = false
is_atom k (Some a) = same_atom a k

-- whether the token names the atomic type, and its prefix is declared
abbrev pub types : List Binding → AtomType → Token → Bool
types bound k t =
    is_atom k (named_type bound (meant.Token t)) && no_codes (undeclared_in bound (written_in t))

abbrev pub type_token : List Binding → AtomType → Option Token
type_token bound k =
    first_that (fitting class.Name (types bound k)) (qualified bound (local_name k))

-- a kind test alone
abbrev pub kind_form : Prefixes → Test → Form
kind_form p (test.Named n) = nothing
kind_form p t = test_form p axis.Child t

abbrev pub item_form : Prefixes → ItemType → Form
item_form p item.Any = test_of (node production.AnyItem []) (kind_tokens key.ItemWord [])
item_form p (item.Kind t) = kind_form p t
item_form p (item.Atomic k) = with_token (type_token p.bound k) leaf_test

abbrev pub counted : Count → Raw → Raw
counted count.One v = v
counted count.Opt v = node production.ItemsType (v ∷ key_leaf key.Question ∷ [])
counted count.Many v = node production.ItemsType (v ∷ key_leaf key.Star ∷ [])
counted count.More v = node production.ItemsType (v ∷ key_leaf key.Plus ∷ [])

abbrev pub mark_tokens : Count → List Token → List Token
mark_tokens count.One rest = rest
mark_tokens count.Opt rest = token.Key key.Question ∷ rest
mark_tokens count.Many rest = token.Key key.Star ∷ rest
mark_tokens count.More rest = token.Key key.Plus ∷ rest

-- a type without a mark
abbrev pub is_bare : Count → Bool
is_bare count.One = true
is_bare _ = false

abbrev pub with_count : Count → Form → Form
with_count c f = record {
  raw = counted c f.raw;
  tokens = λ rest. f.tokens (mark_tokens c rest);
  place = f.place;
  unmarked = is_bare c;
  can = f.can;
}

abbrev pub sequence_form : Prefixes → SeqType → Form
sequence_form p sequence.Empty =
    test_of (node production.EmptyType []) (kind_tokens key.EmptySequenceWord [])
sequence_form p (sequence.Of i c) = with_count c (item_form p i)

-- the words of an operator on a type
abbrev pub type_words : Level → List Token → List Token
type_words level.InstanceOf rest = token.Key key.InstanceWord ∷ token.Key key.OfWord ∷ rest
type_words level.Treat rest = token.Key key.TreatWord ∷ token.Key key.AsWord ∷ rest
type_words level.Castable rest = token.Key key.CastableWord ∷ token.Key key.AsWord ∷ rest
type_words _ rest = token.Key key.CastWord ∷ token.Key key.AsWord ∷ rest

-- an operator with a type at its right, and no more of the level
abbrev pub of_type : Level → Form → Form → Form
of_type l a t = record {
  raw = node (production.OperatorChain l) (at (below l) a
      ∷ node (production.OperatorTail l) (t.raw ∷ []) ∷ []);
  tokens = λ rest. said (below l) a (type_words l (t.tokens rest));
  place = of_level l;
  unmarked = t.unmarked;
  can = a.can && t.can;
}

abbrev pub marks : Bool → List Raw
marks true = node production.QuestionMark [] ∷ []
marks false = []

abbrev pub question_tokens : Bool → List Token
question_tokens true = token.Key key.Question ∷ []
question_tokens false = []

abbrev pub single_with : Bool → Token → Form
single_with empty t = test_of (node production.SingleAtomicType (leaf t ∷ marks empty))
    (t ∷ question_tokens empty)

abbrev pub single_form : Prefixes → AtomType → Bool → Form
single_form p k empty = with_token (type_token p.bound k) (single_with empty)
