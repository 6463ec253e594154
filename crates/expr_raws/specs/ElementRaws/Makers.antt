-- Computed constructors as raw values, and their tokens (XQuery 1.0, 3.7.3).
use Rattle.std.specs.Prelude.{ℕ, Bool, false, ◌&&◌, List, [], ◌∷◌, Option, if◌then◌else◌}
use Rattle.std.specs.Str.{bytes_eq}
use Rattle.xt_names.specs.Allowed.{is_empty_text}
use Rattle.xt_names.specs.declared.names.Binding.{Binding}
use Rattle.xt_names.specs.declared.names.Name.{Name}
use Rattle.xt_syntax.specs.declared.prefixes.Prefixes.{Prefixes}
use Rattle.expr_names.specs.Names.{uri_in, undeclared_in}
use Rattle.expr_keys.specs.declared.keys.Key.{Key}
use Rattle.expr_keys.specs.declared.keys.Key.TheVariants as key
use Rattle.expr_keys.specs.declared.tokens.Token.{Token}
use Rattle.expr_keys.specs.declared.tokens.Token.TheVariants as token
use Rattle.expr_keys.specs.declared.productions.Class.{Class}
use Rattle.expr_keys.specs.declared.productions.Class.TheVariants as class
use Rattle.expr_keys.specs.declared.productions.Production.TheVariants as production
use Rattle.expr_terms.specs.declared.raws.Raw.TheVariants.{Leaf as leaf, Node as node}
use Rattle.expr_tokens.specs.Terms.{word_term}
use Rattle.expr_rules.specs.ExprMeant.Names.{written_in}
use Rattle.expr_raws.specs.PathRaws.Forms.{Form, primary, list, at, said, key_leaf}
use Rattle.expr_raws.specs.PathRaws.Names.{first_that, fitting, no_codes}
use Rattle.expr_raws.specs.PathRaws.Paths.{with_token}

-- a name that is given, or computed
pub data NameForm : Type 0 where
  fixed : Name → NameForm
  computed : Form → NameForm

-- whether the token means the name of a node, with its prefix, which is declared
abbrev pub gives_name : List Binding → List ℕ → Name → Token → Bool
gives_name bound default n t = (bytes_eq (written_in t).prefix n.prefix
    && (bytes_eq (uri_in bound default (written_in t)) n.uri
    && bytes_eq (written_in t).local n.local)) && no_codes (undeclared_in bound (written_in t))

-- with its prefix, if it has one
abbrev pub node_spelling : Name → Token
node_spelling n =
    if is_empty_text n.prefix then word_term n.local else token.Qname n.prefix n.local

-- the token of the class that means the name
abbrev pub node_token : Class → List Binding → List ℕ → Name → Option Token
node_token c bound default n =
    first_that (fitting c (gives_name bound default n)) (node_spelling n ∷ [])

-- { a }
abbrev pub braced : Form → List Token → List Token
braced f rest = token.Key key.OpenBrace ∷ said list f (token.Key key.CloseBrace ∷ rest)

abbrev pub given : Key → Form → Token → Form
given k c t = record {
  raw = node production.Constructed (key_leaf k ∷ leaf t ∷ at list c ∷ []);
  tokens = λ rest. token.Key k ∷ t ∷ braced c rest;
  place = primary;
  unmarked = false;
  can = c.can;
}

abbrev pub made : Key → Form → Form → Form
made k f c = record {
  raw = node production.Computed (key_leaf k ∷ at list f ∷ at list c ∷ []);
  tokens = λ rest. token.Key k ∷ braced f (braced c rest);
  place = primary;
  unmarked = false;
  can = f.can && c.can;
}

-- element n { a }, or element { b } { a }; its name without a prefix has the default uri
abbrev pub element : Prefixes → NameForm → Form → Form
element p (fixed n) c =
    with_token (node_token class.Name p.bound p.element_default n) (given key.ElementWord c)
element p (computed f) c = made key.ElementWord f c

-- attribute n { a }, or attribute { b } { a }
abbrev pub attribute : Prefixes → NameForm → Form → Form
attribute p (fixed n) c =
    with_token (node_token class.Name p.bound [] n) (given key.AttributeWord c)
attribute p (computed f) c = made key.AttributeWord f c

abbrev pub given_pi : Form → Token → Form
given_pi c t = record {
  raw = node production.PiConstructed (leaf t ∷ at list c ∷ []);
  tokens = λ rest. token.Key key.ProcessingInstructionWord ∷ t ∷ braced c rest;
  place = primary;
  unmarked = false;
  can = c.can;
}

-- processing-instruction n { a }, or processing-instruction { b } { a }
abbrev pub instruction : Prefixes → NameForm → Form → Form
instruction p (fixed n) c = with_token (node_token class.Word p.bound [] n) (given_pi c)
instruction p (computed f) c = made key.ProcessingInstructionWord f c

-- document { a }, text { a }, comment { a }
abbrev pub enclosing : Key → Form → Form
enclosing k a = record {
  raw = node production.Enclosing (key_leaf k ∷ at list a ∷ []);
  tokens = λ rest. token.Key k ∷ braced a rest;
  place = primary;
  unmarked = false;
  can = a.can;
}
