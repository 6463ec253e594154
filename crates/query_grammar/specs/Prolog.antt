-- The grammar of queries over tokens (XQuery 1.0, A.1): their declarations, each with a semicolon
-- after it, and an expression.
use Rattle.std.specs.Prelude.{◌≡◌, Bool, true, false, ◌&&◌, codes, if◌then◌else◌}
use Rattle.std.specs.Prelude.{List, [], ◌∷◌, Option, Some, None}
use Rattle.expr_keys.specs.declared.tokens.Token.{Token}
use Rattle.expr_keys.specs.declared.tokens.Token.TheVariants as token
use Rattle.expr_keys.specs.declared.keys.Key.TheVariants as key
use Rattle.expr_terms.specs.declared.raws.Raw.{Raw}
use Rattle.expr_keys.specs.declared.productions.Language.TheVariants.{Xquery as xquery}
use Rattle.expr_keys.specs.declared.productions.Nonterminal.TheVariants.{ExprSingle as expr_single}
use Rattle.expr_keys.specs.Tokens.{fits_key, fits_name, fits_function}
use Rattle.expr_grammar.specs.Grammar.{Derives, Spells, SpellsType}
use Rattle.query_grammar.specs.declared.declared.Opening.TheVariants as opening
use Rattle.query_grammar.specs.declared.declared.Opening.{Opening}
use Rattle.query_grammar.specs.declared.declared.Typed.{Typed}
use Rattle.query_grammar.specs.declared.declared.Declared.{Declared}
use Rattle.query_grammar.specs.declared.declared.Declared.TheVariants as declared
use Rattle.query_grammar.specs.declared.declared.RawQuery.{RawQuery}
use Rattle.query_grammar.specs.Words.{is_named, opening_of}
use Rattle.query_grammar.specs.Heads.{short_of}

-- all of the tokens are `us`, then `t`, then `rest`
pub data Cut (t : Token) (rest : List Token) : List Token → List Token → Type 0 where
  here : Cut t rest (t ∷ rest) []
  there : {x : Token} {all us : List Token} → Cut t rest all us → Cut t rest (x ∷ all) (x ∷ us)

-- TypeDeclaration? = ("as" SequenceType)?
pub data IsTyping : List Token → Option Raw → Type 0 where
  untyped : IsTyping [] None
  as_type : {a : Token} {ts : List Token} {k : Raw} → fits_key key.AsWord a ≡ true
      → SpellsType xquery ts k → IsTyping (a ∷ ts) (Some k)

abbrev pub named_so : Token → Option Raw → Typed
named_so n k = record { name = n; kind = k }

-- Param = "$" QName TypeDeclaration?; a variable begins so too
pub data IsTyped : List Token → Typed → Type 0 where
  typed : {d n : Token} {ts : List Token} {k : Option Raw} → fits_key key.Dollar d ≡ true
      → fits_name n ≡ true → IsTyping ts k → IsTyped (d ∷ n ∷ ts) (named_so n k)

-- ParamList = Param ("," Param)*
pub data AreParams : List Token → List Typed → Type 0 where
  last : {us : List Token} {p : Typed} → IsTyped us p → AreParams us (p ∷ [])
  before : {us rest all : List Token} {p : Typed} {ps : List Typed}
      → Cut (token.Key key.Comma) rest all us → IsTyped us p → AreParams rest ps
      → AreParams all (p ∷ ps)

-- ParamList?
pub data MayBeParams : List Token → List Typed → Type 0 where
  none : MayBeParams [] []
  some : {us : List Token} {ps : List Typed} → AreParams us ps → MayBeParams us ps

-- FunctionDecl, before its body = QName "(" ParamList? ")" ("as" SequenceType)?
pub data IsSignature : List Token → Token → List Typed → Option Raw → Type 0 where
  signed : {q o : Token} {inside us ts : List Token} {ps : List Typed} {k : Option Raw}
      → fits_function q ≡ true → fits_key key.OpenParen o ≡ true
      → Cut (token.Key key.CloseParen) ts inside us → MayBeParams us ps → IsTyping ts k
      → IsSignature (q ∷ o ∷ inside) q ps k

-- what may come after the two words of a declaration
pub data IsBehind : Opening → List Token → Declared → Type 0 where
  short : {o : Opening} {us : List Token} {d : Declared} → short_of o us ≡ Some d →
      IsBehind o us d
  -- VarDecl = "declare" "variable" "$" QName TypeDeclaration? (":=" ExprSingle | "external")
  outside : {us hd : List Token} {x : Token} {v : Typed} → Cut x [] us hd → IsTyped hd v
      → is_named (codes "external") x ≡ true
      → IsBehind opening.Variable us (declared.Variable v None)
  valued : {us hd ts : List Token} {v : Typed} {w : Raw} → Cut (token.Key key.Assign) ts us hd
      → IsTyped hd v → Derives xquery expr_single ts w []
      → IsBehind opening.Variable us (declared.Variable v (Some w))
  -- FunctionDecl = "declare" "function" .. "{" Expr "}"
  defined : {us hd inside ts : List Token} {q : Token} {ps : List Typed} {k : Option Raw} {w : Raw}
      → Cut (token.Key key.OpenBrace) inside us hd → IsSignature hd q ps k
      → Cut (token.Key key.CloseBrace) [] inside ts → Spells xquery ts w
      → IsBehind opening.Function us (declared.Function q ps k w)

pub data IsDeclaration : List Token → Declared → Type 0 where
  opened : {a b : Token} {us : List Token} {o : Opening} {d : Declared}
      → opening_of a b ≡ Some o → IsBehind o us d → IsDeclaration (a ∷ b ∷ us) d

-- (Declaration ";")* Expr
pub data IsQuery : List Token → List Declared → Raw → Type 0 where
  body : {ts : List Token} {v : Raw} → Spells xquery ts v → IsQuery ts [] v
  declares : {ts us more : List Token} {d : Declared} {ds : List Declared} {v : Raw}
      → Cut (token.Key key.Semicolon) more ts us → IsDeclaration us d → IsQuery more ds v
      → IsQuery ts (d ∷ ds) v

-- namespaces and setters come before variables, functions and options
abbrev pub is_late : Declared → Bool
is_late (declared.Setting n t) = true
is_late (declared.Variable v w) = true
is_late (declared.Function q ps k w) = true
is_late _ = false

abbrev pub is_version : Declared → Bool
is_version (declared.Version t) = true
is_version _ = false

abbrev pub all_late : List Declared → Bool
all_late [] = true
all_late (d ∷ ds) = is_late d && all_late ds

abbrev pub in_order : List Declared → Bool
in_order [] = true
in_order (d ∷ ds) =
    if is_version d then false else if is_late d then all_late ds else in_order ds

-- .. and the version before all
abbrev pub is_ordered : List Declared → Bool
is_ordered [] = true
is_ordered (d ∷ ds) = in_order (if is_version d then ds else d ∷ ds)

-- all of the tokens spell the query
pub data SpellsQuery : List Token → RawQuery → Type 0 where
  ordered : {ts : List Token} {ds : List Declared} {v : Raw} → is_ordered ds ≡ true
      → IsQuery ts ds v → SpellsQuery ts (record { declared = ds; body = v })
