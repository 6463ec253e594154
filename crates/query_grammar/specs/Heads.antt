-- The declarations without expressions, and what comes before the expressions of the others.
use Rattle.std.specs.Prelude.{ℕ, Bool, true, false, ◌&&◌, ◌||◌, codes}
use Rattle.std.specs.Prelude.{List, [], ◌∷◌, Option, Some, None, if◌then◌else◌}
use Rattle.std.specs.Str.{bytes_eq}
use Rattle.expr_keys.specs.declared.tokens.Token.{Token}
use Rattle.expr_keys.specs.declared.keys.Key.TheVariants as key
use Rattle.expr_keys.specs.Tokens.{fits_key, fits_word, fits_name}
use Rattle.expr_keys.specs.Classes.{fits_quoted}
use Rattle.query_grammar.specs.declared.declared.Opening.{Opening}
use Rattle.query_grammar.specs.declared.declared.Opening.TheVariants as opening
use Rattle.query_grammar.specs.declared.declared.Declared.{Declared}
use Rattle.query_grammar.specs.declared.declared.Declared.TheVariants as declared
use Rattle.query_grammar.specs.Words.{is_named, text_of}

-- the name of UTF-8 in small and capital letters
abbrev pub is_utf8_text : List ℕ → Bool
is_utf8_text cs =
    bytes_eq cs (codes "utf-8") || (bytes_eq cs (codes "UTF-8") || (bytes_eq cs (codes "Utf-8")
    || (bytes_eq cs (codes "uTf-8") || (bytes_eq cs (codes "utF-8")
    || (bytes_eq cs (codes "UTf-8") || (bytes_eq cs (codes "UtF-8")
    || bytes_eq cs (codes "uTF-8")))))))

abbrev pub is_utf8 : Token → Bool
is_utf8 t = is_utf8_text (text_of t)

-- "xquery" "version" Literal ("encoding" Literal)?
abbrev pub version_of : List Token → Option Declared
version_of (v ∷ []) = if fits_quoted v then Some (declared.Version (text_of v)) else None
version_of (v ∷ e ∷ u ∷ []) =
    if fits_quoted v && (is_named (codes "encoding") e && is_utf8 u)
    then Some (declared.Version (text_of v)) else None
version_of _ = None

-- "declare" "namespace" NCName "=" Literal
abbrev pub namespace_of : List Token → Option Declared
namespace_of (p ∷ e ∷ u ∷ []) =
    if fits_word p && (fits_key key.Equal e && fits_quoted u)
    then Some (declared.Namespace p (text_of u)) else None
namespace_of _ = None

abbrev pub in_default : Token → Token → Token → Option Declared
in_default a n u =
    if fits_key key.NamespaceWord n && fits_quoted u
    then (if fits_key key.ElementWord a then Some (declared.ElementDefault (text_of u))
    else if is_named (codes "function") a then Some (declared.FunctionDefault (text_of u))
    else None)
    else if fits_key key.OrderWord a && (fits_key key.EmptyWord n && fits_key key.LeastWord u)
    then Some declared.Setter else None

-- "declare" "default" (("element" | "function") "namespace" Literal | "order" "empty" "least")
abbrev pub default_of : List Token → Option Declared
default_of (a ∷ n ∷ u ∷ []) = in_default a n u
default_of _ = None

-- "declare" "boundary-space" ("strip" | "preserve")
abbrev pub space_of : List Token → Option Declared
space_of (t ∷ []) =
    if is_named (codes "strip") t then Some (declared.BoundarySpace false)
    else if is_named (codes "preserve") t then Some (declared.BoundarySpace true) else None
space_of _ = None

-- "declare" "ordering" "ordered"
abbrev pub ordering_of : List Token → Option Declared
ordering_of (t ∷ []) = if is_named (codes "ordered") t then Some declared.Setter else None
ordering_of _ = None

-- "declare" "copy-namespaces" "no-preserve" "," "no-inherit"
abbrev pub copying_of : List Token → Option Declared
copying_of (a ∷ c ∷ b ∷ []) =
    if is_named (codes "no-preserve") a && (fits_key key.Comma c && is_named
    (codes "no-inherit") b)
    then Some declared.Setter else None
copying_of _ = None

-- "declare" "option" QName Literal
abbrev pub setting_of : List Token → Option Declared
setting_of (n ∷ t ∷ []) =
    if fits_name n && fits_quoted t then Some (declared.Setting n (text_of t)) else None
setting_of _ = None

-- a declaration without an expression or a type, after its two words
abbrev pub short_of : Opening → List Token → Option Declared
short_of opening.Version ts = version_of ts
short_of opening.Namespace ts = namespace_of ts
short_of opening.Default ts = default_of ts
short_of opening.BoundarySpace ts = space_of ts
short_of opening.Ordering ts = ordering_of ts
short_of opening.CopyNamespaces ts = copying_of ts
short_of opening.Setting ts = setting_of ts
short_of opening.Variable ts = None
short_of opening.Function ts = None
