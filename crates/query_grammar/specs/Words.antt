-- The words of a prolog.
use Rattle.std.specs.Prelude.{ℕ, Bool, true, false, codes}
use Rattle.std.specs.Prelude.{List, [], Option, Some, None, if◌then◌else◌}
use Rattle.std.specs.Str.{bytes_eq}
use Rattle.expr_keys.specs.declared.tokens.Token.{Token}
use Rattle.expr_keys.specs.declared.tokens.Token.TheVariants as token
use Rattle.expr_keys.specs.declared.keys.Key.TheVariants as key
use Rattle.expr_keys.specs.Tokens.{fits_key}
use Rattle.query_grammar.specs.declared.declared.Opening.{Opening}
use Rattle.query_grammar.specs.declared.declared.Opening.TheVariants as opening

-- a name that is this word, which is no key
abbrev pub is_named : List ℕ → Token → Bool
is_named word (token.Name n) = bytes_eq n word
is_named word _ = false

-- the text of a literal
abbrev pub text_of : Token → List ℕ
text_of (token.Quoted cs) = cs
text_of _ = []

-- what stands behind `declare`
abbrev pub declared_by : Token → Option Opening
declared_by t =
    if fits_key key.NamespaceWord t then Some opening.Namespace
    else if is_named (codes "default") t then Some opening.Default
    else if is_named (codes "boundary-space") t then Some opening.BoundarySpace
    else if is_named (codes "ordering") t then Some opening.Ordering
    else if is_named (codes "copy-namespaces") t then Some opening.CopyNamespaces
    else if is_named (codes "option") t then Some opening.Setting
    else if is_named (codes "variable") t then Some opening.Variable
    else if is_named (codes "function") t then Some opening.Function
    else None

abbrev pub versioned : Token → Option Opening
versioned t = if is_named (codes "version") t then Some opening.Version else None

-- what two words at the front declare
abbrev pub opening_of : Token → Token → Option Opening
opening_of a b =
    if is_named (codes "declare") a then declared_by b
    else if is_named (codes "xquery") a then versioned b
    else None

-- whether the token may be the first of two such words
abbrev pub may_open : Token → Bool
may_open t = if is_named (codes "declare") t then true else is_named (codes "xquery") t
