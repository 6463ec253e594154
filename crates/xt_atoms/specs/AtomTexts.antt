-- The text of an atom (XPath and XQuery Functions and Operators, 17.1.2).
use Rattle.std.specs.Prelude.{ℕ, List, ◌++◌, Bool, true, false, if◌then◌else◌, codes}
use Rattle.std.specs.Fmt.{signed_decimal}
use Rattle.xt_names.specs.Allowed.{is_empty_text}
use Rattle.xt_atoms.specs.declared.atoms.Atom.{Atom}
use Rattle.xt_atoms.specs.declared.atoms.Atom.TheVariants as atom

unfoldable pub boolean_text : Bool → List ℕ
boolean_text true = codes "true"
boolean_text false = codes "false"

-- `prefix:local`, or `local` where there is no prefix
unfoldable pub lexical_qname : List ℕ → List ℕ → List ℕ
lexical_qname prefix local = if is_empty_text prefix then local else prefix ++ codes ":" ++ local

unfoldable pub text_of : Atom → List ℕ
text_of (atom.Str text) = text
text_of (atom.Untyped text) = text
text_of (atom.Int number) = signed_decimal number
text_of (atom.Bool truth) = boolean_text truth
text_of (atom.QName name) = lexical_qname name.prefix name.local
