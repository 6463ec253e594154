-- The names and name tests that tokens write (XPath 2.0, A.2.1 and 3.2.1.2).
use Rattle.std.specs.Prelude.{ℕ, List, [], if◌then◌else◌}
use Rattle.std.specs.Str.{chars}
use Rattle.expr_names.specs.declared.written.Written.{Written}
use Rattle.expr_names.specs.declared.written.WrittenTest.{WrittenTest}
use Rattle.expr_names.specs.declared.written.WrittenTest.TheVariants as test
use Rattle.expr_keys.specs.declared.keys.Key.{Key}
use Rattle.expr_keys.specs.declared.keys.Key.TheVariants.{Star as star}
use Rattle.expr_keys.specs.Keys.{same_key, key_text}
use Rattle.expr_keys.specs.declared.tokens.Token.{Token}
use Rattle.expr_keys.specs.declared.tokens.Token.TheVariants as token
use Rattle.expr_rules.specs.declared.expr_meant.meant.Meant.{Meant}
use Rattle.expr_rules.specs.declared.expr_meant.meant.Meant.TheVariants as meant

abbrev pub written : List ℕ → List ℕ → Written
written prefix local = record { prefix = prefix; local = local }

abbrev pub written_key : Key → Written
written_key k = written [] (chars (key_text k))

-- the name of a word, a QName, a tag or an attribute
unfoldable pub written_in : Token → Written
written_in (token.Key k) = written_key k
written_in (token.Name local) = written [] local
written_in (token.Qname prefix local) = written prefix local
written_in (token.StartTagOpen prefix local) = written prefix local
written_in (token.ChildTagOpen prefix local) = written prefix local
written_in (token.Attribute prefix local) = written prefix local
written_in (token.EndTag prefix local) = written prefix local
written_in _ = written [] []

unfoldable pub written_of : Meant → Written
written_of (meant.Token t) = written_in t
written_of _ = written [] []

unfoldable pub written_test_in : Token → WrittenTest
written_test_in (token.Key k) = if same_key star k then test.Any else test.Exact (written_key k)
written_test_in (token.AnyLocal prefix) = test.Prefix prefix
written_test_in (token.AnyPrefix local) = test.Local local
written_test_in t = test.Exact (written_in t)

-- the target of a processing instruction: a name, or what a literal holds
unfoldable pub target_in : Token → List ℕ
target_in (token.Quoted text) = text
target_in t = (written_in t).local
