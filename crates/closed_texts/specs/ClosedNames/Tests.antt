-- Name tests whose prefixes are declared (XSLT 2.0, 4.4; Namespaces in XML 1.0, 3).
use Rattle.std.specs.Prelude.{Bool, true, not, ◌&&◌}
use Rattle.std.specs.Str.{bytes_eq}
use Rattle.xt_names.specs.Allowed.{is_empty_text, xmlns_uri}
use Rattle.xt_types.specs.declared.node_tests.NameTest.{NameTest}
use Rattle.xt_types.specs.declared.node_tests.NameTest.TheVariants as name

-- `p:*` has a uri, which is not that of xmlns
unfoldable pub is_declared_test : NameTest → Bool
is_declared_test name.Any = true
is_declared_test (name.Uri uri) = not (is_empty_text uri) && not (bytes_eq uri xmlns_uri)
is_declared_test (name.Local local) = true
is_declared_test (name.Exact n) = true
