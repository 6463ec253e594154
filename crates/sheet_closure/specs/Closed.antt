-- Stylesheets that use nothing but what they declare, as they are loaded (XSLT 2.0, 2 and 3).
use Rattle.std.specs.Prelude.{Bool, true, not, ◌&&◌}
use Rattle.std.specs.List.{list_all}
use Rattle.std.specs.Str.{bytes_eq}
use Rattle.xt_names.specs.Allowed.{is_empty_text, xmlns_uri}
use Rattle.xt_types.specs.declared.node_tests.NameTest.{NameTest}
use Rattle.xt_types.specs.declared.node_tests.NameTest.TheVariants as name
use Rattle.xt_sheets.specs.declared.sheets.Sheet.{Sheet}
use Rattle.closed_sheets.specs.Sheets.{has_good_parts}
use Rattle.sheet_closure.specs.StandingParts.Sheets.{parts_stand}
use Rattle.sheet_closure.specs.Declared.{has_different_names, has_uri, keeps_names}
use Rattle.sheet_closure.specs.Numbers.{has_numbers, has_order}

-- a test of white space: `p:*` has a uri, which is not that of xmlns (4.4)
unfoldable pub is_space_test : NameTest → Bool
is_space_test name.Any = true
is_space_test (name.Uri uri) = not (is_empty_text uri) && not (bytes_eq uri xmlns_uri)
is_space_test (name.Local local) = true
is_space_test (name.Exact n) = true

-- A stylesheet is closed where
-- - its expressions are regular ones of XPath, its types are regular, and XML allows its texts and
--   names;
-- - each of its parts may stand where it does;
-- - no two of its globals have one name, no two of its functions one name and number of parameters,
--   and each function has a uri;
-- - its places, levels and numbers are in range;
-- - each test of its white space has a uri where it needs one;
-- - each variable, function, named template, key and mode that it uses is declared in it or bound
--   where it is used, and no grouping key or `use` calls a function that it declares;
-- - each global comes after those on which it depends.
unfoldable pub is_closed : Sheet → Bool
is_closed s =
    has_good_parts s
    && (parts_stand s
    && (has_different_names s
    && (list_all has_uri s.functions
    && (has_numbers s
    && (list_all (λ r. is_space_test r.test) s.space && (keeps_names s && has_order s))))))
