-- The text of the option `space`: pairs of `strip` or `preserve` and a name test.
use Rattle.std.specs.Prelude.{ℕ, List, [], ◌∷◌, ◌++◌, ◌||◌, Option, Some, None, codes}
use Rattle.std.specs.Prelude.{if◌then◌else◌}
use Rattle.std.specs.Str.{bytes_eq}
use Rattle.xt_names.specs.Classes.{is_ncname_text}
use Rattle.xt_names.specs.declared.names.Binding.{Binding}
use Rattle.xt_names.specs.declared.codes.Code.{Code}
use Rattle.xt_names.specs.declared.codes.Code.TheVariants.{QueryStatic}
use Rattle.xt_names.specs.declared.codes.QueryStaticCode.TheVariants.{XTOP0001}
use Rattle.expr_names.specs.XtTypes.declared.node_tests.SpaceRule.{SpaceRule}
use Rattle.text_operations.specs.Searches.{text_before, text_after}
use Rattle.expr_names.specs.Names.{name_test, test_broken}
use Rattle.expr_names.specs.declared.written.WrittenTest.{WrittenTest}
use Rattle.expr_names.specs.declared.written.WrittenTest.TheVariants as test
use Rattle.query_options.specs.Words.{words_of}

-- a text that the option does not take
abbrev pub not_taken : List Code
not_taken = QueryStatic XTOP0001 ∷ []

-- `*` or an NCName
abbrev pub bare_test : List ℕ → Option WrittenTest
bare_test text =
    if bytes_eq text (codes "*") then Some test.Any
    else if is_ncname_text text then Some (test.Exact (record { prefix = []; local = text }))
    else None

abbrev pub test_of_any : List ℕ → Option WrittenTest
test_of_any local = if is_ncname_text local then Some (test.Local local) else None

abbrev pub test_of_prefix : List ℕ → List ℕ → Option WrittenTest
test_of_prefix prefix local =
    if bytes_eq local (codes "*") then Some (test.Prefix prefix)
    else if is_ncname_text local then Some (test.Exact (record { prefix = prefix; local = local }))
    else None

-- `*:n`, `p:*` or `p:n`
abbrev pub parted_test : List ℕ → List ℕ → Option WrittenTest
parted_test prefix local =
    if bytes_eq prefix (codes "*") then test_of_any local
    else if is_ncname_text prefix then test_of_prefix prefix local
    else None

abbrev pub test_of_parts : List ℕ → Option (List ℕ) → Option (List ℕ) → Option WrittenTest
test_of_parts text (Some prefix) (Some local) = parted_test prefix local
test_of_parts text (Some prefix) None = None
test_of_parts text None local = bare_test text

-- the name test that a word writes (XPath 2.0, 3.2.1.2), where it writes one
unfoldable pub written_test : List ℕ → Option WrittenTest
written_test text = test_of_parts text (text_before (codes ":") text) (text_after (codes ":") text)

abbrev pub word_broken : List ℕ → List Code
word_broken word = if bytes_eq word (codes "strip") || bytes_eq word (codes "preserve") then []
    else not_taken

unfoldable pub test_word_broken : List Binding → Option WrittenTest → List Code
test_word_broken bound None = not_taken
test_word_broken bound (Some t) = test_broken bound t

unfoldable pub test_or_any : Option WrittenTest → WrittenTest
test_or_any None = test.Any
test_or_any (Some t) = t

abbrev pub pair_broken : List Binding → List ℕ → List ℕ → List Code
pair_broken bound word text = word_broken word ++ test_word_broken bound (written_test text)

abbrev pub pair_meant : List Binding → List ℕ → List ℕ → SpaceRule
pair_meant bound word text = record {
  strip = bytes_eq word (codes "strip");
  test = name_test bound (test_or_any (written_test text));
}

abbrev pub pairs_broken : List Binding → List (List ℕ) → List Code
pairs_broken bound [] = []
pairs_broken bound (w ∷ []) = not_taken
pairs_broken bound (w ∷ t ∷ ws) = pair_broken bound w t ++ pairs_broken bound ws

abbrev pub pairs_meant : List Binding → List (List ℕ) → List SpaceRule
pairs_meant bound [] = []
pairs_meant bound (w ∷ []) = []
pairs_meant bound (w ∷ t ∷ ws) = pair_meant bound w t ∷ pairs_meant bound ws

-- the rules that the text breaks, in reading order
abbrev pub space_broken : List Binding → List ℕ → List Code
space_broken bound text = pairs_broken bound (words_of text)

-- the rules of white space that it means
abbrev pub space_meant : List Binding → List ℕ → List SpaceRule
space_meant bound text = pairs_meant bound (words_of text)
