-- Lists of name tests (XSLT 2.0, 4.4).
use Rattle.std.specs.Prelude.{ℕ, List, [], ◌∷◌, map, Option, Some, None}
use Rattle.xt_names.specs.declared.names.Binding.{Binding}
use Rattle.xt_names.specs.declared.codes.Code.{Code}
use Rattle.xt_names.specs.declared.codes.Code.TheVariants.{SheetStatic}
use Rattle.xt_names.specs.declared.codes.SheetStaticCode.TheVariants.{XTSE0020}
use Rattle.xt_types.specs.declared.node_tests.NameTest.{NameTest}
use Rattle.expr_names.specs.Names.{name_test, test_broken}
use Rattle.expr_names.specs.declared.written.WrittenTest.{WrittenTest}
use Rattle.query_options.specs.Spaces.{written_test, test_or_any}
use Rattle.query_options.specs.Words.{words_of}
use Rattle.sheet_values.specs.Rules.{as_prefix, each}

unfoldable pub written_broken : List Binding → Option WrittenTest → List Code
written_broken bound None = SheetStatic XTSE0020 ∷ []
written_broken bound (Some t) = as_prefix (test_broken bound t)

-- a word is a name test whose prefix is declared; a name without a prefix has no uri
abbrev pub element_broken : List Binding → List ℕ → List Code
element_broken bound word = written_broken bound (written_test word)

abbrev pub element_meant : List Binding → List ℕ → NameTest
element_meant bound word = name_test bound (test_or_any (written_test word))

abbrev pub elements_broken : List Binding → List (List ℕ) → List Code
elements_broken bound words = each (element_broken bound) words

abbrev pub elements_meant : List Binding → List (List ℕ) → List NameTest
elements_meant bound words = map (element_meant bound) words

abbrev pub name_tests_faults : List Binding → List ℕ → List Code
name_tests_faults bound text = elements_broken bound (words_of text)

abbrev pub name_tests_value : List Binding → List ℕ → List NameTest
name_tests_value bound text = elements_meant bound (words_of text)
