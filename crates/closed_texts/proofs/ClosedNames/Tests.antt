-- Lists of name tests that break no rule have names that XML allows, and uris where they need them.
use Rattle.std.proofs.Common.{◌≡◌, ℕ, List, [], ◌∷◌, true, not, Option, Some, None, refl, ap}
use Rattle.std.proofs.lemmas.Bool.{and_from}
use Rattle.std.specs.List.{list_all}
use Rattle.xt_names.specs.Allowed.{is_empty_text}
use Rattle.xt_names.specs.declared.codes.Code.{Code}
use Rattle.xt_names.specs.declared.names.Binding.{Binding}
use Rattle.xt_types.specs.declared.node_tests.NameTest.{NameTest}
use Rattle.closed_queries.specs.Texts.{is_sound_name_test}
use Rattle.expr_names.specs.Names.{name_test, test_broken}
use Rattle.expr_names.specs.declared.written.WrittenTest.{WrittenTest}
use Rattle.expr_names.specs.declared.written.WrittenTest.TheVariants as test
use Rattle.query_options.specs.Spaces.{written_test, test_or_any}
use Rattle.query_options.specs.Words.{words_of}
use Rattle.sheet_values.specs.Elements.{written_broken, element_broken, element_meant}
use Rattle.sheet_values.specs.Elements.{elements_broken, elements_meant, name_tests_faults}
use Rattle.sheet_values.specs.Elements.{name_tests_value}
use Rattle.sheet_values.specs.Rules.{as_prefix}
use Rattle.sound_expressions.specs.SoundForms.Sound.{SoundBindings}
use Rattle.sound_expressions.proofs.SoundForms.NameLemmas.{expr_name_good, name_is_text, no_uri, declared_uri}
use Rattle.closed_texts.specs.ClosedNames.Tests.{is_declared_test}
use Rattle.closed_texts.proofs.ClosedNames.Written.{IsTest, IfTest, test_written}
use Rattle.xt_names.specs.ExprNames.{uri_of}
use Rattle.xt_names.proofs.ListLemmas.{front_nil, back_nil}

no_prefix : (cs : List Code) → as_prefix cs ≡ [] → cs ≡ []
no_prefix [] h = refl
no_prefix (c ∷ cs) h = absurd cc

-- a test that has a uri where it needs one, and is sound
record GoodTest (n : NameTest) : Type 0 where
  declared : is_declared_test n ≡ true
  sound : is_sound_name_test n ≡ true

test_so : (bound : List Binding) (t : WrittenTest) → SoundBindings bound → IsTest t
    → test_broken bound t ≡ [] → GoodTest (name_test bound t)
unfolding name_test test_broken is_declared_test is_sound_name_test
test_so bound test.Any u h f = record { declared = refl; sound = refl }
test_so bound (test.Prefix prefix) u h f =
    record {
      declared = and_from (not (is_empty_text (uri_of bound prefix))) _
          (ap not (declared_uri bound prefix f)) (ap not (u prefix).good.other);
      sound = (u prefix).good.text;
    }
test_so bound (test.Local local) u h f = record { declared = refl; sound = name_is_text local h }
test_so bound (test.Exact w) u h f =
    record { declared = refl; sound = expr_name_good bound [] w u no_uri h }

word_so : (bound : List Binding) (t : Option WrittenTest) → SoundBindings bound → IfTest t
    → written_broken bound t ≡ [] → GoodTest (name_test bound (test_or_any t))
unfolding written_broken test_or_any
word_so bound None u h f = absurd cc
word_so bound (Some t) u h f = test_so bound t u h (no_prefix (test_broken bound t) f)

pub record GoodTests (ts : List NameTest) : Type 0 where
  pub declared : list_all is_declared_test ts ≡ true
  pub sound : list_all is_sound_name_test ts ≡ true

words_so : (bound : List Binding) (words : List (List ℕ)) → SoundBindings bound
    → elements_broken bound words ≡ [] → GoodTests (elements_meant bound words)
words_so bound [] u f = record { declared = refl; sound = refl }
words_so bound (w ∷ ws) u f =
    let first = word_so bound (written_test w) u (test_written w)
    (front_nil (element_broken bound w) (elements_broken bound ws) f) in
    let others = words_so bound ws u
    (back_nil (element_broken bound w) (elements_broken bound ws) f) in
    record {
      declared = and_from (is_declared_test (element_meant bound w)) _ first.declared
          others.declared;
      sound = and_from (is_sound_name_test (element_meant bound w)) _ first.sound others.sound;
    }

pub tests_so : (bound : List Binding) (text : List ℕ) → SoundBindings bound
    → name_tests_faults bound text ≡ [] → GoodTests (name_tests_value bound text)
tests_so bound text u f = words_so bound (words_of text) u f
