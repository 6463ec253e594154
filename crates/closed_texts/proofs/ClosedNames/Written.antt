-- The names and the name tests that texts write can be written.
use Rattle.std.proofs.Common.{◌≡◌, ℕ, List, [], ◌∷◌, Bool, true, false, cond, Option, Some, None}
use Rattle.std.proofs.Common.{refl, codes}
use Rattle.std.specs.Str.{bytes_eq}
use Rattle.xt_names.specs.Allowed.{is_empty_text}
use Rattle.xt_names.specs.Classes.{is_ncname_text}
use Rattle.expr_names.specs.declared.written.Written.{Written}
use Rattle.expr_names.specs.declared.written.WrittenTest.{WrittenTest}
use Rattle.expr_names.specs.declared.written.WrittenTest.TheVariants as test
use Rattle.query_options.specs.Spaces.{bare_test, test_of_any, test_of_prefix, parted_test}
use Rattle.query_options.specs.Spaces.{test_of_parts, written_test}
use Rattle.text_operations.specs.Searches.{text_before, text_after}
use Rattle.sheet_values.specs.Names.{exact_of, written_name}
use Rattle.sound_expressions.proofs.SoundForms.NameLemmas.{IsWritten}

-- what a name test is of
abbrev pub IsTest : WrittenTest → Type 0
IsTest test.Any = Unit {0}
IsTest (test.Prefix prefix) = is_ncname_text prefix ≡ true
IsTest (test.Local local) = is_ncname_text local ≡ true
IsTest (test.Exact w) = IsWritten w

abbrev pub IfTest : Option WrittenTest → Type 0
IfTest None = Unit {0}
IfTest (Some t) = IsTest t

-- the name that a text writes, where it writes one
abbrev pub IfWritten : Option Written → Type 0
IfWritten None = Unit {0}
IfWritten (Some w) = IsWritten w

prefix_written : (prefix local : List ℕ) → is_ncname_text prefix ≡ true
    → is_ncname_text local ≡ true → IsWritten (record { prefix = prefix; local = local })
unfolding is_empty_text
prefix_written [] local h i = record { prefix = refl; local = i }
prefix_written (c ∷ cs) local h i = record { prefix = h; local = i }

bare_written : (text : List ℕ) → IfTest (bare_test text)
unfolding is_empty_text
bare_written text = go (bytes_eq text (codes "*")) (is_ncname_text text) refl
  where
    go : (a b : Bool) → is_ncname_text text ≡ b → IfTest (cond a (Some test.Any)
        (cond b (Some (test.Exact (record { prefix = []; local = text }))) None))
    go true b h = tt
    go false true h = record { prefix = refl; local = h }
    go false false h = tt

any_written : (local : List ℕ) → IfTest (test_of_any local)
any_written local = go (is_ncname_text local) refl
  where
    go : (b : Bool) → is_ncname_text local ≡ b
        → IfTest (cond b (Some (test.Local local)) None)
    go true h = h
    go false h = tt

prefixed_written : (prefix local : List ℕ) → is_ncname_text prefix ≡ true
    → IfTest (test_of_prefix prefix local)
prefixed_written prefix local p = go (bytes_eq local (codes "*")) (is_ncname_text local) refl
  where
    go : (a b : Bool) → is_ncname_text local ≡ b → IfTest (cond a (Some (test.Prefix prefix))
        (cond b (Some (test.Exact (record { prefix = prefix; local = local }))) None))
    go true b h = p
    go false true h = prefix_written prefix local p h
    go false false h = tt

parted_written : (prefix local : List ℕ) → IfTest (parted_test prefix local)
parted_written prefix local = go (bytes_eq prefix (codes "*")) (is_ncname_text prefix) refl
  where
    go : (a b : Bool) → is_ncname_text prefix ≡ b → IfTest (cond a (test_of_any local)
        (cond b (test_of_prefix prefix local) None))
    go true b h = any_written local
    go false true h = prefixed_written prefix local h
    go false false h = tt

parts_written : (text : List ℕ) (p l : Option (List ℕ)) → IfTest (test_of_parts text p l)
parts_written text (Some prefix) (Some local) = parted_written prefix local
parts_written text (Some prefix) None = tt
parts_written text None l = bare_written text

pub test_written : (text : List ℕ) → IfTest (written_test text)
unfolding written_test
test_written text = parts_written text (text_before (codes ":") text) (text_after (codes ":") text)

exact_written : (t : Option WrittenTest) → IfTest t → IfWritten (exact_of t)
exact_written None h = tt
exact_written (Some test.Any) h = tt
exact_written (Some (test.Prefix prefix)) h = tt
exact_written (Some (test.Local local)) h = tt
exact_written (Some (test.Exact w)) h = h

pub name_written : (text : List ℕ) → IfWritten (written_name text)
unfolding written_name
name_written text = exact_written (written_test text) (test_written text)
