-- The name tests of the option `space` are sound, whatever its text is.
use Rattle.std.proofs.Common.{◌≡◌, ℕ, List, [], ◌∷◌, Bool, true, false, cond, Option, Some, None}
use Rattle.std.proofs.Common.{codes, refl, sym, subst}
use Rattle.std.proofs.lemmas.Bool.{and_from}
use Rattle.std.proofs.lemmas.Option.{same_Some, none-some}
use Rattle.std.specs.List.{list_all}
use Rattle.std.specs.Str.{bytes_eq}
use Rattle.xt_names.specs.Allowed.{is_empty_text}
use Rattle.xt_names.specs.Classes.{is_ncname_text}
use Rattle.xt_names.specs.declared.names.Binding.{Binding}
use Rattle.xt_types.specs.declared.node_tests.SpaceRule.{SpaceRule}
use Rattle.closed_queries.specs.Texts.{is_sound_name_test}
use Rattle.expr_names.specs.Names.{name_test}
use Rattle.expr_names.specs.declared.written.WrittenTest.{WrittenTest}
use Rattle.expr_names.specs.declared.written.WrittenTest.TheVariants as test
use Rattle.text_operations.specs.Searches.{text_before, text_after}
use Rattle.sound_expressions.specs.SoundForms.Sound.{SoundBindings}
use Rattle.sound_expressions.proofs.SoundForms.NameLemmas.{IsWritten, expr_name_good, no_uri, name_is_text}
use Rattle.expr_resolve.specs.declared.setting.Setting.{Setting}
use Rattle.query_grammar.specs.declared.declared.Declared.{Declared}
use Rattle.query_grammar.specs.declared.declared.Declared.TheVariants as declared
use Rattle.query_options.specs.Options.{no_options, with_effect, with_option, option_effect}
use Rattle.query_options.specs.Spaces.{bare_test, test_of_any, test_of_prefix, parted_test}
use Rattle.query_options.specs.Spaces.{test_of_parts, written_test, test_or_any, pair_meant}
use Rattle.query_options.specs.Spaces.{pairs_meant, space_meant}
use Rattle.query_options.specs.Words.{words_of}
use Rattle.query_options.specs.declared.effects.Effect.{Effect}
use Rattle.query_options.specs.declared.effects.Effect.TheVariants as effect
use Rattle.query_options.specs.declared.options.Options.{Options}
use Rattle.query_resolve.specs.Late.{options_behind, all_options}

-- the names that the test writes can be written
abbrev IsNamed : WrittenTest → Type 0
IsNamed test.Any = Unit {0}
IsNamed (test.Prefix prefix) = Unit {0}
IsNamed (test.Local local) = is_ncname_text local ≡ true
IsNamed (test.Exact w) = IsWritten w

abbrev IfNamed : Option WrittenTest → Type 0
IfNamed None = Unit {0}
IfNamed (Some t) = IsNamed t

bare_written : (local : List ℕ) → is_ncname_text local ≡ true
    → IsWritten (record { prefix = []; local = local })
unfolding is_empty_text
bare_written local h = record { prefix = refl; local = h }

bare_named : (text : List ℕ) → IfNamed (bare_test text)
bare_named text = go (bytes_eq text (codes "*")) (is_ncname_text text) refl
  where
    go : (a b : Bool) → is_ncname_text text ≡ b → IfNamed (cond a (Some test.Any)
        (cond b (Some (test.Exact (record { prefix = []; local = text }))) None))
    go true b h = tt
    go false true h = bare_written text h
    go false false h = tt

any_named : (local : List ℕ) → IfNamed (test_of_any local)
any_named local = go (is_ncname_text local) refl
  where
    go : (b : Bool) → is_ncname_text local ≡ b
        → IfNamed (cond b (Some (test.Local local)) None)
    go true h = h
    go false h = tt

prefix_written : (prefix local : List ℕ) → is_ncname_text prefix ≡ true
    → is_ncname_text local ≡ true → IsWritten (record { prefix = prefix; local = local })
unfolding is_empty_text
prefix_written [] local h i = record { prefix = refl; local = i }
prefix_written (c ∷ cs) local h i = record { prefix = h; local = i }

prefix_named : (prefix local : List ℕ) → is_ncname_text prefix ≡ true
    → IfNamed (test_of_prefix prefix local)
prefix_named prefix local p = go (bytes_eq local (codes "*")) (is_ncname_text local) refl
  where
    go : (a b : Bool) → is_ncname_text local ≡ b → IfNamed (cond a (Some (test.Prefix prefix))
        (cond b (Some (test.Exact (record { prefix = prefix; local = local }))) None))
    go true b h = tt
    go false true h = prefix_written prefix local p h
    go false false h = tt

parted_named : (prefix local : List ℕ) → IfNamed (parted_test prefix local)
parted_named prefix local = go (bytes_eq prefix (codes "*")) (is_ncname_text prefix) refl
  where
    go : (a b : Bool) → is_ncname_text prefix ≡ b → IfNamed (cond a (test_of_any local)
        (cond b (test_of_prefix prefix local) None))
    go true b h = any_named local
    go false true h = prefix_named prefix local h
    go false false h = tt

parts_named : (text : List ℕ) (p l : Option (List ℕ)) → IfNamed (test_of_parts text p l)
parts_named text (Some prefix) (Some local) = parted_named prefix local
parts_named text (Some prefix) None = tt
parts_named text None l = bare_named text

written_named : (text : List ℕ) → IfNamed (written_test text)
unfolding written_test
written_named text = parts_named text (text_before (codes ":") text) (text_after (codes ":") text)

or_any_named : (o : Option WrittenTest) → IfNamed o → IsNamed (test_or_any o)
unfolding test_or_any
or_any_named None h = tt
or_any_named (Some t) h = h

test_sound : (bound : List Binding) (t : WrittenTest) → SoundBindings bound → IsNamed t
    → is_sound_name_test (name_test bound t) ≡ true
unfolding name_test is_sound_name_test
test_sound bound test.Any u h = refl
test_sound bound (test.Prefix prefix) u h = (u prefix).good.text
test_sound bound (test.Local local) u h = name_is_text local h
test_sound bound (test.Exact w) u h = expr_name_good bound [] w u no_uri h

abbrev pub are_sound_rules : List SpaceRule → Bool
are_sound_rules rules = list_all (λ r. is_sound_name_test r.test) rules

pairs_sound : (bound : List Binding) (ws : List (List ℕ)) → SoundBindings bound
    → are_sound_rules (pairs_meant bound ws) ≡ true
pairs_sound bound [] u = refl
pairs_sound bound (w ∷ []) u = refl
pairs_sound bound (w ∷ t ∷ ws) u =
    and_from (is_sound_name_test (name_test bound (test_or_any (written_test t)))) _
    (test_sound bound (test_or_any (written_test t)) u
    (or_any_named (written_test t) (written_named t))) (pairs_sound bound ws u)

effect_sound : (bound : List Binding) (o : Options) (text : List ℕ) (e : Effect)
    → SoundBindings bound → are_sound_rules o.rules ≡ true
    → are_sound_rules (with_effect bound o text e).rules ≡ true
unfolding with_effect
effect_sound bound o text effect.Space u h = pairs_sound bound (words_of text) u
effect_sound bound o text effect.Declaration u h = h
effect_sound bound o text effect.Nothing u h = h

behind_sound : (s : Setting) (o : Options) (d : Declared) → SoundBindings s.prefixes.bound
    → are_sound_rules o.rules ≡ true → are_sound_rules (options_behind s o d).rules ≡ true
unfolding options_behind
behind_sound s o (declared.Setting name text) u h =
    effect_sound s.prefixes.bound o text (option_effect s.prefixes.bound name) u h
behind_sound s o _ u h = h

pub options_sound : (s : Setting) (o : Options) (ds : List Declared)
    → SoundBindings s.prefixes.bound → are_sound_rules o.rules ≡ true
    → are_sound_rules (all_options s o ds).rules ≡ true
options_sound s o [] u h = h
options_sound s o (d ∷ ds) u h =
    options_sound s (options_behind s o d) ds u (behind_sound s o d u h)
