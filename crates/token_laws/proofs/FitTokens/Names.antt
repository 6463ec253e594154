-- The tokens of names and node tests are fit, where the names are sound.
use Rattle.std.proofs.Common.{◌≡◌, ℕ, List, [], ◌∷◌, Bool, true, false, ◌&&◌, ◌||◌, not, cond}
use Rattle.std.proofs.Common.{refl}
use Rattle.std.proofs.Common.{ap, subst, Option, Some, None, is_some}
use Rattle.std.proofs.lemmas.Bool.{and_parts, and_from}
use Rattle.xt_names.specs.Allowed.{is_empty_text, is_allowed_name, is_prefix_of, keeps_xml}
use Rattle.xt_names.specs.Allowed.{keeps_xmlns, xmlns_uri}
use Rattle.xt_names.specs.Classes.{is_ncname_text, is_xml_text, begins_name, is_in_ranges}
use Rattle.xt_names.specs.declared.names.Binding.{Binding}
use Rattle.xt_names.specs.declared.names.ExprName.{ExprName}
use Rattle.xt_names.specs.declared.names.Name.{Name}
use Rattle.xt_names.specs.declared.kinds.AtomType.{AtomType}
use Rattle.xt_names.specs.declared.kinds.AtomType.TheVariants as atom
use Rattle.xt_types.specs.declared.node_tests.NameTest.{NameTest}
use Rattle.xt_types.specs.declared.node_tests.NameTest.TheVariants as name
use Rattle.std.specs.Str.{bytes_eq}
use Rattle.closed_queries.specs.Texts.{is_sound_expr_name, is_sound_name, is_sound_name_test}
use Rattle.expr_keys.specs.declared.keys.Key.{Key}
use Rattle.expr_keys.specs.declared.tokens.Token.{Token}
use Rattle.expr_keys.specs.declared.tokens.Token.TheVariants as token
use Rattle.expr_tokens.specs.Words.{key_of_word}
use Rattle.expr_tokens.specs.Terms.{word_or_name, word_term}
use Rattle.sound_expressions.specs.SoundForms.Sound.{is_sound_prefix}
use Rattle.query_pages.specs.TokenTexts.Written.{is_named}
use Rattle.expr_raws.specs.PathRaws.Names.{first_that, qualified, spellings, any_locals, test_spellings}
use Rattle.expr_raws.specs.ControlRaws.Types.{local_name}
use Rattle.expr_raws.specs.ElementRaws.Makers.{node_spelling}
use Rattle.token_laws.specs.FitTokens.Keeps.{are_prefixes}
use Rattle.token_laws.proofs.FitTokens.Fits.{May}

abbrev pub AllMay : List Token → Type 0
AllMay [] = Unit {0}
AllMay (t ∷ ts) = May t × AllMay ts

pub first_may : (f : Token → Bool) (ts : List Token) (t : Token) → first_that f ts ≡ Some t
    → AllMay ts → May t
first_may f [] t e a = absurd (cc)
first_may f (u ∷ us) t e a = go (f u) e (λ w. first_may f us t w a.1)
  where
    go : (b : Bool) → cond b (Some u) (first_that f us) ≡ Some t
        → (first_that f us ≡ Some t → May t) → May t
    go true w more = let same : u ≡ t = cc in subst (λ x. May x) same a.0
    go false w more = more w

word_may : (n : List ℕ) → is_ncname_text n ≡ true → May (word_term n)
word_may n e = go (key_of_word n) refl
  where
    go : (o : Option Key) → key_of_word n ≡ o → May (word_or_name o n)
    go (Some k) w = λ h. refl
    go None w = λ h. and_from (is_ncname_text n) (not (is_some (key_of_word n))) e
        (ap (λ o. not (is_some o)) w)

not_first : (a b : Bool) → a ≡ false → (a || b) ≡ true → b ≡ true
not_first true b e h = absurd (cc)
not_first false b e h = h

pub qualified_may : (bound : List Binding) → are_prefixes bound ≡ true → (n : List ℕ)
    → is_ncname_text n ≡ true → AllMay (qualified bound n)
qualified_may [] ps n e = tt
qualified_may (b ∷ bs) ps n e = go (is_empty_text b.prefix) refl (qualified_may bs
    (and_parts (is_sound_prefix b.prefix) (are_prefixes bs) ps).1 n e)
  where
    heads : (is_sound_prefix b.prefix ≡ true) × (are_prefixes bs ≡ true)
    heads = and_parts (is_sound_prefix b.prefix) (are_prefixes bs) ps

    go : (x : Bool) → is_empty_text b.prefix ≡ x → AllMay (qualified bs n)
        → AllMay (cond x (qualified bs n) (token.Qname b.prefix n ∷ qualified bs n))
    go true w more = more
    go false w more = (
      λ h. and_from (is_ncname_text b.prefix) (is_ncname_text n)
          (not_first (is_empty_text b.prefix) (is_ncname_text b.prefix) w heads.0) e,
      more,
    )

pub spellings_may : (bound : List Binding) → are_prefixes bound ≡ true → (n : List ℕ)
    → is_ncname_text n ≡ true → AllMay (spellings bound n)
spellings_may bound ps n e = (word_may n e, qualified_may bound ps n e)

any_locals_may : (bound : List Binding) → are_prefixes bound ≡ true → AllMay (any_locals bound)
any_locals_may [] ps = tt
any_locals_may (b ∷ bs) ps = go (is_empty_text b.prefix) refl (any_locals_may bs
    (and_parts (is_sound_prefix b.prefix) (are_prefixes bs) ps).1)
  where
    heads : (is_sound_prefix b.prefix ≡ true) × (are_prefixes bs ≡ true)
    heads = and_parts (is_sound_prefix b.prefix) (are_prefixes bs) ps

    go : (x : Bool) → is_empty_text b.prefix ≡ x → AllMay (any_locals bs)
        → AllMay (cond x (any_locals bs) (token.AnyLocal b.prefix ∷ any_locals bs))
    go true w more = more
    go false w more = (
      λ h. not_first (is_empty_text b.prefix) (is_ncname_text b.prefix) w heads.0,
      more,
    )

pub local_sound : (n : ExprName) → is_sound_expr_name n ≡ true → is_ncname_text n.local ≡ true
unfolding is_sound_expr_name
local_sound n e =
    (and_parts (is_ncname_text n.local) (is_xml_text n.uri && not (bytes_eq n.uri xmlns_uri)) e).0

pub test_may : (bound : List Binding) → are_prefixes bound ≡ true → (n : NameTest)
    → is_sound_name_test n ≡ true → AllMay (test_spellings bound n)
unfolding is_sound_name_test
test_may bound ps name.Any e = (λ h. refl, tt)
test_may bound ps (name.Uri u) e = any_locals_may bound ps
test_may bound ps (name.Local n) e = (λ h. h, tt)
test_may bound ps (name.Exact n) e = spellings_may bound ps n.local (local_sound n e)

pub atom_named : (k : AtomType) → is_ncname_text (local_name k) ≡ true
unfolding is_ncname_text begins_name is_in_ranges
atom_named atom.Str = cc
atom_named atom.Untyped = cc
atom_named atom.Int = cc
atom_named atom.Bool = cc
atom_named atom.QName = cc
atom_named atom.Any = cc

first_two : (a b c d : Bool) → (a && b && c && d) ≡ true → (a ≡ true) × (b ≡ true)
first_two true true c d h = (refl, refl)
first_two true false c d h = absurd (cc)
first_two false b c d h = absurd (cc)

-- the name of a node: its local part and its prefix are NCNames
pub name_parts : (n : Name) → is_sound_name n ≡ true
    → (is_ncname_text n.local ≡ true)
    × ((is_empty_text n.prefix || (is_ncname_text n.prefix && not (is_empty_text n.uri))) ≡ true)
unfolding is_sound_name is_allowed_name is_prefix_of
name_parts n e = first_two (is_ncname_text n.local) (is_prefix_of n.prefix n.uri)
    (keeps_xml n.prefix n.uri) (keeps_xmlns n.prefix n.uri)
    (and_parts (is_allowed_name n.prefix n.uri n.local) (is_xml_text n.uri) e).0

pub name_named : (n : Name) → is_sound_name n ≡ true → is_named n.prefix n.local ≡ true
unfolding is_empty_text
name_named n e = go n.prefix (name_parts n e).1
  where
    go : (p : List ℕ) → (is_empty_text p || (is_ncname_text p && not (is_empty_text n.uri))) ≡ true
        → is_named p n.local ≡ true
    go [] h = (name_parts n e).0
    go (c ∷ cs) h = and_from (is_ncname_text (c ∷ cs)) (is_ncname_text n.local)
        (and_parts (is_ncname_text (c ∷ cs)) (not (is_empty_text n.uri)) h).0 (name_parts n e).0

pub node_may : (n : Name) → is_sound_name n ≡ true → AllMay (node_spelling n ∷ [])
node_may n e = (go (is_empty_text n.prefix) refl, tt)
  where
    go : (x : Bool) → is_empty_text n.prefix ≡ x
        → May (cond x (word_term n.local) (token.Qname n.prefix n.local))
    go true w = word_may n.local (name_parts n e).0
    go false w = λ h. and_from (is_ncname_text n.prefix) (is_ncname_text n.local)
        (and_parts (is_ncname_text n.prefix) (not (is_empty_text n.uri))
        (not_first (is_empty_text n.prefix) (is_ncname_text n.prefix && not (is_empty_text n.uri))
        w (name_parts n e).1)).0 (name_parts n e).0
