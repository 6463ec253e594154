-- Names, tests and types that sound tokens write are sound.
use Rattle.std.proofs.Common.{◌≡◌, ℕ, nat_le, List, [], ◌∷◌, Bool, true, false, not, cond}
use Rattle.std.proofs.Common.{◌&&◌, ◌||◌, Option, Some, None, refl, ap, subst, ◌∙◌, arith, nat_lt}
use Rattle.std.proofs.Common.{codes, inl, inr}
use Rattle.std.proofs.lemmas.Bool.{and_parts, and_from, or_cases, or_left, or_right, leb-true, le-leb}
use Rattle.std.proofs.lemmas.Str.{chars-IsAscii}
use Rattle.std.specs.List.{list_all, list_any}
use Rattle.std.specs.Str.{bytes_eq, chars}
use Rattle.xt_names.specs.Allowed.{is_empty_text, keeps_xml, keeps_xmlns, is_prefix_of}
use Rattle.xt_names.specs.Allowed.{is_allowed_name, same_truth, xml_uri, xmlns_uri}
use Rattle.xt_names.specs.Classes.{is_ncname_text, is_xml_text, begins_name, is_in_ranges}
use Rattle.xt_names.specs.Classes.{xml_char_ranges, ncname_char_ranges}
use Rattle.xt_names.proofs.TextLemmas.{ascii_list}
use Rattle.xt_names.specs.declared.codes.Code.{Code}
use Rattle.xt_names.specs.declared.names.Binding.{Binding}
use Rattle.xt_names.specs.declared.names.ExprName.{ExprName}
use Rattle.xt_names.specs.declared.kinds.AtomType.{AtomType}
use Rattle.xt_names.specs.declared.kinds.AtomType.TheVariants as atom
use Rattle.xt_types.specs.Regular.{is_regular_name_test, is_kind_name}
use Rattle.xt_types.specs.declared.node_tests.NameTest.{NameTest}
use Rattle.xt_types.specs.declared.node_tests.NameTest.TheVariants as name
use Rattle.xt_forms.specs.Regular.{is_cast_type, is_cast_name, is_bare_name}
use Rattle.closed_queries.specs.Texts.{is_sound_expr_name, is_sound_name, is_sound_name_test}
use Rattle.expr_names.specs.declared.written.Written.{Written}
use Rattle.expr_names.specs.declared.written.WrittenTest.TheVariants as written
use Rattle.expr_names.specs.Names.{uri_in, undeclared, undeclared_in, expr_name, node_name}
use Rattle.expr_names.specs.Names.{name_test, test_broken, default_name, default_in}
use Rattle.expr_names.specs.Types.{type_named, call_type, cast_broken, type_or_any}
use Rattle.expr_keys.specs.Keys.{key_text, is_worded, is_reserved, same_key}
use Rattle.expr_keys.specs.Tokens.{fits_name, fits_word, fits_function, fits_wild, fits_key}
use Rattle.expr_keys.specs.Classes.{fits_piece}
use Rattle.expr_keys.specs.declared.productions.Class.TheVariants.{StartTagOpen as start_tag_open, ChildTagOpen as child_tag_open}
use Rattle.expr_keys.specs.declared.productions.Class.TheVariants.{Attribute as attribute}
use Rattle.expr_keys.specs.declared.keys.Key.{Key}
use Rattle.expr_keys.specs.declared.keys.Key.TheVariants as key
use Rattle.expr_keys.specs.declared.tokens.Token.{Token}
use Rattle.expr_keys.specs.declared.tokens.Token.TheVariants as token
use Rattle.expr_rules.specs.ExprMeant.Names.{written_in, written_test_in}
use Rattle.sound_expressions.specs.SoundForms.Sound.{is_sound_prefix, is_sound_token, SoundUri}
use Rattle.sound_expressions.specs.SoundForms.Sound.{SoundBindings}
use Rattle.xt_names.specs.ExprNames.{uri_of}

-- the characters of names are characters of XML

abbrev is_within : List (ℕ × ℕ) → ℕ × ℕ → Bool
is_within qs r = list_any (λ q. nat_le q.0 r.0 && nat_le r.1 q.1) qs

range_in : (r q : ℕ × ℕ) (c : ℕ) → (nat_le q.0 r.0 && nat_le r.1 q.1) ≡ true
    → (nat_le r.0 c && nat_le c r.1) ≡ true → (nat_le q.0 c && nat_le c q.1) ≡ true
range_in r q c w h =
    let a = and_parts (nat_le q.0 r.0) (nat_le r.1 q.1) w in
    let b = and_parts (nat_le r.0 c) (nat_le c r.1) h in
    let a0 = leb-true _ _ a.0 in
    let a1 = leb-true _ _ a.1 in
    let b0 = leb-true _ _ b.0 in
    let b1 = leb-true _ _ b.1 in
    and_from _ _ (le-leb q.0 c (omega arith)) (le-leb c q.1 (omega arith))

range_inside : (qs : List (ℕ × ℕ)) (r : ℕ × ℕ) (c : ℕ) → is_within qs r ≡ true
    → (nat_le r.0 c && nat_le c r.1) ≡ true → is_in_ranges qs c ≡ true
unfolding is_in_ranges
range_inside [] r c w h = absurd cc
range_inside (q ∷ qs) r c w h =
    elim (or_cases (nat_le q.0 r.0 && nat_le r.1 q.1) (is_within qs r) w) [
      | inl a ↦ or_left _ _ (range_in r q c a h)
      | inr b ↦ or_right _ _ (range_inside qs r c b h)
    ]

ranges_inside : (rs qs : List (ℕ × ℕ)) (c : ℕ) → list_all (is_within qs) rs ≡ true
    → is_in_ranges rs c ≡ true → is_in_ranges qs c ≡ true
unfolding is_in_ranges
ranges_inside [] qs c w h = absurd cc
ranges_inside (r ∷ rs) qs c w h =
    let a = and_parts (is_within qs r) (list_all (is_within qs) rs) w in
    elim (or_cases (nat_le r.0 c && nat_le c r.1) (is_in_ranges rs c) h) [
      | inl x ↦ range_inside qs r c a.0 x
      | inr y ↦ ranges_inside rs qs c a.1 y
    ]

all_inside : (cs : List ℕ) → list_all (is_in_ranges ncname_char_ranges) cs ≡ true
    → list_all (is_in_ranges xml_char_ranges) cs ≡ true
all_inside [] h = refl
all_inside (c ∷ cs) h =
    let a = and_parts (is_in_ranges ncname_char_ranges c) (list_all (is_in_ranges ncname_char_ranges) cs) h in
    and_from _ _ (ranges_inside ncname_char_ranges xml_char_ranges c refl a.0) (all_inside cs a.1)

pub name_is_text : (n : List ℕ) → is_ncname_text n ≡ true → is_xml_text n ≡ true
unfolding is_ncname_text is_xml_text
name_is_text n h =
    all_inside n (and_parts (begins_name n) (list_all (is_in_ranges ncname_char_ranges) n) h).1

-- words are names

ascii_key : (k : Key) → list_all (λ b. nat_lt b 128) (key_text k) ≡ true
ascii_key key.OpenParen = refl
ascii_key _ = refl

word_named : (k : Key) → is_worded k ≡ true → is_ncname_text (key_text k) ≡ true
unfolding is_ncname_text begins_name is_in_ranges
word_named key.OpenParen e = cc
word_named _ e = cc

worded_name : (k : Key) → is_worded k ≡ true → is_ncname_text (chars (key_text k)) ≡ true
worded_name k e =
    let same = chars-IsAscii (key_text k) (ascii_list (key_text k) (ascii_key k)) in
    ap is_ncname_text same ∙ word_named k e

-- a name that is written

pub record IsWritten (w : Written) : Type 0 where
  pub prefix : is_sound_prefix w.prefix ≡ true
  pub local : is_ncname_text w.local ≡ true

pub name_written : (t : Token) → fits_name t ≡ true → is_sound_token t ≡ true
    → IsWritten (written_in t)
unfolding written_in is_empty_text
name_written (token.Key k) f s = record { prefix = refl; local = worded_name k f }
name_written (token.Name n) f s = record { prefix = refl; local = s }
name_written (token.Qname p n) f s =
    let a = and_parts (is_ncname_text p) (is_ncname_text n) s in
    record { prefix = or_right (is_empty_text p) _ a.0; local = a.1 }
name_written _ f s = absurd cc

function_worded : (k : Key) (b : Bool) → cond b false (is_worded k) ≡ true → is_worded k ≡ true
function_worded k true e = absurd cc
function_worded k false e = e

pub function_written : (t : Token) → fits_function t ≡ true → is_sound_token t ≡ true
    → IsWritten (written_in t)
function_written (token.Key k) f s =
    name_written (token.Key k) (function_worded k (is_reserved k) f) s
function_written (token.Name n) f s = name_written (token.Name n) refl s
function_written (token.Qname p n) f s = name_written (token.Qname p n) refl s
function_written _ f s = absurd cc

pub word_written : (t : Token) → fits_word t ≡ true → is_sound_token t ≡ true
    → IsWritten (written_in t)
word_written (token.Key k) f s = name_written (token.Key k) f s
word_written (token.Name n) f s = name_written (token.Name n) refl s
word_written _ f s = absurd cc

pub word_bare : (t : Token) → fits_word t ≡ true → (written_in t).prefix ≡ []
unfolding written_in
word_bare (token.Key k) f = refl
word_bare (token.Name n) f = refl
word_bare _ f = absurd cc

tag_so : (p n : List ℕ) → (is_sound_prefix p && is_ncname_text n) ≡ true
    → IsWritten (record { prefix = p; local = n })
tag_so p n s =
    let a = and_parts (is_sound_prefix p) (is_ncname_text n) s in
    record { prefix = a.0; local = a.1 }

pub outer_written : (t : Token) → fits_piece start_tag_open t ≡ true → is_sound_token t ≡ true
    → IsWritten (written_in t)
unfolding written_in
outer_written (token.StartTagOpen p n) f s = tag_so p n s
outer_written _ f s = absurd cc

pub inner_written : (t : Token) → fits_piece child_tag_open t ≡ true → is_sound_token t ≡ true
    → IsWritten (written_in t)
unfolding written_in
inner_written (token.ChildTagOpen p n) f s = tag_so p n s
inner_written _ f s = absurd cc

pub attribute_written : (t : Token) → fits_piece attribute t ≡ true → is_sound_token t ≡ true
    → IsWritten (written_in t)
unfolding written_in
attribute_written (token.Attribute p n) f s = tag_so p n s
attribute_written _ f s = absurd cc

-- names

pub no_uri : SoundUri []
unfolding is_xml_text
no_uri = record { text = refl; other = refl }

uri_good : (bound : List Binding) (default : List ℕ) (w : Written) → SoundBindings bound
    → SoundUri default → SoundUri (uri_in bound default w)
unfolding uri_in
uri_good bound default w u d = go (is_empty_text w.prefix)
  where
    go : (b : Bool) → SoundUri (cond b default (uri_of bound w.prefix))
    go true = d
    go false = (u w.prefix).good

pub expr_name_good : (bound : List Binding) (default : List ℕ) (w : Written) → SoundBindings bound
    → SoundUri default → IsWritten w → is_sound_expr_name (expr_name bound default w) ≡ true
unfolding is_sound_expr_name
expr_name_good bound default w u d i =
    let g = uri_good bound default w u d in rw (i.local, g.text, g.other) refl

pub declared_uri : (bound : List Binding) (prefix : List ℕ) → undeclared bound prefix ≡ []
    → is_empty_text (uri_of bound prefix) ≡ false
unfolding undeclared
declared_uri bound prefix e = go (is_empty_text (uri_of bound prefix)) _ e
  where
    go : (b : Bool) (c : Code) → cond b (c ∷ []) [] ≡ [] → b ≡ false
    go true c h = absurd cc
    go false c h = refl

node_so : (bound : List Binding) (default prefix local : List ℕ) → SoundBindings bound
    → SoundUri default → bytes_eq default xml_uri ≡ false
    → IsWritten (record { prefix = prefix; local = local })
    → undeclared_in bound (record { prefix = prefix; local = local }) ≡ []
    → is_sound_name (node_name bound default (record { prefix = prefix; local = local })) ≡ true
unfolding is_sound_name is_allowed_name is_prefix_of keeps_xml keeps_xmlns uri_in undeclared_in is_empty_text
node_so bound default [] local u d x i e = rw (i.local, x, d.other, d.text) refl
node_so bound default (c ∷ cs) local u d x i e =
    let b = u (c ∷ cs) in
    let some = declared_uri bound (c ∷ cs) e in
    let kept : same_truth (bytes_eq (c ∷ cs) (codes "xml")) (bytes_eq (uri_of bound (c ∷ cs)) xml_uri) ≡ true = b.xml some in
    let named : is_ncname_text (c ∷ cs) ≡ true = i.prefix in
    rw (i.local, named, some, kept, b.xmlns some, b.good.other, b.good.text) refl

pub node_name_good : (bound : List Binding) (default : List ℕ) (w : Written) → SoundBindings bound
    → SoundUri default → bytes_eq default xml_uri ≡ false → IsWritten w → undeclared_in bound w ≡ []
    → is_sound_name (node_name bound default w) ≡ true
node_name_good bound default w u d x i e = node_so bound default w.prefix w.local u d x i e

pub bare_good : (bound : List Binding) (w : Written) → w.prefix ≡ []
    → is_bare_name (node_name bound [] w) ≡ true
unfolding is_bare_name uri_in is_empty_text
bare_good bound w e = rw e refl

-- name tests

pub record GoodTest (n : NameTest) : Type 0 where
  pub regular : is_regular_name_test n ≡ true
  pub sound : is_sound_name_test n ≡ true

exact_good : (n : ExprName) → is_sound_expr_name n ≡ true → GoodTest (name.Exact n)
unfolding is_regular_name_test is_sound_name_test
exact_good n s = record { regular = refl; sound = s }

worded_or : (a b : Bool) → (a || b) ≡ true → b ≡ false → a ≡ true
worded_or true b h e = refl
worded_or false b h e = absurd cc

pub test_good : (bound : List Binding) (t : Token) → SoundBindings bound
    → (fits_name t || fits_wild t) ≡ true → is_sound_token t ≡ true
    → test_broken bound (written_test_in t) ≡ [] → GoodTest (name_test bound (written_test_in t))
unfolding written_test_in name_test test_broken is_regular_name_test is_sound_name_test written_in
test_good bound (token.Key k) u f s e = go (same_key key.Star k) refl
  where
    go : (b : Bool) → same_key key.Star k ≡ b → GoodTest (name_test bound (cond b written.Any
        (written.Exact (record { prefix = []; local = chars (key_text k) }))))
    go true h = record { regular = refl; sound = refl }
    go false h = exact_good _ (expr_name_good bound [] _ u no_uri
        (name_written (token.Key k) (worded_or (is_worded k) (same_key key.Star k) f h) s))
test_good bound (token.AnyLocal p) u f s e =
    record { regular = rw (declared_uri bound p e) refl; sound = (u p).good.text }
test_good bound (token.AnyPrefix n) u f s e = record { regular = refl; sound = name_is_text n s }
test_good bound (token.Name n) u f s e =
    exact_good _ (expr_name_good bound [] _ u no_uri (name_written (token.Name n) refl s))
test_good bound (token.Qname p n) u f s e =
    exact_good _ (expr_name_good bound [] _ u no_uri (name_written (token.Qname p n) refl s))
test_good bound _ u f s e = absurd cc

defaulted_name : (default : List ℕ) (n : ExprName) → SoundUri default
    → is_sound_expr_name n ≡ true → is_sound_expr_name (default_name default n) ≡ true
unfolding default_name is_sound_expr_name
defaulted_name default n d s = go (is_empty_text n.uri)
  where
    go : (b : Bool) → is_sound_expr_name (cond b (record { uri = default; local = n.local }) n) ≡ true
    go true =
        let l = (and_parts (is_ncname_text n.local) (is_xml_text n.uri && not (bytes_eq n.uri xmlns_uri)) s).0 in
        rw (l, d.text, d.other) refl
    go false = s

pub default_good : (default : List ℕ) (n : NameTest) → SoundUri default → GoodTest n
    → GoodTest (default_in default n)
unfolding default_in is_regular_name_test is_sound_name_test
default_good default name.Any d g = g
default_good default (name.Uri uri) d g = g
default_good default (name.Local local) d g = g
default_good default (name.Exact n) d g = exact_good _ (defaulted_name default n d g.sound)

-- .. of kind tests

pub record GoodKindName (n : NameTest) : Type 0 where
  pub kind : is_kind_name n ≡ true
  pub sound : is_sound_name_test n ≡ true

exact_kind : (n : ExprName) → is_sound_expr_name n ≡ true → GoodKindName (name.Exact n)
unfolding is_kind_name is_sound_name_test
exact_kind n s = record { kind = refl; sound = s }

pub any_kind : GoodKindName name.Any
unfolding is_kind_name is_sound_name_test
any_kind = record { kind = refl; sound = refl }

pub kind_good : (bound : List Binding) (t : Token) → SoundBindings bound
    → (fits_name t || fits_key key.Star t) ≡ true → is_sound_token t ≡ true
    → GoodKindName (name_test bound (written_test_in t))
unfolding written_test_in name_test written_in
kind_good bound (token.Key k) u f s = go (same_key key.Star k) refl
  where
    go : (b : Bool) → same_key key.Star k ≡ b → GoodKindName (name_test bound (cond b written.Any
        (written.Exact (record { prefix = []; local = chars (key_text k) }))))
    go true h = any_kind
    go false h = exact_kind _ (expr_name_good bound [] _ u no_uri
        (name_written (token.Key k) (worded_or (is_worded k) (same_key key.Star k) f h) s))
kind_good bound (token.Name n) u f s =
    exact_kind _ (expr_name_good bound [] _ u no_uri (name_written (token.Name n) refl s))
kind_good bound (token.Qname p n) u f s =
    exact_kind _ (expr_name_good bound [] _ u no_uri (name_written (token.Qname p n) refl s))
kind_good bound _ u f s = absurd cc

pub default_kind : (default : List ℕ) (n : NameTest) → SoundUri default → GoodKindName n
    → GoodKindName (default_in default n)
unfolding default_in is_sound_name_test
default_kind default name.Any d g = g
default_kind default (name.Uri uri) d g = g
default_kind default (name.Local local) d g = g
default_kind default (name.Exact n) d g = exact_kind _ (defaulted_name default n d g.sound)

-- types

pub cast_good : (o : Option AtomType) → cast_broken o ≡ [] → is_cast_type (type_or_any o) ≡ true
unfolding cast_broken is_cast_type type_or_any
cast_good None e = absurd cc
cast_good (Some atom.Str) e = refl
cast_good (Some atom.Untyped) e = refl
cast_good (Some atom.Int) e = refl
cast_good (Some atom.Bool) e = refl
cast_good (Some atom.QName) e = absurd cc
cast_good (Some atom.Any) e = absurd cc

pub call_cast : (o : Option AtomType) (k : AtomType) → call_type o ≡ Some k → is_cast_type k ≡ true
unfolding call_type is_cast_type
call_cast None k e = absurd cc
call_cast (Some atom.Str) k e = subst (λ (x : AtomType). is_cast_type x ≡ true) (some_is e) refl
  where
    some_is : {a b : AtomType} → Some a ≡ Some b → a ≡ b
    some_is e = cc
call_cast (Some atom.Untyped) k e = subst (λ (x : AtomType). is_cast_type x ≡ true) (some_is e) refl
  where
    some_is : {a b : AtomType} → Some a ≡ Some b → a ≡ b
    some_is e = cc
call_cast (Some atom.Int) k e = subst (λ (x : AtomType). is_cast_type x ≡ true) (some_is e) refl
  where
    some_is : {a b : AtomType} → Some a ≡ Some b → a ≡ b
    some_is e = cc
call_cast (Some atom.Bool) k e = subst (λ (x : AtomType). is_cast_type x ≡ true) (some_is e) refl
  where
    some_is : {a b : AtomType} → Some a ≡ Some b → a ≡ b
    some_is e = cc
call_cast (Some atom.QName) k e = absurd cc
call_cast (Some atom.Any) k e = absurd cc

-- a name that no cast has
pub call_plain : (n : ExprName) → call_type (type_named n) ≡ None → is_cast_name n ≡ false
unfolding type_named call_type is_cast_name
call_plain n e = go (bytes_eq n.uri (codes "http://www.w3.org/2001/XMLSchema"))
    (bytes_eq n.local (codes "string")) (bytes_eq n.local (codes "untypedAtomic"))
    (bytes_eq n.local (codes "integer")) (bytes_eq n.local (codes "boolean")) _ e
  where
    go : (u a b c d : Bool) (o : Option AtomType)
        → call_type (cond u (cond a (Some atom.Str) (cond b (Some atom.Untyped)
        (cond c (Some atom.Int) (cond d (Some atom.Bool) o)))) None) ≡ None
        → (u && (a || (b || (c || (d || false))))) ≡ false
    go false a b c d o h = refl
    go true true b c d o h = absurd cc
    go true false true c d o h = absurd cc
    go true false false true d o h = absurd cc
    go true false false false true o h = absurd cc
    go true false false false false o h = refl
