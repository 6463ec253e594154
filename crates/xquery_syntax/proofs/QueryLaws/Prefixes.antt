-- The prefixes after setters that break no rule are those that XML allows.
use Rattle.std.proofs.Common.{◌≡◌, ℕ, List, [], ◌∷◌, ◌++◌, Bool, true, false, not, cond, ◌&&◌}
use Rattle.std.proofs.Common.{codes, refl, sym, ap, subst, ◌∙◌}
use Rattle.std.proofs.lemmas.Bool.{and_parts, and_from, not_from_false}
use Rattle.std.proofs.lemmas.Slice.Eq.{bytes_eq-Decides}
use Rattle.std.specs.List.{list_all}
use Rattle.std.specs.Str.{bytes_eq}
use Rattle.xt_names.specs.Allowed.{is_empty_text, keeps_xml, xml_uri, xmlns_uri}
use Rattle.xt_names.specs.Classes.{is_xml_text, is_in_ranges}
use Rattle.xt_names.specs.declared.codes.QueryStaticCode.{QueryStaticCode}
use Rattle.xt_names.specs.declared.codes.QueryStaticCode.TheVariants.{XQST0033, XQST0066}
use Rattle.xt_names.specs.declared.codes.QueryStaticCode.TheVariants.{XQST0070}
use Rattle.xt_names.specs.declared.names.Binding.{Binding}
use Rattle.closed_queries.specs.Texts.{is_free_prefix, is_free_uri, is_free_binding}
use Rattle.closed_queries.specs.PrologRules.Setters.{broken_if, is_kept_uri, is_kept_binding}
use Rattle.closed_queries.specs.PrologRules.Setters.{default_broken, setter_broken, seen_behind, setters_broken}
use Rattle.closed_queries.specs.PrologRules.Setters.{has_prefix}
use Rattle.closed_queries.specs.declared.prolog_rules.setters.Setter.{Setter}
use Rattle.closed_queries.specs.declared.prolog_rules.setters.Setter.TheVariants as setter
use Rattle.query_resolve.specs.QueryPrologs.Prefixes.{binding_and, declared_bindings, predeclared}
use Rattle.query_resolve.specs.QueryPrologs.Prefixes.{element_or, element_default, function_or, function_default}
use Rattle.query_resolve.specs.QueryPrologs.Prefixes.{prefixes_of}
use Rattle.sound_expressions.specs.SoundForms.Sound.{SoundUri, SoundBinding, SoundBindings, SoundPrefixes}
use Rattle.sound_expressions.proofs.SoundForms.NameLemmas.{no_uri}
use Rattle.xt_names.proofs.ListLemmas.{front_nil, back_nil}
use Rattle.xt_names.proofs.BoolLemmas.{neither, is_false}
use Rattle.xt_names.specs.ExprNames.{uri_of, binding}

unbroken : (b : Bool) (c : QueryStaticCode) → broken_if b c ≡ [] → b ≡ false
unfolding broken_if
unbroken true c e = absurd cc
unbroken false c e = refl

-- no setter is of xml or xmlns
abbrev IsFree : Setter → Type 0
IsFree (setter.Namespace b) = is_kept_binding b ≡ false
IsFree (setter.ElementDefault uri) = is_kept_uri uri ≡ false
IsFree (setter.FunctionDefault uri) = is_kept_uri uri ≡ false
IsFree (setter.BoundarySpace preserve) = Unit {0}
IsFree setter.Other = Unit {0}

-- .. and its texts are of characters of XML
abbrev pub IsTexted : Setter → Type 0
IsTexted (setter.Namespace b) = (is_xml_text b.prefix ≡ true) × (is_xml_text b.uri ≡ true)
IsTexted (setter.ElementDefault uri) = is_xml_text uri ≡ true
IsTexted (setter.FunctionDefault uri) = is_xml_text uri ≡ true
IsTexted (setter.BoundarySpace preserve) = Unit {0}
IsTexted setter.Other = Unit {0}

abbrev AreFree : List Setter → Type 0
AreFree [] = Unit {0}
AreFree (s ∷ ss) = IsFree s × AreFree ss

abbrev pub AreTexted : List Setter → Type 0
AreTexted [] = Unit {0}
AreTexted (s ∷ ss) = IsTexted s × AreTexted ss

default_free : (b : Bool) (uri : List ℕ) → default_broken b uri ≡ [] → is_kept_uri uri ≡ false
default_free b uri e = unbroken (is_kept_uri uri) XQST0070 (back_nil (broken_if b XQST0066) _ e)

setter_free : (seen : _) (s : Setter) → setter_broken seen s ≡ [] → IsFree s
unfolding setter_broken
setter_free seen (setter.Namespace b) e =
    unbroken (is_kept_binding b) XQST0070
    (back_nil (broken_if _ XQST0033) _ e)
setter_free seen (setter.ElementDefault uri) e = default_free _ uri e
setter_free seen (setter.FunctionDefault uri) e = default_free _ uri e
setter_free seen (setter.BoundarySpace preserve) e = tt
setter_free seen setter.Other e = tt

setters_free : (seen : _) (ss : List Setter) → setters_broken seen ss ≡ [] → AreFree ss
setters_free seen [] e = tt
setters_free seen (s ∷ ss) e = (
  setter_free seen s (front_nil (setter_broken seen s) (setters_broken (seen_behind seen s) ss) e),
  setters_free (seen_behind seen s) ss
      (back_nil (setter_broken seen s) (setters_broken (seen_behind seen s) ss) e),
)

uri_free : (uri : List ℕ) → is_kept_uri uri ≡ false → is_xml_text uri ≡ true
    → is_free_uri uri ≡ true
unfolding is_kept_uri is_free_uri
uri_free uri k t =
    let n = neither (bytes_eq uri xml_uri) (bytes_eq uri xmlns_uri) k in rw (t, n.0, n.1) refl

binding_free : (b : Binding) → is_kept_binding b ≡ false → is_xml_text b.prefix ≡ true
    → is_xml_text b.uri ≡ true → is_free_binding b ≡ true
unfolding is_kept_binding is_free_binding is_free_prefix
binding_free b k p t =
    let n = neither (bytes_eq b.prefix (codes "xml")) _ k in
    let m = neither (bytes_eq b.prefix (codes "xmlns")) (is_kept_uri b.uri) n.1 in
    let f = uri_free b.uri m.1 t in
    rw (p, n.0, m.0, f) refl

bindings_free : (ss : List Setter) → AreFree ss → AreTexted ss
    → list_all is_free_binding (declared_bindings ss) ≡ true
unfolding binding_and
bindings_free [] f t = refl
bindings_free (setter.Namespace b ∷ ss) f t =
    and_from (is_free_binding b) _ (binding_free b f.0 t.0.0 t.0.1) (bindings_free ss f.1 t.1)
bindings_free (setter.ElementDefault uri ∷ ss) f t = bindings_free ss f.1 t.1
bindings_free (setter.FunctionDefault uri ∷ ss) f t = bindings_free ss f.1 t.1
bindings_free (setter.BoundarySpace preserve ∷ ss) f t = bindings_free ss f.1 t.1
bindings_free (setter.Other ∷ ss) f t = bindings_free ss f.1 t.1

no_uri_free : is_free_uri [] ≡ true
unfolding is_free_uri is_xml_text
no_uri_free = refl

element_free : (ss : List Setter) → AreFree ss → AreTexted ss
    → is_free_uri (element_default ss) ≡ true
unfolding element_or
element_free [] f t = no_uri_free
element_free (setter.Namespace b ∷ ss) f t = element_free ss f.1 t.1
element_free (setter.ElementDefault uri ∷ ss) f t = uri_free uri f.0 t.0
element_free (setter.FunctionDefault uri ∷ ss) f t = element_free ss f.1 t.1
element_free (setter.BoundarySpace preserve ∷ ss) f t = element_free ss f.1 t.1
element_free (setter.Other ∷ ss) f t = element_free ss f.1 t.1

functions_uri : is_free_uri (codes "http://www.w3.org/2005/xpath-functions") ≡ true
unfolding is_free_uri is_xml_text is_in_ranges
functions_uri = refl

function_free : (ss : List Setter) → AreFree ss → AreTexted ss
    → is_free_uri (function_default ss) ≡ true
unfolding function_or
function_free [] f t = functions_uri
function_free (setter.Namespace b ∷ ss) f t = function_free ss f.1 t.1
function_free (setter.ElementDefault uri ∷ ss) f t = function_free ss f.1 t.1
function_free (setter.FunctionDefault uri ∷ ss) f t = uri_free uri f.0 t.0
function_free (setter.BoundarySpace preserve ∷ ss) f t = function_free ss f.1 t.1
function_free (setter.Other ∷ ss) f t = function_free ss f.1 t.1

-- what a free uri is
record FreeUri (uri : List ℕ) : Type 0 where
  text : is_xml_text uri ≡ true
  xml : bytes_eq uri xml_uri ≡ false
  xmlns : bytes_eq uri xmlns_uri ≡ false

free_is : (uri : List ℕ) → is_free_uri uri ≡ true → FreeUri uri
unfolding is_free_uri
free_is uri e =
    let a = and_parts (is_xml_text uri) _ e in
    let b = and_parts (not (bytes_eq uri xml_uri)) (not (bytes_eq uri xmlns_uri)) a.1 in
    record { text = a.0; xml = is_false _ b.0; xmlns = is_false _ b.1 }

sound_uri : (uri : List ℕ) → is_free_uri uri ≡ true → SoundUri uri
sound_uri uri e = let f = free_is uri e in record { text = f.text; other = f.xmlns }

-- .. and a free binding
free_sound : (b : Binding) → is_free_binding b ≡ true → SoundBinding b.prefix b.uri
unfolding is_free_binding is_free_prefix keeps_xml
free_sound b e =
    let a = and_parts (is_xml_text b.prefix && (not (bytes_eq b.prefix (codes "xml"))
    && not (bytes_eq b.prefix (codes "xmlns")))) (is_free_uri b.uri) e in
    let p = and_parts (is_xml_text b.prefix) _ a.0 in
    let q = and_parts (not (bytes_eq b.prefix (codes "xml")))
    (not (bytes_eq b.prefix (codes "xmlns"))) p.1 in
    let x = is_false _ q.0 in
    let y = is_false _ q.1 in
    let f = free_is b.uri a.1 in
    record {
      good = record { text = f.text; other = f.xmlns };
      xml = λ h. rw (x, f.xml) refl;
      xmlns = λ h. y;
    }

one_more : (b : Binding) (bs : List Binding) → SoundBinding b.prefix b.uri → SoundBindings bs
    → SoundBindings (b ∷ bs)
one_more b bs f g prefix = go (bytes_eq b.prefix prefix) refl
  where
    go : (x : Bool) → bytes_eq b.prefix prefix ≡ x
        → SoundBinding prefix (cond x b.uri (uri_of bs prefix))
    go true e =
        subst (λ (p : List ℕ). SoundBinding p b.uri) ((bytes_eq-Decides b.prefix prefix).0 e) f
    go false e = g prefix

none_bound : SoundBindings []
unfolding is_empty_text
none_bound prefix = record { good = no_uri; xml = λ h. absurd (never h); xmlns = λ h. absurd (never h) }
  where
    never : is_empty_text [] ≡ false → ⊥
    never e = absurd cc

behind_free : (bs cs : List Binding) → list_all is_free_binding bs ≡ true → SoundBindings cs
    → SoundBindings (bs ++ cs)
behind_free [] cs e g = g
behind_free (b ∷ bs) cs e g =
    let a = and_parts (is_free_binding b) (list_all is_free_binding bs) e in
    one_more b (bs ++ cs) (free_sound b a.0) (behind_free bs cs a.1 g)

xml_bound : SoundBinding (codes "xml") xml_uri
unfolding is_xml_text is_in_ranges keeps_xml
xml_bound = record {
  good = record { text = refl; other = refl };
  xml = λ h. refl;
  xmlns = λ h. refl;
}

schema_bound : SoundBinding (codes "xs") (codes "http://www.w3.org/2001/XMLSchema")
unfolding is_xml_text is_in_ranges keeps_xml
schema_bound = record {
  good = record { text = refl; other = refl };
  xml = λ h. refl;
  xmlns = λ h. refl;
}

instance_bound : SoundBinding (codes "xsi") (codes "http://www.w3.org/2001/XMLSchema-instance")
unfolding is_xml_text is_in_ranges keeps_xml
instance_bound = record {
  good = record { text = refl; other = refl };
  xml = λ h. refl;
  xmlns = λ h. refl;
}

functions_bound : SoundBinding (codes "fn") (codes "http://www.w3.org/2005/xpath-functions")
unfolding is_xml_text is_in_ranges keeps_xml
functions_bound = record {
  good = record { text = refl; other = refl };
  xml = λ h. refl;
  xmlns = λ h. refl;
}

local_bound : SoundBinding (codes "local")
    (codes "http://www.w3.org/2005/xquery-local-functions")
unfolding is_xml_text is_in_ranges keeps_xml
local_bound = record {
  good = record { text = refl; other = refl };
  xml = λ h. refl;
  xmlns = λ h. refl;
}

abbrev last_bound : List Binding
last_bound = binding (codes "local") (codes "http://www.w3.org/2005/xquery-local-functions") ∷ []

abbrev from_functions : List Binding
from_functions = binding (codes "fn") (codes "http://www.w3.org/2005/xpath-functions") ∷ last_bound

abbrev from_instance : List Binding
from_instance =
    binding (codes "xsi") (codes "http://www.w3.org/2001/XMLSchema-instance") ∷ from_functions

abbrev from_schema : List Binding
from_schema = binding (codes "xs") (codes "http://www.w3.org/2001/XMLSchema") ∷ from_instance

last_sound : SoundBindings last_bound
last_sound =
    one_more (binding (codes "local") (codes "http://www.w3.org/2005/xquery-local-functions")) []
    local_bound none_bound

functions_sound : SoundBindings from_functions
functions_sound =
    one_more (binding (codes "fn") (codes "http://www.w3.org/2005/xpath-functions")) last_bound
    functions_bound last_sound

instance_sound : SoundBindings from_instance
instance_sound =
    one_more (binding (codes "xsi") (codes "http://www.w3.org/2001/XMLSchema-instance"))
    from_functions instance_bound functions_sound

schema_sound : SoundBindings from_schema
schema_sound =
    one_more (binding (codes "xs") (codes "http://www.w3.org/2001/XMLSchema")) from_instance
    schema_bound instance_sound

predeclared_sound : SoundBindings predeclared
predeclared_sound = one_more (binding (codes "xml") xml_uri) from_schema xml_bound schema_sound

-- what is known after setters that break no rule
pub record Known (ss : List Setter) : Type 0 where
  pub prefixes : list_all is_free_binding (declared_bindings ss) ≡ true
  pub element : is_free_uri (element_default ss) ≡ true
  pub sound : SoundPrefixes (prefixes_of ss)

pub known : (seen : _) (ss : List Setter) → setters_broken seen ss ≡ [] → AreTexted ss → Known ss
known seen ss e t =
    let f = setters_free seen ss e in
    let b = bindings_free ss f t in
    let d = element_free ss f t in
    record {
      prefixes = b;
      element = d;
      sound = record {
        bound = behind_free (declared_bindings ss) predeclared b predeclared_sound;
        element = sound_uri (element_default ss) d;
        no_xml = (free_is (element_default ss) d).xml;
        function = sound_uri (function_default ss) (function_free ss f t);
      };
    }
