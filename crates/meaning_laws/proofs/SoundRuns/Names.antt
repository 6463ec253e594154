-- Computed names are names that XML and its namespaces allow.
use Rattle.std.proofs.Common.{◌≡◌, ℕ, List, [], ◌∷◌, Bool, true, false, not, ◌&&◌, refl, ap, sym}
use Rattle.std.proofs.Common.{codes, subst}
use Rattle.std.proofs.lemmas.Bool.{and_parts, and_from, or_right}
use Rattle.std.proofs.lemmas.Slice.Eq.{bytes_eq-Decides}
use Rattle.std.specs.Prelude.{Option, Some, None, Ok, Err, if◌then◌else◌}
use Rattle.std.specs.List.{list_all}
use Rattle.std.specs.Str.{bytes_eq}
use Rattle.xt_names.specs.Allowed.{is_empty_text, xml_uri, xmlns_uri, is_prefix_of}
use Rattle.xt_names.specs.Allowed.{keeps_xml, keeps_xmlns, is_allowed_name}
use Rattle.xt_names.specs.Classes.{is_in_ranges, is_ncname_text, is_xml_text}
use Rattle.xt_names.specs.declared.names.Binding.{Binding as Namespace}
use Rattle.xt_atoms.specs.declared.atoms.Atom.{Atom as AtomValue}
use Rattle.xt_atoms.specs.declared.atoms.Atom.TheVariants as atom
use Rattle.xt_tree.specs.Sound.{is_sound_name}
use Rattle.xdm_items.specs.declared.items.Item.{Item}
use Rattle.text_operations.specs.Searches.{text_before, text_after}
use Rattle.closed_queries.specs.Texts.{is_free_prefix, is_free_uri, is_free_binding}
use Rattle.operator_values.specs.Operands.{atom_of}
use Rattle.expr_meaning.specs.Names.{predeclared, namespace_of, no_name, in_namespace}
use Rattle.expr_meaning.specs.Names.{without_prefix, name_of_parts, name_of_text, name_of_atom}
use Rattle.expr_meaning.specs.Names.{name_of_items}
use Rattle.expr_laws.specs.Carrier.{OnValue}
use Rattle.meaning_laws.proofs.SoundValues.Trees.{IsName, IsSoundAtom, value_atom}
use Rattle.meaning_laws.proofs.SoundValues.Arguments.{AllSound}
use Rattle.xt_names.proofs.BoolLemmas.{is_false}

-- a prefix and a uri that may be in one name
abbrev pub may_bind : List ℕ → List ℕ → Bool
may_bind prefix uri = keeps_xml prefix uri && (keeps_xmlns prefix uri && is_xml_text uri)

pub prefixed_name : (prefix uri local : List ℕ) → is_ncname_text prefix ≡ true →
    is_empty_text uri ≡ false → is_ncname_text local ≡ true → may_bind prefix uri ≡ true →
    IsName (record { prefix = prefix; uri = uri; local = local })
unfolding is_sound_name is_allowed_name is_prefix_of
prefixed_name prefix uri local p u l m =
    let a = and_parts (keeps_xml prefix uri) (keeps_xmlns prefix uri && is_xml_text uri) m in
    let b = and_parts (keeps_xmlns prefix uri) (is_xml_text uri) a.1 in
    let some = and_from (is_ncname_text prefix) (not (is_empty_text uri)) p (ap not u) in
    and_from _ _ (and_from _ _ (and_from _ _ (and_from _ _ l
    (or_right (is_empty_text prefix) _ some)) a.0) b.0) b.1

-- the uris of a free binding
pub free_uri : (uri : List ℕ) → is_free_uri uri ≡ true → (is_xml_text uri ≡ true)
    × (bytes_eq uri xml_uri ≡ false) × (bytes_eq uri xmlns_uri ≡ false)
unfolding is_free_uri
free_uri uri h =
    let xml = bytes_eq uri xml_uri in let xmlns = bytes_eq uri xmlns_uri in
    let a = and_parts (is_xml_text uri) (not xml && not xmlns) h in
    let b = and_parts (not xml) (not xmlns) a.1 in
    (a.0, is_false xml b.0, is_false xmlns b.1)

free_prefix : (prefix : List ℕ) → is_free_prefix prefix ≡ true →
    (bytes_eq prefix (codes "xml") ≡ false) × (bytes_eq prefix (codes "xmlns") ≡ false)
unfolding is_free_prefix
free_prefix prefix h =
    let xml = bytes_eq prefix (codes "xml") in let xmlns = bytes_eq prefix (codes "xmlns") in
    let a = and_parts (is_xml_text prefix) (not xml && not xmlns) h in
    let b = and_parts (not xml) (not xmlns) a.1 in
    (is_false xml b.0, is_false xmlns b.1)

pub free_binds : (prefix uri : List ℕ) → is_free_prefix prefix ≡ true → is_free_uri uri ≡ true →
    may_bind prefix uri ≡ true
unfolding keeps_xml keeps_xmlns
free_binds prefix uri p u =
    let a = free_prefix prefix p in let b = free_uri uri u in
    rw (a.0, a.1, b.0, b.1, b.2) refl

-- a uri that a prefix stands for, where it stands for one
abbrev pub IsBound : List ℕ → List ℕ → Type 0
IsBound prefix uri = is_empty_text uri ≡ false → may_bind prefix uri ≡ true

pub none_bound : (prefix : List ℕ) → IsBound prefix []
unfolding is_empty_text
none_bound prefix e = absurd cc

pub xml_binds : may_bind (codes "xml") xml_uri ≡ true
unfolding keeps_xml keeps_xmlns is_xml_text is_in_ranges
xml_binds = refl

xs_binds : may_bind (codes "xs") (codes "http://www.w3.org/2001/XMLSchema") ≡ true
unfolding keeps_xml keeps_xmlns is_xml_text is_in_ranges
xs_binds = refl

xsi_binds : may_bind (codes "xsi") (codes "http://www.w3.org/2001/XMLSchema-instance") ≡ true
unfolding keeps_xml keeps_xmlns is_xml_text is_in_ranges
xsi_binds = refl

fn_binds : may_bind (codes "fn") (codes "http://www.w3.org/2005/xpath-functions") ≡ true
unfolding keeps_xml keeps_xmlns is_xml_text is_in_ranges
fn_binds = refl

local_binds :
    may_bind (codes "local") (codes "http://www.w3.org/2005/xquery-local-functions") ≡ true
unfolding keeps_xml keeps_xmlns is_xml_text is_in_ranges
local_binds = refl

-- the uri of one prefix, or what stands for it otherwise
choose : (prefix name uri rest : List ℕ) → may_bind name uri ≡ true →
    IsBound prefix rest → IsBound prefix (if bytes_eq prefix name then uri else rest)
choose prefix name uri rest h g =
    by (bytes_eq prefix name) ((bytes_eq-Decides prefix name).0)
  where
    by : (b : Bool) → (b ≡ true → prefix ≡ name) → IsBound prefix (if b then uri else rest)
    by true d = λ e. subst (λ p. may_bind p uri ≡ true) (sym (d refl)) h
    by false d = g

predeclared_bound : (prefix : List ℕ) → IsBound prefix (predeclared prefix)
unfolding predeclared
predeclared_bound prefix =
    choose prefix (codes "xml") xml_uri _ xml_binds
    (choose prefix (codes "xs") (codes "http://www.w3.org/2001/XMLSchema") _ xs_binds
    (choose prefix (codes "xsi") (codes "http://www.w3.org/2001/XMLSchema-instance") _ xsi_binds
    (choose prefix (codes "fn") (codes "http://www.w3.org/2005/xpath-functions") _ fn_binds
    (choose prefix (codes "local") (codes "http://www.w3.org/2005/xquery-local-functions") _
    local_binds (none_bound prefix)))))

namespace_bound : (bs : List Namespace) (prefix : List ℕ) → list_all is_free_binding bs ≡ true →
    IsBound prefix (namespace_of bs prefix)
unfolding is_free_binding
namespace_bound [] prefix h = predeclared_bound prefix
namespace_bound (b ∷ bs) prefix h =
    let a = and_parts (is_free_binding b) (list_all is_free_binding bs) h in
    let f = and_parts (is_free_prefix b.prefix) (is_free_uri b.uri) a.0 in
    by (bytes_eq b.prefix prefix) ((bytes_eq-Decides b.prefix prefix).0)
    (free_binds b.prefix b.uri f.0 f.1) (namespace_bound bs prefix a.1)
  where
    by : (c : Bool) → (c ≡ true → b.prefix ≡ prefix) → may_bind b.prefix b.uri ≡ true →
        IsBound prefix (namespace_of bs prefix) →
        IsBound prefix (if c then b.uri else namespace_of bs prefix)
    by true d f g = λ e. subst (λ p. may_bind p b.uri ≡ true) (d refl) f
    by false d f g = g

in_namespace_known : (prefix uri local : List ℕ) → IsBound prefix uri →
    OnValue IsName (in_namespace prefix uri local)
in_namespace_known prefix uri local h =
    by (is_ncname_text local && is_ncname_text prefix) refl (is_empty_text uri) refl
  where
    by : (b : Bool) → (is_ncname_text local && is_ncname_text prefix) ≡ b → (d : Bool) →
        is_empty_text uri ≡ d → OnValue IsName
        (if b then (if d then Err no_name
        else Ok (record { prefix = prefix; uri = uri; local = local })) else Err no_name)
    by true e true f = tt
    by true e false f =
        let a = and_parts (is_ncname_text local) (is_ncname_text prefix) e in
        prefixed_name prefix uri local a.1 f a.0 (h f)
    by false e d f = tt

without_known : (default text : List ℕ) → is_free_uri default ≡ true →
    OnValue IsName (without_prefix default text)
unfolding is_sound_name is_allowed_name is_prefix_of is_empty_text keeps_xml keeps_xmlns
without_known default text h = by (is_ncname_text text) refl
  where
    by : (b : Bool) → is_ncname_text text ≡ b → OnValue IsName
        (if b then Ok (record { prefix = []; uri = default; local = text }) else Err no_name)
    by true e = let u = free_uri default h in rw (e, u.0, u.1, u.2) refl
    by false e = tt

parts_known : (bs : List Namespace) (default text : List ℕ) (p l : Option (List ℕ)) →
    list_all is_free_binding bs ≡ true → is_free_uri default ≡ true →
    OnValue IsName (name_of_parts bs default text p l)
parts_known bs default text (Some prefix) (Some local) h g =
    in_namespace_known prefix (namespace_of bs prefix) local (namespace_bound bs prefix h)
parts_known bs default text (Some prefix) None h g = tt
parts_known bs default text None l h g = without_known default text g

text_known : (bs : List Namespace) (default text : List ℕ) →
    list_all is_free_binding bs ≡ true → is_free_uri default ≡ true →
    OnValue IsName (name_of_text bs default text)
unfolding name_of_text
text_known bs default text h g =
    parts_known bs default text (text_before (codes ":") text) (text_after (codes ":") text) h g

atom_known : (bs : List Namespace) (default : List ℕ) (a : AtomValue) →
    list_all is_free_binding bs ≡ true → is_free_uri default ≡ true → IsSoundAtom a →
    OnValue IsName (name_of_atom bs default a)
atom_known bs default (atom.QName n) h g s = s
atom_known bs default (atom.Str t) h g s = text_known bs default t h g
atom_known bs default (atom.Untyped t) h g s = text_known bs default t h g
atom_known bs default (atom.Int n) h g s = tt
atom_known bs default (atom.Bool t) h g s = tt

pub names_known : (bs : List Namespace) (default : List ℕ) (xs : List Item) →
    list_all is_free_binding bs ≡ true → is_free_uri default ≡ true → AllSound xs →
    OnValue IsName (name_of_items bs default xs)
names_known bs default [] h g s = tt
names_known bs default (x ∷ []) h g s =
    atom_known bs default (atom_of x) h g (value_atom x s.0)
names_known bs default (x ∷ y ∷ xs) h g s = tt

pub no_uri : is_free_uri [] ≡ true
unfolding is_free_uri is_xml_text
no_uri = refl
