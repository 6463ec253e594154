-- Each attribute is written with a prefix that is bound to its uri.
use Rattle.std.proofs.Common.{◌≡◌, ℕ, ◌+◌, ◌^◌, ◌<◌, ◌≤◌, List, [], ◌∷◌, ◌++◌, length, length-append, Bool, true, false, not, cond, ◌&&◌, Option, Some, None, refl, sym, ap, subst, ◌∙◌, arith, codes, append_assoc, append-nil, ⊎_elim}
use Rattle.std.specs.Option.{is_some}
use Rattle.std.specs.Str.{bytes_eq}
use Rattle.std.proofs.lemmas.Bool.{and_parts, or_cases, or_right, false_from_ne_true, not-true}
use Rattle.xt_names.specs.Allowed.{is_empty_text, keeps_xml, keeps_xmlns, same_truth, xml_uri, xmlns_uri}
use Rattle.xt_names.specs.Classes.{is_xml_text, is_ncname_text}
use Rattle.xt_names.specs.declared.names.Binding.{Binding}
use Rattle.xt_names.specs.declared.names.Name.{Name}
use Rattle.xt_tree.specs.declared.attributes.Attribute.{Attribute}
use Rattle.xt_tree.specs.Sound.{is_named_xmlns}
use Rattle.doc_grammar.specs.Scopes.{is_binding}
use Rattle.doc_writer.specs.Heads.{Head, with_prefix, with_declared, empty_head, with_element, keeps_prefix, may_declare, with_attribute, with_attributes, head_of}
use Rattle.name_scopes.specs.Scopes.{bound_uri, uri_of_binding, or_earlier, binds_to, binds, numbered_prefix, free_number, free_prefix}
use Rattle.doc_writer.specs.Written.{later_prefixes}
use Rattle.doc_laws.proofs.Names.{is_prefix}
use Rattle.doc_laws.proofs.Numbers.{prefix_is_free, number_is_name, number_is_not_xml, number_is_not_xmlns, number_low}
use Rattle.doc_laws.proofs.Heads.{is_used, is_declared, same_text, bound_from, bound_binds, pushed_same, pushed_other, IsAllowed, prefix_of_name, name_binding, not_xmlns, Settled, settled_start, settled_used, IsNew, settled_new, used_front, used_last, not_new}
use Rattle.xt_names.proofs.BoolLemmas.{no}
use Rattle.xt_names.specs.ExprNames.{binding}

-- the prefix suits an attribute of this name
pub record Suits (scope : List Binding) (p : List ℕ) (name : Name) : Type 0 where
  pub prefix : is_prefix p ≡ true
  pub not_xmlns : bytes_eq p (codes "xmlns") ≡ false
  pub local : is_empty_text p ≡ true → bytes_eq name.local (codes "xmlns") ≡ false
  pub none : is_empty_text p ≡ true → name.uri ≡ []
  pub bound : is_empty_text p ≡ false → bound_uri scope p ≡ Some name.uri

abbrev pub AreSuited : List Binding → List (List ℕ) → List Attribute → Type 0
AreSuited scope ps [] = Unit {0}
AreSuited scope [] (a ∷ rest) = ⊥
AreSuited scope (p ∷ ps) (a ∷ rest) = Suits scope p a.name × AreSuited scope ps rest

-- what is bound of the used prefixes of the one is bound in the other
abbrev pub Keeps : Head → Head → Type 0
Keeps h new = (q uri : List ℕ) → is_used h.used q ≡ true → bound_uri h.scope q ≡ Some uri → bound_uri new.scope q ≡ Some uri

-- one attribute more, with this prefix
record Turned (outer : List Binding) (h new : Head) (name : Name) (p : List ℕ) : Type 0 where
  used : new.used ≡ h.used ++ p ∷ []
  settled : Settled outer new
  keeps : Keeps h new
  suits : Suits new.scope p name
  small : length new.scope ≤ length h.scope + 1

-- what is known of the attribute's name
pub record IsSound (name : Name) : Type 0 where
  pub allowed : IsAllowed name
  pub not_named : is_named_xmlns name ≡ false
  pub text : is_xml_text name.uri ≡ true

empty_is : (t : List ℕ) → is_empty_text t ≡ true → t ≡ []
unfolding is_empty_text
empty_is [] e = refl
empty_is (c ∷ cs) e = absurd (cc)

no_prefix : is_prefix [] ≡ true
unfolding is_empty_text
no_prefix = refl

empty_none : is_empty_text [] ≡ true
unfolding is_empty_text
empty_none = refl

turned_plain : (outer : List Binding) (h : Head) (name : Name) → Settled outer h → IsSound name → is_empty_text name.uri ≡ true → Turned outer h (with_prefix h []) name []
unfolding is_named_xmlns
turned_plain outer h name s n e = record {
  used = refl;
  settled = settled_used outer h [] s (λ d. no empty_none d);
  keeps = λ q uri u b. b;
  suits = record { prefix = no_prefix; not_xmlns = refl; local = λ d. rw e at n.not_named; none = λ d. empty_is name.uri e; bound = λ d. no empty_none d };
  small = omega arith;
}

-- with a prefix that is not empty
suits_bound : (scope : List Binding) (p : List ℕ) (name : Name) → is_empty_text p ≡ false → is_prefix p ≡ true → bytes_eq p (codes "xmlns") ≡ false → bound_uri scope p ≡ Some name.uri → Suits scope p name
suits_bound scope p name e i x b = record { prefix = i; not_xmlns = x; local = λ d. no d e; none = λ d. no d e; bound = λ d. b }

turned_kept : (outer : List Binding) (h : Head) (name : Name) → Settled outer h → IsSound name → keeps_prefix h name ≡ true → Turned outer h (with_prefix h name.prefix) name name.prefix
unfolding keeps_prefix
turned_kept outer h name s n k =
    let parts = and_parts (not (is_empty_text name.prefix)) (binds_to h.scope name.prefix name.uri) k in
    let bound = bound_from h.scope name.prefix name.uri parts.1 in
    record {
      used = refl;
      settled = settled_used outer h name.prefix s (λ d. bound_binds h.scope name.prefix name.uri bound);
      keeps = λ q uri u b. b;
      suits = suits_bound h.scope name.prefix name (not-true (is_empty_text name.prefix) parts.0) (prefix_of_name name.prefix name.uri n.allowed.prefix) (not_xmlns name n.allowed) bound;
      small = omega arith;
    }

turned_new : (outer : List Binding) (h : Head) (name : Name) (p : List ℕ) → Settled outer h → IsNew h p name.uri → is_empty_text p ≡ false → bytes_eq p (codes "xmlns") ≡ false → Turned outer h (with_declared h p name.uri) name p
turned_new outer h name p s n e x = record {
  used = refl;
  settled = settled_new outer h p name.uri s n;
  keeps = λ q uri u b. pushed_other h.scope p name.uri q (not_new h.used p q n.unused u) ∙ b;
  suits = suits_bound (h.scope ++ binding p name.uri ∷ []) p name e n.prefix x (pushed_same h.scope p name.uri);
  small = let size = length-append h.scope (binding p name.uri ∷ []) in omega arith;
}

turned_own : (outer : List Binding) (h : Head) (name : Name) → Settled outer h → IsSound name → may_declare h name.prefix ≡ true → Turned outer h (with_declared h name.prefix name.uri) name name.prefix
unfolding may_declare
turned_own outer h name s n m =
    let a = and_parts (not (is_empty_text name.prefix) && not (is_used h.used name.prefix)) (not (is_declared h.declared name.prefix)) m in
    let b = and_parts (not (is_empty_text name.prefix)) (not (is_used h.used name.prefix)) a.0 in
    let new : IsNew h name.prefix name.uri = record {
      prefix = prefix_of_name name.prefix name.uri n.allowed.prefix;
      uri_text = n.text;
      is_one = name_binding name n.allowed;
      unused = not-true (is_used h.used name.prefix) b.1;
      undeclared = not-true (is_declared h.declared name.prefix) a.1;
    } in
    turned_new outer h name name.prefix s new (not-true (is_empty_text name.prefix) b.0) (not_xmlns name n.allowed)

-- a numbered prefix

number_full : (n : ℕ) → is_empty_text (numbered_prefix n) ≡ false
unfolding numbered_prefix is_empty_text
number_full n = refl

number_binding : (n : ℕ) (uri : List ℕ) → is_empty_text uri ≡ false → bytes_eq uri xml_uri ≡ false → bytes_eq uri xmlns_uri ≡ false → is_binding (binding (numbered_prefix n) uri) ≡ true
unfolding is_binding keeps_xml keeps_xmlns
number_binding n uri e x y = rw (number_full n, e, number_is_not_xml n, number_is_not_xmlns n, x, y) refl

-- what is declared is bound

binds_behind : (b : Binding) (scope : List Binding) (p : List ℕ) → binds scope p ≡ true → binds (b ∷ scope) p ≡ true
unfolding binds
binds_behind b scope p e = go (bound_uri scope p) e
  where
    go : (o : Option (List ℕ)) → is_some o ≡ true → is_some (or_earlier o (uri_of_binding b p)) ≡ true
    go None d = absurd (cc)
    go (Some u) d = refl

binds_first : (b : Binding) (scope : List Binding) (p : List ℕ) → bytes_eq b.prefix p ≡ true → binds (b ∷ scope) p ≡ true
unfolding binds
binds_first b scope p e = rw e (go (bound_uri scope p))
  where
    go : (o : Option (List ℕ)) → is_some (or_earlier o (Some b.uri)) ≡ true
    go None = refl
    go (Some u) = refl

declared_bound : (front ds : List Binding) (p : List ℕ) → is_declared ds p ≡ true → binds (front ++ ds) p ≡ true
declared_bound [] [] p d = absurd (cc)
declared_bound [] (b ∷ ds) p d = ⊎_elim (λ e. binds_first b ds p e) (λ e. binds_behind b ds p (declared_bound [] ds p e)) (or_cases (bytes_eq b.prefix p) (is_declared ds p) d)
declared_bound (b ∷ front) ds p d = binds_behind b (front ++ ds) p (declared_bound front ds p d)

-- the prefix xml keeps its uri, so no other prefix is declared for that

kept_xml : (h : Head) (name : Name) → bound_uri h.scope (codes "xml") ≡ Some xml_uri → name.uri ≡ xml_uri → name.prefix ≡ codes "xml" → keeps_prefix h name ≡ true
unfolding keeps_prefix binds_to is_empty_text
kept_xml h name x u p = rw (p, u, x) refl

xml_prefix : (p uri : List ℕ) → keeps_xml p uri ≡ true → bytes_eq uri xml_uri ≡ true → p ≡ codes "xml"
unfolding keeps_xml
xml_prefix p uri k d =
    let x : same_truth (bytes_eq p (codes "xml")) (bytes_eq uri xml_uri) ≡ true = k in
    same_text p (codes "xml") (only (bytes_eq p (codes "xml")) (rw d at x))
  where
    only : (b : Bool) → same_truth b true ≡ true → b ≡ true
    only true x = refl
    only false x = x

not_xml_uri : (outer : List Binding) (h : Head) (name : Name) → Settled outer h → IsSound name → keeps_prefix h name ≡ false → bytes_eq name.uri xml_uri ≡ false
not_xml_uri outer h name s n k =
    false_from_ne_true (bytes_eq name.uri xml_uri) (λ d. no (kept_xml h name s.xml (same_text name.uri xml_uri d) (xml_prefix name.prefix name.uri n.allowed.xml d)) k)

not_xmlns_uri : (name : Name) → IsAllowed name → bytes_eq name.uri xmlns_uri ≡ false
unfolding keeps_xmlns
not_xmlns_uri name a = not-true (bytes_eq name.uri xmlns_uri) (and_parts (not (bytes_eq name.prefix (codes "xmlns"))) (not (bytes_eq name.uri xmlns_uri)) a.xmlns).1

full_prefix : (p : List ℕ) → is_ncname_text p ≡ true → is_prefix p ≡ true
full_prefix p e = or_right (is_empty_text p) (is_ncname_text p) e

numbered_new : (outer : List Binding) (h : Head) (name : Name) (n : ℕ) → Settled outer h → IsSound name → is_empty_text name.uri ≡ false → keeps_prefix h name ≡ false → n < 2 ^ 64 → binds h.scope (numbered_prefix n) ≡ false
    → Turned outer h (with_declared h (numbered_prefix n) name.uri) name (numbered_prefix n)
numbered_new outer h name n s sound e k small free =
    let p = numbered_prefix n in
    let unused = false_from_ne_true (is_used h.used p) (λ d. no (s.used p (number_full n) d) free) in
    let P : List Binding → Type 0 = λ x. binds x p ≡ true in
    let undeclared = false_from_ne_true (is_declared h.declared p) (λ d. no (subst P (sym s.scope) (declared_bound outer h.declared p d)) free) in
    let new : IsNew h p name.uri = record {
      prefix = full_prefix p (number_is_name n small);
      uri_text = sound.text;
      is_one = number_binding n name.uri e (not_xml_uri outer h name s sound k) (not_xmlns_uri name sound.allowed);
      unused = unused;
      undeclared = undeclared;
    } in
    turned_new outer h name p s new (number_full n) (number_is_not_xmlns n)

turned_free : (outer : List Binding) (h : Head) (name : Name) → Settled outer h → IsSound name → is_empty_text name.uri ≡ false → keeps_prefix h name ≡ false → length h.scope < 2 ^ 64
    → Turned outer h (with_declared h (free_prefix h.scope) name.uri) name (free_prefix h.scope)
unfolding free_prefix
turned_free outer h name s sound e k small =
    let low = number_low h.scope (length h.scope) 0 in
    numbered_new outer h name (free_number h.scope (length h.scope) 0) s sound e k (omega arith) (prefix_is_free h.scope small)

-- one attribute more
turned : (outer : List Binding) (h : Head) (name : Name) → Settled outer h → IsSound name → length h.scope < 2 ^ 64 → (p : List ℕ) × Turned outer h (with_attribute h name) name p
unfolding with_attribute
turned outer h name s sound small = first (is_empty_text name.uri) refl
  where
    third : (b : Bool) → may_declare h name.prefix ≡ b → is_empty_text name.uri ≡ false → keeps_prefix h name ≡ false
        → (p : List ℕ) × Turned outer h (cond b (with_declared h name.prefix name.uri) (with_declared h (free_prefix h.scope) name.uri)) name p
    third true d e k = (name.prefix, turned_own outer h name s sound d)
    third false d e k = (free_prefix h.scope, turned_free outer h name s sound e k small)

    second : (b : Bool) → keeps_prefix h name ≡ b → is_empty_text name.uri ≡ false
        → (p : List ℕ) × Turned outer h (cond b (with_prefix h name.prefix) (cond (may_declare h name.prefix) (with_declared h name.prefix name.uri) (with_declared h (free_prefix h.scope) name.uri))) name p
    second true k e = (name.prefix, turned_kept outer h name s sound k)
    second false k e = third (may_declare h name.prefix) refl e k

    first : (b : Bool) → is_empty_text name.uri ≡ b
        → (p : List ℕ) × Turned outer h (cond b (with_prefix h []) (cond (keeps_prefix h name) (with_prefix h name.prefix) (cond (may_declare h name.prefix) (with_declared h name.prefix name.uri) (with_declared h (free_prefix h.scope) name.uri)))) name p
    first true e = ([], turned_plain outer h name s sound e)
    first false e = second (keeps_prefix h name) refl e

-- all attributes
record Headed (outer : List Binding) (h new : Head) (attributes : List Attribute) (ps : List (List ℕ)) : Type 0 where
  used : new.used ≡ h.used ++ ps
  settled : Settled outer new
  keeps : Keeps h new
  suited : AreSuited new.scope ps attributes
  small : length new.scope ≤ length h.scope + length attributes

abbrev pub AreSoundNames : List Attribute → Type 0
AreSoundNames [] = Unit {0}
AreSoundNames (a ∷ rest) = IsSound a.name × AreSoundNames rest

headed_more : (outer : List Binding) (h one new : Head) (a : Attribute) (rest : List Attribute) (p : List ℕ) (ps : List (List ℕ)) → Turned outer h one a.name p → Headed outer one new rest ps → Headed outer h new (a ∷ rest) (p ∷ ps)
headed_more outer h one new a rest p ps t k =
    let more = λ (q : List ℕ) (u : is_used h.used q ≡ true). (let x : is_used one.used q ≡ true = rw t.used (used_front h.used (p ∷ []) q u) in x) in
    let last : is_used one.used p ≡ true = rw t.used (used_last h.used p) in
    let low = t.small in
    let high = k.small in
    record {
      used = k.used ∙ (ap (λ x. x ++ ps) t.used ∙ append_assoc h.used (p ∷ []) ps);
      settled = k.settled;
      keeps = λ q uri u b. k.keeps q uri (more q u) (t.keeps q uri u b);
      suited = (record { prefix = t.suits.prefix; not_xmlns = t.suits.not_xmlns; local = t.suits.local; none = t.suits.none; bound = λ d. k.keeps p a.name.uri last (t.suits.bound d) }, k.suited);
      small = omega arith;
    }

headed : (outer : List Binding) (h : Head) (attributes : List Attribute) → Settled outer h → AreSoundNames attributes → length h.scope + length attributes < 2 ^ 64 → (ps : List (List ℕ)) × Headed outer h (with_attributes h attributes) attributes ps
headed outer h [] s sound small = ([], record { used = sym (append-nil h.used); settled = s; keeps = λ q uri u b. b; suited = tt; small = omega arith })
headed outer h (a ∷ rest) s sound small =
    let t = turned outer h a.name s sound.0 (omega arith) in
    let low = t.1.small in
    let k = headed outer (with_attribute h a.name) rest t.1.settled sound.1 (omega arith) in
    (t.0 ∷ k.0, headed_more outer h (with_attribute h a.name) (with_attributes (with_attribute h a.name) rest) a rest t.0 k.0 t.1 k.1)

-- the element
record IsBegun (outer : List Binding) (name : Name) (h : Head) : Type 0 where
  used : h.used ≡ name.prefix ∷ []
  settled : Settled outer h
  bound : bound_uri h.scope name.prefix ≡ Some name.uri
  small : length h.scope ≤ length outer + 1

begun : (outer : List Binding) (name : Name) → bound_uri outer (codes "xml") ≡ Some xml_uri → IsAllowed name → is_xml_text name.uri ≡ true → IsBegun outer name (with_element (empty_head outer) name)
unfolding with_element
begun outer name x a t = go (binds_to outer name.prefix name.uri) refl
  where
    start : Settled outer (empty_head outer)
    start = settled_start outer x

    new : IsNew (empty_head outer) name.prefix name.uri
    new = record { prefix = prefix_of_name name.prefix name.uri a.prefix; uri_text = t; is_one = name_binding name a; unused = refl; undeclared = refl }

    go : (b : Bool) → binds_to outer name.prefix name.uri ≡ b → IsBegun outer name (cond b (with_prefix (empty_head outer) name.prefix) (with_declared (empty_head outer) name.prefix name.uri))
    go true e =
        let bound = bound_from outer name.prefix name.uri e in
        record { used = refl; settled = settled_used outer (empty_head outer) name.prefix start (λ d. bound_binds outer name.prefix name.uri bound); bound = bound; small = omega arith }
    go false e =
        let size = length-append outer (binding name.prefix name.uri ∷ []) in
        record { used = refl; settled = settled_new outer (empty_head outer) name.prefix name.uri start new; bound = pushed_same outer name.prefix name.uri; small = omega arith }

-- the whole start tag
pub record IsHead (outer : List Binding) (name : Name) (attributes : List Attribute) (h : Head) : Type 0 where
  pub settled : Settled outer h
  pub bound : bound_uri h.scope name.prefix ≡ Some name.uri
  pub suited : AreSuited h.scope (later_prefixes h.used) attributes
  pub small : length h.scope ≤ length outer + 1 + length attributes

pub head_is : (outer : List Binding) (name : Name) (attributes : List Attribute) → bound_uri outer (codes "xml") ≡ Some xml_uri → IsAllowed name → is_xml_text name.uri ≡ true → AreSoundNames attributes
    → length outer + 1 + length attributes < 2 ^ 64 → IsHead outer name attributes (head_of outer name attributes)
unfolding head_of
head_is outer name attributes x a t sound small =
    let b = begun outer name x a t in
    let low = b.small in
    let k = headed outer (with_element (empty_head outer) name) attributes b.settled sound (omega arith) in
    let high = k.1.small in
    let used : is_used (with_element (empty_head outer) name).used name.prefix ≡ true = rw b.used (used_last [] name.prefix) in
    let later : later_prefixes (with_attributes (with_element (empty_head outer) name) attributes).used ≡ k.0 = ap later_prefixes (k.1.used ∙ ap (λ u. u ++ k.0) b.used) in
    record {
      settled = k.1.settled;
      bound = k.1.keeps name.prefix name.uri used b.bound;
      suited = rw later k.1.suited;
      small = omega arith;
    }
