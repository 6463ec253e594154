-- What texts spell: names with a prefix, and names without.
use Rattle.std.proofs.Common.{arith}
use Rattle.std.proofs.Common.{◌≡◌, ◌+◌, ℕ, suc, List, [], ◌∷◌, ◌++◌, length, refl, ap, ◌∙◌, subst}
use Rattle.std.proofs.lemmas.Bool.{and_parts, eqb-true}
use Rattle.std.specs.Prelude.{Bool, true, false, ◌&&◌, not, codes, drop, nat_eq}
use Rattle.std.specs.Prelude.{option_map, Some, None}
use Rattle.std.specs.List.{list_all}
use Rattle.xt_names.specs.Allowed.{is_allowed_name, is_empty_text, is_prefix_of, keeps_xml, keeps_xmlns}
use Rattle.xt_names.specs.Classes.{is_ncname_text, is_in_ranges, ncname_char_ranges, begins_name}
use Rattle.xt_atoms.specs.AtomTexts.{lexical_qname}
use Rattle.text_operations.specs.Searches.{text_before, text_after}
use Rattle.text_functions.specs.NameFunctions.QNames.{spelled_name, name_of_parts}
use Rattle.xt_names.proofs.BoolLemmas.{is_false}

abbrev pub HasNoColon : List ℕ → Type 0
HasNoColon t = list_all (λ c. not (nat_eq 58 c)) t ≡ true

other_first : (c : ℕ) (cs : List ℕ) → nat_eq 58 c ≡ false →
    text_before (codes ":") (c ∷ cs) ≡ option_map (λ front. c ∷ front) (text_before (codes ":") cs)
unfolding text_before
other_first c cs h = rw (h) refl

pub none_before : (t : List ℕ) → HasNoColon t → text_before (codes ":") t ≡ None
unfolding text_before
none_before [] h = refl
none_before (c ∷ cs) h =
    let p = and_parts (not (nat_eq 58 c)) (list_all (λ c. not (nat_eq 58 c)) cs) h in
    other_first c cs (is_false (nat_eq 58 c) p.0)
    ∙ ap (option_map (λ front. c ∷ front)) (none_before cs p.1)

pub all_before : (prefix local : List ℕ) → HasNoColon prefix →
    text_before (codes ":") (prefix ++ 58 ∷ local) ≡ Some prefix
unfolding text_before
all_before [] local h = refl
all_before (c ∷ cs) local h =
    let p = and_parts (not (nat_eq 58 c)) (list_all (λ c. not (nat_eq 58 c)) cs) h in
    other_first c (cs ++ 58 ∷ local) (is_false (nat_eq 58 c) p.0)
    ∙ ap (option_map (λ front. c ∷ front)) (all_before cs local p.1)

plus_one : (n : ℕ) → n + 1 ≡ suc n
plus_one n = omega arith

dropped : (prefix local : List ℕ) → drop (suc (length prefix)) (prefix ++ 58 ∷ local) ≡ local
dropped [] local = refl
dropped (c ∷ cs) local = dropped cs local

pub all_after : (prefix local : List ℕ) → HasNoColon prefix →
    text_after (codes ":") (prefix ++ 58 ∷ local) ≡ Some local
all_after prefix local h =
    ap (option_map (λ front. drop (length front + 1) (prefix ++ 58 ∷ local))) (all_before prefix local h)
    ∙ ap (λ n. Some (drop n (prefix ++ 58 ∷ local))) (plus_one (length prefix))
    ∙ ap Some (dropped prefix local)

colon_is_none : is_in_ranges ncname_char_ranges 58 ≡ false
unfolding is_in_ranges
colon_is_none = refl

no_colon_at : (c : ℕ) → is_in_ranges ncname_char_ranges c ≡ true → not (nat_eq 58 c) ≡ true
no_colon_at c h = by (nat_eq 58 c) (λ e. eqb-true 58 c e)
  where
    by : (b : Bool) → (b ≡ true → 58 ≡ c) → not b ≡ true
    by true e =
        let same : 58 ≡ c = e refl in
        let no : is_in_ranges ncname_char_ranges c ≡ false =
        subst (λ z. is_in_ranges ncname_char_ranges z ≡ false) same colon_is_none in
        cc
    by false e = refl

all_chars : (t : List ℕ) → list_all (is_in_ranges ncname_char_ranges) t ≡ true → HasNoColon t
all_chars [] h = refl
all_chars (c ∷ cs) h =
    let p = and_parts (is_in_ranges ncname_char_ranges c) (list_all (is_in_ranges ncname_char_ranges) cs) h in
    rw (no_colon_at c p.0) (all_chars cs p.1)

pub ncname_has_none : (t : List ℕ) → is_ncname_text t ≡ true → HasNoColon t
unfolding is_ncname_text
ncname_has_none t h =
    all_chars t (and_parts (begins_name t) (list_all (is_in_ranges ncname_char_ranges) t) h).1

record NameFacts (prefix uri local : List ℕ) : Type 0 where
  local_is : is_ncname_text local ≡ true
  prefix_is : is_prefix_of prefix uri ≡ true

facts : (prefix uri local : List ℕ) → is_allowed_name prefix uri local ≡ true → NameFacts prefix uri local
unfolding is_allowed_name
facts prefix uri local h =
    let a = and_parts (is_ncname_text local && is_prefix_of prefix uri && keeps_xml prefix uri)
    (keeps_xmlns prefix uri) h in
    let b = and_parts (is_ncname_text local && is_prefix_of prefix uri) (keeps_xml prefix uri) a.0 in
    let c = and_parts (is_ncname_text local) (is_prefix_of prefix uri) b.0 in
    record { local_is = c.0; prefix_is = c.1 }

prefix_ncname : (c : ℕ) (cs uri : List ℕ) → is_prefix_of (c ∷ cs) uri ≡ true →
    is_ncname_text (c ∷ cs) ≡ true
unfolding is_prefix_of is_empty_text
prefix_ncname c cs uri h = (and_parts (is_ncname_text (c ∷ cs)) (not (is_empty_text uri)) h).0

colon_between : (xs local : List ℕ) → (xs ++ 58 ∷ []) ++ local ≡ xs ++ 58 ∷ local
colon_between [] local = refl
colon_between (x ∷ xs) local = ap (λ ys. x ∷ ys) (colon_between xs local)

written : (c : ℕ) (cs local : List ℕ) →
    lexical_qname (c ∷ cs) local ≡ (c ∷ cs) ++ 58 ∷ local
unfolding lexical_qname is_empty_text
written c cs local = colon_between (c ∷ cs) local

parts_of : (uri prefix local : List ℕ) →
    text_before (codes ":") (prefix ++ 58 ∷ local) ≡ Some prefix →
    text_after (codes ":") (prefix ++ 58 ∷ local) ≡ Some local → is_ncname_text prefix ≡ true →
    is_allowed_name prefix uri local ≡ true → spelled_name uri (prefix ++ 58 ∷ local)
    ≡ Some (record { prefix = prefix; uri = uri; local = local })
unfolding spelled_name
parts_of uri prefix local a b n h =
    ap (λ o. name_of_parts uri (prefix ++ 58 ∷ local) o (text_after (codes ":") (prefix ++ 58 ∷ local))) a
    ∙ ap (name_of_parts uri (prefix ++ 58 ∷ local) (Some prefix)) b
    ∙ rw (n, h) refl

-- the name is spelled by its text
pub spelled_again : (prefix uri local : List ℕ) → is_allowed_name prefix uri local ≡ true →
    spelled_name uri (lexical_qname prefix local)
    ≡ Some (record { prefix = prefix; uri = uri; local = local })
unfolding spelled_name lexical_qname is_empty_text
spelled_again [] uri local h =
    let f = facts [] uri local h in
    rw (none_before local (ncname_has_none local f.local_is), h) refl
spelled_again (c ∷ cs) uri local h =
    let f = facts (c ∷ cs) uri local h in let n = prefix_ncname c cs uri f.prefix_is in
    let none = ncname_has_none (c ∷ cs) n in
    ap (spelled_name uri) (written c cs local)
    ∙ parts_of uri (c ∷ cs) local (all_before (c ∷ cs) local none) (all_after (c ∷ cs) local none) n h
