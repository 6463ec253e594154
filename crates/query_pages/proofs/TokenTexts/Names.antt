-- Names are read back as their parts.
use Rattle.std.proofs.Common.{◌≡◌, ℕ, ◌+◌, List, [], ◌∷◌, ◌++◌, length, drop, true, false}
use Rattle.std.proofs.Common.{◌==◌, Some, None, refl, sym, codes, subst}
use Rattle.std.proofs.Common.{append_assoc, suc}
use Rattle.std.proofs.lemmas.Bool.{and_parts, eqb-true, false_from_ne_true}
use Rattle.std.specs.List.{list_all}
use Rattle.xt_names.specs.Classes.{is_ncname_text}
use Rattle.xpath_lex.proofs.KindLemmas.{name_parts, all_name}
use Rattle.text_operations.specs.Searches.{text_before}
use Rattle.expr_keys.specs.declared.tokens.Token.TheVariants as token
use Rattle.expr_tokens.specs.Terms.{qname_term, any_local_term, any_prefix_term}
use Rattle.query_pieces.specs.Fronts.{run_of, rest_of, begins, name_at, local_at}
use Rattle.query_pieces.proofs.FrontLemmas.{run_is}
use Rattle.query_pages.specs.TokenTexts.Spellings.{name_text}
use Rattle.query_pages.specs.TokenTexts.Written.{is_named}
use Rattle.xt_names.proofs.ListLemmas.{dropped}
use Rattle.xt_names.specs.Characters.{is_name_char, starts_name, Ends}
use Rattle.xt_names.proofs.BoolLemmas.{no}
use Rattle.xt_names.proofs.CharacterLemmas.{colon_name}

before_colon : (p more : List ℕ) → list_all is_name_char p ≡ true
    → text_before (codes ":") (p ++ 58 ∷ more) ≡ Some p
unfolding text_before
before_colon [] more a = refl
before_colon (c ∷ p) more a =
    let parts = and_parts (is_name_char c) (list_all is_name_char p) a in
    let other : (58 == c) ≡ false = false_from_ne_true (58 == c) (λ h. no (rw (← (eqb-true 58 c
    h)) at parts.0) colon_name) in
    rw (other, before_colon p more parts.1) refl

dropped_all : (p : List ℕ) (c : ℕ) (more : List ℕ) → drop (suc (length p)) (p ++ c ∷ more) ≡ more
dropped_all [] c more = refl
dropped_all (d ∷ p) c more = dropped_all p c more

pub qname_back : (p n : List ℕ) → is_ncname_text p ≡ true
    → qname_term (p ++ 58 ∷ n) ≡ Some (token.Qname p n)
qname_back p n h = rw (before_colon p n (all_name p h), dropped p 58 n) refl

pub any_local_back : (p : List ℕ) → is_ncname_text p ≡ true
    → any_local_term (p ++ 58 ∷ 42 ∷ []) ≡ Some (token.AnyLocal p)
any_local_back p h = rw (before_colon p (42 ∷ []) (all_name p h)) refl

pub any_prefix_back : (n : List ℕ) → any_prefix_term (42 ∷ 58 ∷ n) ≡ Some (token.AnyPrefix n)
unfolding text_before
any_prefix_back n = refl

-- neither a character of a name nor a colon comes next
pub record NameEnds (rest : List ℕ) : Type 0 where
  pub ends : Ends is_name_char rest
  pub no_local : local_at rest ≡ None

-- .. the name of an element or an attribute
begun : (x rest : List ℕ) → is_ncname_text x ≡ true → begins starts_name (x ++ rest) ≡ true
begun x rest h = let n = name_parts x h in rw n.is n.starts

run_back : (x rest : List ℕ) → is_ncname_text x ≡ true → Ends is_name_char rest
    → (x ≡ run_of is_name_char (x ++ rest)) × (rest ≡ rest_of is_name_char (x ++ rest))
run_back x rest h e = run_is is_name_char x rest (x ++ rest) refl (all_name x h) e

pub name_back : (p n rest : List ℕ) → is_named p n ≡ true → NameEnds rest
    → name_at (name_text p n ++ rest) ≡ Some (record { prefix = p; local = n; rest = rest })
name_back [] n rest h e =
    let r = run_back n rest h e.ends in
    rw (begun n rest h, ← r.0, ← r.1, e.no_local) refl
name_back (c ∷ cs) n rest h e =
    let parts = and_parts (is_ncname_text (c ∷ cs)) (is_ncname_text n) h in
    let p : List ℕ = c ∷ cs in
    let r = run_back p (58 ∷ (n ++ rest)) parts.0 colon_name in
    let s = run_back n rest parts.1 e.ends in
    let b = begun p (58 ∷ (n ++ rest)) parts.0 in
    let d = begun n rest parts.1 in
    let at : name_at (p ++ 58 ∷ (n ++ rest))
    ≡ Some (record { prefix = p; local = n; rest = rest }) =
    rw (b, ← r.0, ← r.1, d, ← s.0, ← s.1) refl in
    subst (λ ts. name_at ts ≡ Some (record { prefix = p; local = n; rest = rest }))
    (sym (append_assoc p (58 ∷ n) rest)) at
