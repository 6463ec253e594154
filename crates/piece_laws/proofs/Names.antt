-- Names in texts, and the parts of names with a colon.
use Rattle.std.proofs.Common.{◌≡◌, ℕ, ◌+◌, List, [], ◌∷◌, ◌++◌, length, drop, Bool, true, false}
use Rattle.std.proofs.Common.{◌==◌, ◌&&◌, Option, Some, None, refl, codes, suc}
use Rattle.std.proofs.lemmas.Bool.{and_parts, eqb-true, false_from_ne_true}
use Rattle.std.proofs.lemmas.Bool.{or_right}
use Rattle.std.specs.List.{list_all}
use Rattle.xt_names.specs.Allowed.{is_empty_text}
use Rattle.xt_names.specs.Classes.{is_ncname_text}
use Rattle.xpath_lex.proofs.KindLemmas.{all_name, name_made}
use Rattle.text_operations.specs.Searches.{text_before}
use Rattle.expr_keys.specs.declared.tokens.Token.TheVariants as token
use Rattle.expr_tokens.specs.Terms.{qname_term, any_local_term, any_prefix_term}
use Rattle.query_pieces.specs.Fronts.{run_of, rest_of, begins, NameAt, local_at, name_with, name_at}
use Rattle.sound_expressions.specs.SoundForms.Sound.{is_sound_prefix}
use Rattle.xt_names.proofs.ListLemmas.{dropped}
use Rattle.xt_names.specs.Characters.{is_name_char, starts_name}
use Rattle.xt_names.proofs.BoolLemmas.{no, either}
use Rattle.xt_names.proofs.CharacterLemmas.{colon_name, name_starts}

before_colon : (p more : List ℕ) → list_all is_name_char p ≡ true
    → text_before (codes ":") (p ++ 58 ∷ more) ≡ Some p
unfolding text_before
before_colon [] more a = refl
before_colon (c ∷ p) more a =
    let parts = and_parts (is_name_char c) (list_all is_name_char p) a in
    let other : (58 == c) ≡ false = false_from_ne_true (58 == c) (λ h. no (rw (← (eqb-true 58 c
    h)) at parts.0) colon_name) in
    rw (other, before_colon p more parts.1) refl

dropped_all : (p : List ℕ) (c : ℕ) (more : List ℕ) → drop (suc (length p)) (p ++ c ∷ more) ≡ more
dropped_all [] c more = refl
dropped_all (d ∷ p) c more = dropped_all p c more

pub qname_is : (p n : List ℕ) → is_ncname_text p ≡ true
    → qname_term (p ++ 58 ∷ n) ≡ Some (token.Qname p n)
qname_is p n h = rw (before_colon p n (all_name p h), dropped p 58 n) refl

pub any_local_is : (p : List ℕ) → is_ncname_text p ≡ true
    → any_local_term (p ++ 58 ∷ 42 ∷ []) ≡ Some (token.AnyLocal p)
any_local_is p h = rw (before_colon p (42 ∷ []) (all_name p h)) refl

pub any_prefix_is : (n : List ℕ) → any_prefix_term (42 ∷ 58 ∷ n) ≡ Some (token.AnyPrefix n)
unfolding text_before
any_prefix_is n = refl

-- the name of a tag or an attribute
pub run_all : (p : ℕ → Bool) (ts : List ℕ) → list_all p (run_of p ts) ≡ true
run_all p [] = refl
run_all p (c ∷ ts) = either (p c) (λ e. rw (e, e, run_all p ts) refl) (λ e. rw e refl)

run_named : (ts : List ℕ) → begins starts_name ts ≡ true
    → is_ncname_text (run_of is_name_char ts) ≡ true
run_named [] e = absurd cc
run_named (c ∷ ts) e =
    rw (name_starts c e) (name_made c (run_of is_name_char ts) e (run_all is_name_char ts))

pub record IsNamed (n : NameAt) : Type 0 where
  pub prefix : is_sound_prefix n.prefix ≡ true
  pub local : is_ncname_text n.local ≡ true

local_begins : (ts more : List ℕ) → local_at ts ≡ Some more → begins starts_name more ≡ true
local_begins [] more e = absurd cc
local_begins (c ∷ ts) more e =
    either (c == 58 && begins starts_name ts)
    (λ h. (let same : Some ts ≡ Some more = rw h at e in let one : ts ≡ more = cc in
    rw (← one) (and_parts (c == 58) (begins starts_name ts) h).1))
    (λ h. (let none : None ≡ Some more = rw h at e in absurd cc))

with_named : (first rest : List ℕ) (o : Option (List ℕ)) → is_ncname_text first ≡ true
    → ((more : List ℕ) → o ≡ Some more → begins starts_name more ≡ true)
    → IsNamed (name_with first rest o)
unfolding is_empty_text
with_named first rest None h f = record { prefix = refl; local = h }
with_named first rest (Some more) h f = record {
  prefix = or_right (is_empty_text first) (is_ncname_text first) h;
  local = run_named more (f more refl);
}

abbrev pub MaybeNamed : Option NameAt → Type 0
MaybeNamed None = Unit {0}
MaybeNamed (Some n) = IsNamed n

pub name_named : (ts : List ℕ) → MaybeNamed (name_at ts)
name_named ts =
    let rest : List ℕ = rest_of is_name_char ts in
    either (begins starts_name ts)
    (λ h. rw h (with_named (run_of is_name_char ts) rest (local_at rest) (run_named ts h)
    (λ more e. local_begins rest more e))) (λ h. rw h tt)

pub named_so : (ts : List ℕ) (n : NameAt) → name_at ts ≡ Some n → IsNamed n
named_so ts n e = let all : MaybeNamed (Some n) = rw e at (name_named ts) in all
