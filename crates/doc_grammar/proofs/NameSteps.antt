-- Each step in a name keeps what can still complete it.
use Rattle.std.proofs.Common.{◌≡◌, ℕ, List, [], ◌∷◌, ◌++◌, refl, sym, ap, subst, Bool, true, false, cond, Option, Some, None, ◌==◌, eq-eqb}
use Rattle.std.proofs.lemmas.Bool.{eqb-true}
use Rattle.doc_grammar.specs.Characters.{is_colon}
use Rattle.doc_grammar.specs.RawNames.{RawName, plain_name}
use Rattle.doc_grammar.specs.Lexemes.{Named, NCName}
use Rattle.doc_grammar.specs.Lexemes as lexemes
use Rattle.doc_grammar.specs.Document.{QName}
use Rattle.doc_grammar.specs.Document as doc
use Rattle.doc_grammar.specs.Machine.{NameState, reading, coloned, NameStep, on, behind_name, fails, name_step}
use Rattle.doc_grammar.proofs.Goes.{head_same, tail_same}
use Rattle.doc_grammar.proofs.Rests.{NameRest}
use Rattle.doc_grammar.proofs.Rests as rests
use Rattle.xt_names.specs.Characters.{starts_name, is_name_char, Ends}
use Rattle.xt_names.proofs.BoolLemmas.{no}
use Rattle.xt_names.proofs.CharacterLemmas.{colon_name}

pub goes_on_named : {read ts name rest : List ℕ} {c : ℕ} → is_name_char c ≡ true → Named read (c ∷ ts) name rest → Named (read ++ c ∷ []) ts name rest
goes_on_named p (lexemes.more q n) = n
goes_on_named p (lexemes.whole e) = no p e

-- a name that ends here
pub record IsEnd (read ts name rest : List ℕ) : Type 0 where
  pub same_name : name ≡ read
  pub same_rest : rest ≡ ts

pub ends_named : {read ts name rest : List ℕ} {c : ℕ} → is_name_char c ≡ false → Named read (c ∷ ts) name rest → IsEnd read (c ∷ ts) name rest
ends_named p (lexemes.more q n) = no q p
ends_named p (lexemes.whole e) = record { same_name = refl; same_rest = refl }

-- what a character does to the names that may still come
abbrev pub NameGoes : NameState → ℕ → List ℕ → NameStep → Type 0
NameGoes n c ts (on n') =
    (name : RawName) (rest : List ℕ) → (NameRest n (c ∷ ts) name rest → NameRest n' ts name rest) × (NameRest n' ts name rest → NameRest n (c ∷ ts) name rest)
NameGoes n c ts (behind_name name) =
    ((other : RawName) (rest : List ℕ) → NameRest n (c ∷ ts) other rest → (other ≡ name) × (rest ≡ c ∷ ts)) × NameRest n (c ∷ ts) name (c ∷ ts)
NameGoes n c ts fails = (name : RawName) (rest : List ℕ) → NameRest n (c ∷ ts) name rest → ⊥

name_on : {prefix : Option (List ℕ)} {read ts rest : List ℕ} {c : ℕ} {name : RawName} → is_name_char c ≡ true → NameRest (reading prefix read) (c ∷ ts) name rest → NameRest (reading prefix (read ++ c ∷ [])) ts name rest
name_on p (rests.plain d e) = rests.plain (goes_on_named p d) e
name_on p (rests.prefixed d l) = rests.prefixed (goes_on_named p d) l
name_on p (rests.local d) = rests.local (goes_on_named p d)

name_back : {prefix : Option (List ℕ)} {read ts rest : List ℕ} {c : ℕ} {name : RawName} → is_name_char c ≡ true → NameRest (reading prefix (read ++ c ∷ [])) ts name rest → NameRest (reading prefix read) (c ∷ ts) name rest
name_back p (rests.plain d e) = rests.plain (lexemes.more p d) e
name_back p (rests.prefixed d l) = rests.prefixed (lexemes.more p d) l
name_back p (rests.local d) = rests.local (lexemes.more p d)

local_end : {prefix read ts rest : List ℕ} {c : ℕ} {name : RawName} → is_name_char c ≡ false → NameRest (reading (Some prefix) read) (c ∷ ts) name rest → (name ≡ record { prefix = Some prefix; local = read }) × (rest ≡ c ∷ ts)
local_end {prefix = prefix} p (rests.local d) = let e = ends_named p d in (ap (λ (l : List ℕ). record { prefix = Some prefix; local = l }) e.same_name, e.same_rest)

plain_end : {read ts rest : List ℕ} {c : ℕ} {name : RawName} → is_name_char c ≡ false → (c == 58) ≡ false → NameRest (reading None read) (c ∷ ts) name rest → (name ≡ plain_name read) × (rest ≡ c ∷ ts)
plain_end p x (rests.plain d e) = let f = ends_named p d in (ap (λ (l : List ℕ). plain_name l) f.same_name, f.same_rest)
plain_end {c = c} p x (rests.prefixed d l) = let f = ends_named p d in no (eq-eqb c 58 (sym (head_same (sym f.same_rest)))) x

colon_on : {read ts rest : List ℕ} {name : RawName} → NameRest (reading None read) (58 ∷ ts) name rest → NameRest (coloned read) ts name rest
colon_on {read = read} {ts = ts} (rests.plain d e) = let f = ends_named colon_name d in colon_refused f.same_rest e where
  colon_refused : {rest : List ℕ} {P : Type 0} → rest ≡ 58 ∷ ts → Ends is_colon rest → P
  colon_refused same e = let at_colon : Ends is_colon (58 ∷ ts) = rw same at e in cc
colon_on (rests.prefixed {prefix = prefix} {mid = mid} {local = local} {rest = rest} d l) =
    let f = ends_named colon_name d in rw (← f.same_name, tail_same f.same_rest) (rests.colon l)

choose_name : (n : NameState) (c : ℕ) (ts : List ℕ) (b : Bool) (x y : NameStep) → (b ≡ true → NameGoes n c ts x) → (b ≡ false → NameGoes n c ts y) → NameGoes n c ts (cond b x y)
choose_name n c ts true x y f g = f refl
choose_name n c ts false x y f g = g refl

colon_goes : (read : List ℕ) (c : ℕ) (ts : List ℕ) → (c == 58) ≡ true → NameGoes (reading None read) c ts (on (coloned read))
colon_goes read c ts e = λ name rest.
    let P : ℕ → Type 0 = λ x. (NameRest (reading None read) (x ∷ ts) name rest → NameRest (coloned read) ts name rest) × (NameRest (coloned read) ts name rest → NameRest (reading None read) (x ∷ ts) name rest) in
    subst P (sym (eqb-true c 58 e)) ((λ r. colon_on r), (λ r. colon_back r))
  where
    colon_back : {name : RawName} {rest : List ℕ} → NameRest (coloned read) ts name rest → NameRest (reading None read) (58 ∷ ts) name rest
    colon_back (rests.colon l) = rests.prefixed (lexemes.whole colon_name) l

coloned_on : {c : ℕ} {prefix ts rest : List ℕ} {name : RawName} → NameRest (coloned prefix) (c ∷ ts) name rest → (starts_name c ≡ true) × NameRest (reading (Some prefix) (c ∷ [])) ts name rest
coloned_on (rests.colon (lexemes.ncname s d)) = (s, rests.local d)

coloned_back : {c : ℕ} {prefix ts rest : List ℕ} {name : RawName} → starts_name c ≡ true → NameRest (reading (Some prefix) (c ∷ [])) ts name rest → NameRest (coloned prefix) (c ∷ ts) name rest
coloned_back s (rests.local d) = rests.colon (lexemes.ncname s d)

pub names_go : (n : NameState) (c : ℕ) (ts : List ℕ) → NameGoes n c ts (name_step n c)
names_go (reading None read) c ts =
    choose_name (reading None read) c ts (is_name_char c) _ _
    (λ p name rest. ((λ r. name_on p r), (λ r. name_back p r)))
    (λ p. choose_name (reading None read) c ts (c == 58) _ _
    (λ e. colon_goes read c ts e)
    (λ x. ((λ other rest r. plain_end p x r), rests.plain (lexemes.whole p) x)))
names_go (reading (Some prefix) read) c ts =
    choose_name (reading (Some prefix) read) c ts (is_name_char c) _ _
    (λ p name rest. ((λ r. name_on p r), (λ r. name_back p r)))
    (λ p. ((λ other rest r. local_end p r), rests.local (lexemes.whole p)))
names_go (coloned prefix) c ts =
    choose_name (coloned prefix) c ts (starts_name c) _ _
    (λ s name rest. ((λ r. (coloned_on r).1), (λ r. coloned_back s r)))
    (λ s name rest r. no (coloned_on r).0 s)

-- a name and its first character
pub qname_begins : {c : ℕ} {ts rest : List ℕ} {name : RawName} → QName (c ∷ ts) name rest → (starts_name c ≡ true) × NameRest (reading None (c ∷ [])) ts name rest
qname_begins (doc.plain (lexemes.ncname s d) e) = (s, rests.plain d e)
qname_begins (doc.prefixed (lexemes.ncname s d) l) = (s, rests.prefixed d l)

pub qname_from : {c : ℕ} {ts rest : List ℕ} {name : RawName} → starts_name c ≡ true → NameRest (reading None (c ∷ [])) ts name rest → QName (c ∷ ts) name rest
qname_from s (rests.plain d e) = doc.plain (lexemes.ncname s d) e
qname_from s (rests.prefixed d l) = doc.prefixed (lexemes.ncname s d) l
