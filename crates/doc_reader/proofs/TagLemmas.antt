-- What the parts of a start tag, taken one after another, do to a reading.
use Rattle.std.proofs.Common.{◌≡◌, ℕ, List, [], ◌∷◌, ◌++◌, map, Bool, true, false, Option, Some, None, slice_get, ◌⊎◌, ◌==◌, refl, sym, ap, subst, ◌∙◌, inl, inr}
use Rattle.std.proofs.lemmas.Bool.{ne_eqb}
use Rattle.std.proofs.lemmas.List.{map_push}
use Rattle.doc_grammar.specs.Characters.{is_colon}
use Rattle.doc_grammar.specs.RawNames.{RawName, RawAttribute, RawTag, with_attribute}
use Rattle.doc_grammar.specs.Scopes.{opened}
use Rattle.doc_grammar.specs.Lexemes.{Named, NCName}
use Rattle.doc_grammar.specs.Lexemes as lexemes
use Rattle.doc_grammar.specs.Document.{QName, AtEnd}
use Rattle.doc_grammar.specs.Document as doc
use Rattle.doc_grammar.specs.Machine.{Stack, State, NameState, reading, coloned, tagged, spaced, attribute, equals, valued, step, stop_at, stops, other, or_stop, run, End}
use Rattle.doc_grammar.proofs.CharacterFacts.{close_space, slash_space, close_starts, slash_starts, space_starts}
use Rattle.xml_source.specs.Reading.{reads, Fails, Ran, OnStep}
use Rattle.xml_source.specs.Sources.{NoName}
use Rattle.xml_source.specs.declared.steps.Step.{Step}
use Rattle.xml_source.specs.declared.steps.Step.TheVariants.{On, Stopped}
use Rattle.xml_source.proofs.ReadLemmas.{goes, stuck}
use Rattle.xml_source.proofs.EqualsLemmas.{TakesSpaces, spaces_in}
use Rattle.doc_reader.proofs.ElementLemmas.{named_ends}
use Rattle.xt_names.specs.Characters.{is_space, is_quote, starts_name, is_name_char, Ends, NotNext}
use Rattle.xt_names.proofs.BoolLemmas.{no}
use Rattle.xt_names.proofs.CharacterLemmas.{colon_name}

spaced_step : (t : RawTag) (st : Stack) (c : ℕ) → is_space c ≡ true → step opened (spaced t st) c ≡ Some (spaced t st)
unfolding step
spaced_step t st c s = rw s refl

tagged_step : (t : RawTag) (st : Stack) (c : ℕ) → is_space c ≡ true → step opened (tagged t st) c ≡ Some (spaced t st)
unfolding step
tagged_step t st c s = rw s refl

-- after white space in a tag
tagged_goes : (old new : List ℕ) (t : RawTag) (st : Stack) → TakesSpaces true old new → reads old (tagged t st) ≡ reads new (spaced t st)
tagged_goes old new t st s =
    ap (λ (x : List ℕ). reads x (tagged t st)) s.2 ∙ goes _ _ s.0 s.1 (tagged_step t st s.0 s.3) ∙ spaces_in (spaced t st) (spaced_step t st) s.4

-- the end of a start tag is the same after white space
same_end : (t : RawTag) (st : Stack) (c : ℕ) → is_space c ≡ false → starts_name c ≡ false → step opened (spaced t st) c ≡ step opened (tagged t st) c
unfolding step
same_end t st c s n = rw (s, n) refl

at_end : {ts : List ℕ} (t : RawTag) (st : Stack) → AtEnd ts → reads ts (spaced t st) ≡ reads ts (tagged t st)
at_end t st (doc.close {ts = ts}) = ap (λ (o : Option State). or_stop (run opened ts) (stops (stop_at (tagged t st) 62) (62 ∷ ts)) o) (same_end t st 62 close_space close_starts)
at_end t st (doc.slash {ts = ts}) = ap (λ (o : Option State). or_stop (run opened ts) (stops (stop_at (tagged t st) 47) (47 ∷ ts)) o) (same_end t st 47 slash_space slash_starts)

-- the end of the tag comes next
pub ends_tag : (b : Bool) (old new : List ℕ) → TakesSpaces b old new → AtEnd new → (t : RawTag) (st : Stack) → reads old (tagged t st) ≡ reads new (tagged t st)
ends_tag true old new s e t st = tagged_goes old new t st s ∙ at_end t st e
ends_tag false old new s e t st = ap (λ (x : List ℕ). reads x (tagged t st)) (sym s)

-- the end of a tag by its first character
pub at_end_by_first : (cs : List ℕ) (c : ℕ) → Some c ≡ slice_get cs 0 → (c ≡ 47) ⊎ (c ≡ 62) → AtEnd cs
at_end_by_first [] c e h = absurd (cc)
at_end_by_first (d ∷ cs) c e h =
    let same : c ≡ d = cc in
    let P : ℕ → Type 0 = λ x. AtEnd (x ∷ cs) in
    elim h [ inl x ↦ (let at : 47 ≡ d = cc in subst P at doc.slash) | inr x ↦ (let at : 62 ≡ d = cc in subst P at doc.close) ]

no_tagged_step : (t : RawTag) (st : Stack) (c : ℕ) → is_space c ≡ false → (c ≡ 62 → ⊥) → (c ≡ 47 → ⊥) → step opened (tagged t st) c ≡ None
unfolding step
no_tagged_step t st c s x y = rw (s, ne_eqb c 62 x, ne_eqb c 47 y) refl

tagged_why : (t : RawTag) (st : Stack) (c : ℕ) → (c ≡ 62 → ⊥) → stop_at (tagged t st) c ≡ other
tagged_why t st c n = rw (ne_eqb c 62 n) refl

spaced_why : (t : RawTag) (st : Stack) (c : ℕ) → (c ≡ 62 → ⊥) → stop_at (spaced t st) c ≡ other
spaced_why t st c n = rw (ne_eqb c 62 n) refl

-- nothing that may stand here comes next
pub no_more : (old new : List ℕ) → new ≡ old → Ends is_space new → NotNext 62 new × NotNext 47 new → (t : RawTag) (st : Stack) → Fails (reads old (tagged t st)) new
no_more old [] e s n t st = rw (← e) refl
no_more old (c ∷ cs) e s n t st =
    let close = λ (same : c ≡ 62). n.0 (sym same) in
    ap (λ (x : List ℕ). reads x (tagged t st)) (sym e) ∙ stuck (tagged t st) c cs (no_tagged_step t st c s close (λ same. n.1 (sym same))) ∙ ap (λ w. stops w (c ∷ cs)) (tagged_why t st c close)

-- an attribute after white space
pub one_more : (e : End) (old mid new : List ℕ) (t : RawTag) (st : Stack) (s : State) (r : Step) → e ≡ reads old (tagged t st) → TakesSpaces true old mid → Ran (reads mid (spaced t st)) new s r → Ran e new s r
one_more e old mid new t st s On same k r = same ∙ tagged_goes old mid t st k ∙ r
one_more e old mid new t st s (Stopped why) same k r = same ∙ tagged_goes old mid t st k ∙ r

-- names of attributes

begin_step : (t : RawTag) (st : Stack) (c : ℕ) → starts_name c ≡ true → step opened (spaced t st) c ≡ Some (attribute t (reading None (c ∷ [])) st)
unfolding step
begin_step t st c s = rw (starts_no_space c s, s) refl where
  starts_no_space : (c : ℕ) → starts_name c ≡ true → is_space c ≡ false
  starts_no_space c s = go (is_space c) refl where
    go : (x : Bool) → is_space c ≡ x → is_space c ≡ false
    go true e = no s (space_starts c e)
    go false e = e

name_on : (t : RawTag) (prefix : Option (List ℕ)) (read : List ℕ) (st : Stack) (c : ℕ) → is_name_char c ≡ true → step opened (attribute t (reading prefix read) st) c ≡ Some (attribute t (reading prefix (read ++ c ∷ [])) st)
unfolding step
name_on t prefix read st c p = rw p refl

run_naming : {read ts name rest : List ℕ} (t : RawTag) (prefix : Option (List ℕ)) (st : Stack) → Named read ts name rest → reads ts (attribute t (reading prefix read) st) ≡ reads rest (attribute t (reading prefix name) st)
run_naming t prefix st (lexemes.more {c = c} {read = read} {ts = ts} p n) = goes _ _ c ts (name_on t prefix read st c p) ∙ run_naming t prefix st n
run_naming t prefix st (lexemes.whole e) = refl

colon_step : (t : RawTag) (read : List ℕ) (st : Stack) → step opened (attribute t (reading None read) st) 58 ≡ Some (attribute t (coloned read) st)
unfolding step
colon_step t read st = rw colon_name refl

coloned_step : (t : RawTag) (prefix : List ℕ) (st : Stack) (c : ℕ) → starts_name c ≡ true → step opened (attribute t (coloned prefix) st) c ≡ Some (attribute t (reading (Some prefix) (c ∷ [])) st)
unfolding step
coloned_step t prefix st c p = rw p refl

-- the state in which a name is whole
abbrev whole_name : RawName → NameState
whole_name name = reading name.prefix name.local

to_name : {ts rest : List ℕ} {name : RawName} (t : RawTag) (st : Stack) → QName ts name rest → reads ts (spaced t st) ≡ reads rest (attribute t (whole_name name) st)
to_name t st (doc.plain (lexemes.ncname {c = c} {ts = ts} s d) e) = goes _ _ c ts (begin_step t st c s) ∙ run_naming t None st d
to_name t st (doc.prefixed {prefix = prefix} (lexemes.ncname {c = c} {ts = ts} s d) (lexemes.ncname {c = c'} {ts = ts'} s' d')) =
    goes _ _ c ts (begin_step t st c s) ∙ run_naming t None st d ∙ goes _ _ 58 (c' ∷ ts') (colon_step t prefix st)
    ∙ goes _ _ c' ts' (coloned_step t prefix st c' s') ∙ run_naming t (Some prefix) st d'

qname_ends : {ts rest : List ℕ} {name : RawName} → QName ts name rest → Ends is_name_char rest × (name.prefix ≡ None → Ends is_colon rest)
qname_ends (doc.plain (lexemes.ncname s d) e) = (named_ends d, λ x. e)
qname_ends (doc.prefixed n (lexemes.ncname s d)) = (named_ends d, λ x. absurd (cc))

-- after a whole name
behind_step : (t : RawTag) (prefix : Option (List ℕ)) (local : List ℕ) (st : Stack) (c : ℕ) → is_name_char c ≡ false → (prefix ≡ None → (c == 58) ≡ false) → step opened (attribute t (reading prefix local) st) c ≡ step opened (equals t (record { prefix = prefix; local = local }) st) c
unfolding step
behind_step t None local st c p q = rw (p, q refl) refl
behind_step t (Some prefix) local st c p q = rw p refl

behind_name : (rest : List ℕ) (t : RawTag) (name : RawName) (st : Stack) → Ends is_name_char rest → (name.prefix ≡ None → Ends is_colon rest) → reads rest (attribute t (whole_name name) st) ≡ reads rest (equals t name st)
behind_name [] t name st p q = refl
behind_name (c ∷ cs) t name st p q = ap (λ (o : Option State). or_stop (run opened cs) (stops other (c ∷ cs)) o) (behind_step t name.prefix name.local st c p q)

pub name_goes : {ts rest : List ℕ} {name : RawName} (t : RawTag) (st : Stack) → QName ts name rest → reads ts (spaced t st) ≡ reads rest (equals t name st)
name_goes {rest = rest} {name = name} t st q = let e = qname_ends q in to_name t st q ∙ behind_name rest t name st e.0 e.1

-- no attribute, and no end of the tag
no_begin_step : (t : RawTag) (st : Stack) (c : ℕ) → is_space c ≡ false → starts_name c ≡ false → (c ≡ 62 → ⊥) → (c ≡ 47 → ⊥) → step opened (spaced t st) c ≡ None
unfolding step
no_begin_step t st c s n x y = rw (s, n, ne_eqb c 62 x, ne_eqb c 47 y) refl

coloned_none : (t : RawTag) (prefix : List ℕ) (st : Stack) (c : ℕ) → starts_name c ≡ false → step opened (attribute t (coloned prefix) st) c ≡ None
unfolding step
coloned_none t prefix st c e = rw e refl

coloned_stops : (t : RawTag) (prefix : List ℕ) (st : Stack) (rest : List ℕ) → Ends starts_name rest → Fails (reads rest (attribute t (coloned prefix) st)) rest
coloned_stops t prefix st [] e = refl
coloned_stops t prefix st (c ∷ cs) e = stuck (attribute t (coloned prefix) st) c cs (coloned_none t prefix st c e)

at_first : (old : List ℕ) (t : RawTag) (st : Stack) → Ends is_space old → NotNext 62 old → NotNext 47 old → Ends starts_name old → Fails (reads old (spaced t st)) old
at_first [] t st s x y e = refl
at_first (c ∷ cs) t st s x y e =
    let close = λ (same : c ≡ 62). x (sym same) in
    stuck (spaced t st) c cs (no_begin_step t st c s e close (λ same. y (sym same))) ∙ ap (λ w. stops w (c ∷ cs)) (spaced_why t st c close)

behind_colon : {old prefix new : List ℕ} (t : RawTag) (st : Stack) → NCName old prefix (58 ∷ new) → Ends starts_name new → Fails (reads old (spaced t st)) new
behind_colon {prefix = prefix} {new = new} t st (lexemes.ncname {c = c} {ts = ts} p d) f =
    goes _ _ c ts (begin_step t st c p) ∙ run_naming t None st d ∙ goes _ _ 58 new (colon_step t prefix st) ∙ coloned_stops t prefix st new f

pub no_attribute : (old new : List ℕ) (t : RawTag) (st : Stack) → Ends is_space old → NotNext 62 old → NotNext 47 old → NoName old new → Fails (reads old (spaced t st)) new
no_attribute old new t st s x y (inl e) = rw e.0 (at_first old t st s x y e.1)
no_attribute old new t st s x y (inr e) = behind_colon t st e.1 e.2

-- a tag with these attributes
abbrev pub tag_with : {A : Type 0} → (A → RawAttribute) → RawName → List A → RawTag
tag_with view name items = record { name = name; attributes = map view items }

-- the attributes with one more at their end
pub tag_pushed : {A : Type 0} (view : A → RawAttribute) (name : RawName) (old_items new_items : List A) (a : A) → new_items ≡ old_items ++ a ∷ [] → with_attribute (tag_with view name old_items) (view a).name (view a).value ≡ tag_with view name new_items
tag_pushed view name old_items new_items a p = rw (p, map_push view old_items a) refl

-- an attribute whose value is read
pub attribute_ran : (r : Step) (old eq inner new : List ℕ) (t t' : RawTag) (name : RawName) (q : ℕ) (value start : List ℕ) (st : Stack) → QName old name eq → (is_quote q ≡ true) × (reads eq (equals t name st) ≡ reads inner (valued t name q [] st))
    → start ≡ [] → Ran (reads inner (valued t name q start st)) new (tagged (with_attribute t name value) st) r → OnStep r (with_attribute t name value ≡ t') → Ran (reads old (spaced t st)) new (tagged t' st) r
attribute_ran On old eq inner new t t' name q value start st n e s r k =
    name_goes t st n ∙ e.1 ∙ ap (λ (x : List ℕ). reads inner (valued t name q x st)) (sym s) ∙ r ∙ ap (λ (x : RawTag). reads new (tagged x st)) k
attribute_ran (Stopped why) old eq inner new t t' name q value start st n e s r k =
    name_goes t st n ∙ e.1 ∙ ap (λ (x : List ℕ). reads inner (valued t name q x st)) (sym s) ∙ r

pub no_quote_behind : (old eq new : List ℕ) (t : RawTag) (name : RawName) (st : Stack) → QName old name eq → Fails (reads eq (equals t name st)) new → Fails (reads old (spaced t st)) new
no_quote_behind old eq new t name st n e = name_goes t st n ∙ e
