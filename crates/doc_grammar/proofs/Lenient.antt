-- Where the reader of documents goes on, that of skeletons does; where it stops, so does that of skeletons, but for the rules on names.
use Rattle.std.proofs.Common.{◌≡◌, ℕ, [], ◌∷◌, refl, subst, Bool, true, false, cond, Option, Some, None, ◌==◌, ◌||◌}
use Rattle.std.proofs.lemmas.Bool.{eqb-true}
use Rattle.doc_grammar.specs.RawNames.{RawTag, tag_named}
use Rattle.doc_grammar.specs.Scopes.{Opened, opened}
use Rattle.doc_grammar.specs.Forms.{Part, form_part}
use Rattle.doc_grammar.specs.Forms as form
use Rattle.doc_grammar.specs.Lexing.{Ref, ampersand, letter_a, spelling, hash, hash_x, number}
use Rattle.doc_grammar.specs.Machine.{Stack, ground, element, NameState, reading, NameStep, on, behind_name, fails, name_step, State, content, refers, tag, bang, question, targeting, marked, forming, naming, tagged, spaced, attribute, equals, assigned, valued, value_refers, slashed, ending, ended, scope_of, opens, closes, at_end, behind_tagged, behind_spaced, in_naming, step, Stop, names, deep, entity, subset, encoding, other, at_close, stop_in_name, stop_before_name, stop_in_entity, stop_in_ref, stop_in_form, stop_at}
use Rattle.doc_grammar.specs.Skeleton.{anyhow, or_unbound, EndsTag, in_name, behind_attribute, behind_space, behind_slash}
use Rattle.xt_names.specs.Characters.{is_space, starts_name, is_name_char}

-- the tag that a state ends breaks a rule on names
abbrev pub Refused : State → Type 0
Refused s = (t : RawTag) × (st : Stack) × EndsTag s t st × (opened (scope_of st) t ≡ None)

-- what the one reader does with a character, what the other does, and why the first stops
pub data Follows (s : State) (c : ℕ) : Option State → Option State → Stop → Type 0 where
  both_go : {x : State} {why : Stop} → Follows s c (Some x) (Some x) why
  both_stop : {why : Stop} → (why ≡ names → ⊥) → Follows s c None None why
  refused : {x : State} → c ≡ 62 → Refused s → Follows s c None (Some x) names

-- the same step, for no reason of names
same : (s : State) (c : ℕ) (o : Option State) (why : Stop) → (why ≡ names → ⊥) → Follows s c o o why
same s c None why n = both_stop n
same s c (Some x) why n = both_go

not_other : other ≡ names → ⊥
not_other e = cc

not_deep : deep ≡ names → ⊥
not_deep e = cc

not_entity : entity ≡ names → ⊥
not_entity e = cc

not_subset : subset ≡ names → ⊥
not_subset e = cc

not_encoding : encoding ≡ names → ⊥
not_encoding e = cc

either_stop : (b : Bool) (x y : Stop) → (x ≡ names → ⊥) → (y ≡ names → ⊥) → cond b x y ≡ names → ⊥
either_stop true x y f g = f
either_stop false x y f g = g

before_name : (st : Stack) → stop_before_name st ≡ names → ⊥
before_name (ground l kids ds) = not_other
before_name (element name o kids st) = not_deep

in_entity : (c : ℕ) → stop_in_entity c ≡ names → ⊥
in_entity c = either_stop (is_name_char c || c == 59) _ _ not_entity not_other

in_ref : (r : Ref) (c : ℕ) → stop_in_ref r c ≡ names → ⊥
in_ref ampersand c = either_stop (starts_name c) _ _ not_entity not_other
in_ref letter_a c = in_entity c
in_ref (spelling left v) c = in_entity c
in_ref hash c = not_other
in_ref hash_x c = not_other
in_ref (number b n) c = not_other

in_form : (p : Part) (c : ℕ) → stop_in_form p c ≡ names → ⊥
in_form form.encoding c = not_encoding
in_form form.doctype_end c = either_stop (c == 91) _ _ not_subset not_other
in_form form.elsewhere c = not_other

-- the end of a start tag

opens_follow : (s : State) (c : ℕ) (t : RawTag) (st : Stack) (o : Option Opened) → c ≡ 62 → EndsTag s t st → opened (scope_of st) t ≡ o → Follows s c (opens t st o) (opens t st (Some (or_unbound (scope_of st) t o))) names
opens_follow s c t st None e ends why = refused e (t, st, ends, why)
opens_follow s c t st (Some o) e ends why = both_go

closes_follow : (s : State) (c : ℕ) (t : RawTag) (st : Stack) (o : Option Opened) → c ≡ 62 → EndsTag s t st → opened (scope_of st) t ≡ o → Follows s c (closes t st o) (closes t st (Some (or_unbound (scope_of st) t o))) names
closes_follow s c t st None e ends why = refused e (t, st, ends, why)
closes_follow s c t st (Some o) e ends why = both_go

end_follows : (s : State) (c : ℕ) (t : RawTag) (st : Stack) → (c ≡ 62 → EndsTag s t st) → Follows s c (at_end opened t st c) (at_end anyhow t st c) (at_close c)
unfolding anyhow
end_follows s c t st ends = go (c == 62) refl where
  go : (b : Bool) → (c == 62) ≡ b → Follows s c (cond b (opens t st (opened (scope_of st) t)) (cond (c == 47) (Some (slashed t st)) None)) (cond b (opens t st (anyhow (scope_of st) t)) (cond (c == 47) (Some (slashed t st)) None)) (cond b names other)
  go true e = let is = eqb-true c 62 e in opens_follow s c t st (opened (scope_of st) t) is (ends is) refl
  go false e = same s c (cond (c == 47) (Some (slashed t st)) None) other not_other

tagged_follows : (s : State) (c : ℕ) (t : RawTag) (st : Stack) → (c ≡ 62 → EndsTag s t st) → Follows s c (behind_tagged opened t st c) (behind_tagged anyhow t st c) (at_close c)
tagged_follows s c t st ends = go (is_space c) where
  go : (b : Bool) → Follows s c (cond b (Some (spaced t st)) (at_end opened t st c)) (cond b (Some (spaced t st)) (at_end anyhow t st c)) (at_close c)
  go true = both_go
  go false = end_follows s c t st ends

naming_follows : (c : ℕ) (n : NameState) (st : Stack) (r : NameStep) → name_step n c ≡ r → Follows (naming n st) c (in_naming opened st c r) (in_naming anyhow st c r) (stop_in_name c r)
naming_follows c n st (on n') e = both_go
naming_follows c n st (behind_name name) e =
    tagged_follows (naming n st) c (tag_named name) st (λ is. let P : ℕ → Type 0 = λ x. name_step n x ≡ behind_name name in in_name (subst P is e))
naming_follows c n st fails e = both_stop not_other

spaced_follows : (c : ℕ) (t : RawTag) (st : Stack) → Follows (spaced t st) c (behind_spaced opened t st c) (behind_spaced anyhow t st c) (at_close c)
spaced_follows c t st = go (is_space c) (starts_name c) where
  go : (a b : Bool) → Follows (spaced t st) c (cond a (Some (spaced t st)) (cond b (Some (attribute t (reading None (c ∷ [])) st)) (at_end opened t st c))) (cond a (Some (spaced t st)) (cond b (Some (attribute t (reading None (c ∷ [])) st)) (at_end anyhow t st c))) (at_close c)
  go true b = both_go
  go false true = both_go
  go false false = end_follows (spaced t st) c t st (λ is. behind_space)

slashed_follows : (c : ℕ) (t : RawTag) (st : Stack) → Follows (slashed t st) c (cond (c == 62) (closes t st (opened (scope_of st) t)) None) (cond (c == 62) (closes t st (anyhow (scope_of st) t)) None) (at_close c)
unfolding anyhow
slashed_follows c t st = go (c == 62) refl where
  go : (b : Bool) → (c == 62) ≡ b → Follows (slashed t st) c (cond b (closes t st (opened (scope_of st) t)) None) (cond b (closes t st (anyhow (scope_of st) t)) None) (cond b names other)
  go true e = closes_follow (slashed t st) c t st (opened (scope_of st) t) (eqb-true c 62 e) behind_slash refl
  go false e = both_stop not_other

pub follows : (s : State) (c : ℕ) → Follows s c (step opened s c) (step anyhow s c) (stop_at s c)
unfolding step
follows (content n text st) c = same (content n text st) c (step opened (content n text st) c) other not_other
follows (refers text r st) c = same (refers text r st) c (step opened (refers text r st) c) _ (in_ref r c)
follows (tag text st) c = same (tag text st) c (step opened (tag text st) c) _ (either_stop (starts_name c) _ _ (before_name st) not_other)
follows (bang text st) c = same (bang text st) c (step opened (bang text st) c) other not_other
follows (question text st) c = same (question text st) c (step opened (question text st) c) other not_other
follows (targeting read text st) c = same (targeting read text st) c (step opened (targeting read text st) c) other not_other
follows (marked l text st) c = same (marked l text st) c (step opened (marked l text st) c) other not_other
follows (forming f st) c = same (forming f st) c (step opened (forming f st) c) _ (in_form (form_part f c) c)
follows (naming n st) c = naming_follows c n st (name_step n c) refl
follows (tagged t st) c = tagged_follows (tagged t st) c t st (λ is. behind_attribute)
follows (spaced t st) c = spaced_follows c t st
follows (attribute t n st) c = same (attribute t n st) c (step opened (attribute t n st) c) other not_other
follows (equals t name st) c = same (equals t name st) c (step opened (equals t name st) c) other not_other
follows (assigned t name st) c = same (assigned t name st) c (step opened (assigned t name st) c) other not_other
follows (valued t name quote read st) c = same (valued t name quote read st) c (step opened (valued t name quote read st) c) other not_other
follows (value_refers t name quote read r st) c = same (value_refers t name quote read r st) c (step opened (value_refers t name quote read r st) c) _ (in_ref r c)
follows (slashed t st) c = slashed_follows c t st
follows (ending left st) c = same (ending left st) c (step opened (ending left st) c) other not_other
follows (ended st) c = same (ended st) c (step opened (ended st) c) other not_other
