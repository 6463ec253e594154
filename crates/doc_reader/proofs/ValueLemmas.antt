-- What the parts of a value, taken one after another, do to a reading.
use Rattle.std.proofs.Common.{◌≡◌, ℕ, List, [], ◌∷◌, ◌++◌, Bool, true, false, not, ◌&&◌, ◌||◌, cond, Option, Some, None, Result, Ok, Err, MatchResult, ◌==◌, slice_get, refl, sym, ap, ◌∙◌, append-nil, append_assoc, eq-eqb}
use Rattle.std.proofs.lemmas.Bool.{and_parts, ne_eqb, eqb-true}
use Rattle.std.specs.List.{list_all}
use Rattle.doc_grammar.specs.Characters.{is_text, is_value, as_value}
use Rattle.doc_grammar.specs.Lexing.{ampersand}
use Rattle.doc_grammar.specs.RawNames.{RawName, RawTag, with_attribute}
use Rattle.doc_grammar.specs.Scopes.{opened}
use Rattle.doc_grammar.specs.Machine.{Stack, tagged, valued, value_refers, other, step, stops}
use Rattle.doc_grammar.proofs.CharacterFacts.{space_text}
use Rattle.xml_source.specs.Classes.{is_plain_value}
use Rattle.xml_source.specs.References.{RefEnd, finds, ref_reads}
use Rattle.xml_source.specs.References as refs
use Rattle.xml_source.specs.Reading.{reads, stop_of}
use Rattle.xml_source.specs.declared.steps.Stop as code
use Rattle.xml_source.proofs.ReadLemmas.{goes, stuck}
use Rattle.doc_reader.proofs.ReferenceReads.{found_in_value, stops_in_value}
use Rattle.xml_source.proofs.EqualsLemmas.{quote_cases}
use Rattle.xml_source.proofs.ReferenceLemmas.{Skips}
use Rattle.xt_names.proofs.BoolLemmas.{is_false, no}
use Rattle.xt_names.specs.Characters.{is_space, is_char, is_quote, Ends, NotNext}
use Rattle.xt_names.proofs.CharacterLemmas.{space_cases}

-- what stands for itself
pub record PlainFacts (q c : ℕ) : Type 0 where
  pub no_quote : (c == q) ≡ false
  pub no_reference : (c == 38) ≡ false
  pub value : is_value q c ≡ true
  pub itself : as_value c ≡ c

itself_of : (c : ℕ) → not (is_space c && not (c == 32)) ≡ true → as_value c ≡ c
unfolding as_value
itself_of c e = go (is_space c) (c == 32) refl e where
  go : (s t : Bool) → (c == 32) ≡ t → not (s && not t) ≡ true → cond s 32 c ≡ c
  go true true same h = sym (eqb-true c 32 same)
  go true false same h = cc
  go false t same h = refl

pub plain_facts : (q c : ℕ) → is_plain_value q c ≡ true → PlainFacts q c
unfolding is_plain_value is_value is_text
plain_facts q c h =
    let a = and_parts (is_value q c) (not (is_space c && not (c == 32))) h in
    let b = and_parts (is_text c) (not (c == q)) a.0 in
    let d = and_parts (is_char c && not (c == 60)) (not (c == 38)) b.0 in
    record { no_quote = is_false (c == q) b.1; no_reference = is_false (c == 38) d.1; value = a.0; itself = itself_of c a.1 }

value_step : (t : RawTag) (name : RawName) (q c : ℕ) (read : List ℕ) (st : Stack) → (c == q) ≡ false → (c == 38) ≡ false → is_value q c ≡ true → step opened (valued t name q read st) c ≡ Some (valued t name q (read ++ as_value c ∷ []) st)
unfolding step
value_step t name q c read st e f v = rw (e, f, v) refl

pub plain_goes : (xs ts : List ℕ) (t : RawTag) (name : RawName) (q : ℕ) (read : List ℕ) (st : Stack) → list_all (is_plain_value q) xs ≡ true → reads (xs ++ ts) (valued t name q read st) ≡ reads ts (valued t name q (read ++ xs) st)
plain_goes [] ts t name q read st a = rw append-nil refl
plain_goes (x ∷ xs) ts t name q read st a =
    let parts = and_parts (is_plain_value q x) (list_all (is_plain_value q) xs) a in
    let f = plain_facts q x parts.0 in
    goes _ _ x (xs ++ ts) (value_step t name q x read st f.no_quote f.no_reference f.value ∙ ap (λ (y : ℕ). Some (valued t name q (read ++ y ∷ []) st)) f.itself)
    ∙ plain_goes xs ts t name q (read ++ x ∷ []) st parts.1 ∙ ap (λ (y : List ℕ). reads ts (valued t name q y st)) (append_assoc read (x ∷ []) xs)

end_step : (t : RawTag) (name : RawName) (q : ℕ) (read : List ℕ) (st : Stack) → step opened (valued t name q read st) q ≡ Some (tagged (with_attribute t name read) st)
unfolding step
end_step t name q read st = rw (eq-eqb q q refl) refl

-- the quote at the end
pub value_ends : (old new : List ℕ) (t : RawTag) (name : RawName) (q : ℕ) (read : List ℕ) (st : Stack) → old ≡ q ∷ new → reads old (valued t name q read st) ≡ reads new (tagged (with_attribute t name read) st)
value_ends old new t name q read st e = ap (λ (x : List ℕ). reads x (valued t name q read st)) e ∙ goes _ _ q new (end_step t name q read st)

-- a reference

ampersand_no_quote : (q : ℕ) → is_quote q ≡ true → (38 == q) ≡ false
ampersand_no_quote q e = let P : ℕ → Type 0 = λ x. (38 == x) ≡ false in quote_cases P q refl refl e

reference_step : (t : RawTag) (name : RawName) (q : ℕ) (read : List ℕ) (st : Stack) → is_quote q ≡ true → step opened (valued t name q read st) 38 ≡ Some (value_refers t name q read ampersand st)
unfolding step
reference_step t name q read st e = rw (ampersand_no_quote q e) refl

reference_goes : (old mid : List ℕ) (t : RawTag) (name : RawName) (q : ℕ) (read : List ℕ) (st : Stack) → is_quote q ≡ true → old ≡ 38 ∷ mid → reads old (valued t name q read st) ≡ reads mid (value_refers t name q read ampersand st)
reference_goes old mid t name q read st e o = ap (λ (x : List ℕ). reads x (valued t name q read st)) o ∙ goes _ _ 38 mid (reference_step t name q read st e)

pub value_refers_to : (old mid new : List ℕ) (r : Result ℕ code.Stop) (t : RawTag) (name : RawName) (q : ℕ) (read : List ℕ) (st : Stack) → is_quote q ≡ true → old ≡ 38 ∷ mid
    → MatchResult r (λ c. ref_reads mid ampersand ≡ finds c new) (λ why. ref_reads mid ampersand ≡ refs.stops (stop_of why) new)
    → MatchResult r (λ c. reads old (valued t name q read st) ≡ reads new (valued t name q (read ++ c ∷ []) st)) (λ why. reads old (valued t name q read st) ≡ stops (stop_of why) new)
value_refers_to old mid new (Ok c) t name q read st e o m = reference_goes old mid t name q read st e o ∙ found_in_value t name q read st mid new ampersand c m
value_refers_to old mid new (Err why) t name q read st e o m = reference_goes old mid t name q read st e o ∙ stops_in_value t name q read st mid new ampersand (stop_of why) m

-- white space

space_no_reference : (c : ℕ) → is_space c ≡ true → (c == 38) ≡ false
space_no_reference c e = let P : ℕ → Type 0 = λ x. (x == 38) ≡ false in space_cases P c refl refl refl refl e

space_step : (t : RawTag) (name : RawName) (q c : ℕ) (read : List ℕ) (st : Stack) → is_space c ≡ true → (c == q) ≡ false → step opened (valued t name q read st) c ≡ Some (valued t name q (read ++ 32 ∷ []) st)
unfolding step is_value as_value
space_step t name q c read st s e = rw (e, space_no_reference c s, space_text c s, s) refl

pub value_space : (old new : List ℕ) (c : ℕ) (t : RawTag) (name : RawName) (q : ℕ) (read : List ℕ) (st : Stack) → old ≡ c ∷ new → is_space c ≡ true → NotNext q old → reads old (valued t name q read st) ≡ reads new (valued t name q (read ++ 32 ∷ []) st)
value_space [] new c t name q read st o s n = absurd (cc)
value_space (d ∷ ds) new c t name q read st o s n =
    let same : d ≡ c = cc in
    let rest : ds ≡ new = cc in
    goes _ _ d ds (space_step t name q d read st (rw same s) (ne_eqb d q (λ x. n (sym x)))) ∙ ap (λ (x : List ℕ). reads x (valued t name q (read ++ 32 ∷ []) st)) rest

-- nothing that may stand here

no_value : (q c : ℕ) → is_space c ≡ false → is_plain_value q c ≡ false → is_value q c ≡ false
unfolding is_plain_value
no_value q c s e = go (is_value q c) e where
  go : (b : Bool) → (b && not (is_space c && not (c == 32))) ≡ false → b ≡ false
  go true h = absurd (let t : not (is_space c && not (c == 32)) ≡ true = rw s refl in no t h)
  go false h = refl

stuck_step : (t : RawTag) (name : RawName) (q c : ℕ) (read : List ℕ) (st : Stack) → (c == q) ≡ false → (c == 38) ≡ false → is_value q c ≡ false → step opened (valued t name q read st) c ≡ None
unfolding step
stuck_step t name q c read st e f v = rw (e, f, v) refl

pub value_stops : (old : List ℕ) (t : RawTag) (name : RawName) (q : ℕ) (read : List ℕ) (st : Stack) → NotNext q old → NotNext 38 old → Ends (is_plain_value q) old → Ends is_space old → reads old (valued t name q read st) ≡ stops other old
value_stops [] t name q read st n a e s = refl
value_stops (c ∷ cs) t name q read st n a e s =
    stuck _ c cs (stuck_step t name q c read st (ne_eqb c q (λ x. n (sym x))) (ne_eqb c 38 (λ x. a (sym x))) (no_value q c s e))

-- between single quotes

is_single : (q : ℕ) → is_quote q ≡ true → (q ≡ 34 → ⊥) → q ≡ 39
unfolding is_quote
is_single q e f = eqb-true q 39 (go (q == 34) (q == 39) (ne_eqb q 34 f) e) where
  go : (a b : Bool) → a ≡ false → (a || b) ≡ true → b ≡ true
  go true b x y = cc
  go false b x y = y

pub single_passes : (q : ℕ) (xs : List ℕ) → is_quote q ≡ true → (q ≡ 34 → ⊥) → list_all (is_plain_value 39) xs ≡ true → list_all (is_plain_value q) xs ≡ true
single_passes q xs e f a = rw (is_single q e f) a

pub single_ends : (q : ℕ) (ts : List ℕ) → is_quote q ≡ true → (q ≡ 34 → ⊥) → Ends (is_plain_value 39) ts → Ends (is_plain_value q) ts
single_ends q ts e f a = rw (is_single q e f) a

-- a run of it
pub plain_part : (old run new : List ℕ) (t : RawTag) (name : RawName) (q : ℕ) (read more : List ℕ) (st : Stack) → old ≡ run ++ new → list_all (is_plain_value q) run ≡ true → more ≡ read ++ run
    → reads old (valued t name q read st) ≡ reads new (valued t name q more st)
plain_part old run new t name q read more st o a m =
    ap (λ (x : List ℕ). reads x (valued t name q read st)) o ∙ plain_goes run new t name q read st a ∙ ap (λ (x : List ℕ). reads new (valued t name q x st)) (sym m)

pub value_space_at : (old now new : List ℕ) (c : ℕ) (o : Option ℕ) (t : RawTag) (name : RawName) (q : ℕ) (read : List ℕ) (st : Stack) → now ≡ old → Some c ≡ slice_get now 0 → is_space c ≡ true → Skips o now new → NotNext q old
    → reads old (valued t name q read st) ≡ reads new (valued t name q (read ++ 32 ∷ []) st)
value_space_at old [] new c o t name q read st s p e k n = absurd (cc)
value_space_at old (d ∷ ds) new c None t name q read st s p e k n = absurd (let x : d ∷ ds ≡ [] = k.0 in cc)
value_space_at old (d ∷ ds) new c (Some x) t name q read st s p e k n =
    let same : c ≡ d = cc in
    let rest : ds ≡ new = cc in
    value_space old new c t name q read st (sym s ∙ ap (λ (y : ℕ). y ∷ ds) (sym same) ∙ ap (λ (y : List ℕ). c ∷ y) rest) e n

pub value_stops_at : (old now : List ℕ) (t : RawTag) (name : RawName) (q : ℕ) (read : List ℕ) (st : Stack) → (now ≡ old) × NotNext 38 old → NotNext q old → Ends (is_plain_value q) old → Ends is_space now
    → reads old (valued t name q read st) ≡ stops other now
value_stops_at old now t name q read st s n e f = rw s.0 (value_stops old t name q read st n s.1 e (rw s.0 at f))

-- what holds of a text that nothing was taken from

pub eaten_not : (q : ℕ) (now old : List ℕ) → (now ≡ old) × NotNext q old → NotNext q now
eaten_not q now old e = rw e.0 e.1

pub ends_not : (q : ℕ) (now old : List ℕ) → now ≡ old → Ends (is_plain_value q) old → Ends (is_plain_value q) now
ends_not q now old e a = rw e a
