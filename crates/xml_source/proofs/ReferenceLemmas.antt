-- What the parts of a reference, taken one after another, do to its reading.
use Rattle.std.proofs.Common.{◌≡◌, ℕ, ◌+◌, ◌*◌, ◌≤◌, ◌<◌, List, [], ◌∷◌, ◌++◌, length, Bool, true, false, ◌&&◌, Option, Some, None, MatchOption, MatchResult, Result, Ok, Err, nat_le, refl, sym, ap, ◌∙◌, arith, eq-eqb, codes}
use Rattle.std.proofs.lemmas.Bool.{ne_eqb, le-leb, lt-leb}
use Rattle.doc_grammar.specs.Characters.{Base, decimal, hexadecimal, base_of, digit, last_char}
use Rattle.doc_grammar.specs.Lexing.{Ref, on, stands_for, fails, ref_step, ampersand, letter_a, spelling, hash, hash_x, number}
use Rattle.doc_grammar.specs.Machine.{Stop, other, stop_in_ref, stop_in_entity}
use Rattle.std.specs.Str.{chars}
use Rattle.xml_source.specs.declared.steps.Stop as code
use Rattle.xml_source.specs.Reading.{stop_of}
use Rattle.xml_source.specs.Sources.{NextIs, DiffersAt}
use Rattle.xml_source.specs.References.{RefEnd, finds, stops, ref_reads, next_digit, before_digits, BeginsDigits, stop_by, is_in_entity}
use Rattle.xml_source.proofs.ReferenceReads.{ref_on, ref_ends, ref_stuck}
use Rattle.xt_names.specs.Characters.{is_char, starts_name, NotNext}

abbrev pub Skips : Option ℕ → List ℕ → List ℕ → Type 0
Skips o old new = MatchOption o ((old ≡ []) × (new ≡ [])) (λ c. old ≡ c ∷ new)

-- where a digit comes next one is taken
pub skipped : (b : Base) (d : ℕ) (old new : List ℕ) (o : Option ℕ) → Some d ≡ next_digit b old → Skips o old new → (c : ℕ) × (old ≡ c ∷ new)
skipped b d old new (Some c) e s = (c, s)
skipped b d old new None e s = absurd (let none : Some d ≡ next_digit b [] = rw s.0 at e in cc)

pub shorter_one : (c : ℕ) (old new : List ℕ) → old ≡ c ∷ new → length new < length old
shorter_one c old new e = let size = ap length e in omega arith

-- the first digit

first_step : (b : Base) (c d : ℕ) (cs : List ℕ) → BeginsDigits b (c ∷ cs) → digit b c ≡ Some d → ref_step (before_digits b) c ≡ on (number b d)
first_step decimal c d cs n e = rw (ne_eqb c 120 (λ s. n (sym s)), e) refl
first_step hexadecimal c d cs n e = rw e refl

no_first_step : (b : Base) (c : ℕ) (cs : List ℕ) → BeginsDigits b (c ∷ cs) → digit b c ≡ None → ref_step (before_digits b) c ≡ fails
no_first_step decimal c cs n e = rw (ne_eqb c 120 (λ s. n (sym s)), e) refl
no_first_step hexadecimal c cs n e = rw e refl

first_why : (b : Base) (c : ℕ) → stop_in_ref (before_digits b) c ≡ other
first_why decimal c = refl
first_why hexadecimal c = refl

pub first_some : (b : Base) (d : ℕ) (old new : List ℕ) (o : Option ℕ) → Some d ≡ next_digit b old → Skips o old new → BeginsDigits b old → ref_reads old (before_digits b) ≡ ref_reads new (number b d)
first_some b d old new o e s n = go (skipped b d old new o e s) where
  go : (c : ℕ) × (old ≡ c ∷ new) → ref_reads old (before_digits b) ≡ ref_reads new (number b d)
  go k =
      let is : digit b k.0 ≡ Some d = sym (rw k.1 at e) in
      let begins : BeginsDigits b (k.0 ∷ new) = rw k.1 at n in
      ap (λ (x : List ℕ). ref_reads x (before_digits b)) k.1 ∙ ref_on (before_digits b) (number b d) k.0 new (first_step b k.0 d new begins is)

no_digits : (b : Base) → ref_reads [] (before_digits b) ≡ stops other []
no_digits decimal = refl
no_digits hexadecimal = refl

pub first_none : (b : Base) (old : List ℕ) → None ≡ next_digit b old → BeginsDigits b old → ref_reads old (before_digits b) ≡ stops other old
first_none b [] e n = no_digits b
first_none b (c ∷ cs) e n =
    ref_stuck (before_digits b) c cs (no_first_step b c cs n (sym e)) ∙ ap (λ (w : Stop). stops w (c ∷ cs)) (first_why b c)

-- another digit

next_step : (b : Base) (n c d m : ℕ) → (c ≡ 59 → ⊥) → digit b c ≡ Some d → m ≡ n * base_of b + d → m ≤ last_char → ref_step (number b n) c ≡ on (number b m)
next_step b n c d m e i s l =
    let fits : nat_le (n * base_of b + d) last_char ≡ true = le-leb (n * base_of b + d) last_char (rw s at l) in
    rw (ne_eqb c 59 e, i, fits, s) refl

no_next_step : (b : Base) (n c : ℕ) → (c ≡ 59 → ⊥) → digit b c ≡ None → ref_step (number b n) c ≡ fails
no_next_step b n c e i = rw (ne_eqb c 59 e, i) refl

past_step : (b : Base) (n c d : ℕ) → (c ≡ 59 → ⊥) → digit b c ≡ Some d → last_char < n * base_of b + d → ref_step (number b n) c ≡ fails
past_step b n c d e i l =
    let past : nat_le (n * base_of b + d) last_char ≡ false = lt-leb (n * base_of b + d) last_char l in
    rw (ne_eqb c 59 e, i, past) refl

pub next_some : (b : Base) (n d m : ℕ) (old new : List ℕ) (o : Option ℕ) → Some d ≡ next_digit b old → Skips o old new → NotNext 59 old → (m ≡ n * base_of b + d) × m ≤ last_char → ref_reads old (number b n) ≡ ref_reads new (number b m)
next_some b n d m old new o e s x v = go (skipped b d old new o e s) where
  go : (c : ℕ) × (old ≡ c ∷ new) → ref_reads old (number b n) ≡ ref_reads new (number b m)
  go k =
      let is : digit b k.0 ≡ Some d = sym (rw k.1 at e) in
      let other_one : (59 ≡ k.0 → ⊥) = rw k.1 at x in
      ap (λ (y : List ℕ). ref_reads y (number b n)) k.1 ∙ ref_on (number b n) (number b m) k.0 new (next_step b n k.0 d m (λ same. other_one (sym same)) is v.0 v.1)

pub next_none : (b : Base) (n : ℕ) (old : List ℕ) → None ≡ next_digit b old → NotNext 59 old → ref_reads old (number b n) ≡ stops other old
next_none b n [] e x = refl
next_none b n (c ∷ cs) e x = ref_stuck (number b n) c cs (no_next_step b n c (λ same. x (sym same)) (sym e))

pub next_past : (b : Base) (n d : ℕ) (old : List ℕ) → Some d ≡ next_digit b old → NotNext 59 old → last_char < n * base_of b + d → ref_reads old (number b n) ≡ stops other old
next_past b n d [] e x l = refl
next_past b n d (c ∷ cs) e x l = ref_stuck (number b n) c cs (past_step b n c d (λ same. x (sym same)) (sym e) l)

-- the end of a number

end_step : (b : Base) (n : ℕ) → is_char n ≡ true → ref_step (number b n) 59 ≡ stands_for n
end_step b n h = rw h refl

no_end_step : (b : Base) (n : ℕ) → is_char n ≡ false → ref_step (number b n) 59 ≡ fails
no_end_step b n h = rw h refl

pub number_ends : (b : Base) (n : ℕ) (old new : List ℕ) (o : Option ℕ) → NextIs 59 old → Skips o old new → is_char n ≡ true → ref_reads old (number b n) ≡ finds n new
number_ends b n [] new o x s h = absurd x
number_ends b n (c ∷ cs) new None x s h = absurd (let e : c ∷ cs ≡ [] = s.0 in cc)
number_ends b n (c ∷ cs) new (Some d) x s h =
    let rest : cs ≡ new = cc in
    ap (λ (y : ℕ). ref_reads (y ∷ cs) (number b n)) x ∙ ref_ends (number b n) n 59 cs (end_step b n h) ∙ ap (λ (y : List ℕ). finds n y) rest

pub number_refused : (b : Base) (n : ℕ) (old : List ℕ) → NextIs 59 old → is_char n ≡ false → ref_reads old (number b n) ≡ stops other old
number_refused b n [] x h = absurd x
number_refused b n (c ∷ cs) x h =
    ap (λ (y : ℕ). ref_reads (y ∷ cs) (number b n)) x ∙ ref_stuck (number b n) 59 cs (no_end_step b n h) ∙ ap (λ (y : ℕ). stops other (y ∷ cs)) (sym x)

below : (a b n : ℕ) → n < a → (nat_le a n && nat_le n b) ≡ false
below a b n h = rw (lt-leb a n h) refl

above : (a b n : ℕ) → b < n → (nat_le a n && nat_le n b) ≡ false
above a b n h = rw (lt-leb n b h) (no_second (nat_le a n)) where
  no_second : (x : Bool) → (x && false) ≡ false
  no_second true = refl
  no_second false = refl

-- what is read of a reference that is read the same from elsewhere
pub result_from : (e e' : RefEnd) (new : List ℕ) (r : Result ℕ code.Stop) → e ≡ e' → MatchResult r (λ c. e' ≡ finds c new) (λ why. e' ≡ stops (stop_of why) new) → MatchResult r (λ c. e ≡ finds c new) (λ why. e ≡ stops (stop_of why) new)
result_from e e' new (Ok c) same m = same ∙ m
result_from e e' new (Err why) same m = same ∙ m

-- the first characters

pub hash_next : (old new : List ℕ) → old ≡ 35 ∷ new → ref_reads old ampersand ≡ ref_reads new hash
hash_next old new e = ap (λ (x : List ℕ). ref_reads x ampersand) e ∙ ref_on ampersand hash 35 new refl

pub hash_x_next : (old new : List ℕ) → old ≡ 120 ∷ new → ref_reads old hash ≡ ref_reads new hash_x
hash_x_next old new e = ap (λ (x : List ℕ). ref_reads x hash) e ∙ ref_on hash hash_x 120 new refl

pub begins_a : (old new : List ℕ) → old ≡ 97 ∷ new → ref_reads old ampersand ≡ ref_reads new letter_a
begins_a old new e = ap (λ (x : List ℕ). ref_reads x ampersand) e ∙ ref_on ampersand letter_a 97 new refl

no_entity_step : (c : ℕ) → (c ≡ 35 → ⊥) → (c ≡ 97 → ⊥) → (c ≡ 108 → ⊥) → (c ≡ 103 → ⊥) → (c ≡ 113 → ⊥) → ref_step ampersand c ≡ fails
no_entity_step c n a l g q = rw (ne_eqb c 35 n, ne_eqb c 97 a, ne_eqb c 108 l, ne_eqb c 103 g, ne_eqb c 113 q) refl

first_why_is : (c : ℕ) (cs : List ℕ) → stop_in_ref ampersand c ≡ stop_by starts_name (c ∷ cs)
first_why_is c cs = refl

pub no_entity : (old : List ℕ) (why : Stop) → why ≡ stop_by starts_name old → NotNext 35 old → NotNext 97 old → NotNext 108 old → NotNext 103 old → NotNext 113 old → ref_reads old ampersand ≡ stops why old
no_entity [] why w n a l g q = ap (λ (x : Stop). stops x []) (sym w)
no_entity (c ∷ cs) why w n a l g q =
    ref_stuck ampersand c cs (no_entity_step c (λ s. n (sym s)) (λ s. a (sym s)) (λ s. l (sym s)) (λ s. g (sym s)) (λ s. q (sym s))) ∙ ap (λ (x : Stop). stops x (c ∷ cs)) (sym w)

no_letter_step : (c : ℕ) → (c ≡ 109 → ⊥) → (c ≡ 112 → ⊥) → ref_step letter_a c ≡ fails
no_letter_step c m p = rw (ne_eqb c 109 m, ne_eqb c 112 p) refl

entity_why : (c : ℕ) (cs : List ℕ) → stop_in_entity c ≡ stop_by is_in_entity (c ∷ cs)
unfolding is_in_entity
entity_why c cs = refl

pub no_letter : (old : List ℕ) (why : Stop) → why ≡ stop_by is_in_entity old → NotNext 109 old → NotNext 112 old → ref_reads old letter_a ≡ stops why old
no_letter [] why w m p = ap (λ (x : Stop). stops x []) (sym w)
no_letter (c ∷ cs) why w m p =
    ref_stuck letter_a c cs (no_letter_step c (λ s. m (sym s)) (λ s. p (sym s))) ∙ ap (λ (x : Stop). stops x (c ∷ cs)) (entity_why c cs ∙ sym w)

-- the rest of a name

same_spelling : (d e v : ℕ) (left : List ℕ) → ref_step (spelling (d ∷ e ∷ left) v) d ≡ on (spelling (e ∷ left) v)
same_spelling d e v left = rw (eq-eqb d d refl) refl

last_spelling : (d v : ℕ) → ref_step (spelling (d ∷ []) v) d ≡ stands_for v
last_spelling d v = rw (eq-eqb d d refl) refl

other_spelling : (c d v : ℕ) (left : List ℕ) → (c ≡ d → ⊥) → ref_step (spelling (d ∷ left) v) c ≡ fails
other_spelling c d v [] n = rw (ne_eqb c d n) refl
other_spelling c d v (e ∷ left) n = rw (ne_eqb c d n) refl

spells : (d v : ℕ) (left rest : List ℕ) → ref_reads (d ∷ (left ++ rest)) (spelling (d ∷ left) v) ≡ finds v rest
spells d v [] rest = ref_ends (spelling (d ∷ []) v) v d rest (last_spelling d v)
spells d v (e ∷ left) rest = ref_on (spelling (d ∷ e ∷ left) v) (spelling (e ∷ left) v) d (e ∷ (left ++ rest)) (same_spelling d e v left) ∙ spells e v left rest

pub spelled_whole : (whole old new : List ℕ) (v : ℕ) → 0 < length whole → old ≡ whole ++ new → ref_reads old (spelling whole v) ≡ finds v new
spelled_whole [] old new v h e = absurd (omega arith)
spelled_whole (d ∷ left) old new v h e = ap (λ (x : List ℕ). ref_reads x (spelling (d ∷ left) v)) e ∙ spells d v left new

differs : (read : List ℕ) (d v : ℕ) (more rest : List ℕ) (why : Stop) → why ≡ stop_by is_in_entity rest → NotNext d rest → ref_reads (read ++ rest) (spelling (read ++ d ∷ more) v) ≡ stops why rest
differs [] d v more [] why w n = ap (λ (x : Stop). stops x []) (sym w)
differs [] d v more (c ∷ cs) why w n =
    ref_stuck (spelling (d ∷ more) v) c cs (other_spelling c d v more (λ s. n (sym s))) ∙ ap (λ (x : Stop). stops x (c ∷ cs)) (entity_why c cs ∙ sym w)
differs (e ∷ []) d v more rest why w n = ref_on (spelling (e ∷ d ∷ more) v) (spelling (d ∷ more) v) e rest (same_spelling e d v more) ∙ differs [] d v more rest why w n
differs (e ∷ f ∷ read) d v more rest why w n =
    ref_on (spelling (e ∷ f ∷ (read ++ d ∷ more)) v) (spelling (f ∷ (read ++ d ∷ more)) v) e (f ∷ (read ++ rest)) (same_spelling e f v (read ++ d ∷ more)) ∙ differs (f ∷ read) d v more rest why w n

pub spelled_not : (whole old new : List ℕ) (v : ℕ) (why : Stop) → DiffersAt whole old new → why ≡ stop_by is_in_entity new → ref_reads old (spelling whole v) ≡ stops why new
spelled_not whole old new v why d w =
    ap (λ (x : List ℕ). ref_reads x (spelling whole v)) d.is_old ∙ ap (λ (x : List ℕ). ref_reads (d.read ++ new) (spelling x v)) d.is_whole ∙ differs d.read d.next v d.more new why w d.not_next

-- the rests of the names, as they stand in the code

pub rest_t : chars (codes "t;") ≡ 116 ∷ 59 ∷ []
unfolding chars
rest_t = refl

pub rest_uot : chars (codes "uot;") ≡ 117 ∷ 111 ∷ 116 ∷ 59 ∷ []
unfolding chars
rest_uot = refl

pub rest_p : chars (codes "p;") ≡ 112 ∷ 59 ∷ []
unfolding chars
rest_p = refl

pub rest_os : chars (codes "os;") ≡ 111 ∷ 115 ∷ 59 ∷ []
unfolding chars
rest_os = refl

pub some_left : (text : List ℕ) (c : ℕ) (left : List ℕ) → text ≡ c ∷ left → 0 < length text
some_left text c left e = let size = ap length e in omega arith

-- the first letter of a name, and the rest of it
pub begins_name : (r : Ref) (d v c : ℕ) (left text old now new : List ℕ) (s : Result ℕ code.Stop) → ref_step r d ≡ on (spelling (c ∷ left) v) → text ≡ c ∷ left → now ≡ old → now ≡ d ∷ new → (last : List ℕ)
    → MatchResult s (λ x. ref_reads new (spelling text v) ≡ finds x last) (λ why. ref_reads new (spelling text v) ≡ stops (stop_of why) last) → MatchResult s (λ x. ref_reads old r ≡ finds x last) (λ why. ref_reads old r ≡ stops (stop_of why) last)
begins_name r d v c left text old now new s st t o e last m =
    result_from (ref_reads old r) (ref_reads new (spelling text v)) last s (ap (λ (x : List ℕ). ref_reads x r) (sym o ∙ e) ∙ ref_on r (spelling (c ∷ left) v) d new st ∙ ap (λ (x : List ℕ). ref_reads new (spelling x v)) (sym t)) m

-- where no first letter is taken
pub entity_stops : (old a b c d : List ℕ) (why : Stop) → NotNext 35 old → (a ≡ old) × NotNext 97 old → (b ≡ a) × NotNext 108 a → (c ≡ b) × NotNext 103 b → (d ≡ c) × NotNext 113 c → why ≡ stop_by starts_name d → ref_reads old ampersand ≡ stops why d
entity_stops old a b c d why n p q r s w =
    let b_old : b ≡ old = q.0 ∙ p.0 in
    let c_old : c ≡ old = r.0 ∙ b_old in
    let d_old : d ≡ old = s.0 ∙ c_old in
    rw d_old (no_entity old why (rw d_old at w) n p.1 (rw p.0 at q.1) (rw b_old at r.1) (rw c_old at s.1))

pub letter_stops : (old a b : List ℕ) (why : Stop) → (a ≡ old) × NotNext 109 old → (b ≡ a) × NotNext 112 a → why ≡ stop_by is_in_entity b → ref_reads old letter_a ≡ stops why b
letter_stops old a b why p q w =
    let b_old : b ≡ old = q.0 ∙ p.0 in
    rw b_old (no_letter old why (rw b_old at w) p.1 (rw p.0 at q.1))
