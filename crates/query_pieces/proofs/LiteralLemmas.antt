-- What a literal says, as far as it was read.
use Rattle.std.proofs.Common.{◌≡◌, ◌≤◌, ◌<◌, ℕ, List, [], ◌∷◌, ◌++◌, length, Bool, true, false}
use Rattle.std.proofs.Common.{◌==◌, Option, Some, None, MatchOption, OnSome, refl, sym, ap, ◌∙◌}
use Rattle.std.proofs.Common.{append_assoc, append-nil, arith}
use Rattle.std.proofs.lemmas.Bool.{eqb-true, false_from_ne_true}
use Rattle.query_pieces.specs.Fronts.{run_of, rest_of, eaten}
use Rattle.query_pieces.specs.References.{decimal, hexadecimal, is_digit_of, closed, number_from}
use Rattle.query_pieces.specs.References.{reference_from, reference_at}
use Rattle.query_pieces.specs.Literals.{is_said, Says, over, itself, reference, line, return}
use Rattle.query_pieces.specs.Literals.{Turns}
use Rattle.query_pieces.specs.Elements.{line_end}
use Rattle.xt_names.specs.Characters.{is_name_char}
use Rattle.xt_names.proofs.BoolLemmas.{no, either}

-- what is still to be read completes the whole, and only so
pub record Keeps (whole made now : List ℕ) : Type 0 where
  pub on : (xs : List ℕ) → Says now xs → Says whole (made ++ xs)
  pub back : (xs : List ℕ) → Says whole xs → (ys : List ℕ) × Says now ys

pub keeps_start : (whole : List ℕ) → Keeps whole [] whole
keeps_start whole = record { on = λ xs s. s; back = λ xs s. (xs, s) }

run_on : (now xs : List ℕ) → Says (rest_of is_said now) xs → Says now (run_of is_said now ++ xs)
run_on [] xs s = s
run_on (c ∷ ts) xs s =
    either (is_said c) (λ h. rw h (itself h (run_on ts xs (rw h at s)))) (λ h. rw h (rw h at s))

behind_first : (c : ℕ) (ts xs : List ℕ) → is_said c ≡ true → Says (c ∷ ts) xs
    → (ys : List ℕ) × Says ts ys
unfolding is_said
behind_first c ts _ h (itself {said = ys} e s) = (ys, s)
behind_first _ ts _ h (reference e s) = cc
behind_first _ _ _ h (line s) = cc
behind_first _ ts _ h (return n s) = cc

run_back : (now xs : List ℕ) → Says now xs → (ys : List ℕ) × Says (rest_of is_said now) ys
run_back [] xs s = (xs, s)
run_back (c ∷ ts) xs s =
    either (is_said c) (λ h. (let more = behind_first c ts xs h s in rw h
    (run_back ts more.0 more.1))) (λ h. rw h (xs, s))

pub keeps_run : (whole made more now run left : List ℕ) → Keeps whole made now
    → run ≡ run_of is_said now → left ≡ rest_of is_said now → more ≡ made ++ run
    → Keeps whole more left
keeps_run whole made more now run left k r l m = rw (m, r, l) (record {
  on = λ xs s. rw append_assoc (k.on (run_of is_said now ++ xs) (run_on now xs s));
  back = λ xs s. (let b = k.back xs s in run_back now b.0 b.1);
})

pub keeps_turned : (whole made more now left : List ℕ) (c : ℕ) → Keeps whole made now
    → Turns now c left → more ≡ made ++ c ∷ [] → Keeps whole more left
keeps_turned whole made more now left c k t m = rw m (record {
  on = λ xs s. rw append_assoc (k.on (c ∷ xs) (t.on xs s));
  back = λ xs s. (let b = k.back xs s in t.back b.0 b.1);
})

pub keeps_over : (whole made now : List ℕ) → Keeps whole made now → now ≡ [] → Says whole made
keeps_over whole made now k e = let all = k.on [] (rw e over) in rw append-nil at all

pub keeps_none : (whole made now : List ℕ) → Keeps whole made now → ((said : List ℕ)
    → Says now said → ⊥) → (said : List ℕ) → Says whole said → ⊥
keeps_none whole made now k n said s = let b = k.back said s in n b.0 b.1

-- what comes after a run is of another class
pub rest_first : (p : ℕ → Bool) (old ts : List ℕ) (c : ℕ) → c ∷ ts ≡ rest_of p old → p c ≡ false
rest_first p [] ts c e = cc
rest_first p (d ∷ ds) ts c e =
    either (p d) (λ h. rest_first p ds ts c (rw h at e))
    (λ h. (let same : c ∷ ts ≡ d ∷ ds = rw h at e in let first : c ≡ d = cc in rw first h))

pub rest_length : (p : ℕ → Bool) (old : List ℕ) → length (rest_of p old) ≤ length old
rest_length p [] = omega arith
rest_length p (c ∷ ts) =
    let more = rest_length p ts in either (p c) (λ h. rw h (omega (arith, more))) (λ h. rw h
    (omega arith))

-- references

abbrev behind_one : Option (ℕ × List ℕ) → List ℕ
behind_one None = []
behind_one (Some r) = r.1

back_reference : (ts rest : List ℕ) (c : ℕ) → reference_at ts ≡ Some (c, rest) → (xs : List ℕ)
    → Says (38 ∷ ts) xs → (ys : List ℕ) × Says rest ys
unfolding is_said
back_reference ts rest c e _ (itself h s) = cc
back_reference ts rest c e _ (reference {c = d} {rest = other} {said = ys} f s) =
    let one : rest ≡ other = ap behind_one (sym e ∙ f) in (ys, rw one s)

pub turns_reference : (ts rest : List ℕ) (c : ℕ) → reference_at ts ≡ Some (c, rest)
    → Turns (38 ∷ ts) c rest
turns_reference ts rest c e = record {
  on = λ xs s. reference e s;
  back = back_reference ts rest c
      e;
}

pub wrong_reference : (ts : List ℕ) → reference_at ts ≡ None → (xs : List ℕ) → Says (38 ∷ ts) xs
    → ⊥
unfolding is_said
wrong_reference ts e _ (itself h s) = cc
wrong_reference ts e _ (reference f s) = cc

-- line ends

back_line : (ts : List ℕ) (xs : List ℕ) → Says (13 ∷ ts) xs
    → (ys : List ℕ) × Says (line_end 13 ts) ys
unfolding is_said
back_line ts _ (itself h s) = cc
back_line _ _ (line {said = ys} s) = (ys, s)
back_line [] _ (return {said = ys} n s) = (ys, s)
back_line (d ∷ ds) _ (return {said = ys} n s) =
    either (d == 10) (λ h. absurd (n ds (ap (λ x. x ∷ ds) (eqb-true d 10 h)))) (λ h. (ys, rw h s))

on_line : (ts : List ℕ) (xs : List ℕ) → Says (line_end 13 ts) xs → Says (13 ∷ ts) (10 ∷ xs)
on_line [] xs s = return (λ more e. cc) s
on_line (d ∷ ds) xs s =
    either (d == 10) (λ h. rw (eqb-true d 10 h) (line (rw h at s)))
    (λ h. return (λ (more : List ℕ) (e : d ∷ ds ≡ 10 ∷ more). (let same : d ≡ 10 = cc in no
    (rw same refl) h)) (rw h at s))

pub turns_line : (ts : List ℕ) → Turns (13 ∷ ts) 10 (line_end 13 ts)
turns_line ts = record { on = on_line ts; back = back_line ts }

-- what stands for itself not is one of the two
pub is_return : (c : ℕ) → is_said c ≡ false → (c ≡ 38 → ⊥) → c ≡ 13
unfolding is_said
is_return c h n =
    either (c == 13) (λ e. eqb-true c 13 e)
    (λ e. no (rw (false_from_ne_true (c == 38) (λ f. n (eqb-true c 38 f)), e) refl) h)

-- how much is left

pub eaten_length : (c : ℕ) (ts rest : List ℕ) → eaten c ts ≡ Some rest → length rest ≤ length ts
eaten_length c [] rest e = cc
eaten_length c (d ∷ ds) rest e =
    either (d == c) (λ h. (let same : Some ds ≡ Some rest = rw h at e in let one : ds ≡ rest = cc
    in omega (arith, ap length one)))
    (λ h. (let none : None ≡ Some rest = rw h at e in cc))

pub line_length : (c : ℕ) (ts : List ℕ) → length (line_end c ts) ≤ length ts
line_length c [] = either (c == 13) (λ h. rw h (omega arith)) (λ h. rw h (omega arith))
line_length c (d ∷ ds) =
    either (c == 13) (λ h. either (d == 10) (λ g. rw (h, g) (omega arith)) (λ g. rw (h, g)
    (omega arith))) (λ h. rw h (omega arith))

closed_length : (o : Option ℕ) (ts rest left : List ℕ) (c : ℕ) → length rest ≤ length ts
    → closed o (eaten 59 rest) ≡ Some (c, left) → length left ≤ length ts
closed_length None ts rest left c h e = cc
closed_length (Some d) ts [] left c h e = cc
closed_length (Some d) ts (x ∷ xs) left c h e =
    either (x == 59) (λ g. (let one : xs ≡ left = ap behind_one (rw g at e) in omega
    (arith, ap length one, h)))
    (λ g. (let none : None ≡ Some (c, left) = rw g at e in cc))

reference_from_length : (o : Option (List ℕ)) (ts left : List ℕ) (c : ℕ) → ((more : List ℕ)
    → o ≡ Some more → length more ≤ length ts) → reference_from o ts ≡ Some (c, left)
    → length left ≤ length ts
reference_from_length None ts left c f e = closed_length _ ts (rest_of is_name_char ts) left c
    (rest_length is_name_char ts) e
reference_from_length (Some more) ts left c f e = number_length (eaten 120 more) more left c
    (λ x g. eaten_length 120 more x g) e (f more refl) where
      number_length : (o : Option (List ℕ)) (more left : List ℕ) (c : ℕ)
          → ((x : List ℕ) → o ≡ Some x
          → length x ≤ length more) → number_from o more ≡ Some (c, left) → length more ≤ length ts
          → length left ≤ length ts
      number_length None more left c g e h = let fits = rest_length
          (is_digit_of decimal) more in
          closed_length _ ts (rest_of (is_digit_of decimal) more) left c
          (omega (arith, h, fits)) e
      number_length (Some x) more left c g e h =
          let fits = rest_length (is_digit_of hexadecimal) x in
          let inside = g x refl in closed_length _ ts (rest_of (is_digit_of hexadecimal) x) left c
          (omega (arith, h, fits, inside)) e

pub reference_length : (ts left : List ℕ) (c : ℕ) → reference_at ts ≡ Some (c, left)
    → length left ≤ length ts
reference_length ts left c e = reference_from_length (eaten 35 ts) ts left c
    (λ more g. eaten_length 35 ts more g) e

pub turned : (r : Option ℕ) (c : ℕ) (old new : List ℕ) → c ≡ 38
    → MatchOption r (reference_at old ≡ None) (λ v. reference_at old ≡ Some (v, new))
    → MatchOption r ((said : List ℕ) → Says (c ∷ old) said → ⊥) (λ v. Turns (c ∷ old) v new)
turned None c old new e m = rw e (wrong_reference old m)
turned (Some v) c old new e m = rw e (turns_reference old new v m)

pub turned_length : (r : Option ℕ) (old new : List ℕ)
    → MatchOption r (reference_at old ≡ None) (λ v. reference_at old ≡ Some (v, new))
    → OnSome r (length new ≤ length old)
turned_length None old new m = tt
turned_length (Some v) old new m = reference_length old new v m

pub keeps_step : (whole made more most now run left next rest : List ℕ) (c v : ℕ)
    → Keeps whole made now → run ≡ run_of is_said now → left ≡ rest_of is_said now
    → more ≡ made ++ run → left ≡ c ∷ next → Turns (c ∷ next) v rest → most ≡ more ++ v ∷ []
    → Keeps whole most rest
keeps_step whole made more most now run left next rest c v k r l m e t p =
    let ran = keeps_run whole made more now run left k r l m in
    let same : Keeps whole more (c ∷ next) = rw e at ran in
    keeps_turned whole more most (c ∷ next) rest v same t p

pub left_none : (whole made more now run left next : List ℕ) (c : ℕ) → Keeps whole made now
    → run ≡ run_of is_said now → left ≡ rest_of is_said now → more ≡ made ++ run
    → left ≡ c ∷ next → ((said : List ℕ) → Says (c ∷ next) said → ⊥) → (said : List ℕ)
    → Says whole said → ⊥
left_none whole made more now run left next c k r l m e n =
    let ran = keeps_run whole made more now run left k r l m in
    let same : Keeps whole more (c ∷ next) = rw e at ran in keeps_none whole more (c ∷ next) same n

pub falls : (now left next rest : List ℕ) (c : ℕ) → left ≡ rest_of is_said now → left ≡ c ∷ next
    → length rest ≤ length next → length rest < length now
falls now left next rest c l e h =
    let fits = rest_length is_said now in
    let a = ap length l in
    let b = ap length e in omega (arith, fits, a, b, h)
