-- What is taken from the front of a text.
use Rattle.std.proofs.Common.{◌≡◌, ℕ, List, [], ◌∷◌, ◌++◌, Bool, true, false, ◌==◌, Some, None, MatchBool, refl, sym}
use Rattle.std.proofs.lemmas.Bool.{and_parts, eqb-true, false_from_ne_true}
use Rattle.std.specs.List.{list_all}
use Rattle.query_pieces.specs.Fronts.{run_of, rest_of, eaten}
use Rattle.xt_names.specs.Characters.{Ends, NotNext}
use Rattle.xt_names.proofs.CharacterLemmas.{itself}

-- a character that is eaten, or not
pub eats : (c : ℕ) (old new : List ℕ) (b : Bool)
    → MatchBool b (old ≡ c ∷ new) ((new ≡ old) × NotNext c old)
    → MatchBool b (eaten c old ≡ Some new) ((eaten c old ≡ None) × (new ≡ old))
eats c old new true e = rw (e, itself c) refl
eats c [] new false e = (refl, e.0)
eats c (d ∷ ds) new false e =
    (rw (false_from_ne_true (d == c) (λ h. e.1 (sym (eqb-true d c h)))) refl, e.0)

-- a run and what is left behind it are those of its class
pub run_is : (p : ℕ → Bool) (run rest old : List ℕ) → old ≡ run ++ rest → list_all p run ≡ true
    → Ends p rest → (run ≡ run_of p old) × (rest ≡ rest_of p old)
run_is p [] [] old e a n = rw e (refl, refl)
run_is p [] (x ∷ rest) old e a n = rw (e, n) (refl, refl)
run_is p (x ∷ run) rest old e a n =
    let parts = and_parts (p x) (list_all p run) a in
    let more = run_is p run rest (run ++ rest) refl parts.1 n in
    rw (e, parts.0, ← more.0, ← more.1) (refl, refl)

-- by cases on a test
pub either : {P : Type 0} (b : Bool) → (b ≡ true → P) → (b ≡ false → P) → P
either true f g = f refl
either false f g = g refl
