-- A run of characters is written once, or twice where it is one character that is doubled.
use Rattle.std.proofs.Common.{◌≡◌, ℕ, List, [], ◌∷◌, ◌++◌, Bool, true, false, ◌||◌, ◌&&◌, ◌==◌}
use Rattle.std.proofs.Common.{refl, sym, ◌∙◌}
use Rattle.query_pieces.specs.declared.contexts.Context.{Context}
use Rattle.query_pieces.specs.declared.contexts.Context.TheVariants.{Attribute as attribute}
use Rattle.query_pages.specs.TokenTexts.Spellings.{is_doubled, run_text}
use Rattle.query_pages.specs.TokenWriter.Doubles.{is_doubled_alone, is_quote}

either_of : (a b d : Bool) → (((a && true) || (b && true)) || (d && true)) ≡ (d || (a || b))
either_of true true true = refl
either_of true true false = refl
either_of true false true = refl
either_of true false false = refl
either_of false true true = refl
either_of false true false = refl
either_of false false true = refl
either_of false false false = refl

one_of_two : (a b : Bool) → (((a && true) || (b && true)) || false) ≡ (a || b)
one_of_two true b = refl
one_of_two false true = refl
one_of_two false false = refl

doubled_one : (x : Context) (c : ℕ) → is_doubled_alone x (c ∷ []) ≡ is_doubled x c
doubled_one (attribute q) c = either_of (c == 123) (c == 125) (c == 34)
doubled_one _ c = one_of_two (c == 123) (c == 125)

none_of : (a b d : Bool) → (((a && false) || (b && false)) || (d && false)) ≡ false
none_of true true true = refl
none_of true true false = refl
none_of true false true = refl
none_of true false false = refl
none_of false true true = refl
none_of false true false = refl
none_of false false true = refl
none_of false false false = refl

none_of_two : (a b : Bool) → (((a && false) || (b && false)) || false) ≡ false
none_of_two true true = refl
none_of_two true false = refl
none_of_two false true = refl
none_of_two false false = refl

not_alone : (x : Context) (c d : ℕ) (cs : List ℕ) → is_doubled_alone x (c ∷ d ∷ cs) ≡ false
not_alone (attribute q) c d cs = none_of (c == 123) (c == 125) (c == 34)
not_alone _ c d cs = none_of_two (c == 123) (c == 125)

nothing_alone : (x : Context) → is_doubled_alone x [] ≡ false
nothing_alone (attribute q) = refl
nothing_alone _ = refl

no : {P : Type 0} {b : Bool} → b ≡ true → b ≡ false → P
no {b = true} e f = absurd (cc)
no {b = false} e f = absurd (cc)

pub run_twice : (x : Context) (cs : List ℕ) → is_doubled_alone x cs ≡ true
    → run_text x cs ≡ cs ++ cs
run_twice x [] e = no e (nothing_alone x)
run_twice x (c ∷ []) e = rw (sym (doubled_one x c) ∙ e) refl
run_twice x (c ∷ d ∷ cs) e = no e (not_alone x c d cs)

pub run_once : (x : Context) (cs : List ℕ) → is_doubled_alone x cs ≡ false
    → run_text x cs ≡ cs
run_once x [] e = refl
run_once x (c ∷ []) e = rw (sym (doubled_one x c) ∙ e) refl
run_once x (c ∷ d ∷ cs) e = refl

pub ruleset runs = (run_twice, run_once)
