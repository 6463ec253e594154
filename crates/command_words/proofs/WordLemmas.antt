-- What comes after the front of a word.
use Rattle.std.proofs.Common.{◌≡◌, ℕ, List, [], ◌∷◌, ◌++◌, drop, Bool, true, false, Option}
use Rattle.std.proofs.Common.{Some, None, option_copied, MatchOption, Bor, cond, refl, sym, ap}
use Rattle.std.proofs.Common.{◌∙◌, eqb}
use Rattle.std.proofs.lemmas.Bool.{eqb-true, eq-eqb}
use Rattle.std.specs.Str.Pattern.{FindsTextPrefix, StripsPrefix}
use Rattle.command_words.specs.Words.{behind}
use Rattle.xt_names.proofs.ListLemmas.{some_same}

none_of : {A : Type 0} (o : Option A) → ((x : A) → o ≡ Some x → ⊥) → o ≡ None
none_of None h = refl
none_of (Some x) h = absurd (h x refl)

pub behind_front : (front rest : List ℕ) → behind front (front ++ rest) ≡ Some rest
behind_front [] rest = refl
behind_front (f ∷ front) rest = rw (eq-eqb f f refl) (behind_front front rest)

chosen : (b : Bool) (o : Option (List ℕ)) (rest : List ℕ) → cond b o None ≡ Some rest
    → (b ≡ true) × (o ≡ Some rest)
chosen true o rest e = (refl, e)
chosen false o rest e = absurd cc

pub behind_gives : (front word rest : List ℕ) → behind front word ≡ Some rest
    → word ≡ front ++ rest
behind_gives [] word rest e = some_same e
behind_gives (f ∷ front) [] rest e = absurd cc
behind_gives (f ∷ front) (c ∷ word) rest e =
    let k = chosen (eqb c f) (behind front word) rest e in
    let same : c ≡ f = eqb-true c f k.0 in
    let more : word ≡ front ++ rest = behind_gives front word rest k.1 in cc

-- what the standard library finds
pub strips : (front word : List ℕ) (r : Option (Bor (List ℕ)))
    → MatchOption r (FindsTextPrefix front word None)
    (λ x. StripsPrefix (FindsTextPrefix front) word x.now)
    → option_copied r ≡ behind front word
strips front word None h =
    sym (none_of (behind front word) (λ rest e. h rest (behind_gives front word rest e)))
strips front word (Some x) (n, (same, found, at), rest, total) =
    sym (ap (behind front) found ∙ behind_front front (drop n word) ∙ ap Some (sym rest))
