-- Prefixes that are looked up by a table.
use Rattle.std.proofs.Common.{◌≡◌, ℕ, ◌+◌, ◌<◌, List, length, get_or, take, Bool, true, false, cond, ◌||◌, refl, ◌∙◌, arith}
use Rattle.std.proofs.lemmas.List.Folds.{list_any_more}
use Rattle.std.specs.List.{list_any}
use Rattle.std.specs.Str.{bytes_eq}
use Rattle.doc_writer.specs.Used.{AreKnown}

or_last : (a here : Bool) → cond here true a ≡ (a || here)
or_last true true = refl
or_last true false = refl
or_last false true = refl
or_last false false = refl

pub known_more : (prefixes : List (List ℕ)) (known known' : List ℕ → Bool) (count : ℕ) (d : List ℕ) → AreKnown prefixes known count → count < length prefixes → d ≡ get_or prefixes count d
    → ((p : List ℕ) → known' p ≡ cond (bytes_eq d p) true (known p)) → AreKnown prefixes known' (count + 1)
known_more prefixes known known' count d k h at more = record {
  within = omega arith;
  table = λ p. more p ∙ rw (k.table p, list_any_more (λ x. bytes_eq x p) prefixes count d h, ← at) (or_last (list_any (λ x. bytes_eq x p) (take count prefixes)) (bytes_eq d p));
}

pub known_same : (prefixes : List (List ℕ)) (known known' : List ℕ → Bool) (count : ℕ) → AreKnown prefixes known count → ((p : List ℕ) → known' p ≡ known p) → AreKnown prefixes known' count
known_same prefixes known known' count k same = record { within = k.within; table = λ p. same p ∙ k.table p }
