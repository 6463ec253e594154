-- The empty uri and the empty prefix are one text.
use Rattle.std.proofs.Common.{◌≡◌, ℕ, List, [], ◌∷◌, true, refl}
use Rattle.xt_names.specs.Allowed.{is_empty_text}

pub empty_text : (t : List ℕ) → is_empty_text t ≡ true → t ≡ []
unfolding is_empty_text
empty_text [] e = refl
empty_text (c ∷ cs) e = absurd (cc)
