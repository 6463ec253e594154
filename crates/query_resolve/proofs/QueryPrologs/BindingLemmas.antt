-- Bindings after others.
use Rattle.std.proofs.Common.{◌≡◌, List, [], ◌∷◌, ◌++◌, refl, append_assoc}
use Rattle.xt_names.specs.declared.names.Binding.{Binding}

one_more : (bs cs : List Binding) (b : Binding) → (bs ++ cs) ++ b ∷ [] ≡ bs ++ (cs ++ b ∷ [])
one_more bs cs b = append_assoc bs cs (b ∷ [])

pub five_more : (bs a b c d : List Binding) (p q r s t : Binding) → a ≡ bs ++ p ∷ []
    → b ≡ a ++ q ∷ [] → c ≡ b ++ r ∷ [] → d ≡ c ++ s ∷ []
    → d ++ t ∷ [] ≡ bs ++ (p ∷ q ∷ r ∷ s ∷ t ∷ [])
five_more bs a b c d p q r s t e f g h =
    rw (
      h,
      g,
      f,
      e,
      one_more bs (p ∷ []) q,
      one_more bs (p ∷ q ∷ []) r,
      one_more bs (p ∷ q ∷ r ∷ []) s,
      one_more bs (p ∷ q ∷ r ∷ s ∷ []) t,
    ) refl
