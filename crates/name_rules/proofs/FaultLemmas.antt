-- The first of several broken rules.
use Rattle.std.proofs.Common.{◌≡◌, List, [], ◌∷◌, ◌++◌, Option, Some, None, refl}
use Rattle.xt_names.specs.declared.codes.Code.{Code}
use Rattle.name_rules.specs.Faults.{first, earlier}

pub first_of_none : first [] ≡ None
unfolding first
first_of_none = refl

pub first_of_two : (xs ys : List Code) → first (xs ++ ys) ≡ earlier (first xs) (first ys)
unfolding first earlier
first_of_two [] ys = refl
first_of_two (x ∷ xs) ys = refl

pub earlier_at_end : (fault : Option Code) → earlier fault None ≡ fault
unfolding earlier
earlier_at_end None = refl
earlier_at_end (Some c) = refl

-- one more list is looked at
pub earlier_of_more : (fault : Option Code) (xs ys : List Code) → earlier (earlier fault (first xs)) (first ys) ≡ earlier fault (first (xs ++ ys))
unfolding first earlier
earlier_of_more None [] ys = refl
earlier_of_more None (x ∷ xs) ys = refl
earlier_of_more (Some c) xs ys = refl
