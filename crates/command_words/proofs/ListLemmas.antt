-- Lists, item by item.
use Rattle.std.proofs.Common.{◌≡◌, List, [], ◌∷◌, length, get_or, drop, take}
use Rattle.std.proofs.Common.{map, refl, ◌-◌, ◌≤◌, arith}
use Rattle.std.proofs.Math.Seq.{take-length}

-- the first item, and those after it
pub first_mapped : {A B : Type 0} (f : A → B) (xs : List A) (x : A) (y : B) → 1 ≤ length xs
    → x ≡ get_or xs 0 x → y ≡ f x
    → map f xs ≡ y ∷ map f (take (length xs - 1) (drop 1 xs))
first_mapped f [] x y h e k = absurd (omega (arith, h))
first_mapped f (z ∷ zs) x y h e k =
    let n : length (z ∷ zs) - 1 ≡ length zs = omega arith in
    rw (n, take-length zs, k, e) refl
