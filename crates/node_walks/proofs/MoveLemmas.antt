-- What is left of moves.
use Rattle.std.proofs.Common.{◌≡◌, ℕ, zero, suc, ◌+◌, ◌-◌, ◌<◌, List, [], ◌∷◌, ◌++◌, length, Bool, true, false}
use Rattle.std.proofs.Common.{Result, Ok, Err, IfOk, Option, Some, None, is_some, slice_get, refl, sym, ap, ◌∙◌, arith}
use Rattle.xdm_items.specs.declared.items.Item.{Item}
use Rattle.node_walks.specs.Moves.{Moves, given, steps_before, all_steps, settled, standing, passed, has_item, giving}

pub given_settled : (m : Moves) → given (settled m) ≡ given m
given_settled [] = refl
given_settled (None ∷ m) = given_settled m
given_settled (Some x ∷ m) = refl

pub has_standing : (m : Moves) → is_some (standing (settled m)) ≡ has_item (given m)
has_standing [] = refl
has_standing (None ∷ m) = has_standing m
has_standing (Some x ∷ m) = refl

pub no_steps_left : (m : Moves) → steps_before (settled m) ≡ 0
no_steps_left [] = refl
no_steps_left (None ∷ m) = no_steps_left m
no_steps_left (Some x ∷ m) = refl

pub settled_twice : (m : Moves) → settled (settled m) ≡ settled m
settled_twice [] = refl
settled_twice (None ∷ m) = settled_twice m
settled_twice (Some x ∷ m) = refl

pub all_settled : (m : Moves) → all_steps m ≡ steps_before m + all_steps (settled m)
all_settled [] = refl
all_settled (None ∷ m) = let e = all_settled m in omega arith
all_settled (Some x ∷ m) = omega arith

-- what gives the same
pub same_given : (m k : Moves) → settled m ≡ settled k → given m ≡ given k
same_given m k e = sym (given_settled m) ∙ ap given e ∙ given_settled k

pub standing_is_first : (m : Moves) → standing (settled m) ≡ slice_get (given m) 0
standing_is_first [] = refl
standing_is_first (None ∷ m) = standing_is_first m
standing_is_first (Some x ∷ m) = refl

pub no_item : (m : Moves) → has_item (given m) ≡ false → settled m ≡ []
no_item [] h = refl
no_item (None ∷ m) h = no_item m h
no_item (Some x ∷ m) h = absurd cc

-- the item is taken
pub taken : (m : Moves) → settled m ≡ giving (standing (settled m)) ++ passed (settled m)
taken [] = refl
taken (None ∷ m) = taken m
taken (Some x ∷ m) = refl

pub all_passed : (m : Moves) → all_steps (passed (settled m)) ≡ all_steps (settled m)
all_passed [] = refl
all_passed (None ∷ m) = all_passed m
all_passed (Some x ∷ m) = refl

pub one_less : (m : Moves) → has_item (given m) ≡ true → length (given m) ≡ length (given (passed (settled m))) + 1
one_less [] h = absurd cc
one_less (None ∷ m) h = one_less m h
one_less (Some x ∷ m) h = omega arith

pub none_then : (m : Moves) → has_item (given m) ≡ false → length (given m) ≡ 0
none_then [] h = refl
none_then (None ∷ m) h = none_then m h
none_then (Some x ∷ m) h = absurd cc

pub beyond : (m : Moves) (i : ℕ) → has_item (given m) ≡ false → slice_get (given m) i ≡ None
beyond [] i h = refl
beyond (None ∷ m) i h = beyond m i h
beyond (Some x ∷ m) i h = absurd cc

by_suc : (x : Item) (xs : List Item) (j i : ℕ) → i ≡ suc j → slice_get xs j ≡ slice_get (x ∷ xs) i
by_suc x xs j i e = rw e refl

pub one_on : (m : Moves) (i : ℕ) → 0 < i → has_item (given m) ≡ true → slice_get (given (passed (settled m))) (i - 1) ≡ slice_get (given m) i
one_on [] i l h = absurd cc
one_on (None ∷ m) i l h = one_on m i l h
one_on (Some x ∷ m) i l h = by_suc x (given m) (i - 1) i (omega arith)

-- a walk that has gone to its first item
pub had : (m k : Moves) (b : Bool) → k ≡ settled m → b ≡ is_some (standing k) → b ≡ has_item (given m)
had m k b e f = f ∙ ap (λ (z : Moves). is_some (standing z)) e ∙ has_standing m

pub all_on : (m k : Moves) (a b : ℕ) → settled k ≡ settled m → b + steps_before k ≡ a + steps_before m → b + all_steps k ≡ a + all_steps m
all_on m k a b e f = let g = all_settled m in let h = all_settled k in let i = ap all_steps e in omega arith

pub some_if_ok : {E : Type 0} (r : Result Bool E) (m n k : Moves) → n ≡ m → IfOk r (λ b. k ≡ settled n) → IfOk r (λ b. b ≡ is_some (standing k)) → IfOk r (λ b. b ≡ has_item (given m))
some_if_ok (Ok b) m n k e f g = had m k b (f ∙ ap settled e) g
some_if_ok (Err x) m n k e f g = tt
