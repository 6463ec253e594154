-- Predicates along moves.
use Rattle.std.proofs.Common.{◌≡◌, ℕ, ◌+◌, List, [], ◌∷◌, Bool, true, false, Option, Some, None, is_some, if◌then◌else◌}
use Rattle.std.proofs.Common.{refl, sym, ap, ◌∙◌, arith, length, ◌≤◌, Result, Ok, Err}
use Rattle.std.specs.Result.{OnErr}
use Rattle.std.specs.declared.alloc.AllocError.{AllocError}
use Rattle.xt_syntax.specs.declared.exprs.Expr.{Expr}
use Rattle.quiet_eval.specs.QuietMeaning.Paths.{keeps}
use Rattle.node_axes.specs.StepWalks.Nodes.{Focus}
use Rattle.xdm_items.specs.declared.items.Item.{Item}
use Rattle.node_walks.specs.Moves.{Moves, steps_before, settled, standing, passed}
use Rattle.node_walks.specs.Quiet.{IsFound, IsOn, Judged}
use Rattle.node_walks.proofs.MoveLemmas.{no_steps_left}
use Rattle.node_walks.specs.Sift.{is_kept, after, sifted_moves, kept_moves, quiet_moves}

pub sift_settled : (t : List (Focus → Bool)) (s : List ℕ) (m : Moves) → settled (sifted_moves t s m) ≡ settled (sifted_moves t s (settled m))
sift_settled t s [] = refl
sift_settled t s (None ∷ m) = sift_settled t s m
sift_settled t s (Some x ∷ m) = refl

pub sift_steps : (t : List (Focus → Bool)) (s : List ℕ) (m : Moves) → steps_before (sifted_moves t s m) ≡ steps_before m + steps_before (sifted_moves t s (settled m))
sift_steps t s [] = refl
sift_steps t s (None ∷ m) = let e = sift_steps t s m in omega arith
sift_steps t s (Some x ∷ m) = omega arith

-- an item is judged
pub sift_keeps : (t : List (Focus → Bool)) (s : List ℕ) (x : Item) (m : Moves) → standing m ≡ Some x → is_kept t s x ≡ true → quiet_moves true t (after t s x) m ≡ sifted_moves t s m
unfolding quiet_moves
sift_keeps t s x [] e h = absurd cc
sift_keeps t s x (None ∷ m) e h = absurd cc
sift_keeps t s x (Some y ∷ m) e h = let same : y ≡ x = cc in rw (same, h) refl

pub sift_drops : (t : List (Focus → Bool)) (s : List ℕ) (x : Item) (m : Moves) → standing m ≡ Some x → is_kept t s x ≡ false → sifted_moves t (after t s x) (passed m) ≡ sifted_moves t s m
unfolding quiet_moves
sift_drops t s x [] e h = absurd cc
sift_drops t s x (None ∷ m) e h = absurd cc
sift_drops t s x (Some y ∷ m) e h = let same : y ≡ x = cc in rw (same, h) refl

-- where the first item is known to be kept
pub kept_first : (t : List (Focus → Bool)) (s : List ℕ) (m : Moves) → is_some (standing m) ≡ true
    → (quiet_moves true t s m ≡ settled (quiet_moves true t s m)) × (standing (quiet_moves true t s m) ≡ standing m) × (steps_before (quiet_moves true t s m) ≡ 0)
unfolding quiet_moves
kept_first t s [] h = absurd cc
kept_first t s (None ∷ m) h = absurd cc
kept_first t s (Some x ∷ m) h = (refl, refl, refl)

pub kept_passed : (t : List (Focus → Bool)) (s : List ℕ) (m : Moves) → is_some (standing m) ≡ true → sifted_moves t s (passed m) ≡ passed (quiet_moves true t s m)
unfolding quiet_moves
kept_passed t s [] h = absurd cc
kept_passed t s (None ∷ m) h = absurd cc
kept_passed t s (Some x ∷ m) h = refl

-- the walk along the axis goes to its first item
pub on_settle : (t : List (Focus → Bool)) (s : List ℕ) (m k : Moves) (a b : ℕ) → k ≡ settled m → b + steps_before k ≡ a + steps_before m → IsOn a b (sifted_moves t s m) (sifted_moves t s k)
on_settle t s m k a b e f =
    let g = sift_steps t s m in
    let h = ap steps_before e ∙ no_steps_left m in
    let i = ap (λ (z : Moves). steps_before (sifted_moves t s z)) e in
    record { rest = ap (λ (z : Moves). settled (sifted_moves t s z)) e ∙ sym (sift_settled t s m); steps = omega arith }

pub on_from : (a b : ℕ) (m k l : Moves) → l ≡ k → IsOn a b m k → IsOn a b m l
on_from a b m k l e o = record { rest = ap settled e ∙ o.rest; steps = ap (λ (z : Moves). b + steps_before z) e ∙ o.steps }

-- one stretch after another
pub on_then : (a b c : ℕ) (m k l : Moves) → IsOn a b m k → IsOn b c k l → IsOn a c m l
on_then a b c m k l o p = let e = o.steps in let f = p.steps in record { rest = p.rest ∙ o.rest; steps = omega arith }

pub found_from : (a b : ℕ) (m k : Moves) → IsOn a b m k → k ≡ settled k → steps_before k ≡ 0 → IsFound a b m k
found_from a b m k o e z = let f = o.steps in record { rest = e ∙ o.rest; steps = omega arith }

pub nothing_left : (m k : Moves) → k ≡ settled m → is_some (standing k) ≡ false → k ≡ []
nothing_left [] k e h = e
nothing_left (None ∷ m) k e h = nothing_left m k e h
nothing_left (Some x ∷ m) k e h = let g = sym (ap (λ (z : Moves). is_some (standing z)) e) ∙ h in absurd cc

pub judged_keeps : (kept : Bool) (t : List (Focus → Bool)) (s u : List ℕ) (m : Moves) → Judged kept t s u m → kept ≡ true → quiet_moves true t u m ≡ sifted_moves t s m
judged_keeps kept t s u m j e = ap (λ (z : List ℕ). quiet_moves true t z m) j.counts ∙ sift_keeps t s j.item m j.stands (sym j.keeps ∙ e)

pub judged_drops : (kept : Bool) (t : List (Focus → Bool)) (s u : List ℕ) (m k : Moves) → Judged kept t s u m → kept ≡ false → k ≡ passed m → sifted_moves t u k ≡ sifted_moves t s m
judged_drops kept t s u m k j e f =
    ap (sifted_moves t u) f ∙ ap (λ (z : List ℕ). sifted_moves t z (passed m)) j.counts ∙ sift_drops t s j.item m j.stands (sym j.keeps ∙ e)

pub one_shorter : (m k : Moves) → is_some (standing m) ≡ true → k ≡ passed m → length k + 1 ≡ length m
one_shorter [] k h e = absurd cc
one_shorter (None ∷ m) k h e = absurd cc
one_shorter (Some x ∷ m) k h e = let g = ap length e in omega arith

pub no_longer : (m : Moves) → length (settled m) ≤ length m
no_longer [] = omega arith
no_longer (None ∷ m) = let e = no_longer m in omega arith
no_longer (Some x ∷ m) = omega arith

pub on_err : {T : Type 0} (r : Result T AllocError) (P : Type 0) → P → OnErr r P
on_err (Ok x) P h = tt
on_err (Err e) P h = h

-- a sieve and a walk that stay as they were
pub stays_sifted : (t u : List Expr) (s v : List ℕ) (m k : Moves) → u ≡ t → v ≡ s → k ≡ m → sifted_moves (keeps u) v k ≡ sifted_moves (keeps t) s m
stays_sifted t u s v m k e f h = rw (e, f, h) refl
