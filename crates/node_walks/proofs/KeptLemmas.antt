-- What predicates keep of the nodes along an axis, and what a walk gives.
use Rattle.std.proofs.Common.{◌≡◌, ℕ, zero, suc, List, [], ◌∷◌, length, map, Bool, true, false, cond, Some, None}
use Rattle.std.proofs.Common.{if◌then◌else◌, refl, sym, ap, ◌∙◌}
use Rattle.std.specs.Prelude.{nat_eq, replicate}
use Rattle.std.specs.List.{filter, list_all}
use Rattle.std.proofs.lemmas.Bool.{and_parts}
use Rattle.xt_syntax.specs.declared.exprs.Expr.{Expr}
use Rattle.xt_tree.specs.Place.{Place}
use Rattle.xt_types.specs.declared.axes.Axis.{Axis}
use Rattle.xt_types.specs.declared.node_tests.Test.{Test}
use Rattle.xdm_items.specs.NodeTests.Tests.{passes_at}
use Rattle.node_axes.specs.Course.{Course, to_come}
use Rattle.node_axes.specs.StepWalks.Hits.{hits_ahead}
use Rattle.node_axes.specs.StepWalks.Nodes.{Focus, kept_from, kept_by_all}
use Rattle.node_axes.specs.StepWalks.Sifted.{AreSizeFree, sifted, kept_in_turn, raised, alone_if}
use Rattle.node_axes.proofs.StepWalks.SiftLemmas.{begins, comes, raised_length}
use Rattle.quiet_eval.specs.QuietMeaning.Paths.{keeps}
use Rattle.quiet_eval.specs.QuietPlaces.Free.{is_size_free_expr}
use Rattle.quiet_eval.proofs.QuietPlaces.FreeLemmas.{size_free}
use Rattle.xdm_items.specs.declared.items.Item.{Item}
use Rattle.xdm_items.specs.declared.items.Item.TheVariants.{Node}
use Rattle.node_walks.specs.Courses.{moves_along, moves_to_come}
use Rattle.node_walks.specs.Moves.{Moves, given}
use Rattle.node_walks.specs.Sift.{is_kept, after, sifted_moves}

none_sifted : (t : List (Focus → Bool)) (s : List ℕ) → sifted t s [] ≡ []
unfolding sifted kept_from
none_sifted [] s = refl
none_sifted (h ∷ t) [] = none_sifted t []
none_sifted (h ∷ t) (k ∷ s) = none_sifted t s

given_if : (b : Bool) (n : Place) (m : Moves) (ns : List Place) → given m ≡ map Node ns → given (if b then Some (Node n) ∷ m else m) ≡ map Node (alone_if b n ns)
given_if true n m ns e = ap (λ (l : List Item). Node n ∷ l) e
given_if false n m ns e = e

one_given : (t : List (Focus → Bool)) (s : List ℕ) (n : Place) (m : Moves) (ns : List Place) → length s ≡ length t
    → given (sifted_moves t (raised (suc (kept_in_turn t s n)) s) m) ≡ map Node (sifted t (raised (suc (kept_in_turn t s n)) s) ns)
    → given (sifted_moves t s (Some (Node n) ∷ m)) ≡ map Node (sifted t s (n ∷ ns))
unfolding is_kept after
one_given t s n m ns l e =
    given_if (nat_eq (kept_in_turn t s n) (length t)) n (sifted_moves t (raised (suc (kept_in_turn t s n)) s) m) (sifted t (raised (suc (kept_in_turn t s n)) s) ns) e
    ∙ ap (map Node) (sym (comes t s n ns l))

given_along : (axis : Axis) (wanted : Test) (t : List (Focus → Bool)) (s : List ℕ) (ns : List Place) → length s ≡ length t
    → given (sifted_moves t s (moves_along axis wanted ns)) ≡ map Node (sifted t s (filter (passes_at axis wanted) ns))
unfolding moves_along
given_along axis wanted t s [] l = ap (map Node) (sym (none_sifted t s))
given_along axis wanted t s (n ∷ ns) l =
    by (passes_at axis wanted n) (given_along axis wanted t s ns l)
    (one_given t s n (moves_along axis wanted ns) (filter (passes_at axis wanted) ns) l
    (given_along axis wanted t (raised (suc (kept_in_turn t s n)) s) ns (raised_length (suc (kept_in_turn t s n)) s ∙ l)))
  where
    by : (b : Bool) → given (sifted_moves t s (moves_along axis wanted ns)) ≡ map Node (sifted t s (filter (passes_at axis wanted) ns))
        → given (sifted_moves t s (Some (Node n) ∷ moves_along axis wanted ns)) ≡ map Node (sifted t s (n ∷ filter (passes_at axis wanted) ns))
        → given (sifted_moves t s (if b then None ∷ Some (Node n) ∷ moves_along axis wanted ns else None ∷ moves_along axis wanted ns))
        ≡ map Node (sifted t s (cond b (n ∷ filter (passes_at axis wanted) ns) (filter (passes_at axis wanted) ns)))
    by true e f = f
    by false e f = e

keeps_length : (tests : List Expr) → length (keeps tests) ≡ length tests
keeps_length [] = refl
keeps_length (e ∷ tests) = ap suc (keeps_length tests)

none_seen : (n : ℕ) → length {A = ℕ} (replicate n 0) ≡ n
none_seen zero = refl
none_seen (suc n) = ap suc (none_seen n)

all_size_free : (tests : List Expr) → list_all is_size_free_expr tests ≡ true → AreSizeFree (keeps tests)
all_size_free [] h = tt
all_size_free (e ∷ tests) h = let p = and_parts (is_size_free_expr e) (list_all is_size_free_expr tests) h in (size_free e p.0, all_size_free tests p.1)

-- what a walk gives that asks each predicate as its node comes is what they keep of the whole list
pub quiet_gives : (c : Course) (tests : List Expr) → list_all is_size_free_expr tests ≡ true
    → given (sifted_moves (keeps tests) (replicate (length tests) 0) (moves_to_come c)) ≡ map Node (kept_by_all (keeps tests) (hits_ahead c))
unfolding moves_to_come hits_ahead
quiet_gives c tests h =
    given_along c.axis c.test (keeps tests) (replicate (length tests) 0) (to_come c) (none_seen (length tests) ∙ sym (keeps_length tests))
    ∙ ap (λ (n : ℕ). map Node (sifted (keeps tests) (replicate n 0) (filter (passes_at c.axis c.test) (to_come c)))) (sym (keeps_length tests))
    ∙ ap (map Node) (sym (begins (keeps tests) (filter (passes_at c.axis c.test) (to_come c)) (all_size_free tests h)))
