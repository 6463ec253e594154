-- Predicates that are free of their place, at a node among those beside it.
use Rattle.std.proofs.Common.{◌≡◌, ℕ, ◌+◌, List, [], ◌∷◌, map, refl, ap, ap₂, sym, ◌∙◌, Bool, true, false, inl, inr}
use Rattle.std.specs.Prelude.{◌&&◌, ◌||◌, if◌then◌else◌, Option, Some, None}
use Rattle.std.specs.List.{filter, list_all, list_any}
use Rattle.std.proofs.lemmas.Bool.{and_parts}
use Rattle.xt_tree.specs.Place.{Place, parent_of}
use Rattle.xt_syntax.specs.declared.exprs.Expr.{Expr}
use Rattle.xt_syntax.specs.declared.patterns.PatternStep.{PatternStep}
use Rattle.node_tests.specs.Tests.{passes_at}
use Rattle.node_axes.specs.Axes.{axis_nodes}
use Rattle.node_axes.proofs.FilterLemmas.{In}
use Rattle.node_axes.specs.StepWalks.Nodes.{Focus, kept_from, kept_by, kept_by_all}
use Rattle.node_axes.proofs.StepWalks.NodeLemmas.{axis_within, filter_within}
use Rattle.node_axes.proofs.StepWalks.OrderLemmas.{itself, itself_is, within_of, some_in}
use Rattle.quiet_meaning.specs.Quietly.{Quietly, quietly_of, holds_at}
use Rattle.quiet_meaning.specs.Paths.{keeps}
use Rattle.quiet_eval.specs.QuietPlaces.Free.{IsSame, is_place_free_expr, focus}
use Rattle.quiet_eval.proofs.QuietPlaces.FreeLemmas.{free_is_same}
use Rattle.match_patterns.specs.Patterns.{stands_for, beside, candidates, is_same}
use Rattle.match_patterns.proofs.MemberLemmas.{member_of}

-- what has the place of the node is the node
abbrev Alike : Place → List Place → Type 0
Alike n [] = Unit {0}
Alike n (x ∷ rest) = (is_same n x ≡ true → x ≡ n) × Alike n rest

alike_from : (n : Place) (xs : List Place) → ((x : Place) → In x xs → is_same n x ≡ true → x ≡ n) → Alike n xs
alike_from n [] h = tt
alike_from n (x ∷ xs) h = (h x (inl refl), alike_from n xs (λ y i. h y (inr i)))

alike_kept : (n : Place) (holds : Focus → Bool) (size at : ℕ) (xs : List Place) → Alike n xs → Alike n (kept_from holds size at xs)
unfolding kept_from
alike_kept n holds size at [] a = tt
alike_kept n holds size at (x ∷ xs) a = by (holds (focus x at size)) (alike_kept n holds size (at + 1) xs a.1)
  where
    by : (b : Bool) → Alike n (kept_from holds size (at + 1) xs) → Alike n (if b then x ∷ kept_from holds size (at + 1) xs else kept_from holds size (at + 1) xs)
    by true r = (a.0, r)
    by false r = r

alike_beside : (s : PatternStep) (n : Place) (o : Option Place) → In n (beside s n o) → (x : Place) → In x (beside s n o) → is_same n x ≡ true → x ≡ n
alike_beside s n None j x (inl e) h = sym e
alike_beside s n None j x (inr i) h = absurd i
alike_beside s n (Some p) j x i h =
    let w = filter_within p (passes_at s.axis s.test) (axis_nodes s.axis p) (axis_within s.axis p) in
    itself_is p x n (within_of p x (filter (passes_at s.axis s.test) (axis_nodes s.axis p)) w i) (within_of p n (filter (passes_at s.axis s.test) (axis_nodes s.axis p)) w j) h

-- one predicate

none_false : (a : Bool) → false ≡ (a && false)
none_false true = refl
none_false false = refl

all_true : (a : Bool) → a ≡ (a && true)
all_true true = refl
all_true false = refl

grouped : (a b c : Bool) → ((a && b) && c) ≡ (a && (b && c))
grouped true b c = refl
grouped false b c = refl

kept_one : (n : Place) (q : Quietly) (size at : ℕ) (xs : List Place) → IsSame q → Alike n xs → list_any (is_same n) (kept_from (holds_at q) size at xs) ≡ (list_any (is_same n) xs && holds_at q (focus n 1 1))
unfolding kept_from
kept_one n q size at [] same a = refl
kept_one n q size at (x ∷ xs) same a = by (is_same n x) refl (holds_at q (focus x at size)) refl (kept_one n q size (at + 1) xs same a.1)
  where
    here : is_same n x ≡ true → holds_at q (focus x at size) ≡ holds_at q (focus n 1 1)
    here e = same x at size 1 1 ∙ ap (λ (y : Place). holds_at q (focus y 1 1)) (a.0 e)

    by : (b : Bool) → is_same n x ≡ b → (t : Bool) → holds_at q (focus x at size) ≡ t
        → list_any (is_same n) (kept_from (holds_at q) size (at + 1) xs) ≡ (list_any (is_same n) xs && holds_at q (focus n 1 1))
        → list_any (is_same n) (if t then x ∷ kept_from (holds_at q) size (at + 1) xs else kept_from (holds_at q) size (at + 1) xs) ≡ ((is_same n x || list_any (is_same n) xs) && holds_at q (focus n 1 1))
    by true e true f rest = rw (e, sym (here e) ∙ f) refl
    by true e false f rest = let g : holds_at q (focus n 1 1) ≡ false = sym (here e) ∙ f in rest ∙ ap (λ (z : Bool). list_any (is_same n) xs && z) g ∙ sym (none_false (list_any (is_same n) xs)) ∙ sym (ap₂ (λ (y z : Bool). (y || list_any (is_same n) xs) && z) e g)
    by false e true f rest = rw e rest
    by false e false f rest = rw e rest

-- all of them

abbrev AllSame : List Quietly → Type 0
AllSame [] = Unit {0}
AllSame (q ∷ qs) = IsSame q × AllSame qs

each_same : (tests : List Expr) → list_all is_place_free_expr tests ≡ true → AllSame (map quietly_of tests)
each_same [] h = tt
each_same (e ∷ tests) h = let p = and_parts (is_place_free_expr e) (list_all is_place_free_expr tests) h in (free_is_same e p.0, each_same tests p.1)

kept_all : (n : Place) (qs : List Quietly) (xs : List Place) → AllSame qs → Alike n xs
    → list_any (is_same n) (kept_by_all (map holds_at qs) xs) ≡ (list_any (is_same n) xs && list_all (λ q. holds_at q (focus n 1 1)) qs)
unfolding kept_by_all kept_by
kept_all n [] xs same a = all_true (list_any (is_same n) xs)
kept_all n (q ∷ qs) xs same a =
    kept_all n qs (kept_by (holds_at q) xs) same.1 (alike_kept n (holds_at q) _ 1 xs a)
    ∙ ap (λ (z : Bool). z && list_all (λ q. holds_at q (focus n 1 1)) qs) (kept_one n q _ 1 xs same.0 a)
    ∙ grouped (list_any (is_same n) xs) (holds_at q (focus n 1 1)) (list_all (λ q. holds_at q (focus n 1 1)) qs)

pub free_member : (s : PatternStep) (n : Place) → list_all is_place_free_expr s.quiet ≡ true → stands_for s.axis n ≡ true → passes_at s.axis s.test n ≡ true
    → list_all (λ q. holds_at q (focus n 1 1)) (map quietly_of s.quiet) ≡ list_any (is_same n) (kept_by_all (keeps s.quiet) (candidates s n))
free_member s n f h p =
    let j = member_of s.axis s.test n.number n.tree n.path n.attribute h p s refl refl in
    let there : list_any (is_same n) (candidates s n) ≡ true = some_in (is_same n) n (candidates s n) j (itself n) in
    sym (kept_all n (map quietly_of s.quiet) (candidates s n) (each_same s.quiet f) (alike_from n (candidates s n) (alike_beside s n (parent_of n) j))
    ∙ ap (λ (z : Bool). z && list_all (λ q. holds_at q (focus n 1 1)) (map quietly_of s.quiet)) there)
