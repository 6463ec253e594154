-- Predicates of a list from a place on.
use Rattle.std.proofs.Common.{◌≡◌, ℕ, zero, suc, ◌+◌, ◌<◌, ◌≤◌, List, [], ◌∷◌, ◌++◌, length, map, take, drop, get_or}
use Rattle.std.proofs.Common.{Bool, true, false, if◌then◌else◌, refl, sym, ap, ap₂, ◌∙◌, arith}
use Rattle.std.specs.List.{list_all}
use Rattle.std.proofs.lemmas.Bool.{and_parts}
use Rattle.std.proofs.lemmas.List.{append-nil, drop_more}
use Rattle.std.proofs.Math.Seq.{take-length, drop-length}
use Rattle.xt_syntax.specs.declared.exprs.Expr.{Expr}
use Rattle.xt_tree.specs.Place.{Place}
use Rattle.node_axes.specs.StepWalks.Sifted.{kept_in_turn, raised}
use Rattle.xdm_items.specs.declared.items.Item.TheVariants.{Node}
use Rattle.std.specs.Prelude.{nat_eq}
use Rattle.node_walks.specs.Sift.{is_kept, after}
use Rattle.quiet_eval.specs.QuietMeaning.Quietly.{quietly_of, is_pattern_form, holds_quietly}
use Rattle.quiet_eval.specs.QuietMeaning.Paths.{keeps}

pub allowed_at : (tests : List Expr) (i : ℕ) (e : Expr) → i < length tests → e ≡ get_or tests i e → list_all is_pattern_form (map quietly_of tests) ≡ true → is_pattern_form (quietly_of e) ≡ true
allowed_at [] i e l is h = absurd (omega arith)
allowed_at (t ∷ tests) zero e l is h = ap (λ (z : Expr). is_pattern_form (quietly_of z)) is ∙ (and_parts (is_pattern_form (quietly_of t)) (list_all is_pattern_form (map quietly_of tests)) h).0
allowed_at (t ∷ tests) (suc i) e l is h = allowed_at tests i e (omega arith) is (and_parts (is_pattern_form (quietly_of t)) (list_all is_pattern_form (map quietly_of tests)) h).1

-- one predicate more
pub count_on : (tests : List Expr) (seen : List ℕ) (n : Place) (i : ℕ) (e : Expr) (truth : Bool) → i < length tests → i < length seen → e ≡ get_or tests i e
    → truth ≡ holds_quietly e n (get_or seen i 0 + 1) 0
    → kept_in_turn (keeps (drop i tests)) (drop i seen) n ≡ (if truth then suc (kept_in_turn (keeps (drop (i + 1) tests)) (drop (i + 1) seen) n) else 0)
unfolding kept_in_turn
count_on tests seen n i e truth l m is h =
    ap₂ (λ (ts : List Expr) (ks : List ℕ). kept_in_turn (keeps ts) ks n) (drop_more tests i e l ∙ ap (λ (z : Expr). z ∷ drop (i + 1) tests) (sym is)) (drop_more seen i 0 m)
    ∙ ap (λ (b : Bool). if b then suc (kept_in_turn (keeps (drop (i + 1) tests)) (drop (i + 1) seen) n) else 0) (sym h)

pub none_on : (tests : List Expr) (ks : List ℕ) (n : Place) (i : ℕ) → length tests ≤ i → kept_in_turn (keeps (drop i tests)) ks n ≡ 0
unfolding kept_in_turn
none_on [] ks n zero l = refl
none_on [] ks n (suc i) l = refl
none_on (t ∷ tests) ks n zero l = absurd (omega arith)
none_on (t ∷ tests) ks n (suc i) l = none_on tests ks n i (omega arith)

-- the predicate at the place j does not keep the node, or does
pub count_off : (tests : List Expr) (seen : List ℕ) (n : Place) (i j : ℕ) (e : Expr) (truth : Bool) (all : ℕ) → j ≡ i → i < length tests
    → length seen ≡ length tests → e ≡ get_or tests i e → truth ≡ holds_quietly e n (get_or seen j 0 + 1) 0 → truth ≡ false
    → j + kept_in_turn (keeps (drop i tests)) (drop i seen) n ≡ all → j ≡ all
count_off tests seen n i j e truth all same l m is h off sum =
    let k = count_on tests seen n i e truth l (omega arith) is (h ∙ ap (λ (z : ℕ). holds_quietly e n (get_or seen z 0 + 1) 0) same) in
    let z : kept_in_turn (keeps (drop i tests)) (drop i seen) n ≡ 0 = k ∙ ap (λ (b : Bool). if b then suc (kept_in_turn (keeps (drop (i + 1) tests)) (drop (i + 1) seen) n) else 0) off in
    omega arith

pub count_more : (tests : List Expr) (seen : List ℕ) (n : Place) (i j : ℕ) (e : Expr) (truth : Bool) (all : ℕ) → j ≡ i → i < length tests
    → length seen ≡ length tests → e ≡ get_or tests i e → truth ≡ holds_quietly e n (get_or seen j 0 + 1) 0 → truth ≡ true
    → j + kept_in_turn (keeps (drop i tests)) (drop i seen) n ≡ all → j + 1 + kept_in_turn (keeps (drop (i + 1) tests)) (drop (i + 1) seen) n ≡ all
count_more tests seen n i j e truth all same l m is h on sum =
    let k = count_on tests seen n i e truth l (omega arith) is (h ∙ ap (λ (z : ℕ). holds_quietly e n (get_or seen z 0 + 1) 0) same) in
    let z : kept_in_turn (keeps (drop i tests)) (drop i seen) n ≡ suc (kept_in_turn (keeps (drop (i + 1) tests)) (drop (i + 1) seen) n) = k ∙ ap (λ (b : Bool). if b then suc (kept_in_turn (keeps (drop (i + 1) tests)) (drop (i + 1) seen) n) else 0) on in
    omega arith

-- all predicates keep the node where so many do as there are
pub kept_count : (tests given_tests : List Expr) (seen given_seen : List ℕ) (n : Place) (count : ℕ) → given_tests ≡ tests → given_seen ≡ seen
    → count ≡ kept_in_turn (keeps given_tests) given_seen n → nat_eq count (length given_tests) ≡ is_kept (keeps tests) seen (Node n)
unfolding is_kept
kept_count tests given_tests seen given_seen n count e f h =
    ap₂ nat_eq (h ∙ ap₂ (λ (ts : List Expr) (ks : List ℕ). kept_in_turn (keeps ts) ks n) e f) (ap length e ∙ sym (keeps_length tests))
  where
    keeps_length : (ts : List Expr) → length (keeps ts) ≡ length ts
    keeps_length [] = refl
    keeps_length (t ∷ ts) = ap suc (keeps_length ts)

pub after_count : (tests given_tests : List Expr) (seen given_seen later : List ℕ) (n : Place) (count : ℕ) → given_tests ≡ tests → given_seen ≡ seen
    → count ≡ kept_in_turn (keeps given_tests) given_seen n → later ≡ raised (count + 1) given_seen → later ≡ after (keeps tests) seen (Node n)
unfolding after
after_count tests given_tests seen given_seen later n count e f h r =
    let o : count + 1 ≡ suc count = omega arith in
    let k : count + 1 ≡ suc (kept_in_turn (keeps tests) seen n) = o ∙ ap suc (h ∙ ap₂ (λ (ts : List Expr) (ks : List ℕ). kept_in_turn (keeps ts) ks n) e f) in
    r ∙ ap₂ raised k f

-- a slice that is written back to the whole of its list
pub write_back : (old new : List ℕ) (len : ℕ) → length new ≡ len → length old ≡ len → take len (new ++ drop (length new) old) ≡ new
write_back old new len e f =
    let none : drop (length new) old ≡ [] = ap (λ (i : ℕ). drop i old) (e ∙ sym f) ∙ drop-length old in
    ap (λ (l : List ℕ). take len (new ++ l)) none ∙ ap (take len) (append-nil new) ∙ ap (λ (i : ℕ). take i new) (sym e) ∙ take-length new
