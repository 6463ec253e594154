-- The names of the globals of a stylesheet differ, in declaration order too.
use Rattle.std.proofs.Common.{◌≡◌, ◌≤◌, ◌<◌, ℕ, zero, suc, ◌+◌, List, [], ◌∷◌, ◌++◌, map, length}
use Rattle.std.proofs.Common.{true, false, not, slice_get, nat_eq}
use Rattle.std.proofs.Common.{refl, sym, ap, subst, ◌∙◌, arith, inl, inr, drop}
use Rattle.std.proofs.lemmas.Bool.{and_from, or_cases, eqb-true, false_from_ne_true}
use Rattle.std.proofs.lemmas.List.Folds.{list_any-append}
use Rattle.std.specs.List.{range_with_len}
use Rattle.xt_syntax.specs.declared.exprs.Expr.{Expr}
use Rattle.xt_syntax.specs.declared.patterns.Pattern.{Pattern}
use Rattle.xt_sheets.specs.declared.sheets.Global.{Global}
use Rattle.name_rules.specs.Scopes.{names_differ}
use Rattle.global_order.specs.Order.{Graph, is_in, is_ready, is_next, needs_of, InOrder}
use Rattle.global_order.specs.Order as order
use Rattle.sheet_rules.specs.declared.sheet_declarations.lists.Declaration.{Declaration}
use Rattle.sheet_rules.specs.SheetDeclarations.Counts.{counted_of}
use Rattle.sheet_assembly.specs.Named.{at, each_by, global_if, ordered}
use Rattle.assembly_laws.specs.SheetClosure.Declared.{global_name}
use Rattle.assembly_laws.proofs.Globals.{globals_differ}

-- a graph that leads nowhere
abbrev blank : ℕ → Graph
blank zero = []
blank (suc n) = [] ∷ blank n

blank_size : (n : ℕ) → length (blank n) ≡ n
blank_size zero = refl
blank_size (suc n) = ap suc (blank_size n)

blank_row : (n i : ℕ) → needs_of (blank n) i ≡ []
blank_row zero zero = refl
blank_row zero (suc i) = refl
blank_row (suc n) zero = refl
blank_row (suc n) (suc i) = blank_row n i

abbrev AllLess : List ℕ → ℕ → Type 0
AllLess done k = (i : ℕ) → is_in done i ≡ true → i < k

less_more : (done : List ℕ) (k : ℕ) → AllLess done k → AllLess (done ++ k ∷ []) (k + 1)
unfolding is_in
less_more done k a i h =
    elim (or_cases (is_in done i) (is_in (k ∷ []) i)
    (sym (list_any-append (λ d. nat_eq d i) done (k ∷ [])) ∙ h)) [
      | inl e ↦ let less = a i e in omega (arith, less)
      | inr e ↦ elim (or_cases (nat_eq k i) false e) [
        | inl s ↦ let same = eqb-true k i s in omega (arith, same)
        | inr k ↦ absurd cc
      ]
    ]

next_blank : (n : ℕ) (done : List ℕ) (k : ℕ) → AllLess done k → is_next (blank n) done k ≡ true
unfolding is_next is_ready
next_blank n done k a =
    and_from _ _ (ap not (false_from_ne_true (is_in done k) (λ h. let less = a k h in
    absurd (omega (arith, less)))))
    (ap (is_ready done) (blank_row n k))

in_turn : (n m : ℕ) (done : List ℕ) (k : ℕ) → AllLess done k → k + m ≤ n
    → InOrder (blank n) done (range_with_len k m)
in_turn n zero done k a fits = order.nothing
in_turn n (suc m) done k a fits =
    let size = blank_size n in
    order.behind k (range_with_len (k + 1) m) (omega (arith, size, fits)) (next_blank n done k a)
    (in_turn n m (done ++ k ∷ []) (k + 1) (less_more done k a) (omega (arith, fits)))

none_done : AllLess [] 0
unfolding is_in
none_done i h = absurd cc

-- all globals in declaration order
pub and_next : (gs : List Global) (k : ℕ) → at (slice_get gs k) ++ drop (suc k) gs ≡ drop k gs
and_next [] zero = refl
and_next [] (suc k) = refl
and_next (g ∷ gs) zero = refl
and_next (g ∷ gs) (suc k) = and_next gs k

pub none_left : (k : ℕ) (gs : List Global) → length gs ≤ k → drop k gs ≡ []
none_left zero [] h = refl
none_left zero (g ∷ gs) h = absurd (omega (arith, h))
none_left (suc k) [] h = refl
none_left (suc k) (g ∷ gs) h = none_left k gs (omega (arith, h))

pub from_place : (gs : List Global) (n k : ℕ) → length gs ≤ n + k
    → ordered gs (range_with_len k n) ≡ drop k gs
from_place gs zero k h = sym (none_left k gs (omega (arith, h)))
from_place gs (suc n) k h =
    let next : k + 1 ≡ suc k = omega arith in
    subst (λ (j : ℕ). at (slice_get gs k) ++ ordered gs (range_with_len j n) ≡ drop k gs) (sym next)
    (ap (λ (rest : List Global). at (slice_get gs k) ++ rest)
    (from_place gs n (suc k) (omega (arith, h)))
    ∙ and_next gs k)

pub names_apart : (ds : List (Declaration Expr Pattern))
    → names_differ (map global_name (each_by global_if (counted_of ds) ds)) ≡ true
names_apart ds =
    let gs = each_by global_if (counted_of ds) ds in
    let n = length gs in
    subst (λ (l : List Global). names_differ (map global_name l) ≡ true)
    (from_place gs n 0 (omega arith))
    (globals_differ ds (blank n) (range_with_len 0 n) (in_turn n n [] 0 none_done (omega arith)))
