-- One turn over the first places.
use Rattle.std.proofs.Common.{◌≡◌, ◌∙◌, ap, sym, ℕ, suc, ◌+◌, ◌-◌, ◌<◌, List, [], ◌∷◌, ◌++◌}
use Rattle.std.proofs.Common.{append_assoc, arith}
use Rattle.global_order.specs.GraphOrders.Needs.{needs_of, needs_from}
use Rattle.global_order.specs.Order.{Graph}

next_left : (count i at : ℕ) (graph : Graph) → i < count
    → needs_from (count - i) i graph at
    ≡ needs_of graph at i ∷ needs_from (count - (i + 1)) (i + 1) graph at
next_left count i at graph less =
    let k : count - i ≡ suc (count - (i + 1)) = omega (arith, less) in
    let j : suc i ≡ i + 1 = omega arith in
    rw k (ap (λ m. needs_of graph at i ∷ needs_from (count - (i + 1)) m graph at) j)

pub turn : (all next whole : List (List ℕ)) (x : List ℕ) (count i at : ℕ) (graph : Graph) → i < count
    → x ≡ needs_of graph at i → next ≡ all ++ x ∷ []
    → all ++ needs_from (count - i) i graph at ≡ whole
    → next ++ needs_from (count - (i + 1)) (i + 1) graph at ≡ whole
turn all next whole x count i at graph less e n inv =
    let rest = needs_from (count - (i + 1)) (i + 1) graph at in
    ap (λ l. l ++ rest) n
    ∙ append_assoc all (x ∷ []) rest
    ∙ ap (λ y. all ++ y ∷ rest) e
    ∙ ap (λ t. all ++ t) (sym (next_left count i at graph less))
    ∙ inv
