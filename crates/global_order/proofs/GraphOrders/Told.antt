-- What is told where all tests are passed.
use Rattle.std.proofs.Common.{◌≡◌, ◌≤◌, ◌<◌, ◌+◌, ◌&&◌, ℕ, List, Bool, true, length, arith}
use Rattle.std.proofs.lemmas.Bool.{and_parts}
use Rattle.global_order.specs.GraphOrders.Checks.{all_from, is_placed, has_place, is_end, leads_no_later, leads_to_latest, is_in_time}
use Rattle.global_order.specs.GraphOrders.Checks.{is_in_order, is_latest, AreLeast, IsTold}
use Rattle.global_order.proofs.GraphOrders.Tests.{each_from}
use Rattle.global_order.specs.Order.{Graph}

from_first : (k j : ℕ) (f : ℕ → Bool) → all_from k 0 f ≡ true → j < k → f j ≡ true
from_first k j f h less = each_from k 0 j f h (omega arith) (omega (arith, less))

pub told : (g : Graph) (at count : ℕ) (order places latest steps : List ℕ) → at + count ≡ length g
    → length order ≤ count → length latest ≡ length g → is_in_order count order places latest ≡ true
    → is_latest g at count places latest steps ≡ true → AreLeast order latest (length order)
    → IsTold g at count order places latest steps
told g at count order places latest steps size order_size latest_size ordered late least =
    let most = length order in
    let stands = is_placed count order places in
    let placed = has_place most places order in
    let in_time = is_in_time most places latest in
    let ends = is_end at places latest in
    let no_later = leads_no_later g latest in
    let shown = leads_to_latest g latest steps in
    let a = and_parts (all_from most 0 stands) (all_from count 0 placed && all_from count 0 in_time) ordered in
    let b = and_parts (all_from count 0 placed) (all_from count 0 in_time) a.1 in
    let c = and_parts (all_from count 0 ends) (all_from (length g) 0 no_later && all_from at 0 shown) late in
    let d = and_parts (all_from (length g) 0 no_later) (all_from at 0 shown) c.1 in
    record {
      size = size;
      order_size = order_size;
      latest_size = latest_size;
      stands = λ t h. from_first most t stands a.0 h;
      placed = λ i h. from_first count i placed b.0 h;
      ends = λ x h. from_first count x ends c.0 h;
      no_later = λ v h. from_first (length g) v no_later d.0 h;
      shown = λ v h. from_first at v shown d.1 h;
      in_time = λ i h. from_first count i in_time b.1 h;
      least = least;
    }
