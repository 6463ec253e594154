-- The order of no globals.
use Rattle.std.proofs.Common.{◌≡◌, ◌<◌, ℕ, List, [], length, sym, ap, ◌∙◌, arith}
use Rattle.xt_sheets.specs.declared.sheets.Global.{Global}
use Rattle.xt_sheets.specs.declared.sheets.Sheet.{Sheet}
use Rattle.global_order.specs.Order.{order_of}
use Rattle.global_order.specs.GraphOrders.Needs.{needs_from}
use Rattle.global_needs.specs.Needs.{graph_of, needs}
use Rattle.global_needs.specs.Shapes.{shape_of}

none_ordered : (n : ℕ) (s : Sheet) → n ≡ 0 → order_of (needs_from n 0 (graph_of (shape_of s) s) (shape_of s).globals_at) ≡ []
unfolding order_of
none_ordered n s none = ap (λ k. order_of (needs_from k 0 (graph_of (shape_of s) s) (shape_of s).globals_at)) none

-- where there are no globals, there is no order
pub nothing_ordered : (s : Sheet) (all : List Global) (order : List ℕ) → all ≡ s.globals → length all < 1 → order ≡ [] → order ≡ order_of (needs s)
nothing_ordered s all order same few empty =
    let none : length all ≡ 0 = omega (arith, few) in
    empty ∙ sym (none_ordered (length s.globals) s (sym (ap length same) ∙ none))
