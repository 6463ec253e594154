use Rattle.std.proofs.Common.{rules}
use Rattle.std.specs.Prelude.{Bool}
use Rattle.std.specs.Ordering.{is_lt}
use Rattle.std.proofs.lemmas.Fn.{always_returns_same}
use Rattle.order_group.specs.Rows.{row_order}
use Rattle.order_group.specs.declared.sorts.Entry.{Entry}
use Rattle.order_group.proofs.Orders.{the_order, rows_have_order}
use Rattle.order_group.proofs.sorts.sort_entries.Goals as goal

pub returns : goal.returns
returns c =
    let ds = c.args.descending.now in
    let below : Entry → Entry → Bool = λ x y. is_lt (row_order 0 ds x.row.now.cells y.row.now.cells) in
    let o = rows_have_order ds (λ (x : Entry). x.row.now.cells) in
    (the_order below o c.args.entries.now.items).one _ (record {
      sorted = c.in_ok-sort_by.ensures.sorted below o (always_returns_same _ _ _ (λ a r f k. search rules));
      stable = c.in_ok-sort_by.ensures.stable below o (always_returns_same _ _ _ (λ a r f k. search rules));
    })
