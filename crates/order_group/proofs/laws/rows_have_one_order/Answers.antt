use Rattle.order_group.specs.Rows.{stands_before}
use Rattle.order_group.proofs.Orders.{the_order, rows_have_order}
use Rattle.order_group.proofs.laws.rows_have_one_order.Goals as goal

pub returns : goal.returns
returns g c = λ ds rows. the_order (stands_before ds) (rows_have_order ds (λ row. row.cells)) rows
