use Rattle.std.proofs.Common.{refl, arith}
use Rattle.std.proofs.lemmas.Bool.{ne_eqb}
use Rattle.function_table.specs.Table.{rows_under}
use Rattle.function_table.proofs.rows.rows_of.Goals as goal

pub returns-in-a-clause-rows : goal.returns-in-a-clause-rows
unfolding rows_under
returns-in-a-clause-rows c = rw c.in-a.is refl

pub returns-in-b-clause-rows : goal.returns-in-b-clause-rows
unfolding rows_under
returns-in-b-clause-rows c = rw c.in-b.is refl

pub returns-in-c-clause-rows : goal.returns-in-c-clause-rows
unfolding rows_under
returns-in-c-clause-rows c = rw c.in-c.is refl

pub returns-in-d-clause-rows : goal.returns-in-d-clause-rows
unfolding rows_under
returns-in-d-clause-rows c = rw c.in-d.is refl

pub returns-in-e-clause-rows : goal.returns-in-e-clause-rows
unfolding rows_under
returns-in-e-clause-rows c = rw c.in-e.is refl

pub returns-in-f-clause-rows : goal.returns-in-f-clause-rows
unfolding rows_under
returns-in-f-clause-rows c = rw c.in-f.is refl

pub returns-in-i-clause-rows : goal.returns-in-i-clause-rows
unfolding rows_under
returns-in-i-clause-rows c = rw c.in-i.is refl

pub returns-in-l-clause-rows : goal.returns-in-l-clause-rows
unfolding rows_under
returns-in-l-clause-rows c = rw c.in-l.is refl

pub returns-in-m-clause-rows : goal.returns-in-m-clause-rows
unfolding rows_under
returns-in-m-clause-rows c = rw c.in-m.is refl

pub returns-in-n-clause-rows : goal.returns-in-n-clause-rows
unfolding rows_under
returns-in-n-clause-rows c = rw c.in-n.is refl

pub returns-in-o-clause-rows : goal.returns-in-o-clause-rows
unfolding rows_under
returns-in-o-clause-rows c = rw c.in-o.is refl

pub returns-in-p-clause-rows : goal.returns-in-p-clause-rows
unfolding rows_under
returns-in-p-clause-rows c = rw c.in-p.is refl

pub returns-in-Q-clause-rows : goal.returns-in-Q-clause-rows
unfolding rows_under
returns-in-Q-clause-rows c = rw c.in-Q.is refl

pub returns-in-r-clause-rows : goal.returns-in-r-clause-rows
unfolding rows_under
returns-in-r-clause-rows c = rw c.in-r.is refl

pub returns-in-s-clause-rows : goal.returns-in-s-clause-rows
unfolding rows_under
returns-in-s-clause-rows c = rw c.in-s.is refl

pub returns-in-t-clause-rows : goal.returns-in-t-clause-rows
unfolding rows_under
returns-in-t-clause-rows c = rw c.in-t.is refl

pub returns-in-u-clause-rows : goal.returns-in-u-clause-rows
unfolding rows_under
returns-in-u-clause-rows c = rw c.in-u.is refl

pub returns-in-z-clause-rows : goal.returns-in-z-clause-rows
unfolding rows_under
returns-in-z-clause-rows c = rw c.in-z.is refl

pub returns-in_default-clause-rows : goal.returns-in_default-clause-rows
unfolding rows_under
returns-in_default-clause-rows c =
    let is_not_a = ne_eqb c.args.first 97 (omega arith) in
    let is_not_b = ne_eqb c.args.first 98 (omega arith) in
    let is_not_c = ne_eqb c.args.first 99 (omega arith) in
    let is_not_d = ne_eqb c.args.first 100 (omega arith) in
    let is_not_e = ne_eqb c.args.first 101 (omega arith) in
    let is_not_f = ne_eqb c.args.first 102 (omega arith) in
    let is_not_i = ne_eqb c.args.first 105 (omega arith) in
    let is_not_l = ne_eqb c.args.first 108 (omega arith) in
    let is_not_m = ne_eqb c.args.first 109 (omega arith) in
    let is_not_n = ne_eqb c.args.first 110 (omega arith) in
    let is_not_o = ne_eqb c.args.first 111 (omega arith) in
    let is_not_p = ne_eqb c.args.first 112 (omega arith) in
    let is_not_capital_q = ne_eqb c.args.first 81 (omega arith) in
    let is_not_r = ne_eqb c.args.first 114 (omega arith) in
    let is_not_s = ne_eqb c.args.first 115 (omega arith) in
    let is_not_t = ne_eqb c.args.first 116 (omega arith) in
    let is_not_u = ne_eqb c.args.first 117 (omega arith) in
    let is_not_z = ne_eqb c.args.first 122 (omega arith) in
    rw (is_not_a, is_not_b, is_not_c, is_not_d, is_not_e, is_not_f, is_not_i, is_not_l, is_not_m, is_not_n, is_not_o, is_not_p, is_not_capital_q, is_not_r, is_not_s, is_not_t, is_not_u, is_not_z) refl
