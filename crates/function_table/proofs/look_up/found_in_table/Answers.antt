use Rattle.function_table.proofs.TableLemmas.{found_by_first, found_in_nothing}
use Rattle.function_table.proofs.look_up.found_in_table.Goals as goal

pub returns-in-Some : goal.returns-in-Some
returns-in-Some c = found_by_first _ _ _ _ _ c.chars.ensures.rest c.in-Some.ensures.steps.2 (rw c.rows_of.ensures.rows at c.found_in.ensures)

pub returns-in-None : goal.returns-in-None
returns-in-None c = found_in_nothing _ _ _ c.chars.ensures.rest c.in-None.ensures.steps.0.0
