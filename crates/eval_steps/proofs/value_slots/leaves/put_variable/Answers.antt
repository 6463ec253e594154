use Rattle.eval_steps.proofs.value_slots.leaves.put_variable.Goals as goal

pub returns : goal.returns
returns c = λ calls keys k. c.put.ensures k _ (c.variable_list.ensures calls keys k)
