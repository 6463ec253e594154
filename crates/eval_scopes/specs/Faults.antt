-- Why an evaluation has no value.
use Rattle.xt_atoms.specs.declared.faults.ValueFault.{ValueFault}
use Rattle.xt_atoms.specs.declared.faults.ValueFault.TheVariants as value
use Rattle.node_builder.specs.declared.faults.BuildFault.{BuildFault}
use Rattle.node_builder.specs.declared.faults.BuildFault.TheVariants as build
use Rattle.eval_scopes.specs.declared.faults.EvalFault.{EvalFault}
use Rattle.eval_scopes.specs.declared.faults.EvalFault.TheVariants.{Error, Memory}

abbrev pub of_value_fault : ValueFault → EvalFault
of_value_fault (value.Error code) = Error code
of_value_fault (value.Memory e) = Memory e

abbrev pub of_build_fault : BuildFault → EvalFault
of_build_fault (build.Error code) = Error code
of_build_fault (build.Memory e) = Memory e
