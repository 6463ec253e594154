use Rattle.std.proofs.Common.{◌≡◌, ap, ◌∙◌, arith, rules, refl, length, [], ◌∷◌, ◌<◌, ◌≤◌, ℤ}
use Rattle.std.proofs.Common.{subst}
use Rattle.std.proofs.lemmas.List.{drop_all}
use Rattle.std.proofs.lemmas.Result.{err_from_is_err_and}
use Rattle.expr_meaning.specs.Outcomes.Outcome.{Ends, and_then}
use Rattle.expr_meaning.specs.Meaning.{outcome}
use Rattle.eval_scopes.specs.Scopes.{env_of, program_of}
use Rattle.eval_steps.specs.Sizes.{nodes, arm_nodes}
use Rattle.eval_steps.proofs.Follow.{gathers_first_map, gathers_step, gathers_exit, gathers_end}
use Rattle.eval_steps.proofs.Follow.{fault_first}
use Rattle.eval_steps.proofs.Forms.{within, arm_count, truth_fault, truth_decides, truth_passes}
use Rattle.eval_steps.proofs.Forms.{arm_fault, arm_true, arm_false, same_truth, var_means}
use Rattle.eval_steps.proofs.Forms.{call_means, flow_means, only_one}
use Rattle.std.specs.Prelude.{Bool, FitsSigned}
use Rattle.eval_steps.proofs.CallLemmas.{int_means}
use Rattle.std.specs.Int.{w64}
use Rattle.std.proofs.lemmas.Int.{to_z-of_z}
use Rattle.eval_steps.specs.EvalLates.Late.{literal}
use Rattle.xt_syntax.specs.declared.exprs.Clause.TheViews.{out-Arm}
use Rattle.eval_steps.specs.EvalInner.Inner.{CanEvaluate, Evaluates, CanEvaluateBelow}
use Rattle.expr_eval.proofs.Steps.{library_call}
use Rattle.eval_steps.specs.ValueSlots.Slots.{Leaves}
use Rattle.path_eval.specs.Lates.{CanEvaluateLate, EvaluatesLate}
use Rattle.expr_eval.proofs.hosts.+eval.Goals as goal

pub Host::eval_comma-eval-requires : goal.Host::eval_comma-eval-requires
Host::eval_comma-eval-requires g t c κs lives =
    let w = within nodes c.args.all.now c.loop-e.e-index c.e-item.result _ c.loop-e-test.true
    c.e-item.is in
    (omega (arith, c.decreases, w), search rules)

pub Host::eval_args-eval-requires : goal.Host::eval_args-eval-requires
Host::eval_args-eval-requires g t c κs lives =
    let w = within nodes c.args.args.now c.loop-e.e-index c.e-item.result _ c.loop-e-test.true
    c.e-item.is in
    (omega (arith, c.decreases, w), search rules)

pub Host::eval_comma-loop-e-init : goal.Host::eval_comma-loop-e-init
Host::eval_comma-loop-e-init g t c =
    gathers_first_map _ _ _ _ _ c.new-list.ensures

pub Host::eval_comma-loop-e-preserved : goal.Host::eval_comma-loop-e-preserved
Host::eval_comma-loop-e-preserved g t c =
    let lt : c.loop-e.e-index < length c.args.all.now = omega arith in
    gathers_step _ _ _ _ _ _ _ _ _ _ _ c.loop-e.invariant lt c.e-item.is c.in_ok-more.ensures
    c.in_ok-list.ensures

pub Host::eval_comma-returns-in_err-more : goal.Host::eval_comma-returns-in_err-more
Host::eval_comma-returns-in_err-more g t c =
    let q = err_from_is_err_and c.from_residual.result c.from_residual.ensures.1 in
    let lt : c.loop-e.e-index < length c.args.all.now = omega arith in
    rw (q.1, q.2) (gathers_exit _ _ _ _ _ _ _ _ _ c.loop-e.invariant lt c.e-item.is
    c.in_err-more.ensures)

pub Host::eval_comma-returns : goal.Host::eval_comma-returns
Host::eval_comma-returns g t c =
    let le : length c.args.all.now ≤ c.loop-e.e-index = omega arith in
    gathers_end _ _ _ _ _ _ c.loop-e.invariant le

pub Host::eval_args-loop-e-init : goal.Host::eval_args-loop-e-init
Host::eval_args-loop-e-init g t c =
    gathers_first_map _ _ _ _ _ c.new-lists.ensures.items

pub Host::eval_args-loop-e-preserved : goal.Host::eval_args-loop-e-preserved
Host::eval_args-loop-e-preserved g t c =
    let lt : c.loop-e.e-index < length c.args.args.now = omega arith in
    gathers_step _ _ _ _ _ _ _ _ _ _ _ c.loop-e.invariant lt c.e-item.is
    (ap (λ o. and_then o (λ xs j. Ends (xs ∷ []) j)) c.in_ok-list.ensures)
    c.in_ok-push_list.ensures

pub Host::eval_args-returns-in_err-list : goal.Host::eval_args-returns-in_err-list
Host::eval_args-returns-in_err-list g t c =
    let q = err_from_is_err_and c.from_residual.result c.from_residual.ensures.1 in
    let lt : c.loop-e.e-index < length c.args.args.now = omega arith in
    rw (q.1, q.2) (gathers_exit _ _ _ _ _ _ _ _ _ c.loop-e.invariant lt c.e-item.is
    (fault_first _ _ _ c.in_err-list.ensures))

pub Host::eval_args-returns : goal.Host::eval_args-returns
Host::eval_args-returns g t c =
    let le : length c.args.args.now ≤ c.loop-e.e-index = omega arith in
    gathers_end _ _ _ _ _ _ c.loop-e.invariant le

pub Host::eval_first-loop-e-preserved : goal.Host::eval_first-loop-e-preserved
Host::eval_first-loop-e-preserved g t c =
    let p = program_of c.args.self.now.fixed (g.G.Callee.calls c.args.self.now.given)
    (g.G.Callee.keys c.args.self.now.given) in
    let lt : c.loop-e.e-index < length c.args.all.now = omega arith in
    truth_passes p c.args.decisive c.args.all.now c.loop-e.e-index c.e-item.result _
    (env_of c.args.env.now) c.loop-e.next _ lt c.e-item.is c.loop-e.invariant _ _
    c.in_ok-truth.ensures c.if-truth-decisive.false

pub Host::eval_first-returns-in_err-truth : goal.Host::eval_first-returns-in_err-truth
Host::eval_first-returns-in_err-truth g t c =
    let p = program_of c.args.self.now.fixed (g.G.Callee.calls c.args.self.now.given)
    (g.G.Callee.keys c.args.self.now.given) in
    let q = err_from_is_err_and c.from_residual.result c.from_residual.ensures.1 in
    let lt : c.loop-e.e-index < length c.args.all.now = omega arith in
    rw (q.1, q.2) (truth_fault p c.args.decisive c.args.all.now c.loop-e.e-index c.e-item.result
    _ (env_of c.args.env.now) c.loop-e.next _ lt c.e-item.is c.loop-e.invariant _
    c.in_err-truth.ensures)

pub Host::eval_first-returns-then-truth-decisive : goal.Host::eval_first-returns-then-truth-decisive
Host::eval_first-returns-then-truth-decisive g t c =
    let p = program_of c.args.self.now.fixed (g.G.Callee.calls c.args.self.now.given)
    (g.G.Callee.keys c.args.self.now.given) in
    let lt : c.loop-e.e-index < length c.args.all.now = omega arith in
    truth_decides p c.args.decisive c.args.all.now c.loop-e.e-index c.e-item.result _
    (env_of c.args.env.now) c.loop-e.next _ lt c.e-item.is c.loop-e.invariant _ _
    c.in_ok-truth.ensures c.if-truth-decisive.true ∙ ap
    (λ (b : Bool). Ends b c.eval_truth.new.next) (same_truth c.in_ok-truth.truth c.args.decisive
    c.if-truth-decisive.true)

pub Host::eval_first-returns : goal.Host::eval_first-returns
Host::eval_first-returns g t c =
    let le : length c.args.all.now ≤ c.loop-e.e-index = omega arith in
    rw (← c.loop-e.invariant, drop_all _ c.args.all.now le) refl

pub Host::eval_first-eval_truth-requires : goal.Host::eval_first-eval_truth-requires
Host::eval_first-eval_truth-requires g t c κs lives =
    let w = within nodes c.args.all.now c.loop-e.e-index c.e-item.result _ c.loop-e-test.true
    c.e-item.is in
    (omega (arith, c.decreases, w), search rules)

pub Host::eval_if-loop-arm-preserved : goal.Host::eval_if-loop-arm-preserved
Host::eval_if-loop-arm-preserved g t c =
    let p = program_of c.args.self.now.fixed (g.G.Callee.calls c.args.self.now.given)
    (g.G.Callee.keys c.args.self.now.given) in
    let lt : c.loop-arm.arm-index < length c.args.arms.now = omega arith in
    arm_false p c.args.arms.now (outcome p c.args.other.now) c.loop-arm.arm-index
    c.arm-item.result _ (env_of c.args.env.now) c.loop-arm.next _ lt c.arm-item.is
    c.loop-arm.invariant _ (rw (c.get.ensures, c.if-truth.false) at c.in_ok-truth.ensures)

pub Host::eval_if-returns-in_err-truth : goal.Host::eval_if-returns-in_err-truth
Host::eval_if-returns-in_err-truth g t c =
    let p = program_of c.args.self.now.fixed (g.G.Callee.calls c.args.self.now.given)
    (g.G.Callee.keys c.args.self.now.given) in
    let q = err_from_is_err_and c.from_residual.result c.from_residual.ensures.1 in
    let lt : c.loop-arm.arm-index < length c.args.arms.now = omega arith in
    rw (q.1, q.2) (arm_fault p c.args.arms.now (outcome p c.args.other.now) c.loop-arm.arm-index
    c.arm-item.result _ (env_of c.args.env.now) c.loop-arm.next _ lt c.arm-item.is
    c.loop-arm.invariant _ (rw c.get.ensures at c.in_err-truth.ensures))

pub Host::eval_if-returns-then-truth : goal.Host::eval_if-returns-then-truth
Host::eval_if-returns-then-truth g t c =
    let p = program_of c.args.self.now.fixed (g.G.Callee.calls c.args.self.now.given)
    (g.G.Callee.keys c.args.self.now.given) in
    let lt : c.loop-arm.arm-index < length c.args.arms.now = omega arith in
    rw (arm_true p c.args.arms.now (outcome p c.args.other.now) c.loop-arm.arm-index
    c.arm-item.result _ (env_of c.args.env.now) c.loop-arm.next _ lt c.arm-item.is
    c.loop-arm.invariant _ (rw (c.get.ensures, c.if-truth.true) at c.in_ok-truth.ensures))
    (rw c.get-then-truth.ensures at c.eval_into.ensures)

pub Host::eval_if-returns : goal.Host::eval_if-returns
Host::eval_if-returns g t c =
    let le : length c.args.arms.now ≤ c.loop-arm.arm-index = omega arith in
    rw (← c.loop-arm.invariant, drop_all _ c.args.arms.now le) c.eval_into-2.ensures

pub Host::eval_if-eval_truth-requires : goal.Host::eval_if-eval_truth-requires
Host::eval_if-eval_truth-requires g t c κs lives =
    let w = within arm_nodes c.args.arms.now c.loop-arm.arm-index c.arm-item.result _
    c.loop-arm-test.true c.arm-item.is in
    let same : nodes c.get.result.now ≡ nodes (out-Arm c.arm-item.result).test = ap nodes
    c.get.ensures in
    (omega (arith, c.decreases, w, arm_count c.arm-item.result, same), search rules)

pub Host::eval_if-eval_into-requires : goal.Host::eval_if-eval_into-requires
Host::eval_if-eval_into-requires g t c κs lives =
    let w = within arm_nodes c.args.arms.now c.loop-arm.arm-index c.arm-item.result _
    c.loop-arm-test.true c.arm-item.is in
    let same : nodes c.get-then-truth.result.now ≡ nodes (out-Arm c.arm-item.result).then = ap
    nodes c.get-then-truth.ensures in
    (omega (arith, c.decreases, w, arm_count c.arm-item.result, same), search rules)

pub Host::eval_late-returns-in-Var : goal.Host::eval_late-returns-in-Var
Host::eval_late-returns-in-Var g t c =
    let p = program_of c.args.self.now.fixed (g.G.Callee.calls c.args.self.now.given)
    (g.G.Callee.keys c.args.self.now.given) in
    rw (c.in-Var.is, var_means p c.in-Var.name) (c.late_variable.ensures
    (g.G.Callee.calls c.args.self.now.given) (g.G.Callee.keys c.args.self.now.given)
    c.args.next.now)

pub Host::eval_call-returns-in-len1 : goal.Host::eval_call-returns-in-len1
Host::eval_call-returns-in-len1 g t c =
    let p = program_of c.args.self.now.fixed (g.G.Callee.calls c.args.self.now.given)
    (g.G.Callee.keys c.args.self.now.given) in
    rw (only_one c.args.args.now c.only-item.result _ c.in-len1.len_at_least c.in-len1.len_below
    c.only-item.is) c.eval_call_of_one.ensures

pub Host::eval_call_of_one-returns-in-Library : goal.Host::eval_call_of_one-returns-in-Library
Host::eval_call_of_one-returns-in-Library g t c =
    let p = program_of c.args.self.now.fixed (g.G.Callee.calls c.args.self.now.given)
    (g.G.Callee.keys c.args.self.now.given) in
    rw (library_call p c.args.name.now (outcome p c.args.arg.now) c.in-Library.f
    (rw c.in-Library.is at c.find_called-called.ensures) (env_of c.args.env.now) c.args.next.now)
    c.eval_call_of_library.ensures

pub Host::eval_late-returns-then-branch : goal.Host::eval_late-returns-then-branch
Host::eval_late-returns-then-branch g t c =
    let p = program_of c.args.self.now.fixed (g.G.Callee.calls c.args.self.now.given)
    (g.G.Callee.keys c.args.self.now.given) in
    c.late_walk.ensures p c.args.next.now

pub Host::eval_into-returns-in-Int : goal.Host::eval_into-returns-in-Int
Host::eval_into-returns-in-Int g t c =
    let p = program_of c.args.self.now.fixed (g.G.Callee.calls c.args.self.now.given)
    (g.G.Callee.keys c.args.self.now.given) in
    let fits : FitsSigned w64 c.in-Int.number = search rules in
    rw (c.in-Int.is, int_means p c.in-Int.number) (subst
    (λ (n : ℤ). Leaves c.put_integer.result c.put_integer.new.value c.args.next.now
    (literal n (env_of c.args.env.now) c.args.next.now)) (to_z-of_z w64 c.in-Int.number fits)
    (c.put_integer.ensures c.args.next.now))

pub Host::eval_into-returns-in-Var : goal.Host::eval_into-returns-in-Var
Host::eval_into-returns-in-Var g t c =
    let p = program_of c.args.self.now.fixed (g.G.Callee.calls c.args.self.now.given)
    (g.G.Callee.keys c.args.self.now.given) in
    rw (c.in-Var.is, var_means p c.in-Var.name) (c.put_variable.ensures
    (g.G.Callee.calls c.args.self.now.given) (g.G.Callee.keys c.args.self.now.given)
    c.args.next.now)

pub Host::eval_into-returns-in-Flwor : goal.Host::eval_into-returns-in-Flwor
Host::eval_into-returns-in-Flwor g t c =
    let p = program_of c.args.self.now.fixed (g.G.Callee.calls c.args.self.now.given)
    (g.G.Callee.keys c.args.self.now.given) in
    rw (c.in-Flwor.is, flow_means p c.in-Flwor.parts) c.eval_flwor.ensures

pub Host::eval_into-returns-in-Call : goal.Host::eval_into-returns-in-Call
Host::eval_into-returns-in-Call g t c =
    let p = program_of c.args.self.now.fixed (g.G.Callee.calls c.args.self.now.given)
    (g.G.Callee.keys c.args.self.now.given) in
    rw (
      c.in-Call.is,
      call_means p c.in-Call.name c.in-Call.args,
      ← c.get-in-Call.ensures,
      ←
          c.as_slice-in-Call.ensures,
    ) c.eval_call.ensures

pub Host::eval_flwor-eval_flwor-requires-clause-callable :
    goal.Host::eval_flwor-eval_flwor-requires-clause-callable
unfolding CanEvaluate
Host::eval_flwor-eval_flwor-requires-clause-callable g t c = λ env next e value h. search rules

pub Host::eval_flwor-eval_flwor-requires-clause-serves :
    goal.Host::eval_flwor-eval_flwor-requires-clause-serves
unfolding Evaluates
Host::eval_flwor-eval_flwor-requires-clause-serves g t c = search rules

pub Host::eval_direct-eval_direct-requires-clause-callable :
    goal.Host::eval_direct-eval_direct-requires-clause-callable
unfolding CanEvaluateBelow
Host::eval_direct-eval_direct-requires-clause-callable g t c = λ env next e value h. search rules

pub Host::eval_direct-eval_direct-requires-clause-serves :
    goal.Host::eval_direct-eval_direct-requires-clause-serves
unfolding Evaluates
Host::eval_direct-eval_direct-requires-clause-serves g t c = search rules

pub Host::eval_computed-eval_computed-requires-clause-callable :
    goal.Host::eval_computed-eval_computed-requires-clause-callable
unfolding CanEvaluateBelow
Host::eval_computed-eval_computed-requires-clause-callable g t c = λ env next e value h.
    search rules

pub Host::eval_computed-eval_computed-requires-clause-serves :
    goal.Host::eval_computed-eval_computed-requires-clause-serves
unfolding Evaluates
Host::eval_computed-eval_computed-requires-clause-serves g t c = search rules

pub Host::eval_item_form-eval_form-requires-clause-callable :
    goal.Host::eval_item_form-eval_form-requires-clause-callable
unfolding CanEvaluateBelow
Host::eval_item_form-eval_form-requires-clause-callable g t c = λ env next e value h. search rules

pub Host::eval_item_form-eval_form-requires-clause-serves :
    goal.Host::eval_item_form-eval_form-requires-clause-serves
unfolding Evaluates
Host::eval_item_form-eval_form-requires-clause-serves g t c = search rules

pub Host::eval_item_form-eval_form-requires-clause-late_callable :
    goal.Host::eval_item_form-eval_form-requires-clause-late_callable
unfolding CanEvaluateLate
Host::eval_item_form-eval_form-requires-clause-late_callable g t c = λ env next e h. search rules

pub Host::eval_item_form-eval_form-requires-clause-late_serves :
    goal.Host::eval_item_form-eval_form-requires-clause-late_serves
unfolding EvaluatesLate
Host::eval_item_form-eval_form-requires-clause-late_serves g t c = search rules
