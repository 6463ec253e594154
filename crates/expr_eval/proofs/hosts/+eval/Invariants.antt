use Rattle.std.proofs.Common.{◌≡◌, ◌+◌, map, drop, ◌*◌}
use Rattle.expr_meaning.specs.Meaning.{outcome}
use Rattle.eval_scopes.specs.Scopes.{env_of, program_of}
use Rattle.eval_steps.specs.Sizes.{nodes, arm_nodes, flwor_nodes}
use Rattle.xt_syntax.specs.declared.exprs.Expr.{Expr}
use Rattle.expr_meaning.specs.Logic.{first_of, choice_of}
use Rattle.expr_meaning.specs.Values.{comma_of}
use Rattle.expr_meaning.specs.Calls.{listed, lists_of}
use Rattle.eval_steps.specs.Parts.{arm_outcome}
use Rattle.eval_steps.proofs.Follow.{Gathers}
use Rattle.expr_eval.proofs.hosts.+eval.Given as goal
use Rattle.xt_names.specs.Lists.{total}

abbrev pub decreases-Host::eval_into : goal.decreases-Host::eval_into
decreases-Host::eval_into g l = 16 * nodes l.e.now + 2

abbrev pub decreases-Host::eval : goal.decreases-Host::eval
decreases-Host::eval g l = 16 * nodes l.e.now + 3

abbrev pub decreases-Host::eval_comma : goal.decreases-Host::eval_comma
decreases-Host::eval_comma g l = 16 * total (map nodes l.all.now) + 4

abbrev pub decreases-Host::eval_truth : goal.decreases-Host::eval_truth
decreases-Host::eval_truth g l = 16 * nodes l.e.now + 4

abbrev pub decreases-Host::eval_first : goal.decreases-Host::eval_first
decreases-Host::eval_first g l = 16 * total (map nodes l.all.now) + 5

abbrev pub decreases-Host::eval_or : goal.decreases-Host::eval_or
decreases-Host::eval_or g l = 16 * total (map nodes l.all.now) + 6

abbrev pub decreases-Host::eval_and : goal.decreases-Host::eval_and
decreases-Host::eval_and g l = 16 * total (map nodes l.all.now) + 6

abbrev pub decreases-Host::eval_if : goal.decreases-Host::eval_if
decreases-Host::eval_if g l = 16 * (total (map arm_nodes l.arms.now) + nodes l.other.now) + 5

abbrev pub decreases-Host::eval_one : goal.decreases-Host::eval_one
decreases-Host::eval_one g l = 16 * nodes l.a.now + 4

abbrev pub decreases-Host::eval_treat : goal.decreases-Host::eval_treat
decreases-Host::eval_treat g l = 16 * nodes l.a.now + 4

abbrev pub decreases-Host::eval_two : goal.decreases-Host::eval_two
decreases-Host::eval_two g l = 16 * (nodes l.a.now + nodes l.b.now) + 5

abbrev pub decreases-Host::eval_instance : goal.decreases-Host::eval_instance
decreases-Host::eval_instance g l = 16 * nodes l.a.now + 4

abbrev pub decreases-Host::eval_call : goal.decreases-Host::eval_call
decreases-Host::eval_call g l = 16 * total (map nodes l.args.now) + 8

abbrev pub decreases-Host::eval_call_of_many : goal.decreases-Host::eval_call_of_many
decreases-Host::eval_call_of_many g l = 16 * total (map nodes l.args.now) + 7

abbrev pub decreases-Host::eval_call_of_one : goal.decreases-Host::eval_call_of_one
decreases-Host::eval_call_of_one g l = 16 * nodes l.arg.now + 7

abbrev pub decreases-Host::eval_call_of_library : goal.decreases-Host::eval_call_of_library
decreases-Host::eval_call_of_library g l = 16 * nodes l.arg.now + 6

abbrev pub decreases-Host::eval_late : goal.decreases-Host::eval_late
decreases-Host::eval_late g l = 16 * nodes l.e.now + 4

abbrev pub decreases-Host::eval_range : goal.decreases-Host::eval_range
decreases-Host::eval_range g l = 16 * (nodes l.a.now + nodes l.b.now) + 4

abbrev pub decreases-Host::eval_args : goal.decreases-Host::eval_args
decreases-Host::eval_args g l = 16 * total (map nodes l.args.now) + 4

abbrev pub decreases-Host::eval_flwor : goal.decreases-Host::eval_flwor
decreases-Host::eval_flwor g l = 16 * flwor_nodes l.parts.now + 5

abbrev pub decreases-Host::eval_flwor-eval : goal.decreases-Host::eval_flwor-eval
decreases-Host::eval_flwor-eval g l = 16 * flwor_nodes l.parts.now + 4

abbrev pub decreases-Host::eval_direct : goal.decreases-Host::eval_direct
decreases-Host::eval_direct g l = 16 * nodes l.whole.now + 1

abbrev pub decreases-Host::eval_direct-eval : goal.decreases-Host::eval_direct-eval
decreases-Host::eval_direct-eval g l = 16 * nodes l.whole.now

abbrev pub decreases-Host::eval_computed : goal.decreases-Host::eval_computed
decreases-Host::eval_computed g l = 16 * nodes l.whole.now + 1

abbrev pub decreases-Host::eval_computed-eval : goal.decreases-Host::eval_computed-eval
decreases-Host::eval_computed-eval g l = 16 * nodes l.whole.now

abbrev pub decreases-Host::eval_item_form : goal.decreases-Host::eval_item_form
decreases-Host::eval_item_form g l = 16 * nodes l.whole.now + 1

abbrev pub decreases-Host::eval_item_form-eval : goal.decreases-Host::eval_item_form-eval
decreases-Host::eval_item_form-eval g l = 16 * nodes l.whole.now

abbrev pub decreases-Host::eval_item_form-late : goal.decreases-Host::eval_item_form-late
decreases-Host::eval_item_form-late g l = 16 * nodes l.whole.now

abbrev pub invariant-Host::eval_comma-loop-e : goal.invariant-Host::eval_comma-loop-e
invariant-Host::eval_comma-loop-e g l =
    let p = program_of l.self.fixed (g.G.Callee.calls l.self.given) (g.G.Callee.keys l.self.given) in
    Gathers (λ (e : Expr). outcome p e (env_of l.env)) l.all
    (comma_of (map (outcome p) l.all) (env_of l.env) l.fn.next) l.list l.e-index l.next

abbrev pub invariant-Host::eval_first-loop-e : goal.invariant-Host::eval_first-loop-e
invariant-Host::eval_first-loop-e g l =
    let p = program_of l.self.fixed (g.G.Callee.calls l.self.given) (g.G.Callee.keys l.self.given) in
    first_of l.decisive (map (outcome p) (drop l.e-index l.all)) (env_of l.env) l.next
    ≡ first_of l.decisive (map (outcome p) l.all) (env_of l.env) l.fn.next

abbrev pub invariant-Host::eval_if-loop-arm : goal.invariant-Host::eval_if-loop-arm
invariant-Host::eval_if-loop-arm g l =
    let p = program_of l.self.fixed (g.G.Callee.calls l.self.given) (g.G.Callee.keys l.self.given) in
    choice_of (map (arm_outcome p) (drop l.arm-index l.arms)) (outcome p l.other) (env_of l.env) l.next
    ≡ choice_of (map (arm_outcome p) l.arms) (outcome p l.other) (env_of l.env) l.fn.next

abbrev pub invariant-Host::eval_args-loop-e : goal.invariant-Host::eval_args-loop-e
invariant-Host::eval_args-loop-e g l =
    let p = program_of l.self.fixed (g.G.Callee.calls l.self.given) (g.G.Callee.keys l.self.given) in
    Gathers (λ (e : Expr). listed (env_of l.env) (outcome p e)) l.args
    (lists_of (map (outcome p) l.args) (env_of l.env) l.fn.next) l.lists.items l.e-index l.next
