use Rattle.std.proofs.Common.{◌≡◌, map, drop}
use Rattle.expr_meaning.specs.Meaning.{outcome}
use Rattle.eval_scopes.specs.Scopes.{env_of, program_of}
use Rattle.expr_meaning.specs.Paths.{kept_in_turn}
use Rattle.path_eval.proofs.forms.ItemForm.eval_predicates.Given as goal

abbrev pub invariant-loop-test : goal.invariant-loop-test
invariant-loop-test g l =
    let p = program_of l.self.form.fixed.now (g.W.Calling.calls l.self.form.within.now)
    (g.W.Calling.keys l.self.form.within.now) in
    kept_in_turn (map (outcome p) (drop l.test-index l.tests)) (env_of l.env) l.kept l.next
    ≡ kept_in_turn (map (outcome p) l.tests) (env_of l.env) l.fn.items l.fn.next
