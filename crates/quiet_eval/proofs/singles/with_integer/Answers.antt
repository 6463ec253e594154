use Rattle.std.proofs.Common.{ap, sym, ◌∙◌, length}
use Rattle.quiet_meaning.proofs.HoldLemmas.{number_compares}
use Rattle.quiet_meaning.specs.Quietly.{quietly_of}
use Rattle.quiet_eval.specs.Subjects.{subject_number}
use Rattle.quiet_eval.proofs.JudgeLemmas.{number_is, integer_nodes}
use Rattle.quiet_eval.proofs.singles.with_integer.Goals as goal
use Rattle.quiet_eval.specs.QuietPlaces.Free.{focus}

pub returns-in-Some : goal.returns-in-Some
returns-in-Some c =
    let f = focus c.args.node.now c.args.position c.args.size in
    let m = number_is c.args.op c.args.k.now c.args.a.now f c.requires.form in
    let e = ap (λ n. subject_number c.args.a.now (length n) c.args.position c.args.size) c.requires.nodes in
    c.integer_compares.ensures ∙ number_compares c.args.op c.args.k.now (quietly_of c.args.a.now) f c.in-Some.n (sym m ∙ sym e ∙ sym c.number.ensures ∙ c.in-Some.is)

pub returns-in-None : goal.returns-in-None
returns-in-None c =
    let f = focus c.args.node.now c.args.position c.args.size in
    let e = ap (λ n. subject_number c.args.a.now (length n) c.args.position c.args.size) c.requires.nodes in
    rw (← integer_nodes c.args.op c.args.k.now c.args.a.now f c.requires.form (sym e ∙ sym c.number.ensures ∙ c.in-None.is), ← c.requires.nodes) c.integer_compares_some.ensures
