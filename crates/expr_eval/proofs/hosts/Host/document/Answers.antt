use Rattle.expr_eval.proofs.hosts.Host.document.Goals as goal

pub returns : goal.returns
returns g c = λ k.
    rw (← c.argument.ensures) (c.document_value.ensures (g.G.Callee.calls c.args.self.now.given)
    (g.G.Callee.keys c.args.self.now.given) k)
