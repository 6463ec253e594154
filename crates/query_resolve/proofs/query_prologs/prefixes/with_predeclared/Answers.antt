use Rattle.std.proofs.Common.{◌≡◌, List, IfOk, subst}
use Rattle.xt_names.specs.declared.names.Binding.{Binding}
use Rattle.query_resolve.proofs.QueryPrologs.BindingLemmas.{five_more}
use Rattle.query_resolve.proofs.query_prologs.prefixes.with_predeclared.Goals as goal

pub returns : goal.returns
returns c =
    subst (λ (bs : List Binding). IfOk c.with_binding-5.result (λ more. more ≡ bs))
    (five_more c.args.bound c.in_ok-a.a c.in_ok-b.b c.in_ok-c.c c.in_ok-d.d _ _ _ _ _
    c.in_ok-a.ensures c.in_ok-b.ensures c.in_ok-c.ensures c.in_ok-d.ensures)
    c.with_binding-5.ensures
