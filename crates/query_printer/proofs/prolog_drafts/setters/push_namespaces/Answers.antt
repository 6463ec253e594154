use Rattle.std.proofs.Common.{◌≤◌, ◌<◌, length, refl, arith}
use Rattle.std.proofs.Common.{◌∷◌, ◌++◌}
use Rattle.expr_keys.specs.declared.keys.Key.TheVariants as key
use Rattle.expr_keys.specs.declared.tokens.Token.TheVariants as token
use Rattle.printed_laws.specs.QueryRaws.Queries.{prolog_tokens}
use Rattle.printed_laws.specs.QueryRaws.Prologs.{namespace}
use Rattle.expr_drafts.proofs.Turns.{start, turn, finish}
use Rattle.query_printer.proofs.prolog_drafts.setters.push_namespaces.Goals as goal

pub loop-left-init : goal.loop-left-init
loop-left-init c = record {
  within = omega arith;
  same = start (λ b. namespace b) (prolog_tokens) c.args.bindings.now c.args.draft.now refl;
}

pub loop-left-preserved : goal.loop-left-preserved
loop-left-preserved c =
    let test = c.loop-left-test.true in
    let positive : 0 < c.loop-left.left = omega arith in
    let within : c.loop-left.left ≤ length c.args.bindings.now = c.loop-left.invariant.within in
    record {
      within = omega arith;
      same = turn (λ b. namespace b) (prolog_tokens) (λ f ts. f.tokens ++ token.Key key.Semicolon ∷ ts)
          (λ b bs ts. refl) c.args.bindings.now
          c.loop-left.left c.index-bindings-left.result c.index-bindings-left.result _ _ _
          positive within c.index-bindings-left.is c.loop-left.invariant.same
          c.in_ok-push_namespace.ensures;
    }

pub returns : goal.returns
returns c = finish (λ b. namespace b) (prolog_tokens) c.args.bindings.now c.loop-left.left _ _
    c.loop-left-test.false c.loop-left.invariant.same
