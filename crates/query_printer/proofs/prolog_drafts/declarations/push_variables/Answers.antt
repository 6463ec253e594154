use Rattle.std.proofs.Common.{◌≤◌, ◌<◌, ◌-◌, length, refl, arith}
use Rattle.std.proofs.Common.{◌∷◌, ◌++◌}
use Rattle.expr_keys.specs.declared.keys.Key.TheVariants as key
use Rattle.expr_keys.specs.declared.tokens.Token.TheVariants as token
use Rattle.printed_laws.specs.QueryRaws.Queries.{prolog_tokens}
use Rattle.printed_laws.specs.QueryRaws.Declarations.{variable}
use Rattle.query_printer.proofs.PrologDrafts.CanLemmas.{form_at}
use Rattle.expr_drafts.proofs.Turns.{start, turn, finish}
use Rattle.query_printer.proofs.prolog_drafts.declarations.push_variables.Goals as goal

pub loop-left-init : goal.loop-left-init
loop-left-init c = record {
  within = omega arith;
  same = start (λ v. variable c.args.prefixes.now v) (prolog_tokens) c.args.variables.now c.args.draft.now refl;
}

pub loop-left-preserved : goal.loop-left-preserved
loop-left-preserved c =
    let test = c.loop-left-test.true in
    let positive : 0 < c.loop-left.left = omega arith in
    let within : c.loop-left.left ≤ length c.args.variables.now = c.loop-left.invariant.within in
    record {
      within = omega arith;
      same = turn (λ v. variable c.args.prefixes.now v) (prolog_tokens) (λ f ts. f.tokens ++ token.Key key.Semicolon ∷ ts)
          (λ b bs ts. refl) c.args.variables.now
          c.loop-left.left c.index-variables-left.result c.index-variables-left.result _ _ _
          positive within c.index-variables-left.is c.loop-left.invariant.same
          c.in_ok-push_variable.ensures;
    }

pub returns : goal.returns
returns c = finish (λ v. variable c.args.prefixes.now v) (prolog_tokens) c.args.variables.now c.loop-left.left _ _
    c.loop-left-test.false c.loop-left.invariant.same

pub push_variable-requires : goal.push_variable-requires
push_variable-requires c =
    let less : c.loop-left.left - 1 < length c.args.variables.now = omega arith in
    form_at (λ v. variable c.args.prefixes.now v) c.args.variables.now (c.loop-left.left - 1)
    c.index-variables-left.result c.requires less c.index-variables-left.is
