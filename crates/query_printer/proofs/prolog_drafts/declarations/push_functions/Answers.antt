use Rattle.std.proofs.Common.{◌≤◌, ◌<◌, ◌-◌, length, refl, arith}
use Rattle.std.proofs.Common.{◌∷◌, ◌++◌}
use Rattle.expr_keys.specs.declared.keys.Key.TheVariants as key
use Rattle.expr_keys.specs.declared.tokens.Token.TheVariants as token
use Rattle.printed_laws.specs.QueryRaws.Queries.{prolog_tokens}
use Rattle.printed_laws.specs.QueryRaws.Declarations.{function}
use Rattle.query_printer.proofs.PrologDrafts.CanLemmas.{form_at}
use Rattle.expr_drafts.proofs.Turns.{start, turn, finish}
use Rattle.query_printer.proofs.prolog_drafts.declarations.push_functions.Goals as goal

pub loop-left-init : goal.loop-left-init
loop-left-init c = record {
  within = omega arith;
  same = start (λ f. function c.args.prefixes.now f) (prolog_tokens) c.args.functions.now c.args.draft.now refl;
}

pub loop-left-preserved : goal.loop-left-preserved
loop-left-preserved c =
    let test = c.loop-left-test.true in
    let positive : 0 < c.loop-left.left = omega arith in
    let within : c.loop-left.left ≤ length c.args.functions.now = c.loop-left.invariant.within in
    record {
      within = omega arith;
      same = turn (λ f. function c.args.prefixes.now f) (prolog_tokens) (λ f ts. f.tokens ++ token.Key key.Semicolon ∷ ts)
          (λ b bs ts. refl) c.args.functions.now
          c.loop-left.left c.index-functions-left.result c.index-functions-left.result _ _ _
          positive within c.index-functions-left.is c.loop-left.invariant.same
          c.in_ok-push_function.ensures;
    }

pub returns : goal.returns
returns c = finish (λ f. function c.args.prefixes.now f) (prolog_tokens) c.args.functions.now c.loop-left.left _ _
    c.loop-left-test.false c.loop-left.invariant.same

pub push_function-requires : goal.push_function-requires
push_function-requires c =
    let less : c.loop-left.left - 1 < length c.args.functions.now = omega arith in
    form_at (λ f. function c.args.prefixes.now f) c.args.functions.now (c.loop-left.left - 1)
    c.index-functions-left.result c.requires less c.index-functions-left.is
