use Rattle.std.proofs.Common.{ℕ, sym, subst}
use Rattle.xpath_lex.specs.Runs.{is_inside}
use Rattle.xpath_lex.proofs.PartLemmas.{RunTaken, quote_is}
use Rattle.xpath_lex.proofs.scans.Scan.take_inside.Goals as goal
use Rattle.xt_names.specs.Characters.{Ends}

pub returns-else-quote-eq34-clause-taken : goal.returns-else-quote-eq34-clause-taken
returns-else-quote-eq34-clause-taken c =
    let P : ℕ → Type 0 = λ q. RunTaken (is_inside q) c.args.self.now c.take_run-else-quote-eq34.new.self in
    subst P (sym (quote_is c.args.quote c.requires c.if-quote-eq34.false)) c.take_run-else-quote-eq34.ensures.taken

pub returns-else-quote-eq34-clause-ends : goal.returns-else-quote-eq34-clause-ends
returns-else-quote-eq34-clause-ends c =
    let P : ℕ → Type 0 = λ q. Ends (is_inside q) c.take_run-else-quote-eq34.new.self in
    subst P (sym (quote_is c.args.quote c.requires c.if-quote-eq34.false)) c.take_run-else-quote-eq34.ensures.ends
