use Rattle.std.proofs.Common.{sym, ◌∙◌}
use Rattle.xpath_lex.proofs.PartLemmas.{eat_first, literal_taken, literal_none, none_taken}
use Rattle.xpath_lex.proofs.scans.Scan.take_literal.Goals as goal

pub returns-in_err-end : goal.returns-in_err-end
returns-in_err-end c =
    let ts = eat_first _ c.args.quote _ _ _ c.eat-opened.ensures c.requires.first.1 in
    none_taken _ _ _ c.from_residual.ensures (literal_none c.args.quote _ _ c.requires.first.1 c.requires.quote (rw ts at (sym c.in_err-end.was ∙ c.find_end.ensures)))

pub returns : goal.returns
returns c =
    let ts = eat_first _ c.args.quote _ _ _ c.eat-opened.ensures c.requires.first.1 in
    literal_taken c.args.quote _ _ _ c.requires.first.1 c.requires.quote (rw ts at (sym c.in_ok-end.was ∙ c.find_end.ensures))
