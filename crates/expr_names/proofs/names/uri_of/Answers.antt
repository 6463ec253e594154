use Rattle.std.proofs.Common.{sym}
use Rattle.expr_names.proofs.UriLemmas.{uri_found, no_uri}
use Rattle.expr_names.proofs.names.uri_of.Goals as goal

pub returns-in-Some : goal.returns-in-Some
returns-in-Some c =
    rw (uri_found c.args.bound.now c.args.prefix.now c.in-Some.uri.now (sym c.in-Some.ensures)) c.copy.ensures

pub returns-in-None : goal.returns-in-None
returns-in-None c =
    rw (no_uri c.args.bound.now c.args.prefix.now (sym c.in-None.ensures)) c.no_text.ensures
