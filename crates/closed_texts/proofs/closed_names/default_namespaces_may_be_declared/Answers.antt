use Rattle.closed_texts.proofs.ClosedNames.Uris.{default_uri_free}
use Rattle.closed_texts.proofs.closed_names.default_namespaces_may_be_declared.Goals as goal

pub returns : goal.returns
returns c = default_uri_free
