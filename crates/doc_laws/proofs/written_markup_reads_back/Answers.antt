use Rattle.doc_laws.proofs.Markup.{comment_back, pi_back}
use Rattle.doc_laws.proofs.written_markup_reads_back.Goals as goal

pub returns : goal.returns
returns c = record { comments = comment_back; instructions = pi_back }
