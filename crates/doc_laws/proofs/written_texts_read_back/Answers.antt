use Rattle.std.proofs.Common.{[]}
use Rattle.doc_laws.proofs.Texts.{text_back, value_back}
use Rattle.doc_laws.proofs.written_texts_read_back.Goals as goal

pub returns : goal.returns
returns c = record {
  texts = λ rules k n scope front text ts rest kids. text_back rules k scope ts rest kids n front text;
  values = λ value rest. value_back [] value rest;
}
