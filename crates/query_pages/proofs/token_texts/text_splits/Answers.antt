use Rattle.query_pages.proofs.TokenTexts.Split.{text_splits as law}
use Rattle.query_pages.proofs.token_texts.text_splits.Goals as goal

pub returns : goal.returns
returns c = λ layout ts g e. law layout g ts e
