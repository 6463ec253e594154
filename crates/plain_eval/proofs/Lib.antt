mod PlainLemmas
