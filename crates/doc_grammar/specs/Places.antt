-- Places in a text, as bytes.
use Rattle.std.specs.Prelude.{◌≡◌, ℕ, List, ◌++◌, length, encode_utf8_all}
use Rattle.doc_grammar.specs.Lines.{text_of, lines}

-- So many bytes come before the rest of a text that is read: the characters are parted so that the first ones have so many bytes and are
-- read as what comes before the rest, and the others are read as the rest.
pub record IsPlace (cs rest : List ℕ) (at : ℕ) : Type 0 where
  pub before : List ℕ
  pub behind : List ℕ
  pub parts : cs ≡ before ++ behind
  pub bytes : at ≡ length (encode_utf8_all before)
  pub read_before : text_of cs ≡ text_of before ++ rest
  pub read_behind : lines behind ≡ rest
