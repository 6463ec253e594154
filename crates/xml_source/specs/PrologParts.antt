-- The fronts of the forms of the prolog that the code takes as wholes.
use Rattle.std.specs.Prelude.{ℕ, codes}
use Rattle.doc_grammar.specs.Forms.{Form, elsewhere, encoding, one, many, choice, literal}
use Rattle.doc_grammar.specs.Prolog.{is_one, is_letter, quoted, starts_colon_name, is_colon_name_char, is_in_public}

-- a letter of the name of the encoding
abbrev pub letter : ℕ → Form → Form
letter small f = one encoding (is_letter small) small f

-- the name of UTF-8 and the quote after it
abbrev pub utf8_name : ℕ → Form → Form
utf8_name q f = letter 117 (letter 116 (letter 102 (one encoding (is_one 45) 45 (one encoding (is_one 56) 56 (one encoding (is_one q) q f)))))

abbrev pub yes_or_no : Form → Form
yes_or_no f = choice (is_one 121) (literal (codes "yes") f) (literal (codes "no") f)

-- a name that may have colons
abbrev pub colon_name : Form → Form
colon_name f = one elsewhere starts_colon_name 97 (many is_colon_name_char f)

-- a public identifier in its quotes
abbrev pub public_literal : Form → Form
public_literal f = quoted (λ q. many (is_in_public q) (one elsewhere (is_one q) q f))
