-- The XML declaration and the document type declaration, as forms (XML 1.0, 2.8 and 4.3.3).
use Rattle.std.specs.Prelude.{ℕ, Bool, not, ◌&&◌, ◌||◌, ◌==◌, ◌-◌, codes}
use Rattle.doc_grammar.specs.Characters.{is_between}
use Rattle.doc_grammar.specs.Forms.{Form, elsewhere, encoding, doctype_end, last, one, many, choice, literal, some_of}
use Rattle.xt_names.specs.Characters.{is_space, is_char, starts_name, is_name_char}

abbrev pub is_one : ℕ → ℕ → Bool
is_one d c = c == d

-- an ASCII letter, in any case; `small` is the small one
abbrev pub is_letter : ℕ → ℕ → Bool
is_letter small c = c == small || c == small - 32

-- S
abbrev pub space : Form → Form
space f = some_of is_space 32 f

-- Eq ::= S? '=' S?
abbrev pub equals : Form → Form
equals f = many is_space (one elsewhere (is_one 61) 61 (many is_space f))

-- what is in quotes, which is given its quote: '"' .. '"' | "'" .. "'"
abbrev pub quoted : (ℕ → Form) → Form
quoted inner = choice (is_one 34) (one elsewhere (is_one 34) 34 (inner 34)) (one elsewhere (is_one 39) 39 (inner 39))

-- S? '?>'
abbrev pub declaration_end : Form
declaration_end = many is_space (one elsewhere (is_one 63) 63 (last elsewhere (is_one 62) 62))

-- SDDecl ::= S 'standalone' Eq (("'" ('yes' | 'no') "'") | ('"' ('yes' | 'no') '"')), after its white space
abbrev pub standalone : Form
standalone =
    literal (codes "standalone") (equals (quoted (λ q. choice (is_one 121) (literal (codes "yes") (one elsewhere (is_one q) q declaration_end)) (literal (codes "no") (one elsewhere (is_one q) q declaration_end)))))

-- S? '?>', or first S and what may stand here, which begins with this character
abbrev pub or_end : ℕ → Form → Form → Form
or_end c f otherwise = choice is_space (space (choice (is_one c) f otherwise)) declaration_end

-- EncodingDecl ::= S 'encoding' Eq ('"' EncName '"' | "'" EncName "'"), after its white space; the name is UTF-8 in any case
abbrev pub encoding_name : ℕ → Form
encoding_name q =
    one encoding (is_letter 117) 117 (one encoding (is_letter 116) 116 (one encoding (is_letter 102) 102 (one encoding (is_one 45) 45 (one encoding (is_one 56) 56
    (one encoding (is_one q) q (or_end 115 standalone declaration_end))))))

abbrev pub encoding_declaration : Form
encoding_declaration = literal (codes "encoding") (equals (quoted encoding_name))

-- VersionNum ::= '1.' [0-9]+
abbrev pub version_number : ℕ → Form
version_number q =
    literal (codes "1.") (some_of (is_between 48 57) 48 (one elsewhere (is_one q) q
    (or_end 101 encoding_declaration (choice (is_one 115) standalone declaration_end))))

-- XMLDecl ::= '<?xml' VersionInfo EncodingDecl? SDDecl? S? '?>', after `<?xml`; VersionInfo ::= S 'version' Eq quoted VersionNum
unfoldable pub xml_declaration : Form
xml_declaration = space (literal (codes "version") (equals (quoted version_number)))

-- a name with colons (production Name)
abbrev pub starts_colon_name : ℕ → Bool
starts_colon_name c = starts_name c || c == 58

abbrev pub is_colon_name_char : ℕ → Bool
is_colon_name_char c = is_name_char c || c == 58

-- a character of a public identifier that is no quote: #x20 | #xD | #xA | [a-zA-Z0-9] | [-()+,./:=?;!*#@$_%]
abbrev pub is_public_char : ℕ → Bool
is_public_char c =
    c == 32 || c == 10 || c == 13 || is_between 97 122 c || is_between 65 90 c || is_between 48 57 c || is_between 40 47 c || is_between 58 59 c || c == 61
    || is_between 63 64 c || c == 33 || c == 35 || c == 36 || c == 37 || c == 95

-- PubidLiteral ::= '"' PubidChar* '"' | "'" (PubidChar - "'")* "'"; the characters between its quotes
abbrev pub is_in_public : ℕ → ℕ → Bool
is_in_public q c = is_public_char c || (c == 39 && not (q == 39))

-- S? '>'
abbrev pub doctype_close : Form
doctype_close = many is_space (last doctype_end (is_one 62) 62)

-- a character of a system identifier between such quotes
abbrev pub is_in_system : ℕ → ℕ → Bool
is_in_system q c = is_char c && not (c == q)

-- SystemLiteral ::= ('"' [^"]* '"') | ("'" [^']* "'"), and the end
abbrev pub system_literal : Form
system_literal = quoted (λ q. many (is_in_system q) (one elsewhere (is_one q) q doctype_close))

-- ExternalID ::= 'SYSTEM' S SystemLiteral | 'PUBLIC' S PubidLiteral S SystemLiteral, and the end
abbrev pub system_id : Form
system_id = literal (codes "SYSTEM") (space system_literal)

abbrev pub public_id : Form
public_id = literal (codes "PUBLIC") (space (quoted (λ q. many (is_in_public q) (one elsewhere (is_one q) q (space system_literal)))))

-- doctypedecl ::= '<!DOCTYPE' S Name (S ExternalID)? S? '>', after `<!`; an internal subset is no part of it
unfoldable pub doctype_declaration : Form
doctype_declaration =
    literal (codes "DOCTYPE") (space (one elsewhere starts_colon_name 97 (many is_colon_name_char
    (choice is_space (space (choice (is_one 83) system_id (choice (is_one 80) public_id doctype_close))) doctype_close))))
