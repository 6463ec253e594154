-- The characters of a literal, without its quotes, are those of XML.
use Rattle.std.proofs.Common.{◌≡◌, ℕ, List, [], true}
use Rattle.xt_names.specs.Classes.{is_xml_text}
use Rattle.xpath_lex.specs.Tokens.{IsToken}
use Rattle.xpath_lex.specs.declared.lexing.TokenKind.TheVariants.{Literal}
use Rattle.expr_tokens.specs.Literals.{unquoted}
use Rattle.piece_laws.proofs.Literals.{chars_text, unquoted_chars}

pub unquoted_sound : (cs : List ℕ) → IsToken Literal cs → is_xml_text (unquoted cs) ≡ true
unquoted_sound cs i = chars_text (unquoted cs) (unquoted_chars cs i)
