-- Tokens with texts that can be written, wherever the tokens stand.
use Rattle.std.specs.Prelude.{List, Bool, true}
use Rattle.std.specs.List.{list_all}
use Rattle.expr_keys.specs.declared.tokens.Token.{Token}
use Rattle.expr_keys.specs.declared.tokens.Token.TheVariants as token
use Rattle.query_pages.specs.TokenTexts.Written.{is_named, is_token}

-- names are NCNames, literals are of characters of XML, integers have 64 bits; characters of
-- content and of values are looked at where they are parted
abbrev pub is_fit : Token → Bool
is_fit (token.ChildTagOpen p n) = is_named p n
is_fit (token.Attribute p n) = is_named p n
is_fit token.AttributeEnd = true
is_fit token.TagEnd = true
is_fit token.EmptyEnd = true
is_fit (token.EndTag p n) = is_named p n
is_fit (token.Chars cs b) = true
is_fit token.EnclosedOpen = true
is_fit t = is_token t

abbrev pub are_fit : List Token → Bool
are_fit ts = list_all is_fit ts
