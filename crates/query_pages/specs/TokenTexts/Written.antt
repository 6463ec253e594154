-- Which tokens can be written.
use Rattle.std.specs.Prelude.{ℕ, ℤ, pos, Bool, true, false, ◌&&◌, ◌||◌, nat_le, not}
use Rattle.std.specs.Prelude.{List, [], ◌∷◌, is_some, if◌then◌else◌}
use Rattle.std.specs.List.{list_all}
use Rattle.xt_names.specs.Classes.{is_ncname_text}
use Rattle.expr_keys.specs.declared.tokens.Token.{Token}
use Rattle.expr_keys.specs.declared.tokens.Token.TheVariants as token
use Rattle.expr_tokens.specs.Words.{key_of_word}
use Rattle.query_pieces.specs.declared.contexts.Context.{Context}
use Rattle.query_pieces.specs.declared.contexts.Quote.TheVariants.{Double as double}
use Rattle.query_pieces.specs.declared.contexts.Context.TheVariants.{Tag as tag}
use Rattle.query_pieces.specs.declared.contexts.Context.TheVariants.{Attribute as attribute}
use Rattle.query_pieces.specs.declared.contexts.Context.TheVariants.{Content as content}
use Rattle.query_pieces.specs.Points.{in_expression}
use Rattle.query_pieces.specs.Elements.{is_content, is_value}
use Rattle.query_pages.specs.TokenTexts.Spellings.{is_doubled}
use Rattle.query_pages.specs.TokenTexts.Texts.{innermost, behind_token, behind_piece}
use Rattle.xt_names.specs.Characters.{is_referred, is_char}

-- a name with a prefix or without
abbrev pub is_named : List ℕ → List ℕ → Bool
is_named [] n = is_ncname_text n
is_named (c ∷ cs) n = is_ncname_text (c ∷ cs) && is_ncname_text n

-- an integer of 64 bits without a sign
abbrev pub is_counted : ℤ → Bool
is_counted (pos n) = nat_le n 9223372036854775807
is_counted _ = false

-- a token of expressions, or the front of an element: a name is not written as a key is
abbrev pub is_token : Token → Bool
is_token (token.Key k) = true
is_token (token.Name n) = is_ncname_text n && not (is_some (key_of_word n))
is_token (token.Qname p n) = is_ncname_text p && is_ncname_text n
is_token (token.AnyLocal p) = is_ncname_text p
is_token (token.AnyPrefix n) = is_ncname_text n
is_token (token.Digits n) = is_counted n
is_token (token.Quoted cs) = list_all is_char cs
is_token (token.StartTagOpen p n) = is_named p n
is_token _ = false

-- whether the character stands for itself in content or in a value
abbrev pub is_itself : Context → ℕ → Bool
is_itself (attribute q) c = is_value double c
is_itself _ c = is_content c

-- the next piece is characters that would join those before them
abbrev pub joins : Context → List Token → Bool
joins x (token.Chars (c ∷ cs) true ∷ ts) = is_itself x c
joins x _ = false

-- as many characters as stand for themselves, a brace or a quote, or one that a reference is
abbrev pub is_chars : Context → List ℕ → Bool → List Token → Bool
is_chars x [] b ts = false
is_chars x (c ∷ []) true ts = is_doubled x c || (is_itself x c && not (joins x ts))
is_chars x (c ∷ d ∷ cs) true ts = list_all (is_itself x) (c ∷ d ∷ cs) && not (joins x ts)
is_chars x (c ∷ []) false ts = is_referred c
is_chars x (c ∷ d ∷ cs) false ts = false

-- a piece in this context, before these
abbrev pub is_piece : Context → Token → List Token → Bool
is_piece tag (token.Attribute p n) ts = is_named p n
is_piece tag token.TagEnd ts = true
is_piece tag token.EmptyEnd ts = true
is_piece (attribute double) (token.Chars cs b) ts = is_chars (attribute double) cs b ts
is_piece (attribute double) token.EnclosedOpen ts = true
is_piece (attribute double) token.AttributeEnd ts = true
is_piece content (token.Chars cs b) ts = is_chars content cs b ts
is_piece content token.EnclosedOpen ts = true
is_piece content (token.ChildTagOpen p n) ts = is_named p n
is_piece content (token.EndTag p n) ts = is_named p n
is_piece _ _ ts = false

abbrev pub is_over : List Context → Bool
is_over [] = true
is_over (c ∷ cs) = false

-- the tokens can be written where these contexts are open, and close them
abbrev pub is_written_in : List Context → List Token → Bool
is_written_in cs [] = is_over cs
is_written_in cs (t ∷ ts) =
    if in_expression cs then is_token t && is_written_in (behind_token cs t) ts
    else is_piece (innermost cs) t ts && is_written_in (behind_piece cs t) ts

abbrev pub is_written : List Token → Bool
is_written ts = is_written_in [] ts
