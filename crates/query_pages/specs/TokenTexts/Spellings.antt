-- How the tokens of expressions and the pieces of direct elements are written (XQuery 1.0, 3.1.1,
-- 3.7.1 and A.2).
use Rattle.std.specs.Prelude.{ℕ, ℤ, pos, Bool, true, false, ◌||◌, ◌==◌, decimal, codes}
use Rattle.std.specs.Prelude.{List, [], ◌∷◌, ◌++◌, if◌then◌else◌}
use Rattle.expr_keys.specs.Keys.{key_text}
use Rattle.expr_keys.specs.declared.tokens.Token.{Token}
use Rattle.expr_keys.specs.declared.tokens.Token.TheVariants as token
use Rattle.query_pieces.specs.declared.contexts.Context.{Context}
use Rattle.query_pieces.specs.declared.contexts.Context.TheVariants.{Attribute as attribute}

-- a prefix, if there is one, and a local name
abbrev pub name_text : List ℕ → List ℕ → List ℕ
name_text [] n = n
name_text (c ∷ cs) n = (c ∷ cs) ++ 58 ∷ n

-- a predefined entity where there is one, else the number of the character
abbrev pub reference_text : ℕ → List ℕ
reference_text c =
    if c == 38 then codes "&amp;" else if c == 60 then codes "&lt;"
    else if c == 62 then codes "&gt;" else if c == 34 then codes "&quot;"
    else if c == 39 then codes "&apos;" else if c == 9 then codes "&#9;"
    else if c == 10 then codes "&#10;" else if c == 32 then codes "&#32;" else codes "&#13;"

-- a character of a literal between double quotes
abbrev pub said_text : ℕ → List ℕ
said_text c =
    if c == 34 then 34 ∷ 34 ∷ [] else if c == 38 then codes "&amp;"
    else if c == 13 then codes "&#13;" else c ∷ []

abbrev pub said_texts : List ℕ → List ℕ
said_texts [] = []
said_texts (c ∷ cs) = said_text c ++ said_texts cs

abbrev pub literal_text : List ℕ → List ℕ
literal_text cs = 34 ∷ (said_texts cs ++ 34 ∷ [])

abbrev pub number_text : ℤ → List ℕ
number_text (pos n) = decimal n
number_text _ = []

-- characters of content or of a value between double quotes: a brace or a quote is doubled
abbrev pub is_doubled : Context → ℕ → Bool
is_doubled (attribute q) c = c == 34 || (c == 123 || c == 125)
is_doubled _ c = c == 123 || c == 125

abbrev pub run_text : Context → List ℕ → List ℕ
run_text x [] = []
run_text x (c ∷ []) = if is_doubled x c then c ∷ c ∷ [] else c ∷ []
run_text x (c ∷ d ∷ cs) = c ∷ d ∷ cs

abbrev pub referred_text : List ℕ → List ℕ
referred_text [] = []
referred_text (c ∷ cs) = reference_text c

abbrev pub chars_text : Context → List ℕ → Bool → List ℕ
chars_text x cs true = run_text x cs
chars_text x cs false = referred_text cs

-- a token of expressions, or the front of an element
abbrev pub token_text : Token → List ℕ
token_text (token.Key k) = key_text k
token_text (token.Name n) = n
token_text (token.Qname p n) = p ++ 58 ∷ n
token_text (token.AnyLocal p) = p ++ 58 ∷ 42 ∷ []
token_text (token.AnyPrefix n) = 42 ∷ 58 ∷ n
token_text (token.Digits n) = number_text n
token_text (token.Quoted cs) = literal_text cs
token_text (token.StartTagOpen p n) = 60 ∷ name_text p n
token_text _ = []

-- a piece in this context; an attribute brings the space before it
abbrev pub piece_text : Context → Token → List ℕ
piece_text x (token.ChildTagOpen p n) = 60 ∷ name_text p n
piece_text x (token.Attribute p n) = 32 ∷ (name_text p n ++ 61 ∷ 34 ∷ [])
piece_text x token.AttributeEnd = 34 ∷ []
piece_text x token.TagEnd = 62 ∷ []
piece_text x token.EmptyEnd = 47 ∷ 62 ∷ []
piece_text x (token.EndTag p n) = 60 ∷ 47 ∷ (name_text p n ++ 62 ∷ [])
piece_text x (token.Chars cs b) = chars_text x cs b
piece_text x token.EnclosedOpen = 123 ∷ []
piece_text x _ = []
