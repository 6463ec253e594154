-- The pieces of direct elements (XQuery 1.0, 3.7.1). Characters are parted so that there is one
-- way to
-- read them: as many as stand for themselves are one piece, and a reference, a doubled brace or
-- quote
-- and a line end are a piece each. Pieces of any size mean the same.
use Rattle.std.specs.Prelude.{◌≡◌, ℕ, List, [], ◌∷◌, Bool, true, false, not, ◌&&◌, ◌||◌, ◌==◌}
use Rattle.std.specs.Prelude.{Option, Some, None, if◌then◌else◌}
use Rattle.expr_keys.specs.declared.tokens.Token.{Token}
use Rattle.expr_keys.specs.declared.tokens.Token.TheVariants as token
use Rattle.query_pieces.specs.Fronts.{run_of, rest_of, begins, eaten, spaces, NameAt, name_at}
use Rattle.query_pieces.specs.Points.{Quote, single, double, Context, enclosed, tag, attribute}
use Rattle.query_pieces.specs.Points.{content, Change, stays, enters, becomes, leaves}
use Rattle.query_pieces.specs.References.{reference_at}
use Rattle.xt_names.specs.Characters.{is_space, is_char}

-- a piece, what it does to what is open, and what is left after it
pub record Piece : Type 0 where
  pub token : Token
  pub change : Change
  pub rest : List ℕ

abbrev pub mark_of : Quote → ℕ
mark_of single = 39
mark_of double = 34

-- characters that stand so in the text, or that a reference is
abbrev pub literal : List ℕ → List ℕ → Piece
literal cs rest = record { token = token.Chars cs true; change = stays; rest = rest }

abbrev pub referred : ℕ × List ℕ → Piece
referred r = record { token = token.Chars (r.0 ∷ []) false; change = stays; rest = r.1 }

abbrev pub of_reference : Option (ℕ × List ℕ) → Option Piece
of_reference None = None
of_reference (Some r) = Some (referred r)

-- '{{' is a brace, and '{' begins an enclosed expression
abbrev pub opened : Option (List ℕ) → List ℕ → Piece
opened None ts = record { token = token.EnclosedOpen; change = enters enclosed; rest = ts }
opened (Some rest) ts = literal (123 ∷ []) rest

-- '}}' is a brace, and '}' alone does not stand here
abbrev pub closed : Option (List ℕ) → Option Piece
closed None = None
closed (Some rest) = Some (literal (125 ∷ []) rest)

-- a character that begins a piece in content and in a value alike
abbrev pub marked : ℕ → List ℕ → Option Piece
marked c ts =
    if c == 38 then of_reference (reference_at ts)
    else if c == 123 then Some (opened (eaten 123 ts) ts)
    else if c == 125 then closed (eaten 125 ts) else None

-- as many characters as stand for themselves; where none does, what else may stand here
abbrev pub run_or : List ℕ → List ℕ → Option Piece → Option Piece
run_or [] rest piece = piece
run_or (c ∷ cs) rest piece = Some (literal (c ∷ cs) rest)

-- what is left after the line feed that belongs to a carriage return (XML 1.0, 2.11)
abbrev pub behind_return : Option (List ℕ) → List ℕ → List ℕ
behind_return None ts = ts
behind_return (Some rest) ts = rest

abbrev pub line_end : ℕ → List ℕ → List ℕ
line_end c ts = if c == 13 then behind_return (eaten 10 ts) ts else ts

-- content

unfoldable pub is_content : ℕ → Bool
is_content c = is_char c && not (c == 60 || c == 38 || c == 123 || c == 125 || c == 13)

-- an end tag, after its name
abbrev pub shut : NameAt → Option (List ℕ) → Option Piece
shut n None = None
shut n (Some rest) = Some (record {
  token = token.EndTag n.prefix n.local;
  change = leaves;
  rest =
      rest;
})

abbrev pub shut_from : Option NameAt → Option Piece
shut_from None = None
shut_from (Some n) = shut n (eaten 62 (spaces n.rest))

abbrev pub inner_from : Option NameAt → Option Piece
inner_from None = None
inner_from (Some n) =
    Some (record { token = token.ChildTagOpen n.prefix n.local; change = enters tag; rest = n.rest })

-- '</' QName S? '>', or '<' QName, after the '<'
abbrev pub tag_from : Option (List ℕ) → List ℕ → Option Piece
tag_from None ts = inner_from (name_at ts)
tag_from (Some more) ts = shut_from (name_at more)

abbrev pub content_mark : List ℕ → Option Piece
content_mark [] = None
content_mark (c ∷ ts) =
    if c == 60 then tag_from (eaten 47 ts) ts
    else if c == 13 then Some (literal (10 ∷ []) (line_end 13 ts)) else marked c ts

-- DirElemContent ::= DirectConstructor | CommonContent | ElementContentChar, or an end tag
abbrev pub content_piece : List ℕ → Option Piece
content_piece ts = run_or (run_of is_content ts) (rest_of is_content ts) (content_mark ts)

-- values of attributes

unfoldable pub is_value : Quote → ℕ → Bool
is_value q c =
    is_char c && not (c == mark_of q || c == 60 || c == 38 || c == 123 || c == 125 || c == 9 || c
    == 10 || c == 13)

-- the quote doubled is a quote, and alone it ends the value
abbrev pub quoted : ℕ → Option (List ℕ) → List ℕ → Piece
quoted q None ts = record { token = token.AttributeEnd; change = leaves; rest = ts }
quoted q (Some rest) ts = literal (q ∷ []) rest

-- white space is a space (XML 1.0, 3.3.3)
abbrev pub value_mark : ℕ → List ℕ → Option Piece
value_mark q [] = None
value_mark q (c ∷ ts) =
    if c == q then Some (quoted q (eaten q ts) ts)
    else if is_space c then Some (literal (32 ∷ []) (line_end c ts)) else marked c ts

-- QuotAttrValueContent or AposAttrValueContent, or the closing quote
abbrev pub value_piece : Quote → List ℕ → Option Piece
value_piece q ts = run_or (run_of (is_value q) ts) (rest_of (is_value q) ts) (value_mark
    (mark_of q) ts)

-- tags

abbrev pub quote_from : Option (List ℕ) → Option (List ℕ) → Option (Quote × List ℕ)
quote_from (Some rest) other = Some (double, rest)
quote_from None (Some rest) = Some (single, rest)
quote_from None None = None

abbrev pub quote_at : List ℕ → Option (Quote × List ℕ)
quote_at ts = quote_from (eaten 34 ts) (eaten 39 ts)

abbrev pub value_from : NameAt → Option (Quote × List ℕ) → Option Piece
value_from n None = None
value_from n (Some q) =
    Some (record {
      token = token.Attribute n.prefix n.local;
      change = enters
          (attribute q.0);
      rest = q.1;
    })

abbrev pub equals_from : NameAt → Option (List ℕ) → Option Piece
equals_from n None = None
equals_from n (Some ts) = value_from n (quote_at (spaces ts))

-- QName S? "=" S? and the opening quote
abbrev pub attribute_from : Option NameAt → Option Piece
attribute_from None = None
attribute_from (Some n) = equals_from n (eaten 61 (spaces n.rest))

abbrev pub tag_end : List ℕ → Piece
tag_end rest = record { token = token.TagEnd; change = becomes content; rest = rest }

abbrev pub empty_end : Option (List ℕ) → Option Piece
empty_end None = None
empty_end (Some rest) = Some (record { token = token.EmptyEnd; change = leaves; rest = rest })

abbrev pub full_or : Option (List ℕ) → Option Piece → Option Piece
full_or None other = other
full_or (Some rest) other = Some (tag_end rest)

abbrev pub empty_or : Option (List ℕ) → Option Piece → Option Piece
empty_or None other = other
empty_or (Some ts) other = empty_end (eaten 62 ts)

-- '>', '/>', or after white space an attribute
abbrev pub tag_mark : Bool → List ℕ → Option Piece
tag_mark spaced ts =
    full_or (eaten 62 ts)
    (empty_or (eaten 47 ts) (if spaced then attribute_from (name_at ts) else None))

-- DirAttributeList ::= (S (QName S? "=" S? DirAttributeValue)?)*, and the end of a start tag
abbrev pub tag_piece : List ℕ → Option Piece
tag_piece ts = tag_mark (begins is_space ts) (spaces ts)

-- the piece that is at the front of the text, in this context
abbrev pub piece_at : Context → List ℕ → Option Piece
piece_at enclosed ts = None
piece_at tag ts = tag_piece ts
piece_at (attribute q) ts = value_piece q ts
piece_at content ts = content_piece ts

-- what the code found of it, and where it stands then
abbrev pub Finds : Option (Token × Change) → Option Piece → List ℕ → Type 0
Finds None a rest = a ≡ None
Finds (Some found) a rest = a ≡ Some (record { token = found.0; change = found.1; rest = rest })
