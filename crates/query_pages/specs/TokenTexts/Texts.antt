-- The text of tokens and pieces: white space that a layout chooses comes before each token of
-- expressions but the first, and nothing between the pieces of direct elements.
use Rattle.std.specs.Prelude.{◌≡◌, ℕ, Bool, true, false, List, [], ◌∷◌, ◌++◌, if◌then◌else◌}
use Rattle.std.specs.List.{list_all}
use Rattle.expr_keys.specs.declared.tokens.Token.{Token}
use Rattle.expr_keys.specs.declared.tokens.Token.TheVariants as token
use Rattle.query_pieces.specs.declared.contexts.Context.{Context}
use Rattle.query_pieces.specs.declared.contexts.Change.{Change}
use Rattle.query_pieces.specs.declared.contexts.Quote.TheVariants.{Double as double}
use Rattle.query_pieces.specs.declared.contexts.Context.TheVariants.{Enclosed as enclosed}
use Rattle.query_pieces.specs.declared.contexts.Context.TheVariants.{Tag as tag}
use Rattle.query_pieces.specs.declared.contexts.Context.TheVariants.{Attribute as attribute}
use Rattle.query_pieces.specs.declared.contexts.Context.TheVariants.{Content as content}
use Rattle.query_pieces.specs.declared.contexts.Change.TheVariants.{Stays as stays}
use Rattle.query_pieces.specs.declared.contexts.Change.TheVariants.{Enters as enters}
use Rattle.query_pieces.specs.declared.contexts.Change.TheVariants.{Becomes as becomes}
use Rattle.query_pieces.specs.declared.contexts.Change.TheVariants.{Leaves as leaves}
use Rattle.query_pieces.specs.Points.{changed, in_expression, change_of}
use Rattle.query_pages.specs.TokenTexts.Spellings.{token_text, piece_text}
use Rattle.xt_names.specs.Characters.{is_space}

-- the white space before tokens, by those that are left
abbrev pub Layout : Type 0
Layout = List Token → List ℕ

abbrev pub is_gap : List ℕ → Bool
is_gap [] = false
is_gap (c ∷ cs) = list_all is_space (c ∷ cs)

-- some white space comes before each
abbrev pub IsLayout : Layout → Type 0
IsLayout g = (ts : List Token) → is_gap (g ts) ≡ true

-- what a token of expressions does to what is open
abbrev pub token_change : Token → Change
token_change (token.StartTagOpen p n) = enters tag
token_change t = change_of t

-- .. and a piece
abbrev pub piece_change : Token → Change
piece_change (token.ChildTagOpen p n) = enters tag
piece_change (token.Attribute p n) = enters (attribute double)
piece_change token.AttributeEnd = leaves
piece_change token.TagEnd = becomes content
piece_change token.EmptyEnd = leaves
piece_change (token.EndTag p n) = leaves
piece_change token.EnclosedOpen = enters enclosed
piece_change _ = stays

abbrev pub behind_token : List Context → Token → List Context
behind_token cs t = changed (token_change t) cs

abbrev pub behind_piece : List Context → Token → List Context
behind_piece cs t = changed (piece_change t) cs

-- the innermost context that is open
abbrev pub innermost : List Context → Context
innermost [] = enclosed
innermost (c ∷ cs) = c

-- the text of the tokens where these contexts are open
abbrev pub text_in : Layout → List Context → List Token → List ℕ
text_in g cs [] = []
text_in g cs (t ∷ ts) =
    if in_expression cs
    then g (t ∷ ts) ++ (token_text t ++ text_in g (behind_token cs t) ts)
    else piece_text (innermost cs) t ++ text_in g (behind_piece cs t) ts

-- the text of a query's tokens
abbrev pub text_of : Layout → List Token → List ℕ
text_of g [] = []
text_of g (t ∷ ts) = token_text t ++ text_in g (behind_token [] t) ts
