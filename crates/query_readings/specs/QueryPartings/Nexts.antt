-- The tokens and pieces that may come next in the text of a query, as a list (XQuery 1.0, 3.7.1 and
-- A.2): one, or none, or two where `<` stands directly before a name.
use Rattle.std.specs.Prelude.{ℕ, List, [], ◌∷◌, ◌++◌, length, Bool, true, false, ◌&&◌}
use Rattle.std.specs.Prelude.{Option, Some, None, option_map, if◌then◌else◌}
use Rattle.xpath_lex.specs.declared.lexing.TokenKind.{TokenKind}
use Rattle.expr_keys.specs.declared.tokens.Token.{Token}
use Rattle.expr_keys.specs.declared.tokens.Token.TheVariants as token
use Rattle.expr_tokens.specs.Literals.{unquoted}
use Rattle.expr_tokens.specs.Terms.{Written, term_of}
use Rattle.expr_tokens.specs.TextTokens.Ends.{behind_gap, token_end}
use Rattle.expr_tokens.specs.TextTokens.Lexed.{token_of}
use Rattle.query_pieces.specs.declared.contexts.Context.{Context}
use Rattle.query_pieces.specs.declared.contexts.Context.TheVariants.{Tag as tag}
use Rattle.query_pieces.specs.declared.contexts.Change.TheVariants.{Enters as enters}
use Rattle.query_pieces.specs.Points.{Point, is_enclosed, change_of, moved}
use Rattle.query_pieces.specs.Fronts.{NameAt, name_at}
use Rattle.query_pieces.specs.Spellings.{is_literal}
use Rattle.query_pieces.specs.Elements.{Piece, piece_at}
use Rattle.query_pieces.specs.Readings.{touches, opens}
use Rattle.query_readings.specs.QueryPartings.Said.{said_of}

abbrev pub is_nil : {A : Type 0} → List A → Bool
is_nil [] = true
is_nil (x ∷ xs) = false

-- nothing is open, and white space and comments alone are left
abbrev pub is_over : List ℕ → Bool
is_over ts = is_nil (behind_gap (length ts) false ts).1

abbrev pub is_end : Point → Bool
is_end p = is_nil p.contexts && is_over p.rest

-- the longest token of expressions after white space and comments, and what is left after it
abbrev pub with_rest : List ℕ → Option (TokenKind × List ℕ) → Option (Written × List ℕ)
with_rest ts None = None
with_rest ts (Some t) = Some (token_of ts t, t.1)

abbrev pub token_behind : Bool × List ℕ → Option (Written × List ℕ)
token_behind g = with_rest g.1 (token_end g.0 g.1)

unfoldable pub token_at : List ℕ → Option (Written × List ℕ)
token_at ts = token_behind (behind_gap (length ts) false ts)

-- what comes next, and the point after it
abbrev pub Next : Type 0
Next = Token × Point

-- the token of the grammar that it is
abbrev pub spelled_of : TokenKind → List ℕ → Option Token
spelled_of kind cs =
    if is_literal kind then option_map token.Quoted (said_of (unquoted cs)) else term_of kind cs

abbrev pub as_token : Point → List ℕ → Option Token → List Next
as_token p rest None = []
as_token p rest (Some t) = (t, moved p t (change_of t) rest) ∷ []

abbrev pub spelled_next : Point → Written → List ℕ → List Next
spelled_next p w rest = as_token p rest (spelled_of w.kind w.characters)

-- the front of a direct element
abbrev pub front_next : Point → Option NameAt → List Next
front_next p None = []
front_next p (Some n) =
    (token.StartTagOpen n.prefix n.local, moved p (token.StartTagOpen n.prefix n.local) (enters tag) n.rest) ∷ []

-- `<` is an operator too, but after a lone `/`
abbrev pub operator_next : Point → Written → List ℕ → List Next
operator_next p w rest =
    if opens false p.before w.characters rest then [] else spelled_next p w rest

abbrev pub read_next : Point → Written → List ℕ → List Next
read_next p w rest =
    if opens true p.before w.characters rest
    then front_next p (name_at rest) ++ operator_next p w rest
    else spelled_next p w rest

abbrev pub tokens_next : Point → Option (Written × List ℕ) → List Next
tokens_next p None = []
tokens_next p (Some t) = read_next p t.0 t.1

-- no name begins directly after digits
abbrev pub expression_next : Point → List Next
expression_next p = if touches p.before p.rest then [] else tokens_next p (token_at p.rest)

-- a piece of a direct element
abbrev pub piece_next : Point → Option Piece → List Next
piece_next p None = []
piece_next p (Some a) = (a.token, moved p a.token a.change a.rest) ∷ []

abbrev pub next_in : Point → List Context → List Next
next_in p [] = expression_next p
next_in p (c ∷ cs) =
    if is_enclosed c then expression_next p else piece_next p (piece_at c p.rest)

abbrev pub next_at : Point → List Next
next_at p = next_in p p.contexts
