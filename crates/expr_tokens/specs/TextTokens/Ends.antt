-- Where white space, comments and the longest token end, as functions of the characters (XPath
-- 2.0, 2.6 and A.2). What they are is said in xpath_lex; that these functions give just that is a
-- law.
use Rattle.std.specs.Prelude.{ℕ, zero, suc, List, [], ◌∷◌, Bool, false, ◌&&◌, ◌==◌, if◌then◌else◌}
use Rattle.std.specs.Prelude.{Option, Some, None, option_map}
use Rattle.xpath_lex.specs.Classes.{is_digit}
use Rattle.xpath_lex.specs.Classes.{is_single, is_double}
use Rattle.xpath_lex.specs.Runs.{bars, literal_rest}
use Rattle.xpath_lex.specs.declared.lexing.TokenKind.{TokenKind}
use Rattle.xpath_lex.specs.declared.lexing.TokenKind.TheVariants.{Integer, Literal, Word, QWord}
use Rattle.xpath_lex.specs.declared.lexing.TokenKind.TheVariants.{AnyLocal, AnyPrefix, Symbol}
use Rattle.xt_names.specs.Characters.{is_space, is_char, starts_name, is_name_char, is_quote}

-- what is left after the characters of the class that come first
abbrev pub behind_run : (ℕ → Bool) → List ℕ → List ℕ
behind_run p [] = []
behind_run p (c ∷ cs) = if p c then behind_run p cs else c ∷ cs

-- what is left after so many comments that are open, where all of them are closed
abbrev pub behind_comments : ℕ → List ℕ → Option (List ℕ)
behind_comments zero ts = Some ts
behind_comments (suc n) [] = None
behind_comments (suc n) (c ∷ []) = None
behind_comments (suc n) (c ∷ d ∷ ts) =
    if c == 58 && d == 41 then behind_comments n ts
    else if c == 40 && d == 58 then behind_comments (suc (suc n)) ts
    else if is_char c then behind_comments (suc n) (d ∷ ts)
    else None

-- what is left after one comment
abbrev pub behind_comment : List ℕ → Option (List ℕ)
behind_comment [] = None
behind_comment (c ∷ []) = None
behind_comment (c ∷ d ∷ ts) = if c == 40 && d == 58 then behind_comments 1 ts else None

-- what is left after one white space or comment
abbrev pub behind_one : List ℕ → Option (List ℕ)
behind_one [] = None
behind_one (c ∷ cs) = if is_space c then Some cs else behind_comment (c ∷ cs)

abbrev pub gap_after : (Bool → List ℕ → Bool × List ℕ) → Bool → List ℕ → Option (List ℕ)
    → Bool × List ℕ
gap_after go behind ts None = (behind, ts)
gap_after go behind ts (Some rest) = go false rest

-- what is left after white space and comments, so many at most, and whether a digit stands
-- directly before it
abbrev pub behind_gap : ℕ → Bool → List ℕ → Bool × List ℕ
behind_gap zero behind ts = (behind, ts)
behind_gap (suc k) behind ts = gap_after (behind_gap k) behind ts (behind_one ts)

-- a colon and the start of a name come first
abbrev pub begins_local : List ℕ → Bool
begins_local [] = false
begins_local (c ∷ []) = false
begins_local (c ∷ d ∷ ts) = c == 58 && starts_name d

abbrev pub begins_star : List ℕ → Bool
begins_star [] = false
begins_star (c ∷ []) = false
begins_star (c ∷ d ∷ ts) = c == 58 && d == 42

abbrev pub tail_of : List ℕ → List ℕ
tail_of [] = []
tail_of (c ∷ cs) = cs

-- the token of a name, and what is left after it; after the name's first part this stands
abbrev pub name_end : List ℕ → TokenKind × List ℕ
name_end ts =
    if begins_local ts then (QWord, behind_run is_name_char (tail_of ts))
    else if begins_star ts then (AnyLocal, tail_of (tail_of ts))
    else (Word, ts)

-- a point and a digit come first
abbrev pub begins_fraction : List ℕ → Bool
begins_fraction [] = false
begins_fraction (c ∷ []) = false
begins_fraction (c ∷ d ∷ ts) = c == 46 && is_digit d

abbrev pub number_end : List ℕ → Option (TokenKind × List ℕ)
number_end ts = if begins_fraction ts then None else Some (Integer, ts)

abbrev pub literal_end : Option (List ℕ) → Option (TokenKind × List ℕ)
literal_end rest = option_map (λ ts. (Literal, ts)) rest

abbrev pub lone_end : ℕ → List ℕ → Option (TokenKind × List ℕ)
lone_end c ts = if is_single c then Some (Symbol, ts) else None

abbrev pub pair_end : ℕ → List ℕ → Option (TokenKind × List ℕ)
pair_end c [] = lone_end c []
pair_end c (d ∷ ts) =
    if bars c d then None
    else if is_double c d then Some (Symbol, ts)
    else lone_end c (d ∷ ts)

-- the token of a symbol, or of a star, a colon and a name
abbrev pub mark_end : ℕ → List ℕ → Option (TokenKind × List ℕ)
mark_end c ts =
    if c == 42 && begins_local ts then Some (AnyPrefix, behind_run is_name_char (tail_of ts))
    else pair_end c ts

abbrev pub named_end : Bool → List ℕ → Option (TokenKind × List ℕ)
named_end behind ts = if behind then None else Some (name_end (behind_run is_name_char ts))

-- the kind of the longest token that begins here, and what is left after it
abbrev pub token_end : Bool → List ℕ → Option (TokenKind × List ℕ)
token_end behind [] = None
token_end behind (c ∷ cs) =
    if starts_name c then named_end behind (c ∷ cs)
    else if is_digit c then number_end (behind_run is_digit (c ∷ cs))
    else if is_quote c then literal_end (literal_rest c false cs None)
    else mark_end c cs
