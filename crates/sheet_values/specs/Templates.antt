-- Attribute value templates, character by character (XSLT 2.0, 5.6).
use Rattle.std.specs.Prelude.{◌≡◌, ℕ, List, [], ◌∷◌, ◌++◌, Bool, ◌&&◌, ◌==◌, if◌then◌else◌}
use Rattle.sheet_values.specs.Within.{depth, next_within, is_outside}
use Rattle.sheet_values.specs.declared.within.Within.{Within}
use Rattle.sheet_values.specs.declared.within.Within.TheVariants.{Outside}
use Rattle.sheet_values.specs.declared.templates.Piece.{Piece}
use Rattle.sheet_values.specs.declared.templates.Piece.TheVariants.{Chars, Code, LoneOpen, LoneClose}
use Rattle.sheet_values.specs.declared.templates.BraceState.{BraceState}
use Rattle.sheet_values.specs.declared.templates.BraceState.TheVariants.{Fixed, Open, Close, Expression}

-- a fixed part, unless it is empty
unfoldable pub fixed_part : List ℕ → List Piece
fixed_part [] = []
fixed_part (c ∷ cs) = Chars (c ∷ cs) ∷ []

-- the pieces that end with a character, where the next one stands, and the characters before it
-- that belong to its part
pub record Turn : Type 0 where
  pub made : List Piece
  pub place : BraceState
  pub run : List ℕ

abbrev pub fixed_turn : List ℕ → ℕ → Turn
fixed_turn run c =
    if c == 123 then record { made = []; place = Open; run = run }
    else if c == 125 then record { made = []; place = Close; run = run }
    else record { made = []; place = Fixed; run = run ++ c ∷ [] }

abbrev pub code_turn : Within → List ℕ → ℕ → Turn
code_turn within run c =
    if c == 125 && is_outside within then record { made = Code run ∷ []; place = Fixed; run = [] }
    else record { made = []; place = Expression (next_within within c); run = run ++ c ∷ [] }

-- a part of other characters begins with this one
abbrev pub begin_turn : List Piece → Turn → Turn
begin_turn ps t = record { made = ps ++ t.made; place = t.place; run = t.run }

abbrev pub open_turn : List ℕ → ℕ → Turn
open_turn run c =
    if c == 123 then record { made = []; place = Fixed; run = run ++ c ∷ [] }
    else begin_turn (fixed_part run) (code_turn Outside [] c)

abbrev pub close_turn : List ℕ → ℕ → Turn
close_turn run c =
    if c == 125 then record { made = []; place = Fixed; run = run ++ c ∷ [] }
    else begin_turn (fixed_part run ++ LoneClose ∷ []) (fixed_turn [] c)

unfoldable pub turn : BraceState → List ℕ → ℕ → Turn
turn Fixed run c = fixed_turn run c
turn Open run c = open_turn run c
turn Close run c = close_turn run c
turn (Expression within) run c = code_turn within run c

unfoldable pub last_pieces : BraceState → List ℕ → List Piece
last_pieces Fixed run = fixed_part run
last_pieces Open run = fixed_part run ++ LoneOpen ∷ []
last_pieces Close run = fixed_part run ++ LoneClose ∷ []
last_pieces (Expression within) run = LoneOpen ∷ []

-- what comes after the turn: pieces, a place and a run
abbrev pub Turned : List Piece → Turn → List Piece → BraceState → List ℕ → Type 0
Turned made t more place run = (more ≡ made ++ t.made) × (place ≡ t.place) × (run ≡ t.run)

abbrev pub place_depth : BraceState → ℕ
place_depth Fixed = 0
place_depth Open = 0
place_depth Close = 0
place_depth (Expression within) = depth within

-- the pieces of a text, of which these characters stand before
abbrev pub pieces_from : BraceState → List ℕ → List ℕ → List Piece
pieces_from place run [] = last_pieces place run
pieces_from place run (c ∷ cs) =
    (turn place run c).made ++ pieces_from (turn place run c).place (turn place run c).run cs

abbrev pub pieces_of : List ℕ → List Piece
pieces_of text = pieces_from Fixed [] text
