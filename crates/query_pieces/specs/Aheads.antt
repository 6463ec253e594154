-- What the code sees of the tokens of expressions that come next.
use Rattle.std.specs.Prelude.{◌≡◌, ℕ, List, true, false, Option, Some, None}
use Rattle.std.specs.Str.{chars}
use Rattle.xpath_lex.specs.Readings.{Placed, size, TokenAt, IsOver, FaultAt}
use Rattle.query_pieces.specs.Points.{Point, in_expression}
use Rattle.query_pieces.specs.declared.aheads.Ahead.{Ahead}
use Rattle.query_pieces.specs.declared.aheads.Ahead.TheVariants.{Token, Over, Fault}

-- the token at the front of the text, or the end, or that none begins there
abbrev pub Leads : List ℕ → Ahead → Type 0
Leads ts (Token kind text rest) =
    (u : Placed) × TokenAt (size ts) false ts u (chars rest.now)
    × (u.kind ≡ kind) × (u.characters ≡ chars text.now)
Leads ts Over = IsOver false ts
Leads ts Fault = (place : ℕ) × FaultAt (size ts) false ts place

-- .. and at a point, where tokens of expressions stand
abbrev pub Sees : Point → Option Ahead → Type 0
Sees p (Some a) = (in_expression p.contexts ≡ true) × Leads p.rest a
Sees p None = in_expression p.contexts ≡ false
