-- Whether an operand may come next where this is wanted, whatever is open below.
use Rattle.std.specs.Prelude.{◌≡◌, Bool, List, Option, Some, None, drop}
use Rattle.expr_keys.specs.declared.productions.Symbol.{Symbol}
use Rattle.expr_terms.specs.Productions.{body}
use Rattle.expr_grammar.specs.Machine.{skips}
use Rattle.expr_reader.specs.declared.frames.Frame.{Frame}
use Rattle.query_grammar.specs.QueryPlaces.Places.{wanted}

abbrev pub Decides : Option Bool → List Symbol → Type 0
Decides None ss = (below : Bool) → wanted ss below ≡ below
Decides (Some b) ss = (below : Bool) → wanted ss below ≡ b

-- the open production wants nothing more
abbrev pub is_done : Frame → Bool
is_done f = skips (drop f.place (body f.production))
