-- Where and why a text is refused.
use Rattle.std.specs.Prelude.{ℕ, suc, List, length, take}
use Rattle.std.specs.Str.{chars}
use Rattle.std.specs.Str.Lossy.{utf8_valid_len}
use Rattle.doc_grammar.specs.Scopes.{opened}
use Rattle.doc_grammar.specs.Lines.{text_of, offset}
use Rattle.doc_grammar.specs.Machine.{Stop, names, deep, entity, subset, encoding, other, End, whole, stops, run, start}
use Rattle.doc_grammar.specs.declared.spots.Spot.{Spot}
use Rattle.doc_grammar.specs.declared.spots.Spot.TheVariants.{At, Subset, Encoding, Entity, Deep}

-- a tag that breaks a rule on names is refused after its `>`
abbrev pub spot_at : Stop → ℕ → Spot
spot_at names at = At (suc at)
spot_at deep at = Deep
spot_at entity at = Entity
spot_at subset at = Subset
spot_at encoding at = Encoding
spot_at other at = At at

-- the spot at which a reading of these characters ends
abbrev pub spot_of : List ℕ → List ℕ → End → Spot
spot_of bytes cs (whole tree declared) = At (length bytes)
spot_of bytes cs (stops why rest) = spot_at why (offset cs rest)

-- the longest front of the bytes that is UTF-8
abbrev pub valid_front : List ℕ → List ℕ
valid_front bytes = take (utf8_valid_len bytes) bytes

-- the spot of bytes that are no document
abbrev pub first_fault : List ℕ → Spot
first_fault bytes = spot_of (valid_front bytes) (chars (valid_front bytes)) (run opened (text_of (chars (valid_front bytes))) start)
