use Rattle.std.proofs.Common.{◌≡◌, drop, map}
use Rattle.expr_primaries.specs.ExprElements.Space.{with_pieces, piece_of, parts_of}
use Rattle.expr_primaries.proofs.expr_elements.space.join_all.Given as goal

abbrev pub invariant-loop-part : goal.invariant-loop-part
invariant-loop-part l = with_pieces l.strip l.joined (map piece_of (drop l.part-index l.parts)) ≡ parts_of l.strip l.parts
