use Rattle.std.proofs.Common.{◌≡◌, [], drop, slice_get}
use Rattle.key_index.specs.Keys.{put_places}
use Rattle.key_index.proofs.indexes.nodes_at.Given as goal

abbrev pub invariant-loop-place : goal.invariant-loop-place
invariant-loop-place l = put_places (slice_get l.pairs) l.items (drop l.place-index l.places) ≡ put_places (slice_get l.pairs) [] l.places
