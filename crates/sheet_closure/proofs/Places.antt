-- Places past the end of a list.
use Rattle.std.proofs.Common.{[]}
