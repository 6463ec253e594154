-- Numbers in order, and the front of a list.
use Rattle.std.proofs.Common.{[]}
