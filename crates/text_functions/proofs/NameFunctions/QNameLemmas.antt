-- The characters of texts in the code.
use Rattle.std.proofs.Common.{[]}
