-- The one stable order of a list.
use Rattle.std.specs.Prelude.{[]}
