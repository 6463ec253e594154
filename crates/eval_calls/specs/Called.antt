-- What a call names.
use Rattle.expr_meaning.specs.Calls as meaning
use Rattle.eval_calls.specs.declared.names.Called.{Called}
use Rattle.eval_calls.specs.declared.names.Called.TheVariants as name

abbrev pub called_as : Called → meaning.Called
called_as (name.Library f) = meaning.library f
called_as name.Document = meaning.document
called_as name.Current = meaning.current
called_as name.CurrentGroup = meaning.current_group
called_as name.CurrentKey = meaning.current_key
called_as name.Key = meaning.key
called_as name.Declared = meaning.declared
