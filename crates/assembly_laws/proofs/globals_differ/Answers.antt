use Rattle.assembly_laws.proofs.Globals as globals
use Rattle.assembly_laws.proofs.globals_differ.Goals as goal

pub returns : goal.returns
returns c = globals.globals_differ
