use Rattle.xt_names.specs.declared.codes.SheetStaticCode.TheVariants.{XTSE0020}
use Rattle.closed_texts.proofs.ClosedNames.Names.{qname_sound, declared_sound}
use Rattle.closed_texts.proofs.closed_names.unbroken_names_are_sound.Goals as goal

pub returns-clause-used : goal.returns-clause-used
returns-clause-used c = qname_sound XTSE0020

pub returns-clause-declared : goal.returns-clause-declared
returns-clause-declared c = declared_sound
