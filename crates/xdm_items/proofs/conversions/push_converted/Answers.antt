use Rattle.xdm_items.specs.declared.items.Item.TheVariants.{Atom}
use Rattle.xdm_items.proofs.ConversionLemmas.{pushed, refused}
use Rattle.xdm_items.proofs.conversions.push_converted.Goals as goal

pub returns-in-Err : goal.returns-in-Err
returns-in-Err c = refused _ _ _ c.args.made.now c.in-Err.fault c.in_ok-atom.ensures c.in-Err.ensures

pub returns-in_ok-push-in-Ok : goal.returns-in_ok-push-in-Ok
returns-in_ok-push-in-Ok c = (Atom c.in-Ok.converted, pushed _ _ _ _ c.in_ok-atom.ensures c.in-Ok.ensures, c.in_ok-push-in-Ok.ensures.ok)
