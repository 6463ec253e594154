use Rattle.std.proofs.Common.{ap, map}
use Rattle.doc_reader.specs.Frames.{open_in}
use Rattle.xml_source.specs.View.{name_of}
use Rattle.doc_reader.specs.View.{attribute_of}
use Rattle.doc_reader.proofs.ReadLemmas.{ran_from}
use Rattle.doc_reader.proofs.ElementLemmas.{named_on, named_stopped, if_ok}
use Rattle.doc_reader.proofs.readers.Reader.named.Goals as goal

pub returns-in-On-clause-ran : goal.returns-in-On-clause-ran
returns-in-On-clause-ran c =
    let st = open_in c.args.self.now in
    let tag = named_on _ _ (name_of c.args.name) _ _ st (ap (map attribute_of) c.new.ensures.items) ((rw c.in-On.is at c.in_ok-stopped.ensures.ran) st) in
    if_ok c.open.result c.open.ensures.ran (λ s ran. ran_from _ _ _ _ s tag ran)

pub returns-in_default-clause-ran : goal.returns-in_default-clause-ran
returns-in_default-clause-ran c =
    let st = open_in c.args.self.now in
    named_stopped _ _ (name_of c.args.name) _ st _ _ c.in_ok-stopped.stopped (ap (map attribute_of) c.new.ensures.items) c.in_default.not-On (c.in_ok-stopped.ensures.ran st)
