use Rattle.std.proofs.lemmas.Result.{err_from_is_err_and}
use Rattle.command_words.specs.Requests.{inputs_in}
use Rattle.run_parts.proofs.InputLemmas.{inputs_third, inputs_held}
use Rattle.run_parts.proofs.inputs.load_inputs.Goals as goal

pub returns-in_err-documents-clause-refused : goal.returns-in_err-documents-clause-refused
returns-in_err-documents-clause-refused g c =
    let p = err_from_is_err_and c.from_residual-in_err-documents.result c.from_residual-in_err-documents.ensures.1 in
    rw (p.1, p.2) (inputs_third (inputs_in c.args.inputs.now) c.in_ok-document.document c.in_ok-loaded.loaded
    (g.F.Files.state c.args.files.now) (g.F.Files.state c.load_document.new.files) (g.F.Files.state c.load_files.new.files) c.in_err-documents.field-0.0
    c.in_ok-document.ensures.document c.in_ok-document.ensures.keeps c.in_ok-loaded.ensures.loaded c.in_err-documents.ensures.refused)

pub returns-clause-trees : goal.returns-clause-trees
returns-clause-trees g c =
    inputs_held (inputs_in c.args.inputs.now) c.in_ok-document.document c.in_ok-documents.documents c.in_ok-loaded.loaded
    (g.F.Files.state c.args.files.now) (g.F.Files.state c.load_document.new.files)
    c.in_ok-document.ensures.document c.in_ok-document.ensures.keeps c.in_ok-loaded.ensures.loaded c.in_ok-documents.ensures.trees
