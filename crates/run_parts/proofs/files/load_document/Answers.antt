use Rattle.std.proofs.lemmas.Result.{err_from_is_err_and}
use Rattle.run_parts.proofs.Loads.{not_read}
use Rattle.run_parts.proofs.files.load_document.Goals as goal

pub returns-in-Err-Bad-clause-refused : goal.returns-in-Err-Bad-clause-refused
returns-in-Err-Bad-clause-refused g c =
    (c.in_ok-file_name-in-Err-Bad.ensures.named, not_read _ _ _ _ _ _ c.deref.ensures.value c.in-Err-Bad.field-0-is c.in_ok-bytes.ensures.held c.in-Err-Bad.ensures.refused)

pub returns-in_err-file_name-in-Err-Bad-clause-refused : goal.returns-in_err-file_name-in-Err-Bad-clause-refused
returns-in_err-file_name-in-Err-Bad-clause-refused g c =
    let p = err_from_is_err_and c.from_residual-in_err-file_name-in-Err-Bad.result c.from_residual-in_err-file_name-in-Err-Bad.ensures.1 in
    rw (p.1, p.2, c.in_err-file_name-in-Err-Bad.ensures.refused) tt
