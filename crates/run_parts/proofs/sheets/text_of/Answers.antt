use Rattle.run_parts.proofs.sheets.text_of.Goals as goal

pub returns-in-Err-Code-clause-refused : goal.returns-in-Err-Code-clause-refused
returns-in-Err-Code-clause-refused c =
    let refused = rw c.in-Err-Code.field-0-is at c.in-Err-Code.ensures.refused in
    absurd (c.requires refused.0)
