use Rattle.import_tree.proofs.Once.{sheets_once, rules_kept, codes_once}
use Rattle.import_tree.proofs.laws.sheets_are_one.Goals as goal

pub returns-clause-one : goal.returns-clause-one
returns-clause-one c = sheets_once

pub returns-clause-kept : goal.returns-clause-kept
returns-clause-kept c = rules_kept

pub returns-clause-codes : goal.returns-clause-codes
returns-clause-codes c = codes_once
