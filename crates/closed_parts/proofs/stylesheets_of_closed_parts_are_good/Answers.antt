use Rattle.closed_parts.proofs.Sheets.{good_sheet}
use Rattle.closed_parts.proofs.stylesheets_of_closed_parts_are_good.Goals as goal

pub returns-clause-good : goal.returns-clause-good
returns-clause-good c = λ s h m w. (good_sheet s h m w).good

pub returns-clause-stands : goal.returns-clause-stands
returns-clause-stands c = λ s h m w. (good_sheet s h m w).stands

pub returns-clause-uris : goal.returns-clause-uris
returns-clause-uris c = λ s h m w. (good_sheet s h m w).uris

pub returns-clause-spaces : goal.returns-clause-spaces
returns-clause-spaces c = λ s h m w. (good_sheet s h m w).spaces
