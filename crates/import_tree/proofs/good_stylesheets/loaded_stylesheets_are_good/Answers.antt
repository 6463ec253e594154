use Rattle.import_tree.proofs.GoodStylesheets.Loaded.{loaded_good}
use Rattle.import_tree.proofs.good_stylesheets.loaded_stylesheets_are_good.Goals as goal

pub returns-clause-good : goal.returns-clause-good
returns-clause-good c = λ files reads name l i e. (loaded_good c.parts_are_declared.ensures
    c.spaces_are_declared.ensures files reads name l i e).good

pub returns-clause-stands : goal.returns-clause-stands
returns-clause-stands c = λ files reads name l i e. (loaded_good c.parts_are_declared.ensures
    c.spaces_are_declared.ensures files reads name l i e).stands

pub returns-clause-uris : goal.returns-clause-uris
returns-clause-uris c = λ files reads name l i e. (loaded_good c.parts_are_declared.ensures
    c.spaces_are_declared.ensures files reads name l i e).uris

pub returns-clause-spaces : goal.returns-clause-spaces
returns-clause-spaces c = λ files reads name l i e. (loaded_good c.parts_are_declared.ensures
    c.spaces_are_declared.ensures files reads name l i e).spaces
