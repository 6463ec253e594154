-- What a stylesheet makes of a document (XSLT 2.0, 2.3, 2.4 and 9.5).
use Rattle.std.specs.Prelude.{ℕ, ◌+◌, List, [], ◌∷◌, length, Bool, true, false}
use Rattle.std.specs.Prelude.{Option, None, option_map}
use Rattle.xt_names.specs.declared.codes.Code.TheVariants.{SheetDynamic}
use Rattle.xt_names.specs.declared.codes.SheetDynamicCode.TheVariants.{XTDE0050}
use Rattle.xt_names.specs.declared.names.ExprName.{ExprName}
use Rattle.xt_tree.specs.declared.trees.Tree.{Tree}
use Rattle.xt_atoms.specs.declared.atoms.Atom.TheVariants as atom
use Rattle.xdm_items.specs.declared.items.Item.{Item}
use Rattle.xdm_items.specs.declared.items.Item.TheVariants.{Node, Atom}
use Rattle.node_builder.specs.Answers.{root_place as new_root}
use Rattle.node_builder.specs.Made.{Made, Gives, Fails as Refuses}
use Rattle.node_builder.specs.Trees.{numbered, document_of}
use Rattle.node_builder.specs.declared.kinds.Duplicates.TheVariants.{KeepLast}
use Rattle.xt_sheets.specs.declared.sheets.Global.{Global}
use Rattle.expr_meaning.specs.Outcomes.Outcome.{Outcome, Ends, Fails, and_then}
use Rattle.expr_meaning.specs.Env.{Binding}
use Rattle.expr_meaning.specs.Queries.{Given, external_name}
use Rattle.transform_meaning.specs.Bindings.{given_or_default}
use Rattle.transform_meaning.specs.Dispatch.{Doors, entered_at}
use Rattle.transform_meaning.specs.Instrs.{bound_does}
use Rattle.transform_meaning.specs.Places.{alone, outset}
use Rattle.transform_meaning.specs.Templates.{Run, doors_at}

abbrev pub untyped : List ℕ → List Item
untyped text = Atom (atom.Untyped text) ∷ []

-- what is given from outside for a stylesheet parameter
abbrev pub given_for : List Given → Bool → ExprName → Option (List ℕ)
given_for given true name = external_name given name
given_for given false name = None

abbrev pub document_node : Run → Item
document_node run = Node (new_root 0 run.document)

abbrev pub global_outcome : Run → Doors → Global → ℕ → Outcome (List Item)
global_outcome run doors g k =
    given_or_default (SheetDynamic XTDE0050) (bound_does run.sheet doors g.bound)
    (option_map untyped (given_for run.given g.param g.bound.name)) (outset (document_node run)) k

-- the globals in order, each with those before it
abbrev pub globals_from : Run → ℕ → List Global → List Binding → ℕ → Outcome (List Binding)
globals_from run n [] globals k = Ends globals k
globals_from run n (g ∷ gs) globals k =
    and_then (global_outcome run (doors_at run globals n) g k) (λ xs.
    globals_from run n gs ((g.bound.name, xs) ∷ globals))

-- the new document of the items
abbrev pub tree_outcome : ℕ → Made Tree → Outcome Tree
tree_outcome k (Gives t) = Ends t (k + 1)
tree_outcome k (Refuses code) = Fails code

abbrev pub result_tree : List Item → ℕ → Outcome Tree
result_tree xs k = tree_outcome k (numbered k (document_of KeepLast xs))

-- the globals, then the document node in the default mode, then the result tree, with n calls and
-- the next number of a tree
abbrev pub sheet_outcome : Run → ℕ → ℕ → Outcome Tree
sheet_outcome run n k =
    and_then (globals_from run n run.sheet.globals [] k) (λ globals j.
    and_then (entered_at run.sheet.rules (doors_at run globals n) 0
    (record { ordinary = []; tunnel = [] }) (alone (document_node run)) j) result_tree)

-- .. after the numbers of all documents
abbrev pub transform_outcome : Run → ℕ → Outcome Tree
transform_outcome run n = sheet_outcome run n (length run.documents + 1)
