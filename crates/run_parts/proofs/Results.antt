-- The result tree of a run is a document, which has a text.
use Rattle.std.proofs.Common.{◌≡◌, ℕ, List, Bool, true, false, if◌then◌else◌, None, sym, subst}
use Rattle.xt_names.specs.declared.codes.Code.{Code}
use Rattle.xt_names.specs.declared.codes.Code.TheVariants.{Dynamic}
use Rattle.xt_names.specs.declared.codes.DynamicCode.TheVariants.{XTLM0002}
use Rattle.xt_tree.specs.declared.trees.Tree.{Tree}
use Rattle.xt_tree.specs.declared.trees.Tree.TheVariants.{Doc}
use Rattle.xt_tree.specs.Forest.{Forest}
use Rattle.xt_tree.specs.TreeView.{forest_of}
use Rattle.sheet_meaning.specs.Outcome.{Outcome, Ends, Fails, Deep, and_then}
use Rattle.sheet_meaning.specs.Meaning.{limited, document_of, is_within_limits, complex_content}
use Rattle.doc_writer.specs.Written.{written_tree}
use Rattle.run_parts.specs.Result.{outcome_of}

limited_has_text : (within : Bool) (kids : Forest) (code : Code) (tree : Tree)
    → (if within then Ends (Doc kids) else Fails code) ≡ Ends tree → written_tree tree ≡ None → ⊥
limited_has_text true kids code tree ends none =
    let same : Doc kids ≡ tree = cc in
    let no : written_tree (Doc kids) ≡ None = subst (λ (t : Tree). written_tree t ≡ None) (sym same) none in cc
limited_has_text false kids code tree ends none = cc

document_has_text : (items : Outcome (List Tree)) (tree : Tree)
    → and_then items document_of ≡ Ends tree → written_tree tree ≡ None → ⊥
unfolding limited document_of
document_has_text (Ends items) tree ends none =
    (let made = forest_of (complex_content items) in limited_has_text (is_within_limits (Doc made)) made (Dynamic XTLM0002) tree ends none)
document_has_text (Fails code) tree ends none = cc
document_has_text Deep tree ends none = cc

-- a result tree without a text there is none
pub result_has_text : (depth : ℕ) (sheet document tree : Tree)
    → outcome_of depth sheet document ≡ Ends tree
    → written_tree tree ≡ None → ⊥
unfolding outcome_of
result_has_text depth sheet document tree ends none = document_has_text _ tree ends none
