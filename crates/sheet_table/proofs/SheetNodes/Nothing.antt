-- No text does not stay.
use Rattle.std.proofs.Common.{◌≡◌, List, [], ◌++◌, Bool, true, false, refl, sym, ap, ◌∙◌}
use Rattle.std.proofs.lemmas.List.{append-nil}
use Rattle.xt_names.specs.Allowed.{is_empty_text}
use Rattle.xt_tree.specs.White.{is_white_text}
use Rattle.sheet_table.specs.SheetNodes.Cleaned.{flushed}
use Rattle.sheet_table.specs.declared.sheet_nodes.nodes.Node.{Node}

nothing_flushed : (keep : Bool) → flushed keep [] ≡ []
unfolding flushed is_white_text is_empty_text
nothing_flushed true = refl
nothing_flushed false = refl

pub nothing_put : (out : List Node) (keep : Bool) → out ≡ out ++ flushed keep []
nothing_put out keep = sym (ap (λ n. out ++ n) (nothing_flushed keep) ∙ append-nil out)
