use Rattle.std.proofs.Common.{◌≡◌, ℕ, List, drop}
use Rattle.std.specs.HashMap.{get}
use Rattle.std.specs.Option.{option_or}
use Rattle.std.specs.Str.{bytes_eq}
use Rattle.xt_tree.specs.TreeView.{forest_of}
use Rattle.sheet_meaning.specs.Rules.{templates_among}
use Rattle.xslt_run.specs.Table.{last_with}
use Rattle.xslt_run.proofs.rules.named_among.Given as goal

abbrev pub invariant-loop-tree : goal.invariant-loop-tree
invariant-loop-tree l =
    (q : List ℕ) → option_or (last_with (templates_among (forest_of (drop l.tree-index l.trees))) q) (get bytes_eq l.named q) ≡ last_with (templates_among (forest_of l.trees)) q
