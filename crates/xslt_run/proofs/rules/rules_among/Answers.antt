use Rattle.std.proofs.Common.{◌≡◌, refl, ap, ◌∙◌}
use Rattle.std.specs.Prelude.{codes}
use Rattle.std.specs.HashMap.{get}
use Rattle.std.specs.Str.{bytes_eq, chars}
use Rattle.xt_tree.specs.TreeView.{forest_of}
use Rattle.sheet_meaning.specs.Rules.{templates_among}
use Rattle.xslt_run.specs.declared.rules.Rules.{Rules}
use Rattle.xslt_run.proofs.TableLemmas.{rule_for_best}
use Rattle.xslt_run.proofs.rules.rules_among.Goals as goal

slash_chars : chars (codes "/") ≡ codes "/"
unfolding chars
slash_chars = refl

pub returns : goal.returns
returns c =
    let slash : c.in_ok-make.field-0 ≡ codes "/" = c.in_ok-make.ensures.ok ∙ slash_chars in
    let table : Rules = record { root = c.in_ok-root.root; named = c.in_ok-named.named } in
    rule_for_best table (templates_among (forest_of c.args.trees.now)) (c.in_ok-root.ensures ∙ ap (λ q. get bytes_eq c.in_ok-named.named q) slash ∙ c.in_ok-named.ensures (codes "/")) c.in_ok-named.ensures
