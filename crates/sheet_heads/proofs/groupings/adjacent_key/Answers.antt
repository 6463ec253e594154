use Rattle.std.proofs.Common.{rules, ◌≡◌, ◌∙◌, sym, ap, codes, Some, None}
use Rattle.std.specs.Option.{option_copied}
use Rattle.sheet_table.specs.Attributes.{attribute}
use Rattle.sheet_heads.proofs.groupings.adjacent_key.Goals as goal

pub returns-in-None : goal.returns-in-None
returns-in-None g c =
    let e : attribute c.args.attributes.now (codes "group-adjacent") ≡ None = sym c.attribute.ensures ∙ ap option_copied c.in-None.is in
    rw e (search rules)

pub returns-in_err-expr-in-Some : goal.returns-in_err-expr-in-Some
returns-in_err-expr-in-Some g c =
    let e : attribute c.args.attributes.now (codes "group-adjacent") ≡ Some c.in-Some.text.now = sym c.attribute.ensures ∙ ap option_copied c.in-Some.is in
    rw e (search rules)

pub returns-in_ok-expr-in-Some : goal.returns-in_ok-expr-in-Some
returns-in_ok-expr-in-Some g c =
    let e : attribute c.args.attributes.now (codes "group-adjacent") ≡ Some c.in-Some.text.now = sym c.attribute.ensures ∙ ap option_copied c.in-Some.is in
    rw e (search rules)
