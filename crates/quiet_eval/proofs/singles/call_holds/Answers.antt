use Rattle.std.proofs.Common.{◌∙◌, ap₂, refl, Bool}
use Rattle.std.specs.Prelude.{if◌then◌else◌, not}
use Rattle.xt_forms.specs.Quiet.{quiet_call}
use Rattle.quiet_eval.proofs.CaseLemmas.{call_of_none, call_of_one, call_of_more, some_nodes}
use Rattle.quiet_eval.proofs.singles.call_holds.Goals as goal
use Rattle.quiet_eval.specs.QuietPlaces.Free.{focus}

pub returns-in-empty : goal.returns-in-empty
returns-in-empty c =
    c.constant_holds.ensures ∙ call_of_none (quiet_call c.args.name.now) c.args.name.now.local c.args.args.now (focus c.args.node.now c.args.position c.args.size) c.in-empty.len_below

pub returns-in-len1 : goal.returns-in-len1
returns-in-len1 c =
    c.is_told.ensures
    ∙ ap₂ (λ (x s : Bool). if x then s else not s) c.is_exists.ensures (some_nodes c.is_empty.result c.args.nodes.now c.args.nodes.now c.is_empty.ensures refl)
    ∙ call_of_one (quiet_call c.args.name.now) c.args.name.now.local c.args.args.now c.args.nodes.now (focus c.args.node.now c.args.position c.args.size)
    c.in-len1.len_at_least c.in-len1.len_below c.requires.not c.requires.form c.requires.nodes

pub returns-in_default : goal.returns-in_default
returns-in_default c = call_of_more (quiet_call c.args.name.now) c.args.name.now.local c.args.args.now (focus c.args.node.now c.args.position c.args.size) c.in_default.len_at_least
