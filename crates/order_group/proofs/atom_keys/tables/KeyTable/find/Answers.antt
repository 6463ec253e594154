use Rattle.std.proofs.Common.{ap, ◌∙◌}
use Rattle.std.specs.Prelude.{position}
use Rattle.order_group.specs.AtomKeys.Tables.{index_of}
use Rattle.order_group.proofs.AtomKeys.KeyLemmas.{key_eq, keys_agree}
use Rattle.order_group.proofs.AtomKeys.TableLemmas.{key_position}
use Rattle.order_group.proofs.atom_keys.tables.KeyTable.find.Goals as goal

pub returns : goal.returns
returns c =
    c.get_index_of.ensures.index
    ∙ ap (λ k. position (key_eq k) c.self.inside.keys.keys) c.in_ok-key.ensures
    ∙ ap (position (key_eq _)) c.self.invariant
    ∙ key_position key_eq keys_agree c.self.inside.entries.items c.args.key.now
    ∙ ap (λ es. index_of es c.args.key.now) c.self.view_is
