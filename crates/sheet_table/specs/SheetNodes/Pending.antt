-- Texts that stand beside each other, as one.
use Rattle.std.specs.Prelude.{ℕ, List, []}
use Rattle.sheet_table.specs.declared.sheet_nodes.pending.Pending.{Pending}
use Rattle.sheet_table.specs.declared.sheet_nodes.pending.Pending.TheVariants.{Nothing, One, Several}

abbrev pub pending_text : Pending → List ℕ
pending_text Nothing = []
pending_text (One text) = text
pending_text (Several all) = all
