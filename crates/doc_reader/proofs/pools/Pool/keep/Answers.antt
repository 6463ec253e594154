use Rattle.std.proofs.Common.{ap, sym, ◌∙◌, Some}
use Rattle.std.proofs.lemmas.Map.Text.{hash_map_updates_text}
use Rattle.std.specs.HashMap.{get_by_text}
use Rattle.std.specs.Str.{chars}
use Rattle.std.specs.String.{string_bytes}
use Rattle.doc_reader.proofs.PoolLemmas.{pool_more}
use Rattle.doc_reader.proofs.pools.Pool.keep.Goals as goal

pub invariant_of-self-in-Ok : goal.invariant_of-self-in-Ok
invariant_of-self-in-Ok c =
    let key = string_bytes c.in_ok-key.key in
    pool_more _ _ _ (λ bytes. get_by_text c.self.inside.texts bytes) _ key c.in_ok-copy.field-0 c.self.invariant (c.in_ok-copy.ensures ∙ c.requires ∙ ap chars (sym c.in_ok-key.ensures.ok))
    (hash_map_updates_text key c.self.inside.texts c.insert.new.self (Some c.in_ok-copy.field-0) c.in-Ok.ensures.updates)
