use Rattle.node_builder.proofs.AttributeLemmas.{kept_start, kept_turn}
use Rattle.node_builder.proofs.attributes.last_of_each.Goals as goal

pub loop-attribute-init : goal.loop-attribute-init
loop-attribute-init c = kept_start c.in_ok-seen.seen _ _ c.args.attributes c.in_ok-seen.ensures.empty c.into_vec-left.ensures c.new-kept.ensures.items

pub loop-attribute-preserved : goal.loop-attribute-preserved
loop-attribute-preserved c =
    kept_turn c.loop-attribute.seen c.put_name.new.seen c.in-Some.attribute _ _ _ c.loop-attribute.kept.items _ _ c.in-Some.ensures.items c.in_ok-is_new.ensures.added c.in_ok-is_new.ensures.keys c.in_ok-push_new.ensures c.loop-attribute.invariant
