use Rattle.std.proofs.Common.{◌≡◌, ◌+◌, List, ℕ, length, ap, ap₂, sym, ◌∙◌}
use Rattle.node_axes.specs.StepWalks.Sifted.{raised}
use Rattle.node_axes.proofs.StepWalks.SiftLemmas.{raised_length}
use Rattle.node_walks.proofs.SieveLemmas.{kept_count, after_count, write_back}
use Rattle.node_walks.proofs.sieves.Sieve.keeps.Goals as goal

pub returns-clause-kept : goal.returns-clause-kept
returns-clause-kept c =
    kept_count c.args.self.now.tests c.as_slice-tests.result.now c.args.self.now.seen.items _ c.args.node.now c.in_ok-count.count
    (c.as_slice-tests.ensures ∙ c.get.ensures) c.as_slice.ensures.value c.in_ok-count.ensures.count

pub returns-clause-seen : goal.returns-clause-seen
returns-clause-seen c =
    let v = c.as_mut_slice.ensures.value in
    let len : length c.args.self.now.seen.items ≡ c.args.self.now.seen.len = sym (ap length v) ∙ c.as_mut_slice.ensures.len in
    let new : length c.raise.new.seen ≡ length c.args.self.now.seen.items = ap length c.raise.ensures ∙ raised_length (c.in_ok-count.count + 1) c.as_mut_slice.result.now ∙ ap length v in
    write_back c.args.self.now.seen.items c.raise.new.seen c.args.self.now.seen.len (new ∙ len) len
    ∙ after_count c.args.self.now.tests c.as_slice-tests.result.now c.args.self.now.seen.items _ c.raise.new.seen c.args.node.now c.in_ok-count.count
    (c.as_slice-tests.ensures ∙ c.get.ensures) c.as_slice.ensures.value c.in_ok-count.ensures.count (c.raise.ensures ∙ ap (raised (c.in_ok-count.count + 1)) (v ∙ sym c.as_slice.ensures.value))

pub returns-clause-sieve : goal.returns-clause-sieve
returns-clause-sieve c =
    let v = c.as_mut_slice.ensures.value in
    let len : length c.args.self.now.seen.items ≡ c.args.self.now.seen.len = sym (ap length v) ∙ c.as_mut_slice.ensures.len in
    let new : length c.raise.new.seen ≡ length c.args.self.now.seen.items = ap length c.raise.ensures ∙ raised_length (c.in_ok-count.count + 1) c.as_mut_slice.result.now ∙ ap length v in
    record {
      allowed = c.requires.allowed;
      counted = ap length (write_back c.args.self.now.seen.items c.raise.new.seen c.args.self.now.seen.len (new ∙ len) len) ∙ new ∙ c.requires.counted;
    }
