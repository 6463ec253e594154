use Rattle.std.proofs.Common.{◌≡◌, ◌∙◌, ap, take, length, ◌-◌, arith}
use Rattle.std.proofs.lemmas.Grind.{common_steps}
use Rattle.std.specs.Str.{chars}
use Rattle.text_operations.proofs.PositionLemmas.{front_boundary, front_of_length, front_is}
use Rattle.text_operations.proofs.positions.first_chars.Goals as goal

pub range-requires-clause-end_boundary : goal.range-requires-clause-end_boundary
range-requires-clause-end_boundary c =
    front_boundary c.args.text.now c.skip_chars-rest.ensures.rest.0 c.skip_chars-rest.result.now c.skip_chars-rest.utf8 c.skip_chars-rest.ensures.rest.1

pub returns : goal.returns
returns c =
    let front = c.skip_chars-rest.ensures.rest.0 in
    let rest = c.skip_chars-rest.result.now in
    let cut : c.range.result.now ≡ take (length c.args.text.now - length rest) c.args.text.now = grind (arith, common_steps, c.range.ensures.value) in
    let same = cut ∙ front_of_length c.args.text.now front rest c.skip_chars-rest.ensures.rest.1 in
    ap chars same ∙ front_is c.args.text.now front rest c.args.count c.utf8.text c.skip_chars-rest.utf8 c.skip_chars-rest.ensures.rest.1 c.skip_chars-rest.ensures.chars
