use Rattle.std.proofs.Common.{arith, ◌≡◌, ◌+◌, ◌-◌, ◌<◌, ◌∙◌, ap, refl, length, get_or}
use Rattle.sheet_assembly.proofs.Places.{places_long, places_start, place_turn, places_end, length-with_place}
use Rattle.sheet_assembly.proofs.templates.places.Goals as goal

pub loop-left-init : goal.loop-left-init
loop-left-init c = record {
  within = omega arith;
  long = places_long c.in_ok-places.places.items c.args.count c.in_ok-places.ensures;
  found = places_start c.args.standing.now c.in_ok-places.places.items c.args.count (length c.args.standing.now)
      c.in_ok-places.ensures (omega arith);
}

pub loop-left-preserved : goal.loop-left-preserved
loop-left-preserved c =
    let test = c.loop-left-test.true in
    let within = c.loop-left.invariant.within in
    let next : c.loop-left.left ≡ c.loop-left.left - 1 + 1 = omega arith in
    let less : c.loop-left.left - 1 < length c.args.standing.now = omega arith in
    record {
      within = omega arith;
      long = ap length c.put_place.ensures
          ∙ (length-with_place c.loop-left.places.items
          (get_or c.args.standing.now (c.loop-left.left - 1) c.index-standing-left.result).number (c.loop-left.left - 1)
          ∙ c.loop-left.invariant.long);
      found = place_turn c.args.standing.now c.loop-left.places.items c.put_place.new.places.items
          c.args.count c.loop-left.left (c.loop-left.left - 1) c.index-standing-left.result
          (get_or c.args.standing.now (c.loop-left.left - 1) c.index-standing-left.result)
          c.loop-left.invariant.long next less c.index-standing-left.is refl c.loop-left.invariant.found
          c.put_place.ensures;
    }

pub returns : goal.returns
returns c =
    let test = c.loop-left-test.false in
    places_end c.args.standing.now c.loop-left.places.items c.args.count c.loop-left.left (omega arith)
    c.loop-left.invariant.long c.loop-left.invariant.found
