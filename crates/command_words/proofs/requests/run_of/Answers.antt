use Rattle.std.proofs.Common.{◌<◌, length, option_map, option_and_then, sym, ap, ◌∙◌, arith}
use Rattle.command_words.specs.Apart.{told_of}
use Rattle.command_words.specs.Requests.{run_of}
use Rattle.command_words.proofs.DocumentLemmas.{as_many}
use Rattle.command_words.proofs.OperandLemmas.{too_few}
use Rattle.command_words.proofs.requests.run_of.Goals as goal

pub returns-in_default-as_slice : goal.returns-in_default-as_slice
returns-in_default-as_slice c =
    let few : length (told_of c.in-Some.told).operands < 2 =
    omega (arith, as_many c.in-Some.told.operands.items, ap length c.as_slice.ensures.value, c.in_default-as_slice.len_below) in
    sym (ap (option_and_then (run_of c.args.greatest c.args.usual)) (sym c.in_ok-told.ensures ∙ ap (option_map told_of) c.in-Some.is) ∙ too_few c.args.greatest c.args.usual (told_of c.in-Some.told) few)
