use Rattle.std.proofs.Common.{◌≡◌, map, length, string_bytes, option_map}
use Rattle.command_words.specs.Apart.{told_apart, told_of}
use Rattle.command_words.proofs.ApartLemmas.{followed_by}
use Rattle.command_words.proofs.apart.tell_apart.Given as goal

abbrev pub invariant-loop-left : goal.invariant-loop-left
invariant-loop-left l =
    told_apart (map string_bytes l.words)
    ≡ option_map (followed_by (told_of l.told)) (told_apart (map string_bytes l.left))

abbrev pub decreases-loop-left : goal.decreases-loop-left
decreases-loop-left l = length l.left
