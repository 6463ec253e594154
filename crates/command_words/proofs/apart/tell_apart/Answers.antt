use Rattle.std.proofs.Common.{refl, map, ap, ◌∙◌, string_bytes}
use Rattle.command_words.specs.Apart.{told_apart, told_of, piece_of}
use Rattle.command_words.proofs.ApartLemmas.{turn, turn_start}
use Rattle.command_words.proofs.ListLemmas.{first_mapped}
use Rattle.command_words.proofs.apart.tell_apart.Goals as goal

pub loop-left-init : goal.loop-left-init
loop-left-init c =
    turn_start (told_of record { depths = c.new.result; files = c.new-2.result; operands = c.new-3.result })
    (told_apart (map string_bytes c.args.words.now))
    (rw (c.new.ensures.items, c.new-2.ensures.items, c.new-3.ensures.items) refl)

pub loop-left-preserved : goal.loop-left-preserved
loop-left-preserved c =
    turn (piece_of c.in-Some.piece) (told_of c.loop-left.told) (told_of c.push.new.told)
    (told_apart (map string_bytes c.args.words.now)) (told_apart (map string_bytes c.loop-left.left.now))
    (told_apart (map string_bytes c.in-Some.more.now)) c.loop-left.invariant
    (ap told_apart (first_mapped string_bytes c.loop-left.left.now c.word-item.result c.as_str-in-len1-up.result.now c.in-len1-up.len_at_least c.word-item.is c.as_str-in-len1-up.ensures.value) ∙ c.in-Some.ensures.piece)
    c.in_ok-push.ensures
