use Rattle.std.proofs.Common.{◌≡◌, ◌<◌, length, take, ◌++◌}
use Rattle.query_pages.specs.TokenTexts.Texts.{text_of, text_in}
use Rattle.query_pages.specs.Laid.{laid}
use Rattle.query_pages.specs.Placed.{tokens_of}
use Rattle.query_pages.proofs.texts.laid_text.Given as goal

abbrev pub invariant-loop-i : goal.invariant-loop-i
invariant-loop-i l = (l.i < length l.items)
    × (text_of (laid (length l.items) l.gaps) (tokens_of l.items)
    ≡ l.out ++ text_in (laid (length l.items) l.gaps) l.stack (tokens_of (take l.i l.items)))

abbrev pub decreases-loop-i : goal.decreases-loop-i
decreases-loop-i l = l.i
