use Rattle.std.proofs.Common.{◌++◌, sym, ◌∙◌, ap}
use Rattle.std.specs.Char.{encode_utf8}
use Rattle.xpath_lex.proofs.ScanLemmas.{last_char, last_none}
use Rattle.xpath_lex.proofs.scans.ends_in_digit.Goals as goal

pub returns-in-Some : goal.returns-in-Some
returns-in-Some c =
    last_char _ _ _ c.in-Some.c _ c.chars-chars.ensures.rest c.utf8.text (c.in-Some.ensures.steps ∙ ap (λ f. f ++ encode_utf8 c.in-Some.c) (sym c.as_str-front.ensures)) c.as_str-front.utf8 c.is_digit.ensures

pub returns-in-None : goal.returns-in-None
returns-in-None c = last_none _ _ c.chars-chars.ensures.rest c.in-None.ensures.steps.0
