-- What makes the text of a token fit to be written.
use Rattle.std.proofs.Common.{◌≡◌, ℕ, ◌&&◌, ◌||◌, List, [], ◌∷◌}
use Rattle.std.proofs.Common.{refl}
use Rattle.std.specs.List.{list_all}
use Rattle.xt_names.specs.Allowed.{is_empty_text}
use Rattle.xt_names.specs.Classes.{is_ncname_text, is_xml_text}
use Rattle.query_pages.specs.TokenTexts.Written.{is_named}
use Rattle.xt_names.specs.Characters.{is_char}

pub named_is : (p n : List ℕ)
    → is_named p n ≡ ((is_empty_text p || is_ncname_text p) && is_ncname_text n)
unfolding is_empty_text
named_is [] n = refl
named_is (c ∷ cs) n = refl

pub ruleset named = (named_is)

pub text_is : (cs : List ℕ) → is_xml_text cs ≡ list_all is_char cs
unfolding is_xml_text is_char
text_is cs = refl

pub ruleset fits = (text_is)
