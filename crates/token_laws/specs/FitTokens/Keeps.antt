-- What tokens ask besides names and texts that XML allows.
use Rattle.std.specs.Prelude.{List, Bool, true}
use Rattle.std.specs.List.{list_all}
use Rattle.xt_names.specs.Classes.{is_ncname_text}
use Rattle.xt_names.specs.declared.names.Binding.{Binding}
use Rattle.expr_keys.specs.declared.tokens.Token.{Token}
use Rattle.expr_keys.specs.declared.tokens.Token.TheVariants as token
use Rattle.query_pages.specs.TokenTexts.Written.{is_counted}
use Rattle.sound_expressions.specs.SoundForms.Sound.{is_sound_prefix}

-- integers have 64 bits, and the name of `*:n` is an NCName
abbrev pub is_kept : Token → Bool
is_kept (token.Digits n) = is_counted n
is_kept (token.AnyPrefix n) = is_ncname_text n
is_kept _ = true

abbrev pub are_kept : List Token → Bool
are_kept ts = list_all is_kept ts

-- prefixes are NCNames, or empty
abbrev pub are_prefixes : List Binding → Bool
are_prefixes bound = list_all (λ b. is_sound_prefix b.prefix) bound
