-- Options with an effect of this project's own (XQuery 1.0, 4.16).
use Rattle.std.specs.Prelude.{ℕ, List, [], ◌++◌, Bool, true, false, codes, if◌then◌else◌}
use Rattle.std.specs.Str.{bytes_eq}
use Rattle.xt_names.specs.declared.names.Binding.{Binding}
use Rattle.xt_names.specs.declared.names.ExprName.{ExprName}
use Rattle.xt_names.specs.declared.codes.Code.{Code}
use Rattle.expr_names.specs.Names.{undeclared_in, expr_name}
use Rattle.expr_keys.specs.declared.tokens.Token.{Token}
use Rattle.expr_rules.specs.ExprMeant.Names.{written_in}
use Rattle.query_options.specs.Spaces.{not_taken, space_broken, space_meant}
use Rattle.query_options.specs.declared.effects.Effect.{Effect}
use Rattle.query_options.specs.declared.effects.Effect.TheVariants as effect
use Rattle.query_options.specs.declared.options.Options.{Options}

abbrev pub effect_in : List ℕ → Effect
effect_in local =
    if bytes_eq local (codes "space") then effect.Space
    else if bytes_eq local (codes "declaration") then effect.Declaration
    else effect.Nothing

-- what an option of this name does
unfoldable pub effect_of : ExprName → Effect
effect_of name = if bytes_eq name.uri (codes "urn:xslt2xq") then effect_in name.local
    else effect.Nothing

-- an option's name without a prefix has no uri
abbrev pub option_effect : List Binding → Token → Effect
option_effect bound name = effect_of (expr_name bound [] (written_in name))

abbrev pub no_options : Options
no_options = record { rules = []; has_space = false; omit = false }

abbrev pub twice_broken : Bool → List Code
twice_broken seen = if seen then not_taken else []

abbrev pub omit_broken : List ℕ → List Code
omit_broken text = if bytes_eq text (codes "omit") then [] else not_taken

unfoldable pub effect_broken : List Binding → Options → List ℕ → Effect → List Code
effect_broken bound seen text effect.Space = twice_broken seen.has_space ++ space_broken bound text
effect_broken bound seen text effect.Declaration = twice_broken seen.omit ++ omit_broken text
effect_broken bound seen text effect.Nothing = []

-- the rules that an option breaks after others
abbrev pub option_broken : List Binding → Options → Token → List ℕ → List Code
option_broken bound seen name text =
    undeclared_in bound (written_in name)
    ++ effect_broken bound seen text (option_effect bound name)

unfoldable pub with_effect : List Binding → Options → List ℕ → Effect → Options
with_effect bound seen text effect.Space =
    record { rules = space_meant bound text; has_space = true; omit = seen.omit }
with_effect bound seen text effect.Declaration =
    record { rules = seen.rules; has_space = seen.has_space; omit = true }
with_effect bound seen text effect.Nothing = seen

-- what the options mean with this one
abbrev pub with_option : List Binding → Options → Token → List ℕ → Options
with_option bound seen name text = with_effect bound seen text (option_effect bound name)
