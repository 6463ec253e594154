-- How far out a token may come after a value, and what it may be.
use Rattle.std.specs.Prelude.{ℕ, Bool, true, false, if◌then◌else◌}
use Rattle.expr_keys.specs.Keys.{Key, binding_power_of_key, is_worded, is_axis, is_reserved, same_key, star}
use Rattle.expr_keys.specs.TokenNames as token
pub use Rattle.expr_keys.specs.TokenNames.{Token}

abbrev pub binding_power : Token → ℕ
binding_power (token.key k) = binding_power_of_key k
binding_power (token.child_tag_open p n) = 1
binding_power (token.attribute p n) = 1
binding_power (token.chars cs b) = 1
binding_power token.enclosed_open = 1
binding_power token.attribute_end = 30
binding_power token.tag_end = 30
binding_power token.empty_end = 30
binding_power (token.end_tag p n) = 30
binding_power _ = 0

-- a QName
abbrev pub fits_name : Token → Bool
fits_name (token.key k) = is_worded k
fits_name (token.name n) = true
fits_name (token.qname p n) = true
fits_name _ = false

-- an NCName
abbrev pub fits_word : Token → Bool
fits_word (token.key k) = is_worded k
fits_word (token.name n) = true
fits_word _ = false

-- the name of an axis
abbrev pub fits_axis : Token → Bool
fits_axis (token.key k) = is_axis k
fits_axis _ = false

-- a QName that may name a function
abbrev pub fits_function : Token → Bool
fits_function (token.key k) = if is_reserved k then false else is_worded k
fits_function (token.name n) = true
fits_function (token.qname p n) = true
fits_function _ = false

-- '*', 'p:*' or '*:n'
abbrev pub fits_wild : Token → Bool
fits_wild (token.key k) = same_key star k
fits_wild (token.any_local p) = true
fits_wild (token.any_prefix n) = true
fits_wild _ = false

abbrev pub fits_key : Key → Token → Bool
fits_key a (token.key k) = same_key a k
fits_key a _ = false
