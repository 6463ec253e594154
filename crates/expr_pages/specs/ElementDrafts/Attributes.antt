-- An attribute of a direct element (XQuery 1.0, 3.7.1.1).
use Rattle.std.specs.Prelude.{List, ◌∷◌}
use Rattle.expr_keys.specs.declared.tokens.Token.{Token}
use Rattle.expr_keys.specs.declared.tokens.Token.TheVariants as token
use Rattle.expr_raws.specs.ElementRaws.Direct.{AttrForm, attr_token, parts_tokens, value}

abbrev pub pair_tokens : AttrForm → List Token → List Token
pair_tokens a rest = attr_token a.name ∷ parts_tokens value a.parts (token.AttributeEnd ∷ rest)
