-- Tokens under their names in the specs.
pub use Rattle.expr_keys.specs.declared.keys.Key.TheVariants.{CloseBrace as close_brace}
pub use Rattle.expr_keys.specs.declared.tokens.Token.{Token}
pub use Rattle.expr_keys.specs.declared.tokens.Token.TheVariants.{Key as key, StartTagOpen as start_tag_open}
pub use Rattle.expr_keys.specs.declared.keys.Key.{Key}
pub use Rattle.expr_keys.specs.declared.keys.Key.TheVariants.{Slash as slash, Less as less}
pub use Rattle.expr_keys.specs.declared.keys.Key.TheVariants.{Semicolon as semicolon}
