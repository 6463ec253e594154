-- What the next tokens tell, under its names in the specs.
pub use Rattle.expr_terms.specs.declared.choices.Second.{Second}
pub use Rattle.expr_terms.specs.declared.choices.Second.TheVariants.{BeforeParen as before_paren, BeforeColons as before_colons, BeforeDollar as before_dollar, BeforeBrace as before_brace, BeforeNamed as before_named, Alone as alone}
pub use Rattle.expr_terms.specs.declared.choices.Starter.{Starter}
pub use Rattle.expr_terms.specs.declared.choices.Starter.TheVariants.{Conditional as conditional, Looping as looping, Letting as letting, Quantifying as quantifying, Signing as signing, Slashing as slashing, SlashingDeep as slashing_deep, Axis as axis, At as at, Parent as parent, PlainKind as plain_kind, PiKind as pi_kind, NamedKind as named_kind, Named as named, Wild as wild, Digits as digits, Quoted as quoted, Variable as variable, Paren as paren, Context as context, Call as call, Computed as computed, Constructed as constructed, PiConstructed as pi_constructed, Enclosing as enclosing, ItemType as item_type, EmptyType as empty_type, StartTagOpen as start_tag_open, ChildTagOpen as child_tag_open, Chars as chars, EnclosedOpen as enclosed_open, FullTag as full_tag, EmptyTag as empty_tag, Nothing as nothing}
