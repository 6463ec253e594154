-- The tokens under their names in the specs.
pub use Rattle.expr_keys.specs.declared.tokens.Token.{Token}
pub use Rattle.expr_keys.specs.declared.tokens.Token.TheVariants.{Key as key, Name as name, Qname as qname, AnyLocal as any_local, AnyPrefix as any_prefix, Digits as digits, Quoted as quoted, StartTagOpen as start_tag_open, ChildTagOpen as child_tag_open, Attribute as attribute, AttributeEnd as attribute_end, TagEnd as tag_end, EmptyEnd as empty_end, EndTag as end_tag, Chars as chars, EnclosedOpen as enclosed_open}
