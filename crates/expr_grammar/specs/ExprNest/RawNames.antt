-- Raw values under their names in the specs.
pub use Rattle.expr_terms.specs.declared.raws.Raw.{Raw}
pub use Rattle.expr_terms.specs.declared.raws.Raw.TheVariants.{Leaf as leaf, Node as node}
