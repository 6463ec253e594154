-- What the productions of constructors mean, from what their parts mean (XQuery 1.0, 3.7).
use Rattle.std.specs.Prelude.{List, [], Bool}
use Rattle.xt_syntax.specs.declared.prefixes.Prefixes.{Prefixes}
use Rattle.expr_keys.specs.declared.productions.Production.{Production}
use Rattle.expr_keys.specs.declared.productions.Production.TheVariants as production
use Rattle.expr_rules.specs.declared.expr_meant.meant.Meant.{Meant}
use Rattle.expr_rules.specs.declared.expr_meant.meant.Meant.TheVariants as meant
use Rattle.expr_primaries.specs.ExprElements.Space.{parts_of}
use Rattle.expr_primaries.specs.ExprElements.Direct.{element, child, attribute, enclosed}
use Rattle.expr_primaries.specs.ExprElements.Computed.{computed, constructed, pi_constructed, enclosing}

-- `strip` says that boundary white space goes
unfoldable pub element_value : Prefixes → Bool → Production → List Meant → Meant
element_value p strip production.Computed ms = meant.Expr (computed ms)
element_value p strip production.Constructed ms = meant.Expr (constructed p.bound p.element_default ms)
element_value p strip production.PiConstructed ms = meant.Expr (pi_constructed p.bound ms)
element_value p strip production.Enclosing ms = meant.Expr (enclosing ms)
element_value p strip production.DirectElement ms = meant.Expr (element p.bound p.element_default ms)
element_value p strip production.ChildElement ms = child p.bound p.element_default ms
element_value p strip production.ElementContent ms = meant.Content (parts_of strip ms)
element_value p strip production.EmptyElement ms = meant.Content []
element_value p strip production.AttributeValue ms = attribute p.bound ms
element_value p strip production.PartEnclosed ms = enclosed ms
element_value p strip production.ItemEnclosed ms = enclosed ms
element_value p strip _ ms = meant.Mark
