-- What the table speaks of, under its names in the specs.
pub use Rattle.expr_keys.specs.declared.productions.Language.{Language}
pub use Rattle.expr_keys.specs.declared.productions.Language.TheVariants.{Xpath as xpath}
pub use Rattle.expr_keys.specs.declared.productions.Language.TheVariants.{Xquery as xquery}
pub use Rattle.expr_keys.specs.declared.productions.Level.{Level}
pub use Rattle.expr_keys.specs.declared.productions.Level.TheVariants.{Or as or_level}
pub use Rattle.expr_keys.specs.declared.productions.Level.TheVariants.{Comparison as comparison_level}
pub use Rattle.expr_keys.specs.declared.productions.Nonterminal.{Nonterminal}
pub use Rattle.expr_keys.specs.declared.productions.Nonterminal.TheVariants.{Whole as whole}
pub use Rattle.expr_keys.specs.declared.productions.Nonterminal.TheVariants.{Expr as expr}
pub use Rattle.expr_keys.specs.declared.productions.Nonterminal.TheVariants.{Arguments as arguments}
pub use Rattle.expr_keys.specs.declared.productions.Nonterminal.TheVariants.{ExprSingle as expr_single}
pub use Rattle.expr_keys.specs.declared.productions.Nonterminal.TheVariants.{OrderSpec as order_spec}
pub use Rattle.expr_keys.specs.declared.productions.Nonterminal.TheVariants.{Level as level}
pub use Rattle.expr_keys.specs.declared.productions.Nonterminal.TheVariants.{Tail as tail}
pub use Rattle.expr_keys.specs.declared.productions.Nonterminal.TheVariants.{UnaryExpr as unary_expr}
pub use Rattle.expr_keys.specs.declared.productions.Nonterminal.TheVariants.{PathExpr as path_expr}
pub use Rattle.expr_keys.specs.declared.productions.Nonterminal.TheVariants.{AfterRoot as after_root}
pub use Rattle.expr_keys.specs.declared.productions.Nonterminal.TheVariants.{RelativePathExpr as relative_path_expr}
pub use Rattle.expr_keys.specs.declared.productions.Nonterminal.TheVariants.{StepExpr as step_expr}
pub use Rattle.expr_keys.specs.declared.productions.Nonterminal.TheVariants.{PrimaryExpr as primary_expr}
pub use Rattle.expr_keys.specs.declared.productions.Nonterminal.TheVariants.{DirElemConstructor as dir_elem_constructor}
pub use Rattle.expr_keys.specs.declared.productions.Class.{Class}
pub use Rattle.expr_keys.specs.declared.productions.Class.TheVariants.{Key as key}
pub use Rattle.expr_keys.specs.declared.productions.Class.TheVariants.{Operator as operator}
pub use Rattle.expr_keys.specs.declared.productions.Class.TheVariants.{StartTagOpen as start_tag_open}
pub use Rattle.expr_keys.specs.declared.productions.Symbol.{Symbol}
pub use Rattle.expr_keys.specs.declared.productions.Symbol.TheVariants.{Tok as tok, One as one}
pub use Rattle.expr_keys.specs.declared.productions.Symbol.TheVariants.{Maybe as maybe}
pub use Rattle.expr_keys.specs.declared.productions.Symbol.TheVariants.{Many as many}
pub use Rattle.expr_keys.specs.declared.productions.Symbol.TheVariants.{Longest as longest}
pub use Rattle.expr_keys.specs.declared.productions.Production.{Production}
pub use Rattle.expr_keys.specs.declared.productions.Production.TheVariants.{NextExprSingle as next_expr_single}
pub use Rattle.expr_keys.specs.declared.productions.Production.TheVariants.{OperatorChain as operator_chain}
pub use Rattle.expr_keys.specs.declared.productions.Production.TheVariants.{OperatorTail as operator_tail}
