-- What declarations use of what is declared around them (XSLT 2.0, 9, 10, 14.3 and 16.3).
use Rattle.std.specs.Prelude.{List, [], ◌∷◌, map}
use Rattle.xt_syntax.specs.declared.exprs.Expr.{Expr}
use Rattle.xt_syntax.specs.declared.patterns.Pattern.{Pattern}
use Rattle.sheet_modules.specs.declared.modules.Part.{Part}
use Rattle.sheet_modules.specs.declared.modules.Part.TheVariants as part
use Rattle.sheet_modules.specs.declared.modules.KeyPart.{KeyPart}
use Rattle.sheet_rules.specs.declared.sheet_declarations.lists.Declaration.{Declaration}
use Rattle.sheet_uses.specs.Exprs.{Finds, nothing, all_in, expr_uses}
use Rattle.sheet_uses.specs.Bodies.{bound_uses, callee_uses}
use Rattle.sheet_uses.specs.KeyCalls.Bodies.{bound_keys, callee_keys}

abbrev pub use_of_key : KeyPart Expr Pattern → Finds
use_of_key k = (expr_uses k.key).finds

abbrev pub part_uses : Part Expr Pattern → Finds
part_uses (part.Global g) = (bound_uses g.bound).source
part_uses (part.Template t rules) = callee_uses t.params t.body
part_uses (part.Function f) = callee_uses f.params f.body
part_uses (part.Key keys) = all_in (map use_of_key keys)
part_uses (part.Space rules) = nothing
part_uses (part.Output omit) = nothing
part_uses part.Ignored = nothing
part_uses part.Linked = nothing

abbrev pub declared_uses : List (Declaration Expr Pattern) → Finds
declared_uses [] scope found = found
declared_uses (d ∷ ds) scope found = declared_uses ds scope (part_uses d.part scope found)

-- .. of its grouping keys, and of `use` of a key
abbrev pub part_keys : Part Expr Pattern → Finds
part_keys (part.Global g) = bound_keys g.bound
part_keys (part.Template t rules) = callee_keys t.params t.body
part_keys (part.Function f) = callee_keys f.params f.body
part_keys (part.Key keys) = all_in (map use_of_key keys)
part_keys (part.Space rules) = nothing
part_keys (part.Output omit) = nothing
part_keys part.Ignored = nothing
part_keys part.Linked = nothing

abbrev pub declared_keys : List (Declaration Expr Pattern) → Finds
declared_keys [] scope found = found
declared_keys (d ∷ ds) scope found = declared_keys ds scope (part_keys d.part scope found)
