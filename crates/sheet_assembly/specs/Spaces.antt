-- White space and the XML declaration in a stylesheet (XSLT 2.0, 4.4 and 20).
use Rattle.std.specs.Prelude.{ℕ, zero, suc, List, [], ◌∷◌, ◌++◌, map, Bool}
use Rattle.std.specs.Prelude.{Some, nat_eq, if◌then◌else◌, reverse, ◌&&◌}
use Rattle.xt_syntax.specs.declared.exprs.Expr.{Expr}
use Rattle.xt_syntax.specs.declared.patterns.Pattern.{Pattern}
use Rattle.xt_types.specs.declared.node_tests.NameTest.{NameTest}
use Rattle.xt_types.specs.declared.node_tests.NameTest.TheVariants.{Any, Uri, Local, Exact}
use Rattle.xt_types.specs.declared.node_tests.SpaceRule.{SpaceRule}
use Rattle.sheet_modules.specs.declared.modules.Part.{Part}
use Rattle.sheet_modules.specs.declared.modules.Part.TheVariants as part
use Rattle.sheet_rules.specs.declared.sheet_declarations.lists.Declaration.{Declaration}
use Rattle.sheet_assembly.specs.Named.{each}
use Rattle.sheet_assembly.specs.declared.spaces.Leveled.{Leveled}

abbrev pub leveled : ℕ → SpaceRule → Leveled
leveled level rule = record { level = level; rule = rule }

abbrev pub space_rules : ℕ → Part Expr Pattern → List Leveled
space_rules level (part.Space rules) = map (leveled level) rules
space_rules level p = []

abbrev pub spaces_in : Declaration Expr Pattern → List Leveled
spaces_in d = space_rules d.level d.part

-- how much a test says: a name, a part of one, or nothing
abbrev pub weight : NameTest → ℕ
weight (Exact name) = 2
weight (Uri uri) = 1
weight (Local local) = 1
weight Any = 0

abbrev pub has_weight : ℕ → ℕ → Leveled → Bool
has_weight level n r = nat_eq r.level level && nat_eq (weight r.rule.test) n

-- those of this level whose tests say so much
abbrev pub weighing : ℕ → ℕ → List Leveled → List SpaceRule
weighing level n [] = []
weighing level n (r ∷ rs) =
    if has_weight level n r then r.rule ∷ weighing level n rs else weighing level n rs

abbrev pub on_level : ℕ → List Leveled → List SpaceRule
on_level level rs = weighing level 2 rs ++ (weighing level 1 rs ++ weighing level 0 rs)

-- from the level of the greatest precedence down
abbrev pub down_from : ℕ → List Leveled → List SpaceRule
down_from zero rs = []
down_from (suc level) rs = on_level (suc level) rs ++ down_from level rs

-- the rules from the one that decides first: by precedence, then by the priority of their tests, then
-- the later before the earlier
abbrev pub spaces_of : ℕ → List (Declaration Expr Pattern) → List SpaceRule
spaces_of levels ds = down_from levels (reverse (each spaces_in ds))

abbrev pub omit_by : Bool → Part Expr Pattern → Bool
omit_by omit (part.Output (Some own)) = own
omit_by omit p = omit

-- whether the XML declaration is left out: what is said last, which is said with the greatest
-- precedence
abbrev pub omit_of : Bool → List (Declaration Expr Pattern) → Bool
omit_of omit [] = omit
omit_of omit (d ∷ ds) = omit_of (omit_by omit d.part) ds
