-- Levels, from the one of the greatest precedence down.
use Rattle.std.proofs.Common.{◌≡◌, ◌∙◌, ◌<◌, ◌-◌, ◌++◌, ℕ, zero, suc, List, arith, refl, ap, sym, append_assoc}
use Rattle.xt_types.specs.declared.node_tests.SpaceRule.{SpaceRule}
use Rattle.sheet_assembly.specs.Spaces.{down_from, on_level}
use Rattle.sheet_assembly.specs.declared.spaces.Leveled.{Leveled}

down_turn : (level : ℕ) (rs : List Leveled) → 0 < level
    → down_from level rs ≡ on_level level rs ++ down_from (level - 1) rs
down_turn zero rs h = absurd (omega arith)
down_turn (suc level) rs h =
    let e : suc level - 1 ≡ level = omega arith in
    rw e refl

-- one turn over the levels
pub turn : (made next whole : List SpaceRule) (level : ℕ) (rs : List Leveled) → 0 < level
    → next ≡ made ++ on_level level rs → made ++ down_from level rs ≡ whole
    → next ++ down_from (level - 1) rs ≡ whole
turn made next whole level rs less n inv =
    let rest = down_from (level - 1) rs in
    ap (λ l. l ++ rest) n
    ∙ append_assoc made (on_level level rs) rest
    ∙ ap (λ t. made ++ t) (sym (down_turn level rs less))
    ∙ inv
