-- What falls with each call of the evaluator: the calls left, and within them the size of what is run.
use Rattle.std.proofs.Common.{◌≡◌, ℕ, zero, suc, ◌+◌, ◌-◌, ◌*◌, ◌<◌, ◌≤◌, List, [], ◌∷◌, Bool, true, false, max, arith, refl}
use Rattle.std.specs.Prelude.{Option, Some, None, cond, if◌then◌else◌}
use Rattle.std.specs.Map.{lookup}
use Rattle.std.specs.Str.{bytes_eq}
use Rattle.xt_names.specs.Allowed.{is_empty_text}
use Rattle.xt_tree.specs.declared.trees.Tree.{Tree}
use Rattle.xt_tree.specs.declared.trees.Tree.TheVariants.{Doc, Elem, Text, Comment, Pi, Attr}
use Rattle.xt_tree.specs.Forest.{Forest, forest_size}
use Rattle.xslt_run.specs.declared.rules.Rules.{Rules}
use Rattle.xslt_run.specs.Table.{rule_for}

-- the size of the largest content in a table
pub largest : List (List ℕ × Forest) → ℕ
largest [] = 0
largest (e ∷ es) = max (forest_size e.1) (largest es)

pub option_size : Option Forest → ℕ
option_size None = 0
option_size (Some f) = forest_size f

-- the size of the largest content of a rule
pub bodies : Rules → ℕ
bodies rules = max (option_size rules.root) (largest rules.named.entries)

abbrev pub weight : Rules → ℕ → ℕ → ℕ
weight rules n s = n * suc (bodies rules) + s

lookup_step : (b : Bool) (first f : Forest) (rest : Option Forest) (m : ℕ) → cond b (Some first) rest ≡ Some f → (rest ≡ Some f → forest_size f ≤ m) → forest_size f ≤ max (forest_size first) m
lookup_step true first f rest m h k = let same : first ≡ f = cc in rw (← same) (omega arith)
lookup_step false first f rest m h k = let within = k h in omega (arith, within)

lookup_within : (test : List ℕ → Bool) (es : List (List ℕ × Forest)) (f : Forest) → lookup test es ≡ Some f → forest_size f ≤ largest es
unfolding largest
lookup_within test [] f h = absurd cc
lookup_within test (e ∷ es) f h = lookup_step (test e.0) e.1 f (lookup test es) (largest es) h (lookup_within test es f)

size_at : (o : Option Forest) (f : Forest) → o ≡ Some f → forest_size f ≤ option_size o
unfolding option_size
size_at None f h = absurd cc
size_at (Some x) f h = let same : x ≡ f = cc in rw (← same) (omega arith)

named_by : (b : Bool) (o : Option Forest) (f : Forest) → (if b then o else None) ≡ Some f → o ≡ Some f
named_by true o f h = h
named_by false o f h = absurd cc

-- no rule is larger than the largest
body_small : (rules : Rules) (node : Tree) (f : Forest) → rule_for rules node ≡ Some f → forest_size f ≤ bodies rules
unfolding bodies
body_small rules (Doc kids) f h = let s = size_at rules.root f h in omega (arith, s)
body_small rules (Elem name attributes kids) f h =
    let s = lookup_within (bytes_eq name.local) rules.named.entries f (named_by (is_empty_text name.uri) _ f h) in omega (arith, s)
body_small rules (Text t) f h = absurd cc
body_small rules (Comment t) f h = absurd cc
body_small rules (Pi target t) f h = absurd cc
body_small rules (Attr name t) f h = absurd cc

-- one call less leaves room for any rule
pub weight_falls : (rules : Rules) (n : ℕ) (node : Tree) (f : Forest) → rule_for rules node ≡ Some f → (n ≡ 0 → ⊥) → 6 * weight rules (n - 1) (forest_size f) + 4 < 6 * weight rules n 0 + 1
weight_falls rules zero node f h z = absurd (z refl)
weight_falls rules (suc n) node f h z = let b = body_small rules node f h in grind (arith, b)
