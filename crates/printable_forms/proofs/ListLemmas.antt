-- Forms that hold lists, and lists that are known by their length.
use Rattle.std.proofs.Common.{◌≡◌, Bool, true, false, ◌&&◌, List, [], ◌∷◌, map}
use Rattle.std.proofs.Common.{ℕ, refl, sym, ap, ◌∙◌}
use Rattle.std.specs.List.{list_all}
use Rattle.xt_names.specs.Allowed.{is_empty_text}
use Rattle.expr_keys.specs.declared.keys.Key.{Key}
use Rattle.expr_keys.specs.declared.productions.Level.{Level}
use Rattle.xt_names.specs.declared.kinds.ArithOp.{ArithOp}
use Rattle.xt_names.specs.declared.kinds.ArithOp.TheVariants as arith_op
use Rattle.expr_raws.specs.PathRaws.Forms.{Form, all_can}
use Rattle.expr_raws.specs.PathRaws.Paths.{filtered}
use Rattle.expr_raws.specs.ControlRaws.Operators.{ArmForm, has_arms, listed, many, arithmetic}
use Rattle.expr_raws.specs.ControlRaws.Bindings.{has_some}
use Rattle.expr_raws.specs.ElementRaws.Runs.{has_way, can_run}
use Rattle.printable_forms.specs.Lists.{not_one, several}

pub listed_can : (fs : List Form) → (listed fs).can ≡ not_one fs
listed_can [] = refl
listed_can (a ∷ []) = refl
listed_can (a ∷ b ∷ fs) = refl

pub many_can : (l : Level) (k : Key) (fs : List Form) → (many l k fs).can ≡ several fs
many_can l k [] = refl
many_can l k (a ∷ []) = refl
many_can l k (a ∷ b ∷ fs) = refl

pub arithmetic_can : (op : ArithOp) (a b : Form) → (arithmetic op a b).can ≡ (a.can && b.can)
arithmetic_can arith_op.Add a b = refl
arithmetic_can arith_op.Sub a b = refl
arithmetic_can arith_op.Mul a b = refl
arithmetic_can arith_op.Idiv a b = refl
arithmetic_can arith_op.Mod a b = refl

pub some_mapped : {A : Type 0} {B : Type 0} (f : A → B) (xs : List A)
    → has_some (map f xs) ≡ has_some xs
some_mapped f [] = refl
some_mapped f (x ∷ xs) = refl

pub arms_mapped : {A : Type 0} (f : A → ArmForm) (xs : List A)
    → has_arms (map f xs) ≡ has_some xs
arms_mapped f [] = refl
arms_mapped f (x ∷ xs) = refl

pub filtered_can : (a : Form) (fs : List Form)
    → (filtered a fs).can ≡ (has_some fs && (a.can && all_can fs))
filtered_can a [] = refl
filtered_can a (f ∷ fs) = refl

pub ruleset lists = (
  listed_can,
  many_can,
  arithmetic_can,
  some_mapped,
  arms_mapped,
  filtered_can,
)

pub empty_run : (x : Bool) (cs : List ℕ) (e : Bool) → e ≡ is_empty_text cs → e ≡ true
    → false ≡ can_run x cs
unfolding is_empty_text
empty_run x [] e h t = refl
empty_run x (c ∷ cs) e h t = absurd (let no : false ≡ true = sym h ∙ t in cc)

pub full_run : (x : Bool) (cs ds : List ℕ) (e r : Bool) → e ≡ is_empty_text cs → e ≡ false
    → ds ≡ cs → r ≡ list_all (has_way x) ds → r ≡ can_run x cs
unfolding is_empty_text
full_run x [] ds e r h t d k = absurd (let no : false ≡ true = sym t ∙ h in cc)
full_run x (c ∷ cs) ds e r h t d k = k ∙ ap (λ (ys : List ℕ). list_all (has_way x) ys) d
