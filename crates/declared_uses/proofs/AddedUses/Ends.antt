-- What is found is put after what was found before.
use Rattle.std.proofs.Common.{◌≡◌, List, [], ◌∷◌, ◌++◌, Bool, true, false, cond, refl, sym, ap}
use Rattle.std.proofs.Common.{◌∙◌, append_assoc, append-nil}
use Rattle.xt_names.specs.declared.names.ExprName.{ExprName}
use Rattle.xt_syntax.specs.declared.exprs.Expr.{Expr}
use Rattle.name_rules.specs.Scopes.{has_name}
use Rattle.sheet_uses.specs.declared.uses.Use.{Use}
use Rattle.sheet_uses.specs.declared.uses.Use.TheVariants as use_of
use Rattle.sheet_uses.specs.Exprs.{Finds, variable_in, expr_uses}
use Rattle.declared_uses.proofs.AddedUses.Exprs.{Closed, expr_has}

abbrev pub Adds : Finds → Type 0
Adds f = (scope : List ExprName) (found : List Use) → f scope found ≡ found ++ f scope []

after_adds : (a b : Finds) (into : List ExprName → List ExprName) → Adds a → Adds b
    → Adds (λ scope found. b (into scope) (a scope found))
after_adds a b into f g scope found =
    g (into scope) (a scope found)
    ∙ ap (λ (l : List Use). l ++ b (into scope) []) (f scope found)
    ∙ append_assoc found (a scope []) (b (into scope) [])
    ∙ ap (λ (l : List Use). found ++ l) (sym (g (into scope) (a scope [])))

variable_adds : (n : ExprName) → Adds (variable_in n)
unfolding variable_in
variable_adds n scope found = go (has_name scope n)
  where
    go : (b : Bool) → cond b found (found ++ use_of.Variable n ∷ [])
        ≡ found ++ cond b [] ([] ++ use_of.Variable n ∷ [])
    go true = sym (append-nil found)
    go false = refl

pub adding : Closed Adds
adding = record {
  none = λ scope found. sym (append-nil found);
  after = after_adds;
  variable = variable_adds;
  call = λ n arity literal scope found. refl;
}

pub expr_adds : (e : Expr) → Adds (expr_uses e).finds
expr_adds e = expr_has Adds adding e
