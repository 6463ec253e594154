-- Expressions whose operands are evaluated first (XPath 2.0, 3.1, 3.3 to 3.5 and 3.10).
use Rattle.std.specs.Prelude.{List, [], ◌∷◌, Option, Some, None, Result, Ok, Err}
use Rattle.xt_names.specs.declared.codes.Code.{Code}
use Rattle.xt_names.specs.declared.codes.Code.TheVariants.{Dynamic}
use Rattle.xt_names.specs.declared.codes.DynamicCode.TheVariants.{XPDY0002}
use Rattle.xt_names.specs.declared.names.ExprName.{ExprName}
use Rattle.xdm_items.specs.declared.items.Item.{Item}
use Rattle.expr_meaning.specs.Outcomes.Outcome.{Ends, and_then, step_outcome, for_each}
use Rattle.expr_meaning.specs.SortMeaning.Sorted.{Placed}
use Rattle.expr_meaning.specs.Env.{Program, Meaning, variable_value}

-- a literal
abbrev pub just : List Item → Meaning
just xs env k = Ends xs k

abbrev pub variable : Program → ExprName → Meaning
variable program name env k = step_outcome (variable_value program env name) k

-- what has a value only where there is a focus
abbrev pub of_focus : {A B : Type 0} → (Placed A → Result B Code) → Option (Placed A) → Result B Code
of_focus value None = Err (Dynamic XPDY0002)
of_focus value (Some f) = value f

-- `.`
abbrev pub context : Meaning
context env k = step_outcome (of_focus (λ f. Ok (f.value ∷ [])) env.focus) k

-- lists, one after another
abbrev pub comma_of : List Meaning → Meaning
comma_of ms env k = for_each (λ m. m env) ms k

-- an operator on one value and on two
abbrev pub unary : (List Item → Result (List Item) Code) → Meaning → Meaning
unary value a env k = and_then (a env k) (λ xs j. step_outcome (value xs) j)

abbrev pub binary :
    (List Item → List Item → Result (List Item) Code) → Meaning → Meaning → Meaning
binary value a b env k =
    and_then (a env k) (λ xs j. and_then (b env j) (λ ys i. step_outcome (value xs ys) i))
