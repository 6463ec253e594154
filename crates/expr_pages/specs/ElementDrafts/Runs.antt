-- Characters that stand for themselves and wait for those that join them (XQuery 1.0, 3.7.1.1).
use Rattle.std.specs.Prelude.{ℕ, Bool, true, List, [], ◌∷◌, ◌++◌, if◌then◌else◌}
use Rattle.expr_keys.specs.declared.tokens.Token.{Token}
use Rattle.expr_keys.specs.declared.tokens.Token.TheVariants as token
use Rattle.expr_raws.specs.ElementRaws.Runs.{is_itself, is_doubled, run, run_token}

abbrev pub flushed : List ℕ → List Token
flushed [] = []
flushed (c ∷ cs) = token.Chars (c ∷ cs) true ∷ []

-- the tokens after one character more, and those that wait then
abbrev pub turned : Bool → List Token → List ℕ → ℕ → List Token
turned x ts cs c = if is_itself x c then ts
    else ((ts ++ flushed cs) ++ run_token (run (c ∷ []) (is_doubled x c)) ∷ [])

abbrev pub waiting : Bool → List ℕ → ℕ → List ℕ
waiting x cs c = if is_itself x c then cs ++ c ∷ [] else []
