-- Runs of characters that stand for themselves, and what stands where there is none.
use Rattle.std.proofs.Common.{◌≡◌, ℕ, List, [], ◌∷◌, Bool, true, false, Option, Some, None, Result}
use Rattle.std.proofs.Common.{Ok, Err, IfOk, slice_get, refl, sym, subst}
use Rattle.expr_keys.specs.declared.tokens.Token.{Token}
use Rattle.query_pieces.specs.Points.{Change}
use Rattle.query_pieces.specs.Fronts.{run_of, rest_of}
use Rattle.query_pieces.specs.Elements.{Piece, literal, run_or, Finds}

-- nothing is left out where no run comes first
whole : (p : ℕ → Bool) (old : List ℕ) → run_of p old ≡ [] → rest_of p old ≡ old
whole p [] e = refl
whole p (c ∷ ts) e = by (p c) refl where
  by : (b : Bool) → p c ≡ b → rest_of p (c ∷ ts) ≡ c ∷ ts
  by false h = rw h refl
  by true h = let some : c ∷ run_of p ts ≡ [] = rw h at e in cc

pub marks : (p : ℕ → Bool) (old mid run : List ℕ) (r : Option ℕ) (f : List ℕ → Option Piece)
    → run ≡ run_of p old → mid ≡ rest_of p old → r ≡ slice_get run 0 → r ≡ None
    → f mid ≡ run_or (run_of p old) (rest_of p old) (f old)
marks p old mid [] r f u m e n = rw (← u, m, whole p old (sym u)) refl
marks p old mid (c ∷ cs) r f u m e n = cc

pub runs : (p : ℕ → Bool) (old mid run : List ℕ) (r : Option ℕ) (c : ℕ) (a : Option Piece)
    → run ≡ run_of p old → mid ≡ rest_of p old → r ≡ slice_get run 0 → r ≡ Some c
    → Some (literal run mid) ≡ run_or (run_of p old) (rest_of p old) a
runs p old mid [] r c a u m e n = cc
runs p old mid (d ∷ ds) r c a u m e n = rw (← u, m) refl

pub finds_same : {E : Type 0} (r : Result (Option (Token
    × Change)) E) (a b : Option Piece) (rest : List ℕ) → IfOk r (λ found. Finds found a rest)
    → a ≡ b → IfOk r (λ found. Finds found b rest)
finds_same r a b rest h e = subst (λ x. IfOk r (λ found. Finds found x rest)) e h

pub finds_run : {E : Type 0} (r : Result (Option (Token
    × Change)) E) (run mid : List ℕ) (b : Option Piece) → IfOk r (λ found. (rest : List ℕ)
    → Finds found (Some (literal run rest)) rest) → Some (literal run mid) ≡ b
    → IfOk r (λ found. Finds found b mid)
finds_run (Ok found) run mid b h e = subst (λ x. Finds found x mid) e (h mid)
finds_run (Err why) run mid b h e = tt
