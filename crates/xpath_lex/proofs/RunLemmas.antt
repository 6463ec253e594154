-- Lists that begin alike, and runs of a class of characters.
use Rattle.std.proofs.Common.{◌≡◌, ℕ, ◌≤◌, List, [], ◌∷◌, ◌++◌, length, Bool, true, refl, sym, arith}
use Rattle.std.proofs.lemmas.Bool.{and_parts}
use Rattle.std.specs.List.{list_all}
use Rattle.xt_names.specs.Characters.{Ends}
use Rattle.xt_names.proofs.BoolLemmas.{no}

abbrev pub head_or : ℕ → List ℕ → ℕ
head_or d [] = d
head_or d (c ∷ cs) = c

abbrev pub tail_of : List ℕ → List ℕ
tail_of [] = []
tail_of (c ∷ cs) = cs

pub first_same : {c d : ℕ} {cs ds : List ℕ} → c ∷ cs ≡ d ∷ ds → c ≡ d
first_same e = cc

pub rest_same : {c d : ℕ} {cs ds : List ℕ} → c ∷ cs ≡ d ∷ ds → cs ≡ ds
rest_same e = cc

-- two fronts of one length are one
pub same_front : (xs ys a b : List ℕ) → xs ++ a ≡ ys ++ b → length xs ≡ length ys → (xs ≡ ys) × (a ≡ b)
same_front [] [] a b e l = (refl, e)
same_front [] (y ∷ ys) a b e l = absurd (omega arith)
same_front (x ∷ xs) [] a b e l = absurd (omega arith)
same_front (x ∷ xs) (y ∷ ys) a b e l =
    let go = same_front xs ys a b (rest_same e) (omega arith) in
    let head : x ≡ y = first_same e in
    (let both : x ∷ xs ≡ y ∷ ys = cc in both, go.1)

-- a run that goes on as far as it can is the longest
pub run_bound : (p : ℕ → Bool) (run xs rest more : List ℕ) → run ++ rest ≡ xs ++ more → list_all p xs ≡ true → Ends p rest → length xs ≤ length run
run_bound p run [] rest more e a n = omega arith
run_bound p [] (x ∷ xs) [] more e a n = absurd (cc)
run_bound p [] (x ∷ xs) (c ∷ cs) more e a n =
    let same : c ≡ x = first_same e in no (rw same (and_parts (p x) (list_all p xs) a).0) n
run_bound p (c ∷ run) (x ∷ xs) rest more e a n =
    let go = run_bound p run xs rest more (rest_same e) (and_parts (p x) (list_all p xs) a).1 n in omega (arith, go)

-- two runs that go on as far as they can are one
pub run_same : (p : ℕ → Bool) (run xs rest more : List ℕ) → run ++ rest ≡ xs ++ more → list_all p run ≡ true → Ends p rest → list_all p xs ≡ true → Ends p more → (run ≡ xs) × (rest ≡ more)
run_same p run xs rest more e a n b m =
    same_front run xs rest more e (let u = run_bound p run xs rest more e b n in let v = run_bound p xs run more rest (sym e) a m in omega (arith, u, v))
