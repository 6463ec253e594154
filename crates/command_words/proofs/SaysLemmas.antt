-- What the words say is what the grammar says.
use Rattle.std.proofs.Common.{◌≡◌, ℕ, List, [], ◌∷◌, ◌++◌, Bool, true, false, Option, Some, None}
use Rattle.std.proofs.Common.{option_map, codes, bytes_eq, if◌then◌else◌, refl, sym, ap, subst, ◌∙◌}
use Rattle.std.proofs.lemmas.Slice.Eq.{bytes_eq-Decides}
use Rattle.command_words.specs.Words.{Words, is_operand, behind}
use Rattle.command_words.specs.Apart.{Piece, Depth, Doc, Operand, Told, operands_alone, with_piece}
use Rattle.command_words.specs.Apart.{Says, nothing, the_rest, depth, depth_joined, doc, doc_joined}
use Rattle.command_words.specs.Apart.{operand, joined_piece, whole_piece, parted_piece, said}
use Rattle.command_words.specs.Apart.{told_apart}
use Rattle.command_words.proofs.WordLemmas.{behind_gives}
use Rattle.xt_names.proofs.ListLemmas.{some_same}
use Rattle.std.proofs.lemmas.Bool.{false_from_ne_true}

same_bytes : (a b : List ℕ) → bytes_eq a b ≡ true → a ≡ b
same_bytes a b e = (bytes_eq-Decides a b).0 e

operand_goes_on : (word : List ℕ) → is_operand word ≡ true → bytes_eq word (codes "--") ≡ false
operand_goes_on word e = false_from_ne_true (bytes_eq word (codes "--")) (λ h.
    let same : word ≡ codes "--" = same_bytes word (codes "--") h in
    let no : is_operand (codes "--") ≡ true = subst (λ w. is_operand w ≡ true) same e in cc)

operand_alone : (word : List ℕ) → is_operand word ≡ true
    → told_apart (word ∷ []) ≡ option_map (with_piece (Operand word)) (told_apart [])
operand_alone word e = rw (operand_goes_on word e, e) refl

operand_before : (word value : List ℕ) (words : Words) → is_operand word ≡ true
    → told_apart (word ∷ value ∷ words)
    ≡ option_map (with_piece (Operand word)) (told_apart (value ∷ words))
operand_before word value words e = rw (operand_goes_on word e, e) refl

-- what the grammar says is given
pub given_one : (words : Words) (t : Told) → Says words t → told_apart words ≡ Some t
given_one _ _ nothing = refl
given_one _ _ (the_rest []) = refl
given_one _ _ (the_rest (v ∷ vs)) = refl
given_one _ _ (depth n words t s) = ap (option_map (with_piece (Depth n))) (given_one words t s)
given_one _ _ (depth_joined n [] t s) =
    ap (option_map (with_piece (Depth n))) (given_one [] t s)
given_one _ _ (depth_joined n (v ∷ vs) t s) =
    ap (option_map (with_piece (Depth n))) (given_one (v ∷ vs) t s)
given_one _ _ (doc f words t s) = ap (option_map (with_piece (Doc f))) (given_one words t s)
given_one _ _ (doc_joined f [] t s) = ap (option_map (with_piece (Doc f))) (given_one [] t s)
given_one _ _ (doc_joined f (v ∷ vs) t s) =
    ap (option_map (with_piece (Doc f))) (given_one (v ∷ vs) t s)
given_one _ _ (operand w [] t e s) =
    operand_alone w e ∙ ap (option_map (with_piece (Operand w))) (given_one [] t s)
given_one _ _ (operand w (v ∷ vs) t e s) =
    operand_before w v vs e ∙ ap (option_map (with_piece (Operand w))) (given_one (v ∷ vs) t s)

-- a word that is a piece by itself
joined_says : (word : List ℕ) (p : Piece) (words : Words) (t : Told) (a b : Option (List ℕ))
    → behind (codes "--depth=") word ≡ a → behind (codes "--doc=") word ≡ b
    → joined_piece a b ≡ Some p → Says words t → Says (word ∷ words) (with_piece p t)
joined_says word p words t (Some n) b e f h s =
    let at : word ≡ codes "--depth=" ++ n = behind_gives (codes "--depth=") word n e in
    let is : Depth n ≡ p = some_same h in
    subst (λ q. Says (word ∷ words) (with_piece q t)) is
    (subst (λ w. Says (w ∷ words) (with_piece (Depth n) t)) (sym at) (depth_joined n words t s))
joined_says word p words t None (Some n) e f h s =
    let at : word ≡ codes "--doc=" ++ n = behind_gives (codes "--doc=") word n f in
    let is : Doc n ≡ p = some_same h in
    subst (λ q. Says (word ∷ words) (with_piece q t)) is
    (subst (λ w. Says (w ∷ words) (with_piece (Doc n) t)) (sym at) (doc_joined n words t s))
joined_says word p words t None None e f h s = absurd cc

whole_from : (word : List ℕ) (p : Piece) (words : Words) (t : Told) (b : Bool)
    → is_operand word ≡ b
    → (if b then Some (Operand word) else joined_piece (behind (codes "--depth=") word) (behind (codes "--doc=") word)) ≡ Some p
    → Says words t → Says (word ∷ words) (with_piece p t)
whole_from word p words t true e h s =
    subst (λ q. Says (word ∷ words) (with_piece q t)) (some_same h) (operand word words t e s)
whole_from word p words t false e h s =
    joined_says word p words t (behind (codes "--depth=") word) (behind (codes "--doc=") word) refl refl h s

whole_says : (word : List ℕ) (p : Piece) (words : Words) (t : Told) → whole_piece word ≡ Some p
    → Says words t → Says (word ∷ words) (with_piece p t)
whole_says word p words t h s = whole_from word p words t (is_operand word) refl h s

-- an option and its value
parted_from : (word value : List ℕ) (p : Piece) (words : Words) (t : Told) (a b : Bool)
    → bytes_eq word (codes "--depth") ≡ a → bytes_eq word (codes "--doc") ≡ b
    → (if a then Some (Depth value) else (if b then Some (Doc value) else None)) ≡ Some p
    → Says words t → Says (word ∷ value ∷ words) (with_piece p t)
parted_from word value p words t true b e f h s =
    subst (λ q. Says (word ∷ value ∷ words) (with_piece q t)) (some_same h)
    (subst (λ w. Says (w ∷ value ∷ words) (with_piece (Depth value) t)) (sym (same_bytes word (codes "--depth") e)) (depth value words t s))
parted_from word value p words t false true e f h s =
    subst (λ q. Says (word ∷ value ∷ words) (with_piece q t)) (some_same h)
    (subst (λ w. Says (w ∷ value ∷ words) (with_piece (Doc value) t)) (sym (same_bytes word (codes "--doc") f)) (doc value words t s))
parted_from word value p words t false false e f h s = absurd cc

parted_says : (word value : List ℕ) (p : Piece) (words : Words) (t : Told)
    → parted_piece word value ≡ Some p → Says words t
    → Says (word ∷ value ∷ words) (with_piece p t)
parted_says word value p words t h s =
    parted_from word value p words t (bytes_eq word (codes "--depth")) (bytes_eq word (codes "--doc")) refl refl h s

rest_says : (word : List ℕ) (words : Words) (t : Told) → bytes_eq word (codes "--") ≡ true
    → Some (operands_alone words) ≡ Some t → Says (word ∷ words) t
rest_says word words t e h =
    subst (λ u. Says (word ∷ words) u) (some_same h)
    (subst (λ w. Says (w ∷ words) (operands_alone words)) (sym (same_bytes word (codes "--") e)) (the_rest words))

-- a value under a function
under : (f : Told → Told) (o : Option Told) (t : Told) → option_map f o ≡ Some t
    → (u : Told) × (o ≡ Some u) × (f u ≡ t)
under f None t e = absurd cc
under f (Some u) t e = (u, refl, some_same e)

-- the last word
last_says : (word : List ℕ) (t : Told) (o : Option Piece) → whole_piece word ≡ o
    → said o None (Some (operands_alone [])) None ≡ Some t → Says (word ∷ []) t
last_says word t None e h = absurd cc
last_says word t (Some p) e h =
    subst (λ u. Says (word ∷ []) u) (some_same h)
    (whole_says word p [] (operands_alone []) e nothing)

last_from : (word : List ℕ) (t : Told) (b : Bool) → bytes_eq word (codes "--") ≡ b
    → (if b then Some (operands_alone []) else said (whole_piece word) None (Some (operands_alone [])) None) ≡ Some t
    → Says (word ∷ []) t
last_from word t true e h = rest_says word [] t e h
last_from word t false e h = last_says word t (whole_piece word) refl h

-- a word before others
more_says : (word value : List ℕ) (words : Words) (t : Told) (o q : Option Piece)
    → whole_piece word ≡ o → parted_piece word value ≡ q
    → said o q (told_apart (value ∷ words)) (told_apart words) ≡ Some t
    → ((u : Told) → told_apart (value ∷ words) ≡ Some u → Says (value ∷ words) u)
    → ((u : Told) → told_apart words ≡ Some u → Says words u)
    → Says (word ∷ value ∷ words) t
more_says word value words t (Some p) q e f h one two =
    let k = under (with_piece p) (told_apart (value ∷ words)) t h in
    subst (λ u. Says (word ∷ value ∷ words) u) k.2
    (whole_says word p (value ∷ words) k.0 e (one k.0 k.1))
more_says word value words t None (Some p) e f h one two =
    let k = under (with_piece p) (told_apart words) t h in
    subst (λ u. Says (word ∷ value ∷ words) u) k.2
    (parted_says word value p words k.0 f (two k.0 k.1))
more_says word value words t None None e f h one two = absurd cc

more_from : (word value : List ℕ) (words : Words) (t : Told) (b : Bool)
    → bytes_eq word (codes "--") ≡ b
    → (if b then Some (operands_alone (value ∷ words)) else said (whole_piece word) (parted_piece word value) (told_apart (value ∷ words)) (told_apart words)) ≡ Some t
    → ((u : Told) → told_apart (value ∷ words) ≡ Some u → Says (value ∷ words) u)
    → ((u : Told) → told_apart words ≡ Some u → Says words u)
    → Says (word ∷ value ∷ words) t
more_from word value words t true e h one two = rest_says word (value ∷ words) t e h
more_from word value words t false e h one two =
    more_says word value words t (whole_piece word) (parted_piece word value) refl refl h one two

-- what is given the grammar says
pub one_given : (words : Words) (t : Told) → told_apart words ≡ Some t → Says words t
one_given [] t h = subst (λ u. Says [] u) (some_same h) nothing
one_given (word ∷ []) t h = last_from word t (bytes_eq word (codes "--")) refl h
one_given (word ∷ value ∷ words) t h =
    more_from word value words t (bytes_eq word (codes "--")) refl h
    (λ u e. one_given (value ∷ words) u e) (λ u e. one_given words u e)
