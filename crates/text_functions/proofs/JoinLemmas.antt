-- Texts that are put one after another.
use Rattle.std.proofs.Common.{◌≡◌, ℕ, ◌+◌, ◌<◌, ◌≤◌, length, drop, take, get_or, List, [], ◌∷◌, ◌++◌, Result, Ok, Err, IfOk, refl, sym, ap, ◌∙◌, append_assoc, append-nil, arith}
use Rattle.std.proofs.Math.Dec.{eqb-suc-zero}
use Rattle.std.proofs.Math.ListN.{drop_of_length-le}
use Rattle.std.proofs.lemmas.List.{take_more, length-take-le, take_all}
use Rattle.xt_names.proofs.ListLemmas.{drop_at}
use Rattle.xt_names.specs.declared.codes.Code.{Code}
use Rattle.xt_atoms.specs.Casts.{Answers}
use Rattle.xt_atoms.specs.declared.faults.ValueFault.{ValueFault}
use Rattle.xt_atoms.specs.declared.faults.ValueFault.TheVariants.{Error, Memory}
use Rattle.xdm_items.specs.Values.{string_value_of}
use Rattle.xdm_items.specs.declared.items.Item.{Item}
use Rattle.text_functions.specs.Joins.{in_front, in_turn, joined, separated, added, Puts}

-- the text that is made already, and then that of a result
pub onto : List ℕ → Result (List ℕ) Code → Result (List ℕ) Code
onto made (Ok text) = Ok (made ++ text)
onto made (Err code) = Err code

nothing_made : (r : Result (List ℕ) Code) → onto [] r ≡ r
unfolding onto
nothing_made (Ok text) = refl
nothing_made (Err code) = refl

pub begins : {X : Type 0} (f : X → Result (List ℕ) Code) (xs : List X) (made : List ℕ) → made ≡ [] → onto made (in_turn f xs) ≡ in_turn f xs
begins f xs made e = ap (λ (l : List ℕ). onto l (in_turn f xs)) e ∙ nothing_made (in_turn f xs)

abbrev to_ok : List ℕ → Result (List ℕ) Code
to_ok text = Ok text

onto_more : (made text : List ℕ) (r : Result (List ℕ) Code) → onto made (in_front (Ok text) r) ≡ onto (made ++ text) r
unfolding onto
onto_more made text (Ok rest) = ap to_ok (sym (append_assoc made text rest))
onto_more made text (Err code) = refl

cons_in_turn : {X : Type 0} (f : X → Result (List ℕ) Code) (x : X) (rest : List X) → in_turn f (x ∷ rest) ≡ in_front (f x) (in_turn f rest)
unfolding in_turn
cons_in_turn f x rest = refl

none_in_turn : {X : Type 0} (f : X → Result (List ℕ) Code) → in_turn f [] ≡ Ok []
unfolding in_turn
none_in_turn f = refl

left_at : {X : Type 0} (f : X → Result (List ℕ) Code) (xs : List X) (i : ℕ) (x : X) → i < length xs → x ≡ get_or xs i x
    → in_turn f (drop i xs) ≡ in_front (f x) (in_turn f (drop (i + 1) xs))
left_at f xs i x h e = ap (in_turn f) (drop_at xs i x h e) ∙ cons_in_turn f x (drop (i + 1) xs)

pub goes_on : {X : Type 0} (f : X → Result (List ℕ) Code) (xs : List X) (i : ℕ) (x : X) (made new : List ℕ) → i < length xs → x ≡ get_or xs i x
    → Puts (f x) made new (Ok tt) → onto new (in_turn f (drop (i + 1) xs)) ≡ onto made (in_turn f (drop i xs))
goes_on f xs i x made new h e p =
    let rest : Result (List ℕ) Code = in_turn f (drop (i + 1) xs) in
    ap (λ (l : List ℕ). onto l rest) p.2 ∙ sym (onto_more made p.0 rest) ∙ sym (ap (onto made) (left_at f xs i x h e ∙ ap (λ (o : Result (List ℕ) Code). in_front o rest) p.1))

failed : {X : Type 0} (f : X → Result (List ℕ) Code) (xs : List X) (i : ℕ) (x : X) (made : List ℕ) (code : Code) → i < length xs → x ≡ get_or xs i x
    → f x ≡ Err code → onto made (in_turn f (drop i xs)) ≡ Err code
unfolding onto
failed f xs i x made code h e p =
    ap (onto made) (left_at f xs i x h e ∙ ap (λ (o : Result (List ℕ) Code). in_front o (in_turn f (drop (i + 1) xs))) p)

pub breaks_off : {X : Type 0} (f : X → Result (List ℕ) Code) (xs : List X) (i : ℕ) (x : X) (made new : List ℕ) (fault : ValueFault) → i < length xs → x ≡ get_or xs i x
    → Puts (f x) made new (Err fault) → onto made (in_turn f (drop i xs)) ≡ in_turn f xs → Answers {A = List ℕ} (in_turn f xs) (Err fault)
breaks_off f xs i x made new (Error code) h e p k = sym k ∙ failed f xs i x made code h e p
breaks_off f xs i x made new (Memory m) h e p k = tt

all_made : (made : List ℕ) → onto made (Ok []) ≡ Ok made
unfolding onto
all_made made = ap to_ok (append-nil made)

pub ends : {X : Type 0} (f : X → Result (List ℕ) Code) (xs : List X) (i : ℕ) (made : List ℕ) → length xs ≤ i
    → onto made (in_turn f (drop i xs)) ≡ in_turn f xs → in_turn f xs ≡ Ok made
ends f xs i made h k =
    sym k ∙ ap (λ (l : List _). onto made (in_turn f l)) (drop_of_length-le xs h) ∙ ap (onto made) (none_in_turn f) ∙ all_made made

-- joined texts, one item more
separated-push : (s : List ℕ) (xs : List Item) (x : Item) → separated s (xs ++ x ∷ []) ≡ separated s xs ++ (s ++ string_value_of x)
unfolding separated
separated-push s [] x = append-nil (s ++ string_value_of x)
separated-push s (y ∷ xs) x =
    ap (λ (l : List ℕ). (s ++ string_value_of y) ++ l) (separated-push s xs x) ∙ sym (append_assoc (s ++ string_value_of y) (separated s xs) (s ++ string_value_of x))

joined-push : (s : List ℕ) (xs : List Item) (x : Item) → joined s (xs ++ x ∷ []) ≡ joined s xs ++ added s (length xs) x
unfolding joined separated
joined-push s [] x = append-nil (string_value_of x)
joined-push s (y ∷ xs) x =
    rw (eqb-suc-zero (length xs))
    (ap (λ (l : List ℕ). string_value_of y ++ l) (separated-push s xs x) ∙ sym (append_assoc (string_value_of y) (separated s xs) (s ++ string_value_of x)))

pub joined-nil : (s made : List ℕ) → made ≡ [] → made ≡ joined s []
unfolding joined
joined-nil s made e = e

pub joined_turn : (s : List ℕ) (xs : List Item) (i : ℕ) (x : Item) (made new : List ℕ) → i < length xs → x ≡ get_or xs i x → made ≡ joined s (take i xs)
    → new ≡ made ++ added s i x → new ≡ joined s (take (i + 1) xs)
joined_turn s xs i x made new h e k n =
    let len : length (take i xs) ≡ i = length-take-le i xs (omega arith) in
    let more : take (i + 1) xs ≡ take i xs ++ x ∷ [] = take_more xs i x h ∙ ap (λ (y : Item). take i xs ++ y ∷ []) (sym e) in
    n ∙ ap (λ (l : List ℕ). l ++ added s i x) k ∙ sym (ap (joined s) more ∙ joined-push s (take i xs) x ∙ ap (λ (m : ℕ). joined s (take i xs) ++ added s m x) len)

pub joined_done : {E : Type 0} (r : Result (List ℕ) E) (s : List ℕ) (xs : List Item) (i : ℕ) (made : List ℕ) → length xs ≤ i → made ≡ joined s (take i xs)
    → IfOk r (λ t. t ≡ made) → IfOk r (λ t. t ≡ joined s xs)
joined_done (Ok t) s xs i made h k e = e ∙ k ∙ ap (joined s) (take_all i xs h)
joined_done (Err x) s xs i made h k e = tt
