-- Runs of white space, one character at a time.
use Rattle.std.proofs.Common.{◌≡◌, ℕ, List, [], ◌∷◌, ◌++◌, Bool, Result, Ok, Err, IfOk, false, refl, sym, ap, ◌∙◌, append_assoc, append-nil}
use Rattle.xt_names.specs.Marks.{is_white}
use Rattle.text_operations.specs.Spaces.{spaced, collapsed, normalized}
use Rattle.xt_atoms.specs.Lexical.{trimmed}

-- whether white space comes before what follows
pub white_before : Bool → List ℕ → Bool
white_before w [] = w
white_before w (c ∷ cs) = white_before (is_white c) cs

pub collapsed-nil : [] ≡ collapsed false []
unfolding collapsed
collapsed-nil = refl

pub white_before-nil : false ≡ white_before false []
unfolding white_before
white_before-nil = refl

pub white_before-push : (w : Bool) (cs : List ℕ) (c : ℕ) → white_before w (cs ++ c ∷ []) ≡ is_white c
unfolding white_before
white_before-push w [] c = refl
white_before-push w (x ∷ cs) c = white_before-push (is_white x) cs c

pub collapsed-push : (w : Bool) (cs : List ℕ) (c : ℕ) → collapsed w (cs ++ c ∷ []) ≡ collapsed w cs ++ spaced (white_before w cs) c
unfolding collapsed white_before
collapsed-push w [] c = append-nil (spaced w c)
collapsed-push w (x ∷ cs) c =
    ap (λ (l : List ℕ). spaced w x ++ l) (collapsed-push (is_white x) cs c)
    ∙ sym (append_assoc (spaced w x) (collapsed (is_white x) cs) (spaced (white_before (is_white x) cs) c))

pub spaced_turn : (cs : List ℕ) (c : ℕ) (made new : List ℕ) (w : Bool) → made ≡ collapsed false cs → w ≡ white_before false cs → new ≡ made ++ spaced w c → new ≡ collapsed false (cs ++ c ∷ [])
spaced_turn cs c made new w e f g =
    g ∙ ap (λ (l : List ℕ). l ++ spaced w c) e ∙ ap (λ (b : Bool). collapsed false cs ++ spaced b c) f ∙ sym (collapsed-push false cs c)

pub made_normal : {E : Type 0} (r : Result (List ℕ) E) (text yielded made seen : List ℕ) → made ≡ collapsed false yielded → yielded ≡ trimmed seen → seen ≡ text
    → IfOk r (λ t. t ≡ made) → IfOk r (λ t. t ≡ normalized text)
unfolding normalized
made_normal (Ok t) text yielded made seen e f g h = h ∙ e ∙ ap (collapsed false) (f ∙ ap trimmed g)
made_normal (Err x) text yielded made seen e f g h = tt
