-- Words, character by character.
use Rattle.std.proofs.Common.{◌≡◌, ℕ, List, [], ◌∷◌, ◌++◌, Bool, true, false, refl, sym, ap, ◌∙◌}
use Rattle.std.proofs.Common.{append_assoc}
use Rattle.std.proofs.lemmas.List.{append-nil}
use Rattle.xt_names.specs.Allowed.{is_empty_text}
use Rattle.xt_names.specs.Marks.{is_white}
use Rattle.query_options.specs.Words.{word_and, words_in}

word_first : (ws : List (List ℕ)) (w : List ℕ) (vs : List (List ℕ))
    → (ws ++ word_and w []) ++ vs ≡ ws ++ word_and w vs
unfolding word_and
word_first ws [] vs = append_assoc ws [] vs
word_first ws (c ∷ cs) vs = append_assoc ws ((c ∷ cs) ∷ []) vs

-- after white space a new word begins
pub white_char : (ws more : List (List ℕ)) (w v : List ℕ) (c : ℕ) (cs : List ℕ) → is_white c ≡ true
    → more ≡ ws ++ word_and w [] → v ≡ [] → more ++ words_in v cs ≡ ws ++ words_in w (c ∷ cs)
white_char ws more w v c cs e m n = rw (e, m, n) (word_first ws w (words_in [] cs))

-- .. and any other character goes on with the word
pub other_char : (ws more : List (List ℕ)) (w v : List ℕ) (c : ℕ) (cs : List ℕ) → is_white c ≡ false
    → more ≡ ws → v ≡ w ++ c ∷ [] → more ++ words_in v cs ≡ ws ++ words_in w (c ∷ cs)
other_char ws more w v c cs e m n = rw (e, m, n) refl

pub ruleset turns = (white_char, other_char)

pub true_is_false : true ≡ false → ⊥
true_is_false e = cc

pub empty_word : (ws : List (List ℕ)) (w v : List ℕ) (b : Bool) → v ≡ w → b ≡ is_empty_text v
    → b ≡ true → ws ≡ ws ++ word_and w []
unfolding word_and is_empty_text
empty_word ws [] v b e i t = sym (append-nil ws)
empty_word ws (c ∷ cs) v b e i t = absurd (true_is_false (sym t ∙ i ∙ ap is_empty_text e))

pub whole_word : (ws more : List (List ℕ)) (w v : List ℕ) (b : Bool) → v ≡ w → b ≡ is_empty_text v
    → b ≡ false → more ≡ ws ++ v ∷ [] → more ≡ ws ++ word_and w []
unfolding word_and is_empty_text
whole_word ws more [] v b e i f m = absurd (true_is_false (sym (ap is_empty_text e) ∙ sym i ∙ f))
whole_word ws more (c ∷ cs) v b e i f m = rw (m, e) refl
