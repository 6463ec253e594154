-- Parameters, word by word.
use Rattle.std.proofs.Common.{◌≡◌, ℕ, ◌+◌, ◌<◌, List, length, get_or, drop, map, Bool, true}
use Rattle.std.proofs.Common.{false, ◌&&◌, Option, Some, None, Bor, if◌then◌else◌, refl, sym, ap, ◌∙◌}
use Rattle.std.specs.List.{list_all}
use Rattle.command_words.specs.Requests.{Given, is_parameter}
use Rattle.xt_names.proofs.ListLemmas.{drop_at}

-- the words that references point to
abbrev pub words_of : List (Bor (List ℕ)) → List (List ℕ)
words_of words = map (λ b. b.now) words

abbrev pub are_parameters : List (Bor (List ℕ)) → Bool
are_parameters words = list_all is_parameter (words_of words)

-- what is made of a word that is a parameter, or is none
pub made : (b : Bool) (g : Given) (o : Option Given) → o ≡ (if b then Some g else None)
    → (o ≡ None → b ≡ false) × ((h : Given) → o ≡ Some h → (b ≡ true) × (h ≡ g))
made true g o e = (λ n. absurd (let no : None ≡ Some g = sym n ∙ e in cc), λ h s. (refl, let same : Some h ≡ Some g = sym s ∙ e in cc))
made false g o e = (λ n. refl, λ h s. absurd (let no : Some h ≡ None = sym s ∙ e in cc))

-- one turn: the word is a parameter
pub are_parameters-turn : (words : List (Bor (List ℕ))) (i : ℕ) (word : Bor (List ℕ))
    → i < length words → word ≡ get_or words i word → is_parameter word.now ≡ true
    → are_parameters (drop i words) ≡ are_parameters (drop (i + 1) words)
are_parameters-turn words i word h e p =
    ap are_parameters (drop_at words i word h e)
    ∙ ap (λ b. b && are_parameters (drop (i + 1) words)) p

-- the word is none
pub are_parameters-end : (words : List (Bor (List ℕ))) (i : ℕ) (word : Bor (List ℕ))
    → i < length words → word ≡ get_or words i word → is_parameter word.now ≡ false
    → are_parameters (drop i words) ≡ false
are_parameters-end words i word h e p =
    ap are_parameters (drop_at words i word h e)
    ∙ ap (λ b. b && are_parameters (drop (i + 1) words)) p
