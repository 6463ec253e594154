-- The words of a text, which white space parts.
use Rattle.std.specs.Prelude.{ℕ, List, [], ◌∷◌, ◌++◌, if◌then◌else◌}
use Rattle.xt_names.specs.Marks.{is_white}

-- a word, unless it is empty, and others
unfoldable pub word_and : List ℕ → List (List ℕ) → List (List ℕ)
word_and [] ws = ws
word_and (c ∷ cs) ws = (c ∷ cs) ∷ ws

-- the words, where the first begins with `w`
abbrev pub words_in : List ℕ → List ℕ → List (List ℕ)
words_in w [] = word_and w []
words_in w (c ∷ cs) = if is_white c then word_and w (words_in [] cs) else words_in (w ++ c ∷ []) cs

abbrev pub words_of : List ℕ → List (List ℕ)
words_of text = words_in [] text
