-- Literals, one character at a time.
use Rattle.std.proofs.Common.{◌≡◌, ℕ, List, [], ◌∷◌, ◌++◌, sym, ◌∙◌, ap, append_assoc, append-nil}
use Rattle.query_pages.specs.TokenTexts.Spellings.{said_text, said_texts}

said-push : (cs : List ℕ) (c : ℕ) → said_texts (cs ++ c ∷ []) ≡ said_texts cs ++ said_text c
said-push [] c = append-nil (said_text c)
said-push (d ∷ cs) c = ap (λ xs. said_text d ++ xs) (said-push cs c)
    ∙ sym (append_assoc (said_text d) (said_texts cs) (said_text c))

pub said_none : (out : List ℕ) → out ≡ out ++ said_texts []
said_none out = sym (append-nil out)

-- one more character
pub said_turn : (first out new cs : List ℕ) (c : ℕ) → out ≡ first ++ said_texts cs
    → new ≡ out ++ said_text c → new ≡ first ++ said_texts (cs ++ c ∷ [])
said_turn first out new cs c h i = i ∙ ap (λ xs. xs ++ said_text c) h
    ∙ append_assoc first (said_texts cs) (said_text c)
    ∙ ap (λ xs. first ++ xs) (sym (said-push cs c))
