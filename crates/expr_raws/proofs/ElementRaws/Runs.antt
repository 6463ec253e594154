-- Runs of characters are read as the characters.
use Rattle.std.proofs.Common.{◌≡◌, ℕ, List, [], ◌∷◌, ◌++◌, map, Bool, true, false, cond, ◌&&◌}
use Rattle.std.proofs.Common.{refl, sym, ◌∙◌, ap, append_assoc, append-nil}
use Rattle.xt_syntax.specs.declared.exprs.Part.{Part}
use Rattle.expr_raws.specs.ExprPrimaries.ExprElements.Space.{run_part, joined_from, is_white_text}
use Rattle.expr_raws.specs.ExprPrimaries.declared.expr_elements.space.Piece.{Piece}
use Rattle.expr_raws.specs.ExprPrimaries.declared.expr_elements.space.Piece.TheVariants.{Run as piece, Whole as whole}
use Rattle.expr_raws.specs.ElementRaws.Runs.{is_itself, is_doubled, Run, run, is_plain, with_char, runs}
use Rattle.expr_raws.specs.ElementRaws.Runs.{pieces}

-- where boundary white space stays, it does not matter what is blank
pub blind : (text : List ℕ) (b c : Bool) (ps : List Piece)
    → joined_from false text b ps ≡ joined_from false text c ps
unfolding run_part
blind text b c [] = refl
blind text b c (piece more l ∷ ps) =
    blind (text ++ more) (b && (l && is_white_text more)) (c && (l && is_white_text more)) ps
blind text b c (whole w ∷ ps) = refl

-- the parts after characters that come after others
abbrev pub Reads : List Run → List ℕ → Type 0
Reads rs cs = (text : List ℕ) (b : Bool) (ps : List Piece)
    → joined_from false text b (pieces rs ++ ps) ≡ joined_from false (text ++ cs) true ps

behind_one : (r : Run) (cs : List ℕ) (rs : List Run) → Reads rs cs
    → Reads (r ∷ rs) (r.characters ++ cs)
behind_one r cs rs h text b ps =
    h (text ++ r.characters) (b && (r.literal && is_white_text r.characters)) ps
    ∙ ap (λ x. joined_from false x true ps) (append_assoc text r.characters cs)

with_char_reads : (x : Bool) (c : ℕ) (cs : List ℕ) (rs : List Run) → Reads rs cs
    → Reads (with_char x c rs) (c ∷ cs)
with_char_reads x c cs [] h = λ text b ps.
    h (text ++ c ∷ []) (b && (true && is_white_text (c ∷ []))) ps
    ∙ ap (λ y. joined_from false y true ps) (append_assoc text (c ∷ []) cs)
with_char_reads x c cs (r ∷ rs) h = go (is_plain x r)
  where
    go : (p : Bool) → Reads (cond p (run (c ∷ r.characters) true ∷ rs)
        (run (c ∷ []) true ∷ r ∷ rs)) (c ∷ cs)
    go false text b ps = behind_one (run (c ∷ []) true) cs (r ∷ rs) h text b ps
    go true text b ps =
        blind (text ++ c ∷ r.characters) (b && (true && is_white_text (c ∷ r.characters)))
        (true && (r.literal && is_white_text r.characters)) (pieces rs ++ ps)
        ∙ ap (λ y. joined_from false y (true && (r.literal && is_white_text r.characters))
        (pieces rs ++ ps)) (sym (append_assoc text (c ∷ []) r.characters))
        ∙ h (text ++ c ∷ []) true ps
        ∙ ap (λ y. joined_from false y true ps) (append_assoc text (c ∷ []) cs)

pub runs_read : (x : Bool) (cs : List ℕ) → Reads (runs x cs) cs
runs_read x [] = λ text b ps.
    blind text b true ps ∙ ap (λ y. joined_from false y true ps) (sym (append-nil text))
runs_read x (c ∷ cs) = go (is_itself x c) (runs_read x cs)
  where
    go : (p : Bool) → Reads (runs x cs) cs → Reads (cond p (with_char x c (runs x cs))
        (run (c ∷ []) (is_doubled x c) ∷ runs x cs)) (c ∷ cs)
    go true h = with_char_reads x c cs (runs x cs) h
    go false h = behind_one (run (c ∷ []) (is_doubled x c)) cs (runs x cs) h
