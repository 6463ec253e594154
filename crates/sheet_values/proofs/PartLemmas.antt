-- Fixed parts, as the code adds them.
use Rattle.std.proofs.Common.{◌≡◌, ℕ, List, [], ◌∷◌, ◌++◌, Bool, true, false, refl, sym, ap, ◌∙◌}
use Rattle.std.proofs.lemmas.List.{append-nil}
use Rattle.xt_names.specs.Allowed.{is_empty_text}
use Rattle.sheet_values.specs.Templates.{fixed_part}
use Rattle.sheet_values.specs.declared.templates.Piece.{Piece}
use Rattle.sheet_values.specs.declared.templates.Piece.TheVariants.{Chars}
use Rattle.query_options.proofs.WordLemmas.{true_is_false}

pub empty_part : (ps : List Piece) (run v : List ℕ) (b : Bool) → v ≡ run → b ≡ is_empty_text v
    → b ≡ true → ps ≡ ps ++ fixed_part run
unfolding fixed_part is_empty_text
empty_part ps [] v b e i t = sym (append-nil ps)
empty_part ps (c ∷ cs) v b e i t = absurd (true_is_false (sym t ∙ i ∙ ap is_empty_text e))

pub whole_part : (ps more : List Piece) (run v : List ℕ) (b : Bool) → v ≡ run → b ≡ is_empty_text v
    → b ≡ false → more ≡ ps ++ Chars v ∷ [] → more ≡ ps ++ fixed_part run
unfolding fixed_part is_empty_text
whole_part ps more [] v b e i f m = absurd (true_is_false (sym (ap is_empty_text e) ∙ sym i ∙ f))
whole_part ps more (c ∷ cs) v b e i f m = rw (m, e) refl
