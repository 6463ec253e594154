-- One piece after another.
use Rattle.std.proofs.Common.{◌≡◌, [], ◌∷◌, ◌++◌, Option, Some, None, option_map, refl, ap}
use Rattle.std.proofs.Common.{sym, ◌∙◌, append_assoc}
use Rattle.std.proofs.lemmas.List.{append-nil}
use Rattle.command_words.specs.Words.{Words}
use Rattle.command_words.specs.Apart.{Piece, Depth, Doc, Operand, Told, operands_alone, with_piece}
use Rattle.command_words.specs.Apart.{with_last, with_operands}

-- what is told so far, and what the words that are left say
abbrev pub followed_by : Told → Told → Told
followed_by a b = record {
  depths = a.depths ++ b.depths;
  files = a.files ++ b.files;
  operands = a.operands ++ b.operands;
}

pub followed_by_none : (t : Told) → followed_by t (operands_alone []) ≡ t
followed_by_none t = rw (append-nil t.depths, append-nil t.files, append-nil t.operands) refl

pub followed_by_operands : (t : Told) (words : Words)
    → followed_by t (operands_alone words) ≡ with_operands words t
followed_by_operands t words = rw (append-nil t.depths, append-nil t.files) refl

followed_by_last : (p : Piece) (a b : Told)
    → followed_by a (with_piece p b) ≡ followed_by (with_last p a) b
followed_by_last (Depth n) a b = rw (append_assoc a.depths (n ∷ []) b.depths) refl
followed_by_last (Doc f) a b = rw (append_assoc a.files (f ∷ []) b.files) refl
followed_by_last (Operand w) a b = rw (append_assoc a.operands (w ∷ []) b.operands) refl

-- a piece is put after those so far
pub turn : (p : Piece) (a new : Told) (all left more : Option Told)
    → all ≡ option_map (followed_by a) left → left ≡ option_map (with_piece p) more
    → new ≡ with_last p a → all ≡ option_map (followed_by new) more
turn p a new all left None e f n = e ∙ ap (option_map (followed_by a)) f
turn p a new all left (Some t) e f n =
    e ∙ ap (option_map (followed_by a)) f
    ∙ ap Some (followed_by_last p a t ∙ ap (λ x. followed_by x t) (sym n))

pub turn_none : (a : Told) (all left : Option Told) → all ≡ option_map (followed_by a) left
    → left ≡ None → None ≡ all
turn_none a all left e f = sym (e ∙ ap (option_map (followed_by a)) f)

pub turn_start : (a : Told) (left : Option Told) → a ≡ operands_alone []
    → left ≡ option_map (followed_by a) left
turn_start a None e = refl
turn_start a (Some t) e = ap (λ x. Some (followed_by x t)) (sym e)

pub turn_end : (a : Told) (all left : Option Told) → all ≡ option_map (followed_by a) left
    → left ≡ Some (operands_alone []) → Some a ≡ all
turn_end a all left e f =
    sym (e ∙ ap (option_map (followed_by a)) f ∙ ap Some (followed_by_none a))

pub turn_rest : (a new : Told) (words : Words) (all left : Option Told)
    → all ≡ option_map (followed_by a) left → left ≡ Some (operands_alone words)
    → new ≡ with_operands words a → Some new ≡ all
turn_rest a new words all left e f n =
    sym (e ∙ ap (option_map (followed_by a)) f ∙ ap Some (followed_by_operands a words ∙ sym n))
