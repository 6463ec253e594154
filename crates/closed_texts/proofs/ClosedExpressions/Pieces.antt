-- The fixed parts of an attribute value template have characters of its text alone.
use Rattle.std.proofs.Common.{◌≡◌, ℕ, List, [], ◌∷◌, ◌++◌, Bool, true, false, cond, ◌&&◌, ◌==◌}
use Rattle.std.proofs.Common.{refl}
use Rattle.std.proofs.Common.{◌∙◌}
use Rattle.std.proofs.lemmas.Bool.{and_parts}
use Rattle.std.proofs.lemmas.List.Folds.{list_all-append}
use Rattle.std.specs.List.{list_all}
use Rattle.xt_names.specs.Classes.{is_xml_text, is_in_ranges, xml_char_ranges}
use Rattle.sheet_values.specs.Within.{next_within, is_outside}
use Rattle.sheet_values.specs.declared.within.Within.{Within}
use Rattle.sheet_values.specs.declared.within.Within.TheVariants.{Outside}
use Rattle.sheet_values.specs.declared.templates.Piece.{Piece}
use Rattle.sheet_values.specs.declared.templates.Piece.TheVariants.{Chars, Code, LoneOpen}
use Rattle.sheet_values.specs.declared.templates.Piece.TheVariants.{LoneClose}
use Rattle.sheet_values.specs.declared.templates.BraceState.{BraceState}
use Rattle.sheet_values.specs.declared.templates.BraceState.TheVariants.{Fixed, Open, Close, Expression}
use Rattle.sheet_values.specs.Templates.{fixed_part, Turn, fixed_turn, code_turn, begin_turn}
use Rattle.sheet_values.specs.Templates.{open_turn, close_turn, turn, last_pieces, pieces_from}
use Rattle.sheet_values.specs.Templates.{pieces_of}

abbrev IsText : List ℕ → Type 0
IsText text = is_xml_text text ≡ true

abbrev pub IsFine : Piece → Type 0
IsFine (Chars text) = IsText text
IsFine (Code text) = Unit {0}
IsFine LoneOpen = Unit {0}
IsFine LoneClose = Unit {0}

abbrev pub AreFine : List Piece → Type 0
AreFine [] = Unit {0}
AreFine (q ∷ qs) = IsFine q × AreFine qs

append_fine : (ps qs : List Piece) → AreFine ps → AreFine qs → AreFine (ps ++ qs)
append_fine [] qs g h = h
append_fine (q ∷ ps) qs g h = (g.0, append_fine ps qs g.1 h)

no_text : IsText []
unfolding is_xml_text
no_text = refl

append_text : (xs ys : List ℕ) → IsText xs → IsText ys → IsText (xs ++ ys)
unfolding is_xml_text
append_text xs ys h i = list_all-append (is_in_ranges xml_char_ranges) xs ys ∙ rw (h, i) refl

first_text : (c : ℕ) (cs : List ℕ) → IsText (c ∷ cs) → IsText (c ∷ []) × IsText cs
unfolding is_xml_text
first_text c cs h =
    let a = and_parts (is_in_ranges xml_char_ranges c)
    (list_all (is_in_ranges xml_char_ranges) cs) h in
    (rw a.0 refl, a.1)

record Fine (t : Turn) : Type 0 where
  made : AreFine t.made
  run : IsText t.run

fixed_fine : (run : List ℕ) → IsText run → AreFine (fixed_part run)
unfolding fixed_part
fixed_fine [] h = tt
fixed_fine (c ∷ cs) h = (h, tt)

fixed_turned : (run : List ℕ) (c : ℕ) → IsText run → IsText (c ∷ []) → Fine (fixed_turn run c)
fixed_turned run c h i = go (c == 123) (c == 125)
  where
    go : (a b : Bool) → Fine (cond a (record { made = []; place = Open; run = run })
        (cond b (record { made = []; place = Close; run = run })
        (record { made = []; place = Fixed; run = run ++ c ∷ [] })))
    go true b = record { made = tt; run = h }
    go false true = record { made = tt; run = h }
    go false false = record { made = tt; run = append_text run (c ∷ []) h i }

code_turned : (w : Within) (run : List ℕ) (c : ℕ) → IsText run → IsText (c ∷ [])
    → Fine (code_turn w run c)
code_turned w run c h i = go (c == 125 && is_outside w)
  where
    go : (a : Bool) → Fine (cond a (record { made = Code run ∷ []; place = Fixed; run = [] })
        (record { made = []; place = Expression (next_within w c); run = run ++ c ∷ [] }))
    go true = record { made = (tt, tt); run = no_text }
    go false = record { made = tt; run = append_text run (c ∷ []) h i }

begun : (ps : List Piece) (t : Turn) → AreFine ps → Fine t → Fine (begin_turn ps t)
begun ps t g f = record { made = append_fine ps t.made g f.made; run = f.run }

open_turned : (run : List ℕ) (c : ℕ) → IsText run → IsText (c ∷ []) → Fine (open_turn run c)
open_turned run c h i = go (c == 123)
  where
    go : (a : Bool) → Fine (cond a (record { made = []; place = Fixed; run = run ++ c ∷ [] })
        (begin_turn (fixed_part run) (code_turn Outside [] c)))
    go true = record { made = tt; run = append_text run (c ∷ []) h i }
    go false =
        begun (fixed_part run) (code_turn Outside [] c) (fixed_fine run h)
        (code_turned Outside [] c no_text i)

close_turned : (run : List ℕ) (c : ℕ) → IsText run → IsText (c ∷ []) → Fine (close_turn run c)
close_turned run c h i = go (c == 125)
  where
    go : (a : Bool) → Fine (cond a (record { made = []; place = Fixed; run = run ++ c ∷ [] })
        (begin_turn (fixed_part run ++ LoneClose ∷ []) (fixed_turn [] c)))
    go true = record { made = tt; run = append_text run (c ∷ []) h i }
    go false =
        begun (fixed_part run ++ LoneClose ∷ []) (fixed_turn [] c)
        (append_fine (fixed_part run) (LoneClose ∷ []) (fixed_fine run h) (tt, tt))
        (fixed_turned [] c no_text i)

turned : (q : BraceState) (run : List ℕ) (c : ℕ) → IsText run → IsText (c ∷ []) → Fine (turn q run c)
unfolding turn
turned Fixed run c h i = fixed_turned run c h i
turned Open run c h i = open_turned run c h i
turned Close run c h i = close_turned run c h i
turned (Expression w) run c h i = code_turned w run c h i

last_fine : (q : BraceState) (run : List ℕ) → IsText run → AreFine (last_pieces q run)
unfolding last_pieces
last_fine Fixed run h = fixed_fine run h
last_fine Open run h =
    append_fine (fixed_part run) (LoneOpen ∷ []) (fixed_fine run h) (tt, tt)
last_fine Close run h =
    append_fine (fixed_part run) (LoneClose ∷ []) (fixed_fine run h) (tt, tt)
last_fine (Expression w) run h = (tt, tt)

pieces_fine : (q : BraceState) (run text : List ℕ) → IsText run → IsText text
    → AreFine (pieces_from q run text)
pieces_fine q run [] h i = last_fine q run h
pieces_fine q run (c ∷ cs) h i =
    let a = first_text c cs i in
    let t = turned q run c h a.0 in
    append_fine (turn q run c).made (pieces_from (turn q run c).place (turn q run c).run cs) t.made
    (pieces_fine (turn q run c).place (turn q run c).run cs t.run a.1)

pub all_fine : (text : List ℕ) → is_xml_text text ≡ true → AreFine (pieces_of text)
all_fine text h = pieces_fine Fixed [] text no_text h
