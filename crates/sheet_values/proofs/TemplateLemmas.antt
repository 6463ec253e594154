-- Templates that are written are read back.
use Rattle.std.proofs.Common.{◌≡◌, ◌∙◌, ap, sym, refl, ℕ, List, [], ◌∷◌, ◌++◌, append_assoc, append-nil, Bool, true, false, not, ◌&&◌, ◌||◌, ◌==◌, if◌then◌else◌}
use Rattle.std.proofs.lemmas.Bool.{and_parts}
use Rattle.sheet_values.specs.Within.{next_within, is_outside}
use Rattle.sheet_values.specs.Templates.{Turn, Turned, turn, last_pieces, fixed_part, pieces_from, pieces_of}
use Rattle.sheet_values.specs.TemplateLaws.{doubled, is_whole, is_expression, FixedPartsAreRead, ExpressionsAreRead}
use Rattle.sheet_values.specs.declared.within.Within.{Within}
use Rattle.sheet_values.specs.declared.within.Within.TheVariants.{Outside}
use Rattle.sheet_values.specs.declared.templates.Piece.{Piece}
use Rattle.sheet_values.specs.declared.templates.Piece.TheVariants.{Code}
use Rattle.sheet_values.specs.declared.templates.BraceState.{BraceState}
use Rattle.sheet_values.specs.declared.templates.BraceState.TheVariants.{Fixed, Open, Close, Expression}
use Rattle.xt_names.proofs.BoolLemmas.{is_false}

-- one turn of a fixed part
one_turn : (p : BraceState) (run ts : List ℕ) (c : ℕ) (t : Turn) → turn p run c ≡ t → pieces_from p run (c ∷ ts) ≡ t.made ++ pieces_from t.place t.run ts
one_turn p run ts c t e = ap (λ (u : Turn). u.made ++ pieces_from u.place u.run ts) e

opening : (run : List ℕ) (c : ℕ) → (c == 123) ≡ true → turn Fixed run c ≡ record { made = []; place = Open; run = run }
unfolding turn
opening run c e = rw e refl

opened_twice : (run : List ℕ) (c : ℕ) → (c == 123) ≡ true → turn Open run c ≡ record { made = []; place = Fixed; run = run ++ c ∷ [] }
unfolding turn
opened_twice run c e = rw e refl

ending : (run : List ℕ) (c : ℕ) → (c == 123) ≡ false → (c == 125) ≡ true → turn Fixed run c ≡ record { made = []; place = Close; run = run }
unfolding turn
ending run c e f = rw (e, f) refl

ended_twice : (run : List ℕ) (c : ℕ) → (c == 125) ≡ true → turn Close run c ≡ record { made = []; place = Fixed; run = run ++ c ∷ [] }
unfolding turn
ended_twice run c f = rw f refl

brace_open : (run ts : List ℕ) (c : ℕ) → (c == 123) ≡ true → pieces_from Fixed run (c ∷ c ∷ ts) ≡ pieces_from Fixed (run ++ c ∷ []) ts
brace_open run ts c e =
    one_turn Fixed run (c ∷ ts) c (record { made = []; place = Open; run = run }) (opening run c e)
    ∙ one_turn Open run ts c (record { made = []; place = Fixed; run = run ++ c ∷ [] }) (opened_twice run c e)

brace_close : (run ts : List ℕ) (c : ℕ) → (c == 123) ≡ false → (c == 125) ≡ true → pieces_from Fixed run (c ∷ c ∷ ts) ≡ pieces_from Fixed (run ++ c ∷ []) ts
brace_close run ts c e f =
    one_turn Fixed run (c ∷ ts) c (record { made = []; place = Close; run = run }) (ending run c e f)
    ∙ one_turn Close run ts c (record { made = []; place = Fixed; run = run ++ c ∷ [] }) (ended_twice run c f)

no_brace : (run ts : List ℕ) (c : ℕ) → (c == 123) ≡ false → (c == 125) ≡ false → pieces_from Fixed run (c ∷ ts) ≡ pieces_from Fixed (run ++ c ∷ []) ts
unfolding turn
no_brace run ts c e f = rw (e, f) refl

doubled_brace : (c : ℕ) (cs ts : List ℕ) → (c == 123 || c == 125) ≡ true → doubled (c ∷ cs) ++ ts ≡ c ∷ c ∷ (doubled cs ++ ts)
doubled_brace c cs ts e = rw e refl

doubled_other : (c : ℕ) (cs ts : List ℕ) → (c == 123 || c == 125) ≡ false → doubled (c ∷ cs) ++ ts ≡ c ∷ (doubled cs ++ ts)
doubled_other c cs ts e = rw e refl

first_turn : (run cs ts : List ℕ) (c : ℕ) → pieces_from Fixed run (doubled (c ∷ cs) ++ ts) ≡ pieces_from Fixed (run ++ c ∷ []) (doubled cs ++ ts)
first_turn run cs ts c =
    let P : Bool → Type 0 = λ b. (c == 123) ≡ b → pieces_from Fixed run (doubled (c ∷ cs) ++ ts) ≡ pieces_from Fixed (run ++ c ∷ []) (doubled cs ++ ts) in
    let Q : (c == 123) ≡ false → Bool → Type 0 = λ e b. (c == 125) ≡ b → pieces_from Fixed run (doubled (c ∷ cs) ++ ts) ≡ pieces_from Fixed (run ++ c ∷ []) (doubled cs ++ ts) in
    let opens : P true = λ e. (let d : (c == 123 || c == 125) ≡ true = rw e refl in ap (pieces_from Fixed run) (doubled_brace c cs ts d) ∙ brace_open run (doubled cs ++ ts) c e) in
    let closes : (e : (c == 123) ≡ false) → Q e true = λ e f. (let d : (c == 123 || c == 125) ≡ true = rw (e, f) refl in ap (pieces_from Fixed run) (doubled_brace c cs ts d) ∙ brace_close run (doubled cs ++ ts) c e f) in
    let passes : (e : (c == 123) ≡ false) → Q e false = λ e f. (let d : (c == 123 || c == 125) ≡ false = rw (e, f) refl in ap (pieces_from Fixed run) (doubled_other c cs ts d) ∙ no_brace run (doubled cs ++ ts) c e f) in
    let others : P false = λ e. (let g : Q e (c == 125) = elim (c == 125) as (Q e) [ true ↦ closes e | false ↦ passes e ] in g refl) in
    let f : P (c == 123) = elim (c == 123) as P [ true ↦ opens | false ↦ others ] in
    f refl

-- characters whose braces are doubled go to the run
fixed_run : (run text ts : List ℕ) → pieces_from Fixed run (doubled text ++ ts) ≡ pieces_from Fixed (run ++ text) ts
fixed_run run [] ts = ap (λ r. pieces_from Fixed r ts) (sym (append-nil run))
fixed_run run (c ∷ cs) ts =
    first_turn run cs ts c ∙ fixed_run (run ++ c ∷ []) cs ts ∙ ap (λ r. pieces_from Fixed r ts) (append_assoc run (c ∷ []) cs)

pub fixed_parts : FixedPartsAreRead
unfolding last_pieces
fixed_parts text = ap (pieces_from Fixed []) (sym (append-nil (doubled text))) ∙ fixed_run [] text []

-- an expression up to its brace
closing : (within : Within) (run rest : List ℕ) → is_outside within ≡ true → pieces_from (Expression within) run (125 ∷ rest) ≡ Code run ∷ pieces_of rest
unfolding turn
closing within run rest e = rw e refl

going : (within : Within) (run ts : List ℕ) (c : ℕ) → (c == 125 && is_outside within) ≡ false → pieces_from (Expression within) run (c ∷ ts) ≡ pieces_from (Expression (next_within within c)) (run ++ c ∷ []) ts
unfolding turn
going within run ts c e = rw e refl

inside : (within : Within) (run cs rest : List ℕ) → is_whole within cs ≡ true → pieces_from (Expression within) run (cs ++ 125 ∷ rest) ≡ Code (run ++ cs) ∷ pieces_of rest
inside within run [] rest h = closing within run rest h ∙ ap (λ r. Code r ∷ pieces_of rest) (sym (append-nil run))
inside within run (c ∷ cs) rest h =
    let parts = and_parts (not (c == 125 && is_outside within)) (is_whole (next_within within c) cs) h in
    going within run (cs ++ 125 ∷ rest) c (is_false (c == 125 && is_outside within) parts.0)
    ∙ inside (next_within within c) (run ++ c ∷ []) cs rest parts.1
    ∙ ap (λ r. Code r ∷ pieces_of rest) (append_assoc run (c ∷ []) cs)

opened : (run ts : List ℕ) → pieces_from Fixed run (123 ∷ ts) ≡ pieces_from Open run ts
unfolding turn
opened run ts = refl

empty_code : (run rest : List ℕ) → pieces_from Open run (125 ∷ rest) ≡ fixed_part run ++ (Code [] ∷ pieces_of rest)
unfolding turn
empty_code run rest = append_assoc (fixed_part run) (Code [] ∷ []) (pieces_of rest)

begun : (run ts : List ℕ) (c : ℕ) → (c == 123) ≡ false → (c == 125) ≡ false → pieces_from Open run (c ∷ ts) ≡ fixed_part run ++ pieces_from (Expression (next_within Outside c)) (c ∷ []) ts
unfolding turn
begun run ts c e f = rw (e, f) (ap (λ ps. ps ++ pieces_from (Expression (next_within Outside c)) (c ∷ []) ts) (append-nil (fixed_part run)))

outside_only : (b : Bool) → (b && true) ≡ false → b ≡ false
outside_only true h = cc
outside_only false h = refl

in_braces : (run code rest : List ℕ) → is_expression code ≡ true → pieces_from Open run (code ++ 125 ∷ rest) ≡ fixed_part run ++ (Code code ∷ pieces_of rest)
in_braces run [] rest h = empty_code run rest
in_braces run (c ∷ cs) rest h =
    let parts = and_parts (not (c == 123)) (is_whole Outside (c ∷ cs)) h in
    let more = and_parts (not (c == 125 && true)) (is_whole (next_within Outside c) cs) parts.1 in
    let no_close : (c == 125) ≡ false = outside_only (c == 125) (is_false (c == 125 && true) more.0) in
    begun run (cs ++ 125 ∷ rest) c (is_false (c == 123) parts.0) no_close
    ∙ ap (λ ps. fixed_part run ++ ps) (inside (next_within Outside c) (c ∷ []) cs rest more.1)

pub expressions : ExpressionsAreRead
expressions text code rest h =
    fixed_run [] text (123 ∷ (code ++ 125 ∷ rest)) ∙ opened text (code ++ 125 ∷ rest) ∙ in_braces text code rest h

-- one turn, as the code takes it
pub turned_goes_on : (made more : List Piece) (place p : BraceState) (run r : List ℕ) (c : ℕ) (cs : List ℕ) → Turned made (turn place run c) more p r
    → more ++ pieces_from p r cs ≡ made ++ pieces_from place run (c ∷ cs)
turned_goes_on made more place p run r c cs h =
    rw (h.0, h.1, h.2) (append_assoc made (turn place run c).made (pieces_from (turn place run c).place (turn place run c).run cs))
