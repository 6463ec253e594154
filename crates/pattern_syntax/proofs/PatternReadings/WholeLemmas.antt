-- Each text has the tokens that the function gives, or a place where none begins.
use Rattle.std.proofs.Common.{◌≡◌, ◌≤◌, ◌<◌, ℕ, zero, suc, ◌+◌, ◌-◌, List, [], ◌∷◌, length, length-append, map, Bool, false, Option, Some, None, option_map, refl, sym, ap, ◌∙◌, arith}
use Rattle.std.specs.Str.{chars, IsUtf8}
use Rattle.xpath_lex.specs.Tokens.{Longest}
use Rattle.xpath_lex.specs.Readings.{Placed, size, IsPlace, TokenAt, Tokens, over, token, Fault, here, later, ends_in_digit}
use Rattle.xpath_lex.specs.declared.lexing.TokenKind.{TokenKind}
use Rattle.xpath_lex.proofs.PlaceLemmas.{gap_fits, token_fits, text_size}
use Rattle.xpath_lex.proofs.ReadingLemmas.{some_token}
use Rattle.expr_tokens.specs.Terms.{Written}
use Rattle.expr_tokens.specs.TextTokens.Ends.{behind_gap, token_end}
use Rattle.expr_tokens.specs.TextTokens.Lexed.{with_token, lexed_here, lexed_behind, lexed_from, lexed, unplaced}
use Rattle.expr_tokens.proofs.TextTokens.GapEnds.{GapEnd, gap_end, gap_shorter}
use Rattle.expr_tokens.proofs.TextTokens.TokenEnds as ends
use Rattle.expr_tokens.proofs.TextTokens.TokenEnds.{TokenEnd, token_found}
use Rattle.pattern_syntax.specs.Readings.{IsLexed}
use Rattle.expr_tokens.proofs.TextTokens.LexedLemmas.{front_is}

data Lexing (total : ℕ) (b : Bool) (ts : List ℕ) : Option (List Written) → Type 0 where
  is_lexed : {us : List Placed} → Tokens total b ts us → Lexing total b ts (Some (map unplaced us))
  is_fault : {place : ℕ} → Fault total b ts place → Lexing total b ts None

place_is : (total : ℕ) (rest : List ℕ) → size rest ≤ total → IsPlace total rest (total - size rest)
place_is total rest h = omega arith

abbrev Go : Type 0
Go = Bool → List ℕ → Option (List Written)

token_first : (total : ℕ) (b : Bool) (ts rest : List ℕ) (u : Placed) (o : Option (List Written)) → TokenAt total b ts u rest → Lexing total (ends_in_digit u.characters) rest o
    → Lexing total b ts (option_map (λ ws. unplaced u ∷ ws) o)
token_first total b ts rest u _ t (is_lexed r) = is_lexed (token t r)
token_first total b ts rest u _ t (is_fault f) = is_fault (later t f)

no_text : (c : ℕ) (cs : List ℕ) → c ∷ cs ≡ [] → ⊥
no_text c cs e = cc

some_run : (run rest : List ℕ) (k : TokenKind) (b : Bool) (ts : List ℕ) → Longest b ts k run rest → length rest < length ts
some_run [] rest k b ts l = absurd (some_token [] [] l.begins.is_token refl)
some_run (c ∷ run) rest k b ts l =
    let size = ap length l.begins.parts in
    let both = length-append (c ∷ run) rest in
    omega (arith, size, both)

module _ (total : ℕ) (b : Bool) (ts : List ℕ) (go : Go) (fits : size ts ≤ total)
    (rec : (d : Bool) (rest : List ℕ) → length rest < length ts → size rest ≤ total → Lexing total d rest (go d rest)) where
  with_token_is : (g : Bool × List ℕ) (o : Option (TokenKind × List ℕ)) → GapEnd b ts g → (g.1 ≡ [] → ⊥) → TokenEnd g.0 g.1 o → Lexing total b ts (with_token go g.1 o)
  with_token_is g _ e s (ends.none n) =
      let room : size g.1 ≤ total = gap_fits ts g.1 (size g.1) total e.gap fits refl in
      is_fault (here (record { after = g.0; here = g.1; gap = e.gap; stops = e.stops; some = s; none = n; at = place_is total g.1 room }))
  with_token_is g _ e s (ends.some {t = t} (run, l)) =
      let room : size g.1 ≤ total = gap_fits ts g.1 (size g.1) total e.gap fits refl in
      let left : size t.1 ≤ total = token_fits ts g.1 g.1 t.1 (size t.1) total e.gap refl (run, l) fits refl in
      let less : length t.1 < length g.1 = some_run run t.1 t.0 g.0 g.1 l in
      let whole : length g.1 ≤ length ts = gap_shorter e.gap in
      let u : Placed = record { kind = t.0; characters = run; from = total - size g.1; to = total - size t.1 } in
      let at : TokenAt total b ts (record { kind = t.0; characters = run; from = total - size g.1; to = total - size t.1 }) t.1 = record {
        after = g.0;
        here = g.1;
        gap = e.gap;
        stops = e.stops;
        longest = l;
        from = place_is total g.1 room;
        to = place_is total t.1 left;
      } in
      rw (front_is g.1 run t.1 l.begins.parts) (token_first total b ts t.1 u (go (ends_in_digit run) t.1) at (rec (ends_in_digit run) t.1 (omega (arith, less, whole)) left))

  here_is : (g : Bool × List ℕ) (xs : List ℕ) → g.1 ≡ xs → GapEnd b ts g → TokenEnd g.0 xs (token_end g.0 xs) → Lexing total b ts (lexed_here go xs (token_end g.0 xs))
  here_is g [] e f t = is_lexed (over (g.0, rw e at f.gap))
  here_is g (c ∷ cs) e f t =
      let same : Lexing total b ts (with_token go g.1 (token_end g.0 g.1)) =
      with_token_is g (token_end g.0 g.1) f (λ n. no_text c cs (sym e ∙ n)) (token_found g.0 g.1) in
      rw e at same

  behind_is : Lexing total b ts (lexed_behind go (behind_gap (length ts) b ts))
  behind_is =
      here_is (behind_gap (length ts) b ts) (behind_gap (length ts) b ts).1 refl (gap_end (length ts) b ts (omega arith)) (token_found (behind_gap (length ts) b ts).0 (behind_gap (length ts) b ts).1)

lexing_from : (k total : ℕ) (b : Bool) (ts : List ℕ) → length ts < k → size ts ≤ total → Lexing total b ts (lexed_from k b ts)
lexing_from zero total b ts h fits = absurd (omega arith)
lexing_from (suc k) total b ts h fits = behind_is total b ts (lexed_from k) fits (λ d rest less room. lexing_from k total d rest (omega (arith, less, h)) room)

as_lexed : (text : List ℕ) (o : Option (List Written)) → Lexing (length text) false (chars text) o → IsLexed text o
as_lexed text _ (is_lexed {us = us} t) = (us, (t, refl))
as_lexed text _ (is_fault {place = place} f) = (place, f)

pub lexes : (text : List ℕ) → IsUtf8 text → IsLexed text (lexed (chars text))
unfolding lexed
lexes text u = as_lexed text (lexed_from (suc (length (chars text))) false (chars text))
    (lexing_from (suc (length (chars text))) (length text) false (chars text) (omega arith) (text_size text (chars text) u refl))
