-- The token at the front of a text, and the end of the text.
use Rattle.std.proofs.Common.{◌≡◌, ◌≤◌, ℕ, ◌-◌, List, [], ◌∷◌, length}
use Rattle.std.proofs.Common.{Bool, true, false, Option, Some, None, refl, sym, ap, ◌∙◌, subst, arith}
use Rattle.std.proofs.lemmas.Option.{none-some}
use Rattle.xpath_lex.specs.Gaps.{Gap}
use Rattle.xpath_lex.specs.Tokens.{Longest}
use Rattle.xpath_lex.specs.Readings.{Placed, size, IsPlace, TokenAt, IsOver}
use Rattle.xpath_lex.specs.declared.lexing.TokenKind.{TokenKind}
use Rattle.xpath_lex.proofs.GapLemmas.{gap_one, stops_at_end}
use Rattle.xpath_lex.proofs.KindLemmas.{longest_one}
use Rattle.xpath_lex.proofs.PlaceLemmas.{gap_fits, token_fits}
use Rattle.expr_tokens.specs.Terms.{Written}
use Rattle.expr_tokens.specs.TextTokens.Ends.{behind_gap, token_end}
use Rattle.expr_tokens.specs.TextTokens.Lexed.{front_of, token_of, unplaced}
use Rattle.expr_tokens.proofs.TextTokens.GapEnds.{GapEnd, gap_end}
use Rattle.expr_tokens.proofs.TextTokens.TokenEnds as ends
use Rattle.expr_tokens.proofs.TextTokens.TokenEnds.{TokenEnd, token_found}
use Rattle.query_readings.specs.QueryPartings.Nexts.{is_nil, is_over, with_rest, token_behind, token_at}
use Rattle.expr_tokens.proofs.TextTokens.LexedLemmas.{front_is}

abbrev written_as : TokenKind → List ℕ → Written
written_as k cs = record { kind = k; characters = cs }

abbrev pair : Written → List ℕ → Option (Written × List ℕ)
pair w rest = Some (w, rest)

same_written : (j k : TokenKind) (xs ys : List ℕ) → j ≡ k → xs ≡ ys
    → written_as j xs ≡ written_as k ys
same_written j k xs ys e f = ap (λ z. written_as z xs) e ∙ ap (written_as k) f

same_pair : (v w : Written) (x y : List ℕ) → v ≡ w → x ≡ y → pair v x ≡ pair w y
same_pair v w x y e f = ap (λ z. pair z x) e ∙ ap (pair w) f

found : (ts : List ℕ) → GapEnd false ts (behind_gap (length ts) false ts)
found ts = gap_end (length ts) false ts (omega arith)

-- the token is given
with_token : (b : Bool) (ts rest xs : List ℕ) (k : TokenKind) (o : Option (TokenKind × List ℕ))
    → Longest b ts k xs rest → TokenEnd b ts o → with_rest ts o ≡ pair (written_as k xs) rest
with_token b ts rest xs k _ l (ends.none n) = absurd (n k xs rest l.begins)
with_token b ts rest xs k _ l (ends.some {t = (j, more)} (run, m)) =
    let one = longest_one b ts j k run xs more rest m l in
    let text : front_of ts more ≡ xs = front_is ts run more m.begins.parts ∙ one.1 in
    same_pair (token_of ts (j, more)) (written_as k xs) more rest
    (same_written j k (front_of ts more) xs one.0 text) one.2

at_gap : (g : Bool × List ℕ) (b : Bool) (ts : List ℕ) (o : Option (Written × List ℕ)) → g.0 ≡ b
    → g.1 ≡ ts → with_rest ts (token_end b ts) ≡ o → token_behind g ≡ o
at_gap g b ts o e f h = rw (e, f) h

pub there_given : (ts rest : List ℕ) (u : Placed) → TokenAt (size ts) false ts u rest
    → token_at ts ≡ Some (unplaced u, rest)
unfolding token_at
there_given ts rest u t =
    let e = found ts in
    let same = gap_one e.gap e.stops t.gap t.stops in
    at_gap (behind_gap (length ts) false ts) t.after t.here (pair (unplaced u) rest) same.0 same.1
    (with_token t.after t.here rest u.characters u.kind (token_end t.after t.here) t.longest
    (token_found t.after t.here))

-- what is given is the token
pub record IsThere (ts : List ℕ) (w : Written) (rest : List ℕ) : Type 0 where
  pub token : Placed
  pub at : TokenAt (size ts) false ts token rest
  pub is : unplaced token ≡ w

place_is : (total : ℕ) (rest : List ℕ) → size rest ≤ total → IsPlace total rest (total - size rest)
place_is total rest h = omega (arith, h)

abbrev word_of : Written → Option (Written × List ℕ) → Written
word_of v None = v
word_of v (Some t) = t.0

abbrev rest_of : Option (Written × List ℕ) → List ℕ
rest_of None = []
rest_of (Some t) = t.1

same_first : (v w : Written) (x y : List ℕ) → pair v x ≡ pair w y → v ≡ w
same_first v w x y e = ap (word_of v) e

same_second : (v w : Written) (x y : List ℕ) → pair v x ≡ pair w y → x ≡ y
same_second v w x y e = ap rest_of e

from_end : (ts : List ℕ) (g : Bool × List ℕ) (w : Written) (rest : List ℕ)
    (o : Option (TokenKind × List ℕ)) → GapEnd false ts g → TokenEnd g.0 g.1 o
    → with_rest g.1 o ≡ pair w rest → IsThere ts w rest
from_end ts g w rest _ e (ends.none n) h = absurd (none-some _ h)
from_end ts g w rest _ e (ends.some {t = (k, more)} (run, l)) h =
    let room : size g.1 ≤ size ts = gap_fits ts g.1 (size g.1) (size ts) e.gap (omega arith) refl in
    let left : size more ≤ size ts =
    token_fits ts g.1 g.1 more (size more) (size ts) e.gap refl (run, l) (omega arith) refl in
    let at : TokenAt (size ts) false ts (record {
      kind = k;
      characters = run;
      from = size ts - size g.1;
      to = size ts - size more;
    }) more = record {
      after = g.0;
      here = g.1;
      gap = e.gap;
      stops = e.stops;
      longest = l;
      from = place_is (size ts) g.1 room;
      to = place_is (size ts) more left;
    } in
    let text : front_of g.1 more ≡ run = front_is g.1 run more l.begins.parts in
    let token : Placed = record {
      kind = k;
      characters = run;
      from = size ts - size g.1;
      to = size ts - size more;
    } in
    record {
      token = token;
      at = subst (TokenAt (size ts) false ts token) (same_second _ w more rest h) at;
      is = same_written k k run (front_of g.1 more) refl (sym text) ∙ same_first _ w more rest h;
    }

pub given_there : (ts rest : List ℕ) (w : Written) → token_at ts ≡ Some (w, rest)
    → IsThere ts w rest
unfolding token_at
given_there ts rest w e =
    from_end ts (behind_gap (length ts) false ts) w rest
    (token_end (behind_gap (length ts) false ts).0 (behind_gap (length ts) false ts).1) (found ts)
    (token_found (behind_gap (length ts) false ts).0 (behind_gap (length ts) false ts).1) e

-- the end
nil_by : (xs : List ℕ) → xs ≡ [] → is_nil xs ≡ true
nil_by xs e = rw e refl

by_nil : (xs : List ℕ) → is_nil xs ≡ true → xs ≡ []
by_nil [] e = refl
by_nil (x ∷ xs) e = absurd cc

pub over_told : (ts : List ℕ) → IsOver false ts → is_over ts ≡ true
over_told ts o =
    let e = found ts in
    let same = gap_one e.gap e.stops o.1 stops_at_end in
    nil_by (behind_gap (length ts) false ts).1 same.1

pub told_over : (ts : List ℕ) → is_over ts ≡ true → IsOver false ts
told_over ts h =
    let e = found ts in
    let none = by_nil (behind_gap (length ts) false ts).1 h in (
      (behind_gap (length ts) false ts).0,
      subst (Gap false ts (behind_gap (length ts) false ts).0) none e.gap,
    )
