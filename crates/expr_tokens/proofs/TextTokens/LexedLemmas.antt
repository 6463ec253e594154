-- The function gives the tokens that the text has.
use Rattle.std.proofs.Common.{◌≡◌, ℕ, zero, suc, ◌-◌, ◌<◌, ◌≤◌, List, [], ◌∷◌, ◌++◌, length, length-append, map, Bool, false, Option, Some, None, option_map, refl, sym, ap, ◌∙◌, subst, arith}
use Rattle.xpath_lex.specs.Tokens.{IsToken, Longest, NoneBegins}
use Rattle.xpath_lex.specs.Readings.{Placed, placed, TokenAt, IsOver, FaultAt, Tokens, over, token, Fault, here, later, ends_in_digit}
use Rattle.xpath_lex.specs.declared.lexing.TokenKind.{TokenKind}
use Rattle.xpath_lex.specs.declared.lexing.Token.{Token}
use Rattle.xpath_lex.proofs.GapLemmas.{gap_one, stops_at_end}
use Rattle.xpath_lex.proofs.KindLemmas.{longest_one}
use Rattle.xpath_lex.proofs.ReadingLemmas.{some_token}
use Rattle.expr_tokens.specs.Terms.{Written, written}
use Rattle.expr_tokens.specs.TextTokens.Ends.{behind_gap, token_end}
use Rattle.expr_tokens.specs.TextTokens.Lexed.{front_of, token_of, with_token, lexed_here, lexed_behind, lexed_from, lexed, unplaced, TokensAreLexed, FaultsAreNotLexed}
use Rattle.expr_tokens.proofs.TextTokens.GapEnds.{GapEnd, gap_end}
use Rattle.expr_tokens.proofs.TextTokens.TokenEnds as ends
use Rattle.expr_tokens.proofs.TextTokens.TokenEnds.{TokenEnd, token_found}
use Rattle.std.proofs.Math.Seq.{take-append_seam}
use Rattle.xpath_lex.proofs.PlaceLemmas.{token_shorter}

pub front_is : (ts run rest : List ℕ) → ts ≡ run ++ rest → front_of ts rest ≡ run
front_is ts run rest e =
    let size = length-append run rest in
    let n : length (run ++ rest) - length rest ≡ length run = omega (arith, size) in
    let whole : front_of (run ++ rest) rest ≡ run = rw n (take-append_seam run rest) in
    rw e whole

abbrev Go : Type 0
Go = Bool → List ℕ → Option (List Written)

same_token : (ts rest more xs : List ℕ) (k l : TokenKind) → front_of ts more ≡ xs → l ≡ k → token_of ts (l, more) ≡ record { kind = k; characters = xs }
same_token ts rest more xs k l e f = cc

goes_on : (go : Go) (ts rest more xs : List ℕ) (k l : TokenKind) (us : List Written) → front_of ts more ≡ xs → l ≡ k → more ≡ rest → go (ends_in_digit xs) rest ≡ Some us
    → with_token go ts (Some (l, more)) ≡ Some (record { kind = k; characters = xs } ∷ us)
goes_on go ts rest more xs k l us e f g h =
    let next : go (ends_in_digit (front_of ts more)) more ≡ Some us = rw (e, g) h in
    rw next (ap (λ t. Some (t ∷ us)) (same_token ts rest more xs k l e f))

at_token : (go : Go) (b : Bool) (ts rest xs : List ℕ) (k : TokenKind) (us : List Written) (o : Option (TokenKind × List ℕ)) → Longest b ts k xs rest → go (ends_in_digit xs) rest ≡ Some us
    → TokenEnd b ts o → with_token go ts o ≡ Some (record { kind = k; characters = xs } ∷ us)
at_token go b ts rest xs k us _ l h (ends.none n) = absurd (n k xs rest l.begins)
at_token go b ts rest xs k us _ l h (ends.some {t = (j, more)} (run, m)) =
    let one = longest_one b ts j k run xs more rest m l in
    goes_on go ts rest more xs k j us (front_is ts run more m.begins.parts ∙ one.1) one.0 one.2 h

some_here : (go : Go) (b : Bool) (ts rest xs : List ℕ) (k : TokenKind) (us : List Written) → Longest b ts k xs rest → go (ends_in_digit xs) rest ≡ Some us
    → lexed_here go ts (token_end b ts) ≡ Some (record { kind = k; characters = xs } ∷ us)
some_here go b [] rest xs k us l h = absurd (some_token xs rest l.begins.is_token (sym l.begins.parts))
some_here go b (c ∷ cs) rest xs k us l h = at_token go b (c ∷ cs) rest xs k us (token_end b (c ∷ cs)) l h (token_found b (c ∷ cs))

none_here : (go : Go) (b : Bool) (ts : List ℕ) (o : Option (TokenKind × List ℕ)) → NoneBegins b ts → TokenEnd b ts o → with_token go ts o ≡ None
none_here go b ts _ n (ends.none m) = refl
none_here go b ts _ n (ends.some (run, m)) = absurd (n _ run _ m.begins)

fault_here : (go : Go) (b : Bool) (ts : List ℕ) → (ts ≡ [] → ⊥) → NoneBegins b ts → lexed_here go ts (token_end b ts) ≡ None
fault_here go b [] s n = absurd (s refl)
fault_here go b (c ∷ cs) s n = none_here go b (c ∷ cs) (token_end b (c ∷ cs)) n (token_found b (c ∷ cs))

-- a fault after the token
none_behind : (go : Go) (b : Bool) (ts rest xs : List ℕ) (k : TokenKind) (o : Option (TokenKind × List ℕ)) → Longest b ts k xs rest → go (ends_in_digit xs) rest ≡ None
    → TokenEnd b ts o → with_token go ts o ≡ None
none_behind go b ts rest xs k _ l h (ends.none n) = refl
none_behind go b ts rest xs k _ l h (ends.some {t = (j, more)} (run, m)) =
    let one = longest_one b ts j k run xs more rest m l in
    let e : front_of ts more ≡ xs = front_is ts run more m.begins.parts ∙ one.1 in
    let next : go (ends_in_digit (front_of ts more)) more ≡ None = rw (e, one.2) h in
    rw next refl

stops_later : (go : Go) (b : Bool) (ts rest xs : List ℕ) (k : TokenKind) → Longest b ts k xs rest → go (ends_in_digit xs) rest ≡ None
    → lexed_here go ts (token_end b ts) ≡ None
stops_later go b [] rest xs k l h = absurd (some_token xs rest l.begins.is_token (sym l.begins.parts))
stops_later go b (c ∷ cs) rest xs k l h = none_behind go b (c ∷ cs) rest xs k (token_end b (c ∷ cs)) l h (token_found b (c ∷ cs))

-- after the gap that the function finds stands what is there
at_gap : (go : Go) (g : Bool × List ℕ) (b : Bool) (ts : List ℕ) (o : Option (List Written)) → g.0 ≡ b → g.1 ≡ ts → lexed_here go ts (token_end b ts) ≡ o → lexed_behind go g ≡ o
at_gap go g b ts o e f h = rw (e, f) h

over_gap : (go : Go) (g : Bool × List ℕ) → g.1 ≡ [] → lexed_behind go g ≡ Some []
over_gap go g e = rw e refl

found : (b : Bool) (ts : List ℕ) → GapEnd b ts (behind_gap (length ts) b ts)
found b ts = gap_end (length ts) b ts (omega arith)

token_step : (k total : ℕ) (b : Bool) (ts rest : List ℕ) (t : Placed) (us : List Written) → TokenAt total b ts t rest → lexed_from k (ends_in_digit t.characters) rest ≡ Some us
    → lexed_from (suc k) b ts ≡ Some (unplaced t ∷ us)
token_step k total b ts rest t us p h =
    let e = found b ts in
    let same = gap_one e.gap e.stops p.gap p.stops in
    at_gap (lexed_from k) (behind_gap (length ts) b ts) p.after p.here _ same.0 same.1 (some_here (lexed_from k) p.after p.here rest t.characters t.kind us p.longest h)

over_step : (k : ℕ) (b : Bool) (ts : List ℕ) → IsOver b ts → lexed_from (suc k) b ts ≡ Some []
over_step k b ts o =
    let e = found b ts in
    let same = gap_one e.gap e.stops o.1 stops_at_end in
    over_gap (lexed_from k) (behind_gap (length ts) b ts) same.1

fault_step : (k total : ℕ) (b : Bool) (ts : List ℕ) (place : ℕ) → FaultAt total b ts place → lexed_from (suc k) b ts ≡ None
fault_step k total b ts place p =
    let e = found b ts in
    let same = gap_one e.gap e.stops p.gap p.stops in
    at_gap (lexed_from k) (behind_gap (length ts) b ts) p.after p.here None same.0 same.1 (fault_here (lexed_from k) p.after p.here p.some p.none)

none_step : (k total : ℕ) (b : Bool) (ts rest : List ℕ) (t : Placed) → TokenAt total b ts t rest → lexed_from k (ends_in_digit t.characters) rest ≡ None
    → lexed_from (suc k) b ts ≡ None
none_step k total b ts rest t p h =
    let e = found b ts in
    let same = gap_one e.gap e.stops p.gap p.stops in
    at_gap (lexed_from k) (behind_gap (length ts) b ts) p.after p.here None same.0 same.1 (stops_later (lexed_from k) p.after p.here rest t.characters t.kind p.longest h)

-- less is left after a token
some_run : (k : TokenKind) (run : List ℕ) → IsToken k run → 0 < length run
some_run k [] t = absurd (some_token [] [] t refl)
some_run k (c ∷ cs) t = omega arith

tokens_from : (k total : ℕ) (b : Bool) (ts : List ℕ) (us : List Placed) → Tokens total b ts us → length ts < k → lexed_from k b ts ≡ Some (map unplaced us)
tokens_from zero total b ts us p h = absurd (omega arith)
tokens_from (suc k) total b ts _ (over o) h = over_step k b ts o
tokens_from (suc k) total b ts _ (token {rest = rest} {t = t} {us = us} p r) h =
    let short = token_shorter total b ts rest t p in
    token_step k total b ts rest t (map unplaced us) p (tokens_from k total (ends_in_digit t.characters) rest us r (omega (arith, short, h)))

fault_from : (k total : ℕ) (b : Bool) (ts : List ℕ) (place : ℕ) → Fault total b ts place → length ts < k → lexed_from k b ts ≡ None
fault_from zero total b ts place p h = absurd (omega arith)
fault_from (suc k) total b ts place (here f) h = fault_step k total b ts place f
fault_from (suc k) total b ts place (later {rest = rest} {t = t} p r) h =
    let short = token_shorter total b ts rest t p in
    none_step k total b ts rest t p (fault_from k total (ends_in_digit t.characters) rest place r (omega (arith, short, h)))

pub tokens_lexed : TokensAreLexed
unfolding lexed
tokens_lexed total text us p = tokens_from (suc (length text)) total false text us p (omega arith)

pub faults_not_lexed : FaultsAreNotLexed
unfolding lexed
faults_not_lexed total text place p = fault_from (suc (length text)) total false text place p (omega arith)

-- of the tokens that the code gives
unplaced_all : (ts : List Token) → map unplaced (map placed ts) ≡ map written ts
unplaced_all [] = refl
unplaced_all (t ∷ ts) = ap (λ x. written t ∷ x) (unplaced_all ts)

pub read : (total : ℕ) (text : List ℕ) (list : List Token) → Tokens total false text (map placed list) → Some (map written list) ≡ lexed text
read total text list p = ap Some (sym (unplaced_all list)) ∙ sym (tokens_lexed total text (map placed list) p)

pub not_read : (total : ℕ) (text : List ℕ) (place : ℕ) → Fault total false text place → None ≡ lexed text
not_read total text place p = sym (faults_not_lexed total text place p)
