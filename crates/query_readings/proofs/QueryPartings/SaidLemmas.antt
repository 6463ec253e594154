-- What a literal says.
use Rattle.std.proofs.Common.{◌≡◌, ◌<◌, ℕ, zero, suc, List, [], ◌∷◌, length, ◌==◌, Bool}
use Rattle.std.proofs.Common.{true, false, Option, Some, None, option_map, if◌then◌else◌, refl, sym}
use Rattle.std.proofs.Common.{ap, subst, ◌∙◌, arith}
use Rattle.std.proofs.lemmas.Bool.{eqb-true, false_from_ne_true}
use Rattle.std.proofs.lemmas.Option.{none-some, same_Some}
use Rattle.query_pieces.specs.References.{reference_at}
use Rattle.query_pieces.specs.Literals.{is_said, Says, over, itself, reference, line, return}
use Rattle.query_pieces.specs.Elements.{line_end}
use Rattle.query_pieces.proofs.LiteralLemmas.{reference_length, turns_line, is_return}
use Rattle.query_readings.specs.QueryPartings.Said.{behind_reference, said_from, said_of}

-- from what is said to the function
step_itself : (k c : ℕ) (ts said : List ℕ) → is_said c ≡ true → said_from k ts ≡ Some said
    → said_from (suc k) (c ∷ ts) ≡ Some (c ∷ said)
step_itself k c ts said h e = rw (h, e) refl

step_reference : (k c : ℕ) (ts rest said : List ℕ) → reference_at ts ≡ Some (c, rest)
    → said_from k rest ≡ Some said → said_from (suc k) (38 ∷ ts) ≡ Some (c ∷ said)
unfolding is_said
step_reference k c ts rest said r e =
    ap (behind_reference (said_from k)) r ∙ ap (option_map (λ said. c ∷ said)) e

step_line : (k : ℕ) (ts said : List ℕ) → said_from k (line_end 13 ts) ≡ Some said
    → said_from (suc k) (13 ∷ ts) ≡ Some (10 ∷ said)
unfolding is_said
step_line k ts said e = ap (option_map (λ said. 10 ∷ said)) e

alone : (ts : List ℕ) → ((more : List ℕ) → ts ≡ 10 ∷ more → ⊥) → line_end 13 ts ≡ ts
alone [] n = refl
alone (d ∷ ds) n =
    rw (false_from_ne_true (d == 10) (λ h. n ds (ap (λ x. x ∷ ds) (eqb-true d 10 h)))) refl

pub says_said : (k : ℕ) (ts said : List ℕ) → Says ts said → length ts < k
    → said_from k ts ≡ Some said
says_said zero ts said s h = absurd (omega (arith, h))
says_said (suc k) _ _ over h = refl
says_said (suc k) _ _ (itself {c = c} {ts = ts} {said = said} e s) h =
    step_itself k c ts said e (says_said k ts said s (omega (arith, h)))
says_said (suc k) _ _ (reference {c = c} {ts = ts} {rest = rest} {said = said} e s) h =
    let short = reference_length ts rest c e in
    step_reference k c ts rest said e (says_said k rest said s (omega (arith, h, short)))
says_said (suc k) _ _ (line {ts = ts} {said = said} s) h =
    step_line k (10 ∷ ts) said (says_said k ts said s (omega (arith, h)))
says_said (suc k) _ _ (return {ts = ts} {said = said} n s) h =
    step_line k ts said
    (ap (said_from k) (alone ts n) ∙ says_said k ts said s (omega (arith, h)))

-- .. and back
record Made (c : ℕ) (o : Option (List ℕ)) (said : List ℕ) : Type 0 where
  rest : List ℕ
  is : o ≡ Some rest
  whole : said ≡ c ∷ rest

made : (c : ℕ) (o : Option (List ℕ)) (said : List ℕ)
    → option_map (λ said. c ∷ said) o ≡ Some said → Made c o said
made c None said e = absurd (none-some said e)
made c (Some rest) said e = record { rest = rest; is = refl; whole = sym (same_Some _ _ e) }

abbrev Back : ℕ → Type 0
Back k = (ts said : List ℕ) → said_from k ts ≡ Some said → Says ts said

by_itself : (k c : ℕ) (ts said : List ℕ) → is_said c ≡ true → Back k
    → option_map (λ said. c ∷ said) (said_from k ts) ≡ Some said → Says (c ∷ ts) said
by_itself k c ts said h go e =
    let m = made c (said_from k ts) said e in
    subst (Says (c ∷ ts)) (sym m.whole) (itself h (go ts m.rest m.is))

by_reference : (k : ℕ) (ts said : List ℕ) (r : Option (ℕ × List ℕ)) → reference_at ts ≡ r → Back k
    → behind_reference (said_from k) r ≡ Some said → Says (38 ∷ ts) said
by_reference k ts said None f go e = absurd (none-some said e)
by_reference k ts said (Some r) f go e =
    let m = made r.0 (said_from k r.1) said e in
    subst (Says (38 ∷ ts)) (sym m.whole) (reference f (go r.1 m.rest m.is))

by_line : (k : ℕ) (ts said : List ℕ) → Back k
    → option_map (λ said. 10 ∷ said) (said_from k (line_end 13 ts)) ≡ Some said
    → Says (13 ∷ ts) said
by_line k ts said go e =
    let m = made 10 (said_from k (line_end 13 ts)) said e in
    subst (Says (13 ∷ ts)) (sym m.whole)
    ((turns_line ts).on m.rest (go (line_end 13 ts) m.rest m.is))

first_is : (c d : ℕ) (ts said : List ℕ) → c ≡ d → Says (d ∷ ts) said → Says (c ∷ ts) said
first_is c d ts said e s = subst (λ z. Says (z ∷ ts) said) (sym e) s

by_others : (k c : ℕ) (ts said : List ℕ) → is_said c ≡ false → Back k → (b : Bool) → (c == 38) ≡ b
    → (if b then behind_reference (said_from k) (reference_at ts)
    else option_map (λ said. 10 ∷ said) (said_from k (line_end 13 ts))) ≡ Some said
    → Says (c ∷ ts) said
by_others k c ts said h go true f e =
    first_is c 38 ts said (eqb-true c 38 f) (by_reference k ts said (reference_at ts) refl go e)
by_others k c ts said h go false f e =
    first_is c 13 ts said (is_return c h (λ g. differs c g f)) (by_line k ts said go e)
  where
    differs : (c : ℕ) → c ≡ 38 → (c == 38) ≡ false → ⊥
    differs c g f = let h : (38 == 38) ≡ false = rw g at f in cc

by_first : (k c : ℕ) (ts said : List ℕ) → Back k → (b : Bool) → is_said c ≡ b
    → (if b then option_map (λ said. c ∷ said) (said_from k ts)
    else if c == 38 then behind_reference (said_from k) (reference_at ts)
    else option_map (λ said. 10 ∷ said) (said_from k (line_end 13 ts))) ≡ Some said
    → Says (c ∷ ts) said
by_first k c ts said go true h e = by_itself k c ts said h go e
by_first k c ts said go false h e = by_others k c ts said h go (c == 38) refl e

pub said_says : (k : ℕ) (ts said : List ℕ) → said_from k ts ≡ Some said → Says ts said
said_says zero ts said e = absurd (none-some said e)
said_says (suc k) [] said e = subst (Says []) (same_Some _ _ e) over
said_says (suc k) (c ∷ ts) said e =
    by_first k c ts said (λ us more f. said_says k us more f) (is_said c) refl e

pub says_so : (ts said : List ℕ) → Says ts said → said_of ts ≡ Some said
unfolding said_of
says_so ts said s = says_said (suc (length ts)) ts said s (omega arith)

pub so_says : (ts said : List ℕ) → said_of ts ≡ Some said → Says ts said
unfolding said_of
so_says ts said e = said_says (suc (length ts)) ts said e
