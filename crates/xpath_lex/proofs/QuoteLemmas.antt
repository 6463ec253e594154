-- Literals: where the longest one ends.
use Rattle.std.proofs.Common.{◌≡◌, ℕ, ◌≤◌, List, [], ◌∷◌, ◌++◌, length, Bool, true, false, ◌==◌, ◌&&◌, not, if◌then◌else◌, Option, Some, refl, sym, ap, arith}
use Rattle.std.proofs.lemmas.Bool.{and_parts, eqb-true, false_from_ne_true}
use Rattle.std.specs.List.{list_all}
use Rattle.xpath_lex.specs.Runs.{is_inside, literal_rest}
use Rattle.xpath_lex.specs.Tokens.{Quoted, closes, doubled, passes}
use Rattle.xpath_lex.proofs.RunLemmas.{first_same, rest_same}
use Rattle.xt_names.specs.Characters.{is_char, Ends, NotNext}
use Rattle.xt_names.proofs.BoolLemmas.{no, not_true}
use Rattle.xt_names.proofs.CharacterLemmas.{itself}

-- the longest front of the text that closes a literal, and what is left after it
pub record LongestQuoted (q : ℕ) (ts rest : List ℕ) : Type 0 where
  pub run : List ℕ
  pub parts : ts ≡ run ++ rest
  pub is_quoted : Quoted q run
  pub longest : (other more : List ℕ) → Quoted q other → ts ≡ other ++ more → length other ≤ length run

abbrev pub NoneQuoted : ℕ → List ℕ → Type 0
NoneQuoted q ts = (other more : List ℕ) → Quoted q other → ts ≡ other ++ more → ⊥

-- either no front closes the literal, and the best so far stays, or the longest one does
pub data Outcome (q : ℕ) (ts : List ℕ) (best : Option (List ℕ)) : Option (List ℕ) → Type 0 where
  kept : NoneQuoted q ts → Outcome q ts best best
  ends : {rest : List ℕ} → LongestQuoted q ts rest → Outcome q ts best (Some rest)

none_empty : (q : ℕ) → NoneQuoted q []
none_empty q _ more closes e = absurd (cc)
none_empty q _ more (doubled c) e = absurd (cc)
none_empty q _ more (passes h n c) e = absurd (cc)

-- a character that is neither a quote nor may be in a literal
none_barred : (q c : ℕ) (cs : List ℕ) → (c == q) ≡ false → is_char c ≡ false → NoneQuoted q (c ∷ cs)
none_barred q c cs n h _ more closes e = no (itself q) (rw (first_same e) at n)
none_barred q c cs n h _ more (doubled k) e = no (itself q) (rw (first_same e) at n)
none_barred q c cs n h _ more (passes g m k) e = no g (rw (first_same e) at h)

-- a character that is in the literal
none_passed : (q c : ℕ) (cs : List ℕ) → (c == q) ≡ false → NoneQuoted q cs → NoneQuoted q (c ∷ cs)
none_passed q c cs n none _ more closes e = no (itself q) (rw (first_same e) at n)
none_passed q c cs n none _ more (doubled k) e = no (itself q) (rw (first_same e) at n)
none_passed q c cs n none _ more (passes g m k) e = none _ more k (rest_same e)

passed_bound : (q c : ℕ) (cs run : List ℕ) → (c == q) ≡ false → ((other more : List ℕ) → Quoted q other → cs ≡ other ++ more → length other ≤ length run)
    → (other more : List ℕ) → Quoted q other → c ∷ cs ≡ other ++ more → length other ≤ length (c ∷ run)
passed_bound q c cs run n l _ more closes e = omega arith
passed_bound q c cs run n l _ more (doubled k) e = no (itself q) (rw (first_same e) at n)
passed_bound q c cs run n l _ more (passes g m k) e = let go = l _ more k (rest_same e) in omega (arith, go)

passed : (q c : ℕ) (cs : List ℕ) (best r : Option (List ℕ)) → (c == q) ≡ false → is_char c ≡ true → Outcome q cs best r → Outcome q (c ∷ cs) best r
passed q c cs best _ n h (kept none) = kept (none_passed q c cs n none)
passed q c cs best _ n h (ends l) = ends (record {
  run = c ∷ l.run;
  parts = ap (λ x. c ∷ x) l.parts;
  is_quoted = passes h n l.is_quoted;
  longest = passed_bound q c cs l.run n l.longest;
})

-- the closing quote, after which no other stands
closed_bound : (q : ℕ) (cs : List ℕ) → NotNext q cs → (other more : List ℕ) → Quoted q other → q ∷ cs ≡ other ++ more → length other ≤ 1
closed_bound q cs n _ more closes e = omega arith
closed_bound q [] n _ more (doubled k) e = absurd (cc)
closed_bound q (d ∷ ds) n _ more (doubled k) e = absurd (n (sym (first_same (rest_same e))))
closed_bound q cs n _ more (passes g m k) e = no (itself q) (rw (← (first_same e)) at m)

closed : (q : ℕ) (cs : List ℕ) (best : Option (List ℕ)) → NotNext q cs → Outcome q (q ∷ cs) best (Some cs)
closed q cs best n = ends (record { run = q ∷ []; parts = refl; is_quoted = closes; longest = closed_bound q cs n })

-- two quotes
two_none : (q : ℕ) (ds : List ℕ) → NoneQuoted q ds → (other more : List ℕ) → Quoted q other → q ∷ q ∷ ds ≡ other ++ more → length other ≤ 1
two_none q ds none _ more closes e = omega arith
two_none q ds none _ more (doubled k) e = absurd (none _ more k (rest_same (rest_same e)))
two_none q ds none _ more (passes g m k) e = no (itself q) (rw (← (first_same e)) at m)

two_bound : (q : ℕ) (ds run : List ℕ) → ((other more : List ℕ) → Quoted q other → ds ≡ other ++ more → length other ≤ length run)
    → (other more : List ℕ) → Quoted q other → q ∷ q ∷ ds ≡ other ++ more → length other ≤ length (q ∷ q ∷ run)
two_bound q ds run l _ more closes e = omega arith
two_bound q ds run l _ more (doubled k) e = let go = l _ more k (rest_same (rest_same e)) in omega (arith, go)
two_bound q ds run l _ more (passes g m k) e = no (itself q) (rw (← (first_same e)) at m)

two : (q : ℕ) (ds : List ℕ) (best r : Option (List ℕ)) → Outcome q ds (Some (q ∷ ds)) r → Outcome q (q ∷ q ∷ ds) best r
two q ds best _ (kept none) = ends (record { run = q ∷ []; parts = refl; is_quoted = closes; longest = two_none q ds none })
two q ds best _ (ends l) = ends (record {
  run = q ∷ q ∷ l.run;
  parts = ap (λ x. q ∷ q ∷ x) l.parts;
  is_quoted = doubled l.is_quoted;
  longest = two_bound q ds l.run l.longest;
})

one : (q c : ℕ) (best : Option (List ℕ)) (b h : Bool) → (c == q) ≡ b → is_char c ≡ h → Outcome q (c ∷ []) best (if b then Some [] else if h then best else best)
one q c best true h e g = rw (eqb-true c q e) (closed q [] best tt)
one q c best false true e g = passed q c [] best best e g (kept (none_empty q))
one q c best false false e g = kept (none_barred q c [] e g)

not_quote : (q d : ℕ) (ds : List ℕ) → (d == q) ≡ false → NotNext q (d ∷ ds)
not_quote q d ds e = λ s. no (itself q) (rw (← s) at e)

more : (q c d : ℕ) (ds : List ℕ) (best next skip : Option (List ℕ)) (b e h : Bool) → (c == q) ≡ b → (d == q) ≡ e → is_char c ≡ h
    → Outcome q ds (Some (d ∷ ds)) next → Outcome q (d ∷ ds) best skip
    → Outcome q (c ∷ d ∷ ds) best (if b then (if e then next else Some (d ∷ ds)) else if h then skip else best)
more q c d ds best next skip true true h x y z go on = rw (eqb-true c q x, eqb-true d q y) (two q ds best next (rw (eqb-true d q y) at go))
more q c d ds best next skip true false h x y z go on = rw (eqb-true c q x) (closed q (d ∷ ds) best (not_quote q d ds y))
more q c d ds best next skip false e true x y z go on = passed q c (d ∷ ds) best skip x z on
more q c d ds best next skip false e false x y z go on = kept (none_barred q c (d ∷ ds) x z)

pub outcome : (q : ℕ) (ts : List ℕ) (best : Option (List ℕ)) → Outcome q ts best (literal_rest q false ts best)
unfolding literal_rest
outcome q [] best = kept (none_empty q)
outcome q (c ∷ []) best = one q c best (c == q) (is_char c) refl refl
outcome q (c ∷ d ∷ ds) best =
    more q c d ds best _ _ (c == q) (d == q) (is_char c) refl refl refl (outcome q ds (Some (d ∷ ds))) (outcome q (d ∷ ds) best)

-- what the code does with the text, as steps of `literal_rest`

pub rest_run : (q : ℕ) (run ts : List ℕ) (best : Option (List ℕ)) → list_all (is_inside q) run ≡ true → literal_rest q false (run ++ ts) best ≡ literal_rest q false ts best
unfolding is_inside literal_rest
rest_run q [] ts best a = refl
rest_run q (c ∷ run) ts best a =
    let parts = and_parts (is_char c && not (c == q)) _ a in
    let here = and_parts (is_char c) (not (c == q)) parts.0 in
    rw (not_true here.1, here.0) (rest_run q run ts best parts.1)

-- where neither the class nor a quote goes on, the best stays
pub rest_stays : (q : ℕ) (ts : List ℕ) (best : Option (List ℕ)) → Ends (is_inside q) ts → NotNext q ts → literal_rest q false ts best ≡ best
unfolding is_inside literal_rest
rest_stays q [] best e n = refl
rest_stays q (c ∷ ts) best e n =
    let other : (c == q) ≡ false = false_from_ne_true (c == q) (λ h. n (sym (eqb-true c q h))) in
    let barred : is_char c ≡ false = false_from_ne_true (is_char c) (λ h. no (rw (h, other) refl) e) in
    rw (other, barred) refl

pub rest_closes : (q : ℕ) (ts : List ℕ) (best : Option (List ℕ)) → literal_rest q false (q ∷ ts) best ≡ literal_rest q true ts (Some ts)
unfolding literal_rest
rest_closes q ts best = rw (itself q) refl

pub rest_goes_on : (q : ℕ) (ts : List ℕ) (best : Option (List ℕ)) → literal_rest q true (q ∷ ts) best ≡ literal_rest q false ts best
unfolding literal_rest
rest_goes_on q ts best = rw (itself q) refl

pub rest_done : (q : ℕ) (ts : List ℕ) (best : Option (List ℕ)) → NotNext q ts → literal_rest q true ts best ≡ best
unfolding literal_rest
rest_done q [] best n = refl
rest_done q (c ∷ ts) best n = rw (false_from_ne_true (c == q) (λ h. n (sym (eqb-true c q h)))) refl
