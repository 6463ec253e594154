-- Each step in a reference keeps what can still complete it.
use Rattle.std.proofs.Common.{◌≡◌, ℕ, ◌+◌, ◌*◌, ◌≤◌, List, [], ◌∷◌, refl, arith, sym, ◌∙◌, subst, Bool, true, false, cond, Option, Some, None, ◌==◌, nat_le}
use Rattle.std.proofs.lemmas.Option.{none-some, same_Some}
use Rattle.std.proofs.lemmas.Bool.{leb-false, eqb-true}
use Rattle.doc_grammar.specs.Characters.{Base, decimal, hexadecimal, base_of, digit, last_char}
use Rattle.doc_grammar.specs.Lexemes.{Digits, Reference}
use Rattle.doc_grammar.specs.Lexemes as lexemes
use Rattle.doc_grammar.specs.Lexing.{Ref, RefStep, ref_step, on, stands_for, fails, ampersand, letter_a, spelling, spelling_step, hash, hash_x, number, first_digit, with_digit}
use Rattle.doc_grammar.proofs.CharacterFacts.{semicolon_digit, x_digit, char_low}
use Rattle.doc_grammar.proofs.LexRests.{Letters, last_letter, a_letter, RefRest}
use Rattle.xt_names.specs.Characters.{is_char}
use Rattle.xt_names.proofs.BoolLemmas.{no}
use Rattle.xt_names.proofs.CharacterLemmas.{itself}

-- what a character does to the references that may still come
abbrev pub RefGoes : Ref → ℕ → List ℕ → RefStep → Type 0
RefGoes r c ts (on r') =
    (v : ℕ) (rest : List ℕ) → (RefRest r (c ∷ ts) v rest → RefRest r' ts v rest) × (RefRest r' ts v rest → RefRest r (c ∷ ts) v rest)
RefGoes r c ts (stands_for n) = ((v : ℕ) (rest : List ℕ) → RefRest r (c ∷ ts) v rest → (v ≡ n) × (rest ≡ ts)) × RefRest r (c ∷ ts) n ts
RefGoes r c ts fails = (v : ℕ) (rest : List ℕ) → RefRest r (c ∷ ts) v rest → ⊥

choose : (r : Ref) (c : ℕ) (ts : List ℕ) (b : Bool) (x y : RefStep) → (b ≡ true → RefGoes r c ts x) → (b ≡ false → RefGoes r c ts y) → RefGoes r c ts (cond b x y)
choose r c ts true x y f g = f refl
choose r c ts false x y f g = g refl

at : (r : Ref) (c d : ℕ) (ts : List ℕ) (o : RefStep) → (c == d) ≡ true → RefGoes r d ts o → RefGoes r c ts o
at r c d ts o e k = let P : ℕ → Type 0 = λ x. RefGoes r x ts o in subst P (sym (eqb-true c d e)) k

-- the first letter of an entity's name
begins_a : {v : ℕ} {ts rest : List ℕ} → Letters 38 (109 ∷ 112 ∷ 59 ∷ []) ts v rest → Reference (97 ∷ ts) v rest
begins_a (a_letter (a_letter last_letter)) = lexemes.amp

begins_apos : {v : ℕ} {ts rest : List ℕ} → Letters 39 (112 ∷ 111 ∷ 115 ∷ 59 ∷ []) ts v rest → Reference (97 ∷ ts) v rest
begins_apos (a_letter (a_letter (a_letter last_letter))) = lexemes.apos

begins_l : {v : ℕ} {ts rest : List ℕ} → Letters 60 (116 ∷ 59 ∷ []) ts v rest → Reference (108 ∷ ts) v rest
begins_l (a_letter last_letter) = lexemes.lt

begins_g : {v : ℕ} {ts rest : List ℕ} → Letters 62 (116 ∷ 59 ∷ []) ts v rest → Reference (103 ∷ ts) v rest
begins_g (a_letter last_letter) = lexemes.gt

begins_q : {v : ℕ} {ts rest : List ℕ} → Letters 34 (117 ∷ 111 ∷ 116 ∷ 59 ∷ []) ts v rest → Reference (113 ∷ ts) v rest
begins_q (a_letter (a_letter (a_letter last_letter))) = lexemes.quot

left_l : {v : ℕ} {ts rest : List ℕ} → Reference (108 ∷ ts) v rest → Letters 60 (116 ∷ 59 ∷ []) ts v rest
left_l lexemes.lt = a_letter last_letter

left_g : {v : ℕ} {ts rest : List ℕ} → Reference (103 ∷ ts) v rest → Letters 62 (116 ∷ 59 ∷ []) ts v rest
left_g lexemes.gt = a_letter last_letter

left_q : {v : ℕ} {ts rest : List ℕ} → Reference (113 ∷ ts) v rest → Letters 34 (117 ∷ 111 ∷ 116 ∷ 59 ∷ []) ts v rest
left_q lexemes.quot = a_letter (a_letter (a_letter last_letter))

left_amp : {v : ℕ} {ts rest : List ℕ} → Reference (97 ∷ 109 ∷ ts) v rest → Letters 38 (112 ∷ 59 ∷ []) ts v rest
left_amp lexemes.amp = a_letter last_letter

left_apos : {v : ℕ} {ts rest : List ℕ} → Reference (97 ∷ 112 ∷ ts) v rest → Letters 39 (111 ∷ 115 ∷ 59 ∷ []) ts v rest
left_apos lexemes.apos = a_letter (a_letter last_letter)

no_entity : {c v : ℕ} {ts rest : List ℕ} → (c == 35) ≡ false → (c == 97) ≡ false → (c == 108) ≡ false → (c == 103) ≡ false → (c == 113) ≡ false → Reference (c ∷ ts) v rest → ⊥
no_entity h a l g q lexemes.amp = cc
no_entity h a l g q lexemes.lt = cc
no_entity h a l g q lexemes.gt = cc
no_entity h a l g q lexemes.quot = cc
no_entity h a l g q lexemes.apos = cc
no_entity h a l g q (lexemes.by_decimal d e i) = cc
no_entity h a l g q (lexemes.by_hexadecimal d e i) = cc

ampersand_goes : (c : ℕ) (ts : List ℕ) → RefGoes ampersand c ts (ref_step ampersand c)
ampersand_goes c ts =
    choose ampersand c ts (c == 35) _ _
    (λ e. at ampersand c 35 ts (on hash) e (λ v rest. ((λ k. k), (λ k. k))))
    (λ h. choose ampersand c ts (c == 97) _ _
    (λ e. at ampersand c 97 ts (on letter_a) e (λ v rest. ((λ k. k), (λ k. k))))
    (λ a. choose ampersand c ts (c == 108) _ _
    (λ e. at ampersand c 108 ts (on (spelling (116 ∷ 59 ∷ []) 60)) e (λ v rest. (left_l, begins_l)))
    (λ l. choose ampersand c ts (c == 103) _ _
    (λ e. at ampersand c 103 ts (on (spelling (116 ∷ 59 ∷ []) 62)) e (λ v rest. (left_g, begins_g)))
    (λ g. choose ampersand c ts (c == 113) _ _
    (λ e. at ampersand c 113 ts (on (spelling (117 ∷ 111 ∷ 116 ∷ 59 ∷ []) 34)) e (λ v rest. (left_q, begins_q)))
    (λ q v rest k. no_entity h a l g q k)))))

no_letter : {c v : ℕ} {ts rest : List ℕ} → (c == 109) ≡ false → (c == 112) ≡ false → Reference (97 ∷ c ∷ ts) v rest → ⊥
no_letter m p lexemes.amp = cc
no_letter m p lexemes.apos = cc

back_amp : {v : ℕ} {ts rest : List ℕ} → Letters 38 (112 ∷ 59 ∷ []) ts v rest → Reference (97 ∷ 109 ∷ ts) v rest
back_amp k = begins_a (a_letter k)

back_apos : {v : ℕ} {ts rest : List ℕ} → Letters 39 (111 ∷ 115 ∷ 59 ∷ []) ts v rest → Reference (97 ∷ 112 ∷ ts) v rest
back_apos k = begins_apos (a_letter k)

letter_goes : (c : ℕ) (ts : List ℕ) → RefGoes letter_a c ts (ref_step letter_a c)
letter_goes c ts =
    choose letter_a c ts (c == 109) _ _
    (λ e. at letter_a c 109 ts (on (spelling (112 ∷ 59 ∷ []) 38)) e (λ v rest. (left_amp, back_amp)))
    (λ m. choose letter_a c ts (c == 112) _ _
    (λ e. at letter_a c 112 ts (on (spelling (111 ∷ 115 ∷ 59 ∷ []) 39)) e (λ v rest. (left_apos, back_apos)))
    (λ p v rest k. no_letter m p k))

last_one : {u v c d : ℕ} {ts rest : List ℕ} → Letters u (d ∷ []) (c ∷ ts) v rest → (v ≡ u) × (rest ≡ ts)
last_one last_letter = (refl, refl)

last_same : {u v c d : ℕ} {ts rest : List ℕ} → Letters u (d ∷ []) (c ∷ ts) v rest → (c == d) ≡ true
last_same {c = c} last_letter = itself c

next_one : {u v c d e : ℕ} {left ts rest : List ℕ} → Letters u (d ∷ e ∷ left) (c ∷ ts) v rest → Letters u (e ∷ left) ts v rest
next_one (a_letter k) = k

next_same : {u v c d e : ℕ} {left ts rest : List ℕ} → Letters u (d ∷ e ∷ left) (c ∷ ts) v rest → (c == d) ≡ true
next_same {c = c} (a_letter k) = itself c

no_letters : {u v : ℕ} {ts rest : List ℕ} → Letters u [] ts v rest → ⊥
no_letters k = elim k [ ]

spelling_goes : (left : List ℕ) (u c : ℕ) (ts : List ℕ) → RefGoes (spelling left u) c ts (spelling_step left u c)
spelling_goes [] u c ts = λ v rest k. no_letters k
spelling_goes (d ∷ []) u c ts =
    choose (spelling (d ∷ []) u) c ts (c == d) _ _
    (λ e. at (spelling (d ∷ []) u) c d ts (stands_for u) e ((λ v rest k. last_one k), last_letter))
    (λ e v rest k. no (last_same k) e)
spelling_goes (d ∷ f ∷ left) u c ts =
    choose (spelling (d ∷ f ∷ left) u) c ts (c == d) _ _
    (λ e. at (spelling (d ∷ f ∷ left) u) c d ts (on (spelling (f ∷ left) u)) e (λ v rest. (next_one, a_letter)))
    (λ e v rest k. no (next_same k) e)

-- numbers

hash_on : {c v : ℕ} {ts rest : List ℕ} → (c == 120) ≡ false → Reference (35 ∷ c ∷ ts) v rest → (d : ℕ) × (digit decimal c ≡ Some d) × Digits decimal d ts v rest × (is_char v ≡ true)
hash_on x (lexemes.by_decimal e k i) = (_, e, k, i)
hash_on x (lexemes.by_hexadecimal e k i) = absurd (cc)

hash_goes : (c : ℕ) (ts : List ℕ) → RefGoes hash c ts (ref_step hash c)
hash_goes c ts =
    choose hash c ts (c == 120) _ _
    (λ e. at hash c 120 ts (on hash_x) e (λ v rest. ((λ k. k), (λ k. k))))
    (λ x. go x (digit decimal c) refl)
  where
    go : (c == 120) ≡ false → (o : Option ℕ) → digit decimal c ≡ o → RefGoes hash c ts (first_digit decimal o)
    go x None e = λ v rest k. let f = hash_on x k in none-some _ (sym e ∙ f.1)
    go x (Some d) e = λ v rest. (
      (λ k. let f = hash_on x k in let P : ℕ → Type 0 = λ n. Digits decimal n ts v rest in (subst P (same_Some _ _ (sym f.1 ∙ e)) f.2, f.3)),
      (λ k. lexemes.by_decimal e k.0 k.1),
    )

hash_x_on : {c v : ℕ} {ts rest : List ℕ} → Reference (35 ∷ 120 ∷ c ∷ ts) v rest → (d : ℕ) × (digit hexadecimal c ≡ Some d) × Digits hexadecimal d ts v rest × (is_char v ≡ true)
hash_x_on (lexemes.by_decimal e k i) = absurd (none-some _ (sym x_digit ∙ e))
hash_x_on (lexemes.by_hexadecimal e k i) = (_, e, k, i)

hash_x_goes : (c : ℕ) (ts : List ℕ) → RefGoes hash_x c ts (ref_step hash_x c)
hash_x_goes c ts = go (digit hexadecimal c) refl where
  go : (o : Option ℕ) → digit hexadecimal c ≡ o → RefGoes hash_x c ts (first_digit hexadecimal o)
  go None e = λ v rest k. let f = hash_x_on k in none-some _ (sym e ∙ f.1)
  go (Some d) e = λ v rest. (
    (λ k. let f = hash_x_on k in let P : ℕ → Type 0 = λ n. Digits hexadecimal n ts v rest in (subst P (same_Some _ _ (sym f.1 ∙ e)) f.2, f.3)),
    (λ k. lexemes.by_hexadecimal e k.0 k.1),
  )

number_end : {b : Base} {n v : ℕ} {ts rest : List ℕ} → Digits b n (59 ∷ ts) v rest → (v ≡ n) × (rest ≡ ts)
number_end {b = b} (lexemes.more e k) = absurd (none-some _ (sym (semicolon_digit b) ∙ e))
number_end lexemes.whole = (refl, refl)

number_on : {b : Base} {c n v : ℕ} {ts rest : List ℕ} → (c == 59) ≡ false → Digits b n (c ∷ ts) v rest → (d : ℕ) × (digit b c ≡ Some d) × Digits b (n * base_of b + d) ts v rest
number_on s (lexemes.more e k) = (_, e, k)
number_on s lexemes.whole = absurd (cc)

-- more digits make no smaller number
grows : {b : Base} {n v : ℕ} {ts rest : List ℕ} → Digits b n ts v rest → n ≤ v
grows {b = decimal} (lexemes.more e k) = let low = grows k in omega arith
grows {b = hexadecimal} (lexemes.more e k) = let low = grows k in omega arith
grows lexemes.whole = omega arith

digit_goes : (b : Base) (n c : ℕ) (ts : List ℕ) → (c == 59) ≡ false → (o : Option ℕ) → digit b c ≡ o → RefGoes (number b n) c ts (with_digit b n o)
digit_goes b n c ts s None e = λ v rest k. let f = number_on s k.0 in none-some _ (sym e ∙ f.1)
digit_goes b n c ts s (Some d) e =
    choose (number b n) c ts (nat_le (n * base_of b + d) last_char) _ _
    (λ l v rest. ((λ k. (on_digit k.0, k.1)), (λ k. (lexemes.more e k.0, k.1))))
    (λ l v rest k. let low = grows (on_digit k.0) in let high = leb-false _ _ l in let most = char_low v k.1 in omega arith)
  where
    on_digit : {v : ℕ} {rest : List ℕ} → Digits b n (c ∷ ts) v rest → Digits b (n * base_of b + d) ts v rest
    on_digit {v = v} {rest = rest} k =
        let f = number_on s k in
        let P : ℕ → Type 0 = λ x. Digits b (n * base_of b + x) ts v rest in subst P (same_Some _ _ (sym f.1 ∙ e)) f.2

number_goes : (b : Base) (n c : ℕ) (ts : List ℕ) → RefGoes (number b n) c ts (ref_step (number b n) c)
number_goes b n c ts =
    choose (number b n) c ts (c == 59) _ _
    (λ e. choose (number b n) c ts (is_char n) _ _
    (λ i. at (number b n) c 59 ts (stands_for n) e ((λ v rest k. number_end k.0), (lexemes.whole, i)))
    (λ i. at (number b n) c 59 ts fails e (λ v rest k. no (char_of (number_end k.0).0 k.1) i)))
    (λ s. digit_goes b n c ts s (digit b c) refl)
  where
    char_of : {v : ℕ} → v ≡ n → is_char v ≡ true → is_char n ≡ true
    char_of e i = rw e at i

pub references_go : (r : Ref) (c : ℕ) (ts : List ℕ) → RefGoes r c ts (ref_step r c)
references_go ampersand c ts = ampersand_goes c ts
references_go letter_a c ts = letter_goes c ts
references_go (spelling left u) c ts = spelling_goes left u c ts
references_go hash c ts = hash_goes c ts
references_go hash_x c ts = hash_x_goes c ts
references_go (number b n) c ts = number_goes b n c ts
