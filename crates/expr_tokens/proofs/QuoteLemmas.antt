-- Literals, one character at a time.
use Rattle.std.proofs.Common.{◌≡◌, ℕ, List, [], ◌∷◌, ◌++◌, Bool, false, Option, None, Result, Ok, Err, IfOk, refl, sym, ap, ◌∙◌, append_assoc, append-nil}
use Rattle.expr_tokens.specs.Literals.{piece, next_quote, next_doubling, within_quotes, unquoted}

-- the state after the characters
pub quote_after : Option ℕ → List ℕ → Option ℕ
quote_after q [] = q
quote_after q (c ∷ cs) = quote_after (next_quote q c) cs

pub doubling_after : Option ℕ → Bool → List ℕ → Bool
doubling_after q d [] = d
doubling_after q d (c ∷ cs) = doubling_after (next_quote q c) (next_doubling q d c) cs

quote-push : (q : Option ℕ) (cs : List ℕ) (c : ℕ) → quote_after q (cs ++ c ∷ []) ≡ next_quote (quote_after q cs) c
unfolding quote_after
quote-push q [] c = refl
quote-push q (x ∷ cs) c = quote-push (next_quote q x) cs c

doubling-push : (q : Option ℕ) (d : Bool) (cs : List ℕ) (c : ℕ) → doubling_after q d (cs ++ c ∷ []) ≡ next_doubling (quote_after q cs) (doubling_after q d cs) c
unfolding quote_after doubling_after
doubling-push q d [] c = refl
doubling-push q d (x ∷ cs) c = doubling-push (next_quote q x) (next_doubling q d x) cs c

within-push : (q : Option ℕ) (d : Bool) (cs : List ℕ) (c : ℕ) → within_quotes q d (cs ++ c ∷ []) ≡ within_quotes q d cs ++ piece (quote_after q cs) (doubling_after q d cs) c
unfolding within_quotes quote_after doubling_after
within-push q d [] c = append-nil (piece q d c)
within-push q d (x ∷ cs) c =
    ap (λ (l : List ℕ). piece q d x ++ l) (within-push (next_quote q x) (next_doubling q d x) cs c)
    ∙ sym (append_assoc (piece q d x) (within_quotes (next_quote q x) (next_doubling q d x) cs) (piece (quote_after (next_quote q x) cs) (doubling_after (next_quote q x) (next_doubling q d x) cs) c))

pub record Unquotes (made : List ℕ) (q : Option ℕ) (d : Bool) (cs : List ℕ) : Type 0 where
  pub made_is : made ≡ within_quotes None false cs
  pub quote_is : q ≡ quote_after None cs
  pub doubling_is : d ≡ doubling_after None false cs

pub unquotes_begin : Unquotes [] None false []
unfolding within_quotes quote_after doubling_after
unquotes_begin = record { made_is = refl; quote_is = refl; doubling_is = refl }

pub unquotes_more : (made new : List ℕ) (q r : Option ℕ) (d e : Bool) (cs : List ℕ) (c : ℕ) → Unquotes made q d cs → new ≡ made ++ piece q d c → r ≡ next_quote q c → e ≡ next_doubling q d c → Unquotes new r e (cs ++ c ∷ [])
unquotes_more made new q r d e cs c u f g h = record { made_is = f ∙ rw (u.made_is, u.quote_is, u.doubling_is) (sym (within-push None false cs c)); quote_is = g ∙ rw (u.quote_is) (sym (quote-push None cs c)); doubling_is = h ∙ rw (u.quote_is, u.doubling_is) (sym (doubling-push None false cs c)) }

pub unquotes_end : {E : Type 0} (r : Result (List ℕ) E) (made cs ds : List ℕ) (q : Option ℕ) (d : Bool) → Unquotes made q d cs → cs ≡ ds → IfOk r (λ t. t ≡ made) → IfOk r (λ t. t ≡ unquoted ds)
unfolding unquoted
unquotes_end (Ok t) made cs ds q d u e h = h ∙ u.made_is ∙ ap (within_quotes None false) e
unquotes_end (Err x) made cs ds q d u e h = tt

pub ruleset quotes = (unquotes_begin, unquotes_more, unquotes_end)
