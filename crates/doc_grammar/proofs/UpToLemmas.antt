-- Texts up to what closes them, a few characters at a time.
use Rattle.std.proofs.Common.{◌≡◌, ℕ, List, [], ◌∷◌, ◌++◌, refl, sym, subst, true, false, ◌==◌, eq-eqb, append_assoc}
use Rattle.doc_grammar.specs.Lexemes.{UpTo, begins_with}
use Rattle.doc_grammar.specs.Lexemes as lexemes
use Rattle.xt_names.specs.Characters.{is_char}
use Rattle.xt_names.proofs.BoolLemmas.{no}

two_more : (read : List ℕ) (a b : ℕ) → (read ++ a ∷ []) ++ b ∷ [] ≡ read ++ a ∷ b ∷ []
two_more read a b = append_assoc read (a ∷ []) (b ∷ [])

-- what begins a text is what it begins with
begins_so : (close rest : List ℕ) → begins_with close (close ++ rest) ≡ true
begins_so [] rest = refl
begins_so (d ∷ ds) rest = rw (eq-eqb d d refl) (begins_so ds rest)

-- where the close does not begin
pub goes_on : {close : List ℕ} {c : ℕ} {read ts text rest : List ℕ} → begins_with close (c ∷ ts) ≡ false → UpTo close read (c ∷ ts) text rest → (is_char c ≡ true) × UpTo close (read ++ c ∷ []) ts text rest
goes_on b (lexemes.more p q k) = (p, k)
goes_on {close = close} b (lexemes.whole {rest = rest} e) = let P : List ℕ → Type 0 = λ x. begins_with close x ≡ false in no (begins_so close rest) (subst P e b)

-- where it does
pub closes : {close : List ℕ} {read ts text rest : List ℕ} → begins_with close ts ≡ true → UpTo close read ts text rest → (text ≡ read) × (ts ≡ close ++ rest)
closes b (lexemes.more p q k) = no b q
closes b (lexemes.whole e) = (refl, e)

-- the close begins with another character
not_first : (d c : ℕ) (ds ts : List ℕ) → (c == d) ≡ false → begins_with (d ∷ ds) (c ∷ ts) ≡ false
not_first d c ds ts e = rw e refl

not_second : (d e c : ℕ) (ds ts : List ℕ) → (c == e) ≡ false → begins_with (d ∷ e ∷ ds) (d ∷ c ∷ ts) ≡ false
not_second d e c ds ts x = rw (eq-eqb d d refl) (not_first e c ds ts x)

not_third : (d e f c : ℕ) (ds ts : List ℕ) → (c == f) ≡ false → begins_with (d ∷ e ∷ f ∷ ds) (d ∷ e ∷ c ∷ ts) ≡ false
not_third d e f c ds ts x = rw (eq-eqb d d refl) (not_second e f c ds ts x)

pub on_one : {d c : ℕ} {ds read ts text rest : List ℕ} → (c == d) ≡ false → UpTo (d ∷ ds) read (c ∷ ts) text rest → (is_char c ≡ true) × UpTo (d ∷ ds) (read ++ c ∷ []) ts text rest
on_one {d = d} {c = c} {ds = ds} {ts = ts} e k = goes_on (not_first d c ds ts e) k

pub back_one : {d c : ℕ} {ds read ts text rest : List ℕ} → (c == d) ≡ false → is_char c ≡ true → UpTo (d ∷ ds) (read ++ c ∷ []) ts text rest → UpTo (d ∷ ds) read (c ∷ ts) text rest
back_one {d = d} {c = c} {ds = ds} {ts = ts} e p k = lexemes.more p (not_first d c ds ts e) k

-- after the first character of the close
pub on_two : {d e c : ℕ} {ds read ts text rest : List ℕ} → (c == d) ≡ false → (c == e) ≡ false → UpTo (d ∷ e ∷ ds) read (d ∷ c ∷ ts) text rest → (is_char c ≡ true) × UpTo (d ∷ e ∷ ds) (read ++ d ∷ c ∷ []) ts text rest
on_two {d = d} {e = e} {c = c} {ds = ds} {read = read} {ts = ts} {text = text} {rest = rest} x y k =
    let l = on_one x (goes_on (not_second d e c ds ts y) k).1 in
    let P : List ℕ → Type 0 = λ r. UpTo (d ∷ e ∷ ds) r ts text rest in (l.0, subst P (two_more read d c) l.1)

pub back_two : {d e c : ℕ} {ds read ts text rest : List ℕ} → (c == d) ≡ false → (c == e) ≡ false → is_char d ≡ true → is_char c ≡ true → UpTo (d ∷ e ∷ ds) (read ++ d ∷ c ∷ []) ts text rest → UpTo (d ∷ e ∷ ds) read (d ∷ c ∷ ts) text rest
back_two {d = d} {e = e} {c = c} {ds = ds} {read = read} {ts = ts} {text = text} {rest = rest} x y q p k =
    let P : List ℕ → Type 0 = λ r. UpTo (d ∷ e ∷ ds) r ts text rest in
    lexemes.more q (not_second d e c ds ts y) (back_one x p (subst P (sym (two_more read d c)) k))

-- after the first two
pub on_three : {d f c : ℕ} {ds read ts text rest : List ℕ} → (c == d) ≡ false → (c == f) ≡ false → UpTo (d ∷ d ∷ f ∷ ds) read (d ∷ d ∷ c ∷ ts) text rest → (is_char c ≡ true) × UpTo (d ∷ d ∷ f ∷ ds) (read ++ d ∷ d ∷ c ∷ []) ts text rest
on_three {d = d} {f = f} {c = c} {ds = ds} {read = read} {ts = ts} {text = text} {rest = rest} x y k =
    let l = on_two x x (goes_on (not_third d d f c ds ts y) k).1 in
    let P : List ℕ → Type 0 = λ r. UpTo (d ∷ d ∷ f ∷ ds) r ts text rest in (l.0, subst P (append_assoc read (d ∷ []) (d ∷ c ∷ [])) l.1)

pub back_three : {d f c : ℕ} {ds read ts text rest : List ℕ} → (c == d) ≡ false → (c == f) ≡ false → is_char d ≡ true → is_char c ≡ true → UpTo (d ∷ d ∷ f ∷ ds) (read ++ d ∷ d ∷ c ∷ []) ts text rest → UpTo (d ∷ d ∷ f ∷ ds) read (d ∷ d ∷ c ∷ ts) text rest
back_three {d = d} {f = f} {c = c} {ds = ds} {read = read} {ts = ts} {text = text} {rest = rest} x y q p k =
    let P : List ℕ → Type 0 = λ r. UpTo (d ∷ d ∷ f ∷ ds) r ts text rest in
    lexemes.more q (not_third d d f c ds ts y) (back_two x x q p (subst P (sym (append_assoc read (d ∷ []) (d ∷ c ∷ []))) k))
