-- Where the longest token ends.
use Rattle.std.proofs.Common.{◌≡◌, ℕ, List, [], ◌∷◌, ◌++◌, Bool, true, false, ◌==◌, ◌&&◌, if◌then◌else◌, Option, Some, None, refl, sym, ap, ◌∙◌}
use Rattle.std.proofs.lemmas.Bool.{and_parts, eqb-true}
use Rattle.xt_names.specs.Classes.{is_ncname_text}
use Rattle.xpath_lex.specs.Classes.{is_digit, is_single, is_double}
use Rattle.xpath_lex.specs.Runs.{IsMark, bars, literal_rest}
use Rattle.xpath_lex.specs.Tokens.{Longest, NoneBegins}
use Rattle.xpath_lex.specs.declared.lexing.TokenKind.{TokenKind}
use Rattle.xpath_lex.specs.declared.lexing.TokenKind.TheVariants.{Integer, Literal, Word, QWord, AnyLocal, AnyPrefix, Symbol}
use Rattle.xpath_lex.proofs.PartLemmas.{FirstIs, RunTaken, number_taken, number_none, name_taken, word_taken, star_taken, local_taken, local_found, literal_taken, literal_none, bars_none, prefix_taken, double_taken, single_taken, single_none, Alone, none_empty, none_behind}
use Rattle.expr_tokens.specs.TextTokens.Ends.{behind_run, begins_local, begins_star, begins_fraction, tail_of, name_end, number_end, literal_end, lone_end, pair_end, mark_end, named_end, token_end}
use Rattle.expr_tokens.proofs.TextTokens.GapEnds.{run_taken, run_ends}
use Rattle.xt_names.specs.Characters.{starts_name, is_name_char, is_quote, Ends}
use Rattle.xt_names.proofs.BoolLemmas.{no}

-- what the function tells is what is there
pub data TokenEnd (b : Bool) (ts : List ℕ) : Option (TokenKind × List ℕ) → Type 0 where
  none : NoneBegins b ts → TokenEnd b ts None
  some : {t : TokenKind × List ℕ} → ((run : List ℕ) × Longest b ts t.0 run t.1) → TokenEnd b ts (Some t)

-- what comes first in the text

abbrev Name : List ℕ → List ℕ → Type 0
Name old mid = (word : List ℕ) × (old ≡ word ++ mid) × (is_ncname_text word ≡ true)

abbrev LocalName : List ℕ → List ℕ → Type 0
LocalName ts new = (word : List ℕ) × (ts ≡ 58 ∷ (word ++ new)) × (is_ncname_text word ≡ true) × Ends is_name_char new

name_first : (c : ℕ) (cs : List ℕ) → starts_name c ≡ true → Name (c ∷ cs) (behind_run is_name_char (c ∷ cs))
name_first c cs h =
    name_taken (c ∷ cs) (behind_run is_name_char (c ∷ cs)) (c, cs, refl, h) (run_taken is_name_char (c ∷ cs)) (run_ends is_name_char (c ∷ cs))

local_first : (ts : List ℕ) → begins_local ts ≡ true → LocalName ts (behind_run is_name_char (tail_of ts))
local_first [] h = cc
local_first (c ∷ []) h = cc
local_first (c ∷ d ∷ ts) h =
    let parts = and_parts (c == 58) (starts_name d) h in
    local_found (c ∷ d ∷ ts) (d ∷ ts) (behind_run is_name_char (d ∷ ts)) (ap (λ x. x ∷ d ∷ ts) (eqb-true c 58 parts.0)) (name_first d ts parts.1) (run_ends is_name_char (d ∷ ts))

not_local : (ts z : List ℕ) → begins_local ts ≡ false → ts ≡ 58 ∷ z → Ends starts_name z
not_local ts [] h e = tt
not_local ts (d ∷ z) h e = rw e at h

star_first : (ts : List ℕ) → begins_star ts ≡ true → ts ≡ 58 ∷ 42 ∷ tail_of (tail_of ts)
star_first [] h = cc
star_first (c ∷ []) h = cc
star_first (c ∷ d ∷ ts) h =
    let parts = and_parts (c == 58) (d == 42) h in
    ap (λ x. x ∷ d ∷ ts) (eqb-true c 58 parts.0) ∙ ap (λ x. 58 ∷ x ∷ ts) (eqb-true d 42 parts.1)

not_star : (ts z : List ℕ) → begins_star ts ≡ false → ts ≡ 58 ∷ 42 ∷ z → ⊥
not_star ts z h e = let f : begins_star (58 ∷ 42 ∷ z) ≡ false = rw e at h in no refl f

-- names

star_or_word : (old mid : List ℕ) → Name old mid → Ends is_name_char mid → begins_local mid ≡ false
    → TokenEnd false old (Some (if begins_star mid then (AnyLocal, tail_of (tail_of mid)) else (Word, mid)))
star_or_word old mid n e l =
    let P : Bool → Type 0 = λ b. begins_star mid ≡ b → TokenEnd false old (Some (if b then (AnyLocal, tail_of (tail_of mid)) else (Word, mid))) in
    let f : P (begins_star mid) = elim (begins_star mid) as P [
      | true ↦ λ h. some (star_taken old mid (tail_of (tail_of mid)) n (star_first mid h))
      | false ↦ λ h. some (word_taken old mid mid n e refl (λ z. not_local mid z l) (λ z. not_star mid z h))
    ] in
    f refl

name_case : (old mid : List ℕ) → Name old mid → Ends is_name_char mid → TokenEnd false old (Some (name_end mid))
name_case old mid n e =
    let P : Bool → Type 0 = λ b. begins_local mid ≡ b → TokenEnd false old (Some (if b then (QWord, behind_run is_name_char (tail_of mid)) else if begins_star mid then (AnyLocal, tail_of (tail_of mid)) else (Word, mid))) in
    let f : P (begins_local mid) = elim (begins_local mid) as P [
      | true ↦ λ h. some (local_taken old mid (behind_run is_name_char (tail_of mid)) n (local_first mid h))
      | false ↦ λ h. star_or_word old mid n e h
    ] in
    f refl

named_case : (b : Bool) (c : ℕ) (cs : List ℕ) → starts_name c ≡ true → TokenEnd b (c ∷ cs) (named_end b (c ∷ cs))
named_case true c cs h = none (none_behind (c ∷ cs) (c, cs, refl, h))
named_case false c cs h = name_case (c ∷ cs) (behind_run is_name_char (c ∷ cs)) (name_first c cs h) (run_ends is_name_char (c ∷ cs))

-- numbers

point_first : (ts : List ℕ) → begins_fraction ts ≡ true → ts ≡ 46 ∷ tail_of ts
point_first [] h = cc
point_first (c ∷ []) h = cc
point_first (c ∷ d ∷ ts) h = ap (λ x. x ∷ d ∷ ts) (eqb-true c 46 (and_parts (c == 46) (is_digit d) h).0)

digit_behind : (ts : List ℕ) → begins_fraction ts ≡ true → FirstIs is_digit (tail_of ts)
digit_behind [] h = cc
digit_behind (c ∷ []) h = cc
digit_behind (c ∷ d ∷ ts) h = (d, ts, refl, (and_parts (c == 46) (is_digit d) h).1)

not_fraction : (ts : List ℕ) → begins_fraction ts ≡ false → (d : ℕ) (more : List ℕ) → ts ≡ 46 ∷ d ∷ more → is_digit d ≡ false
not_fraction ts h d more e = rw e at h

number_case : (b : Bool) (old mid : List ℕ) → FirstIs is_digit old → RunTaken is_digit old mid → Ends is_digit mid → TokenEnd b old (number_end mid)
number_case b old mid f r e =
    let P : Bool → Type 0 = λ x. begins_fraction mid ≡ x → TokenEnd b old (if x then None else Some (Integer, mid)) in
    let g : P (begins_fraction mid) = elim (begins_fraction mid) as P [
      | true ↦ λ h. none (number_none old mid (tail_of mid) r (point_first mid h) (digit_behind mid h) b)
      | false ↦ λ h. some (number_taken old mid f r e (not_fraction mid h) b)
    ] in
    g refl

-- literals

literal_case : (b : Bool) (c : ℕ) (cs : List ℕ) → is_quote c ≡ true → TokenEnd b (c ∷ cs) (literal_end (literal_rest c false cs None))
literal_case b c cs h =
    let P : Option (List ℕ) → Type 0 = λ r. r ≡ literal_rest c false cs None → TokenEnd b (c ∷ cs) (literal_end r) in
    let g : P (literal_rest c false cs None) = elim (literal_rest c false cs None) as P [
      | None ↦ λ e. none (literal_none c (c ∷ cs) cs refl h e b)
      | Some rest ↦ λ e. some (literal_taken c (c ∷ cs) cs rest refl h e b)
    ] in
    g refl

-- symbols

abbrev NoStar : ℕ → List ℕ → Type 0
NoStar c ts = c ≡ 42 → (z : List ℕ) → ts ≡ 58 ∷ z → Ends starts_name z

lone_case : (b : Bool) (c : ℕ) (ts : List ℕ) → IsMark c → Alone c ts → NoStar c ts → TokenEnd b (c ∷ ts) (lone_end c ts)
lone_case b c ts m a n =
    let P : Bool → Type 0 = λ x. is_single c ≡ x → TokenEnd b (c ∷ ts) (if x then Some (Symbol, ts) else None) in
    let g : P (is_single c) = elim (is_single c) as P [
      | true ↦ λ h. some (single_taken c (c ∷ ts) ts ts refl refl m a n h b)
      | false ↦ λ h. none (single_none c (c ∷ ts) ts refl m a n h b)
    ] in
    g refl

no_pair : (c d : ℕ) (ts : List ℕ) → bars c d ≡ false → is_double c d ≡ false → Alone c (d ∷ ts)
no_pair c d ts e f = λ x less s. (let same : x ≡ d = cc in (rw same e, rw same f))

double_case : (b : Bool) (c d : ℕ) (ts : List ℕ) → IsMark c → NoStar c (d ∷ ts) → bars c d ≡ false
    → TokenEnd b (c ∷ d ∷ ts) (if is_double c d then Some (Symbol, ts) else lone_end c (d ∷ ts))
double_case b c d ts m n e =
    let P : Bool → Type 0 = λ x. is_double c d ≡ x → TokenEnd b (c ∷ d ∷ ts) (if x then Some (Symbol, ts) else lone_end c (d ∷ ts)) in
    let g : P (is_double c d) = elim (is_double c d) as P [
      | true ↦ λ h. some (double_taken c d (c ∷ d ∷ ts) (d ∷ ts) ts refl refl m e h b)
      | false ↦ λ h. lone_case b c (d ∷ ts) m (no_pair c d ts e h) n
    ] in
    g refl

pair_case : (b : Bool) (c : ℕ) (ts : List ℕ) → IsMark c → NoStar c ts → TokenEnd b (c ∷ ts) (pair_end c ts)
pair_case b c [] m n = lone_case b c [] m (λ d less e. cc) n
pair_case b c (d ∷ ts) m n =
    let P : Bool → Type 0 = λ x. bars c d ≡ x → TokenEnd b (c ∷ d ∷ ts) (if x then None else if is_double c d then Some (Symbol, ts) else lone_end c (d ∷ ts)) in
    let g : P (bars c d) = elim (bars c d) as P [
      | true ↦ λ h. none (bars_none c d (c ∷ d ∷ ts) (d ∷ ts) ts refl refl h b)
      | false ↦ λ h. double_case b c d ts m n h
    ] in
    g refl

no_star : (c : ℕ) (ts : List ℕ) → (c == 42 && begins_local ts) ≡ false → NoStar c ts
no_star c ts h e z s = let f : (42 == 42 && begins_local ts) ≡ false = rw e at h in not_local ts z f s

mark_case : (b : Bool) (c : ℕ) (ts : List ℕ) → IsMark c → TokenEnd b (c ∷ ts) (mark_end c ts)
mark_case b c ts m =
    let P : Bool → Type 0 = λ x. (c == 42 && begins_local ts) ≡ x → TokenEnd b (c ∷ ts) (if x then Some (AnyPrefix, behind_run is_name_char (tail_of ts)) else pair_end c ts) in
    let star : P true = λ h. (let parts = and_parts (c == 42) (begins_local ts) h in some (prefix_taken c (c ∷ ts) ts (behind_run is_name_char (tail_of ts)) refl m (eqb-true c 42 parts.0) (local_first ts parts.1) b)) in
    let g : P (c == 42 && begins_local ts) = elim (c == 42 && begins_local ts) as P [ true ↦ star | false ↦ λ h. pair_case b c ts m (no_star c ts h) ] in
    g refl

-- any character

quote_case : (b : Bool) (c : ℕ) (cs : List ℕ) → starts_name c ≡ false → is_digit c ≡ false
    → TokenEnd b (c ∷ cs) (if is_quote c then literal_end (literal_rest c false cs None) else mark_end c cs)
quote_case b c cs n d =
    let P : Bool → Type 0 = λ x. is_quote c ≡ x → TokenEnd b (c ∷ cs) (if x then literal_end (literal_rest c false cs None) else mark_end c cs) in
    let g : P (is_quote c) = elim (is_quote c) as P [
      | true ↦ λ h. literal_case b c cs h
      | false ↦ λ h. mark_case b c cs (record { digit = d; quote = h; name = n })
    ] in
    g refl

digit_case : (b : Bool) (c : ℕ) (cs : List ℕ) → starts_name c ≡ false
    → TokenEnd b (c ∷ cs) (if is_digit c then number_end (behind_run is_digit (c ∷ cs)) else if is_quote c then literal_end (literal_rest c false cs None) else mark_end c cs)
digit_case b c cs n =
    let P : Bool → Type 0 = λ x. is_digit c ≡ x → TokenEnd b (c ∷ cs) (if x then number_end (behind_run is_digit (c ∷ cs)) else if is_quote c then literal_end (literal_rest c false cs None) else mark_end c cs) in
    let g : P (is_digit c) = elim (is_digit c) as P [
      | true ↦ λ h. number_case b (c ∷ cs) (behind_run is_digit (c ∷ cs)) (c, cs, refl, h) (run_taken is_digit (c ∷ cs)) (run_ends is_digit (c ∷ cs))
      | false ↦ λ h. quote_case b c cs n h
    ] in
    g refl

pub token_found : (b : Bool) (ts : List ℕ) → TokenEnd b ts (token_end b ts)
token_found b [] = none (none_empty b [] refl)
token_found b (c ∷ cs) =
    let P : Bool → Type 0 = λ x. starts_name c ≡ x → TokenEnd b (c ∷ cs) (if x then named_end b (c ∷ cs) else if is_digit c then number_end (behind_run is_digit (c ∷ cs)) else if is_quote c then literal_end (literal_rest c false cs None) else mark_end c cs) in
    let g : P (starts_name c) = elim (starts_name c) as P [
      | true ↦ λ h. named_case b c cs h
      | false ↦ λ h. digit_case b c cs h
    ] in
    g refl
