-- Characters in runs, from the front: those that stand for themselves wait until one comes that
-- does not.
use Rattle.std.proofs.Common.{◌≡◌, ◌<◌, ◌≤◌, ℕ, ◌+◌, Bool, true, false, List, [], ◌∷◌, ◌++◌, cond}
use Rattle.std.proofs.Common.{refl, sym, ap, ap₂, ◌∙◌, ◌&&◌, map, subst, subst₂, length, drop, get_or}
use Rattle.std.specs.List.{list_all}
use Rattle.std.proofs.lemmas.Bool.{and_parts}
use Rattle.std.proofs.Math.Bool.{and-false}
use Rattle.std.proofs.lemmas.List.{append_assoc, drop_more, drop_all, append-nil}
use Rattle.xt_names.specs.Allowed.{is_empty_text}
use Rattle.expr_keys.specs.declared.tokens.Token.{Token}
use Rattle.expr_keys.specs.declared.tokens.Token.TheVariants as token
use Rattle.expr_raws.specs.ElementRaws.Runs.{Run, run, run_token, run_tokens, runs, is_itself, is_doubled}
use Rattle.expr_raws.specs.ElementRaws.Runs.{with_char, starts_itself, is_plain}
use Rattle.expr_pages.specs.ElementDrafts.Runs.{flushed, turned, waiting}

-- all of them stand for themselves
abbrev pub plain : Bool → List ℕ → Bool
plain x cs = list_all (is_itself x) cs

turn_plain : (x : Bool) (c : ℕ) (cs : List ℕ) → is_itself x c ≡ true
    → runs x (c ∷ cs) ≡ with_char x c (runs x cs)
turn_plain x c cs h = ap (λ b. cond b (with_char x c (runs x cs))
    (run (c ∷ []) (is_doubled x c) ∷ runs x cs)) h

turn_other : (x : Bool) (c : ℕ) (cs : List ℕ) → is_itself x c ≡ false
    → runs x (c ∷ cs) ≡ run (c ∷ []) (is_doubled x c) ∷ runs x cs
turn_other x c cs h = ap (λ b. cond b (with_char x c (runs x cs))
    (run (c ∷ []) (is_doubled x c) ∷ runs x cs)) h

joined : (x : Bool) (c : ℕ) (r : Run) (rs : List Run) → is_plain x r ≡ true
    → with_char x c (r ∷ rs) ≡ run (c ∷ r.characters) true ∷ rs
joined x c r rs h = ap (λ b. cond b (run (c ∷ r.characters) true ∷ rs)
    (run (c ∷ []) true ∷ r ∷ rs)) h

parted : (x : Bool) (c : ℕ) (r : Run) (rs : List Run) → is_plain x r ≡ false
    → with_char x c (r ∷ rs) ≡ run (c ∷ []) true ∷ r ∷ rs
parted x c r rs h = ap (λ b. cond b (run (c ∷ r.characters) true ∷ rs)
    (run (c ∷ []) true ∷ r ∷ rs)) h

run_of : (x : Bool) (a : ℕ) (bs rest : List ℕ) → plain x (a ∷ bs) ≡ true
    → starts_itself x rest ≡ false → runs x (a ∷ (bs ++ rest)) ≡ run (a ∷ bs) true ∷ runs x rest
run_of x a [] [] h s = turn_plain x a [] (and_parts (is_itself x a) true h).0
run_of x a [] (c ∷ cs) h s =
    turn_plain x a (c ∷ cs) (and_parts (is_itself x a) true h).0
    ∙ (ap (with_char x a) (turn_other x c cs s)
    ∙ (parted x a (run (c ∷ []) (is_doubled x c)) (runs x cs)
    (ap (λ b. is_doubled x c && b) s ∙ and-false (is_doubled x c))
    ∙ ap (λ rs. run (a ∷ []) true ∷ rs) (sym (turn_other x c cs s))))
run_of x a (b ∷ bs) rest h s =
    let i = and_parts (is_itself x a) (plain x (b ∷ bs)) h in
    let j = and_parts (is_itself x b) (plain x bs) i.1 in
    turn_plain x a (b ∷ (bs ++ rest)) i.0
    ∙ (ap (with_char x a) (run_of x b bs rest i.1 s)
    ∙ joined x a (run (b ∷ bs) true) (runs x rest) j.0)

run_first : (x : Bool) (cs rest : List ℕ) → plain x cs ≡ true → starts_itself x rest ≡ false
    → run_tokens x (cs ++ rest) ≡ flushed cs ++ run_tokens x rest
run_first x [] rest h s = refl
run_first x (a ∷ bs) rest h s = ap (λ rs. map (λ r. run_token r) rs) (run_of x a bs rest h s)

-- a character that does not stand for itself ends those that wait
other_turn : (x : Bool) (ts : List Token) (cs : List ℕ) (c : ℕ) (rest : List ℕ)
    → plain x cs ≡ true → is_itself x c ≡ false
    → ((ts ++ flushed cs) ++ run_token (run (c ∷ []) (is_doubled x c)) ∷ []) ++ run_tokens x rest
    ≡ ts ++ run_tokens x (cs ++ c ∷ rest)
other_turn x ts cs c rest h s =
    append_assoc (ts ++ flushed cs) _ (run_tokens x rest)
    ∙ (append_assoc ts (flushed cs) _
    ∙ ap (λ us. ts ++ us) (ap (λ us. flushed cs ++ us)
    (sym (ap (λ rs. map (λ r. run_token r) rs) (turn_other x c rest s)))
    ∙ sym (run_first x cs (c ∷ rest) h s)))

last_turn : (x : Bool) (ts : List Token) (cs : List ℕ) → plain x cs ≡ true
    → ts ++ flushed cs ≡ ts ++ run_tokens x (cs ++ [])
last_turn x ts [] h = refl
last_turn x ts (a ∷ bs) h = ap (λ us. ts ++ us) (sym (run_first x (a ∷ bs) [] h refl))

plain_more : (x : Bool) (cs : List ℕ) (c : ℕ) → plain x cs ≡ true → is_itself x c ≡ true
    → plain x (cs ++ c ∷ []) ≡ true
plain_more x [] c h i = ap (λ b. b && true) i
plain_more x (a ∷ bs) c h i =
    let j = and_parts (is_itself x a) (plain x bs) h in
    ap₂ (λ b d. b && d) j.0 (plain_more x bs c j.1 i)

itself_turn : (x : Bool) (ts : List Token) (cs : List ℕ) (c : ℕ) (rest : List ℕ)
    → ts ++ run_tokens x ((cs ++ c ∷ []) ++ rest) ≡ ts ++ run_tokens x (cs ++ c ∷ rest)
itself_turn x ts cs c rest = ap (λ us. ts ++ run_tokens x us) (append_assoc cs (c ∷ []) rest)

-- what is kept, from one character to the next
pub record Kept (x : Bool) (ts : List Token) (cs rest all : List ℕ) : Type 0 where
  pub waits : plain x cs ≡ true
  pub same : ts ++ run_tokens x (cs ++ rest) ≡ run_tokens x all

turn_kept : (x : Bool) (ts : List Token) (cs : List ℕ) (c : ℕ) (rest all : List ℕ)
    → Kept x ts cs (c ∷ rest) all → Kept x (turned x ts cs c) (waiting x cs c) rest all
turn_kept x ts cs c rest all k = go (is_itself x c) refl
  where
    go : (b : Bool) → is_itself x c ≡ b → Kept x
        (cond b ts ((ts ++ flushed cs) ++ run_token (run (c ∷ []) (is_doubled x c)) ∷ []))
        (cond b (cs ++ c ∷ []) []) rest all
    go true i = record {
      waits = plain_more x cs c k.waits i;
      same = itself_turn x ts cs c rest ∙ k.same;
    }
    go false i = record { waits = refl; same = other_turn x ts cs c rest k.waits i ∙ k.same }

pub turn_at : (x : Bool) (ts new : List Token) (cs left : List ℕ) (i : ℕ) (all : List ℕ)
    → i < length all → Kept x ts cs (drop i all) all
    → new ≡ turned x ts cs (get_or all i 0) → left ≡ waiting x cs (get_or all i 0)
    → Kept x new left (drop (i + 1) all) all
turn_at x ts new cs left i all h k n l =
    let kept : Kept x ts cs (get_or all i 0 ∷ drop (i + 1) all) all =
    subst (λ us. Kept x ts cs us all) (drop_more all i 0 h) k in
    subst₂ (λ us vs. Kept x us vs (drop (i + 1) all) all) (sym n) (sym l)
    (turn_kept x ts cs (get_or all i 0) (drop (i + 1) all) all kept)

pub all_turned : (x : Bool) (ts new : List Token) (cs : List ℕ) (i : ℕ) (all : List ℕ)
    → length all ≤ i → Kept x ts cs (drop i all) all → new ≡ ts ++ flushed cs
    → new ≡ run_tokens x all
all_turned x ts new cs i all h k n =
    n ∙ (last_turn x ts cs k.waits
    ∙ (ap (λ us. ts ++ run_tokens x (cs ++ us)) (sym (drop_all i all h)) ∙ k.same))

pub flushed_none : (ts : List Token) (cs : List ℕ) → is_empty_text cs ≡ true
    → ts ≡ ts ++ flushed cs
unfolding is_empty_text
flushed_none ts [] e = sym (append-nil ts)
flushed_none ts (c ∷ cs) e = absurd (cc)

pub flushed_some : (ts : List Token) (cs : List ℕ) → is_empty_text cs ≡ false
    → ts ++ token.Chars cs true ∷ [] ≡ ts ++ flushed cs
unfolding is_empty_text
flushed_some ts [] e = absurd (cc)
flushed_some ts (c ∷ cs) e = refl

pub ruleset flushes = (flushed_none, flushed_some)
