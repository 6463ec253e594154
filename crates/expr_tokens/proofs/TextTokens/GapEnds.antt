-- Where white space and comments end.
use Rattle.std.proofs.Common.{◌≡◌, ℕ, zero, suc, ◌<◌, ◌≤◌, List, [], ◌∷◌, ◌++◌, length, Bool, true, false, ◌==◌, ◌&&◌, if◌then◌else◌, Option, Some, None, refl, sym, ap, ◌∙◌, arith}
use Rattle.std.proofs.lemmas.Bool.{and_parts, eqb-true}
use Rattle.std.specs.List.{list_all}
use Rattle.xpath_lex.specs.Gaps.{begins_with, Comment, over, nested, passes, Gap, none, space, comment, Stops}
use Rattle.xpath_lex.proofs.CommentLemmas.{Closes, closed, behind}
use Rattle.xpath_lex.proofs.GapLemmas.{stops_at_end}
use Rattle.xpath_lex.proofs.PartLemmas.{RunTaken}
use Rattle.expr_tokens.specs.TextTokens.Ends.{behind_run, behind_comments, behind_comment, behind_one, gap_after, behind_gap}
use Rattle.xt_names.specs.Characters.{is_space, is_char, Ends}
use Rattle.xt_names.proofs.BoolLemmas.{no}

-- runs

run_more : (p : ℕ → Bool) (c : ℕ) (cs rest : List ℕ) → p c ≡ true → RunTaken p cs rest → RunTaken p (c ∷ cs) rest
run_more p c cs rest h (run, e, a) = (c ∷ run, ap (λ x. c ∷ x) e, rw (h, a) refl)

pub run_taken : (p : ℕ → Bool) (ts : List ℕ) → RunTaken p ts (behind_run p ts)
run_taken p [] = ([], refl, refl)
run_taken p (c ∷ cs) =
    let P : Bool → Type 0 = λ b. p c ≡ b → RunTaken p (c ∷ cs) (if b then behind_run p cs else c ∷ cs) in
    let f : P (p c) = elim (p c) as P [ true ↦ λ h. run_more p c cs (behind_run p cs) h (run_taken p cs) | false ↦ λ h. ([], refl, refl) ] in
    f refl

pub run_ends : (p : ℕ → Bool) (ts : List ℕ) → Ends p (behind_run p ts)
run_ends p [] = tt
run_ends p (c ∷ cs) =
    let P : Bool → Type 0 = λ b. p c ≡ b → Ends p (if b then behind_run p cs else c ∷ cs) in
    let f : P (p c) = elim (p c) as P [ true ↦ λ h. run_ends p cs | false ↦ λ h. h ] in
    f refl

-- comments

-- the comments are closed here, or nowhere
data Closing (n : ℕ) (ts : List ℕ) : Option (List ℕ) → Type 0 where
  ends : {rest : List ℕ} → Closes n ts rest → Closing n ts (Some rest)
  stays : ((rest : List ℕ) → Closes n ts rest → ⊥) → Closing n ts None

-- what is left is closed as the whole
moved : (n m : ℕ) (s t : List ℕ) (r : Option (List ℕ)) → ((rest : List ℕ) → Closes m t rest → Closes n s rest) → ((rest : List ℕ) → Closes n s rest → Closes m t rest) → Closing m t r → Closing n s r
moved n m s t _ f g (ends c) = ends (f _ c)
moved n m s t _ f g (stays h) = stays (λ rest c. h rest (g rest c))

none_empty : (n : ℕ) (rest : List ℕ) → Closes (suc n) [] rest → ⊥
none_empty n rest (behind k c) = elim k [ ]

none_alone : (c : ℕ) (rest : List ℕ) → Comment (c ∷ []) rest → ⊥
none_alone c rest (passes h e d k) = elim k [ ]

none_single : (n c : ℕ) (rest : List ℕ) → Closes (suc n) (c ∷ []) rest → ⊥
none_single n c rest (behind k m) = none_alone c _ k

over_back : (n : ℕ) (ts rest : List ℕ) → Closes (suc n) (58 ∷ 41 ∷ ts) rest → Closes n ts rest
over_back n ts rest (behind over k) = k
over_back n ts rest (behind (passes h e d a) k) = no refl e

nested_back : (n : ℕ) (ts rest : List ℕ) → Closes (suc n) (40 ∷ 58 ∷ ts) rest → Closes (suc (suc n)) ts rest
nested_back n ts rest (behind (nested a b) k) = behind a (behind b k)
nested_back n ts rest (behind (passes h e d a) k) = no refl d

nested_there : (n : ℕ) (ts rest : List ℕ) → Closes (suc (suc n)) ts rest → Closes (suc n) (40 ∷ 58 ∷ ts) rest
nested_there n ts rest (behind a (behind b k)) = behind (nested a b) k

passed_back : (n c : ℕ) (ts rest : List ℕ) → begins_with 58 41 (c ∷ ts) ≡ false → begins_with 40 58 (c ∷ ts) ≡ false → Closes (suc n) (c ∷ ts) rest → Closes (suc n) ts rest
passed_back n c ts rest e d (behind over k) = no refl e
passed_back n c ts rest e d (behind (nested a b) k) = no refl d
passed_back n c ts rest e d (behind (passes h x y a) k) = behind a k

passed_there : (n c : ℕ) (ts rest : List ℕ) → is_char c ≡ true → begins_with 58 41 (c ∷ ts) ≡ false → begins_with 40 58 (c ∷ ts) ≡ false → Closes (suc n) ts rest → Closes (suc n) (c ∷ ts) rest
passed_there n c ts rest h e d (behind a k) = behind (passes h e d a) k

barred : (n c : ℕ) (ts rest : List ℕ) → is_char c ≡ false → begins_with 58 41 (c ∷ ts) ≡ false → begins_with 40 58 (c ∷ ts) ≡ false → Closes (suc n) (c ∷ ts) rest → ⊥
barred n c ts rest h e d (behind over k) = no refl e
barred n c ts rest h e d (behind (nested a b) k) = no refl d
barred n c ts rest h e d (behind (passes g x y a) k) = no g h

over_case : (n c d : ℕ) (ts : List ℕ) (r : Option (List ℕ)) → (c == 58 && d == 41) ≡ true → Closing n ts r → Closing (suc n) (c ∷ d ∷ ts) r
over_case n c d ts r h k =
    let parts = and_parts (c == 58) (d == 41) h in
    rw (eqb-true c 58 parts.0, eqb-true d 41 parts.1) (moved (suc n) n (58 ∷ 41 ∷ ts) ts r (λ rest x. behind over x) (over_back n ts) k)

nested_case : (n c d : ℕ) (ts : List ℕ) (r : Option (List ℕ)) → (c == 40 && d == 58) ≡ true → Closing (suc (suc n)) ts r → Closing (suc n) (c ∷ d ∷ ts) r
nested_case n c d ts r h k =
    let parts = and_parts (c == 40) (d == 58) h in
    rw (eqb-true c 40 parts.0, eqb-true d 58 parts.1) (moved (suc n) (suc (suc n)) (40 ∷ 58 ∷ ts) ts r (nested_there n ts) (nested_back n ts) k)

char_case : (n c d : ℕ) (ts : List ℕ) (r : Option (List ℕ)) → (c == 58 && d == 41) ≡ false → (c == 40 && d == 58) ≡ false → Closing (suc n) (d ∷ ts) r
    → Closing (suc n) (c ∷ d ∷ ts) (if is_char c then r else None)
char_case n c d ts r e f k =
    let P : Bool → Type 0 = λ b. is_char c ≡ b → Closing (suc n) (c ∷ d ∷ ts) (if b then r else None) in
    let g : P (is_char c) = elim (is_char c) as P [
      | true ↦ λ h. moved (suc n) (suc n) (c ∷ d ∷ ts) (d ∷ ts) r (λ rest. passed_there n c (d ∷ ts) rest h e f) (λ rest. passed_back n c (d ∷ ts) rest e f) k
      | false ↦ λ h. stays (λ rest. barred n c (d ∷ ts) rest h e f)
    ] in
    g refl

other_case : (n c d : ℕ) (ts : List ℕ) (r s : Option (List ℕ)) → (c == 58 && d == 41) ≡ false → Closing (suc (suc n)) ts r → Closing (suc n) (d ∷ ts) s
    → Closing (suc n) (c ∷ d ∷ ts) (if c == 40 && d == 58 then r else if is_char c then s else None)
other_case n c d ts r s e k m =
    let P : Bool → Type 0 = λ b. (c == 40 && d == 58) ≡ b → Closing (suc n) (c ∷ d ∷ ts) (if b then r else if is_char c then s else None) in
    let g : P (c == 40 && d == 58) = elim (c == 40 && d == 58) as P [
      | true ↦ λ h. nested_case n c d ts r h k
      | false ↦ λ h. char_case n c d ts s e h m
    ] in
    g refl

all_cases : (n c d : ℕ) (ts : List ℕ) (q r s : Option (List ℕ)) → Closing n ts q → Closing (suc (suc n)) ts r → Closing (suc n) (d ∷ ts) s
    → Closing (suc n) (c ∷ d ∷ ts) (if c == 58 && d == 41 then q else if c == 40 && d == 58 then r else if is_char c then s else None)
all_cases n c d ts q r s j k m =
    let P : Bool → Type 0 = λ b. (c == 58 && d == 41) ≡ b → Closing (suc n) (c ∷ d ∷ ts) (if b then q else if c == 40 && d == 58 then r else if is_char c then s else None) in
    let g : P (c == 58 && d == 41) = elim (c == 58 && d == 41) as P [
      | true ↦ λ h. over_case n c d ts q h j
      | false ↦ λ h. other_case n c d ts r s h k m
    ] in
    g refl

closing : (n : ℕ) (ts : List ℕ) → Closing n ts (behind_comments n ts)
closing zero ts = ends closed
closing (suc n) [] = stays (none_empty n)
closing (suc n) (c ∷ []) = stays (none_single n c)
closing (suc n) (c ∷ d ∷ ts) =
    all_cases n c d ts (behind_comments n ts) (behind_comments (suc (suc n)) ts) (behind_comments (suc n) (d ∷ ts)) (closing n ts) (closing (suc (suc n)) ts) (closing (suc n) (d ∷ ts))

comment_shorter : (ts rest : List ℕ) → Comment ts rest → length rest < length ts
comment_shorter _ rest over = omega arith
comment_shorter _ rest (nested {ts = ts} {mid = mid} a b) =
    let x = comment_shorter ts mid a in let y = comment_shorter mid rest b in omega (arith, x, y)
comment_shorter _ rest (passes {ts = ts} h e d a) = let x = comment_shorter ts rest a in omega (arith, x)

pub gap_shorter : {b after : Bool} {ts rest : List ℕ} → Gap b ts after rest → length rest ≤ length ts
gap_shorter none = omega arith
gap_shorter (space e g) = let x = gap_shorter g in omega (arith, x)
gap_shorter (comment {ts = ts} {mid = mid} a g) =
    let x = gap_shorter g in let y = comment_shorter ts mid a in omega (arith, x, y)

-- one white space or comment is passed, or none is there
data Passing (b : Bool) (ts : List ℕ) : Option (List ℕ) → Type 0 where
  goes : {mid : List ℕ} → ((after : Bool) (rest : List ℕ) → Gap false mid after rest → Gap b ts after rest) → length mid < length ts → Passing b ts (Some mid)
  stops : Stops ts → Passing b ts None

not_comment : (c d : ℕ) (ts inside : List ℕ) → (c == 40 && d == 58) ≡ false → c ∷ d ∷ ts ≡ 40 ∷ 58 ∷ inside → ⊥
not_comment c d ts inside e s =
    let first : c ≡ 40 = cc in let second : d ≡ 58 = cc in no (rw (first, second) refl) e

same_inside : (c d : ℕ) (ts inside rest : List ℕ) → c ∷ d ∷ ts ≡ 40 ∷ 58 ∷ inside → Comment inside rest → Comment ts rest
same_inside c d ts inside rest s k = let e : inside ≡ ts = cc in rw (← e) k

comment_case : (b : Bool) (c d : ℕ) (ts : List ℕ) (r : Option (List ℕ)) → is_space c ≡ false → (c == 40 && d == 58) ≡ true → Closing 1 ts r → Passing b (c ∷ d ∷ ts) r
comment_case b c d ts _ e h (ends {rest = rest} (behind a closed)) =
    let parts = and_parts (c == 40) (d == 58) h in
    let short = comment_shorter ts rest a in
    goes (λ after x g. rw (eqb-true c 40 parts.0, eqb-true d 58 parts.1) (comment a g)) (omega (arith, short))
comment_case b c d ts _ e h (stays n) =
    stops (record { no_space = e; no_comment = λ inside rest s k. n rest (behind (same_inside c d ts inside rest s k) closed) })

no_space_case : (b : Bool) (c : ℕ) (cs : List ℕ) → is_space c ≡ false → Passing b (c ∷ cs) (behind_comment (c ∷ cs))
no_space_case b c [] e = stops (record { no_space = e; no_comment = λ inside rest s k. cc })
no_space_case b c (d ∷ ts) e =
    let P : Bool → Type 0 = λ x. (c == 40 && d == 58) ≡ x → Passing b (c ∷ d ∷ ts) (if x then behind_comments 1 ts else None) in
    let g : P (c == 40 && d == 58) = elim (c == 40 && d == 58) as P [
      | true ↦ λ h. comment_case b c d ts (behind_comments 1 ts) e h (closing 1 ts)
      | false ↦ λ h. stops (record { no_space = e; no_comment = λ inside rest s k. not_comment c d ts inside h s })
    ] in
    g refl

passing : (b : Bool) (ts : List ℕ) → Passing b ts (behind_one ts)
passing b [] = stops stops_at_end
passing b (c ∷ cs) =
    let P : Bool → Type 0 = λ x. is_space c ≡ x → Passing b (c ∷ cs) (if x then Some cs else behind_comment (c ∷ cs)) in
    let g : P (is_space c) = elim (is_space c) as P [
      | true ↦ λ h. goes (λ after rest k. space h k) (omega arith)
      | false ↦ λ h. no_space_case b c cs h
    ] in
    g refl

-- what is left after all of them
pub record GapEnd (b : Bool) (ts : List ℕ) (g : Bool × List ℕ) : Type 0 where
  pub gap : Gap b ts g.0 g.1
  pub stops : Stops g.1

gap_step : (k : ℕ) (b : Bool) (ts : List ℕ) (r : Option (List ℕ)) → length ts ≤ suc k → ((mid : List ℕ) → length mid ≤ k → GapEnd false mid (behind_gap k false mid))
    → Passing b ts r → GapEnd b ts (gap_after (behind_gap k) b ts r)
gap_step k b ts _ h f (goes {mid = mid} go less) =
    let e = f mid (omega (arith, less, h)) in record { gap = go _ _ e.gap; stops = e.stops }
gap_step k b ts _ h f (stops s) = record { gap = none; stops = s }

pub gap_end : (k : ℕ) (b : Bool) (ts : List ℕ) → length ts ≤ k → GapEnd b ts (behind_gap k b ts)
gap_end zero b [] h = record { gap = none; stops = stops_at_end }
gap_end zero b (c ∷ cs) h = absurd (omega arith)
gap_end (suc k) b ts h = gap_step k b ts (behind_one ts) h (λ mid g. gap_end k false mid g) (passing b ts)
