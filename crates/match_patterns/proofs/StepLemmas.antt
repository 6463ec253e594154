-- The steps of a pattern, from the last to the first.
use Rattle.std.proofs.Common.{◌≡◌, ℕ, zero, suc, ◌+◌, ◌-◌, ◌<◌, ◌≤◌, List, [], ◌∷◌, length, get_or, take, reverse, ap, sym, ◌∙◌, Bool}
use Rattle.std.proofs.Common.{true, false, refl, arith, subst}
use Rattle.std.specs.Prelude.{◌&&◌, ◌||◌, Option, Some, None, Result, Ok, Err, IfOk}
use Rattle.std.specs.List.{list_any}
use Rattle.std.specs.Option.{option_to_list}
use Rattle.std.proofs.lemmas.List.{reverse-append, take_more}
use Rattle.xt_tree.specs.Place.{Place, above_place, has_place, parent_of}
use Rattle.std.proofs.lemmas.Bool.{and_parts}
use Rattle.xt_syntax.specs.declared.exprs.Expr.{Expr}
use Rattle.quiet_meaning.specs.Quietly.{quietly_of, is_pattern_form}
use Rattle.quiet_meaning.specs.Paths.{are_allowed}
use Rattle.xt_syntax.specs.declared.patterns.PatternStep.{PatternStep}
use Rattle.match_patterns.specs.declared.findings.Finding.{Finding}
use Rattle.match_patterns.specs.declared.findings.Finding.TheVariants.{Here, NotHere, NotAbove}
use Rattle.match_patterns.specs.Findings.{Tells, finding_of, is_here}
use Rattle.match_patterns.specs.Patterns.{above, has_none, is_root_document, step_matches, steps_match, is_led}
use Rattle.match_patterns.proofs.MemberLemmas.{take_all}
use Rattle.match_patterns.proofs.AboveLemmas.{any_same, none_more, none_led, up_fails, upper, upper_on_way}

-- with one step more
turned : (steps : List PatternStep) (k : ℕ) (s d : PatternStep) → k < length steps → s ≡ get_or steps k d
    → reverse (take (k + 1) steps) ≡ s ∷ reverse (take k steps)
turned steps k s d h e =
    ap reverse (take_more steps k d h) ∙ reverse-append (take k steps) (get_or steps k d ∷ [])
    ∙ ap (λ (z : PatternStep). z ∷ reverse (take k steps)) (sym e)

counted : (steps : List PatternStep) (k : ℕ) (s d : PatternStep) → (k ≡ 0 → ⊥) → k ≤ length steps → s ≡ get_or steps (k - 1) d
    → reverse (take k steps) ≡ s ∷ reverse (take (k - 1) steps)
counted steps k s d z h e =
    let l : k - 1 < length steps = omega (arith, z) in
    let same : (k - 1) + 1 ≡ k = omega (arith, z) in
    ap (λ (n : ℕ). reverse (take n steps)) (sym same) ∙ turned steps (k - 1) s d l e

-- findings

pub if_ok : {A E : Type 0} (r : Result A E) (P Q : A → Type 0) → ((x : A) → P x → Q x) → IfOk r P → IfOk r Q
if_ok (Ok x) P Q h p = h x p
if_ok (Err e) P Q h p = p

here_is : (x : Finding) (f : Place → Bool) (n : Place) → Tells x f n → is_here x ≡ f n
unfolding Tells
here_is Here f n t = sym t
here_is NotHere f n t = sym t
here_is NotAbove f n t = sym t.0

finding_tells : (b : Bool) (f : Place → Bool) (n : Place) → b ≡ f n → Tells (finding_of b) f n
unfolding Tells
finding_tells true f n e = sym e
finding_tells false f n e = sym e

tells_same : (x : Finding) (f g : Place → Bool) (n : Place) → ((m : Place) → f m ≡ g m) → Tells x f n → Tells x g n
unfolding Tells
tells_same Here f g n h t = sym (h n) ∙ t
tells_same NotHere f g n h t = sym (h n) ∙ t
tells_same NotAbove f g n h t = (sym (h n) ∙ t.0, sym (any_same f g (above true n) h) ∙ t.1)

pub whole_is : (x : Finding) (rooted : Bool) (xs ys : List PatternStep) (n : Place) → xs ≡ ys
    → Tells x (steps_match rooted (reverse (take (length xs) xs))) n → is_here x ≡ steps_match rooted (reverse ys) n
whole_is x rooted xs ys n e t =
    here_is x (steps_match rooted (reverse (take (length xs) xs))) n t
    ∙ ap (λ (zs : List PatternStep). steps_match rooted (reverse zs) n) (take_all xs ∙ e)

pub some_is : (u v : Place) (o : Option Place) → o ≡ Some v → o ≡ Some u → u ≡ v
some_is u v o e f = cc

pub none_is : {G : Type 0} (v : Place) (o : Option Place) → o ≡ Some v → o ≡ None → G
none_is v o e f = absurd cc

-- where a step matches, what comes before it decides
step_tells : (x : Finding) (own more : Place → Bool) (n : Place) → own n ≡ true → Tells x more n → Tells x (λ m. own m && more m) n
unfolding Tells
step_tells Here own more n e t = rw (e, t) refl
step_tells NotHere own more n e t = rw (e, t) refl
step_tells NotAbove own more n e t =
    (rw (e, t.0) refl, none_more more (λ m. own m && more m) (above true n) (λ m k. (and_parts (own m) (more m) k).1) t.1)

none_match : (rooted : Bool) (steps : List PatternStep) (k : ℕ) (n : Place) → k ≡ 0
    → (rooted && is_root_document n) ≡ steps_match rooted (reverse (take k steps)) n
unfolding steps_match
none_match rooted steps k n z = ap (λ (m : ℕ). steps_match rooted (reverse (take m steps)) n) (sym z)

pub none_tells : (rooted : Bool) (x : Finding) (steps : List PatternStep) (k : ℕ) (n : Place) → k ≡ 0
    → x ≡ finding_of (rooted && is_root_document n) → Tells x (steps_match rooted (reverse (take k steps))) n
none_tells rooted x steps k n z f =
    subst (λ (y : Finding). Tells y (steps_match rooted (reverse (take k steps))) n) (sym f)
    (finding_tells (rooted && is_root_document n) (steps_match rooted (reverse (take k steps))) n (none_match rooted steps k n z))

last_step : (rooted : Bool) (steps : List PatternStep) (k : ℕ) (s d : PatternStep) (n : Place) → (k ≡ 0 → ⊥) → k ≤ length steps
    → s ≡ get_or steps (k - 1) d
    → (step_matches s n && is_led rooted s.deep (reverse (take (k - 1) steps)) n) ≡ steps_match rooted (reverse (take k steps)) n
unfolding steps_match
last_step rooted steps k s d n z h e = ap (λ (xs : List PatternStep). steps_match rooted xs n) (sym (counted steps k s d z h e))

pub last_fails : (b rooted : Bool) (steps : List PatternStep) (k : ℕ) (s d : PatternStep) (n : Place) → (k ≡ 0 → ⊥) → k ≤ length steps
    → s ≡ get_or steps (k - 1) d
    → b ≡ step_matches s n → b ≡ false → Tells NotHere (steps_match rooted (reverse (take k steps))) n
unfolding Tells
last_fails b rooted steps k s d n z h e t f =
    sym (ap (λ (x : Bool). x && is_led rooted s.deep (reverse (take (k - 1) steps)) n) (sym f ∙ t) ∙ last_step rooted steps k s d n z h e)

pub last_tells : (x : Finding) (b rooted : Bool) (steps : List PatternStep) (k : ℕ) (s d : PatternStep) (n : Place) → (k ≡ 0 → ⊥)
    → k ≤ length steps → s ≡ get_or steps (k - 1) d
    → b ≡ step_matches s n → b ≡ true → Tells x (is_led rooted s.deep (reverse (take (k - 1) steps))) n
    → Tells x (steps_match rooted (reverse (take k steps))) n
last_tells x b rooted steps k s d n z h e t f told =
    tells_same x (λ m. step_matches s m && is_led rooted s.deep (reverse (take (k - 1) steps)) m)
    (steps_match rooted (reverse (take k steps))) n (λ m. last_step rooted steps k s d m z h e)
    (step_tells x (step_matches s) (is_led rooted s.deep (reverse (take (k - 1) steps))) n (sym t ∙ f) told)

-- what comes before a step

pub none_needed : (rooted deep : Bool) (steps : List PatternStep) (k : ℕ) (n : Place) → rooted ≡ false → k ≡ 0
    → Tells Here (is_led rooted deep (reverse (take k steps))) n
unfolding Tells
none_needed rooted deep steps k n r z = rw (r, z) refl

some_there : (steps : List PatternStep) (k : ℕ) → (k ≡ 0 → ⊥) → k ≤ length steps → has_none (reverse (take k steps)) ≡ false
some_there [] k z h = absurd (z (omega arith))
some_there (s ∷ steps) k z h = ap has_none (counted (s ∷ steps) k (get_or (s ∷ steps) (k - 1) s) s z h refl)

led_is : (rooted deep : Bool) (steps : List PatternStep) (k : ℕ) → k ≤ length steps → (rooted ≡ false → k ≡ 0 → ⊥) → (m : Place)
    → list_any (steps_match rooted (reverse (take k steps))) (above deep m) ≡ is_led rooted deep (reverse (take k steps)) m
led_is true deep steps k h g m = refl
led_is false deep steps k h g m = rw (some_there steps k (g refl) h) refl

pub led_tells : (x : Finding) (rooted deep : Bool) (steps : List PatternStep) (k : ℕ) (n : Place) → k ≤ length steps
    → (rooted ≡ false → k ≡ 0 → ⊥)
    → Tells x (λ m. list_any (steps_match rooted (reverse (take k steps))) (above deep m)) n
    → Tells x (is_led rooted deep (reverse (take k steps))) n
led_tells x rooted deep steps k n h g t =
    tells_same x (λ m. list_any (steps_match rooted (reverse (take k steps))) (above deep m))
    (is_led rooted deep (reverse (take k steps))) n (led_is rooted deep steps k h g) t

-- at the parent

up_here : (f : Place → Bool) (o : Option Place) (u : Place) (b : Bool) → o ≡ Some u → f u ≡ b → list_any f (option_to_list o) ≡ b
up_here f o u b e h = rw (e, h) (either b)
  where
    either : (b : Bool) → (b || false) ≡ b
    either true = refl
    either false = refl

pub parent_tells : (x : Finding) (f : Place → Bool) (n u : Place) → parent_of n ≡ Some u → Tells x f u
    → Tells x (λ m. list_any f (above false m)) n
unfolding Tells above
parent_tells Here f n u e t = up_here f (parent_of n) u true e t
parent_tells NotHere f n u e t = up_here f (parent_of n) u false e t
parent_tells NotAbove f n u e t = (up_here f (parent_of n) u false e t.0, none_led false f n (up_fails f n u e t.0 ∙ t.1))

pub no_parent_tells : (f : Place → Bool) (n : Place) → parent_of n ≡ None → Tells NotHere (λ m. list_any f (above false m)) n
unfolding Tells above
no_parent_tells f n e = rw e refl

-- going up: what is still to be tried is what is on the way to the present node

pub up_found : (f : Place → Bool) (n : Place) (d : ℕ) → list_any f (above true n) ≡ upper f n d → (d ≡ 0 → ⊥)
    → Tells Here f (above_place n (d - 1)) → Tells Here (λ m. list_any f (above true m)) n
unfolding Tells
up_found f n d i z t = i ∙ stepped d z ∙ ap (λ (b : Bool). b || upper f n (d - 1)) t
  where
    stepped : (d : ℕ) → (d ≡ 0 → ⊥) → upper f n d ≡ (f (above_place n (d - 1)) || upper f n (d - 1))
    stepped zero z = absurd (z refl)
    stepped (suc k) z = let e : k ≡ suc k - 1 = omega arith in ap (λ (k : ℕ). f (above_place n k) || upper f n k) e

upper_step : (f : Place → Bool) (n : Place) (d : ℕ) → (d ≡ 0 → ⊥) → f (above_place n (d - 1)) ≡ false → upper f n d ≡ upper f n (d - 1)
upper_step f n zero z h = absurd (z refl)
upper_step f n (suc k) z h =
    let e : k ≡ suc k - 1 = omega arith in
    ap (λ (k : ℕ). f (above_place n k) || upper f n k) e ∙ ap (λ (b : Bool). b || upper f n (suc k - 1)) h

pub up_further : (f : Place → Bool) (n : Place) (d : ℕ) → list_any f (above true n) ≡ upper f n d → (d ≡ 0 → ⊥)
    → Tells NotHere f (above_place n (d - 1)) → list_any f (above true n) ≡ upper f n (d - 1)
unfolding Tells
up_further f n d i z t = i ∙ upper_step f n d z t

none_further : (f : Place → Bool) (n : Place) → list_any f (above true n) ≡ false → Tells NotAbove (λ m. list_any f (above true m)) n
unfolding Tells
none_further f n h = (h, none_led true f n h)

nowhere_parts : (f : Place → Bool) (n : Place) (d : ℕ) → (d ≡ 0 → ⊥) → d - 1 ≤ length n.path → has_place n ≡ true
    → Tells NotAbove f (above_place n (d - 1)) → upper f n d ≡ false
unfolding Tells
nowhere_parts f n d z l there t = upper_step f n d z t.0 ∙ sym (upper_on_way f n (d - 1) l there) ∙ t.1

pub up_nowhere : (f : Place → Bool) (n : Place) (d : ℕ) → list_any f (above true n) ≡ upper f n d → (d ≡ 0 → ⊥) → d - 1 ≤ length n.path
    → has_place n ≡ true → Tells NotAbove f (above_place n (d - 1))
    → Tells NotAbove (λ m. list_any f (above true m)) n
up_nowhere f n d i z l there t = none_further f n (i ∙ nowhere_parts f n d z l there t)

pub up_ended : (f : Place → Bool) (n : Place) (d : ℕ) → list_any f (above true n) ≡ upper f n d → d ≡ 0
    → Tells NotAbove (λ m. list_any f (above true m)) n
up_ended f n d i z = none_further f n (i ∙ ap (upper f n) z)

pub each_allowed : (all : List Expr) (i : ℕ) (x d : Expr) → i < length all → x ≡ get_or all i d → are_allowed all ≡ true
    → is_pattern_form (quietly_of x) ≡ true
each_allowed [] i x d h e g = absurd (omega arith)
each_allowed (y ∷ ys) zero x d h e g =
    subst (λ (z : Expr). is_pattern_form (quietly_of z) ≡ true) (sym e) (and_parts (is_pattern_form (quietly_of y)) (are_allowed ys) g).0
each_allowed (y ∷ ys) (suc i) x d h e g =
    each_allowed ys i x d (omega arith) e (and_parts (is_pattern_form (quietly_of y)) (are_allowed ys) g).1
