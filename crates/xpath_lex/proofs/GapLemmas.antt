-- White space and comments.
use Rattle.std.proofs.Common.{◌≡◌, ℕ, ◌<◌, length, length-append, arith, Option, Some, slice_get, List, [], ◌∷◌, ◌++◌, Bool, true, false, refl, sym, ap, ◌∙◌}
use Rattle.std.proofs.lemmas.Bool.{and_parts}
use Rattle.std.specs.List.{list_all}
use Rattle.xpath_lex.specs.Gaps.{Comment, over, nested, passes, Gap, none, space, comment, Stops}
use Rattle.xpath_lex.proofs.CharacterFacts.{open_space}
use Rattle.xt_names.specs.Characters.{is_space, Ends}
use Rattle.xt_names.proofs.BoolLemmas.{no}

pub comment_one : {ts a b : List ℕ} → Comment ts a → Comment ts b → a ≡ b
comment_one over over = refl
comment_one over (passes h e d c) = no refl e
comment_one (nested c1 c2) (nested d1 d2) = let same = comment_one c1 d1 in comment_one c2 (rw (← same) at d2)
comment_one (nested c1 c2) (passes h e d c) = no refl d
comment_one (passes h e d c) over = no refl e
comment_one (passes h e d c) (nested d1 d2) = no refl d
comment_one (passes h e d c) (passes h2 e2 d2 c2) = comment_one c c2

pub gap_one : {b p q : Bool} {ts x y : List ℕ} → Gap b ts p x → Stops x → Gap b ts q y → Stops y → (p ≡ q) × (x ≡ y)
gap_one none sx none sy = (refl, refl)
gap_one none sx (space e g) sy = no e sx.no_space
gap_one none sx (comment c g) sy = absurd (sx.no_comment _ _ refl c)
gap_one (space e g) sx none sy = no e sy.no_space
gap_one (space e g) sx (space d h) sy = gap_one g sx h sy
gap_one (space e g) sx (comment c h) sy = no e open_space
gap_one (comment c g) sx none sy = absurd (sy.no_comment _ _ refl c)
gap_one (comment c g) sx (space e h) sy = no e open_space
gap_one (comment c g) sx (comment d h) sy = let same = comment_one c d in gap_one g sx (rw (← same) at h) sy

pub stops_at_end : Stops []
stops_at_end = record { no_space = tt; no_comment = λ inside rest e c. cc }

pub gap_then : {a b c : Bool} {ts mid rest : List ℕ} → Gap a ts b mid → Gap b mid c rest → Gap a ts c rest
gap_then none h = h
gap_then (space e g) h = space e (gap_then g h)
gap_then (comment c g) h = comment c (gap_then g h)

-- white space after a gap is of it
pub gap_spaces : (b : Bool) (run rest : List ℕ) → list_all is_space run ≡ true → Gap b rest b rest → (c : ℕ) (more : List ℕ) → run ≡ c ∷ more → Gap b (run ++ rest) false rest
gap_spaces b [] rest a g c more e = absurd (cc)
gap_spaces b (x ∷ []) rest a g c more e = space (and_parts (is_space x) _ a).0 none
gap_spaces b (x ∷ y ∷ ys) rest a g c more e = let parts = and_parts (is_space x) _ a in space parts.0 (gap_spaces false (y ∷ ys) rest parts.1 none y ys refl)

-- white space does not come first where none does
space_not_first : (new : List ℕ) (c : ℕ) → is_space c ≡ true → Some c ≡ slice_get new 0 → Ends is_space new → ⊥
space_not_first [] c s e n = cc
space_not_first (x ∷ xs) c s e n = let same : c ≡ x = cc in no s (rw same n)

-- white space that was found after a gap
pub gap_run : {b after : Bool} {whole : List ℕ} (old new : List ℕ) (c : ℕ) (r : Bool) (o : Option ℕ) → Gap b whole after old → o ≡ slice_get old 0 → o ≡ Some c → r ≡ is_space c → r ≡ true
    → ((run : List ℕ) × (old ≡ run ++ new) × (list_all is_space run ≡ true)) → Ends is_space new → Gap b whole false new
gap_run old new c r o g first is s t ([], e, a) n =
    let here : Some c ≡ slice_get new 0 = sym is ∙ first ∙ ap (λ x. slice_get x 0) e in
    absurd (space_not_first new c (sym s ∙ t) here n)
gap_run old new c r o g first is s t (x ∷ xs, e, a) n = gap_then g (rw e (gap_spaces _ (x ∷ xs) new a none x xs refl))

pub gap_shorter : (old new : List ℕ) (c : ℕ) (r : Bool) (o : Option ℕ) → o ≡ slice_get old 0 → o ≡ Some c → r ≡ is_space c → r ≡ true
    → ((run : List ℕ) × (old ≡ run ++ new) × (list_all is_space run ≡ true)) → Ends is_space new → length new < length old
gap_shorter old new c r o first is s t ([], e, a) n =
    let here : Some c ≡ slice_get new 0 = sym is ∙ first ∙ ap (λ x. slice_get x 0) e in
    absurd (space_not_first new c (sym s ∙ t) here n)
gap_shorter old new c r o first is s t (x ∷ xs, e, a) n = let size = ap length e ∙ length-append (x ∷ xs) new in omega (arith, size)

pub gap_comment : {b after : Bool} {whole : List ℕ} (old mid new : List ℕ) → Gap b whole after old → old ≡ 40 ∷ 58 ∷ mid → Comment mid new → Gap b whole false new
gap_comment old mid new g e c = gap_then g (rw e (comment c none))
