-- Levels are numbered in post-order.
use Rattle.std.proofs.Common.{◌≡◌, ◌≤◌, ◌<◌, ℕ, ◌+◌, List, [], ◌∷◌, ◌++◌, length, length-append, arith, refl}
use Rattle.module_loading.specs.ImportLevels.Levels.{Links, nothing, import, include, level_count, placed, firsts, firsts_of}
use Rattle.module_loading.specs.ImportLevels.Laws.{Within, LevelsNest, LiesBelow, ImportsLieBelow, Begin, HasFirsts, EachLevelHasItsFirst, IncludesShareALevel}

both : (low high : ℕ) (a b : List ℕ) → Within low high a → Within low high b → Within low high (a ++ b)
both low high [] b h k = k
both low high (m ∷ a) b h k = (h.0, h.1, both low high a b h.2 k)

within : (low high before own : ℕ) (links : Links) → low ≤ before → own ≤ high → before + level_count links < own → Within low high (placed before own links)
within low high before own nothing a b h = tt
within low high before own (import below rest) a b h = (
  omega (arith, a),
  omega (arith, b, h),
  both low high (placed before (before + level_count below + 1) below) (placed (before + level_count below + 1) own rest)
      (within low high before (before + level_count below + 1) below a (omega (arith, b, h)) (omega arith))
      (within low high (before + level_count below + 1) own rest (omega (arith, a)) b (omega (arith, h))),
)
within low high before own (include below rest) a b h = (
  omega (arith, a, h),
  b,
  both low high (placed before own below) (placed (before + level_count below) own rest)
      (within low high before own below a b (omega (arith, h)))
      (within low high (before + level_count below) own rest (omega (arith, a)) b (omega (arith, h))),
)

pub nests : LevelsNest
nests before own links h = within before own before own links (omega arith) (omega arith) h

pub lies_below : ImportsLieBelow
lies_below before own below rest h = record {
  under = omega (arith, h);
  imported = nests before (before + level_count below + 1) below (omega arith);
  later = nests (before + level_count below + 1) own rest (omega (arith, h));
}

count_firsts : (before : ℕ) (links : Links) → length (firsts before links) ≡ level_count links
count_firsts before nothing = refl
count_firsts before (import below rest) =
    let a = length-append (firsts before below) ((before + 1) ∷ firsts (before + level_count below + 1) rest) in
    let b = count_firsts before below in
    let c = count_firsts (before + level_count below + 1) rest in
    omega (arith, a, b, c)
count_firsts before (include below rest) =
    let a = length-append (firsts before below) (firsts (before + level_count below) rest) in
    let b = count_firsts before below in
    let c = count_firsts (before + level_count below) rest in
    omega (arith, a, b, c)

begin_both : (low before : ℕ) (a b : List ℕ) → Begin low before a → Begin low (before + length a) b → Begin low before (a ++ b)
begin_both low before [] b h k = let e : before + 0 ≡ before = omega arith in rw e at k
begin_both low before (f ∷ a) b h k =
    let e : before + length (f ∷ a) ≡ before + 1 + length a = omega arith in
    (h.0, h.1, begin_both low (before + 1) a b h.2 (rw e at k))

begins : (low before : ℕ) (links : Links) → low ≤ before → Begin low before (firsts before links)
begins low before nothing h = tt
begins low before (import below rest) h =
    let size = count_firsts before below in
    let e : before + length (firsts before below) ≡ before + level_count below = omega (arith, size) in
    let more = begins low (before + level_count below + 1) rest (omega (arith, h)) in
    let last : Begin low (before + level_count below) ((before + 1) ∷ firsts (before + level_count below + 1) rest) = (omega (arith, h), omega arith, more) in
    begin_both low before (firsts before below) ((before + 1) ∷ firsts (before + level_count below + 1) rest) (begins low before below h) (rw e last)
begins low before (include below rest) h =
    let size = count_firsts before below in
    let e : before + length (firsts before below) ≡ before + level_count below = omega (arith, size) in
    let more = begins low (before + level_count below) rest (omega (arith, h)) in
    begin_both low before (firsts before below) (firsts (before + level_count below) rest) (begins low before below h) (rw e more)

pub each_first : EachLevelHasItsFirst
each_first links =
    let a = length-append (firsts 0 links) (1 ∷ []) in
    let b = count_firsts 0 links in
    let last : Begin 0 (0 + length (firsts 0 links)) (1 ∷ []) = (omega arith, omega arith, tt) in
    record { one_each = omega (arith, a, b); begin = begin_both 0 0 (firsts 0 links) (1 ∷ []) (begins 0 0 links (omega arith)) last }

pub includes_share : IncludesShareALevel
includes_share before own below rest = refl

pub ruleset laws = (nests, lies_below, each_first, includes_share)
