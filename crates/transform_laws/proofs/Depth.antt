-- More calls change nothing but an outcome that lacked one.
use Rattle.std.proofs.Common.{◌≡◌, ◌+◌, ℕ, zero, suc, List, length, refl, sym, subst, arith}
use Rattle.std.specs.Prelude.{Some, None}
use Rattle.expr_meaning.specs.Outcomes.Outcome.{Outcome, Ends, Fails, Deep, Anything}
use Rattle.expr_meaning.specs.Outcomes.Follow.{Follows, FailsLike, same_code, deeper}
use Rattle.expr_meaning.proofs.OutcomesLemmas.Relations.{carried_same, deeper_carries, nothing_known}
use Rattle.expr_meaning.specs.Env.{Binding}
use Rattle.expr_laws.specs.Carrier.{AreGood, Carrier}
use Rattle.transform_meaning.specs.Sheets.{sheet_outcome, transform_outcome}
use Rattle.transform_meaning.specs.Templates.{Run, doors_at}
use Rattle.transform_laws.specs.Depth.{CallsChangeNothing}
use Rattle.transform_laws.specs.Meets.{AreSheetPlaces, DoorsMeet, LeftMeets}
use Rattle.transform_laws.proofs.Anything.{any_makes, any_run, any_sheet_places, any_sheets, here}
use Rattle.transform_laws.proofs.Runs.{doors_meet, sheet_meets}

abbrev depth : Carrier
depth = here same_code (λ code. refl) deeper deeper_carries

places : AreSheetPlaces depth
places = any_sheet_places same_code (λ code. refl) deeper deeper_carries

-- from no call left to any number, and from doors to doors that are related
none_left : (r : _) → LeftMeets depth None r
none_left r go to h k = (tt, tt)

some_left : (d b : _) → DoorsMeet depth d b → LeftMeets depth (Some d) (Some b)
some_left d b doors go to h k = h d b doors k

module _ (run : Run) where
  doors_deeper : (globals : List Binding) → AreGood Anything globals → (n : ℕ) →
      DoorsMeet depth (doors_at run globals n) (doors_at run globals (suc n))
  doors_deeper globals g zero =
      doors_meet depth (any_makes same_code (λ code. refl) deeper deeper_carries)
      (any_sheets same_code (λ code. refl) deeper deeper_carries) places run
      (any_run same_code (λ code. refl) deeper deeper_carries run) globals g None
      (Some (doors_at run globals zero)) (none_left (Some (doors_at run globals zero)))
  doors_deeper globals g (suc n) =
      doors_meet depth (any_makes same_code (λ code. refl) deeper deeper_carries)
      (any_sheets same_code (λ code. refl) deeper deeper_carries) places run
      (any_run same_code (λ code. refl) deeper deeper_carries run) globals g
      (Some (doors_at run globals n)) (Some (doors_at run globals (suc n)))
      (some_left (doors_at run globals n) (doors_at run globals (suc n))
      (doors_deeper globals g n))

  one_more : (n k : ℕ) → Follows same_code (sheet_outcome run n k)
      (sheet_outcome run (suc n) k)
  one_more n k =
      (sheet_meets depth (any_makes same_code (λ code. refl) deeper deeper_carries)
      (any_sheets same_code (λ code. refl) deeper deeper_carries) places run
      (any_run same_code (λ code. refl) deeper deeper_carries run) n (suc n)
      (λ globals g. doors_deeper globals g n) k).0

follows_on : {A : Type 0} (o p q : Outcome A) → Follows same_code o p → Follows same_code p q →
    Follows same_code o q
follows_on (Ends v k) p q h i = subst (λ x. Follows same_code x q) h i
follows_on (Fails code) (Ends v k) q h i = absurd h
follows_on (Fails code) (Fails d) q h i = subst (λ x. FailsLike same_code x q) (sym h) i
follows_on (Fails code) Deep q h i = absurd h
follows_on Deep p q h i = tt

-- so many more calls
abbrev raise : ℕ → ℕ → ℕ
raise zero n = n
raise (suc more) n = suc (raise more n)

raised : (more n : ℕ) → raise more n ≡ more + n
raised zero n = omega arith
raised (suc more) n = let h = raised more n in omega arith

many_more : (run : Run) (n more k : ℕ) → Follows same_code (sheet_outcome run n k)
    (sheet_outcome run (raise more n) k)
many_more run n zero k =
    (carried_same same_code (λ code. refl) _ Anything _
    (nothing_known (sheet_outcome run n k))).0
many_more run n (suc more) k =
    follows_on (sheet_outcome run n k) (sheet_outcome run (raise more n) k)
    (sheet_outcome run (suc (raise more n)) k) (many_more run n more k)
    (one_more run (raise more n) k)

pub more_calls : (run : Run) (n more : ℕ) → CallsChangeNothing run n more
more_calls run n more =
    subst (λ m. Follows same_code (transform_outcome run n) (transform_outcome run m))
    (raised more n) (many_more run n more (length run.documents + 1))
