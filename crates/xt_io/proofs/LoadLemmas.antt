-- One load after another.
use Rattle.std.proofs.Common.{ℕ, List, arith, inl, inr, refl, ◌∙◌}
use Rattle.xt_io.specs.Files.{FilesState, KeepsFiles}
use Rattle.xt_io.specs.Loads.{IsLoadFailure, IsTooLong}

-- nothing was loaded
pub keeps_none : (files : FilesState) → KeepsFiles files files
keeps_none files = record {
  held = refl;
  faults = record { no_less = omega arith; stops = omega arith };
  taken = record { no_less = omega arith; stops = omega arith };
}

-- one load after another
pub keeps_then : (old mid new : FilesState) → KeepsFiles old mid → KeepsFiles mid new
    → KeepsFiles old new
keeps_then old mid new x y = record {
  held = y.held ∙ x.held;
  faults = record {
    no_less = omega (arith, x.faults.no_less, y.faults.no_less);
    stops = omega (arith, x.faults.stops, y.faults.stops);
  };
  taken = record {
    no_less = omega (arith, x.taken.no_less, y.taken.no_less);
    stops = omega (arith, x.taken.stops, y.taken.stops);
  };
}

-- a load that fails after another one
pub failed_later : (old mid new : FilesState) (file : List ℕ) → KeepsFiles old mid
    → IsLoadFailure mid new file → IsLoadFailure old new file
failed_later old mid new file keeps x =
    elim x [ inl rose ↦ inl (omega (arith, keeps.faults.no_less)) | inr missing ↦ inr (rw keeps.held at missing) ]

-- a file that is too long after another load
pub long_later : (old mid new : FilesState) (file : List ℕ) (n : ℕ) → KeepsFiles old mid
    → IsTooLong mid new file n → IsTooLong old new file n
long_later old mid new file n keeps x =
    (x.0, omega (arith, keeps.taken.no_less), rw keeps.held at x.2)
