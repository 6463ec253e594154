-- One load after another.
use Rattle.std.proofs.Common.{ℕ, List, Contains, sym, subst}
use Rattle.std.specs.Str.{encode_utf8_all}
use Rattle.xt_io.specs.Files.{FilesState, KeepsFiles}
use Rattle.xt_io.specs.Loads.{IsLoadFailure, IsTooLong}
use Rattle.xt_io.proofs.LoadLemmas.{failed_later, long_later}
use Rattle.doc_set.specs.Fetches.{HasNameCause, HasFetchCause}
use Rattle.doc_set.specs.declared.fetches.FetchFault.{FetchFault}
use Rattle.doc_set.specs.declared.fetches.FetchFault.TheVariants.{Load, TooLong, Memory}

-- the file of one of the names is refused, after others were loaded
pub refused_later : (old mid new : FilesState) (names : List (List ℕ)) (name : List ℕ) (fault : FetchFault) → KeepsFiles old mid → Contains names name → HasNameCause mid new name fault → HasFetchCause old new names fault
refused_later old mid new names name (Load told) keeps among x = (
  subst (Contains names) (sym x.0) among,
  failed_later old mid new (encode_utf8_all told) keeps (subst (λ n. IsLoadFailure mid new (encode_utf8_all n)) (sym x.0) x.1),
)
refused_later old mid new names name (TooLong told n) keeps among x = (
  subst (Contains names) (sym x.0) among,
  long_later old mid new (encode_utf8_all told) n keeps (subst (λ m. IsTooLong mid new (encode_utf8_all m) n) (sym x.0) x.1),
)
refused_later old mid new names name (Memory e) keeps among x = tt
