-- How the refusals of the files make the refusals of the inputs.
use Rattle.std.proofs.Common.{◌≡◌, ℕ, suc, ◌+◌, ◌<◌, ◌≤◌, List, [], ◌∷◌, ◌++◌, length, map, get_or, take, drop}
use Rattle.std.proofs.Common.{Contains, inl, inr, refl, sym, ap, subst, ◌∙◌, arith, append_assoc}
use Rattle.std.proofs.lemmas.List.{append-nil, get_or-map, length-map}
use Rattle.std.proofs.Math.ListN.{drop_of_length-le}
use Rattle.std.specs.Str.{encode_utf8_all}
use Rattle.xt_io.specs.Files.{FilesState, KeepsFiles}
use Rattle.xt_names.proofs.ListLemmas.{drop_at}
use Rattle.xt_tree.specs.declared.trees.Tree.{Tree}
use Rattle.doc_grammar.specs.Document.{IsDocument}
use Rattle.doc_grammar.specs.declared.spots.Spot.{Spot}
use Rattle.command_words.specs.Requests.{Inputs}
use Rattle.xt_io.specs.Loads.{Holdings, IsLoadFailure, IsTooLong}
use Rattle.run_parts.specs.Inputs.{HoldsDocument, HoldsNoDocument, HoldsSomeDocument}
use Rattle.run_parts.specs.Inputs.{CanBeLoaded, HoldDocuments, IsFirstMalformed, HoldsInputs}
use Rattle.run_parts.specs.Inputs.{IsInputRefusedAs, IsReadRefusedAs, IsUnloadedAs}
use Rattle.run_parts.specs.Further.{IsTextOf, AreLoaded, IsLoadRefusedAs, AreTrees, IsUnread}
use Rattle.run_parts.specs.Further.{IsFirstUnread, IsOneTextRefusedAs, IsTextRefusedAs}
use Rattle.run_parts.specs.declared.inputs.Loaded.{Loaded}
use Rattle.run_parts.specs.declared.status.Status.{Status}
use Rattle.run_parts.specs.declared.status.Status.TheVariants.{Load, TooLong, Malformed, Memory}
use Rattle.xt_io.proofs.LoadLemmas.{failed_later, long_later}

-- one more file is loaded
pub loaded_turn : (files : Holdings) (names : List (List ℕ)) (i : ℕ) (name : List ℕ) (done : List Loaded) (file : Loaded)
    → i < length names → name ≡ get_or names i name → IsTextOf files name file
    → ((more : List Loaded) → AreLoaded files (drop i names) more → AreLoaded files names (done ++ more))
    → (more : List Loaded) → AreLoaded files (drop (i + 1) names) more
    → AreLoaded files names ((done ++ file ∷ []) ++ more)
loaded_turn files names i name done file h e t so_far more a =
    subst (AreLoaded files names) (sym (append_assoc done (file ∷ []) more))
    (so_far (file ∷ more) (subst (λ ns. AreLoaded files ns (file ∷ more)) (sym (drop_at names i name h e)) (t, a)))

pub loaded_end : (files : Holdings) (names : List (List ℕ)) (i : ℕ) (done : List Loaded)
    → length names ≤ i
    → ((more : List Loaded) → AreLoaded files (drop i names) more → AreLoaded files names (done ++ more))
    → AreLoaded files names done
loaded_end files names i done h so_far =
    subst (AreLoaded files names) (append-nil done)
    (so_far [] (subst (λ ns. AreLoaded files ns []) (sym (drop_of_length-le names h)) tt))

among : (names : List (List ℕ)) (i : ℕ) (name : List ℕ) → i < length names
    → name ≡ get_or names i name → Contains (map encode_utf8_all names) (encode_utf8_all name)
among names i name h e = (
  i,
  rw (length-map names encode_utf8_all) h,
  get_or-map encode_utf8_all names i name (encode_utf8_all name) h ∙ ap encode_utf8_all (sym e),
)

-- one of the files is not loaded
pub load_refused : (old mid new : FilesState) (names : List (List ℕ)) (i : ℕ) (name : List ℕ) (status : Status)
    → KeepsFiles old mid → i < length names → name ≡ get_or names i name
    → IsUnloadedAs (encode_utf8_all name) mid new status → IsLoadRefusedAs names old new status
load_refused old mid new names i name (Load told) keeps h e x = (
  subst (Contains (map encode_utf8_all names)) (sym x.0) (among names i name h e),
  subst (λ n. IsLoadFailure old new n) (sym x.0) (failed_later old mid new (encode_utf8_all name) keeps x.1),
)
load_refused old mid new names i name (TooLong told n) keeps h e x = (
  subst (Contains (map encode_utf8_all names)) (sym x.0) (among names i name h e),
  subst (λ m. IsTooLong old new m n) (sym x.0) (long_later old mid new (encode_utf8_all name) n keeps x.1),
)
load_refused old mid new names i name Memory keeps h e x = tt
load_refused old mid new names i name _ keeps h e x = absurd x

-- one more file is read
pub trees_turn : (loaded : List Loaded) (i : ℕ) (file : Loaded) (done : List Tree) (tree : Tree)
    → i < length loaded → file ≡ get_or loaded i file → IsDocument file.text.items tree
    → ((more : List Tree) → AreTrees (drop i loaded) more → AreTrees loaded (done ++ more))
    → (more : List Tree) → AreTrees (drop (i + 1) loaded) more
    → AreTrees loaded ((done ++ tree ∷ []) ++ more)
trees_turn loaded i file done tree h e t so_far more a =
    subst (AreTrees loaded) (sym (append_assoc done (tree ∷ []) more))
    (so_far (tree ∷ more) (subst (λ fs. AreTrees fs (tree ∷ more)) (sym (drop_at loaded i file h e)) (t, a)))

pub trees_end : (loaded : List Loaded) (i : ℕ) (done : List Tree) → length loaded ≤ i
    → ((more : List Tree) → AreTrees (drop i loaded) more → AreTrees loaded (done ++ more))
    → AreTrees loaded done
trees_end loaded i done h so_far =
    subst (AreTrees loaded) (append-nil done)
    (so_far [] (subst (λ fs. AreTrees fs []) (sym (drop_of_length-le loaded h)) tt))

-- what is refused after a file that is read
pub unread_turn : (loaded : List Loaded) (i : ℕ) (file : Loaded) (tree : Tree) → i < length loaded
    → file ≡ get_or loaded i file → IsDocument file.text.items tree
    → ((name : List ℕ) (spot : Spot) → IsFirstUnread (drop i loaded) name spot → IsFirstUnread loaded name spot)
    → (name : List ℕ) (spot : Spot) → IsFirstUnread (drop (i + 1) loaded) name spot
    → IsFirstUnread loaded name spot
unread_turn loaded i file tree h e t so_far name spot x =
    so_far name spot (subst (λ fs. IsFirstUnread fs name spot) (sym (drop_at loaded i file h e)) (inr (tree, t, x)))

pub text_refused : (loaded : List Loaded) (i : ℕ) (file : Loaded) (status : Status)
    → i < length loaded → file ≡ get_or loaded i file
    → ((name : List ℕ) (spot : Spot) → IsFirstUnread (drop i loaded) name spot → IsFirstUnread loaded name spot)
    → IsOneTextRefusedAs file status → IsTextRefusedAs loaded status
text_refused loaded i file (Malformed name spot) h e so_far x =
    so_far (encode_utf8_all name) spot
    (subst (λ fs. IsFirstUnread fs (encode_utf8_all name) spot) (sym (drop_at loaded i file h e)) (inl x))
text_refused loaded i file Memory h e so_far x = tt
text_refused loaded i file _ h e so_far x = absurd x

-- files that are loaded and read hold documents
pub documents_held : (files : Holdings) (names : List (List ℕ)) (loaded : List Loaded) (trees : List Tree)
    → AreLoaded files names loaded → AreTrees loaded trees → HoldDocuments files names trees
documents_held files [] [] [] a b = tt
documents_held files [] [] (t ∷ ts) a b = absurd b
documents_held files [] (f ∷ fs) ts a b = absurd a
documents_held files (n ∷ ns) [] ts a b = absurd a
documents_held files (n ∷ ns) (f ∷ fs) [] a b = absurd b
documents_held files (n ∷ ns) (f ∷ fs) (t ∷ ts) a b =
    (record { bytes = f.text.items; held = a.0.held; stands = b.0 }, documents_held files ns fs ts a.1 b.1)

can_be_loaded : (files : Holdings) (names : List (List ℕ)) (loaded : List Loaded)
    → AreLoaded files names loaded → CanBeLoaded files names
can_be_loaded files [] loaded a = tt
can_be_loaded files (n ∷ ns) [] a = absurd a
can_be_loaded files (n ∷ ns) (f ∷ fs) a =
    ((f.text.items, a.0.held), can_be_loaded files ns fs a.1)

first_malformed : (files : Holdings) (names : List (List ℕ)) (loaded : List Loaded) (name : List ℕ) (spot : Spot)
    → AreLoaded files names loaded → IsFirstUnread loaded name spot
    → IsFirstMalformed files names name spot
first_malformed files [] [] name spot a x = absurd x
first_malformed files [] (f ∷ fs) name spot a x = absurd a
first_malformed files (n ∷ ns) [] name spot a x = absurd a
first_malformed files (n ∷ ns) (f ∷ fs) name spot a (inl u) =
    let same : name ≡ encode_utf8_all n = u.named ∙ ap encode_utf8_all a.0.named in
    inl (same, rw same (record { bytes = f.text.items; held = a.0.held; none = u.none; first = u.first }))
first_malformed files (n ∷ ns) (f ∷ fs) name spot a (inr (tree, t, x)) =
    inr (
      record { tree = tree; held = record { bytes = f.text.items; held = a.0.held; stands = t } },
      first_malformed files ns fs name spot a.1 x,
    )

-- the document is refused
pub inputs_first : (inputs : Inputs) (old new : FilesState) (status : Status)
    → IsReadRefusedAs inputs.document old new status → IsInputRefusedAs inputs old new status
inputs_first inputs old new (Load name) x = (inl x.0, rw x.0 x.1)
inputs_first inputs old new (TooLong name n) x = (inl x.0, rw x.0 x.1)
inputs_first inputs old new (Malformed name spot) x = inl (x.0, rw x.0 x.1)
inputs_first inputs old new Memory x = x
inputs_first inputs old new _ x = absurd x

-- a further file is not loaded
pub inputs_second : (inputs : Inputs) (document : Tree) (old mid new : FilesState) (status : Status)
    → HoldsDocument old.held inputs.document document → KeepsFiles old mid
    → IsLoadRefusedAs inputs.documents mid new status → IsInputRefusedAs inputs old new status
inputs_second inputs document old mid new (Load name) held keeps x =
    (inr (x.0, record { tree = document; held = held }), failed_later old mid new (encode_utf8_all name) keeps x.1)
inputs_second inputs document old mid new (TooLong name n) held keeps x =
    (inr (x.0, record { tree = document; held = held }), long_later old mid new (encode_utf8_all name) n keeps x.1)
inputs_second inputs document old mid new Memory held keeps x = x
inputs_second inputs document old mid new _ held keeps x = absurd x

-- a further file is not read
pub inputs_third : (inputs : Inputs) (document : Tree) (loaded : List Loaded) (old mid new : FilesState) (status : Status)
    → HoldsDocument old.held inputs.document document → KeepsFiles old mid
    → AreLoaded mid.held inputs.documents loaded
    → IsTextRefusedAs loaded status → IsInputRefusedAs inputs old new status
inputs_third inputs document loaded old mid new (Malformed name spot) held keeps a x =
    let same : AreLoaded old.held inputs.documents loaded = rw keeps.held at a in
    inr (
      record { tree = document; held = held },
      can_be_loaded old.held inputs.documents loaded same,
      first_malformed old.held inputs.documents loaded (encode_utf8_all name) spot same x,
    )
inputs_third inputs document loaded old mid new Memory held keeps a x = x
inputs_third inputs document loaded old mid new _ held keeps a x = absurd x

-- all are read
pub inputs_held : (inputs : Inputs) (document : Tree) (trees : List Tree) (loaded : List Loaded) (old mid : FilesState)
    → HoldsDocument old.held inputs.document document → KeepsFiles old mid
    → AreLoaded mid.held inputs.documents loaded → AreTrees loaded trees
    → HoldsInputs old.held inputs document trees
inputs_held inputs document trees loaded old mid held keeps a b = record {
  first = held;
  further = documents_held old.held inputs.documents loaded trees (rw keeps.held at a) b;
}
