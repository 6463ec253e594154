-- The first fault has the spot that the grammar tells, and no other.
use Rattle.std.proofs.Common.{◌≡◌, ℕ, List, [], ◌∷◌, ◌++◌, refl, sym, subst, ap, ◌∙◌, inl, inr, Some, append_assoc}
use Rattle.std.specs.Str.{chars}
use Rattle.doc_grammar.specs.Scopes.{opened}
use Rattle.doc_grammar.specs.Lines.{text_of, offset}
use Rattle.doc_grammar.specs.Machine.{State, start, run, Stop, names, deep, entity, subset, encoding, other, stop_at, End, whole, stops}
use Rattle.doc_grammar.specs.Document.{IsText}
use Rattle.doc_grammar.specs.Skeleton.{anyhow, after, Begins, IsLongest, IsFirstFault}
use Rattle.doc_grammar.specs.Faults.{spot_at, spot_of, valid_front, first_fault}
use Rattle.doc_grammar.specs.SpotCases.{AtBrokenTag, IsSkeletonFault, AtSubset, AtEncoding, AtEntity, AtDeep, IsElsewhere, IsSpot, HasSpot}
use Rattle.doc_grammar.specs.declared.spots.Spot.{Spot}
use Rattle.doc_grammar.specs.declared.spots.Spot.TheVariants.{At, Subset, Encoding, Entity, Deep}
use Rattle.doc_grammar.proofs.FirstFaults.{Stands, StopsHere, stands, left_over}
use Rattle.doc_grammar.proofs.FirstFaults as faults
use Rattle.doc_grammar.proofs.PlaceLemmas.{place_of}
use Rattle.doc_grammar.proofs.Probes.{after_parts}
use Rattle.doc_grammar.proofs.Runs.{runs_document}
use Rattle.doc_grammar.proofs.SpotFits.{Fits, fits_here}
use Rattle.doc_grammar.proofs.SpotHistory.{past_of}
use Rattle.doc_grammar.proofs.SpotTags.{broken_tag, document_here}
use Rattle.doc_grammar.proofs.SpotTurns.{subset_turns, encoding_turns, entity_turns, deep_turns}
use Rattle.std.proofs.lemmas.List.{append-nil}

-- where the text is in a place of its own, the reader tells so
record Turns (why : Stop) (front rest : List ℕ) : Type 0 where
  to_subset : AtSubset front rest → why ≡ subset
  to_encoding : AtEncoding front rest → why ≡ encoding
  to_entity : AtEntity front rest → why ≡ entity
  to_deep : AtDeep front rest → why ≡ deep

no_failing : {P : Type 0} {c : ℕ} {cs : List ℕ} → [] ≡ c ∷ cs → P
no_failing e = absurd (cc)

turns_at_end : (why : Stop) (front : List ℕ) → Turns why front []
turns_at_end why front = record { to_subset = λ k. no_failing k.is_bracket; to_encoding = λ k. no_failing k.fails; to_entity = λ k. no_failing k.fails; to_deep = λ k. no_failing k.fails }

turns_here : (why : Stop) (front more : List ℕ) (c : ℕ) (s : State) → after opened front start ≡ Some s → why ≡ stop_at s c → Turns why front (c ∷ more)
turns_here why front more c s e w = record {
  to_subset = λ k. w ∙ subset_turns front more c s e k;
  to_encoding = λ k. w ∙ encoding_turns front more c s e k;
  to_entity = λ k. w ∙ entity_turns front more c s e k;
  to_deep = λ k. w ∙ deep_turns front more c s e k;
}

-- where the end of a broken tag stands: in the front, or after it
data Split (front rest before more : List ℕ) : Type 0 where
  early : (others : List ℕ) → front ≡ (before ++ 62 ∷ []) ++ others → Split front rest before more
  late : (others : List ℕ) → before ≡ front ++ others → rest ≡ others ++ 62 ∷ more → Split front rest before more

same_head : {c d : ℕ} {cs ds : List ℕ} → c ∷ cs ≡ d ∷ ds → c ≡ d
same_head e = cc

same_tail : {c d : ℕ} {cs ds : List ℕ} → c ∷ cs ≡ d ∷ ds → cs ≡ ds
same_tail e = cc

split : (front rest before more : List ℕ) → front ++ rest ≡ before ++ 62 ∷ more → Split front rest before more
split [] rest before more e = late before refl e
split (c ∷ front) rest [] more e = early front (ap (λ (x : ℕ). x ∷ front) (same_head e))
split (c ∷ front) rest (d ∷ before) more e = go (split front rest before more (same_tail e))
  where
    same : c ≡ d
    same = same_head e

    go : Split front rest before more → Split (c ∷ front) rest (d ∷ before) more
    go (early others k) = early others (ap (λ (x : ℕ). x ∷ front) same ∙ ap (λ (xs : List ℕ). d ∷ xs) k)
    go (late others k m) = late others (ap (λ (x : ℕ). x ∷ before) (sym same) ∙ ap (λ (xs : List ℕ). c ∷ xs) k) m

-- with its `>` a broken tag begins a skeleton
broken_begins : (front rest : List ℕ) → AtBrokenTag front rest → Begins (front ++ 62 ∷ [])
broken_begins front rest t =
    let b = t.is_end.0 in
    let more : IsText anyhow ((front ++ 62 ∷ []) ++ (60 ∷ 33 ∷ b.0)) b.1 = rw (append_assoc (front ++ 62 ∷ []) (60 ∷ 33 ∷ []) b.0) at b.2 in
    (60 ∷ 33 ∷ b.0, b.1, more)

-- a shorter front begins what a longer one does
shorter : (front more : List ℕ) → Begins (front ++ more) → Begins front
shorter front more b =
    let t : IsText anyhow (front ++ (more ++ b.0)) b.1 = rw (append_assoc front more b.0) at b.2 in (more ++ b.0, b.1, t)

-- what was read before a fault of the skeleton has no broken tag
no_early : (front others before after' : List ℕ) (s : State) → after opened front start ≡ Some s → front ≡ (before ++ 62 ∷ []) ++ others → AtBrokenTag before after' → ⊥
no_early front others before after' s e same t =
    let P : List ℕ → Type 0 = λ x. after opened x start ≡ Some s in
    let a = after_parts opened (before ++ 62 ∷ []) others start s (subst P same e) in
    let b = document_here (before ++ 62 ∷ []) a.0 a.1 t.is_end in
    t.is_none b.0 b.1 b.2

no_late : (front rest others before more : List ℕ) → IsLongest front rest → before ≡ front ++ others → rest ≡ others ++ 62 ∷ more → Begins (before ++ 62 ∷ []) → ⊥
no_late front rest [] before more l same is b =
    let P : List ℕ → Type 0 = λ x. Begins (x ++ 62 ∷ []) in
    l.1 62 more is (subst P (same ∙ append-nil front) b)
no_late front rest (d ∷ others) before more l same is b =
    let P : List ℕ → Type 0 = λ x. Begins (x ++ 62 ∷ []) in
    let Q : List ℕ → Type 0 = λ x. Begins x in
    let parted = append_assoc front (d ∷ others) (62 ∷ []) ∙ sym (append_assoc front (d ∷ []) (others ++ 62 ∷ [])) in
    l.1 d (others ++ 62 ∷ more) is (shorter (front ++ d ∷ []) (others ++ 62 ∷ []) (subst Q parted (subst P same b)))

no_broken : (front rest : List ℕ) (s : State) → after opened front start ≡ Some s → IsLongest front rest → (before after' : List ℕ) → front ++ rest ≡ before ++ after' → AtBrokenTag before after' → ⊥
no_broken front rest s e l before after' same t =
    let P : List ℕ → Type 0 = λ x. front ++ rest ≡ before ++ x in go (split front rest before t.more (subst P t.is_close same))
  where
    go : Split front rest before t.more → ⊥
    go (early others k) = no_early front others before after' s e k t
    go (late others k m) = no_late front rest others before t.more l k m (broken_begins before after' t)

is_spot : (why : Stop) (front rest : List ℕ) (at : ℕ) → IsFirstFault why front rest → (IsLongest front rest → (before after' : List ℕ) → front ++ rest ≡ before ++ after' → AtBrokenTag before after' → ⊥) → Fits why front rest → Turns why front rest → IsSpot (spot_at why at) front rest at
is_spot names front rest at f n k t = inl (broken_tag front rest f, refl)
is_spot deep front rest at f n k t =
    ((f, n f), k, λ x. let e : deep ≡ subset = t.to_subset x in cc, λ x. let e : deep ≡ encoding = t.to_encoding x in cc, λ x. let e : deep ≡ entity = t.to_entity x in cc)
is_spot entity front rest at f n k t = ((f, n f), k, λ x. let e : entity ≡ subset = t.to_subset x in cc, λ x. let e : entity ≡ encoding = t.to_encoding x in cc)
is_spot subset front rest at f n k t = ((f, n f), k)
is_spot encoding front rest at f n k t = ((f, n f), k, λ x. let e : encoding ≡ subset = t.to_subset x in cc)
is_spot other front rest at f n k t =
    let none : IsElsewhere front rest = (
      λ x. let e : other ≡ subset = t.to_subset x in cc,
      λ x. let e : other ≡ encoding = t.to_encoding x in cc,
      λ x. let e : other ≡ entity = t.to_entity x in cc,
      λ x. let e : other ≡ deep = t.to_deep x in cc,
    ) in
    inr ((f, n f), none, refl)

spot_stands : (front rest : List ℕ) (why : Stop) (at : ℕ) (s : State) → IsFirstFault why front rest → after opened front start ≡ Some s → StopsHere s rest why → IsSpot (spot_at why at) front rest at
spot_stands front [] why at s f e h =
    let P : Stop → Type 0 = λ x. IsFirstFault x front [] in
    let Q : Stop → Type 0 = λ x. IsSpot (spot_at x at) front [] at in
    subst Q (sym h) (is_spot other front [] at (subst P h f) (no_broken front [] s e) tt (turns_at_end other front))
spot_stands front (c ∷ more) why at s f e h =
    let P : Stop → Type 0 = λ x. Fits x front (c ∷ more) in
    is_spot why front (c ∷ more) at f (no_broken front (c ∷ more) s e) (subst P (sym h.1) (fits_here front more c s (past_of front s e) h.0)) (turns_here why front more c s e h.1)

-- the spot of a reading that stops
pub stops_at_spot : (cs front rest : List ℕ) (why : Stop) (at : ℕ) → run opened cs start ≡ stops why rest → cs ≡ front ++ rest → IsSpot (spot_at why at) front rest at
stops_at_spot cs front rest why at e same =
    let r : run opened (front ++ rest) start ≡ stops why rest = rw same at e in
    let k = stands front rest why start r in
    spot_stands front rest why at k.here (faults.first_fault cs front rest why e same) k.reached k.stop

-- and of the bytes
pub has_spot : (bytes : List ℕ) → HasSpot bytes (first_fault bytes)
has_spot bytes = go (run opened (text_of (chars (valid_front bytes))) start) refl
  where
    go : (o : End) → run opened (text_of (chars (valid_front bytes))) start ≡ o → HasSpot bytes (spot_of (valid_front bytes) (chars (valid_front bytes)) o)
    go (whole tree ds) e = inl (tree, runs_document opened (text_of (chars (valid_front bytes))) tree ds e, refl)
    go (stops why rest) e =
        let cs = chars (valid_front bytes) in
        let left = left_over (text_of cs) rest why start e in
        inr (record {
          front = left.0;
          rest = rest;
          at = offset cs rest;
          is_text = left.1;
          is_place = place_of cs left.0 rest left.1;
          is_spot = stops_at_spot (text_of cs) left.0 rest why (offset cs rest) e left.1;
        })

-- only one spot fits

names_apart : {P : Type 0} (front rest : List ℕ) → AtBrokenTag front rest → IsSkeletonFault front rest → P
names_apart front rest t l = absurd (l.1 front rest refl t)

pub one_spot : (s t : Spot) (front rest : List ℕ) (at : ℕ) → IsSpot s front rest at → IsSpot t front rest at → s ≡ t
one_spot (At p) (At q) front rest at (inl a) (inl b) = ap At (a.1 ∙ sym b.1)
one_spot (At p) (At q) front rest at (inl a) (inr b) = names_apart front rest a.0 b.0
one_spot (At p) (At q) front rest at (inr a) (inl b) = names_apart front rest b.0 a.0
one_spot (At p) (At q) front rest at (inr a) (inr b) = ap At (a.2 ∙ sym b.2)
one_spot (At p) Subset front rest at (inl a) b = names_apart front rest a.0 b.0
one_spot (At p) Subset front rest at (inr a) b = absurd (a.1.0 b.1)
one_spot (At p) Encoding front rest at (inl a) b = names_apart front rest a.0 b.0
one_spot (At p) Encoding front rest at (inr a) b = absurd (a.1.1 b.1)
one_spot (At p) Entity front rest at (inl a) b = names_apart front rest a.0 b.0
one_spot (At p) Entity front rest at (inr a) b = absurd (a.1.2 b.1)
one_spot (At p) Deep front rest at (inl a) b = names_apart front rest a.0 b.0
one_spot (At p) Deep front rest at (inr a) b = absurd (a.1.3 b.1)
one_spot Subset (At q) front rest at a (inl b) = names_apart front rest b.0 a.0
one_spot Subset (At q) front rest at a (inr b) = absurd (b.1.0 a.1)
one_spot Subset Subset front rest at a b = refl
one_spot Subset Encoding front rest at a b = absurd (b.2 a.1)
one_spot Subset Entity front rest at a b = absurd (b.2 a.1)
one_spot Subset Deep front rest at a b = absurd (b.2 a.1)
one_spot Encoding (At q) front rest at a (inl b) = names_apart front rest b.0 a.0
one_spot Encoding (At q) front rest at a (inr b) = absurd (b.1.1 a.1)
one_spot Encoding Subset front rest at a b = absurd (a.2 b.1)
one_spot Encoding Encoding front rest at a b = refl
one_spot Encoding Entity front rest at a b = absurd (b.3 a.1)
one_spot Encoding Deep front rest at a b = absurd (b.3 a.1)
one_spot Entity (At q) front rest at a (inl b) = names_apart front rest b.0 a.0
one_spot Entity (At q) front rest at a (inr b) = absurd (b.1.2 a.1)
one_spot Entity Subset front rest at a b = absurd (a.2 b.1)
one_spot Entity Encoding front rest at a b = absurd (a.3 b.1)
one_spot Entity Entity front rest at a b = refl
one_spot Entity Deep front rest at a b = absurd (b.4 a.1)
one_spot Deep (At q) front rest at a (inl b) = names_apart front rest b.0 a.0
one_spot Deep (At q) front rest at a (inr b) = absurd (b.1.3 a.1)
one_spot Deep Subset front rest at a b = absurd (a.2 b.1)
one_spot Deep Encoding front rest at a b = absurd (a.3 b.1)
one_spot Deep Entity front rest at a b = absurd (a.4 b.1)
one_spot Deep Deep front rest at a b = refl
