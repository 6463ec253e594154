-- A reading stops at the first fault.
use Rattle.std.proofs.Common.{◌≡◌, ℕ, ◌≤◌, List, [], ◌∷◌, ◌++◌, length, refl, arith, sym, ◌∙◌, ap, subst, Option, Some, None, append_assoc, length-append}
use Rattle.std.specs.Option.{option_and_then}
use Rattle.std.proofs.lemmas.Option.{none-some, same_Some}
use Rattle.xt_tree.specs.declared.trees.Tree.{Tree}
use Rattle.doc_grammar.specs.Scopes.{opened}
use Rattle.doc_grammar.specs.Document.{Rules, IsText, blank, fresh, typed, rooted}
use Rattle.doc_grammar.specs.Machine.{ground, element, State, content, refers, tag, bang, question, targeting, marked, forming, naming, tagged, spaced, attribute, equals, assigned, valued, value_refers, slashed, ending, ended, step, Stop, names, deep, entity, subset, encoding, other, stop_at, stops, finish, or_stop, run, start}
use Rattle.doc_grammar.specs.Skeleton.{anyhow, Begins, IsLongest, IsFirstTag, IsFirstFault, after}
use Rattle.doc_grammar.proofs.Residue.{top, topped}
use Rattle.doc_grammar.proofs.Rests.{Rest}
use Rattle.doc_grammar.proofs.Goes.{Goes}
use Rattle.doc_grammar.proofs.Steps.{steps}
use Rattle.doc_grammar.proofs.Live.{IsLive, Lives, lives}
use Rattle.doc_grammar.proofs.Alive.{alive}
use Rattle.doc_grammar.proofs.Lenient.{Refused, Follows, both_go, both_stop, refused, follows}

-- A state that is reached by a front takes exactly what completes the front.
abbrev Both : Type 0 → Type 0 → Type 0
Both A B = (A → B) × (B → A)

pub prefix_to : (rules : Rules) (w : Tree) (cs ts : List ℕ) (s s' : State) → after rules cs s ≡ Some s' → Both (Rest rules w s (cs ++ ts)) (Rest rules w s' ts)
prefix_to rules w [] ts s s' e = let P : State → Type 0 = λ x. Both (Rest rules w s ts) (Rest rules w x ts) in subst P (same_Some _ _ e) ((λ r. r), (λ r. r))
prefix_to rules w (c ∷ cs) ts s s' e = go (step rules s c) (steps rules w s c (cs ++ ts)) e (λ x d. prefix_to rules w cs ts x s' d)
  where
    go : (o : Option State) → Goes rules w (Rest rules w s (c ∷ (cs ++ ts))) (cs ++ ts) o → option_and_then (after rules cs) o ≡ Some s' → ((x : State) → after rules cs x ≡ Some s' → Both (Rest rules w x (cs ++ ts)) (Rest rules w s' ts)) → Both (Rest rules w s (c ∷ (cs ++ ts))) (Rest rules w s' ts)
    go None k d again = absurd (none-some _ d)
    go (Some x) k d again = let t = again x d in ((λ r. t.0 (k.0 r)), (λ r. k.1 (t.1 r)))

pub after_lives : (rules : Rules) (cs : List ℕ) (s s' : State) → after rules cs s ≡ Some s' → IsLive s → IsLive s'
after_lives rules [] s s' e l = let P : State → Type 0 = λ x. IsLive x in subst P (same_Some _ _ e) l
after_lives rules (c ∷ cs) s s' e l = go (step rules s c) (lives rules s c l) e (λ x d m. after_lives rules cs x s' d m)
  where
    go : (o : Option State) → Lives o → option_and_then (after rules cs) o ≡ Some s' → ((x : State) → after rules cs x ≡ Some s' → IsLive x → IsLive s') → IsLive s'
    go None m d again = absurd (none-some _ d)
    go (Some x) m d again = again x d m

-- what is reached by the rules on names is reached without them
pub after_anyhow : (cs : List ℕ) (s s' : State) → after opened cs s ≡ Some s' → after anyhow cs s ≡ Some s'
after_anyhow [] s s' e = e
after_anyhow (c ∷ cs) s s' e = go (follows s c) e (λ x d. after_anyhow cs x s' d)
  where
    go : {o a : Option State} {why : Stop} → Follows s c o a why → option_and_then (after opened cs) o ≡ Some s' → ((x : State) → after opened cs x ≡ Some s' → after anyhow cs x ≡ Some s') → option_and_then (after anyhow cs) a ≡ Some s'
    go both_go d again = again _ d
    go (both_stop n) d again = absurd (none-some _ d)
    go (refused e t) d again = absurd (none-some _ d)

-- where a reading stops

stop_same : {why why' : Stop} {rest rest' : List ℕ} → stops why rest ≡ stops why' rest' → (why' ≡ why) × (rest' ≡ rest)
stop_same e = (cc, cc)

finish_stops : (s : State) (why : Stop) (rest : List ℕ) → finish s ≡ stops why rest → (why ≡ other) × (rest ≡ [])
finish_stops (content n text (ground blank kids ds)) why rest e = stop_same e
finish_stops (content n text (ground fresh kids ds)) why rest e = stop_same e
finish_stops (content n text (ground typed kids ds)) why rest e = stop_same e
finish_stops (content n text (ground rooted kids ds)) why rest e = absurd (cc)
finish_stops (content n text (element name o kids st)) why rest e = stop_same e
finish_stops (refers text r st) why rest e = stop_same e
finish_stops (tag text st) why rest e = stop_same e
finish_stops (bang text st) why rest e = stop_same e
finish_stops (question text st) why rest e = stop_same e
finish_stops (targeting read text st) why rest e = stop_same e
finish_stops (marked l text st) why rest e = stop_same e
finish_stops (forming f st) why rest e = stop_same e
finish_stops (naming n st) why rest e = stop_same e
finish_stops (tagged t st) why rest e = stop_same e
finish_stops (spaced t st) why rest e = stop_same e
finish_stops (attribute t n st) why rest e = stop_same e
finish_stops (equals t name st) why rest e = stop_same e
finish_stops (assigned t name st) why rest e = stop_same e
finish_stops (valued t name quote read st) why rest e = stop_same e
finish_stops (value_refers t name quote read r st) why rest e = stop_same e
finish_stops (slashed t st) why rest e = stop_same e
finish_stops (ending left st) why rest e = stop_same e
finish_stops (ended st) why rest e = stop_same e

-- the state stops before the rest
abbrev pub StopsHere : State → List ℕ → Stop → Type 0
StopsHere s [] why = why ≡ other
StopsHere s (c ∷ more) why = (step opened s c ≡ None) × (why ≡ stop_at s c)

-- the rest is no longer than what was read
run_short : (cs rest : List ℕ) (why : Stop) (s : State) → run opened cs s ≡ stops why rest → length rest ≤ length cs
run_short [] rest why s e = let f = ap length (finish_stops s why rest e).1 in omega arith
run_short (c ∷ cs) rest why s e = go (step opened s c) e (λ x d. run_short cs rest why x d)
  where
    go : (o : Option State) → or_stop (run opened cs) (stops (stop_at s c) (c ∷ cs)) o ≡ stops why rest → ((x : State) → run opened cs x ≡ stops why rest → length rest ≤ length cs) → length rest ≤ length (c ∷ cs)
    go None d again = let f = ap length (stop_same d).1 in omega arith
    go (Some x) d again = let low = again x d in omega arith

pub record Stands (s : State) (front rest : List ℕ) (why : Stop) : Type 0 where
  pub here : State
  pub reached : after opened front s ≡ Some here
  pub stop : StopsHere here rest why

stands_here : (rest : List ℕ) (why : Stop) (s : State) → run opened rest s ≡ stops why rest → StopsHere s rest why
stands_here [] why s e = (finish_stops s why [] e).0
stands_here (c ∷ more) why s e = go (step opened s c) refl e
  where
    go : (o : Option State) → step opened s c ≡ o → or_stop (run opened more) (stops (stop_at s c) (c ∷ more)) o ≡ stops why (c ∷ more) → (step opened s c ≡ None) × (why ≡ stop_at s c)
    go None f d = (f, (stop_same d).0)
    go (Some x) f d = let low = run_short more (c ∷ more) why x d in absurd (omega arith)

not_longer : (front rest : List ℕ) (c : ℕ) → rest ≡ c ∷ (front ++ rest) → ⊥
not_longer front rest c e =
    let f = ap length e in
    let g = length-append front rest in omega arith

pub stands : (front rest : List ℕ) (why : Stop) (s : State) → run opened (front ++ rest) s ≡ stops why rest → Stands s front rest why
stands [] rest why s e = record { here = s; reached = refl; stop = stands_here rest why s e }
stands (c ∷ front) rest why s e = go (step opened s c) refl e (λ x d. stands front rest why x d)
  where
    go : (o : Option State) → step opened s c ≡ o → or_stop (run opened (front ++ rest)) (stops (stop_at s c) (c ∷ (front ++ rest))) o ≡ stops why rest → ((x : State) → run opened (front ++ rest) x ≡ stops why rest → Stands x front rest why) → Stands s (c ∷ front) rest why
    go None f d again = absurd (not_longer front rest c (stop_same d).1)
    go (Some x) f d again =
        let k = again x d in
        record { here = k.here; reached = ap (option_and_then (after opened front)) f ∙ k.reached; stop = k.stop }

-- what that says of skeletons

pub begins : (front : List ℕ) (s : State) → after anyhow front start ≡ Some s → IsLive s → Begins front
begins front s e l =
    let c = alive s l in
    (c.ts, c.w, topped ((prefix_to anyhow c.w front c.ts start s e).1 c.rest))

one_more : (front rest : List ℕ) (c : ℕ) → (front ++ c ∷ []) ++ rest ≡ front ++ c ∷ rest
one_more front rest c = append_assoc front (c ∷ []) rest

-- where the next character may not stand
none_follows : (rules : Rules) (front : List ℕ) (c : ℕ) (s : State) → after rules front start ≡ Some s → step rules s c ≡ None → (rest : List ℕ) (tree : Tree) → IsText rules ((front ++ c ∷ []) ++ rest) tree → ⊥
none_follows rules front c s e n rest tree t =
    let u : IsText rules (front ++ c ∷ rest) tree = rw (one_more front rest c) at t in
    let r = (prefix_to rules tree front (c ∷ rest) start s e).0 (top u) in
    let P : Option State → Type 0 = λ o. Goes rules tree (Rest rules tree s (c ∷ rest)) rest o in
    subst P n (steps rules tree s c rest) r

-- where it may
one_begins : (front : List ℕ) (c : ℕ) (s x : State) → after anyhow front start ≡ Some s → IsLive s → step anyhow s c ≡ Some x → Begins (front ++ c ∷ [])
one_begins front c s x e l n =
    let P : Option State → Type 0 = λ o. Lives o in
    let m : IsLive x = subst P n (lives anyhow s c l) in
    let k = alive x m in
    let Q : Option State → Type 0 = λ o. Goes anyhow k.w (Rest anyhow k.w s (c ∷ k.ts)) k.ts o in
    let r = (subst Q n (steps anyhow k.w s c k.ts)).1 k.rest in
    let t : IsText anyhow (front ++ c ∷ k.ts) k.w = topped ((prefix_to anyhow k.w front (c ∷ k.ts) start s e).1 r) in
    (k.ts, k.w, rw (one_more front k.ts c) t)

-- the end of the text, or a character that no skeleton goes on with
nothing : (front : List ℕ) (s : State) → after anyhow front start ≡ Some s → IsLive s → IsLongest front []
nothing front s e l = (begins front s e l, λ c more same. absurd (cc))

refuses : (front more : List ℕ) (c : ℕ) (s : State) → after anyhow front start ≡ Some s → IsLive s → step anyhow s c ≡ None → IsLongest front (c ∷ more)
refuses front more c s e l n = (
  begins front s e l,
  λ d others same b.
      let is : c ≡ d = cc in
      let P : ℕ → Type 0 = λ x. step anyhow s x ≡ None in
      none_follows anyhow front d s e (subst P is n) b.0 b.1 b.2,
)

longest_fault : (why : Stop) (front rest : List ℕ) → (why ≡ names → ⊥) → IsLongest front rest → IsFirstFault why front rest
longest_fault names front rest n l = absurd (n refl)
longest_fault deep front rest n l = l
longest_fault entity front rest n l = l
longest_fault subset front rest n l = l
longest_fault encoding front rest n l = l
longest_fault other front rest n l = l

-- a start tag breaks a rule on names
first_tag : (front more : List ℕ) (s x : State) → after opened front start ≡ Some s → IsLive s → step opened s 62 ≡ None → step anyhow s 62 ≡ Some x → Refused s → IsFirstTag front (62 ∷ more)
first_tag front more s x e l n a r = ((more, refl), one_begins front 62 s x (after_anyhow front start s e) l a, none_follows opened front 62 s e n, (s, r.0, r.1, e, r.2, r.3))

fault_here : (front rest : List ℕ) (why : Stop) (s : State) → after opened front start ≡ Some s → StopsHere s rest why → IsFirstFault why front rest
fault_here front [] why s e h =
    let P : Stop → Type 0 = λ x. IsFirstFault x front [] in
    subst P (sym h) (nothing front s (after_anyhow front start s e) (after_lives opened front start s e tt))
fault_here front (c ∷ more) why s e h =
    let P : Stop → Type 0 = λ x. IsFirstFault x front (c ∷ more) in
    subst P (sym h.1) (go (step opened s c) (step anyhow s c) (stop_at s c) h.0 refl refl (follows s c))
  where
    live : IsLive s
    live = after_lives opened front start s e tt

    go : (o a : Option State) (why' : Stop) → o ≡ None → step opened s c ≡ o → step anyhow s c ≡ a → Follows s c o a why' → IsFirstFault why' front (c ∷ more)
    go o a why' n same_o same_a (both_go {x = x}) = absurd (none-some _ (sym n))
    go o a why' n same_o same_a (both_stop k) = longest_fault why' front (c ∷ more) k (refuses front more c s (after_anyhow front start s e) live same_a)
    go o a why' n same_o same_a (refused {x = x} is r) =
        let P : ℕ → Type 0 = λ d. step opened s d ≡ None in
        let Q : ℕ → Type 0 = λ d. step anyhow s d ≡ Some x in
        let R : ℕ → Type 0 = λ d. IsFirstTag front (d ∷ more) in
        subst R (sym is) (first_tag front more s x e live (subst P is same_o) (subst Q is same_a) r)

pub first_fault : (cs front rest : List ℕ) (why : Stop) → run opened cs start ≡ stops why rest → cs ≡ front ++ rest → IsFirstFault why front rest
first_fault cs front rest why e same =
    let r : run opened (front ++ rest) start ≡ stops why rest = rw same at e in
    let k = stands front rest why start r in fault_here front rest why k.here k.reached k.stop

-- what is left when a reading stops is the end of what it read
pub left_over : (cs rest : List ℕ) (why : Stop) (s : State) → run opened cs s ≡ stops why rest → (front : List ℕ) × (cs ≡ front ++ rest)
left_over [] rest why s e = ([], sym (finish_stops s why rest e).1)
left_over (c ∷ cs) rest why s e = go (step opened s c) e (λ x d. left_over cs rest why x d)
  where
    go : (o : Option State) → or_stop (run opened cs) (stops (stop_at s c) (c ∷ cs)) o ≡ stops why rest → ((x : State) → run opened cs x ≡ stops why rest → (front : List ℕ) × (cs ≡ front ++ rest)) → (front : List ℕ) × (c ∷ cs ≡ front ++ rest)
    go None d again = ([], sym (stop_same d).1)
    go (Some x) d again = let k = again x d in (c ∷ k.0, ap (λ (l : List ℕ). c ∷ l) k.1)
