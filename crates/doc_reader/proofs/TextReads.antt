-- What the parts of a text do to a reading.
use Rattle.std.proofs.Common.{◌≡◌, ℕ, suc, ◌<◌, ◌≤◌, List, [], ◌∷◌, ◌++◌, length, Bool, true, false, not, ◌&&◌, Option, Some, None, Result, Ok, Err, MatchResult, ◌==◌, nat_le, refl, sym, ap, subst, ◌∙◌, append-nil, append_assoc, arith}
use Rattle.std.proofs.lemmas.Bool.{and_parts, ne_eqb, eqb-true, le-leb}
use Rattle.std.specs.List.{list_all}
use Rattle.xt_names.specs.Classes.{is_in_ranges}
use Rattle.xt_tree.specs.declared.trees.Tree.{Tree}
use Rattle.xt_names.specs.declared.names.Binding.{Binding}
use Rattle.doc_grammar.specs.Characters.{is_text, may_stand, brackets_behind}
use Rattle.doc_grammar.specs.Lexing.{ampersand}
use Rattle.doc_grammar.specs.Scopes.{opened}
use Rattle.doc_grammar.specs.Document.{Level, blank, fresh, typed, rooted, begun}
use Rattle.doc_grammar.specs.Machine.{Stack, ground, element, State, content, refers, other, stops, step, or_stop, run}
use Rattle.doc_grammar.proofs.CharacterFacts.{open_space}
use Rattle.xml_source.specs.Classes.{is_plain_text, is_bracket}
use Rattle.xml_source.specs.References.{RefEnd, finds, ref_reads}
use Rattle.xml_source.specs.References as refs
use Rattle.xml_source.specs.Reading.{reads, stop_of, Fails}
use Rattle.xml_source.specs.Sources.{NextIs}
use Rattle.xml_source.specs.declared.steps.Stop as code
use Rattle.xml_source.proofs.ReadLemmas.{goes, stuck}
use Rattle.doc_reader.proofs.ReferenceReads.{found_in_content, stops_in_content}
use Rattle.xml_source.proofs.EqualsLemmas.{TakesSpaces, spaces_in}
use Rattle.doc_reader.proofs.ContentLemmas.{IsElement}
use Rattle.xt_names.specs.Characters.{is_space, is_char, Ends, NotNext}
use Rattle.xt_names.proofs.BoolLemmas.{no, is_false}
use Rattle.xt_names.proofs.CharacterLemmas.{is_other}

-- white space around the root

begun_twice : (l : Level) → begun (begun l) ≡ begun l
begun_twice blank = refl
begun_twice fresh = refl
begun_twice typed = refl
begun_twice rooted = refl

around_step : (n c : ℕ) (text : List ℕ) (l : Level) (kids : List Tree) (ds : List (List Binding)) → is_space c ≡ true → step opened (content n text (ground l kids ds)) c ≡ Some (content 0 [] (ground (begun l) kids ds))
unfolding step
around_step n c text l kids ds s = rw (is_other is_space c 60 s open_space, s) refl

again_step : (l : Level) (kids : List Tree) (ds : List (List Binding)) (c : ℕ) → is_space c ≡ true → step opened (content 0 [] (ground (begun l) kids ds)) c ≡ Some (content 0 [] (ground (begun l) kids ds))
again_step l kids ds c s = around_step 0 c [] (begun l) kids ds s ∙ ap (λ (x : Level). Some (content 0 [] (ground x kids ds))) (begun_twice l)

pub around_goes : (old new text : List ℕ) (l : Level) (kids : List Tree) (ds : List (List Binding)) → TakesSpaces true old new → reads old (content 0 text (ground l kids ds)) ≡ reads new (content 0 [] (ground (begun l) kids ds))
around_goes old new text l kids ds s =
    ap (λ (x : List ℕ). reads x (content 0 text (ground l kids ds))) s.2 ∙ goes _ _ s.0 s.1 (around_step 0 s.0 text l kids ds s.3)
    ∙ spaces_in (content 0 [] (ground (begun l) kids ds)) (again_step l kids ds) s.4

no_around_step : (n c : ℕ) (text : List ℕ) (l : Level) (kids : List Tree) (ds : List (List Binding)) → (c ≡ 60 → ⊥) → is_space c ≡ false → step opened (content n text (ground l kids ds)) c ≡ None
unfolding step
no_around_step n c text l kids ds o s = rw (ne_eqb c 60 o, s) refl

pub around_stops : (old text : List ℕ) (l : Level) (kids : List Tree) (ds : List (List Binding)) → 0 < length old → NotNext 60 old → Ends is_space old → Fails (reads old (content 0 text (ground l kids ds))) old
around_stops [] text l kids ds h n e = absurd (omega arith)
around_stops (c ∷ cs) text l kids ds h n e = stuck _ c cs (no_around_step 0 c text l kids ds (λ s. n (sym s)) e)

-- references

refers_step : (n : ℕ) (text : List ℕ) (st : Stack) → IsElement st → step opened (content n text st) 38 ≡ Some (refers text ampersand st)
unfolding step
refers_step n text (ground l kids ds) i = absurd i
refers_step n text (element name o kids st) i = refl

pub content_refers : (old mid new text text' : List ℕ) (r : Result ℕ code.Stop) (st : Stack) → IsElement st → old ≡ 38 ∷ mid → MatchResult r (λ c. ref_reads mid ampersand ≡ finds c new) (λ why. ref_reads mid ampersand ≡ refs.stops (stop_of why) new)
    → MatchResult r (λ c. text' ≡ text ++ c ∷ [] → reads old (content 0 text st) ≡ reads new (content 0 text' st)) (λ why. reads old (content 0 text st) ≡ stops (stop_of why) new)
content_refers old mid new text text' (Ok c) st i o m = λ t.
    ap (λ (x : List ℕ). reads x (content 0 text st)) o ∙ goes _ _ 38 mid (refers_step 0 text st i) ∙ found_in_content text st mid new ampersand c m ∙ ap (λ (x : List ℕ). reads new (content 0 x st)) (sym t)
content_refers old mid new text text' (Err why) st i o m =
    ap (λ (x : List ℕ). reads x (content 0 text st)) o ∙ goes _ _ 38 mid (refers_step 0 text st i) ∙ stops_in_content text st mid new ampersand (stop_of why) m

-- characters that stand for themselves

says_step : (n c : ℕ) (text : List ℕ) (st : Stack) → IsElement st → (c == 60) ≡ false → (c == 38) ≡ false → may_stand n c ≡ true → step opened (content n text st) c ≡ Some (content (brackets_behind n c) (text ++ c ∷ []) st)
unfolding step
says_step n c text (ground l kids ds) i e f m = absurd i
says_step n c text (element name o kids st) i e f m = rw (e, f, m) refl

close_stands : may_stand 0 62 ≡ true
unfolding may_stand is_text is_char is_in_ranges
close_stands = refl

close_behind : brackets_behind 0 62 ≡ 0
unfolding brackets_behind
close_behind = refl

pub close_goes : (old new text text' : List ℕ) (st : Stack) → IsElement st → old ≡ 62 ∷ new → text' ≡ text ++ 62 ∷ [] → reads old (content 0 text st) ≡ reads new (content 0 text' st)
close_goes old new text text' st i o t =
    ap (λ (x : List ℕ). reads x (content 0 text st)) o ∙ goes _ _ 62 new (says_step 0 62 text st i refl refl close_stands)
    ∙ ap (λ (n : ℕ). reads new (content n (text ++ 62 ∷ []) st)) close_behind ∙ ap (λ (x : List ℕ). reads new (content 0 x st)) (sym t)

-- a character that makes no `]]>`
record PlainFacts (c : ℕ) : Type 0 where
  no_open : (c == 60) ≡ false
  no_reference : (c == 38) ≡ false
  stands : may_stand 0 c ≡ true
  behind : brackets_behind 0 c ≡ 0

plain_facts : (c : ℕ) → is_plain_text c ≡ true → PlainFacts c
unfolding is_plain_text is_text may_stand brackets_behind
plain_facts c h =
    let a = and_parts (is_text c && not (c == 93)) (not (c == 62)) h in
    let b = and_parts (is_text c) (not (c == 93)) a.0 in
    let d = and_parts (is_char c && not (c == 60)) (not (c == 38)) b.0 in
    let e = and_parts (is_char c) (not (c == 60)) d.0 in
    record {
      no_open = is_false (c == 60) e.1;
      no_reference = is_false (c == 38) d.1;
      stands = rw (b.0, is_false (c == 62) a.1) refl;
      behind = rw (is_false (c == 93) b.1) refl;
    }

plain_run : (xs ts text : List ℕ) (st : Stack) → IsElement st → list_all is_plain_text xs ≡ true → reads (xs ++ ts) (content 0 text st) ≡ reads ts (content 0 (text ++ xs) st)
plain_run [] ts text st i a = rw append-nil refl
plain_run (x ∷ xs) ts text st i a =
    let parts = and_parts (is_plain_text x) (list_all is_plain_text xs) a in
    let f = plain_facts x parts.0 in
    goes _ _ x (xs ++ ts) (says_step 0 x text st i f.no_open f.no_reference f.stands ∙ ap (λ (n : ℕ). Some (content n (text ++ x ∷ []) st)) f.behind)
    ∙ plain_run xs ts (text ++ x ∷ []) st i parts.1 ∙ ap (λ (y : List ℕ). reads ts (content 0 y st)) (append_assoc text (x ∷ []) xs)

pub plain_goes : (old run new text text' : List ℕ) (st : Stack) → IsElement st → old ≡ run ++ new → list_all is_plain_text run ≡ true → text' ≡ text ++ run → reads old (content 0 text st) ≡ reads new (content 0 text' st)
plain_goes old run new text text' st i o a t =
    ap (λ (x : List ℕ). reads x (content 0 text st)) o ∙ plain_run run new text st i a ∙ ap (λ (x : List ℕ). reads new (content 0 x st)) (sym t)

no_text : (c : ℕ) → is_plain_text c ≡ false → (c ≡ 93 → ⊥) → (c ≡ 62 → ⊥) → may_stand 0 c ≡ false
unfolding is_plain_text may_stand
no_text c e b g = go (is_text c) (rw (ne_eqb c 93 b, ne_eqb c 62 g) at e) where
  go : (x : Bool) → ((x && true) && true) ≡ false → (x && not ((c == 62) && nat_le 2 0)) ≡ false
  go true h = cc
  go false h = refl

stuck_step : (n c : ℕ) (text : List ℕ) (st : Stack) → IsElement st → (c == 60) ≡ false → (c == 38) ≡ false → may_stand n c ≡ false → step opened (content n text st) c ≡ None
unfolding step
stuck_step n c text (ground l kids ds) i e f m = absurd i
stuck_step n c text (element name o kids st) i e f m = rw (e, f, m) refl

pub text_stops : (old text : List ℕ) (st : Stack) → IsElement st → 0 < length old → NotNext 60 old → NotNext 38 old → NotNext 62 old → NotNext 93 old → Ends is_plain_text old → Fails (reads old (content 0 text st)) old
text_stops [] text st i h o a g b e = absurd (omega arith)
text_stops (c ∷ cs) text st i h o a g b e =
    stuck _ c cs (stuck_step 0 c text st i (ne_eqb c 60 (λ s. o (sym s))) (ne_eqb c 38 (λ s. a (sym s))) (no_text c e (λ s. b (sym s)) (λ s. g (sym s))))

-- brackets

bracket_stands : (n : ℕ) → may_stand n 93 ≡ true
unfolding may_stand is_text is_char is_in_ranges
bracket_stands n = refl

bracket_behind : (n : ℕ) → brackets_behind n 93 ≡ suc n
unfolding brackets_behind
bracket_behind n = refl

bracket_goes : (n : ℕ) (ts text : List ℕ) (st : Stack) → IsElement st → reads (93 ∷ ts) (content n text st) ≡ reads ts (content (suc n) (text ++ 93 ∷ []) st)
bracket_goes n ts text st i = goes _ _ 93 ts (says_step n 93 text st i refl refl (bracket_stands n) ∙ ap (λ (m : ℕ). Some (content m (text ++ 93 ∷ []) st)) (bracket_behind n))

is_one : (c : ℕ) → is_bracket c ≡ true → c ≡ 93
unfolding is_bracket
is_one c e = eqb-true c 93 e

more_brackets : (xs ts text : List ℕ) (n : ℕ) (st : Stack) → IsElement st → list_all is_bracket xs ≡ true → (m : ℕ) × (n ≤ m) × (reads (xs ++ ts) (content n text st) ≡ reads ts (content m (text ++ xs) st))
more_brackets [] ts text n st i a = (n, omega arith, rw append-nil refl)
more_brackets (x ∷ xs) ts text n st i a =
    let parts = and_parts (is_bracket x) (list_all is_bracket xs) a in
    let more = more_brackets xs ts (text ++ 93 ∷ []) (suc n) st i parts.1 in
    let one : x ≡ 93 = is_one x parts.0 in (
      more.0,
      omega (arith, more.1),
      ap (λ (y : ℕ). reads (y ∷ (xs ++ ts)) (content n text st)) one ∙ bracket_goes n (xs ++ ts) text st i ∙ more.2
          ∙ ap (λ (y : List ℕ). reads ts (content more.0 y st)) (append_assoc text (93 ∷ []) xs ∙ ap (λ (y : ℕ). text ++ y ∷ xs) (sym one)),
    )

-- where no bracket follows, their number matters only before a `>`
free_stand : (n c : ℕ) → (c == 62) ≡ false → may_stand n c ≡ may_stand 0 c
unfolding may_stand
free_stand n c e = rw e refl

free_behind : (n c : ℕ) → (c == 93) ≡ false → brackets_behind n c ≡ brackets_behind 0 c
unfolding brackets_behind
free_behind n c e = rw e refl

free_step : (n c : ℕ) (text : List ℕ) (st : Stack) → (c == 62) ≡ false → (c == 93) ≡ false → step opened (content n text st) c ≡ step opened (content 0 text st) c
unfolding step
free_step n c text (ground l kids ds) e f = refl
free_step n c text (element name o kids st) e f = rw (free_stand n c e, free_behind n c f) refl

free : (n : ℕ) (ts text : List ℕ) (st : Stack) → NotNext 62 ts → NotNext 93 ts → reads ts (content n text st) ≡ reads ts (content 0 text st)
free n [] text st x y = refl
free n (c ∷ cs) text st x y = ap (λ (o : Option State). or_stop (run opened cs) (stops other (c ∷ cs)) o) (free_step n c text st (ne_eqb c 62 (λ s. x (sym s))) (ne_eqb c 93 (λ s. y (sym s))))

one_behind : may_stand 1 62 ≡ true
unfolding may_stand is_text is_char is_in_ranges
one_behind = refl

after_one : brackets_behind 1 62 ≡ 0
unfolding brackets_behind
after_one = refl

at_close : (c : ℕ) (text : List ℕ) (st : Stack) → c ≡ 62 → step opened (content 1 text st) c ≡ step opened (content 0 text st) c
unfolding step
at_close c text (ground l kids ds) same = refl
at_close c text (element name o kids st) same = rw (same, one_behind, close_stands, after_one, close_behind) refl

one_free_step : (c : ℕ) (text : List ℕ) (st : Stack) → (c == 93) ≡ false → step opened (content 1 text st) c ≡ step opened (content 0 text st) c
one_free_step c text st f = go (c == 62) refl where
  go : (b : Bool) → (c == 62) ≡ b → step opened (content 1 text st) c ≡ step opened (content 0 text st) c
  go false e = free_step 1 c text st e f
  go true e = at_close c text st (eqb-true c 62 e)

pub one_bracket : (old new text text' : List ℕ) (st : Stack) (n : List ℕ) → IsElement st → old ≡ 93 ∷ n → (new ≡ n) × NotNext 93 n → text' ≡ text ++ 93 ∷ [] → reads old (content 0 text st) ≡ reads new (content 0 text' st)
one_bracket old new text text' st n i o e t =
    ap (λ (x : List ℕ). reads x (content 0 text st)) o ∙ bracket_goes 0 n text st i ∙ same n e.1 ∙ ap (λ (x : List ℕ). reads x (content 0 (text ++ 93 ∷ []) st)) (sym e.0) ∙ ap (λ (x : List ℕ). reads new (content 0 x st)) (sym t)
  where
    same : (ts : List ℕ) → NotNext 93 ts → reads ts (content 1 (text ++ 93 ∷ []) st) ≡ reads ts (content 0 (text ++ 93 ∷ []) st)
    same [] y = refl
    same (c ∷ cs) y = ap (λ (o : Option State). or_stop (run opened cs) (stops other (c ∷ cs)) o) (one_free_step c (text ++ 93 ∷ []) st (ne_eqb c 93 (λ s. y (sym s))))

-- two brackets and more
two : (old a b run new text t1 t2 t3 : List ℕ) (st : Stack) → IsElement st → old ≡ 93 ∷ a → t1 ≡ text ++ 93 ∷ [] → a ≡ 93 ∷ b → t2 ≡ t1 ++ 93 ∷ [] → b ≡ run ++ new → list_all is_bracket run ≡ true → t3 ≡ t2 ++ run
    → (m : ℕ) × (2 ≤ m) × (reads old (content 0 text st) ≡ reads new (content m t3 st))
two old a b run new text t1 t2 t3 st i o x p y r l z =
    let more = more_brackets run new t2 2 st i l in (
      more.0,
      more.1,
      ap (λ (k : List ℕ). reads k (content 0 text st)) o ∙ bracket_goes 0 a text st i ∙ ap (λ (k : List ℕ). reads a (content 1 k st)) (sym x)
          ∙ ap (λ (k : List ℕ). reads k (content 1 t1 st)) p ∙ bracket_goes 1 b t1 st i ∙ ap (λ (k : List ℕ). reads b (content 2 k st)) (sym y) ∙ ap (λ (k : List ℕ). reads k (content 2 t2 st)) r ∙ more.2
          ∙ ap (λ (k : List ℕ). reads new (content more.0 k st)) (sym z),
    )

no_bracket : (ts : List ℕ) → Ends is_bracket ts → NotNext 93 ts
unfolding is_bracket
no_bracket [] e = tt
no_bracket (c ∷ cs) e = λ s. no (eq_true c s) e where
  eq_true : (c : ℕ) → 93 ≡ c → (c == 93) ≡ true
  eq_true c s = rw (← s) refl

pub two_brackets : (old a b run new text t1 t2 t3 : List ℕ) (st : Stack) → IsElement st → old ≡ 93 ∷ a → t1 ≡ text ++ 93 ∷ [] → a ≡ 93 ∷ b → t2 ≡ t1 ++ 93 ∷ [] → b ≡ run ++ new → list_all is_bracket run ≡ true → t3 ≡ t2 ++ run → Ends is_bracket new → NotNext 62 new
    → reads old (content 0 text st) ≡ reads new (content 0 t3 st)
two_brackets old a b run new text t1 t2 t3 st i o x p y r l z e n =
    let m = two old a b run new text t1 t2 t3 st i o x p y r l z in m.2 ∙ free m.0 new t3 st n (no_bracket new e)

past_stands : (n : ℕ) → 2 ≤ n → may_stand n 62 ≡ false
unfolding may_stand is_text is_char is_in_ranges
past_stands n h = rw (le-leb 2 n h) refl

pub section_end : (old a b run new text t1 t2 t3 : List ℕ) (st : Stack) → IsElement st → old ≡ 93 ∷ a → t1 ≡ text ++ 93 ∷ [] → a ≡ 93 ∷ b → t2 ≡ t1 ++ 93 ∷ [] → b ≡ run ++ new → list_all is_bracket run ≡ true → t3 ≡ t2 ++ run → NextIs 62 new
    → Fails (reads old (content 0 text st)) new
section_end old a b run [] text t1 t2 t3 st i o x p y r l z n = absurd n
section_end old a b run (c ∷ cs) text t1 t2 t3 st i o x p y r l z n =
    let m = two old a b run (c ∷ cs) text t1 t2 t3 st i o x p y r l z in
    let P : ℕ → Type 0 = λ k. Fails (reads (k ∷ cs) (content m.0 t3 st)) (k ∷ cs) in
    m.2 ∙ subst P (sym n) (stuck _ 62 cs (stuck_step m.0 62 t3 st i refl refl (past_stands m.0 m.1)))
