-- What is read around the root.
use Rattle.std.proofs.Common.{◌≡◌, ℕ, ◌<◌, List, [], ◌∷◌, length, reverse, true, false, ◌⊎◌, inl, inr, refl, ap, arith}
use Rattle.std.proofs.lemmas.List.{length-reverse}
use Rattle.xt_names.specs.declared.names.Binding.{Binding}
use Rattle.xt_tree.specs.Forest.{Forest}
use Rattle.xt_tree.specs.TreeView.{forest_of}
use Rattle.xt_tree.specs.declared.trees.Tree.{Tree}
use Rattle.xt_tree.specs.declared.trees.Tree.TheVariants.{Doc}
use Rattle.doc_grammar.specs.Lexemes.{NCName}
use Rattle.doc_grammar.specs.Prolog.{xml_declaration, doctype_declaration}
use Rattle.doc_grammar.specs.Document.{Level, blank, fresh, typed, rooted, begun, may_type}
use Rattle.doc_grammar.specs.Machine.{ground, content, tag, bang, declares, with_begun, finish, finish_ground, whole, stops, other}
use Rattle.doc_grammar.proofs.Sizes.{spaces_size}
use Rattle.xml_source.specs.Reading.{reads, Fails, Ran}
use Rattle.xml_source.specs.Spelling.{Spells}
use Rattle.doc_reader.specs.Frames.{stack_in, stack_of}
use Rattle.xml_source.specs.declared.steps.Step.{Step}
use Rattle.doc_reader.specs.declared.readers.Frame as code
use Rattle.xml_source.proofs.EqualsLemmas.{TakesSpaces}
use Rattle.doc_reader.proofs.TextReads.{around_goes, around_stops}
use Rattle.doc_reader.proofs.MarkupReads.{doctype_ran, no_doctype, declaration_ran, target_ends, to_target}
use Rattle.doc_reader.proofs.ReadLemmas.{ran_from, ran_to}
use Rattle.xt_names.specs.Characters.{is_space, Ends, NotNext}

pub around_fails : (old new text : List ℕ) (frames : List code.Frame) (scope : List Binding) (l : Level) (kids : List Tree) (ds : List (List Binding)) → frames ≡ [] → 0 < length old → NotNext 60 old → new ≡ old → Ends is_space new
    → Fails (reads old (content 0 text (stack_of frames scope (ground l kids ds)))) new
around_fails old new text frames scope l kids ds f h n e s = rw (f, e) (around_stops old text l kids ds h n (rw e at s))

pub around_ran : (old mid new text text' : List ℕ) (frames frames' : List code.Frame) (scope scope' : List Binding) (l l' : Level) (kids kids' : List Tree) (ds ds' : List (List Binding))
    → frames ≡ [] → TakesSpaces true old mid → text' ≡ [] → frames' ≡ frames → l' ≡ begun l → kids' ≡ kids → ds' ≡ ds → new ≡ mid
    → reads old (content 0 text (stack_of frames scope (ground l kids ds))) ≡ reads new (content 0 text' (stack_of frames' scope' (ground l' kids' ds')))
around_ran old mid new text text' frames frames' scope scope' l l' kids kids' ds ds' f s t g m k d n = rw (n, t, g, f, m, k, d) (around_goes old mid text l kids ds s)

pub spaces_fall : (old mid new : List ℕ) → TakesSpaces true old mid → new ≡ mid → length new < length old
spaces_fall old mid new s n =
    let low = spaces_size s.4 in
    let size = ap length s.2 in
    let same = ap length n in omega arith

pub doctype_fails : (old text : List ℕ) (frames : List code.Frame) (scope : List Binding) (l : Level) (kids : List Tree) (ds : List (List Binding)) → frames ≡ [] → NotNext 45 old → may_type l ≡ false
    → Fails (reads old (bang text (stack_of frames scope (ground l kids ds)))) old
doctype_fails old text frames scope l kids ds f n m = rw f (no_doctype old text l kids ds m n)

pub doctype_goes : (r : Step) (old new text text' : List ℕ) (frames : List code.Frame) (scope : List Binding) (l : Level) (kids : List Tree) (ds : List (List Binding)) → frames ≡ [] → NotNext 45 old → may_type l ≡ true → Spells old doctype_declaration r new → text' ≡ []
    → Ran (reads old (bang text (stack_of frames scope (ground l kids ds)))) new (content 0 text' (stack_of frames scope (ground typed kids ds))) r
doctype_goes r old new text text' frames scope l kids ds f n m s t = rw (f, t) (doctype_ran r old new text l kids ds m n s)

-- something is read, so no XML declaration comes

not_first : (l : Level) (kids : List Tree) (ds : List (List Binding)) (target : List ℕ) → (l ≡ blank → ⊥) → declares (ground l kids ds) target ≡ false
not_first blank kids ds target n = absurd (n refl)
not_first fresh kids ds target n = refl
not_first typed kids ds target n = refl
not_first rooted kids ds target n = refl

pub not_blank : (frames : List code.Frame) (scope : List Binding) (l : Level) (kids : List Tree) (ds : List (List Binding)) (target : List ℕ) → (frames ≡ [] → ⊥) ⊎ (l ≡ blank → ⊥) → declares (stack_of frames scope (ground l kids ds)) target ≡ false
not_blank frames scope l kids ds target h = go (reverse frames) refl h where
  go : (gs : List code.Frame) → reverse frames ≡ gs → (frames ≡ [] → ⊥) ⊎ (l ≡ blank → ⊥) → declares (stack_in gs scope (ground l kids ds)) target ≡ false
  go [] e (inl n) = absurd (n (none frames e)) where
    none : (fs : List code.Frame) → reverse fs ≡ [] → fs ≡ []
    none [] e = refl
    none (f ∷ fs) e = absurd (let size = length-reverse (f ∷ fs) in let zero = ap length e in omega arith)
  go [] e (inr n) = not_first l kids ds target n
  go (g ∷ gs) e h = refl

-- where it may come no element is open
begun_in : (gs : List code.Frame) (scope : List Binding) (l : Level) (kids : List Tree) (ds : List (List Binding)) (target : List ℕ) → declares (stack_in gs scope (ground l kids ds)) target ≡ true
    → with_begun (stack_in gs scope (ground l kids ds)) ≡ stack_in gs scope (ground (begun l) kids ds)
begun_in [] scope l kids ds target d = refl
begun_in (g ∷ gs) scope l kids ds target d = absurd (cc)

-- the XML declaration
pub declaration_goes : (r : Step) (first old mid new last target text text' : List ℕ) (frames frames' : List code.Frame) (scope scope' : List Binding) (l l' : Level) (kids kids' : List Tree) (ds ds' : List (List Binding))
    → declares (stack_of frames scope (ground l kids ds)) target ≡ true → first ≡ 63 ∷ old → NCName old target mid → Spells mid xml_declaration r new
    → text' ≡ [] → frames' ≡ frames → scope' ≡ scope → l' ≡ begun l → kids' ≡ kids → ds' ≡ ds → last ≡ new
    → Ran (reads first (tag text (stack_of frames scope (ground l kids ds)))) last (content 0 text' (stack_of frames' scope' (ground l' kids' ds'))) r
declaration_goes r first old mid new last target text text' frames frames' scope scope' l l' kids kids' ds ds' d f n s t g sc m k x e =
    let st = stack_of frames scope (ground l kids ds) in
    let ran = declaration_ran r mid new target text st d (target_ends n) s in
    let from : Ran (reads first (tag text st)) new (content 0 [] (with_begun st)) r = ran_from _ _ new (content 0 [] (with_begun st)) r (to_target first old target mid text st f n) ran in
    let same : content 0 [] (with_begun st) ≡ content 0 text' (stack_of frames' scope' (ground l' kids' ds')) = rw (t, g, sc, m, k, x) (ap (content 0 []) (begun_in (reverse frames) scope l kids ds target d)) in
    rw e (ran_to _ new (content 0 [] (with_begun st)) _ r same from)

-- the end of the text

none_of : (fs : List code.Frame) → reverse fs ≡ [] → fs ≡ []
none_of [] e = refl
none_of (f ∷ fs) e = absurd (let size = length-reverse (f ∷ fs) in let zero = ap length e in omega arith)

not_last : (l : Level) (kids : List Tree) (ds : List (List Binding)) → (l ≡ rooted → ⊥) → finish_ground (ground l kids ds) ≡ stops other []
not_last blank kids ds n = refl
not_last fresh kids ds n = refl
not_last typed kids ds n = refl
not_last rooted kids ds n = absurd (n refl)

pub unfinished : (frames : List code.Frame) (scope : List Binding) (l : Level) (kids : List Tree) (ds : List (List Binding)) (text : List ℕ) → (frames ≡ [] → ⊥) ⊎ (l ≡ rooted → ⊥) → finish (content 0 text (stack_of frames scope (ground l kids ds))) ≡ stops other []
unfinished frames scope l kids ds text h = go (reverse frames) refl h where
  go : (gs : List code.Frame) → reverse frames ≡ gs → (frames ≡ [] → ⊥) ⊎ (l ≡ rooted → ⊥) → finish_ground (stack_in gs scope (ground l kids ds)) ≡ stops other []
  go [] e (inl n) = absurd (n (none_of frames e))
  go [] e (inr n) = not_last l kids ds n
  go (g ∷ gs) e h = refl

pub finished : (frames : List code.Frame) (scope : List Binding) (l : Level) (kids : List Tree) (ds : List (List Binding)) (text : List ℕ) (forest : Forest) → (frames ≡ []) × (l ≡ rooted) → forest ≡ forest_of kids
    → finish (content 0 text (stack_of frames scope (ground l kids ds))) ≡ whole (Doc forest) ds
finished frames scope l kids ds text forest r f = rw (r.0, r.1, f) refl
