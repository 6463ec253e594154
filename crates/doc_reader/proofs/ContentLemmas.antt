-- What the parts of the content do to a reading.
use Rattle.std.proofs.Common.{◌≡◌, ℕ, suc, ◌<◌, List, [], ◌∷◌, ◌++◌, length, reverse, true, false, ◌==◌, refl, sym, ap, ◌∙◌, append-nil, arith, length-append}
use Rattle.std.proofs.lemmas.Bool.{ne_eqb}
use Rattle.std.proofs.lemmas.Str.{chars-nil, encodes-chars}
use Rattle.std.specs.Str.{chars, IsUtf8, encode_utf8_all}
use Rattle.std.specs.Prelude.{⊤}
use Rattle.std.proofs.lemmas.List.{reverse-append, length-reverse}
use Rattle.xt_names.specs.Allowed.{is_empty_text}
use Rattle.xt_names.specs.declared.names.Binding.{Binding}
use Rattle.xt_tree.specs.declared.trees.Tree.{Tree}
use Rattle.xt_tree.specs.declared.trees.Tree.TheVariants.{Text}
use Rattle.doc_grammar.specs.Document.{text_nodes, Level, begun}
use Rattle.doc_grammar.specs.Machine.{Stack, ground, element, content, with_text, with_aside}
use Rattle.doc_reader.specs.Frames.{with_frame, outside, stack_in, stack_of}
use Rattle.doc_reader.specs.declared.readers.Frame as code

-- a text after what is open

pub empty_text : (text : List ℕ) → is_empty_text text ≡ true → text ≡ []
unfolding is_empty_text
empty_text [] e = refl
empty_text (c ∷ cs) e = absurd (cc)

pub with_no_text : (st : Stack) → with_text [] st ≡ st
with_no_text (ground l kids ds) = refl
with_no_text (element name o kids st) = rw append-nil refl

pub no_text : (text : List ℕ) (st : Stack) → is_empty_text text ≡ true → st ≡ with_text text st
no_text text st e = sym (ap (λ (t : List ℕ). with_text t st) (empty_text text e) ∙ with_no_text st)

some_text : (text : List ℕ) → is_empty_text text ≡ false → text_nodes text ≡ Text text ∷ []
unfolding is_empty_text
some_text [] e = absurd (cc)
some_text (c ∷ cs) e = refl

pub stack_of-push : (fs : List code.Frame) (f : code.Frame) (scope : List Binding) (base : Stack) → stack_of (fs ++ f ∷ []) scope base ≡ with_frame f scope (stack_of fs (outside f scope) base)
stack_of-push fs f scope base = rw (reverse-append fs (f ∷ [])) refl

pub text_pushed : (old new front : List code.Frame) (f : code.Frame) (scope : List Binding) (base : Stack) (kids : List Tree) (text t : List ℕ)
    → old ≡ front ++ f ∷ [] → new ≡ front ++ record { name = f.name; element = f.element; attributes = f.attributes; declared = f.declared; kids = kids } ∷ []
    → kids ≡ f.kids ++ Text t ∷ [] → t ≡ text → is_empty_text text ≡ false → stack_of new scope base ≡ with_text text (stack_of old scope base)
text_pushed old new front f scope base kids text t o n k same e =
    rw (o, n, k, same, stack_of-push front f scope base, stack_of-push front (record { name = f.name; element = f.element; attributes = f.attributes; declared = f.declared; kids = f.kids ++ Text text ∷ [] }) scope base, some_text text e) refl

-- a comment or an instruction after what is open

pub aside_around : (frames frames' : List code.Frame) (scope scope' : List Binding) (l l' : Level) (kids kids' : List Tree) (ds : List (List Binding)) (target : Stack) (tree : Tree) (text : List ℕ)
    → frames ≡ [] → stack_of frames scope (ground l kids ds) ≡ target → frames' ≡ frames → l' ≡ begun l → kids' ≡ kids ++ tree ∷ [] → text ≡ []
    → content 0 text (stack_of frames' scope' (ground l' kids' ds)) ≡ content 0 [] (with_aside tree target)
aside_around frames frames' scope scope' l l' kids kids' ds target tree text e t f m k x = rw (← t, f, e, m, k, x) refl

pub aside_inside : (old new front : List code.Frame) (f : code.Frame) (scope : List Binding) (base : Stack) (kids : List Tree) (target : Stack) (tree : Tree) (text : List ℕ)
    → old ≡ front ++ f ∷ [] → new ≡ front ++ record { name = f.name; element = f.element; attributes = f.attributes; declared = f.declared; kids = kids } ∷ []
    → kids ≡ f.kids ++ tree ∷ [] → stack_of old scope base ≡ target → text ≡ [] → content 0 text (stack_of new scope base) ≡ content 0 [] (with_aside tree target)
aside_inside old new front f scope base kids target tree text o n k t x =
    rw (← t, o, n, k, x, stack_of-push front f scope base, stack_of-push front (record { name = f.name; element = f.element; attributes = f.attributes; declared = f.declared; kids = f.kids ++ tree ∷ [] }) scope base) refl

-- an element is open

abbrev pub IsElement : Stack → Type 0
IsElement (ground l kids ds) = ⊥
IsElement (element name o kids st) = ⊤

pub inside : (fs : List code.Frame) (scope : List Binding) (base : Stack) → 0 < length fs → IsElement (stack_of fs scope base)
inside fs scope base h = go (reverse fs) refl where
  go : (gs : List code.Frame) → reverse fs ≡ gs → IsElement (stack_in gs scope base)
  go [] e = absurd (let size = length-reverse fs in let none = ap length e in omega arith)
  go (g ∷ gs) e = tt

-- a run of bytes, and its characters

pub empty_run : (bs : List ℕ) → true ≡ (length bs == 0) → chars bs ≡ []
empty_run [] e = chars-nil
empty_run (b ∷ bs) e = absurd (let no : (suc (length bs) == 0) ≡ false = ne_eqb (suc (length bs)) 0 (λ x. cc) in cc)

pub some_run : (bs : List ℕ) → IsUtf8 bs → false ≡ (length bs == 0) → 0 < length (chars bs)
some_run bs u e = go (chars bs) refl where
  go : (cs : List ℕ) → chars bs ≡ cs → 0 < length (chars bs)
  go [] d = absurd (let none : encode_utf8_all [] ≡ bs = ap encode_utf8_all (sym d) ∙ encodes-chars bs u in
      let same : (length bs == 0) ≡ true = rw (← none) refl in cc)
  go (c ∷ cs) d = let size = ap length d in omega arith

pub nothing_taken : (old run new : List ℕ) → old ≡ run ++ new → run ≡ [] → new ≡ old
nothing_taken old run new o e = sym (o ∙ ap (λ x. x ++ new) e)

pub something_taken : (old run new : List ℕ) → old ≡ run ++ new → 0 < length run → length new < length old
something_taken old run new o e = let size = ap length o ∙ length-append run new in omega arith
