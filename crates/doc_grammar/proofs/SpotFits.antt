-- Where a refusal tells more than a place, the text stands as it tells.
use Rattle.std.proofs.Common.{◌≡◌, ℕ, suc, ◌≤◌, List, [], ◌∷◌, ◌++◌, refl, sym, subst, ap, ◌∙◌, arith, Bool, true, false, cond, ◌||◌, ◌==◌, nat_lt, Some, None}
use Rattle.std.specs.List.{list_all}
use Rattle.std.proofs.lemmas.Bool.{eqb-true}
use Rattle.std.proofs.lemmas.Option.{none-some}
use Rattle.xt_names.specs.Classes.{is_in_ranges}
use Rattle.xt_tree.specs.TreeView.{forest_of}
use Rattle.xt_tree.specs.declared.trees.Tree.{Tree}
use Rattle.xt_tree.specs.declared.trees.Tree.TheVariants.{Doc}
use Rattle.doc_grammar.specs.RawNames.{written_name}
use Rattle.doc_grammar.specs.Scopes.{opened}
use Rattle.doc_grammar.specs.Document.{limit, Rules, EndTag, element_of, text_nodes}
use Rattle.doc_grammar.specs.Document as doc
use Rattle.doc_grammar.specs.Forms.{Form, Part, form_part}
use Rattle.doc_grammar.specs.Forms as form
use Rattle.doc_grammar.specs.Lexing.{Ref, ampersand, letter_a, spelling, hash, hash_x, number}
use Rattle.doc_grammar.specs.Machine.{Stack, ground, element, State, content, refers, tag, bang, question, targeting, marked, forming, naming, tagged, spaced, attribute, equals, assigned, valued, value_refers, slashed, ending, ended, depth, reading, with_child, with_text, may_open, in_tag, behind_slash, step, start, Stop, names, deep, entity, subset, encoding, other, stop_at, stop_before_name, stop_in_ref, stop_in_form, at_close, stop_in_name, NameStep, on, behind_name, fails, name_step}
use Rattle.doc_grammar.specs.Skeleton.{anyhow, after}
use Rattle.doc_grammar.specs.SpotCases.{MarkupMayBegin, ReferenceMayBegin, AtSubset, AtEncoding, AtEntity, AtDeep, NamesEntity, EndTags, HasOpen}
use Rattle.doc_grammar.specs.SpotCases as cases
use Rattle.doc_grammar.proofs.CharacterFacts.{slash_starts}
use Rattle.doc_grammar.proofs.Residue.{Inside, top, topped}
use Rattle.doc_grammar.proofs.Residue as residue
use Rattle.doc_grammar.proofs.Completions.{end_spelled}
use Rattle.doc_grammar.proofs.FirstFaults.{prefix_to, after_anyhow}
use Rattle.doc_grammar.proofs.Probes.{goes_on, stops_on, after_then, after_both, begins_with, begins_not}
use Rattle.doc_grammar.proofs.SpotForms.{is_end, is_code, lacks_part, close_spelled, in_value, name_short}
use Rattle.doc_grammar.proofs.SpotHistory.{Behind, InDoctype, InXml, PastForm, in_doctype, in_xml, IsPart, PastReference, Past}
use Rattle.xt_names.specs.Characters.{starts_name, is_name_char}
use Rattle.xt_names.proofs.BoolLemmas.{no}

-- markup and references

tag_stops : (n : ℕ) (text : List ℕ) (st : Stack) → after anyhow (60 ∷ 32 ∷ []) (content n text st) ≡ None
unfolding step starts_name is_in_ranges
tag_stops n text st = refl

tag_bangs : (n : ℕ) (text : List ℕ) (st : Stack) → after anyhow (60 ∷ 33 ∷ []) (content n text st) ≡ Some (bang text st)
unfolding step
tag_bangs n text st = refl

tag_asks : (n : ℕ) (text : List ℕ) (st : Stack) → after anyhow (60 ∷ 63 ∷ []) (content n text st) ≡ Some (question text st)
unfolding step
tag_asks n text st = refl

pub markup_goes_on : (before : List ℕ) (n : ℕ) (text : List ℕ) (st : Stack) → after anyhow before start ≡ Some (content n text st) → MarkupMayBegin before
markup_goes_on before n text st e = (
  goes_on before (60 ∷ 33 ∷ []) (content n text st) (bang text st) e (tag_bangs n text st),
  goes_on before (60 ∷ 63 ∷ []) (content n text st) (question text st) e (tag_asks n text st),
  stops_on before (60 ∷ 32 ∷ []) (content n text st) e (tag_stops n text st),
)

pub markup_begins : (before : List ℕ) (n : ℕ) (text : List ℕ) (st : Stack) → after opened before start ≡ Some (content n text st) → MarkupMayBegin before
markup_begins before n text st e = markup_goes_on before n text st (after_anyhow before start (content n text st) e)

-- what may follow `&` in a reference
record Refers (x : State) : Type 0 where
  a : State
  on_a : after anyhow (97 ∷ []) x ≡ Some a
  l : State
  on_l : after anyhow (108 ∷ []) x ≡ Some l
  no_space : after anyhow (32 ∷ []) x ≡ None

text_refers : (text : List ℕ) (st : Stack) → Refers (refers text ampersand st)
unfolding step
text_refers text st = record { a = _; on_a = refl; l = _; on_l = refl; no_space = refl }

value_refers_so : (t : _) (name : _) (quote : ℕ) (read : List ℕ) (st : Stack) → Refers (value_refers t name quote read ampersand st)
unfolding step
value_refers_so t name quote read st = record { a = _; on_a = refl; l = _; on_l = refl; no_space = refl }

reference_begins : (before : List ℕ) (at x : State) → Refers x → after opened before start ≡ Some at → step opened at 38 ≡ Some x → ReferenceMayBegin before
reference_begins before at x f e d =
    let one : after anyhow (38 ∷ []) at ≡ Some x = after_anyhow (38 ∷ []) at x (first at x d) in (
      begins_with before (38 ∷ 97 ∷ []) at f.a e (after_both anyhow (38 ∷ []) (97 ∷ []) at x f.a one f.on_a),
      begins_with before (38 ∷ 108 ∷ []) at f.l e (after_both anyhow (38 ∷ []) (108 ∷ []) at x f.l one f.on_l),
      begins_not before (38 ∷ 32 ∷ []) at e (after_then anyhow (38 ∷ []) (32 ∷ []) at x None one f.no_space),
    )
  where
    first : (m y : State) → step opened m 38 ≡ Some y → after opened (38 ∷ []) m ≡ Some y
    first m y k = rw k refl

-- end tags for all that is open

pub record Ended (rules : Rules) (n : ℕ) (text : List ℕ) (st : Stack) : Type 0 where
  pub ts : List ℕ
  pub w : Tree
  pub tags : EndTags (depth st) ts
  pub inside : Inside rules w n text st ts

record EndedChild (rules : Rules) (st : Stack) (n : Tree) : Type 0 where
  pub ts : List ℕ
  pub w : Tree
  pub tags : EndTags (depth st) ts
  pub inside : Inside rules w 0 [] (with_child n st) ts

ended_child : (rules : Rules) (st : Stack) (n : Tree) → EndedChild rules st n
ended_child rules (ground l kids ds) n = record { ts = []; w = Doc (forest_of (kids ++ n ∷ [])); tags = cases.none; inside = top doc.ends }
ended_child rules (element name o kids st) n =
    let k = ended_child rules st (element_of o ((kids ++ n ∷ []) ++ [])) in
    record {
      ts = 60 ∷ 47 ∷ (written_name name ++ 62 ∷ k.ts);
      w = k.w;
      tags = cases.one_more name (end_spelled (written_name name) k.ts) k.tags;
      inside = residue.ends (end_spelled (written_name name) k.ts) k.inside;
    }

pub ended_element : (rules : Rules) (n : ℕ) (text : List ℕ) (name : _) (o : _) (kids : List Tree) (st : Stack) → Ended rules n text (element name o kids st)
ended_element rules n text name o kids st =
    let k = ended_child rules st (element_of o (kids ++ text_nodes text)) in
    record {
      ts = 60 ∷ 47 ∷ (written_name name ++ 62 ∷ k.ts);
      w = k.w;
      tags = cases.one_more name (end_spelled (written_name name) k.ts) k.tags;
      inside = residue.ends (end_spelled (written_name name) k.ts) k.inside;
    }

-- so many end tags complete what was read
has_open : (before : List ℕ) (n : ℕ) (text : List ℕ) (name : _) (o : _) (kids : List Tree) (st : Stack) → after opened before start ≡ Some (content n text (element name o kids st)) → HasOpen (suc (depth st)) before
has_open before n text name o kids st e =
    let k = ended_element anyhow n text name o kids st in
    (k.ts, k.w, k.tags, topped ((prefix_to anyhow k.w before k.ts start (content n text (element name o kids st)) (after_anyhow before start _ e)).1 k.inside))

-- each reason

abbrev pub Fits : Stop → List ℕ → List ℕ → Type 0
Fits names front rest = Unit {0}
Fits deep front rest = AtDeep front rest
Fits entity front rest = AtEntity front rest
Fits subset front rest = AtSubset front rest
Fits encoding front rest = AtEncoding front rest
Fits other front rest = Unit {0}

either : (front rest : List ℕ) (b : Bool) (x y : Stop) → (b ≡ true → Fits x front rest) → (b ≡ false → Fits y front rest) → Fits (cond b x y) front rest
either front rest true x y f g = f refl
either front rest false x y f g = g refl

full : (b : Bool) (x : State) → cond b (Some x) None ≡ None → b ≡ false
full true x e = absurd (none-some _ (sym e))
full false x e = refl

not_less : (a b : ℕ) → nat_lt a b ≡ false → b ≤ a
not_less a b e = grind (arith)

deep_fits : (front more : List ℕ) (c : ℕ) (text : List ℕ) (st : Stack) → Behind (60 ∷ []) front text st → starts_name c ≡ true → may_open st ≡ false → Fits (stop_before_name st) front (c ∷ more)
deep_fits front more c text (ground l kids ds) b n m = tt
deep_fits front more c text (element name o kids st) b n m = record {
  before = b.before;
  count = suc (depth st);
  failing = c;
  more = more;
  is_front = b.is_front;
  is_markup = markup_begins b.before b.brackets text (element name o kids st) b.reached;
  is_full = not_less (suc (depth st)) limit m;
  has_open = has_open b.before b.brackets text name o kids st b.reached;
  names = n;
  fails = refl;
}

close_fits : (front rest : List ℕ) (c : ℕ) → Fits (at_close c) front rest
close_fits front rest c = either front rest (c == 62) _ _ (λ e. tt) (λ e. tt)

name_fits : (front rest : List ℕ) (c : ℕ) (o : NameStep) → Fits (stop_in_name c o) front rest
name_fits front rest c (on n) = tt
name_fits front rest c (behind_name name) = close_fits front rest c
name_fits front rest c fails = tt

-- references

entity_fits : (front more : List ℕ) (c : ℕ) (x : State) (r : Ref) → Refers x → (p : PastReference front x r) → list_all is_name_char p.name ≡ true → NamesEntity p.name c → AtEntity front (c ∷ more)
entity_fits front more c x r f p all n = record {
  before = p.before;
  name = p.name;
  failing = c;
  more = more;
  is_front = p.is_front;
  is_reference = reference_begins p.before p.at x f p.reached p.begins;
  is_name = all;
  names = n;
  fails = refl;
}

part_names : (name : List ℕ) (c : ℕ) → IsPart name → (is_name_char c || c == 59) ≡ true → (list_all is_name_char name ≡ true) × NamesEntity name c
part_names [] c h e = absurd h
part_names (d ∷ name) c h e = (h, e)

no_names : (name : List ℕ) (c : ℕ) → name ≡ [] → starts_name c ≡ true → (list_all is_name_char name ≡ true) × NamesEntity name c
no_names name c h e = let P : List ℕ → Type 0 = λ x. (list_all is_name_char x ≡ true) × NamesEntity x c in subst P (sym h) (refl, e)

reference_fits : (front more : List ℕ) (c : ℕ) (x : State) (r : Ref) → Refers x → PastReference front x r → Fits (stop_in_ref r c) front (c ∷ more)
reference_fits front more c x ampersand f p =
    either front (c ∷ more) (starts_name c) _ _ (λ s. let n = no_names p.name c p.past s in entity_fits front more c x ampersand f p n.0 n.1) (λ s. tt)
reference_fits front more c x letter_a f p =
    either front (c ∷ more) (is_name_char c || c == 59) _ _ (λ s. let n = part_names p.name c p.past s in entity_fits front more c x letter_a f p n.0 n.1) (λ s. tt)
reference_fits front more c x (spelling left v) f p =
    either front (c ∷ more) (is_name_char c || c == 59) _ _ (λ s. let n = part_names p.name c p.past.0 s in entity_fits front more c x (spelling left v) f p n.0 n.1) (λ s. tt)
reference_fits front more c x hash f p = tt
reference_fits front more c x hash_x f p = tt
reference_fits front more c x (number b n) f p = tt

-- forms

subset_fits : (front more : List ℕ) (c : ℕ) (g : Form) → InDoctype front g → is_end (form_part g c) ≡ true → c ≡ 91 → AtSubset front (c ∷ more)
subset_fits front more c g p i same =
    let P : ℕ → Type 0 = λ x. is_end (form_part g x) ≡ true in record {
      before = p.begun.before;
      inner = p.inner;
      more = more;
      is_front = p.begun.is_front;
      is_markup = markup_begins p.begun.before p.begun.brackets p.text p.st p.begun.reached;
      is_whole = p.whole (62 ∷ []) [] (close_spelled g [] p.is_closing (subst P same i));
      is_bracket = ap (λ x. x ∷ more) same;
    }

encoding_fits : (front more : List ℕ) (c : ℕ) (g : Form) → InXml front g → is_code (form_part g c) ≡ true → AtEncoding front (c ∷ more)
encoding_fits front more c g p i =
    let v = in_value p.inner g c p.place i in record {
      before = p.begun.before;
      inner = v.inner;
      letters = v.letters;
      quote = v.quote;
      expected = g;
      failing = c;
      more = more;
      is_front = p.begun.is_front ∙ ap (λ xs. p.begun.before ++ (60 ∷ 63 ∷ 120 ∷ 109 ∷ 108 ∷ xs)) v.parts;
      is_markup = markup_begins p.begun.before p.begun.brackets p.text p.st p.begun.reached;
      is_value = v.is_value;
      is_name = v.is_name;
      is_open = name_short v.place;
      fails = refl;
    }

form_fits : (front more : List ℕ) (c : ℕ) (g : Form) → PastForm front g → Fits (stop_in_form (form_part g c) c) front (c ∷ more)
form_fits front more c g past = go (form_part g c) refl past
  where
    end : PastForm front g → is_end (form_part g c) ≡ true → c ≡ 91 → AtSubset front (c ∷ more)
    end (in_doctype p) i same = subset_fits front more c g p i same
    end (in_xml p) i same = no i (lacks_part is_end g c p.no_end)

    code : PastForm front g → is_code (form_part g c) ≡ true → AtEncoding front (c ∷ more)
    code (in_doctype p) i = no i (lacks_part is_code g c p.no_code)
    code (in_xml p) i = encoding_fits front more c g p i

    go : (part : Part) → form_part g c ≡ part → PastForm front g → Fits (stop_in_form part c) front (c ∷ more)
    go form.encoding e k = code k (ap is_code e)
    go form.doctype_end e k = either front (c ∷ more) (c == 91) _ _ (λ s. end k (ap is_end e) (eqb-true c 91 s)) (λ s. tt)
    go form.elsewhere e k = tt

-- each state

-- a name that does not go on
tag_full : (text : List ℕ) (st : Stack) (c : ℕ) → step opened (tag text st) c ≡ None → starts_name c ≡ true → may_open st ≡ false
unfolding step
tag_full text st c e n = go (c == 47) (c == 33) (c == 63) refl refl refl e
  where
    named : (b : Bool) → starts_name c ≡ b → cond b (cond (may_open st) (Some (naming (reading None (c ∷ [])) (with_text text st))) None) None ≡ None → may_open st ≡ false
    named true k d = full (may_open st) _ d
    named false k d = no n k

    go : (x y z : Bool) → (c == 47) ≡ x → (c == 33) ≡ y → (c == 63) ≡ z → cond x (behind_slash text st) (cond y (Some (bang text st)) (cond z (Some (question text st)) (in_tag text st c))) ≡ None → may_open st ≡ false
    go true y z a b k d = no n (ap starts_name (eqb-true c 47 a) ∙ slash_starts)
    go false true z a b k d = absurd (none-some _ (sym d))
    go false false true a b k d = absurd (none-some _ (sym d))
    go false false false a b k d = named (starts_name c) refl d

pub fits_here : (front more : List ℕ) (c : ℕ) (s : State) → Past front s → step opened s c ≡ None → Fits (stop_at s c) front (c ∷ more)
unfolding step
fits_here front more c (content n text st) p e = tt
fits_here front more c (refers text r st) p e = reference_fits front more c (refers text ampersand st) r (text_refers text st) p
fits_here front more c (tag text st) p e =
    either front (c ∷ more) (starts_name c) _ _ (λ n. deep_fits front more c text st p n (tag_full text st c e n)) (λ n. tt)
fits_here front more c (bang text st) p e = tt
fits_here front more c (question text st) p e = tt
fits_here front more c (targeting target text st) p e = tt
fits_here front more c (marked l text st) p e = tt
fits_here front more c (forming g st) p e = form_fits front more c g p
fits_here front more c (naming n st) p e = name_fits front (c ∷ more) c (name_step n c)
fits_here front more c (tagged t st) p e = close_fits front (c ∷ more) c
fits_here front more c (spaced t st) p e = close_fits front (c ∷ more) c
fits_here front more c (attribute t n st) p e = tt
fits_here front more c (equals t name st) p e = tt
fits_here front more c (assigned t name st) p e = tt
fits_here front more c (valued t name quote read st) p e = tt
fits_here front more c (value_refers t name quote read r st) p e = reference_fits front more c (value_refers t name quote read ampersand st) r (value_refers_so t name quote read st) p
fits_here front more c (slashed t st) p e = close_fits front (c ∷ more) c
fits_here front more c (ending left st) p e = tt
fits_here front more c (ended st) p e = tt
