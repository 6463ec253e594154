-- What may still come: the characters that complete what is open to a document.
use Rattle.std.proofs.Common.{◌≡◌, ℕ, suc, List, [], ◌∷◌, ◌++◌, true, append_assoc, refl, ap}
use Rattle.xt_tree.specs.declared.trees.Tree.{Tree}
use Rattle.xt_names.specs.declared.names.Binding.{Binding}
use Rattle.doc_grammar.specs.Characters.{may_stand, brackets_behind}
use Rattle.doc_grammar.specs.RawNames.{RawName, written_name}
use Rattle.doc_grammar.specs.Scopes.{Opened}
use Rattle.doc_grammar.specs.Lexemes.{Reference, Misc, Section}
use Rattle.doc_grammar.specs.Document.{Rules, EndTag, element_of, text_nodes, Element, Content, Level, Top}
use Rattle.doc_grammar.specs.Document as doc
use Rattle.doc_grammar.specs.Machine.{Stack, ground, element, depth, scope_of, with_text, with_child, with_aside, with_declared, may_open}

-- between the parts of the content of the innermost element, after so many `]` and a text; or among the children of the document
pub data Inside (rules : Rules) (w : Tree) : ℕ → List ℕ → Stack → List ℕ → Type 0 where
  top : {n : ℕ} {l : Level} {text ts : List ℕ} {kids : List Tree} {ds : List (List Binding)} → Top rules l kids ts w → Inside rules w n text (ground l kids ds) ts
  ends : {n : ℕ} {text end rest : List ℕ} {name : RawName} {o : Opened} {kids : List Tree} {st : Stack} → EndTag (written_name name) end rest → Inside rules w 0 [] (with_child (element_of o (kids ++ text_nodes text)) st) rest → Inside rules w n text (element name o kids st) (60 ∷ 47 ∷ end)
  says : {n c : ℕ} {text ts : List ℕ} {name : RawName} {o : Opened} {kids : List Tree} {st : Stack} → may_stand n c ≡ true → Inside rules w (brackets_behind n c) (text ++ c ∷ []) (element name o kids st) ts → Inside rules w n text (element name o kids st) (c ∷ ts)
  refers : {n v : ℕ} {text ts mid : List ℕ} {name : RawName} {o : Opened} {kids : List Tree} {st : Stack} → Reference ts v mid → Inside rules w 0 (text ++ v ∷ []) (element name o kids st) mid → Inside rules w n text (element name o kids st) (38 ∷ ts)
  quotes : {n : ℕ} {text ts more mid : List ℕ} {name : RawName} {o : Opened} {kids : List Tree} {st : Stack} → Section ts more mid → Inside rules w 0 (text ++ more) (element name o kids st) mid → Inside rules w n text (element name o kids st) ts
  child : {n : ℕ} {text ts mid : List ℕ} {tree : Tree} {name : RawName} {o : Opened} {kids : List Tree} {st : Stack} → Element rules (suc (depth st)) o.scope ts tree mid → Inside rules w 0 [] (element name o ((kids ++ text_nodes text) ++ tree ∷ []) st) mid → Inside rules w n text (element name o kids st) ts
  aside : {n : ℕ} {text ts mid : List ℕ} {tree : Tree} {name : RawName} {o : Opened} {kids : List Tree} {st : Stack} → Misc ts tree mid → Inside rules w 0 [] (element name o ((kids ++ text_nodes text) ++ tree ∷ []) st) mid → Inside rules w n text (element name o kids st) ts

-- among the children of the document it is the grammar itself
pub topped : {rules : Rules} {w : Tree} {n : ℕ} {l : Level} {text ts : List ℕ} {kids : List Tree} {ds : List (List Binding)} → Inside rules w n text (ground l kids ds) ts → Top rules l kids ts w
topped (top t) = t

-- an element is placed where it stands, after the text before it
pub placed : {rules : Rules} {w : Tree} {n : ℕ} (text : List ℕ) (st : Stack) {ts mid : List ℕ} {tree : Tree} → may_open st ≡ true → Element rules (depth st) (scope_of st) ts tree mid → Inside rules w 0 [] (with_child tree (with_text text st)) mid → Inside rules w n text st ts
placed text (ground l kids ds) m e k = top (doc.root m e (topped k))
placed text (element name o kids st) m e k = child e k

-- and so is a comment or an instruction
pub aside_placed : {rules : Rules} {w : Tree} {n : ℕ} (text : List ℕ) (st : Stack) {ts mid : List ℕ} {tree : Tree} → Misc ts tree mid → Inside rules w 0 [] (with_aside tree (with_text text st)) mid → Inside rules w n text st ts
aside_placed text (ground l kids ds) m k = top (doc.aside m (topped k))
aside_placed text (element name o kids st) m k = aside m k

-- a child more, and those after it
pub more_kids : (front text_kids kids : List Tree) (n : Tree) → front ++ (text_kids ++ n ∷ kids) ≡ ((front ++ text_kids) ++ n ∷ []) ++ kids
more_kids front text_kids kids n = rw (append_assoc (front ++ text_kids) (n ∷ []) kids, append_assoc front text_kids (n ∷ kids))

-- content of an element, and what follows it
pub filled : {rules : Rules} {w : Tree} {k n : ℕ} {scope : List Binding} {text ts end rest : List ℕ} {name : RawName} {o : Opened} {kids front : List Tree} {st : Stack} → Content rules k scope n text ts kids (60 ∷ 47 ∷ end) → k ≡ suc (depth st) → scope ≡ o.scope → EndTag (written_name name) end rest → Inside rules w 0 [] (with_child (element_of o (front ++ kids)) st) rest → Inside rules w n text (element name o front st) ts
filled doc.at_end_tag e f t u = ends t u
filled (doc.says p c) e f t u = says p (filled c e f t u)
filled (doc.refers r c) e f t u = refers r (filled c e f t u)
filled (doc.quotes s c) e f t u = quotes s (filled c e f t u)
filled {rules = rules} {w = w} {text = text} {rest = rest} {o = o} {front = front} {st = st} (doc.child {tree = n} {kids = kids} el c) e f t u =
    let u' : Inside rules w 0 [] (with_child (element_of o (((front ++ text_nodes text) ++ n ∷ []) ++ kids)) st) rest = rw (more_kids front (text_nodes text) kids n) at u in
    child (rw (e, f) at el) (filled c e f t u')
filled {rules = rules} {w = w} {text = text} {rest = rest} {o = o} {front = front} {st = st} (doc.aside {tree = n} {kids = kids} m c) e f t u =
    let u' : Inside rules w 0 [] (with_child (element_of o (((front ++ text_nodes text) ++ n ∷ []) ++ kids)) st) rest = rw (more_kids front (text_nodes text) kids n) at u in
    aside m (filled c e f t u')

-- what an element's content is, its end tag, and what follows
pub record Leaves (rules : Rules) (w : Tree) (st : Stack) (n : ℕ) (text : List ℕ) (name : RawName) (o : Opened) (front : List Tree) (ts : List ℕ) : Type 0 where
  pub kids : List Tree
  pub end : List ℕ
  pub rest : List ℕ
  pub content : Content rules (suc (depth st)) o.scope n text ts kids (60 ∷ 47 ∷ end)
  pub tag : EndTag (written_name name) end rest
  pub up : Inside rules w 0 [] (with_child (element_of o (front ++ kids)) st) rest

pub leaves : {rules : Rules} {w : Tree} {st : Stack} {n : ℕ} {text ts : List ℕ} {name : RawName} {o : Opened} {front : List Tree} → Inside rules w n text (element name o front st) ts → Leaves rules w st n text name o front ts
leaves {text = text} (ends t u) = record { kids = text_nodes text; end = _; rest = _; content = doc.at_end_tag; tag = t; up = u }
leaves (says p k) =
    let l = leaves k in
    record { kids = l.kids; end = l.end; rest = l.rest; content = doc.says p l.content; tag = l.tag; up = l.up }
leaves (refers r k) =
    let l = leaves k in
    record { kids = l.kids; end = l.end; rest = l.rest; content = doc.refers r l.content; tag = l.tag; up = l.up }
leaves (quotes s k) =
    let l = leaves k in
    record { kids = l.kids; end = l.end; rest = l.rest; content = doc.quotes s l.content; tag = l.tag; up = l.up }
leaves {rules = rules} {w = w} {st = st} {text = text} {o = o} {front = front} (child {tree = n} el k) =
    let l = leaves k in
    let u : Inside rules w 0 [] (with_child (element_of o (front ++ (text_nodes text ++ n ∷ l.kids))) st) l.rest = rw (← more_kids front (text_nodes text) l.kids n) at l.up in
    record { kids = text_nodes text ++ n ∷ l.kids; end = l.end; rest = l.rest; content = doc.child el l.content; tag = l.tag; up = u }
leaves {rules = rules} {w = w} {st = st} {text = text} {o = o} {front = front} (aside {tree = n} m k) =
    let l = leaves k in
    let u : Inside rules w 0 [] (with_child (element_of o (front ++ (text_nodes text ++ n ∷ l.kids))) st) l.rest = rw (← more_kids front (text_nodes text) l.kids n) at l.up in
    record { kids = text_nodes text ++ n ∷ l.kids; end = l.end; rest = l.rest; content = doc.aside m l.content; tag = l.tag; up = u }

-- the same stacks but for the declarations that are kept
pub data Alike : Stack → Stack → Type 0 where
  grounds : {l : Level} {kids : List Tree} {ds es : List (List Binding)} → Alike (ground l kids ds) (ground l kids es)
  elements : {name : RawName} {o : Opened} {kids : List Tree} {st su : Stack} → Alike st su → Alike (element name o kids st) (element name o kids su)

alike_depth : {st su : Stack} → Alike st su → depth st ≡ depth su
alike_depth grounds = refl
alike_depth (elements a) = ap (λ (n : ℕ). suc n) (alike_depth a)

pub alike_child : {st su : Stack} (n : Tree) → Alike st su → Alike (with_child n st) (with_child n su)
alike_child n grounds = grounds
alike_child n (elements a) = elements a

pub alike_declared : (d : List Binding) (st : Stack) → Alike st (with_declared d st)
alike_declared d (ground l kids ds) = grounds
alike_declared d (element name o kids st) = elements (alike_declared d st)

pub declared_alike : (d : List Binding) (st : Stack) → Alike (with_declared d st) st
declared_alike d (ground l kids ds) = grounds
declared_alike d (element name o kids st) = elements (declared_alike d st)

-- what completes a stack completes those that are alike
pub moved : {rules : Rules} {w : Tree} {n : ℕ} {text ts : List ℕ} {st su : Stack} → Inside rules w n text st ts → Alike st su → Inside rules w n text su ts
moved (top t) grounds = top t
moved (ends {o = o} {kids = kids} t u) (elements a) = ends t (moved u (alike_child _ a))
moved (says p k) (elements a) = says p (moved k (elements a))
moved (refers r k) (elements a) = refers r (moved k (elements a))
moved (quotes s k) (elements a) = quotes s (moved k (elements a))
moved (child e k) (elements a) = child (rw (alike_depth a) at e) (moved k (elements a))
moved (aside m k) (elements a) = aside m (moved k (elements a))
