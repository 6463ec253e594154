-- A reading goes through a start tag and an end tag as the grammar says.
use Rattle.std.proofs.Common.{◌≡◌, ℕ, List, [], ◌∷◌, refl, true, None}
use Rattle.std.proofs.lemmas.Bool.{false_from_ne_true}
use Rattle.xt_names.specs.declared.names.Binding.{Binding}
use Rattle.xt_tree.specs.declared.trees.Tree.{Tree}
use Rattle.doc_grammar.specs.Characters.{is_value}
use Rattle.doc_grammar.specs.RawNames.{RawName, RawTag, with_attribute, tag_named}
use Rattle.doc_grammar.specs.Scopes.{Opened}
use Rattle.doc_grammar.specs.Lexemes.{Spaces, Named, NCName, is_target, Misc, Section}
use Rattle.doc_grammar.specs.Lexemes as lexemes
use Rattle.doc_grammar.specs.Document.{Rules, QName, Valued, AtEnd, Attributes, Spaced, EndTag, element_of, text_nodes, Level, blank, fresh, typed, rooted}
use Rattle.doc_grammar.specs.Document as doc
use Rattle.doc_grammar.specs.Lexing.{ampersand}
use Rattle.doc_grammar.specs.Machine.{Stack, element, reading, tag, tagged, spaced, equals, assigned, valued, ending, ended, with_text, may_open, behind, in_ended, step}
use Rattle.doc_grammar.proofs.CharacterFacts.{slash_starts, bang_starts, mark_starts, close_starts, close_space, slash_space, equals_space, space_starts, quote_value, ampersand_value}
use Rattle.doc_grammar.proofs.Rests as rests
use Rattle.doc_grammar.proofs.AttributeSteps.{quote_ampersand}
use Rattle.doc_grammar.proofs.LexReads.{Reads, Next, from, onward, goes, name_reads, attribute_reads, value_reference_reads}
use Rattle.xt_names.specs.Characters.{is_space, is_quote, starts_name}
use Rattle.xt_names.proofs.BoolLemmas.{no}
use Rattle.xt_names.proofs.CharacterLemmas.{is_other, space_quote, itself}

-- values

value_reads : {rules : Rules} {w : Tree} {ds : List (List Binding)} {t : RawTag} {name : RawName}
    {quote : ℕ} {read ts value rest : List ℕ} {st : Stack}
    → is_quote quote ≡ true → Valued quote read ts value rest
    → Reads rules w ds rest (tagged (with_attribute t name value) st)
    → Reads rules w ds ts (valued t name quote read st)
unfolding step
value_reads {quote = quote} q (doc.more {c = c} p v) k =
    let no_quote = is_other (is_value quote) c quote p (quote_value quote) in
    let no_reference = is_other (is_value quote) c 38 p (ampersand_value quote) in
    goes (rw (no_quote, no_reference, p) refl) (value_reads q v k)
value_reads {t = t} {name = name} {quote = quote} {read = read} {st = st} q
    (doc.refers {v = v} {ts = ts} {mid = mid} r u) k =
    goes (rw (quote_ampersand quote q) refl)
    (value_reference_reads v mid t name quote read st ts ampersand r (value_reads q u k))
value_reads {quote = quote} q doc.whole k = goes (rw (itself quote) refl) k

assigned_reads : {rules : Rules} {w : Tree} {ds : List (List Binding)} {t : RawTag} {name : RawName}
    {quote : ℕ} {ts rest : List ℕ} {st : Stack}
    → is_quote quote ≡ true → Spaces ts (quote ∷ rest)
    → Reads rules w ds rest (valued t name quote [] st) → Reads rules w ds ts (assigned t name st)
unfolding step
assigned_reads {quote = quote} q lexemes.no_space k =
    let no_space = false_from_ne_true (is_space quote) (λ e. no q (space_quote quote e)) in
    goes (rw (no_space, q) refl) k
assigned_reads q (lexemes.a_space p s) k = goes (rw p refl) (assigned_reads q s k)

equals_reads : {rules : Rules} {w : Tree} {ds : List (List Binding)} {t : RawTag} {name : RawName}
    {ts rest : List ℕ} {st : Stack}
    → Spaces ts (61 ∷ rest) → Reads rules w ds rest (assigned t name st)
    → Reads rules w ds ts (equals t name st)
unfolding step
equals_reads lexemes.no_space k = goes refl k
equals_reads (lexemes.a_space {c = c} p s) k =
    goes (rw (is_other is_space c 61 p equals_space, p) refl) (equals_reads s k)

-- attributes

at_tag_end : {rules : Rules} {w : Tree} {ds : List (List Binding)} {t : RawTag} {ts : List ℕ}
    {st : Stack}
    → AtEnd ts → Reads rules w ds ts (tagged t st) → Reads rules w ds ts (spaced t st)
unfolding step
at_tag_end {rules = rules} {w = w} {ds = ds} {t = t} {st = st} (doc.close {ts = ts}) k =
    let next : Next rules w ds ts (step rules (tagged t st) 62) = onward k in
    from rules w ds 62 ts (spaced t st) (rw (close_space, close_starts) (rw close_space at next))
at_tag_end {rules = rules} {w = w} {ds = ds} {t = t} {st = st} (doc.slash {ts = ts}) k =
    let next : Next rules w ds ts (step rules (tagged t st) 47) = onward k in
    from rules w ds 47 ts (spaced t st) (rw (slash_space, slash_starts) (rw slash_space at next))

first_letter : {rules : Rules} {w : Tree} {ds : List (List Binding)} {t : RawTag} {name : RawName}
    {c : ℕ} {ts mid : List ℕ} {st : Stack}
    → starts_name c ≡ true → rests.NameRest (reading None (c ∷ [])) ts name mid
    → Reads rules w ds mid (equals t name st) → Reads rules w ds (c ∷ ts) (spaced t st)
unfolding step
first_letter {t = t} {c = c} {ts = ts} {st = st} s r k =
    let no_space = false_from_ne_true (is_space c) (λ e. no s (space_starts c e)) in
    goes (rw (no_space, s) refl) (attribute_reads t st ts (reading None (c ∷ [])) r k)

attribute_begins : {rules : Rules} {w : Tree} {ds : List (List Binding)} {t : RawTag}
    {name : RawName} {ts mid : List ℕ} {st : Stack}
    → QName ts name mid → Reads rules w ds mid (equals t name st)
    → Reads rules w ds ts (spaced t st)
attribute_begins (doc.plain (lexemes.ncname s d) e) k = first_letter s (rests.plain d e) k
attribute_begins (doc.prefixed (lexemes.ncname s d) l) k = first_letter s (rests.prefixed d l) k

mutual
  unfolding step

  pub tag_reads : {rules : Rules} {w : Tree} {ds : List (List Binding)} {t whole : RawTag}
      {ts rest : List ℕ} {st : Stack}
      → Attributes t ts whole rest → Reads rules w ds rest (tagged whole st)
      → Reads rules w ds ts (tagged t st)
  tag_reads (doc.none e) k = k
  tag_reads (doc.space p a) k = goes (rw p refl) (spaced_reads a k)

  spaced_reads : {rules : Rules} {w : Tree} {ds : List (List Binding)} {t whole : RawTag}
      {ts rest : List ℕ} {st : Stack}
      → Spaced t ts whole rest → Reads rules w ds rest (tagged whole st)
      → Reads rules w ds ts (spaced t st)
  spaced_reads (doc.no_more e) k = at_tag_end e k
  spaced_reads (doc.again p a) k = goes (rw p refl) (spaced_reads a k)
  spaced_reads (doc.attribute d (doc.equals x y) q v a) k =
      attribute_begins d (equals_reads x (assigned_reads q y (value_reads q v (tag_reads a k))))

-- the name of a start tag

element_letter : {rules : Rules} {w : Tree} {ds : List (List Binding)} {name : RawName} {c : ℕ}
    {text ts mid : List ℕ} {st : Stack}
    → starts_name c ≡ true → may_open st ≡ true → rests.NameRest (reading None (c ∷ [])) ts name mid
    → Reads rules w ds mid (tagged (tag_named name) (with_text text st))
    → Reads rules w ds (c ∷ ts) (tag text st)
unfolding step
element_letter {c = c} {text = text} {ts = ts} {st = st} s m r k =
    let slash = is_other starts_name c 47 s slash_starts in
    let bang = is_other starts_name c 33 s bang_starts in
    let mark = is_other starts_name c 63 s mark_starts in
    goes (rw (slash, bang, mark, s, m) refl)
    (name_reads (with_text text st) ts (reading None (c ∷ [])) r k)

-- a start tag up to its end
pub start_reads : {rules : Rules} {w : Tree} {ds : List (List Binding)} {name : RawName}
    {t : RawTag} {text ts mid rest : List ℕ} {st : Stack}
    → may_open st ≡ true → QName ts name mid → Attributes (tag_named name) mid t rest
    → Reads rules w ds rest (tagged t (with_text text st)) → Reads rules w ds ts (tag text st)
start_reads m (doc.plain (lexemes.ncname s d) e) a k =
    element_letter s m (rests.plain d e) (tag_reads a k)
start_reads m (doc.prefixed (lexemes.ncname s d) l) a k =
    element_letter s m (rests.prefixed d l) (tag_reads a k)

-- an end tag

ended_reads : {rules : Rules} {w : Tree} {ds : List (List Binding)} {name : RawName} {o : Opened}
    {kids : List Tree} {ts rest : List ℕ} {st : Stack}
    → Spaces ts (62 ∷ rest) → Reads rules w ds rest (behind (element_of o kids) st)
    → Reads rules w ds ts (ended (element name o kids st))
unfolding step
ended_reads lexemes.no_space k = goes refl k
ended_reads {name = name} {o = o} {kids = kids} {st = st} (lexemes.a_space {c = c} p s) k =
    goes {s' = ended (element name o kids st)} (rw (is_other is_space c 62 p close_space, p) refl)
    (ended_reads {name = name} {o = o} {kids = kids} {st = st} s k)

name_ended : {rules : Rules} {w : Tree} {ds : List (List Binding)} {ts : List ℕ} {st : Stack}
    → Reads rules w ds ts (ended st) → Reads rules w ds ts (ending [] st)
unfolding step
name_ended {ts = []} k = record { found = k.found }
name_ended {rules = rules} {w = w} {ds = ds} {ts = c ∷ ts} {st = st} k =
    let next : Next rules w ds ts (in_ended st c) =
    onward k in from rules w ds c ts (ending [] st) next

pub end_reads : {rules : Rules} {w : Tree} {ds : List (List Binding)} {name : RawName} {o : Opened}
    {kids : List Tree} {left ts rest : List ℕ} {st : Stack}
    → EndTag left ts rest → Reads rules w ds rest (behind (element_of o kids) st)
    → Reads rules w ds ts (ending left (element name o kids st))
unfolding step
end_reads {name = name} {o = o} {kids = kids} {st = st} (doc.same {c = c} {left = left} e) k =
    goes {s' = ending left (element name o kids st)} (rw (itself c) refl)
    (end_reads {name = name} {o = o} {kids = kids} {st = st} e k)
end_reads {name = name} {o = o} {kids = kids} {st = st} (doc.closing s) k =
    name_ended (ended_reads {name = name} {o = o} {kids = kids} {st = st} s k)
