-- Which spot a refused text gets, in the words of the grammar alone (XML 1.0, 2.1, 2.4, 2.8, 3.1,
-- 4.1 and 4.3.3; Namespaces in XML 1.0, 5 and 6). The text is parted where it fails, into the
-- front, which begins the skeleton of some document, and the rest, whose first character is the
-- failing one.
use Rattle.std.specs.Prelude.{◌≡◌, ℕ, suc, ◌≤◌, List, [], ◌∷◌, ◌++◌, Bool, true, false, ◌||◌, ◌==◌, ◌⊎◌, length, codes}
use Rattle.std.specs.List.{list_all}
use Rattle.std.specs.Str.{chars}
use Rattle.xt_tree.specs.declared.trees.Tree.{Tree}
use Rattle.doc_grammar.specs.RawNames.{RawName, written_name}
use Rattle.doc_grammar.specs.Document.{limit, EndTag, IsText, IsDocumentText}
use Rattle.doc_grammar.specs.Forms.{Form, Part, Spelled, one, many, choice}
use Rattle.doc_grammar.specs.Prolog.{xml_declaration, encoding_name, doctype_declaration}
use Rattle.doc_grammar.specs.Skeleton.{anyhow, Begins, BeginsNone, IsLongest}
use Rattle.doc_grammar.specs.Lines.{text_of}
use Rattle.doc_grammar.specs.Places.{IsPlace}
use Rattle.doc_grammar.specs.Faults.{valid_front}
use Rattle.doc_grammar.specs.declared.spots.Spot.{Spot}
use Rattle.doc_grammar.specs.declared.spots.Spot.TheVariants.{At, Subset, Encoding, Entity, Deep}
use Rattle.xt_names.specs.Characters.{starts_name, is_name_char}

-- Markup begins with a `<` after the front: a comment or an instruction may begin, and `<` is no
-- text, after which a space could stand.
abbrev pub MarkupMayBegin : List ℕ → Type 0
MarkupMayBegin front =
    Begins (front ++ codes "<!") × Begins (front ++ codes "<?") × (Begins (front ++ codes "< ") → ⊥)

-- A reference begins with an `&` after the front: to amp or lt, and `&` is no text.
abbrev pub ReferenceMayBegin : List ℕ → Type 0
ReferenceMayBegin front =
    Begins (front ++ codes "&a") × Begins (front ++ codes "&l") × (Begins (front ++ codes "& ") → ⊥)

-- The characters begin the form, and what may follow them is the other form.
pub data Begun : Form → List ℕ → Form → Type 0 where
  nothing : {f : Form} → Begun f [] f
  first_one : {p : Part} {class : ℕ → Bool} {c e : ℕ} {f g : Form} {cs : List ℕ} → class c ≡ true
      → Begun f cs g → Begun (one p class e f) (c ∷ cs) g
  another : {class : ℕ → Bool} {c : ℕ} {f g : Form} {cs : List ℕ} → class c ≡ true
      → Begun (many class f) cs g → Begun (many class f) (c ∷ cs) g
  no_other : {class : ℕ → Bool} {c : ℕ} {f g : Form} {cs : List ℕ} → class c ≡ false
      → Begun f (c ∷ cs) g → Begun (many class f) (c ∷ cs) g
  left : {class : ℕ → Bool} {c : ℕ} {f f' g : Form} {cs : List ℕ} → class c ≡ true
      → Begun f (c ∷ cs) g → Begun (choice class f f') (c ∷ cs) g
  right : {class : ℕ → Bool} {c : ℕ} {f f' g : Form} {cs : List ℕ} → class c ≡ false
      → Begun f' (c ∷ cs) g → Begun (choice class f f') (c ∷ cs) g

-- It is `[` in a DOCTYPE after its name or identifier: with `>` in its place that would be whole.
pub record AtSubset (front rest : List ℕ) : Type 0 where
  pub before : List ℕ
  pub inner : List ℕ
  pub more : List ℕ
  pub is_front : front ≡ before ++ (codes "<!" ++ inner)
  pub is_markup : MarkupMayBegin before
  pub is_whole : Spelled doctype_declaration (inner ++ codes ">") []
  pub is_bracket : rest ≡ codes "[" ++ more

-- It is between the quotes of the encoding value, after no more than the five characters of
-- `UTF-8`, or is the closing quote.
pub record AtEncoding (front rest : List ℕ) : Type 0 where
  pub before : List ℕ
  pub inner : List ℕ
  pub letters : List ℕ
  pub quote : ℕ
  pub expected : Form
  pub failing : ℕ
  pub more : List ℕ
  pub is_front : front ≡ before ++ (codes "<?xml" ++ (inner ++ letters))
  pub is_markup : MarkupMayBegin before
  pub is_value : Begun xml_declaration inner (encoding_name quote)
  pub is_name : Begun (encoding_name quote) letters expected
  pub is_open : length letters ≤ 5
  pub fails : rest ≡ failing ∷ more

-- a name begins here right after `&`, or it goes on or ends after these characters of it
abbrev pub NamesEntity : List ℕ → ℕ → Type 0
NamesEntity [] c = starts_name c ≡ true
NamesEntity (d ∷ ds) c = (is_name_char c || c == 59) ≡ true

-- It is in a reference that is not by number: after `&` and what may be in a name.
pub record AtEntity (front rest : List ℕ) : Type 0 where
  pub before : List ℕ
  pub name : List ℕ
  pub failing : ℕ
  pub more : List ℕ
  pub is_front : front ≡ before ++ (codes "&" ++ name)
  pub is_reference : ReferenceMayBegin before
  pub is_name : list_all is_name_char name ≡ true
  pub names : NamesEntity name failing
  pub fails : rest ≡ failing ∷ more

-- so many end tags
pub data EndTags : ℕ → List ℕ → Type 0 where
  none : EndTags 0 []
  one_more : {n : ℕ} (name : RawName) {ts rest : List ℕ} → EndTag (written_name name) ts rest
      → EndTags n rest → EndTags (suc n) (60 ∷ 47 ∷ ts)

-- So many elements are open: with so many end tags it is a skeleton.
abbrev pub HasOpen : ℕ → List ℕ → Type 0
HasOpen n front =
    (ends : List ℕ) × (tree : Tree) × EndTags n ends × IsText anyhow (front ++ ends) tree

-- It begins the name of a start tag while 2,000 elements are open, which is as many as may be.
pub record AtDeep (front rest : List ℕ) : Type 0 where
  pub before : List ℕ
  pub count : ℕ
  pub failing : ℕ
  pub more : List ℕ
  pub is_front : front ≡ before ++ codes "<"
  pub is_markup : MarkupMayBegin before
  pub is_full : limit ≤ count
  pub has_open : HasOpen count before
  pub names : starts_name failing ≡ true
  pub fails : rest ≡ failing ∷ more

-- the characters begin some document
abbrev pub BeginsDocument : List ℕ → Type 0
BeginsDocument front = (rest : List ℕ) × (tree : Tree) × IsDocumentText (front ++ rest) tree

-- It is the `>` of the first start tag that breaks a rule on names. What comes before the tag
-- begins a document. With the `>`, after which markup may begin again for the first time, the
-- front begins a skeleton, but no document.
pub record AtBrokenTag (front rest : List ℕ) : Type 0 where
  pub before : List ℕ
  pub inner : List ℕ
  pub more : List ℕ
  pub is_front : front ≡ before ++ (codes "<" ++ inner)
  pub is_close : rest ≡ codes ">" ++ more
  pub is_markup : MarkupMayBegin before
  pub is_document : BeginsDocument before
  pub is_end : MarkupMayBegin (front ++ codes ">")
  pub is_first : (part others : List ℕ) → inner ≡ part ++ (codes ">" ++ others)
      → MarkupMayBegin (before ++ (codes "<" ++ (part ++ codes ">"))) → ⊥
  pub is_none : BeginsNone (front ++ codes ">")

-- It is in none of these places.
abbrev pub IsElsewhere : List ℕ → List ℕ → Type 0
IsElsewhere front rest =
    (AtSubset front rest → ⊥)
    × (AtEncoding front rest → ⊥)
    × (AtEntity front rest → ⊥)
    × (AtDeep front rest → ⊥)

-- No skeleton goes on with it, and no start tag breaks a rule on names before.
abbrev pub IsSkeletonFault : List ℕ → List ℕ → Type 0
IsSkeletonFault front rest =
    IsLongest front rest
    × ((before after : List ℕ) → front ++ rest ≡ before ++ after → AtBrokenTag before after → ⊥)

-- The spot of a text that is parted at its first fault, so many bytes after its beginning: the
-- first that fits. A start tag that breaks a rule on names comes first, and is refused after its
-- `>`.
abbrev pub IsSpot : Spot → List ℕ → List ℕ → ℕ → Type 0
IsSpot (At place) front rest at =
    (AtBrokenTag front rest × (place ≡ suc at))
    ⊎ (IsSkeletonFault front rest × IsElsewhere front rest × (place ≡ at))
IsSpot Subset front rest at = IsSkeletonFault front rest × AtSubset front rest
IsSpot Encoding front rest at =
    IsSkeletonFault front rest × AtEncoding front rest × (AtSubset front rest → ⊥)
IsSpot Entity front rest at =
    IsSkeletonFault front rest
    × AtEntity front rest
    × (AtSubset front rest → ⊥)
    × (AtEncoding front rest → ⊥)
IsSpot Deep front rest at =
    IsSkeletonFault front rest
    × AtDeep front rest
    × (AtSubset front rest → ⊥)
    × (AtEncoding front rest → ⊥)
    × (AtEntity front rest → ⊥)

-- The characters are parted at their first fault, and this is its spot.
pub record HasSpotIn (cs : List ℕ) (spot : Spot) : Type 0 where
  pub front : List ℕ
  pub rest : List ℕ
  pub at : ℕ
  pub is_text : text_of cs ≡ front ++ rest
  pub is_place : IsPlace cs rest at
  pub is_spot : IsSpot spot front rest at

-- The spot of bytes: that of their longest front that is UTF-8; where that is a document, its end.
abbrev pub HasSpot : List ℕ → Spot → Type 0
HasSpot bytes spot =
    ((tree : Tree)
    × IsDocumentText (text_of (chars (valid_front bytes))) tree
    × (spot ≡ At (length (valid_front bytes))))
    ⊎ HasSpotIn (chars (valid_front bytes)) spot
