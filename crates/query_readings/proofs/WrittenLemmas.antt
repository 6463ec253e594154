-- The first way to part a text that spells a query spells what each other one does.
use Rattle.std.proofs.Common.{◌≡◌, ℕ, List, [], ◌∷◌, Option, Some, None, refl, ◌∙◌, ap}
use Rattle.std.proofs.lemmas.Option.{none-some}
use Rattle.query_grammar.specs.declared.declared.RawQuery.{RawQuery}
use Rattle.query_grammar.specs.Machine.{read_query}
use Rattle.query_grammar.proofs.Run.{spells_reads, reads_spells}
use Rattle.query_texts.specs.Texts.{SpellsText, spelled}
use Rattle.query_texts.proofs.OneLemmas.{text_one}
use Rattle.query_readings.specs.QueryPartings.Partings.{partings}
use Rattle.query_readings.proofs.QueryPartings.AmongLemmas.{Among, first, later, contains, among}
use Rattle.query_readings.proofs.QueryPartings.PartingLemmas.{parted_listed, listed_parted}
use Rattle.query_readings.specs.Readings.{or_else, first_of, raw_query}

-- what is found is made of an element
record Found {A B : Type 0} (f : A → Option B) (xs : List A) (y : B) : Type 0 where
  item : A
  among : Among item xs
  is : f item ≡ Some y

found_later : {A B : Type 0} (f : A → Option B) (x : A) (xs : List A) (y : B) → Found f xs y
    → Found f (x ∷ xs) y
found_later f x xs y g = record { item = g.item; among = later g.among; is = g.is }

found_by : {A B : Type 0} (f : A → Option B) (x : A) (xs : List A) (y : B) (o : Option B)
    → f x ≡ o → (first_of f xs ≡ Some y → Found f xs y) → or_else o (first_of f xs) ≡ Some y
    → Found f (x ∷ xs) y
found_by f x xs y (Some z) e go h = record { item = x; among = first; is = e ∙ h }
found_by f x xs y None e go h = found_later f x xs y (go h)

found : {A B : Type 0} (f : A → Option B) (xs : List A) (y : B) → first_of f xs ≡ Some y
    → Found f xs y
found f [] y e = absurd (none-some y e)
found f (x ∷ xs) y e = found_by f x xs y (f x) refl (λ h. found f xs y h) e

-- .. and where something is made of an element, something is found
record Made {A B : Type 0} (f : A → Option B) (xs : List A) : Type 0 where
  value : B
  is : first_of f xs ≡ Some value

made_first : {A B : Type 0} (f : A → Option B) (x : A) (xs : List A) (y : B) → f x ≡ Some y
    → Made f (x ∷ xs)
made_first f x xs y e = record { value = y; is = ap (λ o. or_else o (first_of f xs)) e }

made_by : {A B : Type 0} (f : A → Option B) (x : A) (xs : List A) (o : Option B) → f x ≡ o
    → Made f xs → Made f (x ∷ xs)
made_by f x xs (Some z) e m = made_first f x xs z e
made_by f x xs None e m =
    record { value = m.value; is = ap (λ o. or_else o (first_of f xs)) e ∙ m.is }

made : {A B : Type 0} (f : A → Option B) (x : A) (xs : List A) (y : B) → Among x xs
    → f x ≡ Some y → Made f xs
made f x [] y a e = elim a [ ]
made f _ (x ∷ xs) y first e = made_first f x xs y e
made f x (z ∷ xs) y (later a) e = made_by f z xs (f z) refl (made f x xs y a e)

-- what is read is spelled
pub read_spelled : (text : List ℕ) (raw : RawQuery) → raw_query text ≡ Some raw
    → SpellsText text raw
unfolding raw_query
read_spelled text raw e =
    let g = found read_query (partings text) raw e in
    spelled (listed_parted text g.item (contains g.among)) (reads_spells g.is)

record Reads (text : List ℕ) : Type 0 where
  query : RawQuery
  is : raw_query text ≡ Some query

reads : (text : List ℕ) (raw : RawQuery) → SpellsText text raw → Reads text
unfolding raw_query
reads text raw (spelled {ts = ts} s w) =
    let a : Among ts (partings text) = among ts (partings text) (parted_listed text ts s) in
    let m = made read_query ts (partings text) raw a (spells_reads w) in
    record { query = m.value; is = m.is }

pub spelled_read : (text : List ℕ) (raw : RawQuery) → SpellsText text raw
    → raw_query text ≡ Some raw
spelled_read text raw s =
    let r = reads text raw s in
    r.is ∙ ap Some (text_one text r.query raw (read_spelled text r.query r.is) s)
