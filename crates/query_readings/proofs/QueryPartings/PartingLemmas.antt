-- The list has each way to part the text, and no other.
use Rattle.std.proofs.Common.{◌≡◌, ◌<◌, ℕ, zero, suc, List, [], ◌∷◌, length, map, Bool, true}
use Rattle.std.proofs.Common.{false, Contains, if◌then◌else◌, refl, sym, subst, arith}
use Rattle.expr_keys.specs.declared.tokens.Token.{Token}
use Rattle.query_pieces.specs.Points.{Point, start}
use Rattle.query_pieces.specs.Readings.{Reads, IsEnd, Splits, over, reads}
use Rattle.query_pieces.proofs.ReadingLemmas.{reads_ends}
use Rattle.query_pieces.proofs.ShortLemmas.{reads_shorter}
use Rattle.query_readings.specs.QueryPartings.Nexts.{Next, is_end, next_at}
use Rattle.query_readings.specs.QueryPartings.Partings.{behind_each, partings_from, partings}
use Rattle.query_readings.proofs.QueryPartings.AmongLemmas.{Among, first, later, left, right, Side, before, behind}
use Rattle.query_readings.proofs.QueryPartings.AmongLemmas.{side, mapped, Origin, origin, contains, among}
use Rattle.query_readings.proofs.QueryPartings.NextLemmas.{reads_among, among_reads, end_told, told_end}

abbrev Go : Type 0
Go = Point → List (List Token)

-- after a token
among_each : (go : Go) (ns : List Next) (n : Next) (ts : List Token) → Among n ns
    → Among ts (go n.1) → Among (n.0 ∷ ts) (behind_each go ns)
among_each go [] n ts b a = elim b [ ]
among_each go (m ∷ ns) _ ts first a =
    left (behind_each go ns) (mapped (λ us. m.0 ∷ us) a)
among_each go (m ∷ ns) n ts (later b) a =
    right (map (λ us. m.0 ∷ us) (go m.1)) (among_each go ns n ts b a)

record Goes (go : Go) (ns : List Next) (us : List Token) : Type 0 where
  next : Next
  among : Among next ns
  rest : List Token
  goes : Among rest (go next.1)
  whole : us ≡ next.0 ∷ rest

goes_first : (go : Go) (n : Next) (ns : List Next) (us : List Token)
    → Origin (λ ts. n.0 ∷ ts) (go n.1) us → Goes go (n ∷ ns) us
goes_first go n ns us o =
    record { next = n; among = first; rest = o.origin; goes = o.among; whole = o.is }

goes_later : (go : Go) (n : Next) (ns : List Next) (us : List Token) → Goes go ns us
    → Goes go (n ∷ ns) us
goes_later go n ns us g =
    record { next = g.next; among = later g.among; rest = g.rest; goes = g.goes; whole = g.whole }

abbrev Rest : Go → List Next → List Token → Type 0
Rest go ns us = Among us (behind_each go ns) → Goes go ns us

by_side : (go : Go) (n : Next) (ns : List Next) (us : List Token) → Rest go ns us
    → Side us (map (λ ts. n.0 ∷ ts) (go n.1)) (behind_each go ns) → Goes go (n ∷ ns) us
by_side go n ns us f (before a) = goes_first go n ns us (origin (λ ts. n.0 ∷ ts) (go n.1) us a)
by_side go n ns us f (behind a) = goes_later go n ns us (f a)

each_goes : (go : Go) (ns : List Next) (us : List Token) → Among us (behind_each go ns)
    → Goes go ns us
each_goes go [] us a = elim a [ ]
each_goes go (n ∷ ns) us a =
    by_side go n ns us (λ b. each_goes go ns us b)
    (side (map (λ ts. n.0 ∷ ts) (go n.1)) a)

-- from the point on
abbrev from_by : ℕ → Point → Bool → List (List Token)
from_by k p b = if b then [] ∷ [] else behind_each (partings_from k) (next_at p)

over_listed : (k : ℕ) (p : Point) → IsEnd p → Among [] (partings_from (suc k) p)
over_listed k p e = subst (λ b. Among [] (from_by k p b)) (sym (end_told p e)) first

not_over : (b : Bool) (p q : Point) (t : Token) (o : Bool) → Reads b p t q → is_end p ≡ o
    → o ≡ false
not_over b p q t true r e = absurd (reads_ends b p t q r (told_end p e))
not_over b p q t false r e = refl

reads_listed : (b : Bool) (k : ℕ) (p q : Point) (t : Token) (ts : List Token) → Reads b p t q
    → Among ts (partings_from k q) → Among (t ∷ ts) (partings_from (suc k) p)
reads_listed b k p q t ts r a =
    let more : Among (t ∷ ts) (behind_each (partings_from k) (next_at p)) =
    among_each (partings_from k) (next_at p) (t, q) ts (reads_among b p q t r) a in
    subst (λ o. Among (t ∷ ts) (from_by k p o)) (sym (not_over b p q t (is_end p) r refl)) more

splits_listed : (k : ℕ) (p : Point) (ts : List Token) → Splits p ts → length p.rest < k
    → Among ts (partings_from k p)
splits_listed zero p ts s h = absurd (omega (arith, h))
splits_listed (suc k) p _ (over e) h = over_listed k p e
splits_listed (suc k) p _ (reads {operand = b} {behind = q} {t = t} {ts = ts} r s) h =
    let short = reads_shorter b p t q r in
    reads_listed b k p q t ts r (splits_listed k q ts s (omega (arith, h, short)))

-- .. and back
over_split : (p : Point) (us : List Token) → IsEnd p → Among us ([] ∷ []) → Splits p us
over_split p _ e first = over e
over_split p us e (later a) = elim a [ ]

goes_split : (k : ℕ) (p : Point) (us : List Token)
    → ((q : Point) (ts : List Token) → Among ts (partings_from k q) → Splits q ts)
    → Goes (partings_from k) (next_at p) us → Splits p us
goes_split k p us f g =
    let r = among_reads p g.next g.among in
    let all : Splits p (g.next.0 ∷ g.rest) =
    reads {operand = r.operand} r.reads (f g.next.1 g.rest g.goes) in
    subst (Splits p) (sym g.whole) all

split_by : (k : ℕ) (p : Point) (us : List Token)
    → ((q : Point) (ts : List Token) → Among ts (partings_from k q) → Splits q ts)
    → (b : Bool) → is_end p ≡ b → Among us (from_by k p b) → Splits p us
split_by k p us f true e a = over_split p us (told_end p e) a
split_by k p us f false e a = goes_split k p us f (each_goes (partings_from k) (next_at p) us a)

listed_splits : (k : ℕ) (p : Point) (us : List Token) → Among us (partings_from k p) → Splits p us
listed_splits zero p us a = elim a [ ]
listed_splits (suc k) p us a =
    split_by k p us (λ q ts b. listed_splits k q ts b) (is_end p) refl a

pub parted_listed : (text : List ℕ) (ts : List Token) → Splits (start text) ts
    → Contains (partings text) ts
unfolding partings
parted_listed text ts s =
    contains (splits_listed (suc (length text)) (start text) ts s (omega arith))

pub listed_parted : (text : List ℕ) (ts : List Token) → Contains (partings text) ts
    → Splits (start text) ts
unfolding partings
listed_parted text ts c =
    listed_splits (suc (length text)) (start text) ts
    (among ts (partings_from (suc (length text)) (start text)) c)

pub read_listed : (p q : Point) (t : Token) → (b : Bool) × Reads b p t q
    → Contains (next_at p) (t, q)
read_listed p q t (b, r) = contains (reads_among b p q t r)

pub listed_read : (p q : Point) (t : Token) → Contains (next_at p) (t, q)
    → (b : Bool) × Reads b p t q
listed_read p q t c = let r = among_reads p (t, q) (among (t, q) (next_at p) c) in (r.operand, r.reads)
