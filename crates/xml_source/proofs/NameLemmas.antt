-- Names that are taken, in the grammar.
use Rattle.std.proofs.Common.{◌≡◌, ℕ, List, [], ◌∷◌, ◌++◌, length, Bool, true, false, Option, Some, MatchBool, refl, sym, ap, ◌∙◌, append-nil, append_assoc, arith}
use Rattle.std.proofs.lemmas.Bool.{ne_eqb}
use Rattle.std.proofs.lemmas.Str.{chars-nil, chars_past_char}
use Rattle.std.specs.Char.{encode_utf8}
use Rattle.std.specs.Str.{chars, IsUtf8}
use Rattle.doc_grammar.specs.Characters.{is_colon}
use Rattle.doc_grammar.specs.RawNames.{plain_name, prefixed_name, written_behind}
use Rattle.doc_grammar.specs.Lexemes.{NCName}
use Rattle.doc_grammar.specs.Document.{QName}
use Rattle.doc_grammar.specs.Document as doc
use Rattle.xml_source.specs.Sources.{DiffersAt}
use Rattle.xt_names.specs.Characters.{Ends, NotNext}

no_colon : (ts : List ℕ) → NotNext 58 ts → Ends is_colon ts
no_colon [] n = tt
no_colon (c ∷ cs) n = ne_eqb c 58 (λ same. n (sym same))

pub plain : (old name mid new : List ℕ) → NCName old name mid → (new ≡ mid) × NotNext 58 mid → QName old (plain_name name) new
plain old name mid new n e = rw e.0 (doc.plain n (no_colon mid e.1))

pub prefixed : (old prefix mid after local new : List ℕ) → NCName old prefix mid → mid ≡ 58 ∷ after → NCName after local new → QName old (prefixed_name prefix local) new
prefixed old prefix mid after local new n e l = doc.prefixed (rw e at n) l

-- the text of a name that is taken

pub taken_none : (text yielded rest : List ℕ) → chars text ≡ yielded ++ chars rest → length rest ≡ 0 → chars text ≡ yielded
taken_none text yielded [] e h = e ∙ ap (λ (x : List ℕ). yielded ++ x) chars-nil ∙ append-nil yielded
taken_none text yielded (b ∷ bs) e h = absurd (omega arith)

pub split_more : (text yielded rest rest' : List ℕ) (c : ℕ) → chars text ≡ yielded ++ chars rest → IsUtf8 rest → rest ≡ encode_utf8 c ++ rest' → chars text ≡ yielded ++ c ∷ chars rest'
split_more text yielded rest rest' c e u s = e ∙ ap (λ (x : List ℕ). yielded ++ x) (chars_past_char rest rest' c u s)

pub differs : (text yielded rest rest' old now new : List ℕ) (c : ℕ) → chars text ≡ yielded ++ chars rest → IsUtf8 rest → rest ≡ encode_utf8 c ++ rest' → old ≡ yielded ++ now → (new ≡ now) × NotNext c now → DiffersAt (chars text) old new
differs text yielded rest rest' old now new c e u s o n = record {
  read = yielded;
  next = c;
  more = chars rest';
  is_whole = split_more text yielded rest rest' c e u s;
  is_old = rw n.0 o;
  not_next = rw n.0 n.1;
}

pub ended_name : (r : Bool) (q : Option (List ℕ)) (p l old mid after new : List ℕ) → q ≡ Some p → old ≡ p ++ mid → mid ≡ 58 ∷ after → MatchBool r (after ≡ l ++ new) (DiffersAt l after new)
    → MatchBool r (old ≡ written_behind q l ++ new) (DiffersAt (written_behind q l) old new)
ended_name true q p l old mid after new s o m a = rw (s, o, m, a) (sym (append_assoc p (58 ∷ l) new))
ended_name false q p l old mid after new s o m a = rw s (record {
  read = p ++ 58 ∷ a.read;
  next = a.next;
  more = a.more;
  is_whole = rw (a.is_whole, append_assoc p (58 ∷ a.read) (a.next ∷ a.more)) refl;
  is_old = rw (o, m, a.is_old, append_assoc p (58 ∷ a.read) new) refl;
  not_next = a.not_next;
})
