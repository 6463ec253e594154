-- What the parts of one document share, with one name more.
use Rattle.std.proofs.Common.{◌≡◌, ℕ, List, Bool, true, false, Option, Some, refl, sym, ap, ◌∙◌}
use Rattle.std.proofs.lemmas.Option.{same_Some}
use Rattle.std.proofs.lemmas.Slice.Eq.{bytes_eq-Decides}
use Rattle.std.specs.Map.{update}
use Rattle.std.specs.Str.{chars, bytes_eq}
use Rattle.xt_tree.specs.declared.attributes.Attribute.{Attribute}
use Rattle.xt_tree.specs.Forest.{Forest}
use Rattle.doc_reader.specs.Pools.{IsPool}

pub pool_more : (empty : List ℕ) (attributes : List Attribute) (kids : Forest) (found found' : List ℕ → Option (List ℕ)) (key text : List ℕ) → IsPool empty attributes kids found → text ≡ chars key
    → ((p : List ℕ) → found' p ≡ update bytes_eq found key (Some text) p) → IsPool empty attributes kids found'
pool_more empty attributes kids found found' key text i t more = record {
  no_text = i.no_text;
  no_attributes = i.no_attributes;
  no_kids = i.no_kids;
  texts = λ bytes made e. go bytes made (bytes_eq key bytes) refl (sym (more bytes) ∙ e);
}
  where
    go : (bytes made : List ℕ) (q : Bool) → bytes_eq key bytes ≡ q → update bytes_eq found key (Some text) bytes ≡ Some made → made ≡ chars bytes
    go bytes made true q e =
        let same : key ≡ bytes = (bytes_eq-Decides key bytes).0 q in
        let is : Some text ≡ Some made = rw q at e in
        sym (same_Some _ _ is) ∙ t ∙ ap chars same
    go bytes made false q e = i.texts bytes made (rw q at e)
