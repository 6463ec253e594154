-- The places of the templates that are called, from the last template to the first.
use Rattle.std.proofs.Common.{◌≡◌, ◌≤◌, ◌<◌, ℕ, suc, ◌+◌, List, [], Option, Some}
use Rattle.std.proofs.Common.{None, nat_eq, if◌then◌else◌, length, drop, get_or, set}
use Rattle.std.proofs.Common.{inl, inr, arith, refl, sym, ap, ◌∙◌, add-one, eq-eqb}
use Rattle.std.proofs.Common.{ne_eqb, lt-ltb, le-ltb, get_or-set_same, get_or-set_other}
use Rattle.std.proofs.lemmas.Bool.{cases_eq, cases_lt}
use Rattle.std.proofs.lemmas.List.{drop_all, length-set, length-replicate, get_or-replicate}
use Rattle.std.proofs.lemmas.List.FromFn.{fill_by_all}
use Rattle.std.specs.Prelude.{replicate}
use Rattle.xt_names.proofs.ListLemmas.{drop_at}
use Rattle.sheet_assembly.specs.Templates.{first_at, places_of, with_place}
use Rattle.sheet_assembly.specs.declared.templates.Standing.{Standing}

-- one more place
put_at : (places : List (Option ℕ)) (n i k : ℕ) → k < length places
    → get_or (with_place places n i) k None ≡ (if nat_eq n k then Some i else get_or places k None)
put_at places n i k less =
    elim (cases_eq n k) [
      | inl e ↦ (let within : n < length places = omega (arith, less, e) in
          rw (lt-ltb n (length places) within, eq-eqb n k e)
          (ap (λ (j : ℕ). get_or (set places n (Some i)) j None) (sym e)
          ∙ get_or-set_same places n (Some i) None within))
      | inr d ↦ elim (cases_lt n (length places)) [
        | inl within ↦ rw (lt-ltb n (length places) within, ne_eqb n k d)
            (get_or-set_other places n k (Some i) None (λ q. d (sym q)))
        | inr over ↦ rw (le-ltb n (length places) over, ne_eqb n k d) refl
      ]
    ]

pub length-with_place : (places : List (Option ℕ)) (n i : ℕ) → length (with_place places n i) ≡ length places
length-with_place places n i =
    elim (cases_lt n (length places)) [
      | inl within ↦ rw (lt-ltb n (length places) within) (length-set places n (Some i))
      | inr over ↦ rw (le-ltb n (length places) over) refl
    ]

-- no template is left, so no number has a place
pub places_long : (places : List (Option ℕ)) (count : ℕ) → places ≡ replicate count None
    → length places ≡ count
places_long places count e = ap length e ∙ length-replicate count None

pub places_start : (ts : List Standing) (places : List (Option ℕ)) (count i : ℕ)
    → places ≡ replicate count None → length ts ≤ i
    → (k : ℕ) → k < count → get_or places k None ≡ first_at k i (drop i ts)
places_start ts places count i e over k less =
    ap (λ (l : List (Option ℕ)). get_or l k None) e
    ∙ (get_or-replicate count k None None less ∙ sym (ap (first_at k i) (drop_all i ts over)))

pub place_turn : (ts : List Standing) (places more : List (Option ℕ)) (count m i : ℕ) (t e : Standing)
    → length places ≡ count → m ≡ i + 1 → i < length ts → t ≡ get_or ts i t → e ≡ get_or ts i t
    → ((k : ℕ) → k < count → get_or places k None ≡ first_at k m (drop m ts))
    → more ≡ with_place places e.number i
    → (k : ℕ) → k < count → get_or more k None ≡ first_at k i (drop i ts)
place_turn ts places more count m i t e long next less is same found put k small =
    let within : k < length places = omega (arith, long, small) in
    let old : get_or places k None ≡ first_at k (suc i) (drop (i + 1) ts) =
    found k small ∙ ap (λ (n : ℕ). first_at k n (drop n ts)) next
    ∙ ap (λ (n : ℕ). first_at k n (drop (i + 1) ts)) (add-one i) in
    let here : e ≡ t = same ∙ sym is in
    ap (λ (l : List (Option ℕ)). get_or l k None)
    (put ∙ ap (λ (x : Standing). with_place places x.number i) here)
    ∙ put_at places t.number i k within
    ∙ ap (λ (o : Option ℕ). if nat_eq t.number k then Some i else o) old
    ∙ sym (ap (first_at k i) (drop_at ts i t less is))

pub places_end : (ts : List Standing) (places : List (Option ℕ)) (count i : ℕ) → i ≡ 0
    → length places ≡ count
    → ((k : ℕ) → k < count → get_or places k None ≡ first_at k i (drop i ts))
    → places ≡ places_of count ts
places_end ts places count i none long found =
    fill_by_all (λ (k : ℕ). first_at k 0 ts) places count None long
    (λ k small. found k small ∙ ap (λ (n : ℕ). first_at k n (drop n ts)) none)
