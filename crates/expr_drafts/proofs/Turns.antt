-- Lists whose tokens are put from the last item on.
use Rattle.std.proofs.Common.{◌≡◌, ◌<◌, ◌≤◌, ℕ, ◌+◌, ◌-◌, List, [], ◌∷◌, length}
use Rattle.std.proofs.Common.{drop, map, get_or, refl, ap, ap₂, sym, ◌∙◌, arith, length-drop}
use Rattle.std.proofs.lemmas.List.{at_drop_more, drop_all}
use Rattle.expr_keys.specs.declared.keys.Key.TheVariants as key
use Rattle.expr_keys.specs.declared.tokens.Token.{Token}
use Rattle.expr_keys.specs.declared.tokens.Token.TheVariants as token

-- what stands from one place on
pub from_place : {A : Type 0} {B : Type 0} (F : List A → B) (xs : List A) (i : ℕ) (d : A) → 0 < i
    → i ≤ length xs → F (drop (i - 1) xs) ≡ F (get_or xs (i - 1) d ∷ drop i xs)
from_place F xs i d o h =
    let lt : i - 1 < length xs = omega arith in
    let s : i - 1 + 1 ≡ i = omega arith in
    at_drop_more F xs (i - 1) d lt
    ∙ ap (λ (n : ℕ). F (get_or xs (i - 1) d ∷ drop n xs)) s

-- no item
pub start : {A : Type 0} {B : Type 0} (f : A → B) (F : List B → List Token → List Token)
    (xs : List A) (ts : List Token) → F [] ts ≡ ts → ts ≡ F (map f (drop (length xs) xs)) ts
start {A = A} f F xs ts e =
    let h : length xs ≤ length xs = omega arith in
    sym (ap (λ (ys : List A). F (map f ys) ts) (drop_all (length xs) xs h) ∙ e)

module _ {A : Type 0} {B : Type 0} (f : A → B) (F : List B → List Token → List Token)
    (G : B → List Token → List Token)
    (many : (b : B) (bs : List B) (ts : List Token) → F (b ∷ bs) ts ≡ G b (F bs ts))
  where
    -- an item more
    pub turn : (xs : List A) (i : ℕ) (x d : A) (page new ts : List Token) → 0 < i
        → i ≤ length xs → x ≡ get_or xs (i - 1) d → page ≡ F (map f (drop i xs)) ts
        → new ≡ G (f x) page → new ≡ F (map f (drop (i - 1) xs)) ts
    turn xs i x d page new ts o h e p n =
        n ∙ (ap₂ G (ap f e) p
        ∙ (sym (many (f (get_or xs (i - 1) d)) (map f (drop i xs)) ts)
        ∙ sym (from_place (λ ys. F (map f ys) ts) xs i d o h)))

module _ {A : Type 0} {B : Type 0} (f : A → B) (F : List B → List Token → List Token)
    (G : B → List Token → List Token)
    (none : (ts : List Token) → F [] ts ≡ ts)
    (one : (b : B) (ts : List Token) → F (b ∷ []) ts ≡ G b ts)
    (more : (b c : B) (bs : List B) (ts : List Token)
    → F (b ∷ c ∷ bs) ts ≡ G b (token.Key key.Comma ∷ F (c ∷ bs) ts))
  where
    between : (b : B) (ys : List A) (page mid ts : List Token) → page ≡ F (map f ys) ts
        → (0 < length ys → mid ≡ token.Key key.Comma ∷ page) → (length ys ≡ 0 → mid ≡ page)
        → G b mid ≡ F (b ∷ map f ys) ts
    between b [] page mid ts p m l =
        ap (G b) (l refl ∙ (p ∙ none ts)) ∙ sym (one b ts)
    between b (y ∷ ys) page mid ts p m l =
        ap (G b) (m (omega arith) ∙ ap (λ us. token.Key key.Comma ∷ us) p)
        ∙ sym (more b (f y) (map f ys) ts)

    -- .. with a comma between it and the next
    pub comma_turn : (xs : List A) (i : ℕ) (x d : A) (page mid new ts : List Token) → 0 < i
        → i ≤ length xs → x ≡ get_or xs (i - 1) d → page ≡ F (map f (drop i xs)) ts
        → (i - 1 + 1 < length xs → mid ≡ token.Key key.Comma ∷ page)
        → (length xs ≤ i - 1 + 1 → mid ≡ page) → new ≡ G (f x) mid
        → new ≡ F (map f (drop (i - 1) xs)) ts
    comma_turn xs i x d page mid new ts o h e p m l n =
        let s : length (drop i xs) ≡ length xs - i = length-drop i xs in
        n ∙ (ap (λ b. G b mid) (ap f e)
        ∙ (between (f (get_or xs (i - 1) d)) (drop i xs) page mid ts p
        (λ z. m (omega arith)) (λ z. l (omega arith))
        ∙ sym (from_place (λ ys. F (map f ys) ts) xs i d o h)))

-- all items
pub finish : {A : Type 0} {B : Type 0} (f : A → B) (F : List B → List Token → List Token)
    (xs : List A) (i : ℕ) (page ts : List Token) → i ≤ 0 → page ≡ F (map f (drop i xs)) ts
    → page ≡ F (map f xs) ts
finish f F xs i page ts h e =
    let z : i ≡ 0 = omega arith in
    e ∙ ap (λ (n : ℕ). F (map f (drop n xs)) ts) z
