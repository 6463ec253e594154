-- Moves that take several steps.
use Rattle.std.proofs.Common.{◌≡◌, ℕ, zero, suc, ◌+◌, ◌-◌, ◌<◌, ◌≤◌, List, [], ◌∷◌, ◌++◌, length, take, true, false, refl, sym, ap, subst, ◌∙◌, arith, length-append}
use Rattle.std.proofs.lemmas.Bool.{both_ways, false_from_ne_true}
use Rattle.xt_tree.specs.declared.trees.Tree.{Tree}
use Rattle.node_axes.specs.Paths.{Stands, before, above, same, below, after, stands, is_before_all, is_earlier, is_not_later, is_over, has_path}
use Rattle.node_axes.specs.Moves.{count_at, Down, Skips, AllBehind, Backs, NoneBack}
use Rattle.node_axes.proofs.PathLemmas.{flip, stands-flip, cmp_less, cmp_equal, stands-append, same_is, last_child, next_child, first_child, leaf, kid_within, child_before, parent_before}
use Rattle.node_axes.proofs.MoveLemmas.{has_begin, has_kid}

pub before_is_earlier : (s : Stands) → is_before_all s ≡ true → is_earlier s ≡ true
before_is_earlier before h = refl
before_is_earlier above h = cc
before_is_earlier same h = cc
before_is_earlier below h = cc
before_is_earlier after h = cc

pub earlier_is_not_later : (s : Stands) → is_earlier s ≡ true → is_not_later s ≡ true
earlier_is_not_later before h = refl
earlier_is_not_later above h = refl
earlier_is_not_later same h = cc
earlier_is_not_later below h = cc
earlier_is_not_later after h = cc

pub over_is_not_later : (s : Stands) → is_over s ≡ true → is_not_later s ≡ true
over_is_not_later before h = cc
over_is_not_later above h = refl
over_is_not_later same h = refl
over_is_not_later below h = cc
over_is_not_later after h = cc

not_over : (s : Stands) → is_earlier s ≡ true → is_over s ≡ false → is_before_all s ≡ true
not_over before h o = refl
not_over above h o = cc
not_over same h o = cc
not_over below h o = cc
not_over after h o = cc

take_all : (xs : List ℕ) (n : ℕ) → length xs ≤ n → take n xs ≡ xs
take_all [] zero h = refl
take_all [] (suc n) h = refl
take_all (x ∷ xs) zero h = absurd (omega arith)
take_all (x ∷ xs) (suc n) h = ap (λ (z : List ℕ). x ∷ z) (take_all xs n (omega arith))

take_begin : (n : ℕ) (xs ys : List ℕ) → n ≤ length xs → take n (xs ++ ys) ≡ take n xs
take_begin zero xs ys h = refl
take_begin (suc n) [] ys h = absurd (omega arith)
take_begin (suc n) (x ∷ xs) ys h = ap (λ (z : List ℕ). x ∷ z) (take_begin n xs ys (omega arith))

pub stands-same : (p : List ℕ) → stands p p ≡ same
unfolding stands
stands-same [] = refl
stands-same (i ∷ p) = rw (cmp_equal i) (stands-same p)

pub stands-longer : (p : List ℕ) (j : ℕ) (r : List ℕ) → stands p (p ++ j ∷ r) ≡ above
unfolding stands
stands-longer [] j r = refl
stands-longer (i ∷ p) j r = rw (cmp_equal i) (stands-longer p j r)

next_is_before : (i : ℕ) → stands (i ∷ []) ((i + 1) ∷ []) ≡ before
unfolding stands
next_is_before i = let l : i < i + 1 = omega arith in rw (cmp_less i (i + 1) l) refl

pub next_stands : (q : List ℕ) (i : ℕ) → stands (q ++ i ∷ []) (q ++ (i + 1) ∷ []) ≡ before
next_stands q i = stands-append q (i ∷ []) ((i + 1) ∷ []) ∙ next_is_before i

pub record Climb (t : Tree) (base : ℕ) (old now : List ℕ) : Type 0 where
  pub exists : has_path t now ≡ true
  pub long : base ≤ length now
  pub within : take base now ≡ take base old
  pub behind : (m : List ℕ) → has_path t m ≡ true → is_before_all (stands old m) ≡ is_before_all (stands now m)

pub climb_start : (t : Tree) (base : ℕ) (old : List ℕ) → has_path t old ≡ true → base ≤ length old → Climb t base old old
climb_start t base old h l = record { exists = h; long = l; within = refl; behind = λ m g. refl }

pub climb_more : (t : Tree) (base : ℕ) (old now rest : List ℕ) (i : ℕ) → Climb t base old now → now ≡ rest ++ i ∷ [] → base < length now → count_at t rest ≤ i + 1 → Climb t base old rest
climb_more t base old now rest i c e l n =
    let k : length now ≡ length rest + 1 = ap length e ∙ length-append rest (i ∷ []) in
    let b : base ≤ length rest = omega arith in record {
      exists = has_begin t rest (i ∷ []) (subst (λ z. has_path t z ≡ true) e c.exists);
      long = b;
      within = sym (take_begin base rest (i ∷ []) b) ∙ sym (ap (take base) e) ∙ c.within;
      behind = λ m g. c.behind m g ∙ ap (λ z. is_before_all (stands z m)) e ∙ last_child t rest m i n g;
    }

pub climb_found : (t : Tree) (base : ℕ) (old now rest new : List ℕ) (i : ℕ) → Climb t base old now → now ≡ rest ++ i ∷ [] → base < length now → i + 1 < count_at t rest
    → new ≡ rest ++ (i + 1) ∷ [] → Skips is_before_all t base old new
climb_found t base old now rest new i c e l n f =
    let k : length now ≡ length rest + 1 = ap length e ∙ length-append rest (i ∷ []) in
    let k' : length new ≡ length rest + 1 = ap length f ∙ length-append rest ((i + 1) ∷ []) in
    let b : base ≤ length rest = omega arith in
    let h : has_path t new ≡ true = subst (λ z. has_path t z ≡ true) (sym f) (has_kid t rest (i + 1) n) in record {
      exists = h;
      longer = omega arith;
      within = ap (take base) f ∙ take_begin base rest ((i + 1) ∷ []) b ∙ sym (take_begin base rest (i ∷ []) b) ∙ sym (ap (take base) e) ∙ c.within;
      passes = c.behind new h ∙ ap (λ z. is_before_all (stands z new)) e ∙ ap (λ z. is_before_all (stands (rest ++ i ∷ []) z)) f ∙ ap is_before_all (next_stands rest i);
      first = λ m g a.
          let u : is_before_all (stands (rest ++ i ∷ []) m) ≡ true = sym (ap (λ z. is_before_all (stands z m)) e) ∙ sym (c.behind m g) ∙ a in
          ap (λ z. is_earlier (stands m z)) f ∙ next_child rest m i u;
    }

pub climb_end : (t : Tree) (base : ℕ) (old now : List ℕ) → Climb t base old now → length now ≤ base → AllBehind is_before_all t base old
climb_end t base old now c l m g a =
    let e : take base old ≡ now = sym c.within ∙ take_all now base l in
    ap (λ z. is_before_all (stands z m)) e ∙ sym (c.behind m g) ∙ a

-- down, or after a node without children
pub on_down : (t : Tree) (base : ℕ) (old new : List ℕ) → base ≤ length old → Down t old new → Skips is_earlier t base old new
on_down t base old new l d =
    let k : length new ≡ length old + 1 = ap length d.to ∙ length-append old (0 ∷ []) in record {
      exists = d.exists;
      longer = omega arith;
      within = ap (take base) d.to ∙ take_begin base old (0 ∷ []) l;
      passes = ap (λ z. is_earlier (stands old z)) d.to ∙ ap is_earlier (stands-longer old 0 []);
      first = λ m g a. ap (λ z. is_earlier (stands m z)) d.to ∙ first_child old m a;
    }

pub on_skip : (t : Tree) (base : ℕ) (old new : List ℕ) → count_at t old ≡ 0 → Skips is_before_all t base old new → Skips is_earlier t base old new
on_skip t base old new n s = record {
  exists = s.exists;
  longer = s.longer;
  within = s.within;
  passes = before_is_earlier (stands old new) s.passes;
  first = λ m g a. s.first m g (sym (leaf t old m n g) ∙ a);
}

pub on_end : (t : Tree) (base : ℕ) (old : List ℕ) → count_at t old ≡ 0 → AllBehind is_before_all t base old → AllBehind is_earlier t base old
on_end t base old n s m g a = s m g (sym (leaf t old m n g) ∙ a)

-- down to the last node
pub record Sinks (t : Tree) (old now : List ℕ) : Type 0 where
  pub exists : has_path t now ≡ true
  pub behind : (m : List ℕ) → has_path t m ≡ true → is_before_all (stands now m) ≡ is_before_all (stands old m)

pub sink_start : (t : Tree) (old : List ℕ) → has_path t old ≡ true → Sinks t old old
sink_start t old h = record { exists = h; behind = λ m g. refl }

pub sink_more : (t : Tree) (old now new : List ℕ) (n : ℕ) → Sinks t old now → n ≡ count_at t now → 0 < n → new ≡ now ++ (n - 1) ∷ [] → Sinks t old new
sink_more t old now new n s e l f =
    let a : n - 1 < count_at t now = omega arith in
    let b : count_at t now ≤ n - 1 + 1 = omega arith in record {
      exists = subst (λ z. has_path t z ≡ true) (sym f) (has_kid t now (n - 1) a);
      behind = λ m g. ap (λ z. is_before_all (stands z m)) f ∙ last_child t now m (n - 1) b g ∙ s.behind m g;
    }

-- back to the node before
pub record Back (t : Tree) (start old now : List ℕ) : Type 0 where
  pub exists : has_path t now ≡ true
  pub clear : is_not_later (stands now start) ≡ true
  pub passes : is_not_later (stands now old) ≡ true
  pub last : (m : List ℕ) → has_path t m ≡ true → is_before_all (stands m start) ≡ true → is_earlier (stands m old) ≡ true → is_earlier (stands m now) ≡ true

pub back_start : (t : Tree) (start old : List ℕ) → has_path t old ≡ true → is_not_later (stands old start) ≡ true → Back t start old old
back_start t start old h c = record { exists = h; clear = c; passes = ap is_not_later (stands-same old); last = λ m g a b. b }

pub back_left : (t : Tree) (start old now rest mid new : List ℕ) (j : ℕ) → has_path t start ≡ true → has_path t old ≡ true → Back t start old now → now ≡ rest ++ (j + 1) ∷ [] → mid ≡ rest ++ j ∷ []
    → Sinks t mid new → count_at t new ≡ 0 → Backs t start old new
back_left t start old now rest mid new j hs ho b e f s n =
    let to : (m : List ℕ) → has_path t m ≡ true → is_before_all (stands new m) ≡ is_before_all (stands (rest ++ j ∷ []) m) = λ m g. s.behind m g ∙ ap (λ z. is_before_all (stands z m)) f in
    let u : is_not_later (stands (rest ++ (j + 1) ∷ []) start) ≡ true = sym (ap (λ z. is_not_later (stands z start)) e) ∙ b.clear in
    let v : is_not_later (stands (rest ++ (j + 1) ∷ []) old) ≡ true = sym (ap (λ z. is_not_later (stands z old)) e) ∙ b.passes in record {
      exists = s.exists;
      clear = to start hs ∙ child_before rest start j u;
      passes = before_is_earlier (stands new old) (to old ho ∙ child_before rest old j v);
      last = λ m g a c. false_from_ne_true (is_earlier (stands new m)) (λ w.
          let x : is_before_all (stands (rest ++ j ∷ []) m) ≡ true = sym (to m g) ∙ sym (leaf t new m n g) ∙ w in
          let y : is_earlier (stands m now) ≡ false = ap (λ z. is_earlier (stands m z)) e ∙ next_child rest m j x in
          both_ways (is_earlier (stands m now)) y (b.last m g a c));
    }

not_first : (t : Tree) (start old now rest : List ℕ) → Back t start old now → now ≡ rest ++ 0 ∷ [] → (m : List ℕ) → has_path t m ≡ true → is_before_all (stands m start) ≡ true
    → is_earlier (stands m old) ≡ true → is_earlier (stands rest m) ≡ false
not_first t start old now rest b e m g a c = false_from_ne_true (is_earlier (stands rest m)) (λ w.
    let y : is_earlier (stands m now) ≡ false = ap (λ z. is_earlier (stands m z)) e ∙ first_child rest m w in
    both_ways (is_earlier (stands m now)) y (b.last m g a c))

pub back_stop : (t : Tree) (start old now rest : List ℕ) → Back t start old now → now ≡ rest ++ 0 ∷ [] → is_over (stands rest start) ≡ false → Backs t start old rest
back_stop t start old now rest b e o = record {
  exists = has_begin t rest (0 ∷ []) (subst (λ z. has_path t z ≡ true) e b.exists);
  clear = not_over (stands rest start) (parent_before rest start 0 (sym (ap (λ z. is_not_later (stands z start)) e) ∙ b.clear)) o;
  passes = parent_before rest old 0 (sym (ap (λ z. is_not_later (stands z old)) e) ∙ b.passes);
  last = λ m g a c. not_first t start old now rest b e m g a c;
}

turned : (s : Stands) → is_earlier s ≡ false → (s ≡ same → ⊥) → is_earlier (flip s) ≡ true
turned before h n = cc
turned above h n = cc
turned same h n = absurd (n refl)
turned below h n = refl
turned after h n = refl

pub apart : (s : Stands) → is_over s ≡ true → is_before_all s ≡ true → ⊥
apart before h b = cc
apart above h b = cc
apart same h b = cc
apart below h b = cc
apart after h b = cc

pub back_more : (t : Tree) (start old now rest : List ℕ) → Back t start old now → now ≡ rest ++ 0 ∷ [] → is_over (stands rest start) ≡ true → Back t start old rest
back_more t start old now rest b e o = record {
  exists = has_begin t rest (0 ∷ []) (subst (λ z. has_path t z ≡ true) e b.exists);
  clear = over_is_not_later (stands rest start) o;
  passes = earlier_is_not_later (stands rest old) (parent_before rest old 0 (sym (ap (λ z. is_not_later (stands z old)) e) ∙ b.passes));
  last = λ m g a c.
      ap is_earlier (stands-flip rest m)
      ∙ turned (stands rest m) (not_first t start old now rest b e m g a c)
      (λ s. apart (stands m start) (subst (λ z. is_over (stands z start) ≡ true) (same_is rest m s) o) a);
}

no_way_back : (m : List ℕ) → is_earlier (stands m []) ≡ false
unfolding stands
no_way_back [] = refl
no_way_back (i ∷ m) = refl

pub back_end : (t : Tree) (start old now : List ℕ) → Back t start old now → now ≡ [] → NoneBack t start old
back_end t start old now b e m g a = false_from_ne_true (is_earlier (stands m old)) (λ w.
    let x : is_earlier (stands m []) ≡ true = subst (λ z. is_earlier (stands m z) ≡ true) e (b.last m g a w) in
    both_ways (is_earlier (stands m [])) (no_way_back m) x)

-- what each loop keeps
pub record Climbing (t : Tree) (base : ℕ) (old now : List ℕ) (room_old room_now : ℕ) : Type 0 where
  pub climb : Climb t base old now
  pub room : room_old ≤ room_now

pub record Sinking (t : Tree) (old now : List ℕ) (count room_old room_now : ℕ) : Type 0 where
  pub sinks : Sinks t old now
  pub counted : count ≡ count_at t now
  pub room : room_old ≤ room_now

pub record Backing (t : Tree) (start old now : List ℕ) (room_old room_now : ℕ) : Type 0 where
  pub back : Back t start old now
  pub room : room_old ≤ room_now

pub mid_exists : (t : Tree) (now rest mid : List ℕ) (i : ℕ) → has_path t now ≡ true → now ≡ rest ++ i ∷ [] → mid ≡ rest ++ (i - 1) ∷ [] → has_path t mid ≡ true
mid_exists t now rest mid i h e f =
    let w = kid_within t rest i [] (subst (λ z. has_path t z ≡ true) e h) in
    subst (λ z. has_path t z ≡ true) (sym f) (has_kid t rest (i - 1) (omega arith))

pub back_left_at : (t : Tree) (start old now rest mid new : List ℕ) (i : ℕ) → has_path t start ≡ true → has_path t old ≡ true → Back t start old now → now ≡ rest ++ i ∷ [] → 0 < i
    → mid ≡ rest ++ (i - 1) ∷ [] → Sinks t mid new → count_at t new ≡ 0 → Backs t start old new
back_left_at t start old now rest mid new i hs ho b e l f s n =
    let p : i ≡ i - 1 + 1 = omega arith in
    back_left t start old now rest mid new (i - 1) hs ho b (e ∙ ap (λ z. rest ++ z ∷ []) p) f s n

pub at_first : (now rest : List ℕ) (i : ℕ) → now ≡ rest ++ i ∷ [] → i ≤ 0 → now ≡ rest ++ 0 ∷ []
at_first now rest i e l = let z : i ≡ 0 = omega arith in e ∙ ap (λ j. rest ++ j ∷ []) z

pub no_length : (xs : List ℕ) → length xs ≡ 0 → xs ≡ []
no_length [] e = refl
no_length (x ∷ xs) e = absurd (omega arith)

pub on_skip_from : (t : Tree) (base : ℕ) (old mid new : List ℕ) → mid ≡ old → count_at t old ≡ 0 → Skips is_before_all t base mid new → Skips is_earlier t base old new
on_skip_from t base old mid new e n s = on_skip t base old new n (subst (λ z. Skips is_before_all t base z new) e s)

pub on_end_from : (t : Tree) (base : ℕ) (old mid : List ℕ) → mid ≡ old → count_at t old ≡ 0 → AllBehind is_before_all t base mid → AllBehind is_earlier t base old
on_end_from t base old mid e n s = on_end t base old n (subst (λ z. AllBehind is_before_all t base z) e s)
