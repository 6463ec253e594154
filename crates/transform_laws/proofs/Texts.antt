-- Texts of instructions are carried where their parts are.
use Rattle.std.proofs.Common.{◌≡◌, ◌++◌, ◌∙◌, ℕ, List, [], length, refl, subst}
use Rattle.std.proofs.lemmas.Bool.{and_from}
use Rattle.std.proofs.lemmas.List.Folds.{list_all-append}
use Rattle.std.specs.Prelude.{◌^◌, Bool, true, false, if◌then◌else◌, nat_lt, Option, Some, None}
use Rattle.std.specs.Prelude.{Ok, Err}
use Rattle.xt_names.specs.Classes.{is_in_ranges, is_xml_text, xml_char_ranges}
use Rattle.xt_names.specs.declared.codes.Code.TheVariants.{Dynamic}
use Rattle.xt_names.specs.declared.codes.DynamicCode.TheVariants.{FOAR0002}
use Rattle.xdm_items.specs.declared.items.Item.{Item}
use Rattle.node_builder.specs.Simple.{simple_content}
use Rattle.expr_meaning.specs.Outcomes.Outcome.{Ends, Every}
use Rattle.expr_meaning.specs.Env.{Env, Meaning}
use Rattle.expr_laws.specs.Carrier.{Carrier, IsText, OnValue}
use Rattle.expr_laws.proofs.Steps.{same_step}
use Rattle.transform_meaning.specs.Texts.{TextMeaning, has_text_node, simple_text, source_of, space}
use Rattle.transform_meaning.specs.Texts.{separator_of, text_of_source, PartMeaning, chars}
use Rattle.transform_meaning.specs.Texts.{enclosed, part_text, template_text}
use Rattle.transform_laws.specs.Meets.{AtPlaces, MeaningsMeet, SheetsMake}
use Rattle.transform_laws.proofs.Lists.{IfBoth, Pairs, each_pair}

abbrev pub TextsMeet : Carrier → TextMeaning → TextMeaning → Type 0
TextsMeet c t u =
    (e f : Env) → AtPlaces c e f → (k : ℕ) → c.rel (List ℕ) (IsText c) (t e k) (u f k)

abbrev pub PartsMeet : Carrier → PartMeaning → PartMeaning → Type 0
PartsMeet c (chars a) (chars b) = (a ≡ b) × IsText c a
PartsMeet c (chars a) (enclosed n) = ⊥
PartsMeet c (enclosed m) (chars b) = ⊥
PartsMeet c (enclosed m) (enclosed n) = MeaningsMeet c m n

module _ (c : Carrier) where
  pub no_text : IsText c []
  unfolding is_xml_text
  no_text s = refl

  pub space_text : IsText c space
  unfolding is_xml_text is_in_ranges
  space_text s = refl

  pub joined_text : (t u : List ℕ) → IsText c t → IsText c u → IsText c (t ++ u)
  unfolding is_xml_text
  joined_text t u g h s =
      list_all-append (is_in_ranges xml_char_ranges) t u
      ∙ and_from (is_xml_text t) (is_xml_text u) (g s) (h s)

  pub source_meets : (a b : Option Meaning) → IfBoth (MeaningsMeet c) a b → (m n : Meaning) →
      MeaningsMeet c m n →
      MeaningsMeet c (source_of a m) (source_of b n)
  source_meets None None h m n g = g
  source_meets None (Some b) h m n g = absurd h
  source_meets (Some a) None h m n g = absurd h
  source_meets (Some a) (Some b) h m n g = h

  pub separator_meets : (a b : Option Meaning) → IfBoth (MeaningsMeet c) a b →
      (t u : Option TextMeaning) → IfBoth (TextsMeet c) t u → TextsMeet c (separator_of a t) (separator_of b u)
  separator_meets None None h None None g e f s k = c.carries.ends _ (IsText c) [] k no_text
  separator_meets None None h None (Some u) g e f s k = absurd g
  separator_meets None None h (Some t) None g e f s k = absurd g
  separator_meets None None h (Some t) (Some u) g e f s k = g e f s k
  separator_meets None (Some b) h t u g e f s k = absurd h
  separator_meets (Some a) None h t u g e f s k = absurd h
  separator_meets (Some a) (Some b) h None None g e f s k =
      c.carries.ends _ (IsText c) space k space_text
  separator_meets (Some a) (Some b) h None (Some u) g e f s k = absurd g
  separator_meets (Some a) (Some b) h (Some t) None g e f s k = absurd g
  separator_meets (Some a) (Some b) h (Some t) (Some u) g e f s k = g e f s k

  module _ (makes : SheetsMake c) where
    pub simple_known : (separator : List ℕ) (xs : List Item) → IsText c separator →
        Every c.good xs → OnValue (IsText c) (simple_text separator xs)
    unfolding simple_text
    simple_known separator xs h g = by (has_text_node xs) (nat_lt (length xs) (2 ^ 63))
      where
        by : (b d : Bool) → OnValue (IsText c)
            (if b then (if d then Ok (simple_content separator xs) else Err (Dynamic FOAR0002))
            else Ok (simple_content separator xs))
        by true true = makes.simple separator xs h g
        by true false = tt
        by false d = makes.simple separator xs h g

    pub source_text_meets : (a b : Option Meaning) → IfBoth (MeaningsMeet c) a b → (m n : Meaning) →
        MeaningsMeet c m n → (t u : Option TextMeaning) → IfBoth (TextsMeet c) t u →
        TextsMeet c (text_of_source a m t) (text_of_source b n u)
    source_text_meets a b h m n i t u g e f s k =
        c.carries.next _ _ (Every c.good) (IsText c) (source_of a m e k) (source_of b n f k) _ _
        (source_meets a b h m n i e f s k) (λ xs j gx.
        c.carries.next _ _ (IsText c) (IsText c) (separator_of a t e j) (separator_of b u f j) _ _
        (separator_meets a b h t u g e f s j) (λ v l gv.
        same_step c (IsText c) (simple_text v xs) (simple_known v xs gv gx) l))

    part_meets : (x y : PartMeaning) → PartsMeet c x y → (e f : Env) → AtPlaces c e f → (k : ℕ) →
        c.rel (List ℕ) (IsText c) (part_text e x k) (part_text f y k)
    part_meets (chars a) (chars b) h e f s k =
        subst (λ t. c.rel (List ℕ) (IsText c) (Ends a k) (Ends t k)) h.0
        (c.carries.ends _ (IsText c) a k h.1)
    part_meets (chars a) (enclosed n) h e f s k = absurd h
    part_meets (enclosed m) (chars b) h e f s k = absurd h
    part_meets (enclosed m) (enclosed n) h e f s k =
        c.carries.next _ _ (Every c.good) (IsText c) (m e k) (n f k) _ _ (h e f s k) (λ xs j g.
        same_step c (IsText c) (simple_text space xs) (simple_known space xs space_text g) j)

    pub template_meets : (xs ys : List PartMeaning) → Pairs (PartsMeet c) xs ys →
        TextsMeet c (template_text xs) (template_text ys)
    template_meets xs ys h e f s k =
        each_pair c (PartsMeet c) (IsText c) no_text joined_text (part_text e) (part_text f)
        (λ x y p i. part_meets x y p e f s i) xs ys h k
