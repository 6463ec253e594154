-- Tables of modes, and the names that are put at their end.
use Rattle.std.proofs.Common.{◌≡◌, ℕ, List, [], ◌∷◌, ◌++◌, Bool, true, false, cond, Option, Some}
use Rattle.std.proofs.Common.{None, ◌⊎◌, inl, inr, refl, sym, subst, ◌∙◌, codes}
use Rattle.std.proofs.lemmas.Bool.{and_from}
use Rattle.std.proofs.lemmas.List.Folds.{list_all-append}
use Rattle.std.specs.Prelude.{⊤}
use Rattle.std.specs.List.{list_all, list_any}
use Rattle.xt_names.specs.declared.codes.Code.{Code}
use Rattle.xt_names.specs.declared.codes.SheetStaticCode.{SheetStaticCode}
use Rattle.xt_names.specs.declared.codes.SheetStaticCode.TheVariants.{XTSE0020, XTSE0550}
use Rattle.xt_names.specs.declared.names.Binding.{Binding}
use Rattle.xt_names.specs.declared.names.ExprName.{ExprName}
use Rattle.xt_tree.specs.declared.attributes.Attribute.{Attribute}
use Rattle.closed_queries.specs.Texts.{is_sound_expr_name}
use Rattle.closed_sheets.specs.Sheets.{are_sound_modes}
use Rattle.query_options.specs.Words.{words_of}
use Rattle.sheet_table.specs.Attributes.{attribute}
use Rattle.sheet_table.specs.declared.elements.XslElement.{XslElement}
use Rattle.sheet_table.specs.declared.elements.XslElement.TheVariants as element
use Rattle.sheet_values.specs.SheetTexts.Names.{with_name}
use Rattle.sheet_values.specs.Modes.{are_all, default_mode, is_current, is_default, mode_broken}
use Rattle.sheet_values.specs.Modes.{mode_meant, modes_in, named_broken, one_broken, one_meant}
use Rattle.sheet_values.specs.Modes.{word_broken, word_meant, words_broken, words_meant}
use Rattle.sheet_values.specs.Names.{declared_faults, qname_value}
use Rattle.sheet_values.specs.Rules.{each}
use Rattle.sheet_values.specs.declared.modes.ModeChoice.TheVariants.{Current, Named}
use Rattle.sheet_values.specs.declared.modes.Modes.TheVariants.{All, Names}
use Rattle.sound_expressions.specs.SoundForms.Sound.{SoundBindings}
use Rattle.closed_texts.proofs.ClosedNames.Names.{declared_sound}
use Rattle.module_loading.specs.ModuleReader.Mentions.{chosen, chosen_mode, kept, listed, listed_modes, own_names}
use Rattle.module_loading.specs.ModuleReader.Mentions.{with_names}
use Rattle.module_loading.specs.declared.module_reader.mentions.Mention.TheVariants as mention
use Rattle.xt_names.specs.ExprNames.{same_name}
use Rattle.xt_names.proofs.ListLemmas.{front_nil, back_nil}

-- the default mode comes first, and the others have sound names
abbrev pub GoodTable : List ExprName → Type 0
GoodTable [] = ⊥
GoodTable (d ∷ ms) = (d ≡ default_mode) × (list_all is_sound_expr_name ms ≡ true)

pub modes_sound : (table : List ExprName) → GoodTable table → are_sound_modes table ≡ true
unfolding are_sound_modes
modes_sound [] t = absurd t
modes_sound (d ∷ ms) t = t.1

abbrev pub IsMode : ExprName → Type 0
IsMode name = (name ≡ default_mode) ⊎ (is_sound_expr_name name ≡ true)

abbrev pub AreModes : List ExprName → Type 0
AreModes [] = ⊤
AreModes (n ∷ ns) = IsMode n × AreModes ns

-- the default mode is there
default_there : (d : ExprName) (ms : List ExprName) → d ≡ default_mode
    → list_any (same_name default_mode) (d ∷ ms) ≡ true
default_there d ms e = rw (e) refl

put_good : (table : List ExprName) (name : ExprName) → GoodTable table → IsMode name
    → GoodTable (with_name table name)
put_good [] name t m = absurd t
put_good (d ∷ ms) name t (inl e) =
    subst (λ n. GoodTable (with_name (d ∷ ms) n)) (sym e)
    (subst (λ b. GoodTable (cond b (d ∷ ms) (d ∷ (ms ++ default_mode ∷ []))))
    (sym (default_there d ms t.0)) t)
put_good (d ∷ ms) name t (inr h) = go (list_any (same_name name) (d ∷ ms))
  where
    go : (b : Bool) → GoodTable (cond b (d ∷ ms) (d ∷ (ms ++ name ∷ [])))
    go true = t
    go false = (
      t.0,
      list_all-append is_sound_expr_name ms (name ∷ [])
          ∙ and_from (list_all is_sound_expr_name ms) _ t.1
          (and_from (is_sound_expr_name name) _ h refl),
    )

pub all_put : (table names : List ExprName) → GoodTable table → AreModes names
    → GoodTable (with_names table names)
all_put table [] t m = t
all_put table (n ∷ ns) t m = all_put (with_name table n) ns (put_good table n t m.0) m.1

module _ (bound : List Binding) (u : SoundBindings bound) where
  meant_mode : (code : SheetStaticCode) (word : List ℕ) → mode_broken code bound word ≡ []
      → IsMode (mode_meant bound word)
  meant_mode code word f = go (is_default word) f
    where
      go : (b : Bool) → cond b [] (declared_faults code bound word) ≡ []
          → IsMode (cond b default_mode (qname_value bound word))
      go true f = inl refl
      go false f = inr (declared_sound code bound word u f)

  each_mode : (words : List (List ℕ)) → each (mode_broken XTSE0550 bound) words ≡ []
      → AreModes (modes_in bound words)
  each_mode [] f = tt
  each_mode (w ∷ ws) f = (
    meant_mode XTSE0550 w (front_nil (mode_broken XTSE0550 bound w) _ f),
    each_mode ws (back_nil (mode_broken XTSE0550 bound w) _ f),
  )

  words_modes : (words : List (List ℕ)) → words_broken bound words ≡ []
      → AreModes (listed (Some (words_meant bound words)))
  words_modes [] f = absurd cc
  words_modes (w ∷ ws) f = go (are_all (w ∷ ws)) f
    where
      go : (b : Bool) → cond b [] (named_broken bound (w ∷ ws)) ≡ []
          → AreModes (listed (Some (cond b All (Names (modes_in bound (w ∷ ws))))))
      go true f = tt
      go false f = each_mode (w ∷ ws) (front_nil (each (mode_broken XTSE0550 bound) (w ∷ ws)) _ f)

  listed_good : (o : Option (List ℕ)) → AreModes (listed_modes bound o)
  listed_good None = tt
  listed_good (Some text) = go (words_broken bound (words_of text)) refl
    where
      go : (cs : List Code) → words_broken bound (words_of text) ≡ cs
          → AreModes (listed (kept cs (words_meant bound (words_of text))))
      go [] e = words_modes (words_of text) e
      go (c ∷ cs) e = tt

  word_mode : (word : List ℕ) → word_broken bound word ≡ []
      → AreModes (chosen (Some (word_meant bound word)))
  word_mode word f = go (is_current word) f
    where
      go : (b : Bool) → cond b [] (mode_broken XTSE0020 bound word) ≡ []
          → AreModes (chosen (Some (cond b Current (Named (mode_meant bound word)))))
      go true f = tt
      go false f = (meant_mode XTSE0020 word f, tt)

  one_mode : (words : List (List ℕ)) → one_broken bound words ≡ []
      → AreModes (chosen (Some (one_meant bound words)))
  one_mode [] f = tt
  one_mode (w ∷ []) f = word_mode w f
  one_mode (w ∷ v ∷ ws) f = tt

  chosen_good : (o : Option (List ℕ)) → AreModes (chosen_mode bound o)
  chosen_good None = tt
  chosen_good (Some text) = go (one_broken bound (words_of text)) refl
    where
      go : (cs : List Code) → one_broken bound (words_of text) ≡ cs
          → AreModes (chosen (kept cs (one_meant bound (words_of text))))
      go [] e = one_mode (words_of text) e
      go (c ∷ cs) e = tt

  pub own_good : (e : Option XslElement) (attributes : List Attribute)
      → AreModes (own_names mention.Modes e bound attributes)
  own_good None attributes = tt
  own_good (Some element.Template) attributes = listed_good (attribute attributes (codes "mode"))
  own_good (Some element.ApplyTemplates) attributes =
      chosen_good (attribute attributes (codes "mode"))
  own_good (Some _) attributes = tt
