-- The text of tokens where it is told what comes before each of them, and that a text is one of
-- the texts of tokens (XQuery 1.0, A.2).
use Rattle.std.specs.Prelude.{◌≡◌, ℕ, ◌-◌, List, length, get_or}
use Rattle.expr_keys.specs.declared.tokens.Token.{Token}
use Rattle.query_pages.specs.TokenTexts.Texts.{Layout, IsLayout, text_of}
use Rattle.query_pages.specs.declared.gaps.Gap.{Gap}
use Rattle.query_pages.specs.declared.gaps.Gap.TheVariants as gap
use Rattle.query_pages.specs.Gaps.{gap_text}

-- a space where nothing is told
abbrev pub gap_at : List Gap → ℕ → List ℕ
gap_at gs n = gap_text (get_or gs n gap.Space)

-- the layout of a text of so many tokens that has these gaps before them
abbrev pub laid : ℕ → List Gap → Layout
laid n gs ts = gap_at gs (n - length ts)

-- the text is that of the tokens, with some white space between them
pub record IsTextOf (ts : List Token) (text : List ℕ) : Type 0 where
  pub layout : Layout
  pub spaced : IsLayout layout
  pub same : text ≡ text_of layout ts
