-- The walk over the links of modules, depth first in their order (XSLT 2.0, 3.10).
use Rattle.std.specs.Prelude.{◌≡◌, ◌≤◌, ◌<◌, ℕ, ◌+◌, List, [], ◌∷◌, ◌++◌, Bool, true, false, ⊤, ◌⊎◌}
use Rattle.std.specs.List.{list_any}
use Rattle.std.specs.Str.{bytes_eq}
use Rattle.xt_names.specs.declared.codes.Code.{Code}
use Rattle.xt_names.specs.declared.codes.Code.TheVariants.{SheetStatic}
use Rattle.xt_names.specs.declared.codes.SheetStaticCode.TheVariants.{XTSE0180, XTSE0210, XTLM0003}
use Rattle.doc_reader.specs.declared.Scoped.{Scoped}
use Rattle.sheet_modules.specs.ModuleNames.Names.{resolved}
use Rattle.sheet_modules.specs.declared.links.Link.{Link}
use Rattle.module_loading.specs.declared.loaded.LoadedModule.{LoadedModule}
use Rattle.module_loading.specs.Held.{Holdings, HoldsModule}
use Rattle.module_loading.specs.Trees.{Modules, none, linked, module_count}

-- how many modules a stylesheet may have
abbrev pub most_modules : ℕ
most_modules = 64

-- the module of this name is being loaded
abbrev pub is_loading : List (List ℕ) → List ℕ → Bool
is_loading loading name = list_any (λ one. bytes_eq one name) loading

-- what is said of a link to a module that is being loaded: an import, or an include
abbrev pub circle_code : Bool → Code
circle_code true = SheetStatic XTSE0210
circle_code false = SheetStatic XTSE0180

-- where the walk stands: the modules that are being loaded, the one whose link comes next the last of
-- them, how many modules are loaded, the name of that module, and the link
pub record Point : Type 0 where
  pub loading : List (List ℕ)
  pub count : ℕ
  pub importer : List ℕ
  pub link : Link

abbrev pub target : Point → List ℕ
target p = resolved p.importer p.link.href

module _ (files : Holdings) (reads : Scoped → List Link) where
  -- the file of this name is this module, with its links
  pub record IsModule (name : List ℕ) (m : LoadedModule) : Type 0 where
    pub named : m.name ≡ name
    pub held : HoldsModule files name m.scoped
    pub linked : m.links ≡ reads m.scoped

  -- the link of the importer leads to this module, which is not being loaded
  pub record LeadsTo (loading : List (List ℕ)) (importer : List ℕ) (link : Link) (m : LoadedModule)
      : Type 0 where
    pub free : is_loading loading (resolved importer link.href) ≡ false
    pub held : IsModule (resolved importer link.href) m

module _ (files : Holdings) (reads : Scoped → List Link) where
  -- the links of the importer lead to these modules, link by link
  abbrev pub LeadTo : List (List ℕ) → List ℕ → List Link → Modules → Type 0
  LeadTo loading importer [] none = ⊤
  LeadTo loading importer [] (linked link m below rest) = ⊥
  LeadTo loading importer (l ∷ ls) none = ⊥
  LeadTo loading importer (l ∷ ls) (linked link m below rest) =
      (link ≡ l) × LeadsTo files reads loading importer l m
      × LeadTo (loading ++ resolved importer l.href ∷ []) (resolved importer l.href) m.links below
      × LeadTo loading importer ls rest

  -- the walk comes to this point from the links of the importer, where so many modules are loaded
  pub data Comes : List (List ℕ) → ℕ → List ℕ → List Link → Point → Type 0 where
    -- at its first link
    here : {loading : List (List ℕ)} {count : ℕ} {importer : List ℕ} {l : Link} {ls : List Link}
        → Comes loading count importer (l ∷ ls)
        (record { loading = loading; count = count; importer = importer; link = l })
    -- after the links of the module that its first link leads to
    inside : {loading : List (List ℕ)} {count : ℕ} {importer : List ℕ} {l : Link} {ls : List Link}
        {p : Point} → (m : LoadedModule) → count < most_modules
        → LeadsTo files reads loading importer l m
        → Comes (loading ++ resolved importer l.href ∷ []) (count + 1) (resolved importer l.href) m.links p
        → Comes loading count importer (l ∷ ls) p
    -- after its further links
    later : {loading : List (List ℕ)} {count : ℕ} {importer : List ℕ} {l : Link} {ls : List Link}
        {p : Point} → (m : LoadedModule) → (below : Modules) → count < most_modules
        → LeadsTo files reads loading importer l m
        → LeadTo (loading ++ resolved importer l.href ∷ []) (resolved importer l.href) m.links below
        → Comes loading (count + 1 + module_count below) importer ls p
        → Comes loading count importer (l ∷ ls) p

-- a rule on links is broken there: the module is being loaded, or would be one too many
abbrev pub BreaksLinkRule : Point → Code → Type 0
BreaksLinkRule p code =
    ((is_loading p.loading (target p) ≡ true) × (code ≡ circle_code p.link.import))
    ⊎ ((is_loading p.loading (target p) ≡ false) × (most_modules ≤ p.count)
    × (code ≡ SheetStatic XTLM0003))
