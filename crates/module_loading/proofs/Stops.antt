-- How the refusals of the parts make those of the whole.
use Rattle.std.proofs.Common.{◌≡◌, ◌≤◌, ◌<◌, ℕ, ◌+◌, List, [], ◌∷◌, ◌++◌, Bool, true, false, length, arith, inl, inr, refl, sym, ap, subst, ◌∙◌}
use Rattle.std.specs.Str.{encode_utf8_all}
use Rattle.xt_io.specs.Files.{FilesState, KeepsFiles}
use Rattle.xt_names.specs.declared.codes.Code.{Code}
use Rattle.xt_names.specs.declared.codes.Code.TheVariants.{SheetStatic}
use Rattle.xt_names.specs.declared.codes.SheetStaticCode.TheVariants.{XTLM0003}
use Rattle.doc_reader.specs.declared.Scoped.{Scoped}
use Rattle.sheet_modules.specs.ModuleNames.Names.{resolved}
use Rattle.sheet_modules.specs.declared.links.Link.{Link}
use Rattle.module_loading.specs.declared.faults.SheetFault.{SheetFault}
use Rattle.module_loading.specs.declared.faults.SheetFault.TheVariants.{Load, TooLong, Malformed}
use Rattle.module_loading.specs.declared.faults.SheetFault.TheVariants.{Static, Memory}
use Rattle.module_loading.specs.declared.loaded.LoadedModule.{LoadedModule}
use Rattle.module_loading.specs.declared.loaded.LoadedSheet.{LoadedSheet}
use Rattle.module_loading.specs.declared.walk.Pieces.{Pieces}
use Rattle.xt_io.specs.Loads.{Holdings, IsLoadFailure, IsTooLong}
use Rattle.module_loading.specs.Held.{HoldsNoModule, IsUnreadAs}
use Rattle.module_loading.specs.Trees.{Modules, none, module_count}
use Rattle.module_loading.specs.Walk.{Point, is_loading, circle_code, most_modules, IsModule, LeadsTo, LeadTo}
use Rattle.module_loading.specs.Walk.{Comes, here, inside, later}
use Rattle.module_loading.specs.Loads.{AddsModule, LoadsLink}
use Rattle.module_loading.specs.Refusals.{Asks, Breaks, AsksFrom, BreaksFrom, IsLinksRefusedAs, IsModuleRefusedAs}
use Rattle.xt_io.proofs.LoadLemmas.{failed_later, long_later}
use Rattle.module_loading.proofs.Trees.{length-with_modules}

module _ (files : Holdings) (reads : Scoped → List Link) where
  nowhere : {loading : List (List ℕ)} {count : ℕ} {importer : List ℕ} {p : Point}
      → Comes files reads loading count importer [] p → ⊥
  nowhere x = elim x [ ]

  -- further links after one
  pub widened : {loading : List (List ℕ)} {count : ℕ} {importer : List ℕ} {l : Link} {p : Point}
      (ls : List Link) → Comes files reads loading count importer (l ∷ []) p
      → Comes files reads loading count importer (l ∷ ls) p
  widened ls here = here
  widened ls (inside m room leads comes) = inside m room leads comes
  widened ls (later m below room leads lead comes) = absurd (nowhere comes)

  asks_wider : (loading : List (List ℕ)) (count : ℕ) (importer : List ℕ) (l : Link) (ls : List Link)
      (file : List ℕ) → Asks files reads loading count importer (l ∷ []) file
      → Asks files reads loading count importer (l ∷ ls) file
  asks_wider loading count importer l ls file x =
      record { point = x.point; comes = widened ls x.comes; free = x.free; room = x.room; named = x.named }

  breaks_wider : (loading : List (List ℕ)) (count : ℕ) (importer : List ℕ) (l : Link) (ls : List Link)
      (code : Code) → Breaks files reads loading count importer (l ∷ []) code
      → Breaks files reads loading count importer (l ∷ ls) code
  breaks_wider loading count importer l ls code x =
      record { point = x.point; comes = widened ls x.comes; broken = x.broken }

  -- after a link that leads to a module
  asks_later : (loading : List (List ℕ)) (count next : ℕ) (importer : List ℕ) (l : Link) (ls : List Link)
      (m : LoadedModule) (below : Modules) (file : List ℕ) → count < most_modules
      → next ≡ count + 1 + module_count below → LeadsTo files reads loading importer l m
      → LeadTo files reads (loading ++ resolved importer l.href ∷ []) (resolved importer l.href) m.links below
      → Asks files reads loading next importer ls file
      → Asks files reads loading count importer (l ∷ ls) file
  asks_later loading count next importer l ls m below file room e leads lead x = record {
    point = x.point;
    comes = later m below room leads lead (subst (λ (n : ℕ). Comes files reads loading n importer ls x.point) e x.comes);
    free = x.free;
    room = x.room;
    named = x.named;
  }

  breaks_later : (loading : List (List ℕ)) (count next : ℕ) (importer : List ℕ) (l : Link) (ls : List Link)
      (m : LoadedModule) (below : Modules) (code : Code) → count < most_modules
      → next ≡ count + 1 + module_count below → LeadsTo files reads loading importer l m
      → LeadTo files reads (loading ++ resolved importer l.href ∷ []) (resolved importer l.href) m.links below
      → Breaks files reads loading next importer ls code
      → Breaks files reads loading count importer (l ∷ ls) code
  breaks_later loading count next importer l ls m below code room e leads lead x = record {
    point = x.point;
    comes = later m below room leads lead (subst (λ (n : ℕ). Comes files reads loading n importer ls x.point) e x.comes);
    broken = x.broken;
  }

  -- at a link, and after it
  asks_link : (loading : List (List ℕ)) (count : ℕ) (importer : List ℕ) (l : Link) (file : List ℕ)
      → is_loading loading (resolved importer l.href) ≡ false → count < most_modules
      → AsksFrom files reads loading count (resolved importer l.href) file
      → Asks files reads loading count importer (l ∷ []) file
  asks_link loading count importer l file free room (inl e) =
      record { point = _; comes = here; free = free; room = room; named = e }
  asks_link loading count importer l file free room (inr (m, is_module, x)) = record {
    point = x.point;
    comes = inside m room (record { free = free; held = is_module }) x.comes;
    free = x.free;
    room = x.room;
    named = x.named;
  }

  breaks_link : (loading : List (List ℕ)) (count : ℕ) (importer : List ℕ) (l : Link) (code : Code)
      → is_loading loading (resolved importer l.href) ≡ false → count < most_modules
      → BreaksFrom files reads loading count (resolved importer l.href) code
      → Breaks files reads loading count importer (l ∷ []) code
  breaks_link loading count importer l code free room (m, is_module, x) = record {
    point = x.point;
    comes = inside m room (record { free = free; held = is_module }) x.comes;
    broken = x.broken;
  }

-- what the test says of the link
pub is_so : (loading slice : List (List ℕ)) (name target_name : List ℕ) (r b : Bool)
    → slice ≡ loading → name ≡ target_name → r ≡ is_loading slice name → r ≡ b
    → is_loading loading target_name ≡ b
is_so loading slice name target_name r b s n e f =
    sym (ap (λ (l : List (List ℕ)). is_loading l target_name) s)
    ∙ sym (ap (λ (n : List ℕ). is_loading slice n) n) ∙ sym e ∙ f

module _ (reads : Scoped → List Link) where
  -- a link to a module that is being loaded
  pub circle_refused : (loading : List (List ℕ)) (count : ℕ) (importer : List ℕ) (l : Link)
      (old new : FilesState) → is_loading loading (resolved importer l.href) ≡ true
      → IsLinksRefusedAs reads loading count importer (l ∷ []) old new (Static (circle_code l.import))
  circle_refused loading count importer l old new h =
      record { point = _; comes = here; broken = inl (h, refl) }

  -- a link to one module too many
  pub many_refused : (loading : List (List ℕ)) (count : ℕ) (importer : List ℕ) (l : Link)
      (old new : FilesState) → is_loading loading (resolved importer l.href) ≡ false
      → most_modules ≤ count
      → IsLinksRefusedAs reads loading count importer (l ∷ []) old new (Static (SheetStatic XTLM0003))
  many_refused loading count importer l old new h k =
      record { point = _; comes = here; broken = inr (h, k, refl) }

  -- what a link leads to is refused
  pub link_refused : (loading : List (List ℕ)) (count : ℕ) (importer : List ℕ) (l : Link)
      (old new : FilesState) (fault : SheetFault)
      → is_loading loading (resolved importer l.href) ≡ false → count < most_modules
      → IsModuleRefusedAs reads loading count (resolved importer l.href) old new fault
      → IsLinksRefusedAs reads loading count importer (l ∷ []) old new fault
  link_refused loading count importer l old new (Load file) free room x =
      (asks_link old.held reads loading count importer l file free room x.0, x.1)
  link_refused loading count importer l old new (TooLong file n) free room x =
      (asks_link old.held reads loading count importer l file free room x.0, x.1)
  link_refused loading count importer l old new (Malformed file spot) free room x =
      (asks_link old.held reads loading count importer l file free room x.0, x.1)
  link_refused loading count importer l old new (Static code) free room x =
      breaks_link old.held reads loading count importer l code free room x
  link_refused loading count importer l old new (Memory e) free room x = x

  pub link_refused_at : (loading : List (List ℕ)) (count : ℕ) (importer name : List ℕ) (l : Link)
      (old new : FilesState) (fault : SheetFault) → name ≡ resolved importer l.href
      → is_loading loading (resolved importer l.href) ≡ false → count < most_modules
      → IsModuleRefusedAs reads loading count name old new fault
      → IsLinksRefusedAs reads loading count importer (l ∷ []) old new fault
  link_refused_at loading count importer name l old new fault e free room x =
      link_refused loading count importer l old new fault free room
      (subst (λ (n : List ℕ). IsModuleRefusedAs reads loading count n old new fault) e x)

  -- the first of several links is refused
  pub first_refused : (loading : List (List ℕ)) (count : ℕ) (importer : List ℕ) (l : Link) (ls : List Link)
      (old new : FilesState) (fault : SheetFault)
      → IsLinksRefusedAs reads loading count importer (l ∷ []) old new fault
      → IsLinksRefusedAs reads loading count importer (l ∷ ls) old new fault
  first_refused loading count importer l ls old new (Load file) x =
      (asks_wider old.held reads loading count importer l ls file x.0, x.1)
  first_refused loading count importer l ls old new (TooLong file n) x =
      (asks_wider old.held reads loading count importer l ls file x.0, x.1)
  first_refused loading count importer l ls old new (Malformed file spot) x =
      (asks_wider old.held reads loading count importer l ls file x.0, x.1)
  first_refused loading count importer l ls old new (Static code) x =
      breaks_wider old.held reads loading count importer l ls code x
  first_refused loading count importer l ls old new (Memory e) x = x

  -- a refusal after files that are held as before
  asks_held : (loading : List (List ℕ)) (count : ℕ) (importer : List ℕ) (links : List Link)
      (old mid new : FilesState) (fault : SheetFault) → KeepsFiles old mid
      → IsLinksRefusedAs reads loading count importer links mid new fault
      → IsLinksRefusedAs reads loading count importer links old new fault
  asks_held loading count importer links old mid new (Load file) keeps x =
      (rw keeps.held at x.0, failed_later old mid new (encode_utf8_all file) keeps x.1)
  asks_held loading count importer links old mid new (TooLong file n) keeps x =
      (rw keeps.held at x.0, long_later old mid new (encode_utf8_all file) n keeps x.1)
  asks_held loading count importer links old mid new (Malformed file spot) keeps x =
      (rw keeps.held at x.0, rw keeps.held at x.1)
  asks_held loading count importer links old mid new (Static code) keeps x = rw keeps.held at x
  asks_held loading count importer links old mid new (Memory e) keeps x = x

  behind : (loading : List (List ℕ)) (count next : ℕ) (importer : List ℕ) (l : Link) (ls : List Link)
      (m : LoadedModule) (below : Modules) (old new : FilesState) (fault : SheetFault)
      → count < most_modules → next ≡ count + 1 + module_count below
      → LeadsTo old.held reads loading importer l m
      → LeadTo old.held reads (loading ++ resolved importer l.href ∷ []) (resolved importer l.href) m.links below
      → IsLinksRefusedAs reads loading next importer ls old new fault
      → IsLinksRefusedAs reads loading count importer (l ∷ ls) old new fault
  behind loading count next importer l ls m below old new (Load file) room e leads lead x =
      (asks_later old.held reads loading count next importer l ls m below file room e leads lead x.0, x.1)
  behind loading count next importer l ls m below old new (TooLong file n) room e leads lead x =
      (asks_later old.held reads loading count next importer l ls m below file room e leads lead x.0, x.1)
  behind loading count next importer l ls m below old new (Malformed file spot) room e leads lead x =
      (asks_later old.held reads loading count next importer l ls m below file room e leads lead x.0, x.1)
  behind loading count next importer l ls m below old new (Static code) room e leads lead x =
      breaks_later old.held reads loading count next importer l ls m below code room e leads lead x
  behind loading count next importer l ls m below old new (Memory e') room e leads lead x = x

  -- a further link is refused
  pub later_refused : (loading : List (List ℕ)) (importer : List ℕ) (l : Link) (ls : List Link)
      (sheet loaded : LoadedSheet) (before after : Pieces) (old mid new : FilesState) (fault : SheetFault)
      → KeepsFiles old mid
      → LoadsLink old.held reads loading importer l sheet loaded before after
      → IsLinksRefusedAs reads loading (length loaded.modules) importer ls mid new fault
      → IsLinksRefusedAs reads loading (length sheet.modules) importer (l ∷ ls) old new fault
  later_refused loading importer l ls sheet loaded before after old mid new fault keeps a x =
      let modules : length loaded.modules ≡ length sheet.modules + 1 + module_count a.below =
      ap length a.has_modules ∙ length-with_modules sheet.modules a.made a.below in
      let room : length sheet.modules < most_modules = omega (arith, modules, a.few) in
      behind loading (length sheet.modules) (length loaded.modules) importer l ls a.made a.below old new fault
      room modules a.leads a.lead
      (asks_held loading (length loaded.modules) importer ls old mid new fault keeps x)

  -- the module itself is refused
  pub itself_refused : (loading : List (List ℕ)) (count : ℕ) (name : List ℕ) (old new : FilesState)
      (fault : SheetFault) → IsUnreadAs name old new fault
      → IsModuleRefusedAs reads loading count name old new fault
  itself_refused loading count name old new (Load file) x =
      (inl x.0, subst (λ (n : List ℕ). IsLoadFailure old new (encode_utf8_all n)) (sym x.0) x.1)
  itself_refused loading count name old new (TooLong file n) x =
      (inl x.0, subst (λ (f : List ℕ). IsTooLong old new (encode_utf8_all f) n) (sym x.0) x.1)
  itself_refused loading count name old new (Malformed file spot) x =
      (inl x.0, subst (λ (n : List ℕ). HoldsNoModule old.held n spot) (sym x.0) x.1)
  itself_refused loading count name old new (Static code) x = absurd x
  itself_refused loading count name old new (Memory e) x = x

  links_at : (loading : List (List ℕ)) (count next : ℕ) (name : List ℕ) (links : List Link)
      (m : LoadedModule) (old new : FilesState) (fault : SheetFault) → next ≡ count + 1
      → links ≡ m.links → IsModule old.held reads name m
      → IsLinksRefusedAs reads (loading ++ name ∷ []) next name links old new fault
      → IsModuleRefusedAs reads loading count name old new fault
  links_at loading count next name links m old new (Load file) e l i x = (inr (m, i, rw (e, l) at x.0), x.1)
  links_at loading count next name links m old new (TooLong file n) e l i x = (inr (m, i, rw (e, l) at x.0), x.1)
  links_at loading count next name links m old new (Malformed file spot) e l i x = (inr (m, i, rw (e, l) at x.0), x.1)
  links_at loading count next name links m old new (Static code) e l i x = (m, i, rw (e, l) at x)
  links_at loading count next name links m old new (Memory e') e l i x = x

  -- one of its links is
  pub links_refused : (loading : List (List ℕ)) (name : List ℕ) (links : List Link)
      (sheet loaded : LoadedSheet) (old mid new : FilesState) (fault : SheetFault)
      → KeepsFiles old mid → AddsModule old.held reads name sheet loaded links
      → IsLinksRefusedAs reads (loading ++ name ∷ []) (length loaded.modules) name links mid new fault
      → IsModuleRefusedAs reads loading (length sheet.modules) name old new fault
  links_refused loading name links sheet loaded old mid new fault keeps a x =
      let modules : length loaded.modules ≡ length sheet.modules + 1 =
      ap length a.has_modules ∙ length-with_modules sheet.modules a.made none ∙ omega arith in
      links_at loading (length sheet.modules) (length loaded.modules) name links a.made old new fault modules
      a.has_links a.is_module
      (asks_held (loading ++ name ∷ []) (length loaded.modules) name links old mid new fault keeps x)

  -- one of its links is, as the importer tells it
  pub links_refused_at : (loading within : List (List ℕ)) (name importer : List ℕ) (links slice : List Link)
      (sheet loaded : LoadedSheet) (old mid new : FilesState) (fault : SheetFault)
      → within ≡ loading ++ name ∷ [] → importer ≡ name → slice ≡ links
      → KeepsFiles old mid → AddsModule old.held reads name sheet loaded links
      → IsLinksRefusedAs reads within (length loaded.modules) importer slice mid new fault
      → IsModuleRefusedAs reads loading (length sheet.modules) name old new fault
  links_refused_at loading within name importer links slice sheet loaded old mid new fault w i s keeps a x =
      links_refused loading name links sheet loaded old mid new fault keeps a
      (subst (λ (l : List (List ℕ)). IsLinksRefusedAs reads l (length loaded.modules) name links mid new fault) w
      (subst (λ (n : List ℕ). IsLinksRefusedAs reads within (length loaded.modules) n links mid new fault) i
      (subst (λ (ls : List Link). IsLinksRefusedAs reads within (length loaded.modules) importer ls mid new fault) s x)))

  -- the first module is refused, as its name is made a text
  pub whole_refused : (name text : List ℕ) (loading : List (List ℕ)) (count : ℕ) (old new : FilesState)
      (fault : SheetFault) → text ≡ name → loading ≡ [] → count ≡ 0
      → IsModuleRefusedAs reads loading count text old new fault
      → IsModuleRefusedAs reads [] 0 name old new fault
  whole_refused name text loading count old new fault n l k x =
      subst (λ (t : List ℕ). IsModuleRefusedAs reads [] 0 t old new fault) n
      (subst (λ (c : ℕ). IsModuleRefusedAs reads [] c text old new fault) k
      (subst (λ (o : List (List ℕ)). IsModuleRefusedAs reads o count text old new fault) l x))

  -- the first link of a list is refused
  pub first_refused_at : (loading : List (List ℕ)) (count : ℕ) (importer : List ℕ) (l : Link)
      (ls links : List Link) (old new : FilesState) (fault : SheetFault) → links ≡ l ∷ ls
      → IsLinksRefusedAs reads loading count importer (l ∷ []) old new fault
      → IsLinksRefusedAs reads loading count importer links old new fault
  first_refused_at loading count importer l ls links old new fault e x =
      subst (λ (k : List Link). IsLinksRefusedAs reads loading count importer k old new fault) (sym e)
      (first_refused loading count importer l ls old new fault x)

  -- a further link of a list is refused
  pub later_refused_at : (loading : List (List ℕ)) (importer : List ℕ) (l : Link) (ls links : List Link)
      (sheet loaded : LoadedSheet) (before after : Pieces) (old mid new : FilesState) (fault : SheetFault)
      → links ≡ l ∷ ls → KeepsFiles old mid
      → LoadsLink old.held reads loading importer l sheet loaded before after
      → IsLinksRefusedAs reads loading (length loaded.modules) importer ls mid new fault
      → IsLinksRefusedAs reads loading (length sheet.modules) importer links old new fault
  later_refused_at loading importer l ls links sheet loaded before after old mid new fault e keeps a x =
      subst (λ (k : List Link). IsLinksRefusedAs reads loading (length sheet.modules) importer k old new fault) (sym e)
      (later_refused loading importer l ls sheet loaded before after old mid new fault keeps a x)
