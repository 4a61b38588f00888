-- An entry at which a way ends leads to no page, by the words; and one that is cleared led to one. It is one of a table that isn't in force, and to
-- which no open section comes.
use Rattle.std.proofs.Common.{◌≡◌, ℕ, ◌/◌, Bool, true, false, cond, List, refl, sym, ap, ◌∙◌, subst}
use Rattle.std.specs.Prelude.{Option, Some, None}
use Rattle.rht_words.specs.declared.env.Env.{Env}
use Rattle.rht_words.specs.declared.machine.Start.{Start}
use Rattle.rht_words.specs.declared.machine.Start.TheVariants as starts
use Rattle.rht_words.specs.Links.{page_of, entry_of}
use Rattle.rht_words.specs.Places.{PageWord, place_of}
use Rattle.rht_words.proofs.Memory.{Memory}
use Rattle.rht_words.proofs.LinksRead.{entries_come_back}
use Rattle.rht_nest.specs.Place.{PlaceModel, picked, entered, missing_behind, missing_none, missing_last, missing_or_last, missing_at}
use Rattle.rht_words.specs.declared.geometry.Geometry.{Geometry}
use Rattle.rht_words.specs.Members.{In}
use Rattle.rht_stands.specs.StandsFor.{in_force, shape_of}
use Rattle.rht_core.specs.TablePages.{IsEntryOfTable}
use Rattle.rht_core.proofs.Counting.TablePages.{entry_in_words}
use Rattle.rht_core.proofs.Meaning.TablesInForce.{in_force_is}
use Rattle.rht_ghost.proofs.Theory.Ghosts.{Ghost, Live, Retired, is_entry, is_entry_of, table_at, table_of_page}
use Rattle.rht_ghost.proofs.Theory.Steps.{mem}
use Rattle.rht_ghost.proofs.Theory.TablesOver.{going-slot}
use Rattle.rht_ghost.proofs.Theory.Wholes.{Whole, IsAt, at-there}
use Rattle.rht_ghost.proofs.Theory.Entries.{entry_in, entry_nested}
use Rattle.rht_ghost.proofs.Theory.Departures.{CanWithdraw}

module _ (read : ℕ → ℕ) where
  -- this entry leads to no page
  abbrev LeadsNowhere : PlaceModel → ℕ → Type 0
  LeadsNowhere m j = page_of m.geometry.pages (read j) ≡ None

  nowhere_behind : (go : Start PlaceModel ℕ → Option ℕ) (m : PlaceModel) (page : Option ℕ) (j : ℕ)
      → page_of m.geometry.pages (read m.entry) ≡ page → ((p : ℕ) → go (entered m p) ≡ Some j → LeadsNowhere m j)
      → missing_behind go m page ≡ Some j → LeadsNowhere m j
  nowhere_behind go m None j is further ends =
      let same : j ≡ m.entry = cc in ap (λ i. page_of m.geometry.pages (read i)) same ∙ is
  nowhere_behind go m (Some p) j is further ends = further p ends

  nowhere_last : (m : PlaceModel) (j : ℕ) → missing_last read m ≡ Some j → LeadsNowhere m j
  nowhere_last m j ends =
      nowhere_behind missing_none m (page_of m.geometry.pages (read m.entry)) j refl (λ p none. absurd (cc)) ends

  -- so it is where a way ends
  pub ends_nowhere : (m : PlaceModel) (j : ℕ) → missing_at read m ≡ Some j → LeadsNowhere m j
  ends_nowhere m j ends =
      nowhere_behind (missing_or_last read) m (page_of m.geometry.pages (read m.entry)) j refl (λ p further. go p m.deep further) ends
    where
      next : ℕ → PlaceModel
      next p = record { geometry = m.geometry; entry = picked m p; rest = m.rest / 64; deep = false }

      go : (p : ℕ) (deep : Bool)
          → missing_or_last read (cond deep (starts.Running (next p)) (starts.Done (place_of m.geometry (PageWord (picked m p))))) ≡ Some j
          → LeadsNowhere m j
      go p true further = nowhere_last (next p) j further
      go p false further = absurd (cc)

-- who clears an entry finds there the page that it names
pub cleared_leads : (env : Env) (mix : ℕ → ℕ → ℕ → ℕ) (c : ℕ) (M : Memory) (G : Ghost) → Whole env mix M G → (j page : ℕ)
    → CanWithdraw env mix c j page G → page_of env.geometry.pages (entry_of page) ≡ Some page
cleared_leads env mix c M G whole j page can =
    let at = entry_in env mix G j can.entry in
    entries_come_back.entry_names env.geometry.pages page
    ((entry_nested env mix M G whole j at).leads j page at.of at.has can.leads).within

module _ (env : Env) (mix : ℕ → ℕ → ℕ → ℕ) (words : List ℕ) (G : Ghost) (whole : Whole env mix (mem env mix words) G) where
  abbrev g : Geometry
  g = env.geometry

  -- an entry of a table that is there is in use
  pub entry_used : (slot index : ℕ) (at : IsAt G slot) → IsEntryOfTable g words (shape_of g words slot) index
      → (is_entry G index ≡ true) × (table_at G index ≡ at.table)
  entry_used slot index at of =
      let there = at-there at in
      let shape : shape_of g words slot ≡ (G.table at.table).shape =
      ap (shape_of g words) (sym at.slot_is) ∙ (whole.tables.each at.table there).shape_is in
      let is = entry_in_words env mix words G whole at.table there index (subst (λ s. IsEntryOfTable g words s index) shape of) in
      (ap (λ o. is_entry_of G.table o (index / 64)) is.0 ∙ is.1, ap table_of_page is.0)

  -- such a table isn't in force, and the section of nobody comes to it
  pub cleared_apart : (c slot index page : ℕ) (at : IsAt G slot) → table_at G index ≡ at.table → CanWithdraw env mix c index page G
      → ¬ In slot (in_force g words)
  cleared_apart c slot index page at same can i =
      let force = in_force_is env mix words G whole slot i in
      let live : G.slot slot ≡ Live force.table =
      ap G.slot force.slot_is ∙ whole.tables.force force.table force.current force.attached in
      let here : slot ≡ can.slot =
      sym at.slot_is ∙ ap (λ τ. (G.table τ).slot) (sym same)
      ∙ going-slot env mix c can.slot (table_at G index) (mem env mix words) G whole can.going in
      let both : Live force.table ≡ Retired (table_at G index) = sym live ∙ ap G.slot here ∙ can.going.retired in
      absurd (cc)
