-- The entries on the way to a port's bucket in a nested table: each is one in use, behind which a page may be entered, and once it leads to
-- a page the way goes on behind that.
use Rattle.std.proofs.Common.{◌≡◌, ℕ, ◌+◌, ◌*◌, ◌/◌, ◌%◌, ◌<◌, cond, true, false, Some, None, refl, sym, ◌∙◌, ap, subst, inl, inr, arith}
use Rattle.std.proofs.lemmas.Nat.{mod_below}
use Rattle.rht_words.specs.declared.env.Env.{Env}
use Rattle.rht_words.specs.declared.machine.Start.{Start}
use Rattle.rht_words.specs.declared.machine.Start.TheVariants as starts
use Rattle.rht_words.specs.Links.{page_of}
use Rattle.rht_words.specs.Places.{PageWord, place_of}
use Rattle.rht_words.proofs.LinksRead.{entries_come_back}
use Rattle.rht_words.proofs.Memory.{Memory}
use Rattle.rht_nest.specs.Tables.{is_nested}
use Rattle.rht_nest.specs.Place.{PlaceModel, nested_place, picked, entered}
use Rattle.rht_nest.specs.declared.grow.GrowAt.{GrowAt}
use Rattle.rht_nest.specs.declared.grow.GrowAt.TheVariants as grows
use Rattle.rht_ghost.proofs.Theory.Ghosts.{Part, Middle, Top, has_entries, PageOf, IsSince, Ghost, is_entry_of, entry_word, table_of_page, table_at}
use Rattle.rht_ghost.proofs.Theory.Wholes.{hash_in, IsNested, PlacedRight, Whole, IsThere, at-there}
use Rattle.rht_ghost.proofs.Theory.Ways.{first_page, entries_in, IsInUse}
use Rattle.rht_ghost.proofs.Theory.Entries.{few_entries, some_entries, page_within, entry_in, entry_nested}
use Rattle.rht_ghost.proofs.Theory.PlacesRead.{begins_at_top, entries_in_words}
use Rattle.rht_ghost.proofs.Theory.Knowns.{KnownTable, OnWay, AtHome}
use Rattle.rht_ghost.proofs.Theory.Knowledge.{TableMeans, IsWay, IsOnWay}
use Rattle.rht_ghost.proofs.Theory.WaysRead.{words_of_pages, first_of_two, nested_placed, on_way_next, at_home}
use Rattle.rht_ghost.proofs.Pieces.TableLoads.{way_home}
use Rattle.rht_ghost.proofs.Pieces.Grows.{IsOpenEntry, LeadsTo}

-- what is known of the table behind an entry that leads to a page, where no table was behind before: the way stands at the next entry, or at
-- the port's bucket
abbrev pub known_entered : ℕ → ℕ → ℕ → Start PlaceModel ℕ → KnownTable
known_entered port slot shape (starts.Running next) = OnWay port slot shape next None
known_entered port slot shape (starts.Done place) = AtHome port slot (Some shape) place

-- and while a page is entered there
abbrev pub known_growing : ℕ → ℕ → ℕ → PlaceModel → GrowAt → KnownTable
known_growing port slot shape place (grows.Taking take) = OnWay port slot shape place None
known_growing port slot shape place (grows.Entering page) = OnWay port slot shape place None
known_growing port slot shape place (grows.Giving there give) = known_entered port slot shape (entered place there)

-- the entry with this number is in use, and one of this table's
pub record IsOpenIn (env : Env) (G : Ghost) (τ j : ℕ) : Type 0 where
  pub open_is : IsOpenEntry env G j
  pub table : table_at G j ≡ τ

module _ (env : Env) (mix : ℕ → ℕ → ℕ → ℕ) (M : Memory) (G : Ghost) (whole : Whole env mix M G) where
  -- ---- the entry is in use

  module _ (τ number : ℕ) (is_there : IsThere G τ) (nested : is_nested (G.table τ).shape ≡ true) where
    placed : PlacedRight env mix (G.table τ) G.page τ
    placed = (whole.tables.each τ is_there).placed

    is : IsNested env mix (G.table τ) G.page τ
    is = nested_placed env mix M G whole τ is_there nested

    -- an entry in use of a page with this part
    opens : (part : Part) (q index : ℕ) → index < 64 → G.page q ≡ PageOf τ → (G.table τ).part q ≡ part
        → has_entries part ≡ true → IsInUse (G.table τ).shape part index → IsOpenIn env G τ (64 * q + index)
    opens part q index low of part_is has used =
        let j = 64 * q + index in
        let within = page_within env mix (G.table τ) G.page τ placed q of in
        let quotient : j / 64 ≡ q = omega (arith, low) in
        let remainder : j % 64 ≡ index = omega (arith, low) in
        let here : G.page (j / 64) ≡ PageOf τ = ap G.page quotient ∙ of in
        let part_here : (G.table τ).part (j / 64) ≡ part = ap (G.table τ).part quotient ∙ part_is in
        let table : table_at G j ≡ τ = ap table_of_page here in
        record {
          open_is = record {
            within = omega (arith, low, within);
            entry = ap (λ o. is_entry_of G.table o (j / 64)) here ∙ ap has_entries part_here ∙ has;
            used = subst (λ t. IsInUse (G.table t).shape ((G.table t).part (j / 64)) (j % 64)) (sym table)
                (subst (λ p. IsInUse (G.table τ).shape p (j % 64)) (sym part_here)
                (subst (λ r. IsInUse (G.table τ).shape part r) (sym remainder) used));
          };
          table = table;
        }

    -- the entry of the top page with which the way begins
    first_open : IsOpenIn env G τ (nested_place env.geometry (G.table τ).shape number).entry
    first_open =
        let shape = (G.table τ).shape in
        let below = mod_below number (entries_in shape) (some_entries shape) in
        let begins = begins_at_top env mix (G.table τ) G.page τ placed (words_of_pages M)
        (entries_in_words env mix M G whole τ is_there) is number in
        subst (IsOpenIn env G τ) (sym (ap (λ (m : PlaceModel). m.entry) begins))
        (opens Top (first_page shape) (number % entries_in shape)
        (omega (arith, below, few_entries shape is.shaped)) is.top_of is.top_part refl below)

    -- each entry of a page of entries is in use
    second_entry : (first place : PlaceModel) (page : ℕ) → entered first page ≡ starts.Running place
        → 64 * page + first.rest % 64 ≡ place.entry
    second_entry first place page e =
        let next : PlaceModel =
        record { geometry = first.geometry; entry = picked first page; rest = first.rest / 64; deep = false } in
        let leads : starts.Running next ≡ starts.Running place =
        sym (ap (λ t. cond t (starts.Running next) (starts.Done (place_of first.geometry (PageWord (picked first page)))))
        (first_of_two first place page e).deep) ∙ e in
        let same : next ≡ place = cc in
        ap (λ (m : PlaceModel). m.entry) same

    pub way_open : (place : PlaceModel) → IsWay env mix G number τ (G.table τ).shape place → IsOpenIn env G τ place.entry
    way_open place way = elim way [
      | inl first ↦ subst (λ (m : PlaceModel). IsOpenIn env G τ m.entry) (sym first) first_open
      | inr second ↦
          let shape = (G.table τ).shape in
          let begins = nested_place env.geometry shape number in
          subst (IsOpenIn env G τ) (second_entry begins place second.page second.place_is)
          (opens (Middle (number % entries_in shape)) second.page (begins.rest % 64) (omega arith) second.of second.part_is
          refl tt)
    ]

  -- ---- it leads to a page

  -- so its word does
  pub led : (j page : ℕ) → IsOpenEntry env G j → LeadsTo G j page → page_of env.geometry.pages (M (PageWord j)) ≡ Some page
  led j page here leads =
      let at = entry_in env mix G j here.entry in
      let within = ((entry_nested env mix M G whole j at).leads j page at.of at.has leads).within in
      ap (page_of env.geometry.pages) (whole.entries j here.within here.entry ∙ ap entry_word leads)
      ∙ entries_come_back.entry_names env.geometry.pages page within

  module _ {c : ℕ} (port slot shape : ℕ) (place : PlaceModel) (on : IsOnWay env mix c G port slot shape place None) where
    -- the entry at which the way stands is in use
    pub open_in_table : IsOpenIn env G on.shaped.passing.at.table place.entry
    open_in_table =
        let at = on.shaped.passing.at in
        way_open at.table (hash_in env mix G port at.table) (at-there at) on.to.nested place on.to.way

    pub open_on_way : IsOpenEntry env G place.entry
    open_on_way = open_in_table.open_is

    -- in a table to which the caller's section comes
    pub since_on_way : IsSince (G.from c) (table_at G place.entry)
    since_on_way = subst (IsSince (G.from c)) (sym open_in_table.table) on.shaped.passing.since

    module _ (same : place.geometry ≡ env.geometry) (page : ℕ) (leads : LeadsTo G place.entry page) where
      entry_is : page_of env.geometry.pages (M (PageWord place.entry)) ≡ Some page
      entry_is = led place.entry page open_on_way leads

      entered_so : (start : Start PlaceModel ℕ) → entered place page ≡ start
          → TableMeans env mix c G (known_entered port slot shape start)
      entered_so (starts.Running next) e =
          record {
            shaped = on.shaped;
            to = on_way_next env mix M G whole port on.shaped.passing.at.table
                (at-there on.shaped.passing.at) place on.to next page entry_is e;
            behind = tt;
          }
      entered_so (starts.Done there) e =
          at_home env mix M G whole port slot shape there on.shaped.passing on.shaped.shape_is
          (way_home env mix M G whole port slot on.shaped.passing.at place same on.to page there entry_is e)

      -- and behind the page the way goes on
      pub entered_on_way : TableMeans env mix c G (known_entered port slot shape (entered place page))
      entered_on_way = entered_so (entered place page) refl
