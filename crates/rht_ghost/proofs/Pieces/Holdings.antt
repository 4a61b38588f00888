-- The operations on the slot and the pages of a caller that makes a table: they are taken and given back, and the slot's words are
-- written. What the caller knows beside stays.
use Rattle.std.proofs.Common.{◌≡◌, ◌≢◌, ◌⊎◌, ◌↔◌, ℕ, ◌<◌, ◌==◌, List, [], length, slice_index, Option, Some, None, true, false, cond, refl, sym, ◌∙◌, ap, subst, inl, inr, arith}
use Rattle.std.specs.Prelude.{IfSome}
use Rattle.std.specs.Int.{bit_at}
use Rattle.std.proofs.lemmas.Bool.{ne_eqb, both_ways}
use Rattle.rht_words.specs.declared.env.Env.{Env}
use Rattle.rht_words.specs.declared.op.Op.{Op}
use Rattle.rht_words.specs.declared.op.Op.TheVariants.{Store, Exchange, Add}
use Rattle.rht_words.specs.Members.{In}
use Rattle.rht_words.specs.Operations.{old_of, word_after, applied}
use Rattle.rht_words.specs.Places.{NextSerial, Slot, SlotWord, ShapeWord, SeedWord, FutureWord, SerialWord, StateWord, LoadedSection, IsSlotWord, PageMap, map_words, place_of, words_in}
use Rattle.rht_words.proofs.Memory.{Memory, IsWrite, is_write}
use Rattle.rht_words.specs.TableWords.{IsTableWord}
use Rattle.rht_ghost.proofs.Theory.Ghosts.{put, put-same, put-all, put_in, put_in-all, PageOwner, PageFree, PageHeld, SlotFree, SlotHeld, Ghost, has_table, slot_holder, has_bit, with_pages}
use Rattle.rht_ghost.proofs.Theory.Wholes.{Whole}
use Rattle.rht_ghost.proofs.Theory.Readiness.{ArePagesOf}
use Rattle.rht_ghost.proofs.Theory.Knowns.{Known, KnownSlot, KnownMaking, MakesNothing, HasPages, HasTaken}
use Rattle.rht_ghost.proofs.Theory.Knowledge.{SlotMeans, ArePagesMine, MakingMeans, Knowing}
use Rattle.rht_ghost.proofs.Theory.TableFrames.{TablesKept, Knowing-retabled, same_kept, none_fresh}
use Rattle.rht_ghost.proofs.Theory.Steps.{Quiet, TakesSlot, GivesSlot, TakesPages, GivesPages, Holding, ClearsBits, SetsBits, mem, SilentStep, silent, loads}
use Rattle.rht_ghost.proofs.Moves.Slots.{state_word-apart, table_word-apart, slots_kept, take_slot, give_slot, fill_slot, take_serial}
use Rattle.rht_ghost.proofs.Moves.Pages.{map_word-apart, pages_kept, take_pages, give_pages}

-- a slot of which no word is known
abbrev pub bare_slot : ℕ → KnownSlot
bare_slot slot = record { slot = slot; shape = None; seed = None; future = None; serial = None }

-- what is known of pages that were taken for a slot, or for none
abbrev pub taken_for : Option KnownSlot → List ℕ → KnownMaking
taken_for None pages = HasPages pages
taken_for (Some slot) pages = HasTaken slot pages

abbrev pub slot_for : Option KnownSlot → Option ℕ
slot_for None = None
slot_for (Some slot) = Some slot.slot

-- a known slot with one word more, or another one
abbrev pub with_slot_word : KnownSlot → SlotWord → ℕ → KnownSlot
with_slot_word known ShapeWord value = record known { shape = Some value }
with_slot_word known SeedWord value = record known { seed = Some value }
with_slot_word known FutureWord value = record known { future = Some value }
with_slot_word known SerialWord value = record known { serial = Some value }
with_slot_word known StateWord value = known
with_slot_word known (LoadedSection caller) value = known

slot_word_is : (w : SlotWord) → IsTableWord w → IsSlotWord w
slot_word_is StateWord of_table = absurd of_table
slot_word_is (LoadedSection caller) of_table = absurd of_table
slot_word_is _ of_table = tt

module _ (env : Env) (mix : ℕ → ℕ → ℕ → ℕ) (c : ℕ) (h : Holding) (known : Known) where
  -- what the call holds with this slot and these pages, and what the caller knows with this known of them
  abbrev pub holding : Option ℕ → List ℕ → Holding
  holding slot pages = record h { slot = slot; pages = pages }

  abbrev pub knowing : Option ℕ → List ℕ → KnownMaking → Memory → Ghost → Type 0
  knowing slot pages making M G = Knowing env mix c (holding slot pages) (record known { making = making }) M G

  module _ (words : List ℕ) (G : Ghost) (all : length words ≡ words_in env.geometry)
      (whole : Whole env mix (mem env mix words) G) where
    abbrev M : Memory
    M = mem env mix words

    same_tables : TablesKept env mix G G.table G.attached G.slot G.page
    same_tables = same_kept env mix G G.table G.attached G.slot G.page whole.tables.current_in (λ τ l. refl) (omega arith)
        (λ t is. refl) (λ t has l. refl) (λ p τ is. is) (λ p τ l is. is) (none_fresh env mix G _)

    -- a known word of the slot that stays
    known_word : (slot : KnownSlot) (M' : Memory) (w : SlotWord) (word : Option ℕ)
        → M' (Slot slot.slot w) ≡ M (Slot slot.slot w) → IfSome word (λ v. M (Slot slot.slot w) ≡ v)
        → IfSome word (λ v. M' (Slot slot.slot w) ≡ v)
    known_word slot M' w None same is = tt
    known_word slot M' w (Some v) same is = same ∙ is

    -- ---- a slot

    abbrev pub slot_exchange : ℕ → Op
    slot_exchange s = Exchange (place_of env.geometry (Slot s StateWord)) 0 1

    -- the exchange that finds the slot free
    pub take_slot_step : (s : ℕ) → s < 8 → old_of words (slot_exchange s) ≡ 0 → knowing None [] MakesNothing M G
        → SilentStep env mix c words G (slot_exchange s) (holding None []) (holding (Some s) [])
        (knowing (Some s) [] (HasTaken (bare_slot s) []))
    take_slot_step s l found knows =
        let op = slot_exchange s in
        let M' = mem env mix (applied words op) in
        let value : word_after (old_of words op) op ≡ 1 = ap (λ w. cond (w == 0) 1 w) found in
        let write : IsWrite env.geometry M M' (Slot s StateWord) 1 =
        subst (λ v. IsWrite env.geometry M M' (Slot s StateWord) v) value
        (is_write env.geometry words (Slot s StateWord) op all (l, tt) refl) in
        let taken = take_slot env mix c s M M' G whole l found write in
        silent env mix c words G op (holding None []) (holding (Some s) [])
        (knowing (Some s) [] (HasTaken (bare_slot s) [])) (TakesSlot s) whole taken.1 tt taken.0
        (record { within = l; taking = refl; free = found; none = refl; holds = refl })
        (Knowing-retabled env mix M M' G G.table G.attached (put G.slot s (SlotHeld c)) G.page whole
        (slots_kept env mix s (SlotHeld c) M M' G whole l (ap has_table taken.1) refl (λ d e. cc) write)
        (Slot s StateWord) 1 write (state_word-apart G s) c (holding None [])
        (record known { making = MakesNothing }) (Some s) [] (HasTaken (bare_slot s) []) knows
        (put-all (λ t o. slot_holder o ≡ Some c → Some s ≡ Some t) G.slot s (SlotHeld c) (λ e. refl)
        (λ t ne held. let none = knows.only.slots t held in absurd (cc)))
        knows.only.pages_in
        (record {
          slot = record {
            has = record { within = l; mine = put-same G.slot s (SlotHeld c) };
            shape = tt;
            seed = tt;
            future = tt;
            serial = tt;
          };
          mine = λ p i. absurd i;
        }))

    -- one that doesn't leaves the word
    pub lose_slot_step : (s : ℕ) (slot : Option ℕ) (pages : List ℕ) (making : KnownMaking)
        → old_of words (slot_exchange s) ≢ 0 → knowing slot pages making M G
        → SilentStep env mix c words G (slot_exchange s) (holding slot pages) (holding slot pages)
        (knowing slot pages making)
    lose_slot_step s slot pages making found knows =
        let op = slot_exchange s in
        loads env mix c words G op (holding slot pages) (holding slot pages) (knowing slot pages making) whole
        (ap (λ t. cond t 1 (old_of words op)) (ne_eqb (old_of words op) 0 found)) refl knows

    -- the store that gives the slot back, once no page is left
    pub give_slot_step : (slot : KnownSlot) → knowing (Some slot.slot) [] (HasTaken slot []) M G
        → SilentStep env mix c words G (Store (place_of env.geometry (Slot slot.slot StateWord)) 0)
        (holding (Some slot.slot) []) (holding None []) (knowing None [] MakesNothing)
    give_slot_step slot knows =
        let s = slot.slot in
        let op = Store (place_of env.geometry (Slot s StateWord)) 0 in
        let M' = mem env mix (applied words op) in
        let has = knows.means.making.slot.has in
        let write = is_write env.geometry words (Slot s StateWord) op all (has.within, tt) refl in
        silent env mix c words G op (holding (Some s) []) (holding None []) (knowing None [] MakesNothing)
        (GivesSlot s) whole (ap slot_holder has.mine) tt
        (give_slot env mix c s M M' G whole has.within (ap slot_holder has.mine) write)
        (record { within = has.within; giving = refl; has = refl; empty = refl; holds = refl })
        (Knowing-retabled env mix M M' G G.table G.attached (put G.slot s SlotFree) G.page whole
        (slots_kept env mix s SlotFree M M' G whole has.within (ap has_table has.mine) refl (λ d e. cc) write)
        (Slot s StateWord) 0 write (state_word-apart G s) c (holding (Some s) [])
        (record known { making = HasTaken slot [] }) None [] MakesNothing knows
        (put-all (λ t o. slot_holder o ≡ Some c → ◌≡◌ {A = Option ℕ} None (Some t)) G.slot s SlotFree (λ e. absurd (cc))
        (λ t ne held. let same = knows.only.slots t held in absurd (ne (cc))))
        knows.only.pages_in tt)

    -- ---- a word of the slot

    -- the words of the slot, after one of them was stored
    slot_known : (slot : KnownSlot) (w : SlotWord) (value : ℕ) (M' : Memory) → IsTableWord w
        → SlotMeans env mix c M G slot → IsWrite env.geometry M M' (Slot slot.slot w) value
        → SlotMeans env mix c M' G (with_slot_word slot w value)
    slot_known slot w value M' of_table means write = go w of_table write
      where
        stays : (w u : SlotWord) (word : Option ℕ) → IsTableWord u → IsWrite env.geometry M M' (Slot slot.slot w) value
            → Slot slot.slot u ≢ Slot slot.slot w → IfSome word (λ v. M (Slot slot.slot u) ≡ v)
            → IfSome word (λ v. M' (Slot slot.slot u) ≡ v)
        stays w u None table write differs is = tt
        stays w ShapeWord (Some v) table write differs is =
            write.others (Slot slot.slot ShapeWord) (means.has.within, tt) differs ∙ is
        stays w SeedWord (Some v) table write differs is =
            write.others (Slot slot.slot SeedWord) (means.has.within, tt) differs ∙ is
        stays w FutureWord (Some v) table write differs is =
            write.others (Slot slot.slot FutureWord) (means.has.within, tt) differs ∙ is
        stays w SerialWord (Some v) table write differs is =
            write.others (Slot slot.slot SerialWord) (means.has.within, tt) differs ∙ is
        stays w StateWord (Some v) table write differs is = absurd table
        stays w (LoadedSection caller) (Some v) table write differs is = absurd table

        go : (w : SlotWord) → IsTableWord w → IsWrite env.geometry M M' (Slot slot.slot w) value
            → SlotMeans env mix c M' G (with_slot_word slot w value)
        go ShapeWord table write = record {
          has = means.has;
          shape = write.same;
          seed = stays ShapeWord SeedWord slot.seed tt write (λ e. cc) means.seed;
          future = stays ShapeWord FutureWord slot.future tt write (λ e. cc) means.future;
          serial = stays ShapeWord SerialWord slot.serial tt write (λ e. cc) means.serial;
        }
        go SeedWord table write = record {
          has = means.has;
          shape = stays SeedWord ShapeWord slot.shape tt write (λ e. cc) means.shape;
          seed = write.same;
          future = stays SeedWord FutureWord slot.future tt write (λ e. cc) means.future;
          serial = stays SeedWord SerialWord slot.serial tt write (λ e. cc) means.serial;
        }
        go FutureWord table write = record {
          has = means.has;
          shape = stays FutureWord ShapeWord slot.shape tt write (λ e. cc) means.shape;
          seed = stays FutureWord SeedWord slot.seed tt write (λ e. cc) means.seed;
          future = write.same;
          serial = stays FutureWord SerialWord slot.serial tt write (λ e. cc) means.serial;
        }
        go SerialWord table write = record {
          has = means.has;
          shape = stays SerialWord ShapeWord slot.shape tt write (λ e. cc) means.shape;
          seed = stays SerialWord SeedWord slot.seed tt write (λ e. cc) means.seed;
          future = stays SerialWord FutureWord slot.future tt write (λ e. cc) means.future;
          serial = write.same;
        }
        go StateWord table write = absurd table
        go (LoadedSection caller) table write = absurd table

    pub fill_slot_step : (slot : KnownSlot) (w : SlotWord) (value : ℕ) (pages : List ℕ) → IsTableWord w
        → knowing (Some slot.slot) pages (HasTaken slot pages) M G
        → SilentStep env mix c words G (Store (place_of env.geometry (Slot slot.slot w)) value)
        (holding (Some slot.slot) pages) (holding (Some slot.slot) pages)
        (knowing (Some slot.slot) pages (HasTaken (with_slot_word slot w value) pages))
    fill_slot_step slot w value pages of_table knows =
        let s = slot.slot in
        let op = Store (place_of env.geometry (Slot s w)) value in
        let M' = mem env mix (applied words op) in
        let has = knows.means.making.slot.has in
        let write = is_write env.geometry words (Slot s w) op all (has.within, slot_word_is w of_table) refl in
        silent env mix c words G op (holding (Some s) pages) (holding (Some s) pages)
        (knowing (Some s) pages (HasTaken (with_slot_word slot w value) pages)) Quiet whole tt tt
        (fill_slot env mix c s w value M M' G whole has of_table write)
        (record {
          holds = refl;
          leaves = inr (inr (inl (record {
            slot = s;
            word = w;
            within = has.within;
            of_table = of_table;
            has = refl;
            place = refl;
          })));
        })
        (Knowing-retabled env mix M M' G G.table G.attached G.slot G.page whole same_tables (Slot s w) value write
        (table_word-apart G s w of_table) c (holding (Some s) pages) (record known { making = HasTaken slot pages }) (Some s)
        pages (HasTaken (with_slot_word slot w value) pages) knows knows.only.slots knows.only.pages_in
        (record {
          slot = slot_known slot w value M' of_table knows.means.making.slot write;
          mine = knows.means.making.mine;
        }))

    -- ---- the next serial

    pub serial_step : (slot : KnownSlot) (pages : List ℕ) → knowing (Some slot.slot) pages (HasTaken slot pages) M G
        → SilentStep env mix c words G (Add (place_of env.geometry NextSerial) 1) (holding (Some slot.slot) pages)
        (holding (Some slot.slot) pages) (knowing (Some slot.slot) pages (HasTaken slot pages))
    serial_step slot pages knows =
        let op = Add (place_of env.geometry NextSerial) 1 in
        let M' = mem env mix (applied words op) in
        let value = word_after (old_of words op) op in
        let write = is_write env.geometry words NextSerial op all tt refl in
        let means = knows.means.making in
        let has = means.slot.has in
        let stays : (w : SlotWord) → IsSlotWord w → M' (Slot slot.slot w) ≡ M (Slot slot.slot w) =
        λ w is. write.others (Slot slot.slot w) (has.within, is) (λ e. cc) in
        silent env mix c words G op (holding (Some slot.slot) pages) (holding (Some slot.slot) pages)
        (knowing (Some slot.slot) pages (HasTaken slot pages)) Quiet whole tt tt
        (take_serial env mix c value M M' G whole write)
        (record { holds = refl; leaves = inr (inr (inr refl)) })
        (Knowing-retabled env mix M M' G G.table G.attached G.slot G.page whole same_tables NextSerial value write
        (record {
          nodes = λ n u e. cc;
          buckets = λ j plain e. cc;
          map = λ i e. cc;
          count = λ e. cc;
          sections = record { own = λ k e. cc; kept = λ s k e. cc };
        }) c
        (holding (Some slot.slot) pages) (record known { making = HasTaken slot pages }) (Some slot.slot) pages
        (HasTaken slot pages) knows knows.only.slots knows.only.pages_in
        (record {
          slot = record {
            has = has;
            shape = known_word slot M' ShapeWord slot.shape (stays ShapeWord tt) means.slot.shape;
            seed = known_word slot M' SeedWord slot.seed (stays SeedWord tt) means.slot.seed;
            future = known_word slot M' FutureWord slot.future (stays FutureWord tt) means.slot.future;
            serial = known_word slot M' SerialWord slot.serial (stays SerialWord tt) means.slot.serial;
          };
          mine = means.mine;
        }))

    -- ---- pages

    -- the caller's slot keeps its words
    slot_stays : (slot : KnownSlot) (M' : Memory) (index value : ℕ)
        → IsWrite env.geometry M M' (PageMap index) value → SlotMeans env mix c M G slot
        → (page : ℕ → PageOwner) → SlotMeans env mix c M' (record G { page = page }) slot
    slot_stays slot M' index value write means page = record {
      has = record { within = means.has.within; mine = means.has.mine };
      shape = known_word slot M' ShapeWord slot.shape (stays ShapeWord tt) means.shape;
      seed = known_word slot M' SeedWord slot.seed (stays SeedWord tt) means.seed;
      future = known_word slot M' FutureWord slot.future (stays FutureWord tt) means.future;
      serial = known_word slot M' SerialWord slot.serial (stays SerialWord tt) means.serial;
    }
      where
        stays : (w : SlotWord) → IsSlotWord w → M' (Slot slot.slot w) ≡ M (Slot slot.slot w)
        stays w is = write.others (Slot slot.slot w) (means.has.within, is) (λ e. cc)

    -- the pages that it has are its own
    pages_mine : (slot : Option KnownSlot) (pages : List ℕ) → MakingMeans env mix c M G (taken_for slot pages)
        → ArePagesMine env mix c G pages
    pages_mine None pages means = means
    pages_mine (Some slot) pages means = means.mine

    -- and so are others, where its slot keeps its words
    pages_known : (slot : Option KnownSlot) (pages after : List ℕ) (M' : Memory) (index value : ℕ)
        → IsWrite env.geometry M M' (PageMap index) value → MakingMeans env mix c M G (taken_for slot pages)
        → (page : ℕ → PageOwner) → ArePagesMine env mix c (record G { page = page }) after
        → MakingMeans env mix c M' (record G { page = page }) (taken_for slot after)
    pages_known None pages after M' index value write means page mine = mine
    pages_known (Some slot) pages after M' index value write means page mine =
        record { slot = slot_stays slot M' index value write means.slot page; mine = mine }

    -- the operation that clears these bits of a word of the map, which it found set
    pub take_pages_step : (slot : Option KnownSlot) (index bits : ℕ) (op : Op) (pages after : List ℕ)
        → index < map_words env.geometry.pages
        → ((p : ℕ) → has_bit index bits p ≡ true → p < env.geometry.pages)
        → ClearsBits env.geometry index bits op (old_of words op)
        → ((p : ℕ) → In p after ↔ (In p pages ⊎ (has_bit index bits p ≡ true)))
        → knowing (slot_for slot) pages (taken_for slot pages) M G
        → SilentStep env mix c words G op (holding (slot_for slot) pages) (holding (slot_for slot) after)
        (knowing (slot_for slot) after (taken_for slot after))
    take_pages_step slot index bits op pages after l among clears more knows =
        let M' = mem env mix (applied words op) in
        let value = word_after (old_of words op) op in
        let same : old_of words op ≡ M (PageMap index) = ap (λ p. slice_index words p) clears.on in
        let write : IsWrite env.geometry M M' (PageMap index) value =
        subst (λ w. IsWrite env.geometry M M' (PageMap index) (word_after w op)) (sym same)
        (is_write env.geometry words (PageMap index) op all l clears.on) in
        let mine = pages_mine slot pages knows.means.making in
        let found : (bit : ℕ) → bit < 64 → bit_at bits bit ≡ 1 → bit_at (M (PageMap index)) bit ≡ 1 =
        λ bit k is. ap (λ w. bit_at w bit) (sym same) ∙ clears.found bit k is in
        let others : (bit : ℕ) → bit < 64 → bit_at bits bit ≢ 1 → bit_at value bit ≡ bit_at (M (PageMap index)) bit =
        λ bit k is. clears.others bit k is ∙ ap (λ w. bit_at w bit) same in
        let taken = take_pages env mix c index bits value M M' G whole among found write clears.cleared others in
        silent env mix c words G op (holding (slot_for slot) pages) (holding (slot_for slot) after)
        (knowing (slot_for slot) after (taken_for slot after)) (TakesPages index bits) whole taken.1 tt taken.0
        (record { clears = clears; pages = more; holds = refl })
        (Knowing-retabled env mix M M' G G.table G.attached G.slot (put_in (has_bit index bits) (PageHeld c) G.page)
        whole (pages_kept env mix index bits PageFree (PageHeld c) G taken.1 (λ τ e. cc) (λ τ e. cc) whole.tables.current_in)
        (PageMap index) value write (map_word-apart G index) c
        (holding (slot_for slot) pages) (record known { making = taken_for slot pages }) (slot_for slot) after
        (taken_for slot after) knows knows.only.slots
        (put_in-all (λ p o. o ≡ PageHeld c → In p after) (has_bit index bits) (PageHeld c) G.page
        (λ p there is. (more p).1 (inr there)) (λ p there is. (more p).1 (inl (knows.only.pages_in p is))))
        (pages_known slot pages after M' index value write knows.means.making (put_in (has_bit index bits) (PageHeld c) G.page)
        (put_in-all (λ p o. In p after → o ≡ PageHeld c) (has_bit index bits) (PageHeld c) G.page
        (λ p there i. refl)
        (λ p there i. elim ((more p).0 i) [
          | inl had ↦ mine p had
          | inr now ↦ absurd (both_ways (has_bit index bits p) there now)
        ]))))

    -- And the one that sets them, which gives these pages back. Whatever the caller knew of its slot and pages, what it knows of them then
    -- is what follows from the pages that are left, where it follows.
    pub give_pages_so : (slot : Option ℕ) (making more : KnownMaking) (index bits : ℕ) (op : Op) (pages after : List ℕ)
        → index < map_words env.geometry.pages
        → ((p : ℕ) → has_bit index bits p ≡ true → p < env.geometry.pages)
        → SetsBits env.geometry index bits op (old_of words op)
        → ((p : ℕ) → has_bit index bits p ≡ true → In p pages)
        → ((p : ℕ) → In p after ↔ (In p pages × (has_bit index bits p ≡ false)))
        → ArePagesMine env mix c G pages
        → ((value : ℕ) → IsWrite env.geometry M (mem env mix (applied words op)) (PageMap index) value
        → ArePagesMine env mix c (with_pages G index bits PageFree) after
        → MakingMeans env mix c (mem env mix (applied words op)) (with_pages G index bits PageFree) more)
        → knowing slot pages making M G
        → SilentStep env mix c words G op (holding slot pages) (holding slot after) (knowing slot after more)
    give_pages_so slot making more index bits op pages after l among sets had less has_pages known_so knows =
        let M' = mem env mix (applied words op) in
        let value = word_after (old_of words op) op in
        let same : old_of words op ≡ M (PageMap index) = ap (λ p. slice_index words p) sets.on in
        let write : IsWrite env.geometry M M' (PageMap index) value =
        subst (λ w. IsWrite env.geometry M M' (PageMap index) (word_after w op)) (sym same)
        (is_write env.geometry words (PageMap index) op all l sets.on) in
        let mine : ArePagesOf env mix G index bits (PageHeld c) =
        record { among = among; owned = λ p there. has_pages p (had p there) } in
        let others : (bit : ℕ) → bit < 64 → bit_at bits bit ≢ 1 → bit_at value bit ≡ bit_at (M (PageMap index)) bit =
        λ bit k is. sets.others bit k is ∙ ap (λ w. bit_at w bit) same in
        silent env mix c words G op (holding slot pages) (holding slot after) (knowing slot after more)
        (GivesPages index bits) whole mine tt
        (give_pages env mix c index bits value M M' G whole mine write sets.set others)
        (record { sets = sets; had = had; pages = less; holds = refl })
        (Knowing-retabled env mix M M' G G.table G.attached G.slot (put_in (has_bit index bits) PageFree G.page)
        whole (pages_kept env mix index bits (PageHeld c) PageFree G mine (λ τ e. cc) (λ τ e. cc) whole.tables.current_in)
        (PageMap index) value write (map_word-apart G index) c
        (holding slot pages) (record known { making = making }) slot after more knows knows.only.slots
        (put_in-all (λ p o. o ≡ PageHeld c → In p after) (has_bit index bits) PageFree G.page
        (λ p there is. absurd (cc)) (λ p there is. (less p).1 (knows.only.pages_in p is, there)))
        (known_so value write
        (put_in-all (λ p o. In p after → o ≡ PageHeld c) (has_bit index bits) PageFree G.page
        (λ p there i. absurd (both_ways (has_bit index bits p) ((less p).0 i).1 there))
        (λ p there i. has_pages p ((less p).0 i).0))))

    pub give_pages_step : (slot : Option KnownSlot) (index bits : ℕ) (op : Op) (pages after : List ℕ)
        → index < map_words env.geometry.pages
        → ((p : ℕ) → has_bit index bits p ≡ true → p < env.geometry.pages)
        → SetsBits env.geometry index bits op (old_of words op)
        → ((p : ℕ) → has_bit index bits p ≡ true → In p pages)
        → ((p : ℕ) → In p after ↔ (In p pages × (has_bit index bits p ≡ false)))
        → knowing (slot_for slot) pages (taken_for slot pages) M G
        → SilentStep env mix c words G op (holding (slot_for slot) pages) (holding (slot_for slot) after)
        (knowing (slot_for slot) after (taken_for slot after))
    give_pages_step slot index bits op pages after l among sets had less knows =
        give_pages_so (slot_for slot) (taken_for slot pages) (taken_for slot after) index bits op pages after l among sets had less
        (pages_mine slot pages knows.means.making)
        (λ value write mine. pages_known slot pages after _ index value write knows.means.making _ mine) knows
