-- The operations by which the caller that does the work gives back what was a retired table's, as steps: pages are withdrawn from a
-- nested one, and each is given back; the table is taken back with the first pages of its run, or with its top page; then the other
-- pages, and the slot.
use Rattle.std.proofs.Common.{◌≡◌, ◌≢◌, ◌↔◌, ℕ, ◌+◌, ◌-◌, ◌*◌, ◌/◌, ◌%◌, ◌<◌, ◌≤◌, List, [], ◌∷◌, length, Option, Some, None, cond, true, false, refl, sym, ◌∙◌, ap, subst, inl, inr, arith}
use Rattle.std.proofs.lemmas.Bool.{cases_lt, le-ltb, both_ways}
use Rattle.rht_words.specs.declared.env.Env.{Env}
use Rattle.rht_words.specs.declared.op.Op.{Op}
use Rattle.rht_words.specs.declared.op.Op.TheVariants.{Store}
use Rattle.rht_words.specs.declared.machine.Next.TheVariants.{Go, Done}
use Rattle.rht_words.specs.Members.{In}
use Rattle.rht_words.specs.Operations.{old_of, word_after, applied}
use Rattle.rht_words.specs.Places.{Slot, StateWord, PageMap, PageWord, place_of, words_in}
use Rattle.rht_words.specs.Shapes.{unpacked, size_of}
use Rattle.rht_words.proofs.ShapeSizes.{IsSizeUpTo-size_of}
use Rattle.rht_words.proofs.Memory.{Memory, IsWrite, is_write}
use Rattle.rht_arena.specs.PageRuns.{run_bits, IsRunIn, IsRunWord}
use Rattle.rht_arena.specs.GiveRun.{GiveRunModel, give_run_new, give_run_plan, give_run_after, pages_of_give_run, IsGiveRunIn}
use Rattle.rht_nest.specs.Place.{top_page}
use Rattle.rht_ghost.proofs.Theory.Ghosts.{Leaf, Middle, Top, has_entries, PageOf, SlotFree, Retired, Ghost, IsOver, put, put-all, is_entry_of, entry_word, table_at, table_of_page, has_table, slot_holder, has_bit}
use Rattle.rht_ghost.proofs.Theory.Ways.{first_page, entries_in}
use Rattle.rht_ghost.proofs.Theory.Wholes.{IsNested, Whole}
use Rattle.rht_ghost.proofs.Theory.Entries.{word_leads}
use Rattle.rht_ghost.proofs.Theory.BareTables.{top-alone, all-bare}
use Rattle.rht_ghost.proofs.Theory.Departures.{withdrawn, CanWithdraw, CanTakeBack}
use Rattle.rht_ghost.proofs.Theory.TableFrames.{Knowing-retabled}
use Rattle.rht_ghost.proofs.Theory.Knowns.{Known, KnownMaking, MakesNothing, HasPages, HasBack, KnownWork, Works, GivesBack, InRun, AtTop, AtLeaf, ClearsLeaf, ClearsTop}
use Rattle.rht_ghost.proofs.Theory.Knowledge.{DoesWork, IsOverAt, IsRunOver, IsTakenDown, IsAtLeaf, IsClearingLeaf, IsClearingTop, WorkMeans, Knowing}
use Rattle.rht_ghost.proofs.Theory.Steps.{GivesSlot, Withdraws, TakesBack, Holding, mem, SilentStep, silent, silent-map}
use Rattle.rht_ghost.proofs.Moves.Slots.{state_word-apart, slots_kept, give_slot}
use Rattle.rht_ghost.proofs.Moves.Withdrawing.{withdraw, withdrawn-entry, withdrawn-other, withdrawn-none, withdrawn-shape, withdrawn-page, withdrawn-works, withdrawn-knowing}
use Rattle.rht_ghost.proofs.Moves.TakingBack.{take_back, taken_back-slot, taken_back-mine, taken_back-works, taken_back-knowing}
use Rattle.rht_ghost.proofs.Pieces.WorkSteps.{knows_work}
use Rattle.rht_ghost.proofs.Theory.GivingStays.{retired-within}
use Rattle.rht_ghost.proofs.Pieces.Holdings.{give_pages_so}
use Rattle.rht_ghost.proofs.Pieces.RunPages.{given-range}
use Rattle.rht_ghost.proofs.Pieces.PageRuns.{given_behind, yet-is, is-yet, bit_in, word_within, run_among, sets_run, run_had, run_less, give_run_step}
use Rattle.rht_ghost.proofs.Pieces.ReturnLoads.{flat_placed, down-nested, top_entry, top_behind, top_part}

module _ (env : Env) (mix : ℕ → ℕ → ℕ → ℕ) (c : ℕ) (h : Holding) where
  -- what the call holds with this slot and these pages, and what the caller knows of its work
  abbrev pub holding : Option ℕ → List ℕ → Holding
  holding slot pages = record h { slot = slot; pages = pages }

  abbrev pub knowing : Option ℕ → List ℕ → KnownMaking → KnownWork → Memory → Ghost → Type 0
  knowing slot pages making work M G = Knowing env mix c (holding slot pages) (knows_work making work) M G

  module _ (words : List ℕ) (G : Ghost) (all : length words ≡ words_in env.geometry)
      (whole : Whole env mix (mem env mix words) G) where
    abbrev M : Memory
    M = mem env mix words

    abbrev after : Op → Memory
    after op = mem env mix (applied words op)

    -- ---- a page is withdrawn

    -- an entry of a retired table to which no open section comes can be cleared, where it leads to a page of which none leads on
    can_withdraw : (slot j p : ℕ) (is : IsOverAt env mix G slot) → G.worker ≡ Some c → G.page (j / 64) ≡ PageOf is.table
        → has_entries ((G.table is.table).part (j / 64)) ≡ true → (G.table is.table).entry j ≡ Some p
        → (has_entries ((G.table is.table).part p) ≡ true → (i : ℕ) → i / 64 ≡ p → (G.table is.table).entry i ≡ None)
        → CanWithdraw env mix c j p G
    can_withdraw slot j p is works of has leads bare =
        let at : table_at G j ≡ is.table = ap table_of_page of in
        record {
          slot = slot;
          going = record {
            works = works;
            retired = is.retired ∙ ap Retired (sym at);
            over = subst (IsOver G) (sym at) is.over;
          };
          of = of ∙ ap PageOf (sym at);
          entry = ap (λ o. is_entry_of G.table o (j / 64)) of ∙ has;
          leads = ap (λ σ. (G.table σ).entry j) at ∙ leads;
          bare = λ has_too i inside. ap (λ σ. (G.table σ).entry i) at
              ∙ bare (sym (ap (λ σ. has_entries ((G.table σ).part p)) at) ∙ has_too) i inside;
        }

    -- such a store, behind which the caller has the page
    module _ (works_lock : h.worker ≡ true) (j p : ℕ) (can : CanWithdraw env mix c j p G) (l : j < 64 * env.geometry.pages) where
      abbrev clears : Op
      clears = Store (place_of env.geometry (PageWord j)) 0

      write : IsWrite env.geometry M (after clears) (PageWord j) 0
      write = is_write env.geometry words (PageWord j) clears all l refl

      withdraw_step : (known more : KnownWork) → knowing None [] MakesNothing known M G
          → WorkMeans env mix c (after clears) (withdrawn G c j p) more
          → SilentStep env mix c words G clears (holding None []) (holding None (p ∷ []))
          (knowing None (p ∷ []) (HasPages (p ∷ [])) more)
      withdraw_step known more knows means =
          silent env mix c words G clears (holding None []) (holding None (p ∷ []))
          (knowing None (p ∷ []) (HasPages (p ∷ [])) more) (Withdraws j p) whole can tt
          (withdraw env mix c j p M (after clears) G whole can write)
          (record {
            within = l;
            clearing = refl;
            found = whole.entries j l can.entry ∙ ap entry_word can.leads;
            works = works_lock;
            none = refl;
            pages = λ q. (
              (λ i. elim i [ inl e ↦ inr e | inr none ↦ absurd none ]),
              (λ one. elim one [ inl none ↦ absurd none | inr e ↦ inl e ]),
            );
            holds = refl;
          })
          (withdrawn-knowing env mix c j p M (after clears) G whole can write (holding None []) (knows_work MakesNothing known)
          (p ∷ []) (HasPages (p ∷ [])) more knows (λ q none. absurd none) (inl refl)
          (λ q i. elim i [
            | inl e ↦ ap (withdrawn G c j p).page e ∙ withdrawn-page env mix c j p M (after clears) G whole can write
            | inr none ↦ absurd none
          ]) means)

    -- of a page of entries
    module _ (works_lock : h.worker ≡ true) (slot shape top page leaf below : ℕ) (l : top < 64) (k : leaf < 64)
        (knows : knowing None [] MakesNothing (GivesBack slot (ClearsLeaf shape top page leaf below)) M G) where
      abbrev is_clearing : IsClearingLeaf env mix G slot shape top page leaf below
      is_clearing = knows.means.work.more

      abbrev is_leaf : IsAtLeaf env mix G slot shape top page leaf
      is_leaf = is_clearing.at

      abbrev is_down : IsTakenDown env mix G slot shape top
      is_down = is_leaf.down

      abbrev τ : ℕ
      τ = is_down.going.table

      leaf_nested : IsNested env mix (G.table τ) G.page τ
      leaf_nested = down-nested env mix c M G whole slot shape top is_down

      middle : (G.table τ).part page ≡ Middle top
      middle =
          top_part env mix c M G whole slot shape top is_down top page l is_leaf.leads
          ∙ ap (λ t. cond t (Middle top) (Leaf top)) is_leaf.deep

      of_page : G.page page ≡ PageOf τ
      of_page = (top_behind env mix c M G whole slot shape top is_down top page l is_leaf.leads).of

      abbrev j : ℕ
      j = 64 * page + leaf

      quotient : j / 64 ≡ page
      quotient = omega (arith, k)

      of_j : G.page (j / 64) ≡ PageOf τ
      of_j = ap G.page quotient ∙ of_page

      at_j : table_at G j ≡ τ
      at_j = ap table_of_page of_j

      below_part : (G.table τ).part below ≡ Leaf (top + entries_in (G.table τ).shape * leaf)
      below_part = (word_leads env mix (G.table τ) G.page τ leaf_nested (Middle top) page leaf below k of_page middle refl
          is_clearing.leads_on).part_is

      can_leaf : CanWithdraw env mix c j below G
      can_leaf = can_withdraw slot j below is_down.going knows.means.work.works.0 of_j
          (ap (λ q. has_entries ((G.table τ).part q)) quotient ∙ ap has_entries middle) is_clearing.leads_on
          (λ has. absurd (both_ways (has_entries ((G.table τ).part below)) (ap has_entries below_part) has))

      -- the entry of the top page is another one
      not_top : 64 * first_page shape + top ≢ j
      not_top e =
          let same : first_page shape ≡ page = omega (arith, e, l, k) in
          let z : Top ≡ Middle top =
          sym leaf_nested.top_part ∙ ap (λ s. (G.table τ).part (first_page s)) is_down.shape_is
          ∙ ap (G.table τ).part same ∙ middle in
          cc

      within_j : j < 64 * env.geometry.pages
      within_j =
          let low = (top_behind env mix c M G whole slot shape top is_down top page l is_leaf.leads).within in
          omega (arith, low, k)

      -- an entry of a page of entries is cleared
      pub withdraw_leaf_step : SilentStep env mix c words G (Store (place_of env.geometry (PageWord j)) 0) (holding None [])
          (holding None (below ∷ []))
          (knowing None (below ∷ []) (HasPages (below ∷ [])) (GivesBack slot (AtLeaf shape top page (leaf + 1))))
      withdraw_leaf_step =
          let op = Store (place_of env.geometry (PageWord j)) 0 in
          let written : IsWrite env.geometry M (after op) (PageWord j) 0 =
          is_write env.geometry words (PageWord j) op all within_j refl in
          let G' = withdrawn G c j below in
          let none : (i : ℕ) → (G.table τ).entry i ≡ None → (G'.table τ).entry i ≡ None =
          withdrawn-none env mix c j below M (after op) G whole can_leaf written τ in
          withdraw_step works_lock j below can_leaf within_j (GivesBack slot (ClearsLeaf shape top page leaf below))
          (GivesBack slot (AtLeaf shape top page (leaf + 1))) knows
          (record {
            works = withdrawn-works env mix c j below M (after op) G whole can_leaf written None knows.means.work.works;
            more = record {
              down = record {
                going = record { table = τ; retired = is_down.going.retired; over = is_down.going.over };
                shape_is = withdrawn-shape env mix c j below M (after op) G whole can_leaf written τ ∙ is_down.shape_is;
                nested = is_down.nested;
                bare = λ i m. none (64 * first_page shape + i) (is_down.bare i m);
              };
              deep = is_leaf.deep;
              leads =
                  withdrawn-other env mix c j below M (after op) G whole can_leaf written τ (64 * first_page shape + top) not_top
                  ∙ is_leaf.leads;
              bare = λ i m. elim (cases_lt i leaf) [
                | inl less ↦ none (64 * page + i) (is_leaf.bare i less)
                | inr from ↦
                    let same : i ≡ leaf = omega (arith, m, from) in
                    ap (λ n. (G'.table τ).entry (64 * page + n)) same ∙ ap (λ σ. (G'.table σ).entry j) (sym at_j)
                    ∙ withdrawn-entry env mix c j below M (after op) G whole can_leaf written
              ];
            };
          })

    -- of the top page
    module _ (works_lock : h.worker ≡ true) (slot shape top page : ℕ) (l : top < 64)
        (knows : knowing None [] MakesNothing (GivesBack slot (ClearsTop shape top page)) M G) where
      abbrev is_clearing_top : IsClearingTop env mix G slot shape top page
      is_clearing_top = knows.means.work.more

      abbrev is_down_top : IsTakenDown env mix G slot shape top
      is_down_top = is_clearing_top.down

      abbrev σ : ℕ
      σ = is_down_top.going.table

      top_nested : IsNested env mix (G.table σ) G.page σ
      top_nested = down-nested env mix c M G whole slot shape top is_down_top

      abbrev i_top : ℕ
      i_top = 64 * first_page shape + top

      quotient_top : i_top / 64 ≡ first_page (G.table σ).shape
      quotient_top = let same = ap first_page is_down_top.shape_is in omega (arith, l, same)

      of_top : G.page (i_top / 64) ≡ PageOf σ
      of_top = ap G.page quotient_top ∙ top_nested.top_of

      at_top : table_at G i_top ≡ σ
      at_top = ap table_of_page of_top

      can_top : CanWithdraw env mix c i_top page G
      can_top = can_withdraw slot i_top page is_down_top.going knows.means.work.works.0 of_top
          (ap (λ q. has_entries ((G.table σ).part q)) quotient_top ∙ ap has_entries top_nested.top_part) is_clearing_top.leads
          (λ has i inside.
          let here : i ≡ 64 * page + i % 64 = omega (arith, inside) in
          ap (G.table σ).entry here ∙ is_clearing_top.bare has (i % 64) (omega arith))

      within_top : i_top < 64 * env.geometry.pages
      within_top = let low = top_nested.top_within in omega (arith, low, quotient_top, l)

      -- the page as the shape's word names it
      named : 64 * top_page env.geometry shape + top ≡ i_top
      named =
          let low = top_nested.top_within in
          let same = ap first_page is_down_top.shape_is in
          omega (arith, low, same)

      -- an entry of the top page is cleared
      pub withdraw_top_step : SilentStep env mix c words G
          (Store (place_of env.geometry (PageWord (64 * top_page env.geometry shape + top))) 0) (holding None [])
          (holding None (page ∷ []))
          (knowing None (page ∷ []) (HasPages (page ∷ [])) (GivesBack slot (AtTop shape (top + 1))))
      withdraw_top_step =
          let op = Store (place_of env.geometry (PageWord i_top)) 0 in
          let written : IsWrite env.geometry M (after op) (PageWord i_top) 0 =
          is_write env.geometry words (PageWord i_top) op all within_top refl in
          let G' = withdrawn G c i_top page in
          subst (λ i. SilentStep env mix c words G (Store (place_of env.geometry (PageWord i)) 0) (holding None [])
          (holding None (page ∷ []))
          (knowing None (page ∷ []) (HasPages (page ∷ [])) (GivesBack slot (AtTop shape (top + 1))))) (sym named)
          (withdraw_step works_lock i_top page can_top within_top (GivesBack slot (ClearsTop shape top page))
          (GivesBack slot (AtTop shape (top + 1))) knows
          (record {
            works = withdrawn-works env mix c i_top page M (after op) G whole can_top written None knows.means.work.works;
            more = record {
              going = record { table = σ; retired = is_down_top.going.retired; over = is_down_top.going.over };
              shape_is = withdrawn-shape env mix c i_top page M (after op) G whole can_top written σ ∙ is_down_top.shape_is;
              nested = is_down_top.nested;
              bare = λ i m. elim (cases_lt i top) [
                | inl less ↦
                    withdrawn-none env mix c i_top page M (after op) G whole can_top written σ (64 * first_page shape + i)
                    (is_down_top.bare i less)
                | inr from ↦
                    let same : i ≡ top = omega (arith, m, from) in
                    ap (λ n. (G'.table σ).entry (64 * first_page shape + n)) same ∙ ap (λ τ. (G'.table τ).entry i_top) (sym at_top)
                    ∙ withdrawn-entry env mix c i_top page M (after op) G whole can_top written
              ];
            };
          }))

    -- ---- a page is given back, and then the table and the rest of what was its own

    -- what is known of the work beside, while the call gives pages back
    abbrev pub about : KnownWork → Known
    about work = knows_work MakesNothing work

    -- one page takes one operation
    pub given_one : (page word : ℕ)
        → given_behind env mix c h (about Works) words G all whole (give_run_after (give_run_new env.geometry page 1) word) ≡ []
    given_one page word =
        let give = give_run_new env.geometry page 1 in
        ap (λ t. given_behind env mix c h (about Works) words G all whole
        (cond t (record give { index = give.index + 1 }, Go) (give, Done tt)))
        (le-ltb (64 * (page / 64 + 1)) (page + 1) (omega arith))

    -- a page that was withdrawn
    pub give_page_step : (page : ℕ) → page < env.geometry.pages → (known : KnownWork)
        → knowing None (page ∷ []) (HasPages (page ∷ [])) known M G
        → SilentStep env mix c words G (give_run_plan (give_run_new env.geometry page 1)) (holding None (page ∷ [])) (holding None [])
        (knowing None [] MakesNothing known)
    give_page_step page l known knows =
        let give = give_run_new env.geometry page 1 in
        let op = give_run_plan give in
        let one : pages_of_give_run give ≡ page ∷ [] = given-range env.geometry page 1 (omega (arith, l)) in
        silent-map env mix
        (λ M' G' w k. record {
          only = k.only;
          means = record { node = tt; table = tt; bucket = tt; making = tt; work = k.means.work };
        })
        (subst (λ ps. SilentStep env mix c words G op (holding None (page ∷ [])) (holding None ps)
        (knowing None ps (HasPages ps) known)) (given_one page (old_of words op))
        (subst (λ ps. SilentStep env mix c words G op (holding None ps)
        (holding None (given_behind env mix c h (about known) words G all whole (give_run_after give (old_of words op))))
        (knowing None (given_behind env mix c h (about known) words G all whole (give_run_after give (old_of words op)))
        (HasPages (given_behind env mix c h (about known) words G all whole (give_run_after give (old_of words op)))) known)) one
        (give_run_step env mix c h (about known) words G all whole None give
        (record {
          geometry_same = refl;
          run = record { some = omega arith; within = omega (arith, l) };
          word = record { from = omega arith; until = omega arith };
        })
        (subst (λ ps. knowing None ps (HasPages ps) known M G) (sym one) knows))))

    -- the table whose pages are those of this run leaves its slot with those of the first word
    module _ (works_lock : h.worker ≡ true) (first pages : ℕ) (run_in : IsRunIn env.geometry first pages)
        (in_word : IsRunWord first pages (first / 64)) (slot : ℕ) (going : IsOverAt env mix G slot)
        (of_run : (p : ℕ) → (G.page p ≡ PageOf going.table) ↔ ((first ≤ p) × (p < first + pages)))
        (bare : (j : ℕ) → G.page (j / 64) ≡ PageOf going.table → has_entries ((G.table going.table).part (j / 64)) ≡ true
        → (G.table going.table).entry j ≡ None) where
      abbrev give : GiveRunModel
      give = give_run_new env.geometry first pages

      abbrev or_first : Op
      or_first = give_run_plan give

      abbrev bits : ℕ
      bits = run_bits first pages (first / 64)

      abbrev rest : List ℕ
      rest = given_behind env mix c h (about Works) words G all whole (give_run_after give (old_of words or_first))

      -- the pages that are left
      less : (p : ℕ) → In p rest ↔ (In p (pages_of_give_run give) × (has_bit (first / 64) bits p ≡ false))
      less = run_less env mix c h (about Works) words G all whole first pages (first / 64) run_in in_word

      left_of : (p : ℕ) → In p rest → (has_bit (first / 64) bits p ≡ false) × (G.page p ≡ PageOf going.table)
      left_of p i =
          let both = (less p).0 i in
          let is = yet-is env mix c h (about Works) words G all whole give p both.0 in
          (both.1, (of_run p).1 (is.2, is.3))

      is_left : (p : ℕ) → has_bit (first / 64) bits p ≡ false → G.page p ≡ PageOf going.table → In p rest
      is_left p hasnt of =
          let within = run_in.within in
          let run = (of_run p).0 of in
          (less p).1 (
            is-yet env mix c h (about Works) words G all whole give p (omega (arith, run.1, within)) (omega (arith, run.0)) run.0 run.1,
            hasnt,
          )

      can_take : G.worker ≡ Some c → CanTakeBack env mix c slot (first / 64) bits G
      can_take works = record {
        table = going.table;
        going = record { works = works; retired = going.retired; over = going.over };
        bare = bare;
        own = record {
          among = run_among env mix c h (about Works) words G all whole first pages (first / 64) run_in in_word;
          owned = λ p has.
              let is = bit_in env mix c h (about Works) words G all whole first pages (first / 64) run_in in_word p has in
              (of_run p).1 (is.1, is.2);
        };
      }

      pub take_back_step : (known : KnownWork) → DoesWork c G None → knowing None [] MakesNothing known M G
          → SilentStep env mix c words G or_first (holding None []) (holding (Some slot) rest)
          (knowing (Some slot) rest (HasBack slot rest) Works)
      unfolding can_take
      take_back_step known works knows =
          let sets = sets_run env mix c h (about Works) words G all whole first pages (first / 64) run_in in_word in
          let value = word_after (old_of words or_first) or_first in
          let write : IsWrite env.geometry M (after or_first) (PageMap (first / 64)) value =
          is_write env.geometry words (PageMap (first / 64)) or_first all
          (word_within env mix c h (about Works) words G all whole first pages (first / 64) run_in in_word) refl in
          let can = can_take works.0 in
          let slot_in : slot < 8 = retired-within env mix M G whole slot going.table going.retired in
          silent env mix c words G or_first (holding None []) (holding (Some slot) rest)
          (knowing (Some slot) rest (HasBack slot rest) Works) (TakesBack slot (first / 64) bits) whole can tt
          (take_back env mix c slot (first / 64) bits value M (after or_first) G whole can write sets.set sets.others)
          (record { within = slot_in; sets = sets; works = works_lock; none = refl; empty = refl; holds = refl })
          (taken_back-knowing env mix c slot (first / 64) bits value M (after or_first) G whole can write sets.set sets.others
          (holding None []) (about known) rest (HasBack slot rest) Works knows refl (λ p none. absurd none) is_left
          (record {
            within = slot_in;
            back = taken_back-slot env mix c slot (first / 64) bits value M (after or_first) G whole can write sets.set sets.others;
            mine = λ p i.
                let is = left_of p i in
                taken_back-mine env mix c slot (first / 64) bits value M (after or_first) G whole can write sets.set sets.others p
                is.0 is.1;
          })
          (record {
            works = taken_back-works env mix c slot (first / 64) bits value M (after or_first) G whole can write sets.set sets.others
                None works;
            more = tt;
          }))

    -- a flat one
    pub run_pages_are : (slot first pages : ℕ) (is : IsRunOver env mix G slot first pages) → (p : ℕ)
        → (G.page p ≡ PageOf is.going.table) ↔ ((first ≤ p) × (p < first + pages))
    run_pages_are slot first pages is p =
        let τ = is.going.table in
        let flat = flat_placed env mix c M G whole slot is.going is.flat in
        let some = (IsSizeUpTo-size_of (unpacked (G.table τ).shape)).least in (
          λ of. let run = flat.run p of in (omega (arith, run.from, is.first_is), omega (arith, run.below, is.first_is, is.pages_are)),
          λ run.
              let b = 64 * (p - first) in
              let below : b < size_of (unpacked (G.table τ).shape) = omega (arith, run.0, run.1, is.pages_are, some) in
              let here : (64 * first_page (G.table τ).shape + b) / 64 ≡ p = omega (arith, run.0, is.first_is) in
              sym (ap G.page here) ∙ flat.pages b below,
        )

    pub take_back_run_step : h.worker ≡ true → (slot first pages : ℕ) → IsRunIn env.geometry first pages
        → IsRunWord first pages (first / 64) → knowing None [] MakesNothing (GivesBack slot (InRun first pages)) M G
        → let give = give_run_new env.geometry first pages in
        let op = give_run_plan give in
        let rest = given_behind env mix c h (about Works) words G all whole (give_run_after give (old_of words op)) in
        SilentStep env mix c words G op (holding None []) (holding (Some slot) rest)
        (knowing (Some slot) rest (HasBack slot rest) Works)
    take_back_run_step works_lock slot first pages run_in in_word knows =
        let is = knows.means.work.more in
        let flat = flat_placed env mix c M G whole slot is.going is.flat in
        take_back_step works_lock first pages run_in in_word slot is.going (run_pages_are slot first pages is)
        (λ j of has. absurd (both_ways (has_entries ((G.table is.going.table).part (j / 64)))
        (ap has_entries (flat.rows (j / 64) of)) has))
        (GivesBack slot (InRun first pages)) knows.means.work.works knows

    -- a nested one, once its top page is left alone
    pub take_back_top_step : h.worker ≡ true → (slot shape : ℕ) → knowing None [] MakesNothing (GivesBack slot (AtTop shape 64)) M G
        → SilentStep env mix c words G (give_run_plan (give_run_new env.geometry (top_page env.geometry shape) 1)) (holding None [])
        (holding (Some slot) []) (knowing (Some slot) [] (HasBack slot []) Works)
    take_back_top_step works_lock slot shape knows =
        let is = knows.means.work.more in
        let τ = is.going.table in
        let nested = down-nested env mix c M G whole slot shape 64 is in
        let top = top_page env.geometry shape in
        let low = nested.top_within in
        let named : top ≡ first_page (G.table τ).shape = (let same = ap first_page is.shape_is in omega (arith, low, same)) in
        let bare : (i : ℕ) → i < 64 → (G.table τ).entry (64 * first_page (G.table τ).shape + i) ≡ None =
        λ i l. top_entry env mix c M G whole slot shape 64 is i ∙ is.bare i l in
        let op = give_run_plan (give_run_new env.geometry top 1) in
        subst (λ ps. SilentStep env mix c words G op (holding None []) (holding (Some slot) ps)
        (knowing (Some slot) ps (HasBack slot ps) Works)) (given_one top (old_of words op))
        (take_back_step works_lock top 1 (record { some = omega arith; within = omega (arith, named, low) })
        (record { from = omega arith; until = omega arith }) slot is.going
        (λ p. (
          (λ of.
              let same = top-alone env mix (G.table τ) G.page τ nested bare p of in
              (omega (arith, same, named), omega (arith, same, named))),
          (λ run. let same : p ≡ first_page (G.table τ).shape = omega (arith, run.0, run.1, named) in ap G.page same ∙ nested.top_of),
        ))
        (λ j of has. all-bare env mix (G.table τ) G.page τ nested bare j of)
        (GivesBack slot (AtTop shape 64)) knows.means.work.works knows)

    -- the pages of the words behind
    give_rest_at : (slot first pages index : ℕ) (run_in : IsRunIn env.geometry first pages) (in_word : IsRunWord first pages index)
        → let give : GiveRunModel = record { geometry = env.geometry; first = first; pages = pages; index = index } in
        let op = give_run_plan give in
        let rest = given_behind env mix c h (about Works) words G all whole (give_run_after give (old_of words op)) in
        knowing (Some slot) (pages_of_give_run give) (HasBack slot (pages_of_give_run give)) Works M G
        → SilentStep env mix c words G op (holding (Some slot) (pages_of_give_run give)) (holding (Some slot) rest)
        (knowing (Some slot) rest (HasBack slot rest) Works)
    give_rest_at slot first pages index run_in in_word knows =
        let give : GiveRunModel = record { geometry = env.geometry; first = first; pages = pages; index = index } in
        let op = give_run_plan give in
        let rest = given_behind env mix c h (about Works) words G all whole (give_run_after give (old_of words op)) in
        let means = knows.means.making in
        give_pages_so env mix c h (about Works) words G all whole (Some slot) (HasBack slot (pages_of_give_run give))
        (HasBack slot rest) index (run_bits first pages index) op (pages_of_give_run give) rest
        (word_within env mix c h (about Works) words G all whole first pages index run_in in_word)
        (run_among env mix c h (about Works) words G all whole first pages index run_in in_word)
        (sets_run env mix c h (about Works) words G all whole first pages index run_in in_word)
        (run_had env mix c h (about Works) words G all whole first pages index run_in in_word)
        (run_less env mix c h (about Works) words G all whole first pages index run_in in_word) means.mine
        (λ value write mine. record { within = means.within; back = means.back; mine = mine }) knows

    pub give_rest_step : (slot : ℕ) (give : GiveRunModel) → IsGiveRunIn env.geometry give
        → let op = give_run_plan give in
        let rest = given_behind env mix c h (about Works) words G all whole (give_run_after give (old_of words op)) in
        knowing (Some slot) (pages_of_give_run give) (HasBack slot (pages_of_give_run give)) Works M G
        → SilentStep env mix c words G op (holding (Some slot) (pages_of_give_run give)) (holding (Some slot) rest)
        (knowing (Some slot) rest (HasBack slot rest) Works)
    give_rest_step slot give is =
        subst (λ g. let here : GiveRunModel = record { geometry = g; first = give.first; pages = give.pages; index = give.index } in
        let rest = given_behind env mix c h (about Works) words G all whole (give_run_after here (old_of words (give_run_plan here))) in
        knowing (Some slot) (pages_of_give_run here) (HasBack slot (pages_of_give_run here)) Works M G
        → SilentStep env mix c words G (give_run_plan here) (holding (Some slot) (pages_of_give_run here)) (holding (Some slot) rest)
        (knowing (Some slot) rest (HasBack slot rest) Works)) (sym is.geometry_same)
        (give_rest_at slot give.first give.pages give.index is.run is.word)

    -- and last the slot
    pub free_slot_step : (slot : ℕ) → knowing (Some slot) [] (HasBack slot []) Works M G
        → SilentStep env mix c words G (Store (place_of env.geometry (Slot slot StateWord)) 0) (holding (Some slot) []) (holding None [])
        (knowing None [] MakesNothing Works)
    free_slot_step slot knows =
        let op = Store (place_of env.geometry (Slot slot StateWord)) 0 in
        let means = knows.means.making in
        let write = is_write env.geometry words (Slot slot StateWord) op all (means.within, tt) refl in
        silent env mix c words G op (holding (Some slot) []) (holding None []) (knowing None [] MakesNothing Works)
        (GivesSlot slot) whole (ap slot_holder means.back) tt
        (give_slot env mix c slot M (after op) G whole means.within (ap slot_holder means.back) write)
        (record { within = means.within; giving = refl; has = refl; empty = refl; holds = refl })
        (Knowing-retabled env mix M (after op) G G.table G.attached (put G.slot slot SlotFree) G.page whole
        (slots_kept env mix slot SlotFree M (after op) G whole means.within (ap has_table means.back) refl (λ d e. cc) write)
        (Slot slot StateWord) 0 write (state_word-apart G slot) c (holding (Some slot) [])
        (knows_work (HasBack slot []) Works) None [] MakesNothing knows
        (put-all (λ t o. slot_holder o ≡ Some c → ◌≡◌ {A = Option ℕ} None (Some t)) G.slot slot SlotFree (λ e. absurd (cc))
        (λ t ne held. let same = knows.only.slots t held in absurd (ne (cc))))
        knows.only.pages_in tt)
