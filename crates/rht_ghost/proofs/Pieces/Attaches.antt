-- The exchange that is to attach the table which the caller has made behind that of a slot: it finds that no table is behind that one and
-- attaches, or leaves the future as it is, and then the caller gives the table back.
use Rattle.std.proofs.Common.{◌≡◌, ◌≢◌, ℕ, ◌+◌, ◌<◌, ◌≤◌, ◌==◌, List, [], length, Option, Some, None, cond, refl, sym, ◌∙◌, ap, subst, arith}
use Rattle.std.proofs.lemmas.Bool.{ne_eqb}
use Rattle.rht_words.specs.declared.env.Env.{Env}
use Rattle.rht_words.specs.declared.op.Op.{Op}
use Rattle.rht_words.specs.declared.op.Op.TheVariants.{Exchange}
use Rattle.rht_words.specs.Links.{future_of}
use Rattle.rht_words.specs.Members.{In}
use Rattle.rht_words.specs.Operations.{old_of, word_after, applied}
use Rattle.rht_words.specs.Places.{Slot, SeedWord, SerialWord, FutureWord, place_of, words_in}
use Rattle.rht_words.specs.Shapes.{unpacked}
use Rattle.rht_words.proofs.Memory.{Memory, IsWrite, is_write}
use Rattle.rht_words.proofs.Members.{range_with_len-In}
use Rattle.rht_arena.specs.GiveRun.{give_run_new, pages_of_give_run}
use Rattle.rht_nest.specs.Tables.{table_pages, run_first, run_pages, pages_of_table}
use Rattle.rht_nest.proofs.MakesStay.{table_pages-some}
use Rattle.rht_ghost.proofs.Theory.Ghosts.{put, put-all, put_in, put_in-all, PageHeld, PageOf, Live, slot_holder, Ghost, made_table, is_page_for}
use Rattle.rht_ghost.proofs.Theory.Wholes.{Whole, IsAt, at-there}
use Rattle.rht_ghost.proofs.Theory.Knowns.{Known, MakesNothing, HasTaken, HasMade}
use Rattle.rht_ghost.proofs.Theory.Knowledge.{IsMade}
use Rattle.rht_ghost.proofs.Theory.Readiness.{IsAttaching}
use Rattle.rht_ghost.proofs.Theory.TableFrames.{Knowing-retabled}
use Rattle.rht_ghost.proofs.Theory.Steps.{Attaches, Holding, mem, SilentStep, silent, loads}
use Rattle.rht_ghost.proofs.Moves.Slots.{table_word-apart}
use Rattle.rht_ghost.proofs.Moves.Attaching.{is_page-for, attached_kept, attach}
use Rattle.rht_words.proofs.FilteredLists.{range_with_len-from}
use Rattle.rht_ghost.proofs.Pieces.RunPages.{given-range}
use Rattle.rht_ghost.proofs.Pieces.Holdings.{bare_slot, holding, knowing}

module _ (env : Env) (mix : ℕ → ℕ → ℕ → ℕ) (c : ℕ) where
  -- the pages of a table that is made are those of its run
  module _ (M : Memory) (G : Ghost) (slot shape : ℕ) (made : IsMade env mix c M G slot shape) where
    first_is : run_first env.geometry shape ≡ (unpacked shape).page
    first_is = let fits = made.fits in omega (arith, table_pages-some (unpacked shape))

    many_is : run_pages env.geometry shape ≡ table_pages (unpacked shape)
    many_is = let fits = made.fits in let first = first_is in omega (arith, table_pages-some (unpacked shape))

    pages-in : (p : ℕ) → In p (pages_of_table env.geometry shape)
        → ((unpacked shape).page ≤ p) × (p < (unpacked shape).page + table_pages (unpacked shape))
    pages-in p i =
        let from = range_with_len-from (run_first env.geometry shape) (run_pages env.geometry shape) p i in
        let until = range_with_len-In (run_first env.geometry shape) (run_pages env.geometry shape) p i in
        (omega (arith, from, first_is), omega (arith, until, first_is, many_is))

    -- and to give them back is to give back the run
    given_pages : pages_of_give_run (give_run_new env.geometry (run_first env.geometry shape) (run_pages env.geometry shape))
        ≡ pages_of_table env.geometry shape
    given_pages = given-range env.geometry (run_first env.geometry shape) (run_pages env.geometry shape)
        (let fits = made.fits in omega (arith, first_is, many_is, fits))

  module _ (h : Holding) (known : Known) (words : List ℕ) (G : Ghost) (all : length words ≡ words_in env.geometry)
      (whole : Whole env mix (mem env mix words) G) where
    abbrev M : Memory
    M = mem env mix words

    abbrev pub attaching : ℕ → ℕ → Op
    attaching last slot = Exchange (place_of env.geometry (Slot last FutureWord)) 0 (future_of slot)

    -- what the call holds and the caller knows with a table that it has made
    abbrev pub holds_made : ℕ → ℕ → Holding
    holds_made slot shape = holding env mix c h known (Some slot) (pages_of_table env.geometry shape)

    abbrev pub knows_made : ℕ → ℕ → Memory → Ghost → Type 0
    knows_made slot shape = knowing env mix c h known (Some slot) (pages_of_table env.geometry shape) (HasMade slot shape)

    -- nothing was behind the table in this slot
    pub attach_step : (last slot shape : ℕ) → IsAt G last → old_of words (attaching last slot) ≡ 0
        → knows_made slot shape M G
        → SilentStep env mix c words G (attaching last slot) (holds_made slot shape) (holding env mix c h known None [])
        (knowing env mix c h known None [] MakesNothing)
    attach_step last slot shape at found knows =
        let op = attaching last slot in
        let M' = mem env mix (applied words op) in
        let made = knows.means.making in
        let τ = at.table in
        let there = at-there at in
        let l : last < 8 = subst (λ s. s < 8) at.slot_is (whole.tables.each τ there).slot_in in
        let value : word_after (old_of words op) op ≡ future_of slot = ap (λ w. cond (w == 0) (future_of slot) w) found in
        let write : IsWrite env.geometry M M' (Slot (G.table τ).slot FutureWord) (future_of slot) =
        subst (λ s. IsWrite env.geometry M M' (Slot s FutureWord) (future_of slot)) (sym at.slot_is)
        (subst (λ v. IsWrite env.geometry M M' (Slot last FutureWord) v) value
        (is_write env.geometry words (Slot last FutureWord) op all (l, tt) refl)) in
        let none : M (Slot (G.table τ).slot FutureWord) ≡ 0 =
        ap (λ s. M (Slot s FutureWord)) at.slot_is ∙ found in
        let seed = M (Slot slot SeedWord) in
        let serial = M (Slot slot SerialWord) in
        let ready : IsAttaching env mix c slot shape seed serial M G = record { made = made; seed_is = refl; serial_is = refl } in
        silent env mix c words G op (holds_made slot shape) (holding env mix c h known None [])
        (knowing env mix c h known None [] MakesNothing) (Attaches slot shape seed serial) whole ready tt
        (attach env mix c slot shape seed serial τ M M' G whole ready there none write)
        (record { last = last; within = l; attaching = refl; found = found; has = refl; holds = refl })
        (Knowing-retabled env mix M M' G (put G.table G.attached (made_table slot shape seed serial)) (G.attached + 1)
        (put G.slot slot (Live G.attached)) (put_in (is_page_for shape) (PageOf G.attached) G.page) whole
        (attached_kept env mix c slot shape seed serial τ M M' G whole ready there none write)
        (Slot (G.table τ).slot FutureWord) (future_of slot) write (table_word-apart G (G.table τ).slot FutureWord tt) c
        (holds_made slot shape) (record known { making = HasMade slot shape }) None [] MakesNothing knows
        (put-all (λ s o. slot_holder o ≡ Some c → ◌≡◌ {A = Option ℕ} None (Some s)) G.slot slot (Live G.attached)
        (λ e. absurd (cc)) (λ s ne held. let same = knows.only.slots s held in absurd (ne (cc))))
        (put_in-all (λ p o. o ≡ PageHeld c → In p []) (is_page_for shape) (PageOf G.attached) G.page
        (λ p there e. absurd (cc))
        (λ p there held.
        let i = pages-in M G slot shape made p (knows.only.pages_in p held) in
        let yes_ = is_page-for shape p i.0 i.1 in absurd (cc)))
        tt)

    -- a table was behind it already: the one that was made is to be given back, run by run
    pub lose_attach_step : (last slot shape : ℕ) → old_of words (attaching last slot) ≢ 0 → knows_made slot shape M G
        → let pages = pages_of_give_run
        (give_run_new env.geometry (run_first env.geometry shape) (run_pages env.geometry shape)) in
        SilentStep env mix c words G (attaching last slot) (holds_made slot shape)
        (holding env mix c h known (Some slot) pages)
        (knowing env mix c h known (Some slot) pages (HasTaken (bare_slot slot) pages))
    lose_attach_step last slot shape found knows =
        let op = attaching last slot in
        let made = knows.means.making in
        let pages = pages_of_table env.geometry shape in
        subst (λ ps. SilentStep env mix c words G op (holds_made slot shape) (holding env mix c h known (Some slot) ps)
        (knowing env mix c h known (Some slot) ps (HasTaken (bare_slot slot) ps))) (sym (given_pages M G slot shape made))
        (loads env mix c words G op (holds_made slot shape) (holding env mix c h known (Some slot) pages)
        (knowing env mix c h known (Some slot) pages (HasTaken (bare_slot slot) pages)) whole
        (ap (λ t. cond t (future_of slot) (old_of words op)) (ne_eqb (old_of words op) 0 found)) refl
        (record {
          only = knows.only;
          means = record {
            node = knows.means.node;
            table = knows.means.table;
            bucket = knows.means.bucket;
            making = record {
              slot = record { has = made.has; shape = tt; seed = tt; future = tt; serial = tt };
              mine = λ p i. let in_run = pages-in M G slot shape made p i in made.run p in_run.0 in_run.1;
            };
            work = knows.means.work;
          };
        }))
