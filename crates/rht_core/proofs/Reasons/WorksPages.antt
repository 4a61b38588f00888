-- A resizing has taken each page that it has by an operation of its own, and has neither given it back nor entered it since, but for those of
-- retired tables that it gives back.
--
-- By the ghost it has a page where it had it before an operation, or where that takes it, or takes it out of a retired table. And an operation
-- that gives a page back leaves its bit set, which that of a page which somebody has never is.
use Rattle.std.proofs.Common.{◌≡◌, ◌⊎◌, ℕ, ◌/◌, ◌%◌, ◌==◌, ◌<◌, Bool, true, false, cond, List, [], Some, None, length, refl, sym, ap, ◌∙◌, inl, inr, arith}
use Rattle.std.specs.Int.{bit_at}
use Rattle.std.proofs.lemmas.Bool.{eqb-true, and_parts}
use Rattle.rht_words.specs.declared.env.Env.{Env}
use Rattle.rht_words.specs.declared.geometry.Geometry.{Geometry}
use Rattle.rht_words.specs.declared.op.Op.TheVariants.{Store}
use Rattle.rht_words.specs.Members.{In}
use Rattle.rht_words.specs.Operations.{old_of, word_after, applied}
use Rattle.rht_words.specs.Places.{PageMap, place_of, words_in}
use Rattle.rht_words.specs.Shapes.{unpacked}
use Rattle.rht_words.proofs.Memory.{Memory, is_write}
use Rattle.rht_words.proofs.Members.{range_with_len-In}
use Rattle.rht_words.proofs.FilteredLists.{range_with_len-from}
use Rattle.rht_arena.specs.RunLaws.{TakesPage, GivesPage}
use Rattle.rht_nest.specs.Tables.{table_pages}
use Rattle.rht_model.specs.declared.history.Call.TheVariants.{Work}
use Rattle.rht_move.specs.WorkHeld.{held_of_work}
use Rattle.rht_move.specs.declared.work.WorkAt.{WorkAt}
use Rattle.rht_move.specs.declared.work.WorkAt.TheVariants as working
use Rattle.rht_core.specs.Jobs.{Job, works, call_of, held_of}
use Rattle.rht_core.specs.Traces.{Did, performed_of}
use Rattle.rht_ghost.proofs.Theory.Ghosts.{Ghost, PageOwner, PageFree, PageHeld, PageOf, has_bit, put-all, put-same, Back, put_in, put_in-there, put_in-other, is_page_for, table_at}
use Rattle.rht_ghost.proofs.Theory.Wholes.{Whole}
use Rattle.rht_ghost.proofs.Theory.Steps as moves
use Rattle.rht_ghost.proofs.Theory.Steps.{mem, ghost_after, Holding, Does, ReadyFor, Move, TakesPages, GivesPages, Enters, Withdraws, TakesBack}
use Rattle.rht_reclaim.specs.ReturnHeld.{is_first_word, pages_of_give_table, pages_of_returning}
use Rattle.rht_reclaim.specs.declared.give_table.GiveTableAt.{GiveTableAt}
use Rattle.rht_reclaim.specs.declared.give_table.GiveTableAt.TheVariants as gives
use Rattle.rht_reclaim.specs.declared.return_tables.ReturnTablesAt.{ReturnTablesAt}
use Rattle.rht_reclaim.specs.declared.return_tables.ReturnTablesAt.TheVariants as returning
use Rattle.rht_arena.specs.GiveRun.{pages_of_give_run}
use Rattle.rht_move.proofs.WorkKnowledge.{made_giving, made_returning}
use Rattle.rht_ghost.proofs.Theory.Knowns.{MakesNothing, HasBack}
use Rattle.rht_ghost.proofs.Theory.Knowledge.{MakingMeans}
use Rattle.rht_core.proofs.Machines.JobSteps.{JobKnows}
use Rattle.rht_core.proofs.Undoing.RefusableJobs.{mine}
use Rattle.rht_core.proofs.Undoing.WorkStages.{Behind, stage_of}
use Rattle.rht_core.proofs.Undoing.MissingKept.{EntersNow, by_entering}

-- ---- what a resizing has

module _ (env : Env) (mix : ℕ → ℕ → ℕ → ℕ) (c : ℕ) (M : Memory) (G : Ghost) where
  giving-mine : (slot : ℕ) (state : GiveTableAt) → MakingMeans env mix c M G (made_giving slot state) → (page : ℕ)
      → In page (pages_of_give_table state) → G.page page ≡ PageHeld c
  giving-mine slot (gives.Run give) means page i = go (is_first_word give) means i
    where
      go : (first : Bool) → MakingMeans env mix c M G (cond first MakesNothing (HasBack slot (pages_of_give_run give)))
          → In page (cond first [] (pages_of_give_run give)) → G.page page ≡ PageHeld c
      go true means i = absurd i
      go false means i = means.mine page i
  giving-mine slot (gives.GiveLeaf shape top above leaf below) means page i = means page i
  giving-mine slot (gives.GivePage shape top below) means page i = means page i
  giving-mine slot gives.Shape means page i = absurd i
  giving-mine slot _ means page i = absurd i

  returning-mine : (state : ReturnTablesAt) → MakingMeans env mix c M G (made_returning state) → (page : ℕ)
      → In page (pages_of_returning state) → G.page page ≡ PageHeld c
  returning-mine (returning.Giving give) means page i = giving-mine give.slot give.at means page i
  returning-mine _ means page i = absurd i

  work-mine : (state : WorkAt) → JobKnows env mix c (works state) M G → (page : ℕ) → In page (held_of_work state).pages
      → G.page page ≡ PageHeld c
  work-mine (working.Making wanted make) knows page i = mine env mix c M G (works (working.Making wanted make)) refl knows page i
  work-mine (working.Attaching root last slot shape) knows page i =
      knows.knowing.means.making.run page (range_with_len-from (unpacked shape).page (table_pages (unpacked shape)) page i)
      (range_with_len-In (unpacked shape).page (table_pages (unpacked shape)) page i)
  work-mine (working.Unmaking root unmake) knows page i = knows.knowing.means.making.mine page i
  work-mine (working.Returning returns) knows page i = returning-mine returns.at knows.knowing.means.making page i
  work-mine _ knows page i = absurd i

  -- each of its pages is its own
  pub pages-mine : (job : Job) → call_of job ≡ Work → JobKnows env mix c job M G → (page : ℕ) → In page (held_of job).pages
      → G.page page ≡ PageHeld c
  pages-mine (works state) is knows page i = work-mine state knows page i
  pages-mine job is knows page i = absurd (cc)

-- who enters a page is a bind
pub enters-binds : (env : Env) (entry page : ℕ) (job : Job) → call_of job ≡ Work → EntersNow env entry page job → ⊥
enters-binds env entry page _ is (by_entering port owner once attempt table shape place grow p at on) = cc

-- so it gives back no retired table
pub enters-behind : (env : Env) (entry page : ℕ) (job : Job) → EntersNow env entry page job → stage_of job ≡ Behind
enters-behind env entry page _ (by_entering port owner once attempt table shape place grow p at on) = refl

-- ---- an operation

module _ (env : Env) (mix : ℕ → ℕ → ℕ → ℕ) (c : ℕ) (words : List ℕ) (G : Ghost) (did : Did) (page : ℕ) where
  abbrev g : Geometry
  g = env.geometry

  -- a page that the caller has behind it isn't given back by it
  pub unless_given : (G' : Ghost) → Whole env mix (mem env mix (applied words did.op)) G' → length words ≡ words_in g
      → did.old ≡ old_of words did.op → page < g.pages → G'.page page ≡ PageHeld c → GivesPage g page (performed_of did) → ⊥
  unless_given G' then all found low held gives =
      let write = is_write g words (PageMap (page / 64)) did.op all (omega (arith, low)) gives.place in
      let old : did.old ≡ mem env mix words (PageMap (page / 64)) = found ∙ ap (λ p. old_of words (Store p 0)) gives.place in
      let set = ap (λ w. bit_at w (page % 64)) (write.same ∙ ap (λ w. word_after w did.op) (sym old)) ∙ gives.sets in
      let both = sym held ∙ (then.pages.bits page low).0 set in cc

  -- the call has no slot, and takes the page out of a retired table, or has that table's slot then
  pub record TakesOut (before after : Holding) (G' : Ghost) : Type 0 where
    pub works : before.worker ≡ true
    pub either : (after.slot ≡ None) ⊎ ((slot : ℕ) × (after.slot ≡ Some slot) × (G'.slot slot ≡ Back c))

  -- and the caller had it before, or takes it
  abbrev pub HadOrTakes : Holding → Holding → Ghost → Type 0
  HadOrTakes before after G' =
      (G.page page ≡ PageHeld c) ⊎ ((page < g.pages) × TakesPage g page (performed_of did)) ⊎ TakesOut before after G'

  takes_now : (index bits : ℕ) (before after : Holding) (G' : Ghost) → ReadyFor env mix c (mem env mix words) G (TakesPages index bits)
      → Does env mix (TakesPages index bits) did.op did.old before after → has_bit index bits page ≡ true
      → HadOrTakes before after G'
  takes_now index bits before after G' ready does has =
      let parts = and_parts (page / 64 == index) (bit_at bits (page % 64) == 1) has in
      let in_it : page / 64 ≡ index = eqb-true (page / 64) index parts.0 in
      let set : bit_at bits (page % 64) ≡ 1 = eqb-true (bit_at bits (page % 64)) 1 parts.1 in
      let on = does.clears.on in
      inr (inl (
        ready.among page has,
        record {
          place = on ∙ ap (λ i. place_of g (PageMap i)) (sym in_it);
          free = does.clears.found (page % 64) (omega arith) set;
          clears = does.clears.cleared (page % 64) (omega arith) set;
        },
      ))

  -- a page that is put among others isn't the caller's
  put_aside : (there : ℕ → Bool) (owner : PageOwner) → (owner ≡ PageHeld c → ⊥)
      → put_in there owner G.page page ≡ PageHeld c → G.page page ≡ PageHeld c
  put_aside there owner other held = go (there page) refl
    where
      go : (t : Bool) → there page ≡ t → G.page page ≡ PageHeld c
      go true is = absurd (other (sym (put_in-there there owner G.page page is) ∙ held))
      go false is = sym (put_in-other there owner G.page page is) ∙ held

  pub held_by_move : (move : Move) (before after : Holding) → ReadyFor env mix c (mem env mix words) G move
      → Does env mix move did.op did.old before after → (ghost_after env mix c move G).page page ≡ PageHeld c
      → HadOrTakes before after (ghost_after env mix c move G)
  held_by_move (TakesPages index bits) before after ready does held = go (has_bit index bits page) refl
    where
      go : (t : Bool) → has_bit index bits page ≡ t → HadOrTakes before after (ghost_after env mix c (TakesPages index bits) G)
      go true is = takes_now index bits before after (ghost_after env mix c (TakesPages index bits) G) ready does is
      go false is = inl (sym (put_in-other (has_bit index bits) (PageHeld c) G.page page is) ∙ held)
  held_by_move (GivesPages index bits) before after ready does held = inl (put_aside (has_bit index bits) PageFree (λ same. cc) held)
  held_by_move (moves.Attaches slot shape seed serial) before after ready does held =
      inl (put_aside (is_page_for shape) (PageOf G.attached) (λ same. cc) held)
  held_by_move (Enters j p) before after ready does held =
      inl (put-all (λ i owner. owner ≡ PageHeld c → G.page i ≡ PageHeld c) G.page p (PageOf (table_at G j)) (λ same. absurd (cc))
      (λ i ne same. same) page held)
  held_by_move (Withdraws j p) before after ready does held =
      inr (inr (record { works = does.works; either = inl (ap (λ (x : Holding). x.slot) does.holds ∙ does.none) }))
  held_by_move (TakesBack slot index bits) before after ready does held =
      inr (inr (record {
        works = does.works;
        either = inr (slot, ap (λ (x : Holding). x.slot) does.holds, put-same G.slot slot (Back c));
      }))
  held_by_move _ before after ready does held = inl held
