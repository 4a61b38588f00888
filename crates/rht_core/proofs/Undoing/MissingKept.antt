-- An operation that changes an entry of a table enters a page there, and its call is a bind on the way to its port's bucket; or a resizing that
-- gives back a retired table, to which nobody comes any more, clears the entry.
--
-- The words of entries are those that the whole says, and of all moves these two alone make other ones of them. The page that is entered is one
-- that the call has, and a bind alone exchanges an entry for a page of its own.
use Rattle.std.proofs.Common.{◌≡◌, ◌≢◌, ◌⊎◌, ℕ, ◌+◌, ◌*◌, ◌/◌, ◌%◌, ◌<◌, ◌==◌, Bool, true, false, List, length, inl, inr, refl, sym, ap, ◌∙◌, subst, arith}
use Rattle.rht_words.specs.declared.op.Op.TheVariants.{Store, Exchange}
use Rattle.rht_words.specs.declared.env.Env.{Env}
use Rattle.rht_words.specs.declared.geometry.Geometry.{Geometry}
use Rattle.rht_words.specs.Links.{entry_of}
use Rattle.rht_words.specs.Members.{In}
use Rattle.rht_words.specs.Operations.{op_place, old_of, word_after, applied}
use Rattle.rht_words.specs.Places.{PageWord, place_of, words_in}
use Rattle.std.specs.Int.{bit_at}
use Rattle.std.proofs.lemmas.Bool.{both_ways, cases_eq, and_from}
use Rattle.std.proofs.lemmas.Bool.Decides.{nat_tests}
use Rattle.std.proofs.lemmas.Nat.Bits.{same_from_bits_below}
use Rattle.rht_words.proofs.Memory.{Memory, is_write}
use Rattle.rht_words.proofs.PlacesApart.{parts_in_order}
use Rattle.rht_nest.specs.Place.{PlaceModel}
use Rattle.rht_nest.specs.Grow.{GrowModel, grow_plan_at}
use Rattle.rht_nest.specs.declared.grow.GrowAt.{GrowAt}
use Rattle.rht_nest.specs.declared.grow.GrowAt.TheVariants as grows
use Rattle.rht_chain.specs.Relink.{has_relinked}
use Rattle.rht_bind.specs.Bind.{IsBindAtIn}
use Rattle.rht_bind.specs.BindHeld.{held_of_bind}
use Rattle.rht_bind.specs.declared.bind.Attempt.{Attempt}
use Rattle.rht_bind.specs.declared.bind.BindAt.{BindAt}
use Rattle.rht_bind.specs.declared.bind.BindAt.TheVariants as binding
use Rattle.rht_move.specs.Work.{IsWorkAtIn}
use Rattle.rht_move.specs.WorkHeld.{held_of_work}
use Rattle.rht_move.specs.declared.work.WorkAt.{WorkAt}
use Rattle.rht_move.specs.declared.work.WorkAt.TheVariants as working
use Rattle.rht_core.specs.Jobs.{Job, binds, works, job_plan, held_of}
use Rattle.rht_core.specs.Traces.{Did}
use Rattle.rht_ghost.proofs.Theory.Ghosts.{PageOwner, PageFree, PageHeld, put_in, put_in-other, has_bit, with_pages, is_entry_of, table_of_page, Ghost, table_at, is_entry, entry_word}
use Rattle.rht_ghost.proofs.Theory.Wholes.{Whole}
use Rattle.rht_ghost.proofs.Theory.Readiness.{IsEntering, ArePagesOf}
use Rattle.rht_ghost.proofs.Theory.Departures.{CanWithdraw}
use Rattle.rht_ghost.proofs.Theory.Steps as steps
use Rattle.rht_ghost.proofs.Theory.Steps.{mem, ghost_after, Holding, Does, DoesEnter, DoesWithdraw, ReadyFor, Move, TakesPages, GivesPages, Enters, Withdraws, TakesBack}
use Rattle.rht_core.proofs.Machines.JobSteps.{JobIn}
use Rattle.rht_core.proofs.Machines.ReturnPlans.{returns-kind, no_exchange}
use Rattle.rht_core.proofs.Machines.NeverHeld.{tableless, front-tableless, pageless}
use Rattle.rht_core.proofs.Undoing.RefusableJobs.{take-none, make-enters, unmake-enters}
use Rattle.rht_core.proofs.Undoing.EnteringBinds.{attaching-none}
use Rattle.rht_core.proofs.Reasons.TableWordsKept.{FitBefore}

-- ---- by each move

-- the operation enters this page at the entry
pub record EntersThere (env : Env) (mix : ℕ → ℕ → ℕ → ℕ) (c : ℕ) (G : Ghost) (did : Did) (before after : Holding) (entry : ℕ) : Type 0 where
  pub page : ℕ
  pub ready : IsEntering env mix c entry page G
  pub does : DoesEnter env.geometry entry page did.op did.old before (steps.bare after)

-- it clears the entry, which led to this page of a table to which nobody comes
pub record ClearsThere (env : Env) (mix : ℕ → ℕ → ℕ → ℕ) (c : ℕ) (G : Ghost) (did : Did) (before after : Holding) (entry : ℕ) : Type 0 where
  pub page : ℕ
  pub can : CanWithdraw env mix c entry page G
  pub does : DoesWithdraw env.geometry entry page did.op did.old before (steps.bare after)

module _ (env : Env) (mix : ℕ → ℕ → ℕ → ℕ) (c : ℕ) (words : List ℕ) (G : Ghost) (did : Did) (before after : Holding)
    (whole : Whole env mix (mem env mix words) G) (all : length words ≡ words_in env.geometry) (found : did.old ≡ old_of words did.op)
    (entry : ℕ) (low : entry < 64 * env.geometry.pages) (of_entry : is_entry G entry ≡ true)
    (there : op_place did.op ≡ place_of env.geometry (PageWord entry)) (changes : word_after did.old did.op ≢ did.old) (fits : FitBefore did) where
  abbrev g : Geometry
  g = env.geometry

  abbrev M : Memory
  M = mem env mix words

  abbrev Here : Type 0
  Here = EntersThere env mix c G did before after entry ⊎ ClearsThere env mix c G did before after entry

  -- a move that leaves where the entry leads leaves its word
  unchanged : (G' : Ghost) → Whole env mix (mem env mix (applied words did.op)) G' → is_entry G' entry ≡ true
      → (G'.table (table_at G' entry)).entry entry ≡ (G.table (table_at G entry)).entry entry → Here
  unchanged G' then is_then same =
      let write = is_write g words (PageWord entry) did.op all low there in
      let old : did.old ≡ M (PageWord entry) = found ∙ ap (λ p. old_of words (Store p 0)) there in
      absurd (changes
      (ap (λ w. word_after w did.op) old ∙ sym write.same ∙ then.entries entry low is_then ∙ ap entry_word same
      ∙ sym (whole.entries entry low of_entry) ∙ sym old))

  before_pages : (place : ℕ) → op_place did.op ≡ place → place < place_of g (PageWord 0) → Here
  before_pages place on few = absurd (let at = sym on ∙ there in omega (arith, at, few))

  -- where pages are taken or given back, that of the entry is none of them
  page_kept : (index bits : ℕ) (owner then : PageOwner) → ArePagesOf env mix G index bits owner
      → is_entry_of G.table owner (entry / 64) ≡ false
      → put_in (has_bit index bits) then G.page (entry / 64) ≡ G.page (entry / 64)
  page_kept index bits owner then are none = go (has_bit index bits (entry / 64)) refl
    where
      go : (t : Bool) → has_bit index bits (entry / 64) ≡ t → put_in (has_bit index bits) then G.page (entry / 64) ≡ G.page (entry / 64)
      go true has =
          let other : is_entry G entry ≡ false = ap (λ o. is_entry_of G.table o (entry / 64)) (are.owned (entry / 64) has) ∙ none in
          absurd (both_ways (is_entry G entry) other of_entry)
      go false has = put_in-other (has_bit index bits) then G.page (entry / 64) has

  pages_kept : (index bits : ℕ) (owner then : PageOwner) → ArePagesOf env mix G index bits owner
      → is_entry_of G.table owner (entry / 64) ≡ false
      → Whole env mix (mem env mix (applied words did.op)) (with_pages G index bits then) → Here
  pages_kept index bits owner then are none behind =
      let same = page_kept index bits owner then are none in
      unchanged (with_pages G index bits then) behind (ap (λ o. is_entry_of G.table o (entry / 64)) same ∙ of_entry)
      (ap (λ o. (G.table (table_of_page o)).entry entry) same)

  pub entered_by_move : (move : Move) → ReadyFor env mix c M G move
      → Whole env mix (mem env mix (applied words did.op)) (ghost_after env mix c move G)
      → Does env mix move did.op did.old before after → Here
  entered_by_move (Enters j p) ready then does =
      let at : place_of g (PageWord j) ≡ place_of g (PageWord entry) = sym (ap op_place does.entering) ∙ there in
      let same : j ≡ entry = omega (arith, at) in
      inl (record {
        page = p;
        ready = subst (λ i. IsEntering env mix c i p G) same ready;
        does = subst (λ i. DoesEnter g i p did.op did.old before (steps.bare after)) same does;
      })
  entered_by_move (Withdraws j p) ready then does =
      let at : place_of g (PageWord j) ≡ place_of g (PageWord entry) = sym (ap op_place does.clearing) ∙ there in
      let same : j ≡ entry = omega (arith, at) in
      inr (record {
        page = p;
        can = subst (λ i. CanWithdraw env mix c i p G) same ready;
        does = subst (λ i. DoesWithdraw g i p did.op did.old before (steps.bare after)) same does;
      })
  entered_by_move (TakesPages index bits) ready then does = pages_kept index bits PageFree (PageHeld c) ready refl then
  entered_by_move (GivesPages index bits) ready then does = pages_kept index bits (PageHeld c) PageFree ready refl then
  entered_by_move (TakesBack slot index bits) ready then does =
      -- each bit that it sets is a page's, so its word is none of the pages'
      absurd (changes (same_from_bits_below 64 (word_after did.old did.op) did.old fits.left fits.found
      (λ bit few. elim (cases_eq (bit_at bits bit) 1) [
        | inl set ↦
            let order = parts_in_order g in
            let quotient : (64 * index + bit) / 64 ≡ index = omega (arith, few) in
            let rest : (64 * index + bit) % 64 ≡ bit = omega (arith, few) in
            let one : bit_at bits ((64 * index + bit) % 64) ≡ 1 = ap (bit_at bits) rest ∙ set in
            let among = ready.own.among (64 * index + bit)
            (and_from ((64 * index + bit) / 64 == index) (bit_at bits ((64 * index + bit) % 64) == 1) (grind (arith, nat_tests, quotient)) (grind (arith, nat_tests, one))) in
            let at = sym does.sets.on ∙ there in
            absurd (omega (arith, at, among, order.pages, order.nodes))
        | inr unset ↦ does.sets.others bit few unset
      ])))
  entered_by_move (steps.Attaches slot shape seed serial) ready then does =
      let order = parts_in_order g in
      before_pages _ (ap op_place does.attaching)
      (let few = does.within in omega (arith, few, order.pages, order.nodes, order.page_map))
  entered_by_move move ready then does = unchanged (ghost_after env mix c move G) then of_entry refl

-- ---- by each state

module _ (env : Env) (entry page : ℕ) where
  -- the job is a bind that enters a page at this entry
  pub data EntersNow : Job → Type 0 where
    by_entering : (port owner : ℕ) (once : Bool) (attempt : Attempt) (table shape : ℕ) (place : PlaceModel) (grow : GrowModel) (p : ℕ)
        → grow.at ≡ grows.Entering p → grow.entry ≡ place_of env.geometry (PageWord entry)
        → EntersNow (binds port owner once (binding.Entering attempt table shape place grow))

module _ (env : Env) (mix : ℕ → ℕ → ℕ → ℕ) (c : ℕ) (M : Memory) (G : Ghost) (did : Did) (entry page : ℕ)
    (exchanges : did.op ≡ Exchange (place_of env.geometry (PageWord entry)) 0 (entry_of page)) where
  abbrev Now : Job → Type 0
  Now = EntersNow env entry page

  grow-enters : (port owner : ℕ) (once : Bool) (attempt : Attempt) (table shape : ℕ) (place : PlaceModel) (grow : GrowModel)
      (at : GrowAt) → grow.at ≡ at → did.op ≡ grow_plan_at grow.entry at
      → Now (binds port owner once (binding.Entering attempt table shape place grow))
  grow-enters port owner once attempt table shape place grow (grows.Taking take) same is =
      absurd (take-none env mix c M G did entry page exchanges take take.at (sym is ∙ exchanges))
  grow-enters port owner once attempt table shape place grow (grows.Entering p) same is =
      by_entering port owner once attempt table shape place grow p same (ap op_place (sym is ∙ exchanges))
  grow-enters port owner once attempt table shape place grow (grows.Giving there give) same is =
      absurd (let both = sym is ∙ exchanges in cc)

  bind-enters : (port owner : ℕ) (once : Bool) (state : BindAt) → IsBindAtIn env state
      → did.op ≡ job_plan env c (binds port owner once state) → In page (held_of_bind state).pages → Now (binds port owner once state)
  bind-enters port owner once (binding.Making growing size make) within is had =
      absurd (make-enters env mix c M G did entry page exchanges make.exponent make.seed make.geometry make.at is had)
  bind-enters port owner once (binding.Attaching growing slot shape) within is had =
      absurd (attaching-none env mix c M G did entry page exchanges growing.table slot within.growing_in.table_in is)
  bind-enters port owner once (binding.Entering attempt table shape place grow) within is had =
      grow-enters port owner once attempt table shape place grow grow.at refl is
  bind-enters port owner once (binding.Unmaking attempt unmake answer) within is had =
      absurd (unmake-enters env mix c M G did entry page exchanges unmake.geometry unmake.slot unmake.at is)
  bind-enters port owner once (binding.Replacing list relink) within is had =
      absurd (pageless (front-tableless list.claimed (has_relinked list.before relink.at)) page had)
  bind-enters port owner once _ within is had = absurd had

  work-none : (state : WorkAt) → IsWorkAtIn env state → did.op ≡ job_plan env c (works state) → In page (held_of_work state).pages → ⊥
  work-none (working.Making wanted make) within is had =
      make-enters env mix c M G did entry page exchanges make.exponent make.seed make.geometry make.at is had
  work-none (working.Attaching root last slot shape) within is had =
      attaching-none env mix c M G did entry page exchanges last slot within.last_in is
  work-none (working.Unmaking root unmake) within is had =
      unmake-enters env mix c M G did entry page exchanges unmake.geometry unmake.slot unmake.at is
  work-none (working.Returning returns) within is had = no_exchange (returns-kind returns.geometry returns.at) (sym is ∙ exchanges)
  work-none _ within is had = had

  pub enters_now : (job : Job) → JobIn env mix c job → did.op ≡ job_plan env c job → In page (held_of job).pages → Now job
  enters_now (binds port owner once state) within is had = bind-enters port owner once state within.at_in is had
  enters_now (works state) within is had = absurd (work-none state within is had)
  enters_now job within is had = absurd (pageless (tableless job refl) page had)
