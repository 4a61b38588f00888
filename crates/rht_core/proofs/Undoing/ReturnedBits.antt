-- While a resizing gives retired tables back it has turned each bit an even number of times, but for that of the work lock, and but for one
-- operation by which it gives back what the bit says.
use Rattle.std.specs.Prelude.{false}
use Rattle.std.proofs.Common.{◌≡◌, ◌≢◌, ℕ, ◌+◌, ◌%◌, ◌<◌, true, List, [], ◌∷◌, ◌++◌, Option, Some, None, refl, sym, ap, ◌∙◌, subst, inl, inr, arith}
use Rattle.rht_words.specs.declared.env.Env.{Env}
use Rattle.rht_words.specs.declared.geometry.Geometry.{Geometry}
use Rattle.rht_words.specs.declared.op.Op.TheVariants.{Load, Exchange}
use Rattle.rht_words.specs.Operations.{op_place, word_after}
use Rattle.rht_words.specs.Places.{WorkLock, place_of}
use Rattle.std.specs.Int.{bit_at}
use Rattle.rht_model.specs.declared.history.Call.TheVariants.{Work}
use Rattle.rht_reclaim.specs.declared.give_table.GiveTableAt.{GiveTableAt}
use Rattle.rht_reclaim.specs.declared.give_table.GiveTableAt.TheVariants as gives
use Rattle.rht_core.specs.Jobs.{Job, job_plan, held_of}
use Rattle.rht_core.specs.Traces.{Did}
use Rattle.rht_core.specs.Refused.{turned}
use Rattle.rht_ghost.proofs.Theory.Steps.{mem}
use Rattle.rht_core.proofs.Tracing.TracedJobs.{hard_rests, Performs}
use Rattle.rht_core.proofs.Undoing.TurnedBits.{turned-none, turned-one, sets_lowest, work_bit}
use Rattle.rht_core.proofs.Undoing.WorkStages.{Stage, AtLock, Asks, Loads, Gives, Opens, Behind, stage_of, GoesTo, takes_lock, refused, opened, stays, asks_on, to_shape, asked_all, loaded, gives_on, freed, freed_last, gives_job, loads_job, asks_load, lock_job, is_returning}
use Rattle.rht_core.proofs.Undoing.TablesThen.{StandsInStage}
use Rattle.rht_core.proofs.Undoing.GivingInRuns.{giving_knows, giving_makes, giving_within, giving_plan}
use Rattle.rht_core.proofs.Undoing.GivenBack.{HasReturned, IsBalanced, returned-more, returned-begun, returned-freed, returned-now, balanced-push, balanced-return}
use Rattle.rht_core.proofs.Undoing.PagesReturned.{returns_or_leaves, frees_slot, slot_or_leaves}

-- the slot of the table that is given back
abbrev pub slot_now : Stage → Option ℕ
slot_now AtLock = None
slot_now Asks = None
slot_now (Loads slot) = None
slot_now (Gives slot state) = Some slot
slot_now Opens = None
slot_now Behind = None

-- of each bit
abbrev pub ReturnsSoFar : Geometry → (ℕ → List ℕ) → Option ℕ → List Did → Type 0
ReturnsSoFar g words_at now steps =
    (place bit : ℕ) → bit < 64 → IsBalanced g words_at Work now place bit steps (work_bit g true place bit)

-- a bit that is held before an operation and behind it isn't turned
left_held : (turned held : ℕ) → turned ≡ 0 → (turned + held + held) % 2 ≡ 0
left_held turned held none = omega (arith, none)

-- and one that is held from then on is
comes_held : (turned held : ℕ) → turned ≡ held → (turned + 0 + held) % 2 ≡ 0
comes_held turned held is = omega (arith, is)

module _ (mix : ℕ → ℕ → ℕ → ℕ) (env : Env) (words_at : ℕ → List ℕ) (job : Job) (steps : List Did) (did : Did)
    (performs : Performs mix env job did) (rests : performs.over ≡ false) where
  abbrev g : Geometry
  g = env.geometry

  abbrev all : List Did
  all = steps ++ did ∷ []

  abbrev SoFar : Option ℕ → List Did → Type 0
  SoFar now = ReturnsSoFar g words_at now

  abbrev More : Option ℕ → Option ℕ → Type 0
  More was now = (place bit : ℕ) → HasReturned g words_at was place bit steps → HasReturned g words_at now place bit all

  -- an operation that leaves each bit
  leaves_so : (was now : Option ℕ) → More was now → ((place bit : ℕ) → bit < 64 → turned place bit did ≡ 0) → SoFar was steps
      → SoFar now all
  leaves_so was now more none so_far place bit low =
      let held = work_bit g true place bit in
      balanced-push g words_at Work was now place bit steps did held (more place bit) held (left_held _ held (none place bit low))
      (so_far place bit low)

  -- a load does so
  load_so : (was now : Option ℕ) → More was now → (from : ℕ) → did.op ≡ Load from → SoFar was steps → SoFar now all
  load_so was now more from is =
      leaves_so was now more (λ place bit low. turned-none place bit did low (λ b l. ap (λ o. bit_at (word_after did.old o) b) is))

  more_none : More None None
  more_none place bit has = returned-more g words_at None place bit steps did has

  asks_so : stage_of job ≡ Asks → SoFar None steps → SoFar None all
  asks_so is =
      let loads = asks_load env performs.caller job is in load_so None None more_none loads.0 (hard_rests mix env performs rests ∙ loads.1)

  -- one that takes the lock
  pub takes_so : stage_of job ≡ AtLock → did.old ≡ 0 → steps ≡ [] → SoFar None all
  takes_so is free none place bit low =
      let there = place_of g WorkLock in
      let op : did.op ≡ Exchange there 0 1 = hard_rests mix env performs rests ∙ ap (job_plan env performs.caller) (lock_job job is) in
      balanced-push g words_at Work None None place bit steps did 0 (more_none place bit) (work_bit g true place bit)
      (comes_held _ _ (turned-one there 0 place bit did low
      (sets_lowest there did (ap op_place op) (ap (λ w. w % 2) free)
      (ap (word_after did.old) op ∙ ap (λ w. word_after w (Exchange there 0 1)) free ∙ sym (ap (λ w. w + 1) free)))))
      (subst (λ ds. IsBalanced g words_at Work None place bit ds 0) (sym none) (inl refl))

  -- one that gives back
  gives_so : (slot : ℕ) (state : GiveTableAt) → stage_of job ≡ Gives slot state → state ≢ gives.FreeSlot
      → StandsInStage g words_at (Gives slot state) steps did.old → SoFar (Some slot) steps → SoFar (Some slot) all
  gives_so slot state is other stands so_far place bit low =
      let giving = gives_job job slot state is in
      let c = performs.caller in
      let M = mem env mix performs.words in
      let held = work_bit g true place bit in
      let more = returned-more g words_at (Some slot) place bit steps did in
      let so = so_far place bit low in
      elim (returns_or_leaves env mix c (held_of job) performs.words performs.ghost performs.all performs.whole words_at slot steps did
      performs.found state other (giving_within env mix c job slot state giving performs.within).at_in stands.has
      (giving_knows env mix c M performs.ghost job slot state giving performs.knows)
      (giving_makes env mix c M performs.ghost job slot state giving performs.knows)
      (hard_rests mix env performs rests ∙ giving_plan env mix c job slot state giving performs.within) place bit low) [
        | inl none ↦
            balanced-push g words_at Work (Some slot) (Some slot) place bit steps did held more held (left_held _ held none) so
        | inr returns ↦
            balanced-return g words_at Work (Some slot) (Some slot) place bit steps did held more refl
            (λ once. returned-now g words_at (Some slot) place bit steps did once (inr returns)) so
      ]

  -- the one that frees the slot
  frees_so : (slot : ℕ) → stage_of job ≡ Gives slot gives.FreeSlot → SoFar (Some slot) steps → SoFar None all
  frees_so slot is so_far place bit low =
      let giving = gives_job job slot gives.FreeSlot is in
      let c = performs.caller in
      let M = mem env mix performs.words in
      let held = work_bit g true place bit in
      let frees =
      frees_slot env mix c (held_of job) performs.words performs.ghost performs.all performs.whole words_at slot steps did performs.found
      (giving_makes env mix c M performs.ghost job slot gives.FreeSlot giving performs.knows)
      (hard_rests mix env performs rests ∙ giving_plan env mix c job slot gives.FreeSlot giving performs.within) in
      let more = returned-freed g words_at slot place bit steps did frees in
      let so = so_far place bit low in
      elim (slot_or_leaves env mix c (held_of job) performs.words performs.ghost performs.all performs.whole words_at slot steps did
      performs.found frees place bit) [
        | inl none ↦ balanced-push g words_at Work (Some slot) None place bit steps did held more held (left_held _ held none) so
        | inr returns ↦
            balanced-return g words_at Work (Some slot) None place bit steps did held more refl
            (λ once. returned-now g words_at None place bit steps did once (inl returns)) so
      ]

  -- so it is behind each operation
  pub returns_goes : (from to : Stage) → GoesTo g did.old from to → stage_of job ≡ from → is_returning from ≡ true
      → StandsInStage g words_at from steps did.old → SoFar (slot_now from) steps → SoFar (slot_now to) all
  returns_goes _ _ (takes_lock free) is in_it stands so_far = absurd (cc)
  returns_goes _ _ refused is in_it stands so_far = absurd (cc)
  returns_goes _ _ opened is in_it stands so_far = absurd (cc)
  returns_goes _ _ stays is in_it stands so_far = absurd (cc)
  returns_goes _ _ asks_on is in_it stands so_far = asks_so is so_far
  returns_goes _ _ (to_shape slot) is in_it stands so_far = asks_so is so_far
  returns_goes _ _ asked_all is in_it stands so_far = asks_so is so_far
  returns_goes _ _ (loaded slot) is in_it stands so_far =
      let giving = loads_job job slot is in
      load_so None (Some slot) (λ place bit has. returned-begun g words_at slot place bit steps did has) _
      (hard_rests mix env performs rests ∙ giving_plan env mix performs.caller job slot gives.Shape giving performs.within) so_far
  returns_goes _ _ (gives_on slot state other) is in_it stands so_far = gives_so slot state is other stands so_far
  returns_goes _ _ (freed slot) is in_it stands so_far = frees_so slot is so_far
  returns_goes _ _ (freed_last slot) is in_it stands so_far = frees_so slot is so_far
