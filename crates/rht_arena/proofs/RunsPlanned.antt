-- On which words the taking and giving back of runs work: those of the map of pages.
use Rattle.std.proofs.Common.{◌≡◌, ℕ, ◌^◌, ◌<◌, refl, sym, subst, bit_and, arith}
use Rattle.std.proofs.lemmas.Nat.{and_le_r}
use Rattle.rht_words.specs.declared.geometry.Geometry.{Geometry}
use Rattle.rht_words.specs.Places.{PageMap, IsAddress}
use Rattle.rht_words.specs.Planned.{IsWord, IsPlannedIn}
use Rattle.rht_words.proofs.PlannedWords.{planned-at, planned_load, bit_not-fits}
use Rattle.rht_arena.specs.PageRuns.{run_bits, IsRunIn, IsRunWord}
use Rattle.rht_arena.specs.TakeRun.{TakeRunModel, take_run_plan, take_run_plan_at, IsTakeRunAtIn, IsTakeRunIn}
use Rattle.rht_arena.specs.declared.take_run.TakeRunAt.{TakeRunAt}
use Rattle.rht_arena.specs.declared.take_run.TakeRunAt.TheVariants.{MapWord, Claim, GiveBack}
use Rattle.rht_arena.specs.GiveRun.{GiveRunModel, give_run_plan, IsGiveRunIn}
use Rattle.rht_arena.proofs.RunBits.{run_bits-fits}

module _ (g : Geometry) where
  -- a word in which a run has pages is one of the map's
  run_word-in : (first pages index : ℕ) → IsRunIn g first pages → IsRunWord first pages index
      → IsAddress g (PageMap index)
  run_word-in first pages index run word = omega (arith, run.within, word.until)

  -- bits of the run are a word's
  given-fit : (first pages index bits : ℕ) → bit_and bits (run_bits first pages index) ≡ bits → IsWord bits
  given-fit first pages index bits of_run =
      let all = run_bits first pages index in
      let fits : all < 2 ^ 64 = run_bits-fits first pages index in
      omega (arith, fits, of_run, and_le_r bits all)

  planned_take_run_at : (pages : ℕ) (at : TakeRunAt) → IsTakeRunAtIn g pages at
      → IsPlannedIn g (take_run_plan_at g pages at)
  planned_take_run_at pages (MapWord first index) here =
      planned_load g (PageMap index) (run_word-in first pages index here.run here.word) tt
  planned_take_run_at pages (Claim first index) here =
      planned-at g _ (PageMap index) (run_word-in first pages index here.run here.word) tt refl
      (bit_not-fits (run_bits first pages index))
  planned_take_run_at pages (GiveBack first index bits) here =
      planned-at g _ (PageMap index) (run_word-in first pages index here.run.run here.run.word) tt refl
      (given-fit first pages index bits here.of_run)

  -- what the taking of a run performs is on a word of the map of pages
  pub planned_take_run : (m : TakeRunModel) → IsTakeRunIn g m → IsPlannedIn g (take_run_plan m)
  planned_take_run m within =
      subst (λ (h : Geometry). IsPlannedIn g (take_run_plan_at h m.pages m.at)) (sym within.geometry_same)
      (planned_take_run_at m.pages m.at within.at_in)

  -- and so is what the giving back performs
  pub planned_give_run : (m : GiveRunModel) → IsGiveRunIn g m → IsPlannedIn g (give_run_plan m)
  planned_give_run m within =
      subst
      (λ (h : Geometry). IsPlannedIn g (give_run_plan
      (record { geometry = h; first = m.first; pages = m.pages; index = m.index })))
      (sym within.geometry_same)
      (planned-at g _ (PageMap m.index) (run_word-in m.first m.pages m.index within.run within.word) tt refl
      (run_bits-fits m.first m.pages m.index))
