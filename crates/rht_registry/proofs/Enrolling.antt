-- Callers who enroll one after another. Nothing is known of calls yet, so what the program keeps is the whole of the run.
use Rattle.std.proofs.Common.{◌≡◌, ℕ, suc, ◌+◌, ◌-◌, ◌<◌, ◌≤◌, replicate, sym, ◌∙◌, ap, arith}
use Rattle.rht_words.specs.declared.env.Env.{Env}
use Rattle.rht_core.specs.declared.event.Event.TheVariants.{Enroll}
use Rattle.rht_core.specs.declared.event.Stepped.{Stepped}
use Rattle.rht_core.specs.Runs.{Core, World, new_book, core_step, run_from, run_of, opening_core}
use Rattle.rht_registry.specs.Players.{AreEnrolled}

module _ (M : Type 0) (mix : ℕ → ℕ → ℕ → ℕ) where
  -- nobody has made a call
  abbrev quiet : Core M → World M
  quiet core = record { core = core; books = λ _. new_book }

  -- the run of all enrollings
  abbrev enrolled_in : Env → Core M
  enrolled_in env = (run_of mix env (replicate env.geometry.callers Enroll)).core

  -- once so many more have enrolled all have
  pub record Enrolls (core : Core M) (left : ℕ) : Type 0 where
    pub same : (run_from mix (quiet core) (replicate left Enroll)).core ≡ enrolled_in core.env

  -- at opening all are still to
  pub enrolls-all : (core : Core M) (left : ℕ) → core ≡ opening_core core.env → left ≡ core.env.geometry.callers → Enrolls core left
  enrolls-all core left opened all = record {
    same =
        ap (λ (k : Core M). (run_from mix (quiet k) (replicate left Enroll)).core) opened
        ∙ ap (λ n. (run_of {M = M} mix core.env (replicate n Enroll)).core) all;
  }

  -- one does
  pub enrolls-next : (core after : Core M) (stepped : Stepped) (end counter : ℕ) → counter < end
      → (after, stepped) ≡ core_step mix core Enroll → Enrolls core (end - counter) → Enrolls after (end - (counter + 1))
  enrolls-next core after stepped end counter more is rest =
      let left = end - (counter + 1) in
      let one : end - counter ≡ suc left = omega arith in
      let before : (run_from mix (quiet core) (replicate (suc left) Enroll)).core ≡ enrolled_in core.env =
      ap (λ n. (run_from mix (quiet core) (replicate n Enroll)).core) (sym one) ∙ rest.same in
      let env : after.env ≡ core.env = ap (λ p. p.0.env) is in
      record {
        same =
            ap (λ (k : Core M). (run_from mix (quiet k) (replicate left Enroll)).core) (ap (λ p. p.0) is)
            ∙ before ∙ ap enrolled_in (sym env);
      }

  -- and in the end all have
  pub enrolls-none : (core : Core M) (end counter : ℕ) → end ≤ counter → Enrolls core (end - counter) → AreEnrolled mix core
  enrolls-none core end counter over rest =
      let none : end - counter ≡ 0 = omega arith in
      sym (ap (λ n. (run_from mix (quiet core) (replicate n Enroll)).core) none) ∙ rest.same
