-- What comes of a tidying that gives nodes back, from one of its places on: all of them, each once, and then it ends.
use Rattle.std.proofs.Common.{◌≡◌, ℕ, ◌+◌, ◌<◌, List, [], ◌∷◌, length, map, drop, get_or, Bool, true, false, refl, sym, ◌∙◌, ap}
use Rattle.std.specs.Prelude.{nat_lt, if◌then◌else◌}
use Rattle.std.proofs.lemmas.Bool.{ltb-true, ltb-false}
use Rattle.std.proofs.lemmas.List.{drop_more, drop_all}
use Rattle.rht_words.specs.declared.geometry.Geometry.{Geometry}
use Rattle.rht_words.specs.declared.machine.Next.TheVariants.{Go, Done}
use Rattle.rht_words.specs.Machines.{Performed, Ran}
use Rattle.rht_model.specs.declared.history.Reply.TheVariants.{Clear}
use Rattle.rht_grace.specs.Batch.{BatchModel, cleared}
use Rattle.rht_grace.specs.Tidy.{give_of, giving}
use Rattle.rht_grace.specs.TidyLaws.{Tidied, ops_of}
use Rattle.rht_grace.specs.declared.tidy.TidyAt.TheVariants as at
use Rattle.rht_grace.proofs.TidyRuns.{run_at, goes_on, by_step, not_ended, same_end}

module _ (g : Geometry) where
  -- the end of a batch whose nodes were given back
  abbrev pub all_given : BatchModel → Tidied
  all_given batch = record { reply = Clear (length batch.waiting); batch = cleared batch }

  -- it has given back the waiting nodes from this place on
  pub record Gave (batch : BatchModel) (index : ℕ) (end : Tidied) (steps : List Performed) : Type 0 where
    pub is : all_given batch ≡ end
    pub ops : ops_of steps ≡ map (give_of g) (drop index batch.waiting)

  abbrev pub GivesOn : BatchModel → ℕ → Tidied → Ran Tidied → Type 0
  GivesOn batch index end run = run.next ≡ Done end → Gave batch index end run.steps

  giving_by : (batch : BatchModel) (index : ℕ) (end : Tidied) (olds : List ℕ) (more : Bool)
      → nat_lt index (length batch.waiting) ≡ more
      → (index < length batch.waiting → GivesOn batch index end (run_at g batch (at.Giving index) olds))
      → GivesOn batch index end (goes_on g (if more then (batch, at.Giving index, Go) else (cleared batch, at.Keeping 0, Done (Clear (length batch.waiting)))) olds)
  giving_by batch index end olds true low later is = later (ltb-true index (length batch.waiting) low) is
  giving_by batch index end olds false past later is = record {
    is = same_end (all_given batch) end is;
    ops = ap (map (give_of g)) (sym (drop_all index batch.waiting (ltb-false index (length batch.waiting) past)));
  }

  pub gives_at : (olds : List ℕ) (batch : BatchModel) (index : ℕ) (end : Tidied) → index < length batch.waiting
      → GivesOn batch index end (run_at g batch (at.Giving index) olds)
  gives_at [] batch index end low = λ is. absurd (not_ended end is)
  gives_at (old ∷ olds) batch index end low =
      by_step g (GivesOn batch index end) batch (at.Giving index) old olds
      (λ is. let rest = giving_by batch (index + 1) end olds (nat_lt (index + 1) (length batch.waiting)) refl
      (λ next. gives_at olds batch (index + 1) end next) is in
      record {
        is = rest.is;
        ops = ap (λ ops. give_of g (get_or batch.waiting index 0) ∷ ops) rest.ops
            ∙ ap (map (give_of g)) (sym (drop_more batch.waiting index 0 low));
      })

  pub gives : (olds : List ℕ) (batch : BatchModel) (index : ℕ) (end : Tidied)
      → GivesOn batch index end (goes_on g (giving batch index) olds)
  gives olds batch index end =
      giving_by batch index end olds (nat_lt index (length batch.waiting)) refl (gives_at olds batch index end)
