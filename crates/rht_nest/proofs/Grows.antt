-- Whatever words it is told, the growing of a nested table stays among the pages that there are, and works on words of the page map and
-- on its entry.
use Rattle.std.proofs.Common.{ℕ, ◌<◌, ◌≤◌, refl, sym, subst, arith}
use Rattle.std.specs.Prelude.{Option, Some, None, ◌==◌}
use Rattle.std.proofs.lemmas.Bool.{cond_both}
use Rattle.rht_words.specs.declared.geometry.Geometry.{Geometry}
use Rattle.rht_words.specs.declared.machine.Next.{Next}
use Rattle.rht_words.specs.declared.machine.Next.TheVariants.{Go, Done}
use Rattle.rht_words.specs.Places.{IsBucketPlace}
use Rattle.rht_words.specs.Planned.{IsWord, IsPlannedIn}
use Rattle.rht_words.proofs.PlannedWords.{planned_bucket}
use Rattle.rht_arena.specs.TakeRun.{TakeRunModel, first_run, take_run_after}
use Rattle.rht_arena.specs.GiveRun.{GiveRunModel, give_run_after, IsGiveRunIn}
use Rattle.rht_arena.proofs.RunsStay.{TakeRunIsIn, take_run_stays, give_run_stays}
use Rattle.rht_arena.proofs.RunsSeen.{begins-in}
use Rattle.rht_arena.proofs.RunsPlanned.{planned_take_run, planned_give_run}
use Rattle.rht_nest.specs.Grow.{GrowModel, grow_plan, grow_plan_at, grow_after, grow_after_at, page_taken, page_entered, page_given, IsTakingPage, IsGrowAtIn, IsGrowIn, IsGrowEndIn}
use Rattle.rht_nest.specs.declared.grow.GrowAt.{GrowAt}
use Rattle.rht_nest.specs.declared.grow.GrowAt.TheVariants as at

-- the state stays among the pages, and so is the page that it answers
pub record GrowStays (g : Geometry) (next : GrowAt × Next (Option ℕ)) : Type 0 where
  pub at_in : IsGrowAtIn g next.0
  pub page_in : IsGrowEndIn g next.1

module _ (g : Geometry) where
  some_pages : 4 ≤ g.pages
  some_pages = g.within.pages_within.0

  -- the taking of a page begins in range
  pub begins_page : IsTakingPage g (first_run g 1)
  begins_page =
      let some = some_pages in
      record {
        one = refl;
        take_in = record {
          geometry_same = refl;
          at_in = begins-in g 1 (record { some = omega arith; within = omega (arith, some) });
        };
      }

  page_taken-in : (take : TakeRunModel) (next : Next (Option ℕ)) → TakeRunIsIn g 1 (take, next)
      → GrowStays g (page_taken take next)
  page_taken-in take Go stays =
      record { at_in = record { one = stays.pages_same; take_in = stays.take_in }; page_in = tt }
  page_taken-in take (Done None) stays =
      record { at_in = record { one = stays.pages_same; take_in = stays.take_in }; page_in = tt }
  page_taken-in take (Done (Some page)) stays =
      let within = stays.run_in.within in
      record { at_in = omega (arith, within); page_in = tt }

  page_entered-in : (page entry : ℕ) → page < g.pages → GrowStays g (page_entered g page entry)
  page_entered-in page entry there =
      let some = some_pages in
      cond_both (entry == 0) _ _ (GrowStays g)
      (λ t. record { at_in = there; page_in = there })
      (λ f. record {
        at_in = record {
          there_in = omega (arith, some);
          give_in = record {
            geometry_same = refl;
            run = record { some = omega arith; within = omega (arith, there) };
            word = record { from = omega arith; until = omega arith };
          };
        };
        page_in = tt;
      })

  page_given-in : (there : ℕ) (give : GiveRunModel) (next : Next (Unit {0})) → there < g.pages → IsGiveRunIn g give
      → GrowStays g (page_given there give next)
  page_given-in there give Go there_in give_in =
      record { at_in = record { there_in = there_in; give_in = give_in }; page_in = tt }
  page_given-in there give (Done answer) there_in give_in =
      record { at_in = record { there_in = there_in; give_in = give_in }; page_in = there_in }

  pub grow_stays_at : (at : GrowAt) (word : ℕ) → IsWord word → IsGrowAtIn g at → GrowStays g (grow_after_at g at word)
  grow_stays_at (at.Taking take) word told here =
      let stays : TakeRunIsIn g 1 (take_run_after take word) =
      subst (λ p. TakeRunIsIn g p (take_run_after take word)) here.one (take_run_stays g take word here.take_in) in
      page_taken-in (take_run_after take word).0 (take_run_after take word).1 stays
  grow_stays_at (at.Entering page) word told here = page_entered-in page word here
  grow_stays_at (at.Giving there give) word told here =
      page_given-in there (give_run_after give word).0 (give_run_after give word).1 here.there_in
      (give_run_stays g give word here.give_in)

-- and so does the machine
pub record GrowIsIn (g : Geometry) (next : GrowModel × Next (Option ℕ)) : Type 0 where
  pub grow_in : IsGrowIn g next.0
  pub page_in : IsGrowEndIn g next.1

pub grow_stays : (g : Geometry) (m : GrowModel) (word : ℕ) → IsGrowIn g m → IsWord word
    → GrowIsIn g (grow_after m word)
grow_stays g m word within told =
    let stays = grow_stays_at g m.at word told within.at_in in
    subst
    (λ (h : Geometry). GrowIsIn g (
      record m { at = (grow_after_at h m.at word).0 },
      (grow_after_at h m.at word).1,
    ))
    (sym within.geometry_same)
    (record {
      grow_in = record {
        geometry_same = within.geometry_same;
        entry_in = within.entry_in;
        at_in = stays.at_in;
      };
      page_in = stays.page_in;
    })

module _ (g : Geometry) where
  planned_grow_at : (entry : ℕ) (at : GrowAt) → IsBucketPlace g entry → IsGrowAtIn g at
      → IsPlannedIn g (grow_plan_at entry at)
  planned_grow_at entry (at.Taking take) entry_in here = planned_take_run g take here.take_in
  planned_grow_at entry (at.Entering page) entry_in here =
      let few = g.within.pages_within in
      planned_bucket g _ entry_in (omega (arith, here, few))
  planned_grow_at entry (at.Giving there give) entry_in here = planned_give_run g give here.give_in

  -- what it performs is on words of the page map, and on the entry
  pub planned_grow : (m : GrowModel) → IsGrowIn g m → IsPlannedIn g (grow_plan m)
  planned_grow m within = planned_grow_at m.entry m.at within.entry_in within.at_in
