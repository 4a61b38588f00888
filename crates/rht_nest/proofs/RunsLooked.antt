-- What the taking of a run of pages has shown once it has ended: whether each run was seen taken in its turn, and that its run
-- was taken, where it answers one. And once its operations have seen all runs in turn those left look at none, since they but give
-- pages back.
use Rattle.std.proofs.Common.{◌≡◌, ℕ, ◌+◌, ◌*◌, ◌<◌, List, [], ◌∷◌, ◌++◌, Some, None, refl, sym, subst, arith}
use Rattle.std.specs.Prelude.{Option, ◌↔◌, nat_le}
use Rattle.std.proofs.lemmas.Bool.{cond_both, leb-true}
use Rattle.rht_words.specs.declared.machine.Next.{Next}
use Rattle.rht_words.specs.declared.machine.Next.TheVariants.{Go, Done}
use Rattle.rht_words.specs.declared.geometry.Geometry.{Geometry}
use Rattle.rht_words.specs.Machines.{Performed, Ran, went_on, ran}
use Rattle.rht_arena.specs.declared.take_run.TakeRunAt.{TakeRunAt}
use Rattle.rht_arena.specs.declared.take_run.TakeRunAt.TheVariants.{MapWord, Claim, GiveBack}
use Rattle.rht_arena.specs.PageRuns.{IsRunIn}
use Rattle.rht_arena.specs.TakeRun.{TakeRunModel, first_run, take_run_plan, take_run_after, next_run, IsTakeRunAtIn, IsTakeRunIn}
use Rattle.rht_arena.specs.RunLaws.{run_taking_ran, RunWasTaken, AreRunsSeenInTurn}
use Rattle.rht_arena.proofs.RunsStay.{take_run_stays}
use Rattle.rht_arena.proofs.RunsTaken.{taken_run_was_free}
use Rattle.rht_arena.proofs.RunsSeen.{next_unseen, GoesOn, IsAhead, ahead_after, goes_on_in, begins-in, none_where_runs_taken_in_turn}
use Rattle.rht_nest.proofs.TurnsJoined.{IsBlind, AreBlind, IsQuiet}

-- what the operations of a taking that has ended with this answer have shown
pub record LookedThrough (g : Geometry) (pages : ℕ) (answer : Option ℕ) (steps : List Performed) : Type 0 where
  pub seen : (answer ≡ None) ↔ AreRunsSeenInTurn g pages 0 steps
  pub taken : (first : ℕ) → answer ≡ Some first → RunWasTaken g pages first steps
  pub quiet : IsQuiet g pages steps

-- nothing is behind the end of a list
none_behind : (before behind : List Performed) → [] ≡ before ++ behind → AreBlind behind
none_behind [] behind is = subst AreBlind is tt
none_behind (step ∷ before) behind is = absurd (cc)

module _ (g : Geometry) (pages : ℕ) where
  -- what comes of a machine
  abbrev from : TakeRunModel → List ℕ → Ran (Option ℕ)
  from take olds = ran take_run_plan take_run_after take olds

  -- the machine takes so many pages of this table
  record IsTaker (m : TakeRunModel) : Type 0 where
    pages_same : m.pages ≡ pages
    take_in : IsTakeRunIn g m

  IsTaker-after : (m : TakeRunModel) (old : ℕ) → IsTaker m → IsTaker (take_run_after m old).0
  IsTaker-after m old is =
      let stays = take_run_stays g m old is.take_in in
      record {
        pages_same = subst (λ p. (take_run_after m old).0.pages ≡ p) is.pages_same stays.pages_same;
        take_in = stays.take_in;
      }

  -- and stands at a run of it
  stands_in : (m : TakeRunModel) → IsTaker m → IsTakeRunAtIn g pages m.at
  stands_in m is = subst (λ p. IsTakeRunAtIn g p m.at) is.pages_same is.take_in.at_in

  -- ---- past the last run

  -- where the machine goes on there is no run left to be seen
  abbrev IsPast : Geometry → ℕ → TakeRunModel × Next (Option ℕ) → Type 0
  IsPast h p (m, Go) = h.pages < next_unseen p m.at + p
  IsPast h p (m, Done answer) = Unit {0}

  -- so its operation looks at none, and so it stays
  record StaysPast (h : Geometry) (p : ℕ) (m : TakeRunModel) (old : ℕ) : Type 0 where
    blind : IsBlind (record { op = take_run_plan m; old = old })
    past : IsPast h p (take_run_after m old)

  abbrev at_state : TakeRunModel → TakeRunAt → TakeRunModel
  at_state m state = record m { at = state }

  past_step : (m : TakeRunModel) (state : TakeRunAt) (old : ℕ) → IsTakeRunAtIn m.geometry m.pages state
      → m.geometry.pages < next_unseen m.pages state + m.pages
      → StaysPast m.geometry m.pages (at_state m state) old
  past_step m (MapWord first index) old here past = absurd (let run = here.run.within in omega (arith, run, past))
  past_step m (Claim first index) old here past = absurd (let run = here.run.within in omega (arith, run, past))
  past_step m (GiveBack first index bits) old here past =
      let state = at_state m (GiveBack first index bits) in
      record {
        blind = λ looks. looks;
        past =
            cond_both (nat_le (64 * index) first) (next_run state first) _ (IsPast m.geometry m.pages)
            (λ t.
            cond_both (nat_le (first + 2 * m.pages) m.geometry.pages) _ _ (IsPast m.geometry m.pages)
            (λ more. absurd (omega (arith, leb-true (first + 2 * m.pages) m.geometry.pages more, past)))
            (λ f. tt))
            (λ f. past);
      }

  stays_past : (m : TakeRunModel) (old : ℕ) → IsTaker m → g.pages < next_unseen pages m.at + pages
      → StaysPast g pages m old
  stays_past m old is =
      let own : IsTakeRunAtIn m.geometry m.pages m.at → m.geometry.pages < next_unseen m.pages m.at + m.pages
      → StaysPast m.geometry m.pages m old = past_step m m.at old in
      let moved : IsTakeRunAtIn g pages m.at → g.pages < next_unseen pages m.at + pages → StaysPast g pages m old =
      subst (λ p. IsTakeRunAtIn g p m.at → g.pages < next_unseen p m.at + p → StaysPast g p m old) is.pages_same
      (subst
      (λ (h : Geometry). IsTakeRunAtIn h m.pages m.at → h.pages < next_unseen m.pages m.at + m.pages
      → StaysPast h m.pages m old) is.take_in.geometry_same own) in
      moved (stands_in m is)

  blind_step : (step : Performed) (olds : List ℕ) (next : TakeRunModel × Next (Option ℕ)) → IsBlind step
      → IsPast g pages next → (g.pages < next_unseen pages next.0.at + pages → AreBlind (from next.0 olds).steps)
      → AreBlind (went_on step next.1 (from next.0 olds)).steps
  blind_step step olds (m, Go) blind past later = (blind, later past)
  blind_step step olds (m, Done answer) blind past later = (blind, tt)

  -- By induction over the words that the operations find.
  past_blind : (olds : List ℕ) (m : TakeRunModel) → IsTaker m → g.pages < next_unseen pages m.at + pages
      → AreBlind (from m olds).steps
  past_blind [] m is past = tt
  past_blind (old ∷ olds) m is past =
      let stays = stays_past m old is past in
      blind_step (record { op = take_run_plan m; old = old }) olds (take_run_after m old) stays.blind stays.past
      (past_blind olds (take_run_after m old).0 (IsTaker-after m old is))

  -- ---- quiet

  -- what is to be shown of the operations from a state on, where runs are to be seen from this one on
  abbrev QuietFrom : ℕ → List Performed → Type 0
  QuietFrom first steps =
      (before behind : List Performed) → steps ≡ before ++ behind → AreRunsSeenInTurn g pages first before
      → AreBlind behind

  module _ (m : TakeRunModel) (olds : List ℕ) (step : Performed) (first : ℕ)
      (ahead : IsAhead pages first (next_unseen pages m.at)) where
    quiet_step : (next : TakeRunModel × Next (Option ℕ)) → GoesOn g pages (next_unseen pages m.at) step next
        → ((f : ℕ) → IsAhead pages f (next_unseen pages next.0.at) → QuietFrom f (from next.0 olds).steps)
        → (before behind : List Performed) (seen : Performed)
        → (went_on step next.1 (from next.0 olds)).steps ≡ seen ∷ (before ++ behind)
        → AreRunsSeenInTurn g pages first (seen ∷ before) → AreBlind behind
    quiet_step (n, Done answer) on later before behind seen is turn =
        none_behind before behind (cc)
    quiet_step (n, Go) on later before behind seen is turn =
        let same : seen ≡ step = cc in
        let rest : (from n olds).steps ≡ before ++ behind = cc in
        let after = ahead_after g pages (next_unseen pages m.at) on.end step first ahead on.went
        (λ f. AreRunsSeenInTurn g pages f before)
        (subst (λ s. AreRunsSeenInTurn g pages first (s ∷ before)) same turn) in
        later after.0 (subst (IsAhead pages after.0) (sym on.stands) after.1.1) before behind rest after.1.0

  -- By induction over the words that the operations find.
  quiet_from : (olds : List ℕ) (m : TakeRunModel) → IsTaker m
      → (first : ℕ) → IsAhead pages first (next_unseen pages m.at) → QuietFrom first (from m olds).steps
  quiet_from [] m is first ahead before behind are turn = none_behind before behind are
  quiet_from (old ∷ olds) m is first ahead [] behind are turn =
      subst AreBlind are (past_blind (old ∷ olds) m is (omega (arith, turn, ahead.1)))
  quiet_from (old ∷ olds) m is first ahead (seen ∷ before) behind are turn =
      let step : Performed = record { op = take_run_plan m; old = old } in
      quiet_step m olds step first ahead (take_run_after m old)
      (goes_on_in g pages m old is.take_in.geometry_same is.pages_same (stands_in m is))
      (quiet_from olds (take_run_after m old).0 (IsTaker-after m old is))
      before behind seen are turn

-- a taking that has ended
pub looked_through : (g : Geometry) (pages : ℕ) (olds : List ℕ) (answer : Option ℕ) → IsRunIn g 0 pages
    → (run_taking_ran g pages olds).next ≡ Done answer
    → LookedThrough g pages answer (run_taking_ran g pages olds).steps
looked_through g pages olds answer run done = record {
  seen = none_where_runs_taken_in_turn g pages olds answer run done;
  taken = λ first is.
      taken_run_was_free g pages olds first run
      (subst (λ (a : Option ℕ). (run_taking_ran g pages olds).next ≡ Done a) is done);
  quiet =
      quiet_from g pages olds (first_run g pages)
      (record { pages_same = refl; take_in = record { geometry_same = refl; at_in = begins-in g pages run } })
      0 (0, omega arith);
}

-- where there are too few pages there is no operation
pub looked_none : (g : Geometry) (pages : ℕ) → g.pages < pages → LookedThrough g pages None []
looked_none g pages few = record {
  seen = (λ none. omega (arith, few), λ turn. refl);
  taken = λ first is. absurd (cc);
  quiet = λ before behind are turn. none_behind before behind are;
}
