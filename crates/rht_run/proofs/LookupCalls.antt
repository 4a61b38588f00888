-- What a look-up that was driven has to show, and why it can't go on for ever.
-- In the run that its pass is in, the traces remember its operations, and no look-up of a run has more of them than the bound. The
-- bound is far below the rounds of the loops that drive it. So behind such a loop nothing stands.
use Rattle.std.proofs.Common.{◌≡◌, ℕ, ◌+◌, ◌*◌, ◌<◌, ◌≤◌, List, [], refl, ap, ◌∙◌, subst, arith}
use Rattle.std.proofs.lemmas.Nat.{mul-le}
use Rattle.std.specs.Prelude.{Some}
use Rattle.std.specs.List.{AllByRecursion}
use Rattle.atomic_table.specs.declared.shared.Seat.{Seat}
use Rattle.rht_words.specs.declared.env.Env.{Env}
use Rattle.rht_words.proofs.EachElement.{AllByRecursion-both}
use Rattle.rht_model.specs.declared.history.Call.TheVariants.{Find}
use Rattle.rht_model.specs.declared.history.Reply.{Reply}
use Rattle.rht_model.specs.declared.finished.Finished.{Finished}
use Rattle.rht_find.specs.FindBound.{find_bound}
use Rattle.rht_callers.specs.declared.local.Doing.{Doing}
use Rattle.rht_core.specs.declared.event.Event.{Event}
use Rattle.rht_core.specs.Runs.{World, run_of, IsAdmitted}
use Rattle.rht_core.specs.Traces.{Past, traced_of}
use Rattle.rht_core.specs.Lookups.{HasRead, AnswersMoment, IsFoundThroughout, IsShort}
use Rattle.rht_core.proofs.Finding.LookupLaws.{bounded, takes_effect, finds_what_stays}
use Rattle.rht_core.proofs.Finding.ReadsInside.{reads_inside}
use Rattle.rht_core.proofs.Tracing.TracesInRuns.{remembers}
use Rattle.rht_run.specs.declared.seats.SeatView.{SeatView}
use Rattle.rht_run.specs.declared.table.Table.{Table}
use Rattle.rht_run.specs.declared.pass.Pass.{Pass}
use Rattle.rht_run.specs.Passes.{HasCalled}
use Rattle.rht_run.specs.Caused.{IsTracedCall, LooksUp, HasLookedUp}
use Rattle.rht_run.specs.Rides.{Riding, riding_pass, steps_in, IsRiding}
use Rattle.rht_run.proofs.CallCauses.{traced_call}
use Rattle.rht_run.proofs.Performed.{of_run}

-- ---- how many operations

-- the bound is below the rounds of a loop
find_bound-small : (env : Env) → find_bound env < 18446744073709551615
find_bound-small env =
    let most = mul-le (env.config.rewalks + 1) (4 + 2 * env.geometry.nodes) 256 131076
    (omega (arith, env.settled.rewalks))
    (omega (arith, env.agrees.nodes_same, env.settled.geometry.nodes_within.1)) in
    omega (arith, most)

module _ (M : Type 0) (mix : ℕ → ℕ → ℕ → ℕ) where
  -- the look-up that a caller is in has made no more operations than the bound
  short_now : (env : Env) (events : List Event) (c : ℕ) (port : ℕ) → IsAdmitted events
      → let w : World M = run_of mix env events in
      (w.books c).call ≡ Some (Find port) → (w.books c).steps ≤ find_bound env
  short_now env events c port admitted asked =
      let traced = remembers M mix env events admitted in
      let same = ap (λ (w : World M). (w.books c).call) traced.world ∙ asked in
      let few = (bounded M mix env events c admitted).now (Find port) same port refl in
      subst (λ n. n ≤ find_bound env) ((traced.traces c).steps ∙ ap (λ (w : World M). (w.books c).steps) traced.world) few

module _ {M : Type 0} (mix : ℕ → ℕ → ℕ → ℕ) where
  -- so none has made as many as a loop has rounds
  pub look_ends : (t : Table M) (r : Riding) (doing : Doing M) (seat : Seat (Unit {0}) (SeatView M)) (port : ℕ) → r.call ≡ Find port
      → IsRiding mix t r doing seat → 18446744073709551615 ≤ steps_in seat → ⊥
  look_ends t r doing seat port looks is many =
      let few : steps_in seat ≤ find_bound t.env =
      of_run mix t (riding_pass r doing seat) is.pass
      (λ env c local book. book.call ≡ Some (Find port) → book.steps ≤ find_bound env)
      (λ env events c admitted. short_now M mix env events c port admitted) (is.call ∙ ap Some looks) in
      omega (arith, few, many, find_bound-small t.env)

-- ---- what it has to show

module _ {M : Type 0} (mix : ℕ → ℕ → ℕ → ℕ) (t : Table M) where
  -- the call is a look-up that was as the laws say, or no look-up
  abbrev Looked : Env → List Event → ℕ → Past → Type 0
  Looked env events c past = (port : ℕ) → past.done.call ≡ Find port → LooksUp M mix port env events c past

  -- where it is a look-up it took effect at a moment, and found what was bound throughout
  abbrev TakesEffectRightly : Env → List Event → Past → Type 0
  TakesEffectRightly env events past =
      ((port : ℕ) → past.done.call ≡ Find port → AnswersMoment M mix env events past port)
      × IsFoundThroughout M mix env events past

  -- it was short, and read in its section
  abbrev ReadsRightly : Env → ℕ → Past → Type 0
  ReadsRightly env c past =
      IsShort env past.done.call past.steps × ((port : ℕ) → past.done.call ≡ Find port → HasRead env.geometry c past.steps)

  all_looked : (c : ℕ) (events : List Event) → IsAdmitted events
      → AllByRecursion (Looked t.env events c) ((traced_of {M = M} mix t.env events).traces c).past
  all_looked c events admitted =
      AllByRecursion-both (ReadsRightly t.env c) (TakesEffectRightly t.env events) (Looked t.env events c)
      (λ past reads effect port is. record {
        short = reads.0 port is;
        reads = reads.1 port is;
        moment = effect.0 port is;
        throughout = effect.1;
      }) _
      (AllByRecursion-both (λ (past : Past). IsShort t.env past.done.call past.steps)
      (λ past. (port : ℕ) → past.done.call ≡ Find port → HasRead t.env.geometry c past.steps) (ReadsRightly t.env c)
      (λ past short reads. (short, reads)) _
      (bounded M mix t.env events c admitted).past (reads_inside M mix t.env events c admitted).past)
      (AllByRecursion-both (λ (past : Past). (port : ℕ) → past.done.call ≡ Find port → AnswersMoment M mix t.env events past port)
      (IsFoundThroughout M mix t.env events) (TakesEffectRightly t.env events) (λ past moment stays. (moment, stays)) _
      (takes_effect M mix t.env events c admitted) (finds_what_stays M mix t.env events c admitted))

  pub looked : (port : ℕ) (reply : Reply) (before now : Pass M) → HasCalled mix t (Find port) reply before now
      → HasLookedUp mix t port reply before now
  looked port reply before now has =
      let is : IsTracedCall mix t (Find port) reply before now Looked =
      traced_call mix t (Find port) reply before now Looked (all_looked now.number) [] has.pass has.finished in
      record {
        events = is.events;
        admitted = is.admitted;
        shows = is.shows;
        at = is.at;
        behind = is.behind;
        past = is.past;
        place = is.place;
        done = is.done;
        fact = is.fact port (ap (λ (done : Finished). done.call) is.done);
      }
