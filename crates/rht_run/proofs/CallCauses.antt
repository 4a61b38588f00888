-- Why a pass's call was answered as it was.
-- In the run that the pass is in, the traces remember the finished calls of the pass, in order, and each of these has its cause by
-- the law of causes. So the one behind the calls that the pass had before stands in the trace at their number, and has its cause.
-- Behind a tidying the pass is in no call. So its batch is the one that the tidying left, in the run of that cause.
use Rattle.std.proofs.Common.{◌≡◌, ℕ, ◌+◌, List, [], ◌∷◌, ◌++◌, length, map, refl, sym, ap, ◌∙◌, subst, append-nil, length-append, arith}
use Rattle.std.specs.Prelude.{Some}
use Rattle.std.specs.List.{AllByRecursion, slice_get}
use Rattle.std.proofs.lemmas.List.{length-map}
use Rattle.std.proofs.lemmas.Option.{slice_get_within}
use Rattle.rht_words.specs.declared.env.Env.{Env}
use Rattle.rht_model.specs.declared.history.Call.{Call}
use Rattle.rht_model.specs.declared.history.Call.TheVariants.{Tidy}
use Rattle.rht_model.specs.declared.history.Reply.{Reply}
use Rattle.rht_model.specs.declared.finished.Finished.{Finished}
use Rattle.rht_model.specs.Endings.{replied, ended_with}
use Rattle.rht_core.specs.declared.event.Event.{Event}
use Rattle.rht_callers.specs.declared.local.Local.{Local}
use Rattle.rht_callers.specs.Batches.{batch_room}
use Rattle.rht_callers.specs.Locals.{is_idle}
use Rattle.rht_callers.proofs.BatchesOfCallers.{idle-batch}
use Rattle.rht_core.specs.Runs.{Core, World, View, local_of, run_of, IsAdmitted}
use Rattle.rht_core.specs.Traces.{Past, traced_of}
use Rattle.rht_core.specs.Causes.{HasCause}
use Rattle.rht_core.specs.Tidied.{batch_of, batch_or}
use Rattle.rht_core.proofs.Events.SoundRuns.{runs-in}
use Rattle.rht_core.proofs.Tracing.TidiesInRuns.{rests}
use Rattle.rht_core.proofs.Tracing.TracesInRuns.{remembers}
use Rattle.rht_core.proofs.Reasons.CausesInRuns.{causes}
use Rattle.rht_run.specs.declared.table.Table.{Table}
use Rattle.rht_run.specs.declared.pass.Pass.{Pass}
use Rattle.rht_run.specs.Rule.{Shows, held_at}
use Rattle.rht_run.specs.Passes.{IsPassOf, HasCalled, book_of, seen_by}
use Rattle.rht_run.specs.Caused.{IsTracedCall, IsCaused, HasLeftBatch}
use Rattle.rht_run.proofs.ViewLists.{in_one}

-- of some calls in a trace the one at this place is this finished call, and has what all of them have
record StandsAt (Has : Past → Type 0) (pasts : List Past) (n : ℕ) (done : Finished) : Type 0 where
  past : Past
  place : slice_get pasts n ≡ Some past
  done_is : past.done ≡ done
  has : Has past

-- by induction over the calls before it
stands : (Has : Past → Type 0) (pasts : List Past) (before : List Finished) (done : Finished) (rest : List Finished)
    → map (λ (past : Past). past.done) pasts ≡ before ++ done ∷ rest → AllByRecursion Has pasts
    → StandsAt Has pasts (length before) done
stands Has [] [] done rest same all = absurd (cc)
stands Has [] (other ∷ before) done rest same all = absurd (cc)
stands Has (past ∷ pasts) [] done rest same all =
    record { past = past; place = refl; done_is = cc; has = all.0 }
stands Has (past ∷ pasts) (other ∷ before) done rest same all =
    let behind : map (λ (past : Past). past.done) pasts ≡ before ++ done ∷ rest = cc in
    let there = stands Has pasts before done rest behind all.1 in
    record { past = there.past; place = there.place; done_is = there.done_is; has = there.has }

module _ {M : Type 0} (mix : ℕ → ℕ → ℕ → ℕ) (t : Table M) (call : Call) (reply : Reply) (before now : Pass M) where
  -- the call, with the lists in the rooms of the pass
  abbrev pub done_now : Finished
  done_now = ended_with call (replied reply now.local.owners.items now.local.pairs.items)

  -- What is so of each call that has ended in a run is so of a finished call of the pass, at its place.
  traced_behind : (Fact : Env → List Event → ℕ → Past → Type 0)
      → ((events : List Event) → IsAdmitted events
      → AllByRecursion (Fact t.env events now.number) ((traced_of {M = M} mix t.env events).traces now.number).past)
      → (earlier rest : List Finished) → IsPassOf mix t now
      → (book_of now).finished ≡ ((book_of before).finished ++ earlier) ++ done_now ∷ rest
      → IsTracedCall mix t call reply before now Fact
  traced_behind Fact each earlier rest is finished =
      let events = is.in_run.events in
      let c = now.number in
      let admitted : IsAdmitted events = is.in_run.admitted in
      let shows : Shows t.env (run_of mix t.env events) (held_at c (seen_by now)) =
      subst (λ (e : Env). Shows e (run_of mix e events) (held_at c (seen_by now))) is.same_env
      (is.in_run.shows (held_at c (seen_by now)) (in_one (held_at c (seen_by now)) now.seat.me.0.held is.held)) in
      let traced = remembers M mix t.env events admitted in
      let pasts : List Past = ((traced_of {M = M} mix t.env events).traces c).past in
      let others = (book_of before).finished ++ earlier in
      let remembered : map (λ (past : Past). past.done) pasts ≡ others ++ done_now ∷ rest =
      (traced.traces c).past ∙ ap (λ (w : World M). (w.books c).finished) traced.world
      ∙ ap (λ (v : View M). v.book.finished) shows.shown ∙ finished in
      let there =
      stands (Fact t.env events c) pasts others done_now rest remembered (each events admitted) in
      record {
        events = events;
        admitted = admitted;
        shows = shows;
        at = length others;
        behind = (let long = length-append (book_of before).finished earlier in omega (arith, long));
        past = there.past;
        place = there.place;
        done = there.done_is;
        fact = there.has;
      }

  -- so it is of the first one behind those of `before`
  pub traced_call : (Fact : Env → List Event → ℕ → Past → Type 0)
      → ((events : List Event) → IsAdmitted events
      → AllByRecursion (Fact t.env events now.number) ((traced_of {M = M} mix t.env events).traces now.number).past)
      → (rest : List Finished) → IsPassOf mix t now → (book_of now).finished ≡ (book_of before).finished ++ done_now ∷ rest
      → IsTracedCall mix t call reply before now Fact
  traced_call Fact each rest is finished =
      traced_behind Fact each [] rest is
      (finished ∙ ap (λ others. others ++ done_now ∷ rest) (sym (append-nil (book_of before).finished)))

  -- so it has its cause
  pub caused : (earlier rest : List Finished) → IsPassOf mix t now
      → (book_of now).finished ≡ ((book_of before).finished ++ earlier) ++ done_now ∷ rest → IsCaused mix t call reply before now
  caused = traced_behind (HasCause M mix) (λ events admitted. causes M mix t.env events now.number admitted)

  -- and the last one has
  pub called_caused : HasCalled mix t call reply before now → IsCaused mix t call reply before now
  called_caused has = traced_call (HasCause M mix) (λ events admitted. causes M mix t.env events now.number admitted) [] has.pass has.finished

-- ---- tidyings

module _ {M : Type 0} (mix : ℕ → ℕ → ℕ → ℕ) (t : Table M) (reply : Reply) (before now : Pass M) where
  -- The last call of the pass is a tidying, so the pass has the batch that this left: its caller is in no call.
  pub tidied_left : HasCalled mix t Tidy reply before now → HasLeftBatch mix t reply before now
  tidied_left has =
      let there = called_caused mix t Tidy reply before now has in
      let events : List Event = there.events in
      let c = now.number in
      let core : Core M = (run_of {M = M} mix t.env events).core in
      let pasts : List Past = ((traced_of {M = M} mix t.env events).traces c).past in
      let traced = remembers M mix t.env events there.admitted in
      let local : local_of core c ≡ now.local = ap (λ (v : View M). v.local) there.shows.shown in
      let finished : map (λ (past : Past). past.done) pasts ≡ (book_of now).finished =
      (traced.traces c).past ∙ ap (λ (w : World M). (w.books c).finished) traced.world
      ∙ ap (λ (v : View M). v.book.finished) there.shows.shown in
      let last = done_now mix t Tidy reply before now in
      let count : length pasts ≡ length (book_of before).finished + 1 =
      sym (length-map pasts (λ (past : Past). past.done)) ∙ ap length (finished ∙ has.finished)
      ∙ length-append (book_of before).finished (last ∷ []) in
      let within = slice_get_within pasts there.at there.past there.place in
      let behind = there.behind in
      let long : length pasts ≡ there.at + 1 = omega (arith, count, within, behind) in
      let rest = rests M mix t.env events c there.admitted (ap is_idle local ∙ has.idle) there.at there.past there.place long in
      let same_env : core.env ≡ t.env = (runs-in M mix t.env events).same_env in
      let mine : batch_of core c ≡ batch_or t.env.geometry now.local.batch =
      ap (λ (e : Env). batch_or e.geometry (batch_room (local_of core c).doing (local_of core c).batch)) same_env
      ∙ ap (λ (l : Local M). batch_or t.env.geometry (batch_room l.doing l.batch)) local
      ∙ ap (batch_or t.env.geometry)
      (idle-batch M (λ batch. batch_room now.local.doing now.local.batch ≡ batch) now.local has.idle refl) in
      record {
        events = events;
        admitted = there.admitted;
        shows = there.shows;
        at = there.at;
        behind = there.behind;
        past = there.past;
        place = there.place;
        done = there.done;
        fact = record { caused = there.fact; left = sym mine ∙ rest };
      }
