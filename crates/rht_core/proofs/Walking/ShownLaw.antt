-- In every run each full walk of one call shows rightly, and one of several where few serials were taken.
use Rattle.std.proofs.Common.{◌≢◌, ℕ, ◌≤◌, List, [], ◌∷◌, length, Option, Some, None, inl, inr, arith}
use Rattle.std.specs.List.{AllByRecursion}
use Rattle.rht_words.specs.declared.env.Env.{Env}
use Rattle.rht_words.proofs.EachElement.{AllByRecursion-weaker}
use Rattle.rht_model.specs.declared.history.Cursor.{Cursor}
use Rattle.rht_core.specs.declared.event.Event.{Event}
use Rattle.rht_core.specs.Runs.{IsAdmitted}
use Rattle.rht_core.specs.Shown.{AreWalks, AreAmong, AreFewMade, ShowsRightly, Shown, ShowsLoaded, ShownWhole, ShowsBound, ShownBound, pairs_of, ends_behind}
use Rattle.rht_core.specs.Traces.{Past, traced_of, behind_call}
use Rattle.rht_core.proofs.Tracing.TracesAtEvents.{at_events}
use Rattle.rht_core.proofs.Walking.FullWalks.{AreApart, among-apart, among-all, AllShown, calls_shown}
use Rattle.rht_core.proofs.Walking.MadeSerials.{apart}
use Rattle.rht_core.proofs.Walking.WalkingRuns.{has_walks}
use Rattle.rht_core.proofs.Walking.WalksAtEvents.{PastWalks, AreWalking}

module _ (L : Type 0) (mix : ℕ → ℕ → ℕ → ℕ) (env : Env) (events : List Event) (c : ℕ) (first : Past) (pasts : List Past)
    (admitted : IsAdmitted events) (few : pasts ≢ [] → AreFewMade L mix env events) (full : AreWalks None (first ∷ pasts))
    (among : AreAmong (first ∷ pasts) ((traced_of {M = L} mix env events).traces c).past) where
  abbrev walking : AreWalking L mix env events (traced_of mix env events)
  walking = has_walks L mix env events admitted

  each : AllByRecursion (PastWalks L mix env events walking.looking.placed.ghost walking.count) (first ∷ pasts)
  each = among-all _ (first ∷ pasts) _ (walking.walks c).past among

  in_order : AreApart first.begin (first ∷ pasts)
  in_order =
      let order = among-apart 0 (first ∷ pasts) _ (at_events L mix env events admitted c).in_order among in
      (omega arith, order.1, order.2)

  -- the last call of a full walk has ended by now
  ended_by : (from : Option Cursor) (past : Past) (more : List Past) → AreWalks from (past ∷ more)
      → AllByRecursion (PastWalks L mix env events walking.looking.placed.ghost walking.count) (past ∷ more)
      → ends_behind (behind_call past) more ≤ length events
  ended_by from past [] walks had = (had.0 from walks.limit walks.len None walks.call walks.reply).done_by
  ended_by from past (next ∷ more) (cursor, walk, walks) had = ended_by (Some cursor) next more walks had.1

  abbrev behind : ℕ
  behind = ends_behind (behind_call first) pasts

  all_shown : AllShown L mix env events walking.looking.placed.ghost walking.count walking.counted
      None first.begin behind (pairs_of (first ∷ pasts))
  all_shown = calls_shown L mix env events walking.looking.placed.ghost walking.count walking.counted
      None first pasts (λ some. apart L mix env events _ walking.looking.placed.ghost walking.made (few some)) full each in_order
      (ended_by None first pasts full each)

  pub shows : ShowsRightly L mix env events first.begin behind (pairs_of (first ∷ pasts))
  shows = record {
    throughout = λ port bound. elim (all_shown.shown port (omega arith)) [
      | inl missed ↦ absurd (bound missed.at missed.begun missed.before missed.none)
      | inr there ↦ there
    ];
    bound = AllByRecursion-weaker _ _ (λ pair is. (is.at, is.rest, is.begun, is.before, is.is)) _ all_shown.bound;
    once = all_shown.distinct;
  }

pub shown : (L : Type 0) (mix : ℕ → ℕ → ℕ → ℕ) → Shown L mix
shown L mix env events c first pasts admitted few full among = shows L mix env events c first pasts admitted few full among

-- and each walk that has ended shows what it loaded
pub shown_whole : (L : Type 0) (mix : ℕ → ℕ → ℕ → ℕ) → ShownWhole L mix
shown_whole L mix env events c admitted =
    AllByRecursion-weaker _ (ShowsLoaded env) (λ past had from limit len next call reply. (had from limit len next call reply).whole) _
    ((has_walks L mix env events admitted).walks c).past

-- and ports with first owners that they had meanwhile
pub shown_bound : (L : Type 0) (mix : ℕ → ℕ → ℕ → ℕ) → ShownBound L mix
shown_bound L mix env events c admitted =
    AllByRecursion-weaker _ (ShowsBound L mix env events)
    (λ past had from limit len next call reply.
    AllByRecursion-weaker _ _ (λ pair is. (is.at, is.rest, is.begun, is.before, is.is)) past.done.pairs
    (had from limit len next call reply).bound) _
    ((has_walks L mix env events admitted).walks c).past
