-- In every run a resumed walk over words that stay shows just what is bound. Its walks find the words as they are behind any one event of the
-- span, so they answer by the buckets that these have; and the pairs of these buckets are the bindings.
use Rattle.std.proofs.Common.{◌≡◌, ℕ, zero, suc, ◌+◌, ◌-◌, ◌<◌, ◌≤◌, List, [], ◌∷◌, ◌++◌, map, take, slice_index, refl, sym, ap, ◌∙◌, subst, inl, inr, arith}
use Rattle.std.specs.List.{AllByRecursion, flat_map, range_with_len}
use Rattle.std.proofs.lemmas.Bool.{cases_lt}
use Rattle.std.proofs.lemmas.List.{append-nil}
use Rattle.rht_words.specs.declared.env.Env.{Env}
use Rattle.rht_words.specs.Operations.{old_of}
use Rattle.rht_words.proofs.EachElement.{AllByRecursion-weaker, AllByRecursion-both}
use Rattle.rht_core.specs.declared.event.Event.{Event}
use Rattle.rht_core.specs.Laws.{IsRecorded, IsPastCall}
use Rattle.rht_core.specs.Runs.{IsAdmitted}
use Rattle.rht_core.specs.Seen.{words_before}
use Rattle.rht_core.specs.Shown.{AreAmong, ends_behind}
use Rattle.rht_core.specs.Traces.{Did, Past, performed_of, traced_of, IsRising, AreInOrder, behind_call}
use Rattle.rht_core.specs.WalkCauses.{SawForWalk}
use Rattle.rht_core.proofs.Tracing.StepsInTraces.{LiesWithin, rising-within}
use Rattle.rht_core.proofs.Tracing.TracesAtEvents.{at_events}
use Rattle.rht_core.proofs.Tracing.WalksInRuns.{HasWalked, walked}
use Rattle.rht_core.proofs.Walking.FullWalks.{AreApart, among-apart, among-all}
use Rattle.rht_resume.specs.Laws.{NextMade, IsResumedWalk, IsNoSection, IsStill, AreAllBound, ShowsAllOnce, all_walks, all_pairs, begins_at, ends_at, ends_with}
use Rattle.rht_resume.specs.Pieces.{start}
use Rattle.rht_resume.proofs.StillBuckets.{bucket_pairs, size_now, IsNoneBehind, FindsHere}
use Rattle.rht_resume.proofs.StillWalks.{still_walk}
use Rattle.rht_resume.proofs.WholePieces.{WalkedBy, whole}
use Rattle.rht_resume.proofs.CurrentBound.{CurrentShows, current_shows, buckets_show}

-- ---- calls one behind the other

ends-append : (from : ℕ) (pasts more : List Past) → ends_behind from (pasts ++ more) ≡ ends_behind (ends_behind from pasts) more
ends-append from [] more = refl
ends-append from (past ∷ pasts) more = ends-append (behind_call past) pasts more

-- the last walk of a resumed walk ends where its last piece does
ends_all : (from : ℕ) (made : NextMade) (others : List NextMade) → ends_behind from (all_walks (made ∷ others)) ≡ ends_with made others
ends_all from made [] = ap (ends_behind (behind_call made.first)) (append-nil made.more)
ends_all from made (next ∷ others) =
    ends-append (behind_call made.first) made.more (all_walks (next ∷ others)) ∙ ends_all (ends_at made) next others

apart-late : (from : ℕ) (pasts : List Past) → AreApart from pasts → from ≤ ends_behind from pasts
apart-late from [] apart = omega arith
apart-late from (past ∷ pasts) apart =
    let later = apart-late (behind_call past) pasts apart.2 in
    let first = apart.0 in
    let begun = apart.1 in
    omega (arith, later, first, begun)

-- each call lies between the first one's beginning and the last one's end
abbrev pub LiesBetween : ℕ → ℕ → Past → Type 0
LiesBetween from behind past = (from ≤ past.begin) × (behind_call past ≤ behind)

pub each-between : (from : ℕ) (pasts : List Past) → AreApart from pasts → AllByRecursion (LiesBetween from (ends_behind from pasts)) pasts
each-between from [] apart = tt
each-between from (past ∷ pasts) apart = (
  (apart.0, apart-late (behind_call past) pasts apart.2),
  AllByRecursion-weaker (LiesBetween (behind_call past) (ends_behind (behind_call past) pasts))
      (LiesBetween from (ends_behind (behind_call past) pasts))
      (λ p lies. (let low = lies.0 in let first = apart.0 in let begun = apart.1 in omega (arith, low, first, begun), lies.1)) pasts
      (each-between (behind_call past) pasts apart.2),
)

-- the steps of each call rise
abbrev StepsRise : Past → Type 0
StepsRise past = IsRising (past.begin + 1) past.steps

each-rising : (from : ℕ) (pasts : List Past) → AreInOrder from pasts → AllByRecursion StepsRise pasts
each-rising from [] order = tt
each-rising from (past ∷ pasts) order = (order.1, each-rising (behind_call past) pasts order.2)

-- the first of the events are admitted where all are
admitted-first : (events : List Event) (n : ℕ) → IsAdmitted events → IsAdmitted (take n events)
admitted-first events zero all = tt
admitted-first [] (suc n) all = tt
admitted-first (event ∷ events) (suc n) all = (all.0, admitted-first events n all.1)

less-none : (n : ℕ) → n ≡ n - 0
less-none n = omega arith

-- ---- words that stay

module _ (L : Type 0) (mix : ℕ → ℕ → ℕ → ℕ) (env : Env) (events : List Event) where
  abbrev words_at : ℕ → List ℕ
  words_at n = words_before L mix env events n

  module _ (begin behind : ℕ) (still : IsStill L mix env events begin behind) where
    stays_up : (place : ℕ) → IsNoSection env place → (from count : ℕ) → begin ≤ from → from + count ≤ behind
        → slice_index (words_at (from + count)) place ≡ slice_index (words_at from) place
    stays_up place apart from zero low high = let none : from + zero ≡ from = omega arith in ap (λ n. slice_index (words_at n) place) none
    stays_up place apart from (suc count) low high =
        let next : from + suc count ≡ from + count + 1 = omega arith in
        ap (λ n. slice_index (words_at n) place) next
        ∙ still (from + count) place (omega (arith, low)) (omega (arith, high)) apart
        ∙ stays_up place apart from count low (omega (arith, high))

    -- a word of the table is the same behind any two events of the span
    stays : (place : ℕ) → IsNoSection env place → (i k : ℕ) → begin ≤ i → i ≤ k → k ≤ behind
        → slice_index (words_at k) place ≡ slice_index (words_at i) place
    stays place apart i k low order high =
        let up : i + (k - i) ≡ k = omega (arith, order) in
        ap (λ n. slice_index (words_at n) place) (sym up) ∙ stays_up place apart i (k - i) low (omega (arith, up, high))

    same : (place : ℕ) → IsNoSection env place → (i k : ℕ) → begin ≤ i → i ≤ behind → begin ≤ k → k ≤ behind
        → slice_index (words_at i) place ≡ slice_index (words_at k) place
    same place apart i k low high least most = elim (cases_lt i k) [
      | inl below ↦ sym (stays place apart i k low (omega (arith, below)) most)
      | inr above ↦ stays place apart k i least above high
    ]

    -- what is loaded in the span is what stands there behind any event of it
    finds : (c at : ℕ) → begin ≤ at → at ≤ behind → (did : Did) → IsRecorded L mix env events c did → begin ≤ did.index → did.index ≤ behind
        → FindsHere env.geometry (words_at at) (performed_of did)
    finds c at low high did recorded later sooner place loads apart =
        sym recorded.found ∙ ap (old_of (words_at did.index)) loads ∙ same place apart did.index at later sooner low high

    -- so it is of all operations of a call in the span
    finds_all : (c at : ℕ) → begin ≤ at → at ≤ behind → (past : Past) → IsPastCall L mix env events c past → StepsRise past
        → LiesBetween begin behind past → AllByRecursion (FindsHere env.geometry (words_at at)) (map performed_of past.steps)
    finds_all c at low high past is rising lies =
        all_performed past.steps
        (AllByRecursion-both (IsRecorded L mix env events c) (LiesWithin (past.begin + 1) past.steps)
        (λ did. FindsHere env.geometry (words_at at) (performed_of did))
        (λ did recorded within.
        let begun = lies.0 in
        let ended = lies.1 in
        let first = within.0 in
        let last = within.1 in
        finds c at low high did recorded (omega (arith, begun, first)) (omega (arith, last, ended)))
        past.steps is.steps (rising-within (past.begin + 1) past.steps rising))
      where
        all_performed : (steps : List Did) → AllByRecursion (λ did. FindsHere env.geometry (words_at at) (performed_of did)) steps
            → AllByRecursion (FindsHere env.geometry (words_at at)) (map performed_of steps)
        all_performed [] all = tt
        all_performed (did ∷ steps) all = (all.0, all_performed steps all.1)

-- ---- the walk

module _ (L : Type 0) (mix : ℕ → ℕ → ℕ → ℕ) (env : Env) (events : List Event) (c : ℕ) (made : NextMade) (others : List NextMade)
    (admitted : IsAdmitted events) (is_walk : IsResumedWalk start (made ∷ others))
    (among : AreAmong (all_walks (made ∷ others)) ((traced_of {M = L} mix env events).traces c).past)
    (still : IsStill L mix env events (begins_at made) (ends_with made others)) where
  abbrev walks : List Past
  walks = all_walks (made ∷ others)

  abbrev begin : ℕ
  begin = begins_at made

  abbrev behind : ℕ
  behind = ends_with made others

  abbrev all_past : List Past
  all_past = ((traced_of {M = L} mix env events).traces c).past

  abbrev words : ℕ → List ℕ
  words n = words_at L mix env events n

  in_order : AreApart begin walks
  in_order =
      let apart = among-apart 0 walks all_past (at_events L mix env events admitted c).in_order among in
      (omega arith, apart.1, apart.2)

  -- the span has an event
  some : begin < behind
  some =
      let apart = in_order in
      let begun = apart.1 in
      let late = apart-late (behind_call made.first) (made.more ++ all_walks others) apart.2 in
      let end = ends_all begin made others in
      omega (arith, begun, late, end)

  between : AllByRecursion (LiesBetween begin behind) walks
  between = subst (λ end. AllByRecursion (LiesBetween begin end) walks) (ends_all begin made others) (each-between begin walks in_order)

  abbrev IsCallOf : Past → Type 0
  IsCallOf past = IsPastCall L mix env events c past × StepsRise past

  calls : AllByRecursion IsCallOf walks
  calls =
      let trace = at_events L mix env events admitted c in
      among-all IsCallOf walks all_past
      (AllByRecursion-both (IsPastCall L mix env events c) StepsRise IsCallOf (λ past is rise. (is, rise)) all_past trace.past
      (each-rising 0 all_past trace.in_order)) among

  abbrev Answers : ℕ → Past → Type 0
  Answers at = WalkedBy (bucket_pairs env.geometry (words at)) (size_now env.geometry (words at)) (IsNoneBehind env.geometry (words at))

  abbrev FoundAll : ℕ → Past → Type 0
  FoundAll at past = AllByRecursion (FindsHere env.geometry (words at)) (map performed_of past.steps)

  answers : (at : ℕ) → begin < at → at ≤ behind → AllByRecursion (Answers at) walks
  answers at low high =
      AllByRecursion-both (HasWalked env c) (FoundAll at) (Answers at)
      (λ past had found from len next call reply.
      still_walk env.geometry (words at) c from next len past.done.pairs (map performed_of past.steps)
      (subst (λ r. SawForWalk env c from 1 r past.done.pairs past.steps) reply (had from 1 call)) found) walks
      (among-all (HasWalked env c) walks all_past (walked L mix env events c admitted) among)
      (AllByRecursion-both IsCallOf (LiesBetween begin behind) (FoundAll at)
      (λ past is lies. finds_all L mix env events begin behind still c at (omega (arith, low)) high past is.0 is.1 lies) walks calls between)

  shows : (at : ℕ) → begin < at → at ≤ behind
      → CurrentShows L mix env (take at events) (admitted-first events at admitted) (all_pairs (made ∷ others))
  shows at low high =
      let g = env.geometry in
      let f = bucket_pairs g (words at) in
      let size = size_now g (words at) in
      let came = whole f size (IsNoneBehind g (words at)) (made ∷ others) is_walk (answers at low high) in
      let first = admitted-first events at admitted in
      subst (CurrentShows L mix env (take at events) first)
      (buckets_show L mix env (take at events) first ∙ ap (λ n. flat_map f (range_with_len 0 n)) (less-none size) ∙ sym came.0)
      (current_shows L mix env (take at events) first came.1)

  pub all_once : AreAllBound L mix env events begin behind (all_pairs (made ∷ others))
  all_once = record {
    every = λ at port low high is. (shows at low high).every port is;
    bound = λ at low high. (shows at low high).bound;
    once = (shows behind some (omega arith)).once;
  }

pub quiet : (L : Type 0) (mix : ℕ → ℕ → ℕ → ℕ) → ShowsAllOnce L mix
quiet L mix env events c made others admitted is_walk among still = all_once L mix env events c made others admitted is_walk among still
