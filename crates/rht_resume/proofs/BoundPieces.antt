-- What is so of each pair that the walks of a `next` show is so of each pair of its piece. In every run a walk shows ports with their first
-- owners, each behind some event of it; so a piece does.
use Rattle.std.proofs.Common.{◌≡◌, ℕ, zero, suc, ◌-◌, ◌==◌, nat_lt, Bool, true, false, if◌then◌else◌, Option, Some, None, List, [], ◌∷◌, ◌++◌, length, map, take, drop, refl, sym, subst, arith}
use Rattle.std.specs.List.{AllByRecursion}
use Rattle.rht_words.specs.declared.env.Env.{Env}
use Rattle.rht_words.proofs.EachElement.{AllByRecursion-append, AllByRecursion-weaker, AllByRecursion-both}
use Rattle.rht_model.specs.declared.history.Call.{Call}
use Rattle.rht_model.specs.declared.history.Call.TheVariants.{Walk}
use Rattle.rht_model.specs.declared.history.Cursor.{Cursor}
use Rattle.rht_model.specs.declared.history.Reply.{Reply}
use Rattle.rht_model.specs.declared.history.Reply.TheVariants as replies
use Rattle.rht_model.specs.Endings.{Ending, ending_in}
use Rattle.rht_core.specs.declared.event.Event.{Event}
use Rattle.rht_core.specs.Runs.{IsAdmitted}
use Rattle.rht_core.specs.Shown.{AreAmong, ShowsBound}
use Rattle.rht_core.specs.Traces.{Past, traced_of}
use Rattle.rht_core.proofs.Tracing.TracesAtEvents.{at_events}
use Rattle.rht_core.proofs.Walking.FullWalks.{AreApart, among-apart, among-all}
use Rattle.rht_core.proofs.Walking.ShownLaw.{shown_bound}
use Rattle.rht_resume.specs.declared.resumed.Spot.{Spot}
use Rattle.rht_resume.specs.Laws.{NextMade, IsNextFrom, IsBoundBetween, PiecesShowBound, walks_in, begins_at, ends_at, endings_in}
use Rattle.rht_resume.specs.Pieces.{Outcome, Turn, On, Over, Never, before, behind_answer, turn_by, turn_of, outcome_by, outcome_from, walks_by, walks_from}
use Rattle.rht_resume.proofs.PieceLaws.{some_in}
use Rattle.rht_resume.proofs.QuietWalks.{LiesBetween, each-between}

-- ---- any fact of pairs

module _ (P : ℕ × ℕ → Type 0) where
  -- so it is of all pairs of a walk that hasn't to begin anew
  abbrev pub ShowsSo : Ending → Type 0
  ShowsSo ending = (len : ℕ) (next : Option Cursor) → ending.answer.reply ≡ replies.Walked len next → AllByRecursion P ending.pairs

  all-take : (n : ℕ) (pairs : List (ℕ × ℕ)) → AllByRecursion P pairs → AllByRecursion P (take n pairs)
  all-take zero pairs all = tt
  all-take (suc n) [] all = tt
  all-take (suc n) (pair ∷ pairs) all = (all.0, all-take n pairs all.1)

  all-drop : (n : ℕ) (pairs : List (ℕ × ℕ)) → AllByRecursion P pairs → AllByRecursion P (drop n pairs)
  all-drop zero pairs all = all
  all-drop (suc n) [] all = tt
  all-drop (suc n) (pair ∷ pairs) all = all-drop n pairs all.1

  -- what an answer makes of a `next` has such pairs alone
  abbrev HasSuch : Turn → Type 0
  HasSuch (On spot pairs) = AllByRecursion P pairs
  HasSuch (Over outcome) = AllByRecursion P outcome.pairs
  HasSuch Never = Unit {0}

  such-either : (case : Bool) (one other : Turn) → HasSuch one → HasSuch other → HasSuch (if case then one else other)
  such-either true one other first second = first
  such-either false one other first second = second

  such-behind : (limit : ℕ) (pairs : List (ℕ × ℕ)) (next : Option Cursor) → AllByRecursion P pairs → HasSuch (behind_answer limit pairs next)
  such-behind limit pairs None all = all
  such-behind limit pairs (Some cursor) all = such-either (length pairs == limit) _ (On (before cursor) pairs) all all

  such-turn : (limit : ℕ) (spot : Spot) (pairs seen : List (ℕ × ℕ)) (reply : Reply) → AllByRecursion P pairs
      → ((len : ℕ) (next : Option Cursor) → reply ≡ replies.Walked len next → AllByRecursion P seen)
      → HasSuch (turn_by limit spot pairs reply seen)
  such-turn limit spot pairs seen (replies.Walked len next) all shows =
      let wanted = limit - length pairs in
      let fresh = drop spot.shown seen in
      let all_fresh = all-drop spot.shown seen (shows len next refl) in
      such-either (nat_lt wanted (length fresh)) _ (behind_answer limit (pairs ++ fresh) next)
      (AllByRecursion-append P pairs (take wanted fresh) all (all-take wanted fresh all_fresh))
      (such-behind limit (pairs ++ fresh) next (AllByRecursion-append P pairs fresh all all_fresh))
  such-turn limit spot pairs seen (replies.Again table) all shows = tt
  such-turn limit spot pairs seen _ all shows = tt

  module _ (limit : ℕ) (outcome : Outcome) where
    such-over : (endings : List Ending)
        → ((spot : Spot) (pairs : List (ℕ × ℕ)) → AllByRecursion P pairs → outcome_from limit spot pairs endings ≡ Some outcome
        → AllByRecursion P outcome.pairs)
        → (turn : Turn) → HasSuch turn → outcome_by turn endings (λ s p. outcome_from limit s p endings) ≡ Some outcome
        → AllByRecursion P outcome.pairs
    such-over endings others (On spot pairs) such is = others spot pairs such is
    such-over [] others (Over over) such is = subst (λ (o : Outcome). AllByRecursion P o.pairs) (some_in is) such
    such-over (ending ∷ endings) others (Over over) such is = absurd (cc)
    such-over endings others Never such is = absurd (cc)

    -- By induction over the answers.
    pub such-from : (spot : Spot) (pairs : List (ℕ × ℕ)) (endings : List Ending) → AllByRecursion P pairs → AllByRecursion ShowsSo endings
        → outcome_from limit spot pairs endings ≡ Some outcome → AllByRecursion P outcome.pairs
    such-from spot pairs [] all each is = absurd (cc)
    such-from spot pairs (ending ∷ endings) all each is =
        such-over endings (λ s p more. such-from s p endings more each.1) (turn_of limit spot pairs ending)
        (such-turn limit spot pairs ending.pairs ending.answer.reply all each.0) is

-- ---- the calls of a `next`

-- the call is a walk
abbrev IsWalkCall : Call → Type 0
IsWalkCall call = (from : Option Cursor) × (call ≡ Walk from 1)

walks-by : (turn : Turn) (more : Spot → List (ℕ × ℕ) → List Call) → ((s : Spot) (p : List (ℕ × ℕ)) → AllByRecursion IsWalkCall (more s p))
    → AllByRecursion IsWalkCall (walks_by turn more)
walks-by (On spot pairs) more all = all spot pairs
walks-by (Over outcome) more all = tt
walks-by Never more all = tt

walks-from : (limit : ℕ) (spot : Spot) (pairs : List (ℕ × ℕ)) (endings : List Ending) → AllByRecursion IsWalkCall (walks_from limit spot pairs endings)
walks-from limit spot pairs [] = tt
walks-from limit spot pairs (ending ∷ endings) = (
  (spot.cursor, refl),
  walks-by (turn_of limit spot pairs ending) (λ s p. walks_from limit s p endings) (λ s p. walks-from limit s p endings),
)

each-call : (pasts : List Past) → AllByRecursion IsWalkCall (map (λ (past : Past). past.done.call) pasts)
    → AllByRecursion (λ (past : Past). IsWalkCall past.done.call) pasts
each-call [] all = tt
each-call (past ∷ pasts) all = (all.0, each-call pasts all.1)

-- ---- in every run

module _ (L : Type 0) (mix : ℕ → ℕ → ℕ → ℕ) (env : Env) (events : List Event) (c : ℕ) (spot : Spot) (made : NextMade)
    (admitted : IsAdmitted events) (is_next : IsNextFrom spot made)
    (among : AreAmong (walks_in made) ((traced_of {M = L} mix env events).traces c).past) where
  abbrev walks : List Past
  walks = walks_in made

  abbrev all_past : List Past
  all_past = ((traced_of {M = L} mix env events).traces c).past

  abbrev Between : ℕ × ℕ → Type 0
  Between = IsBoundBetween L mix env events (begins_at made) (ends_at made)

  in_order : AreApart (begins_at made) walks
  in_order =
      let apart = among-apart 0 walks all_past (at_events L mix env events admitted c).in_order among in
      (omega arith, apart.1, apart.2)

  -- what a walk shows is bound in its span, which is in that of the `next`
  one-shows : (past : Past) → ShowsBound L mix env events past → LiesBetween (begins_at made) (ends_at made) past × IsWalkCall past.done.call
      → ShowsSo Between (ending_in past.done)
  one-shows past bound is len next reply =
      let begun = is.0.0 in
      let ended = is.0.1 in
      AllByRecursion-weaker _ Between
      (λ pair at. record {
        at = at.0;
        begun = let low = at.2 in omega (arith, begun, low);
        before = let high = at.3 in omega (arith, ended, high);
        rest = at.1;
        is = at.4;
      }) past.done.pairs (bound is.1.0 1 len next is.1.1 reply)

  each-shows : AllByRecursion (λ past. ShowsSo Between (ending_in past.done)) walks
  each-shows =
      AllByRecursion-both (ShowsBound L mix env events) (λ past. LiesBetween (begins_at made) (ends_at made) past × IsWalkCall past.done.call) _
      one-shows walks (among-all (ShowsBound L mix env events) walks all_past (shown_bound L mix env events c admitted) among)
      (AllByRecursion-both (LiesBetween (begins_at made) (ends_at made)) (λ (past : Past). IsWalkCall past.done.call) _ (λ past lies is. (lies, is))
      walks (each-between (begins_at made) walks in_order)
      (each-call walks
      (subst (AllByRecursion IsWalkCall) (sym is_next.calls) (walks-from made.limit spot [] (endings_in walks)))))

  all-endings : (pasts : List Past) → AllByRecursion (λ past. ShowsSo Between (ending_in past.done)) pasts
      → AllByRecursion (ShowsSo Between) (endings_in pasts)
  all-endings [] all = tt
  all-endings (past ∷ pasts) all = (all.0, all-endings pasts all.1)

  pub bound : AllByRecursion Between made.outcome.pairs
  bound = such-from Between made.limit made.outcome spot [] (endings_in walks) tt (all-endings walks each-shows) is_next.outcome

pub shows_bound : (L : Type 0) (mix : ℕ → ℕ → ℕ → ℕ) → PiecesShowBound L mix
shows_bound L mix env events c spot made admitted is_next among = bound L mix env events c spot made admitted is_next among
