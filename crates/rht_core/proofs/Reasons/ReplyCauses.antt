-- Why each reply of the other calls has its cause: by what their operations saw, where there is something to
-- show.
--
-- A look-up and a listing have nothing to show. A reading of the count loads what it answers by its one
-- operation. For this and for a release it counts that each recorded operation stands in the run at its
-- event.
use Rattle.std.proofs.Common.{◌≡◌, ℕ, List, ◌∷◌, subst, inl, inr, ◌↔◌, Bool, true, false, refl, []}
use Rattle.std.specs.List.{AllByRecursion, Any}
use Rattle.std.proofs.lemmas.List.Elements.{All-from_recursion}
use Rattle.rht_words.specs.declared.op.Op.TheVariants.{Load}
use Rattle.rht_words.specs.declared.env.Env.{Env}
use Rattle.rht_words.specs.Places.{PortCount, place_of}
use Rattle.rht_words.proofs.EachElement.{AllByRecursion-cut}
use Rattle.rht_model.specs.declared.history.Reply.{Reply}
use Rattle.rht_model.specs.declared.history.Reply.TheVariants.{Found, Missing, Released, Absent, Rebound, Listed as ListedOwners, NoTable, NoNode, Elsewhere, Moved, Idle, Counted}
use Rattle.rht_core.specs.declared.event.Event.{Event}
use Rattle.rht_core.specs.Replies.{IsFindReply, IsReleaseReply, IsRebindReply, IsAllReply, IsWorkReply}
use Rattle.rht_core.specs.Traces.{Did, Past}
use Rattle.rht_core.specs.Runs.{IsAdmitted}
use Rattle.rht_core.specs.Laws.{IsRecorded}
use Rattle.rht_core.specs.Seen.{SawCount}
use Rattle.rht_core.specs.Causes.{FindCause, AllCause, ReleaseCause, RebindCause, WorkCause, CountCause}
use Rattle.rht_core.proofs.Reasons.WorksSeen.{SaysMissing, FindsNoneFurther, SawReplaced, SawIdle, SawForWork}
use Rattle.rht_core.proofs.Counting.FullTables.{counted_at}
use Rattle.rht_core.proofs.Counting.CountedNodes.{lower_few}
use Rattle.rht_core.proofs.Reasons.ReleaseKicks.{SawForRelease, kicks_right}
use Rattle.rht_core.proofs.Reasons.RebindsSeen.{SawForRebind}
use Rattle.rht_move.specs.declared.work.choice.Choice.{Choice}
use Rattle.rht_move.specs.declared.work.choice.Choice.TheVariants.{Attach, Later, Nothing}
use Rattle.rht_core.specs.ResizeCauses.{Attaches}
use Rattle.rht_core.specs.WorkCauses.{IsUnattached, SawNothingDue, SawPublished}

-- a look-up has nothing to show for its answers
pub find-cause : (reply : Reply) → IsFindReply reply → FindCause reply
find-cause (Found owner) is = tt
find-cause Missing is = tt
find-cause _ is = absurd is

-- nor has a listing for its owners
pub all-cause : (reply : Reply) → IsAllReply reply → AllCause reply
all-cause (ListedOwners len) is = tt
all-cause _ is = absurd is

module _ (env : Env) where
  pub rebind-cause : (past : Past) (reply : Reply) → SawForRebind env reply past.steps → IsRebindReply reply
      → RebindCause env past reply
  rebind-cause past Rebound saw is = tt
  rebind-cause past Absent saw is = tt
  rebind-cause past NoNode saw is = saw
  rebind-cause past _ saw is = absurd is

module _ (env : Env) (c : ℕ) where
  -- whether it is to say that a table is missing is whether none of the size that was due is attached
  says-right : (again : Bool) (last : ℕ) (choice : Choice) (behind : List Did)
      → SaysMissing env c again last choice behind
      → (again ≡ true) ↔ IsUnattached env.geometry last choice behind
  says-right true last (Attach size) behind missing = (
    λ is has.
        let NoAttachOf : Did → Type 0 = λ did. (slot : ℕ) → Attaches env.geometry last slot did → ⊥ in
        let none = subst (AllByRecursion NoAttachOf) has.split missing.1 in
        (AllByRecursion-cut NoAttachOf has.before (has.at ∷ has.behind) none).1.0 has.slot has.attached,
    λ so. refl,
  )
  says-right true last Later behind missing = (λ is. tt, λ so. refl)
  says-right true last Nothing behind missing = absurd (missing.0 refl)
  says-right false last (Attach size) behind has = (λ is. absurd (cc), λ so. absurd (so has))
  says-right false last Later behind none = absurd none
  says-right false last Nothing behind is = (λ is. absurd (cc), λ so. absurd so)

  replaced-published : (again : Bool) (steps : List Did) → SawReplaced env c again steps
      → SawPublished env c again steps
  replaced-published again steps saw =
      let since = saw.since in
      let published = since.so.published in
      let last = since.chose.last in
      record {
        choice = saw.choice;
        chose = since.chose;
        table = published.table;
        behind = published.later;
        published = published.published;
        inside = published.inside;
        followed = published.followed;
        looked = since.so.looked;
        again_right = elim since.so.says [
          | inl further ↦ (λ is. inl further.1, λ either. further.0)
          | inr says ↦
              let right = says-right again last saw.choice since.chose.behind says.0 in (
                λ is. inr (right.0 is),
                λ either. elim either [
                  | inl further ↦
                      let NoneFurther = FindsNoneFurther env c published.table in
                      let none = (AllByRecursion-cut NoneFurther further.before (further.at ∷ further.behind)
                      (subst (AllByRecursion NoneFurther) further.split says.1)).1.0 in
                      absurd (none further.is)
                  | inr so ↦ right.1 so
                ],
              )
        ];
      }

  -- so it saw that nothing was due
  idle-nothing : (steps : List Did) → SawIdle env c steps → SawNothingDue env c steps
  idle-nothing steps saw =
      let idle = saw.so in
      record {
        chose = saw.chose;
        none = record {
          before = [];
          at = idle.future;
          behind = idle.rest;
          split = idle.behind_is;
          inside = tt;
          is = (idle.future_read, idle.none);
        };
      }

  pub work-cause : (words_at : ℕ → List ℕ) (past : Past) (reply : Reply)
      → SawForWork env c words_at reply past.steps
      → IsWorkReply reply → WorkCause env c words_at past reply
  work-cause words_at past (Moved again) saw is = elim saw [
    | inl has ↦ inl (replaced-published again past.steps has)
    | inr stops ↦ inr (record {
      more = stops.more;
      choice = stops.choice;
      chose = stops.chose;
      tried = stops.tried;
      last = stops.last;
      before = stops.before;
      futures = stops.futures;
      shape = stops.shape;
      behind = stops.behind;
      split = stops.split;
      inside = stops.inside;
      futures_read = stops.futures_read;
      apart = stops.apart;
      shape_read = stops.shape_read;
      nested = stops.nested;
      current = stops.current;
      front = stops.ends.front;
      closing = stops.ends.closing;
      rest = stops.ends.rest;
      behind_split = stops.ends.split;
      front_stores = stops.ends.front_stores;
      closes = stops.ends.closes;
      rest_stores = stops.ends.rest_stores;
    })
  ]
  work-cause words_at past Idle saw is = idle-nothing past.steps saw
  work-cause words_at past (NoTable size) saw is = saw
  work-cause words_at past Elsewhere saw is = saw
  work-cause words_at past _ saw is = absurd is

module _ (env : Env) where
  -- the operation loaded this count of ports
  pub record LoadedCount (count : ℕ) (did : Did) : Type 0 where
    pub loaded : did.op ≡ Load (place_of env.geometry PortCount)
    pub found : did.old ≡ count

  abbrev pub SawForCount : Reply → List Did → Type 0
  SawForCount (Counted count) steps = Any (LoadedCount count) steps
  SawForCount _ steps = ⊥

module _ (M : Type 0) (mix : ℕ → ℕ → ℕ → ℕ) (env : Env) (events : List Event) (c : ℕ)
    (admitted : IsAdmitted events) where
  abbrev IsRecordedHere : Did → Type 0
  IsRecordedHere did = IsRecorded M mix env events c did

  counted-saw : (count : ℕ) (steps : List Did) → AllByRecursion IsRecordedHere steps
      → Any (LoadedCount env count) steps → Any (SawCount M mix env events c count) steps
  counted-saw count steps recorded (k, did, within, is, saw) =
      let was = subst IsRecordedHere is (All-from_recursion IsRecordedHere steps recorded k did within) in (
        k,
        did,
        within,
        is,
        record {
          loaded = saw.loaded;
          found = saw.found;
          counted = counted_at M mix env events c count did admitted saw.loaded saw.found was;
        },
      )

  -- no more ports are bound than there are nodes, so that no clamp has changed a release's kick
  pub release-cause : (past : Past) (reply : Reply) → SawForRelease env reply past.steps
      → IsReleaseReply reply
      → AllByRecursion IsRecordedHere past.steps → ReleaseCause env past reply
  release-cause past (Released kick) saw is recorded =
      let parts = AllByRecursion-cut IsRecordedHere saw.before (saw.last ∷ saw.rest)
      (subst (AllByRecursion IsRecordedHere) saw.split recorded) in
      kicks_right env kick past.steps saw
      (λ lowers. lower_few env mix M events c saw.last admitted lowers parts.1.0)
  release-cause past Absent saw is recorded = tt
  release-cause past _ saw is recorded = absurd is

  pub count-cause : (past : Past) (reply : Reply) → SawForCount env reply past.steps
      → AllByRecursion IsRecordedHere past.steps
      → CountCause M mix env events c past reply
  count-cause past (Counted count) saw recorded = counted-saw count past.steps recorded saw
  count-cause past _ saw recorded = absurd saw
