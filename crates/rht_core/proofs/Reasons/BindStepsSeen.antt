-- What each operation of a bind sees: from what was seen in its state, what is seen in the next one, or for
-- the reply.
use Rattle.std.proofs.Common.{◌∙◌, ◌≡◌, ℕ, ◌≤◌, ◌<◌, Bool, cond, nat_le, List, [], ◌∷◌, ◌++◌, min, refl, sym, ap, subst, arith}
use Rattle.std.specs.Prelude.{Option, Some, None}
use Rattle.std.specs.List.{AllByRecursion, Any}
use Rattle.std.proofs.lemmas.Bool.{leb-true, leb-false}
use Rattle.std.proofs.lemmas.List.Quantifiers.{Any-push}
use Rattle.rht_words.specs.declared.op.Op.TheVariants.{Load}
use Rattle.rht_words.specs.declared.env.Env.{Env}
use Rattle.rht_words.specs.declared.config.Kind.{Kind}
use Rattle.rht_words.specs.declared.config.Kind.TheVariants.{Single, Listed}
use Rattle.rht_words.specs.declared.geometry.Geometry.{Geometry}
use Rattle.rht_words.specs.declared.machine.Next.{Next}
use Rattle.rht_words.specs.declared.machine.Next.TheVariants.{Go, Done}
use Rattle.rht_words.specs.Places.{PortCount, Slot, FutureWord, ChainLink, place_of}
use Rattle.rht_words.proofs.EachElement.{AllByRecursion-push}
use Rattle.rht_policy.specs.Sizes.{most_ports}
use Rattle.rht_policy.specs.Thresholds.{is_above_100, is_above_max}
use Rattle.rht_words.specs.Shapes.{unpacked, size_of}
use Rattle.rht_words.specs.Links.{slot_of, table_of}
use Rattle.rht_model.specs.declared.history.Reply.{Reply}
use Rattle.rht_model.specs.declared.history.Reply.TheVariants.{Bound, TooBig}
use Rattle.rht_arena.specs.NewNode.{NewNodeModel, new_node_after_at}
use Rattle.rht_arena.specs.declared.new_node.NewNodeAt.{NewNodeAt}
use Rattle.rht_nest.specs.Make.{make_after_at}
use Rattle.rht_nest.specs.Unmake.{unmake_after}
use Rattle.rht_nest.specs.Grow.{grow_after_at}
use Rattle.rht_chain.specs.Probe.{ProbeModel, probe_after_at}
use Rattle.rht_chain.specs.declared.probe.ProbeAt.{ProbeAt}
use Rattle.rht_chain.specs.declared.probe.Probed.{Probed}
use Rattle.rht_chain.specs.declared.locked.Then.{Then}
use Rattle.rht_chain.specs.declared.locked.Then.TheVariants.{Table, Answer}
use Rattle.rht_chain.specs.Relink.{RelinkModel, relink_after}
use Rattle.rht_bind.specs.Growing.{unlocking_full}
use Rattle.rht_bind.specs.declared.bind.Attempt.{Attempt}
use Rattle.rht_bind.specs.declared.bind.growth.Full.TheVariants as full
use Rattle.rht_bind.specs.Bind.{after_at, filled, grown, bound_already, found_or_future, probed, replaced, unlocking, future_or_count, checked_count, published, unlocked}
use Rattle.rht_bind.specs.declared.bind.Claimed.{Claimed}
use Rattle.rht_bind.specs.declared.bind.FoundList.{FoundList}
use Rattle.rht_bind.specs.Endings.{closed}
use Rattle.rht_bind.specs.declared.bind.ending.Ending.{Ending}
use Rattle.rht_bind.specs.declared.bind.ending.Ending.TheVariants as endings
use Rattle.rht_bind.specs.declared.bind.BindAt.{BindAt}
use Rattle.rht_bind.specs.declared.bind.BindAt.TheVariants as at
use Rattle.rht_core.specs.Jobs.{binds}
use Rattle.rht_core.specs.Traces.{Did, performed_of}
use Rattle.rht_core.specs.Seen.{CameTo, TurnsNoSection}
use Rattle.rht_core.specs.ResizeCauses.{IsUnboundAt, SawNoneBehind, SawLongChain, SawShortChain}
use Rattle.rht_stands.specs.StandsFor.{stands_for}
use Rattle.rht_words.specs.Operations.{old_of}
use Rattle.rht_core.proofs.Reasons.UnboundSeen.{no_owner, unbound-walked}
use Rattle.rht_core.proofs.Reasons.NamedFutures.{no_slot, future_few}
use Rattle.rht_words.specs.Machines.{GoesOrEnds}
use Rattle.rht_core.proofs.Reasons.PagesMissed.{SawGrowing, SawGrown, grow-saw, SeesMissing, SeesMissing-push}
use Rattle.rht_core.proofs.Tracing.TracedJobs.{hard, Performs, StandsIn}
use Rattle.rht_core.proofs.Reasons.TablesWalked.{IsAside, grow_loads, IsNoRaise, no_load, aside, elsewhere, node_loads, probe_loads, relink_stores, came-current, came-future, walked-came, LastWalked-push, Walked, Walked-push, WalkedSeeing, WalkedSeeing-push, make_loads, grow_stays, other_load, nodes_behind, walked-quiet, no_turn, WalkedSeeing-push_in, make_turns}
use Rattle.rht_core.proofs.Reasons.KeyLoads.{no_key, no_key-before, no_key-grow}
use Rattle.rht_core.proofs.Reasons.RoomSeen.{ShortSeen, RoomSeen, RoomSeen-push, room-seen}
use Rattle.rht_core.proofs.Reasons.ChainsCounted.{HasWalked, HasWalked-push, CountedUnless, WalkCounted, CountedNext, probe-counted, long-counted, short-counted}
use Rattle.rht_core.proofs.Reasons.AttachedTables.{no_attach, AttachedSo, AttachedSo-push, SawAttached, relink-none, unmake-none}
use Rattle.rht_core.proofs.Reasons.UnraisedBinds.{grow-none, SawUnraised}
use Rattle.rht_core.proofs.Reasons.RefusedBinds.{no_key-future, Behind-push, SawWhy, SawWhy-push, SawRoot, SawToMake, above-why, root-saw, making-saw}
use Rattle.rht_ghost.proofs.Theory.Steps.{mem, by_test}
use Rattle.rht_core.proofs.Reasons.NewNodesSeen.{SawMade, new-saw}
use Rattle.rht_core.proofs.Reasons.RaisesSeen.{relink-no_load, relink-no_add, unmake-no_load, unmake-no_add, IsStill, still, turning-still, Raised, Raised-push, raise-saw, none-raised}
use Rattle.rht_core.proofs.Reasons.BindsSeen.{SawThen, SawAt, SawNext, SawFor, SawFor-push, SawForReply-push, SawThen-push}
use Rattle.rht_core.proofs.Reasons.WaysSeen.{locating-saw, grown-saw}
use Rattle.rht_core.proofs.Reasons.GrowthsSeen.{unmade-saw, want-saw, made-saw, again-saw, attach-saw, attaching_few, again_few}
use Rattle.rht_core.proofs.Reasons.SlotsTaken.{unmake-own}
use Rattle.rht_core.proofs.Reasons.QuietSteps.{unturned-behind}

module _ (env : Env) (words_at : ℕ → List ℕ) (mix : ℕ → ℕ → ℕ → ℕ) (port c : ℕ) where
  abbrev Sees : BindAt → List Did → Type 0
  Sees = SawAt env words_at mix port c

  abbrev SeesNext : List Did → BindAt × Next Reply → Type 0
  SeesNext = SawNext env words_at mix port c

  bind_made-saw : (new : NewNodeModel) (r : NewNodeAt × Next (Option ℕ)) (all : List Did) → SawMade env all r
      → SeesNext all (filled (record new { at = r.0 }) r.1)
  bind_made-saw new (state, Go) all saw = saw
  bind_made-saw new (state, Done None) all saw = saw
  bind_made-saw new (state, Done (Some node)) all saw = tt

  -- a walk that has ended in a bucket
  bound-saw : (kind : Kind) (claimed : Claimed) (first : ℕ) (before : Option ℕ) (steps : List Did)
      → Walked env.geometry claimed.table claimed.shape steps
      → Sees (bound_already kind claimed first before) steps
  bound-saw Single claimed first before steps walked = tt
  bound-saw Listed claimed first before steps walked = walked

  seen-saw : (kind : Kind) (claimed : Claimed) (found before : Option ℕ) (length : ℕ) (steps : List Did)
      → WalkedSeeing env.geometry claimed.table claimed.shape
      (CountedUnless env.geometry words_at mix port claimed.table claimed.shape c found claimed.bucket.place length) steps
      → Sees (found_or_future kind claimed found before length) steps
  seen-saw kind claimed None before length steps seeing = seeing
  seen-saw kind claimed (Some first) before length steps seeing =
      bound-saw kind claimed first before steps seeing.walked

  probed-saw : (kind : Kind) (attempt : Attempt) (table shape : ℕ) (probe : ProbeModel)
      (r : ProbeAt × Next Probed)
      (steps : List Did)
      → WalkedSeeing env.geometry table shape (CountedNext env.geometry words_at mix port table shape c r) steps
      → Sees (probed kind attempt table shape (record probe { at = r.0 }) r.1) steps
  probed-saw kind attempt table shape probe (state, Go) steps seeing = seeing
  probed-saw kind attempt table shape probe (state, Done end) steps seeing =
      let claimed : Claimed =
      record { attempt = attempt; table = table; shape = shape; bucket = end.bucket } in
      seen-saw kind claimed end.seen.found end.seen.before end.seen.length steps seeing

  -- so many nodes were counted, and where no table is behind, that was loaded while the port had no owner
  abbrev SawFuture : Claimed → ℕ → Option ℕ → List Did → Type 0
  SawFuture claimed length future behind =
      HasWalked env.geometry words_at mix port claimed.table claimed.shape c claimed.bucket.place length behind
      × (future ≡ None → Any (SawNoneBehind env.geometry words_at port claimed.table) behind)

  -- behind the walk in vain
  future-unbound : (owner : ℕ) (once : Bool) (claimed : Claimed) (length : ℕ) (did : Did)
      → (does : Performs mix env (binds port owner once (at.Future claimed length)) did)
      → does.words ≡ words_at did.index → slot_of did.old ≡ None
      → SawNoneBehind env.geometry words_at port claimed.table did
  future-unbound owner once claimed length did does now none =
      let means = does.knows.knowing.means in
      let word : did.old ≡ mem env mix does.words (Slot claimed.table FutureWord) =
      does.found ∙ ap (old_of does.words) (hard mix env refl does) in
      let few = future_few env mix does.words does.ghost claimed.table does.whole means.table.passing.at in
      record {
        none = record {
          word = record { there = (does.within.at_in.table_in, tt); loads = (hard mix env refl does) };
          found = no_slot did.old (omega (arith, word, few)) none;
        };
        unbound = subst (λ ws. stands_for env.geometry ws port ≡ []) now
            (unbound-walked env mix does.words does.ghost does.whole does.caller port claimed.table claimed.bucket.place
            claimed.bucket.word (Some claimed.shape) means.table means.bucket (sym (ap slot_of word) ∙ none));
      }

  -- and as long as the bucket is locked
  count-unbound : (owner : ℕ) (once : Bool) (claimed : Claimed) (did : Did)
      → (does : Performs mix env (binds port owner once (at.Count claimed)) did)
      → does.words ≡ words_at did.index → IsUnboundAt env.geometry words_at port did
  count-unbound owner once claimed did does now =
      subst (λ ws. stands_for env.geometry ws port ≡ []) now
      (no_owner env mix does.words does.ghost does.whole port does.knows.knowing.means.bucket.armed.unbound)

  -- 16 nodes that were counted are a long chain, where no table is behind, and fewer a short one
  future-saw : (claimed : Claimed) (length : ℕ) (future : Option ℕ) (steps : List Did)
      → ((behind : List Did) → 16 ≤ length
      → HasWalked env.geometry words_at mix port claimed.table claimed.shape c claimed.bucket.place length behind
      → SawLongChain env.geometry words_at mix port claimed.table claimed.shape behind)
      → ((behind : List Did) → length < 16
      → HasWalked env.geometry words_at mix port claimed.table claimed.shape c claimed.bucket.place length behind
      → SawShortChain env.geometry words_at mix port claimed.table claimed.shape behind)
      → ((table : ℕ) → future ≡ Some table → CameTo env.geometry table steps)
      → WalkedSeeing env.geometry claimed.table claimed.shape (SawFuture claimed length future) steps
      → Sees (future_or_count claimed length future) steps
  future-saw claimed length None steps long short came seeing =
      by_test (λ t. Sees (cond t (unlocking_full claimed full.Chain) (at.Count claimed)) steps)
      (nat_le 16 length)
      (λ t. record {
        walked = seeing.walked.last;
        quiet = walked-quiet env.geometry claimed.table claimed.shape steps seeing.walked;
        saw = record {
          crowd = long seeing.walked.last.behind (leb-true 16 length t) seeing.saw.0;
          unbound = seeing.saw.1 refl;
        };
      })
      (λ f. record {
        walked = seeing.walked;
        saw = record {
          chain = short seeing.walked.last.behind (leb-false 16 length f) seeing.saw.0;
          none = seeing.saw.1 refl;
        };
      })
  future-saw claimed length (Some table) steps long short came seeing = came table refl

  -- a count that refuses the bind was loaded by this operation, or one by which there is room
  count-saw : (claimed : Claimed) (steps : List Did) (did : Did)
      → did.op ≡ Load (place_of env.geometry PortCount)
      → IsUnboundAt env.geometry words_at port did
      → WalkedSeeing env.geometry claimed.table claimed.shape (ShortSeen env words_at mix port claimed.table claimed.shape) steps
      → Sees (checked_count env claimed did.old) (steps ++ did ∷ [])
  unfolding LastWalked-push
  count-saw claimed steps did is now seeing =
      let walked = seeing.walked in
      let beside = elsewhere env.geometry did _ is (λ first. absurd (omega (arith, first))) (λ table below same. absurd (omega arith)) in
      let count = did.old in
      let above = is_above_100 (min count 65536) (size_of (unpacked claimed.shape)) env.config.max in
      let all = steps ++ did ∷ [] in
      by_test
      (λ t. Sees (cond t (unlocking claimed (Answer (TooBig count)))
      (cond above (unlocking_full claimed full.Table) (at.Link claimed))) all)
      (is_above_max (min count 65536) env.config.max)
      (λ t.
      let full : most_ports env.config.max ≤ min count 65536 =
      leb-true (most_ports env.config.max) (min count 65536) t in
      record {
        table = claimed.table;
        shape = claimed.shape;
        walked =
            LastWalked-push env.geometry claimed.table claimed.shape steps did beside.no_shape walked.last;
        before = walked.last.behind;
        at = did;
        rest = [];
        split = refl;
        inside = walked-quiet env.geometry claimed.table claimed.shape steps walked;
        unbound = now;
        full = record { loaded = is; found = refl; full = omega arith };
      })
      (λ f.
      by_test (λ t. Sees (cond t (unlocking_full claimed full.Table) (at.Link claimed)) all) above
      (λ t. record {
        walked =
            LastWalked-push env.geometry claimed.table claimed.shape steps did beside.no_shape walked.last;
        quiet =
            AllByRecursion-push (TurnsNoSection env.geometry) walked.last.behind did
            (walked-quiet env.geometry claimed.table claimed.shape steps walked) beside.stays.1;
        saw = above-why env words_at mix port claimed.table claimed.shape walked.last.behind did is t now seeing.saw.none;
      })
      (λ within.
      WalkedSeeing-push env.geometry claimed.table claimed.shape (ShortSeen env words_at mix port claimed.table claimed.shape)
      (RoomSeen env words_at mix port claimed.table claimed.shape) steps did beside
      (λ behind short. room-seen env words_at mix port claimed.table claimed.shape behind did
      (no_key-before env.geometry did _ is (omega (arith, nodes_behind env.geometry)))
      (record { loaded = is; below = f; within = within; unbound = now }) short) seeing))

  -- a bind that has put its node in front of a list has raised none
  replaced-saw : (list : FoundList) (relink : RelinkModel) (next : Next (Unit {0})) (steps : List Did)
      → env.config.kind ≡ Listed
      → Walked env.geometry list.claimed.table list.claimed.shape steps
      → AttachedSo env.geometry list.claimed.attempt.attached steps
      → AllByRecursion (IsNoRaise env.geometry) steps
      → Sees (replaced list relink next) steps
  replaced-saw list relink Go steps listed walked so none = walked
  replaced-saw list relink (Done done) steps listed walked so none =
      none-raised env words_at mix port list.claimed steps listed walked so none

  published-saw : (node table : ℕ) (kick : Bool) (relink : RelinkModel) (next : Next (Unit {0}))
      (steps : List Did)
      → Raised env words_at mix port kick steps → Sees (published node table kick relink next) steps
  published-saw node table kick relink Go steps raised = raised
  published-saw node table kick relink (Done done) steps raised = raised

  unlocked-saw : (attempt : Attempt) (next : Then Reply) (steps : List Did)
      → SawThen env words_at mix port next steps
      → Sees (unlocked env attempt next) steps
  unlocked-saw attempt (Table table) steps came = came
  unlocked-saw attempt (Answer reply) steps saw = saw

  -- what was seen for an answer stays so behind the closing of the section
  closed-saw : (ending : Ending) (steps : List Did) (did : Did) → IsStill env did → Sees (at.Closing ending) steps
      → SeesNext (steps ++ did ∷ []) (closed env ending)
  closed-saw (endings.Bound kick) steps did none saw = SawFor-push env words_at mix port (Bound kick) steps did none saw
  closed-saw (endings.Answered node reply) steps did none saw = SawFor-push env words_at mix port reply steps did none saw
  closed-saw (endings.Anew attempt) steps did none saw = tt

  -- with whether it has attached a table, and that it has raised no count
  abbrev pub SawAll : List Did → BindAt × Next Reply → Type 0
  SawAll all next =
      GoesOrEnds
      (λ state. Sees state all × (SawAttached env state all × SawUnraised env state all))
      (λ reply. SawFor env words_at mix port reply all) next

  pub all-saw : (next : BindAt × Next Reply) (all : List Did) → SeesNext all next → SawAttached env next.0 all
      → SawUnraised env next.0 all → SawAll all next
  all-saw (state, Go) all saw so none = (saw, (so, none))
  all-saw (state, Done reply) all saw so none = saw

  module _ (owner : ℕ) (once : Bool) where
    pub bind-saw : (state : BindAt) (steps : List Did) (did : Did)
        → (does : Performs mix env (binds port owner once state) did)
        → does.caller ≡ c → StandsIn mix env words_at (binds port owner once state) steps did does
        → Sees state steps → SawAttached env state steps → SawUnraised env state steps
        → SeesNext (steps ++ did ∷ []) (after_at mix env port once state did.old)
    bind-saw (at.Filling new) steps did does own now saw so unraised =
        bind_made-saw new (new_node_after_at new.at did.old) (steps ++ did ∷ [])
        (new-saw env new new.at steps did refl does.within.at_in (hard mix env refl does) saw)
    bind-saw (at.Opening attempt) steps did does own now saw so unraised = tt
    bind-saw (at.CurrentTable attempt) steps did does own now saw so unraised =
        came-current env.geometry steps did (hard mix env refl does)
    bind-saw (at.Locating attempt locate) steps did does own now saw so unraised =
        locating-saw env words_at mix port c owner once attempt locate steps did does own now saw
    bind-saw (at.Entering attempt table shape place grow) steps did does own now saw so unraised =
        let within = does.within.at_in.grow_in in
        let after = grow_after_at env.geometry grow.at did.old in
        let Before = SawGrowing env.geometry grow.at in
        let After = SawGrown env.geometry after in
        let apart : IsAside env.geometry did = record {
          no_shape = grow_loads env.geometry grow.entry grow.at did (hard mix env refl does);
          stays = grow_stays env.geometry grow.entry grow.at did (hard mix env refl does);
          no_raise = λ adds. grow-none env.geometry grow.entry grow.at (sym (hard mix env refl does) ∙ adds);
        } in
        let seeing : WalkedSeeing env.geometry table shape
        (SeesMissing env words_at mix port table shape After) (steps ++ did ∷ []) =
        WalkedSeeing-push env.geometry table shape (SeesMissing env words_at mix port table shape Before)
        (SeesMissing env words_at mix port table shape After) steps did apart
        (λ behind so_far. SeesMissing-push env words_at mix port table shape Before After behind did
        (no_key-grow env.geometry grow.entry grow.at did within.at_in (hard mix env refl does))
        (λ before here. grow-saw env.geometry grow.entry grow.at before (performed_of did) within.at_in
        (hard mix env refl does) here)
        so_far) saw in
        subst (λ (h : Geometry). let r = grow_after_at h grow.at did.old in
        Sees (grown env port attempt table shape place (record grow { at = r.0 }) r.1) (steps ++ did ∷ []))
        (sym within.geometry_same) (grown-saw env words_at mix port c attempt table shape place grow after
        (steps ++ did ∷ []) seeing)
    bind-saw (at.Probing attempt table shape probe) steps did does own now saw so unraised =
        let within = does.within.at_in.probe_in.at_in in
        let after = probe_after_at probe.geometry probe.key probe.at did.old in
        probed-saw env.config.kind attempt table shape probe after (steps ++ did ∷ [])
        (WalkedSeeing-push_in env.geometry table shape (WalkCounted env.geometry words_at mix port table shape c probe.at)
        (CountedNext env.geometry words_at mix port table shape c after) steps did
        (probe_loads env.geometry did probe.at within (hard mix env refl does))
        (λ behind lie counted. subst (λ k. WalkCounted env.geometry words_at mix port table shape k probe.at behind
        → CountedNext env.geometry words_at mix port table shape k after (behind ++ did ∷ [])) own
        (probe-counted env mix words_at does.caller port does.words does.ghost does.whole
        table shape probe.geometry probe.key probe.at behind did within does.knows.fits.1
        does.knows.knowing.means.table does.knows.knowing.means.bucket
        (hard mix env refl does) does.within.at_in.probe_in.geometry_same does.found now.now now.stay
        (unturned-behind env.geometry words_at does.caller does.few steps behind did.index lie now.unturned)) counted) saw)
    bind-saw (at.FoundOwner claimed found) steps did does own now saw so unraised = does.knows.fits
    bind-saw (at.ListLink list) steps did does own now saw so unraised =
        Walked-push env.geometry list.claimed.table list.claimed.shape steps did
        (aside env.geometry did _ (hard mix env refl does) (λ place load. cc) (λ place value adds. cc)) saw
    bind-saw (at.ChainLink list) steps did does own now saw so unraised =
        Walked-push env.geometry list.claimed.table list.claimed.shape steps did
        (node_loads env.geometry did env.geometry list.first ChainLink (hard mix env refl does)) saw
    bind-saw (at.LinkBehind list link) steps did does own now saw so unraised =
        Walked-push env.geometry list.claimed.table list.claimed.shape steps did
        (aside env.geometry did _ (hard mix env refl does) (λ place load. cc) (λ place value adds. cc)) saw
    bind-saw (at.Replacing list relink) steps did does own now saw so unraised =
        replaced-saw list (relink_after relink).0 (relink_after relink).1 (steps ++ did ∷ [])
        does.knows.fits.listed
        (Walked-push env.geometry list.claimed.table list.claimed.shape steps did
        (relink_stores env.geometry did relink relink.at (hard mix env refl does)) saw)
        (AttachedSo-push env.geometry list.claimed.attempt.attached steps did
        (no_attach env.geometry did _ (hard mix env refl does) (relink-none env.geometry relink relink.at)) so)
        (AllByRecursion-push (IsNoRaise env.geometry) steps did unraised
        (relink_stores env.geometry did relink relink.at (hard mix env refl does)).no_raise)
    bind-saw (at.Future claimed length) steps did does own now saw so unraised =
        let place = claimed.bucket.place in
        let counted = HasWalked env.geometry words_at mix port claimed.table claimed.shape c place length in
        future-saw claimed length (slot_of did.old) (steps ++ did ∷ [])
        (λ behind enough has. long-counted env mix words_at does.caller port does.words does.ghost does.whole
        claimed.table claimed.shape c place length behind does.knows.knowing.means.table enough has)
        (λ behind few has. short-counted env mix words_at does.caller port does.words does.ghost does.whole
        claimed.table claimed.shape c place length behind does.knows.knowing.means.table few has)
        (λ table named. came-future env.geometry claimed.table table steps did does.within.at_in.table_in
        (hard mix env refl does) named
        (walked-came env.geometry claimed.table claimed.shape steps saw.walked))
        (WalkedSeeing-push env.geometry claimed.table claimed.shape counted (SawFuture claimed length (slot_of did.old)) steps did
        (elsewhere env.geometry did _ (hard mix env refl does) (λ first. absurd (omega (arith, first))) (λ table below same. absurd (omega arith)))
        (λ behind has. (
          HasWalked-push env.geometry words_at mix port claimed.table claimed.shape c place length behind did
              (no_key-future env.geometry did claimed.table does.within.at_in.table_in (hard mix env refl does)) has,
          λ none. Any-push (SawNoneBehind env.geometry words_at port claimed.table) behind did
              (future-unbound owner once claimed length did does now.now none),
        )) saw)
    bind-saw (at.Count claimed) steps did does own now saw so unraised =
        count-saw claimed steps did (hard mix env refl does) (count-unbound owner once claimed did does now.now) saw
    bind-saw (at.Link claimed) steps did does own now saw so unraised =
        WalkedSeeing-push env.geometry claimed.table claimed.shape (RoomSeen env words_at mix port claimed.table claimed.shape)
        (RoomSeen env words_at mix port claimed.table claimed.shape) steps did
        (aside env.geometry did _ (hard mix env refl does) (λ place load. cc) (λ place value adds. cc))
        (λ behind seen. RoomSeen-push env words_at mix port claimed.table claimed.shape behind did
        (no_key env.geometry did _ (hard mix env refl does) (λ place load. cc)) seen) saw
    bind-saw (at.Raise claimed) steps did does own now saw so unraised =
        raise-saw env words_at mix port claimed steps did (hard mix env refl does) saw so unraised
    bind-saw (at.Publish node table relink kick) steps did does own now saw so unraised =
        published-saw node table kick (relink_after relink).0 (relink_after relink).1 (steps ++ did ∷ [])
        (Raised-push env words_at mix port kick steps did
        (still env did _ (hard mix env refl does) (relink-no_load relink relink.at) (relink-no_add relink relink.at)
        (relink-none env.geometry relink relink.at)) saw)
    bind-saw (at.Unlocking attempt table unlock next) steps did does own now saw so unraised =
        unlocked-saw attempt next (steps ++ did ∷ [])
        (SawThen-push env words_at mix port next steps did
        (still env did _ (hard mix env refl does) (λ place load. cc) (λ place value adds. cc) (λ table old new l e. cc))
        (aside env.geometry did _ (hard mix env refl does) (λ place load. cc) (λ place value adds. cc)).stays saw)
    bind-saw (at.UnlockingFull growing unlock) steps did does own now saw so unraised =
        Behind-push env.geometry growing.table growing.shape (SawWhy env words_at mix port growing.table growing.why growing.shape)
        (SawWhy env words_at mix port growing.table growing.why growing.shape) steps did
        (no_load env.geometry did _ (hard mix env refl does) (λ place load. cc)) (no_turn env.geometry did _ (hard mix env refl does) (λ place value adds. cc))
        (λ behind why. SawWhy-push env words_at mix port growing.table growing.why growing.shape behind did
        (no_key env.geometry did _ (hard mix env refl does) (λ place load. cc)) why) saw
    bind-saw (at.Root growing) steps did does own now saw so unraised =
        Behind-push env.geometry growing.table growing.shape (SawWhy env words_at mix port growing.table growing.why growing.shape)
        (SawRoot env words_at mix port growing (table_of did.old)) steps did
        (other_load env.geometry did _ (hard mix env refl does) (λ table below same. absurd (omega (arith, same))))
        (no_turn env.geometry did _ (hard mix env refl does) (λ place value adds. cc))
        (λ behind why. root-saw env words_at mix port growing behind did (hard mix env refl does) why) saw
    bind-saw (at.GrowthCount growing root) steps did does own now saw so unraised =
        want-saw env words_at mix port c once growing root steps did (hard mix env refl does)
        (other_load env.geometry did _ (hard mix env refl does) (λ table below same. absurd (omega (arith, same)))) saw
    bind-saw (at.Making growing size make) steps did does own now saw so unraised =
        let after = make_after_at make.geometry make.exponent make.nested make.at did.old in
        made-saw env words_at mix port c once growing size make after (steps ++ did ∷ [])
        (Behind-push env.geometry growing.table growing.shape
        (SawToMake env words_at mix port growing size make.exponent make.nested (make.at, Go))
        (SawToMake env words_at mix port growing size make.exponent make.nested after) steps did
        (make_loads env.geometry make.geometry make.exponent make.seed make.at did (hard mix env refl does))
        (make_turns env.geometry make.geometry make.exponent make.seed make.at did (hard mix env refl does))
        (λ behind so_far. making-saw env words_at mix port growing size make behind did does.within.at_in.make_in
        (hard mix env refl does) so_far) saw)
    bind-saw (at.FutureAgain growing refusal) steps did does own now saw so unraised =
        again-saw env words_at mix port c once growing refusal (slot_of did.old) steps did
        does.within.at_in.growing_in.table_in (hard mix env refl does)
        (again_few env mix port owner once growing refusal did does) refl saw
    bind-saw (at.Attaching growing slot shape) steps did does own now saw so unraised =
        attach-saw env words_at mix port c once growing slot shape steps did
        does.within.at_in.growing_in.table_in does.within.at_in.slot_in
        (hard mix env refl does) (attaching_few env mix port owner once growing slot shape did does) saw
    bind-saw (at.Unmaking attempt unmake answer) steps did does own now saw so unraised =
        unmade-saw env words_at mix port c once attempt answer (unmake_after unmake did.old).0
        (unmake_after unmake did.old).1 (steps ++ did ∷ [])
        (SawForReply-push env words_at mix port answer steps did
        (still env did _ (hard mix env refl does) (unmake-no_load unmake.geometry unmake.slot unmake.at)
        (unmake-no_add unmake.geometry unmake.slot unmake.at)
        (unmake-none env.geometry unmake.geometry unmake.slot unmake.at)) saw.0)
        (unmake-own env.geometry unmake.geometry unmake.slot unmake.at steps did (hard mix env refl does) saw.1)
    bind-saw (at.Closing ending) steps did does own now saw so unraised =
        closed-saw ending steps did (turning-still env does.caller did (hard mix env refl does)) saw
    bind-saw (at.Giving give reply) steps did does own now saw so unraised =
        SawFor-push env words_at mix port reply steps did
        (still env did _ (hard mix env refl does) (λ place load. cc) (λ place value adds. cc) (λ table old new l e. cc))
        saw
