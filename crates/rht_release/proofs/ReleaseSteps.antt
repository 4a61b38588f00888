-- A release, operation by operation: each leads from what it knows to what it knows next.
use Rattle.std.proofs.Common.{◌≡◌, ◌≢◌, ℕ, ◌+◌, ◌-◌, ◌%◌, ◌^◌, ◌<◌, List, [], ◌∷◌, length, Option, Some, None, Bool, true, false, refl, sym, ◌∙◌, ap, subst, inl}
use Rattle.rht_words.specs.declared.env.Env.{Env}
use Rattle.rht_words.specs.declared.op.Op.TheVariants.{Store}
use Rattle.rht_words.specs.declared.machine.Next.{Next}
use Rattle.rht_words.specs.declared.machine.Next.TheVariants.{Go}
use Rattle.rht_words.specs.Held as held
use Rattle.rht_words.specs.Links.{link_of}
use Rattle.rht_words.specs.Ports.{owner_of}
use Rattle.rht_words.specs.Operations.{applied}
use Rattle.rht_words.specs.Places.{PortCount, Node, ChainLink, OwnerWord, words_in}
use Rattle.rht_words.specs.Members.{In}
use Rattle.rht_words.proofs.Memory.{Memory, IsWrite, is_write}
use Rattle.rht_words.proofs.Members.{in-middle}
use Rattle.rht_chain.specs.LockedWalk.{IsNodeOrNone}
use Rattle.rht_chain.specs.Relink.{RelinkModel}
use Rattle.rht_chain.specs.declared.unlock.Unlock.{Unlock}
use Rattle.rht_model.specs.declared.history.Call.TheVariants as calls
use Rattle.rht_model.specs.declared.history.Reply.{Reply}
use Rattle.rht_model.specs.declared.history.Reply.TheVariants.{Released, Absent}
use Rattle.rht_model.specs.Answers.{plain}
use Rattle.rht_release.specs.Release.{plan_at, promoting, closing, kicks, IsReleaseAtIn}
use Rattle.rht_release.specs.ReleaseHeld.{held_of_release, holds_bucket, holds_answer}
use Rattle.rht_release.specs.declared.found_port.FoundPort.{FoundPort}
use Rattle.rht_release.specs.declared.release.ReleaseAt.{ReleaseAt}
use Rattle.rht_release.specs.declared.release.ReleaseAt.TheVariants as at
use Rattle.rht_ghost.proofs.Theory.Ghosts.{put-same, First, Behind, Ghost}
use Rattle.rht_ghost.proofs.Theory.Wholes.{chain_of, word_index, Whole}
use Rattle.rht_ghost.proofs.Theory.Knowns.{Nowhere, TakenOut, LocksTakenOut, KnownList, Leads, LeadsTo, Promotes, known_nothing, first_of_list}
use Rattle.rht_ghost.proofs.Theory.Knowledge.{plainly}
use Rattle.rht_ghost.proofs.Theory.Answering.{keeps}
use Rattle.rht_ghost.proofs.Theory.Steps.{answered-map, Lowers, LinksBehind, Holding, mem, silent, Step, step-map, answered, reads, still_has}
use Rattle.rht_ghost.proofs.Moves.Quiet.{count_down}
use Rattle.rht_ghost.proofs.Moves.TakenNodes.{chain_behind}
use Rattle.rht_ghost.proofs.Pieces.Locks.{unlock_step, unlock_taken}
use Rattle.rht_ghost.proofs.Pieces.OwnSections.{OpensNone, open_step, close_step}
use Rattle.rht_ghost.proofs.Pieces.Rebounds.{found_kept}
use Rattle.rht_ghost.proofs.Pieces.Relinks.{relinking_so}
use Rattle.rht_release.proofs.ListSearches.{list_more}
use Rattle.rht_release.proofs.ReleaseStores.{holds_left}
use Rattle.rht_release.proofs.ReleaseStores as stores
use Rattle.rht_release.proofs.ReleaseKnowledge.{known_removed, removed_nowhere, led_to, behind_node, relinks, begins_held, unlinking_knows, promoting_knows}
use Rattle.rht_release.proofs.ReleaseLists.{seeking, searching, behind_step, cut_step}
use Rattle.rht_release.proofs.ReleaseKnowledge as releases

module _ (env : Env) (mix : ℕ → ℕ → ℕ → ℕ) (c : ℕ) (port owner : ℕ) (low : c < env.geometry.callers)
    (words : List ℕ) (G : Ghost) (all : length words ≡ words_in env.geometry)
    (whole : Whole env mix (mem env mix words) G) where
  abbrev M : Memory
  M = mem env mix words

  abbrev KnowsList : FoundPort → KnownList → Memory → Ghost → Type 0
  KnowsList = stores.KnowsList env mix c port owner

  abbrev ReleaseKnows : ReleaseAt → Memory → Ghost → Type 0
  ReleaseKnows = releases.ReleaseKnows env mix c port owner

  abbrev ReleaseNext : ReleaseAt × Next (Reply × Option ℕ) → Memory → Ghost → Type 0
  ReleaseNext = releases.ReleaseNext env mix c port owner

  abbrev ReleaseStep : ReleaseAt → Type 0
  ReleaseStep = releases.ReleaseStep env mix c port owner words G

  -- ---- the first node goes out of the chain

  -- the link behind the first node in the chain: a second one gets it, or the place before the first
  chain_step : (found : FoundPort) (second : Option ℕ) → ReleaseKnows (at.ChainLink found second) M G
      → ReleaseStep (at.ChainLink found second)
  chain_step found None known =
      let link = M (Node found.node ChainLink) in
      rw (begins_held env found true link)
      (reads env mix whole refl refl (inl refl)
      (unlinking_knows env mix c port owner M G found link
      (list_more env mix c (holds_bucket found) None port found (Leads None owner) (LeadsTo None link owner) known.knowing
      (record { leads = known.knowing.means.bucket.means; link_is = refl }))))
  chain_step found (Some second) known =
      let link = M (Node found.node ChainLink) in
      let leads = Leads (Some second) owner in
      reads env mix whole refl refl (inl refl) (record {
        knowing =
            list_more env mix c (holds_bucket found) None port found leads (LeadsTo (Some second) link owner) known.knowing
            (record { leads = known.knowing.means.bucket.means; link_is = refl });
        fits = tt;
      })

  -- the second node gets the first one's link in the chain
  second_step : (found : FoundPort) (second link : ℕ) → ReleaseKnows (at.SecondLink found second link) M G
      → ReleaseStep (at.SecondLink found second link)
  second_step found second link known =
      let k = known.knowing in
      let is = k.means.bucket in
      let leads = is.means.leads in
      let s = is.found.standing.stands in
      let lock = is.found.standing.lock in
      let op = plan_at env c (at.SecondLink found second link) in
      let M' = mem env mix (applied words op) in
      let m = found.node in
      let j = word_index env mix found.bucket.place in
      let to = whole.owned.bound_to port m is.behind is.bound_to in
      let mine = to.each second (second_in is.behind leads.second_is) in
      let first = whole.owned.member j m (subst (In m) (sym s.split) (in-middle m s.front s.rear)) in
      let among = (whole.owned.first_at m j first).among in
      let within = (whole.owned.behind_in second port mine).among in
      let write : IsWrite env.geometry M M' (Node second ChainLink) link =
      is_write env.geometry words (Node second ChainLink) op all within refl in
      let made =
      chain_behind env mix c second port m j link is.behind M M' G whole mine is.bound_to first lock.holder
      (second_in is.behind leads.second_is) (sym is.means.link_is) write in
      let apart : m ≢ second = λ e. let z : First j ≡ Behind port = sym first ∙ ap G.node e ∙ mine in cc in
      let first_link : chain_of M' m ≡ chain_of M m =
      write.others (Node m ChainLink) among (λ e. apart (cc)) in
      let owner_word = ap owner_of (write.others (Node m OwnerWord) among (λ e. cc)) in
      let next = promoting env.geometry found second in
      rw (begins_held env found false (link_of second))
      (answered env mix None (inl refl) (still_has refl)
      (silent env mix c words G op (holds_bucket found) (holds_bucket found) (ReleaseNext (next, Go))
      (LinksBehind second) whole tt tt made
      (record { among = within; on = refl; locked = λ e. cc; none = refl; holds = refl })
      (promoting_knows env mix c port owner M' G found second
      (plainly env mix k.only tt k.means.table (record {
        found =
            found_kept env mix c G M M' whole made found.bucket.place found.bucket.word port m found.before
            is.found;
        behind = is.behind;
        bound_to = is.bound_to;
        means = record {
          leads = record { owner_is = owner_word ∙ leads.owner_is; second_is = leads.second_is };
          alike = write.same ∙ sym is.means.link_is ∙ sym first_link;
        };
      })))))
    where
      second_in : (nodes : List ℕ) → Some second ≡ first_of_list nodes → In second nodes
      second_in [] is = absurd (cc)
      second_in (node ∷ nodes) is = inl (let same : second ≡ node = cc in same)

  -- ---- the stores of a relinking

  -- the bucket of a node that was taken out is unlocked
  unlock_left : (place word node : ℕ) (raised : Bool) (r : ReleaseAt × Next (Reply × Option ℕ))
      → releases.release_holds env mix c port owner r ≡ holds_left None raised
      → ((M' : Memory) (G' : Ghost)
      → stores.KnowsLeft env mix c port owner None raised (TakenOut node) M' G' → ReleaseNext r M' G')
      → stores.KnowsLeft env mix c port owner (Some place) raised (LocksTakenOut place word node) M G
      → Step env mix c (calls.Release port owner) words G (Store place word) (holds_left (Some place) raised)
      (releases.release_holds env mix c port owner r) (ReleaseNext r)
  unlock_left place word node raised r holds next k =
      let h = holds_left None raised in
      rw holds
      (answered-map env mix h.answer (inl (keeps h.answer)) (still_has refl)
      (λ M' G' w k. next M' G' k)
      (unlock_taken env mix c h None Nowhere words G all whole refl place word node k))

  -- where a relinking stands: so it is of each that is before its first store, and of each behind it
  abbrev IsSoOf : (FoundPort → RelinkModel → ReleaseAt) → FoundPort → Option ℕ → RelinkModel → Type 0
  IsSoOf state found before relink =
      let f = behind_node found before in
      IsNodeOrNone env.geometry before → ReleaseKnows (state f relink) M G → ReleaseStep (state f relink)

  -- the only node goes out of the chain: where another one is before it, the bucket is unlocked then
  unlinking_step : (found : FoundPort) (relink : RelinkModel)
      → IsSoOf at.Unlinking found found.before relink
  unlinking_step found relink before_in known =
      relinking_so env.geometry found.bucket.place found.bucket.word relink.link (IsSoOf at.Unlinking found)
      first second found.before relink known.fits before_in known
    where
      first : (b : Option ℕ) → IsSoOf at.Unlinking found b (relinks env found relink.link b false)
      first None before_in known =
          let f = behind_node found None in
          step-map env mix
          (λ M' G' w k. record { knowing = record { only = k.only; means = k.means }; fits = tt })
          (stores.unlink_store env mix c port owner low words G all whole f relink.link before_in
          (record { only = known.knowing.only; means = known.knowing.means }))
      first (Some node) before_in known =
          let f = behind_node found (Some node) in
          step-map env mix
          (λ M' G' w k. record { knowing = record { only = k.only; means = k.means }; fits = refl })
          (stores.unlink_store env mix c port owner low words G all whole f relink.link before_in
          (record { only = known.knowing.only; means = known.knowing.means }))

      second : (node : ℕ)
          → IsSoOf at.Unlinking found (Some node) (relinks env found relink.link (Some node) true)
      second node before_in known =
          let f = behind_node found (Some node) in
          unlock_left f.bucket.place f.bucket.word f.node true (at.Lowering f.node f.shape, Go) refl
          (λ M' G' k. record { knowing = record { only = k.only; means = k.means }; fits = tt })
          (record { only = known.knowing.only; means = known.knowing.means })

  -- the store that puts the second node in the first one's place, by the link to it
  promoted_step : (found : FoundPort) (link : ℕ) → IsNodeOrNone env.geometry found.before
      → link ≡ link_of (led_to link) → KnowsList found (Promotes (led_to link) owner) M G
      → stores.FirstOut env mix c port owner low words G all whole found link false
  promoted_step found link before_in leads k =
      subst (λ l. stores.FirstOut env mix c port owner low words G all whole found l false) (sym leads)
      (stores.promote_store env mix c port owner low words G all whole found (led_to link) before_in k)

  -- the second node comes in the first one's place, likewise
  promoting_step : (found : FoundPort) (relink : RelinkModel)
      → IsSoOf at.Promoting found found.before relink
  promoting_step found relink before_in known =
      relinking_so env.geometry found.bucket.place found.bucket.word relink.link (IsSoOf at.Promoting found)
      first second found.before relink known.fits.0 before_in known
    where
      first : (b : Option ℕ) → IsSoOf at.Promoting found b (relinks env found relink.link b false)
      first None before_in known =
          let f = behind_node found None in
          step-map env mix
          (λ M' G' w k. record { knowing = record { only = k.only; means = k.means }; fits = tt })
          (promoted_step f relink.link before_in known.fits.1
          (record { only = known.knowing.only; means = known.knowing.means }))
      first (Some node) before_in known =
          let f = behind_node found (Some node) in
          let link_is = known.fits.1 in
          step-map env mix (λ M' G' w k. record {
            knowing = record { only = k.only; means = k.means };
            fits = (refl, link_is);
          }) (promoted_step f relink.link before_in link_is
          (record { only = known.knowing.only; means = known.knowing.means }))

      second : (node : ℕ)
          → IsSoOf at.Promoting found (Some node) (relinks env found relink.link (Some node) true)
      second node before_in known =
          let f = behind_node found (Some node) in
          unlock_left f.bucket.place f.bucket.word f.node false (closing (Released false) (Some f.node), Go) refl
          (λ M' G' k. record { knowing = record { only = k.only; means = k.means }; fits = tt })
          (record { only = known.knowing.only; means = known.knowing.means })

  -- ---- the ends

  -- one port less is bound
  lowering_step : (node shape : ℕ) → ReleaseKnows (at.Lowering node shape) M G
      → ReleaseStep (at.Lowering node shape)
  lowering_step node shape known =
      let k = known.knowing in
      let op = plan_at env c (at.Lowering node shape) in
      let M' = mem env mix (applied words op) in
      let h = holds_left None true in
      let h' = holds_left None false in
      let reply = Released (kicks env shape (M PortCount)) in
      let Knows : Memory → Ghost → Type 0 = ReleaseNext (closing reply (Some node), Go) in
      let write : IsWrite env.geometry M M' PortCount ((M PortCount + (2 ^ 64 - 1)) % 2 ^ 64) =
      is_write env.geometry words PortCount op all tt refl in
      answered env mix (Some (plain reply))
      (inl (record { reply = refl; owners = refl })) (still_has refl)
      (silent env mix c words G op h h' Knows Lowers whole tt tt
      (count_down env mix c M M' G whole low k.only.raising write)
      (record { subtracts = refl; high = refl; holds = refl })
      (record {
        knowing = plainly env mix (record {
          nodes = k.only.nodes;
          locks = k.only.locks;
          raising = put-same G.raised c false;
          slots = k.only.slots;
          pages_in = k.only.pages_in;
          works = k.only.works;
          reads = k.only.reads;
        }) tt tt (record { among = k.means.bucket.among; taken = k.means.bucket.taken });
        fits = tt;
      }))

  -- the bucket is unlocked: no node has the owner, or a later one was taken out
  unlocking_step : (table : ℕ) (unlock : Unlock) (removed : Option ℕ)
      → ReleaseKnows (at.Unlocking table unlock removed) M G
      → ReleaseStep (at.Unlocking table unlock removed)
  unlocking_step table unlock None known =
      let told : Holding = holds_answer Absent in
      answered-map env mix told.answer (inl (keeps told.answer)) (still_has refl)
      (λ M' G' w k. record { knowing = k; fits = tt })
      (unlock_step env mix c told None Nowhere words G all whole refl unlock.place unlock.word
      known.knowing)
  unlocking_step table unlock (Some node) known =
      unlock_left unlock.place unlock.word node false
      (closing (Released false) (Some node), Go) refl
      (λ M' G' k. record { knowing = record { only = k.only; means = k.means }; fits = tt })
      (record { only = known.knowing.only; means = known.knowing.means })

  -- ---- its read section

  -- it is opened before anything is known
  opening_step : G.from c ≡ None → ReleaseKnows at.Opening M G → ReleaseStep at.Opening
  opening_step none known =
      answered-map env mix None (inl refl) (still_has refl)
      (λ M' G' w k. record { knowing = k; fits = tt })
      (open_step env mix c held.holds_nothing known_nothing refl words G all whole low none known.knowing)

  -- while it is closed the release knows which node it has taken out, where it has
  closing_step : (reply : Reply) (removed : Option ℕ) → ReleaseKnows (at.Closing reply removed) M G
      → ReleaseStep (at.Closing reply removed)
  closing_step reply removed known =
      let told : Holding = held.ended_with (plain reply) in
      answered-map env mix told.answer (inl (keeps told.answer)) (still_has refl) (λ M' G' w k. k)
      (close_step env mix c told (known_removed removed) (removed_nowhere removed) words G all whole low refl refl known.knowing)

  -- ---- all states

  -- each operation leads from what the release knows to what it knows next
  pub release_step : (at : ReleaseAt) → IsReleaseAtIn env at → OpensNone env c G (plan_at env c at) (held_of_release at)
      → ReleaseKnows at M G → ReleaseStep at
  release_step at.Opening is outside known = opening_step (outside refl refl) known
  release_step (at.Seeking seek) is outside known =
      seeking env mix c port owner low words G all whole seek is known
  release_step (at.Searching found search) is outside known =
      searching env mix c port owner low words G all whole found search known
  release_step (at.LinkBehind found node before) is outside known =
      behind_step env mix c port owner low words G all whole found node before known
  release_step (at.CuttingOut found node before link) is outside known =
      cut_step env mix c port owner low words G all whole found node before link known
  release_step (at.ChainLink found second) is outside known = chain_step found second known
  release_step (at.SecondLink found second link) is outside known = second_step found second link known
  release_step (at.Promoting found relink) is outside known =
      promoting_step found relink is.found_in.before_in known
  release_step (at.Unlinking found relink) is outside known =
      unlinking_step found relink is.found_in.before_in known
  release_step (at.Lowering node shape) is outside known = lowering_step node shape known
  release_step (at.Unlocking table unlock removed) is outside known = unlocking_step table unlock removed known
  release_step (at.Closing reply removed) is outside known = closing_step reply removed known
