-- A bind, operation by operation: each leads from what it knows to what it knows next.
use Rattle.std.proofs.Common.{◌≡◌, ℕ, ◌^◌, ◌<◌, List, length, Some, None, Bool, refl, sym, subst, inl}
use Rattle.rht_words.specs.declared.env.Env.{Env}
use Rattle.rht_words.specs.Links.{slot_of}
use Rattle.rht_words.specs.Places.{Slot, FutureWord, words_in}
use Rattle.rht_words.proofs.Memory.{Memory}
use Rattle.rht_words.specs.Ports.{IsPort}
use Rattle.rht_arena.specs.GiveNode.{give_node_plan}
use Rattle.rht_chain.specs.declared.locked.Then.TheVariants.{Table, Answer}
use Rattle.rht_model.specs.declared.history.Call.{Call}
use Rattle.rht_model.specs.declared.history.Call.TheVariants as calls
use Rattle.rht_model.specs.declared.history.Reply.TheVariants.{Bound}
use Rattle.rht_model.specs.Answers.{plain}
use Rattle.rht_bind.specs.Bind.{plan_at, IsBindAtIn}
use Rattle.rht_bind.specs.BindHeld.{held_of_bind, holds_outside, holds_section, holds_node}
use Rattle.rht_bind.specs.declared.bind.ending.Ending.{Ending}
use Rattle.rht_bind.specs.declared.bind.ending.Ending.TheVariants as endings
use Rattle.rht_bind.specs.declared.bind.BindAt.{BindAt}
use Rattle.rht_bind.specs.declared.bind.BindAt.TheVariants as at
use Rattle.rht_ghost.proofs.Theory.Ghosts.{Ghost}
use Rattle.rht_ghost.proofs.Theory.Wholes.{Whole}
use Rattle.rht_ghost.proofs.Theory.Knowns.{Known, Nowhere, InSlot, Passes, Unlocked}
use Rattle.rht_ghost.proofs.Theory.Knowledge.{Knowing}
use Rattle.rht_ghost.proofs.Theory.Answering.{keeps}
use Rattle.rht_ghost.proofs.Theory.Steps.{answered-map, Holding, mem, still_has, Step, answered, reads}
use Rattle.rht_ghost.proofs.Pieces.NewNodes as nodes
use Rattle.rht_ghost.proofs.Pieces.Locks.{unlock_any}
use Rattle.rht_ghost.proofs.Pieces.OwnSections.{OpensNone, open_step, close_step}
use Rattle.rht_ghost.proofs.Theory.Knowns.{known_nothing}
use Rattle.rht_bind.proofs.BindKnowledge.{own, knows_of}
use Rattle.rht_bind.proofs.BindWays.{filling, beginning, locating, entering, probing}
use Rattle.rht_bind.proofs.BindDecisions.{found_next, future_loaded, count_next}
use Rattle.rht_bind.proofs.BindLinks.{linking, raising, publish_step}
use Rattle.rht_bind.proofs.BindFronts.{list_linked, front_loaded, front_linked, front_step}
use Rattle.rht_bind.proofs.BindGrowths.{want_next, refused_next, making_step, attaching, unmaking}
use Rattle.rht_bind.proofs.BindKnowledge as binds

module _ (env : Env) (mix : ℕ → ℕ → ℕ → ℕ) (c : ℕ) (port owner : ℕ) (once : Bool)
    (small_port : IsPort port) (small : owner < 2 ^ 32) (low : c < env.geometry.callers)
    (words : List ℕ) (G : Ghost) (all : length words ≡ words_in env.geometry)
    (whole : Whole env mix (mem env mix words) G) where
  abbrev call : Call
  call = calls.Bind port owner once

  abbrev BindKnows : BindAt → Memory → Ghost → Type 0
  BindKnows = binds.BindKnows env mix c port owner once

  abbrev BindStep : BindAt → Type 0
  BindStep = binds.BindStep env mix c port owner once words G

  -- what it knows of its node outside a bucket
  abbrev has_own : ℕ → Known
  has_own n = knows_of port owner (own port owner n) Nowhere Unlocked

  -- the section is closed: the bind has ended, or has its node still
  closing : (ending : Ending) → BindKnows (at.Closing ending) (mem env mix words) G → BindStep (at.Closing ending)
  closing (endings.Bound kick) known =
      let told = Some (plain (Bound kick)) in
      answered env mix told (inl (keeps told)) (still_has refl)
      (close_step env mix c (holds_section told) known_nothing refl words G all whole low refl refl known.knowing)
  closing (endings.Answered node reply) known =
      let told = Some (plain reply) in
      answered-map env mix told (inl (keeps told)) (still_has refl)
      (λ M' G' w k. record { knowing = k; fits = tt })
      (close_step env mix c (record (holds_section told) { node = Some node }) (has_own node) refl words G all whole low refl refl
      known.knowing)
  closing (endings.Anew attempt) known =
      answered-map env mix None (inl refl) (still_has refl)
      (λ M' G' w k. record { knowing = k; fits = tt })
      (close_step env mix c (holds_node (Some attempt.node) None) (has_own attempt.node) refl words G all whole low refl refl
      known.knowing)

  -- each operation leads from what the bind knows to what it knows next
  pub bind_step : (at : BindAt) → IsBindAtIn env at → OpensNone env c G (plan_at env c at) (held_of_bind at)
      → BindKnows at (mem env mix words) G → BindStep at
  bind_step (at.Filling new) is outside known =
      filling env mix c port owner once words G all whole new is known
  bind_step (at.Opening attempt) is outside known =
      answered-map env mix None (inl refl) (still_has refl)
      (λ M' G' w k. record { knowing = k; fits = tt })
      (open_step env mix c (holds_outside (Some attempt.node)) (has_own attempt.node) refl words G all whole low
      (outside refl refl) known.knowing)
  bind_step (at.CurrentTable attempt) is outside known =
      beginning env mix c port owner once words G all whole attempt is known
  bind_step (at.Locating attempt locate) is outside known =
      locating env mix c port owner once words G all whole attempt locate is known
  bind_step (at.Entering attempt table shape place grow) is outside known =
      entering env mix c port owner once words G all whole attempt table shape place grow is known
  bind_step (at.Probing attempt table shape probe) is outside known =
      probing env mix c port owner once words G all whole attempt table shape probe is known
  bind_step (at.FoundOwner claimed found) is outside known =
      found_next env mix c port owner once words G all whole claimed found known
  bind_step (at.ListLink list) is outside known =
      list_linked env mix c port owner once words G all whole list known
  bind_step (at.ChainLink list) is outside known =
      front_loaded env mix c port owner once words G all whole list known
  bind_step (at.LinkBehind list link) is outside known =
      front_linked env mix c port owner once words G all whole list link known
  bind_step (at.Replacing list relink) is outside known =
      front_step env mix c port owner once words G all whole small list relink is known
  bind_step (at.Future claimed count) is outside known =
      future_loaded env mix c port owner once words G all whole claimed count is known
  bind_step (at.Count claimed) is outside known =
      count_next env mix c port owner once words G all whole claimed known
  bind_step (at.Link claimed) is outside known =
      linking env mix c port owner once words G all whole claimed is known
  bind_step (at.Raise claimed) is outside known =
      raising env mix c port owner once words G all whole small_port small low claimed is known
  bind_step (at.Publish n table relink kick) is outside known =
      publish_step env mix c port owner once words G all whole small_port small low n table relink kick
      known
  bind_step (at.Unlocking attempt table unlock (Table next)) is outside known =
      answered-map env mix None (inl refl) (still_has refl)
      (λ M' G' w k. record { knowing = k; fits = tt })
      (unlock_any env mix c (holds_node (Some attempt.node) None) (Some (own port owner attempt.node))
      (Passes port next) words G all whole refl unlock.place unlock.word known.knowing)
  bind_step (at.Unlocking attempt table unlock (Answer reply)) is outside known =
      let told : Holding =
      record (holds_section (Some (plain reply))) { node = Some attempt.node } in
      answered-map env mix (Some (plain reply)) (inl (keeps (Some (plain reply)))) (still_has refl)
      (λ M' G' w k. record { knowing = k; fits = tt })
      (unlock_any env mix c told (Some (own port owner attempt.node)) Nowhere words G all whole refl
      unlock.place unlock.word known.knowing)
  bind_step (at.UnlockingFull growing unlock) is outside known =
      let n = growing.attempt.node in
      answered-map env mix None (inl refl) (still_has refl)
      (λ M' G' w k. record { knowing = k; fits = tt })
      (unlock_any env mix c (holds_node (Some n) None) (Some (own port owner n))
      (InSlot growing.table) words G all whole refl unlock.place unlock.word known.knowing)
  bind_step (at.Root growing) is outside known =
      reads env mix whole refl refl (inl refl)
      (record { knowing = known.knowing; fits = tt })
  bind_step (at.GrowthCount growing root) is outside known =
      want_next env mix c port owner once words G all whole growing root known
  bind_step (at.Making growing size make) is outside known =
      making_step env mix c port owner once words G all whole growing size make is known
  bind_step (at.FutureAgain growing refusal) is outside known =
      refused_next env mix c port owner once words G all whole growing refusal
      (slot_of (mem env mix words (Slot growing.table FutureWord))) known
  bind_step (at.Attaching growing slot shape) is outside known =
      attaching env mix c port owner once words G all whole growing slot shape is known
  bind_step (at.Unmaking attempt unmake answer) is outside known =
      unmaking env mix c port owner once words G all whole attempt unmake answer is known
  bind_step (at.Closing ending) is outside known = closing ending known
  bind_step (at.Giving give reply) is outside known =
      let told : Holding = record (holds_outside None) { answer = Some (plain reply) } in
      subst (λ g. Step env mix c call words G (give_node_plan (record { geometry = g; node = give.node }))
      (record told { node = Some give.node }) told (Knowing env mix c told known_nothing))
      (sym is.geometry_same)
      (answered env mix (Some (plain reply)) (inl (keeps (Some (plain reply))))
      (record { taken = λ node none some. absurd (cc); gone = λ node some none told. absurd (cc) })
      (nodes.give_step env mix c told Nowhere Unlocked words G all whole tt
      (own port owner give.node) known.knowing))
