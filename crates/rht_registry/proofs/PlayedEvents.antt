-- What an event makes of what the program keeps is what it makes of the replay that this stands for.
use Rattle.std.proofs.Common.{◌≡◌, ℕ, ◌+◌, ◌<◌, ◌≤◌, Bool, true, false, cond, List, [], ◌∷◌, length, get_or, drop, leb, refl, inl, inr, ◌-◌, sym, ◌∙◌, ap, subst, arith}
use Rattle.std.specs.Prelude.{Option, Some, None, IfSome, ◌==◌, ◌&&◌, ◌||◌, slice_get, slice_index, slice_set}
use Rattle.std.proofs.lemmas.Bool.{lt-ltb, le-ltb, le-leb, lt-leb, cases_order}
use Rattle.std.proofs.lemmas.Option.{slice_get-get_or}
use Rattle.rht_words.specs.declared.env.Env.{Env}
use Rattle.rht_model.specs.declared.history.Call.{Call}
use Rattle.rht_core.specs.declared.event.Event.TheVariants.{Begin, Step}
use Rattle.rht_core.specs.declared.event.Stepped.{Stepped}
use Rattle.rht_core.specs.Locals.{is_idle}
use Rattle.rht_core.specs.Runs.{Core, local_of, core_step}
use Rattle.rht_core.specs.Serving.{calls_of}
use Rattle.rht_registry.specs.declared.replaying.player.Player.{Player}
use Rattle.rht_callers.specs.declared.local.Local.{Local}
use Rattle.rht_registry.specs.Replays.{most_events, Playing, left_at, has_none, is_through, event_text, still_to_end, given, readied, turn_of, event_of, lines_at, stepping, event_with, finishing}
use Rattle.rht_registry.specs.Players.{playing_of, CanPlay, Takes}
use Rattle.rht_registry.proofs.NextCommands.{calls_of-own, calls_of-past, has_none-past, has_none-some, left_by, left_by-moved, left_by-taken, playing_of-parts}

pub most_events-is : most_events ≡ 1000000
unfolding most_events
most_events-is = refl

module _ {M : Type 0} where
  -- with as many places in a table of the same environment it goes on
  pub CanPlay-stays : (before after : Player M) → CanPlay before
      → length after.next.items ≡ length before.next.items → after.state.env ≡ before.state.env → CanPlay after
  CanPlay-stays before after can long env = record {
    places = long ∙ can.places ∙ ap (λ (e : Env). e.geometry.callers) (sym env);
  }

module _ {M : Type 0} (commands : List (ℕ × Call)) where
  -- a place moved past the commands of others changes nothing of the replay
  pub playing_of-moved : (before after : Player M) (c place : ℕ) → c < length before.next.items
      → after.next.items ≡ slice_set before.next.items c place
      → calls_of (c + 1) (drop (slice_index before.next.items c) commands) ≡ calls_of (c + 1) (drop place commands)
      → after.state ≡ before.state → after.made ≡ before.made → after.over ≡ before.over
      → playing_of commands after ≡ playing_of commands before
  playing_of-moved before after c place below next same state made over =
      playing_of-parts commands after before.state (left_by commands before.next.items) before.made before.over state
      (ap (left_by commands) next ∙ left_by-moved commands before.next.items c place below same) made over

  -- a command that is taken is left no longer
  pub playing_of-taken : (before after : Player M) (c place behind : ℕ) → c < length before.next.items
      → after.next.items ≡ slice_set (slice_set before.next.items c place) c behind
      → calls_of (c + 1) (drop (slice_index before.next.items c) commands) ≡ calls_of (c + 1) (drop place commands)
      → after.state ≡ before.state → after.made ≡ before.made → after.over ≡ before.over
      → playing_of commands after
      ≡ record (playing_of commands before) {
        left = left_at (left_by commands before.next.items) c (calls_of (c + 1) (drop behind commands));
      }
  playing_of-taken before after c place behind below next same state made over =
      playing_of-parts commands after before.state
      (left_at (left_by commands before.next.items) c (calls_of (c + 1) (drop behind commands))) before.made before.over state
      (ap (left_by commands) next ∙ left_by-taken commands before.next.items c place behind below same) made over

module _ {M : Type 0} (mix : ℕ → ℕ → ℕ → ℕ) (p : Playing M) (c : ℕ) where
  -- who is in a call isn't given one
  pub readied-busy : is_idle (local_of p.core c) ≡ false → readied mix p c ≡ p
  readied-busy busy = ap (λ t. cond t (given mix p c (p.left c)) p) busy

  -- and neither is who has none left
  pub readied-none : is_idle (local_of p.core c) ≡ true → p.left c ≡ [] → readied mix p c ≡ p
  readied-none idle none = ap (λ t. cond t (given mix p c (p.left c)) p) idle ∙ ap (given mix p c) none

  -- another is given the next one
  pub readied-some : (call : Call) (calls : List Call) → is_idle (local_of p.core c) ≡ true → p.left c ≡ call ∷ calls
      → readied mix p c ≡ record p { core = (core_step mix p.core (Begin c call 0)).0; left = left_at p.left c calls }
  readied-some call calls idle some = ap (λ t. cond t (given mix p c (p.left c)) p) idle ∙ ap (given mix p c) some

  -- the limit stands in the place of one event too many
  pub event_of-limit : most_events ≤ p.made → event_of mix p c ≡ (record p { over = true }, None)
  event_of-limit full =
      ap (λ t. cond t (turn_of mix (readied mix p c) c) (record p { over = true }, None)) (le-ltb p.made most_events full)

  pub event_of-turn : p.made < most_events → event_of mix p c ≡ turn_of mix (readied mix p c) c
  event_of-turn more =
      ap (λ t. cond t (turn_of mix (readied mix p c) c) (record p { over = true }, None)) (lt-ltb p.made most_events more)

module _ {M : Type 0} (mix : ℕ → ℕ → ℕ → ℕ) (commands : List (ℕ × Call)) (c : ℕ) where
  -- a caller that is given a command
  pub readied-player : (before mid after : Player M) (call : Call) (stepped : Stepped)
      → is_idle (local_of before.state c) ≡ true
      → Takes (playing_of commands before) (playing_of commands mid) c (Some call) → mid.state ≡ before.state
      → (after.state, stepped) ≡ core_step mix mid.state (Begin c call 0)
      → after.next.items ≡ mid.next.items → after.made ≡ mid.made → after.over ≡ mid.over
      → playing_of commands after ≡ readied mix (playing_of commands before) c
  readied-player before mid after call stepped idle takes state is next made over =
      let p = playing_of commands before in
      let calls = takes.0 in
      let core : after.state ≡ (core_step mix p.core (Begin c call 0)).0 =
      ap (λ s. s.0) is ∙ ap (λ (k : Core M). (core_step mix k (Begin c call 0)).0) state in
      playing_of-parts commands after (core_step mix p.core (Begin c call 0)).0 (left_at p.left c calls) p.made p.over core
      (ap (left_by commands) next ∙ ap (λ (q : Playing M). q.left) takes.2) (made ∙ ap (λ (q : Playing M). q.made) takes.2)
      (over ∙ ap (λ (q : Playing M). q.over) takes.2)
      ∙ sym (readied-some mix p c call calls idle takes.1)

  -- the limit
  pub event-limit : (before after : Player M) → most_events ≤ before.made
      → after.state ≡ before.state → after.next.items ≡ before.next.items → after.made ≡ before.made → after.over ≡ true
      → (playing_of commands after, None) ≡ event_of mix (playing_of commands before) c
  event-limit before after full state next made over =
      ap (λ (q : Playing M). let e : Playing M × Option Stepped = (q, None) in e)
      (playing_of-parts commands after before.state (left_by commands before.next.items) before.made true state
      (ap (left_by commands) next) made over)
      ∙ sym (event_of-limit mix (playing_of commands before) c full)

  -- an event
  pub event-turn : (before mid after : Player M) (stepped : Stepped) → before.made < most_events
      → playing_of commands mid ≡ readied mix (playing_of commands before) c
      → (after.state, stepped) ≡ core_step mix mid.state (Step c)
      → after.next.items ≡ mid.next.items → after.made ≡ mid.made + 1 → after.over ≡ mid.over
      → (playing_of commands after, Some stepped) ≡ event_of mix (playing_of commands before) c
  event-turn before mid after stepped more ready is next made over =
      let q = playing_of commands mid in
      let after_is : playing_of commands after ≡ record q { core = (core_step mix q.core (Step c)).0; made = q.made + 1 } =
      playing_of-parts commands after (core_step mix q.core (Step c)).0 q.left (q.made + 1) q.over (ap (λ s. s.0) is)
      (ap (left_by commands) next) made over in
      let turned : (playing_of commands after, Some stepped) ≡ turn_of mix q c =
      (λ i. (after_is i, Some (is i).1)) in
      turned ∙ ap (λ (r : Playing M). turn_of mix r c) ready ∙ sym (event_of-turn mix (playing_of commands before) c more)

-- ---- whether a caller is through

pub is_through-busy : {M : Type 0} (p : Playing M) (c : ℕ) → is_idle (local_of p.core c) ≡ false → is_through p c ≡ false
is_through-busy p c busy = ap (λ t. t && has_none (p.left c)) busy

pub is_through-idle : {M : Type 0} (p : Playing M) (c : ℕ) → is_idle (local_of p.core c) ≡ true → is_through p c ≡ has_none (p.left c)
is_through-idle p c idle = ap (λ t. t && has_none (p.left c)) idle

-- what is so of what stands at a place
pub head_is : {X : Type 0} (P : X → Type 0) (xs : List X) (i : ℕ) (d : X) → i < length xs → IfSome (slice_get xs i) P → P (get_or xs i d)
head_is P xs i d within holds = subst (λ o. IfSome o P) (slice_get-get_or xs i d within) holds

-- no command is left where the place of the next one is past all
pub past-has_none : (commands : List (ℕ × Call)) (worker place : ℕ) (d : ℕ × Call)
    → IfSome (slice_get commands place) (λ command. command.0 ≡ worker)
    → leb (length commands) place ≡ has_none (calls_of worker (drop place commands))
past-has_none commands worker place d here = elim (cases_order place (length commands)) [
  | inl same ↦ past (omega (arith, same))
  | inr (inl below) ↦
      lt-leb (length commands) place below
      ∙ sym (has_none-some _ _ _ (calls_of-own worker place commands d below
      (head_is (λ command. command.0 ≡ worker) commands place d below here)))
  | inr (inr above) ↦ past (omega (arith, above))
]
  where
    past : length commands ≤ place → leb (length commands) place ≡ has_none (calls_of worker (drop place commands))
    past over =
        le-leb (length commands) place over ∙ sym (has_none-past _ (calls_of-past worker place commands over))

-- ---- events with their lines

module _ {M : Type 0} (mix : ℕ → ℕ → ℕ → ℕ) (commands : List (ℕ × Call)) (worker : ℕ) (first : 1 ≤ worker) (p : Playing M) (after : Player M)
    (event : Option Stepped) (local : Local M) (is : (playing_of commands after, event) ≡ event_of mix p (worker - 1))
    (local_is : local ≡ local_of after.state (worker - 1)) where
  abbrev c : ℕ
  c = worker - 1

  text-as : (shown : Bool) → event_text shown worker local event ≡ event_text shown (c + 1) (local_of after.state c) event
  text-as shown =
      let same : worker ≡ c + 1 = omega arith in
      ap (λ w. event_text shown w local event) same ∙ ap (λ l. event_text shown (c + 1) l event) local_is

  -- an event behind which the limit isn't met
  pub stepping-event : (shown : Bool) → p.over ≡ false
      → (playing_of commands after, event_text shown worker local event) ≡ stepping mix shown c p
  stepping-event shown goes =
      let lines : Playing M × Option Stepped → Playing M × List ℕ =
      λ e. (e.0, event_text shown (c + 1) (local_of e.0.core c) e.1) in
      ap (λ text. let e : Playing M × List ℕ = (playing_of commands after, text) in e) (text-as shown)
      ∙ ap lines is
      ∙ sym (ap (λ t. cond t (let e : Playing M × List ℕ = (p, []) in e) (event_with mix (lines_at mix) shown c p)) goes)

  -- and one of a line that is to end some calls
  pub finishing-event : (calls : ℕ) → (calls == 0 || p.over || is_through p c) ≡ false
      → ((still_to_end calls event, playing_of commands after), event_text false worker local event) ≡ finishing mix c (calls, p)
  finishing-event calls goes =
      let lines : Playing M × Option Stepped → (ℕ × Playing M) × List ℕ =
      λ e. ((still_to_end calls e.1, e.0), event_text false (c + 1) (local_of e.0.core c) e.1) in
      ap (λ text. let e : (ℕ × Playing M) × List ℕ = ((still_to_end calls event, playing_of commands after), text) in e) (text-as false)
      ∙ ap lines is
      ∙ sym (ap (λ t. cond t (let e : (ℕ × Playing M) × List ℕ = ((calls, p), []) in e) (lines (event_of mix p c))) goes)

module _ {M : Type 0} (mix : ℕ → ℕ → ℕ → ℕ) (c : ℕ) (p : Playing M) where
  -- behind the limit there is no event
  pub stepping-over : (shown : Bool) → p.over ≡ true → stepping mix shown c p ≡ (p, [])
  stepping-over shown over =
      ap (λ t. cond t (let e : Playing M × List ℕ = (p, []) in e) (event_with mix (lines_at mix) shown c p)) over

  -- and none of a line that is finished
  pub finishing-still : (calls : ℕ) → (calls == 0 || p.over || is_through p c) ≡ true → finishing mix c (calls, p) ≡ ((calls, p), [])
  finishing-still calls done =
      let lines : Playing M × Option Stepped → (ℕ × Playing M) × List ℕ =
      λ e. ((still_to_end calls e.1, e.0), event_text false (c + 1) (local_of e.0.core c) e.1) in
      ap (λ t. cond t (let e : (ℕ × Playing M) × List ℕ = ((calls, p), []) in e) (lines (event_of mix p c))) done
