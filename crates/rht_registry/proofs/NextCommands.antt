-- Where a worker's next command is. The calls of a worker from a place on are those from behind the commands of others on, and from its
-- own command on they begin with that one's call. A caller whose place is moved has others left, and nobody else has.
use Rattle.std.proofs.Common.{◌≡◌, ◌≢◌, ℕ, ◌+◌, ◌<◌, ◌≤◌, ◌==◌, cond, Bool, true, false, List, [], ◌∷◌, length, get_or, drop, drop-cons, add-one, refl, sym, ◌∙◌, ap, subst, inl, inr}
use Rattle.std.specs.Prelude.{slice_index, slice_set}
use Rattle.std.proofs.lemmas.Bool.{cond_both, cases_eq, eq-eqb, ne_eqb, eqb-true}
use Rattle.std.proofs.lemmas.List.{at_drop_all, length-set, get_or-set_same, get_or-set_other}
use Rattle.rht_model.specs.declared.history.Call.{Call}
use Rattle.rht_core.specs.Runs.{Core}
use Rattle.rht_core.specs.Serving.{calls_of}
use Rattle.rht_registry.specs.declared.replaying.player.Player.{Player}
use Rattle.rht_registry.specs.Replays.{left_at, has_none}
use Rattle.rht_registry.specs.Players.{playing_of}

module _ (worker place : ℕ) (commands : List (ℕ × Call)) where
  module _ (d : ℕ × Call) (within : place < length commands) where
    parts : drop place commands ≡ get_or commands place d ∷ drop (place + 1) commands
    parts = rw (add-one, drop-cons commands place d) refl

    abbrev here : ℕ × Call
    here = get_or commands place d

    abbrev behind : List Call
    behind = calls_of worker (drop (place + 1) commands)

    -- a command of another worker is passed over
    pub calls_of-other : here.0 ≢ worker → calls_of worker (drop place commands) ≡ behind
    calls_of-other other =
        ap (calls_of worker) parts ∙ ap (λ t. cond t (here.1 ∷ behind) behind) (ne_eqb here.0 worker other)

    -- and the worker's own is the next one
    pub calls_of-own : here.0 ≡ worker → calls_of worker (drop place commands) ≡ here.1 ∷ behind
    calls_of-own own = ap (calls_of worker) parts ∙ ap (λ t. cond t (here.1 ∷ behind) behind) (eq-eqb here.0 worker own)

  -- past all commands there is none
  pub calls_of-past : length commands ≤ place → calls_of worker (drop place commands) ≡ []
  calls_of-past past = at_drop_all (calls_of worker) commands place past

-- what is left by these places
abbrev pub left_by : List (ℕ × Call) → List ℕ → ℕ → List Call
left_by commands next = λ c. calls_of (c + 1) (drop (slice_index next c) commands)

-- a caller's place is moved
pub left_by-set : (commands : List (ℕ × Call)) (next : List ℕ) (c place : ℕ) → c < length next
    → left_by commands (slice_set next c place) ≡ left_at (left_by commands next) c (calls_of (c + 1) (drop place commands))
left_by-set commands next c place below = λ i k. each k i
  where
    each : (k : ℕ) → left_by commands (slice_set next c place) k
        ≡ left_at (left_by commands next) c (calls_of (c + 1) (drop place commands)) k
    each k = elim (cases_eq k c) [
      | inl same ↦
          ap (left_by commands (slice_set next c place)) same
          ∙ ap (λ p. calls_of (c + 1) (drop p commands)) (get_or-set_same next c place 0 below)
          ∙ sym (ap (λ t. cond t (calls_of (c + 1) (drop place commands)) (left_by commands next k)) (eq-eqb k c same))
      | inr other ↦
          ap (λ p. calls_of (k + 1) (drop p commands)) (get_or-set_other next c k place 0 other)
          ∙ sym (ap (λ t. cond t (calls_of (c + 1) (drop place commands)) (left_by commands next k)) (ne_eqb k c other))
    ]

-- what a caller has left already changes nothing
pub left_at-same : (left : ℕ → List Call) (c : ℕ) → left_at left c (left c) ≡ left
left_at-same left c = λ i k. each k i
  where
    each : (k : ℕ) → left_at left c (left c) k ≡ left k
    each k =
        cond_both (k == c) (left c) (left k) (λ calls. calls ≡ left k) (λ same. ap left (sym (eqb-true k c same)))
        (λ other. refl)

-- a place moved past the commands of others leaves the same
pub left_by-moved : (commands : List (ℕ × Call)) (next : List ℕ) (c place : ℕ) → c < length next
    → left_by commands next c ≡ calls_of (c + 1) (drop place commands)
    → left_by commands (slice_set next c place) ≡ left_by commands next
left_by-moved commands next c place below same =
    left_by-set commands next c place below ∙ ap (left_at (left_by commands next) c) (sym same)
    ∙ left_at-same (left_by commands next) c

-- and moved past the caller's own command, those behind it
pub left_by-taken : (commands : List (ℕ × Call)) (next : List ℕ) (c place behind : ℕ) → c < length next
    → left_by commands next c ≡ calls_of (c + 1) (drop place commands)
    → left_by commands (slice_set (slice_set next c place) c behind)
    ≡ left_at (left_by commands next) c (calls_of (c + 1) (drop behind commands))
left_by-taken commands next c place behind below same =
    left_by-set commands (slice_set next c place) c behind (subst (λ n. c < n) (sym (length-set next c place)) below)
    ∙ ap (λ left. left_at left c (calls_of (c + 1) (drop behind commands))) (left_by-moved commands next c place below same)

-- no command is left where the next one would stand past all
pub has_none-past : (calls : List Call) → calls ≡ [] → has_none calls ≡ true
has_none-past calls none = ap has_none none

pub has_none-some : (calls others : List Call) (call : Call) → calls ≡ call ∷ others → has_none calls ≡ false
has_none-some calls others call some = ap has_none some

module _ {M : Type 0} where
  -- a player stands for the replay of these parts
  pub playing_of-parts : (commands : List (ℕ × Call)) (player : Player M) (core : Core M) (left : ℕ → List Call) (made : ℕ) (over : Bool)
      → player.state ≡ core → left_by commands player.next.items ≡ left → player.made ≡ made → player.over ≡ over
      → playing_of commands player ≡ record { core = core; left = left; made = made; over = over }
  playing_of-parts commands player core left made over state_is left_is made_is over_is =
      λ i. record { core = state_is i; left = left_is i; made = made_is i; over = over_is i }
