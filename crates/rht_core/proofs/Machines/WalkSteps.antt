-- Each operation of a walk keeps what others rely on: it opens its read section, loads words, and closes it. Its answer isn't about
-- bindings, so here it is only one of its kind.
use Rattle.std.proofs.Common.{◌≡◌, ℕ, ◌+◌, ◌<◌, nat_lt, nat_le, List, length, Option, Some, None, false, refl, inl, inr}
use Rattle.std.specs.Prelude.{◌==◌}
use Rattle.std.proofs.lemmas.Bool.{cond_both}
use Rattle.rht_words.specs.declared.env.Env.{Env}
use Rattle.rht_words.specs.declared.geometry.Geometry.{Geometry}
use Rattle.rht_words.specs.declared.machine.Next.{Next}
use Rattle.rht_words.specs.declared.machine.Next.TheVariants.{Go, Done}
use Rattle.rht_words.specs.declared.op.Op.{Op}
use Rattle.rht_words.specs.Held as held
use Rattle.rht_words.specs.Links.{node_of, slot_of, head_of, marker_of}
use Rattle.rht_words.specs.Operations.{old_of, word_after}
use Rattle.rht_words.specs.Places.{words_in}
use Rattle.rht_words.specs.Shapes.{unpacked, size_of}
use Rattle.rht_words.proofs.Memory.{Memory}
use Rattle.rht_nest.specs.Place.{PlaceModel, place_after}
use Rattle.rht_nest.specs.Tables.{is_nested}
use Rattle.rht_nest.specs.declared.place.Bucket.{Bucket}
use Rattle.rht_nest.specs.declared.place.Bucket.TheVariants as buckets
use Rattle.rht_model.specs.declared.history.Call.{Call}
use Rattle.rht_model.specs.declared.history.Call.TheVariants as calls
use Rattle.rht_model.specs.declared.history.Cursor.{Cursor}
use Rattle.rht_model.specs.declared.history.Reply.{Reply}
use Rattle.rht_model.specs.Answers.{plain}
use Rattle.rht_model.specs.Replies.{takes_out}
use Rattle.rht_walk.specs.Walk.{Pairs, plan_at, visiting, fits, begun, next_bucket, bucket_ended, reached, chain_ended, led_to, unless_behind, chain_of, one_more, goes, room_after, reply_of}
use Rattle.rht_walk.specs.WalkHeld.{in_section, held_of_walk}
use Rattle.rht_walk.specs.declared.walk.Visit.{Visit}
use Rattle.rht_walk.specs.declared.walk.Chain.{Chain}
use Rattle.rht_walk.specs.declared.walk.WalkEnd.{WalkEnd}
use Rattle.rht_walk.specs.declared.walk.WalkEnd.TheVariants as ends
use Rattle.rht_walk.specs.declared.walk.WalkAt.{WalkAt}
use Rattle.rht_walk.specs.declared.walk.WalkAt.TheVariants as at
use Rattle.rht_core.specs.Jobs.{walk_gone}
use Rattle.rht_ghost.proofs.Theory.Ghosts.{Ghost}
use Rattle.rht_ghost.proofs.Theory.Wholes.{Whole}
use Rattle.rht_ghost.proofs.Theory.Knowledge.{Knowing}
use Rattle.rht_ghost.proofs.Theory.Knowns.{known_nothing}
use Rattle.rht_ghost.proofs.Theory.Answering.{IsRight}
use Rattle.rht_ghost.proofs.Theory.Steps.{Holding, mem, Step, answered, reads, still_has}
use Rattle.rht_ghost.proofs.Pieces.OwnSections.{OpensNone, open_step, close_step}

-- ---- states behind the opening

-- a walk in this state has opened its section
abbrev pub HasOpened : WalkAt → Type 0
HasOpened at.Opening = ⊥
HasOpened at.CurrentTable = Unit {0}
HasOpened (at.Serial table) = Unit {0}
HasOpened (at.Shape table serial) = Unit {0}
HasOpened (at.Entry visit way) = Unit {0}
HasOpened (at.Heading visit place) = Unit {0}
HasOpened (at.Key chain node) = Unit {0}
HasOpened (at.Owner chain node port) = Unit {0}
HasOpened (at.Link chain node) = Unit {0}
HasOpened (at.StrangeEnd visit) = Unit {0}
HasOpened (at.TableEnd table) = Unit {0}
HasOpened (at.Closing end) = Unit {0}

module _ (g : Geometry) (from : Option Cursor) (limit shown : ℕ) where
  visiting-opened : (visit : Visit) → HasOpened (visiting g visit)
  visiting-opened visit = cond_both (is_nested visit.shape) _ _ HasOpened (λ t. tt) (λ f. tt)

  begun-opened : (start : Option Cursor) (table serial shape : ℕ) → HasOpened (begun g start table serial shape)
  begun-opened None table serial shape = visiting-opened _
  begun-opened (Some cursor) table serial shape =
      cond_both (fits serial shape cursor) _ _ HasOpened (λ t. visiting-opened _) (λ f. tt)

  next_bucket-opened : (visit : Visit) → HasOpened (next_bucket g limit shown visit)
  next_bucket-opened visit = cond_both (nat_le limit shown) _ _ HasOpened (λ t. tt) (λ f. visiting-opened visit)

  bucket_ended-opened : (visit : Visit) → HasOpened (bucket_ended g limit shown visit)
  bucket_ended-opened visit =
      cond_both (nat_lt (visit.bucket + 1) (size_of (unpacked visit.shape))) _ _ HasOpened (λ t. next_bucket-opened _) (λ f. tt)

  reached-opened : (visit : Visit) (way : PlaceModel) (next : Next Bucket) → HasOpened (reached g limit shown visit way next)
  reached-opened visit way Go = tt
  reached-opened visit way (Done (buckets.At place)) = tt
  reached-opened visit way (Done (buckets.Absent entry)) = bucket_ended-opened visit

  chain_ended-opened : (chain : Chain) (link : ℕ) → HasOpened (chain_ended g limit shown chain link)
  chain_ended-opened chain link =
      cond_both (link == marker_of chain.place) _ _ HasOpened (λ t. bucket_ended-opened chain.visit) (λ f. tt)

  led_to-opened : (chain : Chain) (link : ℕ) (node : Option ℕ) → HasOpened (led_to g limit shown chain link node)
  led_to-opened chain link None = chain_ended-opened chain link
  led_to-opened chain link (Some node) =
      cond_both (nat_lt chain.visited g.nodes) _ _ HasOpened (λ t. tt) (λ f. chain_ended-opened chain link)

  unless_behind-opened : (future : Option ℕ) (next : WalkAt) → HasOpened next → HasOpened (unless_behind future next)
  unless_behind-opened None next opened = opened
  unless_behind-opened (Some table) next opened = tt

  -- so it is behind each operation
  pub goes-opened : (state : WalkAt) (word : ℕ) → HasOpened (goes g from limit shown state word)
  goes-opened (at.Shape table serial) word = begun-opened from table serial word
  goes-opened (at.Entry visit way) word = reached-opened visit (place_after way word).0 (place_after way word).1
  goes-opened (at.Heading visit place) word = led_to-opened (chain_of visit place) (head_of place word) (node_of g.nodes (head_of place word))
  goes-opened (at.Link chain node) word = led_to-opened (one_more chain) word (node_of g.nodes word)
  goes-opened (at.StrangeEnd visit) word =
      unless_behind-opened (slot_of word) (bucket_ended g limit shown visit) (bucket_ended-opened visit)
  goes-opened (at.TableEnd table) word = unless_behind-opened (slot_of word) (at.Closing (ends.Walked None)) tt
  goes-opened _ word = tt

-- ---- each operation

module _ (env : Env) (mix : ℕ → ℕ → ℕ → ℕ) (c : ℕ) (from : Option Cursor) (limit : ℕ) where
  abbrev call : Call
  call = calls.Walk from limit

  -- what it holds in a state with these pairs kept, of which nothing else is known here
  abbrev pub WalkKnows : Pairs → WalkAt → Memory → Ghost → Type 0
  WalkKnows room state M G = Knowing env mix c (held_of_walk room state) known_nothing M G

  -- what it holds and knows after an operation
  abbrev pub walk_holds : Pairs → WalkAt × Next Reply → Holding
  walk_holds room (state, Go) = held_of_walk room state
  walk_holds room (state, Done reply) = held.ended_with (plain reply)

  abbrev pub WalkNext : Pairs → WalkAt × Next Reply → Memory → Ghost → Type 0
  WalkNext room r M G = Knowing env mix c (walk_holds room r) known_nothing M G

  -- ---- its answer

  walk_right : (room : Pairs) (end : WalkEnd) → IsRight call None (plain (reply_of room end))
  walk_right room (ends.Walked next) = record { replied = record { reply = tt; owners = refl }; tells = refl }
  walk_right room (ends.Again table) = record { replied = record { reply = tt; owners = refl }; tells = refl }

  walk_takes_none : (room : Pairs) (end : WalkEnd) → takes_out (reply_of room end) ≡ false
  walk_takes_none room (ends.Walked next) = refl
  walk_takes_none room (ends.Again table) = refl

  module _ (words : List ℕ) (G : Ghost) (all : length words ≡ words_in env.geometry)
      (whole : Whole env mix (mem env mix words) G) (low : c < env.geometry.callers) where
    abbrev M : Memory
    M = mem env mix words

    -- what an operation leads to from a state
    abbrev pub WalkMoved : Pairs → WalkAt → Pairs → WalkAt × Next Reply → Type 0
    WalkMoved room state after r =
        Step env mix c call words G (plan_at env.geometry c state) (held_of_walk room state) (walk_holds after r) (WalkNext after r)

    abbrev KnowsInside : Memory → Ghost → Type 0
    KnowsInside M' G' = Knowing env mix c in_section known_nothing M' G'

    -- a load, behind which it stands somewhere behind the opening
    loads_on : (op : Op) → word_after (old_of words op) op ≡ old_of words op → (after : Pairs) (next : WalkAt) → HasOpened next
        → KnowsInside M G
        → Step env mix c call words G op in_section (held_of_walk after next) (WalkKnows after next)
    loads_on op leaves after at.Opening opened knows = absurd opened
    loads_on op leaves after (at.Closing end) opened knows =
        reads env mix whole leaves refl (inr (record {
          learns = record { unknown = refl; answer = plain (reply_of after end); known = refl; said = inr refl };
          right = walk_right after end;
          takes_none = walk_takes_none after end;
        }))
        (record { only = knows.only; means = knows.means })
    loads_on op leaves after _ opened knows = reads env mix whole leaves refl (inl refl) knows

    -- each operation of a walk leads from what it holds to what it holds next
    pub walk_step : (room : Pairs) (state : WalkAt) → OpensNone env c G (plan_at env.geometry c state) (held_of_walk room state)
        → WalkKnows room state M G
        → let old = old_of words (plan_at env.geometry c state) in
        let after = room_after state room old in
        WalkMoved room state after (walk_gone env from limit room after state old)
    walk_step room at.Opening outside knows =
        answered env mix None (inl refl) (still_has refl)
        (open_step env mix c held.holds_nothing known_nothing refl words G all whole low (outside refl refl) knows)
    walk_step room (at.Closing (ends.Walked next)) outside knows =
        let answer = plain (reply_of room (ends.Walked next)) in
        answered env mix (Some answer) (inl (record { reply = refl; owners = refl })) (still_has refl)
        (close_step env mix c (held.ended_with answer) known_nothing refl words G all whole low refl refl knows)
    walk_step room (at.Closing (ends.Again table)) outside knows =
        let answer = plain (reply_of room (ends.Again table)) in
        answered env mix (Some answer) (inl (record { reply = refl; owners = refl })) (still_has refl)
        (close_step env mix c (held.ended_with answer) known_nothing refl words G all whole low refl refl knows)
    walk_step room state outside knows =
        let old = old_of words (plan_at env.geometry c state) in
        loads_on (plan_at env.geometry c state) refl (room_after state room old)
        (goes env.geometry from limit (length room.items) state old) (goes-opened env.geometry from limit (length room.items) state old) knows
