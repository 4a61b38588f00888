-- What a walk has done when it answers.
--
-- Of each state it is said what the operations before it were (`KeptAt`): the opening, the buckets that were walked, and of the bucket at
-- which it is the entries, the word and the nodes so far. Each operation leads on to what is said of the next state. So it is told of the
-- last one, by induction over the words that are found.
use Rattle.std.proofs.Common.{◌≡◌, ℕ, List, [], ◌∷◌, ◌++◌, length, append_assoc, Option, refl, sym, ◌∙◌, ap, subst, arith}
use Rattle.std.proofs.lemmas.List.{take_all}
use Rattle.rht_words.specs.declared.geometry.Geometry.{Geometry}
use Rattle.rht_words.specs.declared.machine.Next.TheVariants.{Done}
use Rattle.rht_words.specs.Links.{slot_of, node_of, head_of}
use Rattle.rht_words.specs.Machines.{Performed, Ran, ran, went_on}
use Rattle.rht_words.specs.Places.{CurrentTable, Slot, SerialWord}
use Rattle.rht_grace.specs.Sections.{turning}
use Rattle.rht_nest.specs.Place.{place_after}
use Rattle.rht_model.specs.declared.history.Cursor.{Cursor}
use Rattle.rht_walk.specs.Walk.{Pairs, WalkModel, chain_of, one_more, plan_at, goes, says, reply_of, room_after, room_at_end, walk_plan, walk_after, walk_new}
use Rattle.rht_walk.specs.WalkLaws.{Shown, with_room, loaded, first_bucket, opening_steps, EndsRightly, WalksRightly}
use Rattle.rht_walk.specs.declared.walk.WalkEnd.{WalkEnd}
use Rattle.rht_walk.specs.declared.walk.WalkEnd.TheVariants as ends
use Rattle.rht_walk.specs.declared.walk.WalkAt.{WalkAt}
use Rattle.rht_walk.specs.declared.walk.WalkAt.TheVariants as at
use Rattle.rht_walk.proofs.WalkPlanned.{step_of, with_room-first}
use Rattle.rht_walk.proofs.SeenBuckets.{kept_of}
use Rattle.rht_walk.proofs.WalkStates.{AtClosing, KeptAt, led_at}
use Rattle.rht_walk.proofs.WalkSteps.{head_leads, key_leads, owner_leads, link_leads, entry_leads, shape_leads, strange_leads, end_leads}

module _ (g : Geometry) (caller : ℕ) (from : Option Cursor) (limit most : ℕ) where
  abbrev first : ℕ
  first = first_bucket from

  -- what is said of a state is led on to the next one
  leads_on : (steps : List Performed) (room : Pairs) (state : WalkAt) (word : ℕ) → KeptAt g caller from limit most steps room state
      → ((end : WalkEnd) → state ≡ at.Closing end → ⊥)
      → KeptAt g caller from limit most (steps ++ record { op = plan_at g caller state; old = word } ∷ []) (room_after state room word) (goes g from limit (length room.items) state word)
  leads_on steps room at.Opening word here unended =
      record { entered = word; is = ap (λ s. s ++ record { op = turning caller; old = word } ∷ []) here.0; kept = here.1 }
  leads_on steps room at.CurrentTable word here unended = record {
    entered = here.entered;
    current = word;
    table_is = refl;
    is = ap (λ s. s ++ loaded g CurrentTable word ∷ []) here.is;
    kept = here.kept;
  }
  leads_on steps room (at.Serial table) word here unended = record {
    entered = here.entered;
    current = here.current;
    table_is = here.table_is;
    is = ap (λ s. s ++ loaded g (Slot table SerialWord) word ∷ []) here.is
        ∙ ap
        (λ t. record { op = turning caller; old = here.entered }
        ∷ loaded g CurrentTable here.current
        ∷ loaded g (Slot t SerialWord) word
        ∷ []) here.table_is;
    kept = here.kept;
  }
  leads_on steps room (at.Shape table serial) word here unended = shape_leads g caller from limit most steps room from table serial word refl here
  leads_on steps room (at.Entry visit way) word here unended =
      entry_leads g caller from limit most steps room visit way (place_after way word).0 (place_after way word).1 word here refl
  leads_on steps room (at.Heading visit place) word here unended =
      led_at g caller from limit most _ room (chain_of visit place) (head_of place word) (head_leads g caller from limit most steps room visit place word here) (node_of g.nodes (head_of place word)) refl
  leads_on steps room (at.Key chain node) word here unended = key_leads g caller from limit most steps room chain node word here
  leads_on steps room (at.Owner chain node port) word here unended = owner_leads g caller from limit most steps room chain node port word here
  leads_on steps room (at.Link chain node) word here unended =
      led_at g caller from limit most _ room (one_more chain) word (link_leads g caller from limit most steps room chain node word here) (node_of g.nodes word) refl
  leads_on steps room (at.StrangeEnd visit) word here unended = strange_leads g caller from limit most steps room visit word (slot_of word) refl here
  leads_on steps room (at.TableEnd table) word here unended = end_leads g caller from limit most steps room table word (slot_of word) refl here
  leads_on steps room (at.Closing end) word here unended = absurd (unended end refl)

  -- the closing of the section is the last operation
  closes : (steps : List Performed) (room : Pairs) (end : WalkEnd) (word : ℕ) → AtClosing g caller from limit most steps room end
      → EndsRightly g caller from limit most (record { reply = reply_of (room_at_end end room) end; room = room_at_end end room }) (steps ++ record { op = turning caller; old = word } ∷ [])
  closes steps room end word here = record {
    entered = here.entered;
    current = here.current;
    serial = here.serial;
    shape = here.shape;
    left = word;
    middle = here.middle;
    split = ap (λ s. s ++ record { op = turning caller; old = word } ∷ []) here.is
        ∙ append_assoc (opening_steps g caller here.entered here.current here.serial here.shape) here.middle _;
    answers = here.answers;
    room = same end here.room_is;
  }
    where
      same : (end : WalkEnd) → room.limit ≡ most → (room_at_end end room).limit ≡ most
      same (ends.Walked next) is = is
      same (ends.Again table) is = is

  -- an operation, and those behind it
  goes_on : (steps : List Performed) (step : Performed) (rest : Ran Shown) (end : Shown)
      → (rest.next ≡ Done end → EndsRightly g caller from limit most end ((steps ++ step ∷ []) ++ rest.steps))
      → rest.next ≡ Done end
      → EndsRightly g caller from limit most end (steps ++ step ∷ rest.steps)
  goes_on steps step rest end later is =
      subst (λ s. EndsRightly g caller from limit most end s) (append_assoc steps (step ∷ []) rest.steps) (later is)

  by_state : (state : WalkAt) (steps : List Performed) (room : Pairs) (m : WalkModel) (step : Performed) (rest : Ran Shown)
      (end : Shown)
      → (((last : WalkEnd) → state ≡ at.Closing last → ⊥) → rest.next ≡ Done end
      → EndsRightly g caller from limit most end ((steps ++ step ∷ []) ++ rest.steps))
      → ((last : WalkEnd) → state ≡ at.Closing last
      → EndsRightly g caller from limit most (record { reply = reply_of room last; room = m.room }) (steps ++ step ∷ []))
      → (went_on step (with_room (m, says room state)).1 rest).next ≡ Done end
      → EndsRightly g caller from limit most end (steps ++ (went_on step (with_room (m, says room state)).1 rest).steps)
  by_state (at.Closing last) steps room m step rest end later now is =
      let same : record { reply = reply_of room last; room = m.room } ≡ end = cc in
      subst (λ e. EndsRightly g caller from limit most e (steps ++ step ∷ [])) same (now last refl)
  by_state at.Opening steps room m step rest end later now is = goes_on steps step rest end (later (λ last e. absurd (cc))) is
  by_state at.CurrentTable steps room m step rest end later now is = goes_on steps step rest end (later (λ last e. absurd (cc))) is
  by_state (at.Serial table) steps room m step rest end later now is = goes_on steps step rest end (later (λ last e. absurd (cc))) is
  by_state (at.Shape table serial) steps room m step rest end later now is = goes_on steps step rest end (later (λ last e. absurd (cc))) is
  by_state (at.Entry visit way) steps room m step rest end later now is = goes_on steps step rest end (later (λ last e. absurd (cc))) is
  by_state (at.Heading visit place) steps room m step rest end later now is = goes_on steps step rest end (later (λ last e. absurd (cc))) is
  by_state (at.Key chain node) steps room m step rest end later now is = goes_on steps step rest end (later (λ last e. absurd (cc))) is
  by_state (at.Owner chain node port) steps room m step rest end later now is = goes_on steps step rest end (later (λ last e. absurd (cc))) is
  by_state (at.Link chain node) steps room m step rest end later now is = goes_on steps step rest end (later (λ last e. absurd (cc))) is
  by_state (at.StrangeEnd visit) steps room m step rest end later now is = goes_on steps step rest end (later (λ last e. absurd (cc))) is
  by_state (at.TableEnd table) steps room m step rest end later now is = goes_on steps step rest end (later (λ last e. absurd (cc))) is

right_from : (olds : List ℕ) (m : WalkModel) (most : ℕ) (steps : List Performed) (end : Shown)
    → KeptAt m.env.geometry m.caller m.from m.limit most steps m.room m.at
    → (ran walk_plan step_of m olds).next ≡ Done end
    → EndsRightly m.env.geometry m.caller m.from m.limit most end (steps ++ (ran walk_plan step_of m olds).steps)
right_from [] m most steps end here is = absurd (cc)
right_from (old ∷ olds) m most steps end here is =
    let g = m.env.geometry in
    let next = (walk_after m old).0 in
    let step : Performed = record { op = walk_plan m; old = old } in
    by_state g m.caller m.from m.limit most m.at steps next.room next step (ran walk_plan step_of (step_of m old).0 olds) end
    (λ unended done.
    subst (λ n. EndsRightly g m.caller m.from m.limit most end ((steps ++ step ∷ []) ++ (ran walk_plan step_of n olds).steps))
    (sym (with_room-first next (walk_after m old).1))
    (right_from olds next most (steps ++ step ∷ []) end
    (leads_on g m.caller m.from m.limit most steps m.room m.at old here unended)
    (subst (λ n. (ran walk_plan step_of n olds).next ≡ Done end) (with_room-first next (walk_after m old).1) done)))
    (λ last state_is. closing m.at last state_is here)
    is
  where
    closing : (state : WalkAt) (last : WalkEnd) → state ≡ at.Closing last
        → KeptAt m.env.geometry m.caller m.from m.limit most steps m.room state
        → EndsRightly m.env.geometry m.caller m.from m.limit most
        (record { reply = reply_of (room_after state m.room old) last; room = room_after state m.room old })
        (steps ++ record { op = plan_at m.env.geometry m.caller state; old = old } ∷ [])
    closing state last is here =
        subst
        (λ s. KeptAt m.env.geometry m.caller m.from m.limit most steps m.room s → EndsRightly m.env.geometry m.caller m.from m.limit most (record { reply = reply_of (room_after s m.room old) last; room = room_after s m.room old }) (steps ++ record { op = plan_at m.env.geometry m.caller s; old = old } ∷ []))
        {x = at.Closing last} (sym is)
        (λ kept. closes m.env.geometry m.caller m.from m.limit most steps m.room last old kept) here

pub walks_rightly : WalksRightly
walks_rightly env caller from limit room olds end is =
    right_from olds (walk_new env caller from limit room) room.limit [] end (refl, nothing room.limit) is
  where
    nothing : (most : ℕ) → ◌≡◌ {A = Pairs} (record { items = []; limit = most }) (kept_of most [])
    nothing most = ap (λ (items : List (ℕ × ℕ)). record { items = items; limit = most }) (sym (take_all most [] (omega arith)))
