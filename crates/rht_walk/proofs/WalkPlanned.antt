-- On which words a walk works, a case a state: those of slots, nodes, buckets and entries, and the section word of its caller.
use Rattle.std.proofs.Common.{ℕ, ◌<◌, List, [], ◌∷◌, inl, inr, refl, sym, subst, ◌≡◌, arith}
use Rattle.std.specs.List.{AllByRecursion}
use Rattle.rht_words.specs.declared.geometry.Geometry.{Geometry}
use Rattle.rht_words.specs.declared.machine.Next.{Next}
use Rattle.rht_words.specs.declared.machine.Next.TheVariants.{Go, Done}
use Rattle.rht_words.specs.Machines.{Performed, Ran, ran, went_on}
use Rattle.rht_words.specs.Places.{CurrentTable, Slot, ShapeWord, FutureWord, SerialWord, Node, KeyWord, ChainLink, OwnerWord, place_of}
use Rattle.rht_words.specs.Planned.{IsPlannedIn}
use Rattle.rht_words.proofs.PlannedWords.{planned_load, planned_bucket}
use Rattle.rht_nest.specs.Place.{entry_place}
use Rattle.rht_nest.proofs.Places.{planned_place}
use Rattle.rht_grace.proofs.SectionsPlanned.{planned_enter, planned_leave}
use Rattle.rht_model.specs.declared.history.Reply.{Reply}
use Rattle.rht_walk.specs.Walk.{WalkModel, plan_at, walk_plan, walk_after, walk_new, IsWalkAtIn}
use Rattle.rht_walk.specs.WalkLaws.{Shown, with_room, LoadsOnly, WalksWithin}
use Rattle.rht_walk.specs.declared.walk.WalkAt.{WalkAt}
use Rattle.rht_walk.specs.declared.walk.WalkAt.TheVariants as at
use Rattle.rht_walk.proofs.WalkStays.{walk_stays}

pub planned_walk : (g : Geometry) (caller : ℕ) (state : WalkAt) → caller < 16 → IsWalkAtIn g state
    → IsPlannedIn g (plan_at g caller state)
planned_walk g caller at.Opening few within =
    planned_enter g caller (record { caller = caller }) (record { own = refl; within = few })
planned_walk g caller at.CurrentTable few within = planned_load g CurrentTable tt tt
planned_walk g caller (at.Serial table) few within = planned_load g (Slot table SerialWord) (within, tt) tt
planned_walk g caller (at.Shape table serial) few within = planned_load g (Slot table ShapeWord) (within, tt) tt
planned_walk g caller (at.Entry visit way) few within = planned_place g way within.way_in
planned_walk g caller (at.Heading visit place) few within = planned_bucket g _ within.place_in (omega arith)
planned_walk g caller (at.Key chain node) few within = planned_load g (Node node KeyWord) within.node_in tt
planned_walk g caller (at.Owner chain node port) few within = planned_load g (Node node OwnerWord) within.node_in tt
planned_walk g caller (at.Link chain node) few within = planned_load g (Node node ChainLink) within.node_in tt
planned_walk g caller (at.StrangeEnd visit) few within =
    planned_load g (Slot visit.table FutureWord) (within.table_in, tt) tt
planned_walk g caller (at.TableEnd table) few within = planned_load g (Slot table FutureWord) (within, tt) tt
planned_walk g caller (at.Closing end) few within =
    planned_leave g caller (record { caller = caller }) (record { own = refl; within = few })

-- each is a load, but the first and the last one
pub loads_only : LoadsOnly
loads_only g caller at.Opening = inr refl
loads_only g caller at.CurrentTable = inl (place_of g CurrentTable, refl)
loads_only g caller (at.Serial table) = inl (place_of g (Slot table SerialWord), refl)
loads_only g caller (at.Shape table serial) = inl (place_of g (Slot table ShapeWord), refl)
loads_only g caller (at.Entry visit way) = inl (entry_place way, refl)
loads_only g caller (at.Heading visit place) = inl (place, refl)
loads_only g caller (at.Key chain node) = inl (place_of g (Node node KeyWord), refl)
loads_only g caller (at.Owner chain node port) = inl (place_of g (Node node OwnerWord), refl)
loads_only g caller (at.Link chain node) = inl (place_of g (Node node ChainLink), refl)
loads_only g caller (at.StrangeEnd visit) = inl (place_of g (Slot visit.table FutureWord), refl)
loads_only g caller (at.TableEnd table) = inl (place_of g (Slot table FutureWord), refl)
loads_only g caller (at.Closing end) = inr refl

-- ---- a call

-- the walk behind an operation, and what it says
abbrev pub step_of : WalkModel → ℕ → WalkModel × Next Shown
step_of m word = with_room (walk_after m word)

-- it is where its state leads, whether it goes on or has ended
pub with_room-first : (m : WalkModel) (next : Next Reply) → (with_room (m, next)).0 ≡ m
with_room-first m Go = refl
with_room-first m (Done reply) = refl

module _ (P : Performed → Type 0) where
  -- what holds of an operation, and of those behind it, holds of all
  all_steps : {R : Type 0} (step : Performed) (next : Next R) (rest : Ran R) → P step → AllByRecursion P rest.steps
      → AllByRecursion P (went_on step next rest).steps
  all_steps step Go rest here behind = (here, behind)
  all_steps step (Done answer) rest here behind = (here, tt)

within_from : (m : WalkModel) (olds : List ℕ) → m.caller < 16 → IsWalkAtIn m.env.geometry m.at
    → AllByRecursion (λ step. IsPlannedIn m.env.geometry step.op) (ran walk_plan step_of m olds).steps
within_from m [] few within = tt
within_from m (old ∷ olds) few within =
    let g = m.env.geometry in
    let next = (walk_after m old).0 in
    let behind = within_from next olds few (walk_stays g m.from m.limit _ m.at old within) in
    all_steps (λ step. IsPlannedIn g step.op) _ (step_of m old).1 _ (planned_walk g m.caller m.at few within)
    (subst (λ n. AllByRecursion (λ step. IsPlannedIn g step.op) (ran walk_plan step_of n olds).steps)
    (sym (with_room-first next (walk_after m old).1)) behind)

pub walks_within : WalksWithin
walks_within env caller from limit room olds few = within_from (walk_new env caller from limit room) olds few tt
