-- What an operation of the taking of a node sees, and what it does. The nodes below the one at which the machine stands were
-- seen taken. So where no node is left, all were.
--
-- The machine goes through the nodes in rising order. A node's bit is seen clear by a load of its word, or by an And
-- that was to clear another bit of it or the node's own. The last of these finds it clear where another caller took the
-- node after the load.
--
-- What an operation sees (`take_after-from`) and what it does (`take_after-did`) are shown of any operation of the
-- machine, by cases on its state. What its answer says of all its operations follows from the two (here, and in
-- `NodesInTurn`).
use Rattle.std.proofs.Common.{◌≡◌, ◌≢◌, ◌⊎◌, ℕ, ◌+◌, ◌-◌, ◌*◌, ◌/◌, ◌%◌, ◌<◌, ◌≤◌, ◌^◌, List, [], ◌∷◌, ◌++◌, Some, None, inl, inr, refl, sym, ap, ◌∙◌, subst, cond, eqb, ltb, arith}
use Rattle.std.proofs.lemmas.Bool.{cases_lt, cases_order, cond_both, eqb-true, eqb-false, ltb-true, ltb-false}
use Rattle.std.proofs.lemmas.Nat.Bits.{bit_at-lt, bit_at_and, bit_at_mask_below}
use Rattle.std.proofs.lemmas.List.Elements.{All-nil, All-push}
use Rattle.std.proofs.lemmas.List.Quantifiers.{Any-push}
use Rattle.std.specs.Prelude.{bit_and, Option}
use Rattle.std.specs.Int.{bit_at}
use Rattle.std.specs.List.{All, Any}
use Rattle.rht_words.specs.declared.machine.Next.{Next}
use Rattle.rht_words.specs.declared.machine.Next.TheVariants.{Go, Done}
use Rattle.rht_words.specs.declared.geometry.Geometry.{Geometry}
use Rattle.rht_words.specs.Maps.{bits_above, lowest_free}
use Rattle.rht_words.specs.Places.{NodeMap, map_words, place_of}
use Rattle.rht_words.specs.Operations.{op_place}
use Rattle.rht_words.specs.Machines.{Performed}
use Rattle.rht_words.proofs.EachElement.{Any-append_left}
use Rattle.rht_words.proofs.BitChanges.{cleared_already}
use Rattle.rht_words.proofs.FreeBits.{lowest_free-None, lowest_free-Some, bit_at-above}
use Rattle.rht_words.proofs.MachineRuns.{performed, kept_to_end}
use Rattle.rht_arena.specs.declared.take_node.TakeNodeAt.{TakeNodeAt}
use Rattle.rht_arena.specs.declared.take_node.TakeNodeAt.TheVariants.{MapWord, Claim}
use Rattle.rht_arena.specs.TakeNode.{TakeNodeModel, IsTakeAtIn, take_node_from, take_node_plan, take_node_after, plan_at, after_at, word_behind, next_word, claim_in}
use Rattle.rht_arena.specs.Laws.{IsLook, SeesTaken, SeesAllTaken, LeavesWord, IsTaking, IsAnsweredBy, AnswersSayWhatWasDone}
use Rattle.rht_arena.proofs.TakenWereFree.{claims}
use Rattle.rht_arena.proofs.TakingStays.{take_after-in}

-- ---- what an operation sees

-- the node at which the machine stands
abbrev pub first_unseen : TakeNodeAt → ℕ
first_unseen (MapWord index) = 64 * index
first_unseen (Claim index bit) = 64 * index + bit

-- an operation that looks at a word of the map and finds a bit clear sees the bit's node taken
sees_taken : (g : Geometry) (step : Performed) (index bit : ℕ) → bit < 64 → IsLook step.op
    → op_place step.op ≡ place_of g (NodeMap index)
    → bit_at step.old bit ≡ 0 → SeesTaken g (64 * index + bit) step
sees_taken g step index bit low looks is clear =
    let word : (64 * index + bit) / 64 ≡ index = omega (arith, low) in
    let place : (64 * index + bit) % 64 ≡ bit = omega (arith, low) in
    record { looks = looks; place = rw word is; taken = rw place clear }

-- and one that finds it set doesn't
sees_free : (g : Geometry) (step : Performed) (index bit : ℕ) → bit < 64 → bit_at step.old bit ≡ 1
    → SeesTaken g (64 * index + bit) step → ⊥
sees_free g step index bit low free sees =
    let place : (64 * index + bit) % 64 ≡ bit = omega (arith, low) in
    let clear : bit_at step.old bit ≡ 0 = subst (λ b. bit_at step.old b ≡ 0) place sees.taken in
    absurd (omega (arith, free, clear))

-- an operation on one word doesn't see the first node of the next one
sees_next_word : (g : Geometry) (step : Performed) (index : ℕ) → op_place step.op ≡ place_of g (NodeMap index)
    → SeesTaken g (64 * (index + 1)) step → ⊥
sees_next_word g step index is sees =
    let word : (64 * (index + 1)) / 64 ≡ index + 1 = omega arith in
    let place : op_place step.op ≡ place_of g (NodeMap (index + 1)) =
    subst (λ w. op_place step.op ≡ place_of g (NodeMap w)) word sees.place in
    absurd (omega (arith, is, place))

-- who sees all up to an end, and not this node, has its end at this node or below
pub ends_before : (g : Geometry) (first node end : ℕ) (step : Performed) → first ≤ node
    → (SeesTaken g node step → ⊥)
    → SeesAllTaken g first end step → end ≤ node
ends_before g first node end step within free sees = elim (cases_lt node end) [
  | inl below ↦ absurd (free (sees node within below))
  | inr past ↦ past
]

-- from this node on the operation sees the nodes taken up to that one, and no further
pub record SeesUpTo (g : Geometry) (first end : ℕ) (step : Performed) : Type 0 where
  pub seen : SeesAllTaken g first end step
  pub no_more : (further : ℕ) → SeesAllTaken g first further step → further ≤ end

-- both nodes are before the first one of the word with which the machine began, or both aren't
abbrev pub AreOnOneSide : ℕ → ℕ → ℕ → Type 0
AreOnOneSide start first next =
    (64 * start ≤ first → 64 * start ≤ next) × (first < 64 * start → next < 64 * start)

-- the machine goes on from this node to that one, up to which the operation saw the nodes taken
pub record GoesOn (g : Geometry) (start first : ℕ) (at : TakeNodeAt) (step : Performed) : Type 0 where
  pub sees : SeesUpTo g first (first_unseen at) step
  pub side : AreOnOneSide start first (first_unseen at)

-- it goes on to the first word of the map, and the operation saw the nodes taken up to the last one
pub record GoesRound (g : Geometry) (start first : ℕ) (at : TakeNodeAt) (step : Performed) : Type 0 where
  pub begins : first_unseen at ≡ 0
  pub later : 0 < start
  pub low : 64 * start < g.nodes → 64 * start ≤ first
  pub seen : SeesAllTaken g first g.nodes step

-- it finds none: the operation saw the nodes taken up to the first one of the word with which the machine began; where
-- that is the first node of all, up to the last one
pub record FindsNone (g : Geometry) (start first : ℕ) (step : Performed) : Type 0 where
  pub end : ℕ
  pub seen : SeesAllTaken g first end step
  pub stretch : ((first < 64 * start) × (end ≡ 64 * start)) ⊎ ((start ≡ 0) × (end ≡ g.nodes))

-- where the machine goes on, the operation saw the nodes taken up to its own; where it finds none, all that were left; and
-- where it answers one, none
abbrev pub SawFrom : Geometry → ℕ → Performed → TakeNodeModel × Next (Option ℕ) → Type 0
SawFrom g first step (take, Go) = GoesOn g take.start first take.at step ⊎ GoesRound g take.start first take.at step
SawFrom g first step (take, Done None) = FindsNone g take.start first step
SawFrom g first step (take, Done (Some node)) = (end : ℕ) → SeesAllTaken g first end step → end ≤ first

-- The operation is on this word of the map. From the machine's node on, the bits that it found set are those of `word`.
record LeftOf (take : TakeNodeModel) (step : Performed) (first index word : ℕ) : Type 0 where
  looks : IsLook step.op
  place : op_place step.op ≡ place_of take.geometry (NodeMap index)
  low : 64 * index ≤ first
  high : first < 64 * (index + 1)
  clear : (bit : ℕ) → bit < 64 → first ≤ 64 * index + bit → bit_at word bit ≡ 0 → bit_at step.old bit ≡ 0
  set : (bit : ℕ) → bit < 64 → bit_at word bit ≡ 1 → (first ≤ 64 * index + bit) × (bit_at step.old bit ≡ 1)

module _ (take : TakeNodeModel) (step : Performed) (first index word : ℕ)
    (left : LeftOf take step first index word) where
  abbrev g : Geometry
  g = take.geometry

  -- where all bits of `word` up to one are clear, the operation sees their nodes taken
  sees_word : (until : ℕ) → until ≤ 64 → ((bit : ℕ) → bit < until → bit_at word bit ≡ 0)
      → SeesAllTaken g first (64 * index + until) step
  sees_word until within clear node l high =
      let bit = node - 64 * index in
      let is : 64 * index + bit ≡ node = omega (arith, l, left.low) in
      let low : bit < until = omega (arith, is, high) in
      let of_word : bit < 64 = omega (arith, low, within) in
      let found = left.clear bit of_word (omega (arith, is, l)) (clear bit low) in
      subst (λ n. SeesTaken g n step) is (sees_taken g step index bit of_word left.looks left.place found)

  -- behind the last word of the map all nodes from one on are seen taken
  sees_last : map_words g.nodes ≤ index + 1 → index < map_words g.nodes
      → ((bit : ℕ) → bit < 64 → 64 * index + bit < g.nodes → bit_at word bit ≡ 0)
      → SeesAllTaken g first g.nodes step
  sees_last past range clear =
      let until = g.nodes - 64 * index in
      let end : 64 * index + until ≡ g.nodes = omega (arith, range) in
      subst (λ n. SeesAllTaken g first n step) end
      (sees_word until (omega (arith, past))
      (λ bit low. clear bit (omega (arith, low, past)) (omega (arith, low))))

  -- and so are all of a word that isn't the last one
  sees_whole : index + 1 < map_words g.nodes
      → ((bit : ℕ) → bit < 64 → 64 * index + bit < g.nodes → bit_at word bit ≡ 0)
      → SeesAllTaken g first (64 * (index + 1)) step
  sees_whole here clear =
      let end : 64 * index + 64 ≡ 64 * (index + 1) = omega arith in
      subst (λ n. SeesAllTaken g first n step) end
      (sees_word 64 (omega arith) (λ bit low. clear bit low (omega (arith, low, here))))

  -- so where none is set the machine goes on to the next word, or to the first, or finds none
  next_word-saw : index < map_words g.nodes
      → ((bit : ℕ) → bit < 64 → 64 * index + bit < g.nodes → bit_at word bit ≡ 0)
      → SawFrom g first step (next_word take index)
  next_word-saw range clear =
      let words = map_words g.nodes in
      let after : ℕ → TakeNodeModel × Next (Option ℕ) = λ next.
      cond (eqb next take.start) (take, Done None) (record take { at = MapWord next }, Go) in
      cond_both (ltb (index + 1) words) (index + 1) 0 (λ next. SawFrom g first step (after next))
      (λ more.
      let here : index + 1 < words = ltb-true (index + 1) words more in
      cond_both (eqb (index + 1) take.start) (take, Done None) (record take { at = MapWord (index + 1) }, Go)
      (SawFrom g first step)
      (λ same.
      let is : index + 1 ≡ take.start = eqb-true (index + 1) take.start same in
      record {
        end = 64 * (index + 1);
        seen = sees_whole here clear;
        stretch = inl (omega (arith, is, left.high), omega (arith, is));
      })
      (λ other.
      let apart : index + 1 ≢ take.start = eqb-false (index + 1) take.start other in
      inl (record {
        sees = record {
          seen = sees_whole here clear;
          no_more = λ further.
              ends_before g first (64 * (index + 1)) further step (omega (arith, left.high))
              (sees_next_word g step index left.place);
        };
        side = (
          λ behind. omega (arith, behind, left.high),
          λ before. omega (arith, before, left.low, apart),
        );
      })))
      (λ last.
      let past : words ≤ index + 1 = ltb-false (index + 1) words last in
      cond_both (eqb 0 take.start) (take, Done None) (record take { at = MapWord 0 }, Go)
      (SawFrom g first step)
      (λ same.
      let is : 0 ≡ take.start = eqb-true 0 take.start same in
      record { end = g.nodes; seen = sees_last past range clear; stretch = inr (sym is, refl) })
      (λ other.
      let apart : 0 ≢ take.start = eqb-false 0 take.start other in
      inr (record {
        begins = omega arith;
        later = omega (arith, apart);
        low = λ some. omega (arith, some, past, left.low);
        seen = sees_last past range clear;
      })))

  -- and otherwise it goes on from the lowest bit that is set
  claim_in-saw : index < map_words g.nodes → (lowest : Option ℕ) → lowest_free g.nodes index word ≡ lowest
      → SawFrom g first step (claim_in take index lowest)
  claim_in-saw range (Some bit) is =
      let lowest = lowest_free-Some g.nodes index word bit is in
      let low = lowest.within.within in
      let set = left.set bit low lowest.set in
      inl (record {
        sees = record {
          seen = sees_word bit (omega (arith, low)) lowest.below;
          no_more = λ further.
              ends_before g first (64 * index + bit) further step set.0 (sees_free g step index bit low set.1);
        };
        side = (
          λ behind. omega (arith, behind, left.high),
          λ before. omega (arith, before, left.low, low),
        );
      })
  claim_in-saw range None is = next_word-saw range (lowest_free-None g.nodes index word is).clear

-- each operation sees the nodes from the one at which the machine stands up to the next, and no further
pub take_after-from : (take : TakeNodeModel) (state : TakeNodeAt) (step : Performed)
    → step.op ≡ plan_at take.geometry state → IsTakeAtIn take.geometry state
    → SawFrom take.geometry (first_unseen state) step (after_at take state step.old)
take_after-from take (MapWord index) step is range =
    claim_in-saw take step (64 * index) index step.old
    record {
      looks = subst IsLook (sym is) tt;
      place = ap op_place is;
      low = omega arith;
      high = omega arith;
      clear = λ bit low l clear. clear;
      set = λ bit low set. (omega arith, set);
    }
    range (lowest_free take.geometry.nodes index step.old) refl
take_after-from take (Claim index bit) step is range =
    let g = take.geometry in
    let above = bit_and step.old (bits_above bit) in
    cond_both (eqb (bit_at step.old bit) 1) _ _ (SawFrom g (64 * index + bit) step)
    (λ set end sees.
    let free = sees_free g step index bit range.within (eqb-true (bit_at step.old bit) 1 set) in
    let stands = 64 * index + bit in
    ends_before g stands stands end step (omega arith) free sees)
    (λ other.
    let clear : bit_at step.old bit ≡ 0 =
    omega (arith, eqb-false (bit_at step.old bit) 1 other, bit_at-lt step.old bit) in
    claim_in-saw take step (64 * index + bit) index above
    record {
      looks = subst IsLook (sym is) tt;
      place = ap op_place is;
      low = omega arith;
      high = omega (arith, range.within);
      clear = λ place low l is_clear. elim (cases_order place bit) [
        | inl at ↦ rw at clear
        | inr (inl earlier) ↦ absurd (omega (arith, earlier, l))
        | inr (inr later) ↦ sym (bit_at-above step.old bit place later low) ∙ is_clear
      ];
      set = λ place low set. elim (cases_lt bit place) [
        | inl later ↦ (omega (arith, later), sym (bit_at-above step.old bit place later low) ∙ set)
        | inr earlier ↦
            let masked = bit_at_mask_below (bit + 1) 64 place (omega (arith, earlier)) in
            absurd (omega (arith, bit_at_and step.old (bits_above bit) place, masked, set))
      ];
    }
    (omega (arith, range.below)) (lowest_free g.nodes index above) refl)

-- ---- what the operations so far have seen

-- each node below this one was seen taken by one of these operations
abbrev pub SawAllBelow : Geometry → ℕ → List Performed → Type 0
SawAllBelow g bound steps = (node : ℕ) → node < bound → Any (SeesTaken g node) steps

-- what was seen stays seen
pub SawAllBelow-push : (g : Geometry) (bound : ℕ) (steps : List Performed) (step : Performed)
    → SawAllBelow g bound steps
    → SawAllBelow g bound (steps ++ step ∷ [])
SawAllBelow-push g bound steps step saw node l = Any-append_left (SeesTaken g node) steps (step ∷ [])
    (saw node l)

-- who began with this word and stands at this node has come past that one: he is behind it, and it is no node before that
-- word; or he has come round, and it is one that isn't before that word, or one behind which he is
abbrev pub HasPassed : ℕ → ℕ → ℕ → Type 0
HasPassed start first node =
    ((64 * start ≤ node) × (node < first)) ⊎ ((first < 64 * start) × ((64 * start ≤ node) ⊎ (node < first)))

-- each node that he has come past was seen taken by one of these operations
abbrev pub SawPassed : Geometry → ℕ → ℕ → List Performed → Type 0
SawPassed g start first steps =
    (node : ℕ) → node < g.nodes → HasPassed start first node → Any (SeesTaken g node) steps

-- who stands at the first node of the word with which he began has passed none
pub SawPassed-none : (g : Geometry) (start : ℕ) → SawPassed g start (64 * start) []
SawPassed-none g start node high passed = elim passed [
  | inl here ↦ absurd (omega (arith, here.0, here.1))
  | inr round ↦ absurd (omega (arith, round.0))
]

-- where the machine goes on the nodes that it has come past were seen, and where it finds none all were
abbrev pub SawSoFar : Geometry → List Performed → TakeNodeModel × Next (Option ℕ) → Type 0
SawSoFar g steps (take, Go) = SawPassed g take.start (first_unseen take.at) steps
SawSoFar g steps (take, Done None) = SawAllBelow g g.nodes steps
SawSoFar g steps (take, Done (Some node)) = Unit {0}

-- One more operation sees further. A node that the machine comes past was passed before or is seen now.
module _ (g : Geometry) (start first : ℕ) (steps : List Performed) (step : Performed)
    (saw : SawPassed g start first steps) where
  -- what was passed before
  before : (node : ℕ) → node < g.nodes → HasPassed start first node → Any (SeesTaken g node) (steps ++ step ∷ [])
  before node high passed = Any-append_left (SeesTaken g node) steps (step ∷ []) (saw node high passed)

  -- and what is seen now
  now : (node : ℕ) → SeesTaken g node step → Any (SeesTaken g node) (steps ++ step ∷ [])
  now node sees = Any-push (SeesTaken g node) steps step sees

  -- up to an end behind the node at which it stood
  further : (end node : ℕ) → node < g.nodes → SeesAllTaken g first end step → node < end
      → (node < first → HasPassed start first node) → Any (SeesTaken g node) (steps ++ step ∷ [])
  further end node high sees low passed = elim (cases_lt node first) [
    | inl earlier ↦ before node high (passed earlier)
    | inr later ↦ now node (sees node later low)
  ]

  sees_on : (at : TakeNodeAt) → GoesOn g start first at step → SawPassed g start (first_unseen at) (steps ++ step ∷ [])
  sees_on at goes node high passed =
      let came_round : first_unseen at < 64 * start → first < 64 * start = λ round.
      elim (cases_lt first (64 * start)) [
        | inl is ↦ is
        | inr not ↦ absurd (omega (arith, round, goes.side.0 not))
      ] in
      elim passed [
        | inl here ↦ further (first_unseen at) node high goes.sees.seen here.1 (λ l. inl (here.0, l))
        | inr (round, inl behind) ↦ before node high (inr (came_round round, inl behind))
        | inr (round, inr low) ↦
            further (first_unseen at) node high goes.sees.seen low (λ l. inr (came_round round, inr l))
      ]

  sees_round : (at : TakeNodeAt) → GoesRound g start first at step
      → SawPassed g start (first_unseen at) (steps ++ step ∷ [])
  sees_round at goes node high passed = elim passed [
    | inl here ↦ absurd (omega (arith, here.1, goes.begins))
    | inr (round, inl behind) ↦ further g.nodes node high goes.seen high (λ l. inl (behind, l))
    | inr (round, inr low) ↦ absurd (omega (arith, low, goes.begins))
  ]

  sees_rest : FindsNone g start first step → SawAllBelow g g.nodes (steps ++ step ∷ [])
  sees_rest finds node high = elim finds.stretch [
    | inl (low, end) ↦ elim (cases_lt node (64 * start)) [
      | inl below ↦ further finds.end node high finds.seen (omega (arith, end, below)) (λ l. inr (low, inr l))
      | inr behind ↦ before node high (inr (low, inl behind))
    ]
    | inr (zero, end) ↦
        further finds.end node high finds.seen (omega (arith, end, high)) (λ l. inl (omega (arith, zero), l))
  ]

SawFrom-so_far : (g : Geometry) (first : ℕ) (steps : List Performed) (step : Performed)
    (next : TakeNodeModel × Next (Option ℕ))
    → SawPassed g next.0.start first steps → SawFrom g first step next → SawSoFar g (steps ++ step ∷ []) next
SawFrom-so_far g first steps step (take, Go) saw from = elim from [
  | inl goes ↦ sees_on g take.start first steps step saw take.at goes
  | inr goes ↦ sees_round g take.start first steps step saw take.at goes
]
SawFrom-so_far g first steps step (take, Done None) saw from = sees_rest g take.start first steps step saw from
SawFrom-so_far g first steps step (take, Done (Some node)) saw from = tt

-- no operation changes with which word it began
next_word-start : (take : TakeNodeModel) (index : ℕ) → (next_word take index).0.start ≡ take.start
next_word-start take index =
    cond_both {A = TakeNodeModel × Next (Option ℕ)} (eqb (word_behind take.geometry index) take.start) _ _
    (λ next. next.0.start ≡ take.start) (λ last. refl) (λ more. refl)

claim_in-start : (take : TakeNodeModel) (index : ℕ) (lowest : Option ℕ)
    → (claim_in take index lowest).0.start ≡ take.start
claim_in-start take index None = next_word-start take index
claim_in-start take index (Some bit) = refl

after-start : (take : TakeNodeModel) (state : TakeNodeAt) (old : ℕ) → (after_at take state old).0.start ≡ take.start
after-start take (MapWord index) old = claim_in-start take index (lowest_free take.geometry.nodes index old)
after-start take (Claim index bit) old =
    cond_both {A = TakeNodeModel × Next (Option ℕ)} (eqb (bit_at old bit) 1) _ _
    (λ next. next.0.start ≡ take.start) (λ set. refl)
    (λ other. claim_in-start take index (lowest_free take.geometry.nodes index (bit_and old (bits_above bit))))

-- each operation sees what is between the node at which the machine stands and the next
pub take_after-saw : (take : TakeNodeModel) (state : TakeNodeAt) (steps : List Performed) (step : Performed)
    → step.op ≡ plan_at take.geometry state
    → IsTakeAtIn take.geometry state → SawPassed take.geometry take.start (first_unseen state) steps
    → SawSoFar take.geometry (steps ++ step ∷ []) (after_at take state step.old)
take_after-saw take state steps step is range saw =
    SawFrom-so_far take.geometry (first_unseen state) steps step (after_at take state step.old)
    (subst (λ start. SawPassed take.geometry start (first_unseen state) steps) (sym (after-start take state step.old)) saw)
    (take_after-from take state step is range)

-- ---- what an operation does

-- an operation after which a node is answered took it, and any other leaves its word
abbrev DidBy : Geometry → Performed → Next (Option ℕ) → Type 0
DidBy g step Go = LeavesWord step
DidBy g step (Done None) = LeavesWord step
DidBy g step (Done (Some node)) = IsTaking g node step.old step.op

-- going to another node or to the next word answers no node
claim_in-did : (take : TakeNodeModel) (step : Performed) (index : ℕ) (lowest : Option ℕ) → LeavesWord step
    → DidBy take.geometry step (claim_in take index lowest).1
claim_in-did take step index (Some bit) leaves = leaves
claim_in-did take step index None leaves =
    cond_both {A = TakeNodeModel × Next (Option ℕ)} (eqb (word_behind take.geometry index) take.start) _ _
    (λ next. DidBy take.geometry step next.1) (λ last. leaves) (λ more. leaves)

-- Clearing a bit that is clear leaves the word.
take_after-did : (take : TakeNodeModel) (state : TakeNodeAt) (old : ℕ) → old < 2 ^ 64
    → IsTakeAtIn take.geometry state
    → DidBy take.geometry (record { op = plan_at take.geometry state; old = old }) (after_at take state old).1
take_after-did take (MapWord index) old small range =
    claim_in-did take (record { op = plan_at take.geometry (MapWord index); old = old }) index
    (lowest_free take.geometry.nodes index old) refl
take_after-did take (Claim index bit) old small range =
    let above = bit_and old (bits_above bit) in
    let step : Performed = record { op = plan_at take.geometry (Claim index bit); old = old } in
    cond_both {A = TakeNodeModel × Next (Option ℕ)} (eqb (bit_at old bit) 1) _ _
    (λ next. DidBy take.geometry step next.1)
    (λ set. claims take.geometry index bit old range (eqb-true (bit_at old bit) 1 set))
    (λ other.
    let clear : bit_at old bit ≡ 0 = omega (arith, eqb-false (bit_at old bit) 1 other, bit_at-lt old bit) in
    claim_in-did take step index (lowest_free take.geometry.nodes index above)
    (cleared_already old bit range.within small clear))

-- ---- what the answer says

-- The invariant: after these operations the machine stands in range, and has changed no word.
record NoneSoFar (g : Geometry) (steps : List Performed) (m : TakeNodeModel) : Type 0 where
  geometry : m.geometry ≡ g
  in_range : IsTakeAtIn m.geometry m.at
  unchanged : All LeavesWord steps

module _ (g : Geometry) (steps : List Performed) (m : TakeNodeModel) (old : ℕ) (small : old < 2 ^ 64)
    (kept : NoneSoFar g steps m) where
  abbrev step : Performed
  step = performed take_node_plan take_node_after m old

  abbrev left : TakeNodeModel
  left = (take_node_after m old).0

  -- what one more operation has done, by what the machine says after it
  did : (next : Next (Option ℕ)) → (take_node_after m old).1 ≡ next → DidBy m.geometry step next
  did next is = subst (DidBy m.geometry step) is (take_after-did m m.at old small kept.in_range)

  -- the invariant is kept
  goes_on : (take_node_after m old).1 ≡ Go → NoneSoFar g (steps ++ step ∷ []) left
  goes_on is =
      let stays = take_after-in m old kept.in_range in
      record {
        geometry = stays.geometry_same ∙ kept.geometry;
        in_range = stays.range;
        unchanged = All-push LeavesWord steps step kept.unchanged (did Go is);
      }

  -- at the end it gives what the answer says
  answers : (answer : Option ℕ) → (take_node_after m old).1 ≡ Done answer
      → IsAnsweredBy g (steps ++ step ∷ []) answer
  answers None is = All-push LeavesWord steps step kept.unchanged (did (Done None) is)
  answers (Some node) is =
      subst (λ (h : Geometry). IsAnsweredBy h (steps ++ step ∷ []) (Some node)) kept.geometry
      (record {
        before = steps;
        last = step;
        are = refl;
        taking = did (Done (Some node)) is;
        unchanged =
            kept.unchanged;
      })

pub answers_say_what_was_done : AnswersSayWhatWasDone
answers_say_what_was_done g start olds answer within known done =
    kept_to_end take_node_plan take_node_after (λ old. old < 2 ^ 64) (NoneSoFar g) (IsAnsweredBy g)
    (λ steps m old small kept is. goes_on g steps m old small kept is)
    (λ steps m old result small kept is. answers g steps m old small kept result is)
    [] (take_node_from g start) olds answer known
    (record {
      geometry = refl;
      in_range = within;
      unchanged = All-nil
          LeavesWord;
    })
    done
