-- None is answered exactly where each node was seen taken in its turn, from the first one of a word on, and behind the last
-- one from the first.
--
-- By induction over the words that the operations find. Each operation sees the nodes from the one at which the machine
-- stands up to the next one at which it stands, or up to the last one where it goes round, and no further
-- (`take_after-from`). So where it finds none they were seen in turn. And where they are seen in turn the machine stands at
-- the next one that is to be seen, or behind it; so there is no node that it could answer, and none at which it could stand.
use Rattle.std.proofs.Common.{◌≡◌, ◌⊎◌, ℕ, suc, ◌+◌, ◌*◌, ◌<◌, ◌≤◌, List, [], ◌∷◌, ◌++◌, Some, None, inl, inr, refl, sym, ap, subst, cond, eqb, ltb, arith}
use Rattle.std.proofs.lemmas.Bool.{cases_lt, cond_both, eqb-true, eqb-false}
use Rattle.std.specs.Prelude.{Option}
use Rattle.std.specs.List.{Any}
use Rattle.rht_words.specs.declared.machine.Next.{Next}
use Rattle.rht_words.specs.declared.machine.Next.TheVariants.{Go, Done}
use Rattle.rht_words.specs.declared.geometry.Geometry.{Geometry}
use Rattle.rht_words.specs.Places.{map_words}
use Rattle.rht_words.specs.Machines.{Performed, Ran, went_on, ran}
use Rattle.rht_words.proofs.EachElement.{Any-append_left}
use Rattle.rht_words.proofs.MachineRuns.{performed}
use Rattle.rht_arena.specs.declared.take_node.TakeNodeAt.{TakeNodeAt}
use Rattle.rht_arena.specs.declared.take_node.TakeNodeAt.TheVariants.{MapWord, Claim}
use Rattle.rht_arena.specs.TakeNode.{TakeNodeModel, IsTakeAtIn, take_node_from, take_node_plan, take_node_after}
use Rattle.rht_arena.specs.Laws.{SeesTaken, SeesAllTaken, AreSeenInTurn, AreSeenRound, taking_ran, NoneOnlyWhereTaken, NoneWhereTakenInTurn, WordsInOrder}
use Rattle.rht_arena.proofs.NodesSeen.{first_unseen, GoesOn, GoesRound, FindsNone, SawFrom, take_after-from}
use Rattle.rht_arena.proofs.TakingStays.{take_after-in}

-- the machine stands at one of the nodes
first_unseen-in : (g : Geometry) (state : TakeNodeAt) → IsTakeAtIn g state → first_unseen state < g.nodes
first_unseen-in g (MapWord index) range = omega (arith, range)
first_unseen-in g (Claim index bit) range = range.below

-- what comes of a machine
abbrev taken : TakeNodeModel → List ℕ → Ran (Option ℕ)
taken m olds = ran take_node_plan take_node_after m olds

-- who goes through no operation has seen none in its turn
round-nil : (g : Geometry) (next until : ℕ) → AreSeenRound g next until [] → g.nodes ≤ next
round-nil g next until round = go round.front round.are round.to_last where
  go : (front : List Performed) → [] ≡ front ++ round.rear → AreSeenInTurn g next g.nodes front → g.nodes ≤ next
  go [] are turn = turn
  go (step ∷ front) are turn = absurd (cc)

-- from a node on, of which there is one, the first operation sees the next ones taken, and the others those behind
record AndRound (g : Geometry) (next until : ℕ) (step : Performed) (steps : List Performed) : Type 0 where
  end : ℕ
  sees : SeesAllTaken g next end step
  behind : AreSeenRound g end until steps

round-cons : (g : Geometry) (next until : ℕ) (step : Performed) (steps : List Performed) → next < g.nodes
    → AreSeenRound g next until (step ∷ steps) → AndRound g next until step steps
round-cons g next until step steps some round = go round.front round.are round.to_last where
  go : (front : List Performed) → step ∷ steps ≡ front ++ round.rear → AreSeenInTurn g next g.nodes front
      → AndRound g next until step steps
  go [] are turn = absurd (omega (arith, turn, some))
  go (first ∷ front) are turn =
      let same : first ≡ step = cc in
      record {
        end = turn.end;
        sees = subst (SeesAllTaken g next turn.end) same turn.sees;
        behind = record {
          front = front;
          rear = round.rear;
          are = cc;
          to_last = turn.behind;
          from_first = round.from_first;
        };
      }

-- operations that see none in their turn can stand before others
in_turn-behind : (g : Geometry) (next until : ℕ) (front rear : List Performed) → AreSeenInTurn g next until rear
    → AreSeenInTurn g next until (front ++ rear)
in_turn-behind g next until [] rear turn = turn
in_turn-behind g next until (step ∷ front) rear turn = record {
  end = next;
  rises = omega arith;
  sees = λ node low high. absurd (omega (arith, low, high));
  behind = in_turn-behind g next until front rear turn;
}

-- of a machine that stands at this node: where it hasn't come round, all are seen from that node on; and where it has,
-- those before the word with which it began
abbrev TurnsFrom : Geometry → ℕ → ℕ → ℕ → List Performed → Type 0
TurnsFrom g start at next steps =
    ((64 * start ≤ at) × AreSeenRound g next (64 * start) steps)
    ⊎ ((at < 64 * start) × AreSeenInTurn g next (64 * start) steps)

-- the machine that goes on began with a word of the map too
left_begun : (m : TakeNodeModel) (old : ℕ) → IsTakeAtIn m.geometry m.at → m.start < map_words m.geometry.nodes
    → (take_node_after m old).0.start < map_words (take_node_after m old).0.geometry.nodes
left_begun m old range begun =
    let stays = take_after-in m old range in
    subst (λ start. start < map_words (take_node_after m old).0.geometry.nodes) (sym stays.start_same)
    (subst (λ (h : Geometry). m.start < map_words h.nodes) (sym stays.geometry_same) begun)

module _ (m : TakeNodeModel) (old : ℕ) (rest : Ran (Option ℕ)) (range : IsTakeAtIn m.geometry m.at)
    (begun : m.start < map_words m.geometry.nodes) where
  abbrev g : Geometry
  g = m.geometry

  abbrev at : ℕ
  at = first_unseen m.at

  abbrev step : Performed
  step = performed take_node_plan take_node_after m old

  abbrev left : TakeNodeModel
  left = (take_node_after m old).0

  abbrev start_same : left.start ≡ m.start
  start_same = (take_after-in m old range).start_same

  -- what its first operation sees
  saw : (next : Next (Option ℕ)) → (take_node_after m old).1 ≡ next → SawFrom g at step (left, next)
  saw next is = subst (λ n. SawFrom g at step (left, n)) is (take_after-from m m.at step refl range)

  saw_on : (take_node_after m old).1 ≡ Go
      → GoesOn g m.start at left.at step ⊎ GoesRound g m.start at left.at step
  saw_on is = subst (λ start. GoesOn g start at left.at step ⊎ GoesRound g start at left.at step) start_same (saw Go is)

  saw_none : (take_node_after m old).1 ≡ Done None → FindsNone g m.start at step
  saw_none is = subst (λ start. FindsNone g start at step) start_same (saw (Done None) is)

  -- where it goes on and finds none later, they are seen in turn
  on_in_turn : GoesOn g m.start at left.at step
      → TurnsFrom g m.start (first_unseen left.at) (first_unseen left.at) rest.steps
      → TurnsFrom g m.start at at (step ∷ rest.steps)
  on_in_turn goes later =
      let end = first_unseen left.at in
      let rises : at ≤ end = goes.sees.no_more at (λ node l low. absurd (omega (arith, l, low))) in
      elim later [
        | inl (low, round) ↦ elim (cases_lt at (64 * m.start)) [
          | inl before ↦ absurd (omega (arith, low, goes.side.1 before))
          | inr behind ↦ inl (
            behind,
            record {
              front = step ∷ round.front;
              rear = round.rear;
              are = ap (λ l. step ∷ l) round.are;
              to_last = record { end = end; rises = rises; sees = goes.sees.seen; behind = round.to_last };
              from_first = round.from_first;
            },
          )
        ]
        | inr (low, turn) ↦ inr (
          omega (arith, low, rises),
          record { end = end; rises = rises; sees = goes.sees.seen; behind = turn },
        )
      ]

  round_in_turn : GoesRound g m.start at left.at step
      → TurnsFrom g m.start (first_unseen left.at) (first_unseen left.at) rest.steps
      → TurnsFrom g m.start at at (step ∷ rest.steps)
  round_in_turn goes later = elim later [
    | inl (low, round) ↦ absurd (omega (arith, low, goes.begins, goes.later))
    | inr (low, turn) ↦
        let inside : at < g.nodes = first_unseen-in g m.at range in
        inl (
          goes.low (omega (arith, begun)),
          record {
            front = step ∷ [];
            rear = rest.steps;
            are = refl;
            to_last = record { end = g.nodes; rises = omega (arith, inside); sees = goes.seen; behind = omega arith };
            from_first = subst (λ n. AreSeenInTurn g n (64 * m.start) rest.steps) goes.begins turn;
          },
        )
  ]

  none_in_turn : FindsNone g m.start at step → TurnsFrom g m.start at at (step ∷ [])
  none_in_turn finds =
      let inside : at < g.nodes = first_unseen-in g m.at range in
      elim finds.stretch [
        | inl (low, end) ↦ inr (
          low,
          record {
            end = finds.end;
            rises = omega (arith, low, end);
            sees = finds.seen;
            behind = omega (arith, end);
          },
        )
        | inr (zero, end) ↦ inl (
          omega (arith, zero),
          record {
            front = step ∷ [];
            rear = [];
            are = refl;
            to_last = record {
              end = finds.end;
              rises = omega (arith, inside, end);
              sees = finds.seen;
              behind = omega (arith, end);
            };
            from_first = omega (arith, zero);
          },
        )
      ]

  -- where it finds none, then or later, they are seen in turn
  in_turn : (next : Next (Option ℕ)) → (take_node_after m old).1 ≡ next
      → (rest.next ≡ Done None → TurnsFrom g m.start (first_unseen left.at) (first_unseen left.at) rest.steps)
      → (went_on step next rest).next ≡ Done None
      → TurnsFrom g m.start at at (went_on step next rest).steps
  in_turn Go is later none = elim (saw_on is) [
    | inl goes ↦ on_in_turn goes (later none)
    | inr goes ↦ round_in_turn goes (later none)
  ]
  in_turn (Done None) is later none = none_in_turn (saw_none is)
  in_turn (Done (Some node)) is later none = absurd (cc)

  -- where the nodes from one on are seen in turn, at which it stands or which is below, it finds none
  on_finds_none : GoesOn g m.start at left.at step
      → ((first : ℕ) → first ≤ first_unseen left.at → TurnsFrom g m.start (first_unseen left.at) first rest.steps
      → rest.next ≡ Done None)
      → (first : ℕ) → first ≤ at → TurnsFrom g m.start at first (step ∷ rest.steps)
      → rest.next ≡ Done None
  on_finds_none goes later first low turns =
      let inside : at < g.nodes = first_unseen-in g m.at range in
      elim turns [
        | inl (behind, round) ↦
            let then = round-cons g first (64 * m.start) step rest.steps (omega (arith, low, inside)) round in
            later then.end (goes.sees.no_more then.end (λ node l. then.sees node (omega (arith, low, l))))
            (inl (goes.side.0 behind, then.behind))
        | inr (before, turn) ↦
            later turn.end (goes.sees.no_more turn.end (λ node l. turn.sees node (omega (arith, low, l))))
            (inr (goes.side.1 before, turn.behind))
      ]

  round_finds_none : GoesRound g m.start at left.at step
      → ((first : ℕ) → first ≤ first_unseen left.at → TurnsFrom g m.start (first_unseen left.at) first rest.steps
      → rest.next ≡ Done None)
      → (first : ℕ) → first ≤ at → TurnsFrom g m.start at first (step ∷ rest.steps)
      → rest.next ≡ Done None
  round_finds_none goes later first low turns =
      let inside : at < g.nodes = first_unseen-in g m.at range in
      let behind : 64 * m.start ≤ at = goes.low (omega (arith, begun)) in
      elim turns [
        | inl (same, round) ↦
            let then = round-cons g first (64 * m.start) step rest.steps (omega (arith, low, inside)) round in
            let turn : AreSeenInTurn g 0 (64 * m.start) rest.steps =
            subst (AreSeenInTurn g 0 (64 * m.start)) (sym then.behind.are)
            (in_turn-behind g 0 (64 * m.start) then.behind.front then.behind.rear then.behind.from_first) in
            later 0 (omega arith) (inr (omega (arith, goes.begins, goes.later), turn))
        | inr (before, turn) ↦ absurd (omega (arith, before, behind))
      ]

  -- and there is no node that it could answer
  answers_no_node : ((end : ℕ) → SeesAllTaken g at end step → end ≤ at) → (first : ℕ) → first ≤ at
      → TurnsFrom g m.start at first (step ∷ []) → ⊥
  answers_no_node short first low turns =
      let inside : at < g.nodes = first_unseen-in g m.at range in
      elim turns [
        | inl (behind, round) ↦
            let then = round-cons g first (64 * m.start) step [] (omega (arith, low, inside)) round in
            let last = round-nil g then.end (64 * m.start) then.behind in
            let end = short then.end (λ node l. then.sees node (omega (arith, low, l))) in
            absurd (omega (arith, last, end, inside))
        | inr (before, turn) ↦
            let end = short turn.end (λ node l. turn.sees node (omega (arith, low, l))) in
            absurd (omega (arith, turn.behind, end, before))
      ]

  finds_none : (next : Next (Option ℕ)) → (take_node_after m old).1 ≡ next
      → ((first : ℕ) → first ≤ first_unseen left.at → TurnsFrom g m.start (first_unseen left.at) first rest.steps
      → rest.next ≡ Done None)
      → (first : ℕ) → first ≤ at → TurnsFrom g m.start at first (went_on step next rest).steps
      → (went_on step next rest).next ≡ Done None
  finds_none Go is later first low turns = elim (saw_on is) [
    | inl goes ↦ on_finds_none goes later first low turns
    | inr goes ↦ round_finds_none goes later first low turns
  ]
  finds_none (Done None) is later first low turns = refl
  finds_none (Done (Some node)) is later first low turns =
      absurd (answers_no_node (saw (Done (Some node)) is) first low turns)

none-in_turn : (m : TakeNodeModel) (olds : List ℕ) → IsTakeAtIn m.geometry m.at
    → m.start < map_words m.geometry.nodes → (taken m olds).next ≡ Done None
    → TurnsFrom m.geometry m.start (first_unseen m.at) (first_unseen m.at) (taken m olds).steps
none-in_turn m [] range begun none = absurd (cc)
none-in_turn m (old ∷ olds) range begun none =
    let stays = take_after-in m old range in
    let left = (take_node_after m old).0 in
    let rest = taken left olds in
    in_turn m old rest range begun (take_node_after m old).1 refl
    (λ later.
    subst (λ start. TurnsFrom m.geometry start (first_unseen left.at) (first_unseen left.at) rest.steps) stays.start_same
    (subst (λ (h : Geometry). TurnsFrom h left.start (first_unseen left.at) (first_unseen left.at) rest.steps)
    stays.geometry_same
    (none-in_turn left olds stays.range (left_begun m old range begun) later)))
    none

in_turn-none : (m : TakeNodeModel) (olds : List ℕ) → IsTakeAtIn m.geometry m.at
    → m.start < map_words m.geometry.nodes
    → (first : ℕ) → first ≤ first_unseen m.at → TurnsFrom m.geometry m.start (first_unseen m.at) first (taken m olds).steps
    → (taken m olds).next ≡ Done None
in_turn-none m [] range begun first low turns =
    let inside = first_unseen-in m.geometry m.at range in
    elim turns [
      | inl (behind, round) ↦
          let last = round-nil m.geometry first (64 * m.start) round in
          absurd (omega (arith, low, last, inside))
      | inr (before, turn) ↦ absurd (omega (arith, low, turn, before))
    ]
in_turn-none m (old ∷ olds) range begun first low turns =
    let stays = take_after-in m old range in
    let left = (take_node_after m old).0 in
    let rest = taken left olds in
    finds_none m old rest range begun (take_node_after m old).1 refl
    (λ end l behind.
    in_turn-none left olds stays.range (left_begun m old range begun) end l
    (subst (λ start. TurnsFrom left.geometry start (first_unseen left.at) end rest.steps) (sym stays.start_same)
    (subst (λ (h : Geometry). TurnsFrom h m.start (first_unseen left.at) end rest.steps) (sym stays.geometry_same) behind)))
    first low turns

-- ---- the laws

pub none_where_taken_in_turn : NoneWhereTakenInTurn
none_where_taken_in_turn g start olds within = (
  λ none. elim (none-in_turn (take_node_from g start) olds within within none) [
    | inl round ↦ round.1
    | inr before ↦ absurd (omega (arith, before.0))
  ],
  λ round. in_turn-none (take_node_from g start) olds within within (64 * start) (omega arith) (inl (omega arith, round)),
)

-- what is so of one behind the first is so of one of all
pub Any-behind : {X : Type 0} (P : X → Type 0) (x : X) (xs : List X) → Any P xs → Any P (x ∷ xs)
Any-behind P x xs (k, y, within, is, holds) = (suc k, y, omega (arith, within), is, holds)

-- nodes that are seen in turn are each seen
in_turn-seen : (g : Geometry) (first until : ℕ) (steps : List Performed) → AreSeenInTurn g first until steps
    → (node : ℕ) → first ≤ node → node < until → Any (SeesTaken g node) steps
in_turn-seen g first until [] turn node low high = absurd (omega (arith, turn, low, high))
in_turn-seen g first until (step ∷ steps) turn node low high = elim (cases_lt node turn.end) [
  | inl here ↦ (0, step, omega arith, refl, turn.sees node low here)
  | inr later ↦ Any-behind (SeesTaken g node) step steps
      (in_turn-seen g turn.end until steps turn.behind node later high)
]

-- what is so of one of these is so of one of more
Any-in_rear : {X : Type 0} (P : X → Type 0) (xs ys : List X) → Any P ys → Any P (xs ++ ys)
Any-in_rear P [] ys some = some
Any-in_rear P (x ∷ xs) ys some = Any-behind P x (xs ++ ys) (Any-in_rear P xs ys some)

round-seen : (g : Geometry) (first : ℕ) (steps : List Performed) → AreSeenRound g first first steps
    → (node : ℕ) → node < g.nodes → Any (SeesTaken g node) steps
round-seen g first steps round node high = subst (Any (SeesTaken g node)) (sym round.are)
    (elim (cases_lt node first) [
      | inl before ↦
          Any-in_rear (SeesTaken g node) round.front round.rear
          (in_turn-seen g 0 first round.rear round.from_first node (omega arith) before)
      | inr behind ↦
          Any-append_left (SeesTaken g node) round.front round.rear
          (in_turn-seen g first g.nodes round.front round.to_last node behind high)
    ])

pub none_only_where_taken : NoneOnlyWhereTaken
none_only_where_taken g start olds within none node high =
    round-seen g (64 * start) (taking_ran g start olds).steps ((none_where_taken_in_turn g start olds within).0 none) node high

-- who began with the first word comes to one word behind the other
pub words_in_order : WordsInOrder
words_in_order m index zero =
    let words = map_words m.geometry.nodes in
    let more : TakeNodeModel × Next (Option ℕ) = (record m { at = MapWord (index + 1) }, Go) in
    let none : TakeNodeModel × Next (Option ℕ) = (m, Done None) in
    let after : ℕ → TakeNodeModel × Next (Option ℕ) = λ next.
    cond (eqb next m.start) none (record m { at = MapWord next }, Go) in
    cond_both (ltb (index + 1) words) (index + 1) 0 (λ next. after next ≡ cond (ltb (index + 1) words) more none)
    (λ on.
    cond_both {A = TakeNodeModel × Next (Option ℕ)} (eqb (index + 1) m.start) none more
    (λ next. next ≡ cond (ltb (index + 1) words) more none)
    (λ same. absurd (omega (arith, zero, eqb-true (index + 1) m.start same)))
    (λ other. rw on refl))
    (λ last.
    cond_both {A = TakeNodeModel × Next (Option ℕ)} (eqb 0 m.start) none (record m { at = MapWord 0 }, Go)
    (λ next. next ≡ cond (ltb (index + 1) words) more none)
    (λ same. rw last refl)
    (λ other. absurd (omega (arith, zero, eqb-false 0 m.start other))))
