-- The words of the node map are looked at one behind the other, from the one with which the machine began on, each once.
--
-- By induction over the words that the operations find. A machine that is to load a word has loaded all those before it in
-- this order, and one that is to claim a node of a word has loaded that word too.
use Rattle.std.proofs.Common.{◌≡◌, ◌≢◌, ◌⊎◌, ℕ, ◌+◌, ◌-◌, ◌*◌, ◌<◌, ◌≤◌, List, [], ◌∷◌, Some, None, inl, inr, refl, sym, ap, ◌∙◌, subst, eqb, ltb, arith}
use Rattle.std.proofs.lemmas.Bool.{cond_both, eqb-true, eqb-false, ltb-true, ltb-false}
use Rattle.std.specs.Prelude.{Option, bit_and}
use Rattle.std.specs.Int.{bit_at}
use Rattle.rht_words.specs.declared.machine.Next.{Next}
use Rattle.rht_words.specs.declared.machine.Next.TheVariants.{Go, Done}
use Rattle.rht_words.specs.declared.geometry.Geometry.{Geometry}
use Rattle.rht_words.specs.Maps.{bits_above, lowest_free}
use Rattle.rht_words.specs.Places.{NodeMap, map_words, place_of}
use Rattle.rht_words.specs.Machines.{Performed, Ran, went_on, ran}
use Rattle.rht_words.proofs.MachineRuns.{performed}
use Rattle.rht_arena.specs.declared.take_node.TakeNodeAt.{TakeNodeAt}
use Rattle.rht_arena.specs.declared.take_node.TakeNodeAt.TheVariants.{MapWord, Claim}
use Rattle.rht_arena.specs.TakeNode.{TakeNodeModel, take_node_from, take_node_plan, take_node_after, plan_at, after_at, word_behind, claim_in, claim_among, IsTakeAtIn}
use Rattle.rht_arena.proofs.TakingStays.{take_after-in}
use Rattle.rht_arena.specs.LookingOnce.{word_turned, LoadsNext, LoadsInOrder, HasLookedOnce, LooksOnce}

-- ---- the order

-- a word that comes behind so many is that of so much above the first, or behind the last one from the first of all on
record Turned (words start count word : ℕ) : Type 0 where
  is : ((start + count < words) × (word ≡ start + count)) ⊎ ((words ≤ start + count) × (word + words ≡ start + count))

turned-is : (words start count : ℕ) → Turned words start count (word_turned words start count)
turned-is words start count =
    cond_both (ltb (start + count) words) (start + count) (start + count - words) (Turned words start count)
    (λ low. record { is = inl (ltb-true (start + count) words low, refl) })
    (λ high.
    let past : words ≤ start + count = ltb-false (start + count) words high in
    record { is = inr (past, omega (arith, past)) })

-- two that are so are one
turned-one : (words start count word other : ℕ) → Turned words start count word → Turned words start count other
    → word ≡ other
turned-one words start count word other one two = elim one.is [
  | inl low ↦ elim two.is [
    | inl low_too ↦ low.1 ∙ sym low_too.1
    | inr high ↦ absurd (omega (arith, low.0, high.0))
  ]
  | inr high ↦ elim two.is [
    | inl low ↦ absurd (omega (arith, low.0, high.0))
    | inr high_too ↦ omega (arith, high.1, high_too.1)
  ]
]

module _ (g : Geometry) (start : ℕ) (within : start < map_words g.nodes) where
  abbrev words : ℕ
  words = map_words g.nodes

  -- the word behind one is the next in this order
  behind-turned : (count word : ℕ) → count < words → Turned words start count word
      → Turned words start (count + 1) (word_behind g word)
  behind-turned count word few is =
      cond_both (ltb (word + 1) words) (word + 1) 0 (Turned words start (count + 1))
      (λ more.
      let here : word + 1 < words = ltb-true (word + 1) words more in
      elim is.is [
        | inl low ↦ record { is = inl (omega (arith, low.1, here), omega (arith, low.1)) }
        | inr high ↦ record { is = inr (omega (arith, high.0), omega (arith, high.1)) }
      ])
      (λ last.
      let past : words ≤ word + 1 = ltb-false (word + 1) words last in
      elim is.is [
        | inl low ↦ record { is = inr (omega (arith, low.1, past), omega (arith, low.0, low.1, past)) }
        | inr high ↦ absurd (omega (arith, few, within, high.1, past))
      ])

  -- it is the one with which the machine began only behind all
  behind-begun : (count word : ℕ) → Turned words start (count + 1) word → word ≡ start → count + 1 ≡ words
  behind-begun count word is same = elim is.is [
    | inl low ↦ absurd (omega (arith, low.1, same))
    | inr high ↦ omega (arith, high.1, same)
  ]

  behind-other : (count word : ℕ) → count < words → Turned words start (count + 1) word → word ≢ start
      → count + 1 < words
  behind-other count word few is other = elim is.is [
    | inl low ↦ omega (arith, low.0)
    | inr high ↦
        let apart : count + 1 ≢ words = λ all. other (omega (arith, high.1, all)) in
        omega (arith, few, apart)
  ]

-- ---- where a machine stands

-- so many words were loaded: it is to load the next one, or to claim a node of the last of them
abbrev StandsBehind : ℕ → ℕ → ℕ → TakeNodeAt → Type 0
StandsBehind words start count (MapWord index) = (count < words) × Turned words start count index
StandsBehind words start count (Claim index bit) =
    (last : ℕ) × (count ≡ last + 1) × (last < words) × Turned words start last index

stands_few : (words start count : ℕ) (state : TakeNodeAt) → StandsBehind words start count state → count ≤ words
stands_few words start count (MapWord index) stands = omega (arith, stands.0)
stands_few words start count (Claim index bit) stands = omega (arith, stands.1, stands.2)

-- so many were loaded once it has made its operation
abbrev with_it : ℕ → TakeNodeAt → ℕ
with_it count (MapWord index) = count + 1
with_it count (Claim index bit) = count

-- it goes on behind these, or finds none behind all
abbrev Leads : ℕ → TakeNodeModel × Next (Option ℕ) → Type 0
Leads count (take, Go) = StandsBehind (map_words take.geometry.nodes) take.start count take.at
Leads count (take, Done None) = count ≡ map_words take.geometry.nodes
Leads count (take, Done (Some node)) = count ≤ map_words take.geometry.nodes

module _ (take : TakeNodeModel) (within : take.start < map_words take.geometry.nodes) where
  abbrev g : Geometry
  g = take.geometry

  abbrev all : ℕ
  all = map_words take.geometry.nodes

  claim_in-leads : (last index : ℕ) → last < all → Turned all take.start last index → (lowest : Option ℕ)
      → Leads (last + 1) (claim_in take index lowest)
  claim_in-leads last index few is (Some bit) = (last, refl, few, is)
  claim_in-leads last index few is None =
      let next : Turned all take.start (last + 1) (word_behind g index) = behind-turned g take.start within last index few is in
      cond_both {A = TakeNodeModel × Next (Option ℕ)} (eqb (word_behind g index) take.start) (take, Done None)
      (record take { at = MapWord (word_behind g index) }, Go) (Leads (last + 1))
      (λ same.
      behind-begun g take.start within last (word_behind g index) next (eqb-true (word_behind g index) take.start same))
      (λ other. (
        behind-other g take.start within last (word_behind g index) few next
            (eqb-false (word_behind g index) take.start other),
        next,
      ))

  after-leads : (count : ℕ) (state : TakeNodeAt) (old : ℕ) → StandsBehind all take.start count state
      → Leads (with_it count state) (after_at take state old)
  after-leads count (MapWord index) old stands =
      claim_in-leads count index stands.0 stands.1 (lowest_free g.nodes index old)
  after-leads count (Claim index bit) old stands =
      cond_both {A = TakeNodeModel × Next (Option ℕ)} (eqb (bit_at old bit) 1) _ _ (Leads count)
      (λ set. omega (arith, stands.1, stands.2))
      (λ other.
      subst (λ n. Leads n (claim_among take index (bit_and old (bits_above bit)))) (sym stands.1)
      (claim_in-leads stands.0 index stands.2 stands.3 (lowest_free g.nodes index (bit_and old (bits_above bit)))))

  -- its operation is a load of the next word, or none
  loads_next : (count : ℕ) (state : TakeNodeAt) → StandsBehind all take.start count state → (Behind : ℕ → Type 0)
      → Behind (with_it count state) → LoadsNext g take.start count (plan_at g state) Behind
  loads_next count (MapWord index) stands Behind behind =
      let same : index ≡ word_turned all take.start count =
      turned-one all take.start count index (word_turned all take.start count) stands.1
      (turned-is all take.start count) in
      (ap (λ i. place_of g (NodeMap i)) same, behind)
  loads_next count (Claim index bit) stands Behind behind = behind

-- ---- what comes of a machine

-- from so many on it loads one word behind the other, and where it finds none it has loaded all
record HasLookedFrom (g : Geometry) (start count : ℕ) (came : Ran (Option ℕ)) : Type 0 where
  loaded : ℕ
  few : loaded ≤ map_words g.nodes
  in_order : LoadsInOrder g start count loaded came.steps
  all : came.next ≡ Done None → loaded ≡ map_words g.nodes

abbrev taken : TakeNodeModel → List ℕ → Ran (Option ℕ)
taken m olds = ran take_node_plan take_node_after m olds

module _ (m : TakeNodeModel) (old : ℕ) (rest : Ran (Option ℕ)) (count : ℕ)
    (within : m.start < map_words m.geometry.nodes)
    (stands : StandsBehind (map_words m.geometry.nodes) m.start count m.at) where
  abbrev step : Performed
  step = performed take_node_plan take_node_after m old

  abbrev left : TakeNodeModel
  left = (take_node_after m old).0

  -- by what its next operation answers
  looked : (next : Next (Option ℕ)) → Leads (with_it count m.at) (left, next)
      → left.geometry ≡ m.geometry
      → (next ≡ Go → HasLookedFrom m.geometry m.start (with_it count m.at) rest)
      → HasLookedFrom m.geometry m.start count (went_on step next rest)
  looked Go leads same later =
      let behind = later refl in
      record {
        loaded = behind.loaded;
        few = behind.few;
        in_order = loads_next m within count m.at stands
            (λ more. LoadsInOrder m.geometry m.start more behind.loaded rest.steps) behind.in_order;
        all = behind.all;
      }
  looked (Done None) leads same later =
      let all : with_it count m.at ≡ map_words m.geometry.nodes =
      leads ∙ ap (λ (h : Geometry). map_words h.nodes) same in
      record {
        loaded = with_it count m.at;
        few = omega (arith, all);
        in_order = loads_next m within count m.at stands
            (λ more. LoadsInOrder m.geometry m.start more (with_it count m.at) []) refl;
        all = λ none. all;
      }
  looked (Done (Some node)) leads same later = record {
    loaded = with_it count m.at;
    few = subst (λ (h : Geometry). with_it count m.at ≤ map_words h.nodes) same leads;
    in_order = loads_next m within count m.at stands
        (λ more. LoadsInOrder m.geometry m.start more (with_it count m.at) []) refl;
    all = λ none. absurd (cc);
  }

looks : (m : TakeNodeModel) (olds : List ℕ) (count : ℕ) → IsTakeAtIn m.geometry m.at
    → m.start < map_words m.geometry.nodes
    → StandsBehind (map_words m.geometry.nodes) m.start count m.at
    → HasLookedFrom m.geometry m.start count (taken m olds)
looks m [] count range within stands = record {
  loaded = count;
  few = stands_few (map_words m.geometry.nodes) m.start count m.at stands;
  in_order = refl;
  all = λ none. absurd (cc);
}
looks m (old ∷ olds) count range within stands =
    let stays = take_after-in m old range in
    let left = (take_node_after m old).0 in
    let rest = taken left olds in
    let leads = after-leads m within count m.at old stands in
    looked m old rest count within stands (take_node_after m old).1 leads stays.geometry_same
    (λ goes.
    let there : StandsBehind (map_words left.geometry.nodes) left.start (with_it count m.at) left.at =
    subst (λ next. Leads (with_it count m.at) (left, next)) goes leads in
    let begun : left.start < map_words left.geometry.nodes =
    subst (λ start. start < map_words left.geometry.nodes) (sym stays.start_same)
    (subst (λ (h : Geometry). m.start < map_words h.nodes) (sym stays.geometry_same) within) in
    subst (λ start. HasLookedFrom m.geometry start (with_it count m.at) rest) stays.start_same
    (subst (λ (h : Geometry). HasLookedFrom h left.start (with_it count m.at) rest) stays.geometry_same
    (looks left olds (with_it count m.at) stays.range begun there)))

pub looks_once : LooksOnce
looks_once g start olds within =
    let looked = looks (take_node_from g start) olds 0 within within
    (within_zero, record { is = inl (omega (arith, within), omega arith) }) in
    record { loaded = looked.loaded; few = looked.few; in_order = looked.in_order; all = looked.all }
  where
    within_zero : 0 < map_words g.nodes
    within_zero = omega (arith, within)
