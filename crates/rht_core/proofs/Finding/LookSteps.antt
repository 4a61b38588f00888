-- How many operations a look-up has made in each of its states. In a table each operation leaves fewer to come (`lessens`), tables come in
-- the order in which they were attached, and from the first one on there are at most eight, since these all have their slots.
use Rattle.std.proofs.Common.{◌≡◌, ℕ, ◌+◌, ◌*◌, ◌<◌, ◌≤◌, nat_lt, Bool, true, List, Option, Some, None, refl, sym, subst, inl, inr, arith}
use Rattle.std.specs.Prelude.{◌==◌}
use Rattle.std.proofs.Math.Nat.{mul-le-mul_right}
use Rattle.std.proofs.lemmas.Bool.{cond_both}
use Rattle.rht_words.specs.declared.env.Env.{Env}
use Rattle.rht_words.specs.declared.machine.Next.{Next}
use Rattle.rht_words.specs.declared.machine.Next.TheVariants.{Go, Done}
use Rattle.rht_words.specs.Links.{node_of, slot_of, table_of, head_of, marker_of}
use Rattle.rht_words.specs.Operations.{old_of}
use Rattle.rht_words.specs.Places.{CurrentTable, Slot, FutureWord}
use Rattle.rht_words.specs.Ports.{word_of}
use Rattle.rht_words.proofs.Memory.{Memory}
use Rattle.rht_nest.specs.Reach.{ReachModel, reach_plan, reach_after}
use Rattle.rht_nest.specs.declared.place.Bucket.{Bucket}
use Rattle.rht_nest.specs.declared.place.Bucket.TheVariants as buckets
use Rattle.rht_nest.proofs.Reaches.{reach_after-table}
use Rattle.rht_model.specs.declared.history.Reply.{Reply}
use Rattle.rht_find.specs.Find.{plan_at, goes, says, reached, walked_anew, chain_ended, led_to, compared, next_table, IsFindAtIn}
use Rattle.rht_find.specs.FindBound.{left_in_table, table_steps}
use Rattle.rht_find.specs.declared.find.Head.{Head}
use Rattle.rht_find.specs.declared.find.FindAt.{FindAt}
use Rattle.rht_find.specs.declared.find.FindAt.TheVariants as at
use Rattle.rht_find.proofs.FindBounds.{lessens}
use Rattle.rht_ghost.proofs.Theory.Ghosts.{Ghost, IsSince}
use Rattle.rht_ghost.proofs.Theory.Wholes.{Whole, IsAt, AreThereFrom, current-at, force-there, one_slot}
use Rattle.rht_ghost.proofs.Theory.Passed.{at-from, there_from-from}
use Rattle.rht_ghost.proofs.Theory.Reliance.{TablesStay, since-low}
use Rattle.rht_ghost.proofs.Theory.Steps.{SectionTurns}
use Rattle.rht_core.specs.Jobs.{finds, held_of}
use Rattle.rht_ghost.proofs.Theory.Knowledge.{ReadsFrom, since-current, next_at}
use Rattle.rht_ghost.proofs.Theory.Steps.{mem}
use Rattle.rht_ghost.proofs.Pieces.TableLoads.{LeadsBehind, future_leads}
use Rattle.rht_core.proofs.Meaning.TablesInForce.{current_slot}
use Rattle.rht_core.proofs.Finding.Places.{Places}
use Rattle.rht_core.proofs.Finding.Lookups.{LookMeans}
use Rattle.rht_core.proofs.Returning.FewTables.{few_tables}

-- ---- of numbers: `t` operations in a table, and the load of its future

-- so many up to the last one in a table, so many tables behind the first one, from the beginning of the call on
abbrev most_in : ℕ → ℕ → ℕ
most_in t index = 2 + index * (t + 1) + t

-- and up to the closing of the section
abbrev most_of : ℕ → ℕ
most_of t = 2 + 8 * (t + 1)

most_in-first : (t index made : ℕ) → made ≤ 1 → made + 1 + t ≤ most_in t index
most_in-first t index made few = omega (arith, few)

most_in-next : (t index made : ℕ) → made ≤ most_in t index → made + 1 + t ≤ most_in t (index + 1)
most_in-next t index made few = omega (arith, few)

most_in-seven : (t index : ℕ) → index ≤ 7 → most_in t index ≤ most_in t 7
most_in-seven t index low = let more = mul-le-mul_right (t + 1) low in omega (arith, more)

most_in-all : (t made : ℕ) → made ≤ most_in t 7 → made + 1 ≤ most_of t
most_in-all t made few = omega (arith, few)

most_of-first : (t made : ℕ) → made ≤ 1 → made ≤ most_of t
most_of-first t made few = omega (arith, few)

most_of-in : (t index made left : ℕ) → index ≤ 7 → made + left ≤ most_in t index → made ≤ most_of t
most_of-in t index made left low few = let more = most_in-seven t index low in omega (arith, few, more)

fewer : (made left now most : ℕ) → made + left ≤ most → now < left → made + 1 + now ≤ most
fewer made left now most few less = omega (arith, few, less)

none_left : (made left most : ℕ) → made + 1 + left ≤ most → made + 1 ≤ most
none_left made left most few = omega (arith, few)

at_most : (made most most' : ℕ) → made ≤ most → most ≤ most' → made ≤ most'
at_most made most most' few more = omega (arith, few, more)

-- ---- by states

module _ (env : Env) (c : ℕ) where
  abbrev left_at : FindAt → ℕ
  left_at = left_in_table env

  -- the most up to the last one in a table, so many tables behind the first one
  abbrev most_at : ℕ → ℕ
  most_at count = most_in (table_steps env) count

  -- so many are within those of the table that this slot has, by how many tables it is behind one to which the caller's section comes, and
  -- of which all behind it are there
  pub record IsWithin (G : Ghost) (slot made : ℕ) : Type 0 where
    pub at : IsAt G slot
    pub low : ℕ
    pub since : IsSince (G.from c) low
    pub on : AreThereFrom G low
    pub count : ℕ
    pub behind : low + count ≡ at.table
    pub few : made ≤ most_at count

  -- it has made so many operations in this state
  abbrev pub IsSpent : Ghost → FindAt → ℕ → Type 0
  IsSpent G at.Opening made = made ≤ 0
  IsSpent G at.CurrentTable made = made ≤ 1
  IsSpent G (at.Locating reach) made = IsWithin G reach.table (made + left_at (at.Locating reach))
  IsSpent G (at.Heading head) made = IsWithin G head.table (made + left_at (at.Heading head))
  IsSpent G (at.Key head node visited) made = IsWithin G head.table (made + left_at (at.Key head node visited))
  IsSpent G (at.Link head node visited) made = IsWithin G head.table (made + left_at (at.Link head node visited))
  IsSpent G (at.Future table) made = IsWithin G table made
  IsSpent G (at.Owner node) made = made ≤ most_in (table_steps env) 7
  IsSpent G (at.Closing reply) made = made ≤ most_of (table_steps env)

  -- it is in the table of this slot, or at an owner
  abbrev IsOfTable : ℕ → FindAt → Type 0
  IsOfTable slot at.Opening = ⊥
  IsOfTable slot at.CurrentTable = ⊥
  IsOfTable slot (at.Locating reach) = reach.table ≡ slot
  IsOfTable slot (at.Heading head) = head.table ≡ slot
  IsOfTable slot (at.Key head node visited) = head.table ≡ slot
  IsOfTable slot (at.Link head node visited) = head.table ≡ slot
  IsOfTable slot (at.Future table) = table ≡ slot
  IsOfTable slot (at.Owner node) = Unit {0}
  IsOfTable slot (at.Closing reply) = ⊥

  -- the same of another number
  with_few : {G : Ghost} {slot made more : ℕ} (is : IsWithin G slot made) → more ≤ most_at is.count → IsWithin G slot more
  with_few is few =
      record { at = is.at; low = is.low; since = is.since; on = is.on; count = is.count; behind = is.behind; few = few }

  -- where so many were left, one more was made and fewer are left
  spent_in : (G : Ghost) (slot made left : ℕ) (state : FindAt) → IsOfTable slot state → (is : IsWithin G slot (made + left))
      → is.count ≤ 7 → left_at state < left → IsSpent G state (made + 1)
  spent_in G slot made left at.Opening of is low less = absurd of
  spent_in G slot made left at.CurrentTable of is low less = absurd of
  spent_in G slot made left (at.Locating reach) of is low less =
      subst (λ s. IsWithin G s (made + 1 + left_at (at.Locating reach))) (sym of)
      (with_few is (fewer made left (left_at (at.Locating reach)) (most_at is.count) is.few less))
  spent_in G slot made left (at.Heading head) of is low less =
      subst (λ s. IsWithin G s (made + 1 + left_at (at.Heading head))) (sym of)
      (with_few is (fewer made left (left_at (at.Heading head)) (most_at is.count) is.few less))
  spent_in G slot made left (at.Key head node visited) of is low less =
      subst (λ s. IsWithin G s (made + 1 + left_at (at.Key head node visited))) (sym of)
      (with_few is (fewer made left (left_at (at.Key head node visited)) (most_at is.count) is.few less))
  spent_in G slot made left (at.Link head node visited) of is low less =
      subst (λ s. IsWithin G s (made + 1 + left_at (at.Link head node visited))) (sym of)
      (with_few is (fewer made left (left_at (at.Link head node visited)) (most_at is.count) is.few less))
  spent_in G slot made left (at.Future table) of is low less =
      subst (λ s. IsWithin G s (made + 1)) (sym of)
      (with_few is (none_left made 0 (most_at is.count) (fewer made left 0 (most_at is.count) is.few less)))
  spent_in G slot made left (at.Owner node) of is low less =
      at_most (made + 1) (most_at is.count) (most_in (table_steps env) 7)
      (none_left made 0 (most_at is.count) (fewer made left 0 (most_at is.count) is.few less))
      (most_in-seven (table_steps env) is.count low)
  spent_in G slot made left (at.Closing reply) of is low less = absurd of

  -- ---- it stays in its table

  reached-of : (reach : ReachModel) (next : Next Bucket) → IsOfTable reach.table (reached env reach next)
  reached-of reach Go = refl
  reached-of reach (Done (buckets.At place)) = refl
  reached-of reach (Done (buckets.Absent entry)) = refl

  walked_anew-of : (head : Head) → IsOfTable head.table (walked_anew head)
  walked_anew-of head = cond_both (nat_lt 0 head.left) _ _ (IsOfTable head.table) (λ t. refl) (λ f. refl)

  chain_ended-of : (head : Head) (link : ℕ) → IsOfTable head.table (chain_ended head link)
  chain_ended-of head link =
      cond_both (link == marker_of head.place) _ _ (IsOfTable head.table) (λ t. refl) (λ f. walked_anew-of head)

  led_to-of : (head : Head) (visited link : ℕ) (node : Option ℕ)
      → IsOfTable head.table (led_to env.geometry head visited link node)
  led_to-of head visited link None = chain_ended-of head link
  led_to-of head visited link (Some node) =
      cond_both (nat_lt visited env.geometry.nodes) _ _ (IsOfTable head.table) (λ t. refl) (λ f. chain_ended-of head link)

  compared-of : (port : ℕ) (head : Head) (node visited key : ℕ) → IsOfTable head.table (compared port head node visited key)
  compared-of port head node visited key =
      cond_both (key == word_of port) _ _ (IsOfTable head.table) (λ t. tt) (λ f. refl)

  module _ (mix : ℕ → ℕ → ℕ → ℕ) (port : ℕ) (seen : ℕ → Bool) (since : ℕ) (Says : Reply → Type 0) (words : List ℕ) (G : Ghost) (P : Places)
      (whole : Whole env mix (mem env mix words) G) where
    abbrev M : Memory
    M = mem env mix words

    -- ---- there are at most eight tables from one on of which all behind it are there

    few_from : (low count : ℕ) → low + count ≤ G.attached → AreThereFrom G low → count ≤ 8
    few_from low count all on =
        few_tables (λ τ. (G.table τ).slot) low count (record {
          within = λ τ from l. (whole.tables.each τ (on τ from (omega (arith, l, all)))).slot_in;
          own = λ τ σ from less l same.
              let first = on τ from (omega (arith, less, l, all)) in
              let second = on σ (omega (arith, from, less)) (omega (arith, l, all)) in
              let both = one_slot G τ σ first second same in
              omega (arith, less, both);
        })

    low_index : (slot made : ℕ) (is : IsWithin G slot made) → is.count ≤ 7
    low_index slot made is =
        let few = few_from is.low (is.count + 1) (omega (arith, is.behind, is.at.attached)) is.on in omega (arith, few)

    -- ---- each operation

    future_spent : (table made : ℕ) (is : IsWithin G table made) (future : Option ℕ)
        → LeadsBehind env mix M G whole is.at.table future → IsSpent G (next_table env future) (made + 1)
    future_spent table made is None last =
        most_in-all (table_steps env) made
        (at_most made (most_at is.count) (most_in (table_steps env) 7) is.few
        (most_in-seven (table_steps env) is.count (low_index table made is)))
    future_spent table made is (Some next) behind = record {
      at = next_at env mix G is.at.table next is.at.on behind;
      low = is.low;
      since = is.since;
      on = is.on;
      count = is.count + 1;
      behind = omega (arith, is.behind);
      few = most_in-next (table_steps env) is.count made is.few;
    }

    -- the current table
    abbrev current_at : IsAt G (table_of (M CurrentTable))
    current_at = current-at env mix whole.tables (table_of (M CurrentTable)) (sym (current_slot env mix words G whole))

    -- but the last one, behind which the call has ended
    pub spent_leads : (caller made : ℕ) (state : FindAt) → says state ≡ Go → IsFindAtIn env state
        → LookMeans env mix port seen since Says M G P state → IsSpent G state made
        → (state ≡ at.CurrentTable → ReadsFrom true (G.from c) G.current)
        → IsSpent G (goes mix env port state (old_of words (plan_at env caller state))) (made + 1)
    spent_leads caller made at.Opening goes_on within known few reads = omega (arith, few)
    spent_leads caller made at.CurrentTable goes_on within known few reads =
        record {
          at = current_at;
          low = G.current;
          since = since-current (G.from c) G.current (reads refl);
          on = force-there env mix whole.tables;
          count = 0;
          behind = omega arith;
          few = most_in-first (table_steps env) 0 made few;
        }
    spent_leads caller made (at.Locating reach) goes_on within known few reads =
        let word = old_of words (reach_plan reach) in
        let r = reach_after mix port reach word in
        spent_in G reach.table made (left_at (at.Locating reach)) (reached env r.0 r.1)
        (subst (λ s. IsOfTable s (reached env r.0 r.1)) (reach_after-table mix port reach word) (reached-of r.0 r.1))
        few (low_index reach.table _ few) (lessens mix env port (at.Locating reach) word within tt)
    spent_leads caller made (at.Heading head) goes_on within known few reads =
        let word = old_of words (plan_at env caller (at.Heading head)) in
        let link = head_of head.place word in
        spent_in G head.table made (left_at (at.Heading head)) _
        (led_to-of head 0 link (node_of env.geometry.nodes link))
        few (low_index head.table _ few) (lessens mix env port (at.Heading head) word within tt)
    spent_leads caller made (at.Key head node visited) goes_on within known few reads =
        let word = old_of words (plan_at env caller (at.Key head node visited)) in
        spent_in G head.table made (left_at (at.Key head node visited)) _ (compared-of port head node visited word)
        few (low_index head.table _ few) (lessens mix env port (at.Key head node visited) word within tt)
    spent_leads caller made (at.Link head node visited) goes_on within known few reads =
        let link = old_of words (plan_at env caller (at.Link head node visited)) in
        spent_in G head.table made (left_at (at.Link head node visited)) _
        (led_to-of head visited link (node_of env.geometry.nodes link))
        few (low_index head.table _ few) (lessens mix env port (at.Link head node visited) link within tt)
    spent_leads caller made (at.Future table) goes_on within known few reads =
        future_spent table made few (slot_of (M (Slot table FutureWord))) (future_leads env mix M G whole table few.at)
    spent_leads caller made (at.Owner node) goes_on within known few reads = most_in-all (table_steps env) made few
    spent_leads caller made (at.Closing reply) goes_on within known few reads = absurd (cc)

    -- so many are within the bound, in whatever state
    pub spent_most : (made : ℕ) (state : FindAt) → LookMeans env mix port seen since Says M G P state → IsSpent G state made
        → made ≤ most_of (table_steps env)
    spent_most made at.Opening known few = most_of-first (table_steps env) made (omega (arith, few))
    spent_most made at.CurrentTable known few = most_of-first (table_steps env) made few
    spent_most made (at.Locating reach) known few =
        most_of-in (table_steps env) few.count made (left_at (at.Locating reach)) (low_index reach.table _ few) few.few
    spent_most made (at.Heading head) known few =
        most_of-in (table_steps env) few.count made (left_at (at.Heading head)) (low_index head.table _ few) few.few
    spent_most made (at.Key head node visited) known few =
        most_of-in (table_steps env) few.count made (left_at (at.Key head node visited)) (low_index head.table _ few) few.few
    spent_most made (at.Link head node visited) known few =
        most_of-in (table_steps env) few.count made (left_at (at.Link head node visited)) (low_index head.table _ few) few.few
    spent_most made (at.Future table) known few =
        most_of-in (table_steps env) few.count made 0 (low_index table _ few) (omega (arith, few.few))
    spent_most made (at.Owner node) known few = most_of-in (table_steps env) 7 made 0 (omega arith) (omega (arith, few))
    spent_most made (at.Closing reply) known few = few

    -- and it stays so behind an operation of anybody else
    module _ (G' : Ghost) (stay : TablesStay env mix G G') (turned : SectionTurns env mix c G G') where
      -- a section that is open behind it comes to what it came to
      since_then : (τ : ℕ) → ReadsFrom true (G'.from c) G'.current → IsSince (G.from c) τ → IsSince (G'.from c) τ
      since_then τ reads since = elim turned [
        | inl same ↦ subst (λ f. IsSince f τ) (sym same) since
        | inr (inl opened) ↦ absurd (subst (λ f. IsSince f τ) opened.0 since)
        | inr (inr closed) ↦ absurd (subst (λ f. ReadsFrom true f G'.current) closed reads)
      ]

      same_most : (slot count : ℕ) → ReadsFrom true (G'.from c) G'.current → IsWithin G slot count → IsWithin G' slot count
      same_most slot count reads is =
          let from = since-low env mix stay c is.low is.since in
          record {
            at = at-from env mix stay.low G G' stay.grow slot is.at (omega (arith, from, is.behind));
            low = is.low;
            since = since_then is.low reads is.since;
            on = there_from-from env mix stay.low G G' stay.grow is.low from is.on;
            count = is.count;
            behind = is.behind;
            few = is.few;
          }

      pub spent_stays : (made : ℕ) (state : FindAt) → ReadsFrom (held_of (finds port state)).section (G'.from c) G'.current
          → LookMeans env mix port seen since Says M G P state → IsSpent G state made → IsSpent G' state made
      spent_stays made at.Opening reads known few = few
      spent_stays made at.CurrentTable reads known few = few
      spent_stays made (at.Locating reach) reads known few = same_most reach.table _ reads few
      spent_stays made (at.Heading head) reads known few = same_most head.table _ reads few
      spent_stays made (at.Key head node visited) reads known few = same_most head.table _ reads few
      spent_stays made (at.Link head node visited) reads known few = same_most head.table _ reads few
      spent_stays made (at.Future table) reads known few = same_most table _ reads few
      spent_stays made (at.Owner node) reads known few = few
      spent_stays made (at.Closing reply) reads known few = few
