-- Two nodes, and operations that see them taken: in their turn, or each at some time but not in turn.
use Rattle.std.proofs.Common.{◌≡◌, ℕ, ◌<◌, ◌≤◌, List, [], ◌∷◌, inl, inr, refl, arith}
use Rattle.std.proofs.lemmas.Bool.{cases_eq}
use Rattle.std.specs.List.{Any}
use Rattle.rht_words.specs.declared.op.Op.TheVariants.{Load}
use Rattle.rht_words.specs.declared.geometry.Geometry.{Geometry}
use Rattle.rht_words.specs.Places.{NodeMap, place_of}
use Rattle.rht_words.specs.Machines.{Performed}
use Rattle.rht_words.specs.Operations.{op_place}
use Rattle.rht_arena.specs.Laws.{IsLook, SeesTaken, AreSeenInTurn, claim_of}
use Rattle.rht_arena.proofs.NodesSeen.{ends_before}

module _ (g : Geometry) (two : g.nodes ≡ 2) where
  -- the word of both nodes is loaded, or one of them is claimed; it is found to be this
  abbrev loaded : ℕ → Performed
  loaded word = record { op = Load (place_of g (NodeMap 0)); old = word }

  abbrev claimed : ℕ → ℕ → Performed
  claimed node word = record { op = claim_of g node; old = word }

  -- whoever finds 0 finds both nodes taken, and then all are seen
  sees_both : (step : Performed) → IsLook step.op → op_place step.op ≡ place_of g (NodeMap 0) → step.old ≡ 0
      → AreSeenInTurn g 0 g.nodes (step ∷ [])
  sees_both step looks on found = record {
    end = 2;
    rises = omega arith;
    sees = λ node low high. elim (cases_eq node 0) [
      | inl is ↦ rw (is, found) record { looks = looks; place = on; taken = refl }
      | inr other ↦
          let is : node ≡ 1 = omega (arith, other, high) in
          rw (is, found) record { looks = looks; place = on; taken = refl }
    ];
    behind = omega (arith, two);
  }

  -- both nodes are found taken at once
  pub at_once : AreSeenInTurn g 0 g.nodes (loaded 0 ∷ [])
  at_once = sees_both (loaded 0) tt refl refl

  -- node 0 is found free, and both are found taken when it is claimed
  pub one_later : AreSeenInTurn g 0 g.nodes (loaded 1 ∷ claimed 0 0 ∷ [])
  one_later = record {
    end = 0;
    rises = omega arith;
    sees = λ node low high. absurd (omega (arith, high));
    behind = sees_both (claimed 0 0) tt refl refl;
  }

  -- Node 0 is found free and node 1 taken; then node 0 is taken and node 1 free, and node 1 is claimed and taken.
  abbrev crossed : List Performed
  crossed = loaded 1 ∷ claimed 0 2 ∷ claimed 1 2 ∷ []

  -- each of the two was seen taken
  pub each_seen : (node : ℕ) → node < 2 → Any (SeesTaken g node) crossed
  each_seen node high = elim (cases_eq node 0) [
    | inl is ↦ rw is (1, claimed 0 2, omega arith, refl, record { looks = tt; place = refl; taken = refl })
    | inr other ↦
        let is : node ≡ 1 = omega (arith, other, high) in
        rw is (0, loaded 1, omega arith, refl, record { looks = tt; place = refl; taken = refl })
  ]

  -- but not in turn
  pub not_in_turn : AreSeenInTurn g 0 g.nodes crossed → ⊥
  not_in_turn turn =
      let then = turn.behind in
      let last = then.behind in
      let free : (SeesTaken g 0 (loaded 1) → ⊥) = λ seen. absurd (let bit = seen.taken in cc) in
      let free_then : (SeesTaken g 1 (claimed 0 2) → ⊥) = λ seen. absurd (let bit = seen.taken in cc) in
      let free_last : (SeesTaken g 1 (claimed 1 2) → ⊥) = λ seen. absurd (let bit = seen.taken in cc) in
      let none_at_first : turn.end ≤ 0 = ends_before g 0 0 turn.end (loaded 1) (omega arith) free turn.sees in
      let one_at_most : then.end ≤ 1 =
      ends_before g turn.end 1 then.end (claimed 0 2) (omega (arith, none_at_first)) free_then then.sees in
      let and_no_more : last.end ≤ 1 = ends_before g then.end 1 last.end (claimed 1 2) one_at_most
      free_last last.sees in
      absurd (omega (arith, and_no_more, last.behind, two))
