-- Whatever words it is told, the taking of a node stays among the words of the map and the nodes.
-- A map's word is read totally, so the bit that is claimed stands for a node that there is.
use Rattle.std.proofs.Common.{◌≡◌, ℕ, ◌+◌, ◌<◌, refl, arith}
use Rattle.std.specs.Prelude.{Option, Some, None, ◌==◌, nat_lt, bit_and}
use Rattle.std.specs.Int.{bit_at, trailing_zeros, w64}
use Rattle.std.proofs.lemmas.Bool.{cond_both, eqb-false, ltb-true}
use Rattle.rht_words.specs.declared.geometry.Geometry.{Geometry}
use Rattle.rht_words.specs.declared.machine.Next.{Next}
use Rattle.rht_words.specs.Maps.{map_bits, bits_above}
use Rattle.rht_words.specs.Places.{map_words}
use Rattle.rht_words.proofs.LowestBits.{lowest_is_in}
use Rattle.rht_arena.specs.TakeNode.{TakeNodeModel, take_node_after, after_at, word_behind, next_word, claim_in, claim_among, IsTakeAtIn, IsNodeIn}
use Rattle.rht_arena.specs.declared.take_node.TakeNodeAt.{TakeNodeAt}
use Rattle.rht_arena.specs.declared.take_node.TakeNodeAt.TheVariants.{MapWord, Claim}

-- the taking stays among the map's words and the nodes, and a node that it answers is one
pub record TakeStays (take : TakeNodeModel) (next : TakeNodeModel × Next (Option ℕ)) : Type 0 where
  pub geometry_same : next.0.geometry ≡ take.geometry
  pub start_same : next.0.start ≡ take.start
  pub range : IsTakeAtIn next.0.geometry next.0.at
  pub node : IsNodeIn take.geometry next.1

-- the word behind one of the map is one of the map
pub word_behind-in : (g : Geometry) (index : ℕ) → word_behind g index < map_words g.nodes
word_behind-in g index =
    cond_both (nat_lt (index + 1) (map_words g.nodes)) (index + 1) 0 (λ next. next < map_words g.nodes)
    (λ t. ltb-true (index + 1) (map_words g.nodes) t) (λ f. omega (arith, g.within.nodes_within))

next_word-in : (take : TakeNodeModel) (index : ℕ) → IsTakeAtIn take.geometry take.at
    → TakeStays take (next_word take index)
next_word-in take index range =
    cond_both (word_behind take.geometry index == take.start) _ _ (TakeStays take)
    (λ t. record { geometry_same = refl; start_same = refl; range = range; node = tt })
    (λ f. record {
      geometry_same = refl;
      start_same = refl;
      range = word_behind-in take.geometry index;
      node = tt;
    })

claim_among-in : (take : TakeNodeModel) (index word : ℕ) → IsTakeAtIn take.geometry take.at
    → TakeStays take (claim_among take index word)
claim_among-in take index word range =
    let free = bit_and word (map_bits take.geometry.nodes index) in
    cond_both (free == 0) None (Some (trailing_zeros w64 free))
    (λ lowest. TakeStays take (claim_in take index lowest))
    (λ t. next_word-in take index range)
    (λ f.
    let some : 0 < free = (let other = eqb-false free 0 f in omega (arith, other)) in
    record {
      geometry_same = refl;
      start_same = refl;
      range = lowest_is_in take.geometry.nodes index word some;
      node = tt;
    })

take_after_at-in : (take : TakeNodeModel) (at : TakeNodeAt) (word : ℕ) → IsTakeAtIn take.geometry at
    → IsTakeAtIn take.geometry take.at → TakeStays take (after_at take at word)
take_after_at-in take (MapWord index) word here range = claim_among-in take index word range
take_after_at-in take (Claim index bit) word here range =
    cond_both (bit_at word bit == 1) _ _ (TakeStays take)
    (λ t. record { geometry_same = refl; start_same = refl; range = range; node = here.below })
    (λ f. claim_among-in take index (bit_and word (bits_above bit)) range)

pub take_after-in : (take : TakeNodeModel) (word : ℕ) → IsTakeAtIn take.geometry take.at
    → TakeStays take (take_node_after take word)
take_after-in take word range = take_after_at-in take take.at word range range
