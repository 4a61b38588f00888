-- A node that is answered was free until the operation that took it, and giving it back sets its bit again.
use Rattle.std.proofs.Common.{◌≡◌, ℕ, ◌+◌, ◌*◌, ◌/◌, ◌%◌, ◌<◌, Some, None, refl, subst, eqb, arith}
use Rattle.std.proofs.lemmas.Bool.{cond_both, eqb-true}
use Rattle.std.specs.Int.{bit_at}
use Rattle.rht_words.specs.declared.machine.Next.{Next}
use Rattle.rht_words.specs.declared.machine.Next.TheVariants.{Go, Done}
use Rattle.rht_words.specs.declared.geometry.Geometry.{Geometry}
use Rattle.rht_words.specs.Maps.{IsBitIn, bits_above, lowest_free}
use Rattle.rht_words.proofs.BitChanges.{bit_at-cleared, bit_at-cleared_other, bit_at-set, bit_at-set_other}
use Rattle.std.specs.Prelude.{bit_and, Option}
use Rattle.rht_arena.specs.declared.take_node.TakeNodeAt.{TakeNodeAt}
use Rattle.rht_arena.specs.declared.take_node.TakeNodeAt.TheVariants.{MapWord, Claim}
use Rattle.rht_arena.specs.TakeNode.{TakeNodeModel, IsTakeAtIn, plan_at, after_at, word_behind, claim_in, claim_among}
use Rattle.rht_arena.specs.Laws.{ChangesBit, claim_of, IsTaking, TakenWasFree, GivingSetsOneBit, map_bit}

-- the And with all ones but the node's bit clears it
pub claim_of-clears : (g : Geometry) (node old : ℕ) → ChangesBit g node 0 old (claim_of g node)
claim_of-clears g node old =
    let low : map_bit node < 64 = omega arith in
    record {
      place = refl;
      bit = bit_at-cleared old (map_bit node) low;
      others = λ other l differ. bit_at-cleared_other old (map_bit node) other low l differ;
    }

-- going to another node or to the next word answers no node
claim_in-no_node : (m : TakeNodeModel) (index node : ℕ) (lowest : Option ℕ)
    → (claim_in m index lowest).1 ≡ Done (Some node) → ⊥
claim_in-no_node m index node (Some bit) done = cc
claim_in-no_node m index node None done =
    cond_both {A = TakeNodeModel × Next (Option ℕ)} (eqb (word_behind m.geometry index) m.start)
    (m, Done None) (record m { at = MapWord (word_behind m.geometry index) }, Go)
    (λ next. next.1 ≡ Done (Some node) → ⊥) (λ last is. cc) (λ more is. cc) done

-- the operation of a machine that stands at this node takes it, where it finds the bit set
pub claims : (g : Geometry) (index bit old : ℕ) → IsBitIn g.nodes index bit → bit_at old bit ≡ 1
    → IsTaking g (64 * index + bit) old (plan_at g (Claim index bit))
claims g index bit old within set =
    let word : (64 * index + bit) / 64 ≡ index = omega (arith, within.within) in
    let place : (64 * index + bit) % 64 ≡ bit = omega (arith, within.within) in
    let is : plan_at g (Claim index bit) ≡ claim_of g (64 * index + bit) = rw (word, place) refl in
    record {
      within = within.below;
      claim = is;
      free = rw place set;
      clears = rw is (claim_of-clears g (64 * index + bit) old);
    }

pub giving_sets_one_bit : GivingSetsOneBit
giving_sets_one_bit m old = record {
  place = refl;
  bit = bit_at-set old (map_bit m.node);
  others = λ other l differ. bit_at-set_other old (map_bit m.node) other differ;
}

-- By cases on the state: only one that clears a bit answers a node.
taken_at : (m : TakeNodeModel) (at : TakeNodeAt) (old node : ℕ) → IsTakeAtIn m.geometry at
    → (after_at m at old).1 ≡ Done (Some node) → IsTaking m.geometry node old (plan_at m.geometry at)
taken_at m (MapWord index) old node range done =
    absurd (claim_in-no_node m index node (lowest_free m.geometry.nodes index old) done)
taken_at m (Claim index bit) old node range done =
    let above = bit_and old (bits_above bit) in
    cond_both {A = TakeNodeModel × Next (Option ℕ)} (eqb (bit_at old bit) 1)
    (m, Done (Some (64 * index + bit))) (claim_among m index above)
    (λ next. next.1 ≡ Done (Some node) → IsTaking m.geometry node old (plan_at m.geometry (Claim index bit)))
    (λ set taken.
    let is : 64 * index + bit ≡ node = cc in
    subst (λ n. IsTaking m.geometry n old (plan_at m.geometry (Claim index bit))) is
    (claims m.geometry index bit old range (eqb-true (bit_at old bit) 1 set)))
    (λ clear other. absurd (claim_in-no_node m index node (lowest_free m.geometry.nodes index above) other))
    done

pub taken_was_free : TakenWasFree
taken_was_free m old node range done = taken_at m m.at old node range done
