-- A walk without a cursor hasn't to begin anew where no table is behind: it goes on behind each load of a future, and its beginning fits.
use Rattle.std.proofs.Common.{◌≡◌, ℕ, ◌+◌, nat_lt, nat_le, Option, Some, None, refl, subst, sym}
use Rattle.std.specs.Prelude.{◌==◌}
use Rattle.std.proofs.lemmas.Bool.{cond_both}
use Rattle.rht_words.specs.declared.geometry.Geometry.{Geometry}
use Rattle.rht_words.specs.declared.machine.Next.{Next}
use Rattle.rht_words.specs.declared.machine.Next.TheVariants.{Go, Done}
use Rattle.rht_words.specs.Links.{node_of, slot_of, head_of, marker_of}
use Rattle.rht_words.specs.Machines.{GoesOrEnds}
use Rattle.rht_words.specs.Shapes.{unpacked, size_of}
use Rattle.rht_nest.specs.Place.{PlaceModel, place_after}
use Rattle.rht_nest.specs.Tables.{is_nested}
use Rattle.rht_nest.specs.declared.place.Bucket.{Bucket}
use Rattle.rht_nest.specs.declared.place.Bucket.TheVariants as buckets
use Rattle.rht_model.specs.declared.history.Cursor.{Cursor}
use Rattle.rht_model.specs.declared.history.Reply.{Reply}
use Rattle.rht_walk.specs.Walk.{Pairs, visiting, bucket_ended, reached, chain_ended, led_to, unless_behind, chain_of, one_more, goes, room_after, says}
use Rattle.rht_walk.specs.declared.walk.Visit.{Visit}
use Rattle.rht_walk.specs.declared.walk.Chain.{Chain}
use Rattle.rht_walk.specs.declared.walk.WalkEnd.{WalkEnd}
use Rattle.rht_walk.specs.declared.walk.WalkEnd.TheVariants as ends
use Rattle.rht_walk.specs.declared.walk.WalkAt.{WalkAt}
use Rattle.rht_walk.specs.declared.walk.WalkAt.TheVariants as at
use Rattle.rht_core.specs.FewPorts.{IsWalkTaken}

abbrev EndsCalmly : WalkEnd → Type 0
EndsCalmly (ends.Walked next) = Unit {0}
EndsCalmly (ends.Again table) = ⊥

-- it doesn't close its section to begin anew
abbrev IsCalm : WalkAt → Type 0
IsCalm at.Opening = Unit {0}
IsCalm at.CurrentTable = Unit {0}
IsCalm (at.Serial table) = Unit {0}
IsCalm (at.Shape table serial) = Unit {0}
IsCalm (at.Entry visit way) = Unit {0}
IsCalm (at.Heading visit place) = Unit {0}
IsCalm (at.Key chain node) = Unit {0}
IsCalm (at.Owner chain node port) = Unit {0}
IsCalm (at.Link chain node) = Unit {0}
IsCalm (at.StrangeEnd visit) = Unit {0}
IsCalm (at.TableEnd table) = Unit {0}
IsCalm (at.Closing end) = EndsCalmly end

abbrev pub CalmWalk : Option Cursor → WalkAt → Type 0
CalmWalk None state = IsCalm state
CalmWalk (Some cursor) state = Unit {0}

module _ (g : Geometry) (limit shown : ℕ) where
  visiting-calm : (visit : Visit) → IsCalm (visiting g visit)
  visiting-calm visit = cond_both (is_nested visit.shape) _ _ IsCalm (λ t. tt) (λ f. tt)

  bucket_ended-calm : (visit : Visit) → IsCalm (bucket_ended g limit shown visit)
  bucket_ended-calm visit =
      cond_both (nat_lt (visit.bucket + 1) (size_of (unpacked visit.shape))) _ _ IsCalm
      (λ t. cond_both (nat_le limit shown) _ _ IsCalm (λ t. tt) (λ f. visiting-calm _)) (λ f. tt)

  reached-calm : (visit : Visit) (way : PlaceModel) (next : Next Bucket) → IsCalm (reached g limit shown visit way next)
  reached-calm visit way Go = tt
  reached-calm visit way (Done (buckets.At place)) = tt
  reached-calm visit way (Done (buckets.Absent entry)) = bucket_ended-calm visit

  chain_ended-calm : (chain : Chain) (link : ℕ) → IsCalm (chain_ended g limit shown chain link)
  chain_ended-calm chain link =
      cond_both (link == marker_of chain.place) _ _ IsCalm (λ t. bucket_ended-calm chain.visit) (λ f. tt)

  led_to-calm : (chain : Chain) (link : ℕ) (node : Option ℕ) → IsCalm (led_to g limit shown chain link node)
  led_to-calm chain link None = chain_ended-calm chain link
  led_to-calm chain link (Some node) =
      cond_both (nat_lt chain.visited g.nodes) _ _ IsCalm (λ t. tt) (λ f. chain_ended-calm chain link)

  -- a load of a future finds none
  goes-calm : (state : WalkAt) (word : ℕ) → ((table : ℕ) → state ≡ at.TableEnd table → slot_of word ≡ None)
      → ((visit : Visit) → state ≡ at.StrangeEnd visit → slot_of word ≡ None) → IsCalm state
      → IsCalm (goes g None limit shown state word)
  goes-calm (at.Shape table serial) word none behind calm = visiting-calm _
  goes-calm (at.Entry visit way) word none behind calm = reached-calm visit (place_after way word).0 (place_after way word).1
  goes-calm (at.Heading visit place) word none behind calm =
      led_to-calm (chain_of visit place) (head_of place word) (node_of g.nodes (head_of place word))
  goes-calm (at.Link chain node) word none behind calm = led_to-calm (one_more chain) word (node_of g.nodes word)
  goes-calm (at.StrangeEnd visit) word none behind calm =
      subst (λ f. IsCalm (unless_behind f (bucket_ended g limit shown visit))) (sym (behind visit refl)) (bucket_ended-calm visit)
  goes-calm (at.TableEnd table) word none behind calm =
      subst (λ f. IsCalm (unless_behind f (at.Closing (ends.Walked None)))) (sym (none table refl)) tt
  goes-calm (at.Closing end) word none behind calm = calm
  goes-calm _ word none behind calm = tt

-- so its next state is calm, or it hasn't to begin anew
pub calm-walk : (g : Geometry) (from : Option Cursor) (limit shown : ℕ) (room : Pairs) (state : WalkAt) (word : ℕ)
    → ((table : ℕ) → state ≡ at.TableEnd table → slot_of word ≡ None)
    → ((visit : Visit) → state ≡ at.StrangeEnd visit → slot_of word ≡ None) → CalmWalk from state
    → GoesOrEnds (CalmWalk from) (λ (reply : Reply). IsWalkTaken from reply)
    (goes g from limit shown state word, says (room_after state room word) state)
calm-walk g None limit shown room (at.Closing (ends.Walked next)) word none behind calm = λ table is. cc
calm-walk g None limit shown room (at.Closing (ends.Again table)) word none behind calm = absurd calm
calm-walk g None limit shown room state word none behind calm = goes-calm g limit shown state word none behind calm
calm-walk g (Some cursor) limit shown room (at.Closing end) word none behind calm = tt
calm-walk g (Some cursor) limit shown room _ word none behind calm = tt
