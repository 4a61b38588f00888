-- A port that was found stays in its table: what begins there, the changing of the chain and the
-- unlocking, is in that bucket.
use Rattle.std.proofs.Common.{ℕ}
use Rattle.rht_words.specs.declared.geometry.Geometry.{Geometry}
use Rattle.rht_words.specs.Planned.{IsWord}
use Rattle.rht_chain.specs.Relink.{IsRelinkIn}
use Rattle.rht_chain.specs.Unlock.{IsUnlockIn}
use Rattle.rht_chain.proofs.PiecesStay.{relink_begins}
use Rattle.rht_release.specs.FoundPort.{relink_of, unlock_of, IsFoundPortIn}
use Rattle.rht_release.specs.declared.found_port.FoundPort.{FoundPort}

module _ (g : Geometry) (found : FoundPort) (within : IsFoundPortIn g found) where
  pub relink_of-in : (link : ℕ) → IsWord link → IsRelinkIn g (relink_of g found link)
  relink_of-in link link_in =
      relink_begins g found.bucket.place found.bucket.word found.before link within.bucket_in.place_in
      within.bucket_in.word_in within.before_in link_in

  pub unlock_of-in : IsUnlockIn g (unlock_of found)
  unlock_of-in = record { place_in = within.bucket_in.place_in; word_in = within.bucket_in.word_in }
