-- Whatever words it is told, the way to a port stays in its table, and what it finds is the table's: a
-- case a state. Slots, links and shapes are read totally, so what they name is there or is none. It
-- works on words of slots, nodes and buckets.
use Rattle.std.proofs.Common.{ℕ, ◌<◌, refl, sym, subst, arith}
use Rattle.std.specs.Prelude.{Option, Some, None}
use Rattle.rht_words.specs.declared.geometry.Geometry.{Geometry}
use Rattle.rht_words.specs.declared.machine.Next.{Next}
use Rattle.rht_words.specs.declared.machine.Next.TheVariants.{Go, Done}
use Rattle.rht_words.specs.Places.{CurrentTable, Slot, FutureWord}
use Rattle.rht_words.specs.Planned.{IsWord, IsPlannedIn}
use Rattle.rht_words.proofs.LinksRead.{slot_of-in, IsSlotOrNone}
use Rattle.rht_words.proofs.PlannedWords.{planned_load}
use Rattle.rht_nest.specs.Locate.{LocateModel, locate_after, IsLocatedBucketIn, IsLocateIn}
use Rattle.rht_nest.specs.declared.locate.Located.{Located}
use Rattle.rht_nest.specs.declared.locate.LocatedBucket.{LocatedBucket}
use Rattle.rht_nest.specs.declared.locate.LocatedBucket.TheVariants as buckets
use Rattle.rht_nest.proofs.Locates.{LocateStays, locate_stays, planned_locate}
use Rattle.rht_chain.specs.LockedWalk.{IsNodeOrNone}
use Rattle.rht_chain.specs.Probe.{ProbeModel, probe_after, IsProbeIn, IsProbedIn}
use Rattle.rht_chain.specs.declared.probe.Probed.{Probed}
use Rattle.rht_chain.specs.declared.unlock.Unlock.{Unlock}
use Rattle.rht_chain.proofs.PiecesStay.{ProbeIsIn, probe_stays}
use Rattle.rht_chain.proofs.PiecesPlanned.{planned_probe, planned_unlock}
use Rattle.rht_release.specs.Seek.{SeekModel, seek_plan, seek_plan_at, seek_after, seek_after_at, early_or_none, bucket_or_early, located, found_or_future, probed, left, IsLeavingBucket, IsSeekAtIn, IsSeekIn, IsSeekEndIn}
use Rattle.rht_release.specs.declared.found_port.FoundPort.{FoundPort}
use Rattle.rht_release.specs.declared.seek.SeekAt.{SeekAt}
use Rattle.rht_release.specs.declared.seek.SeekAt.TheVariants as at

-- the state stays in this table, and what was found is the table's
pub record SeekStays (g : Geometry) (next : SeekAt × Next (Option FoundPort)) : Type 0 where
  pub at_in : IsSeekAtIn g next.0
  pub end_in : IsSeekEndIn g next.1

module _ (mix : ℕ → ℕ → ℕ → ℕ) (g : Geometry) (port : ℕ) where
  early_or_none-in : (locate : LocateModel) (early : Option ℕ) → IsLocateIn g locate → IsSlotOrNone early
      → SeekStays g (early_or_none g locate early)
  early_or_none-in locate None locate_in early_in = record { at_in = locate_in; end_in = tt }
  early_or_none-in locate (Some next) locate_in early_in =
      record { at_in = record { geometry_same = refl; table_in = early_in; at_in = tt }; end_in = tt }

  bucket_or_early-in : (locate : LocateModel) (shape : ℕ) (bucket : LocatedBucket) → IsLocateIn g locate
      → IsWord shape → IsLocatedBucketIn g bucket → SeekStays g (bucket_or_early g port locate shape bucket)
  bucket_or_early-in locate shape (buckets.At place) locate_in shape_in bucket_in = record {
    at_in = record {
      table_in = locate_in.table_in;
      shape_in = shape_in;
      probe_in =
          record { geometry_same = refl; at_in = record { place_in = bucket_in; even = tt; word_in = tt } };
    };
    end_in = tt;
  }
  bucket_or_early-in locate shape (buckets.Missing place early) locate_in shape_in bucket_in =
      early_or_none-in locate early locate_in bucket_in.early_in

  located-in : (locate : LocateModel) (next : Next Located) → LocateStays g (locate, next)
      → SeekStays g (located g port locate next)
  located-in locate Go stays = record { at_in = stays.locate_in; end_in = tt }
  located-in locate (Done there) stays =
      bucket_or_early-in locate there.shape there.bucket stays.locate_in stays.end_in.shape_in
      stays.end_in.bucket_in

  found_or_future-in : (table shape : ℕ) (probe : ProbeModel) (end : Probed) (found : Option ℕ) → table < 8
      → IsWord shape → IsProbeIn g probe → IsProbedIn g end → IsNodeOrNone g found
      → SeekStays g (found_or_future table shape probe end found)
  found_or_future-in table shape probe end None table_in shape_in probe_in end_in found_in =
      record { at_in = record { table_in = table_in; bucket_in = end_in.bucket_in }; end_in = tt }
  found_or_future-in table shape probe end (Some node) table_in shape_in probe_in end_in found_in = record {
    at_in = record { table_in = table_in; shape_in = shape_in; probe_in = probe_in };
    end_in = record {
      table_in = table_in;
      shape_in = shape_in;
      bucket_in = end_in.bucket_in;
      node_in = found_in;
      before_in = end_in.seen_in.before_in;
    };
  }

  probed-in : (table shape : ℕ) (probe : ProbeModel) (next : Next Probed) → table < 8 → IsWord shape
      → ProbeIsIn g (probe, next) → SeekStays g (probed table shape probe next)
  probed-in table shape probe Go table_in shape_in stays = record {
    at_in = record { table_in = table_in; shape_in = shape_in; probe_in = stays.probe_in };
    end_in = tt;
  }
  probed-in table shape probe (Done end) table_in shape_in stays =
      found_or_future-in table shape probe end end.seen.found table_in shape_in stays.probe_in stays.end_in
      stays.end_in.seen_in.found_in

  left-in : (table : ℕ) (unlock : Unlock) (future : Option ℕ) → IsLeavingBucket g table unlock future
      → SeekStays g (left g table unlock future)
  left-in table unlock None within = record { at_in = within; end_in = tt }
  left-in table unlock (Some next) within =
      record { at_in = record { geometry_same = refl; table_in = within.future_in; at_in = tt }; end_in = tt }

  pub seek_stays_at : (at : SeekAt) (word : ℕ) → IsSeekAtIn g at → IsWord word
      → SeekStays g (seek_after_at mix g port at word)
  seek_stays_at at.CurrentTable word here told =
      record { at_in = record { geometry_same = refl; table_in = omega arith; at_in = tt }; end_in = tt }
  seek_stays_at (at.Locating locate) word here told =
      located-in (locate_after mix port locate word).0 (locate_after mix port locate word).1
      (locate_stays mix port g locate word here told)
  seek_stays_at (at.Probing table shape probe) word here told =
      probed-in table shape (probe_after probe word).0 (probe_after probe word).1 here.table_in here.shape_in
      (probe_stays g probe word here.probe_in told)
  seek_stays_at (at.Future table bucket) word here told = record {
    at_in = record {
      table_in = here.table_in;
      unlock_in = record { place_in = here.bucket_in.place_in; word_in = here.bucket_in.word_in };
      future_in = slot_of-in word;
    };
    end_in = tt;
  }
  seek_stays_at (at.Leaving table unlock future) word here told = left-in table unlock future here

-- and so does the machine
pub record SeekIsIn (g : Geometry) (next : SeekModel × Next (Option FoundPort)) : Type 0 where
  pub seek_in : IsSeekIn g next.0
  pub end_in : IsSeekEndIn g next.1

module _ (g : Geometry) where
  pub seek_stays : (mix : ℕ → ℕ → ℕ → ℕ) (port : ℕ) (m : SeekModel) (word : ℕ) → IsSeekIn g m → IsWord word
      → SeekIsIn g (seek_after mix port m word)
  seek_stays mix port m word within told =
      let stays = seek_stays_at mix g port m.at word within.at_in told in
      let same = sym within.geometry_same in
      record {
        seek_in = record {
          geometry_same = within.geometry_same;
          at_in =
              subst (λ (h : Geometry). IsSeekAtIn g (seek_after_at mix h port m.at word).0) same stays.at_in;
        };
        end_in =
            subst (λ (h : Geometry). IsSeekEndIn g (seek_after_at mix h port m.at word).1) same stays.end_in;
      }

  pub planned_seek_at : (at : SeekAt) → IsSeekAtIn g at → IsPlannedIn g (seek_plan_at g at)
  planned_seek_at at.CurrentTable here = planned_load g CurrentTable tt tt
  planned_seek_at (at.Locating locate) here = planned_locate g locate here
  planned_seek_at (at.Probing table shape probe) here = planned_probe g probe here.probe_in
  planned_seek_at (at.Future table bucket) here =
      planned_load g (Slot table FutureWord) (here.table_in, tt) tt
  planned_seek_at (at.Leaving table unlock future) here = planned_unlock g unlock here.unlock_in

  -- what it performs is what its pieces perform, or on a word of a slot
  pub planned_seek : (m : SeekModel) → IsSeekIn g m → IsPlannedIn g (seek_plan m)
  planned_seek m within =
      subst (λ (h : Geometry). IsPlannedIn g (seek_plan_at h m.at)) (sym within.geometry_same)
      (planned_seek_at m.at within.at_in)
