-- What a walk knows before and behind a bucket, by the words and the ghost of one moment.
use Rattle.std.proofs.Common.{◌≡◌, ℕ, ◌+◌, ◌<◌, ◌≤◌, nat_lt, nat_le, Bool, List, [], Option, Some, None, refl, sym, ◌∙◌, ap, subst, inl, inr, arith}
use Rattle.std.specs.Prelude.{◌==◌}
use Rattle.std.proofs.lemmas.Bool.{cond_both, cases_eq, and_parts, eqb-true, ltb-true, ltb-false}
use Rattle.rht_words.specs.declared.env.Env.{Env}
use Rattle.rht_words.specs.Members.{In, IsDistinct}
use Rattle.rht_words.specs.Shapes.{unpacked, size_of}
use Rattle.rht_words.proofs.Memory.{Memory}
use Rattle.rht_model.specs.declared.history.Cursor.{Cursor}
use Rattle.rht_nest.specs.Tables.{is_nested}
use Rattle.rht_walk.specs.Walk.{visiting, fits, begun, bucket_ended}
use Rattle.rht_walk.specs.WalkLaws.{first_bucket, Fits}
use Rattle.rht_walk.specs.declared.walk.Visit.{Visit}
use Rattle.rht_walk.specs.declared.walk.WalkAt.{WalkAt}
use Rattle.rht_ghost.proofs.Theory.Ghosts.{Ghost, index_at}
use Rattle.rht_ghost.proofs.Theory.Passed.{hash-below}
use Rattle.rht_ghost.proofs.Theory.Wholes.{Whole, hash_in, key_of}
use Rattle.rht_core.proofs.Finding.Places.{Places}
use Rattle.rht_core.proofs.Returning.TiedWalks.{IsWalked}
use Rattle.rht_core.proofs.Walking.ShownNodes.{map-In}
use Rattle.rht_core.proofs.Walking.SlotsOfTables.{attached_at, index_is}
use Rattle.rht_core.proofs.Walking.WalkFacts.{ports_of, EndKnown, OfTable, IsNew, IsAt, IsBehind, WalkMeans}

module _ (env : Env) (mix : ℕ → ℕ → ℕ → ℕ) (from : Option Cursor) (begin now : ℕ) (Missed WasLast : ℕ → Type 0)
    (seen : ℕ → Bool) (items : List (ℕ × ℕ)) (M : Memory) (G : Ghost) (P : Places) (whole : Whole env mix M G) where
  abbrev Means : WalkAt → Type 0
  Means = WalkMeans env mix from begin now Missed WasLast seen items M G P

  abbrev At : Visit → Type 0
  At = IsAt env mix from begin now Missed WasLast seen items M G P

  abbrev Behind : Visit → Type 0
  Behind = IsBehind env mix from begin now Missed WasLast seen items M G P

  abbrev hash : ℕ → ℕ → ℕ
  hash slot port = hash_in env mix G port (index_at G slot)

  -- before a bucket
  pub visiting_known : (visit : Visit) → At visit → Means (visiting env.geometry visit)
  visiting_known visit at = cond_both (is_nested visit.shape) _ _ Means (λ t. at) (λ f. at)

  -- the first one
  first_known : (visit : Visit) → visit.bucket ≡ first_bucket from
      → OfTable env mix from begin now Missed WasLast seen items M G P visit
      → IsNew env mix from begin now Missed WasLast seen items M G P visit.table → At visit
  first_known visit is of new = record {
    of = of;
    low = omega (arith, is);
    known = λ last. record {
      behind = λ port low less. absurd (omega (arith, is, low, less));
      here = λ port low same. new.ahead port;
      ahead = λ port more. new.ahead port;
      room = record {
        nodes = [];
        keys = ap ports_of new.none;
        each = λ n i. absurd i;
        distinct = subst (λ (xs : List (ℕ × ℕ)). IsDistinct (ports_of xs)) (sym new.none) tt;
      };
    };
  }

  pub begun_known : (table serial shape : ℕ) → (G.table (index_at G table)).serial ≡ serial
      → IsNew env mix from begin now Missed WasLast seen items M G P table
      → Means (begun env.geometry from table serial shape)
  begun_known table serial shape is new = go from refl
    where
      go : (start : Option Cursor) → start ≡ from → Means (begun env.geometry start table serial shape)
      go None e =
          visiting_known _ (first_known _ (ap first_bucket e)
          (record { serial_is = is; fits = subst (Fits serial shape) e tt }) new)
      go (Some cursor) e =
          cond_both (fits serial shape cursor) _ _ Means
          (λ t.
          let parts = and_parts (cursor.serial == serial) (nat_lt cursor.bucket (size_of (unpacked shape))) t in
          visiting_known _ (first_known _ (ap first_bucket e) (record {
            serial_is = is;
            fits = subst (Fits serial shape) e
                (eqb-true cursor.serial serial parts.0, ltb-true cursor.bucket (size_of (unpacked shape)) parts.1);
          }) new))
          (λ f. tt)

  -- behind a bucket it is before the next one
  next_known : (visit : Visit) → Behind visit → At (record visit { bucket = visit.bucket + 1 })
  next_known visit behind = record {
    of = record { serial_is = behind.of.serial_is; fits = behind.of.fits };
    low = let low = behind.low in omega (arith, low);
    known = λ last.
        let known = behind.known last in
        record {
          behind = λ port low less. elim (cases_eq (hash visit.table port) visit.bucket) [
            | inl e ↦ known.here port low e
            | inr ne ↦ known.behind port low (omega (arith, less, ne))
          ];
          here = λ port low same. known.ahead port (omega (arith, same));
          ahead = λ port more. known.ahead port (omega (arith, more));
          room = known.room;
        };
  }

  -- and what it has shown is known
  pub end_known : (visit : Visit) → Behind visit → index_at G visit.table + 1 ≡ G.attached
      → EndKnown env mix G (index_at G visit.table) (first_bucket from) (visit.bucket + 1) Missed items
  end_known visit behind last =
      let known = behind.known last in
      record {
        shown = λ port low less. elim (cases_eq (hash visit.table port) visit.bucket) [
          | inl e ↦ known.here port low e
          | inr ne ↦ known.behind port low (omega (arith, less, ne))
        ];
        within = λ port there.
            let of = map-In (key_of M) known.room.nodes port (subst (In port) known.room.keys there) in
            let is = known.room.each of.node of.there in (
              subst (λ k. first_bucket from ≤ hash visit.table k) (sym of.is) is.0.from_first,
              subst (λ k. hash visit.table k < visit.bucket + 1) (sym of.is) is.1,
            );
        distinct = known.room.distinct;
      }

  -- it ends there, or goes on
  pub ended_known : (limit shown : ℕ) (visit : Visit) → IsWalked env mix G visit → Behind visit
      → Means (bucket_ended env.geometry limit shown visit)
  ended_known limit shown visit walked behind =
      cond_both (nat_lt (visit.bucket + 1) (size_of (unpacked visit.shape))) _ _ Means
      (λ t. cond_both (nat_le limit shown) _ _ Means
      (λ enough. record {
        table = index_at G visit.table;
        serial = visit.serial;
        shape = visit.shape;
        upto = visit.bucket + 1;
        low = let low = behind.low in omega (arith, low);
        attached = (attached_at env mix M G whole visit.table walked.of).attached;
        serial_is = behind.of.serial_is;
        fits = behind.of.fits;
        ends = (refl, refl, end_known visit behind);
      })
      (λ few. visiting_known (record visit { bucket = visit.bucket + 1 }) (next_known visit behind)))
      (λ f. record {
        visit = visit;
        same = refl;
        of = attached_at env mix M G whole visit.table walked.of;
        all = λ port.
            let below = hash-below env mix M G whole port (index_at G visit.table) in
            let index = index_is env mix M G whole visit.table walked.of in
            let size = ap (λ s. size_of (unpacked s)) (ap (λ τ. (G.table τ).shape) index ∙ walked.shape_is) in
            let most = ltb-false (visit.bucket + 1) (size_of (unpacked visit.shape)) f in
            let low : hash visit.table port < visit.bucket + 1 = omega (arith, below, size, most) in low;
        behind = behind;
      })
