-- The way of a bind to its place: its node is filled, the bucket looked for, pages entered where they are
-- missing, and the bucket locked and walked.
use Rattle.std.proofs.Common.{◌≡◌, ℕ, List, length, Option, Some, None, Bool, refl, sym, ◌∙◌, ap, subst, inl}
use Rattle.rht_words.specs.declared.env.Env.{Env}
use Rattle.rht_words.specs.declared.config.Kind.{Kind}
use Rattle.rht_words.specs.declared.config.Kind.TheVariants.{Single, Listed}
use Rattle.rht_words.specs.declared.machine.Next.{Next}
use Rattle.rht_words.specs.declared.machine.Next.TheVariants.{Go, Done}
use Rattle.rht_words.specs.Held as held
use Rattle.rht_words.specs.declared.geometry.Geometry.{Geometry}
use Rattle.rht_words.specs.Shapes.{size_of, unpacked}
use Rattle.rht_words.specs.Operations.{old_of}
use Rattle.rht_words.specs.Places.{PageWord, place_of, words_in}
use Rattle.rht_words.proofs.Memory.{Memory}
use Rattle.rht_words.proofs.Members.{in-middle}
use Rattle.rht_arena.specs.NewNode.{NewNodeModel, new_node_plan, new_node_after, node_of_new}
use Rattle.rht_words.specs.declared.machine.Start.{Start}
use Rattle.rht_words.specs.declared.machine.Start.TheVariants as starts
use Rattle.rht_nest.specs.Grow.{GrowModel, grow_plan, grow_after_at, pages_of_grow}
use Rattle.rht_nest.specs.declared.grow.GrowAt.{GrowAt}
use Rattle.rht_nest.specs.declared.grow.GrowAt.TheVariants as grows
use Rattle.rht_nest.specs.Place.{PlaceModel, entry_place, entered}
use Rattle.rht_nest.specs.Locate.{LocateModel, locate_plan, locate_after}
use Rattle.rht_nest.specs.declared.locate.Located.{Located}
use Rattle.rht_nest.specs.declared.locate.LocatedBucket.{LocatedBucket}
use Rattle.rht_nest.specs.declared.locate.LocatedBucket.TheVariants as buckets
use Rattle.rht_chain.specs.Probe.{ProbeModel, probe_plan, probe_after, lock_of_probe}
use Rattle.rht_chain.specs.declared.probe.Probed.{Probed}
use Rattle.rht_model.specs.declared.history.Call.TheVariants as calls
use Rattle.rht_model.specs.declared.history.Reply.{Reply}
use Rattle.rht_model.specs.declared.history.Reply.TheVariants.{NoTable, NoNode}
use Rattle.rht_model.specs.Answers.{plain}
use Rattle.rht_bind.specs.Bind.{filled, located, at_bucket, behind_page, grown, bound_already, found_or_future, probed, IsBindAtIn}
use Rattle.rht_bind.specs.BindHeld.{held_of_bind, holds_outside, holds_node, holds_claimed, holds_table}
use Rattle.rht_bind.specs.declared.bind.Attempt.{Attempt}
use Rattle.rht_bind.specs.declared.bind.Claimed.{Claimed}
use Rattle.rht_bind.specs.declared.bind.BindAt.{BindAt}
use Rattle.rht_bind.specs.declared.bind.BindAt.TheVariants as at
use Rattle.rht_ghost.proofs.Theory.Ghosts.{Ghost}
use Rattle.rht_ghost.proofs.Theory.Wholes.{Whole}
use Rattle.rht_ghost.proofs.Theory.Knowns.{KnownTable, Known, Nowhere, Unlocked, Found, HasPages, OnWay}
use Rattle.rht_ghost.proofs.Theory.Knowledge.{plainly, Knowing, TableMeans}
use Rattle.rht_ghost.proofs.Theory.Answering.{learns}
use Rattle.rht_ghost.proofs.Theory.Steps.{answered-map, mem, owners, SilentStep, still_has, reads}
use Rattle.rht_ghost.proofs.Pieces.NewNodes as nodes
use Rattle.rht_ghost.proofs.Pieces.RunPages.{first_run-none}
use Rattle.rht_ghost.proofs.Pieces.Holdings.{holding, knowing}
use Rattle.rht_ghost.proofs.Pieces.Locates.{first_passed, locate_step, LocateKnows, LocatedKnows}
use Rattle.rht_ghost.proofs.Pieces.OpenEntries.{known_entered, known_growing, open_on_way, since_on_way, entered_on_way}
use Rattle.rht_ghost.proofs.Pieces.Grows.{pages_grown, known_grown, table_of_grow, table_grown, grow_step}
use Rattle.rht_ghost.proofs.Pieces.Probes.{known_found, probed_by, ProbeKnows, probe_step}
use Rattle.rht_bind.proofs.BindKnowledge.{own, knows_of, at_home}
use Rattle.rht_bind.proofs.BindKnowledge as binds

module _ (env : Env) (mix : ℕ → ℕ → ℕ → ℕ) (c : ℕ) (port owner : ℕ) (once : Bool)
    (words : List ℕ) (G : Ghost) (all : length words ≡ words_in env.geometry)
    (whole : Whole env mix (mem env mix words) G) where
  abbrev M : Memory
  M = mem env mix words

  abbrev BindKnows : BindAt → Memory → Ghost → Type 0
  BindKnows = binds.BindKnows env mix c port owner once

  abbrev BindMoved : BindAt → BindAt × Next Reply → Type 0
  BindMoved = binds.BindMoved env mix c port owner once words G

  abbrev BindStep : BindAt → Type 0
  BindStep = binds.BindStep env mix c port owner once words G

  -- ---- its node

  -- a node was taken, and its words stored; or there was none
  node_made : (new : NewNodeModel) (r : NewNodeModel × Next (Option ℕ)) → r.0.key ≡ port
      → r.0.owner ≡ owner
      → (nodes.made_by (r.0.at, r.1) ≡ None → node_of_new new.at ≡ None)
      → SilentStep env mix c words G (new_node_plan new) (holds_outside (node_of_new new.at))
      (holds_outside (nodes.made_by (r.0.at, r.1)))
      (nodes.knowing env mix c held.holds_nothing Nowhere Unlocked (nodes.made_by (r.0.at, r.1))
      (nodes.known_made port owner (r.0.at, r.1)))
      → BindMoved (at.Filling new) (filled r.0 r.1)
  node_made new (next, Go) key own had step =
      answered-map env mix None (inl refl)
      (record { taken = λ node none some. refl; gone = λ node some none. absurd (let q = had none in cc) })
      (λ M' G' w k. record { knowing = k; fits = (key, own) }) step
  node_made new (next, Done None) key own had step =
      answered-map env mix (Some (plain NoNode))
      (learns env.config.kind c (calls.Bind port owner once) (node_of_new new.at)
      (owners env mix M G) (plain NoNode)
      (record {
        replied = record { reply = tt; owners = refl };
        tells = (λ none. refl, λ no_node. had refl);
      })
      refl (binds.refusal env mix c port owner once words G NoNode tt refl))
      (record { taken = λ node none some. absurd (cc); gone = λ node some none told. absurd (cc) })
      (λ M' G' w k. record { only = k.only; means = k.means }) step
  node_made new (next, Done (Some n)) key own had step =
      answered-map env mix None (inl refl)
      (record { taken = λ node none some. refl; gone = λ node some none. absurd (cc) })
      (λ M' G' w k. record { knowing = k; fits = tt }) step

  pub filling : (new : NewNodeModel)
      → let here = at.Filling new in
      IsBindAtIn env here → BindKnows here M G → BindStep here
  filling new is known =
      let r = new_node_after new (old_of words (new_node_plan new)) in
      let Made : ℕ → ℕ → Type 0 = λ key o. SilentStep env mix c words G (new_node_plan new)
      (holds_outside (node_of_new new.at)) (holds_outside (nodes.made_by (r.0.at, r.1)))
      (nodes.knowing env mix c held.holds_nothing Nowhere Unlocked (nodes.made_by (r.0.at, r.1))
      (nodes.known_made key o (r.0.at, r.1))) in
      let Knows : ℕ → ℕ → Type 0 = λ key o. nodes.knowing env mix c held.holds_nothing Nowhere Unlocked
      (node_of_new new.at) (nodes.known_at key o new.at) M G in
      let knows : Knows new.key new.owner = subst (λ key. Knows key new.owner) (sym known.fits.0)
      (subst (λ o. Knows port o) (sym known.fits.1) known.knowing) in
      let step : Made new.key new.owner =
      nodes.new_node_step env mix c held.holds_nothing Nowhere Unlocked words G all whole tt new is
      knows in
      node_made new r known.fits.0 known.fits.1
      (nodes.made_none new.at (old_of words (new_node_plan new)))
      (subst (λ key. Made key owner) known.fits.0 (subst (λ o. Made new.key o) known.fits.1 step))

  -- ---- the bucket is looked for

  -- what it knows on the way to a bucket whose page is missing
  abbrev on_way : Attempt → ℕ → ℕ → PlaceModel → Known
  on_way attempt table shape place =
      knows_of port owner (own port owner attempt.node) (OnWay port table shape place None) Unlocked

  -- where the bucket is missing the way goes on in the table behind, or a page is to be entered
  located_knows : (attempt : Attempt) (table shape : ℕ) (bucket : LocatedBucket) (M' : Memory) (G' : Ghost)
      → LocatedKnows env mix c (holds_node (Some attempt.node) None)
      (Some (own port owner attempt.node)) Unlocked port table shape bucket M' G'
      → BindKnows (at_bucket env port attempt table shape bucket) M' G'
  located_knows attempt table shape (buckets.At place) M' G' k =
      record { knowing = record { only = k.only; means = k.means }; fits = (refl, tt) }
  located_knows attempt table shape (buckets.Missing place (Some next)) M' G' k =
      record { knowing = record { only = k.only; means = k.means }; fits = tt }
  located_knows attempt table shape (buckets.Missing place None) M' G' k =
      record {
        knowing = subst (λ pages. Knowing env mix c (holds_table attempt.node None pages)
            (record (on_way attempt table shape place) { making = HasPages pages }) M' G')
            (sym (first_run-none env.geometry 1))
            (record {
              only = k.only;
              means = record {
                node = k.means.node;
                table = k.means.table;
                bucket = tt;
                making = λ p i. absurd i;
                work = tt;
              };
            });
        fits = refl;
      }

  located_holds : (attempt : Attempt) (table shape : ℕ) (bucket : LocatedBucket)
      → held_of_bind (at_bucket env port attempt table shape bucket) ≡ holds_node (Some attempt.node) None
  located_holds attempt table shape (buckets.At place) = refl
  located_holds attempt table shape (buckets.Missing place (Some next)) = refl
  located_holds attempt table shape (buckets.Missing place None) =
      ap (holds_table attempt.node None) (first_run-none env.geometry 1)

  -- the way to the bucket
  found_place : (attempt : Attempt) (locate : LocateModel) (r : LocateModel × Next Located)
      → SilentStep env mix c words G (locate_plan locate) (holds_node (Some attempt.node) None)
      (holds_node (Some attempt.node) None)
      (LocateKnows env mix c (holds_node (Some attempt.node) None)
      (Some (own port owner attempt.node)) Unlocked port r)
      → BindMoved (at.Locating attempt locate) (located env port attempt r.0 r.1, Go)
  found_place attempt locate (next, Go) step =
      answered-map env mix None (inl refl) (still_has refl)
      (λ M' G' w k. record { knowing = k; fits = tt }) step
  found_place attempt locate (next, Done there) step =
      rw (located_holds attempt next.table there.shape there.bucket)
      (answered-map env mix None (inl refl) (still_has refl)
      (λ M' G' w k. located_knows attempt next.table there.shape there.bucket M' G' k) step)

  pub beginning : (attempt : Attempt)
      → let here = at.CurrentTable attempt in
      IsBindAtIn env here → BindKnows here M G → BindStep here
  beginning attempt is known =
      reads env mix whole refl refl (inl refl) (record {
        knowing =
            plainly env mix known.knowing.only known.knowing.means.node
            (first_passed env mix c (holds_node (Some attempt.node) None)
            (Some (own port owner attempt.node)) Unlocked words G whole known.knowing.only.reads port) tt;
        fits = tt;
      })

  pub locating : (attempt : Attempt) (locate : LocateModel)
      → let here = at.Locating attempt locate in
      IsBindAtIn env here → BindKnows here M G → BindStep here
  locating attempt locate is known =
      found_place attempt locate
      (locate_after mix port locate (old_of words (locate_plan locate)))
      (locate_step env mix c (holds_node (Some attempt.node) None)
      (Some (own port owner attempt.node)) Unlocked words G whole port locate is.locate_in known.knowing)

  -- ---- a page is entered on the way

  -- and once the entry leads to a page
  abbrev behind_entry_of : ℕ → ℕ → PlaceModel → ℕ → KnownTable
  behind_entry_of table shape place page = known_entered port table shape (entered place page)

  abbrev table_growing : Attempt → ℕ → ℕ → PlaceModel → GrowAt → KnownTable
  table_growing attempt table shape place state =
      table_of_grow env mix c (holds_node (Some attempt.node) None) (on_way attempt table shape place)
      (OnWay port table shape place None) (behind_entry_of table shape place) state

  same_growing : (attempt : Attempt) (table shape : ℕ) (place : PlaceModel) (state : GrowAt)
      → table_growing attempt table shape place state ≡ known_growing port table shape place state
  same_growing attempt table shape place (grows.Taking take) = refl
  same_growing attempt table shape place (grows.Entering page) = refl
  same_growing attempt table shape place (grows.Giving there give) = refl

  -- what an operation that enters the page leads to, as the pieces have it
  abbrev EntryGrown : Attempt → ℕ → ℕ → PlaceModel → GrowModel → GrowAt × Next (Option ℕ) → Type 0
  EntryGrown attempt table shape place grow r =
      let h = holds_node (Some attempt.node) None in
      let k = on_way attempt table shape place in
      let t = table_grown env mix c h k (OnWay port table shape place None)
      (behind_entry_of table shape place) r in
      SilentStep env mix c words G (grow_plan grow) (holding env mix c h k None (pages_of_grow grow.at))
      (holding env mix c h k None (pages_grown r))
      (knowing env mix c h (record k { table = t }) None (pages_grown r) (known_grown r))

  -- behind the page the next entry is looked at, or the bucket is locked
  entered_knows : (attempt : Attempt) (table shape : ℕ) (start : Start PlaceModel ℕ) (M' : Memory)
      (G' : Ghost)
      → Knowing env mix c (holds_node (Some attempt.node) None)
      (knows_of port owner (own port owner attempt.node) (known_entered port table shape start) Unlocked)
      M' G'
      → BindKnows (behind_page env port attempt table shape start) M' G'
  entered_knows attempt table shape (starts.Running next) M' G' k =
      record { knowing = record { only = k.only; means = k.means }; fits = tt }
  entered_knows attempt table shape (starts.Done place) M' G' k =
      record { knowing = record { only = k.only; means = k.means }; fits = (refl, tt) }

  entered_holds : (attempt : Attempt) (table shape : ℕ) (start : Start PlaceModel ℕ)
      → held_of_bind (behind_page env port attempt table shape start) ≡ holds_node (Some attempt.node) None
  entered_holds attempt table shape (starts.Running next) = refl
  entered_holds attempt table shape (starts.Done place) = refl

  grown_next : (attempt : Attempt) (table shape : ℕ) (place : PlaceModel) (grow : GrowModel)
      (r : GrowAt × Next (Option ℕ))
      → grow.entry ≡ entry_place place → EntryGrown attempt table shape place grow r
      → BindMoved (at.Entering attempt table shape place grow)
      (grown env port attempt table shape place (record grow { at = r.0 }) r.1, Go)
  grown_next attempt table shape place grow (state, Go) there step =
      let next = at.Entering attempt table shape place (record grow { at = state }) in
      answered-map env mix None (inl refl) (still_has refl)
      (λ M' G' w k. record {
        knowing = record {
          only = k.only;
          means = record {
            node = k.means.node;
            table =
                subst (TableMeans env mix c G') (same_growing attempt table shape place state)
                k.means.table;
            bucket = tt;
            making = k.means.making;
            work = tt;
          };
        };
        fits = there;
      }) step
  grown_next attempt table shape place grow (state, Done None) there step =
      let n = attempt.node in
      let reply = NoTable (size_of (unpacked shape)) in
      answered-map env mix (Some (plain reply))
      (binds.refused env mix c port owner once words G n reply tt refl (λ e. cc) refl tt refl)
      (still_has refl)
      (λ M' G' w k. record { knowing = plainly env mix k.only k.means.node tt tt; fits = tt }) step
  grown_next attempt table shape place grow (state, Done (Some page)) there step =
      rw (entered_holds attempt table shape (entered place page))
      (answered-map env mix None (inl refl) (still_has refl)
      (λ M' G' w k. entered_knows attempt table shape (entered place page) M' G'
      (record { only = k.only; means = k.means })) step)

  pub entering : (attempt : Attempt) (table shape : ℕ) (place : PlaceModel) (grow : GrowModel)
      → let here = at.Entering attempt table shape place grow in
      IsBindAtIn env here → BindKnows here M G → BindStep here
  entering attempt table shape place grow is known =
      grown_next attempt table shape place grow
      (grow_after_at grow.geometry grow.at (old_of words (grow_plan grow))) known.fits
      (grow_step env mix c (holds_node (Some attempt.node) None)
      (on_way attempt table shape place) (OnWay port table shape place None)
      (behind_entry_of table shape place) words G all whole place.entry
      (open_on_way env mix M G whole port table shape place) (since_on_way env mix M G whole port table shape place)
      (λ M' G' page whole' on leads. entered_on_way env mix M' G' whole' port table shape place on
      is.place_in.geometry_same page leads)
      grow is.grow_in
      (known.fits ∙ ap (λ (g : Geometry). place_of g (PageWord place.entry)) is.place_in.geometry_same)
      (record {
        only = known.knowing.only;
        means = record {
          node = known.knowing.means.node;
          table =
              subst (TableMeans env mix c G) (sym (same_growing attempt table shape place grow.at))
              known.knowing.means.table;
          bucket = tt;
          making = known.knowing.means.making;
          work = tt;
        };
      }))

  -- ---- the walk along the locked chain

  -- its end: the first node of the port, or that there is none
  bound_knows : (kind : Kind) → env.config.kind ≡ kind → (claimed : Claimed) (first : ℕ)
      (before : Option ℕ) (M' : Memory) (G' : Ghost)
      → Knowing env mix c (holds_claimed claimed) (knows_of port owner (own port owner claimed.attempt.node)
      (at_home port owner claimed) (Found claimed.bucket.place claimed.bucket.word port first before)) M' G'
      → BindKnows (bound_already kind claimed first before) M' G'
  bound_knows Single single claimed first before M' G' k =
      let is = k.means.bucket in
      record {
        knowing = plainly env mix k.only k.means.node k.means.table (record {
          lock = is.standing.lock;
          there = rw is.standing.stands.split (in-middle first is.standing.stands.front
              is.standing.stands.rear);
          key_is = is.key_is;
        });
        fits = single;
      }
  bound_knows Listed listed claimed first before M' G' k = record { knowing = k; fits = listed }

  seen_knows : (claimed : Claimed) (found before : Option ℕ) (count : ℕ) (M' : Memory) (G' : Ghost)
      → Knowing env mix c (holds_claimed claimed) (knows_of port owner (own port owner claimed.attempt.node)
      (at_home port owner claimed) (known_found claimed.bucket.place claimed.bucket.word port before
      found)) M' G'
      → BindKnows (found_or_future env.config.kind claimed found before count) M' G'
  seen_knows claimed None before count M' G' k = record { knowing = k; fits = tt }
  seen_knows claimed (Some first) before count M' G' k =
      bound_knows env.config.kind refl claimed first before M' G' k

  bound_holds : (kind : Kind) (claimed : Claimed) (first : ℕ) (before : Option ℕ)
      → held_of_bind (bound_already kind claimed first before) ≡ holds_claimed claimed
  bound_holds Single claimed first before = refl
  bound_holds Listed claimed first before = refl

  seen_holds : (claimed : Claimed) (found before : Option ℕ) (count : ℕ)
      → held_of_bind (found_or_future env.config.kind claimed found before count) ≡ holds_claimed claimed
  seen_holds claimed None before count = refl
  seen_holds claimed (Some first) before count = bound_holds env.config.kind claimed first before

  walked : (attempt : Attempt) (table shape : ℕ) (probe : ProbeModel) (r : ProbeModel × Next Probed)
      → r.0.key ≡ port
      → SilentStep env mix c words G (probe_plan probe) (holds_node (Some attempt.node) (lock_of_probe probe.at))
      (holds_node (Some attempt.node) (probed_by (r.0.at, r.1)))
      (ProbeKnows env mix c (holds_node (Some attempt.node) None)
      (Some (own port owner attempt.node)) port table (Some shape) words G all whole (r.0.at, r.1))
      → BindMoved (at.Probing attempt table shape probe)
      (probed env.config.kind attempt table shape r.0 r.1, Go)
  walked attempt table shape probe (next, Go) key step =
      answered-map env mix None (inl refl) (still_has refl)
      (λ M' G' w k. record { knowing = k.0; fits = (key, k.1) }) step
  walked attempt table shape probe (next, Done end) key step =
      let claimed : Claimed =
      record { attempt = attempt; table = table; shape = shape; bucket = end.bucket } in
      rw (seen_holds claimed end.seen.found end.seen.before end.seen.length)
      (answered-map env mix None (inl refl) (still_has refl)
      (λ M' G' w k. seen_knows claimed end.seen.found end.seen.before end.seen.length M' G' k) step)

  pub probing : (attempt : Attempt) (table shape : ℕ) (probe : ProbeModel)
      → let here = at.Probing attempt table shape probe in
      IsBindAtIn env here → BindKnows here M G → BindStep here
  probing attempt table shape probe is known =
      walked attempt table shape probe
      (probe_after probe (old_of words (probe_plan probe))) known.fits.0
      (probe_step env mix c (holds_node (Some attempt.node) None)
      (Some (own port owner attempt.node)) port table
      (Some shape) words G all whole probe is.probe_in known.fits.0 known.fits.1 known.knowing)
