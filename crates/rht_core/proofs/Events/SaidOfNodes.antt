-- What a release or a rebind says of the node that it has taken out: its answer says that there is one exactly where it hands one out as it
-- ends. No other call takes one out.
use Rattle.std.specs.Prelude.{IfSome}
use Rattle.std.proofs.Common.{◌≡◌, ℕ, ◌+◌, [], ◌∷◌, ◌++◌, length, length-append, Bool, true, false, arith, Option, Some, None, refl, sym, ap, ◌∙◌, subst}
use Rattle.rht_words.specs.declared.env.Env.{Env}
use Rattle.rht_words.specs.declared.geometry.Geometry.{Geometry}
use Rattle.rht_words.specs.declared.machine.Next.{Next}
use Rattle.rht_words.specs.declared.machine.Next.TheVariants.{Go, Done}
use Rattle.rht_words.proofs.Members.{one_if}
use Rattle.rht_arena.specs.NewNode.{NewNodeModel, new_node_after}
use Rattle.rht_chain.specs.Relink.{RelinkModel, relink_after}
use Rattle.rht_model.specs.declared.history.Call.{Call}
use Rattle.rht_model.specs.declared.history.Call.TheVariants.{Release, Rebind, Tidy}
use Rattle.rht_model.specs.declared.history.Reply.{Reply}
use Rattle.rht_model.specs.declared.history.Reply.TheVariants.{Released, Rebound, Absent, NoNode}
use Rattle.rht_model.specs.Endings.{Ending, plain_ending}
use Rattle.rht_model.specs.Replies.{takes_out, IsReplyTo}
use Rattle.rht_release.specs.declared.found_port.FoundPort.{FoundPort}
use Rattle.rht_release.specs.Seek.{SeekModel, seek_after}
use Rattle.rht_release.specs.ListSearch.{search_after}
use Rattle.rht_release.specs.declared.list_search.ListPlace.{ListPlace}
use Rattle.rht_release.specs.declared.list_search.ListSearch.{ListSearch}
use Rattle.rht_release.specs.Release as release
use Rattle.rht_release.specs.declared.release.ReleaseAt.{ReleaseAt}
use Rattle.rht_release.specs.declared.release.ReleaseAt.TheVariants as releasing
use Rattle.rht_release.specs.Rebind as rebind
use Rattle.rht_release.specs.declared.rebind.RebindAt.{RebindAt}
use Rattle.rht_release.specs.declared.rebind.RebindAt.TheVariants as rebinding
use Rattle.rht_release.specs.declared.rebind.RebindEnd.TheVariants as ends_at
use Rattle.rht_grace.specs.Batch.{BatchModel}
use Rattle.rht_callers.specs.declared.local.Doing.{Doing}
use Rattle.rht_callers.specs.declared.local.Doing.TheVariants.{Idle, Finding, Binding, Listing, Releasing, Rebinding, Working, Counting, Tidying, Walking}
use Rattle.rht_callers.specs.Batches.{nodes_in, node_out, IsBatchIn, with_out, out_of}
use Rattle.rht_callers.specs.Locals.{fresh, does_nothing}
use Rattle.rht_core.specs.Jobs.{Job, finds, binds, lists, releases, rebinds, works, tidies, walks, counts, call_of, first_job, job_of, job_next, job_after, node_ending, told, held_of, IsFirstJob}
use Rattle.rht_core.proofs.Events.JobsOfCallers.{first_tidy-so, same_call, first-of}
use Rattle.rht_core.proofs.Events.TakenOut.{taken_with}
use Rattle.rht_ghost.proofs.Theory.Answering.{outs_of, IsReplied}

-- how many nodes the call in progress has taken out, by what is known of its answer
abbrev pub outs_with : Option Job → ℕ
outs_with None = 0
outs_with (Some job) = outs_of (held_of job).answer

-- one where there is a node
abbrev pub many_of : Option ℕ → ℕ
many_of None = 0
many_of (Some n) = 1

-- a release that ends says whether it has taken a node out
abbrev pub SaysTaken : Job → Type 0
SaysTaken (releases port owner (releasing.Closing reply removed)) = one_if (takes_out reply) ≡ many_of removed
SaysTaken _ = Unit {0}

abbrev pub AnsweredWith : Option Job → Type 0
AnsweredWith None = Unit {0}
AnsweredWith (Some job) = IfSome (held_of job).answer (IsReplied (call_of job)) × SaysTaken job

-- ---- what a reply says of a node that was taken out

-- only releases and rebinds take one out
abbrev takes_nodes : Call → Bool
takes_nodes (Release port owner) = true
takes_nodes (Rebind port owner new) = true
takes_nodes _ = false

released_by : (call : Call) (kick : Bool) → takes_nodes call ≡ false → IsReplyTo call (Released kick) → ⊥
released_by (Release port owner) kick none is = absurd (cc)
released_by (Rebind port owner new) kick none is = absurd (cc)
released_by _ kick none is = is

rebound_by : (call : Call) → takes_nodes call ≡ false → IsReplyTo call Rebound → ⊥
rebound_by (Release port owner) none is = absurd (cc)
rebound_by (Rebind port owner new) none is = absurd (cc)
rebound_by _ none is = is

takes_none : (call : Call) (reply : Reply) → takes_nodes call ≡ false → IsReplyTo call reply → one_if (takes_out reply) ≡ 0
takes_none call (Released kick) none is = absurd (released_by call kick none is)
takes_none call Rebound none is = absurd (rebound_by call none is)
takes_none call _ none is = refl

-- a release says so as it comes to its end
sought-says : (port owner : ℕ) (seek : SeekModel) (next : Next (Option FoundPort)) → SaysTaken (releases port owner (release.sought seek next))
sought-says port owner seek Go = tt
sought-says port owner seek (Done None) = refl
sought-says port owner seek (Done (Some found)) = tt

searched-says : (port owner : ℕ) (found : FoundPort) (search : ListSearch) (next : Next (Option ListPlace))
    → SaysTaken (releases port owner (release.searched found search next))
searched-says port owner found search Go = tt
searched-says port owner found search (Done None) = tt
searched-says port owner found search (Done (Some place)) = tt

cut-says : (port owner : ℕ) (g : Geometry) (found : FoundPort) (node link : ℕ) (before : Option ℕ)
    → SaysTaken (releases port owner (release.cut_or_chain g found node link before))
cut-says port owner g found node link None = tt
cut-says port owner g found node link (Some before) = tt

unlink-says : (port owner : ℕ) (g : Geometry) (found : FoundPort) (link : ℕ) (second : Option ℕ)
    → SaysTaken (releases port owner (release.unlink_or_promote g found link second))
unlink-says port owner g found link None = tt
unlink-says port owner g found link (Some second) = tt

promoted-says : (port owner : ℕ) (found : FoundPort) (relink : RelinkModel) (next : Next (Unit {0}))
    → SaysTaken (releases port owner (release.promoted found relink next))
promoted-says port owner found relink Go = tt
promoted-says port owner found relink (Done done) = refl

unlinked-says : (port owner : ℕ) (found : FoundPort) (relink : RelinkModel) (next : Next (Unit {0}))
    → SaysTaken (releases port owner (release.unlinked found relink next))
unlinked-says port owner found relink Go = tt
unlinked-says port owner found relink (Done done) = tt

removed-says : (removed : Option ℕ) → one_if (takes_out (release.removed_reply removed)) ≡ many_of removed
removed-says None = refl
removed-says (Some node) = refl

release-says : (mix : ℕ → ℕ → ℕ → ℕ) (env : Env) (port owner : ℕ) (state : ReleaseAt) (old : ℕ)
    → SaysTaken (releases port owner state)
    → SaysTaken (releases port owner (release.after_at mix env port owner state old).0)
release-says mix env port owner releasing.Opening old says = tt
release-says mix env port owner (releasing.Seeking seek) old says =
    sought-says port owner (seek_after mix port seek old).0 (seek_after mix port seek old).1
release-says mix env port owner (releasing.Searching found search) old says =
    let next = search_after env.geometry owner search old in searched-says port owner found next.0 next.1
release-says mix env port owner (releasing.LinkBehind found node before) old says = cut-says port owner env.geometry found node old before
release-says mix env port owner (releasing.CuttingOut found node before link) old says = tt
release-says mix env port owner (releasing.ChainLink found second) old says = unlink-says port owner env.geometry found old second
release-says mix env port owner (releasing.SecondLink found second link) old says = tt
release-says mix env port owner (releasing.Promoting found relink) old says =
    promoted-says port owner found (relink_after relink).0 (relink_after relink).1
release-says mix env port owner (releasing.Unlinking found relink) old says =
    unlinked-says port owner found (relink_after relink).0 (relink_after relink).1
release-says mix env port owner (releasing.Lowering node shape) old says = refl
release-says mix env port owner (releasing.Unlocking table unlock removed) old says = removed-says removed
release-says mix env port owner (releasing.Closing reply removed) old says = says

-- no other job says anything of it
other-says : (job : Job) → takes_nodes (call_of job) ≡ false → SaysTaken job
other-says (releases port owner state) none = absurd (cc)
other-says _ none = tt

pub left-says : (mix : ℕ → ℕ → ℕ → ℕ) (env : Env) (job : Job) (old : ℕ) → SaysTaken job
    → SaysTaken (job_after mix env job old).0
left-says mix env (releases port owner state) old says =
    go (release.after_at mix env port owner state old) (release-says mix env port owner state old says)
  where
    go : (r : ReleaseAt × Next (Reply × Option ℕ)) → SaysTaken (releases port owner r.0)
        → SaysTaken (job_next (releases port owner) node_ending r).0
    go (at, Go) says = says
    go (at, Done end) says = says
left-says mix env (rebinds port owner new state) old says = go (rebind.after_at mix env port owner state old)
  where
    go : (r : RebindAt × Next (Reply × Option ℕ)) → SaysTaken (job_next (rebinds port owner new) node_ending r).0
    go (at, Go) = tt
    go (at, Done end) = tt
left-says mix env (finds port state) old says =
    other-says (job_after mix env (finds port state) old).0 (ap takes_nodes (same_call mix env (finds port state) old))
left-says mix env (binds port owner once state) old says =
    other-says (job_after mix env (binds port owner once state) old).0 (ap takes_nodes (same_call mix env (binds port owner once state) old))
left-says mix env (lists port room state) old says =
    other-says (job_after mix env (lists port room state) old).0 (ap takes_nodes (same_call mix env (lists port room state) old))
left-says mix env (works state) old says =
    other-says (job_after mix env (works state) old).0 (ap takes_nodes (same_call mix env (works state) old))
left-says mix env (tidies batch state) old says =
    other-says (job_after mix env (tidies batch state) old).0 (ap takes_nodes (same_call mix env (tidies batch state) old))
left-says mix env (walks from limit room state) old says =
    other-says (job_after mix env (walks from limit room state) old).0
    (ap takes_nodes (same_call mix env (walks from limit room state) old))
left-says mix env counts old says = tt

-- ---- the end of a call

-- a release or a rebind that ends hands out a node where it says so
one-ending : (reply : Reply) (removed : Option ℕ) (ending : Ending) → one_if (takes_out reply) ≡ many_of removed
    → Some (plain_ending reply) ≡ Some ending → one_if (takes_out ending.answer.reply) ≡ many_of removed
one-ending reply removed ending says is =
    let same : plain_ending reply ≡ ending = cc in ap (λ (e : Ending). one_if (takes_out e.answer.reply)) (sym same) ∙ says

release_ended : (mix : ℕ → ℕ → ℕ → ℕ) (own env : Env) (port owner : ℕ) (state : ReleaseAt) (old : ℕ) (ending : Ending)
    → SaysTaken (releases port owner state)
    → (told (job_next (releases port owner) node_ending (release.after_at mix env port owner state old))).1 ≡ Some ending
    → one_if (takes_out ending.answer.reply) ≡ many_of (node_out (release.after_at mix own port owner state old).1)
release_ended mix own env port owner (releasing.Closing reply removed) old ending says is = one-ending reply removed ending says is
release_ended mix own env port owner _ old ending says is = absurd (cc)

filled_ended : (port owner new : ℕ) (fresh : NewNodeModel) (next : Next (Option ℕ)) (ending : Ending)
    → (told (job_next (rebinds port owner new) node_ending (rebind.filled fresh next))).1 ≡ Some ending
    → one_if (takes_out ending.answer.reply) ≡ many_of (node_out (rebind.filled fresh next).1)
filled_ended port owner new fresh Go ending is = absurd (cc)
filled_ended port owner new fresh (Done None) ending is = one-ending NoNode None ending refl is
filled_ended port owner new fresh (Done (Some node)) ending is = absurd (cc)

rebind_ended : (mix : ℕ → ℕ → ℕ → ℕ) (own env : Env) (port owner new : ℕ) (state : RebindAt) (old : ℕ) (ending : Ending)
    → (told (job_next (rebinds port owner new) node_ending (rebind.after_at mix env port owner state old))).1 ≡ Some ending
    → one_if (takes_out ending.answer.reply) ≡ many_of (node_out (rebind.after_at mix own port owner state old).1)
rebind_ended mix own env port owner new (rebinding.Filling fresh) old ending is =
    filled_ended port owner new (new_node_after fresh old).0 (new_node_after fresh old).1 ending is
rebind_ended mix own env port owner new (rebinding.Closing (ends_at.Rebound removed)) old ending is = one-ending Rebound (Some removed) ending refl is
rebind_ended mix own env port owner new (rebinding.Closing (ends_at.Absent node)) old ending is = absurd (cc)
rebind_ended mix own env port owner new (rebinding.Giving give) old ending is = one-ending Absent None ending refl is
rebind_ended mix own env port owner new _ old ending is = absurd (cc)

pub ended_says : {L : Type 0} (mix : ℕ → ℕ → ℕ → ℕ) (env : Env) (doing : Doing L) (job : Job) (old : ℕ) (ending : Ending)
    → job_of doing ≡ Some job → SaysTaken job → (told (job_after mix env job old)).1 ≡ Some ending
    → IsReplied (call_of job) ending.answer
    → one_if (takes_out ending.answer.reply) ≡ many_of (out_of mix doing old)
ended_says mix env Idle job old ending is says end replied = absurd (cc)
ended_says mix env (Releasing m) job old ending is says end replied =
    let same : job ≡ releases m.port m.owner m.at = cc in
    release_ended mix m.env env m.port m.owner m.at old ending (subst SaysTaken same says)
    (subst (λ (j : Job). (told (job_after mix env j old)).1 ≡ Some ending) same end)
ended_says mix env (Rebinding m) job old ending is says end replied =
    let same : job ≡ rebinds m.port m.owner m.new_owner m.at = cc in
    rebind_ended mix m.env env m.port m.owner m.new_owner m.at old ending
    (subst (λ (j : Job). (told (job_after mix env j old)).1 ≡ Some ending) same end)
ended_says mix env (Finding m) job old ending is says end replied =
    let same : finds m.port m.at ≡ job = cc in takes_none (call_of job) ending.answer.reply (sym (ap (λ j. takes_nodes (call_of j)) same)) replied.reply
ended_says mix env (Binding m) job old ending is says end replied =
    let same : binds m.port m.owner m.once m.at ≡ job = cc in
    takes_none (call_of job) ending.answer.reply (sym (ap (λ j. takes_nodes (call_of j)) same)) replied.reply
ended_says mix env (Listing m) job old ending is says end replied =
    let same : lists m.port m.room m.at ≡ job = cc in
    takes_none (call_of job) ending.answer.reply (sym (ap (λ j. takes_nodes (call_of j)) same)) replied.reply
ended_says mix env (Working m) job old ending is says end replied =
    let same : works m.at ≡ job = cc in takes_none (call_of job) ending.answer.reply (sym (ap (λ j. takes_nodes (call_of j)) same)) replied.reply
ended_says mix env (Walking m) job old ending is says end replied =
    let same : walks m.from m.limit m.room m.at ≡ job = cc in
    takes_none (call_of job) ending.answer.reply (sym (ap (λ j. takes_nodes (call_of j)) same)) replied.reply
ended_says mix env (Tidying m) job old ending is says end replied =
    let same : tidies m.batch m.at ≡ job = cc in
    takes_none (call_of job) ending.answer.reply (sym (ap (λ j. takes_nodes (call_of j)) same)) replied.reply
ended_says mix env (Counting m) job old ending is says end replied =
    let same : counts ≡ job = cc in takes_none (call_of job) ending.answer.reply (sym (ap (λ j. takes_nodes (call_of j)) same)) replied.reply

-- and with it the batch is longer by one
pub longer : (env : Env) (batch : Option BatchModel) (removed : Option ℕ) → IsBatchIn env batch
    → length (nodes_in (with_out batch removed)) ≡ length (nodes_in batch) + many_of removed
longer env None removed is = absurd is
longer env (Some batch) None is = omega arith
longer env (Some batch) (Some node) is =
    let whole = length-append (batch.fresh ++ node ∷ []) batch.waiting in
    let fresh = length-append batch.fresh (node ∷ []) in
    let both = length-append batch.fresh batch.waiting in
    omega (arith, whole, fresh, both)

-- a call says nothing of a node at its beginning
first_says : (env : Env) (call : Call) (batch : Option BatchModel) (start : ℕ) → IfSome (first_job env batch call start) SaysTaken
first_says env Tidy batch start = first_tidy-so SaysTaken batch (λ own. tt)
first_says env _ batch start = tt

pub first-says : (env : Env) (call : Call) (job : Job) → IsFirstJob env call job → SaysTaken job
first-says env call job is = first-of SaysTaken env call job (first_says env call) is

pub outs-idle : {L : Type 0} (doing : Doing L) → does_nothing doing ≡ true → outs_with (job_of doing) ≡ 0
outs-idle Idle idle = refl
outs-idle _ idle = absurd (cc)

-- and who is in no call has taken none
pub untaken-idle : {L : Type 0} (doing : Doing L) → does_nothing doing ≡ true → taken_with (job_of doing) ≡ None
untaken-idle Idle idle = refl
untaken-idle _ idle = absurd (cc)
