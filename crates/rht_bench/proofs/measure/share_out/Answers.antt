use Rattle.std.proofs.Common.{[], ◌∷◌, ◌++◌}
use Rattle.std.specs.Prelude.{Some}
use Rattle.std.proofs.lemmas.List.Elements.{All-nil, All-same, All-pop, All-push}
use Rattle.rht_bench.specs.Ready.{IsReady}
use Rattle.rht_bench.specs.Jobs.{IsReadyJob}
use Rattle.rht_bench.proofs.measure.share_out.Goals as goal

pub loop-pass-init : goal.loop-pass-init
loop-pass-init g c =
    let ready = IsReadyJob g.M.Mix.mix_of c.args.table.now in
    (c.requires, All-same ready c.new-jobs.result.items [] c.new-jobs.ensures.items (All-nil ready))

pub prepared-requires : goal.prepared-requires
prepared-requires g c =
    (All-pop (IsReady g.M.Mix.mix_of c.args.table.now) c.loop-pass.passes.items c.pop.new.self.items (Some c.in-Some.pass)
    c.in-Some.ensures.items c.loop-pass.invariant.0).1

pub loop-pass-preserved : goal.loop-pass-preserved
loop-pass-preserved g c =
    let mix = g.M.Mix.mix_of in
    let t = c.args.table.now in
    let left = All-pop (IsReady mix t) c.loop-pass.passes.items c.pop.new.self.items (Some c.in-Some.pass) c.in-Some.ensures.items
    c.loop-pass.invariant.0 in (
      left.0,
      All-same (IsReadyJob mix t) c.push.new.self.items (c.loop-pass.jobs.items ++ c.prepared.result ∷ [])
          c.in_ok-push.ensures.items
          (All-push (IsReadyJob mix t) c.loop-pass.jobs.items c.prepared.result c.loop-pass.invariant.1 c.prepared.ensures),
    )
