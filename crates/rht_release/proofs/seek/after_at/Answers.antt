-- Where a probe ends, what it has found is the table's: that is a case of the lemma on all states.
use Rattle.std.proofs.Common.{sym, subst}
use Rattle.rht_chain.specs.Probe.{probe_after}
use Rattle.rht_release.specs.Seek.{probed, IsSeekAtIn, IsSeekEndIn}
use Rattle.rht_release.specs.declared.seek.SeekAt.TheVariants.{Probing}
use Rattle.rht_release.proofs.SeekStays.{seek_stays_at}
use Rattle.rht_release.proofs.seek.after_at.Goals as goal

pub returns-in-Probing-clause-found : goal.returns-in-Probing-clause-found
returns-in-Probing-clause-found g c =
    let ended = probe_after c.in-Probing.probe c.args.old in
    let stays = seek_stays_at (λ port net seed. 0) c.args.geometry c.args.port
    (Probing c.in-Probing.table c.in-Probing.shape c.in-Probing.probe) c.args.old
    (subst (λ at. IsSeekAtIn c.args.geometry at) c.in-Probing.is c.requires) c.ranges.old.fits in
    subst (λ next. IsSeekEndIn c.args.geometry next.1)
    {x = probed c.in-Probing.table c.in-Probing.shape ended.0 ended.1} (sym c.probed.ensures) stays.end_in
