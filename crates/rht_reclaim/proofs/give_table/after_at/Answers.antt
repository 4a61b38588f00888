use Rattle.std.proofs.Common.{sym, subst}
use Rattle.rht_reclaim.specs.GiveTable.{top_seen, IsGiveTableAtIn}
use Rattle.rht_reclaim.specs.declared.give_table.GiveTableAt.TheVariants as at
use Rattle.rht_reclaim.proofs.GivesStay.{give_table_stays_at}
use Rattle.rht_reclaim.proofs.give_table.after_at.Goals as goal

pub returns-in-TopEntry-clause-at : goal.returns-in-TopEntry-clause-at
returns-in-TopEntry-clause-at c =
    let g = c.args.geometry in
    let shape = c.in-TopEntry.shape in
    let top = c.in-TopEntry.top in
    let here : IsGiveTableAtIn g (at.TopEntry shape top) = subst (IsGiveTableAtIn g) c.in-TopEntry.is c.requires in
    let stays = give_table_stays_at g (at.TopEntry shape top) c.args.old here in
    subst (IsGiveTableAtIn g) (sym c.top_seen.ensures)
    (subst (λ led. IsGiveTableAtIn g (top_seen shape top led)) (sym c.page_of.ensures) stays)

pub returns-in-GivePage-clause-at : goal.returns-in-GivePage-clause-at
returns-in-GivePage-clause-at c =
    let g = c.args.geometry in
    let state = at.GivePage c.in-GivePage.shape c.in-GivePage.top c.in-GivePage.page in
    let here : IsGiveTableAtIn g state = subst (IsGiveTableAtIn g) c.in-GivePage.is c.requires in
    subst (IsGiveTableAtIn g) (sym c.next_top.ensures) (give_table_stays_at g state c.args.old here)
