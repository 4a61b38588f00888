use Rattle.std.proofs.Common.{◌≡◌, sym, ◌∙◌, subst}
use Rattle.rht_core.specs.Closing.{IsListable}
use Rattle.rht_core.proofs.Meaning.ListableWords.{run_listable}
use Rattle.rht_run.proofs.table.Table.close_in.Goals as goal

pub closed-requires-clause-listable : goal.closed-requires-clause-listable
closed-requires-clause-listable g c =
    let env = c.args.self.env in
    let last = c.end-laid.ensures.end in
    let read : c.as_slice.result.now ≡ last.words =
    c.as_slice.ensures.items ∙ c.read_words.ensures last.words last.lie (last.count ∙ sym c.words.ensures.count) in
    subst (IsListable env.geometry) (sym (read ∙ sym last.end.words_are))
    (run_listable g.row.M.Denot g.M.Mix.mix_of env last.end.events last.end.admitted)
