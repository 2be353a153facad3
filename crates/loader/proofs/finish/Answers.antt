-- `loader::finish` meets its contract.
-- Assumes nothing.
use borrow.Author.Rules.{rules}
use Rattle.loader.proofs.Batching.{refusal-keeps, end-holds, end-room, end-fits, ends}
use Rattle.loader.proofs.finish.Goals as goal

pub returns-in_err-admit : goal.returns-in_err-admit
returns-in_err-admit g c = refusal-keeps _ _ _ _ _ _ _ _ _ c.from_residual.ensures.1 (rw (← c.of.ensures, ← c.room.ensures) c.in_err-admit.ensures.number)

pub end_file-batch-requires-clause-room : goal.end_file-batch-requires-clause-room
end_file-batch-requires-clause-room g c = end-room g.T.Slot.entries g.T.Slot.behind _ _ c.args.report.now c.args.state.now (rw (← c.room.ensures) c.in_ok-admit.ensures.number)

pub end_file-batch-requires-clause-holds : goal.end_file-batch-requires-clause-holds
end_file-batch-requires-clause-holds g c = end-holds g.T.Slot.entries g.T.Slot.behind c.of.result.registry.now c.args.table.now c.args.report.now c.args.state.now (rw (← c.room.ensures) c.in_ok-admit.ensures.number) c.admit.ensures.kept

pub put-requires : goal.put-requires
put-requires g c = end-fits g.T.Slot.entries g.T.Slot.behind c.of.result.registry.now c.args.table.now c.args.report.now c.args.state.now (rw (← c.room.ensures) c.in_ok-admit.ensures.number) _ _ c.end_file-batch.ensures

pub returns : goal.returns
returns g c =
    rw (← c.of.ensures, c.count.ensures.0)
    (ends g.T.Slot.entries g.T.Slot.behind c.of.result.registry.now c.args.table.now c.args.report.now c.args.state.now (rw (← c.room.ensures) c.in_ok-admit.ensures.number) _ _ c.end_file-batch.ensures
    _ _ c.put.ensures.entered c.put.ensures.behind c.fresh.ensures (search rules))
