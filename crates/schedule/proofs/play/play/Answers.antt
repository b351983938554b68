use Rattle.std.proofs.Common.{rules}
use Rattle.schedule.proofs.Calling.{played_in_lem, run_lawful, run_steady}
use Rattle.schedule.proofs.play.play.Goals as goal

pub returns-in_err-run-clause-lawful : goal.returns-in_err-run-clause-lawful
returns-in_err-run-clause-lawful g c = search (rules, run_lawful)

pub returns-clause-lawful : goal.returns-clause-lawful
returns-clause-lawful g c = search (rules, run_lawful)

pub returns-clause-does : goal.returns-clause-does
returns-clause-does g c = played_in_lem _ _ _ _ _ _ _ c.in_ok-room.ensures _ c.in_ok-run.ensures.does

pub returns-clause-steady : goal.returns-clause-steady
returns-clause-steady g c = run_steady c.args.plan _ g.S.Sequencer.ordered c.args.capacity c.args.producers _ _ _ _ c.in_ok-room.ensures _ _ _ c.in_ok-run.ensures.does
