use Rattle.std.proofs.Common.{◌+◌, ◌-◌, ◌*◌, length}
use Rattle.plat_threads.proofs.running.+riders.Given as goal

abbrev pub decreases-run_both-join_mut+arg2 : goal.decreases-run_both-join_mut+arg2
decreases-run_both-join_mut+arg2 g l = 4 * length l.low.now.crew + 1

abbrev pub decreases-run_both-join_mut+arg3 : goal.decreases-run_both-join_mut+arg3
decreases-run_both-join_mut+arg3 g l = 4 * length l.high.now.crew + 1

abbrev pub decreases-run_all : goal.decreases-run_all
decreases-run_all g l = 4 * length l.rider.now.crew

abbrev pub decreases-run_both : goal.decreases-run_both
decreases-run_both g l = 4 * (length l.low.now.crew + length l.high.now.crew) - 1
