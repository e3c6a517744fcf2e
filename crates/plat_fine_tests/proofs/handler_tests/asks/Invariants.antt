use Rattle.plat_base.specs.Seen.{machine}
use Rattle.plat_handler.specs.HandlerSeen.{HandlesOn}
use Rattle.plat_fine_tests.proofs.handler_tests.asks.Given as goal

abbrev pub invariant-loop-step : goal.invariant-loop-step
invariant-loop-step l = HandlesOn (machine l.cfg) l.handler
