use Rattle.plat_table.proofs.riders.Rider.step.Given as goal

abbrev pub ghosts-make_event : goal.ghosts-make_event
ghosts-make_event g a = record { at = a.at }
