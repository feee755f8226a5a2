use Rattle.sv_workload.proofs.longs.+long_in.Given as goal

abbrev pub decreases-long_in : goal.decreases-long_in
decreases-long_in l = l.count
